-- The slices show the views so far, and the views to come stand in the text.
use Rattle.arcstr.proofs.SliceLists.{ShowSoFar}
use Rattle.arcstr.proofs.parts.list_slices.Given as goal

abbrev pub invariant-loop-view : goal.invariant-loop-view
invariant-loop-view g l = (goal.iterator-loop-view g).can_next l.view-iterator
    × (goal.iterator-loop-view g).is_finite l.view-iterator
    × ShowSoFar g.I.Iterator.next_gives (g.T.SlicedAt.stands l.text) (g.T.SlicedAt.has_slice l.text) l.yielded l.view-iterator l.slices.items
