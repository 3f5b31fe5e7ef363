use Rattle.arcstr_block.proofs.Names.{◌≡◌, join_by, take}
use Rattle.arcstr_block.proofs.joining.append_joined.Given as goal

-- the texts so far, joined
abbrev pub invariant-loop-i : goal.invariant-loop-i
invariant-loop-i g l = (l.draft.text ≡ join_by g.S.AsStr.text l.separator (take l.i l.texts)) × (l.draft.capacity ≡ l.fn.draft.capacity)
