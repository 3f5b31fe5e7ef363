-- The loop lists the slices of the views.
use Rattle.arcstr.proofs.SliceLists.{gave_first, next_stands, shows_more}
use Rattle.arcstr.proofs.parts.list_slices.Goals as goal

pub slice_at-requires : goal.slice_at-requires
slice_at-requires g c =
    next_stands g.I.Iterator.next_gives (g.T.SlicedAt.stands c.args.text.now) (g.T.SlicedAt.has_slice c.args.text.now) c.loop-view.view-iterator
    c.next.new.self c.in-Some.view c.in-Some.ensures.steps c.loop-view.invariant.2.stand

pub loop-view-preserved : goal.loop-view-preserved
loop-view-preserved g c =
    let goes = c.in-Some.ensures.goes.on c.loop-view.invariant.1 in (
      goes.0,
      goes.1,
      shows_more g.I.Iterator.next_gives (g.T.SlicedAt.stands c.args.text.now) (g.T.SlicedAt.has_slice c.args.text.now) c.loop-view.view-iterator
          c.next.new.self c.in-Some.view c.in-Some.ensures.steps c.loop-view.invariant.2.stand c.loop-view.yielded c.loop-view.slices.items
          c.push.new.self.items c.slice_at.result c.loop-view.invariant.2.each c.slice_at.ensures c.in_ok-push.ensures.items,
    )

pub returns-in_err-push-clause-refused : goal.returns-in_err-push-clause-refused
returns-in_err-push-clause-refused g c = λ failed.
    gave_first g.I.Iterator.next_gives c.loop-view.view-iterator c.next.new.self c.in-Some.view c.in-Some.ensures.steps c.args.views
    c.into_iter-view-iterator.result c.loop-view.yielded c.into_iter-view-iterator.ensures.into_iter_gives c.loop-view.yielded_by
