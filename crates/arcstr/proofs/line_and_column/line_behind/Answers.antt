-- The loop passes the lines one by one, up to the last.
use Rattle.std.proofs.Common.{rules, ◌≡◌, ℕ, ◌+◌, List, length, map, sym, ap, ◌∙◌, arith}
use Rattle.std.proofs.lemmas.Str.{chars_from_encodes}
use Rattle.std.specs.Char.{is_newline}
use Rattle.std.specs.Str.{chars}
use Rattle.arcstr_range.specs.Pieces.{texts_between}
use Rattle.arcstr_range.specs.View.{View}
use Rattle.arcstr.proofs.LinesBefore.{all_passed, none_yet, one_more}
use Rattle.arcstr.proofs.line_and_column.line_behind.Goals as goal

pub loop-part-init : goal.loop-part-init
loop-part-init c =
    let texts : List View → List (List ℕ) = map (λ view. view.text) in
    let whole = ap (λ (view : View). texts_between is_newline view.text) (sym c.whole.ensures.value) in
    let parts = ap texts (sym c.into_iter-part-iterator.ensures.into_iter_gives) in (
      tt,
      tt,
      c.utf8.before,
      omega (arith, c.split-part-items.ensures.fits, ap length c.into_iter-part-iterator.ensures.into_iter_gives),
      none_yet _ _ _ (whole ∙ sym c.split-part-items.ensures.texts ∙ parts),
    )

pub loop-part-preserved : goal.loop-part-preserved
loop-part-preserved c =
    let steps = c.in-Some.ensures.steps in (
      tt,
      tt,
      c.text-own.utf8,
      omega (arith, c.loop-part.invariant.3, ap length steps),
      one_more _ _ _ _ _ _ (cc) c.loop-part.invariant.4,
    )

pub returns : goal.returns
returns c =
    let texts : List View → List (List ℕ) = map (λ view. view.text) in
    let count : c.count.result ≡ length (chars c.loop-part.own.now) = search (rules, chars_from_encodes) in
    all_passed _ _ _ _ (ap texts c.in-None.ensures.steps.0) (ap (λ n. n + 1) count) c.loop-part.invariant.4
