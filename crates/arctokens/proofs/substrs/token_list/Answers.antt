use Rattle.std.proofs.Common.{ℕ, List, sym, subst, refl, ◌∙◌}
use Rattle.std.specs.Str.{IsUtf8}
use Rattle.arcstr.specs.Substr.{slice_of}
use Rattle.arctokens.specs.Runs.{IsFirstWord}
use Rattle.arctokens.specs.SliceLists.{slices_in}
use Rattle.arctokens.proofs.SliceLists.{slices_in-none, slices_in-push}
use Rattle.arctokens.proofs.TextWords.{AreTokensBefore, AreTokensBefore-start, AreTokensBefore-push}
use Rattle.arctokens.proofs.substrs.token_list.Goals as goal

pub loop-word-init : goal.loop-word-init
loop-word-init g c =
    let utf8 = subst IsUtf8 c.as_str-whole.ensures c.as_str-whole.utf8 in
    record {
      same = c.new-list.ensures.text ∙ c.clone.ensures;
      tokens =
          subst (AreTokensBefore c.args.text.now 0) (sym (slices_in-none c.new-list.result c.new-list.ensures.none))
          (AreTokensBefore-start c.args.text.now utf8);
    }

pub loop-word-preserved : goal.loop-word-preserved
loop-word-preserved g c =
    let text = c.args.text.now in
    let word = c.in-Some.word in
    let list = c.loop-word.list in
    let pushed = c.push.new.self in
    let before = c.loop-word.invariant in
    let utf8 = subst IsUtf8 c.as_str-whole.ensures c.as_str-whole.utf8 in
    let first = subst (λ (l : List ℕ). IsFirstWord l c.loop-word.from word.start word.end) c.as_str-whole.ensures c.in-Some.ensures.first in
    record {
      same = c.push.ensures.text ∙ before.same;
      tokens =
          AreTokensBefore-push text text c.loop-word.from word.start word.end (slices_in list) (slices_in pushed) (slice_of text word.start word.end)
          utf8 before.tokens first (slices_in-push text list pushed word.start word.end before.same c.push.ensures.text c.in_ok-push.ensures.pushed) refl refl;
    }
