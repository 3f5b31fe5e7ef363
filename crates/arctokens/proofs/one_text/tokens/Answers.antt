use Rattle.std.proofs.Common.{ℕ, List, sym, subst}
use Rattle.std.specs.Str.{IsUtf8}
use Rattle.arctokens.specs.Runs.{IsFirstWord}
use Rattle.arctokens.proofs.TextWords.{AreTokensBefore, AreTokensBefore-start, AreTokensBefore-push}
use Rattle.arctokens.proofs.one_text.tokens.Goals as goal

pub loop-word-init : goal.loop-word-init
loop-word-init g c =
    let utf8 = subst IsUtf8 c.as_str-whole.ensures c.as_str-whole.utf8 in
    subst (AreTokensBefore c.args.text.now 0) (sym c.new-tokens.ensures.items) (AreTokensBefore-start c.args.text.now utf8)

pub loop-word-preserved : goal.loop-word-preserved
loop-word-preserved g c =
    let text = c.args.text.now in
    let word = c.in-Some.word in
    let utf8 = subst IsUtf8 c.as_str-whole.ensures c.as_str-whole.utf8 in
    let first = subst (λ (l : List ℕ). IsFirstWord l c.loop-word.from word.start word.end) c.as_str-whole.ensures c.in-Some.ensures.first in
    AreTokensBefore-push text c.clone.result c.loop-word.from word.start word.end c.loop-word.tokens.items c.push.new.self.items c.from_parts_unchecked.result
    utf8 c.loop-word.invariant first c.in_ok-push.ensures.items c.from_parts_unchecked.ensures c.clone.ensures
