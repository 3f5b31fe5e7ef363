-- The first word is the first result of std's `split_whitespace`, after the white space that `trim_start` removes.
use Rattle.std.proofs.Common.{ℕ, ◌+◌, ◌-◌, length, sym, ap, subst, ◌∙◌}
use Rattle.std.specs.Str.{IsUtf8, trim_start}
use Rattle.arcstr_range.specs.Pieces.{IsFirstWordAt}
use Rattle.arcstr_range.proofs.WordPlaces.{first_word_none, first_word_some}
use Rattle.arcstr_range.proofs.view.words.first_word.Goals as goal

pub returns-in_default-clause-none : goal.returns-in_default-clause-none
returns-in_default-clause-none c =
    first_word_none c.args.view.now c.split_whitespace.result c.next.new.self (subst IsUtf8 c.text-text.ensures c.text-text.utf8)
    (c.split_whitespace.ensures.rest ∙ c.text-text.ensures) c.in_default.ensures.steps

pub returns-clause-some : goal.returns-clause-some
returns-clause-some c =
    let left = length c.trim_start.result.now in
    subst (λ (n : ℕ). IsFirstWordAt c.args.view.now (n - left) (n - left + length c.in-Some.word.now)) (ap length (sym c.text-text.ensures))
    (first_word_some c.args.view.now c.split_whitespace.result c.next.new.self c.in-Some.word c.trim_start.result.now
    (subst IsUtf8 c.text-text.ensures c.text-text.utf8)
    (c.split_whitespace.ensures.rest ∙ c.text-text.ensures) c.in-Some.ensures.steps (c.trim_start.ensures.trim ∙ ap trim_start c.text-text.ensures))
