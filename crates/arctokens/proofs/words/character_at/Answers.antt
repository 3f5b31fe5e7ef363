use Rattle.std.proofs.Common.{◌≡◌, Bool, ◌+◌, ◌∙◌, sym, subst, get_or, rules}
use Rattle.std.specs.Char.{is_whitespace}
use Rattle.arctokens.specs.Runs.{IsCharacterBetween}
use Rattle.arctokens.proofs.Runs.{ascii_between, spelled_between}
use Rattle.arctokens.proofs.words.character_at.Goals as goal

pub returns-then-byte-lt128 : goal.returns-then-byte-lt128
returns-then-byte-lt128 c =
    let P : Bool → Type 0 = IsCharacterBetween c.args.text.now c.args.place (c.args.place + 1) in
    let kind : is_whitespace (get_or c.args.text.now c.args.place 0) ≡ c.is_white_byte.result = cc in
    subst P kind (ascii_between c.args.text.now c.args.place c.utf8.text c.requires.inside (search rules))

pub returns : goal.returns
returns c =
    let stands = sym c.range_from.ensures.value ∙ sym c.chars.ensures.rest ∙ c.in-Some.ensures.steps.0 in
    rw c.len_utf8.ensures.value
    (rw c.is_whitespace.ensures (spelled_between c.args.text.now _ c.args.place c.in-Some.character c.utf8.text c.requires.boundary stands))
