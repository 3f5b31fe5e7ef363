-- The entry of a line of a configuration, and the value of a key in a configuration.
use Rattle.std.specs.Prelude.{◌≡◌, ℕ, List, ◌++◌, Option, encode_utf8, option_and_then}
use Rattle.std.specs.BTreeMap.{BTreeMap, get_by}
use Rattle.std.specs.Cmp.Lexicographic.{slice_cmp}
use Rattle.std.specs.Ordering.{nat_cmp}
use Rattle.std.specs.Str.{trim}
use Rattle.arcstr.specs.Splitting.{AreAround}
use Rattle.arcstr.specs.Substr.{SubstrView, slice_within, text_of}
use Rattle.example_config.specs.declared.config.Config.{Config}
use Rattle.example_config.specs.declared.line.Entry.{Entry}

abbrev pub equals_sign : ℕ
equals_sign = 61

-- the sides lie before and after the first `=` of the line; without the white space around them, they are the key and the value, which are slices of the same
-- text as the line
pub record IsEntry (line : SubstrView) (entry : Entry) : Type 0 where
  pub sides : SubstrView × SubstrView
  pub around : AreAround (text_of line) (slice_within line) equals_sign sides
  pub key : text_of entry.key ≡ trim (text_of sides.0)
  pub value : text_of entry.value ≡ trim (text_of sides.1)
  pub key_parent : entry.key.parent ≡ line.parent
  pub value_parent : entry.value.parent ≡ line.parent

-- the slice's text is the first character, the text of `inner` and the last character
abbrev pub IsEnclosed : SubstrView → ℕ → ℕ → SubstrView → Type 0
IsEnclosed slice first last inner = text_of slice ≡ encode_utf8 first ++ (text_of inner ++ encode_utf8 last)

-- the value of a map at the key with this text
abbrev pub at_text : {X : Type 0} → BTreeMap SubstrView X → List ℕ → Option X
at_text map text = get_by (λ key. slice_cmp nat_cmp text (text_of key)) map

-- the value of the key in the section
abbrev pub value_at : Config → List ℕ → List ℕ → Option SubstrView
value_at config section key = option_and_then (λ entries. at_text entries key) (at_text config.sections section)
