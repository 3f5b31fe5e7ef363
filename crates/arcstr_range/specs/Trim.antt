-- White space at the start and at the end of a view. White space is that of Rust's `char::is_whitespace`.
use Rattle.std.specs.Prelude.{◌≡◌, ℕ, ◌+◌, ◌≤◌, List, ◌++◌, length, encode_utf8_all}
use Rattle.std.specs.Char.{is_whitespace}
use Rattle.std.specs.List.{AllPass}
use Rattle.std.specs.Str.{chars}
use Rattle.arcstr_range.specs.View.{View}

-- `prefix` is the longest prefix of the characters that is all white space, and the rest follows it
pub record IsLongestWhitePrefix (characters prefix rest : List ℕ) : Type 0 where
  pub split : characters ≡ prefix ++ rest
  pub white : AllPass is_whitespace prefix
  pub longest : (other others_rest : List ℕ) → characters ≡ other ++ others_rest → AllPass is_whitespace other → length other ≤ length prefix

-- `suffix` is the longest suffix of the characters that is all white space, and the rest precedes it
pub record IsLongestWhiteSuffix (characters rest suffix : List ℕ) : Type 0 where
  pub split : characters ≡ rest ++ suffix
  pub white : AllPass is_whitespace suffix
  pub longest : (others_rest other : List ℕ) → characters ≡ others_rest ++ other → AllPass is_whitespace other → length other ≤ length suffix

-- the new view is the old one without the longest prefix of white space, and its place moves by the bytes of that prefix
pub record TrimsStart (old new : View) : Type 0 where
  pub prefix : List ℕ
  pub rest : List ℕ
  pub removed : IsLongestWhitePrefix (chars old.text) prefix rest
  pub text : new.text ≡ encode_utf8_all rest
  pub place : new.place ≡ old.place + length (encode_utf8_all prefix)

-- the new view is the old one without the longest suffix of white space, at the old place
pub record TrimsEnd (old new : View) : Type 0 where
  pub rest : List ℕ
  pub suffix : List ℕ
  pub removed : IsLongestWhiteSuffix (chars old.text) rest suffix
  pub text : new.text ≡ encode_utf8_all rest
  pub place : new.place ≡ old.place

-- a trim of the start, and then of the end
pub record Trims (old new : View) : Type 0 where
  pub middle : View
  pub start : TrimsStart old middle
  pub end : TrimsEnd middle new
