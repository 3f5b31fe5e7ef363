-- Texts, their boundaries and their slices. A text is the list of the bytes of a `&str`, which spell its characters, and offsets into it count bytes.
-- Boundaries are those of Rust's `str::is_char_boundary`.
use Rattle.std.specs.Prelude.{◌≡◌, ℕ, List, ◌++◌, length, slice_range, encode_utf8_all}
use Rattle.std.specs.Str.{chars}

-- `place` is the length in bytes of a prefix of the text's characters
pub record IsPrefixLength (text : List ℕ) (place : ℕ) : Type 0 where
  pub prefix : List ℕ
  pub rest : List ℕ
  pub split : chars text ≡ prefix ++ rest
  pub measured : length (encode_utf8_all prefix) ≡ place

-- the bytes of a text between two byte offsets
abbrev pub cut : List ℕ → ℕ → ℕ → List ℕ
cut text start end = slice_range text start end

-- the slice spells the text's characters between two byte offsets
pub record SpellsBetween (text : List ℕ) (start end : ℕ) (slice : List ℕ) : Type 0 where
  pub before : List ℕ
  pub between : List ℕ
  pub after : List ℕ
  pub split : chars text ≡ (before ++ between) ++ after
  pub measured_start : length (encode_utf8_all before) ≡ start
  pub measured_end : length (encode_utf8_all (before ++ between)) ≡ end
  pub spelled : slice ≡ encode_utf8_all between
