-- The tokens of a shared text: its words, each as a slice of it.
use Rattle.std.specs.Prelude.{◌≡◌, ℕ, List, map, Vec}
use Rattle.std.specs.List.{AllZip}
use Rattle.std.specs.declared.alloc.Global.{Global}
use Rattle.arcstr.specs.TextView.{TextView}
use Rattle.arcstr.specs.Substr.{SubstrView, slice_of}
use Rattle.arctokens.specs.Words.{AreWords}

-- the slices are the tokens of a shared text: for each of its words, in order, the slice of the text that is the word
pub record AreTokens (text : TextView) (slices : List SubstrView) : Type 0 where
  pub words : List (ℕ × ℕ)
  pub are_words : AreWords text.text words
  pub slices_of_words : slices ≡ map (λ word. slice_of text word.0 word.1) words

-- the tokens of one text, as the code stores them
abbrev pub TokenList : Type 0
TokenList = Vec SubstrView Global

-- the lists are the tokens of the texts: one list for each text, in the order of the texts
abbrev pub AreTokensOfEach : List TextView → List TokenList → Type 0
AreTokensOfEach texts lists = AllZip (λ text list. AreTokens text list.items) texts lists
