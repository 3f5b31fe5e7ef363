-- Calls of `write_str` that each append their text to a builder together append what they wrote.
use Rattle.std.specs.Prelude.{◌≡◌, ◌++◌, ℕ, List, Option, None, Some, IfSome}
use Rattle.std.specs.Fmt.{WritesText}
use Rattle.std.proofs.lemmas.Fmt.{contents_after_writes}
use Rattle.arcstr.specs.Building.{Building}

abbrev Appends : Building → List ℕ → Building → Type 0
Appends before bytes after = after.text ≡ before.text ++ bytes

pub appended_text : (before after : Building) (output : Option (List ℕ)) → WritesText Appends before output after
    → IfSome output (λ bytes. after.text ≡ before.text ++ bytes)
appended_text before after None wrote = tt
appended_text before after (Some bytes) wrote =
    contents_after_writes Appends (λ builder. builder.text) (λ was piece now appended. appended) before bytes after wrote
