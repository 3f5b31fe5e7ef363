-- How `serde` writes and reads the texts of an interner: as a list of strings, in the order of their numbers.
-- `bytes` is the spelling of a text, and `E` and `M` are the format's `Error` and `Mark`.
use Rattle.std.specs.Prelude.{◌≡◌, ℕ, List, [], ◌∷◌, None}
use Rattle.serde.specs.Event.{Event, Log, Logs, WritesSeq, seq_begins, seq_ends, text}
use Rattle.serde.specs.Steps.{Gives, Stays}
use Rattle.serde.specs.declared.deserializer.Deserializer.{Deserializer}

-- the texts are written one after another, as a list of strings
abbrev pub WritesTexts : {X : Type 0} → (X → List ℕ) → List X → Log → Log → Type 0
WritesTexts bytes = WritesSeq (λ one old new. Logs old new (text (bytes one)))

module _ {F E M X : Type 0} (gives : F → List ℕ → Event → F → Type 0) (stays : F → F → Type 0) (bytes : X → List ℕ) where
  -- the format gives the texts one after another, each as a string
  abbrev pub GivesEach : Deserializer F E M → List X → Deserializer F E M → Type 0
  GivesEach old [] new = new ≡ old
  GivesEach old (one ∷ texts) new =
      (looked read : Deserializer F E M) × Stays stays old looked × Gives gives looked (text (bytes one)) read × GivesEach read texts new

  -- the format gives a list of the texts
  abbrev pub GivesTexts : Deserializer F E M → List X → Deserializer F E M → Type 0
  GivesTexts old texts new =
      (first last : Deserializer F E M) × Gives gives old (seq_begins None) first × GivesEach first texts last
      × Gives gives last seq_ends new
