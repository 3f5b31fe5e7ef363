-- Where a table finds the number of a text by half of the hash of its word.
use Rattle.std.specs.Prelude.{◌≡◌, ◌≢◌, ℕ, ◌+◌, ◌-◌, ◌*◌, ◌/◌, ◌%◌, ◌<◌, ◌≤◌, List, [], length, slice_index, slice_index_or, bit_and, bit_xor}
use Rattle.std.specs.declared.hash.BuildHasher as builder
use Rattle.std.specs.declared.hash.Hasher as hasher
use Rattle.arcstr.specs.TextView.{TextView, literal_of}
use Rattle.arcintern.specs.declared.slots.TheConstants.{NUMBERS}

-- what the hasher finishes with after one write of the word's bytes
unfoldable pub hash_of_word : {S H : Type 0} → builder.Ghosts S H → hasher.Ghosts H → S → List ℕ → ℕ
hash_of_word build hash state word = hash.finish (hash.write (build.build_hasher state) word)

-- the two halves of a word's hash, joined by xor
unfoldable pub half_of_word : {S H : Type 0} → builder.Ghosts S H → hasher.Ghosts H → S → List ℕ → ℕ
half_of_word build hash state word =
    let whole = hash_of_word build hash state word in
    bit_xor whole (whole / NUMBERS) % NUMBERS

-- the slot of a number, under half of a hash; an empty slot is 0
abbrev pub slot_of : ℕ → ℕ → ℕ
slot_of half number = half * NUMBERS + number + 1

-- where a search for the slot begins
abbrev pub home : ℕ → ℕ → ℕ
home mask slot = bit_and (slot / NUMBERS) mask

-- a search that begins at the slot's home and ends at the first empty slot finds the slot
pub record IsPlaced (slots : List ℕ) (mask slot : ℕ) : Type 0 where
  pub index : ℕ
  pub from_home : home mask slot ≤ index
  pub within : index < length slots
  pub here : slice_index slots index ≡ slot
  pub before : (other : ℕ) → home mask slot ≤ other → other < index → slice_index slots other ≢ 0

-- a search under this half comes to the slot with this index, since it passes no empty slot before
pub record Reaches (slots : List ℕ) (mask half index : ℕ) : Type 0 where
  pub from_home : bit_and half mask ≤ index
  pub within : index ≤ length slots
  pub full : (other : ℕ) → bit_and half mask ≤ other → other < index → slice_index slots other ≢ 0

-- each slot that was placed in the old table is placed in the new one
abbrev pub KeepsSlots : List ℕ → ℕ → List ℕ → ℕ → Type 0
KeepsSlots old old_mask new new_mask = (slot : ℕ) → 0 < slot → IsPlaced old old_mask slot → IsPlaced new new_mask slot

-- the number of each text is placed under the half of its word, which is `half` of the text
abbrev pub ArePlaced : {X : Type 0} → List ℕ → ℕ → (X → ℕ) → X → List X → Type 0
ArePlaced slots mask half empty texts = (number : ℕ) → number < length texts → IsPlaced slots mask (slot_of (half (slice_index_or texts number empty)) number)

-- the number of each text is placed under the half of its word
unfoldable pub AreTextsPlaced : List ℕ → ℕ → (List ℕ → ℕ) → List TextView → Type 0
AreTextsPlaced slots mask half texts = ArePlaced slots mask (λ text. half text.text) (literal_of []) texts

-- how many numbers a table of this length takes, so that a quarter of its slots stays empty
abbrev pub room_of : ℕ → ℕ
room_of len = len - len / 4
