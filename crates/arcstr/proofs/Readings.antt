-- What a builder has after several reads, and what a fault says of it.
use Rattle.std.proofs.Common.{◌≡◌, List, ℕ, Option, Some, None, ◌+◌, ◌++◌, take, drop, [], IfSome, sym, ap, ◌∙◌, append_assoc, take-add}
use Rattle.std.proofs.lemmas.List.{append-nil}
use Rattle.std.specs.Io.KnownBytes.{Consumes, IsAtEnd}
use mathlib.Core.List.{IsPrefix}
use Rattle.arcstr_block.specs.declared.fault.TextFault.{TextFault}
use Rattle.arcstr_block.specs.declared.fault.TextFault.TheVariants.{Length, Memory, Utf8}
use Rattle.arcstr.specs.Building.{Building}
use Rattle.arcstr.specs.Reading.{HasRead, IsFaultOfTaking, IsFaultOfReading}
use Rattle.arcstr.specs.declared.reading.ReadFault.{ReadFault}
use Rattle.arcstr.specs.declared.reading.ReadFault.TheVariants.{Io, Text}

-- a fault that keeps one fact keeps what follows from it
pub kept_by_text : (text : List ℕ) (A B : Type 0) (fault : TextFault) → (A → B) → IsFaultOfTaking text A fault → IsFaultOfTaking text B fault
kept_by_text text A B Length f kept = f kept
kept_by_text text A B Memory f kept = f kept
kept_by_text text A B (Utf8 n) f place = place

pub kept_by_fault : (text : List ℕ) (A B : Type 0) (fault : ReadFault) → (A → B) → IsFaultOfReading text A fault → IsFaultOfReading text B fault
kept_by_fault text A B (Io error) f kept = (kept.0, f kept.1)
kept_by_fault text A B (Text fault) f kept = kept_by_text text A B fault f kept

consumed_by_both : (a b c : Option (List ℕ)) (xs ys : List ℕ) → Consumes a b xs → Consumes b c ys → Consumes a c (xs ++ ys)
consumed_by_both None b c xs ys one two = tt
consumed_by_both (Some first) None c xs ys one two = absurd one
consumed_by_both (Some first) (Some second) None xs ys one two = absurd two
consumed_by_both (Some first) (Some second) (Some last) xs ys one two = one ∙ ap (λ l. xs ++ l) two ∙ sym (append_assoc xs ys last)

-- one more read
pub read_more : (a b c : Option (List ℕ)) (old now new : Building) → HasRead a b old now → HasRead b c now new → HasRead a c old new
read_more a b c old now new first more = (
  first.0 ++ more.0,
  consumed_by_both a b c first.0 more.0 first.1 more.1,
  more.2 ∙ ap (λ l. l ++ more.0) first.2 ∙ append_assoc (old.text ++ old.held) first.0 more.0,
)

-- at the end of the input the text has all bytes behind what it had
pub has_all : (a c : Option (List ℕ)) (old new : Building) → HasRead a c old new → new.held ≡ [] → IsAtEnd c
    → IfSome a (λ bytes. new.text ≡ (old.text ++ old.held) ++ bytes)
has_all None c old new read none end = tt
has_all (Some first) None old new read none end = absurd read.1
has_all (Some first) (Some last) old new read none end =
    sym (append-nil new.text) ∙ ap (λ xs. new.text ++ xs) (sym none) ∙ read.2
    ∙ ap (λ xs. (old.text ++ old.held) ++ xs) (sym (append-nil read.0) ∙ ap (λ xs. read.0 ++ xs) (sym end) ∙ sym read.1)

pub prefix_of_longer : (xs ys zs : List ℕ) → IsPrefix xs ys → IsPrefix ys zs → IsPrefix xs zs
prefix_of_longer xs ys zs one two = (one.0 ++ two.0, sym (append_assoc xs one.0 two.0) ∙ ap (λ l. l ++ two.0) one.1 ∙ two.1)

-- what was held back, and what was read behind it
pub read_behind : (now text held bytes chunk : List ℕ) (start count : ℕ) → now ≡ text ++ take (start + count) bytes → take start bytes ≡ take start chunk
    → take start chunk ≡ held → now ≡ (text ++ held) ++ take count (drop start bytes)
read_behind now text held bytes chunk start count all front first =
    let read : List ℕ = take count (drop start bytes) in
    all ∙ ap (λ xs. text ++ xs) (take-add start count bytes ∙ ap (λ xs. xs ++ read) (front ∙ first)) ∙ sym (append_assoc text held read)
