-- Worked lines, numbers, steps and limits, checked by computation. scripts/histories.scripts has whole scripts.
use Rattle.std.proofs.Common.{◌≡◌, ℕ, List, [], ◌∷◌, ◌++◌, map, refl}
use Rattle.std.specs.Prelude.{None, Some, Ok, Err, codes}
use Rattle.arcstr_count.specs.declared.steps.Step.TheVariants.{Look}
use Rattle.arcstr_world.specs.declared.faults.RunFault.TheVariants.{LimitTooLarge}
use Rattle.arcbench_core.specs.Line.{script_lines, number_of, step_of}
use Rattle.arcbench_core.specs.Script.{answer_to}

-- the function gives the second part of each pair for the first
abbrev Gives : {A : Type 0} → (List ℕ → A) → List (List ℕ × A) → Type 0
Gives function pairs = map (λ pair. function pair.0) pairs ≡ map (λ pair. pair.1) pairs

-- with and without a last newline, and no bytes
lines : Gives script_lines ((codes "a\n\nb\n", codes "a" ∷ [] ∷ codes "b" ∷ []) ∷ (codes "a\nb", codes "a" ∷ codes "b" ∷ []) ∷ ([], []) ∷ [])
lines = refl

-- the greatest number and the next, twenty nines, zero, a zero before a digit, a sign, and no digit
numbers : Gives number_of (
    (codes "18446744073709551615", Some 18446744073709551615) ∷ (codes "18446744073709551616", None) ∷ (codes "99999999999999999999", None)
    ∷ (codes "0", Some 0) ∷ (codes "05", None) ∷ (codes "+5", None) ∷ ([], None) ∷ [])
numbers = refl

-- one space, two spaces, a space behind the number, and a carriage return
steps : Gives step_of (
    (codes "look 9", Some (Look 9)) ∷ (codes "look  9", None) ∷ (codes "look 9 ", None) ∷ (codes "look 9" ++ 13 ∷ [], None) ∷ [])
steps = refl

-- no lines, and the limits: with a zero before a digit, 0, the greatest and the next, and all bits
limits : Gives answer_to (
    ([], Ok (codes "bad limit\n")) ∷ (codes "limit 05\nmake\n", Ok (codes "bad limit\n")) ∷ (codes "limit 5", Ok []) ∷ (codes "limit 0\n", Ok [])
    ∷ (codes "limit 4611686018427387903\n", Ok []) ∷ (codes "limit 4611686018427387904\nmake\n", Err LimitTooLarge)
    ∷ (codes "limit 18446744073709551615", Err LimitTooLarge) ∷ [])
limits = refl
