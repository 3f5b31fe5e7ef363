-- If the bytes of an input are known, it is known whether the input is UTF-8.
use Rattle.std.proofs.Common.{◌≡◌, ◌≢◌, ◌↔◌, ℕ, List, refl, subst}
use Rattle.std.specs.Prelude.{Option, None, Some, Result, Ok, Err, IfSome, IfErr, OnOk}
use Rattle.std.specs.Str.{IsUtf8}
use Rattle.arcbench_core.specs.declared.program.Fault.{Fault}
use Rattle.arcbench_core.specs.declared.program.Fault.TheVariants.{Usage, LimitTooLarge, Memory, Io, NoThread, NotUtf8}
use Rattle.arcbench_core.specs.Program.{status_of}

-- if the input is known, the sign holds exactly if the input is not UTF-8
abbrev pub SaysNotUtf8 : Option (List ℕ) → Type 0 → Type 0
SaysNotUtf8 known sign = IfSome known (λ bytes. sign ↔ ¬ (IsUtf8 bytes))

-- two equivalent signs say the same
pub same_sign : (known : Option (List ℕ)) (P Q : Type 0) → SaysNotUtf8 known P → (Q → P) → (P → Q) → SaysNotUtf8 known Q
same_sign None P Q says there back = tt
same_sign (Some bytes) P Q says there back = ((λ q. says.0 (there q)), (λ n. back (says.1 n)))

-- what is said about the bytes that were read is said about the input
pub says_of_input : (known : Option (List ℕ)) (read : List ℕ) (P : Type 0) → IfSome known (λ bytes. read ≡ bytes) → (P ↔ ¬ (IsUtf8 read)) → SaysNotUtf8 known P
says_of_input None read P same says = tt
says_of_input (Some bytes) read P same says = subst (λ (b : List ℕ). P ↔ ¬ (IsUtf8 b)) same says

-- the status 6 stands for the fault `NotUtf8`
pub says_by_status : (known : Option (List ℕ)) (done : Result (Unit {0}) Fault) (status : ℕ) → OnOk done (status ≡ 0)
    → IfErr done (λ fault. status ≡ status_of fault)
    → (done ≢ Err Memory → done ≢ Err Io → SaysNotUtf8 known (done ≡ Err NotUtf8))
    → status ≢ 3 → status ≢ 4 → SaysNotUtf8 known (status ≡ 6)
says_by_status known (Ok u) status ok err says no_memory no_io =
    same_sign known _ _ (says (λ e. cc) (λ e. cc)) (λ six. cc) (λ e. absurd (cc))
says_by_status known (Err Usage) status ok err says no_memory no_io =
    same_sign known _ _ (says (λ e. cc) (λ e. cc)) (λ six. cc) (λ e. absurd (cc))
says_by_status known (Err LimitTooLarge) status ok err says no_memory no_io =
    same_sign known _ _ (says (λ e. cc) (λ e. cc)) (λ six. cc) (λ e. absurd (cc))
says_by_status known (Err Memory) status ok err says no_memory no_io = absurd (no_memory err)
says_by_status known (Err Io) status ok err says no_memory no_io = absurd (no_io err)
says_by_status known (Err NoThread) status ok err says no_memory no_io =
    same_sign known _ _ (says (λ e. cc) (λ e. cc)) (λ six. cc) (λ e. absurd (cc))
says_by_status known (Err NotUtf8) status ok err says no_memory no_io =
    same_sign known _ _ (says (λ e. cc) (λ e. cc)) (λ six. refl) (λ e. err)
