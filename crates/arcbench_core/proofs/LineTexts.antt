-- The lines of bytes, the numbers that `parse` reads, and the lines of steps: a line has a step exactly if it is the text of the step.
use Rattle.std.proofs.Common.{◌≡◌, ◌==◌, ◌⊎◌, inl, inr, ℕ, ◌+◌, ◌<◌, ◌≤◌, Bool, false, not, List, [], ◌∷◌, length, refl, arith, zero, suc, ◌^◌, true}
use Rattle.std.proofs.Common.{if◌then◌else◌, ◌++◌, get_or, Option, None, Some, Result, Ok, Err, ◌≢◌, sym, ap, ◌∙◌}
use Rattle.std.proofs.Math.ListN.{drop_of_length-le}
use Rattle.std.proofs.lemmas.Bool.{cases_lt, not-true, eqb-true, eq-eqb, ne_eqb, lt-ltb, ltb-true, not-false, and_parts}
use Rattle.std.proofs.lemmas.Fmt.{IsAscii-from_digits, decimal-digits_value, digits_decimal, digits_value-decimal, decimal_nonempty, first_decimal}
use Rattle.std.proofs.lemmas.Fmt.{decimal_digit}
use Rattle.std.proofs.lemmas.List.{take_all}
use Rattle.std.proofs.lemmas.List.Elements.{All-from_get_or}
use Rattle.std.proofs.lemmas.List.Splits.{slice_split_first, slice_split_none, length-slice_split}
use Rattle.std.proofs.lemmas.List.Sums.{prefix_len_passes, prefix_len_stops, split_at_first}
use Rattle.std.proofs.lemmas.Slice.Eq.{bytes_eq-Decides}
use Rattle.std.proofs.lemmas.Str.{IsUtf8-from_ascii}
use Rattle.std.proofs.lemmas.Str.Parse.{IsNumeralModel, numerals_by_value, tells_all_ascii_digits, parse_plain}
use Rattle.std.specs.Fmt.{decimal}
use Rattle.std.specs.List.{slice_split, before_first, after_first, position_or_len, All}
use Rattle.std.specs.Prelude.{codes, option_and_then, IfSome}
use Rattle.std.specs.Result.{OkIff, result_ok}
use Rattle.std.specs.Str.{all_ascii_digits, bytes_eq, IsUtf8}
use Rattle.std.specs.Str.Parse.{digits_value, ParsesUnsigned}
use Rattle.arcstr_count.specs.declared.steps.Step.{Step}
use Rattle.arcstr_count.specs.declared.steps.Step.TheVariants.{Make, Look, Clone, Begin, Sub, Back, Leak, IntoRaw, FromRaw}
use Rattle.arcbench_core.specs.Line.{newline, without_empty_last, script_lines, plus_sign, space, zero_digit, command_part, after_command, is_decimal}
use Rattle.arcbench_core.specs.Line.{has_idle_zero, number_of, step_named, step_of, limit_in, line_text, limit_text, HasHandle}

-- ---- the first line

-- a part before other parts is a line, empty or not
without_empty_last-cons : (part : List ℕ) (parts : List (List ℕ)) → 0 < length parts → without_empty_last (part ∷ parts) ≡ part ∷ without_empty_last parts
without_empty_last-cons part [] h = absurd (omega arith)
without_empty_last-cons [] (next ∷ parts) h = refl
without_empty_last-cons (b ∷ part) (next ∷ parts) h = refl

-- a last part that is not empty is a line
without_empty_last-one : (part : List ℕ) → 0 < length part → without_empty_last (part ∷ []) ≡ part ∷ []
without_empty_last-one [] h = absurd (omega arith)
without_empty_last-one (b ∷ part) h = refl

-- no byte passes if the index of the first that does is past the end
none_passes : (p : ℕ → Bool) (bytes : List ℕ) → length bytes ≤ position_or_len p bytes → All (λ b. p b ≡ false) bytes
none_passes p bytes h =
    All-from_get_or (λ b. p b ≡ false) bytes 0
    (λ k in_bytes. not-true _ (prefix_len_passes (λ b. not (p b)) bytes k 0 (omega arith)))

first_part_is_first_line : (p : ℕ → Bool) (bytes : List ℕ) → 0 < length bytes
    → (position_or_len p bytes < length bytes) ⊎ (length bytes ≤ position_or_len p bytes)
    → without_empty_last (slice_split p bytes) ≡ before_first p bytes ∷ without_empty_last (slice_split p (after_first p bytes))
first_part_is_first_line p bytes h (inl there) =
    let more : 0 < length (slice_split p (after_first p bytes)) = omega (arith, length-slice_split p (after_first p bytes)) in
    rw (slice_split_first p bytes 0 there) (without_empty_last-cons _ _ more)
first_part_is_first_line p bytes h (inr absent) =
    let past : length bytes ≤ position_or_len p bytes + 1 = omega arith in
    rw (slice_split_none p bytes (none_passes p bytes absent), take_all (position_or_len p bytes) bytes absent, drop_of_length-le bytes past)
    (without_empty_last-one bytes h)

pub script_lines-first : (bytes : List ℕ) → 0 < length bytes
    → script_lines bytes ≡ before_first (λ b. b == newline) bytes ∷ script_lines (after_first (λ b. b == newline) bytes)
script_lines-first bytes h = first_part_is_first_line (λ b. b == newline) bytes h (cases_lt (position_or_len (λ b. b == newline) bytes) (length bytes))

-- bytes without a newline are one line
pub script_lines-none : (bytes : List ℕ) → 0 < length bytes → position_or_len (λ b. b == newline) bytes ≡ length bytes → script_lines bytes ≡ bytes ∷ []
script_lines-none bytes h absent =
    let past : length bytes ≤ position_or_len (λ b. b == newline) bytes = omega (arith, absent) in
    rw (slice_split_none (λ b. b == newline) bytes (none_passes (λ b. b == newline) bytes past)) (without_empty_last-one bytes h)

-- the function whose proof uses this ruleset names it
pub ruleset first_lines = (script_lines-first)

-- ---- what `parse` returns for a NUMBER

-- ASCII digits are the digits that `parse` knows
own : IsNumeralModel (λ ds. all_ascii_digits ds ≡ true) (digits_value 10)
own = numerals_by_value _ tells_all_ascii_digits

is_decimal-true : (text : List ℕ) → (all_ascii_digits text ≡ true) × (0 < length text) × (digits_value 10 text < 2 ^ 64) → is_decimal text ≡ true
is_decimal-true text h = rw (h.0, lt-ltb _ _ h.1, lt-ltb _ _ h.2) refl

from_is_decimal : (text : List ℕ) → is_decimal text ≡ true → (all_ascii_digits text ≡ true) × (0 < length text) × (digits_value 10 text < 2 ^ 64)
from_is_decimal text h =
    let parts = and_parts _ _ h in
    let prefix = and_parts _ _ parts.0 in
    (prefix.0, ltb-true _ _ prefix.1, ltb-true _ _ parts.1)

-- the value, if the text is decimal, according to `parse`
decimal_by : (text : List ℕ) (b : Bool) → is_decimal text ≡ b → {E : Type 0} → (r : Result ℕ E)
    → OkIff r ((all_ascii_digits text ≡ true) × (0 < length text) × (digits_value 10 text < 2 ^ 64)) (digits_value 10 text)
    → result_ok r ≡ (if b then Some (digits_value 10 text) else None)
decimal_by text true is (Ok x) h = ap Some h.1
decimal_by text false is (Ok x) h = absurd (let e = is_decimal-true text h.0 in cc)
decimal_by text true is (Err e) h = absurd (h (from_is_decimal text is))
decimal_by text false is (Err e) h = refl

pub decimal_from_parse : (text : List ℕ) → get_or text 0 0 ≢ plus_sign → {E : Type 0} → (r : Result ℕ E) → ParsesUnsigned 64 10 text r
    → result_ok r ≡ (if is_decimal text then Some (digits_value 10 text) else None)
decimal_from_parse text no_sign r h = decimal_by text (is_decimal text) refl r (parse_plain own 64 text r h no_sign)

-- decimal digits are UTF-8
no_decimal_by : (text : List ℕ) (b : Bool) → is_decimal text ≡ b → ¬ (IsUtf8 text) → None ≡ (if b then Some (digits_value 10 text) else None)
no_decimal_by text true is not_text =
    absurd (not_text (IsUtf8-from_ascii text (IsAscii-from_digits text (own.to text (from_is_decimal text is).0))))
no_decimal_by text false is not_text = refl

pub no_decimal : (text : List ℕ) → ¬ (IsUtf8 text) → None ≡ (if is_decimal text then Some (digits_value 10 text) else None)
no_decimal text not_text = no_decimal_by text (is_decimal text) refl not_text

-- ---- numbers

-- the two cases of an `if` that gives a value
chosen : {X : Type 0} (b : Bool) (x y : X) (other : Option X) → (if b then Some x else other) ≡ Some y → ((b ≡ true) × (x ≡ y)) ⊎ (other ≡ Some y)
chosen true x y other e = inl (refl, cc)
chosen false x y other e = inr e

zero_not_idle_is_alone : (text : List ℕ) → has_idle_zero text ≡ false → get_or text 0 0 ≡ zero_digit → 0 < length text → length text ≡ 1
zero_not_idle_is_alone text none zero_first some =
    elim (cases_lt 1 (length text)) [
      | inl long ↦ absurd (let e : has_idle_zero text ≡ true = rw (eq-eqb _ _ zero_first, lt-ltb _ _ long) refl in cc)
      | inr short ↦ omega arith
    ]

-- a NUMBER is the text that `decimal` gives for its value
pub number_of-Some : (text : List ℕ) (n : ℕ) → number_of text ≡ Some n → (text ≡ decimal n) × (n < 2 ^ 64)
number_of-Some text n e =
    elim (chosen _ (digits_value 10 text) n None e) [
      | inl h ↦
          let parts = and_parts _ _ h.0 in
          let digits = from_is_decimal text parts.0 in
          let written : decimal (digits_value 10 text) ≡ text =
          decimal-digits_value own text digits.0 digits.1 (λ zero_first. zero_not_idle_is_alone text (not-false' _ parts.1) zero_first digits.1) digits.2 in
          (sym written ∙ ap decimal h.1, let below : digits_value 10 text < 2 ^ 64 = digits.2 in omega (arith, h.1))
      | inr h ↦ absurd cc
    ]
  where
    not-false' : (b : Bool) → not b ≡ true → b ≡ false
    not-false' true e = cc
    not-false' false e = refl

no_idle_zero : (n : ℕ) → n < 2 ^ 64 → has_idle_zero (decimal n) ≡ false
no_idle_zero zero h = rw (decimal_digit 0 (omega arith)) refl
no_idle_zero (suc n) h =
    let first : zero_digit < get_or (decimal (suc n)) 0 0 = first_decimal (suc n) (omega arith) h in
    let other : (get_or (decimal (suc n)) 0 0 == zero_digit) ≡ false = ne_eqb _ _ (λ e. omega arith) in
    rw other refl

pub number_of-decimal : (n : ℕ) → n < 2 ^ 64 → number_of (decimal n) ≡ Some n
number_of-decimal n h =
    let value : digits_value 10 (decimal n) ≡ n = digits_value-decimal own n h in
    let small : digits_value 10 (decimal n) < 2 ^ 64 = omega arith in
    let is : is_decimal (decimal n) ≡ true = is_decimal-true (decimal n) (digits_decimal own n h, decimal_nonempty n h, small) in
    rw (is, no_idle_zero n h, value) refl

-- ---- commands

same_bytes : (xs ys : List ℕ) → bytes_eq xs ys ≡ true → xs ≡ ys
same_bytes xs ys e = (bytes_eq-Decides xs ys).0 e

-- a line with bytes after its command is the command, a space and those bytes
command_and_rest : (line : List ℕ) → 0 < length (after_command line) → line ≡ command_part line ++ space ∷ after_command line
command_and_rest line some =
    elim (cases_lt (position_or_len (λ b. b == space) line) (length line)) [
      | inl there ↦
          let stops : not (get_or line (position_or_len (λ b. b == space) line) 0 == space) ≡ false = prefix_len_stops (λ b. not (b == space)) line 0 there in
          let found : get_or line (position_or_len (λ b. b == space) line) 0 ≡ space = eqb-true _ _ (not-false _ stops) in
          split_at_first (λ b. b == space) line 0 there ∙ ap (λ b. command_part line ++ b ∷ after_command line) found
      | inr absent ↦
          let past : length line ≤ position_or_len (λ b. b == space) line + 1 = omega arith in
          let none : after_command line ≡ [] = drop_of_length-le line past in
          absurd (omega (arith, ap length none))
    ]

number_after : (line : List ℕ) (n : ℕ) → number_of (after_command line) ≡ Some n → line ≡ command_part line ++ space ∷ decimal n
number_after line n e =
    let number = number_of-Some (after_command line) n e in
    let some : 0 < length (after_command line) = rw number.0 (decimal_nonempty n number.1) in
    command_and_rest line some ∙ ap (λ rest. command_part line ++ space ∷ rest) number.0

-- the step of the first entry of a table that has this command
abbrev step_in : List (List ℕ × Step) → List ℕ → Option Step
step_in [] command = None
step_in (entry ∷ rest) command = if bytes_eq command entry.0 then Some entry.1 else step_in rest command

-- each entry has the command of its step, whose handle is `h`
abbrev AreCommands : ℕ → List (List ℕ × Step) → Type 0
AreCommands h [] = Unit {0}
AreCommands h (entry ∷ rest) = (entry.0 ++ space ∷ decimal h ≡ line_text entry.1) × AreCommands h rest

step_in-Some : (table : List (List ℕ × Step)) (command : List ℕ) (h : ℕ) (step : Step) → AreCommands h table → step_in table command ≡ Some step
    → command ++ space ∷ decimal h ≡ line_text step
step_in-Some [] command h step are e = absurd cc
step_in-Some (entry ∷ rest) command h step are e =
    elim (chosen (bytes_eq command entry.0) entry.1 step (step_in rest command) e) [
      | inl c ↦ ap (λ w. w ++ space ∷ decimal h) (same_bytes command entry.0 c.0) ∙ are.0 ∙ ap line_text c.1
      | inr e ↦ step_in-Some rest command h step are.1 e
    ]

commands : ℕ → List (List ℕ × Step)
commands h =
    (codes "look", Look h) ∷ (codes "clone", Clone h) ∷ (codes "begin", Begin h) ∷ (codes "sub", Sub h) ∷ (codes "back", Back h)
    ∷ (codes "leak", Leak h) ∷ (codes "raw", IntoRaw h) ∷ (codes "unraw", FromRaw h) ∷ []

step_named-Some : (command : List ℕ) (h : ℕ) (step : Step) → step_named command h ≡ Some step → command ++ space ∷ decimal h ≡ line_text step
unfolding commands
step_named-Some command h step e =
    step_in-Some (commands h) command h step (refl, (refl, (refl, (refl, (refl, (refl, (refl, (refl, tt)))))))) e

-- ---- lines

found_by : {X Y : Type 0} (f : X → Option Y) (o : Option X) (y : Y) → option_and_then f o ≡ Some y → (x : X) × (o ≡ Some x) × (f x ≡ Some y)
found_by f None y e = absurd cc
found_by f (Some x) y e = (x, refl, e)

pub step_of-Some : (line : List ℕ) (step : Step) → step_of line ≡ Some step → line ≡ line_text step
step_of-Some line step e =
    elim (chosen (bytes_eq line (codes "make")) Make step _ e) [
      | inl c ↦ same_bytes line (codes "make") c.0 ∙ ap line_text c.1
      | inr e ↦
          let found = found_by (λ h. step_named (command_part line) h) (number_of (after_command line)) step e in
          number_after line found.0 found.1 ∙ step_named-Some (command_part line) found.0 step found.2
    ]

pub step_of-line_text : (step : Step) → HasHandle step → step_of (line_text step) ≡ Some step
step_of-line_text Make h = refl
step_of-line_text (Look n) h = rw (number_of-decimal n h) refl
step_of-line_text (Clone n) h = rw (number_of-decimal n h) refl
step_of-line_text (Begin n) h = rw (number_of-decimal n h) refl
step_of-line_text (Sub n) h = rw (number_of-decimal n h) refl
step_of-line_text (Back n) h = rw (number_of-decimal n h) refl
step_of-line_text (Leak n) h = rw (number_of-decimal n h) refl
step_of-line_text (IntoRaw n) h = rw (number_of-decimal n h) refl
step_of-line_text (FromRaw n) h = rw (number_of-decimal n h) refl

pub limit_in-Some : (line : List ℕ) (n : ℕ) → limit_in line ≡ Some n → line ≡ limit_text n
limit_in-Some line n e = limit_by (bytes_eq (command_part line) (codes "limit")) refl e
  where
    limit_by : (b : Bool) → bytes_eq (command_part line) (codes "limit") ≡ b
        → (if b then number_of (after_command line) else None) ≡ Some n → line ≡ limit_text n
    limit_by true same e = number_after line n e ∙ ap (λ w. w ++ space ∷ decimal n) (same_bytes (command_part line) (codes "limit") same)
    limit_by false same e = absurd cc

pub limit_in-limit_text : (n : ℕ) → n < 2 ^ 64 → limit_in (limit_text n) ≡ Some n
limit_in-limit_text n h = number_of-decimal n h

-- ---- the contracts of functions that compute these definitions

if_some : {X : Type 0} (o : Option X) (P : X → Type 0) → ((x : X) → o ≡ Some x → P x) → IfSome o P
if_some None P h = tt
if_some (Some x) P h = h x refl

module _ (text : List ℕ) (r : Option ℕ) (is : r ≡ number_of text) where
  pub number_written : IfSome r (λ n. text ≡ decimal n)
  number_written = if_some r (λ n. text ≡ decimal n) (λ n e. (number_of-Some text n (sym is ∙ e)).0)

  pub number_read : (n : ℕ) → n < 2 ^ 64 → text ≡ decimal n → r ≡ Some n
  number_read n h e = is ∙ ap number_of e ∙ number_of-decimal n h

module _ (line : List ℕ) (r : Option Step) (is : r ≡ step_of line) where
  pub step_written : IfSome r (λ step. line ≡ line_text step)
  step_written = if_some r (λ step. line ≡ line_text step) (λ step e. step_of-Some line step (sym is ∙ e))

  pub step_read : (step : Step) → HasHandle step → line ≡ line_text step → r ≡ Some step
  step_read step h e = is ∙ ap step_of e ∙ step_of-line_text step h

module _ (line : List ℕ) (r : Option ℕ) (is : r ≡ limit_in line) where
  pub limit_written : IfSome r (λ n. line ≡ limit_text n)
  limit_written = if_some r (λ n. line ≡ limit_text n) (λ n e. limit_in-Some line n (sym is ∙ e))

  pub limit_read : (n : ℕ) → n < 2 ^ 64 → line ≡ limit_text n → r ≡ Some n
  limit_read n h e = is ∙ ap limit_in e ∙ limit_in-limit_text n h
