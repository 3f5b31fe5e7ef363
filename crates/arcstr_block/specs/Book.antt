-- The history of a block, kept beside its count word: the steps so far, which only grow, and a seat for each handle that was ever born.
use Rattle.std.specs.Prelude.{ℕ, ◌<◌, List, length, refl}
use Rattle.std.specs.Coded.{Coded, code_by, coded×, coded_ℕ}
use base.Fraction.{full_share}
use base.Share.{three_quarters}
use base.Growing.{Order, prefixes, latest, at_least}
use base.Stored.{Gv}
use mathlib.Core.List.{IsPrefix}
use base.Fml.{GName, Share, Fml, ftrue, fsep, fex}
use Rattle.atomic_table.specs.Seated.{seen as share_of_seat, roster}
use Rattle.arcstr_count.specs.declared.steps.Step.{Step}
use Rattle.arcstr_count.specs.declared.steps.HandleState.{HandleState}
use Rattle.arcstr_count.specs.contracts.steps.Step.{the_row as step_row}
use Rattle.arcstr_count.specs.contracts.steps.HandleState.{the_row as state_row}
use Rattle.arcstr_count.specs.declared.steps.Reply.{Reply}
use Rattle.arcstr_count.specs.OneBlock.{Keeps, EndsIn}
use Rattle.arcstr_block.specs.Word.{word_of}

-- what names a block: its history, and the seats of its handles
pub record BlockName : Type 0 where
  pub history : GName
  pub seats : GName

-- how a block's name is stored
abbrev pub name_code : Coded BlockName
name_code = code_by (GName × GName) (coded× coded_ℕ coded_ℕ) (λ n. (n.history, n.seats)) (λ p. record { history = p.0; seats = p.1 }) (λ _. refl)

-- the order of histories: a prefix comes first
abbrev pub steps : Order (List Step)
steps = prefixes step_row.coded

-- how a handle's state is stored
abbrev pub state_code : HandleState → Gv
state_code = state_row.coded.code

-- a permanent fact: the history has reached this prefix
abbrev pub reached : GName → List Step → Fml
reached γ history = at_least steps γ history

-- the history begins with `before`, and is longer: it has a step that `before` does not have
abbrev pub IsLater : List Step → List Step → Type 0
IsLater before history = IsPrefix before history × (length before < length history)

-- a share of the seat of handle h, which is in this state
abbrev pub seat_share : GName → ℕ → Share → HandleState → Fml
seat_share δ h q state = share_of_seat state_code δ h q state

-- what a handle has of its seat
abbrev pub seat : GName → ℕ → HandleState → Fml
seat δ h state = seat_share δ h three_quarters state

module _ (L : ℕ) (γ δ : GName) where
  -- the history leaves the count word n on its one block, and each seat holds the state of its handle
  abbrev pub book : ℕ → List Step × List HandleState → Fml
  book n x = fsep (fex (Keeps L x.0 (word_of n) x.1) (λ _. ftrue)) (fsep (latest steps full_share γ x.0) (roster state_code δ 0 x.1))

  -- some history and some states are those of the count word n
  abbrev pub Book : ℕ → Fml
  Book n = fex (List Step × List HandleState) (book n)

  -- the history has reached one that is later than `before` and ends in this step, and this reply is the core's answer to it
  abbrev pub reached_ending : List Step → Step → Reply → List Step → Fml
  reached_ending before s reply r = fsep (fex (EndsIn L r s reply × IsLater before r) (λ _. ftrue)) (reached γ r)

  -- some prefix that was reached is later than `before` and ends in this step, with this reply
  abbrev pub Ends : List Step → Step → Reply → Fml
  Ends before s reply = fex (List Step) (reached_ending before s reply)
