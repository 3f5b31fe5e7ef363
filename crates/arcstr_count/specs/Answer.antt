-- The table of refusals.
use Rattle.std.specs.Prelude.{ℕ, Option, None, Some}
use Rattle.arcstr_count.specs.declared.steps.Step.{Step}
use Rattle.arcstr_count.specs.declared.steps.Step.TheVariants.{Make, Look, Clone, Begin, Sub, Back, Leak, IntoRaw, FromRaw}
use Rattle.arcstr_count.specs.declared.steps.HandleState.{HandleState}
use Rattle.arcstr_count.specs.declared.steps.HandleState.TheVariants.{Free, Raw, Dropping, Owing, Gone}
use Rattle.arcstr_count.specs.declared.faults.StepFault.{StepFault}
use Rattle.arcstr_count.specs.declared.faults.StepFault.TheVariants.{NoHandle, InDrop, NotInDrop, NotOwing, IsRaw, NotRaw}

-- ---- the table of refusals

-- the state in which a step needs its handle
pub record Need : Type 0 where
  pub handle : ℕ
  pub state : HandleState

-- what each step needs; `Make` needs no handle
abbrev pub needs : Step → Option Need
needs Make = None
needs (Look h) = Some (record { handle = h; state = Free })
needs (Clone h) = Some (record { handle = h; state = Free })
needs (Begin h) = Some (record { handle = h; state = Free })
needs (Sub h) = Some (record { handle = h; state = Dropping })
needs (Back h) = Some (record { handle = h; state = Owing })
needs (Leak h) = Some (record { handle = h; state = Free })
needs (IntoRaw h) = Some (record { handle = h; state = Free })
needs (FromRaw h) = Some (record { handle = h; state = Raw })

-- why a step that needs a handle in the first state is refused for one in the second, which is `None` for a handle that
-- was never born; `None` where the step is accepted
abbrev pub refusal_unless : HandleState → Option HandleState → Option StepFault
refusal_unless Free (Some Free) = None
refusal_unless Free (Some Raw) = Some IsRaw
refusal_unless Free (Some Dropping) = Some InDrop
refusal_unless Raw (Some Raw) = None
refusal_unless Raw (Some Free) = Some NotRaw
refusal_unless Raw (Some Dropping) = Some InDrop
refusal_unless Dropping (Some Dropping) = None
refusal_unless Dropping (Some Free) = Some NotInDrop
refusal_unless Dropping (Some Raw) = Some NotInDrop
refusal_unless Owing (Some Owing) = None
refusal_unless Owing (Some state) = Some NotOwing
refusal_unless Gone (Some Gone) = None
refusal_unless needed state = Some NoHandle

-- why a step with this need is refused, where the function has the state of each handle
abbrev pub refusal_by : (ℕ → Option HandleState) → Option Need → Option StepFault
refusal_by state None = None
refusal_by state (Some need) = refusal_unless need.state (state need.handle)
