-- What is returned is what was joined, and as many threads were started as there are workers.
use Rattle.std.proofs.Common.{◌≡◌, ℕ, ◌<◌, Result, Ok, Err, Vec, vec_len, vec_items, get_or, Global, subst, arith}
use Rattle.std.specs.Prelude.{IfOk, OnOk}
use Rattle.std.proofs.lemmas.Result.{IfOk-at_ok}
use Rattle.arcbench_core.proofs.pool.fn.callers.scope.Goals as goal

handed_out : {X E F : Type 0} (joined : Result (Vec X Global) E) (result : Result (Vec X Global) F)
    → (started workers : ℕ) (Same : X → Type 0) (Passed : ℕ → Type 0)
    → IfOk result (λ all. (joined ≡ Ok all) × (vec_len all ≡ workers))
    → IfOk joined (λ all. vec_len all ≡ started)
    → IfOk joined (λ all. (worker : ℕ) (d : X) → worker < started → Same (get_or (vec_items all) worker d))
    → OnOk joined ((worker : ℕ) → worker < started → Passed worker)
    → IfOk result (λ all. vec_len all ≡ workers)
    × IfOk result (λ all. (worker : ℕ) (d : X) → worker < workers → Same (get_or (vec_items all) worker d))
    × OnOk result ((worker : ℕ) → worker < workers → Passed worker)
handed_out {X = X} {E = E} joined (Ok all) started workers Same Passed from count texts passes =
    let as_many : vec_len all ≡ started = IfOk-at_ok (λ (v : Vec X Global). vec_len v ≡ started) from.0 count in
    let Each : Vec X Global → Type 0 = λ v. (worker : ℕ) (d : X) → worker < started → Same (get_or (vec_items v) worker d) in
    let On : Result (Vec X Global) E → Type 0 = λ j. OnOk j ((worker : ℕ) → worker < started → Passed worker) in (
      from.1,
      (λ worker d below. IfOk-at_ok Each from.0 texts worker d (omega (arith, as_many, from.1))),
      (λ worker below. subst On from.0 passes worker (omega (arith, as_many, from.1))),
    )
handed_out joined (Err fault) started workers Same Passed from count texts passes = (tt, tt, tt)

pub returns : goal.returns
returns g c =
    let Same : _ → Type 0 = λ handle. handle ≡ c.captures.text.now in
    let Passed = g.G.Gate.passed c.captures.gate.now in
    let from = c.check_all_started.ensures.ok in
    let known = c.join_all.ensures in
    let found = handed_out c.join_all.result c.check_all_started.result _ c.captures.workers Same Passed from known.one_each known.same_text known.all_passed in
    record { one_each = found.0; same_text = found.1; all_passed = found.2 }
