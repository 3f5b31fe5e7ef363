-- So far each worker's thread was started, and there is room for all. Each thread promises a handle on the text, from the worker with
-- its own number, which has passed the gate.
use Rattle.std.proofs.Common.{◌≡◌, ℕ, ◌<◌, ◌≤◌, vec_len, vec_items, vec_capacity, get_or}
use Rattle.arcbench_core.proofs.pool.fn.callers.scope.Given as goal

abbrev pub invariant-loop-worker : goal.invariant-loop-worker
invariant-loop-worker g l = record {
  started : vec_len l.started ≡ l.worker;
  room : l.workers ≤ vec_capacity l.started;
  texts : (k : ℕ) (d : _) → k < vec_len l.started → (get_or (vec_items l.started) k d).promise.text.now ≡ l.text.now;
  gates : (k : ℕ) (d : _) → k < vec_len l.started → (get_or (vec_items l.started) k d).promise.gate.now ≡ l.gate.now;
  numbers : (k : ℕ) (d : _) → k < vec_len l.started → (get_or (vec_items l.started) k d).promise.worker ≡ k;
}
