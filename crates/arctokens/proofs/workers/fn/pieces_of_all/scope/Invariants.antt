-- So far, the code tried to start each worker's thread, each started thread has the promise of its worker, and there is capacity for the rest.
use Rattle.std.proofs.Common.{◌≡◌, ◌<◌, ◌≤◌, ℕ, IfSome, vec_len, vec_capacity, slice_index_or}
use Rattle.arctokens.specs.Shares.{IsPromiseOf}
use Rattle.arctokens.proofs.workers.fn.pieces_of_all.scope.Given as goal

abbrev pub invariant-loop-worker : goal.invariant-loop-worker
invariant-loop-worker g l =
    record {
      one_each : vec_len l.threads ≡ l.worker;
      promised : (k : ℕ) (d : _) → k < l.worker
          → IfSome (slice_index_or l.threads.items k d) (λ thread. IsPromiseOf l.texts.now l.workers k l.gate.now thread.promise);
      room : l.workers ≤ vec_capacity l.threads;
    }
