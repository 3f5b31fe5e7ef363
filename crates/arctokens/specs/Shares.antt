-- Where a worker's piece comes from.
use Rattle.std.specs.Prelude.{◌≡◌, ℕ, ◌<◌, List, length, slice_index_or}
use Rattle.arcstr.specs.TextView.{TextView}
use Rattle.arctokens.specs.Pieces.{IsPieceOf}
use Rattle.arctokens.specs.declared.workers.PieceOf.{PieceOf}
use Rattle.arctokens.specs.declared.workers.Share.{Share}
use Rattle.arctokens.specs.declared.workers.Share.TheVariants.{Thread, Own}

-- the promise is that the worker passes the gate and returns its piece
pub record IsPromiseOf {G : Type 0} (texts : List TextView) (workers worker : ℕ) (gate : G) (promise : PieceOf G) : Type 0 where
  pub same_texts : promise.texts.now ≡ texts
  pub same_workers : promise.workers ≡ workers
  pub same_worker : promise.worker ≡ worker
  pub same_gate : promise.gate.now ≡ gate

-- the share belongs to the worker: it is a thread with the worker's promise, or the worker has passed the gate and the share is its piece
abbrev pub IsShare : {G : Type 0} → (G → ℕ → Type 0) → List TextView → ℕ → ℕ → G → Share G → Type 0
IsShare passed texts workers worker gate (Thread thread) = IsPromiseOf texts workers worker gate thread.promise
IsShare passed texts workers worker gate (Own piece) = IsPieceOf texts workers worker piece × passed gate worker

-- the shares of the first `count` workers, in the order of their numbers
pub record AreSharesOfFirst {G : Type 0} (passed : G → ℕ → Type 0) (texts : List TextView) (workers count : ℕ) (gate : G)
    (shares : List (Share G)) : Type 0 where
  pub one_each : length shares ≡ count
  pub share : (worker : ℕ) (d : Share G) → worker < count → IsShare passed texts workers worker gate (slice_index_or shares worker d)
