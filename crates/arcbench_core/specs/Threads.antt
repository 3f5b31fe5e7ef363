-- What the program prints of callers in threads, the faults of the pool of threads, and what contracts see of a port.
use Rattle.std.specs.Prelude.{◌≡◌, ℕ, ◌<◌, List, [], ◌∷◌, ◌++◌, length, map, slice_index_or, codes, Bool}
use Rattle.std.specs.Fmt.{decimal}
use Rattle.std.specs.List.{concat}
use Rattle.arcstr.specs.TextView.{TextView}
use Rattle.arcstr_count.specs.Model.{numbers_below}
use Rattle.arcbench_core.specs.declared.pool.PoolFault.{PoolFault}
use Rattle.arcbench_core.specs.declared.pool.PoolFault.TheVariants.{Memory, NoThread}
use Rattle.arcbench_core.specs.Line.{newline}

-- the text that the callers share
abbrev pub shared_text : List ℕ
shared_text = codes "foobar"

-- each handle of a list reads that text
abbrev pub ReadSharedText : List TextView → Type 0
ReadSharedText handles = (worker : ℕ) (d : TextView) → worker < length handles → (slice_index_or handles worker d).text ≡ shared_text

-- the line of a worker: its number, and the text as it reads it
abbrev pub worker_line : ℕ → List ℕ
worker_line worker = codes "worker " ++ decimal worker ++ codes " " ++ shared_text ++ newline ∷ []

-- the lines of the workers, in the order of their numbers
abbrev pub worker_lines : ℕ → List ℕ
worker_lines workers = concat (map worker_line (numbers_below workers))

-- all that is printed for this many workers
abbrev pub threads_answer : ℕ → List ℕ
threads_answer workers = worker_lines workers ++ codes "done " ++ decimal workers ++ newline ∷ []

-- ---- the faults of the pool

abbrev pub pool_fault_number : PoolFault → ℕ
pool_fault_number Memory = 1
pool_fault_number NoThread = 2

abbrev pub pool_fault_text : PoolFault → List ℕ
pool_fault_text Memory = codes "out of memory"
pool_fault_text NoThread = codes "no thread"

-- ---- what contracts see of a port

-- the reader or the writer, and whether it failed
pub record PortView (T : Type 0) : Type 0 where
  pub value : T
  pub failed : Bool
