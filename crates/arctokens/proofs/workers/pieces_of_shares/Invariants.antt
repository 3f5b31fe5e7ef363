-- So far, there is a piece for each share and its worker has passed the gate, or an allocation of some share failed; and there is capacity for the rest.
use Rattle.std.proofs.Common.{◌≡◌, ◌<◌, ◌≤◌, ℕ, length, vec_len, vec_capacity}
use Rattle.arctokens.specs.Pieces.{ArePiecesOfFirst}
use Rattle.arctokens.proofs.workers.pieces_of_shares.Given as goal

abbrev pub invariant-loop-share : goal.invariant-loop-share
invariant-loop-share g l =
    record {
      at_most : vec_len l.pieces ≤ length l.yielded;
      whole : vec_len l.pieces ≡ length l.yielded → ArePiecesOfFirst l.texts l.workers (length l.yielded) l.pieces.items;
      passed : vec_len l.pieces ≡ length l.yielded → (worker : ℕ) → worker < length l.yielded → g.G.Gate.passed l.gate worker;
      room : l.workers ≤ vec_capacity l.pieces;
    }
