use Rattle.std.proofs.Common.{ℕ, List}
use Rattle.serde.specs.Event.{Logs, text}
use Rattle.serde.proofs.Events.{WritesUpTo}
use Rattle.arcintern.proofs.serde_impls.WordListSerialize.serialize.Given as goal

abbrev pub invariant-loop-text : goal.invariant-loop-text
invariant-loop-text g l =
    WritesUpTo (λ (one : List ℕ) old new. Logs old new (text one)) l.self l.text-iterator (g.W.Serializer.written l.initial.out) (g.W.Serializer.written l.out)
