use Rattle.std.proofs.Common.{◌≡◌, ℕ, List, length, Some, subst, arith, rules}
use Rattle.std.proofs.lemmas.Grind.{common_steps}
use Rattle.std.proofs.lemmas.Result.{on_ok_weaker}
use Rattle.serde.specs.Event.{Logs, seq_begins, text}
use Rattle.serde.proofs.Events.{WritesUpTo-all, WritesUpTo-more}
use Rattle.arcintern.proofs.serde_impls.WordListSerialize.serialize.Goals as goal

pub loop-text-preserved : goal.loop-text-preserved
loop-text-preserved g c =
    WritesUpTo-more (λ (one : List ℕ) old new. Logs old new (text one)) _ _ _ c.in-Some.text.now _ _ _ c.loop-text.invariant c.in-Some.ensures.steps
    c.in_ok-str.ensures

pub returns : goal.returns
returns g c =
    let len : c.len.result ≡ length c.args.self.now = search rules in
    let begun = subst (λ n. Logs (g.W.Serializer.written c.args.out.now) (g.W.Serializer.written c.begin_seq.new.self) (seq_begins (Some n))) len
    c.in_ok-begin_seq.ensures in
    let each = WritesUpTo-all (λ (one : List ℕ) old new. Logs old new (text one)) _ _ _ _ c.loop-text.invariant
    (grind (arith, common_steps, c.in-None.ensures.steps.0)) in
    record { written = on_ok_weaker c.end_seq.result (λ ended. (_, _, begun, each, ended)) c.end_seq.ensures }
