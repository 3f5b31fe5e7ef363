use Rattle.std.proofs.Common.{rules, ◌≡◌, ℕ, List, [], ◌∷◌, ◌++◌, subst, sym}
use Rattle.std.specs.String.{string_bytes}
use Rattle.serde.specs.Event.{seq_ends, text}
use Rattle.serde.specs.Steps.{Gives, Stays}
use Rattle.arcintern.specs.Serde.{GivesEach}
use Rattle.arcintern.proofs.Readings.{one_more_is_given}
use Rattle.arcintern.proofs.serde_impls.WordListDeserializeOwned.deserialize_owned.Goals as goal

pub loop-list-preserved : goal.loop-list-preserved
loop-list-preserved g c =
    let added : c.add_new.new.self ≡ c.loop-list.list ++ c.as_str.result.now ∷ [] = search rules in
    let bytes : c.as_str.result.now ≡ string_bytes c.in_ok-text.text = search rules in
    let look : Stays g.F.Format.stays c.loop-list.from c.next_item.new.self = search rules in
    let read = subst (λ word. Gives g.F.Format.gives c.next_item.new.self (text word) c.string.new.self) (sym bytes) c.in_ok-text.ensures in
    let given = one_more_is_given g.F.Format.gives g.F.Format.stays (λ (one : List ℕ). one) c.loop-list.list c.as_str.result.now
    c.begin_seq.new.self c.loop-list.from c.next_item.new.self c.string.new.self c.loop-list.invariant.0 look read in (
      subst (λ texts. GivesEach g.F.Format.gives g.F.Format.stays (λ (one : List ℕ). one) c.begin_seq.new.self texts c.string.new.self)
          (sym added) given,
      c.add_new.ensures.once,
    )

pub returns-clause-read : goal.returns-clause-read
returns-clause-read g c =
    let ended : Gives g.F.Format.gives c.loop-list.from seq_ends c.next_item.new.self = search rules in
    (c.begin_seq.new.self, c.loop-list.from, c.in_ok-begin_seq.ensures, c.loop-list.invariant.0, ended)
