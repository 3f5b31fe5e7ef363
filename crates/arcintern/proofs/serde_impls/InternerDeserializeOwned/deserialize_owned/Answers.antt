use Rattle.std.proofs.Common.{rules, ◌≡◌, subst, sym}
use Rattle.std.specs.String.{string_bytes}
use Rattle.serde.specs.Event.{seq_ends, text}
use Rattle.serde.specs.Steps.{Gives, Stays}
use Rattle.arcstr.specs.TextView.{TextView}
use Rattle.arcintern.specs.Serde.{GivesEach}
use Rattle.arcintern.specs.Texts.{AddsCopy}
use Rattle.arcintern.proofs.Readings.{one_more_is_given}
use Rattle.arcintern.proofs.serde_impls.InternerDeserializeOwned.deserialize_owned.Goals as goal

pub loop-interner-preserved : goal.loop-interner-preserved
loop-interner-preserved g c =
    let copy : AddsCopy c.as_str.result.now c.loop-interner.interner c.add_new.new.self = search rules in
    let same : c.as_str.result.now ≡ string_bytes c.in_ok-text.text = search rules in
    let bytes : copy.text.text ≡ string_bytes c.in_ok-text.text = cc (copy.made.text, same) in
    let look : Stays g.F.Format.stays c.loop-interner.from c.next_item.new.self = search rules in
    let read = subst (λ word. Gives g.F.Format.gives c.next_item.new.self (text word) c.string.new.self) (sym bytes) c.in_ok-text.ensures in
    let given = one_more_is_given g.F.Format.gives g.F.Format.stays (λ (one : TextView). one.text) c.loop-interner.interner copy.text
    c.begin_seq.new.self c.loop-interner.from c.next_item.new.self c.string.new.self c.loop-interner.invariant.0 look read in (
      subst (λ texts. GivesEach g.F.Format.gives g.F.Format.stays (λ (one : TextView). one.text) c.begin_seq.new.self texts c.string.new.self)
          (sym copy.added) given,
      c.add_new.ensures.once,
    )

pub returns-clause-read : goal.returns-clause-read
returns-clause-read g c =
    let ended : Gives g.F.Format.gives c.loop-interner.from seq_ends c.next_item.new.self = search rules in
    (c.begin_seq.new.self, c.loop-interner.from, c.in_ok-begin_seq.ensures, c.loop-interner.invariant.0, ended)
