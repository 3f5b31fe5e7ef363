use Rattle.std.proofs.Common.{rules, ◌≡◌, subst}
use Rattle.std.specs.Prelude.{OnOk}
use Rattle.arcintern.specs.Serde.{WritesTexts}
use Rattle.arcstr.specs.TextView.{TextView}
use Rattle.arcintern.proofs.serde_impls.InternerSerialize.serialize.Goals as goal

pub returns : goal.returns
returns g c =
    let same : c.as_slice.result.now ≡ c.args.self.now = search rules in
    record {
      written = subst (λ texts. OnOk c.serialize.result (WritesTexts (λ (one : TextView). one.text) texts (g.W.Serializer.written c.args.out.now)
          (g.W.Serializer.written c.serialize.new.out))) same c.serialize.ensures;
    }
