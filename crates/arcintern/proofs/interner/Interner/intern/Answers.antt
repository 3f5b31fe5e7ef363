use Rattle.std.proofs.Common.{rules, ◌≡◌, ℕ, List, [], ◌∷◌, ◌++◌}
use Rattle.std.specs.Prelude.{Result, Ok, Err, OnOk}
use Rattle.arcstr.specs.TextView.{TextView, IsMadeOf}
use Rattle.arcintern.specs.Texts.{AddsCopy}
use Rattle.arcintern.specs.declared.fault.InternFault.{InternFault}
use Rattle.arcintern.proofs.interner.Interner.intern.Goals as goal

-- a text that was made of a word, and is added, is a copy of the word that is added
adds_copy : (word : List ℕ) (old new : List TextView) (text : TextView) (answer : Result ℕ InternFault)
    → IsMadeOf word text → OnOk answer (new ≡ old ++ text ∷ []) → OnOk answer (AddsCopy word old new)
adds_copy word old new text (Ok symbol) made added = record { text = text; made = made; added = added }
adds_copy word old new text (Err fault) made added = added

pub returns-clause-interns : goal.returns-clause-interns
returns-clause-interns g c =
    let added : OnOk c.push.result (c.push.new.self.texts ≡ c.args.self.now ++ c.in_ok-text.text ∷ []) = search rules in
    let copied = adds_copy c.args.word.now c.args.self.now c.push.new.self.texts c.in_ok-text.text c.push.result c.in_ok-text.ensures.made added in
    record {
      found = search rules;
      known = search rules;
      same = search rules;
      added = λ _. copied;
      kept = search rules;
      once = search rules;
      refused = search rules;
      full = search rules;
    }
