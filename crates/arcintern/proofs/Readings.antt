-- What a format has given of a list of texts.
use Rattle.std.proofs.Common.{ℕ, List, [], ◌∷◌, ◌++◌, refl, subst}
use Rattle.serde.specs.Event.{Event, text}
use Rattle.serde.specs.Steps.{Gives, Stays}
use Rattle.serde.specs.declared.deserializer.Deserializer.{Deserializer}
use Rattle.arcintern.specs.Serde.{GivesEach}

-- one more text was given
pub one_more_is_given : {F E M X : Type 0} (gives : F → List ℕ → Event → F → Type 0) (stays : F → F → Type 0) (bytes : X → List ℕ)
    (texts : List X) (one : X) (old last looked new : Deserializer F E M) → GivesEach gives stays bytes old texts last
    → Stays stays last looked → Gives gives looked (text (bytes one)) new → GivesEach gives stays bytes old (texts ++ one ∷ []) new
one_more_is_given gives stays bytes [] one old last looked new given look read =
    (looked, new, subst (λ from. Stays stays from looked) given look, read, refl)
one_more_is_given gives stays bytes (first ∷ texts) one old last looked new given look read =
    (given.0, given.1, given.2, given.3, one_more_is_given gives stays bytes texts one given.1 last looked new given.4 look read)
