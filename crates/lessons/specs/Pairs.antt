-- What contracts say of two slices.
use Rattle.std.specs.Prelude.{◌≡◌}
use Rattle.arcstr.specs.Substr.{SubstrView}
use Rattle.arcstr.specs.TextView.{TextView}

-- both slices are parts of this text
abbrev pub ShareParent : TextView → SubstrView × SubstrView → Type 0
ShareParent parent pair = (pair.0.parent ≡ parent) × (pair.1.parent ≡ parent)
