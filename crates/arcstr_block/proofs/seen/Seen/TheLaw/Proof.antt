-- A `&` to a `Seen` holds what the `Seen` has: the fact can be duplicated. Assumes `Logic`.
use Rattle.arcstr_block.proofs.Names.{before, snd∗, unit, copy_shared, field_copy, of_Lends, sem, lends_twice, reached}
use Rattle.arcstr_block.proofs.Book.{reached_twice}
use Rattle.arcstr_block.proofs.seen.Seen.TheLaw.Statement.{statement}
use Rattle.core.specs.contracts.marker.PhantomData as Marker
use Rattle.arcstr_block.specs.contracts.seen.Seen as C

pub shares : statement
shares = of_Lends C.struct (C.the_codes (Marker.the_row unit).coded) C.the_heap C.the_lent
    (λ d p. record {
      contraction = λ M 𝓤 𝓛 κ. reached_twice 𝓛 0 d.block.history 0 d.history;
      mono = λ M 𝓤 𝓛 κ' κ. snd∗ 𝓤 (sem 𝓛 (before κ' κ)) (sem 𝓛 (reached d.block.history d.history));
    })
    (copy_shared (Marker.the_field unit) (field_copy (Marker.the_type unit) tt), tt)
    (λ M 𝓤 𝓛 d p. lends_twice 𝓛 (reached d.block.history d.history) (reached_twice 𝓛 0 d.block.history 0 d.history) C.the_row.lives)
