use Rattle.arcstr_world.proofs.Names.{sym, subst, refl, ◌<◌}
use Rattle.arcstr_count.specs.Word.{FlagAndCount}
use Rattle.arcstr_world.proofs.worlds.Tables.sub.Goals as goal

pub dropped-word-requires : goal.dropped-word-requires
dropped-word-requires g c =
    subst (λ (w : FlagAndCount). 0 < w.count) (sym c.word.ensures) (c.requires.counted c.args.handle _ c.in-Ok.ensures.found refl)
