-- How a walk ends of a function that keeps nothing of its parameters, and whose clauses are facts. Assumes `Logic`.
use Rattle.arcstr_block.proofs.Names.{ℕ, [], ◌∷◌, List, Ura, Val, Fml, emp, id⊢, SProp, ent, sep, fact_i, Valss, types_at, nothing, alive, Stays}
use Rattle.arcstr_block.proofs.Names.{stay_dropped, walk_of, Goes-dropped, ‵, ◌$◌, ◌∵◌, !, qed, use0, fjoin, done, raw, by, keep, Logic, sem, leaves}
use contract.Lifetimes.{Lfts}
use contract.Monad.{fact as said}
use denote.RattleType.{Denots}
use denote.Signature.{Slot, Signature, type_at}
use denote.Triple.Clauses.{Clauses, Ended, Lasts, at_exit}
use denote.Triple.End.{Kepts, Fins}
use denote.Triple.Entry.{Res}
use denote.Triple.Statement.{Contract}
use denote.Triple.Walked.{AllGo, Silent, fits_of, has_of}

module _ {n : ℕ} where
  abbrev dropped : (ss : List (Slot n)) (ks : Kepts ss) → Stays ss ks
  dropped [] ks = tt
  dropped (s ∷ ss) ks = (stay_dropped s ks.0, dropped ss ks.1)

module _ {M : Type 1} {𝓤 : Ura M} (𝓛 : Logic 𝓤) (n : ℕ) where
  abbrev AllSilent : (ss : List (Slot n)) → Kepts ss → Type 1
  AllSilent [] ks = Unit {1}
  AllSilent (s ∷ ss) ks = Silent 𝓛 n s ks.0 × AllSilent ss ks.1

  go : (ss : List (Slot n)) (ks : Kepts ss) → AllSilent ss ks → AllGo 𝓛 n ss ks (dropped ss ks)
  go [] ks silent = tt
  go (s ∷ ss) ks silent = (Goes-dropped 𝓛 n s ks.0 silent.0, go ss ks.1 silent.1)

  all_fit : (κs : Lfts n) (ss : List (Slot n)) (ks : Kepts ss) (a : Denots (types_at ss κs)) (ws : Fins κs ss ks a) → fits_of κs ss ks (dropped ss ks) a ws
  all_fit κs [] ks a ws = tt
  all_fit κs (s ∷ ss) ks a ws = (tt, all_fit κs ss ks.1 a.1 ws.1)

  none_left : (κs : Lfts n) (ss : List (Slot n)) (ks : Kepts ss) (a : Denots (types_at ss κs)) (ws : Fins κs ss ks a) (vss : Valss (types_at ss κs))
      → ent 𝓤 (emp 𝓤) (sem 𝓛 (has_of κs ss ks (dropped ss ks) a ws vss))
  none_left κs [] ks a ws vss = id⊢ 𝓤 (emp 𝓤)
  none_left κs (s ∷ ss) ks a ws vss = qed 𝓛 [] ∵ use0 𝓛 (‵ (has_of κs ss ks.1 (dropped ss ks.1) a.1 ws.1 vss.1)) (none_left κs ss ks.1 a.1 ws.1 vss.1) $
      nothing ! $ fjoin ! $ done !

abbrev pub all_dropped : (T : Ended) → Stays T.signature.params T.kept
all_dropped T = dropped T.signature.params T.kept

module _ {M : Type 1} {𝓤 : Ura M} (𝓛 : Logic 𝓤) where
  pub all_go : (T : Ended) → AllSilent 𝓛 T.signature.lifetimes T.signature.params T.kept
      → AllGo 𝓛 T.signature.lifetimes T.signature.params T.kept (all_dropped T)
  all_go T = go 𝓛 T.signature.lifetimes T.signature.params T.kept

  -- a clause that holds, and others
  pub also : {X : Type 0} {Q : SProp 𝓤} → X → ent 𝓤 (emp 𝓤) Q → ent 𝓤 (emp 𝓤) (sep 𝓤 (said 𝓤 X) Q)
  also {X = X} {Q = Q} x h = qed 𝓛 [] ∵ use0 𝓛 (raw Q) h $ use0 𝓛 (raw (said 𝓤 X)) (fact_i 𝓤 X (emp 𝓤) x) $ done !

module _ {M : Type 1} {𝓤 : Ura M} (𝓛 : Logic 𝓤) (T : Ended) (c : Clauses 𝓤 T) where
  abbrev S : Signature
  S = T.signature

  abbrev hs : Stays S.params T.kept
  hs = all_dropped T

  abbrev pub Walk : Contract 𝓤
  Walk = walk_of 𝓛 T hs c

  -- the result and the tokens; the `ensures` states facts
  pub ends : (y : Walk.Ghost) (v : Val) (r : Res S y.0.0) (ws : Lasts T y.0.0 y.0.3) → ent 𝓤 (emp 𝓤) ((c y.0.0 y.0.3).ensures y.1 r (at_exit T y.0.0 y.0.3 ws))
      → ent 𝓤 (sep 𝓤 (sem 𝓛 ((type_at S.result y.0.0).own_val r (v ∷ []))) (alive 𝓛 S y.0.0 y.0.1)) (Walk.post y v)
  ends y v r ws holds = let left : Fml = has_of y.0.0 S.params T.kept hs y.0.3 ws y.0.4 in
      let E : SProp 𝓤 = (c y.0.0 y.0.3).ensures y.1 r (at_exit T y.0.0 y.0.3 ws) in
      qed 𝓛 (‵ ((type_at S.result y.0.0).own_val r (v ∷ [])) ∷ raw (alive 𝓛 S y.0.0 y.0.1) ∷ []) ∵
      use0 𝓛 (‵ left) (none_left 𝓛 S.lifetimes y.0.0 S.params T.kept y.0.3 ws y.0.4) $ use0 𝓛 (raw E) holds $ keep ! (3 ∷ 1 ∷ 2 ∷ 0 ∷ []) $
      by ! (leaves 𝓛 T hs c y v r ws (all_fit 𝓛 S.lifetimes y.0.0 S.params T.kept y.0.3 ws))
