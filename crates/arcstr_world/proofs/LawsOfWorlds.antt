-- What every world keeps: its state is that after a history, and so is sound; and each step and each list of steps keeps this.
use Rattle.arcstr_world.proofs.Names.{◌≡◌, ℕ, ◌<◌, ◌≤◌, Bool, true, false, Some, List, [], ◌∷◌, ◌++◌, length, refl, sym, ◌∙◌, ap, subst}
use Rattle.arcstr_world.proofs.Names.{arith, get_or, get_or_past, nat_lt, ltb-true, ltb-false, slice_get, slice_get_within, get_or_from_slice_get}
use Rattle.arcstr_world.proofs.Names.{∥∥₁_elim, ∥∥₁_map, props, ap₂, Reply, Step, Owing, HandleSummary, BlockSummary, is_owing, State, WorldView, start}
use Rattle.arcstr_world.proofs.Names.{Dropping}
use Rattle.arcstr_world.proofs.Names.{no_block, no_handle, block_on, state_on, word_in, given_in, step, after_from, after, replies_from}
use Rattle.arcstr_world.proofs.Names.{IsWorld, IsSound}
use Rattle.arcstr_count.proofs.LawsOfBlocks.{IsLawful, some_on, lawful_after}
use Rattle.std.specs.Prelude.{Result, Ok, Err, IfOk, IfErr}
use Rattle.arcstr_world.specs.declared.faults.RunFault.{RunFault}
use Rattle.arcstr_world.specs.declared.faults.RunFault.TheVariants.{Memory}
use Rattle.arcstr_count.proofs.LawsOfHistories.{says, after_from-step, replies_from-step, dropping_counted}

sound_after : (limit : ℕ) (history : List Step) → IsSound (after limit history)
sound_after limit history = record {
  made = each (λ (it : HandleSummary). it.block < length (after limit history).blocks) lawful.made;
  counted = each (λ (it : HandleSummary). it.state ≡ Dropping → 0 < (word_in (after limit history) it.block).count) (dropping_counted limit history);
  unfreed = each (λ (it : HandleSummary). it.state ≡ Owing → given_in (after limit history) it.block ≡ 0) unfreed;
  once = λ b. by_made b (nat_lt b (length (after limit history).blocks)) refl;
}
  where
    lawful : IsLawful limit (after limit history)
    lawful = lawful_after limit history

    each : (P : HandleSummary → Type 0) → ((h : ℕ) → h < length (after limit history).handles → P (get_or (after limit history).handles h no_handle))
        → (h : ℕ) (it : HandleSummary) → slice_get (after limit history).handles h ≡ Some it → P it
    each P all h it found = subst P (get_or_from_slice_get (after limit history).handles h it no_handle found)
        (all h (slice_get_within (after limit history).handles h it found))

    unfreed : (h : ℕ) → h < length (after limit history).handles → state_on (after limit history) h ≡ Owing
        → given_in (after limit history) (block_on (after limit history) h) ≡ 0
    unfreed h born state =
        let all = says limit (after limit history) (block_on (after limit history) h) lawful (lawful.made h born) in
        let owes = some_on (after limit history) h is_owing born (ap is_owing state) in
        omega (arith, all.one)

    by_made : (b : ℕ) (t : Bool) → nat_lt b (length (after limit history).blocks) ≡ t → given_in (after limit history) b ≤ 1
    by_made b true test =
        let all = says limit (after limit history) b lawful (ltb-true b (length (after limit history).blocks) test) in omega (arith, all.one)
    by_made b false test =
        let none =
        ap (λ (e : BlockSummary). e.given) (get_or_past (after limit history).blocks b no_block (ltb-false b (length (after limit history).blocks) test)) in
        omega arith

pub sound_world : (limit : ℕ) (state : State) → IsWorld limit state → IsSound state
sound_world limit state world = ∥∥₁_elim world.has_history (hlevel props) (λ known. subst IsSound (sym known.1) (sound_after limit known.0))

-- a world that takes a step is a world
pub world_stepped : (limit : ℕ) (old new : State) (s : Step) (reply : Reply) → IsWorld limit old → step limit old s ≡ (new, reply) → IsWorld limit new
world_stepped limit old new s reply world stepped = record {
  limited = world.limited;
  has_history = ∥∥₁_map world.has_history (λ known. (
    known.0 ++ s ∷ [],
    sym (ap (λ (t : State × Reply). t.0) stepped) ∙ ap (λ w. (step limit w s).0) known.1 ∙ sym (after_from-step limit start known.0 s),
  ));
}

-- a world that answers a step, or runs out of memory, is a world
pub world_taken : (limit : ℕ) (old new : State) (s : Step) (result : Result Reply RunFault) → IsWorld limit old
    → IfOk result (λ reply. step limit old s ≡ (new, reply)) → IfErr result (λ fault. (fault ≡ Memory) × (new ≡ old)) → IsWorld limit new
world_taken limit old new s (Ok reply) world stepped same = world_stepped limit old new s reply world stepped
world_taken limit old new s (Err fault) world stepped same = subst (IsWorld limit) (sym same.1) world

-- a world in the course of a list of steps: it has taken these steps, with these replies
pub record HasTaken (first : WorldView) (done : List Step) (world : WorldView) (replies : List Reply) : Type 0 where
  pub limited : world.limit ≡ first.limit
  pub state : world.state ≡ after_from first.limit first.state done
  pub replied : replies ≡ replies_from first.limit first.state done

pub takes_more : (first : WorldView) (done : List Step) (old new : WorldView) (replies : List Reply) (s : Step) (reply : Reply)
    → HasTaken first done old replies → step old.limit old.state s ≡ (new.state, reply) → new.limit ≡ old.limit
    → HasTaken first (done ++ s ∷ []) new (replies ++ reply ∷ [])
takes_more first done old new replies s reply before stepped same_limit = record {
  limited = same_limit ∙ before.limited;
  state = ap (λ (t : State × Reply). t.0) took ∙ sym (after_from-step first.limit first.state done s);
  replied = ap₂ (λ rs r. rs ++ r ∷ []) before.replied (ap (λ (t : State × Reply). t.1) took)
      ∙ sym (replies_from-step first.limit first.state done s);
}
  where
    took : (new.state, reply) ≡ step first.limit (after_from first.limit first.state done) s
    took = sym stepped ∙ λ i. step (before.limited i) (before.state i) s
