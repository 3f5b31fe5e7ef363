-- What follows from the ends of two handles on one text, of which the second is dropped after all that the first drop had seen.
use Rattle.std.proofs.Common.{◌≡◌, ◌≢◌, ℕ, List, Option, None, Some, refl, sym, subst, inl, ◌∙◌}
use Rattle.std.specs.Prelude.{IfSome, IsSomeAnd}
use Rattle.arcstr_count.specs.declared.steps.Step.{Step}
use Rattle.arcstr_count.specs.declared.words.TheConstants.{RC_MAX}
use Rattle.arcstr_count.specs.OneBlock.{IsOneBlock, IsInUse}
use Rattle.arcstr_block.specs.Book.{IsLater}
use Rattle.arcstr_block.specs.Ending.{EndedAs, IsFreedBy}
use Rattle.arcstr_block.specs.declared.ending.End.{End}
use Rattle.arcstr_block.specs.declared.ending.End.TheVariants.{Ended, Left, Freed}
use Rattle.arcstr_block.specs.declared.seen.Seen.{Seen}
use Rattle.arcstr_block.proofs.Histories.{nothing_follows_the_free, a_marked_block_stays}
use Rattle.arcstr.specs.TextView.{Kind, IsStatic}
use Rattle.arcstr.specs.History.{IsSeenEnd, SeesAfter}
use Rattle.lessons.specs.History.{FreesSecond, OfBoth, IsSeenInUse}

one_block : (history : List Step) (h : ℕ) (answer : End) → EndedAs RC_MAX history h answer → IsOneBlock RC_MAX history
one_block history h Ended ended = ended.0.one_block
one_block history h Left ended = ended.0.one_block
one_block history h Freed ended = ended.freed.one_block

module _ (kind : Kind) (first second : End) where
  -- the first handle does not free the block, whose clone lives
  pub first_stays : (born seen last : Option Seen) → SeesAfter kind born seen → IsSeenEnd first seen → (IsStatic kind → first ≡ Ended)
      → SeesAfter kind seen last → IsSeenEnd second last → first ≢ Freed
  first_stays born None last sees ends never after then is = let both : Ended ≡ Freed = sym (never (sees.none.0 refl)) ∙ is in cc
  first_stays born (Some old) None sees ends never after then is = let none = sees.none.1 (after.none.0 refl) in cc
  first_stays born (Some old) (Some new) sees ends never after then is =
      let freed : IsFreedBy RC_MAX old.history ends.0 = subst (EndedAs RC_MAX old.history ends.0) is ends.1 in
      nothing_follows_the_free RC_MAX old.history new.history ends.0 freed.freed (one_block new.history then.0 second then.1) after.later

  -- if the second handle frees the block, the first one was subtracted before
  frees : (old new : Seen) (h k : ℕ) → EndedAs RC_MAX old.history h first → EndedAs RC_MAX new.history k second
      → SeesAfter kind (Some old) (Some new) → first ≢ Freed → second ≡ Freed → FreesSecond old.history new.history
  frees old new h k one other after stays is = by_first first one stays
    where
      freed : IsFreedBy RC_MAX new.history k
      freed = subst (EndedAs RC_MAX new.history k) is other

      by_first : (answer : End) → EndedAs RC_MAX old.history h answer → answer ≢ Freed → FreesSecond old.history new.history
      by_first Ended ended stays = absurd (a_marked_block_stays RC_MAX old.history new.history k ended.1 freed.freed after.later)
      by_first Left ended stays = record {
        begins = after.later;
        one = h;
        left = ended.0;
        other = k;
        freed = freed;
        once = λ earlier j was later. nothing_follows_the_free RC_MAX earlier new.history j was freed.freed.one_block later;
      }
      by_first Freed ended stays = absurd (stays refl)

  pub second_frees : (born seen last : Option Seen) → SeesAfter kind born seen → IsSeenEnd first seen → (IsStatic kind → first ≡ Ended)
      → SeesAfter kind seen last → IsSeenEnd second last → (IsStatic kind → second ≡ Ended) → second ≡ Freed → OfBoth FreesSecond seen last
  second_frees born None last sees ends never after then static is = let both : Ended ≡ Freed = sym (static (sees.none.0 refl)) ∙ is in cc
  second_frees born (Some old) None sees ends never after then static is = let both : Ended ≡ Freed = sym (static (after.none.0 refl)) ∙ is in cc
  second_frees born (Some old) (Some new) sees ends never after then static is =
      frees old new ends.0 then.0 ends.1 then.1 after (first_stays born (Some old) (Some new) sees ends never after then) is

-- what a call has seen begins with what the call before it has seen
pub begins_with : (kind : Kind) (before now : Option Seen) → SeesAfter kind None before → SeesAfter kind before now
    → IfSome now (λ new. IsSomeAnd before (λ old. IsLater old.history new.history))
begins_with kind before None sees after = tt
begins_with kind None (Some new) sees after = let none = after.none.1 (sees.none.0 refl) in cc
begins_with kind (Some old) (Some new) sees after = after.later

-- a handle that does not free its block leaves it in use
in_use : (history : List Step) (h : ℕ) (answer : End) → EndedAs RC_MAX history h answer → answer ≢ Freed → IsInUse RC_MAX history
in_use history h Ended ended stays = record { one_block = ended.1.one_block; used = inl ended.1.marked }
in_use history h Left ended stays = ended.1
in_use history h Freed ended stays = absurd (stays refl)

pub stays_in_use : (answer : End) (seen : Option Seen) → IsSeenEnd answer seen → answer ≢ Freed → IsSeenInUse seen
stays_in_use answer None ends stays = tt
stays_in_use answer (Some seen) ends stays = in_use seen.history ends.0 answer ends.1 stays

-- the function whose proof uses this ruleset names it
pub ruleset how_both_end = (begins_with, first_stays, second_frees, stays_in_use)
