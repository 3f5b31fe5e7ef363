-- A history of one block, its count word and its seats.
--
-- We show for each step of a handle whose seat has the state that the step needs that the step is accepted and keeps the history: the step function
-- computes its reply, the new count word and the new seats from those that the history leaves.
use Rattle.arcstr_count.proofs.Names.{◌≡◌, ℕ, ◌+◌, ◌<◌, ◌≤◌, ◌&&◌, Bool, true, false, if◌then◌else◌, IsFalse, is_none, None, Some}
use Rattle.arcstr_count.proofs.Names.{List, [], ◌∷◌, ◌++◌, map, length, filter, slice_get, get_or, set, refl, sym, ◌∙◌, ap, subst, arith, suc}
use Rattle.arcstr_count.proofs.Names.{map_push, map-set, length-map, length-set, get_or-set_same}
use Rattle.arcstr_count.proofs.Names.{Step, Make, Look, Clone, Begin, Sub, Back, Leak, HandleState, Free, Dropping, Owing, Gone, HandleSummary, BlockSummary}
use Rattle.arcstr_count.proofs.Names.{Reply}
use Rattle.arcstr_count.proofs.Names.{Count, Handle, Looked, Ended, Left, Owes, Given, Marked, Static, FlagAndCount, fresh_word, looked_of, cloned_of}
use Rattle.arcstr_count.proofs.Names.{dropped_of, is_last, marked_of}
use Rattle.arcstr_count.proofs.Names.{needs, refusal_by, refusal_unless, State, after, start, no_handle, no_block, block_on, state_in, word_in, word_on}
use Rattle.arcstr_count.proofs.Names.{given_in, given_after}
use Rattle.arcstr_count.proofs.Names.{handles_with_state, blocks_with_word, blocks_with_given, accepted, refusal_in, unless_refused, step, look_reply, lives}
use Rattle.arcstr_count.proofs.Names.{is_dropping}
use Rattle.std.specs.Prelude.{◌-◌, IfSome}
use Rattle.arcstr_count.proofs.Names.{is_owing, makes_after, marked_after, handles_on, are_accepted, Keeps, EndsIn, after_from, and_parts, ◌⊎◌, inl, inr}
use Rattle.arcstr_count.proofs.Names.{nil_from_length, length_push, zero, word_after, living_after, word_on, IsOneBlock, IsInUse}
use Rattle.arcstr_count.proofs.LawsOfBlocks.{IsIn, some_on, is_in_state, accepts_needed, lawful_after, count, count-same, count_entries, passes_on, none_of}
use Rattle.arcstr_count.proofs.LawsOfBlocks.{finds}
use Rattle.arcstr_count.proofs.LawsOfHistories.{SaysOfBlock, after-accepted, after_from-append, says, stands, dropping_counted, made_stays}
use Rattle.std.proofs.lemmas.List.{get_or-map}
use Rattle.std.proofs.lemmas.List.Sums.{length-filter}
use Rattle.std.proofs.lemmas.Option.{slice_get-map}

-- ---- what a seat says

module _ (limit : ℕ) (r : List Step) (w : FlagAndCount) (seats : List HandleState) (keeps : Keeps limit r w seats) where
  -- a handle that has a seat is in the state that the seat holds
  seat_is : (h : ℕ) (state : HandleState) → slice_get seats h ≡ Some state → state_in (after limit r) h ≡ Some state
  seat_is h state seat = sym (slice_get-map (λ (it : HandleSummary). it.state) (after limit r).handles h)
      ∙ ap (λ states. slice_get states h) (sym keeps.states) ∙ seat

  made_one : 0 < makes_after limit r
  made_one = let one = keeps.one_block.made in omega arith

  -- the one block is block 0, and its word is the one that is kept
  on_first_block : (h : ℕ) (state : HandleState) → slice_get seats h ≡ Some state → block_on (after limit r) h ≡ 0
  on_first_block h state seat =
      let below = (lawful_after limit r).made h (is_in_state (after limit r) h state (seat_is h state seat)).born in
      let one = keeps.one_block.made in omega arith

  word_is : (h : ℕ) (state : HandleState) → slice_get seats h ≡ Some state → word_on (after limit r) h ≡ w
  word_is h state seat = ap (λ b. word_in (after limit r) b) (on_first_block h state seat) ∙ sym keeps.left

-- ---- each step, accepted, with its answer and what it keeps

-- what an accepted step does to the history, the word and the seats
pub record Prolongs (limit : ℕ) (r : List Step) (s : Step) (reply : Reply) (w : FlagAndCount) (seats : List HandleState) : Type 0 where
  pub keeps : Keeps limit (r ++ s ∷ []) w seats
  pub ends : EndsIn limit (r ++ s ∷ []) s reply

pub keeps-make : (limit : ℕ) → Keeps limit (Make ∷ []) fresh_word (Free ∷ [])
keeps-make limit = record {
  one_block = record { made = refl; accepted = refl };
  left = refl;
  states = refl;
}

-- steps after others are accepted if they are accepted in the state after these
accepted-append : (limit : ℕ) (w : State) (xs ys : List Step)
    → are_accepted limit w (xs ++ ys) ≡ (are_accepted limit w xs && are_accepted limit (after_from limit w xs) ys)
accepted-append limit w [] ys = refl
accepted-append limit w (x ∷ xs) ys =
    ap (λ t. is_none (refusal_in w x) && t) (accepted-append limit (step limit w x).0 xs ys)
    ∙ both (is_none (refusal_in w x)) (are_accepted limit (step limit w x).0 xs) (are_accepted limit (after_from limit (step limit w x).0 xs) ys)
  where
    both : (a b c : Bool) → (a && (b && c)) ≡ ((a && b) && c)
    both a b c = grind arith

-- what an accepted step leaves of the one block and the seats, with its reply
record Leaves (p : State) (taken : State × Reply) (reply : Reply) (w : FlagAndCount) (seats : List HandleState) : Type 0 where
  answer : taken.1 ≡ reply
  blocks : length taken.0.blocks ≡ length p.blocks
  word : w ≡ word_in taken.0 0
  states : seats ≡ map (λ (it : HandleSummary). it.state) taken.0.handles

states-with_state : (hs : List HandleSummary) (h : ℕ) (new : HandleState)
    → set (map (λ (it : HandleSummary). it.state) hs) h new ≡ map (λ (it : HandleSummary). it.state) (handles_with_state hs h new)
states-with_state hs h new = sym (map-set (λ (it : HandleSummary). it.state) hs h (record { block = (get_or hs h no_handle).block; state = new }))

module _ (limit : ℕ) (r : List Step) (w : FlagAndCount) (seats : List HandleState) (h : ℕ) (keeps : Keeps limit r w seats) where
  abbrev p : State
  p = after limit r

  -- a step of a handle whose seat has the state that the step needs
  keeps-step : (s : Step) (needed : HandleState) (reply : Reply) (new : FlagAndCount) (new_seats : List HandleState)
      → needs s ≡ Some (record { handle = h; state = needed }) → slice_get seats h ≡ Some needed
      → Leaves p (accepted limit p s) reply new new_seats → Prolongs limit r s reply new new_seats
  keeps-step s needed reply new new_seats need seat leaves = record {
    keeps = record {
      one_block = one;
      left = leaves.word ∙ ap (λ (v : State). word_in v 0) (sym state);
      states = leaves.states ∙ ap (λ (v : State). map (λ (it : HandleSummary). it.state) v.handles) (sym state);
    };
    ends = record { one_block = one; prefix = r; ends = refl; answered = ap (λ o. (unless_refused o p (accepted limit p s)).1) open_to ∙ leaves.answer };
  }
    where
      open_to : refusal_in (after limit r) s ≡ None
      open_to = ap (λ n. refusal_by (λ k. state_in (after limit r) k) n) need
          ∙ ap (refusal_unless needed) (seat_is limit r w seats keeps h needed seat) ∙ accepts_needed needed

      state : after limit (r ++ s ∷ []) ≡ (accepted limit (after limit r) s).0
      state = after-accepted limit r s open_to

      one : Rattle.arcstr_count.specs.OneBlock.IsOneBlock limit (r ++ s ∷ [])
      one = record {
        made = ap (λ (v : State). length v.blocks) state ∙ leaves.blocks ∙ keeps.one_block.made;
        accepted = accepted-append limit start r (s ∷ [])
            ∙ ap (λ t. t && (is_none (refusal_in (after limit r) s) && true)) keeps.one_block.accepted ∙ ap (λ o. is_none o && true) open_to;
      }

  -- where the word of the handle's block changes
  abbrev with_word : FlagAndCount → List BlockSummary
  with_word new = blocks_with_word (after limit r).blocks (block_on (after limit r) h) new

  length-with_word : (new : FlagAndCount) → length (with_word new) ≡ length (after limit r).blocks
  length-with_word new = length-set (after limit r).blocks (block_on (after limit r) h) _

  word_changed : (state : HandleState) → slice_get seats h ≡ Some state → (F : FlagAndCount → FlagAndCount)
      → F w ≡ (get_or (with_word (F (word_on (after limit r) h))) 0 no_block).word
  word_changed state seat F =
      let on = on_first_block limit r w seats keeps h state seat in
      ap F (sym (word_is limit r w seats keeps h state seat))
      ∙ sym (ap (λ (e : BlockSummary). e.word) (ap (λ b. get_or (with_word (F (word_on (after limit r) h))) b no_block) (sym on)
      ∙ get_or-set_same (after limit r).blocks (block_on (after limit r) h)
      (record { word = F (word_on (after limit r) h); given = (get_or (after limit r).blocks (block_on (after limit r) h) no_block).given }) no_block
      ((lawful_after limit r).made h (is_in_state (after limit r) h state (seat_is limit r w seats keeps h state seat)).born)))

  -- where the handle's state changes
  seats_changed : (new : HandleState) → set seats h new ≡ map (λ (it : HandleSummary). it.state) (handles_with_state (after limit r).handles h new)
  seats_changed new = ap (λ states. set states h new) keeps.states ∙ states-with_state (after limit r).handles h new

  -- a birth
  seats_grow : (b : ℕ) → seats ++ Free ∷ [] ≡ map (λ (it : HandleSummary). it.state) ((after limit r).handles ++ record { block = b; state = Free } ∷ [])
  seats_grow b = ap (λ states. states ++ Free ∷ []) keeps.states
      ∙ sym (map_push (λ (it : HandleSummary). it.state) (after limit r).handles (record { block = b; state = Free }))

  long : length (after limit r).handles ≡ length seats
  long = sym (length-map (after limit r).handles (λ (it : HandleSummary). it.state)) ∙ ap length (sym keeps.states)

  pub keeps-look : slice_get seats h ≡ Some Free → Prolongs limit r (Look h) (look_reply (looked_of w)) w seats
  keeps-look seat = keeps-step (Look h) Free _ w seats refl seat (record {
    answer = ap (λ v. look_reply (looked_of v)) (word_is limit r w seats keeps h Free seat);
    blocks = refl;
    word = keeps.left;
    states = keeps.states;
  })

  pub keeps-begin : slice_get seats h ≡ Some Free
      → Prolongs limit r (Begin h) (if w.flag then Ended else Looked) w (set seats h (if w.flag then Gone else Dropping))
  keeps-begin seat =
      let word = word_is limit r w seats keeps h Free seat in
      keeps-step (Begin h) Free _ w _ refl seat (record {
        answer = ap (λ (v : FlagAndCount). if v.flag then Ended else Looked) word;
        blocks = refl;
        word = keeps.left;
        states = ap (λ (v : FlagAndCount). set seats h (if v.flag then Gone else Dropping)) (sym word)
            ∙ seats_changed (if (word_on (after limit r) h).flag then Gone else Dropping);
      })

  pub keeps-clone : slice_get seats h ≡ Some Free
      → Prolongs limit r (Clone h) (Handle (length seats)) (cloned_of limit w) (seats ++ Free ∷ [])
  keeps-clone seat = keeps-step (Clone h) Free _ _ _ refl seat (record {
    answer = ap Handle long;
    blocks = length-with_word (cloned_of limit (word_on (after limit r) h));
    word = word_changed Free seat (cloned_of limit);
    states = seats_grow (block_on (after limit r) h);
  })

  pub keeps-leak : slice_get seats h ≡ Some Free → Prolongs limit r (Leak h) Marked (marked_of w) seats
  keeps-leak seat = keeps-step (Leak h) Free _ _ _ refl seat (record {
    answer = refl;
    blocks = length-with_word (marked_of (word_on (after limit r) h));
    word = word_changed Free seat marked_of;
    states = keeps.states;
  })

  pub keeps-sub : slice_get seats h ≡ Some Dropping → (0 < w.count)
      × Prolongs limit r (Sub h) (if is_last w then Owes else Left) (dropped_of w) (set seats h (if is_last w then Owing else Gone))
  keeps-sub seat =
      let i = is_in_state (after limit r) h Dropping (seat_is limit r w seats keeps h Dropping seat) in
      let word = word_is limit r w seats keeps h Dropping seat in (
        subst (λ (v : FlagAndCount). 0 < v.count) word (dropping_counted limit r h i.born i.state),
        keeps-step (Sub h) Dropping _ _ _ refl seat (record {
          answer = ap (λ v. if is_last v then Owes else Left) word;
          blocks = length-with_word (dropped_of (word_on (after limit r) h));
          word = word_changed Dropping seat dropped_of;
          states = ap (λ v. set seats h (if is_last v then Owing else Gone)) (sym word)
              ∙ seats_changed (if is_last (word_on (after limit r) h) then Owing else Gone);
        }),
      )

  pub keeps-back : slice_get seats h ≡ Some Owing → Prolongs limit r (Back h) Given w (set seats h Gone)
  keeps-back seat =
      let i = is_in_state (after limit r) h Owing (seat_is limit r w seats keeps h Owing seat) in
      let on = on_first_block limit r w seats keeps h Owing seat in
      keeps-step (Back h) Owing _ w _ refl seat (record {
        answer = refl;
        blocks = length-set (after limit r).blocks (block_on (after limit r) h) _;
        word = sym (word_is limit r w seats keeps h Owing seat)
            ∙ sym (ap (λ (e : BlockSummary). e.word) (ap (λ b. get_or (blocks_with_given (after limit r).blocks (block_on (after limit r) h)) b no_block)
            (sym on)
            ∙ get_or-set_same (after limit r).blocks (block_on (after limit r) h) _ no_block ((lawful_after limit r).made h i.born)));
        states = seats_changed Gone;
      })

-- ==== how many seats of a history of one block are in which states: their numbers agree with the count of the word

module _ (limit : ℕ) (r : List Step) (w : FlagAndCount) (seats : List HandleState) (keeps : Keeps limit r w seats) where
  -- as many seats pass a test as there are handles on the block whose states pass it
  seats-held : (test : HandleState → Bool) → length (filter test seats) ≡ length (handles_on (after limit r) 0 test)
  seats-held test =
      ap (λ states. length (filter test states)) keeps.states
      ∙ length-filter test (map (λ (it : HandleSummary). it.state) handles)
      ∙ sym (count_entries test Gone (map (λ (it : HandleSummary). it.state) handles))
      ∙ ap (count (λ h. test (get_or (map (λ (it : HandleSummary). it.state) handles) h Gone))) (length-map handles (λ (it : HandleSummary). it.state))
      ∙ count-same (λ h. passes_on 0 test (get_or handles h no_handle)) (λ h. test (get_or (map (λ (it : HandleSummary). it.state) handles) h Gone))
      (length handles) (λ h born. rw (on h born, get_or-map (λ (it : HandleSummary). it.state) handles h no_handle Gone born) refl)
    where
      handles : List HandleSummary
      handles = (after limit r).handles

      on : (h : ℕ) → h < length handles → (get_or handles h no_handle).block ≡ 0
      on h born =
          let below = (lawful_after limit r).made h born in
          let one = keeps.one_block.made in omega arith

  says_of_word : SaysOfBlock limit w (λ test. length (handles_on (after limit r) 0 test)) (given_in (after limit r) 0)
  says_of_word = subst (λ v. SaysOfBlock limit v (λ test. length (handles_on (after limit r) 0 test)) (given_in (after limit r) 0)) (sym keeps.left)
      (says limit (after limit r) 0 (lawful_after limit r) (made_one limit r w seats keeps))

  -- an unmarked word counts the seats of living handles
  pub seats-counted : IsFalse w.flag → w.count ≡ length (filter lives seats)
  seats-counted unmarked = says_of_word.exact unmarked ∙ sym (seats-held lives)

  -- a marked word counts at least the seats of dropping handles
  pub seats-covered : w.flag ≡ true → length (filter is_dropping seats) ≤ w.count
  seats-covered marked = let covered = says_of_word.covered marked in let same = seats-held is_dropping in omega arith

  -- a count is at most limit + 1
  pub seats-bounded : w.count ≤ limit + 1
  seats-bounded = says_of_word.bounded

  -- at most one seat owes
  pub seats-one_owes : length (filter is_owing seats) ≤ 1
  seats-one_owes = let one = says_of_word.one in let same = seats-held is_owing in omega arith

  -- where a seat owes, the word is unmarked with count 0, and no seat belongs to a living handle
  pub seats-owed : 0 < length (filter is_owing seats) → IsFalse w.flag × (w.count ≡ 0) × (length (filter lives seats) ≡ 0)
  seats-owed some =
      let same = seats-held is_owing in
      let alone = says_of_word.alone (omega arith) in
      let none : length (filter lives seats) ≡ 0 = seats-held lives ∙ alone.1 in
      (alone.0, seats-counted alone.0 ∙ none, none)

-- the function whose proof uses this ruleset names it
pub ruleset laws_of_seats = (seats-counted, seats-covered, seats-bounded, seats-one_owes)

-- ==== how a history of one block that ends in a step marks its block

-- the last step of a history of one block was accepted, and leaves the history's state
module _ (limit : ℕ) (history : List Step) (s : Step) (reply : Reply) (ends : EndsIn limit history s reply) where
  last_accepted : refusal_in (after limit ends.prefix) s ≡ None
  last_accepted = none_of (refusal_in (after limit ends.prefix) s)
      (and_parts (is_none (refusal_in (after limit ends.prefix) s)) true (and_parts (are_accepted limit start ends.prefix)
      (is_none (refusal_in (after limit ends.prefix) s) && true)
      (sym (accepted-append limit start ends.prefix (s ∷ [])) ∙ ap (λ r. are_accepted limit start r) (sym ends.ends) ∙ ends.one_block.accepted)).1).0

  last_found : IfSome (needs s) (λ need. IsIn (after limit ends.prefix) need.handle need.state)
  last_found = finds (after limit ends.prefix) s last_accepted

  last_state : after limit history ≡ (accepted limit (after limit ends.prefix) s).0
  last_state = ap (λ r. after limit r) ends.ends ∙ after-accepted limit ends.prefix s last_accepted

  last_reply : (accepted limit (after limit ends.prefix) s).1 ≡ reply
  last_reply = sym (ap (λ o. (unless_refused o (after limit ends.prefix) (accepted limit (after limit ends.prefix) s)).1) last_accepted) ∙ ends.answered

  -- a handle of it is on block 0, if the step makes no block
  last_on : (h : ℕ) → length (accepted limit (after limit ends.prefix) s).0.blocks ≡ length (after limit ends.prefix).blocks
      → h < length (after limit ends.prefix).handles → block_on (after limit ends.prefix) h ≡ 0
  last_on h same born =
      let one : makes_after limit history ≡ 1 = ends.one_block.made in
      let made = ap (λ (v : State). length v.blocks) last_state in
      let below = (lawful_after limit ends.prefix).made h born in
      omega (arith, same, made, one, below)

  -- so the entry of the one block is that of the handle's block in the state that the step leaves
  last_entry : (h : ℕ) → length (accepted limit (after limit ends.prefix) s).0.blocks ≡ length (after limit ends.prefix).blocks
      → h < length (after limit ends.prefix).handles → get_or (after limit history).blocks 0 no_block
      ≡ get_or (accepted limit (after limit ends.prefix) s).0.blocks (block_on (after limit ends.prefix) h) no_block
  last_entry h same born = ap (λ (v : State). get_or v.blocks 0 no_block) last_state
      ∙ ap (λ b. get_or (accepted limit (after limit ends.prefix) s).0.blocks b no_block) (sym (last_on h same born))

  -- which is the entry that the step sets
  last_set : (h : ℕ) (entry : BlockSummary) → (accepted limit (after limit ends.prefix) s).0.blocks
      ≡ set (after limit ends.prefix).blocks (block_on (after limit ends.prefix) h) entry
      → h < length (after limit ends.prefix).handles → get_or (after limit history).blocks 0 no_block ≡ entry
  last_set h entry is born =
      last_entry h (ap length is ∙ length-set (after limit ends.prefix).blocks (block_on (after limit ends.prefix) h) entry) born
      ∙ ap (λ bs. get_or bs (block_on (after limit ends.prefix) h) no_block) is
      ∙ get_or-set_same (after limit ends.prefix).blocks (block_on (after limit ends.prefix) h) entry no_block ((lawful_after limit ends.prefix).made h born)

-- the one block is marked after a history that ends in a mark
pub leak_marks : (limit : ℕ) (history : List Step) (h : ℕ) → EndsIn limit history (Leak h) Marked → marked_after limit history 0 ≡ true
leak_marks limit history h ends =
    ap (λ (e : BlockSummary). e.word.flag) (last_set limit history (Leak h) Marked ends h _ refl (last_found limit history (Leak h) Marked ends).born)

-- a look at the one block answers by the count word that the history leaves
look_found : (limit : ℕ) (history : List Step) (h : ℕ) (reply : Reply) → EndsIn limit history (Look h) reply
    → look_reply (looked_of (word_in (after limit history) 0)) ≡ reply
look_found limit history h reply ends =
    ap (λ (e : BlockSummary). look_reply (looked_of e.word))
    (last_entry limit history (Look h) reply ends h refl (last_found limit history (Look h) reply ends).born)
    ∙ last_reply limit history (Look h) reply ends

-- so one that answers `Static` found it marked
pub static_is_marked : (limit : ℕ) (history : List Step) (h : ℕ) → EndsIn limit history (Look h) Static → marked_after limit history 0 ≡ true
static_is_marked limit history h ends = static_was (marked_after limit history 0) _ (look_found limit history h Static ends)
  where
    static_was : (f : Bool) (n : ℕ) → look_reply (if f then None else Some n) ≡ Static → f ≡ true
    static_was f n e = grind arith

-- and one that answers a number found it unmarked
pub counted_is_unmarked : (limit : ℕ) (history : List Step) (h n : ℕ) → EndsIn limit history (Look h) (Count n) → marked_after limit history 0 ≡ false
counted_is_unmarked limit history h n ends = count_was (marked_after limit history 0) _ (look_found limit history h (Count n) ends)
  where
    count_was : (f : Bool) (k : ℕ) → look_reply (if f then None else Some k) ≡ Count n → f ≡ false
    count_was f k e = grind arith

-- a look at the one block that answers a number counted its living handles
pub counted_is_living : (limit : ℕ) (history : List Step) (h n : ℕ) → EndsIn limit history (Look h) (Count n) → n ≡ length (living_after limit history 0)
counted_is_living limit history h n ends =
    let one = ends.one_block.made in
    count_was (marked_after limit history 0) (word_after limit history 0).count (look_found limit history h (Count n) ends)
    ∙ (stands limit history 0 (omega arith)).exact (counted_is_unmarked limit history h n ends)
  where
    count_was : (f : Bool) (k : ℕ) → look_reply (if f then None else Some k) ≡ Count n → n ≡ k
    count_was true k e = cc
    count_was false k e = cc

-- ==== which handles were born in a history of one block

-- the handle of a look
pub looking_is_born : (limit : ℕ) (history : List Step) (h : ℕ) (reply : Reply) → EndsIn limit history (Look h) reply → h < length (after limit history).handles
looking_is_born limit history h reply ends = subst (λ (v : State). h < length v.handles) (sym (last_state limit history (Look h) reply ends))
    (last_found limit history (Look h) reply ends).born

-- the handle that a clone answers
pub clone_is_born : (limit : ℕ) (history : List Step) (h j : ℕ) → EndsIn limit history (Clone h) (Handle j) → j < length (after limit history).handles
clone_is_born limit history h j ends =
    let old : State = after limit ends.prefix in
    let is : length old.handles ≡ j = number (length old.handles) (last_reply limit history (Clone h) (Handle j) ends) in
    let long = ap (λ (v : State). length v.handles) (last_state limit history (Clone h) (Handle j) ends) in
    omega (arith, is, long, length_push old.handles (record { block = block_on old h; state = Free }))
  where
    number : (k : ℕ) → Handle k ≡ Handle j → k ≡ j
    number k same = cc

-- ==== how a history of one block ends with a handle of it

-- a drop that ended at its look found the one block marked
pub ended_is_marked : (limit : ℕ) (history : List Step) (h : ℕ) → EndsIn limit history (Begin h) Ended → marked_after limit history 0 ≡ true
ended_is_marked limit history h ends =
    ap (λ (e : BlockSummary). e.word.flag) (last_entry limit history (Begin h) Ended ends h refl (last_found limit history (Begin h) Ended ends).born)
    ∙ ended_was (word_on (after limit ends.prefix) h).flag (last_reply limit history (Begin h) Ended ends)
  where
    ended_was : (f : Bool) → (if f then Ended else Looked) ≡ Ended → f ≡ true
    ended_was true e = refl
    ended_was false e = cc

-- and one that goes on found it unmarked
pub looked_is_unmarked : (limit : ℕ) (history : List Step) (h : ℕ) → EndsIn limit history (Begin h) Looked → marked_after limit history 0 ≡ false
looked_is_unmarked limit history h ends =
    ap (λ (e : BlockSummary). e.word.flag) (last_entry limit history (Begin h) Looked ends h refl (last_found limit history (Begin h) Looked ends).born)
    ∙ looked_was (word_on (after limit ends.prefix) h).flag (last_reply limit history (Begin h) Looked ends)
  where
    looked_was : (f : Bool) → (if f then Ended else Looked) ≡ Looked → f ≡ false
    looked_was true e = cc
    looked_was false e = refl

-- a subtraction that was not the last one leaves a marked block or a living handle
pub left_is_used : (limit : ℕ) (history : List Step) (h : ℕ) → EndsIn limit history (Sub h) Left → IsInUse limit history
left_is_used limit history h ends =
    let old : State = after limit ends.prefix in
    let i = last_found limit history (Sub h) Left ends in
    let left : word_after limit history 0 ≡ dropped_of (word_on old h) =
    ap (λ (e : BlockSummary). e.word) (last_set limit history (Sub h) Left ends h _ refl i.born) in
    let some : 0 < (word_on old h).count = dropping_counted limit ends.prefix h i.born i.state in
    let more = left_was (is_last (word_on old h)) (last_reply limit history (Sub h) Left ends) in
    let one = ends.one_block.made in
    let exact = (stands limit history 0 (omega arith)).exact in
    record {
      one_block = ends.one_block;
      used = by_flag (word_on old h).flag (word_on old h).count (word_after limit history 0) (length (living_after limit history 0)) left some more exact;
    }
  where
    left_was : (last : Bool) → (if last then Owes else Left) ≡ Left → last ≡ false
    left_was true e = cc
    left_was false e = refl

    by_flag : (f : Bool) (n : ℕ) (v : FlagAndCount) (living : ℕ) → v ≡ record { flag = f; count = n - 1 } → 0 < n
        → is_last (record { flag = f; count = n }) ≡ false → (v.flag ≡ false → v.count ≡ living) → (v.flag ≡ true) ⊎ (0 < living)
    by_flag true n v living left some more exact = inl (ap (λ (w : FlagAndCount). w.flag) left)
    by_flag false zero v living left some more exact = absurd (omega arith)
    by_flag false (suc zero) v living left some more exact = cc
    by_flag false (suc (suc n)) v living left some more exact =
        let same : v.count ≡ suc (suc n) - 1 = ap (λ (w : FlagAndCount). w.count) left in
        let counts : v.count ≡ living = exact (ap (λ (w : FlagAndCount). w.flag) left) in
        inr (omega (arith, same, counts))

-- a block whose last handle gave it back was freed
freed : (limit : ℕ) (history : List Step) (h : ℕ) → EndsIn limit history (Back h) Given → 0 < given_after limit history 0
freed limit history h ends =
    let is : given_after limit history 0 ≡ given_in (after limit ends.prefix) (block_on (after limit ends.prefix) h) + 1 =
    ap (λ (e : BlockSummary). e.given) (last_set limit history (Back h) Given ends h _ refl (last_found limit history (Back h) Given ends).born) in
    omega (arith, is)

-- so it is not marked, and no handle on it lives
pub freed_is_alone : (limit : ℕ) (history : List Step) (h : ℕ) → EndsIn limit history (Back h) Given
    → (marked_after limit history 0 ≡ false) × (living_after limit history 0 ≡ [])
freed_is_alone limit history h ends =
    let one = ends.one_block.made in
    let once = freed limit history h ends in
    let alone = (says limit (after limit history) 0 (lawful_after limit history) (omega (arith, one))).alone (omega (arith, once)) in
    (alone.0, nil_from_length (living_after limit history 0) alone.1)

-- nothing follows the free: no history of one block goes on after it
pub free_is_last : (limit : ℕ) (history : List Step) (h : ℕ) → EndsIn limit history (Back h) Given
    → (rest : List Step) → 0 < length rest → IsOneBlock limit (history ++ rest) → ⊥
free_is_last limit history h ends [] more whole = omega arith
free_is_last limit history h ends (s ∷ rest) more whole = no_step s rest (none_of (refusal_in now s) accepts) whole
  where
    now : State
    now = after limit history

    accepts : is_none (refusal_in now s) ≡ true
    accepts = (and_parts (is_none (refusal_in now s)) (are_accepted limit (step limit now s).0 rest) (and_parts (are_accepted limit start history)
        (are_accepted limit now (s ∷ rest)) (sym (accepted-append limit start history (s ∷ rest)) ∙ whole.accepted)).1).0

    once : 0 < given_in now 0
    once = freed limit history h ends

    one : length now.blocks ≡ 1
    one = ends.one_block.made

    all : SaysOfBlock limit (word_in now 0) (λ test. length (handles_on now 0 test)) (given_in now 0)
    all = says limit now 0 (lawful_after limit history) (omega (arith, one))

    none : (k : ℕ) (state : HandleState) → IsIn now k state → (lives state ≡ true) ⊎ (is_owing state ≡ true) → ⊥
    none k state i = elim [
      | inl alive ↦ (let nobody = (all.alone (omega (arith, once))).1 in omega (arith, nobody, some lives alive))
      | inr owes ↦ omega (arith, all.one, once, some is_owing owes)
    ]
      where
        some : (test : HandleState → Bool) → test state ≡ true → 0 < length (handles_on now 0 test)
        some test passes =
            let below = (lawful_after limit history).made k i.born in
            let here : block_on now k ≡ 0 = omega (arith, below, one) in
            subst (λ b. 0 < length (handles_on now b test)) here (some_on now k test i.born (ap test i.state ∙ passes))

    second : (later : List Step) → IsOneBlock limit (history ++ Make ∷ later) → ⊥
    second later two =
        let many : 1 < length (after_from limit (step limit now Make).0 later).blocks =
        made_stays limit (step limit now Make).0 later 1 (omega (arith, length_push now.blocks (record { word = fresh_word; given = 0 }), one)) in
        let same : makes_after limit (history ++ Make ∷ later) ≡ length (after_from limit (step limit now Make).0 later).blocks =
        ap (λ (v : State). length v.blocks) (after_from-append limit start history (Make ∷ later)) in
        omega (arith, many, same, two.made)

    no_step : (s : Step) (later : List Step) → refusal_in now s ≡ None → IsOneBlock limit (history ++ s ∷ later) → ⊥
    no_step Make later e two = second later two
    no_step (Back k) later e two = none k Owing (finds now (Back k) e) (inr refl)
    no_step s later e two = none _ _ (finds now s e) (inl refl)
