-- The joined answers to lines, one line at a time, and what holds once the first lines are answered.
use Rattle.std.proofs.Common.{◌≡◌, ℕ, zero, suc, ◌+◌, ◌<◌, ◌≤◌, List, [], ◌∷◌, ◌++◌, length, map, refl, sym, ap, ◌∙◌, add-one, arith}
use Rattle.std.specs.Prelude.{Option, None, Some}
use Rattle.std.specs.List.{concat, filter_map}
use Rattle.std.proofs.lemmas.List.{append_assoc, map-append, append-nil, take-append-le, length_push}
use Rattle.std.proofs.lemmas.List.Folds.{concat-append}
use Rattle.std.proofs.lemmas.List.Elements.{filter_map-append}
use Rattle.std.proofs.Math.ListN.{get_or-append}
use Rattle.std.proofs.Math.Seq.{get_or-append_seam, take-append_seam}
use Rattle.arcstr_count.specs.declared.steps.Step.{Step}
use Rattle.arcstr_count.specs.Model.{start, after, numbers_below}
use Rattle.arcstr_world.specs.Worlds.{WorldView}
use Rattle.arcstr_count.proofs.LawsOfHistories.{after_from-step}
use Rattle.arcbench_core.specs.Line.{newline, step_of}
use Rattle.arcbench_core.specs.Threads.{worker_line, worker_lines}
use Rattle.arcbench_core.specs.Script.{steps_of, state_with, answer_by, line_answer, answer_at, answers}

-- ---- the answers to the first lines

concat-map-push : (f : ℕ → List ℕ) (ks : List ℕ) (k : ℕ) → concat (map f (ks ++ k ∷ [])) ≡ concat (map f ks) ++ f k
concat-map-push f ks k =
    ap concat (map-append f ks (k ∷ [])) ∙ concat-append (map f ks) (f k ∷ []) ∙ ap (λ end. concat (map f ks) ++ end) (append-nil (f k))

-- one more worker is one more line
pub worker_lines-more : (n : ℕ) → worker_lines (n + 1) ≡ worker_lines n ++ worker_line n
worker_lines-more n = ap worker_lines (add-one n) ∙ concat-map-push worker_line (numbers_below n) n

-- the function whose proof uses this ruleset names it
pub ruleset one_worker_more = (worker_lines-more, append_assoc)

map-same : (f g : ℕ → List ℕ) (n : ℕ) → ((k : ℕ) → k < n → f k ≡ g k) → map f (numbers_below n) ≡ map g (numbers_below n)
map-same f g zero same = refl
map-same f g (suc n) same =
    let prefix : map f (numbers_below n) ≡ map g (numbers_below n) = map-same f g n (λ k h. same k (omega arith)) in
    let last : f n ≡ g n = same n (omega arith) in
    rw (map-append f (numbers_below n) (n ∷ []), map-append g (numbers_below n) (n ∷ []), prefix, last) refl

-- a line at the end does not change the answers to the lines before it
answer_at-prefix : (limit : ℕ) (before : List (List ℕ)) (line : List ℕ) (k : ℕ) → k < length before
    → answer_at limit (before ++ line ∷ []) k ≡ answer_at limit before k
answer_at-prefix limit before line k h =
    let le : k ≤ length before = omega arith in
    rw (take-append-le k before (line ∷ []) le, get_or-append before (line ∷ []) [] k h) refl

answer_at-last : (limit : ℕ) (before : List (List ℕ)) (line : List ℕ)
    → answer_at limit (before ++ line ∷ []) (length before) ≡ line_answer limit before line ++ newline ∷ []
answer_at-last limit before line =
    rw (take-append_seam before (line ∷ []), get_or-append_seam before line [] []) refl

answers-push : (limit : ℕ) (before : List (List ℕ)) (line : List ℕ)
    → answers limit (before ++ line ∷ []) ≡ answers limit before ++ (line_answer limit before line ++ newline ∷ [])
answers-push limit before line =
    let lines : List (List ℕ) = before ++ line ∷ [] in
    let more : length (before ++ line ∷ []) ≡ suc (length before) = omega (arith, length_push before line) in
    rw (
      more,
      concat-map-push (λ k. answer_at limit (before ++ line ∷ []) k) (numbers_below (length before)) (length before),
      answer_at-last limit before line,
      map-same _ (λ k. answer_at limit before k) (length before) (answer_at-prefix limit before line),
    ) refl

-- ---- the state after lines

after-push : (limit : ℕ) (before : List (List ℕ)) (line : List ℕ)
    → after limit (steps_of (before ++ line ∷ [])) ≡ state_with limit (after limit (steps_of before)) (step_of line)
after-push limit before line = ap (λ steps. after limit steps) (filter_map-append step_of before (line ∷ [])) ∙ one (step_of line)
  where
    one : (found : Option Step) → after limit (steps_of before ++ filter_map (λ x. found) (line ∷ []))
        ≡ state_with limit (after limit (steps_of before)) found
    one None = ap (λ steps. after limit steps) (append-nil (steps_of before))
    one (Some s) = after_from-step limit start (steps_of before) s

-- ---- the lines that are answered

-- of all lines, `done` are answered and `left` are not; the world and the bytes are those after `done`
pub record LinesDone (all done left : List (List ℕ)) (first world : WorldView) (begun out : List ℕ) : Type 0 where
  pub parts : all ≡ done ++ left
  pub limit : world.limit ≡ first.limit
  pub state : world.state ≡ after first.limit (steps_of done)
  pub text : out ≡ begun ++ answers first.limit done

pub nothing_done : (all : List (List ℕ)) (world : WorldView) (begun : List ℕ) → world.state ≡ start → LinesDone all [] all world world begun begun
nothing_done all world begun h = record { parts = refl; limit = refl; state = h; text = sym (append-nil begun) }

pub one_more_done : (all done later : List (List ℕ)) (line : List ℕ) (first world next : WorldView) (begun out end : List ℕ)
    → LinesDone all done (line ∷ later) first world begun out → next.limit ≡ world.limit
    → next.state ≡ state_with world.limit world.state (step_of line)
    → end ≡ out ++ (answer_by world.limit world.state (step_of line) ++ newline ∷ []) → LinesDone all (done ++ line ∷ []) later first next begun end
one_more_done all done later line first world next begun out end h same state text = record {
  parts = h.parts ∙ sym (append_assoc done (line ∷ []) later);
  limit = same ∙ h.limit;
  state = state ∙ (λ i. state_with (h.limit i) (h.state i) (step_of line)) ∙ sym (after-push first.limit done line);
  text = rw (text, h.text, h.limit, h.state, answers-push first.limit done line) (append_assoc begun _ _);
}
