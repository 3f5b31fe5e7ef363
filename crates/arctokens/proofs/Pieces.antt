-- The pieces of the workers: which texts belong to a worker, how its piece grows by one text, and how the lists of all pieces are put into the order of the
-- texts.
use Rattle.std.proofs.Common.{◌≡◌, ◌⊎◌, inl, inr, ℕ, ◌+◌, ◌*◌, ◌/◌, ◌%◌, ◌<◌, ◌≤◌, sym, ap, ◌∙◌, arith, List, [], ◌∷◌, ◌++◌, length, get_or, refl, subst, ◌≢◌}
use Rattle.std.proofs.Common.{set, take, ⊎_elim}
use Rattle.std.proofs.Math.Nat.{mul-le-mul_right, add-div_right, add-mod_right, mod-eq_of_lt, div-eq_of_lt}
use Rattle.std.proofs.lemmas.Bool.{cases_order, cases_lt, cases_eq}
use Rattle.std.proofs.lemmas.List.{get_or_append_left, get_or_push, length_push, length-set, get_or-set_same, get_or-set_other, take_more}
use Rattle.std.proofs.lemmas.Nat.{div-add-mod', mod_below}
use Rattle.std.proofs.lemmas.Slice.Zip.{all_zipped_more}
use Rattle.std.specs.Prelude.{Vec}
use Rattle.std.specs.declared.alloc.Global.{Global}
use Rattle.arcstr.specs.TextView.{TextView, literal_of}
use Rattle.arctokens.specs.Pieces.{HasTokensOf, IsPiece, ArePieces}
use Rattle.arctokens.specs.Tokens.{AreTokens, TokenList, AreTokensOfEach}

-- ---- which texts belong to a worker: one in each row

-- a lower row of the same worker has lower numbers
lower_row : (workers one other : ℕ) → one % workers ≡ other % workers → one / workers < other / workers → one + workers ≤ other
lower_row workers one other same low =
    let rows : (one / workers + 1) * workers ≤ other / workers * workers = mul-le-mul_right workers (omega arith) in
    omega (arith, rows, div-add-mod' one workers, div-add-mod' other workers, same)

-- a worker and a row have only one number
pub same_number : (workers one other : ℕ) → one % workers ≡ other % workers → one / workers ≡ other / workers → one ≡ other
same_number workers one other same row =
    sym (div-add-mod' one workers) ∙ ap (λ r. one / workers * workers + r) same ∙ ap (λ q. q * workers + other % workers) row
    ∙ div-add-mod' other workers

-- a number of the same worker that is below its next number is this number or below it
pub turn_cases : (workers number other : ℕ) → 0 < workers → other % workers ≡ number % workers → other < number + workers → (other ≡ number) ⊎ (other < number)
turn_cases workers number other some same below = by_row (cases_order (other / workers) (number / workers))
  where
    by_row : (other / workers ≡ number / workers) ⊎ ((other / workers < number / workers) ⊎ (number / workers < other / workers))
        → (other ≡ number) ⊎ (other < number)
    by_row (inl row) = inl (same_number workers other number same row)
    by_row (inr (inl low)) =
        let apart = lower_row workers other number same low in
        inr (omega arith)
    by_row (inr (inr high)) =
        let apart = lower_row workers number other (sym same) high in
        absurd (omega (arith, apart, below))

-- the next number of a worker is in the next row
pub next_row : (workers number : ℕ) → 0 < workers → (number + workers) / workers ≡ number / workers + 1
next_row workers number some = add-div_right number some

pub next_turn : (workers number : ℕ) → (number + workers) % workers ≡ number % workers
next_turn workers number = add-mod_right number workers

-- the first number of a worker is its own, in the first row
pub first_turn : (workers worker : ℕ) → worker < workers → worker % workers ≡ worker
first_turn workers worker low = mod-eq_of_lt low

pub first_row : (workers worker : ℕ) → worker < workers → worker / workers ≡ 0
first_row workers worker low = div-eq_of_lt low

-- ---- a piece grows by one text

-- the lists of a worker's texts before one of its numbers, which can be past the last text
pub record IsPieceBefore (texts : List TextView) (workers worker number : ℕ) (lists : List TokenList) : Type 0 where
  pub turn : number % workers ≡ worker
  pub row : number / workers ≡ length lists
  pub before : (other : ℕ) → other < number → other % workers ≡ worker → HasTokensOf texts other lists (other / workers)

pub IsPieceBefore-start : (texts : List TextView) (workers worker : ℕ) → worker < workers → IsPieceBefore texts workers worker worker []
IsPieceBefore-start texts workers worker low =
    record {
      turn = first_turn workers worker low;
      row = first_row workers worker low;
      before = λ other early turn. absurd (omega (arith, turn, first_turn workers other (omega arith)));
    }

-- lists that are added at the end leave the others where they are
others_stay_after_push : (texts : List TextView) (number row : ℕ) (lists : List TokenList) (list : TokenList) → HasTokensOf texts number lists row
    → HasTokensOf texts number (lists ++ list ∷ []) row
others_stay_after_push texts number row lists list has =
    record {
      within = omega (arith, has.within, length_push lists list);
      tokens = λ text d.
          subst (λ (l : TokenList). AreTokens (get_or texts number text) l.items)
          (sym (get_or_append_left lists (list ∷ []) d row has.within)) (has.tokens text d);
    }

pushed_list_has_tokens : (texts : List TextView) (number : ℕ) (lists : List TokenList) (list : TokenList)
    → ((text : TextView) → AreTokens (get_or texts number text) list.items)
    → HasTokensOf texts number (lists ++ list ∷ []) (length lists)
pushed_list_has_tokens texts number lists list are =
    record {
      within = omega (arith, length_push lists list);
      tokens = λ text d.
          subst (λ (l : TokenList). AreTokens (get_or texts number text) l.items) (sym (get_or_push lists list d (length lists) refl)) (are text);
    }

-- the tokens of the worker's next text
pub IsPieceBefore-more : (texts : List TextView) (workers worker number : ℕ) (lists pushed : List TokenList) (list : TokenList)
    → 0 < workers → IsPieceBefore texts workers worker number lists → ((text : TextView) → AreTokens (get_or texts number text) list.items)
    → pushed ≡ lists ++ list ∷ [] → IsPieceBefore texts workers worker (number + workers) pushed
IsPieceBefore-more texts workers worker number lists pushed list some piece are grown =
    subst (IsPieceBefore texts workers worker (number + workers)) (sym grown) (record {
      turn = next_turn workers number ∙ piece.turn;
      row = omega (arith, next_row workers number some, piece.row, length_push lists list);
      before = λ other early turn. by_case other turn (turn_cases workers number other some (turn ∙ sym piece.turn) early);
    })
  where
    by_case : (other : ℕ) → other % workers ≡ worker → (other ≡ number) ⊎ (other < number) → HasTokensOf texts other (lists ++ list ∷ []) (other / workers)
    by_case other turn (inl same) =
        subst (λ n. HasTokensOf texts n (lists ++ list ∷ []) (n / workers)) (sym same)
        (subst (λ r. HasTokensOf texts number (lists ++ list ∷ []) r) (sym piece.row)
        (pushed_list_has_tokens texts number lists list are))
    by_case other turn (inr early) = others_stay_after_push texts other (other / workers) lists list (piece.before other early turn)

-- all texts of the worker
pub IsPiece-before : (texts : List TextView) (workers worker number : ℕ) (lists : List TokenList) → IsPieceBefore texts workers worker number lists
    → length texts ≤ number → IsPiece texts workers worker lists
IsPiece-before texts workers worker number lists piece all other within turn = piece.before other (omega arith) turn

-- what holds of each of the first `count` elements, and of the next one, holds of all of them
pub one_more : {X : Type 0} (Holds : ℕ → X → Type 0) (count : ℕ) (xs : List X) (x : X) → length xs ≡ count
    → ((k : ℕ) (d : X) → k < count → Holds k (get_or xs k d)) → Holds count x → (k : ℕ) (d : X) → k < count + 1 → Holds k (get_or (xs ++ x ∷ []) k d)
one_more Holds count xs x as_many before next k d below =
    ⊎_elim (λ early. subst (Holds k) (sym (get_or_append_left xs (x ∷ []) d k (omega (arith, as_many)))) (before k d early)) late (cases_lt k count)
  where
    late : count ≤ k → Holds k (get_or (xs ++ x ∷ []) k d)
    late here =
        let same : count ≡ k = omega arith in
        subst (Holds k) (sym (get_or_push xs x d k (as_many ∙ same))) (subst (λ n. Holds n x) same next)

-- ---- the lists of all pieces, in the order of the texts

-- the pieces have the tokens of the texts from a number on
pub record AreLeft (texts : List TextView) (workers number : ℕ) (pieces : List (Vec TokenList Global)) : Type 0 where
  pub one_each : length pieces ≡ workers
  pub left : (other : ℕ) (d : Vec TokenList Global) → number ≤ other → other < length texts
      → HasTokensOf texts other (get_or pieces (other % workers) d).items (other / workers)

-- at the start, all are left
pub AreLeft-all : (texts : List TextView) (workers : ℕ) (pieces : List (Vec TokenList Global)) → 0 < workers
    → ArePieces texts workers pieces → AreLeft texts workers 0 pieces
AreLeft-all texts workers pieces some are =
    record {
      one_each = are.one_each;
      left = λ other d low within. are.piece (other % workers) d (mod_below other workers some) other within refl;
    }

-- the lists in other rows of a piece stay
kept_row : (texts : List TextView) (other row taken : ℕ) (lists : List TokenList) (list : TokenList) → row ≢ taken → HasTokensOf texts other lists row
    → HasTokensOf texts other (set lists taken list) row
kept_row texts other row taken lists list apart has =
    record {
      within = omega (arith, has.within, length-set lists taken list);
      tokens = λ text d.
          subst (λ (l : TokenList). AreTokens (get_or texts other text) l.items)
          (sym (get_or-set_other lists taken row list d apart)) (has.tokens text d);
    }

-- the pieces after the list of the text with this number is taken from its piece
pub AreLeft-more : (texts : List TextView) (workers number : ℕ) (pieces : List (Vec TokenList Global)) (piece changed : Vec TokenList Global) (list : TokenList)
    → AreLeft texts workers number pieces → number % workers < length pieces → piece ≡ get_or pieces (number % workers) piece
    → changed.items ≡ set piece.items (number / workers) list → AreLeft texts workers (number + 1) (set pieces (number % workers) changed)
AreLeft-more texts workers number pieces piece changed list are inside read change =
    record {
      one_each = length-set pieces (number % workers) changed ∙ are.one_each;
      left = λ other d late within. by_worker other d late within (cases_eq (other % workers) (number % workers));
    }
  where
    by_worker : (other : ℕ) (d : Vec TokenList Global) → number + 1 ≤ other → other < length texts
        → (other % workers ≡ number % workers) ⊎ (other % workers ≢ number % workers)
        → HasTokensOf texts other (get_or (set pieces (number % workers) changed) (other % workers) d).items (other / workers)
    by_worker other d late within (inl same) =
        let apart : other / workers ≢ number / workers = λ row. omega (arith, late, same_number workers other number same row) in
        let here : get_or (set pieces (number % workers) changed) (other % workers) d ≡ changed =
        ap (λ w. get_or (set pieces (number % workers) changed) w d) same ∙ get_or-set_same pieces (number % workers) changed d inside in
        let old : get_or pieces (other % workers) piece ≡ piece = ap (λ w. get_or pieces w piece) same ∙ sym read in
        let had = subst (λ (v : Vec TokenList Global). HasTokensOf texts other v.items (other / workers)) old (are.left other piece (omega arith) within) in
        subst (λ (v : Vec TokenList Global). HasTokensOf texts other v.items (other / workers)) (sym here)
        (subst (λ (l : List TokenList). HasTokensOf texts other l (other / workers)) (sym change)
        (kept_row texts other (other / workers) (number / workers) piece.items list apart had))
    by_worker other d late within (inr apart) =
        subst (λ (v : Vec TokenList Global). HasTokensOf texts other v.items (other / workers))
        (sym (get_or-set_other pieces (number % workers) (other % workers) changed d apart)) (are.left other d (omega arith) within)

-- the list that was taken has the tokens of the text with this number
pub taken_tokens : (texts : List TextView) (workers number : ℕ) (pieces : List (Vec TokenList Global)) (piece : Vec TokenList Global) (found list : TokenList)
    → AreLeft texts workers number pieces → number < length texts → piece ≡ get_or pieces (number % workers) piece
    → found ≡ get_or piece.items (number / workers) found → list ≡ found → (text : TextView) → AreTokens (get_or texts number text) list.items
taken_tokens texts workers number pieces piece found list are within read_piece read_list same text =
    let has =
    subst (λ (v : Vec TokenList Global). HasTokensOf texts number v.items (number / workers)) (sym read_piece)
    (are.left number piece (omega arith) within) in
    subst (λ (l : TokenList). AreTokens (get_or texts number text) l.items) (sym (same ∙ read_list)) (has.tokens text found)

-- one more text and its list
pub AreTokensOfEach-next : (texts : List TextView) (number : ℕ) (lists pushed : List TokenList) (list : TokenList) → number < length texts
    → AreTokensOfEach (take number texts) lists → ((text : TextView) → AreTokens (get_or texts number text) list.items)
    → pushed ≡ lists ++ list ∷ [] → AreTokensOfEach (take (number + 1) texts) pushed
AreTokensOfEach-next texts number lists pushed list within before are grown =
    let text = get_or texts number (literal_of []) in
    let zipped = all_zipped_more (λ (t : TextView) (l : TokenList). AreTokens t l.items) (take number texts) lists text list before (are (literal_of [])) in
    rw (take_more texts number (literal_of []) within, grown) zipped
