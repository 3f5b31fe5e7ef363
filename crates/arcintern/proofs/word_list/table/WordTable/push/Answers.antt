use Rattle.std.proofs.Common.{rules, ◌≡◌, ℕ, ◌+◌, ◌<◌, ◌≤◌, ◌++◌, [], ◌∷◌, ap, arith, length, subst, sym}
use Rattle.std.proofs.lemmas.List.{length_push}
use Rattle.std.specs.String.{string_bytes}
use Rattle.arcintern.specs.declared.interner.TheConstants.{MOST_TEXTS}
use Rattle.arcintern.specs.Slots.{ArePlaced, IsPlaced, slot_of}
use Rattle.arcintern.specs.Texts.{KeepsTexts}
use Rattle.arcintern.specs.Words.{AreDistinct, AreEnds, WordTableView}
use Rattle.arcintern.proofs.Lookups.{ArePlaced-push, KeepsTexts-push}
use Rattle.arcintern.proofs.Words.{ends_with_one_more, pieces_with_one_more, room_of_texts, sizes_of_texts, texts_stay_distinct, word_has_last_number}
use Rattle.arcintern.proofs.word_list.table.WordTable.push.Goals as goal

pub overflow_cast-end : goal.overflow_cast-end
overflow_cast-end c =
    let bytes : c.len.result ≡ length (string_bytes c.self.inside.bytes) = search rules in
    let texts = ap (λ (table : WordTableView). table.texts) c.self.view_is in
    let room = room_of_texts (string_bytes c.self.inside.bytes) c.self.inside.ends.items c.args.self.now.texts c.args.word.now
    c.self.invariant.0 texts c.requires.room in
    omega (arith, bytes, room.1)

pub put-requires-clause-number : goal.put-requires-clause-number
put-requires-clause-number c =
    let texts = ap (λ (table : WordTableView). table.texts) c.self.view_is in
    let room = room_of_texts (string_bytes c.self.inside.bytes) c.self.inside.ends.items c.args.self.now.texts c.args.word.now
    c.self.invariant.0 texts c.requires.room in
    let number : c.len-number.result ≡ length c.self.inside.ends.items = search rules in
    omega (arith, number, room.0)

pub returns-clause-added : goal.returns-clause-added
returns-clause-added c =
    let bytes = string_bytes c.self.inside.bytes in
    let ends = c.self.inside.ends.items in
    let bytes_are : string_bytes c.push_str.new.self ≡ bytes ++ c.args.word.now = search rules in
    let end : c.len.result ≡ length bytes = search rules in
    let ends_are : c.push_reserved.new.self.items ≡ ends ++ (length bytes + length c.args.word.now) ∷ [] = rw (← end) (search rules) in
    rw (bytes_are, ends_are, ← c.self.view_is) (pieces_with_one_more bytes c.args.word.now 0 ends c.self.invariant.0)

-- the others follow from the list that the new text has made
pub returns-clause-once : goal.returns-clause-once
returns-clause-once c =
    let once : AreDistinct c.args.self.now.texts = subst (λ (table : WordTableView). AreDistinct table.texts) c.self.view_is c.self.invariant.2 in
    subst AreDistinct (sym (returns-clause-added c)) (texts_stay_distinct c.args.self.now.texts c.args.word.now c.requires.absent once)

pub returns-clause-kept : goal.returns-clause-kept
returns-clause-kept c = subst (KeepsTexts c.args.self.now.texts) (sym (returns-clause-added c)) (KeepsTexts-push c.args.self.now.texts c.args.word.now)

pub returns-clause-word : goal.returns-clause-word
returns-clause-word c =
    let texts = ap (λ (table : WordTableView). table.texts) c.self.view_is in
    let sizes = sizes_of_texts (string_bytes c.self.inside.bytes) c.self.inside.ends.items c.args.self.now.texts c.self.invariant.0 texts in
    let number : c.len-number.result ≡ length c.self.inside.ends.items = search rules in
    let last : c.at.result ≡ length c.args.self.now.texts = cc (sizes.0, number) in
    rw (last, returns-clause-added c) (word_has_last_number c.args.self.now.texts c.args.word.now)

pub returns-clause-placed : goal.returns-clause-placed
returns-clause-placed c = λ half_of is_half all.
    let slots = c.self.inside.numbers in
    let texts = ap (λ (table : WordTableView). table.texts) c.self.view_is in
    let sizes = sizes_of_texts (string_bytes c.self.inside.bytes) c.self.inside.ends.items c.args.self.now.texts c.self.invariant.0 texts in
    let number : c.len-number.result ≡ length c.self.inside.ends.items = search rules in
    let last : length c.args.self.now.texts ≡ c.len-number.result = cc (sizes.0, number) in
    let placed : IsPlaced c.put.new.self.slots.items c.put.new.self.mask (slot_of (half_of c.args.word.now) (length c.args.self.now.texts)) =
    rw (is_half, last) c.put.ensures.placed in
    let were : ArePlaced slots.slots.items slots.mask half_of [] c.args.self.now.texts =
    subst (λ (table : WordTableView). ArePlaced table.slots table.mask half_of [] c.args.self.now.texts) (sym c.self.view_is) all in
    let kept = λ (slot : ℕ) (some : 0 < slot) (old : IsPlaced slots.slots.items slots.mask slot).
    c.put.ensures.kept slot some (c.make_room.ensures.kept slot some old) in
    let are = ArePlaced-push slots.slots.items c.put.new.self.slots.items slots.mask c.put.new.self.mask half_of [] c.args.self.now.texts
    c.args.word.now kept placed were in
    subst (ArePlaced c.put.new.self.slots.items c.put.new.self.mask half_of []) (sym (returns-clause-added c)) are

pub invariant_of-self-2 : goal.invariant_of-self-2
invariant_of-self-2 c =
    let bytes = string_bytes c.self.inside.bytes in
    let ends = c.self.inside.ends.items in
    let bytes_are : string_bytes c.push_str.new.self ≡ bytes ++ c.args.word.now = search rules in
    let end : c.len.result ≡ length bytes = search rules in
    let ends_are : c.push_reserved.new.self.items ≡ ends ++ (length bytes + length c.args.word.now) ∷ [] = rw (← end) (search rules) in
    let texts = ap (λ (table : WordTableView). table.texts) c.self.view_is in
    let room = room_of_texts bytes ends c.args.self.now.texts c.args.word.now c.self.invariant.0 texts c.requires.room in
    let are : AreEnds (string_bytes c.push_str.new.self) 0 c.push_reserved.new.self.items =
    rw (bytes_are, ends_are) (ends_with_one_more bytes c.args.word.now 0 ends c.utf8.word c.self.invariant.0) in
    let most : length c.push_reserved.new.self.items ≤ MOST_TEXTS =
    rw ends_are (omega (arith, room.0, length_push ends (length bytes + length c.args.word.now))) in
    (are, most, returns-clause-once c)
