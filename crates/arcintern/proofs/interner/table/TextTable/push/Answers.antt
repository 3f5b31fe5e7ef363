use Rattle.std.proofs.Common.{rules, ◌≡◌, ℕ, ◌<◌, ◌≤◌, ap, arith, length, subst, sym}
use Rattle.std.proofs.lemmas.List.{length_push}
use Rattle.arcintern.specs.declared.interner.TheConstants.{MOST_TEXTS}
use Rattle.arcintern.specs.Slots.{AreTextsPlaced, IsPlaced, slot_of}
use Rattle.arcintern.specs.Texts.{HasEachOnce, IsWordAt, KeepsTexts, TextTableView}
use Rattle.arcintern.proofs.Lookups.{AreTextsPlaced-kept, AreTextsPlaced-push, IsWordAt-push, KeepsTexts-push, once-push}
use Rattle.arcintern.proofs.interner.table.TextTable.push.Goals as goal

pub returns-in_err-empty-clause-placed : goal.returns-in_err-empty-clause-placed
returns-in_err-empty-clause-placed c = λ half_of is_half all.
    let slots = c.self.inside.numbers in
    let were = subst (λ (table : TextTableView). AreTextsPlaced table.slots table.mask half_of table.texts) (sym c.self.view_is) all in
    AreTextsPlaced-kept slots.slots.items c.make_room.new.self.slots.items slots.mask c.make_room.new.self.mask half_of c.self.inside.texts.items
    c.make_room.ensures.kept were

pub returns-in_err-make_room_for_text-clause-placed : goal.returns-in_err-make_room_for_text-clause-placed
returns-in_err-make_room_for_text-clause-placed c = λ half_of is_half all.
    let slots = c.self.inside.numbers in
    let were = subst (λ (table : TextTableView). AreTextsPlaced table.slots table.mask half_of table.texts) (sym c.self.view_is) all in
    let are = AreTextsPlaced-kept slots.slots.items c.make_room.new.self.slots.items slots.mask c.make_room.new.self.mask half_of c.self.inside.texts.items
    c.make_room.ensures.kept were in
    subst (AreTextsPlaced c.make_room.new.self.slots.items c.make_room.new.self.mask half_of) (sym c.make_room_for_text.ensures.same) are

pub returns-clause-added : goal.returns-clause-added
returns-clause-added c =
    let texts = ap (λ (table : TextTableView). table.texts) c.self.view_is in
    rw (← texts) (search rules)

-- the others follow from the list that the new text has made
pub returns-clause-once : goal.returns-clause-once
returns-clause-once c =
    let once : HasEachOnce c.args.self.now.texts = subst (λ (table : TextTableView). HasEachOnce table.texts) c.self.view_is c.self.invariant.0 in
    subst HasEachOnce (sym (returns-clause-added c)) (once-push _ c.args.text c.requires.absent once)

pub returns-clause-kept : goal.returns-clause-kept
returns-clause-kept c = subst (KeepsTexts c.args.self.now.texts) (sym (returns-clause-added c)) (KeepsTexts-push _ c.args.text)

pub returns-clause-word : goal.returns-clause-word
returns-clause-word c =
    let texts = ap (λ (table : TextTableView). table.texts) c.self.view_is in
    let number : c.at.result ≡ length c.self.inside.texts.items = search rules in
    let last : c.at.result ≡ length c.args.self.now.texts = cc (ap length texts, number) in
    let word = IsWordAt-push c.args.self.now.texts c.args.text in
    rw last (subst (λ texts. IsWordAt texts (length c.args.self.now.texts) c.args.text.text) (sym (returns-clause-added c)) word)

pub returns-clause-placed : goal.returns-clause-placed
returns-clause-placed c = λ half_of is_half all.
    let slots = c.self.inside.numbers in
    let texts = ap (λ (table : TextTableView). table.texts) c.self.view_is in
    let number : c.len-number.result ≡ length c.self.inside.texts.items = search rules in
    let last : length c.args.self.now.texts ≡ c.len-number.result = cc (ap length texts, number) in
    let placed : IsPlaced c.put.new.self.slots.items c.put.new.self.mask (slot_of (half_of c.args.text.text) (length c.args.self.now.texts)) =
    rw (is_half, last) c.put.ensures.placed in
    let were : AreTextsPlaced slots.slots.items slots.mask half_of c.args.self.now.texts =
    subst (λ (table : TextTableView). AreTextsPlaced table.slots table.mask half_of c.args.self.now.texts) (sym c.self.view_is) all in
    let kept = λ (slot : ℕ) (some : 0 < slot) (old : IsPlaced slots.slots.items slots.mask slot).
    c.put.ensures.kept slot some (c.make_room.ensures.kept slot some old) in
    let are = AreTextsPlaced-push slots.slots.items c.put.new.self.slots.items slots.mask c.put.new.self.mask half_of c.args.self.now.texts
    c.args.text kept placed were in
    subst (AreTextsPlaced c.put.new.self.slots.items c.put.new.self.mask half_of) (sym (returns-clause-added c)) are

pub invariant_of-self-2 : goal.invariant_of-self-2
invariant_of-self-2 c =
    let most : length c.push_reserved.new.self.items ≤ MOST_TEXTS =
    omega (arith, ap length (returns-clause-added c), length_push c.args.self.now.texts c.args.text, c.requires.room) in
    (returns-clause-once c, most)
