-- The bytes before the end of the text so far and the appended text are written, and are a text.
use Rattle.arcstr_block.proofs.Names.{◌≡◌, ℕ, arith, ap, sym, length, ◌+◌, ◌≤◌, ◌++◌, ◌∙◌, length-take-le, take}
use Rattle.core.proofs.slots.Fills.{Filled-around, Filled-none}
use Rattle.arcstr_block.proofs.Texts.{two_texts, appended}
use Rattle.arcstr_block.proofs.building.Draft.append.Goals as goal

pub invariant_of-self-inside : goal.invariant_of-self-inside
invariant_of-self-inside g c =
    let was = c.self.inside in let n = was.len in let old = was.bytes.items in let more = c.args.text.now in let now = c.replace_with.new.dest in
    let got = c.replace_with.ensures in let within : n ≤ length old = omega (arith, was.inside, was.room) in
    let long : length (take n old) ≡ n = length-take-le n old within in
    let text : take (n + length more) now.items ≡ take n old ++ more = appended n old more _ _ within got.1.1.0 in
    let room = c.requires.room in let view = c.self.view_is in let end : ℕ = n + length more in
    let inside : end ≤ was.capacity = omega (arith, long, room, ap (λ v. length v.text) view, ap (λ v. v.capacity) view) in
    let written = Filled-around was.bytes.filled now.filled n end end got.1.1.1.0 got.1.1.1.1 was.written (Filled-none _ _ _ (omega arith)) in
    let utf8 = two_texts (take n old) more _ text was.text c.utf8.text in let here = got.0 ∙ was.here in
    (inside, (utf8, (written, (here, (was.room ∙ sym got.1.0, (was.long, (was.fits, (was.word, (was.home, tt)))))))))
