use Rattle.std.proofs.Common.{◌≡◌, Err}
use Rattle.arcbench_core.specs.declared.tokens.TokensFault.TheVariants.{NotUtf8}
use Rattle.arcbench_core.proofs.KnownUtf8.{same_sign, says_of_input}
use Rattle.arcbench_core.proofs.program.tell_tokens.Goals as goal

-- if the lines were written, the input was UTF-8
pub returns-clause-not_utf8 : goal.returns-clause-not_utf8
returns-clause-not_utf8 g c no_memory no_io =
    let read = rw c.deref.ensures.value at c.answer.ensures.not_utf8 in
    let says = says_of_input _ c.in_ok-bytes.bytes.items (c.answer.result ≡ Err NotUtf8) c.in_ok-bytes.ensures.bytes read in
    same_sign _ (c.answer.result ≡ Err NotUtf8) _ says (λ wrong. absurd (cc)) (λ wrong. absurd (cc))
