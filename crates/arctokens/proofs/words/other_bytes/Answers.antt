use Rattle.std.proofs.Common.{take, drop, arith, w8}
use Rattle.std.proofs.lemmas.Simd.{length-chunk, chunk-fits}
use Rattle.arctokens.proofs.Runs.{lane_mask-others}
use Rattle.arctokens.proofs.words.other_bytes.Goals as goal

pub returns : goal.returns
returns c =
    let bytes = c.args.bytes.now in
    lane_mask-others (take 16 (drop c.args.place bytes)) (length-chunk c.args.place 16 bytes (omega arith))
    (chunk-fits w8 c.args.place 16 bytes c.type_inv.bytes)
