use Rattle.arcstr_block.proofs.Names.{◌≡◌, ◌^◌, length, ◌<◌, join_by, take}
use Rattle.arcstr_block.proofs.joining.joined_len.Given as goal

-- the length of the texts so far, joined
abbrev pub invariant-loop-i : goal.invariant-loop-i
invariant-loop-i g l = (l.len < 2 ^ 64) × (l.len ≡ length (join_by g.S.AsStr.text l.separator (take l.i l.texts)))
