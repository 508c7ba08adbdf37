-- `is_plain`: the flag says whether the blocks before j are plain.
use Rattle.plain.proofs.Numbers.{Looked}
use Rattle.plain.proofs.is_plain.Given as goal

abbrev pub invariant-loop-j : goal.invariant-loop-j
invariant-loop-j l = Looked l.blocks l.j l.plain
