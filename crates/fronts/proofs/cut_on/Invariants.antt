-- `cut_on`. The loop: what is settled by the blocks before i is the beginning of the first cut (`Underway`).
use Rattle.std.proofs.Common.{Bool, ℕ, drop}
use Rattle.blocks.proofs.LentBlocks.{lent}
use Rattle.fronts.specs.Fronts.{Underway}
use Rattle.fronts.specs.Given.{Halfway}
use Rattle.fronts.proofs.cut_on.Given as goal

abbrev pub invariant-loop-i : goal.invariant-loop-i
invariant-loop-i l = (may : ℕ → ℕ → Bool) → Halfway may l.rows l.count l.blocks l.ends l.n l.j l.fn.f.places l.fn.f.from l.fn.w
    → Underway may (lent l.count l.blocks) (drop l.i (lent l.count l.blocks)) l.n l.front.places l.front.from l.w
