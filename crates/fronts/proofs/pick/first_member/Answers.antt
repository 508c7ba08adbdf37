-- `first_member`: who stands after a place of which all before it are spare is the first.
use Rattle.std.proofs.Common.{◌≡◌, ℕ, ◌<◌, get_or, subst, sym, arith}
use mathlib.Core.Logic.{⊎_elim}
use Rattle.facts.proofs.Cases.{same?}
use Rattle.fronts.proofs.pick.first_member.Goals as goal

pub loop-p-preserved : goal.loop-p-preserved
loop-p-preserved c j l k = ⊎_elim
    (λ (q : j ≡ c.loop-p.p). subst (λ (z : ℕ). get_or c.args.w.now z 0 ≡ 255) (sym q) c.if-w-p.false)
    (λ (q : j ≡ c.loop-p.p → ⊥). c.loop-p.invariant j l (omega arith))
    (same? j c.loop-p.p)

pub returns-then-w-p : goal.returns-then-w-p
returns-then-w-p c = record { low = c.loop-p.auto.p; high = omega arith; blank = c.loop-p.invariant; first = λ l. c.if-w-p.true }

pub returns : goal.returns
returns c = record { low = c.requires.0; high = omega arith; blank = λ i l k. c.loop-p.invariant i l (omega arith); first = λ l q. absurd (omega arith) }
