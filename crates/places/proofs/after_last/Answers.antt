-- `after_last`: who stands before a place of which all after it are spare is the last.
use Rattle.std.proofs.Common.{◌≡◌, ℕ, ◌+◌, ◌-◌, get_or, subst, sym, arith}
use mathlib.Core.Logic.{⊎_elim}
use Rattle.facts.proofs.Cases.{same?}
use Rattle.places.proofs.after_last.Goals as goal

pub loop-p-preserved : goal.loop-p-preserved
loop-p-preserved c i l k = ⊎_elim
    (λ (q : i ≡ c.loop-p.p - 1). subst (λ (z : ℕ). get_or c.args.w.now z 0 ≡ 255) (sym q) c.if-w-p.false)
    (λ (q : i ≡ c.loop-p.p - 1 → ⊥). c.loop-p.invariant i (omega arith) k)
    (same? i (c.loop-p.p - 1))

pub returns-then-w-p : goal.returns-then-w-p
returns-then-w-p c =
    let next : c.loop-p.p - 1 + 1 ≡ c.loop-p.p = omega arith in
    rw next (record { low = omega arith; high = omega arith; blank = λ i l k. c.loop-p.invariant i (omega arith) k; last = λ l. c.if-w-p.true })

pub returns : goal.returns
returns c = record { low = omega arith; high = c.requires.0; blank = λ i l k. c.loop-p.invariant i (omega arith) k; last = λ l q. absurd (omega arith) }
