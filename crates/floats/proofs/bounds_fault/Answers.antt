-- The two tests are the definition's. Assumes nothing.
use Rattle.std.proofs.Common.{◌≡◌, sym, Bool, true, false, ◌||◌}
use Rattle.floats.specs.Leaves.{bounds_fault}
use Rattle.floats.proofs.bounds_fault.Goals as goal

faulty : (a b p q t : Bool) → a ≡ p → b ≡ q → (a || b) ≡ t → (p || q) ≡ t
faulty a b p q t e f h = rw (sym e, sym f) h

pub returns-then-is_nan : goal.returns-then-is_nan
unfolding bounds_fault
returns-then-is_nan c = rw (faulty _ _ _ _ true c.is_nan.ensures.value c.is_nan-2.ensures.value c.if-is_nan.true)

pub returns-then-upper-lower : goal.returns-then-upper-lower
unfolding bounds_fault
returns-then-upper-lower c = rw (faulty _ _ _ _ false c.is_nan.ensures.value c.is_nan-2.ensures.value c.if-is_nan.false, c.if-upper-lower.true)

pub returns : goal.returns
unfolding bounds_fault
returns c = rw (faulty _ _ _ _ false c.is_nan.ensures.value c.is_nan-2.ensures.value c.if-is_nan.false, c.if-upper-lower.false)
