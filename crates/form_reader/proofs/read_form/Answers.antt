-- By the first byte. Assumes nothing.
use Rattle.std.proofs.Common.{refl, sym, ap, true, false, ◌&&◌, Bool, length, arith}
use lib.Dec.{eqb}
use Rattle.integers.proofs.SignedLocals.{again_same}
use Rattle.form_reader.specs.FormRead.{FormAt, FormRead}
use Rattle.form_reader.proofs.FormShapes.{none_empty, none_short, everything_read, alone_read}
use Rattle.form_reader.proofs.Options.{told_on, told_test}
use Rattle.form_reader.proofs.read_form.Goals as goal

pub returns-then-t-lt-ANY_SIZE : goal.returns-then-t-lt-ANY_SIZE
returns-then-t-lt-ANY_SIZE c = none_empty _ _ _ _ _ _ _ _ (refl, refl, refl) c.if-t-lt-ANY_SIZE.true

pub returns-then-kind-eq-ANY : goal.returns-then-kind-eq-ANY
returns-then-kind-eq-ANY c =
    let one = eqb (length c.args.t.now) 1 in
    rw c.then_some.ensures
    (told_test one true
    (FormRead c.args.lower c.args.upper c.args.t.now c.args.lo.now c.args.hi.now c.args.lo.now c.args.hi.now)
    (λ h. everything_read _ _ _ _ _ true true 0 (sym h, ap (λ (b : Bool). b && true) (sym h), refl) c.if-kind-eq-ANY.true)
    (λ h. everything_read _ _ _ _ _ false false 0 (sym h, ap (λ (b : Bool). b && true) (sym h), refl) c.if-kind-eq-ANY.true))

pub returns-then-kind-lt-LIST : goal.returns-then-kind-lt-LIST
returns-then-kind-lt-LIST c =
    told_on _
    (FormAt c.args.t.now 0 false 1 c.args.lower c.args.upper c.args.lo.now c.args.hi.now c.form_at.new.lo c.form_at.new.hi)
    (FormRead c.args.lower c.args.upper c.args.t.now c.args.lo.now c.args.hi.now c.form_at.new.lo c.form_at.new.hi)
    (λ f o n. alone_read _ _ _ _ _ _ _ f o n (omega arith) (omega arith) c.if-kind-eq-ANY.false c.if-kind-lt-LIST.true)
    (rw (again_same c.args.lower c.ranges.lower.sfits, again_same c.args.upper c.ranges.upper.sfits) at c.form_at.ensures)

pub returns-then-t : goal.returns-then-t
returns-then-t c = none_short _ _ _ _ _ _ _ _ (refl, refl, refl) c.if-kind-lt-LIST.false c.if-t.true

pub returns : goal.returns
returns c = rw (again_same c.args.lower c.ranges.lower.sfits, again_same c.args.upper c.ranges.upper.sfits) at c.read_group.ensures
