-- By the kind, the count and the byte after it. Assumes nothing.
use Rattle.std.proofs.Common.{refl, sym, ap, true, false, ◌&&◌, Bool, get_or, length}
use lib.Dec.{eqb}
use Rattle.integers.proofs.SignedLocals.{again_same}
use Rattle.form_reader.specs.FormRead.{FormAt, FormRead}
use Rattle.form_reader.proofs.FormShapes.{none_many, none_few, none_other, nothing_read, several_read, complement_read}
use Rattle.form_reader.proofs.Options.{told_on, told_test}
use Rattle.form_reader.proofs.read_group.Goals as goal

pub returns-then-n-gt-GROUP_MOST : goal.returns-then-n-gt-GROUP_MOST
returns-then-n-gt-GROUP_MOST c = none_many _ _ _ _ _ _ _ _ (refl, refl, refl) c.requires.1 c.if-n-gt-GROUP_MOST.true

pub returns-then-n-lt2 : goal.returns-then-n-lt2
returns-then-n-lt2 c = none_few _ _ _ _ _ _ _ _ (refl, refl, refl) c.if-kind-eq-LIST.true c.if-n-lt2.true

pub returns-then-kind-eq-LIST : goal.returns-then-kind-eq-LIST
returns-then-kind-eq-LIST c =
    told_on _
    (FormAt c.args.t.now 2 false (get_or c.args.t.now 1 0) c.args.lower c.args.upper c.args.lo.now c.args.hi.now c.form_at.new.lo c.form_at.new.hi)
    (FormRead c.args.lower c.args.upper c.args.t.now c.args.lo.now c.args.hi.now c.form_at.new.lo c.form_at.new.hi)
    (λ f o n. several_read _ _ _ _ _ _ _ f o n c.requires.2 c.requires.3 c.requires.0 c.if-kind-eq-LIST.true c.if-n-lt2.false c.if-n-gt-GROUP_MOST.false)
    (rw (again_same c.args.lower c.ranges.lower.sfits, again_same c.args.upper c.ranges.upper.sfits) at c.form_at.ensures)

pub returns-then-kind-n : goal.returns-then-kind-n
returns-then-kind-n c = none_other _ _ _ _ _ _ _ _ (refl, refl, refl) c.requires.1 c.if-kind-eq-LIST.false c.if-kind-n.true

pub returns-then-first-eq-ANY : goal.returns-then-first-eq-ANY
returns-then-first-eq-ANY c =
    let three = eqb (get_or c.args.t.now 1 0) 1 && eqb (length c.args.t.now) 3 in
    rw c.then_some.ensures
    (told_test three false
    (FormRead c.args.lower c.args.upper c.args.t.now c.args.lo.now c.args.hi.now c.args.lo.now c.args.hi.now)
    (λ h. nothing_read _ _ _ _ _ true false 0 (sym h, ap (λ (b : Bool). b && false) (sym h), refl) c.if-kind-n.false c.if-first-eq-ANY.true)
    (λ h. nothing_read _ _ _ _ _ false false 0 (sym h, ap (λ (b : Bool). b && false) (sym h), refl) c.if-kind-n.false c.if-first-eq-ANY.true))

pub returns : goal.returns
returns c =
    told_on _
    (FormAt c.args.t.now 2 true (get_or c.args.t.now 1 0) c.args.lower c.args.upper c.args.lo.now c.args.hi.now c.form_at-2.new.lo c.form_at-2.new.hi)
    (FormRead c.args.lower c.args.upper c.args.t.now c.args.lo.now c.args.hi.now c.form_at-2.new.lo c.form_at-2.new.hi)
    (λ f o n. complement_read _ _ _ _ _ _ _ f o n c.requires.2 c.requires.3 c.requires.0 c.if-kind-n.false c.if-n-gt-GROUP_MOST.false c.if-first-eq-ANY.false)
    (rw (again_same c.args.lower c.ranges.lower.sfits, again_same c.args.upper c.ranges.upper.sfits) at c.form_at-2.ensures)
