-- By the record's kind. Assumes nothing.
use Rattle.std.proofs.Common.{refl, ◌<◌, ◌-◌, ℕ, length, get_or, arith}
use Rattle.integers.proofs.SignedLocals.{again_same}
use Rattle.form_reader.proofs.RecordBytes.{range_fits, read_short, read_other, read_turned, read_single, read_range}
use Rattle.form_reader.proofs.record_at.Goals as goal

pub returns-then-left-lt-SINGLE_SIZE : goal.returns-then-left-lt-SINGLE_SIZE
returns-then-left-lt-SINGLE_SIZE c = read_short _ _ _ _ _ _ refl c.if-left-lt-SINGLE_SIZE.true

pub returns-then-kind-eq-SINGLE : goal.returns-then-kind-eq-SINGLE
returns-then-kind-eq-SINGLE c =
    let small : (i : ℕ) → get_or c.args.t.now i 0 < 256 = λ i. omega (arith, c.type_inv.t i) in
    let x = c.int_at-x in
    rw (again_same x.result x.type_inv) (read_single _ _ small x.result x.type_inv x.ensures c.if-left-lt-SINGLE_SIZE.false c.if-kind-eq-SINGLE.true)

pub returns-then-kind-left : goal.returns-then-kind-left
returns-then-kind-left c = read_other _ _ _ _ _ _ refl c.if-left-lt-SINGLE_SIZE.false c.if-kind-eq-SINGLE.false c.if-kind-left.true

pub int_at-b-requires : goal.int_at-b-requires
int_at-b-requires c = omega (arith, (range_fits (get_or c.args.t.now c.args.p 0) (length c.args.t.now - c.args.p) c.if-kind-left.false).1)

pub returns-then-b-a : goal.returns-then-b-a
returns-then-b-a c =
    let small : (i : ℕ) → get_or c.args.t.now i 0 < 256 = λ i. omega (arith, c.type_inv.t i) in
    let x = c.int_at-a in
    let y = c.int_at-b in
    read_turned _ _ small x.result x.type_inv x.ensures c.if-kind-left.false y.result y.type_inv y.ensures _ _ _ _ refl (rw (again_same x.result x.type_inv, again_same y.result y.type_inv) at c.if-b-a.true)

pub returns : goal.returns
returns c =
    let small : (i : ℕ) → get_or c.args.t.now i 0 < 256 = λ i. omega (arith, c.type_inv.t i) in
    let x = c.int_at-a in
    let y = c.int_at-b in
    rw (again_same x.result x.type_inv, again_same y.result y.type_inv)
    (read_range _ _ small x.result x.type_inv x.ensures c.if-kind-left.false y.result y.type_inv y.ensures (rw (again_same x.result x.type_inv, again_same y.result y.type_inv) at c.if-b-a.false))
