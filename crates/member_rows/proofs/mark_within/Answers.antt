-- The test says whether an element lies between the bounds, and that it is a 32-bit integer. Assumes nothing.
use Rattle.std.proofs.Common.{◌≡◌, ◌<◌, ℕ, ◌&&◌, length, take, get_or, arith, rules, tests, pos, get_or-take}
use Rattle.std.specs.Int.Signed.{le_z}
use Rattle.std.proofs.lemmas.List.{length-take-le}
use Rattle.integers.specs.Integer.{Word}
use Rattle.member_rows.specs.Places.{Marked}
use Rattle.member_rows.proofs.RowByRow.{marked_same}
use Rattle.member_rows.proofs.mark_within.Goals as goal

pub returns : goal.returns
returns c =
    let a = c.args in
    let marking = c.mark_passing.ensures in
    let long : length (take a.n a.wide.now) ≡ a.n = length-take-le a.n a.wide.now (omega arith) in
    let front : (e : ℕ) → e < a.n → get_or (take a.n a.wide.now) e (pos 0) ≡ get_or a.wide.now e (pos 0) = λ e l. get_or-take a.n a.wide.now e (pos 0) l in
    let marked : Marked a.rows.now a.m marking.0 a.n c.mark_passing.new.rows = rw long at marking.1 in
    record {
      words = λ e l.
          let word : Word (get_or (take a.n a.wide.now) e (pos 0)) = (let h = marking.2 e (pos 0) (omega arith) in search rules) in
          rw (front e l) at word;
      marked = marked_same _ _ _ _ _ _
          (λ e l.
          let told : marking.0 e ≡ (le_z a.lower (get_or (take a.n a.wide.now) e (pos 0)) && le_z (get_or (take a.n a.wide.now) e (pos 0)) a.upper) =
          (let h = marking.2 e (pos 0) (omega arith) in search (rules, tests)) in
          rw (front e l) at told)
          marked;
    }
