-- `member_rows::rows_of` meets its contract: all members marked in clear rows, and no one after the list. Assumes nothing.
use mathlib.Core.Path.{◌≡◌}
use Prim.Native.Nat.{◌+◌, ◌≤◌}
use native.Mathlib.Omega.{arith}
use lib.ListN.{length}
use Rattle.format.specs.declared.Family.{Family}
use Rattle.grammar.specs.Family.{list_of, Lent}
use Rattle.grammar.proofs.Families.{lent_size}
use Rattle.member_rows.proofs.RowByRow.{rows_end, places_fit}
use borrow.Author.Rules.{rules}
use Rattle.member_rows.proofs.rows_of.Statement.{statement}
use Rattle.member_rows.proofs.rows_of.Tie as tie

-- how long the list is
size_of : (s : tie.Start) (fam : Family) → Lent fam s.args.integers.now s.args.floats.now
    → length (list_of fam s.args.integers.now s.args.floats.now) ≡ length s.args.integers.now + length s.args.floats.now
size_of s fam lent = lent_size fam _ _ lent

few : (s : tie.Start) → length s.args.integers.now + length s.args.floats.now ≤ 32
few s = omega (arith, size_of s s.requires.family s.requires.lent, s.requires.few)

widened_requires : tie.Need-widened-wide-requires
widened_requires c κs = omega (arith, few c.before.before)

mark_members_requires : tie.Need-mark_members-requires
mark_members_requires c κs = search rules

add_clear_after : tie.Need-overflow_add-integers
add_clear_after c = omega (arith, few c.before.before.before.before.before.before.before)

clear_after_requires : tie.Need-clear_after-requires
clear_after_requires c κs =
    let marked = c.before in
    let start = marked.before.before.before.before.before.before in
    ((marked.mark_members.ensures start.requires.family start.requires.lent).size, few start)

returns : tie.Need-returns
returns c fam lent =
    let marked = c.before.before in
    let start = marked.before.before.before.before.before.before in
    rows_end _ _ _ _ (places_fit _ _ _ _ start.requires.placed) _ _ _ _ (size_of start fam lent) (marked.mark_members.ensures fam lent) c.clear_after.ensures

pub rows_of_spec : {M : Type 1} → statement M
rows_of_spec = tie.close (tie.spec widened_requires mark_members_requires add_clear_after clear_after_requires returns)
