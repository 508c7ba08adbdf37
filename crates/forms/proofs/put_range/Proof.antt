-- `forms::put_range` meets its contract: a byte, then four, then four. Assumes nothing.
use mathlib.Core.Path.{◌∙◌}
use mathlib.Core.List.{List, [], ◌∷◌, ◌++◌, append_assoc}
use Prim.Native.Nat.{ℕ, ◌-◌}
use native.Mathlib.Omega.{arith}
use lib.ListN.{length, drop, set}
use borrow.Author.Rules.{rules}
use borrow.Rule.Slice.PartMut.{put_mid}
use Rattle.integers.proofs.SignedLocals.{again_same}
use Rattle.integers.specs.Integer.{int_bytes}
use Rattle.integers.proofs.FourBytes.{length_int_bytes}
use Rattle.facts.proofs.Puts.{Put, put_none, put_length, put_byte, lent_length, put_more}
use Rattle.forms.proofs.put_range.Statement.{statement}
use Rattle.forms.proofs.put_range.Tie as tie

slice_write_out : tie.Need-bounds-out-0
slice_write_out c = search rules

-- after the first byte
begun : (c : tie.Start) → Put c.args.out.now (set c.args.out.now 0 0x02) (0x02 ∷ []) 1
begun c = put_byte c.args.out.now c.args.out.now [] 0 (put_none c.args.out.now) 0x02 (omega (arith, c.requires))

sub_put_int : tie.Need-slice_bounds-put_int-count
sub_put_int c = omega (arith, put_length _ _ _ _ (begun c.before), c.before.requires)

part_put_int_start : tie.Need-slice_bounds-put_int-start
part_put_int_start c = omega (arith, put_length _ _ _ _ (begun c.before), c.before.requires)

part_put_int_end : tie.Need-slice_bounds-put_int-end
part_put_int_end c = search rules

put_int_requires : tie.Need-put_int-requires
put_int_requires c κs = omega (arith, lent_length _ _ _ _ (begun c.before.before), c.before.before.requires)

-- after the lower bound
abbrev half : tie.After-slice_known-2-1 → List ℕ
half c =
    let o = set c.before.before.before.before.before.args.out.now 0 0x02 in
    put_mid 1 (length o - 1) o c.before.before.put_int.new.out

halved : (c : tie.After-slice_known-2-1) →
    let s = c.before.before.before.before.before in
    Put s.args.out.now (half c) (0x02 ∷ int_bytes s.args.lower) 5
halved c =
    let s = c.before.before.before.before.before in
    let o = s.args.out.now in
    let x = s.args.lower in
    put_more o (set o 0 0x02) (0x02 ∷ []) 1 (begun s) (int_bytes x) _ 4 (length_int_bytes x) (omega (arith, s.requires))
    (c.before.before.put_int.ensures ∙ rw (again_same x s.ranges.lower.sfits))

sub_put_int_2 : tie.Need-slice_bounds-put_int-count-2
sub_put_int_2 c = omega (arith, put_length _ _ _ _ (halved c), c.before.before.before.before.before.requires)

part_put_int_start_2 : tie.Need-slice_bounds-put_int-start-2
part_put_int_start_2 c = omega (arith, put_length _ _ _ _ (halved c), c.before.before.before.before.before.requires)

part_put_int_end_2 : tie.Need-slice_bounds-put_int-end-2
part_put_int_end_2 c = search rules

put_int_requires_2 : tie.Need-put_int-requires-2
put_int_requires_2 c κs = omega (arith, lent_length _ _ _ _ (halved c.before), c.before.before.before.before.before.before.requires)

-- after the upper bound
written : (c : tie.After-slice_known-3-1) →
    let h = c.before.before.before.before in
    let s = h.before.before.before.before.before in
    Put s.args.out.now (put_mid 5 (length (half h) - 5) (half h) c.before.before.put_int-2.new.out) ((0x02 ∷ int_bytes s.args.lower) ++ int_bytes s.args.upper) 9
written c =
    let h = c.before.before.before.before in
    let s = h.before.before.before.before.before in
    let x = s.args.upper in
    put_more s.args.out.now (half h) (0x02 ∷ int_bytes s.args.lower) 5 (halved h) (int_bytes x) _ 4 (length_int_bytes x) s.requires
    (c.before.before.put_int-2.ensures ∙ rw (again_same x s.ranges.upper.sfits))

same_length : tie.Need-shape_of-out
same_length c = put_length _ _ _ _ (written c)

returns : tie.Need-returns
returns c =
    let s = c.before.before.before.before.before.before.before.before.before in
    (written c).is ∙ append_assoc (0x02 ∷ int_bytes s.args.lower) (int_bytes s.args.upper) (drop 9 s.args.out.now)

pub put_range_spec : {M : Type 1} → statement M
put_range_spec =
    tie.close
    (tie.spec
    slice_write_out
    sub_put_int
    part_put_int_start
    part_put_int_end
    put_int_requires
    sub_put_int_2
    part_put_int_start_2
    part_put_int_end_2
    put_int_requires_2
    same_length
    returns)
