-- `lines::put_line` meets its contract: each part stands after the one before it, and no line has more than 141 bytes. Assumes nothing.
use mathlib.Core.Path.{◌∙◌}
use mathlib.Core.List.{◌++◌}
use Prim.Native.Nat.{ℕ, ◌<◌}
use native.Mathlib.Omega.{arith}
use lib.ListN.{length, get_or, length-set}
use Rattle.lines.specs.Line.{decimal, space_then, spaced}
use Rattle.lines.proofs.Lines.{byte_next, few_next, number_few, length_spaced, Built, built_first, built_length, built_fits, built_room, built_next, line_wrote}
use Rattle.lines.proofs.put_line.Statement.{statement}
use Rattle.lines.proofs.put_line.Tie as tie

-- what stands in the buffer after each call, and how many bytes at most
one : (c : tie.After-put_number-first) → Built c.before.before.before.before.args.out.now (decimal c.before.before.before.before.args.number) 5 c.put_number-first.new.out c.put_number-first.result
one c = built_first _ (decimal c.before.before.before.before.args.number) _ _ 5 c.put_number-first.ensures.0 c.put_number-first.ensures.1 (number_few _ c.before.before.before.before.requires.0.number_short)

small : (a : tie.Start) → a.args.answer < 256
small a = a.ranges.answer.fits

two : (c : tie.After-put_next-second) → let a = c.before.before.before.before.before.before.before.before in
    Built a.args.out.now (decimal a.args.number ++ space_then a.args.answer) 9 c.put_next-second.new.out c.put_next-second.result
two c =
    let a = c.before.before.before.before.before.before.before.before in
    let room = a.requires.0.room in
    built_next a.args.out.now _ 5 _ _ (one c.before.before.before.before) (omega arith) (space_then a.args.answer) 4 _ _ (byte_next a.args.answer (small a)) c.put_next-second.ensures.0 c.put_next-second.ensures.1

three : (c : tie.After-put_next-third) → let a = c.before.before.before.before.before.before.before.before.before.before.before.before in
    Built a.args.out.now ((decimal a.args.number ++ space_then a.args.answer) ++ space_then a.args.count) 12 c.put_next-third.new.out c.put_next-third.result
three c =
    let a = c.before.before.before.before.before.before.before.before.before.before.before.before in
    let room = a.requires.0.room in
    built_next a.args.out.now _ 9 _ _ (two c.before.before.before.before) (omega arith) (space_then a.args.count) 3 _ _ (few_next a.args.count a.requires.0.count_short) c.put_next-third.ensures.0 c.put_next-third.ensures.1

bytes : (c : tie.After-shared_slice_known-1) (i : ℕ) → i < length c.before.before.args.witness.now → get_or c.before.before.args.witness.now i 0 < 256
bytes c i h = omega (arith, c.shared_slice_known-1.given i)

four : (c : tie.After-put_each-end) → let k = c.before.before.before.before.before.before.before.before.before.before.before.before.before.before in
    let a = k.before.before in
    Built a.args.out.now (((decimal a.args.number ++ space_then a.args.answer) ++ space_then a.args.count) ++ spaced a.args.witness.now) 140 c.put_each-end.new.out c.put_each-end.result
four c =
    let k = c.before.before.before.before.before.before.before.before.before.before.before.before.before.before in
    let a = k.before.before in
    let room = a.requires.0.room in
    let short = a.requires.1 in
    let most = length_spaced a.args.witness.now (bytes k) in
    built_next a.args.out.now _ 12 _ _ (three c.before.before.before.before) (omega arith) (spaced a.args.witness.now) 128 _ _ (omega arith) c.put_each-end.ensures.0 c.put_each-end.ensures.1

put_number_requires : tie.Need-put_number-first-requires
put_number_requires c κs =
    let start = c.before.before.before in
    let f = number_few start.args.number start.requires.0.number_short in omega (arith, start.requires.0.room)

put_next_requires : tie.Need-put_next-second-requires
put_next_requires c κs =
    let at_put_number = c.before.before.before in
    let start = at_put_number.before.before.before.before in
    let a = start.args in
    built_fits _ _ _ _ _ (one at_put_number) (omega (arith, start.requires.0.room)) (space_then a.answer) 4 (byte_next a.answer (small start)) (omega (arith, start.requires.0.room))

cast_put_next : tie.Need-overflow_cast-count
cast_put_next c = omega (arith, c.before.before.before.before.before.before.before.before.before.before.before.requires.0.count_short)

put_next_requires_2 : tie.Need-put_next-third-requires
put_next_requires_2 c κs =
    let at_put_next = c.before.before.before in
    let start = at_put_next.before.before.before.before.before.before.before.before in
    let a = start.args in
    built_fits _ _ _ _ _ (two at_put_next) (omega (arith, start.requires.0.room)) (space_then a.count) 3 (few_next a.count start.requires.0.count_short) (omega (arith, start.requires.0.room))

put_each_requires : tie.Need-put_each-end-requires
put_each_requires c κs =
    let at_put_next2 = c.before.before.before in
    let start = at_put_next2.before.before.before.before.before.before.before.before.before.before.before.before in
    let r = built_room _ _ _ _ _ (three at_put_next2) (omega (arith, start.requires.0.room)) 128 (omega (arith, start.requires.0.room)) in omega (arith, start.requires.1)

slice_write_out : tie.Need-bounds-out-end
slice_write_out c =
    let start = c.before.before.before.before.before.before.before.before.before.before.before.before.before.before.before.before.before.before in
    let r = built_room _ _ _ _ _ (four c.before.before) (omega (arith, start.requires.0.room)) 1 (omega (arith, start.requires.0.room)) in omega arith

add_result : tie.Need-overflow_add-result
add_result c = let b = four c.before.before in omega (arith, b.place, b.few)

same_length : tie.Need-shape_of-out
same_length c =
    let at_put_each = c.before.before in
    let start = at_put_each.before.before.before.before.before.before.before.before.before.before.before.before.before.before.before.before in
    length-set at_put_each.put_each-end.new.out at_put_each.put_each-end.result 10 ∙ built_length _ _ _ _ _ (four at_put_each) (omega (arith, start.requires.0.room))

returns : tie.Need-returns
returns c =
    let start = c.before.before.before.before.before.before.before.before.before.before.before.before.before.before.before.before.before.before in
    line_wrote _ _ _ _ _ _ _ _ (four c.before.before) (omega (arith, start.requires.0.room))

pub put_line_spec : {M : Type 1} → statement M
put_line_spec =
    tie.close
    (tie.spec
    put_number_requires
    put_next_requires
    cast_put_next
    put_next_requires_2
    put_each_requires
    slice_write_out
    add_result
    same_length
    returns)
