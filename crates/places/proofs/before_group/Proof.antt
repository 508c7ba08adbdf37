-- `before_group` meets its contract. The invariant: every place from which b leads to a good one is in r or still to do (`Sought`). The measure is how many are to do. Assumes nothing.
use Rattle.places.specs.Ways.{Sought}
use Rattle.rows.specs.Rows.{may}
use Rattle.facts.specs.Counting.{count}
use Rattle.masks.specs.Masks.{bit}
use Rattle.places.proofs.GroupPlaces.{sought_start, sought_step, sought_less, sought_end}
use native.Mathlib.Omega.{arith}
use borrow.Author.Rules.{rules}
use Rattle.places.proofs.before_group.Statement.{statement}
use Rattle.places.proofs.before_group.Tie as tie

abbrev invariant_loop : tie.invariant-loop-todo
invariant_loop rows b good todo₀ r₀ todo r = Sought (may rows) b good todo r

abbrev decreases_loop : tie.decreases-loop-todo
decreases_loop rows b good todo₀ r₀ todo r = count (bit todo) 64

cast_before_spares : tie.Need-overflow_cast-b invariant_loop decreases_loop
cast_before_spares c = search rules

cast_before_spares_2 : tie.Need-overflow_cast-b-2 invariant_loop decreases_loop
cast_before_spares_2 c = search rules

add_before_spares : tie.Need-overflow_add-b invariant_loop decreases_loop
add_before_spares c = search rules

cast_before_spares_3 : tie.Need-overflow_cast-b-3 invariant_loop decreases_loop
cast_before_spares_3 c = search rules

cast_before_spares_4 : tie.Need-overflow_cast-b-4 invariant_loop decreases_loop
cast_before_spares_4 c = search rules

add_before_spares_2 : tie.Need-overflow_add-b-2 invariant_loop decreases_loop
add_before_spares_2 c = search rules

before_spares_requires : tie.Need-before_spares-todo-requires invariant_loop decreases_loop
before_spares_requires c κs = search rules

loop_holds : tie.Need-loop-todo-init invariant_loop decreases_loop
loop_holds c = sought_start _ c.before_spares-todo.ensures

highest_place_requires : tie.Need-highest_place-p-requires invariant_loop decreases_loop
highest_place_requires c κs = omega arith

led_from_requires : tie.Need-led_from-led-requires invariant_loop decreases_loop
led_from_requires c κs = let l = c.before.before in let s = l.before.before.before.before.before.before in (s.requires.0, s.requires.1, l.loop-todo.invariant.near _ c.highest_place-p.ensures.inside)

in_either_requires : tie.Need-in_either-r-requires invariant_loop decreases_loop
in_either_requires c κs = search rules

with_place_requires : tie.Need-with_place-requires invariant_loop decreases_loop
with_place_requires c κs = c.before.before.highest_place-p.ensures.low

left_out_requires : tie.Need-left_out-todo-requires invariant_loop decreases_loop
left_out_requires c κs = search rules

loop_less : tie.Need-loop-todo-smaller invariant_loop decreases_loop
loop_less c = let h = c.before.before.before.before in sought_less _ _ _ _ h.highest_place-p.ensures.inside h.highest_place-p.ensures.low c.before.with_place.ensures c.left_out-todo.ensures

loop_again : tie.Need-loop-todo-preserved invariant_loop decreases_loop
loop_again c = let l = c.before.before.before.before.before.before in sought_step l.loop-todo.invariant c.before.before.before.led_from-led.ensures _ c.before.before.in_either-r.ensures c.before.with_place.ensures c.left_out-todo.ensures

returns : tie.Need-returns invariant_loop decreases_loop
returns c = sought_end _ (omega arith) c.before.loop-todo.invariant

pub before_group_spec : {M : Type 1} → statement M
before_group_spec =
    tie.close
    (tie.spec
    invariant_loop
    decreases_loop
    cast_before_spares
    cast_before_spares_2
    add_before_spares
    cast_before_spares_3
    cast_before_spares_4
    add_before_spares_2
    before_spares_requires
    loop_holds
    highest_place_requires
    led_from_requires
    in_either_requires
    with_place_requires
    left_out_requires
    loop_less
    loop_again
    returns)
