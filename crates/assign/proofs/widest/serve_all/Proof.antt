-- `serve_all` meets its contract. The invariant: `free` has the spare places of w, and `held` only held ones; where `begun` is an assignment by the members that are not
-- in `left`, w is one by those that are neither left nor wait, and who waits, or holds a place that is in neither, may take none of them (`Wide`).
-- The measure is how many members are left. Assumes nothing.
use mathlib.Core.Path.{◌≡◌, refl, sym, ap, ◌∙◌, subst₂}
use mathlib.Core.Logic.{⊎_elim}
use mathlib.Core.List.{List}
use Prim.Native.Nat.{ℕ, ◌+◌, ◌≤◌}
use native.Mathlib.Omega.{arith}
use lib.ListN.{length}
use borrow.Author.Rules.{rules}
use Rattle.masks.specs.Masks.{bit}
use Rattle.rows.specs.Rows.{picks}
use Rattle.facts.specs.Counting.{count}
use Rattle.chains.specs.Chain.{Spares}
use Rattle.refining.specs.AsBytes.{Partly}
use Rattle.masks.proofs.Masks.{bit_none}
use Rattle.masks.proofs.OneByOne.{left_falls}
use Rattle.chains.proofs.Chains.{held_inv, open_in, spares_filled}
use Rattle.assign.proofs.AsManyAsCan.{Held, held_filled, Wide, wide_start, wide_served, wide_stuck, wide_done}
use Rattle.assign.proofs.widest.serve_all.Statement.{statement}
use Rattle.assign.proofs.widest.serve_all.Tie as tie

abbrev Goes : List ℕ → ℕ → ℕ → ℕ → List ℕ → ℕ → List ℕ → ℕ → ℕ → ℕ → Type 0
Goes columns from to left begun rest w free held waiting = (length w ≡ 32) × Spares w from to (bit free) × Held w from to (bit held)
    × ((first k : ℕ) → first + k ≤ 32 → Partly (picks columns) first k from to begun (bit left) → Wide (picks columns) first k from to w (bit rest) (bit waiting) (bit free) (bit held))

abbrev invariant_loop : tie.invariant-loop-rest
invariant_loop columns from to left w₀ free₀ held₀ waiting₀ rest₀ w free held waiting rest = Goes columns from to left w₀ rest w free held waiting

abbrev decreases_loop : tie.decreases-loop-rest
decreases_loop columns from to left w₀ free₀ held₀ waiting₀ rest₀ w free held waiting rest = count (bit rest) 32

spare_places_requires : tie.Need-spare_places-free-requires invariant_loop decreases_loop
spare_places_requires c κs = c.requires

span_requires : tie.Need-span-requires invariant_loop decreases_loop
span_requires c κs = c.before.requires

loop_holds : tie.Need-loop-rest-init invariant_loop decreases_loop
loop_holds c =
    let size : length c.before.before.args.begun ≡ 32 = search rules in
    let spares = c.before.spare_places-free.ensures in (
      size,
      spares,
      λ e h. let v = held_inv c.span.result c.before.spare_places-free.result spares c.span.ensures e h in (v.0, v.2),
      λ first k block partly. wide_start bit_none (open_in c.span.result c.before.spare_places-free.result spares c.span.ensures) partly,
    )

lowest_requires : tie.Need-lowest-m-requires invariant_loop decreases_loop
lowest_requires c κs = omega (arith, c.loop-rest-test.true)

settle_requires : tie.Need-settle-end-requires invariant_loop decreases_loop
settle_requires c κs =
    let chosen = c.before.before in
    let i = chosen.before.before.loop-rest.invariant in
    record { member = chosen.lowest-m.ensures.low; size = i.0; free = λ e f. (i.1.free e f).1; held = λ e h. (i.2 e h).1 }

flip_requires : tie.Need-flip-free-requires invariant_loop decreases_loop
flip_requires c κs = c.if-end-lt-MEMBERS_MOST.true

with_requires : tie.Need-with-held-requires invariant_loop decreases_loop
with_requires c κs = c.before.if-end-lt-MEMBERS_MOST.true

with_requires_2 : tie.Need-with-waiting-requires invariant_loop decreases_loop
with_requires_2 c κs = c.before.before.before.before.lowest-m.ensures.low

flip_requires_2 : tie.Need-flip-rest-requires invariant_loop decreases_loop
flip_requires_2 c κs = c.before.before.before.before.lowest-m.ensures.low

loop_less : tie.Need-loop-rest-smaller invariant_loop decreases_loop
loop_less c =
    let lowest = c.before.before.before.before.before.lowest-m in
    left_falls lowest.result c.flip-rest.ensures lowest.ensures.inside lowest.ensures.low (λ j h. h)

-- the same of equal lists and masks
goes_on : (P : List ℕ → ℕ → ℕ → ℕ → Type 0) {w w' : List ℕ} {f f' h h' u u' : ℕ} → w' ≡ w → f' ≡ f → h' ≡ h → u' ≡ u → P w f h u → P w' f' h' u'
goes_on P {w} {w'} {f} {f'} {h} {h'} {u} {u'} same_w same-f same-h same-u x =
    subst₂ (λ (y : List ℕ) (i : ℕ). P y i h' u') (sym same_w) (sym same-f) (subst₂ (λ (i j : ℕ). P w f i j) (sym same-h) (sym same-u) x)

loop_again : tie.Need-loop-rest-preserved invariant_loop decreases_loop
loop_again c =
    let called = c.before.before in
    let chosen = called.before.before.before in
    let l = chosen.before.before in
    let a = l.before.before.before.args in
    let i = l.loop-rest.invariant in
    let left = chosen.lowest-m.ensures.inside in
    let settled = called.settle-end.ensures in
    let x = called.settle-end.new.w in
    let goes = Goes a.columns.now a.from a.to a.left a.begun c.flip-rest.result in
    ⊎_elim
    (λ w.
    let low = w.if-end-lt-MEMBERS_MOST.true in
    let served = settled.served low in
    let filled = settled.filled low in
    goes_on goes refl w.free-is w.held-is w.waiting-is (
      served.size ∙ i.0,
      spares_filled i.1 filled served w.flip-free.ensures,
      held_filled i.1 i.2 filled served w.with-held.ensures,
      λ first k block partly. wide_served (i.3 first k block partly) left c.flip-rest.ensures block (λ e f. (i.1.free e f).0) (λ e h. (i.2 e h).0) served filled.inside w.flip-free.ensures w.with-held.ensures,
    ))
    (λ w.
    let none = w.if-end-lt-MEMBERS_MOST.false in
    let stuck = settled.stuck none in
    goes_on goes (settled.same none) w.free-is w.held-is w.waiting-is (
      i.0,
      i.1,
      λ e h. i.2 e (stuck.fell e h),
      λ first k block partly. wide_stuck (i.3 first k block partly) left c.flip-rest.ensures stuck w.with-waiting.ensures,
    ))
    c.before.if-end-lt-MEMBERS_MOST.branch-raw

returns : tie.Need-returns invariant_loop decreases_loop
returns c =
    let l = c.before in
    let i = l.loop-rest.invariant in
    λ first k block partly. wide_done l.before.before.before.requires.1 (λ v. ap (λ (n : ℕ). bit n v) c.loop-rest-test.false ∙ bit_none v) i.1 (i.3 first k block partly)

pub serve_all_spec : {M : Type 1} → statement M
serve_all_spec =
    tie.close
    (tie.spec
    invariant_loop
    decreases_loop
    spare_places_requires
    span_requires
    loop_holds
    lowest_requires
    settle_requires
    flip_requires
    with_requires
    with_requires_2
    flip_requires_2
    loop_less
    loop_again
    returns)
