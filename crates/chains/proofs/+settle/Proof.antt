-- The proof of the cycle of calls {settle}. The measure is the number of held places that have not been tried: a place is tried before its owner is asked.
-- The loop's invariant: w is as it was, and `Walk`: who holds a place that was tried may take no spare place and none that is left. Its measure is the number of
-- held places to try. Assumes nothing.
use mathlib.Core.Path.{◌≡◌, refl, sym, subst}
use mathlib.Core.Bool.{true}
use mathlib.Core.List.{List}
use Prim.Native.Nat.{ℕ, ◌<◌}
use lib.ListN.{get_or}
use native.Mathlib.Omega.{arith}
use borrow.Fn.Kinds.{In}
use borrow.Fn.PlainCycle.{Measures, is, falls, and}
use Rattle.masks.specs.Masks.{bit}
use Rattle.rows.specs.Rows.{picks}
use Rattle.facts.specs.Counting.{count}
use Rattle.chains.specs.Chain.{Ready, Settled}
use Rattle.facts.proofs.Counting.{count_le}
use Rattle.rows.proofs.Rows.{row_bits, row_none}
use Rattle.masks.proofs.OneByOne.{left_falls, flipped_down}
use Rattle.chains.proofs.Chains.{Walk, reach_free, walk_start, walk_stuck, turn_served, finish, give_spare, filled_spare, filled_chain, settled_found, settled_none}
use Rattle.chains.proofs.settle.Reads as settle
use Rattle.chains.proofs.settle.Kinds as settle-kinds
use Rattle.chains.proofs.+settle.Lts-settle as lts
use Rattle.masks.proofs.flip.Reads as flip-reads
use Rattle.masks.proofs.highest.Reads as highest-reads
use Rattle.masks.proofs.lowest.Reads as lowest-reads
use Rattle.rows.proofs.choices.Reads as choices-reads
use Rattle.chains.proofs.+settle.{statement}
use Rattle.chains.proofs.+settle.Tie.{close}

abbrev μ_settle : Measures 3 settle-kinds.ps ℕ
μ_settle κs a = count (bit a.1.1.0.now) 32

-- what `settle` is given at the measure t, and what it knows of the functions that it calls: of itself, below t
abbrev at : ℕ → In 3 settle-kinds.ps
at t = and 3 settle-kinds.ps (is 3 settle-kinds.ps μ_settle t) settle.Pre

abbrev calls : ℕ → lts.Claims
calls t = (
  choices-reads.Asked,
  choices-reads.Learnt,
  lowest-reads.Asked,
  lowest-reads.Learnt,
  highest-reads.Asked,
  highest-reads.Learnt,
  flip-reads.Asked,
  flip-reads.Learnt,
  and 3 settle-kinds.ps (falls 3 settle-kinds.ps ◌<◌ μ_settle t) settle.Pre,
  settle.Post,
)

abbrev Inv : lts.invariant-loop-left
Inv columns free left₀ w₀ m row left w = (w ≡ w₀) × Walk (picks columns) (bit free) (bit left₀) (bit left) w₀

abbrev μ : lts.decreases-loop-left
μ columns free left₀ w₀ m row left w = count (bit left) 32

choices_requires : (t : ℕ) → lts.Need-choices-row-requires (calls t) (at t) settle.Post Inv μ
choices_requires t c κs = c.requires.1.member

lowest_requires : (t : ℕ) → lts.Need-lowest-e-requires (calls t) (at t) settle.Post Inv μ
lowest_requires t c κs = omega (arith, c.if-row-free-ne0.true)

cast_w : (t : ℕ) → lts.Need-overflow_cast-w (calls t) (at t) settle.Post Inv μ
cast_w t c = omega (arith, c.lowest-e.ensures.low)

element_write_w : (t : ℕ) → lts.Need-bounds-w-e (calls t) (at t) settle.Post Inv μ
element_write_w t c = c.lowest-e.ensures.low

-- a spare place that m may take
returns : (t : ℕ) → lts.Need-returns-then-row-free-ne0 (calls t) (at t) settle.Post Inv μ
returns t c =
    let picked = c.before.before in
    let start = picked.before in
    let a = start.args in
    let r = start.requires.1 in
    let e = c.lowest-e.result in
    let found = c.lowest-e.ensures in
    let bits = row_bits a.columns.now a.m picked.choices-row.result picked.choices-row.ensures a.free e found.inside in
    settled_found found.low
    (give_spare e r.size r.member found.low (reach_free (picks a.columns.now) (bit a.free) (bit a.left.now) a.m e bits.0 bits.1) (r.free _ bits.1))
    (filled_spare e r.size r.member found.low bits.1)

loop_holds : (t : ℕ) → lts.Need-loop-left-init (calls t) (at t) settle.Post Inv μ
loop_holds t c = (refl, walk_start)

highest_requires : (t : ℕ) → lts.Need-highest-e-requires (calls t) (at t) settle.Post Inv μ
highest_requires t c κs = omega (arith, c.before.loop-left-test.true)

flip_requires : (t : ℕ) → lts.Need-flip-requires (calls t) (at t) settle.Post Inv μ
flip_requires t c κs = c.highest-e.ensures.low

cast_owner : (t : ℕ) → lts.Need-overflow_cast-owner (calls t) (at t) settle.Post Inv μ
cast_owner t c = omega (arith, c.before.highest-e.ensures.low)

element_copy_out_owner : (t : ℕ) → lts.Need-bounds-w-e-in-loop-left (calls t) (at t) settle.Post Inv μ
element_copy_out_owner t c = c.before.highest-e.ensures.low

-- the place of this turn: m may take it, it was still to be tried, and a member holds it
here : (t : ℕ) (c : lts.After-flip (calls t) (at t) settle.Post Inv μ)
    → let l = c.before.before.before.before in let a = l.before.before.before.args in
    (picks a.columns.now a.m c.before.highest-e.result ≡ true) × (bit l.loop-left.left c.before.highest-e.result ≡ true)
    × (get_or a.w.now c.before.highest-e.result 0 < 32)
here t c =
    let l = c.before.before.before.before in
    let picked = l.before.before in
    let start = picked.before in
    let bits = row_bits start.args.columns.now start.args.m picked.choices-row.result picked.choices-row.ensures l.loop-left.left c.before.highest-e.result c.before.highest-e.ensures.inside in
    (bits.0, bits.1, start.requires.1.held _ (l.loop-left.invariant.1.fell _ bits.1))

settle_requires : (t : ℕ) → lts.Need-settle-end-requires (calls t) (at t) settle.Post Inv μ
settle_requires t c κs =
    let turned = c.before.before.before in
    let l = turned.before.before.before.before in
    let start = l.before.before.before in
    let same = l.loop-left.invariant.0 in
    let walk = l.loop-left.invariant.1 in
    let e = turned.before.highest-e.result in
    let h = here t turned.before in
    let less = left_falls e turned.flip.ensures h.1 turned.before.highest-e.ensures.low (λ j k. k) in
    let le = count_le {P = bit l.loop-left.left} {S = bit start.args.left.now} walk.fell 32 in
    let r = start.requires.1 in (
      subst (λ (j : ℕ). count (bit turned.flip.result) 32 < j) start.requires.0 (omega arith),
      subst (λ (x : List ℕ). Ready (bit start.args.free) (bit turned.flip.result) x (get_or x e 0)) (sym same) (record {
        member = h.2;
        size = r.size;
        free = r.free;
        held = λ j k. r.held j (walk.fell j (flipped_down turned.flip.ensures h.1 j k));
      }),
    )

cast_w_2 : (t : ℕ) → lts.Need-overflow_cast-w-then-end-lt-MEMBERS_MOST (calls t) (at t) settle.Post Inv μ
cast_w_2 t c = let turned = c.before.before.before.before.before in omega (arith, turned.before.highest-e.ensures.low)

element_write_w_2 : (t : ℕ) → lts.Need-bounds-w-e-then-end-lt-MEMBERS_MOST (calls t) (at t) settle.Post Inv μ
element_write_w_2 t c = c.before.before.before.before.before.before.highest-e.ensures.low

-- what the call gave, of the list as it was
given : (t : ℕ) (c : lts.After-settle-end (calls t) (at t) settle.Post Inv μ)
    → let turned = c.before.before.before.before in let l = turned.before.before.before.before in let a = l.before.before.before.args in
    Settled (picks a.columns.now) (bit a.free) (bit turned.flip.result) a.w.now (get_or a.w.now turned.before.highest-e.result 0) c.settle-end.result
    (bit c.settle-end.new.left) c.settle-end.new.w
given t c =
    let turned = c.before.before.before.before in
    let l = turned.before.before.before.before in
    let a = l.before.before.before.args in
    subst (λ (x : List ℕ). Settled (picks a.columns.now) (bit a.free) (bit turned.flip.result) x (get_or x turned.before.highest-e.result 0) c.settle-end.result
    (bit c.settle-end.new.left) c.settle-end.new.w) l.loop-left.invariant.0 c.settle-end.ensures

-- the owner was moved
returns_2 : (t : ℕ) → lts.Need-returns-then-end-lt-MEMBERS_MOST (calls t) (at t) settle.Post Inv μ
returns_2 t c =
    let turned = c.before.before.before.before.before in
    let l = turned.before.before.before.before in
    let start = l.before.before.before in
    let e = turned.before.highest-e.result in
    let h = here t turned.before.before in
    let s = given t c.before.before in
    let low = c.if-end-lt-MEMBERS_MOST.true in
    settled_found low
    (turn_served e start.requires.1 h.0 turned.before.highest-e.ensures.low l.loop-left.invariant.1 turned.flip.ensures h.1 (s.served low))
    (filled_chain e start.args.m start.requires.1.free h.2 (s.filled low))

loop_less : (t : ℕ) → lts.Need-loop-left-smaller (calls t) (at t) settle.Post Inv μ
loop_less t c =
    let turned = c.before.before.before.before.before in
    let k = (given t c.before).stuck c.if-end-lt-MEMBERS_MOST.false in
    left_falls turned.before.highest-e.result turned.flip.ensures (here t turned.before).1 turned.before.highest-e.ensures.low k.fell

-- the owner cannot be moved
loop_again : (t : ℕ) → lts.Need-loop-left-preserved (calls t) (at t) settle.Post Inv μ
loop_again t c =
    let turned = c.before.before.before.before.before in
    let l = turned.before.before.before.before in
    let s = given t c.before in
    (s.same c.if-end-lt-MEMBERS_MOST.false, walk_stuck turned.before.highest-e.result l.loop-left.invariant.1 turned.flip.ensures (here t turned.before).1 (s.stuck c.if-end-lt-MEMBERS_MOST.false))

returns_3 : (t : ℕ) → lts.Need-returns (calls t) (at t) settle.Post Inv μ
returns_3 t c =
    let l = c.before in
    let picked = l.before.before in
    let a = picked.before.args in
    settled_none (finish
    (λ e. row_none a.columns.now a.m picked.choices-row.result picked.choices-row.ensures a.free e l.before.if-row-free-ne0.false)
    (λ e. row_none a.columns.now a.m picked.choices-row.result picked.choices-row.ensures l.loop-left.left e c.loop-left-test.false)
    l.loop-left.invariant.1) l.loop-left.invariant.0

pub +settle_spec : {M : Type 1} → statement M
+settle_spec =
    close μ_settle λ t. lts.spec (calls t) (at t) settle.Post Inv μ
    (choices_requires t)
    (lowest_requires t)
    (cast_w t)
    (element_write_w t)
    (returns t)
    (loop_holds t)
    (highest_requires t)
    (flip_requires t)
    (cast_owner t)
    (element_copy_out_owner t)
    (settle_requires t)
    (cast_w_2 t)
    (element_write_w_2 t)
    (returns_2 t)
    (loop_less t)
    (loop_again t)
    (returns_3 t)
