-- The cycle of `scan_all`: at each call the depth left falls.
-- Its loop: what the element templates after the place and leaves s give, with the depths that are left there, is what all of them give.
-- Assumes nothing.
use mathlib.Core.Path.{◌≡◌, refl, sym, ◌∙◌}
use mathlib.Core.Bool.{true, false}
use mathlib.Core.List.{List}
use Prim.Native.Nat.{ℕ, ◌+◌, ◌-◌, ◌*◌, ◌≤◌, ◌<◌}
use native.Mathlib.Omega.{arith}
use native.Mathlib.Nat.{pos_of_ne-zero}
use borrow.Author.Rules.{rules}
use borrow.Fn.Kinds.{In}
use borrow.Fn.PlainCycle.{Measures, is, falls, and}
use lib.ListN.{length, get_or, drop}
use Rattle.sorts.specs.declared.Sort.{Sort}
use Rattle.sorts.specs.Sorts.{leaves_for}
use Rattle.grammar.specs.Record.{head}
use Rattle.elements.specs.Contract.{place_in, count_in, From, group_kind, HeadAt, ScannedOne, ScannedAll}
use Rattle.elements.proofs.Scans.{head_some, head_fits, group_fits, one_fault_lem, one_deep, one_group, one_over, one_leaf, next_fits, all_step, all_stop, all_last, all_end}
use Rattle.elements.proofs.scan_all.Reads as scan-all
use Rattle.elements.proofs.scan_all.Kinds as scan-all-kinds
use Rattle.elements.proofs.+scan_all.Lts-scan_all as lts
use Rattle.elements.proofs.head_end.Reads as head-end-reads
use Rattle.elements.proofs.is_group.Reads as is-group-reads
use Rattle.elements.proofs.refusal.Reads as refusal-reads
use Rattle.elements.proofs.+scan_all.{statement}
use Rattle.elements.proofs.+scan_all.Tie.{close}

record Scanning (sort : Sort) (t : List ℕ) (left n from s m d : ℕ) : Type 0 where
  fits : From t s
  down : d ≤ left
  goes : (r : ℕ) → ScannedAll sort t d m s r → ScannedAll sort t left n from r

-- a turn that has read a record without a fault, at a depth that is left
record Turn (sort : Sort) (t : List ℕ) (s m d end : ℕ) : Type 0 where
  fits : From t s
  some : 0 < m
  stands : HeadAt t (place_in s) (head (leaves_for sort) (drop (place_in s) t)) end
  sound : end ≤ 16777215
  level : 0 < d

module _ (sort : Sort) (t : List ℕ) (s m d end : ℕ) (u : Turn sort t s m d end) where
  some_byte : place_in s < length t
  some_byte = head_some (leaves_for sort) t (place_in s) end u.fits.0.1 u.stands u.sound

  record_fits : (place_in s ≤ end) × (end ≤ length t) × (length t < 65536) × (s ≤ 16777215)
  record_fits = let v = head_fits t (place_in s) _ end u.fits.0.1 u.stands u.sound in (v.0, v.1, u.fits.0.1, u.fits.1)

  -- the members of a list or complement begin within the bytes
  opens : group_kind (get_or t (place_in s) 0) ≡ true → From t (s + 2) × (place_in s + 2 ≤ length t) × (length t < 65536)
  opens k =
      let v = group_fits t (place_in s) _ end u.fits.0.1 u.stands u.sound k in
      let short = u.fits.0.1 in
      let low = u.fits.1 in
      (((omega (arith, v), short), omega (arith, v)), omega (arith, v), short)

  held : group_kind (get_or t (place_in s) 0) ≡ true → (r : ℕ) → ScannedAll sort t (d - 1) (get_or t (place_in s + 1) 0) (s + 2) r → ScannedOne sort t d s r
  held k r h = one_group sort t d s end u.fits u.sound u.level u.stands k r h

  over : group_kind (get_or t (place_in s) 0) ≡ false → (r : ℕ) → r ≡ 16777215 + 8 → 63 < count_in s → ScannedOne sort t d s r
  over k r e many = one_over sort t d s end u.fits u.sound u.level u.stands k r e many

  counts : group_kind (get_or t (place_in s) 0) ≡ false → (r : ℕ) → r ≡ s + 65536 + (end - place_in s) → count_in s ≤ 63 → ScannedOne sort t d s r
  counts k r e few = one_leaf sort t d s end u.fits u.sound u.level u.stands k r e few

  module _ (left n from : ℕ) (g : Scanning sort t left n from s m d) where
    -- what the last one holds is next, a depth further down
    descends : m ≡ 1 → group_kind (get_or t (place_in s) 0) ≡ true → Scanning sort t left n from (s + 2) (get_or t (place_in s + 1) 0) (d - 1)
    descends last k = record {
      fits = (opens k).0;
      down = let l = g.down in omega arith;
      goes = λ r h. g.goes r (all_last sort t d m s r last u.fits (held k r h));
    }

    passes : (r : ℕ) → ScannedOne sort t d s r → r ≤ 16777215 → Scanning sort t left n from r (m - 1) d
    passes r one sound = record {
      fits = ((next_fits sort t d s r one sound, u.fits.0.1), sound);
      down = g.down;
      goes = λ r' h. g.goes r' (all_step sort t d m s r r' u.some one sound h);
    }

    stops : (r : ℕ) → ScannedOne sort t d s r → 16777215 < r → ScannedAll sort t left n from r
    stops r one fault = g.goes r (all_stop sort t d m s r u.some one fault)

abbrev μ : Measures 1 scan-all-kinds.ps ℕ
μ κs a = a.1.1.1.0

abbrev at : ℕ → In 1 scan-all-kinds.ps
at t = and 1 scan-all-kinds.ps (is 1 scan-all-kinds.ps μ t) scan-all.Pre

abbrev below : ℕ → In 1 scan-all-kinds.ps
below t = and 1 scan-all-kinds.ps (falls 1 scan-all-kinds.ps ◌<◌ μ t) scan-all.Pre

abbrev calls : ℕ → lts.Claims
calls t =
    (head-end-reads.Asked, head-end-reads.Learnt, refusal-reads.Asked, refusal-reads.Learnt, is-group-reads.Asked, is-group-reads.Learnt, below t, scan-all.Post)

abbrev Inv : lts.invariant-loop-more
Inv t from n left sort s₀ more₀ depths₀ s more depths = Scanning sort t left n from s more depths

-- a depth further down there are at most as many as a byte says
abbrev decreases_loop : lts.decreases-loop-more
decreases_loop t from n left sort s₀ more₀ depths₀ s more depths = depths * 256 + more

loop_holds : (t : ℕ) → lts.Need-loop-more-init (calls t) (at t) scan-all.Post Inv decreases_loop
loop_holds t c = record { fits = c.before.requires.1; down = omega arith; goes = λ r h. h }

head_end_requires : (t : ℕ) → lts.Need-head_end-end-requires (calls t) (at t) scan-all.Post Inv decreases_loop
head_end_requires t c κs = c.before.loop-more.invariant.fits.0

returns : (t : ℕ) → lts.Need-returns-then-end-gt-FAULT (calls t) (at t) scan-all.Post Inv decreases_loop
returns t c =
    let turn = c.before.before.before in
    let a = turn.before.before.args in
    let g = turn.loop-more.invariant in
    let one = one_fault_lem a.sort a.t.now turn.loop-more.depths turn.loop-more.s c.before.head_end-end.result g.fits c.before.head_end-end.ensures c.if-end-gt-FAULT.true in
    g.goes _ (all_stop a.sort a.t.now turn.loop-more.depths _ turn.loop-more.s _ c.before.before.loop-more-test.true one c.if-end-gt-FAULT.true)

refusal_requires : (t : ℕ) → lts.Need-refusal-requires (calls t) (at t) scan-all.Post Inv decreases_loop
refusal_requires t c κs = search rules

returns_2 : (t : ℕ) → lts.Need-returns-then-depths-eq0 (calls t) (at t) scan-all.Post Inv decreases_loop
returns_2 t c =
    let read = c.before.before.before in
    let turn = read.before.before in
    let a = turn.before.before.args in
    let g = turn.loop-more.invariant in
    let one = one_deep a.sort a.t.now turn.loop-more.depths turn.loop-more.s read.head_end-end.result g.fits c.before.before.if-end-gt-FAULT.false read.head_end-end.ensures _ c.refusal.ensures c.before.if-depths-eq0.true in
    g.goes _ (all_stop a.sort a.t.now turn.loop-more.depths _ turn.loop-more.s _ read.before.loop-more-test.true one (omega (arith, c.refusal.ensures)))

-- what is known where the kind is looked at
turn_of : (t : ℕ) (c : lts.Else-depths-eq0 (calls t) (at t) scan-all.Post Inv decreases_loop) → Turn c.before.before.before.before.before.before.args.sort c.before.before.before.before.before.before.args.t.now c.before.before.before.before.loop-more.s c.before.before.before.before.loop-more.more c.before.before.before.before.loop-more.depths c.before.before.head_end-end.result
turn_of t c = record {
  fits = c.before.before.before.before.loop-more.invariant.fits;
  some = c.before.before.before.loop-more-test.true;
  stands = c.before.before.head_end-end.ensures;
  sound = c.before.if-end-gt-FAULT.false;
  level = pos_of_ne-zero c.if-depths-eq0.false;
}

shared_slice_read_is_group : (t : ℕ) → lts.Need-bounds-t-at (calls t) (at t) scan-all.Post Inv decreases_loop
shared_slice_read_is_group t c = some_byte _ _ _ _ _ _ (turn_of t c.before)

is_group_requires : (t : ℕ) → lts.Need-is_group-requires (calls t) (at t) scan-all.Post Inv decreases_loop
is_group_requires t c κs = search rules

-- the members of a list or complement begin within the bytes
held_fits : (t : ℕ) (c : lts.Then-is_group (calls t) (at t) scan-all.Post Inv decreases_loop) → From c.before.before.before.before.before.before.before.before.before.args.t.now (c.before.before.before.before.before.before.before.loop-more.s + 2) × (place_in c.before.before.before.before.before.before.before.loop-more.s + 2 ≤ length c.before.before.before.before.before.before.before.before.before.args.t.now) × (length c.before.before.before.before.before.before.before.before.before.args.t.now < 65536)
held_fits t c = opens _ _ _ _ _ _ (turn_of t c.before.before.before) (sym c.before.is_group.ensures ∙ c.if-is_group.true)

add_k : (t : ℕ) → lts.Need-overflow_add-k (calls t) (at t) scan-all.Post Inv decreases_loop
add_k t c = let f = held_fits t c in omega arith

shared_slice_read_k : (t : ℕ) → lts.Need-bounds-t-at-then-is_group (calls t) (at t) scan-all.Post Inv decreases_loop
shared_slice_read_k t c = let f = held_fits t c.before in omega arith

cast_k : (t : ℕ) → lts.Need-overflow_cast-k (calls t) (at t) scan-all.Post Inv decreases_loop
cast_k t c = omega (arith, c.shared_slice_known-then-is_group-1.given (place_in c.before.before.before.before.before.before.before.before.loop-more.s + 1))

add_s : (t : ℕ) → lts.Need-overflow_add-s (calls t) (at t) scan-all.Post Inv decreases_loop
add_s t c = let f = held_fits t c.before.before in omega arith

sub_depths : (t : ℕ) → lts.Need-overflow_sub-depths (calls t) (at t) scan-all.Post Inv decreases_loop
sub_depths t c = (turn_of t c.before.before.before.before.before).level

loop_less : (t : ℕ) → lts.Need-loop-more-smaller-then-more-eq1 (calls t) (at t) scan-all.Post Inv decreases_loop
loop_less t c =
    let l = (turn_of t c.before.before.before.before.before).level in
    omega (arith, c.before.shared_slice_known-then-is_group-1.given (place_in c.before.before.before.before.before.before.before.before.before.loop-more.s + 1), c.if-more-eq1.true)

loop_again : (t : ℕ) → lts.Need-loop-more-preserved-then-more-eq1 (calls t) (at t) scan-all.Post Inv decreases_loop
loop_again t c = descends _ _ _ _ _ _ (turn_of t c.before.before.before.before.before) _ _ _ c.before.before.before.before.before.before.before.before.before.loop-more.invariant c.if-more-eq1.true (sym c.before.before.before.is_group.ensures ∙ c.before.before.if-is_group.true)

add_scan_all : (t : ℕ) → lts.Need-overflow_add-s-else-more-eq1 (calls t) (at t) scan-all.Post Inv decreases_loop
add_scan_all t c = let f = held_fits t c.before.before in omega arith

sub_scan_all : (t : ℕ) → lts.Need-overflow_sub-depths-else-more-eq1 (calls t) (at t) scan-all.Post Inv decreases_loop
sub_scan_all t c = (turn_of t c.before.before.before.before.before).level

scan_all_requires : (t : ℕ) → lts.Need-scan_all-s-requires (calls t) (at t) scan-all.Post Inv decreases_loop
scan_all_requires t c κs =
    let l = (turn_of t c.before.before.before.before.before).level in
    let d = c.before.before.before.before.before.before.before.before.before.loop-more.invariant.down in
    (omega (arith, c.before.before.before.before.before.before.before.before.before.before.before.requires.0), (held_fits t c.before.before).0)

-- one with members was read, or refused
one_held : (t : ℕ) (c : lts.After-scan_all-s (calls t) (at t) scan-all.Post Inv decreases_loop) → ScannedOne c.before.before.before.before.before.before.before.before.before.before.before.before.args.sort c.before.before.before.before.before.before.before.before.before.before.before.before.args.t.now c.before.before.before.before.before.before.before.before.before.before.loop-more.depths c.before.before.before.before.before.before.before.before.before.before.loop-more.s c.scan_all-s.result
one_held t c = held _ _ _ _ _ _ (turn_of t c.before.before.before.before.before.before) (sym c.before.before.before.before.is_group.ensures ∙ c.before.before.before.if-is_group.true) _ c.scan_all-s.ensures

returns_3 : (t : ℕ) → lts.Need-returns-then-s-gt-FAULT (calls t) (at t) scan-all.Post Inv decreases_loop
returns_3 t c = stops _ _ _ _ _ _ (turn_of t c.before.before.before.before.before.before.before) _ _ _ c.before.before.before.before.before.before.before.before.before.before.before.loop-more.invariant _ (one_held t c.before) c.if-s-gt-FAULT.true

sub_more : (t : ℕ) → lts.Need-overflow_sub-more (calls t) (at t) scan-all.Post Inv decreases_loop
sub_more t c = (turn_of t c.before.before.before.before.before.before.before).some

loop_less_2 : (t : ℕ) → lts.Need-loop-more-smaller-else-more-eq1 (calls t) (at t) scan-all.Post Inv decreases_loop
loop_less_2 t c = let p = (turn_of t c.before.before.before.before.before.before.before).some in omega arith

loop_again_2 : (t : ℕ) → lts.Need-loop-more-preserved-else-more-eq1 (calls t) (at t) scan-all.Post Inv decreases_loop
loop_again_2 t c = passes _ _ _ _ _ _ (turn_of t c.before.before.before.before.before.before.before) _ _ _ c.before.before.before.before.before.before.before.before.before.before.before.loop-more.invariant _ (one_held t c.before) c.if-s-gt-FAULT.false

refusal_requires_2 : (t : ℕ) → lts.Need-refusal-requires-then-s-gt-LAST_LEAF (calls t) (at t) scan-all.Post Inv decreases_loop
refusal_requires_2 t c κs = search rules

returns_4 : (t : ℕ) → lts.Need-returns-then-s-gt-LAST_LEAF (calls t) (at t) scan-all.Post Inv decreases_loop
returns_4 t c =
    let u = turn_of t c.before.before.before.before.before in
    let one = over _ _ _ _ _ _ u (sym c.before.before.before.is_group.ensures ∙ c.before.before.if-is_group.false) _ c.refusal-then-s-gt-LAST_LEAF.ensures c.before.if-s-gt-LAST_LEAF.true in
    stops _ _ _ _ _ _ u _ _ _ c.before.before.before.before.before.before.before.before.before.loop-more.invariant _ one (omega (arith, c.refusal-then-s-gt-LAST_LEAF.ensures))

add_s_2 : (t : ℕ) → lts.Need-overflow_add-s-else-is_group (calls t) (at t) scan-all.Post Inv decreases_loop
add_s_2 t c = let f = (turn_of t c.before.before.before.before).fits.1 in omega arith

sub_s : (t : ℕ) → lts.Need-overflow_sub-s (calls t) (at t) scan-all.Post Inv decreases_loop
sub_s t c = (record_fits _ _ _ _ _ _ (turn_of t c.before.before.before.before)).0

add_s_3 : (t : ℕ) → lts.Need-overflow_add-s-else-is_group-2 (calls t) (at t) scan-all.Post Inv decreases_loop
add_s_3 t c = let f = record_fits _ _ _ _ _ _ (turn_of t c.before.before.before.before) in omega arith

sub_more_2 : (t : ℕ) → lts.Need-overflow_sub-more-else-is_group (calls t) (at t) scan-all.Post Inv decreases_loop
sub_more_2 t c = (turn_of t c.before.before.before.before).some

loop_less_3 : (t : ℕ) → lts.Need-loop-more-smaller (calls t) (at t) scan-all.Post Inv decreases_loop
loop_less_3 t c = let p = (turn_of t c.before.before.before.before).some in omega arith

loop_again_3 : (t : ℕ) → lts.Need-loop-more-preserved (calls t) (at t) scan-all.Post Inv decreases_loop
loop_again_3 t c =
    let u = turn_of t c.before.before.before.before in
    let one = counts _ _ _ _ _ _ u (sym c.before.before.is_group.ensures ∙ c.before.if-is_group.false) _ refl c.if-s-gt-LAST_LEAF.false in
    let f = record_fits _ _ _ _ _ _ u in
    passes _ _ _ _ _ _ u _ _ _ c.before.before.before.before.before.before.before.before.loop-more.invariant _ one (omega (arith, c.if-s-gt-LAST_LEAF.false))

returns_5 : (t : ℕ) → lts.Need-returns (calls t) (at t) scan-all.Post Inv decreases_loop
returns_5 t c =
    let turn = c.before in
    let a = turn.before.before.args in
    turn.loop-more.invariant.goes _ (all_end a.sort a.t.now turn.loop-more.depths turn.loop-more.more turn.loop-more.s (omega (arith, c.loop-more-test.false)) c.before.loop-more.invariant.fits)

pub +scan_all_spec : {M : Type 1} → statement M
+scan_all_spec = close μ λ t. lts.spec (calls t)
    (at t)
    scan-all.Post
    Inv
    decreases_loop
    (loop_holds t)
    (head_end_requires t)
    (returns t)
    (refusal_requires t)
    (returns_2 t)
    (shared_slice_read_is_group t)
    (is_group_requires t)
    (add_k t)
    (shared_slice_read_k t)
    (cast_k t)
    (add_s t)
    (sub_depths t)
    (loop_less t)
    (loop_again t)
    (add_scan_all t)
    (sub_scan_all t)
    (scan_all_requires t)
    (returns_3 t)
    (sub_more t)
    (loop_less_2 t)
    (loop_again_2 t)
    (refusal_requires_2 t)
    (returns_4 t)
    (add_s_2 t)
    (sub_s t)
    (add_s_3 t)
    (sub_more_2 t)
    (loop_less_3 t)
    (loop_again_3 t)
    (returns_5 t)
