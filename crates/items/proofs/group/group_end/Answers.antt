-- What is no member is asked about as a 20; either way the item steps the loop on, or stops it. Assumes nothing.
use Rattle.std.proofs.Common.{◌≡◌, refl, sym, ap, ◌∙◌, ℕ, ◌&&◌, not, ◌-◌, ◌≤◌, ◌+◌, arith}
use Rattle.std.specs.Prelude.{eqb, drop}
use Rattle.sorts.specs.Sorts.{whole, family_of, lower_of, upper_of}
use Rattle.grammar.specs.Whole.{star_here}
use Rattle.elements.specs.Contract.{fault_in, Noted}
use Rattle.items.specs.Notes.{StarNotes}
use Rattle.items.proofs.MemberPlaces.{noted_told}
use Rattle.items.proofs.Groups.{MemberRead, member_read, step_star, step_member, Going, go_start, go_stop, go_step, go_end, gathered_counts, gathered_block, member_item}
use Rattle.items.proofs.group.group_end.Goals as goal
use Rattle.items.proofs.group.group_end.Goals.{then-sort-eq-WHOLE, else-sort-eq-WHOLE, then-p-gt-FAULT+else-not-stars-kind_at+else-p-gt-FAULT-2, else-p-gt-FAULT}

pub loop-init : goal.loop-init
loop-init c =
    let a = c.args in
    let all : a.n - 0 ≡ a.n = omega arith in
    rw all (go_start (family_of a.sort) (lower_of a.sort) (upper_of a.sort) a.t.now a.stars a.at a.n a.m _ c.requires.0.1 c.requires.0.0 c.requires.1 c.requires.2)

pub returns-then-not-stars-kind_at : goal.returns-then-not-stars-kind_at
returns-then-not-stars-kind_at c =
    let a = c.args in
    let turn = c.loop in
    let read : MemberRead (family_of a.sort) (lower_of a.sort) (upper_of a.sort) a.t.now turn.p turn.count turn.places c.if-sort-eq-WHOLE.p c.if-sort-eq-WHOLE.places =
    elim c.if-sort-eq-WHOLE.branch [
      | then-sort-eq-WHOLE w ↦ rw (w.places-is, w.p-is) (member_read a.sort whole a.t.now turn.p turn.count turn.places _ _ w.if-sort-eq-WHOLE.true w.integer_member_end-p.ensures)
      | else-sort-eq-WHOLE w ↦ rw (w.places-is, w.p-is) (member_read a.sort a.sort a.t.now turn.p turn.count turn.places _ _ refl w.other_member_end-p.ensures)
    ] in (
      go_stop (family_of a.sort) (lower_of a.sort) (upper_of a.sort) a.t.now a.stars turn.invariant _ _ _ _ (omega arith)
          (step_member (sym (ap (λ (k : ℕ). a.stars && eqb k 32) c.kind_at.ensures) ∙ c.if-not-stars-kind_at.true) read.read refl refl)
          c.if-p-gt-FAULT.true,
      read.size,
    )

pub returns-then-p-gt-FAULT-2 : goal.returns-then-p-gt-FAULT-2
returns-then-p-gt-FAULT-2 c =
    let a = c.args in
    let turn = c.loop in
    let read : MemberRead (family_of a.sort) (lower_of a.sort) (upper_of a.sort) a.t.now turn.p turn.count turn.places c.if-sort-eq-WHOLE.p c.if-sort-eq-WHOLE.places =
    elim c.if-sort-eq-WHOLE.branch [
      | then-sort-eq-WHOLE w ↦ rw (w.places-is, w.p-is) (member_read a.sort whole a.t.now turn.p turn.count turn.places _ _ w.if-sort-eq-WHOLE.true w.integer_member_end-p.ensures)
      | else-sort-eq-WHOLE w ↦ rw (w.places-is, w.p-is) (member_read a.sort a.sort a.t.now turn.p turn.count turn.places _ _ refl w.other_member_end-p.ensures)
    ] in (
      go_stop (family_of a.sort) (lower_of a.sort) (upper_of a.sort) a.t.now a.stars turn.invariant _ _ _ _ (omega arith)
          (step_star (sym (ap (λ (k : ℕ). a.stars && eqb k 32) c.kind_at.ensures) ∙ c.if-not-stars-kind_at.false) c.star_end-p.ensures refl refl read.stays)
          c.if-p-gt-FAULT-2.true,
      read.size,
    )

pub loop-preserved : goal.loop-preserved
loop-preserved c =
    let a = c.args in
    let turn = c.loop in
    let read : MemberRead (family_of a.sort) (lower_of a.sort) (upper_of a.sort) a.t.now turn.p turn.count turn.places c.if-sort-eq-WHOLE.p c.if-sort-eq-WHOLE.places =
    elim c.if-sort-eq-WHOLE.branch [
      | then-sort-eq-WHOLE w ↦ rw (w.places-is, w.p-is) (member_read a.sort whole a.t.now turn.p turn.count turn.places _ _ w.if-sort-eq-WHOLE.true w.integer_member_end-p.ensures)
      | else-sort-eq-WHOLE w ↦ rw (w.places-is, w.p-is) (member_read a.sort a.sort a.t.now turn.p turn.count turn.places _ _ refl w.other_member_end-p.ensures)
    ] in
    let down : a.n - turn.counter - 1 ≡ a.n - (turn.counter + 1) = omega arith in
    let stepped : Going (family_of a.sort) (lower_of a.sort) (upper_of a.sort) a.t.now a.stars a.at a.n a.m a.places.now c.if-p-gt-FAULT.p c.if-p-gt-FAULT.count c.if-p-gt-FAULT.star c.if-sort-eq-WHOLE.places (a.n - turn.counter - 1) =
    elim c.if-p-gt-FAULT.branch [
      | then-p-gt-FAULT+else-not-stars-kind_at+else-p-gt-FAULT-2 w ↦
          let star : Noted (StarNotes a.t.now turn.p c.if-p-gt-FAULT.p) a.t.now (star_here (not (eqb turn.star 0)) (drop turn.p a.t.now)) (fault_in c.if-p-gt-FAULT.p) c.if-p-gt-FAULT.p = rw w.p-is w.star_end-p.ensures in
          go_step (family_of a.sort) (lower_of a.sort) (upper_of a.sort) a.t.now a.stars turn.invariant _ _ _ _ (omega arith)
          (step_star (sym (ap (λ (k : ℕ). a.stars && eqb k 32) w.kind_at.ensures) ∙ w.if-not-stars-kind_at.false) star w.count-is w.star-is read.stays)
          read.size (omega arith)
      | else-p-gt-FAULT w ↦
          let under : c.if-p-gt-FAULT.p ≤ 16777215 = omega arith in
          let placed : MemberRead (family_of a.sort) (lower_of a.sort) (upper_of a.sort) a.t.now turn.p turn.count turn.places c.if-p-gt-FAULT.p c.if-sort-eq-WHOLE.places = rw w.p-is read in
          go_step (family_of a.sort) (lower_of a.sort) (upper_of a.sort) a.t.now a.stars turn.invariant _ _ _ _ (omega arith)
          (step_member (member_item (family_of a.sort) (lower_of a.sort) (upper_of a.sort) a.t.now a.stars turn.p turn.count _ placed.read under) placed.read w.count-is w.star-is)
          read.size under
    ] in
    rw down at stepped

pub group_block-requires : goal.group_block-requires
group_block-requires c =
    let a = c.args in
    let g = c.loop.invariant in
    gathered_counts (family_of a.sort) (lower_of a.sort) (upper_of a.sort) a.t.now a.stars a.n a.m _ _ _ _ _ _ _ c.requires.1 (omega (arith, g.inside, g.short)) (go_end (family_of a.sort) (lower_of a.sort) (upper_of a.sort) a.t.now a.stars g (omega arith))

pub returns : goal.returns
returns c =
    let a = c.args in
    let g = c.loop.invariant in
    (noted_told (λ x q w. gathered_block (family_of a.sort) a.t.now a.m _ _ _ _ _ x w c.group_block.ensures) (go_end (family_of a.sort) (lower_of a.sort) (upper_of a.sort) a.t.now a.stars g (omega arith)), g.size)
