-- `next`: what is left begins later, and ends further on.
use Rattle.std.proofs.Common.{◌≡◌, ◌&&◌, true, ℕ, ◌+◌, ◌≤◌, ◌<◌, sym, ◌∙◌, refl, arith, rules}
use lib.Dec.{leb}
use borrow.Author.Tests.{leb-true}
use Rattle.facts.proofs.Cases.{and_left, and_right}
use Rattle.masks.specs.Masks.{bit}
use Rattle.assign.proofs.Answers.{answer_complete, answer_at}
use Rattle.places.proofs.GroupPlaces.{furthest_is, furthest_assigned}
use Rattle.fronts.proofs.Picked.{lead_cut, lead_order, pick_skip, pick_keep, pick_change, rest_fewer}
use Rattle.fronts.proofs.pick.next.Goals as goal

-- the places that are left come after the place p
later : (rest kept : ℕ) {p : ℕ} → ((e : ℕ) → bit kept e ≡ (leb (p + 1) e && bit rest e)) → (e : ℕ) → bit kept e ≡ true → (p < e) × (bit rest e ≡ true)
later rest kept {p} is e h =
    let x = sym (is e) ∙ h in
    let l = leb-true (p + 1) e (and_left (leb (p + 1) e) (bit rest e) x) in
    (omega arith, and_right (leb (p + 1) e) (bit rest e) x)

pub highest_place-t-requires : goal.highest_place-t-requires
highest_place-t-requires c = lead_cut c.up_to.result (c.requires.3.each _ (c.requires.5.inside _ c.lowest_place-p.ensures.inside)) c.up_to.ensures

pub returns-then-t-s : goal.returns-then-t-s
returns-then-t-s c =
    let far = furthest_is c.up_to.result c.up_to.ensures c.highest_place-t.ensures in
    (pick_skip c.requires.5 c.lowest_place-p.ensures far (omega arith) c.from_on-rest.ensures, rest_fewer _ c.lowest_place-p.ensures (later _ _ c.from_on-rest.ensures))

pub unwrap-w-requires : goal.unwrap-w-requires
unwrap-w-requires c =
    let p = c.requires in
    let lead = p.3.each _ (p.5.inside _ c.lowest_place-p.ensures.inside) in
    let there = furthest_assigned p.0 p.2 (furthest_is c.up_to.result c.up_to.ensures c.highest_place-t.ensures) lead in
    answer_complete c.first_assignment.ensures there.0 there.1

pub returns-then-not-comes_before : goal.returns-then-not-comes_before
returns-then-not-comes_before c =
    let p = c.requires in
    let lead = p.3.each _ (p.5.inside _ c.lowest_place-p.ensures.inside) in
    let far = furthest_is c.up_to.result c.up_to.ensures c.highest_place-t.ensures in (
      pick_keep p.5 c.lowest_place-p.ensures far p.0 p.1 p.2 lead (answer_at c.first_assignment.ensures c.unwrap-w.ensures) (omega arith) (sym c.comes_before.ensures ∙ search rules) c.from_on-rest.ensures,
      rest_fewer _ c.lowest_place-p.ensures (later _ _ c.from_on-rest.ensures),
    )

pub returns : goal.returns
returns c =
    let p = c.requires in
    let rest = c.from_on-rest.result in
    let head = c.first_member-head.result in
    let lead = p.3.each _ (p.5.inside _ c.lowest_place-p.ensures.inside) in
    let far = furthest_is c.up_to.result c.up_to.ensures c.highest_place-t.ensures in (
      pick_change p.5 c.lowest_place-p.ensures far p.0 p.1 p.2 lead (answer_at c.first_assignment.ensures c.unwrap-w.ensures) (omega (arith, c.if-t-s.false)) rest (sym c.comes_before.ensures ∙ search rules)
          c.first_member-head.ensures c.from_on-rest.ensures c.up_to-2.ensures,
      rest_fewer _ c.lowest_place-p.ensures (λ e h. later _ _ c.from_on-rest.ensures e (and_right (leb e head) (bit rest e) (sym (c.up_to-2.ensures e) ∙ h))),
    )
