-- `start`: the search serves every later place and every nearer end.
use Rattle.std.proofs.Common.{refl, arith}
use Rattle.fronts.proofs.Picked.{within_is, near_lead, near_long, near_furthest, found_leads, leads_found, tried_none, tried_start}
use Rattle.fronts.proofs.pick.start.Goals as goal

-- no end is within the lengths
pub returns-then-near-eq0 : goal.returns-then-near-eq0
returns-then-near-eq0 c =
    let within = within_is {b = c.args.b} c.from_on.result c.from_on.ensures c.up_to-near.ensures in
    tried_none c.lowest_place-p.ensures.inside (λ l. let z = near_lead within l in omega (arith, c.if-near-eq0.true))

-- no list is found
pub returns-in_default : goal.returns-in_default
returns-in_default c =
    let within = within_is {b = c.args.b} c.from_on.result c.from_on.ensures c.up_to-near.ensures in
    tried_none c.lowest_place-p.ensures.inside (leads_found c.requires.0 c.requires.2 (near_furthest within c.highest_place-t.ensures) c.in_default.ensures refl)

pub returns : goal.returns
returns c =
    let p = c.requires in
    let within = within_is {b = c.args.b} c.from_on.result c.from_on.ensures c.up_to-near.ensures in
    let far = near_furthest within c.highest_place-t.ensures in
    let a = c.in-Some.ensures in
    tried_start p.0 p.1 p.2 c.lowest_place-p.ensures (found_leads p.0 p.2 far a (near_long within c.highest_place-t.ensures) refl) far a
    c.from_on-2.result c.first_member-head.ensures c.from_on-2.ensures c.up_to.ensures
