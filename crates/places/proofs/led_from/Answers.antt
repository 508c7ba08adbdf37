-- `led_from`: every piece of b from p on, made longer, is one up to the furthest end.
use Rattle.std.proofs.Common.{◌≡◌, ◌&&◌, true, ℕ, ◌+◌, ◌≤◌, ◌∙◌, refl, arith}
use lib.Dec.{leb}
use borrow.Author.Tests.{le-leb}
use Rattle.facts.proofs.Cases.{both}
use Rattle.masks.specs.Masks.{bit}
use Rattle.masks.proofs.Masks.{highest_last}
use Rattle.place_masks.proofs.PlaceBits.{bit_pos}
use Rattle.place_masks.specs.Places.{Ahead}
use Rattle.places.proofs.GroupPlaces.{furthest_is, led_none, led_found}
use Rattle.places.proofs.led_from.Goals as goal

-- the end that is ahead of p is among those that are looked at
among : {good least most p : ℕ} (cut : ℕ) (a : Ahead good least most p) → ((e : ℕ) → bit cut e ≡ (leb e (p + most) && bit good e)) → bit cut a.place ≡ true
among {good} {least} {most} {p} cut a is = is a.place ∙ both (leb a.place (p + most)) (bit good a.place) (le-leb _ _ a.far) a.here

pub highest_place-q-requires : goal.highest_place-q-requires
highest_place-q-requires c = bit_pos _ _ (among _ c.requires.2 c.up_to.ensures)

pub returns-in_default : goal.returns-in_default
returns-in_default c = led_none c.requires.0 c.requires.1 (furthest_is c.up_to.result c.up_to.ensures c.highest_place-q.ensures) c.in_default.ensures refl

pub returns : goal.returns
returns c =
    let a = c.requires.2 in
    let near = a.near in
    let last = highest_last c.highest_place-q.ensures a.place (among _ a c.up_to.ensures) in
    led_found c.requires.0 c.requires.1 (furthest_is c.up_to.result c.up_to.ensures c.highest_place-q.ensures) c.from_on.result c.before_spares.result c.in-Some.ensures refl (omega arith)
    c.after_last-next.ensures c.from_on.ensures c.before_spares.ensures c.up_to-2.ensures
