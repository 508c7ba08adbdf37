-- `items::group::group_block` meets its contract: its 20 is there, or its bounds are 0. Assumes nothing.
use mathlib.Core.Path.{◌≡◌, sym, ap, ◌∙◌}
use Prim.Native.Nat.{ℕ, ◌+◌, ◌-◌}
use native.Mathlib.Omega.{arith}
use mathlib.Core.List.{List}
use borrow.Author.Tests.{eq-eqb, ne_eqb}
use lib.ListN.{get_or}
use Rattle.blocks.specs.Numbers.{block, number_of}
use Rattle.items.specs.Notes.{Says, group_block}
use borrow.Author.Rules.{rules}
use Rattle.items.proofs.group.group_block.Statement.{statement}
use Rattle.items.proofs.group.group_block.Tie as tie

none_there : (t : List ℕ) (m count at number : ℕ) → at ≡ 0 → Says number (block m (count - m) 0 0) → Says number (group_block t m count at)
none_there t m count at number z s =
    let e : group_block t m count at ≡ block m (count - m) 0 0 = rw (eq-eqb at 0 z) in
    (s.0 ∙ ap number_of (sym e), s.1 ∙ sym e)

one_there : (t : List ℕ) (m count at number : ℕ) → (at ≡ 0 → ⊥) → Says number (block m (count - m) (get_or t at 0) (get_or t (at + 1) 0)) → Says number (group_block t m count at)
one_there t m count at number z s =
    let e : group_block t m count at ≡ block m (count - m) (get_or t at 0) (get_or t (at + 1) 0) = rw (ne_eqb at 0 z) in
    (s.0 ∙ ap number_of (sym e), s.1 ∙ sym e)

cast_first : tie.Need-overflow_cast-first
cast_first c = search rules

sub_k : tie.Need-overflow_sub-k
sub_k c = search rules

cast_k : tie.Need-overflow_cast-k
cast_k c = search rules

number_of_requires : tie.Need-number_of-requires
number_of_requires c κs = search rules

returns : tie.Need-returns-then-star-eq0
returns c =
    let a = c.before.before.before.args in
    none_there a.t.now a.m a.count a.star _ c.before.if-star-eq0.true c.number_of.ensures

shared_slice_read_t11 : tie.Need-bounds-t-star
shared_slice_read_t11 c =
    let s = c.before.before.before in
    omega (arith, s.requires.2 c.before.if-star-eq0.false)

add_t7 : tie.Need-overflow_add-star
add_t7 c =
    let s = c.before.before.before in
    omega (arith, s.requires.2 c.before.if-star-eq0.false)

shared_slice_read_t13 : tie.Need-bounds-t-star-2
shared_slice_read_t13 c =
    let s = c.before.before.before.before in
    omega (arith, s.requires.2 c.before.before.if-star-eq0.false)

number_of_requires_2 : tie.Need-number_of-requires-2
number_of_requires_2 c κs = search rules

returns_2 : tie.Need-returns
returns_2 c =
    let a = c.before.before.before.before.before.args in
    one_there a.t.now a.m a.count a.star _ c.before.before.before.if-star-eq0.false c.number_of-2.ensures

pub group_block_spec : {M : Type 1} → statement M
group_block_spec =
    tie.close
    (tie.spec
    cast_first
    sub_k
    cast_k
    number_of_requires
    returns
    shared_slice_read_t11
    add_t7
    shared_slice_read_t13
    number_of_requires_2
    returns_2)
