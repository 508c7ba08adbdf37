-- `after_block` meets its contract. Assumes nothing.
use Rattle.place_masks.proofs.PlaceBits.{bit_pos}
use Rattle.places.proofs.Backward.{agrees_turn}
use mathlib.Core.Path.{sym, ◌∙◌}
use Rattle.fronts.proofs.Moves.{leading_agree, moved_agree, one_low, low_most}
use native.Mathlib.Omega.{arith}
use borrow.Author.Rules.{rules}
use Rattle.fronts.proofs.after_block.Statement.{statement}
use Rattle.fronts.proofs.after_block.Tie as tie

after_star_requires : tie.Need-after_star-requires
after_star_requires c κs = let s = c.before.before in let r = s.requires.2 in (c.if-b-eq0.true, low_most s.args.ends r.n r.high r.ready.low)

returns : tie.Need-returns-then-b-eq0
returns c = let s = c.before.before.before in λ may n h r. c.after_star.ensures may s.args.w.now r.leading s.requires.1

is_one_requires : tie.Need-is_one-requires
is_one_requires c κs = search rules

after_one_requires : tie.Need-after_one-requires
after_one_requires c κs = let s = c.before.before.before.before.before in let r = s.requires.2 in let one = sym c.before.before.is_one.ensures ∙ c.before.if-is_one.true in let low = low_most s.args.ends r.n r.high r.ready.low in (one, s.requires.0, bit_pos _ _ r.ready.leading.here, one_low one s.requires.0 low r.ready.leading, s.requires.1)

returns_2 : tie.Need-returns-then-is_one
returns_2 c = let s = c.before.before.before.before.before.before in λ may n h r. c.after_one.ensures may s.args.ends (low_most s.args.ends n h r.low) r.leading

after_group_requires : tie.Need-after_group-requires
after_group_requires c κs = let s = c.before.before.before.before.before in let r = s.requires.2 in let one = sym c.before.before.is_one.ensures ∙ c.before.if-is_one.false in (s.requires.0, omega arith, low_most s.args.ends r.n r.high r.ready.low, leading_agree (agrees_turn (r.ready.told one)) r.ready.low r.ready.leading, s.requires.1)

returns_3 : tie.Need-returns
returns_3 c = let one = sym c.before.before.before.is_one.ensures ∙ c.before.before.if-is_one.false in λ may n h r. moved_agree (r.told one) r.low c.after_group.ensures

pub after_block_spec : {M : Type 1} → statement M
after_block_spec =
    tie.close
    (tie.spec
    after_star_requires
    returns
    is_one_requires
    after_one_requires
    returns_2
    after_group_requires
    returns_3)
