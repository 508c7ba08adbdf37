-- `after_star` meets its contract: every piece is spare elements, and ends at one of the places that are spread and good. Assumes nothing.
use Rattle.fronts.proofs.Moves.{star_moved}
use borrow.Author.Rules.{rules}
use Rattle.fronts.proofs.after_star.Statement.{statement}
use Rattle.fronts.proofs.after_star.Tie as tie

cast_after_spares : tie.Need-overflow_cast-b
cast_after_spares c = search rules

cast_after_spares_2 : tie.Need-overflow_cast-b-2
cast_after_spares_2 c = search rules

after_spares_requires : tie.Need-after_spares-requires
after_spares_requires c κs = search rules

in_both_requires : tie.Need-in_both-requires
in_both_requires c κs = search rules

returns : tie.Need-returns
returns c = let s = c.before.before.before.before in λ may w lead standing. star_moved _ c.before.after_spares.result s.requires.0 s.requires.1 lead standing.after c.before.after_spares.ensures c.in_both.ensures standing

pub after_star_spec : {M : Type 1} → statement M
after_star_spec =
    tie.close
    (tie.spec cast_after_spares cast_after_spares_2 after_spares_requires in_both_requires returns)
