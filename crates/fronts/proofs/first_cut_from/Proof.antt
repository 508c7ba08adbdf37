-- `first_cut_from` meets its contract: all blocks are to come. Assumes nothing.
use mathlib.Core.Bool.{Bool}
use lib.ListN.{replicate, length-replicate, get_or-replicate}
use Prim.Native.Nat.{ℕ}
use native.Mathlib.Omega.{arith}
use borrow.Author.Rules.{rules}
use Rattle.fronts.specs.Given.{Prepares, Halfway}
use Rattle.fronts.proofs.LentFronts.{start_halfway}
use Rattle.fronts.proofs.first_cut_from.Statement.{statement}
use Rattle.fronts.proofs.first_cut_from.Tie as tie

at_start_requires : tie.Need-at_start-requires
at_start_requires c κs = search rules

halfway : (c : tie.After-at_start) → let a = c.before.args in (may : ℕ → ℕ → Bool) → Prepares may a.rows.now a.count a.blocks.now a.ends.now a.n
    → Halfway may a.rows.now a.count a.blocks.now a.ends.now a.n 0 c.at_start.result.places c.at_start.result.from (replicate 32 255)
halfway c may p = start_halfway (replicate 32 255) p (length-replicate {A = ℕ} 32 255) (λ i l. get_or-replicate {A = ℕ} 32 i 255 0 l) c.at_start.ensures.0 c.at_start.ensures.1

cut_on_requires : tie.Need-cut_on-requires
cut_on_requires c κs =
    let p = c.before.before.requires in
    let q = p.3 in
    (omega arith, p.0, p.1, p.2, record { may = q.may; halfway = halfway c.before q.may q.prepares })

returns : tie.Need-returns
returns c = λ may p. c.cut_on.ensures may (halfway c.before.before may p)

pub first_cut_from_spec : {M : Type 1} → statement M
first_cut_from_spec = tie.close (tie.spec at_start_requires cut_on_requires returns)
