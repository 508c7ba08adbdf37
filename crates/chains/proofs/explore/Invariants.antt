-- `explore`: `rest` are the places that were not tried, `wide` is what m and the holders of the others may take. The measure is how many places were not tried.
use Rattle.masks.specs.Masks.{bit}
use Rattle.rows.specs.Rows.{picks}
use Rattle.facts.specs.Counting.{count}
use Rattle.chains.proofs.Explorations.{Exploring}
use Rattle.chains.proofs.explore.Given as goal

abbrev pub invariant-loop-wide : goal.invariant-loop-wide
invariant-loop-wide l = Exploring (picks l.columns) (bit l.free) (bit l.all) (bit l.rest) (bit l.wide) l.w l.m

abbrev pub decreases-loop-wide : goal.decreases-loop-wide
decreases-loop-wide l = count (bit l.rest) 32
