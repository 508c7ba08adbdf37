-- `holders`: `found` are the holders of the places that are no longer in `rest`. The measure is how many are in `rest`.
use Rattle.std.proofs.Common.{◌≡◌, true, not, ◌&&◌, ℕ}
use Rattle.masks.specs.Masks.{bit}
use Rattle.facts.specs.Counting.{count}
use Rattle.chains.specs.Chain.{Holders}
use Rattle.refining.proofs.holders.Given as goal

abbrev pub invariant-loop-rest : goal.invariant-loop-rest
invariant-loop-rest l = ((e : ℕ) → bit l.rest e ≡ true → bit l.places e ≡ true) × Holders l.w (λ e. bit l.places e && not (bit l.rest e)) (bit l.found)

abbrev pub decreases-loop-rest : goal.decreases-loop-rest
decreases-loop-rest l = count (bit l.rest) 32
