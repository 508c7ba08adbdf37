-- The public function's promise allows one result only, of every body that the parts are of, stated of the contract itself. Assumes nothing.
use mathlib.Core.Path.{◌≡◌, sym, ◌∙◌}
use borrow.Fn.Kinds.{Dens, res_t, ended_of}
use contract.Lifetimes.{Lfts}
use denote.Triple.Clauses.{AtExit}
use lib.ListN.{take}
use Rattle.blocks.specs.Numbers.{blocks_in}
use Rattle.format.specs.declared.Family.{Family}
use Rattle.grammar.specs.Family.{LeafOf}
use Rattle.grammar.specs.Template.{Body, Heads}
use Rattle.obeying.specs.Spread.{Says, Spread}
use Rattle.obeying.proofs.body_met.Reads as body-met
use Rattle.obeying.proofs.body_met.Kinds as body-met-kinds

pub body_met_unique : (κs : Lfts 2) (a : Dens κs body-met-kinds.ps) (r r' : (res_t body-met-kinds.r κs).Denot) (s s' : AtExit (ended_of 2 body-met-kinds.ps body-met-kinds.r) κs)
    → (fam : Family) (h : Heads) (b : Body (LeafOf fam)) → Says a.0 (blocks_in (take a.1.1.0 a.1.0.now)) h b → Spread b a.1.1.1.1.0.now a.1.1.1.0 → body-met.Post κs a r s → body-met.Post κs a r' s' → r ≡ r'
body_met_unique κs a r r' s s' fam h b says spread p q = p fam h b says spread ∙ sym (q fam h b says spread)
