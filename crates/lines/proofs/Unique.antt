-- The promise of `put_line` allows one result, every byte of the buffer included, stated of the contract itself. Assumes nothing.
use mathlib.Core.Path.{◌≡◌, refl, sym, ap, ◌∙◌}
use mathlib.Core.List.{List, ◌++◌}
use Prim.Native.Nat.{ℕ}
use lib.ListN.{length, drop}
use borrow.Fn.Kinds.{Dens, res_t, ended_of}
use contract.Lifetimes.{Lfts}
use denote.Triple.Clauses.{AtExit}
use Rattle.lines.specs.Contract.{Wrote}
use Rattle.lines.proofs.put_line.Reads as put-line
use Rattle.lines.proofs.put_line.Kinds as put-line-kinds

module _ (before after after' : List ℕ) (wrote wrote' : ℕ) (l l' : List ℕ) (e : l ≡ l') where
  pub same_bytes_lem : Wrote l before after wrote → Wrote l' before after' wrote' → after ≡ after'
  same_bytes_lem w w' = w.bytes ∙ ap (λ (b : List ℕ). b ++ drop (length b) before) e ∙ sym w'.bytes

  pub same_count : Wrote l before after wrote → Wrote l' before after' wrote' → wrote ≡ wrote'
  same_count w w' = w.count ∙ ap length e ∙ sym w'.count

pub put_line_unique : (κs : Lfts 2) (a : Dens κs put-line-kinds.ps) (r r' : (res_t put-line-kinds.r κs).Denot) (s s' : AtExit (ended_of 2 put-line-kinds.ps put-line-kinds.r) κs)
    → put-line.Post κs a r s → put-line.Post κs a r' s' → (r ≡ r') × (s.0.now ≡ s'.0.now)
put_line_unique κs a r r' s s' p q = (same_count _ _ _ _ _ _ _ refl p q, same_bytes_lem _ _ _ _ _ _ _ refl p q)
