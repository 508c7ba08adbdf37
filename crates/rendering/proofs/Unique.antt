-- The promise of `render` allows one result, every byte of the buffer included, stated of the contract itself. Assumes nothing.
use mathlib.Core.Path.{◌≡◌, refl}
use borrow.Fn.Kinds.{Dens, res_t, ended_of}
use contract.Lifetimes.{Lfts}
use denote.Triple.Clauses.{AtExit}
use Rattle.lines.proofs.Unique.{same_bytes_lem, same_count}
use Rattle.rendering.proofs.render.Reads as render
use Rattle.rendering.proofs.render.Kinds as render-kinds

pub render_unique : (κs : Lfts 2) (a : Dens κs render-kinds.ps) (r r' : (res_t render-kinds.r κs).Denot) (s s' : AtExit (ended_of 2 render-kinds.ps render-kinds.r) κs)
    → render.Post κs a r s → render.Post κs a r' s' → (r ≡ r') × (s.1.0.now ≡ s'.1.0.now)
render_unique κs a r r' s s' p q = (same_count _ _ _ _ _ _ _ refl p q, same_bytes_lem _ _ _ _ _ _ _ refl p q)
