-- The contracts of the public functions allow one result each. Stated of the contracts themselves, as the check reads them. Assumes nothing.
use mathlib.Core.Path.{◌≡◌, sym, ◌∙◌}
use mathlib.Core.List.{List}
use Prim.Native.Nat.{ℕ}
use lib.ListN.{get_or}
use lib.Seq.{ext_get_or}
use borrow.Fn.Kinds.{Dens, res_t, ended_of}
use contract.Lifetimes.{Lfts}
use denote.Triple.Clauses.{AtExit}
use Rattle.masks.proofs.Masks.{bits_same}
use Rattle.rows.proofs.Rows.{row_picks}
use Rattle.rows.specs.Columns.{Turned}
use Rattle.rows.proofs.choices.Reads as choices-reads
use Rattle.rows.proofs.choices.Kinds as choices-kinds
use Rattle.rows.proofs.turned.Reads as turned-reads
use Rattle.rows.proofs.turned.Kinds as turned-kinds

pub choices_unique : (κs : Lfts 1) (a : Dens κs choices-kinds.ps) (r r' : (res_t choices-kinds.r κs).Denot) (s s' : AtExit (ended_of 1 choices-kinds.ps choices-kinds.r) κs)
    → choices-reads.Post κs a r s → choices-reads.Post κs a r' s' → r ≡ r'
choices_unique κs a r r' s s' p q = bits_same r r' (λ e. p e ∙ sym (q e))

turned_same : {rows : List ℕ} {first k from to : ℕ} (cols cols' : List ℕ) → Turned rows first k from to cols → Turned rows first k from to cols' → cols ≡ cols'
turned_same cols cols' p q = ext_get_or 0 cols cols' (p.size ∙ sym q.size) (λ m l. bits_same (get_or cols m 0) (get_or cols' m 0) (λ e.
    row_picks cols m e ∙ p.same m e ∙ sym (q.same m e) ∙ sym (row_picks cols' m e)))

pub turned_unique : (κs : Lfts 1) (a : Dens κs turned-kinds.ps) (r r' : (res_t turned-kinds.r κs).Denot) (s s' : AtExit (ended_of 1 turned-kinds.ps turned-kinds.r) κs)
    → turned-reads.Post κs a r s → turned-reads.Post κs a r' s' → r ≡ r'
turned_unique κs a r r' s s' p q = turned_same r r' p q
