-- Each public function's promise allows one result only, stated of the contract itself; and an answer has its parts. Assumes nothing.
use mathlib.Core.Path.{◌≡◌, sym, ◌∙◌}
use mathlib.Core.List.{List}
use Prim.Native.Nat.{ℕ}
use borrow.Fn.Kinds.{Dens, res_t, ended_of}
use contract.Lifetimes.{Lfts}
use denote.Triple.Clauses.{AtExit}
use Rattle.forms.specs.Answer.{Answer, answer}
use Rattle.forms.proofs.form_length.Reads as form-length
use Rattle.forms.proofs.form_length.Kinds as form-length-kinds
use Rattle.forms.proofs.put_form.Reads as put-form
use Rattle.forms.proofs.put_form.Kinds as put-form-kinds

-- an answer is its number, its length and its room
pub answer_parts : (o : Answer) (n n' l l' : ℕ) (r r' : List ℕ) → answer n l r ≡ o → answer n' l' r' ≡ o → (n ≡ n') × (l ≡ l') × (r ≡ r')
answer_parts o n n' l l' r r' p q = (cc, cc, cc)

pub form_length_unique : (κs : Lfts 2) (a : Dens κs form-length-kinds.ps) (r r' : (res_t form-length-kinds.r κs).Denot) (s s' : AtExit (ended_of 2 form-length-kinds.ps form-length-kinds.r) κs)
    → form-length.Post κs a r s → form-length.Post κs a r' s' → r ≡ r'
form_length_unique κs a r r' s s' p q = p ∙ sym q

-- every byte of the part that was lent
pub put_form_unique : (κs : Lfts 3) (a : Dens κs put-form-kinds.ps) (r r' : (res_t put-form-kinds.r κs).Denot) (s s' : AtExit (ended_of 3 put-form-kinds.ps put-form-kinds.r) κs)
    → put-form.Post κs a r s → put-form.Post κs a r' s' → s.0.now ≡ s'.0.now
put_form_unique κs a r r' s s' p q = p ∙ sym q
