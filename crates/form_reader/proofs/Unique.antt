-- The promise of the public function allows one result only: one answer, one side, one count and one list of ranges. What lies in the arrays after the
-- ranges is left free. Stated of the very contract. Assumes nothing.
use mathlib.Core.Path.{◌≡◌, refl, sym, ap, ap₂, ◌∙◌}
use mathlib.Core.Bool.{Bool, true, false, true≢false}
use mathlib.Core.List.{List}
use Prim.Native.Nat.{ℕ, ◌≤◌}
use native.Mathlib.Omega.{arith}
use borrow.Fn.Kinds.{Dens, res_t, ended_of}
use contract.Lifetimes.{Lfts}
use denote.Triple.Clauses.{AtExit}
use lib.IntN.{ℤ}
use lib.ListN.{length}
use Rattle.std.specs.Prelude.{Option, None, Some, MatchOption}
use Rattle.ranges.specs.Spans.{Span}
use Rattle.ranges.specs.Shown.{view}
use Rattle.ranges.proofs.Views.{length_view}
use Rattle.form_reader.specs.declared.Form.{Form}
use Rattle.form_reader.specs.FormRead.{FormRead, is_form, no_form}
use Rattle.form_reader.proofs.WrittenOnce.{written_once}
use Rattle.form_reader.proofs.read_form.Reads as reads
use Rattle.form_reader.proofs.read_form.Kinds as kinds

form_same : (lo hi : ℤ) (t : List ℕ) (los his los₁ his₁ los₂ his₂ : List ℤ) (f₁ f₂ o₁ o₂ : Bool) (n₁ n₂ : ℕ) → 64 ≤ length los → 64 ≤ length his
    → FormRead lo hi t los his los₁ his₁ f₁ o₁ n₁ → FormRead lo hi t los his los₂ his₂ f₂ o₂ n₂
    → (f₁ ≡ f₂) × (o₁ ≡ o₂) × (n₁ ≡ n₂) × (view n₁ los₁ his₁ ≡ view n₂ los₂ his₂)
form_same lo hi t los his los₁ his₁ los₂ his₂ f₁ f₂ o₁ o₂ n₁ n₂ l h (is_form x el eh few w) (is_form x' el' eh' few' w') =
    let s = written_once lo hi t o₁ o₂ (view n₁ los₁ his₁) (view n₂ los₂ his₂) w w' in
    let a : length (view n₁ los₁ his₁) ≡ n₁ = length_view n₁ los₁ his₁ (omega arith) (omega arith) in
    let b : length (view n₂ los₂ his₂) ≡ n₂ = length_view n₂ los₂ his₂ (omega arith) (omega arith) in
    (x ∙ sym x', s.0, sym a ∙ ap (λ (rs : List Span). length rs) s.1 ∙ b, s.1)
form_same lo hi t los his los₁ his₁ los₂ his₂ f₁ f₂ o₁ o₂ n₁ n₂ l h (is_form x el eh few w) (no_form x' y' z' el' eh' none) = absurd (none o₁ (view n₁ los₁ his₁) w)
form_same lo hi t los his los₁ his₁ los₂ his₂ f₁ f₂ o₁ o₂ n₁ n₂ l h (no_form x y z el eh none) (is_form x' el' eh' few' w') = absurd (none o₂ (view n₂ los₂ his₂) w')
form_same lo hi t los his los₁ his₁ los₂ his₂ f₁ f₂ o₁ o₂ n₁ n₂ l h (no_form x y z el eh none) (no_form x' y' z' el' eh' none') = (x ∙ sym x', y ∙ sym y', z ∙ sym z', rw (z, z'))

-- where the bytes are no form, the count is 0 and the list is empty
abbrev pub ranges_of : Option Form → ℕ
ranges_of None = 0
ranges_of (Some f) = f.ranges

form_is : (f f' : Form) → f.outside ≡ f'.outside → f.ranges ≡ f'.ranges → f ≡ f'
form_is f f' e h = ap₂ (λ (o : Bool) (n : ℕ). let g : Form = record { outside = o; ranges = n } in g) e h

option_same : (lo hi : ℤ) (t : List ℕ) (los his los₁ his₁ los₂ his₂ : List ℤ) (r r' : Option Form) → 64 ≤ length los → 64 ≤ length his
    → MatchOption r (FormRead lo hi t los his los₁ his₁ false false 0) (λ f. FormRead lo hi t los his los₁ his₁ true f.outside f.ranges)
    → MatchOption r' (FormRead lo hi t los his los₂ his₂ false false 0) (λ f. FormRead lo hi t los his los₂ his₂ true f.outside f.ranges)
    → (r ≡ r') × (view (ranges_of r) los₁ his₁ ≡ view (ranges_of r') los₂ his₂)
option_same lo hi t los his los₁ his₁ los₂ his₂ None None l h p q = (refl, refl)
option_same lo hi t los his los₁ his₁ los₂ his₂ None (Some f) l h p q =
    let e = form_same lo hi t los his los₁ his₁ los₂ his₂ _ _ _ _ _ _ l h p q in absurd (true≢false (sym e.0))
option_same lo hi t los his los₁ his₁ los₂ his₂ (Some f) None l h p q =
    let e = form_same lo hi t los his los₁ his₁ los₂ his₂ _ _ _ _ _ _ l h p q in absurd (true≢false e.0)
option_same lo hi t los his los₁ his₁ los₂ his₂ (Some f) (Some f') l h p q =
    let e = form_same lo hi t los his los₁ his₁ los₂ his₂ _ _ _ _ _ _ l h p q in (ap Some (form_is f f' e.1 e.2), e.3)

pub read_form_unique : (κs : Lfts 3) (a : Dens κs kinds.ps) (r r' : (res_t kinds.r κs).Denot) (s s' : AtExit (ended_of 3 kinds.ps kinds.r) κs) → reads.Pre κs a → reads.Post κs a r s → reads.Post κs a r' s'
    → (r ≡ r') × (view (ranges_of r) s.1.1.1.0.now s.1.1.1.1.0.now ≡ view (ranges_of r') s'.1.1.1.0.now s'.1.1.1.1.0.now)
read_form_unique κs a r r' s s' pre p q = option_same _ _ _ _ _ _ _ _ _ _ _ pre.0 pre.1 p q
