-- Records written one after the other. Assumes nothing.
use mathlib.Core.Path.{◌≡◌, refl, sym, ap, ap₂, ◌∙◌}
use mathlib.Core.Bool.{true, false}
use mathlib.Core.List.{List, [], ◌∷◌, ◌++◌, append_assoc, append-nil}
use Prim.Native.Nat.{ℕ, zero, suc, ◌+◌, ◌-◌, ◌≤◌, ◌<◌}
use native.Mathlib.Omega.{arith}
use lib.IntN.{ℤ, pos}
use lib.ListN.{length, get_or, take, drop, take-append-drop}
use lib.Seq.{drop-drop}
use borrow.Rule.Slice.PartMut.{put_mid}
use Rattle.ranges.specs.Shown.{view}
use Rattle.ranges.specs.Spans.{Span, span}
use Rattle.ranges.proofs.Views.{view_end, view_at}
use Rattle.integers.specs.Integer.{int_bytes, eq_z}
use Rattle.forms.specs.Form.{record_of, records, matched_form, unmatched_form, record_length, records_length, matched_length, unmatched_length}
use Rattle.forms.proofs.Lengths.{length_record_of}
use Rattle.facts.proofs.Puts.{Put, put_at, put_length, put_take, put_drop, lent_length, put_more}

pub record_single : (a b : ℤ) (o : List ℕ) → eq_z a b ≡ true → 0x01 ∷ (int_bytes a ++ drop 5 o) ≡ record_of (span a b) ++ drop (record_length (span a b)) o
unfolding record_of
record_single a b o e = rw e

pub record_range : (a b : ℤ) (o : List ℕ) → eq_z a b ≡ false → 0x02 ∷ (int_bytes a ++ (int_bytes b ++ drop 9 o)) ≡ record_of (span a b) ++ drop (record_length (span a b)) o
unfolding record_of
record_range a b o e = rw e (ap (λ (z : List ℕ). 0x02 ∷ z) (sym (append_assoc (int_bytes a) (int_bytes b) (drop 9 o))))

-- ---- how many bytes

-- l are counted, and rs are left of all
pub count_step : (l total : ℕ) (r : Span) (rs : List Span) → l + records_length (r ∷ rs) ≡ total → l + record_length r + records_length rs ≡ total
unfolding records_length
count_step l total r rs e = omega arith

pub count_end : (l total : ℕ) (rs : List Span) → rs ≡ [] → l + records_length rs ≡ total → l ≡ total
unfolding records_length
count_end l total [] e h = omega arith
count_end l total (r ∷ rs) e h = let z : ◌≡◌ {A = ℕ} 0 1 = cc in absurd (omega arith)

pub count_start : (l total : ℕ) (r : Span) (rs : List Span) → l + records_length (r ∷ rs) ≡ total → l + record_length r ≤ total
count_start l total r rs e = omega (arith, count_step l total r rs e)

-- ---- the bytes

-- before p stands what has been written, rs are left, and from p on nothing has changed
pub record Going (o₀ o : List ℕ) (p : ℕ) (rs all : List Span) : Type 0 where
  pub counted : p + records_length rs ≡ records_length all
  pub size : length o ≡ length o₀
  pub after : drop p o ≡ drop p o₀
  pub done : take p o ++ records rs ≡ records all

pub going_start : (o₀ : List ℕ) (all : List Span) → Going o₀ o₀ 0 all all
going_start o₀ all = record { counted = omega arith; size = refl; after = refl; done = refl }

module _ (o₀ o : List ℕ) (p : ℕ) (r : Span) (rs all : List Span) (room : records_length all ≤ length o₀) (g : Going o₀ o p (r ∷ rs) all) where
  pub going_room : p + record_length r ≤ length o
  going_room = omega (arith, count_start p (records_length all) r rs g.counted, g.size)

  here : Put o o (take p o) p
  here = put_at o p (omega (arith, going_room))

  pub going_lent : record_length r ≤ length (take (length o - p) (drop p o))
  going_lent = omega (arith, lent_length o o (take p o) p here, going_room)

  pub going_step : (ys : List ℕ) → ys ≡ record_of r ++ drop (record_length r) (take (length o - p) (drop p o))
      → Going o₀ (put_mid p (length o - p) o ys) (p + record_length r) rs all
  unfolding records
  going_step ys e =
      let m = record_length r in
      let o' = put_mid p (length o - p) o ys in
      let w = put_more o o (take p o) p here (record_of r) ys m (length_record_of r) going_room e in
      record {
        counted = count_step p (records_length all) r rs g.counted;
        size = put_length o o' _ _ w ∙ g.size;
        after = put_drop o o' _ _ w ∙ sym (drop-drop m p o) ∙ ap (drop m) g.after ∙ drop-drop m p o₀;
        done = ap (λ (z : List ℕ). z ++ records rs) (put_take o o' _ _ w) ∙ append_assoc (take p o) (record_of r) (records rs) ∙ g.done;
      }

pub going_end : (o₀ o : List ℕ) (p : ℕ) (rs all : List Span) → rs ≡ [] → Going o₀ o p rs all → o ≡ records all ++ drop (records_length all) o₀
unfolding records
going_end o₀ o p rs all e g =
    let q : p ≡ records_length all = count_end p (records_length all) rs e g.counted in
    let d : take p o ≡ records all = sym (append-nil (take p o)) ∙ ap (λ (z : List Span). take p o ++ records z) (sym e) ∙ g.done in
    sym (take-append-drop p o) ∙ ap₂ (λ (x y : List ℕ). x ++ y) d (g.after ∙ ap (λ (n : ℕ). drop n o₀) q)

-- ---- the form by the number of its ranges

pub view_none : (n : ℕ) (los his : List ℤ) → n ≡ 0 → view n los his ≡ []
view_none zero los his e = refl
view_none (suc n) los his e = absurd (omega arith)

pub view_one : (n : ℕ) (los his : List ℤ) → n ≡ 1 → n ≤ length los → n ≤ length his → view n los his ≡ span (get_or los 0 (pos 0)) (get_or his 0 (pos 0)) ∷ []
view_one n los his e p q = view_at n los his 0 (omega arith) p q ∙ ap (λ (rs : List Span). span (get_or los 0 (pos 0)) (get_or his 0 (pos 0)) ∷ rs) (view_end n los his 1 (omega arith) p q)

pub matched_none : (rs : List Span) → rs ≡ [] → (matched_length rs ≡ 3) × (matched_form rs ≡ 0x05 ∷ 0x01 ∷ 0x03 ∷ [])
unfolding matched_length matched_form
matched_none rs e = (ap matched_length e, ap matched_form e)

pub matched_one : (rs : List Span) (r : Span) → rs ≡ r ∷ [] → (matched_length rs ≡ record_length r) × (matched_form rs ≡ record_of r)
unfolding matched_length matched_form
matched_one rs r e = (ap matched_length e, ap matched_form e)

pub matched_more : (rs : List Span) → 1 < length rs → (matched_length rs ≡ 2 + records_length rs) × (matched_form rs ≡ 0x04 ∷ length rs ∷ records rs)
unfolding matched_length matched_form
matched_more [] p = absurd (omega arith)
matched_more (r ∷ []) p = absurd (omega arith)
matched_more (r ∷ q ∷ rs) p = (refl, refl)

pub unmatched_none : (rs : List Span) → rs ≡ [] → (unmatched_length rs ≡ 1) × (unmatched_form rs ≡ 0x03 ∷ [])
unfolding unmatched_length unmatched_form
unmatched_none rs e = (ap unmatched_length e, ap unmatched_form e)

pub unmatched_some : (rs : List Span) → 0 < length rs → (unmatched_length rs ≡ 2 + records_length rs) × (unmatched_form rs ≡ 0x05 ∷ length rs ∷ records rs)
unfolding unmatched_length unmatched_form
unmatched_some [] p = absurd (omega arith)
unmatched_some (r ∷ rs) p = (refl, refl)

-- a form that was written as it should be
pub form_put : (o o₀ f w : List ℕ) (n m : ℕ) → f ≡ w → m ≡ n → o ≡ w ++ drop n o₀ → o ≡ f ++ drop m o₀
form_put o o₀ f w n m e h q = q ∙ sym (ap₂ (λ (x : List ℕ) (k : ℕ). x ++ drop k o₀) e h)

pub not_none : (n l : ℕ) → l ≡ n → (n ≡ 0 → ⊥) → 0 < l
not_none n l e h = omega arith

pub several : (n l : ℕ) → l ≡ n → (n ≡ 0 → ⊥) → (n ≡ 1 → ⊥) → 1 < l
several n l e h k = omega arith
