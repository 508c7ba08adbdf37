-- How the bytes of each form begin, and what they are a form of by these first bytes. Assumes nothing.
use mathlib.Core.Path.{◌≡◌, refl, sym, ap, ap₂, ◌∙◌}
use mathlib.Core.Bool.{Bool, true, false, not, ◌&&◌, ◌||◌}
use mathlib.Core.List.{List, [], ◌∷◌, append-nil}
use mathlib.Core.Logic.{⊎_elim}
use Prim.Native.Nat.{ℕ, ◌≤◌, ◌<◌}
use native.Mathlib.Omega.{arith}
use lib.Dec.{ltb, eqb}
use lib.IntN.{ℤ}
use lib.ListN.{length, get_or, drop}
use borrow.Author.Tests.{ltb-true, ltb-false, eqb-true, eqb-false, eq-eqb, not-true}
use Rattle.facts.proofs.Cases.{by-test, clash, one_of, and_left, and_right}
use Rattle.ranges.specs.Shown.{view}
use Rattle.ranges.specs.Spans.{Span, span}
use Rattle.ranges.proofs.Views.{length_view}
use Rattle.forms.specs.Form.{record_of, records, matched_form, unmatched_form, side_form}
use Rattle.form_reader.specs.FormRead.{ranges_here, no_ranges, FormAt, form_here, form_none, FormRead, is_form, no_form}
use Rattle.form_reader.proofs.RecordBytes.{record_kind, record_long}

-- ---- the five shapes of a form, by its first bytes

pub data Shape (t : List ℕ) (o : Bool) (rs : List Span) : Type 0 where
  everything : o ≡ true → rs ≡ [] → get_or t 0 0 ≡ 3 → length t ≡ 1 → Shape t o rs
  nothing : o ≡ false → rs ≡ [] → get_or t 0 0 ≡ 5 → get_or t 1 0 ≡ 1 → get_or t 2 0 ≡ 3 → length t ≡ 3 → Shape t o rs
  alone : o ≡ false → length rs ≡ 1 → get_or t 0 0 < 3 → 5 ≤ length t → drop 0 t ≡ records rs → Shape t o rs
  several : o ≡ false → 1 < length rs → get_or t 0 0 ≡ 4 → get_or t 1 0 ≡ length rs → 7 ≤ length t → drop 2 t ≡ records rs → Shape t o rs
  complement : o ≡ true → 0 < length rs → get_or t 0 0 ≡ 5 → get_or t 1 0 ≡ length rs → get_or t 2 0 < 3 → 7 ≤ length t → drop 2 t ≡ records rs → Shape t o rs

-- records begin with a 01 or 02, and are five bytes at least
first_record : (r : Span) (rs : List Span) → (get_or (records (r ∷ rs)) 0 0 < 3) × (5 ≤ length (records (r ∷ rs)))
unfolding records
first_record (span a b) rs = ((record_kind a b (records rs)).1, record_long a b (records rs))

pub shape : (t : List ℕ) (o : Bool) (rs : List Span) → t ≡ side_form o rs → Shape t o rs
unfolding matched_form unmatched_form records
shape t true [] e = everything refl refl (ap (λ (s : List ℕ). get_or s 0 0) e) (ap (λ (s : List ℕ). length s) e)
shape t true (r ∷ rs) e =
    let f = first_record r rs in
    let size : length t ≡ length (5 ∷ length (r ∷ rs) ∷ records (r ∷ rs)) = ap (λ (s : List ℕ). length s) e in
    let third : get_or t 2 0 ≡ get_or (records (r ∷ rs)) 0 0 = ap (λ (s : List ℕ). get_or s 2 0) e in
    complement refl (omega arith) (ap (λ (s : List ℕ). get_or s 0 0) e) (ap (λ (s : List ℕ). get_or s 1 0) e) (omega (arith, f.0)) (omega (arith, f.1)) (ap (λ (s : List ℕ). drop 2 s) e)
shape t false [] e =
    nothing refl refl (ap (λ (s : List ℕ). get_or s 0 0) e) (ap (λ (s : List ℕ). get_or s 1 0) e) (ap (λ (s : List ℕ). get_or s 2 0) e) (ap (λ (s : List ℕ). length s) e)
shape t false (r ∷ []) e =
    let whole : t ≡ records (r ∷ []) = e ∙ sym (append-nil (record_of r)) in
    let f = first_record r [] in
    let size : length t ≡ length (records (r ∷ [])) = ap (λ (s : List ℕ). length s) whole in
    let first : get_or t 0 0 ≡ get_or (records (r ∷ [])) 0 0 = ap (λ (s : List ℕ). get_or s 0 0) whole in
    alone refl refl (omega (arith, f.0)) (omega (arith, f.1)) whole
shape t false (r ∷ q ∷ rs) e =
    let f = first_record r (q ∷ rs) in
    let size : length t ≡ length (4 ∷ length (r ∷ q ∷ rs) ∷ records (r ∷ q ∷ rs)) = ap (λ (s : List ℕ). length s) e in
    several refl (omega arith) (ap (λ (s : List ℕ). get_or s 0 0) e) (ap (λ (s : List ℕ). get_or s 1 0) e) (omega (arith, f.1)) (ap (λ (s : List ℕ). drop 2 s) e)

-- what the first bytes and the length of every form satisfy
record Numbers (t : List ℕ) : Type 0 where
  some : 1 ≤ length t
  long : 4 ≤ get_or t 0 0 → 3 ≤ length t
  most : 4 ≤ get_or t 0 0 → get_or t 1 0 ≤ 64
  two : get_or t 0 0 ≡ 4 → 2 ≤ get_or t 1 0
  fifth : 4 ≤ get_or t 0 0 → (get_or t 0 0 ≡ 4 → ⊥) → (get_or t 0 0 ≡ 5) × (1 ≤ get_or t 1 0)

numbers : (t : List ℕ) (o : Bool) (rs : List Span) → length rs ≤ 64 → Shape t o rs → Numbers t
numbers t o rs few (everything _ _ k x) = record { some = omega arith; long = λ p. absurd (omega arith); most = λ p. absurd (omega arith); two = λ p. absurd (omega arith); fifth = λ p q. absurd (omega arith) }
numbers t o rs few (nothing _ _ k n z x) = record { some = omega arith; long = λ p. omega arith; most = λ p. omega arith; two = λ p. absurd (omega arith); fifth = λ p q. (k, omega arith) }
numbers t o rs few (alone _ m k x d) = record { some = omega arith; long = λ p. absurd (omega arith); most = λ p. absurd (omega arith); two = λ p. absurd (omega arith); fifth = λ p q. absurd (omega arith) }
numbers t o rs few (several _ m k n x d) = record { some = omega arith; long = λ p. omega arith; most = λ p. omega arith; two = λ p. omega arith; fifth = λ p q. absurd (q k) }
numbers t o rs few (complement _ m k n z x d) = record { some = omega arith; long = λ p. omega arith; most = λ p. omega arith; two = λ p. absurd (omega arith); fifth = λ p q. (k, omega arith) }

-- ---- and back

two_front : (t : List ℕ) → 2 ≤ length t → t ≡ get_or t 0 0 ∷ get_or t 1 0 ∷ drop 2 t
two_front [] l = absurd (omega arith)
two_front (x ∷ []) l = absurd (omega arith)
two_front (x ∷ y ∷ t) l = refl

one_only : (t : List ℕ) → length t ≡ 1 → t ≡ get_or t 0 0 ∷ []
one_only [] l = absurd (omega arith)
one_only (x ∷ []) l = refl
one_only (x ∷ y ∷ t) l = absurd (omega arith)

three_only : (t : List ℕ) → length t ≡ 3 → t ≡ get_or t 0 0 ∷ get_or t 1 0 ∷ get_or t 2 0 ∷ []
three_only [] l = absurd (omega arith)
three_only (x ∷ []) l = absurd (omega arith)
three_only (x ∷ y ∷ []) l = absurd (omega arith)
three_only (x ∷ y ∷ z ∷ []) l = refl
three_only (x ∷ y ∷ z ∷ w ∷ t) l = absurd (omega arith)

alone_form : (t : List ℕ) (rs : List Span) → length rs ≡ 1 → drop 0 t ≡ records rs → t ≡ side_form false rs
unfolding matched_form records
alone_form t [] l e = absurd (omega arith)
alone_form t (r ∷ []) l e = e ∙ append-nil (record_of r)
alone_form t (r ∷ q ∷ rs) l e = absurd (omega arith)

counted : (t : List ℕ) (k n : ℕ) (rs : List Span) → 2 ≤ length t → get_or t 0 0 ≡ k → get_or t 1 0 ≡ n → length rs ≡ n → drop 2 t ≡ records rs → t ≡ k ∷ length rs ∷ records rs
counted t k n rs l e f g h = two_front t l ∙ rw (e, f, g, h)

several_form : (t : List ℕ) (n : ℕ) (rs : List Span) → 2 ≤ length t → get_or t 0 0 ≡ 4 → get_or t 1 0 ≡ n → 2 ≤ n → length rs ≡ n → drop 2 t ≡ records rs → t ≡ side_form false rs
unfolding matched_form
several_form t n [] l e f m g h = absurd (omega arith)
several_form t n (r ∷ []) l e f m g h = absurd (omega arith)
several_form t n (r ∷ q ∷ rs) l e f m g h = counted t 4 n (r ∷ q ∷ rs) l e f g h

complement_form : (t : List ℕ) (n : ℕ) (rs : List Span) → 2 ≤ length t → get_or t 0 0 ≡ 5 → get_or t 1 0 ≡ n → 1 ≤ n → length rs ≡ n → drop 2 t ≡ records rs → t ≡ side_form true rs
unfolding unmatched_form
complement_form t n [] l e f m g h = absurd (omega arith)
complement_form t n (r ∷ rs) l e f m g h = counted t 5 n (r ∷ rs) l e f g h

-- ---- what is read, by the first bytes

-- where the test for another kind fails
pub fifth_some : (k n : ℕ) → (not (eqb k 5) || ltb n 1) ≡ false → (k ≡ 5) × (1 ≤ n)
fifth_some k n e =
    by-test (eqb k 5)
    (λ h. (eqb-true k 5 h, ltb-false n 1 (rw h at e)))
    (λ h. let z : true ≡ false = rw h at e in absurd (clash refl z))

module _ (lo hi : ℤ) (t : List ℕ) (los his : List ℤ) (f o : Bool) (c : ℕ) where
  -- no shape fits
  none : (f ≡ false) × (o ≡ false) × (c ≡ 0) → ((s : Bool) (rs : List Span) → length rs ≤ 64 → Shape t s rs → ⊥) → FormRead lo hi t los his los his f o c
  none e no-shape = no_form e.0 e.1 e.2 refl refl (λ s rs w. no-shape s rs w.few (shape t s rs w.bytes))

  pub none_empty : (f ≡ false) × (o ≡ false) × (c ≡ 0) → length t < 1 → FormRead lo hi t los his los his f o c
  none_empty e l = none e (λ s rs few x. omega (arith, (numbers t s rs few x).some))

  pub none_short : (f ≡ false) × (o ≡ false) × (c ≡ 0) → 4 ≤ get_or t 0 0 → length t < 3 → FormRead lo hi t los his los his f o c
  none_short e kind l = none e (λ s rs few x. omega (arith, (numbers t s rs few x).long kind))

  pub none_many : (f ≡ false) × (o ≡ false) × (c ≡ 0) → 4 ≤ get_or t 0 0 → 64 < get_or t 1 0 → FormRead lo hi t los his los his f o c
  none_many e kind l = none e (λ s rs few x. omega (arith, (numbers t s rs few x).most kind))

  pub none_few : (f ≡ false) × (o ≡ false) × (c ≡ 0) → get_or t 0 0 ≡ 4 → get_or t 1 0 < 2 → FormRead lo hi t los his los his f o c
  none_few e kind l = none e (λ s rs few x. omega (arith, (numbers t s rs few x).two kind))

  -- a kind above 05, or a 05 of none
  pub none_other : (f ≡ false) × (o ≡ false) × (c ≡ 0) → 4 ≤ get_or t 0 0 → (get_or t 0 0 ≡ 4 → ⊥) → (not (eqb (get_or t 0 0) 5) || ltb (get_or t 1 0) 1) ≡ true → FormRead lo hi t los his los his f o c
  none_other e kind four q = none e (λ s rs few x. other ((numbers t s rs few x).fifth kind four))
    where
      other : (get_or t 0 0 ≡ 5) × (1 ≤ get_or t 1 0) → ⊥
      other five =
          ⊎_elim
          (λ (h : not (eqb (get_or t 0 0) 5) ≡ true). eqb-false (get_or t 0 0) 5 (not-true (eqb (get_or t 0 0) 5) h) five.0)
          (λ (h : ltb (get_or t 1 0) 1 ≡ true). let l : get_or t 1 0 < 1 = ltb-true (get_or t 1 0) 1 h in omega (arith, five.1))
          (one_of (not (eqb (get_or t 0 0) 5)) (ltb (get_or t 1 0) 1) q)

  pub everything_read : (f ≡ eqb (length t) 1) × (o ≡ (eqb (length t) 1 && true)) × (c ≡ 0) → get_or t 0 0 ≡ 3 → FormRead lo hi t los his los his f o c
  unfolding unmatched_form
  everything_read e kind =
      by-test (eqb (length t) 1)
      (λ h.
      let one : length t ≡ 1 = eqb-true (length t) 1 h in
      let found : f ≡ true = e.0 ∙ h in
      let side : o ≡ true = e.1 ∙ ap (λ (b : Bool). b && true) h in
      let no_range : c ≡ 0 = e.2 in
      is_form found refl refl (omega arith) (rw (side, no_range) (record { few = omega arith; between = tt; bytes = one_only t one ∙ ap (λ (k : ℕ). k ∷ []) kind })))
      (λ h. none (e.0 ∙ h, e.1 ∙ ap (λ (b : Bool). b && true) h, e.2) (go (eqb-false (length t) 1 h)))
    where
      go : (length t ≡ 1 → ⊥) → (s : Bool) (rs : List Span) → length rs ≤ 64 → Shape t s rs → ⊥
      go l s rs few (everything _ _ k x) = l x
      go l s rs few (nothing _ _ k n z x) = omega arith
      go l s rs few (alone _ m k x d) = omega arith
      go l s rs few (several _ m k n x d) = omega arith
      go l s rs few (complement _ m k n z x d) = omega arith

  pub nothing_read : (f ≡ (eqb (get_or t 1 0) 1 && eqb (length t) 3)) × (o ≡ ((eqb (get_or t 1 0) 1 && eqb (length t) 3) && false)) × (c ≡ 0) → (not (eqb (get_or t 0 0) 5) || ltb (get_or t 1 0) 1) ≡ false → get_or t 2 0 ≡ 3
      → FormRead lo hi t los his los his f o c
  unfolding matched_form
  nothing_read e q first =
      by-test (eqb (get_or t 1 0) 1 && eqb (length t) 3)
      (λ h.
      let n : get_or t 1 0 ≡ 1 = eqb-true (get_or t 1 0) 1 (and_left (eqb (get_or t 1 0) 1) (eqb (length t) 3) h) in
      let three : length t ≡ 3 = eqb-true (length t) 3 (and_right (eqb (get_or t 1 0) 1) (eqb (length t) 3) h) in
      let found : f ≡ true = e.0 ∙ h in
      let side : o ≡ false = e.1 ∙ ap (λ (b : Bool). b && false) h in
      let no_range : c ≡ 0 = e.2 in
      let bytes : t ≡ 5 ∷ 1 ∷ 3 ∷ [] = three_only t three ∙ rw (kind, n, first) in
      is_form found refl refl (omega arith) (rw (side, no_range) (record { few = omega arith; between = tt; bytes = bytes })))
      (λ h. none (e.0 ∙ h, e.1 ∙ ap (λ (b : Bool). b && false) h, e.2) (go h))
    where
      kind : get_or t 0 0 ≡ 5
      kind = (fifth_some (get_or t 0 0) (get_or t 1 0) q).0

      go : (eqb (get_or t 1 0) 1 && eqb (length t) 3) ≡ false → (s : Bool) (rs : List Span) → length rs ≤ 64 → Shape t s rs → ⊥
      go h s rs few (everything _ _ k x) = omega (arith, kind)
      go h s rs few (nothing _ _ k n z x) = clash (ap₂ (λ (a b : Bool). a && b) (eq-eqb (get_or t 1 0) 1 n) (eq-eqb (length t) 3 x)) h
      go h s rs few (alone _ m k x d) = omega (arith, kind)
      go h s rs few (several _ m k n x d) = omega (arith, kind)
      go h s rs few (complement _ m k n z x d) = omega arith

module _ (lo hi : ℤ) (t : List ℕ) (los his los' his' : List ℤ) (f o : Bool) (c : ℕ) where
  -- n ranges, whose records stand from `at` on
  from_ranges : (at : ℕ) (side : Bool) (n : ℕ) → n ≤ 64 → n ≤ length los → n ≤ length his → ((rs : List Span) → length rs ≡ n → drop at t ≡ records rs → t ≡ side_form side rs)
      → ((s : Bool) (rs : List Span) → length rs ≤ 64 → Shape t s rs → (length rs ≡ n) × (drop at t ≡ records rs)) → FormAt t at side n lo hi los his los' his' f o c → FormRead lo hi t los his los' his' f o c
  from_ranges at side n few l h to from (form_here x y z (ranges_here u el eh b e)) =
      let long : length (view n los' his') ≡ n = length_view n los' his' (omega arith) (omega arith) in
      is_form x el eh (omega arith) (rw (y, z) (record { few = omega arith; between = b; bytes = to (view n los' his') long e }))
  from_ranges at side n few l h to from (form_here x y z (no_ranges u el eh no-ranges)) = absurd (clash refl u)
  from_ranges at side n few l h to from (form_none x y z (ranges_here u el eh b e)) = absurd (clash u refl)
  from_ranges at side n few l h to from (form_none x y z (no_ranges u el eh no-ranges)) =
      no_form x y z el eh (λ s rs w. let g = from s rs w.few (shape t s rs w.bytes) in no-ranges rs g.0 w.between g.1)

  pub alone_read : 1 ≤ length los → 1 ≤ length his → (get_or t 0 0 ≡ 3 → ⊥) → get_or t 0 0 < 4 → FormAt t 0 false 1 lo hi los his los' his' f o c → FormRead lo hi t los his los' his' f o c
  alone_read l h three kind = from_ranges 0 false 1 (omega arith) l h (alone_form t) go
    where
      go : (s : Bool) (rs : List Span) → length rs ≤ 64 → Shape t s rs → (length rs ≡ 1) × (drop 0 t ≡ records rs)
      go s rs few (everything _ _ k x) = absurd (three k)
      go s rs few (nothing _ _ k n z x) = absurd (omega arith)
      go s rs few (alone _ m k x d) = (m, d)
      go s rs few (several _ m k n x d) = absurd (omega arith)
      go s rs few (complement _ m k n z x d) = absurd (omega arith)

  pub several_read : 64 ≤ length los → 64 ≤ length his → 3 ≤ length t → get_or t 0 0 ≡ 4 → 2 ≤ get_or t 1 0 → get_or t 1 0 ≤ 64 → FormAt t 2 false (get_or t 1 0) lo hi los his los' his' f o c → FormRead lo hi t los his los' his' f o c
  several_read l h size kind some few = from_ranges 2 false (get_or t 1 0) few (omega arith) (omega arith) (λ rs g d. several_form t (get_or t 1 0) rs (omega arith) kind refl some g d) go
    where
      go : (s : Bool) (rs : List Span) → length rs ≤ 64 → Shape t s rs → (length rs ≡ get_or t 1 0) × (drop 2 t ≡ records rs)
      go s rs few (everything _ _ k x) = absurd (omega arith)
      go s rs few (nothing _ _ k n z x) = absurd (omega arith)
      go s rs few (alone _ m k x d) = absurd (omega arith)
      go s rs few (several _ m k n x d) = (sym n, d)
      go s rs few (complement _ m k n z x d) = absurd (omega arith)

  pub complement_read : 64 ≤ length los → 64 ≤ length his → 3 ≤ length t → (not (eqb (get_or t 0 0) 5) || ltb (get_or t 1 0) 1) ≡ false → get_or t 1 0 ≤ 64 → (get_or t 2 0 ≡ 3 → ⊥)
      → FormAt t 2 true (get_or t 1 0) lo hi los his los' his' f o c → FormRead lo hi t los his los' his' f o c
  complement_read l h size q few third =
      from_ranges 2 true (get_or t 1 0) few (omega arith) (omega arith) (λ rs g d. complement_form t (get_or t 1 0) rs (omega arith) fifth.0 refl fifth.1 g d) go
    where
      fifth : (get_or t 0 0 ≡ 5) × (1 ≤ get_or t 1 0)
      fifth = fifth_some (get_or t 0 0) (get_or t 1 0) q

      go : (s : Bool) (rs : List Span) → length rs ≤ 64 → Shape t s rs → (length rs ≡ get_or t 1 0) × (drop 2 t ≡ records rs)
      go s rs few (everything _ _ k x) = let e = fifth.0 in absurd (omega arith)
      go s rs few (nothing _ _ k n z x) = absurd (third z)
      go s rs few (alone _ m k x d) = let e = fifth.0 in absurd (omega arith)
      go s rs few (several _ m k n x d) = let e = fifth.0 in absurd (omega arith)
      go s rs few (complement _ m k n z x d) = (sym n, d)
