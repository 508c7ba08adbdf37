-- The record of a range in front of other bytes is read in one way only; and where no record stands. Assumes nothing.
use mathlib.Core.Path.{◌≡◌, refl, sym, ap, ◌∙◌}
use mathlib.Core.Bool.{Bool, true, false, not, ◌||◌}
use mathlib.Core.List.{List, [], ◌∷◌, ◌++◌, append_assoc}
use mathlib.Core.Logic.{⊎_elim}
use Prim.Native.Nat.{ℕ, zero, suc, ◌+◌, ◌-◌, ◌≤◌, ◌<◌}
use native.Mathlib.Omega.{arith}
use lib.Dec.{ltb, eqb}
use lib.IntN.{ℤ}
use lib.ListN.{length, get_or, drop, length-append, length-drop}
use lib.Seq.{drop_at}
use lib.Signed.{lt_z, le_z}
use borrow.Author.Tests.{le-ltb, ltb-true, ltb-false, eqb-true, eqb-false, eq-eqb, ne_eqb, not-true}
use Rattle.facts.proofs.Cases.{by-test, clash, one_of}
use Rattle.integers.specs.Integer.{Word, int_at, int_bytes, eq_z}
use Rattle.integers.specs.Rank.{rank}
use Rattle.integers.proofs.FourBytes.{length_int_bytes, int_at_int_bytes, int_bytes_signed}
use Rattle.integers.proofs.Ranks.{low, rank_lt_z, low_eq_z, rank_inj}
use Rattle.integers.proofs.SignedLocals.{ge_rank, le_rank, gt_rank}
use Rattle.ranges.specs.Spans.{span}
use Rattle.forms.specs.Form.{record_of, record_length}
use Rattle.forms.proofs.Lengths.{length_record_of}
use Rattle.form_reader.specs.FormRead.{RecordRead, record_here, no_record}

-- ---- bytes at a place

pub first_same : (x y : ℕ) (u v : List ℕ) → x ∷ u ≡ y ∷ v → (x ≡ y) × (u ≡ v)
first_same x y u v e = (ap (λ (s : List ℕ). get_or s 0 0) e, ap (λ (s : List ℕ). drop 1 s) e)

pub drop_one : (t : List ℕ) (p : ℕ) → p < length t → drop p t ≡ get_or t p 0 ∷ drop (p + 1) t
drop_one [] p l = absurd (omega arith)
drop_one (x ∷ t) zero l = refl
drop_one (x ∷ t) (suc p) l = drop_one t p (omega arith) ∙ ap (λ (k : ℕ). get_or t p 0 ∷ drop k (x ∷ t)) (next p)
  where
    next : (p : ℕ) → suc (p + 1) ≡ suc p + 1
    next p = omega arith

-- four bytes are those of the integer that they say
pub int_here : (t : List ℕ) (p m : ℕ) (x : ℤ) → ((i : ℕ) → get_or t i 0 < 256) → p + 4 ≤ length t → m ≡ p + 4 → x ≡ int_at t p → drop p t ≡ int_bytes x ++ drop m t
unfolding int_at
int_here t p m x small l to e =
    let two : p + 1 + 1 ≡ p + 2 = omega arith in
    let three : p + 2 + 1 ≡ p + 3 = omega arith in
    let four : p + 3 + 1 ≡ m = omega arith in
    let d₁ : drop (p + 1) t ≡ get_or t (p + 1) 0 ∷ drop (p + 2) t = drop_one t (p + 1) (omega arith) ∙ ap (λ (k : ℕ). get_or t (p + 1) 0 ∷ drop k t) two in
    let d₂ : drop (p + 2) t ≡ get_or t (p + 2) 0 ∷ drop (p + 3) t = drop_one t (p + 2) (omega arith) ∙ ap (λ (k : ℕ). get_or t (p + 2) 0 ∷ drop k t) three in
    let d₃ : drop (p + 3) t ≡ get_or t (p + 3) 0 ∷ drop m t = drop_one t (p + 3) (omega arith) ∙ ap (λ (k : ℕ). get_or t (p + 3) 0 ∷ drop k t) four in
    drop_one t p (omega arith)
    ∙ ap (λ (s : List ℕ). get_or t p 0 ∷ s) (d₁ ∙ ap (λ (s : List ℕ). get_or t (p + 1) 0 ∷ s) (d₂ ∙ ap (λ (s : List ℕ). get_or t (p + 2) 0 ∷ s) d₃))
    ∙ ap (λ (s : List ℕ). s ++ drop m t) (sym (int_bytes_signed (get_or t p 0) (get_or t (p + 1) 0) (get_or t (p + 2) 0) (get_or t (p + 3) 0) (small p) (small (p + 1)) (small (p + 2)) (small (p + 3))))
    ∙ ap (λ (z : ℤ). int_bytes z ++ drop m t) (sym e)

-- ---- an integer, and a record, in front

pub int_same : (a b : ℤ) (u v : List ℕ) → Word a → Word b → int_bytes a ++ u ≡ int_bytes b ++ v → (a ≡ b) × (u ≡ v)
int_same a b u v p q e = (
  sym (int_at_int_bytes a u p) ∙ ap (λ (s : List ℕ). int_at s 0) e ∙ int_at_int_bytes b v q,
  sym (drop_at (int_bytes a) u 4 (length_int_bytes a)) ∙ ap (λ (s : List ℕ). drop 4 s) e ∙ drop_at (int_bytes b) v 4 (length_int_bytes b),
)

eq_z_same : (a b : ℤ) → Word a → Word b → eq_z a b ≡ true → a ≡ b
eq_z_same a b p q e = rank_inj a b (low a p) (low b q) (eqb-true (rank a) (rank b) (sym (low_eq_z a b (low a p) (low b q)) ∙ e))

eq_z_self : (a : ℤ) → Word a → eq_z a a ≡ true
eq_z_self a p = low_eq_z a a (low a p) (low a p) ∙ eq-eqb (rank a) (rank a) refl

lt_z_self : (a : ℤ) → Word a → lt_z a a ≡ false
lt_z_self a p = rank_lt_z a a p p ∙ le-ltb (rank a) (rank a) (omega arith)

record_single : (a b : ℤ) (s : List ℕ) → eq_z a b ≡ true → record_of (span a b) ++ s ≡ 1 ∷ (int_bytes a ++ s)
unfolding record_of
record_single a b s e = rw e

record_range : (a b : ℤ) (s : List ℕ) → eq_z a b ≡ false → record_of (span a b) ++ s ≡ 2 ∷ (int_bytes a ++ (int_bytes b ++ s))
unfolding record_of
record_range a b s e = rw e (ap (λ (z : List ℕ). 2 ∷ z) (append_assoc (int_bytes a) (int_bytes b) s))

-- a record begins with 01 or 02, and has at least five bytes
pub record_kind : (a b : ℤ) (s : List ℕ) → (0 < get_or (record_of (span a b) ++ s) 0 0) × (get_or (record_of (span a b) ++ s) 0 0 < 3)
record_kind a b s = by-test (eq_z a b) (λ e. rw (record_single a b s e) (omega arith, omega arith)) (λ e. rw (record_range a b s e) (omega arith, omega arith))

pub record_long : (a b : ℤ) (s : List ℕ) → 5 ≤ length (record_of (span a b) ++ s)
record_long a b s =
    let l = length-append (record_of (span a b)) s in
    let r : length (record_of (span a b)) ≡ record_length (span a b) = length_record_of (span a b) in
    by-test (eq_z a b) (λ e. let h : length (record_of (span a b)) ≡ 5 = rw e at r in omega arith) (λ e. let h : length (record_of (span a b)) ≡ 9 = rw e at r in omega arith)

pub record_same : (a b c d : ℤ) (u v : List ℕ) → Word a → Word b → Word c → Word d → record_of (span a b) ++ u ≡ record_of (span c d) ++ v → (a ≡ c) × (b ≡ d) × (u ≡ v)
record_same a b c d u v wa wb wc wd q =
    by-test (eq_z a b)
    (λ e.
    by-test (eq_z c d)
    (λ f.
    let h = int_same a c u v wa wc (first_same 1 1 _ _ (sym (record_single a b u e) ∙ q ∙ record_single c d v f)).1 in
    (h.0, sym (eq_z_same a b wa wb e) ∙ h.0 ∙ eq_z_same c d wc wd f, h.1))
    (λ f. let z : 1 ≡ 2 = (first_same 1 2 _ _ (sym (record_single a b u e) ∙ q ∙ record_range c d v f)).0 in absurd (omega arith)))
    (λ e.
    by-test (eq_z c d)
    (λ f. let z : 2 ≡ 1 = (first_same 2 1 _ _ (sym (record_range a b u e) ∙ q ∙ record_single c d v f)).0 in absurd (omega arith))
    (λ f.
    let h = int_same a c _ _ wa wc (first_same 2 2 _ _ (sym (record_range a b u e) ∙ q ∙ record_range c d v f)).1 in
    let g = int_same b d u v wb wd h.1 in
    (h.0, g.0, g.1)))

-- ---- what is read at a place

module _ (t : List ℕ) (p : ℕ) (f : Bool) (a b : ℤ) (next : ℕ) (not_there : f ≡ false) where
  pub read_short : length t - p < 5 → RecordRead t p f a b next
  read_short l = no_record not_there (λ c d s wc wd o e. short c d s e)
    where
      short : (c d : ℤ) (s : List ℕ) → drop p t ≡ record_of (span c d) ++ s → ⊥
      short c d s e =
          let n : length (drop p t) ≡ length (record_of (span c d) ++ s) = ap (λ (z : List ℕ). length z) e in
          let m : length (drop p t) ≡ length t - p = length-drop p t in
          let k : 5 ≤ length (record_of (span c d) ++ s) = record_long c d s in
          omega arith

  -- the byte there is not that of a record, or the record would be longer
  pub read_other : 5 ≤ length t - p → (get_or t p 0 ≡ 1 → ⊥) → (not (eqb (get_or t p 0) 2) || ltb (length t - p) 9) ≡ true → RecordRead t p f a b next
  read_other l one q = no_record not_there (λ c d s wc wd o e. other c d s e)
    where
      here : drop p t ≡ get_or t p 0 ∷ drop (p + 1) t
      here = drop_one t p (omega arith)

      other : (c d : ℤ) (s : List ℕ) → drop p t ≡ record_of (span c d) ++ s → ⊥
      other c d s e =
          by-test (eq_z c d)
          (λ r. one (first_same (get_or t p 0) 1 _ _ (sym here ∙ e ∙ record_single c d s r)).0)
          (λ r.
          let full : drop p t ≡ 2 ∷ (int_bytes c ++ (int_bytes d ++ s)) = e ∙ record_range c d s r in
          let n : length (drop p t) ≡ length (2 ∷ (int_bytes c ++ (int_bytes d ++ s))) = ap (λ (z : List ℕ). length z) full in
          let m : length (drop p t) ≡ length t - p = length-drop p t in
          let x : length (int_bytes c ++ (int_bytes d ++ s)) ≡ length (int_bytes c) + length (int_bytes d ++ s) = length-append (int_bytes c) (int_bytes d ++ s) in
          let y : length (int_bytes d ++ s) ≡ length (int_bytes d) + length s = length-append (int_bytes d) s in
          let u : length (int_bytes c) ≡ 4 = length_int_bytes c in
          let v : length (int_bytes d) ≡ 4 = length_int_bytes d in
          ⊎_elim
          (λ (h : not (eqb (get_or t p 0) 2) ≡ true). eqb-false (get_or t p 0) 2 (not-true (eqb (get_or t p 0) 2) h) (first_same (get_or t p 0) 2 _ _ (sym here ∙ full)).0)
          (λ (h : ltb (length t - p) 9 ≡ true). let k : length t - p < 9 = ltb-true (length t - p) 9 h in omega arith)
          (one_of (not (eqb (get_or t p 0) 2)) (ltb (length t - p) 9) q))

-- where the test of `read_other` fails
pub range_fits : (k l : ℕ) → (not (eqb k 2) || ltb l 9) ≡ false → (k ≡ 2) × (9 ≤ l)
range_fits k l e =
    by-test (eqb k 2)
    (λ h. (eqb-true k 2 h, ltb-false l 9 (rw h at e)))
    (λ h. let z : true ≡ false = rw h at e in absurd (clash refl z))

module _ (t : List ℕ) (p : ℕ) (small : (i : ℕ) → get_or t i 0 < 256) (x : ℤ) (w : Word x) (is : x ≡ int_at t (p + 1)) where
  pub read_single : 5 ≤ length t - p → get_or t p 0 ≡ 1 → RecordRead t p true x x (p + 5)
  read_single l k =
      record_here refl (omega arith) (lt_z_self x w)
      (drop_one t p (omega arith) ∙ ap (λ (n : ℕ). n ∷ drop (p + 1) t) k ∙ ap (λ (z : List ℕ). 1 ∷ z) (int_here t (p + 1) (p + 5) x small (omega arith) (omega arith) is)
      ∙ sym (record_single x x (drop (p + 5) t) (eq_z_self x w)))

  -- the test of `read_other` fails: the 02 is there in full
  module _ (full : (not (eqb (get_or t p 0) 2) || ltb (length t - p) 9) ≡ false) (y : ℤ) (v : Word y) (is' : y ≡ int_at t (p + 5)) where
    kind : (get_or t p 0 ≡ 2) × (9 ≤ length t - p)
    kind = range_fits (get_or t p 0) (length t - p) full

    here : drop p t ≡ 2 ∷ (int_bytes x ++ (int_bytes y ++ drop (p + 9) t))
    here =
        let l : 9 ≤ length t - p = kind.1 in
        drop_one t p (omega arith) ∙ ap (λ (n : ℕ). n ∷ drop (p + 1) t) kind.0
        ∙ ap (λ (z : List ℕ). 2 ∷ z) (int_here t (p + 1) (p + 5) x small (omega arith) (omega arith) is ∙ ap (λ (z : List ℕ). int_bytes x ++ z) (int_here t (p + 5) (p + 9) y small (omega arith) (omega arith) is'))

    -- a range of one integer, or of none, is no 02
    pub read_turned : (f : Bool) (a b : ℤ) (next : ℕ) → f ≡ false → le_z y x ≡ true → RecordRead t p f a b next
    read_turned f a b next not_there le = no_record not_there (λ c d s wc wd o e. turned c d s wc wd o e)
      where
        turned : (c d : ℤ) (s : List ℕ) → Word c → Word d → lt_z d c ≡ false → drop p t ≡ record_of (span c d) ++ s → ⊥
        turned c d s wc wd o e =
            by-test (eq_z c d)
            (λ r. let z : 2 ≡ 1 = (first_same 2 1 _ _ (sym here ∙ e ∙ record_single c d s r)).0 in omega arith)
            (λ r.
            let h = int_same x c _ _ w wc (first_same 2 2 _ _ (sym here ∙ e ∙ record_range c d s r)).1 in
            let g = int_same y d (drop (p + 9) t) s v wd h.1 in
            let le' : le_z d c ≡ true = rw (h.0, g.0) at le in
            let up : rank c ≤ rank d = ge_rank d c wd wc o in
            let down : rank d ≤ rank c = le_rank d c wd wc le' in
            clash (low_eq_z c d (low c wc) (low d wd) ∙ eq-eqb (rank c) (rank d) (omega arith)) r)

    pub read_range : le_z y x ≡ false → RecordRead t p true x y (p + 9)
    read_range g =
        let up : rank x < rank y = gt_rank y x v w g in
        let l : 9 ≤ length t - p = kind.1 in
        let apart : eq_z x y ≡ false = low_eq_z x y (low x w) (low y v) ∙ ne_eqb (rank x) (rank y) (λ e. omega arith) in
        record_here refl (omega arith) (rank_lt_z y x v w ∙ le-ltb (rank y) (rank x) (omega arith)) (here ∙ sym (record_range x y (drop (p + 9) t) apart))
