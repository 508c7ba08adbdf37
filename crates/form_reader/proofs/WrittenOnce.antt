-- Bytes are the form of one list of ranges at most, on one side: the first bytes say which side, how many ranges, and where their records
-- stand. Assumes nothing.
use mathlib.Core.Path.{◌≡◌, refl, sym, ap, ap₂, ◌∙◌}
use mathlib.Core.Bool.{Bool, true, false, cond, ◌&&◌, ◌||◌, and-false}
use mathlib.Core.List.{List, [], ◌∷◌}
use Prim.Native.Nat.{ℕ, ◌<◌}
use native.Mathlib.Omega.{arith}
use lib.Dec.{ltb, eqb}
use lib.IntN.{ℤ, pos, ◌+ℤ◌}
use lib.ListN.{length, get_or, drop}
use borrow.Author.Tests.{lt-ltb, ne_eqb}
use Rattle.ranges.specs.Spans.{Span, span}
use Rattle.forms.specs.Form.{records}
use Rattle.form_reader.specs.FormRead.{Between, WrittenFrom}
use Rattle.form_reader.proofs.RecordBytes.{record_same}
use Rattle.form_reader.proofs.FormShapes.{Shape, everything, nothing, alone, several, complement, shape}

-- ---- read off the first bytes: where the records stand, the side, and how many ranges

abbrev place_of : List ℕ → ℕ
place_of t = cond (ltb (get_or t 0 0) 3) 0 2

abbrev side_of_lem : List ℕ → Bool
side_of_lem t = eqb (get_or t 0 0) 3 || (eqb (get_or t 0 0) 5 && ltb (get_or t 2 0) 3)

abbrev count_of : List ℕ → ℕ
count_of t = cond (ltb (get_or t 0 0) 3) 1 (cond (eqb (get_or t 0 0) 3) 0 (cond (eqb (get_or t 2 0) 3 && eqb (get_or t 0 0) 5) 0 (get_or t 1 0)))

-- what is written, read off the bytes
record Told (t : List ℕ) (o : Bool) (rs : List Span) : Type 0 where
  side : o ≡ side_of_lem t
  count : length rs ≡ count_of t
  bytes : 0 < length rs → drop (place_of t) t ≡ records rs

told : (t : List ℕ) (o : Bool) (rs : List Span) → Shape t o rs → Told t o rs
told t o rs (everything s m k x) =
    let none : length rs ≡ 0 = ap (λ (z : List Span). length z) m in
    record { side = s ∙ rw k; count = none ∙ rw k; bytes = λ some. absurd (omega arith) }
told t o rs (nothing s m k n z x) =
    let none : length rs ≡ 0 = ap (λ (z : List Span). length z) m in
    record { side = s ∙ rw (k, z); count = none ∙ rw (k, z); bytes = λ some. absurd (omega arith) }
told t o rs (alone s m k x d) =
    let low : ltb (get_or t 0 0) 3 ≡ true = lt-ltb (get_or t 0 0) 3 k in
    let three : eqb (get_or t 0 0) 3 ≡ false = ne_eqb (get_or t 0 0) 3 (λ e. omega arith) in
    let five : eqb (get_or t 0 0) 5 ≡ false = ne_eqb (get_or t 0 0) 5 (λ e. omega arith) in
    record { side = s ∙ rw (three, five); count = m ∙ rw low; bytes = λ some. rw low d }
told t o rs (several s m k n x d) = record { side = s ∙ rw k; count = sym n ∙ rw (k, and-false (eqb (get_or t 2 0) 3)); bytes = λ some. rw k d }
told t o rs (complement s m k n z x d) =
    let third : ltb (get_or t 2 0) 3 ≡ true = lt-ltb (get_or t 2 0) 3 z in
    let other : eqb (get_or t 2 0) 3 ≡ false = ne_eqb (get_or t 2 0) 3 (λ e. omega arith) in
    record { side = s ∙ rw (k, third); count = sym n ∙ rw (k, other); bytes = λ some. rw k d }

-- ranges are those of their records
pub records_same : (m hi : ℤ) (rs ss : List Span) → Between m hi rs → Between m hi ss → length rs ≡ length ss → records rs ≡ records ss → rs ≡ ss
unfolding records
records_same m hi [] [] b d n e = refl
records_same m hi [] (s ∷ ss) b d n e = absurd (omega arith)
records_same m hi (r ∷ rs) [] b d n e = absurd (omega arith)
records_same m hi (span a b ∷ rs) (span c d ∷ ss) x y n e =
    let h = record_same a b c d (records rs) (records ss) x.0 x.1 y.0 y.1 e in
    let rest : Between (b +ℤ pos 1) hi ss = rw h.1 y.5 in
    ap₂ (λ (r : Span) (rs : List Span). r ∷ rs) (ap₂ (λ (u v : ℤ). span u v) h.0 h.1) (records_same (b +ℤ pos 1) hi rs ss x.5 rest (omega arith) h.2)

pub written_once : (lo hi : ℤ) (t : List ℕ) (o o' : Bool) (rs rs' : List Span) → WrittenFrom lo hi t o rs → WrittenFrom lo hi t o' rs' → (o ≡ o') × (rs ≡ rs')
unfolding records
written_once lo hi t o o' rs rs' w w' =
    let x = told t o rs (shape t o rs w.bytes) in
    let y = told t o' rs' (shape t o' rs' w'.bytes) in
    let same : length rs ≡ length rs' = x.count ∙ sym y.count in
    (x.side ∙ sym y.side, records_same lo hi rs rs' w.between w'.between same (bytes rs rs' same x.bytes y.bytes))
  where
    bytes : (rs rs' : List Span) → length rs ≡ length rs' → (0 < length rs → drop (place_of t) t ≡ records rs) → (0 < length rs' → drop (place_of t) t ≡ records rs') → records rs ≡ records rs'
    bytes [] [] e p q = refl
    bytes [] (s ∷ ss) e p q = absurd (omega arith)
    bytes (r ∷ rs) [] e p q = absurd (omega arith)
    bytes (r ∷ rs) (s ∷ ss) e p q = sym (p (omega arith)) ∙ q (omega arith)
