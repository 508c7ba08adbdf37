-- How far a list goes, and how many integers it has. Assumes nothing.
use mathlib.Core.Path.{◌≡◌, refl, sym, ap, ◌∙◌}
use mathlib.Core.List.{List, [], ◌∷◌}
use Prim.Native.Nat.{ℕ, zero, suc, ◌+◌, ◌*◌, ◌≤◌}
use native.Mathlib.Omega.{arith}
use lib.ListN.{length, get_or, drop, length-drop}
use lib.IntN.{ℤ}
use Rattle.integers.specs.Integer.{int_at}
use Rattle.grammar.specs.Read.{Read, refuse, got, refuse_or}
use Rattle.grammar.proofs.ReadApart.{clash}
use Rattle.stream.specs.Input.{record_fault, put_integer, integers, list_fault, list_here}
use Rattle.stream.specs.Contract.{Listed, faulty, read}
use Rattle.stream.proofs.Lists.{record_long, list_inv}

-- ---- a list has two bytes and five for each integer

same_rest : {A : Type 0} (a b : A) (s s' : List ℕ) → got a s ≡ got b s' → s ≡ s'
same_rest a b s s' e = cc

same_read : {A : Type 0} (a b : A) (s s' : List ℕ) → got a s ≡ got b s' → a ≡ b
same_read a b s s' e = cc

-- the first integer was there, and others after it
record FirstRead (r : ℕ) (x : ℤ) (o : Read (List ℤ)) (xs : List ℤ) (s : List ℕ) : Type 0 where
  right : r ≡ 0
  others : List ℤ
  after : o ≡ got others s
  whole : xs ≡ x ∷ others

first_read : (r : ℕ) (x : ℤ) (o : Read (List ℤ)) (xs : List ℤ) (s : List ℕ) → refuse_or r (put_integer x o) ≡ got xs s → FirstRead r x o xs s
unfolding put_integer
first_read (suc r) x o xs s e = absurd (clash e)
first_read zero x (refuse r) xs s e = absurd (clash e)
first_read zero x (got ys s') xs s e = record { right = refl; others = ys; after = ap (λ (b : List ℕ). got ys b) (same_rest (x ∷ ys) xs s' s e); whole = sym (same_read (x ∷ ys) xs s' s e) }

record IntegersRead (n : ℕ) (s : List ℕ) (xs : List ℤ) (s' : List ℕ) : Type 0 where
  rest : length s' + 5 * n ≤ length s
  count : length xs ≡ n

integers_read : (n : ℕ) (s : List ℕ) (xs : List ℤ) (s' : List ℕ) → integers n s ≡ got xs s' → IntegersRead n s xs s'
unfolding integers
integers_read zero s xs s' e =
    let l = ap length (same_rest [] xs s s' e) in
    record { rest = omega arith; count = ap length (sym (same_read [] xs s s' e)) }
integers_read (suc n) s xs s' e =
    let f = first_read (record_fault 0x01 5 s) (int_at s 1) (integers n (drop 5 s)) xs s' e in
    let ih = integers_read n (drop 5 s) f.others s' f.after in
    let rest = ih.rest in
    let long = record_long 0x01 5 s f.right in
    let l = length-drop 5 s in
    record { rest = omega arith; count = ap length f.whole ∙ ap suc ih.count }

-- a list that was read
pub record ListRead (s : List ℕ) (xs : List ℤ) (s' : List ℕ) : Type 0 where
  pub rest : length s' + 2 + 5 * length xs ≤ length s
  pub few : length xs ≤ 32

pub list_read : (s : List ℕ) (xs : List ℤ) (s' : List ℕ) → list_here s ≡ got xs s' → ListRead s xs s'
unfolding list_here
list_read s xs s' e = at_fault (list_fault s) refl e
  where
    at_fault : (r : ℕ) → list_fault s ≡ r → refuse_or r (integers (get_or s 1 0) (drop 2 s)) ≡ got xs s' → ListRead s xs s'
    at_fault (suc r) f q = absurd (clash q)
    at_fault zero f q =
        let long = (list_inv s f).long in
        let few = (list_inv s f).few in
        let l = length-drop 2 s in
        let h = integers_read (get_or s 1 0) (drop 2 s) xs s' q in
        let rest = h.rest in
        let count = h.count in
        record { rest = omega arith; few = omega arith }

pub list_rest : (s : List ℕ) (xs : List ℤ) (s' : List ℕ) → list_here s ≡ got xs s' → length s' + 2 ≤ length s
list_rest s xs s' e = let r = (list_read s xs s' e).rest in omega arith

-- ---- a list has at most 32 integers

pub listed_short : (t : List ℕ) (o : Read (List ℤ)) (code n next : ℕ) (xs : List ℤ) → Listed t o code n next xs → code ≡ 0 → n ≤ 32
listed_short t o code n next xs (faulty q p m u b) none = absurd (omega arith)
listed_short t o code n next xs (read q z f i l b) none = f
