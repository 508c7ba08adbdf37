-- Records of the input at a place, and the integers of a list one after the other. Assumes nothing.
use mathlib.Core.Path.{◌≡◌, refl, sym, ap, subst, ◌∙◌}
use mathlib.Core.Bool.{true, false}
use mathlib.Core.List.{List, [], ◌∷◌, ◌++◌, append_assoc}
use Prim.Native.Nat.{ℕ, zero, suc, ◌+◌, ◌-◌, ◌≤◌, ◌<◌}
use native.Mathlib.Omega.{arith}
use native.Mathlib.Numerals.{add-one}
use native.Mathlib.Nat.{pos_of_ne-zero}
use lib.Dec.{ltb, eqb}
use lib.ListN.{length, get_or, take, drop, set, length-drop, length-set}
use lib.Seq.{get_or-drop, drop-drop, drop-set-lt, take-suc-set}
use lib.IntN.{ℤ}
use borrow.Author.Tests.{ltb-false, lt-ltb, le-ltb, eq-eqb, ne_eqb, eqb-true, eqb-false}
use Rattle.integers.specs.Integer.{int_at}
use Rattle.facts.proofs.Cases.{by-test}
use Rattle.integers.proofs.FourBytes.{int_at_drop}
use Rattle.grammar.specs.Record.{kind_of}
use Rattle.grammar.specs.Read.{Read, refuse, got, refuse_or}
use Rattle.grammar.proofs.RecordParts.{kind_at}
use Rattle.stream.specs.Input.{record_fault, put_integer, integers, list_fault, list_here}
use Rattle.stream.specs.Contract.{zeros, Listed, faulty, read}
use Rattle.grammar.proofs.ReadApart.{refuse_is}

-- ---- a record's own fault

module _ (kind size : ℕ) (t : List ℕ) (at : ℕ) where
  pub fault_none : at ≡ length t → 3 ≡ record_fault kind size (drop at t)
  unfolding record_fault
  fault_none h = rw (eq-eqb (length (drop at t)) 0 (omega (arith, length-drop at t)))

  module _ (some : at < length t) where
    pub fault_kind : (get_or t at 0 ≡ kind → ⊥) → 4 ≡ record_fault kind size (drop at t)
    unfolding record_fault
    fault_kind h = rw (ne_eqb (length (drop at t)) 0 (omega (arith, length-drop at t)), kind_at t at, ne_eqb (get_or t at 0) kind h)

    pub fault_short : get_or t at 0 ≡ kind → length t - at < size → 3 ≡ record_fault kind size (drop at t)
    unfolding record_fault
    fault_short h s = rw (ne_eqb (length (drop at t)) 0 (omega (arith, length-drop at t)), kind_at t at, eq-eqb (get_or t at 0) kind h, lt-ltb (length (drop at t)) size (omega (arith, length-drop at t)))

    pub fault_right : get_or t at 0 ≡ kind → size ≤ length t - at → 0 ≡ record_fault kind size (drop at t)
    unfolding record_fault
    fault_right h s = rw (ne_eqb (length (drop at t)) 0 (omega (arith, length-drop at t)), kind_at t at, eq-eqb (get_or t at 0) kind h, le-ltb (length (drop at t)) size (omega (arith, length-drop at t)))

-- the bytes of a record that is not at fault are there
pub record_long : (kind size : ℕ) (s : List ℕ) → record_fault kind size s ≡ 0 → size ≤ length s
unfolding record_fault
record_long kind size s e =
    by-test (eqb (length s) 0)
    (λ (a : eqb (length s) 0 ≡ true). let z : 3 ≡ 0 = rw a at e in absurd (omega arith))
    (λ (a : eqb (length s) 0 ≡ false).
    by-test (eqb (kind_of s) kind)
    (λ (b : eqb (kind_of s) kind ≡ true).
    by-test (ltb (length s) size)
    (λ (d : ltb (length s) size ≡ true). let z : 3 ≡ 0 = rw (a, b, d) at e in absurd (omega arith))
    (λ (d : ltb (length s) size ≡ false). ltb-false (length s) size d))
    (λ (b : eqb (kind_of s) kind ≡ false). let z : 4 ≡ 0 = rw (a, b) at e in absurd (omega arith)))

pub record_fits : (kind size : ℕ) (t : List ℕ) (at : ℕ) → at ≤ length t → record_fault kind size (drop at t) ≡ 0 → at + size ≤ length t
record_fits kind size t at h e = let l = length-drop at t in let f = record_long kind size (drop at t) e in omega arith

-- ---- n records 01

abbrev pub prefixed : List ℤ → Read (List ℤ) → Read (List ℤ)
prefixed ys (refuse r) = refuse r
prefixed ys (got xs s) = got (ys ++ xs) s

prefixed_more : (ys : List ℤ) (x : ℤ) (o : Read (List ℤ)) → prefixed ys (put_integer x o) ≡ prefixed (ys ++ (x ∷ [])) o
unfolding put_integer
prefixed_more ys x (refuse r) = refl
prefixed_more ys x (got xs s) = ap (λ (l : List ℤ). got l s) (sym (append_assoc ys (x ∷ []) xs))

integers_stop : (m : ℕ) (s : List ℕ) (r : ℕ) → 0 < m → r ≡ record_fault 0x01 5 s → (r ≡ 0 → ⊥) → integers m s ≡ refuse r
unfolding integers
integers_stop zero s r p e n = absurd (omega arith)
integers_stop (suc m) s r p e n = rw (← e) (refuse_is r (put_integer (int_at s 1) (integers m (drop 5 s))) n)

integers_step : (m j : ℕ) (s : List ℕ) → m ≡ suc j → record_fault 0x01 5 s ≡ 0 → integers m s ≡ put_integer (int_at s 1) (integers j (drop 5 s))
unfolding integers
integers_step m j s p e = rw (p, integers, e)

-- what was read by the turn i: the integers in front of xs, the first i of all n, and zeros after them
pub record Reading (t : List ℕ) (at n : ℕ) (xs : List ℤ) (p i : ℕ) : Type 0 where
  pub inside : p ≤ length t
  pub few : i ≤ n
  pub size : length xs ≡ 32
  pub rest : drop i xs ≡ zeros (32 - i)
  pub goes : integers n (drop at t) ≡ prefixed (take i xs) (integers (n - i) (drop p t))

module _ (t : List ℕ) (at n : ℕ) where
  module _ (xs : List ℤ) (p i : ℕ) where
    pub reading_stop : Reading t at n xs p i → i < n → (r : ℕ) → r ≡ record_fault 0x01 5 (drop p t) → (r ≡ 0 → ⊥)
        → Listed t (integers n (drop at t)) r 0 0 (zeros 32)
    reading_stop g more r e bad =
        faulty (g.goes ∙ ap (λ (o : Read (List ℤ)). prefixed (take i xs) o) (integers_stop (n - i) (drop p t) r (omega arith) e bad)) (pos_of_ne-zero bad) refl refl refl

    pub reading_fits : Reading t at n xs p i → record_fault 0x01 5 (drop p t) ≡ 0 → p + 5 ≤ length t
    reading_fits g e = record_fits 0x01 5 t p g.inside e

    pub reading_step : Reading t at n xs p i → i < n → n ≤ 32 → record_fault 0x01 5 (drop p t) ≡ 0 → (x : ℤ) → x ≡ int_at t (p + 1) → Reading t at n (set xs i x) (p + 5) (i + 1)
    reading_step g more short e x is =
        let size = g.size in
        let left : n - i ≡ suc (n - (i + 1)) = omega arith in
        let first : int_at (drop p t) 1 ≡ x = int_at_drop t p 1 ∙ sym is in
        let step : integers (n - i) (drop p t) ≡ put_integer x (integers (n - (i + 1)) (drop (p + 5) t)) =
        integers_step (n - i) (n - (i + 1)) (drop p t) left e
        ∙ ap (λ (z : ℤ). put_integer z (integers (n - (i + 1)) (drop 5 (drop p t)))) first
        ∙ ap (λ (l : List ℕ). put_integer x (integers (n - (i + 1)) l)) (drop-drop 5 p t) in
        let front : take (i + 1) (set xs i x) ≡ take i xs ++ (x ∷ []) = ap (λ (j : ℕ). take j (set xs i x)) (add-one i) ∙ take-suc-set xs i x (omega arith) in
        let one_less : 32 - i ≡ suc (32 - (i + 1)) = omega arith in
        record {
          inside = reading_fits g e;
          few = omega arith;
          size = length-set xs i x ∙ size;
          rest =
              drop-set-lt (i + 1) xs i x (omega arith)
              ∙ sym (drop-drop 1 i xs)
              ∙ ap (λ (l : List ℤ). drop 1 l) g.rest
              ∙ ap (λ (j : ℕ). drop 1 (zeros j)) one_less;
          goes =
              g.goes
              ∙ ap (λ (o : Read (List ℤ)). prefixed (take i xs) o) step
              ∙ prefixed_more (take i xs) x (integers (n - (i + 1)) (drop (p + 5) t))
              ∙ ap (λ (l : List ℤ). prefixed l (integers (n - (i + 1)) (drop (p + 5) t))) (sym front);
        }

    pub reading_end : Reading t at n xs p i → n ≤ i → n ≤ 32 → Listed t (integers n (drop at t)) 0 n p xs
    unfolding integers
    reading_end g done short =
        let few = g.few in
        let same : i ≡ n = omega arith in
        let none : n - i ≡ 0 = omega arith in
        let whole : integers n (drop at t) ≡ got (take i xs ++ []) (drop p t) = g.goes ∙ ap (λ (j : ℕ). prefixed (take i xs) (integers j (drop p t))) none in
        read (whole ∙ ap (λ (l : List ℤ). got l (drop p t)) (append_none (take i xs)) ∙ ap (λ (j : ℕ). got (take j xs) (drop p t)) same) refl short g.inside g.size (subst (λ (j : ℕ). drop j xs ≡ zeros (32 - j)) same g.rest)
      where
        append_none : (l : List ℤ) → l ++ [] ≡ l
        append_none [] = refl
        append_none (x ∷ l) = ap (λ (r : List ℤ). x ∷ r) (append_none l)

-- what a function says of a fault
pub faulted : (t : List ℕ) (o : Read (List ℤ)) (code : ℕ) → (code ≡ 0 → ⊥) → Listed t o code 0 0 (zeros 32) → (0 < code) × Listed t o code 0 0 (zeros 32)
faulted t o code bad l = (omega arith, l)

-- ---- the record 40

module _ (t : List ℕ) (at : ℕ) (r : ℕ) (known : r ≡ record_fault 0x40 2 (drop at t)) where
  pub list_faulty : (r ≡ 0 → ⊥) → r ≡ list_fault (drop at t)
  unfolding list_fault
  list_faulty bad = rw (← known, ne_eqb r 0 bad)

  module _ (none : r ≡ 0) where
    pub list_over : 32 < get_or t (at + 1) 0 → 11 ≡ list_fault (drop at t)
    unfolding list_fault
    list_over h = rw (← known, eq-eqb r 0 none, get_or-drop at t 1 0, lt-ltb 32 (get_or t (at + 1) 0) h)

    pub list_right : get_or t (at + 1) 0 ≤ 32 → 0 ≡ list_fault (drop at t)
    unfolding list_fault
    list_right h = rw (← known, eq-eqb r 0 none, get_or-drop at t 1 0, le-ltb 32 (get_or t (at + 1) 0) h)

-- what no fault says
pub record Counted (s : List ℕ) : Type 0 where
  pub long : 2 ≤ length s
  pub few : get_or s 1 0 ≤ 32

pub list_inv : (s : List ℕ) → list_fault s ≡ 0 → Counted s
unfolding list_fault
list_inv s e =
    by-test (eqb (record_fault 0x40 2 s) 0)
    (λ (a : eqb (record_fault 0x40 2 s) 0 ≡ true).
    by-test (ltb 32 (get_or s 1 0))
    (λ (b : ltb 32 (get_or s 1 0) ≡ true). let z : 11 ≡ 0 = rw (a, b) at e in absurd (omega arith))
    (λ (b : ltb 32 (get_or s 1 0) ≡ false). record { long = record_long 0x40 2 s (eqb-true (record_fault 0x40 2 s) 0 a); few = ltb-false 32 (get_or s 1 0) b }))
    (λ (a : eqb (record_fault 0x40 2 s) 0 ≡ false). let z : record_fault 0x40 2 s ≡ 0 = rw a at e in absurd (eqb-false (record_fault 0x40 2 s) 0 a z))

module _ (t : List ℕ) (at : ℕ) (inside : at ≤ length t) (r : ℕ) (known : r ≡ list_fault (drop at t)) where
  pub listed_faulty : (r ≡ 0 → ⊥) → Listed t (list_here (drop at t)) r 0 0 (zeros 32)
  unfolding list_here
  listed_faulty bad =
      faulty (ap (λ (j : ℕ). refuse_or j (integers (get_or (drop at t) 1 0) (drop 2 (drop at t)))) (sym known) ∙ refuse_is r _ bad) (pos_of_ne-zero bad) refl refl refl

  module _ (none : r ≡ 0) where
    pub listed_fits : at + 2 ≤ length t
    listed_fits = let v = (list_inv (drop at t) (sym known ∙ none)).long in let l = length-drop at t in omega arith

    pub listed_few : get_or t (at + 1) 0 ≤ 32
    listed_few = let v = (list_inv (drop at t) (sym known ∙ none)).few in let l = get_or-drop at t 1 0 in omega arith

    here : list_here (drop at t) ≡ integers (get_or t (at + 1) 0) (drop (at + 2) t)
    unfolding list_here
    here = rw (← known, none, get_or-drop at t 1 0, drop-drop 2 at t)

    pub listed_right : (code n next : ℕ) (xs : List ℤ) → Listed t (integers (get_or t (at + 1) 0) (drop (at + 2) t)) code n next xs
        → Listed t (list_here (drop at t)) code n next xs
    listed_right code n next xs (faulty q p none_read nowhere blank) = faulty (here ∙ q) p none_read nowhere blank
    listed_right code n next xs (read q z f i size rest) = read (here ∙ q) z f i size rest
