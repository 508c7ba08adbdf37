-- Which numbers a fault of the input can have, and how long the line of a fault is. Assumes nothing.
use mathlib.Core.Path.{◌≡◌, refl, sym, ap, ◌∙◌}
use mathlib.Core.Bool.{Bool, true, false, cond}
use mathlib.Core.List.{List, [], ◌∷◌}
use mathlib.Core.Logic.{◌⊎◌, inl, inr, ⊎_elim}
use Prim.Native.Nat.{ℕ, zero, suc, ◌+◌, ◌*◌, ◌≤◌, ◌<◌}
use native.Mathlib.Omega.{arith}
use borrow.Author.Tests.{ltb-true, ltb-false, lt-ltb, eqb-true, eqb-false}
use lib.Dec.{eqb, ltb}
use lib.ListN.{length, get_or, drop}
use lib.IntN.{ℤ}
use Rattle.facts.proofs.Cases.{by-test}
use Rattle.integers.specs.Integer.{int_at}
use Rattle.format.specs.declared.Family.{Family}
use Rattle.grammar.specs.Family.{RowOf}
use Rattle.grammar.specs.Leaf.{Leaf}
use Rattle.grammar.specs.Read.{Read, refuse, got, or_refuse, refuse_or, verdict, ended, and_then}
use Rattle.grammar.specs.Record.{Head, kind_of, count_fault, bounds_fault, sheet_fault, type_fault, outside}
use Rattle.grammar.specs.Template.{Heads, Template}
use Rattle.grammar.specs.Whole.{body_here, sheet_here, length_here, type_here, rest_here, heads_here, template_here, read_template}
use Rattle.grammar.proofs.ReadApart.{clash}
use Rattle.grammar.proofs.RefusalNumbers.{Cases, is_refused, is_read, read_cases, template_row}
use Rattle.lines.specs.Line.{decimal, space_then, spaced, line}
use Rattle.lines.proofs.Lines.{byte_next, digit_next, line_length}
use Rattle.stream.specs.Input.{record_fault, put_integer, integers, list_fault, list_here, after_template, template_in, reached}
use Rattle.stream.proofs.Lists.{record_long}
use Rattle.intake_lines.specs.Output.{stop, go, turned, turn}

refused_by : {A : Type 0} (f : ℕ) (o : Read A) (r : ℕ) → refuse_or f o ≡ refuse r → (f ≡ r) ⊎ (o ≡ refuse r)
refused_by zero o r e = inr e
refused_by (suc f) o r e = inl cc

-- ---- the fault of a list

record_small : (kind size : ℕ) (s : List ℕ) → record_fault kind size s < 10
unfolding record_fault
record_small kind size s = go (eqb (length s) 0) (eqb (kind_of s) kind) (ltb (length s) size)
  where
    go : (a b c : Bool) → cond a 3 (cond b (cond c 3 0) 4) < 10
    go true b c = omega arith
    go false true true = omega arith
    go false true false = omega arith
    go false false c = omega arith

integers_fault : (n : ℕ) (s : List ℕ) (r : ℕ) → integers n s ≡ refuse r → r < 10
unfolding integers put_integer
integers_fault zero s r e = absurd (clash (sym e))
integers_fault (suc n) s r e =
    ⊎_elim
    (λ (q : record_fault 0x01 5 s ≡ r). let h = record_small 0x01 5 s in omega arith)
    (λ (q : put_integer (int_at s 1) (integers n (drop 5 s)) ≡ refuse r). go (λ x f. integers_fault n (drop 5 s) x f) (integers n (drop 5 s)) refl q)
    (refused_by (record_fault 0x01 5 s) (put_integer (int_at s 1) (integers n (drop 5 s))) r e)
  where
    go : ((x : ℕ) → integers n (drop 5 s) ≡ refuse x → x < 10) → (o : Read (List ℤ)) → integers n (drop 5 s) ≡ o → put_integer (int_at s 1) o ≡ refuse r → r < 10
    go ih (refuse x) f h = let same : x ≡ r = cc in let i = ih x f in omega arith
    go ih (got xs s') f h = absurd (clash (sym h))

-- a number of two digits only where two bytes are there
list_fault_lem : (s : List ℕ) (r : ℕ) → list_here s ≡ refuse r → (r < 10) ⊎ ((r < 256) × (2 ≤ length s))
unfolding list_here list_fault
list_fault_lem s r e =
    by-test (eqb (record_fault 0x40 2 s) 0)
    (λ (a : eqb (record_fault 0x40 2 s) 0 ≡ true).
    by-test (ltb 32 (get_or s 1 0))
    (λ (b : ltb 32 (get_or s 1 0) ≡ true). let q : ◌≡◌ {A = Read (List ℤ)} (refuse 11) (refuse r) = rw (a, b) at e in let n : 11 ≡ r = cc in inr (omega arith, record_long 0x40 2 s (eqb-true (record_fault 0x40 2 s) 0 a)))
    (λ (b : ltb 32 (get_or s 1 0) ≡ false). inl (integers_fault (get_or s 1 0) (drop 2 s) r (rw (a, b) at e))))
    (λ (a : eqb (record_fault 0x40 2 s) 0 ≡ false).
    ⊎_elim
    (λ (q : record_fault 0x40 2 s ≡ r). let h = record_small 0x40 2 s in inl (omega arith))
    (λ (q : integers (get_or s 1 0) (drop 2 s) ≡ refuse r). inl (integers_fault (get_or s 1 0) (drop 2 s) r q))
    (refused_by (record_fault 0x40 2 s) (integers (get_or s 1 0) (drop 2 s)) r (rw a at e)))

-- ---- the line of the last turn

-- a fault's line is its number's digits, what the refusal takes, and three bytes
fault_line : (k r d : ℕ) → length (space_then r) ≤ d → length (line k (r ∷ 0 ∷ [])) ≤ length (decimal k) + d + 3
unfolding spaced
fault_line k r d number =
    let size = line_length k r 0 [] in
    let count = digit_next 0 (omega arith) in
    omega arith

pub record LastSize (k : ℕ) (s l : List ℕ) : Type 0 where
  pub few : length l ≤ length (decimal k) + 7
  pub by_bytes : length l ≤ length (decimal k) + 5 * length s

pub last_size : (t : List ℕ) (k : ℕ) (s l : List ℕ) → turn t k s ≡ stop l → LastSize k s l
unfolding turn turned
last_size t k s l e =
    by-test (eqb (length s) 0)
    (λ (a : eqb (length s) 0 ≡ true). let q : stop [] ≡ stop l = rw a at e in let same : [] ≡ l = cc in let n = ap length same in record { few = omega arith; by_bytes = omega arith })
    (λ (a : eqb (length s) 0 ≡ false). let some = eqb-false (length s) 0 a in by_reading some (list_here s) refl (rw a at e))
  where
    by_reading : (length s ≡ 0 → ⊥) → (o : Read (List ℤ)) → list_here s ≡ o → turned t k o ≡ stop l → LastSize k s l
    by_reading some (got xs s') h q = let z : ◌≡◌ {A = ℕ} 0 1 = cc in absurd (omega arith)
    by_reading some (refuse r) h q =
        let same : line k (r ∷ 0 ∷ []) ≡ l = cc in
        let n = ap length same in
        ⊎_elim
        (λ (a : r < 10). let d = fault_line k r 2 (digit_next r a) in let b : 0 < length s = omega arith in record { few = omega arith; by_bytes = omega arith })
        (λ (a : (r < 256) × (2 ≤ length s)). let d = fault_line k r 4 (byte_next r a.0) in let b = a.1 in record { few = omega arith; by_bytes = omega arith })
        (list_fault_lem s r h)

-- ---- the line of a refused input

row_small : (r : ℕ) → RowOf Family.Integers r → r ≤ 20
row_small r (inl (inl row)) = let most = row.1 in omega arith
row_small r (inl (inr e)) = omega arith
row_small r (inr e) = omega arith

verdict_small : (o : Read (Template Leaf)) → ((r : ℕ) → o ≡ refuse r → RowOf Family.Integers r) → verdict o ≤ 20
unfolding verdict
verdict_small (refuse r) h = row_small r (h r refl)
verdict_small (got p s) h = omega arith

reached_refusal : (s : List ℕ) (r : ℕ) → reached s ≡ refuse r → r < 256
unfolding reached
reached_refusal s r e = size (ltb 65536 (length s)) e
  where
    rest : Read (List ℕ)
    rest = refuse_or (verdict (read_template Family.Integers (template_in s))) (got (template_in s) (drop (after_template s) s))

    own : rest ≡ refuse r → r < 256
    own q =
        ⊎_elim
        (λ (a : verdict (read_template Family.Integers (template_in s)) ≡ r). let h = verdict_small (read_template Family.Integers (template_in s)) (λ n q. (template_row Family.Integers (template_in s) n q).row) in omega arith)
        (λ (a : got (template_in s) (drop (after_template s) s) ≡ refuse r). absurd (clash (sym a)))
        (refused_by (verdict (read_template Family.Integers (template_in s))) (got (template_in s) (drop (after_template s) s)) r q)

    missing : (b : Bool) → or_refuse b 3 rest ≡ refuse r → r < 256
    missing true q = let n : 3 ≡ r = cc in omega arith
    missing false q = own q

    size : (b : Bool) → or_refuse b 2 (refuse_or (record_fault 0x50 3 s) (or_refuse (ltb (length s) (after_template s)) 3 rest)) ≡ refuse r → r < 256
    size true q = let n : 2 ≡ r = cc in omega arith
    size false q =
        ⊎_elim
        (λ (a : record_fault 0x50 3 s ≡ r). let h = record_small 0x50 3 s in omega arith)
        (λ (a : or_refuse (ltb (length s) (after_template s)) 3 rest ≡ refuse r). missing (ltb (length s) (after_template s)) a)
        (refused_by (record_fault 0x50 3 s) (or_refuse (ltb (length s) (after_template s)) 3 rest) r q)

pub refusal_size : (s : List ℕ) (r : ℕ) → reached s ≡ refuse r → length (line 0 (r ∷ 0 ∷ [])) ≤ length (decimal 0) + 7
refusal_size s r e = let d = fault_line 0 r 4 (byte_next r (reached_refusal s r e)) in omega arith

-- ---- an accepted template has two bytes

data Refuses {A : Type 0} (o : Read A) : Type 0 where
  refuses : (r : ℕ) → o ≡ refuse r → Refuses o

short_body : {L : Type 0} (leaves : List ℕ → Head L) (h : Heads) (s : List ℕ) → length s < 2 → Refuses (body_here leaves h s)
unfolding body_here count_fault
short_body leaves h s short =
    by-test (eqb (length s) 0)
    (λ (a : eqb (length s) 0 ≡ true). refuses 3 (rw a))
    (λ (a : eqb (length s) 0 ≡ false).
    by-test (outside 0x10 0x13 (kind_of s))
    (λ (b : outside 0x10 0x13 (kind_of s) ≡ true). refuses 4 (rw (a, b)))
    (λ (b : outside 0x10 0x13 (kind_of s) ≡ false). refuses 3 (rw (a, b, lt-ltb (length s) 2 short))))

short_template : (s : List ℕ) → length s < 2 → Refuses (template_here Family.Integers s)
unfolding template_here heads_here sheet_here length_here type_here rest_here and_then bounds_fault sheet_fault type_fault
short_template s short =
    by-test (eqb (kind_of s) 0x32)
    (λ (c : eqb (kind_of s) 0x32 ≡ true). refuses 3 (rw (c, lt-ltb (length s) 2 short)))
    (λ (c : eqb (kind_of s) 0x32 ≡ false).
    by-test (eqb (kind_of s) 0x30)
    (λ (a : eqb (kind_of s) 0x30 ≡ true). refuses 3 (rw (c, a, lt-ltb (length s) 3 (omega arith))))
    (λ (a : eqb (kind_of s) 0x30 ≡ false).
    by-test (eqb (kind_of s) 0x31)
    (λ (b : eqb (kind_of s) 0x31 ≡ true). refuses 3 (rw (c, a, b, lt-ltb (length s) 9 (omega arith))))
    (λ (b : eqb (kind_of s) 0x31 ≡ false). rw (c, a, b) (short_body _ _ s short))))

short_unread : (t : List ℕ) (p : Template Leaf) → Refuses (template_here Family.Integers t) → read_template Family.Integers t ≡ got p [] → ⊥
unfolding read_template ended
short_unread t p (refuses r f) q = never (ltb 4096 (length t)) (ap (λ o. or_refuse (ltb 4096 (length t)) 2 (ended o)) (sym f) ∙ q)
  where
    never : (b : Bool) → or_refuse b 2 (refuse r) ≡ got p [] → ⊥
    never true h = clash h
    never false h = clash h

pub two_bytes : (t : List ℕ) → verdict (read_template Family.Integers t) ≡ 0 → 2 ≤ length t
unfolding verdict
two_bytes t e = by_reading (read_cases Family.Integers t)
  where
    by_reading : Cases (read_template Family.Integers t) → 2 ≤ length t
    by_reading (is_refused r q more) = let z = sym e ∙ ap verdict q in absurd (omega arith)
    by_reading (is_read p q) =
        by-test (ltb (length t) 2)
        (λ (a : ltb (length t) 2 ≡ true). absurd (short_unread t p (short_template t (ltb-true (length t) 2 a)) q))
        (λ (a : ltb (length t) 2 ≡ false). ltb-false (length t) 2 a)
