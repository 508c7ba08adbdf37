-- The bytes of a form read as an element template that matches what the ranges hold, has a leaf for each, and lies inside a type that
-- they lie in. Assumes nothing.
use mathlib.Core.Path.{◌≡◌, refl, sym, ap, ap₂, ◌∙◌}
use mathlib.Core.Bool.{Bool, true, false, not, cond, ◌&&◌, ◌||◌, or-false}
use mathlib.Core.List.{List, [], ◌∷◌, ◌++◌, append_assoc, append-nil}
use Prim.Native.Nat.{ℕ, suc, ◌+◌, ◌≤◌, max}
use native.Mathlib.Omega.{arith}
use lib.Dec.{ltb, eqb}
use lib.IntN.{ℤ}
use lib.Signed.{lt_z, le_z, ◌≤ℤ◌}
use lib.ListN.{length, drop, length-append}
use lib.Seq.{drop-drop, drop_at}
use borrow.Author.Tests.{le-ltb, eqb-true, ne_eqb}
use Rattle.ranges.specs.Spans.{Span, span, in_span, holds, Proper}
use Rattle.ranges.proofs.JoinsAndGaps.{to_rank}
use Rattle.ranges.proofs.Cuts.{Among}
use Rattle.grammar.specs.Element.{Elem, leaf, one_of, none_of, Elems, none, more, leaves, leaves_all}
use Rattle.grammar.specs.Leaf.{Leaf, single, range, any, single_head, range_head, leaf_head, reaches}
use Rattle.grammar.specs.Read.{got}
use Rattle.grammar.specs.Reading.{counted, put_first, then_more, many, closed, opened, elem}
use Rattle.grammar.specs.Record.{count_fault, leaf_here, group, group_head, head}
use Rattle.grammar.proofs.ReadApart.{grouped}
use Rattle.grammar.proofs.TypedReading.{Every, Inside, InsideAll}
use Rattle.grammar.specs.Matches.{matches_by, leaf_matches, matches, any_matches}
use Rattle.integers.specs.Integer.{Word, signed, int_at, bits, int_bytes, eq_z}
use Rattle.integers.specs.Rank.{rank}
use Rattle.facts.proofs.Cases.{by-test}
use Rattle.integers.proofs.FourBytes.{bits_word, signed_bits, length_int_bytes, joined_four}
use Rattle.integers.proofs.Ranks.{low, rank_lt_z, low_eq_z, rank_inj}
use Rattle.forms.specs.Form.{record_of, records, matched_form, unmatched_form}
use Rattle.forms.proofs.Sets.{leaf_set}

-- ---- as an element template

abbrev leaf_of_lem : Span → Leaf
leaf_of_lem (span a b) = cond (eq_z a b) (single a) (range a b)

abbrev leaves_of : List Span → Elems Leaf
leaves_of [] = none
leaves_of (r ∷ rs) = more (leaf (leaf_of_lem r)) (leaves_of rs)

abbrev pub matched_elem : List Span → Elem Leaf
matched_elem [] = none_of (more (leaf any) none)
matched_elem (r ∷ []) = leaf (leaf_of_lem r)
matched_elem (r ∷ q ∷ rs) = one_of (leaves_of (r ∷ q ∷ rs))

abbrev pub unmatched_elem : List Span → Elem Leaf
unmatched_elem [] = leaf any
unmatched_elem (r ∷ rs) = none_of (leaves_of (r ∷ rs))

-- what it matches

eq_z_same : (a b : ℤ) → Word a → Word b → eq_z a b ≡ true → a ≡ b
eq_z_same a b p q e = rank_inj a b (low a p) (low b q) (eqb-true (rank a) (rank b) (sym (low_eq_z a b (low a p) (low b q)) ∙ e))

leaf_of_matches : (a b x : ℤ) → Word a → Word b → Word x → leaf_matches (leaf_of_lem (span a b)) x ≡ in_span (span a b) x
unfolding leaf_matches
leaf_of_matches a b x p q w =
    by-test (eq_z a b)
    (λ e.
    let same : a ≡ b = eq_z_same a b p q e in
    rw e (sym ((leaf_set (single a) p).right x w) ∙ or-false (le_z a x && le_z x a) ∙ ap (λ (z : ℤ). le_z a x && le_z x z) same))
    (λ e. rw e)

leaves_of_matches : (rs : List Span) (x : ℤ) → Proper rs → Word x → any_matches (leaves_of rs) x ≡ holds rs x
unfolding matches_by
leaves_of_matches [] x p w = refl
leaves_of_matches (span a b ∷ rs) x p w =
    ap₂ (λ (s t : Bool). s || t) (leaf_of_matches a b x p.0 p.1 w) (leaves_of_matches rs x p.3 w)

pub matched_matches : (rs : List Span) (x : ℤ) → Proper rs → Word x → matches (matched_elem rs) x ≡ holds rs x
unfolding matches_by leaf_matches
matched_matches [] x p w = refl
matched_matches (span a b ∷ []) x p w = leaf_of_matches a b x p.0 p.1 w ∙ sym (or-false (le_z a x && le_z x b))
matched_matches (span a b ∷ q ∷ rs) x p w = leaves_of_matches (span a b ∷ q ∷ rs) x p w

pub unmatched_matches : (rs : List Span) (x : ℤ) → Proper rs → Word x → matches (unmatched_elem rs) x ≡ not (holds rs x)
unfolding matches_by leaf_matches
unmatched_matches [] x p w = refl
unmatched_matches (span a b ∷ rs) x p w = ap not (leaves_of_matches (span a b ∷ rs) x p w)

-- its leaves lie inside a type that the ranges lie in

leaf_of_inside : (lo hi a b : ℤ) → Word a → Word b → lt_z a lo ≡ false → lt_z hi b ≡ false → reaches lo hi (leaf_of_lem (span a b)) ≡ false
unfolding reaches
leaf_of_inside lo hi a b p q l u =
    by-test (eq_z a b)
    (λ e.
    let same : a ≡ b = eq_z_same a b p q e in
    let u₁ : lt_z hi a ≡ false = ap (lt_z hi) same ∙ u in
    rw (e, l, u₁))
    (λ e. rw (e, l, u))

leaves_of_inside : (lo hi : ℤ) (rs : List Span) → Proper rs → Among lo hi rs → InsideAll lo hi (leaves_of rs)
unfolding Every
leaves_of_inside lo hi [] p m = tt
leaves_of_inside lo hi (span a b ∷ rs) p m = (leaf_of_inside lo hi a b p.0 p.1 m.0 m.1, leaves_of_inside lo hi rs p.3 m.2)

pub matched_inside : (lo hi : ℤ) (rs : List Span) → Proper rs → Among lo hi rs → Inside lo hi (matched_elem rs)
unfolding Every reaches
matched_inside lo hi [] p m = (refl, tt)
matched_inside lo hi (span a b ∷ []) p m = leaf_of_inside lo hi a b p.0 p.1 m.0 m.1
matched_inside lo hi (span a b ∷ r ∷ rs) p m = leaves_of_inside lo hi (span a b ∷ r ∷ rs) p m

pub unmatched_inside : (lo hi : ℤ) (rs : List Span) → Proper rs → Among lo hi rs → Inside lo hi (unmatched_elem rs)
unfolding Every reaches
unmatched_inside lo hi [] p m = refl
unmatched_inside lo hi (span a b ∷ rs) p m = leaves_of_inside lo hi (span a b ∷ rs) p m

-- how many leaves it has

leaves_of_count : (rs : List Span) → leaves_all (leaves_of rs) ≡ length rs
unfolding leaves
leaves_of_count [] = refl
leaves_of_count (r ∷ rs) = omega (arith, leaves_of_count rs)

pub matched_leaves : (rs : List Span) → leaves (matched_elem rs) ≡ max 1 (length rs)
unfolding leaves
matched_leaves [] = refl
matched_leaves (r ∷ []) = refl
matched_leaves (r ∷ s ∷ rs) = omega (arith, leaves_of_count (r ∷ s ∷ rs))

pub unmatched_leaves : (rs : List Span) → leaves (unmatched_elem rs) ≡ max 1 (length rs)
unfolding leaves
unmatched_leaves [] = refl
unmatched_leaves (r ∷ rs) = omega (arith, leaves_of_count (r ∷ rs))

-- ---- its bytes read as it

first_int : (k : ℕ) (z : ℤ) (s : List ℕ) → Word z → int_at (k ∷ (int_bytes z ++ s)) 1 ≡ z
unfolding int_at int_bytes
first_int k z s p = ap signed (joined_four (bits z) (bits_word z p)) ∙ signed_bits z p

second_int : (k : ℕ) (y z : ℤ) (s : List ℕ) → Word z → int_at (k ∷ (int_bytes y ++ (int_bytes z ++ s))) 5 ≡ z
unfolding int_at int_bytes
second_int k y z s p = ap signed (joined_four (bits z) (bits_word z p)) ∙ signed_bits z p

head_single : (z : ℤ) (s : List ℕ) → Word z → head leaf_head (0x01 ∷ (int_bytes z ++ s)) ≡ leaf_here (single z) s
unfolding head leaf_head single_head
head_single z s p =
    let n : length (int_bytes z ++ s) ≡ 4 + length s = length-append (int_bytes z) s ∙ ap (λ (k : ℕ). k + length s) (length_int_bytes z) in
    let e : ltb (length (0x01 ∷ (int_bytes z ++ s))) 5 ≡ false = le-ltb (length (0x01 ∷ (int_bytes z ++ s))) 5 (omega arith) in
    let d : drop 5 (0x01 ∷ (int_bytes z ++ s)) ≡ s = drop_at (int_bytes z) s 4 (length_int_bytes z) in
    let some : eqb (length (0x01 ∷ (int_bytes z ++ s))) 0 ≡ false = ne_eqb (length (0x01 ∷ (int_bytes z ++ s))) 0 (λ z. omega arith) in
    rw (some, e, d, first_int 1 z s p)

head_range : (a b : ℤ) (s : List ℕ) → Word a → Word b → lt_z b a ≡ false → head leaf_head (0x02 ∷ (int_bytes a ++ (int_bytes b ++ s))) ≡ leaf_here (range a b) s
unfolding head leaf_head range_head
head_range a b s p q o =
    let n₁ : length (int_bytes b ++ s) ≡ 4 + length s = length-append (int_bytes b) s ∙ ap (λ (k : ℕ). k + length s) (length_int_bytes b) in
    let n : length (int_bytes a ++ (int_bytes b ++ s)) ≡ 4 + length (int_bytes b ++ s) =
    length-append (int_bytes a) (int_bytes b ++ s) ∙ ap (λ (k : ℕ). k + length (int_bytes b ++ s)) (length_int_bytes a) in
    let e : ltb (length (0x02 ∷ (int_bytes a ++ (int_bytes b ++ s)))) 9 ≡ false = le-ltb (length (0x02 ∷ (int_bytes a ++ (int_bytes b ++ s)))) 9 (omega arith) in
    let d : drop 9 (0x02 ∷ (int_bytes a ++ (int_bytes b ++ s))) ≡ s =
    sym (drop-drop 4 4 (int_bytes a ++ (int_bytes b ++ s))) ∙ ap (drop 4) (drop_at (int_bytes a) (int_bytes b ++ s) 4 (length_int_bytes a)) ∙ drop_at (int_bytes b) s 4 (length_int_bytes b) in
    let some : eqb (length (0x02 ∷ (int_bytes a ++ (int_bytes b ++ s)))) 0 ≡ false = ne_eqb (length (0x02 ∷ (int_bytes a ++ (int_bytes b ++ s)))) 0 (λ z. omega arith) in
    rw (some, e, d, first_int 2 a (int_bytes b ++ s) p, second_int 2 a b s q, o)

pub not_after : (a b : ℤ) → Word a → Word b → a ≤ℤ b → lt_z b a ≡ false
not_after a b p q h = rank_lt_z b a q p ∙ le-ltb (rank b) (rank a) (to_rank a b (low a p) (low b q) h)

head_record : (a b : ℤ) (s : List ℕ) → Word a → Word b → a ≤ℤ b → head leaf_head (record_of (span a b) ++ s) ≡ leaf_here (leaf_of_lem (span a b)) s
unfolding record_of
head_record a b s p q o =
    by-test (eq_z a b)
    (λ e. rw e (head_single a s p))
    (λ e. rw (e, append_assoc (int_bytes a) (int_bytes b) s) (head_range a b s p q (not_after a b p q o)))

record_reads : (left k : ℕ) (a b : ℤ) (s : List ℕ) → k ≤ 63 → Word a → Word b → a ≤ℤ b
    → elem leaf_head (suc left) k (record_of (span a b) ++ s) ≡ got (counted (leaf (leaf_of_lem (span a b))) (k + 1)) s
unfolding elem opened
record_reads left k a b s c p q o = rw (head_record a b s p q o, le-ltb 63 k c)

records_read : (left k : ℕ) (rs : List Span) (s : List ℕ) → k + length rs ≤ 64 → Proper rs
    → many (elem leaf_head (suc left)) (length rs) k (records rs ++ s) ≡ got (counted (leaves_of rs) (k + length rs)) s
unfolding many then_more put_first records
records_read left k [] s c p = ap (λ (n : ℕ). got (counted none n) s) (omega arith)
records_read left k (span a b ∷ rs) s c p =
    let ih = records_read left (k + 1) rs s (omega arith) p.3 in
    let e : k + 1 + length rs ≡ k + suc (length rs) = omega arith in
    rw (append_assoc (record_of (span a b)) (records rs) s, record_reads left k a b (records rs ++ s) (omega arith) p.0 p.1 p.2, ih, e)

pub head_group : (c : Bool) (n : ℕ) (s : List ℕ) → 1 ≤ n → n ≤ 64 → head leaf_head (cond c 0x05 0x04 ∷ n ∷ s) ≡ group c n s
unfolding head group_head count_fault
head_group true n s p q = rw (ne_eqb (length (0x05 ∷ n ∷ s)) 0 (λ e. omega arith), le-ltb (length (0x05 ∷ n ∷ s)) 2 (omega arith), le-ltb n 1 p, le-ltb 64 n q)
head_group false n s p q = rw (ne_eqb (length (0x04 ∷ n ∷ s)) 0 (λ e. omega arith), le-ltb (length (0x04 ∷ n ∷ s)) 2 (omega arith), le-ltb n 1 p, le-ltb 64 n q)

group_reads : (c : Bool) (left : ℕ) (rs : List Span) (s : List ℕ) → 1 ≤ length rs → length rs ≤ 64 → Proper rs
    → elem leaf_head (suc (suc left)) 0 (cond c 0x05 0x04 ∷ length rs ∷ (records rs ++ s)) ≡ got (counted (grouped c (leaves_of rs)) (length rs)) s
unfolding elem opened closed
group_reads true left rs s p q r = rw (head_group true (length rs) (records rs ++ s) p q, records_read left 0 rs s (omega arith) r) (ap (λ (n : ℕ). got (counted (none_of (leaves_of rs)) n) s) (omega arith))
group_reads false left rs s p q r = rw (head_group false (length rs) (records rs ++ s) p q, records_read left 0 rs s (omega arith) r) (ap (λ (n : ℕ). got (counted (one_of (leaves_of rs)) n) s) (omega arith))

pub record ReadsAs (s : List ℕ) (e : Elem Leaf) : Type 0 where
  pub count : ℕ
  pub reads : elem leaf_head 8 0 s ≡ got (counted e count) []

nothing_reads : ReadsAs (0x05 ∷ 0x01 ∷ 0x03 ∷ []) (none_of (more (leaf any) none))
unfolding elem opened closed many then_more put_first head leaf_head group_head count_fault
nothing_reads = record { count = 1; reads = refl }

everything_reads : ReadsAs (0x03 ∷ []) (leaf any)
unfolding elem opened head leaf_head
everything_reads = record { count = 1; reads = refl }

pub matched_reads : (rs : List Span) → length rs ≤ 64 → Proper rs → ReadsAs (matched_form rs) (matched_elem rs)
unfolding matched_form
matched_reads [] p q = nothing_reads
matched_reads (span a b ∷ []) p q =
    record { count = 1; reads = ap (elem leaf_head 8 0) (sym (append-nil (record_of (span a b)))) ∙ record_reads 7 0 a b [] (omega arith) q.0 q.1 q.2 }
matched_reads (span a b ∷ r ∷ rs) p q =
    let all = span a b ∷ r ∷ rs in
    record { count = length all; reads = ap (λ (u : List ℕ). elem leaf_head 8 0 (0x04 ∷ length all ∷ u)) (sym (append-nil (records all))) ∙ group_reads false 6 all [] (omega arith) p q }

pub unmatched_reads : (rs : List Span) → length rs ≤ 64 → Proper rs → ReadsAs (unmatched_form rs) (unmatched_elem rs)
unfolding unmatched_form
unmatched_reads [] p q = everything_reads
unmatched_reads (r ∷ rs) p q =
    record { count = length (r ∷ rs); reads = ap (λ (u : List ℕ). elem leaf_head 8 0 (0x05 ∷ length (r ∷ rs) ∷ u)) (sym (append-nil (records (r ∷ rs)))) ∙ group_reads true 6 (r ∷ rs) [] (omega arith) p q }
