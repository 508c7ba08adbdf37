-- The refusals that follow the scan, by the plan: its own number, or 17 for a list with an element outside the type. Assumes nothing.
-- Passed fam t p xs <-> the plan p is of an accepted template, and no element of xs is outside its type
-- Stopped fam t p xs n <-> n is the number of the template's refusal, or 17 and an element is outside
use mathlib.Core.Path.{◌≡◌, refl, sym, ap, ap₂, ◌∙◌}
use mathlib.Core.Bool.{Bool, true, false, not, ◌&&◌, ◌||◌, cond, and-false, true≢false}
use mathlib.Core.List.{List, [], ◌∷◌}
use Prim.Native.Nat.{ℕ, ◌/◌, ◌%◌}
use native.Mathlib.Omega.{arith}
use lib.IntN.{ℤ}
use lib.Ieee.{Float}
use borrow.Author.Tests.{ne_eqb, eqb-true, eqb-false}
use lib.Dec.{eqb}
use Rattle.std.specs.List.{list_any}
use Rattle.facts.proofs.Cases.{by-test, and_left, and_right, not_so}
use Rattle.format.specs.declared.Family.{Family}
use Rattle.integers.specs.Integer.{Word, least, greatest, signed, eq_z}
use Rattle.integers.specs.Rank.{rank}
use Rattle.integers.proofs.Ranks.{low, low_eq_z, rank_inj}
use Rattle.grammar.specs.Leaf.{outside_type as outside_bounds}
use Rattle.grammar.specs.Family.{LeafOf, ElementOf, list_of, Lent, some_outside, outside_of}
use Rattle.grammar.specs.Template.{Body, Heads, Template, template}
use Rattle.grammar.specs.Read.{refuse, got}
use Rattle.grammar.specs.Whole.{read_template}
use Rattle.grammar.proofs.MemberLimit.{accepted_order}
use Rattle.sorts.specs.declared.Sort.{Sort}
use Rattle.sorts.specs.Sorts.{whole, word_of, lower_of, upper_of}
use Rattle.sorts.proofs.Words.{lower_said, upper_said}
use Rattle.plans.specs.declared.Plan.{Plan}
use Rattle.plans.specs.Plans.{Planned, PlanOf, refused_plan, a_plan}
use Rattle.matching.specs.Answer.{is_whole, element_outside}
use Rattle.matcher.specs.Contract.{outside_sort, refusal_by}

pub record Passed (fam : Family) (t : List ℕ) (p : Plan) (xs : List (ElementOf fam)) : Type 0 where
  pub zero : p.number ≡ 0
  pub inside : (h : Heads) (b : Body (LeafOf fam)) → read_template fam t ≡ got (template h b) [] → element_outside fam (template h b) xs ≡ false

pub data Stopped (fam : Family) (t : List ℕ) (p : Plan) (xs : List (ElementOf fam)) (n : ℕ) : Type 0 where
  own_refusal : read_template fam t ≡ refuse n → Stopped fam t p xs n
  outside_type : (h : Heads) (b : Body (LeafOf fam)) → read_template fam t ≡ got (template h b) [] → element_outside fam (template h b) xs ≡ true → n ≡ 17 → Stopped fam t p xs n

-- what the number says
refusal_own : (number : ℕ) (k : Sort) (xs : List ℤ) → (number ≡ 0 → ⊥) → refusal_by number k xs ≡ number
unfolding refusal_by
refusal_own number k xs n = rw (ne_eqb number 0 n)

refusal_type : (number : ℕ) (k : Sort) (xs : List ℤ) (outside : Bool) → number ≡ 0 → outside_sort k xs ≡ outside → refusal_by number k xs ≡ cond outside 17 0
unfolding refusal_by
refusal_type number k xs outside e o = rw (e, o)

-- by the test that the code makes first
pub refusal_plain : (number : ℕ) (k : Sort) (xs : List ℤ) → (not (eqb number 0) || eqb k.word whole.word) ≡ true → number ≡ refusal_by number k xs
unfolding refusal_by
refusal_plain number k xs e =
    by-test (eqb number 0)
    (λ z. let w : eqb k.word whole.word ≡ true = rw z at e in rw (z, w) (eqb-true number 0 z))
    (λ z. rw z)

pub refusal_typed : (number : ℕ) (k : Sort) (xs : List ℤ) (outside : Bool) → (not (eqb number 0) || eqb k.word whole.word) ≡ false → outside ≡ some_outside (lower_of k) (upper_of k) xs → cond outside 17 0 ≡ refusal_by number k xs
unfolding refusal_by
refusal_typed number k xs outside e o =
    by-test (eqb number 0)
    (λ z. let w : eqb k.word whole.word ≡ false = rw z at e in rw (z, w, o))
    (λ z. absurd (true≢false (rw z at e)))

-- ---- the sort says the type

same_least : (z : ℤ) → Word z → eq_z z least ≡ true → z ≡ least
same_least z p e = rank_inj z least (low z p) (omega arith) (eqb-true (rank z) (rank least) (sym (low_eq_z z least (low z p) (omega arith)) ∙ e))

same_greatest : (z : ℤ) → Word z → eq_z z greatest ≡ true → z ≡ greatest
same_greatest z p e = rank_inj z greatest (low z p) tt (eqb-true (rank z) (rank greatest) (sym (low_eq_z z greatest (low z p) tt) ∙ e))

-- the number of all the integers is that of no other type
whole_word : (lo hi : ℤ) → Word lo → Word hi → (k : Sort) → k.word ≡ word_of Family.Integers lo hi → is_whole lo hi ≡ eqb k.word whole.word
unfolding signed
whole_word lo hi p q k w =
    by-test (eqb k.word whole.word)
    (λ e.
    let f : k.word ≡ whole.word = eqb-true k.word whole.word e in
    let l : lo ≡ least = sym (lower_said lo hi p q k w) ∙ ap (λ (n : ℕ). signed (n / 4294967296)) f in
    let h : hi ≡ greatest = sym (upper_said lo hi p q k w) ∙ ap (λ (n : ℕ). signed (n % 4294967296)) f in
    ap₂ is_whole l h ∙ sym e)
    (λ e. not_so (is_whole lo hi) (λ o.
    let l : lo ≡ least = same_least lo p (and_left (eq_z lo least) (eq_z hi greatest) o) in
    let h : hi ≡ greatest = same_greatest hi q (and_right (eq_z lo least) (eq_z hi greatest) o) in
    let f : k.word ≡ whole.word = w ∙ ap₂ (λ (a b : ℤ). word_of Family.Integers a b) l h in
    eqb-false k.word whole.word e f) ∙ sym e)

-- a list of floats has no element outside
outside_said : (fam : Family) (lo hi : ℤ) (k : Sort) (xs : List ℤ) (ys : List Float) → Word lo → Word hi → k.word ≡ word_of fam lo hi → Lent fam xs ys → outside_sort k xs ≡ (not (is_whole lo hi) && outside_of fam lo hi (list_of fam xs ys))
unfolding some_outside
outside_said Family.Integers lo hi k xs ys p q w lent =
    ap₂ (λ (b o : Bool). not b && o) (sym (whole_word lo hi p q k w)) (ap₂ (λ (a b : ℤ). some_outside a b xs) (lower_said lo hi p q k w) (upper_said lo hi p q k w))
outside_said Family.Floats lo hi k xs ys p q w lent =
    ap (λ (zs : List ℤ). outside_sort k zs) lent ∙ and-false (not (eqb k.word whole.word)) ∙ sym (and-false (not (is_whole lo hi)))

module _ (fam : Family) (t : List ℕ) (p : Plan) (xs : List ℤ) (ys : List Float) (lent : Lent fam xs ys) where
  abbrev list : List (ElementOf fam)
  list = list_of fam xs ys

  -- of one template
  one : (a h : Heads) (b c : Body (LeafOf fam)) (r : Bool) → read_template fam t ≡ got (template a b) [] → read_template fam t ≡ got (template h c) [] → element_outside fam (template a b) list ≡ r → element_outside fam (template h c) list ≡ r
  one a h b c r q q' e = let same : template h c ≡ template a b = cc in ap (λ (s : Template (LeafOf fam)). element_outside fam s list) same ∙ e

  module _ (n : ℕ) (e : n ≡ refusal_by p.number p.sort xs) where
    said_so : (a : Heads) (b : Body (LeafOf fam)) → read_template fam t ≡ got (template a b) [] → p.number ≡ 0 → Planned fam t a b p → n ≡ cond (element_outside fam (template a b) list) 17 0
    unfolding element_outside
    said_so a b q z pl =
        let o = accepted_order fam t a b q in
        e ∙ refusal_type p.number p.sort xs _ z (outside_said fam a.lower a.upper p.sort xs ys o.0 o.1 pl.sort lent)

    pub passed_by : PlanOf fam t p → n ≡ 0 → Passed fam t p list
    passed_by (refused_plan number q l d) z =
        let own : p.number ≡ number = ap (λ (x : Plan). x.number) d in
        let m : n ≡ p.number = e ∙ refusal_own p.number p.sort xs (λ y. omega arith) in
        absurd (omega arith)
    passed_by (a_plan a b q y pl) z =
        record { zero = y; inside = λ h c q'. one a h b c false q q' (by-test (element_outside fam (template a b) list) (λ o. let m : n ≡ 17 = said_so a b q y pl ∙ ap (λ (r : Bool). cond r 17 0) o in absurd (omega arith)) (λ o. o)) }

    pub stopped_by : PlanOf fam t p → (n ≡ 0 → ⊥) → Stopped fam t p list n
    stopped_by (refused_plan number q l d) z =
        let own : p.number ≡ number = ap (λ (x : Plan). x.number) d in
        let m : n ≡ number = e ∙ refusal_own p.number p.sort xs (λ y. omega arith) ∙ own in
        own_refusal (q ∙ ap refuse (sym m))
    stopped_by (a_plan a b q y pl) z =
        by-test (element_outside fam (template a b) list)
        (λ o. outside_type a b q o (said_so a b q y pl ∙ ap (λ (r : Bool). cond r 17 0) o))
        (λ o. absurd (z (said_so a b q y pl ∙ ap (λ (r : Bool). cond r 17 0) o)))

-- a plan that says all the integers is of an accepted template, and refuses no list
pub passed_whole : (fam : Family) (t : List ℕ) (p : Plan) (xs : List ℤ) (ys : List Float) → Lent fam xs ys → PlanOf fam t p → p.sort.word ≡ whole.word → Passed fam t p (list_of fam xs ys)
passed_whole fam t p xs ys lent plan w =
    passed_by fam t p xs ys lent 0 (sym (refusal_type p.number p.sort xs false (zero_of plan) (rw w))) plan refl
  where
    zero_of : PlanOf fam t p → p.number ≡ 0
    zero_of (refused_plan number q l e) = let z : p.sort.word ≡ 0 = ap (λ (x : Plan). x.sort.word) e in absurd (omega arith)
    zero_of (a_plan a b q z pl) = z

-- ---- the elements, one after another

-- whether any element is outside
pub outside_any : (lo hi : ℤ) (xs : List ℤ) → list_any (outside_bounds lo hi) xs ≡ some_outside lo hi xs
unfolding some_outside
outside_any lo hi [] = refl
outside_any lo hi (x ∷ xs) = ap (λ (b : Bool). outside_bounds lo hi x || b) (outside_any lo hi xs)
