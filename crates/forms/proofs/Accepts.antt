-- What is known of an element template that was read: 32-bit integers, bounds in order, at least one leaf, at most 64; and with a type none outside it.
-- Assumes nothing.
use mathlib.Core.Path.{◌≡◌, refl, sym, ap, ◌∙◌}
use mathlib.Core.Bool.{true, false}
use mathlib.Core.List.{List, [], ◌∷◌}
use Prim.Native.Nat.{ℕ, zero, suc, ◌+◌, ◌-◌, ◌≤◌, ◌<◌}
use native.Mathlib.Omega.{arith}
use lib.Dec.{ltb}
use lib.IntN.{ℤ}
use lib.Signed.{lt_z, ◌≤ℤ◌}
use lib.ListN.{length, drop}
use borrow.Author.Tests.{ltb-false, le-ltb}
use Rattle.ranges.proofs.JoinsAndGaps.{of_rank}
use Rattle.format.specs.declared.Family.{Family}
use Rattle.grammar.specs.Element.{Elem, leaf, one_of, none_of, Elems, none, more, leaves, leaves_all}
use Rattle.grammar.specs.Leaf.{Leaf, single, range, any, leaf_head, typed_head}
use Rattle.grammar.specs.Read.{Read, refuse, got, ended}
use Rattle.grammar.specs.Reading.{Counted, counted, uncounted, many, elem, read_element}
use Rattle.grammar.specs.Record.{Head, leaf_here, head}
use Rattle.grammar.proofs.ReadApart.{Got, got_leaf, got_group, elem_inv, many_inv, many_none, LeafAt, single_at, range_at, any_at, leaf_at, group_at}
use Rattle.grammar.proofs.TypedReading.{Inside, untyped, typed}
use Rattle.integers.specs.Integer.{Word, int_at}
use Rattle.integers.specs.Rank.{rank}
use Rattle.facts.proofs.Cases.{by-test}
use Rattle.integers.proofs.FourBytes.{word_int_at}
use Rattle.integers.proofs.Ranks.{low, rank_lt_z}

abbrev pub GoodLeaf : Leaf → Type 0
GoodLeaf (single z) = Word z
GoodLeaf (range lower upper) = Word lower × Word upper × (lower ≤ℤ upper)
GoodLeaf any = Unit {0}

unfoldable mutual
  pub Good : Elem Leaf → Type 0
  Good (leaf l) = GoodLeaf l
  Good (one_of es) = GoodAll es
  Good (none_of es) = GoodAll es

  pub GoodAll : Elems Leaf → Type 0
  GoodAll none = Unit {0}
  GoodAll (more e es) = Good e × GoodAll es

pub ordered : (a b : ℤ) → Word a → Word b → lt_z b a ≡ false → a ≤ℤ b
ordered a b p q e = of_rank a b (low a p) (low b q) (ltb-false (rank b) (rank a) (sym (rank_lt_z b a q p) ∙ e))

pub record Facts (e : Elem Leaf) (k k' : ℕ) : Type 0 where
  pub good : Good e
  pub count : k' ≡ k + leaves e
  pub few : k' ≤ 64
  pub some : 0 < leaves e

pub record AllFacts (n : ℕ) (es : Elems Leaf) (k k' : ℕ) : Type 0 where
  pub good : GoodAll es
  pub count : k' ≡ k + leaves_all es
  pub few : 0 < n → k' ≤ 64
  pub some : 0 < n → 0 < leaves_all es

module _ (p : ℕ → List ℕ → Read (Counted (Elem Leaf)))
    (each : (k : ℕ) (s : List ℕ) (e : Elem Leaf) (k' : ℕ) (s' : List ℕ) → p k s ≡ got (counted e k') s' → Facts e k k') where
  many_facts : (n k : ℕ) (s : List ℕ) (es : Elems Leaf) (k' : ℕ) (s' : List ℕ) → many p n k s ≡ got (counted es k') s' → AllFacts n es k k'
  unfolding Good leaves
  many_facts zero k s es k' s' q =
      let l = many_none p zero k s es k' s' refl q in
      rw (l.0, l.1) (record { good = tt; count = omega arith; few = λ h. absurd (omega arith); some = λ h. absurd (omega arith) })
  many_facts (suc n) k s es k' s' q =
      let f = many_inv p (suc n) k s es k' s' (omega arith) q in
      let one = each k s f.e f.k₁ f.s₁ f.one in
      let down : n ≡ suc n - 1 = omega arith in
      let rest : many p n f.k₁ f.s₁ ≡ got (counted f.es₁ k') s' = ap (λ j. many p j f.k₁ f.s₁) down ∙ f.others in
      let others = many_facts n f.k₁ f.s₁ f.es₁ k' s' rest in
      let few : k' ≤ 64 = few_of n f.k₁ f.s₁ f.es₁ k' s' rest one.few others in
      rw f.both (record { good = (one.good, others.good); count = omega (arith, one.count, others.count); few = λ h. few; some = λ h. omega (arith, one.some) })
    where
      few_of : (n a : ℕ) (u : List ℕ) (es : Elems Leaf) (k' : ℕ) (s' : List ℕ) → many p n a u ≡ got (counted es k') s' → a ≤ 64 → AllFacts n es a k' → k' ≤ 64
      few_of zero a u es k' s' q h f = omega (arith, (many_none p zero a u es k' s' refl q).1)
      few_of (suc n) a u es k' s' q h f = f.few (omega arith)

pub leaf_good : (t : List ℕ) (at : ℕ) (l : Leaf) (rest : List ℕ) → head leaf_head (drop at t) ≡ leaf_here l rest → GoodLeaf l
leaf_good t at l rest q = go (leaf_at t at l rest q)
  where
    go : LeafAt t at l rest → GoodLeaf l
    go (single_at k n x r) = rw x (word_int_at t (at + 1))
    go (range_at k n o x r) =
        rw x (word_int_at t (at + 1), word_int_at t (at + 5), ordered (int_at t (at + 1)) (int_at t (at + 5)) (word_int_at t (at + 1)) (word_int_at t (at + 5)) o)
    go (any_at k n x r) = rw x tt

step : (left k : ℕ) (s : List ℕ) (e : Elem Leaf) (k' : ℕ) (s' : List ℕ)
    → (0 < left → (k : ℕ) (s : List ℕ) (e : Elem Leaf) (k' : ℕ) (s' : List ℕ) → elem leaf_head (left - 1) k s ≡ got (counted e k') s' → Facts e k k')
    → Got leaf_head left k s e k' s' → Facts e k k'
unfolding Good leaves
step left k s e k' s' each (got_leaf l d q x f c) = rw x (record { good = leaf_good s 0 l s' q; count = c; few = omega arith; some = omega arith })
step left k s e k' s' each (got_group false n i es d q m x) =
    let f = many_facts (elem leaf_head (left - 1)) (each d) n k i es k' s' m in
    let some : 0 < n = (group_at s 0 Family.Integers false n i q).some in
    rw x (record { good = f.good; count = f.count; few = f.few some; some = f.some some })
step left k s e k' s' each (got_group true n i es d q m x) =
    let f = many_facts (elem leaf_head (left - 1)) (each d) n k i es k' s' m in
    let some : 0 < n = (group_at s 0 Family.Integers true n i q).some in
    rw x (record { good = f.good; count = f.count; few = f.few some; some = f.some some })

pub elem_facts : (left k : ℕ) (s : List ℕ) (e : Elem Leaf) (k' : ℕ) (s' : List ℕ) → elem leaf_head left k s ≡ got (counted e k') s' → Facts e k k'
elem_facts zero k s e k' s' q = step zero k s e k' s' (λ h. absurd (omega arith)) (elem_inv leaf_head zero k s e k' s' q)
elem_facts (suc left) k s e k' s' q =
    let lower : left ≡ suc left - 1 = omega arith in
    step (suc left) k s e k' s' (λ h k s e k' s' q. elem_facts left k s e k' s' (ap (λ d. elem leaf_head d k s) lower ∙ q)) (elem_inv leaf_head (suc left) k s e k' s' q)

-- ---- the whole input

module _ (leaves : List ℕ → Head Leaf) (t : List ℕ) (e : Elem Leaf) where
  pub record IsRead : Type 0 where
    pub after : ℕ
    pub small : length t ≤ 4096
    pub reads : elem leaves 8 0 t ≡ got (counted e after) []

  pub read_inv : read_element leaves t ≡ got e [] → IsRead
  unfolding read_element ended uncounted
  read_inv q =
      by-test (ltb 4096 (length t))
      (λ b. let h : refuse 2 ≡ got e [] = rw b at q in let z : ◌≡◌ {A = ℕ} 0 1 = cc in absurd (omega arith))
      (λ b. go (elem leaves 8 0 t) refl (ltb-false 4096 (length t) b) (rw b at q))
    where
      go : (o : Read (Counted (Elem Leaf))) → elem leaves 8 0 t ≡ o → length t ≤ 4096 → ended (uncounted o) ≡ got e [] → IsRead
      go (refuse r) f l h = let z : ◌≡◌ {A = ℕ} 0 1 = cc in absurd (omega arith)
      go (got (counted e' k) []) f l h =
          let same : e' ≡ e = cc in
          record { after = k; small = l; reads = f ∙ ap (λ (v : Elem Leaf). got (counted v k) []) same }
      go (got (counted e' k) (x ∷ s)) f l h = let z : ◌≡◌ {A = ℕ} 0 1 = cc in absurd (omega arith)

  pub read_of : (k : ℕ) → length t ≤ 4096 → elem leaves 8 0 t ≡ got (counted e k) [] → read_element leaves t ≡ got e []
  unfolding read_element ended uncounted
  read_of k l q = rw (le-ltb 4096 (length t) l, q)

pub accepted_facts : (t : List ℕ) (e : Elem Leaf) → read_element leaf_head t ≡ got e [] → Good e × (0 < leaves e) × (leaves e ≤ 64)
accepted_facts t e q =
    let r = read_inv leaf_head t e q in
    let f = elem_facts 8 0 t e r.after [] r.reads in
    (f.good, f.some, omega (arith, f.count, f.few))

-- what is read with a type is read the same without, and lies inside; and back
module _ (lo hi : ℤ) (t : List ℕ) (e : Elem Leaf) where
  pub untyped_read : read_element (typed_head lo hi) t ≡ got e [] → (read_element leaf_head t ≡ got e []) × Inside lo hi e
  untyped_read q =
      let r = read_inv (typed_head lo hi) t e q in
      let u = untyped lo hi 8 0 t e r.after [] r.reads in
      (read_of leaf_head t e r.after r.small u.0, u.1)

  pub typed_read : read_element leaf_head t ≡ got e [] → Inside lo hi e → read_element (typed_head lo hi) t ≡ got e []
  typed_read q i =
      let r = read_inv leaf_head t e q in
      read_of (typed_head lo hi) t e r.after r.small (typed lo hi 8 0 t e r.after [] r.reads i)

  pub typed_facts : read_element (typed_head lo hi) t ≡ got e [] → Good e × (0 < leaves e) × (leaves e ≤ 64)
  typed_facts q = accepted_facts t e (untyped_read q).0
