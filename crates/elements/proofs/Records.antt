-- One record at a place of the input: its faults, and its parts where it has none. Assumes nothing.
use mathlib.Core.Path.{◌≡◌, refl, sym, ap, ◌∙◌}
use mathlib.Core.Bool.{Bool, true, false, cond, true≢false}
use mathlib.Core.Logic.{◌⊎◌, inl, inr, ⊎_elim}
use Rattle.facts.proofs.Cases.{by-test}
use mathlib.Core.List.{List}
use Prim.Native.Nat.{ℕ, zero, suc, ◌+◌, ◌-◌, ◌≤◌, ◌<◌}
use native.Mathlib.Omega.{arith}
use borrow.Author.Tests.{lt-ltb, le-ltb, eq-eqb, ne_eqb, eqb-true}
use lib.Dec.{ltb, eqb}
use lib.Signed.{lt_z}
use lib.ListN.{length, get_or, drop, length-drop}
use lib.Seq.{get_or-drop, drop-drop}
use Rattle.integers.specs.Integer.{int_at}
use Rattle.integers.proofs.FourBytes.{int_at_drop}
use Rattle.grammar.specs.Record.{Head, fault, leaf_here, group, count_fault, fault_or, group_head, head}
use Rattle.grammar.specs.Leaf.{Leaf, single, range, any, single_head, range_head, leaf_head}
use Rattle.elements.specs.Contract.{fault_in, group_kind, HeadAt, faulty, a_leaf, a_group}
use Rattle.grammar.proofs.RecordParts.{count_inv, kind_at}

-- ---- a fault, as an answer says it

pub fault_said : {L : Type 0} (t : List ℕ) (at : ℕ) (h : Head L) (code r : ℕ) → r ≡ 16777215 + code → h ≡ fault code → 0 < code → code < 256 → HeadAt t at h r
fault_said t at h code r e q low small =
    let f : code ≡ fault_in r = omega arith in
    faulty (q ∙ ap fault f) (omega arith) (omega arith)

-- ---- lists and complements

pub fault_is : {L : Type 0} (r : ℕ) (h : Head L) → (r ≡ 0 → ⊥) → fault_or r h ≡ fault r
fault_is zero h n = absurd (n refl)
fault_is (suc r) h n = refl

module _ {L : Type 0} (c : Bool) (t : List ℕ) (at code : ℕ) (e : code ≡ count_fault 1 64 (drop at t)) where
  pub group_fault : (r : ℕ) → r ≡ 16777215 + code → (code ≡ 0 → ⊥) → code < 256 → HeadAt {L = L} t at (group_head c (drop at t)) r
  unfolding group_head
  group_fault r said z small = fault_said t at _ code r said (ap (λ r. fault_or r (group c (get_or (drop at t) 1 0) (drop 2 (drop at t)))) (sym e) ∙ fault_is code _ z) (omega (arith, z)) small

  pub group_right : code ≡ 0 → group_kind (get_or t at 0) ≡ true → HeadAt {L = L} t at (group_head c (drop at t)) (at + 2)
  unfolding group_head
  group_right z k =
      let v = count_inv 1 64 t at (sym e ∙ z) in
      let q : group_head {L = L} c (drop at t) ≡ group c (get_or t (at + 1) 0) (drop (at + 2) t) = rw (sym e ∙ z, get_or-drop at t 1 0, drop-drop 2 at t) in
      a_group c q k refl v.fits

-- ---- the kind decides

module _ {L : Type 0} (leaves : List ℕ → Head L) (t : List ℕ) (at : ℕ) where
  pub head_none : length t ≤ at → head leaves (drop at t) ≡ fault 3
  unfolding head
  head_none h = rw (eq-eqb (length (drop at t)) 0 (omega (arith, length-drop at t)))

  module _ (some : at < length t) where
    pub head_list : get_or t at 0 ≡ 4 → head leaves (drop at t) ≡ group_head false (drop at t)
    unfolding head
    head_list k = rw (ne_eqb (length (drop at t)) 0 (λ z. omega (arith, length-drop at t)), kind_at t at, k)

    pub head_complement : get_or t at 0 ≡ 5 → head leaves (drop at t) ≡ group_head true (drop at t)
    unfolding head
    head_complement k = rw (ne_eqb (length (drop at t)) 0 (λ z. omega (arith, length-drop at t)), kind_at t at, k)

    pub head_leaf : (get_or t at 0 ≡ 4 → ⊥) → (get_or t at 0 ≡ 5 → ⊥) → head leaves (drop at t) ≡ leaves (drop at t)
    unfolding head
    head_leaf n4 n5 = rw (ne_eqb (length (drop at t)) 0 (λ z. omega (arith, length-drop at t)), kind_at t at, ne_eqb (get_or t at 0) 4 n4, ne_eqb (get_or t at 0) 5 n5)

-- a kind with members is one of two
pub group_kinds : (k : ℕ) → group_kind k ≡ true → (k ≡ 4) ⊎ (k ≡ 5)
group_kinds k h = by-test (eqb k 4) (λ e. inl (eqb-true k 4 e)) (λ e. inr (eqb-true k 5 (rw e at h)))

pub leaf_kinds : (k : ℕ) → group_kind k ≡ false → (k ≡ 4 → ⊥) × (k ≡ 5 → ⊥)
leaf_kinds k h = (λ e. true≢false (ap group_kind (sym e) ∙ h), λ e. true≢false (ap group_kind (sym e) ∙ h))

pub head_as : {L : Type 0} (t : List ℕ) (at : ℕ) (h g : Head L) (r : ℕ) → h ≡ g → HeadAt t at g r → HeadAt t at h r
head_as t at h g r e a = rw e a

-- a record with members, and one without, from what is said of it as such
module _ {L : Type 0} (leaves : List ℕ → Head L) (t : List ℕ) (at : ℕ) (some : at < length t) (r : ℕ) where
  pub group_head_lem : group_kind (get_or t at 0) ≡ true → ((c : Bool) → group_kind (get_or t at 0) ≡ true → HeadAt {L = L} t at (group_head c (drop at t)) r) → HeadAt t at (head leaves (drop at t)) r
  group_head_lem k h =
      ⊎_elim
      (λ q. head_as t at _ _ r (head_list leaves t at some q) (h false k))
      (λ q. head_as t at _ _ r (head_complement leaves t at some q) (h true k))
      (group_kinds (get_or t at 0) k)

  pub leaf_head_lem : group_kind (get_or t at 0) ≡ false → HeadAt t at (leaves (drop at t)) r → HeadAt t at (head leaves (drop at t)) r
  leaf_head_lem k h = let n = leaf_kinds (get_or t at 0) k in head_as t at _ _ r (head_leaf leaves t at some n.0 n.1) h

-- ---- leaves of the integer family

module _ (t : List ℕ) (at : ℕ) where
  -- a body that is not all there
  short : (size r : ℕ) (h : Head Leaf) → r ≡ 16777215 + 3 → leaf_head (drop at t) ≡ cond (ltb (length (drop at t)) size) (fault 3) h → length t - at < size → HeadAt t at (leaf_head (drop at t)) r
  short size r h said e l =
      let q : cond (ltb (length (drop at t)) size) (fault 3) h ≡ fault 3 = rw (lt-ltb (length (drop at t)) size (omega (arith, length-drop at t))) in
      fault_said t at _ 3 r said (e ∙ q) (omega arith) (omega arith)

  module _ (k : get_or t at 0 ≡ 1) where
    is_single : leaf_head (drop at t) ≡ single_head (drop at t)
    unfolding leaf_head
    is_single = rw (kind_at t at, k)

    pub single_short : (r : ℕ) → r ≡ 16777215 + 3 → length t - at < 5 → HeadAt t at (leaf_head (drop at t)) r
    unfolding single_head
    single_short r said = short 5 r _ said is_single

    pub single_right : 5 ≤ length t - at → HeadAt t at (leaf_head (drop at t)) (at + 5)
    unfolding single_head
    single_right h =
        let q : single_head (drop at t) ≡ leaf_here (single (int_at (drop at t) 1)) (drop (at + 5) t) = rw (le-ltb (length (drop at t)) 5 (omega (arith, length-drop at t)), drop-drop 5 at t) in
        a_leaf _ (is_single ∙ q) (ap group_kind k) (omega arith) (omega arith)

  module _ (k : get_or t at 0 ≡ 2) where
    is_range : leaf_head (drop at t) ≡ range_head (drop at t)
    unfolding leaf_head
    is_range = rw (kind_at t at, k)

    pub range_short : (r : ℕ) → r ≡ 16777215 + 3 → length t - at < 9 → HeadAt t at (leaf_head (drop at t)) r
    unfolding range_head
    range_short r said = short 9 r _ said is_range

    order_at : (b : Bool) → lt_z (int_at t (at + 5)) (int_at t (at + 1)) ≡ b → lt_z (int_at (drop at t) 5) (int_at (drop at t) 1) ≡ b
    order_at b e = rw (int_at_drop t at 5, int_at_drop t at 1) e

    pub range_reversed : (r : ℕ) → r ≡ 16777215 + 6 → 9 ≤ length t - at → lt_z (int_at t (at + 5)) (int_at t (at + 1)) ≡ true → HeadAt t at (leaf_head (drop at t)) r
    unfolding range_head
    range_reversed r said h e =
        let q : range_head (drop at t) ≡ fault 6 = rw (le-ltb (length (drop at t)) 9 (omega (arith, length-drop at t)), order_at true e) in
        fault_said t at _ 6 r said (is_range ∙ q) (omega arith) (omega arith)

    pub range_right : 9 ≤ length t - at → lt_z (int_at t (at + 5)) (int_at t (at + 1)) ≡ false → HeadAt t at (leaf_head (drop at t)) (at + 9)
    unfolding range_head
    range_right h e =
        let q : range_head (drop at t) ≡ leaf_here (range (int_at (drop at t) 1) (int_at (drop at t) 5)) (drop (at + 9) t) =
        rw (le-ltb (length (drop at t)) 9 (omega (arith, length-drop at t)), order_at false e, drop-drop 9 at t) in
        a_leaf _ (is_range ∙ q) (ap group_kind k) (omega arith) (omega arith)

  pub any_right : get_or t at 0 ≡ 3 → at < length t → HeadAt t at (leaf_head (drop at t)) (at + 1)
  unfolding leaf_head
  any_right k h =
      let q : leaf_head (drop at t) ≡ leaf_here any (drop (at + 1) t) = rw (kind_at t at, k, drop-drop 1 at t) in
      a_leaf _ q (ap group_kind k) (omega arith) (omega arith)

  pub unknown_kind : (r : ℕ) → r ≡ 16777215 + 4 → (get_or t at 0 ≡ 1 → ⊥) → (get_or t at 0 ≡ 2 → ⊥) → (get_or t at 0 ≡ 3 → ⊥) → HeadAt t at (leaf_head (drop at t)) r
  unfolding leaf_head
  unknown_kind r said n1 n2 n3 =
      let q : leaf_head (drop at t) ≡ fault 4 = rw (kind_at t at, ne_eqb (get_or t at 0) 1 n1, ne_eqb (get_or t at 0) 2 n2, ne_eqb (get_or t at 0) 3 n3) in
      fault_said t at _ 4 r said q (omega arith) (omega arith)
