-- The leaves of the float family at a place of the input: their faults, and their parts where they have none. Assumes nothing.
use mathlib.Core.Path.{◌≡◌, sym, ap, ◌∙◌}
use mathlib.Core.List.{List}
use Prim.Native.Nat.{ℕ, ◌+◌, ◌-◌, ◌≤◌, ◌<◌}
use native.Mathlib.Omega.{arith}
use borrow.Author.Tests.{lt-ltb, le-ltb, ne_eqb}
use lib.Ieee.{Float}
use lib.ListN.{length, get_or, drop, length-drop}
use lib.Seq.{drop-drop}
use Rattle.floats.specs.declared.Bounds.{Bounds}
use Rattle.floats.specs.declared.Leaf.{Leaf}
use Rattle.floats.specs.Bytes.{float_at}
use Rattle.floats.specs.Leaves.{one_fault, bounds_fault}
use Rattle.floats.proofs.FloatBytes.{float_at_drop}
use Rattle.grammar.specs.Record.{fault, leaf_here, fault_or}
use Rattle.grammar.specs.FloatLeaf.{bounds_at, one_head, float_range_head, float_head}
use Rattle.grammar.proofs.RecordParts.{kind_at}
use Rattle.elements.specs.Contract.{group_kind, HeadAt, a_leaf}
use Rattle.elements.proofs.Records.{fault_said, fault_is}

bounds_at_drop : (t : List ℕ) (at : ℕ) → bounds_at (drop at t) 1 ≡ record { lower = float_at t (at + 1); upper = float_at t (at + 9) }
bounds_at_drop t at = rw (float_at_drop t at 1, float_at_drop t at 9)

module _ (t : List ℕ) (at : ℕ) where
  module _ (k : get_or t at 0 ≡ 6) where
    is_one_lem : float_head (drop at t) ≡ one_head (drop at t)
    unfolding float_head
    is_one_lem = rw (kind_at t at, k)

    pub one_short : (r : ℕ) → r ≡ 16777215 + 3 → length t - at < 9 → HeadAt t at (float_head (drop at t)) r
    unfolding one_head
    one_short r said h =
        let q : one_head (drop at t) ≡ fault 3 = rw (lt-ltb (length (drop at t)) 9 (omega (arith, length-drop at t))) in
        fault_said t at _ 3 r said (is_one_lem ∙ q) (omega arith) (omega arith)

    module _ (h : 9 ≤ length t - at) (code : ℕ) (x : Float) (e : code ≡ one_fault x) (s : x ≡ float_at t (at + 1)) where
      one_is : float_head (drop at t) ≡ fault_or code (leaf_here (Leaf.Float x) (drop (at + 9) t))
      unfolding one_head
      one_is =
          let z : float_at (drop at t) 1 ≡ x = float_at_drop t at 1 ∙ sym s in
          let q : one_head (drop at t) ≡ fault_or code (leaf_here (Leaf.Float x) (drop (at + 9) t)) = rw (le-ltb (length (drop at t)) 9 (omega (arith, length-drop at t)), z, sym e, drop-drop 9 at t) in
          is_one_lem ∙ q

      pub one_fault_lem : (r : ℕ) → r ≡ 16777215 + code → (code ≡ 0 → ⊥) → code < 256 → HeadAt t at (float_head (drop at t)) r
      one_fault_lem r said z small = fault_said t at _ code r said (one_is ∙ fault_is code _ z) (omega (arith, z)) small

      pub one_right : code ≡ 0 → HeadAt t at (float_head (drop at t)) (at + 9)
      one_right z =
          let q : float_head (drop at t) ≡ leaf_here (Leaf.Float x) (drop (at + 9) t) = rw z at one_is in
          a_leaf _ q (ap group_kind k) (omega arith) (omega arith)

  module _ (k : get_or t at 0 ≡ 7) where
    is_float_range : float_head (drop at t) ≡ float_range_head (drop at t)
    unfolding float_head
    is_float_range = rw (kind_at t at, k)

    pub bounds_short : (r : ℕ) → r ≡ 16777215 + 3 → length t - at < 17 → HeadAt t at (float_head (drop at t)) r
    unfolding float_range_head
    bounds_short r said h =
        let q : float_range_head (drop at t) ≡ fault 3 = rw (lt-ltb (length (drop at t)) 17 (omega (arith, length-drop at t))) in
        fault_said t at _ 3 r said (is_float_range ∙ q) (omega arith) (omega arith)

    module _ (h : 17 ≤ length t - at) (code : ℕ) (b : Bounds) (e : code ≡ bounds_fault b) (s : b ≡ record { lower = float_at t (at + 1); upper = float_at t (at + 9) }) where
      bounds_is : float_head (drop at t) ≡ fault_or code (leaf_here (Leaf.Range b) (drop (at + 17) t))
      unfolding float_range_head
      bounds_is =
          let z : bounds_at (drop at t) 1 ≡ b = bounds_at_drop t at ∙ sym s in
          let q : float_range_head (drop at t) ≡ fault_or code (leaf_here (Leaf.Range b) (drop (at + 17) t)) = rw (le-ltb (length (drop at t)) 17 (omega (arith, length-drop at t)), z, sym e, drop-drop 17 at t) in
          is_float_range ∙ q

      pub bounds_fault_lem : (r : ℕ) → r ≡ 16777215 + code → (code ≡ 0 → ⊥) → code < 256 → HeadAt t at (float_head (drop at t)) r
      bounds_fault_lem r said z small = fault_said t at _ code r said (bounds_is ∙ fault_is code _ z) (omega (arith, z)) small

      pub bounds_right : code ≡ 0 → HeadAt t at (float_head (drop at t)) (at + 17)
      bounds_right z =
          let q : float_head (drop at t) ≡ leaf_here (Leaf.Range b) (drop (at + 17) t) = rw z at bounds_is in
          a_leaf _ q (ap group_kind k) (omega arith) (omega arith)

  pub any_float : get_or t at 0 ≡ 3 → at < length t → HeadAt t at (float_head (drop at t)) (at + 1)
  unfolding float_head
  any_float k h =
      let q : float_head (drop at t) ≡ leaf_here Leaf.Any (drop (at + 1) t) = rw (kind_at t at, k, drop-drop 1 at t) in
      a_leaf _ q (ap group_kind k) (omega arith) (omega arith)

  pub unknown_float : (r : ℕ) → r ≡ 16777215 + 4 → (get_or t at 0 ≡ 6 → ⊥) → (get_or t at 0 ≡ 7 → ⊥) → (get_or t at 0 ≡ 3 → ⊥) → HeadAt t at (float_head (drop at t)) r
  unfolding float_head
  unknown_float r said n6 n7 n3 =
      let q : float_head (drop at t) ≡ fault 4 = rw (kind_at t at, ne_eqb (get_or t at 0) 6 n6, ne_eqb (get_or t at 0) 7 n7, ne_eqb (get_or t at 0) 3 n3) in
      fault_said t at _ 4 r said q (omega arith) (omega arith)
