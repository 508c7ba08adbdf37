-- Items record by record: what each test of the code makes of the reading. Assumes nothing.
use mathlib.Core.Path.{◌≡◌, refl, sym, ap, ◌∙◌}
use mathlib.Core.Bool.{Bool, true, false, cond}
use mathlib.Core.List.{List}
use Prim.Native.Nat.{ℕ, ◌+◌, ◌-◌, ◌≤◌, ◌<◌}
use native.Mathlib.Omega.{arith}
use borrow.Author.Tests.{ltb-false, lt-ltb, le-ltb, ne_eqb}
use lib.Dec.{ltb}
use lib.ListN.{length, get_or, drop, length-drop}
use lib.Seq.{get_or-drop, drop-drop}
use Rattle.facts.proofs.Cases.{by-test}
use Rattle.grammar.specs.Template.{no_star, star, one, permutation}
use Rattle.format.specs.Bounds.{bad_bounds}
use Rattle.grammar.specs.Record.{Head, fault, leaf_here, group, kind_of, count_fault, bounds_fault, head}
use Rattle.grammar.specs.Read.{refuse, got, or_refuse, refuse_or, map_read}
use Rattle.grammar.specs.Reading.{uncounted, outermost}
use Rattle.grammar.specs.Whole.{as_spares, star_here, numbered, member, members, permutation_here, item}
use Rattle.elements.specs.Contract.{fault_in, HeadAt, faulty, a_leaf, a_group, Noted, noted}
use Rattle.elements.proofs.Scans.{elem_fault, head_stops}
use Rattle.items.specs.Notes.{StarNotes}
use Rattle.grammar.proofs.ReadApart.{refuse_is, refuse_not}

-- ---- min and max

module _ (t : List ℕ) (at : ℕ) where
  pub bounds_short : length t - at < 3 → 3 ≡ bounds_fault (drop at t)
  unfolding bounds_fault
  bounds_short h = rw (lt-ltb (length (drop at t)) 3 (omega (arith, length-drop at t)))

  module _ (room : 3 ≤ length t - at) where
    bounds_by : (b : Bool) → bad_bounds (get_or t (at + 1) 0) (get_or t (at + 2) 0) ≡ b → bounds_fault (drop at t) ≡ cond b 6 0
    unfolding bounds_fault
    bounds_by b e =
        let q : bounds_fault (drop at t) ≡ cond (bad_bounds (get_or t (at + 1) 0) (get_or t (at + 2) 0)) 6 0 =
        rw (le-ltb (length (drop at t)) 3 (omega (arith, length-drop at t)), get_or-drop at t 1 0, get_or-drop at t 2 0) in
        q ∙ ap (λ v. cond v 6 0) e

    pub bounds_bad : bad_bounds (get_or t (at + 1) 0) (get_or t (at + 2) 0) ≡ true → 6 ≡ bounds_fault (drop at t)
    bounds_bad e = sym (bounds_by true e)

    pub bounds_right : bad_bounds (get_or t (at + 1) 0) (get_or t (at + 2) 0) ≡ false → 0 ≡ bounds_fault (drop at t)
    bounds_right e = sym (bounds_by false e)

  pub bounds_inv : bounds_fault (drop at t) ≡ 0 → at + 3 ≤ length t
  unfolding bounds_fault
  bounds_inv e =
      by-test (ltb (length (drop at t)) 3)
      (λ s. let z : 3 ≡ 0 = rw s at e in absurd (omega arith))
      (λ s. let f : 3 ≤ length (drop at t) = ltb-false (length (drop at t)) 3 s in omega (arith, length-drop at t))

-- ---- a 20

module _ (t : List ℕ) (at : ℕ) (seen : Bool) (code : ℕ) (e : code ≡ bounds_fault (drop at t)) where
  pub star_fault : (code ≡ 0 → ⊥) → star_here seen (drop at t) ≡ refuse code
  unfolding star_here
  star_fault z = ap (λ r. refuse_or r (or_refuse seen 8 (got (star (get_or (drop at t) 1 0) (get_or (drop at t) 2 0)) (drop 3 (drop at t))))) (sym e) ∙ refuse_is code _ z

  star_sound : code ≡ 0 → star_here seen (drop at t) ≡ or_refuse seen 8 (got (star (get_or t (at + 1) 0) (get_or t (at + 2) 0)) (drop (at + 3) t))
  unfolding star_here
  star_sound z = refuse_not (bounds_fault (drop at t)) _ (sym e ∙ z) ∙ rw (get_or-drop at t 1 0, get_or-drop at t 2 0, drop-drop 3 at t)

  pub star_again : code ≡ 0 → seen ≡ true → star_here seen (drop at t) ≡ refuse 8
  star_again z s = star_sound z ∙ rw s

  pub star_right : code ≡ 0 → seen ≡ false → length t < 65536 → Noted (StarNotes t at (at + 3)) t (star_here seen (drop at t)) (fault_in (at + 3)) (at + 3)
  star_right z s short =
      let q : or_refuse seen 8 (got (star (get_or t (at + 1) 0) (get_or t (at + 2) 0)) (drop (at + 3) t)) ≡ got (star (get_or t (at + 1) 0) (get_or t (at + 2) 0)) (drop (at + 3) t) = rw s in
      let i = bounds_inv t at (sym e ∙ z) in
      noted (star (get_or t (at + 1) 0) (get_or t (at + 2) 0)) (star_sound z ∙ q) (omega arith) (record { what = refl; size = refl }) i

-- ---- a member

module _ {L : Type 0} (leaves : List ℕ → Head L) where
  pub member_low : (m : ℕ) (s : List ℕ) → m ≤ 31 → member leaves m s ≡ uncounted (outermost leaves s)
  unfolding member numbered uncounted
  member_low m s l = go (head leaves s) refl
    where
      go : (h : Head L) → head leaves s ≡ h → numbered m h (uncounted (outermost leaves s)) ≡ uncounted (outermost leaves s)
      go (fault r) e = sym (ap uncounted (elem_fault leaves 8 0 s r e))
      go (leaf_here v s') e = rw (le-ltb 31 m l)
      go (group c n s') e = rw (le-ltb 31 m l)

  module _ (t : List ℕ) (at m end : ℕ) (short : length t < 65536) where
    pub member_fault : HeadAt t at (head leaves (drop at t)) end → 16777215 < end → (member leaves m (drop at t) ≡ refuse (fault_in end)) × (fault_in end < 256)
    unfolding member numbered
    member_fault h b = let v = head_stops t at (head leaves (drop at t)) end short h b in (ap (λ v. numbered m v (uncounted (outermost leaves (drop at t)))) v.0, v.1)

    pub member_over : HeadAt t at (head leaves (drop at t)) end → end ≤ 16777215 → 31 < m → member leaves m (drop at t) ≡ refuse 8
    unfolding member numbered
    member_over (faulty q h s) b over = absurd (omega arith)
    member_over (a_leaf l q k a i) b over = ap (λ v. numbered m v (uncounted (outermost leaves (drop at t)))) q ∙ rw (lt-ltb 31 m over)
    member_over (a_group c q k e i) b over = ap (λ v. numbered m v (uncounted (outermost leaves (drop at t)))) q ∙ rw (lt-ltb 31 m over)

-- ---- an item of a record of

module _ {L : Type 0} (leaves : List ℕ → Head L) (t : List ℕ) (at m : ℕ) where
  module _ (code : ℕ) (e : code ≡ count_fault 1 32 (drop at t)) where
    pub permutation_fault : (code ≡ 0 → ⊥) → permutation_here leaves m (drop at t) ≡ refuse code
    unfolding permutation_here
    permutation_fault z = ap (λ r. refuse_or r (map_read permutation (members leaves true (get_or (drop at t) 1 0) m no_star (drop 2 (drop at t))))) (sym e) ∙ refuse_is code _ z

    pub permutation_opens : code ≡ 0 → permutation_here leaves m (drop at t) ≡ map_read permutation (members leaves true (get_or t (at + 1) 0) m no_star (drop (at + 2) t))
    unfolding permutation_here
    permutation_opens z = rw (sym e ∙ z, get_or-drop at t 1 0, drop-drop 2 at t)

  module _ (kind : ℕ) (e : kind ≡ kind_of (drop at t)) where
    pub item_spares : kind ≡ 32 → item leaves m (drop at t) ≡ map_read as_spares (star_here false (drop at t))
    unfolding item
    item_spares k = rw (sym e ∙ k)

    pub item_permutation : kind ≡ 33 → item leaves m (drop at t) ≡ permutation_here leaves m (drop at t)
    unfolding item
    item_permutation k = rw (sym e ∙ k)

    pub item_member : (kind ≡ 32 → ⊥) → (kind ≡ 33 → ⊥) → item leaves m (drop at t) ≡ map_read one (member leaves m (drop at t))
    unfolding item
    item_member n20 n21 = rw (ne_eqb (kind_of (drop at t)) 32 (λ k. n20 (e ∙ k)), ne_eqb (kind_of (drop at t)) 33 (λ k. n21 (e ∙ k)))
