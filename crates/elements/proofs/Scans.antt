-- A scan, step by step: what one record makes of an element template, and one element template of a row of them. Assumes nothing.
use mathlib.Core.Path.{◌≡◌, refl, sym, ap, ◌∙◌}
use mathlib.Core.Bool.{Bool, true, false}
use mathlib.Core.List.{List}
use mathlib.Core.Logic.{⊎_elim}
use Prim.Native.Nat.{ℕ, zero, suc, ◌+◌, ◌-◌, ◌/◌, ◌%◌, ◌≤◌, ◌<◌}
use native.Mathlib.Omega.{arith}
use borrow.Author.Tests.{lt-ltb, le-ltb}
use lib.ListN.{length, get_or, drop}
use Rattle.grammar.specs.Element.{Elem, leaf, one_of, none_of, Elems, none, more}
use Rattle.grammar.specs.Family.{LeafOf}
use Rattle.sorts.specs.declared.Sort.{Sort}
use Rattle.sorts.specs.Sorts.{family_of, leaves_for}
use Rattle.grammar.specs.Record.{Head, fault, leaf_here, group, head}
use Rattle.grammar.specs.Read.{Read, refuse, got}
use Rattle.grammar.specs.Reading.{Counted, counted, put_first, then_more, many, closed, too_deep, opened, elem, outermost}
use Rattle.elements.specs.Contract.{fault_in, place_in, count_in, From, group_kind, HeadAt, faulty, a_leaf, a_group, Noted, stopped, noted, Ended, leaves_to, ScannedOne, ScannedAll}
use Rattle.facts.proofs.Cases.{below, clash}
use Rattle.elements.proofs.Records.{head_none}

-- ---- what any scan says

module _ {A : Type 0} (Tells : A → Type 0) (t : List ℕ) (o : Read A) (code next : ℕ) where
  pub noted_stopped : Noted Tells t o code next → 0 < code → (o ≡ refuse code) × (code < 256)
  noted_stopped (stopped q p s) n = (q, s)
  noted_stopped (noted a q z e i) n = absurd (omega arith)

  pub noted_read : Noted Tells t o code next → code ≡ 0 → (a : A) × (o ≡ got a (drop next t)) × Tells a × (next ≤ length t)
  noted_read (stopped q p s) z = absurd (omega arith)
  noted_read (noted a q z' e i) z = (a, q, e, i)

  pub noted_small : Noted Tells t o code next → code < 256
  noted_small (stopped q p s) = s
  noted_small (noted a q z e i) = omega arith

-- ---- one element template, by its record

module _ {L : Type 0} (leaves : List ℕ → Head L) where
  pub elem_fault : (left k : ℕ) (s : List ℕ) (r : ℕ) → head leaves s ≡ fault r → elem leaves left k s ≡ refuse r
  unfolding elem too_deep opened
  elem_fault zero k s r e = ap too_deep e
  elem_fault (suc left) k s r e = ap (opened (elem leaves left) k) e

  pub elem_open : (left k : ℕ) (s : List ℕ) (h : Head L) → 0 < left → head leaves s ≡ h → elem leaves left k s ≡ opened (elem leaves (left - 1)) k h
  unfolding elem
  elem_open zero k s h l e = absurd (omega arith)
  elem_open (suc left) k s h l e =
      let down : left ≡ suc left - 1 = omega arith in
      ap (opened (elem leaves left) k) e ∙ ap (λ d. opened (elem leaves d) k h) down

  pub leaf_counts : (left k : ℕ) (s : List ℕ) (l : L) (s' : List ℕ) → 0 < left → k ≤ 63 → head leaves s ≡ leaf_here l s' → elem leaves left k s ≡ got (counted (leaf l) (k + 1)) s'
  unfolding opened
  leaf_counts left k s l s' p c q =
      let o : opened (elem leaves (left - 1)) k (leaf_here l s') ≡ got (counted (leaf l) (k + 1)) s' = rw (le-ltb 63 k c) in
      elem_open left k s (leaf_here l s') p q ∙ o

  leaf_over : (left k : ℕ) (s : List ℕ) (l : L) (s' : List ℕ) → 0 < left → 63 < k → head leaves s ≡ leaf_here l s' → elem leaves left k s ≡ refuse 8
  unfolding opened
  leaf_over left k s l s' p c q =
      let o : opened (elem leaves (left - 1)) k (leaf_here l s') ≡ refuse 8 = rw (lt-ltb 63 k c) in
      elem_open left k s (leaf_here l s') p q ∙ o

  pub group_opens : (left k : ℕ) (s : List ℕ) (c : Bool) (n : ℕ) (s' : List ℕ) → 0 < left → head leaves s ≡ group c n s' → elem leaves left k s ≡ closed c (many (elem leaves (left - 1)) n k s')
  unfolding opened
  group_opens left k s c n s' p q = elem_open left k s (group c n s') p q

  deep_refused : (left k : ℕ) (s : List ℕ) → left ≡ 0 → elem leaves left k s ≡ too_deep (head leaves s)
  unfolding elem
  deep_refused zero k s e = refl
  deep_refused (suc left) k s e = absurd (omega arith)

-- ---- what a record's end says

module _ {L : Type 0} (t : List ℕ) (at : ℕ) (h : Head L) (end : ℕ) (short : length t < 65536) where
  pub head_stops : HeadAt t at h end → 16777215 < end → (h ≡ fault (fault_in end)) × (fault_in end < 256)
  head_stops (faulty q p s) b = (q, s)
  head_stops (a_leaf l q k a i) b = absurd (omega arith)
  head_stops (a_group c q k e i) b = absurd (omega arith)

  pub head_fits : HeadAt t at h end → end ≤ 16777215 → (at ≤ end) × (end ≤ length t)
  head_fits (faulty q p s) b = absurd (omega arith)
  head_fits (a_leaf l q k a i) b = (a, i)
  head_fits (a_group c q k e i) b = (omega arith, i)

  pub group_fits : HeadAt t at h end → end ≤ 16777215 → group_kind (get_or t at 0) ≡ true → (end ≡ at + 2) × (end ≤ length t)
  group_fits (faulty q p s) b k = absurd (omega arith)
  group_fits (a_leaf l q g a i) b k = absurd (clash k g)
  group_fits (a_group c q g e i) b k = (e, i)

-- a record without a fault has a first byte
pub head_some : {L : Type 0} (leaves : List ℕ → Head L) (t : List ℕ) (at end : ℕ) → length t < 65536 → HeadAt t at (head leaves (drop at t)) end → end ≤ 16777215 → at < length t
head_some leaves t at end short h sound =
    ⊎_elim (λ (l : at < length t). l)
    (λ (l : length t ≤ at). absurd (none (head_none leaves t at l) h))
    (below at (length t))
  where
    none : head leaves (drop at t) ≡ fault 3 → HeadAt t at (head leaves (drop at t)) end → ⊥
    none e (faulty q p s) = omega arith
    none e (a_leaf l q k a i) = let c : ◌≡◌ {A = ℕ} 0 1 = cc in omega arith
    none e (a_group c q k g i) = let x : ◌≡◌ {A = ℕ} 0 1 = cc in omega arith

-- a list or complement says what its members say
closed_noted : {L : Type 0} (t : List ℕ) (c : Bool) (o : Read (Counted (Elems L))) (k code next : ℕ) → Noted (λ (a : Counted (Elems L)). leaves_to a ≡ k) t o code next → Noted (λ (a : Counted (Elem L)). leaves_to a ≡ k) t (closed c o) code next
unfolding closed leaves_to
closed_noted t c o k code next (stopped q p s) = stopped (ap (closed c) q) p s
closed_noted t false o k code next (noted (counted es j) q z e i) = noted (counted (one_of es) j) (ap (closed false) q) z e i
closed_noted t true o k code next (noted (counted es j) q z e i) = noted (counted (none_of es) j) (ap (closed true) q) z e i

-- ---- one element template after the place and the leaves `from`

module _ (sort : Sort) (t : List ℕ) (left from end : ℕ) (start : From t from) where
  pub one_fault_lem : HeadAt t (place_in from) (head (leaves_for sort) (drop (place_in from) t)) end → 16777215 < end → ScannedOne sort t left from end
  one_fault_lem h b =
      let v = head_stops t (place_in from) (head (leaves_for sort) (drop (place_in from) t)) end start.0.1 h b in
      stopped (elem_fault (leaves_for sort) left (count_in from) (drop (place_in from) t) (fault_in end) v.0) (omega arith) v.1

  module _ (sound : end ≤ 16777215) where
    pub one_deep : HeadAt t (place_in from) (head (leaves_for sort) (drop (place_in from) t)) end → (r : ℕ) → r ≡ 16777215 + 7 → left ≡ 0 → ScannedOne sort t left from r
    unfolding too_deep
    one_deep (faulty q p s) r e z = absurd (omega arith)
    one_deep (a_leaf l q k a i) r e z =
        let f : ◌≡◌ {A = ℕ} 7 (fault_in r) = omega arith in
        stopped (deep_refused (leaves_for sort) left (count_in from) (drop (place_in from) t) z ∙ ap too_deep q ∙ ap refuse f) (omega arith) (omega arith)
    one_deep (a_group c q k g i) r e z =
        let f : ◌≡◌ {A = ℕ} 7 (fault_in r) = omega arith in
        stopped (deep_refused (leaves_for sort) left (count_in from) (drop (place_in from) t) z ∙ ap too_deep q ∙ ap refuse f) (omega arith) (omega arith)

    module _ (level : 0 < left) where
      -- the members of a list or complement begin two bytes on
      pub one_group : HeadAt t (place_in from) (head (leaves_for sort) (drop (place_in from) t)) end → group_kind (get_or t (place_in from) 0) ≡ true → (r : ℕ)
          → ScannedAll sort t (left - 1) (get_or t (place_in from + 1) 0) (from + 2) r → ScannedOne sort t left from r
      one_group (faulty q p s) k r h = absurd (omega arith)
      one_group (a_leaf l q g a i) k r h = absurd (clash k g)
      one_group (a_group c q g e i) k r h =
          let place : (from + 2) % 65536 ≡ end = omega (arith, start.0.1) in
          let same : (from + 2) / 65536 ≡ from / 65536 = omega (arith, start.0.1) in
          let h₁ : Noted (λ (a : Counted (Elems (LeafOf (family_of sort)))). leaves_to a ≡ count_in r) t (many (elem (leaves_for sort) (left - 1)) (get_or t (place_in from + 1) 0) (from / 65536) (drop end t)) (fault_in r) (place_in r) = rw (place, same) at h in
          rw (group_opens (leaves_for sort) left (count_in from) (drop (place_in from) t) c (get_or t (place_in from + 1) 0) (drop end t) level q) (closed_noted t c _ (count_in r) (fault_in r) (place_in r) h₁)

      -- a 65th leaf, and any before it
      pub one_over : HeadAt t (place_in from) (head (leaves_for sort) (drop (place_in from) t)) end → group_kind (get_or t (place_in from) 0) ≡ false → (r : ℕ) → r ≡ 16777215 + 8 → 63 < count_in from → ScannedOne sort t left from r
      one_over (faulty q p s) k r e over = absurd (omega arith)
      one_over (a_group c q g x i) k r e over = absurd (clash g k)
      one_over (a_leaf l q g a i) k r e over =
          let f : ◌≡◌ {A = ℕ} 8 (fault_in r) = omega arith in
          stopped (leaf_over (leaves_for sort) left (count_in from) (drop (place_in from) t) l (drop end t) level over q ∙ ap refuse f) (omega arith) (omega arith)

      pub one_leaf : HeadAt t (place_in from) (head (leaves_for sort) (drop (place_in from) t)) end → group_kind (get_or t (place_in from) 0) ≡ false → (r : ℕ) → r ≡ from + 65536 + (end - place_in from) → count_in from ≤ 63 → ScannedOne sort t left from r
      unfolding leaves_to
      one_leaf (faulty q p s) k r e few = absurd (omega arith)
      one_leaf (a_group c q g x i) k r e few = absurd (clash g k)
      one_leaf (a_leaf l q g a i) k r e few =
          let place : r % 65536 ≡ end = omega (arith, start.0.1) in
          let count : from / 65536 + 1 ≡ r / 65536 = omega (arith, start.0.1) in
          let z : fault_in r ≡ 0 = omega (arith, start.0.1) in
          let o : elem (leaves_for sort) left (count_in from) (drop (place_in from) t) ≡ got (counted (leaf l) (from / 65536 + 1)) (drop (place_in r) t) =
          leaf_counts (leaves_for sort) left (count_in from) (drop (place_in from) t) l (drop end t) level few q ∙ ap (λ p. got (counted (leaf l) (from / 65536 + 1)) (drop p t)) (sym place) in
          noted (counted (leaf l) (from / 65536 + 1)) o z count (omega arith)

-- ---- several, one after the other

put_noted : {L : Type 0} (t : List ℕ) (e : Elem L) (o : Read (Counted (Elems L))) (k code next : ℕ) → Noted (λ (a : Counted (Elems L)). leaves_to a ≡ k) t o code next → Noted (λ (a : Counted (Elems L)). leaves_to a ≡ k) t (put_first e o) code next
unfolding put_first leaves_to
put_noted t e o k code next (stopped q h s) = stopped (ap (put_first e) q) h s
put_noted t e o k code next (noted (counted es j) q z v i) = noted (counted (more e es) j) (ap (put_first e) q) z v i

module _ (sort : Sort) (t : List ℕ) (left : ℕ) where
  -- what one makes of the place and leaves so far
  one_next : (from s : ℕ) → ScannedOne sort t left from s → s ≤ 16777215 → (e : Elem (LeafOf (family_of sort))) × (elem (leaves_for sort) left (count_in from) (drop (place_in from) t) ≡ got (counted e (count_in s)) (drop (place_in s) t)) × (place_in s ≤ length t)
  unfolding leaves_to
  one_next from s (stopped q p b) l = absurd (omega arith)
  one_next from s (noted (counted e j) q z v i) l = (e, q ∙ ap (λ k. got (counted e k) (drop (place_in s) t)) v, i)

  pub next_fits : (from s : ℕ) → ScannedOne sort t left from s → s ≤ 16777215 → place_in s ≤ length t
  next_fits from s h l = (one_next from s h l).2

  pub all_step : (n from s r : ℕ) → 0 < n → ScannedOne sort t left from s → s ≤ 16777215 → ScannedAll sort t left (n - 1) s r → ScannedAll sort t left n from r
  unfolding many then_more
  all_step zero from s r b h l g = absurd (omega arith)
  all_step (suc n) from s r b h l g =
      let v = one_next from s h l in
      let down : suc n - 1 ≡ n = omega arith in
      let g₁ : ScannedAll sort t left n s r = rw down at g in
      rw v.1 (put_noted t v.0 _ (count_in r) (fault_in r) (place_in r) g₁)

  pub all_stop : (n from s : ℕ) → 0 < n → ScannedOne sort t left from s → 16777215 < s → ScannedAll sort t left n from s
  unfolding many then_more
  all_stop zero from s b h l = absurd (omega arith)
  all_stop (suc n) from s b h l =
      let v = noted_stopped _ _ _ _ _ h (omega arith) in
      stopped (ap (λ o. then_more o (many (elem (leaves_for sort) left) n)) v.0) (omega arith) v.1

  pub all_end : (n from : ℕ) → n ≡ 0 → From t from → ScannedAll sort t left n from from
  unfolding many leaves_to
  all_end zero from e f = noted (counted none (count_in from)) refl (omega (arith, f.1)) refl f.0.0
  all_end (suc n) from e f = absurd (omega arith)

  -- the last one gives what all of them give
  pub all_last : (n from r : ℕ) → n ≡ 1 → From t from → ScannedOne sort t left from r → ScannedAll sort t left n from r
  all_last n from r one f h =
      ⊎_elim
      (λ (l : 16777215 < r). all_stop n from r (omega arith) h l)
      (λ (l : r ≤ 16777215). all_step n from r r (omega arith) h l (all_end (n - 1) r (omega arith) ((next_fits from r h l, f.0.1), l)))
      (below 16777215 r)

-- ---- an element template at depth 1, after its record

module _ (sort : Sort) (t : List ℕ) (at end : ℕ) (short : length t < 65536) where
  pub head_ended : HeadAt t at (head (leaves_for sort) (drop at t)) end → 16777215 < end → Ended t (outermost (leaves_for sort) (drop at t)) end
  head_ended h b =
      let v = head_stops t at (head (leaves_for sort) (drop at t)) end short h b in
      stopped (elem_fault (leaves_for sort) 8 0 (drop at t) (fault_in end) v.0) (omega arith) v.1

  module _ (sound : end ≤ 16777215) where
    pub leaf_ended : HeadAt t at (head (leaves_for sort) (drop at t)) end → group_kind (get_or t at 0) ≡ false → Ended t (outermost (leaves_for sort) (drop at t)) end
    leaf_ended (faulty q p s) k = absurd (omega arith)
    leaf_ended (a_group c q g x i) k = absurd (clash g k)
    leaf_ended (a_leaf l q g a i) k = noted _ (leaf_counts (leaves_for sort) 8 0 (drop at t) l (drop end t) (omega arith) (omega arith) q) (omega arith) tt i

    module _ (r : ℕ) (held : ScannedAll sort t 7 (get_or t (at + 1) 0) end r) where
      outer : HeadAt t at (head (leaves_for sort) (drop at t)) end → group_kind (get_or t at 0) ≡ true → Noted (λ (a : Counted (Elem (LeafOf (family_of sort)))). leaves_to a ≡ count_in r) t (outermost (leaves_for sort) (drop at t)) (fault_in r) (place_in r)
      outer (faulty q p s) k = absurd (omega arith)
      outer (a_leaf l q g a i) k = absurd (clash k g)
      outer (a_group c q g e i) k =
          let place : end % 65536 ≡ end = omega arith in
          let none_yet : end / 65536 ≡ 0 = omega arith in
          let h₁ : Noted (λ (a : Counted (Elems (LeafOf (family_of sort)))). leaves_to a ≡ count_in r) t (many (elem (leaves_for sort) 7) (get_or t (at + 1) 0) 0 (drop end t)) (fault_in r) (place_in r) = rw (place, none_yet) at held in
          rw (group_opens (leaves_for sort) 8 0 (drop at t) c (get_or t (at + 1) 0) (drop end t) (omega arith) q) (closed_noted t c _ (count_in r) (fault_in r) (place_in r) h₁)

      pub group_stopped : HeadAt t at (head (leaves_for sort) (drop at t)) end → group_kind (get_or t at 0) ≡ true → 16777215 < r → Ended t (outermost (leaves_for sort) (drop at t)) r
      group_stopped h k b = let v = noted_stopped _ _ _ _ _ (outer h k) (omega arith) in stopped v.0 (omega arith) v.1

      pub group_ended : HeadAt t at (head (leaves_for sort) (drop at t)) end → group_kind (get_or t at 0) ≡ true → r ≤ 16777215 → Ended t (outermost (leaves_for sort) (drop at t)) (r % 65536)
      group_ended h k b = let v = noted_read _ _ _ _ _ (outer h k) (omega arith) in noted v.0 v.1 (omega arith) tt v.3
