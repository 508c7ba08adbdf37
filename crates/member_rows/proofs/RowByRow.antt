-- One row changed at a time, the rows of a leaf's elements, and the members one by one. Assumes nothing.
use mathlib.Core.Path.{◌≡◌, refl, sym, ap, ◌∙◌}
use mathlib.Core.Bool.{Bool, true, false, ◌&&◌, ◌||◌, cond, or-false, or-true}
use lib.Dec.{eqb}
use borrow.Author.Tests.{eq-eqb, ne_eqb}
use mathlib.Core.Logic.{⊎_elim}
use mathlib.Core.List.{List, [], ◌∷◌, ◌++◌}
use Prim.Native.Nat.{ℕ, zero, suc, ◌+◌, ◌≤◌, ◌<◌}
use native.Mathlib.Omega.{arith}
use lib.ListN.{length, get_or, take, drop, set, replicate, length-set}
use lib.IntN.{ℤ, pos}
use lib.Ieee.{Float, nan}
use lib.Seq.{get_or-set_same, get_or-set_other, set-get_or, get_or-take}
use borrow.Author.Rules.{rules}
use Rattle.std.proofs.lemmas.List.{places}
use Rattle.facts.specs.Counting.{between}
use Rattle.facts.proofs.Cases.{below, same?, clash, not_so}
use Rattle.facts.proofs.Spans.{between_in, between_from, between_to, between_past}
use Rattle.grammar.specs.Element.{Elem}
use Rattle.format.specs.declared.Family.{Family}
use Rattle.floats.specs.Leaves.{float_matches}
use Rattle.floats.specs.declared.Leaf.{Leaf as FloatLeaf}
use Rattle.grammar.specs.Family.{LeafOf, ElementOf, no_element, matches_of, list_of}
use Rattle.grammar.specs.Blocks.{StandsAt, Standing}
use Rattle.grammar.proofs.Families.{lent_size}
use Rattle.element_match.specs.Contract.{ElementAt, Among, HitsAt, OneHit}
use Rattle.element_match.proofs.Walks.{any_one, leaf_one, float_one, integer_one}
use Rattle.leaves.specs.Leaves.{LeafHere, BoundsHere, FloatLeafHere, FloatHere}
use Rattle.leaves.proofs.ElementByKind.{here_fits, no_integer}
use Rattle.masks.specs.Masks.{bit, Plus, Flipped}
use Rattle.masks.proofs.Masks.{bit_none}
use Rattle.masks.proofs.OneByOne.{flipped_down}
use Rattle.rows.specs.Rows.{may}
use Rattle.rows.proofs.Rows.{row_may, zeros_may}
use Rattle.grammar.specs.Members.{member_hits}
use Rattle.member_rows.specs.Contract.{RowsOf}
use Rattle.member_rows.specs.Places.{MembersAt, Served, Widened, Marked, Added, MarkedWithin, MarkedBy, MembersMarked, Cleared}

-- ---- one row changed

pub marked_start : (before : List ℕ) (m : ℕ) (test : ℕ → Bool) → length before ≡ 32 → Marked before m test 0 before
marked_start before m test size = record { size = size; other = λ v e q. refl; self = λ e l. absurd (omega arith); beyond = λ e l. refl }

module _ (before : List ℕ) (m : ℕ) (test : ℕ → Bool) (n : ℕ) (rows : List ℕ) (g : Marked before m test n rows) where
  -- the test fails: the rows stay
  marked_miss : test n ≡ false → Marked before m test (n + 1) rows
  marked_miss f = record {
    size = g.size;
    other = g.other;
    self = λ e l. ⊎_elim
        (λ (j : e < n). g.self e j)
        (λ (j : n ≤ e). let z : e ≡ n = omega arith in g.beyond e j ∙ sym (ap (λ (b : Bool). may before m e || b) (ap test z ∙ f) ∙ or-false (may before m e)))
        (below e n);
    beyond = λ e l. g.beyond e (omega arith);
  }

  -- the same where the row is written as it was
  pub marked_kept : (row : ℕ) → test n ≡ false → row ≡ get_or rows n 0 → Marked before m test (n + 1) (set rows n row)
  marked_kept row f z = rw (z, set-get_or rows n 0) (marked_miss f)

  -- the test holds: the row has the member
  module _ (row : ℕ) (low : n < 32) (t : test n ≡ true) (p : Plus (bit (get_or rows n 0)) m (bit row)) where
    row_here : (v : ℕ) → may (set rows n row) v n ≡ bit row v
    unfolding may
    row_here v = ap (λ (r : ℕ). bit r v) (get_or-set_same rows n row 0 (omega (arith, g.size)))

    row_there : (v e : ℕ) → (e ≡ n → ⊥) → may (set rows n row) v e ≡ may rows v e
    unfolding may
    row_there v e z = ap (λ (r : ℕ). bit r v) (get_or-set_other rows n e row 0 z)

    pub marked_hit : Marked before m test (n + 1) (set rows n row)
    marked_hit = record {
      size = length-set rows n row ∙ g.size;
      other = λ v e q. ⊎_elim
          (λ (z : e ≡ n). rw z (row_here v ∙ p.other v q ∙ row_may rows v n ∙ g.other v n q))
          (λ (z : e ≡ n → ⊥). row_there v e z ∙ g.other v e q)
          (same? e n);
      self = λ e l. ⊎_elim
          (λ (z : e ≡ n). rw z (row_here m ∙ p.self ∙ sym (ap (λ (b : Bool). may before m n || b) t ∙ or-true (may before m n))))
          (λ (z : e ≡ n → ⊥). row_there m e z ∙ g.self e (omega arith))
          (same? e n);
      beyond = λ e l. row_there m e (λ z. omega arith) ∙ g.beyond e (omega arith);
    }

-- what was marked is added
pub marked_added : {before : List ℕ} {m : ℕ} {test : ℕ → Bool} {n : ℕ} {rows : List ℕ} → Marked before m test n rows → Added before m test n rows
marked_added g = record { size = g.size; other = g.other; self = g.self }

-- two tests that agree mark the same rows
pub marked_same : (before : List ℕ) (m : ℕ) (test test' : ℕ → Bool) (n : ℕ) (rows : List ℕ) → ((e : ℕ) → e < n → test e ≡ test' e) → Marked before m test n rows
    → Marked before m test' n rows
marked_same before m test test' n rows same g = record {
  size = g.size;
  other = g.other;
  self = λ e l. g.self e l ∙ ap (λ (b : Bool). may before m e || b) (same e l);
  beyond = g.beyond;
}

-- ---- the elements that pass a test, one by one

-- of the elements below n it is told whether each passes, and the member stands in the rows of those that do
pub record Passing (before : List ℕ) (m : ℕ) (Test : ℕ → Bool → Type 0) (n : ℕ) (rows : List ℕ) : Type 0 where
  pub passes : ℕ → Bool
  pub marked : Marked before m passes n rows
  pub told : (e : ℕ) → e < n → Test e (passes e)

pub passing_start : (before : List ℕ) (m : ℕ) (Test : ℕ → Bool → Type 0) → length before ≡ 32 → Passing before m Test 0 before
passing_start before m Test size = record { passes = λ e. false; marked = marked_start before m _ size; told = λ e l. absurd (omega arith) }

module _ (before : List ℕ) (m : ℕ) (Test : ℕ → Bool → Type 0) (n : ℕ) (rows : List ℕ) (g : Passing before m Test n rows) (hit : Bool) (here : Test n hit) where
  abbrev passes_next : ℕ → Bool
  passes_next e = cond (eqb e n) hit (g.passes e)

  next_here : passes_next n ≡ hit
  next_here = rw (eq-eqb n n refl)

  next_below : (e : ℕ) → e < n → passes_next e ≡ g.passes e
  next_below e l = rw (ne_eqb e n (λ z. omega arith))

  marked_next : Marked before m passes_next n rows
  marked_next = marked_same before m g.passes passes_next n rows (λ e l. sym (next_below e l)) g.marked

  told_next : (e : ℕ) → e < n + 1 → Test e (passes_next e)
  told_next e l = ⊎_elim
      (λ (i : e < n). rw (next_below e i) (g.told e i))
      (λ (i : n ≤ e). let z : e ≡ n = omega arith in rw (z, next_here) here)
      (below e n)

  pub passing_hit : (row : ℕ) → n < 32 → hit ≡ true → Plus (bit (get_or rows n 0)) m (bit row) → Passing before m Test (n + 1) (set rows n row)
  passing_hit row low b p = record { passes = passes_next; marked = marked_hit before m _ n rows marked_next row low (next_here ∙ b) p; told = told_next }

  pub passing_kept : (row : ℕ) → hit ≡ false → row ≡ get_or rows n 0 → Passing before m Test (n + 1) (set rows n row)
  passing_kept row b z = record { passes = passes_next; marked = marked_kept before m _ n rows marked_next row (next_here ∙ b) z; told = told_next }

-- ---- the elements of a mask, one by one

-- those of `left` are still to be marked
pub record Marking (before : List ℕ) (m elements : ℕ) (left : ℕ) (rows : List ℕ) : Type 0 where
  pub size : length rows ≡ 32
  pub other : (v e : ℕ) → (v ≡ m → ⊥) → may rows v e ≡ may before v e
  pub done : (e : ℕ) → bit left e ≡ false → may rows m e ≡ (may before m e || bit elements e)
  pub todo : (e : ℕ) → bit left e ≡ true → bit elements e ≡ true

pub marking_start : (before : List ℕ) (m elements : ℕ) → length before ≡ 32 → Marking before m elements elements before
marking_start before m elements size = record {
  size = size;
  other = λ v e q. refl;
  done = λ e q. sym (ap (λ (b : Bool). may before m e || b) q ∙ or-false (may before m e));
  todo = λ e q. q;
}

module _ (before : List ℕ) (m elements left : ℕ) (rows : List ℕ) (g : Marking before m elements left rows) (e next row : ℕ) (low : e < 32) (here : bit left e ≡ true) (f : Flipped (bit left) e (bit next))
    (p : Plus (bit (get_or rows e 0)) m (bit row)) where
  there : (v : ℕ) → may (set rows e row) v e ≡ bit row v
  unfolding may
  there v = ap (λ (r : ℕ). bit r v) (get_or-set_same rows e row 0 (omega (arith, g.size)))

  elsewhere : (v j : ℕ) → (j ≡ e → ⊥) → may (set rows e row) v j ≡ may rows v j
  unfolding may
  elsewhere v j z = ap (λ (r : ℕ). bit r v) (get_or-set_other rows e j row 0 z)

  pub marking_step : Marking before m elements next (set rows e row)
  marking_step = record {
    size = length-set rows e row ∙ g.size;
    other = λ v j q. ⊎_elim
        (λ (z : j ≡ e). rw z (there v ∙ p.other v q ∙ row_may rows v e ∙ g.other v e q))
        (λ (z : j ≡ e → ⊥). elsewhere v j z ∙ g.other v j q)
        (same? j e);
    done = λ j q. ⊎_elim
        (λ (z : j ≡ e). rw z (there m ∙ p.self ∙ sym (ap (λ (b : Bool). may before m e || b) (g.todo e here) ∙ or-true (may before m e))))
        (λ (z : j ≡ e → ⊥). elsewhere m j z ∙ g.done j (sym (f.other j z) ∙ q))
        (same? j e);
    todo = λ j q. g.todo j (flipped_down f here j q);
  }

pub marking_end : (before : List ℕ) (m elements left : ℕ) (rows : List ℕ) → left ≡ 0 → Marking before m elements left rows → Added before m (bit elements) 32 rows
marking_end before m elements left rows z g = record { size = g.size; other = g.other; self = λ e l. g.done e (ap (λ (n : ℕ). bit n e) z ∙ bit_none e) }

-- ---- the elements that an element template matches

-- all elements are asked about
pub all_among : {X : Type 0} (xs : List X) (n all : ℕ) → length xs ≡ n → ((j : ℕ) → bit all j ≡ between 0 n j) → Among all xs
all_among xs n all size span = record { inside = λ j q. omega (arith, between_to 0 n j (sym (span j) ∙ q)) }

-- a member is added where the test says whether it matches
pub added_by : (fam : Family) (before : List ℕ) (m : ℕ) (t : List ℕ) (at : ℕ) (xs : List (ElementOf fam)) (test : ℕ → Bool) (n : ℕ) (rows : List ℕ) → length xs ≤ n
    → ((e : ℕ) → e < length xs → OneHit fam t at (get_or xs e (no_element fam)) (test e)) → Added before m test n rows → MarkedBy fam before m t at xs (length xs) rows
added_by fam before m t at xs test n rows few hits g = record {
  size = g.size;
  other = g.other;
  self = λ who s e l. g.self e (omega arith) ∙ ap (λ (v : Bool). may before m e || v) ((hits e l).right who s.leaves s.rest s.reads);
}

module _ (before : List ℕ) (m : ℕ) (t : List ℕ) (at : ℕ) (xs : List ℤ) (ys : List Float) where
  -- a leaf of the integer family matches what lies between its bounds
  pub leaf_marked : (n : ℕ) (wide : List ℤ) (rows : List ℕ) (lower upper a b : ℤ) (next : ℕ) → Widened xs wide → MarkedWithin before m wide a b n rows → get_or t at 0 < 3 → LeafHere t at → BoundsHere t at lower upper next
      → a ≡ lower → b ≡ upper → (fam : Family) → length (list_of fam xs ys) ≤ n → MarkedBy fam before m t at (list_of fam xs ys) (length (list_of fam xs ys)) rows
  leaf_marked n wide rows lower upper a b next w g low there h p q fam few =
      added_by fam before m t at (list_of fam xs ys) _ n rows few
      (λ e l. integer_one t at xs ys e _ low (leaf_one t at (get_or xs e (pos 0)) lower upper next _ (rw (sym (w.same e)) (g.words e (omega arith))) there h (rw (p, q, w.same e) refl)) fam)
      (marked_added g.marked)

  -- any value
  pub any_marked : (n : ℕ) (rows : List ℕ) → get_or t at 0 ≡ 3 → Added before m (λ e. true) n rows → (fam : Family) → length (list_of fam xs ys) ≤ n → MarkedBy fam before m t at (list_of fam xs ys) (length (list_of fam xs ys)) rows
  any_marked n rows is g fam few = added_by fam before m t at (list_of fam xs ys) (λ e. true) n rows few (λ e l. any_one fam t at (get_or (list_of fam xs ys) e (no_element fam)) is) g

  -- a 06 or 07
  pub floats_marked : (l : FloatLeaf) (rows : List ℕ) → 5 < get_or t at 0 → FloatLeafHere t at → FloatHere t at l → Added before m (λ e. float_matches l (get_or ys e nan)) (length ys) rows
      → (fam : Family) → MarkedBy fam before m t at (list_of fam xs ys) (length (list_of fam xs ys)) rows
  floats_marked l rows high there is g Family.Floats = added_by Family.Floats before m t at ys _ (length ys) rows (omega arith) (λ e k. float_one t at (get_or ys e nan) l _ there is refl) g
  floats_marked l rows high there is g Family.Integers = record { size = g.size; other = g.other; self = λ who s. absurd (no_integer t at 8 0 who s.leaves s.rest s.reads high) }

  -- a list or a complement, by the mask of all elements
  pub hits_marked : (n all elements : ℕ) (rows : List ℕ) → n ≤ 32 → ((j : ℕ) → bit all j ≡ between 0 n j) → ((fam : Family) → HitsAt fam t at (list_of fam xs ys) all elements) → Added before m (bit elements) 32 rows
      → (fam : Family) → length (list_of fam xs ys) ≡ n → MarkedBy fam before m t at (list_of fam xs ys) (length (list_of fam xs ys)) rows
  hits_marked n all elements rows few span h g fam size =
      added_by fam before m t at (list_of fam xs ys) (bit elements) 32 rows (omega arith)
      (λ e l. record {
        right = λ who k rest r.
            ((h fam).right who k rest r).told e
            ∙ ap (λ (v : Bool). v && matches_of fam who (get_or (list_of fam xs ys) e (no_element fam))) (span e ∙ between_in 0 n e (omega arith) (omega arith));
      })
      g

-- where a 06 or 07 stands, the list is one of floats
pub floats_few : (fam : Family) (t : List ℕ) (at : ℕ) (xs : List ℤ) (ys : List Float) → ElementAt fam t at → 5 < get_or t at 0 → length (list_of fam xs ys) ≤ 32 → length ys ≤ 32
floats_few Family.Floats t at xs ys w high few = few
floats_few Family.Integers t at xs ys w high few = absurd (no_integer t at 8 0 w.what w.leaves w.rest w.reads high)

-- ---- the members at their places

-- the member with the number m, what it matches and where it stands
pub record Member (fam : Family) (t : List ℕ) (es : List (Elem (LeafOf fam))) (ps : List ℕ) (m : ℕ) : Type 0 where
  pub who : Elem (LeafOf fam)
  pub stands : StandsAt fam t (get_or ps m 0) who
  pub hits : (x : ElementOf fam) → member_hits (matches_of fam) es m x ≡ matches_of fam who x

pub member_stands : (fam : Family) (t : List ℕ) (es : List (Elem (LeafOf fam))) (ps : List ℕ) (m : ℕ) → m < length es → Standing fam t es ps → Member fam t es ps m
unfolding Standing member_hits
member_stands fam t [] ps m l s = absurd (omega arith)
member_stands fam t (e ∷ es) [] m l s = absurd s
member_stands fam t (e ∷ es) (p ∷ ps) zero l s = record { who = e; stands = s.0; hits = λ x. refl }
member_stands fam t (e ∷ es) (p ∷ ps) (suc m) l s =
    let r = member_stands fam t es ps m (omega arith) s.1 in
    record { who = r.who; stands = r.stands; hits = r.hits }

pub standing_length : (fam : Family) (t : List ℕ) (es : List (Elem (LeafOf fam))) (ps : List ℕ) → Standing fam t es ps → length es ≡ length ps
unfolding Standing
standing_length fam t [] [] s = refl
standing_length fam t [] (p ∷ ps) s = absurd s
standing_length fam t (e ∷ es) [] s = absurd s
standing_length fam t (e ∷ es) (p ∷ ps) s = ap suc (standing_length fam t es ps s.1)

-- ---- the rows

-- there are so many places
pub places_fit : (fam : Family) (t places : List ℕ) (members : ℕ) → MembersAt fam t places members → length (take members places) ≡ members
places_fit fam t places members w = sym (standing_length fam t w.who (take members places) w.stands) ∙ sym w.size

module _ (fam : Family) (t places : List ℕ) (members : ℕ) (fit : length (take members places) ≡ members) where
  -- whoever stands there, there are so many of them
  pub places_count : (es : List (Elem (LeafOf fam))) → Standing fam t es (take members places) → length es ≡ members
  places_count es s = standing_length fam t es (take members places) s ∙ fit

  -- the member with the number m stands at its place
  pub member_at : (es : List (Elem (LeafOf fam))) (m : ℕ) → Standing fam t es (take members places) → m < members → Member fam t es places m
  member_at es m s l =
      let r = member_stands fam t es (take members places) m (omega (arith, places_count es s)) s in
      record { who = r.who; stands = rw (sym (get_or-take members places m 0 l)) r.stands; hits = r.hits }

  -- the members first .. k - 1 are marked
  pub record MarkedTo (before : List ℕ) (first : ℕ) (xs : List (ElementOf fam)) (k : ℕ) (rows : List ℕ) : Type 0 where
    pub size : length rows ≡ 32
    pub other : (v e : ℕ) → between first k v ≡ false → may rows v e ≡ may before v e
    pub self : (es : List (Elem (LeafOf fam))) → Standing fam t es (take members places) → (m e : ℕ) → first ≤ m → m < k → e < length xs
        → may rows m e ≡ (may before m e || member_hits (matches_of fam) es m (get_or xs e (no_element fam)))

  pub marked_none : (before : List ℕ) (first : ℕ) (xs : List (ElementOf fam)) → length before ≡ 32 → MarkedTo before first xs first before
  marked_none before first xs size = record { size = size; other = λ v e q. refl; self = λ es s m e i j. absurd (omega arith) }

  module _ (before : List ℕ) (first : ℕ) (xs : List (ElementOf fam)) (k : ℕ) (rows : List ℕ) (r : MarkedTo before first xs k rows) where
    pub marked_more : (after : List ℕ) → first ≤ k → k < members → MarkedBy fam rows k t (get_or places k 0) xs (length xs) after → MarkedTo before first xs (k + 1) after
    marked_more after f l h = record {
      size = h.size;
      other = λ v e q. h.other v e (λ z. clash (between_in first (k + 1) v (omega arith) (omega arith)) q) ∙ r.other v e (not_so (between first k v) (λ b. clash (between_in first (k + 1) v (between_from first k v b) (let l = between_to first k v b in omega arith)) q));
      self = λ es s m e i j low.
          let who = member_at es k s l in
          ⊎_elim
          (λ (z : m ≡ k). rw z (h.self who.who who.stands e low ∙ ap (λ (b : Bool). b || matches_of fam who.who (get_or xs e (no_element fam))) (r.other k e (between_past first k k (omega arith))) ∙ ap (λ (b : Bool). may before k e || b) (sym (who.hits (get_or xs e (no_element fam))))))
          (λ (z : m ≡ k → ⊥). h.other m e z ∙ r.self es s m e i (omega arith) low)
          (same? m k);
    }

    pub marked_all : k ≡ members → MembersMarked fam before t places first members xs rows
    marked_all z = record { size = r.size; other = λ v e q. r.other v e (rw z q); self = λ es s m e i j. r.self es s m e i (omega arith) }

  -- whether the element template at a member's place matches says whether the member does
  pub told_hit : (es : List (Elem (LeafOf fam))) (s : Standing fam t es (take members places)) (x : ElementOf fam) (m : ℕ) (hit : Bool) → m < members
      → OneHit fam t (get_or places m 0) x hit → member_hits (matches_of fam) es m x ≡ hit
  told_hit es s x m hit l h =
      let who = member_at es m s l in
      let st = who.stands in
      who.hits x ∙ sym (h.right who.who st.leaves st.rest st.reads)

-- how long the list is that is lent, and that there are so many places
pub served_few : (t places : List ℕ) (members : ℕ) (xs : List ℤ) (ys : List Float) → Served t places members xs ys → length xs + length ys ≤ 32
served_few t places members xs ys s = omega (arith, lent_size s.family xs ys s.lent, s.few)

pub served_fit : (t places : List ℕ) (members : ℕ) (xs : List ℤ) (ys : List Float) → Served t places members xs ys → length (take members places) ≡ members
served_fit t places members xs ys s = places_fit s.family t places members s.placed

-- an element template stands at a member's place
module _ (fam : Family) (t places : List ℕ) (members : ℕ) (w : MembersAt fam t places members) where
  pub element_there : (m : ℕ) → m < members → ElementAt fam t (get_or places m 0)
  element_there m l =
      let r = member_at fam t places members (places_fit fam t places members w) w.who m w.stands l in
      let s = r.stands in
      record { inside = s.inside; what = r.who; leaves = s.leaves; rest = s.rest; reads = s.reads }

  pub member_inside : (m : ℕ) → m < members → get_or places m 0 < length t
  member_inside m l = let e = element_there m l in omega (arith, here_fits fam t (get_or places m 0) 8 0 e.what e.leaves e.rest e.reads)

-- marked from nothing, and nothing after the list: the rows
pub rows_end : (fam : Family) (t places : List ℕ) (members : ℕ) → length (take members places) ≡ members → (xs : List (ElementOf fam)) (n : ℕ) (rows after : List ℕ) → length xs ≡ n
    → MembersMarked fam (replicate 32 0) t places 0 members xs rows → Cleared n rows after → (es : List (Elem (LeafOf fam))) → Standing fam t es (take members places) → RowsOf fam es xs after
rows_end fam t places members fit xs n rows after all g c es s =
    let size = places_count fam t places members fit es s in
    record {
      size = c.size;
      right = λ m e i j. c.kept m e (omega arith) ∙ g.self es s m e (omega arith) (omega arith) j ∙ ap (λ (b : Bool). b || member_hits (matches_of fam) es m (get_or xs e (no_element fam))) (zeros_may m e);
      no_member = λ m e i. ⊎_elim
          (λ (j : e < n). c.kept m e j ∙ g.other m e (between_past 0 members m (omega arith)) ∙ zeros_may m e)
          (λ (j : n ≤ e). c.gone m e j)
          (below e n);
      no_element = λ m e i. c.gone m e (omega arith);
    }

-- ---- the rows after the list

-- the rows from n on were written over with 0
pub zeros_cleared : (n k : ℕ) (before zeros : List ℕ) → length before ≡ n + k → n + k ≡ 32 → zeros ≡ replicate k 0 → Cleared n before (take n before ++ (zeros ++ drop k (drop n before)))
unfolding may
zeros_cleared n k before zeros size all z = rw z (record {
  size = search (rules, places);
  kept = λ m j l. ap (λ (r : ℕ). bit r m) (search (rules, places));
  gone = λ m j l. ap (λ (r : ℕ). bit r m) (⊎_elim (λ (i : j < 32). search (rules, places)) (λ (i : 32 ≤ j). search (rules, places)) (below j 32)) ∙ bit_none m;
})
