-- The members of a set of, permutation, superset or subset, one item after another, and what is noted of them. Assumes nothing.
use mathlib.Core.Path.{◌≡◌, refl, sym, ap, ap₂, subst, ◌∙◌}
use mathlib.Core.Bool.{Bool, true, false, not, ◌&&◌, cond}
use mathlib.Core.Logic.{⊎_elim}
use mathlib.Core.List.{List, [], ◌∷◌}
use Prim.Native.Nat.{ℕ, zero, suc, ◌+◌, ◌-◌, ◌≤◌, ◌<◌}
use native.Mathlib.Omega.{arith}
use borrow.Author.Tests.{lt-ltb, eqb-true, eq-eqb, ne_eqb}
use lib.Dec.{ltb, eqb}
use lib.IntN.{ℤ}
use lib.ListN.{length, get_or, drop, take, set}
use Rattle.grammar.specs.Element.{Elem}
use Rattle.grammar.specs.Template.{Star, no_star, star, Group, grouped, members_of_group}
use Rattle.grammar.specs.Record.{Head, fault, leaf_here, group, kind_of, head}
use Rattle.format.specs.declared.Family.{Family}
use Rattle.grammar.specs.Family.{LeafOf, leaves_in}
use Rattle.sorts.specs.declared.Sort.{Sort}
use Rattle.sorts.specs.Sorts.{family_of, lower_of, upper_of, leaves_for}
use Rattle.grammar.proofs.TypedReading.{untyped_of}
use Rattle.grammar.specs.Leaf.{leaf_head, of_type}
use Rattle.grammar.specs.FloatLeaf.{float_head}
use Rattle.grammar.specs.Read.{Read, refuse, got, or_refuse}
use Rattle.grammar.specs.Reading.{counted, uncounted, outermost}
use Rattle.grammar.specs.Whole.{has_star, star_here, numbered, put_member, then_members, then_star, member, members}
use Rattle.grammar.specs.Blocks.{min_of, max_of, block_of_group}
use Rattle.blocks.specs.Numbers.{block, number_of}
use Rattle.elements.specs.Contract.{fault_in, Noted, stopped, noted, Ended}
use Rattle.elements.proofs.Scans.{noted_stopped, noted_read}
use Rattle.items.specs.Notes.{Placed, MemberNotes, StarNotes, star_of, group_block, Says, GroupNotes}
use Rattle.items.proofs.ItemRecords.{member_low}
use Rattle.items.proofs.MemberPlaces.{noted_as, noted_told, stopped_on, placed_none, placed_one, placed_then, placed_from}
use Rattle.facts.proofs.Cases.{below, by-test, and_right}
use Rattle.grammar.proofs.ReadApart.{clash}
use Rattle.grammar.proofs.MemberLimit.{members_limit}

-- ---- a member

-- the place of the member m is noted
pub member_noted : (fam : Family) (lo hi : ℤ) (t : List ℕ) (at m r : ℕ) (before : List ℕ) → at ≤ length t → m ≤ 31 → length before ≡ 32 → Ended t (outermost (leaves_in fam lo hi) (drop at t)) r
    → Noted (MemberNotes fam t m before (set before m at)) t (member (leaves_in fam lo hi) m (drop at t)) (fault_in r) r
unfolding uncounted
member_noted fam lo hi t at m r before f l size (stopped q p s) = stopped (member_low (leaves_in fam lo hi) m (drop at t) l ∙ ap uncounted q) p s
member_noted fam lo hi t at m r before f l size (noted (counted e j) q z v i) =
    noted e (member_low (leaves_in fam lo hi) m (drop at t) l ∙ ap uncounted q) z
    (placed_one fam t m before e at (omega arith) (record { inside = f; leaves = j; rest = drop r t; reads = untyped_of fam lo hi 8 0 (drop at t) (counted e j) (drop r t) q })) i

-- a member that was read is one of 32
member_few : (fam : Family) (lo hi : ℤ) (m : ℕ) (s : List ℕ) (e : Elem (LeafOf fam)) (rest : List ℕ) → member (leaves_in fam lo hi) m s ≡ got e rest → m ≤ 31
unfolding member numbered
member_few fam lo hi m s e rest q = ⊎_elim (λ (h : 31 < m). absurd (go (head (leaves_in fam lo hi) s) h q)) (λ (h : m ≤ 31). h) (below 31 m)
  where
    over : (o : Read (Elem (LeafOf fam))) → 31 < m → or_refuse (ltb 31 m) 8 o ≡ got e rest → ⊥
    over o l p = let z : or_refuse (ltb 31 m) 8 o ≡ refuse 8 = rw (lt-ltb 31 m l) in clash (sym z ∙ p)

    go : (h : Head (LeafOf fam)) → 31 < m → numbered m h (uncounted (outermost (leaves_in fam lo hi) s)) ≡ got e rest → ⊥
    go (fault r) l p = clash p
    go (leaf_here v s') l p = over _ l p
    go (group c n s') l p = over _ l p

-- a 20 is no leaf, and no member
star_no_leaf : (fam : Family) (lo hi : ℤ) (s : List ℕ) → kind_of s ≡ 0x20 → leaves_in fam lo hi s ≡ fault 4
unfolding leaf_head float_head of_type
star_no_leaf Family.Integers lo hi s k = rw k
star_no_leaf Family.Floats lo hi s k = rw k

pub star_no_member : (fam : Family) (lo hi : ℤ) (m : ℕ) (s : List ℕ) (e : Elem (LeafOf fam)) (rest : List ℕ) → kind_of s ≡ 0x20 → member (leaves_in fam lo hi) m s ≡ got e rest → ⊥
unfolding member numbered head
star_no_member fam lo hi m s e rest k q = by-test (eqb (length s) 0) (λ z. clash (sym (refused 3 (rw z)) ∙ q)) (λ z. clash (sym (refused 4 (rw (z, k) (star_no_leaf fam lo hi s k))) ∙ q))
  where
    refused : (r : ℕ) → head (leaves_in fam lo hi) s ≡ fault r → member (leaves_in fam lo hi) m s ≡ refuse r
    refused r z = rw z

-- what was read as a member is no 20
pub member_item : (fam : Family) (lo hi : ℤ) (t : List ℕ) (stars : Bool) (p m r : ℕ) {Tells : Elem (LeafOf fam) → Type 0} → Noted Tells t (member (leaves_in fam lo hi) m (drop p t)) (fault_in r) r → r ≤ 16777215 → (stars && eqb (kind_of (drop p t)) 0x20) ≡ false
member_item fam lo hi t stars p m r s l =
    let w = noted_read _ _ _ _ _ s (omega arith) in
    by-test (stars && eqb (kind_of (drop p t)) 0x20)
    (λ h. absurd (star_no_member fam lo hi m (drop p t) w.0 _ (eqb-true _ _ (and_right stars _ h)) w.1))
    (λ h. h)

-- what the call that reads a member says
pub record MemberRead (fam : Family) (lo hi : ℤ) (t : List ℕ) (p m : ℕ) (before : List ℕ) (r : ℕ) (after : List ℕ) : Type 0 where
  pub read : Noted (MemberNotes fam t m before after) t (member (leaves_in fam lo hi) m (drop p t)) (fault_in r) r
  pub size : length after ≡ 32
  pub stays : take m after ≡ take m before

-- of whichever family the call was for
pub member_read : (k k' : Sort) (t : List ℕ) (p m : ℕ) (before : List ℕ) (r : ℕ) (after : List ℕ) → k.word ≡ k'.word
    → Noted (MemberNotes (family_of k') t m before after) t (member (leaves_for k') m (drop p t)) (fault_in r) r × (length after ≡ 32) × (take m after ≡ take m before)
    → MemberRead (family_of k) (lower_of k) (upper_of k) t p m before r after
member_read k k' t p m before r after e w =
    let of : ℕ → Type 0 = λ n. let j : Sort = record { word = n } in MemberRead (family_of j) (lower_of j) (upper_of j) t p m before r after in
    subst of (sym e) (record { read = w.0; size = w.1; stays = w.2 })

-- ---- the 20 so far

-- the min and max of the 20 st stand at `at`, or `at` is 0 and there is none
pub data StarAt (t : List ℕ) (at : ℕ) (st : Star) : Type 0 where
  none_there_lem : at ≡ 0 → st ≡ no_star → StarAt t at st
  one_there : 0 < at → at + 2 ≤ length t → st ≡ star (get_or t at 0) (get_or t (at + 1) 0) → StarAt t at st

star_seen : (t : List ℕ) (at : ℕ) (st : Star) → StarAt t at st → has_star st ≡ not (eqb at 0)
star_seen t at st (none_there_lem z e) = ap has_star e ∙ sym (ap not (eq-eqb at 0 z))
star_seen t at st (one_there p l e) = ap has_star e ∙ sym (ap not (ne_eqb at 0 (λ z. omega arith)))

pub star_fits : (t : List ℕ) (at : ℕ) (st : Star) → StarAt t at st → (at ≡ 0 → ⊥) → at + 2 ≤ length t
star_fits t at st (none_there_lem z e) n = absurd (n z)
star_fits t at st (one_there p l e) n = l

pub star_block : (t : List ℕ) (m count at : ℕ) (st : Star) → StarAt t at st → group_block t m count at ≡ block m (count - m) (min_of st) (max_of st)
star_block t m count at st (none_there_lem z e) = rw (eq-eqb at 0 z, e)
star_block t m count at st (one_there p l e) = rw (ne_eqb at 0 (λ z. omega arith), e)

-- ---- one item after another

-- what was gathered: the members up to `count`, and the place of the 20
pub record Gathered (fam : Family) (t : List ℕ) (m : ℕ) (before : List ℕ) (count at : ℕ) (after : List ℕ) (g : Group (LeafOf fam)) : Type 0 where
  pub placed : Placed fam t m before (members_of_group g) count after
  pub starred : StarAt t at (star_of g)

-- one item more: a 20, where one is allowed, or a member
pub data Stepped (fam : Family) (lo hi : ℤ) (t : List ℕ) (stars : Bool) (p count at : ℕ) (before : List ℕ) (r count' at' : ℕ) (after : List ℕ) : Type 0 where
  step_star : (stars && eqb (kind_of (drop p t)) 0x20) ≡ true → Noted (StarNotes t p r) t (star_here (not (eqb at 0)) (drop p t)) (fault_in r) r → count' ≡ count → at' ≡ p + 1 → take count after ≡ take count before
      → Stepped fam lo hi t stars p count at before r count' at' after
  step_member : (stars && eqb (kind_of (drop p t)) 0x20) ≡ false → Noted (MemberNotes fam t count before after) t (member (leaves_in fam lo hi) count (drop p t)) (fault_in r) r → count' ≡ count + 1 → at' ≡ at
      → Stepped fam lo hi t stars p count at before r count' at' after

module _ (fam : Family) (lo hi : ℤ) (t : List ℕ) (stars : Bool) where
  -- what the items from here on give is what all of them give
  pub record Going (from n m : ℕ) (before : List ℕ) (p count at : ℕ) (places : List ℕ) (more : ℕ) : Type 0 where
    pub short : length t < 65536
    pub inside : p ≤ length t
    pub few : count ≤ 32
    pub size : length places ≡ 32
    pub st : Star
    pub starred : StarAt t at st
    pub goes : (r count' at' : ℕ) (after : List ℕ)
        → Noted (Gathered fam t count places count' at' after) t (members (leaves_in fam lo hi) stars more count st (drop p t)) (fault_in r) r
        → Noted (Gathered fam t m before count' at' after) t (members (leaves_in fam lo hi) stars n m no_star (drop from t)) (fault_in r) r

  pub go_start : (from n m : ℕ) (before : List ℕ) → length t < 65536 → from ≤ length t → m ≤ 32 → length before ≡ 32 → Going from n m before from m 0 before n
  go_start from n m before b i l z = record { short = b; inside = i; few = l; size = z; st = no_star; starred = none_there_lem refl refl; goes = λ r count' at' after s. s }

  put_member_lem : (e : Elem (LeafOf fam)) (o : Read (Group (LeafOf fam))) (code next k : ℕ) (before : List ℕ) (j : ℕ) (places : List ℕ) (count at : ℕ) (after : List ℕ)
      → Placed fam t k before (e ∷ []) j places → Noted (Gathered fam t j places count at after) t o code next → Noted (Gathered fam t k before count at after) t (put_member e o) code next
  unfolding put_member members_of_group
  put_member_lem e o code next k before j places count at after h (stopped q p s) = stopped (ap (put_member e) q) p s
  put_member_lem e o code next k before j places count at after h (noted (grouped es st) q z w i) =
      noted (grouped (e ∷ es) st) (ap (put_member e) q) z (record { placed = placed_then h w.placed; starred = w.starred }) i

  opens : (b : Bool) (n k : ℕ) (st : Star) (seen : Bool) (s : List ℕ) → (stars && eqb (kind_of s) 0x20) ≡ b → has_star st ≡ seen
      → members (leaves_in fam lo hi) stars (suc n) k st s ≡ cond b (then_star (star_here seen s) (members (leaves_in fam lo hi) stars n k)) (then_members (member (leaves_in fam lo hi) k s) (members (leaves_in fam lo hi) stars n (k + 1) st))
  unfolding members
  opens b n k st seen s e h =
      ap (λ (v : Bool). cond v (then_star (star_here (has_star st) s) (members (leaves_in fam lo hi) stars n k)) (then_members (member (leaves_in fam lo hi) k s) (members (leaves_in fam lo hi) stars n (k + 1) st))) e
      ∙ ap (λ (v : Bool). cond b (then_star (star_here v s) (members (leaves_in fam lo hi) stars n k)) (then_members (member (leaves_in fam lo hi) k s) (members (leaves_in fam lo hi) stars n (k + 1) st))) h

  module _ {from n m : ℕ} {before : List ℕ} {p count at : ℕ} {places : List ℕ} {more : ℕ} (g : Going from n m before p count at places more) (r count' at' : ℕ) (after : List ℕ) (some : 0 < more) where
    pub go_stop : {Tells : Group (LeafOf fam) → Type 0} → Stepped fam lo hi t stars p count at places r count' at' after → 16777215 < r
        → Noted Tells t (members (leaves_in fam lo hi) stars n m no_star (drop from t)) (fault_in r) r
    unfolding then_star then_members
    go_stop s b = stopped_on (g.goes r count' at' after (on more some s)) (omega arith)
      where
        on : (j : ℕ) → 0 < j → Stepped fam lo hi t stars p count at places r count' at' after
            → Noted (Gathered fam t count places count' at' after) t (members (leaves_in fam lo hi) stars j count g.st (drop p t)) (fault_in r) r
        on zero l s = absurd (omega arith)
        on (suc j) l (step_star e q c h v) =
            let w = noted_stopped _ _ _ _ _ q (omega arith) in
            stopped (opens true j count g.st _ (drop p t) e (star_seen t at g.st g.starred) ∙ ap (λ (o : Read Star). then_star o (members (leaves_in fam lo hi) stars j count)) w.0) (omega arith) w.1
        on (suc j) l (step_member e q c h) =
            let w = noted_stopped _ _ _ _ _ q (omega arith) in
            stopped (opens false j count g.st _ (drop p t) e (star_seen t at g.st g.starred) ∙ ap (λ (o : Read (Elem (LeafOf fam))). then_members o (members (leaves_in fam lo hi) stars j (count + 1) g.st)) w.0) (omega arith) w.1

    pub go_step : Stepped fam lo hi t stars p count at places r count' at' after → length after ≡ 32 → r ≤ 16777215 → Going from n m before r count' at' after (more - 1)
    unfolding then_star then_members
    go_step s size b = on more some s g.goes
      where
        on : (j : ℕ) → 0 < j → Stepped fam lo hi t stars p count at places r count' at' after
            → ((r count' at' : ℕ) (after : List ℕ)
            → Noted (Gathered fam t count places count' at' after) t (members (leaves_in fam lo hi) stars j count g.st (drop p t)) (fault_in r) r
            → Noted (Gathered fam t m before count' at' after) t (members (leaves_in fam lo hi) stars n m no_star (drop from t)) (fault_in r) r)
            → Going from n m before r count' at' after (j - 1)
        on zero l s goes = absurd (omega arith)
        on (suc j) l (step_star e q c h v) goes =
            let w = noted_read _ _ _ _ _ q (omega arith) in
            let down : suc j - 1 ≡ j = omega arith in
            let next : p + 2 ≡ at' + 1 = omega arith in
            let there : StarAt t at' w.0 = one_there (omega arith) (omega (arith, w.2.size, w.3)) (w.2.what ∙ ap₂ (λ (a b : ℕ). star (get_or t a 0) (get_or t b 0)) (sym h) next) in
            record {
              short = g.short;
              inside = w.3;
              few = omega (arith, g.few);
              size = size;
              st = w.0;
              starred = there;
              goes = λ r₁ count₁ at₁ after₁ k.
                  goes r₁ count₁ at₁ after₁
                  (noted_as (opens true j count g.st _ (drop p t) e (star_seen t at g.st g.starred) ∙ ap (λ (o : Read Star). then_star o (members (leaves_in fam lo hi) stars j count)) w.1)
                  (noted_told (λ x q h₁. record { placed = placed_from v h₁.placed; starred = h₁.starred }) (rw (c, down) at k)));
            }
        on (suc j) l (step_member e q c h) goes =
            let w = noted_read _ _ _ _ _ q (omega arith) in
            let down : suc j - 1 ≡ j = omega arith in
            record {
              short = g.short;
              inside = w.3;
              few = omega (arith, member_few fam lo hi count (drop p t) w.0 (drop r t) w.1);
              size = size;
              st = g.st;
              starred = rw h g.starred;
              goes = λ r₁ count₁ at₁ after₁ k.
                  goes r₁ count₁ at₁ after₁
                  (noted_as (opens false j count g.st _ (drop p t) e (star_seen t at g.st g.starred) ∙ ap (λ (o : Read (Elem (LeafOf fam))). then_members o (members (leaves_in fam lo hi) stars j (count + 1) g.st)) w.1)
                  (put_member_lem w.0 _ (fault_in r₁) r₁ count places (count + 1) after count₁ at₁ after₁ w.2
                  (rw (c, down) at k)));
            }

  pub go_end : {from n m : ℕ} {before : List ℕ} {p count at : ℕ} {places : List ℕ} {more : ℕ} → Going from n m before p count at places more → more ≡ 0
      → Noted (Gathered fam t m before count at places) t (members (leaves_in fam lo hi) stars n m no_star (drop from t)) (fault_in p) p
  unfolding members members_of_group
  go_end {p = p} {count = count} {at = at} {places = places} {more = more} g z = g.goes p count at places (on more z)
    where
      on : (j : ℕ) → j ≡ 0 → Noted (Gathered fam t count places count at places) t (members (leaves_in fam lo hi) stars j count g.st (drop p t)) (fault_in p) p
      on zero e = let b = g.short in let i = g.inside in noted (grouped [] g.st) refl (omega arith) (record { placed = placed_none fam t count places; starred = g.starred }) i
      on (suc j) e = absurd (omega arith)

-- how many members there are by then
pub gathered_counts : (fam : Family) (lo hi : ℤ) (t : List ℕ) (stars : Bool) (n m : ℕ) (s : List ℕ) (before : List ℕ) (count at : ℕ) (after : List ℕ) (code next : ℕ) → m ≤ 32 → code ≡ 0
    → Noted (Gathered fam t m before count at after) t (members (leaves_in fam lo hi) stars n m no_star s) code next → (m ≤ count) × (count ≤ 32) × ((at ≡ 0 → ⊥) → at + 2 ≤ length t)
gathered_counts fam lo hi t stars n m s before count at after code next few z o =
    let w = noted_read _ _ _ _ _ o z in
    let l = members_limit (leaves_in fam lo hi) stars n m no_star s w.0 (drop next t) few w.1 in
    (omega (arith, w.2.placed.counts), omega (arith, w.2.placed.counts), star_fits t at _ w.2.starred)

-- what was gathered is one block
pub gathered_block : (fam : Family) (t : List ℕ) (m : ℕ) (before : List ℕ) (count at number : ℕ) (after : List ℕ) (g : Group (LeafOf fam)) → Gathered fam t m before count at after g → Says number (group_block t m count at) → GroupNotes fam t m before number after g
unfolding members_of_group block_of_group
gathered_block fam t m before count at number after (grouped es st) h s =
    let c : count ≡ m + length es = sym h.placed.counts in
    let k : count - m ≡ length es = omega arith in
    let b : group_block t m count at ≡ block m (length es) (min_of st) (max_of st) = star_block t m count at st h.starred ∙ rw k in
    record { placed = rw (sym c) h.placed; says = (s.0 ∙ ap number_of b, s.1 ∙ b) }

-- where no 20 is allowed there is none
pub no_star_lem : (fam : Family) (lo hi : ℤ) (n k : ℕ) (st : Star) (s : List ℕ) (es : List (Elem (LeafOf fam))) (st' : Star) (rest : List ℕ) → members (leaves_in fam lo hi) false n k st s ≡ got (grouped es st') rest → st' ≡ st
unfolding members then_members put_member
no_star_lem fam lo hi zero k st s es st' rest q = cc
no_star_lem fam lo hi (suc n) k st s es st' rest q = on (λ s₁ es₁ st₁ s₂ f. no_star_lem fam lo hi n (k + 1) st s₁ es₁ st₁ s₂ f) (member (leaves_in fam lo hi) k s) q
  where
    put : ((s₁ : List ℕ) (es₁ : List (Elem (LeafOf fam))) (st₁ : Star) (s₂ : List ℕ) → members (leaves_in fam lo hi) false n (k + 1) st s₁ ≡ got (grouped es₁ st₁) s₂ → st₁ ≡ st)
        → (e : Elem (LeafOf fam)) (s₁ : List ℕ) (o : Read (Group (LeafOf fam))) → members (leaves_in fam lo hi) false n (k + 1) st s₁ ≡ o → put_member e o ≡ got (grouped es st') rest → st' ≡ st
    put ih e s₁ (refuse r) f g = absurd (clash g)
    put ih e s₁ (got (grouped es₁ st₁) s₂) f g = let v = ih s₁ es₁ st₁ s₂ f in cc

    on : ((s₁ : List ℕ) (es₁ : List (Elem (LeafOf fam))) (st₁ : Star) (s₂ : List ℕ) → members (leaves_in fam lo hi) false n (k + 1) st s₁ ≡ got (grouped es₁ st₁) s₂ → st₁ ≡ st)
        → (o : Read (Elem (LeafOf fam))) → then_members o (members (leaves_in fam lo hi) false n (k + 1) st) ≡ got (grouped es st') rest → st' ≡ st
    on ih (refuse r) g = absurd (clash g)
    on ih (got e s₁) g = put ih e s₁ (members (leaves_in fam lo hi) false n (k + 1) st s₁) refl g
