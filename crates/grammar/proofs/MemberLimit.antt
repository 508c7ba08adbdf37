-- What was accepted keeps the limits: a template that was read has at most 4,096 bytes and at most 32 members, and a type in order. Assumes nothing.
use mathlib.Core.Path.{◌≡◌, refl, subst}
use mathlib.Core.Bool.{Bool, true, false, ◌&&◌, cond}
use mathlib.Core.List.{List, [], ◌∷◌}
use Prim.Native.Nat.{ℕ, zero, suc, ◌+◌, ◌≤◌}
use native.Mathlib.Omega.{arith}
use borrow.Author.Tests.{ltb-false}
use lib.Dec.{ltb, eqb}
use lib.ListN.{length, get_or, drop, length-append}
use lib.Signed.{lt_z}
use Rattle.facts.proofs.Cases.{by-test}
use Rattle.integers.specs.Integer.{int_at}
use Rattle.integers.proofs.FourBytes.{word_int_at}
use Rattle.grammar.specs.Element.{Elem}
use Rattle.grammar.specs.Template.{Star, no_star, star, Group, grouped, Item, one, permutation, Body, record_of, set_of, superset, subset, Heads, no_heads, InOrder, Template, template, members_of_group, members_of_item, members_of_items, members_of}
use Rattle.format.specs.declared.Family.{Family}
use Rattle.grammar.specs.Family.{LeafOf, has_types, leaves_in}
use Rattle.grammar.specs.Record.{Head, fault, leaf_here, group, kind_of, outside, count_fault, bounds_fault, sheet_fault, type_fault, head}
use Rattle.grammar.specs.Read.{Read, refuse, got, or_refuse, refuse_or, ended, map_read, and_then}
use Rattle.grammar.specs.Reading.{uncounted, outermost}
use Rattle.grammar.specs.Whole.{as_spares, star_here, fewest, clashes, numbered, put_member, then_members, then_star, put_item, then_items, member, members, permutation_here, item, items, contents, body_here, sheet_here, length_here, type_here, rest_here, heads_here, template_here, read_template}
use Rattle.grammar.proofs.ReadApart.{clash}

-- P holds of whatever was read
abbrev Holds : {A : Type 0} → (A → Type 0) → Read A → Type 0
Holds P (refuse r) = Unit {0}
Holds P (got a s) = P a

either : {A : Type 0} (P : A → Type 0) (b : Bool) (o u : Read A) → Holds P o → Holds P u → Holds P (cond b o u)
either P true o u p q = p
either P false o u p q = q

unless : {A : Type 0} (P : A → Type 0) (r : ℕ) (o : Read A) → Holds P o → Holds P (refuse_or r o)
unless P zero o p = p
unless P (suc r) o p = tt

mapped : {A B : Type 0} (P : A → Type 0) (Q : B → Type 0) (f : A → B) → ((a : A) → P a → Q (f a)) → (o : Read A) → Holds P o → Holds Q (map_read f o)
unfolding map_read
mapped P Q f h (refuse r) p = tt
mapped P Q f h (got a s) p = h a p

FewBody : {L : Type 0} → Body L → Type 0
FewBody b = length (members_of b) ≤ 32

abbrev body_of : {L : Type 0} → Template L → Body L
body_of (template h b) = b

FewTemplate : {L : Type 0} → Template L → Type 0
FewTemplate t = FewBody (body_of t)

module _ {L : Type 0} (leaves : List ℕ → Head L) where
  -- a member is one more only below 32
  member_low : (m : ℕ) (s : List ℕ) → Holds (λ e. m ≤ 31) (member leaves m s)
  unfolding member numbered
  member_low m s = go (head leaves s)
    where
      low : (b : Bool) (o : Read (Elem L)) → ltb 31 m ≡ b → Holds (λ e. m ≤ 31) (or_refuse b 8 o)
      low true o e = tt
      low false (refuse r) e = tt
      low false (got a t) e = ltb-false 31 m e

      go : (h : Head L) → Holds (λ e. m ≤ 31) (numbered m h (uncounted (outermost leaves s)))
      go (fault r) = tt
      go (leaf_here l t) = low (ltb 31 m) (uncounted (outermost leaves s)) refl
      go (group c n t) = low (ltb 31 m) (uncounted (outermost leaves s)) refl

  Few : ℕ → Group L → Type 0
  Few m g = m + length (members_of_group g) ≤ 32

  put_few : (m : ℕ) (e : Elem L) (o : Read (Group L)) → Holds (Few (m + 1)) o → Holds (Few m) (put_member e o)
  unfolding put_member members_of_group Few
  put_few m e (refuse r) h = tt
  put_few m e (got (grouped es st) s) h = omega arith

  group_few : (stars : Bool) (n m : ℕ) (st : Star) (s : List ℕ) → m ≤ 32 → Holds (Few m) (members leaves stars n m st s)
  unfolding members then_star then_members members_of_group Few
  group_few stars zero m st s l = omega arith
  group_few stars (suc n) m st s l =
      either (Few m) (stars && eqb (kind_of s) 32) _ _ (by_star (star_here _ s) (λ st' s'. group_few stars n m st' s' l)) (by_member (member leaves m s) (member_low m s) (λ s' k. group_few stars n (m + 1) st s' (omega arith)))
    where
      by_star : (o : Read Star) → ((st' : Star) (s' : List ℕ) → Holds (Few m) (members leaves stars n m st' s')) → Holds (Few m) (then_star o (members leaves stars n m))
      by_star (refuse r) h = tt
      by_star (got st' s') h = h st' s'

      by_member : (o : Read (Elem L)) → Holds (λ e. m ≤ 31) o → ((s' : List ℕ) → m ≤ 31 → Holds (Few (m + 1)) (members leaves stars n (m + 1) st s')) → Holds (Few m) (then_members o (members leaves stars n (m + 1) st))
      by_member (refuse r) k h = tt
      by_member (got e s') k h = put_few m e (members leaves stars n (m + 1) st s') (h s' k)

  pub members_limit : (stars : Bool) (n m : ℕ) (st : Star) (s : List ℕ) (g : Group L) (s' : List ℕ) → m ≤ 32 → members leaves stars n m st s ≡ got g s' → m + length (members_of_group g) ≤ 32
  unfolding Few
  members_limit stars n m st s g s' l q = subst (Holds (Few m)) q (group_few stars n m st s l)

  FewItem : ℕ → Item L → Type 0
  FewItem m i = m + length (members_of_item i) ≤ 32

  item_few : (m : ℕ) (s : List ℕ) → m ≤ 32 → Holds (FewItem m) (item leaves m s)
  unfolding item permutation_here members_of_item Few FewItem
  item_few m s l =
      either (FewItem m) (eqb (kind_of s) 32) _ _ (mapped (λ (st : Star). Unit {0}) (FewItem m) as_spares (λ st h. none st) (star_here false s) (any (star_here false s)))
      (either (FewItem m) (eqb (kind_of s) 33) _ _ (unless (FewItem m) (count_fault 1 32 s) _ (mapped (Few m) (FewItem m) permutation (λ g h. h) _ (group_few true (get_or s 1 0) m no_star (drop 2 s) l)))
      (mapped (λ (e : Elem L). m ≤ 31) (FewItem m) one (λ e h. omega arith) (member leaves m s) (member_low m s)))
    where
      none : (st : Star) → FewItem m (as_spares st)
      none no_star = omega arith
      none (star min max) = omega arith

      any : (o : Read Star) → Holds (λ (st : Star). Unit {0}) o
      any (refuse r) = tt
      any (got st t) = tt

  pub item_limit : (m : ℕ) (s : List ℕ) (i : Item L) (s' : List ℕ) → m ≤ 32 → item leaves m s ≡ got i s' → m + length (members_of_item i) ≤ 32
  unfolding FewItem
  item_limit m s i s' l q = subst (Holds (FewItem m)) q (item_few m s l)

  FewItems : ℕ → List (Item L) → Type 0
  FewItems m is = m + length (members_of_items is) ≤ 32

  items_few : (n m : ℕ) (s : List ℕ) → m ≤ 32 → Holds (FewItems m) (items leaves n m s)
  unfolding items then_items put_item members_of_items FewItem FewItems
  items_few zero m s l = omega arith
  items_few (suc n) m s l = by_item (item leaves m s) (item_few m s l) (λ k s' h. items_few n k s' h)
    where
      put : (i : Item L) (o : Read (List (Item L))) → Holds (FewItems (m + length (members_of_item i))) o → Holds (FewItems m) (put_item i o)
      put i (refuse r) h = tt
      put i (got is t) h = omega (arith, length-append (members_of_item i) (members_of_items is))

      by_item : (o : Read (Item L)) → Holds (FewItem m) o → ((k : ℕ) (s' : List ℕ) → k ≤ 32 → Holds (FewItems k) (items leaves n k s')) → Holds (FewItems m) (then_items m o (items leaves n))
      by_item (refuse r) k h = tt
      by_item (got i s') k h = put i (items leaves n (m + length (members_of_item i)) s') (h (m + length (members_of_item i)) s' k)

  contents_few : (kind n : ℕ) (s : List ℕ) → Holds FewBody (contents leaves kind n s)
  unfolding contents members_of Few FewItems FewBody
  contents_few kind n s =
      either FewBody (eqb kind 16) _ _ (mapped (FewItems 0) FewBody record_of (λ is h. omega arith) _ (items_few n 0 s (omega arith)))
      (either FewBody (eqb kind 17) _ _ (mapped (Few 0) FewBody set_of (λ g h. omega arith) _ (group_few true n 0 no_star s (omega arith)))
      (either FewBody (eqb kind 18) _ _ (mapped (Few 0) FewBody (λ g. superset (members_of_group g)) (λ g h. omega arith) _ (group_few false n 0 no_star s (omega arith)))
      (mapped (Few 0) FewBody (λ g. subset (members_of_group g)) (λ g h. omega arith) _ (group_few false n 0 no_star s (omega arith)))))

  body_few : (h : Heads) (s : List ℕ) → Holds FewTemplate (body_here leaves h s)
  unfolding body_here FewTemplate
  body_few h s =
      either FewTemplate (eqb (length s) 0) (refuse 3) _ tt
      (either FewTemplate (outside 16 19 (kind_of s)) (refuse 4) _ tt
      (unless FewTemplate (count_fault (fewest (kind_of s)) 32 s) _
      (either FewTemplate (clashes h.sheet h.length (kind_of s) (get_or s 1 0)) (refuse 9) _ tt
      (mapped FewBody FewTemplate (template h) (λ b f. f) _ (contents_few (kind_of s) (get_or s 1 0) (drop 2 s))))))

module _ (fam : Family) where
  template_few : (s : List ℕ) → Holds FewTemplate (template_here fam s)
  unfolding template_here and_then
  template_few s = go (heads_here fam s)
    where
      go : (o : Read Heads) → Holds FewTemplate (and_then o (λ h. body_here (leaves_in fam h.lower h.upper) h))
      go (refuse r) = tt
      go (got h s') = body_few (leaves_in fam h.lower h.upper) h s'

  -- what was accepted is no longer than any template
  pub accepted_short : (s : List ℕ) (t : Template (LeafOf fam)) → read_template fam s ≡ got t [] → length s ≤ 4096
  unfolding read_template
  accepted_short s t q = by-test (ltb 4096 (length s)) (λ e. absurd (clash (rw e at q))) (λ e. ltb-false 4096 (length s) e)

  pub accepted_few : (s : List ℕ) (h : Heads) (b : Body (LeafOf fam)) → read_template fam s ≡ got (template h b) [] → length (members_of b) ≤ 32
  unfolding read_template ended FewTemplate FewBody
  accepted_few s h b q = go (ltb 4096 (length s)) (template_here fam s) (template_few s) q
    where
      go : (c : Bool) (o : Read (Template (LeafOf fam))) → Holds FewTemplate o → or_refuse c 2 (ended o) ≡ got (template h b) [] → length (members_of b) ≤ 32
      go true o f e = absurd (clash e)
      go false (refuse r) f e = absurd (clash e)
      go false (got t []) f e = let z : t ≡ template h b = cc in rw z at f
      go false (got t (x ∷ r)) f e = absurd (clash e)

-- ---- the type

abbrev heads_of : {L : Type 0} → Template L → Heads
heads_of (template h b) = h

abbrev TypeInOrder : {L : Type 0} → Template L → Type 0
TypeInOrder t = InOrder (heads_of t)

sheet_order : (h : Heads) (s : List ℕ) → InOrder h → Holds InOrder (sheet_here h s)
unfolding sheet_here
sheet_order h s o = either InOrder (eqb (kind_of s) 50) _ _ (unless InOrder (sheet_fault s) _ o) o

length_order : (h : Heads) (s : List ℕ) → InOrder h → Holds InOrder (length_here h s)
unfolding length_here
length_order h s o = either InOrder (eqb (kind_of s) 48) _ _ (unless InOrder (bounds_fault s) _ o) o

type_order : (fam : Family) (h : Heads) (s : List ℕ) → InOrder h → Holds InOrder (type_here fam h s)
unfolding type_here type_fault
type_order fam h s o = either InOrder (has_types fam && eqb (kind_of s) 49) _ _ (read (ltb (length s) 9) (lt_z (int_at s 5) (int_at s 1)) refl) o
  where
    read : (a b : Bool) → lt_z (int_at s 5) (int_at s 1) ≡ b → Holds InOrder (refuse_or (cond a 3 (cond b 6 0)) (got (record { sheet = h.sheet; length = h.length; lower = int_at s 1; upper = int_at s 5 }) (drop 9 s)))
    read true b e = tt
    read false true e = tt
    read false false e = (word_int_at s 1, word_int_at s 5, e)

-- heads in order, and more after them that keep it
then_order : (next : Heads → List ℕ → Read Heads) → ((h : Heads) (s : List ℕ) → InOrder h → Holds InOrder (next h s)) → (o : Read Heads) → Holds InOrder o → Holds InOrder (and_then o next)
unfolding and_then
then_order next k (refuse r) f = tt
then_order next k (got h s) f = k h s f

rest_order : (fam : Family) (h : Heads) (s : List ℕ) → InOrder h → Holds InOrder (rest_here fam h s)
unfolding rest_here
rest_order fam h s o = then_order (type_here fam) (type_order fam) (length_here h s) (length_order h s o)

heads_order : (fam : Family) (s : List ℕ) → Holds InOrder (heads_here fam s)
unfolding heads_here
heads_order fam s = then_order (rest_here fam) (rest_order fam) (sheet_here no_heads s) (sheet_order no_heads s (omega arith, omega arith, refl))

module _ {L : Type 0} (leaves : List ℕ → Head L) where
  body_order : (h : Heads) (s : List ℕ) → InOrder h → Holds TypeInOrder (body_here leaves h s)
  unfolding body_here
  body_order h s o =
      either TypeInOrder (eqb (length s) 0) (refuse 3) _ tt
      (either TypeInOrder (outside 16 19 (kind_of s)) (refuse 4) _ tt
      (unless TypeInOrder (count_fault (fewest (kind_of s)) 32 s) _
      (either TypeInOrder (clashes h.sheet h.length (kind_of s) (get_or s 1 0)) (refuse 9) _ tt
      (mapped (λ (b : Body L). Unit {0}) TypeInOrder (template h) (λ b f. o) _ (any (contents leaves (kind_of s) (get_or s 1 0) (drop 2 s)))))))
    where
      any : (o : Read (Body L)) → Holds (λ (b : Body L). Unit {0}) o
      any (refuse r) = tt
      any (got b t) = tt

pub accepted_order : (fam : Family) (s : List ℕ) (h : Heads) (b : Body (LeafOf fam)) → read_template fam s ≡ got (template h b) [] → InOrder h
unfolding read_template template_here and_then ended
accepted_order fam s h b q = whole (ltb 4096 (length s)) (template_here fam s) (go (heads_here fam s) (heads_order fam s)) q
  where
    go : (o : Read Heads) → Holds InOrder o → Holds TypeInOrder (and_then o (λ h. body_here (leaves_in fam h.lower h.upper) h))
    go (refuse r) f = tt
    go (got a s') f = body_order (leaves_in fam a.lower a.upper) a s' f

    whole : (c : Bool) (o : Read (Template (LeafOf fam))) → Holds TypeInOrder o → or_refuse c 2 (ended o) ≡ got (template h b) [] → InOrder h
    whole true o f e = absurd (clash e)
    whole false (refuse r) f e = absurd (clash e)
    whole false (got t []) f e = let z : t ≡ template h b = cc in rw z at f
    whole false (got t (x ∷ r)) f e = absurd (clash e)
