-- The walk over the members of a list or a complement, turn by turn: who is asked about, and missed by the members so far. The invariant: however
-- the members were read, in either family, those still to come are the rest of them, and the mask has the asked elements that none of the others
-- matches. The members of a list that stands among them take its place.
-- Assumes nothing.
use mathlib.Core.Path.{◌≡◌, refl, sym, ap, ◌∙◌}
use mathlib.Core.Bool.{Bool, true, false, not, ◌||◌, ◌&&◌, cond, or-false, not-not, and-true, or_assoc}
use mathlib.Core.Logic.{⊎_elim}
use mathlib.Core.List.{List, []}
use Prim.Native.Nat.{ℕ, ◌+◌, ◌-◌, ◌≤◌, ◌<◌}
use native.Mathlib.Omega.{arith}
use lib.Dec.{eqb}
use borrow.Author.Tests.{eqb-true}
use lib.IntN.{ℤ, pos}
use lib.Ieee.{Float, nan}
use lib.Signed.{le_z}
use lib.ListN.{length, get_or, drop, length-drop}
use Rattle.facts.proofs.Cases.{same?, clash, and_left}
use Rattle.masks.specs.Masks.{bit, Plus}
use Rattle.masks.proofs.Masks.{bit_none, bits_same}
use Rattle.integers.specs.Integer.{Word}
use Rattle.integers.proofs.SignedLocals.{again, again_same}
use Rattle.grammar.specs.Element.{Elem, leaf, Elems}
use Rattle.grammar.specs.Record.{leaf_here, head}
use Rattle.format.specs.declared.Family.{Family}
use Rattle.floats.specs.Leaves.{float_matches}
use Rattle.floats.specs.declared.Leaf.{Leaf as FloatLeaf}
use Rattle.grammar.specs.Family.{LeafOf, leaves_of, ElementOf, no_element, test_of, matches_of, any_matches_of, list_of}
use Rattle.grammar.specs.Read.{got}
use Rattle.grammar.specs.Reading.{counted, many, opened as opened_from, elem, outermost}
use Rattle.grammar.specs.Matches.{matches_by}
use Rattle.grammar.proofs.ReadApart.{grouped, many_inv, many_none}
use Rattle.grammar.proofs.Deeper.{joined, any_joined, many_joined, members_deeper, elem_takes, members_take}
use Rattle.leaves.specs.Leaves.{LeafHere, BoundsHere, FloatLeafHere, FloatHere, float_leaf_size}
use Rattle.leaves.proofs.FloatByKind.{size_is}
use Rattle.leaves.proofs.ElementByKind as by_kind
use Rattle.element_match.specs.Contract.{ElementAt, Among, Tells, Missed, HitsAt, OneHit, Members, turn, WalkTells}

-- ---- tests

-- two tests that agree on the asked elements tell the same
pub tells_same : {asked mask : ℕ} {test test' : ℕ → Bool} → ((j : ℕ) → bit asked j ≡ true → test j ≡ test' j) → Tells asked test mask → Tells asked test' mask
tells_same {asked} {mask} {test} {test'} same h = record { told = λ j. h.told j ∙ go j (bit asked j) refl }
  where
    go : (j : ℕ) (b : Bool) → bit asked j ≡ b → (bit asked j && test j) ≡ (bit asked j && test' j)
    go j true q = ap (λ (v : Bool). bit asked j && v) (same j q)
    go j false q = rw q refl

-- who is missed by those before and by one more
both_missed : (asked before one : Bool) → ((asked && not before) && not one) ≡ (asked && not (before || one))
both_missed true true one = refl
both_missed true false one = refl
both_missed false before one = refl

-- whoever is missed was asked about
pub still_among : {asked mask : ℕ} {test : ℕ → Bool} {X : Type 0} {xs : List X} → Tells asked test mask → Among asked xs → Among mask xs
still_among {asked} {mask} {test} h among = record { inside = λ j q. among.inside j (and_left (bit asked j) (test j) (sym (h.told j) ∙ q)) }

-- a mask that can have one number only has it, or is 0
some_or_none : (mask j : ℕ) (b : Bool) → bit mask j ≡ b → ((v : ℕ) → (v ≡ j → ⊥) → bit mask v ≡ false) → not (eqb mask 0) ≡ b
some_or_none mask j true here there = not_zero (eqb mask 0) refl
  where
    not_zero : (z : Bool) → eqb mask 0 ≡ z → not z ≡ true
    not_zero true q = absurd (clash here (ap (λ (n : ℕ). bit n j) (eqb-true mask 0 q) ∙ bit_none j))
    not_zero false q = refl
some_or_none mask j false here there = ap (λ (n : ℕ). not (eqb n 0)) (bits_same mask 0 (λ v. ⊎_elim (λ (z : v ≡ j). rw z here ∙ sym (bit_none v)) (λ (z : v ≡ j → ⊥). there v z ∙ sym (bit_none v)) (same? v j)))

-- ---- the member at p

-- an element template with so many depths left stands at p
pub record Here (fam : Family) (t : List ℕ) (p left : ℕ) : Type 0 where
  pub k : ℕ
  pub e : Elem (LeafOf fam)
  pub k' : ℕ
  pub s' : List ℕ
  pub reads : elem (leaves_of fam) left k (drop p t) ≡ got (counted e k') s'

-- it holds members: those stand behind its count, with one depth less
pub record Opened (fam : Family) (t : List ℕ) (p left : ℕ) : Type 0 where
  pub fits : p + 2 ≤ length t
  pub deep : 0 < left
  pub members : Members fam t (p + 2) (get_or t (p + 1) 0) (left - 1)

-- the asked elements that it misses, and the place after it
pub record MemberMisses (fam : Family) (t : List ℕ) (p left : ℕ) (xs : List (ElementOf fam)) (asked mask next : ℕ) : Type 0 where
  pub inside : next ≤ length t
  pub right : (k : ℕ) (e : Elem (LeafOf fam)) (k' : ℕ) (s' : List ℕ) → elem (leaves_of fam) left k (drop p t) ≡ got (counted e k') s'
      → Tells asked (λ j. not (matches_of fam e (get_or xs j (no_element fam)))) mask × (drop next t ≡ s')

-- the same of the list of either family
abbrev pub AllMissed : List ℕ → ℕ → ℕ → List ℤ → List Float → ℕ → ℕ → ℕ → Type 0
AllMissed t p left xs ys asked mask next = (fam : Family) → MemberMisses fam t p left (list_of fam xs ys) asked mask next

module _ (fam : Family) (t : List ℕ) (p left : ℕ) (w : Here fam t p left) where
  pub here_fits : p + 1 ≤ length t
  here_fits = by_kind.here_fits fam t p left w.k w.e w.k' w.s' w.reads

  pub integer_there : get_or t p 0 < 3 → LeafHere t p
  integer_there = by_kind.integer_there fam t p left w.k w.e w.k' w.s' w.reads

  pub float_there : 5 < get_or t p 0 → FloatLeafHere t p
  float_there = by_kind.float_there fam t p left w.k w.e w.k' w.s' w.reads

  -- a list (c false) or a complement (c true)
  pub opened : (c : Bool) → get_or t p 0 ≡ cond c 5 4 → Opened fam t p left
  opened c e =
      let g = by_kind.by_group fam t p left w.k w.e w.k' w.s' w.reads c e in
      record { fits = g.fits; deep = g.deep; members = record { inside = g.fits; leaves = w.k; found = g.es; after = w.k'; rest = w.s'; reads = g.reads } }

-- the elements asked about are integers where a 01 or 02 stands, floats where a 06 or 07 does
pub integers_asked : (fam : Family) (t : List ℕ) (p left : ℕ) (xs : List ℤ) (ys : List Float) (asked : ℕ) → Here fam t p left → get_or t p 0 < 3 → Among asked (list_of fam xs ys) → Among asked xs
integers_asked Family.Integers t p left xs ys asked w low among = among
integers_asked Family.Floats t p left xs ys asked w low among = absurd (by_kind.no_float t p left w.k w.e w.k' w.s' w.reads low)

pub floats_asked : (fam : Family) (t : List ℕ) (p left : ℕ) (xs : List ℤ) (ys : List Float) (asked : ℕ) → Here fam t p left → 5 < get_or t p 0 → Among asked (list_of fam xs ys) → Among asked ys
floats_asked Family.Floats t p left xs ys asked w high among = among
floats_asked Family.Integers t p left xs ys asked w high among = absurd (by_kind.no_integer t p left w.k w.e w.k' w.s' w.reads high)

-- a kind that is no leaf's and no list's
pub complement_kind : (kind : ℕ) → 4 ≤ kind → (kind ≡ 4 → ⊥) → kind ≤ 5 → kind ≡ 5
complement_kind kind l n h = omega arith

module _ (t : List ℕ) (p left : ℕ) (xs : List ℤ) (ys : List Float) (asked mask next : ℕ) where
  pub leaf_misses : (lower upper : ℤ) → get_or t p 0 < 3 → BoundsHere t p lower upper next → Missed xs asked lower upper mask → AllMissed t p left xs ys asked mask next
  leaf_misses lower upper low h m Family.Integers = record {
    inside = h.inside;
    right = λ k e k' s' r.
        let a = by_kind.by_leaf Family.Integers t p left k e k' s' r (λ z. omega arith) (λ z. omega arith) in (
          tells_same (λ j q. ap not (sym (by_kind.bounds_match t p e s' lower upper next a h (get_or xs j (pos 0)) (m.words j q)))) m.outside,
          (h.right a.l s' a.reads).2,
        );
  }
  leaf_misses lower upper low h m Family.Floats = record { inside = h.inside; right = λ k e k' s' r. absurd (by_kind.no_float t p left k e k' s' r low) }

  -- the bounds as the machine reads them back from their bits
  pub leaf_misses_again : (lower upper : ℤ) → Word lower → Word upper → get_or t p 0 < 3 → BoundsHere t p lower upper next → Missed xs asked (again lower) (again upper) mask → AllMissed t p left xs ys asked mask next
  leaf_misses_again lower upper l u low h m = leaf_misses lower upper low h (rw (again_same lower l, again_same upper u) at m)

  -- a complement
  pub complement_misses : get_or t p 0 ≡ 5 → ((fam : Family) → WalkTells fam false t (p + 2) (get_or t (p + 1) 0) (left - 1) (list_of fam xs ys) asked mask next) → AllMissed t p left xs ys asked mask next
  unfolding matches_by
  complement_misses e h fam = record {
    inside = (h fam).inside;
    right = λ k v k' s' r.
        let g = by_kind.by_group fam t p left k v k' s' r true e in
        let y = (h fam).right k g.es k' s' g.reads in (
          tells_same
              (λ j q. sym (ap (λ o. not (matches_of fam o (get_or (list_of fam xs ys) j (no_element fam)))) g.is ∙ not-not (any_matches_of fam g.es (get_or (list_of fam xs ys) j (no_element fam)))))
              y.0,
          y.1,
        );
  }

-- a 03 misses nobody
module _ (t : List ℕ) (p left : ℕ) (xs : List ℤ) (ys : List Float) (asked : ℕ) where
  any_tested : (fam : Family) (k : ℕ) (e : Elem (LeafOf fam)) (k' : ℕ) (s' : List ℕ) → elem (leaves_of fam) left k (drop p t) ≡ got (counted e k') s' → get_or t p 0 ≡ 3
      → ((x : ElementOf fam) → matches_of fam e x ≡ true) × (drop (p + 1) t ≡ s')
  unfolding matches_by
  any_tested fam k e k' s' r h =
      let a = by_kind.by_leaf fam t p left k e k' s' r (λ z. omega arith) (λ z. omega arith) in
      let v = by_kind.any_there fam t p left k e k' s' r h a in
      (λ x. ap (λ o. matches_of fam o x) a.is ∙ v.matched x, v.after)

  pub any_misses : get_or t p 0 ≡ 3 → p + 1 ≤ length t → AllMissed t p left xs ys asked 0 (p + 1)
  any_misses h i fam = record {
    inside = i;
    right = λ k e k' s' r.
        let v = any_tested fam k e k' s' r h in
        (record { told = λ j. bit_none j ∙ sym (nobody (bit asked j)) ∙ ap (λ (u : Bool). bit asked j && not u) (sym (v.0 (get_or (list_of fam xs ys) j (no_element fam)))) }, v.1);
  }
    where
      nobody : (b : Bool) → (b && false) ≡ false
      nobody true = refl
      nobody false = refl

-- a 06 or 07
module _ (t : List ℕ) (p left : ℕ) (xs : List ℤ) (ys : List Float) (asked mask : ℕ) (l : FloatLeaf) (high : 5 < get_or t p 0) (here : FloatLeafHere t p) (is : FloatHere t p l) where
  float_matches_lem : (k : ℕ) (e : Elem (LeafOf Family.Floats)) (k' : ℕ) (s' : List ℕ) → elem (leaves_of Family.Floats) left k (drop p t) ≡ got (counted e k') s'
      → ((x : Float) → matches_of Family.Floats e x ≡ float_matches l x) × (drop (p + float_leaf_size (get_or t p 0)) t ≡ s')
  unfolding matches_by
  float_matches_lem k e k' s' r =
      let a = by_kind.by_leaf Family.Floats t p left k e k' s' r (λ z. omega arith) (λ z. omega arith) in
      (λ x. ap (λ o. matches_of Family.Floats o x) a.is ∙ ap (λ m. float_matches m x) (sym (is.right a.l s' a.reads)), (size_is t p a.l s' high a.reads).1)

  pub float_misses : Tells asked (λ j. not (float_matches l (get_or ys j nan))) mask → AllMissed t p left xs ys asked mask (p + float_leaf_size (get_or t p 0))
  float_misses told Family.Integers = record {
    inside = (size_is t p here.what here.rest high here.reads).0;
    right = λ k e k' s' r. absurd (by_kind.no_integer t p left k e k' s' r high);
  }
  float_misses told Family.Floats = record {
    inside = (size_is t p here.what here.rest high here.reads).0;
    right = λ k e k' s' r.
        let v = float_matches_lem k e k' s' r in
        (tells_same (λ j q. ap not (sym (v.0 (get_or ys j nan)))) told, v.1);
  }

-- ---- the walk

-- the members were read as es: those from p on are es₁, and `ahead` says which elements the others match
pub record Part (fam : Family) (t : List ℕ) (left : ℕ) (xs : List (ElementOf fam)) (asked : ℕ) (es : Elems (LeafOf fam)) (after : ℕ) (end : List ℕ) (p m rest : ℕ) : Type 0 where
  pub k₁ : ℕ
  pub es₁ : Elems (LeafOf fam)
  pub ahead : ElementOf fam → Bool
  pub reads : many (elem (leaves_of fam) left) m k₁ (drop p t) ≡ got (counted es₁ after) end
  pub both : (x : ElementOf fam) → any_matches_of fam es x ≡ (ahead x || any_matches_of fam es₁ x)
  pub told : Tells asked (λ j. not (ahead (get_or xs j (no_element fam)))) rest

pub record Going (t : List ℕ) (at n left : ℕ) (xs : List ℤ) (ys : List Float) (asked p m rest : ℕ) : Type 0 where
  pub family : Family
  pub todo : Members family t p m left
  pub among : Among rest (list_of family xs ys)
  pub goes : (fam : Family) (k : ℕ) (es : Elems (LeafOf fam)) (after : ℕ) (end : List ℕ) → many (elem (leaves_of fam) left) n k (drop at t) ≡ got (counted es after) end → Part fam t left (list_of fam xs ys) asked es after end p m rest

pub start : (fam : Family) (t : List ℕ) (at n left : ℕ) (xs : List ℤ) (ys : List Float) (asked : ℕ) → Among asked (list_of fam xs ys) → Members fam t at n left → Going t at n left xs ys asked at n asked
start fam t at n left xs ys asked among m = record {
  family = fam;
  todo = m;
  among = among;
  goes = λ fam k es after end r. record { k₁ = k; es₁ = es; ahead = λ x. false; reads = r; both = λ x. refl; told = record { told = λ j. sym (and-true (bit asked j)) } };
}

pub here : (fam : Family) (t : List ℕ) (p m left : ℕ) → 0 < m → Members fam t p m left → Here fam t p left
here fam t p m left b q =
    let f = many_inv (elem (leaves_of fam) left) m q.leaves (drop p t) q.found q.after q.rest b q.reads in
    record { k = q.leaves; e = f.e; k' = f.k₁; s' = f.s₁; reads = f.one }

module _ (fam : Family) (t : List ℕ) (p m left : ℕ) (xs : List (ElementOf fam)) (rest mask q : ℕ) (b : 0 < m) (w : MemberMisses fam t p left xs rest mask q) where
  next_members : Members fam t p m left → Members fam t q (m - 1) left
  next_members z =
      let f = many_inv (elem (leaves_of fam) left) m z.leaves (drop p t) z.found z.after z.rest b z.reads in
      let v = w.right z.leaves f.e f.k₁ f.s₁ f.one in
      record { inside = w.inside; leaves = f.k₁; found = f.es₁; after = z.after; rest = z.rest; reads = ap (many (elem (leaves_of fam) left) (m - 1) f.k₁) v.1 ∙ f.others }

  next_part : {asked : ℕ} {es : Elems (LeafOf fam)} {after : ℕ} {end : List ℕ} → Part fam t left xs asked es after end p m rest → Part fam t left xs asked es after end q (m - 1) mask
  unfolding matches_by
  next_part {asked} {es} {after} {end} z =
      let f = many_inv (elem (leaves_of fam) left) m z.k₁ (drop p t) z.es₁ after end b z.reads in
      let v = w.right z.k₁ f.e f.k₁ f.s₁ f.one in
      record {
        k₁ = f.k₁;
        es₁ = f.es₁;
        ahead = λ x. z.ahead x || matches_of fam f.e x;
        reads = ap (many (elem (leaves_of fam) left) (m - 1) f.k₁) v.1 ∙ f.others;
        both = λ x. z.both x ∙ ap (λ l. z.ahead x || any_matches_of fam l x) f.both ∙ sym (or_assoc (z.ahead x) (matches_of fam f.e x) (any_matches_of fam f.es₁ x));
        told = record {
          told = λ j. v.0.told j ∙ ap (λ (u : Bool). u && not (matches_of fam f.e (get_or xs j (no_element fam)))) (z.told.told j)
              ∙ both_missed (bit asked j) (z.ahead (get_or xs j (no_element fam))) (matches_of fam f.e (get_or xs j (no_element fam)));
        };
      }

  still : Members fam t p m left → Among rest xs → Among mask xs
  still z among =
      let f = many_inv (elem (leaves_of fam) left) m z.leaves (drop p t) z.found z.after z.rest b z.reads in
      still_among (w.right z.leaves f.e f.k₁ f.s₁ f.one).0 among

pub step : (t : List ℕ) (p m left : ℕ) (xs : List ℤ) (ys : List Float) (rest mask q : ℕ) → 0 < m → AllMissed t p left xs ys rest mask q
    → (at n asked : ℕ) → Going t at n left xs ys asked p m rest → Going t at n left xs ys asked q (m - 1) mask
step t p m left xs ys rest mask q b w at n asked g =
    let fam = g.family in
    record {
      family = fam;
      todo = next_members fam t p m left (list_of fam xs ys) rest mask q b (w fam) g.todo;
      among = still fam t p m left (list_of fam xs ys) rest mask q b (w fam) g.todo g.among;
      goes = λ fam k es after end r. next_part fam t p m left (list_of fam xs ys) rest mask q b (w fam) (g.goes fam k es after end r);
    }

-- ---- the bytes that are left

-- each member takes one at least
pub few : (fam : Family) (t : List ℕ) (p m left : ℕ) → Members fam t p m left → m ≤ length t
few fam t p m left z = omega (arith, length-drop p t, members_take fam left m z.leaves (drop p t) z.found z.after z.rest z.reads)

pub further : (fam : Family) (t : List ℕ) (p left : ℕ) (xs : List ℤ) (ys : List Float) (asked mask q : ℕ) → Here fam t p left → AllMissed t p left xs ys asked mask q → length t - q < length t - p
further fam t p left xs ys asked mask q h w =
    let behind = ((w fam).right h.k h.e h.k' h.s' h.reads).1 in
    omega (arith, elem_takes fam left h.k (drop p t) h.e h.k' h.s' h.reads, ap length behind, length-drop p t, length-drop q t)

-- ---- a list inside

-- a list at p: its members come first, and then those behind it
record Unpacked (fam : Family) (t : List ℕ) (p m left k : ℕ) (es : Elems (LeafOf fam)) (k' : ℕ) (s' : List ℕ) : Type 0 where
  pub fits : p + 2 ≤ length t
  pub es₁ : Elems (LeafOf fam)
  pub reads : many (elem (leaves_of fam) left) (m - 1 + get_or t (p + 1) 0) k (drop (p + 2) t) ≡ got (counted es₁ k') s'
  pub same : (x : ElementOf fam) → any_matches_of fam es x ≡ any_matches_of fam es₁ x

module _ (t : List ℕ) (p m left : ℕ) (b : 0 < m) (list : get_or t p 0 ≡ 4) where
  unpacked : (fam : Family) (k : ℕ) (es : Elems (LeafOf fam)) (k' : ℕ) (s' : List ℕ) → many (elem (leaves_of fam) left) m k (drop p t) ≡ got (counted es k') s' → Unpacked fam t p m left k es k' s'
  unfolding matches_by
  unpacked fam k es k' s' r =
      let f = many_inv (elem (leaves_of fam) left) m k (drop p t) es k' s' b r in
      let g = by_kind.by_group fam t p left k f.e f.k₁ f.s₁ f.one false list in
      let inner = members_deeper (leaves_of fam) left (get_or t (p + 1) 0) k (drop (p + 2) t) g.es f.k₁ f.s₁ g.reads in
      let turned : m - 1 + get_or t (p + 1) 0 ≡ get_or t (p + 1) 0 + (m - 1) = omega arith in
      record {
        fits = g.fits;
        es₁ = joined g.es f.es₁;
        reads = rw turned (many_joined (elem (leaves_of fam) left) (get_or t (p + 1) 0) (m - 1) k (drop (p + 2) t) g.es f.k₁ f.s₁ f.es₁ k' s' inner f.others);
        same = λ x. ap (λ l. any_matches_of fam l x) f.both ∙ ap (λ o. matches_of fam o x || any_matches_of fam f.es₁ x) g.is ∙ sym (any_joined (test_of fam) g.es f.es₁ x);
      }

  pub step_into : (at n : ℕ) (xs : List ℤ) (ys : List Float) (asked rest : ℕ) → Going t at n left xs ys asked p m rest → Going t at n left xs ys asked (p + 2) (m - 1 + get_or t (p + 1) 0) rest
  step_into at n xs ys asked rest g =
      let z = g.todo in
      let u = unpacked g.family z.leaves z.found z.after z.rest z.reads in
      record {
        family = g.family;
        todo = record { inside = u.fits; leaves = z.leaves; found = u.es₁; after = z.after; rest = z.rest; reads = u.reads };
        among = g.among;
        goes = λ fam k es after end r.
            let y = g.goes fam k es after end r in
            let v = unpacked fam y.k₁ y.es₁ after end y.reads in
            record { k₁ = y.k₁; es₁ = v.es₁; ahead = y.ahead; reads = v.reads; both = λ x. y.both x ∙ ap (λ (o : Bool). y.ahead x || o) (v.same x); told = y.told };
      }

-- ---- the end

module _ (t : List ℕ) (at n left : ℕ) (xs : List ℤ) (ys : List Float) (asked p m rest : ℕ) where
  pub done : m ≡ 0 → Going t at n left xs ys asked p m rest → (fam : Family) → WalkTells fam true t at n left (list_of fam xs ys) asked rest p
  unfolding matches_by
  done e g fam = record {
    inside = g.todo.inside;
    right = λ k es after end r.
        let z = g.goes fam k es after end r in
        let v = many_none (elem (leaves_of fam) left) m z.k₁ (drop p t) z.es₁ after end e z.reads in
        let same : (x : ElementOf fam) → z.ahead x ≡ any_matches_of fam es x = λ x. sym (z.both x ∙ ap (λ l. z.ahead x || any_matches_of fam l x) v.0 ∙ or-false (z.ahead x)) in
        (tells_same (λ j q. ap not (same (get_or (list_of fam xs ys) j (no_element fam)))) z.told, sym v.2);
  }

-- the mask and the place under other names
pub retold : (turned : Bool) (t : List ℕ) (at n left : ℕ) (xs : List ℤ) (ys : List Float) (asked : ℕ) {mask mask' next next' : ℕ} → mask ≡ mask' → next ≡ next'
    → ((fam : Family) → WalkTells fam turned t at n left (list_of fam xs ys) asked mask next) → (fam : Family) → WalkTells fam turned t at n left (list_of fam xs ys) asked mask' next'
retold turned t at n left xs ys asked p q h = rw (sym p, sym q) h

pub member_retold : (t : List ℕ) (p left : ℕ) (xs : List ℤ) (ys : List Float) (asked : ℕ) {mask mask' next next' : ℕ} → mask' ≡ mask → next' ≡ next → AllMissed t p left xs ys asked mask next → AllMissed t p left xs ys asked mask' next'
member_retold t p left xs ys asked q r h = rw (q, r) h

-- none of them, turned round
pub turned_round : (t : List ℕ) (at n left : ℕ) (xs : List ℤ) (ys : List Float) (asked mask mask' next : ℕ) → ((test : ℕ → Bool) → Tells asked (λ j. not (test j)) mask → Tells asked test mask')
    → ((fam : Family) → WalkTells fam true t at n left (list_of fam xs ys) asked mask next) → (fam : Family) → WalkTells fam false t at n left (list_of fam xs ys) asked mask' next
turned_round t at n left xs ys asked mask mask' next turns h fam = record {
  inside = (h fam).inside;
  right = λ k es after rest r. let v = (h fam).right k es after rest r in (turns (λ j. any_matches_of fam es (get_or (list_of fam xs ys) j (no_element fam))) v.0, v.1);
}

-- ---- the element template at a place

pub whole_here : (fam : Family) (t : List ℕ) (at : ℕ) → ElementAt fam t at → Here fam t at 8
whole_here fam t at w = record { k = 0; e = w.what; k' = w.leaves; s' = w.rest; reads = w.reads }

-- whom it misses, turned round
pub matched : (t : List ℕ) (at : ℕ) (xs : List ℤ) (ys : List Float) (asked mask mask' next : ℕ) → ((test : ℕ → Bool) → Tells asked (λ j. not (test j)) mask → Tells asked test mask') → AllMissed t at 8 xs ys asked mask next
    → (fam : Family) → HitsAt fam t at (list_of fam xs ys) asked mask'
matched t at xs ys asked mask mask' next turns h fam = record { right = λ e k rest q. turns (λ j. matches_of fam e (get_or (list_of fam xs ys) j (no_element fam))) ((h fam).right 0 e k rest q).0 }

-- a list (c false) or a complement (c true)
pub group_matched : (t : List ℕ) (at : ℕ) (xs : List ℤ) (ys : List Float) (asked mask next : ℕ) (c : Bool) → get_or t at 0 ≡ cond c 5 4
    → ((fam : Family) → WalkTells fam c t (at + 2) (get_or t (at + 1) 0) 7 (list_of fam xs ys) asked mask next) → (fam : Family) → HitsAt fam t at (list_of fam xs ys) asked mask
unfolding matches_by
group_matched t at xs ys asked mask next c e h fam = record {
  right = λ v k rest q.
      let g = by_kind.by_group fam t at 8 0 v k rest q c e in
      tells_same (λ j z. grouped_matches c g.es (get_or (list_of fam xs ys) j (no_element fam)) ∙ ap (λ o. matches_of fam o (get_or (list_of fam xs ys) j (no_element fam))) (sym g.is)) ((h fam).right 0 g.es k rest g.reads).0;
}
  where
    grouped_matches : (c : Bool) (es : Elems (LeafOf fam)) (x : ElementOf fam) → turn c (any_matches_of fam es x) ≡ matches_of fam (grouped c es) x
    grouped_matches false es x = refl
    grouped_matches true es x = refl

-- any value
pub any_matched : (t : List ℕ) (at : ℕ) (xs : List ℤ) (ys : List Float) (asked : ℕ) → get_or t at 0 ≡ 3 → (fam : Family) → HitsAt fam t at (list_of fam xs ys) asked asked
any_matched t at xs ys asked q fam = record {
  right = λ e k rest r.
      let v = any_tested t at 8 xs ys asked fam 0 e k rest r q in
      record { told = λ j. sym (and-true (bit asked j)) ∙ ap (λ (u : Bool). bit asked j && u) (sym (v.0 (get_or (list_of fam xs ys) j (no_element fam)))) };
}

-- ---- one element

pub any_one : (fam : Family) (t : List ℕ) (at : ℕ) (x : ElementOf fam) → get_or t at 0 ≡ 3 → OneHit fam t at x true
any_one fam t at x q = record { right = λ e k rest r. sym ((any_tested t at 8 [] [] 0 fam 0 e k rest r q).0 x) }

-- a leaf is an element template
pub leaf_whole : (fam : Family) (s : List ℕ) (l : LeafOf fam) (s' : List ℕ) → head (leaves_of fam) s ≡ leaf_here l s' → outermost (leaves_of fam) s ≡ got (counted (leaf l) 1) s'
unfolding elem opened_from
leaf_whole fam s l s' q = rw q

-- a leaf of the integer family
pub leaf_one : (t : List ℕ) (at : ℕ) (x lower upper : ℤ) (next : ℕ) (hit : Bool) → Word x → LeafHere t at → BoundsHere t at lower upper next → hit ≡ (le_z lower x && le_z x upper) → OneHit Family.Integers t at x hit
leaf_one t at x lower upper next hit word w h told = record { right = λ e k rest q. told ∙ sym (by_kind.bounds_match t at e rest lower upper next (the_leaf e k rest q) h x word) }
  where
    the_leaf : (e : Elem (LeafOf Family.Integers)) (k : ℕ) (rest : List ℕ) → outermost (leaves_of Family.Integers) (drop at t) ≡ got (counted e k) rest → by_kind.ALeaf Family.Integers t at e rest
    the_leaf e k rest q =
        let z = leaf_whole Family.Integers (drop at t) w.what w.rest w.reads in
        let same : leaf w.what ≡ e = cc in
        let end : w.rest ≡ rest = cc in
        record { l = w.what; is = sym same; reads = w.reads ∙ ap (leaf_here w.what) end }

-- a 06 or 07
pub float_one : (t : List ℕ) (at : ℕ) (x : Float) (l : FloatLeaf) (hit : Bool) → FloatLeafHere t at → FloatHere t at l → hit ≡ float_matches l x → OneHit Family.Floats t at x hit
float_one t at x l hit w is told = record { right = λ e k rest q. told ∙ sym ((float_matches_lem t at 8 [] [] 0 0 l w.kind w is 0 e k rest q).0 x) }

-- the same where the integer is one that the machine read back from its bits
pub leaf_again : (t : List ℕ) (at : ℕ) (x : ℤ) (hit : Bool) → Word x → OneHit Family.Integers t at (again x) hit → OneHit Family.Integers t at x hit
leaf_again t at x hit word h = rw (again_same x word) at h

-- which leaf stands where an element template does, by its kind
pub integer_at : (fam : Family) (t : List ℕ) (at : ℕ) → ElementAt fam t at → get_or t at 0 < 3 → LeafHere t at
integer_at fam t at w = integer_there fam t at 8 (whole_here fam t at w)

pub float_at_lem : (fam : Family) (t : List ℕ) (at : ℕ) → ElementAt fam t at → 5 < get_or t at 0 → FloatLeafHere t at
float_at_lem fam t at w = float_there fam t at 8 (whole_here fam t at w)

-- and in which list its elements are
pub integers_listed : (fam : Family) (t : List ℕ) (at : ℕ) (xs : List ℤ) (ys : List Float) (e : ℕ) → ElementAt fam t at → get_or t at 0 < 3 → e < length (list_of fam xs ys) → e < length xs
integers_listed Family.Integers t at xs ys e w low h = h
integers_listed Family.Floats t at xs ys e w low h = absurd (by_kind.no_float t at 8 0 w.what w.leaves w.rest w.reads low)

pub floats_listed : (fam : Family) (t : List ℕ) (at : ℕ) (xs : List ℤ) (ys : List Float) (e : ℕ) → ElementAt fam t at → 5 < get_or t at 0 → e < length (list_of fam xs ys) → e < length ys
floats_listed Family.Floats t at xs ys e w high h = h
floats_listed Family.Integers t at xs ys e w high h = absurd (by_kind.no_integer t at 8 0 w.what w.leaves w.rest w.reads high)

-- what is told of the element of one family, for either: a 01 or 02 stands in no template of floats, a 06 or 07 in none of integers
module _ (t : List ℕ) (at : ℕ) (xs : List ℤ) (ys : List Float) (e : ℕ) (hit : Bool) where
  pub integer_one : get_or t at 0 < 3 → OneHit Family.Integers t at (get_or xs e (pos 0)) hit → (fam : Family) → OneHit fam t at (get_or (list_of fam xs ys) e (no_element fam)) hit
  integer_one low h Family.Integers = h
  integer_one low h Family.Floats = record { right = λ v k rest q. absurd (by_kind.no_float t at 8 0 v k rest q low) }

  pub float_only : 5 < get_or t at 0 → OneHit Family.Floats t at (get_or ys e nan) hit → (fam : Family) → OneHit fam t at (get_or (list_of fam xs ys) e (no_element fam)) hit
  float_only high h Family.Floats = h
  float_only high h Family.Integers = record { right = λ v k rest q. absurd (by_kind.no_integer t at 8 0 v k rest q high) }

module _ (t : List ℕ) (at : ℕ) (xs : List ℤ) (ys : List Float) (j : ℕ) where
  -- of this one only
  pub only_one_lem : (asked mask : ℕ) → Plus (bit 0) j (bit asked) → ((fam : Family) → HitsAt fam t at (list_of fam xs ys) asked mask) → (fam : Family) → OneHit fam t at (get_or (list_of fam xs ys) j (no_element fam)) (not (eqb mask 0))
  only_one_lem asked mask p h fam = record {
    right = λ e k rest q.
        let told = (h fam).right e k rest q in
        some_or_none mask j (matches_of fam e (get_or (list_of fam xs ys) j (no_element fam))) (told.told j ∙ rw p.self refl)
        (λ v z. told.told v ∙ rw (p.other v z, bit_none v) refl);
  }

pub asked_one : {X : Type 0} (xs : List X) (j asked : ℕ) → j < length xs → Plus (bit 0) j (bit asked) → Among asked xs
asked_one xs j asked low p = record {
  inside = λ v q. ⊎_elim (λ (z : v ≡ j). rw z low) (λ (z : v ≡ j → ⊥). absurd (clash q (p.other v z ∙ bit_none v))) (same? v j);
}
