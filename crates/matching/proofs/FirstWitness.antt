-- The search that tries all lists of bytes finds the first that obeys, or nothing where none does. Assumes nothing.
use mathlib.Core.Path.{◌≡◌, refl, sym, ap, ◌∙◌}
use mathlib.Core.Bool.{Bool, true, false, ◌&&◌, ◌||◌, cond}
use mathlib.Core.Logic.{◌⊎◌, inl, inr, ⊎_elim}
use mathlib.Core.List.{List, [], ◌∷◌}
use Prim.Native.Nat.{ℕ, zero, suc, ◌+◌, ◌≤◌, ◌<◌}
use native.Mathlib.Omega.{arith}
use borrow.Author.Tests.{eqb-true, eq-eqb, ne_eqb, le-ltb}
use lib.Dec.{eqb}
use lib.ListN.{length}
use Rattle.byte_order.specs.ByteOrder.{earlier, First}
use Rattle.facts.proofs.Cases.{and_left, and_right, one_of, same?, below}
use Rattle.byte_order.proofs.ByteOrder.{earlier_total}
use Rattle.grammar.specs.Element.{Elem}
use Rattle.grammar.specs.Template.{Template, template, plainly, members_of}
use Rattle.format.specs.declared.Family.{Family}
use Rattle.grammar.specs.Family.{LeafOf, ElementOf, matches_of}
use Rattle.grammar.specs.Members.{member_hits}
use Rattle.grammar.proofs.Members.{hits_low}
use Rattle.matching.specs.Obeys.{spare, right_bytes, none_twice, body_met, length_met, obeys_by, obeys, Obeys}
use Rattle.matching.specs.Search.{Maybe, nothing, just, put, or_else, try_each, first_of, from, bytes_of, members_count, first_witness}

-- ---- bytes out of an ascending list

In : ℕ → List ℕ → Type 0
In b [] = ⊥
In b (c ∷ cs) = (b ≡ c) ⊎ In b cs

AllIn : List ℕ → List ℕ → Type 0
AllIn bs [] = Unit {0}
AllIn bs (x ∷ v) = In x bs × AllIn bs v

Asc : List ℕ → Type 0
Asc [] = Unit {0}
Asc (b ∷ bs) = ((c : ℕ) → In c bs → b < c) × Asc bs

-- ---- the first of several

record Pick (f : ℕ → Maybe) (bs : List ℕ) (w : List ℕ) : Type 0 where
  b : ℕ
  here : f b ≡ just w
  earlier_ones : (c : ℕ) → In c bs → c < b → f c ≡ nothing

each_just : (f : ℕ → Maybe) (bs : List ℕ) (w : List ℕ) → Asc bs → try_each f bs ≡ just w → Pick f bs w
unfolding try_each or_else In Asc
each_just f [] w a h = let z : ◌≡◌ {A = ℕ} 0 1 = cc in absurd (omega arith)
each_just f (b ∷ bs) w a h = go (f b) refl h (λ q. each_just f bs w a.1 q)
  where
    go : (r : Maybe) → f b ≡ r → or_else r (try_each f bs) ≡ just w → (try_each f bs ≡ just w → Pick f bs w) → Pick f (b ∷ bs) w
    go (just v) e q ih = record { b = b; here = e ∙ q; earlier_ones = λ c i l. ⊎_elim (λ (s : c ≡ b). absurd (omega arith)) (λ (s : In c bs). let z = a.0 c s in absurd (omega arith)) i }
    go nothing e q ih =
        let p = ih q in
        record { b = p.b; here = p.here; earlier_ones = λ c i l. ⊎_elim (λ (s : c ≡ b). ap f s ∙ e) (λ (s : In c bs). p.earlier_ones c s l) i }

each_nothing : (f : ℕ → Maybe) (bs : List ℕ) → try_each f bs ≡ nothing → (c : ℕ) → In c bs → f c ≡ nothing
unfolding try_each or_else In
each_nothing f [] h c i = absurd i
each_nothing f (b ∷ bs) h c i = go (f b) refl h (λ q s. each_nothing f bs q c s)
  where
    go : (r : Maybe) → f b ≡ r → or_else r (try_each f bs) ≡ nothing → (try_each f bs ≡ nothing → In c bs → f c ≡ nothing) → f c ≡ nothing
    go (just v) e q ih = let z : ◌≡◌ {A = ℕ} 0 1 = cc in absurd (omega arith)
    go nothing e q ih = ⊎_elim (λ (s : c ≡ b). ap f s ∙ e) (λ (s : In c bs). ih q s) i

-- ---- one byte in front

record Put (b : ℕ) (r : Maybe) (w : List ℕ) : Type 0 where
  tail : List ℕ
  was : r ≡ just tail
  whole : w ≡ b ∷ tail

put_just : (b : ℕ) (r : Maybe) (w : List ℕ) → put b r ≡ just w → Put b r w
unfolding put
put_just b nothing w h = let z : ◌≡◌ {A = ℕ} 0 1 = cc in absurd (omega arith)
put_just b (just v) w h = record { tail = v; was = refl; whole = cc }

put_nothing : (b : ℕ) (r : Maybe) → put b r ≡ nothing → r ≡ nothing
unfolding put
put_nothing b nothing h = refl
put_nothing b (just v) h = let z : ◌≡◌ {A = ℕ} 0 1 = cc in absurd (omega arith)

-- ---- the first of all lists of n bytes

record Found (n : ℕ) (bs : List ℕ) (P : List ℕ → Bool) (w : List ℕ) : Type 0 where
  holds : P w ≡ true
  least : (v : List ℕ) → length v ≡ n → AllIn bs v → P v ≡ true → earlier v w ≡ false

none_of_all : (n : ℕ) (bs : List ℕ) (P : List ℕ → Bool) → first_of n bs P ≡ nothing → (v : List ℕ) → length v ≡ n → AllIn bs v → P v ≡ true → ⊥
unfolding first_of AllIn
none_of_all zero bs P h [] l i p = let z : ◌≡◌ {A = Maybe} (just []) nothing = rw p at h in let y : ◌≡◌ {A = ℕ} 0 1 = cc in omega arith
none_of_all zero bs P h (x ∷ v) l i p = omega arith
none_of_all (suc n) bs P h [] l i p = omega arith
none_of_all (suc n) bs P h (x ∷ v) l i p =
    none_of_all n bs (λ w. P (x ∷ w)) (put_nothing x _ (each_nothing (λ b. put b (first_of n bs (λ w. P (b ∷ w)))) bs h x i.0)) v (omega arith) i.1 p

first_of_all : (n : ℕ) (bs : List ℕ) (P : List ℕ → Bool) (w : List ℕ) → Asc bs → first_of n bs P ≡ just w → Found n bs P w
unfolding first_of AllIn earlier
first_of_all zero bs P w a h = go (P []) refl h
  where
    go : (t : Bool) → P [] ≡ t → cond t (just []) nothing ≡ just w → Found zero bs P w
    go true e q = let z : [] ≡ w = cc in record { holds = rw z at e; least = λ v l i p. nil v l (λ r. rw (sym z)) }
      where
        nil : (v : List ℕ) → length v ≡ 0 → (v ≡ [] → earlier [] w ≡ false) → earlier v w ≡ false
        nil [] l r = r refl
        nil (x ∷ v) l r = absurd (omega arith)
    go false e q = let z : ◌≡◌ {A = ℕ} 0 1 = cc in absurd (omega arith)
first_of_all (suc n) bs P w a h =
    let p = each_just (λ b. put b (first_of n bs (λ u. P (b ∷ u)))) bs w a h in
    let q = put_just p.b _ w p.here in
    let r = first_of_all n bs (λ u. P (p.b ∷ u)) q.tail a q.was in
    record { holds = rw q.whole r.holds; least = λ v l i t. least p q r v l i t }
  where
    least : (p : Pick (λ b. put b (first_of n bs (λ u. P (b ∷ u)))) bs w) (q : Put p.b (first_of n bs (λ u. P (p.b ∷ u))) w) (r : Found n bs (λ u. P (p.b ∷ u)) q.tail)
        (v : List ℕ) → length v ≡ suc n → AllIn bs v → P v ≡ true → earlier v w ≡ false
    least p q r [] l i t = absurd (omega arith)
    least p q r (x ∷ v) l i t =
        rw q.whole
        (⊎_elim
        (λ (s : x ≡ p.b). rw (s, le-ltb p.b p.b (omega arith), eq-eqb p.b p.b refl) (r.least v (omega arith) i.1 (rw s at t)))
        (λ (d : x ≡ p.b → ⊥). ⊎_elim
        (λ (s : x < p.b). absurd (none_of_all n bs (λ u. P (x ∷ u)) (put_nothing x _ (p.earlier_ones x i.0 s)) v (omega arith) i.1 t))
        (λ (s : p.b ≤ x). rw (le-ltb x p.b s, ne_eqb x p.b d))
        (below x p.b))
        (same? x p.b))

-- ---- the numbers of k members, and 255

in_from : (m k b : ℕ) → (b ≡ 255) ⊎ ((m ≤ b) × (b < m + k)) → In b (from m k)
unfolding In from
in_from m zero b h = ⊎_elim (λ (s : b ≡ 255). inl s) (λ (s : (m ≤ b) × (b < m + 0)). absurd (omega arith)) h
in_from m (suc k) b h =
    ⊎_elim
    (λ (s : b ≡ m). inl s)
    (λ (d : b ≡ m → ⊥). inr (in_from (suc m) k b (⊎_elim (λ (s : b ≡ 255). inl s) (λ (s : (m ≤ b) × (b < m + suc k)). inr (omega arith, omega arith)) h)))
    (same? b m)

from_in : (m k b : ℕ) → In b (from m k) → (b ≡ 255) ⊎ ((m ≤ b) × (b < m + k))
unfolding In from
from_in m zero b h = ⊎_elim (λ (s : b ≡ 255). inl s) (λ s. absurd s) h
from_in m (suc k) b h =
    ⊎_elim
    (λ (s : b ≡ m). inr (omega arith, omega arith))
    (λ (s : In b (from (suc m) k)). ⊎_elim (λ (e : b ≡ 255). inl e) (λ (e : (suc m ≤ b) × (b < suc m + k)). inr (omega arith, omega arith)) (from_in (suc m) k b s))
    h

asc_from : (m k : ℕ) → m + k ≤ 255 → Asc (from m k)
unfolding Asc In from
asc_from m zero l = (λ c i. absurd i, tt)
asc_from m (suc k) l =
    (λ c i. ⊎_elim (λ (s : c ≡ 255). omega arith) (λ (s : (suc m ≤ c) × (c < suc m + k)). omega arith) (from_in (suc m) k c i), asc_from (suc m) k (omega arith))

-- ---- what obeys is among them

right_in : {L X : Type 0} (hits : Elem L → X → Bool) (es : List (Elem L)) (xs : List X) (w : List ℕ) → right_bytes hits es xs w ≡ true → AllIn (bytes_of (length es)) w × (length w ≡ length xs)
unfolding right_bytes AllIn
right_in hits es [] [] h = (tt, refl)
right_in hits es [] (b ∷ w) h = absurd (mathlib.Core.Bool.true≢false (sym h))
right_in hits es (x ∷ xs) [] h = absurd (mathlib.Core.Bool.true≢false (sym h))
right_in hits es (x ∷ xs) (b ∷ w) h =
    let u = one_of (eqb b spare) (member_hits hits es b x) (and_left (eqb b spare || member_hits hits es b x) (right_bytes hits es xs w) h) in
    let r = right_in hits es xs w (and_right (eqb b spare || member_hits hits es b x) (right_bytes hits es xs w) h) in
    ((in_from 0 (length es) b (⊎_elim (λ (s : eqb b spare ≡ true). inl (eqb-true b spare s)) (λ (s : member_hits hits es b x ≡ true). let z = hits_low hits es b x s in inr (omega arith, omega arith)) u), r.0), ap suc r.1)

obeys_in : (fam : Family) (t : Template (LeafOf fam)) (xs : List (ElementOf fam)) (w : List ℕ) → obeys fam t xs w ≡ true → AllIn (bytes_of (members_count t)) w × (length w ≡ length xs)
unfolding obeys_by members_count
obeys_in fam (template h b) xs w o =
    right_in (matches_of fam) (members_of b) xs w (and_left (right_bytes (matches_of fam) (members_of b) xs w) ((plainly h b || none_twice (length (members_of b)) w) && (body_met b w && length_met h.length (length xs))) o)

pub obeys_size : (fam : Family) (t : Template (LeafOf fam)) (xs : List (ElementOf fam)) (w : List ℕ) → obeys fam t xs w ≡ true → length w ≡ length xs
obeys_size fam t xs w h = (obeys_in fam t xs w h).1

-- ---- the first witness

pub witness_none : (fam : Family) (t : Template (LeafOf fam)) (xs : List (ElementOf fam)) → ((v : List ℕ) → Obeys fam t xs v → ⊥) → members_count t ≤ 32 → first_witness fam t xs ≡ nothing
unfolding first_witness
witness_none fam t xs n few = go (first_of (length xs) (bytes_of (members_count t)) (obeys fam t xs)) refl
  where
    go : (r : Maybe) → first_of (length xs) (bytes_of (members_count t)) (obeys fam t xs) ≡ r → r ≡ nothing
    go nothing e = refl
    go (just w) e = absurd (n w (first_of_all (length xs) (bytes_of (members_count t)) (obeys fam t xs) w (asc_from 0 (members_count t) (omega arith)) e).holds)

pub witness_first : (fam : Family) (t : Template (LeafOf fam)) (xs : List (ElementOf fam)) (w : List ℕ) → First (Obeys fam t xs) w → members_count t ≤ 32 → first_witness fam t xs ≡ just w
unfolding first_witness
witness_first fam t xs w f few = go (first_of (length xs) (bytes_of (members_count t)) (obeys fam t xs)) refl
  where
    go : (r : Maybe) → first_of (length xs) (bytes_of (members_count t)) (obeys fam t xs) ≡ r → r ≡ just w
    go nothing e = let i = obeys_in fam t xs w f.holds in absurd (none_of_all (length xs) (bytes_of (members_count t)) (obeys fam t xs) e w i.1 i.0 f.holds)
    go (just v) e =
        let p = first_of_all (length xs) (bytes_of (members_count t)) (obeys fam t xs) v (asc_from 0 (members_count t) (omega arith)) e in
        let i = obeys_in fam t xs w f.holds in
        ap just (earlier_total v w (f.least v p.holds) (p.least w i.1 i.0 f.holds))

-- and the other way: what the search gives is the first that obeys
pub first_witness_lem : (fam : Family) (t : Template (LeafOf fam)) (xs : List (ElementOf fam)) (w : List ℕ) → members_count t ≤ 32 → first_witness fam t xs ≡ just w → First (Obeys fam t xs) w
unfolding first_witness
first_witness_lem fam t xs w few e =
    let p = first_of_all (length xs) (bytes_of (members_count t)) (obeys fam t xs) w (asc_from 0 (members_count t) (omega arith)) e in
    record { holds = p.holds; least = λ v o. let i = obeys_in fam t xs v o in p.least v i.1 i.0 o }

pub none_witness : (fam : Family) (t : Template (LeafOf fam)) (xs : List (ElementOf fam)) → first_witness fam t xs ≡ nothing → (v : List ℕ) → Obeys fam t xs v → ⊥
unfolding first_witness
none_witness fam t xs e v o = let i = obeys_in fam t xs v o in none_of_all (length xs) (bytes_of (members_count t)) (obeys fam t xs) e v i.1 i.0 o
