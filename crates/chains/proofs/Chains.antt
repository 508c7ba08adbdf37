-- The steps of `settle`, over any sets of members and of places: no code and no bits. Assumes nothing.
-- A place is open if it is in F (spare) or in H (held). `Walk` is the loop's invariant.
-- spares-*: the spare places of a piece, one by one, and after a chain. ready: what a search asks of them.
use mathlib.Core.Path.{◌≡◌, refl, sym, ap, ◌∙◌, subst}
use mathlib.Core.Logic.{◌⊎◌, inl, inr, ⊎_elim}
use mathlib.Core.Bool.{Bool, true, false, not, ◌||◌}
use mathlib.Core.List.{List}
use Prim.Native.Nat.{ℕ, ◌+◌, ◌≤◌, ◌<◌}
use native.Mathlib.Omega.{arith}
use lib.Dec.{eqb}
use lib.Bits.{bit_and, bit_xor}
use lib.ListN.{length, get_or, set, length-set}
use lib.Seq.{get_or-set_same, get_or-set_other}
use Rattle.facts.specs.Counting.{between, cnt, one_if}
use Rattle.masks.specs.Masks.{bit, Plus, Flipped}
use Rattle.chains.specs.Chain.{Spares, Ready, reach, within, Served, Filled, Shut, Stuck, Settled}
use Rattle.facts.proofs.Cases.{same?, below, holds?, clash, not_so, and_left, and_right, both, one_of, or_left, or_right, hit, miss}
use Rattle.facts.proofs.Spans.{between_in, between_from, between_to}
use Rattle.facts.proofs.Counting.{cnt_set}
use Rattle.masks.proofs.Masks.{odd, bit_and_lem, bit_xor_lem, and_bits}
use Rattle.masks.proofs.OneByOne.{flipped_down, flipped_out}

-- ---- what may be reached, by more places
pub reach_row : (may : ℕ → ℕ → Bool) (F H : ℕ → Bool) (v e : ℕ) → reach may F H v e ≡ true → may v e ≡ true
unfolding reach
reach_row may F H v e o = and_left (may v e) (F e || H e) o

pub reach_open : (may : ℕ → ℕ → Bool) (F H : ℕ → Bool) (v e : ℕ) → reach may F H v e ≡ true → (F e ≡ true) ⊎ (H e ≡ true)
unfolding reach
reach_open may F H v e o = one_of (F e) (H e) (and_right (may v e) (F e || H e) o)

pub reach_free : (may : ℕ → ℕ → Bool) (F H : ℕ → Bool) (v e : ℕ) → may v e ≡ true → F e ≡ true → reach may F H v e ≡ true
unfolding reach
reach_free may F H v e r f = both (may v e) (F e || H e) r (or_left (F e) (H e) f)

pub reach_held : (may : ℕ → ℕ → Bool) (F H : ℕ → Bool) (v e : ℕ) → may v e ≡ true → H e ≡ true → reach may F H v e ≡ true
unfolding reach
reach_held may F H v e r h = both (may v e) (F e || H e) r (or_right (F e) (H e) h)

pub reach_wider : (may : ℕ → ℕ → Bool) (F G H : ℕ → Bool) → ((e : ℕ) → G e ≡ true → H e ≡ true) → (v e : ℕ) → reach may F G v e ≡ true → reach may F H v e ≡ true
reach_wider may F G H up v e o = ⊎_elim
    (λ f. reach_free may F H v e (reach_row may F G v e o) f)
    (λ f. reach_held may F H v e (reach_row may F G v e o) (up e f))
    (reach_open may F G v e o)

-- a list of more is allowed
pub served_wider : {ok ko : ℕ → ℕ → Bool} {w x : List ℕ} {m : ℕ} → ((v e : ℕ) → ok v e ≡ true → ko v e ≡ true) → Served ok w m x → Served ko w m x
served_wider {w} {x} up s = record {
  size = s.size;
  more = s.more;
  others = s.others;
  moved = λ e. ⊎_elim inl (λ o. inr (up _ e o)) (s.moved e);
  spare = s.spare;
}

-- what is not open stays
pub served_kept : (may : ℕ → ℕ → Bool) (F H : ℕ → Bool) {w x : List ℕ} {m : ℕ} → Served (reach may F H) w m x → (e : ℕ) → F e ≡ false → H e ≡ false → get_or x e 0 ≡ get_or w e 0
served_kept may F H {w} {x} s e f h = ⊎_elim
    (λ (q : get_or x e 0 ≡ get_or w e 0). q)
    (λ (o : reach may F H (get_or x e 0) e ≡ true). absurd (⊎_elim (λ (t : F e ≡ true). clash t f) (λ (t : H e ≡ true). clash t h) (reach_open may F H _ e o)))
    (s.moved e)

-- ---- the loop: G are the held places that are not tried yet
pub record Walk (may : ℕ → ℕ → Bool) (F H G : ℕ → Bool) (w : List ℕ) : Type 0 where
  pub fell : (e : ℕ) → G e ≡ true → H e ≡ true
  pub tried : (e : ℕ) → H e ≡ true → G e ≡ false → Shut may F G (get_or w e 0)

pub walk_start : {may : ℕ → ℕ → Bool} {F H : ℕ → Bool} {w : List ℕ} → Walk may F H H w
walk_start = record { fell = λ e h. h; tried = λ e h g. absurd (clash h g) }

-- a turn at e, whose owner cannot be moved
pub walk_stuck : {may : ℕ → ℕ → Bool} {F H G K L : ℕ → Bool} {w : List ℕ} (e : ℕ) → Walk may F H G w → Flipped G e K → G e ≡ true → Stuck may F K L w (get_or w e 0) → Walk may F H L w
walk_stuck {may} {F} {H} {G} {K} {L} {w} e h f here k =
    let down : (j : ℕ) → L j ≡ true → G j ≡ true = λ j t. flipped_down f here j (k.fell j t) in
    record {
      fell = λ j t. h.fell j (down j t);
      tried = λ i p q. ⊎_elim
          (λ (g : K i ≡ true). k.tried i g q)
          (λ (g : K i ≡ false). ⊎_elim
          (λ (z : i ≡ e). subst (λ (j : ℕ). Shut may F L (get_or w j 0)) (sym z) k.self)
          (λ (n : i ≡ e → ⊥) (j : ℕ) (o : may (get_or w i 0) j ≡ true).
          let s = h.tried i p (sym (f.other i n) ∙ g) j o in
          (s.0, not_so (L j) (λ t. clash (down j t) s.1)))
          (same? i e))
          (holds? (K i));
    }

-- the loop ends: m may take no spare place, and no held place that was not tried
pub finish : {may : ℕ → ℕ → Bool} {F H G : ℕ → Bool} {w : List ℕ} {m : ℕ} → ((e : ℕ) → may m e ≡ true → F e ≡ true → ⊥) → ((e : ℕ) → may m e ≡ true → G e ≡ true → ⊥)
    → Walk may F H G w → Stuck may F H G w m
finish {may} {F} {H} {G} nofree noheld h = record { fell = h.fell; self = λ e o. (not_so (F e) (nofree e o), not_so (G e) (noheld e o)); tried = h.tried }

-- ---- the two ways to a chain

-- what stands at a place after a store: the stored value there, the old one elsewhere
pub at_set : (w : List ℕ) (e m : ℕ) → e < length w → (k : ℕ) → (k ≡ e → ⊥) ⊎ ((k ≡ e) × (get_or (set w e m) k 0 ≡ m))
at_set w e m fits k = ⊎_elim (λ (q : k ≡ e). inr (q, rw q (get_or-set_same w e m 0 fits))) (λ n. inl n) (same? k e)

-- the place is spare
pub give_spare : {ok : ℕ → ℕ → Bool} {w : List ℕ} {m : ℕ} (e : ℕ) → length w ≡ 32 → m < 32 → e < 32 → ok m e ≡ true → 32 ≤ get_or w e 0 → Served ok w m (set w e m)
give_spare {w} {m} e size member within mine spare =
    let fits : e < length w = omega arith in
    record {
      size = length-set w e m;
      more =
          let a = cnt_set m w e m fits in
          let b = miss (get_or w e 0) m (λ q. omega arith) in
          let c = hit m m refl in
          omega arith;
      others = λ v l n.
          let a = cnt_set v w e m fits in
          let b = miss (get_or w e 0) v (λ q. omega arith) in
          let c = miss m v (λ q. n (sym q)) in
          omega arith;
      moved = λ k. ⊎_elim (λ n. inl (get_or-set_other w e k m 0 n)) (λ t. inr (rw (t.1, t.0) mine)) (at_set w e m fits k);
      spare = λ k l. ⊎_elim (λ n. get_or-set_other w e k m 0 n) (λ t. let z = t.1 in let never : ⊥ = omega arith in absurd never) (at_set w e m fits k);
    }

-- the place is a member's, for whom the call found another and left this one as it was
give_chain : {ok : ℕ → ℕ → Bool} {w x : List ℕ} {m : ℕ} (e : ℕ) → length w ≡ 32 → m < 32 → ok m e ≡ true → e < 32
    → get_or x e 0 ≡ get_or w e 0 → Served ok w (get_or w e 0) x → Served ok w m (set x e m)
give_chain {ok} {w} {x} {m} e size member mine within there s =
    let fits : e < length x = let a = s.size in omega arith in
    let kept : (v : ℕ) → v < 32 → cnt v (set x e m) ≡ cnt v w + one_if (eqb m v) = λ v l. let a = cnt_set v x e m fits in ⊎_elim
    (λ (q : v ≡ get_or w e 0).
    let b = hit (get_or x e 0) v (there ∙ sym q) in
    let d : cnt v x ≡ cnt v w + 1 = subst (λ (u : ℕ). cnt u x ≡ cnt u w + 1) (sym q) s.more in
    omega arith)
    (λ (q : v ≡ get_or w e 0 → ⊥).
    let b = miss (get_or x e 0) v (λ r. q (sym r ∙ there)) in
    let d = s.others v l q in
    omega arith)
    (same? v (get_or w e 0)) in
    record {
      size = length-set x e m ∙ s.size;
      more = let a = kept m member in let c = hit m m refl in omega arith;
      others = λ v l n. let a = kept v l in let c = miss m v (λ q. n (sym q)) in omega arith;
      moved = λ k. ⊎_elim
          (λ n. ⊎_elim (λ q. inl (get_or-set_other x e k m 0 n ∙ q)) (λ o. inr (rw (get_or-set_other x e k m 0 n) o)) (s.moved k))
          (λ t. inr (rw (t.1, t.0) mine))
          (at_set x e m fits k);
      spare = λ k l. ⊎_elim
          (λ n. let q = get_or-set_other x e k m 0 n in q ∙ s.spare k (rw q at l))
          (λ t. let z = t.1 in let never : ⊥ = omega arith in absurd never)
          (at_set x e m fits k);
    }

-- the same in the loop, where fewer places were left for the call
pub turn_served : {may : ℕ → ℕ → Bool} {F H G K : ℕ → Bool} {w x : List ℕ} {m : ℕ} (e : ℕ) → Ready F H w m → may m e ≡ true → e < 32
    → Walk may F H G w → Flipped G e K → G e ≡ true → Served (reach may F K) w (get_or w e 0) x → Served (reach may F H) w m (set x e m)
turn_served {may} {F} {H} {G} {K} {w} {x} {m} e r row low h f here s =
    let down : (j : ℕ) → K j ≡ true → H j ≡ true = λ j t. h.fell j (flipped_down f here j t) in
    let held = r.held e (h.fell e here) in
    let not_free : F e ≡ false = not_so (F e) (λ t. let z = r.free e t in omega arith) in
    give_chain e r.size r.member (reach_held may F H m e row (h.fell e here)) low
    (served_kept may F K s e not_free (flipped_out f here)) (served_wider (reach_wider may F K H down) s)

-- ---- of the spare places a chain takes one
pub filled_spare : {F : ℕ → Bool} {w : List ℕ} {m : ℕ} (e : ℕ) → length w ≡ 32 → m < 32 → e < 32 → F e ≡ true → Filled F w (set w e m) e
filled_spare {F} {w} {m} e size member low f = record {
  inside = f;
  here = let q = get_or-set_same w e m 0 (omega arith) in omega arith;
  others = λ i n l. let q = get_or-set_other w e i m 0 n in omega arith;
}

pub filled_chain : {F : ℕ → Bool} {w x : List ℕ} {t : ℕ} (e m : ℕ) → ((i : ℕ) → F i ≡ true → 32 ≤ get_or w i 0) → get_or w e 0 < 32 → Filled F w x t → Filled F w (set x e m) t
filled_chain {F} {w} {x} {t} e m free held f =
    let not_here : (i : ℕ) → 32 ≤ get_or w i 0 → i ≡ e → ⊥ = λ i l q. let z : get_or w i 0 ≡ get_or w e 0 = ap (λ (j : ℕ). get_or w j 0) q in omega arith in
    record {
      inside = f.inside;
      here = let q = get_or-set_other x e t m 0 (not_here t (free t f.inside)) in let h = f.here in omega arith;
      others = λ i n l. let q = get_or-set_other x e i m 0 (not_here i l) in let h = f.others i n l in omega arith;
    }

-- what `settle` gives where a chain was found, and where there is none
pub settled_found : {may : ℕ → ℕ → Bool} {F H G : ℕ → Bool} {w x : List ℕ} {m r : ℕ} → r < 32 → Served (reach may F H) w m x → Filled F w x r → Settled may F H w m r G x
settled_found low s f = record { served = λ _. s; filled = λ _. f; stuck = λ z. absurd (omega arith); same = λ z. absurd (omega arith); none = λ z. absurd (omega arith) }

pub settled_none : {may : ℕ → ℕ → Bool} {F H G : ℕ → Bool} {w x : List ℕ} {m : ℕ} → Stuck may F H G w m → x ≡ w → Settled may F H w m 255 G x
settled_none k q = record { served = λ z. absurd (omega arith); filled = λ z. absurd (omega arith); stuck = λ z. k; same = λ z. q; none = λ z. refl }

-- ---- the spare places of a piece, one by one
between_wider : (from e j : ℕ) → between from e j ≡ true → between from (e + 1) j ≡ true
between_wider from e j b = let x = between_from from e j b in let y = between_to from e j b in between_in from (e + 1) j x (omega arith)

between_less : (from e j : ℕ) → (j ≡ e → ⊥) → between from (e + 1) j ≡ true → between from e j ≡ true
between_less from e j n b = let x = between_from from (e + 1) j b in let y = between_to from (e + 1) j b in between_in from e j x (omega arith)

pub spares_none : {w : List ℕ} {from : ℕ} {F : ℕ → Bool} → ((e : ℕ) → F e ≡ false) → Spares w from from F
spares_none {w} {from} {F} none = record {
  free = λ e f. absurd (clash f (none e));
  held = λ e b. let x = between_from from from e b in let y = between_to from from e b in absurd (omega arith);
}

module _ {w : List ℕ} {from e : ℕ} {F : ℕ → Bool} (begun : from ≤ e) (h : Spares w from e F) where
  pub spares_free : {S : ℕ → Bool} → Plus F e S → 32 ≤ get_or w e 0 → Spares w from (e + 1) S
  spares_free {S} p l = record {
    free = λ j f. ⊎_elim
        (λ (q : j ≡ e). (rw q (between_in from (e + 1) e begun (omega arith)), rw q l))
        (λ (n : j ≡ e → ⊥). let t = h.free j (sym (p.other j n) ∙ f) in (between_wider from e j t.0, t.1))
        (same? j e);
    held = λ j b f. ⊎_elim
        (λ (q : j ≡ e). absurd (clash (subst (λ (i : ℕ). S i ≡ true) (sym q) p.self) f))
        (λ (n : j ≡ e → ⊥). h.held j (between_less from e j n b) (sym (p.other j n) ∙ f))
        (same? j e);
  }

  pub spares_held : get_or w e 0 < 32 → Spares w from (e + 1) F
  spares_held l = record {
    free = λ j f. let t = h.free j f in (between_wider from e j t.0, t.1);
    held = λ j b f. ⊎_elim (λ (q : j ≡ e). rw q l) (λ (n : j ≡ e → ⊥). h.held j (between_less from e j n b) f) (same? j e);
  }

-- a byte that a chain left spare was spare
pub served_held : {ok : ℕ → ℕ → Bool} {w x : List ℕ} {m : ℕ} → Served ok w m x → (i : ℕ) → get_or w i 0 < 32 → get_or x i 0 < 32
served_held {ok} {w} {x} s i l = ⊎_elim (λ (z : get_or x i 0 < 32). z) (λ (z : 32 ≤ get_or x i 0). let y = s.spare i z in omega arith) (below (get_or x i 0) 32)

-- one place was given away
pub spares_filled : {w x : List ℕ} {from to t m : ℕ} {F E : ℕ → Bool} {ok : ℕ → ℕ → Bool} → Spares w from to F → Filled F w x t → Served ok w m x → Flipped F t E → Spares x from to E
spares_filled {w} {x} {from} {to} {t} {m} {F} {E} o f s flip = record {
  free = λ i e. ⊎_elim
      (λ (q : i ≡ t). absurd (clash (subst (λ (j : ℕ). E j ≡ true) q e) (flipped_out flip f.inside)))
      (λ (n : i ≡ t → ⊥). let h = o.free i (sym (flip.other i n) ∙ e) in (h.0, f.others i n h.1))
      (same? i t);
  held = λ i b e. ⊎_elim
      (λ (q : i ≡ t). subst (λ (j : ℕ). get_or x j 0 < 32) (sym q) f.here)
      (λ (n : i ≡ t → ⊥). served_held s i (o.held i b (sym (flip.other i n) ∙ e)))
      (same? i t);
}

-- the places after e
pub spares_after : {w : List ℕ} {e to : ℕ} (free after : ℕ) → ((i : ℕ) → bit after i ≡ between (e + 1) to i) → Spares w e to (bit free) → Spares w (e + 1) to (bit (bit_and free after))
spares_after {w} {e} {to} free after p o = record {
  free = λ i f. let t = and_bits free after i f in (sym (p i) ∙ t.1, (o.free i t.0).1);
  held = λ i b f.
      let x = between_from (e + 1) to i b in
      o.held i (between_in e to i (omega arith) (between_to (e + 1) to i b))
      (not_so (bit free i) (λ t. clash (bit_and_lem free after i ∙ both (bit free i) (bit after i) t (p i ∙ b)) f));
}

-- ---- the held places of a piece: those that are not spare
module _ {w : List ℕ} {from to : ℕ} (piece free : ℕ) (o : Spares w from to (bit free)) (p : (e : ℕ) → bit piece e ≡ between from to e) where
  held_is : (e : ℕ) → bit (bit_xor piece free) e ≡ odd (bit free e) (between from to e)
  held_is e = bit_xor_lem piece free e ∙ ap (λ (t : Bool). odd (bit free e) t) (p e)

  pub held_inv : (e : ℕ) → bit (bit_xor piece free) e ≡ true → (between from to e ≡ true) × (bit free e ≡ false) × (get_or w e 0 < 32)
  held_inv e h = ⊎_elim
      (λ (f : bit free e ≡ true).
      let b = (o.free e f).0 in
      absurd (clash h (held_is e ∙ ap (λ (t : Bool). odd t (between from to e)) f ∙ ap not b)))
      (λ (f : bit free e ≡ false).
      let b : between from to e ≡ true = sym (ap (λ (t : Bool). odd t (between from to e)) f) ∙ sym (held_is e) ∙ h in
      (b, f, o.held e b f))
      (holds? (bit free e))

  pub held_in : (e : ℕ) → between from to e ≡ true → bit free e ≡ false → bit (bit_xor piece free) e ≡ true
  held_in e b f = held_is e ∙ ap (λ (t : Bool). odd t (between from to e)) f ∙ b

  -- a place of the piece is spare or held
  pub open_in : (e : ℕ) → between from to e ≡ true → (bit free e ≡ true) ⊎ (bit (bit_xor piece free) e ≡ true)
  open_in e b = ⊎_elim inl (λ (f : bit free e ≡ false). inr (held_in e b f)) (holds? (bit free e))

  -- what a search asks
  pub ready : {m : ℕ} → length w ≡ 32 → m < 32 → Ready (bit free) (bit (bit_xor piece free)) w m
  ready size member = record { member = member; size = size; free = λ e f. (o.free e f).1; held = λ e h. (held_inv e h).2 }

-- what is open to a chain is of the piece
pub within_may : (may : ℕ → ℕ → Bool) (from to v e : ℕ) → within may from to v e ≡ true → may v e ≡ true
unfolding within
within_may may from to v e = and_left (may v e) (between from to e)

pub within_piece : (may : ℕ → ℕ → Bool) (from to v e : ℕ) → within may from to v e ≡ true → between from to e ≡ true
unfolding within
within_piece may from to v e = and_right (may v e) (between from to e)

pub within_both : (may : ℕ → ℕ → Bool) (from to v e : ℕ) → may v e ≡ true → between from to e ≡ true → within may from to v e ≡ true
unfolding within
within_both may from to v e = both (may v e) (between from to e)

pub served_within : (may : ℕ → ℕ → Bool) (from to : ℕ) (F H : ℕ → Bool) {w x : List ℕ} {m : ℕ} → ((e : ℕ) → F e ≡ true → between from to e ≡ true) → ((e : ℕ) → H e ≡ true → between from to e ≡ true)
    → Served (reach may F H) w m x → Served (within may from to) w m x
served_within may from to F H free held =
    served_wider (λ v e o. within_both may from to v e (reach_row may F H v e o) (⊎_elim (free e) (held e) (reach_open may F H v e o)))
