-- The rivals of a place, and who of them can have it. Assumes nothing.
-- open-*: the members that stand nowhere before e, as e goes on. rivals_sound, rivals_going: of them, those that may take e and are below its byte are the rivals, and all. leads_last: the last place has none.
-- holders-*: the members that hold places, one by one. moves_spare, moves_held: what an exploration shows. candidates_all, candidates_reached: so who can have e.
use mathlib.Core.Path.{◌≡◌, refl, sym, ap, ◌∙◌, subst}
use mathlib.Core.Logic.{inl, inr, ⊎_elim}
use mathlib.Core.Bool.{Bool, true, false, not, ◌&&◌}
use mathlib.Core.List.{List}
use Prim.Native.Nat.{ℕ, ◌+◌, ◌≤◌, ◌<◌, min}
use native.Mathlib.Omega.{arith}
use lib.Bits.{bit_xor}
use lib.Dec.{eqb}
use lib.ListN.{length, get_or, set, length-set}
use lib.Seq.{get_or-set_same, get_or-set_other}
use Rattle.facts.specs.Counting.{one_if, between, cnt}
use Rattle.masks.specs.Masks.{bit, Plus, Flipped}
use Rattle.rows.specs.Rows.{may, picks}
use Rattle.rows.specs.Columns.{Turned}
use Rattle.chains.specs.Chain.{reach, within, Spares, Spread, Explored, Holders, Blocked}
use Rattle.refining.specs.AsBytes.{Dealt}
use Rattle.refining.specs.Refine.{Rival, Standing, Agrees, Tries, Around, Moves, Candidates, Going, Open, Leads}
use Rattle.facts.proofs.Cases.{same?, below, holds?, clash, not_so, and_left, and_right, both, hit, miss}
use Rattle.facts.proofs.Spans.{between_in, between_from, between_to}
use Rattle.facts.proofs.Counting.{cnt_set, cnt_at, cnt_place, cnt_two}
use Rattle.rows.proofs.Rows.{turned_says}
use Rattle.masks.proofs.OneByOne.{flipped_out}
use Rattle.chains.proofs.Chains.{reach_row, reach_open, within_both, held_inv, open_in, within_may, within_piece}
use Rattle.chains.proofs.Blocked.{blocked_never, stuck_blocked}
use Rattle.refining.proofs.AsThirtyTwoBytes.{dealt_fits, dealt_block, dealt_one, fits_block, fits_within, within_in}
use Rattle.refining.proofs.Refinement.{byte, going_done, dealt_outside, leads_step}

-- ---- the members of the block that stand nowhere before e
pub open_start : {may : ℕ → ℕ → Bool} {first k from to : ℕ} {w : List ℕ} {O : ℕ → Bool} → first + k ≤ 32 → from ≤ 32 → Dealt may first k from to w → ((m : ℕ) → O m ≡ between first (first + k) m)
    → Open first k w from O
open_start {may} {first} {k} {from} {to} {w} {O} block end d same = record {
  sound = λ m o.
      let b = sym (same m) ∙ o in
      let t = between_to first (first + k) m b in
      (b, λ i l q. let z = dealt_outside d i (omega arith) (not_so (between from to i) (λ u. let y = between_from from to i u in omega arith)) in omega arith);
  complete = λ m b never. same m ∙ b;
}

pub open_agrees : {first k : ℕ} {w x : List ℕ} {e : ℕ} {O : ℕ → Bool} → Agrees x w e → Open first k w e O → Open first k x e O
open_agrees {first} {k} {w} {x} {e} {O} same o = record {
  sound = λ m t. let s = o.sound m t in (s.0, λ i l q. s.1 i l (sym (same i l) ∙ q));
  complete = λ m b never. o.complete m b (λ i l q. never i l (same i l ∙ q));
}

-- nobody is at e
pub open_spare : {first k : ℕ} {w : List ℕ} {e : ℕ} {O : ℕ → Bool} → first + k ≤ 32 → 32 ≤ get_or w e 0 → Open first k w e O → Open first k w (e + 1) O
open_spare {first} {k} {w} {e} {O} block spare o = record {
  sound = λ m t.
      let s = o.sound m t in
      let low = between_to first (first + k) m s.0 in (
        s.0,
        λ i l q. ⊎_elim
            (λ (z : i ≡ e). let y : get_or w i 0 ≡ get_or w e 0 = ap (λ (j : ℕ). get_or w j 0) z in absurd (omega arith))
            (λ (z : i ≡ e → ⊥). s.1 i (omega arith) q)
            (same? i e),
      );
  complete = λ m b never. o.complete m b (λ i l q. never i (omega arith) q);
}

-- a member is at e
pub open_held : {may : ℕ → ℕ → Bool} {first k from to : ℕ} {w : List ℕ} {e : ℕ} {O S : ℕ → Bool} → e < 32 → get_or w e 0 < 32 → Dealt may first k from to w → Open first k w e O → Flipped O (get_or w e 0) S
    → Open first k w (e + 1) S
open_held {may} {first} {k} {from} {to} {w} {e} {O} {S} low held d o f =
    let c = get_or w e 0 in
    let size = d.size in
    let block = fits_block may first k from to c e (dealt_fits d e low (omega arith)) in
    let one = dealt_one d c (omega arith) in
    let not_before : (i : ℕ) → i < e → get_or w i 0 ≡ c → ⊥ = λ i l q. let two = cnt_two w i e l (omega arith) q in omega arith in
    let here : O c ≡ true = o.complete c block not_before in
    record {
      sound = λ m t.
          let n : m ≡ c → ⊥ = λ q. clash (subst (λ (j : ℕ). S j ≡ true) q t) (flipped_out f here) in
          let s = o.sound m (sym (f.other m n) ∙ t) in (
            s.0,
            λ i l q. ⊎_elim
                (λ (z : i ≡ e). n (sym q ∙ ap (λ (j : ℕ). get_or w j 0) z))
                (λ (z : i ≡ e → ⊥). s.1 i (omega arith) q)
                (same? i e),
          );
      complete = λ m b never.
          f.other m (λ q. never e (omega arith) (sym q)) ∙ o.complete m b (λ i l q. never i (omega arith) q);
    }

-- ---- the rivals: of the open members, those that may take e and are below its byte
module _ {rows cols : List ℕ} {first k from to : ℕ} {w : List ℕ} {e : ℕ} {O R : ℕ → Bool} (block : first + k ≤ 32) (after : from ≤ e) (early : e < to) (end : to ≤ 32) (turned : Turned rows first k from to cols)
    (d : Dealt (picks cols) first k from to w) (o : Open first k w e O) (same : (m : ℕ) → R m ≡ ((may rows m e && O m) && between 0 (min (get_or w e 0) 32) m)) where
  pub rivals_sound : (m : ℕ) → R m ≡ true → Rival (picks cols) w e to m
  rivals_sound m r =
      let t = sym (same m) ∙ r in
      let both_of_lem = and_left (may rows m e && O m) (between 0 (min (get_or w e 0) 32) m) t in
      let small = between_to 0 (min (get_or w e 0) 32) m (and_right (may rows m e && O m) (between 0 (min (get_or w e 0) 32) m) t) in
      let s = o.sound m (and_right (may rows m e) (O m) both_of_lem) in
      let one = d.once m (between_from first (first + k) m s.0) (between_to first (first + k) m s.0) in
      let at = cnt_place m w (omega arith) in
      let i = at.place in
      let here = at.here in
      let size = d.size in
      let inside : i < 32 = omega (arith, at.early) in
      let fit = fits_within (picks cols) first k from to _ i (dealt_fits d i inside (omega arith)) in
      let past : e < i = ⊎_elim
      (λ (l : i < e). absurd (s.1 i l here))
      (λ (l : e ≤ i). ⊎_elim
      (λ (q : i ≡ e). let z : get_or w i 0 ≡ get_or w e 0 = ap (λ (j : ℕ). get_or w j 0) q in absurd (omega arith))
      (λ (q : i ≡ e → ⊥). omega arith)
      (same? i e))
      (below i e) in
      record {
        low = omega arith;
        below = omega arith;
        may_take = turned_says turned m e s.0 (between_in from to e after early) ∙ and_left (may rows m e) (O m) both_of_lem;
        later = record { place = i; after = past; early = between_to from to i (within_piece (picks cols) from to _ i fit); here = here };
      }

  pub rivals_going : Going (picks cols) first k from to w e R
  rivals_going = record {
    going = λ a da agrees less.
        let v = get_or a e 0 in
        let low : e < 32 = omega arith in
        ⊎_elim
        (λ (q : v ≡ 255). ⊎_elim
        (λ (r : get_or w e 0 ≡ 255). absurd (omega arith))
        (λ (r : (first ≤ get_or w e 0) × (get_or w e 0 < first + k) × (picks cols (get_or w e 0) e ≡ true)). let z = r.1 in absurd (omega arith))
        (byte d e low))
        (λ (q : (first ≤ v) × (v < first + k) × (picks cols v e ≡ true)).
        let top = q.1 in
        let b = between_in first (first + k) v q.0 q.1 in
        let once = da.once v q.0 q.1 in
        let size = da.size in
        let not_before : (i : ℕ) → i < e → get_or w i 0 ≡ v → ⊥ = λ i l z. let two = cnt_two a i e l (omega arith) (agrees i l ∙ z) in omega arith in
        same v ∙ both (may rows v e && O v) (between 0 (min (get_or w e 0) 32) v)
        (both (may rows v e) (O v) (sym (turned_says turned v e b (between_in from to e after early)) ∙ q.2) (o.complete v b not_before))
        (between_in 0 (min (get_or w e 0) 32) v (omega arith) (omega arith)))
        (byte da e low);
  }

-- the last place has no rivals: there is none after it to change with
pub leads_last : {rows cols : List ℕ} {first k from to : ℕ} {w : List ℕ} {e : ℕ} {O : ℕ → Bool} → first + k ≤ 32 → to ≤ 32 → from ≤ e → to ≤ e + 1 → e ≤ to → Turned rows first k from to cols
    → Open first k w e O → Leads (picks cols) first k from to w e → Leads (picks cols) first k from to w to
leads_last {rows} {cols} {first} {k} {from} {to} {w} {e} {O} block end after l z turned o h = ⊎_elim
    (λ (q : e ≡ to). subst (λ (i : ℕ). Leads (picks cols) first k from to w i) q h)
    (λ (n : e ≡ to → ⊥).
    let q : e + 1 ≡ to = omega arith in
    let R : ℕ → Bool = λ m. (may rows m e && O m) && between 0 (min (get_or w e 0) 32) m in
    let early : e < to = omega arith in
    let none : (m : ℕ) → R m ≡ false = λ m. not_so (R m) (λ r.
    let later = (rivals_sound {R = R} block after early end turned h.dealt o (λ v. refl) m r).later in
    let x = later.after in
    let y = later.early in
    omega arith) in
    subst (λ (i : ℕ). Leads (picks cols) first k from to w i) q (leads_step h (going_done block h.dealt (rivals_going {R = R} block after early end turned h.dealt o (λ v. refl)) none)))
    (same? e to)

-- ---- the holders of places, one by one: R are those that are left of P
pub holders_none : {w : List ℕ} {S : ℕ → Bool} (P : ℕ → Bool) → ((v : ℕ) → S v ≡ false) → Holders w (λ e. P e && not (P e)) S
holders_none {w} {S} P none = record {
  found = λ v s. absurd (clash s (none v));
  all = λ e l t. absurd (clash (and_right (P e) (not (P e)) t) (ap not (and_left (P e) (not (P e)) t)));
}

pub holders_more : {w : List ℕ} {R K S U : ℕ → Bool} (P : ℕ → Bool) (e : ℕ) → e < 32 → R e ≡ true → P e ≡ true → Flipped R e K → Plus S (get_or w e 0) U → Holders w (λ i. P i && not (R i)) S → Holders w (λ i. P i && not (K i)) U
holders_more {w} {R} {K} {S} {U} P e low here inside f plus h = record {
  found = λ v u. ⊎_elim
      (λ (q : v ≡ get_or w e 0). (e, low, both (P e) (not (K e)) inside (ap not (flipped_out f here)), sym q))
      (λ (n : v ≡ get_or w e 0 → ⊥).
      let s = h.found v (sym (plus.other v n) ∙ u) in
      let i = s.0 in
      let out = and_right (P i) (not (R i)) s.2 in
      let other : i ≡ e → ⊥ = λ q. clash out (ap not (subst (λ (j : ℕ). R j ≡ true) (sym q) here)) in
      (i, s.1, both (P i) (not (K i)) (and_left (P i) (not (R i)) s.2) (ap not (f.other i other) ∙ out), s.3))
      (same? v (get_or w e 0));
  all = λ i l t. ⊎_elim
      (λ (q : get_or w i 0 ≡ get_or w e 0). rw q plus.self)
      (λ (n : get_or w i 0 ≡ get_or w e 0 → ⊥).
      let other : i ≡ e → ⊥ = λ q. n (ap (λ (j : ℕ). get_or w j 0) q) in
      plus.other (get_or w i 0) n ∙ h.all i l (both (P i) (not (R i)) (and_left (P i) (not (K i)) t) (ap not (sym (f.other i other)) ∙ and_right (P i) (not (K i)) t)))
      (same? (get_or w i 0) (get_or w e 0));
}

-- the same places, as another test
pub holders_same : {w : List ℕ} {P T S : ℕ → Bool} → ((e : ℕ) → P e ≡ T e) → Holders w T S → Holders w P S
holders_same {w} {P} {T} {S} same h = record {
  found = λ v s. let f = h.found v s in (f.0, f.1, same f.0 ∙ f.2, f.3);
  all = λ e l p. h.all e l (sym (same e) ∙ p);
}

-- ---- what an exploration from the holder of e shows
module _ {may : ℕ → ℕ → Bool} {w : List ℕ} {from to c : ℕ} {found : Bool} {T : ℕ → Bool} (piece free : ℕ) (o : Spares w from to (bit free)) (p : (e : ℕ) → bit piece e ≡ between from to e)
    (x : Explored may (bit free) (bit (bit_xor piece free)) w c found T) where
  tried_here : (i : ℕ) → T i ≡ true → (between from to i ≡ true) × (bit free i ≡ false) × (get_or w i 0 < 32)
  tried_here i t = held_inv piece free o p i (x.inside i t)

  around_spread : {Q : ℕ → Bool} → Around may from to w c Q → Spread may (bit free) T w c Q
  around_spread {Q} a =
      let inside : (v e : ℕ) → reach may (bit free) T v e ≡ true → within may from to v e ≡ true = λ v e t.
      within_both may from to v e (reach_row may (bit free) T v e t)
      (⊎_elim (λ (f : bit free e ≡ true). (o.free e f).0) (λ (h : T e ≡ true). (tried_here e h).0) (reach_open may (bit free) T v e t)) in
      record { begins = λ e t. a.begins e (inside c e t); goes = λ i t q e u. let h = tried_here i t in a.goes i h.0 h.2 q e (inside (get_or w i 0) e u) }

  -- a spare place is reached: whoever takes e
  pub moves_spare : (m : ℕ) → found ≡ true → Moves may from to w c m
  moves_spare m yes-found Q a =
      let f = x.spare yes-found Q (around_spread a) in
      let h = o.free f.0 f.1 in
      (f.0, f.2, h.0, inl h.1)

  -- a place of m is reached
  pub moves_held : {S : ℕ → Bool} → Holders w T S → (m : ℕ) → S m ≡ true → Moves may from to w c m
  moves_held h m s Q a =
      let f = h.found m s in
      (f.0, x.all Q (around_spread a) f.0 f.2, (tried_here f.0 f.2).0, inr f.3)

-- ---- the candidates
pub candidates_all : {may : ℕ → ℕ → Bool} {to : ℕ} {w : List ℕ} {e : ℕ} {R : ℕ → Bool} → (get_or w e 0 < 32 → (m : ℕ) → Moves may (e + 1) to w (get_or w e 0) m) → Candidates may to w e R R
candidates_all moves = record { sound = λ m r. r; moves = λ m r held. moves held m; rest = λ first k from block after d m r c. absurd (clash r c) }

-- a rival that no chain from the owner of e leads to cannot have e: the group of the chain would have one place less
module _ {may : ℕ → ℕ → Bool} {w : List ℕ} {e to m : ℕ} (held : get_or w e 0 < 32) (end : to ≤ 32) (b : Blocked (within may (e + 1) to) w (get_or w e 0)) (r : Rival may w e to m) (out : b.group m ≡ false) where
  unreached_never : (first k from : ℕ) → first + k ≤ 32 → from ≤ e → Dealt may first k from to w → (a : List ℕ) → Tries may first k from to w e m a → ⊥
  unreached_never first k from block after d a t =
      let owner = get_or w e 0 in
      let x = set w e m in
      let size = d.size in
      let before_end : e < 32 = let p = r.later.after in let q = r.later.early in omega arith in
      let fits_w : e < length w = omega arith in
      let less = r.below in
      let counted : (v : ℕ) → cnt v x + one_if (eqb owner v) ≡ cnt v w + one_if (eqb m v) = λ v. cnt_set v w e m fits_w in
      let in_block : (v : ℕ) → v < 32 → 1 ≤ cnt v w → 1 ≤ cnt v a = λ v l c.
      let b = dealt_block d v (omega arith) c in
      let one = t.dealt.once v (between_from first (first + k) v b) (between_to first (first + k) v b) in
      omega arith in
      let later = r.later in
      let m_there : 1 ≤ cnt m w = let early = later.early in subst (λ (v : ℕ). 1 ≤ cnt v w) later.here (cnt_at w later.place (omega arith)) in
      let owner_there : 1 ≤ cnt owner w = cnt_at w e fits_w in
      let owner_one = dealt_one d owner (omega arith) in
      let blocked : Blocked (within may (e + 1) to) x owner = record {
        group = b.group;
        self = b.self;
        holders = λ v s. ⊎_elim inl
            (λ (q : (v < 32) × (1 ≤ cnt v w)). ⊎_elim inl
            (λ (n : v ≡ owner → ⊥). let c = counted v in let z = miss owner v (λ q. n (sym q)) in let y = q.1 in inr (q.0, omega arith))
            (same? v owner))
            (b.holders v s);
        closed = λ v s i l g.
            let f = between_from (e + 1) to i (within_piece may (e + 1) to v i g) in
            let owned = b.closed v s i l g in
            let same = get_or-set_other w e i m 0 (λ q. omega arith) in
            record { low = subst (λ (y : ℕ). y < 32) (sym same) owned.low; seen = subst (λ (y : ℕ). b.group y ≡ true) (sym same) owned.seen };
      } in
      blocked_never blocked (length-set w e m ∙ size) held
      (let c = counted owner in let z = hit owner owner refl in let y = miss m owner (λ q. omega arith) in omega arith)
      (λ v l s.
      let c = counted v in
      let one = dealt_one d v (omega arith) in
      let z = miss m v (λ q. clash s (subst (λ (y : ℕ). b.group y ≡ false) q out)) in
      omega arith)
      a t.dealt.size
      (λ i l z. ⊎_elim
      (λ (q : i < e). inl (t.agrees i q ∙ sym (get_or-set_other w e i m 0 (λ y. omega arith))))
      (λ (q : e ≤ i). ⊎_elim
      (λ (p : i ≡ e). inl (ap (λ (j : ℕ). get_or a j 0) p ∙ t.takes ∙ sym (get_or-set_same w e m 0 fits_w) ∙ ap (λ (j : ℕ). get_or x j 0) (sym p)))
      (λ (p : i ≡ e → ⊥).
      let f = fits_within may first k from to _ i (dealt_fits t.dealt i l (omega arith)) in
      inr (within_in may (e + 1) to _ i (within_may may from to _ i f) (omega arith) (between_to from to i (within_piece may from to _ i f))))
      (same? i e))
      (below i e))
      (in_block owner held owner_there)
      (λ v l n. ⊎_elim
      (λ (q : v ≡ m). in_block v l (subst (λ (y : ℕ). 1 ≤ cnt y w) (sym q) m_there))
      (λ (q : v ≡ m → ⊥). let c = counted v in let z = miss m v (λ p. q (sym p)) in in_block v l (omega arith))
      (same? v m))

-- none is spare: who is not reached cannot have e
pub candidates_reached : {may : ℕ → ℕ → Bool} {to : ℕ} {w : List ℕ} {e : ℕ} {R C S T : ℕ → Bool} {found : Bool} (piece free : ℕ) → Standing may to (bit free) w e R → ((i : ℕ) → bit piece i ≡ between (e + 1) to i)
    → get_or w e 0 < 32 → found ≡ false → Explored may (bit free) (bit (bit_xor piece free)) w (get_or w e 0) found T → Holders w T S → ((m : ℕ) → C m ≡ (R m && S m)) → Candidates may to w e R C
candidates_reached {may} {to} {w} {e} {R} {C} {S} {T} piece free st p held none x h both_of_lem =
    let o = st.spares in
    let H = bit (bit_xor piece free) in
    let tried : Holders w (λ i. H i && not (H i && not (T i))) S = holders_same
    (λ i. ⊎_elim
    (λ (t : T i ≡ true). both (H i) (not (H i && not (T i))) (x.inside i t) (ap not (not_so (H i && not (T i)) (λ z. clash (and_right (H i) (not (T i)) z) (ap not t)))) ∙ sym t)
    (λ (t : T i ≡ false). not_so (H i && not (H i && not (T i))) (λ z.
    let a = and_left (H i) (not (H i && not (T i))) z in
    clash (and_right (H i) (not (H i && not (T i))) z) (ap not (both (H i) (not (T i)) a (ap not t)))) ∙ sym t)
    (holds? (T i))) h in
    let b = stuck_blocked (e + 1) to (x.stuck none) tried st.size (λ i t. (held_inv piece free o p i t).2) (open_in piece free o p) in
    record {
      sound = λ m c. and_left (R m) (S m) (sym (both_of_lem m) ∙ c);
      moves = λ m c _. moves_held piece free o p x h m (and_right (R m) (S m) (sym (both_of_lem m) ∙ c));
      rest = λ first k from block after d m r c.
          let rival = st.rivals m r in
          let less = rival.below in
          let out = not_so (S m) (λ s. clash (both_of_lem m ∙ both (R m) (S m) r s) c) in
          unreached_never held st.end b.0 rival (b.1 m (λ q. omega arith) out) first k from block after d;
    }
