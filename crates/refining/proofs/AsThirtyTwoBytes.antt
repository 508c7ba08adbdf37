-- Assignments as 32 bytes: the members served one by one, and one exchange. Assumes nothing.
use mathlib.Core.Path.{◌≡◌, sym, ap, ◌∙◌, subst}
use mathlib.Core.Logic.{◌⊎◌, inl, inr, ⊎_elim}
use mathlib.Core.Bool.{Bool, true, false, not, ◌&&◌}
use mathlib.Core.List.{List}
use Prim.Native.Nat.{ℕ, ◌+◌, ◌≤◌, ◌<◌}
use native.Mathlib.Omega.{arith}
use lib.Dec.{eqb}
use lib.ListN.{length, get_or, set, replicate, length-set, length-replicate, get_or-replicate}
use lib.Seq.{get_or-set_same, get_or-set_other}
use Rattle.facts.specs.Counting.{one_if, between, cnt}
use Rattle.masks.specs.Masks.{Plus, Flipped}
use Rattle.blocks.specs.Assignment.{Short}
use Rattle.chains.specs.Chain.{within, Spares, Served, Shut, Stuck, Blocked}
use Rattle.refining.specs.AsBytes.{fits, Partly, Dealt}
use Rattle.refining.specs.Refine.{Tries, Around, Moves}
use Rattle.facts.proofs.Cases.{same?, below, holds?, clash, not_so, and_left, and_right, both, hit, miss}
use Rattle.facts.proofs.Spans.{between_in, between_from, between_to}
use Rattle.facts.proofs.Counting.{cnt_set, cnt_at, cnt_place, cnt_two, cnt_replicate}
use Rattle.chains.proofs.Chains.{within_may, within_piece}
use Rattle.chains.proofs.Blocked.{blocked_short}

-- ---- what fits
pub within_in : (may : ℕ → ℕ → Bool) (from to v e : ℕ) → may v e ≡ true → from ≤ e → e < to → within may from to v e ≡ true
unfolding within
within_in may from to v e r f t = both (may v e) (between from to e) r (between_in from to e f t)

pub fits_block : (may : ℕ → ℕ → Bool) (first k from to v e : ℕ) → fits may first k from to v e ≡ true → between first (first + k) v ≡ true
unfolding fits
fits_block may first k from to v e = and_left (between first (first + k) v) (within may from to v e)

pub fits_within : (may : ℕ → ℕ → Bool) (first k from to v e : ℕ) → fits may first k from to v e ≡ true → within may from to v e ≡ true
unfolding fits
fits_within may first k from to v e = and_right (between first (first + k) v) (within may from to v e)

pub fits_in : (may : ℕ → ℕ → Bool) (first k from to v e : ℕ) → between first (first + k) v ≡ true → within may from to v e ≡ true → fits may first k from to v e ≡ true
unfolding fits
fits_in may first k from to v e = both (between first (first + k) v) (within may from to v e)

-- each byte is 255, or a member that fits
abbrev Right : (ℕ → ℕ → Bool) → ℕ → ℕ → ℕ → ℕ → List ℕ → Type 0
Right may first k from to w = (e : ℕ) → e < 32 → (get_or w e 0 ≡ 255) ⊎ (fits may first k from to (get_or w e 0) e ≡ true)

-- a byte below 255 is a member that fits
right_fits : (may : ℕ → ℕ → Bool) (first k from to : ℕ) (w : List ℕ) → Right may first k from to w → (e : ℕ) → e < 32 → get_or w e 0 < 255 → fits may first k from to (get_or w e 0) e ≡ true
right_fits may first k from to w right e l z = ⊎_elim (λ (q : get_or w e 0 ≡ 255). absurd (omega arith)) (λ h. h) (right e l)

-- a member that holds a place is of the block
right_block : (may : ℕ → ℕ → Bool) (first k from to : ℕ) (w : List ℕ) → Right may first k from to w → length w ≡ 32 → (v : ℕ) → v < 255 → 1 ≤ cnt v w → between first (first + k) v ≡ true
right_block may first k from to w right size v z c =
    let s = cnt_place v w c in
    let h = s.here in
    let l : s.place < 32 = omega (arith, s.early) in
    subst (λ (x : ℕ). between first (first + k) x ≡ true) h (fits_block may first k from to _ s.place (right_fits may first k from to w right s.place l (omega arith)))

module _ {may : ℕ → ℕ → Bool} {first k from to : ℕ} {w : List ℕ} (d : Dealt may first k from to w) where
  pub dealt_fits : (e : ℕ) → e < 32 → get_or w e 0 < 255 → fits may first k from to (get_or w e 0) e ≡ true
  dealt_fits = right_fits may first k from to w d.right

  pub dealt_block : (v : ℕ) → v < 255 → 1 ≤ cnt v w → between first (first + k) v ≡ true
  dealt_block = right_block may first k from to w d.right d.size

  -- no member has two places
  pub dealt_one : (v : ℕ) → v < 255 → cnt v w ≤ 1
  dealt_one v z = ⊎_elim
      (λ (l : cnt v w < 1). omega arith)
      (λ (l : 1 ≤ cnt v w). let b = dealt_block v z l in let o = d.once v (between_from first (first + k) v b) (between_to first (first + k) v b) in omega arith)
      (below (cnt v w) 1)

-- ---- one member more
right_served : (may : ℕ → ℕ → Bool) (first k from to : ℕ) {ok : ℕ → ℕ → Bool} {w x : List ℕ} {m : ℕ} → first + k ≤ 32 → length w ≡ 32 → Right may first k from to w
    → between first (first + k) m ≡ true → ((v e : ℕ) → ok v e ≡ true → within may from to v e ≡ true) → Served ok w m x → Right may first k from to x
right_served may first k from to {ok} {w} {x} {m} block size right member wide s e l =
    let same : (y : ℕ) → get_or x e 0 ≡ get_or w e 0 → (get_or x e 0 ≡ 255) ⊎ (fits may first k from to (get_or x e 0) e ≡ true) = λ y q. rw q (right e l) in
    ⊎_elim
    (λ (z : get_or x e 0 < 32). ⊎_elim
    (λ (q : get_or x e 0 ≡ get_or w e 0). same 0 q)
    (λ (o : ok (get_or x e 0) e ≡ true).
    let long = s.size in
    let at_least_lem = cnt_at x e (omega arith) in
    let b : between first (first + k) (get_or x e 0) ≡ true = ⊎_elim
    (λ (q : get_or x e 0 ≡ m). rw q member)
    (λ (q : get_or x e 0 ≡ m → ⊥). let others = s.others (get_or x e 0) z q in right_block may first k from to w right size (get_or x e 0) (omega arith) (omega arith))
    (same? (get_or x e 0) m) in
    inr (fits_in may first k from to (get_or x e 0) e b (wide (get_or x e 0) e o)))
    (s.moved e))
    (λ (z : 32 ≤ get_or x e 0). same 0 (s.spare e z))
    (below (get_or x e 0) 32)

pub partly_start : {may : ℕ → ℕ → Bool} {first k from to : ℕ} {U : ℕ → Bool} → first + k ≤ 32 → ((m : ℕ) → U m ≡ between first (first + k) m) → Partly may first k from to (replicate 32 255) U
partly_start {may} {first} {k} {from} {to} {U} block all = record {
  size = length-replicate {A = ℕ} 32 255;
  right = λ e l. inl (get_or-replicate {A = ℕ} 32 e 255 0 l);
  once = λ m b u. absurd (clash (all m ∙ b) u);
  waits = λ m u. let b = sym (all m) ∙ u in let t = between_to first (first + k) m b in (b, cnt_replicate m 255 (λ q. omega arith) 32);
}

module _ {may : ℕ → ℕ → Bool} {first k from to : ℕ} {w : List ℕ} {U : ℕ → Bool} (p : Partly may first k from to w U) where
  pub partly_done : ((m : ℕ) → U m ≡ false) → Dealt may first k from to w
  partly_done none = record { size = p.size; right = p.right; once = λ m f t. p.once m (between_in first (first + k) m f t) (none m) }

  -- a member that holds a place is of the block
  pub partly_block : (v : ℕ) → v < 255 → 1 ≤ cnt v w → between first (first + k) v ≡ true
  partly_block = right_block may first k from to w p.right p.size

  -- the members that wait, as another test
  pub partly_waits : {R : ℕ → Bool} → ((m : ℕ) → R m ≡ U m) → Partly may first k from to w R
  partly_waits same = record { size = p.size; right = p.right; once = λ m b r. p.once m b (sym (same m) ∙ r); waits = λ m r. p.waits m (sym (same m) ∙ r) }

  -- only what members of the block may take of the piece matters
  pub partly_same : {may' : ℕ → ℕ → Bool} → ((m e : ℕ) → between first (first + k) m ≡ true → between from to e ≡ true → may' m e ≡ may m e) → Partly may' first k from to w U
  partly_same {may'} same = record {
    size = p.size;
    right = λ e l. ⊎_elim inl
        (λ (f : fits may first k from to (get_or w e 0) e ≡ true).
        let b = fits_block may first k from to _ e f in
        let h = fits_within may first k from to _ e f in
        let i = within_piece may from to _ e h in
        inr (fits_in may' first k from to _ e b (within_in may' from to _ e (same _ e b i ∙ within_may may from to _ e h) (between_from from to e i) (between_to from to e i))))
        (p.right e l);
    once = p.once;
    waits = p.waits;
  }

  module _ {m : ℕ} (block : first + k ≤ 32) (left : U m ≡ true) where
    pub partly_low : m < 32
    partly_low = let t = between_to first (first + k) m (p.waits m left).0 in omega arith

    pub partly_served : {R : ℕ → Bool} {x : List ℕ} → Flipped U m R → Served (within may from to) w m x → Partly may first k from to x R
    partly_served {R} {x} flip s = record {
      size = s.size ∙ p.size;
      right = right_served may first k from to block p.size p.right (p.waits m left).0 (λ v e o. o) s;
      once = λ v b r. let t = between_to first (first + k) v b in ⊎_elim
          (λ (q : v ≡ m). let a = s.more in let n = (p.waits m left).1 in rw q (omega arith))
          (λ (q : v ≡ m → ⊥). let a = s.others v (omega arith) q in let o = p.once v b (sym (flip.other v q) ∙ r) in omega arith)
          (same? v m);
      waits = λ v r. ⊎_elim
          (λ (q : v ≡ m). absurd (clash (subst (λ (j : ℕ). R j ≡ true) q r) (flip.self ∙ ap not left)))
          (λ (q : v ≡ m → ⊥).
          let h = p.waits v (sym (flip.other v q) ∙ r) in
          let t = between_to first (first + k) v h.0 in
          let a = s.others v (omega arith) q in
          let n = h.1 in
          (h.0, omega arith))
          (same? v m);
    }

    -- no chain for m: a group of the block is short
    pub partly_short : Blocked (within may from to) w m → Short may first k from to
    partly_short b = blocked_short b p.size partly_low (p.waits m left).1 one
        (λ v. ⊎_elim (λ (q : v ≡ m). rw q (p.waits m left).0) (λ (q : (v < 32) × (1 ≤ cnt v w)). let z = q.0 in partly_block v (omega arith) q.1))
      where
        one : (v : ℕ) → v < 32 → cnt v w ≤ 1
        one v z = ⊎_elim
            (λ (l : cnt v w < 1). omega arith)
            (λ (l : 1 ≤ cnt v w). ⊎_elim
            (λ (u : U v ≡ true). let n = (p.waits v u).1 in omega arith)
            (λ (u : U v ≡ false). let n = p.once v (partly_block v (omega arith) l) u in omega arith)
            (holds? (U v)))
            (below (cnt v w) 1)

-- ---- m takes e, and its old place p, after e, is spare
abbrev pub swap : List ℕ → ℕ → ℕ → ℕ → List ℕ
swap w p e m = set (set w p 255) e m

module _ (w : List ℕ) (p e m : ℕ) (size : length w ≡ 32) (later : e < p) (low : p < 32) (there : get_or w p 0 ≡ m) where
  pub swap_size : length (swap w p e m) ≡ 32
  swap_size = length-set (set w p 255) e m ∙ length-set w p 255 ∙ size

  swap_here : get_or (swap w p e m) e 0 ≡ m
  swap_here = get_or-set_same (set w p 255) e m 0 (let l = length-set w p 255 in omega arith)

  swap_other : (i : ℕ) → (i ≡ e → ⊥) → (i ≡ p → ⊥) → get_or (swap w p e m) i 0 ≡ get_or w i 0
  swap_other i ne np = get_or-set_other (set w p 255) e i m 0 ne ∙ get_or-set_other w p i 255 0 np

  swap_old : get_or (swap w p e m) p 0 ≡ 255
  swap_old = get_or-set_other (set w p 255) e p m 0 (λ q. omega arith) ∙ get_or-set_same w p 255 0 (omega arith)

  swap_before : (i : ℕ) → i < e → get_or (swap w p e m) i 0 ≡ get_or w i 0
  swap_before i l = swap_other i (λ q. omega arith) (λ q. omega arith)

  swap_cnt : (v : ℕ) → v < 255 → cnt v (swap w p e m) + one_if (eqb (get_or w e 0) v) ≡ cnt v w
  swap_cnt v l =
      let n = length-set w p 255 in
      let a = cnt_set v (set w p 255) e m (omega arith) in
      let b = cnt_set v w p 255 (omega arith) in
      let c : get_or (set w p 255) e 0 ≡ get_or w e 0 = get_or-set_other w p e 255 0 (λ q. omega arith) in
      let f = ap (λ (x : ℕ). one_if (eqb x v)) c in
      let g = ap (λ (x : ℕ). one_if (eqb x v)) there in
      let h = miss 255 v (λ q. omega arith) in
      omega arith

  swap_right : (may : ℕ → ℕ → Bool) (first k from to : ℕ) → fits may first k from to m e ≡ true → Right may first k from to w → Right may first k from to (swap w p e m)
  swap_right may first k from to f right i l = ⊎_elim
      (λ (q : i ≡ e). inr (subst (λ (j : ℕ). fits may first k from to (get_or (swap w p e m) j 0) j ≡ true) (sym q) (subst (λ (x : ℕ). fits may first k from to x e ≡ true) (sym swap_here) f)))
      (λ (q : i ≡ e → ⊥). ⊎_elim
      (λ (r : i ≡ p). inl (ap (λ (j : ℕ). get_or (swap w p e m) j 0) r ∙ swap_old))
      (λ (r : i ≡ p → ⊥). let z = swap_other i q r in ⊎_elim (λ h. inl (z ∙ h)) (λ h. inr (subst (λ (x : ℕ). fits may first k from to x i ≡ true) (sym z) h)) (right i l))
      (same? i p))
      (same? i e)

  -- what is spare after e then
  pub swap_spares : (to : ℕ) {F S : ℕ → Bool} → p < to → Plus F p S → Spares w (e + 1) to F → Spares (swap w p e m) (e + 1) to S
  swap_spares to {F} {S} early plus o =
      let not_e : (i : ℕ) → between (e + 1) to i ≡ true → i ≡ e → ⊥ = λ i b q. let z = between_from (e + 1) to i b in omega arith in
      record {
        free = λ i s. ⊎_elim
            (λ (q : i ≡ p). subst (λ (j : ℕ). (between (e + 1) to j ≡ true) × (32 ≤ get_or (swap w p e m) j 0)) (sym q) (
              between_in (e + 1) to p (omega arith) early,
              (let z = swap_old in omega arith),
            ))
            (λ (n : i ≡ p → ⊥). let f = o.free i (sym (plus.other i n) ∙ s) in let l = f.1 in let z = swap_other i (not_e i f.0) n in (f.0, omega arith))
            (same? i p);
        held = λ i b s. ⊎_elim
            (λ (q : i ≡ p). absurd (clash (subst (λ (j : ℕ). S j ≡ true) (sym q) plus.self) s))
            (λ (n : i ≡ p → ⊥). let l = o.held i b (sym (plus.other i n) ∙ s) in let z = swap_other i (not_e i b) n in omega arith)
            (same? i p);
      }

  -- m, who stands once, stands at p only
  once_there : (i : ℕ) → i < 32 → (i ≡ p → ⊥) → get_or w i 0 ≡ m → cnt m w ≤ 1 → ⊥
  once_there i l n q once =
      let two : (a b : ℕ) → a < b → b < 32 → get_or w a 0 ≡ m → get_or w b 0 ≡ m → ⊥ = λ a b less short x y.
      let z : 2 ≤ cnt m w = subst (λ (v : ℕ). 2 ≤ cnt v w) y (cnt_two w a b less (omega arith) (x ∙ sym y)) in
      omega arith in
      ⊎_elim (λ (k : i < p). two i p k low q there) (λ (k : p ≤ i). two p i (omega arith) l there q) (below i p)

  -- c can have another place: a search that is stuck would be a set around c without a spare place and without that of m
  pub swap_never : (to : ℕ) → to ≤ 32 → {may : ℕ → ℕ → Bool} {F S H G : ℕ → Bool} {c : ℕ} → Plus F p S → Spares w (e + 1) to F
      → ((i : ℕ) → between (e + 1) to i ≡ true → (S i ≡ true) ⊎ (H i ≡ true)) → ((i : ℕ) → H i ≡ true → (between (e + 1) to i ≡ true) × (S i ≡ false))
      → cnt m w ≤ 1 → Moves may (e + 1) to w c m → Stuck may S H G (swap w p e m) c → ⊥
  swap_never to end {may} {F} {S} {H} {G} {c} plus o all-open held once moves k =
      let Q : ℕ → Bool = λ i. H i && not (G i) in
      let not_p : (i : ℕ) → H i ≡ true → i ≡ p → ⊥ = λ i h q. clash plus.self (subst (λ (j : ℕ). S j ≡ false) q (held i h).1) in
      let shut : (v : ℕ) → Shut may S G v → (i : ℕ) → within may (e + 1) to v i ≡ true → Q i ≡ true = λ v z i t.
      let s = z i (within_may may (e + 1) to v i t) in
      ⊎_elim
      (λ (f : S i ≡ true). absurd (clash f s.0))
      (λ (h : H i ≡ true). both (H i) (not (G i)) h (ap not s.1))
      (all-open i (within_piece may (e + 1) to v i t)) in
      let around : Around may (e + 1) to w c Q = record {
        begins = shut c k.self;
        goes = λ i b l q.
            let h = and_left (H i) (not (G i)) q in
            let z = between_from (e + 1) to i b in
            shut (get_or w i 0) (subst (λ (v : ℕ). Shut may S G v) (swap_other i (λ r. omega arith) (not_p i h))
            (k.tried i h (not_so (G i) (λ g. clash (and_right (H i) (not (G i)) q) (ap not g)))));
      } in
      let ends : (i : ℕ) → Q i ≡ true → between (e + 1) to i ≡ true → (32 ≤ get_or w i 0) ⊎ (get_or w i 0 ≡ m) → ⊥ = λ i q b.
      let h = and_left (H i) (not (G i)) q in
      let t = between_to (e + 1) to i b in
      ⊎_elim
      (λ (l : 32 ≤ get_or w i 0). ⊎_elim
      (λ (f : F i ≡ true). clash (plus.other i (not_p i h) ∙ f) (held i h).1)
      (λ (f : F i ≡ false). let z = o.held i b f in omega arith)
      (holds? (F i)))
      (λ (z : get_or w i 0 ≡ m). once_there i (omega arith) (not_p i h) z once) in
      let found = moves Q around in
      ends found.0 found.1 found.2 found.3

-- ---- one exchange
-- w is an assignment, and m another member of the block that may take e
pub record Asks (may : ℕ → ℕ → Bool) (first k from to : ℕ) (w : List ℕ) (e m : ℕ) : Type 0 where
  pub dealt : Dealt may first k from to w
  pub after : from ≤ e
  pub member : between first (first + k) m ≡ true
  pub may_take : may m e ≡ true
  pub other : get_or w e 0 ≡ m → ⊥

module _ {may : ℕ → ℕ → Bool} {first k from to : ℕ} {w : List ℕ} {e m : ℕ} (block : first + k ≤ 32) (ask : Asks may first k from to w e m) (before : e < to) (end : to ≤ 32) where
  ask_fits : fits may first k from to m e ≡ true
  ask_fits = fits_in may first k from to m e ask.member (within_in may from to m e ask.may_take ask.after before)

  module _ {p : ℕ} (later : e < p) (low : p < 32) (there : get_or w p 0 ≡ m) where
    swapped_right : Right may first k from to (swap w p e m)
    swapped_right = swap_right w p e m ask.dealt.size later low there may first k from to ask_fits ask.dealt.right

    -- e was spare
    pub exchange_spare : 32 ≤ get_or w e 0 → Tries may first k from to w e m (swap w p e m)
    exchange_spare spare = record {
      dealt = record {
        size = swap_size w p e m ask.dealt.size later low there;
        right = swapped_right;
        once = λ v f t.
            let c = swap_cnt w p e m ask.dealt.size later low there v (omega arith) in
            let o = ask.dealt.once v f t in
            let n = miss (get_or w e 0) v (λ q. omega arith) in
            omega arith;
      };
      agrees = swap_before w p e m ask.dealt.size later low there;
      takes = swap_here w p e m ask.dealt.size later low there;
    }

    module _ (held : get_or w e 0 < 32) where
      owner_block : between first (first + k) (get_or w e 0) ≡ true
      owner_block = fits_block may first k from to _ e (dealt_fits ask.dealt e (omega arith) (omega arith))

      -- its owner was served by a place after e
      pub exchange_served : {y : List ℕ} → Served (within may (e + 1) to) (swap w p e m) (get_or w e 0) y → Tries may first k from to w e m y
      exchange_served {y} s =
          let x = swap w p e m in
          let as_x : (i : ℕ) → i < e + 1 → get_or y i 0 ≡ get_or x i 0 = λ i l. ⊎_elim
          (λ (q : get_or y i 0 ≡ get_or x i 0). q)
          (λ (o : within may (e + 1) to (get_or y i 0) i ≡ true). let b = between_from (e + 1) to i (within_piece may (e + 1) to _ i o) in absurd (omega arith))
          (s.moved i) in
          record {
            dealt = record {
              size = s.size ∙ swap_size w p e m ask.dealt.size later low there;
              right = right_served may first k from to block (swap_size w p e m ask.dealt.size later low there) swapped_right owner_block
                  (λ v i o.
                  let b = within_piece may (e + 1) to v i o in
                  let f = between_from (e + 1) to i b in
                  let a = ask.after in
                  within_in may from to v i (within_may may (e + 1) to v i o) (omega arith) (between_to (e + 1) to i b)) s;
              once = λ v f t.
                  let c = swap_cnt w p e m ask.dealt.size later low there v (omega arith) in
                  let o = ask.dealt.once v f t in
                  ⊎_elim
                  (λ (q : v ≡ get_or w e 0). let a : cnt v y ≡ cnt v x + 1 = rw q s.more in let n = hit (get_or w e 0) v (sym q) in omega arith)
                  (λ (q : v ≡ get_or w e 0 → ⊥). let a = s.others v (omega arith) q in let n = miss (get_or w e 0) v (λ r. q (sym r)) in omega arith)
                  (same? v (get_or w e 0));
            };
            agrees = λ i l. as_x i (omega arith) ∙ swap_before w p e m ask.dealt.size later low there i l;
            takes = as_x e (omega arith) ∙ swap_here w p e m ask.dealt.size later low there;
          }
