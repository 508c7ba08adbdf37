-- The steps of `explore`, over any sets of members and of places, and what it shows. Assumes nothing.
-- Exploring: the loop's invariant. explored_found, explored_stuck: its two ends. explored_never: where `explore` found a spare place, `settle` finds a chain.
use mathlib.Core.Path.{◌≡◌, refl, sym, ap, ◌∙◌, subst}
use mathlib.Core.Logic.{◌⊎◌, inl, inr, ⊎_elim}
use mathlib.Core.Bool.{Bool, true, false, not, ◌&&◌, ◌||◌}
use mathlib.Core.List.{List}
use Prim.Native.Nat.{ℕ, ◌^◌, ◌<◌}
use native.Mathlib.Omega.{arith}
use lib.Bits.{bit_and, and_le_r}
use lib.ListN.{get_or}
use Rattle.masks.specs.Masks.{bit, Flipped}
use Rattle.chains.specs.Chain.{Ready, reach, Shut, Stuck, Spread, Explored}
use Rattle.facts.proofs.Cases.{same?, holds?, clash, not_so, and_left, and_right, both, one_of, or_left, or_right}
use Rattle.masks.proofs.Masks.{odd, and_bits, lowest_bit}
use Rattle.masks.proofs.OneByOne.{flipped_down, flipped_out}
use Rattle.chains.proofs.Chains.{reach_row, reach_open, reach_free, reach_held}

-- the loop: R are the held places that are not tried yet, W is what m and the holders of the tried ones may take; each spread set has the tried ones, and
-- what is open of W
pub record Exploring (may : ℕ → ℕ → Bool) (F H R W : ℕ → Bool) (w : List ℕ) (m : ℕ) : Type 0 where
  pub fell : (e : ℕ) → R e ≡ true → H e ≡ true
  pub self : (e : ℕ) → may m e ≡ true → W e ≡ true
  pub tried : (i : ℕ) → H i ≡ true → R i ≡ false → (e : ℕ) → may (get_or w i 0) e ≡ true → W e ≡ true
  pub spread : (T Q : ℕ → Bool) → ((i : ℕ) → H i ≡ true → R i ≡ false → T i ≡ true) → Spread may F T w m Q
      → ((i : ℕ) → H i ≡ true → R i ≡ false → Q i ≡ true) × ((e : ℕ) → W e ≡ true → (F e ≡ true) ⊎ (T e ≡ true) → Q e ≡ true)

reach_in : (may : ℕ → ℕ → Bool) (F T : ℕ → Bool) (v e : ℕ) → may v e ≡ true → (F e ≡ true) ⊎ (T e ≡ true) → reach may F T v e ≡ true
reach_in may F T v e o = ⊎_elim (reach_free may F T v e o) (reach_held may F T v e o)

pub exploring_start : {may : ℕ → ℕ → Bool} {F H W : ℕ → Bool} {w : List ℕ} {m : ℕ} → ((e : ℕ) → W e ≡ may m e) → Exploring may F H H W w m
exploring_start {may} {F} {H} {W} {w} {m} row = record {
  fell = λ e h. h;
  self = λ e o. row e ∙ o;
  tried = λ i h r. absurd (clash h r);
  spread = λ T Q up s. (λ i h r. absurd (clash h r), λ e u o. s.begins e (reach_in may F T m e (sym (row e) ∙ u) o));
}

pub exploring_turn : {may : ℕ → ℕ → Bool} {F H R K W U : ℕ → Bool} {w : List ℕ} {m : ℕ} (e : ℕ) → Exploring may F H R W w m → Flipped R e K → R e ≡ true → W e ≡ true
    → ((j : ℕ) → U j ≡ (W j || may (get_or w e 0) j)) → Exploring may F H K U w m
exploring_turn {may} {F} {H} {R} {K} {W} {U} {w} {m} e x f here wide more = record {
  fell = λ j t. x.fell j (flipped_down f here j t);
  self = λ j o. more j ∙ or_left (W j) (may (get_or w e 0) j) (x.self j o);
  tried = λ i h k j o. ⊎_elim
      (λ (q : i ≡ e). more j ∙ or_right (W j) (may (get_or w e 0) j) (subst (λ (n : ℕ). may (get_or w n 0) j ≡ true) q o))
      (λ (n : i ≡ e → ⊥). more j ∙ or_left (W j) (may (get_or w e 0) j) (x.tried i h (sym (f.other i n) ∙ k) j o))
      (same? i e);
  spread = λ T Q up s.
      let old : (i : ℕ) → H i ≡ true → R i ≡ false → T i ≡ true = λ i h r. up i h (not_so (K i) (λ t. clash (flipped_down f here i t) r)) in
      let was = x.spread T Q old s in
      let now_tried : T e ≡ true = up e (x.fell e here) (flipped_out f here) in
      let now_in : Q e ≡ true = was.1 e wide (inr now_tried) in (
        λ i h k. ⊎_elim (λ (q : i ≡ e). rw q now_in) (λ (n : i ≡ e → ⊥). was.0 i h (sym (f.other i n) ∙ k)) (same? i e),
        λ j u o. ⊎_elim
            (λ (t : W j ≡ true). was.1 j t o)
            (λ (t : may (get_or w e 0) j ≡ true). s.goes e now_tried now_in j (reach_in may F T (get_or w e 0) j t o))
            (one_of (W j) (may (get_or w e 0) j) (sym (more j) ∙ u)),
      );
}

-- ---- the ends: T are the places that were tried
module _ {may : ℕ → ℕ → Bool} {F H R W T : ℕ → Bool} {w : List ℕ} {m : ℕ} (x : Exploring may F H R W w m) (same : (e : ℕ) → T e ≡ odd (R e) (H e)) where
  tried_in : (i : ℕ) → H i ≡ true → R i ≡ false → T i ≡ true
  tried_in i h r = same i ∙ ap (λ (t : Bool). odd t (H i)) r ∙ h

  tried_inv : (i : ℕ) → T i ≡ true → (H i ≡ true) × (R i ≡ false)
  tried_inv i t = ⊎_elim
      (λ (r : R i ≡ true). absurd (clash t (same i ∙ ap (λ (b : Bool). odd b (H i)) r ∙ ap not (x.fell i r))))
      (λ (r : R i ≡ false). (sym (ap (λ (b : Bool). odd b (H i)) r) ∙ sym (same i) ∙ t, r))
      (holds? (R i))

  pub explored_found : (f : ℕ) → W f ≡ true → F f ≡ true → Explored may F H w m true T
  explored_found f u o = record {
    inside = λ e t. (tried_inv e t).0;
    all = λ Q s e t. let k = tried_inv e t in (x.spread T Q tried_in s).0 e k.0 k.1;
    spare = λ _ Q s. (f, o, (x.spread T Q tried_in s).1 f u (inl o));
    stuck = λ z. absurd (clash refl z);
  }

  pub explored_stuck : ((e : ℕ) → W e ≡ true → F e ≡ true → ⊥) → ((e : ℕ) → W e ≡ true → R e ≡ true → ⊥) → Explored may F H w m false T
  explored_stuck nofree noheld =
      let shut : (v : ℕ) → ((e : ℕ) → may v e ≡ true → W e ≡ true) → Shut may F (λ e. H e && not (T e)) v = λ v wide e o.
      let u = wide e o in (
        not_so (F e) (nofree e u),
        not_so (H e && not (T e)) (λ z.
            let h = and_left (H e) (not (T e)) z in
            let t = tried_in e h (not_so (R e) (noheld e u)) in
            clash (and_right (H e) (not (T e)) z) (ap not t)),
      ) in
      record {
        inside = λ e t. (tried_inv e t).0;
        all = λ Q s e t. let k = tried_inv e t in (x.spread T Q tried_in s).0 e k.0 k.1;
        spare = λ z. absurd (clash z refl);
        stuck = λ _. record {
          fell = λ e z. and_left (H e) (not (T e)) z;
          self = shut m x.self;
          tried = λ i h z. shut (get_or w i 0) (⊎_elim
              (λ (t : T i ≡ true). let k = tried_inv i t in x.tried i k.0 k.1)
              (λ (t : T i ≡ false). absurd (clash (both (H i) (not (T i)) h (ap not t)) z))
              (holds? (T i)));
        };
      }

-- a number below 2 ^ 32 that is not 0 has a bit
pub common : (a b : ℕ) → b < 2 ^ 32 → (bit_and a b ≡ 0 → ⊥) → (e : ℕ) × (bit a e ≡ true) × (bit b e ≡ true)
common a b fits n =
    let le = and_le_r a b in
    let low = lowest_bit 32 (bit_and a b) (omega arith) (omega arith) in
    let k = and_bits a b _ low.inside in
    (_, k.0, k.1)

-- what was tried is held
pub explored_ready : {may : ℕ → ℕ → Bool} {F H T : ℕ → Bool} {w : List ℕ} {m : ℕ} {found : Bool} → Ready F H w m → Explored may F H w m found T → Ready F T w m
explored_ready r x = record { member = r.member; size = r.size; free = r.free; held = λ e t. r.held e (x.inside e t) }

-- ---- what was tried is enough for a chain: a search that is stuck in it would be a spread set without a spare place
pub explored_never : {may : ℕ → ℕ → Bool} {F H T G : ℕ → Bool} {w : List ℕ} {m : ℕ} {found : Bool} → Ready F H w m → Explored may F H w m found T → found ≡ true → Stuck may F T G w m → ⊥
explored_never {may} {F} {H} {T} {G} {w} {m} r x reached k =
    let Q : ℕ → Bool = λ e. T e && not (G e) in
    let shut : (v : ℕ) → Shut may F G v → (e : ℕ) → reach may F T v e ≡ true → Q e ≡ true = λ v z e o.
    let s = z e (reach_row may F T v e o) in
    ⊎_elim
    (λ (f : F e ≡ true). absurd (clash f s.0))
    (λ (t : T e ≡ true). both (T e) (not (G e)) t (ap not s.1))
    (reach_open may F T v e o) in
    let spread : Spread may F T w m Q = record {
      begins = shut m k.self;
      goes = λ i t q. shut (get_or w i 0) (k.tried i t (not_so (G i) (λ g. clash (and_right (T i) (not (G i)) q) (ap not g))));
    } in
    let f = x.spare reached Q spread in
    let spare = r.free f.0 f.1 in
    let held = r.held f.0 (x.inside f.0 (and_left (T f.0) (not (G f.0)) f.2)) in
    omega arith
