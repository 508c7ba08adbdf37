-- As many members as can be: the members that are left are served in turn, and who finds no chain waits. Assumes nothing.
-- wide_start, wide_served, wide_stuck: before the first member, and one member more, who is served or waits. wide_done: after the last.
-- widest_same: only what members of the block may take of the piece matters.
use mathlib.Core.Path.{◌≡◌, sym, ap, ap₂, ◌∙◌, subst}
use mathlib.Core.Logic.{◌⊎◌, ⊎_elim}
use mathlib.Core.Bool.{Bool, true, false, not, ◌&&◌, ◌||◌, or-false}
use mathlib.Core.List.{List}
use Prim.Native.Nat.{ℕ, ◌+◌, ◌≤◌, ◌<◌}
use native.Mathlib.Omega.{arith}
use lib.ListN.{get_or}
use borrow.Author.Tests.{not-true}
use Rattle.facts.specs.Counting.{between}
use Rattle.masks.specs.Masks.{Plus, Flipped}
use Rattle.chains.specs.Chain.{Spares, reach, Served, Filled, Shut, Stuck}
use Rattle.refining.specs.AsBytes.{Partly}
use Rattle.assign.specs.Widest.{Widest}
use Rattle.facts.proofs.Cases.{same?, holds?, clash, not_so, and_left, and_right, both, one_of, or_left, or_right}
use Rattle.facts.proofs.Spans.{between_to}
use Rattle.facts.proofs.Counting.{cnt_at}
use Rattle.masks.proofs.OneByOne.{flipped_down, flipped_out}
use Rattle.chains.proofs.Chains.{served_kept, served_held, served_within}
use Rattle.chains.proofs.Blocked.{holders_of_lem, holders_of}
use Rattle.refining.proofs.AsThirtyTwoBytes.{partly_same, partly_block, partly_waits, partly_served}

-- ---- the members of one set or of another
abbrev pub either : (ℕ → Bool) → (ℕ → Bool) → ℕ → Bool
either R U v = R v || U v

either_left : (R U : ℕ → Bool) → ((v : ℕ) → U v ≡ false) → (v : ℕ) → either R U v ≡ R v
either_left R U none v = ap (λ (t : Bool). R v || t) (none v) ∙ or-false (R v)

either_right : (R U : ℕ → Bool) → ((v : ℕ) → R v ≡ false) → (v : ℕ) → either R U v ≡ U v
either_right R U none v = ap (λ (t : Bool). t || U v) (none v)

-- m leaves the first set, and is in neither then
either_less : (U : ℕ → Bool) {R K : ℕ → Bool} {m : ℕ} → Flipped R m K → R m ≡ true → U m ≡ false → Flipped (either R U) m (either K U)
either_less U {R} {K} {m} f here out = record {
  self = ap₂ (λ (s t : Bool). s || t) (flipped_out f here) out ∙ sym (ap (λ (t : Bool). not (t || U m)) here);
  other = λ v n. ap (λ (t : Bool). t || U v) (f.other v n);
}

-- m goes from the first set into the second
either_moved : {R K U X : ℕ → Bool} {m : ℕ} → Flipped R m K → R m ≡ true → Plus U m X → (v : ℕ) → either K X v ≡ either R U v
either_moved {R} {K} {U} {X} {m} f here plus v = ⊎_elim
    (λ (q : v ≡ m). rw q (or_right (K m) (X m) plus.self ∙ sym (or_left (R m) (U m) here)))
    (λ (n : v ≡ m → ⊥). ap₂ (λ (s t : Bool). s || t) (f.other v n) (plus.other v n))
    (same? v m)

-- ---- places of the piece that members hold
abbrev pub Held : List ℕ → ℕ → ℕ → (ℕ → Bool) → Type 0
Held w from to H = (e : ℕ) → H e ≡ true → (between from to e ≡ true) × (get_or w e 0 < 32)

pub held_filled : {w x : List ℕ} {from to t m : ℕ} {F H G : ℕ → Bool} {ok : ℕ → ℕ → Bool} → Spares w from to F → Held w from to H → Filled F w x t → Served ok w m x → Plus H t G → Held x from to G
held_filled {w} {x} {from} {to} {t} {m} {F} {H} {G} spares held f s plus e g = ⊎_elim
    (λ (q : e ≡ t). subst (λ (j : ℕ). (between from to j ≡ true) × (get_or x j 0 < 32)) (sym q) ((spares.free t f.inside).0, f.here))
    (λ (n : e ≡ t → ⊥). let h = held e (sym (plus.other e n) ∙ g) in (h.0, served_held s e h.1))
    (same? e t)

-- ---- the loop: those of R are left, and those of U wait; F and H are the spare places and the held ones that a search may try. Who waits, or holds a place of the
-- piece that is in neither, may take no place of F or H
pub record Wide (may : ℕ → ℕ → Bool) (first k from to : ℕ) (w : List ℕ) (R U F H : ℕ → Bool) : Type 0 where
  pub partly : Partly may first k from to w (either R U)
  pub apart : (v : ℕ) → R v ≡ true → U v ≡ false
  pub waits : (v : ℕ) → U v ≡ true → Shut may F H v
  pub dead : (i : ℕ) → between from to i ≡ true → F i ≡ false → H i ≡ false → Shut may F H (get_or w i 0)

pub wide_start : {may : ℕ → ℕ → Bool} {first k from to : ℕ} {w : List ℕ} {R U F H : ℕ → Bool} → ((v : ℕ) → U v ≡ false) → ((i : ℕ) → between from to i ≡ true → (F i ≡ true) ⊎ (H i ≡ true))
    → Partly may first k from to w R → Wide may first k from to w R U F H
wide_start {may} {first} {k} {from} {to} {w} {R} {U} {F} {H} noU all-open p = record {
  partly = partly_waits p (either_left R U noU);
  apart = λ v r. noU v;
  waits = λ v u. absurd (clash u (noU v));
  dead = λ i b f h. absurd (⊎_elim (λ (t : F i ≡ true). clash t f) (λ (t : H i ≡ true). clash t h) (all-open i b));
}

module _ {may : ℕ → ℕ → Bool} {first k from to m : ℕ} {w : List ℕ} {R U F H K : ℕ → Bool} (d : Wide may first k from to w R U F H) (left : R m ≡ true) (flip : Flipped R m K) where
  -- m was served, and the spare place t is held
  pub wide_served : {x : List ℕ} {t : ℕ} {E G : ℕ → Bool} → first + k ≤ 32 → ((e : ℕ) → F e ≡ true → between from to e ≡ true) → ((e : ℕ) → H e ≡ true → between from to e ≡ true)
      → Served (reach may F H) w m x → F t ≡ true → Flipped F t E → Plus H t G → Wide may first k from to x K U E G
  wide_served {x} {t} {E} {G} block free held s here flip-t plus =
      let shut : (v : ℕ) → Shut may F H v → Shut may E G v = λ v z e o.
      let y = z e o in
      let other : e ≡ t → ⊥ = λ q. clash here (subst (λ (j : ℕ). F j ≡ false) q y.0) in
      (flip-t.other e other ∙ y.0, plus.other e other ∙ y.1) in
      record {
        partly = partly_served d.partly block (or_left (R m) (U m) left) (either_less U flip left (d.apart m left)) (served_within may from to F H free held s);
        apart = λ v r. d.apart v (flipped_down flip left v r);
        waits = λ v u. shut v (d.waits v u);
        dead = λ i b f h.
            let other : i ≡ t → ⊥ = λ q. clash plus.self (subst (λ (j : ℕ). G j ≡ false) q h) in
            let f' = sym (flip-t.other i other) ∙ f in
            let h' = sym (plus.other i other) ∙ h in
            subst (λ (v : ℕ). Shut may E G v) (sym (served_kept may F H s i f' h')) (shut (get_or w i 0) (d.dead i b f' h'));
      }

  -- no chain leads from m to a spare place
  pub wide_stuck : {L X : ℕ → Bool} → Stuck may F H L w m → Plus U m X → Wide may first k from to w K X F L
  wide_stuck {L} {X} stuck plus =
      let shut : (v : ℕ) → Shut may F H v → Shut may F L v = λ v z e o. let y = z e o in (y.0, not_so (L e) (λ t. clash (stuck.fell e t) y.1)) in
      record {
        partly = partly_waits d.partly (either_moved flip left plus);
        apart = λ v r.
            let n : v ≡ m → ⊥ = λ q. clash (subst (λ (j : ℕ). K j ≡ true) q r) (flipped_out flip left) in
            plus.other v n ∙ d.apart v (flipped_down flip left v r);
        waits = λ v u. ⊎_elim
            (λ (q : v ≡ m). subst (λ (j : ℕ). Shut may F L j) (sym q) stuck.self)
            (λ (n : v ≡ m → ⊥). shut v (d.waits v (sym (plus.other v n) ∙ u)))
            (same? v m);
        dead = λ i b f l. ⊎_elim
            (λ (h : H i ≡ true). stuck.tried i h l)
            (λ (h : H i ≡ false). shut (get_or w i 0) (d.dead i b f h))
            (holds? (H i));
      }

-- nobody is left: those who wait and those who hold what no search may try are a closed set
pub wide_done : {may : ℕ → ℕ → Bool} {first k from to : ℕ} {w : List ℕ} {R U F H : ℕ → Bool} → to ≤ 32 → ((v : ℕ) → R v ≡ false) → Spares w from to F
    → Wide may first k from to w R U F H → Widest may first k from to w U
wide_done {may} {first} {k} {from} {to} {w} {R} {U} {F} {H} end noR spares d =
    let p = partly_waits d.partly (λ v. sym (either_right R U noR v)) in
    let T : ℕ → Bool = λ e. between from to e && not (F e || H e) in
    let S = holders_of_lem w T in
    let held = holders_of w T in
    let dead : ℕ → Bool = λ v. U v || S v in
    let place : (e : ℕ) → T e ≡ true → (between from to e ≡ true) × (F e ≡ false) × (H e ≡ false) = λ e t.
    let n = not-true (F e || H e) (and_right (between from to e) (not (F e || H e)) t) in
    (and_left (between from to e) (not (F e || H e)) t, not_so (F e) (λ f. clash (or_left (F e) (H e) f) n), not_so (H e) (λ h. clash (or_right (F e) (H e) h) n)) in
    let shut : (v : ℕ) → dead v ≡ true → Shut may F H v = λ v g. ⊎_elim
    (λ (u : U v ≡ true). d.waits v u)
    (λ (s : S v ≡ true).
    let f = held.found v s in
    let t = place f.0 f.2 in
    subst (λ (j : ℕ). Shut may F H j) f.3 (d.dead f.0 t.0 t.1 t.2))
    (one_of (U v) (S v) g) in
    record {
      partly = p;
      dead = dead;
      around = λ v u. or_left (U v) (S v) u;
      closed = record {
        inside = λ v g. ⊎_elim
            (λ (u : U v ≡ true). (p.waits v u).0)
            (λ (s : S v ≡ true).
            let f = held.found v s in
            let t = place f.0 f.2 in
            let low = spares.held f.0 t.0 t.1 in
            let size = p.size in
            subst (λ (j : ℕ). between first (first + k) j ≡ true) f.3 (partly_block p (get_or w f.0 0) (omega arith) (cnt_at w f.0 (omega (arith, f.1)))))
            (one_of (U v) (S v) g);
        owned = λ v e g b o.
            let z = shut v g e o in
            let top = between_to from to e b in
            record {
              low = spares.held e b z.0;
              seen = or_right (U (get_or w e 0)) (S (get_or w e 0)) (held.all e (omega arith)
                  (both (between from to e) (not (F e || H e)) b (ap₂ (λ (s t : Bool). not (s || t)) z.0 z.1)));
            };
      };
    }

-- two relations that say the same of every pair of a member of the block and an element of the piece
pub widest_same : {may may' : ℕ → ℕ → Bool} {first k from to : ℕ} {w : List ℕ} {U : ℕ → Bool}
    → ((m e : ℕ) → between first (first + k) m ≡ true → between from to e ≡ true → may m e ≡ may' m e) → Widest may first k from to w U → Widest may' first k from to w U
widest_same same d = record {
  partly = partly_same d.partly (λ m e b p. sym (same m e b p));
  dead = d.dead;
  around = d.around;
  closed = record { inside = d.closed.inside; owned = λ v e t b o. d.closed.owned v e t b (same v e (d.closed.inside v t) b ∙ o) };
}
