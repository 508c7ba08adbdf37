-- A piece of a list: its places, what it counts where nothing is counted outside it, a piece cut at a middle place; and the rest from a place on. Assumes nothing.
use mathlib.Core.Path.{◌≡◌, sym, ap, ◌∙◌, refl}
use mathlib.Core.Bool.{true, false}
use mathlib.Core.List.{List, [], ◌∷◌, ◌++◌}
use mathlib.Core.Logic.{⊎_elim}
use Prim.Native.Nat.{ℕ, ◌+◌, ◌-◌, ◌≤◌, ◌<◌}
use native.Mathlib.Numerals.{add-one}
use native.Mathlib.Omega.{arith}
use lib.Dec.{eqb}
use lib.ListN.{length, get_or, take, drop, length-take, length-drop, take-append-drop}
use lib.Seq.{slice, slice_empty, slice-cons, get_or-take, get_or-drop, take-take, drop-append-le, ext_get_or}
use Rattle.facts.specs.Counting.{between, one_if, cnt}
use Rattle.facts.proofs.Cases.{not_so, holds?}
use Rattle.facts.proofs.Spans.{between_from, between_to}
use Rattle.facts.proofs.Counting.{cnt_append, cnt_none}

pub slice_at : (from to : ℕ) (w : List ℕ) (i : ℕ) → i < to - from → get_or (slice from to w) i 0 ≡ get_or w (from + i) 0
slice_at from to w i l = get_or-drop from (take to w) i 0 ∙ get_or-take to w (from + i) 0 (omega arith)

pub cnt_slice : (v from to : ℕ) (w : List ℕ) → from ≤ to → to ≤ length w → ((i : ℕ) → i < length w → between from to i ≡ false → get_or w i 0 ≡ v → ⊥) → cnt v (slice from to w) ≡ cnt v w
cnt_slice v from to w l k out =
    let whole = ap (λ (x : List ℕ). cnt v x) (take-append-drop to w) in
    let first_part = ap (λ (x : List ℕ). cnt v x) (take-append-drop from (take to w)) in
    let a = cnt_append v (take to w) (drop to w) in
    let b = cnt_append v (take from (take to w)) (slice from to w) in
    let m = length-take to w in
    let left : cnt v (take from (take to w)) ≡ 0 = cnt_none v (take from (take to w)) (λ e z q.
    let n = length-take from (take to w) in
    let e1 : get_or (take from (take to w)) e 0 ≡ get_or w e 0 = get_or-take from (take to w) e 0 (omega arith) ∙ get_or-take to w e 0 (omega arith) in
    out e (omega arith) (not_so (between from to e) (λ b. let f = between_from from to e b in omega arith)) (sym e1 ∙ q)) in
    let right : cnt v (drop to w) ≡ 0 = cnt_none v (drop to w) (λ e z q.
    let n = length-drop to w in
    out (to + e) (omega arith) (not_so (between from to (to + e)) (λ b. let f = between_to from to (to + e) b in omega arith)) (sym (get_or-drop to w e 0) ∙ q)) in
    omega arith

pub slice_split : (from e to : ℕ) (w : List ℕ) → from ≤ e → e ≤ to → to ≤ length w → slice from to w ≡ slice from e w ++ slice e to w
slice_split from e to w f l k =
    let whole : take to w ≡ take e w ++ slice e to w = sym (take-append-drop e (take to w)) ∙ ap (λ (x : List ℕ). x ++ slice e to w) (take-take e to w l) in
    let n = length-take e w in
    ap (λ (x : List ℕ). drop from x) whole ∙ drop-append-le from (take e w) (slice e to w) (omega arith)

-- one place of a list has one rest
pub same_place : (t : List ℕ) (p q : ℕ) → p ≤ length t → q ≤ length t → drop p t ≡ drop q t → p ≡ q
same_place t p q h k e = omega (arith, length-drop p t, length-drop q t, ap length e)

-- two lists with the same piece, and the same around it
pub same_around : (from to : ℕ) (w w' : List ℕ) → length w ≡ 32 → length w' ≡ 32 → slice from to w ≡ slice from to w'
    → ((i : ℕ) → i < 32 → between from to i ≡ false → get_or w i 0 ≡ get_or w' i 0) → w ≡ w'
same_around from to w w' n n' s out = ext_get_or 0 w w' (n ∙ sym n') (λ i l. ⊎_elim
    (λ (b : between from to i ≡ true).
    let x = between_from from to i b in
    let y = between_to from to i b in
    let j = i - from in
    let z : from + j ≡ i = omega arith in
    ap (λ (d : ℕ). get_or w d 0) (sym z) ∙ sym (slice_at from to w j (omega arith)) ∙ ap (λ (v : List ℕ). get_or v j 0) s
    ∙ slice_at from to w' j (omega arith) ∙ ap (λ (d : ℕ). get_or w' d 0) z)
    (λ (b : between from to i ≡ false). out i (omega arith) b)
    (holds? (between from to i)))

-- ---- one byte more

one_byte : (m x : ℕ) → cnt m (x ∷ []) ≡ one_if (eqb x m)
unfolding cnt
one_byte m x = omega arith

pub slice_one : (e : ℕ) (w : List ℕ) → e < length w → slice e (e + 1) w ≡ get_or w e 0 ∷ []
slice_one e w l =
    slice-cons e (e + 1) w 0 (omega arith) (omega arith) ∙ ap (λ (x : List ℕ). get_or w e 0 ∷ x) (ap (λ (j : ℕ). slice j (e + 1) w) (sym (add-one e)) ∙ slice_empty (e + 1) w)

slice_more : (from e : ℕ) (w : List ℕ) → from ≤ e → e < length w → slice from (e + 1) w ≡ slice from e w ++ (get_or w e 0 ∷ [])
slice_more from e w f l = slice_split from e (e + 1) w f (omega arith) (omega arith) ∙ ap (λ (x : List ℕ). slice from e w ++ x) (slice_one e w l)

pub cnt_more : (m from e : ℕ) (w : List ℕ) → from ≤ e → e < length w → cnt m (slice from (e + 1) w) ≡ cnt m (slice from e w) + one_if (eqb (get_or w e 0) m)
cnt_more m from e w f l =
    let a = cnt_append m (slice from e w) (get_or w e 0 ∷ []) in
    let o = one_byte m (get_or w e 0) in
    ap (λ (x : List ℕ). cnt m x) (slice_more from e w f l) ∙ omega arith

-- a list without a place is no list but the empty one
pub nil_of_length : (w : List ℕ) → length w ≡ 0 → w ≡ []
nil_of_length [] h = refl
nil_of_length (x ∷ w) h = absurd (omega arith)
