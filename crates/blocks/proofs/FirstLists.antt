-- The first list of a kind, as `Best` says it, and tests that say whether something holds. Assumes nothing.
-- best_complete, best_found: where there is a list, one is found, and none comes before it. best_unique, found_unique, found_same: one answer, every byte included. best_same: of what is equivalent. none_best: there is none.
-- passing_true, passing_false: a test that is known. passing_same: of what is equivalent. passing_holds, passing_unique: what holds passes, and there is one answer.
use mathlib.Core.Path.{◌≡◌, refl, sym, ap, ap₂, ◌∙◌}
use mathlib.Core.Logic.{◌⊎◌, ⊎_elim}
use mathlib.Core.Bool.{Bool, true, false}
use mathlib.Core.List.{List}
use Prim.Native.Nat.{ℕ, ◌≤◌, ◌<◌}
use native.Mathlib.Omega.{arith}
use lib.ListN.{length, get_or, take, replicate, length-replicate, get_or-replicate}
use lib.Seq.{get_or-take, ext_get_or}
use Rattle.byte_order.specs.ByteOrder.{earlier}
use Rattle.std.specs.declared.option.Option.{Option}
use Rattle.std.specs.declared.option.Option.TheVariants.{Some, None}
use Rattle.std.specs.Option.{is_some}
use Rattle.blocks.specs.Pieces.{Best, Passing, bytes_of}
use Rattle.facts.proofs.Cases.{below, holds?, clash, not_so}
use Rattle.byte_order.proofs.ByteOrder.{first_unique, first_same}

pub passing_true : {P : Type 0} → P → Passing P true
passing_true p = record { passed = λ _. p; failed = λ f. absurd (clash refl f) }

pub passing_false : {P : Type 0} → (P → ⊥) → Passing P false
passing_false n = record { passed = λ t. absurd (clash t refl); failed = λ _. n }

pub passing_same : {P Q : Type 0} {r : Bool} → (P → Q) → (Q → P) → Passing P r → Passing Q r
passing_same there back h = record { passed = λ t. there (h.passed t); failed = λ f q. h.failed f (back q) }

-- lists of one kind are those of the other
pub best_same : {P Q : List ℕ → Type 0} {n : ℕ} {found : Bool} {w : List ℕ} → ((v : List ℕ) → P v → Q v) → ((v : List ℕ) → Q v → P v) → Best P n found w → Best Q n found w
best_same there back h = record {
  best = λ f. first_same there back (h.best f);
  none = λ f v q. h.none f v (back v q);
  size = h.size;
  outside = h.outside;
  blank = h.blank;
}

-- where there is a list, one is found
pub best_complete : {P : List ℕ → Type 0} {n : ℕ} {found : Bool} {w : List ℕ} (v : List ℕ) → Best P n found w → P v → found ≡ true
best_complete {P} {n} {found} {w} v b h = ⊎_elim (λ (f : found ≡ true). f) (λ (f : found ≡ false). absurd (b.none f v h)) (holds? found)

pub best_found : {P : List ℕ → Type 0} {n : ℕ} {found : Bool} {w : List ℕ} (v : List ℕ) → Best P n found w → P v → (found ≡ true) × (earlier v (take n w) ≡ false)
best_found v b h = let f = best_complete v b h in (f, (b.best f).least v h)

-- two lists with the same first n bytes, and 255 after them
same_bytes_lem : (n : ℕ) (w w' : List ℕ) → length w ≡ 32 → length w' ≡ 32 → take n w ≡ take n w' → ((i : ℕ) → n ≤ i → i < 32 → get_or w i 0 ≡ get_or w' i 0) → w ≡ w'
same_bytes_lem n w w' l l' q out = ext_get_or 0 w w' (l ∙ sym l') (λ i h. ⊎_elim
    (λ (k : i < n). sym (get_or-take n w i 0 k) ∙ ap (λ (x : List ℕ). get_or x i 0) q ∙ get_or-take n w' i 0 k)
    (λ (k : n ≤ i). out i k (omega arith))
    (below i n))

pub best_unique : {P : List ℕ → Type 0} {n : ℕ} {found found' : Bool} {w w' : List ℕ} → Best P n found w → Best P n found' w' → (found ≡ found') × (w ≡ w')
best_unique {P} {n} {found} {found'} {w} {w'} b c = ⊎_elim
    (λ (f : found ≡ true).
    let g = best_complete (take n w) c (b.best f).holds in
    (f ∙ sym g, same_bytes_lem n w w' b.size c.size (first_unique (b.best f) (c.best g)) (λ i l h. b.outside i l h ∙ sym (c.outside i l h))))
    (λ (f : found ≡ false).
    let g : found' ≡ false = not_so found' (λ t. clash (best_complete (take n w') b (c.best t).holds) f) in
    (f ∙ sym g, b.blank f ∙ sym (c.blank g)))
    (holds? found)

-- what is found is one answer, where it says the same and has the same bytes
pub found_same : (r r' : Option (List ℕ)) → is_some r ≡ is_some r' → bytes_of r ≡ bytes_of r' → r ≡ r'
found_same None None q e = refl
found_same None (Some w) q e = absurd (clash q refl)
found_same (Some w) None q e = absurd (clash refl q)
found_same (Some w) (Some w') q e = ap Some e

-- so a function that gives the first list has one result
pub found_unique : {P : List ℕ → Type 0} {n : ℕ} (r r' : Option (List ℕ)) → Best P n (is_some r) (bytes_of r) → Best P n (is_some r') (bytes_of r') → r ≡ r'
found_unique r r' b c = let u = best_unique b c in found_same r r' u.0 u.1

-- what holds passes
pub passing_holds : {P : Type 0} {r : Bool} → Passing P r → P → r ≡ true
passing_holds {P} {r} h p = ⊎_elim (λ (t : r ≡ true). t) (λ (f : r ≡ false). absurd (h.failed f p)) (holds? r)

pub passing_unique : {P : Type 0} {r r' : Bool} → Passing P r → Passing P r' → r ≡ r'
passing_unique {P} {r} {r'} h k = ⊎_elim
    (λ (t : r ≡ true). t ∙ sym (passing_holds k (h.passed t)))
    (λ (f : r ≡ false). f ∙ sym (not_so r' (λ t. clash (passing_holds h (k.passed t)) f)))
    (holds? r)

-- there is none
pub none_best : {P : List ℕ → Type 0} {n : ℕ} {w : List ℕ} → w ≡ replicate 32 255 → ((v : List ℕ) → P v → ⊥) → Best P n false w
none_best {P} {n} {w} q never = record {
  best = λ t. absurd (clash t refl);
  none = λ _. never;
  size = ap (λ (x : List ℕ). length x) q ∙ length-replicate {A = ℕ} 32 255;
  outside = λ i _ l. ap (λ (x : List ℕ). get_or x i 0) q ∙ get_or-replicate {A = ℕ} 32 i 255 0 l;
  blank = λ _. q;
}
