-- What one block takes of a whole list, by the rows and by the members themselves. Assumes nothing.
use mathlib.Core.Path.{◌≡◌, refl, sym, ap, ◌∙◌, subst}
use mathlib.Core.Bool.{Bool, true, false, ◌||◌}
use mathlib.Core.Logic.{⊎_elim}
use mathlib.Core.List.{List, [], ◌∷◌, ◌++◌, append-nil}
use Prim.Native.Nat.{ℕ, ◌+◌, ◌-◌, ◌≤◌}
use native.Mathlib.Omega.{arith}
use borrow.Author.Tests.{ltb-true, ltb-false}
use lib.Dec.{ltb}
use lib.ListN.{length, get_or, take, replicate}
use Rattle.facts.proofs.Cases.{clash, one_of}
use Rattle.facts.proofs.Spans.{between_past}
use Rattle.blocks.specs.declared.Block.{Block}
use Rattle.blocks.specs.Pieces.{Takes, Cuts, Cutting, Containing, Filling}
use Rattle.blocks.proofs.FirstLists.{best_same, none_best}
use Rattle.assign.specs.Answer.{Answer}
use Rattle.rows.specs.Rows.{may}
use Rattle.grammar.specs.Element.{Elem}
use Rattle.format.specs.declared.Family.{Family}
use Rattle.grammar.specs.Family.{LeafOf, ElementOf}
use Rattle.member_rows.specs.Contract.{pair_of, RowsOf}
use Rattle.places.specs.Ways.{Agrees}
use Rattle.places.proofs.Backward.{takes_agree, agrees_turn}
use Rattle.records.specs.Records.{Below}
use Rattle.member_rows.proofs.RowsAndPairs.{same_pairs}

-- ---- a cut by one block is what the block takes

cut_takes : (may : ℕ → ℕ → Bool) (b : Block) (n : ℕ) (w : List ℕ) → Cuts may (b ∷ []) 0 n w → Takes may b 0 n w
unfolding Cuts
cut_takes may b n w c =
    let j = c.parts in
    let e : j.left ≡ w = sym (j.whole ∙ ap (λ (v : List ℕ). j.left ++ v) j.on_right.1 ∙ append-nil j.left) in
    subst (λ (v : List ℕ). Takes may b 0 n v) e (subst (λ (m : ℕ). Takes may b 0 m j.left) j.on_right.0 j.on_left)

takes_cut : (may : ℕ → ℕ → Bool) (b : Block) (n : ℕ) (w : List ℕ) → Takes may b 0 n w → Cuts may (b ∷ []) 0 n w
unfolding Cuts
takes_cut may b n w t = record { mid = n; after = omega arith; inside = omega arith; parts = record { left = w; right = []; whole = sym (append-nil w); on_left = t; on_right = (refl, refl) } }

module _ (may : ℕ → ℕ → Bool) (b : Block) (n : ℕ) where
  pub other_size : (w : List ℕ) → w ≡ replicate 32 255 → ((b.k + b.min ≤ n) → (n ≤ b.k + b.max) → ⊥) → Cutting may (b ∷ []) n false w
  other_size w q other = none_best q (λ v c. let t = cut_takes may b n v c in let x = t.enough in let y = t.few in other (omega arith) (omega arith))

  pub whole_answer_lem : {found : Bool} {w : List ℕ} → b.k + b.min ≤ n → n ≤ b.k + b.max → Answer may b.first b.k 0 n found w → Cutting may (b ∷ []) n found w
  whole_answer_lem {found} {w} enough few h = record {
    best = λ f. let g = h.best f in record { holds = takes_cut may b n (take n w) (record { assigned = g.holds; enough = omega arith; few = omega arith }); least = λ v c. g.least v (cut_takes may b n v c).assigned };
    none = λ f v c. h.none f v (cut_takes may b n v c).assigned;
    size = h.size;
    outside = λ i l u. h.outside i u (between_past 0 n i l);
    blank = h.blank;
  }

-- ---- the rows say which member matches which element

module _ (fam : Family) (es : List (Elem (LeafOf fam))) (xs : List (ElementOf fam)) (n : ℕ) (rows : List ℕ) (size : length xs ≡ n) (r : RowsOf fam es xs rows) where
  agrees : (b : Block) → Agrees (may rows) (pair_of fam es xs) b n
  agrees b = record { same = λ m e i l. same_pairs r m e (omega arith) }

  pub cutting_pairs : (b : Block) {found : Bool} {w : List ℕ} → Cutting (may rows) (b ∷ []) n found w → Cutting (pair_of fam es xs) (b ∷ []) n found w
  cutting_pairs b h = best_same
      (λ v c. takes_cut (pair_of fam es xs) b n v (takes_agree (agrees b) (omega arith) (cut_takes (may rows) b n v c)))
      (λ v c. takes_cut (may rows) b n v (takes_agree (agrees_turn (agrees b)) (omega arith) (cut_takes (pair_of fam es xs) b n v c)))
      h

  pub containing_pairs : (k : ℕ) {found : Bool} {w : List ℕ} → Containing (may rows) k n found w → Containing (pair_of fam es xs) k n found w
  containing_pairs k h = best_same
      (λ v f. record { size = f.size; member = f.member; right = λ e l. sym (same_pairs r (get_or v e 0) e (omega arith)) ∙ f.right e l })
      (λ v f. record { size = f.size; member = f.member; right = λ e l. same_pairs r (get_or v e 0) e (omega arith) ∙ f.right e l })
      h

  pub filling_pairs : (k : ℕ) {found : Bool} {w : List ℕ} → Filling (may rows) k n found w → Filling (pair_of fam es xs) k n found w
  filling_pairs k h = best_same
      (λ v f. record { size = f.size; member = f.member; right = λ e l. sym (same_pairs r (get_or v e 0) e (omega arith)) ∙ f.right e l; once = f.once })
      (λ v f. record { size = f.size; member = f.member; right = λ e l. same_pairs r (get_or v e 0) e (omega arith) ∙ f.right e l; once = f.once })
      h

-- the test of the length, as the code makes it
pub out_of_size : (n least most : ℕ) → (ltb n least || ltb most n) ≡ true → least ≤ n → n ≤ most → ⊥
out_of_size n least most h l u = ⊎_elim (λ (q : ltb n least ≡ true). let z = ltb-true n least q in omega arith) (λ (q : ltb most n ≡ true). let z = ltb-true most n q in omega arith) (one_of (ltb n least) (ltb most n) h)

pub in_size : (n least most : ℕ) → (ltb n least || ltb most n) ≡ false → (least ≤ n) × (n ≤ most)
in_size n least most h = (ltb-false n least (not_left (ltb n least) (ltb most n) h), ltb-false most n (not_right (ltb n least) (ltb most n) h))
  where
    not_left : (a b : Bool) → (a || b) ≡ false → a ≡ false
    not_left true b q = q
    not_left false b q = refl

    not_right : (a b : Bool) → (a || b) ≡ false → b ≡ false
    not_right true b q = absurd (clash refl q)
    not_right false b q = q

-- its members are below k
pub below_one : (k : ℕ) (bs : List Block) (c : Block) → bs ≡ c ∷ [] → Below k bs → c.first + c.k ≤ k
unfolding Below
below_one k bs c q h = let g : Below k (c ∷ []) = subst (λ (x : List Block). Below k x) q h in g.0
