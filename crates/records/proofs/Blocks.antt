-- One block more in front, of each kind. Assumes nothing.
use mathlib.Core.Path.{◌≡◌, refl, sym, ap, ◌∙◌, subst}
use mathlib.Core.Bool.{Bool, true, false, ◌&&◌, ◌||◌, and-true}
use mathlib.Core.Logic.{⊎_elim}
use mathlib.Core.List.{List, [], ◌∷◌}
use Prim.Native.Nat.{ℕ, zero, suc, ◌+◌, ◌≤◌, ◌<◌}
use native.Mathlib.Omega.{arith}
use borrow.Author.Tests.{lt-ltb, eq-eqb, ne_eqb}
use lib.Dec.{ltb}
use lib.ListN.{length, get_or, take}
use lib.Seq.{take-take, length-take-le}
use Rattle.facts.specs.Counting.{between}
use Rattle.facts.proofs.Cases.{by-test, holds?, clash, and_left, and_right, both, one_of, or_left, or_right, same_test}
use Rattle.facts.proofs.Spans.{between_from, between_to}
use Rattle.masks.specs.Masks.{bit}
use Rattle.rows.specs.Rows.{may}
use Rattle.place_masks.specs.Places.{Before as SparesBefore}
use Rattle.blocks.specs.declared.Block.{Block}
use Rattle.grammar.specs.Element.{Elem}
use Rattle.format.specs.declared.Family.{Family}
use Rattle.grammar.specs.Family.{LeafOf, ElementOf, no_element, matches_of}
use Rattle.grammar.specs.Blocks.{Standing}
use Rattle.grammar.specs.Members.{member_hits}
use Rattle.element_match.specs.Contract.{Among, HitsAt}
use Rattle.element_match.proofs.Walks.{any_one}
use Rattle.member_rows.specs.Places.{MembersAt, MembersMarked}
use Rattle.member_rows.proofs.RowByRow.{member_at}
use Rattle.places.specs.Ways.{Back, Low, Agrees}
use Rattle.blocks.specs.Pieces.{is_one}
use Rattle.blocks.proofs.OneMember.{one_parts}
use Rattle.fronts.specs.Given.{is_group}
use Rattle.places.proofs.Backward.{Tested, back_one, back_spares, back_agree}
use Rattle.member_rows.specs.Contract.{pair_of}
use Rattle.records.specs.Records.{Sound, Joined, Before, left_out}

-- ---- the rows stay as they are

module _ (ok : ℕ → ℕ → Bool) (n : ℕ) (b : Block) (good : ℕ) (rows : List ℕ) (size : length rows ≡ 32) where
  -- a block with no members
  pub before_spares : {r : ℕ} → b.k ≡ 0 → SparesBefore good b.min b.max r → Before ok n b good rows rows r
  before_spares none h = record {
    rows = record {
      size = size;
      kept = λ m e l q. q;
      sound = λ s. s;
      group = λ o m e i. let f = between_from b.first (b.first + b.k) m i in let t = between_to b.first (b.first + b.k) m i in absurd (omega arith);
    };
    back = λ s. back_spares ok b none h;
  }

  -- one member, tested where it is asked about
  pub before_member : {r : ℕ} → is_one b ≡ true → b.first < 32 → Tested ok b good r → Before ok n b good rows rows r
  before_member one low h = record {
    rows = record { size = size; kept = λ m e l q. q; sound = λ s. s; group = λ o. absurd (clash one o) };
    back = λ s. back_one one low h;
  }

-- which elements one member is asked about
pub asked_among : {X : Type 0} (xs : List X) (n good asked : ℕ) → length xs ≡ n → Low good n → ((e : ℕ) → bit asked e ≡ (ltb e 32 && bit good (e + 1))) → Among asked xs
asked_among xs n good asked size low says = record { inside = λ j q. let l = low (j + 1) (and_right (ltb j 32) (bit good (j + 1)) (sym (says j) ∙ q)) in omega arith }

pub member_tested : (fam : Family) (t places : List ℕ) (members : ℕ) (fit : length (take members places) ≡ members) (es : List (Elem (LeafOf fam))) → Standing fam t es (take members places) → (xs : List (ElementOf fam)) (n : ℕ) (b : Block) (good asked r : ℕ)
    → n ≤ 32 → b.first < members → Low good n → ((e : ℕ) → bit asked e ≡ (ltb e 32 && bit good (e + 1))) → HitsAt fam t (get_or places b.first 0) xs asked r → Tested (pair_of fam es xs) b good r
member_tested fam t places members fit es s xs n b good asked r short low high says h =
    let who = member_at fam t places members fit es b.first s low in
    let st = who.stands in
    let told = h.right who.who st.leaves st.rest st.reads in
    let hit : ℕ → Bool = λ p. matches_of fam who.who (get_or xs p (no_element fam)) in
    record {
      some = λ p q.
          let a = sym (told.told p) ∙ q in
          (and_right (ltb p 32) (bit good (p + 1)) (sym (says p) ∙ and_left (bit asked p) (hit p) a), who.hits (get_or xs p (no_element fam)) ∙ and_right (bit asked p) (hit p) a);
      all = λ p g q.
          let l = high (p + 1) g in
          told.told p ∙ both (bit asked p) _ (says p ∙ both (ltb p 32) _ (lt-ltb p 32 (omega arith)) g) (sym (who.hits (get_or xs p (no_element fam))) ∙ q);
    }

-- the same of a 03, which nobody tests
pub any_tested : (fam : Family) (t places : List ℕ) (members : ℕ) (fit : length (take members places) ≡ members) (es : List (Elem (LeafOf fam))) → Standing fam t es (take members places) → (xs : List (ElementOf fam)) (n : ℕ) (b : Block) (good asked : ℕ)
    → n ≤ 32 → b.first < members → Low good n → ((e : ℕ) → bit asked e ≡ (ltb e 32 && bit good (e + 1))) → get_or t (get_or places b.first 0) 0 ≡ 3 → Tested (pair_of fam es xs) b good asked
any_tested fam t places members fit es s xs n b good asked short low high says is =
    member_tested fam t places members fit es s xs n b good asked asked short low high says (record {
      right = λ e k rest q. record {
        told = λ j. sym (and-true (bit asked j)) ∙ ap (λ (v : Bool). bit asked j && v) ((any_one fam t (get_or places b.first 0) (get_or xs j (no_element fam)) is).right e k rest q);
      };
    })

-- rows that are sound and have all members of a block say of them what is so
pub joined_agree : (ok : ℕ → ℕ → Bool) (n : ℕ) (b : Block) {rows : List ℕ} → Sound ok n rows
    → ((m e : ℕ) → between b.first (b.first + b.k) m ≡ true → e < n → ok m e ≡ true → may rows m e ≡ true) → Agrees (may rows) ok b n
joined_agree ok n b {rows} sound full = record {
  same = λ m e i l. same_test (may rows m e) (ok m e) (sound.right m e l) (full m e i l);
}

-- ---- fewer members

fewer_standing : (fam : Family) (t : List ℕ) (k : ℕ) (es : List (Elem (LeafOf fam))) (ps : List ℕ) → Standing fam t es ps → Standing fam t (take k es) (take k ps)
unfolding Standing
fewer_standing fam t zero es ps s = tt
fewer_standing fam t (suc k) [] [] s = tt
fewer_standing fam t (suc k) [] (p ∷ ps) s = absurd s
fewer_standing fam t (suc k) (e ∷ es) [] s = absurd s
fewer_standing fam t (suc k) (e ∷ es) (p ∷ ps) s = (s.0, fewer_standing fam t k es ps s.1)

fewer_hits : {L X : Type 0} (hits : Elem L → X → Bool) (k : ℕ) (es : List (Elem L)) (m : ℕ) (x : X) → m < k → member_hits hits (take k es) m x ≡ member_hits hits es m x
unfolding member_hits
fewer_hits hits zero es m x l = absurd (omega arith)
fewer_hits hits (suc k) [] m x l = refl
fewer_hits hits (suc k) (e ∷ es) zero x l = refl
fewer_hits hits (suc k) (e ∷ es) (suc m) x l = fewer_hits hits k es m x (omega arith)

module _ (fam : Family) (t places : List ℕ) (members k : ℕ) (fewer : k ≤ members) where
  standing_fewer : (es : List (Elem (LeafOf fam))) → Standing fam t es (take members places) → Standing fam t (take k es) (take k places)
  standing_fewer es s = subst (λ (ps : List ℕ). Standing fam t (take k es) ps) (take-take k members places fewer) (fewer_standing fam t k es (take members places) s)

  pub members_fewer : MembersAt fam t places members → MembersAt fam t places k
  members_fewer w =
      let few = w.few in
      let n : length w.who ≡ members = sym w.size in
      record { few = omega arith; short = w.short; who = take k w.who; size = sym (length-take-le k w.who (omega arith)); stands = standing_fewer w.who w.stands }

  -- a group: its members are marked
  pub group_joined : (es : List (Elem (LeafOf fam))) → Standing fam t es (take members places) → (xs : List (ElementOf fam)) (n : ℕ) (b : Block) (before after : List ℕ) → length xs ≡ n → b.first + b.k ≡ k → MembersMarked fam before t places b.first k xs after
      → Joined (pair_of fam es xs) n b before after
  group_joined es s xs n b before after size end g =
      let told : (m e : ℕ) → b.first ≤ m → m < k → e < n → may after m e ≡ (may before m e || pair_of fam es xs m e) =
      λ m e f l i. g.self (take k es) (standing_fewer es s) m e f l (omega arith) ∙ ap (λ (v : Bool). may before m e || v) (fewer_hits (matches_of fam) k es m (get_or xs e (no_element fam)) l) in
      record {
        size = g.size;
        kept = λ m e l q. ⊎_elim
            (λ (i : between b.first k m ≡ true). told m e (between_from b.first k m i) (between_to b.first k m i) l ∙ or_left (may before m e) (pair_of fam es xs m e) q)
            (λ (i : between b.first k m ≡ false). g.other m e i ∙ q)
            (holds? (between b.first k m));
        sound = λ z. record {
          right = λ m e l q. ⊎_elim
              (λ (i : between b.first k m ≡ true). ⊎_elim
              (λ (o : may before m e ≡ true). z.right m e l o)
              (λ (o : pair_of fam es xs m e ≡ true). o)
              (one_of (may before m e) (pair_of fam es xs m e) (sym (told m e (between_from b.first k m i) (between_to b.first k m i) l) ∙ q)))
              (λ (i : between b.first k m ≡ false). z.right m e l (sym (g.other m e i) ∙ q))
              (holds? (between b.first k m));
        };
        group = λ o m e i l q. let j : between b.first k m ≡ true = rw (sym end) i in told m e (between_from b.first k m j) (between_to b.first k m j) l ∙ or_right (may before m e) (pair_of fam es xs m e) q;
      }

-- and it is searched for by the rows
pub before_group : (ok : ℕ → ℕ → Bool) (n : ℕ) (b : Block) (good r : ℕ) (before after : List ℕ) → is_one b ≡ false → Low good n → Joined ok n b before after → Back (may after) b good r
    → Before ok n b good before after r
before_group ok n b good r before after more low g back = record { rows = g; back = λ z. back_agree (joined_agree ok n b (g.sound z) (g.group more)) low back }

-- ---- the first block
pub left_spares : (b : Block) → b.k ≡ 0 → 0 ≡ left_out b
unfolding left_out is_group
left_spares b h = rw (eq-eqb b.k 0 h) refl

pub left_member : (b : Block) → is_one b ≡ true → 0 ≡ left_out b
unfolding left_out is_group
left_member b h = rw (h, ne_eqb b.k 0 (λ z. let k = (one_parts b h).0 in omega arith)) refl

pub left_group : (b : Block) → (b.k ≡ 0 → ⊥) → is_one b ≡ false → 1 ≡ left_out b
unfolding left_out is_group
left_group b n h = rw (ne_eqb b.k 0 n, h) refl

pub left_most : (b : Block) → left_out b ≤ 1
unfolding left_out
left_most b = by-test (is_group b) (λ h. rw h (omega arith)) (λ h. rw h (omega arith))

pub left_first : (b : Block) → 0 < left_out b → is_group b ≡ true
unfolding left_out
left_first b l = by-test (is_group b) (λ h. h) (λ h. let z : 0 < 0 = rw h at l in absurd (omega arith))
