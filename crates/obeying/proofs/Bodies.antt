-- What each kind of body asks of a witness whose pairs are right, by the members that are left over and the blocks. Assumes nothing.
use mathlib.Core.Path.{◌≡◌, refl, sym, ap, ◌∙◌, subst}
use mathlib.Core.Bool.{Bool, true, false, ◌&&◌, cond}
use mathlib.Core.Logic.{◌⊎◌, inl, inr, ⊎_elim}
use mathlib.Core.List.{List, [], ◌∷◌}
use Prim.Native.Nat.{ℕ, zero, suc, ◌+◌, ◌≤◌, ◌<◌}
use native.Mathlib.Omega.{arith}
use native.Mathlib.Nat.{zero-add}
use borrow.Author.Tests.{eqb-true, eq-eqb, leb-true, le-leb}
use lib.Dec.{eqb, leb}
use lib.ListN.{length, get_or, take}
use Rattle.facts.specs.Counting.{cnt}
use Rattle.facts.proofs.Cases.{below, clash, holds?, and_left, and_right, both, same_test}
use Rattle.masks.specs.Masks.{bit}
use Rattle.masks.proofs.Masks.{bit_none, bits_same}
use Rattle.blocks.specs.declared.Block.{Block}
use Rattle.blocks.specs.Numbers.{block, block_in, blocks_in}
use Rattle.blocks.specs.Pieces.{Cuts, Passing}
use Rattle.blocks.proofs.Assignments.{once_test, test_once}
use Rattle.blocks.proofs.FirstLists.{passing_holds}
use Rattle.grammar.specs.Template.{grouped, Body, record_of, set_of, superset, subset, is_plain, Heads, plainly, members_of, members_of_group}
use Rattle.grammar.specs.Element.{Elem}
use Rattle.grammar.specs.Blocks.{min_of, max_of, block_of_group, blocks_of, body_kind, kind_read}
use Rattle.matching.specs.Obeys.{body_met}
use Rattle.matching.proofs.ItemsAsBlocks.{Within, Once, MayAll, Piece, group_says, group_test, length_once}
use Rattle.matching.proofs.RulesByBlocks.{cuts_says, cuts_test}
use Rattle.judging.specs.Reach.{any_pair}
use Rattle.obeying.specs.Spread.{Says, Spread}

-- any pair is right
any_all : (e : ℕ) (w : List ℕ) → MayAll any_pair e w
unfolding MayAll
any_all e [] = tt
any_all e (x ∷ w) = (inr refl, any_all (suc e) w)

within_from : (k : ℕ) (w : List ℕ) → ((e : ℕ) → e < length w → (get_or w e 0 ≡ 255) ⊎ (get_or w e 0 < k)) → Within 0 k w
unfolding Within
within_from k [] h = tt
within_from k (x ∷ w) h = (
  ⊎_elim (λ (q : x ≡ 255). inl q) (λ (q : x < k). inr (omega arith, omega arith)) (h 0 (omega arith)),
  within_from k w (λ e l. h (suc e) (omega arith)),
)

-- the first block of numbers that say one block
none_one : (b : Block) → ◌≡◌ {A = List Block} [] (b ∷ []) → ⊥
none_one b e = let z : ◌≡◌ {A = ℕ} 0 1 = cc in omega arith

pub first_block : (count : ℕ) (vs : List ℕ) (b : Block) → blocks_in (take count vs) ≡ b ∷ [] → block_in (get_or vs 0 0) ≡ b
unfolding blocks_in
first_block zero vs b q = absurd (none_one b q)
first_block (suc count) [] b q = absurd (none_one b q)
first_block (suc count) (v ∷ vs) b q = cc

module _ {L : Type 0} (b : Body L) (w : List ℕ) (left : ℕ) (s : Spread b w left) where
  abbrev k : ℕ
  k = length (members_of b)

  within : Within 0 k w
  within = within_from k w s.bytes

  -- no member is left over: each stands once
  all_once_lem : left ≡ 0 → Once 0 k w
  all_once_lem z v a u = ⊎_elim
      (λ (h : cnt v w < 1). absurd (clash (s.left_over.all v (omega arith) (omega arith)) (ap (λ (n : ℕ). bit n v) z ∙ bit_none v)))
      (λ (h : 1 ≤ cnt v w). let o = s.once v (omega arith) in omega arith)
      (below (cnt v w) 1)

  none_left : Once 0 k w → left ≡ 0
  none_left o = bits_same left 0 (λ m. ⊎_elim
      (λ (h : bit left m ≡ true). let l = s.left_over.only m h in let c = o m (omega arith) (omega (arith, l.0)) in absurd (omega (arith, l.1)))
      (λ (h : bit left m ≡ false). h ∙ sym (bit_none m))
      (holds? (bit left m)))

  -- what the code tests of the one block
  abbrev tested : ℕ → ℕ → Bool
  tested min max = eqb left 0 && (leb (k + min) (length w) && leb (length w) (k + max))

  piece_tested : (min max : ℕ) → Piece 0 k min max w → tested min max ≡ true
  piece_tested min max p = both (eqb left 0) _ (eq-eqb left 0 (none_left p.once)) (both (leb (k + min) (length w)) _ (le-leb (k + min) (length w) p.enough) (le-leb (length w) (k + max) p.few))

  tested_piece : (min max : ℕ) → tested min max ≡ true → Piece 0 k min max w
  tested_piece min max h =
      let r = and_right (eqb left 0) (leb (k + min) (length w) && leb (length w) (k + max)) h in
      record {
        within = within;
        once = all_once_lem (eqb-true left 0 (and_left (eqb left 0) (leb (k + min) (length w) && leb (length w) (k + max)) h));
        enough = leb-true (k + min) (length w) (and_left (leb (k + min) (length w)) (leb (length w) (k + max)) r);
        few = leb-true (length w) (k + max) (and_right (leb (k + min) (length w)) (leb (length w) (k + max)) r);
      }

-- a subset's kind, whichever sheet reads it
subset_high : {L : Type 0} (h : Heads) (es : List (Elem L)) → 0x13 ≤ kind_read h (subset es)
unfolding kind_read plainly body_kind
subset_high h es = high (is_plain h.sheet)
  where
    high : (p : Bool) → 0x13 ≤ cond p 0x14 0x13
    high true = omega arith
    high false = omega arith

-- ---- a set of and a superset: one block

module _ (w : List ℕ) (left : ℕ) (short : length w ≤ 32) (one : Block) (r : Bool) (told : r ≡ (eqb left 0 && (leb (one.k + one.min) (length w) && leb (length w) (one.k + one.max)))) where
  -- the block under its own name
  told_as : (k min max : ℕ) → one ≡ block 0 k min max → r ≡ (eqb left 0 && (leb (k + min) (length w) && leb (length w) (k + max)))
  told_as k min max q = told ∙ rw q refl

  pub one_kind : {L : Type 0} (kind : ℕ) (bs : List Block) (h : Heads) (b : Body L) → Says kind bs h b → Spread b w left → kind < 0x13 → (kind ≡ 0x10 → ⊥) → ((c : Block) → bs ≡ c ∷ [] → one ≡ c) → r ≡ body_met b w
  unfolding kind_read plainly body_kind blocks_of body_met members_of members_of_group block_of_group
  one_kind kind bs h (record_of is) says s low n10 at = absurd (n10 says.kind_is)
  one_kind kind bs h (subset es) says s low n10 at = let k = says.kind_is in let z = subset_high h es in absurd (omega arith)
  one_kind kind bs h (set_of (grouped es st)) says s low n10 at =
      told_as (length es) (min_of st) (max_of st) (at _ says.cut)
      ∙ same_test _ _
      (λ u. group_test 0 (grouped es st) w (let f = s.few in omega arith) (tested_piece (set_of (grouped es st)) w left s (min_of st) (max_of st) u))
      (λ u. piece_tested (set_of (grouped es st)) w left s (min_of st) (max_of st) (group_says 0 (grouped es st) w (let f = s.few in omega arith) u))
  one_kind kind bs h (superset es) says s low n10 at =
      told_as (length es) 0 255 (at _ says.cut)
      ∙ same_test _ _
      (λ u. once_test 0 (length es) w (tested_piece (superset es) w left s 0 255 u).once)
      (λ u.
      let o = test_once 0 (length es) w u in
      let f = s.few in
      let i = within (superset es) w left s in
      let z = length_once 0 (length es) w (omega arith) i o in
      piece_tested (superset es) w left s 0 255 (record { within = i; once = o; enough = omega arith; few = omega arith }))

-- ---- a record of: its blocks; a subset: no spare element

pub record_kind : {L : Type 0} (kind : ℕ) (bs : List Block) (h : Heads) (b : Body L) (w : List ℕ) (left : ℕ) (r : Bool) → Says kind bs h b → Spread b w left → kind ≡ 0x10 → Passing (Cuts any_pair bs 0 (length w) w) r → r ≡ body_met b w
unfolding kind_read plainly body_kind blocks_of body_met members_of
record_kind kind bs h (record_of is) w left r says s q p =
    let f = s.few in
    same_test _ _
    (λ t. (cuts_test any_pair 0 is 0 (length w) w (omega arith) (subst (λ (c : List Block). Cuts any_pair c 0 (length w) w) says.cut (p.passed t))).test)
    (λ t. passing_holds p (subst (λ (c : List Block). Cuts any_pair c 0 (length w) w) (sym says.cut) (rw (zero-add (length w)) at (cuts_says any_pair 0 is w 0 (omega arith) t (any_all 0 w)))))
record_kind kind bs h (set_of g) w left r says s q p = let z = sym q ∙ says.kind_is in absurd (omega arith)
record_kind kind bs h (superset es) w left r says s q p = let z = sym q ∙ says.kind_is in absurd (omega arith)
record_kind kind bs h (subset es) w left r says s q p = let z = sym q ∙ says.kind_is in let y = subset_high h es in absurd (omega arith)

pub subset_kind : {L : Type 0} (kind : ℕ) (bs : List Block) (h : Heads) (b : Body L) (w : List ℕ) (r : Bool) → Says kind bs h b → 0x13 ≤ kind → r ≡ eqb (cnt 255 w) 0 → r ≡ body_met b w
unfolding kind_read plainly body_kind body_met
subset_kind kind bs h (subset es) w r says q p = p
subset_kind kind bs h (record_of is) w r says q p = let z = says.kind_is in absurd (omega arith)
subset_kind kind bs h (set_of g) w r says q p = let z = says.kind_is in absurd (omega arith)
subset_kind kind bs h (superset es) w r says q p = let z = says.kind_is in absurd (omega arith)
