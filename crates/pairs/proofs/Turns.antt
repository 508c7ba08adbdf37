-- What is known at each byte of an offered witness: its element, and the element template of its member. Assumes nothing.
use Rattle.std.proofs.Common.{◌≡◌, ◌∙◌, sym, List, ℕ, Bool, ◌+◌, ◌≤◌, ◌<◌, length, get_or, take, true, arith, ℤ}
use Rattle.std.specs.Prelude.{Float}
use Rattle.masks.specs.Masks.{bit}
use Rattle.grammar.specs.Element.{Elem}
use Rattle.format.specs.declared.Family.{Family}
use Rattle.grammar.specs.Family.{LeafOf, no_element, matches_of, list_of, Lent}
use Rattle.grammar.proofs.Families.{lent_size}
use Rattle.grammar.specs.Blocks.{Standing}
use Rattle.grammar.specs.Members.{member_hits}
use Rattle.element_match.specs.Contract.{ElementAt, OneHit}
use Rattle.member_rows.specs.Places.{Served}
use Rattle.member_rows.proofs.RowByRow.{places_fit, places_count, element_there, member_inside, told_hit}
use Rattle.pairs.proofs.ByteByByte.{Going}

module _ {t places : List ℕ} {members : ℕ} {xs : List ℤ} {ys : List Float} (w : List ℕ) (served : Served t places members xs ys) (long : length w ≡ length xs + length ys) where
  pub fit : length (take members places) ≡ members
  fit = places_fit _ _ _ _ served.placed

  -- a byte for each element
  pub size : (fam : Family) → Lent fam xs ys → length w ≡ length (list_of fam xs ys)
  size fam lent = long ∙ sym (lent_size fam _ _ lent)

  pub low : (fam : Family) → Lent fam xs ys → (e : ℕ) → e < length w → e < length (list_of fam xs ys)
  low fam lent e l = omega (arith, size fam lent)

  pub short : (e : ℕ) → e < length w → e < 32
  short e l = omega (arith, low served.family served.lent e l, served.few)

  -- there are 32 members at most
  pub few : (fam : Family) (es : List (Elem (LeafOf fam))) → Standing fam t es (take members places) → length es ≤ 32
  few fam es s = omega (arith, places_count fam _ _ _ fit es s, served.placed.few)

  -- who is left is a member
  pub left_member : (e left x : ℕ) → ((fam : Family) → Lent fam xs ys → (es : List (Elem (LeafOf fam))) → Standing fam t es (take members places) → Going fam es (list_of fam xs ys) w e left) → bit left x ≡ true → x < members
  left_member e left x going h =
      let p = served.placed in
      let o = (going served.family served.lent p.who p.stands).left_over.only x h in
      omega (arith, o.0, p.size)

  pub inside : (x : ℕ) → x < members → get_or places x 0 < length t
  inside x l = member_inside _ _ _ _ served.placed x l

  pub there : (x : ℕ) → x < members → ElementAt served.family t (get_or places x 0)
  there x l = element_there _ _ _ _ served.placed x l

  -- what the test of a member says
  pub told : (e x : ℕ) → x < members → (right : Bool) → ((fam : Family) → OneHit fam t (get_or places x 0) (get_or (list_of fam xs ys) e (no_element fam)) right) → (fam : Family) (es : List (Elem (LeafOf fam))) → Standing fam t es (take members places)
      → member_hits (matches_of fam) es x (get_or (list_of fam xs ys) e (no_element fam)) ≡ right
  told e x l right h fam es s = told_hit fam _ _ _ fit es s _ _ _ l (h fam)
