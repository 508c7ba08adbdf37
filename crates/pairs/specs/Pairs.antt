-- The pairs that an offered witness gives, each element with its member.
-- Right f es xs w <-> each byte of w is 255 or a member of es that matches its element of xs, and no member stands twice
-- Left k w left <-> the mask `left` has the members below k that stand nowhere in w
-- Paired f es xs w r <-> r says the members that are left over, where all pairs are right, else 4294967296
-- Assumes nothing: these are definitions.
use Rattle.std.specs.Prelude.{◌≡◌, true, ◌⊎◌, List, ℕ, ◌≤◌, ◌<◌, length, get_or}
use Rattle.facts.specs.Counting.{cnt}
use Rattle.masks.specs.Masks.{bit}
use Rattle.grammar.specs.Element.{Elem}
use Rattle.format.specs.declared.Family.{Family}
use Rattle.grammar.specs.Family.{LeafOf, ElementOf, no_element, matches_of}
use Rattle.grammar.specs.Members.{member_hits}

pub record Right (f : Family) (es : List (Elem (LeafOf f))) (xs : List (ElementOf f)) (w : List ℕ) : Type 0 where
  pub bytes : (e : ℕ) → e < length xs → (get_or w e 0 ≡ 255) ⊎ (member_hits (matches_of f) es (get_or w e 0) (get_or xs e (no_element f)) ≡ true)
  pub once : (m : ℕ) → m < length es → cnt m w ≤ 1

pub record Left (k : ℕ) (w : List ℕ) (left : ℕ) : Type 0 where
  pub only : (m : ℕ) → bit left m ≡ true → (m < k) × (cnt m w ≡ 0)
  pub all : (m : ℕ) → m < k → cnt m w ≡ 0 → bit left m ≡ true

pub data Paired (f : Family) (es : List (Elem (LeafOf f))) (xs : List (ElementOf f)) (w : List ℕ) (r : ℕ) : Type 0 where
  right : Right f es xs w → Left (length es) w r → Paired f es xs w r
  wrong : (Right f es xs w → ⊥) → r ≡ 4294967296 → Paired f es xs w r
