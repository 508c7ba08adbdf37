-- What is known of the places of members, and what a member adds to the rows. A place is an index into the bytes t.
-- MembersAt f t places members <-> there are so many members, 32 at most, and an element template of the family f stands at each of the first `members` places
-- Served t places members xs ys <-> members of some family stand there, and its list, of 32 elements at most, is lent: of the integers xs and the floats ys
-- Widened xs wide <-> `wide` has 32 integers, the first of which are xs, and 0 after them
-- Marks t at xs ys wide <-> an element template of some family stands at `at`, its list, of 32 elements at most, is lent, and `wide` is xs widened
-- Marked before m test n after <-> the rows `after` are `before`, and member m stands besides in the row of each element below n for which
--   the test holds
-- Added before m test n after <-> the same, but for where member m stands from n on
-- MarkedWithin before m xs lower upper n after <-> so for the elements of xs between the bounds, ends included; each is a 32-bit integer
-- MarkedBy f before m t at xs n after <-> member m is added for the elements of xs that the element template at `at` matches
-- MembersMarked f before t places first end xs after <-> so is each of the members first .. end - 1, at its place
-- Cleared n before after <-> the rows `after` are `before`, with no member in the rows from n on
-- Assumes nothing: these are definitions.
use Rattle.std.specs.Prelude.{◌≡◌, Bool, false, ◌&&◌, ◌||◌, List, ℕ, ◌≤◌, ◌<◌, length, get_or, take, ℤ, pos, Float}
use Rattle.std.specs.Int.Signed.{le_z}
use Rattle.integers.specs.Integer.{Word}
use Rattle.grammar.specs.Element.{Elem}
use Rattle.format.specs.declared.Family.{Family}
use Rattle.grammar.specs.Blocks.{StandsAt, Standing}
use Rattle.grammar.specs.Family.{LeafOf, ElementOf, no_element, matches_of, list_of, Lent}
use Rattle.grammar.specs.Members.{member_hits}
use Rattle.leaves.specs.Leaves.{ElementHere}
use Rattle.facts.specs.Counting.{between}
use Rattle.rows.specs.Rows.{may}

pub record MembersAt (f : Family) (t places : List ℕ) (members : ℕ) : Type 0 where
  pub few : members ≤ 32
  pub short : length t < 65536
  pub who : List (Elem (LeafOf f))
  pub size : members ≡ length who
  pub stands : Standing f t who (take members places)

pub record Served (t places : List ℕ) (members : ℕ) (xs : List ℤ) (ys : List Float) : Type 0 where
  pub family : Family
  pub placed : MembersAt family t places members
  pub lent : Lent family xs ys
  pub few : length (list_of family xs ys) ≤ 32

pub record Widened (xs wide : List ℤ) : Type 0 where
  pub size : length wide ≡ 32
  pub same : (e : ℕ) → get_or wide e (pos 0) ≡ get_or xs e (pos 0)

pub record Marks (t : List ℕ) (at : ℕ) (xs : List ℤ) (ys : List Float) (wide : List ℤ) : Type 0 where
  pub family : Family
  pub here : ElementHere family t at
  pub short : length t < 65536
  pub lent : Lent family xs ys
  pub few : length (list_of family xs ys) ≤ 32
  pub widened : Widened xs wide

pub record Marked (before : List ℕ) (m : ℕ) (test : ℕ → Bool) (n : ℕ) (after : List ℕ) : Type 0 where
  pub size : length after ≡ 32
  pub other : (v e : ℕ) → (v ≡ m → ⊥) → may after v e ≡ may before v e
  pub self : (e : ℕ) → e < n → may after m e ≡ (may before m e || test e)
  pub beyond : (e : ℕ) → n ≤ e → may after m e ≡ may before m e

pub record Added (before : List ℕ) (m : ℕ) (test : ℕ → Bool) (n : ℕ) (after : List ℕ) : Type 0 where
  pub size : length after ≡ 32
  pub other : (v e : ℕ) → (v ≡ m → ⊥) → may after v e ≡ may before v e
  pub self : (e : ℕ) → e < n → may after m e ≡ (may before m e || test e)

pub record MarkedWithin (before : List ℕ) (m : ℕ) (xs : List ℤ) (lower upper : ℤ) (n : ℕ) (after : List ℕ) : Type 0 where
  pub words : (e : ℕ) → e < n → Word (get_or xs e (pos 0))
  pub marked : Marked before m (λ e. le_z lower (get_or xs e (pos 0)) && le_z (get_or xs e (pos 0)) upper) n after

pub record MarkedBy (f : Family) (before : List ℕ) (m : ℕ) (t : List ℕ) (at : ℕ) (xs : List (ElementOf f)) (n : ℕ) (after : List ℕ) : Type 0 where
  pub size : length after ≡ 32
  pub other : (v e : ℕ) → (v ≡ m → ⊥) → may after v e ≡ may before v e
  pub self : (who : Elem (LeafOf f)) → StandsAt f t at who → (e : ℕ) → e < n → may after m e ≡ (may before m e || matches_of f who (get_or xs e (no_element f)))

pub record MembersMarked (f : Family) (before t places : List ℕ) (first end : ℕ) (xs : List (ElementOf f)) (after : List ℕ) : Type 0 where
  pub size : length after ≡ 32
  pub other : (v e : ℕ) → between first end v ≡ false → may after v e ≡ may before v e
  pub self : (es : List (Elem (LeafOf f))) → Standing f t es (take end places) → (m e : ℕ) → first ≤ m → m < end → e < length xs
      → may after m e ≡ (may before m e || member_hits (matches_of f) es m (get_or xs e (no_element f)))

pub record Cleared (n : ℕ) (before after : List ℕ) : Type 0 where
  pub size : length after ≡ 32
  pub kept : (m e : ℕ) → e < n → may after m e ≡ may before m e
  pub gone : (m e : ℕ) → n ≤ e → may after m e ≡ false
