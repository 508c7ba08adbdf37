-- Assignments of a piece by a block. `may m e` says that member m may take element e, however it is held. The block is the members first .. first + k - 1; the piece is the elements from .. to - 1.
-- An assignment of the piece is a list of to - from bytes, one for each element in turn: a member of the block that may take the
-- element, or 255 (the element is spare); each member of the block stands in it exactly once.
-- takes may first k e x           == the byte x is right for the element e
-- Assigns may first k from to a  <-> a is an assignment of the piece by the block
-- all_right may first k e a        == each byte of a is right for its element, the first of which is e
-- all_once first k a               == each of the k members from `first` on stands in a once
-- assigns may first k from a      == the same as a test, of a list of any length: a assigns the elements from `from` on
-- wanted may group e              == some member of the group may take the element e
-- joined may group from to        == how many elements of the piece some member of the group may take
-- Short may first k from to      <-> a group of members of the block may take too few elements of the piece
-- Assumes nothing.
use Rattle.std.specs.Prelude.{◌≡◌, Bool, true, ◌&&◌, ◌||◌, List, [], ◌∷◌, ℕ, zero, suc, ◌+◌, ◌-◌, ◌≤◌, ◌<◌, eqb, length, get_or}
use Rattle.facts.specs.Counting.{between, cnt, count, any_below}

unfoldable pub takes : (ℕ → ℕ → Bool) → ℕ → ℕ → ℕ → ℕ → Bool
takes may first k e x = eqb x 255 || (between first (first + k) x && may x e)

pub record Assigns (may : ℕ → ℕ → Bool) (first k from to : ℕ) (a : List ℕ) : Type 0 where
  pub size : length a ≡ to - from
  pub right : (i : ℕ) → i < length a → takes may first k (from + i) (get_or a i 0) ≡ true
  pub once : (m : ℕ) → first ≤ m → m < first + k → cnt m a ≡ 1

unfoldable pub all_right : (ℕ → ℕ → Bool) → ℕ → ℕ → ℕ → List ℕ → Bool
all_right may first k e [] = true
all_right may first k e (x ∷ xs) = takes may first k e x && all_right may first k (suc e) xs

unfoldable pub all_once : ℕ → ℕ → List ℕ → Bool
all_once first zero a = true
all_once first (suc k) a = eqb (cnt (first + k) a) 1 && all_once first k a

unfoldable pub assigns : (ℕ → ℕ → Bool) → ℕ → ℕ → ℕ → List ℕ → Bool
assigns may first k from a = all_right may first k from a && all_once first k a

unfoldable pub wanted : (ℕ → ℕ → Bool) → (ℕ → Bool) → ℕ → Bool
wanted may group e = any_below (λ v. group v && may v e) 32

abbrev pub joined : (ℕ → ℕ → Bool) → (ℕ → Bool) → ℕ → ℕ → ℕ
joined may group from to = count (λ e. between from to e && wanted may group e) 32

pub record Short (may : ℕ → ℕ → Bool) (first k from to : ℕ) : Type 0 where
  pub group : ℕ → Bool
  pub inside : (v : ℕ) → group v ≡ true → between first (first + k) v ≡ true
  pub few : joined may group from to < count group 32
