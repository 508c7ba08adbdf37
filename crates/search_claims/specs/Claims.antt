-- What is claimed of the search and of the rows it stands on. `Answer`, `Cutting`, `Filling` and `Passing` are the contracts of the functions; proofs/Claims.antt
-- proves each claim under its name with a small first letter.
-- Sound     <-> what `first_assignment` finds is an assignment of the piece by the block
-- Complete  <-> where there is an assignment, one is found
-- Least     <-> no assignment comes before the one that is found
-- Unique    <-> the promise allows one answer
-- Explained <-> none is found exactly where a group of members may take too few elements
-- Tested    <-> `Assigns` and the test `assigns` say the same
-- UniqueCut     <-> the promise of a first cut allows one answer, every byte included
-- UniqueFilling <-> the same of `first_filling`
-- CutPasses     <-> the cut that is found passes the test of a cut
-- CutFound      <-> where some list passes the test of a cut, one is found, and the list does not come before it
-- FillingPasses <-> the filling that `first_filling` finds passes the test of a filling
-- FillingFound  <-> where some list passes the test of a filling, one is found, and the list does not come before it
-- NothingChanges <-> "no answer or witness changes" (document 02, Four): where rows by member and rows by element say the same of every pair, what they promise
--   is the same, the cut and the filling that are found, byte for byte, and whether an offered list passes
-- PairsOrRows <-> so it is with the pairs themselves, by which a record of is searched: rows of the same members and list have the same first cut, byte for byte
-- PairsApart <-> a list passes as a cut exactly where it passes with any pairs and each member in it may take its element: the judge tests the two apart
-- ColumnsOf f es xs cols <-> bit e of the row of m says whether member m of es matches element e of xs; every other bit is clear: rows by member
-- SameOfEveryPair <-> "both say the same of every pair" (document 02, Four): rows by element and rows by member, of the same members and list
-- Assumes nothing: these are statements.
use Rattle.std.specs.Prelude.{◌≡◌, Bool, true, false, ◌⊎◌, List, ℕ, ◌+◌, ◌-◌, ◌≤◌, ◌<◌, length, get_or, take}
use Rattle.std.proofs.Math.Seq.{slice}
use Rattle.byte_order.specs.ByteOrder.{earlier}
use Rattle.rows.specs.Rows.{may, picks}
use Rattle.blocks.specs.declared.Block.{Block}
use Rattle.blocks.specs.Assignment.{Assigns, assigns, Short}
use Rattle.blocks.specs.Pieces.{Cuts, Fills, Cutting, Filling, Passing}
use Rattle.assign.specs.Answer.{Answer}
use Rattle.format.specs.declared.Family.{Family}
use Rattle.grammar.specs.Element.{Elem}
use Rattle.grammar.specs.Family.{LeafOf, ElementOf, no_element, matches_of}
use Rattle.grammar.specs.Members.{member_hits}
use Rattle.member_rows.specs.Contract.{pair_of, RowsOf}
use Rattle.judging.specs.Reach.{any_pair}

-- ---- assignments
abbrev pub Sound : Type 0
Sound = (may : ℕ → ℕ → Bool) (first k from to : ℕ) (found : Bool) (w : List ℕ) → Answer may first k from to found w
    → found ≡ true → Assigns may first k from to (slice from to w)

abbrev pub Complete : Type 0
Complete = (may : ℕ → ℕ → Bool) (first k from to : ℕ) (found : Bool) (w : List ℕ) → Answer may first k from to found w
    → (a : List ℕ) → Assigns may first k from to a → found ≡ true

abbrev pub Least : Type 0
Least = (may : ℕ → ℕ → Bool) (first k from to : ℕ) (found : Bool) (w : List ℕ) → Answer may first k from to found w
    → (a : List ℕ) → Assigns may first k from to a → earlier a (slice from to w) ≡ false

abbrev pub Unique : Type 0
Unique = (may : ℕ → ℕ → Bool) (first k from to : ℕ) (found found' : Bool) (w w' : List ℕ) → from ≤ to → to ≤ 32
    → Answer may first k from to found w → Answer may first k from to found' w' → (found ≡ found') × (w ≡ w')

abbrev pub Explained : Type 0
Explained = (may : ℕ → ℕ → Bool) (first k from to : ℕ) (found : Bool) (w : List ℕ) → first + k ≤ 32 → from ≤ to → to ≤ 32
    → Answer may first k from to found w → (found ≡ false → Short may first k from to) × (Short may first k from to → found ≡ false)

abbrev pub Tested : Type 0
Tested = (may : ℕ → ℕ → Bool) (first k from to : ℕ) (a : List ℕ) → length a ≡ to - from
    → (Assigns may first k from to a → assigns may first k from a ≡ true) × (assigns may first k from a ≡ true → Assigns may first k from to a)

-- ---- cuts and fillings
abbrev pub UniqueCut : Type 0
UniqueCut = (may : ℕ → ℕ → Bool) (bs : List Block) (n : ℕ) (found found' : Bool) (w w' : List ℕ)
    → Cutting may bs n found w → Cutting may bs n found' w' → (found ≡ found') × (w ≡ w')

abbrev pub UniqueFilling : Type 0
UniqueFilling = (may : ℕ → ℕ → Bool) (k n : ℕ) (found found' : Bool) (w w' : List ℕ)
    → Filling may k n found w → Filling may k n found' w' → (found ≡ found') × (w ≡ w')

abbrev pub CutPasses : Type 0
CutPasses = (may : ℕ → ℕ → Bool) (bs : List Block) (n : ℕ) (found r : Bool) (w v : List ℕ) → n ≤ 32
    → Cutting may bs n found w → found ≡ true → v ≡ take n w → Passing (Cuts may bs 0 (length v) v) r → r ≡ true

abbrev pub CutFound : Type 0
CutFound = (may : ℕ → ℕ → Bool) (bs : List Block) (n : ℕ) (found : Bool) (w v : List ℕ)
    → Cutting may bs n found w → length v ≡ n → Passing (Cuts may bs 0 (length v) v) true → (found ≡ true) × (earlier v (take n w) ≡ false)

abbrev pub FillingPasses : Type 0
FillingPasses = (may : ℕ → ℕ → Bool) (k n : ℕ) (found r : Bool) (w v : List ℕ) → n ≤ 32
    → Filling may k n found w → found ≡ true → v ≡ take n w → Passing (Fills may k (length v) v) r → r ≡ true

abbrev pub FillingFound : Type 0
FillingFound = (may : ℕ → ℕ → Bool) (k n : ℕ) (found : Bool) (w v : List ℕ)
    → Filling may k n found w → length v ≡ n → Passing (Fills may k (length v) v) true → (found ≡ true) × (earlier v (take n w) ≡ false)

abbrev pub NothingChanges : Type 0
NothingChanges = (rows cols : List ℕ) → ((m e : ℕ) → picks cols m e ≡ may rows m e) → (bs : List Block) (k n : ℕ) (found found' passed passed' : Bool) (w w' : List ℕ)
    → (Cutting (picks cols) bs n found w → Cutting (may rows) bs n found' w' → (found ≡ found') × (w ≡ w'))
    × (Filling (picks cols) k n found w → Filling (may rows) k n found' w' → (found ≡ found') × (w ≡ w'))
    × (Passing (Cuts (picks cols) bs 0 n w) passed → Passing (Cuts (may rows) bs 0 n w) passed' → passed ≡ passed')
    × (Passing (Fills (picks cols) k n w) passed → Passing (Fills (may rows) k n w) passed' → passed ≡ passed')

abbrev pub PairsOrRows : Type 0
PairsOrRows = (f : Family) (es : List (Elem (LeafOf f))) (xs : List (ElementOf f)) (rows : List ℕ) → RowsOf f es xs rows → (bs : List Block) (found found' : Bool) (w w' : List ℕ)
    → Cutting (pair_of f es xs) bs (length xs) found w → Cutting (may rows) bs (length xs) found' w' → (found ≡ found') × (w ≡ w')

abbrev pub PairsApart : Type 0
PairsApart = (may : ℕ → ℕ → Bool) (bs : List Block) (w : List ℕ) (any passed : Bool) → Passing (Cuts any_pair bs 0 (length w) w) any → Passing (Cuts may bs 0 (length w) w) passed
    → (passed ≡ true → (any ≡ true) × ((e : ℕ) → e < length w → (get_or w e 0 ≡ 255) ⊎ (may (get_or w e 0) e ≡ true)))
    × (any ≡ true → ((e : ℕ) → e < length w → (get_or w e 0 ≡ 255) ⊎ (may (get_or w e 0) e ≡ true)) → passed ≡ true)

-- ---- rows
pub record ColumnsOf (f : Family) (es : List (Elem (LeafOf f))) (xs : List (ElementOf f)) (cols : List ℕ) : Type 0 where
  pub size : length cols ≡ 32
  pub right : (m e : ℕ) → m < length es → e < length xs → picks cols m e ≡ member_hits (matches_of f) es m (get_or xs e (no_element f))
  pub no_member : (m e : ℕ) → length es ≤ m → picks cols m e ≡ false
  pub no_element : (m e : ℕ) → length xs ≤ e → picks cols m e ≡ false

abbrev pub SameOfEveryPair : Type 0
SameOfEveryPair = (f : Family) (es : List (Elem (LeafOf f))) (xs : List (ElementOf f)) (rows cols : List ℕ) → RowsOf f es xs rows → ColumnsOf f es xs cols → (m e : ℕ) → picks cols m e ≡ may rows m e
