-- What is claimed of the sheets, in the words of document 02, over calls of the entry points: for every family f, whatever bytes u follow the 32, every list and every
-- room or witness.
-- OldSheet       <-> "every list that matches with value 2 matches with value 1"
-- OldWitness     <-> so does every witness: what the judge passes with value 2 it passes with value 1
-- AsWithout      <-> "without it sheet 2 holds": a 32 with value 2 before bytes that begin with no 32 changes neither the number nor the room, where it fits
-- SubsetOnly     <-> under sheet 1 a template that is accepted under sheet 2, and is no subset, gives the same number and leaves the same room
-- Plainly        <-> demand 2's assignments of a subset under sheet 1: each element has a member that matches it, a member as often as wanted, and the length is met
-- OnceEach       <-> those under sheet 2: the same, and no member is given twice
-- PlainlyMatched <-> under sheet 1 a subset whose rows before do not hold is matched exactly where its length is met and each element is matched by some member
-- SubsetOf f es h xs Holds <-> of a subset es with the heads h and a list that are short enough: what obeys are the lists of which Holds says so, and the length is met
-- is_subset b     == the body b is a subset
-- Assumes nothing: these are statements, proved in proofs/Claims.antt.
use Rattle.std.specs.Prelude.{◌≡◌, Bool, true, false, List, ◌∷◌, ℕ, ◌≤◌, ◌<◌, length, get_or}
use Rattle.format.specs.declared.Family.{Family}
use Rattle.blocks.specs.Pieces.{Contains, Fills}
use Rattle.grammar.specs.Element.{Elem}
use Rattle.grammar.specs.Family.{LeafOf, ElementOf, no_element, matches_of}
use Rattle.grammar.specs.Record.{kind_of}
use Rattle.grammar.specs.Template.{Body, record_of, set_of, superset, subset, sheet1, sheet2, Heads, template}
use Rattle.grammar.specs.Members.{member_hits}
use Rattle.member_rows.specs.Contract.{pair_of}
use Rattle.matching.specs.Obeys.{length_met, Obeys}
use Rattle.matching.specs.Answer.{Taken}
use Rattle.demands.specs.Calls.{MatchCall, JudgeCall}
use Rattle.demands.specs.Claims.{Exactly, Accepts, Inside}

-- ---- from one sheet to the other
abbrev pub OldSheet : Type 0
OldSheet = (f : Family) (u : List ℕ) (xs : List (ElementOf f)) (room after after' : List ℕ) (r : ℕ) → MatchCall f (0x32 ∷ 2 ∷ u) xs room 0 after → MatchCall f (0x32 ∷ 1 ∷ u) xs room r after' → r ≡ 0

abbrev pub OldWitness : Type 0
OldWitness = (f : Family) (u : List ℕ) (xs : List (ElementOf f)) (w : List ℕ) (r : ℕ) → JudgeCall f (0x32 ∷ 2 ∷ u) xs w 0 → JudgeCall f (0x32 ∷ 1 ∷ u) xs w r → r ≡ 0

abbrev pub AsWithout : Type 0
AsWithout = (f : Family) (u : List ℕ) (xs : List (ElementOf f)) (room after after' : List ℕ) (r r' : ℕ) → length u ≤ 4094 → (kind_of u ≡ 0x32 → ⊥)
    → MatchCall f u xs room r after → MatchCall f (0x32 ∷ 2 ∷ u) xs room r' after' → (r ≡ r') × (after ≡ after')

unfoldable pub is_subset : {L : Type 0} → Body L → Bool
is_subset (record_of is) = false
is_subset (set_of g) = false
is_subset (superset es) = false
is_subset (subset es) = true

abbrev pub SubsetOnly : Type 0
SubsetOnly = (f : Family) (u : List ℕ) (h : Heads) (b : Body (LeafOf f)) (xs : List (ElementOf f)) (room after after' : List ℕ) (r r' : ℕ) → Accepts f (0x32 ∷ 2 ∷ u) (template h b) → is_subset b ≡ false
    → MatchCall f (0x32 ∷ 1 ∷ u) xs room r after → MatchCall f (0x32 ∷ 2 ∷ u) xs room r' after' → (r ≡ r') × (after ≡ after')

-- ---- each reading
abbrev pub SubsetOf : (f : Family) → List (Elem (LeafOf f)) → Heads → List (ElementOf f) → (List ℕ → Type 0) → Type 0
SubsetOf f es h xs Holds = length es ≤ 32 → length xs ≤ 32 → (w : List ℕ) → Exactly (Obeys f (template h (subset es)) xs w) (Holds w × (length_met h.length (length xs) ≡ true))

abbrev pub Plainly : Type 0
Plainly = (f : Family) (h : Heads) (es : List (Elem (LeafOf f))) (xs : List (ElementOf f)) → h.sheet ≡ sheet1 → SubsetOf f es h xs (Contains (pair_of f es xs) (length es) (length xs))

abbrev pub OnceEach : Type 0
OnceEach = (f : Family) (h : Heads) (es : List (Elem (LeafOf f))) (xs : List (ElementOf f)) → h.sheet ≡ sheet2 → SubsetOf f es h xs (Fills (pair_of f es xs) (length es) (length xs))

abbrev pub PlainlyMatched : Type 0
PlainlyMatched = (f : Family) (t : List ℕ) (h : Heads) (es : List (Elem (LeafOf f))) (xs : List (ElementOf f)) (room after : List ℕ) (r : ℕ) → MatchCall f t xs room r after
    → Taken t xs → length xs ≤ length room → Accepts f t (template h (subset es)) → Inside f (template h (subset es)) xs → h.sheet ≡ sheet1
    → Exactly (r ≡ 0) ((length_met h.length (length xs) ≡ true) × ((e : ℕ) → e < length xs → (m : ℕ) × (member_hits (matches_of f) es m (get_or xs e (no_element f)) ≡ true)))
