-- What is claimed of groups of members that are short of elements, and of `why_not`, in the words of document 02. Of `why_not` they speak of
-- every call that its contract allows, and as much of `why_not_floats`: they are stated once, for every family f of templates and lists.
-- Exists    <-> of the groups whose shortfall is greatest, one lies inside all the others
-- OnlyOne   <-> there is only one such group
-- Explains  <-> it is short exactly where some group is
-- Greatest  <-> in an assignment of as many members as can be, its shortfall is the number of members that wait
-- Hall      <-> a group is short "exactly when" the members cannot choose an element each, no element twice
-- GivenWhere    <-> a group is given exactly where a superset, or a subset under sheet 2, whose length is met does not match
-- OfGiven P     <-> P holds of every group that is given, and of what is asked: the relation and the two counts
-- GivenShort    <-> "the number of elements that at least one of a group of members matches is below the group's size"
-- NoneShorter   <-> no group's shortfall is greater
-- InsideOthers  <-> of the groups whose shortfall is greatest it "lies inside all the others"
-- NumberAgrees  <-> the number is the matcher's, with room enough
-- NeverTwelve   <-> the number is at most 11, or of a row about the template, or 17: nothing is lent, so no room is too short, and no witness is offered
-- ShortExactly  <-> a group that is short "exists exactly when no assignment does"
-- Assumes nothing: these are statements, proved in proofs/Claims.antt.
use Rattle.std.specs.Prelude.{◌≡◌, Bool, true, List, [], ◌⊎◌, ℕ, ◌+◌, ◌≤◌, length}
use Rattle.facts.specs.Counting.{count}
use Rattle.masks.specs.Masks.{bit}
use Rattle.format.specs.declared.Family.{Family}
use Rattle.grammar.specs.Family.{LeafOf, ElementOf, RowOf}
use Rattle.grammar.specs.Read.{got}
use Rattle.grammar.specs.Template.{Template}
use Rattle.grammar.specs.Whole.{read_template}
use Rattle.matching.specs.Obeys.{obeys}
use Rattle.matching.specs.Answer.{Taken}
use Rattle.assign.specs.Widest.{Widest}
use Rattle.reasons.specs.Reason.{matched, size_of, Group, NoLess, Most, ShortGroup, Reason, Chosen}
use Rattle.why.specs.Why.{of_groups, asked_of}
use Rattle.why.specs.Unmatched.{Unmatched, Explained}
use Rattle.demands.specs.Calls.{MatchCall}
use Rattle.reason_claims.specs.Calls.{WhyCall}

-- ---- groups
abbrev pub Exists : Type 0
Exists = (ok : ℕ → ℕ → Bool) (k n : ℕ) → k ≤ 32 → (G : ℕ → Bool) × Reason ok k n G

abbrev pub OnlyOne : Type 0
OnlyOne = (ok : ℕ → ℕ → Bool) (k n : ℕ) (G H : ℕ → Bool) → Reason ok k n G → Reason ok k n H → (v : ℕ) → G v ≡ H v

abbrev pub Explains : Type 0
Explains = (ok : ℕ → ℕ → Bool) (k n : ℕ) (G H : ℕ → Bool) → Reason ok k n G → ShortGroup ok k n H → ShortGroup ok k n G

abbrev pub Greatest : Type 0
Greatest = (ok : ℕ → ℕ → Bool) (k n : ℕ) (w : List ℕ) (U G : ℕ → Bool) → k ≤ 32 → n ≤ 32 → Widest ok 0 k 0 n w U → Reason ok k n G → size_of G ≡ matched ok n G + count U 32

abbrev pub Hall : Type 0
Hall = (ok : ℕ → ℕ → Bool) (k n : ℕ) → k ≤ 32 → n ≤ 32
    → ((G : ℕ → Bool) → ShortGroup ok k n G → (f : ℕ → ℕ) → Chosen ok k n f → ⊥) × (((f : ℕ → ℕ) → Chosen ok k n f → ⊥) → (G : ℕ → Bool) × ShortGroup ok k n G)

-- ---- why not
abbrev pub GivenWhere : Type 0
GivenWhere = (f : Family) (t : List ℕ) (xs : List (ElementOf f)) (r g : ℕ) → WhyCall f t xs r g
    → ((g ≡ 0 → ⊥) → (s : Template (LeafOf f)) × Unmatched f t xs s × Explained s xs) × ((s : Template (LeafOf f)) → Unmatched f t xs s → Explained s xs → g ≡ 0 → ⊥)

abbrev pub OfGiven : ((ℕ → ℕ → Bool) → ℕ → ℕ → ℕ → Type 0) → Type 0
OfGiven P = (f : Family) (t : List ℕ) (xs : List (ElementOf f)) (r g : ℕ) → WhyCall f t xs r g → (g ≡ 0 → ⊥) → (s : Template (LeafOf f)) → read_template f t ≡ got s []
    → (ok : ℕ → ℕ → Bool) (k n : ℕ) → asked_of f s xs ≡ of_groups ok k n → P ok k n g

abbrev pub GivenShort : Type 0
GivenShort = OfGiven (λ ok k n g. ShortGroup ok k n (bit g))

abbrev pub NoneShorter : Type 0
NoneShorter = OfGiven (λ ok k n g. (H : ℕ → Bool) → Group k H → NoLess ok n (bit g) H)

abbrev pub InsideOthers : Type 0
InsideOthers = OfGiven (λ ok k n g. (H : ℕ → Bool) → Most ok k n H → (v : ℕ) → bit g v ≡ true → H v ≡ true)

abbrev pub NumberAgrees : Type 0
NumberAgrees = (f : Family) (t : List ℕ) (xs : List (ElementOf f)) (r g : ℕ) → WhyCall f t xs r g
    → (room after : List ℕ) (q : ℕ) → length xs ≤ length room → MatchCall f t xs room q after → r ≡ q

abbrev pub NeverTwelve : Type 0
NeverTwelve = (f : Family) (t : List ℕ) (xs : List (ElementOf f)) (r g : ℕ) → WhyCall f t xs r g → (r ≤ 11) ⊎ (RowOf f r ⊎ (r ≡ 17))

abbrev pub ShortExactly : Type 0
ShortExactly = (f : Family) (t : List ℕ) (xs : List (ElementOf f)) (s : Template (LeafOf f)) → Taken t xs → read_template f t ≡ got s []
    → (ok : ℕ → ℕ → Bool) (k n : ℕ) → asked_of f s xs ≡ of_groups ok k n
    → ((G : ℕ → Bool) → ShortGroup ok k n G → (w : List ℕ) → obeys f s xs w ≡ true → ⊥)
    × (((w : List ℕ) → obeys f s xs w ≡ true → ⊥) → (G : ℕ → Bool) × ShortGroup ok k n G)
