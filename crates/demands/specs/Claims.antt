-- The three demands of the request, as claims, over calls of the entry points; the judged examples as a fourth; and that matcher and judge
-- agree. Every "exactly" of a demand stands in both directions. Demands 1 and 2 are stated once, for every family f of templates and lists; the
-- normaliser, and with it demand 3, is about integers only.
-- Exactly A B <-> A where B, and only there
-- Accepts f t s, Refused f t n <-> the bytes t are accepted as a template of the family f, and that is s; they are refused by the number n
-- Inside f s xs <-> every element is of the template's type
-- RefusedAlone lo hi t n <-> the bytes t are refused by the number n as one element template by itself, of integers of the type from lo to hi
-- RefusedBy lo hi t n <-> the rows of the normaliser before 12: 2, then "6 for reversed bounds, also in the normaliser, after 2", then the scan
-- Kept room after n <-> the first n bytes of the room were written, and no other byte changed
-- ListRows f t xs Fit r <-> the rows of the table that matcher and judge share, for the number r: each is given exactly where it holds and none before it
--             does; Fit says that the row between 11 and the scan does not hold
-- MatchGiven f t xs room r after <-> what demand 1 asks of the matcher's number r and of the room afterwards
-- JudgeGiven f t xs w r <-> what demand 1 asks of the judge's number r
-- NormalGiven lo hi t room n l after <-> what demand 1 asks of the normaliser's number n, length l and of the room afterwards
-- Demand1 <-> of every call: a number exactly where the table and its order call for it, and only the bytes named change; bytes are accepted or
--             refused, and by which numbers. That there is one answer only is said by the uniqueness laws of the entry points
-- MatchedExactly f xs s r after, JudgedExactly f xs s w r <-> what demand 2 asks of the matcher and of the judge, for the template s
-- Demand2 <-> refusals apart, so of lists of "integers of the type", a match is given exactly when some assignment obeys, and then the first in byte
--             order stands in the room; the judge passes exactly what obeys, whoever made it
-- IsType lo hi <-> lo and hi are the bounds of a type: 32-bit integers, the lower one not above the upper one
-- FormCall lo hi t e n l f <-> a call of the normaliser for the bytes t of the element template e under this type, with 578 bytes of room, which gives
--             the number n and the length l and leaves the bytes f in front
-- FormOf lo hi e n l f <-> what demand 3 asks of one such call
-- MaximalRanges lo hi e <-> ranges_in lo hi e are ascending, lie in the type, hold just the integers of the type that e matches, and none of them, from a
--             to b, can be widened: a - 1 and b + 1, where they are of the type, are not matched
-- Demand3 <-> the bytes written match exactly the same "integers of the type", and have no more leaves; of two calls "under one type" they are the same
--             exactly when the templates match the same integers; a call for the bytes written gives them again; they are written from the maximal
--             ranges, in the length that the table of records counts
-- First, Second, Third <-> demands 1, 2 and 3 hold
-- AsJudged <-> every judged example that is marked P comes out of the definitions
-- EveryInput    <-> every input has a call: the contract of each entry point allows an answer for it, so that no demand is empty
-- WholeType     <-> under the type of all 32-bit integers the normaliser is document 01's
-- JudgeAgrees   <-> the judge passes what the matcher writes
-- SomeIsMatched <-> a list for which some witness passes is matched
-- Assumes nothing: these are statements, proved in proofs/Claims.antt.
use Rattle.std.specs.Prelude.{◌≡◌, true, false, List, [], ◌∷◌, ◌++◌, ◌⊎◌, ℕ, ◌≤◌, ◌<◌, length, take, drop, ℤ, pos, ◌+ℤ◌, ◌-ℤ◌, ◌<ℤ◌, ◌≤ℤ◌}
use Rattle.std.specs.Int.Signed.{lt_z}
use Rattle.format.specs.declared.Family.{Family}
use Rattle.byte_order.specs.ByteOrder.{First as FirstOf}
use Rattle.integers.specs.Integer.{Word, least, greatest}
use Rattle.grammar.specs.Element.{Elem, leaves}
use Rattle.grammar.specs.Leaf.{Leaf, typed_head}
use Rattle.grammar.specs.Family.{LeafOf, ElementOf, ElementRowOf, RowOf}
use Rattle.grammar.specs.Template.{Template}
use Rattle.grammar.specs.Read.{refuse, got}
use Rattle.grammar.specs.Reading.{read_element}
use Rattle.grammar.specs.Whole.{read_template}
use Rattle.matching.specs.Obeys.{Obeys}
use Rattle.matching.specs.Answer.{element_outside, Taken}
use Rattle.grammar.specs.Matches.{matches}
use Rattle.ranges.specs.Spans.{Span, span, holds, Ascending}
use Rattle.forms.specs.Matched.{ranges_of, ranges_in}
use Rattle.forms.specs.Form.{normal_form, form_length}
use Rattle.forms.specs.Answer.{answer}
use Rattle.demands.specs.Calls.{MatchCall, JudgeCall, NormalCall}
use Rattle.demands.specs.NormalForms.{Accepted, SameIntegers}
use Rattle.demands.specs.DocumentOne.{normalised_whole}
use Rattle.demands.specs.Judged.{all_come_out, judged}

abbrev pub Exactly : (A B : Type 0) → Type 0
Exactly A B = (A → B) × (B → A)

abbrev pub Accepts : (f : Family) → List ℕ → Template (LeafOf f) → Type 0
Accepts f t s = read_template f t ≡ got s []

abbrev pub Refused : Family → List ℕ → ℕ → Type 0
Refused f t n = read_template f t ≡ refuse n

abbrev pub Inside : (f : Family) → Template (LeafOf f) → List (ElementOf f) → Type 0
Inside f s xs = element_outside f s xs ≡ false

abbrev pub RefusedAlone : ℤ → ℤ → List ℕ → ℕ → Type 0
RefusedAlone lo hi t n = read_element (typed_head lo hi) t ≡ refuse n

pub data RefusedBy (lo hi : ℤ) (t : List ℕ) (n : ℕ) : Type 0 where
  by_length : 4096 < length t → n ≡ 2 → RefusedBy lo hi t n
  by_bounds : length t ≤ 4096 → hi <ℤ lo → n ≡ 6 → RefusedBy lo hi t n
  by_scan : length t ≤ 4096 → lo ≤ℤ hi → RefusedAlone lo hi t n → RefusedBy lo hi t n

pub record Kept (room after : List ℕ) (n : ℕ) : Type 0 where
  pub bytes : List ℕ
  pub count : length bytes ≡ n
  pub rest : after ≡ bytes ++ drop n room

-- ---- demand 1

-- "2, 11, 12 or 13, then a scan from the front; the first record at fault decides .. Then 10"; "17 for a list element outside it, after 10"; then 0 or 1
pub record ListRows (f : Family) (t : List ℕ) (xs : List (ElementOf f)) (Fit : Type 0) (r : ℕ) : Type 0 where
  pub two : Exactly (r ≡ 2) (4096 < length t)
  pub eleven : Exactly (r ≡ 11) ((length t ≤ 4096) × (32 < length xs))
  pub refused : (n : ℕ) → RowOf f n → 2 < n → Exactly (r ≡ n) (Taken t xs × Fit × Refused f t n)
  pub seventeen : Exactly (r ≡ 17) (Taken t xs × Fit × ((s : Template (LeafOf f)) × Accepts f t s × (element_outside f s xs ≡ true)))
  pub answered : Exactly (r ≤ 1) (Taken t xs × Fit × ((s : Template (LeafOf f)) × Accepts f t s × Inside f s xs))

-- "The judge never gives 12, the matcher never 13". A template may have a row above these, and its list 17.
pub record MatchGiven (f : Family) (t : List ℕ) (xs : List (ElementOf f)) (room : List ℕ) (r : ℕ) (after : List ℕ) : Type 0 where
  pub rows : ListRows f t xs (length xs ≤ length room) r
  pub twelve : Exactly (r ≡ 12) (Taken t xs × (length room < length xs))
  pub numbers : (r ≤ 12) ⊎ (RowOf f r ⊎ (r ≡ 17))
  pub written : r ≡ 0 → Kept room after (length xs)
  pub untouched : (r ≡ 0 → ⊥) → after ≡ room

pub record JudgeGiven (f : Family) (t : List ℕ) (xs : List (ElementOf f)) (w : List ℕ) (r : ℕ) : Type 0 where
  pub rows : ListRows f t xs (length w ≡ length xs) r
  pub thirteen : Exactly (r ≡ 13) (Taken t xs × (length w ≡ length xs → ⊥))
  pub numbers : ((r ≤ 13) ⊎ (RowOf f r ⊎ (r ≡ 17))) × (r ≡ 12 → ⊥)

-- "never gives 1, 9, 11 or 13; its 12 comes last, after 10"
pub record NormalGiven (lo hi : ℤ) (t room : List ℕ) (n l : ℕ) (after : List ℕ) : Type 0 where
  pub refused : (r : ℕ) → ElementRowOf Family.Integers r → Exactly (n ≡ r) (RefusedBy lo hi t r)
  pub twelve : Exactly (n ≡ 12) ((e : Elem Leaf) × (lo ≤ℤ hi) × Accepted lo hi t e × (length room < length (normal_form lo hi e)))
  pub done : Exactly (n ≡ 0) ((e : Elem Leaf) × (lo ≤ℤ hi) × Accepted lo hi t e × (length (normal_form lo hi e) ≤ length room))
  pub numbers : ((n ≤ 12) ⊎ (n ≡ 16)) × (n ≡ 1 → ⊥) × (n ≡ 9 → ⊥) × (n ≡ 11 → ⊥)
  pub written : n ≡ 0 → (e : Elem Leaf) → Accepted lo hi t e → (l ≡ length (normal_form lo hi e)) × (after ≡ normal_form lo hi e ++ drop l room)
  pub untouched : (n ≡ 0 → ⊥) → (l ≡ 0) × (after ≡ room)

pub record Demand1 : Type 0 where
  pub matcher : (f : Family) (t : List ℕ) (xs : List (ElementOf f)) (room : List ℕ) (r : ℕ) (after : List ℕ) → MatchCall f t xs room r after → MatchGiven f t xs room r after
  pub judge : (f : Family) (t : List ℕ) (xs : List (ElementOf f)) (w : List ℕ) (r : ℕ) → JudgeCall f t xs w r → JudgeGiven f t xs w r
  pub normaliser : (t : List ℕ) (lo hi : ℤ) (room : List ℕ) (n l : ℕ) (after : List ℕ) → NormalCall t lo hi room n l after → NormalGiven lo hi t room n l after
  pub templates : (f : Family) (t : List ℕ) → ((s : Template (LeafOf f)) × Accepts f t s) ⊎ ((n : ℕ) × Refused f t n)
  pub template_rows : (f : Family) (t : List ℕ) (n : ℕ) → Refused f t n → RowOf f n
  pub elements : (lo hi : ℤ) (t : List ℕ) → ((e : Elem Leaf) × Accepted lo hi t e) ⊎ ((n : ℕ) × RefusedAlone lo hi t n)
  pub element_rows : (lo hi : ℤ) (t : List ℕ) (n : ℕ) → RefusedAlone lo hi t n → ElementRowOf Family.Integers n × (n ≡ 9 → ⊥)

-- ---- demand 2

module _ (f : Family) (xs : List (ElementOf f)) (s : Template (LeafOf f)) where
  pub record MatchedExactly (r : ℕ) (after : List ℕ) : Type 0 where
    pub matched : Exactly (r ≡ 0) ((v : List ℕ) × Obeys f s xs v)
    pub unmatched : Exactly (r ≡ 1) ((v : List ℕ) → Obeys f s xs v → ⊥)
    pub first : r ≡ 0 → FirstOf (Obeys f s xs) (take (length xs) after)

  pub record JudgedExactly (w : List ℕ) (r : ℕ) : Type 0 where
    pub passed : Exactly (r ≡ 0) (Obeys f s xs w)
    pub failed : Exactly (r ≡ 1) (Obeys f s xs w → ⊥)

pub record Demand2 : Type 0 where
  pub matcher : (f : Family) (t : List ℕ) (xs : List (ElementOf f)) (s : Template (LeafOf f)) (room : List ℕ) (r : ℕ) (after : List ℕ) → MatchCall f t xs room r after
      → Taken t xs → length xs ≤ length room → Accepts f t s → Inside f s xs → MatchedExactly f xs s r after
  pub judge : (f : Family) (t : List ℕ) (xs : List (ElementOf f)) (s : Template (LeafOf f)) (w : List ℕ) (r : ℕ) → JudgeCall f t xs w r
      → Taken t xs → length w ≡ length xs → Accepts f t s → Inside f s xs → JudgedExactly f xs s w r

-- ---- demand 3

abbrev pub IsType : ℤ → ℤ → Type 0
IsType lo hi = Word lo × Word hi × (lo ≤ℤ hi)

pub record FormCall (lo hi : ℤ) (t : List ℕ) (e : Elem Leaf) (n l : ℕ) (f : List ℕ) : Type 0 where
  pub room : List ℕ
  pub after : List ℕ
  pub call : NormalCall t lo hi room n l after
  pub type : IsType lo hi
  pub accepted : Accepted lo hi t e
  pub roomy : 578 ≤ length room
  pub front : take l after ≡ f

-- "The length is 1 for everything, 3 for nothing, otherwise 5 for each single plus 9 for each wider range .. The most is 578."
pub record FormOf (lo hi : ℤ) (e : Elem Leaf) (n l : ℕ) (f : List ℕ) : Type 0 where
  pub done : n ≡ 0
  pub whole : length f ≡ l
  pub size : l ≡ form_length lo hi (ranges_of e)
  pub most : l ≤ 578
  pub what : Elem Leaf
  pub reads : Accepted lo hi f what
  pub same : SameIntegers lo hi what e
  pub smaller : leaves what ≤ leaves e

pub record MaximalRanges (lo hi : ℤ) (e : Elem Leaf) : Type 0 where
  pub ascending : Ascending (ranges_in lo hi e)
  pub inside : (x : ℤ) → Word x → holds (ranges_in lo hi e) x ≡ true → (lo ≤ℤ x) × (x ≤ℤ hi)
  pub right : (x : ℤ) → lo ≤ℤ x → x ≤ℤ hi → holds (ranges_in lo hi e) x ≡ matches e x
  pub widest : (k : ℕ) (a b : ℤ) (rs : List Span) → drop k (ranges_in lo hi e) ≡ span a b ∷ rs
      → (lt_z lo a ≡ true → matches e (a -ℤ pos 1) ≡ false) × (lt_z b hi ≡ true → matches e (b +ℤ pos 1) ≡ false)

pub record Demand3 : Type 0 where
  pub form : (lo hi : ℤ) (t : List ℕ) (e : Elem Leaf) (n l : ℕ) (f : List ℕ) → FormCall lo hi t e n l f → FormOf lo hi e n l f
  pub canonical : (lo hi : ℤ) (t t' : List ℕ) (e e' : Elem Leaf) (n n' l l' : ℕ) (f f' : List ℕ) → FormCall lo hi t e n l f → FormCall lo hi t' e' n' l' f' → Exactly (f ≡ f') (SameIntegers lo hi e e')
  pub again : (lo hi : ℤ) (t : List ℕ) (e : Elem Leaf) (n l : ℕ) (f : List ℕ) → FormCall lo hi t e n l f
      → (room : List ℕ) (n' l' : ℕ) (after : List ℕ) → NormalCall f lo hi room n' l' after → l ≤ length room → (n' ≡ 0) × (l' ≡ l) × (take l' after ≡ f)
  pub maximal : (lo hi : ℤ) (t : List ℕ) (e : Elem Leaf) → IsType lo hi → Accepted lo hi t e → MaximalRanges lo hi e

-- ---- the claims

abbrev pub First : Type 0
First = Demand1

abbrev pub Second : Type 0
Second = Demand2

abbrev pub Third : Type 0
Third = Demand3

abbrev pub EveryInput : Type 0
EveryInput =
    ((f : Family) (t : List ℕ) (xs : List (ElementOf f)) (room : List ℕ) → (r : ℕ) × (after : List ℕ) × MatchCall f t xs room r after)
    × ((f : Family) (t : List ℕ) (xs : List (ElementOf f)) (w : List ℕ) → (r : ℕ) × JudgeCall f t xs w r)
    × ((t : List ℕ) (lo hi : ℤ) (room : List ℕ) → (n : ℕ) × (l : ℕ) × (after : List ℕ) × NormalCall t lo hi room n l after)

abbrev pub WholeType : Type 0
WholeType = (t room : List ℕ) (n l : ℕ) (after : List ℕ) → NormalCall t least greatest room n l after → normalised_whole t room ≡ answer n l after

abbrev pub JudgeAgrees : Type 0
JudgeAgrees = (f : Family) (t : List ℕ) (xs : List (ElementOf f)) (room after : List ℕ) (r : ℕ) → MatchCall f t xs room 0 after → JudgeCall f t xs (take (length xs) after) r → r ≡ 0

abbrev pub SomeIsMatched : Type 0
SomeIsMatched = (f : Family) (t : List ℕ) (xs : List (ElementOf f)) (w room after : List ℕ) (r : ℕ) → JudgeCall f t xs w 0 → length xs ≤ length room → MatchCall f t xs room r after → r ≡ 0

abbrev pub AsJudged : Type 0
AsJudged = all_come_out judged ≡ true
