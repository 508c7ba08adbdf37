-- The laws of element templates that are joined and negated by hand: "For element templates whose combination stays within 64 leaves and depth 8, show with
-- normal forms equal byte for byte". All of them speak of what the normaliser writes, under one type.
-- JoinsAs lo hi t e <-> the bytes t are accepted exactly where e fits, and then as e
-- Writes lo hi t f <-> every call of the normaliser for the bytes t under this type, with 578 bytes of room, is done and leaves the bytes f in front
-- SameForm lo hi s t <-> the normal forms of s and t are there, and are the same bytes
-- Listed, Complemented <-> a list, or a complement, of accepted parts is accepted exactly where it fits
-- Commutes    <-> "the list of two is the same in either order"
-- Groups      <-> "and in any grouping"
-- Flattens    <-> with the list of all three among the groupings
-- Idempotent  <-> "a template listed with itself is itself"
-- TwiceTurned <-> "complement of complement is the original"
-- Neither     <-> "complement(A, B) matches what both complement(A) and complement(B) match"
-- Meets lo hi s t f <-> every call of the meeting for s and t under this type, with 578 bytes of room, is done and leaves the bytes f in front
-- Forms lo hi s a t b <-> the bounds of the type are in order, and s and t are normal forms, that of a and that of b, which they read as
-- MetBy lo hi s t room n <-> the rows of the meeting, in their order: a refusal of the first input, then of the second; 15; 8; 12; or 0
-- MeetingGiven lo hi s t room n l after <-> what demand 1 asks of the meeting's number n, length l and of the room afterwards
-- MeetingOf lo hi a b f <-> the bytes f are a normal form, and match just the integers of the type that a and b both match
-- EveryMeeting <-> every input has a call: the contract of the meeting allows an answer for it, so that no claim is empty
-- MeetingRows  <-> of every call of the meeting: a number exactly where its row calls for it, and only the bytes of its form change
-- MeetsBoth    <-> "the meeting of two normal forms .. the normal form of what both match"
-- NeitherMeets <-> where complement(A, B) fits, it is the meeting of complement(A) and complement(B), byte for byte
-- MeetOverList <-> the meeting with a list is the list of the meetings, "wherever every list and form in the law fits"
-- ListOverMeet <-> the list with a meeting is the meeting of the lists, there too
-- Assumes nothing: these are statements, proved in proofs/Claims.antt.
use Rattle.std.specs.Prelude.{ℕ, ◌≤◌, ◌<◌, ◌≡◌, ◌&&◌, List, [], ◌∷◌, ◌++◌, ℤ, ◌≤ℤ◌, length, take, drop}
use Rattle.grammar.specs.Element.{Elem, leaves}
use Rattle.grammar.specs.Leaf.{Leaf}
use Rattle.grammar.specs.Matches.{matches}
use Rattle.forms.specs.Matched.{ranges_of}
use Rattle.forms.specs.Form.{normal_form, form_leaves}
use Rattle.meeting.specs.Meeting.{both}
use Rattle.demands.specs.NormalForms.{Accepted}
use Rattle.demands.specs.Calls.{NormalCall}
use Rattle.demands.specs.Claims.{Exactly, RefusedBy, IsType}
use Rattle.algebra.specs.Calls.{MeetingCall}
use Rattle.algebra.specs.Together.{list_of, complement_of, list, complement, Fits, Parts}

pub record JoinsAs (lo hi : ℤ) (t : List ℕ) (e : Elem Leaf) : Type 0 where
  pub accepted : Fits e → Accepted lo hi t e
  pub only : (e' : Elem Leaf) → Accepted lo hi t e' → (e' ≡ e) × Fits e

abbrev pub Writes : ℤ → ℤ → List ℕ → List ℕ → Type 0
Writes lo hi t f = (room : List ℕ) (n l : ℕ) (after : List ℕ) → 578 ≤ length room → NormalCall t lo hi room n l after → (n ≡ 0) × (take l after ≡ f)

abbrev pub SameForm : ℤ → ℤ → List ℕ → List ℕ → Type 0
SameForm lo hi s t = (f : List ℕ) × Writes lo hi s f × Writes lo hi t f

abbrev pub Listed : Type 0
Listed = (lo hi : ℤ) (ss : List (List ℕ)) (es : List (Elem Leaf)) → 0 < length ss → Parts lo hi ss es → JoinsAs lo hi (list_of ss) (list es)

abbrev pub Complemented : Type 0
Complemented = (lo hi : ℤ) (ss : List (List ℕ)) (es : List (Elem Leaf)) → 0 < length ss → Parts lo hi ss es → JoinsAs lo hi (complement_of ss) (complement es)

abbrev pub Commutes : Type 0
Commutes = (lo hi : ℤ) (s t : List ℕ) (a b : Elem Leaf) → IsType lo hi → Accepted lo hi s a → Accepted lo hi t b
    → Fits (list (a ∷ b ∷ [])) → SameForm lo hi (list_of (s ∷ t ∷ [])) (list_of (t ∷ s ∷ []))

abbrev pub Groups : Type 0
Groups = (lo hi : ℤ) (s t u : List ℕ) (a b c : Elem Leaf) → IsType lo hi → Accepted lo hi s a → Accepted lo hi t b → Accepted lo hi u c
    → Fits (list (list (a ∷ b ∷ []) ∷ c ∷ [])) → Fits (list (a ∷ list (b ∷ c ∷ []) ∷ []))
    → SameForm lo hi (list_of (list_of (s ∷ t ∷ []) ∷ u ∷ [])) (list_of (s ∷ list_of (t ∷ u ∷ []) ∷ []))

abbrev pub Flattens : Type 0
Flattens = (lo hi : ℤ) (s t u : List ℕ) (a b c : Elem Leaf) → IsType lo hi → Accepted lo hi s a → Accepted lo hi t b → Accepted lo hi u c
    → (Fits (list (list (a ∷ b ∷ []) ∷ c ∷ [])) → SameForm lo hi (list_of (list_of (s ∷ t ∷ []) ∷ u ∷ [])) (list_of (s ∷ t ∷ u ∷ [])))
    × (Fits (list (a ∷ list (b ∷ c ∷ []) ∷ [])) → SameForm lo hi (list_of (s ∷ list_of (t ∷ u ∷ []) ∷ [])) (list_of (s ∷ t ∷ u ∷ [])))

abbrev pub Idempotent : Type 0
Idempotent = (lo hi : ℤ) (s : List ℕ) (a : Elem Leaf) → IsType lo hi → Accepted lo hi s a → Fits (list (a ∷ a ∷ [])) → SameForm lo hi (list_of (s ∷ s ∷ [])) s

abbrev pub TwiceTurned : Type 0
TwiceTurned = (lo hi : ℤ) (s : List ℕ) (a : Elem Leaf) → IsType lo hi → Accepted lo hi s a
    → Fits (complement (complement (a ∷ []) ∷ [])) → SameForm lo hi (complement_of (complement_of (s ∷ []) ∷ [])) s

abbrev pub Neither : Type 0
Neither = (a b : Elem Leaf) (x : ℤ) → matches (complement (a ∷ b ∷ [])) x ≡ (matches (complement (a ∷ [])) x && matches (complement (b ∷ [])) x)

-- ---- the meeting

abbrev pub Meets : ℤ → ℤ → List ℕ → List ℕ → List ℕ → Type 0
Meets lo hi s t f = (room : List ℕ) (n l : ℕ) (after : List ℕ) → 578 ≤ length room → MeetingCall s t lo hi room n l after → (n ≡ 0) × (take l after ≡ f)

pub record Forms (lo hi : ℤ) (s : List ℕ) (a : Elem Leaf) (t : List ℕ) (b : Elem Leaf) : Type 0 where
  pub in_order : lo ≤ℤ hi
  pub first : Accepted lo hi s a
  pub second : Accepted lo hi t b
  pub first_form : s ≡ normal_form lo hi a
  pub second_form : t ≡ normal_form lo hi b

-- "the normaliser's but 12 for the first input, then the second; 15 if either isn't a normal form; 8 if the result has over 64 leaves; 12 last"
pub data MetBy (lo hi : ℤ) (s t room : List ℕ) (n : ℕ) : Type 0 where
  by_first : RefusedBy lo hi s n → MetBy lo hi s t room n
  by_second : (a : Elem Leaf) → lo ≤ℤ hi → Accepted lo hi s a → RefusedBy lo hi t n → MetBy lo hi s t room n
  by_forms : (a b : Elem Leaf) → lo ≤ℤ hi → Accepted lo hi s a → Accepted lo hi t b → ((s ≡ normal_form lo hi a) × (t ≡ normal_form lo hi b) → ⊥) → n ≡ 15 → MetBy lo hi s t room n
  by_leaves : (a b : Elem Leaf) → Forms lo hi s a t b → 64 < form_leaves lo hi (ranges_of (both a b)) → n ≡ 8 → MetBy lo hi s t room n
  by_room : (a b : Elem Leaf) → Forms lo hi s a t b → form_leaves lo hi (ranges_of (both a b)) ≤ 64 → length room < length (normal_form lo hi (both a b)) → n ≡ 12 → MetBy lo hi s t room n
  met : (a b : Elem Leaf) → Forms lo hi s a t b → form_leaves lo hi (ranges_of (both a b)) ≤ 64 → length (normal_form lo hi (both a b)) ≤ length room → n ≡ 0 → MetBy lo hi s t room n

-- "each giving 0 bytes and leaving the room"
pub record MeetingGiven (lo hi : ℤ) (s t room : List ℕ) (n l : ℕ) (after : List ℕ) : Type 0 where
  pub rows : (r : ℕ) → Exactly (n ≡ r) (MetBy lo hi s t room r)
  pub written : n ≡ 0 → (a b : Elem Leaf) → Accepted lo hi s a → Accepted lo hi t b → (l ≡ length (normal_form lo hi (both a b))) × (after ≡ normal_form lo hi (both a b) ++ drop l room)
  pub untouched : (n ≡ 0 → ⊥) → (l ≡ 0) × (after ≡ room)

pub record MeetingOf (lo hi : ℤ) (a b : Elem Leaf) (f : List ℕ) : Type 0 where
  pub what : Elem Leaf
  pub reads : Accepted lo hi f what
  pub normal : Writes lo hi f f
  pub leaf_count : leaves what ≡ form_leaves lo hi (ranges_of (both a b))
  pub same : (x : ℤ) → lo ≤ℤ x → x ≤ℤ hi → matches what x ≡ (matches a x && matches b x)

abbrev pub EveryMeeting : Type 0
EveryMeeting = (s t : List ℕ) (lo hi : ℤ) (room : List ℕ) → (n : ℕ) × (l : ℕ) × (after : List ℕ) × MeetingCall s t lo hi room n l after

abbrev pub MeetingRows : Type 0
MeetingRows = (lo hi : ℤ) (s t room : List ℕ) (n l : ℕ) (after : List ℕ) → MeetingCall s t lo hi room n l after → MeetingGiven lo hi s t room n l after

abbrev pub MeetsBoth : Type 0
MeetsBoth = (lo hi : ℤ) (s t f : List ℕ) (a b : Elem Leaf) → IsType lo hi → Accepted lo hi s a → Accepted lo hi t b → Meets lo hi s t f → MeetingOf lo hi a b f

abbrev pub NeitherMeets : Type 0
NeitherMeets = (lo hi : ℤ) (s t : List ℕ) (a b : Elem Leaf) → IsType lo hi → Accepted lo hi s a → Accepted lo hi t b → Fits (complement (a ∷ b ∷ []))
    → (p : List ℕ) × (q : List ℕ) × (f : List ℕ) × Writes lo hi (complement_of (s ∷ [])) p × Writes lo hi (complement_of (t ∷ [])) q × Meets lo hi p q f × Writes lo hi (complement_of (s ∷ t ∷ [])) f

abbrev pub MeetOverList : Type 0
MeetOverList = (lo hi : ℤ) (s t u l v p q w : List ℕ) → IsType lo hi → Writes lo hi (list_of (t ∷ u ∷ [])) l → Meets lo hi s l v
    → Meets lo hi s t p → Meets lo hi s u q → Writes lo hi (list_of (p ∷ q ∷ [])) w → v ≡ w

abbrev pub ListOverMeet : Type 0
ListOverMeet = (lo hi : ℤ) (s t u m v p q w : List ℕ) (a : Elem Leaf) → IsType lo hi → Accepted lo hi s a → Meets lo hi t u m → Writes lo hi (list_of (s ∷ m ∷ [])) v
    → Writes lo hi (list_of (s ∷ t ∷ [])) p → Writes lo hi (list_of (s ∷ u ∷ [])) q → Meets lo hi p q w → v ≡ w
