-- What the functions say. A place is an index into the whole input t; what stands there is `drop place t`.
-- A scan answers by one number r. Up to 16,777,215 it is a place and, 65,536 for each, what was counted up to it, leaves or members; above it says
-- a refusal.
-- fault_in r           == the number of the refusal that r says, 0 where it says none; place_in r, count_in r == the place, and the count, that r says
-- Place t at         <-> `at` is a place of t, and t is short enough for its places to be said so
-- From t from        <-> `from` says a place of such a t, and no refusal
-- group_kind kind      == a record of this kind has members: a list or a complement
-- HeadAt t at h r    <-> r says of the record h that stands at `at`: its fault, never 0; or the place after it; which kinds have members, and how many
-- Noted Tells t o code next <-> what a scan says of the reading o: the refusal `code`, never 0; or `code` 0, `next` the place after what
--                      was read, and what Tells says of it
-- Ended t o r        <-> r says the refusal of the reading o, or the place after what was read
-- ScannedOne k t left from r <-> r says this, and the leaves so far, of the element template of the sort k after `from`, with so many depths left
-- ScannedAll k t left n from r <-> this of n of them
-- Answered o r       <-> r is the number for the whole reading o: the refusal's, never 0; or 0 where o is accepted
-- leaves_to c         == the leaves so far
-- Assumes nothing: these are definitions.
use Rattle.std.specs.Prelude.{◌≡◌, Bool, true, false, ◌||◌, List, [], ℕ, ◌+◌, ◌-◌, ◌/◌, ◌%◌, ◌≤◌, ◌<◌, eqb, length, get_or, drop}
use Rattle.grammar.specs.Element.{Elem, Elems}
use Rattle.grammar.specs.Record.{Head, fault, leaf_here, group}
use Rattle.grammar.specs.Family.{LeafOf}
use Rattle.sorts.specs.declared.Sort.{Sort}
use Rattle.sorts.specs.Sorts.{family_of, leaves_for}
use Rattle.grammar.specs.Read.{Read, refuse, got}
use Rattle.grammar.specs.Reading.{Counted, counted, many, elem}

abbrev pub fault_in : ℕ → ℕ
fault_in r = r - 16777215

abbrev pub place_in : ℕ → ℕ
place_in r = r % 65536

abbrev pub count_in : ℕ → ℕ
count_in r = r / 65536

abbrev pub Place : List ℕ → ℕ → Type 0
Place t at = (at ≤ length t) × (length t < 65536)

abbrev pub From : List ℕ → ℕ → Type 0
From t from = Place t (place_in from) × (from ≤ 16777215)

abbrev pub group_kind : ℕ → Bool
group_kind kind = eqb kind 0x04 || eqb kind 0x05

pub data HeadAt {L : Type 0} (t : List ℕ) (at : ℕ) (h : Head L) (r : ℕ) : Type 0 where
  faulty : h ≡ fault (fault_in r) → 0 < fault_in r → fault_in r < 256 → HeadAt t at h r
  a_leaf : (l : L) → h ≡ leaf_here l (drop r t) → group_kind (get_or t at 0) ≡ false → at ≤ r → r ≤ length t → HeadAt t at h r
  a_group : (c : Bool) → h ≡ group c (get_or t (at + 1) 0) (drop r t) → group_kind (get_or t at 0) ≡ true → r ≡ at + 2 → r ≤ length t → HeadAt t at h r

pub data Noted {A : Type 0} (Tells : A → Type 0) (t : List ℕ) (o : Read A) (code next : ℕ) : Type 0 where
  stopped : o ≡ refuse code → 0 < code → code < 256 → Noted Tells t o code next
  noted : (a : A) → o ≡ got a (drop next t) → code ≡ 0 → Tells a → next ≤ length t → Noted Tells t o code next

abbrev pub Ended : {A : Type 0} → List ℕ → Read A → ℕ → Type 0
Ended t o r = Noted (λ a. Unit {0}) t o (fault_in r) r

pub data Answered {A : Type 0} (o : Read A) (r : ℕ) : Type 0 where
  rejected : o ≡ refuse r → 0 < r → Answered o r
  accepted : (a : A) → o ≡ got a [] → r ≡ 0 → Answered o r

unfoldable pub leaves_to : {A : Type 0} → Counted A → ℕ
leaves_to (counted a k) = k

abbrev pub ScannedOne : Sort → List ℕ → ℕ → ℕ → ℕ → Type 0
ScannedOne k t left from r = Noted (λ (c : Counted (Elem (LeafOf (family_of k)))). leaves_to c ≡ count_in r) t (elem (leaves_for k) left (count_in from) (drop (place_in from) t)) (fault_in r) (place_in r)

abbrev pub ScannedAll : Sort → List ℕ → ℕ → ℕ → ℕ → ℕ → Type 0
ScannedAll k t left n from r = Noted (λ (c : Counted (Elems (LeafOf (family_of k)))). leaves_to c ≡ count_in r) t (many (elem (leaves_for k) left) n (count_in from) (drop (place_in from) t)) (fault_in r) (place_in r)
