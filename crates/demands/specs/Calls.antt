-- Calls of the entry points: what their contracts allow, the contracts being those that the prover made of the `ensures` in src/, and no copy.
-- A call has what was lent and what is there afterwards; a demand speaks of every call. Matcher and judge have an entry point for each family.
-- MatchIntegersCall, MatchFloatsCall t xs room r after <-> by its contract `match_list`, or `match_floats`, may give the number r and leave the
--             room `after`, for the template bytes t, the list xs and the room
-- MatchCall f t xs room r after <-> this of the entry point for the family f
-- JudgeIntegersCall, JudgeFloatsCall t xs w r <-> by its contract `judge`, or `judge_floats`, may give the number r for the template bytes t, the
--             list xs and the offered witness w
-- JudgeCall f t xs w r <-> this of the entry point for the family f
-- NormalCall t lo hi room n l after <-> by its contract `normalise` may give the number n and the length l and leave the room `after`, for the
--             template bytes t, the bounds lo and hi of the element type, and the room
-- Assumes nothing: these are definitions.
use Rattle.std.specs.Prelude.{◌≡◌, List, ℕ, ℤ, Float}
use borrow.Fn.Kinds.{Dens, res_t, ended_of}
use contract.Lifetimes.{Lfts}
use denote.Triple.Clauses.{AtExit}
use Rattle.format.specs.declared.Family.{Family}
use Rattle.grammar.specs.Family.{ElementOf}
use Rattle.matcher.proofs.match_list.Reads as match-list
use Rattle.matcher.proofs.match_list.Kinds as match-list-kinds
use Rattle.matcher.proofs.match_floats.Reads as match-floats
use Rattle.matcher.proofs.match_floats.Kinds as match-floats-kinds
use Rattle.matcher.proofs.judge.Reads as judge
use Rattle.matcher.proofs.judge.Kinds as judge-kinds
use Rattle.matcher.proofs.judge_floats.Reads as judge-floats
use Rattle.matcher.proofs.judge_floats.Kinds as judge-floats-kinds
use Rattle.normal.proofs.normalise.Reads as normalise
use Rattle.normal.proofs.normalise.Kinds as normalise-kinds

pub record MatchIntegersCall (t : List ℕ) (xs : List ℤ) (room : List ℕ) (r : ℕ) (after : List ℕ) : Type 0 where
  pub κs : Lfts 3
  pub lent : Dens κs match-list-kinds.ps
  pub left : AtExit (ended_of 3 match-list-kinds.ps match-list-kinds.r) κs
  pub bytes : lent.0.now ≡ t
  pub list : lent.1.0.now ≡ xs
  pub room_then : lent.1.1.0.now ≡ room
  pub room_now : left.1.1.0.now ≡ after
  pub allowed : match-list.Post κs lent r left

pub record MatchFloatsCall (t : List ℕ) (xs : List Float) (room : List ℕ) (r : ℕ) (after : List ℕ) : Type 0 where
  pub κs : Lfts 3
  pub lent : Dens κs match-floats-kinds.ps
  pub left : AtExit (ended_of 3 match-floats-kinds.ps match-floats-kinds.r) κs
  pub bytes : lent.0.now ≡ t
  pub list : lent.1.0.now ≡ xs
  pub room_then : lent.1.1.0.now ≡ room
  pub room_now : left.1.1.0.now ≡ after
  pub allowed : match-floats.Post κs lent r left

abbrev pub MatchCall : (f : Family) → List ℕ → List (ElementOf f) → List ℕ → ℕ → List ℕ → Type 0
MatchCall Family.Integers = MatchIntegersCall
MatchCall Family.Floats = MatchFloatsCall

pub record JudgeIntegersCall (t : List ℕ) (xs : List ℤ) (w : List ℕ) (r : ℕ) : Type 0 where
  pub κs : Lfts 3
  pub lent : Dens κs judge-kinds.ps
  pub left : AtExit (ended_of 3 judge-kinds.ps judge-kinds.r) κs
  pub bytes : lent.0.now ≡ t
  pub list : lent.1.0.now ≡ xs
  pub offered : lent.1.1.0.now ≡ w
  pub allowed : judge.Post κs lent r left

pub record JudgeFloatsCall (t : List ℕ) (xs : List Float) (w : List ℕ) (r : ℕ) : Type 0 where
  pub κs : Lfts 3
  pub lent : Dens κs judge-floats-kinds.ps
  pub left : AtExit (ended_of 3 judge-floats-kinds.ps judge-floats-kinds.r) κs
  pub bytes : lent.0.now ≡ t
  pub list : lent.1.0.now ≡ xs
  pub offered : lent.1.1.0.now ≡ w
  pub allowed : judge-floats.Post κs lent r left

abbrev pub JudgeCall : (f : Family) → List ℕ → List (ElementOf f) → List ℕ → ℕ → Type 0
JudgeCall Family.Integers = JudgeIntegersCall
JudgeCall Family.Floats = JudgeFloatsCall

pub record NormalCall (t : List ℕ) (lo hi : ℤ) (room : List ℕ) (n l : ℕ) (after : List ℕ) : Type 0 where
  pub κs : Lfts 2
  pub lent : Dens κs normalise-kinds.ps
  pub result : (res_t normalise-kinds.r κs).Denot
  pub left : AtExit (ended_of 2 normalise-kinds.ps normalise-kinds.r) κs
  pub bytes : lent.0.now ≡ t
  pub lower : lent.1.0 ≡ lo
  pub upper : lent.1.1.0 ≡ hi
  pub room_then : lent.1.1.1.0.now ≡ room
  pub number : result.number ≡ n
  pub size : result.length ≡ l
  pub room_now : left.1.1.1.0.now ≡ after
  pub allowed : normalise.Post κs lent result left
