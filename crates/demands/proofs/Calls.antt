-- The contracts of the entry points are equations: what a call gives is what the definitions give for what was lent, and every input can be lent.
-- Assumes nothing.
use mathlib.Core.Path.{◌≡◌, refl, sym}
use mathlib.Core.List.{List, []}
use Prim.Native.Nat.{ℕ}
use lib.IntN.{ℤ}
use denote.Ref.{Bor, MutBor}
use Rattle.format.specs.declared.Family.{Family}
use Rattle.grammar.specs.Family.{ElementOf}
use Rattle.matching.specs.Answer.{Given, given, match_answer, judge_answer}
use Rattle.forms.specs.Answer.{Answer, answer, normalised}
use Rattle.demands.specs.Calls.{MatchCall, JudgeCall, NormalCall}

pub match_answer_lem : (fam : Family) (t : List ℕ) (xs : List (ElementOf fam)) (room : List ℕ) (r : ℕ) (after : List ℕ) → MatchCall fam t xs room r after → match_answer fam t xs room ≡ given r after
match_answer_lem Family.Integers t xs room r after c = let p = c.allowed in let a = c.bytes in let b = c.list in let d = c.room_then in let e = c.room_now in cc
match_answer_lem Family.Floats t xs room r after c = let p = c.allowed in let a = c.bytes in let b = c.list in let d = c.room_then in let e = c.room_now in cc

pub judge_answer_lem : (fam : Family) (t : List ℕ) (xs : List (ElementOf fam)) (w : List ℕ) (r : ℕ) → JudgeCall fam t xs w r → judge_answer fam t xs w ≡ r
judge_answer_lem Family.Integers t xs w r c = let p = c.allowed in let a = c.bytes in let b = c.list in let d = c.offered in cc
judge_answer_lem Family.Floats t xs w r c = let p = c.allowed in let a = c.bytes in let b = c.list in let d = c.offered in cc

pub normal_answer : (t : List ℕ) (lo hi : ℤ) (room : List ℕ) (n l : ℕ) (after : List ℕ) → NormalCall t lo hi room n l after → normalised lo hi t room ≡ answer n l after
normal_answer t lo hi room n l after c =
    let p = c.allowed in let a = c.bytes in let g = c.lower in let h = c.upper in let b = c.room_then in let d = c.number in let e = c.size in let f = c.room_now in cc

-- ---- every input can be lent, and the contract allows an answer

unfoldable pub ref : {A : Type 0} → A → Bor A
ref x = record { ref_ptr = (0, 0); now = x }

unfoldable pub lent_ref : {A : Type 0} → A → MutBor A
lent_ref x = record { ref_ptr = (0, 0); ghost_name = 0; now = x }

match_lent : (fam : Family) (t : List ℕ) (xs : List (ElementOf fam)) (room : List ℕ) (r : ℕ) (after : List ℕ) → match_answer fam t xs room ≡ given r after → MatchCall fam t xs room r after
unfolding ref lent_ref
match_lent Family.Integers t xs room r after e = record {
  κs = ([], ([], ([], tt)));
  lent = (ref t, (ref xs, (lent_ref room, tt)));
  left = (ref t, (ref xs, (lent_ref after, tt)));
  bytes = refl;
  list = refl;
  room_then = refl;
  room_now = refl;
  allowed = sym e;
}
match_lent Family.Floats t xs room r after e = record {
  κs = ([], ([], ([], tt)));
  lent = (ref t, (ref xs, (lent_ref room, tt)));
  left = (ref t, (ref xs, (lent_ref after, tt)));
  bytes = refl;
  list = refl;
  room_then = refl;
  room_now = refl;
  allowed = sym e;
}

pub match_called : (fam : Family) (t : List ℕ) (xs : List (ElementOf fam)) (room : List ℕ) → (r : ℕ) × (after : List ℕ) × MatchCall fam t xs room r after
match_called fam t xs room = go (match_answer fam t xs room) refl
  where
    go : (g : Given) → match_answer fam t xs room ≡ g → (r : ℕ) × (after : List ℕ) × MatchCall fam t xs room r after
    go (given r after) e = (r, after, match_lent fam t xs room r after e)

judge_lent : (fam : Family) (t : List ℕ) (xs : List (ElementOf fam)) (w : List ℕ) → JudgeCall fam t xs w (judge_answer fam t xs w)
unfolding ref
judge_lent Family.Integers t xs w = record {
  κs = ([], ([], ([], tt)));
  lent = (ref t, (ref xs, (ref w, tt)));
  left = (ref t, (ref xs, (ref w, tt)));
  bytes = refl;
  list = refl;
  offered = refl;
  allowed = refl;
}
judge_lent Family.Floats t xs w = record {
  κs = ([], ([], ([], tt)));
  lent = (ref t, (ref xs, (ref w, tt)));
  left = (ref t, (ref xs, (ref w, tt)));
  bytes = refl;
  list = refl;
  offered = refl;
  allowed = refl;
}

pub judge_called : (fam : Family) (t : List ℕ) (xs : List (ElementOf fam)) (w : List ℕ) → (r : ℕ) × JudgeCall fam t xs w r
judge_called fam t xs w = (judge_answer fam t xs w, judge_lent fam t xs w)

pub normal_called : (t : List ℕ) (lo hi : ℤ) (room : List ℕ) → (n : ℕ) × (l : ℕ) × (after : List ℕ) × NormalCall t lo hi room n l after
unfolding ref lent_ref
normal_called t lo hi room = go (normalised lo hi t room) refl
  where
    go : (a : Answer) → normalised lo hi t room ≡ a → (n : ℕ) × (l : ℕ) × (after : List ℕ) × NormalCall t lo hi room n l after
    go (answer n l after) e = (
      n,
      l,
      after,
      record {
        κs = ([], ([], tt));
        lent = (ref t, (lo, (hi, (lent_ref room, tt))));
        result = record { number = n; length = l };
        left = (ref t, (lo, (hi, (lent_ref after, tt))));
        bytes = refl;
        lower = refl;
        upper = refl;
        room_then = refl;
        number = refl;
        size = refl;
        room_now = refl;
        allowed = sym e;
      },
    )
