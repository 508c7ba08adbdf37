-- The answers of the entry points: in the order of the table each row gives its number, and where none holds the answer is the first witness's. Assumes nothing.
-- Matched fam s t xs room <-> the first witness, and the answer with it
-- few_members_lem: an accepted template has at most 32 members. reads, judges: where no row before the scan holds, the reading decides.
-- accepted, matched_where, unmatched_where, refused_where, outside_where, judged, judged_where, judged_outside: what it decides. match_two, match_eleven, match_twelve, judge_two, judge_eleven, judge_thirteen: the rows before it.
use mathlib.Core.Path.{◌≡◌, refl, sym, ap, ◌∙◌}
use mathlib.Core.Bool.{Bool, true, false, cond}
use mathlib.Core.List.{List, [], ◌++◌}
use Prim.Native.Nat.{ℕ, ◌≤◌, ◌<◌}
use native.Mathlib.Omega.{arith}
use borrow.Author.Tests.{le-ltb, lt-ltb, eq-eqb, ne_eqb}
use lib.ListN.{length, drop}
use Rattle.byte_order.specs.ByteOrder.{First}
use Rattle.format.specs.declared.Family.{Family}
use Rattle.grammar.specs.Family.{LeafOf, ElementOf}
use Rattle.grammar.specs.Read.{refuse, got}
use Rattle.grammar.specs.Template.{Template, template}
use Rattle.grammar.specs.Whole.{read_template}
use Rattle.grammar.proofs.MemberLimit.{accepted_few}
use Rattle.matching.specs.Obeys.{obeys}
use Rattle.matching.specs.Search.{Maybe, nothing, just, members_count, first_witness}
use Rattle.matching.specs.Answer.{given, or_refused, written, element_outside, match_read, match_answer, judge_read, judge_answer, Taken}
use Rattle.matching.proofs.FirstWitness.{first_witness_lem, none_witness, witness_none, obeys_size}

pub few_members_lem : (fam : Family) (t : List ℕ) (s : Template (LeafOf fam)) → read_template fam t ≡ got s [] → members_count s ≤ 32
unfolding members_count
few_members_lem fam t (template h b) q = accepted_few fam t h b q

-- ---- the rows before the scan
pub match_two : (fam : Family) (t : List ℕ) (xs : List (ElementOf fam)) (room : List ℕ) → 4096 < length t → match_answer fam t xs room ≡ given 2 room
unfolding match_answer
match_two fam t xs room a = rw (lt-ltb 4096 (length t) a)

pub match_eleven : (fam : Family) (t : List ℕ) (xs : List (ElementOf fam)) (room : List ℕ) → length t ≤ 4096 → 32 < length xs → match_answer fam t xs room ≡ given 11 room
unfolding match_answer
match_eleven fam t xs room a b = rw (le-ltb 4096 (length t) a, lt-ltb 32 (length xs) b)

pub match_twelve : (fam : Family) (t : List ℕ) (xs : List (ElementOf fam)) (room : List ℕ) → Taken t xs → length room < length xs → match_answer fam t xs room ≡ given 12 room
unfolding match_answer
match_twelve fam t xs room k c = rw (le-ltb 4096 (length t) k.0, le-ltb 32 (length xs) k.1, lt-ltb (length room) (length xs) c)

pub judge_two : (fam : Family) (t : List ℕ) (xs : List (ElementOf fam)) (w : List ℕ) → 4096 < length t → judge_answer fam t xs w ≡ 2
unfolding judge_answer
judge_two fam t xs w a = rw (lt-ltb 4096 (length t) a)

pub judge_eleven : (fam : Family) (t : List ℕ) (xs : List (ElementOf fam)) (w : List ℕ) → length t ≤ 4096 → 32 < length xs → judge_answer fam t xs w ≡ 11
unfolding judge_answer
judge_eleven fam t xs w a b = rw (le-ltb 4096 (length t) a, lt-ltb 32 (length xs) b)

pub judge_thirteen : (fam : Family) (t : List ℕ) (xs : List (ElementOf fam)) (w : List ℕ) → Taken t xs → (length w ≡ length xs → ⊥) → judge_answer fam t xs w ≡ 13
unfolding judge_answer
judge_thirteen fam t xs w k c = rw (le-ltb 4096 (length t) k.0, le-ltb 32 (length xs) k.1, ne_eqb (length w) (length xs) c)

-- ---- the matcher
-- the first witness, and the room with it
pub record Matched (fam : Family) (s : Template (LeafOf fam)) (t : List ℕ) (xs : List (ElementOf fam)) (room : List ℕ) : Type 0 where
  pub witness : List ℕ
  pub first : First (λ v. obeys fam s xs v ≡ true) witness
  pub size : length witness ≡ length xs
  pub answer : match_answer fam t xs room ≡ given 0 (witness ++ drop (length xs) room)

pub reads : (fam : Family) (t : List ℕ) (xs : List (ElementOf fam)) (room : List ℕ) → Taken t xs → length xs ≤ length room → match_answer fam t xs room ≡ match_read fam (read_template fam t) xs room
unfolding match_answer
reads fam t xs room k l = rw (le-ltb 4096 (length t) k.0, le-ltb 32 (length xs) k.1, le-ltb (length room) (length xs) l)

pub outside_where : (fam : Family) (t : List ℕ) (xs : List (ElementOf fam)) (room : List ℕ) (s : Template (LeafOf fam)) → Taken t xs → length xs ≤ length room → read_template fam t ≡ got s []
    → element_outside fam s xs ≡ true → match_answer fam t xs room ≡ given 17 room
unfolding match_read
outside_where fam t xs room s k l q i =
    reads fam t xs room k l ∙ ap (λ u. match_read fam u xs room) q ∙ ap (λ b. or_refused b 17 room (written (first_witness fam s xs) room)) i

pub accepted : (fam : Family) (t : List ℕ) (xs : List (ElementOf fam)) (room : List ℕ) (s : Template (LeafOf fam)) → Taken t xs → length xs ≤ length room → read_template fam t ≡ got s []
    → element_outside fam s xs ≡ false → match_answer fam t xs room ≡ written (first_witness fam s xs) room
unfolding match_read
accepted fam t xs room s k l q i =
    reads fam t xs room k l ∙ ap (λ u. match_read fam u xs room) q ∙ ap (λ b. or_refused b 17 room (written (first_witness fam s xs) room)) i

pub matched_where : (fam : Family) (t : List ℕ) (xs : List (ElementOf fam)) (room : List ℕ) (s : Template (LeafOf fam)) → Taken t xs → length xs ≤ length room → read_template fam t ≡ got s []
    → element_outside fam s xs ≡ false → (v : List ℕ) → obeys fam s xs v ≡ true → Matched fam s t xs room
unfolding written
matched_where fam t xs room s k l q i v o = go (first_witness fam s xs) refl
  where
    go : (m : Maybe) → first_witness fam s xs ≡ m → Matched fam s t xs room
    go nothing e = absurd (none_witness fam s xs e v o)
    go (just w) e =
        let f = first_witness_lem fam s xs w (few_members_lem fam t s q) e in
        let z = obeys_size fam s xs w f.holds in
        record {
          witness = w;
          first = f;
          size = z;
          answer = accepted fam t xs room s k l q i ∙ ap (λ m. written m room) e ∙ ap (λ d. given 0 (w ++ drop d room)) z;
        }

pub unmatched_where : (fam : Family) (t : List ℕ) (xs : List (ElementOf fam)) (room : List ℕ) (s : Template (LeafOf fam)) → Taken t xs → length xs ≤ length room → read_template fam t ≡ got s []
    → element_outside fam s xs ≡ false → ((v : List ℕ) → obeys fam s xs v ≡ true → ⊥) → match_answer fam t xs room ≡ given 1 room
unfolding written
unmatched_where fam t xs room s k l q i n = accepted fam t xs room s k l q i ∙ ap (λ m. written m room) (witness_none fam s xs n (few_members_lem fam t s q))

pub refused_where : (fam : Family) (t : List ℕ) (xs : List (ElementOf fam)) (room : List ℕ) (r : ℕ) → Taken t xs → length xs ≤ length room → read_template fam t ≡ refuse r → match_answer fam t xs room ≡ given r room
unfolding match_read
refused_where fam t xs room r k l q = reads fam t xs room k l ∙ ap (λ u. match_read fam u xs room) q

-- ---- the judge
pub judges : (fam : Family) (t : List ℕ) (xs : List (ElementOf fam)) (w : List ℕ) → Taken t xs → length w ≡ length xs → judge_answer fam t xs w ≡ judge_read fam (read_template fam t) xs w
unfolding judge_answer
judges fam t xs w k l = rw (le-ltb 4096 (length t) k.0, le-ltb 32 (length xs) k.1, eq-eqb (length w) (length xs) l)

pub judged_outside : (fam : Family) (t : List ℕ) (xs : List (ElementOf fam)) (w : List ℕ) (s : Template (LeafOf fam)) → Taken t xs → length w ≡ length xs → read_template fam t ≡ got s []
    → element_outside fam s xs ≡ true → judge_answer fam t xs w ≡ 17
unfolding judge_read
judged_outside fam t xs w s k l q i =
    judges fam t xs w k l ∙ ap (λ u. judge_read fam u xs w) q ∙ ap (λ b. cond b 17 (cond (obeys fam s xs w) 0 1)) i

pub judged : (fam : Family) (t : List ℕ) (xs : List (ElementOf fam)) (w : List ℕ) (s : Template (LeafOf fam)) → Taken t xs → length w ≡ length xs → read_template fam t ≡ got s []
    → element_outside fam s xs ≡ false → judge_answer fam t xs w ≡ cond (obeys fam s xs w) 0 1
unfolding judge_read
judged fam t xs w s k l q i = judges fam t xs w k l ∙ ap (λ u. judge_read fam u xs w) q ∙ ap (λ b. cond b 17 (cond (obeys fam s xs w) 0 1)) i

pub zero_says : (b : Bool) → ◌≡◌ {A = ℕ} (cond b 0 1) 0 → b ≡ true
zero_says true e = refl
zero_says false e = absurd (omega arith)

pub judged_where : (fam : Family) (t : List ℕ) (xs : List (ElementOf fam)) (w : List ℕ) (s : Template (LeafOf fam)) → Taken t xs → length w ≡ length xs → read_template fam t ≡ got s []
    → element_outside fam s xs ≡ false → (obeys fam s xs w ≡ true → judge_answer fam t xs w ≡ 0) × (judge_answer fam t xs w ≡ 0 → obeys fam s xs w ≡ true) × (obeys fam s xs w ≡ false → judge_answer fam t xs w ≡ 1)
judged_where fam t xs w s k l q i =
    let j = judged fam t xs w s k l q i in
    (λ o. j ∙ ap (λ b. cond b 0 1) o, λ z. zero_says (obeys fam s xs w) (sym j ∙ z), λ o. j ∙ ap (λ b. cond b 0 1) o)
