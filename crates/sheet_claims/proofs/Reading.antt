-- A template under sheet 1 and under sheet 2: one reading with another sheet in its heads. Assumes nothing.
-- old h == the heads h under sheet 1
-- heads_first, heads_second: what follows a 32. template_second: a 32 with 2 changes nothing. read_old: what is accepted under sheet 2 is accepted under sheet 1.
-- obeys_old: what obeys under sheet 2 obeys under sheet 1. witness_old: of a body that is no subset the first witness is the same.
use mathlib.Core.Path.{◌≡◌, refl, sym, ap, ◌∙◌}
use mathlib.Core.Bool.{Bool, true, false, not, ◌&&◌, ◌||◌, cond, and-false}
use mathlib.Core.List.{List, [], ◌∷◌}
use Prim.Native.Nat.{ℕ, zero, suc}
use native.Mathlib.Omega.{arith}
use borrow.Author.Tests.{le-ltb, ne_eqb}
use lib.Dec.{ltb, eqb}
use lib.ListN.{length, get_or, drop}
use Rattle.facts.proofs.Cases.{clash, and_left, and_right, both}
use Rattle.format.specs.declared.Family.{Family}
use Rattle.integers.specs.Integer.{int_at}
use Rattle.grammar.specs.Family.{LeafOf, ElementOf, has_types, leaves_in, matches_of}
use Rattle.grammar.specs.Template.{Body, record_of, set_of, superset, subset, Length, any_length, between, Sheet, sheet1, is_plain, Heads, no_heads, Template, template, plainly, members_of}
use Rattle.grammar.specs.Record.{Head, kind_of, outside, count_fault, bounds_fault, sheet_fault, type_fault}
use Rattle.grammar.specs.Read.{Read, refuse, got, or_refuse, refuse_or, ended, map_read, and_then}
use Rattle.grammar.specs.Whole.{fewest, clashes, contents, body_here, sheet_here, length_here, type_here, rest_here, heads_here, template_here, read_template}
use Rattle.grammar.proofs.ReadApart.{clash as read-clash}
use Rattle.matching.specs.Obeys.{right_bytes, none_twice, body_met, length_met, obeys_by, obeys}
use Rattle.matching.specs.Search.{first_witness, members_count}
use Rattle.sheet_claims.specs.Claims.{is_subset}

unfoldable pub old : Heads → Heads
old h = record { sheet = sheet1; length = h.length; lower = h.lower; upper = h.upper }

-- ---- the heads after a 32

map_length : (h : Heads) (s : List ℕ) → length_here (old h) s ≡ map_read old (length_here h s)
unfolding length_here map_read old
map_length h s = go (eqb (kind_of s) 0x30) (bounds_fault s)
  where
    go : (b : Bool) (r : ℕ) → cond b (refuse_or r (got (record { sheet = sheet1; length = between (get_or s 1 0) (get_or s 2 0); lower = h.lower; upper = h.upper }) (drop 3 s))) (got (old h) s)
        ≡ map_read old (cond b (refuse_or r (got (record { sheet = h.sheet; length = between (get_or s 1 0) (get_or s 2 0); lower = h.lower; upper = h.upper }) (drop 3 s))) (got h s))
    go true zero = refl
    go true (suc r) = refl
    go false r = refl

map_type : (f : Family) (h : Heads) (s : List ℕ) → type_here f (old h) s ≡ map_read old (type_here f h s)
unfolding type_here map_read old
map_type f h s = go (has_types f && eqb (kind_of s) 0x31) (type_fault s)
  where
    go : (b : Bool) (r : ℕ) → cond b (refuse_or r (got (record { sheet = sheet1; length = h.length; lower = int_at s 1; upper = int_at s 5 }) (drop 9 s))) (got (old h) s)
        ≡ map_read old (cond b (refuse_or r (got (record { sheet = h.sheet; length = h.length; lower = int_at s 1; upper = int_at s 5 }) (drop 9 s))) (got h s))
    go true zero = refl
    go true (suc r) = refl
    go false r = refl

map_rest : (f : Family) (h : Heads) (s : List ℕ) → rest_here f (old h) s ≡ map_read old (rest_here f h s)
unfolding rest_here and_then map_read
map_rest f h s = ap (λ (o : Read Heads). and_then o (type_here f)) (map_length h s) ∙ then_old (length_here h s)
  where
    then_old : (o : Read Heads) → and_then (map_read old o) (type_here f) ≡ map_read old (and_then o (type_here f))
    then_old (refuse r) = refl
    then_old (got a u) = map_type f a u

heads_first : (f : Family) (u : List ℕ) → heads_here f (0x32 ∷ 1 ∷ u) ≡ map_read old (rest_here f no_heads u)
unfolding heads_here sheet_here sheet_fault and_then old
heads_first f u = rw (le-ltb (length (0x32 ∷ 1 ∷ u)) 2 (omega arith)) (map_rest f no_heads u)

heads_second : (f : Family) (u : List ℕ) → heads_here f (0x32 ∷ 2 ∷ u) ≡ rest_here f no_heads u
unfolding heads_here sheet_here sheet_fault and_then
heads_second f u = rw (le-ltb (length (0x32 ∷ 2 ∷ u)) 2 (omega arith)) refl

heads_none : (f : Family) (u : List ℕ) → (kind_of u ≡ 0x32 → ⊥) → heads_here f u ≡ rest_here f no_heads u
unfolding heads_here sheet_here and_then
heads_none f u n = rw (ne_eqb (kind_of u) 0x32 n) refl

pub template_second : (f : Family) (u : List ℕ) → (kind_of u ≡ 0x32 → ⊥) → template_here f (0x32 ∷ 2 ∷ u) ≡ template_here f u
unfolding template_here
template_second f u n = ap (λ (o : Read Heads). and_then o (λ h. body_here (leaves_in f h.lower h.upper) h)) (heads_second f u ∙ sym (heads_none f u n))

-- ---- the body

clashes_old : (v : Sheet) (a : Length) (kind n : ℕ) → clashes v a kind n ≡ false → clashes sheet1 a kind n ≡ false
unfolding clashes
clashes_old v any_length kind n e = refl
clashes_old v (between min max) kind n e = go (eqb kind 0x12 && ltb min n) (eqb kind 0x13) (not (is_plain v) && ltb n max) e
  where
    go : (a b c : Bool) → (a || (b && c)) ≡ false → (a || (b && false)) ≡ false
    go true b c q = q
    go false b c q = and-false b

module _ {L : Type 0} (leaves : List ℕ → Head L) (h h' : Heads) (b : Body L) (rest : List ℕ) where
  -- the tests of the record of the body, and what follows it
  opened : Bool → Bool → ℕ → Bool → Heads → Read (Body L) → Read (Template L)
  opened n k r c a o = or_refuse n 3 (or_refuse k 4 (refuse_or r (or_refuse c 9 (map_read (template a) o))))

  opened_old : (n k : Bool) (r : ℕ) (c c' : Bool) (o : Read (Body L)) → (c ≡ false → c' ≡ false) → opened n k r c h o ≡ got (template h' b) rest → (h ≡ h') × (opened n k r c' (old h) o ≡ got (template (old h) b) rest)
  unfolding opened map_read
  opened_old true k r c c' o w q = absurd (read-clash q)
  opened_old false true r c c' o w q = absurd (read-clash q)
  opened_old false false (suc r) c c' o w q = absurd (read-clash q)
  opened_old false false zero true c' o w q = absurd (read-clash q)
  opened_old false false zero false c' (refuse r) w q = absurd (read-clash q)
  opened_old false false zero false c' (got d s) w q =
      let same : d ≡ b = cc in
      let after : s ≡ rest = cc in
      (cc, rw (w refl, same, after))

  body_old : (s : List ℕ) → body_here leaves h s ≡ got (template h' b) rest → (h ≡ h') × (body_here leaves (old h) s ≡ got (template (old h) b) rest)
  unfolding body_here opened old
  body_old s q =
      opened_old (eqb (length s) 0) (outside 0x10 0x13 (kind_of s)) (count_fault (fewest (kind_of s)) 32 s) (clashes h.sheet h.length (kind_of s) (get_or s 1 0)) (clashes sheet1 h.length (kind_of s) (get_or s 1 0)) (contents leaves (kind_of s) (get_or s 1 0) (drop 2 s))
      (clashes_old h.sheet h.length (kind_of s) (get_or s 1 0)) q

template_old : (f : Family) (u : List ℕ) (h : Heads) (b : Body (LeafOf f)) (rest : List ℕ) → template_here f (0x32 ∷ 2 ∷ u) ≡ got (template h b) rest → template_here f (0x32 ∷ 1 ∷ u) ≡ got (template (old h) b) rest
unfolding template_here and_then map_read old
template_old f u h b rest q = go (rest_here f no_heads u) (heads_first f u) (sym (ap body_of (heads_second f u)) ∙ q)
  where
    body_of : Read Heads → Read (Template (LeafOf f))
    body_of o = and_then o (λ h. body_here (leaves_in f h.lower h.upper) h)

    go : (o : Read Heads) → heads_here f (0x32 ∷ 1 ∷ u) ≡ map_read old o → and_then o (λ h. body_here (leaves_in f h.lower h.upper) h) ≡ got (template h b) rest
        → and_then (heads_here f (0x32 ∷ 1 ∷ u)) (λ h. body_here (leaves_in f h.lower h.upper) h) ≡ got (template (old h) b) rest
    go (refuse r) e p = absurd (read-clash p)
    go (got a s) e p =
        let w = body_old (leaves_in f a.lower a.upper) a h b rest s p in
        ap body_of e ∙ w.1 ∙ ap (λ (x : Heads). got (template (old x) b) rest) w.0

pub read_old : (f : Family) (u : List ℕ) (h : Heads) (b : Body (LeafOf f)) → read_template f (0x32 ∷ 2 ∷ u) ≡ got (template h b) [] → read_template f (0x32 ∷ 1 ∷ u) ≡ got (template (old h) b) []
unfolding read_template ended
read_old f u h b q = go (ltb 4096 (length (0x32 ∷ 2 ∷ u))) (template_here f (0x32 ∷ 2 ∷ u)) refl q
  where
    go : (c : Bool) (o : Read (Template (LeafOf f))) → template_here f (0x32 ∷ 2 ∷ u) ≡ o → or_refuse c 2 (ended o) ≡ got (template h b) [] → or_refuse c 2 (ended (template_here f (0x32 ∷ 1 ∷ u))) ≡ got (template (old h) b) []
    go true o e p = absurd (read-clash p)
    go false (refuse r) e p = absurd (read-clash p)
    go false (got t (x ∷ s)) e p = absurd (read-clash p)
    go false (got t []) e p = ap ended (template_old f u h b [] (e ∙ p))

-- ---- what obeys

module _ (f : Family) (h : Heads) (xs : List (ElementOf f)) where
  pub obeys_old : (b : Body (LeafOf f)) (w : List ℕ) → obeys f (template h b) xs w ≡ true → obeys f (template (old h) b) xs w ≡ true
  unfolding obeys_by plainly old members_of
  obeys_old (record_of is) w o = o
  obeys_old (set_of g) w o = o
  obeys_old (superset es) w o = o
  obeys_old (subset es) w o =
      let right = right_bytes (matches_of f) es xs w in
      let once = is_plain h.sheet || none_twice (length es) w in
      let rest = body_met (subset es) w && length_met h.length (length xs) in
      both right rest (and_left right (once && rest) o) (and_right once rest (and_right right (once && rest) o))

  pub witness_old : (b : Body (LeafOf f)) → is_subset b ≡ false → first_witness f (template (old h) b) xs ≡ first_witness f (template h b) xs
  unfolding first_witness members_count obeys_by plainly old is_subset
  witness_old (record_of is) e = refl
  witness_old (set_of g) e = refl
  witness_old (superset es) e = refl
  witness_old (subset es) e = absurd (clash refl e)
