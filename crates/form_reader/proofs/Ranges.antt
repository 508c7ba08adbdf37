-- Which ranges may follow one, and the records of ranges that are read one after the other, turn by turn. Assumes nothing.
use mathlib.Core.Path.{◌≡◌, refl, sym, ap, subst, ◌∙◌}
use mathlib.Core.Bool.{Bool, true, false, cond, ◌||◌}
use mathlib.Core.List.{List, [], ◌∷◌, ◌++◌, append_assoc, append-nil}
use mathlib.Core.Logic.{⊎_elim}
use Prim.Native.Nat.{ℕ, suc, ◌+◌, ◌-◌, ◌≤◌, ◌<◌}
use native.Mathlib.Omega.{arith}
use lib.Dec.{ltb, eqb}
use lib.IntN.{ℤ, pos, negsuc, ◌+ℤ◌}
use lib.ListN.{length, drop, set, length-set, length-drop, drop_of_length-le}
use lib.Signed.{lt_z, le_z}
use borrow.Author.Tests.{ltb-true, lt-ltb, eqb-true, eqb-false}
use Rattle.facts.proofs.Cases.{by-test, clash, one_of}
use Rattle.integers.specs.Integer.{Word}
use Rattle.integers.specs.Rank.{rank, Low}
use Rattle.integers.proofs.Ranks.{low, low_lt_z, rank_lt_z, rank_next}
use Rattle.integers.proofs.SignedLocals.{lt_rank, ge_rank, le_rank, gt_rank}
use Rattle.ranges.specs.Shown.{view}
use Rattle.ranges.specs.Spans.{Span, span}
use Rattle.ranges.proofs.Views.{view_push}
use Rattle.forms.specs.Form.{record_of, records}
use Rattle.form_reader.specs.FormRead.{Between, RecordRead, record_here, no_record, RangesRead, ranges_here, no_ranges}
use Rattle.form_reader.proofs.RecordBytes.{record_same}

-- ---- what may follow a range that ends with b

low_next : (b : ℤ) → Word b → Low (b +ℤ pos 1)
low_next (pos n) p = tt
low_next (negsuc n) p =
    by-test (ltb 1 (suc n))
    (λ e. let h : 1 < suc n = ltb-true 1 (suc n) e in rw e (omega arith))
    (λ e. rw e tt)

-- where b is no less than the upper bound, nothing
none_past : (b hi c d : ℤ) → Word b → Word hi → Word c → Word d → lt_z b hi ≡ false → rank b < rank c → lt_z d c ≡ false → lt_z hi d ≡ false → ⊥
none_past b hi c d wb wh wc wd e l o h =
    let x : rank hi ≤ rank b = ge_rank b hi wb wh e in
    let y : rank c ≤ rank d = ge_rank d c wd wc o in
    let z : rank d ≤ rank hi = ge_rank hi d wh wd h in
    omega arith

next_rank : (b c : ℤ) → Word b → Word c → lt_z (b +ℤ pos 1) c ≡ true → rank b < rank c
next_rank b c wb wc e =
    let l : rank (b +ℤ pos 1) < rank c = ltb-true (rank (b +ℤ pos 1)) (rank c) (sym (low_lt_z (b +ℤ pos 1) c (low_next b wb) (low c wc)) ∙ e) in
    let n : rank (b +ℤ pos 1) ≡ rank b + 1 = rank_next b (low b wb) in
    omega arith

pub bound_on : (b hi : ℤ) (rs : List Span) → Word b → Word hi → Between (b +ℤ pos 1) hi rs → Between (cond (lt_z b hi) (b +ℤ pos 1) b) hi rs
bound_on b hi [] wb wh h = tt
bound_on b hi (span c d ∷ rs) wb wh h =
    by-test (lt_z b hi)
    (λ e. rw e h)
    (λ e. absurd (none_past b hi c d wb wh h.0 h.1 e (next_rank b c wb h.0 h.2) h.3 h.4))

pub bound_back : (b hi : ℤ) (rs : List Span) → Word b → Word hi → Between (cond (lt_z b hi) (b +ℤ pos 1) b) hi rs → Between (b +ℤ pos 1) hi rs
bound_back b hi [] wb wh h = tt
bound_back b hi (span c d ∷ rs) wb wh h =
    by-test (lt_z b hi)
    (λ e. rw e at h)
    (λ e.
    let g : Between b hi (span c d ∷ rs) = rw e at h in
    absurd (none_past b hi c d wb wh g.0 g.1 e (lt_rank b c wb g.0 g.2) g.3 g.4))

-- ---- records one after the other

pub records_push : (rs : List Span) (r : Span) (u : List ℕ) → records (rs ++ (r ∷ [])) ++ u ≡ records rs ++ (record_of r ++ u)
unfolding records
records_push [] r u = append_assoc (record_of r) [] u
records_push (q ∷ rs) r u =
    append_assoc (record_of q) (records (rs ++ (r ∷ []))) u ∙ ap (λ (z : List ℕ). record_of q ++ z) (records_push rs r u) ∙ sym (append_assoc (record_of q) (records rs) (record_of r ++ u))

-- the ranges that are left, k of n being read
pub record Rest (t : List ℕ) (n : ℕ) (hi : ℤ) (p : ℕ) (l : ℤ) (k : ℕ) : Type 0 where
  pub rest : List Span
  pub size : k + length rest ≡ n
  pub between : Between l hi rest
  pub bytes : drop p t ≡ records rest

-- k ranges are read, up to the place p, and the next must begin above l
pub record Going (t : List ℕ) (at n : ℕ) (m hi : ℤ) (los his : List ℤ) (p : ℕ) (l : ℤ) (k : ℕ) : Type 0 where
  pub inside : p ≤ length t
  pub counted : k ≤ n
  pub long_low_lem : n ≤ length los
  pub long_high_lem : n ≤ length his
  pub ascend : (rest : List Span) → Between l hi rest → Between m hi (view k los his ++ rest)
  pub done : drop at t ≡ records (view k los his) ++ drop p t
  pub only : (rs : List Span) → length rs ≡ n → Between m hi rs → drop at t ≡ records rs → Rest t n hi p l k

pub going_start : (t : List ℕ) (at n : ℕ) (m hi : ℤ) (los his : List ℤ) → at ≤ length t → n ≤ length los → n ≤ length his → Going t at n m hi los his at m 0
unfolding records
going_start t at n m hi los his a b c = record {
  inside = a;
  counted = omega arith;
  long_low_lem = b;
  long_high_lem = c;
  ascend = λ rest h. h;
  done = refl;
  only = λ rs e h d. record { rest = rs; size = zero_more (length rs) n e; between = h; bytes = d };
}
  where
    zero_more : (x n : ℕ) → x ≡ n → 0 + x ≡ n
    zero_more x n e = omega arith

-- the first range that is left, and those after it
record First (t : List ℕ) (n : ℕ) (hi : ℤ) (p : ℕ) (l : ℤ) (k : ℕ) : Type 0 where
  c : ℤ
  d : ℤ
  after : List Span
  count : suc k + length after ≡ n
  above : Between l hi (span c d ∷ after)
  bytes : drop p t ≡ record_of (span c d) ++ records after

first_left : (t : List ℕ) (n : ℕ) (hi : ℤ) (p : ℕ) (l : ℤ) (k : ℕ) → k < n → Rest t n hi p l k → First t n hi p l k
unfolding records
first_left t n hi p l k less r = go r.rest r.size r.between r.bytes
  where
    go : (rs : List Span) → k + length rs ≡ n → Between l hi rs → drop p t ≡ records rs → First t n hi p l k
    go [] s b e = absurd (omega arith)
    go (span c d ∷ rs) s b e = record { c = c; d = d; after = rs; count = omega arith; above = b; bytes = e }

module _ (t : List ℕ) (at n : ℕ) (m hi : ℤ) (los his : List ℤ) (p : ℕ) (l : ℤ) (k : ℕ) (g : Going t at n m hi los his p l k) (less : k < n) where
  left : (rs : List Span) → length rs ≡ n → Between m hi rs → drop at t ≡ records rs → First t n hi p l k
  left rs s b e = first_left t n hi p l k less (g.only rs s b e)

  -- no record stands there
  pub going_none : (f : Bool) (a b : ℤ) (next : ℕ) → RecordRead t p f a b next → f ≡ false → (rs : List Span) → length rs ≡ n → Between m hi rs → drop at t ≡ records rs → ⊥
  going_none f a b next (record_here h _ _ _) e rs s w d = absurd (clash h e)
  going_none f a b next (no_record h none) e rs s w d = let x = left rs s w d in none x.c x.d (records x.after) x.above.0 x.above.1 x.above.3 x.bytes

  module _ (f : Bool) (a b : ℤ) (next : ℕ) (there : f ≡ true) (wa : Word a) (wb : Word b) (wl : Word l) (wh : Word hi) where
    -- the one that stands there is the one that is left
    the_one : drop p t ≡ record_of (span a b) ++ drop next t → (x : First t n hi p l k) → (a ≡ x.c) × (b ≡ x.d) × (drop next t ≡ records x.after)
    the_one e x = record_same a b x.c x.d (drop next t) (records x.after) wa wb x.above.0 x.above.1 (sym e ∙ x.bytes)

    -- it begins too low, or ends too high
    pub going_outside : RecordRead t p f a b next → (le_z a l || lt_z hi b) ≡ true → (rs : List Span) → length rs ≡ n → Between m hi rs → drop at t ≡ records rs → ⊥
    going_outside (no_record h none) q rs s w d = clash there h
    going_outside (record_here h i o e) q rs s w d =
        let x = left rs s w d in
        let u = the_one e x in
        let lo : lt_z l a ≡ true = rw u.0 x.above.2 in
        let up : lt_z hi b ≡ false = rw u.1 x.above.4 in
        ⊎_elim
        (λ (r : le_z a l ≡ true). let y : rank a ≤ rank l = le_rank a l wa wl r in let z : rank l < rank a = lt_rank l a wl wa lo in absurd (omega arith))
        (λ (r : lt_z hi b ≡ true). clash r up)
        (one_of (le_z a l) (lt_z hi b) q)

    pub going_step : RecordRead t p f a b next → (le_z a l || lt_z hi b) ≡ false → Going t at n m hi (set los k a) (set his k b) next (cond (lt_z b hi) (b +ℤ pos 1) b) (suc k)
    going_step (no_record h none) q = absurd (clash there h)
    going_step (record_here h i o e) q = record {
      inside = i;
      counted = omega arith;
      long_low_lem = omega (arith, length-set los k a, g.long_low_lem);
      long_high_lem = omega (arith, length-set his k b, g.long_high_lem);
      ascend = λ rest w. rw (push) (rw (append_assoc (view k los his) (span a b ∷ []) rest) (g.ascend (span a b ∷ rest) (wa, wb, above, o, within, bound_back b hi rest wb wh w)));
      done = g.done ∙ ap (λ (z : List ℕ). records (view k los his) ++ z) e ∙ sym (records_push (view k los his) (span a b) (drop next t)) ∙ ap (λ (z : List Span). records z ++ drop next t) (sym push);
      only = λ rs s w d. goes (left rs s w d);
    }
      where
        push : view (suc k) (set los k a) (set his k b) ≡ view k los his ++ (span a b ∷ [])
        push = view_push k los his a b (omega (arith, g.long_low_lem)) (omega (arith, g.long_high_lem))

        apart : (le_z a l ≡ false) × (lt_z hi b ≡ false)
        apart = neither (le_z a l) (lt_z hi b) q
          where
            neither : (x y : Bool) → (x || y) ≡ false → (x ≡ false) × (y ≡ false)
            neither true y z = absurd (clash refl z)
            neither false y z = (refl, z)

        within : lt_z hi b ≡ false
        within = apart.1

        above : lt_z l a ≡ true
        above = rank_lt_z l a wl wa ∙ lt-ltb (rank l) (rank a) (gt_rank a l wa wl apart.0)

        goes : First t n hi p l k → Rest t n hi next (cond (lt_z b hi) (b +ℤ pos 1) b) (suc k)
        goes x =
            let u = the_one e x in
            record {
              rest = x.after;
              size = x.count;
              between = bound_on b hi x.after wb wh (rw u.1 x.above.5);
              bytes = u.2;
            }

-- all are read: no byte may be left
pub going_end : (t : List ℕ) (at n : ℕ) (m hi : ℤ) (los₀ his₀ los his : List ℤ) (p : ℕ) (l : ℤ) (k : ℕ) → length los ≡ length los₀ → length his ≡ length his₀
    → Going t at n m hi los his p l k → n ≤ k → RangesRead t at n m hi los₀ his₀ los his (eqb p (length t))
unfolding records
going_end t at n m hi los₀ his₀ los his p l k el eh g all =
    let same : k ≡ n = let c = g.counted in omega arith in
    by-test (eqb p (length t))
    (λ e.
    let whole : p ≡ length t = eqb-true p (length t) e in
    let none : drop p t ≡ [] = drop_of_length-le t {i = p} (omega arith) in
    let far : Between m hi (view k los his) = subst (λ (rs : List Span). Between m hi rs) (append-nil (view k los his)) (g.ascend [] tt) in
    let bytes : drop at t ≡ records (view k los his) = g.done ∙ ap (λ (z : List ℕ). records (view k los his) ++ z) none ∙ append-nil (records (view k los his)) in
    ranges_here e el eh (subst (λ (j : ℕ). Between m hi (view j los his)) same far) (subst (λ (j : ℕ). drop at t ≡ records (view j los his)) same bytes))
    (λ e. no_ranges e el eh (λ rs s w d. more (eqb-false p (length t) e) (g.only rs s w d)))
  where
    more : (p ≡ length t → ⊥) → Rest t n hi p l k → ⊥
    more short r = go r.rest r.size r.bytes
      where
        go : (rs : List Span) → k + length rs ≡ n → drop p t ≡ records rs → ⊥
        go [] s e =
            let z : length (drop p t) ≡ 0 = ap (λ (x : List ℕ). length x) e in
            let y : length (drop p t) ≡ length t - p = length-drop p t in
            let i : p ≤ length t = g.inside in
            short (omega arith)
        go (r ∷ rs) s e = omega arith
