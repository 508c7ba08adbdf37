-- The heads of a template and the record of its body: what each test of the code makes of the reading. Assumes nothing.
use mathlib.Core.Path.{◌≡◌, refl, sym, ap, ◌∙◌}
use mathlib.Core.Bool.{Bool, true, false, not, ◌&&◌, ◌||◌, cond, and-false, true≢false}
use mathlib.Core.List.{List}
use Prim.Native.Nat.{ℕ, zero, suc, ◌+◌, ◌-◌, ◌≤◌, ◌<◌}
use native.Mathlib.Omega.{arith}
use borrow.Author.Tests.{lt-ltb, le-ltb, ltb-false, eq-eqb, ne_eqb}
use lib.Dec.{ltb, eqb}
use lib.Signed.{lt_z}
use lib.ListN.{length, get_or, drop, length-drop}
use lib.Seq.{get_or-drop, drop-drop}
use Rattle.integers.specs.Integer.{int_at}
use Rattle.integers.proofs.FourBytes.{int_at_drop}
use Rattle.format.specs.declared.Family.{Family}
use Rattle.grammar.specs.Family.{has_types}
use Rattle.grammar.specs.Template.{Length, between, Sheet, Heads, no_heads, template}
use Rattle.grammar.specs.Record.{Head, kind_of, outside, count_fault, bounds_fault, sheet_fault, type_fault}
use Rattle.grammar.specs.Read.{Read, refuse, got, or_refuse, refuse_or, map_read, and_then}
use Rattle.grammar.specs.Whole.{fewest, clashes, contents, body_here, sheet_of, sheet_here, length_here, type_here, rest_here, heads_here}
use Rattle.heads.specs.Fronts.{sheet_for, length_of, first_fault, own_fault, Said, NoHeads, HeadsAt, heads_fault, heads_read, Begun}
use Rattle.heads.specs.declared.Heads.{Heads as HeadsStruct}
use Rattle.grammar.proofs.RecordParts.{kind_at, Counts, count_inv}
use Rattle.grammar.proofs.ReadApart.{refuse_is, refuse_not}

pub clashes_never : (v : Sheet) (given : Bool) (min max kind n : ℕ) → given ≡ false → false ≡ clashes v (length_of given min max) kind n
unfolding clashes
clashes_never v given min max kind n e = rw e

pub clashes_is : (plain given : Bool) (min max kind n : ℕ) → given ≡ true → ((eqb kind 18 && ltb min n) || (eqb kind 19 && (not plain && ltb n max))) ≡ clashes (sheet_for plain) (length_of given min max) kind n
unfolding clashes
clashes_is true given min max kind n e = rw e
clashes_is false given min max kind n e = rw e

pub few_counted : (t : List ℕ) (at code lo : ℕ) → code ≡ count_fault lo 32 (drop at t) → lo ≡ fewest (get_or t at 0) → code ≡ count_fault (fewest (get_or t at 0)) 32 (drop at t)
few_counted t at code lo e f = rw f at e

pub body_counts : (t : List ℕ) (at code lo : ℕ) → code ≡ count_fault lo 32 (drop at t) → code ≡ 0 → Counts lo 32 t at
body_counts t at code lo e z = count_inv lo 32 t at (sym e ∙ z)

-- ---- the record of the body

first_is : (q r : ℕ) → (q ≡ 0 → ⊥) → first_fault q r ≡ q
first_is zero r n = absurd (n refl)
first_is (suc q) r n = refl

first_not : (q r : ℕ) → q ≡ 0 → first_fault q r ≡ r
first_not zero r e = refl
first_not (suc q) r e = absurd (omega arith)

module _ (v : Sheet) (a : Length) (t : List ℕ) (at : ℕ) where
  pub own_none : length t ≤ at → 3 ≡ own_fault v a (drop at t)
  unfolding own_fault
  own_none h = rw (eq-eqb (length (drop at t)) 0 (omega (arith, length-drop at t)))

  module _ (some : at < length t) where
    pub own_low : get_or t at 0 < 16 → 4 ≡ own_fault v a (drop at t)
    unfolding own_fault
    own_low h = rw (ne_eqb (length (drop at t)) 0 (λ z. omega (arith, length-drop at t)), kind_at t at, lt-ltb (get_or t at 0) 16 h)

    module _ (low : 16 ≤ get_or t at 0) where
      pub own_high : 19 < get_or t at 0 → 4 ≡ own_fault v a (drop at t)
      unfolding own_fault
      own_high h = rw (ne_eqb (length (drop at t)) 0 (λ z. omega (arith, length-drop at t)), kind_at t at, le-ltb (get_or t at 0) 16 low, lt-ltb 19 (get_or t at 0) h)

      module _ (high : get_or t at 0 ≤ 19) (code : ℕ) (e : code ≡ count_fault (fewest (get_or t at 0)) 32 (drop at t)) where
        own_opens : own_fault v a (drop at t) ≡ first_fault code (cond (clashes v a (get_or t at 0) (get_or t (at + 1) 0)) 9 0)
        unfolding own_fault
        own_opens =
            rw (ne_eqb (length (drop at t)) 0 (λ z. omega (arith, length-drop at t)), kind_at t at, le-ltb (get_or t at 0) 16 low, le-ltb 19 (get_or t at 0) high, sym e, get_or-drop at t 1 0)

        pub own_count : (code ≡ 0 → ⊥) → code ≡ own_fault v a (drop at t)
        own_count z = sym (own_opens ∙ first_is code _ z)

        pub own_clash : code ≡ 0 → (b : Bool) → clashes v a (get_or t at 0) (get_or t (at + 1) 0) ≡ b → cond b 9 0 ≡ own_fault v a (drop at t)
        own_clash z b h = sym (own_opens ∙ first_not code _ z ∙ ap (λ (c : Bool). cond c 9 0) h)

-- a record without a fault is all there, and its items follow
pub record BodyRecord (t : List ℕ) (at : ℕ) : Type 0 where
  pub fits : at + 2 ≤ length t
  pub low : 0x10 ≤ get_or t at 0
  pub high : get_or t at 0 ≤ 0x13
  pub few : get_or t (at + 1) 0 ≤ 32

pub own_inv : (v : Sheet) (a : Length) (t : List ℕ) (at : ℕ) → own_fault v a (drop at t) ≡ 0 → BodyRecord t at
unfolding own_fault
own_inv v a t at e = go (eqb (length (drop at t)) 0) (ltb (kind_of (drop at t)) 16) (ltb 19 (kind_of (drop at t))) (count_fault (fewest (kind_of (drop at t))) 32 (drop at t)) refl refl refl e
  where
    go : (n b c : Bool) (r : ℕ) → ltb (kind_of (drop at t)) 16 ≡ b → ltb 19 (kind_of (drop at t)) ≡ c → count_fault (fewest (kind_of (drop at t))) 32 (drop at t) ≡ r
        → ◌≡◌ {A = ℕ} (cond n 3 (cond (b || c) 4 (first_fault r (cond (clashes v a (kind_of (drop at t)) (get_or (drop at t) 1 0)) 9 0)))) 0 → BodyRecord t at
    go true b c r p q v z = absurd (omega arith)
    go false true c r p q v z = absurd (omega arith)
    go false false true r p q v z = absurd (omega arith)
    go false false false (suc r) p q v z = absurd (omega arith)
    go false false false zero p q v z =
        let w = count_inv (fewest (kind_of (drop at t))) 32 t at v in
        record {
          fits = w.fits;
          low = omega (arith, kind_at t at, ltb-false (kind_of (drop at t)) 16 p);
          high = omega (arith, kind_at t at, ltb-false 19 (kind_of (drop at t)) q);
          few = w.high;
        }

module _ {L : Type 0} (leaves : List ℕ → Head L) (h : Heads) where
  refused_by : {X : Type 0} (n b : Bool) (r : ℕ) (c : Bool) (o : Read X) → or_refuse n 3 (or_refuse b 4 (refuse_or r (or_refuse c 9 o))) ≡ refuse_or (cond n 3 (cond b 4 (first_fault r (cond c 9 0)))) o
  refused_by true b r c o = refl
  refused_by false true r c o = refl
  refused_by false false (suc r) c o = refl
  refused_by false false zero true o = refl
  refused_by false false zero false o = refl

  -- the body: its record's own fault, or its items
  pub body_by : (s : List ℕ) → body_here leaves h s ≡ refuse_or (own_fault h.sheet h.length s) (map_read (template h) (contents leaves (kind_of s) (get_or s 1 0) (drop 2 s)))
  unfolding body_here own_fault
  body_by s = refused_by (eqb (length s) 0) (outside 0x10 0x13 (kind_of s)) (count_fault (fewest (kind_of s)) 32 s) (clashes h.sheet h.length (kind_of s) (get_or s 1 0)) _

-- ---- the heads

-- the sheet
module _ (h : Heads) (t : List ℕ) (kind : ℕ) (e : kind ≡ kind_of (drop 0 t)) where
  pub sheet_none : (kind ≡ 0x32 → ⊥) → sheet_here h t ≡ got h (drop 0 t)
  unfolding sheet_here
  sheet_none n = rw (ne_eqb (kind_of t) 0x32 (λ k. n (e ∙ k)))

  module _ (k : kind ≡ 0x32) (code : ℕ) (f : code ≡ sheet_fault t) where
    sheet_opens : sheet_here h t ≡ refuse_or code (got (record { sheet = sheet_of (get_or t 1 0); length = h.length; lower = h.lower; upper = h.upper }) (drop 2 t))
    unfolding sheet_here
    sheet_opens = rw (sym e ∙ k, sym f)

    pub sheet_fault_lem : (code ≡ 0 → ⊥) → sheet_here h t ≡ refuse code
    sheet_fault_lem z = sheet_opens ∙ refuse_is code _ z

    pub sheet_read : code ≡ 0 → sheet_here h t ≡ got (record { sheet = sheet_of (get_or t 1 0); length = h.length; lower = h.lower; upper = h.upper }) (drop 2 t)
    sheet_read z = sheet_opens ∙ refuse_not code _ z

module _ (t : List ℕ) where
  pub sheet_short : length t < 2 → 3 ≡ sheet_fault t
  unfolding sheet_fault
  sheet_short h = rw (lt-ltb (length t) 2 h)

  pub sheet_tested : 2 ≤ length t → (b : Bool) → outside 1 2 (get_or t 1 0) ≡ b → cond b 20 0 ≡ sheet_fault t
  unfolding sheet_fault
  sheet_tested h b e = rw (le-ltb (length t) 2 h, e)

  pub sheet_inv : sheet_fault t ≡ 0 → 2 ≤ length t
  unfolding sheet_fault
  sheet_inv e = go (ltb (length t) 2) refl e
    where
      go : (b : Bool) → ltb (length t) 2 ≡ b → ◌≡◌ {A = ℕ} (cond b 3 (cond (outside 1 2 (get_or t 1 0)) 20 0)) 0 → 2 ≤ length t
      go true p z = absurd (omega arith)
      go false p z = ltb-false (length t) 2 p

-- the length attribute
module _ (h : Heads) (t : List ℕ) (at kind : ℕ) (e : kind ≡ kind_of (drop at t)) where
  pub length_none : (kind ≡ 0x30 → ⊥) → length_here h (drop at t) ≡ got h (drop at t)
  unfolding length_here
  length_none n = rw (ne_eqb (kind_of (drop at t)) 0x30 (λ k. n (e ∙ k)))

  module _ (k : kind ≡ 0x30) (code : ℕ) (f : code ≡ bounds_fault (drop at t)) where
    length_opens : length_here h (drop at t) ≡ refuse_or code (got (record { sheet = h.sheet; length = between (get_or t (at + 1) 0) (get_or t (at + 2) 0); lower = h.lower; upper = h.upper }) (drop (at + 3) t))
    unfolding length_here
    length_opens = rw (sym e ∙ k, get_or-drop at t 1 0, get_or-drop at t 2 0, drop-drop 3 at t, sym f)

    pub length_fault : (code ≡ 0 → ⊥) → length_here h (drop at t) ≡ refuse code
    length_fault z = length_opens ∙ refuse_is code _ z

    pub length_read : code ≡ 0 → length_here h (drop at t) ≡ got (record { sheet = h.sheet; length = between (get_or t (at + 1) 0) (get_or t (at + 2) 0); lower = h.lower; upper = h.upper }) (drop (at + 3) t)
    length_read z = length_opens ∙ refuse_not code _ z

-- the type
module _ (fam : Family) (h : Heads) (t : List ℕ) (at kind : ℕ) (e : kind ≡ kind_of (drop at t)) where
  pub type_none : (kind ≡ 0x31 → ⊥) → type_here fam h (drop at t) ≡ got h (drop at t)
  unfolding type_here
  type_none n = rw (ne_eqb (kind_of (drop at t)) 0x31 (λ k. n (e ∙ k)), and-false (has_types fam))

  pub type_never : has_types fam ≡ false → type_here fam h (drop at t) ≡ got h (drop at t)
  unfolding type_here
  type_never n = rw n

module _ (h : Heads) (t : List ℕ) (at : ℕ) (k : kind_of (drop at t) ≡ 0x31) (code : ℕ) (f : code ≡ type_fault (drop at t)) where
  type_opens : type_here Family.Integers h (drop at t) ≡ refuse_or code (got (record { sheet = h.sheet; length = h.length; lower = int_at t (at + 1); upper = int_at t (at + 5) }) (drop (at + 9) t))
  unfolding type_here
  type_opens = rw (k, int_at_drop t at 1, int_at_drop t at 5, drop-drop 9 at t, sym f)

  pub type_fault_lem : (code ≡ 0 → ⊥) → type_here Family.Integers h (drop at t) ≡ refuse code
  type_fault_lem z = type_opens ∙ refuse_is code _ z

  pub type_read : code ≡ 0 → type_here Family.Integers h (drop at t) ≡ got (record { sheet = h.sheet; length = h.length; lower = int_at t (at + 1); upper = int_at t (at + 5) }) (drop (at + 9) t)
  type_read z = type_opens ∙ refuse_not code _ z

module _ (t : List ℕ) (at : ℕ) where
  pub type_short : length t - at < 9 → 3 ≡ type_fault (drop at t)
  unfolding type_fault
  type_short h = rw (lt-ltb (length (drop at t)) 9 (omega (arith, length-drop at t)))

  module _ (h : 9 ≤ length t - at) where
    pub type_reversed : lt_z (int_at t (at + 5)) (int_at t (at + 1)) ≡ true → 6 ≡ type_fault (drop at t)
    unfolding type_fault
    type_reversed e = rw (le-ltb (length (drop at t)) 9 (omega (arith, length-drop at t)), int_at_drop t at 5, int_at_drop t at 1, e)

    pub type_sound : lt_z (int_at t (at + 5)) (int_at t (at + 1)) ≡ false → 0 ≡ type_fault (drop at t)
    unfolding type_fault
    type_sound e = rw (le-ltb (length (drop at t)) 9 (omega (arith, length-drop at t)), int_at_drop t at 5, int_at_drop t at 1, e)

pub record Ordered (t : List ℕ) (at : ℕ) : Type 0 where
  pub fits : at + 9 ≤ length t
  pub order : lt_z (int_at t (at + 5)) (int_at t (at + 1)) ≡ false

pub type_inv : (t : List ℕ) (at : ℕ) → type_fault (drop at t) ≡ 0 → Ordered t at
unfolding type_fault
type_inv t at e = go (ltb (length (drop at t)) 9) (lt_z (int_at (drop at t) 5) (int_at (drop at t) 1)) refl refl e
  where
    go : (a b : Bool) → ltb (length (drop at t)) 9 ≡ a → lt_z (int_at (drop at t) 5) (int_at (drop at t) 1) ≡ b → ◌≡◌ {A = ℕ} (cond a 3 (cond b 6 0)) 0 → Ordered t at
    go true b p q z = absurd (omega arith)
    go false true p q z = absurd (omega arith)
    go false false p q z = record { fits = omega (arith, ltb-false (length (drop at t)) 9 p, length-drop at t); order = rw (int_at_drop t at 5, int_at_drop t at 1) at q }

-- ---- all of them

-- heads without fault
record Faultless (fam : Family) (t : List ℕ) (o : Read Heads) (g : HeadsStruct) : Type 0 where
  read : Heads
  reads : o ≡ got read (drop g.next t)
  inside : g.next ≤ length t
  said : Said fam read g

module _ {fam : Family} {t : List ℕ} where
  faultless : {o : Read Heads} {g : HeadsStruct} → HeadsAt fam t o g → g.code ≡ 0 → Faultless fam t o g
  faultless {o} {g} (heads_fault code q l e) z = let c : g.code ≡ code = ap (λ (x : HeadsStruct). x.code) e in absurd (omega arith)
  faultless (heads_read a q z' i s) z = record { read = a; reads = q; inside = i; said = s }

  pub heads_inside : {o : Read Heads} {g : HeadsStruct} → HeadsAt fam t o g → g.code ≡ 0 → g.next ≤ length t
  heads_inside at z = (faultless at z).inside

  pub begun : {o : Read Heads} {g : HeadsStruct} → HeadsAt fam t o g → g.code ≡ 0 → length t < 65536 → Begun t g
  begun at z short = let r = faultless at z in record { family = fam; read = r.read; said = r.said; done = z; inside = r.inside; short = short }

  module _ {o : Read Heads} {g : HeadsStruct} (next : Heads → List ℕ → Read Heads) where
    -- after some heads: their fault, or what the next ones are
    pub heads_stop : HeadsAt fam t o g → (g.code ≡ 0 → ⊥) → HeadsAt fam t (and_then o next) g
    unfolding and_then
    heads_stop (heads_fault code q l e) n = heads_fault code (ap (λ (u : Read Heads). and_then u next) q) l e
    heads_stop (heads_read a q z i s) n = absurd (n z)

    pub heads_go : {h : HeadsStruct} → HeadsAt fam t o g → g.code ≡ 0 → ((a : Heads) → Said fam a g → HeadsAt fam t (next a (drop g.next t)) h) → HeadsAt fam t (and_then o next) h
    unfolding and_then
    heads_go {h} at z n = let r = faultless at z in heads_as (ap (λ (u : Read Heads). and_then u next) r.reads) (n r.read r.said)
      where
        heads_as : {o u : Read Heads} → o ≡ u → HeadsAt fam t u h → HeadsAt fam t o h
        heads_as e x = rw e x

    pub heads_end : HeadsAt fam t o g → g.code ≡ 0 → ((a : Heads) → next a (drop g.next t) ≡ got a (drop g.next t)) → HeadsAt fam t (and_then o next) g
    heads_end at z n = heads_go at z (λ a s. heads_read a (n a) z (heads_inside at z) s)

-- heads that begin with no 30, 31 or 32 are none
pub heads_none : (fam : Family) (t : List ℕ) (h : HeadsStruct) (kind : ℕ) → kind ≡ kind_of (drop 0 t) → kind < 0x30 → NoHeads fam h → HeadsAt fam t (heads_here fam t) h
unfolding heads_here rest_here and_then
heads_none fam t h kind e l n =
    let one : sheet_here no_heads t ≡ got no_heads (drop 0 t) = sheet_none no_heads t kind e (λ k. omega arith) in
    let two : length_here no_heads (drop 0 t) ≡ got no_heads (drop 0 t) = length_none no_heads t 0 kind e (λ k. omega arith) in
    let three : type_here fam no_heads (drop 0 t) ≡ got no_heads (drop 0 t) = type_none fam no_heads t 0 kind e (λ k. omega arith) in
    heads_read no_heads (ap (λ (o : Read Heads). and_then o (rest_here fam)) one ∙ ap (λ (o : Read Heads). and_then o (type_here fam)) two ∙ three ∙ ap (λ (p : ℕ). got no_heads (drop p t)) (sym n.here)) n.done (omega (arith, n.here)) n.said

-- only integers have types
pub by_types : (fam : Family) → has_types fam ≡ true → (t : List ℕ) (g h : HeadsStruct)
    → ((a : Heads) → Said Family.Integers a g → HeadsAt Family.Integers t (type_here Family.Integers a (drop g.next t)) h) → (a : Heads) → Said fam a g → HeadsAt fam t (type_here fam a (drop g.next t)) h
by_types Family.Integers e t g h x = x
by_types Family.Floats e t g h x = absurd (true≢false (sym e))
