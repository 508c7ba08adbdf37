-- What stands before the items: the heads and the record of the body together. Assumes nothing.
use mathlib.Core.Path.{◌≡◌, sym, ap, ap₂, ◌∙◌}
use mathlib.Core.List.{List}
use Prim.Native.Nat.{ℕ, ◌+◌, ◌≤◌, ◌<◌}
use native.Mathlib.Omega.{arith}
use lib.ListN.{length, get_or, drop}
use lib.Seq.{get_or-drop, drop-drop}
use Rattle.grammar.specs.Template.{Length, Sheet, Heads, template}
use Rattle.format.specs.declared.Family.{Family}
use Rattle.grammar.specs.Family.{leaves_in}
use Rattle.grammar.specs.Read.{Read, refuse, refuse_or, map_read, and_then}
use Rattle.grammar.specs.Whole.{contents, body_here, heads_here, template_here}
use Rattle.sorts.specs.Sorts.{Sorted}
use Rattle.sorts.proofs.Words.{said}
use Rattle.heads.specs.Fronts.{sheet_for, length_of, own_fault, Said, HeadsAt, heads_fault, heads_read}
use Rattle.heads.proofs.HeadRecords.{body_by, own_inv}
use Rattle.grammar.proofs.RecordParts.{kind_at}
use Rattle.grammar.proofs.ReadApart.{refuse_is, refuse_not}
use Rattle.heads.specs.declared.Heads.{Heads as HeadsStruct}

-- `code` is the fault of the body's own record, after the heads h
abbrev pub AfterHeads : List ℕ → HeadsStruct → ℕ → Type 0
AfterHeads t h code = code ≡ own_fault (sheet_for h.plain) (length_of h.given h.min h.max) (drop h.next t)

-- the heads and the record of the body are all there, and the items follow
pub record Front (fam : Family) (t : List ℕ) (h : HeadsStruct) : Type 0 where
  pub heads : Heads
  pub reads : template_here fam t ≡ map_read (template heads) (contents (leaves_in fam heads.lower heads.upper) (get_or t h.next 0) (get_or t (h.next + 1) 0) (drop (h.next + 2) t))
  pub says : Said fam heads h
  pub fits : h.next + 2 ≤ length t
  pub low : 0x10 ≤ get_or t h.next 0
  pub high : get_or t h.next 0 ≤ 0x13
  pub few : get_or t (h.next + 1) 0 ≤ 32

module _ (fam : Family) (t : List ℕ) (h : HeadsStruct) where
  -- what follows the heads
  after : (o : Read Heads) → heads_here fam t ≡ o → template_here fam t ≡ and_then o (λ a. body_here (leaves_in fam a.lower a.upper) a)
  unfolding template_here
  after o q = ap (λ (u : Read Heads). and_then u (λ a. body_here (leaves_in fam a.lower a.upper) a)) q

  no_fault : (code : ℕ) → 0 < code → h.code ≡ code → h.code ≡ 0 → ⊥
  no_fault code l e z = omega arith

  pub heads_refused : HeadsAt fam t (heads_here fam t) h → (h.code ≡ 0 → ⊥) → template_here fam t ≡ refuse h.code
  unfolding and_then
  heads_refused (heads_fault code q p e) n = after (refuse code) q ∙ ap (λ (x : HeadsStruct). refuse x.code) (sym e)
  heads_refused (heads_read a q z i s) n = absurd (n z)

  module _ (code : ℕ) (b : AfterHeads t h code) where
    -- the body after these heads
    body_after : (a : Heads) → Said fam a h → body_here (leaves_in fam a.lower a.upper) a (drop h.next t)
        ≡ refuse_or code (map_read (template a) (contents (leaves_in fam a.lower a.upper) (get_or t h.next 0) (get_or t (h.next + 1) 0) (drop (h.next + 2) t)))
    body_after a s =
        let own : own_fault a.sheet a.length (drop h.next t) ≡ code = ap₂ (λ (v : Sheet) (l : Length). own_fault v l (drop h.next t)) s.sheet s.attribute ∙ sym b in
        body_by (leaves_in fam a.lower a.upper) a (drop h.next t) ∙ rw (own, kind_at t h.next, get_or-drop h.next t 1 0, drop-drop 2 h.next t)

    pub body_refused : HeadsAt fam t (heads_here fam t) h → h.code ≡ 0 → (code ≡ 0 → ⊥) → template_here fam t ≡ refuse code
    unfolding and_then
    body_refused (heads_fault c q p e) z n = absurd (no_fault c p (ap (λ (x : HeadsStruct). x.code) e) z)
    body_refused (heads_read a q z' i s) z n = after _ q ∙ body_after a s ∙ refuse_is code _ n

    pub front_of : HeadsAt fam t (heads_here fam t) h → h.code ≡ 0 → code ≡ 0 → Front fam t h
    unfolding and_then
    front_of (heads_fault c q p e) z y = absurd (no_fault c p (ap (λ (x : HeadsStruct). x.code) e) z)
    front_of (heads_read a q z' i s) z y =
        let r = own_inv _ _ t h.next (sym b ∙ y) in
        record { heads = a; reads = after _ q ∙ body_after a s ∙ refuse_not code _ y; says = s; fits = r.fits; low = r.low; high = r.high; few = r.few }

-- the sort that the heads say
pub front_sorted : (fam : Family) (t : List ℕ) (h : HeadsStruct) (f : Front fam t h) → Sorted fam f.heads.lower f.heads.upper h.sort
front_sorted fam t h f = let o = f.says.order in said fam f.heads.lower f.heads.upper o.0 o.1 o.2 h.sort f.says.sort
