-- The walk with the ranges that it gathers: where it stands, a leaf and a call more, and what a list or a complement gives. Assumes nothing.
use mathlib.Core.Path.{◌≡◌, refl, sym, ◌∙◌, subst}
use mathlib.Core.Bool.{Bool, true, false, cond}
use mathlib.Core.List.{List, [], ◌∷◌, ◌++◌}
use mathlib.Core.Logic.{⊎_elim}
use Prim.Native.Nat.{ℕ, ◌+◌, ◌-◌, ◌*◌, ◌≤◌, ◌<◌}
use native.Mathlib.Omega.{arith}
use lib.IntN.{ℤ}
use lib.ListN.{length, get_or, take, drop, set, length-append}
use borrow.Rule.Slice.PartMut.{put_mid}
use Rattle.facts.proofs.Cases.{below}
use Rattle.ranges.specs.Shown.{view, Became}
use Rattle.ranges.specs.Spans.{Span, span, holds, Ascending, join_all, gaps}
use Rattle.ranges.proofs.JoinsAndGaps.{proper_of, ascending_joined, ascending_gaps}
use Rattle.format.specs.declared.Family.{Family}
use Rattle.grammar.specs.Element.{leaves}
use Rattle.forms.proofs.Accepts.{elem_facts}
use Rattle.leaves.specs.Leaves.{LeafHere, BoundsHere}
use Rattle.leaves.proofs.ElementByKind as by_kind
use Rattle.elements.specs.Contract.{place_in, count_in}
use Rattle.normal.specs.Contract.{weight, Here, HereSet, AnySet, Room, MembersFrom, HereFrom, More, GatheredAll, GatheredHere}
use Rattle.normal.proofs.Walks.{group_fits, leaf_there, kind_most, leaf_here_set, list_here_set, group_few, complement_here_set, Chain, chain_start, chain_here, chain_here_leaves, chain_step, chain_end, chain_short}
use Rattle.normal.proofs.Gathers.{packed, more_none, more_and, more_one, more_from, part_view, more_back}

-- ---- several element templates

-- where the walk has come to: the ranges that were found stand in the arrays after those that stood there
pub record Walking (t : List ℕ) (from n left : ℕ) (los₀ his₀ los his : List ℤ) (s m : ℕ) : Type 0 where
  pub found : List Span
  pub more : More from los₀ his₀ los his s found
  pub chain : Chain t (place_in from) n left (count_in from) found (place_in s) m

pub walking_start : (t : List ℕ) (from n left : ℕ) (los his : List ℤ) → MembersFrom t from n left los his → Walking t from n left los his los his from n
walking_start t from n left los his h =
    record { found = []; more = more_none from los his; chain = chain_start t (place_in from) n left (count_in from) h.members h.room.few }

module _ (t : List ℕ) (from n left : ℕ) (los₀ his₀ los his : List ℤ) (s m : ℕ) (g : Walking t from n left los₀ his₀ los his s m) where
  module _ (h : MembersFrom t from n left los₀ his₀) (b : 0 < m) where
    abbrev pub walking_here : Here t (place_in s) left
    walking_here = chain_here t (place_in from) n left (count_in from) g.found (place_in s) m b g.chain

    pub walking_room : Room t s walking_here.leaves_before los his
    walking_room = record {
      short = h.room.short;
      size_low = g.more.size_low ∙ h.room.size_low;
      size_high = g.more.size_high ∙ h.room.size_high;
      few = omega (arith, g.more.count, g.chain.short, chain_here_leaves t (place_in from) n left (count_in from) g.found (place_in s) m b g.chain);
    }

    -- a leaf more
    module _ (low : get_or t (place_in s) 0 < 4) where
      pub leaf_at : LeafHere t (place_in s)
      leaf_at = leaf_there t (place_in s) left walking_here low

      module _ (a b' : ℤ) (next : ℕ) (f : BoundsHere t (place_in s) a b' next) where
        one : Ascending (span a b' ∷ []) × HereSet t (place_in s) left (holds (span a b' ∷ [])) (weight (span a b' ∷ [])) next
        one = leaf_here_set t (place_in s) left (span a b' ∷ []) a b' next refl leaf_at low f

        step : Chain t (place_in from) n left (count_in from) (g.found ++ (span a b' ∷ [])) next (m - 1)
        step = chain_step t (place_in from) n left (count_in from) g.found (place_in s) m b g.chain (span a b' ∷ []) next (proper_of (span a b' ∷ []) one.0) one.1

        pub leaf_room : count_in s < 128
        leaf_room = omega (arith, g.more.count, chain_short t (place_in from) n left (count_in from) (g.found ++ (span a b' ∷ [])) next (m - 1) step, length-append g.found (span a b' ∷ []))

        pub next_short : next < 65536
        next_short = omega (arith, f.inside, h.room.short)

        pub walking_leaf : Walking t from n left los₀ his₀ (set los (count_in s) a) (set his (count_in s) b') ((count_in s + 1) * 65536 + next) (m - 1)
        walking_leaf =
            let pack = packed (count_in s + 1) next next_short in
            record {
              found = g.found ++ (span a b' ∷ []);
              more = more_and from s ((count_in s + 1) * 65536 + next) los₀ his₀ los his (set los (count_in s) a) (set his (count_in s) b') g.found (span a b' ∷ []) g.more
                  (more_one s ((count_in s + 1) * 65536 + next) los his a b' (omega (arith, leaf_room, walking_room.size_low)) (omega (arith, leaf_room, walking_room.size_high)) pack.0);
              chain = subst (λ (p : ℕ). Chain t (place_in from) n left (count_in from) (g.found ++ (span a b' ∷ [])) p (m - 1)) (sym pack.1) step;
            }

    -- a list or a complement more
    pub walking_call : (los' his' : List ℤ) (r : ℕ) → GatheredHere t s left los his los' his' r → Walking t from n left los₀ his₀ los' his' r (m - 1)
    walking_call los' his' r w = record {
      found = g.found ++ w.found;
      more = more_and from s r los₀ his₀ los his los' his' g.found w.found g.more w.more;
      chain = chain_step t (place_in from) n left (count_in from) g.found (place_in s) m b g.chain w.found (place_in r) w.proper w.right;
    }

  pub walking_end : m ≡ 0 → GatheredAll t from n left los₀ his₀ los his s
  walking_end e = record {
    found = g.found;
    proper = g.chain.proper;
    more = g.more;
    right = chain_end t (place_in from) n left (count_in from) g.found (place_in s) m e g.chain;
  }

-- ---- one with members

module _ (t : List ℕ) (from left : ℕ) (los his : List ℤ) (h : HereFrom t from left los his) where
  abbrev at : ℕ
  at = place_in from

  abbrev kind : ℕ
  kind = get_or t at 0

  -- a list or a complement
  pub kinds : {A : Type 0} → (kind ≡ 4 → A) → (kind ≡ 5 → A) → A
  kinds {A} four five =
      let most = kind_most t at left h.here in
      ⊎_elim
      (λ (l : kind < 5). four (omega (arith, h.group)))
      (λ (l : 5 ≤ kind). five (omega (arith, most)))
      (below kind 5)

  pub members_fit : (at + 2 ≤ length t) × (0 < left)
  members_fit = kinds (λ e. group_fits t at left h.here false e) (λ e. group_fits t at left h.here true e)

  pub next_place : place_in (from + 2) ≡ at + 2
  next_place = omega (arith, members_fit.0, h.room.short)

  pub same_ranges : count_in (from + 2) ≡ count_in from
  same_ranges = omega (arith, members_fit.0, h.room.short)

  pub members_from : MembersFrom t (from + 2) (get_or t (at + 1) 0) (left - 1) los his
  members_from = kinds (go false) (go true)
    where
      go : (c : Bool) → kind ≡ cond c 5 4 → MembersFrom t (from + 2) (get_or t (at + 1) 0) (left - 1) los his
      go c e =
          let b = h.here in
          let m = by_kind.by_group Family.Integers t at left b.leaves_before b.found b.after b.rest b.reads c e in
          record {
            members = record {
              inside = subst (λ (p : ℕ). p ≤ length t) (sym next_place) m.fits;
              leaves_before = b.leaves_before;
              few = b.few;
              found = m.es;
              after = b.after;
              rest = b.rest;
              reads = rw next_place m.reads;
            };
            room = record { short = h.room.short; size_low = h.room.size_low; size_high = h.room.size_high; few = omega (arith, same_ranges, h.room.few) };
          }

  module _ (los₁ his₁ : List ℤ) (r : ℕ) (w : GatheredAll t (from + 2) (get_or t (at + 1) 0) (left - 1) los his los₁ his₁ r) where
    more : More from los his los₁ his₁ r w.found
    more = more_from (from + 2) from r los his los₁ his₁ w.found same_ranges w.more

    members_set : AnySet t (at + 2) (get_or t (at + 1) 0) (left - 1) (holds w.found) (weight w.found) (place_in r)
    members_set = subst (λ (p : ℕ). AnySet t p (get_or t (at + 1) 0) (left - 1) (holds w.found) (weight w.found) (place_in r)) next_place w.right

    pub list_gathered : kind ≡ 4 → GatheredHere t from left los his los₁ his₁ r
    list_gathered e = record { found = w.found; proper = w.proper; more = more; right = list_here_set t at left (holds w.found) (weight w.found) (place_in r) e members_set }

    abbrev n : ℕ
    n = count_in from

    -- two ranges for each leaf at most
    pub all_few : count_in r ≤ 128
    all_few =
        let e = h.here in
        let c = elem_facts left e.leaves_before (drop at t) e.found e.after e.rest e.reads in
        let few : weight w.found ≤ 2 * leaves e.found = kinds (λ k. group_few t at left false _ _ _ k members_set e) (λ k. group_few t at left true _ _ _ k members_set e) in
        omega (arith, more.count, h.room.few, c.count, c.few)

    pub fits_low : n ≤ length los
    fits_low = omega (arith, h.room.few, h.room.size_low, h.here.few)

    pub fits_high : n ≤ length his
    fits_high = omega (arith, h.room.few, h.room.size_high, h.here.few)

    pub own_ranges : view (count_in r - n) (take (length los₁ - n) (drop n los₁)) (take (length his₁ - n) (drop n his₁)) ≡ w.found
    own_ranges = part_view from r los his los₁ his₁ w.found more fits_low fits_high

    pub complement_gathered : (los₂ his₂ : List ℤ) (g : ℕ) → (kind ≡ 4 → ⊥)
        → Became (take (length los₁ - n) (drop n los₁)) (take (length his₁ - n) (drop n his₁)) los₂ his₂ g
        (gaps (join_all (view (count_in r - n) (take (length los₁ - n) (drop n los₁)) (take (length his₁ - n) (drop n his₁))) []))
        → GatheredHere t from left los his (put_mid n (length los₁ - n) los₁ los₂) (put_mid n (length his₁ - n) his₁ his₂) ((n + g) * 65536 + place_in r)
    complement_gathered los₂ his₂ g other b =
        let five : kind ≡ 5 = kinds (λ e. absurd (other e)) (λ e. e) in
        let ws = gaps (join_all w.found []) in
        let o : Ascending (join_all w.found []) = ascending_joined w.found [] w.proper tt in
        let pack = packed (n + g) (place_in r) (omega arith) in
        let own = subst (λ (rs : List Span). Became (take (length los₁ - n) (drop n los₁)) (take (length his₁ - n) (drop n his₁)) los₂ his₂ g (gaps (join_all rs []))) own_ranges b in
        record {
          found = ws;
          proper = proper_of ws (ascending_gaps (join_all w.found []) o);
          more = more_back from r los his los₁ his₁ w.found more fits_low fits_high ((n + g) * 65536 + place_in r) g los₂ his₂ ws own pack.0;
          right = subst (λ (p : ℕ). HereSet t at left (holds ws) (weight ws) p) (sym pack.1) (complement_here_set t at left w.found (place_in r) five w.proper members_set);
        }
