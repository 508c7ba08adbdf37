-- The items of a record of: what is noted of each. Assumes nothing.
use mathlib.Core.Path.{◌≡◌, ap}
use mathlib.Core.Bool.{true}
use mathlib.Core.List.{List}
use Prim.Native.Nat.{ℕ, ◌+◌}
use native.Mathlib.Omega.{arith}
use lib.IntN.{ℤ}
use lib.ListN.{get_or, drop}
use Rattle.grammar.specs.Element.{Elem}
use Rattle.grammar.specs.Template.{Star, no_star, star, Group, one, spares, permutation, members_of_item}
use Rattle.grammar.specs.Record.{count_fault}
use Rattle.format.specs.declared.Family.{Family}
use Rattle.grammar.specs.Family.{LeafOf, leaves_in}
use Rattle.grammar.specs.Whole.{as_spares, members, permutation_here}
use Rattle.grammar.specs.Blocks.{block_of_item}
use Rattle.blocks.specs.Numbers.{block}
use Rattle.elements.specs.Contract.{fault_in, Noted}
use Rattle.items.specs.Notes.{MemberNotes, StarNotes, Says, GroupNotes, ItemNotes}
use Rattle.items.proofs.ItemRecords.{permutation_opens}
use Rattle.items.proofs.MemberPlaces.{noted_as, map_noted, placed_none}

module _ (fam : Family) (t : List ℕ) (m number : ℕ) where
  pub spares_item : (at r : ℕ) (places : List ℕ) (st : Star) → StarNotes t at r st → Says number (block m 0 (get_or t (at + 1) 0) (get_or t (at + 2) 0)) → ItemNotes fam t m places number places (as_spares st)
  unfolding members_of_item block_of_item
  spares_item at r places st n s = go st n.what
    where
      none : (st : Star) → st ≡ star (get_or t (at + 1) 0) (get_or t (at + 2) 0) → as_spares {L = LeafOf fam} st ≡ spares (get_or t (at + 1) 0) (get_or t (at + 2) 0)
      none st e = ap as_spares e

      zero_more : m + 0 ≡ m
      zero_more = omega arith

      go : (st : Star) → st ≡ star (get_or t (at + 1) 0) (get_or t (at + 2) 0) → ItemNotes fam t m places number places (as_spares st)
      go st e = rw (none st e) (record { placed = rw zero_more (placed_none fam t m places); says = s })

  module _ (before after : List ℕ) where
    pub group_item : (g : Group (LeafOf fam)) → GroupNotes fam t m before number after g → ItemNotes fam t m before number after (permutation g)
    unfolding members_of_item block_of_item
    group_item g w = record { placed = w.placed; says = w.says }

    pub one_item : (e : Elem (LeafOf fam)) → MemberNotes fam t m before after e → Says number (block m 1 0 0) → ItemNotes fam t m before number after (one e)
    unfolding members_of_item block_of_item
    one_item e w s = record { placed = w; says = s }

pub permutation_noted : (fam : Family) (lo hi : ℤ) (t : List ℕ) (at m code : ℕ) (e : code ≡ count_fault 1 32 (drop at t)) (z : code ≡ 0) (before : List ℕ) (number : ℕ) (after : List ℕ) (r : ℕ)
    → Noted (GroupNotes fam t m before number after) t (members (leaves_in fam lo hi) true (get_or t (at + 1) 0) m no_star (drop (at + 2) t)) (fault_in r) r
    → Noted (ItemNotes fam t m before number after) t (permutation_here (leaves_in fam lo hi) m (drop at t)) (fault_in r) r
permutation_noted fam lo hi t at m code e z before number after r s =
    noted_as (permutation_opens (leaves_in fam lo hi) t at m code e z) (map_noted permutation (λ g q w. group_item fam t m number before after g w) s)
