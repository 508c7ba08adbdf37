-- The items of a record of, one after another, with the numbers of their blocks. Assumes nothing.
use mathlib.Core.Path.{◌≡◌, refl, sym, ap, ap₂, ◌∙◌, subst}
use mathlib.Core.List.{List, [], ◌∷◌, ◌++◌, append_assoc, append-nil}
use Prim.Native.Nat.{ℕ, suc, ◌+◌, ◌-◌, ◌*◌, ◌≤◌, ◌<◌}
use native.Mathlib.Omega.{arith}
use lib.IntN.{ℤ}
use lib.ListN.{length, drop, take, set, replicate, length-append}
use lib.Seq.{set_at}
use Rattle.std.proofs.lemmas.List.{take_at}
use Rattle.grammar.specs.Template.{grouped, Item, one, spares, permutation, members_of_group, members_of_item, members_of_items, members_of}
use Rattle.format.specs.declared.Family.{Family}
use Rattle.grammar.specs.Family.{LeafOf, leaves_in}
use Rattle.grammar.specs.Read.{Read, refuse, got}
use Rattle.grammar.specs.Whole.{put_item, then_items, item, items}
use Rattle.grammar.specs.Blocks.{block_of_group, block_of_item, blocks_of_items, blocks_of, body_kind, Standing}
use Rattle.blocks.specs.Numbers.{block_in, numbers_of, blocks_in}
use Rattle.blocks.specs.declared.Block.{Block}
use Rattle.blocks.proofs.BlockNumbers.{length_blocks_in, blocks_in_append}
use Rattle.elements.specs.Contract.{fault_in, place_in, count_in, Noted, stopped, noted}
use Rattle.elements.proofs.Scans.{noted_stopped, noted_read}
use Rattle.items.specs.Notes.{Placed, ItemNotes}
use Rattle.items.proofs.MemberPlaces.{noted_as, stopped_on, placed_none, placed_then}
use Rattle.grammar.proofs.MemberLimit.{item_limit}
use Rattle.template.specs.Bodies.{RecordNotes}

-- the first 0 gives way to v
number_stored : (vs : List ℕ) (k v : ℕ) → length vs ≡ k → k < 32 → set (vs ++ replicate (32 - k) 0) k v ≡ (vs ++ v ∷ []) ++ replicate (32 - (k + 1)) 0
number_stored vs k v e l =
    let n : 32 - k ≡ suc (31 - k) = omega arith in
    let m : 32 - (k + 1) ≡ 31 - k = omega arith in
    ap (λ (j : ℕ). set (vs ++ replicate j 0) k v) n
    ∙ set_at vs 0 (replicate (31 - k) 0) v k e
    ∙ sym (append_assoc vs (v ∷ []) (replicate (31 - k) 0))
    ∙ ap (λ (j : ℕ). (vs ++ v ∷ []) ++ replicate j 0) (sym m)

-- the block's k is how many members the item has
item_counts : (fam : Family) (m : ℕ) (i : Item (LeafOf fam)) → (block_of_item m i).k ≡ length (members_of_item i)
unfolding block_of_item block_of_group members_of_item members_of_group
item_counts fam m (one e) = refl
item_counts fam m (spares min max) = refl
item_counts fam m (permutation (grouped es st)) = refl

-- the members of `is` are placed, and `all` are the numbers that were stored and those of their blocks
pub record ItemsNotes (fam : Family) (t : List ℕ) (m : ℕ) (before made : List ℕ) (count : ℕ) (after all : List ℕ) (is : List (Item (LeafOf fam))) : Type 0 where
  pub placed : Placed fam t m before (members_of_items is) count after
  pub cut : all ≡ made ++ numbers_of (blocks_of_items m is)
  pub says : blocks_in all ≡ blocks_in made ++ blocks_of_items m is

-- what the items from here on give is what all of them give
pub record ItemsGoing (fam : Family) (lo hi : ℤ) (t : List ℕ) (at n : ℕ) (before places blocks : List ℕ) (p m k : ℕ) : Type 0 where
  pub short : length t < 65536
  pub inside : p ≤ length t
  pub size : length places ≡ 32
  pub few : m ≤ 32
  pub turns : k ≤ n
  pub made : List ℕ
  pub stored : blocks ≡ made ++ replicate (32 - k) 0
  pub number : length made ≡ k
  pub goes : (code next count : ℕ) (after all : List ℕ) → Noted (ItemsNotes fam t m places made count after all) t (items (leaves_in fam lo hi) (n - k) m (drop p t)) code next
      → Noted (ItemsNotes fam t 0 before [] count after all) t (items (leaves_in fam lo hi) n 0 (drop at t)) code next

pub items_start : (fam : Family) (lo hi : ℤ) (t : List ℕ) (at n : ℕ) (before blocks : List ℕ) → length t < 65536 → at ≤ length t → length before ≡ 32 → blocks ≡ replicate 32 0 → ItemsGoing fam lo hi t at n before before blocks at 0 0
items_start fam lo hi t at n before blocks b i z e = record {
  short = b;
  inside = i;
  size = z;
  few = omega arith;
  turns = omega arith;
  made = [];
  stored = e;
  number = refl;
  goes = λ code next count after all s.
      let whole : n - 0 ≡ n = omega arith in
      rw whole at s;
}

module _ {fam : Family} {lo hi : ℤ} {t : List ℕ} {at n : ℕ} {before places blocks : List ℕ} {p m k : ℕ} (g : ItemsGoing fam lo hi t at n before places blocks p m k) where
  module _ (some : k < n) where
    items_open : (o : Read (Item (LeafOf fam))) → item (leaves_in fam lo hi) m (drop p t) ≡ o → items (leaves_in fam lo hi) (n - k) m (drop p t) ≡ then_items m o (items (leaves_in fam lo hi) (n - (k + 1)))
    unfolding items
    items_open o q =
        let next : n - k ≡ suc (n - (k + 1)) = omega arith in
        ap (λ (j : ℕ). items (leaves_in fam lo hi) j m (drop p t)) next ∙ ap (λ (v : Read (Item (LeafOf fam))). then_items m v (items (leaves_in fam lo hi) (n - (k + 1)))) q

    pub items_stop : {P : Item (LeafOf fam) → Type 0} {Tells : List (Item (LeafOf fam)) → Type 0} {code place next : ℕ} → Noted P t (item (leaves_in fam lo hi) m (drop p t)) code place → 0 < code
        → Noted Tells t (items (leaves_in fam lo hi) n 0 (drop at t)) code next
    unfolding then_items
    items_stop {code = code} s l =
        let w = noted_stopped _ _ _ _ _ s l in
        stopped_on (g.goes code 0 0 [] [] (stopped (items_open (refuse code) w.0) l w.1)) l

    put_item_lem : (i : Item (LeafOf fam)) (v : ℕ) (places' : List ℕ) (o : Read (List (Item (LeafOf fam)))) (code next c : ℕ) (after all : List ℕ)
        → ItemNotes fam t m places v places' i → Noted (ItemsNotes fam t (m + length (members_of_item i)) places' (g.made ++ v ∷ []) c after all) t o code next
        → Noted (ItemsNotes fam t m places g.made c after all) t (put_item i o) code next
    unfolding put_item members_of_items blocks_of_items numbers_of blocks_in
    put_item_lem i v places' o code next c after all h (stopped q l s) = stopped (ap (put_item i) q) l s
    put_item_lem i v places' o code next c after all h (noted is q z w j) =
        let m' = m + length (members_of_item i) in
        noted (i ∷ is) (ap (put_item i) q) z
        (record {
          placed = placed_then h.placed w.placed;
          cut = w.cut ∙ append_assoc g.made (v ∷ []) (numbers_of (blocks_of_items m' is))
              ∙ ap (λ (x : ℕ). g.made ++ x ∷ numbers_of (blocks_of_items m' is)) h.says.0;
          says = w.says ∙ ap (λ (l : List Block). l ++ blocks_of_items m' is) (blocks_in_append g.made (v ∷ []))
              ∙ append_assoc (blocks_in g.made) (block_in v ∷ []) (blocks_of_items m' is)
              ∙ ap (λ (b : Block). blocks_in g.made ++ b ∷ blocks_of_items m' is) h.says.1;
        }) j

    pub items_more : {next v : ℕ} {places' : List ℕ} → n ≤ 32 → length places' ≡ 32 → next ≤ 16777215
        → Noted (ItemNotes fam t m places v places') t (item (leaves_in fam lo hi) m (drop p t)) (fault_in next) next → (m' : ℕ) → m' ≡ m + (block_in v).k → ItemsGoing fam lo hi t at n before places' (set blocks k v) next m' (k + 1)
    unfolding then_items
    items_more {next = next} {v = v} {places' = places'} limit size low s m' e =
        let w = noted_read _ _ _ _ _ s (omega arith) in
        let c : m' ≡ m + length (members_of_item w.0) = e ∙ ap (λ (b : Block). m + b.k) w.2.says.1 ∙ ap (λ (j : ℕ). m + j) (item_counts fam m w.0) in
        let few = item_limit (leaves_in fam lo hi) m (drop p t) w.0 (drop next t) g.few w.1 in
        record {
          short = g.short;
          inside = w.3;
          size = size;
          few = omega arith;
          turns = omega arith;
          made = g.made ++ v ∷ [];
          stored = ap (λ (l : List ℕ). set l k v) g.stored ∙ number_stored g.made k v g.number (omega arith);
          number = length-append g.made (v ∷ []) ∙ omega (arith, g.number);
          goes = λ code next' count' after all h.
              g.goes code next' count' after all
              (noted_as (items_open (got w.0 (drop next t)) w.1)
              (put_item_lem w.0 v places' _ code next' count' after all w.2
              (subst (λ (j : ℕ). Noted (ItemsNotes fam t j places' (g.made ++ v ∷ []) count' after all) t (items (leaves_in fam lo hi) (n - (k + 1)) j (drop next t)) code next') c h)));
        }

  pub items_end : n ≤ k → n ≤ 32 → (r : ℕ) → r ≡ p + m * 65536 → Noted (RecordNotes fam t n (count_in r) blocks places) t (items (leaves_in fam lo hi) n 0 (drop at t)) (fault_in r) (place_in r)
  unfolding items members_of_items blocks_of_items numbers_of blocks_in blocks_of body_kind members_of Standing
  items_end done limit r e =
      let none : n - k ≡ 0 = omega arith in
      let turns : k ≡ n = omega (arith, g.turns) in
      let i = g.inside in
      let b = g.short in
      let few = g.few in
      let place : place_in r ≡ p = omega arith in
      let count : count_in r ≡ m = omega arith in
      let sound : fault_in r ≡ 0 = omega arith in
      let w = noted_read _ _ _ _ _
      (g.goes 0 p m places g.made
      (subst (λ (j : ℕ). Noted (ItemsNotes fam t m places g.made m places g.made) t (items (leaves_in fam lo hi) j m (drop p t)) 0 p) (sym none)
      (noted [] refl refl (record { placed = placed_none fam t m places; cut = sym (append-nil g.made); says = sym (append-nil (blocks_in g.made)) }) g.inside))) refl in
      let long : length g.made ≡ n = g.number ∙ turns in
      noted w.0 (w.1 ∙ ap (λ (q : ℕ). got w.0 (drop q t)) (sym place)) sound
      (record {
        named = refl;
        count = sym long ∙ sym (length_blocks_in g.made) ∙ ap length w.2.says;
        cut = ap (λ (l : List ℕ). blocks_in (take n l)) g.stored ∙ ap blocks_in (take_at g.made (replicate (32 - k) 0) n long) ∙ w.2.says;
        stored = g.stored ∙ ap₂ (λ (l : List ℕ) (j : ℕ). l ++ replicate (32 - j) 0) w.2.cut turns;
        size = count ∙ sym w.2.placed.counts ∙ omega arith;
        stands = subst (λ (j : ℕ). Standing fam t (members_of_items w.0) (take j places)) (sym count) (w.2.placed.stands [] tt);
      }) (omega (arith, w.3))
