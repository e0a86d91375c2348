-- What a table of blocks has, entity by entity.
use Rattle.std.proofs.{Common.{◌≡◌, ◌≢◌, ℕ, zero, suc, ◌+◌, ◌-◌, ◌<◌, append_assoc, List, [], ◌∷◌, ◌++◌, length, map, Some, Bool, true, false, nat_eq, refl, sym, ap, ◌∙◌, subst, arith, inl, inr, if◌then◌else◌}, lemmas.Bool.{and_parts, and_from, eqb-true, eq-eqb}, lemmas.Option.same_Some, lemmas.List.{length-set, length-replicate}}
use Rattle.std.specs.Prelude.{slice_get, slice_set, replicate}
use Rattle.pc_base.specs.Lists.{Differ, Text}
use Rattle.pc_base.proofs.{Bools.true_false, Gets.{get_below, get_map, get_set_same, get_set_other}}
use Rattle.pc_tree.specs.Kinds.{is_abstract}
use Rattle.pc_tree.specs.Tree as t
use Rattle.pc_members.specs.{Members.entity_names, Founded.IsFounded, Rounds.{rank, ClosesOwn, IsReached}}
use Rattle.pc_members.proofs.{Ranks.{target, rank_less, rank_few, named_by}, Rounding.{one_place, same_rank}}
use Rattle.pc_member_counts.specs.{declared.block.Block.Block, declared.listing.Listing.Listing, Blocks.nothing, Numbers.listing, Orders.{is_of_rank, of_rank, of_ranks, ordered}, Windows.{trait_block, placed, filled_at, filled}}
use Rattle.pc_member_counts.proofs.Blocks.{HasBlock, AllBlocks, trait_seen}

no_less : {T : Type 0} → (a : ℕ) → a < 0 → T
no_less a l = absurd (omega (arith, l))

pub filled_parts : (start : ℕ) (es : List t.Entity) (ls : List Listing) (xs ys : List ℕ) (table : List Block) → filled start es ls (xs ++ ys) table ≡ filled start es ls ys (filled start es ls xs table)
filled_parts start es ls [] ys table = refl
filled_parts start es ls (x ∷ xs) ys table = filled_parts start es ls xs ys (filled_at start es ls table x)

module _ (file : t.File) (own : List (List ℕ)) (c : ClosesOwn file own) (founded : IsFounded file) (names : List Text) (d : Differ names) (start : ℕ) where
  abbrev listings : List Listing
  listings = map (listing (entity_names file) names) file.entities

  -- The table has the blocks of the traits and interfaces with fewer entities above them than this rank, and of those
  -- with exactly this rank that come before this place.
  record Known (r i : ℕ) (table : List Block) : Type 0 where
    count : length table ≡ length file.entities
    known : (j : ℕ) (e : t.Entity) → slice_get file.entities j ≡ Some e → is_abstract e.kind ≡ true → IsReached own r i j → HasBlock file names start table j e

  known_none : Known 0 0 (replicate (length file.entities) nothing)
  known_none = record { count = length-replicate (length file.entities) nothing; known = λ j e h is r. none j r }
    where
      none : {T : Type 0} → (j : ℕ) → IsReached own 0 0 j → T
      none j (inl l) = no_less _ l
      none j (inr p) = no_less _ p.1

  -- ---- one place

  known_kept : (r i : ℕ) (e : t.Entity) (table : List Block) → slice_get file.entities i ≡ Some e → is_of_rank own r i e ≡ false → Known r i table → Known r (i + 1) table
  known_kept r i e table h not_ k = record {
    count = k.count;
    known = λ j f g is q. k.known j f g is (one_place own r i j q
        (λ s m. absurd (true_false (sym (and_from (is_abstract e.kind) (nat_eq (rank own i) r)
        (ap (λ (z : t.Entity). is_abstract z.kind) (same_Some e f (sym h ∙ ap (slice_get file.entities) (sym s) ∙ g)) ∙ is) (eq-eqb (rank own i) r (ap (rank own) (sym s) ∙ m))) ∙ not_)))
        (λ z. z));
  }

  -- What it names is there.
  named_known : (i : ℕ) (e : t.Entity) (table : List Block) → slice_get file.entities i ≡ Some e → Known (rank own i) i table → AllBlocks file names start table e.provides
  named_known i e table h k n hn =
      let q = target file c.0 founded c.1 e n (i, h) hn in
      let less = rank_less file c.0 founded c.1 i q.place e q.entity h q.is_entity q.trait (named_by file c.0 founded c.1 i e n q h hn) in
      (q, k.known q.place q.entity q.is_entity q.trait (inl (let a = same_rank own c.0 c.2 i in let b = same_rank own c.0 c.2 q.place in omega (arith, less, a, b))))

  known_new : (r i : ℕ) (e : t.Entity) (table : List Block) → slice_get file.entities i ≡ Some e → is_of_rank own r i e ≡ true → Known r i table → Known r (i + 1) (filled_at start file.entities listings table i)
  known_new r i e table h is_ k =
      let p = and_parts (is_abstract e.kind) (nat_eq (rank own i) r) is_ in
      let at : rank own i ≡ r = eqb-true (rank own i) r p.1 in
      let b : Block = trait_block start table e (listing (entity_names file) names e) in
      let new : filled_at start file.entities listings table i ≡ slice_set table i b =
      ap (λ o. placed start table i o (slice_get listings i)) h ∙ ap (placed start table i (Some e)) (get_map (listing (entity_names file) names) file.entities i e h) in
      let within : i < length table = let l = get_below file.entities i e h in let n = k.count in omega (arith, l, n) in
      let seen : HasBlock file names start (slice_set table i b) i e =
      (b, get_set_same table i b within, trait_seen file c.0 founded c.1 names d start table i e h p.0 (named_known i e table h (subst (λ z. Known z i table) (sym at) k))) in
      subst (Known r (i + 1)) (sym new) (record {
        count = length-set table i b ∙ k.count;
        known = λ j f g is q. by r i e table b h k seen j f g is q (nat_eq j i) refl;
      })
    where
      by : (r i : ℕ) (e : t.Entity) (table : List Block) (b : Block) → slice_get file.entities i ≡ Some e → Known r i table → HasBlock file names start (slice_set table i b) i e
          → (j : ℕ) (f : t.Entity) → slice_get file.entities j ≡ Some f → is_abstract f.kind ≡ true → IsReached own r (i + 1) j → (s : Bool) → nat_eq j i ≡ s → HasBlock file names start (slice_set table i b) j f
      by r i e table b h k seen j f g is q true s =
          let here : j ≡ i = eqb-true j i s in
          let one : e ≡ f = same_Some e f (sym h ∙ ap (slice_get file.entities) (sym here) ∙ g) in
          subst (λ z. HasBlock file names start (slice_set table i b) z f) (sym here) (subst (λ z. HasBlock file names start (slice_set table i b) i z) one seen)
      by r i e table b h k seen j f g is q false s =
          let other : j ≢ i = search (arith, s) in
          let o = k.known j f g is (one_place own r i j q (λ here m. absurd (other here)) (λ z. z)) in
          (o.0, get_set_other table i b j other ∙ o.1, o.2)

  -- ---- all places of one rank

  round : (r i n : ℕ) (es : List t.Entity) (table : List Block) → i + length es ≡ n → ((k : ℕ) → slice_get file.entities (i + k) ≡ slice_get es k) → Known r i table → Known r n (filled start file.entities listings (of_rank own r i es) table)
  round r i n [] table e at k = subst (λ z. Known r z table) (let z : i ≡ n = omega (arith, e) in z) k
  round r i n (x ∷ es) table e at k =
      by (λ t q. round r (i + 1) n es t (omega (arith, e)) (λ j. ap (slice_get file.entities) (let z : i + 1 + j ≡ i + suc j = omega arith in z) ∙ at (suc j)) q) (is_of_rank own r i x) refl
    where
      here : slice_get file.entities i ≡ Some x
      here = ap (slice_get file.entities) (let z : i ≡ i + 0 = omega arith in z) ∙ at 0

      by : ((t : List Block) → Known r (i + 1) t → Known r n (filled start file.entities listings (of_rank own r (i + 1) es) t)) → (b : Bool) → is_of_rank own r i x ≡ b
          → Known r n (filled start file.entities listings (if b then i ∷ of_rank own r (i + 1) es else of_rank own r (i + 1) es) table)
      by rest true s = rest (filled_at start file.entities listings table i) (known_new r i x table here s k)
      by rest false s = rest table (known_kept r i x table here s k)

  -- ---- all ranks

  next_rank : (r : ℕ) (table : List Block) → Known r (length file.entities) table → Known (r + 1) 0 table
  next_rank r table k = record { count = k.count; known = λ j e h is q. k.known j e h is (by j e h q) }
    where
      by : (j : ℕ) (e : t.Entity) → slice_get file.entities j ≡ Some e → IsReached own (r + 1) 0 j → IsReached own r (length file.entities) j
      by j e h (inr p) = no_less _ p.1
      by j e h (inl l) = equal (nat_eq (rank own j) r) refl
        where
          equal : (b : Bool) → nat_eq (rank own j) r ≡ b → IsReached own r (length file.entities) j
          equal true s = inr (eqb-true (rank own j) r s, get_below file.entities j e h)
          equal false s = let o : rank own j ≢ r = search (arith, s) in inl (omega (arith, l, o))

  rounds : (k r n : ℕ) (table : List Block) → r + k ≡ n → Known r 0 table → Known n 0 (filled start file.entities listings (of_ranks own file.entities r k) table)
  rounds zero r n table e q = subst (λ z. Known z 0 table) (let z : r ≡ n = omega (arith, e) in z) q
  rounds (suc k) r n table e q =
      let first : List ℕ = of_rank own r 0 file.entities in
      let after_ : Known (r + 1) 0 (filled start file.entities listings first table) = next_rank r _ (round r 0 (length file.entities) file.entities table (let z : 0 + length file.entities ≡ length file.entities = omega arith in z) (λ j. ap (slice_get file.entities) (let z : 0 + j ≡ j = omega arith in z)) q) in
      subst (Known n 0) (sym (filled_parts start file.entities listings first (of_ranks own file.entities (r + 1) k) table)) (rounds k (r + 1) n (filled start file.entities listings first table) (omega (arith, e)) after_)

  -- The table filled in this order has the blocks of all traits and interfaces.
  pub all_filled : (j : ℕ) (e : t.Entity) → slice_get file.entities j ≡ Some e → is_abstract e.kind ≡ true → HasBlock file names start (filled start file.entities listings (ordered own file.entities) (replicate (length file.entities) nothing)) j e
  all_filled j e h is =
      (rounds (length file.entities) 0 (length file.entities) (replicate (length file.entities) nothing) (let z : 0 + length file.entities ≡ length file.entities = omega arith in z) known_none).known j e h is
      (inl (let l = rank_few file c.0 founded c.1 j e h is in let a = same_rank own c.0 c.2 j in omega (arith, l, a)))

  -- So it has those of what an entity names.
  pub all_named_filled : (j : ℕ) (e : t.Entity) → slice_get file.entities j ≡ Some e → AllBlocks file names start (filled start file.entities listings (ordered own file.entities) (replicate (length file.entities) nothing)) e.provides
  all_named_filled j e h n hn = let q = target file c.0 founded c.1 e n (j, h) hn in (q, all_filled q.place q.entity q.is_entity q.trait)

-- One more rank.
pub rank_turn : (own : List (List ℕ)) (es : List t.Entity) (whole old new : List ℕ) (r n : ℕ) → r < n → whole ≡ old ++ of_ranks own es r (n - r) → new ≡ old ++ of_rank own r 0 es → whole ≡ new ++ of_ranks own es (r + 1) (n - (r + 1))
rank_turn own es whole old new r n l w e =
    let m : n - r ≡ suc (n - (r + 1)) = omega (arith, l) in
    let rest : List ℕ = of_ranks own es (r + 1) (n - (r + 1)) in
    w ∙ ap (λ k. old ++ of_ranks own es r k) m ∙ sym (append_assoc old (of_rank own r 0 es) rest) ∙ ap (λ xs. xs ++ rest) (sym e)
