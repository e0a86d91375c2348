-- The counts of 64 consecutive names: how many of them each entity gets.
use Rattle.std.proofs.{Common.{◌≡◌, ℕ, suc, ◌+◌, ◌-◌, ◌<◌, ◌≤◌, min, List, [], ◌∷◌, ◌++◌, length, take, drop, map, Some, Bool, true, false, cond, ◌&&◌, ◌||◌, not, nat_eq, count_by, count_ones, refl, sym, ap, ◌∙◌, arith, if◌then◌else◌}, lemmas.Bool.lt-ltb, lemmas.List.{length-take, length-drop}, lemmas.List.Sums.sum_by-append, lemmas.List.Folds.list_any-append, Math.Seq.take-add}
use Rattle.std.specs.{Prelude.{slice_get, replicate}, List.list_any}
use Rattle.pc_masks.specs.{declared.mask.Mask.Mask, Masks.{has, empty, first, meet}}
use Rattle.pc_base.specs.Lists.{Differ, Text}
use Rattle.pc_base.proofs.Gets.{get_below, get_take, get_drop}
use Rattle.pc_tree.specs.Kinds.{is_abstract}
use Rattle.pc_tree.specs.Tree as t
use Rattle.pc_members.specs.{MemberLists.{is_among, of_each, abstract_methods}, Members.{field_texts, method_texts, entity_names, has_added, own_texts}, Parts.added_text, Founded.IsFounded, Rounds.ClosesOwn}
use Rattle.pc_members.proofs.Completed.{among_parts}
use Rattle.pc_member_counts.specs.{declared.block.Block.Block, declared.listing.Listing.Listing, Blocks.nothing, Numbers.{numbers_in, listing}, Orders.ordered, Windows.{or_nothing, own_place, filled}, Fresh.{without_all, taken_from, count_present, count_taken, count_fresh, with_fresh}, Totals.{takes, gets, got}}
use Rattle.pc_member_counts.proofs.{Truths.{and_true, and_false, own_bits}, Sights.absent_is, Seen.{has_meet, has_empty, has_first, has_no_first}, Places.{have_number, without_has, without_out}, Blocks.{IsSeen, AllBlocks, taken_seen}, Fills.{all_filled, all_named_filled}, Picks.count_others, Ones.count_places}

-- The names from the start on, at most 64 of them.
abbrev pub window : List Text → ℕ → List Text
window names start = take 64 (drop start names)

abbrev pub width : List Text → ℕ → ℕ
width names start = min (length names - start) 64

window_length : (names : List Text) (start : ℕ) → length (window names start) ≡ width names start
window_length names start = let a = length-take 64 (drop start names) in let b = length-drop start names in omega (arith, a, b)

window_get : (names : List Text) (start i : ℕ) (x : Text) → slice_get (window names start) i ≡ Some x → (i < 64) × (slice_get names (start + i) ≡ Some x)
window_get names start i x h = let g = get_take (drop start names) 64 i x h in (g.0, sym (get_drop names start i) ∙ g.1)

module _ (names : List Text) (start : ℕ) where
  first_there : (i : ℕ) (x : Text) → slice_get (window names start) i ≡ Some x → has (first (width names start)) i ≡ true
  first_there i x h =
      let l = get_below (window names start) i x h in
      let w = window_length names start in
      has_first (width names start) i (window_get names start i x h).0 ∙ lt-ltb i (width names start) (omega (arith, l, w))

  first_past : (i : ℕ) → length (window names start) ≤ i → has (first (width names start)) i ≡ false
  first_past i l = let w = window_length names start in has_no_first (width names start) i (omega (arith, l, w))

  -- ---- a trait or an interface

  present_count : (b : Block) (ms : List t.Method) → IsSeen names start b ms → count_present b (width names start) ≡ count_by (λ x. is_among x (method_texts ms)) (window names start)
  present_count b ms seen =
      let p : Text → Bool = λ x. is_among x (method_texts ms) in
      let ones : count_ones (meet b.absent (first (width names start))).0 ≡ count_by (λ x. not (p x)) (window names start) =
      count_places (meet b.absent (first (width names start))) (λ x. not (p x)) (window names start)
      (λ i x h.
      let g = window_get names start i x h in
      has_meet b.absent (first (width names start)) i ∙ ap (λ c. has b.absent i && c) (first_there i x h) ∙ and_true (has b.absent i) ∙ ap (λ s. s.absent) (seen i x g.0 g.1) ∙ absent_is x ms)
      (λ i l. has_meet b.absent (first (width names start)) i ∙ ap (λ c. has b.absent i && c) (first_past i l) ∙ and_false (has b.absent i)) in
      let all = count_others p (window names start) in
      let w = window_length names start in
      omega (arith, ones, all, w)

  -- ---- a class, an actor or a primitive

  module _ (d : Differ names) where
    numbers_there : (e : t.Entity) (i : ℕ) (x : Text) → slice_get names (start + i) ≡ Some x
        → list_any (nat_eq (start + i)) (numbers_in names (field_texts e.fields) ++ numbers_in names (added_text (has_added e))) ≡ (is_among x (field_texts e.fields) || is_among x (added_text (has_added e)))
    numbers_there e i x h =
        list_any-append (nat_eq (start + i)) (numbers_in names (field_texts e.fields)) (numbers_in names (added_text (has_added e)))
        ∙ ap (λ b. b || list_any (nat_eq (start + i)) (numbers_in names (added_text (has_added e)))) (have_number names (start + i) x (field_texts e.fields) d h)
        ∙ ap (λ b. is_among x (field_texts e.fields) || b) (have_number names (start + i) x (added_text (has_added e)) d h)

    own_there : (e : t.Entity) (x : Text) → is_among x (own_texts e) ≡ (is_among x (field_texts e.fields) || (is_among x (method_texts e.methods) || is_among x (added_text (has_added e))))
    own_there e x =
        among_parts x (field_texts e.fields) (method_texts e.methods ++ added_text (has_added e))
        ∙ ap (λ b. is_among x (field_texts e.fields) || b) (among_parts x (method_texts e.methods) (added_text (has_added e)))

    taken_count : (file : t.File) (table : List Block) (e : t.Entity) → is_abstract e.kind ≡ false → AllBlocks file names start table e.provides
        → count_taken start (width names start) table e.kind (listing (entity_names file) names e)
        ≡ count_by (λ x. takes e.kind x (of_each (abstract_methods file.entities) file.entities e.provides) && not (is_among x (own_texts e))) (window names start)
    taken_count file table e concrete all =
        count_places (meet free taken) (λ x. takes e.kind x more && not (is_among x (own_texts e))) (window names start)
        (λ i x h.
        let g = window_get names start i x h in
        let m : has without i ≡ (true && not (is_among x (method_texts e.methods))) =
        without_has start (first (width names start)) l.methods i g.0 ∙ ap (λ b. b && not (list_any (nat_eq (start + i)) l.methods)) (first_there i x h) ∙ ap (λ b. true && not b) (have_number names (start + i) x (method_texts e.methods) d g.1) in
        let f : has free i ≡ ((true && not (is_among x (method_texts e.methods))) && not (is_among x (field_texts e.fields) || is_among x (added_text (has_added e)))) =
        without_has start without l.others i g.0 ∙ ap (λ b. b && not (list_any (nat_eq (start + i)) l.others)) m ∙ ap (λ b. (true && not (is_among x (method_texts e.methods))) && not b) (numbers_there e i x g.1) in
        let t : has taken i ≡ (false || takes e.kind x more) = taken_seen file names start i g.0 x g.1 e.kind concrete table empty e.provides all ∙ ap (λ b. b || takes e.kind x more) (has_empty i) in
        has_meet free taken i ∙ ap (λ b. b && has taken i) f ∙ ap (λ b. ((true && not (is_among x (method_texts e.methods))) && not (is_among x (field_texts e.fields) || is_among x (added_text (has_added e)))) && b) t
        ∙ own_bits (is_among x (method_texts e.methods)) (is_among x (field_texts e.fields)) (is_among x (added_text (has_added e))) (takes e.kind x more)
        ∙ ap (λ b. takes e.kind x more && not b) (sym (own_there e x)))
        (λ i n. has_meet free taken i ∙ ap (λ b. b && has taken i) (past i n))
      where
        l : Listing
        l = listing (entity_names file) names e

        more : List t.Method
        more = of_each (abstract_methods file.entities) file.entities e.provides

        without : Mask
        without = without_all start (first (width names start)) l.methods

        free : Mask
        free = without_all start without l.others

        taken : Mask
        taken = taken_from e.kind table empty l.targets

        past : (i : ℕ) → length (window names start) ≤ i → has free i ≡ false
        past i n = without_out start without l.others i (without_out start (first (width names start)) l.methods i (first_past i n))

-- ---- each entity

module _ (file : t.File) (own : List (List ℕ)) (c : ClosesOwn file own) (founded : IsFounded file) (names : List Text) (d : Differ names) (start : ℕ) where
  abbrev listings : List Listing
  listings = map (listing (entity_names file) names) file.entities

  abbrev table : List Block
  table = filled start file.entities listings (ordered own file.entities) (replicate (length file.entities) nothing)

  fresh_is : (j : ℕ) (e : t.Entity) → slice_get file.entities j ≡ Some e → count_fresh start (width names start) table j e (listing (entity_names file) names e) ≡ got file.entities (window names start) e
  fresh_is j e h = by (is_abstract e.kind) refl
    where
      by : (b : Bool) → is_abstract e.kind ≡ b
          → (if b then count_present (own_place table j) (width names start) else count_taken start (width names start) table e.kind (listing (entity_names file) names e))
          ≡ count_by (λ x. if b then is_among x (method_texts (abstract_methods file.entities e)) else (takes e.kind x (of_each (abstract_methods file.entities) file.entities e.provides) && not (is_among x (own_texts e)))) (window names start)
      by true s = let b = all_filled file own c founded names d start j e h s in ap (λ o. count_present (or_nothing o) (width names start)) b.1 ∙ present_count names start b.0 (abstract_methods file.entities e) b.2
      by false s = taken_count names start d file table e s (all_named_filled file own c founded names d start j e h)

  -- 64 more names.
  got_more : (e : t.Entity) → got file.entities (take start names) e + got file.entities (window names start) e ≡ got file.entities (take (start + 64) names) e
  got_more e = sym (ap (count_by (gets file.entities e)) (take-add start 64 names) ∙ sum_by-append (λ x. cond (gets file.entities e x) 1 0) (take start names) (window names start))

  with_all_fresh : (i : ℕ) (es : List t.Entity) → ((k : ℕ) → slice_get file.entities (i + k) ≡ slice_get es k)
      → with_fresh start (width names start) table i es (map (listing (entity_names file) names) es) (map (got file.entities (take start names)) es) ≡ map (got file.entities (take (start + 64) names)) es
  with_all_fresh i [] at = refl
  with_all_fresh i (e ∷ es) at =
      let here : slice_get file.entities i ≡ Some e = ap (slice_get file.entities) (let z : i ≡ i + 0 = omega arith in z) ∙ at 0 in
      let one = ap (λ n. got file.entities (take start names) e + n) (fresh_is i e here) ∙ got_more e in
      ap (λ n. n ∷ with_fresh start (width names start) table (i + 1) es (map (listing (entity_names file) names) es) (map (got file.entities (take start names)) es)) one
      ∙ ap (λ ns. got file.entities (take (start + 64) names) e ∷ ns) (with_all_fresh (i + 1) es (λ k. ap (slice_get file.entities) (let z : i + 1 + k ≡ i + suc k = omega arith in z) ∙ at (suc k)))

  pub window_counted : with_fresh start (width names start) table 0 file.entities listings (map (got file.entities (take start names)) file.entities) ≡ map (got file.entities (take (start + 64) names)) file.entities
  window_counted = with_all_fresh 0 file.entities (λ k. ap (slice_get file.entities) (let z : 0 + k ≡ k = omega arith in z))
