-- What the blocks of traits and interfaces say about a name in their methods.
use Rattle.std.proofs.{Common.{◌≡◌, ℕ, zero, suc, ◌+◌, ◌-◌, ◌<◌, List, [], ◌∷◌, ◌++◌, length, Some, Bool, true, false, ◌&&◌, ◌||◌, refl, sym, ap, ◌∙◌, arith, if◌then◌else◌}, lemmas.List.Folds.list_any-append}
use Rattle.std.specs.{Prelude.{slice_get, option_to_list}, Str.bytes_eq}
use Rattle.pc_masks.specs.{declared.mask.Mask.Mask, Masks.{has, join}}
use Rattle.pc_base.specs.Lists.{Has, Differ, Text}
use Rattle.pc_base.proofs.Elements.{has_on}
use Rattle.pc_tree.specs.{declared.kinds.EntityKind.EntityKind, declared.written_names.Name.Name, Kinds.{is_abstract, first_own}}
use Rattle.pc_tree.specs.Tree as t
use Rattle.pc_members.specs.{Members.{method_texts, entity_names, IsTransitiveClosure, is_takable}, Founded.IsFounded, Edges.entity_numbers, MemberLists.{of_each, trait_methods, abstract_methods}, Parts.of_entity}
use Rattle.pc_members.proofs.Ranks.{Target, steady, rank_few}
use Rattle.pc_member_counts.specs.{declared.block.Block.Block, Blocks.{nothing, single, followed, takable}, Numbers.{number_in, numbers_in, listing}, Windows.{is_within, with_own, own_block, or_nothing, block_at, with_named, trait_block}, Fresh.taken_from, Totals.takes}
use Rattle.pc_member_counts.proofs.{Truths.{or_false, or_assoc}, Sights.{unseen, of_method, glance, sight, after, after_unseen, unseen_after, after_assoc, glance_after, sight_parts, sight_firsts, of_kind, takes_sight, takes_nothing}, Seen.{seen_at, seen_followed, seen_nothing, seen_single, has_takable, has_join}, Places.{same_number, within_is, within_place, not_within}}

-- The block describes, for each name from the start on, these methods.
abbrev pub IsSeen : List Text → ℕ → Block → List t.Method → Type 0
IsSeen names start b ms = (i : ℕ) (x : Text) → i < 64 → slice_get names (start + i) ≡ Some x → seen_at b i ≡ sight x ms

-- ---- own methods

module _ (names : List Text) (d : Differ names) (start i : ℕ) (l : i < 64) (x : Text) (h : slice_get names (start + i) ≡ Some x) where
  own_one : (b : Block) (m : t.Method) → seen_at (with_own start b (number_in names m.name.text) m) i ≡ after (seen_at b i) (glance x m)
  own_one b m = by (is_within start (number_in names m.name.text)) refl
    where
      by : (c : Bool) → is_within start (number_in names m.name.text) ≡ c
          → seen_at (if c then followed b (single (number_in names m.name.text - start) m) else b) i ≡ after (seen_at b i) (glance x m)
      by true e =
          seen_followed b (single (number_in names m.name.text - start) m) i
          ∙ ap (after (seen_at b i)) (seen_single (number_in names m.name.text - start) i m (within_is start (number_in names m.name.text) e).1 l
          ∙ ap (λ c. if c then of_method m else unseen) (within_place start (number_in names m.name.text) i e ∙ same_number names (start + i) x m.name.text d h))
      by false e =
          sym (ap (λ c. after (seen_at b i) (if c then of_method m else unseen)) (sym (same_number names (start + i) x m.name.text d h) ∙ not_within start (number_in names m.name.text) i l e) ∙ after_unseen (seen_at b i))

  own_seen : (b : Block) (ms : List t.Method) → seen_at (own_block start b (numbers_in names (method_texts ms)) ms) i ≡ after (seen_at b i) (sight x ms)
  own_seen b [] = sym (after_unseen (seen_at b i))
  own_seen b (m ∷ ms) =
      own_seen (with_own start b (number_in names m.name.text) m) ms ∙ ap (λ s. after s (sight x ms)) (own_one b m)
      ∙ after_assoc (seen_at b i) (glance x m) (sight x ms) ∙ ap (after (seen_at b i)) (glance_after x m ms)

-- ---- those of the entities it names

module _ (file : t.File) (names : List Text) (start : ℕ) where
  -- The table has the block of this entity.
  abbrev pub HasBlock : List Block → ℕ → t.Entity → Type 0
  HasBlock table j e = (b : Block) × (slice_get table j ≡ Some b) × IsSeen names start b (abstract_methods file.entities e)

  abbrev pub AllBlocks : List Block → List Name → Type 0
  AllBlocks table ns = (n : Name) → Has ns n → (q : Target file n) × HasBlock table q.place q.entity

  abbrev methods_of : List Name → List t.Method
  methods_of ns = of_each (abstract_methods file.entities) file.entities ns

  -- The number of an entity it names, and the block at that number.
  first_number : {T : Type 0} (f : List ℕ → T) (n : Name) (ns : List Name) (q : Target file n) → f (entity_numbers (entity_names file) (n ∷ ns)) ≡ f ((first_own + q.place) ∷ entity_numbers (entity_names file) ns)
  first_number f n ns q = ap (λ o. f (option_to_list o ++ entity_numbers (entity_names file) ns)) q.number

  named_block : (table : List Block) (n : Name) (q : Target file n) (b : Block) → slice_get table q.place ≡ Some b → block_at table (first_own + q.place) ≡ b
  named_block table n q b h = let back : first_own + q.place - first_own ≡ q.place = omega arith in ap (λ j. or_nothing (slice_get table j)) back ∙ ap or_nothing h

  first_methods : (n : Name) (ns : List Name) (q : Target file n) → methods_of (n ∷ ns) ≡ abstract_methods file.entities q.entity ++ methods_of ns
  first_methods n ns q = ap (λ o. of_entity (abstract_methods file.entities) o ++ methods_of ns) q.named

  module _ (i : ℕ) (l : i < 64) (x : Text) (h : slice_get names (start + i) ≡ Some x) where
    pub named_seen : (table : List Block) (b : Block) (ns : List Name) → AllBlocks table ns → seen_at (with_named table b (entity_numbers (entity_names file) ns)) i ≡ after (seen_at b i) (sight x (methods_of ns))
    named_seen table b [] all = sym (after_unseen (seen_at b i))
    named_seen table b (n ∷ ns) all =
        let p = all n (0, refl) in
        let q = p.0 in
        let c : Block = block_at table (first_own + q.place) in
        let is : seen_at c i ≡ sight x (abstract_methods file.entities q.entity) = ap (λ z. seen_at z i) (named_block table n q p.1.0 p.1.1) ∙ p.1.2 i x l h in
        first_number (λ as_. seen_at (with_named table b as_) i) n ns q
        ∙ named_seen table (followed b c) ns (λ m k. all m (has_on n ns m k))
        ∙ ap (λ s. after s (sight x (methods_of ns))) (seen_followed b c i ∙ ap (after (seen_at b i)) is)
        ∙ after_assoc (seen_at b i) (sight x (abstract_methods file.entities q.entity)) (sight x (methods_of ns))
        ∙ ap (after (seen_at b i)) (sym (ap (sight x) (first_methods n ns q) ∙ sight_parts x (abstract_methods file.entities q.entity) (methods_of ns)))

    -- ---- what is taken from them

    module _ (k : EntityKind) (concrete : is_abstract k ≡ false) where
      takes_bounded : (n : ℕ) (e : t.Entity) → takes k x (trait_methods n file.entities e) ≡ of_kind k (sight x (trait_methods n file.entities e))
      takes_bounded zero e = takes_nothing k concrete x
      takes_bounded (suc n) e = takes_sight k concrete x [] (e.methods ++ of_each (trait_methods n file.entities) file.entities e.provides)

      pub taken_seen : (table : List Block) (m : Mask) (ns : List Name) → AllBlocks table ns → has (taken_from k table m (entity_numbers (entity_names file) ns)) i ≡ (has m i || takes k x (methods_of ns))
      taken_seen table m [] all = sym (or_false (has m i))
      taken_seen table m (n ∷ ns) all =
          let p = all n (0, refl) in
          let q = p.0 in
          let c : Block = block_at table (first_own + q.place) in
          let is : seen_at c i ≡ sight x (abstract_methods file.entities q.entity) = ap (λ z. seen_at z i) (named_block table n q p.1.0 p.1.1) ∙ p.1.2 i x l h in
          let one : has (takable k c) i ≡ takes k x (abstract_methods file.entities q.entity) = has_takable k c i ∙ ap (of_kind k) is ∙ sym (takes_bounded (length file.entities) q.entity) in
          first_number (λ as_. has (taken_from k table m as_) i) n ns q
          ∙ taken_seen table (join m (takable k c)) ns (λ j g. all j (has_on n ns j g))
          ∙ ap (λ b. b || takes k x (methods_of ns)) (has_join m (takable k c) i ∙ ap (λ b. has m i || b) one)
          ∙ or_assoc (has m i) (takes k x (abstract_methods file.entities q.entity)) (takes k x (methods_of ns))
          ∙ ap (λ b. has m i || b) (sym (ap (takes k x) (first_methods n ns q) ∙ list_any-append (λ (z : t.Method). bytes_eq x z.name.text && is_takable k z) (abstract_methods file.entities q.entity) (methods_of ns)))

-- ---- a trait or an interface

module _ (file : t.File) (above : List (List ℕ)) (founded : IsFounded file) (closed : IsTransitiveClosure file above) where
  -- Its methods are its own and those of what it names, the first with each name.
  pub sight_abstract : (x : Text) (j : ℕ) (e : t.Entity) → slice_get file.entities j ≡ Some e → is_abstract e.kind ≡ true
      → sight x (abstract_methods file.entities e) ≡ sight x (e.methods ++ of_each (abstract_methods file.entities) file.entities e.provides)
  sight_abstract x j e h is =
      ap (sight x) (steady file above founded closed (length file.entities) j e h (rank_few file above founded closed j e h is))
      ∙ sight_firsts x [] (e.methods ++ of_each (abstract_methods file.entities) file.entities e.provides)

  pub trait_seen : (names : List Text) → Differ names → (start : ℕ) (table : List Block) (j : ℕ) (e : t.Entity) → slice_get file.entities j ≡ Some e → is_abstract e.kind ≡ true → AllBlocks file names start table e.provides
      → IsSeen names start (trait_block start table e (listing (entity_names file) names e)) (abstract_methods file.entities e)
  trait_seen names d start table j e h is all i x l g =
      let own : Block = own_block start nothing (numbers_in names (method_texts e.methods)) e.methods in
      let more : List t.Method = of_each (abstract_methods file.entities) file.entities e.provides in
      named_seen file names start i l x g table own e.provides all
      ∙ ap (λ s. after s (sight x more)) (own_seen names d start i l x g nothing e.methods ∙ ap (λ s. after s (sight x e.methods)) (seen_nothing i l) ∙ unseen_after (sight x e.methods))
      ∙ sym (sight_parts x e.methods more)
      ∙ sym (sight_abstract x j e h is)
