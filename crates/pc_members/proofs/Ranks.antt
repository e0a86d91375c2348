-- A trait has fewer entities above it than one that names it. So traits in the order of the number of entities above
-- them come after those that they name.
use Rattle.std.proofs.{Common.{◌≡◌, ℕ, zero, suc, ◌+◌, ◌-◌, ◌<◌, ◌≤◌, List, [], ◌∷◌, ◌++◌, length, map, Option, Some, None, Bool, true, false, cond, refl, sym, ap, ◌∙◌, subst, arith, if◌then◌else◌}, lemmas.Option.{same_Some, none-some, slice_get-get_or}, lemmas.List.map-append, lemmas.List.Quantifiers.position-Some, lemmas.Iterator.Adapters.position_from-zero}
use Rattle.std.specs.{Prelude.{slice_get, replicate, position}, List.position_from, Str.bytes_eq}
use Rattle.indexmap.proofs.IndexTableLemmas.Probe.{pigeonhole}
use Rattle.pc_base.proofs.{Gets.{get_below, get_within, get_append, get_map, map_get}, Bools.true_false, Elements.has_on}
use Rattle.pc_tree.specs.{declared.written_names.Name.Name, Kinds.{is_abstract, first_own}}
use Rattle.pc_tree.specs.Tree as t
use Rattle.pc_base.specs.Lists.{Has, Differ, Ascends, Text}
use Rattle.pc_members.specs.{MemberLists.{is_among, firsts, entity_named, of_each, trait_methods, abstract_methods}, Parts.{find_name, or_no_members, of_entity, or_nil}, Members.{built_in_names, texts_of, entity_names, entity_at, ProvidesInFile, LeadsInFile, one, more, IsAbove, IsTransitiveClosure, Member, written}, Founded.IsFounded, Rounds.{first_members, named_all, table_members, gathered, methods_written}}
use Rattle.pc_members.proofs.{Differences.{same_text, equal_texts}, Closings.{nobody, no_entity}, Named.{named_is, one_entity, is_trait_named}}

-- ---- lists without equal elements

module _ (xs ys : List ℕ) (d : Differ xs) (s : (b : ℕ) → Has xs b → Has ys b) where
  abbrev found_at : (i : ℕ) (o : Option ℕ) → slice_get xs i ≡ o → ℕ
  found_at i None e = 0
  found_at i (Some b) e = (s b (i, e)).0

  there : (i b : ℕ) (o : Option ℕ) (e : slice_get xs i ≡ o) → o ≡ Some b → slice_get ys (found_at i o e) ≡ Some b
  there i b None e h = absurd (none-some b h)
  there i b (Some c) e h = (s c (i, e)).1 ∙ h

  abbrev place : ℕ → ℕ
  place i = found_at i (slice_get xs i) refl

  -- One list is no longer than another that has all of its elements.
  no_longer : length xs ≤ length ys
  no_longer = pigeonhole (length xs) (length ys) place
      (λ i l. let g = get_within xs i l in get_below ys (place i) g.0 (there i g.0 (slice_get xs i) refl g.1))
      (λ i j k l e.
      let g = get_within xs i k in
      let h = get_within xs j l in
      let same : g.0 ≡ h.0 = same_Some _ _ (sym (there i g.0 (slice_get xs i) refl g.1) ∙ ap (slice_get ys) e ∙ there j h.0 (slice_get xs j) refl h.1) in
      d i j g.0 g.1 (h.1 ∙ ap (λ x. Some x) (sym same)))

apart : (i j : ℕ) → (i < j → ⊥) → (j < i → ⊥) → i ≡ j
apart zero zero f g = refl
apart zero (suc j) f g = absurd (f (omega arith))
apart (suc i) zero f g = absurd (g (omega arith))
apart (suc i) (suc j) f g = ap suc (apart i j (λ l. f (omega (arith, l))) (λ l. g (omega (arith, l))))

ascends_differ : (xs : List ℕ) → Ascends xs → Differ xs
ascends_differ xs a i j x hi hj = apart i j (λ l. let k = a i j x x l hi hj in omega (arith, k)) (λ l. let k = a j i x x l hj hi in omega (arith, k))

with_one : (x : ℕ) (xs : List ℕ) → Differ xs → (Has xs x → ⊥) → Differ (x ∷ xs)
with_one x xs d n zero zero y hi hj = refl
with_one x xs d n zero (suc j) y hi hj = absurd (n (j, hj ∙ sym hi))
with_one x xs d n (suc i) zero y hi hj = absurd (n (i, hi ∙ sym hj))
with_one x xs d n (suc i) (suc j) y hi hj = ap suc (d i j y hi hj)

first_or : {P : ℕ → Type 0} → (x : ℕ) (xs : List ℕ) → P x → ((b : ℕ) → Has xs b → P b) → (b : ℕ) → Has (x ∷ xs) b → P b
first_or {P} x xs p f b (zero, h) = subst P (same_Some x b h) p
first_or x xs p f b (suc i, h) = f b (i, h)

abbrev numbers : ℕ → ℕ → List ℕ
numbers at zero = []
numbers at (suc k) = at ∷ numbers (suc at) k

count_numbers : (at k : ℕ) → length (numbers at k) ≡ k
count_numbers at zero = refl
count_numbers at (suc k) = let e = count_numbers (suc at) k in omega (arith, e)

number_there : (at k j : ℕ) → j < k → Has (numbers at k) (at + j)
number_there at zero j l = absurd (omega (arith, l))
number_there at (suc k) zero l = (0, ap (λ x. Some x) (let e : at ≡ at + zero = omega arith in e))
number_there at (suc k) (suc j) l =
    let r = number_there (suc at) k j (omega (arith, l)) in
    (suc r.0, r.1 ∙ ap (λ x. Some x) (let e : suc at + j ≡ at + suc j = omega arith in e))

-- How many entities are above the one at this place of a file.
abbrev pub rank_at : List (List ℕ) → ℕ → ℕ
rank_at above i = length (or_nil (slice_get above (first_own + i)))

-- ---- names and their places

found_from : (x : Text) (xs : List Text) (at k : ℕ) → slice_get xs k ≡ Some x → (i : ℕ) × (position_from (bytes_eq x) at xs ≡ Some i)
found_from x [] at k h = absurd (none-some x h)
found_from x (y ∷ xs) at k h = by (bytes_eq x y) refl (λ j g. found_from x xs (at + 1) j g) k h
  where
    by : (b : Bool) → bytes_eq x y ≡ b → ((j : ℕ) → slice_get xs j ≡ Some x → (i : ℕ) × (position_from (bytes_eq x) (at + 1) xs ≡ Some i)) → (k : ℕ) → slice_get (y ∷ xs) k ≡ Some x → (i : ℕ) × (cond b (Some at) (position_from (bytes_eq x) (at + 1) xs) ≡ Some i)
    by true e rest k g = (at, refl)
    by false e rest zero g = absurd (true_false (sym (ap (bytes_eq x) (same_Some _ _ g) ∙ same_text x) ∙ e))
    by false e rest (suc k) g = rest k g

-- In a list of different names, a name's number is its place.
pub name_place : (x : Text) (xs : List Text) (k : ℕ) → Differ xs → slice_get xs k ≡ Some x → find_name xs x ≡ Some k
name_place x xs k d h =
    let f = found_from x xs 0 k h in
    let p : position (bytes_eq x) xs ≡ Some f.0 = position_from-zero (bytes_eq x) xs ∙ f.1 in
    let q = position-Some (bytes_eq x) xs f.0 [] p in
    let same : slice_get xs f.0 ≡ Some x = slice_get-get_or xs f.0 [] q.0 ∙ ap (λ y. Some y) (sym (equal_texts x _ q.1)) in
    p ∙ ap (λ i. Some i) (d f.0 k x same h)

named_there : (es : List t.Entity) (name : Text) (j : ℕ) (f : t.Entity) → slice_get es j ≡ Some f → f.name.text ≡ name → (g : t.Entity) × (entity_named es name ≡ Some g)
named_there [] name j f h e = absurd (none-some f h)
named_there (x ∷ es) name j f h e = by (bytes_eq x.name.text name) refl (λ k g. named_there es name k f g e) j h
  where
    by : (b : Bool) → bytes_eq x.name.text name ≡ b → ((k : ℕ) → slice_get es k ≡ Some f → (g : t.Entity) × (entity_named es name ≡ Some g)) → (j : ℕ) → slice_get (x ∷ es) j ≡ Some f → (g : t.Entity) × ((if b then Some x else entity_named es name) ≡ Some g)
    by true d rest j g = (x, refl)
    by false d rest zero g = absurd (true_false (sym (ap (λ y. bytes_eq y name) (ap (λ (y : t.Entity). y.name.text) (same_Some _ _ g) ∙ e) ∙ same_text name) ∙ d))
    by false d rest (suc j) g = rest j g

number_at : (file : t.File) (i : ℕ) (e : t.Entity) → slice_get file.entities i ≡ Some e → entity_at file (first_own + i) e
number_at file i e h = get_append (replicate first_own nobody) (map (λ x. Some x) file.entities) i ∙ get_map (λ x. Some x) file.entities i e h

at_number : (file : t.File) (a : ℕ) (e : t.Entity) → entity_at file a e → Has file.entities e
at_number file zero e h = no_entity e h
at_number file (suc zero) e h = no_entity e h
at_number file (suc (suc zero)) e h = no_entity e h
at_number file (suc (suc (suc zero))) e h = no_entity e h
at_number file (suc (suc (suc (suc zero)))) e h = no_entity e h
at_number file (suc (suc (suc (suc (suc zero))))) e h = no_entity e h
at_number file (suc (suc (suc (suc (suc (suc a)))))) e h =
    let m = map_get (λ x. Some x) file.entities a (Some e) h in
    (a, m.1 ∙ ap (λ x. Some x) (same_Some _ _ m.2))

-- What an `is` list names: the trait at this place of the file.
pub record Target (file : t.File) (n : Name) : Type 0 where
  pub place : ℕ
  pub entity : t.Entity
  pub is_entity : slice_get file.entities place ≡ Some entity
  pub trait : is_abstract entity.kind ≡ true
  pub number : find_name (entity_names file) n.text ≡ Some (first_own + place)
  pub named : entity_named file.entities n.text ≡ Some entity

module _ (file : t.File) (above : List (List ℕ)) (founded : IsFounded file) (closed : IsTransitiveClosure file above) where
  pub target : (e : t.Entity) (n : Name) → Has file.entities e → Has e.provides n → Target file n
  target e n he hn =
      let r = is_trait_named file.entities n.text (founded.provides e n he hn) in
      let g = named_there file.entities n.text r.1.0 r.0 r.1.1 r.3 in
      let s = named_is file.entities n.text g.0 g.1 in
      let same : g.0 ≡ r.0 = one_entity file g.0 r.0 founded.names s.0 r.1 (s.1 ∙ sym r.3) in
      record {
        place = r.1.0;
        entity = r.0;
        is_entity = r.1.1;
        trait = r.2;
        number = name_place n.text (entity_names file) (first_own + r.1.0) founded.names (get_append built_in_names (texts_of file.entities) r.1.0 ∙ get_map (λ (y : t.Entity). y.name.text) file.entities r.1.0 r.0 r.1.1 ∙ ap (λ x. Some x) r.3);
        named = g.1 ∙ ap (λ x. Some x) same;
      }

  -- What a chain leads to is an entity of the file.
  led_place : {a b : ℕ} → LeadsInFile file a b → (j : ℕ) × (b ≡ first_own + j) × (j < length file.entities)
  led_place {a} {b} (one h) =
      let q = target h.0 h.2.0 (at_number file a h.0 h.1) h.2.1 in
      (q.place, sym (same_Some _ _ (sym q.number ∙ h.2.2)), get_below file.entities q.place q.entity q.is_entity)
  led_place (more h r) = led_place r

  -- The list above an entity.
  record Listed (i : ℕ) : Type 0 where
    list : List ℕ
    is_list : or_nil (slice_get above (first_own + i)) ≡ list
    is_above : IsAbove file (first_own + i) list

  listed : (i : ℕ) → i < length file.entities → Listed i
  listed i l =
      let n = closed.0 in
      let g = get_within above (first_own + i) (omega (arith, l, n)) in
      record { list = g.0; is_list = ap or_nil g.1; is_above = closed.1 (first_own + i) g.0 g.1 }

  with_itself : (i : ℕ) (e : t.Entity) (q : Listed i) → slice_get file.entities i ≡ Some e → is_abstract e.kind ≡ true → Differ ((first_own + i) ∷ q.list)
  with_itself i e q h is = with_one (first_own + i) q.list (ascends_differ q.list q.is_above.0) (λ b. founded.straight (first_own + i) (e, number_at file i e h, is, (q.is_above.1 (first_own + i)).0 b))

  pub rank_less : (i j : ℕ) (e f : t.Entity) → slice_get file.entities i ≡ Some e → slice_get file.entities j ≡ Some f → is_abstract f.kind ≡ true → ProvidesInFile file (first_own + i) (first_own + j) → rank_at above j < rank_at above i
  rank_less i j e f he hf is n =
      let p = listed i (get_below file.entities i e he) in
      let q = listed j (get_below file.entities j f hf) in
      let l = no_longer ((first_own + j) ∷ q.list) p.list (with_itself j f q hf is)
      (first_or {P = λ b. Has p.list b} (first_own + j) q.list ((p.is_above.1 (first_own + j)).1 (one n)) (λ b m. (p.is_above.1 b).1 (more n ((q.is_above.1 b).0 m)))) in
      let x = ap length p.is_list in
      let y = ap length q.is_list in
      omega (arith, l, x, y)

  pub rank_few : (i : ℕ) (e : t.Entity) → slice_get file.entities i ≡ Some e → is_abstract e.kind ≡ true → rank_at above i < length file.entities
  rank_few i e h is =
      let k = get_below file.entities i e h in
      let q = listed i k in
      let l = no_longer ((first_own + i) ∷ q.list) (numbers first_own (length file.entities)) (with_itself i e q h is)
      (first_or {P = λ b. Has (numbers first_own (length file.entities)) b} (first_own + i) q.list (number_there first_own (length file.entities) i k)
      (λ b m. let r = led_place ((q.is_above.1 b).0 m) in subst (λ x. Has (numbers first_own (length file.entities)) x) (sym r.1) (number_there first_own (length file.entities) r.0 r.2))) in
      let x = ap length q.is_list in
      let y = count_numbers first_own (length file.entities) in
      omega (arith, l, x, y)

  -- ---- the methods of a trait

  pub each_same : (f g : t.Entity → List t.Method) (ns : List Name) → ((n : Name) → Has ns n → of_entity f (entity_named file.entities n.text) ≡ of_entity g (entity_named file.entities n.text)) → of_each f file.entities ns ≡ of_each g file.entities ns
  each_same f g [] h = refl
  each_same f g (n ∷ ns) h = rw (h n (0, refl), each_same f g ns (λ m k. h m (has_on n ns m k))) refl

  pub named_by : (i : ℕ) (e : t.Entity) (n : Name) (q : Target file n) → slice_get file.entities i ≡ Some e → Has e.provides n → ProvidesInFile file (first_own + i) (first_own + q.place)
  named_by i e n q h hn = (e, number_at file i e h, (n, hn, q.number))

  -- For chains at least as long as the rank, nothing more is found.
  pub steady : (k i : ℕ) (e : t.Entity) → slice_get file.entities i ≡ Some e → rank_at above i < k → trait_methods k file.entities e ≡ trait_methods (suc k) file.entities e
  steady zero i e h l = absurd (omega (arith, l))
  steady (suc k) i e h l =
      ap (λ ms. firsts [] (e.methods ++ ms))
      (each_same (trait_methods k file.entities) (trait_methods (suc k) file.entities) e.provides
      (λ n hn.
      let q = target e n (i, h) hn in
      let less = rank_less i q.place e q.entity h q.is_entity q.trait (named_by i e n q h hn) in
      ap (of_entity (trait_methods k file.entities)) q.named ∙ steady k q.place q.entity q.is_entity (omega (arith, l, less)) ∙ ap (of_entity (trait_methods (suc k) file.entities)) (sym q.named)))

  first_written : (known : List Text) (ms : List t.Method) → first_members known (map written ms) ≡ map written (firsts known ms)
  first_written known [] = refl
  first_written known (m ∷ ms) = by (λ k. first_written k ms) (is_among m.name.text known)
    where
      by : ((k : List Text) → first_members k (map written ms) ≡ map written (firsts k ms)) → (b : Bool) → (if b then first_members known (map written ms) else written m ∷ first_members (known ++ m.name.text ∷ []) (map written ms)) ≡ map written (if b then firsts known ms else m ∷ firsts (known ++ m.name.text ∷ []) ms)
      by rest true = rest known
      by rest false = ap (λ xs. written m ∷ xs) (rest (known ++ m.name.text ∷ []))

  -- The table has the methods of this entity.
  abbrev pub IsKnown : List (List Member) → ℕ → t.Entity → Type 0
  IsKnown table i e = slice_get table i ≡ Some (methods_written file e)

  abbrev pub AllKnown : List (List Member) → List Name → Type 0
  AllKnown table ns = (n : Name) → Has ns n → (q : Target file n) × IsKnown table q.place q.entity

  pub named_written : (table : List (List Member)) (ns : List Name) → AllKnown table ns → named_all (entity_names file) table ns ≡ map written (of_each (abstract_methods file.entities) file.entities ns)
  named_written table [] h = refl
  named_written table (n ∷ ns) h =
      let r = h n (0, refl) in
      let q = r.0 in
      let back : first_own + q.place - first_own ≡ q.place = omega arith in
      let here : table_members table (find_name (entity_names file) n.text) ≡ map written (of_entity (abstract_methods file.entities) (entity_named file.entities n.text)) =
      ap (table_members table) q.number ∙ ap (λ i. or_no_members (slice_get table i)) back ∙ ap or_no_members r.1 ∙ ap (λ o. map written (of_entity (abstract_methods file.entities) o)) (sym q.named) in
      rw (here, named_written table ns (λ m k. h m (has_on n ns m k))) (sym (map-append written (of_entity (abstract_methods file.entities) (entity_named file.entities n.text)) (of_each (abstract_methods file.entities) file.entities ns)))

  -- The methods of a trait, from a table with those of the traits with fewer entities above them.
  pub gathers : (table : List (List Member)) (i : ℕ) (e : t.Entity) → slice_get file.entities i ≡ Some e → is_abstract e.kind ≡ true → ((j : ℕ) (d : t.Entity) → slice_get file.entities j ≡ Some d → is_abstract d.kind ≡ true → rank_at above j < rank_at above i → IsKnown table j d)
      → gathered (entity_names file) table e ≡ methods_written file e
  gathers table i e h is known =
      let all : named_all (entity_names file) table e.provides ≡ map written (of_each (abstract_methods file.entities) file.entities e.provides) =
      named_written table e.provides (λ n hn. let q = target e n (i, h) hn in (q, known q.place q.entity q.is_entity q.trait (rank_less i q.place e q.entity h q.is_entity q.trait (named_by i e n q h hn)))) in
      ap (λ ms. first_members [] (map written e.methods ++ ms)) all
      ∙ ap (first_members []) (sym (map-append written e.methods (of_each (abstract_methods file.entities) file.entities e.provides)))
      ∙ first_written [] (e.methods ++ of_each (abstract_methods file.entities) file.entities e.provides)
      ∙ ap (map written) (sym (steady (length file.entities) i e h (rank_few i e h is)))

  -- A table with the methods of all traits has those of what an `is` list names.
  pub all_named : (table : List (List Member)) (i : ℕ) (e : t.Entity) → slice_get file.entities i ≡ Some e → ((j : ℕ) (d : t.Entity) → slice_get file.entities j ≡ Some d → is_abstract d.kind ≡ true → IsKnown table j d)
      → named_all (entity_names file) table e.provides ≡ map written (of_each (abstract_methods file.entities) file.entities e.provides)
  all_named table i e h known = named_written table e.provides (λ n hn. let q = target e n (i, h) hn in (q, known q.place q.entity q.is_entity q.trait))
