-- The lists above the entities of a file contain what chains of `is` lead to.
use Rattle.std.proofs.{Common.{◌≡◌, ℕ, zero, suc, ◌+◌, List, [], ◌∷◌, ◌++◌, map, length, Option, Some, None, refl, sym, ap, ◌∙◌, subst, arith, inl, inr, ⊎_elim}, lemmas.Option.{same_Some, none-some}, lemmas.List.length-map, lemmas.List.Quantifiers.position-Some}
use Rattle.std.specs.{Prelude.{slice_get, option_to_list, position}, Str.bytes_eq}
use Rattle.pc_base.specs.Lists.{Has, IsIn, Text}
use Rattle.pc_tree.specs.{declared.written_names.Name.Name, Kinds.first_own}
use Rattle.pc_tree.specs.Tree as t
use Rattle.pc_members.specs.{Members.{entity_names, ProvidesInFile, LeadsInFile, one, more, IsAbove, IsTransitiveClosure}, Parts.or_nil, Edges.{edges_from, EdgePath, link, links, reached, ascending, above_all, entity_numbers, own_edges, edges_of}}
use Rattle.pc_members.proofs.Reached.{Within, above_length, above_get, ascending_ascends, listed_led, led_listed}

-- ---- one edge

-- One of the names is that of the entity with this number.
abbrev pub NamedIn : List Text → List Name → ℕ → Type 0
NamedIn names ns b = (n : Name) × Has ns n × (position (bytes_eq n.text) names ≡ Some b)

named_on : (names : List Text) (m : Name) (ns : List Name) (b : ℕ) → NamedIn names ns b → NamedIn names (m ∷ ns) b
named_on names m ns b x = (x.0, (suc x.1.0, x.1.1), x.2)

pub numbers_only : (names : List Text) (ns : List Name) (b : ℕ) → IsIn b (entity_numbers names ns) → NamedIn names ns b
numbers_only names [] b h = absurd h
numbers_only names (n ∷ ns) b h = by (λ i. named_on names n ns b (numbers_only names ns b i)) (position (bytes_eq n.text) names) refl h
  where
    by : (IsIn b (entity_numbers names ns) → NamedIn names (n ∷ ns) b) → (o : Option ℕ) → position (bytes_eq n.text) names ≡ o → IsIn b (option_to_list o ++ entity_numbers names ns) → NamedIn names (n ∷ ns) b
    by rec None e i = rec i
    by rec (Some x) e i = ⊎_elim (λ s. (n, (0, refl), e ∙ ap (λ y. Some y) (sym s))) rec i

pub numbers_all : (names : List Text) (ns : List Name) (n : Name) (b i : ℕ) → slice_get ns i ≡ Some n → position (bytes_eq n.text) names ≡ Some b → IsIn b (entity_numbers names ns)
numbers_all names [] n b i h e = absurd (none-some n h)
numbers_all names (m ∷ ns) n b zero h e = subst (λ o. IsIn b (option_to_list o ++ entity_numbers names ns)) (sym (ap (λ (k : Name). position (bytes_eq k.text) names) (same_Some _ _ h) ∙ e)) (inl refl)
numbers_all names (m ∷ ns) n b (suc i) h e = by (numbers_all names ns n b i h e) (position (bytes_eq m.text) names)
  where
    by : IsIn b (entity_numbers names ns) → (o : Option ℕ) → IsIn b (option_to_list o ++ entity_numbers names ns)
    by rec None = rec
    by rec (Some x) = inr rec

-- ---- the edges of an entity of the file

abbrev pub Own : List Text → List t.Entity → ℕ → ℕ → Type 0
Own names es i b = (e : t.Entity) × (slice_get (map Some es) i ≡ Some (Some e)) × NamedIn names e.provides b

own_only : (names : List Text) (es : List t.Entity) (i b : ℕ) → IsIn b (or_nil (slice_get (own_edges names es) i)) → Own names es i b
own_only names [] i b h = absurd h
own_only names (e ∷ es) zero b h = (e, refl, numbers_only names e.provides b h)
own_only names (e ∷ es) (suc i) b h = own_only names es i b h

own_all : (names : List Text) (es : List t.Entity) (i b : ℕ) → Own names es i b → IsIn b (or_nil (slice_get (own_edges names es) i))
own_all names [] i b x = absurd (none-some (Some x.0) x.1)
own_all names (e ∷ es) zero b x = subst (λ (d : t.Entity). IsIn b (entity_numbers names d.provides)) (sym (same_Some _ _ (same_Some _ _ x.1))) (numbers_all names x.0.provides x.2.0 b x.2.1.0 x.2.1.1 x.2.2)
own_all names (e ∷ es) (suc i) b x = own_all names es i b x

own_length : (names : List Text) (es : List t.Entity) → length (own_edges names es) ≡ length es
own_length names [] = refl
own_length names (e ∷ es) = ap suc (own_length names es)

-- ---- the edges of all entities

abbrev pub nobody : Option t.Entity
nobody = None

pub no_entity : {T : Type 0} (e : t.Entity) → Some nobody ≡ Some (Some e) → T
no_entity e h = absurd (none-some e (same_Some _ _ h))

edge_names : (file : t.File) (a b : ℕ) → IsIn b (edges_from (edges_of file) a) → ProvidesInFile file a b
edge_names file zero b h = absurd h
edge_names file (suc zero) b h = absurd h
edge_names file (suc (suc zero)) b h = absurd h
edge_names file (suc (suc (suc zero))) b h = absurd h
edge_names file (suc (suc (suc (suc zero)))) b h = absurd h
edge_names file (suc (suc (suc (suc (suc zero))))) b h = absurd h
edge_names file (suc (suc (suc (suc (suc (suc a)))))) b h = own_only (entity_names file) file.entities a b h

names_edge : (file : t.File) (a b : ℕ) → ProvidesInFile file a b → IsIn b (edges_from (edges_of file) a)
names_edge file zero b x = no_entity x.0 x.1
names_edge file (suc zero) b x = no_entity x.0 x.1
names_edge file (suc (suc zero)) b x = no_entity x.0 x.1
names_edge file (suc (suc (suc zero))) b x = no_entity x.0 x.1
names_edge file (suc (suc (suc (suc zero)))) b x = no_entity x.0 x.1
names_edge file (suc (suc (suc (suc (suc zero))))) b x = no_entity x.0 x.1
names_edge file (suc (suc (suc (suc (suc (suc a)))))) b x = own_all (entity_names file) file.entities a b x

pub edges_length : (file : t.File) → length (edges_of file) ≡ first_own + length file.entities
edges_length file = let l = own_length (entity_names file) file.entities in omega (arith, l)

pub names_length : (file : t.File) → length (entity_names file) ≡ first_own + length file.entities
names_length file = let l = length-map file.entities (λ (e : t.Entity). e.name.text) in omega (arith, l)

edges_within : (file : t.File) → Within (edges_of file)
edges_within file a b h =
    let n = edge_names file a b h in
    let p = position-Some (bytes_eq n.2.0.text) (entity_names file) b [] n.2.2 in
    omega (arith, p.0, edges_length file, names_length file)

-- ---- chains

chain_leads : (file : t.File) {a b : ℕ} → EdgePath (edges_of file) a b → LeadsInFile file a b
chain_leads file {a} {b} (link h) = one (edge_names file a b h)
chain_leads file {a} (links {b = d} h r) = more (edge_names file a d h) (chain_leads file r)

leads_chain : (file : t.File) {a b : ℕ} → LeadsInFile file a b → EdgePath (edges_of file) a b
leads_chain file {a} {b} (one h) = link (names_edge file a b h)
leads_chain file {a} (more {b = d} h r) = links (names_edge file a d h) (leads_chain file r)

is_above : (file : t.File) (a : ℕ) → IsAbove file a (ascending (reached (edges_of file) a) 0 (length (edges_of file)))
is_above file a =
    let e = edges_of file in
    (ascending_ascends (reached e a) (length e) 0, λ b. (λ h. chain_leads file (listed_led e a b h), λ l. led_listed e a b (edges_within file) (leads_chain file l)))

-- The lists that are computed are those of the file.
pub closes : (file : t.File) → IsTransitiveClosure file (above_all (edges_of file))
closes file =
    let e = edges_of file in
    (above_length e (length e) 0 ∙ edges_length file, λ a l h. subst (λ x. IsAbove file a x) (sym (above_get e (length e) 0 a l h ∙ ap (λ x. ascending (reached e x) 0 (length e)) (let z : 0 + a ≡ a = omega arith in z))) (is_above file a))
