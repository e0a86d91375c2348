-- The methods of the core computed from a file member by member represent these members.
use Rattle.std.proofs.{Common.{◌≡◌, ℕ, ◌+◌, ◌≤◌, List, [], ◌++◌, length, map, Option, Some, None, refl, sym, ap, ◌∙◌, subst, arith, inl, inr}, lemmas.List.append_assoc}
use Rattle.std.specs.Prelude.{slice_range, ◌↔◌}
use Rattle.pc_caps.specs.declared.capability.Cap.{Cap}
use Rattle.pc_base.specs.Lists.{Has, Differ}
use Rattle.pc_tree.specs.{declared.kinds.MethodWord.MethodWord, declared.written_names.TypeRef.TypeRef}
use Rattle.pc_tree.specs.declared.kinds.MethodWord.TheVariants as word
use Rattle.pc_tree.specs.Tree as t
use Rattle.pc_core.specs.{declared.declarations.Method.Method, declared.nodes.Node.Node, declared.nodes.Slot.Slot, CoreData.{CoreData, own_slots}}
use Rattle.pc_members.specs.{Members.{entity_names, Member, written, added, member_text}, MemberLists.members}
use Rattle.pc_body_spec.specs.{Bodies.Context, Fold.{local_slot, type_of_name, written_of}}
use Rattle.pc_file_spec.specs.Cores.{Owned, known_of, context_of, slots_from, param_of, params_of, member_locals, type_in, word_result, result_of, written_result, Parts, built_in_parts, core_with}
use Rattle.pc_file_spec.specs.Cores as known
use Rattle.pc_file_spec.proofs.{Ranges.range_middle, Tables.text_found, Collects.Collects, Origins.{Sort, sort_of}, Declared.types_are, Steps.{member_rose, member_faults, member_names, slots_count}, Parts.{At, AllAt}, Settings.{all_members, method_at}}
use Rattle.pc_core_relation.specs.Files.{Match, IsType, IsWritten, IsNumbered, ParamStands, LocalStands, BodyIs, MethodStands}
use Rattle.pc_core_relation.proofs.{Lists.{match_none, map_matches}, Mirror.{params_in, AnswerIs, WordResultIs, ResultIs, rose_of, faults_in, owned_context, ByTables, said}, Numbers.{numbered_in, what_is_put_is_numbered}, Types.{entity_name, type_is, is_type, type_there}, Contexts.{all_names, seen_same, context_same, text_there}}

-- ---- what a member means

pub rose_same : (c : Context) (e : t.Entity) (m : Member) → rose_of c e m ≡ member_rose c e m
rose_same c e (written x) = refl
rose_same c e added = refl

pub faults_same : (c : Context) (e : t.Entity) (m : Member) → faults_in c e m ≡ member_faults c e m
faults_same c e (written x) = refl
faults_same c e added = refl

module _ (file : t.File) (above : List (List ℕ)) (q : Parts) (c : Collects file above) (parts : AllAt file built_in_parts (all_members file) q) where
  abbrev core : CoreData
  core = core_with file above q

  -- ---- types

  names_differ : Differ (map entity_name core.entities)
  names_differ = subst Differ (sym (all_names file above q c parts)) c.names

  pub type_stands : (ty : TypeRef) → Has (entity_names file) ty.name.text → IsType core ty (type_in (known_of file) ty)
  type_stands ty h =
      let there : Has (map entity_name core.entities) ty.name.text = subst (λ xs. Has xs ty.name.text) (sym (all_names file above q c parts)) h in
      subst (λ ks. IsType core ty (type_in ks ty)) (seen_same file above q c parts) (type_there core ty there)

  written_stands : (o : Owned) (ty : Option TypeRef) → IsWritten core ty (written_of (context_of file o) ty)
  written_stands o None = refl
  written_stands o (Some ty) = subst (λ ks. (p : ℕ × Cap) → (type_of_name 0 ks ty ≡ Some p) ↔ IsType core ty p) (seen_same file above q c parts) (λ p. (type_is core ty p, is_type core ty p names_differ))

  -- ---- declarations

  params_stand : (e : t.Entity) (m : Member) → Sort file e m → Match (ParamStands core) (params_in m) (params_of (known_of file) m)
  params_stand e added s = match_none (ParamStands core)
  params_stand e (written x) s = map_matches (ParamStands core) (param_of (known_of file)) x.params (λ p h. record { ty = type_stands p.ty ((types_are file above e x c s).params p h); span = refl })

  answer_stands : (r : Option TypeRef) → ((ty : TypeRef) → r ≡ Some ty → Has (entity_names file) ty.name.text) → AnswerIs core r (written_result (known_of file) r)
  answer_stands None h = refl
  answer_stands (Some ty) h = ((type_in (known_of file) ty).1, type_stands ty (h ty refl), refl)

  result_stands : (o : Owned) (m : Member) → Sort file o.owner m → ResultIs core o m (result_of (known_of file) o.owner.kind o.number m)
  result_stands o added s = refl
  result_stands o (written x) s = by x.word
    where
      by : (w : MethodWord) → WordResultIs core o.owner.kind o.number x w (word_result (known_of file) o.owner.kind o.number x w)
      by word.Fun = answer_stands x.result (types_are file above o.owner x c s).result
      by word.Be = refl
      by word.New = refl

  -- ---- one member

  module _ (m : ℕ) (o : Owned) (a : At file q m o) where
    abbrev own : Context
    own = context_of file o

    abbrev number : ℕ
    number = length a.before.methods

    abbrev this_method : Method
    this_method = method_at file q m o a

    abbrev new_slots : List Slot
    new_slots = slots_from own number o

    slots_are : own_slots core this_method ≡ new_slots
    slots_are =
        let whole : q.slots ≡ a.before.slots ++ (new_slots ++ a.extends.slots) = a.extends.is_slots ∙ append_assoc a.before.slots new_slots a.extends.slots in
        ap (λ xs. slice_range xs (length a.before.slots) (length a.before.slots + length new_slots)) whole ∙ range_middle a.before.slots new_slots a.extends.slots (length a.before.slots + length new_slots) refl

    locals_stand : Match (LocalStands core number) (member_locals o.owner o.member) (map (local_slot own number) (member_locals o.owner o.member))
    locals_stand = map_matches (LocalStands core number) (local_slot own number) (member_locals o.owner o.member) (λ l h. record { method = refl; kind = refl; depth = refl; written = written_stands o l.ty })

    few : length new_slots ≤ 64
    few = let few = a.made.few in let count : length new_slots ≡ 1 + length (member_names o.owner o.member) = slots_count own number o in omega (arith, few, count)

    body_stands : BodyIs core number this_method (rose_of own o.owner o.member)
    body_stands = elim a.made.ends [
      | inl n ↦
          let none : rose_of own o.owner o.member ≡ None = rose_same own o.owner o.member ∙ n.1 in
          let bare : this_method.body ≡ None = ap (λ (r : Option ℕ × List Node). r.0) n.0 in
          subst (λ r. BodyIs core number this_method r) (sym none) bare
      | inr y ↦
          let some : rose_of own o.owner o.member ≡ Some y.3.rose = rose_same own o.owner o.member ∙ y.3.is_rose in
          let last : this_method.body ≡ Some y.0 = ap (λ (r : Option ℕ × List Node). r.0) y.2 in
          let nodes : q.nodes ≡ y.1 ++ a.extends.nodes = a.extends.is_nodes ∙ ap (λ (r : Option ℕ × List Node). r.1 ++ a.extends.nodes) y.2 in
          let there : IsNumbered y.1 number (length a.before.nodes) y.3.rose y.0 = (what_is_put_is_numbered number y.3.rose y.0 a.before.nodes y.1 y.3.put_is).0 in
          let stands : IsNumbered q.nodes number (length a.before.nodes) y.3.rose y.0 = numbered_in y.1 q.nodes a.extends.nodes number (length a.before.nodes) y.3.rose y.0 nodes there in
          subst (λ r. BodyIs core number this_method r) (sym some) (y.0, last, stands)
    ]

    own_stands : Has file.entities o.owner → Has (members file.entities o.owner) o.member → ByTables core (members file.entities o.owner) number o this_method
    own_stands he hm =
        let sort : Sort file o.owner o.member = sort_of file above o.owner o.member c he hm in
        let same : owned_context core (members file.entities o.owner) o ≡ own = context_same file above q c parts o in
        record {
          entity = refl;
          name = text_found (known.texts_of_file file) (member_text o.member) (text_there file above o.owner o.member c he hm);
          kind = refl;
          receiver = refl;
          params = params_stand o.owner o.member sort;
          result = result_stands o o.member sort;
          span = refl;
          few_slots = few;
          slots = (map (local_slot own number) (member_locals o.owner o.member), slots_are, locals_stand);
          no_fault = subst (λ x. faults_in x o.owner o.member ≡ []) (sym same) (faults_same own o.owner o.member ∙ a.made.no_fault);
          body = subst (λ x. BodyIs core number this_method (rose_of x o.owner o.member)) (sym same) body_stands;
        }

    pub member_stands : Has file.entities o.owner → Has (members file.entities o.owner) o.member → MethodStands core (members file.entities o.owner) o.number o.owner o.member m this_method
    member_stands he hm = said core (members file.entities o.owner) m o.number o.owner o.member this_method (subst (λ k. ByTables core (members file.entities o.owner) k o this_method) a.number (own_stands he hm))
