-- The methods that represent the members of a file are those computed from them one by one.
use Rattle.std.proofs.{Common.{◌≡◌, ℕ, suc, ◌+◌, ◌-◌, ◌≤◌, List, [], ◌∷◌, ◌++◌, length, map, take, Option, Some, None, refl, sym, ap, ap₂, ◌∙◌, subst, arith, append_assoc, append-nil, length-append}, lemmas.Option.slice_get_past}
use Rattle.std.specs.Prelude.{slice_get, slice_range, Ok}
use Rattle.pc_base.specs.{declared.span.Span.Span, Lists.{Differ, Follow}, Limits.node_limit}
use Rattle.pc_caps.specs.{declared.capability.Cap.Cap, declared.capability.Form.Form}
use Rattle.pc_base.proofs.{Cuts.take_whole, Ranges.run_within}
use Rattle.pc_tree.specs.Tree as t
use Rattle.pc_core.specs.{declared.declarations.Method.Method, declared.declarations.MethodKind.MethodKind, declared.declarations.ParamInfo.ParamInfo, declared.nodes.Node.Node, declared.nodes.Slot.Slot, CoreData.{CoreData, own_slots, node_end}, Entities.{param_slot, this_slot}}
use Rattle.pc_core.specs.declared.nodes.SlotKind.TheVariants as slot
use Rattle.pc_members.specs.{Members.{Member, written, added, member_text}, MemberLists.{member_span, members}}
use Rattle.pc_body_spec.specs.{Bodies.{Rose, Context, KnownEntity, text_from}, Fold.{put, local_slot}, Methods.{unless_fault, unless_name, unless_full, numbered_or_full, put_body}}
use Rattle.pc_file_spec.specs.Cores.{Owned, texts_of_file, known_of, context_of, slots_from, member_locals, params_of, own_this, kind_of, receiver_cap, result_of, declared, Parts, outcome, with_outcome, and_member, and_members, if_ok}
use Rattle.pc_file_spec.proofs.{Steps.{member_rose, member_faults, member_names, slots_count}, Parts.{slots_run, nodes_run}}
use Rattle.pc_core_relation.specs.{Files.{LocalStands, BodyIs}, Parts.seen_entities}
use Rattle.pc_core_relation.proofs.{Lists.{match_one, range_count, take_count, take_run}, Numbers.{what_is_numbered_is_put, numbered_from}, Types.entity_name, Equals.{text_one, params_one, result_one, local_one}, Members.{rose_same, faults_same}, Mirror.{rose_of, faults_in, owned_context, ByTables}}

-- ---- the outcome of a member without a fault

outcome_ok : (c : Context) (m : ℕ) (e : t.Entity) (x : Member) (before : List Node) (r : Option ℕ × List Node) → member_faults c e x ≡ [] → slice_get (member_names e x) 63 ≡ None
    → ((s : Span) → put_body m s (member_rose c e x) before ≡ Ok r) → outcome c m e x before ≡ Ok r
outcome_ok c m e (written x) before r f n h =
    ap (λ fs. unless_fault fs (unless_full (member_names e (written x)) (put_body m x.name.span (member_rose c e (written x)) before))) f
    ∙ ap (λ o. unless_name o (put_body m x.name.span (member_rose c e (written x)) before)) n ∙ h x.name.span
outcome_ok c m e added before r f n h =
    ap (λ fs. unless_fault fs (unless_full (member_names e added) (put_body m e.name.span (member_rose c e added) before))) f
    ∙ ap (λ o. unless_name o (put_body m e.name.span (member_rose c e added) before)) n ∙ h e.name.span

-- The body of the core is what is appended to the nodes before it.
body_put : (core : CoreData) (m : ℕ) (s : Span) (x : Method) (o : Option Rose) (before : List Node) → length core.nodes ≤ node_limit → before ≡ take x.first_node core.nodes → BodyIs core m x o
    → put_body m s o before ≡ Ok (x.body, take (node_end x.first_node x.body) core.nodes)
body_put core m s x None before few e h = ap (λ (ns : List Node). Ok (None, ns)) e ∙ ap (λ (b : Option ℕ). Ok (b, take (node_end x.first_node b) core.nodes)) (sym h)
body_put core m s x (Some r) before few e h =
    let is : put m r before ≡ Some (h.0, take (h.0 + 1) core.nodes) = ap (put m r) e ∙ what_is_numbered_is_put core.nodes m x.first_node r h.0 few h.2 in
    ap (numbered_or_full s) is ∙ ap (λ (b : Option ℕ). Ok (b, take (node_end x.first_node b) core.nodes)) (sym h.1)

end_behind : (core : CoreData) (m : ℕ) (x : Method) (o : Option Rose) → BodyIs core m x o → x.first_node ≤ node_end x.first_node x.body
end_behind core m x None h = let e : node_end x.first_node x.body ≡ x.first_node = ap (node_end x.first_node) h in omega (arith, e)
end_behind core m x (Some r) h =
    let e : node_end x.first_node x.body ≡ h.0 + 1 = ap (node_end x.first_node) h.1 in
    let l = numbered_from core.nodes m x.first_node r h.0 h.2 in
    omega (arith, e, l)

abbrev this_of : ℕ → ℕ → Cap → Slot
this_of m e k = record { method = m; kind = slot.This; depth = 0; written = Some (e, k) }

abbrev seeing : Context → List KnownEntity → List (List ℕ) → Context
seeing c ks xs = record { fields = c.fields; methods = c.methods; entities = ks; texts = xs; slots = c.slots }

abbrev method : ℕ → ℕ → MethodKind → Cap → List ParamInfo → ℕ × Form → ℕ → ℕ → ℕ → Option ℕ → Span → Method
method entity name kind receiver params result first_slot slots first_node body span = record {
  entity = entity;
  name = name;
  kind = kind;
  receiver = receiver;
  params = params;
  result = result;
  first_slot = first_slot;
  slots = slots;
  first_node = first_node;
  body = body;
  span = span;
}

module _ (file : t.File) (core : CoreData) (texts : core.names ≡ texts_of_file file) (names : Differ core.names) (seen : seen_entities core ≡ known_of file) (differ : Differ (map entity_name core.entities)) (few : length core.nodes ≤ node_limit) where
  same_context : (o : Owned) → owned_context core (members file.entities o.owner) o ≡ context_of file o
  same_context o = ap₂ (λ ks xs. seeing (context_of file o) ks xs) seen texts

  -- ---- one method

  module _ (m : ℕ) (o : Owned) (x : Method) (s : ByTables core (members file.entities o.owner) m o x) where
    abbrev own : Context
    own = context_of file o

    params_same : params_of (known_of file) o.member ≡ x.params
    params_same = params_one core (known_of file) seen differ o.member x.params s.params

    slots_same : own_slots core x ≡ slots_from own m o
    slots_same =
        let locals : map (local_slot own m) (member_locals o.owner o.member) ≡ s.slots.0 = match_one (LocalStands core m) (local_slot own m) (local_one core (known_of file) seen differ own refl m) (member_locals o.owner o.member) s.slots.0 s.slots.2 in
        let first : this_slot m x ≡ own_this m o = ap₂ (λ e k. this_of m e k) s.entity s.receiver in
        s.slots.1 ∙ ap (λ y. y ∷ map (param_slot m) x.params ++ s.slots.0) first ∙ ap₂ (λ ps ls. own_this m o ∷ map (param_slot m) ps ++ ls) (sym params_same) (sym locals)

    slots_long : x.first_slot + x.slots ≤ length core.slots → x.slots ≡ length (slots_from own m o)
    slots_long l = sym (range_count core.slots x.first_slot x.slots l) ∙ ap length slots_same

    declared_same : x.first_slot + x.slots ≤ length core.slots → declared own o x.first_slot (length (slots_from own m o)) x.first_node x.body ≡ x
    declared_same l =
        let text : text_from 0 (texts_of_file file) (member_text o.member) ≡ x.name = ap (λ ns. text_from 0 ns (member_text o.member)) (sym texts) ∙ text_one core.names (member_text o.member) x.name names s.name in
        ap₂ (λ a b. method a b (kind_of o.owner.kind o.member) (receiver_cap o.member) (params_of (known_of file) o.member) (result_of (known_of file) o.owner.kind o.number o.member) x.first_slot (length (slots_from own m o)) x.first_node x.body (member_span o.owner.name.span o.member)) (sym s.entity) text
        ∙ ap₂ (λ a b. method x.entity x.name a b (params_of (known_of file) o.member) (result_of (known_of file) o.owner.kind o.number o.member) x.first_slot (length (slots_from own m o)) x.first_node x.body (member_span o.owner.name.span o.member)) (sym s.kind) (sym s.receiver)
        ∙ ap₂ (λ a b. method x.entity x.name x.kind x.receiver a b x.first_slot (length (slots_from own m o)) x.first_node x.body (member_span o.owner.name.span o.member)) params_same (result_one core (known_of file) seen differ o o.member x.result s.result)
        ∙ ap₂ (λ a b. method x.entity x.name x.kind x.receiver x.params x.result x.first_slot a x.first_node x.body b) (sym (slots_long l)) (sym s.span)

    outcome_same : (before : List Node) → before ≡ take x.first_node core.nodes → x.first_slot + x.slots ≤ length core.slots
        → outcome own m o.owner o.member before ≡ Ok (x.body, take (node_end x.first_node x.body) core.nodes)
    outcome_same before e l =
        let sound : member_faults own o.owner o.member ≡ [] = sym (faults_same own o.owner o.member) ∙ subst (λ c. faults_in c o.owner o.member ≡ []) (same_context o) s.no_fault in
        let body : BodyIs core m x (member_rose own o.owner o.member) = subst (BodyIs core m x) (ap (λ c. rose_of c o.owner o.member) (same_context o) ∙ rose_same own o.owner o.member) s.body in
        let count : length (slots_from own m o) ≡ 1 + length (member_names o.owner o.member) = slots_count own m o in
        let long = slots_long l in
        let limit = s.few_slots in
        let none : slice_get (member_names o.owner o.member) 63 ≡ None = slice_get_past (member_names o.owner o.member) 63 (omega (arith, count, long, limit)) in
        outcome_ok own m o.owner o.member before (x.body, take (node_end x.first_node x.body) core.nodes) sound none (λ z. body_put core m z x (member_rose own o.owner o.member) before few e body)

    nodes_behind : x.first_node ≤ node_end x.first_node x.body
    nodes_behind = end_behind core m x (rose_of (owned_context core (members file.entities o.owner) o) o.owner o.member) s.body

  -- ---- all methods

  abbrev whole : Parts
  whole = record { methods = core.methods; slots = core.slots; nodes = core.nodes }

  abbrev parts : List Method → List Slot → List Node → Parts
  parts ms ss ns = record { methods = ms; slots = ss; nodes = ns }

  -- From these members on, with the methods that represent them.
  pub walk : (os : List Owned) (ms : List Method) (front : List Method) (a b : ℕ) → front ++ ms ≡ core.methods → Follow a (map slots_run ms) (length core.slots) → Follow b (map nodes_run ms) (length core.nodes) → length os ≡ length ms
      → ((i : ℕ) (o : Owned) (x : Method) → slice_get os i ≡ Some o → slice_get ms i ≡ Some x → ByTables core (members file.entities o.owner) (length front + i) o x)
      → and_members file (parts front (take a core.slots) (take b core.nodes)) os ≡ Ok whole
  walk [] [] front a b e fs fn l h =
      let methods : front ≡ core.methods = sym (append-nil front) ∙ e in
      let slots : take a core.slots ≡ core.slots = ap (λ k. take k core.slots) fs ∙ take_whole core.slots in
      let nodes : take b core.nodes ≡ core.nodes = ap (λ k. take k core.nodes) fn ∙ take_whole core.nodes in
      ap (λ xs. Ok (parts xs (take a core.slots) (take b core.nodes))) methods ∙ ap₂ (λ ss ns. Ok (parts core.methods ss ns)) slots nodes
  walk [] (x ∷ ms) front a b e fs fn l h = absurd (omega (arith, l))
  walk (o ∷ os) [] front a b e fs fn l h = absurd (omega (arith, l))
  walk (o ∷ os) (x ∷ ms) front a b e fs fn l h =
      let m : ℕ = length front in
      let p : Parts = parts front (take a core.slots) (take b core.nodes) in
      let c : Context = context_of file o in
      let zeros : m + 0 ≡ m = omega arith in
      let s : ByTables core (members file.entities o.owner) m o x = subst (λ k. ByTables core (members file.entities o.owner) k o x) zeros (h 0 o x refl refl) in
      let in_slots = (run_within a (map slots_run (x ∷ ms)) (length core.slots) 0 (slots_run x) fs refl).1 in
      let in_nodes = (run_within b (map nodes_run (x ∷ ms)) (length core.nodes) 0 (nodes_run x) fn refl).1 in
      let room : x.first_slot + x.slots ≤ length core.slots = omega (arith, in_slots) in
      let first_slot : x.first_slot ≡ a = fs.0 in
      let first_node : x.first_node ≡ b = fn.0 in
      let behind = nodes_behind m o x s in
      let low_slots : length (take a core.slots) ≡ x.first_slot = take_count core.slots a (omega (arith, in_slots, first_slot)) ∙ sym first_slot in
      let low_nodes : length (take b core.nodes) ≡ x.first_node = take_count core.nodes b (omega (arith, in_nodes, first_node)) ∙ sym first_node in
      let last : ℕ = node_end x.first_node x.body in
      let r : Option ℕ × List Node = (x.body, take last core.nodes) in
      let became : outcome c m o.owner o.member p.nodes ≡ Ok r = outcome_same m o x s (take b core.nodes) (ap (λ k. take k core.nodes) (sym first_node)) room in
      let long : x.slots ≡ length (slots_from c m o) = slots_long m o x s room in
      let one : declared c o (length p.slots) (length (slots_from c m o)) (length p.nodes) x.body ≡ x =
      ap₂ (λ j k. declared c o j (length (slots_from c m o)) k x.body) low_slots low_nodes ∙ declared_same m o x s room in
      let slots : take a core.slots ++ slots_from c m o ≡ take (a + x.slots) core.slots =
      ap (λ ys. take a core.slots ++ ys) (sym (slots_same m o x s) ∙ ap (λ k. slice_range core.slots k (k + x.slots)) first_slot) ∙ take_run core.slots a x.slots (omega (arith, room, first_slot)) in
      let step : and_member c p o ≡ Ok (parts (front ++ x ∷ []) (take (a + x.slots) core.slots) (take last core.nodes)) =
      ap (with_outcome c p o) became
      ∙ ap (λ y. Ok (parts (front ++ y ∷ []) (take a core.slots ++ slots_from c m o) (take last core.nodes))) one
      ∙ ap (λ ys. Ok (parts (front ++ x ∷ []) ys (take last core.nodes))) slots in
      let count : length (front ++ x ∷ []) ≡ m + 1 = length-append front (x ∷ []) in
      let later : (i : ℕ) → m + suc i ≡ length (front ++ x ∷ []) + i = λ i. omega (arith, count) in
      let ends : b + (last - x.first_node) ≡ last = omega (arith, behind, first_node) in
      let shorter : length os ≡ length ms = omega (arith, l) in
      let rest = walk os ms (front ++ x ∷ []) (a + x.slots) last (append_assoc front (x ∷ []) ms ∙ e) fs.1 (subst (λ k. Follow k (map nodes_run ms) (length core.nodes)) ends fn.1) shorter
      (λ i y z g k. subst (λ n. ByTables core (members file.entities y.owner) n y z) (later i) (h (suc i) y z g k)) in
      ap (λ t. if_ok t (λ q. and_members file q os)) step ∙ rest
