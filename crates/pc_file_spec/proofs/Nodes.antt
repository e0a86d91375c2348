-- The nodes of a file's core fit.
use Rattle.std.proofs.{Common.{◌≡◌, ℕ, zero, suc, ◌+◌, ◌-◌, ◌<◌, ◌≤◌, List, ◌∷◌, ◌++◌, length, map, Option, Some, Bool, true, false, refl, sym, ap, ◌∙◌, subst, arith, inl, inr}, lemmas.Bool.cases_lt, lemmas.Option.{same_Some, none-some}, lemmas.List.{length-map, append_assoc}}
use Rattle.std.specs.Prelude.{slice_get, ◌⊎◌}
use Rattle.pc_base.proofs.{Gets.{get_front, get_below, get_within, append_get, get_append, get_map}, Bools.true_false}
use Rattle.pc_tree.specs.{declared.kinds.EntityKind.EntityKind, declared.kinds.MethodWord.MethodWord, Kinds.first_own}
use Rattle.pc_tree.specs.declared.kinds.EntityKind.TheVariants as kind
use Rattle.pc_tree.specs.declared.kinds.MethodWord.TheVariants as word
use Rattle.pc_tree.specs.Tree as t
use Rattle.pc_core.specs.{declared.nodes.Node.Node, declared.nodes.NodeKind.NodeKind, declared.nodes.Slot.Slot, CoreData.CoreData, Methods.{UsesSlot, is_local}, Entities.{constructor_kind, word_kind, param_slot}, Nodes.{NodeFits, NamesFit, NamesPrimitive, NamesSlot, NamesLocal}, Further.NamesMethod}
use Rattle.pc_core.specs.declared.nodes.NodeKind.TheVariants as node
use Rattle.pc_base.specs.Lists.{Each, Has}
use Rattle.pc_members.specs.{Members.{is_new, Member, written, added}, MemberLists.{is_constructor, members}}
use Rattle.pc_body_spec.specs.{Bodies.{Context, KnownEntity, Constructor}, Slots.{Local, local_kind}, Fold.local_slot, Meanings.{NamesWhatIsThere, IsOfKind, IsConstructor}, Laws.HasChildren}
use Rattle.pc_file_spec.specs.Cores.{Owned, owned, known_of, known_from, built_in_known, context_of, slots_from, own_this, params_of, member_locals, kind_of, Parts, core_with, core_entity}
use Rattle.pc_file_spec.proofs.{Steps.{names_count, slots_count, member_names}, Owners.{starts, own_member, known_at, constructor_at}, Parts.At, Settings.{Setting, all_members, entity_get, method_at, at_get}, Definitions.{param_count, defined_within}, Locals.{Bodied, all_nodes, node_in, own_method, used, child_own, visible_within, params_count}, Methods.ordered}

-- ---- known entities

no_constructors : (n : ℕ) (x : KnownEntity) (y : Constructor) → slice_get built_in_known n ≡ Some x → Has x.constructors y → ⊥
no_constructors zero x y h g = none-some y (ap (λ (z : KnownEntity). slice_get z.constructors g.0) (same_Some _ x h) ∙ g.1)
no_constructors (suc zero) x y h g = none-some y (ap (λ (z : KnownEntity). slice_get z.constructors g.0) (same_Some _ x h) ∙ g.1)
no_constructors (suc (suc zero)) x y h g = none-some y (ap (λ (z : KnownEntity). slice_get z.constructors g.0) (same_Some _ x h) ∙ g.1)
no_constructors (suc (suc (suc zero))) x y h g = none-some y (ap (λ (z : KnownEntity). slice_get z.constructors g.0) (same_Some _ x h) ∙ g.1)
no_constructors (suc (suc (suc (suc zero)))) x y h g = none-some y (ap (λ (z : KnownEntity). slice_get z.constructors g.0) (same_Some _ x h) ∙ g.1)
no_constructors (suc (suc (suc (suc (suc zero))))) x y h g = none-some y (ap (λ (z : KnownEntity). slice_get z.constructors g.0) (same_Some _ x h) ∙ g.1)
no_constructors (suc (suc (suc (suc (suc (suc n)))))) x y h g = none-some x h

word_constructs : (k : EntityKind) (w : MethodWord) → is_new w ≡ true → word_kind k w ≡ constructor_kind k
word_constructs k word.New h = refl
word_constructs k word.Fun h = absurd (true_false (sym h))
word_constructs k word.Be h = absurd (true_false (sym h))

constructs : (k : EntityKind) (m : Member) → is_constructor m ≡ true → kind_of k m ≡ constructor_kind k
constructs k (written x) h = word_constructs k x.word h
constructs k added h = refl

-- A list has at a place what it has at an equal one.
get_at : {T : Type 0} → (xs : List T) (m n : ℕ) (x : T) → m ≡ n → slice_get xs n ≡ Some x → slice_get xs m ≡ Some x
get_at xs m n x e h = subst (λ k. slice_get xs k ≡ Some x) (sym e) h

module _ (file : t.File) (above : List (List ℕ)) (q : Parts) (s : Setting file above q) where
  abbrev core : CoreData
  core = core_with file above q

  primitive_there : (c : Context) (e : ℕ) → c.entities ≡ known_of file → (e ≡ 0) ⊎ ((6 ≤ e) × IsOfKind c kind.Primitive e) → NamesPrimitive core e
  primitive_there c e same (inl z) = inl z
  primitive_there c e same (inr h) = elim (append_get built_in_known (known_from file.entities 1 file.entities) e h.1.0 (ap (λ xs. slice_get xs e) (sym same) ∙ h.1.1)) [
    | inl a ↦ let low = get_below built_in_known e h.1.0 a in let high = h.0 in absurd (omega (arith, low, high))
    | inr b ↦
        let i : ℕ = e - length built_in_known in
        let low = b.0 in
        let k = known_at file.entities file.entities 1 i h.1.0 b.1 in
        let number : e ≡ first_own + i = omega (arith, low) in
        inr (h.0, (core_entity file above (first_own + i) (1 + starts file.entities file.entities i) k.0, ap (slice_get core.entities) number ∙ entity_get file above q i k.0 k.1, sym k.2 ∙ h.1.2))
  ]

  constructor_there : (c : Context) (k : EntityKind) (m : ℕ) → c.entities ≡ known_of file → IsConstructor c k m → NamesMethod core (constructor_kind k) m
  constructor_there c k m same h = elim (append_get built_in_known (known_from file.entities 1 file.entities) h.0 h.1 (ap (λ xs. slice_get xs h.0) (sym same) ∙ h.2)) [
    | inl a ↦ absurd (no_constructors h.0 h.1 h.4.0 a h.4.1)
    | inr b ↦
        let i : ℕ = h.0 - length built_in_known in
        let e = known_at file.entities file.entities 1 i h.1 b.1 in
        let y = constructor_at (members file.entities e.0) (1 + starts file.entities file.entities i) h.4.1.0 h.4.0 (ap (λ ys. slice_get ys h.4.1.0) (sym e.3) ∙ h.4.1.1) in
        let o : Owned = owned (first_own + i) e.0 y.1 in
        let place : slice_get (all_members file) (starts file.entities file.entities i + y.0) ≡ Some o = own_member file.entities file.entities first_own i y.0 e.0 y.1 e.1 y.2 in
        let a : At file q (1 + (starts file.entities file.entities i + y.0)) o = s.parts.at (starts file.entities file.entities i + y.0) o place in
        let given = y.4 in
        let wanted = h.4.2 in
        let number : m ≡ 1 + (starts file.entities file.entities i + y.0) = omega (arith, given, wanted) in
        (method_at file q (1 + (starts file.entities file.entities i + y.0)) o a, get_at core.methods m (1 + (starts file.entities file.entities i + y.0)) (method_at file q (1 + (starts file.entities file.entities i + y.0)) o a) number (at_get file q (1 + (starts file.entities file.entities i + y.0)) o a), constructs e.0.kind y.1 y.3 ∙ ap constructor_kind (sym e.2 ∙ h.3))
  ]

  -- ---- what a node refers to

  names_fit : (c : Context) (m : ℕ) (k : NodeKind) → c.entities ≡ known_of file → length c.texts ≡ length core.names → NamesWhatIsThere c k → ((i : ℕ) → UsesSlot i k → NamesSlot core m i) → ((i : ℕ) → k ≡ node.Define i → NamesLocal core m i) → NamesFit core m k
  names_fit c m (node.Prim e) same texts h uses defines = primitive_there c e same h
  names_fit c m (node.New n) same texts h uses defines = constructor_there c kind.Class n same h
  names_fit c m (node.Spawn n) same texts h uses defines = constructor_there c kind.Actor n same h
  names_fit c m (node.Local i) same texts h uses defines = uses i refl
  names_fit c m (node.Consume i) same texts h uses defines = uses i refl
  names_fit c m (node.Assign i) same texts h uses defines = uses i refl
  names_fit c m (node.Define i) same texts h uses defines = defines i refl
  names_fit c m (node.Field f) same texts h uses defines = omega (arith, h, texts)
  names_fit c m (node.SetField f) same texts h uses defines = omega (arith, h, texts)
  names_fit c m (node.Call f) same texts h uses defines = omega (arith, h, texts)
  names_fit c m (node.Binary o) same texts h uses defines = h
  names_fit c m k same texts h uses defines = tt

  -- ---- a node of a member

  module _ (place : ℕ) (o : Owned) (is : slice_get (all_members file) place ≡ Some o) (m : ℕ) (a : At file q m o) (b : Bodied file q m o a) where
    abbrev number : ℕ
    number = length a.before.methods

    abbrev new_slots : List Slot
    new_slots = slots_from (context_of file o) number o

    this_get : slice_get core.methods number ≡ Some (method_at file q m o a)
    this_get = ap (slice_get core.methods) a.number ∙ at_get file q m o a

    abbrev local_count : ℕ
    local_count = length (member_locals o.owner o.member)

    count : length new_slots ≡ 1 + param_count o.member + local_count
    count =
        let all : length new_slots ≡ 1 + length (member_names o.owner o.member) = slots_count (context_of file o) number o in
        let names = names_count (context_of file o) o.owner o.member in
        let params = params_count (context_of file o) o.member in
        omega (arith, all, names, params)

    within : (i : ℕ) (y : Node) (k : ℕ) → length a.before.nodes ≤ i → slice_get b.after i ≡ Some y → y.kind ≡ node.Define k → (1 + param_count o.member ≤ k) × (k < 1 + param_count o.member + local_count)
    within i y k low h d = defined_within (context_of file o) o.owner o.member b.built.rose number b.last a.before.nodes b.after refl (ordered file above q s place o is m a) a.made.no_fault b.built.is_rose b.built.put_is i y k low h d

    slot_there : (i : ℕ) (y : Node) (k : ℕ) → length a.before.nodes ≤ i → slice_get b.after i ≡ Some y → UsesSlot k y.kind
        → NamesSlot core number k
    slot_there i y k low h u = elim ((used file above q m o a b i y low h).0 k u) [
      | inl v ↦ let w = visible_within o.member k v in let from = w.0 in let to = w.1 in let all = count in (omega (arith, from), (method_at file q m o a, this_get, omega (arith, to, all)))
      | inr d ↦
          let behind = d.behind in
          let far : length a.before.nodes ≤ d.sequence = omega (arith, low, behind) in
          let own = child_own file above q m o a b d.sequence d.define d.around far d.is_around d.item in
          let w = within d.define d.definition k own d.is_definition d.defines in
          let from = w.0 in
          let to = w.1 in
          let all = count in
          (omega (arith, from), (method_at file q m o a, this_get, omega (arith, to, all)))
    ]

    kind_local : (f : Bool) → is_local (local_kind f) ≡ true
    kind_local true = refl
    kind_local false = refl

    slot_get : (j : ℕ) (l : Local) → slice_get (member_locals o.owner o.member) j ≡ Some l → slice_get new_slots (1 + param_count o.member + j) ≡ Some (local_slot (context_of file o) number l)
    slot_get j l h =
        let ps = map (param_slot number) (params_of (context_of file o).entities o.member) in
        let params : length ps ≡ length (params_of (context_of file o).entities o.member) = length-map (params_of (context_of file o).entities o.member) (param_slot number) in
        let same = params_count (context_of file o) o.member in
        let first : List Slot = own_this number o ∷ ps in
        let at : 1 + param_count o.member + j ≡ length first + j = omega (arith, params, same) in
        ap (slice_get new_slots) at ∙ get_append first (map (local_slot (context_of file o) number) (member_locals o.owner o.member)) j ∙ get_map (local_slot (context_of file o) number) (member_locals o.owner o.member) j l h

    local_there : (i : ℕ) (y : Node) (k : ℕ) → length a.before.nodes ≤ i → slice_get b.after i ≡ Some y → y.kind ≡ node.Define k → NamesLocal core number k
    local_there i y k low h d =
        let w = within i y k low h d in
        let from = w.0 in
        let to = w.1 in
        let all = count in
        let j : ℕ = k - (1 + param_count o.member) in
        let below : j < local_count = omega (arith, from, to) in
        let l = get_within (member_locals o.owner o.member) j below in
        let at : k ≡ 1 + param_count o.member + j = omega (arith, from) in
        let slots : slice_get q.slots (length a.before.slots + k) ≡ Some (local_slot (context_of file o) number l.0) =
        ap (λ xs. slice_get xs (length a.before.slots + k)) (a.extends.is_slots ∙ append_assoc a.before.slots new_slots a.extends.slots)
        ∙ get_append a.before.slots (new_slots ++ a.extends.slots) k
        ∙ get_front new_slots a.extends.slots k (local_slot (context_of file o) number l.0) (ap (slice_get new_slots) at ∙ slot_get j l.0 l.1) in
        (method_at file q m o a, local_slot (context_of file o) number l.0, this_get, omega (arith, to, all), slots, kind_local l.0.fixed)

    node_names : (n : ℕ) (x : Node) → length a.before.nodes ≤ n → slice_get b.after n ≡ Some x → NamesFit core number x.kind
    node_names n x low h = elim (cases_lt n b.last) [
      | inl l ↦ names_fit (context_of file o) number x.kind refl refl (b.built.stands.names n x low l h) (λ i u. slot_there n x i low h u) (λ i d. local_there n x i low h d)
      | inr l ↦
          let high = get_below b.after n x h in
          let last = b.built.stands.stands.last in
          let same : b.last ≡ n = omega (arith, l, high, last) in
          let body : x.kind ≡ node.Body = ap (λ (y : Node). y.kind) (same_Some x b.built.stands.root (sym h ∙ ap (slice_get b.after) (sym same) ∙ b.built.stands.is_root)) ∙ b.built.stands.is_body in
          subst (NamesFit core number) (sym body) tt
    ]

    pub node_fits : (n : ℕ) (x : Node) → length a.before.nodes ≤ n → slice_get b.after n ≡ Some x → NodeFits core n x
    node_fits n x low h =
        let children : HasChildren b.after x = b.built.stands.children n x low h in
        record {
          arity = children.arity;
          depths = λ i c e y g.
              let r = children.depths i c e in
              ap (λ (z : Node). z.depth) (same_Some y r.0 (sym g ∙ node_in file above q m o a b c r.0 r.1)) ∙ r.2;
          names = subst (λ k. NamesFit core k x.kind) (sym (own_method file above q m o a b n x low h)) (node_names n x low h);
        }

  -- ---- all nodes

  pub nodes_fit : Each (NodeFits core) core.nodes
  nodes_fit n x h =
      let r = s.parts.node n (omega arith) (get_below q.nodes n x h) in
      let o : Owned = r.1 in
      let a : At file q (1 + r.0) o = r.3.0 in
      let low : length a.before.nodes ≤ n = r.3.1 in
      let high : n < length a.result.1 = r.3.2 in
      elim a.made.ends [
        | inl e ↦ let same : length a.result.1 ≡ length a.before.nodes = ap (λ (y : Option ℕ × List Node). length y.1) e.0 in absurd (omega (arith, low, high, same))
        | inr e ↦
            let b : Bodied file q (1 + r.0) o a = record { last = e.0; after = e.1; is = e.2; built = e.3 } in
            let same : length a.result.1 ≡ length e.1 = ap (λ (y : Option ℕ × List Node). length y.1) e.2 in
            let there : slice_get e.1 n ≡ Some x = elim (append_get e.1 a.extends.nodes n x (ap (λ xs. slice_get xs n) (sym (all_nodes file above q (1 + r.0) o a b)) ∙ h)) [
              | inl c ↦ c
              | inr c ↦ let far = c.0 in absurd (omega (arith, high, same, far))
            ] in
            node_fits r.0 o r.2 (1 + r.0) a b n x low there
      ]
