-- The methods of a file's core fit.
use Rattle.std.proofs.{Common.{◌≡◌, ℕ, zero, suc, ◌+◌, ◌<◌, ◌≤◌, List, ◌++◌, length, map, Option, Some, true, refl, sym, ap, ◌∙◌, subst, arith, inl, inr}, lemmas.Option.{same_Some, none-some}, lemmas.List.append_assoc}
use Rattle.std.specs.Prelude.{slice_get, slice_range, ◌⊎◌, IsSome, codes}
use Rattle.pc_base.proofs.Gets.{get_below, map_get}
use Rattle.pc_tree.specs.declared.kinds.MethodWord.TheVariants as word
use Rattle.pc_tree.specs.Kinds.{is_abstract, first_own}
use Rattle.pc_tree.specs.Tree as t
use Rattle.pc_core.specs.{declared.declarations.Method.Method, declared.declarations.ParamInfo.ParamInfo, declared.nodes.Node.Node, declared.nodes.Slot.Slot, CoreData.{CoreData, own_slots}, Entities.print_method, Methods.{MethodFits, SlotsFit, LocalFits, BodyFits}}
use Rattle.pc_base.specs.Lists.{Each, Has}
use Rattle.pc_body_spec.specs.Fold.{local_slot}
use Rattle.pc_members.specs.MemberLists.{members}
use Rattle.pc_file_spec.specs.Cores.{Owned, known_of, context_of, slots_from, member_locals, Parts, core_with, core_entity}
use Rattle.pc_file_spec.proofs.{Tables.{text_below, language_kept}, Steps.{member_names, slots_count}, Owners.{starts, Owner, owner_of}, Origins.{Sort, sort_of}, Types.all_count, Parts.At, Definitions.{MemberOrder, param_count}, Settings.{Setting, all_members, entities_length, entity_get, method_at, method_cases}, Entities.text_there, Declared.{placed_of, member_stands, bodiless, member_order, params_below, member_result, member_fits}, Locals.{Bodied, body_fits, local_fits, params_count}, Ranges.range_middle}

module _ (file : t.File) (above : List (List ℕ)) (q : Parts) (s : Setting file above q) where
  abbrev core : CoreData
  core = core_with file above q

  -- ---- one member

  module _ (place : ℕ) (o : Owned) (h : slice_get (all_members file) place ≡ Some o) (m : ℕ) (a : At file q m o) where
    abbrev number : ℕ
    number = length a.before.methods

    abbrev this_method : Method
    this_method = method_at file q m o a

    abbrev new_slots : List Slot
    new_slots = slots_from (context_of file o) number o

    pub owner : Owner file.entities file.entities first_own place o
    owner = owner_of file.entities file.entities first_own place o h

    pub is_entity : Has file.entities o.owner
    is_entity = (owner.entity, owner.is_owner)

    pub is_member : Has (members file.entities o.owner) o.member
    is_member = (owner.place, owner.is_member)

    pub sort : Sort file o.owner o.member
    sort = sort_of file above o.owner o.member s.collects is_entity is_member

    pub owner_below : o.number < first_own + length file.entities
    owner_below = let low = get_below file.entities owner.entity o.owner owner.is_owner in let e = owner.number in omega (arith, low, e)

    pub ordered : MemberOrder o.owner o.member
    ordered = member_order file o.owner o.member s.ordered s.placed is_entity sort

    own_slots_are : own_slots core this_method ≡ new_slots
    own_slots_are =
        let whole : q.slots ≡ a.before.slots ++ (new_slots ++ a.extends.slots) = a.extends.is_slots ∙ append_assoc a.before.slots new_slots a.extends.slots in
        ap (λ xs. slice_range xs (length a.before.slots) (length a.before.slots + length new_slots)) whole ∙ range_middle a.before.slots new_slots a.extends.slots (length a.before.slots + length new_slots) refl

    locals_fit : Each (λ i x. LocalFits core number (1 + length this_method.params + i) x) (map (local_slot (context_of file o) number) (member_locals o.owner o.member))
    locals_fit i x e =
        let r = map_get (local_slot (context_of file o) number) (member_locals o.owner o.member) i x e in
        elim a.made.ends [
          | inl n ↦
              let none = (bodiless (context_of file o) o.owner o.member (placed_of file o.owner o.member s.placed sort) n.1).1 in
              absurd (none-some r.0 (ap (λ ls. slice_get ls i) (sym none) ∙ r.1))
          | inr y ↦
              let b : Bodied file q m o a = record { last = y.0; after = y.1; is = y.2; built = y.3 } in
              let all = all_count file in
              let total = entities_length file above q in
              let size : length (context_of file o).entities ≤ length core.entities = omega (arith, all, total) in
              let fits : LocalFits core number (1 + param_count o.member + i) (local_slot (context_of file o) number r.0) = local_fits file above q m o a b i r.0 ordered a.made.no_fault size r.1 in
              let count : param_count o.member ≡ length this_method.params = sym (params_count (context_of file o) o.member) in
              subst (λ k. LocalFits core number (1 + k + i) x) count (subst (λ z. LocalFits core number (1 + param_count o.member + i) z) r.2 fits)
        ]

    slots_fit : SlotsFit core number this_method
    slots_fit = (map (local_slot (context_of file o) number) (member_locals o.owner o.member), own_slots_are, locals_fit)

    few_slots : length new_slots ≤ 64
    few_slots = let few = a.made.few in let count : length new_slots ≡ 1 + length (member_names o.owner o.member) = slots_count (context_of file o) number o in omega (arith, few, count)

    number_is_some : (y : Option ℕ) (k : ℕ) → y ≡ Some k → IsSome y
    number_is_some y k e = subst IsSome (sym e) refl

    has_body : (is_abstract o.owner.kind ≡ true) ⊎ IsSome this_method.body
    has_body = elim a.made.ends [
      | inl n ↦ inl (bodiless (context_of file o) o.owner o.member (placed_of file o.owner o.member s.placed sort) n.1).0
      | inr y ↦ inr (number_is_some a.result.0 y.0 (ap (λ (r : Option ℕ × List Node). r.0) y.2))
    ]

    bodies : (k : ℕ) → this_method.body ≡ Some k → BodyFits core number this_method k
    bodies k e = elim a.made.ends [
      | inl n ↦ absurd (none-some k (sym (ap (λ (r : Option ℕ × List Node). r.0) n.0) ∙ e))
      | inr y ↦
          let b : Bodied file q m o a = record { last = y.0; after = y.1; is = y.2; built = y.3 } in
          let same : y.0 ≡ k = same_Some y.0 k (sym (ap (λ (r : Option ℕ × List Node). r.0) y.2) ∙ e) in
          subst (BodyFits core number this_method) same (body_fits file above q m o a b)
    ]

    pub member_fit : MethodFits core number this_method
    member_fit =
        let total = entities_length file above q in
        let below = owner_below in
        let result = member_result file above o.owner o.number o.member s.collects sort below in
        record {
          owner = core_entity file above (first_own + owner.entity) (1 + starts file.entities file.entities owner.entity) o.owner;
          is_owner = ap (slice_get core.entities) owner.number ∙ entity_get file above q owner.entity o.owner owner.is_owner;
          placed = member_stands o.owner o.member (placed_of file o.owner o.member s.placed sort);
          name = text_below core.names _ (text_there file above q s o.owner o.member is_entity is_member);
          params = λ i p e. let l = params_below file above o.owner o.member s.collects sort i p e in omega (arith, l, total);
          result = omega (arith, result, total);
          result_fits = member_fits (known_of file) o.owner.kind o.number o.member this_method refl refl refl;
          few_slots = few_slots;
          slots = inr slots_fit;
          has_body = inr has_body;
          body = bodies;
        }

  -- ---- all methods

  print_fits : MethodFits core 0 (print_method 1)
  print_fits =
      let some_text = get_below core.names 1 (codes "print") (language_kept file 1 (codes "print") refl) in
      let total = entities_length file above q in
      record {
        owner = _;
        is_owner = refl;
        placed = (word.Be, refl, refl);
        name = some_text;
        params = one;
        result = omega (arith, total);
        result_fits = (refl, refl);
        few_slots = omega arith;
        slots = inl refl;
        has_body = inl refl;
        body = λ b e. absurd (none-some b e);
      }
    where
      one : Each (λ i p. p.entity < length core.entities) (print_method 1).params
      one zero p e = let total = entities_length file above q in let same : 3 ≡ p.entity = ap (λ (x : ParamInfo). x.entity) (same_Some _ p e) in omega (arith, total, same)
      one (suc i) p e = absurd (none-some p e)

  pub methods_fit : Each (MethodFits core) core.methods
  methods_fit n x h = elim (method_cases file above q s n x h) [
    | inl a ↦ subst (λ k. MethodFits core k x) (sym a.0) (subst (λ y. MethodFits core 0 y) a.1 print_fits)
    | inr f ↦ subst (λ k. MethodFits core k x) (f.at.number ∙ sym f.number) (subst (λ y. MethodFits core (length f.at.before.methods) y) f.same (member_fit f.place f.owned f.is_member (1 + f.place) f.at))
  ]
