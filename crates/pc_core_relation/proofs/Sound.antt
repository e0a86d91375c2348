-- If the passes over the names of a file find no fault, its names are right.
use Rattle.std.proofs.{Common.{◌≡◌, zero, suc, ◌||◌, List, [], ◌∷◌, ◌++◌, map, Bool, true, false, not, refl, sym, ◌∙◌, subst, arith, append-nil, if◌then◌else◌}, lemmas.Option.{same_Some, none-some}, lemmas.List.append_assoc}
use Rattle.std.specs.{Prelude.codes, Str.bytes_eq}
use Rattle.pc_base.specs.Lists.{Has, Differ, Text}
use Rattle.pc_base.proofs.{Cuts.{nil_left, nil_right}, Elements.differ_none, Gets.get_front}
use Rattle.pc_tree.specs.{declared.file.ParamDef.ParamDef, declared.written_names.Name.Name}
use Rattle.pc_tree.specs.Tree as t
use Rattle.pc_names.specs.{declared.fault.NameFault.NameFault, Faults.{either_fault, type_faults, provided_faults, field_faults, param_faults, signature_faults, method_faults, added_faults, entity_faults, entity_name_faults, declaration_faults, main_faults, NamesData, Collected}, Parts.{where_, entities_faults}, Mains.is_main}
use Rattle.pc_names.specs.declared.fault.NameFault.TheVariants as fault
use Rattle.pc_members.specs.{MemberLists.{is_among, trait_names}, Members.{built_in_names, entity_names, field_texts, method_texts, has_added, own_texts}, Parts.added_text}
use Rattle.pc_members.proofs.{Completed.among_parts, Differences.{differ_push, equal_texts}, Named.is_trait_named}
use Rattle.pc_names.proofs.Founded.{where_none, either_none, Adds, adds_differ, collected_founded}
use Rattle.pc_file_spec.proofs.Collects.{Sound, Collects, collects}
use Rattle.pc_core_relation.specs.{Files.{SignatureIsRight, DeclarationsAreRight, NamesAreRight}, Parts.param_texts}

-- ---- names in an `is` list, and of parameters

provided_add : (traits known : List Text) (ns : List Name) → provided_faults traits known ns ≡ [] → Adds known (map (λ (n : Name). n.text) ns)
provided_add traits known [] h = tt
provided_add traits known (n ∷ ns) h =
    let own : List NameFault = either_fault (not (is_among n.text traits)) (fault.Unknown n.span) (is_among n.text known) (fault.Double n.span) in
    let rest : List NameFault = provided_faults traits (known ++ n.text ∷ []) ns in
    ((either_none (not (is_among n.text traits)) (fault.Unknown n.span) (is_among n.text known) (fault.Double n.span) (nil_left own rest h)).1, provided_add traits (known ++ n.text ∷ []) ns (nil_right own rest h))

params_add : (names fields known : List Text) (ps : List ParamDef) → param_faults names fields known ps ≡ [] → Adds (fields ++ known) (param_texts ps)
params_add names fields known [] h = tt
params_add names fields known (p ∷ ps) h =
    let own : List NameFault = where_ (is_among p.name.text fields || is_among p.name.text known) (fault.Double p.name.span) in
    let next : List NameFault = param_faults names fields (known ++ p.name.text ∷ []) ps in
    let rest : List NameFault = type_faults names p.ty ++ next in
    let fresh : is_among p.name.text (fields ++ known) ≡ false = among_parts p.name.text fields known ∙ where_none (is_among p.name.text fields || is_among p.name.text known) (fault.Double p.name.span) (nil_left own rest h) in
    (fresh, subst (λ b. Adds b (param_texts ps)) (sym (append_assoc fields known (p.name.text ∷ []))) (params_add names fields (known ++ p.name.text ∷ []) ps (nil_right (type_faults names p.ty) next (nil_right own rest h))))

-- There is no fault inside a method.
method_none : (names fields known : List Text) (ms : List t.Method) → method_faults names fields known ms ≡ [] → (m : t.Method) → Has ms m → signature_faults names fields m ≡ []
method_none names fields known [] h m g = absurd (none-some m g.1)
method_none names fields known (x ∷ ms) h m g =
    let own : List NameFault = where_ (is_among x.name.text fields || is_among x.name.text known) (fault.Double x.name.span) in
    let next : List NameFault = method_faults names fields (known ++ x.name.text ∷ []) ms in
    let tail : signature_faults names fields x ++ next ≡ [] = nil_right own (signature_faults names fields x ++ next) h in
    first (nil_left (signature_faults names fields x) next tail) (method_none names fields (known ++ x.name.text ∷ []) ms (nil_right (signature_faults names fields x) next tail)) m g
  where
    first : signature_faults names fields x ≡ [] → ((m : t.Method) → Has ms m → signature_faults names fields m ≡ []) → (m : t.Method) → Has (x ∷ ms) m → signature_faults names fields m ≡ []
    first a b m (zero, g) = subst (λ (y : t.Method). signature_faults names fields y ≡ []) (same_Some x m g) a
    first a b m (suc i, g) = b m (i, g)

entity_none : (names traits : List Text) (es : List t.Entity) → entities_faults names traits es ≡ [] → (e : t.Entity) → Has es e → entity_faults names traits e ≡ []
entity_none names traits [] h e g = absurd (none-some e g.1)
entity_none names traits (x ∷ es) h e g = first (nil_left (entity_faults names traits x) (entities_faults names traits es) h) (entity_none names traits es (nil_right (entity_faults names traits x) (entities_faults names traits es) h)) e g
  where
    first : entity_faults names traits x ≡ [] → ((e : t.Entity) → Has es e → entity_faults names traits e ≡ []) → (e : t.Entity) → Has (x ∷ es) e → entity_faults names traits e ≡ []
    first a b e (zero, g) = subst (λ (y : t.Entity). entity_faults names traits y ≡ []) (same_Some x e g) a
    first a b e (suc i, g) = b e (i, g)

-- ---- Main

abbrev IsNone : {T : Type 0} → List T → Type 0
IsNone [] = Unit {0}
IsNone (x ∷ xs) = ⊥

abbrev HasMain : List t.Entity → Type 0
HasMain es = (e : t.Entity) × Has es e × (e.name.text ≡ codes "Main") × (is_main e ≡ true)

main_there : (es : List t.Entity) → main_faults es ≡ [] → HasMain es
main_there [] h = absurd (subst IsNone (sym h) tt)
main_there (e ∷ es) h = by (λ g. main_there es g) (bytes_eq e.name.text (codes "Main")) refl (is_main e) refl h
  where
    by : (main_faults es ≡ [] → HasMain es) → (a : Bool) → bytes_eq e.name.text (codes "Main") ≡ a → (b : Bool) → is_main e ≡ b → (if a then (if b then [] else fault.BadMain e.name.span ∷ []) else main_faults es) ≡ [] → HasMain (e ∷ es)
    by rest true f true g k = (e, (0, refl), equal_texts e.name.text (codes "Main") f, g)
    by rest true f false g k = absurd (subst IsNone (sym k) tt)
    by rest false f b g k = let r = rest k in (r.0, (suc r.1.0, r.1.1), r.2, r.3)

-- ---- the whole file

module _ (file : t.File) (names : NamesData) (c : Collected file names) where
  declared : declaration_faults file ≡ []
  declared = nil_left (declaration_faults file) _ (nil_right (entity_name_faults built_in_names file.entities) _ c.faults)

  method_fits : (e : t.Entity) (m : t.Method) → Has file.entities e → Has e.methods m → Sound file e → SignatureIsRight file e.fields m
  method_fits e m he hm s =
      let entities = entity_names file in
      let traits = trait_names file.entities in
      let fields : List Text = field_texts e.fields in
      let none : entity_faults entities traits e ≡ [] = entity_none entities traits file.entities declared e he in
      let inner : field_faults entities [] e.fields ++ method_faults entities fields [] e.methods ≡ [] = nil_right (provided_faults traits [] e.provides) _ (nil_right (added_faults e) _ none) in
      let own : signature_faults entities fields m ≡ [] = method_none entities fields [] e.methods (nil_right (field_faults entities [] e.fields) _ inner) m hm in
      let adds : Adds fields (param_texts m.params) = subst (λ b. Adds b (param_texts m.params)) (append-nil fields) (params_add entities fields [] m.params (nil_left (param_faults entities fields [] m.params) _ own)) in
      let front : Differ fields = λ i j x g h. s.differ i j x (get_front fields (method_texts e.methods) i x g) (get_front fields (method_texts e.methods) j x h) in
      record { names = adds_differ fields (param_texts m.params) front adds; params = (s.methods m hm).params; result = (s.methods m hm).result }

  own_differ : (e : t.Entity) → Sound file e → Differ (own_texts e)
  own_differ e s = by (has_added e) refl
    where
      by : (b : Bool) → has_added e ≡ b → Differ (field_texts e.fields ++ (method_texts e.methods ++ added_text b))
      by false h = subst (λ ys. Differ (field_texts e.fields ++ ys)) (sym (append-nil (method_texts e.methods))) s.differ
      by true h = subst Differ (append_assoc (field_texts e.fields) (method_texts e.methods) (codes "create" ∷ [])) (differ_push (codes "create") (field_texts e.fields ++ method_texts e.methods) s.differ (s.added h))

  entity_fits : (e : t.Entity) → Has file.entities e → DeclarationsAreRight file e
  entity_fits e he =
      let s : Sound file e = (collects file names c).sound e he in
      let entities = entity_names file in
      let traits = trait_names file.entities in
      let none : entity_faults entities traits e ≡ [] = entity_none entities traits file.entities declared e he in
      let provided : provided_faults traits [] e.provides ≡ [] = nil_left (provided_faults traits [] e.provides) _ (nil_right (added_faults e) _ none) in
      record {
        provides = λ n h. is_trait_named file.entities n.text (s.provides n h);
        provides_differ = adds_differ [] (map (λ (n : Name). n.text) e.provides) differ_none (provided_add traits [] e.provides provided);
        names = own_differ e s;
        few_fields = s.few_fields;
        fields = s.fields;
        methods = λ m hm. method_fits e m he hm s;
      }

  pub names_are_right : NamesAreRight file
  names_are_right =
      let whole : Collects file names.above = collects file names c in
      let founded = collected_founded file names c in
      let few = whole.few in
      record { names = founded.names; few_entities = omega (arith, few); entities = entity_fits; straight = founded.straight; main = main_there file.entities whole.main }
