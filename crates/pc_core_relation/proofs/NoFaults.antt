-- If the names of a file are right, the passes over them find no fault.
use Rattle.std.proofs.{Common.{◌≡◌, ℕ, zero, suc, ◌+◌, ◌<◌, ◌≤◌, ◌&&◌, ◌||◌, List, [], ◌∷◌, ◌++◌, length, map, drop, Option, Some, None, Bool, true, false, not, refl, sym, ap, ap₂, ◌∙◌, subst, arith, append-nil, if◌then◌else◌}, lemmas.Bool.{lt-ltb, le-ltb, and_parts}, lemmas.Option.{same_Some, none-some}, lemmas.List.{length_push, length-append, length-map, append_assoc}}
use Rattle.std.specs.{Prelude.{slice_get, nat_lt, codes}, Str.bytes_eq}
use Rattle.pc_base.specs.{Limits.{field_limit, method_limit}, Lists.{Has, Differ, Follow, Text}}
use Rattle.pc_base.proofs.{Bools.true_false, Elements.{has_on, has_front}, Gets.{get_front, get_behind, get_below, get_append, get_drop, get_map}}
use Rattle.pc_tree.specs.{declared.file.ParamDef.ParamDef, declared.written_names.Name.Name, declared.written_names.TypeRef.TypeRef, Kinds.{is_abstract, first_own}}
use Rattle.pc_tree.specs.Tree as t
use Rattle.pc_names.specs.{declared.fault.NameFault.NameFault, Faults.{either_fault, type_faults, provided_faults, field_faults, param_faults, signature_faults, method_faults, added_faults, entity_faults, entity_name_faults, declaration_faults, count_faults, cycle_faults, main_faults, name_faults}, Parts.{where_, result_faults, is_member_name, entities_faults, known_limit, method_count}, Mains.is_main}
use Rattle.pc_names.specs.declared.fault.NameFault.TheVariants as fault
use Rattle.pc_names.specs.declared.fault.Which.TheVariants as which
use Rattle.pc_members.specs.{MemberLists.{is_among, members, with_name, with_traits, trait_names}, Members.{built_in_names, texts_of, entity_names, field_texts, method_texts, has_added, IsTransitiveClosure, own_texts}, Parts.added_text, Founded.IsFounded, Edges.has_number}
use Rattle.pc_members.proofs.{Completed.among_parts, Differences.{among_has, equal_texts, has_among, same_text}, Reaches.{has_in, in_get}}
use Rattle.pc_names.proofs.{CycleFirsts.bad, Founded.Adds}
use Rattle.pc_file_spec.specs.Cores.{owned, members_from}
use Rattle.pc_file_spec.proofs.Entities.{own_entity}
use Rattle.pc_core_relation.specs.{Files.{NamesTrait, SignatureIsRight, DeclarationsAreRight, NamesAreRight}, Parts.param_texts}

-- ---- lists of no faults

none_both : (xs ys : List NameFault) → xs ≡ [] → ys ≡ [] → xs ++ ys ≡ []
none_both xs ys p q = ap₂ (λ a b. a ++ b) p q

no_where : (b : Bool) (f : NameFault) → b ≡ false → where_ b f ≡ []
no_where b f e = ap (λ c. where_ c f) e

no_either : (b c : Bool) (f g : NameFault) → b ≡ false → c ≡ false → either_fault b f c g ≡ []
no_either b c f g p q = ap₂ (λ x y. either_fault x f y g) p q

-- ---- texts that differ

not_among : (x : Text) (xs : List Text) → (Has xs x → ⊥) → is_among x xs ≡ false
not_among x xs n = by (is_among x xs) refl
  where
    by : (b : Bool) → is_among x xs ≡ b → b ≡ false
    by true e = absurd (n (among_has x xs e))
    by false e = refl

differ_adds : (base xs : List Text) → Differ (base ++ xs) → Adds base xs
differ_adds base [] d = tt
differ_adds base (x ∷ xs) d = (not_among x base fresh, differ_adds (base ++ x ∷ []) xs (subst Differ (sym (append_assoc base (x ∷ []) xs)) d))
  where
    fresh : Has base x → ⊥
    fresh h =
        let low = get_below base h.0 x h.1 in
        let same : h.0 ≡ length base = d h.0 (length base) x (get_front base (x ∷ xs) h.0 x h.1) (get_behind base x xs) in
        omega (arith, low, same)

differ_front : (xs ys : List Text) → Differ (xs ++ ys) → Differ xs
differ_front xs ys d i j x g h = d i j x (get_front xs ys i x g) (get_front xs ys j x h)

differ_behind : (xs ys : List Text) → Differ (xs ++ ys) → Differ ys
differ_behind xs ys d i j x g h =
    let same : length xs + i ≡ length xs + j = d (length xs + i) (length xs + j) x (get_append xs ys i ∙ g) (get_append xs ys j ∙ h) in
    omega (arith, same)

-- ---- the names of entities

no_names : (known : List Text) (es : List t.Entity) → Adds known (texts_of es) → length known + length es ≤ known_limit → entity_name_faults known es ≡ []
no_names known [] a l = refl
no_names known (e ∷ es) a l =
    let low : length known < known_limit = omega (arith, l) in
    let count : length (known ++ e.name.text ∷ []) ≡ length known + 1 = length_push known e.name.text in
    let room : not (nat_lt (length known) known_limit) ≡ false = ap not (lt-ltb (length known) known_limit low) in
    none_both (either_fault (is_among e.name.text known) (fault.Double e.name.span) (not (nat_lt (length known) known_limit)) (fault.TooMany which.Entities e.name.span)) (entity_name_faults (known ++ e.name.text ∷ []) es)
    (no_either (is_among e.name.text known) (not (nat_lt (length known) known_limit)) (fault.Double e.name.span) (fault.TooMany which.Entities e.name.span) a.0 room)
    (no_names (known ++ e.name.text ∷ []) es a.1 (omega (arith, l, count)))

-- ---- traits

name_there : (names : List Text) (x : Text) → Has (with_name names x) x
name_there names x = by (is_among x names) refl
  where
    by : (b : Bool) → is_among x names ≡ b → Has (if b then names else names ++ x ∷ []) x
    by true e = among_has x names e
    by false e = (length names, get_behind names x [])

name_kept : (names : List Text) (x y : Text) → Has names y → Has (with_name names x) y
name_kept names x y h = by (is_among x names)
  where
    by : (b : Bool) → Has (if b then names else names ++ x ∷ []) y
    by true = h
    by false = has_front names (x ∷ []) y h

trait_kept : (es : List t.Entity) (known : List Text) (x : Text) → Has known x → Has (with_traits known es) x
trait_kept [] known x h = h
trait_kept (e ∷ es) known x h = trait_kept es (if is_abstract e.kind then with_name known e.name.text else known) x (by (is_abstract e.kind))
  where
    by : (b : Bool) → Has (if b then with_name known e.name.text else known) x
    by true = name_kept known e.name.text x h
    by false = h

trait_there : (es : List t.Entity) (known : List Text) (i : ℕ) (e : t.Entity) → slice_get es i ≡ Some e → is_abstract e.kind ≡ true → Has (with_traits known es) e.name.text
trait_there [] known i e h a = absurd (none-some e h)
trait_there (x ∷ es) known zero e h a =
    let here : Has (if is_abstract e.kind then with_name known e.name.text else known) e.name.text =
    subst (λ b. Has (if b then with_name known e.name.text else known) e.name.text) (sym a) (name_there known e.name.text) in
    subst (λ (y : t.Entity). Has (with_traits (if is_abstract y.kind then with_name known y.name.text else known) es) e.name.text) (sym (same_Some x e h))
    (trait_kept es (if is_abstract e.kind then with_name known e.name.text else known) e.name.text here)
trait_there (x ∷ es) known (suc i) e h a = trait_there es (if is_abstract x.kind then with_name known x.name.text else known) i e h a

named_trait : (file : t.File) (n : Name) → NamesTrait file n → Has (trait_names file.entities) n.text
named_trait file n r = subst (Has (trait_names file.entities)) r.3 (trait_there file.entities [] r.1.0 r.0 r.1.1 r.2)

-- ---- declarations

no_type : (names : List Text) (ty : TypeRef) → Has names ty.name.text → type_faults names ty ≡ []
no_type names ty h = no_where (not (is_among ty.name.text names)) (fault.Unknown ty.name.span) (ap not (has_among ty.name.text names h))

no_result : (names : List Text) (r : Option TypeRef) → ((ty : TypeRef) → r ≡ Some ty → Has names ty.name.text) → result_faults names r ≡ []
no_result names None h = refl
no_result names (Some ty) h = no_type names ty (h ty refl)

no_provided : (traits known : List Text) (ns : List Name) → ((n : Name) → Has ns n → Has traits n.text) → Adds known (map (λ (n : Name). n.text) ns) → provided_faults traits known ns ≡ []
no_provided traits known [] h a = refl
no_provided traits known (n ∷ ns) h a =
    none_both (either_fault (not (is_among n.text traits)) (fault.Unknown n.span) (is_among n.text known) (fault.Double n.span)) (provided_faults traits (known ++ n.text ∷ []) ns)
    (no_either (not (is_among n.text traits)) (is_among n.text known) (fault.Unknown n.span) (fault.Double n.span) (ap not (has_among n.text traits (h n (0, refl)))) a.0)
    (no_provided traits (known ++ n.text ∷ []) ns (λ m g. h m (has_on n ns m g)) a.1)

no_fields : (names known : List Text) (fs : List t.Field) → Adds known (field_texts fs) → length known + length fs ≤ field_limit → ((f : t.Field) → Has fs f → Has names f.ty.name.text) → field_faults names known fs ≡ []
no_fields names known [] a l h = refl
no_fields names known (f ∷ fs) a l h =
    let low : length known < field_limit = omega (arith, l) in
    let count : length (known ++ f.name.text ∷ []) ≡ length known + 1 = length_push known f.name.text in
    let room : not (nat_lt (length known) field_limit) ≡ false = ap not (lt-ltb (length known) field_limit low) in
    none_both (either_fault (is_among f.name.text known) (fault.Double f.name.span) (not (nat_lt (length known) field_limit)) (fault.TooMany which.Fields f.name.span)) (type_faults names f.ty ++ field_faults names (known ++ f.name.text ∷ []) fs)
    (no_either (is_among f.name.text known) (not (nat_lt (length known) field_limit)) (fault.Double f.name.span) (fault.TooMany which.Fields f.name.span) a.0 room)
    (none_both (type_faults names f.ty) (field_faults names (known ++ f.name.text ∷ []) fs) (no_type names f.ty (h f (0, refl)))
    (no_fields names (known ++ f.name.text ∷ []) fs a.1 (omega (arith, l, count)) (λ g k. h g (has_on f fs g k))))

no_params : (names fields known : List Text) (ps : List ParamDef) → Adds (fields ++ known) (param_texts ps) → ((p : ParamDef) → Has ps p → Has names p.ty.name.text) → param_faults names fields known ps ≡ []
no_params names fields known [] a h = refl
no_params names fields known (p ∷ ps) a h =
    let fresh : (is_among p.name.text fields || is_among p.name.text known) ≡ false = sym (among_parts p.name.text fields known) ∙ a.0 in
    let rest : Adds (fields ++ (known ++ p.name.text ∷ [])) (param_texts ps) = subst (λ b. Adds b (param_texts ps)) (append_assoc fields known (p.name.text ∷ [])) a.1 in
    none_both (where_ (is_among p.name.text fields || is_among p.name.text known) (fault.Double p.name.span)) (type_faults names p.ty ++ param_faults names fields (known ++ p.name.text ∷ []) ps)
    (no_where (is_among p.name.text fields || is_among p.name.text known) (fault.Double p.name.span) fresh)
    (none_both (type_faults names p.ty) (param_faults names fields (known ++ p.name.text ∷ []) ps) (no_type names p.ty (h p (0, refl)))
    (no_params names fields (known ++ p.name.text ∷ []) ps rest (λ q k. h q (has_on p ps q k))))

no_methods : (names fields known : List Text) (ms : List t.Method) → Adds (fields ++ known) (method_texts ms) → ((m : t.Method) → Has ms m → signature_faults names fields m ≡ []) → method_faults names fields known ms ≡ []
no_methods names fields known [] a h = refl
no_methods names fields known (m ∷ ms) a h =
    let fresh : (is_among m.name.text fields || is_among m.name.text known) ≡ false = sym (among_parts m.name.text fields known) ∙ a.0 in
    let rest : Adds (fields ++ (known ++ m.name.text ∷ [])) (method_texts ms) = subst (λ b. Adds b (method_texts ms)) (append_assoc fields known (m.name.text ∷ [])) a.1 in
    none_both (where_ (is_among m.name.text fields || is_among m.name.text known) (fault.Double m.name.span)) (signature_faults names fields m ++ method_faults names fields (known ++ m.name.text ∷ []) ms)
    (no_where (is_among m.name.text fields || is_among m.name.text known) (fault.Double m.name.span) fresh)
    (none_both (signature_faults names fields m) (method_faults names fields (known ++ m.name.text ∷ []) ms) (h m (0, refl))
    (no_methods names fields (known ++ m.name.text ∷ []) ms rest (λ x k. h x (has_on m ms x k))))

-- Texts after these, with no known ones in between.
adds_behind : (fields xs : List Text) → Differ (fields ++ xs) → Adds (fields ++ []) xs
adds_behind fields xs d = subst (λ b. Adds b xs) (sym (append-nil fields)) (differ_adds fields xs d)

no_signature : (file : t.File) (fields : List t.Field) (m : t.Method) → SignatureIsRight file fields m → signature_faults (entity_names file) (field_texts fields) m ≡ []
no_signature file fields m f =
    none_both (param_faults (entity_names file) (field_texts fields) [] m.params) (result_faults (entity_names file) m.result)
    (no_params (entity_names file) (field_texts fields) [] m.params (adds_behind (field_texts fields) (param_texts m.params) f.names) f.params)
    (no_result (entity_names file) m.result f.result)

no_added : (e : t.Entity) → Differ (own_texts e) → added_faults e ≡ []
no_added e d = no_where (has_added e && is_member_name (codes "create") e) (fault.Double e.name.span) (by (has_added e) d)
  where
    by : (b : Bool) → Differ (field_texts e.fields ++ (method_texts e.methods ++ added_text b)) → (b && is_member_name (codes "create") e) ≡ false
    by false d = refl
    by true d =
        let whole : Differ ((field_texts e.fields ++ method_texts e.methods) ++ codes "create" ∷ []) = subst Differ (sym (append_assoc (field_texts e.fields) (method_texts e.methods) (codes "create" ∷ []))) d in
        sym (among_parts (codes "create") (field_texts e.fields) (method_texts e.methods)) ∙ (differ_adds (field_texts e.fields ++ method_texts e.methods) (codes "create" ∷ []) whole).0

no_entity : (file : t.File) (e : t.Entity) → DeclarationsAreRight file e → entity_faults (entity_names file) (trait_names file.entities) e ≡ []
no_entity file e f =
    let names = entity_names file in
    let traits = trait_names file.entities in
    let fields : List Text = field_texts e.fields in
    let methods : List Text = method_texts e.methods in
    let both : Differ (fields ++ methods) = differ_front (fields ++ methods) (added_text (has_added e)) (subst Differ (sym (append_assoc fields methods (added_text (has_added e)))) f.names) in
    let few = f.few_fields in
    none_both (added_faults e) (provided_faults traits [] e.provides ++ (field_faults names [] e.fields ++ method_faults names fields [] e.methods)) (no_added e f.names)
    (none_both (provided_faults traits [] e.provides) (field_faults names [] e.fields ++ method_faults names fields [] e.methods)
    (no_provided traits [] e.provides (λ n h. named_trait file n (f.provides n h)) (differ_adds [] (map (λ (n : Name). n.text) e.provides) f.provides_differ))
    (none_both (field_faults names [] e.fields) (method_faults names fields [] e.methods)
    (no_fields names [] e.fields (differ_adds [] fields (differ_front fields methods both)) (omega (arith, few)) f.fields)
    (no_methods names fields [] e.methods (adds_behind fields methods both) (λ m h. no_signature file e.fields m (f.methods m h)))))

no_entities : (file : t.File) (es : List t.Entity) → ((e : t.Entity) → Has es e → DeclarationsAreRight file e) → entities_faults (entity_names file) (trait_names file.entities) es ≡ []
no_entities file [] h = refl
no_entities file (e ∷ es) h =
    none_both (entity_faults (entity_names file) (trait_names file.entities) e) (entities_faults (entity_names file) (trait_names file.entities) es) (no_entity file e (h e (0, refl)))
    (no_entities file es (λ x k. h x (has_on e es x k)))

-- ---- cycles

no_cycles : (n : ℕ) (es : List t.Entity) (ls : List (List ℕ)) → ((j : ℕ) (d : t.Entity) (m : List ℕ) → slice_get es j ≡ Some d → slice_get ls j ≡ Some m → bad (n + j) d m ≡ false) → cycle_faults n es ls ≡ []
no_cycles n [] ls h = refl
no_cycles n (e ∷ es) [] h = refl
no_cycles n (e ∷ es) (l ∷ ls) h =
    let zeros : n ≡ n + 0 = omega arith in
    let later : (j : ℕ) → n + 1 + j ≡ n + suc j = λ j. omega arith in
    none_both (where_ (bad n e l) (fault.Cycle e.name.span)) (cycle_faults (n + 1) es ls)
    (no_where (bad n e l) (fault.Cycle e.name.span) (ap (λ k. bad k e l) zeros ∙ h 0 e l refl refl))
    (no_cycles (n + 1) es ls (λ j d m g k. ap (λ i. bad i d m) (later j) ∙ h (suc j) d m g k))

straight_none : (file : t.File) (above : List (List ℕ)) → IsTransitiveClosure file above → NamesAreRight file → cycle_faults first_own file.entities (drop first_own above) ≡ []
straight_none file above closed f = no_cycles first_own file.entities (drop first_own above) (λ j d m g k. by j d m g k (bad (first_own + j) d m) refl)
  where
    by : (j : ℕ) (d : t.Entity) (m : List ℕ) → slice_get file.entities j ≡ Some d → slice_get (drop first_own above) j ≡ Some m → (b : Bool) → bad (first_own + j) d m ≡ b → b ≡ false
    by j d m g k false e = refl
    by j d m g k true e =
        let p = and_parts (is_abstract d.kind) (has_number m (first_own + j)) e in
        let is = closed.1 (first_own + j) m (sym (get_drop above first_own j) ∙ k) in
        let leads = (is.1 (first_own + j)).0 (in_get m (first_own + j) (has_in m (first_own + j) p.1)) in
        absurd (f.straight (first_own + j) (d, own_entity file j d g, p.0, leads))

-- ---- counts

follow_low : (at : ℕ) (runs : List (ℕ × ℕ)) (last : ℕ) → Follow at runs last → at ≤ last
follow_low at [] last f = let e : at ≡ last = f in omega (arith, e)
follow_low at (run ∷ runs) last f = let l : at + run.1 ≤ last = follow_low (at + run.1) runs last f.1 in omega (arith, l)

-- The entities with these counts of methods, after n methods.
pub no_counts : (all es : List t.Entity) (runs : List (ℕ × ℕ)) (n at last : ℕ) → length es ≡ length runs → Follow at runs last → at ≡ 1 + n → last ≤ 1 + method_limit
    → ((i : ℕ) (e : t.Entity) (run : ℕ × ℕ) → slice_get es i ≡ Some e → slice_get runs i ≡ Some run → run.1 ≡ method_count all e) → count_faults all n es ≡ []
no_counts all [] runs n at last l f s few h = refl
no_counts all (e ∷ es) [] n at last l f s few h = absurd (omega (arith, l))
no_counts all (e ∷ es) (run ∷ runs) n at last l f s few h =
    let own : run.1 ≡ method_count all e = h 0 e run refl refl in
    let low : at + run.1 ≤ last = follow_low (at + run.1) runs last f.1 in
    let within : n + method_count all e ≤ method_limit = omega (arith, own, low, s, few) in
    let next : at + run.1 ≡ 1 + (n + method_count all e) = omega (arith, own, s) in
    none_both (where_ (nat_lt method_limit (n + method_count all e)) (fault.TooMany which.Methods e.name.span)) (count_faults all (n + method_count all e) es)
    (no_where (nat_lt method_limit (n + method_count all e)) (fault.TooMany which.Methods e.name.span) (le-ltb method_limit (n + method_count all e) within))
    (no_counts all es runs (n + method_count all e) (at + run.1) last (omega (arith, l)) f.1 next few (λ i x r g k. h (suc i) x r g k))

-- The same, given how many members they have together.
pub few_counts : (all es : List t.Entity) (n k : ℕ) → n + length (members_from all k es) ≤ method_limit → count_faults all n es ≡ []
few_counts all [] n k l = refl
few_counts all (e ∷ es) n k l =
    let own : length (map (owned k e) (members all e)) ≡ method_count all e = length-map (members all e) (owned k e) in
    let sum : length (map (owned k e) (members all e) ++ members_from all (suc k) es) ≡ length (map (owned k e) (members all e)) + length (members_from all (suc k) es) = length-append (map (owned k e) (members all e)) (members_from all (suc k) es) in
    let within : n + method_count all e ≤ method_limit = omega (arith, own, sum, l) in
    let rest : n + method_count all e + length (members_from all (suc k) es) ≤ method_limit = omega (arith, own, sum, l) in
    none_both (where_ (nat_lt method_limit (n + method_count all e)) (fault.TooMany which.Methods e.name.span)) (count_faults all (n + method_count all e) es)
    (no_where (nat_lt method_limit (n + method_count all e)) (fault.TooMany which.Methods e.name.span) (le-ltb method_limit (n + method_count all e) within))
    (few_counts all es (n + method_count all e) (suc k) rest)

-- ---- Main

no_main : (es : List t.Entity) → Differ (texts_of es) → (i : ℕ) (e : t.Entity) → slice_get es i ≡ Some e → e.name.text ≡ codes "Main" → is_main e ≡ true → main_faults es ≡ []
no_main [] d i e h s is = absurd (none-some e h)
no_main (x ∷ es) d i e h s is = by (λ j g. no_main es (λ a b y p q. let k : suc a ≡ suc b = d (suc a) (suc b) y p q in omega (arith, k)) j e g s is) (bytes_eq x.name.text (codes "Main")) refl i h
  where
    by : ((j : ℕ) → slice_get es j ≡ Some e → main_faults es ≡ []) → (b : Bool) → bytes_eq x.name.text (codes "Main") ≡ b → (i : ℕ) → slice_get (x ∷ es) i ≡ Some e
        → (if b then (if is_main x then [] else fault.BadMain x.name.span ∷ []) else main_faults es) ≡ []
    by rest true f zero h = ap (λ c. if c then [] else fault.BadMain x.name.span ∷ []) (ap is_main (same_Some x e h) ∙ is)
    by rest true f (suc i) h =
        let there : slice_get (texts_of (x ∷ es)) (suc i) ≡ Some (codes "Main") = get_map (λ (y : t.Entity). y.name.text) (x ∷ es) (suc i) e h ∙ ap Some s in
        let same : 0 ≡ suc i = d 0 (suc i) (codes "Main") (ap Some (equal_texts x.name.text (codes "Main") f)) there in
        absurd (omega (arith, same))
    by rest false f zero h = absurd (true_false (sym (ap (λ y. bytes_eq y (codes "Main")) (ap (λ (y : t.Entity). y.name.text) (same_Some x e h) ∙ s) ∙ same_text (codes "Main")) ∙ f))
    by rest false f (suc i) h = rest i h

-- ---- the whole file

pub names_founded : (file : t.File) → NamesAreRight file → IsFounded file
names_founded file f = record { names = f.names; provides = λ e n he hn. named_trait file n ((f.entities e he).provides n hn); straight = f.straight }

pub no_faults : (file : t.File) (above : List (List ℕ)) → IsTransitiveClosure file above → NamesAreRight file → count_faults file.entities 0 file.entities ≡ [] → name_faults file above ≡ []
no_faults file above closed f counts =
    let es = file.entities in
    let few = f.few_entities in
    none_both (entity_name_faults built_in_names es) (declaration_faults file ++ (cycle_faults first_own es (drop first_own above) ++ (count_faults es 0 es ++ main_faults es)))
    (no_names built_in_names es (differ_adds built_in_names (texts_of es) f.names) (omega (arith, few)))
    (none_both (declaration_faults file) (cycle_faults first_own es (drop first_own above) ++ (count_faults es 0 es ++ main_faults es)) (no_entities file es f.entities)
    (none_both (cycle_faults first_own es (drop first_own above)) (count_faults es 0 es ++ main_faults es) (straight_none file above closed f)
    (none_both (count_faults es 0 es) (main_faults es) counts
    (no_main es (differ_behind built_in_names (texts_of es) f.names) f.main.1.0 f.main.0 f.main.1.1 f.main.2 f.main.3))))
