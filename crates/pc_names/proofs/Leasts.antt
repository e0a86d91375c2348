-- The faults of an entity are in the order of its places.
use Rattle.std.proofs.{Common.{◌≡◌, ℕ, zero, suc, ◌≤◌, ◌<◌, Bool, true, false, not, ◌||◌, List, [], ◌∷◌, ◌++◌, map, length, Option, Some, None, refl, sym, ap, ◌∙◌, subst, arith}, lemmas.Option.{same_Some, none-some}}
use Rattle.std.specs.Prelude.{slice_get, nat_lt, codes, ◌&&◌}
use Rattle.pc_base.specs.{Limits.field_limit, Lists.{Has, Ascends, Text}}
use Rattle.pc_tree.specs.{declared.file.ParamDef.ParamDef, declared.written_names.Name.Name, declared.written_names.TypeRef.TypeRef}
use Rattle.pc_tree.specs.Tree as t
use Rattle.pc_names.specs.{declared.fault.NameFault.NameFault, Faults.either_fault, Parts.where_, Laws.{FirstIsLeast, fault_start, name_start, result_places, field_places, param_places, method_places, declared_places}}
use Rattle.pc_names.specs.declared.fault.NameFault.TheVariants as fault
use Rattle.pc_names.specs.declared.fault.Which.TheVariants as which
use Rattle.pc_members.specs.{MemberLists.is_among, Members.{has_added, field_texts}}
use Rattle.pc_names.specs.Faults as spec
use Rattle.pc_names.specs.Parts as parts
use Rattle.pc_names.proofs.Ones.{ascends_tail, first_is}

-- The faults are at some of the places, in their order, at most one at a place.
data At : List NameFault → List ℕ → Type 0 where
  done : {ps : List ℕ} → At [] ps
  skip : {fs : List NameFault} {ps : List ℕ} {p : ℕ} → At fs ps → At fs (p ∷ ps)
  keep : {fs : List NameFault} {ps : List ℕ} {f : NameFault} → At fs ps → At (f ∷ fs) (fault_start f ∷ ps)

behind : (ps : List ℕ) {fs : List NameFault} {qs : List ℕ} → At fs qs → At fs (ps ++ qs)
behind [] a = a
behind (p ∷ ps) a = skip (behind ps a)

join : {fs gs : List NameFault} {ps qs : List ℕ} → At fs ps → At gs qs → At (fs ++ gs) (ps ++ qs)
join (done {ps = ps}) b = behind ps b
join (skip a) b = skip (join a b)
join (keep a) b = keep (join a b)

where_at : (b : Bool) (f : NameFault) → At (where_ b f) (fault_start f ∷ [])
where_at true f = keep done
where_at false f = done

either_at : (b c : Bool) (f g : NameFault) → fault_start g ≡ fault_start f → At (either_fault b f c g) (fault_start f ∷ [])
either_at true c f g e = keep done
either_at false c f g e = subst (λ p. At (where_ c g) (p ∷ [])) e (where_at c g)

type_at : (entities : List Text) (ty : TypeRef) → At (spec.type_faults entities ty) (name_start ty.name ∷ [])
type_at entities ty = where_at (not (is_among ty.name.text entities)) (fault.Unknown ty.name.span)

result_at : (entities : List Text) (ty : Option TypeRef) → At (parts.result_faults entities ty) (result_places ty)
result_at entities None = done
result_at entities (Some ty) = type_at entities ty

provided_at : (traits known : List Text) (ns : List Name) → At (spec.provided_faults traits known ns) (map name_start ns)
provided_at traits known [] = done
provided_at traits known (n ∷ ns) =
    join (either_at (not (is_among n.text traits)) (is_among n.text known) (fault.Unknown n.span) (fault.Double n.span) refl) (provided_at traits (known ++ n.text ∷ []) ns)

field_at : (entities known : List Text) (fs : List t.Field) → At (spec.field_faults entities known fs) (field_places fs)
field_at entities known [] = done
field_at entities known (f ∷ fs) =
    join (either_at (is_among f.name.text known) (not (nat_lt (length known) field_limit)) (fault.Double f.name.span) (fault.TooMany which.Fields f.name.span) refl)
    (join (type_at entities f.ty) (field_at entities (known ++ f.name.text ∷ []) fs))

param_at : (entities fields known : List Text) (ps : List ParamDef) → At (spec.param_faults entities fields known ps) (param_places ps)
param_at entities fields known [] = done
param_at entities fields known (p ∷ ps) =
    join (where_at (is_among p.name.text fields || is_among p.name.text known) (fault.Double p.name.span))
    (join (type_at entities p.ty) (param_at entities fields (known ++ p.name.text ∷ []) ps))

method_at : (entities fields known : List Text) (ms : List t.Method) → At (spec.method_faults entities fields known ms) (method_places ms)
method_at entities fields known [] = done
method_at entities fields known (m ∷ ms) =
    join (where_at (is_among m.name.text fields || is_among m.name.text known) (fault.Double m.name.span))
    (join (join (param_at entities fields [] m.params) (result_at entities m.result)) (method_at entities fields (known ++ m.name.text ∷ []) ms))

entity_at : (entities traits : List Text) (e : t.Entity) → At (spec.entity_faults entities traits e) (declared_places e)
entity_at entities traits e =
    join (where_at (has_added e && parts.is_member_name (codes "create") e) (fault.Double e.name.span))
    (join (provided_at traits [] e.provides) (join (field_at entities [] e.fields) (method_at entities (field_texts e.fields) [] e.methods)))

at_place : {fs : List NameFault} {ps : List ℕ} → At fs ps → (g : NameFault) (i : ℕ) → slice_get fs i ≡ Some g → Has ps (fault_start g)
at_place done g i e = absurd (none-some g e)
at_place (skip a) g i e = let h = at_place a g i e in (suc h.0, h.1)
at_place (keep a) g zero e = (0, ap (λ f. Some (fault_start f)) (same_Some _ _ e))
at_place (keep a) g (suc i) e = let h = at_place a g i e in (suc h.0, h.1)

least : {fs : List NameFault} {ps : List ℕ} → At fs ps → Ascends ps → (f g : NameFault) (i : ℕ) → slice_get fs 0 ≡ Some f → slice_get fs i ≡ Some g → fault_start f ≤ fault_start g
least done h f g i ef eg = absurd (none-some f ef)
least (skip {ps = ps} {p = p} a) h f g i ef eg = least a (ascends_tail p ps h) f g i ef eg
least (keep a) h f g zero ef eg = let s = ap fault_start (same_Some _ _ (sym ef ∙ eg)) in omega (arith, s)
least (keep {ps = ps} {f = d} a) h f g (suc i) ef eg =
    let s = ap fault_start (same_Some _ _ ef) in
    let p = at_place a g i eg in
    let l : fault_start d < fault_start g = h 0 (suc p.0) (fault_start d) (fault_start g) (omega arith) refl p.1 in
    omega (arith, s, l)

pub first_is_least : FirstIsLeast
first_is_least entities traits e f g h first o has =
    least (entity_at entities traits e) h f g has.0 (first_is f (spec.entity_faults entities traits e) o first) has.1
