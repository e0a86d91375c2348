-- The faults of names and declarations are at the places of the tree, in their order.
use Rattle.std.proofs.Common.{◌≡◌, ℕ, Bool, true, false, not, ◌||◌, ◌&&◌, List, [], ◌∷◌, ◌++◌, map, length, Option, Some, None, refl, subst}
use Rattle.std.specs.Prelude.{nat_lt, codes}
use Rattle.pc_base.specs.{Limits.field_limit, Lists.Text}
use Rattle.pc_tree.specs.{declared.file.ParamDef.ParamDef, declared.written_names.Name.Name, declared.written_names.TypeRef.TypeRef}
use Rattle.pc_tree.specs.Tree as t
use Rattle.pc_names.specs.{declared.fault.NameFault.NameFault, Faults.either_fault, Parts.where_, Laws.{fault_start, name_start, result_places, field_places, param_places, method_places, declared_places}}
use Rattle.pc_names.specs.declared.fault.NameFault.TheVariants as fault
use Rattle.pc_names.specs.declared.fault.Which.TheVariants as which
use Rattle.pc_members.specs.{MemberLists.is_among, Members.{has_added, field_texts}}
use Rattle.pc_names.specs.Faults as spec
use Rattle.pc_names.specs.Parts as parts
use Rattle.pc_body_spec.proofs.Places.{Sub, none, skip, take, sub_join}
use Rattle.pc_name_laws.proofs.Orders.{entity_start}

-- A list with its places, each of which determines the other.
record Stand (fs : List NameFault) (ns : List ℕ) : Type 0 where
  sub : Sub fault_start fs ns

join : {fs gs : List NameFault} {ns ms : List ℕ} → Stand fs ns → Stand gs ms → Stand (fs ++ gs) (ns ++ ms)
join {fs} {gs} {ns} {ms} a b = record { sub = sub_join fault_start fs gs ns ms a.sub b.sub }

nowhere : Stand [] []
nowhere = record { sub = none }

where_at : (b : Bool) (f : NameFault) → Stand (where_ b f) (fault_start f ∷ [])
where_at true f = record { sub = take f [] [] none }
where_at false f = record { sub = skip [] (fault_start f) [] none }

either_at : (b c : Bool) (f g : NameFault) → fault_start g ≡ fault_start f → Stand (either_fault b f c g) (fault_start f ∷ [])
either_at true c f g e = record { sub = take f [] [] none }
either_at false c f g e = subst (λ n. Stand (where_ c g) (n ∷ [])) e (where_at c g)

name_at : (known : List Text) (es : List t.Entity) → Stand (spec.entity_name_faults known es) (map entity_start es)
name_at known [] = nowhere
name_at known (e ∷ es) =
    join (either_at (is_among e.name.text known) (not (nat_lt (length known) parts.known_limit)) (fault.Double e.name.span) (fault.TooMany which.Entities e.name.span) refl) (name_at (known ++ e.name.text ∷ []) es)

pub names_at : (known : List Text) (es : List t.Entity) → Sub fault_start (spec.entity_name_faults known es) (map entity_start es)
names_at known es = (name_at known es).sub

type_at : (entities : List Text) (ty : TypeRef) → Stand (spec.type_faults entities ty) (name_start ty.name ∷ [])
type_at entities ty = where_at (not (is_among ty.name.text entities)) (fault.Unknown ty.name.span)

result_at : (entities : List Text) (ty : Option TypeRef) → Stand (parts.result_faults entities ty) (result_places ty)
result_at entities None = nowhere
result_at entities (Some ty) = type_at entities ty

provided_at : (traits known : List Text) (ns : List Name) → Stand (spec.provided_faults traits known ns) (map name_start ns)
provided_at traits known [] = nowhere
provided_at traits known (n ∷ ns) = join (either_at (not (is_among n.text traits)) (is_among n.text known) (fault.Unknown n.span) (fault.Double n.span) refl) (provided_at traits (known ++ n.text ∷ []) ns)

field_at : (entities known : List Text) (fs : List t.Field) → Stand (spec.field_faults entities known fs) (field_places fs)
field_at entities known [] = nowhere
field_at entities known (f ∷ fs) =
    join (either_at (is_among f.name.text known) (not (nat_lt (length known) field_limit)) (fault.Double f.name.span) (fault.TooMany which.Fields f.name.span) refl)
    (join (type_at entities f.ty) (field_at entities (known ++ f.name.text ∷ []) fs))

param_at : (entities fields known : List Text) (ps : List ParamDef) → Stand (spec.param_faults entities fields known ps) (param_places ps)
param_at entities fields known [] = nowhere
param_at entities fields known (p ∷ ps) =
    join (where_at (is_among p.name.text fields || is_among p.name.text known) (fault.Double p.name.span)) (join (type_at entities p.ty) (param_at entities fields (known ++ p.name.text ∷ []) ps))

method_at : (entities fields known : List Text) (ms : List t.Method) → Stand (spec.method_faults entities fields known ms) (method_places ms)
method_at entities fields known [] = nowhere
method_at entities fields known (m ∷ ms) =
    join (where_at (is_among m.name.text fields || is_among m.name.text known) (fault.Double m.name.span))
    (join (join (param_at entities fields [] m.params) (result_at entities m.result)) (method_at entities fields (known ++ m.name.text ∷ []) ms))

pub entity_at : (entities traits : List Text) (e : t.Entity) → Sub fault_start (spec.entity_faults entities traits e) (declared_places e)
entity_at entities traits e = whole.sub
  where
    whole : Stand (spec.entity_faults entities traits e) (declared_places e)
    whole =
        join (where_at (has_added e && parts.is_member_name (codes "create") e) (fault.Double e.name.span))
        (join (provided_at traits [] e.provides) (join (field_at entities [] e.fields) (method_at entities (field_texts e.fields) [] e.methods)))
