-- Loops over declarations that stop at a fault.
use Rattle.std.proofs.{Common.{◌≡◌, ℕ, suc, ◌<◌, false, not, ◌||◌, List, [], ◌∷◌, ◌++◌, map, length, drop, get_or, sym, ap, subst, ◌∙◌}, Math.Seq.drop-cons}
use Rattle.std.specs.Prelude.{nat_lt}
use Rattle.pc_tree.specs.{View.{entity_view, field_view, method_view}, declared.file.Entity.Entity, declared.file.FieldDef.FieldDef, declared.file.MethodDef.MethodDef, declared.file.ParamDef.ParamDef, declared.written_names.Name.Name}
use Rattle.pc_names.specs.{declared.fault.NameFault.NameFault, Faults.{IsFirstNameFault, either_fault, type_faults, field_faults, param_faults, signature_faults, method_faults, entity_faults}, Parts.{where_, entities_faults}}
use Rattle.pc_names.specs.declared.fault.NameFault.TheVariants as fault
use Rattle.pc_names.specs.declared.fault.Which.TheVariants as which
use Rattle.pc_base.specs.{Lists.Text, Limits.field_limit}
use Rattle.pc_members.specs.MemberLists.{is_among}
use Rattle.pc_names.proofs.Firsts.{is_first_on}

-- A list from a place on.
pub from_here : {T : Type 0} → (xs : List T) (i : ℕ) (x : T) → i < length xs → x ≡ get_or xs i x → drop i xs ≡ x ∷ drop (suc i) xs
from_here xs i x l is = drop-cons xs i x l ∙ ap (λ y. y ∷ drop (suc i) xs) (sym is)

pub entity_stops : (entities traits : List Text) (all : List Entity) (i : ℕ) (x : Entity) (e : NameFault) → i < length all → x ≡ get_or all i x
    → entities_faults entities traits (map entity_view all) ≡ entities_faults entities traits (map entity_view (drop i all))
    → IsFirstNameFault e (entity_faults entities traits (entity_view x)) → IsFirstNameFault e (entities_faults entities traits (map entity_view all))
entity_stops entities traits all i x e l is left first =
    let rest : List NameFault = entities_faults entities traits (map entity_view (drop (suc i) all)) in
    let same = left ∙ ap (λ ys. entities_faults entities traits (map entity_view ys)) (from_here all i x l is) in
    subst (λ fs. IsFirstNameFault e fs) (sym same) (is_first_on e (entity_faults entities traits (entity_view x)) rest first)

pub method_stops : (entities fields before known : List Text) (all : List MethodDef) (i : ℕ) (x : MethodDef) (e : NameFault) → i < length all → x ≡ get_or all i x
    → method_faults entities fields before (map method_view all) ≡ method_faults entities fields known (map method_view (drop i all))
    → (is_among x.name.text fields || is_among x.name.text known) ≡ false
    → IsFirstNameFault e (signature_faults entities fields (method_view x))
    → IsFirstNameFault e (method_faults entities fields before (map method_view all))
method_stops entities fields before known all i x e l is left fresh first =
    let rest : List NameFault = method_faults entities fields (known ++ x.name.text ∷ []) (map method_view (drop (suc i) all)) in
    let same = left ∙ ap (λ ys. method_faults entities fields known (map method_view ys)) (from_here all i x l is) ∙ ap (λ b. where_ b (fault.Double x.name.span) ++ (signature_faults entities fields (method_view x) ++ rest)) fresh in
    subst (λ fs. IsFirstNameFault e fs) (sym same) (is_first_on e (signature_faults entities fields (method_view x)) rest first)

-- The faults of the name of a field.
abbrev pub field_name_faults : List Text → Name → List NameFault
field_name_faults known n =
    either_fault (is_among n.text known) (fault.Double n.span) (not (nat_lt (length known) field_limit)) (fault.TooMany which.Fields n.span)

pub field_name_stops : (entities before known : List Text) (all : List FieldDef) (i : ℕ) (x : FieldDef) (e : NameFault) → i < length all → x ≡ get_or all i x
    → field_faults entities before (map field_view all) ≡ field_faults entities known (map field_view (drop i all))
    → IsFirstNameFault e (field_name_faults known x.name) → IsFirstNameFault e (field_faults entities before (map field_view all))
field_name_stops entities before known all i x e l is left first =
    let rest : List NameFault = type_faults entities x.ty ++ field_faults entities (known ++ x.name.text ∷ []) (map field_view (drop (suc i) all)) in
    let same = left ∙ ap (λ ys. field_faults entities known (map field_view ys)) (from_here all i x l is) in
    subst (λ fs. IsFirstNameFault e fs) (sym same) (is_first_on e (field_name_faults known x.name) rest first)

pub field_type_stops : (entities before known : List Text) (all : List FieldDef) (i : ℕ) (x : FieldDef) (e : NameFault) → i < length all → x ≡ get_or all i x
    → field_faults entities before (map field_view all) ≡ field_faults entities known (map field_view (drop i all))
    → field_name_faults known x.name ≡ []
    → IsFirstNameFault e (type_faults entities x.ty) → IsFirstNameFault e (field_faults entities before (map field_view all))
field_type_stops entities before known all i x e l is left none first =
    let rest : List NameFault = field_faults entities (known ++ x.name.text ∷ []) (map field_view (drop (suc i) all)) in
    let same = left ∙ ap (λ ys. field_faults entities known (map field_view ys)) (from_here all i x l is) ∙ ap (λ fs. fs ++ (type_faults entities x.ty ++ rest)) none in
    subst (λ fs. IsFirstNameFault e fs) (sym same) (is_first_on e (type_faults entities x.ty) rest first)

pub param_stops : (entities fields before known : List Text) (all : List ParamDef) (i : ℕ) (x : ParamDef) (e : NameFault) → i < length all → x ≡ get_or all i x
    → param_faults entities fields before all ≡ param_faults entities fields known (drop i all)
    → (is_among x.name.text fields || is_among x.name.text known) ≡ false
    → IsFirstNameFault e (type_faults entities x.ty) → IsFirstNameFault e (param_faults entities fields before all)
param_stops entities fields before known all i x e l is left fresh first =
    let rest : List NameFault = param_faults entities fields (known ++ x.name.text ∷ []) (drop (suc i) all) in
    let same = left ∙ ap (λ ys. param_faults entities fields known ys) (from_here all i x l is) ∙ ap (λ b. where_ b (fault.Double x.name.span) ++ (type_faults entities x.ty ++ rest)) fresh in
    subst (λ fs. IsFirstNameFault e fs) (sym same) (is_first_on e (type_faults entities x.ty) rest first)
