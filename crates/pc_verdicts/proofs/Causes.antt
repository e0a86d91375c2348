-- A fault of a file's names or of its members never means that memory ran out.
use Rattle.std.proofs.{Common.{◌≡◌, ◌+◌, ℕ, List, [], ◌∷◌, ◌++◌, Bool, true, false, length, Option, Some, None, Ok, Err, refl, ap, ◌∙◌, subst, if◌then◌else◌}, lemmas.Option.{none-some, same_Some}}
use Rattle.std.specs.{Prelude.{Result, codes, drop, slice_get}, Str.bytes_eq}
use Rattle.pc_body_spec.specs.{Faults.{BodyNameFault, double, long_text, unknown}, Methods.{MethodFault, MethodOutcome, in_body, nodes_full, slots_full}, Bodies.Context}
use Rattle.pc_file_spec.specs.Cores.{Owned, Parts, and_member, and_members, body_fault, if_ok, name_fault, outcome, with_outcome, context_of}
use Rattle.pc_base.specs.Lists.{Text}
use Rattle.pc_members.specs.{Members.{built_in_names, entity_names, field_texts}, MemberLists.trait_names}
use Rattle.pc_names.specs.{Faults.{count_faults, cycle_faults, IsNotMemory, name_faults, main_faults}, Parts.method_count, Mains.is_main, declared.fault.NameFault.NameFault}
use Rattle.pc_names.specs.Faults as spec
use Rattle.pc_names.specs.Parts as parts
use Rattle.pc_names.specs.declared.fault.NameFault.TheVariants as fault
use Rattle.pc_tree.specs.{Kinds.first_own, declared.file.ParamDef.ParamDef, declared.written_names.Name.Name, declared.written_names.TypeRef.TypeRef}
use Rattle.pc_tree.specs.Tree as t

-- The first fault of the list, if there is one.
abbrev pub OfFirst : List NameFault → Type 0
OfFirst fs = (f : NameFault) → slice_get fs 0 ≡ Some f → IsNotMemory f

of_none : OfFirst []
of_none f h = absurd (none-some f h)

of_both : (xs ys : List NameFault) → OfFirst xs → OfFirst ys → OfFirst (xs ++ ys)
of_both [] ys a b = b
of_both (x ∷ xs) ys a b = a

of_one : (g : NameFault) → IsNotMemory g → OfFirst (g ∷ [])
of_one g is f h = subst IsNotMemory (same_Some g f h) is

of_where : (b : Bool) (g : NameFault) → IsNotMemory g → OfFirst (parts.where_ b g)
of_where true g is = of_one g is
of_where false g is = of_none

of_either : (b : Bool) (g : NameFault) (c : Bool) (h : NameFault) → IsNotMemory g → IsNotMemory h → OfFirst (spec.either_fault b g c h)
of_either true g c h is other = of_one g is
of_either false g c h is other = of_where c h other

-- ---- the names of entities

of_names : (known : List Text) (es : List t.Entity) → OfFirst (spec.entity_name_faults known es)
of_names known [] = of_none
of_names known (e ∷ es) = of_both (spec.either_fault _ _ _ _) _ (of_either _ _ _ _ (λ is. cc is) (λ is. cc is)) (of_names (known ++ e.name.text ∷ []) es)

-- ---- declarations

module _ (entities traits : List Text) where
  of_type : (ty : TypeRef) → OfFirst (spec.type_faults entities ty)
  of_type ty = of_where _ _ (λ is. cc is)

  of_result : (o : Option TypeRef) → OfFirst (parts.result_faults entities o)
  of_result None = of_none
  of_result (Some ty) = of_type ty

  of_provided : (known : List Text) (ns : List Name) → OfFirst (spec.provided_faults traits known ns)
  of_provided known [] = of_none
  of_provided known (n ∷ ns) =
      of_both (spec.either_fault _ _ _ _) _ (of_either _ _ _ _ (λ is. cc is) (λ is. cc is)) (of_provided (known ++ n.text ∷ []) ns)

  of_fields : (known : List Text) (fs : List t.Field) → OfFirst (spec.field_faults entities known fs)
  of_fields known [] = of_none
  of_fields known (f ∷ fs) =
      of_both (spec.either_fault _ _ _ _) _ (of_either _ _ _ _ (λ is. cc is) (λ is. cc is))
      (of_both (spec.type_faults entities f.ty) _ (of_type f.ty) (of_fields (known ++ f.name.text ∷ []) fs))

  of_params : (fields known : List Text) (ps : List ParamDef) → OfFirst (spec.param_faults entities fields known ps)
  of_params fields known [] = of_none
  of_params fields known (p ∷ ps) =
      of_both (parts.where_ _ _) _ (of_where _ _ (λ is. cc is)) (of_both (spec.type_faults entities p.ty) _ (of_type p.ty) (of_params fields (known ++ p.name.text ∷ []) ps))

  of_methods : (fields known : List Text) (ms : List t.Method) → OfFirst (spec.method_faults entities fields known ms)
  of_methods fields known [] = of_none
  of_methods fields known (m ∷ ms) =
      of_both (parts.where_ _ _) _ (of_where _ _ (λ is. cc is))
      (of_both (spec.signature_faults entities fields m) _ (of_both (spec.param_faults entities fields [] m.params) _ (of_params fields [] m.params) (of_result m.result)) (of_methods fields (known ++ m.name.text ∷ []) ms))

  of_entity : (e : t.Entity) → OfFirst (spec.entity_faults entities traits e)
  of_entity e =
      of_both (spec.added_faults e) _ (of_where _ _ (λ is. cc is))
      (of_both (spec.provided_faults traits [] e.provides) _ (of_provided [] e.provides) (of_both (spec.field_faults entities [] e.fields) _ (of_fields [] e.fields) (of_methods (field_texts e.fields) [] e.methods)))

  of_entities : (es : List t.Entity) → OfFirst (parts.entities_faults entities traits es)
  of_entities [] = of_none
  of_entities (e ∷ es) = of_both (spec.entity_faults entities traits e) _ (of_entity e) (of_entities es)

-- ---- cycles, counts and `Main`

of_cycles : (a : ℕ) (es : List t.Entity) (ls : List (List ℕ)) → OfFirst (cycle_faults a es ls)
of_cycles a [] ls = of_none
of_cycles a (e ∷ es) [] = of_none
of_cycles a (e ∷ es) (l ∷ ls) = of_both (parts.where_ _ _) _ (of_where _ _ (λ is. cc is)) (of_cycles (a + 1) es ls)

of_counts : (all : List t.Entity) (n : ℕ) (es : List t.Entity) → OfFirst (count_faults all n es)
of_counts all n [] = of_none
of_counts all n (e ∷ es) = of_both (parts.where_ _ _) _ (of_where _ _ (λ is. cc is)) (of_counts all (n + method_count all e) es)

of_mains : (es : List t.Entity) → OfFirst (main_faults es)
of_mains [] = of_one fault.NoMain (λ is. cc is)
of_mains (e ∷ es) = by (bytes_eq e.name.text (codes "Main")) (is_main e) (of_mains es)
  where
    by : (b c : Bool) → OfFirst (main_faults es) → OfFirst (if b then (if c then [] else fault.BadMain e.name.span ∷ []) else main_faults es)
    by true true rest = of_none
    by true false rest = of_one (fault.BadMain e.name.span) (λ is. cc is)
    by false c rest = rest

pub of_file : (file : t.File) (above : List (List ℕ)) → OfFirst (name_faults file above)
of_file file above =
    let es = file.entities in
    of_both (spec.entity_name_faults built_in_names es) _ (of_names built_in_names es)
    (of_both (spec.declaration_faults file) _ (of_entities (entity_names file) (trait_names es) es)
    (of_both (cycle_faults first_own es (drop first_own above)) _ (of_cycles first_own es (drop first_own above)) (of_both (count_faults es 0 es) _ (of_counts es 0 es) (of_mains es))))

-- ---- members

body_of_file : (g : BodyNameFault) → IsNotMemory (body_fault g)
body_of_file (unknown s) is = cc is
body_of_file (double s) is = cc is
body_of_file (long_text s) is = cc is

member_of_file : (g : MethodFault) → IsNotMemory (name_fault g)
member_of_file (in_body g) = body_of_file g
member_of_file (slots_full s) = λ is. cc is
member_of_file (nodes_full s) = λ is. cc is

abbrev pub failed : {A : Type 0} → Result A NameFault → Option NameFault
failed (Ok a) = None
failed (Err f) = Some f

outcome_of_file : (c : Context) (p : Parts) (o : Owned) (r : MethodOutcome) (f : NameFault) → failed (with_outcome c p o r) ≡ Some f → IsNotMemory f
outcome_of_file c p o (Ok r) f e = absurd (none-some f e)
outcome_of_file c p o (Err g) f e = subst IsNotMemory (same_Some (name_fault g) f e) (member_of_file g)

pub of_members : (file : t.File) (p : Parts) (os : List Owned) (f : NameFault) → failed (and_members file p os) ≡ Some f → IsNotMemory f
of_members file p [] f e = absurd (none-some f e)
of_members file p (o ∷ os) f e = by (λ q h. of_members file q os f h) (and_member (context_of file o) p o) refl e
  where
    by : ((q : Parts) → failed (and_members file q os) ≡ Some f → IsNotMemory f) → (r : Result Parts NameFault) → and_member (context_of file o) p o ≡ r → failed (if_ok r (λ q. and_members file q os)) ≡ Some f → IsNotMemory f
    by rest (Ok q) is h = rest q h
    by rest (Err g) is h =
        outcome_of_file (context_of file o) p o (outcome (context_of file o) (length p.methods) o.owner o.member p.nodes) f (ap failed is ∙ h)
