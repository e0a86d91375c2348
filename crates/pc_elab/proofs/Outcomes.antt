-- The outcome of a member.
use Rattle.std.proofs.{Common.{◌≡◌, ℕ, List, [], ◌∷◌, ◌++◌, Option, Some, None, Err, refl, sym, ap, ◌∙◌}, lemmas.Option.{same_Some, none-some}}
use Rattle.std.specs.Prelude.{slice_get}
use Rattle.pc_base.specs.declared.span.Span.{Span}
use Rattle.pc_tree.specs.declared.written_names.Name.{Name}
use Rattle.pc_tree.specs.Tree as t
use Rattle.pc_core.specs.declared.nodes.Node.{Node}
use Rattle.pc_body_spec.specs.{Bodies.{Rose, Context}, Fold.{Numbered, and_then, put}, Faults.{BodyNameFault, unknown, double, long_text}, Slots.Local, Methods.{in_body, slots_full, nodes_full, MethodOutcome, local_names, unless_fault, unless_name, numbered_or_full, put_body}}
use Rattle.pc_body_walks.specs.{declared.fault.BodyFault.BodyFault, Checking.IsFirstBodyFault}
use Rattle.pc_body_walks.specs.declared.fault.BodyFault.TheVariants as body
use Rattle.pc_emit.specs.Giving.{put_written}
use Rattle.pc_members.specs.Members.{Member}
use Rattle.pc_elab.specs.Outcomes.{PassesOrStops, as_name_fault, member_faults, member_params, span_of, extra_slot, before_nodes}

pub no_fault : (c : Context) (e : t.Entity) (x : Member) (locals : List Local) → member_faults c e x ≡ [] → extra_slot x locals ≡ None → (rest : MethodOutcome) → before_nodes c e x locals rest ≡ rest
no_fault c e x locals f n rest = ap (λ fs. unless_fault fs (unless_name (slice_get (member_params x ++ local_names locals) 63) rest)) f ∙ by (slice_get (member_params x ++ local_names locals) 63) n
  where
    by : (o : Option Name) → span_of o ≡ None → unless_name o rest ≡ rest
    by None h = refl
    by (Some m) h = absurd (none-some m.span (sym h))

pub slot_first : (c : Context) (e : t.Entity) (x : Member) (locals : List Local) (s : Span) → member_faults c e x ≡ [] → extra_slot x locals ≡ Some s → (rest : MethodOutcome) → before_nodes c e x locals rest ≡ Err (slots_full s)
slot_first c e x locals s f n rest = ap (λ fs. unless_fault fs (unless_name (slice_get (member_params x ++ local_names locals) 63) rest)) f ∙ by (slice_get (member_params x ++ local_names locals) 63) n
  where
    by : (o : Option Name) → span_of o ≡ Some s → unless_name o rest ≡ Err (slots_full s)
    by None h = absurd (none-some s h)
    by (Some m) h = ap (λ y. Err (slots_full y)) (same_Some m.span s h)

pub fault_first : (c : Context) (e : t.Entity) (x : Member) (locals : List Local) (f : BodyNameFault) (fs : List BodyNameFault) → member_faults c e x ≡ f ∷ fs → (rest : MethodOutcome) → before_nodes c e x locals rest ≡ Err (in_body f)
fault_first c e x locals f fs h rest = ap (λ gs. unless_fault gs (unless_name (slice_get (member_params x ++ local_names locals) 63) rest)) h

-- ---- the nodes

pub body_full : (m : ℕ) (name : Span) (r : Option Rose) (before : List Node) → put_written m r before ≡ None → put_body m name r before ≡ Err (nodes_full name)
body_full m name None before h = absurd (none-some _ (sym h))
body_full m name (Some r) before h = by (put m r before) h
  where
    by : (o : Numbered ℕ) → and_then o (λ n. λ all. Some (Some n, all)) ≡ None → numbered_or_full name o ≡ Err (nodes_full name)
    by None g = refl
    by (Some p) g = absurd (none-some _ (sym g))

-- ---- in terms of the code

pub fault_passes : (c : Context) (e : t.Entity) (x : Member) (locals : List Local) (f : BodyFault) → IsFirstBodyFault f (member_faults c e x) → PassesOrStops (Err (as_name_fault f)) (before_nodes c e x locals)
fault_passes c e x locals (body.Unknown s) h = (in_body (unknown s), refl, fault_first c e x locals (unknown s) h.0 h.1)
fault_passes c e x locals (body.Double s) h = (in_body (double s), refl, fault_first c e x locals (double s) h.0 h.1)
fault_passes c e x locals (body.LongText s) h = (in_body (long_text s), refl, fault_first c e x locals (long_text s) h.0 h.1)
fault_passes c e x locals body.Memory h = tt
