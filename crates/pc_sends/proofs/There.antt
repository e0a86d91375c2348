-- What is in Reach is a method of the core.
use Rattle.std.specs.{Prelude.{◌≡◌, ℕ, ◌<◌, List, length, Option, Some, slice_get, codes, position}, Str.bytes_eq}
use Rattle.std.proofs.{Common.{ap, sym, ◌∙◌}, lemmas.Option.same_Some}
use Rattle.pc_base.proofs.{Gets.get_below, Options.bind_some}
use Rattle.pc_core.specs.{declared.nodes.NodeKind.NodeKind, CoreData.{CoreData, method_named}, Members.method_found, Nodes.NamesFit, Formed.Formed}
use Rattle.pc_core.specs.declared.nodes.NodeKind.TheVariants as nodes
use Rattle.pc_semantics.specs.{Configurations.main_create, Parts.number_of_entity}
use Rattle.pc_sends.specs.Tables.{Aims, Reach, first, next}
use Rattle.pc_sends.proofs.Moves.{IsThere}

module _ (core : CoreData) (ents : List (Option ℕ)) (formed : Formed core) where
  create_there : (e t : ℕ) → main_create core ≡ Some (e, t) → IsThere core t
  create_there e t is =
      let a = bind_some (number_of_entity core (codes "Main")) _ (e, t) is in
      let b = bind_some (position (bytes_eq (codes "create")) core.names) _ (e, t) a.2 in
      let c = bind_some (method_named core a.0 b.0) (λ (k : ℕ). Some (a.0, k)) (e, t) b.2 in
      let same : c.0 ≡ t = ap (λ (p : ℕ × ℕ). p.1) (same_Some (a.0, c.0) (e, t) c.2) in
      let m = method_found core a.0 b.0 c.0 formed c.1 in
      (m.0, ap (slice_get core.methods) (sym same) ∙ m.1)

  aims_there : (m : ℕ) (k : NodeKind) (children : List ℕ) (t : ℕ) → NamesFit core m k → Aims core ents k children t → IsThere core t
  aims_there m (nodes.New j) children t fit a = (fit.0, ap (slice_get core.methods) (sym a) ∙ fit.1)
  aims_there m (nodes.Spawn j) children t fit a = (fit.0, ap (slice_get core.methods) (sym a) ∙ fit.1)
  aims_there m (nodes.Call name) children t fit a = (a.2.method, a.2.is_method)
  aims_there m k children t fit a = absurd a

  reach_there : (t : ℕ) → Reach core ents t → IsThere core t
  reach_there t (first e) = create_there _ t e
  reach_there t (next r u) = aims_there u.node.method u.node.kind u.node.children t (formed.nodes u.number u.node u.is_node).names u.aims

  pub reach_below : (t : ℕ) → Reach core ents t → t < length core.methods
  reach_below t r = let m = reach_there t r in get_below core.methods t m.0 m.1
