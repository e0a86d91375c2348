-- The example, computed.
use Rattle.std.specs.Prelude.{◌≡◌, ℕ, Bool, true, false, [], ◌∷◌, Option, Some, None, slice_get, refl}
use Rattle.std.proofs.{Common.{ap, sym, subst, ◌∙◌, arith}, lemmas.Option.{same_Some, none-some}}
use Rattle.pc_caps.specs.declared.capability.Form.{Form}
use Rattle.pc_caps.specs.declared.capability.Form.TheVariants as form
use Rattle.pc_core.specs.declared.nodes.Node.{Node}
use Rattle.pc_core.specs.declared.nodes.NodeKind.TheVariants as node
use Rattle.pc_ann.specs.{declared.annotation.Note.Note, declared.annotation.Rule.Rule}
use Rattle.pc_ann.specs.declared.annotation.Rule.TheVariants as rule
use Rattle.pc_rules.specs.{declared.said.Said.Said, Rules.IsSaid, Example.{four_slots, derivation, at, node_of, noted, EachMeets, MeetsNone, WrongNotes}}
use Rattle.pc_base.proofs.Bools.{true_false}

pub each_meets : EachMeets
each_meets = ((_, _, refl, refl, refl), (_, _, refl, refl, refl), (_, _, refl, refl, refl), (_, _, refl, refl, refl), (_, _, refl, refl, refl), (_, _, refl, refl, refl), (_, _, refl, refl, refl))

-- A type is one of form `ref`.
abbrev says_ref : Option (ℕ × Form) → Bool
says_ref (Some (e, form.Ref)) = true
says_ref ty = false

wrong_new : (r : Rule) → IsSaid four_slots derivation (node_of 2 (node.New 1) [] (at 64 65)) (record (noted rule.New (Some (6, form.Ref)) 3 3) { rule = r }) → ⊥
wrong_new rule.New e = true_false (sym (ap (λ (q : Said). says_ref q.ty) (same_Some _ _ e)))
wrong_new r e = none-some _ e

wrong_define : (r : Rule) → IsSaid four_slots derivation (node_of 2 (node.Define 2) (3 ∷ []) (at 49 65)) (record (noted rule.Define None 3 3) { rule = r }) → ⊥
wrong_define rule.Define e = let k = ap (λ (q : Said). q.live.0) (same_Some _ _ e) in omega (arith, k)
wrong_define r e = none-some _ e

wrong_seq : (r : Rule) → IsSaid four_slots derivation (node_of 2 node.Seq (4 ∷ []) (at 49 65)) (record (noted rule.Seq None 3 7) { rule = r }) → ⊥
wrong_seq rule.Seq e = let k = ap (λ (q : Said). q.live.0) (same_Some _ _ e) in omega (arith, k)
wrong_seq r e = none-some _ e

at_node : (n : ℕ) (y : Node) (t : Note) → slice_get four_slots.nodes n ≡ Some y → ((r : Rule) → IsSaid four_slots derivation y (record t { rule = r }) → ⊥) → MeetsNone n t
at_node n y t e f x g r = subst (λ (z : Node). IsSaid four_slots derivation z (record t { rule = r }) → ⊥) (same_Some y x (sym e ∙ g)) (f r)

pub wrong_notes : WrongNotes
wrong_notes =
    (at_node 3 _ (noted rule.New (Some (6, form.Ref)) 3 3) refl wrong_new, at_node 4 _ (noted rule.Define None 3 3) refl wrong_define, at_node 5 _ (noted rule.Seq None 3 7) refl wrong_seq)
