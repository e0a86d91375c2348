-- The reasons by the types of the slots and the notes of the children.
use Rattle.std.specs.Prelude.{◌≡◌, ℕ, List, Option, Some, None, Result, Ok, Err, IfOk, refl}
use Rattle.std.proofs.Common.{ap, sym, ◌∙◌}
use Rattle.pc_ann.specs.{declared.annotation.Ann.Ann, declared.annotation.Note.Note}
use Rattle.pc_caps.specs.declared.capability.Cap.{Cap}
use Rattle.pc_check.specs.Inference.{inferred_slot, with_inferred, with_inferred_slot}
use Rattle.pc_explain_conditions.specs.Failing.{reasons}
use Rattle.pc_core.specs.{CoreData.CoreData, declared.nodes.Node.Node}
use Rattle.pc_base.specs.Lists.{◌>>=◌}
use Rattle.pc_rules.specs.Parts.{notes_of}
use Rattle.pc_valid.specs.Words.{Masks, Slots}
use Rattle.pc_explain.specs.Explanation.{all_of, reasons_by, reasons_of}

-- A definition changes no note.
kept : (ann : Ann) (o : Option (ℕ × (ℕ × Cap))) → (with_inferred_slot ann o).notes ≡ ann.notes
kept ann None = refl
kept ann (Some i) = refl

bound : (core : CoreData) (slots : Slots) (o : Option (List Note)) (x : Node) (m : Masks) → all_of (o >>= λ ns. Some (reasons core slots ns x m)) ≡ reasons_by core slots o x m
bound core slots None x m = refl
bound core slots (Some ns) x m = refl

pub reasons_are : (core : CoreData) (ann : Ann) (x : Node) (m : Masks) → reasons_by core (with_inferred core ann x).slots (notes_of ann.notes x.children) x m ≡ reasons_of core ann x m
unfolding reasons_of
reasons_are core ann x m =
    let new : Ann = with_inferred core ann x in
    sym (ap (λ (ns : List Note). all_of (notes_of ns x.children >>= λ ts. Some (reasons core new.slots ts x m))) (kept ann (inferred_slot core ann x x.kind))
    ∙ bound core new.slots (notes_of ann.notes x.children) x m)

-- By another name.
pub ok_same : {A E : Type 0} → (r : Result A E) (a b : A) → a ≡ b → IfOk r (λ found. found ≡ a) → IfOk r (λ found. found ≡ b)
ok_same (Ok x) a b e h = h ∙ e
ok_same (Err x) a b e h = tt
