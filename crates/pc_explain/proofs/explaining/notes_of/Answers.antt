use Rattle.std.proofs.Common.{◌+◌, ◌++◌, List, ap, drop, sym, ◌∙◌}
use Rattle.std.specs.Prelude.{option_map}
use Rattle.pc_ann.specs.declared.annotation.Note.{Note}
use Rattle.pc_rules.specs.Parts.{notes_of}
use Rattle.pc_explain.proofs.NotesFound.{none_more, one_more}
use Rattle.pc_explain.proofs.explaining.notes_of.Goals as goal

pub returns-in-None : goal.returns-in-None
returns-in-None c =
    sym (none_more c.loop-child.found c.args.notes.now c.args.children.now c.loop-child.child-index _ c.loop-child-test.true (sym c.in-None.ensures)) ∙ c.loop-child.invariant

pub loop-child-preserved : goal.loop-child-preserved
loop-child-preserved c =
    ap (λ (found : List Note). option_map (λ (ns : List Note). found ++ ns) (notes_of c.args.notes.now (drop (c.loop-child.child-index + 1) c.args.children.now))) c.in_ok-push-in-Some.ensures.ok
    ∙ one_more c.loop-child.found c.args.notes.now c.args.children.now c.loop-child.child-index _ c.in-Some.note c.loop-child-test.true (sym c.in-Some.ensures) ∙ c.loop-child.invariant
