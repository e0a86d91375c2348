use Rattle.std.proofs.Common.{◌≡◌, ap, sym, ◌∙◌, drop, List, Option, Some, None, ◌∷◌}
use Rattle.std.specs.Prelude.{slice_set, unwrap_or}
use Rattle.pc_base.proofs.Gets.{set_back}
use Rattle.pc_heap.specs.declared.value.Value.{Value}
use Rattle.pc_semantics.specs.{declared.frames.Frame.Frame, declared.outcome.Outcome.TheVariants.{Lacks, Moved}, Configurations.none}
use Rattle.pc_semantics.specs.declared.outcome.Lack.TheVariants as lack
use Rattle.pc_tasks.specs.Inside.{ended, relieved}
use Rattle.pc_tasks.proofs.{Written.{put_ends, both_less, one_less}, fields.write.Goals.{in-Some-before, in_default-before}}
use Rattle.pc_tasks.proofs.fields.write.Goals as goal

pub returns-after-before-clause-end : goal.returns-after-before-clause-end
returns-after-before-clause-end c =
    let f = c.args.frame.now in let objects = c.args.heap.now.objects in let a = c.in-Some-At.address in let i = c.in-Some-field.field in let v = c.replace-value.result in
    let top = sym c.in-Some-At.ensures ∙ ap Some c.in-Some-At.field-0-is in
    let ends = put_ends c.args.core.now objects (relieved f) c.args.name i c.in-Some.entity a v top c.replace-value.ensures.old (sym c.in-Some.ensures) (sym c.in-Some-field.ensures.value) (Some c.in-Ok.before) c.in-Ok.ensures.ok in
    let below : c.pop.new.self ≡ drop 1 (slice_set f.stack 1 c.none.result) = c.pop.ensures.rest ∙ ap (drop 1) c.replace-value.ensures.new in
    let done = λ (g : Frame) (is : c.match-before.frame ≡ record { method = f.method; slots = f.slots; stack = g.stack; tasks = f.tasks }) (on : g.stack ≡ unwrap_or c.in-Ok.before none ∷ drop 2 f.stack).
    ap (ended objects f) ends ∙ (λ k. Some (Moved, sym c.in-Ok.ensures.new k, record { method = f.method; slots = f.slots; stack = sym on k; tasks = drop 1 f.tasks }))
    ∙ (λ k. Some (Moved, c.set.new.self.objects, record { method = (sym is k).method; slots = (sym is k).slots; stack = (sym is k).stack; tasks = drop 1 (sym is k).tasks }))
    ∙ (λ k. Some (Moved, c.set.new.self.objects, record { method = c.match-before.frame.method; slots = c.match-before.frame.slots; stack = c.match-before.frame.stack; tasks = sym c.pop-in-Ok.ensures.rest k })) in
    elim c.match-before.branch [
      | in-Some-before w ↦
          let front = λ (b : Value). ap (λ (vs : List Value). b ∷ vs) (ap (drop 1) below ∙ both_less f.stack c.none.result) in
          done (record { method = f.method; slots = f.slots; stack = w.replace_top.new.self; tasks = f.tasks }) w.frame-is (w.replace_top.ensures.new ∙ front w.in-Some-before.before ∙ ap (λ (o : Option Value). unwrap_or o none ∷ drop 2 f.stack) (sym w.in-Some-before.is))
      | in_default-before w ↦
          done (record { method = f.method; slots = f.slots; stack = c.pop.new.self; tasks = f.tasks }) w.frame-is (below ∙ one_less f.stack v c.none.result c.replace-value.ensures.old ∙ ap (λ (b : Value). b ∷ drop 2 f.stack) c.none.ensures ∙ ap (λ (o : Option Value). unwrap_or o none ∷ drop 2 f.stack) (sym w.in_default-before.is))
    ]

pub returns-in-Err-clause-end : goal.returns-in-Err-clause-end
returns-in-Err-clause-end c =
    let f = c.args.frame.now in let objects = c.args.heap.now.objects in let a = c.in-Some-At.address in let i = c.in-Some-field.field in let v = c.replace-value.result in
    let top = sym c.in-Some-At.ensures ∙ ap Some c.in-Some-At.field-0-is in
    let ends = put_ends c.args.core.now objects (relieved f) c.args.name i c.in-Some.entity a v top c.replace-value.ensures.old (sym c.in-Some.ensures) (sym c.in-Some-field.ensures.value) None c.in-Err.ensures.refused in
    let stack : c.replace.new.self ≡ f.stack =
    c.replace.ensures.new ∙ ap (λ (w : Value). slice_set c.replace-value.new.self 1 w) c.in-Err.ensures.back ∙ ap (λ (vs : List Value). slice_set vs 1 v) c.replace-value.ensures.new ∙ set_back f.stack 1 v _ c.replace-value.ensures.old in
    ap (ended objects f) ends ∙ (λ k. Some (Lacks lack.Field, sym c.in-Err.ensures.same k, record f { stack = sym stack k }))
