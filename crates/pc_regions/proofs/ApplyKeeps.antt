-- The task Apply in regions: the value of an operator is not an object's address, and replaces the operands.
use Rattle.std.specs.Prelude.{◌≡◌, ℕ, ◌+◌, true, List, [], ◌∷◌, ◌++◌, length, Option, Some, slice_get, refl}
use Rattle.std.proofs.{Common.{ap, sym, subst, ◌∙◌, append_assoc, arith, length-append}, lemmas.Option.same_Some}
use Rattle.pc_heap.specs.{declared.value.Value.Value, declared.value.Value.TheVariants.{Num, Truth, Text, Prim, At}}
use Rattle.pc_caps.specs.declared.capability.Form.{Form}
use Rattle.pc_core.specs.{declared.nodes.Node.Node, CoreData.CoreData}
use Rattle.pc_masks.specs.{declared.mask.Mask.Mask, Masks.IsInMask}
use Rattle.pc_ann.specs.{declared.annotation.Note.Note, declared.annotation.Ann.Ann}
use Rattle.pc_semantics.specs.{declared.frames.Frame.Frame, Configurations.{Around, Goes, with_stack, pushed}, Parts.at_node, Evaluation.apply_task}
use Rattle.pc_semantics.specs.declared.frames.Task.TheVariants as task
use Rattle.pc_rules.specs.Parts.{through, type_of}
use Rattle.pc_valid.specs.Words.{Ty, Masks, before}
use Rattle.pc_base.proofs.Bools.{false_true}
use Rattle.pc_types.proofs.{Types.OfType, Tasks.{applies, FinishOk, TasksOk}, Moves.Runs, Needs.Needs, Inverse.Says, Finish.rule_is, ApplyTask.{no_object, apply_kind}}
use Rattle.pc_regions.proofs.{World.{World, Place, Fits, Alias}, StackForms.{Entry, Rises, entry_of, piled, FinishRises, TasksRise}, Fitting.StackFits, MoveFits.{RegionMoveOk, Situated}, Climbed.ClimbLaw, Rising.{Pushes, rise}, ChildForms.at_depth, Schedules.KeepsRegions}

-- ---- values that are not objects

pub plain_fits : (w : World) (p : Place) (f : Form) (v : Value) → no_object v ≡ true → Fits w p f v
plain_fits w p f (At a) e = absurd (false_true e)
plain_fits w p f (Num n) e = tt
plain_fits w p f (Truth b) e = tt
plain_fits w p f (Text t) e = tt
plain_fits w p f (Prim n) e = tt

pub plain_alias : (w : World) (i b k : ℕ) (f : Form) (v : Value) → no_object v ≡ true → Alias w i b k f v
plain_alias w i b k f (At a) e = absurd (false_true e)
plain_alias w i b k f (Num n) e = tt
plain_alias w i b k f (Truth t) e = tt
plain_alias w i b k f (Text t) e = tt
plain_alias w i b k f (Prim n) e = tt

-- ---- what is below the operands

record Piled (ann : Ann) (d : ℕ) (cs : List ℕ) (below : List Entry) : Type 0 where
  pile : List Entry
  many : length pile ≡ length cs
  is : piled ann d cs below ≡ pile ++ below

pile_of : (ann : Ann) (d : ℕ) (cs : List ℕ) (below : List Entry) → Piled ann d cs below
pile_of ann d [] below = record { pile = []; many = refl; is = refl }
pile_of ann d (c ∷ cs) below =
    let e : Entry = at_depth d (type_of ann c) in
    let r = pile_of ann d cs (e ∷ below) in
    let l : length (r.pile ++ e ∷ []) ≡ length r.pile + 1 = length-append r.pile (e ∷ []) in
    let m = r.many in
    record { pile = r.pile ++ e ∷ []; many = omega (arith, l, m); is = r.is ∙ sym (append_assoc r.pile (e ∷ []) below) }

fits_behind : (w : World) (i h base : ℕ) (es : List Entry) (us : List Value) (below : List Entry) (rest : List Value) → length us ≡ length es → StackFits w i h base (es ++ below) (us ++ rest) → StackFits w i h base below rest
fits_behind w i h base [] [] below rest e k = k
fits_behind w i h base [] (u ∷ us) below rest e k = absurd (omega (arith, e))
fits_behind w i h base (x ∷ es) [] below rest e k = absurd (omega (arith, e))
fits_behind w i h base (x ∷ es) (u ∷ us) below rest e k = fits_behind w i h base es us below rest (omega (arith, e)) k.1

module _ (core : CoreData) (ann : Ann) (needs : Needs core ann) (climb : ClimbLaw core) (around : Around) (f : Frame) (fs : List Frame) (r : Runs core ann around f fs) (w : World) (n : ℕ) (s : Situated core ann w around f (task.Apply n ∷ f.tasks) fs)
    (e : FinishOk core ann f.method r.held.live r.held.set r.held.wants applies n (λ l z g. TasksOk core ann f.method f.tasks l z g)) (x : FinishRises core ann f.method s.active.depth s.active.holds.live s.active.holds.entries applies n (λ d l g. TasksRise core ann f.method f.tasks d l g)) where
  abbrev base : ℕ
  base = s.active.holds.base

  abbrev d : ℕ
  d = s.active.depth

  node_is : x.node ≡ e.node
  node_is = same_Some x.node e.node (sym x.is_node ∙ e.is_node)

  note_is : x.note ≡ e.note
  note_is = same_Some x.note e.note (sym x.is_note ∙ e.is_note)

  behind_is : x.behind ≡ e.behind
  behind_is = same_Some x.behind e.behind (sym x.is_behind ∙ ap (λ (y : Node). through ann y.children (before x.note)) node_is ∙ ap (λ (t : Note). through ann e.node.children (before t)) note_is ∙ e.is_behind)

  -- The result takes the place of the operands.
  applied : (us rest : List Value) (ty : Ty) (v : Value) → f.stack ≡ us ++ rest → length us ≡ length e.node.children → Says e.note (Some ty) e.behind → OfType core around.objects ty v → no_object v ≡ true → RegionMoveOk core ann w around fs (Goes (pushed (with_stack f rest) v))
  applied us rest ty v at all q typed plain =
      let pile = pile_of ann d x.node.children x.below in
      let many : length us ≡ length pile.pile = all ∙ ap (λ (y : Node). length y.children) (sym node_is) ∙ sym pile.many in
      let entries : s.active.holds.entries ≡ pile.pile ++ x.below = x.stack ∙ pile.is in
      let stands = subst (λ (vs : List Value). StackFits w around.actor (length fs) base (pile.pile ++ x.below) vs) at (subst (λ (es : List Entry). StackFits w around.actor (length fs) base es f.stack) entries s.active.holds.stack_fit) in
      let pushes : Pushes core ann w around.objects around.actors around.actor f.method base d s.active.holds.live x.below f.slots rest fs = record {
        world = s.world;
        fields = s.fields;
        here = s.here;
        top = sym s.active.last;
        opened = s.active.opened;
        this_fits = s.active.holds.this_fits;
        slots_fit = s.active.holds.slots_fit;
        stack_fit = fits_behind w around.actor (length fs) base pile.pile us x.below rest many stands;
        wait = s.wait;
      } in
      let type_is : x.note.ty ≡ Some ty = ap (λ (t : Note). t.ty) note_is ∙ q.ty in
      let live : x.note.live_after ≡ x.behind.0 = ap (λ (t : Note). t.live_after) note_is ∙ q.live ∙ ap (λ (m : Masks). m.0) (sym behind_is) in
      let goal : entry_of x.node x.note ≡ at_depth d (Some ty) = ap (λ (k : ℕ). at_depth k x.note.ty) x.depth ∙ ap (at_depth d) type_is in
      rise core ann climb around.objects around.actors around.actor f.method base d s.active.holds.live x.below f.slots rest fs w pushes x.note.live_after (Some ty) v f.tasks
      (λ i h. x.live i (subst (λ (m : Mask). IsInMask m i) live h)) typed (plain_fits w _ ty.1 v plain)
      (plain_alias w around.actor base (base + d) ty.1 v plain)
      (subst (λ (y : Entry). Rises core f.method x.note.live_after y x.below (λ d l g. TasksRise core ann f.method f.tasks d l g)) goal x.follows)

  pub apply_goes : RegionMoveOk core ann w around fs (at_node (slice_get core.nodes n) (λ y. apply_task f y.kind))
  apply_goes =
      subst (λ (o : Option Node). RegionMoveOk core ann w around fs (at_node o (λ y. apply_task f y.kind))) (sym e.is_node)
      (apply_kind core ann needs around f fs r n e (RegionMoveOk core ann w around fs) tt (λ us rest ty v at all q ok typed plain. applied us rest ty v at all q typed plain) e.node.kind refl e.kind (rule_is core ann needs around f fs r applies n e))

-- An operator is applied, in regions.
pub keeps_apply_regions : ((core : CoreData) (ann : Ann) → Needs core ann → ClimbLaw core) → (n : ℕ) → KeepsRegions (task.Apply n)
keeps_apply_regions climb n core ann needs around f fs r t w s = apply_goes core ann needs (climb core ann needs) around f fs r w n s t s.tasks
