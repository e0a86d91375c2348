-- A running frame goes on, with other slots, another stack and other tasks.
use Rattle.std.specs.Prelude.{◌≡◌, true, List, [], ◌∷◌, ◌++◌, length, Option, slice_get, refl}
use Rattle.std.proofs.Common.{◌∙◌}
use Rattle.pc_heap.specs.{Objects.ObjectMap, declared.value.Value.Value, declared.value.Value.TheVariants.{Num, Truth, Text, Prim, At}}
use Rattle.pc_core.specs.{declared.declarations.Method.Method, declared.nodes.Node.Node, CoreData.CoreData}
use Rattle.pc_masks.specs.declared.mask.Mask.{Mask}
use Rattle.pc_ann.specs.{declared.annotation.Note.Note, declared.annotation.Ann.Ann}
use Rattle.pc_semantics.specs.{declared.frames.Frame.Frame, declared.frames.Task.Task, Configurations.{Around, with_stack, pushed}}
use Rattle.pc_rules.specs.Fields.{is_this}
use Rattle.pc_types.proofs.{Types.{OfSome, Want, StackOk}, Tasks.{Within, Follows, TasksOk}, Frames.{HasFields, ThisOk, SlotsOk, FrameOk, WaitOk, FramesOk}, Moves.Runs, Needs.Needs, Basic.{within_trans, some_lower}}

-- ---- fewer slots, and fewer fields

pub fewer_slots : (core : CoreData) (ann : Ann) (objects : ObjectMap) (f : Method) (l m : Mask) (slots : List (Option Value)) → Within m l → SlotsOk core ann objects f l slots → SlotsOk core ann objects f m slots
fewer_slots core ann objects f l m slots w k i p b = k i p (w i b)

fewer_fields : (objects : ObjectMap) (s t : Mask) (v : Value) → Within t s → HasFields objects s v → HasFields objects t v
fewer_fields objects s t (At a) w k = (k.0, k.1, λ i b. k.2 i (w i b))
fewer_fields objects s t (Num n) w k = k
fewer_fields objects s t (Truth b) w k = k
fewer_fields objects s t (Text x) w k = k
fewer_fields objects s t (Prim e) w k = k

pub fewer_set : (core : CoreData) (objects : ObjectMap) (f : Method) (s t : Mask) (v : Value) → Within t s → ThisOk core objects f s v → ThisOk core objects f t v
fewer_set core objects f s t v w k = record { is_entity = k.is_entity; kind = k.kind; finished = k.finished; fields = λ h. fewer_fields objects s t v w (k.fields h) }

-- ---- the frame

module _ (core : CoreData) (ann : Ann) (needs : Needs core ann) (around : Around) (f : Frame) (fs : List Frame) (r : Runs core ann around f fs) where
  -- The frame among these objects, which goes on with `push` pushed.
  abbrev pub frame_in : (objects : ObjectMap) (push : List Want) (l s : Mask) (g : List Want) (slots : List (Option Value)) (vs : List Value) (ts : List Task) → length slots ≡ length f.slots → slice_get slots 0 ≡ slice_get f.slots 0
      → ThisOk core objects r.held.own s r.held.this → SlotsOk core ann objects r.held.own l slots → StackOk core objects r.held.this g vs → TasksOk core ann f.method ts l s (push ++ g)
      → FrameOk core ann objects push (record { method = f.method; slots = slots; stack = vs; tasks = ts })
  frame_in objects push l s g slots vs ts room first this_ok slots_ok stack tasks = (
    record {
      own = r.held.own;
      is_own = r.held.is_own;
      room = room ∙ r.held.room;
      this = r.held.this;
      is_this = first ∙ r.held.is_this;
      live = l;
      set = s;
      this_ok = this_ok;
      slots_ok = slots_ok;
      wants = g;
      stack_ok = stack;
    },
    tasks,
  )

  -- It runs on among these objects, if the frames below wait as before.
  pub go_in : (objects : ObjectMap) (l s : Mask) (g : List Want) (slots : List (Option Value)) (vs : List Value) (ts : List Task) → length slots ≡ length f.slots → slice_get slots 0 ≡ slice_get f.slots 0
      → ThisOk core objects r.held.own s r.held.this → SlotsOk core ann objects r.held.own l slots → StackOk core objects r.held.this g vs → TasksOk core ann f.method ts l s g → WaitOk core ann objects around.actor f.method r.held.this fs
      → FramesOk core ann objects around.actor (record { method = f.method; slots = slots; stack = vs; tasks = ts } ∷ fs)
  go_in objects l s g slots vs ts room first this_ok slots_ok stack tasks wait = (frame_in objects [] l s g slots vs ts room first this_ok slots_ok stack tasks, wait)

  -- The same among the objects that are there.
  pub go_ok : (l s : Mask) (g : List Want) (slots : List (Option Value)) (vs : List Value) (ts : List Task) → length slots ≡ length f.slots → slice_get slots 0 ≡ slice_get f.slots 0
      → Within s r.held.set → SlotsOk core ann around.objects r.held.own l slots → StackOk core around.objects r.held.this g vs → TasksOk core ann f.method ts l s g
      → FramesOk core ann around.objects around.actor (record { method = f.method; slots = slots; stack = vs; tasks = ts } ∷ fs)
  go_ok l s g slots vs ts room first less slots_ok stack tasks =
      go_in around.objects l s g slots vs ts room first (fewer_set core around.objects r.held.own r.held.set s r.held.this less r.held.this_ok) slots_ok stack tasks r.wait

  -- Only the tasks differ.
  pub tasks_ok : (ts : List Task) → TasksOk core ann f.method ts r.held.live r.held.set r.held.wants → FramesOk core ann around.objects around.actor (record { method = f.method; slots = f.slots; stack = f.stack; tasks = ts } ∷ fs)
  tasks_ok ts tasks = go_ok r.held.live r.held.set r.held.wants f.slots f.stack ts refl refl (λ i b. b) r.held.slots_ok r.held.stack_ok tasks

  -- The value of a node is pushed on what is below it, and what follows the node goes on.
  pub push_ok : (x : Node) (t : Note) (below : List Want) (vs : List Value) (v : Value) → Follows core x t below (λ l s g. TasksOk core ann f.method f.tasks l s g) → Within t.live_after r.held.live → Within t.set_after r.held.set → StackOk core around.objects r.held.this below vs
      → OfSome core around.objects t.ty v → (is_this x.kind ≡ true → v ≡ r.held.this)
      → FramesOk core ann around.objects around.actor (pushed (with_stack f vs) v ∷ fs)
  push_ok x t below vs v o live set stack typed own =
      go_ok o.live o.set (o.goal ∷ below) f.slots (v ∷ vs) f.tasks refl refl (within_trans o.set t.set_after r.held.set o.set_left set)
      (fewer_slots core ann around.objects r.held.own r.held.live o.live f.slots (within_trans o.live t.live_after r.held.live o.live_left live) r.held.slots_ok)
      ((some_lower core ann needs around.objects t.ty o.goal.ty v o.fits typed, λ h. own (o.this h)), stack) o.next
