-- After a step, the makers of objects are still actors, and objects still have the fields of their entities.
use Rattle.std.proofs.{Common.{◌≡◌, ℕ, zero, suc, ◌+◌, ◌<◌, List, [], ◌∷◌, ◌++◌, length, Option, Some, None, Ok, Err, refl, sym, ap, subst, length-append}, lemmas.List.length-set}
use Rattle.std.specs.{Prelude.{slice_get, slice_set, Result, IfOk, OnErr}, declared.alloc.AllocError.AllocError, FinMap.{get, len}}
use Rattle.pc_base.proofs.Gets.{get_below}
use Rattle.pc_heap.specs.{Heaps.object_limit, Objects.{ObjectMap, with_field}, Parts.object_in, declared.value.Address.Address, declared.value.Value.Value, declared.value.Value.TheVariants.{Num, Truth, Text, Prim, At}}
use Rattle.pc_core.specs.{CoreData.CoreData, declared.declarations.Method.Method}
use Rattle.pc_semantics.specs.{declared.actors.Actor.Actor, declared.frames.Frame.Frame, declared.frames.Task.Task, declared.mailbox.Message.Message, declared.outcome.Outcome.Outcome, Configurations.{Configuration, own_address, with_frames, Move, Stuck, Overflows, Goes, Writes, Makes, Spawns, Enters, Sends, Leaves, with_tasks}, Step.{around, made, printed_text, run_frames, step, take, take_first}, Parts.{begin_method, begun, delivered, run_task, step_of}}
use Rattle.pc_machine.specs.States.{Sound, IsSound}
use Rattle.pc_machine.proofs.{Allowed.{Allowed, task_allowed}, Entitled.{field_written, object_comes}, Peopling.{peopled_actor, peopled_again, peopled_object}}

-- ---- the same objects and as many actors

same_number : (core : CoreData) (m : ObjectMap) (n k : ℕ) → k ≡ n → Sound core m n → Sound core m k
same_number core m n k e p = subst (λ j. Sound core m j) (sym e) p

module _ (core : CoreData) (c : Configuration) (p : IsSound core c) where
  -- ---- other frames, messages or texts

  set_kept : (m : ObjectMap) (j : ℕ) (b : Actor) → Sound core m (length c.actors) → Sound core m (length (slice_set c.actors j b))
  set_kept m j b q = same_number core m (length c.actors) _ (length-set c.actors j b) q

  delivery_kept : (d : Configuration) (j : ℕ) (m : Message) (o : Option Actor) → IsSound core d → IsSound core (delivered c d j m o).1
  delivery_kept d j m None q = p
  delivery_kept d j m (Some b) q = same_number core d.objects (length d.actors) _ (length-set d.actors j (record { mailbox = b.mailbox ++ m ∷ []; frames = b.frames })) q

  -- ---- the first message

  printed_kept : (b : Actor) (vs : List Value) → IsSound core (printed_text c b vs).1
  printed_kept b [] = p
  printed_kept b (Text t ∷ []) = set_kept c.objects 0 b p
  printed_kept b (Text t ∷ v ∷ vs) = p
  printed_kept b (Num n ∷ vs) = p
  printed_kept b (Truth t ∷ vs) = p
  printed_kept b (Prim n ∷ vs) = p
  printed_kept b (At t ∷ vs) = p

  begun_kept : (i : ℕ) (b : Actor) (m : Message) (x : Method) (o : Option ℕ) → IsSound core (begun c i b m x o).1
  begun_kept i b m x None = p
  begun_kept i b m x (Some body) = set_kept c.objects i _ p

  method_kept : (i : ℕ) (b : Actor) (m : Message) (o : Option Method) → IsSound core (begin_method c i b m o).1
  method_kept i b m None = p
  method_kept i b m (Some x) = begun_kept i b m x x.body

  take_kept : (i : ℕ) (b : Actor) (m : Message) → IsSound core (take core c i b m).1
  take_kept zero b m = printed_kept b m.arguments
  take_kept (suc k) b m = method_kept (suc k) b m (slice_get core.methods m.method)

  first_kept : (i : ℕ) (ms : List Message) → IsSound core (take_first core c i ms).1
  first_kept i [] = p
  first_kept i (m ∷ ms) = take_kept i (record { mailbox = ms; frames = [] }) m

  module _ (few : len c.objects < object_limit) (i : ℕ) (a : Actor) (there : i < length c.actors) where
    -- ---- moves

    made_kept : (fs : List Frame) (m : Move) → Allowed core (around c i) m → IsSound core (made c i a fs m).1
    made_kept fs (Stuck l) h = p
    made_kept fs Overflows h = p
    made_kept fs (Goes f) h = set_kept c.objects i _ p
    made_kept fs (Writes at k v f) h = set_kept _ i _ (record {
      peopled = peopled_again c.objects (length c.actors) at (with_field (object_in (get c.objects at)) k v) p.peopled h;
      fielded = field_written core c.objects at k v p.fielded h;
    })
    made_kept fs (Makes at o g f) h =
        let own : at.maker < length c.actors = subst (λ (b : Address). b.maker < length c.actors) (sym h.0) there in
        set_kept _ i _ (record { peopled = peopled_object c.objects (length c.actors) at o p.peopled few own; fielded = object_comes core c.objects at o p.fielded h.1 })
    made_kept fs (Spawns o m f) h =
        let d : Configuration = with_frames c i a (f ∷ fs) in
        let q : Sound core c.objects (length d.actors) = set_kept c.objects i _ p in
        same_number core _ (length d.actors + 1) _ (length-append d.actors _) (record {
          peopled = peopled_actor c.objects (length d.actors) o q.peopled few;
          fielded = object_comes core c.objects (own_address (length d.actors)) o p.fielded h;
        })
    made_kept fs (Enters g f) h = set_kept c.objects i _ p
    made_kept fs (Sends j m f) h =
        let d : Configuration = with_frames c i a (f ∷ fs) in
        delivery_kept d j m (slice_get d.actors j) (set_kept c.objects i _ p)
    made_kept fs (Leaves v) h = set_kept c.objects i _ p

    task_kept : (f : Frame) (fs : List Frame) (ts : List Task) → IsSound core (run_task core c i a f fs ts).1
    task_kept f fs [] = p
    task_kept f fs (t ∷ ts) = made_kept fs _ (task_allowed core (around c i) (with_tasks f ts) t)

    frames_kept : (fs : List Frame) → IsSound core (run_frames core c i a fs).1
    frames_kept [] = first_kept i a.mailbox
    frames_kept (f ∷ fs) = task_kept f fs f.tasks

  actor_kept : len c.objects < object_limit → (i : ℕ) (o : Option Actor) → slice_get c.actors i ≡ o → IsSound core (step_of core c i o).1
  actor_kept few i None e = p
  actor_kept few i (Some a) e = frames_kept few i a (get_below c.actors i a e) a.frames

  pub step_kept : len c.objects < object_limit → (i : ℕ) → IsSound core (step core c i).1
  step_kept few i = actor_kept few i (slice_get c.actors i) refl

-- The configuration after a step, or the same one if memory ran out, is sound.
pub machine_kept : (core : CoreData) (c d : Configuration) (i : ℕ) (r : Result Outcome AllocError) → IsSound core c → len c.objects < object_limit
    → IfOk r (λ o. ◌≡◌ {A = Outcome × Configuration} (o, d) (step core c i)) → OnErr r (d ≡ c) → IsSound core d
machine_kept core c d i (Ok o) p few ok err = subst (IsSound core) (sym (ap (λ (x : Outcome × Configuration). x.1) ok)) (step_kept core c p few i)
machine_kept core c d i (Err e) p few ok err = subst (IsSound core) (sym err) p
