-- Parts of what the machine does, as proofs and the contracts of its code name them.
use Rattle.std.specs.{Prelude.{ℕ, suc, ◌+◌, ◌-◌, Bool, not, ◌&&◌, List, [], ◌∷◌, ◌++◌, map, length, drop, replicate, Option, Some, None, option_map, unwrap_or, slice_get, nat_eq, nat_lt, codes, position, if◌then◌else◌}, Str.bytes_eq, Option.{option_flatten, option_map_or}}
use Rattle.pc_base.specs.{Limits.text_limit, Lists.◌>>=◌}
use Rattle.pc_tree.specs.declared.kinds.Op.{Op}
use Rattle.pc_heap.specs.{Objects.{ObjectMap, Object, next_address}, declared.value.Address.Address, declared.value.Value.Value, declared.value.Value.TheVariants.{Num, Truth, Text, Prim, At}}
use Rattle.pc_core.specs.{CoreData.{CoreData, field_named}, declared.declarations.EntityDef.EntityDef, declared.declarations.Method.Method, declared.nodes.Node.Node}
use Rattle.pc_semantics.specs.{declared.actors.Actor.Actor, declared.ahead.Ahead.Ahead, declared.frames.Frame.Frame, declared.frames.Task.Task, declared.mailbox.Message.Message, declared.outcome.Outcome.Outcome, declared.outcome.Outcome.TheVariants.Skipped, Configurations.{Configuration, with_actor, with_frames, own_address, blank_object, Around, Move, Overflows, Goes, Writes, Makes, Spawns, Enters, Leaves, given, with_stack, with_slot, with_tasks, pushed, first_frame, push_value, pop, none, with_object}, Evaluation.{evaluate, same_truth, same_value, truth, binary, branch, loop_turn}, Calls.{counted, leave, invoke_kind, string_of, invoke}, Step.{around, frame_move, made, run_frames, leads_to}, Ahead.{by_move, of_frames}}
use Rattle.pc_semantics.specs.declared.ahead.Ahead.TheVariants as ahead
use Rattle.pc_semantics.specs.declared.outcome.Lack.TheVariants as lack
use Rattle.pc_core.specs.declared.declarations.MethodKind.TheVariants as method

-- ---- the state and the start

abbrev pub with_objects : Configuration → ObjectMap → Configuration
with_objects c objects = record c { objects = objects }

abbrev pub number_of_entity : CoreData → List ℕ → Option ℕ
number_of_entity core name = position (bytes_eq name) (map (λ x. x.name) core.entities)

abbrev pub number_of_fields : Option EntityDef → ℕ
number_of_fields o = option_map_or (λ (x : EntityDef). length x.fields) o 0

-- ---- frames and values

abbrev pub first_slots : Method → Value → List Value → List (Option Value)
first_slots x this arguments = Some this ∷ map Some arguments ++ replicate (x.slots - suc (length arguments)) None

abbrev pub value_or_none : Option Value → Value
value_or_none o = unwrap_or o none

abbrev pub with_top : Frame → List Value → (Value → Frame → Move) → Move
with_top f stack next = given lack.Value (slice_get stack 0) (λ v. next v (with_stack f (drop 1 stack)))

abbrev pub with_popped : Frame → Option (List Value × List Value) → (List Value → Frame → Move) → Move
with_popped f o next = given lack.Value o (λ p. next p.0 (with_stack f p.1))

abbrev pub at_node : Option Node → (Node → Move) → Move
at_node o next = given lack.Value o next

-- ---- slots

abbrev pub held : Option (Option Value) → Option Value
held o = option_flatten o

abbrev pub push_slot : Frame → Option (Option Value) → Move
push_slot f o = push_value f lack.Slot (option_flatten o)

abbrev pub take_slot : Frame → ℕ → Option (Option Value) → Move
take_slot f s o = given lack.Slot (option_flatten o) (λ v. Goes (pushed (with_slot f s None) v))

abbrev pub leave_object : Option (Option Value) → Move
leave_object o = given lack.Slot (option_flatten o) (λ v. Leaves (Some v))

-- ---- fields

abbrev pub get_value : Frame → Option (Option Value) → Move
get_value f o = push_value f lack.Field (option_flatten o)

abbrev pub get_field : Frame → Object → Option ℕ → Move
get_field f o i = get_value f (i >>= slice_get o.fields)

abbrev pub get_of : CoreData → Frame → ℕ → Option Object → Move
get_of core f name o = given lack.Object o (λ x. get_field f x (field_named core x.entity name))

abbrev pub get_from : CoreData → Around → ℕ → Value → Frame → Move
get_from core around name v f = with_object around v (λ a o. get_field f o (field_named core o.entity name))

abbrev pub put_value : Frame → Address → ℕ → Value → Option (Option Value) → Move
put_value f a i v o = given lack.Field o (λ old. Writes a i v (pushed f (unwrap_or old none)))

abbrev pub put_field : Frame → Address → Object → Value → Option ℕ → Move
put_field f a o v i = given lack.Field i (λ k. put_value f a k v (slice_get o.fields k))

abbrev pub put_of : CoreData → Frame → ℕ → Address → Value → Option Object → Move
put_of core f name a v o = given lack.Object o (λ x. put_field f a x v (field_named core x.entity name))

abbrev pub put_into : CoreData → Around → ℕ → Value → Value → Frame → Move
put_into core around name origin v f = with_object around origin (λ a o. put_field f a o v (field_named core o.entity name))

-- ---- operators

abbrev pub push_or_lack : Frame → Option Value → Move
push_or_lack f o = push_value f lack.Value o

abbrev pub unless_by_zero : (divisor number : ℕ) → ℕ
unless_by_zero b n = if nat_eq b 0 then 0 else n

abbrev pub joined_text : Frame → List ℕ → Move
joined_text f t = if nat_lt text_limit (length t) then Overflows else Goes (pushed f (Text t))

abbrev pub with_second_number : Frame → Op → ℕ → Value → Move
with_second_number f o a w = binary f o (Num a) w

abbrev pub with_truth : Frame → Op → Bool → Value → Move
with_truth f o a w = binary f o (Truth a) w

abbrev pub with_text : Frame → Op → List ℕ → Value → Move
with_text f o a w = binary f o (Text a) w

abbrev pub negated : Frame → Value → Move
negated f v = truth (λ b g. Goes (pushed g (Truth (not b)))) v f

abbrev pub same_address : Address → Address → Bool
same_address a b = nat_eq a.maker b.maker && nat_eq a.serial b.serial

abbrev pub is_number : ℕ → Value → Bool
is_number a w = same_value (Num a) w

abbrev pub is_truth : Bool → Value → Bool
is_truth a w = same_value (Truth a) w

abbrev pub is_text : List ℕ → Value → Bool
is_text a w = same_value (Text a) w

abbrev pub is_primitive : ℕ → Value → Bool
is_primitive a w = same_value (Prim a) w

abbrev pub is_object : Address → Value → Bool
is_object a w = same_value (At a) w

abbrev pub compared : Frame → Bool → Value → Value → Move
compared f wanted v w = Goes (pushed f (Truth (same_truth wanted (same_value v w))))

-- ---- what is done next

abbrev pub evaluate_node : Frame → ℕ → Option Node → Move
evaluate_node f n o = given lack.Value o (λ x. evaluate f n x.children x.kind)

abbrev pub branch_task : Frame → List ℕ → Move
branch_task f cs = pop f (truth (branch cs))

abbrev pub loop_task : Frame → ℕ → List ℕ → Move
loop_task f n cs = pop f (truth (loop_turn n cs))

-- ---- calls

abbrev pub begin_new : CoreData → Around → ℕ → Method → List Value → Frame → Option ℕ → Move
begin_new core around m x arguments f o =
    let a = next_address around.objects around.actor in
    given lack.Method o (λ body. Makes a (blank_object core x.entity) (first_frame m x (At a) arguments body) f)

abbrev pub make_of : CoreData → Around → ℕ → List Value → Frame → Option Method → Move
make_of core around m arguments f o = given lack.Method o (λ x. counted x arguments (begin_new core around m x arguments f x.body))

abbrev pub spawn_of : CoreData → Around → ℕ → List Value → Frame → Option Method → Move
spawn_of core around m arguments f o =
    given lack.Method o (λ x. counted x arguments (Spawns (blank_object core x.entity) (record { method = m; arguments = arguments }) (pushed f (At (own_address around.actors)))))

abbrev pub enter : ℕ → Method → Value → List Value → Frame → Option ℕ → Move
enter m x this arguments f o = given lack.Method o (λ body. Enters (first_frame m x this arguments body) f)

abbrev pub send : Around → ℕ → Method → List Value → Frame → Value → Move
send around m x arguments f this = invoke_kind around m x this arguments f method.Be

abbrev pub truth_text : Bool → List ℕ
truth_text b = if b then codes "true" else codes "false"

abbrev pub push_text : Frame → Option (List ℕ) → Move
push_text f o = push_value f lack.Method (option_map Text o)

abbrev pub invoke_found : Around → ℕ → Value → List Value → Frame → Option Method → Move
invoke_found around m this arguments f o = given lack.Method o (λ x. invoke_kind around m x this arguments f x.kind)

abbrev pub invoke_method : CoreData → Around → ℕ → Value → List Value → Frame → Option ℕ → Move
invoke_method core around name this arguments f o =
    option_map_or (λ m. invoke_found around m this arguments f (slice_get core.methods m)) o (string_of core name this arguments f)

abbrev pub invoke_on : CoreData → Around → ℕ → Value → List Value → Frame → Option ℕ → Move
invoke_on core around name this arguments f o = given lack.Method o (invoke core around name this arguments f)

abbrev pub return_task : Frame → Option Method → Move
return_task f o = given lack.Method o (λ x. leave f x.kind)

-- ---- the step

abbrev pub delivered : Configuration → Configuration → ℕ → Message → Option Actor → Outcome × Configuration
delivered c d j m o = leads_to c lack.Object (option_map (λ (a : Actor). with_actor d j (record a { mailbox = a.mailbox ++ m ∷ [] })) o)

abbrev pub deliver : Configuration → Configuration → ℕ → Message → Outcome × Configuration
deliver c d j m = delivered c d j m (slice_get d.actors j)

abbrev pub begun : Configuration → ℕ → Actor → Message → Method → Option ℕ → Outcome × Configuration
begun c i a m x o = leads_to c lack.Method (o >>= (λ body. Some (with_frames c i a (first_frame m.method x (At (own_address i)) m.arguments body ∷ []))))

abbrev pub begin_method : Configuration → ℕ → Actor → Message → Option Method → Outcome × Configuration
begin_method c i a m o = leads_to c lack.Method do
  x ← o
  body ← x.body
  Some (with_frames c i a (first_frame m.method x (At (own_address i)) m.arguments body ∷ []))

abbrev pub run_task : CoreData → Configuration → ℕ → Actor → Frame → List Frame → List Task → Outcome × Configuration
run_task core c i a f fs ts = made c i a fs (frame_move core (around c i) (with_tasks f ts))

abbrev pub step_of : CoreData → Configuration → ℕ → Option Actor → Outcome × Configuration
step_of core c i o = option_map_or (λ (a : Actor). run_frames core c i a a.frames) o (Skipped, c)

-- ---- what comes next

abbrev pub of_tasks : CoreData → Around → Frame → List Task → Ahead
of_tasks core around f ts = by_move (frame_move core around (with_tasks f ts))

abbrev pub of_actor : CoreData → Configuration → ℕ → Option Actor → Ahead
of_actor core c i o = option_map_or (λ (a : Actor). of_frames core c i a a.frames) o ahead.Skipped
