-- Fields and slots; constructors, calls, messages and the end of a method.
use Rattle.std.specs.{Prelude.{ℕ, Option, Some, None, slice_get, ◌-◌, Bool, false, ◌&&◌, List, [], ◌∷◌, length, nat_eq, nat_lt, codes, decimal, option_map, unwrap_or, if◌then◌else◌}, Str.bytes_eq, Option.{option_flatten, option_map_or}}
use Rattle.pc_heap.specs.{Objects.next_address, declared.value.Value.Value, declared.value.Value.TheVariants.{At, Num, Truth, Text}}
use Rattle.pc_core.specs.{CoreData.{field_named, CoreData, method_named}, declared.nodes.NodeKind.NodeKind, Kinds.{field_read, field_written, stored_slot, called_name}, declared.declarations.Method.Method, declared.declarations.MethodKind.MethodKind}
use Rattle.pc_base.specs.Lists.{◌>>=◌}
use Rattle.pc_semantics.specs.{declared.frames.Frame.Frame, Configurations.{Around, Move, Stuck, Goes, Writes, Makes, Spawns, Enters, Sends, Leaves, given, pushed, with_slot, slot_value, first_frame, push_value, pop, pop_arguments, none, value_entity, address_of, with_object, own_address, blank_object}}
use Rattle.pc_core.specs.declared.nodes.NodeKind.TheVariants as node
use Rattle.pc_semantics.specs.declared.outcome.Lack.TheVariants as lack
use Rattle.pc_core.specs.declared.declarations.MethodKind.TheVariants as method

-- ---- fields and slots

-- Get: the origin is replaced by the field's value.
abbrev pub get_task : CoreData → Around → Frame → NodeKind → Move
get_task core around f k =
    given lack.Value (field_read k) λ name. pop f λ v g. with_object around v λ a o.
    push_value g lack.Field (option_flatten (field_named core o.entity name >>= slice_get o.fields))

-- Put: the origin and the value are replaced by the field's old value, or None; and the field is set.
abbrev pub put_task : CoreData → Around → Frame → NodeKind → Move
put_task core around f k =
    given lack.Value (field_written k) λ name. pop f λ v g. pop g λ w h. with_object around v λ a o.
    given lack.Field (field_named core o.entity name) λ i.
    given lack.Field (slice_get o.fields i) λ old. Writes a i w (pushed h (unwrap_or old none))

-- Store: the value goes into the slot, and is replaced by the slot's old value, or None.
abbrev pub store : ℕ → Value → Frame → Move
store s v f = Goes (pushed (with_slot f s (Some v)) (unwrap_or (slot_value f s) none))

abbrev pub store_task : Frame → NodeKind → Move
store_task f k = given lack.Value (stored_slot k) λ s. pop f (store s)

-- ---- constructors

-- The move if the method takes this number of arguments; otherwise the method is missing.
abbrev pub counted : Method → List Value → Move → Move
counted x arguments move = if nat_eq (length arguments) (length x.params) then move else Stuck lack.Method

-- Make: a new object, and its constructor begins.
abbrev pub make_task : CoreData → Around → Frame → List ℕ → NodeKind → Move
make_task core around f cs (node.New m) =
    let a = next_address around.objects around.actor in
    pop_arguments f (length cs) λ arguments g. given lack.Method (slice_get core.methods m) λ x.
    counted x arguments (given lack.Method x.body λ body. Makes a (blank_object core x.entity) (first_frame m x (At a) arguments body) g)
make_task core around f cs k = Stuck lack.Value

-- Spawn: a new actor with its object, whose constructor's message waits.
abbrev pub spawn_task : CoreData → Around → Frame → List ℕ → NodeKind → Move
spawn_task core around f cs (node.Spawn m) =
    pop_arguments f (length cs) λ arguments g. given lack.Method (slice_get core.methods m) λ x.
    counted x arguments (Spawns (blank_object core x.entity) (record { method = m; arguments = arguments }) (pushed g (At (own_address around.actors))))
spawn_task core around f cs k = Stuck lack.Value

-- ---- calls and messages

-- A function begins. A behaviour's message is sent to the actor whose own object the receiver is.
abbrev pub invoke_kind : Around → ℕ → Method → Value → List Value → Frame → MethodKind → Move
invoke_kind around m x this arguments f method.Fun = counted x arguments (given lack.Method x.body λ body. Enters (first_frame m x this arguments body) f)
invoke_kind around m x this arguments f method.Be =
    given lack.Object (address_of this) λ a.
    if nat_eq a.serial 0 && nat_lt a.maker around.actors
    then counted x arguments (Sends a.maker (record { method = m; arguments = arguments }) (pushed f none))
    else Stuck lack.Object
invoke_kind around m x this arguments f method.New = Stuck lack.Method
invoke_kind around m x this arguments f method.Spawn = Stuck lack.Method

-- `string` of numbers and truth values, which no entity declares.
abbrev pub text_of : Value → Option (List ℕ)
text_of (Num n) = Some (decimal n)
text_of (Truth b) = Some (if b then codes "true" else codes "false")
text_of v = None

-- `string`, without arguments.
abbrev pub is_string : CoreData → ℕ → List Value → Bool
is_string core name [] = option_map_or (λ text. bytes_eq text (codes "string")) (slice_get core.names name) false
is_string core name (v ∷ vs) = false

abbrev pub string_of : CoreData → ℕ → Value → List Value → Frame → Move
string_of core name this arguments f = if is_string core name arguments then push_value f lack.Method (option_map Text (text_of this)) else Stuck lack.Method

-- The method with this name of entity e is invoked.
abbrev pub invoke : CoreData → Around → ℕ → Value → List Value → Frame → ℕ → Move
invoke core around name this arguments f e =
    option_map_or (λ m. given lack.Method (slice_get core.methods m) λ x. invoke_kind around m x this arguments f x.kind)
    (method_named core e name) (string_of core name this arguments f)

-- Invoke: the method is that of the receiver's own entity.
abbrev pub invoke_task : CoreData → Around → Frame → List ℕ → NodeKind → Move
invoke_task core around f cs k =
    given lack.Value (called_name k) λ name. pop f λ this g. pop_arguments g (length cs - 1) λ arguments h.
    given lack.Method (value_entity around.objects this) (invoke core around name this arguments h)

-- Return: the frame ends. A class's constructor returns its object, which is in the first slot.
abbrev pub leave : Frame → MethodKind → Move
leave f method.Fun = pop f λ v g. Leaves (Some v)
leave f method.New = given lack.Slot (slot_value f 0) λ v. Leaves (Some v)
leave f method.Be = Leaves None
leave f method.Spawn = Leaves None
