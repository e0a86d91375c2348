-- The events and the accesses of a run, as lines.
use Rattle.std.specs.{Prelude.{◌≡◌, ℕ, List, [], ◌++◌, Option, Some, IsSome, slice_get, codes, Bool, true, false, length, decimal, unwrap_or, flat_map}, Option.option_map_or}
use Rattle.pc_core.specs.{CoreData.CoreData, declared.declarations.EntityDef.EntityDef, declared.declarations.Method.Method}
use Rattle.pc_base.specs.Lists.{Each, Text, line_end, separated}
use Rattle.pc_run_events.specs.{declared.events.Deed.Deed, declared.events.RunEvent.RunEvent, Events.touches_in}
use Rattle.pc_heap.specs.declared.value.Address.{Address}
use Rattle.pc_semantics.specs.declared.access.Access.{Access}
use Rattle.pc_trace.specs.declared.touch.Touch.{Touch}
use Rattle.pc_run_events.specs.declared.events.Deed.TheVariants as deed

-- What does not exist has no name.
abbrev pub name_of_entity : Option EntityDef → Text
name_of_entity entity = option_map_or (λ (x : EntityDef). x.name) entity []

-- A method, by its entity's name and its own: `E.m`.
abbrev pub method_text : CoreData → Option Method → Text
method_text core method =
    option_map_or (λ (m : Method). name_of_entity (slice_get core.entities m.entity) ++ (codes "." ++ unwrap_or (slice_get core.names m.name) [])) method []

-- ---- what events name exists

-- The method exists, with its entity and its name.
abbrev pub MethodHasName : CoreData → (method : ℕ) → Type 0
MethodHasName core m = (x : Method) × (slice_get core.methods m ≡ Some x) × IsSome (slice_get core.entities x.entity)
    × IsSome (slice_get core.names x.name)

abbrev pub DeedHasNames : CoreData → Deed → Type 0
DeedHasNames core (deed.Take m sent) = MethodHasName core m
DeedHasNames core (deed.Send r m) = MethodHasName core m
DeedHasNames core (deed.Make a m) = MethodHasName core m
DeedHasNames core (deed.New a e) = IsSome (slice_get core.entities e)
DeedHasNames core (deed.Touch x) = Unit {0}

abbrev pub AllNamed : CoreData → List RunEvent → Type 0
AllNamed core events = Each (λ k t. DeedHasNames core t.deed) events

-- ---- the events of a run, as lines

abbrev pub access_word : Bool → Text
access_word true = codes "write"
access_word false = codes "read"

-- `M.S`
abbrev pub address_text : Address → Text
address_text a = decimal a.maker ++ (codes "." ++ decimal a.serial)

-- `read M.S F`, or the same with `write`.
abbrev pub access_text : Access → Text
access_text x = access_word x.write ++ (codes " " ++ (address_text x.address ++ (codes " " ++ decimal x.field)))

-- `take E.m FROM`
abbrev pub take_text : CoreData → (method sent : ℕ) → Text
take_text core m sent = codes "take " ++ (method_text core (slice_get core.methods m) ++ (codes " " ++ decimal sent))

-- `B E.m`
abbrev pub message_text : CoreData → (actor method : ℕ) → Text
message_text core b m = decimal b ++ (codes " " ++ method_text core (slice_get core.methods m))

-- `new M.S E`
abbrev pub new_text : CoreData → Address → (entity : ℕ) → Text
new_text core a e = codes "new " ++ (address_text a ++ (codes " " ++ name_of_entity (slice_get core.entities e)))

-- What an event does.
abbrev pub deed_text : CoreData → Deed → Text
deed_text core (deed.Take m sent) = take_text core m sent
deed_text core (deed.Send r m) = codes "send " ++ message_text core r m
deed_text core (deed.Make a m) = codes "make " ++ message_text core a m
deed_text core (deed.New a e) = new_text core a e
deed_text core (deed.Touch x) = access_text x

-- `PLACE ACTOR `
abbrev pub event_words : RunEvent → Text
event_words t = decimal t.place ++ (codes " " ++ (decimal t.actor ++ codes " "))

-- `PLACE ACTOR DEED clock CLOCK`
abbrev pub event_line : CoreData → RunEvent → Text
event_line core t = event_words t ++ (deed_text core t.deed ++ (codes " clock " ++ (separated (codes ",") decimal t.clock ++ line_end)))

-- `events N accesses M ordered`
abbrev pub event_count_line : (events accesses : ℕ) → Text
event_count_line n m = codes "events " ++ (decimal n ++ (codes " accesses " ++ (decimal m ++ (codes " ordered" ++ line_end))))

-- The events, a line each, followed by their number and the number of accesses among them.
abbrev pub events_text_of_run : CoreData → List RunEvent → Text
events_text_of_run core events = flat_map (event_line core) events ++ event_count_line (length events) (length (touches_in events))

-- ---- the accesses of a run, as lines

-- `PLACE ACTOR read M.S F clock `, or the same with `write`.
abbrev pub touch_text : Touch → Text
touch_text t =
    decimal t.place ++ (codes " " ++ (decimal t.actor ++ (codes " " ++ (access_word t.write ++ (codes " " ++ (decimal t.address.maker ++ (codes "." ++ (decimal t.address.serial ++ (codes " " ++ (decimal t.field
    ++ codes " clock "))))))))))

-- An access and its clock.
abbrev pub touch_line : Touch → Text
touch_line t = touch_text t ++ (separated (codes ",") decimal t.clock ++ line_end)

-- `accesses N ordered`
abbrev pub access_count_line : ℕ → Text
access_count_line n = codes "accesses " ++ (decimal n ++ (codes " ordered" ++ line_end))

-- The accesses, a line each, followed by their number.
abbrev pub trace_text : List Touch → Text
trace_text touches = flat_map touch_line touches ++ access_count_line (length touches)
