-- Further words on events, for contracts of code.
use Rattle.std.specs.Prelude.{Bool, true, false, ℕ, List, [], ◌++◌, Option, unwrap_or, flat_map, codes, decimal}
use Rattle.pc_run_events.specs.{declared.events.Deed.Deed, declared.events.RunEvent.RunEvent, Lines.{event_line, touch_line}}
use Rattle.pc_base.specs.Lists.{Text, separated}
use Rattle.pc_core.specs.CoreData.{CoreData}
use Rattle.pc_trace.specs.declared.touch.Touch.{Touch}
use Rattle.pc_run_events.specs.declared.events.Deed.TheVariants as deed

abbrev pub is_access : Deed → Bool
is_access (deed.Touch x) = true
is_access (deed.Take m sent) = false
is_access (deed.Send r m) = false
is_access (deed.Make a m) = false
is_access (deed.New a e) = false

abbrev pub name_or_nothing : Option Text → Text
name_or_nothing name = unwrap_or name []

abbrev pub events_text : CoreData → List RunEvent → Text
events_text core events = flat_map (event_line core) events

abbrev pub touches_text : List Touch → Text
touches_text touches = flat_map touch_line touches

-- Numbers, each after a comma.
abbrev pub more_text : List ℕ → Text
more_text ns = flat_map (λ n. codes "," ++ decimal n) ns

-- Numbers with a comma between any two.
abbrev pub clock_text : List ℕ → Text
clock_text ns = separated (codes ",") decimal ns
