-- The explanation of a fault of a file's names.
use Rattle.std.specs.Prelude.{[], ◌++◌, Option, Some, None, codes}
use Rattle.pc_base.specs.{declared.span.Span.Span, Lists.Text}
use Rattle.pc_names.specs.declared.fault.NameFault.{NameFault}
use Rattle.pc_refusal_lines.specs.Lines.{no_main_line}
use Rattle.pc_explain_window.specs.{Head.head, Places.piece_of}
use Rattle.pc_explain_names.specs.{Homes.{entity_around, method_at}, Rows.members_at, NameLines.{cycle_lines, double_lines, main_lines, no_main_lines, unknown_lines}}
use Rattle.pc_names.specs.declared.fault.NameFault.TheVariants as fault
use Rattle.pc_tree.specs.Tree as t

-- In the entity whose text contains the name, and in its method.
abbrev pub unknown_in : Text → t.File → Span → Option t.Entity → Text
unknown_in bytes file span None = []
unknown_in bytes file span (Some e) = unknown_lines bytes file span e (members_at file span.start) (method_at e span.start)

abbrev pub double_in : Text → t.File → Span → Option t.Entity → Text
double_in bytes file span None = []
double_in bytes file span (Some e) = double_lines bytes file span e (method_at e span.start)

-- The trait or the interface whose name is there.
abbrev pub cycle_in : Text → Span → Option t.Entity → Text
cycle_in bytes span None = []
cycle_in bytes span (Some e) = cycle_lines e.kind (piece_of bytes span)

-- The explanation of a fault of the names of the file with this name and these bytes. There is none for a limit that is
-- passed, or if memory ran out.
abbrev pub names_text : Text → Text → t.File → NameFault → Text
names_text name bytes file (fault.Double s) = head name bytes s (codes "name twice") ++ double_in bytes file s (entity_around file s.start)
names_text name bytes file (fault.Unknown s) = head name bytes s (codes "name unknown") ++ unknown_in bytes file s (entity_around file s.start)
names_text name bytes file fault.NoMain = no_main_line name ++ no_main_lines
names_text name bytes file (fault.BadMain s) = head name bytes s (codes "Main is of another form") ++ main_lines
names_text name bytes file (fault.Cycle s) = head name bytes s (codes "trait in a cycle") ++ cycle_in bytes s (entity_around file s.start)
names_text name bytes file (fault.TooMany w s) = []
names_text name bytes file fault.Memory = []
