-- The refusals of a source, and what is wrong with a core that has no derivation.
use Rattle.std.specs.{Prelude.{ℕ, codes, slice_get}, Option.option_map_or}
use Rattle.pc_lex.specs.declared.fault.LexFault.{LexFault}
use Rattle.pc_base.specs.Lists.{Text, ◌>>=◌}
use Rattle.pc_refusal_lines.specs.Lines.{offset_line, no_main_line}
use Rattle.pc_names.specs.{declared.fault.NameFault.NameFault, declared.fault.Which.Which}
use Rattle.pc_core.specs.{declared.declarations.EntityDef.EntityDef, declared.declarations.Method.Method, declared.declarations.ParamInfo.ParamInfo, CoreData.CoreData}
use Rattle.pc_sub.specs.declared.faults.DeclFault.{DeclFault}
use Rattle.pc_lex.specs.declared.fault.LexFault.TheVariants as lexical
use Rattle.pc_names.specs.declared.fault.NameFault.TheVariants as fault
use Rattle.pc_names.specs.declared.fault.Which.TheVariants as which
use Rattle.pc_sub.specs.declared.faults.DeclFault.TheVariants as decl

-- 8 if a limit is passed, and 3 for any other fault of a text. Running out of memory is not a fault; its status is 11.
abbrev pub fault_status : LexFault → ℕ
fault_status (lexical.BadByte p) = 3
fault_status (lexical.Unclosed p) = 3
fault_status (lexical.BadNumber p) = 3
fault_status (lexical.BadEscape p) = 3
fault_status (lexical.TooMany p) = 8
fault_status lexical.Memory = 11

-- The line of a fault, with its place. Running out of memory has no line.
abbrev pub fault_line : Text → Text → LexFault → Text
fault_line name bytes (lexical.BadByte p) = offset_line name bytes p (codes "bad byte")
fault_line name bytes (lexical.Unclosed p) = offset_line name bytes p (codes "not closed")
fault_line name bytes (lexical.BadNumber p) = offset_line name bytes p (codes "bad number")
fault_line name bytes (lexical.BadEscape p) = offset_line name bytes p (codes "bad escape")
fault_line name bytes (lexical.TooMany p) = offset_line name bytes p (codes "too many tokens")
fault_line name bytes lexical.Memory = codes ""

-- ---- the refusals of a source by its names

-- 8 if a limit is passed, and 4 for any other fault of a file. Running out of memory is not a fault; its status is 11.
abbrev pub name_status : NameFault → ℕ
name_status (fault.Double s) = 4
name_status (fault.Unknown s) = 4
name_status fault.NoMain = 4
name_status (fault.BadMain s) = 4
name_status (fault.Cycle s) = 4
name_status (fault.TooMany w s) = 8
name_status fault.Memory = 11

-- What there are too many of.
abbrev pub many_text : Which → Text
many_text which.Entities = codes "too many entities"
many_text which.Methods = codes "too many methods"
many_text which.Slots = codes "too many slots"
many_text which.Fields = codes "too many fields"
many_text which.Nodes = codes "too many nodes"
many_text which.Text = codes "text too long"

-- The line of a fault, with its place. A missing Main has no place, and running out of memory has no line.
abbrev pub name_line : Text → Text → NameFault → Text
name_line name bytes (fault.Double s) = offset_line name bytes s.start (codes "name twice")
name_line name bytes (fault.Unknown s) = offset_line name bytes s.start (codes "name unknown")
name_line name bytes fault.NoMain = no_main_line name
name_line name bytes (fault.BadMain s) = offset_line name bytes s.start (codes "Main is of another form")
name_line name bytes (fault.Cycle s) = offset_line name bytes s.start (codes "trait in a cycle")
name_line name bytes (fault.TooMany w s) = offset_line name bytes s.start (many_text w)
name_line name bytes fault.Memory = codes ""

-- Where a declaration that fails starts in the source: its parameter, its entity or its method. What does not exist
-- starts at 0.
abbrev pub decl_offset : CoreData → DeclFault → ℕ
decl_offset core (decl.NotSendable m i) = option_map_or (λ (p : ParamInfo). p.span.start) (slice_get core.methods m >>= λ (x : Method). slice_get x.params i) 0
decl_offset core (decl.MissingMethod e m) = option_map_or (λ (x : EntityDef). x.span.start) (slice_get core.entities e) 0
decl_offset core (decl.Mismatch e m) = option_map_or (λ (x : Method). x.span.start) (slice_get core.methods m) 0

abbrev pub decl_text : DeclFault → Text
decl_text (decl.NotSendable m i) = codes "parameter not sendable"
decl_text (decl.MissingMethod e m) = codes "method missing"
decl_text (decl.Mismatch e m) = codes "method does not fit"
