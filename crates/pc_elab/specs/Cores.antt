-- The core of a file, in terms of the code.
use Rattle.std.specs.Prelude.{◌≡◌, ◌≤◌, List, length, Result, Ok, Err}
use Rattle.pc_base.specs.{Limits.{node_limit, program_slot_limit}, Lists.Ascends}
use Rattle.pc_token.specs.declared.kinds.Token.{Token}
use Rattle.pc_grammar.specs.Spells.{SpellsFile}
use Rattle.pc_text_order.specs.Laws.{starts}
use Rattle.pc_core.specs.{CoreData.CoreData, Formed.Formed}
use Rattle.pc_names.specs.declared.fault.NameFault.{NameFault}
use Rattle.pc_file_spec.specs.Cores.{Stands, IsElabFault}
use Rattle.pc_elab.specs.declared.elaborating.Made.{Made}
use Rattle.pc_tree.specs.Tree as t
use Rattle.pc_names.specs.declared.fault.NameFault.TheVariants as fault

-- Some tokens in the order of a text spell the file.
abbrev pub IsSpelledFile : t.File → Type 0
IsSpelledFile f = (ts : List Token) × SpellsFile f ts × Ascends (starts ts)

-- The core of a file that tokens spell is formed, and its slots and nodes are within the limits.
abbrev pub CoresAreFormed : Type 0
CoresAreFormed = (file : t.File) (core : CoreData) → IsSpelledFile file → Stands file core → Formed core × (length core.slots ≤ program_slot_limit) × (length core.nodes ≤ node_limit)

-- The first fault of the file's members. Memory may run out at any time.
abbrev pub IsFirstFault : t.File → NameFault → Type 0
IsFirstFault file fault.Memory = Unit {0}
IsFirstFault file f = IsElabFault file f

abbrev pub made_view : Made → CoreData
made_view m = record { entities = m.entities; methods = m.parts.methods; slots = m.parts.slots; nodes = m.parts.nodes; names = m.names }

-- What is wanted was made, or its fault is reported.
abbrev pub Makes : Result Made NameFault → Result CoreData NameFault → Type 0
Makes (Ok m) want = want ≡ Ok (made_view m)
Makes (Err fault.Memory) want = Unit {0}
Makes (Err f) want = want ≡ Err f
