-- Which fault of a file is reported.
use Rattle.std.specs.Prelude.{◌≡◌, ◌⊎◌, ◌↔◌, ℕ, List, slice_get, Some}
use Rattle.pc_base.specs.{Lists.{Has, Ascends}, declared.span.Span.Span}
use Rattle.pc_tree.specs.declared.written_names.Name.{Name}
use Rattle.pc_token.specs.declared.kinds.Token.{Token}
use Rattle.pc_lex.specs.Pieces.{Tokens}
use Rattle.pc_grammar.specs.Spells.{SpellsFile}
use Rattle.pc_text_order.specs.Laws.{starts}
use Rattle.pc_names.specs.{declared.fault.NameFault.NameFault, Faults.{entity_name_faults, entity_faults, count_faults, main_faults, IsNameFault, IsNotMemory}}
use Rattle.pc_members.specs.{Members.{built_in_names, entity_names as entity_names_of, written, added}, MemberLists.trait_names}
use Rattle.pc_body_spec.specs.{Bodies.Context, Faults.{BodyNameFault, body_faults, initial_faults}}
use Rattle.pc_file_spec.specs.Cores.{Owned, context_of}
use Rattle.pc_core_relation.specs.MemberFaults.{IsMemberFault}
use Rattle.pc_name_laws.specs.{Uses.{Spot, InMember}, Missing.{IsMissing, IsBodyFault, place}, Declared.{IsEntityFault, IsDeclarationFault, IsMissingName}, Turns.{Turn, entity_names, declarations, cycles, method_counts, main, body, slots, nodes, IsCountFault, IsMainFault, IsFaultInTurn, IsBefore, NotBehind, all_members}}
use Rattle.pc_tree.specs.Tree as t
use Rattle.pc_names.specs.declared.fault.NameFault.TheVariants as fault

-- ---- what the passes look for

-- The faults that each pass lists, of which it reports the first, are exactly those defined here: of the names of
-- entities, of the declarations of an entity, of the number of methods, of `Main`, and of the body of a member.
abbrev pub EntitiesAreListed : Type 0
EntitiesAreListed = (file : t.File) (f : NameFault) → Has (entity_name_faults built_in_names file.entities) f ↔ IsEntityFault file f

abbrev pub DeclarationsAreListed : Type 0
DeclarationsAreListed = (file : t.File) (e : t.Entity) (f : NameFault) → Has (entity_faults (entity_names_of file) (trait_names file.entities) e) f ↔ IsDeclarationFault file e f

abbrev pub CountsAreListed : Type 0
CountsAreListed = (file : t.File) (f : NameFault) → Has (count_faults file.entities 0 file.entities) f ↔ IsCountFault file f

abbrev pub MainsAreListed : Type 0
MainsAreListed = (file : t.File) (f : NameFault) → Has (main_faults file.entities) f ↔ IsMainFault file f

abbrev pub BodiesAreListed : Type 0
BodiesAreListed = (c : Context) (e : t.Entity) (m : t.Method) (f : BodyNameFault) → Has (body_faults c e.fields m) f ↔ IsBodyFault c e (written m) f

abbrev pub AddedBodiesAreListed : Type 0
AddedBodiesAreListed = (c : Context) (e : t.Entity) (f : BodyNameFault) → Has (initial_faults c e.fields) f ↔ IsBodyFault c e added f

-- ---- the fault that is reported

-- The fault that is reported for a file: the first fault of its names, or if they have none that of its members.
abbrev pub IsTold : t.File → NameFault → Type 0
IsTold file f = IsNotMemory f × (IsNameFault file f ⊎ IsMemberFault file f)

-- The fault is one of this turn, and precedes all other faults of all turns.
abbrev pub IsLeast : t.File → Turn → NameFault → Type 0
IsLeast file t f = IsFaultInTurn file t f × ((u : Turn) (g : NameFault) → IsFaultInTurn file u g → IsBefore t f u g)

-- For a file that tokens spell in the order of a text, the reported fault is the least of all.
abbrev pub ToldIsLeast : Type 0
ToldIsLeast = (file : t.File) (ts : List Token) (f : NameFault) → SpellsFile file ts → Ascends (starts ts) → IsTold file f → (t : Turn) × IsLeast file t f

-- The same for the tokens of any text.
abbrev pub ToldOfTextIsLeast : Type 0
ToldOfTextIsLeast = (text : List ℕ) (file : t.File) (ts : List Token) (f : NameFault) → Tokens text ts → SpellsFile file ts → IsTold file f → (t : Turn) × IsLeast file t f

-- If a file has a fault, one is reported.
abbrev pub FaultIsTold : Type 0
FaultIsTold = (file : t.File) (t : Turn) (g : NameFault) → IsFaultInTurn file t g → (f : NameFault) × IsTold file f

-- ---- unknown names

-- The name at this place has no meaning: in the declarations of an entity, or in the body of a member.
abbrev pub IsMissingAt : t.File → Turn → Span → Type 0
IsMissingAt file entity_names s = ⊥
IsMissingAt file declarations s = (e : t.Entity) × (n : Name) × Has file.entities e × IsMissingName file e n × (s ≡ n.span)
IsMissingAt file cycles s = ⊥
IsMissingAt file method_counts s = ⊥
IsMissingAt file main s = ⊥
IsMissingAt file (body k) s = (o : Owned) × (x : Spot) × (slice_get (all_members file) k ≡ Some o) × InMember o.owner o.member x × IsMissing (context_of file o) x × (s ≡ place x.what)
IsMissingAt file (slots k) s = ⊥
IsMissingAt file (nodes k) s = ⊥

-- A name reported as unknown has no meaning.
abbrev pub UnknownIsMissing : Type 0
UnknownIsMissing = (file : t.File) (s : Span) → IsTold file (fault.Unknown s) → (t : Turn) × IsMissingAt file t s

-- If a name has no meaning, a fault is reported that is not after the name.
abbrev pub MissingIsTold : Type 0
MissingIsTold =
    (file : t.File) (ts : List Token) (t : Turn) (s : Span) → SpellsFile file ts → Ascends (starts ts) → IsMissingAt file t s
    → (f : NameFault) × (u : Turn) × IsTold file f × IsFaultInTurn file u f × NotBehind u f t s.start
