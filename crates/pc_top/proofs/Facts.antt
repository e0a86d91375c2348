-- From the result of the elaboration to the stages of a source.
use Rattle.std.proofs.Common.{◌≡◌, ◌<◌, length, Ok, Err, refl, subst}
use Rattle.std.specs.Prelude.{Result}
use Rattle.pc_core.specs.CoreData.{CoreData}
use Rattle.pc_core_relation.specs.MemberFaults.{IsMemberFault}
use Rattle.pc_core_relation.proofs.MemberFaults.{is_first}
use Rattle.pc_elab.specs.Cores.{IsFirstFault, IsSpelledFile}
use Rattle.pc_names.specs.{Faults.{IsNotMemory, IsNameFault}, declared.fault.NameFault.NameFault}
use Rattle.pc_names.specs.declared.fault.NameFault.TheVariants as names
use Rattle.pc_text_order.specs.Laws.{TokensAscend}
use Rattle.pc_tree.specs.Tree as t
use Rattle.pc_base.specs.Lists.{Text}
use Rattle.pc_refusals.specs.{Source.After.{stops, goes}, Inner.Refusals.IsNameStop, Inner.Stages.{StageStops, StageEnds, PartStops, PartGives}, Verdict.{Named, longer, whole, IsReadingOf, text_as, Verdict, refused}, Source.{Elaborating, CoreStage, SourceStage, SyntaxStage, source_limit}, Source.Length.{fits, is_longer}, Source.Lexing.lexed, Source.Parsing.parsed, Source.Elaborating.{misnamed, misused}, Source.TextStage.{has_core, has_none}, declared.stop.Stop.Stop, declared.stop.Stop.TheVariants.{Refused, File, Sink, Memory}}
use Rattle.pc_refusal_lines.specs.Lines.{longer_line}
use Rattle.pc_refusals.proofs.Stops.{name_stops, stops_as}

-- A source that has no tree has no core.
treeless : {name bytes : Text} {v : Verdict} → SyntaxStage name bytes (Err v) → CoreStage name bytes (Err v)
treeless (stops e) = stops e
treeless (goes l p) = goes l (stops p)

pub syntax_stops : (name bytes : Text) (s : Stop) → StageStops (SyntaxStage name bytes) s → StageStops (CoreStage name bytes) s
syntax_stops name bytes s h = stops_as (SyntaxStage name bytes) (CoreStage name bytes) (λ v e. treeless e) s h

-- Its tree is spelled by tokens in the order of the text.
pub tree_spelled : {name bytes : Text} {f : t.File} → TokensAscend → SyntaxStage name bytes (Ok f) → IsSpelledFile f
tree_spelled {bytes = bytes} law (goes (lexed {ts = ts} l) (parsed p)) = (ts, p.0, law bytes ts l.0)

-- a fault of its names, and one of its members
pub names_stop : (name bytes : Text) (file : t.File) (f : NameFault) (s : Stop) → IsNameFault file f → IsNameStop name bytes f s → StageStops (Elaborating name bytes file) s
names_stop name bytes file f s r h = name_stops (Elaborating name bytes file) name bytes f s (λ o. misnamed f o r) h

pub member_fault : (file : t.File) (f : NameFault) → IsNotMemory f → IsFirstFault file f → IsMemberFault file f
member_fault file (names.Double s) o r = is_first file (names.Double s) r
member_fault file (names.Unknown s) o r = is_first file (names.Unknown s) r
member_fault file names.NoMain o r = is_first file names.NoMain r
member_fault file (names.BadMain s) o r = is_first file (names.BadMain s) r
member_fault file (names.Cycle s) o r = is_first file (names.Cycle s) r
member_fault file (names.TooMany w s) o r = is_first file (names.TooMany w s) r
member_fault file names.Memory o r = absurd (o refl)

pub members_stop : (name bytes : Text) (file : t.File) (f : NameFault) (s : Stop) → IsFirstFault file f → IsNameStop name bytes f s → StageStops (Elaborating name bytes file) s
members_stop name bytes file f s r h = name_stops (Elaborating name bytes file) name bytes f s (λ o. misused f o (member_fault file f o r)) h

-- The core of a tree is that of the source, and if it is refused, so is the source.
pub elaborating_ends : (name bytes : Text) (f : t.File) (r : Result CoreData Stop) → SyntaxStage name bytes (Ok f) → StageEnds (Elaborating name bytes f) r → StageEnds (CoreStage name bytes) r
elaborating_ends name bytes f (Ok core) (goes l p) h = goes l (goes p h)
elaborating_ends name bytes f (Err s) (goes l p) h = stops_as (Elaborating name bytes f) (CoreStage name bytes) (λ v e. goes l (goes p e)) s h

-- The stages after the length of a source that was read whole.
pub core_given : (file : Named) (bytes shown : Text) (core : CoreData) → IsReadingOf file source_limit (whole bytes) → shown ≡ bytes
    → CoreStage file.name shown (Ok core) → PartGives source_limit (SourceStage file.name) file (record { bytes = bytes; core = core })
core_given file bytes shown core g same h = (whole bytes, g, goes (fits g.0) (has_core (subst (λ (b : Text). CoreStage file.name b (Ok core)) same h)))

pub core_stopped : (file : Named) (bytes shown : Text) (s : Stop) → IsReadingOf file source_limit (whole bytes) → shown ≡ bytes
    → StageStops (CoreStage file.name shown) s → PartStops source_limit (SourceStage file.name) file s
core_stopped file bytes shown (Refused status line) g same h =
    (whole bytes, g, goes (fits g.0) (has_none (subst (λ (b : Text). CoreStage file.name b (Err (refused status line))) same h)))
core_stopped file bytes shown (File n) g same h = absurd h
core_stopped file bytes shown Sink g same h = absurd h
core_stopped file bytes shown Memory g same h = tt

-- A text that is in no file and is longer than a source may be.
pub text_longer : (name bytes line : Text) → source_limit < length bytes → line ≡ longer_line name source_limit
    → PartStops source_limit (SourceStage name) (text_as name bytes) (Refused 8 line)
text_longer name bytes line long e = (longer, (long, λ same. long), rw e (stops is_longer))
