-- What the stages of a source give: its core, and that the core fits together.
use Rattle.std.proofs.Common.{◌≡◌, ◌≤◌, ℕ, List, length, Ok, refl, sym, subst, arith}
use Rattle.pc_core.specs.{CoreData.CoreData, Formed.Formed}
use Rattle.pc_ann.specs.declared.annotation.Ann.{Ann}
use Rattle.pc_deriv.specs.{Text.{IsText, deriv_text}, Parts.{derivation_slot_limit, derivation_node_limit}}
use Rattle.pc_deriv.specs.declared.version.Version.TheVariants as version
use Rattle.pc_core_relation.proofs.Ones.{standing_cores_are_made}
use Rattle.pc_elab.specs.Cores.{CoresAreFormed as FilesAreFormed}
use Rattle.pc_grammar.specs.FileAnswers.{IsFileAnswer, spelled}
use Rattle.pc_lex.specs.Pieces.{TokenList}
use Rattle.pc_text_order.specs.Laws.{TokensAscend}
use Rattle.pc_regions.specs.Laws.{ValidIsSafe}
use Rattle.pc_valid.specs.Valid.{Valid}
use Rattle.pc_run.specs.Ends.{NeverLacks}
use Rattle.pc_semantics.specs.Safety.{Safe}
use Rattle.pc_types.specs.Laws.{AcceptedNeverLacks}
use Rattle.pc_token.specs.declared.kinds.Token.{Token}
use Rattle.pc_tree.specs.Tree as t
use Rattle.pc_base.specs.Lists.{Text}
use Rattle.pc_refusals.specs.{Source.{AcceptedStage, Typing, FileStage, SourceStage, source_limit}, Source.Typing.typed, Source.After.goes, Verdict.{Reading, whole, longer}, Source.Length.fits, Source.Lexing.lexed, Source.Parsing.parsed, Source.Elaborating.elaborated, Source.TextStage.has_core, declared.source.Source.Source, declared.typing.Accepted.Accepted}
use Rattle.pc_top.specs.{CoreOf.CoreOf, CoresFormed.{CoresAreFormed, IsSmall}}

-- a source that all stages let pass
pub source_says : {name : Text} {r : Reading} {s : Source} → SourceStage name r (Ok s) → (r ≡ whole s.bytes) × CoreOf s.bytes s.core
source_says (goes (fits {bytes = b} short) (has_core (goes (lexed {ts = t} l) (goes (parsed {file = f} tree) (elaborated made))))) =
    (refl, record { short = short; tokens = t; file = f; lexed = l; parsed = tree; stands = made })

-- one of which only the tree is needed: it was read whole, and its tokens spell this file
pub file_says : {name : Text} {r : Reading} {f : t.File} → FileStage name r (Ok f)
    → (bytes : Text) × (r ≡ whole bytes) × (length bytes ≤ source_limit) × (tokens : List Token) × TokenList bytes tokens × IsFileAnswer tokens (spelled f)
file_says (goes (fits {bytes = b} short) (goes (lexed {ts = ts} l) (parsed p))) = (b, refl, short, ts, l, p)

pub core_passes : (name : Text) (bytes : List ℕ) (core : CoreData) → CoreOf bytes core → SourceStage name (whole bytes) (Ok (record { bytes = bytes; core = core }))
core_passes name bytes core c = goes (fits c.short) (has_core (goes (lexed c.lexed) (goes (parsed c.parsed) (elaborated c.stands))))

-- its core fits together and is small
pub source_formed : CoresAreFormed → {name : Text} {r : Reading} {s : Source} → SourceStage name r (Ok s) → Formed s.core × IsSmall s.core
source_formed law {s = s} h = law s.bytes s.core (source_says h).1

pub core_formed : TokensAscend → FilesAreFormed → CoresAreFormed
core_formed ascend formed bytes core c =
    let is = formed c.file core (c.tokens, c.parsed.0, ascend bytes c.tokens c.lexed.0) (standing_cores_are_made c.file core c.stands) in
    (is.0, (is.1, is.2))

-- a source that was read was read whole
pub never_longer : (name : Text) (s : Source) → SourceStage name longer (Ok s) → ⊥
never_longer name s (goes l t) = elim l [ ]

pub accepted_whole : (name : Text) (a : Accepted) → AcceptedStage name longer (Ok a) → ⊥
accepted_whole name a (goes {x = s} h t) = never_longer name s h

-- the source of what was accepted, and its core
typed_source : {name : Text} {s : Source} {a : Accepted} → Typing name s (Ok a) → (a.source ≡ s) × Valid s.core a.ann
typed_source (typed ann v) = (refl, v)

pub accepted_source : {name : Text} {r : Reading} {a : Accepted} → AcceptedStage name r (Ok a) → SourceStage name r (Ok a.source) × Valid a.source.core a.ann
accepted_source {name = name} {r = r} {a = a} (goes {x = s} h t) =
    let is = typed_source t in
    (subst (λ (x : Source). SourceStage name r (Ok x)) (sym is.0) h, subst (λ (x : Source). Valid x.core a.ann) (sym is.0) is.1)

-- Over it no step lacks anything.
pub accepted_lacks_nothing : CoresAreFormed → AcceptedNeverLacks → {name : Text} {r : Reading} {a : Accepted} → AcceptedStage name r (Ok a) → NeverLacks a.source.core
accepted_lacks_nothing formed never {a = a} h =
    let s = accepted_source h in
    never a.source.core a.ann (source_formed formed s.0).0 s.1

-- It is safe.
pub accepted_core_safe : CoresAreFormed → ValidIsSafe → {name : Text} {r : Reading} {a : Accepted} → AcceptedStage name r (Ok a) → Safe a.source.core
accepted_core_safe formed safe {a = a} h =
    let s = accepted_source h in
    safe a.source.core a.ann (source_formed formed s.0).0 s.1

-- A small core has small annotations.
pub small_notes : (core : CoreData) (ann : Ann) → IsSmall core → Valid core ann
    → (length ann.slots ≤ derivation_slot_limit) × (length ann.notes ≤ derivation_node_limit)
small_notes core ann small v =
    let few = small.0 in
    let nodes = small.1 in
    let a = v.slots in
    let b = v.notes in
    (omega (arith, few, a), omega (arith, nodes, b))

-- ---- the text in version 1

pub first : (ann : Ann) (text : Text) → IsText text ann → text ≡ deriv_text version.One ann → (is : IsText text ann) × (is.version ≡ version.One)
first ann text t same = (record { version = version.One; slots = t.slots; notes = t.notes; within = t.within; same = same }, refl)
