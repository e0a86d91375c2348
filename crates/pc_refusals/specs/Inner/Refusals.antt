-- What comes of a fault: its refusal, or memory runs out.
use Rattle.std.specs.Prelude.{ℕ, ◌≡◌, codes, slice_get}
use Rattle.pc_check.specs.declared.fault.CheckFault.{CheckFault}
use Rattle.pc_deriv.specs.{Laws.as_read, Text.derivation_limit, declared.fault.DerivFault.DerivFault}
use Rattle.pc_feed.specs.declared.parts.DerivationFault.{DerivationFault}
use Rattle.pc_lex.specs.declared.fault.LexFault.{LexFault}
use Rattle.pc_names.specs.declared.fault.NameFault.{NameFault}
use Rattle.pc_base.specs.Lists.{Text}
use Rattle.pc_refusals.specs.{FaultLines.{decl_offset, decl_text, fault_line, fault_status, name_line, name_status}, Parts.{method_start, node_start}, Derivation.{judge_line, text_line, text_status}, declared.source.Source.Source, declared.stop.Stop.Stop}
use Rattle.pc_refusal_lines.specs.Lines.{longer_line, offset_line}
use Rattle.pc_check.specs.declared.fault.CheckFault.TheVariants as check
use Rattle.pc_deriv.specs.declared.fault.DerivFault.TheVariants as deriv
use Rattle.pc_feed.specs.declared.parts.DerivationFault.TheVariants as spec
use Rattle.pc_lex.specs.declared.fault.LexFault.TheVariants as lex
use Rattle.pc_names.specs.declared.fault.NameFault.TheVariants as names
use Rattle.pc_refusals.specs.declared.stop.Stop.TheVariants as stop

-- A refusal with this status and this line, or memory ran out.
abbrev pub IsRefusal : ℕ → Text → Stop → Type 0
IsRefusal wanted text (stop.Refused status line) = (status ≡ wanted) × (line ≡ text)
IsRefusal wanted text (stop.File n) = ⊥
IsRefusal wanted text stop.Sink = ⊥
IsRefusal wanted text stop.Memory = Unit {0}

-- A file could not be read, or memory ran out.
abbrev pub IsUnread : Text → Stop → Type 0
IsUnread name (stop.Refused status line) = ⊥
IsUnread name (stop.File n) = n ≡ name
IsUnread name stop.Sink = ⊥
IsUnread name stop.Memory = Unit {0}

-- A fault of a source's tokens.
abbrev pub IsLexStop : Text → Text → LexFault → Stop → Type 0
IsLexStop name bytes lex.Memory s = s ≡ stop.Memory
IsLexStop name bytes f s = IsRefusal (fault_status f) (fault_line name bytes f) s

-- A fault of a source's names.
abbrev pub IsNameStop : Text → Text → NameFault → Stop → Type 0
IsNameStop name bytes names.Memory s = s ≡ stop.Memory
IsNameStop name bytes f s = IsRefusal (name_status f) (name_line name bytes f) s

-- The inference stops at a core: the place of the first declaration that fails, of the node at which no rule holds, or
-- of a constructor that leaves a field unset.
abbrev pub IsCoreStop : Text → Source → CheckFault → Stop → Type 0
IsCoreStop name source (check.Decl f) s = IsRefusal 1 (offset_line name source.bytes (decl_offset source.core f) (decl_text f)) s
IsCoreStop name source (check.NoRule n l m ann) s = IsRefusal 1 (offset_line name source.bytes (node_start (slice_get source.core.nodes n)) (codes "no rule")) s
IsCoreStop name source (check.Unset m ann) s = IsRefusal 1 (offset_line name source.bytes (method_start (slice_get source.core.methods m)) (codes "field not set")) s
IsCoreStop name source check.Memory s = s ≡ stop.Memory

-- A fault of a derivation's text.
abbrev pub IsTextStop : Text → DerivFault → Stop → Type 0
IsTextStop name deriv.Memory s = s ≡ stop.Memory
IsTextStop name f s = IsRefusal (text_status f) (text_line name f) s

-- A fault of a derivation's file that is judged while it is read.
abbrev pub IsDerivationStop : Text → Text → Source → DerivationFault → Stop → Type 0
IsDerivationStop source_name name source spec.Failed s = IsUnread name s
IsDerivationStop source_name name source spec.TooLong s = IsRefusal 8 (longer_line name derivation_limit) s
IsDerivationStop source_name name source (spec.Text f) s = IsRefusal (text_status (as_read f)) (text_line name (as_read f)) s
IsDerivationStop source_name name source (spec.Invalid f) s = IsRefusal 6 (judge_line source_name name source f) s
IsDerivationStop source_name name source spec.Memory s = s ≡ stop.Memory
