-- `explain SRC`: the text for a core, and what comes of a fault of a tree.
use Rattle.std.specs.Prelude.{◌⊎◌, ◌++◌, Bool, true, false, List, Result, Ok, Err, codes, if◌then◌else◌}
use Rattle.pc_core.specs.CoreData.{CoreData}
use Rattle.pc_core_relation.specs.{Files.IsCoreOf, MemberFaults.IsMemberFault}
use Rattle.pc_explain.specs.Explanation.{IsExplanation}
use Rattle.pc_explain_names.specs.Names.{names_text}
use Rattle.pc_lex.specs.Pieces.{TokenList}
use Rattle.pc_base.specs.Lists.{Text, line_end}
use Rattle.pc_names.specs.{Faults.{IsNotMemory, IsNameFault}, declared.fault.NameFault.NameFault}
use Rattle.pc_refusals.specs.{FaultLines.{name_line, name_status}, Verdict.{Verdict, refused}}
use Rattle.pc_valid.specs.Valid.{Derivable}
use Rattle.pc_token.specs.declared.kinds.Token.{Token}
use Rattle.pc_names.specs.declared.fault.NameFault.TheVariants as fault
use Rattle.pc_tree.specs.Tree as t

-- The text for a core: that it is accepted, because it has a derivation, or why it has none.
pub data CoreText (name bytes : Text) (tokens : List Token) (core : CoreData) : Text → Type 0 where
  accepted : Derivable core → CoreText name bytes tokens core (codes "accepted" ++ line_end)
  explained : {text : Text} → IsExplanation name bytes tokens core text → CoreText name bytes tokens core text

-- A limit that is passed is refused, as `check` refuses it, and not explained. Running out of memory is not a fault of
-- a file.
abbrev pub is_not_explained : NameFault → Bool
is_not_explained (fault.TooMany w s) = true
is_not_explained fault.Memory = true
is_not_explained f = false

-- What comes of a source whose tree has this fault: its explanation, or its refusal.
abbrev pub fault_end : Text → Text → t.File → NameFault → Result Text Verdict
fault_end name bytes file f = if is_not_explained f then Err (refused (name_status f) (name_line name bytes f)) else Ok (names_text name bytes file f)

-- The first fault of a file's names, or else of its methods.
abbrev pub IsFileFault : t.File → NameFault → Type 0
IsFileFault file f = IsNameFault file f ⊎ IsMemberFault file f

-- The text for the tree of a source with these bytes: the text for its core, or for the fault because of which it has
-- none.
pub data Explaining (name bytes : Text) (file : t.File) : Result Text Verdict → Type 0 where
  has_core : {tokens : List Token} {core : CoreData} {text : Text} → TokenList bytes tokens → IsCoreOf file core → CoreText name bytes tokens core text
      → Explaining name bytes file (Ok text)
  has_fault : (f : NameFault) → IsNotMemory f → IsFileFault file f → Explaining name bytes file (fault_end name bytes file f)
