-- Laws of all bytes that are fed.
use Rattle.std.specs.Prelude.{◌≡◌, ℕ, List}
use Rattle.pc_core.specs.{CoreData.CoreData, Formed.Formed}
use Rattle.pc_ann.specs.declared.annotation.Ann.{Ann}
use Rattle.pc_valid.specs.Valid.{Valid}
use Rattle.pc_deriv.specs.{declared.line.Line.Line, Text.IsText}
use Rattle.pc_referee.specs.Asked.{Pairs}
use Rattle.pc_feed.specs.{Lines.lines_in, Asked.IsAsked, Numbered.numbered_notes, Feeding.{FeedAnswer, EndsSo}}

-- At most one list of nodes is asked about.
abbrev pub OneIsAsked : Type 0
OneIsAsked = (core : CoreData) (ls : List Line) (a b : Pairs) → IsAsked core ls a → IsAsked core ls b → a ≡ b

-- The same bytes end in only one way.
abbrev pub OneEnd : Type 0
OneEnd = (core : CoreData) (bytes : List ℕ) (a b : FeedAnswer) → Formed core → EndsSo core bytes a → EndsSo core bytes b → a ≡ b

-- For the text of a valid annotation every node is asked about, with its note.
abbrev pub ValidAsksAll : Type 0
ValidAsksAll =
    (core : CoreData) (bytes : List ℕ) (ann : Ann) (pairs : Pairs) → Formed core → IsText bytes ann → Valid core ann
    → IsAsked core (lines_in bytes) pairs → pairs ≡ numbered_notes 0 ann.notes
