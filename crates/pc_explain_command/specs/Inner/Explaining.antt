-- How the explanation of a core ended.
use Rattle.std.specs.Prelude.{List}
use Rattle.pc_core.specs.CoreData.{CoreData}
use Rattle.pc_lex.specs.Pieces.{TokenList}
use Rattle.pc_base.specs.Lists.{Text}
use Rattle.pc_token.specs.declared.kinds.Token.{Token}
use Rattle.pc_explain_command.specs.Explain.{CoreText}

-- This is the text for the core, with the tokens of the source with these bytes.
abbrev pub TellsCore : (name bytes : Text) → CoreData → Text → Type 0
TellsCore name bytes core text = (tokens : List Token) × TokenList bytes tokens × CoreText name bytes tokens core text
