use Rattle.pc_refusals.specs.Source.Lexing.{lexed}
use Rattle.pc_refusals.proofs.Spelling.{lex_stops}
use Rattle.pc_refusals.proofs.syntax.read_tokens.Goals as goal

pub returns-in-Ok : goal.returns-in-Ok
returns-in-Ok c = lexed c.in-Ok.ensures.ok

pub returns-in-Err : goal.returns-in-Err
returns-in-Err c = lex_stops c.args.name.now c.args.bytes.now c.in-Err.fault c.refuse_lexing.result c.in-Err.ensures.err c.refuse_lexing.ensures
