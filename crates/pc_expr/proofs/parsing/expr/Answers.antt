use Rattle.std.proofs.Common.{◌-◌, drop}
use Rattle.pc_tree.specs.{View.expr_view, Depths.depth}
use Rattle.pc_grammar.specs.Spells.{Spells}
use Rattle.pc_grammar.specs.Reading as reading
use Rattle.pc_grammar.proofs.{Right.{expr_reads, expr_refuses, expr_deep}, OneAnswer.expr_answer}
use Rattle.pc_expr.proofs.{Public.{is_at, refused}, Exact.{exact_tree, exact_fault}}
use Rattle.pc_expr.proofs.parsing.expr.Goals as goal

pub expr-requires : goal.expr-requires
expr-requires c = is_at c.args.tokens.now c.args.at c.requires.ends c.requires.within

pub returns-in-Ok-clause-read : goal.returns-in-Ok-clause-read
returns-in-Ok-clause-read c =
    let moves = c.in-Ok.ensures.moves in
    let tokens = c.args.tokens.now in
    (moves.past, moves.there.within, expr_reads (200 - c.args.level) (drop c.args.at tokens) (drop c.in-Ok.read.1 tokens) (expr_view c.in-Ok.read.0) c.in-Ok.ensures.gives)

pub returns-in-Err-clause-refused : goal.returns-in-Err-clause-refused
returns-in-Err-clause-refused c =
    refused Spells depth reading.expr expr_refuses expr_deep (200 - c.args.level) c.args.tokens.now c.args.at c.in-Err.stop c.fault.result c.in-Err.ensures.gives c.fault.ensures

pub returns-in-Ok-clause-exact : goal.returns-in-Ok-clause-exact
returns-in-Ok-clause-exact c = λ answer is.
    let moves = c.in-Ok.ensures.moves in
    let tokens = c.args.tokens.now in
    exact_tree Spells depth (200 - c.args.level) (expr_answer (200 - c.args.level)) tokens c.args.at (expr_view c.in-Ok.read.0) c.in-Ok.read.1
    (moves.past, moves.there.within, expr_reads (200 - c.args.level) (drop c.args.at tokens) (drop c.in-Ok.read.1 tokens) (expr_view c.in-Ok.read.0) c.in-Ok.ensures.gives) answer is

pub returns-in-Err-clause-exact : goal.returns-in-Err-clause-exact
returns-in-Err-clause-exact c = λ answer is.
    exact_fault Spells depth (200 - c.args.level) (expr_answer (200 - c.args.level)) c.args.tokens.now c.args.at expr_view c.fault.result
    (refused Spells depth reading.expr expr_refuses expr_deep (200 - c.args.level) c.args.tokens.now c.args.at c.in-Err.stop c.fault.result c.in-Err.ensures.gives c.fault.ensures) answer is
