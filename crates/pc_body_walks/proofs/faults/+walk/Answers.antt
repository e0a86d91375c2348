use Rattle.std.proofs.{Common.{◌≡◌, [], sym}, lemmas.Result.err_from_is_err_and}
use Rattle.pc_tree.specs.View.{expr_view, suffixes_view}
use Rattle.pc_tree.proofs.Views.{view_chain}
use Rattle.pc_body_walks.specs.Checking.{head_faults, args_faults, TellsFirstBodyFault, IsFirstBodyFault}
use Rattle.pc_body_walks.proofs.Heads.{chain_first, chain_tells}
use Rattle.pc_body_walks.proofs.faults.+walk.Goals as goal

pub expr-returns-in_err-chain_head-in-Chain-clause-tells :
    goal.expr-returns-in_err-chain_head-in-Chain-clause-tells
expr-returns-in_err-chain_head-in-Chain-clause-tells t c =
    let h = expr_view c.in-Chain.head.value in
    let ss = suffixes_view c.in-Chain.suffixes in
    let p = err_from_is_err_and c.from_residual.result c.from_residual.ensures.1 in
    let is : IsFirstBodyFault c.in_err-chain_head-in-Chain.field-0.0 (head_faults c.args.context.now c.args.scope.now h ss) = rw (sym c.deref-in-Chain.ensures, sym c.as_slice-suffixes.ensures) c.in_err-chain_head-in-Chain.ensures.tells in
    rw (p.1, p.2, c.in-Chain.is, view_chain c.in-Chain.head c.in-Chain.suffixes c.in-Chain.span) (chain_first c.args.context.now c.args.scope.now h ss c.in-Chain.span _ is)

pub expr-returns-in_ok-chain_head-in-Chain-clause-tells :
    goal.expr-returns-in_ok-chain_head-in-Chain-clause-tells
expr-returns-in_ok-chain_head-in-Chain-clause-tells t c =
    let h = expr_view c.in-Chain.head.value in
    let ss = suffixes_view c.in-Chain.suffixes in
    let e : head_faults c.args.context.now c.args.scope.now h ss ≡ [] = rw (sym c.deref-in-Chain.ensures, sym c.as_slice-suffixes.ensures) c.in_ok-chain_head-in-Chain.ensures.tells in
    let is : TellsFirstBodyFault c.suffix_list.result (args_faults c.args.context.now c.args.scope.now ss) = rw (sym c.as_slice-suffixes.ensures, sym c.in_ok-chain_head-in-Chain.ensures.scope) c.suffix_list.ensures.tells in
    rw (c.in-Chain.is, view_chain c.in-Chain.head c.in-Chain.suffixes c.in-Chain.span) (chain_tells c.args.context.now c.args.scope.now h ss c.in-Chain.span _ e is)
