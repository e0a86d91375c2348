use Rattle.std.proofs.{Common.{◌≡◌, ◌∙◌, ap, subst, sym}, lemmas.Result.{IfErr-weaker, IfOk-weaker}}
use Rattle.std.specs.Prelude.{true}
use Rattle.clap.specs.Words.{App, FailsBy, fault_of, is_simple, is_simple_and_free, subcommand_of, takes}
use Rattle.pc_args.specs.Asked.{texts}
use Rattle.pc_args.proofs.Simple.{simple, simple_and_free}
use Rattle.pc_args.proofs.words.read_matches.Goals as goal

pub returns-clause-ok : goal.returns-clause-ok
returns-clause-ok c =
    let same = c.in_ok-make_rcap.ensures in
    IfOk-weaker c.try_get_matches_from.result _ _
    (λ m h. (h (subst (λ (a : App). is_simple a ≡ true) (sym same) simple)).1 ∙ ap (λ (a : App). subcommand_of a (texts c.args.words.now)) same)
    c.try_get_matches_from.ensures.matches

pub returns-clause-kinds : goal.returns-clause-kinds
returns-clause-kinds c =
    let same = c.in_ok-make_rcap.ensures in
    subst (λ (a : App). FailsBy (fault_of a (texts c.args.words.now)) c.try_get_matches_from.result) same
    (c.try_get_matches_from.ensures.kinds (subst (λ (a : App). is_simple_and_free a ≡ true) (sym same) simple_and_free))

pub returns-clause-err : goal.returns-clause-err
returns-clause-err c =
    IfErr-weaker c.try_get_matches_from.result _ _
    (λ e h t. h (ap (λ (a : App). takes a (texts c.args.words.now)) c.in_ok-make_rcap.ensures ∙ t))
    c.try_get_matches_from.ensures.passes
