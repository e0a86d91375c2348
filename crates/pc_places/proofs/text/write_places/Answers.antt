use Rattle.std.proofs.{Common.{sym, ap, subst, ◌∙◌}, lemmas.Result.IfOk-weaker}
use Rattle.std.specs.Prelude.{List}
use Rattle.pc_base.specs.Lists.{Ascends}
use Rattle.pc_places.specs.Text.{places_text}
use Rattle.pc_text_order.specs.Laws.{starts}
use Rattle.pc_token.specs.declared.kinds.Token.{Token}
use Rattle.pc_places.proofs.text.write_places.Goals as goal

pub write_all-requires : goal.write_all-requires
write_all-requires c =
    let list = c.in_ok-tokens.ensures in
    subst (λ (ts : List Token). Ascends (starts ts)) (sym c.as_slice.ensures) (c.tokens_are_in_order.ensures.ascend c.args.source.now c.in_ok-tokens.tokens list.0)

pub returns : goal.returns
returns c =
    IfOk-weaker c.write_all.result _ _
    (λ text is. (c.in_ok-tokens.tokens, c.in_ok-tokens.ensures, is ∙ ap (λ (ts : List Token). places_text c.args.source.now ts c.args.core.now) c.as_slice.ensures)) c.write_all.ensures
