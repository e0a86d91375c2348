use Rattle.std.proofs.{Common.{ℕ, List, [], subst, ◌∙◌}, lemmas.Result.IfOk-weaker}
use Rattle.pc_sends.specs.{Growth.{Grown, OfSome, Sorts}, Reached.AreSent}
use Rattle.pc_sends.proofs.{Sent.{MessageOf, are_sent}, Tests.grown_differ}
use Rattle.pc_sends.proofs.messages.sent_by.Goals as goal

pub ascending-requires : goal.ascending-requires
ascending-requires c = grown_differ _ c.in_ok-messages.messages c.in_ok-messages.ensures

pub returns : goal.returns
returns c =
    let core = c.args.noted.now.core.now in
    let ents = c.args.noted.now.entities.now in
    let messages = c.in_ok-messages.messages in
    let found = subst (λ (xs : List ℕ). Grown (OfSome (MessageOf core) xs) [] messages) (c.deref.ensures.value ∙ c.in_ok-used.ensures) c.in_ok-messages.ensures in
    IfOk-weaker c.ascending.result (Sorts messages) (AreSent core ents c.args.entity)
    (λ targets s. are_sent core ents c.formed.ensures c.args.entity c.in_ok-used_by.field-0 messages targets c.in_ok-used_by.ensures found s) c.ascending.ensures
