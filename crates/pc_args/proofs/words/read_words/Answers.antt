use Rattle.std.proofs.Common.{rules, ◌≡◌, ◌∙◌, ap, sym, true, [], List, Option}
use Rattle.std.specs.Prelude.{option_and_then}
use Rattle.clap.specs.Words.{Row, Text, fault_of, takes}
use Rattle.pc_args.specs.{Asked.{asked_by_name, texts}, Line.rcap}
use Rattle.pc_args.proofs.{Forms.nothing_asked, Missing.missing, Refusals.{asks, refuses}}
use Rattle.pc_args.proofs.words.read_words.Goals as goal

pub returns-in-Some : goal.returns-in-Some
returns-in-Some c =
    asks (texts c.args.words.now) _ c.in-Ok.ensures.kinds
    (sym (c.in-Some.ensures ∙ ap (λ (o : Option (Text × List Row)). option_and_then asked_by_name o) c.in-Ok.ensures.ok))

pub returns-in-Ok : goal.returns-in-Ok
returns-in-Ok c =
    let words = texts c.args.words.now in
    let none = nothing_asked words (sym (c.in-None.ensures ∙ ap (λ (o : Option (Text × List Row)). option_and_then asked_by_name o) c.in-Ok.ensures.ok)) in
    absurd (missing words none c.in-Ok.ensures.kinds)

pub returns : goal.returns
returns c =
    let words = texts c.args.words.now in
    let untaken : takes rcap words ≡ true → ⊥ = search rules in
    let faulty : fault_of rcap words ≡ [] → ⊥ = search rules in
    refuses words untaken faulty
