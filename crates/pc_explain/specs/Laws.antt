-- What is proved of explanations.
use Rattle.std.specs.Prelude.{◌≡◌, List}
use Rattle.pc_core.specs.{CoreData.CoreData, Formed.Formed}
use Rattle.pc_base.specs.Lists.{Text}
use Rattle.pc_valid.specs.Valid.{Derivable}
use Rattle.pc_token.specs.declared.kinds.Token.{Token}
use Rattle.pc_explain.specs.Explanation.{IsExplanation}

-- A core has at most one explanation.
abbrev pub ExplanationsAreOne : Type 0
ExplanationsAreOne =
    (name bytes : Text) (tokens : List Token) (core : CoreData) (one other : Text) → Formed core → IsExplanation name bytes tokens core one
    → IsExplanation name bytes tokens core other → one ≡ other

-- A core that has a derivation has no explanation.
abbrev pub AcceptedHasNone : Type 0
AcceptedHasNone = (name bytes : Text) (tokens : List Token) (core : CoreData) (text : Text) → Formed core → Derivable core → IsExplanation name bytes tokens core text → ⊥
