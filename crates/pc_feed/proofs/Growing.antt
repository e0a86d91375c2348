-- A referee's list that grows.
use Rattle.std.specs.Prelude.{◌≡◌, ℕ, true, [], ◌∷◌, ◌++◌, Option, Some, None, Ok}
use Rattle.std.proofs.Common.{ap, sym, subst, ◌∙◌, append_assoc, append-nil}
use Rattle.pc_ann.specs.declared.annotation.Note.{Note}
use Rattle.pc_referee.specs.Asked.{Pairs, asked_after}
use Rattle.pc_feed.specs.Steps.{GrewBy}

pub grew_none : (old new : Pairs) (a b : Option Pairs) → new ≡ old → b ≡ a → GrewBy old new a b
grew_none old new None b e same = same
grew_none old new (Some p) b e same = ([], e ∙ sym (append-nil old), same ∙ ap Some (sym (append-nil p)))

pub grew_one : (old new : Pairs) (n : ℕ) (t : Note) (a b : Option Pairs) → new ≡ old ++ (n, t) ∷ [] → b ≡ asked_after {E = Unit {0}} a n t (Ok true) → GrewBy old new a b
grew_one old new n t None b e same = same
grew_one old new n t (Some p) b e same = ((n, t) ∷ [], e, same)

pub grew_on : (old mid new : Pairs) (a b c : Option Pairs) → GrewBy old mid a b → GrewBy mid new b c → GrewBy old new a c
grew_on old mid new None b c h k = subst (λ (o : Option Pairs). GrewBy mid new o c) h k
grew_on old mid new (Some p) b c h k =
    let k' : GrewBy mid new (Some (p ++ h.0)) c = subst (λ (o : Option Pairs). GrewBy mid new o c) h.2 k in
    (h.0 ++ k'.0, k'.1 ∙ ap (λ x. x ++ k'.0) h.1 ∙ append_assoc old h.0 k'.0, k'.2 ∙ ap Some (append_assoc p h.0 k'.0))
