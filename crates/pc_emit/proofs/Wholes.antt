-- The parts of a body, one after the other.
use Rattle.std.proofs.Common.{◌≡◌, ℕ, List, [], ◌∷◌, ◌++◌, Bool, true, false, Some, None, refl, ap, ◌∙◌, sym, append_assoc}
use Rattle.pc_base.specs.declared.span.Span.{Span}
use Rattle.pc_core.specs.declared.nodes.Node.{Node}
use Rattle.pc_core.specs.declared.nodes.NodeKind.TheVariants as node
use Rattle.pc_body_spec.specs.{Bodies.{Rose, Roses, more, sequence, added_none, body_around, none_last}, Fold.{Numbered, and_then, put, puts, push}}
use Rattle.pc_emit.specs.Closing.{behind_tops, ends_with, body_closes, seq_closes}
use Rattle.pc_emit.proofs.Walks.{assoc, just, one_part, and_last_put, sequence_is}

pub behind_none : (o : Numbered (List ℕ)) → behind_tops [] o ≡ o
behind_none None = refl
behind_none (Some r) = refl

pub behind_then : {A : Type 0} (first : List ℕ) (o : Numbered (List ℕ)) (f : List ℕ → List Node → Numbered A) → and_then (behind_tops first o) f ≡ and_then o (λ own. f (first ++ own))
behind_then first None f = refl
behind_then first (Some r) f = refl

behind_one : (tops : List ℕ) (a : ℕ) (o : Numbered (List ℕ)) → behind_tops tops (and_then o (λ b. λ ns. Some (a ∷ b, ns))) ≡ behind_tops (tops ++ a ∷ []) o
behind_one tops a None = refl
behind_one tops a (Some r) = ap (λ l. Some (l, r.1)) (sym (append_assoc tops (a ∷ []) r.0))

-- One more part.
pub behind_more : (m : ℕ) (r : Rose) (rest : Roses) (tops new : List ℕ) (top : ℕ) (ns n2 : List Node) → put m r ns ≡ Some (top, n2) → new ≡ tops ++ top ∷ [] → behind_tops tops (puts m (more r rest) ns) ≡ behind_tops new (puts m rest n2)
behind_more m r rest tops new top ns n2 h e = rw (h, e) (behind_one tops top (puts m rest n2))

pub body_is : (m : ℕ) (name s : Span) (rs : Roses) (ns : List Node) → put m (body_around name s rs) ns ≡ and_then (puts m rs ns) (body_closes m 0 name s)
unfolding body_closes
body_is m name s rs ns =
    one_part (put m (sequence s 0 rs) ns) (push m node.Body name 0) ∙ ap (λ o. and_then o (λ q. push m node.Body name 0 (q ∷ []))) (sequence_is m 0 s rs ns) ∙ assoc (puts m rs ns) (seq_closes m 0 s) (λ q. push m node.Body name 0 (q ∷ []))

pub none_is : (b : Bool) (m : ℕ) (s : Span) (rs : Roses) (ns : List Node) → puts m (none_last b s rs) ns ≡ and_then (puts m rs ns) (ends_with b m 0 s)
unfolding ends_with
none_is true m s rs ns = and_last_put m rs (added_none s 0) ns
none_is false m s rs ns = just (puts m rs ns)

-- The initial values come first.
pub body_on : (m : ℕ) (name s : Span) (all rest : Roses) (first : List ℕ) (ns n1 : List Node) → puts m all ns ≡ behind_tops first (puts m rest n1)
    → put m (body_around name s all) ns ≡ and_then (puts m rest n1) (λ own. body_closes m 0 name s (first ++ own))
body_on m name s all rest first ns n1 h = body_is m name s all ns ∙ ap (λ o. and_then o (body_closes m 0 name s)) h ∙ behind_then first (puts m rest n1) (body_closes m 0 name s)
