-- Steps to the part because of which a node has no type, with as many left as there are nodes not counted yet.
use Rattle.std.proofs.Common.{◌≡◌, ◌<◌, ◌≤◌, ◌+◌, ◌-◌, ◌++◌, ℕ, zero, suc, List, Some, None, refl, ap, sym, ◌∙◌, append_assoc, arith}
use Rattle.std.specs.Prelude.{slice_get}
use Rattle.pc_explain_words.specs.Scene.{SceneData}
use Rattle.pc_explain_sentences.specs.{Untyped.{own_reason, reason_from, step_from, untyped_step, step_text, step_to, step_words}, declared.untyped.Step.Step}

pub goes_on : (s : SceneData) (count i n : ℕ) (t : Step) → i < count → untyped_step s (slice_get s.core.nodes n) ≡ Some t
    → reason_from s (count - i) n ≡ step_words t ++ reason_from s (count - (i + 1)) (step_to t)
goes_on s count i n t l e =
    let left : count - i ≡ suc (count - (i + 1)) = omega (arith, l) in
    ap (λ k. reason_from s k n) left ∙ ap (λ o. step_text o ++ reason_from s (count - (i + 1)) (step_from n o)) e

pub stops : (s : SceneData) (d n : ℕ) → untyped_step s (slice_get s.core.nodes n) ≡ None → reason_from s d n ≡ own_reason s n
stops s zero n e = refl
stops s (suc d) n e = ap (λ o. step_text o ++ reason_from s d (step_from n o)) e ∙ stops s d n e

pub none_left : (s : SceneData) (count i n : ℕ) → count ≤ i → reason_from s (count - i) n ≡ own_reason s n
none_left s count i n e =
    let left : count - i ≡ zero = omega (arith, e) in
    ap (λ k. reason_from s k n) left

-- A turn of the loop.
pub turned : (s : SceneData) (count i n : ℕ) (t : Step) (next : ℕ) (words out pushed whole : List ℕ) → i < count → untyped_step s (slice_get s.core.nodes n) ≡ Some t
    → next ≡ step_to t → words ≡ step_words t → pushed ≡ out ++ words → out ++ reason_from s (count - i) n ≡ whole
    → pushed ++ reason_from s (count - (i + 1)) next ≡ whole
turned s count i n t next words out pushed whole l e f g p w =
    let rest = reason_from s (count - (i + 1)) (step_to t) in
    ap (λ k. pushed ++ reason_from s (count - (i + 1)) k) f
    ∙ (ap (λ x. x ++ rest) (p ∙ ap (λ x. out ++ x) g)
    ∙ (append_assoc out (step_words t) rest
    ∙ (ap (λ x. out ++ x) (sym (goes_on s count i n t l e)) ∙ w)))
