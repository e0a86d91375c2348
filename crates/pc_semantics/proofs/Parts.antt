-- Runs in parts, and their texts by parts.
use Rattle.std.specs.{Prelude.{◌≡◌, ℕ, List, [], ◌∷◌, ◌++◌, length, replicate, None, refl}, FinMap.len, List.count_by}
use Rattle.std.proofs.Common.{ap, sym, ◌∙◌}
use Rattle.pc_core.specs.CoreData.{CoreData}
use Rattle.pc_semantics.specs.{declared.outcome.Outcome.Outcome, declared.outcome.Outcome.TheVariants.{Moved, Skipped, Lacks, TooLong}, Configurations.Configuration, Step.{step, followed, run_from, outcomes_from}, Text.{is_moved, is_skipped, waiting, lines, summary, end_of, text_at_end}}

-- The text of a run by its parts.
pub text_is : (c : Configuration) (os steps : List Outcome) (texts : List (List ℕ)) (actors objects messages : ℕ) → os ≡ steps → end_of steps ≡ None → c.printed ≡ texts → length c.actors ≡ actors → len c.objects ≡ objects → waiting c ≡ messages → text_at_end c os (end_of os) ≡ lines texts ++ summary (count_by is_moved steps) (count_by is_skipped steps) actors objects messages
text_is c os steps texts actors objects messages e f g h k l = rw (e, f, g, h, k, l) refl

-- ---- runs in parts

followed_moved : {A : Type 0} → (rest : Configuration → A) (end : A) (c : Configuration) (r : Outcome × Configuration) → r.0 ≡ Moved → followed rest end c r ≡ rest r.1
followed_moved rest end c (Moved, d) e = refl
followed_moved rest end c (Skipped, d) e = absurd (let bad : Skipped ≡ Moved = e in cc)
followed_moved rest end c (Lacks l, d) e = absurd (let bad : Lacks l ≡ Moved = e in cc)
followed_moved rest end c (TooLong, d) e = absurd (let bad : TooLong ≡ Moved = e in cc)

same_head : {A : Type 0} → (x y : A) (xs ys : List A) → x ∷ xs ≡ y ∷ ys → x ≡ y
same_head x y xs ys e = cc e

same_tail : {A : Type 0} → (x y : A) (xs ys : List A) → x ∷ xs ≡ y ∷ ys → xs ≡ ys
same_tail x y xs ys e = cc e

-- From c on, the steps of these actors all are done, and lead to d.
abbrev pub Leads : CoreData → Configuration → List ℕ → Configuration → Type 0
Leads core c list d = (outcomes_from core c list ≡ replicate (length list) Moved) × (run_from core c list ≡ d)

pub then_run : (core : CoreData) (c d : Configuration) (list more : List ℕ) → Leads core c list d → run_from core c (list ++ more) ≡ run_from core d more
then_run core c d [] more l = ap (λ x. run_from core x more) l.1
then_run core c d (i ∷ is) more l =
    let r : Outcome × Configuration = step core c i in
    let first : r.0 ≡ Moved = same_head _ _ _ _ l.0 in
    let others : followed (λ next. outcomes_from core next is) [] c r ≡ replicate (length is) Moved = same_tail _ _ _ _ l.0 in
    let moved : outcomes_from core r.1 is ≡ replicate (length is) Moved = sym (followed_moved (λ next. outcomes_from core next is) [] c r first) ∙ others in
    let ends : run_from core r.1 is ≡ d = sym (followed_moved (λ next. run_from core next is) c c r first) ∙ l.1 in
    followed_moved (λ next. run_from core next (is ++ more)) c c r first ∙ then_run core r.1 d is more (moved, ends)

pub then_moves : (core : CoreData) (c d : Configuration) (list more : List ℕ) → Leads core c list d → outcomes_from core c (list ++ more) ≡ replicate (length list) Moved ++ outcomes_from core d more
then_moves core c d [] more l = ap (λ x. outcomes_from core x more) l.1
then_moves core c d (i ∷ is) more l =
    let r : Outcome × Configuration = step core c i in
    let first : r.0 ≡ Moved = same_head _ _ _ _ l.0 in
    let others : followed (λ next. outcomes_from core next is) [] c r ≡ replicate (length is) Moved = same_tail _ _ _ _ l.0 in
    let moved : outcomes_from core r.1 is ≡ replicate (length is) Moved = sym (followed_moved (λ next. outcomes_from core next is) [] c r first) ∙ others in
    let ends : run_from core r.1 is ≡ d = sym (followed_moved (λ next. run_from core next is) c c r first) ∙ l.1 in
    let more_moves = followed_moved (λ next. outcomes_from core next (is ++ more)) [] c r first ∙ then_moves core r.1 d is more (moved, ends) in
    λ k. first k ∷ more_moves k
