-- For a whole list of tokens at most one answer holds, and reading gives it.
use Rattle.std.proofs.Common.{◌≡◌, ◌≤◌, List, [], ◌∷◌, ◌++◌, Ok, Err, refl, sym, ap, ◌∙◌, subst, append_assoc, append-nil}
use Rattle.pc_tree.specs.Tree as t
use Rattle.pc_tree.specs.Depths.{file_depth}
use Rattle.pc_token.specs.declared.kinds.Token.{Token}
use Rattle.pc_grammar.specs.{Spells.{SpellsFile, level_limit}, FileAnswers.{Begins, IsTooDeep, IsUnexpected}, Parsing.IsStopped, Reading.{unexpected, too_deep, ReadingOutcome}, ReadingFile.file, Laws.{OneFileAnswer, AnswersFor, FileIsAnswered}}
use Rattle.pc_grammar.specs.FileAnswers as answer
use Rattle.pc_grammar.proofs.{OneAnswer.{Front, of_deep, meet, stopped_deep}, FileRight.{file_is_read, file_is_refused, file_is_too_deep, file_is_one}}

-- ---- reading gives it

answered : (ts : List Token) (o : ReadingOutcome t.File) → file 199 ts ≡ o → AnswersFor ts o
answered ts (Ok (f, [])) e =
    let h = file_is_read 199 ts [] f e in
    let P : List Token → Type 0 = λ l. SpellsFile f l in
    (subst P (sym (h.1 ∙ append-nil h.0)) h.2, h.3)
answered ts (Ok (f, x ∷ rest)) e =
    let h = file_is_read 199 ts (x ∷ rest) f e in
    let P : List Token → Type 0 = λ l. SpellsFile f l in
    (h.0, rest, x, refl, h.1, ([], f, subst P (sym (append-nil h.0)) h.2, h.3), h.4 x rest refl)
answered ts (Err (unexpected, [])) e = tt
answered ts (Err (unexpected, x ∷ rest)) e = let h = file_is_refused 199 ts x rest e in (h.0, rest, x, refl, h.1, h.2, h.4 x rest refl)
answered ts (Err (too_deep, rest)) e = file_is_too_deep 199 ts rest e

pub file_is_answered : FileIsAnswered
file_is_answered ts = answered ts (file 199 ts) refl

-- ---- at most one

stops : (ts rest : List Token) (h : IsUnexpected ts rest) → IsStopped SpellsFile h.0 rest
stops ts rest h x more e begins =
    let same : x ≡ h.2 = cc (sym e ∙ h.3) in
    let P : Token → Type 0 = λ v. Begins SpellsFile (h.0 ++ v ∷ []) in
    h.6 (subst P same begins)

of_unexpected : (ts rest : List Token) (h : IsUnexpected ts rest) → Front SpellsFile file_depth level_limit ts h.0 rest
of_unexpected ts rest h = (h.4, h.5, λ x more e w. stops ts rest h x more e (w.0, w.1, w.2))

-- a file that is spelled continues with each of its tokens
goes_on : (ts pre rest more : List Token) (x : Token) (f : t.File) → SpellsFile f ts → ts ≡ pre ++ rest → rest ≡ x ∷ more → SpellsFile f ((pre ++ x ∷ []) ++ more)
goes_on ts pre rest more x f spelled cuts first =
    let P : List Token → Type 0 = λ l. SpellsFile f l in
    subst P (cuts ∙ ap (λ l. pre ++ l) first ∙ sym (append_assoc pre (x ∷ []) more)) spelled

spelled_unexpected : (ts rest : List Token) (f : t.File) → SpellsFile f ts → IsUnexpected ts rest → ⊥
spelled_unexpected ts rest f h k = k.6 (k.1, f, goes_on ts k.0 rest k.1 k.2 f h k.4 k.3)

spelled_deep : (ts rest : List Token) (f : t.File) → SpellsFile f ts → file_depth f ≤ level_limit → IsTooDeep SpellsFile file_depth level_limit ts rest → ⊥
spelled_deep ts rest f h fits k = k.7 (k.1, f, goes_on ts k.0 rest k.1 k.2 f h k.4 k.3, fits)

unexpected_deep : (ts r s : List Token) → IsUnexpected ts r → IsTooDeep SpellsFile file_depth level_limit ts s → ⊥
unexpected_deep ts r s h k = stopped_deep SpellsFile file_depth level_limit ts h.0 r s (of_unexpected ts r h) (stops ts r h) k

pub one_file_answer : OneFileAnswer
one_file_answer ts (answer.spelled f) (answer.spelled g) h k = ap answer.spelled (file_is_one ts f g h.0 k.0)
one_file_answer ts (answer.spelled f) (answer.unexpected s) h k = absurd (spelled_unexpected ts s f h.0 k)
one_file_answer ts (answer.spelled f) (answer.too_deep s) h k = absurd (spelled_deep ts s f h.0 h.1 k)
one_file_answer ts (answer.unexpected r) (answer.spelled g) h k = absurd (spelled_unexpected ts r g k.0 h)
one_file_answer ts (answer.unexpected r) (answer.unexpected s) h k = ap answer.unexpected (meet SpellsFile file_depth level_limit ts h.0 k.0 r s (of_unexpected ts r h) (of_unexpected ts s k)).1
one_file_answer ts (answer.unexpected r) (answer.too_deep s) h k = absurd (unexpected_deep ts r s h k)
one_file_answer ts (answer.too_deep r) (answer.spelled g) h k = absurd (spelled_deep ts r g k.0 k.1 h)
one_file_answer ts (answer.too_deep r) (answer.unexpected s) h k = absurd (unexpected_deep ts s r k h)
one_file_answer ts (answer.too_deep r) (answer.too_deep s) h k =
    let at = of_deep SpellsFile file_depth level_limit in
    ap answer.too_deep (meet SpellsFile file_depth level_limit ts h.0 k.0 r s (at ts r h) (at ts s k)).1
