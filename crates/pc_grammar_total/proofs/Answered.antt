-- A list that ends with `End` has one answer, and what is too deep opens a level.
use Rattle.std.proofs.Common.{◌≡◌, ℕ, suc, true, List, [], ◌∷◌, ◌++◌, Ok, Err, refl, sym, ap, ◌∙◌, subst, append_assoc}
use Rattle.pc_tree.specs.Tree as t
use Rattle.pc_tree.specs.Depths.{depth, seq_depth, file_depth}
use Rattle.pc_token.specs.declared.kinds.Token.{Token}
use Rattle.pc_grammar.specs.{Spells.{Spells, SpellsInfix, SpellsSeq, SpellsFile, level_limit}, FileAnswers.{IsTooDeep, FileAnswer, IsFileAnswer}, Parsing.{ParseAnswer, read, refused, deep, IsAnswer, IsOneAnswer}, Laws.{ReadsRight, RefusesRight, DeepRight, AnswersFor}, Reading.{unexpected, too_deep, ReadingOutcome, Parser, seq, expr, infix_, inner}, ReadingFile.file}
use Rattle.pc_grammar.specs.FileAnswers as answer
use Rattle.pc_grammar.proofs.{Steady.the_end, Right.{seq_reads, seq_refuses, seq_deep, expr_reads, expr_refuses, expr_deep, infix_reads, infix_refuses, infix_deep}, OneAnswer.{seq_answer, expr_answer, infix_answer}, FileRight.file_is_too_deep, FileAnswers.{file_is_answered, one_file_answer}}
use Rattle.pc_expr.specs.Gives.{EndsWithEnd}
use Rattle.pc_grammar_total.specs.{Levels.{opens_level, OpensLevel}, Laws.{left, HasOneAnswer, DeepOpens, SeqHasOneAnswer, SeqDeepOpens, SeqOpenersGoDeep, ExprHasOneAnswer, ExprDeepOpens, ExprOpenersGoDeep, InfixHasOneAnswer, InfixDeepOpens, InfixOpenersGoDeep, FileHasOneAnswer, FileDeepOpens, FileOpenersGoDeep}}
use Rattle.pc_grammar_total.proofs.{Left.{Left, Leaves}, LeftRules.{leaves_seq, leaves_expr, leaves_infix, leaves_inner}, LeftFile.{Named, names_file}, Openers.{an_open, with_body, deep_in, seq_deep_in, infix_deep_in, file_deep_in}}

-- ---- a list to which an `End` is appended

closed_ends : (ts : List Token) → EndsWithEnd (ts ++ the_end ∷ [])
closed_ends [] = refl
closed_ends (x ∷ []) = refl
closed_ends (x ∷ y ∷ ts) = closed_ends (y ∷ ts)

-- what is too deep stays so with more tokens after it
deep_closed : {A : Type 0} (spells : A → List Token → Type 0) (depth_of : A → ℕ) (n : ℕ) (ts rest : List Token) → IsTooDeep spells depth_of n ts rest → IsTooDeep spells depth_of n (ts ++ the_end ∷ []) (rest ++ the_end ∷ [])
deep_closed spells depth_of n ts rest h =
    let tail = the_end ∷ [] in
    (h.0, h.1 ++ tail, h.2, ap (λ l. l ++ tail) h.3, ap (λ l. l ++ tail) h.4 ∙ append_assoc h.0 rest tail, h.5, h.6, h.7)

opens_closed : (rest more : List Token) (x : Token) → rest ≡ x ∷ more → OpensLevel (rest ++ the_end ∷ []) → OpensLevel rest
opens_closed rest more x first h =
    let same : x ∷ (more ++ the_end ∷ []) ≡ h.0 ∷ h.1 = ap (λ l. l ++ the_end ∷ []) (sym first) ∙ h.2 in
    let head : h.0 ≡ x = cc same in
    let P : Token → Type 0 = λ y. opens_level y ≡ true in
    (x, more, first, subst P head h.3)

-- ---- the parts

module _ {A : Type 0} (spells : A → List Token → Type 0) (depth_of : A → ℕ) (reading : ℕ → Parser A) where
  module _ (reads : ReadsRight spells depth_of reading) (refuses : RefusesRight spells depth_of reading) (deepens : DeepRight spells depth_of reading)
      (one : (n : ℕ) → IsOneAnswer spells depth_of n) (leaves : (n : ℕ) → Leaves (reading n)) where
    abbrev Holds : ℕ → List Token → ParseAnswer A → Type 0
    Holds n ts a = IsAnswer spells depth_of n ts a

    answer_by : (n : ℕ) (ts : List Token) (o : ReadingOutcome A) → reading n ts ≡ o → Left o
        → (a : ParseAnswer A) × EndsWithEnd (left a) × Holds n ts a
    answer_by n ts (Ok (b, rest)) e h = (read b rest, h, reads n ts rest b e)
    answer_by n ts (Err (unexpected, [])) e h = absurd h
    answer_by n ts (Err (unexpected, x ∷ rest)) e h = (refused (x ∷ rest), h, refuses n ts x rest e)
    answer_by n ts (Err (too_deep, rest)) e h = (deep rest, h.0, deepens n ts rest e)

    pub has_one : (n : ℕ) → HasOneAnswer spells depth_of n
    has_one n ts ends =
        let a = answer_by n ts (reading n ts) refl ((leaves n).leaves ts ends) in
        (a.0, a.1, a.2, λ other h. one n ts other a.0 h a.2)

    deep_by : (n : ℕ) (ts rest : List Token) (o : ReadingOutcome A) → reading n ts ≡ o → Left o → IsTooDeep spells depth_of n ts rest
        → OpensLevel rest
    deep_by n ts rest (Ok (b, r)) e h d = let f : deep rest ≡ read b r = one n ts (deep rest) (read b r) d (reads n ts r b e) in absurd (cc f)
    deep_by n ts rest (Err (unexpected, [])) e h d = absurd h
    deep_by n ts rest (Err (unexpected, x ∷ r)) e h d = let f : deep rest ≡ refused (x ∷ r) = one n ts (deep rest) (refused (x ∷ r)) d (refuses n ts x r e) in absurd (cc f)
    deep_by n ts rest (Err (too_deep, r)) e h d =
        let f : deep rest ≡ deep r = one n ts (deep rest) (deep r) d (deepens n ts r e) in
        let g : r ≡ rest = cc f in
        subst OpensLevel g h.1

    pub deep_opens : (n : ℕ) → DeepOpens spells depth_of n
    deep_opens n ts rest d =
        let all = ts ++ the_end ∷ [] in
        let h = deep_by n all (rest ++ the_end ∷ []) (reading n all) refl ((leaves n).leaves all (closed_ends ts)) (deep_closed spells depth_of n ts rest d) in
        opens_closed rest d.1 d.2 d.3 h

seq_leaves : (n : ℕ) → Leaves (seq n)
seq_leaves n = leaves_seq n (inner n) (leaves_inner n)

expr_leaves : (n : ℕ) → Leaves (expr n)
expr_leaves n = leaves_expr n (inner n) (leaves_inner n)

infix_leaves : (n : ℕ) → Leaves (infix_ n)
infix_leaves n = leaves_infix n (inner n) (leaves_inner n)

pub seq_has_one : SeqHasOneAnswer
seq_has_one = has_one SpellsSeq seq_depth seq seq_reads seq_refuses seq_deep seq_answer seq_leaves

pub seq_deep_opens : SeqDeepOpens
seq_deep_opens = deep_opens SpellsSeq seq_depth seq seq_reads seq_refuses seq_deep seq_answer seq_leaves

pub expr_has_one : ExprHasOneAnswer
expr_has_one = has_one Spells depth expr expr_reads expr_refuses expr_deep expr_answer expr_leaves

pub expr_deep_opens : ExprDeepOpens
expr_deep_opens = deep_opens Spells depth expr expr_reads expr_refuses expr_deep expr_answer expr_leaves

pub infix_has_one : InfixHasOneAnswer
infix_has_one = has_one SpellsInfix depth infix_ infix_reads infix_refuses infix_deep infix_answer infix_leaves

pub infix_deep_opens : InfixDeepOpens
infix_deep_opens = deep_opens SpellsInfix depth infix_ infix_reads infix_refuses infix_deep infix_answer infix_leaves

-- ---- files

file_answer_by : (ts : List Token) (o : ReadingOutcome t.File) → AnswersFor ts o → Named o → (a : FileAnswer) × IsFileAnswer ts a
file_answer_by ts (Ok (f, [])) says h = (answer.spelled f, says)
file_answer_by ts (Ok (f, x ∷ rest)) says h = (answer.unexpected (x ∷ rest), says)
file_answer_by ts (Err (unexpected, [])) says h = absurd h
file_answer_by ts (Err (unexpected, x ∷ rest)) says h = (answer.unexpected (x ∷ rest), says)
file_answer_by ts (Err (too_deep, rest)) says h = (answer.too_deep rest, says)

pub file_has_one : FileHasOneAnswer
file_has_one ts ends =
    let a = file_answer_by ts (file 199 ts) (file_is_answered ts) ((names_file 199).names ts ends) in
    (a.0, a.1, λ other h. one_file_answer ts other a.0 h a.1)

file_deep_by : (ts rest : List Token) (o : ReadingOutcome t.File) → AnswersFor ts o → Named o → IsFileAnswer ts (answer.too_deep rest) → OpensLevel rest
file_deep_by ts rest (Ok (f, [])) says h d = let g : answer.too_deep rest ≡ answer.spelled f = one_file_answer ts (answer.too_deep rest) (answer.spelled f) d says in absurd (cc g)
file_deep_by ts rest (Ok (f, x ∷ r)) says h d = let g : answer.too_deep rest ≡ answer.unexpected (x ∷ r) = one_file_answer ts (answer.too_deep rest) (answer.unexpected (x ∷ r)) d says in absurd (cc g)
file_deep_by ts rest (Err (unexpected, [])) says h d = absurd h
file_deep_by ts rest (Err (unexpected, x ∷ r)) says h d = let g : answer.too_deep rest ≡ answer.unexpected (x ∷ r) = one_file_answer ts (answer.too_deep rest) (answer.unexpected (x ∷ r)) d says in absurd (cc g)
file_deep_by ts rest (Err (too_deep, r)) says h d =
    let g : answer.too_deep rest ≡ answer.too_deep r = one_file_answer ts (answer.too_deep rest) (answer.too_deep r) d says in
    let same : r ≡ rest = cc g in
    subst OpensLevel same h.1

pub file_deep_opens : FileDeepOpens
file_deep_opens ts rest d =
    let all = ts ++ the_end ∷ [] in
    let h = file_deep_by all (rest ++ the_end ∷ []) (file 199 all) (file_is_answered all) ((names_file 199).names all (closed_ends ts)) (deep_closed SpellsFile file_depth level_limit ts rest d) in
    opens_closed rest d.1 d.2 d.3 h

-- ---- each token that opens a level

pub seq_openers : SeqOpenersGoDeep
seq_openers n x opens =
    let d = deep_in n x opens in
    let ts = d.first ∷ d.behind in
    (ts, d.more, seq_deep n ts (x ∷ d.more) (seq_deep_in n x d))

pub expr_openers : ExprOpenersGoDeep
expr_openers n x opens =
    let d = deep_in n x opens in
    let ts = d.first ∷ d.behind in
    (ts, d.more, expr_deep n ts (x ∷ d.more) d.read)

pub infix_openers : InfixOpenersGoDeep
infix_openers n x opens =
    let d = deep_in n x opens in
    let ts = an_open ∷ d.first ∷ d.behind in
    (ts, d.more, infix_deep (suc n) ts (x ∷ d.more) (infix_deep_in n x d))

pub file_openers : FileOpenersGoDeep
file_openers x opens =
    let d = deep_in 199 x opens in
    let ts = with_body (d.first ∷ d.behind) in
    (ts, d.more, file_is_too_deep 199 ts (x ∷ d.more) (file_deep_in 199 x d))
