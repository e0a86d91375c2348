-- From reading to the promises of the public call.
use Rattle.std.proofs.Common.{◌≡◌, ℕ, ◌<◌, ◌≤◌, List, [], ◌∷◌, drop, length, Ok, Err, sym, ap, ◌∙◌, subst, arith, length-drop}
use Rattle.pc_tree.specs.Tree as t
use Rattle.pc_tree.specs.{declared.file.File.File, View.file_view}
use Rattle.pc_token.specs.declared.kinds.Token.{Token}
use Rattle.pc_grammar.specs.Reading as reading
use Rattle.pc_grammar.specs.{Reading.ReadingOutcome, FileAnswers.{FileAnswer, spelled, unexpected, too_deep, IsFileAnswer}, Laws.AnswersFor}
use Rattle.pc_grammar.specs.ReadingFile as rules
use Rattle.pc_grammar.proofs.FileAnswers.{file_is_answered, one_file_answer}
use Rattle.pc_expr.specs.{declared.stop.ParseStop.ParseStop, declared.fault.ParseFault.ParseFault, Gives.Stops, Answers.NamesByte}
use Rattle.pc_expr.specs.declared.stop.ParseStop.TheVariants as stop
use Rattle.pc_expr.specs.declared.fault.ParseFault.TheVariants as fault
use Rattle.pc_parse.specs.Answers.{StopsRight, RefusesFile, Is}

-- ---- what is read, by the number of tokens left

nothing_left : (ts rest : List Token) (f : t.File) → length rest ≤ 0 → AnswersFor ts (Ok (f, rest)) → IsFileAnswer ts (spelled f)
nothing_left ts [] f none h = h
nothing_left ts (x ∷ rest) f none h = absurd (omega (arith, none))

some_left : (ts rest : List Token) (f : t.File) → 0 < length rest → AnswersFor ts (Ok (f, rest)) → IsFileAnswer ts (unexpected rest)
some_left ts [] f some h = absurd (omega (arith, some))
some_left ts (x ∷ rest) f some h = h

refused_left : (ts rest : List Token) → 0 < length rest → AnswersFor ts (Err (reading.unexpected, rest)) → IsFileAnswer ts (unexpected rest)
refused_left ts [] some h = absurd (omega (arith, some))
refused_left ts (x ∷ rest) some h = h

answers : (tokens : List Token) (o : ReadingOutcome t.File) → rules.file 199 tokens ≡ o → AnswersFor tokens o
answers tokens o e = subst (λ v. AnswersFor tokens v) e (file_is_answered tokens)

pub spells_all : (tokens : List Token) (to : ℕ) (f : t.File) → rules.file 199 tokens ≡ Ok (f, drop to tokens) → length tokens ≤ to → IsFileAnswer tokens (spelled f)
spells_all tokens to f read past =
    let none : length (drop to tokens) ≤ 0 = simp length-drop (omega (arith, past)) in
    nothing_left tokens (drop to tokens) f none (answers tokens _ read)

pub goes_on : (tokens : List Token) (to : ℕ) (f : t.File) → rules.file 199 tokens ≡ Ok (f, drop to tokens) → to < length tokens → StopsRight tokens (stop.Unexpected to)
goes_on tokens to f read within =
    let some : 0 < length (drop to tokens) = simp length-drop (omega (arith, within)) in
    (within, some_left tokens (drop to tokens) f some (answers tokens _ read))

pub stops_right : (tokens : List Token) (e : ParseStop) → Stops tokens e (rules.file 199 tokens) → StopsRight tokens e
stops_right tokens (stop.Unexpected k) s =
    let within = s.1 in
    let some : 0 < length (drop k tokens) = simp length-drop (omega (arith, within)) in
    (within, refused_left tokens (drop k tokens) some (answers tokens _ s.0))
stops_right tokens (stop.TooDeep k) s = (s.1, answers tokens _ s.0)
stops_right tokens stop.Memory s = tt

-- ---- faults, by the first byte of their token

pub refused : (tokens : List Token) (e : ParseStop) (f : ParseFault) → StopsRight tokens e → NamesByte tokens e f → RefusesFile tokens f
refused tokens (stop.Unexpected k) f s named = subst (λ v. RefusesFile tokens v) (sym named.1) (k, named.2, s.1)
refused tokens (stop.TooDeep k) f s named = subst (λ v. RefusesFile tokens v) (sym named.1) (k, named.2, s.1)
refused tokens stop.Memory f s named = subst (λ v. RefusesFile tokens v) (sym named) tt

-- ---- no other answer

pub only_tree : (tokens : List Token) (f : File) → IsFileAnswer tokens (spelled (file_view f)) → (answer : FileAnswer) → IsFileAnswer tokens answer → Is answer (Ok f)
only_tree tokens f read answer is = one_file_answer tokens answer (spelled (file_view f)) is read

pub only_fault : (tokens : List Token) (f : ParseFault) → RefusesFile tokens f → (answer : FileAnswer) → IsFileAnswer tokens answer → Is answer (Err f)
only_fault tokens (fault.Unexpected p) h answer is =
    let here = h.1 in
    (here.0, here.1, one_file_answer tokens answer (unexpected (drop h.0 tokens)) is h.2 ∙ ap unexpected here.2, here.3)
only_fault tokens (fault.TooDeep p) h answer is =
    let here = h.1 in
    (here.0, here.1, one_file_answer tokens answer (too_deep (drop h.0 tokens)) is h.2 ∙ ap too_deep here.2, here.3)
only_fault tokens fault.Memory h answer is = tt
