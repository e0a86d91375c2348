-- A limit that the plays of some seeds pass is passed by those of more seeds too.
use Rattle.std.proofs.{Common.{◌≡◌, ◌≤◌, ◌+◌, ℕ, Bool, true, false, cond, List, [], ◌∷◌, ◌++◌, length, append_assoc, append-nil, refl, sym, ap, ◌∙◌, arith}, lemmas.Bool.false≢true, lemmas.List.Sums.{sum_by-append, sum_by-cons}}
use Rattle.std.specs.List.{AllByRecursion, list_any}
use Rattle.pc_outcomes.specs.{declared.entry.Ending.Ending, declared.entry.Entry.Entry, declared.entry.Play.Play, Plays.has_outcome, Tables.{AreEntries, shows_outcome, total_steps, total_texts}}
use Rattle.pc_outcomes.proofs.Grouping.{outcome_is}
use Rattle.pc_outcome_laws.proofs.{Firsts.{entry_at, firsts, one_table}, Lists.found}

-- ---- steps

abbrev steps_in : Play → ℕ
steps_in p = p.steps

pub steps_grow : (ps : List Play) (p : Play) (rest : List Play) → total_steps ps + p.steps ≤ total_steps (ps ++ p ∷ rest)
steps_grow ps p rest =
    let both : total_steps (ps ++ p ∷ rest) ≡ total_steps ps + total_steps (p ∷ rest) = sum_by-append steps_in ps (p ∷ rest) in
    let next : total_steps (p ∷ rest) ≡ p.steps + total_steps rest = sum_by-cons steps_in p rest in
    omega (arith, both, next)

-- ---- texts

-- The bytes of a text that none before has.
abbrev new_bytes : (seen : List Play) → Play → ℕ
new_bytes seen p = cond (list_any (has_outcome p.text p.ending) seen) 0 (length p.text)

-- The bytes of the texts of those that are the first with their outcome, after these.
abbrev bytes_of : (seen rest : List Play) → ℕ
bytes_of seen [] = 0
bytes_of seen (p ∷ ps) = new_bytes seen p + bytes_of (seen ++ p ∷ []) ps

texts_here : (e : Entry) (es : List Entry) (n : ℕ) → total_texts es ≡ n → (b : Bool) → total_texts (cond b es (e ∷ es)) ≡ cond b 0 (length e.text) + n
texts_here e es n same true = omega (arith, same)
texts_here e es n same false = sum_by-cons (λ (x : Entry). length x.text) e es ∙ ap (λ (m : ℕ). length e.text + m) same

texts_are : (all seen rest : List Play) → total_texts (firsts all seen rest) ≡ bytes_of seen rest
texts_are all seen [] = refl
texts_are all seen (p ∷ ps) =
    texts_here (entry_at all (length seen) p) (firsts all (seen ++ p ∷ []) ps) (bytes_of (seen ++ p ∷ []) ps) (texts_are all (seen ++ p ∷ []) ps) (list_any (has_outcome p.text p.ending) seen)

bytes_append : (ps rest seen : List Play) → bytes_of seen (ps ++ rest) ≡ bytes_of seen ps + bytes_of (seen ++ ps) rest
bytes_append [] rest seen = let same : bytes_of (seen ++ []) rest ≡ bytes_of seen rest = ap (λ (l : List Play). bytes_of l rest) (append-nil seen) in omega (arith, same)
bytes_append (p ∷ ps) rest seen =
    let more = bytes_append ps rest (seen ++ p ∷ []) in
    let same : bytes_of ((seen ++ p ∷ []) ++ ps) rest ≡ bytes_of (seen ++ p ∷ ps) rest = ap (λ (l : List Play). bytes_of l rest) (append_assoc seen (p ∷ []) ps) in
    omega (arith, more, same)

-- A play whose outcome no entry shows is new among the plays of the entries.
new_among : (b : Bool) → (b ≡ true → ⊥) → b ≡ false
new_among true n = absurd (n refl)
new_among false n = refl

shown : (es : List Entry) (p q : Play) → has_outcome p.text p.ending q ≡ true → list_any (λ e. shows_outcome e q) es ≡ true → list_any (λ e. shows_outcome e p) es ≡ true
shown es p q h any =
    let o = outcome_is p.text p.ending q h in
    ap (λ (t : List ℕ). list_any (λ (e : Entry). has_outcome e.text e.ending (record { text = t; ending = p.ending; steps = p.steps })) es) o.0
    ∙ ap (λ (a : Ending). list_any (λ (e : Entry). has_outcome e.text e.ending (record { text = q.text; ending = a; steps = p.steps })) es) o.1 ∙ any

is_new : (ps : List Play) (es : List Entry) (p : Play) → AllByRecursion (λ q. list_any (λ e. shows_outcome e q) es ≡ true) ps → list_any (λ e. shows_outcome e p) es ≡ false → list_any (has_outcome p.text p.ending) ps ≡ false
is_new ps es p every none =
    new_among (list_any (has_outcome p.text p.ending) ps)
    (λ any. found (has_outcome p.text p.ending) (λ q. list_any (λ e. shows_outcome e q) es ≡ true) ⊥ ps (λ q h a. false≢true (sym none ∙ shown es p q h a)) every any)

pub texts_grow : (ps : List Play) (p : Play) (rest : List Play) (es fs : List Entry) → AreEntries ps es → AreEntries (ps ++ p ∷ rest) fs → list_any (λ e. shows_outcome e p) es ≡ false
    → total_texts es + length p.text ≤ total_texts fs
texts_grow ps p rest es fs a b none =
    let first : total_texts es ≡ bytes_of [] ps = ap total_texts (one_table ps es a) ∙ texts_are ps [] ps in
    let whole : total_texts fs ≡ bytes_of [] (ps ++ p ∷ rest) = ap total_texts (one_table (ps ++ p ∷ rest) fs b) ∙ texts_are (ps ++ p ∷ rest) [] (ps ++ p ∷ rest) in
    let parts : bytes_of [] (ps ++ p ∷ rest) ≡ bytes_of [] ps + bytes_of ps (p ∷ rest) = bytes_append ps (p ∷ rest) [] in
    let new : new_bytes ps p ≡ length p.text = ap (λ (c : Bool). cond c 0 (length p.text)) (is_new ps es p a.every none) in
    let next : bytes_of ps (p ∷ rest) ≡ new_bytes ps p + bytes_of (ps ++ p ∷ []) rest = refl in
    omega (arith, first, whole, parts, new, next)
