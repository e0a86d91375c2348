-- One iteration of a loop that prints, and its end.
use Rattle.std.proofs.{Common.{◌≡◌, ℕ, Bool, true, false, cond, List, [], ◌++◌, if◌then◌else◌, Result, Ok, Err, sym, ap, ◌∙◌, append_assoc}, lemmas.List.append-nil, lemmas.Result.on_ok_weaker}
use Rattle.std.specs.Result.{OnOk, is_ok}

-- What was printed, and what is printed for the rest of a list, once its first part is printed too.
pub turn : (out pushed part rest all : List ℕ) → pushed ≡ out ++ part → out ++ (part ++ rest) ≡ all → pushed ++ rest ≡ all
turn out pushed part rest all p e = ap (λ l. l ++ rest) p ∙ append_assoc out part rest ∙ e

-- The same if a separator is printed before the part, unless the part is the first.
pub turn_between : (first : Bool) (out begun pushed between part rest all : List ℕ)
    → begun ≡ out ++ (if first then [] else between) → pushed ≡ begun ++ part
    → out ++ cond first (part ++ rest) (between ++ (part ++ rest)) ≡ all → pushed ++ rest ≡ all
turn_between true out begun pushed between part rest all b p e = turn out pushed part rest all (p ∙ ap (λ l. l ++ part) (b ∙ append-nil out)) e
turn_between false out begun pushed between part rest all b p e =
    turn begun pushed part rest all p (ap (λ l. l ++ (part ++ rest)) b ∙ append_assoc out between (part ++ rest) ∙ e)

-- Nothing is left.
pub nothing_left : (out all : List ℕ) → out ++ [] ≡ all → out ≡ all
nothing_left out all e = sym (append-nil out) ∙ e

pub nothing_left_between : (first : Bool) (out all : List ℕ) → out ++ cond first [] [] ≡ all → out ≡ all
nothing_left_between true out all e = nothing_left out all e
nothing_left_between false out all e = nothing_left out all e

-- Two parts that were printed one after the other are one.
pub after : (out begun pushed one two : List ℕ) → begun ≡ out ++ one → pushed ≡ begun ++ two → pushed ≡ out ++ (one ++ two)
after out begun pushed one two b p = p ∙ ap (λ l. l ++ two) b ∙ append_assoc out one two

-- The same if the second part was printed whenever the call says so.
pub ok_after : {A E : Type 0} → (r : Result A E) (out begun pushed one two : List ℕ) → begun ≡ out ++ one → OnOk r (pushed ≡ begun ++ two) → OnOk r (pushed ≡ out ++ (one ++ two))
ok_after r out begun pushed one two b p = on_ok_weaker r (after out begun pushed one two b) p

-- What was printed, by another name.
pub ok_told : {A E : Type 0} → (r : Result A E) (out pushed told part : List ℕ) → told ≡ part → OnOk r (pushed ≡ out ++ part) → OnOk r (pushed ≡ out ++ told)
ok_told r out pushed told part same p = on_ok_weaker r (λ e. e ∙ ap (λ l. out ++ l) (sym same)) p

-- A slice that is appended to a text, if memory does not run out.
pub ok_pushed : {A E : Type 0} → (r : Result A E) (out pushed part : List ℕ) → pushed ≡ (if is_ok r then (out ++ part) else out) → OnOk r (pushed ≡ out ++ part)
ok_pushed (Ok a) out pushed part e = e
ok_pushed (Err x) out pushed part e = tt

-- A part followed by nothing more.
pub ok_bare : {A E : Type 0} → (r : Result A E) (out pushed part : List ℕ) → OnOk r (pushed ≡ out ++ (part ++ [])) → OnOk r (pushed ≡ out ++ part)
ok_bare r out pushed part p = on_ok_weaker r (λ e. e ∙ ap (λ l. out ++ l) (append-nil part)) p

-- An iteration in which each part has a word before it, the first another one than the rest.
pub turn_headed : (first : Bool) (out begun pushed one other part rest all : List ℕ)
    → begun ≡ out ++ (if first then one else other) → pushed ≡ begun ++ part
    → out ++ cond first (one ++ (part ++ rest)) (other ++ (part ++ rest)) ≡ all → pushed ++ rest ≡ all
turn_headed true out begun pushed one other part rest all b p e = turn begun pushed part rest all p (turn out begun one (part ++ rest) all b e)
turn_headed false out begun pushed one other part rest all b p e = turn begun pushed part rest all p (turn out begun other (part ++ rest) all b e)
