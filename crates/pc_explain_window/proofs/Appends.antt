-- Texts that are appended one after another.
use Rattle.std.proofs.{Common.{◌≡◌, ℕ, List, ◌++◌, if◌then◌else◌, Result, Ok, Err, ap, ◌∙◌, append_assoc}, lemmas.Result.on_ok_weaker}
use Rattle.std.specs.Result.{OnOk, is_ok}

-- Two that were appended are one.
pub after : (out begun pushed one two : List ℕ) → begun ≡ out ++ one → pushed ≡ begun ++ two → pushed ≡ out ++ (one ++ two)
after out begun pushed one two b p = p ∙ ap (λ l. l ++ two) b ∙ append_assoc out one two

-- The same, if the second was appended when the call succeeded.
pub ok_after : {A E : Type 0} → (r : Result A E) (out begun pushed one two : List ℕ) → begun ≡ out ++ one → OnOk r (pushed ≡ begun ++ two) → OnOk r (pushed ≡ out ++ (one ++ two))
ok_after r out begun pushed one two b p = on_ok_weaker r (after out begun pushed one two b) p

-- A slice that is appended, if there is memory.
pub ok_pushed : {A E : Type 0} → (r : Result A E) (out pushed part : List ℕ) → pushed ≡ (if is_ok r then (out ++ part) else out) → OnOk r (pushed ≡ out ++ part)
ok_pushed (Ok a) out pushed part e = e
ok_pushed (Err x) out pushed part e = tt
