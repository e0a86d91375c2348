-- Several texts that are appended one after another.
use Rattle.std.proofs.{Common.{◌≡◌, ℕ, List, ◌++◌, Result, ap, ◌∙◌, append_assoc}, lemmas.Result.on_ok_weaker}
use Rattle.std.specs.Result.{OnOk}
use Rattle.pc_explain_window.proofs.Appends.{after, ok_after}

pub ok_three : {A E : Type 0} → (r : Result A E) (out one two three a b c : List ℕ) → one ≡ out ++ a → two ≡ one ++ b → OnOk r (three ≡ two ++ c)
    → OnOk r (three ≡ out ++ (a ++ (b ++ c)))
ok_three r out one two three a b c d e f =
    on_ok_weaker r (λ (g : three ≡ out ++ ((a ++ b) ++ c)). g ∙ ap (λ l. out ++ l) (append_assoc a b c))
    (ok_after r out two three (a ++ b) c (after out one two a b d e) f)

pub ok_four : {A E : Type 0} → (r : Result A E) (out one two three four a b c d : List ℕ) → one ≡ out ++ a → two ≡ one ++ b → three ≡ two ++ c → OnOk r (four ≡ three ++ d)
    → OnOk r (four ≡ out ++ (a ++ (b ++ (c ++ d))))
ok_four r out one two three four a b c d e f g h =
    on_ok_weaker r (λ (i : four ≡ out ++ ((a ++ b) ++ (c ++ d))). i ∙ ap (λ l. out ++ l) (append_assoc a b (c ++ d)))
    (ok_three r out two three four (a ++ b) c d (after out one two a b e f) g h)
