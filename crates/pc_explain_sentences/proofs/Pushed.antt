-- More texts that are appended one after another.
use Rattle.std.proofs.{Common.{◌≡◌, ℕ, List, ◌++◌, Result, ap, ◌∙◌, append_assoc}, lemmas.Result.on_ok_weaker}
use Rattle.std.specs.Result.{OnOk}
use Rattle.pc_explain_window.proofs.Appends.{after}
use Rattle.pc_explain_words.proofs.Pushes.{ok_four}

pub ok_five : {A E : Type 0} → (r : Result A E) (out one two three four five a b c d e : List ℕ)
    → one ≡ out ++ a → two ≡ one ++ b → three ≡ two ++ c → four ≡ three ++ d → OnOk r (five ≡ four ++ e)
    → OnOk r (five ≡ out ++ (a ++ (b ++ (c ++ (d ++ e)))))
ok_five r out one two three four five a b c d e f g h i j =
    on_ok_weaker r (λ (k : five ≡ out ++ ((a ++ b) ++ (c ++ (d ++ e)))). k ∙ ap (λ l. out ++ l) (append_assoc a b (c ++ (d ++ e))))
    (ok_four r out two three four five (a ++ b) c d e (after out one two a b f g) h i j)

pub ok_six : {A E : Type 0} → (r : Result A E) (out one two three four five six a b c d e f : List ℕ)
    → one ≡ out ++ a → two ≡ one ++ b → three ≡ two ++ c → four ≡ three ++ d → five ≡ four ++ e → OnOk r (six ≡ five ++ f)
    → OnOk r (six ≡ out ++ (a ++ (b ++ (c ++ (d ++ (e ++ f))))))
ok_six r out one two three four five six a b c d e f g h i j k l =
    on_ok_weaker r (λ (m : six ≡ out ++ ((a ++ b) ++ (c ++ (d ++ (e ++ f))))). m ∙ ap (λ n. out ++ n) (append_assoc a b (c ++ (d ++ (e ++ f)))))
    (ok_five r out two three four five six (a ++ b) c d e f (after out one two a b g h) i j k l)

pub ok_seven : {A E : Type 0} → (r : Result A E) (out one two three four five six seven a b c d e f g : List ℕ)
    → one ≡ out ++ a → two ≡ one ++ b → three ≡ two ++ c → four ≡ three ++ d → five ≡ four ++ e → six ≡ five ++ f → OnOk r (seven ≡ six ++ g)
    → OnOk r (seven ≡ out ++ (a ++ (b ++ (c ++ (d ++ (e ++ (f ++ g)))))))
ok_seven r out one two three four five six seven a b c d e f g h i j k l m n =
    on_ok_weaker r (λ (o : seven ≡ out ++ ((a ++ b) ++ (c ++ (d ++ (e ++ (f ++ g)))))). o ∙ ap (λ p. out ++ p) (append_assoc a b (c ++ (d ++ (e ++ (f ++ g))))))
    (ok_six r out two three four five six seven (a ++ b) c d e f g (after out one two a b h i) j k l m n)
