-- Each word is found by its spelling, and by no other.
use Rattle.std.proofs.{Common.{◌≡◌, ℕ, Bool, true, false, cond, List, [], ◌∷◌, Option, Some, None, refl, sym, ap, ◌∙◌}, lemmas.Bool.and_parts, lemmas.Slice.Eq.bytes_eq-Decides, lemmas.Option.same_Some}
use Rattle.std.specs.{Str.bytes_eq, List.list_all}
use Rattle.pc_token.specs.{declared.words.Word.Word, declared.words.TheConstants.WORDS, Words.word_text, Finding.{first_word, word_of}}
use Rattle.pc_token.specs.declared.words.Word.TheVariants as word
use Rattle.pc_base.proofs.Options.{none_some}

-- a word is the one with its spelling
pub word_own : (w : Word) → word_of (word_text w) ≡ Some w
unfolding word_of
word_own word.ActorWord = refl
word_own word.ClassWord = refl
word_own word.PrimitiveWord = refl
word_own word.TraitWord = refl
word_own word.FunWord = refl
word_own word.BeWord = refl
word_own word.NewWord = refl
word_own word.VarWord = refl
word_own word.LetWord = refl
word_own word.IsWord = refl
word_own word.IsntWord = refl
word_own word.IsoWord = refl
word_own word.TrnWord = refl
word_own word.RefWord = refl
word_own word.ValWord = refl
word_own word.BoxWord = refl
word_own word.TagWord = refl
word_own word.IfWord = refl
word_own word.ThenWord = refl
word_own word.ElseifWord = refl
word_own word.ElseWord = refl
word_own word.EndWord = refl
word_own word.WhileWord = refl
word_own word.DoWord = refl
word_own word.RecoverWord = refl
word_own word.ConsumeWord = refl
word_own word.ThisWord = refl
word_own word.TrueWord = refl
word_own word.FalseWord = refl
word_own word.AndWord = refl
word_own word.OrWord = refl
word_own word.XorWord = refl
word_own word.NotWord = refl
word_own word.InterfaceWord = refl
word_own word.StructWord = refl
word_own word.TypeWord = refl
word_own word.UseWord = refl
word_own word.EmbedWord = refl
word_own word.ReturnWord = refl
word_own word.BreakWord = refl
word_own word.ContinueWord = refl
word_own word.ErrorWord = refl
word_own word.TryWord = refl
word_own word.WithWord = refl
word_own word.MatchWord = refl
word_own word.ForWord = refl
word_own word.InWord = refl
word_own word.RepeatWord = refl
word_own word.UntilWord = refl
word_own word.WhereWord = refl
word_own word.AsWord = refl
word_own word.ObjectWord = refl
word_own word.LambdaWord = refl
word_own word.IfdefWord = refl
word_own word.IftypeWord = refl
word_own word.CompileErrorWord = refl
word_own word.CompileIntrinsicWord = refl
word_own word.AddressofWord = refl
word_own word.DigestofWord = refl

first_step : (x w : Word) (xs : List Word) (b : List ℕ) (t : Bool) → bytes_eq (word_text x) b ≡ t → cond t (Some x) (first_word xs b) ≡ Some w → (first_word xs b ≡ Some w → word_text w ≡ b) → word_text w ≡ b
first_step x w xs b true e found more = ap word_text (sym (same_Some x w found)) ∙ (bytes_eq-Decides (word_text x) b).0 e
first_step x w xs b false e found more = more found

first_sound : (ws : List Word) (b : List ℕ) (w : Word) → first_word ws b ≡ Some w → word_text w ≡ b
first_sound [] b w found = absurd (none_some found)
first_sound (x ∷ xs) b w found = first_step x w xs b (bytes_eq (word_text x) b) refl found (first_sound xs b w)

-- the word that is found has the spelling
pub word_sound : (b : List ℕ) (w : Word) → word_of b ≡ Some w → b ≡ word_text w
unfolding word_of
word_sound b w found = sym (first_sound WORDS b w found)

pub word_found : (b : List ℕ) (w : Word) → b ≡ word_text w → word_of b ≡ Some w
word_found b w e = ap word_of e ∙ word_own w

pub word_none : (b : List ℕ) → word_of b ≡ None → (w : Word) → b ≡ word_text w → ⊥
word_none b none w e = none_some (sym none ∙ word_found b w e)

passes_step : (p : List ℕ → Bool) (x w : Word) (xs : List Word) (b : List ℕ) (t : Bool) → bytes_eq (word_text x) b ≡ t → cond t (Some x) (first_word xs b) ≡ Some w → p (word_text x) ≡ true
    → (first_word xs b ≡ Some w → p (word_text w) ≡ true) → p (word_text w) ≡ true
passes_step p x w xs b true e found here more = ap (λ y. p (word_text y)) (sym (same_Some x w found)) ∙ here
passes_step p x w xs b false e found here more = more found

passes : (p : List ℕ → Bool) (ws : List Word) (b : List ℕ) (w : Word) → list_all (λ x. p (word_text x)) ws ≡ true → first_word ws b ≡ Some w → p (word_text w) ≡ true
passes p [] b w all found = absurd (none_some found)
passes p (x ∷ xs) b w all found =
    let (here, more) = and_parts (p (word_text x)) (list_all (λ x. p (word_text x)) xs) all in
    passes_step p x w xs b (bytes_eq (word_text x) b) refl found here (passes p xs b w more)

-- what holds for every spelling in the table holds for every word's
pub each_word : (p : List ℕ → Bool) → list_all (λ w. p (word_text w)) WORDS ≡ true → (w : Word) → p (word_text w) ≡ true
unfolding word_of
each_word p all w = passes p WORDS (word_text w) w all (word_own w)

none_step : (b : List ℕ) (o : Option Word) → word_of b ≡ o → ((w : Word) → b ≡ word_text w → ⊥) → word_of b ≡ None
none_step b None e h = e
none_step b (Some w) e h = absurd (h w (word_sound b w e))

pub none_found : (b : List ℕ) → ((w : Word) → b ≡ word_text w → ⊥) → word_of b ≡ None
none_found b h = none_step b (word_of b) refl h
