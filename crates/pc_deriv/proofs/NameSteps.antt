-- A table of names at an index.
use Rattle.std.proofs.Common.{◌≡◌, ℕ, ◌+◌, List, Some, None, slice_get, drop, ap, ◌∙◌}
use Rattle.pc_deriv.specs.Reading.{after_word, or_else, beside, read_named}
use Rattle.pc_base.proofs.Cuts.{drop_item}

module _ {A : Type 0} (name : A → List ℕ) (end : ℕ) (xs : List A) (i : ℕ) (x : A) (text : List ℕ) where
  pub named_here : (rest : List ℕ) → slice_get xs i ≡ Some x → after_word (name x) end text ≡ Some rest → read_named name end (drop i xs) text ≡ Some (x, rest)
  named_here rest e h = ap (λ l. read_named name end l text) (drop_item xs i x e) ∙ ap (λ o. or_else (beside x o) (read_named name end (drop (i + 1) xs) text)) h

  pub named_on : slice_get xs i ≡ Some x → after_word (name x) end text ≡ None → read_named name end (drop i xs) text ≡ read_named name end (drop (i + 1) xs) text
  named_on e h = ap (λ l. read_named name end l text) (drop_item xs i x e) ∙ ap (λ o. or_else (beside x o) (read_named name end (drop (i + 1) xs) text)) h
