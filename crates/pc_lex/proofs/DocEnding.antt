-- The end of a doc, at an index.
use Rattle.std.proofs.{Common.{◌≡◌, ℕ, ◌+◌, ◌<◌, ◌≤◌, cond, List, ◌∷◌, length, get_or, drop, Some, None, refl, sym, ap, ap₂, ◌∙◌, drop-drop}, lemmas.List.{drop_more, drop_all}}
use Rattle.pc_lex.specs.{Pieces.begins_doc, TextReading.doc_behind}

here : (b : ℕ) (bs : List ℕ) → doc_behind (b ∷ bs) ≡ cond (begins_doc (b ∷ bs)) (Some (drop 3 (b ∷ bs))) (doc_behind bs)
unfolding doc_behind
here b bs = refl

pub doc_step : (text : List ℕ) (at : ℕ) → at < length text → doc_behind (drop at text) ≡ cond (begins_doc (drop at text)) (Some (drop (at + 3) text)) (doc_behind (drop (at + 1) text))
doc_step text at within =
    let e : drop at text ≡ get_or text at 0 ∷ drop (at + 1) text = drop_more text at 0 within in
    ap doc_behind e ∙ here (get_or text at 0) (drop (at + 1) text)
    ∙ ap₂ (λ l r. cond (begins_doc l) (Some r) (doc_behind (drop (at + 1) text))) (sym e) (ap (λ l. drop 3 l) (sym e) ∙ drop-drop 3 at text)

pub doc_none : (text : List ℕ) (at : ℕ) → length text ≤ at → doc_behind (drop at text) ≡ None
unfolding doc_behind
doc_none text at past = ap doc_behind (drop_all at text past)
