-- What an index finds in a slice.
use Rattle.std.specs.{Prelude.{◌≡◌, ℕ, List, Option, Some, None, length, slice_get}, Option.option_copied, Borrow.Bor, Slice.IsItemAt}
use Rattle.std.proofs.{Common.{ap, sym, ◌∙◌}, lemmas.Bool.{ltb-true, ltb-false}, lemmas.Option.{slice_get-get_or, slice_get_past}}

pub got : {T : Type 0} → (xs : List T) (i : ℕ) (r : Option (Bor T)) → IsItemAt xs i r → option_copied r ≡ slice_get xs i
got xs i None h = sym (slice_get_past xs i (ltb-false i (length xs) (sym h.0)))
got xs i (Some x) h = sym (slice_get-get_or xs i x.now (ltb-true i (length xs) (sym h.0)) ∙ ap (λ y. Some y) (sym h.1))
