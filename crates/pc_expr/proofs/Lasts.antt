-- The first and the last part of a list.
use Rattle.std.proofs.Common.{◌≡◌, ◌-◌, List, [], ◌∷◌, length, map, suc, Some, ap, ap₂, ◌∙◌, arith, rules}
use Rattle.std.specs.List.{slice_get}
use Rattle.pc_base.specs.declared.span.Span.{Span}
use Rattle.pc_tree.specs.Tree as t
use Rattle.pc_tree.specs.{View.{expr_view, item_view, suffix_view}, declared.expression.Expr.Expr, declared.expression.Item.Item, declared.expression.Suffix.Suffix, Parts.{suffix_span, item_span}}
use Rattle.pc_grammar.specs.{Spells.{no_span, span_from_to}, Reading.{first_item, last_item, first_expr, last_expr, last_suffix}}

one_less : {X : Type 0} (y z : X) (zs : List X) (x : X) → Some x ≡ slice_get (y ∷ z ∷ zs) (length (y ∷ z ∷ zs) - 1) → Some x ≡ slice_get (z ∷ zs) (length (z ∷ zs) - 1)
one_less y z zs x e =
    let n : length (y ∷ z ∷ zs) - 1 ≡ suc (length (z ∷ zs) - 1) = omega arith in
    let step : slice_get (y ∷ z ∷ zs) (suc (length (z ∷ zs) - 1)) ≡ slice_get (z ∷ zs) (length (z ∷ zs) - 1) = search rules in
    e ∙ ap (slice_get (y ∷ z ∷ zs)) n ∙ step

first_item_is : (xs : List Item) (x : Item) → Some x ≡ slice_get xs 0 → item_span (item_view x) ≡ first_item (map item_view xs)
first_item_is [] x e = cc
first_item_is (y ∷ ys) x e = let same : x ≡ y = cc e in ap (λ v. item_span (item_view v)) same

last_item_is : (s : Span) (xs : List Item) (x : Item) → Some x ≡ slice_get xs (length xs - 1) → item_span (item_view x) ≡ last_item s (map item_view xs)
last_item_is s [] x e = cc
last_item_is s (y ∷ []) x e = let same : x ≡ y = cc e in ap (λ v. item_span (item_view v)) same
last_item_is s (y ∷ z ∷ zs) x e = last_item_is (item_span (item_view y)) (z ∷ zs) x (one_less y z zs x e)

first_expr_is : (xs : List Expr) (x : Expr) → Some x ≡ slice_get xs 0 → t.span_of (expr_view x) ≡ first_expr (map expr_view xs)
first_expr_is [] x e = cc
first_expr_is (y ∷ ys) x e = let same : x ≡ y = cc e in ap (λ v. t.span_of (expr_view v)) same

last_expr_is : (s : Span) (xs : List Expr) (x : Expr) → Some x ≡ slice_get xs (length xs - 1) → t.span_of (expr_view x) ≡ last_expr s (map expr_view xs)
last_expr_is s [] x e = cc
last_expr_is s (y ∷ []) x e = let same : x ≡ y = cc e in ap (λ v. t.span_of (expr_view v)) same
last_expr_is s (y ∷ z ∷ zs) x e = last_expr_is (t.span_of (expr_view y)) (z ∷ zs) x (one_less y z zs x e)

pub items_joined : (xs : List Item) (x y : Item) → Some x ≡ slice_get xs 0 → Some y ≡ slice_get xs (length xs - 1)
    → span_from_to (item_span (item_view x)) (item_span (item_view y))
    ≡ span_from_to (first_item (map item_view xs)) (last_item no_span (map item_view xs))
items_joined xs x y first last = ap₂ span_from_to (first_item_is xs x first) (last_item_is no_span xs y last)

pub terms_joined : (xs : List Expr) (x y : Expr) → Some x ≡ slice_get xs 0 → Some y ≡ slice_get xs (length xs - 1)
    → span_from_to (t.span_of (expr_view x)) (t.span_of (expr_view y)) ≡ span_from_to (first_expr (map expr_view xs)) (last_expr no_span (map expr_view xs))
terms_joined xs x y first last = ap₂ span_from_to (first_expr_is xs x first) (last_expr_is no_span xs y last)

pub last_suffix_is : (s : Span) (xs : List Suffix) (x : Suffix) → Some x ≡ slice_get xs (length xs - 1) → suffix_span (suffix_view x) ≡ last_suffix s (map suffix_view xs)
last_suffix_is s [] x e = cc
last_suffix_is s (y ∷ []) x e = let same : x ≡ y = cc e in ap (λ v. suffix_span (suffix_view v)) same
last_suffix_is s (y ∷ z ∷ zs) x e = last_suffix_is (suffix_span (suffix_view y)) (z ∷ zs) x (one_less y z zs x e)
