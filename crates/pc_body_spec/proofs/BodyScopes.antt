-- What a body refers to is visible there.
use Rattle.std.proofs.{Common.{◌≡◌, ℕ, List, [], ◌∷◌, ◌++◌, Option, Some, None, Bool, true, false, refl, sym, subst, inl, inr}, lemmas.Option.{same_Some, none-some}}
use Rattle.std.specs.Prelude.{◌⊎◌}
use Rattle.pc_base.specs.{declared.span.Span.Span, Lists.IsIn}
use Rattle.pc_tree.specs.declared.written_names.Name.{Name}
use Rattle.pc_tree.specs.Tree as t
use Rattle.pc_core.specs.declared.nodes.NodeKind.{NodeKind}
use Rattle.pc_core.specs.declared.nodes.NodeKind.TheVariants as node
use Rattle.pc_body_spec.specs.{Bodies.{Rose, Roses, rose, one, more, no_roses, and_last, expr_of, roses_of_items, added_none, initials_then, initial_fields, gives_none, none_last, body_with, Context, params_scope}, Parts.{initial_of, maybe_body}, Visibility.{AsksVisible, ItemAsks, Scoped, AllScoped, ItemsScoped, slots}, Laws.{BodiesAreScoped, AddedBodiesAreScoped}}
use Rattle.pc_body_spec.proofs.Scopes.{expr_ok, items_ok, sequence_ok}

-- ---- if more is visible

-- What is in the first list is in the second.
abbrev Sub : List ℕ → List ℕ → Type 0
Sub a b = (x : ℕ) → IsIn x a → IsIn x b

sub_push : (a b : List ℕ) (y : ℕ) → Sub a b → Sub (a ++ y ∷ []) (b ++ y ∷ [])
sub_push a b y h x i = elim (split a x i) [ inl l ↦ left b x (h x l) | inr r ↦ subst (λ z. IsIn z (b ++ y ∷ [])) r (right b) ]
  where
    split : (xs : List ℕ) (x : ℕ) → IsIn x (xs ++ y ∷ []) → IsIn x xs ⊎ (y ≡ x)
    split [] x (inl e) = inr (sym e)
    split [] x (inr e) = absurd e
    split (z ∷ zs) x (inl e) = inl (inl e)
    split (z ∷ zs) x (inr e) = elim (split zs x e) [ inl l ↦ inl (inr l) | inr r ↦ inr r ]

    left : (xs : List ℕ) (x : ℕ) → IsIn x xs → IsIn x (xs ++ y ∷ [])
    left [] x e = absurd e
    left (z ∷ zs) x (inl e) = inl e
    left (z ∷ zs) x (inr e) = inr (left zs x e)

    right : (xs : List ℕ) → IsIn y (xs ++ y ∷ [])
    right [] = inl refl
    right (z ∷ zs) = inr (right zs)

asks_more : {all some items others : Type 0} (k : NodeKind) (a b : List ℕ) → Sub a b → (all → some) → (items → others) → AsksVisible k a all items → AsksVisible k b some others
asks_more (node.Local n) a b h f g x = (h n x.0, f x.1)
asks_more (node.Consume n) a b h f g x = (h n x.0, f x.1)
asks_more (node.Assign n) a b h f g x = (h n x.0, f x.1)
asks_more node.Seq a b h f g x = g x
asks_more (node.Define n) a b h f g x = absurd x
asks_more k a b h f g x = f x

item_more : {all some part piece : Type 0} {R Q : List ℕ → Type 0} (k : NodeKind) (a b : List ℕ) → Sub a b → (all → some) → (part → piece) → ((v w : List ℕ) → Sub v w → R v → Q w) → ItemAsks k a all part R → ItemAsks k b some piece Q
item_more (node.Define n) a b h f g q x = (f x.0, q (a ++ n ∷ []) (b ++ n ∷ []) (sub_push a b n h) x.1)
item_more k a b h f g q x = (g x.0, q a b h x.1)

mutual
  weaken : (r : Rose) (a b : List ℕ) → Sub a b → Scoped a r → Scoped b r
  weaken (rose k s d rs) a b h x = asks_more k a b h (λ y. weaken_all rs a b h y) (λ y. weaken_items rs a b h y) x

  weaken_all : (rs : Roses) (a b : List ℕ) → Sub a b → AllScoped a rs → AllScoped b rs
  weaken_all no_roses a b h x = tt
  weaken_all (more r rs) a b h x = (weaken r a b h x.0, weaken_all rs a b h x.1)

  weaken_items : (rs : Roses) (a b : List ℕ) → Sub a b → ItemsScoped a rs → ItemsScoped b rs
  weaken_items no_roses a b h x = tt
  weaken_items (more (rose k s d cs) rs) a b h x = item_more k a b h (λ y. weaken_all cs a b h y) (λ y. asks_more k a b h (λ z. weaken_all cs a b h z) (λ z. weaken_items cs a b h z) y) (λ v w e y. weaken_items rs v w e y) x

none_in : (b : List ℕ) → Sub [] b
none_in b x h = absurd h

-- ---- the items of a body

item_rest : (all part : Type 0) {R Q : List ℕ → Type 0} (k : NodeKind) (a : List ℕ) → ((v : List ℕ) → R v → Q v) → ItemAsks k a all part R → ItemAsks k a all part Q
item_rest all part (node.Define n) a q x = (x.0, q (a ++ n ∷ []) x.1)
item_rest all part k a q x = (x.0, q a x.1)

then_none : (vis : List ℕ) (rs : Roses) (s : Span) → ItemsScoped vis rs → ItemsScoped vis (and_last rs (added_none s 0))
then_none vis no_roses s h = (tt, tt)
then_none vis (more (rose k sp d cs) rs) s h = item_rest _ _ k vis (λ v x. then_none v rs s x) h

none_scoped : (vis : List ℕ) (b : Bool) (s : Span) (rs : Roses) → ItemsScoped vis rs → ItemsScoped vis (none_last b s rs)
none_scoped vis true s rs h = then_none vis rs s h
none_scoped vis false s rs h = h

initial_scoped : (vis : List ℕ) (c : Context) (n : Name) (v : Option t.Expr) (rest : Roses) → ItemsScoped vis rest → ItemsScoped vis (initial_of c n v rest)
initial_scoped vis c n None rest h = h
initial_scoped vis c n (Some e) rest h = ((weaken (expr_of c [] 0 e) [] vis (none_in vis) (expr_ok c [] 0 e), (tt, tt)), h)

initials_scoped : (vis : List ℕ) (c : Context) (fs : List t.Field) (rest : Roses) → ItemsScoped vis rest → ItemsScoped vis (initials_then c fs rest)
initials_scoped vis c [] rest h = h
initials_scoped vis c (f ∷ fs) rest h = initial_scoped vis c f.name f.value (initials_then c fs rest) (initials_scoped vis c fs rest h)

body_scoped : (c : Context) (fs : List t.Field) (x : t.Method) (b : t.Seq) → Scoped (slots (params_scope x.params)) (body_with c fs x b)
body_scoped c fs x (t.seq is s) =
    let sc = params_scope x.params in
    let last = none_last (gives_none x.word x.result) x.name.span (roses_of_items c sc 0 is) in
    (sequence_ok (slots sc) s 0 (initials_then c (initial_fields x.word fs) last) (initials_scoped (slots sc) c (initial_fields x.word fs) last (none_scoped (slots sc) (gives_none x.word x.result) x.name.span (roses_of_items c sc 0 is) (items_ok c sc 0 is))), tt)

maybe_scoped : (c : Context) (fs : List t.Field) (x : t.Method) (o : Option t.Seq) (r : Rose) → maybe_body c fs x o ≡ Some r → Scoped (slots (params_scope x.params)) r
maybe_scoped c fs x None r e = absurd (none-some r e)
maybe_scoped c fs x (Some b) r e = subst (Scoped (slots (params_scope x.params))) (same_Some _ _ e) (body_scoped c fs x b)

pub bodies_are_scoped : BodiesAreScoped
bodies_are_scoped c fs x r e = maybe_scoped c fs x x.body r e

pub added_bodies_are_scoped : AddedBodiesAreScoped
added_bodies_are_scoped c fs name = (sequence_ok [] name 0 (initials_then c fs (one (added_none name 0))) (initials_scoped [] c fs (one (added_none name 0)) (tt, tt)), tt)
