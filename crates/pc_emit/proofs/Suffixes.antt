-- A chain of suffixes, cut before its last one, and how it starts.
use Rattle.std.proofs.{Common.{◌≡◌, ℕ, zero, suc, ◌+◌, ◌-◌, ◌<◌, ◌≤◌, Bool, true, false, Option, take, drop, length, List, [], ◌∷◌, ◌++◌, Some, None, refl, ap, ◌∙◌, sym, subst, arith, map, if◌then◌else◌}, lemmas.Option.{same_Some, none-some, slice_get_read, slice_get-map}, lemmas.Bool.{false≢true, true≢false}}
use Rattle.std.specs.{Prelude.{slice_get, IsTrue, ◌↔◌, slice_index_or, option_map}, declared.boxed.Box.Box, declared.alloc.Global.Global}
use Rattle.pc_tree.proofs.Views.{view_chain}
use Rattle.pc_tree.specs.declared.expression.Expr.TheVariants as exprs
use Rattle.pc_tree.specs.{View.{expr_view, suffix_view, exprs_view}, declared.expression.Suffix.Suffix, declared.expression.Expr.Expr, declared.written_names.Name.Name, Parts.suffixes_of}
use Rattle.pc_emit.specs.{declared.chains.First.First, declared.chains.Beginning.Beginning, Closing.{IsCut, IsBefore, BeginsChain, begun, first_of, IsSplit, written_end, object, taken, is_args, is_chain, is_empty_args, link_of, ReadsAtom, reading_rose, only, rest_of}}
use Rattle.pc_emit.proofs.Walks.{map_drop, map_take, at_view}
use Rattle.pc_base.specs.declared.span.Span.{Span}
use Rattle.pc_tree.specs.Tree as t
use Rattle.pc_core.specs.declared.nodes.NodeKind.TheVariants as node
use Rattle.pc_body_spec.specs.Bodies.{Rose, expr_of, assign_of, chain_start, chain_of, named_of, roses_of_exprs, joined_span, apply, call, call_named, new_object_rose, read_field, read_name, read_type, use_field, use_other, create_name, apply_name, Use, read, write, Start, with_value, with_method, with_type, Context, Scope, Constructor, local, field, resolve, primitive, created, no_value, type_meaning, constructor_named, number_of_text}
use Rattle.pc_emit.specs.declared.chains.First.TheVariants as first
use Rattle.pc_emit.specs.declared.chains.Beginning.TheVariants as begins
use Rattle.pc_emit.specs.declared.chains.Reading.TheVariants as reads
use Rattle.pc_emit.specs.declared.chains.Atom.TheVariants as atoms
use Rattle.pc_base.proofs.{Cuts.take_whole, Gets.get_drop}

take_at : {X : Type 0} → (xs : List X) (i : ℕ) (x : X) → slice_get xs i ≡ Some x → take (suc i) xs ≡ take i xs ++ x ∷ []
take_at [] i x h = absurd (none-some x h)
take_at (y ∷ xs) zero x h = ap (λ z. z ∷ []) (same_Some _ _ h)
take_at (y ∷ xs) (suc i) x h = ap (λ l. y ∷ l) (take_at xs i x h)

pub take_last : {X : Type 0} → (xs : List X) (n : ℕ) (x : X) → 0 < n → slice_get xs (n - 1) ≡ Some x → take n xs ≡ take (n - 1) xs ++ x ∷ []
take_last xs n x l h = let e : n ≡ suc (n - 1) = omega (arith, l) in ap (λ k. take k xs) e ∙ take_at xs (n - 1) x h

-- What is done at the end of a chain is done with what comes before it.
module _ (c : Context) (sc : Scope) (d : ℕ) (s : Span) (u : Use) where
  mutual
    pub chain_field : (ss : List t.Suffix) (n : Name) (st : Start) (origin : Rose) → chain_of c sc d s u st origin (suffixes_of (ss ++ t.dot n ∷ [])) ≡ use_field c u (joined_span s n.span) n d (chain_of c sc d s read st origin (suffixes_of ss))
    chain_field [] n st origin = refl
    chain_field (t.dot m ∷ ss) n st origin = named_field ss m n st origin
    chain_field (t.args es sp ∷ ss) n st origin = chain_field ss n with_value (apply c st (joined_span s sp) d (roses_of_exprs c sc d es) origin)

    named_field : (ss : List t.Suffix) (m n : Name) (st : Start) (origin : Rose) → named_of c sc d s u st origin m (suffixes_of (ss ++ t.dot n ∷ [])) ≡ use_field c u (joined_span s n.span) n d (named_of c sc d s read st origin m (suffixes_of ss))
    named_field [] m n st origin = refl
    named_field (t.dot k ∷ ss) m n st origin = named_field ss k n with_value (read_field c (joined_span s m.span) m d origin)
    named_field (t.args es sp ∷ ss) m n st origin = chain_field ss n with_value (call_named c st (joined_span s sp) m d (roses_of_exprs c sc d es) origin)

  mutual
    pub chain_other : (ss : List t.Suffix) (fs : t.Exprs) (fp : Span) (st : Start) (origin : Rose) → chain_of c sc d s u st origin (suffixes_of (ss ++ t.args fs fp ∷ [])) ≡ use_other u d (chain_of c sc d s read st origin (suffixes_of (ss ++ t.args fs fp ∷ [])))
    chain_other [] fs fp st origin = refl
    chain_other (t.dot m ∷ ss) fs fp st origin = named_other ss m fs fp st origin
    chain_other (t.args es sp ∷ ss) fs fp st origin = chain_other ss fs fp with_value (apply c st (joined_span s sp) d (roses_of_exprs c sc d es) origin)

    named_other : (ss : List t.Suffix) (m : Name) (fs : t.Exprs) (fp : Span) (st : Start) (origin : Rose) → named_of c sc d s u st origin m (suffixes_of (ss ++ t.args fs fp ∷ [])) ≡ use_other u d (named_of c sc d s read st origin m (suffixes_of (ss ++ t.args fs fp ∷ [])))
    named_other [] m fs fp st origin = refl
    named_other (t.dot k ∷ ss) m fs fp st origin = named_other ss k fs fp with_value (read_field c (joined_span s m.span) m d origin)
    named_other (t.args es sp ∷ ss) m fs fp st origin =
        chain_other ss fs fp with_value (call_named c st (joined_span s sp) m d (roses_of_exprs c sc d es) origin)

module _ (c : Context) (sc : Scope) (d : ℕ) (s : Span) where
  mutual
    chain_call : (ss : List t.Suffix) (n : Name) (fs : t.Exprs) (fp : Span) (origin : Rose) → rest_of c sc d s origin (ss ++ t.dot n ∷ t.args fs fp ∷ []) ≡ call c (joined_span s fp) n.text d (roses_of_exprs c sc d fs) (rest_of c sc d s origin ss)
    chain_call [] n fs fp origin = refl
    chain_call (t.dot m ∷ ss) n fs fp origin = named_call ss m n fs fp origin
    chain_call (t.args es sp ∷ ss) n fs fp origin = chain_call ss n fs fp (apply c with_value (joined_span s sp) d (roses_of_exprs c sc d es) origin)

    named_call : (ss : List t.Suffix) (m n : Name) (fs : t.Exprs) (fp : Span) (origin : Rose) → named_of c sc d s read with_value origin m (suffixes_of (ss ++ t.dot n ∷ t.args fs fp ∷ [])) ≡ call c (joined_span s fp) n.text d (roses_of_exprs c sc d fs) (named_of c sc d s read with_value origin m (suffixes_of ss))
    named_call [] m n fs fp origin = refl
    named_call (t.dot k ∷ ss) m n fs fp origin = named_call ss k n fs fp (read_field c (joined_span s m.span) m d origin)
    named_call (t.args es sp ∷ ss) m n fs fp origin = chain_call ss n fs fp (call_named c with_value (joined_span s sp) m d (roses_of_exprs c sc d es) origin)

  mutual
    chain_apply : (ss : List t.Suffix) (gs : t.Exprs) (gp : Span) (fs : t.Exprs) (fp : Span) (origin : Rose) → rest_of c sc d s origin (ss ++ t.args gs gp ∷ t.args fs fp ∷ []) ≡ call c (joined_span s fp) apply_name d (roses_of_exprs c sc d fs) (rest_of c sc d s origin (ss ++ t.args gs gp ∷ []))
    chain_apply [] gs gp fs fp origin = refl
    chain_apply (t.dot m ∷ ss) gs gp fs fp origin = named_apply ss m gs gp fs fp origin
    chain_apply (t.args es sp ∷ ss) gs gp fs fp origin =
        chain_apply ss gs gp fs fp (apply c with_value (joined_span s sp) d (roses_of_exprs c sc d es) origin)

    named_apply : (ss : List t.Suffix) (m : Name) (gs : t.Exprs) (gp : Span) (fs : t.Exprs) (fp : Span) (origin : Rose) → named_of c sc d s read with_value origin m (suffixes_of (ss ++ t.args gs gp ∷ t.args fs fp ∷ [])) ≡ call c (joined_span s fp) apply_name d (roses_of_exprs c sc d fs) (named_of c sc d s read with_value origin m (suffixes_of (ss ++ t.args gs gp ∷ [])))
    named_apply [] m gs gp fs fp origin = refl
    named_apply (t.dot k ∷ ss) m gs gp fs fp origin = named_apply ss k gs gp fs fp (read_field c (joined_span s m.span) m d origin)
    named_apply (t.args es sp ∷ ss) m gs gp fs fp origin =
        chain_apply ss gs gp fs fp (call_named c with_value (joined_span s sp) m d (roses_of_exprs c sc d es) origin)

two_more : (xs : List t.Suffix) (x y : t.Suffix) → (xs ++ x ∷ []) ++ y ∷ [] ≡ xs ++ x ∷ y ∷ []
two_more [] x y = refl
two_more (z ∷ xs) x y = ap (λ l. z ∷ l) (two_more xs x y)

pub cut_dot : (c : Context) (ss : List t.Suffix) (left : ℕ) (n : Name) → 0 < left → slice_get ss (left - 1) ≡ Some (t.dot n) → IsCut c ss left (number_of_text c n.text) (left - 1)
cut_dot c ss left n l h = λ sc d s origin x is.
    let same : t.dot n ≡ x = same_Some _ _ (sym h ∙ is) in
    ap (λ l. rest_of c sc d s origin l) (take_last ss left (t.dot n) l h) ∙ chain_field c sc d s read (take (left - 1) ss) n with_value origin ∙ ap (λ y. link_of c sc d s (number_of_text c n.text) y (rest_of c sc d s origin (take (left - 1) ss))) same

pub cut_args : (c : Context) (ss : List t.Suffix) (left : ℕ) (es : t.Exprs) (sp : Span) (n before : ℕ) → 0 < left → slice_get ss (left - 1) ≡ Some (t.args es sp) → IsBefore c ss (left - 1) n before → IsCut c ss left n before
cut_args c ss left es sp n before l h b = λ sc d s origin x is.
    let same : t.args es sp ≡ x = same_Some _ _ (sym h ∙ is) in
    ap (λ l. rest_of c sc d s origin l) (take_last ss left (t.args es sp) l h) ∙ b sc d s origin es sp ∙ ap (λ y. link_of c sc d s n y (rest_of c sc d s origin (take before ss))) same

pub before_none : (c : Context) (ss : List t.Suffix) → IsBefore c ss 0 (number_of_text c apply_name) 0
before_none c ss = λ sc d s origin es sp. refl

pub before_dot : (c : Context) (ss : List t.Suffix) (left : ℕ) (n : Name) → 0 < left → slice_get ss (left - 1) ≡ Some (t.dot n) → IsBefore c ss left (number_of_text c n.text) (left - 1)
before_dot c ss left n l h = λ sc d s origin es sp.
    ap (λ l. rest_of c sc d s origin (l ++ t.args es sp ∷ [])) (take_last ss left (t.dot n) l h) ∙ ap (λ l. rest_of c sc d s origin l) (two_more (take (left - 1) ss) (t.dot n) (t.args es sp)) ∙ chain_call c sc d s (take (left - 1) ss) n es sp origin

pub before_args : (c : Context) (ss : List t.Suffix) (left : ℕ) (gs : t.Exprs) (gp : Span) → 0 < left → slice_get ss (left - 1) ≡ Some (t.args gs gp) → IsBefore c ss left (number_of_text c apply_name) left
before_args c ss left gs gp l h = λ sc d s origin es sp.
    let e = take_last ss left (t.args gs gp) l h in
    ap (λ l. rest_of c sc d s origin (l ++ t.args es sp ∷ [])) e ∙ ap (λ l. rest_of c sc d s origin l) (two_more (take (left - 1) ss) (t.args gs gp) (t.args es sp)) ∙ chain_apply c sc d s (take (left - 1) ss) gs gp es sp origin ∙ ap (λ l. call c (joined_span s sp) apply_name d (roses_of_exprs c sc d es) (rest_of c sc d s origin l)) (sym e)

-- ---- what an atom reads

pub reads_local : (c : Context) (sc : Scope) (n : Name) (x : ℕ) → resolve c sc n.text ≡ local x → ReadsAtom c sc (t.name n) (atoms.Reads (reads.Local x))
reads_local c sc n x h = λ d. ap (read_name c n d) h

pub reads_field : (c : Context) (sc : Scope) (n : Name) (x : ℕ) → resolve c sc n.text ≡ field → x ≡ number_of_text c n.text → ReadsAtom c sc (t.name n) (atoms.Reads (reads.Field x))
reads_field c sc n x h e = λ d. ap (read_name c n d) h ∙ ap (λ k. reading_rose (reads.Field k) n.span d) (sym e)

pub reads_primitive : (c : Context) (sc : Scope) (n : Name) (e : ℕ) → type_meaning c n.text ≡ primitive e → ReadsAtom c sc (t.type_name n) (atoms.Reads (reads.Primitive e))
reads_primitive c sc n e h = λ d. ap (read_type n d) h

-- ---- how a chain starts

pub begins_with_nothing : (c : Context) (ss : List t.Suffix) → BeginsChain c (with_type no_value) ss begins.Value
begins_with_nothing c [] = λ sc d s u origin. refl
begins_with_nothing c (t.args es sp ∷ ss) = λ sc d s u origin. refl
begins_with_nothing c (t.dot n ∷ []) = λ sc d s u origin. refl
begins_with_nothing c (t.dot n ∷ t.dot m ∷ ss) = λ sc d s u origin. refl
begins_with_nothing c (t.dot n ∷ t.args es sp ∷ ss) = λ sc d s u origin. refl

pub begins_on_this : (c : Context) (n : Name) (ss : List t.Suffix) → is_args (slice_get ss 0) ≡ true → BeginsChain c (with_method n) ss (begins.With (first.OnThis (number_of_text c n.text) n.span) 0)
begins_on_this c n [] h = absurd (false≢true h)
begins_on_this c n (t.dot m ∷ ss) h = absurd (false≢true h)
begins_on_this c n (t.args es sp ∷ ss) h = λ sc d s u origin. refl

pub begins_with_method : (c : Context) (n : Name) (ss : List t.Suffix) → is_args (slice_get ss 0) ≡ false → BeginsChain c (with_method n) ss begins.Value
begins_with_method c n [] h = λ sc d s u origin. refl
begins_with_method c n (t.args es sp ∷ ss) h = absurd (true≢false h)
begins_with_method c n (t.dot m ∷ []) h = λ sc d s u origin. refl
begins_with_method c n (t.dot m ∷ t.dot k ∷ ss) h = λ sc d s u origin. refl
begins_with_method c n (t.dot m ∷ t.args es sp ∷ ss) h = λ sc d s u origin. refl

pub begins_with_empty : (c : Context) (e : ℕ) (ss : List t.Suffix) → is_empty_args (slice_get ss 0) ≡ true → BeginsChain c (with_type (primitive e)) ss (begins.With (first.Made (node.Prim e)) 0)
begins_with_empty c e [] h = absurd (false≢true h)
begins_with_empty c e (t.dot m ∷ ss) h = absurd (false≢true h)
begins_with_empty c e (t.args t.no_exprs sp ∷ ss) h = λ sc d s u origin. refl
begins_with_empty c e (t.args (t.expr x xs) sp ∷ ss) h = absurd (false≢true h)

pub begins_with_primitive : (c : Context) (e : ℕ) (ss : List t.Suffix) → is_empty_args (slice_get ss 0) ≡ false → BeginsChain c (with_type (primitive e)) ss begins.Value
begins_with_primitive c e [] h = λ sc d s u origin. refl
begins_with_primitive c e (t.args t.no_exprs sp ∷ ss) h = absurd (true≢false h)
begins_with_primitive c e (t.args (t.expr x xs) sp ∷ ss) h = λ sc d s u origin. refl
begins_with_primitive c e (t.dot m ∷ []) h = λ sc d s u origin. refl
begins_with_primitive c e (t.dot m ∷ t.dot k ∷ ss) h = λ sc d s u origin. refl
begins_with_primitive c e (t.dot m ∷ t.args es sp ∷ ss) h = λ sc d s u origin. refl

-- A chain continues after a new object.
object_begins : (c : Context) (a : Bool) (o : Option ℕ) (es : t.Exprs) (sp : Span) (ss : List t.Suffix) (sc : Scope) (d : ℕ) (s : Span) (u : Use) (origin : Rose)
    → chain_of c sc d s u with_value (new_object_rose a (joined_span s sp) d (roses_of_exprs c sc d es) o) (suffixes_of ss) ≡ chain_of c sc d s u with_value (begun c sc d s (object a o 0) (t.args es sp ∷ ss) origin) (suffixes_of (drop (taken (object a o 0)) (t.args es sp ∷ ss)))
object_begins c true (Some m) es sp ss sc d s u origin = refl
object_begins c true None es sp ss sc d s u origin = refl
object_begins c false (Some m) es sp ss sc d s u origin = refl
object_begins c false None es sp ss sc d s u origin = refl

named_begins : (c : Context) (a : Bool) (o : Option ℕ) (n : Name) (es : t.Exprs) (sp : Span) (ss : List t.Suffix) (sc : Scope) (d : ℕ) (s : Span) (u : Use) (origin : Rose)
    → chain_of c sc d s u with_value (new_object_rose a (joined_span s sp) d (roses_of_exprs c sc d es) o) (suffixes_of ss) ≡ chain_of c sc d s u with_value (begun c sc d s (object a o 1) (t.dot n ∷ t.args es sp ∷ ss) origin) (suffixes_of (drop (taken (object a o 1)) (t.dot n ∷ t.args es sp ∷ ss)))
named_begins c true (Some m) n es sp ss sc d s u origin = refl
named_begins c true None n es sp ss sc d s u origin = refl
named_begins c false (Some m) n es sp ss sc d s u origin = refl
named_begins c false None n es sp ss sc d s u origin = refl

begins_created : (c : Context) (a : Bool) (o : Option ℕ) (cs : List Constructor) (es : t.Exprs) (sp : Span) (ss : List t.Suffix) → constructor_named cs create_name ≡ o
    → BeginsChain c (with_type (created a cs)) (t.args es sp ∷ ss) (object a o 0)
begins_created c a o cs es sp ss h = λ sc d s u origin.
    ap (λ p. chain_of c sc d s u with_value (new_object_rose a (joined_span s sp) d (roses_of_exprs c sc d es) p) (suffixes_of ss)) h ∙ object_begins c a o es sp ss sc d s u origin

begins_named : (c : Context) (a : Bool) (o : Option ℕ) (cs : List Constructor) (n : Name) (es : t.Exprs) (sp : Span) (ss : List t.Suffix) → constructor_named cs n.text ≡ o
    → BeginsChain c (with_type (created a cs)) (t.dot n ∷ t.args es sp ∷ ss) (object a o 1)
begins_named c a o cs n es sp ss h = λ sc d s u origin.
    ap (λ p. chain_of c sc d s u with_value (new_object_rose a (joined_span s sp) d (roses_of_exprs c sc d es) p) (suffixes_of ss)) h ∙ named_begins c a o n es sp ss sc d s u origin

pub begins_with_create : (c : Context) (a : Bool) (cs : List Constructor) (ss : List t.Suffix) → is_args (slice_get ss 0) ≡ true → BeginsChain c (with_type (created a cs)) ss (object a (constructor_named cs create_name) 0)
begins_with_create c a cs [] h = absurd (false≢true h)
begins_with_create c a cs (t.dot m ∷ ss) h = absurd (false≢true h)
begins_with_create c a cs (t.args es sp ∷ ss) h = begins_created c a (constructor_named cs create_name) cs es sp ss refl

pub begins_with_named : (c : Context) (a : Bool) (cs : List Constructor) (n : Name) (ss : List t.Suffix) → slice_get ss 0 ≡ Some (t.dot n) → is_args (slice_get ss 1) ≡ true → BeginsChain c (with_type (created a cs)) ss (object a (constructor_named cs n.text) 1)
begins_with_named c a cs n [] h g = absurd (false≢true g)
begins_with_named c a cs n (x ∷ []) h g = absurd (false≢true g)
begins_with_named c a cs n (x ∷ t.dot m ∷ ss) h g = absurd (false≢true g)
begins_with_named c a cs n (x ∷ t.args es sp ∷ ss) h g = subst (λ y. BeginsChain c (with_type (created a cs)) (y ∷ t.args es sp ∷ ss) (object a (constructor_named cs n.text) 1)) (sym (same_Some _ _ h)) (begins_named c a (constructor_named cs n.text) cs n es sp ss refl)

pub begins_with_object : (c : Context) (a : Bool) (cs : List Constructor) (n : Name) (ss : List t.Suffix) → slice_get ss 0 ≡ Some (t.dot n) → is_args (slice_get ss 1) ≡ false → BeginsChain c (with_type (created a cs)) ss begins.Value
begins_with_object c a cs n [] h g = λ sc d s u origin. refl
begins_with_object c a cs n (t.args es sp ∷ ss) h g = absurd (true≢false (ap is_args h))
begins_with_object c a cs n (t.dot m ∷ []) h g = λ sc d s u origin. refl
begins_with_object c a cs n (t.dot m ∷ t.dot k ∷ ss) h g = λ sc d s u origin. refl
begins_with_object c a cs n (t.dot m ∷ t.args es sp ∷ ss) h g = absurd (true≢false g)

pub begins_behind_name : (c : Context) (a : Bool) (cs : List Constructor) (n : Name) (ss : List t.Suffix) → slice_get ss 0 ≡ Some (t.dot n)
    → BeginsChain c (with_type (created a cs)) ss (if is_args (slice_get ss 1) then object a (constructor_named cs n.text) 1 else begins.Value)
begins_behind_name c a cs n ss h = by (is_args (slice_get ss 1)) refl
  where
    by : (b : Bool) → is_args (slice_get ss 1) ≡ b → BeginsChain c (with_type (created a cs)) ss (if b then object a (constructor_named cs n.text) 1 else begins.Value)
    by true g = begins_with_named c a cs n ss h g
    by false g = begins_with_object c a cs n ss h g

-- A test of what is at a place.
pub tested_some : (f : Option t.Suffix → Bool) (xs : List Suffix) (i : ℕ) (x : Suffix) → slice_get xs i ≡ Some x → f (Some (suffix_view x)) ≡ f (slice_get (map suffix_view xs) i)
tested_some f xs i x h = ap f (sym (slice_get-map suffix_view xs i ∙ ap (option_map suffix_view) h))

pub tested_none : (f : Option t.Suffix → Bool) (xs : List Suffix) (i : ℕ) → slice_get xs i ≡ None → f None ≡ f (slice_get (map suffix_view xs) i)
tested_none f xs i h = ap f (sym (slice_get-map suffix_view xs i ∙ ap (option_map suffix_view) h))

pub past_none : (xs : List Suffix) (i : ℕ) → length xs ≤ i → slice_get xs i ≡ None
past_none [] i h = refl
past_none (x ∷ xs) zero h = absurd (omega (arith, h))
past_none (x ∷ xs) (suc i) h = past_none xs i (omega (arith, h))

-- If the first suffix passes the test, there is one.
pub one_taken : (f : Option t.Suffix → Bool) (xs : List Suffix) → f None ≡ false → f (slice_get (map suffix_view xs) 0) ≡ true → 1 ≤ length xs
one_taken f [] n h = absurd (false≢true (sym n ∙ h))
one_taken f (x ∷ xs) n h = omega arith

pub object_takes : (a : Bool) (o : Option ℕ) (at : ℕ) → taken (object a o at) ≡ at + 1
object_takes a (Some m) at = refl
object_takes a None at = refl

pub two_taken : (a : Bool) (o : Option ℕ) (xs : List Suffix) → taken (if is_args (slice_get (map suffix_view xs) 1) then object a o 1 else begins.Value) ≤ length xs
two_taken a o [] = omega arith
two_taken a o (x ∷ []) = omega arith
two_taken a o (x ∷ y ∷ xs) = by (is_args (Some (suffix_view y)))
  where
    by : (b : Bool) → taken (if b then object a o 1 else begins.Value) ≤ length (x ∷ y ∷ xs)
    by true = rw (object_takes a o 1) (omega arith)
    by false = omega arith

all_but : (ss : List t.Suffix) (n : ℕ) (x : t.Suffix) → n ≡ length ss → 0 < n → slice_get ss (n - 1) ≡ Some x → ss ≡ take (n - 1) ss ++ x ∷ []
all_but ss n x e l h = sym (take_whole ss) ∙ ap (λ k. take k ss) (sym e) ∙ take_last ss n x l h

pub split_none : (c : Context) (ss : List t.Suffix) → length ss ≡ 0 → IsSplit c ss None 0
split_none c [] h = λ sc d s whole v origin. refl
split_none c (x ∷ ss) h = absurd (omega (arith, h))

pub split_dot : (c : Context) (ss : List t.Suffix) (n : ℕ) (x : Name) → n ≡ length ss → 0 < n → slice_get ss (n - 1) ≡ Some (t.dot x) → IsSplit c ss (Some (number_of_text c x.text)) (n - 1)
split_dot c ss n x e l h = λ sc d s whole v origin.
    ap (λ z. chain_of c sc d whole (write s v) with_value origin (suffixes_of z)) (all_but ss n (t.dot x) e l h) ∙ chain_field c sc d whole (write s v) (take (n - 1) ss) x with_value origin

pub split_args : (c : Context) (ss : List t.Suffix) (n : ℕ) (es : t.Exprs) (sp : Span) → n ≡ length ss → 0 < n → slice_get ss (n - 1) ≡ Some (t.args es sp) → IsSplit c ss None n
split_args c ss n es sp e l h = λ sc d s whole v origin.
    let cut : ss ≡ take (n - 1) ss ++ t.args es sp ∷ [] = all_but ss n (t.args es sp) e l h in
    let same : take n ss ≡ take (n - 1) ss ++ t.args es sp ∷ [] = take_last ss n (t.args es sp) l h in
    ap (λ z. chain_of c sc d whole (write s v) with_value origin (suffixes_of z)) cut ∙ chain_other c sc d whole (write s v) (take (n - 1) ss) es sp with_value origin
    ∙ ap (λ z. written_end d s None v (rest_of c sc d whole origin z)) (sym same)

pub first_view : (xs : List Suffix) (x : Suffix) (y : t.Suffix) → slice_get xs 0 ≡ Some x → suffix_view x ≡ y → slice_get (map suffix_view xs) 0 ≡ Some y
first_view [] x y h v = absurd (none-some x h)
first_view (z ∷ xs) x y h v = ap (λ w. Some w) (ap suffix_view (same_Some _ _ h) ∙ v)

pub empty_args : (xs : List Expr) (s : Span) (b : Bool) → (IsTrue b ↔ (length xs ≡ 0)) → b ≡ is_empty_args (Some (t.args (exprs_view xs) s))
empty_args [] s true h = refl
empty_args [] s false h = absurd (false≢true (h.1 refl))
empty_args (x ∷ xs) s false h = refl
empty_args (x ∷ xs) s true h = let e : length (x ∷ xs) ≡ 0 = h.0 refl in absurd (omega (arith, e))

-- A chain whose nodes are pending on its beginning.
pub chain_opens : (c : Context) (sc sc2 : Scope) (d : ℕ) (e h : Expr) (b : Box Expr Global) (ss xs : List Suffix) (s : Span) (beg : Beginning) (first count : ℕ) (rest : List Suffix)
    → e ≡ exprs.Chain b ss s → h ≡ b.value → xs ≡ ss → sc2 ≡ sc → BeginsChain c (chain_start c sc2 (expr_view h)) (map suffix_view xs) beg → first ≡ taken beg → rest ≡ drop first xs → count ≡ length rest
    → only is_chain c sc d (expr_view e) ≡ rest_of c sc d s (begun c sc d s beg (map suffix_view xs) (expr_of c sc d (expr_view h))) (map suffix_view (take count (drop (taken beg) xs)))
chain_opens c sc sc2 d e h b ss xs s beg first count rest is eh ex es begins f er ec =
    let behind : rest ≡ drop (taken beg) xs = er ∙ ap (λ n. drop n xs) f in
    let all : map suffix_view (take count (drop (taken beg) xs)) ≡ drop (taken beg) (map suffix_view xs) = ap (λ r. map suffix_view (take count r)) (sym behind) ∙ ap (λ n. map suffix_view (take n rest)) ec ∙ ap (map suffix_view) (take_whole rest ∙ behind) ∙ map_drop suffix_view (taken beg) xs in
    rw (is, view_chain b ss s, ← eh, ← ex, all) (ap (λ z. chain_of c sc d s read (chain_start c z (expr_view h)) (expr_of c sc d (expr_view h)) (suffixes_of (map suffix_view xs))) (sym es) ∙ begins sc d s read (expr_of c sc d (expr_view h)))

-- The same if a value is assigned to its end.
pub write_opens : (c : Context) (sc sc2 : Scope) (d : ℕ) (e h : Expr) (b : Box Expr Global) (ss xs : List Suffix) (s place : Span) (v : Rose) (beg : Beginning) (first count : ℕ) (into : Option ℕ) (rest : List Suffix)
    → e ≡ exprs.Chain b ss s → h ≡ b.value → xs ≡ ss → sc2 ≡ sc → BeginsChain c (chain_start c sc2 (expr_view h)) (map suffix_view xs) beg → first ≡ taken beg → rest ≡ drop first xs → IsSplit c (map suffix_view rest) into count
    → assign_of c sc d place v (expr_of c sc d (expr_view e)) (expr_view e) ≡ written_end d place into v (rest_of c sc d s (begun c sc d s beg (map suffix_view xs) (expr_of c sc d (expr_view h))) (map suffix_view (take count (drop (taken beg) xs))))
write_opens c sc sc2 d e h b ss xs s place v beg first count into rest is eh ex es begins f er split =
    let o : Rose = begun c sc d s beg (map suffix_view xs) (expr_of c sc d (expr_view h)) in
    let behind : rest ≡ drop (taken beg) xs = er ∙ ap (λ n. drop n xs) f in
    let all : drop (taken beg) (map suffix_view xs) ≡ map suffix_view rest = sym (map_drop suffix_view (taken beg) xs) ∙ ap (map suffix_view) (sym behind) in
    let some : take count (map suffix_view rest) ≡ map suffix_view (take count (drop (taken beg) xs)) = sym (map_take suffix_view count rest) ∙ ap (λ r. map suffix_view (take count r)) behind in
    let whole : assign_of c sc d place v (expr_of c sc d (expr_view e)) (expr_view e) ≡ chain_of c sc d s (write place v) (chain_start c sc (expr_view h)) (expr_of c sc d (expr_view h)) (suffixes_of (map suffix_view xs)) = rw (is, view_chain b ss s, ← eh, ← ex) refl in
    whole ∙ ap (λ z. chain_of c sc d s (write place v) (chain_start c z (expr_view h)) (expr_of c sc d (expr_view h)) (suffixes_of (map suffix_view xs))) (sym es) ∙ begins sc d s (write place v) (expr_of c sc d (expr_view h)) ∙ ap (λ z. chain_of c sc d s (write place v) with_value o (suffixes_of z)) all ∙ split sc d place s v o ∙ ap (λ z. written_end d place into v (rest_of c sc d s o z)) some

pub begun_first : (c : Context) (sc : Scope) (d : ℕ) (s : Span) (beg : Beginning) (f : First) (at : ℕ) (xs : List Suffix) (x : Suffix) (o : Rose)
    → beg ≡ begins.With f at → taken beg ≤ length xs → x ≡ slice_index_or xs at x → begun c sc d s beg (map suffix_view xs) o ≡ first_of c sc d s f (suffix_view x)
begun_first c sc d s beg f at xs x o is w e =
    let there : at + 1 ≤ length xs = subst (λ b. taken b ≤ length xs) is w in
    let l : at < length xs = omega (arith, there) in
    rw (is, at_view suffix_view xs at x (suffix_view x) l e refl) refl

pub begun_value : (c : Context) (sc : Scope) (d : ℕ) (s : Span) (beg : Beginning) (xs : List t.Suffix) (o : Rose) → beg ≡ begins.Value → begun c sc d s beg xs o ≡ o
begun_value c sc d s beg xs o is = rw is refl

at_behind : (xs rest : List Suffix) (f left : ℕ) (x : Suffix) → rest ≡ drop f xs → 0 < left → f + left ≤ length xs → x ≡ slice_index_or xs (f + left - 1) x → slice_get (map suffix_view rest) (left - 1) ≡ Some (suffix_view x)
at_behind xs rest f left x er l w is =
    let at : f + (left - 1) ≡ f + left - 1 = omega (arith, l) in
    let there : f + left - 1 < length xs = omega (arith, l, w) in
    ap (λ r. slice_get (map suffix_view r) (left - 1)) er ∙ slice_get-map suffix_view (drop f xs) (left - 1) ∙ ap (option_map suffix_view) (get_drop xs f (left - 1) ∙ ap (slice_get xs) at ∙ slice_get_read xs _ (f + left - 1) x refl there is)

pub cut_behind : (c : Context) (sc : Scope) (d : ℕ) (s : Span) (origin : Rose) (xs rest : List Suffix) (f left n before : ℕ) (x : Suffix)
    → rest ≡ drop f xs → 0 < left → f + left ≤ length xs → x ≡ slice_index_or xs (f + left - 1) x → IsCut c (map suffix_view rest) left n before
    → rest_of c sc d s origin (map suffix_view (take left (drop f xs))) ≡ link_of c sc d s n (suffix_view x) (rest_of c sc d s origin (map suffix_view (take before (drop f xs))))
cut_behind c sc d s origin xs rest f left n before x er l w is cut =
    let here : (k : ℕ) → map suffix_view (take k (drop f xs)) ≡ take k (map suffix_view rest) = λ k. ap (λ r. map suffix_view (take k r)) (sym er) ∙ map_take suffix_view k rest in
    ap (λ z. rest_of c sc d s origin z) (here left) ∙ cut sc d s origin (suffix_view x) (at_behind xs rest f left x er l w is) ∙ ap (λ z. link_of c sc d s n (suffix_view x) (rest_of c sc d s origin z)) (sym (here before))
