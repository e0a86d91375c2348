-- Items and sequences are explained if what is inside is.
use Rattle.std.proofs.Common.{◌≡◌, ℕ, zero, suc, ◌-◌, Bool, true, false, ◌&&◌, List, [], ◌∷◌, ◌++◌, length, Option, Some, None, Ok, Err, refl, sym, ap, ◌∙◌, subst, arith, cond, append_assoc, ◌⊎◌, inl, inr}
use Rattle.pc_tree.specs.{declared.written_names.Name.Name, declared.written_names.TypeRef.TypeRef, Depths.{item_depth, items_depth}, Parts.items_of}
use Rattle.pc_tree.specs.Tree as t
use Rattle.pc_token.specs.{declared.kinds.Token.Token, Words.{is_sign, is_word}}
use Rattle.pc_token.specs.declared.kinds.TokenKind.TheVariants as k
use Rattle.pc_token.specs.declared.words.Word.TheVariants as w
use Rattle.pc_token.specs.declared.signs.Sign.TheVariants as s
use Rattle.pc_grammar.specs.{Spells.{local_word, no_span, span_from_to, over, IsNext, Spells, SpellsTyped, SpellsItems, SpellsMoreItems}, Reading.{ReadingFault, unexpected, too_deep, ReadingOutcome, Parser, Inner, pure, ◌>>=◌, ◌>>◌, peek, take_if, next_item, begins_item, name, maybe_type, local, item, expr_in, seq_in, seq_with, seq_of, first_item, last_item, inner}}
use Rattle.pc_grammar.proofs.{First.{First, Item, first_item as item_first}, Lists.items_list, Spans.{over_local, items_span}, Explained.{Fits, fits_zero, fits_max, shown, Explained, Then, Tok, Only, Listed, Inhabited, some_only, some_then, explained_bind, explained_weaker, explained_only, explained_refuse, explained_take, explained_all}, ExplainedParts.{explained_cons, opened, ends_nil, joined, begins_one, of_kind, a_sign, some_sign, a_name, ExprIn, ItemIn, SeqIn, NameAt, some_expr, some_item, explained_name, explained_typed}, ExplainedExprs.{ExplainedInner, InnerAt, explained_term, explained_expr}}
use Rattle.pc_base.proofs.Bools.{first_true}

abbrev first_name : Token
first_name = record { kind = k.Name []; first = true; span = no_span }

next_cases : (x : Token) (ts begin : List Token) (a b : Bool) → is_sign s.Semicolon x ≡ a → (x.first && begins_item x) ≡ b → ◌≡◌ {A = Option (List Token)} (cond a (Some ts) (cond b (Some (x ∷ ts)) None)) (Some begin)
    → ((is_sign s.Semicolon x ≡ true) × (ts ≡ begin)) ⊎ ((x.first && begins_item x ≡ true) × (x ∷ ts ≡ begin))
next_cases x ts begin true b e f h = inl (e, cc)
next_cases x ts begin false true e f h = inr (f, cc)
next_cases x ts begin false false e f h = absurd (cc)

same_first : (x : Token) (a : List Token) (rest ts : List Token) → x.first ≡ true → x ∷ ts ≡ a ++ rest → First Item a → IsNext [] a
same_first x [] rest ts h cut f = absurd (omega (arith, ap length f.2))
same_first x (y ∷ a) rest ts h cut f = let e : x ≡ y = cc in subst (λ z. z.first ≡ true) e h

module _ (u : Bool) (n : ℕ) where
  abbrev MoreItem : t.Item → List Token → Type 0
  MoreItem i ts = (m a : List Token) × (ts ≡ m ++ a) × IsNext m a × ItemIn u n i a

  listed_items : (is : List t.Item) (ts : List Token) → Listed MoreItem is ts → SpellsMoreItems (items_of is) ts × Fits u n (items_depth (items_of is))
  listed_items [] ts h = (h, fits_zero u n)
  listed_items (i ∷ is) ts h =
      let x = h.3 in
      let g = listed_items is h.1 h.4 in
      ((x.0, x.1, h.1, h.2 ∙ ap (λ l. l ++ h.1) x.2 ∙ append_assoc x.0 x.1 h.1, x.3, x.4.0, g.0), fits_max u n (item_depth i) (items_depth (items_of is)) x.4.1 g.1)

  some_more_item : MoreItem (t.plain (t.name a_name)) (first_name ∷ [])
  some_more_item = ([], first_name ∷ [], refl, refl, ((first_name, refl, (refl, refl)), fits_zero u n))

  stay_by : (x : Token) (ts : List Token) → x.first ≡ true → (f : ReadingFault) (b : Bool) → u ≡ b → (rest pre more : List Token) (v : t.Item) → x ∷ ts ≡ pre ++ rest → ItemIn u n v (pre ++ (shown f b rest ++ more))
      → (pre more : List Token) × (v : t.Item) × (x ∷ ts ≡ pre ++ rest) × MoreItem v (pre ++ (shown f b rest ++ more))
  stay_by x ts first f b is rest (y ∷ pre) more v cut m = let e : x ≡ y = cc in ((y ∷ pre), more, v, cut, ([], (y ∷ pre) ++ (shown f b rest ++ more), refl, subst (λ z. z.first ≡ true) e first, m))
  stay_by x ts first unexpected b is rest [] more v cut m = ([], first_name ∷ [], t.plain (t.name a_name), cut, some_more_item)
  stay_by x ts first too_deep true is rest [] more v cut m = ([], first_name ∷ [], t.plain (t.name a_name), cut, some_more_item)
  stay_by x ts first too_deep false is [] [] more v cut m = absurd (omega (arith, ap length cut))
  stay_by x ts first too_deep false is (y ∷ rest) [] more v cut m = let e : x ≡ y = cc in ([], more, v, cut, ([], y ∷ more, refl, subst (λ z. z.first ≡ true) e first, m))

  stay : (x : Token) (ts : List Token) → x.first ≡ true → (o : ReadingOutcome t.Item) → Explained u (ItemIn u n) (x ∷ ts) o → Explained u MoreItem (x ∷ ts) o
  stay x ts f (Ok r) h = (h.0, h.1, ([], h.0, refl, same_first x h.0 r.1 ts f h.1 (item_first r.0 h.0 h.2.0), h.2))
  stay x ts f (Err e) h = let r = stay_by x ts f e.0 u refl e.1 h.0 h.1 h.2 h.3 h.4 in (r.0, r.1, r.2, r.3, r.4, h.5)

  module _ (p : Parser t.Expr) (hp : (ts : List Token) → Explained u (ExprIn u n) ts (p ts)) where
    -- ---- locals

    abbrev Valued : t.Expr → List Token → Type 0
    Valued = Then (Tok (is_sign s.Assign)) (λ _. ExprIn u n)

    some_valued : Inhabited Valued
    some_valued = some_then (Tok (is_sign s.Assign)) (λ _. ExprIn u n) (some_sign s.Assign) (λ _. some_expr u n)

    explained_valued : (ts : List Token) → Explained u Valued ts ((take_if (is_sign s.Assign) >> p) ts)
    explained_valued ts = explained_bind (Tok (is_sign s.Assign)) (λ _. ExprIn u n) u ts (λ _. p) (take_if (is_sign s.Assign) ts) (explained_take u (is_sign s.Assign) (of_kind (k.Sign s.Assign)) (a_sign s.Assign) ts) (λ y r e. hp r) (λ _. some_expr u n)

    abbrev LocalEnd : Bool → Token → Name → Option TypeRef → t.Item → List Token → Type 0
    LocalEnd f x m ty = Then Valued (λ v. Only (t.local f m ty v (span_from_to x.span (t.span_of v))))

    abbrev LocalTyped : Bool → Token → Name → t.Item → List Token → Type 0
    LocalTyped f x m = Then SpellsTyped (LocalEnd f x m)

    local_at : (f : Bool) (x : Token) → is_word (local_word f) x ≡ true → (v : t.Item) (a : List Token) → Then NameAt (LocalTyped f x) v a → ItemIn u n v (x ∷ a)
    local_at f x is v a h =
        let y = h.4.0 in
        let g = h.5 in
        let e = g.5 in
        let z = e.4 in
        let tail : e.1 ≡ z.0 ∷ z.2 = begins_one z.0 e.1 z.1 z.2 z.2 z.3 z.4.0 refl in
        let rest : h.2 ≡ g.1 ++ z.0 ∷ z.2 = joined h.2 g.1 g.2 (z.0 ∷ z.2) g.3 (ends_nil g.2 e.1 e.2 e.3 e.5.0 ∙ tail) in
        let cut : x ∷ a ≡ x ∷ y ∷ (g.1 ++ z.0 ∷ z.2) = ap (λ l. x ∷ l) (begins_one y a h.1 h.2 (g.1 ++ z.0 ∷ z.2) h.3 h.4.1 rest) in
        subst (λ v. ItemIn u n v (x ∷ a)) (sym e.5.1) ((x, y, z.0, g.1, z.2, cut, is, h.4.2, g.4, z.4.1, z.5.0, sym (ap over cut ∙ over_local x y z.0 e.0 g.1 z.2 z.5.0)), z.5.1)

    some_local_end : (f : Bool) (x : Token) (m : Name) (ty : Option TypeRef) → Inhabited (LocalEnd f x m ty)
    some_local_end f x m ty = some_then Valued (λ v. Only (t.local f m ty v (span_from_to x.span (t.span_of v)))) some_valued (λ v. some_only _)

    some_local_typed : (f : Bool) (x : Token) (m : Name) → Inhabited (LocalTyped f x m)
    some_local_typed f x m = some_then SpellsTyped (LocalEnd f x m) ([], None, refl) (some_local_end f x m)

    explained_local : (f : Bool) (x : Token) (ts : List Token) → is_word (local_word f) x ≡ true → Explained u (ItemIn u n) (x ∷ ts) (local f p (x ∷ ts))
    unfolding local
    explained_local f x ts is =
        opened u (ItemIn u n) (Then NameAt (LocalTyped f x)) (is_word (local_word f)) x ts _ is (local_at f x is)
        (explained_bind NameAt (LocalTyped f x) u ts _ (name ts) (explained_name u ts)
        (λ m r e. explained_bind SpellsTyped (LocalEnd f x m) u r _ (maybe_type r) (explained_typed u r)
        (λ ty q g. explained_bind Valued (λ v. Only (t.local f m ty v (span_from_to x.span (t.span_of v)))) u q _ _ (explained_valued q) (λ v l h. explained_only u _ l) (λ v. some_only _)) (some_local_end f x m)) (some_local_typed f x))

    -- ---- items

    plain_whole : (v : t.Item) (a : List Token) → Then (ExprIn u n) (λ e. Only (t.plain e)) v a → ItemIn u n v a
    plain_whole v a h =
        let P : List Token → Type 0 = λ l. Spells h.0 l in
        subst (λ v. ItemIn u n v a) (sym h.5.1) (subst P (sym (ends_nil a h.1 h.2 h.3 h.5.0)) h.4.0, h.4.1)

    explained_plain : (ts : List Token) → Explained u (ItemIn u n) ts ((p >>= λ v. pure (t.plain v)) ts)
    explained_plain ts =
        explained_weaker u (Then (ExprIn u n) (λ e. Only (t.plain e))) (ItemIn u n) ts _ plain_whole
        (explained_bind (ExprIn u n) (λ e. Only (t.plain e)) u ts _ (p ts) (hp ts) (λ e r f. explained_only u _ r) (λ e. some_only _))

    item_by : (x : Token) (ts : List Token) (a b : Bool) → is_word w.LetWord x ≡ a → is_word w.VarWord x ≡ b → Explained u (ItemIn u n) (x ∷ ts) (cond a (local true p) (cond b (local false p) (p >>= λ v. pure (t.plain v))) (x ∷ ts))
    item_by x ts true b e f = explained_local true x ts e
    item_by x ts false true e f = explained_local false x ts f
    item_by x ts false false e f = explained_plain (x ∷ ts)

    explained_item : (ts : List Token) → Explained u (ItemIn u n) ts (item p ts)
    unfolding item peek
    explained_item [] = explained_refuse u (ItemIn u n) [] (some_item u n)
    explained_item (x ∷ ts) = item_by x ts (is_word w.LetWord x) (is_word w.VarWord x) refl refl

    each_item : (ts begin : List Token) → next_item ts ≡ Some begin → Explained u MoreItem ts (item p begin)
    unfolding next_item
    each_item [] begin h = absurd (cc)
    each_item (x ∷ ts) begin h = elim (next_cases x ts begin (is_sign s.Semicolon x) (x.first && begins_item x) refl refl h) [
      | inl g ↦ subst (λ l. Explained u MoreItem (x ∷ ts) (item p l)) g.1 (explained_cons u MoreItem (ItemIn u n) x ts (λ v a m. (x ∷ [], a, refl, g.0, m)) (item p ts) (explained_item ts))
      | inr g ↦ subst (λ l. Explained u MoreItem (x ∷ ts) (item p l)) g.1 (stay x ts (first_true x.first (begins_item x) g.0) (item p (x ∷ ts)) (explained_item (x ∷ ts)))
    ]

    -- ---- sequences

    abbrev SeqRest : t.Item → t.Seq → List Token → Type 0
    SeqRest i = Then (Listed MoreItem) (λ is. Only (seq_of (i ∷ is)))

    seq_whole : (v : t.Seq) (a : List Token) → Then (ItemIn u n) SeqRest v a → SeqIn u n v a
    unfolding seq_of
    seq_whole v a h =
        let g = h.5 in
        let Q : t.Seq → Type 0 = λ v. SeqIn u n v a in
        let more = listed_items g.0 g.1 g.4 in
        let cut = joined a h.1 h.2 g.1 h.3 (ends_nil h.2 g.1 g.2 g.3 g.5.0) in
        let items : SpellsItems (items_of (h.0 ∷ g.0)) a = (h.1, g.1, cut, h.4.0, more.0) in
        let span = ap (λ l. span_from_to (first_item l) (last_item no_span l)) (sym (items_list (h.0 ∷ g.0)))
        ∙ items_span (items_of (h.0 ∷ g.0)) a items in
        subst Q (sym g.5.1) ((items, span), fits_max u n (item_depth h.0) (items_depth (items_of g.0)) h.4.1 more.1)

    some_seq_rest : (i : t.Item) → Inhabited (SeqRest i)
    some_seq_rest i = some_then (Listed MoreItem) (λ is. Only (seq_of (i ∷ is))) ([], [], refl) (λ is. some_only _)

    explained_seq_with : (ts : List Token) → Explained u (SeqIn u n) ts (seq_with (item p) ts)
    unfolding seq_with
    explained_seq_with ts =
        explained_weaker u (Then (ItemIn u n) SeqRest) (SeqIn u n) ts _ seq_whole
        (explained_bind (ItemIn u n) SeqRest u ts _ (item p ts) (explained_item ts)
        (λ i r e. explained_bind (Listed MoreItem) (λ is. Only (seq_of (i ∷ is))) u r _ _ (explained_all u MoreItem next_item (item p) each_item r) (λ is q f. explained_only u _ q) (λ is. some_only _)) some_seq_rest)

module _ (u : Bool) where
  pub explained_seq : (n : ℕ) (i : Inner) → ExplainedInner u n i → (ts : List Token) → Explained u (SeqIn u n) ts (seq_in n i ts)
  unfolding seq_in
  explained_seq n i hi ts = explained_seq_with u n (expr_in n i) (explained_expr u n i hi) ts

  pub explained_inner : (n : ℕ) → ExplainedInner u n (inner n)
  unfolding inner
  explained_inner zero = λ lt. absurd (omega arith)
  explained_inner (suc n) = λ lt.
      let e : n ≡ suc n - 1 = omega arith in
      let P : ℕ → Type 0 = λ m. InnerAt u m (inner (suc n)) in
      subst P e (explained_seq n (inner n) (explained_inner n), explained_expr u n (inner n) (explained_inner n), explained_term u n (inner n) (explained_inner n))
