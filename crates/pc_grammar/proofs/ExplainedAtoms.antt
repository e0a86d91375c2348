-- Atoms are explained if the sequences inside are.
use Rattle.std.proofs.Common.{◌≡◌, ℕ, ◌-◌, ◌<◌, max, Bool, true, false, List, [], ◌∷◌, ◌++◌, Option, Some, None, refl, sym, ap, ap₂, ◌∙◌, subst, cond, append_assoc}
use Rattle.pc_base.specs.declared.span.Span.{Span}
use Rattle.pc_caps.specs.declared.capability.Cap.{Cap}
use Rattle.pc_tree.specs.Tree as t
use Rattle.pc_tree.specs.{Depths.{arm_depth, arms_depth, other_depth, seq_depth}, Parts.{arms_of, arm_span, seq_span}}
use Rattle.pc_token.specs.{declared.kinds.Token.Token, declared.kinds.TokenKind.TokenKind, declared.words.Word.Word, Words.{is_sign, is_word}}
use Rattle.pc_token.specs.declared.kinds.TokenKind.TheVariants as k
use Rattle.pc_token.specs.declared.words.Word.TheVariants as w
use Rattle.pc_token.specs.declared.signs.Sign.TheVariants as s
use Rattle.pc_grammar.specs.{Spells.{span_from_to, over, SpellsCap, SpellsMoreArms}, Reading.{Parser, pure, ◌>>=◌, ◌>>◌, peek, take_if, at, name, type_name, maybe_cap, group, arm, if_, while_, recover_, other, leaf, atom, atom_at}}
use Rattle.pc_grammar.proofs.{Spans.{over_closed, over_two, over_three, over_arm, over_if}, Explained.{Fits, fits_zero, fits_max, fits_suc, fits_some, Explained, Then, Tok, Only, Listed, Inhabited, some_only, some_then, explained_bind, explained_weaker, explained_only, explained_refuse, explained_take, explained_deeper, explained_all}, ExplainedParts.{explained_cons, taken, opened, ends_nil, joined, begins_one, of_kind, word_is, sign_is, a_word, a_sign, some_word, AtomIn, ArmIn, OtherIn, SeqIn, NameAt, TypeNameAt, some_atom, some_seq, some_other, explained_name, explained_type_name, explained_cap}}

-- after a token at which the list continues
at_by : (test : Token → Bool) (x : Token) (ts begin : List Token) (b : Bool) → test x ≡ b → ◌≡◌ {A = Option (List Token)} (cond b (Some (x ∷ ts)) None) (Some begin) → (begin ≡ x ∷ ts) × (test x ≡ true)
at_by test x ts begin true e h = let f : x ∷ ts ≡ begin = cc in (sym f, e)
at_by test x ts begin false e h = absurd (cc)

pub at_is : (test : Token → Bool) (x : Token) (ts begin : List Token) → at test (x ∷ ts) ≡ Some begin → (begin ≡ x ∷ ts) × (test x ≡ true)
unfolding at
at_is test x ts begin h = at_by test x ts begin (test x) refl h

pub at_nil : (test : Token → Bool) (begin : List Token) → at test [] ≡ Some begin → ⊥
unfolding at
at_nil test begin h = cc

-- one token of a kind, then nothing
abbrev pub Closes : {B : Type 0} → (Token → Bool) → (Token → B) → B → List Token → Type 0
Closes test f = Then (Tok test) (λ y. Only (f y))

module _ (u : Bool) {B : Type 0} (test : Token → Bool) (f : Token → B) where
  pub some_close : (y : Token) → test y ≡ true → Inhabited (Closes test f)
  some_close y is = some_then (Tok test) (λ y. Only (f y)) (y ∷ [], y, (refl, is)) (λ y. some_only (f y))

  pub explained_close : (y : Token) → test y ≡ true → (ts : List Token) → Explained u (Closes test f) ts ((take_if test >>= λ y. pure (f y)) ts)
  explained_close y is ts = explained_bind (Tok test) (λ y. Only (f y)) u ts _ (take_if test ts) (explained_take u test y is ts) (λ y r e. explained_only u _ r) (λ y. some_only _)

  pub closed : (v : B) (b : List Token) → (h : Closes test f v b) → b ≡ h.0 ∷ []
  closed v b h = begins_one h.0 b h.1 h.2 [] h.3 h.4.0 h.5.0

module _ (u : Bool) (n : ℕ) (p : Parser t.Seq) (hp : 0 < n → (ts : List Token) → Explained u (SeqIn u (n - 1)) ts (p ts)) where
  abbrev Inside : t.Seq → List Token → Type 0
  Inside = SeqIn u (n - 1)

  abbrev InArm : Word → t.Arm → List Token → Type 0
  InArm = ArmIn u (n - 1)

  -- ---- groups

  abbrev GroupRest : Token → t.Expr → List Token → Type 0
  GroupRest x = Then Inside (λ b. Closes (is_sign s.CloseParen) (λ y. t.group b (span_from_to x.span y.span)))

  group_at : (x : Token) → is_sign s.OpenParen x ≡ true → Fits u n 1 → (v : t.Expr) (a : List Token) → GroupRest x v a → AtomIn u n v (x ∷ a)
  group_at x is room v a h =
      let j = h.5 in
      let f = λ (y : Token). t.group h.0 (span_from_to x.span y.span) in
      let cut : x ∷ a ≡ x ∷ (h.1 ++ j.0 ∷ []) = ap (λ l. x ∷ l) (joined a h.1 h.2 (j.0 ∷ []) h.3 (closed u (is_sign s.CloseParen) f v h.2 j)) in
      subst (λ v. AtomIn u n v (x ∷ a)) (sym j.5.1) (refl, (x, j.0, h.1, cut, is, h.4.0, j.4.1, sym (ap over cut ∙ over_closed x j.0 h.1)), fits_suc u n (seq_depth h.0) room h.4.1)

  explained_group : (x : Token) (ts : List Token) → is_sign s.OpenParen x ≡ true → Explained u (AtomIn u n) (x ∷ ts) (group n p (x ∷ ts))
  unfolding group
  explained_group x ts is =
      let M = λ (b : t.Seq). Closes (is_sign s.CloseParen) (λ y. t.group b (span_from_to x.span y.span)) in
      let some1 = λ (b : t.Seq). some_close u (is_sign s.CloseParen) (λ y. t.group b (span_from_to x.span y.span)) (of_kind (k.Sign s.CloseParen)) (a_sign s.CloseParen) in
      let some = some_then Inside M (some_seq u (n - 1)) some1 in
      explained_deeper u (AtomIn u n) n _ x ts (some_atom u n) (λ room. (some.0, some.1, group_at x is room some.1 some.0 some.2))
      (λ lt. opened u (AtomIn u n) (GroupRest x) (is_sign s.OpenParen) x ts _ is (group_at x is (fits_some u n lt))
      (explained_bind Inside M u ts _ (p ts) (hp lt ts) (λ b r e. explained_close u (is_sign s.CloseParen) (λ y. t.group b (span_from_to x.span y.span)) (of_kind (k.Sign s.CloseParen)) (a_sign s.CloseParen) r) some1))

  -- ---- a word, then a sequence

  abbrev Worded : Word → t.Seq → List Token → Type 0
  Worded word = Then (Tok (is_word word)) (λ _. Inside)

  some_worded : (word : Word) → Inhabited (Worded word)
  some_worded word = some_then (Tok (is_word word)) (λ _. Inside) (some_word word) (λ _. some_seq u (n - 1))

  explained_worded : (word : Word) → 0 < n → (ts : List Token) → Explained u (Worded word) ts ((take_if (is_word word) >> p) ts)
  explained_worded word lt ts = explained_bind (Tok (is_word word)) (λ _. Inside) u ts (λ _. p) (take_if (is_word word) ts) (explained_take u (is_word word) (of_kind (k.Word word)) (a_word word) ts) (λ y r e. hp lt r) (λ _. some_seq u (n - 1))

  -- ---- `else`

  else_at : (v : t.Other) (a : List Token) (x : Token) → is_word w.ElseWord x ≡ true → Then Inside (λ b. Only (t.other b)) v a → OtherIn u (n - 1) v (x ∷ a)
  else_at v a x is h = subst (λ v. OtherIn u (n - 1) v (x ∷ a)) (sym h.5.1) ((x, h.1, ap (λ l. x ∷ l) (ends_nil a h.1 h.2 h.3 h.5.0), is, h.4.0), h.4.1)

  other_by : 0 < n → (x : Token) (ts : List Token) (b : Bool) → is_word w.ElseWord x ≡ b → Explained u (OtherIn u (n - 1)) (x ∷ ts) (cond b (take_if (is_word w.ElseWord) >> p >>= λ b. pure (t.other b)) (pure t.no_other) (x ∷ ts))
  other_by lt x ts true e =
      rw (taken (is_word w.ElseWord) x ts e) (explained_cons u (OtherIn u (n - 1)) (Then Inside (λ b. Only (t.other b))) x ts (λ v a h. else_at v a x e h) _
      (explained_bind Inside (λ b. Only (t.other b)) u ts _ (p ts) (hp lt ts) (λ b r f. explained_only u _ r) (λ b. some_only _)))
  other_by lt x ts false e = ([], refl, (refl, fits_zero u (n - 1)))

  explained_other : 0 < n → (ts : List Token) → Explained u (OtherIn u (n - 1)) ts (other p ts)
  unfolding other peek
  explained_other lt [] = explained_refuse u (OtherIn u (n - 1)) [] (some_other u (n - 1))
  explained_other lt (x ∷ ts) = other_by lt x ts (is_word w.ElseWord x) refl

  -- ---- the arms of an `if`

  abbrev ArmEnd : Token → t.Seq → t.Arm → List Token → Type 0
  ArmEnd x c = Then (Worded w.ThenWord) (λ b. Only (t.arm_of c b (span_from_to x.span (seq_span b))))

  abbrev ArmRest : Token → t.Arm → List Token → Type 0
  ArmRest x = Then Inside (ArmEnd x)

  arm_at : (word : Word) (x : Token) → is_word word x ≡ true → (v : t.Arm) (a : List Token) → ArmRest x v a → InArm word v (x ∷ a)
  arm_at word x is v a h =
      let g = h.5 in
      let y = g.4 in
      let tail = ends_nil h.2 g.1 g.2 g.3 g.5.0 ∙ begins_one y.0 g.1 y.1 y.2 y.2 y.3 y.4.0 refl in
      let cut : x ∷ a ≡ x ∷ (h.1 ++ y.0 ∷ y.2) = ap (λ l. x ∷ l) (joined a h.1 h.2 (y.0 ∷ y.2) h.3 tail) in
      subst (λ v. InArm word v (x ∷ a)) (sym g.5.1) ((x, y.0, h.1, y.2, cut, is, h.4.0, y.4.1, y.5.0, sym (ap over cut ∙ over_arm x y.0 g.0 h.1 y.2 y.5.0)), fits_max u (n - 1) (seq_depth h.0) (seq_depth g.0) h.4.1 y.5.1)

  some_arm_end : (x : Token) (c : t.Seq) → Inhabited (ArmEnd x c)
  some_arm_end x c = some_then (Worded w.ThenWord) (λ b. Only (t.arm_of c b (span_from_to x.span (seq_span b)))) (some_worded w.ThenWord) (λ b. some_only _)

  -- some arm that begins with this token
  some_arm : (word : Word) (x : Token) → is_word word x ≡ true → (more : List Token) × (v : t.Arm) × InArm word v (x ∷ more)
  some_arm word x is = let r = some_then Inside (ArmEnd x) (some_seq u (n - 1)) (some_arm_end x) in (r.0, r.1, arm_at word x is r.1 r.0 r.2)

  explained_arm : (word : Word) → 0 < n → (x : Token) (ts : List Token) → is_word word x ≡ true → Explained u (InArm word) (x ∷ ts) (arm word p (x ∷ ts))
  unfolding arm
  explained_arm word lt x ts is =
      opened u (InArm word) (ArmRest x) (is_word word) x ts _ is (arm_at word x is)
      (explained_bind Inside (ArmEnd x) u ts _ (p ts) (hp lt ts) (λ c r e. explained_bind (Worded w.ThenWord) (λ b. Only (t.arm_of c b (span_from_to x.span (seq_span b)))) u r _ _ (explained_worded w.ThenWord lt r) (λ b q f. explained_only u _ q) (λ b. some_only _)) (some_arm_end x))

  each_arm : 0 < n → (ts begin : List Token) → at (is_word w.ElseifWord) ts ≡ Some begin → Explained u (InArm w.ElseifWord) ts (arm w.ElseifWord p begin)
  each_arm lt [] begin h = absurd (at_nil (is_word w.ElseifWord) begin h)
  each_arm lt (x ∷ ts) begin h =
      let f = at_is (is_word w.ElseifWord) x ts begin h in
      subst (λ l. Explained u (InArm w.ElseifWord) (x ∷ ts) (arm w.ElseifWord p l)) (sym f.0) (explained_arm w.ElseifWord lt x ts f.1)

  listed_arms : (xs : List t.Arm) (ts : List Token) → Listed (InArm w.ElseifWord) xs ts → SpellsMoreArms (arms_of xs) ts × Fits u (n - 1) (arms_depth (arms_of xs))
  listed_arms [] ts h = (h, fits_zero u (n - 1))
  listed_arms (x ∷ xs) ts h = let g = listed_arms xs h.1 h.4 in ((h.0, h.1, h.2, h.3.0, g.0), fits_max u (n - 1) (arm_depth x) (arms_depth (arms_of xs)) h.3.1 g.1)

  -- ---- `if`

  abbrev IfEnd : t.Arm → List t.Arm → t.Other → t.Expr → List Token → Type 0
  IfEnd a xs o = Closes (is_word w.EndWord) (λ z. t.if_ (arms_of (a ∷ xs)) o (span_from_to (arm_span a) z.span))

  abbrev IfOther : t.Arm → List t.Arm → t.Expr → List Token → Type 0
  IfOther a xs = Then (OtherIn u (n - 1)) (IfEnd a xs)

  abbrev IfMore : t.Arm → t.Expr → List Token → Type 0
  IfMore a = Then (Listed (InArm w.ElseifWord)) (IfOther a)

  if_whole : Fits u n 1 → (v : t.Expr) (ts : List Token) → Then (InArm w.IfWord) IfMore v ts → AtomIn u n v ts
  if_whole room v ts h =
      let a = h.0 in
      let g = h.5 in
      let o = g.5 in
      let z = o.5 in
      let arms = listed_arms g.0 g.1 g.4 in
      let ends = closed u (is_word w.EndWord) (λ z. t.if_ (arms_of (a ∷ g.0)) o.0 (span_from_to (arm_span a) z.span)) v o.2 z in
      let cut : ts ≡ (h.1 ++ g.1) ++ (o.1 ++ z.0 ∷ []) = joined ts h.1 h.2 (g.1 ++ (o.1 ++ z.0 ∷ [])) h.3 (joined h.2 g.1 g.2 (o.1 ++ z.0 ∷ []) g.3 (joined g.2 o.1 o.2 (z.0 ∷ []) o.3 ends)) ∙ sym (append_assoc h.1 g.1 (o.1 ++ z.0 ∷ [])) in
      let span = sym (ap over cut ∙ over_if a w.IfWord z.0 h.1 g.1 o.1 (h.1 ++ g.1) h.4.0 refl) in
      let fits = fits_suc u n (max (max (arm_depth a) (arms_depth (arms_of g.0))) (other_depth o.0)) room (fits_max u (n - 1) (max (arm_depth a) (arms_depth (arms_of g.0))) (other_depth o.0) (fits_max u (n - 1) (arm_depth a) (arms_depth (arms_of g.0)) h.4.1 arms.1) o.4.1) in
      subst (λ v. AtomIn u n v ts) (sym z.5.1) (refl, (z.0, h.1 ++ g.1, o.1, cut, (h.1, g.1, refl, h.4.0, arms.0), o.4.0, z.4.1, span), fits)

  some_if_end : (a : t.Arm) (xs : List t.Arm) (o : t.Other) → Inhabited (IfEnd a xs o)
  some_if_end a xs o = some_close u (is_word w.EndWord) (λ z. t.if_ (arms_of (a ∷ xs)) o (span_from_to (arm_span a) z.span)) (of_kind (k.Word w.EndWord)) (a_word w.EndWord)

  some_if_other : (a : t.Arm) (xs : List t.Arm) → Inhabited (IfOther a xs)
  some_if_other a xs = some_then (OtherIn u (n - 1)) (IfEnd a xs) (some_other u (n - 1)) (some_if_end a xs)

  some_if_more : (a : t.Arm) → Inhabited (IfMore a)
  some_if_more a = some_then (Listed (InArm w.ElseifWord)) (IfOther a) ([], [], refl) (some_if_other a)

  some_if : (x : Token) → is_word w.IfWord x ≡ true → Fits u n 1 → (more : List Token) × (v : t.Expr) × AtomIn u n v (x ∷ more)
  some_if x is room =
      let a = some_arm w.IfWord x is in
      let r = some_if_more a.1 in
      (a.0 ++ r.0, r.1, if_whole room r.1 (x ∷ (a.0 ++ r.0)) (a.1, x ∷ a.0, r.0, refl, a.2, r.2))

  explained_if : (x : Token) (ts : List Token) → is_word w.IfWord x ≡ true → Explained u (AtomIn u n) (x ∷ ts) (if_ n p (x ∷ ts))
  unfolding if_
  explained_if x ts is =
      explained_deeper u (AtomIn u n) n _ x ts (some_atom u n) (some_if x is)
      (λ lt. explained_weaker u (Then (InArm w.IfWord) IfMore) (AtomIn u n) (x ∷ ts) _ (if_whole (fits_some u n lt))
      (explained_bind (InArm w.IfWord) IfMore u (x ∷ ts) _ (arm w.IfWord p (x ∷ ts)) (explained_arm w.IfWord lt x ts is)
      (λ a r e. explained_bind (Listed (InArm w.ElseifWord)) (IfOther a) u r _ _ (explained_all u (InArm w.ElseifWord) (at (is_word w.ElseifWord)) (arm w.ElseifWord p) (each_arm lt) r)
      (λ xs q f. explained_bind (OtherIn u (n - 1)) (IfEnd a xs) u q _ (other p q) (explained_other lt q)
      (λ o l g. explained_close u (is_word w.EndWord) (λ z. t.if_ (arms_of (a ∷ xs)) o (span_from_to (arm_span a) z.span)) (of_kind (k.Word w.EndWord)) (a_word w.EndWord) l)
      (some_if_end a xs)) (some_if_other a)) some_if_more))

  -- ---- `while`

  abbrev WhileEnd : Token → t.Seq → t.Seq → t.Expr → List Token → Type 0
  WhileEnd x c b = Closes (is_word w.EndWord) (λ z. t.while_ c b (span_from_to x.span z.span))

  abbrev WhileBody : Token → t.Seq → t.Expr → List Token → Type 0
  WhileBody x c = Then (Worded w.DoWord) (WhileEnd x c)

  while_at : (x : Token) → is_word w.WhileWord x ≡ true → Fits u n 1 → (v : t.Expr) (a : List Token) → Then Inside (WhileBody x) v a → AtomIn u n v (x ∷ a)
  while_at x is room v a h =
      let g = h.5 in
      let y = g.4 in
      let z = g.5 in
      let ends = closed u (is_word w.EndWord) (λ z. t.while_ h.0 g.0 (span_from_to x.span z.span)) v g.2 z in
      let tail : h.2 ≡ y.0 ∷ (y.2 ++ z.0 ∷ []) = g.3 ∙ ap₂ (λ l m. l ++ m) (begins_one y.0 g.1 y.1 y.2 y.2 y.3 y.4.0 refl) ends in
      let cut : x ∷ a ≡ x ∷ (h.1 ++ y.0 ∷ (y.2 ++ z.0 ∷ [])) = ap (λ l. x ∷ l) (joined a h.1 h.2 (y.0 ∷ (y.2 ++ z.0 ∷ [])) h.3 tail) in
      let fits = fits_suc u n (max (seq_depth h.0) (seq_depth g.0)) room (fits_max u (n - 1) (seq_depth h.0) (seq_depth g.0) h.4.1 y.5.1) in
      subst (λ v. AtomIn u n v (x ∷ a)) (sym z.5.1) (refl, (x, y.0, z.0, h.1, y.2, cut, is, h.4.0, y.4.1, y.5.0, z.4.1, sym (ap over cut ∙ over_two x y.0 z.0 h.1 y.2)), fits)

  some_while_end : (x : Token) (c b : t.Seq) → Inhabited (WhileEnd x c b)
  some_while_end x c b = some_close u (is_word w.EndWord) (λ z. t.while_ c b (span_from_to x.span z.span)) (of_kind (k.Word w.EndWord)) (a_word w.EndWord)

  some_while_body : (x : Token) (c : t.Seq) → Inhabited (WhileBody x c)
  some_while_body x c = some_then (Worded w.DoWord) (WhileEnd x c) (some_worded w.DoWord) (some_while_end x c)

  explained_while : (x : Token) (ts : List Token) → is_word w.WhileWord x ≡ true → Explained u (AtomIn u n) (x ∷ ts) (while_ n p (x ∷ ts))
  unfolding while_
  explained_while x ts is =
      let some = some_then Inside (WhileBody x) (some_seq u (n - 1)) (some_while_body x) in
      explained_deeper u (AtomIn u n) n _ x ts (some_atom u n) (λ room. (some.0, some.1, while_at x is room some.1 some.0 some.2))
      (λ lt. opened u (AtomIn u n) (Then Inside (WhileBody x)) (is_word w.WhileWord) x ts _ is (while_at x is (fits_some u n lt))
      (explained_bind Inside (WhileBody x) u ts _ (p ts) (hp lt ts)
      (λ c r e. explained_bind (Worded w.DoWord) (WhileEnd x c) u r _ _ (explained_worded w.DoWord lt r)
      (λ b q f. explained_close u (is_word w.EndWord) (λ z. t.while_ c b (span_from_to x.span z.span)) (of_kind (k.Word w.EndWord)) (a_word w.EndWord) q) (some_while_end x c)) (some_while_body x)))

  -- ---- `recover`

  abbrev RecoverEnd : Token → Option Cap → t.Seq → t.Expr → List Token → Type 0
  RecoverEnd x c b = Closes (is_word w.EndWord) (λ z. t.recover c b (span_from_to x.span z.span))

  abbrev RecoverBody : Token → Option Cap → t.Expr → List Token → Type 0
  RecoverBody x c = Then Inside (RecoverEnd x c)

  recover_at : (x : Token) → is_word w.RecoverWord x ≡ true → Fits u n 1 → (v : t.Expr) (a : List Token) → Then SpellsCap (RecoverBody x) v a → AtomIn u n v (x ∷ a)
  recover_at x is room v a h =
      let g = h.5 in
      let z = g.5 in
      let ends = closed u (is_word w.EndWord) (λ z. t.recover h.0 g.0 (span_from_to x.span z.span)) v g.2 z in
      let cut : x ∷ a ≡ x ∷ (h.1 ++ (g.1 ++ z.0 ∷ [])) = ap (λ l. x ∷ l) (joined a h.1 h.2 (g.1 ++ z.0 ∷ []) h.3 (joined h.2 g.1 g.2 (z.0 ∷ []) g.3 ends)) in
      subst (λ v. AtomIn u n v (x ∷ a)) (sym z.5.1) (refl, (x, z.0, h.1, g.1, cut, is, h.4, g.4.0, z.4.1, sym (ap over cut ∙ over_three x z.0 h.1 g.1)), fits_suc u n (seq_depth g.0) room g.4.1)

  some_recover_end : (x : Token) (c : Option Cap) (b : t.Seq) → Inhabited (RecoverEnd x c b)
  some_recover_end x c b = some_close u (is_word w.EndWord) (λ z. t.recover c b (span_from_to x.span z.span)) (of_kind (k.Word w.EndWord)) (a_word w.EndWord)

  some_recover_body : (x : Token) (c : Option Cap) → Inhabited (RecoverBody x c)
  some_recover_body x c = some_then Inside (RecoverEnd x c) (some_seq u (n - 1)) (some_recover_end x c)

  explained_recover : (x : Token) (ts : List Token) → is_word w.RecoverWord x ≡ true → Explained u (AtomIn u n) (x ∷ ts) (recover_ n p (x ∷ ts))
  unfolding recover_
  explained_recover x ts is =
      let some = some_then SpellsCap (RecoverBody x) ([], None, refl) (some_recover_body x) in
      explained_deeper u (AtomIn u n) n _ x ts (some_atom u n) (λ room. (some.0, some.1, recover_at x is room some.1 some.0 some.2))
      (λ lt. opened u (AtomIn u n) (Then SpellsCap (RecoverBody x)) (is_word w.RecoverWord) x ts _ is (recover_at x is (fits_some u n lt))
      (explained_bind SpellsCap (RecoverBody x) u ts _ (maybe_cap ts) (explained_cap u ts)
      (λ c r e. explained_bind Inside (RecoverEnd x c) u r _ (p r) (hp lt r)
      (λ b q f. explained_close u (is_word w.EndWord) (λ z. t.recover c b (span_from_to x.span z.span)) (of_kind (k.Word w.EndWord)) (a_word w.EndWord) q) (some_recover_end x c)) (some_recover_body x)))

  -- ---- all atoms

  leaf_by : (f : Span → t.Expr) (x : Token) (ts : List Token) → AtomIn u n (f x.span) (x ∷ []) → Explained u (AtomIn u n) (x ∷ ts) (leaf f (x ∷ ts))
  unfolding take_if
  leaf_by f x ts h = (x ∷ [], refl, h)

  atom_by : (x : Token) (ts : List Token) (kk : TokenKind) → x.kind ≡ kk → Explained u (AtomIn u n) (x ∷ ts) (atom_at n p kk (x ∷ ts))
  atom_by x ts (k.Name text) e = explained_weaker u (Then NameAt (λ m. Only (t.name m))) (AtomIn u n) (x ∷ ts) _
      (λ v a h. subst (λ v. AtomIn u n v a) (sym h.5.1) (refl, (h.4.0, begins_one h.4.0 a h.1 h.2 [] h.3 h.4.1 h.5.0, h.4.2), fits_zero u n))
      (explained_bind NameAt (λ m. Only (t.name m)) u (x ∷ ts) _ (name (x ∷ ts)) (explained_name u (x ∷ ts)) (λ m r e1. explained_only u _ r) (λ m. some_only _))
  atom_by x ts (k.TypeName text) e = explained_weaker u (Then TypeNameAt (λ m. Only (t.type_name m))) (AtomIn u n) (x ∷ ts) _
      (λ v a h. subst (λ v. AtomIn u n v a) (sym h.5.1) (refl, (h.4.0, begins_one h.4.0 a h.1 h.2 [] h.3 h.4.1 h.5.0, h.4.2), fits_zero u n))
      (explained_bind TypeNameAt (λ m. Only (t.type_name m)) u (x ∷ ts) _ (type_name (x ∷ ts)) (explained_type_name u (x ∷ ts)) (λ m r e1. explained_only u _ r) (λ m. some_only _))
  atom_by x ts (k.Number v) e = leaf_by (t.number v) x ts (refl, (x, refl, e, refl), fits_zero u n)
  atom_by x ts (k.Text b) e = leaf_by (t.text b) x ts (refl, (x, refl, e, refl), fits_zero u n)
  atom_by x ts (k.Word w.ThisWord) e = leaf_by t.this x ts (refl, (x, refl, word_is x w.ThisWord e, refl), fits_zero u n)
  atom_by x ts (k.Word w.TrueWord) e = leaf_by (t.truth true) x ts (refl, (x, refl, word_is x w.TrueWord e, refl), fits_zero u n)
  atom_by x ts (k.Word w.FalseWord) e = leaf_by (t.truth false) x ts (refl, (x, refl, word_is x w.FalseWord e, refl), fits_zero u n)
  atom_by x ts (k.Sign s.OpenParen) e = explained_group x ts (sign_is x s.OpenParen e)
  atom_by x ts (k.Word w.IfWord) e = explained_if x ts (word_is x w.IfWord e)
  atom_by x ts (k.Word w.WhileWord) e = explained_while x ts (word_is x w.WhileWord e)
  atom_by x ts (k.Word w.RecoverWord) e = explained_recover x ts (word_is x w.RecoverWord e)
  atom_by x ts _ e = explained_refuse u (AtomIn u n) (x ∷ ts) (some_atom u n)

  pub explained_atom : (ts : List Token) → Explained u (AtomIn u n) ts (atom n p ts)
  unfolding atom peek
  explained_atom [] = explained_refuse u (AtomIn u n) [] (some_atom u n)
  explained_atom (x ∷ ts) = atom_by x ts x.kind refl
