-- Parts of every rule: some token of a kind, some tree, names, capabilities and types.
use Rattle.std.proofs.Common.{◌≡◌, ℕ, Bool, true, false, List, [], ◌∷◌, ◌++◌, Option, Some, None, Ok, Err, refl, sym, ap, ap₂, ◌∙◌, subst, cond, append-nil}
use denote.Enum.Bare.{same_false, sameb}
use Rattle.pc_caps.specs.declared.capability.Cap.{Cap}
use Rattle.pc_tree.specs.Tree as t
use Rattle.pc_tree.specs.{Depths.{depth, exprs_depth, suffix_depth, arm_depth, other_depth, seq_depth, item_depth}, declared.written_names.Name.Name, declared.written_names.TypeRef.TypeRef}
use Rattle.pc_token.specs.{contracts.words.Word.the_type as word_type, contracts.signs.Sign.the_type as sign_type, declared.kinds.Token.Token, declared.kinds.TokenKind.TokenKind, declared.words.Word.Word, declared.signs.Sign.Sign, Words.{is_sign, is_word, same_sign, same_word}}
use Rattle.pc_token.specs.declared.kinds.TokenKind.TheVariants as k
use Rattle.pc_token.specs.declared.signs.Sign.TheVariants as s
use Rattle.pc_grammar.specs.{Spells.{cap_of, no_span, IsName, IsTypeName, SpellsCap, SpellsType, SpellsTyped, is_atom, is_term, is_infix, Spells, SpellsSuffix, SpellsArgs, SpellsArm, SpellsOther, SpellsSeq, SpellsItem}, Reading.{ReadingOutcome, Parser, and_then, pure, ◌>>=◌, ◌>>◌, peek, take_if, name, name_at, type_name, type_name_at, cap_by, maybe_cap, written_type, maybe_type}}
use Rattle.pc_grammar.proofs.Explained.{Fits, fits_zero, Explained, Then, Tok, Only, Inhabited, some_tok, some_only, some_then, explained_bind, explained_weaker, explained_only, explained_refuse}

-- ---- the first token is known

pub explained_cons : (u : Bool) {A : Type 0} (M N : A → List Token → Type 0) (x : Token) (ts : List Token) → ((v : A) (a : List Token) → N v a → M v (x ∷ a)) → (o : ReadingOutcome A) → Explained u N ts o → Explained u M (x ∷ ts) o
explained_cons u M N x ts f (Ok r) h = (x ∷ h.0, ap (λ l. x ∷ l) h.1, f r.0 h.0 h.2)
explained_cons u M N x ts f (Err e) h = (x ∷ h.0, h.1, h.2, ap (λ l. x ∷ l) h.3, f h.2 _ h.4, h.5)

pub taken : (test : Token → Bool) (x : Token) (ts : List Token) → test x ≡ true → take_if test (x ∷ ts) ≡ Ok (x, ts)
unfolding take_if
taken test x ts h = rw h

pub opened : (u : Bool) {A : Type 0} (M N : A → List Token → Type 0) (test : Token → Bool) (x : Token) (ts : List Token) (f : Token → Parser A) → test x ≡ true → ((v : A) (a : List Token) → N v a → M v (x ∷ a)) → Explained u N ts (f x ts)
    → Explained u M (x ∷ ts) (and_then (take_if test (x ∷ ts)) f)
opened u M N test x ts f h g e = subst (λ o. Explained u M (x ∷ ts) (and_then o f)) (sym (taken test x ts h)) (explained_cons u M N x ts g (f x ts) e)

-- ---- how parts of a list are combined

pub ends_nil : (b c d : List Token) → b ≡ c ++ d → d ≡ [] → b ≡ c
ends_nil b c d e f = e ∙ ap (λ l. c ++ l) f ∙ append-nil c

pub joined : (b c d e : List Token) → b ≡ c ++ d → d ≡ e → b ≡ c ++ e
joined b c d e f g = f ∙ ap (λ l. c ++ l) g

pub begins_one : (y : Token) (b c d e : List Token) → b ≡ c ++ d → c ≡ y ∷ [] → d ≡ e → b ≡ y ∷ e
begins_one y b c d e f g h = f ∙ ap₂ (λ l m. l ++ m) g h

-- ---- some token of a kind

abbrev pub of_kind : TokenKind → Token
of_kind kk = record { kind = kk; first = false; span = no_span }

same_word_self : (x : Word) (b : Bool) → sameb word_type x x ≡ b → sameb word_type x x ≡ true
same_word_self x true e = e
same_word_self x false e = absurd (same_false word_type x x e refl)

same_sign_self : (x : Sign) (b : Bool) → sameb sign_type x x ≡ b → sameb sign_type x x ≡ true
same_sign_self x true e = e
same_sign_self x false e = absurd (same_false sign_type x x e refl)

pub word_is : (x : Token) (word : Word) → x.kind ≡ k.Word word → is_word word x ≡ true
unfolding is_word same_word
word_is x word e = rw e (same_word_self word _ refl)

pub sign_is : (x : Token) (sign : Sign) → x.kind ≡ k.Sign sign → is_sign sign x ≡ true
unfolding is_sign same_sign
sign_is x sign e = rw e (same_sign_self sign _ refl)

pub a_word : (word : Word) → is_word word (of_kind (k.Word word)) ≡ true
a_word word = word_is (of_kind (k.Word word)) word refl

pub a_sign : (sign : Sign) → is_sign sign (of_kind (k.Sign sign)) ≡ true
a_sign sign = sign_is (of_kind (k.Sign sign)) sign refl

pub some_word : (word : Word) → Inhabited (Tok (is_word word))
some_word word = some_tok (is_word word) (of_kind (k.Word word)) (a_word word)

pub some_sign : (sign : Sign) → Inhabited (Tok (is_sign sign))
some_sign sign = some_tok (is_sign sign) (of_kind (k.Sign sign)) (a_sign sign)

-- ---- what is spelled, within n levels or of any depth

module _ (u : Bool) (n : ℕ) where
  abbrev pub AtomIn : t.Expr → List Token → Type 0
  AtomIn e ts = (is_atom e ≡ true) × Spells e ts × Fits u n (depth e)

  abbrev pub TermIn : t.Expr → List Token → Type 0
  TermIn e ts = (is_term e ≡ true) × Spells e ts × Fits u n (depth e)

  abbrev pub InfixIn : t.Expr → List Token → Type 0
  InfixIn e ts = (is_infix e ≡ true) × Spells e ts × Fits u n (depth e)

  abbrev pub ExprIn : t.Expr → List Token → Type 0
  ExprIn e ts = Spells e ts × Fits u n (depth e)

  abbrev pub SuffixIn : t.Suffix → List Token → Type 0
  SuffixIn x ts = SpellsSuffix x ts × Fits u n (suffix_depth x)

  abbrev pub ArgsIn : t.Exprs → List Token → Type 0
  ArgsIn es ts = SpellsArgs es ts × Fits u n (exprs_depth es)

  abbrev pub ArmIn : Word → t.Arm → List Token → Type 0
  ArmIn word a ts = SpellsArm a word ts × Fits u n (arm_depth a)

  abbrev pub OtherIn : t.Other → List Token → Type 0
  OtherIn o ts = SpellsOther o ts × Fits u n (other_depth o)

  abbrev pub SeqIn : t.Seq → List Token → Type 0
  SeqIn b ts = SpellsSeq b ts × Fits u n (seq_depth b)

  abbrev pub ItemIn : t.Item → List Token → Type 0
  ItemIn i ts = SpellsItem i ts × Fits u n (item_depth i)

abbrev pub NameAt : Name → List Token → Type 0
NameAt m ts = (x : Token) × (ts ≡ x ∷ []) × IsName x m

abbrev pub TypeNameAt : Name → List Token → Type 0
TypeNameAt m ts = (x : Token) × (ts ≡ x ∷ []) × IsTypeName x m

abbrev pub a_name : Name
a_name = record { text = []; span = no_span }

pub some_name : Inhabited NameAt
some_name = (of_kind (k.Name []) ∷ [], a_name, (of_kind (k.Name []), refl, (refl, refl)))

pub some_type_name : Inhabited TypeNameAt
some_type_name = (of_kind (k.TypeName []) ∷ [], a_name, (of_kind (k.TypeName []), refl, (refl, refl)))

pub spelled_name : Spells (t.name a_name) (of_kind (k.Name []) ∷ [])
spelled_name = (of_kind (k.Name []), refl, (refl, refl))

module _ (u : Bool) (n : ℕ) where
  pub some_atom : Inhabited (AtomIn u n)
  some_atom = (of_kind (k.Name []) ∷ [], t.name a_name, (refl, spelled_name, fits_zero u n))

  pub some_term : Inhabited (TermIn u n)
  some_term = (of_kind (k.Name []) ∷ [], t.name a_name, (refl, spelled_name, fits_zero u n))

  pub some_infix : Inhabited (InfixIn u n)
  some_infix = (of_kind (k.Name []) ∷ [], t.name a_name, (refl, spelled_name, fits_zero u n))

  pub some_expr : Inhabited (ExprIn u n)
  some_expr = (of_kind (k.Name []) ∷ [], t.name a_name, (spelled_name, fits_zero u n))

  pub some_item : Inhabited (ItemIn u n)
  some_item = (of_kind (k.Name []) ∷ [], t.plain (t.name a_name), (spelled_name, fits_zero u n))

  pub some_seq : Inhabited (SeqIn u n)
  some_seq = (of_kind (k.Name []) ∷ [], t.seq (t.item (t.plain (t.name a_name)) t.no_items) no_span, (((of_kind (k.Name []) ∷ [], [], refl, spelled_name, refl), refl), fits_zero u n))

  pub some_other : Inhabited (OtherIn u n)
  some_other = ([], t.no_other, (refl, fits_zero u n))

  pub some_args : Inhabited (ArgsIn u n)
  some_args = ([], t.no_exprs, (refl, fits_zero u n))

  pub some_suffix : Inhabited (SuffixIn u n)
  some_suffix = (of_kind (k.Sign s.Dot) ∷ of_kind (k.Name []) ∷ [], t.dot a_name, ((of_kind (k.Sign s.Dot), of_kind (k.Name []), refl, a_sign s.Dot, (refl, refl)), fits_zero u n))

-- ---- names, capabilities and types

module _ (u : Bool) where
  name_by : (x : Token) (ts : List Token) (kk : TokenKind) → x.kind ≡ kk → Explained u NameAt (x ∷ ts) (name_at kk (x ∷ ts))
  unfolding take_if
  name_by x ts (k.Name text) e = (x ∷ [], refl, (x, refl, (e, refl)))
  name_by x ts _ e = explained_refuse u NameAt (x ∷ ts) some_name

  pub explained_name : (ts : List Token) → Explained u NameAt ts (name ts)
  unfolding name peek
  explained_name [] = explained_refuse u NameAt [] some_name
  explained_name (x ∷ ts) = name_by x ts x.kind refl

  type_name_by : (x : Token) (ts : List Token) (kk : TokenKind) → x.kind ≡ kk → Explained u TypeNameAt (x ∷ ts) (type_name_at kk (x ∷ ts))
  unfolding take_if
  type_name_by x ts (k.TypeName text) e = (x ∷ [], refl, (x, refl, (e, refl)))
  type_name_by x ts _ e = explained_refuse u TypeNameAt (x ∷ ts) some_type_name

  pub explained_type_name : (ts : List Token) → Explained u TypeNameAt ts (type_name ts)
  unfolding type_name peek
  explained_type_name [] = explained_refuse u TypeNameAt [] some_type_name
  explained_type_name (x ∷ ts) = type_name_by x ts x.kind refl

  cap_known : (x : Token) (ts : List Token) (o : Option Cap) → cap_of x ≡ o → Explained u SpellsCap (x ∷ ts) (cap_by o (x ∷ ts))
  unfolding take_if
  cap_known x ts None e = ([], refl, refl)
  cap_known x ts (Some c) e = (x ∷ [], refl, (x, refl, e))

  pub explained_cap : (ts : List Token) → Explained u SpellsCap ts (maybe_cap ts)
  unfolding maybe_cap peek
  explained_cap [] = explained_refuse u SpellsCap [] ([], None, refl)
  explained_cap (x ∷ ts) = cap_known x ts (cap_of x) refl

  abbrev plain_type : Name → Option Cap → TypeRef
  plain_type m c = record { name = m; cap = c; hat = false }

  abbrev TypeParts : TypeRef → List Token → Type 0
  TypeParts = Then TypeNameAt (λ m. Then SpellsCap (λ c. Only (plain_type m c)))

  type_whole : (v : TypeRef) (a : List Token) → TypeParts v a → SpellsType v a
  type_whole v a h =
      let g = h.5 in
      let cut = begins_one h.4.0 a h.1 h.2 g.1 h.3 h.4.1 (ends_nil h.2 g.1 g.2 g.3 g.5.0) in
      subst (λ v. SpellsType v a) (sym g.5.1) (h.4.0, g.1, cut, h.4.2, g.4, refl)

  some_cap : (m : Name) → Inhabited (Then SpellsCap (λ c. Only (plain_type m c)))
  some_cap m = some_then SpellsCap (λ c. Only (plain_type m c)) ([], None, refl) (λ c. some_only _)

  pub some_type : Inhabited SpellsType
  some_type = let r = some_then TypeNameAt (λ m. Then SpellsCap (λ c. Only (plain_type m c))) some_type_name some_cap in (r.0, r.1, type_whole r.1 r.0 r.2)

  pub explained_type : (ts : List Token) → Explained u SpellsType ts (written_type ts)
  unfolding written_type
  explained_type ts =
      explained_weaker u TypeParts SpellsType ts _ type_whole
      (explained_bind TypeNameAt (λ m. Then SpellsCap (λ c. Only (plain_type m c))) u ts _ (type_name ts) (explained_type_name ts)
      (λ m r e. explained_bind SpellsCap (λ c. Only (plain_type m c)) u r _ (maybe_cap r) (explained_cap r) (λ c q f. explained_only u _ q) (λ c. some_only _)) some_cap)

  typed_at : (x : Token) → is_sign s.Colon x ≡ true → (v : Option TypeRef) (a : List Token) → Then SpellsType (λ r. Only (Some r)) v a → SpellsTyped v (x ∷ a)
  typed_at x is v a h = subst (λ v. SpellsTyped v (x ∷ a)) (sym h.5.1) (x, h.1, ap (λ l. x ∷ l) (ends_nil a h.1 h.2 h.3 h.5.0), is, h.4)

  typed_by : (x : Token) (ts : List Token) (b : Bool) → is_sign s.Colon x ≡ b → Explained u SpellsTyped (x ∷ ts) (cond b (take_if (is_sign s.Colon) >> written_type >>= λ r. pure (Some r)) (pure None) (x ∷ ts))
  typed_by x ts true e =
      rw (taken (is_sign s.Colon) x ts e) (explained_cons u SpellsTyped (Then SpellsType (λ r. Only (Some r))) x ts (typed_at x e) _
      (explained_bind SpellsType (λ r. Only (Some r)) u ts _ (written_type ts) (explained_type ts) (λ r q f. explained_only u _ q) (λ r. some_only _)))
  typed_by x ts false e = ([], refl, refl)

  pub explained_typed : (ts : List Token) → Explained u SpellsTyped ts (maybe_type ts)
  unfolding maybe_type peek
  explained_typed [] = explained_refuse u SpellsTyped [] ([], None, refl)
  explained_typed (x ∷ ts) = typed_by x ts (is_sign s.Colon x) refl
