-- Which tokens spell which tree and which file: by cases on the tree, one for each alternative of the grammar.
--
--   File    = [doc] Entity {Entity} End
--   Entity  = ("class" [Cap] | "trait" [Cap] | "interface" [Cap] | "actor" | "primitive") TypeName
--             ["is" (TypeName | "(" TypeName {"&" TypeName} ")")] [doc] {Field} {Method}
--   Field   = ("var" | "let") Name ":" Type ["=" Infix] [doc]
--   Method  = "fun" [Cap] Name Params [":" Result] [doc] [Body]
--           | "be" Name Params [doc] [Body]
--           | "new" [Cap] Name Params [doc] [Body]
--   Body    = "=>" [doc] Seq
--   Params  = "(" [Name ":" Type {"," Name ":" Type}] ")"
--   Result  = TypeName [Cap] ["^"]
--   Seq     = Item {Next Item}
--   Item    = ("var" | "let") Name [":" Type] "=" Expr | Expr
--   Type    = TypeName [Cap]
--   Expr    = Infix ["=" Expr]
--   Infix   = Term {Op Term}
--   Term    = "not" Term | "consume" Name | Postfix
--   Postfix = Atom {"." Name | "(" [Expr {"," Expr}] ")"}
--   Atom    = Name | TypeName | "this" | number | text | "true" | "false" | "(" Seq ")"
--           | "if" Seq "then" Seq {"elseif" Seq "then" Seq} ["else" Seq] "end"
--           | "while" Seq "do" Seq "end" | "recover" [Cap] Seq "end"
--
-- Classes and actors have fields and `new`, actors, traits and interfaces have `be`, and only in classes may a
-- capability follow `new`. In a trait or an interface a body is optional, elsewhere every method has one. This is the
-- table of the kinds of entities in `pc_tree`.
use Rattle.std.specs.Prelude.{Bool, true, false, Option, Some, None, if◌then◌else◌, ◌≡◌, List, [], ◌∷◌, ◌++◌, ℕ, nat_le, ◌≤◌, ◌⊎◌}
use Rattle.pc_base.specs.declared.span.Span.{Span}
use Rattle.pc_caps.specs.declared.capability.Cap.{Cap}
use Rattle.pc_tree.specs.{declared.kinds.Op.Op, declared.written_names.Name.Name, declared.written_names.TypeRef.TypeRef, Depths.file_depth, declared.file.ParamDef.ParamDef, declared.kinds.EntityKind.EntityKind, declared.kinds.MethodWord.MethodWord, Kinds.{may_have_cap, may_stand, may_have_method_cap, CapIf, at_kind, FieldsIf, BodyUnless, may_have_fields, is_abstract}}
use Rattle.pc_token.specs.{declared.kinds.Token.Token, declared.kinds.TokenKind.TokenKind, declared.words.Word.Word, Words.{is_sign, is_word}}
use Rattle.pc_caps.specs.declared.capability.Cap.TheVariants as c
use Rattle.pc_tree.specs.declared.kinds.Op.TheVariants as o
use Rattle.pc_token.specs.declared.kinds.TokenKind.TheVariants as k
use Rattle.pc_token.specs.declared.words.Word.TheVariants as w
use Rattle.pc_token.specs.declared.signs.Sign.TheVariants as s
use Rattle.pc_tree.specs.Tree as t
use Rattle.pc_tree.specs.declared.kinds.MethodWord.TheVariants as method

-- ---- what a token means to the grammar

abbrev pub kind_op : Bool → TokenKind → Option Op
kind_op first (k.Sign s.Plus) = Some o.Add
kind_op first (k.Sign s.Minus) = if first then None else Some o.Sub
kind_op first (k.Sign s.Star) = Some o.Mul
kind_op first (k.Sign s.Slash) = Some o.Div
kind_op first (k.Sign s.Percent) = Some o.Rem
kind_op first (k.Sign s.Equal) = Some o.Eq
kind_op first (k.Sign s.NotEqual) = Some o.Ne
kind_op first (k.Sign s.Less) = Some o.Lt
kind_op first (k.Sign s.LessEqual) = Some o.Le
kind_op first (k.Sign s.Greater) = Some o.Gt
kind_op first (k.Sign s.GreaterEqual) = Some o.Ge
kind_op first (k.Word w.AndWord) = Some o.And
kind_op first (k.Word w.OrWord) = Some o.Or
kind_op first (k.Word w.XorWord) = Some o.Xor
kind_op first (k.Word w.IsWord) = Some o.Is
kind_op first (k.Word w.IsntWord) = Some o.Isnt
kind_op first _ = None

-- The infix operator that a token is. A `-` that is first on its line is no operator.
unfoldable pub op_of : Token → Option Op
op_of t = kind_op t.first t.kind

abbrev pub kind_cap : TokenKind → Option Cap
kind_cap (k.Word w.IsoWord) = Some c.Iso
kind_cap (k.Word w.TrnWord) = Some c.Trn
kind_cap (k.Word w.RefWord) = Some c.Ref
kind_cap (k.Word w.ValWord) = Some c.Val
kind_cap (k.Word w.BoxWord) = Some c.Box
kind_cap (k.Word w.TagWord) = Some c.Tag
kind_cap _ = None

-- the capability named by a token
unfoldable pub cap_of : Token → Option Cap
cap_of t = kind_cap t.kind

-- the keyword of a local or a field, `let` if it is fixed
abbrev pub local_word : Bool → Word
local_word true = w.LetWord
local_word false = w.VarWord

abbrev pub truth_word : Bool → Word
truth_word true = w.TrueWord
truth_word false = w.FalseWord

-- ---- the spans of tokens

abbrev pub no_span : Span
no_span = record { start = 0; end = 0 }

abbrev pub first_span : List Token → Span
first_span [] = no_span
first_span (x ∷ ts) = x.span

abbrev pub last_span : Span → List Token → Span
last_span s [] = s
last_span s (x ∷ ts) = last_span x.span ts

-- from the start of one to the end of another
abbrev pub span_from_to : Span → Span → Span
span_from_to a b = record { start = a.start; end = b.end }

-- from the first token to the last
abbrev pub over : List Token → Span
over ts = span_from_to (first_span ts) (last_span no_span ts)

-- ---- names, capabilities and types

abbrev pub IsName : Token → Name → Type 0
IsName x m = (x.kind ≡ k.Name m.text) × (x.span ≡ m.span)

abbrev pub IsTypeName : Token → Name → Type 0
IsTypeName x m = (x.kind ≡ k.TypeName m.text) × (x.span ≡ m.span)

-- [Cap]
abbrev pub SpellsCap : Option Cap → List Token → Type 0
SpellsCap None ts = ts ≡ []
SpellsCap (Some c) ts = (x : Token) × (ts ≡ x ∷ []) × (cap_of x ≡ Some c)

-- TypeName [Cap]
abbrev pub SpellsType : TypeRef → List Token → Type 0
SpellsType r ts = (x : Token) × (a : List Token) × (ts ≡ x ∷ a) × IsTypeName x r.name × SpellsCap r.cap a × (r.hat ≡ false)

-- [":" Type]
abbrev pub SpellsTyped : Option TypeRef → List Token → Type 0
SpellsTyped None ts = ts ≡ []
SpellsTyped (Some r) ts = (x : Token) × (a : List Token) × (ts ≡ x ∷ a) × (is_sign s.Colon x ≡ true) × SpellsType r a

-- ---- the kinds of expressions

-- How far an expression is from an atom in the grammar: 0 for an atom, 1 for another term, 2 for terms with operators, 3
-- for an assignment.
abbrev pub rank : t.Expr → ℕ
rank (t.number n sp) = 0
rank (t.truth b sp) = 0
rank (t.text b sp) = 0
rank (t.name m) = 0
rank (t.type_name m) = 0
rank (t.this sp) = 0
rank (t.consume m sp) = 1
rank (t.not_ e sp) = 1
rank (t.infix_ o es sp) = 2
rank (t.chain e ss sp) = 1
rank (t.group b sp) = 0
rank (t.if_ a o sp) = 0
rank (t.while_ c b sp) = 0
rank (t.recover c b sp) = 0
rank (t.assign l r sp) = 3

abbrev pub is_atom : t.Expr → Bool
is_atom e = nat_le (rank e) 0

abbrev pub is_term : t.Expr → Bool
is_term e = nat_le (rank e) 1

abbrev pub is_infix : t.Expr → Bool
is_infix e = nat_le (rank e) 2

abbrev pub is_dot : t.Suffix → Bool
is_dot (t.dot m) = true
is_dot (t.args es sp) = false

-- whether the last suffix is a name; without suffixes, the given answer
abbrev pub ends_in_dot : Bool → t.Suffixes → Bool
ends_in_dot b t.no_suffixes = b
ends_in_dot b (t.suffix x ss) = ends_in_dot (is_dot x) ss

-- What may come before an `=`: a name, or something that ends in `.` and a name.
abbrev pub is_place : t.Expr → Bool
is_place (t.number n sp) = false
is_place (t.truth b sp) = false
is_place (t.text b sp) = false
is_place (t.name m) = true
is_place (t.type_name m) = false
is_place (t.this sp) = false
is_place (t.consume m sp) = false
is_place (t.not_ e sp) = false
is_place (t.infix_ o es sp) = false
is_place (t.chain e ss sp) = ends_in_dot false ss
is_place (t.group b sp) = false
is_place (t.if_ a o sp) = false
is_place (t.while_ c b sp) = false
is_place (t.recover c b sp) = false
is_place (t.assign l r sp) = false

-- the list is not empty
abbrev pub IsMore : t.Exprs → Type 0
IsMore t.no_exprs = ⊥
IsMore (t.expr e es) = Unit {0}

abbrev pub IsSome : t.Suffixes → Type 0
IsSome t.no_suffixes = ⊥
IsSome (t.suffix e es) = Unit {0}

-- What comes before an item other than the first: a `;`, or nothing if the item's first token is first on its line.
abbrev pub IsNext : List Token → List Token → Type 0
IsNext [] [] = ⊥
IsNext [] (x ∷ item) = x.first ≡ true
IsNext (x ∷ []) item = is_sign s.Semicolon x ≡ true
IsNext (x ∷ y ∷ ts) item = ⊥

-- ---- expressions and sequences

abbrev mutual
  pub Spells : t.Expr → List Token → Type 0
  Spells (t.number n sp) ts = (x : Token) × (ts ≡ x ∷ []) × (x.kind ≡ k.Number n) × (sp ≡ over ts)
  Spells (t.truth b sp) ts = (x : Token) × (ts ≡ x ∷ []) × (is_word (truth_word b) x ≡ true) × (sp ≡ over ts)
  Spells (t.text b sp) ts = (x : Token) × (ts ≡ x ∷ []) × (x.kind ≡ k.Text b) × (sp ≡ over ts)
  Spells (t.name m) ts = (x : Token) × (ts ≡ x ∷ []) × IsName x m
  Spells (t.type_name m) ts = (x : Token) × (ts ≡ x ∷ []) × IsTypeName x m
  Spells (t.this sp) ts = (x : Token) × (ts ≡ x ∷ []) × (is_word w.ThisWord x ≡ true) × (sp ≡ over ts)
  Spells (t.consume m sp) ts = (x y : Token) × (ts ≡ x ∷ y ∷ []) × (is_word w.ConsumeWord x ≡ true) × IsName y m × (sp ≡ over ts)
  Spells (t.not_ e sp) ts = (x : Token) × (a : List Token) × (ts ≡ x ∷ a) × (is_word w.NotWord x ≡ true) × (is_term e ≡ true) × Spells e a × (sp ≡ over ts)
  Spells (t.infix_ o es sp) ts = SpellsTerms es o ts × (sp ≡ over ts)
  Spells (t.chain e ss sp) ts = (a b : List Token) × (ts ≡ a ++ b) × (is_atom e ≡ true) × Spells e a × IsSome ss × SpellsSuffixes ss b × (sp ≡ over ts)
  Spells (t.group b sp) ts = (x y : Token) × (a : List Token) × (ts ≡ x ∷ (a ++ y ∷ [])) × (is_sign s.OpenParen x ≡ true) × SpellsSeq b a × (is_sign s.CloseParen y ≡ true) × (sp ≡ over ts)
  Spells (t.if_ as' o sp) ts = (z : Token) × (a d : List Token) × (ts ≡ a ++ (d ++ z ∷ [])) × SpellsArms as' a × SpellsOther o d × (is_word w.EndWord z ≡ true) × (sp ≡ over ts)
  Spells (t.while_ c b sp) ts = (x y z : Token) × (a d : List Token) × (ts ≡ x ∷ (a ++ y ∷ (d ++ z ∷ []))) × (is_word w.WhileWord x ≡ true) × SpellsSeq c a × (is_word w.DoWord y ≡ true) × SpellsSeq b d
      × (is_word w.EndWord z ≡ true) × (sp ≡ over ts)
  Spells (t.recover c b sp) ts = (x z : Token) × (d a : List Token) × (ts ≡ x ∷ (d ++ (a ++ z ∷ []))) × (is_word w.RecoverWord x ≡ true) × SpellsCap c d × SpellsSeq b a × (is_word w.EndWord z ≡ true) × (sp ≡ over ts)
  Spells (t.assign l r sp) ts = (x : Token) × (a b : List Token) × (ts ≡ a ++ x ∷ b) × (is_place l ≡ true) × Spells l a × (is_sign s.Assign x ≡ true) × Spells r b × (sp ≡ over ts)

  -- Term {Op Term}, at least two terms, all with the same operator between them
  pub SpellsTerms : t.Exprs → Op → List Token → Type 0
  SpellsTerms t.no_exprs o ts = ⊥
  SpellsTerms (t.expr e es) o ts = (a b : List Token) × (ts ≡ a ++ b) × (is_term e ≡ true) × Spells e a × IsMore es × SpellsMoreTerms es o b

  -- {Op Term}
  pub SpellsMoreTerms : t.Exprs → Op → List Token → Type 0
  SpellsMoreTerms t.no_exprs o ts = ts ≡ []
  SpellsMoreTerms (t.expr e es) o ts = (x : Token) × (a b : List Token) × (ts ≡ x ∷ (a ++ b)) × (op_of x ≡ Some o) × (is_term e ≡ true) × Spells e a × SpellsMoreTerms es o b

  -- The span of a suffix `.name` is that of the name alone. The `(` of arguments is not first on its line.
  pub SpellsSuffix : t.Suffix → List Token → Type 0
  SpellsSuffix (t.dot m) ts = (x y : Token) × (ts ≡ x ∷ y ∷ []) × (is_sign s.Dot x ≡ true) × IsName y m
  SpellsSuffix (t.args es sp) ts = (x y : Token) × (a : List Token) × (ts ≡ x ∷ (a ++ y ∷ [])) × (is_sign s.OpenParen x ≡ true) × (x.first ≡ false) × SpellsArgs es a × (is_sign s.CloseParen y ≡ true) × (sp ≡ over ts)

  pub SpellsSuffixes : t.Suffixes → List Token → Type 0
  SpellsSuffixes t.no_suffixes ts = ts ≡ []
  SpellsSuffixes (t.suffix x ss) ts = (a b : List Token) × (ts ≡ a ++ b) × SpellsSuffix x a × SpellsSuffixes ss b

  -- [Expr {"," Expr}]
  pub SpellsArgs : t.Exprs → List Token → Type 0
  SpellsArgs t.no_exprs ts = ts ≡ []
  SpellsArgs (t.expr e es) ts = (a b : List Token) × (ts ≡ a ++ b) × Spells e a × SpellsMoreArgs es b

  -- {"," Expr}
  pub SpellsMoreArgs : t.Exprs → List Token → Type 0
  SpellsMoreArgs t.no_exprs ts = ts ≡ []
  SpellsMoreArgs (t.expr e es) ts = (x : Token) × (a b : List Token) × (ts ≡ x ∷ (a ++ b)) × (is_sign s.Comma x ≡ true) × Spells e a × SpellsMoreArgs es b

  -- "if" Seq "then" Seq, or the same with another keyword
  pub SpellsArm : t.Arm → Word → List Token → Type 0
  SpellsArm (t.arm_of c b sp) word ts = (x y : Token) × (a d : List Token) × (ts ≡ x ∷ (a ++ y ∷ d)) × (is_word word x ≡ true) × SpellsSeq c a × (is_word w.ThenWord y ≡ true) × SpellsSeq b d × (sp ≡ over ts)

  -- "if" Seq "then" Seq {"elseif" Seq "then" Seq}
  pub SpellsArms : t.Arms → List Token → Type 0
  SpellsArms t.no_arms ts = ⊥
  SpellsArms (t.arm x xs) ts = (a b : List Token) × (ts ≡ a ++ b) × SpellsArm x w.IfWord a × SpellsMoreArms xs b

  -- {"elseif" Seq "then" Seq}
  pub SpellsMoreArms : t.Arms → List Token → Type 0
  SpellsMoreArms t.no_arms ts = ts ≡ []
  SpellsMoreArms (t.arm x xs) ts = (a b : List Token) × (ts ≡ a ++ b) × SpellsArm x w.ElseifWord a × SpellsMoreArms xs b

  -- ["else" Seq]
  pub SpellsOther : t.Other → List Token → Type 0
  SpellsOther t.no_other ts = ts ≡ []
  SpellsOther (t.other b) ts = (x : Token) × (a : List Token) × (ts ≡ x ∷ a) × (is_word w.ElseWord x ≡ true) × SpellsSeq b a

  pub SpellsSeq : t.Seq → List Token → Type 0
  SpellsSeq (t.seq is sp) ts = SpellsItems is ts × (sp ≡ over ts)

  -- Item {Next Item}
  pub SpellsItems : t.Items → List Token → Type 0
  SpellsItems t.no_items ts = ⊥
  SpellsItems (t.item i is) ts = (a b : List Token) × (ts ≡ a ++ b) × SpellsItem i a × SpellsMoreItems is b

  -- {Next Item}
  pub SpellsMoreItems : t.Items → List Token → Type 0
  SpellsMoreItems t.no_items ts = ts ≡ []
  SpellsMoreItems (t.item i is) ts = (n a b : List Token) × (ts ≡ n ++ (a ++ b)) × IsNext n a × SpellsItem i a × SpellsMoreItems is b

  pub SpellsItem : t.Item → List Token → Type 0
  SpellsItem (t.local f m ty e sp) ts = (x y z : Token) × (a b : List Token) × (ts ≡ x ∷ y ∷ (a ++ z ∷ b)) × (is_word (local_word f) x ≡ true) × IsName y m × SpellsTyped ty a × (is_sign s.Assign z ≡ true) × Spells e b × (sp ≡ over ts)
  SpellsItem (t.plain e) ts = Spells e ts

-- an `Infix`, which has no `=`
abbrev pub SpellsInfix : t.Expr → List Token → Type 0
SpellsInfix e ts = (is_infix e ≡ true) × Spells e ts

-- ---- the file: its parts, its limit and the parts of its entities

-- How many nested levels may be opened. A body and a field's value are at level 1.
abbrev pub level_limit : ℕ
level_limit = 200

-- [doc], which is not kept in the tree
abbrev pub IsDoc : List Token → Type 0
IsDoc [] = Unit {0}
IsDoc (x ∷ []) = x.kind ≡ k.Doc
IsDoc (x ∷ y ∷ ts) = ⊥

-- These, one after the other.
abbrev pub SpellsEach : {A : Type 0} → (A → List Token → Type 0) → List A → List Token → Type 0
SpellsEach spells [] ts = ts ≡ []
SpellsEach spells (x ∷ xs) ts = (a b : List Token) × (ts ≡ a ++ b) × spells x a × SpellsEach spells xs b

-- ---- types and parameters

-- ["^"]
abbrev pub SpellsHat : Bool → List Token → Type 0
SpellsHat false ts = ts ≡ []
SpellsHat true ts = (x : Token) × (ts ≡ x ∷ []) × (is_sign s.Caret x ≡ true)

-- TypeName [Cap] ["^"]
abbrev pub SpellsResult : TypeRef → List Token → Type 0
SpellsResult r ts = (x : Token) × (a b : List Token) × (ts ≡ x ∷ (a ++ b)) × IsTypeName x r.name × SpellsCap r.cap a × SpellsHat r.hat b

-- [":" Result]
abbrev pub SpellsReturns : Option TypeRef → List Token → Type 0
SpellsReturns None ts = ts ≡ []
SpellsReturns (Some r) ts = (x : Token) × (a : List Token) × (ts ≡ x ∷ a) × (is_sign s.Colon x ≡ true) × SpellsResult r a

-- Name ":" Type
abbrev pub SpellsParam : ParamDef → List Token → Type 0
SpellsParam p ts = (x y : Token) × (a : List Token) × (ts ≡ x ∷ y ∷ a) × IsName x p.name × (is_sign s.Colon y ≡ true) × SpellsType p.ty a

-- {"," Name ":" Type}
abbrev pub SpellsMoreParams : List ParamDef → List Token → Type 0
SpellsMoreParams [] ts = ts ≡ []
SpellsMoreParams (p ∷ ps) ts = (x : Token) × (a b : List Token) × (ts ≡ x ∷ (a ++ b)) × (is_sign s.Comma x ≡ true) × SpellsParam p a × SpellsMoreParams ps b

-- [Name ":" Type {"," Name ":" Type}]
abbrev pub SpellsParamList : List ParamDef → List Token → Type 0
SpellsParamList [] ts = ts ≡ []
SpellsParamList (p ∷ ps) ts = (a b : List Token) × (ts ≡ a ++ b) × SpellsParam p a × SpellsMoreParams ps b

abbrev pub SpellsParams : List ParamDef → List Token → Type 0
SpellsParams ps ts = (x y : Token) × (a : List Token) × (ts ≡ x ∷ (a ++ y ∷ [])) × (is_sign s.OpenParen x ≡ true) × SpellsParamList ps a × (is_sign s.CloseParen y ≡ true)

-- ---- fields and methods

-- ["=" Infix]
abbrev pub SpellsValue : Option t.Expr → List Token → Type 0
SpellsValue None ts = ts ≡ []
SpellsValue (Some e) ts = (x : Token) × (a : List Token) × (ts ≡ x ∷ a) × (is_sign s.Assign x ≡ true) × SpellsInfix e a

abbrev pub SpellsField : t.Field → List Token → Type 0
SpellsField f ts =
    (x y z : Token) × (a b d : List Token) × (ts ≡ x ∷ y ∷ z ∷ (a ++ (b ++ d))) × (is_word (local_word f.fixed) x ≡ true) × IsName y f.name
    × (is_sign s.Colon z ≡ true) × SpellsType f.ty a × SpellsValue f.value b × IsDoc d

-- ["=>" [doc] Seq]
abbrev pub SpellsBody : Option t.Seq → List Token → Type 0
SpellsBody None ts = ts ≡ []
SpellsBody (Some b) ts = (x : Token) × (d a : List Token) × (ts ≡ x ∷ (d ++ a)) × (is_sign s.Arrow x ≡ true) × IsDoc d × SpellsSeq b a

abbrev pub method_word : MethodWord → Word
method_word method.Fun = w.FunWord
method_word method.Be = w.BeWord
method_word method.New = w.NewWord

-- only a function has a written result
abbrev pub MayReturn : MethodWord → Option TypeRef → Type 0
MayReturn method.Fun r = Unit {0}
MayReturn m r = r ≡ None

abbrev pub SpellsMethod : EntityKind → t.Method → List Token → Type 0
SpellsMethod e m ts =
    (x y : Token) × (a p r d b : List Token) × (ts ≡ x ∷ (a ++ y ∷ (p ++ (r ++ (d ++ b))))) × (is_word (method_word m.word) x ≡ true) × SpellsCap m.cap a × IsName y m.name
    × SpellsParams m.params p × SpellsReturns m.result r × IsDoc d × SpellsBody m.body b
    × (may_stand e m.word ≡ true) × CapIf (may_have_method_cap e m.word) m.cap × MayReturn m.word m.result × BodyUnless (is_abstract e) m.body

-- ---- entities and files

abbrev pub entity_word : EntityKind → Word
entity_word = at_kind w.ClassWord w.ActorWord w.PrimitiveWord w.TraitWord w.InterfaceWord

-- {"&" TypeName}
abbrev pub SpellsMoreNames : List Name → List Token → Type 0
SpellsMoreNames [] ts = ts ≡ []
SpellsMoreNames (m ∷ ms) ts = (x y : Token) × (a : List Token) × (ts ≡ x ∷ y ∷ a) × (is_sign s.Ampersand x ≡ true) × IsTypeName y m × SpellsMoreNames ms a

-- TypeName {"&" TypeName}
abbrev pub SpellsNames : List Name → List Token → Type 0
SpellsNames [] ts = ⊥
SpellsNames (m ∷ ms) ts = (x : Token) × (a : List Token) × (ts ≡ x ∷ a) × IsTypeName x m × SpellsMoreNames ms a

-- "(" TypeName {"&" TypeName} ")"
abbrev pub SpellsBracketed : List Name → List Token → Type 0
SpellsBracketed ms ts = (x y : Token) × (a : List Token) × (ts ≡ x ∷ (a ++ y ∷ [])) × (is_sign s.OpenParen x ≡ true) × SpellsNames ms a × (is_sign s.CloseParen y ≡ true)

-- a type name alone
abbrev pub SpellsAlone : List Name → List Token → Type 0
SpellsAlone (m ∷ []) ts = (x : Token) × (ts ≡ x ∷ []) × IsTypeName x m
SpellsAlone ms ts = ⊥

-- ["is" (TypeName | "(" TypeName {"&" TypeName} ")")]
abbrev pub SpellsProvides : List Name → List Token → Type 0
SpellsProvides [] ts = ts ≡ []
SpellsProvides (m ∷ ms) ts = (x : Token) × (a : List Token) × (ts ≡ x ∷ a) × (is_word w.IsWord x ≡ true) × (SpellsAlone (m ∷ ms) a ⊎ SpellsBracketed (m ∷ ms) a)

abbrev pub SpellsEntity : t.Entity → List Token → Type 0
SpellsEntity e ts =
    (x y : Token) × (a p d f b : List Token) × (ts ≡ x ∷ (a ++ y ∷ (p ++ (d ++ (f ++ b))))) × (is_word (entity_word e.kind) x ≡ true) × SpellsCap e.cap a × IsTypeName y e.name
    × SpellsProvides e.provides p × IsDoc d × SpellsEach SpellsField e.fields f × SpellsEach (SpellsMethod e.kind) e.methods b × CapIf (may_have_cap e.kind) e.cap × FieldsIf (may_have_fields e.kind) e.fields

-- Entity {Entity}
abbrev pub SpellsEntities : List t.Entity → List Token → Type 0
SpellsEntities [] ts = ⊥
SpellsEntities (e ∷ es) ts = (a b : List Token) × (ts ≡ a ++ b) × SpellsEntity e a × SpellsEach SpellsEntity es b

-- the whole list, with its `End`
abbrev pub SpellsFile : t.File → List Token → Type 0
SpellsFile f ts = (d a : List Token) × (x : Token) × (ts ≡ d ++ (a ++ x ∷ [])) × IsDoc d × SpellsEntities f.entities a × (x.kind ≡ k.End)

-- These tokens spell the file, which opens no more levels than the limit.
abbrev pub IsSpelled : t.File → List Token → Type 0
IsSpelled f ts = SpellsFile f ts × (file_depth f ≤ level_limit)
