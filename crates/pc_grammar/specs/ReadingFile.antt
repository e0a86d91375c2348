-- How a file is read from the left, with one token of lookahead.
use Rattle.std.specs.Prelude.{ℕ, Bool, true, false, ◌||◌, List, [], ◌∷◌, Option, Some, None, if◌then◌else◌}
use Rattle.pc_caps.specs.declared.capability.Cap.{Cap}
use Rattle.pc_tree.specs.{declared.written_names.Name.Name, declared.written_names.TypeRef.TypeRef, declared.file.ParamDef.ParamDef, declared.kinds.EntityKind.EntityKind, declared.kinds.MethodWord.MethodWord, Kinds.{is_abstract, may_have_cap, may_have_fields, may_stand, may_have_method_cap}}
use Rattle.pc_token.specs.{declared.kinds.Token.Token, declared.kinds.TokenKind.TokenKind, Words.{is_sign, is_word}}
use Rattle.pc_grammar.specs.{Spells.{local_word, method_word, entity_word}, Reading.{Parser, ◌>>=◌, ◌>>◌, pure, refuse, peek, take_if, take_any, all, after, at, name, type_name, maybe_cap, written_type, seq, infix_}}
use Rattle.pc_tree.specs.Tree as t
use Rattle.pc_tree.specs.declared.kinds.EntityKind.TheVariants as kind
use Rattle.pc_tree.specs.declared.kinds.MethodWord.TheVariants as method
use Rattle.pc_token.specs.declared.kinds.TokenKind.TheVariants as k
use Rattle.pc_token.specs.declared.words.Word.TheVariants as w
use Rattle.pc_token.specs.declared.signs.Sign.TheVariants as s

abbrev pub kind_is_doc : TokenKind → Bool
kind_is_doc k.Doc = true
kind_is_doc _ = false

unfoldable pub is_doc : Token → Bool
is_doc x = kind_is_doc x.kind

abbrev pub kind_is_end : TokenKind → Bool
kind_is_end k.End = true
kind_is_end _ = false

unfoldable pub is_end : Token → Bool
is_end x = kind_is_end x.kind

-- [doc]
unfoldable pub maybe_doc : Parser (Unit {0})
maybe_doc = peek >>= λ x. if is_doc x then (take_any >> pure tt) else pure tt

-- ["^"]
unfoldable pub maybe_hat : Parser Bool
maybe_hat = peek >>= λ x. if is_sign s.Caret x then (take_any >> pure true) else pure false

-- TypeName [Cap] ["^"]
unfoldable pub result_type : Parser TypeRef
result_type = type_name >>= λ m. maybe_cap >>= λ c. maybe_hat >>= λ h. pure (record { name = m; cap = c; hat = h })

-- [":" Result]
unfoldable pub returns : Parser (Option TypeRef)
returns = peek >>= λ x. if is_sign s.Colon x then (take_if (is_sign s.Colon) >> result_type >>= λ r. pure (Some r)) else pure None

-- Name ":" Type
unfoldable pub param : Parser ParamDef
param = name >>= λ m. take_if (is_sign s.Colon) >> written_type >>= λ r. pure (record { name = m; ty = r })

-- [Name ":" Type {"," Name ":" Type}], before a ")"
unfoldable pub param_list : Parser (List ParamDef)
param_list = peek >>= λ x. if is_sign s.CloseParen x then pure [] else (param >>= λ p. all (after (is_sign s.Comma)) param >>= λ ps. pure (p ∷ ps))

unfoldable pub params : Parser (List ParamDef)
params = take_if (is_sign s.OpenParen) >> param_list >>= λ ps. take_if (is_sign s.CloseParen) >> pure ps

-- ["=" Infix], with n levels left
unfoldable pub value : ℕ → Parser (Option t.Expr)
value n = peek >>= λ x. if is_sign s.Assign x then (take_if (is_sign s.Assign) >> infix_ n >>= λ e. pure (Some e)) else pure None

-- Name ":" Type ["=" Infix] [doc], after `let` or `var`
unfoldable pub field : ℕ → Bool → Parser t.Field
field n f = take_if (is_word (local_word f)) >> name >>= λ m. take_if (is_sign s.Colon) >> written_type >>= λ r. value n >>= λ e. maybe_doc >> pure (record { fixed = f; name = m; ty = r; value = e })

unfoldable pub begins_field : Token → Bool
begins_field x = is_word w.LetWord x || is_word w.VarWord x

unfoldable pub some_field : ℕ → Parser t.Field
some_field n = peek >>= λ x. field n (is_word w.LetWord x)

-- {Field}, in an entity that may have fields
abbrev pub fields : ℕ → EntityKind → Parser (List t.Field)
fields n e = if may_have_fields e then all (at begins_field) (some_field n) else pure []

-- "=>" [doc] Seq
unfoldable pub written_body : ℕ → Parser (Option t.Seq)
written_body n = take_if (is_sign s.Arrow) >> maybe_doc >> seq n >>= λ b. pure (Some b)

-- ["=>" [doc] Seq]
unfoldable pub maybe_body : ℕ → Parser (Option t.Seq)
maybe_body n = peek >>= λ x. if is_sign s.Arrow x then written_body n else pure None

-- [Body] in a trait or an interface, Body elsewhere
abbrev pub body : ℕ → EntityKind → Parser (Option t.Seq)
body n e = if is_abstract e then maybe_body n else written_body n

-- [Cap], if one is allowed
abbrev pub cap_if : Bool → Parser (Option Cap)
cap_if b = if b then maybe_cap else pure None

abbrev pub method_cap : EntityKind → MethodWord → Parser (Option Cap)
method_cap e m = cap_if (may_have_method_cap e m)

abbrev pub method_result : MethodWord → Parser (Option TypeRef)
method_result method.Fun = returns
method_result method.Be = pure None
method_result method.New = pure None

unfoldable pub method_of : ℕ → EntityKind → MethodWord → Parser t.Method
method_of n e m =
    take_if (is_word (method_word m)) >> method_cap e m >>= λ c. name >>= λ i. params >>= λ ps. method_result m >>= λ r. maybe_doc >> body n e >>= λ b.
    pure (record { word = m; cap = c; name = i; params = ps; result = r; body = b })

-- the keyword of a method that may be in such an entity
abbrev pub word_in : EntityKind → MethodWord → Token → Bool
word_in e m x = if may_stand e m then is_word (method_word m) x else false

unfoldable pub begins_method : EntityKind → Token → Bool
begins_method e x = word_in e method.Fun x || (word_in e method.Be x || word_in e method.New x)

unfoldable pub some_method : ℕ → EntityKind → Parser t.Method
some_method n e = peek >>= λ x. if word_in e method.Fun x then method_of n e method.Fun else (if word_in e method.Be x then method_of n e method.Be else method_of n e method.New)

-- TypeName {"&" TypeName}
unfoldable pub type_names : Parser (List Name)
type_names = type_name >>= λ m. all (after (is_sign s.Ampersand)) type_name >>= λ ms. pure (m ∷ ms)

-- TypeName | "(" TypeName {"&" TypeName} ")"
unfoldable pub provided : Parser (List Name)
provided = peek >>= λ x. if is_sign s.OpenParen x then (take_if (is_sign s.OpenParen) >> type_names >>= λ ms. take_if (is_sign s.CloseParen) >> pure ms) else (type_name >>= λ m. pure (m ∷ []))

unfoldable pub provides : Parser (List Name)
provides = peek >>= λ x. if is_word w.IsWord x then (take_if (is_word w.IsWord) >> provided) else pure []

abbrev pub entity_cap : EntityKind → Parser (Option Cap)
entity_cap e = cap_if (may_have_cap e)

unfoldable pub entity_of : ℕ → EntityKind → Parser t.Entity
entity_of n e =
    take_if (is_word (entity_word e)) >> entity_cap e >>= λ c. type_name >>= λ m. provides >>= λ ps. maybe_doc >> fields n e >>= λ fs. all (at (begins_method e)) (some_method n e) >>= λ ms.
    pure (record { kind = e; cap = c; name = m; provides = ps; fields = fs; methods = ms })

abbrev pub entity_at : ℕ → Token → Parser t.Entity
entity_at n x =
    if is_word w.ClassWord x then entity_of n kind.Class else (if is_word w.ActorWord x then entity_of n kind.Actor else (
    if is_word w.PrimitiveWord x then entity_of n kind.Primitive else (if is_word w.TraitWord x then entity_of n kind.Trait else (if is_word w.InterfaceWord x then entity_of n kind.Interface else refuse))))

unfoldable pub entity : ℕ → Parser t.Entity
entity n = peek >>= entity_at n

unfoldable pub begins_entity : Token → Bool
begins_entity x = is_word w.ClassWord x || (is_word w.ActorWord x || (is_word w.PrimitiveWord x || (is_word w.TraitWord x || is_word w.InterfaceWord x)))

-- [doc] Entity {Entity} End, whose bodies and values may open n levels
unfoldable pub file : ℕ → Parser t.File
file n = maybe_doc >> entity n >>= λ e. all (at begins_entity) (entity n) >>= λ es. take_if is_end >> pure (record { entities = e ∷ es })
