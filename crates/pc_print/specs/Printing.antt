-- The printed text of a tree.
use Rattle.std.specs.{Prelude.{ℕ, ◌/◌, ◌%◌, ◌==◌, ◌||◌, nat_lt, List, [], ◌∷◌, ◌++◌, if◌then◌else◌, Option, codes, decimal, flat_map}, Char.digit_char, List.join_by, Option.option_map_or}
use Rattle.pc_caps.specs.{declared.capability.Cap.Cap, Words.cap_name}
use Rattle.pc_tree.specs.{declared.written_names.Name.Name, declared.written_names.TypeRef.TypeRef, declared.file.ParamDef.ParamDef, declared.kinds.Op.Op}
use Rattle.pc_token.specs.Words.{word_text}
use Rattle.pc_grammar.specs.Spells.{local_word, truth_word, method_word, entity_word}
use Rattle.pc_caps.specs.declared.capability.Cap.TheVariants as c
use Rattle.pc_tree.specs.Tree as t
use Rattle.pc_tree.specs.declared.kinds.Op.TheVariants as o

-- One byte of a text literal: `"`, `\`, LF, CR, TAB and 0 as `\` and a letter, other bytes below 32 and 127 as `\x` and
-- two digits, the rest as they are.
unfoldable pub escaped : ℕ → List ℕ
escaped b =
    if b == 34 then 92 ∷ 34 ∷ []
    else (if b == 92 then 92 ∷ 92 ∷ []
    else (if b == 10 then 92 ∷ 110 ∷ []
    else (if b == 13 then 92 ∷ 114 ∷ []
    else (if b == 9 then 92 ∷ 116 ∷ []
    else (if b == 0 then 92 ∷ 48 ∷ []
    else (if nat_lt b 32 || b == 127 then 92 ∷ 120 ∷ digit_char (b / 16) ∷ digit_char (b % 16) ∷ []
    else b ∷ []))))))

-- ---- capabilities, operators and types

abbrev pub op_text : Op → List ℕ
op_text o.Add = codes "+"
op_text o.Sub = codes "-"
op_text o.Mul = codes "*"
op_text o.Div = codes "/"
op_text o.Rem = codes "%"
op_text o.Eq = codes "=="
op_text o.Ne = codes "!="
op_text o.Lt = codes "<"
op_text o.Le = codes "<="
op_text o.Gt = codes ">"
op_text o.Ge = codes ">="
op_text o.And = codes "and"
op_text o.Or = codes "or"
op_text o.Xor = codes "xor"
op_text o.Is = codes "is"
op_text o.Isnt = codes "isnt"

-- ` cap`, if one is written
abbrev pub printed_cap : Option Cap → List ℕ
printed_cap cap = option_map_or (λ k. codes " " ++ cap_name k) cap []

-- `T cap^`
abbrev pub printed_type_ref : TypeRef → List ℕ
printed_type_ref r = r.name.text ++ (printed_cap r.cap ++ (if r.hat then codes "^" else []))

-- `: T cap`, if a type is written
abbrev pub printed_type : Option TypeRef → List ℕ
printed_type ty = option_map_or (λ r. codes ": " ++ printed_type_ref r) ty []

-- ---- expressions

-- In a list, the first part comes after the text `first`, and each later one after the text `other`.
abbrev mutual
  pub printed_expr : t.Expr → List ℕ
  printed_expr (t.number n sp) = decimal n
  printed_expr (t.truth b sp) = word_text (truth_word b)
  printed_expr (t.text v sp) = 34 ∷ (flat_map escaped v ++ 34 ∷ [])
  printed_expr (t.name m) = m.text
  printed_expr (t.type_name m) = m.text
  printed_expr (t.this sp) = codes "this"
  printed_expr (t.consume m sp) = codes "consume " ++ m.text
  printed_expr (t.not_ e sp) = codes "not " ++ printed_expr e
  printed_expr (t.infix_ o es sp) = printed_exprs [] (codes " " ++ (op_text o ++ codes " ")) es
  printed_expr (t.chain e ss sp) = printed_expr e ++ printed_suffixes ss
  printed_expr (t.group b sp) = codes "(" ++ (printed_seq b ++ codes ")")
  printed_expr (t.if_ as' o sp) = printed_arms (codes "if ") (codes " elseif ") as' ++ (printed_other o ++ codes " end")
  printed_expr (t.while_ c b sp) = codes "while " ++ (printed_seq c ++ (codes " do " ++ (printed_seq b ++ codes " end")))
  printed_expr (t.recover c b sp) = codes "recover" ++ (printed_cap c ++ (codes " " ++ (printed_seq b ++ codes " end")))
  printed_expr (t.assign l r sp) = printed_expr l ++ (codes " = " ++ printed_expr r)

  pub printed_exprs : (first other : List ℕ) → t.Exprs → List ℕ
  printed_exprs first other t.no_exprs = []
  printed_exprs first other (t.expr e es) = first ++ (printed_expr e ++ printed_exprs other other es)

  pub printed_suffix : t.Suffix → List ℕ
  printed_suffix (t.dot m) = codes "." ++ m.text
  printed_suffix (t.args es sp) = codes "(" ++ (printed_exprs [] (codes ", ") es ++ codes ")")

  pub printed_suffixes : t.Suffixes → List ℕ
  printed_suffixes t.no_suffixes = []
  printed_suffixes (t.suffix x ss) = printed_suffix x ++ printed_suffixes ss

  -- `s then s`
  pub printed_arm : t.Arm → List ℕ
  printed_arm (t.arm_of c b sp) = printed_seq c ++ (codes " then " ++ printed_seq b)

  pub printed_arms : (first other : List ℕ) → t.Arms → List ℕ
  printed_arms first other t.no_arms = []
  printed_arms first other (t.arm x xs) = first ++ (printed_arm x ++ printed_arms other other xs)

  pub printed_other : t.Other → List ℕ
  printed_other t.no_other = []
  printed_other (t.other b) = codes " else " ++ printed_seq b

  -- `s; s`, on one line
  pub printed_seq : t.Seq → List ℕ
  printed_seq (t.seq is sp) = printed_items [] (codes "; ") is

  pub printed_items : (first other : List ℕ) → t.Items → List ℕ
  printed_items first other t.no_items = []
  printed_items first other (t.item i is) = first ++ (printed_item i ++ printed_items other other is)

  pub printed_item : t.Item → List ℕ
  printed_item (t.local f m ty e sp) = word_text (local_word f) ++ (codes " " ++ (m.text ++ (printed_type ty ++ (codes " = " ++ printed_expr e))))
  printed_item (t.plain e) = printed_expr e

-- ---- members: each begins after the end of a line

-- the items of a body, each on a line of its own
abbrev pub body_lines : t.Seq → List ℕ
body_lines (t.seq is sp) = printed_items (codes "\n    ") (codes "\n    ") is

-- `  var x: T`, with ` = e` if there is a value
abbrev pub printed_field : t.Field → List ℕ
printed_field f = codes "\n  "
    ++ (word_text (local_word f.fixed) ++ (codes " " ++ (f.name.text ++ (codes ": " ++ (printed_type_ref f.ty ++ option_map_or (λ e. codes " = " ++ printed_expr e) f.value [])))))

abbrev pub printed_param : ParamDef → List ℕ
printed_param d = d.name.text ++ (codes ": " ++ printed_type_ref d.ty)

-- `  fun cap m(x: T, y: U): V`, with ` =>` and the lines of the body if there is one
abbrev pub printed_method : t.Method → List ℕ
printed_method m = codes "\n  "
    ++ (word_text (method_word m.word) ++ (printed_cap m.cap ++ (codes " " ++ (m.name.text ++ (codes "(" ++ (join_by printed_param (codes ", ") m.params ++ (codes ")" ++ (printed_type m.result ++ option_map_or (λ b. codes " =>" ++ body_lines b) m.body []))))))))

-- ---- entities and files

-- ` is T`, ` is (A & B)`
abbrev pub printed_provides : List Name → List ℕ
printed_provides [] = []
printed_provides (m ∷ []) = codes " is " ++ m.text
printed_provides ms = codes " is (" ++ (join_by (λ (m : Name). m.text) (codes " & ") ms ++ codes ")")

abbrev pub printed_entity : t.Entity → List ℕ
printed_entity e = word_text (entity_word e.kind)
    ++ (printed_cap e.cap ++ (codes " " ++ (e.name.text ++ (printed_provides e.provides ++ (flat_map printed_field e.fields ++ flat_map printed_method e.methods)))))

-- the bytes of a printed tree, with an empty line between two entities
unfoldable pub printed : t.File → List ℕ
printed f = join_by printed_entity (codes "\n\n") f.entities ++ codes "\n"
