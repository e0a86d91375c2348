-- The tree as plain data: no pointers, and a separate type for each kind of list of subtrees.
use Rattle.std.specs.Prelude.{ℕ, List, Bool, Option}
use Rattle.pc_base.specs.declared.span.Span.{Span}
use Rattle.pc_caps.specs.declared.capability.Cap.{Cap}
use Rattle.pc_tree.specs.{declared.kinds.Op.Op, declared.kinds.EntityKind.EntityKind, declared.kinds.MethodWord.MethodWord, declared.written_names.Name.Name, declared.written_names.TypeRef.TypeRef, declared.file.ParamDef.ParamDef}

mutual
  pub data Expr : Type 0 where
    number : ℕ → Span → Expr
    truth : Bool → Span → Expr
    text : List ℕ → Span → Expr
    name : Name → Expr
    type_name : Name → Expr
    this : Span → Expr
    consume : Name → Span → Expr
    not_ : Expr → Span → Expr
    infix_ : Op → Exprs → Span → Expr
    chain : Expr → Suffixes → Span → Expr
    group : Seq → Span → Expr
    if_ : Arms → Other → Span → Expr
    while_ : Seq → Seq → Span → Expr
    recover : Option Cap → Seq → Span → Expr
    assign : Expr → Expr → Span → Expr

  pub data Exprs : Type 0 where
    no_exprs : Exprs
    expr : Expr → Exprs → Exprs

  pub data Suffix : Type 0 where
    dot : Name → Suffix
    args : Exprs → Span → Suffix

  pub data Suffixes : Type 0 where
    no_suffixes : Suffixes
    suffix : Suffix → Suffixes → Suffixes

  -- a condition and what is done if it holds
  pub data Arm : Type 0 where
    arm_of : Seq → Seq → Span → Arm

  pub data Arms : Type 0 where
    no_arms : Arms
    arm : Arm → Arms → Arms

  -- what comes after `else`, if anything
  pub data Other : Type 0 where
    no_other : Other
    other : Seq → Other

  pub data Seq : Type 0 where
    seq : Items → Span → Seq

  pub data Item : Type 0 where
    local : Bool → Name → Option TypeRef → Expr → Span → Item
    plain : Expr → Item

  pub data Items : Type 0 where
    no_items : Items
    item : Item → Items → Items

pub record Field : Type 0 where
  pub fixed : Bool
  pub name : Name
  pub ty : TypeRef
  pub value : Option Expr

pub record Method : Type 0 where
  pub word : MethodWord
  pub cap : Option Cap
  pub name : Name
  pub params : List ParamDef
  pub result : Option TypeRef
  pub body : Option Seq

pub record Entity : Type 0 where
  pub kind : EntityKind
  pub cap : Option Cap
  pub name : Name
  pub provides : List Name
  pub fields : List Field
  pub methods : List Method

pub record File : Type 0 where
  pub entities : List Entity

-- the span of an expression in the text
abbrev pub span_of : Expr → Span
span_of (number n s) = s
span_of (truth b s) = s
span_of (text b s) = s
span_of (name n) = n.span
span_of (type_name n) = n.span
span_of (this s) = s
span_of (consume n s) = s
span_of (not_ e s) = s
span_of (infix_ o es s) = s
span_of (chain e ss s) = s
span_of (group b s) = s
span_of (if_ a o s) = s
span_of (while_ c b s) = s
span_of (recover c b s) = s
span_of (assign l r s) = s
