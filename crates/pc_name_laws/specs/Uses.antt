-- What a body uses, and what is visible there.
use Rattle.std.specs.Prelude.{◌≡◌, ◌⊎◌, ℕ, List, [], ◌∷◌, ◌++◌, map, Option, Some, None}
use Rattle.pc_base.specs.{Lists.{Has, Text}, declared.span.Span.Span}
use Rattle.pc_tree.specs.{declared.written_names.Name.Name, declared.written_names.TypeRef.TypeRef, declared.file.ParamDef.ParamDef}
use Rattle.pc_body_spec.specs.Faults.{Next, end, next_of}
use Rattle.pc_members.specs.Members.{Member, written, added}
use Rattle.pc_tree.specs.declared.kinds.MethodWord.TheVariants as word
use Rattle.pc_tree.specs.Tree as t

-- What can be at fault in a body.
pub data NameUse : Type 0 where
  -- a bare name, and what follows it directly
  bare : Name → Next → NameUse
  -- the name after `consume`
  consumed : Name → NameUse
  -- a type name as an expression, and what follows it directly
  type_value : Name → Next → NameUse
  -- a type name that starts a chain, the name after its `.`, and what follows that directly
  member_of : Name → Name → Next → NameUse
  -- the name of a local, at its definition
  local : Name → NameUse
  -- the type that is written for a local
  local_type : Name → NameUse
  literal : List ℕ → Span → NameUse

-- A use, with the names of the locals and parameters that are visible there.
pub record Spot : Type 0 where
  pub visible : List Text
  pub what : NameUse

abbrev pub spot : List Text → NameUse → Spot
spot visible u = record { visible = visible; what = u }

abbrev pub Here : List Text → NameUse → Spot → Type 0
Here visible u x = x ≡ spot visible u

-- The type name with which a chain starts.
abbrev pub type_name_of : t.Expr → Option Name
type_name_of (t.type_name n) = Some n
type_name_of e = None

abbrev pub BehindDot : List Text → Option Name → Name → Next → Spot → Type 0
BehindDot visible None n next x = ⊥
BehindDot visible (Some of) n next x = Here visible (member_of of n next) x

abbrev pub TypeIn : List Text → Option TypeRef → Spot → Type 0
TypeIn visible None x = ⊥
TypeIn visible (Some ty) x = Here visible (local_type ty.name) x

-- A local is visible after its definition, up to the end of its sequence.
abbrev pub visible_after : List Text → t.Item → List Text
visible_after visible (t.local fixed n ty e s) = visible ++ n.text ∷ []
visible_after visible (t.plain e) = visible

-- The spot is in the expression, where these names are visible before it and this follows it.
abbrev mutual
  pub In : List Text → Next → t.Expr → Spot → Type 0
  In visible next (t.number n s) x = ⊥
  In visible next (t.truth b s) x = ⊥
  In visible next (t.text b s) x = Here visible (literal b s) x
  In visible next (t.name n) x = Here visible (bare n next) x
  In visible next (t.type_name n) x = Here visible (type_value n next) x
  In visible next (t.this s) x = ⊥
  In visible next (t.consume n s) x = Here visible (consumed n) x
  In visible next (t.not_ e s) x = In visible end e x
  In visible next (t.infix_ o es s) x = InExprs visible es x
  In visible next (t.chain h ss s) x = In visible (next_of ss) h x ⊎ InSuffixes visible (type_name_of h) ss x
  In visible next (t.group b s) x = InSeq visible b x
  In visible next (t.if_ as' o s) x = InArms visible as' x ⊎ InOther visible o x
  In visible next (t.while_ cond b s) x = InSeq visible cond x ⊎ InSeq visible b x
  In visible next (t.recover k b s) x = InSeq visible b x
  In visible next (t.assign l r s) x = In visible end l x ⊎ In visible end r x

  pub InExprs : List Text → t.Exprs → Spot → Type 0
  InExprs visible t.no_exprs x = ⊥
  InExprs visible (t.expr e es) x = In visible end e x ⊎ InExprs visible es x

  -- Directly after a type name, if there is one.
  pub InSuffixes : List Text → Option Name → t.Suffixes → Spot → Type 0
  InSuffixes visible of t.no_suffixes x = ⊥
  InSuffixes visible of (t.suffix (t.dot n) ss) x = BehindDot visible of n (next_of ss) x ⊎ InSuffixes visible None ss x
  InSuffixes visible of (t.suffix (t.args es s) ss) x = InExprs visible es x ⊎ InSuffixes visible None ss x

  pub InArm : List Text → t.Arm → Spot → Type 0
  InArm visible (t.arm_of cond b s) x = InSeq visible cond x ⊎ InSeq visible b x

  pub InArms : List Text → t.Arms → Spot → Type 0
  InArms visible t.no_arms x = ⊥
  InArms visible (t.arm a as') x = InArm visible a x ⊎ InArms visible as' x

  pub InOther : List Text → t.Other → Spot → Type 0
  InOther visible t.no_other x = ⊥
  InOther visible (t.other b) x = InSeq visible b x

  pub InSeq : List Text → t.Seq → Spot → Type 0
  InSeq visible (t.seq is s) x = InItems visible is x

  pub InItems : List Text → t.Items → Spot → Type 0
  InItems visible t.no_items x = ⊥
  InItems visible (t.item i is) x = InItem visible i x ⊎ InItems (visible_after visible i) is x

  pub InItem : List Text → t.Item → Spot → Type 0
  InItem visible (t.local fixed n ty e s) x = Here visible (local n) x ⊎ TypeIn visible ty x ⊎ In visible end e x
  InItem visible (t.plain e) x = In visible end e x

-- In an initial value no local or parameter is visible.
abbrev pub InValue : Option t.Expr → Spot → Type 0
InValue None x = ⊥
InValue (Some e) x = In [] end e x

abbrev pub InInitials : List t.Field → Spot → Type 0
InInitials fs x = (f : t.Field) × Has fs f × InValue f.value x

abbrev pub InBody : List Text → Option t.Seq → Spot → Type 0
InBody visible None x = ⊥
InBody visible (Some b) x = InSeq visible b x

abbrev pub param_texts : List ParamDef → List Text
param_texts ps = map (λ (p : ParamDef). p.name.text) ps

-- Initial values are part of each constructor.
abbrev pub InMember : t.Entity → Member → Spot → Type 0
InMember e (written m) x = ((m.word ≡ word.New) × InInitials e.fields x) ⊎ InBody (param_texts m.params) m.body x
InMember e added x = InInitials e.fields x
