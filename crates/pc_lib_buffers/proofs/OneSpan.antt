-- A source is refused at exactly one span, or at none.
use Rattle.std.proofs.{Common.{◌≡◌, ◌∙◌, ℕ, List, ◌∷◌, Option, Some, inl, inr, refl, sym, ap, subst, arith}, lemmas.Option.same_Some}
use Rattle.std.specs.Prelude.{slice_get}
use Rattle.pc_ann.specs.declared.annotation.Ann.{Ann}
use Rattle.pc_base.specs.{declared.span.Span.Span, Lists.Ascends}
use Rattle.pc_check.specs.Laws.{NoneWithFault, NoneWithUnset, NoneWithoutRule, OneConstructor, OneKindOfFault, OneNode}
use Rattle.pc_core.specs.{CoreData.CoreData, Formed.Formed, declared.declarations.Method.Method, declared.nodes.Node.Node}
use Rattle.pc_core_relation.specs.Files.{IsCoreOf}
use Rattle.pc_core_relation.proofs.Ones.{standing_cores_are_made, standing_cores_are_one}
use Rattle.pc_elab.specs.Cores.{CoresAreFormed, IsSpelledFile}
use Rattle.pc_explain.specs.Explanation.{decl_span}
use Rattle.pc_grammar.specs.FileAnswers as answer
use Rattle.pc_names.specs.{Faults.IsNotMemory, declared.fault.NameFault.NameFault}
use Rattle.pc_refusals.proofs.OneSource.{SourceLaws, never_misnamed, never_misused, not_both_faults, one_member_fault}
use Rattle.pc_valid.specs.NoRule.{NoRule, Unset}
use Rattle.pc_sub.specs.{Declarations.DeclOk, DeclarationLaws.{NoFaultWhereFit, OneFirstFault}, FirstFault.IsFirstDeclarationFault, declared.faults.DeclFault.DeclFault}
use Rattle.pc_text_order.specs.Laws.{TokensAscend, starts}
use Rattle.pc_token.specs.declared.kinds.Token.{Token}
use Rattle.pc_tree.specs.Tree as t
use Rattle.pc_lib_buffers.specs.{Laws.SpansAreOne, Refused.{AreRefusedAt, IsCoreRefusedAt, IsFileFault, IsFileRefusedAt, lex_span, name_span}, Refused.AreRefusedAt.{spell, too_deep, unexpected}, Refused.IsCoreRefusedAt.{declared, derived, no_rule, unset}, Refused.IsFileRefusedAt.{has_core, has_fault}, Refused.IsRefusedAt.{faulty, lexed, longer}}

-- What this rests on.
pub record Laws : Type 0 where
  pub source : SourceLaws
  pub ascend : TokensAscend
  pub formed : CoresAreFormed
  pub fits : NoFaultWhereFit
  pub one_declared : OneFirstFault
  pub ruleless : NoneWithoutRule
  pub setless : NoneWithUnset
  pub failing : NoneWithFault
  pub node : OneNode
  pub constructor : OneConstructor
  pub kind : OneKindOfFault

file_same : (f g : t.File) → answer.spelled f ≡ answer.spelled g → f ≡ g
file_same f g e = cc e

unexpected_same : (x y : Token) (r q : List Token) → answer.unexpected (x ∷ r) ≡ answer.unexpected (y ∷ q) → x ≡ y
unexpected_same x y r q e = cc e

deep_same : (x y : Token) (r q : List Token) → answer.too_deep (x ∷ r) ≡ answer.too_deep (y ∷ q) → x ≡ y
deep_same x y r q e = cc e

spelled_unexpected : {C : Type 0} (f : t.File) (r : List Token) → answer.spelled f ≡ answer.unexpected r → C
spelled_unexpected f r e = cc

spelled_deep : {C : Type 0} (f : t.File) (r : List Token) → answer.spelled f ≡ answer.too_deep r → C
spelled_deep f r e = cc

unexpected_deep : {C : Type 0} (r q : List Token) → answer.unexpected r ≡ answer.too_deep q → C
unexpected_deep r q e = cc

module _ (laws : Laws) where
  -- ---- the core

  module _ (core : CoreData) (is : Formed core) where
    no_fault : (f : DeclFault) → DeclOk core → IsFirstDeclarationFault core f → ⊥
    no_fault f d e = (laws.fits core is).0 d f e

    node_same : (a b : Ann) (n m : ℕ) (s : NoRule core a n) (r : NoRule core b m) → n ≡ m → s.at ≡ r.at
    node_same a b n m s r e = same_Some s.at r.at (sym s.is_at ∙ (ap (slice_get core.nodes) e ∙ r.is_at))

    method_same : (a b : Ann) (n m : ℕ) (s : Unset core a n) (r : Unset core b m) → n ≡ m → s.method ≡ r.method
    method_same a b n m s r e = same_Some s.method r.method (sym s.is_method ∙ (ap (slice_get core.methods) e ∙ r.is_method))

    one_core : (x y : Option Span) → IsCoreRefusedAt core x → IsCoreRefusedAt core y → x ≡ y
    one_core _ _ (derived d) (derived e) = refl
    one_core _ _ (derived d) (declared f e) = absurd (laws.failing core f is e d)
    one_core _ _ (derived d) (no_rule a n h) = absurd (laws.ruleless core a n is h d)
    one_core _ _ (derived d) (unset a m left) = absurd (laws.setless core a m is left d)
    one_core _ _ (declared f e) (derived d) = absurd (laws.failing core f is e d)
    one_core _ _ (declared f e) (declared g h) = ap (λ (x : DeclFault). Some (decl_span core x)) (laws.one_declared core f g is e h)
    one_core _ _ (declared f e) (no_rule a n h) = absurd (no_fault f h.declarations e)
    one_core _ _ (declared f e) (unset a m left) = absurd (no_fault f left.declarations e)
    one_core _ _ (no_rule a n h) (derived d) = absurd (laws.ruleless core a n is h d)
    one_core _ _ (no_rule a n h) (declared f e) = absurd (no_fault f h.declarations e)
    one_core _ _ (no_rule a n h) (no_rule b m i) = ap (λ (x : Node). Some x.span) (node_same a b n m h i (laws.node core a b n m is h i))
    one_core _ _ (no_rule a n h) (unset b m left) = absurd (laws.kind core a b n m is h left)
    one_core _ _ (unset a m left) (derived d) = absurd (laws.setless core a m is left d)
    one_core _ _ (unset a m left) (declared f e) = absurd (no_fault f left.declarations e)
    one_core _ _ (unset a m left) (no_rule b n h) = absurd (laws.kind core b a n m is h left)
    one_core _ _ (unset a m left) (unset b k right) = ap (λ (x : Method). Some x.span) (method_same a b m k left right (laws.constructor core a b m k is left right))

  -- ---- the tree

  module _ (file : t.File) (spelled : IsSpelledFile file) where
    not_both : {C : Type 0} (core : CoreData) (f : NameFault) → IsCoreOf file core → IsNotMemory f → IsFileFault file f → C
    not_both core f s o (inl h) = absurd (never_misnamed laws.source file core f s o h)
    not_both core f s o (inr h) = absurd (never_misused laws.source file core f s h)

    one_fault : (f g : NameFault) → IsNotMemory f → IsNotMemory g → IsFileFault file f → IsFileFault file g → f ≡ g
    one_fault f g o p (inl h) (inl i) = laws.source.name_fault file f g o p h i
    one_fault f g o p (inl h) (inr i) = absurd (not_both_faults laws.source file f g o h i)
    one_fault f g o p (inr h) (inl i) = absurd (not_both_faults laws.source file g f p i h)
    one_fault f g o p (inr h) (inr i) = one_member_fault laws.source file f g h i

    one_file : (x y : Option Span) → IsFileRefusedAt file x → IsFileRefusedAt file y → x ≡ y
    one_file x y (has_core {core = c} s h) (has_core {core = d} r k) =
        let same : d ≡ c = standing_cores_are_one file d c r s in
        one_core c (laws.formed file c spelled (standing_cores_are_made file c s)).0 x y h (subst (λ (q : CoreData). IsCoreRefusedAt q y) same k)
    one_file _ _ (has_core {core = c} s h) (has_fault f o k) = not_both c f s o k
    one_file _ _ (has_fault f o k) (has_core {core = c} s h) = not_both c f s o k
    one_file _ _ (has_fault f o h) (has_fault g p k) = ap name_span (one_fault f g o p h k)

  -- ---- the tokens

  module _ (ts : List Token) (rising : Ascends (starts ts)) where
    one_tokens : (x y : Option Span) → AreRefusedAt ts x → AreRefusedAt ts y → x ≡ y
    one_tokens x y (spell {file = f} a h) (spell {file = g} b k) =
        let same : g ≡ f = file_same g f (laws.source.tree ts (answer.spelled g) (answer.spelled f) b a) in
        one_file f (ts, a.0, rising) x y h (subst (λ (q : t.File). IsFileRefusedAt q y) same k)
    one_tokens _ _ (spell {file = f} a h) (unexpected {x = x} {rest = r} b) = spelled_unexpected f (x ∷ r) (laws.source.tree ts (answer.spelled f) (answer.unexpected (x ∷ r)) a b)
    one_tokens _ _ (spell {file = f} a h) (too_deep {x = x} {rest = r} b) = spelled_deep f (x ∷ r) (laws.source.tree ts (answer.spelled f) (answer.too_deep (x ∷ r)) a b)
    one_tokens _ _ (unexpected {x = x} {rest = r} b) (spell {file = f} a h) = spelled_unexpected f (x ∷ r) (laws.source.tree ts (answer.spelled f) (answer.unexpected (x ∷ r)) a b)
    one_tokens _ _ (unexpected {x = x} {rest = r} a) (unexpected {x = y} {rest = q} b) =
        ap (λ (u : Token). Some u.span) (unexpected_same x y r q (laws.source.tree ts (answer.unexpected (x ∷ r)) (answer.unexpected (y ∷ q)) a b))
    one_tokens _ _ (unexpected {x = x} {rest = r} a) (too_deep {x = y} {rest = q} b) = unexpected_deep (x ∷ r) (y ∷ q) (laws.source.tree ts (answer.unexpected (x ∷ r)) (answer.too_deep (y ∷ q)) a b)
    one_tokens _ _ (too_deep {x = x} {rest = r} b) (spell {file = f} a h) = spelled_deep f (x ∷ r) (laws.source.tree ts (answer.spelled f) (answer.too_deep (x ∷ r)) a b)
    one_tokens _ _ (too_deep {x = y} {rest = q} b) (unexpected {x = x} {rest = r} a) = unexpected_deep (x ∷ r) (y ∷ q) (laws.source.tree ts (answer.unexpected (x ∷ r)) (answer.too_deep (y ∷ q)) a b)
    one_tokens _ _ (too_deep {x = x} {rest = r} a) (too_deep {x = y} {rest = q} b) =
        ap (λ (u : Token). Some u.span) (deep_same x y r q (laws.source.tree ts (answer.too_deep (x ∷ r)) (answer.too_deep (y ∷ q)) a b))

  -- ---- the bytes

  pub one_span : SpansAreOne
  one_span source _ _ (longer l) (longer m) = refl
  one_span source _ _ (longer l) (lexed short h a) = absurd (omega (arith, l, short))
  one_span source _ _ (longer l) (faulty f short h) = absurd (omega (arith, l, short))
  one_span source _ _ (lexed short h a) (longer l) = absurd (omega (arith, l, short))
  one_span source x y (lexed {ts = t} short h a) (lexed {ts = u} small k b) =
      let same : u ≡ t = laws.source.list source u t k.0 h.0 in
      one_tokens t (laws.ascend source t h.0) x y a (subst (λ (q : List Token). AreRefusedAt q y) same b)
  one_span source _ _ (lexed {ts = t} short h a) (faulty f small k) = absurd (laws.source.both source t f h k)
  one_span source _ _ (faulty f short h) (longer l) = absurd (omega (arith, l, short))
  one_span source _ _ (faulty f short h) (lexed {ts = t} small k b) = absurd (laws.source.both source t f k h)
  one_span source _ _ (faulty f short h) (faulty g small k) = ap (lex_span source) (laws.source.fault source f g h k)
