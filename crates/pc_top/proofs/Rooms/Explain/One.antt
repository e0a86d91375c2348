-- Any two ends of the stages of `explain` are equal.
use Rattle.std.proofs.Common.{◌≡◌, List, Ok, Err, inl, inr, refl, ap, subst}
use Rattle.std.specs.Prelude.{Result}
use Rattle.pc_core.specs.{CoreData.CoreData, Formed.Formed}
use Rattle.pc_core_relation.specs.Files.{IsCoreOf}
use Rattle.pc_core_relation.proofs.Ones.{standing_cores_are_one}
use Rattle.pc_lex.specs.Pieces.{TokenList}
use Rattle.pc_base.specs.Lists.{Text}
use Rattle.pc_names.specs.{Faults.IsNotMemory, declared.fault.NameFault.NameFault}
use Rattle.pc_token.specs.declared.kinds.Token.{Token}
use Rattle.pc_tree.specs.Tree as t
use Rattle.pc_refusals.specs.{Source.FileStage, Ends.HasOneEnd, Verdict.{Reading, whole, Verdict}}
use Rattle.pc_refusals.proofs.OneSource.{differ, never_misnamed, never_misused, not_both_faults, ok_same, one_file, one_member_fault}
use Rattle.pc_explain_command.specs.{Explain.{CoreText, Explaining, IsFileFault, fault_end}, Explain.CoreText.{accepted, explained}, Explain.Explaining.{has_core, has_fault}}
use Rattle.pc_top.specs.{Commands.Explain.ExplainedStage, Commands.Explain.ExplainedStage.{has_none, has_tree}}
use Rattle.pc_top.proofs.{Deriving.file_says, Premises.Laws}

refusal_same : (v w : Verdict) (a b : Result t.File Verdict) → a ≡ Err v → b ≡ Err w → a ≡ b → v ≡ w
refusal_same v w a b p q e = cc

module _ (laws : Laws) (name : Text) where
  -- ---- the text of a core

  one_core_text : (bytes : Text) (tokens : List Token) (core : CoreData) → Formed core → (x y : Text) → CoreText name bytes tokens core x → CoreText name bytes tokens core y → x ≡ y
  one_core_text bytes tokens core is _ _ (accepted d) (accepted e) = refl
  one_core_text bytes tokens core is _ _ (accepted d) (explained {text = y} h) = absurd (laws.unexplained name bytes tokens core y is d h)
  one_core_text bytes tokens core is _ _ (explained {text = x} h) (accepted d) = absurd (laws.unexplained name bytes tokens core x is d h)
  one_core_text bytes tokens core is _ _ (explained {text = x} h) (explained {text = y} k) = laws.explanation name bytes tokens core x y is h k

  -- ---- a tree

  module _ (bytes : Text) (file : t.File) (read : FileStage name (whole bytes) (Ok file)) where
    -- its core fits together
    formed : (core : CoreData) → IsCoreOf file core → Formed core
    formed core stands =
        let says = file_says read in
        (laws.refusing.formed says.0 core (record { short = says.2; tokens = says.3; file = file; lexed = says.4; parsed = says.5; stands = stands })).0

    no_fault : {C : Type 0} (core : CoreData) (f : NameFault) → IsCoreOf file core → IsNotMemory f → IsFileFault file f → C
    no_fault core f s o (inl h) = absurd (never_misnamed laws.source file core f s o h)
    no_fault core f s o (inr h) = absurd (never_misused laws.source file core f s h)

    one_fault : (f g : NameFault) → IsNotMemory f → IsNotMemory g → IsFileFault file f → IsFileFault file g → f ≡ g
    one_fault f g o p (inl h) (inl i) = laws.source.name_fault file f g o p h i
    one_fault f g o p (inl h) (inr i) = absurd (not_both_faults laws.source file f g o h i)
    one_fault f g o p (inr h) (inl i) = absurd (not_both_faults laws.source file g f p i h)
    one_fault f g o p (inr h) (inr i) = one_member_fault laws.source file f g h i

    one_text : (ts us : List Token) (c d : CoreData) (x y : Text) → TokenList bytes ts → TokenList bytes us → IsCoreOf file c → IsCoreOf file d
        → CoreText name bytes ts c x → CoreText name bytes us d y → x ≡ y
    one_text ts us c d x y l m s r h k =
        let tokens : us ≡ ts = laws.source.list bytes us ts m.0 l.0 in
        let cores : d ≡ c = standing_cores_are_one file d c r s in
        let same : CoreText name bytes ts c y = subst (λ (q : List Token). CoreText name bytes q c y) tokens (subst (λ (q : CoreData). CoreText name bytes us q y) cores k) in
        one_core_text bytes ts c (formed c s) x y h same

    one_explaining : HasOneEnd (Explaining name bytes file)
    one_explaining _ _ (has_core {tokens = t} {core = c} {text = x} l s h) (has_core {tokens = u} {core = d} {text = y} m r k) =
        ap (λ (q : Text). Ok q) (one_text t u c d x y l m s r h k)
    one_explaining _ _ (has_core {core = c} l s h) (has_fault f o g) = no_fault c f s o g
    one_explaining _ _ (has_fault f o g) (has_core {core = c} l s h) = no_fault c f s o g
    one_explaining _ _ (has_fault f o h) (has_fault g p i) = ap (fault_end name bytes file) (one_fault f g o p h i)

  -- ---- a source

  pub one_explained : (r : Reading) → HasOneEnd (ExplainedStage name r)
  one_explained _ x y (has_tree {bytes = b} {file = f} a h) (has_tree {file = g} c k) =
      let same : g ≡ f = ok_same g f (Ok g) (Ok f) refl refl (one_file laws.source name (whole b) (Ok g) (Ok f) c a) in
      one_explaining b f a x y h (subst (λ (q : t.File). Explaining name b q y) same k)
  one_explained _ x _ (has_tree {bytes = b} {file = f} a h) (has_none {v = v} c) =
      differ f v (Ok f) (Err v) refl refl (one_file laws.source name (whole b) (Ok f) (Err v) a c)
  one_explained _ _ y (has_none {v = v} c) (has_tree {bytes = b} {file = f} a h) =
      differ f v (Ok f) (Err v) refl refl (one_file laws.source name (whole b) (Ok f) (Err v) a c)
  one_explained _ _ _ (has_none {reading = r} {v = v} a) (has_none {v = w} c) =
      ap (λ (q : Verdict). Err q) (refusal_same v w (Err v) (Err w) refl refl (one_file laws.source name r (Err v) (Err w) a c))
