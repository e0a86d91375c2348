-- Any two ends of a source's stages are equal.
use Rattle.std.proofs.Common.{◌≡◌, ◌<◌, ℕ, List, Option, Some, None, ◌∷◌, Ok, Err, refl, sym, ◌∙◌, ap, subst, length, arith, true, false}
use Rattle.std.specs.Prelude.{Result, IsSome, codes}
use Rattle.pc_core.specs.CoreData.{CoreData}
use Rattle.pc_core_relation.specs.{Files.IsCoreOf, MemberFaults.IsMemberFault}
use Rattle.pc_core_relation.proofs.{MemberFaults.is_stop, Ones.{standing_cores_are_made, standing_cores_are_one}}
use Rattle.pc_token.specs.declared.kinds.Token.{Token}
use Rattle.pc_grammar.specs.{FileAnswers.{spelled, unexpected, too_deep}, Laws.OneFileAnswer}
use Rattle.pc_lex.specs.{Laws.{OneList, NotBoth, OneFault}, declared.fault.LexFault.LexFault}
use Rattle.pc_names.specs.{Faults.{IsNameFault, IsNotMemory}, Laws.{NotBoth as NotBothNames, OneFault as OneNameFault}, declared.fault.NameFault.NameFault}
use Rattle.pc_file_spec.specs.Laws.{OneCore, NotBoth as NotBothMembers, OneFault as OneMemberFault}
use Rattle.pc_tree.specs.Tree as t
use Rattle.pc_base.specs.Lists.{Text}
use Rattle.pc_refusals.specs.{Source.{After, FromFile, FileStage, SyntaxStage, Length, Lexing, Parsing, Elaborating, TreeStage, CoreStage, TextStage, SourceStage, source_limit}, Ends.HasOneEnd, Source.After.{stops, goes}, FaultLines.{fault_status, fault_line, name_status, name_line}, Source.FromFile.{refuses, goes_on}, Verdict.{Named, Reading, whole, longer, IsReading, Verdict, refused}, Source.Length.{fits, is_longer}, Source.Lexing.{lexed, faulty}, Source.Parsing.{parsed, astray, nested}, Source.Elaborating.{elaborated, misnamed, misused}, Source.TextStage.{has_core, has_none}}
use Rattle.pc_refusal_lines.specs.Lines.{offset_line}

-- What the stages rest on.
pub record SourceLaws : Type 0 where
  pub list : OneList
  pub both : NotBoth
  pub fault : OneFault
  pub tree : OneFileAnswer
  pub core : OneCore
  pub misnamed : NotBothNames
  pub misused : NotBothMembers
  pub name_fault : OneNameFault
  pub body_fault : OneMemberFault

pub ok_same : {T : Type 0} (x y : T) (a b : Result T Verdict) → a ≡ Ok x → b ≡ Ok y → a ≡ b → x ≡ y
ok_same x y a b p q e = cc

err_same : {T U : Type 0} (v w : Verdict) (a b : Result T Verdict) (c d : Result U Verdict) → a ≡ Err v → b ≡ Err w → c ≡ Err v → d ≡ Err w → a ≡ b → c ≡ d
err_same v w a b c d p q r s e = cc

pub differ : {T : Type 0} {C : Type 0} (x : T) (v : Verdict) (a b : Result T Verdict) → a ≡ Ok x → b ≡ Err v → a ≡ b → C
differ x v a b p q e = cc

errs : {T : Type 0} (v w : Verdict) (a b : Result T Verdict) → a ≡ Err v → b ≡ Err w → a ≡ b → v ≡ w
errs v w a b p q e = cc

-- stages of which each has one end have one together
pub after_is_one : {T U : Type 0} (First : Result T Verdict → Type 0) (Next : T → Result U Verdict → Type 0) → HasOneEnd First
    → ((x : T) → First (Ok x) → HasOneEnd (Next x)) → HasOneEnd (After First Next)
after_is_one First Next f n _ _ (stops {v = v} a) (stops {v = w} b) = err_same v w (Err v) (Err w) (Err v) (Err w) refl refl refl refl (f _ _ a b)
after_is_one First Next f n _ _ (stops {v = v} a) (goes {x = x} b c) = differ x v (Ok x) (Err v) refl refl (f _ _ b a)
after_is_one First Next f n _ _ (goes {x = x} a c) (stops {v = v} b) = differ x v (Ok x) (Err v) refl refl (f _ _ a b)
after_is_one First Next f n p q (goes {x = x} a c) (goes {x = y} b d) =
    let e : y ≡ x = ok_same y x (Ok y) (Ok x) refl refl (f _ _ b a) in
    n x a p q c (subst (λ z. Next z q) e d)

pub one_length : (limit : ℕ) (name : Text) (r : Reading) → HasOneEnd (Length limit name r)
one_length limit name r _ _ (fits l) (fits m) = refl
one_length limit name r _ _ is_longer is_longer = refl

-- ---- commands that read a file

one_reading : (limit : ℕ) (known : Option Text) (before now taken : ℕ) (r s : Reading) → IsSome known → now ≡ before
    → IsReading limit known before now taken r → IsReading limit known before now taken s → r ≡ s
one_reading limit None before now taken r s t n a b = let bad : false ≡ true = t in cc
one_reading limit (Some x) before now taken (whole p) (whole q) t n a b = ap whole (a.1 ∙ sym b.1)
one_reading limit (Some x) before now taken (whole p) longer t n a b = let long : limit < length x = b.1 n in let e : length p ≡ length x = ap length a.1 in absurd (omega (arith, a.0))
one_reading limit (Some x) before now taken longer (whole q) t n a b = let long : limit < length x = a.1 n in let e : length q ≡ length x = ap length b.1 in absurd (omega (arith, b.0))
one_reading limit (Some x) before now taken longer longer t n a b = refl

module _ {T : Type 0} (file : Named) (limit : ℕ) (Stages : Reading → Result T Verdict → Type 0) (Last : T → Verdict → Type 0) where
  -- One verdict follows if one does from each reading, and then from each value.
  pub one_from : IsSome file.known → file.now ≡ file.before → ((r : Reading) → HasOneEnd (Stages r))
      → ((r : Reading) (x : T) → Stages r (Ok x) → (v w : Verdict) → Last x v → Last x w → v ≡ w)
      → (v w : Verdict) → FromFile file limit Stages Last v → FromFile file limit Stages Last w → v ≡ w
  one_from t n one last v w (refuses r g h) (refuses q i k) =
      let same = one_reading limit file.known file.before file.now file.taken q r t n i g in
      errs v w (Err v) (Err w) refl refl (one r (Err v) (Err w) h (subst (λ (x : Reading). Stages x (Err w)) same k))
  one_from t n one last v w (refuses r g h) (goes_on q x i k l) =
      let same = one_reading limit file.known file.before file.now file.taken q r t n i g in
      differ x v (Ok x) (Err v) refl refl (one r (Ok x) (Err v) (subst (λ (y : Reading). Stages y (Ok x)) same k) h)
  one_from t n one last v w (goes_on q x i k l) (refuses r g h) =
      let same = one_reading limit file.known file.before file.now file.taken q r t n i g in
      differ x w (Ok x) (Err w) refl refl (one r (Ok x) (Err w) (subst (λ (y : Reading). Stages y (Ok x)) same k) h)
  one_from t n one last v w (goes_on r x g h l) (goes_on q y i k m) =
      let same = one_reading limit file.known file.before file.now file.taken q r t n i g in
      let values : y ≡ x = ok_same y x (Ok y) (Ok x) refl refl (one r (Ok y) (Ok x) (subst (λ (z : Reading). Stages z (Ok y)) same k) h) in
      last r x h v w l (subst (λ (z : T). Last z w) values m)

-- ---- the source

file_same : (f g : t.File) → spelled f ≡ spelled g → f ≡ g
file_same f g e = cc e

unexpected_same : (x y : Token) (r q : List Token) → unexpected (x ∷ r) ≡ unexpected (y ∷ q) → x ≡ y
unexpected_same x y r q e = cc e

deep_same : (x y : Token) (r q : List Token) → too_deep (x ∷ r) ≡ too_deep (y ∷ q) → x ≡ y
deep_same x y r q e = cc e

spelled_unexpected : (f : t.File) (r : List Token) → spelled f ≡ unexpected r → ⊥
spelled_unexpected f r e = cc

spelled_deep : (f : t.File) (r : List Token) → spelled f ≡ too_deep r → ⊥
spelled_deep f r e = cc

unexpected_deep : (r q : List Token) → unexpected r ≡ too_deep q → ⊥
unexpected_deep r q e = cc

module _ (laws : SourceLaws) where
  one_lexing : (name bytes : Text) → HasOneEnd (Lexing name bytes)
  one_lexing name bytes _ _ (lexed {ts = t} a) (lexed {ts = u} b) = ap (λ (x : List Token). Ok x) (laws.list bytes t u a.0 b.0)
  one_lexing name bytes _ _ (lexed {ts = t} a) (faulty f b) = absurd (laws.both bytes t f a b)
  one_lexing name bytes _ _ (faulty f a) (lexed {ts = t} b) = absurd (laws.both bytes t f b a)
  one_lexing name bytes _ _ (faulty f a) (faulty g b) = ap (λ (x : LexFault). Err (refused (fault_status x) (fault_line name bytes x))) (laws.fault bytes f g a b)

  -- the file of an answer, and the place of the token that one names
  one_parsing : (name bytes : Text) (ts : List Token) → HasOneEnd (Parsing name bytes ts)
  one_parsing name bytes ts _ _ (parsed {file = f} a) (parsed {file = g} b) = ap (λ (x : t.File). Ok x) (file_same f g (laws.tree ts (spelled f) (spelled g) a b))
  one_parsing name bytes ts _ _ (parsed {file = f} a) (astray {x = x} {rest = r} b) = absurd (spelled_unexpected f (x ∷ r) (laws.tree ts (spelled f) (unexpected (x ∷ r)) a b))
  one_parsing name bytes ts _ _ (parsed {file = f} a) (nested {x = x} {rest = r} b) = absurd (spelled_deep f (x ∷ r) (laws.tree ts (spelled f) (too_deep (x ∷ r)) a b))
  one_parsing name bytes ts _ _ (astray {x = x} {rest = r} a) (parsed {file = f} b) = absurd (spelled_unexpected f (x ∷ r) (laws.tree ts (spelled f) (unexpected (x ∷ r)) b a))
  one_parsing name bytes ts _ _ (astray {x = x} {rest = r} a) (astray {x = y} {rest = q} b) =
      ap (λ (z : Token). Err (refused 3 (offset_line name bytes z.span.start (codes "unexpected")))) (unexpected_same x y r q (laws.tree ts (unexpected (x ∷ r)) (unexpected (y ∷ q)) a b))
  one_parsing name bytes ts _ _ (astray {x = x} {rest = r} a) (nested {x = y} {rest = q} b) = absurd (unexpected_deep (x ∷ r) (y ∷ q) (laws.tree ts (unexpected (x ∷ r)) (too_deep (y ∷ q)) a b))
  one_parsing name bytes ts _ _ (nested {x = x} {rest = r} a) (parsed {file = f} b) = absurd (spelled_deep f (x ∷ r) (laws.tree ts (spelled f) (too_deep (x ∷ r)) b a))
  one_parsing name bytes ts _ _ (nested {x = x} {rest = r} a) (astray {x = y} {rest = q} b) = absurd (unexpected_deep (y ∷ q) (x ∷ r) (laws.tree ts (unexpected (y ∷ q)) (too_deep (x ∷ r)) b a))
  one_parsing name bytes ts _ _ (nested {x = x} {rest = r} a) (nested {x = y} {rest = q} b) =
      ap (λ (z : Token). Err (refused 8 (offset_line name bytes z.span.start (codes "nested too deep")))) (deep_same x y r q (laws.tree ts (too_deep (x ∷ r)) (too_deep (y ∷ q)) a b))

  -- A file has its core, a fault of its names or one of its members.
  pub never_misnamed : (file : t.File) (core : CoreData) (f : NameFault) → IsCoreOf file core → IsNotMemory f → IsNameFault file f → ⊥
  never_misnamed file core f s o h = let made = standing_cores_are_made file core s in laws.misnamed file f made.0 o h made.1

  pub never_misused : (file : t.File) (core : CoreData) (f : NameFault) → IsCoreOf file core → IsMemberFault file f → ⊥
  never_misused file core f s h = laws.misused file core f (standing_cores_are_made file core s) (is_stop file f h)

  pub not_both_faults : (file : t.File) (f g : NameFault) → IsNotMemory f → IsNameFault file f → IsMemberFault file g → ⊥
  not_both_faults file f g o h i = let made = is_stop file g i in laws.misnamed file f made.0 o h made.1

  pub one_member_fault : (file : t.File) (f g : NameFault) → IsMemberFault file f → IsMemberFault file g → f ≡ g
  one_member_fault file f g h i = laws.body_fault file f g (is_stop file f h) (is_stop file g i)

  one_elaborating : (name bytes : Text) (file : t.File) → HasOneEnd (Elaborating name bytes file)
  one_elaborating name bytes file _ _ (elaborated {core = c} a) (elaborated {core = d} b) = ap (λ (x : CoreData). Ok x) (standing_cores_are_one file c d a b)
  one_elaborating name bytes file _ _ (elaborated {core = c} a) (misnamed f o h) = absurd (never_misnamed file c f a o h)
  one_elaborating name bytes file _ _ (elaborated {core = c} a) (misused f o h) = absurd (never_misused file c f a h)
  one_elaborating name bytes file _ _ (misnamed f o h) (elaborated {core = c} a) = absurd (never_misnamed file c f a o h)
  one_elaborating name bytes file _ _ (misnamed f o h) (misnamed g p i) = ap (λ (x : NameFault). Err (refused (name_status x) (name_line name bytes x))) (laws.name_fault file f g o p h i)
  one_elaborating name bytes file _ _ (misnamed f o h) (misused g p i) = absurd (not_both_faults file f g o h i)
  one_elaborating name bytes file _ _ (misused f o h) (elaborated {core = c} a) = absurd (never_misused file c f a h)
  one_elaborating name bytes file _ _ (misused f o h) (misnamed g p i) = absurd (not_both_faults file g f p i h)
  one_elaborating name bytes file _ _ (misused f o h) (misused g p i) = ap (λ (x : NameFault). Err (refused (name_status x) (name_line name bytes x))) (one_member_fault file f g h i)

  one_tree : (name bytes : Text) (ts : List Token) → HasOneEnd (TreeStage name bytes ts)
  one_tree name bytes ts = after_is_one (Parsing name bytes ts) (Elaborating name bytes) (one_parsing name bytes ts) (λ file l. one_elaborating name bytes file)

  one_core : (name bytes : Text) → HasOneEnd (CoreStage name bytes)
  one_core name bytes = after_is_one (Lexing name bytes) (TreeStage name bytes) (one_lexing name bytes) (λ ts l. one_tree name bytes ts)

  one_text : (name bytes : Text) → HasOneEnd (TextStage name bytes)
  one_text name bytes _ _ (has_core {core = c} a) (has_core {core = d} b) =
      ap (λ (x : CoreData). Ok (record { bytes = bytes; core = x })) (ok_same c d (Ok c) (Ok d) refl refl (one_core name bytes _ _ a b))
  one_text name bytes _ _ (has_core {core = c} a) (has_none {v = v} b) = differ c v (Ok c) (Err v) refl refl (one_core name bytes _ _ a b)
  one_text name bytes _ _ (has_none {v = v} a) (has_core {core = c} b) = differ c v (Ok c) (Err v) refl refl (one_core name bytes _ _ b a)
  one_text name bytes _ _ (has_none {v = v} a) (has_none {v = w} b) = err_same v w (Err v) (Err w) (Err v) (Err w) refl refl refl refl (one_core name bytes _ _ a b)

  pub one_source : (name : Text) (r : Reading) → HasOneEnd (SourceStage name r)
  one_source name r = after_is_one (Length source_limit name r) (TextStage name) (one_length source_limit name r) (λ bytes l. one_text name bytes)

  -- the source's tree
  one_syntax : (name bytes : Text) → HasOneEnd (SyntaxStage name bytes)
  one_syntax name bytes = after_is_one (Lexing name bytes) (Parsing name bytes) (one_lexing name bytes) (λ ts l. one_parsing name bytes ts)

  pub one_file : (name : Text) (r : Reading) → HasOneEnd (FileStage name r)
  one_file name r = after_is_one (Length source_limit name r) (SyntaxStage name) (one_length source_limit name r) (λ bytes l. one_syntax name bytes)
