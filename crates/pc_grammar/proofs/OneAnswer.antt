-- For a list of tokens at most one answer holds.
use Rattle.std.proofs.{Common.{◌≡◌, ℕ, List, [], ◌∷◌, ◌++◌, refl, sym, ap, ap₂, ◌∙◌, subst, append_assoc, append-nil}, lemmas.List.append_cancel_left}
use Rattle.pc_tree.specs.Depths.{depth, seq_depth}
use Rattle.pc_token.specs.declared.kinds.Token.{Token}
use Rattle.pc_grammar.specs.{Spells.{Spells, SpellsInfix, SpellsSeq}, FileAnswers.{Begins, BeginsWithin, IsTooDeep}, Parsing.{IsStopped, IsOne, IsRead, IsRefused, read, refused, deep, IsOneAnswer}, Laws.{SeqOneAnswer, ExprOneAnswer, InfixOneAnswer}}
use Rattle.pc_grammar.proofs.Right.{seq_one, expr_one}

-- with the next token it does not hold
abbrev StopsAt : (List Token → Type 0) → List Token → List Token → Type 0
StopsAt W pre rest = (x : Token) (more : List Token) → rest ≡ x ∷ more → W (pre ++ x ∷ []) → ⊥

-- The longest prefix with a property is unique, if shorter ones have the property too.
same_front : (W : List Token → Type 0) → ((l m : List Token) (x : Token) → W (l ++ x ∷ m) → W (l ++ x ∷ [])) → (p q r s : List Token) → p ++ r ≡ q ++ s → W p → W q → StopsAt W p r → StopsAt W q s → p ≡ q
same_front W shorter [] [] r s e a b stop other = refl
same_front W shorter [] (y ∷ q) r s e a b stop other = absurd (stop y (q ++ s) e (shorter [] q y b))
same_front W shorter (x ∷ p) [] r s e a b stop other = absurd (other x (p ++ r) (sym e) (shorter [] p x a))
same_front W shorter (x ∷ p) (y ∷ q) r s e a b stop other =
    let head : x ≡ y = cc e in
    let tail : p ++ r ≡ q ++ s = cc e in
    let Within : List Token → Type 0 = λ l. W (x ∷ l) in
    let Holds : Token → Type 0 = λ v. W (v ∷ q) in
    let Stopped : Token → Type 0 = λ v. StopsAt W (v ∷ q) s in
    ap₂ (λ v l. v ∷ l) head (same_front Within (λ l m z. shorter (x ∷ l) m z) p q r s tail a (subst Holds (sym head) b) stop (subst Stopped (sym head) other))

module _ {A : Type 0} (spells : A → List Token → Type 0) (depth_of : A → ℕ) (n : ℕ) where
  abbrev Within : List Token → Type 0
  Within ts = BeginsWithin spells depth_of n ts

  shorter : (l m : List Token) (x : Token) → Within (l ++ x ∷ m) → Within (l ++ x ∷ [])
  shorter l m x h =
      let P : List Token → Type 0 = λ ts. spells h.1 ts in
      (m ++ h.0, h.1, subst P (append_assoc l (x ∷ m) h.0 ∙ sym (append_assoc l (x ∷ []) (m ++ h.0))) h.2, h.3)

  abbrev pub Front : List Token → List Token → List Token → Type 0
  Front ts pre rest = (ts ≡ pre ++ rest) × Within pre × StopsAt Within pre rest

  of_read : (ts : List Token) (b : A) (rest : List Token) (h : IsRead spells depth_of n ts b rest) → Front ts h.0 rest
  of_read ts b rest h =
      let P : List Token → Type 0 = λ l. spells b l in
      (h.1, ([], b, subst P (sym (append-nil h.0)) h.2, h.3), λ x more e w. h.4 x more e (w.0, w.1, w.2))

  of_refused : (ts rest : List Token) (h : IsRefused spells depth_of n ts rest) → Front ts h.0 rest
  of_refused ts rest h = (h.1, h.2, λ x more e w. h.4 x more e (w.0, w.1, w.2))

  pub of_deep : (ts rest : List Token) (h : IsTooDeep spells depth_of n ts rest) → Front ts h.0 rest
  of_deep ts rest h =
      let P : Token → Type 0 = λ v. Within (h.0 ++ v ∷ []) in
      (h.4, h.5, λ x more e w. let same : x ≡ h.2 = cc (sym e ∙ h.3) in h.7 (subst P same w))

  -- two prefixes are the same, and so is what comes after them
  pub meet : (ts p q r s : List Token) → Front ts p r → Front ts q s → (p ≡ q) × (r ≡ s)
  meet ts p q r s h k =
      let same = same_front Within shorter p q r s (sym h.0 ∙ k.0) h.1 k.1 h.2 k.2 in
      (same, append_cancel_left p r s (sym h.0 ∙ k.0 ∙ ap (λ l. l ++ s) (sym same)))

  read_refused : (ts : List Token) (b : A) (r s : List Token) → IsRead spells depth_of n ts b r → IsRefused spells depth_of n ts s → ⊥
  read_refused ts b r s h k =
      let same = meet ts h.0 k.0 r s (of_read ts b r h) (of_refused ts s k) in
      let P : List Token → Type 0 = λ l. spells b l in
      k.3 b (subst P same.0 h.2)

  pub stopped_deep : (ts p r s : List Token) → Front ts p r → IsStopped spells p r → IsTooDeep spells depth_of n ts s → ⊥
  stopped_deep ts p r s f stop k =
      let same = meet ts p k.0 r s f (of_deep ts s k) in
      let P : List Token → Type 0 = λ l. Begins spells (l ++ k.2 ∷ []) in
      stop k.2 k.1 (same.1 ∙ k.3) (subst P (sym same.0) k.6)

  pub one_answer : IsOne spells → IsOneAnswer spells depth_of n
  one_answer one ts (read b r) (read c s) h k =
      let same = meet ts h.0 k.0 r s (of_read ts b r h) (of_read ts c s k) in
      let P : List Token → Type 0 = λ l. spells b l in
      ap₂ read (one k.0 b c (subst P same.0 h.2) k.2) same.1
  one_answer one ts (read b r) (refused s) h k = absurd (read_refused ts b r s h k)
  one_answer one ts (read b r) (deep s) h k = absurd (stopped_deep ts h.0 r s (of_read ts b r h) h.4 k)
  one_answer one ts (refused r) (read c s) h k = absurd (read_refused ts c s r k h)
  one_answer one ts (refused r) (refused s) h k = ap refused (meet ts h.0 k.0 r s (of_refused ts r h) (of_refused ts s k)).1
  one_answer one ts (refused r) (deep s) h k = absurd (stopped_deep ts h.0 r s (of_refused ts r h) h.4 k)
  one_answer one ts (deep r) (read c s) h k = absurd (stopped_deep ts k.0 s r (of_read ts c s k) k.4 h)
  one_answer one ts (deep r) (refused s) h k = absurd (stopped_deep ts k.0 s r (of_refused ts s k) k.4 h)
  one_answer one ts (deep r) (deep s) h k = ap deep (meet ts h.0 k.0 r s (of_deep ts r h) (of_deep ts s k)).1

pub seq_answer : SeqOneAnswer
seq_answer n = one_answer SpellsSeq seq_depth n seq_one

pub expr_answer : ExprOneAnswer
expr_answer n = one_answer Spells depth n expr_one

pub infix_answer : InfixOneAnswer
infix_answer n = one_answer SpellsInfix depth n (λ ts b c one two. expr_one ts b c one.1 two.1)
