-- The result of reading a file is right.
use Rattle.std.proofs.Common.{◌≡◌, ℕ, suc, ◌≤◌, max, true, false, List, [], ◌∷◌, ◌++◌, length, Ok, Err, sym, ap, ◌∙◌, subst, arith, inl, inr, append_assoc, append-nil}
use Rattle.pc_tree.specs.Tree as t
use Rattle.pc_tree.specs.Depths.{file_depth}
use Rattle.pc_token.specs.declared.kinds.Token.{Token}
use Rattle.pc_grammar.specs.{Spells.SpellsFile, FileAnswers.Begins, Parsing.{SpellsNoTree, IsOne, IsRead, IsRefused}, Laws.FileDeepRight, Reading.{unexpected, too_deep, ReadingOutcome}, ReadingFile.file}
use Rattle.pc_grammar.proofs.{Local.rest_of, LocalFile.local_file, AgreeFile.file_agrees, Explained.Explained, ExplainedFiles.{FileIn, explained_file}, CompleteFiles.file_reads, Right.{rest_with, ok_apart, fault_apart, deep_by}}

-- a token at which reading stops continues no file within the levels
not_within : (n : ℕ) (pre : List Token) (x : Token) (more others : List Token) (f : t.File) → rest_of (file n (pre ++ x ∷ more)) ≡ x ∷ more → SpellsFile f (pre ++ x ∷ others) → file_depth f ≤ suc n → ⊥
not_within n pre x more others f ends spelled fits =
    let list = pre ++ x ∷ others in
    let whole : file n list ≡ Ok (f, []) = ap (file n) (sym (append-nil list)) ∙ file_reads n f list [] spelled fits in
    let here = (local_file n).local pre x more others ends in
    let left : [] ≡ x ∷ others = ap rest_of (sym whole ∙ here) ∙ rest_with (x ∷ others) (file n (pre ++ x ∷ more)) in
    omega (arith, ap length left)

-- and no file of any depth, if no level was too many
nothing_begins : (n : ℕ) (pre : List Token) (x : Token) (more : List Token) → rest_of (file n (pre ++ x ∷ more)) ≡ x ∷ more → ((r : List Token) → file n (pre ++ x ∷ more) ≡ Err (too_deep, r) → ⊥) → Begins SpellsFile (pre ++ x ∷ []) → ⊥
nothing_begins n pre x more ends apart begins =
    let f = begins.1 in
    let m = max n (file_depth f) in
    let spelled : SpellsFile f (pre ++ x ∷ begins.0) = subst (λ l. SpellsFile f l) (append_assoc pre (x ∷ []) begins.0) begins.2 in
    elim (file_agrees n m (omega arith) (pre ++ x ∷ more)) [
      | inl e ↦ not_within m pre x more begins.0 f (ap rest_of (sym e) ∙ ends) spelled (omega arith)
      | inr g ↦ apart g.0 g.1
    ]

-- What is read is spelled, within the levels, and the next token does not continue it.
pub file_is_read : (n : ℕ) (ts rest : List Token) (f : t.File) → file n ts ≡ Ok (f, rest) → IsRead SpellsFile file_depth (suc n) ts f rest
file_is_read n ts rest f e =
    let h = subst (λ o. Explained true (FileIn true n) ts o) e (explained_file true n ts) in (
      h.0,
      h.1,
      h.2.0,
      h.2.1,
      λ x more eq begins.
          let read : file n (h.0 ++ x ∷ more) ≡ Ok (f, rest) = ap (file n) (ap (λ l. h.0 ++ l) (sym eq) ∙ sym h.1) ∙ e in
          nothing_begins n h.0 x more (ap rest_of read ∙ eq) (λ r g. ok_apart f rest r (sym read ∙ g)) begins,
    )

-- if reading stops at the end of a prefix, the prefix spells no file
is_none : (n : ℕ) (pre : List Token) (x : Token) (more : List Token) → file n (pre ++ x ∷ more) ≡ Err (unexpected, x ∷ more) → SpellsNoTree SpellsFile pre
is_none n pre x more e f spelled =
    let m = max n (file_depth f) in
    let whole : file m (pre ++ x ∷ more) ≡ Ok (f, x ∷ more) = file_reads m f pre (x ∷ more) spelled (omega arith) in
    elim (file_agrees n m (omega arith) (pre ++ x ∷ more)) [
      | inl g ↦ (let same : ◌≡◌ {A = ReadingOutcome t.File} (Err (unexpected, x ∷ more)) (Ok (f, x ∷ more)) = sym e ∙ g ∙ whole in cc)
      | inr g ↦ fault_apart (x ∷ more) g.0 (sym e ∙ g.1)
    ]

-- If a token is unexpected, those before it begin a file within the levels but spell none, and with it none begins.
pub file_is_refused : (n : ℕ) (ts : List Token) (x : Token) (rest : List Token) → file n ts ≡ Err (unexpected, x ∷ rest) → IsRefused SpellsFile file_depth (suc n) ts (x ∷ rest)
file_is_refused n ts x rest e =
    let h = subst (λ o. Explained true (FileIn true n) ts o) e (explained_file true n ts) in
    let read : file n (h.0 ++ x ∷ rest) ≡ Err (unexpected, x ∷ rest) = ap (file n) (sym h.3) ∙ e in (
      h.0,
      h.3,
      (h.1, h.2, h.4.0, h.4.1),
      is_none n h.0 x rest read,
      λ y more eq begins.
          let there : file n (h.0 ++ y ∷ more) ≡ Err (unexpected, x ∷ rest) = ap (file n) (ap (λ l. h.0 ++ l) (sym eq) ∙ sym h.3) ∙ e in
          nothing_begins n h.0 y more (ap rest_of there ∙ eq) (λ r g. fault_apart (x ∷ rest) r (sym there ∙ g)) begins,
    )

-- If a token opens a level too many, those before it begin a file within the levels, and with it only deeper ones
-- begin.
pub file_is_too_deep : FileDeepRight
file_is_too_deep n ts rest e =
    deep_by SpellsFile file_depth (suc n) ts rest (subst (λ o. Explained true (FileIn true n) ts o) e (explained_file true n ts)) (subst (λ o. Explained false (FileIn false n) ts o) e (explained_file false n ts))
    (λ pre x more others f cuts ends spelled fits. not_within n pre x more others f (ap rest_of (ap (file n) (sym cuts) ∙ e) ∙ ends) spelled fits)

-- A list of tokens spells at most one file.
pub file_is_one : IsOne SpellsFile
file_is_one ts b c one two =
    let n = max (file_depth b) (file_depth c) in
    let e = sym (file_reads n b ts [] one (omega arith)) ∙ file_reads n c ts [] two (omega arith) in
    let f : ◌≡◌ {A = t.File × List Token} (b, []) (c, []) = cc in
    ap (λ p. p.0) f
