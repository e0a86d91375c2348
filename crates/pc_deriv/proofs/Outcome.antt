-- The outcome of a text, and its existence.
use Rattle.std.proofs.{Common.{◌≡◌, ℕ, zero, suc, ◌+◌, ◌<◌, ◌≤◌, Bool, true, false, cond, ◌&&◌, List, [], ◌∷◌, ◌++◌, Option, Some, None, Ok, Err, length, refl, sym, ap, ◌∙◌, inl, inr, ◌⊎◌, arith, append_assoc, append-nil}, lemmas.Bool.Decides.nat_tests}
use Rattle.std.specs.{Prelude.{Result, IfOk, IfErr, nat_lt, nat_le}, List.AllByRecursion}
use Rattle.pc_caps.specs.declared.capability.Cap.{Cap}
use Rattle.pc_ann.specs.{declared.annotation.Note.Note, declared.annotation.Ann.Ann}
use Rattle.pc_deriv.specs.{declared.version.Version.Version, declared.fault.DerivFault.DerivFault, Text.{slot_line, note_line, CountsFit, SlotFits, NoteFits, Within, IsText, BeginsLine, NoLine, BeginsHead, IsBadLine, bad_head, bad_slot, bad_node, bad_end, IsFault}, Parts.{derivation_slot_limit, derivation_node_limit, each_line, RefusesDerivation}, Reading.{head_at, read_slot, note_at}, Answers.AnswersDerivation}
use Rattle.pc_deriv.specs.declared.fault.DerivFault.TheVariants as fault
use Rattle.pc_deriv.proofs.LineReading.{Reads, head_text, HeadFits, head_reads, slot_reads, note_reads}

-- one more, and the later ones
abbrev one_more : {A : Type 0} → List ℕ → (List ℕ → List A × List ℕ) → Option (A × List ℕ) → List A × List ℕ
one_more text more None = ([], text)
one_more text more (Some (x, rest)) = (x ∷ (more rest).0, (more rest).1)

-- as many as can be read, but at most this number
abbrev many : {A : Type 0} → (List ℕ → Option (A × List ℕ)) → ℕ → List ℕ → List A × List ℕ
many read zero text = ([], text)
many read (suc n) text = one_more text (many read n) (read text)

none_by : {A : Type 0} (read : List ℕ → Option (A × List ℕ)) (line : A → List ℕ) (Fits : A → Type 0) → Reads read (λ x rest. line x ++ rest) Fits → (text : List ℕ) (o : Option (A × List ℕ))
    → NoLine line Fits text → read text ≡ o → read text ≡ None
none_by read line Fits reads text None h e = e
none_by read line Fits reads text (Some (x, rest)) h e = let r = reads.sound text x rest e in absurd (h x rest r.0 r.1)

module _ {A : Type 0} (read : List ℕ → Option (A × List ℕ)) (line : A → List ℕ) (Fits : A → Type 0) (reads : Reads read (λ x rest. line x ++ rest) Fits) where
  no_read : (text : List ℕ) → NoLine line Fits text → read text ≡ None
  no_read text h = none_by read line Fits reads text (read text) h refl

  many_are : (xs : List A) (n : ℕ) (text rest : List ℕ) → AllByRecursion Fits xs → text ≡ each_line line xs ++ rest → length xs ≤ n → (length xs ≡ n) ⊎ (read rest ≡ None) → many read n text ≡ (xs, rest)
  many_are [] zero text rest fit cut less ends = ap (λ (l : List ℕ). ([], l)) cut
  many_are [] (suc n) text rest fit cut less (inl e) = absurd (omega (arith, e))
  many_are [] (suc n) text rest fit cut less (inr e) = ap (λ l. one_more l (many read n) (read l)) cut ∙ ap (one_more rest (many read n)) e
  many_are (x ∷ xs) zero text rest fit cut less ends = absurd (omega (arith, less))
  many_are (x ∷ xs) (suc n) text rest fit cut less ends =
      let after = each_line line xs ++ rest in
      let first : read text ≡ Some (x, after) = ap read (cut ∙ append_assoc (line x) (each_line line xs) rest) ∙ reads.own x after fit.0 in
      let more : (length xs ≡ n) ⊎ (read rest ≡ None) = shorter ends in
      ap (one_more text (many read n)) first ∙ ap (λ (r : List A × List ℕ). (x ∷ r.0, r.1)) (many_are xs n after rest fit.1 refl (omega (arith, less)) more)
    where
      shorter : (suc (length xs) ≡ suc n) ⊎ (read rest ≡ None) → (length xs ≡ n) ⊎ (read rest ≡ None)
      shorter (inl e) = inl (omega (arith, e))
      shorter (inr e) = inr e

  some_read : (n : ℕ) (text : List ℕ) (xs : List A) (rest : List ℕ) → BeginsLine line Fits text xs rest → length xs ≡ n → many read n text ≡ (xs, rest)
  some_read n text xs rest so e = many_are xs n text rest so.fit so.cut (omega (arith, e)) (inl e)

  few_read : (n : ℕ) (text : List ℕ) (xs : List A) (rest : List ℕ) → BeginsLine line Fits text xs rest → length xs < n → NoLine line Fits rest → many read n text ≡ (xs, rest)
  few_read n text xs rest so e h = many_are xs n text rest so.fit so.cut (omega (arith, e)) (inr (no_read rest h))

-- an annotation, and the version of its text
abbrev Read : Type 0
Read = Result (Version × Ann) DerivFault

abbrev end_on : Version → ℕ × ℕ → List (ℕ × Cap) → List Note → List ℕ → Read
end_on v counts slots notes [] = Ok (v, record { slots = slots; notes = notes })
end_on v counts slots notes (b ∷ bs) = Err (fault.BadLine (counts.0 + counts.1 + 2))

abbrev notes_on : Version → ℕ × ℕ → List (ℕ × Cap) → List Note × List ℕ → Read
notes_on v counts slots r = cond (nat_lt (length r.0) counts.1) (Err (fault.BadLine (counts.0 + length r.0 + 2))) (end_on v counts slots r.0 r.1)

abbrev slots_on : Version → ℕ × ℕ → List (ℕ × Cap) × List ℕ → Read
slots_on v counts r = cond (nat_lt (length r.0) counts.0) (Err (fault.BadLine (length r.0 + 2))) (notes_on v counts r.0 (many (note_at v) counts.1 r.1))

abbrev head_on : Option ((Version × (ℕ × ℕ)) × List ℕ) → Read
head_on None = Err (fault.BadLine 1)
head_on (Some ((v, counts), text)) = cond (nat_le counts.0 derivation_slot_limit && nat_le counts.1 derivation_node_limit) (slots_on v counts (many read_slot counts.0 text)) (Err fault.TooMany)

-- what a text is read as
abbrev outcome : List ℕ → Read
outcome bytes = head_on (head_at bytes)

not_less : (n m : ℕ) → n ≡ m → nat_lt n m ≡ false
not_less n m e = grind (arith, nat_tests)

less : (n m : ℕ) → n < m → nat_lt n m ≡ true
less n m h = grind (arith, nat_tests)

both_within : (a b : ℕ) → a ≤ derivation_slot_limit → b ≤ derivation_node_limit
    → (nat_le a derivation_slot_limit && nat_le b derivation_node_limit) ≡ true
both_within a b p q = grind (arith, nat_tests)

not_within_by : (a b : ℕ) (t : Bool) → (nat_le a derivation_slot_limit && nat_le b derivation_node_limit) ≡ t → (Within (a, b) → ⊥) → t ≡ false
not_within_by a b false e h = refl
not_within_by a b true e h =
    let p : a ≤ derivation_slot_limit = grind (arith, nat_tests) in
    let q : b ≤ derivation_node_limit = grind (arith, nat_tests) in
    absurd (h (p, q))

module _ (bytes : List ℕ) (v : Version) (a b : ℕ) (text : List ℕ) (head : BeginsHead bytes v (a, b) text) where
  head_read : outcome bytes ≡ head_on (Some ((v, (a, b)), text))
  head_read = ap head_on (ap head_at head.1 ∙ head_reads.own (v, (a, b)) text head.0)

  over : (Within (a, b) → ⊥) → outcome bytes ≡ Err fault.TooMany
  over h = head_read ∙ ap (λ t. cond t (slots_on v (a, b) (many read_slot a text)) (Err fault.TooMany)) (not_within_by a b (nat_le a derivation_slot_limit && nat_le b derivation_node_limit) refl h)

  module _ (w : Within (a, b)) where
    under : outcome bytes ≡ slots_on v (a, b) (many read_slot a text)
    under = head_read ∙ ap (λ t. cond t (slots_on v (a, b) (many read_slot a text)) (Err fault.TooMany)) (both_within a b w.0 w.1)

    module _ (slots : List (ℕ × Cap)) (mid : List ℕ) (so : BeginsLine slot_line SlotFits text slots mid) where
      slot_bad : length slots < a → NoLine slot_line SlotFits mid → outcome bytes ≡ Err (fault.BadLine (length slots + 2))
      slot_bad h none =
          under ∙ ap (slots_on v (a, b)) (few_read read_slot slot_line SlotFits slot_reads a text slots mid so h none)
          ∙ ap (λ t. cond t (Err (fault.BadLine (length slots + 2))) (notes_on v (a, b) slots (many (note_at v) b mid))) (less (length slots) a h)

      module _ (full : length slots ≡ a) where
        slots_read : outcome bytes ≡ notes_on v (a, b) slots (many (note_at v) b mid)
        slots_read =
            under ∙ ap (slots_on v (a, b)) (some_read read_slot slot_line SlotFits slot_reads a text slots mid so full)
            ∙ ap (λ t. cond t (Err (fault.BadLine (length slots + 2))) (notes_on v (a, b) slots (many (note_at v) b mid))) (not_less (length slots) a full)

        module _ (notes : List Note) (rest : List ℕ) (on : BeginsLine (note_line v) NoteFits mid notes rest) where
          note_bad : length notes < b → NoLine (note_line v) NoteFits rest → outcome bytes ≡ Err (fault.BadLine (a + length notes + 2))
          note_bad h none =
              slots_read ∙ ap (notes_on v (a, b) slots) (few_read (note_at v) (note_line v) NoteFits (note_reads v) b mid notes rest on h none)
              ∙ ap (λ t. cond t (Err (fault.BadLine (a + length notes + 2))) (end_on v (a, b) slots notes rest)) (less (length notes) b h)

          notes_read : length notes ≡ b → outcome bytes ≡ end_on v (a, b) slots notes rest
          notes_read all =
              slots_read ∙ ap (notes_on v (a, b) slots) (some_read (note_at v) (note_line v) NoteFits (note_reads v) b mid notes rest on all)
              ∙ ap (λ t. cond t (Err (fault.BadLine (a + length notes + 2))) (end_on v (a, b) slots notes rest)) (not_less (length notes) b all)

end_bad : (v : Version) (counts : ℕ × ℕ) (slots : List (ℕ × Cap)) (notes : List Note) (rest : List ℕ) → 0 < length rest → end_on v counts slots notes rest ≡ Err (fault.BadLine (counts.0 + counts.1 + 2))
end_bad v counts slots notes [] h = absurd (omega (arith, h))
end_bad v counts slots notes (b ∷ bs) h = refl

pub text_outcome : (bytes : List ℕ) (ann : Ann) → (is : IsText bytes ann) → outcome bytes ≡ Ok (is.version, ann)
text_outcome bytes ann is =
    let a = length ann.slots in
    let b = length ann.notes in
    let mid = each_line (note_line is.version) ann.notes in
    let fits : CountsFit (a, b) = (omega (arith, is.within.0), omega (arith, is.within.1)) in
    notes_read bytes is.version a b (each_line slot_line ann.slots ++ mid) (fits, is.same) is.within ann.slots mid (record { fit = is.slots; cut = refl }) refl ann.notes [] (record { fit = is.notes; cut = sym (append-nil mid) }) refl

bad_outcome : (bytes : List ℕ) (n : ℕ) → IsBadLine bytes n → outcome bytes ≡ Err (fault.BadLine n)
bad_outcome bytes n (bad_head none e) =
    ap head_on (no_read head_at head_text HeadFits head_reads bytes (λ x. none x.0 x.1)) ∙ ap (λ m. Err (fault.BadLine m)) (sym e)
bad_outcome bytes n (bad_slot v {counts = counts} {text = text} {rest = rest} {slots = slots} head w so h none e) =
    slot_bad bytes v counts.0 counts.1 text head w slots rest so h none ∙ ap (λ m. Err (fault.BadLine m)) (sym e)
bad_outcome bytes n (bad_node v {counts = counts} {text = text} {mid = mid} {rest = rest} {slots = slots} {notes = notes} head w so full on h none e) =
    note_bad bytes v counts.0 counts.1 text head w slots mid so full notes rest on h none ∙ ap (λ m. Err (fault.BadLine m)) (sym e)
bad_outcome bytes n (bad_end v {counts = counts} {text = text} {mid = mid} {rest = rest} {slots = slots} {notes = notes} head w so full on all some e) =
    notes_read bytes v counts.0 counts.1 text head w slots mid so full notes rest on all ∙ end_bad v counts slots notes rest some ∙ ap (λ m. Err (fault.BadLine m)) (sym e)

pub fault_outcome : (bytes : List ℕ) (f : DerivFault) → IsFault bytes f → outcome bytes ≡ Err f
fault_outcome bytes (fault.BadLine n) is = bad_outcome bytes n is
fault_outcome bytes fault.TooMany is = over bytes is.0 is.1.0 is.1.1 is.2 is.3 is.4
fault_outcome bytes fault.Memory is = absurd is

ok_one : (r : Read) (a b : Version × Ann) → r ≡ Ok a → r ≡ Ok b → a ≡ b
ok_one r a b p q = cc

err_one : (r : Read) (f g : DerivFault) → r ≡ Err f → r ≡ Err g → f ≡ g
err_one r f g p q = cc

ok_err : (r : Read) (a : Version × Ann) (f : DerivFault) → r ≡ Ok a → r ≡ Err f → ⊥
ok_err r a f p q = cc

-- the annotation, and the version of its text
abbrev told : (bytes : List ℕ) (ann : Ann) → IsText bytes ann → Version × Ann
told bytes ann is = (is.version, ann)

one_text : (bytes : List ℕ) (a b : Ann) → (p : IsText bytes a) → (q : IsText bytes b) → told bytes a p ≡ told bytes b q
one_text bytes a b p q = ok_one (outcome bytes) (told bytes a p) (told bytes b q) (text_outcome bytes a p) (text_outcome bytes b q)

pub one_annotation : (bytes : List ℕ) (a b : Ann) → IsText bytes a → IsText bytes b → a ≡ b
one_annotation bytes a b p q = ap (λ (x : Version × Ann). x.1) (one_text bytes a b p q)

-- nor in two versions
pub one_version : (bytes : List ℕ) (a b : Ann) → (p : IsText bytes a) → (q : IsText bytes b) → p.version ≡ q.version
one_version bytes a b p q = ap (λ (x : Version × Ann). x.0) (one_text bytes a b p q)

pub one_fault : (bytes : List ℕ) (f g : DerivFault) → IsFault bytes f → IsFault bytes g → f ≡ g
one_fault bytes f g p q = err_one (outcome bytes) f g (fault_outcome bytes f p) (fault_outcome bytes g q)

pub no_fault : (bytes : List ℕ) (ann : Ann) (f : DerivFault) → IsText bytes ann → IsFault bytes f → ⊥
no_fault bytes ann f p q = ok_err (outcome bytes) (p.version, ann) f (text_outcome bytes ann p) (fault_outcome bytes f q)

-- what is returned if the bytes are a text, and if they have a fault
pub answers_text : (bytes : List ℕ) (result : Result Ann DerivFault) (ann : Ann) → IfOk result (IsText bytes) → IfErr result (RefusesDerivation bytes) → IsText bytes ann → AnswersDerivation result (Ok ann)
answers_text bytes (Ok other) ann ok err is = inl (ap Ok (one_annotation bytes other ann ok is))
answers_text bytes (Err fault.Memory) ann ok err is = inr refl
answers_text bytes (Err fault.TooMany) ann ok err is = absurd (no_fault bytes ann fault.TooMany is err)
answers_text bytes (Err (fault.BadLine n)) ann ok err is = absurd (no_fault bytes ann (fault.BadLine n) is err)

pub answers_fault : (bytes : List ℕ) (result : Result Ann DerivFault) (f : DerivFault) → IfOk result (IsText bytes) → IfErr result (RefusesDerivation bytes) → IsFault bytes f → AnswersDerivation result (Err f)
answers_fault bytes (Ok other) f ok err is = absurd (no_fault bytes other f ok is)
answers_fault bytes (Err fault.Memory) f ok err is = inr refl
answers_fault bytes (Err fault.TooMany) f ok err is = inl (ap Err (one_fault bytes fault.TooMany f err is))
answers_fault bytes (Err (fault.BadLine n)) f ok err is = inl (ap Err (one_fault bytes (fault.BadLine n) f err is))
