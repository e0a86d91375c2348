-- The lines that have been read.
use Rattle.std.proofs.{Common.{◌≡◌, ℕ, true, false, ◌==◌, ◌+◌, ◌<◌, List, [], ◌∷◌, ◌++◌, Option, Some, None, length, refl, sym, ap, ◌∙◌, arith, append_assoc, append-nil}, lemmas.Bool.{true≢false, eqb-true}}
use Rattle.std.specs.List.{AllByRecursion}
use Rattle.pc_caps.specs.declared.capability.Cap.{Cap}
use Rattle.pc_ann.specs.declared.annotation.Note.{Note}
use Rattle.pc_deriv.specs.{Text.{head_line, slot_line, note_line, SlotFits, NoteFits, Within, IsText, BeginsLine, NoLine, BeginsHead, IsBadLine, bad_head, bad_slot, bad_node, bad_end, IsTooMany}, Parts.{each_line, RefusesDerivation}, Reading.{head_at, read_slot, note_at}, declared.version.Version.Version, declared.fault.DerivFault.DerivFault, Stops.{StopsEarly, SlotsStop, NotesStop}}
use Rattle.pc_deriv.specs.declared.fault.DerivFault.TheVariants as fault
use Rattle.pc_base.proofs.Options.{none_some}
use Rattle.pc_deriv.proofs.LineReading.{Reads, head_text, HeadFits, head_reads, slot_reads, note_reads}

lines_app : {A : Type 0} (line : A → List ℕ) (xs : List A) (x : A) (rest : List ℕ) → each_line line (xs ++ x ∷ []) ++ rest ≡ each_line line xs ++ (line x ++ rest)
lines_app line [] x rest = ap (λ l. l ++ rest) (append-nil (line x))
lines_app line (y ∷ ys) x rest =
    append_assoc (line y) (each_line line (ys ++ x ∷ [])) rest ∙ ap (λ l. line y ++ l) (lines_app line ys x rest) ∙ sym (append_assoc (line y) (each_line line ys) (line x ++ rest))

pub all_app : {A : Type 0} (P : A → Type 0) (xs : List A) (x : A) → AllByRecursion P xs → P x → AllByRecursion P (xs ++ x ∷ [])
all_app P [] x h p = (p, tt)
all_app P (y ∷ ys) x h p = (h.0, all_app P ys x h.1 p)

module _ {A : Type 0} (read : List ℕ → Option (A × List ℕ)) (line : A → List ℕ) (Fits : A → Type 0) (reads : Reads read (λ x rest. line x ++ rest) Fits) where
  starts_so : (text : List ℕ) → BeginsLine line Fits text [] text
  starts_so text = record { fit = tt; cut = refl }

  goes_on : (text : List ℕ) (xs : List A) (mid : List ℕ) (x : A) (rest : List ℕ) → BeginsLine line Fits text xs mid → read mid ≡ Some (x, rest) → BeginsLine line Fits text (xs ++ x ∷ []) rest
  goes_on text xs mid x rest so e =
      let r = reads.sound mid x rest e in
      record { fit = all_app Fits xs x so.fit r.0; cut = so.cut ∙ ap (λ l. each_line line xs ++ l) r.1 ∙ sym (lines_app line xs x rest) }

  no_line : (text : List ℕ) → read text ≡ None → NoLine line Fits text
  no_line text h x rest f e = none_some (sym h ∙ ap read e ∙ reads.own x rest f)

  stops_so : (text : List ℕ) (xs : List A) (rest : List ℕ) (before wanted n : ℕ) → BeginsLine line Fits text xs rest → length xs < wanted → read rest ≡ None → n ≡ before + length xs + 2 → StopsEarly line Fits text before wanted n
  stops_so text xs rest before wanted n so less h e = record { read = xs; rest = rest; begins = so; fewer = less; ends = no_line rest h; number = e }

pub no_slot : (text : List ℕ) → BeginsLine slot_line SlotFits text [] text
no_slot = starts_so read_slot slot_line SlotFits slot_reads

pub slot_more : (text : List ℕ) (xs : List (ℕ × Cap)) (mid : List ℕ) (x : ℕ × Cap) (rest : List ℕ) → BeginsLine slot_line SlotFits text xs mid → read_slot mid ≡ Some (x, rest) → BeginsLine slot_line SlotFits text (xs ++ x ∷ []) rest
slot_more = goes_on read_slot slot_line SlotFits slot_reads

pub slot_stops : (text : List ℕ) (xs : List (ℕ × Cap)) (rest : List ℕ) (before wanted n : ℕ) → BeginsLine slot_line SlotFits text xs rest → length xs < wanted → read_slot rest ≡ None → n ≡ before + length xs + 2 → StopsEarly slot_line SlotFits text before wanted n
slot_stops = stops_so read_slot slot_line SlotFits slot_reads

module _ (v : Version) where
  pub no_note : (text : List ℕ) → BeginsLine (note_line v) NoteFits text [] text
  no_note = starts_so (note_at v) (note_line v) NoteFits (note_reads v)

  pub note_more : (text : List ℕ) (xs : List Note) (mid : List ℕ) (x : Note) (rest : List ℕ) → BeginsLine (note_line v) NoteFits text xs mid → note_at v mid ≡ Some (x, rest) → BeginsLine (note_line v) NoteFits text (xs ++ x ∷ []) rest
  note_more = goes_on (note_at v) (note_line v) NoteFits (note_reads v)

  pub note_stops : (text : List ℕ) (xs : List Note) (rest : List ℕ) (before wanted n : ℕ) → BeginsLine (note_line v) NoteFits text xs rest → length xs < wanted → note_at v rest ≡ None → n ≡ before + length xs + 2
      → StopsEarly (note_line v) NoteFits text before wanted n
  note_stops = stops_so (note_at v) (note_line v) NoteFits (note_reads v)

-- whether something follows
pub some_left : (rest : List ℕ) → (length rest == 0) ≡ false → 0 < length rest
some_left [] e = let other : true ≡ false = e in absurd (true≢false other)
some_left (b ∷ bs) e = omega arith

pub none_left : (rest : List ℕ) → (length rest == 0) ≡ true → rest ≡ []
none_left [] e = refl
none_left (b ∷ bs) e = let none : length (b ∷ bs) ≡ 0 = eqb-true (length (b ∷ bs)) 0 e in absurd (omega (arith, none))

module _ (bytes : List ℕ) where
  pub head_bad : head_at bytes ≡ None → IsBadLine bytes 1
  head_bad h = bad_head (λ v counts. no_line head_at head_text HeadFits head_reads bytes h (v, counts)) refl

  module _ (v : Version) (a b : ℕ) (text : List ℕ) (head : head_at bytes ≡ Some ((v, (a, b)), text)) where
    begins_head : BeginsHead bytes v (a, b) text
    begins_head = head_reads.sound bytes (v, (a, b)) text head

    pub too_many : (Within (a, b) → ⊥) → IsTooMany bytes
    too_many h = (v, (a, b), text, begins_head, h)

    bad_slots : (n : ℕ) → Within (a, b) → StopsEarly slot_line SlotFits text 0 a n → IsBadLine bytes n
    bad_slots n w s = bad_slot v begins_head w s.begins s.fewer s.ends (omega (arith, s.number))

    pub slots_refused : (f : DerivFault) → Within (a, b) → SlotsStop text a f → RefusesDerivation bytes f
    slots_refused (fault.BadLine n) w s = bad_slots n w s
    slots_refused fault.TooMany w s = absurd s
    slots_refused fault.Memory w s = tt

    module _ (slots : List (ℕ × Cap)) (mid : List ℕ) (w : Within (a, b)) (so : BeginsLine slot_line SlotFits text slots mid) (full : length slots ≡ a) where
      bad_notes : (n : ℕ) → StopsEarly (note_line v) NoteFits mid a b n → IsBadLine bytes n
      bad_notes n s = bad_node v begins_head w so full s.begins s.fewer s.ends (omega (arith, s.number))

      pub notes_refused : (f : DerivFault) → NotesStop v mid a b f → RefusesDerivation bytes f
      notes_refused (fault.BadLine n) s = bad_notes n s
      notes_refused fault.TooMany s = absurd s
      notes_refused fault.Memory s = tt

      module _ (notes : List Note) (rest : List ℕ) (on : BeginsLine (note_line v) NoteFits mid notes rest) (all : length notes ≡ b) where
        pub bad_rest : (n : ℕ) → 0 < length rest → n ≡ a + b + 2 → IsBadLine bytes n
        bad_rest n some e = bad_end v begins_head w so full on all some e

        pub whole_text : rest ≡ [] → IsText bytes (record { slots = slots; notes = notes })
        whole_text none = record {
          version = v;
          slots = so.fit;
          notes = on.fit;
          within = (omega (arith, w.0, full), omega (arith, w.1, all));
          same = begins_head.1 ∙ (λ i. head_line v (sym full i, sym all i) ++ text)
              ∙ ap (λ l. head_line v (length slots, length notes) ++ l) (so.cut ∙ ap (λ l. each_line slot_line slots ++ l) (on.cut ∙ ap (λ l. each_line (note_line v) notes ++ l) none ∙ append-nil (each_line (note_line v) notes)));
        }
