-- A line is read if it is there, and only then.
use Rattle.std.proofs.{Common.{◌≡◌, ℕ, ◌-◌, ◌^◌, ◌<◌, List, ◌∷◌, ◌++◌, Option, Some, None, refl, sym, ap, ◌∙◌, subst, arith, append_assoc}, lemmas.Option.same_Some}
use Rattle.std.specs.Prelude.{codes, decimal, ⊤}
use Rattle.pc_caps.specs.{declared.capability.Cap.Cap, declared.capability.Form.Form, Words.{cap_name, form_name}}
use Rattle.pc_masks.specs.declared.mask.Mask.{Mask}
use Rattle.pc_ann.specs.{declared.annotation.Rule.Rule, declared.annotation.Note.Note}
use Rattle.pc_deriv.specs.{declared.version.Version.Version, Text.{version_name, rule_name, head_line, slot_line, type_text, mask_text, shown_after, note_line, CountsFit, SlotFits, TypeFits, MaskFits, NoteFits}, Reading.{digit_of, after_bytes, or_else, beside, version_at, rule_at, cap_at, form_at, number_at, decimal_at, mask_at, head_at, read_slot, some_type_at, read_type_or_none, masks_at, note_at}}
use Rattle.pc_base.specs.Lists.{line_end, ◌>>=◌}
use Rattle.pc_deriv.proofs.{Digits.{ten, sixteen}, NumberReading.{bind_own, number_sound, number_own}, Shown.{shown_twice, shown_fits}, NameReading.{after_sound, after_own, version_sound, version_own, rule_sound, rule_own, cap_sound, cap_own, form_sound, form_own}}
use Rattle.pc_base.proofs.Options.{none_some, bind_some}

-- What is read from the start of a text is there, and what is there is read.
pub record Reads {A : Type 0} (read : List ℕ → Option (A × List ℕ)) (text : A → List ℕ → List ℕ) (Fits : A → Type 0) : Type 0 where
  pub sound : (bytes : List ℕ) (x : A) (rest : List ℕ) → read bytes ≡ Some (x, rest) → Fits x × (bytes ≡ text x rest)
  pub own : (x : A) (rest : List ℕ) → Fits x → read (text x rest) ≡ Some (x, rest)

-- two readings, one after the other
abbrev mask_of : ℕ → Mask
mask_of n = record { 0 = n }

-- what is made of two values, and what follows the second
abbrev made : {A B C : Type 0} → (A → B → C) → A → B × List ℕ → Option (C × List ℕ)
made make a b = Some (make a b.0, b.1)

abbrev made_on : {A B C : Type 0} → (A → B → C) → (List ℕ → Option (B × List ℕ)) → A × List ℕ → Option (C × List ℕ)
made_on make q a = q a.1 >>= made make a.0

both_sound : {A B C : Type 0} {p : List ℕ → Option (A × List ℕ)} {s : A → List ℕ → List ℕ} {F : A → Type 0} {q : List ℕ → Option (B × List ℕ)} {t : B → List ℕ → List ℕ} {G : B → Type 0} (make : A → B → C)
    → Reads p s F → Reads q t G → (bytes : List ℕ) (z : C) (rest : List ℕ) → (p bytes >>= made_on make q) ≡ Some (z, rest)
    → (x : A) × (y : B) × (make x y ≡ z) × F x × G y × (bytes ≡ s x (t y rest))
both_sound {p = p} {s = s} {q = q} {t = t} make first second bytes z rest e =
    let h = bind_some (p bytes) (made_on make q) (z, rest) e in
    let k = bind_some (q h.0.1) (made make h.0.0) (z, rest) h.2 in
    let a = first.sound bytes h.0.0 h.0.1 h.1 in
    let b = second.sound h.0.1 k.0.0 k.0.1 k.1 in
    let same : (make h.0.0 k.0.0, k.0.1) ≡ (z, rest) = same_Some (make h.0.0 k.0.0, k.0.1) (z, rest) k.2 in
    (h.0.0, k.0.0, ap (λ x. x.0) same, a.0, b.0, a.1 ∙ ap (λ l. s h.0.0 l) (b.1 ∙ ap (λ r. t k.0.0 r) (ap (λ x. x.1) same)))

both_own : {A B C : Type 0} {p : List ℕ → Option (A × List ℕ)} {s : A → List ℕ → List ℕ} {F : A → Type 0} {q : List ℕ → Option (B × List ℕ)} {t : B → List ℕ → List ℕ} {G : B → Type 0} (make : A → B → C)
    → Reads p s F → Reads q t G → (x : A) (y : B) (rest : List ℕ) → F x → G y → (p (s x (t y rest)) >>= made_on make q) ≡ Some (make x y, rest)
both_own {p = p} {s = s} {q = q} {t = t} make first second x y rest f g =
    bind_own (p (s x (t y rest))) (made_on make q) (x, t y rest) (Some (make x y, rest)) (first.own x (t y rest) f)
    (bind_own (q (t y rest)) (made make x) (y, rest) (Some (make x y, rest)) (second.own y rest g) refl)

decimal_reads : (end : ℕ) → digit_of 10 end ≡ None → Reads (decimal_at end) (λ n rest. decimal n ++ (end ∷ rest)) (λ n. n < 2 ^ 32)
unfolding decimal_at
decimal_reads end apart = record {
  sound = λ bytes n rest e. let r = number_sound 10 (2 ^ 32 - 1) end ten (omega arith) bytes n rest (omega arith) e in (omega (arith, r.0), r.1);
  own = λ n rest small. number_own 10 (2 ^ 32 - 1) end ten (omega arith) apart n rest (omega (arith, small));
}

mask_reads : (end : ℕ) → digit_of 16 end ≡ None → Reads (mask_at end) (λ m rest. mask_text m ++ (end ∷ rest)) MaskFits
unfolding mask_at
mask_reads end apart = record {
  sound = λ bytes m rest e.
      let h = bind_some (number_at 16 (2 ^ 64 - 1) end bytes) (λ n. Some (mask_of n.0, n.1)) (m, rest) e in
      let r = number_sound 16 (2 ^ 64 - 1) end sixteen (omega arith) bytes h.0.0 h.0.1 (omega arith) h.1 in
      let same : (mask_of h.0.0, h.0.1) ≡ (m, rest) = same_Some (mask_of h.0.0, h.0.1) (m, rest) h.2 in
      let number : h.0.0 ≡ m.0 = ap (λ x. x.0.0) same in
      (omega (arith, r.0, number), r.1 ∙ (λ i. mask_text (same i).0 ++ (end ∷ (same i).1)));
  own = λ m rest small.
      bind_own (number_at 16 (2 ^ 64 - 1) end (mask_text m ++ (end ∷ rest))) (λ n. Some (mask_of n.0, n.1)) (m.0, rest) (Some (m, rest)) (number_own 16 (2 ^ 64 - 1) end sixteen (omega arith) apart m.0 rest (omega (arith, small))) refl;
}

cap_reads : Reads cap_at (λ x rest. cap_name x ++ (10 ∷ rest)) (λ x. ⊤)
cap_reads = record { sound = λ bytes x rest e. (tt, cap_sound bytes x rest e); own = λ x rest f. cap_own x rest }

form_reads : Reads form_at (λ x rest. form_name x ++ (32 ∷ rest)) (λ x. ⊤)
form_reads = record { sound = λ bytes x rest e. (tt, form_sound bytes x rest e); own = λ x rest f. form_own x rest }

-- two masks
abbrev pair_text : ℕ → Mask × Mask → List ℕ → List ℕ
pair_text end (live, set) rest = mask_text live ++ (32 ∷ (mask_text set ++ (end ∷ rest)))

masks_reads : (end : ℕ) → digit_of 16 end ≡ None → Reads (masks_at end) (pair_text end) (λ p. MaskFits p.0 × MaskFits p.1)
unfolding masks_at
masks_reads end apart = record {
  sound = λ bytes p rest e.
      let h = both_sound (λ (a : Mask) (b : Mask). (a, b)) (mask_reads 32 refl) (mask_reads end apart) bytes p rest e in
      ((subst MaskFits (ap (λ x. x.0) h.2) h.3, subst MaskFits (ap (λ x. x.1) h.2) h.4), h.5 ∙ (λ i. pair_text end (h.2 i) rest));
  own = λ p rest f. both_own (λ (a : Mask) (b : Mask). (a, b)) (mask_reads 32 refl) (mask_reads end apart) p.0 p.1 rest f.0 f.1;
}

-- a type and a blank
abbrev pair_of : ℕ → Form → Option (ℕ × Form)
pair_of entity form = Some (entity, form)

type_flat : (entity : ℕ) (form : Form) (rest : List ℕ) → type_text (Some (entity, form)) ++ (32 ∷ rest) ≡ decimal entity ++ (32 ∷ (form_name form ++ (32 ∷ rest)))
type_flat entity form rest = append_assoc (decimal entity) (32 ∷ form_name form) (32 ∷ rest)

some_sound : (bytes : List ℕ) (ty : Option (ℕ × Form)) (rest : List ℕ) → some_type_at bytes ≡ Some (ty, rest) → TypeFits ty × (bytes ≡ type_text ty ++ (32 ∷ rest))
unfolding some_type_at
some_sound bytes ty rest e =
    let h = both_sound pair_of (decimal_reads 32 refl) form_reads bytes ty rest e in
    (subst TypeFits h.2 h.3, h.5 ∙ sym (type_flat h.0 h.1 rest) ∙ (λ i. type_text (h.2 i) ++ (32 ∷ rest)))

some_own : (entity : ℕ) (form : Form) (rest : List ℕ) → entity < 2 ^ 32 → some_type_at (type_text (Some (entity, form)) ++ (32 ∷ rest)) ≡ Some (Some (entity, form), rest)
unfolding some_type_at
some_own entity form rest small = ap some_type_at (type_flat entity form rest) ∙ both_own pair_of (decimal_reads 32 refl) form_reads entity form rest small tt

no_dash : (rest : List ℕ) → some_type_at (codes "- " ++ rest) ≡ None
unfolding some_type_at decimal_at
no_dash rest = refl

type_by : (bytes : List ℕ) (ty : Option (ℕ × Form)) (rest : List ℕ) (o : Option (List ℕ)) → after_bytes (codes "- ") bytes ≡ o → or_else (beside None o) (some_type_at bytes) ≡ Some (ty, rest)
    → TypeFits ty × (bytes ≡ type_text ty ++ (32 ∷ rest))
type_by bytes ty rest None p e = some_sound bytes ty rest e
type_by bytes ty rest (Some found) p e =
    let none : Option (ℕ × Form) = None in
    let same : (none, found) ≡ (ty, rest) = same_Some (none, found) (ty, rest) e in
    (subst TypeFits (ap (λ x. x.0) same) tt, after_sound (codes "- ") bytes found p ∙ (λ i. type_text (same i).0 ++ (32 ∷ (same i).1)))

type_own_by : (entity : ℕ) (form : Form) (rest : List ℕ) (o : Option (List ℕ)) → entity < 2 ^ 32 → after_bytes (codes "- ") (type_text (Some (entity, form)) ++ (32 ∷ rest)) ≡ o
    → or_else (beside None o) (some_type_at (type_text (Some (entity, form)) ++ (32 ∷ rest))) ≡ Some (Some (entity, form), rest)
type_own_by entity form rest None small p = some_own entity form rest small
type_own_by entity form rest (Some found) small p =
    absurd (none_some (sym (ap some_type_at (after_sound (codes "- ") (type_text (Some (entity, form)) ++ (32 ∷ rest)) found p) ∙ no_dash found) ∙ some_own entity form rest small))

type_own : (ty : Option (ℕ × Form)) (rest : List ℕ) → TypeFits ty → read_type_or_none (type_text ty ++ (32 ∷ rest)) ≡ Some (ty, rest)
unfolding read_type_or_none
type_own None rest f = ap (λ o. or_else (beside None o) (some_type_at (codes "- " ++ rest))) (after_own (codes "- ") rest)
type_own (Some (entity, form)) rest f = type_own_by entity form rest (after_bytes (codes "- ") (type_text (Some (entity, form)) ++ (32 ∷ rest))) f refl

type_reads : Reads read_type_or_none (λ ty rest. type_text ty ++ (32 ∷ rest)) TypeFits
unfolding read_type_or_none
type_reads = record { sound = λ bytes ty rest e. type_by bytes ty rest (after_bytes (codes "- ") bytes) refl e; own = type_own }

-- a line before the rest
onto : (a b r : List ℕ) {c : List ℕ} → b ++ r ≡ c → (a ++ b) ++ r ≡ a ++ c
onto a b r h = append_assoc a b r ∙ ap (λ l. a ++ l) h

flat_two : (w a b r : List ℕ) → (w ++ (a ++ (32 ∷ (b ++ line_end)))) ++ r ≡ w ++ (a ++ (32 ∷ (b ++ (10 ∷ r))))
flat_two w a b r = onto w _ _ (onto a _ _ (ap (λ l. 32 ∷ l) (onto b _ _ refl)))

flat_note : (w rule ty lb sb la sa r : List ℕ)
    → (w ++ (rule ++ (32 ∷ (ty ++ (32 ∷ (lb ++ (32 ∷ (sb ++ (32 ∷ (la ++ (32 ∷ (sa ++ line_end)))))))))))) ++ r
    ≡ w ++ (rule ++ (32 ∷ (ty ++ (32 ∷ (lb ++ (32 ∷ (sb ++ (32 ∷ (la ++ (32 ∷ (sa ++ (10 ∷ r))))))))))))
flat_note w rule ty lb sb la sa r = onto w _ _ (onto rule _ _ (ap (λ l. 32 ∷ l) (onto ty _ _ (ap (λ l. 32 ∷ l) (onto lb _ _ (ap (λ l. 32 ∷ l) (onto sb _ _ (ap (λ l. 32 ∷ l) (onto la _ _ (ap (λ l. 32 ∷ l) (onto sa _ _ refl)))))))))))

flat_head : (w version a b r : List ℕ) → (w ++ (version ++ (32 ∷ (a ++ (32 ∷ (b ++ line_end)))))) ++ r ≡ w ++ (version ++ (32 ∷ (a ++ (32 ∷ (b ++ (10 ∷ r))))))
flat_head w version a b r = onto w _ _ (onto version _ _ (ap (λ l. 32 ∷ l) (onto a _ _ (ap (λ l. 32 ∷ l) (onto b _ _ refl)))))

abbrev head_of : Version → ℕ → ℕ → Version × (ℕ × ℕ)
head_of version slots nodes = (version, (slots, nodes))

abbrev counts_on : Version → List ℕ → Option ((Version × (ℕ × ℕ)) × List ℕ)
counts_on version text = decimal_at 32 text >>= (λ a. decimal_at 10 a.1 >>= (λ b. Some (head_of version a.0 b.0, b.1)))

abbrev version_on : List ℕ → Option ((Version × (ℕ × ℕ)) × List ℕ)
version_on text = version_at text >>= (λ v. counts_on v.0 v.1)

-- a first line with a version and its counts
abbrev pub head_text : Version × (ℕ × ℕ) → List ℕ
head_text x = head_line x.0 x.1

abbrev pub HeadFits : Version × (ℕ × ℕ) → Type 0
HeadFits x = CountsFit x.1

head_sound : (bytes : List ℕ) (x : Version × (ℕ × ℕ)) (rest : List ℕ) → head_at bytes ≡ Some (x, rest) → HeadFits x × (bytes ≡ head_text x ++ rest)
unfolding head_at
head_sound bytes x rest e =
    let w = codes "rcap-derivation " in
    let h = bind_some (after_bytes w bytes) version_on (x, rest) e in
    let v = bind_some (version_at h.0) (λ v. counts_on v.0 v.1) (x, rest) h.2 in
    let k = both_sound (head_of v.0.0) (decimal_reads 32 refl) (decimal_reads 10 refl) v.0.1 x rest v.2 in
    let fits : HeadFits (head_of v.0.0 k.0 k.1) = (k.3, k.4) in (
      subst HeadFits k.2 fits,
      after_sound w bytes h.0 h.1 ∙ ap (λ l. w ++ l) (version_sound h.0 v.0.0 v.0.1 v.1 ∙ ap (λ l. version_name v.0.0 ++ (32 ∷ l)) k.5)
          ∙ sym (flat_head w (version_name v.0.0) (decimal k.0) (decimal k.1) rest) ∙ (λ i. head_text (k.2 i) ++ rest),
    )

head_own : (x : Version × (ℕ × ℕ)) (rest : List ℕ) → HeadFits x → head_at (head_text x ++ rest) ≡ Some (x, rest)
unfolding head_at
head_own (version, (slots, nodes)) rest f =
    let w = codes "rcap-derivation " in
    let t = decimal slots ++ (32 ∷ (decimal nodes ++ (10 ∷ rest))) in
    let v = version_name version ++ (32 ∷ t) in
    ap head_at (flat_head w (version_name version) (decimal slots) (decimal nodes) rest)
    ∙ bind_own (after_bytes w (w ++ v)) version_on v (Some ((version, (slots, nodes)), rest)) (after_own w v)
    (bind_own (version_at v) (λ v. counts_on v.0 v.1) (version, t) (Some ((version, (slots, nodes)), rest)) (version_own version t)
    (both_own (head_of version) (decimal_reads 32 refl) (decimal_reads 10 refl) slots nodes rest f.0 f.1))

pub head_reads : Reads head_at (λ x rest. head_text x ++ rest) HeadFits
head_reads = record { sound = head_sound; own = head_own }

slot_sound : (bytes : List ℕ) (x : ℕ × Cap) (rest : List ℕ) → read_slot bytes ≡ Some (x, rest) → SlotFits x × (bytes ≡ slot_line x ++ rest)
unfolding read_slot
slot_sound bytes x rest e =
    let w = codes "s " in
    let h = bind_some (after_bytes w bytes) (λ t. decimal_at 32 t >>= (λ a. cap_at a.1 >>= (λ b. Some ((a.0, b.0), b.1)))) (x, rest) e in
    let k = both_sound (λ (a : ℕ) (b : Cap). (a, b)) (decimal_reads 32 refl) cap_reads h.0 x rest h.2 in
    (subst SlotFits k.2 k.3, after_sound w bytes h.0 h.1 ∙ ap (λ l. w ++ l) k.5 ∙ sym (flat_two w (decimal k.0) (cap_name k.1) rest) ∙ (λ i. slot_line (k.2 i) ++ rest))

slot_own : (x : ℕ × Cap) (rest : List ℕ) → SlotFits x → read_slot (slot_line x ++ rest) ≡ Some (x, rest)
unfolding read_slot
slot_own (entity, cap) rest f =
    let w = codes "s " in
    let t = decimal entity ++ (32 ∷ (cap_name cap ++ (10 ∷ rest))) in
    ap read_slot (flat_two w (decimal entity) (cap_name cap) rest)
    ∙ bind_own (after_bytes w (w ++ t)) (λ t. decimal_at 32 t >>= (λ a. cap_at a.1 >>= (λ b. Some ((a.0, b.0), b.1)))) t (Some ((entity, cap), rest)) (after_own w t)
    (both_own (λ (a : ℕ) (b : Cap). (a, b)) (decimal_reads 32 refl) cap_reads entity cap rest f tt)

pub slot_reads : Reads read_slot (λ x rest. slot_line x ++ rest) SlotFits
slot_reads = record { sound = slot_sound; own = slot_own }

-- what is written for the two masks after a node
abbrev shown : Version → Mask × Mask → Mask × Mask → Mask × Mask
shown version before after = (shown_after version before.0 after.0, shown_after version before.1 after.1)

shown_again : (version : Version) (before after : Mask × Mask) → shown version before (shown version before after) ≡ after
shown_again version before after = (λ i. (shown_twice version before.0 after.0 i, shown_twice version before.1 after.1 i))

-- the note of what is written
abbrev note_of : Version → Rule → Option (ℕ × Form) → Mask × Mask → Mask × Mask → Note
note_of version rule ty before after =
    record { rule = rule; ty = ty; live_before = before.0; set_before = before.1; live_after = shown_after version before.0 after.0; set_after = shown_after version before.1 after.1 }

abbrev masks_on : Version → Rule → Option (ℕ × Form) → List ℕ → Option (Note × List ℕ)
masks_on version rule ty text = masks_at 32 text >>= (λ b. masks_at 10 b.1 >>= (λ a. Some (note_of version rule ty b.0 a.0, a.1)))

abbrev type_on : Version → Rule → List ℕ → Option (Note × List ℕ)
type_on version rule text = read_type_or_none text >>= (λ ty. masks_on version rule ty.0 ty.1)

abbrev rule_on : Version → List ℕ → Option (Note × List ℕ)
rule_on version text = rule_at text >>= (λ r. type_on version r.0 r.1)

-- the line of a note of what is written
flat_shown : (version : Version) (rule : Rule) (ty : Option (ℕ × Form)) (before after : Mask × Mask) (rest : List ℕ)
    → note_line version (note_of version rule ty before after) ++ rest ≡ codes "n " ++ (rule_name rule ++ (32 ∷ (type_text ty ++ (32 ∷ pair_text 32 before (pair_text 10 after rest)))))
flat_shown version rule ty before after rest =
    let twice = shown version before (shown version before after) in
    flat_note (codes "n ") (rule_name rule) (type_text ty) (mask_text before.0) (mask_text before.1) (mask_text twice.0) (mask_text twice.1) rest
    ∙ ap (λ (p : Mask × Mask). codes "n " ++ (rule_name rule ++ (32 ∷ (type_text ty ++ (32 ∷ pair_text 32 before (pair_text 10 p rest)))))) (shown_again version before after)

note_sound : (version : Version) (bytes : List ℕ) (x : Note) (rest : List ℕ) → note_at version bytes ≡ Some (x, rest) → NoteFits x × (bytes ≡ note_line version x ++ rest)
unfolding note_at
note_sound version bytes x rest e =
    let w = codes "n " in
    let h = bind_some (after_bytes w bytes) (rule_on version) (x, rest) e in
    let r = bind_some (rule_at h.0) (λ r. type_on version r.0 r.1) (x, rest) h.2 in
    let ty = bind_some (read_type_or_none r.0.1) (λ ty. masks_on version r.0.0 ty.0 ty.1) (x, rest) r.2 in
    let m = both_sound (note_of version r.0.0 ty.0.0) (masks_reads 32 refl) (masks_reads 10 refl) ty.0.1 x rest ty.2 in
    let t = type_reads.sound r.0.1 ty.0.0 ty.0.1 ty.1 in
    let n = note_of version r.0.0 ty.0.0 m.0 m.1 in
    let fits : NoteFits n = (t.0, (m.3, (shown_fits version m.0.0 m.1.0 m.3.0 m.4.0, shown_fits version m.0.1 m.1.1 m.3.1 m.4.1))) in (
      subst NoteFits m.2 fits,
      after_sound w bytes h.0 h.1
          ∙ ap (λ l. w ++ l) (rule_sound h.0 r.0.0 r.0.1 r.1 ∙ ap (λ l. rule_name r.0.0 ++ (32 ∷ l)) (t.1 ∙ ap (λ l. type_text ty.0.0 ++ (32 ∷ l)) m.5))
          ∙ sym (flat_shown version r.0.0 ty.0.0 m.0 m.1 rest)
          ∙ (λ i. note_line version (m.2 i) ++ rest),
    )

note_own : (version : Version) (x : Note) (rest : List ℕ) → NoteFits x → note_at version (note_line version x ++ rest) ≡ Some (x, rest)
unfolding note_at
note_own version x rest f =
    let w = codes "n " in
    let before : Mask × Mask = (x.live_before, x.set_before) in
    let behind : Mask × Mask = (x.live_after, x.set_after) in
    let after_it : Mask × Mask = shown version before behind in
    let m = pair_text 32 before (pair_text 10 after_it rest) in
    let ty = type_text x.ty ++ (32 ∷ m) in
    let r = rule_name x.rule ++ (32 ∷ ty) in
    let fits : MaskFits after_it.0 × MaskFits after_it.1 = (shown_fits version before.0 behind.0 f.1.0.0 f.1.1.0, shown_fits version before.1 behind.1 f.1.0.1 f.1.1.1) in
    let again : note_of version x.rule x.ty before after_it ≡ x =
    ap (λ (p : Mask × Mask). let n : Note = record { rule = x.rule; ty = x.ty; live_before = x.live_before; set_before = x.set_before; live_after = p.0; set_after = p.1 } in n) (shown_again version before behind) in
    ap (note_at version) (flat_note w (rule_name x.rule) (type_text x.ty) (mask_text x.live_before) (mask_text x.set_before) (mask_text after_it.0) (mask_text after_it.1) rest)
    ∙ bind_own (after_bytes w (w ++ r)) (rule_on version) r (Some (x, rest)) (after_own w r)
    (bind_own (rule_at r) (λ r. type_on version r.0 r.1) (x.rule, ty) (Some (x, rest)) (rule_own x.rule ty)
    (bind_own (read_type_or_none ty) (λ ty. masks_on version x.rule ty.0 ty.1) (x.ty, m) (Some (x, rest)) (type_own x.ty m f.0)
    (both_own (note_of version x.rule x.ty) (masks_reads 32 refl) (masks_reads 10 refl) before after_it rest f.1.0 fits ∙ ap (λ (n : Note). Some (n, rest)) again)))

pub note_reads : (version : Version) → Reads (note_at version) (λ x rest. note_line version x ++ rest) NoteFits
note_reads version = record { sound = note_sound version; own = note_own version }
