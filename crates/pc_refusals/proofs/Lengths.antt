-- A derivation's text is within the limit of a derivation.
use Rattle.std.proofs.{Common.{◌≤◌, ◌<◌, ◌+◌, ◌*◌, ◌/◌, ◌%◌, ◌^◌, ℕ, zero, suc, length, List, [], ◌∷◌, ◌++◌, Option, Some, None, inl, inr, ap, arith, false}, lemmas.Bool.cases_lt, Math.Nat.mul-suc, lemmas.Fmt.{length-decimal-le, hex_one_digit}, lemmas.List.length-append}
use Rattle.std.specs.{Prelude.{codes, decimal}, List.AllByRecursion, Fmt.{digits, digit_glyph}}
use Rattle.pc_caps.specs.{declared.capability.Cap.Cap, declared.capability.Form.Form, Words.{cap_name, form_name}}
use Rattle.pc_caps.specs.declared.capability.Cap.TheVariants as cap
use Rattle.pc_caps.specs.declared.capability.Form.TheVariants as form
use Rattle.pc_deriv.specs.{Text.{derivation_limit, IsText, version_name, rule_name, head_line, slot_line, type_text, mask_text, masks_text, note_line, shown_after, SlotFits, TypeFits, MaskFits, MasksFit, NoteFits}, Parts.{each_line, blank}, declared.version.Version.Version}
use Rattle.pc_masks.specs.declared.mask.Mask.{Mask}
use Rattle.pc_ann.specs.{declared.annotation.Note.Note, declared.annotation.Ann.Ann, declared.annotation.Rule.Rule}
use Rattle.pc_ann.specs.declared.annotation.Rule.TheVariants as rule
use Rattle.pc_deriv.proofs.{Digits.hex_step, Shown.shown_fits}
use Rattle.pc_base.specs.Lists.{line_end}
use Rattle.pc_deriv.specs.declared.version.Version.TheVariants as version

-- The parts of a line.
rule_size : (r : Rule) → length (rule_name r) ≤ 11
rule_size rule.Number = omega arith
rule_size r = omega arith

cap_size : (c : Cap) → length (cap_name c) ≤ 3
cap_size cap.Iso = omega arith
cap_size k = omega arith

form_size : (f : Form) → length (form_name f) ≤ 4
form_size form.IsoE = omega arith
form_size f = omega arith

number_size : (n : ℕ) → n < 2 ^ 32 → length (decimal n) ≤ 10
number_size n l = length-decimal-le 10 n (omega arith) (omega (arith, l)) (omega (arith, l))

hex_size : (j n : ℕ) → n < 2 ^ 64 → n < 16 ^ suc j → length (digits 16 false n) ≤ suc j
hex_size zero n small l = let e = ap (λ (xs : List ℕ). length xs) (hex_one_digit false n (omega (arith, l))) in omega (arith, e)
hex_size (suc j) n small l =
    elim (cases_lt n 16) [
      | inl low ↦ let e = ap (λ (xs : List ℕ). length xs) (hex_one_digit false n low) in omega (arith, e)
      | inr high ↦ let e = ap (λ (xs : List ℕ). length xs) (hex_step n high small) in
          let s = length-append (digits 16 false (n / 16)) (digit_glyph false (n % 16) ∷ []) in
          let r = hex_size j (n / 16) (omega (arith, small)) (omega (arith, l)) in
          omega (arith, e, s, r)
    ]

mask_size : (m : Mask) → MaskFits m → length (mask_text m) ≤ 16
mask_size m l = hex_size 15 m.0 (omega (arith, l)) (omega (arith, l))

-- two lists, one after another
both_sizes : {T : Type 0} → (xs ys : List T) (a b : ℕ) → length xs ≤ a → length ys ≤ b → length (xs ++ ys) ≤ a + b
both_sizes xs ys a b l m = let e = length-append xs ys in omega (arith, e, l, m)

slot_size : (s : ℕ × Cap) → SlotFits s → length (slot_line s) ≤ 17
slot_size s fit =
    let entity = number_size s.0 fit in
    let name = cap_size s.1 in
    both_sizes (codes "s ") _ 2 15 (omega arith) (both_sizes (decimal s.0) _ 10 5 entity (both_sizes blank _ 1 4 (omega arith) (both_sizes (cap_name s.1) line_end 3 1 name (omega arith))))

type_size : (ty : Option (ℕ × Form)) → TypeFits ty → length (type_text ty) ≤ 15
type_size None fit = omega arith
type_size (Some ty) fit = both_sizes (decimal ty.0) _ 10 5 (number_size ty.0 fit) (both_sizes blank (form_name ty.1) 1 4 (omega arith) (form_size ty.1))

masks_size : (v : Version) (t : Note) → MasksFit t → length (masks_text v t) ≤ 69
masks_size v t fit =
    let live = shown_after v t.live_before t.live_after in
    let set = shown_after v t.set_before t.set_after in
    let live_fits = shown_fits v t.live_before t.live_after fit.0.0 fit.1.0 in
    let set_fits = shown_fits v t.set_before t.set_after fit.0.1 fit.1.1 in
    both_sizes blank _ 1 68 (omega arith) (both_sizes (mask_text t.live_before) _ 16 52 (mask_size t.live_before fit.0.0)
    (both_sizes blank _ 1 51 (omega arith) (both_sizes (mask_text t.set_before) _ 16 35 (mask_size t.set_before fit.0.1)
    (both_sizes blank _ 1 34 (omega arith) (both_sizes (mask_text live) _ 16 18 (mask_size live live_fits)
    (both_sizes blank _ 1 17 (omega arith) (both_sizes (mask_text set) line_end 16 1 (mask_size set set_fits) (omega arith))))))))

note_size : (v : Version) (t : Note) → NoteFits t → length (note_line v t) ≤ 98
note_size v t fit =
    both_sizes (codes "n ") _ 2 96 (omega arith) (both_sizes (rule_name t.rule) _ 11 85 (rule_size t.rule) (both_sizes blank _ 1 84 (omega arith)
    (both_sizes (type_text t.ty) (masks_text v t) 15 69 (type_size t.ty fit.0) (masks_size v t fit.1))))

version_size : (v : Version) → length (version_name v) ≤ 1
version_size version.One = omega arith
version_size version.Two = omega arith

-- The whole text.
lines_size : {A : Type 0} → (line : A → List ℕ) (Fits : A → Type 0) (size : ℕ) → ((x : A) → Fits x → length (line x) ≤ size) → (xs : List A) → AllByRecursion Fits xs → length (each_line line xs) ≤ size * length xs
lines_size line Fits size h [] f = omega arith
lines_size line Fits size h (x ∷ xs) f =
    let one = h x f.0 in
    let rest = lines_size line Fits size h xs f.1 in
    let both = length-append (line x) (each_line line xs) in
    let m = mul-suc size (length xs) in
    omega (arith, one, rest, both, m)

pub text_within : (bytes : List ℕ) (ann : Ann) → IsText bytes ann → length bytes ≤ derivation_limit
text_within bytes ann t =
    let slots = lines_size slot_line SlotFits 17 slot_size ann.slots t.slots in
    let v = t.version in
    let notes = lines_size (note_line v) NoteFits 98 (note_size v) ann.notes t.notes in
    let few = t.within.0 in
    let nodes = t.within.1 in
    let a = number_size (length ann.slots) (omega (arith, few)) in
    let b = number_size (length ann.notes) (omega (arith, nodes)) in
    let head : length (head_line v (length ann.slots, length ann.notes)) ≤ 40
    = both_sizes (codes "rcap-derivation ") _ 16 24 (omega arith) (both_sizes (version_name v) _ 1 23 (version_size v) (both_sizes blank _ 1 22 (omega arith)
    (both_sizes (decimal (length ann.slots)) _ 10 12 a (both_sizes blank _ 1 11 (omega arith) (both_sizes (decimal (length ann.notes)) line_end 10 1 b (omega arith)))))) in
    let body = length-append (each_line slot_line ann.slots) (each_line (note_line v) ann.notes) in
    let whole = length-append (head_line v (length ann.slots, length ann.notes)) (each_line slot_line ann.slots ++ each_line (note_line v) ann.notes) in
    let same = ap (λ (xs : List ℕ). length xs) t.same in
    omega (arith, slots, notes, few, nodes, head, body, whole, same)
