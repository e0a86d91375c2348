-- A line's only line end is its last byte, and no line is longer than the buffer.
use Rattle.std.proofs.{Common.{◌≡◌, ◌≢◌, ℕ, zero, suc, ◌+◌, ◌/◌, ◌%◌, ◌^◌, ◌<◌, ◌≤◌, Bool, true, false, cond, ◌&&◌, ◌==◌, List, [], ◌∷◌, ◌++◌, Option, Some, None, length, drop, get_or, refl, sym, ap, ap₂, ◌∙◌, subst, inl, inr, arith, append_assoc, append-nil, length-append}, lemmas.Bool.{and_parts, true≢false, cases_lt}, lemmas.Bool.Decides.nat_tests, lemmas.Fmt.{decimal_by_steps, length-decimal-le}}
use Rattle.std.specs.{Prelude.{codes, decimal, nat_le}, Fmt.{digit_glyph, digits}}
use Rattle.pc_caps.specs.{declared.capability.Cap.Cap, declared.capability.Form.Form, Words.{cap_name, form_name}}
use Rattle.pc_caps.specs.declared.capability.Cap.TheVariants as cap
use Rattle.pc_caps.specs.declared.capability.Form.TheVariants as form
use Rattle.pc_masks.specs.declared.mask.Mask.{Mask}
use Rattle.pc_ann.specs.{declared.annotation.Rule.Rule, declared.annotation.Note.Note}
use Rattle.pc_ann.specs.declared.annotation.Rule.TheVariants as rule
use Rattle.pc_deriv.specs.{declared.version.Version.Version, Text.{version_name, rule_name, slot_line, type_text, mask_text, shown_after, masks_text, note_line, SlotFits, TypeFits, MaskFits, NoteFits, NoLine}, Parts.blank, Reading.digit_of, Lines.longest_line, Pieces.NoEnd}
use Rattle.pc_deriv.specs.declared.version.Version.TheVariants as version
use Rattle.pc_base.specs.Lists.{line_end}
use Rattle.pc_base.proofs.Options.{none_some}
use Rattle.pc_deriv.proofs.{Digits.{sixteen, hex_step}, NumberReading.digit_own, Shown.shown_fits, LineReading.{Reads, head_text, HeadFits}, Feeding.no_end_app}

-- ---- parts of a line

-- at most this number of bytes, and no line end among them
pub record Plain (n : ℕ) (bytes : List ℕ) : Type 0 where
  pub none : NoEnd bytes
  pub short : length bytes ≤ n

abbrev no_end : List ℕ → Bool
no_end [] = true
no_end (b ∷ bs) = cond (b == 10) false true && no_end bs

not_end : (b : ℕ) (test : Bool) → (b == 10) ≡ test → cond test false true ≡ true → b ≢ 10
not_end b true p e = absurd (true≢false (sym e))
not_end b false p e = λ (q : b ≡ 10). grind (arith, nat_tests)

no_end_is : (bytes : List ℕ) → no_end bytes ≡ true → NoEnd bytes
no_end_is [] e = tt
no_end_is (b ∷ bs) e = let h = and_parts (cond (b == 10) false true) (no_end bs) e in (not_end b (b == 10) refl h.0, no_end_is bs h.1)

abbrev plain : ℕ → List ℕ → Bool
plain n bytes = no_end bytes && nat_le (length bytes) n

short_by : (m n : ℕ) → nat_le m n ≡ true → m ≤ n
short_by m n e = grind (arith, nat_tests)

plain_is : (n : ℕ) (bytes : List ℕ) → plain n bytes ≡ true → Plain n bytes
plain_is n bytes e = let h = and_parts (no_end bytes) (nat_le (length bytes) n) e in record { none = no_end_is bytes h.0; short = short_by (length bytes) n h.1 }

plain_app : {m n : ℕ} {a b : List ℕ} → Plain m a → Plain n b → Plain (m + n) (a ++ b)
plain_app {m = m} {n = n} {a = a} {b = b} p q =
    let size = length-append a b in
    let p_short = p.short in
    let q_short = q.short in
    record { none = no_end_app a b p.none q.none; short = omega (arith, size, p_short, q_short) }

version_plain : (v : Version) → plain 1 (version_name v) ≡ true
version_plain version.One = refl
version_plain version.Two = refl

rule_plain : (r : Rule) → plain 11 (rule_name r) ≡ true
rule_plain rule.Number = refl
rule_plain r = refl

cap_plain : (k : Cap) → plain 3 (cap_name k) ≡ true
cap_plain cap.Iso = refl
cap_plain k = refl

form_plain : (f : Form) → plain 4 (form_name f) ≡ true
form_plain form.IsoE = refl
form_plain f = refl

decimal_plain : (n : ℕ) → n < 2 ^ 32 → Plain 10 (decimal n)
decimal_plain n small = record {
  none = decimal_by_steps (λ m ds. NoEnd ds)
      (λ m h. ((λ (q : 48 + m ≡ 10). omega (arith, q)), tt))
      (λ m ds h p. no_end_app ds ((48 + m % 10) ∷ []) p ((λ (q : 48 + m % 10 ≡ 10). omega (arith, q)), tt))
      n (omega (arith, small));
  short = length-decimal-le 10 n (omega arith) (omega (arith, small)) (omega (arith, small));
}

glyph_plain : (d : ℕ) → d < 16 → digit_glyph false d ≢ 10
glyph_plain d h = λ (e : digit_glyph false d ≡ 10). none_some (ap (digit_of 16) (sym e) ∙ digit_own 16 d (omega arith) h)

one_plain : (n : ℕ) → n < 16 → Plain 1 (digits 16 false n)
one_plain n h = subst (Plain 1) (sym (sixteen.one n h)) (record { none = (glyph_plain n h, tt); short = omega arith })

hex_more : (k n : ℕ) → 16 ≤ n → n < 2 ^ 64 → Plain (suc k) (digits 16 false (n / 16)) → Plain (suc (suc k)) (digits 16 false n)
hex_more k n high small p =
    let last : n % 16 < 16 = omega arith in
    let one : Plain 1 (digit_glyph false (n % 16) ∷ []) = record { none = (glyph_plain (n % 16) last, tt); short = omega arith } in
    let count : suc k + 1 ≡ suc (suc k) = omega arith in
    subst (λ m. Plain m (digits 16 false n)) count (subst (Plain (suc k + 1)) (sym (hex_step n high small)) (plain_app p one))

longer : (k m : ℕ) (bytes : List ℕ) → k ≤ m → Plain k bytes → Plain m bytes
longer k m bytes h p = let s = p.short in record { none = p.none; short = omega (arith, h, s) }

hex_plain : (k n : ℕ) → n < 16 ^ suc k → n < 2 ^ 64 → Plain (suc k) (digits 16 false n)
hex_plain zero n low small = one_plain n (omega (arith, low))
hex_plain (suc k) n low small = elim (cases_lt n 16) [
  | inl l ↦ longer 1 (suc (suc k)) (digits 16 false n) (omega arith) (one_plain n l)
  | inr l ↦ hex_more k n l small (hex_plain k (n / 16) (omega arith) (omega arith))
]

mask_plain : (m : Mask) → MaskFits m → Plain 16 (mask_text m)
mask_plain m small = hex_plain 15 m.0 (omega (arith, small)) small

type_plain : (ty : Option (ℕ × Form)) → TypeFits ty → Plain 15 (type_text ty)
type_plain None fits = plain_is 15 (codes "-") refl
type_plain (Some (entity, form)) fits = plain_app (decimal_plain entity fits) (plain_app (plain_is 1 blank refl) (plain_is 4 (form_name form) (form_plain form)))

-- ---- a line

-- bytes whose only line end is the last of them, and at most this number of bytes before it
pub record Framed (n : ℕ) (bytes : List ℕ) : Type 0 where
  pub front : List ℕ
  pub none : NoEnd front
  pub is : bytes ≡ front ++ 10 ∷ []
  pub short : length front ≤ n

framed_end : Framed 0 line_end
framed_end = record { front = []; none = tt; is = refl; short = omega arith }

framed_on : {m n : ℕ} {a bytes : List ℕ} → Plain m a → Framed n bytes → Framed (m + n) (a ++ bytes)
framed_on {m = m} {n = n} {a = a} {bytes = bytes} p f =
    let size = length-append a f.front in
    let p_short = p.short in
    let f_short = f.short in
    record {
      front = a ++ f.front;
      none = no_end_app a f.front p.none f.none;
      is = ap (λ l. a ++ l) f.is ∙ sym (append_assoc a f.front (10 ∷ []));
      short = omega (arith, size, p_short, f_short);
    }

within_line : {n : ℕ} {bytes : List ℕ} → n ≤ 127 → Framed n bytes → Framed 127 bytes
within_line {n = n} h f = let s = f.short in record { front = f.front; none = f.none; is = f.is; short = omega (arith, h, s) }

space : Plain 1 blank
space = plain_is 1 blank refl

pub head_framed : (x : Version × (ℕ × ℕ)) → HeadFits x → Framed 127 (head_text x)
head_framed (v, (slots, nodes)) fits =
    within_line (omega arith) (framed_on (plain_is 16 (codes "rcap-derivation ") refl) (framed_on (plain_is 1 (version_name v) (version_plain v)) (framed_on space (framed_on (decimal_plain slots fits.0) (framed_on space (framed_on (decimal_plain nodes fits.1) framed_end))))))

pub slot_framed : (x : ℕ × Cap) → SlotFits x → Framed 127 (slot_line x)
slot_framed (entity, cap) fits =
    within_line (omega arith) (framed_on (plain_is 2 (codes "s ") refl) (framed_on (decimal_plain entity fits) (framed_on space (framed_on (plain_is 3 (cap_name cap) (cap_plain cap)) framed_end))))

masks_framed : (v : Version) (note : Note) → NoteFits note → Framed 68 (masks_text v note)
masks_framed v note fits =
    let live = shown_after v note.live_before note.live_after in
    let set = shown_after v note.set_before note.set_after in
    let live_fits : MaskFits live = shown_fits v note.live_before note.live_after fits.1.0.0 fits.1.1.0 in
    let set_fits : MaskFits set = shown_fits v note.set_before note.set_after fits.1.0.1 fits.1.1.1 in
    framed_on space (framed_on (mask_plain note.live_before fits.1.0.0) (framed_on space (framed_on (mask_plain note.set_before fits.1.0.1)
    (framed_on space (framed_on (mask_plain live live_fits) (framed_on space (framed_on (mask_plain set set_fits) framed_end)))))))

pub note_framed : (v : Version) (x : Note) → NoteFits x → Framed 127 (note_line v x)
note_framed v note fits =
    within_line (omega arith) (framed_on (plain_is 2 (codes "n ") refl) (framed_on (plain_is 11 (rule_name note.rule) (rule_plain note.rule)) (framed_on space (framed_on (type_plain note.ty fits.0) (masks_framed v note fits)))))

-- ---- the place of the first line end

tails : (x y : ℕ) (xs ys : List ℕ) → x ∷ xs ≡ y ∷ ys → xs ≡ ys
tails x y xs ys e = ap (drop 1) e

heads : (x y : ℕ) (xs ys : List ℕ) → x ∷ xs ≡ y ∷ ys → x ≡ y
heads x y xs ys e = ap (λ l. get_or l 0 0) e

-- two cuts at the first line end are the same
first_end : (a b r s : List ℕ) → NoEnd a → NoEnd b → a ++ 10 ∷ r ≡ b ++ 10 ∷ s → (a ≡ b) × (r ≡ s)
first_end [] [] r s p q e = (refl, tails 10 10 r s e)
first_end [] (y ∷ b) r s p q e = absurd (q.0 (sym (heads 10 y r (b ++ 10 ∷ s) e)))
first_end (x ∷ a) [] r s p q e = absurd (p.0 (heads x 10 (a ++ 10 ∷ r) s e))
first_end (x ∷ a) (y ∷ b) r s p q e =
    let more = first_end a b r s p.1 q.1 (tails x y (a ++ 10 ∷ r) (b ++ 10 ∷ s) e) in
    (ap₂ (λ h t. h ∷ t) (heads x y (a ++ 10 ∷ r) (b ++ 10 ∷ s) e) more.0, more.1)

-- there is no line end within bytes that have none
no_end_within : (l more b s : List ℕ) → NoEnd l → length b < length l → l ++ more ≡ b ++ 10 ∷ s → ⊥
no_end_within [] more b s p less e = omega (arith, less)
no_end_within (x ∷ l) more [] s p less e = p.0 (heads x 10 (l ++ more) s e)
no_end_within (x ∷ l) more (y ∷ b) s p less e = no_end_within l more b s p.1 (omega (arith, less)) (tails x y (l ++ more) (b ++ 10 ∷ s) e)

no_end_at : (l b s : List ℕ) → NoEnd l → l ≡ b ++ 10 ∷ s → ⊥
no_end_at l b s p e =
    let size : length l ≡ length (b ++ 10 ∷ s) = ap length e in
    let parts = length-append b (10 ∷ s) in
    let one : length (10 ∷ s) ≡ suc (length s) = refl in
    no_end_within l [] b s p (omega (arith, size, parts, one)) (append-nil l ∙ e)

module _ {A : Type 0} (read : List ℕ → Option (A × List ℕ)) (line : A → List ℕ) (Fits : A → Type 0) (reads : Reads read (λ x rest. line x ++ rest) Fits) (framed : (x : A) → Fits x → Framed 127 (line x)) where
  cut : (x : A) (rest : List ℕ) (f : Framed 127 (line x)) → line x ++ rest ≡ f.front ++ 10 ∷ rest
  cut x rest f = ap (λ l. l ++ rest) f.is ∙ append_assoc f.front (10 ∷ []) rest

  -- bytes without a line end that fill the buffer
  pub none_long : (l more : List ℕ) → NoEnd l → longest_line ≤ length l → NoLine line Fits (l ++ more)
  none_long l more none long x rest fits e =
      let f = framed x fits in
      let s = f.short in
      no_end_within l more f.front rest none (omega (arith, s, long)) (e ∙ cut x rest f)

  -- a malformed line
  pub none_ended : (pending more : List ℕ) → NoEnd pending → read (pending ++ 10 ∷ []) ≡ None → NoLine line Fits (pending ++ 10 ∷ more)
  none_ended pending more none unread x rest fits e =
      let f = framed x fits in
      let k = first_end pending f.front more rest none f.none (e ∙ cut x rest f) in
      none_some (sym unread ∙ ap read (ap (λ l. l ++ 10 ∷ []) k.0 ∙ sym f.is ∙ sym (append-nil (line x))) ∙ reads.own x [] fits)

  -- bytes that have no line end
  pub none_open : (pending : List ℕ) → NoEnd pending → NoLine line Fits pending
  none_open pending none x rest fits e = let f = framed x fits in no_end_at pending f.front rest none (e ∙ cut x rest f)

  -- a well-formed line
  pub is_line : (pending : List ℕ) (x : A) (rest : List ℕ) → NoEnd pending → read (pending ++ 10 ∷ []) ≡ Some (x, rest) → Fits x × (pending ++ 10 ∷ [] ≡ line x)
  is_line pending x rest none e =
      let s = reads.sound (pending ++ 10 ∷ []) x rest e in
      let f = framed x s.0 in
      let k = first_end pending f.front [] rest none f.none (s.1 ∙ cut x rest f) in
      (s.0, ap (λ l. l ++ 10 ∷ []) k.0 ∙ sym f.is)
