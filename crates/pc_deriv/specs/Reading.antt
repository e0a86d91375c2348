-- How the start of a text is read: a value, and what follows it.
use Rattle.std.specs.{Prelude.{ℕ, ◌+◌, ◌-◌, ◌*◌, ◌^◌, nat_lt, nat_le, nat_eq, ◌&&◌, ◌==◌, List, [], ◌∷◌, length, drop, Option, Some, None, if◌then◌else◌, codes}, List.starts_with, Char.{is_ascii_digit, is_ascii_lowercase}}
use Rattle.pc_caps.specs.{declared.capability.Cap.Cap, declared.capability.Form.Form, Words.{cap_name, form_name}}
use Rattle.pc_masks.specs.declared.mask.Mask.{Mask}
use Rattle.pc_ann.specs.{declared.annotation.Rule.Rule, declared.annotation.Note.Note}
use Rattle.pc_deriv.specs.{declared.vocabulary.TheConstants.{VERSIONS, RULES, CAPS, FORMS}, declared.version.Version.Version, Text.{version_name, rule_name, shown_after}}
use Rattle.pc_base.specs.Lists.{◌>>=◌}

-- what follows these bytes
unfoldable pub after_bytes : List ℕ → List ℕ → Option (List ℕ)
after_bytes word text = if starts_with nat_eq text word then Some (drop (length word) text) else None

-- what follows a word and the byte that ends it
unfoldable pub after_word : List ℕ → ℕ → List ℕ → Option (List ℕ)
after_word word end text = after_bytes word text >>= after_bytes (end ∷ [])

-- the first reading, or else the second
abbrev pub or_else : {A : Type 0} → Option A → Option A → Option A
or_else None other = other
or_else (Some x) other = Some x

-- a value, and what follows it
abbrev pub beside : {A : Type 0} → A → Option (List ℕ) → Option (A × List ℕ)
beside x None = None
beside x (Some rest) = Some (x, rest)

-- the first of these whose name, followed by this end, is at the start
abbrev pub read_named : {A : Type 0} → (A → List ℕ) → ℕ → List A → List ℕ → Option (A × List ℕ)
read_named name end [] text = None
read_named name end (x ∷ xs) text = or_else (beside x (after_word (name x) end text)) (read_named name end xs text)

unfoldable pub version_at : List ℕ → Option (Version × List ℕ)
version_at = read_named version_name 32 VERSIONS

unfoldable pub rule_at : List ℕ → Option (Rule × List ℕ)
rule_at = read_named rule_name 32 RULES

unfoldable pub cap_at : List ℕ → Option (Cap × List ℕ)
cap_at = read_named cap_name 10 CAPS

unfoldable pub form_at : List ℕ → Option (Form × List ℕ)
form_at = read_named form_name 32 FORMS

-- the digit that a byte denotes
abbrev pub digit_of : (base byte : ℕ) → Option ℕ
digit_of base b = if is_ascii_digit b && nat_lt (b - 48) base then Some (b - 48) else (if is_ascii_lowercase b && nat_lt (b - 97 + 10) base then Some (b - 97 + 10) else None)

-- a number that is at most this large
abbrev pub at_most : (most number : ℕ) → Option ℕ
at_most most n = if nat_le n most then Some n else None

-- the number extended by one digit
abbrev pub with_digit : (base most value byte : ℕ) → Option ℕ
with_digit base most value b = if value == 0 then None else (digit_of base b >>= (λ d. at_most most (value * base + d)))

-- the number whose first digits have been read, and what follows its end
abbrev pub digits_on : (base most end value : ℕ) → List ℕ → Option (ℕ × List ℕ)
digits_on base most end value [] = None
digits_on base most end value (b ∷ bs) = if b == end then Some (value, bs) else (with_digit base most value b >>= (λ v. digits_on base most end v bs))

abbrev pub number_at : (base most end : ℕ) → List ℕ → Option (ℕ × List ℕ)
number_at base most end [] = None
number_at base most end (b ∷ bs) = digit_of base b >>= (λ d. digits_on base most end d bs)

unfoldable pub decimal_at : ℕ → List ℕ → Option (ℕ × List ℕ)
decimal_at end text = number_at 10 (2 ^ 32 - 1) end text

unfoldable pub mask_at : ℕ → List ℕ → Option (Mask × List ℕ)
mask_at end text = do
  n ← number_at 16 (2 ^ 64 - 1) end text
  Some (record { 0 = n.0 }, n.1)

unfoldable pub head_at : List ℕ → Option ((Version × (ℕ × ℕ)) × List ℕ)
head_at text = do
  t ← after_bytes (codes "rcap-derivation ") text
  v ← version_at t
  a ← decimal_at 32 v.1
  b ← decimal_at 10 a.1
  Some ((v.0, (a.0, b.0)), b.1)

unfoldable pub read_slot : List ℕ → Option ((ℕ × Cap) × List ℕ)
read_slot text = do
  t ← after_bytes (codes "s ") text
  e ← decimal_at 32 t
  k ← cap_at e.1
  Some ((e.0, k.0), k.1)

unfoldable pub some_type_at : List ℕ → Option (Option (ℕ × Form) × List ℕ)
some_type_at text = do
  e ← decimal_at 32 text
  f ← form_at e.1
  Some (Some (e.0, f.0), f.1)

unfoldable pub read_type_or_none : List ℕ → Option (Option (ℕ × Form) × List ℕ)
read_type_or_none text = or_else (beside None (after_bytes (codes "- ") text)) (some_type_at text)

unfoldable pub masks_at : ℕ → List ℕ → Option ((Mask × Mask) × List ℕ)
masks_at end text = do
  l ← mask_at 32 text
  s ← mask_at end l.1
  Some ((l.0, s.0), s.1)

-- what is written for a mask after a node is turned into that mask by the same rule as in writing
unfoldable pub note_at : Version → List ℕ → Option (Note × List ℕ)
note_at version text = do
  t ← after_bytes (codes "n ") text
  r ← rule_at t
  ty ← read_type_or_none r.1
  b ← masks_at 32 ty.1
  a ← masks_at 10 b.1
  Some (record { rule = r.0; ty = ty.0; live_before = b.0.0; set_before = b.0.1; live_after = shown_after version b.0.0 a.0.0; set_after = shown_after version b.0.1 a.0.1 }, a.1)
