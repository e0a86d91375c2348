-- The order on forms: the reflexive and transitive closure of ten pairs, the smaller form first. A value of the smaller
-- form may be used wherever one of the larger is expected (the paper of 2015). And the tables on capabilities and forms:
-- storing and sending follow the paper of 2015; the tables on fields and `recover` are this project's profile.
use Rattle.std.specs.Prelude.{◌≡◌, ◌⊎◌, Bool, true, false, List, [], ◌∷◌, Option, Some, None}
use Rattle.pc_caps.specs.{declared.capability.Form.Form, declared.capability.Form.TheVariants.{IsoE, TrnE, Iso, Trn, Ref, Val, Box, Tag}, declared.capability.Cap.Cap}
use Rattle.pc_caps.specs.declared.capability.Cap.TheVariants as cap
use Rattle.pc_caps.specs.declared.capability.Form.TheVariants as form

-- ---- the order

-- The ten pairs.
abbrev pub pairs : List (Form × Form)
pairs =
    (IsoE, TrnE) ∷ (IsoE, Iso) ∷ (TrnE, Trn) ∷ (TrnE, Ref) ∷ (TrnE, Val) ∷ (Trn, Box) ∷ (Ref, Box) ∷ (Val, Box)
    ∷ (Box, Tag) ∷ (Iso, Tag) ∷ []

-- A pair of forms is in a list.
abbrev pub IsPairIn : List (Form × Form) → Form → Form → Type 0
IsPairIn [] a b = ⊥
IsPairIn (p ∷ ps) a b = ((p.0 ≡ a) × (p.1 ≡ b)) ⊎ IsPairIn ps a b

-- The closure: a path of pairs, of any length, leads from the first form to the second.
pub data IsBelow : Form → Form → Type 0 where
  same : {a : Form} → IsBelow a a
  step : {a b c : Form} → IsPairIn pairs a b → IsBelow b c → IsBelow a c

-- ---- the tables

-- A row of a table: one entry for each capability, in the order iso, trn, ref, val, box, tag.
abbrev pub at : {T : Type 0} → T → T → T → T → T → T → Cap → T
at iso trn ref val box tag cap.Iso = iso
at iso trn ref val box tag cap.Trn = trn
at iso trn ref val box tag cap.Ref = ref
at iso trn ref val box tag cap.Val = val
at iso trn ref val box tag cap.Box = box
at iso trn ref val box tag cap.Tag = tag

-- The same for forms: one entry for each, in the order iso^, trn^, iso, trn, ref, val, box, tag.
abbrev pub at_form : {T : Type 0} → T → T → T → T → T → T → T → T → Form → T
at_form iso_e trn_e iso trn ref val box tag form.IsoE = iso_e
at_form iso_e trn_e iso trn ref val box tag form.TrnE = trn_e
at_form iso_e trn_e iso trn ref val box tag form.Iso = iso
at_form iso_e trn_e iso trn ref val box tag form.Trn = trn
at_form iso_e trn_e iso trn ref val box tag form.Ref = ref
at_form iso_e trn_e iso trn ref val box tag form.Val = val
at_form iso_e trn_e iso trn ref val box tag form.Box = box
at_form iso_e trn_e iso trn ref val box tag form.Tag = tag

-- The form of a value read from a place of this capability.
abbrev pub plain : Cap → Form
plain = at form.Iso form.Trn form.Ref form.Val form.Box form.Tag

-- The form that a value must be below to be stored at this capability: `iso^` for `iso`, `trn^` for `trn`, and otherwise
-- the capability itself.
abbrev pub unalias : Cap → Form
unalias = at form.IsoE form.TrnE form.Ref form.Val form.Box form.Tag

-- The capability of an alias of a value of this form.
abbrev pub stored : Form → Cap
stored = at_form cap.Iso cap.Trn cap.Tag cap.Box cap.Ref cap.Val cap.Box cap.Tag

-- A row of forms, and a row without entries.
abbrev pub seen : Form → Form → Form → Form → Form → Form → Cap → Option Form
seen iso trn ref val box tag k = Some (at iso trn ref val box tag k)

abbrev pub nothing : Cap → Option Form
nothing k = None

-- The rows that two origins share.
abbrev pub view_iso : Cap → Option Form
view_iso = seen form.Iso form.Tag form.Tag form.Val form.Tag form.Tag

abbrev pub view_trn : Cap → Option Form
view_trn = seen form.Iso form.Box form.Box form.Val form.Box form.Tag

-- The form of a field when it is read, by the form of its origin and the field's capability.
abbrev pub view : Form → Cap → Option Form
view form.IsoE = view_iso
view form.Iso = view_iso
view form.TrnE = view_trn
view form.Trn = view_trn
view form.Ref = seen form.Iso form.Trn form.Ref form.Val form.Box form.Tag
view form.Val = seen form.Val form.Val form.Val form.Val form.Val form.Tag
view form.Box = seen form.Tag form.Box form.Box form.Val form.Box form.Tag
view form.Tag = nothing

abbrev pub taken_iso : Cap → Option Form
taken_iso = seen form.IsoE form.Tag form.Tag form.Val form.Tag form.Tag

abbrev pub taken_trn : Cap → Option Form
taken_trn = seen form.IsoE form.Box form.Box form.Val form.Box form.Tag

-- The form of the old value of a field when it is assigned.
abbrev pub taken : Form → Cap → Option Form
taken form.IsoE = taken_iso
taken form.Iso = taken_iso
taken form.TrnE = taken_trn
taken form.Trn = taken_trn
taken form.Ref = seen form.IsoE form.TrnE form.Ref form.Val form.Box form.Tag
taken form.Val = nothing
taken form.Box = nothing
taken form.Tag = nothing

-- A capability is tag.
abbrev pub is_tag : Cap → Bool
is_tag = at false false false false false true

-- The values that may be written into an iso origin, by the field's capability: `iso^`, `val` and `tag`, and `iso` into a
-- `tag` field.
abbrev pub enters_iso : Form → Cap → Bool
enters_iso f k = at_form true false (is_tag k) false false true false true f

-- The values that may be written into a trn origin: those that an iso origin takes, and `trn^`.
abbrev pub enters_trn : Form → Cap → Bool
enters_trn form.TrnE k = true
enters_trn f k = enters_iso f k

-- An origin accepts values of this form in a field of this capability. An origin that can only be read or compared
-- accepts none.
abbrev pub enters : Form → Form → Cap → Bool
enters form.IsoE = enters_iso
enters form.Iso = enters_iso
enters form.TrnE = enters_trn
enters form.Trn = enters_trn
enters form.Ref = λ f k. true
enters form.Val = λ f k. false
enters form.Box = λ f k. false
enters form.Tag = λ f k. false

-- The form of a `recover`'s value, by that of its body: `iso^`, `trn^` and `ref` become `iso^`, since nothing outside
-- reaches what was made inside; `trn`, `box` and `val` become `val`; `iso` and `tag` become `tag`.
abbrev pub lift : Form → Form
lift = at_form form.IsoE form.IsoE form.Tag form.Val form.IsoE form.Val form.Val form.Tag

-- The content of a place of this capability may be sent to another actor.
abbrev pub sendable : Cap → Bool
sendable = at true false false true false true

-- A value of this form may be sent to another actor.
abbrev pub sendable_form : Form → Bool
sendable_form = at_form true false true false false true false true
