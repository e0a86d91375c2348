-- The derivation text of an annotation, in each version.
use Rattle.std.specs.{Prelude.{ℕ, List, codes, ◌<◌, ◌^◌, false, ◌++◌, length, Option, None, Some, decimal, bit_xor, ⊤, ◌≡◌, ◌+◌, ◌≤◌, flat_map}, Fmt.digits, List.AllByRecursion}
use Rattle.pc_base.specs.{Limits.{program_slot_limit, node_limit}, Lists.line_end}
use Rattle.pc_caps.specs.{declared.capability.Cap.Cap, declared.capability.Form.Form, Words.{cap_name, form_name}}
use Rattle.pc_ann.specs.{declared.annotation.Rule.Rule, declared.annotation.Note.Note, declared.annotation.Ann.Ann}
use Rattle.pc_deriv.specs.{declared.version.Version.Version, declared.fault.DerivFault.DerivFault}
use Rattle.pc_masks.specs.declared.mask.Mask.{Mask}
use Rattle.pc_caps.specs.declared.capability.Cap.TheVariants as cap
use Rattle.pc_caps.specs.declared.capability.Form.TheVariants as form
use Rattle.pc_ann.specs.declared.annotation.Rule.TheVariants as rule
use Rattle.pc_deriv.specs.declared.version.Version.TheVariants as version
use Rattle.pc_deriv.specs.declared.fault.DerivFault.TheVariants as fault

-- the greatest number of bytes of a derivation
abbrev pub derivation_limit : ℕ
derivation_limit = 33554432

-- ---- the names of versions, rules, capabilities and forms

abbrev pub version_name : Version → List ℕ
version_name version.One = codes "1"
version_name version.Two = codes "2"

abbrev pub rule_name : Rule → List ℕ
rule_name rule.Number = codes "number"
rule_name rule.Truth = codes "truth"
rule_name rule.Text = codes "text"
rule_name rule.Prim = codes "prim"
rule_name rule.This = codes "this"
rule_name rule.Local = codes "local"
rule_name rule.Consume = codes "consume"
rule_name rule.Get = codes "get"
rule_name rule.GetOwn = codes "getown"
rule_name rule.Put = codes "put"
rule_name rule.PutOwn = codes "putown"
rule_name rule.Define = codes "define"
rule_name rule.Assign = codes "assign"
rule_name rule.New = codes "new"
rule_name rule.Spawn = codes "spawn"
rule_name rule.Call = codes "call"
rule_name rule.CallRecover = codes "callrecover"
rule_name rule.Send = codes "send"
rule_name rule.Builtin = codes "builtin"
rule_name rule.Arith = codes "arith"
rule_name rule.Compare = codes "compare"
rule_name rule.Equal = codes "equal"
rule_name rule.Join = codes "join"
rule_name rule.Logic = codes "logic"
rule_name rule.Lazy = codes "lazy"
rule_name rule.Identity = codes "identity"
rule_name rule.Seq = codes "seq"
rule_name rule.If = codes "if"
rule_name rule.While = codes "while"
rule_name rule.Recover = codes "recover"
rule_name rule.Body = codes "body"

-- ---- the text

-- the first line: the format's name and version, the number of slots and that of nodes
abbrev pub head_line : Version → ℕ × ℕ → List ℕ
head_line version (slots, nodes) = codes "rcap-derivation " ++ (version_name version ++ (codes " " ++ (decimal slots ++ (codes " " ++ (decimal nodes ++ line_end)))))

-- the line of a slot: the number of its entity, and its capability
abbrev pub slot_line : ℕ × Cap → List ℕ
slot_line (entity, cap) = codes "s " ++ (decimal entity ++ (codes " " ++ (cap_name cap ++ line_end)))

-- the type of a node: the number of its entity and its form, or `-` for none
abbrev pub type_text : Option (ℕ × Form) → List ℕ
type_text None = codes "-"
type_text (Some (entity, form)) = decimal entity ++ (codes " " ++ form_name form)

-- a mask in hexadecimal
abbrev pub mask_text : Mask → List ℕ
mask_text mask = digits 16 false mask.0

-- what is written for the mask after a node: in version 1 that mask, and in version 2 the bits in which it differs from
-- the mask before
abbrev pub shown_after : Version → (before after : Mask) → Mask
shown_after version.One before after = after
shown_after version.Two before after = record { 0 = bit_xor before.0 after.0 }

-- the masks of a node: live and set before it, and what is written for live and set after it
abbrev pub masks_text : Version → Note → List ℕ
masks_text version note =
    codes " " ++ (mask_text note.live_before ++ (codes " " ++ (mask_text note.set_before
    ++ (codes " " ++ (mask_text (shown_after version note.live_before note.live_after) ++ (codes " " ++ (mask_text (shown_after version note.set_before note.set_after) ++ line_end)))))))

-- the line of a node: its rule, its type and its masks
abbrev pub note_line : Version → Note → List ℕ
note_line version note = codes "n " ++ (rule_name note.rule ++ (codes " " ++ (type_text note.ty ++ masks_text version note)))

-- the whole text
abbrev pub deriv_text : Version → Ann → List ℕ
deriv_text version ann = head_line version (length ann.slots, length ann.notes) ++ (flat_map slot_line ann.slots ++ flat_map (note_line version) ann.notes)

-- What can be written: counts and entities' numbers are below 2^32, masks below 2^64.
abbrev pub CountsFit : ℕ × ℕ → Type 0
CountsFit (slots, nodes) = (slots < 2 ^ 32) × (nodes < 2 ^ 32)

abbrev pub SlotFits : ℕ × Cap → Type 0
SlotFits (entity, cap) = entity < 2 ^ 32

abbrev pub TypeFits : Option (ℕ × Form) → Type 0
TypeFits None = ⊤
TypeFits (Some (entity, form)) = entity < 2 ^ 32

abbrev pub MaskFits : Mask → Type 0
MaskFits mask = mask.0 < 2 ^ 64

abbrev pub MasksFit : Note → Type 0
MasksFit note = (MaskFits note.live_before × MaskFits note.set_before) × (MaskFits note.live_after × MaskFits note.set_after)

abbrev pub NoteFits : Note → Type 0
NoteFits note = TypeFits note.ty × MasksFit note

-- ---- when bytes are the text of an annotation, and otherwise the first line that is malformed

-- The counts of slots and of nodes are within their limits: as many as a program may have.
abbrev pub Within : ℕ × ℕ → Type 0
Within (slots, nodes) = (slots ≤ program_slot_limit) × (nodes ≤ node_limit)

-- The bytes are the annotation's text in some version, and the annotation is within the limits.
pub record IsText (bytes : List ℕ) (ann : Ann) : Type 0 where
  pub version : Version
  pub slots : AllByRecursion SlotFits ann.slots
  pub notes : AllByRecursion NoteFits ann.notes
  pub within : Within (length ann.slots, length ann.notes)
  pub same : bytes ≡ deriv_text version ann

-- The text is the lines of these things, followed by the rest.
pub record BeginsLine {A : Type 0} (line : A → List ℕ) (Fits : A → Type 0) (text : List ℕ) (xs : List A) (rest : List ℕ) : Type 0 where
  pub fit : AllByRecursion Fits xs
  pub cut : text ≡ flat_map line xs ++ rest

-- The text does not begin with a line of this form.
abbrev pub NoLine : {A : Type 0} → (A → List ℕ) → (A → Type 0) → List ℕ → Type 0
NoLine {A} line Fits text = (x : A) (rest : List ℕ) → Fits x → text ≡ line x ++ rest → ⊥

-- The text begins with a first line of this version and these counts, followed by the rest.
abbrev pub BeginsHead : List ℕ → Version → ℕ × ℕ → List ℕ → Type 0
BeginsHead text version counts rest = CountsFit counts × (text ≡ head_line version counts ++ rest)

-- The text does not begin with a first line in any version.
abbrev pub NoHead : List ℕ → Type 0
NoHead text = (version : Version) → NoLine (head_line version) CountsFit text

-- Line n is the first that is malformed. The forms are those of the version that the first line names.
pub data IsBadLine (bytes : List ℕ) (n : ℕ) : Type 0 where
  -- the first line
  bad_head : NoHead bytes → n ≡ 1 → IsBadLine bytes n
  -- after some slots, fewer than the first line states, there is no line of a slot
  bad_slot : (version : Version) {counts : ℕ × ℕ} {text rest : List ℕ} {slots : List (ℕ × Cap)} → BeginsHead bytes version counts text → Within counts → BeginsLine slot_line SlotFits text slots rest → length slots < counts.0
      → NoLine slot_line SlotFits rest → n ≡ length slots + 2 → IsBadLine bytes n
  -- after all slots and some nodes, fewer than the first line states, there is no line of a node
  bad_node : (version : Version) {counts : ℕ × ℕ} {text mid rest : List ℕ} {slots : List (ℕ × Cap)} {notes : List Note} → BeginsHead bytes version counts text → Within counts → BeginsLine slot_line SlotFits text slots mid → length slots ≡ counts.0
      → BeginsLine (note_line version) NoteFits mid notes rest → length notes < counts.1 → NoLine (note_line version) NoteFits rest → n ≡ counts.0 + length notes + 2 → IsBadLine bytes n
  -- something follows the whole text
  bad_end : (version : Version) {counts : ℕ × ℕ} {text mid rest : List ℕ} {slots : List (ℕ × Cap)} {notes : List Note} → BeginsHead bytes version counts text → Within counts → BeginsLine slot_line SlotFits text slots mid → length slots ≡ counts.0
      → BeginsLine (note_line version) NoteFits mid notes rest → length notes ≡ counts.1 → 0 < length rest → n ≡ counts.0 + counts.1 + 2 → IsBadLine bytes n

-- The first line is well-formed, and a count in it exceeds its limit.
abbrev pub IsTooMany : List ℕ → Type 0
IsTooMany bytes = (version : Version) × (counts : ℕ × ℕ) × (rest : List ℕ) × BeginsHead bytes version counts rest × (Within counts → ⊥)

-- The fault of the bytes.
abbrev pub IsFault : List ℕ → DerivFault → Type 0
IsFault bytes (fault.BadLine n) = IsBadLine bytes n
IsFault bytes fault.TooMany = IsTooMany bytes
IsFault bytes fault.Memory = ⊥
