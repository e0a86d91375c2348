-- What represents a part of a file is what is computed from it.
use Rattle.std.proofs.{Common.{◌≡◌, ℕ, List, [], map, Option, Some, None, Bool, refl, sym, ap, ap₂, ◌∙◌, subst}, lemmas.Option.none-some}
use Rattle.std.specs.Prelude.{slice_get}
use Rattle.pc_caps.specs.{declared.capability.Cap.Cap, declared.capability.Form.Form}
use Rattle.pc_base.specs.{declared.span.Span.Span, Lists.{Differ, Text}}
use Rattle.pc_tree.specs.{declared.kinds.MethodWord.MethodWord, declared.written_names.TypeRef.TypeRef, declared.file.ParamDef.ParamDef}
use Rattle.pc_tree.specs.declared.kinds.MethodWord.TheVariants as word
use Rattle.pc_tree.specs.Tree as t
use Rattle.pc_core.specs.{declared.declarations.FieldInfo.FieldInfo, declared.declarations.ParamInfo.ParamInfo, declared.nodes.Slot.Slot, declared.nodes.SlotKind.SlotKind, CoreData.CoreData}
use Rattle.pc_members.specs.Members.{Member, written, added}
use Rattle.pc_body_spec.specs.{Bodies.{Context, KnownEntity, text_from}, Slots.Local, Fold.{local_slot, type_of_name, written_of}}
use Rattle.pc_file_spec.specs.Cores.{Owned, or_value, type_in, param_of, params_of, result_form, written_result, word_result, result_of, core_field}
use Rattle.pc_file_spec.proofs.Tables.{text_found}
use Rattle.pc_core_relation.specs.{Files.{Match, IsType, IsWritten, ParamStands, LocalStands, FieldStands}, Parts.seen_entities}
use Rattle.pc_core_relation.proofs.{Lists.match_one, Mirror.{params_in, AnswerIs, WordResultIs, ResultIs}, Types.{entity_name, type_is, is_type}}

-- A text of the list has only one number.
pub text_one : (names : List Text) (x : Text) (n : ℕ) → Differ names → slice_get names n ≡ Some x → text_from 0 names x ≡ n
text_one names x n differ h = differ (text_from 0 names x) n x (text_found names x (n, h)) h

abbrev param : ℕ × Cap → Span → ParamInfo
param ty s = record { entity = ty.0; cap = ty.1; span = s }

abbrev field : ℕ → Bool → ℕ × Cap → FieldInfo
field n fixed ty = record { name = n; fixed = fixed; entity = ty.0; cap = ty.1 }

abbrev slot : ℕ → SlotKind → ℕ → Option (ℕ × Cap) → Slot
slot m k d w = record { method = m; kind = k; depth = d; written = w }

module _ (core : CoreData) (known : List KnownEntity) (seen : seen_entities core ≡ known) (differ : Differ (map entity_name core.entities)) where
  type_one : (ty : TypeRef) (p : ℕ × Cap) → IsType core ty p → type_of_name 0 known ty ≡ Some p
  type_one ty p h = subst (λ ks. type_of_name 0 ks ty ≡ Some p) seen (is_type core ty p differ h)

  type_in_one : (ty : TypeRef) (p : ℕ × Cap) → IsType core ty p → type_in known ty ≡ p
  type_in_one ty p h = ap or_value (type_one ty p h)

  param_one : (p : ParamDef) (x : ParamInfo) → ParamStands core p x → param_of known p ≡ x
  param_one p x h = ap₂ (λ ty s. param ty s) (type_in_one p.ty (x.entity, x.cap) h.ty) (sym h.span)

  pub params_one : (m : Member) (xs : List ParamInfo) → Match (ParamStands core) (params_in m) xs → params_of known m ≡ xs
  params_one (written m) xs h = match_one (ParamStands core) (param_of known) param_one m.params xs h
  params_one added xs h = match_one (ParamStands core) (param_of known) param_one [] xs h

  answer_one : (r : Option TypeRef) (x : ℕ × Form) → AnswerIs core r x → written_result known r ≡ x
  answer_one None x h = sym h
  answer_one (Some ty) x h = ap (λ (p : ℕ × Cap). (p.0, result_form ty.hat p.1)) (type_in_one ty (x.0, h.0) h.1) ∙ ap (λ f. (x.0, f)) (sym h.2)

  word_one : (o : Owned) (m : t.Method) (w : MethodWord) (x : ℕ × Form) → WordResultIs core o.owner.kind o.number m w x → word_result known o.owner.kind o.number m w ≡ x
  word_one o m word.Fun x h = answer_one m.result x h
  word_one o m word.Be x h = sym h
  word_one o m word.New x h = sym h

  pub result_one : (o : Owned) (m : Member) (x : ℕ × Form) → ResultIs core o m x → result_of known o.owner.kind o.number m ≡ x
  result_one o (written m) x h = word_one o m m.word x h
  result_one o added x h = sym h

  pub field_one : Differ core.names → (f : t.Field) (x : FieldInfo) → FieldStands core f x → core_field core.names known f ≡ x
  field_one names f x h = ap (λ n. field n f.fixed (type_in known f.ty)) (text_one core.names f.name.text x.name names h.name) ∙ ap₂ (λ b ty. field x.name b ty) (sym h.fixed) (type_in_one f.ty (x.entity, x.cap) h.ty)

  written_one : (ty : Option TypeRef) (w : Option (ℕ × Cap)) → IsWritten core ty w → (c : Context) → c.entities ≡ known → written_of c ty ≡ w
  written_one None w h c e = sym h
  written_one (Some ty) w h c e = ap (λ ks. type_of_name 0 ks ty) e ∙ by (type_of_name 0 known ty) refl w h
    where
      by : (o : Option (ℕ × Cap)) → type_of_name 0 known ty ≡ o → (w : Option (ℕ × Cap)) → IsWritten core (Some ty) w → o ≡ w
      by (Some p) g w h = sym ((h p).1 (type_is core ty p (subst (λ ks. type_of_name 0 ks ty ≡ Some p) (sym seen) g)))
      by None g None h = refl
      by None g (Some p) h = absurd (none-some p (sym g ∙ type_one ty p ((h p).0 refl)))

  pub local_one : (c : Context) → c.entities ≡ known → (m : ℕ) (l : Local) (x : Slot) → LocalStands core m l x → local_slot c m l ≡ x
  local_one c e m l x h =
      ap₂ (λ k d. slot m k d (written_of c l.ty)) (sym h.kind) (sym h.depth)
      ∙ ap₂ (λ n w. slot n x.kind x.depth w) (sym h.method) (written_one l.ty x.written h.written c e)
