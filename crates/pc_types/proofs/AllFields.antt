-- An object with all its fields.
use Rattle.std.specs.Prelude.{◌≡◌, ℕ, ◌<◌, ◌≤◌, length, Some, slice_get}
use Rattle.std.proofs.{Common.{ap, sym, ◌∙◌, arith}, lemmas.Option.same_Some}
use Rattle.pc_heap.specs.{Objects.ObjectMap, declared.value.Value.Value, declared.value.Value.TheVariants.{Num, Truth, Text, Prim, At}}
use Rattle.pc_core.specs.CoreData.{CoreData}
use Rattle.pc_masks.specs.{declared.mask.Mask.Mask, MaskLaws.first_bits}
use Rattle.pc_ann.specs.declared.annotation.Ann.{Ann}
use Rattle.pc_semantics.specs.Configurations.{value_entity}
use Rattle.pc_rules.specs.Parts.{fields_in, field_count, all_fields}
use Rattle.pc_types.proofs.{Types.Finished, Tasks.Within, Frames.HasFields, Typed.ObjectsOk, Needs.Needs, Growth.class_is}

within_sixty_four : (i n m k : ℕ) → i < n → n ≡ m → k ≡ m → m ≤ 64 → (i < k) × (i < 64)
within_sixty_four i n m k l e g few = (omega (arith, l, e, g), omega (arith, l, e, few))

-- What has values in all fields of its entity is finished.
pub all_set : (core : CoreData) (ann : Ann) (needs : Needs core ann) (objects : ObjectMap) (count : ℕ) (set : Mask) (d : ℕ) (v : Value) → ObjectsOk core objects count → HasFields objects set v → value_entity objects v ≡ Some d → Within (all_fields core d) set → Finished objects v
all_set core ann needs objects count set d (At a) ok k is w =
    let x = (ok.each a k.0 k.1).0 in
    let same : k.0.entity ≡ d = same_Some k.0.entity d (sym (class_is objects a k.0 k.1) ∙ is) in
    let at : slice_get core.entities d ≡ Some x.entity = ap (slice_get core.entities) (sym same) ∙ x.is_entity in
    let few = (needs.formed.entities d x.entity at).few_fields in
    (k.0, k.1, λ i l. k.2 i (w i ((first_bits (field_count core d) i).1 (within_sixty_four i (length k.0.fields) (length x.entity.fields) (field_count core d) l x.room (ap fields_in at) few))))
all_set core ann needs objects count set d (Num n) ok k is w = tt
all_set core ann needs objects count set d (Truth b) ok k is w = tt
all_set core ann needs objects count set d (Text t) ok k is w = tt
all_set core ann needs objects count set d (Prim e) ok k is w = tt
