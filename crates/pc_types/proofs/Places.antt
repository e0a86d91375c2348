-- What goes to a place, and what is taken from it.
use Rattle.std.specs.Prelude.{◌≡◌, ℕ, true}
use Rattle.std.proofs.{Common.{inl, refl, sym, ◌∙◌}, lemmas.Bool.and_parts}
use Rattle.pc_caps.specs.{Tables.unalias, Computed.fits, declared.capability.Cap.Cap}
use Rattle.pc_core.specs.CoreData.{CoreData}
use Rattle.pc_ann.specs.declared.annotation.Ann.{Ann}
use Rattle.pc_sub.specs.{Computed.is_sub, Agreement.is_sub_iff}
use Rattle.pc_rules.specs.Parts.{goes_to}
use Rattle.pc_valid.specs.Words.{Ty}
use Rattle.pc_types.proofs.{Under.Under, Types.{LowerType, held_in}, Tables.{unalias_sees, fits_sees}, Needs.Needs}

module _ (core : CoreData) (ann : Ann) (needs : Needs core ann) where
  -- What is found to be below an entity is under it.
  pub is_under : (a b : ℕ) → is_sub core a b ≡ true → Under core a b
  is_under a b e = needs.under a b ((is_sub_iff core a b needs.formed).0 e)

  -- A type that goes to a place is below what the place holds.
  pub goes_lower : (v : Ty) (place : ℕ × Cap) → goes_to core v place ≡ true → LowerType core v (held_in place)
  goes_lower v place e =
      let p = and_parts (is_sub core v.0 place.0) (fits v.1 place.1) e in
      (is_under v.0 place.0 p.0, fits_sees v.1 place.1 p.1)

-- The form that no place holds sees as much as the place.
pub taken_lower : (core : CoreData) (i : ℕ × Cap) → LowerType core (held_in i) (i.0, unalias i.1)
taken_lower core i = (inl refl, λ h. sym (unalias_sees i.1) ∙ h)
