-- The derivation of the small program is valid.
use Rattle.std.specs.Prelude.{◌≡◌, ℕ, zero, suc, ◌<◌, true, length, Some, slice_get, refl}
use Rattle.std.proofs.{Common.{ap, sym, subst, ◌∙◌, arith}, lemmas.Option.same_Some}
use Rattle.pc_ann.specs.declared.annotation.Note.{Note}
use Rattle.pc_sub.specs.Declarations.{DeclOk}
use Rattle.pc_rules.specs.{Parts.full, Rules.NoteIsSaid, Checks.Checks, Example.{four_slots, derivation}}
use Rattle.pc_valid.specs.Valid.{Valid}
use Rattle.pc_rules.proofs.Derivations.{valid_to}
use Rattle.pc_example.proofs.Formation.{single, three, four, eight, four_slots_formed}
use Rattle.pc_base.proofs.{Elements.each_none, Bools.false_true}

declarations_ok : DeclOk four_slots
declarations_ok = record {
  sendable = three _ _ _ _ (λ h. single _ _ refl) (λ h. each_none _) (λ h. single _ _ refl);
  conform = eight _ _ _ _ _ _ _ _ _ (each_none _) (each_none _) (each_none _) (each_none _) (each_none _) (each_none _) (each_none _) (each_none _);
}

rules_met : (n : ℕ) → n < length four_slots.nodes → NoteIsSaid four_slots derivation n
rules_met zero l = (_, _, refl, refl, refl)
rules_met (suc zero) l = (_, _, refl, refl, refl)
rules_met (suc (suc zero)) l = (_, _, refl, refl, refl)
rules_met (suc (suc (suc zero))) l = (_, _, refl, refl, refl)
rules_met (suc (suc (suc (suc zero)))) l = (_, _, refl, refl, refl)
rules_met (suc (suc (suc (suc (suc zero))))) l = (_, _, refl, refl, refl)
rules_met (suc (suc (suc (suc (suc (suc zero)))))) l = (_, _, refl, refl, refl)
rules_met (suc (suc (suc (suc (suc (suc (suc n))))))) l = absurd (omega (arith, l))

-- After the body no field is unset, since there is none.
set_behind : (e body b : ℕ) (s t : Note) → Some body ≡ Some b → slice_get derivation.notes body ≡ Some s → slice_get derivation.notes b ≡ Some t → full four_slots e s.set_after ≡ true → full four_slots e t.set_after ≡ true
set_behind e body b s t at here there set =
    let same = same_Some body b at in
    let note : s ≡ t = same_Some s t (sym here ∙ ap (slice_get derivation.notes) same ∙ there) in
    subst (λ (n : Note). full four_slots e n.set_after ≡ true) note set

derivation_checks : Checks four_slots derivation
derivation_checks = record {
  declarations = declarations_ok;
  slots = refl;
  notes = refl;
  written = four _ _ _ _ _ (λ ty e. e) (λ ty e. e) (λ ty e. e) (λ ty e. e);
  rules = rules_met;
  sets = three _ _ _ _ (λ h b t e f. absurd (false_true h)) (λ h b t e f. set_behind 6 2 b _ t e refl f refl) (λ h b t e f. set_behind 7 6 b _ t e refl f refl);
}

pub derivation_valid : Valid four_slots derivation
derivation_valid = valid_to four_slots four_slots_formed derivation derivation_checks
