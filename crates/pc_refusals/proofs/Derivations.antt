-- From the result of reading a derivation to its stages.
use Rattle.std.proofs.Common.{◌≡◌, ◌≤◌, length, Ok, refl}
use Rattle.pc_ann.specs.declared.annotation.Ann.{Ann}
use Rattle.pc_deriv.specs.{Text.IsText, Parts.{derivation_slot_limit, derivation_node_limit, RefusesDerivation}, declared.fault.DerivFault.DerivFault}
use Rattle.pc_deriv.specs.declared.fault.DerivFault.TheVariants as deriv
use Rattle.pc_base.specs.Lists.{Text}
use Rattle.pc_refusals.specs.{Source.After.goes, Derivation.{Deriving, DerivationStage}, Derivation.Deriving.{reads, garbled}, Inner.Refusals.IsTextStop, Inner.Stages.StageStops, Verdict.{Reading, whole}, Source.Length.fits, declared.stop.Stop.Stop}
use Rattle.pc_refusals.proofs.Stops.{memory_stops, refusal_stops}

-- if the reading of the text stops
pub text_stops : (name bytes : Text) (f : DerivFault) (s : Stop) → RefusesDerivation bytes f → IsTextStop name f s → StageStops (Deriving name bytes) s
text_stops name bytes (deriv.BadLine n) s h r = refusal_stops (Deriving name bytes) _ _ s (garbled (deriv.BadLine n) h) r
text_stops name bytes deriv.TooMany s h r = refusal_stops (Deriving name bytes) _ _ s (garbled deriv.TooMany h) r
text_stops name bytes deriv.Memory s h r = memory_stops (Deriving name bytes) s r

-- a text that was read, and its annotation is within the limits
pub derivation_says : {name : Text} {r : Reading} {ann : Ann} → DerivationStage name r (Ok ann) → (bytes : Text) × (r ≡ whole bytes) × IsText bytes ann
derivation_says (goes (fits {bytes = b} l) (reads t)) = (b, refl, t)

pub few : {name : Text} {r : Reading} {ann : Ann} → DerivationStage name r (Ok ann)
    → (length ann.slots ≤ derivation_slot_limit) × (length ann.notes ≤ derivation_node_limit)
few h = (derivation_says h).2.within
