-- Nodes with the same masks have the same text for them.
use Rattle.std.proofs.{Common.{◌≡◌, ℕ, List, Some, refl, ap, ◌∙◌}, lemmas.Option.same_Some}
use Rattle.pc_ann.specs.declared.annotation.Note.{Note}
use Rattle.pc_deriv.specs.{declared.version.Version.Version, Text.masks_text}

pub same_masks : (version : Version) (note other : Note) → (note.live_before ≡ other.live_before) × (note.set_before ≡ other.set_before) × (note.live_after ≡ other.live_after) × (note.set_after ≡ other.set_after)
    → masks_text version note ≡ masks_text version other
same_masks version note other e = rw (e.0, e.1, e.2, e.3) refl

pub masks_stay : (version : Version) (note other : Note) (text : List ℕ) → text ≡ masks_text version note → Some note ≡ Some other → text ≡ masks_text version other
masks_stay version note other text e same = e ∙ ap (masks_text version) (same_Some note other same)
