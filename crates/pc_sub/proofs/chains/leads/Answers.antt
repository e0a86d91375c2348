use Rattle.std.proofs.Common.{ℕ, List, sym, subst, ◌∙◌, ap}
use Rattle.std.specs.{Prelude.slice_get, Option.option_copied}
use Rattle.pc_base.specs.Lists.{Ascends}
use Rattle.pc_sub.proofs.chains.leads.Goals as goal

pub contains-requires : goal.contains-requires
contains-requires c =
    let fits = c.formed.ensures.entities c.args.from c.in-Some.entity.now (sym c.entity_at.ensures ∙ ap option_copied c.in-Some.is) in
    subst Ascends (sym c.as_slice.ensures) fits.ascends

pub returns-in-Some : goal.returns-in-Some
returns-in-Some c =
    let fits = c.formed.ensures.entities c.args.from c.in-Some.entity.now (sym c.entity_at.ensures ∙ ap option_copied c.in-Some.is) in (
      λ t. let h = c.contains.ensures.0 t in (fits.above c.args.to).0 (h.0, ap (λ (xs : List ℕ). slice_get xs h.0) (sym c.as_slice.ensures) ∙ h.1),
      λ l. let h = (fits.above c.args.to).1 l in c.contains.ensures.1 (h.0, ap (λ (xs : List ℕ). slice_get xs h.0) c.as_slice.ensures ∙ h.1),
    )
