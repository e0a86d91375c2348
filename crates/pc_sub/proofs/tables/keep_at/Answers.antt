use Rattle.std.proofs.Common.{◌≡◌, List, ℕ, sym, subst}
use Rattle.pc_masks.specs.declared.mask.Mask.{Mask}
use Rattle.pc_sub.specs.Tables.{Kept}
use Rattle.pc_sub.proofs.Telling.{kept_at, kept_past}
use Rattle.pc_sub.proofs.tables.keep_at.Goals as goal

pub returns-in-None : goal.returns-in-None
returns-in-None c = kept_past c.args.other.now c.args.sets.now c.args.place (sym c.in-None.ensures.found)

pub returns-in_ok-both-in-Some : goal.returns-in_ok-both-in-Some
returns-in_ok-both-in-Some c =
    subst (λ (xs : List (List Mask)). Kept (λ (b : ℕ). b ≡ c.args.place) c.args.other.now c.args.sets.now xs) (sym c.replace.ensures.new)
    (kept_at c.args.other.now c.in-Some.set.now c.in_ok-both-in-Some.both c.args.sets.now c.args.place (sym c.in-Some.ensures.found) c.in_ok-both-in-Some.ensures)
