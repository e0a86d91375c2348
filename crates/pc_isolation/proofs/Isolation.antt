-- From a valid annotation to every step of every schedule: waiting messages are isolated in depth.
use Rattle.std.specs.Prelude.{◌≡◌, ℕ, true, List, []}
use Rattle.std.proofs.Common.{inl, inr, sym, subst, ◌∙◌}
use Rattle.pc_heap.specs.declared.value.Address.{Address}
use Rattle.pc_core.specs.{CoreData.CoreData, Formed.Formed}
use Rattle.pc_base.proofs.Bools.{false_true}
use Rattle.pc_ann.specs.declared.annotation.Ann.{Ann}
use Rattle.pc_valid.specs.Valid.{Valid}
use Rattle.pc_rules.proofs.Derivations.{to_valid}
use Rattle.pc_semantics.specs.{declared.access.Access.Access, Configurations.{Configuration, start}, Step.{run_from, after}}
use Rattle.pc_types.proofs.{Needs.Needs, Needed.needed, Steps.run_ok, AllTasks.keeps, Takes.takes, Starts.start_typed, Typed.WellTyped}
use Rattle.pc_regions.proofs.{World.World, OneHolder.{AccessOk, not_frozen}, Fitting.{InRegions, HasRegions}, NoRace.accesses_ok, StartFits.start_in_regions, Schedules.run_in_regions, TakesMessage.takes_regions, AllKeep.keeps_regions}
use Rattle.pc_isolation.specs.{Isolated.Isolated, ValidLaws.ValidIsIsolated}
use Rattle.pc_isolation.proofs.{Mailed.{Mailed, mailed_is_none's, mailed_is_warm, mailed_once, Shown}, Fields.leads_from_mailed, Arguments.{ticket, one_place, inside_argument, seen_from_argument}}

-- ---- accesses

module _ (w : World) (i j t k : ℕ) (x : Access) where
  mailed_untouched : Mailed w j t k (w.region x.address) → AccessOk w i x → ⊥
  mailed_untouched m (inl b) = mailed_is_none's w i m b
  mailed_untouched m (inr d) = mailed_is_warm w m d.1

  shown_unwritten : Shown w j t k (w.region x.address) → x.write ≡ true → AccessOk w i x → ⊥
  shown_unwritten (inl m) writes ok = mailed_untouched m ok
  shown_unwritten (inr f) writes (inl b) = not_frozen w b f
  shown_unwritten (inr f) writes (inr d) = false_true (sym d.0 ∙ writes)

-- ---- one configuration

module _ (core : CoreData) (ann : Ann) (needs : Needs core ann) (c : Configuration) (typed : WellTyped core ann c) (w : World) (g : InRegions core ann w c) where
  -- Held by two arguments, it is held by one.
  once : (j k n i l m : ℕ) (q : ℕ) → Mailed w j (ticket core ann c w g j k) n q → Mailed w i (ticket core ann c w g i l) m q → (j ≡ i) × (k ≡ l) × (n ≡ m)
  once j k n i l m q a b =
      let e = mailed_once w i (ticket core ann c w g i l) m a b in
      (e.0, one_place core ann c w g j i k l e.0 e.1, e.2)

  unseen_by : (j k n i l m : ℕ) (q : ℕ) → Mailed w j (ticket core ann c w g j k) n q → Shown w i (ticket core ann c w g i l) m q → (j ≡ i) × (k ≡ l) × (n ≡ m)
  unseen_by j k n i l m q a (inl b) = once j k n i l m q a b
  unseen_by j k n i l m q a (inr f) = absurd (mailed_is_warm w a f)

  isolated : Isolated core c
  isolated = record {
    untouched = λ j k n b inside i x e here.
        mailed_untouched w i j (ticket core ann c w g j k) n x
        (subst (λ (a : Address). Mailed w j (ticket core ann c w g j k) n (w.region a)) (sym here) (inside_argument core ann c w g j k n b inside))
        (accesses_ok core ann needs c typed w g i x e);
    unreached = λ j k n b inside i x e leads.
        mailed_untouched w i j (ticket core ann c w g j k) n x
        (leads_from_mailed core w c.objects g.fields j (ticket core ann c w g j k) n x.address b (inside_argument core ann c w g j k n b inside) leads)
        (accesses_ok core ann needs c typed w g i x e);
    unwritten = λ j k n b seen i x e writes here.
        shown_unwritten w i j (ticket core ann c w g j k) n x
        (subst (λ (a : Address). Shown w j (ticket core ann c w g j k) n (w.region a)) (sym here) (seen_from_argument core ann c w g j k n b seen))
        writes (accesses_ok core ann needs c typed w g i x e);
    apart = λ j k n i l m b one other. once j k n i l m (w.region b) (inside_argument core ann c w g j k n b one) (inside_argument core ann c w g i l m b other);
    unseen = λ j k n i l m b one other. unseen_by j k n i l m (w.region b) (inside_argument core ann c w g j k n b one) (seen_from_argument core ann c w g i l m b other);
  }

-- ---- every schedule

-- After a list of actors and then further ones.
pub isolated_from : (core : CoreData) (ann : Ann) → Formed core → Valid core ann → (list more : List ℕ) → Isolated core (run_from core (after core list) more)
isolated_from core ann formed valid list more =
    let checks = to_valid core formed ann valid in
    let needs : Needs core ann = needed core formed ann checks in
    let first : WellTyped core ann (start core) = start_typed core ann formed checks in
    let typed : WellTyped core ann (after core list) = run_ok keeps takes core ann needs list (start core) first in
    let in_them : HasRegions core ann (after core list) = run_in_regions keeps_regions takes_regions core ann needs list (start core) first (start_in_regions core ann formed) in
    let typed_then : WellTyped core ann (run_from core (after core list) more) = run_ok keeps takes core ann needs more (after core list) typed in
    let in_them_then : HasRegions core ann (run_from core (after core list) more) = run_in_regions keeps_regions takes_regions core ann needs more (after core list) typed in_them in
    isolated core ann needs (run_from core (after core list) more) typed_then in_them_then.0 in_them_then.1

pub valid_is_isolated : ValidIsIsolated
valid_is_isolated core ann formed valid list = isolated_from core ann formed valid list []
