-- From the judge's result to how the judging of a derivation's file ended.
use Rattle.std.proofs.Common.{◌≡◌, ◌≤◌, ℕ, ◌++◌, Option, Some, None, Ok, Err, ap, sym, subst, ◌∙◌, inl, inr, arith}
use Rattle.std.specs.Prelude.{Result}
use Rattle.pc_ann.specs.declared.annotation.Ann.{Ann}
use Rattle.pc_core.specs.Formed.{Formed}
use Rattle.pc_deriv.specs.{Text.{derivation_limit, IsText}, Laws.as_read, declared.line.LineFault.LineFault}
use Rattle.pc_valid.specs.Valid.{Valid}
use Rattle.pc_deriv.specs.declared.line.LineFault.TheVariants as line_fault
use Rattle.pc_referee.specs.Asked.{Pairs}
use Rattle.pc_feed.specs.{declared.parts.DerivationFault.DerivationFault, Laws.ValidAsksAll, Parts.{AsksNodes, FileJudged, ReadWhole}}
use Rattle.pc_feed.specs.declared.parts.DerivationFault.TheVariants as spec
use Rattle.pc_base.specs.Lists.{Text}
use Rattle.pc_refusals.specs.{Source.After.{stops, goes}, Derivation.{DerivationStage, in_parts, text_status, AsksEach, JudgedFile}, Derivation.Deriving.{reads, garbled}, Derivation.Judging.{holds, fails}, Inner.Derivations.{DerivationJudged, NotDone}, Inner.Refusals.IsDerivationStop, Inner.Stages.PartGives, Verdict.{IsReadingOf, Named, longer, whole}, Source.Length.{fits, is_longer}, declared.source.Source.Source, declared.stop.Stop.Stop, declared.stop.Stop.TheVariants.{Refused, File, Sink, Memory}}

-- ---- the file of a derivation

module _ (source_name : Text) (source : Source) (file : Named) (before after : Option Pairs) where
  abbrev Answered : Result (Unit {0}) DerivationFault → Type 0
  Answered r = FileJudged source.core file.known file.before file.now file.taken before after r

  -- it was read whole, and its bytes are a text
  given : (bytes : Text) (ann : Ann) → ReadWhole file.known bytes → IsText bytes ann → PartGives derivation_limit (DerivationStage file.name) (in_parts file) ann
  given bytes ann r t = (whole bytes, (r.within, r.all), goes (fits r.within) (reads t))

  pub derivation_holds : (v : Unit {0}) → Answered (Ok v) → DerivationJudged source_name source (in_parts file) (Ok v)
  derivation_holds v h = (h.2.0, given h.0 h.2.0 h.1 h.2.1, holds h.2.2)

  pub derivation_stops : (f : DerivationFault) (s : Stop) → Answered (Err f) → IsDerivationStop source_name file.name source f s → DerivationJudged source_name source (in_parts file) (Err s)
  derivation_stops spec.Failed (Refused status line) h e = absurd e
  derivation_stops spec.Failed (File n) h e = inl (e, h)
  derivation_stops spec.Failed Sink h e = absurd e
  derivation_stops spec.Failed Memory h e = inl tt
  derivation_stops spec.TooLong (Refused status line) h e =
      let some = h.0 in
      let past : IsReadingOf (in_parts file) derivation_limit longer = (omega (arith, some), λ same. h.1) in
      inl (longer, past, rw (e.0, e.1) (stops is_longer))
  derivation_stops spec.TooLong (File n) h e = absurd e
  derivation_stops spec.TooLong Sink h e = absurd e
  derivation_stops spec.TooLong Memory h e = inl tt
  derivation_stops (spec.Text f) (Refused status line) h e = inl (whole h.0, (h.1.within, h.1.all), rw (e.0, e.1) (goes (fits h.1.within) (garbled (as_read f) h.2)))
  derivation_stops (spec.Text f) (File n) h e = absurd e
  derivation_stops (spec.Text f) Sink h e = absurd e
  derivation_stops (spec.Text f) Memory h e = inl tt
  derivation_stops (spec.Invalid f) (Refused status line) h e = inr (h.2.0, given h.0 h.2.0 h.1 h.2.1, rw (e.0, e.1) (fails f h.2.2))
  derivation_stops (spec.Invalid f) (File n) h e = absurd e
  derivation_stops (spec.Invalid f) Sink h e = absurd e
  derivation_stops (spec.Invalid f) Memory h e = inl tt
  derivation_stops spec.Memory s h e = subst (λ (x : Stop). DerivationJudged source_name source (in_parts file) (Err x)) (sym e) (inl tt)

  -- ---- and what the referee was asked

  each : ValidAsksAll → Formed source.core → (bytes : Text) (ann : Ann) (b : Option Pairs) → IsText bytes ann → Valid source.core ann → AsksNodes source.core bytes b after → AsksEach ann b after
  each law formed bytes ann None t v h = h
  each law formed bytes ann (Some p) t v h = h.2 ∙ ap (λ (more : Pairs). Some (p ++ more)) (law source.core bytes ann h.0 formed t v h.1)

  pub derivation_asked : ValidAsksAll → Formed source.core → (v : Unit {0}) → Answered (Ok v) → JudgedFile source.core file.known before after
  derivation_asked law formed v h = record { text = h.0; of_file = h.1.all; ann = h.2.0; is_text = h.2.1; valid = h.2.2; asks = each law formed h.0 h.2.0 before h.2.1 h.2.2 h.3 }

-- a refusal by the fault that was found
pub refused_by : (source_name name : Text) (source : Source) (fault other : DerivationFault) (s : Stop) → fault ≡ other → IsDerivationStop source_name name source other s → IsDerivationStop source_name name source fault s
refused_by source_name name source fault other s e h = subst (λ (x : DerivationFault). IsDerivationStop source_name name source x s) (sym e) h

other_than_0 : (status wanted : ℕ) → status ≡ wanted → 2 ≤ wanted → status ≡ 0 → ⊥
other_than_0 status wanted e l z = omega (arith, e, l, z)

text_status_low : (f : LineFault) → 2 ≤ text_status (as_read f)
text_status_low (line_fault.BadLine n) = omega arith
text_status_low line_fault.TooMany = omega arith

pub not_accepted : (source_name name : Text) (source : Source) (f : DerivationFault) (s : Stop) → IsDerivationStop source_name name source f s → NotDone s
not_accepted source_name name source f (File n) e = tt
not_accepted source_name name source f Sink e = tt
not_accepted source_name name source f Memory e = tt
not_accepted source_name name source spec.Failed (Refused status line) e = absurd e
not_accepted source_name name source spec.TooLong (Refused status line) e = other_than_0 status 8 e.0 (omega arith)
not_accepted source_name name source (spec.Text f) (Refused status line) e = other_than_0 status (text_status (as_read f)) e.0 (text_status_low f)
not_accepted source_name name source (spec.Invalid f) (Refused status line) e = other_than_0 status 6 e.0 (omega arith)
not_accepted source_name name source spec.Memory (Refused status line) e = cc
