-- From the line of the numbers of a program that was made, and its run, to how `make` ends.
use Rattle.std.proofs.{Common.{◌≡◌, ◌≤◌, ℕ, length, Option, Ok, Err, inl, inr, refl, sym, subst}, KnownBytes.{Appends-kept, Appends-trans}, Math.Seq.take-length}
use Rattle.std.specs.{Prelude.Result, Io.KnownBytes.Appends}
use Rattle.pc_core.specs.CoreData.{CoreData}
use Rattle.pc_gen.specs.Generated.{schedule}
use Rattle.pc_io.specs.Sink.{Change, change, GrowsByPrefix}
use Rattle.pc_io.proofs.Prefixes.{grows_more, grows_on, rose_before}
use Rattle.pc_run.specs.{Ends.NeverLacks, Spreading.spread}
use Rattle.pc_base.specs.Lists.{Text}
use Rattle.pc_refusals.specs.{Verdict.{TellsPart, Verdict, headed}, Inner.Answering.{EndsCommand, CommandStops}, Inner.Stages.StageWriteStops, declared.stop.Stop.Stop, declared.stop.Stop.TheVariants.{Refused, File, Sink, Memory}}
use Rattle.pc_commands.specs.{Make.{RanMade, made_line, made_name}, Run.Ran}
use Rattle.pc_commands.proofs.RunEnds.{has_verdict}

module _ (seed size : ℕ) (core : CoreData) (safe : NeverLacks core) where
  abbrev line : Text
  line = made_line seed size core

  abbrev Runs : Verdict → Type 0
  Runs = Ran made_name core (spread (schedule size))

  -- the run's text, or a part of it, after the line
  behind : (out : Change) (mid : Option Text) (v : Verdict) → Runs v → Appends out.before mid line → GrowsByPrefix mid out.now v.out → TellsPart (RanMade seed size core) out
  behind out mid v r w p =
      (headed line v, (v, r, refl), grows_on out.before mid out.now line v.out w p)

  -- a part of the line
  line_part : (out : Change) → GrowsByPrefix out.before out.now line → TellsPart (RanMade seed size core) out
  line_part out p =
      let v = has_verdict made_name core (spread (schedule size)) safe in
      (headed line v.0, (v.0, v.1, refl), grows_more out.before out.now line v.0.out p)

  -- the whole line
  line_whole : (out : Change) → Appends out.before out.now line → TellsPart (RanMade seed size core) out
  line_whole out w =
      let v = has_verdict made_name core (spread (schedule size)) safe in
      (headed line v.0, (v.0, v.1, refl), grows_more out.before out.now line v.0.out (length line, subst (λ (t : Text). Appends out.before out.now t) (sym (take-length line)) w))

  -- the line was not written
  unwritten : (out : Change) (s : Stop) → StageWriteStops line out s → CommandStops (RanMade seed size core) (λ n. ⊥) out s
  unwritten out (Refused status text) w = absurd w
  unwritten out (File n) w = absurd w
  unwritten out Sink w = (w.0, line_part out w.1)
  unwritten out Memory w = inl w

  pub line_stops : (out : Change) (text : Text) (s : Stop) → text ≡ line → StageWriteStops text out s → CommandStops (RanMade seed size core) (λ n. ⊥) out s
  line_stops out text s e w = unwritten out s (subst (λ (t : Text). StageWriteStops t out s) e w)

  -- the line was written, and then the run ended so
  module _ (out : Change) (mid : Option Text) (g : ℕ) (later : out.faults_before ≤ g) (written : Appends out.before mid line) where
    run_stops : (s : Stop) → CommandStops Runs (λ n. ⊥) (change mid out.now g out.faults_now) s → CommandStops (RanMade seed size core) (λ n. ⊥) out s
    run_stops (Refused status text) t = (headed line t.0, (t.0, t.1, refl), t.2, t.3, Appends-trans out.before mid out.now line t.0.out written t.4)
    run_stops (File n) t = absurd t.0
    run_stops Sink t =
        let v = t.1 in
        (rose_before out.faults_before g out.faults_now later t.0, behind out mid v.0 v.1 written v.2)
    run_stops Memory (inl k) = inr (line_whole out (Appends-kept out.before mid out.now line written k))
    run_stops Memory (inr v) = inr (behind out mid v.0 v.1 written v.2)

    pub run_ends : (result : Result (Unit {0}) Stop) → EndsCommand Runs (λ n. ⊥) (change mid out.now g out.faults_now) result → EndsCommand (RanMade seed size core) (λ n. ⊥) out result
    run_ends (Ok x) t = (headed line t.0, (t.0, t.1, refl), t.2, t.3, Appends-trans out.before mid out.now line t.0.out written t.4)
    run_ends (Err s) t = run_stops s t
