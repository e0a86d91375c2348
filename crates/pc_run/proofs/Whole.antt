-- From the steps and the writing to the run.
use Rattle.std.proofs.{Common.{◌≡◌, ℕ, ◌≤◌, List, [], ◌++◌, length, Option, Result, Ok, Err, sym, ap, ◌∙◌, subst, append-nil, add-zero}, Math.Seq.take-length, KnownBytes.Appends-trans}
use Rattle.std.specs.{Prelude.IsErrAnd, List.count_by, FinMap.len, Io.KnownBytes.Appends}
use Rattle.pc_core.specs.CoreData.{CoreData}
use Rattle.pc_io.specs.Sink.{GrowsByPrefix, Change, change}
use Rattle.pc_semantics.specs.{Configurations.Configuration, Step.{after, outcomes}, Text.{is_moved, is_skipped, lines, run_text, text_at_end, waiting}}
use Rattle.pc_run.specs.{declared.counts.Counts.Counts, declared.counts.Progress.Progress, declared.report.Report.Report, declared.report.RunFault.RunFault, declared.report.RunFault.TheVariants.{Sink, TooLong, Memory}, Ends.{IsAnswer, Leaves, WritesText}, Reports.{report_of, summary_of}, Underway.{Underway, ReachedSoFar}, Writing.WriteStops}
use Rattle.pc_run.specs.declared.counts.Progress.TheVariants as progress
use Rattle.pc_run.proofs.{Stepping.behind_all, Written.{stops_more, stops_on}}

-- The numbers at a configuration.
abbrev pub report_at : Configuration → Counts → Report
report_at c k = record { moved = k.moved; skipped = k.skipped; actors = length c.actors; objects = len c.objects; waiting = waiting c }

module _ (core : CoreData) (list : List ℕ) where
  -- ---- what is written

  stopped : (text : List ℕ) (out : Change) (e : RunFault) → text ≡ run_text core list → WriteStops text out e → WritesText core list out.before out.now (Err e)
  stopped text out Sink is s = subst (GrowsByPrefix out.before out.now) is s.1
  stopped text out (TooLong n) is s = absurd s
  stopped text out Memory is s = subst (GrowsByPrefix out.before out.now) is s

  pub writes_stopped : (text : List ℕ) (out : Change) (e : RunFault) (r : Result Report RunFault) → text ≡ run_text core list → IsErrAnd r (λ x. x ≡ e) → WriteStops text out e → WritesText core list out.before out.now r
  writes_stopped text out e (Ok x) is by s = absurd by
  writes_stopped text out e (Err x) is by s = stopped text out x is (subst (WriteStops text out) (sym by) s)

  module _ (c : Configuration) where
    all_taken : (p : Progress) → ReachedSoFar core list c [] p → c ≡ after core list
    all_taken (progress.Going k) u = behind_all core list c k [] u
    all_taken (progress.TooLong n) h = h.1

    pub leaves_all : (p : Progress) → ReachedSoFar core list c [] p → (r : Result Report RunFault) → Leaves core list c r
    leaves_all p h (Ok x) = all_taken p h
    leaves_all p h (Err Sink) = all_taken p h
    leaves_all p h (Err (TooLong n)) = all_taken p h
    leaves_all p h (Err Memory) = (length list, all_taken p h ∙ ap (after core) (sym (take-length list)))

    module _ (k : Counts) (u : Underway core list c k []) where
      moved : k.moved ≡ count_by is_moved (outcomes core list)
      moved = sym (add-zero k.moved) ∙ u.moved

      skipped : k.skipped ≡ count_by is_skipped (outcomes core list)
      skipped = sym (add-zero k.skipped) ∙ u.skipped

      pub whole_report : report_at c k ≡ report_of core list
      whole_report =
          let at_end = ap (λ (d : Configuration). report_at d k) (behind_all core list c k [] u) in
          at_end ∙ ap (λ m. report_at (after core list) (record { moved = m; skipped = k.skipped })) moved
          ∙ ap (λ n. report_at (after core list) (record { moved = count_by is_moved (outcomes core list); skipped = n })) skipped

      pub whole_text : lines c.printed ++ summary_of (report_at c k) ≡ run_text core list
      whole_text =
          ap (λ (d : Configuration). lines d.printed ++ summary_of (report_at c k)) (behind_all core list c k [] u)
          ∙ ap (λ (r : Report). lines (after core list).printed ++ summary_of r) whole_report
          ∙ ap (text_at_end (after core list) (outcomes core list)) u.end

    pub cut_text : (n : ℕ) → ReachedSoFar core list c [] (progress.TooLong n) → lines c.printed ≡ run_text core list
    cut_text n h = ap (λ (d : Configuration). lines d.printed) h.1 ∙ ap (text_at_end (after core list) (outcomes core list)) (sym h.0)

    -- The printed texts are the first of what is written.
    pub text_begins : (p : Progress) → ReachedSoFar core list c [] p → (rest : List ℕ) × (lines c.printed ++ rest ≡ run_text core list)
    text_begins (progress.Going k) u = (summary_of (report_at c k), whole_text k u)
    text_begins (progress.TooLong n) h = ([], append-nil _ ∙ cut_text n h)

  -- ---- what is answered

  pub answers_stopped : (text : List ℕ) (out : Change) (e : RunFault) (r : Result Report RunFault) → IsErrAnd r (λ x. x ≡ e) → WriteStops text out e → IsAnswer core list out.faults_before out.faults_now r
  answers_stopped text out e (Ok x) by s = absurd by
  answers_stopped text out e (Err Sink) by s = (subst (WriteStops text out) (sym by) s).0
  answers_stopped text out e (Err (TooLong n)) by s = absurd (subst (WriteStops text out) (sym by) s)
  answers_stopped text out e (Err Memory) by s = tt

  module _ (c : Configuration) (texts : List (List ℕ)) (are : texts ≡ c.printed) where
    pub going_answers : (k : Counts) → Underway core list c k [] → (before now : ℕ) (report : Report) → report ≡ report_at c k → IsAnswer core list before now (Ok report)
    going_answers k u before now report is = (sym u.end, is ∙ whole_report c k u)

    pub going_writes : (k : Counts) → Underway core list c k [] → (w x y : Option (List ℕ)) → Appends w x (lines texts) → (report : Report) → report ≡ report_at c k → Appends x y (summary_of report) → Appends w y (run_text core list)
    going_writes k u w x y front report is s =
        subst (Appends w y)
        (ap (λ ts. lines ts ++ summary_of report) are ∙ ap (λ (n : Report). lines c.printed ++ summary_of n) is ∙ whole_text c k u)
        (Appends-trans w x y (lines texts) (summary_of report) front s)

    pub cut_writes : (n : ℕ) → ReachedSoFar core list c [] (progress.TooLong n) → (w x : Option (List ℕ)) → Appends w x (lines texts) → Appends w x (run_text core list)
    cut_writes n h w x front = subst (Appends w x) (ap lines are ∙ cut_text c n h) front

  -- ---- the exits of the writing

  module _ (c : Configuration) (p : Progress) (h : ReachedSoFar core list c [] p) (texts : List (List ℕ)) (are : texts ≡ c.printed) (e : RunFault) (r : Result Report RunFault) (by : IsErrAnd r (λ x. x ≡ e)) where
    -- The writing of the texts stopped.
    pub texts_stopped : (out : Change) → WriteStops (lines texts) out e → WritesText core list out.before out.now r
    texts_stopped out s =
        let b = text_begins c p h in
        writes_stopped (lines texts ++ b.0) out e r (ap (λ ts. lines ts ++ b.0) are ∙ b.1) by (stops_more (lines texts) b.0 out e s)

  module _ (c : Configuration) (k : Counts) (u : Underway core list c k []) (texts : List (List ℕ)) (are : texts ≡ c.printed) (w x y : Option (List ℕ)) (f g h : ℕ) (front : Appends w x (lines texts)) (later : f ≤ g) where
    -- The writing of the numbers after them stopped.
    pub summary_stopped : (report : Report) → report ≡ report_at c k → (e : RunFault) (r : Result Report RunFault) → IsErrAnd r (λ x. x ≡ e) → WriteStops (summary_of report) (change x y g h) e → WritesText core list w y r
    summary_stopped report is e r by s =
        writes_stopped (lines texts ++ summary_of report) (change w y f h) e r
        (ap (λ ts. lines ts ++ summary_of report) are ∙ ap (λ (n : Report). lines c.printed ++ summary_of n) is ∙ whole_text c k u) by
        (stops_on w x y f g h (lines texts) (summary_of report) front later e s)
