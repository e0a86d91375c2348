-- From the results of a command's parts to how the command ends, whatever the command.
use Rattle.std.proofs.Common.{◌≡◌, ℕ, [], Option, Some, None, refl, inl, inr, Ok, Err, append-nil, sym, subst}
use Rattle.std.specs.{Prelude.Result, Io.KnownBytes.{Appends, Keeps}}
use Rattle.pc_base.specs.Lists.{Text}
use Rattle.pc_io.specs.Sink.{Change}
use Rattle.pc_refusals.specs.{Source.{FromFile, FilePasses}, Source.FromFile.{refuses, goes_on}, Inner.Answering.{AnswerStops, AnswersText, CommandStops, EndsCommand, Puts}, Inner.Refusals.IsRefusal, Inner.Stages.{PartStops, PartGives, StageEnds, StageStops, StageWrote}, Inner.TwoFiles.{BothGive, OneStops}, Verdict.{Reading, Named, FailedAt, EndsAs, EndsWith, Verdict, refused, done}, declared.stop.Stop.Stop, declared.stop.Stop.TheVariants.{Refused, File, Sink, Memory}}

-- ---- what is as before

pub unchanged : (known : Option Text) → Appends known known []
unchanged None = tt
unchanged (Some xs) = sym (append-nil xs)

pub kept : (known : Option Text) → Keeps known known
kept None = tt
kept (Some xs) = refl

pub unchanged_by : (before now : Option Text) → now ≡ before → Appends before now []
unchanged_by before now e = subst (λ (o : Option Text). Appends before o []) (sym e) (unchanged before)

pub kept_by : (before now : Option Text) → now ≡ before → Keeps before now
kept_by before now e = subst (λ (o : Option Text). Keeps before o) (sym e) (kept before)

-- ---- a text that is written

module _ (V : Verdict → Type 0) (Failed : Text → Type 0) (out : Change) where
  -- a command that writes its text last
  pub text_ends : (text : Text) (result : Result (Unit {0}) Stop) → V (done text) → StageWrote text out result → EndsCommand V Failed out result
  text_ends text (Ok x) v w = (done text, v, refl, refl, w)
  text_ends text (Err (Refused status line)) v w = absurd w
  text_ends text (Err (File name)) v w = absurd w
  text_ends text (Err Sink) v w = (w.0, (done text, v, w.1))
  text_ends text (Err Memory) v w = inl w

  -- a command that stops before it writes
  pub stop_ends : (s : Stop) → AnswerStops V Failed s → out.now ≡ out.before → CommandStops V Failed out s
  stop_ends (Refused status line) h e = (refused status line, h, refl, refl, unchanged_by out.before out.now e)
  stop_ends (File name) h e = (h, kept_by out.before out.now e)
  stop_ends Sink h e = absurd h
  stop_ends Memory h e = inl (kept_by out.before out.now e)

  -- a command that returns a text, which is then written
  pub put_ends : (answer : Result Text Stop) (result : Result (Unit {0}) Stop) → AnswersText V Failed answer → Puts answer out result → EndsCommand V Failed out result
  put_ends (Ok text) result v w = text_ends text result v w
  put_ends (Err s) result h p = subst (λ (r : Result (Unit {0}) Stop). EndsCommand V Failed out r) (sym p.0) (stop_ends s h p.1)

-- ---- another verdict that the first one gives

module _ (V W : Verdict → Type 0) (Own Failed : Text → Type 0) (by : (v : Verdict) → V v → W v) (also : (n : Text) → Own n → Failed n) where
  pub answers_by : (answer : Result Text Stop) → AnswersText V Own answer → AnswersText W Failed answer
  answers_by (Ok text) h = by (done text) h
  answers_by (Err (Refused status line)) h = by (refused status line) h
  answers_by (Err (File name)) h = also name h
  answers_by (Err Sink) h = absurd h
  answers_by (Err Memory) h = tt

  module _ (out : Change) where
    pub ends_by : (result : Result (Unit {0}) Stop) → EndsCommand V Own out result → EndsCommand W Failed out result
    ends_by (Ok x) h = (h.0, by h.0 h.1, h.2, h.3, h.4)
    ends_by (Err (Refused status line)) h = (h.0, by h.0 h.1, h.2, h.3, h.4)
    ends_by (Err (File name)) h = (also name h.0, h.1)
    ends_by (Err Sink) h = (h.0, (h.1.0, by h.1.0 h.1.1, h.1.2))
    ends_by (Err Memory) (inl k) = inl k
    ends_by (Err Memory) (inr t) = inr (t.0, by t.0 t.1, t.2)

-- words that are refused
pub words_stop : (V : Verdict → Type 0) (Failed : Text → Type 0) (wanted : ℕ) (text : Text) (s : Stop) → V (refused wanted text) → IsRefusal wanted text s → AnswerStops V Failed s
words_stop V Failed wanted text (Refused status line) v h = rw (h.0, h.1) v
words_stop V Failed wanted text (File n) v h = absurd h
words_stop V Failed wanted text Sink v h = absurd h
words_stop V Failed wanted text Memory v h = tt

-- ---- a last stage

pub last_stops : {T : Type 0} (text : T → Text) (Stage : Result T Verdict → Type 0) (Failed : Text → Type 0) (s : Stop) → StageStops Stage s → AnswerStops (EndsAs text Stage) Failed s
last_stops text Stage Failed (Refused status line) h = (Err (refused status line), h, refl)
last_stops text Stage Failed (File n) h = absurd h
last_stops text Stage Failed Sink h = absurd h
last_stops text Stage Failed Memory h = tt

pub last_ends : (Stage : Result Text Verdict → Type 0) (Failed : Text → Type 0) (answer : Result Text Stop) → StageEnds Stage answer → AnswersText (EndsWith Stage) Failed answer
last_ends Stage Failed (Ok text) h = (Ok text, h, refl)
last_ends Stage Failed (Err s) h = last_stops (λ text. text) Stage Failed s h

-- ---- a file, and what goes on with it

module _ {T : Type 0} (limit : ℕ) (Stage : Reading → Result T Verdict → Type 0) (Last : T → Verdict → Type 0) (Failed : Text → Type 0) (file : Named) where
  -- a part that gave no value
  pub part_stops : (s : Stop) → ((n : Text) → FailedAt file n → Failed n) → PartStops limit Stage file s → AnswerStops (FromFile file limit Stage Last) Failed s
  part_stops (Refused status line) also h = refuses h.0 h.1 h.2
  part_stops (File name) also h = also name h
  part_stops Sink also h = absurd h
  part_stops Memory also h = tt

  module _ (Own : Text → Type 0) (x : T) (also : (n : Text) → Own n → Failed n) (given : PartGives limit Stage file x) where
    -- a part that gave a value ends as what goes on with it
    pub part_answers : (answer : Result Text Stop) → AnswersText (Last x) Own answer → AnswersText (FromFile file limit Stage Last) Failed answer
    part_answers = answers_by (Last x) (FromFile file limit Stage Last) Own Failed (λ v l. goes_on given.0 x given.1 given.2 l) also

    pub part_ends : (out : Change) (result : Result (Unit {0}) Stop) → EndsCommand (Last x) Own out result → EndsCommand (FromFile file limit Stage Last) Failed out result
    part_ends = ends_by (Last x) (FromFile file limit Stage Last) Own Failed (λ v l. goes_on given.0 x given.1 given.2 l) also

-- ---- two files

module _ {T U : Type 0} (first second : ℕ) (One : Reading → Result T Verdict → Type 0) (Two : Reading → Result U Verdict → Type 0) (Last : T → U → Verdict → Type 0) (Failed : Text → Type 0) (a b : Named) where
  abbrev Both : Verdict → Type 0
  Both = FromFile a first One (λ x. FromFile b second Two (Last x))

  pub both_stop : (s : Stop) → ((n : Text) → FailedAt a n → Failed n) → ((n : Text) → FilePasses a first One → FailedAt b n → Failed n) → OneStops first second One Two a b s → AnswerStops Both Failed s
  both_stop s also too (inl h) = part_stops first One (λ x. FromFile b second Two (Last x)) Failed a s also h
  both_stop s also too (inr h) =
      part_answers first One (λ x. FromFile b second Two (Last x)) Failed a Failed h.0 (λ n f. f) h.1 (Err s) (part_stops second Two (Last h.0) Failed b s (λ n f. too n (h.1.0, h.0, h.1.1, h.1.2) f) h.2)

  module _ (x : T) (y : U) (given : BothGive first second One Two a b x y) where
    pub both_answer : (answer : Result Text Stop) → AnswersText (Last x y) (λ n. ⊥) answer → AnswersText Both Failed answer
    both_answer = answers_by (Last x y) Both (λ n. ⊥) Failed (λ v l. goes_on given.0.0 x given.0.1 given.0.2 (goes_on given.1.0 y given.1.1 given.1.2 l)) (λ n f. absurd f)

    pub both_end : (out : Change) (result : Result (Unit {0}) Stop) → EndsCommand (Last x y) (λ n. ⊥) out result → EndsCommand Both Failed out result
    both_end = ends_by (Last x y) Both (λ n. ⊥) Failed (λ v l. goes_on given.0.0 x given.0.1 given.0.2 (goes_on given.1.0 y given.1.1 given.1.2 l)) (λ n f. absurd f)
