-- How a step changes the marks.
use Rattle.std.proofs.{Common.{◌≡◌, ℕ, zero, suc, ◌+◌, ◌<◌, Bool, true, List, [], ◌∷◌, ◌++◌, length, map, set, Option, Some, None, refl, sym, ap, ◌∙◌, subst, arith}, lemmas.List.{length-map, length-set, map-set, map_push}, lemmas.Option.slice_get_within}
use Rattle.std.specs.Prelude.{slice_get, slice_set}
use Rattle.pc_heap.specs.declared.value.Value.{Value}
use Rattle.pc_heap.specs.declared.value.Value.TheVariants as value
use Rattle.pc_core.specs.{CoreData.CoreData, declared.declarations.Method.Method}
use Rattle.pc_semantics.specs.{declared.ahead.Ahead.Ahead, Ahead.{by_move, by_outcome, of_frames, ahead_of}, Parts.{of_tasks, of_actor, delivered, run_task, step_of, begin_method, begun}, declared.actors.Actor.Actor, declared.frames.Frame.Frame, declared.frames.Task.Task, declared.mailbox.Message.Message, declared.outcome.Lack.Lack, declared.outcome.Outcome.Outcome, declared.outcome.Outcome.TheVariants.{Moved, Skipped, Lacks, TooLong}, Configurations.{Configuration, with_frames, Move, Stuck, Overflows, Goes, Writes, Makes, Spawns, Enters, Sends, Leaves}, Step.{around, made, run_frames, step, take, take_first, printed_text}}
use Rattle.pc_semantics.specs.declared.ahead.Ahead.TheVariants as ahead
use Rattle.pc_choose.specs.{Able.{able, is_able, has_work}, Marks.{mark, mark_of, marks_of, marks_by, AreMarks}}
use Rattle.pc_choose.proofs.{Places.{marks_set, marks_push}, Staying.mailed}

abbrev able_in : List Actor → ℕ → Bool
able_in xs i = is_able (slice_get xs i)

abbrev marks_in : List Actor → List ℕ
marks_in xs = map mark_of xs

-- ---- lists of actors

-- actor i is changed
changed : (xs : List Actor) (i : ℕ) (a : Actor) → marks_in (slice_set xs i a) ≡ set (marks_in xs) i (mark (able_in (slice_set xs i a) i))
changed [] i a = refl
changed (x ∷ xs) zero a = refl
changed (x ∷ xs) (suc i) a = ap (λ (l : List ℕ). mark_of x ∷ l) (changed xs i a)

-- actor j has a message
mailed_marks : (xs : List Actor) (j : ℕ) (b : Actor) → has_work b.frames b.mailbox ≡ true → marks_in (slice_set xs j b) ≡ set (marks_in xs) j 1
mailed_marks xs j b h = map-set mark_of xs j b ∙ ap (λ (t : Bool). set (marks_in xs) j (mark t)) h

-- actor i is changed, and then j has a message
both : (xs : List Actor) (i j : ℕ) (a b : Actor) → has_work b.frames b.mailbox ≡ true
    → marks_in (slice_set (slice_set xs i a) j b) ≡ set (set (marks_in xs) j 1) i (mark (able_in (slice_set (slice_set xs i a) j b) i))
both [] i j a b h = refl
both (x ∷ xs) zero zero a b h = refl
both (x ∷ xs) zero (suc j) a b h = ap (λ (l : List ℕ). mark_of a ∷ l) (mailed_marks xs j b h)
both (x ∷ xs) (suc i) zero a b h = ap (λ (t : Bool). mark t ∷ marks_in (slice_set xs i a)) h ∙ ap (λ (l : List ℕ). 1 ∷ l) (changed xs i a)
both (x ∷ xs) (suc i) (suc j) a b h = ap (λ (l : List ℕ). mark_of x ∷ l) (both xs i j a b h)

-- actor i is changed, and a new one comes
more : (xs : List Actor) (i : ℕ) (a : Actor) (m : Message) → i < length xs →
    let new : Actor = record { mailbox = m ∷ []; frames = [] } in
    marks_in (slice_set xs i a ++ new ∷ []) ≡ set (marks_in xs ++ 1 ∷ []) i (mark (able_in (slice_set xs i a ++ new ∷ []) i))
more [] i a m l = absurd (omega (arith, l))
more (x ∷ xs) zero a m l = ap (λ (l : List ℕ). mark_of a ∷ l) (map_push mark_of xs (record { mailbox = m ∷ []; frames = [] }))
more (x ∷ xs) (suc i) a m l = ap (λ (l : List ℕ). mark_of x ∷ l) (more xs i a m (omega (arith, l)))

-- ---- steps of actor i

-- The marks after a step that moved.
abbrev pub MarksAfter : Configuration → ℕ → Ahead → Outcome × Configuration → Type 0
MarksAfter c i next (Moved, d) = marks_of d ≡ set (marks_by next (marks_of c)) i (mark (able d i))
MarksAfter c i next (Skipped, d) = d ≡ c
MarksAfter c i next (Lacks l, d) = d ≡ c
MarksAfter c i next (TooLong, d) = d ≡ c

module _ (core : CoreData) (c : Configuration) (i : ℕ) (there : i < length c.actors) where
  delivers : (a : Actor) (fs : List Frame) (k : ℕ) (m : Message) (o : Option Actor) → MarksAfter c i (ahead.Send k) (delivered c (with_frames c i a fs) k m o)
  delivers a fs k m None = refl
  delivers a fs k m (Some b) = both c.actors i k (record { mailbox = a.mailbox; frames = fs }) (record { mailbox = b.mailbox ++ m ∷ []; frames = b.frames }) (mailed b.frames b.mailbox m)

  makes : (a : Actor) (fs : List Frame) (m : Move) → MarksAfter c i (by_move m) (made c i a fs m)
  makes a fs (Stuck l) = refl
  makes a fs Overflows = refl
  makes a fs (Goes f) = changed c.actors i _
  makes a fs (Writes at k v f) = changed c.actors i _
  makes a fs (Makes at o g f) = changed c.actors i _
  makes a fs (Spawns o m f) = more c.actors i (record { mailbox = a.mailbox; frames = f ∷ fs }) m there
  makes a fs (Enters g f) = changed c.actors i _
  makes a fs (Sends k m f) = delivers a (f ∷ fs) k m (slice_get (with_frames c i a (f ∷ fs)).actors k)
  makes a fs (Leaves v) = changed c.actors i _

  tasks : (a : Actor) (f : Frame) (fs : List Frame) (ts : List Task) → MarksAfter c i (of_tasks core (around c i) f ts) (run_task core c i a f fs ts)
  tasks a f fs [] = refl
  tasks a f fs (t ∷ ts) = makes a fs _

  body : (a : Actor) (m : Message) (x : Method) (b : Option ℕ) → MarksAfter c i (by_outcome (begun c i a m x b).0) (begun c i a m x b)
  body a m x None = refl
  body a m x (Some b) = changed c.actors i _

  method : (a : Actor) (m : Message) (x : Option Method) → MarksAfter c i (by_outcome (begin_method c i a m x).0) (begin_method c i a m x)
  method a m None = refl
  method a m (Some x) = body a m x x.body

prints : (c : Configuration) (a : Actor) (vs : List Value) → MarksAfter c 0 (by_outcome (printed_text c a vs).0) (printed_text c a vs)
prints c a [] = refl
prints c a (value.Text t ∷ []) = changed c.actors 0 a
prints c a (value.Text t ∷ v ∷ vs) = refl
prints c a (value.Num k ∷ vs) = refl
prints c a (value.Truth t ∷ vs) = refl
prints c a (value.Prim k ∷ vs) = refl
prints c a (value.At t ∷ vs) = refl

takes : (core : CoreData) (c : Configuration) (i : ℕ) → i < length c.actors → (a : Actor) (m : Message) → MarksAfter c i (by_outcome (take core c i a m).0) (take core c i a m)
takes core c zero l a m = prints c a m.arguments
takes core c (suc k) l a m = method core c (suc k) l a m (slice_get core.methods m.method)

module _ (core : CoreData) (c : Configuration) (i : ℕ) where
  first : i < length c.actors → (ms : List Message) → MarksAfter c i (by_outcome (take_first core c i ms).0) (take_first core c i ms)
  first l [] = refl
  first l (m ∷ ms) = takes core c i l (record { mailbox = ms; frames = [] }) m

  frames : i < length c.actors → (a : Actor) (fs : List Frame) → MarksAfter c i (of_frames core c i a fs) (run_frames core c i a fs)
  frames l a [] = first l a.mailbox
  frames l a (f ∷ fs) = tasks core c i l a f fs f.tasks

  actor : (o : Option Actor) → slice_get c.actors i ≡ o → MarksAfter c i (of_actor core c i o) (step_of core c i o)
  actor None e = refl
  actor (Some a) e = frames (slice_get_within c.actors i a e) a a.frames

  pub marks_after : MarksAfter c i (ahead_of core c i) (step core c i)
  marks_after = actor (slice_get c.actors i) refl

-- ---- marks on the way

pub are_marks_by : (next : Ahead) (ms : List ℕ) → AreMarks ms → AreMarks (marks_by next ms)
are_marks_by ahead.Skipped ms a = a
are_marks_by ahead.Lacks ms a = a
are_marks_by ahead.TooLong ms a = a
are_marks_by ahead.Take ms a = a
are_marks_by ahead.Spawn ms a = λ i. marks_push ms a i
are_marks_by (ahead.Send j) ms a = marks_set ms j 1 (omega arith) a
are_marks_by ahead.Task ms a = a

module _ (core : CoreData) (c d : Configuration) (i : ℕ) (ms : List ℕ) (next : Ahead) (known : ms ≡ marks_of c) (is : next ≡ ahead_of core c i) where
  after_step : (o : Outcome) → ◌≡◌ {A = Outcome × Configuration} (o, d) (step core c i) → MarksAfter c i (ahead_of core c i) (o, d)
  after_step o e = subst (λ (r : Outcome × Configuration). MarksAfter c i (ahead_of core c i) r) (sym e) (marks_after core c i)

  -- The step moved.
  module _ (e : ◌≡◌ {A = Outcome × Configuration} (Moved, d) (step core c i)) where
    moved : set (marks_by next ms) i (mark (able d i)) ≡ marks_of d
    moved =
        ap (λ (m : List ℕ). set (marks_by next m) i (mark (able d i))) known
        ∙ ap (λ (a : Ahead). set (marks_by a (marks_of c)) i (mark (able d i))) is
        ∙ sym (after_step Moved e)

    pub counts : length (marks_by next ms) ≡ length d.actors
    counts = sym (length-set (marks_by next ms) i (mark (able d i))) ∙ ap length moved ∙ length-map d.actors mark_of

    pub kept : (new : List ℕ) → new ≡ set (marks_by next ms) i (mark (able d i)) → new ≡ marks_of d
    kept new a = a ∙ moved

  -- It lacked something.
  pub kept_at_lack : (l : Lack) → ◌≡◌ {A = Outcome × Configuration} (Lacks l, d) (step core c i) → ms ≡ marks_of d
  kept_at_lack l e = known ∙ ap marks_of (sym (after_step (Lacks l) e))
