-- From what a function did to the step of the actor.
use Rattle.std.proofs.{Common.{◌≡◌, ℕ, zero, suc, ◌<◌, List, [], ◌∷◌, ◌++◌, length, drop, get_or, set, Option, Some, None, Result, Ok, Err, refl, sym, ap, ◌∙◌, subst, arith}, lemmas.Option.{same_Some, none-some}}
use Rattle.std.specs.Prelude.{slice_get, IfOk, IfSome, IsSomeAnd, OnErr}
use Rattle.pc_heap.specs.{Objects.ObjectMap, declared.value.Value.Value, declared.value.Value.TheVariants.{Text, At}}
use Rattle.pc_core.specs.{CoreData.CoreData, declared.declarations.Method.Method}
use Rattle.pc_base.specs.Lists.{◌>>=◌}
use Rattle.pc_semantics.specs.{declared.actors.Actor.Actor, declared.frames.Frame.Frame, declared.mailbox.Message.Message, declared.outcome.Outcome.Outcome, declared.outcome.Outcome.TheVariants.Moved, Configurations.{Configuration, own_address, with_frames, first_frame}, Parts.{begin_method, begun, step_of}, Step.{printed_text, run_frames, step, take, take_first}}
use Rattle.pc_tasks.specs.Inside.{IsInside}
use Rattle.pc_tasks.proofs.Steps.{inside_step}
use Rattle.pc_machine.specs.{Changed.{changed, framed, unmailed, frames_in, frames_of, messages_in}, Ran.{RanFrames, RanAt}, Taken.{only_text, frame_begun}}
use Rattle.pc_machine.proofs.{Changes.{changed_set, get_there, is_there, messages_same, set_changed}, Planned.{amended, Running, running, goes_on}}

-- ---- a message is taken

pub none_first : {T : Type 0} → (xs : List T) → slice_get xs 0 ≡ None → xs ≡ []
none_first [] e = refl
none_first (x ∷ xs) e = absurd (none-some x (sym e))

pub head_rest : {T : Type 0} → (xs : List T) (x : T) → slice_get xs 0 ≡ Some x → xs ≡ x ∷ drop 1 xs
head_rest [] x e = absurd (none-some x e)
head_rest (y ∷ ys) x e = ap (λ z. z ∷ ys) (same_Some y x e)

-- the actor after the take
abbrev taker : Actor → Actor
taker a = record { mailbox = drop 1 a.mailbox; frames = [] }

module _ (core : CoreData) (c : Configuration) (i : ℕ) (a : Actor) (m : Message) (here : slice_get c.actors i ≡ Some a) (idle : a.frames ≡ []) (oldest : slice_get a.mailbox 0 ≡ Some m) where
  take_step : step core c i ≡ take core c i (taker a) m
  take_step = ap (step_of core c i) here ∙ ap (run_frames core c i a) idle ∙ ap (take_first core c i) (head_rest a.mailbox m oldest)

one_text : (vs : List Value) (t : List ℕ) → only_text vs ≡ Some t → vs ≡ Text t ∷ []
one_text [] t e = absurd (none-some t e)
one_text (Text s ∷ []) t e = ap (λ s. Text s ∷ []) (same_Some s t e)
one_text (Text s ∷ v ∷ vs) t e = absurd (none-some t e)
one_text (Value.Num n ∷ vs) t e = absurd (none-some t e)
one_text (Value.Truth b ∷ vs) t e = absurd (none-some t e)
one_text (Value.Prim n ∷ vs) t e = absurd (none-some t e)
one_text (At b ∷ vs) t e = absurd (none-some t e)

-- the text is printed
pub print_step : (core : CoreData) (c : Configuration) (a : Actor) (m : Message) (t : List ℕ) (last : List Actor) (texts : List (List ℕ)) → slice_get c.actors 0 ≡ Some a → a.frames ≡ [] → slice_get a.mailbox 0 ≡ Some m
    → only_text m.arguments ≡ Some t → last ≡ changed c.actors 0 unmailed → texts ≡ c.printed ++ t ∷ []
    → ◌≡◌ {A = Outcome × Configuration} (Moved, record { objects = c.objects; actors = last; printed = texts }) (step core c 0)
print_step core c a m t last texts here idle oldest text is printed =
    let ends : last ≡ set c.actors 0 (taker a) =
    is ∙ changed_set c.actors 0 a unmailed here ∙ ap (λ fs. set c.actors 0 (record { mailbox = drop 1 a.mailbox; frames = fs })) idle in
    ap (λ actors. let o : Outcome × Configuration = (Moved, record { objects = c.objects; actors = actors; printed = texts }) in o) ends
    ∙ ap (λ ts. let o : Outcome × Configuration = (Moved, record { objects = c.objects; actors = set c.actors 0 (taker a); printed = ts }) in o) printed
    ∙ sym (take_step core c 0 a m here idle oldest ∙ ap (printed_text c (taker a)) (one_text m.arguments t text))

changed_again : {T : Type 0} → (xs : List T) (i : ℕ) (g h : T → T) → changed (changed xs i g) i h ≡ changed xs i (λ x. h (g x))
changed_again [] i g h = refl
changed_again (x ∷ xs) zero g h = refl
changed_again (x ∷ xs) (suc i) g h = ap (λ ys. x ∷ ys) (changed_again xs i g h)

-- the method is begun
module _ (c : Configuration) (i : ℕ) (a : Actor) (m : Message) (f : Frame) where
  body_begun : (x : Method) (o : Option ℕ) → (o >>= λ body. Some (first_frame m.method x (At (own_address i)) m.arguments body)) ≡ Some f → begun c i a m x o ≡ (Moved, with_frames c i a (f ∷ []))
  body_begun x None e = absurd (none-some f e)
  body_begun x (Some body) e = ap (λ g. let o : Outcome × Configuration = (Moved, with_frames c i a (g ∷ [])) in o) (same_Some _ f e)

  method_begun : (o : Option Method) → (o >>= λ x. x.body >>= λ body. Some (first_frame m.method x (At (own_address i)) m.arguments body)) ≡ Some f → begin_method c i a m o ≡ (Moved, with_frames c i a (f ∷ []))
  method_begun None e = absurd (none-some f e)
  method_begun (Some x) e = body_begun x x.body e

takes : (core : CoreData) (c : Configuration) (i : ℕ) (a : Actor) (m : Message) (f : Frame) → 0 < i → frame_begun core i m ≡ Some f → take core c i a m ≡ (Moved, with_frames c i a (f ∷ []))
takes core c zero a m f other e = absurd (omega (arith, other))
takes core c (suc k) a m f other e = method_begun c (suc k) a m f (slice_get core.methods m.method) e

pub begin_step : (core : CoreData) (c : Configuration) (i : ℕ) (a : Actor) (m : Message) (f : Frame) (mid last : List Actor) (fs : List Frame) → 0 < i → slice_get c.actors i ≡ Some a → a.frames ≡ [] → slice_get a.mailbox 0 ≡ Some m
    → frame_begun core i m ≡ Some f → mid ≡ changed c.actors i unmailed → last ≡ changed mid i (framed fs) → fs ≡ f ∷ []
    → ◌≡◌ {A = Outcome × Configuration} (Moved, amended c c.objects last) (step core c i)
begin_step core c i a m f mid last fs other here idle oldest frame first second frames =
    let ends : last ≡ set c.actors i (record { mailbox = drop 1 a.mailbox; frames = f ∷ [] }) =
    second ∙ ap (λ gs. changed mid i (framed gs)) frames ∙ ap (λ (xs : List Actor). changed xs i (framed (f ∷ []))) first
    ∙ changed_again c.actors i unmailed (framed (f ∷ [])) ∙ changed_set c.actors i a (λ b. framed (f ∷ []) (unmailed b)) here in
    ap (λ actors. let o : Outcome × Configuration = (Moved, amended c c.objects actors) in o) ends
    ∙ sym (take_step core c i a m here idle oldest ∙ takes core c i (taker a) m f other frame)

-- ---- a task is done inside a frame

has_first : {T : Type 0} → (xs : List T) (P : T → Type 0) → IsSomeAnd (slice_get xs 0) P → 0 < length xs
has_first [] P h = absurd h
has_first (x ∷ xs) P h = omega arith

ran_step : (core : CoreData) (c : Configuration) (i : ℕ) (o : Outcome) (objects : ObjectMap) (last : List Actor) → IsSomeAnd (slice_get (frames_of c.actors i) 0) (λ f. IsInside (slice_get f.tasks 0))
    → RanAt core c.objects c.actors i o objects last → ◌≡◌ {A = Outcome × Configuration} (o, amended c objects last) (step core c i)
ran_step core c i o objects last inside at =
    let r : Running c.actors i = running c.actors i (has_first (frames_of c.actors i) (λ f. IsInside (slice_get f.tasks 0)) inside) in
    let task : IsInside (slice_get r.frame.tasks 0) = subst (λ (fs : List Frame). IsSomeAnd (slice_get fs 0) (λ f. IsInside (slice_get f.tasks 0))) r.of inside in
    let done : RanFrames core c.objects r.frame r.below o objects at.frames = subst (λ (fs : List Frame). IfSome (slice_get fs 0) (λ f. RanFrames core c.objects f (drop 1 fs) o objects at.frames)) r.of at.ran in
    let ends : last ≡ (with_frames c i r.actor (done.frame ∷ r.below)).actors = at.actors_are ∙ ap (λ fs. changed c.actors i (framed fs)) done.frames_are ∙ goes_on c i r (done.frame ∷ r.below) in
    ap (λ actors. let p : Outcome × Configuration = (o, amended c objects actors) in p) ends
    ∙ sym (inside_step core c i r.actor r.frame done.frame r.below o objects r.here r.frames task done.inside)

-- The frames of one actor, if they were changed in place.
pub ran_at : {E : Type 0} (core : CoreData) (objects objects' : ObjectMap) (all : List Actor) (i : ℕ) (a : Actor) (frames : List Frame) (r : Result Outcome E) → i < length all → a ≡ get_or all i a
    → IfOk r (λ o. IfSome (slice_get a.frames 0) (λ f. RanFrames core objects f (drop 1 a.frames) o objects' frames))
    → IfOk r (λ o. RanAt core objects all i o objects' (set all i (record { mailbox = a.mailbox; frames = frames })))
ran_at core objects objects' all i a frames (Err e) l is h = tt
ran_at core objects objects' all i a frames (Ok o) l is h = record {
  frames = frames;
  ran = subst (λ (fs : List Frame). IfSome (slice_get fs 0) (λ f. RanFrames core objects f (drop 1 fs) o objects' frames)) (sym (ap frames_in (get_there all i a l is))) h;
  actors_are = set_changed all i a (framed frames) l is;
}

-- No message comes or goes.
pub ran_messages : {E : Type 0} (core : CoreData) (objects objects' : ObjectMap) (all last : List Actor) (i : ℕ) (r : Result Outcome E) → i < length all
    → IfOk r (λ o. RanAt core objects all i o objects' last) → OnErr r (last ≡ all) → messages_in last ≡ messages_in all
ran_messages core objects objects' all last i (Err e) l ran same = ap messages_in same
ran_messages core objects objects' all last i (Ok o) l ran same = ap messages_in ran.actors_are ∙ messages_same all i (framed ran.frames) l (λ a. refl)

pub ran_steps : {E : Type 0} (core : CoreData) (c : Configuration) (i : ℕ) (objects : ObjectMap) (last : List Actor) (r : Result Outcome E) → IsSomeAnd (slice_get (frames_of c.actors i) 0) (λ f. IsInside (slice_get f.tasks 0))
    → IfOk r (λ o. RanAt core c.objects c.actors i o objects last) → IfOk r (λ o. ◌≡◌ {A = Outcome × Configuration} (o, amended c objects last) (step core c i))
ran_steps core c i objects last (Err e) inside ran = tt
ran_steps core c i objects last (Ok o) inside ran = ran_step core c i o objects last inside ran

-- An actor whose running frame has a task inside is there.
pub runs_there : (all : List Actor) (i : ℕ) → IsSomeAnd (slice_get (frames_of all i) 0) (λ f. IsInside (slice_get f.tasks 0)) → i < length all
runs_there all i inside = is_there all i (has_first (frames_of all i) (λ (f : Frame). IsInside (slice_get f.tasks 0)) inside)
