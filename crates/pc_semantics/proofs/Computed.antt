-- The small programs, computed. If a step looks at objects, the laws of maps determine what is there.
use Rattle.pc_semantics.proofs.{Maps.{get_inserted, gets, counts, makes}, Parts.{text_is, Leads, then_run, then_moves}}
use Rattle.std.specs.{Prelude.{◌≡◌, ℕ, zero, suc, Bool, true, false, List, [], ◌∷◌, ◌++◌, length, replicate, Some, codes, refl}, Fmt.digits, FinMap.{get, insert, len}}
use Rattle.std.proofs.{Common.{inl, inr, ap, sym, ◌∙◌, arith}, lemmas.Option.{same_Some, none-some}}
use Rattle.pc_heap.specs.{Objects.{ObjectMap, with_field, made_by, Object}, declared.value.Address.Address, declared.value.Value.TheVariants.{At, Text, Num}, declared.value.Value.Value}
use Rattle.pc_semantics.specs.{declared.frames.Frame.Frame, declared.frames.Task.Task, declared.mailbox.Message.Message, declared.outcome.Outcome.TheVariants.{Moved, Skipped}, Configurations.{Configuration, start, own_address, environment_address, environment, blank_object, none}, Step.{after, outcomes, run_from, outcomes_from}, Text.{steps_of, waiting}, Programs.{hello, two_messages, making, touching}, Examples.{HelloRuns, NoActorNoStep, TakenInOrder, SpawnedHasItsMessage, ConstructorSets, LazyRight, BranchTaken, WhileTwice, Wraps, EachLackComes, TextTooLong, RacesAreSeen, both_about_to}, Safety.access, declared.access.Access.Access}
use Rattle.pc_semantics.specs.declared.frames.Task.TheVariants as task

-- ---- runs in which no step looks at an object

pub lazy_right : LazyRight
lazy_right = (refl, refl, refl, refl)

pub branch_taken : BranchTaken
branch_taken = (refl, refl)

pub wraps : Wraps
wraps = (refl, refl, refl, refl, refl)

pub while_twice : WhileTwice
while_twice = (refl, refl, refl, refl)

-- ---- runs in which one does

three_objects : len (after hello []).objects ≡ 3
three_objects = simp counts refl

pub no_actor_no_step : NoActorNoStep
unfolding digits
no_actor_no_step =
    let none = after hello [] in
    let away = after hello (steps_of ((7, 5) ∷ [])) in
    (text_is none (outcomes hello []) [] [] 2 3 1 refl refl refl refl three_objects refl, text_is away (outcomes hello (steps_of ((7, 5) ∷ []))) (replicate 5 Skipped) [] 2 3 1 refl refl refl refl three_objects refl)

pub hello_runs : HelloRuns
unfolding digits
hello_runs =
    let list = steps_of ((1, 10) ∷ (0, 1) ∷ []) in
    let c = after hello list in
    let os = outcomes hello list in
    let moved : os ≡ replicate 11 Moved = simp gets refl in
    let texts : c.printed ≡ codes "hi" ∷ [] = simp gets refl in
    let actors : length c.actors ≡ 2 = simp gets refl in
    let objects : len c.objects ≡ 3 = simp counts refl in
    let messages : waiting c ≡ 0 = simp gets refl in
    text_is c os (replicate 11 Moved) (codes "hi" ∷ []) 2 3 0 moved refl texts actors objects messages

-- Main with this frame, and messages that wait for actor 0.
abbrev at_work : ObjectMap → List Message → List Frame → Configuration
at_work objects messages frames = record {
  objects = objects;
  actors = record { mailbox = messages; frames = [] } ∷ record { mailbox = []; frames = frames } ∷ [];
  printed = [];
}

-- The frame of Main's constructor, method m.
abbrev main_frame : ℕ → List Value → List Task → Frame
main_frame m stack tasks = record { method = m; slots = Some (At (own_address 1)) ∷ Some (At environment_address) ∷ []; stack = stack; tasks = tasks }

-- A message of a text for actor 0.
abbrev print_of : List ℕ → Message
print_of text = record { method = 0; arguments = Text text ∷ [] }

-- Main, method m, before its first step.
abbrev waiting_main : ℕ → ObjectMap → Configuration
waiting_main m objects = record {
  objects = objects;
  actors = record { mailbox = []; frames = [] } ∷ record { mailbox = record { method = m; arguments = At environment_address ∷ [] } ∷ []; frames = [] } ∷ [];
  printed = [];
}

-- ---- two messages

module _ (m : ObjectMap) (env : get m environment_address ≡ Some (environment two_messages)) (stream : get m (own_address 0) ≡ Some (blank_object two_messages 5)) where
  -- between the two items
  between : Configuration
  between = at_work m (print_of (codes "a") ∷ []) (main_frame 1 (none ∷ []) (task.Discard ∷ task.Eval 7 ∷ task.Return ∷ []) ∷ [])

  one_sent : Leads two_messages (waiting_main 1 m) (replicate 9 1) between
  unfolding between
  one_sent = (simp (env, stream) refl, simp (env, stream) refl)

  both_sent : Leads two_messages between (replicate 8 1) (at_work m (print_of (codes "a") ∷ print_of (codes "b") ∷ []) [])
  unfolding between
  both_sent = (simp (env, stream) refl, simp (env, stream) refl)

  two_sent : (more : List ℕ) → run_from two_messages (waiting_main 1 m) (replicate 17 1 ++ more) ≡ run_from two_messages (at_work m (print_of (codes "a") ∷ print_of (codes "b") ∷ []) []) more
  two_sent more = then_run two_messages (waiting_main 1 m) between (replicate 9 1) (replicate 8 1 ++ more) one_sent ∙ then_run two_messages between (at_work m (print_of (codes "a") ∷ print_of (codes "b") ∷ []) []) (replicate 8 1) more both_sent

pub taken_in_order : TakenInOrder
taken_in_order =
    let m : ObjectMap = (start two_messages).objects in
    let env : get m environment_address ≡ Some (environment two_messages) = simp gets refl in
    let stream : get m (own_address 0) ≡ Some (blank_object two_messages 5) = simp gets refl in
    let sent = two_sent m env stream in
    (ap (λ c. c.printed) (sent []), ap (λ c. waiting c) (sent []), ap (λ c. c.printed) (sent (0 ∷ [])), ap (λ c. c.printed) (sent (0 ∷ 0 ∷ [])))

-- ---- a constructor

-- The address of the first object that Main makes, and the object before and after its constructor.
abbrev new_address : Address
new_address = record { maker = 1; serial = 1 }

abbrev unset : Object
unset = blank_object making 6

abbrev five : Object
five = with_field unset 0 (Num 5)

module _ (m : ObjectMap) (env : get m environment_address ≡ Some (environment making)) (stream : get m (own_address 0) ≡ Some (blank_object making 5)) (made : made_by m 1 ≡ 1) where
  rest : List Task
  rest = task.Get 6 ∷ task.Invoke 7 ∷ task.Eval 9 ∷ task.Invoke 10 ∷ task.Return ∷ []

  -- the constructor begins
  begun : Configuration
  begun = at_work (insert m new_address unset) [] (record { method = 1; slots = Some (At new_address) ∷ []; stack = []; tasks = task.Eval 4 ∷ [] } ∷ main_frame 2 [] rest ∷ [])

  -- and ends
  ended : Configuration
  ended = at_work (insert (insert m new_address unset) new_address five) [] (main_frame 2 (At new_address ∷ []) rest ∷ [])

  begins : Leads making (waiting_main 2 m) (replicate 8 1) begun
  unfolding begun rest
  begins = (refl, simp made refl)

  sets : Leads making begun (replicate 7 1) ended
  unfolding begun ended rest
  sets = (simp get_inserted refl, simp get_inserted refl)

  prints : Leads making ended (replicate 7 1) (at_work (insert (insert m new_address unset) new_address five) (print_of (codes "5") ∷ []) [])
  unfolding ended rest digits
  prints = (simp (get_inserted, env, stream) refl, simp (get_inserted, env, stream) refl)

  printed_five : Configuration
  printed_five = at_work (insert (insert m new_address unset) new_address five) (print_of (codes "5") ∷ []) []

  whole_run : (more : List ℕ) → run_from making (waiting_main 2 m) (replicate 22 1 ++ more) ≡ run_from making printed_five more
  unfolding printed_five
  whole_run more = then_run making (waiting_main 2 m) begun (replicate 8 1) (replicate 14 1 ++ more) begins ∙ then_run making begun ended (replicate 7 1) (replicate 7 1 ++ more) sets ∙ then_run making ended printed_five (replicate 7 1) more prints

  whole_moves : (more : List ℕ) → outcomes_from making (waiting_main 2 m) (replicate 22 1 ++ more) ≡ replicate 22 Moved ++ outcomes_from making printed_five more
  unfolding printed_five
  whole_moves more =
      then_moves making (waiting_main 2 m) begun (replicate 8 1) (replicate 14 1 ++ more) begins
      ∙ ap (λ os. replicate 8 Moved ++ os) (then_moves making begun ended (replicate 7 1) (replicate 7 1 ++ more) sets)
      ∙ ap (λ os. replicate 15 Moved ++ os) (then_moves making ended printed_five (replicate 7 1) more prints)

  five_printed : (run_from making printed_five (0 ∷ [])).printed ≡ codes "5" ∷ []
  unfolding printed_five
  five_printed = refl

  five_moved : outcomes_from making printed_five (0 ∷ []) ≡ Moved ∷ []
  unfolding printed_five
  five_moved = refl

pub constructor_sets : ConstructorSets
constructor_sets =
    let m : ObjectMap = (start making).objects in
    let env : get m environment_address ≡ Some (environment making) = simp gets refl in
    let stream : get m (own_address 0) ≡ Some (blank_object making 5) = simp gets refl in
    let made : made_by m 1 ≡ 1 = simp makes refl in
    (whole_moves m env stream made (0 ∷ []) ∙ ap (λ os. replicate 22 Moved ++ os) (five_moved m env stream made), ap (λ c. c.printed) (whole_run m env stream made (0 ∷ [])) ∙ five_printed m env stream made)

pub spawned_has_its_message : SpawnedHasItsMessage
spawned_has_its_message = (refl, refl, simp counts refl, refl, refl)

pub each_lack_comes : EachLackComes
each_lack_comes = (refl, refl, refl, simp gets refl, simp gets refl)

pub text_too_long : TextTooLong
text_too_long = (refl, refl)

-- ---- races

abbrev touched : (write : Bool) → Access
touched write = record { address = own_address 1; field = 0; write = write }

only_reads : (i : ℕ) (x : Access) → access touching (both_about_to (task.Get 1) (task.Get 1)) i ≡ Some x → x.write ≡ false
only_reads zero x e =
    let known : access touching (both_about_to (task.Get 1) (task.Get 1)) 0 ≡ Some (touched false) = simp gets refl in
    sym (ap (λ (a : Access). a.write) (same_Some (touched false) x (sym known ∙ e)))
only_reads (suc zero) x e =
    let known : access touching (both_about_to (task.Get 1) (task.Get 1)) 1 ≡ Some (touched false) = simp gets refl in
    sym (ap (λ (a : Access). a.write) (same_Some (touched false) x (sym known ∙ e)))
only_reads (suc (suc i)) x e = absurd (none-some x e)

no_write : (x : Access) → x.write ≡ false → x.write ≡ true → ⊥
no_write x f t = let bad : false ≡ true = sym f ∙ t in cc

pub races_are_seen : RacesAreSeen
races_are_seen =
    (record { i = 0; j = 1; differ = λ e. omega (arith, e); one = touched true; other = touched true; accesses = simp gets refl; accesses_too = simp gets refl; address = refl; field = refl; writes = inl refl }, record { i = 0; j = 1; differ = λ e. omega (arith, e); one = touched false; other = touched true; accesses = simp gets refl; accesses_too = simp gets refl; address = refl; field = refl; writes = inr refl }, λ r. elim r.writes [ inl w ↦ no_write r.one (only_reads r.i r.one r.accesses) w | inr w ↦ no_write r.other (only_reads r.j r.other r.accesses_too) w ])
