-- How a line is processed, depending on the fault before it.
use Rattle.std.specs.Prelude.{◌≡◌, ℕ, ◌+◌, ◌≤◌, Bool, true, false, List, [], ◌∷◌, ◌++◌, length, Option, Some, None, Result, Ok, Err, refl}
use Rattle.std.proofs.Common.{ap, sym, subst, ◌∙◌, append_assoc, length-append, arith}
use Rattle.pc_core.specs.CoreData.{CoreData}
use Rattle.pc_ann.specs.declared.annotation.Note.{Note}
use Rattle.pc_deriv.specs.declared.line.Line.{Line}
use Rattle.pc_deriv.specs.declared.line.Line.TheVariants as line
use Rattle.pc_judge.specs.declared.faults.JudgeFault.{JudgeFault}
use Rattle.pc_referee.specs.Asked.{Pairs, asked_after}
use Rattle.pc_feed.specs.{declared.judging.Judging.Judging, Lines.notes_in, Asked.IsFoundRight, Streams.{NothingWrong, FoundRightUpTo, Wrong, JudgedBy, JudgedSoFar}, Steps.{MayFollow, first_nodes, GrewBy, LineTaken, SameFound, OneFound}}
use Rattle.pc_feed.proofs.{Sayings.{notes_app, first_nodes_more, first_nodes_push}, Growing.{grew_none, grew_one}, Places.{notes_are, right_within}}

-- If no fault is kept, there is none.
pub nothing : (core : CoreData) (ls : List Line) (j : Judging) → j.fault ≡ None → JudgedSoFar core ls j → NothingWrong core ls j
nothing core ls j e h = subst (JudgedBy core ls j) e h

pub still_nothing : (core : CoreData) (ls : List Line) (j : Judging) → j.fault ≡ None → NothingWrong core ls j → JudgedSoFar core ls j
still_nothing core ls j e h = subst (JudgedBy core ls j) (sym e) h

few_more : (ls : List Line) (l : Line) (right : ℕ) → right ≤ length (notes_in ls) → right ≤ length (notes_in (ls ++ l ∷ []))
few_more ls l right few =
    let app : length (notes_in (ls ++ l ∷ [])) ≡ length (notes_in ls ++ notes_in (l ∷ [])) = ap (λ (ts : List Note). length ts) (notes_app ls (l ∷ [])) in
    let both = length-append (notes_in ls) (notes_in (l ∷ [])) in
    omega (arith, few, app, both)

-- A fault stays.
pub wrong_stays : (core : CoreData) (ls : List Line) (l : Line) (right : ℕ) (f : JudgeFault) → Wrong core ls right f → Wrong core (ls ++ l ∷ []) right f
wrong_stays core ls l right f w =
    let on : (more : List Line) → ls ++ (l ∷ more) ≡ (ls ++ l ∷ []) ++ more = λ more. sym (append_assoc ls (l ∷ []) more) in
    record {
      found = record { few = few_more ls l right w.found.few; each = λ more k h. subst (λ x. IsFoundRight core x k) (on more) (w.found.each (l ∷ more) k h) };
      stops = λ more k h r. w.stops (l ∷ more) k h (subst (λ x. IsFoundRight core x k) (sym (on more)) r);
      first = λ v ann more e ok. w.first v ann (l ∷ more) (e ∙ sym (on more)) ok;
    }

-- ---- the referee's list

-- No further node was found right, and the referee was asked about none that is.
pub same_nodes : (ls : List Line) (l : Line) (old new : ℕ) (a b : Option Pairs) → old ≤ length (notes_in ls) → new ≡ old → b ≡ a → GrewBy (first_nodes ls old) (first_nodes (ls ++ l ∷ []) new) a b
same_nodes ls l old new a b few e same =
    grew_none (first_nodes ls old) (first_nodes (ls ++ l ∷ []) new) a b (ap (first_nodes (ls ++ l ∷ [])) e ∙ first_nodes_more ls (l ∷ []) old few) same

-- The next node was found right, and the referee appended it to its list.
pub one_node : (ls : List Line) (own : Note) (old new : ℕ) (a b : Option Pairs) → old ≡ length (notes_in ls) → new ≡ old + 1 → b ≡ asked_after {E = Unit {0}} a old own (Ok true)
    → GrewBy (first_nodes ls old) (first_nodes (ls ++ line.Node own ∷ []) new) a b
one_node ls own old new a b all e same =
    grew_one (first_nodes ls old) (first_nodes (ls ++ line.Node own ∷ []) new) old own a b
    (ap (first_nodes (ls ++ line.Node own ∷ [])) e ∙ first_nodes_push ls own old all) same

pub taken_same : {E : Type 0} → (core : CoreData) (ls : List Line) (l : Line) (old new : Judging) (a b : Option Pairs) (r : Result (Unit {0}) E) → JudgedSoFar core ls old → b ≡ a → SameFound core ls l old new r → LineTaken core ls l old new a b r
taken_same core ls l old new a b (Ok u) j same h = (h.0, same_nodes ls l old.right new.right a b (right_within core ls old old.fault j) h.1 same)
taken_same core ls l old new a b (Err e) j same h = (h.0, same_nodes ls l old.right new.right a b (right_within core ls old old.fault j) h.1 same)

all_right : (core : CoreData) (ls : List Line) (j : Judging) (so : NothingWrong core ls j) → j.right ≡ length (notes_in ls)
all_right core ls j so = so.count ∙ ap (λ (ts : List Note). length ts) (sym (notes_are core ls j so))

pub taken_one : {E : Type 0} → (core : CoreData) (ls : List Line) (own : Note) (old new : Judging) (a b : Option Pairs) (r : Result (Unit {0}) E) → NothingWrong core ls old → b ≡ asked_after {E = Unit {0}} a old.right own (Ok true)
    → OneFound core ls own old new r → LineTaken core ls (line.Node own) old new a b r
taken_one core ls own old new a b (Ok u) so same h = (h.0, one_node ls own old.right new.right a b (all_right core ls old so) h.1 same)
taken_one core ls own old new a b (Err e) so same h = (h.0, one_node ls own old.right new.right a b (all_right core ls old so) h.1 same)

-- After a fault a line is skipped.
pub passed_over : (core : CoreData) (ls : List Line) (l : Line) (j : Judging) (f : JudgeFault) → j.fault ≡ Some f → JudgedSoFar core ls j → JudgedSoFar core (ls ++ l ∷ []) j
passed_over core ls l j f e h = subst (JudgedBy core (ls ++ l ∷ []) j) (sym e) (wrong_stays core ls l j.right f (subst (JudgedBy core ls j) e h))

-- the same for a line equal to this one
pub taken_as : {E : Type 0} → (core : CoreData) (ls : List Line) (l k : Line) (old new : Judging) (a b : Option Pairs) (r : Result (Unit {0}) E) → l ≡ k → (MayFollow ls k → JudgedSoFar core ls old → SameFound core ls k old new r)
    → MayFollow ls l → JudgedSoFar core ls old → b ≡ a → LineTaken core ls l old new a b r
taken_as {E = E} core ls l k old new a b r e h m j same =
    subst (λ x. MayFollow ls x → LineTaken {E = E} core ls x old new a b r) (sym e) (λ n. taken_same core ls k old new a b r j same (h n j)) m

-- ---- the referee's answer

asked_same : {E : Type 0} → (a : Option Pairs) (n : ℕ) (t : Note) (e : E) → asked_after a n t (Err e) ≡ a
asked_same None n t e = refl
asked_same (Some p) n t e = refl

asked_no : (E : Type 0) (a : Option Pairs) (n : ℕ) (t : Note) → asked_after {E = E} a n t (Ok false) ≡ a
asked_no E None n t = refl
asked_no E (Some p) n t = refl

asked_yes : (E : Type 0) (a : Option Pairs) (n : ℕ) (t : Note) → asked_after {E = E} a n t (Ok true) ≡ asked_after {E = Unit {0}} a n t (Ok true)
asked_yes E None n t = refl
asked_yes E (Some p) n t = refl

-- The node's line, by the answer: none, that it is not right, and that it is.
pub node_lost : {E F : Type 0} → (core : CoreData) (ls : List Line) (own : Note) (j : Judging) (a b : Option Pairs) (e : E) (f : F) → JudgedSoFar core ls j → b ≡ asked_after a j.right own (Err e) → FoundRightUpTo core (ls ++ line.Node own ∷ []) j.right
    → LineTaken core ls (line.Node own) j j a b (Err f)
node_lost core ls own j a b e f h list found = (found, same_nodes ls (line.Node own) j.right j.right a b (right_within core ls j j.fault h) refl (list ∙ asked_same a j.right own e))

pub node_not : (E : Type 0) (core : CoreData) (ls : List Line) (own : Note) (j : Judging) (a b : Option Pairs) (is : Bool) → is ≡ false → JudgedSoFar core ls j → b ≡ asked_after {E = E} a j.right own (Ok is)
    → GrewBy (first_nodes ls j.right) (first_nodes (ls ++ line.Node own ∷ []) j.right) a b
node_not E core ls own j a b is no_right h list =
    same_nodes ls (line.Node own) j.right j.right a b (right_within core ls j j.fault h) refl
    (list ∙ ap (λ x. asked_after {E = E} a j.right own (Ok x)) no_right ∙ asked_no E a j.right own)

pub node_yes : {F : Type 0} → (E : Type 0) (core : CoreData) (ls : List Line) (own : Note) (j new : Judging) (a b : Option Pairs) (is : Bool) (r : Result (Unit {0}) F) → is ≡ true → NothingWrong core ls j → b ≡ asked_after {E = E} a j.right own (Ok is)
    → OneFound core ls own j new r → LineTaken core ls (line.Node own) j new a b r
node_yes E core ls own j new a b is r yes_right so list one =
    taken_one core ls own j new a b r so (list ∙ ap (λ x. asked_after {E = E} a j.right own (Ok x)) yes_right ∙ asked_yes E a j.right own) one
