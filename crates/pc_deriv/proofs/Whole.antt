-- The lines of bytes that are taken one by one are those of the whole text, and so is their first fault.
use Rattle.std.proofs.{Common.{◌≡◌, ◌≢◌, ℕ, ◌+◌, ◌<◌, Bool, true, false, cond, ◌==◌, List, [], ◌∷◌, ◌++◌, Option, Some, None, Ok, Err, length, refl, sym, ap, ◌∙◌, subst, arith, append_assoc, append-nil, length-append}, lemmas.Bool.{true≢false, eqb-true, eq-eqb}}
use Rattle.std.specs.Prelude.{Result}
use Rattle.pc_ann.specs.declared.annotation.Ann.{Ann}
use Rattle.pc_deriv.specs.{declared.line.Line.Line, declared.line.LineFault.LineFault, Text.{IsText, IsBadLine, IsTooMany, IsFault}, Lines.{Taken, nothing_taken, line_in, within_limits, checked, line_meaning, behind, answered, with_line_byte, took_at, took, with_first_line, fed, longest_line, is_whole, fault_at_end, ended_so, lines_of}, Pieces.NoEnd, Laws.{as_read, IsRead}}
use Rattle.pc_deriv.specs.declared.line.LineFault.TheVariants as fault
use Rattle.pc_base.proofs.Options.{none_some}
use Rattle.pc_deriv.proofs.{Outcome.{one_annotation, one_version, one_fault, no_fault}, Feeding.{more_app, no_end_app}, Stages.{Place, at_first, Stage, stage, Took, next, passes, Closes}}

abbrev Answer : Type 0
Answer = Result (Option Line) LineFault

-- What is known after these bytes: all lines were well-formed, and the rest is a line that has not ended; or a fault
-- was found, which is theirs whatever follows.
pub data Known (bytes : List ℕ) (ls : List Line) (t : Taken) : Type 0 where
  going : (prefix : List ℕ) → Place t.version t.counts prefix ls t.ended → bytes ≡ prefix ++ t.pending → NoEnd t.pending → length t.pending < longest_line → t.fault ≡ None → Known bytes ls t
  wrong : (f : LineFault) → t.fault ≡ Some f → ((more : List ℕ) → IsFault (bytes ++ more) (as_read f)) → Known bytes ls t

-- ---- one more byte

abbrev Goes : List ℕ → List Line → ℕ → Answer × Taken → Type 0
Goes bytes ls b r = Known (bytes ++ b ∷ []) (ls ++ with_first_line r.0 []) r.1

module _ (bytes : List ℕ) (ls : List Line) (t : Taken) (b : ℕ) (prefix : List ℕ) (place : Place t.version t.counts prefix ls t.ended) (is : bytes ≡ prefix ++ t.pending) (none : NoEnd t.pending) (short : length t.pending < longest_line) (right : t.fault ≡ None) where
  abbrev st : Stage t.version t.counts prefix ls t.ended
  st = stage t.version t.counts prefix ls t.ended place

  further : (more : List ℕ) → (bytes ++ b ∷ []) ++ more ≡ prefix ++ ((t.pending ++ b ∷ []) ++ more)
  further more = ap (λ l. (l ++ b ∷ []) ++ more) is ∙ ap (λ l. l ++ more) (append_assoc prefix t.pending (b ∷ [])) ∙ append_assoc prefix (t.pending ++ b ∷ []) more

  here : bytes ++ b ∷ [] ≡ prefix ++ (t.pending ++ b ∷ [])
  here = ap (λ l. l ++ b ∷ []) is ∙ append_assoc prefix t.pending (b ∷ [])

  kept_by : (long : Bool) → (length t.pending + 1 == longest_line) ≡ long → b ≢ 10 → Goes bytes ls b (with_line_byte t b long)
  kept_by true e other =
      let size = length-append t.pending (b ∷ []) in
      let all : length t.pending + 1 ≡ longest_line = eqb-true (length t.pending + 1) longest_line e in
      let one : length (b ∷ []) ≡ 1 = refl in
      wrong (fault.BadLine (t.ended + 1)) refl (λ more. subst (λ l. IsBadLine l (t.ended + 1)) (sym (further more))
      (st.long (t.pending ++ b ∷ []) more (no_end_app t.pending (b ∷ []) none (other, tt)) (omega (arith, size, all, one))))
  kept_by false e other =
      let size = length-append t.pending (b ∷ []) in
      let one : length (b ∷ []) ≡ 1 = refl in
      let few : length t.pending + 1 ≢ longest_line = λ (q : length t.pending + 1 ≡ longest_line). true≢false (sym (eq-eqb (length t.pending + 1) longest_line q) ∙ e) in
      going prefix (subst (λ l. Place t.version t.counts prefix l t.ended) (sym (append-nil ls)) place) here (no_end_app t.pending (b ∷ []) none (other, tt)) (omega (arith, size, short, few, one)) right

  module _ (end : b ≡ 10) where
    ended : t.pending ++ b ∷ [] ≡ t.pending ++ 10 ∷ []
    ended = ap (λ (c : ℕ). t.pending ++ c ∷ []) end

    further_end : (more : List ℕ) → (bytes ++ b ∷ []) ++ more ≡ prefix ++ (t.pending ++ 10 ∷ more)
    further_end more = further more ∙ ap (λ l. prefix ++ (l ++ more)) ended ∙ ap (λ l. prefix ++ l) (append_assoc t.pending (10 ∷ []) more)

    limits_by : (l : Line) (r : Result Line LineFault) → within_limits l ≡ r → Took t.version t.counts prefix ls t.ended t.pending l → Goes bytes ls b (answered r, behind t r)
    limits_by l r e (next ok place) =
        subst (λ (s : Result Line LineFault). Goes bytes ls b (answered s, behind t s)) (sym ok ∙ e)
        (going (prefix ++ (t.pending ++ 10 ∷ [])) place (here ∙ ap (λ x. prefix ++ x) ended ∙ sym (append-nil (prefix ++ (t.pending ++ 10 ∷ [])))) tt (omega arith) refl)
    limits_by l r e (passes bad over) =
        subst (λ (s : Result Line LineFault). Goes bytes ls b (answered s, behind t s)) (sym bad ∙ e)
        (wrong fault.TooMany refl (λ more. subst (λ x. IsTooMany x) (sym (further_end more)) (over more)))

    line_by : (o : Option Line) → line_in t.version t.counts t.ended (t.pending ++ 10 ∷ []) ≡ o → Goes bytes ls b (answered (checked (t.ended + 1) o), behind t (checked (t.ended + 1) o))
    line_by None e = wrong (fault.BadLine (t.ended + 1)) refl (λ more. subst (λ l. IsBadLine l (t.ended + 1)) (sym (further_end more)) (st.no_line t.pending more none e))
    line_by (Some l) e = limits_by l (within_limits l) refl (st.line t.pending l none e)

    end_by : Goes bytes ls b (answered (line_meaning t.version t.counts t.ended (t.pending ++ b ∷ [])), behind t (line_meaning t.version t.counts t.ended (t.pending ++ b ∷ [])))
    end_by =
        subst (λ (l : List ℕ). Goes bytes ls b (answered (line_meaning t.version t.counts t.ended l), behind t (line_meaning t.version t.counts t.ended l)))
        (sym ended)
        (line_by (line_in t.version t.counts t.ended (t.pending ++ 10 ∷ [])) refl)

  went_by : (ends : Bool) → (b == 10) ≡ ends
      → Goes bytes ls b (cond ends (answered (line_meaning t.version t.counts t.ended (t.pending ++ b ∷ [])), behind t (line_meaning t.version t.counts t.ended (t.pending ++ b ∷ []))) (with_line_byte t b (length t.pending + 1 == longest_line)))
  went_by true e = end_by (eqb-true b 10 e)
  went_by false e = kept_by (length t.pending + 1 == longest_line) refl (λ (q : b ≡ 10). true≢false (sym (eq-eqb b 10 q) ∙ e))

  step_going : Goes bytes ls b (took t b)
  step_going = subst (Goes bytes ls b) (sym (ap (λ o. took_at o t b) right)) (went_by (b == 10) refl)

step : (bytes : List ℕ) (ls : List Line) (t : Taken) (b : ℕ) → Known bytes ls t → Goes bytes ls b (took t b)
step bytes ls t b (going prefix place is none short right) = step_going bytes ls t b prefix place is none short right
step bytes ls t b (wrong f e h) =
    subst (Goes bytes ls b) (sym (ap (λ o. took_at o t b) e))
    (wrong f e (λ more. subst (λ l. IsFault l (as_read f)) (sym (append_assoc bytes (b ∷ []) more)) (h (b ∷ more))))

-- ---- all bytes

run : (bs bytes : List ℕ) (ls : List Line) (t : Taken) → Known bytes ls t → Known (bytes ++ bs) (ls ++ (fed t bs).0) (fed t bs).1
run [] bytes ls t k = subst (λ x. Known x (ls ++ []) t) (sym (append-nil bytes)) (subst (λ x. Known bytes x t) (sym (append-nil ls)) k)
run (b ∷ bs) bytes ls t k =
    let r = took t b in
    let more = run bs (bytes ++ b ∷ []) (ls ++ with_first_line r.0 []) r.1 (step bytes ls t b k) in
    let lines_are : (ls ++ with_first_line r.0 []) ++ (fed r.1 bs).0 ≡ ls ++ with_first_line r.0 (fed r.1 bs).0 = append_assoc ls (with_first_line r.0 []) (fed r.1 bs).0 ∙ ap (λ l. ls ++ l) (sym (more_app r.0 [] (fed r.1 bs).0)) in
    subst (λ x. Known x (ls ++ with_first_line r.0 (fed r.1 bs).0) (fed r.1 bs).1) (append_assoc bytes (b ∷ []) bs) (subst (λ x. Known ((bytes ++ b ∷ []) ++ bs) x (fed r.1 bs).1) lines_are more)

known : (bytes : List ℕ) → Known bytes (fed nothing_taken bytes).0 (fed nothing_taken bytes).1
known bytes = run bytes [] [] nothing_taken (going [] (at_first refl refl refl refl) refl tt (omega arith) refl)

-- ---- if nothing follows

closed : (bytes : List ℕ) (ls : List Line) (n : ℕ) (whole : Bool) → Closes bytes ls n whole → IsRead bytes ls (cond whole (Ok tt) (Err (fault.BadLine n)))
closed bytes ls n true h = h
closed bytes ls n false h = h

ended_known : (bytes : List ℕ) (ls : List Line) (t : Taken) → Known bytes ls t → IsRead bytes ls (ended_so t)
ended_known bytes ls t (going prefix place is none short right) =
    let c = (stage t.version t.counts prefix ls t.ended place).closes t.pending none in
    subst (IsRead bytes ls) (sym (ap (λ o. fault_at_end o t) right)) (closed bytes ls (t.ended + 1) (is_whole t.counts t.ended t.pending) (subst (λ l. Closes l ls (t.ended + 1) (is_whole t.counts t.ended t.pending)) (sym is) c))
ended_known bytes ls t (wrong f e h) =
    subst (IsRead bytes ls) (sym (ap (λ o. fault_at_end o t) e)) (subst (λ l. IsFault l (as_read f)) (append-nil bytes) (h []))

pub read_whole : (bytes : List ℕ) → IsRead bytes (fed nothing_taken bytes).0 (ended_so (fed nothing_taken bytes).1)
read_whole bytes = ended_known bytes (fed nothing_taken bytes).0 (fed nothing_taken bytes).1 (known bytes)

stays : (bytes : List ℕ) (ls : List Line) (t : Taken) (f : LineFault) → t.fault ≡ Some f → Known bytes ls t → (more : List ℕ) → IsFault (bytes ++ more) (as_read f)
stays bytes ls t f e (going prefix place is none short right) more = absurd (none_some (sym right ∙ e))
stays bytes ls t f e (wrong g h bad) more = let same : Some g ≡ Some f = sym h ∙ e in let one : g ≡ f = cc in subst (λ x. IsFault (bytes ++ more) (as_read x)) one (bad more)

pub faults_stay : (bytes more : List ℕ) (f : LineFault) → (fed nothing_taken bytes).1.fault ≡ Some f → IsFault (bytes ++ more) (as_read f)
faults_stay bytes more f e = stays bytes (fed nothing_taken bytes).0 (fed nothing_taken bytes).1 f e (known bytes) more

-- ---- one answer

same_fault : (f g : LineFault) → as_read f ≡ as_read g → f ≡ g
same_fault (fault.BadLine n) (fault.BadLine m) e = cc
same_fault (fault.BadLine n) fault.TooMany e = cc
same_fault fault.TooMany (fault.BadLine m) e = cc
same_fault fault.TooMany fault.TooMany e = refl

text_by : (bytes : List ℕ) (ls : List Line) (r : Result (Unit {0}) LineFault) (ann : Ann) → IsRead bytes ls r → (is : IsText bytes ann) → (ls ≡ lines_of is.version ann) × (r ≡ Ok tt)
text_by bytes ls (Ok u) ann h is = (h.2 ∙ (λ i. lines_of (one_version bytes h.0 ann h.1 is i) (one_annotation bytes h.0 ann h.1 is i)), refl)
text_by bytes ls (Err f) ann h is = absurd (no_fault bytes ann (as_read f) is h)

pub texts_are_taken : (bytes : List ℕ) (ann : Ann) → (is : IsText bytes ann) → ((fed nothing_taken bytes).0 ≡ lines_of is.version ann) × (ended_so (fed nothing_taken bytes).1 ≡ Ok tt)
texts_are_taken bytes ann is = text_by bytes (fed nothing_taken bytes).0 (ended_so (fed nothing_taken bytes).1) ann (read_whole bytes) is

fault_by : (bytes : List ℕ) (ls : List Line) (r : Result (Unit {0}) LineFault) (f : LineFault) → IsRead bytes ls r → IsFault bytes (as_read f) → r ≡ Err f
fault_by bytes ls (Ok u) f h is = absurd (no_fault bytes h.0 (as_read f) h.1 is)
fault_by bytes ls (Err g) f h is = ap Err (same_fault g f (one_fault bytes (as_read g) (as_read f) h is))

pub faults_are_found : (bytes : List ℕ) (f : LineFault) → IsFault bytes (as_read f) → ended_so (fed nothing_taken bytes).1 ≡ Err f
faults_are_found bytes f is = fault_by bytes (fed nothing_taken bytes).0 (ended_so (fed nothing_taken bytes).1) f (read_whole bytes) is
