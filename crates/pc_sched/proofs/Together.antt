-- A text spells turns within the limit or has a first fault, and not both.
use Rattle.std.proofs.{Common.{◌≡◌, ℕ, zero, suc, ◌+◌, ◌-◌, ◌<◌, ◌≤◌, List, [], ◌∷◌, ◌++◌, length, drop, Option, Some, None, Result, Ok, Err, IfOk, refl, sym, ap, ap₂, subst, inl, inr, ◌⊎◌, arith}, lemmas.Bool.cases_lt}
use Rattle.std.specs.{Prelude.IfErr, List.prefix_len}
use Rattle.pc_sched.specs.{declared.turns.Turn.Turn, declared.fault.SchedFault.SchedFault, Schedules.{turn_limit, no_blank, SpellsTurn, total, TurnList, WordAt, FirstScheduleFault}, Reading.{turn_of, word_at, Steps}, Answers.{RefusesSchedule, AnswersSchedule}}
use Rattle.pc_sched.specs.declared.fault.SchedFault.TheVariants as fault
use Rattle.pc_sched.proofs.{TurnReading.turn_one, OneCut.{turns_one, through, Meet, meet, Passes, passes}, Reached.{Sofar, starts_so, goes_on, nearer, ends_so, stuck_so}}

-- a word at a place, with which there is no list within the limit
record Stopped (text : List ℕ) (at : ℕ) (turns : List Turn) (b : List ℕ) : Type 0 where
  here : WordAt text at turns b
  stops : Passes b turns → ⊥

many_stops : (b : List ℕ) (turns : List Turn) (turn : Turn) → SpellsTurn b turn → turn_limit < total turns + turn.times → Passes b turns → ⊥
many_stops b turns turn s many (other, o, few) = omega (arith, many, few, ap (λ t. t.times) (turn_one b turn other s o))

stopped : (text : List ℕ) (f : SchedFault) → FirstScheduleFault text f → (at : ℕ) × (turns : List Turn) × (b : List ℕ) × Stopped text at turns b
stopped text (fault.BadWord p) h = (p, h.0, h.1, record { here = h.2; stops = λ x. h.3 x.0 x.1 })
stopped text (fault.TooMany p) h = (p, h.0, h.1, record { here = h.2; stops = many_stops h.1 h.0 h.3 h.4 h.5 })
stopped text fault.Memory h = absurd h

no_list : (text : List ℕ) (us : List Turn) (at : ℕ) (ts : List Turn) (b : List ℕ) → TurnList text us → Stopped text at ts b → ⊥
no_list text us at ts b ((qs, cut, spelled), few) s =
    let more = through s.here.pieces qs text b s.here.rest s.here.cut s.here.stands cut in
    s.stops (passes s.here.pieces more.0 qs b ts us s.here.spelled spelled more.1 few)

-- turns within the limit and a first fault exclude each other
pub never_both : (text : List ℕ) (turns : List Turn) (f : SchedFault) → TurnList text turns → FirstScheduleFault text f → ⊥
never_both text turns f h i =
    let s = stopped text f i in
    no_list text turns s.0 s.1 s.2 h s.3

same_cases : (text : List ℕ) (p q : ℕ) (ts us : List Turn) (b c : List ℕ) (s : Stopped text p ts b) (z : Stopped text q us c) → Meet s.here.pieces b s.here.rest z.here.pieces c z.here.rest → (p ≡ q) × (b ≡ c)
same_cases text p q ts us b c s z (inl (one, same, all)) =
    (omega (arith, s.here.place, z.here.place, ap length (ap₂ (λ x y. x ++ y) one same)), one)
same_cases text p q ts us b c s z (inr (inl (ms, is))) = absurd (s.stops (passes s.here.pieces ms z.here.pieces b ts us s.here.spelled z.here.spelled is z.here.few))
same_cases text p q ts us b c s z (inr (inr (ms, is))) = absurd (z.stops (passes z.here.pieces ms s.here.pieces c us ts z.here.spelled s.here.spelled is s.here.few))

-- two words that cannot be passed are the same
same : (text : List ℕ) (p q : ℕ) (ts us : List Turn) (b c : List ℕ) → Stopped text p ts b → Stopped text q us c → (p ≡ q) × (b ≡ c)
same text p q ts us b c s z = same_cases text p q ts us b c s z (meet s.here.pieces z.here.pieces text b s.here.rest c z.here.rest s.here.cut s.here.stands z.here.cut z.here.stands)

same_faults : (text : List ℕ) (f g : SchedFault) (h : FirstScheduleFault text f) (i : FirstScheduleFault text g) → ((stopped text f h).0 ≡ (stopped text g i).0) × ((stopped text f h).2 ≡ (stopped text g i).2)
same_faults text f g h i =
    let s = stopped text f h in
    let z = stopped text g i in
    same text s.0 z.0 s.1 z.1 s.2 z.2 s.3 z.3

pub fault_one : (text : List ℕ) (one other : SchedFault) → FirstScheduleFault text one → FirstScheduleFault text other → one ≡ other
unfolding stopped
fault_one text (fault.BadWord p) (fault.BadWord q) h i = ap fault.BadWord (same_faults text (fault.BadWord p) (fault.BadWord q) h i).0
fault_one text (fault.BadWord p) (fault.TooMany q) h i = absurd (h.3 i.3 (subst (λ l. SpellsTurn l i.3) (sym (same_faults text (fault.BadWord p) (fault.TooMany q) h i).1) i.4))
fault_one text (fault.BadWord p) fault.Memory h i = absurd i
fault_one text (fault.TooMany p) (fault.BadWord q) h i = absurd (i.3 h.3 (subst (λ l. SpellsTurn l h.3) (same_faults text (fault.TooMany p) (fault.BadWord q) h i).1 h.4))
fault_one text (fault.TooMany p) (fault.TooMany q) h i = ap fault.TooMany (same_faults text (fault.TooMany p) (fault.TooMany q) h i).0
fault_one text (fault.TooMany p) fault.Memory h i = absurd i
fault_one text fault.Memory other h i = absurd h

abbrev Either : List ℕ → Type 0
Either text = ((turns : List Turn) × TurnList text turns) ⊎ ((f : SchedFault) × FirstScheduleFault text f)

abbrev More : List ℕ → ℕ → Type 0
More text at = (new : List Turn) (r : ℕ × ℕ) → at < r.0 → Sofar text r.0 r.1 new → Either text

module _ (text : List ℕ) (at count : ℕ) (turns : List Turn) (inside : at < length text) (so : Sofar text at count turns) (more : More text at) where
  on : (new : List Turn) (r : ℕ × ℕ) → Steps text at count turns new r → Either text
  on new r s = more new r (nearer text at count turns new r s) (goes_on text at count turns inside so new r s)

  turn_told : (turn : Turn) → 0 < prefix_len no_blank (drop at text) → turn_of (word_at text at) ≡ Some turn → (turn_limit < count + turn.times) ⊎ (count + turn.times ≤ turn_limit) → Either text
  turn_told turn some is (inl many) = inr (fault.TooMany at, stuck_so text at count turns inside so (fault.TooMany at) (refl, some, turn, is, many))
  turn_told turn some is (inr few) = on (turns ++ turn ∷ []) (at + prefix_len no_blank (drop at text), count + turn.times) (inr (turn, some, is, few, refl, refl))

  word_told : (o : Option Turn) → 0 < prefix_len no_blank (drop at text) → turn_of (word_at text at) ≡ o → Either text
  word_told None some is = inr (fault.BadWord at, stuck_so text at count turns inside so (fault.BadWord at) (refl, some, is))
  word_told (Some turn) some is = turn_told turn some is (cases_lt turn_limit (count + turn.times))

  step_told : (n : ℕ) → prefix_len no_blank (drop at text) ≡ n → Either text
  step_told zero none = on turns (at + 1, count) (inl (none, refl, refl))
  step_told (suc n) some = word_told (turn_of (word_at text at)) (omega (arith, some)) refl

list_told : (text : List ℕ) (at count : ℕ) (turns : List Turn) → length text ≤ at → Sofar text at count turns → Either text
list_told text at count turns past so = inl (turns, ends_so text at count turns past so)

-- The number bounds the pieces.
told_from : (n : ℕ) (text : List ℕ) (at count : ℕ) (turns : List Turn) → length text - at ≤ n → Sofar text at count turns → Either text
told_from zero text at count turns enough so = list_told text at count turns (omega (arith, enough)) so
told_from (suc n) text at count turns enough so =
    elim (cases_lt at (length text)) [
      | inl inside ↦ step_told text at count turns inside so (λ new r less next. told_from n text r.0 r.1 new (omega (arith, less, enough, inside)) next) (prefix_len no_blank (drop at text)) refl
      | inr past ↦ list_told text at count turns past so
    ]

-- a text spells turns within the limit, or has a first fault
pub told : (text : List ℕ) → Either text
told text = told_from (length text) text 0 0 [] (omega arith) (starts_so text)

abbrev IsAnswer : List ℕ → Result (List Turn) SchedFault → Type 0
IsAnswer text (Ok turns) = TurnList text turns
IsAnswer text (Err f) = RefusesSchedule text f

pub is_answer : (text : List ℕ) (result : Result (List Turn) SchedFault) → IfOk result (TurnList text) → IfErr result (RefusesSchedule text) → IsAnswer text result
is_answer text (Ok turns) ok err = ok
is_answer text (Err f) ok err = err

-- the turns within the limit are returned
pub answers_list : (text : List ℕ) (result : Result (List Turn) SchedFault) (turns : List Turn) → IsAnswer text result → TurnList text turns → AnswersSchedule result (Ok turns)
answers_list text (Ok other) turns right h = inl (ap Ok (turns_one text other turns right.0 h.0))
answers_list text (Err (fault.BadWord p)) turns right h = absurd (never_both text turns (fault.BadWord p) h right)
answers_list text (Err (fault.TooMany p)) turns right h = absurd (never_both text turns (fault.TooMany p) h right)
answers_list text (Err fault.Memory) turns right h = inr refl

-- the first fault is returned
pub answers_fault : (text : List ℕ) (result : Result (List Turn) SchedFault) (g : SchedFault) → IsAnswer text result → FirstScheduleFault text g → AnswersSchedule result (Err g)
answers_fault text (Ok turns) g right h = absurd (never_both text turns g right h)
answers_fault text (Err (fault.BadWord p)) g right h = inl (ap Err (fault_one text (fault.BadWord p) g right h))
answers_fault text (Err (fault.TooMany p)) g right h = inl (ap Err (fault_one text (fault.TooMany p) g right h))
answers_fault text (Err fault.Memory) g right h = inr refl
