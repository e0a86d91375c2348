-- The pieces that have been read.
use Rattle.std.proofs.{Common.{◌≡◌, ℕ, ◌+◌, ◌<◌, ◌≤◌, List, [], ◌∷◌, ◌++◌, length, get_or, drop, Some, refl, sym, ap, ◌∙◌, ap₂, subst, inl, inr, arith, take-append-drop, drop-drop, length-drop}, lemmas.List.{drop_all, drop_more}, lemmas.List.Sums.prefix_len-le-length, lemmas.List.Folds.length-prefix_len}
use Rattle.std.specs.List.{prefix_len}
use Rattle.pc_sched.specs.{declared.turns.Turn.Turn, declared.fault.SchedFault.SchedFault, Schedules.{turn_limit, no_blank, SchedulePiece, blank, word, piece_bytes, IsSchedulePiece, SchedulePieces, SpellsTurn, SpelledTurns, total, TurnList, WordAt}, Reading.{turn_of, word_at, Steps, Stuck}, Answers.RefusesSchedule}
use Rattle.pc_sched.specs.declared.fault.SchedFault.TheVariants as fault
use Rattle.pc_sched.proofs.{Runs.{run_ends, first_blank}, TurnReading.{turn_sound, no_turn}}
use Rattle.pc_base.proofs.Prefixes.{run_all}

pub record Sofar (text : List ℕ) (at count : ℕ) (turns : List Turn) : Type 0 where
  pub pieces : List SchedulePiece
  pub within : at ≤ length text
  pub cut : SchedulePieces text pieces (drop at text)
  pub spelled : SpelledTurns pieces turns
  pub counted : count ≡ total turns
  pub few : count ≤ turn_limit

add_piece : (ps : List SchedulePiece) (text : List ℕ) (p : SchedulePiece) (mid rest : List ℕ) → SchedulePieces text ps mid → mid ≡ piece_bytes p ++ rest → IsSchedulePiece p rest → SchedulePieces text (ps ++ p ∷ []) rest
add_piece [] text p mid rest h e stands = (rest, h ∙ e, stands, refl)
add_piece (q ∷ ps) text p mid rest h e stands = (h.0, h.1, h.2, add_piece ps h.0 p mid rest h.3 e stands)

add_blank : (ps : List SchedulePiece) (x : ℕ) (ts : List Turn) → SpelledTurns ps ts → SpelledTurns (ps ++ blank x ∷ []) ts
add_blank [] x ts h = h
add_blank (blank y ∷ ps) x ts h = add_blank ps x ts h
add_blank (word b ∷ ps) x ts h = (h.0, h.1, h.2, h.3, add_blank ps x h.1 h.4)

add_word : (ps : List SchedulePiece) (b : List ℕ) (ts : List Turn) (turn : Turn) → SpellsTurn b turn → SpelledTurns ps ts → SpelledTurns (ps ++ word b ∷ []) (ts ++ turn ∷ [])
add_word [] b ts turn s h = (turn, [], ap (λ l. l ++ turn ∷ []) h, s, refl)
add_word (blank y ∷ ps) b ts turn s h = add_word ps b ts turn s h
add_word (word c ∷ ps) b ts turn s h = (h.0, h.1 ++ turn ∷ [], ap (λ l. l ++ turn ∷ []) h.2, h.3, add_word ps b h.1 turn s h.4)

total_add : (ts : List Turn) (turn : Turn) → total (ts ++ turn ∷ []) ≡ total ts + turn.times
total_add [] turn = omega arith
total_add (t ∷ ts) turn = omega (arith, total_add ts turn)

pub starts_so : (text : List ℕ) → Sofar text 0 0 []
starts_so text = record { pieces = []; within = omega arith; cut = refl; spelled = refl; counted = refl; few = omega arith }

module _ (text : List ℕ) (at count : ℕ) (turns : List Turn) (inside : at < length text) (so : Sofar text at count turns) where
  -- the word at the place, if there is one
  word_stands : 0 < prefix_len no_blank (drop at text) → IsSchedulePiece (word (word_at text at)) (drop (prefix_len no_blank (drop at text)) (drop at text))
  word_stands some = (omega (arith, some, length-prefix_len no_blank (drop at text)), run_all no_blank (drop at text), run_ends (drop at text))

  blank_passed : prefix_len no_blank (drop at text) ≡ 0 → Sofar text (at + 1) count turns
  blank_passed none =
      let split : drop at text ≡ get_or text at 0 ∷ drop (at + 1) text = drop_more text at 0 inside in
      let is = first_blank (get_or text at 0) (drop (at + 1) text) (ap (prefix_len no_blank) (sym split) ∙ none) in
      record {
        pieces = so.pieces ++ blank (get_or text at 0) ∷ [];
        within = omega (arith, inside);
        cut = add_piece so.pieces text (blank (get_or text at 0)) (drop at text) (drop (at + 1) text) so.cut split is;
        spelled = add_blank so.pieces (get_or text at 0) turns so.spelled;
        counted = so.counted;
        few = so.few;
      }

  word_read : (turn : Turn) → 0 < prefix_len no_blank (drop at text) → turn_of (word_at text at) ≡ Some turn → count + turn.times ≤ turn_limit → Sofar text (at + prefix_len no_blank (drop at text)) (count + turn.times) (turns ++ turn ∷ [])
  word_read turn some is few =
      let n = prefix_len no_blank (drop at text) in
      let rest : drop n (drop at text) ≡ drop (at + n) text = drop-drop n at text in
      let split : drop at text ≡ word_at text at ++ drop n (drop at text) = sym (take-append-drop n (drop at text)) in
      record {
        pieces = so.pieces ++ word (word_at text at) ∷ [];
        within = omega (arith, so.within, prefix_len-le-length no_blank (drop at text), length-drop at text);
        cut = subst (SchedulePieces text (so.pieces ++ word (word_at text at) ∷ [])) rest (add_piece so.pieces text (word (word_at text at)) (drop at text) (drop n (drop at text)) so.cut split (word_stands some));
        spelled = add_word so.pieces (word_at text at) turns turn (turn_sound (word_at text at) turn is) so.spelled;
        counted = omega (arith, so.counted, total_add turns turn);
        few = few;
      }

  word_here : 0 < prefix_len no_blank (drop at text) → WordAt text at turns (word_at text at)
  word_here some =
      let n = prefix_len no_blank (drop at text) in
      let split : drop at text ≡ word_at text at ++ drop n (drop at text) = sym (take-append-drop n (drop at text)) in
      record {
        pieces = so.pieces;
        rest = drop n (drop at text);
        cut = subst (SchedulePieces text so.pieces) split so.cut;
        stands = word_stands some;
        spelled = so.spelled;
        few = omega (arith, so.counted, so.few);
        place = omega (arith, inside, ap length split, length-drop at text);
      }

  pub goes_on : (new : List Turn) (r : ℕ × ℕ) → Steps text at count turns new r → Sofar text r.0 r.1 new
  goes_on new r (inl (none, e, same)) =
      let P : (ℕ × ℕ) × List Turn → Type 0 = λ x. Sofar text x.0.0 x.0.1 x.1 in
      let pair : ((at + 1, count), turns) ≡ (r, new) = sym (ap₂ (λ x y. (x, y)) e same) in
      subst P pair (blank_passed none)
  goes_on new r (inr (turn, some, is, few, e, same)) =
      let P : (ℕ × ℕ) × List Turn → Type 0 = λ x. Sofar text x.0.0 x.0.1 x.1 in
      let pair : ((at + prefix_len no_blank (drop at text), count + turn.times), turns ++ turn ∷ []) ≡ (r, new) = sym (ap₂ (λ x y. (x, y)) e same) in
      subst P pair (word_read turn some is few)

  pub stuck_so : (f : SchedFault) → Stuck text at count f → RefusesSchedule text f
  stuck_so (fault.BadWord p) s =
      subst (λ q. RefusesSchedule text (fault.BadWord q)) (sym s.0) (turns, word_at text at, word_here s.1, no_turn (word_at text at) s.2)
  stuck_so (fault.TooMany p) s = subst (λ q. RefusesSchedule text (fault.TooMany q)) (sym s.0) (turns, word_at text at, word_here s.1, s.2, turn_sound (word_at text at) s.2 s.3, omega (arith, so.counted, s.4))
  stuck_so fault.Memory s = tt

pub nearer : (text : List ℕ) (at count : ℕ) (old new : List Turn) (r : ℕ × ℕ) → Steps text at count old new r → at < r.0
nearer text at count old new r (inl (none, e, same)) = omega (arith, ap (λ x. x.0) e)
nearer text at count old new r (inr (turn, some, is, few, e, same)) = omega (arith, some, ap (λ x. x.0) e)

pub ends_so : (text : List ℕ) (at count : ℕ) (turns : List Turn) → length text ≤ at → Sofar text at count turns → TurnList text turns
ends_so text at count turns past so =
    ((so.pieces, subst (SchedulePieces text so.pieces) (drop_all at text past) so.cut, so.spelled), omega (arith, so.counted, so.few))
