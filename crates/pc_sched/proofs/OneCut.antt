-- A text is cut into pieces in only one way, and they spell only one list of turns.
use Rattle.std.proofs.Common.{◌≡◌, ℕ, ◌+◌, ◌<◌, ◌≤◌, List, [], ◌∷◌, ◌++◌, length, get_or, drop, refl, sym, ap, ap₂, ◌∙◌, subst, inl, inr, ◌⊎◌, arith, length-append}
use Rattle.std.specs.List.{prefix_len}
use Rattle.pc_sched.specs.{declared.turns.Turn.Turn, Schedules.{no_blank, SchedulePiece, blank, word, piece_bytes, IsSchedulePiece, SchedulePieces, SpellsTurn, SpelledTurns, total, Turns, turn_limit}}
use Rattle.pc_sched.proofs.{Runs.end_none, TurnReading.turn_one}
use Rattle.pc_base.proofs.{Prefixes.run_app, Cuts.same_cut}

word_run : (b r : List ℕ) → IsSchedulePiece (word b) r → prefix_len no_blank (b ++ r) ≡ length b
word_run b r h = omega (arith, run_app no_blank b r h.1, end_none r h.2)

no_both : (x : ℕ) (r b s : List ℕ) → x ∷ r ≡ b ++ s → IsSchedulePiece (blank x) r → IsSchedulePiece (word b) s → ⊥
no_both x r b s e h i = omega (arith, end_none (x ∷ r) h, word_run b s i, ap (prefix_len no_blank) e, i.0)

-- two pieces at the start of one text are the same
pub piece_one : (p q : SchedulePiece) (r s : List ℕ) → piece_bytes p ++ r ≡ piece_bytes q ++ s → IsSchedulePiece p r → IsSchedulePiece q s
    → (p ≡ q) × (r ≡ s)
piece_one (blank x) (blank y) r s e h i = (ap (λ l. blank (get_or l 0 0)) e, ap (drop 1) e)
piece_one (blank x) (word c) r s e h i = absurd (no_both x r c s e h i)
piece_one (word b) (blank y) r s e h i = absurd (no_both y s b r (sym e) i h)
piece_one (word b) (word c) r s e h i =
    let same : length b ≡ length c = sym (word_run b r h) ∙ ap (prefix_len no_blank) e ∙ word_run c s i in
    let cut = same_cut b r c s e same in
    (ap word cut.0, cut.1)

pub piece_some : (p : SchedulePiece) (r : List ℕ) → IsSchedulePiece p r → 0 < length (piece_bytes p)
piece_some (blank x) r h = omega arith
piece_some (word b) r h = h.0

pieces_one : (ps qs : List SchedulePiece) (text : List ℕ) → SchedulePieces text ps [] → SchedulePieces text qs [] → ps ≡ qs
pieces_one [] [] text h i = refl
pieces_one [] (q ∷ qs) text h i = let some =
    piece_some q i.0 i.2 in absurd (omega (arith, some, ap length h, ap length i.1, length-append (piece_bytes q) i.0))
pieces_one (p ∷ ps) [] text h i = let some =
    piece_some p h.0 h.2 in absurd (omega (arith, some, ap length i, ap length h.1, length-append (piece_bytes p) h.0))
pieces_one (p ∷ ps) (q ∷ qs) text h i =
    let one = piece_one p q h.0 i.0 (sym h.1 ∙ i.1) h.2 i.2 in
    ap₂ (λ x xs. x ∷ xs) one.0 (pieces_one ps qs h.0 h.3 (subst (λ l. SchedulePieces l qs []) (sym one.1) i.3))

spelled_one : (ps : List SchedulePiece) (ts us : List Turn) → SpelledTurns ps ts → SpelledTurns ps us → ts ≡ us
spelled_one [] ts us h i = h ∙ sym i
spelled_one (blank x ∷ ps) ts us h i = spelled_one ps ts us h i
spelled_one (word b ∷ ps) ts us h i = h.2 ∙ ap₂ (λ t l. t ∷ l) (turn_one b h.0 i.0 h.3 i.3) (spelled_one ps h.1 i.1 h.4 i.4) ∙ sym i.2

pub turns_one : (text : List ℕ) (ts us : List Turn) → Turns text ts → Turns text us → ts ≡ us
turns_one text ts us h i = spelled_one h.0 ts us h.2 (subst (λ l. SpelledTurns l us) (sym (pieces_one h.0 i.0 text h.1 i.1)) i.2)

-- if there is a word, the cut to the end goes through it
pub through : (ps qs : List SchedulePiece) (text b rest : List ℕ) → SchedulePieces text ps (b ++ rest) → IsSchedulePiece (word b) rest → SchedulePieces text qs [] → (ms : List SchedulePiece) × (qs ≡ ps ++ word b ∷ ms)
through [] [] text b rest h w i = absurd (omega (arith, w.0, ap length h, ap length i, length-append b rest))
through [] (q ∷ qs) text b rest h w i =
    let one = piece_one q (word b) i.0 rest (sym i.1 ∙ h) i.2 w in
    (qs, ap (λ x. x ∷ qs) one.0)
through (p ∷ ps) [] text b rest h w i = let some = piece_some p h.0 h.2 in absurd (omega (arith, some, ap length i, ap length h.1, length-append (piece_bytes p) h.0))
through (p ∷ ps) (q ∷ qs) text b rest h w i =
    let one = piece_one p q h.0 i.0 (sym h.1 ∙ i.1) h.2 i.2 in
    let more = through ps qs h.0 b rest h.3 w (subst (λ l. SchedulePieces l qs []) (sym one.1) i.3) in
    (more.0, ap₂ (λ x xs. x ∷ xs) (sym one.0) more.1)

-- Two words of a text: they are the same, or one comes after the other.
abbrev pub Meet : List SchedulePiece → List ℕ → List ℕ → List SchedulePiece → List ℕ → List ℕ → Type 0
Meet ps b rest qs c more =
    ((b ≡ c) × (rest ≡ more) × (ps ≡ qs))
    ⊎ (((ms : List SchedulePiece) × (qs ≡ ps ++ word b ∷ ms))
    ⊎ ((ms : List SchedulePiece) × (ps ≡ qs ++ word c ∷ ms)))

meet_on : (p q : SchedulePiece) (ps qs : List SchedulePiece) (b rest c more : List ℕ) → p ≡ q → Meet ps b rest qs c more
    → Meet (p ∷ ps) b rest (q ∷ qs) c more
meet_on p q ps qs b rest c more e (inl (one, same, all)) = inl (one, same, ap₂ (λ x xs. x ∷ xs) e all)
meet_on p q ps qs b rest c more e (inr (inl (ms, is))) = inr (inl (ms, ap₂ (λ x xs. x ∷ xs) (sym e) is))
meet_on p q ps qs b rest c more e (inr (inr (ms, is))) = inr (inr (ms, ap₂ (λ x xs. x ∷ xs) e is))

pub meet : (ps qs : List SchedulePiece) (text b rest c more : List ℕ) → SchedulePieces text ps (b ++ rest) → IsSchedulePiece (word b) rest → SchedulePieces text qs (c ++ more) → IsSchedulePiece (word c) more → Meet ps b rest qs c more
meet [] [] text b rest c more h w i v =
    let one = piece_one (word b) (word c) rest more (sym h ∙ i) w v in
    inl (ap piece_bytes one.0, one.1, refl)
meet [] (q ∷ qs) text b rest c more h w i v = inr (inl (qs, ap (λ x. x ∷ qs) (piece_one q (word b) i.0 rest (sym i.1 ∙ h) i.2 w).0))
meet (p ∷ ps) [] text b rest c more h w i v = inr (inr (ps, ap (λ x. x ∷ ps) (piece_one p (word c) h.0 more (sym h.1 ∙ i) h.2 v).0))
meet (p ∷ ps) (q ∷ qs) text b rest c more h w i v =
    let one = piece_one p q h.0 i.0 (sym h.1 ∙ i.1) h.2 i.2 in
    meet_on p q ps qs b rest c more one.0 (meet ps qs h.0 b rest c more h.3 w (subst (λ l. SchedulePieces l qs (c ++ more)) (sym one.1) i.3) v)

-- The word spells a turn, and with it there are not too many turns.
abbrev pub Passes : List ℕ → List Turn → Type 0
Passes b turns = (turn : Turn) × SpellsTurn b turn × (total turns + turn.times ≤ turn_limit)

-- the turns before a word are some of all, and the word spells one more
within : (ps ms : List SchedulePiece) (b : List ℕ) (ts us : List Turn) → SpelledTurns ps ts → SpelledTurns (ps ++ word b ∷ ms) us → (turn : Turn) × SpellsTurn b turn × (total ts + turn.times ≤ total us)
within [] ms b ts us h i = (i.0, i.3, omega (arith, ap total h, ap total i.2))
within (blank x ∷ ps) ms b ts us h i = within ps ms b ts us h i
within (word x ∷ ps) ms b ts us h i =
    let same : h.0.times ≡ i.0.times = ap (λ t. t.times) (turn_one x h.0 i.0 h.3 i.3) in
    let more = within ps ms b h.1 i.1 h.4 i.4 in
    (more.0, more.1, omega (arith, more.2, same, ap total h.2, ap total i.2))

pub passes : (ps ms qs : List SchedulePiece) (b : List ℕ) (ts us : List Turn) → SpelledTurns ps ts → SpelledTurns qs us → qs ≡ ps ++ word b ∷ ms → total us ≤ turn_limit → Passes b ts
passes ps ms qs b ts us h i e few =
    let one = within ps ms b ts us h (subst (λ l. SpelledTurns l us) e i) in
    (one.0, one.1, omega (arith, one.2, few))
