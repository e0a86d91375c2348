-- The places that are kept for the messages that wait.
use Rattle.std.specs.Prelude.{◌≡◌, ◌≢◌, ◌<◌, ◌≤◌, ℕ, zero, suc, ◌+◌, false, List, [], ◌∷◌, ◌++◌, length, drop, Option, Some, None, slice_get, refl}
use Rattle.std.proofs.{Common.{inl, inr, ap, sym, subst, ◌∙◌, arith}, lemmas.Option.{same_Some, none-some}, lemmas.Bool.Decides.{eqb_tells, leb_tells}}
use Rattle.pc_base.proofs.Gets.{get_below, get_drop, get_push, get_within}
use Rattle.pc_core.specs.CoreData.{CoreData}
use Rattle.pc_semantics.specs.{Ahead.ahead_of, Configurations.{Configuration, main_create, start, start_of}, Step.outcomes, declared.ahead.Ahead.Ahead, declared.outcome.Outcome.TheVariants.{Moved, Skipped}}
use Rattle.pc_semantics.specs.declared.ahead.Ahead.TheVariants as ahead
use Rattle.pc_events.specs.{Before.{at_place, Event, is_take, receiver_by, receiver_of, taken_before, waiting_for, waiting_of}, Counting.{Put, total}}
use Rattle.pc_events.proofs.{Boxes.{Boxes, none_behind}, Events.one_actor, Totals.{Moving, moving, resting, taken_none, taken_other, taken_own}}
use Rattle.pc_run_events.specs.{Events.SentAt, Kept.{PostsKeep, RowKeeps, SentBefore, first_posts}, Posts.{RowAt, first_of}, Turns.{HasRow, Posted, first_row}}

none_below : (e : ℕ) → e < 0 → ⊥
none_below e l = omega (arith, l)

send_take : (r : ℕ) → ahead.Send r ≡ ahead.Take → ⊥
send_take r e = cc

spawn_take : ahead.Spawn ≡ ahead.Take → ⊥
spawn_take e = cc

task_take : ahead.Task ≡ ahead.Take → ⊥
task_take e = cc

-- ---- the start

abbrev Started : Configuration → ℕ → List ℕ → Type 0
Started c a s = (length s ≡ waiting_for c a) × ((n m : ℕ) → slice_get s n ≡ Some m → m ≡ 0)

abbrev no_row : List ℕ
no_row = []

abbrev one_row : List ℕ
one_row = 0 ∷ []

nothing : (n m : ℕ) → slice_get no_row n ≡ Some m → m ≡ 0
nothing n m e = absurd (none-some m e)

only : (n m : ℕ) → slice_get one_row n ≡ Some m → m ≡ 0
only zero m e = sym (same_Some 0 m e)
only (suc n) m e = absurd (none-some m e)

started : (core : CoreData) (o : Option (ℕ × ℕ)) (a : ℕ) (s : List ℕ) → slice_get (first_posts (length (start_of core o).actors)) a ≡ Some s → Started (start_of core o) a s
started core None a s e = absurd (none-some s e)
started core (Some m) zero s e = subst (Started (start_of core (Some m)) 0) (same_Some no_row s e) (refl, nothing)
started core (Some m) (suc zero) s e = subst (Started (start_of core (Some m)) 1) (same_Some one_row s e) (refl, only)
started core (Some m) (suc (suc a)) s e = absurd (none-some s e)

started_count : (core : CoreData) (o : Option (ℕ × ℕ)) → length (first_posts (length (start_of core o).actors)) ≡ length (start_of core o).actors
started_count core None = refl
started_count core (Some m) = refl

pub posts_at_start : (core : CoreData) (list : List ℕ) → PostsKeep core list 0 (first_posts (length (start core).actors))
posts_at_start core list = record { count = started_count core (main_create core); row = row }
  where
    unsent : (a n m : ℕ) → m ≡ 0 → SentBefore core list 0 a n m
    unsent a n m e = subst (SentBefore core list 0 a n) (sym e) (λ q l p. none_below q l)

    row : (a : ℕ) (s : List ℕ) → slice_get (first_posts (length (start core).actors)) a ≡ Some s → RowKeeps core list 0 a s
    row a s e = let w = started core (main_create core) a s e in record { waits = w.0; sent = λ n m g. unsent a (taken_before core list 0 a + n) m (w.1 n m g) }

-- ---- a turn that is skipped

skipped_moved : Skipped ≡ Moved → ⊥
skipped_moved e = cc

pub posts_rested : (core : CoreData) (list : List ℕ) (k : ℕ) (posts : List (List ℕ)) → slice_get (outcomes core list) k ≡ Some Skipped → PostsKeep core list k posts → PostsKeep core list (suc k) posts
posts_rested core list k posts e h =
    let r = resting core list k e in
    record {
      count = h.count ∙ sym (ap (λ (c : Configuration). length c.actors) r.same);
      row = λ a s g.
          let o = h.row a s g in
          record {
            waits = o.waits ∙ ap (λ (c : Configuration). waiting_for c a) (sym r.same);
            sent = λ n m i. subst (λ (t : ℕ). SentBefore core list (suc k) a (t + n) m) (sym (r.counts a)) (later a (taken_before core list k a + n) m (o.sent n m i));
          };
    }
  where
    split : (q : ℕ) → q < suc k → (q < k → ⊥) → q ≡ k
    split q l n = elim (leb_tells k q) [ inl s ↦ let b = s.1 in omega (arith, b, l) | inr s ↦ absurd (n s.1) ]

    no_put : (a n q : ℕ) → q < suc k → (q < k → ⊥) → Put core list q a n → ⊥
    no_put a n q l not p = skipped_moved (same_Some Skipped Moved (sym e ∙ subst (λ (z : ℕ). slice_get (outcomes core list) z ≡ Some Moved) (split q l not) p.puts.moved))

    later : (a n m : ℕ) → SentBefore core list k a n m → SentBefore core list (suc k) a n m
    later a n zero h = λ q l p. elim (leb_tells k q) [ inl s ↦ let b = s.1 in no_put a n q l (λ x. omega (arith, x, b)) p | inr s ↦ h q s.1 p ]
    later a n (suc q) h = let l = h.0 in (omega (arith, l), h.1)

-- ---- an event

module _ (core : CoreData) (list : List ℕ) (k i : ℕ) (ev : Event core list k i) where
  abbrev here : Configuration
  here = at_place core list k

  abbrev next : Configuration
  next = at_place core list (suc k)

  abbrev kind : Ahead
  kind = ahead_of core here i

  moves : Moving core list k i
  moves = moving core list k i ev

  -- What was sent stays so, since what is put now has a greater number.
  old_sent : (r n m : ℕ) → n < total core list k r → SentBefore core list k r n m → SentBefore core list (suc k) r n m
  old_sent r n zero below h = λ q l p.
      elim (leb_tells k q) [
        | inl s ↦
            let b = s.1 in
            let same : q ≡ k = omega (arith, b, l) in
            let number : n ≡ total core list k r = subst (λ (z : ℕ). n ≡ total core list z r) same p.number in
            omega (arith, below, number)
        | inr s ↦ h q s.1 p
      ]
  old_sent r n (suc q) below h = let l = h.0 in (omega (arith, l), h.1)

  old_row : (a : ℕ) (s : List ℕ) → RowKeeps core list k a s → taken_before core list (suc k) a ≡ taken_before core list k a → (n m : ℕ) → slice_get s n ≡ Some m → SentBefore core list (suc k) a (taken_before core list (suc k) a + n) m
  old_row a s h same n m e =
      let b = get_below s n m e in
      let w = h.waits in
      subst (λ (t : ℕ). SentBefore core list (suc k) a (t + n) m) (sym same) (old_sent a (taken_before core list k a + n) m (omega (arith, b, w)) (h.sent n m e))

  same_row : (a : ℕ) (s : List ℕ) → RowKeeps core list k a s → taken_before core list (suc k) a ≡ taken_before core list k a → waiting_for next a ≡ waiting_for here a → RowKeeps core list (suc k) a s
  same_row a s h same waits = record { waits = h.waits ∙ sym waits; sent = old_row a s h same }

  now_sent : (r : ℕ) → receiver_of core here i ≡ Some r → SentBefore core list (suc k) r (total core list k r) (suc k)
  now_sent r to = (omega arith, record { sender = i; puts = ev; to = to; number = refl })

  module _ (old : List (List ℕ)) (keeps : PostsKeep core list k old) where
    -- Two rows at one place, before and after a change there.
    abbrev Pair : List (List ℕ) → ℕ → (List ℕ → List ℕ → Type 0) → Type 0
    Pair new r R = (s : List ℕ) × (t : List ℕ) × (slice_get old r ≡ Some s) × (slice_get new r ≡ Some t) × R s t

    pair : (new : List (List ℕ)) (r : ℕ) (R : List ℕ → List ℕ → Type 0) → r < length old → RowAt old new r R → Pair new r R
    pair new r R b c =
        let u = get_within old r b in
        let v = get_within new r (subst (λ (n : ℕ). r < n) (sym c.count) b) in
        (u.0, v.0, u.1, v.1, c.here u.0 v.0 u.1 v.1)

    there : i < length old
    there = subst (λ (n : ℕ). i < n) (sym keeps.count) moves.there

    -- ---- a message that is taken

    module _ (new : List (List ℕ)) (is : kind ≡ ahead.Take) (count : length next.actors ≡ length here.actors) (one : waiting_for here i ≡ suc (waiting_for next i)) (rest : (a : ℕ) → a ≢ i → waiting_for next a ≡ waiting_for here a)
        (takes : RowAt old new i (λ s t. t ≡ drop 1 s)) where
      got : Pair new i (λ s t. t ≡ drop 1 s)
      got = pair new i _ there takes

      one_less : (s : List ℕ) (n : ℕ) → length s ≡ suc n → length (drop 1 s) ≡ n
      one_less [] n e = absurd (omega (arith, e))
      one_less (x ∷ xs) n e = omega (arith, e)

      got_row : RowKeeps core list (suc k) i got.1
      got_row =
          let h = keeps.row i got.0 got.2 in
          record {
            waits = ap (λ (s : List ℕ). length s) got.4 ∙ one_less got.0 (waiting_for next i) (h.waits ∙ one);
            sent = λ n m e.
                let old_place : slice_get got.0 (1 + n) ≡ Some m = sym (get_drop got.0 1 n) ∙ ap (λ (s : List ℕ). slice_get s n) (sym got.4) ∙ e in
                let b = get_below got.0 (1 + n) m old_place in
                let w = h.waits in
                let same : taken_before core list (suc k) i + n ≡ taken_before core list k i + (1 + n) = ap (λ (t : ℕ). t + n) (taken_own core list k i moves is) ∙ shifted (taken_before core list k i) n in
                subst (λ (t : ℕ). SentBefore core list (suc k) i t m) (sym same) (old_sent i (taken_before core list k i + (1 + n)) m (omega (arith, b, w)) (h.sent (1 + n) m old_place));
          }
        where
          shifted : (t n : ℕ) → suc t + n ≡ t + (1 + n)
          shifted t n = omega arith

      take_row : (a : ℕ) (t : List ℕ) → slice_get new a ≡ Some t → RowKeeps core list (suc k) a t
      take_row a t e =
          elim (eqb_tells a i) [
            | inl s ↦ subst (λ (z : ℕ). RowKeeps core list (suc k) z t) (sym s.1) (subst (RowKeeps core list (suc k) i) (same_Some got.1 t (sym got.3 ∙ ap (slice_get new) (sym s.1) ∙ e)) got_row)
            | inr s ↦ same_row a t (keeps.row a t (sym (takes.others a s.1) ∙ e)) (taken_other core list k i a moves s.1) (rest a s.1)
          ]

      take_posts : PostsKeep core list (suc k) new
      take_posts = record { count = takes.count ∙ keeps.count ∙ sym count; row = take_row }

    -- ---- a message that is sent

    module _ (new : List (List ℕ)) (none : (a : ℕ) → taken_before core list (suc k) a ≡ taken_before core list k a) (r : ℕ) (to : receiver_of core here i ≡ Some r) (count : length next.actors ≡ length here.actors) (b : r < length here.actors)
        (one : waiting_for next r ≡ suc (waiting_for here r)) (rest : (a : ℕ) → a ≢ r → waiting_for next a ≡ waiting_for here a) (place : ℕ) (at : place ≡ suc k) (puts : RowAt old new r (λ s t. t ≡ s ++ place ∷ [])) where
      put : Pair new r (λ s t. t ≡ s ++ place ∷ [])
      put = pair new r _ (subst (λ (n : ℕ). r < n) (sym keeps.count) b) puts

      one_more : (s : List ℕ) (n : ℕ) → length (s ++ n ∷ []) ≡ suc (length s)
      one_more [] n = refl
      one_more (x ∷ xs) n = ap suc (one_more xs n)

      put_row : RowKeeps core list (suc k) r put.1
      put_row =
          let h = keeps.row r put.0 put.2 in
          record {
            waits = ap (λ (s : List ℕ). length s) put.4 ∙ one_more put.0 place ∙ ap suc h.waits ∙ sym one;
            sent = λ n m e.
                elim (get_push put.0 place n m (ap (λ (s : List ℕ). slice_get s n) (sym put.4) ∙ e)) [
                  | inl x ↦ old_row r put.0 h (none r) n m x
                  | inr x ↦
                      let number : taken_before core list (suc k) r + n ≡ total core list k r = ap (λ (t : ℕ). t + n) (none r) ∙ ap (λ (t : ℕ). taken_before core list k r + t) (x.0 ∙ h.waits) in
                      subst (λ (t : ℕ). SentBefore core list (suc k) r t m) (sym number) (subst (SentBefore core list (suc k) r (total core list k r)) (sym at ∙ x.1) (now_sent r to))
                ];
          }

      send_row : (a : ℕ) (t : List ℕ) → slice_get new a ≡ Some t → RowKeeps core list (suc k) a t
      send_row a t e =
          elim (eqb_tells a r) [
            | inl s ↦ subst (λ (z : ℕ). RowKeeps core list (suc k) z t) (sym s.1) (subst (RowKeeps core list (suc k) r) (same_Some put.1 t (sym put.3 ∙ ap (slice_get new) (sym s.1) ∙ e)) put_row)
            | inr s ↦ same_row a t (keeps.row a t (sym (puts.others a s.1) ∙ e)) (none a) (rest a s.1)
          ]

      send_posts : PostsKeep core list (suc k) new
      send_posts = record { count = puts.count ∙ keeps.count ∙ sym count; row = send_row }

    -- ---- a new actor

    module _ (new : List (List ℕ)) (none : (a : ℕ) → taken_before core list (suc k) a ≡ taken_before core list k a) (to : receiver_of core here i ≡ Some (length here.actors)) (count : length next.actors ≡ suc (length here.actors))
        (one : waiting_for next (length here.actors) ≡ 1) (rest : (a : ℕ) → a ≢ length here.actors → waiting_for next a ≡ waiting_for here a) (place : ℕ) (at : place ≡ suc k) (born : new ≡ old ++ (place ∷ []) ∷ []) where
      nobody_waits : waiting_for here (length here.actors) ≡ 0
      nobody_waits = ap waiting_of (none_behind here.actors (length here.actors) (no_less (length here.actors)))
        where
          no_less : (n : ℕ) → n ≤ n
          no_less n = omega arith

      born_sent : (n m : ℕ) → slice_get (place ∷ []) n ≡ Some m → SentBefore core list (suc k) (length here.actors) (taken_before core list (suc k) (length here.actors) + n) m
      born_sent zero m e =
          let number : taken_before core list (suc k) (length here.actors) + 0 ≡ total core list k (length here.actors) =
          ap (λ (t : ℕ). t + 0) (none (length here.actors)) ∙ ap (λ (t : ℕ). taken_before core list k (length here.actors) + t) (sym nobody_waits)
          in
          subst (λ (t : ℕ). SentBefore core list (suc k) (length here.actors) t m) (sym number)
          (subst (SentBefore core list (suc k) (length here.actors) (total core list k (length here.actors))) (sym at ∙ same_Some place m e) (now_sent (length here.actors) to))
      born_sent (suc n) m e = absurd (none-some m e)

      born_row : RowKeeps core list (suc k) (length here.actors) (place ∷ [])
      born_row = record { waits = sym one; sent = born_sent }

      spawn_row : (a : ℕ) (t : List ℕ) → slice_get (old ++ (place ∷ []) ∷ []) a ≡ Some t → RowKeeps core list (suc k) a t
      spawn_row a t e =
          elim (get_push old (place ∷ []) a t e) [
            | inl x ↦
                let b = get_below old a t x in
                same_row a t (keeps.row a t x) (none a) (rest a (λ z. apart a (length old) (length here.actors) b keeps.count z))
            | inr x ↦ subst (λ (z : ℕ). RowKeeps core list (suc k) z t) (sym (x.0 ∙ keeps.count)) (subst (RowKeeps core list (suc k) (length here.actors)) x.1 born_row)
          ]
        where
          apart : (a n m : ℕ) → a < n → n ≡ m → a ≡ m → ⊥
          apart a n m l e f = omega (arith, l, e, f)

      spawn_posts : PostsKeep core list (suc k) new
      spawn_posts = record {
        count = ap (λ (l : List (List ℕ)). length l) born ∙ one_longer old (place ∷ []) ∙ ap suc keeps.count ∙ sym count;
        row = λ a t e. spawn_row a t (ap (λ (l : List (List ℕ)). slice_get l a) (sym born) ∙ e);
      }
        where
          one_longer : (ls : List (List ℕ)) (l : List ℕ) → length (ls ++ l ∷ []) ≡ suc (length ls)
          one_longer [] l = refl
          one_longer (x ∷ xs) l = ap suc (one_longer xs l)

    -- ---- every kind

    takes_none : (h : Ahead) → is_take h ≡ false → kind ≡ h → (a : ℕ) → taken_before core list (suc k) a ≡ taken_before core list k a
    takes_none h e is a = taken_none core list k i a moves (ap is_take is ∙ e)

    posted_by : (h : Ahead) → kind ≡ h → Boxes here next i h → (place : ℕ) → place ≡ suc k → (new : List (List ℕ)) → Posted h i place old new → PostsKeep core list (suc k) new
    posted_by ahead.Take is b place at new p = take_posts new is b.0 b.1 b.2 p
    posted_by (ahead.Send r) is b place at new p = send_posts new (takes_none (ahead.Send r) refl is) r (ap (receiver_by here) is) b.0 b.1 b.2 b.3 place at p
    posted_by ahead.Spawn is b place at new p = spawn_posts new (takes_none ahead.Spawn refl is) (ap (receiver_by here) is) b.0 b.1 b.2 place at p
    posted_by ahead.Task is b place at new p =
        subst (PostsKeep core list (suc k)) (sym p) (record { count = keeps.count ∙ sym b.0; row = λ a s e. same_row a s (keeps.row a s e) (takes_none ahead.Task refl is a) (b.1 a) })
    posted_by ahead.Skipped is b place at new p = absurd b
    posted_by ahead.Lacks is b place at new p = absurd b
    posted_by ahead.TooLong is b place at new p = absurd b

    pub posts_event : (place : ℕ) → place ≡ suc k → (new : List (List ℕ)) → Posted (ahead_of core here i) i place old new → PostsKeep core list (suc k) new
    posts_event place at new p = posted_by kind refl moves.boxes place at new p

    -- ---- the rows that it needs

    row_by : (h : Ahead) → Boxes here next i h → HasRow h i old
    row_by ahead.Take b = there
    row_by (ahead.Send r) b = subst (λ (n : ℕ). r < n) (sym keeps.count) b.1
    row_by ahead.Spawn b = tt
    row_by ahead.Task b = tt
    row_by ahead.Skipped b = tt
    row_by ahead.Lacks b = tt
    row_by ahead.TooLong b = tt

    pub has_row : HasRow (ahead_of core here i) i old
    has_row = row_by kind moves.boxes

    -- ---- where the message that is taken was sent

    sent_by : (m : ℕ) → kind ≡ ahead.Take → SentBefore core list k i (taken_before core list k i + 0) m → SentAt core list k m
    sent_by zero is h = λ p c.
        let same : c.receiver ≡ i = one_actor core list k c.receiver i c.takes ev in
        let message : taken_before core list k i + 0 ≡ total core list p i = no_more (taken_before core list k i) ∙ subst (λ (z : ℕ). taken_before core list k z ≡ total core list p z) same c.message in
        h p c.later (record { sender = c.sender; puts = c.puts; to = subst (λ (z : ℕ). receiver_of core (at_place core list p) c.sender ≡ Some z) same c.to; number = message })
      where
        no_more : (n : ℕ) → n + 0 ≡ n
        no_more n = omega arith
    sent_by (suc e) is h = record {
      sender = h.1.sender;
      receiver = i;
      puts = h.1.puts;
      to = h.1.to;
      takes = ev;
      take = is;
      later = h.0;
      message = no_less (taken_before core list k i) ∙ h.1.number;
    }
      where
        no_less : (n : ℕ) → n ≡ n + 0
        no_less n = omega arith

    first_sent : (s : List ℕ) → RowKeeps core list k i s → (n : ℕ) → length s ≡ suc n → SentBefore core list k i (taken_before core list k i + 0) (first_of s)
    first_sent [] h n e = absurd (omega (arith, e))
    first_sent (m ∷ ms) h n e = h.sent 0 m refl

    taking : (h : Ahead) → kind ≡ h → h ≡ ahead.Take → Boxes here next i h → SentAt core list k (first_row (slice_get old i))
    taking ahead.Take is e b =
        let w = get_within old i there in
        let row = keeps.row i w.0 w.1 in
        subst (λ (o : Option (List ℕ)). SentAt core list k (first_row o)) (sym w.1) (sent_by (first_of w.0) is (first_sent w.0 row (waiting_for next i) (row.waits ∙ b.1)))
    taking (ahead.Send r) is e b = absurd (send_take r e)
    taking ahead.Spawn is e b = absurd (spawn_take e)
    taking ahead.Task is e b = absurd (task_take e)
    taking ahead.Skipped is e b = absurd b
    taking ahead.Lacks is e b = absurd b
    taking ahead.TooLong is e b = absurd b

    pub taken_at : ahead_of core here i ≡ ahead.Take → SentAt core list k (first_row (slice_get old i))
    taken_at is = taking kind refl is moves.boxes

-- ---- the result of taking from a row

module _ (old new : List (List ℕ)) (i r : ℕ) (c : RowAt old new i (λ s t. (r ≡ first_of s) × (t ≡ drop 1 s))) where
  pub row_taken : i < length old → r ≡ first_row (slice_get old i)
  row_taken b =
      let u = get_within old i b in
      let v = get_within new i (subst (λ (n : ℕ). i < n) (sym c.count) b) in
      (c.here u.0 v.0 u.1 v.1).0 ∙ ap first_row (sym u.1)

  pub row_rest : RowAt old new i (λ s t. t ≡ drop 1 s)
  row_rest = record { count = c.count; here = λ s t e f. (c.here s t e f).1; others = c.others }
