-- A play is added to the entries of others.
use Rattle.std.proofs.{Common.{◌≡◌, ℕ, zero, suc, ◌+◌, ◌<◌, ◌≤◌, Bool, true, false, cond, List, [], ◌∷◌, ◌++◌, length, take, get_or, Option, Some, None, refl, sym, ap, ◌∙◌, arith}, lemmas.Bool.{and_parts, false≢true, or_right}, lemmas.List.{take-append-le, take_at}, lemmas.List.Folds.list_any-append, lemmas.List.Sums.{sum_by_push, sum_by-cons}, lemmas.Slice.Eq.bytes_eq-Decides}
use Rattle.std.specs.{Prelude.{◌&&◌, ◌||◌, IsSomeAnd, slice_get, slice_set}, List.{AllByRecursion, count_by, list_any}, Str.bytes_eq}
use Rattle.pc_outcomes.specs.{declared.entry.Ending.Ending, declared.entry.Ending.TheVariants.{Done, Cut, TooLong}, declared.entry.Entry.Entry, declared.entry.Play.Play, Plays.{has_outcome, same_ending}, Tables.{shows_outcome, IsFirstPlay, IsEntry, Ascend, HasOtherOutcome, AllDiffer, AreEntries, total_texts}, Under.{one_more, entry_of}}

-- ---- outcomes

ending_is : (a b : Ending) → same_ending a b ≡ true → a ≡ b
ending_is Done Done e = refl
ending_is Cut Cut e = refl
ending_is TooLong TooLong e = refl
ending_is Done Cut e = absurd (false≢true e)
ending_is Done TooLong e = absurd (false≢true e)
ending_is Cut Done e = absurd (false≢true e)
ending_is Cut TooLong e = absurd (false≢true e)
ending_is TooLong Done e = absurd (false≢true e)
ending_is TooLong Cut e = absurd (false≢true e)

pub ending_self : (a : Ending) → same_ending a a ≡ true
ending_self Done = refl
ending_self Cut = refl
ending_self TooLong = refl

text_self : (t : List ℕ) → bytes_eq t t ≡ true
text_self t = (bytes_eq-Decides t t).1 refl

pub outcome_is : (t : List ℕ) (a : Ending) (p : Play) → has_outcome t a p ≡ true → (t ≡ p.text) × (a ≡ p.ending)
outcome_is t a p h =
    let both = and_parts (bytes_eq t p.text) (same_ending a p.ending) h in
    ((bytes_eq-Decides t p.text).0 both.0, ending_is a p.ending both.1)

self : (p : Play) → has_outcome p.text p.ending p ≡ true
self p = ap (λ (b : Bool). b && same_ending p.ending p.ending) (text_self p.text) ∙ ending_self p.ending

-- of plays with one outcome an entry shows both or none
same_shown : (e : Entry) (p q : Play) → p.text ≡ q.text → p.ending ≡ q.ending → shows_outcome e p ≡ shows_outcome e q
same_shown e p q t a = ap (λ (x : List ℕ). bytes_eq e.text x && same_ending e.ending p.ending) t ∙ ap (λ (x : Ending). bytes_eq e.text q.text && same_ending e.ending x) a

any_same : (es : List Entry) (p q : Play) → p.text ≡ q.text → p.ending ≡ q.ending
    → list_any (λ e. shows_outcome e p) es ≡ list_any (λ e. shows_outcome e q) es
any_same es p q t a =
    ap (λ (x : List ℕ). list_any (λ (e : Entry). bytes_eq e.text x && same_ending e.ending p.ending) es) t
    ∙ ap (λ (x : Ending). list_any (λ (e : Entry). bytes_eq e.text q.text && same_ending e.ending x) es) a

-- ---- lists

some_map : {X : Type 0} (P Q : X → Type 0) → ((x : X) → P x → Q x) → (o : Option X) → IsSomeAnd o P → IsSomeAnd o Q
some_map P Q f None s = absurd s
some_map P Q f (Some x) s = f x s

all_map : {X : Type 0} (P Q : X → Type 0) → ((x : X) → P x → Q x) → (xs : List X) → AllByRecursion P xs → AllByRecursion Q xs
all_map P Q f [] a = tt
all_map P Q f (x ∷ xs) a = (f x a.0, all_map P Q f xs a.1)

all_push : {X : Type 0} (P : X → Type 0) (xs : List X) (y : X) → AllByRecursion P xs → P y → AllByRecursion P (xs ++ y ∷ [])
all_push P [] y a b = (b, tt)
all_push P (x ∷ xs) y a b = (a.0, all_push P xs y a.1 b)

some_within : {X : Type 0} (P : X → Type 0) (xs : List X) (i : ℕ) → IsSomeAnd (slice_get xs i) P → i < length xs
some_within P [] i s = absurd s
some_within P (x ∷ xs) zero s = omega arith
some_within P (x ∷ xs) (suc i) s = let r = some_within P xs i s in omega (arith, r)

some_push : {X : Type 0} (P : X → Type 0) (xs : List X) (y : X) (i : ℕ) → IsSomeAnd (slice_get xs i) P → IsSomeAnd (slice_get (xs ++ y ∷ []) i) P
some_push P [] y i s = absurd s
some_push P (x ∷ xs) y zero s = s
some_push P (x ∷ xs) y (suc i) s = some_push P xs y i s

some_last : {X : Type 0} (P : X → Type 0) (xs : List X) (y : X) → P y → IsSomeAnd (slice_get (xs ++ y ∷ []) (length xs)) P
some_last P [] y b = b
some_last P (x ∷ xs) y b = some_last P xs y b

-- ---- one play more

module _ (ps : List Play) (p : Play) where
  count_push : (q : Play → Bool) → count_by q (ps ++ p ∷ []) ≡ count_by q ps + cond (q p) 1 0
  count_push q = sum_by_push (λ (x : Play). cond (q x) 1 0) ps p

  module _ (e : Entry) (is : IsEntry ps e) where
    within : e.seed < length ps
    within = some_within (IsFirstPlay e) ps e.seed is.first

    none_yet : count_by (shows_outcome e) (take e.seed (ps ++ p ∷ [])) ≡ 0
    none_yet = let l = within in ap (count_by (shows_outcome e)) (take-append-le e.seed ps (p ∷ []) (omega (arith, l))) ∙ is.none_before

    other : shows_outcome e p ≡ false → IsEntry (ps ++ p ∷ []) e
    other f = record {
      first = some_push (IsFirstPlay e) ps p e.seed is.first;
      none_before = none_yet;
      number = let n = is.number in let m =
          count_push (shows_outcome e) ∙ ap (λ (b : Bool). count_by (shows_outcome e) ps + cond b 1 0) f in omega (arith, n, m);
    }

    again : shows_outcome e p ≡ true → IsEntry (ps ++ p ∷ []) (one_more e)
    again t = record {
      first = some_push (IsFirstPlay (one_more e)) ps p e.seed (some_map (IsFirstPlay e) (IsFirstPlay (one_more e)) (λ x i. record { text = i.text; ending = i.ending; steps = i.steps }) (slice_get ps e.seed) is.first);
      none_before = none_yet;
      number = let n = is.number in let m =
          count_push (shows_outcome e) ∙ ap (λ (b : Bool). count_by (shows_outcome e) ps + cond b 1 0) t in omega (arith, n, m);
    }

  -- ---- an entry shows it

  abbrev pub counted : List Entry → List Entry
  counted [] = []
  counted (e ∷ es) = cond (shows_outcome e p) (one_more e ∷ es) (e ∷ counted es)

  one_outcome : (e f : Entry) → shows_outcome e p ≡ true → shows_outcome f p ≡ true → has_outcome e.text e.ending (record { text = f.text; ending = f.ending; steps = f.steps }) ≡ true
  one_outcome e f t h = let b = outcome_is f.text f.ending p h in same_shown e (record { text = f.text; ending = f.ending; steps = f.steps }) p b.0 b.1 ∙ t

  not_both : (e f : Entry) → shows_outcome e p ≡ true → HasOtherOutcome e f → (b : Bool) → shows_outcome f p ≡ b → shows_outcome f p ≡ false
  not_both e f t d false h = h
  not_both e f t d true h = absurd (false≢true (sym d ∙ one_outcome e f t h))

  differs_not : (e f : Entry) → shows_outcome e p ≡ true → HasOtherOutcome e f → shows_outcome f p ≡ false
  differs_not e f t d = not_both e f t d (shows_outcome f p) refl

  others : (e : Entry) → shows_outcome e p ≡ true → (fs : List Entry) → AllByRecursion (IsEntry ps) fs → AllByRecursion (HasOtherOutcome e) fs → AllByRecursion (IsEntry (ps ++ p ∷ [])) fs
  others e h [] is d = tt
  others e h (f ∷ fs) is d = (other f is.0 (differs_not e f h d.0), others e h fs is.1 d.1)

  each_here : (e : Entry) (es : List Entry) (more : AllDiffer es → list_any (λ f. shows_outcome f p) es ≡ true → AllByRecursion (IsEntry (ps ++ p ∷ [])) (counted es)) → IsEntry ps e → AllByRecursion (IsEntry ps) es → AllDiffer (e ∷ es)
      → (b : Bool) → shows_outcome e p ≡ b → (b || list_any (λ f. shows_outcome f p) es) ≡ true → AllByRecursion (IsEntry (ps ++ p ∷ [])) (cond b (one_more e ∷ es) (e ∷ counted es))
  each_here e es more i is d true h any = (again e i h, others e h es is d.0)
  each_here e es more i is d false h any = (other e i h, more d.1 any)

  each_counted : (es : List Entry) → AllByRecursion (IsEntry ps) es → AllDiffer es → list_any (λ f. shows_outcome f p) es ≡ true → AllByRecursion (IsEntry (ps ++ p ∷ [])) (counted es)
  each_counted [] is d any = absurd (false≢true any)
  each_counted (e ∷ es) is d any = each_here e es (λ d' any'. each_counted es is.1 d' any') is.0 is.1 d (shows_outcome e p) refl any

  any_here : (q : Play) (e : Entry) (es : List Entry) → list_any (λ f. shows_outcome f q) (counted es) ≡ list_any (λ f. shows_outcome f q) es → (b : Bool) → list_any (λ f. shows_outcome f q) (cond b (one_more e ∷ es) (e ∷ counted es)) ≡ (shows_outcome e q || list_any (λ f. shows_outcome f q) es)
  any_here q e es r true = refl
  any_here q e es r false = ap (λ (b : Bool). shows_outcome e q || b) r

  any_counted : (q : Play) (es : List Entry) → list_any (λ f. shows_outcome f q) (counted es) ≡ list_any (λ f. shows_outcome f q) es
  any_counted q [] = refl
  any_counted q (e ∷ es) = any_here q e es (any_counted q es) (shows_outcome e p)

  ascend_here : (low : ℕ) (e : Entry) (es : List Entry) → Ascend low (e ∷ es) → Ascend (e.seed + 1) (counted es) → (b : Bool) → Ascend low (cond b (one_more e ∷ es) (e ∷ counted es))
  ascend_here low e es a r true = a
  ascend_here low e es a r false = (a.0, r)

  ascend_counted : (low : ℕ) (es : List Entry) → Ascend low es → Ascend low (counted es)
  ascend_counted low [] a = tt
  ascend_counted low (e ∷ es) a = ascend_here low e es a (ascend_counted (e.seed + 1) es a.1) (shows_outcome e p)

  all_here : (d e : Entry) (es : List Entry) → AllByRecursion (HasOtherOutcome d) (e ∷ es) → AllByRecursion (HasOtherOutcome d) (counted es) → (b : Bool) → AllByRecursion (HasOtherOutcome d) (cond b (one_more e ∷ es) (e ∷ counted es))
  all_here d e es a r true = a
  all_here d e es a r false = (a.0, r)

  all_counted : (d : Entry) (es : List Entry) → AllByRecursion (HasOtherOutcome d) es → AllByRecursion (HasOtherOutcome d) (counted es)
  all_counted d [] a = tt
  all_counted d (e ∷ es) a = all_here d e es a (all_counted d es a.1) (shows_outcome e p)

  differ_here : (e : Entry) (es : List Entry) → AllDiffer (e ∷ es) → AllDiffer (counted es) → (b : Bool) → AllDiffer (cond b (one_more e ∷ es) (e ∷ counted es))
  differ_here e es a r true = a
  differ_here e es a r false = (all_counted e es a.0, r)

  differ_counted : (es : List Entry) → AllDiffer es → AllDiffer (counted es)
  differ_counted [] a = tt
  differ_counted (e ∷ es) a = differ_here e es a (differ_counted es a.1) (shows_outcome e p)

  texts_here : (e : Entry) (es : List Entry) → total_texts (counted es) ≡ total_texts es → (b : Bool) → total_texts (cond b (one_more e ∷ es) (e ∷ counted es)) ≡ total_texts (e ∷ es)
  texts_here e es r true = sum_by-cons (λ (x : Entry). length x.text) (one_more e) es ∙ sym (sum_by-cons (λ (x : Entry). length x.text) e es)
  texts_here e es r false =
      sum_by-cons (λ (x : Entry). length x.text) e (counted es) ∙ ap (λ (n : ℕ). length e.text + n) r ∙ sym (sum_by-cons (λ (x : Entry). length x.text) e es)

  pub texts_counted : (es : List Entry) → total_texts (counted es) ≡ total_texts es
  texts_counted [] = refl
  texts_counted (e ∷ es) = texts_here e es (texts_counted es) (shows_outcome e p)

  every_counted : (es : List Entry) → list_any (λ f. shows_outcome f p) es ≡ true → AllByRecursion (λ q. list_any (λ f. shows_outcome f q) es ≡ true) ps → AllByRecursion (λ q. list_any (λ f. shows_outcome f q) (counted es) ≡ true) (ps ++ p ∷ [])
  every_counted es any a =
      all_push (λ q. list_any (λ f. shows_outcome f q) (counted es) ≡ true) ps p
      (all_map (λ q. list_any (λ f. shows_outcome f q) es ≡ true) (λ q. list_any (λ f. shows_outcome f q) (counted es) ≡ true)
      (λ q h. any_counted q es ∙ h) ps a)
      (any_counted p es ∙ any)

  pub counted_entries : (es : List Entry) → list_any (λ f. shows_outcome f p) es ≡ true → AreEntries ps es → AreEntries (ps ++ p ∷ []) (counted es)
  counted_entries es any a = record {
    each = each_counted es a.each a.differ any;
    every = every_counted es any a.every;
    ascend = ascend_counted 0 es a.ascend;
    differ = differ_counted es a.differ;
  }

  -- the place of the entry
  set_here : (e : Entry) (es : List Entry) (b : Bool) → shows_outcome e p ≡ b → b ≡ true → one_more e ∷ es ≡ cond (shows_outcome e p) (one_more e ∷ es) (e ∷ counted es)
  set_here e es b h t = ap (λ (x : Bool). cond x (one_more e ∷ es) (e ∷ counted es)) (sym (h ∙ t))

  pub set_counted : (es : List Entry) (j : ℕ) (d : Entry) → j < length es → shows_outcome (get_or es j d) p ≡ true → ((k : ℕ) → k < j → shows_outcome (get_or es k d) p ≡ false) → slice_set es j (one_more (get_or es j d)) ≡ counted es
  set_counted [] j d l h b = absurd (omega (arith, l))
  set_counted (e ∷ es) zero d l h b = ap (λ (x : Bool). cond x (one_more e ∷ es) (e ∷ counted es)) (sym h)
  set_counted (e ∷ es) (suc j) d l h b =
      ap (λ (x : List Entry). e ∷ x) (set_counted es j d (omega (arith, l)) h (λ k m. b (suc k) (omega (arith, m))))
      ∙ ap (λ (x : Bool). cond x (one_more e ∷ es) (e ∷ counted es)) (sym (b 0 (omega arith)))

  -- ---- no entry shows it

  shows_not : (e : Entry) (es : List Entry) (P : Type 0) → (shows_outcome e p ≡ false → list_any (λ f. shows_outcome f p) es ≡ false → P) → (b : Bool) → shows_outcome e p ≡ b → (b || list_any (λ f. shows_outcome f p) es) ≡ false → P
  shows_not e es P f true h n = absurd (false≢true (sym n))
  shows_not e es P f false h n = f h n

  none_shows : (es : List Entry) → AllByRecursion (IsEntry ps) es → list_any (λ f. shows_outcome f p) es ≡ false
      → AllByRecursion (IsEntry (ps ++ p ∷ [])) es
  none_shows [] is none = tt
  none_shows (e ∷ es) is none = shows_not e es (AllByRecursion (IsEntry (ps ++ p ∷ [])) (e ∷ es)) (λ h n. (other e is.0 h, none_shows es is.1 n)) (shows_outcome e p) refl none

  none_here : (es : List Entry) → list_any (λ f. shows_outcome f p) es ≡ false → (q : Play) → list_any (λ f. shows_outcome f q) es ≡ true → (n : ℕ) → n ≡ 0 → (b : Bool) → has_outcome p.text p.ending q ≡ b → cond b 1 0 + n ≡ 0
  none_here es none q any n r false h = omega (arith, r)
  none_here es none q any n r true h = let is = outcome_is p.text p.ending q h in absurd (false≢true (sym none ∙ any_same es p q is.0 is.1 ∙ any))

  none_same : (es : List Entry) → list_any (λ f. shows_outcome f p) es ≡ false → (qs : List Play) → AllByRecursion (λ q. list_any (λ f. shows_outcome f q) es ≡ true) qs → count_by (has_outcome p.text p.ending) qs ≡ 0
  none_same es none [] a = refl
  none_same es none (q ∷ qs) a =
      let r = none_same es none qs a.1 in
      sum_by-cons (λ (x : Play). cond (has_outcome p.text p.ending x) 1 0) q qs ∙ none_here es none q a.0 (count_by (has_outcome p.text p.ending) qs) r (has_outcome p.text p.ending q) refl

  abbrev new : Entry
  new = entry_of (length ps) p

  new_entry : (es : List Entry) → list_any (λ f. shows_outcome f p) es ≡ false → AllByRecursion (λ q. list_any (λ f. shows_outcome f q) es ≡ true) ps → IsEntry (ps ++ p ∷ []) new
  new_entry es none a = record {
    first = some_last (IsFirstPlay new) ps p (record { text = refl; ending = refl; steps = refl });
    none_before = ap (count_by (shows_outcome new)) (take_at ps (p ∷ []) (length ps) refl) ∙ none_same es none ps a;
    number = sym (count_push (shows_outcome new) ∙ ap (λ (n : ℕ). n + cond (has_outcome p.text p.ending p) 1 0) (none_same es none ps a) ∙ ap (λ (b : Bool). 0 + cond b 1 0) (self p));
  }

  any_new : (q : Play) (es : List Entry) → list_any (λ f. shows_outcome f q) es ≡ true → list_any (λ f. shows_outcome f q) (es ++ new ∷ []) ≡ true
  any_new q es h = list_any-append (λ f. shows_outcome f q) es (new ∷ []) ∙ ap (λ (b : Bool). b || list_any (λ f. shows_outcome f q) (new ∷ [])) h

  any_last : (es : List Entry) → list_any (λ f. shows_outcome f p) (es ++ new ∷ []) ≡ true
  any_last [] = ap (λ (b : Bool). b || false) (self p)
  any_last (e ∷ es) = or_right (shows_outcome e p) (list_any (λ f. shows_outcome f p) (es ++ new ∷ [])) (any_last es)

  ascend_new : (low : ℕ) (es : List Entry) → AllByRecursion (IsEntry ps) es → Ascend low es → low ≤ length ps → Ascend low (es ++ new ∷ [])
  ascend_new low [] is a l = (l, tt)
  ascend_new low (e ∷ es) is a l = let w = within e is.0 in (a.0, ascend_new (e.seed + 1) es is.1 a.1 (omega (arith, w)))

  differ_new : (es : List Entry) → list_any (λ f. shows_outcome f p) es ≡ false → AllDiffer es → AllDiffer (es ++ new ∷ [])
  differ_new [] none d = (tt, tt)
  differ_new (e ∷ es) none d = shows_not e es (AllDiffer (e ∷ (es ++ new ∷ []))) (λ h n. (all_push (HasOtherOutcome e) es new d.0 h, differ_new es n d.1)) (shows_outcome e p) refl none

  pub new_entries : (es : List Entry) → list_any (λ f. shows_outcome f p) es ≡ false → AreEntries ps es
      → AreEntries (ps ++ p ∷ []) (es ++ new ∷ [])
  new_entries es none a = record {
    each = all_push (IsEntry (ps ++ p ∷ [])) es new (none_shows es a.each none) (new_entry es none a.every);
    every =
        all_push (λ q. list_any (λ f. shows_outcome f q) (es ++ new ∷ []) ≡ true) ps p
        (all_map (λ q. list_any (λ f. shows_outcome f q) es ≡ true) (λ q. list_any (λ f. shows_outcome f q) (es ++ new ∷ []) ≡ true) (λ q h. any_new q es h) ps a.every)
        (any_last es);
    ascend = ascend_new 0 es a.each a.ascend (omega arith);
    differ = differ_new es none a.differ;
  }

  pub texts_new : (es : List Entry) → total_texts (es ++ new ∷ []) ≡ total_texts es + length p.text
  texts_new es = sum_by_push (λ (x : Entry). length x.text) es new
