-- A rule against its conditions: the rule applies iff none of the conditions fails.
use Rattle.std.specs.Prelude.{◌≡◌, Bool, true, false, ◌&&◌, List, [], ◌∷◌, ◌++◌, Option, Some, None, if◌then◌else◌, refl}
use Rattle.std.proofs.{Common.{sym, subst}, lemmas.Option.none-some}
use Rattle.pc_ann.specs.declared.annotation.Note.{Note}
use Rattle.pc_valid.specs.Words.{Ty, Masks}
use Rattle.pc_base.specs.Lists.{◌>>=◌}
use Rattle.pc_base.proofs.Bools.{false_true}
use Rattle.pc_explain_conditions.specs.{Failing.first_false, declared.condition.Condition.Condition}

-- It applies and nothing fails, or it does not apply and something fails.
abbrev pub Opposed : {A : Type 0} → Option A → Option Condition → Type 0
Opposed (Some q) None = Unit {0}
Opposed None (Some c) = Unit {0}
Opposed s f = ⊥

-- The same for a test.
abbrev pub Agrees : Bool → Option Condition → Type 0
Agrees true None = Unit {0}
Agrees false (Some c) = Unit {0}
Agrees b f = ⊥

-- A note with another type.
abbrev pub typed : Note → Option Ty → Note
typed t o = record { rule = t.rule; ty = o; live_before = t.live_before; set_before = t.set_before; live_after = t.live_after; set_after = t.set_after }

-- ---- what is there

pub says_some : {A : Type 0} → (s : Option A) (q : A) → s ≡ Some q → Opposed s None
says_some (Some p) q e = tt
says_some None q e = absurd (none-some q e)

pub goes_through : {A : Type 0} → (o : Option Masks) (n : Masks) (g : Masks → A) → o ≡ Some n → Opposed (o >>= λ k. Some (g k)) None
goes_through (Some k) n g e = tt
goes_through None n g e = absurd (none-some n e)

pub is_some : {A : Type 0} → (s : Option A) (q : A) → s ≡ Some q → (P : Option A → Type 0) → P (Some q) → P s
is_some s q e P p = subst P (sym e) p

-- ---- a test before the rest

pub asks_if : {A : Type 0} → (b : Bool) (s : Option A) (f : Option Condition) (c : Condition) → Opposed s f → Opposed (if b then s else None) (if b then f else Some c)
asks_if true s f c h = h
asks_if false s f c h = tt

pub asks_two : {A : Type 0} → (a b : Bool) (s : Option A) (f : Option Condition) (c d : Condition) → Opposed s f → Opposed (if a && b then s else None) (if a then (if b then f else Some d) else Some c)
asks_two true true s f c d h = h
asks_two true false s f c d h = tt
asks_two false b s f c d h = tt

pub if_true : {A : Type 0} → (b : Bool) (s : Option A) (f : Option Condition) → b ≡ true → Opposed s f → Opposed (if b then s else None) f
if_true true s f e h = h
if_true false s f e h = absurd (false_true e)

pub if_false : {A : Type 0} → (b : Bool) (s : Option A) (f : Option Condition) → b ≡ false → Opposed s f → Opposed (if b then None else s) f
if_false false s f e h = h
if_false true s f e h = absurd (false_true (sym e))

-- ---- lists of conditions

pub asks_true : {A : Type 0} → (h : Condition → Bool) (c : Condition) (cs : List Condition) (s : Option A) → h c ≡ true → Opposed s (first_false h cs) → Opposed s (first_false h (c ∷ cs))
asks_true h c cs s e o = subst (λ b. Opposed s (if b then first_false h cs else Some c)) (sym e) o

pub asks_false : {A : Type 0} → (h : Condition → Bool) (c : Condition) (cs : List Condition) (s : Option A) → h c ≡ false → s ≡ None → Opposed s (first_false h (c ∷ cs))
asks_false h c cs s e n = subst (λ b. Opposed s (if b then first_false h cs else Some c)) (sym e) (subst (λ t. Opposed t (Some c)) (sym n) tt)

-- A list before the rest, which agrees with a test.
asks_more : {A : Type 0} → (t : Bool) (f g : Option Condition) (c : Condition) (b : Bool) (s : Option A) → Agrees b (if t then f else Some c) → (b ≡ false → s ≡ None) → (Agrees b f → Opposed s g) → Opposed s (if t then g else Some c)
asks_more true f g c b s a never rest = rest a
asks_more false f g c true s a never rest = absurd a
asks_more false f g c false s a never rest = subst (λ t. Opposed t (Some c)) (sym (never refl)) tt

pub asks_all : {A : Type 0} → (h : Condition → Bool) (cs ds : List Condition) (b : Bool) (s : Option A) → Agrees b (first_false h cs) → (b ≡ false → s ≡ None) → (b ≡ true → Opposed s (first_false h ds)) → Opposed s (first_false h (cs ++ ds))
asks_all h [] ds true s a never more = more refl
asks_all h [] ds false s a never more = absurd a
asks_all h (c ∷ cs) ds b s a never more = asks_more (h c) (first_false h cs) (first_false h (cs ++ ds)) c b s a never (λ e. asks_all h cs ds b s e never more)

-- ---- in both directions

pub opposed_none : {A : Type 0} → (s : Option A) (f : Option Condition) → Opposed s f → s ≡ None → (c : Condition) × (f ≡ Some c)
opposed_none None (Some c) h e = (c, refl)
opposed_none None None h e = absurd h
opposed_none (Some q) f h e = absurd (none-some q (sym e))

pub opposed_fails : {A : Type 0} → (s : Option A) (f : Option Condition) (c : Condition) → Opposed s f → f ≡ Some c → s ≡ None
opposed_fails None f c h e = refl
opposed_fails (Some q) None c h e = absurd (none-some c e)
opposed_fails (Some q) (Some d) c h e = absurd h

pub opposed_some : {A : Type 0} → (s : Option A) (f : Option Condition) (q : A) → Opposed s f → s ≡ Some q → f ≡ None
opposed_some (Some p) None q h e = refl
opposed_some (Some p) (Some c) q h e = absurd h
opposed_some None f q h e = absurd (none-some q e)

pub opposed_holds : {A : Type 0} → (s : Option A) (f : Option Condition) → Opposed s f → f ≡ None → (q : A) × (s ≡ Some q)
opposed_holds (Some q) f h e = (q, refl)
opposed_holds None None h e = absurd h
opposed_holds None (Some c) h e = absurd (none-some c (sym e))
