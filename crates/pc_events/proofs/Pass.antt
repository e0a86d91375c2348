-- Two changes of different actors commute.
use Rattle.std.specs.Prelude.{◌≡◌, ◌≢◌, ◌<◌, ℕ, Bool, true, false, List, [], ◌∷◌, ◌++◌, length, Option, Some, None, slice_get, refl, ⊤}
use Rattle.std.proofs.Common.{ap, sym, subst, ◌∙◌}
use Rattle.pc_semantics.specs.{declared.actors.Actor.Actor, declared.frames.Frame.Frame, declared.mailbox.Message.Message}
use Rattle.pc_events.proofs.{Changes.{changed, behind, left_mail, going, pushing, born, sent, spawned, printed_with, Change, acted}, Lists.{length_changed, get_unchanged, changes_pass, changed_front}}

-- A message waits for the actor if one is taken.
abbrev pub Waits : List Actor → ℕ → Bool → Type 0
Waits l j false = ⊤
Waits l j true = (a : Actor) → slice_get l j ≡ Some a → (m : Message) × (ms : List Message) × (a.mailbox ≡ m ∷ ms)

waits_still : (l : List Actor) (i j : ℕ) (g : Actor → Actor) → j ≢ i → (t : Bool) → Waits l j t → Waits (changed l i g) j t
waits_still l i j g n false w = tt
waits_still l i j g n true w = λ a e. w a (sym (get_unchanged l i g j n) ∙ e)

behind_push : (m : Message) (ms ns : List Message) → behind ((m ∷ ms) ++ ns) ≡ behind (m ∷ ms) ++ ns
behind_push m ms ns = refl

mail_push : (l : List Actor) (j : ℕ) (t : Bool) → Waits l j t → (a : Actor) → slice_get l j ≡ Some a → (m : Message) → left_mail t (a.mailbox ++ m ∷ []) ≡ left_mail t a.mailbox ++ m ∷ []
mail_push l j false w a e m = refl
mail_push l j true w a e m =
    let h = w a e in
    ap (λ (ms : List Message). behind (ms ++ m ∷ [])) h.2 ∙ behind_push h.0 h.1 (m ∷ []) ∙ sym (ap (λ (ms : List Message). behind ms ++ m ∷ []) h.2)

-- What an actor does, and what is sent.
sent_pass : (o : Option (ℕ × Message)) (l : List Actor) (j : ℕ) (t : Bool) (fs : List Frame) → Waits l j t → changed (sent o l) j (going t fs) ≡ sent o (changed l j (going t fs))
sent_pass None l j t fs w = refl
sent_pass (Some p) l j t fs w =
    changes_pass l p.0 j (pushing p.1) (going t fs) (λ a e s.
    ap (λ (ms : List Message). record { mailbox = ms; frames = fs }) (mail_push l j t w a (subst (λ (k : ℕ). slice_get l k ≡ Some a) s e) p.1))

abbrev pub OtherBoxes : Option (ℕ × Message) → Option (ℕ × Message) → Type 0
OtherBoxes None q = ⊤
OtherBoxes (Some p) None = ⊤
OtherBoxes (Some p) (Some q) = p.0 ≢ q.0

sends_pass : (o p : Option (ℕ × Message)) (l : List Actor) → OtherBoxes o p → sent p (sent o l) ≡ sent o (sent p l)
sends_pass None p l d = refl
sends_pass (Some o) None l d = refl
sends_pass (Some o) (Some p) l d = changes_pass l o.0 p.0 (pushing o.1) (pushing p.1) (λ a e s. absurd (d s))

pub acted_pass : (l : List Actor) (i j : ℕ) (x y : Change) → i ≢ j → Waits l i x.takes → Waits l j y.takes → OtherBoxes x.sends y.sends → acted j y (acted i x l) ≡ acted i x (acted j y l)
acted_pass l i j x y n wi wj d =
    let gx : Actor → Actor = going x.takes x.frames in
    let gy : Actor → Actor = going y.takes y.frames in
    ap (sent y.sends) (sent_pass x.sends (changed l i gx) j y.takes y.frames (waits_still l i j gx (λ e. n (sym e)) y.takes wj))
    ∙ sends_pass x.sends y.sends (changed (changed l i gx) j gy) d
    ∙ ap (λ (m : List Actor). sent x.sends (sent y.sends m)) (changes_pass l i j gx gy (λ a e s. absurd (n s)))
    ∙ ap (sent x.sends) (sym (sent_pass y.sends (changed l j gy) i x.takes x.frames (waits_still l j i gy n x.takes wi)))

-- ---- one actor more

abbrev pub Within : List Actor → Option (ℕ × Message) → Type 0
Within l None = ⊤
Within l (Some p) = p.0 < length l

pub length_sent : (o : Option (ℕ × Message)) (l : List Actor) → length (sent o l) ≡ length l
length_sent None l = refl
length_sent (Some p) l = length_changed l p.0 (pushing p.1)

pub length_acted : (i : ℕ) (x : Change) (l : List Actor) → length (acted i x l) ≡ length l
length_acted i x l = length_sent x.sends (changed l i (going x.takes x.frames)) ∙ length_changed l i (going x.takes x.frames)

sent_front : (o : Option (ℕ × Message)) (l m r : List Actor) → Within l o → length m ≡ length l → sent o (m ++ r) ≡ sent o m ++ r
sent_front None l m r w e = refl
sent_front (Some p) l m r w e = changed_front m r p.0 (pushing p.1) (subst (λ (k : ℕ). p.0 < k) (sym e) w)

acted_front : (i : ℕ) (x : Change) (l m r : List Actor) → i < length l → Within l x.sends → length m ≡ length l → acted i x (m ++ r) ≡ acted i x m ++ r
acted_front i x l m r b w e =
    let g : Actor → Actor = going x.takes x.frames in
    ap (sent x.sends) (changed_front m r i g (subst (λ (k : ℕ). i < k) (sym e) b)) ∙ sent_front x.sends l (changed m i g) r w (length_changed m i g ∙ e)

abbrev pub NotBoth : Option Message → Option Message → Type 0
NotBoth None q = ⊤
NotBoth (Some p) None = ⊤
NotBoth (Some p) (Some q) = ⊥

module _ (l : List Actor) (i j : ℕ) (x y : Change) (n : i ≢ j) (bi : i < length l) (bj : j < length l) (wi : Waits l i x.takes) (wj : Waits l j y.takes) (sx : Within l x.sends) (sy : Within l y.sends) (d : OtherBoxes x.sends y.sends) where
  pass : acted j y (acted i x l) ≡ acted i x (acted j y l)
  pass = acted_pass l i j x y n wi wj d

  pub actors_pass : (p q : Option Message) → NotBoth p q → spawned q (acted j y (spawned p (acted i x l))) ≡ spawned p (acted i x (spawned q (acted j y l)))
  actors_pass None None b = pass
  actors_pass None (Some m) b = ap (λ (k : List Actor). k ++ born m ∷ []) pass ∙ sym (acted_front i x l (acted j y l) (born m ∷ []) bi sx (length_acted j y l))
  actors_pass (Some m) None b = acted_front j y l (acted i x l) (born m ∷ []) bj sy (length_acted i x l) ∙ ap (λ (k : List Actor). k ++ born m ∷ []) pass
  actors_pass (Some m) (Some k) b = absurd b

-- ---- printed texts

abbrev pub NotBothPrint : Option (List ℕ) → Option (List ℕ) → Type 0
NotBothPrint None q = ⊤
NotBothPrint (Some p) None = ⊤
NotBothPrint (Some p) (Some q) = ⊥

pub prints_pass : (p q : Option (List ℕ)) (l : List (List ℕ)) → NotBothPrint p q → printed_with q (printed_with p l) ≡ printed_with p (printed_with q l)
prints_pass None q l b = refl
prints_pass (Some p) None l b = refl
prints_pass (Some p) (Some q) l b = absurd b
