-- Waiting arguments, by regions: with the number of its message, each holds the region of its object, or has it frozen.
use Rattle.std.specs.Prelude.{◌≡◌, ◌⊎◌, ℕ, zero, suc, ◌+◌, List, [], ◌∷◌, Option, Some, None, slice_get, refl}
use Rattle.std.proofs.{Common.{inl, inr, ap, sym, subst, ◌∙◌, arith}, lemmas.Option.{same_Some, none-some}}
use Rattle.pc_heap.specs.{declared.value.Address.Address, declared.value.Value.TheVariants.At}
use Rattle.pc_caps.specs.{Tables.unalias, declared.capability.Cap.Cap}
use Rattle.pc_caps.specs.declared.capability.Cap.TheVariants as cap
use Rattle.pc_core.specs.CoreData.{CoreData}
use Rattle.pc_base.proofs.Options.{bind_some}
use Rattle.pc_ann.specs.declared.annotation.Ann.{Ann}
use Rattle.pc_semantics.specs.{declared.actors.Actor.Actor, declared.mailbox.Message.Message, Configurations.Configuration}
use Rattle.pc_regions.proofs.{World.{InMail, World, FitsIn}, Fitting.{MessageFits, MailFits, InRegions}}
use Rattle.pc_isolation.specs.Isolated.{Waits, Inside, SeenFrom}
use Rattle.pc_isolation.proofs.{Mailed.{Mailed, sent, Shown}, Fields.{inside_mailed, seen_shown_from}}

-- The k-th message of a mailbox has the number of the first and k.
mail_fits_at : (core : CoreData) (w : World) (j t : ℕ) (ms : List Message) → MailFits core w j t ms → (k : ℕ) (m : Message) → slice_get ms k ≡ Some m → MessageFits core w j (t + k) m
mail_fits_at core w j t [] f k m e = absurd (none-some m e)
mail_fits_at core w j t (x ∷ ms) f zero m e =
    let is : t ≡ t + 0 = omega arith in
    subst (λ (u : ℕ). MessageFits core w j u m) is (subst (MessageFits core w j t) (same_Some x m e) f.0)
mail_fits_at core w j t (x ∷ ms) f (suc k) m e =
    let is : suc t + k ≡ t + suc k = omega arith in
    subst (λ (u : ℕ). MessageFits core w j u m) is (mail_fits_at core w j (suc t) ms f.1 k m e)

module _ (core : CoreData) (ann : Ann) (c : Configuration) (w : World) (g : InRegions core ann w c) where
  -- The number of the first message that waits for an actor.
  abbrev First : ℕ → Type 0
  First j = (t : ℕ) × ((a : Actor) → slice_get c.actors j ≡ Some a → MailFits core w j t a.mailbox)

  first_of : (j : ℕ) (o : Option Actor) → slice_get c.actors j ≡ o → First j
  first_of j None e = (0, λ a is. absurd (none-some a (sym e ∙ is)))
  first_of j (Some x) e =
      let f = (g.actors j x e).0 in
      (f.0, λ a is. subst (λ (y : Actor). MailFits core w j f.0 y.mailbox) (same_Some x a (sym e ∙ is)) f.1)

  pub first : (j : ℕ) → First j
  first j = first_of j (slice_get c.actors j) refl

  abbrev pub ticket : (j k : ℕ) → ℕ
  ticket j k = (first j).0 + k

  cancel : (s t k l : ℕ) → s ≡ t → s + k ≡ t + l → k ≡ l
  cancel s t k l e f = omega (arith, e, f)

  -- Messages for one actor with one number are one.
  pub one_place : (j i k l : ℕ) → j ≡ i → ticket j k ≡ ticket i l → k ≡ l
  one_place j i k l is e = cancel (first j).0 (first i).0 k l (ap (λ (x : ℕ). (first x).0) is) e

  pub waits_fits : (j k n : ℕ) (q : Cap) (a : Address) → Waits core c j k n q a → FitsIn w (InMail j (ticket j k) n) (unalias q) (w.region a)
  waits_fits j k n q a x =
      let actor = bind_some (slice_get c.actors j) _ x.message x.waits in
      let method = bind_some (slice_get core.methods x.message.method) _ q x.declared in
      let parameter = bind_some (slice_get method.0.params n) _ q method.2 in
      let mail = (first j).1 actor.0 actor.1 in
      let fit = mail_fits_at core w j (first j).0 actor.0.mailbox mail k x.message actor.2 in
      subst (λ (p : Cap). FitsIn w (InMail j (ticket j k) n) (unalias p) (w.region a)) (same_Some parameter.0.cap q parameter.2)
      (fit method.0 n parameter.0 (At a) method.1 parameter.1 x.argument)

  pub inside_argument : (j k n : ℕ) (b : Address) → Inside core c j k n b → Mailed w j (ticket j k) n (w.region b)
  inside_argument j k n b x = inside_mailed core w c.objects g.fields j (ticket j k) n x.0 b (sent (waits_fits j k n cap.Iso x.0 x.1)) x.2

  from_argument : (j k n : ℕ) (a : Address) → Waits core c j k n cap.Iso a ⊎ Waits core c j k n cap.Val a → Shown w j (ticket j k) n (w.region a)
  from_argument j k n a (inl x) = inl (sent (waits_fits j k n cap.Iso a x))
  from_argument j k n a (inr x) = inr (waits_fits j k n cap.Val a x)

  pub seen_from_argument : (j k n : ℕ) (b : Address) → SeenFrom core c j k n b → Shown w j (ticket j k) n (w.region b)
  seen_from_argument j k n b x = seen_shown_from core w c.objects g.fields j (ticket j k) n x.0 b (from_argument j k n x.0 x.1) x.2
