-- What the other actors and the waiting messages have to fit is preserved while an actor moves.
use Rattle.std.specs.Prelude.{◌≡◌, ◌≢◌, ℕ, suc, ◌<◌, ◌≤◌, true, not, List, [], ◌∷◌, ◌++◌, length, Option, Some, None, nat_eq, nat_lt, refl}
use Rattle.std.proofs.{Common.{ap, sym, subst, ◌∙◌, arith}, lemmas.Bool.{ne_eqb, lt-ltb}}
use Rattle.pc_heap.specs.declared.value.Value.{Value}
use Rattle.pc_core.specs.CoreData.{CoreData}
use Rattle.pc_ann.specs.declared.annotation.Ann.{Ann}
use Rattle.pc_semantics.specs.{declared.frames.Frame.Frame, declared.mailbox.Message.Message}
use Rattle.pc_valid.specs.Words.{Ty}
use Rattle.pc_caps.specs.declared.capability.Form.{Form}
use Rattle.pc_regions.proofs.{World.{Over, World, Opened, InMail, InSlot, OnStack, Fits, AliasSome}, StackForms.Entry, Fitting.{TopAlias, FramesFit, MessageFits, MailFits}, MoveFits.Others, Waiting.{holds_kept, wait_kept}}

module _ (core : CoreData) (ann : Ann) (w w' : World) (i count : ℕ) (to : Option ℕ) (o : Others w w' i count to) where
  -- ---- frames of another actor

  module _ (j : ℕ) (there : j < count) (differ : i ≢ j) where
    another : not (nat_eq i j) ≡ true
    another = ap not (ne_eqb i j differ)

    known : nat_lt j count ≡ true
    known = lt-ltb j count there

    some_alias : (b : ℕ) (t : Option Ty) (v : Value) → AliasSome w j b (w.top j) t v → AliasSome w' j b (w.top j) t v
    some_alias b None v a = tt
    some_alias b (Some t) v a = o.alias j b t.1 v there differ a

    top_alias : (base : ℕ) (es : List Entry) (vs : List Value) → TopAlias w j base es vs → TopAlias w' j base es vs
    top_alias base [] vs a = tt
    top_alias base (e ∷ es) [] a = tt
    top_alias base (e ∷ es) (v ∷ vs) a = subst (λ (k : ℕ). AliasSome w' j base k e.ty v) (sym (o.top j there differ)) (some_alias base e.ty v a)

    pub frames_kept : (fs : List Frame) → FramesFit core ann w j fs → FramesFit core ann w' j fs
    frames_kept [] k = o.top j there differ ∙ k
    frames_kept (f ∷ fs) k =
        let slots = λ (h s l : ℕ) (g : Form) (v : Value) (low : h < suc (length fs)) (x : Fits w (InSlot j h s l) g v). o.fits (InSlot j h s l) g v another known x in
        let stacks = λ (h d l : ℕ) (g : Form) (v : Value) (low : h < suc (length fs)) (x : Fits w (OnStack j h d l) g v). o.fits (OnStack j h d l) g v another known x in
        let over = λ (m l : ℕ) (up : m ≤ k.0.holds.base) (low : l < k.0.holds.base) (x : Over w j (w.context j m) l). o.over j m l there differ x in
        let ajar = λ (l : ℕ) (up : l ≤ k.0.holds.base) (x : w.stands (w.context j l) ≡ Opened j). o.opened j l there differ x in (
          record {
            holds = holds_kept core ann w w' j (suc (length fs)) slots stacks k.0.holds.base ajar over (length fs) f.method f.slots f.stack (omega arith) k.0.holds;
            depth = k.0.depth;
            last = k.0.last ∙ sym (o.top j there differ);
            opened = λ l a z. o.opened j l there differ (k.0.opened l a z);
            not_deeper = k.0.not_deeper;
            shallow = k.0.shallow;
          },
          k.1,
          λ u. top_alias k.0.holds.base k.0.holds.entries f.stack (k.2 u),
          wait_kept core ann w w' j (suc (length fs)) slots stacks k.0.holds.base ajar over k.0.holds.base f.method fs (omega arith) (omega arith) k.3,
        )

  -- ---- messages

  message_kept : (j t : ℕ) (m : Message) → MessageFits core w j t m → MessageFits core w' j t m
  message_kept j t m k x n p v a b c = o.fits (InMail j t n) _ v refl refl (k x n p v a b c)

  -- No message more.
  pub mail_kept : (j t : ℕ) (ms : List Message) → w'.sent j ≡ w.sent j → MailFits core w j t ms → MailFits core w' j t ms
  mail_kept j t [] e k = k ∙ sym e
  mail_kept j t (m ∷ ms) e k = (message_kept j t m k.0, mail_kept j (suc t) ms e k.1)

  -- One message more.
  pub mail_more : (j t : ℕ) (ms : List Message) (m : Message) → w'.sent j ≡ suc (w.sent j) → MessageFits core w' j (w.sent j) m → MailFits core w j t ms → MailFits core w' j t (ms ++ m ∷ [])
  mail_more j t [] m e new k = (subst (λ (n : ℕ). MessageFits core w' j n m) (sym k) new, ap suc k ∙ sym e)
  mail_more j t (x ∷ ms) m e new k = (message_kept j t x k.0, mail_more j (suc t) ms m e new k.1)
