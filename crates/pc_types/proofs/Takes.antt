-- An idle actor takes its first message: the stream prints a text, and another actor begins the method.
use Rattle.std.specs.Prelude.{◌≡◌, ◌≢◌, ◌⊎◌, ℕ, zero, suc, ◌<◌, List, [], ◌∷◌, Some, slice_get, refl}
use Rattle.std.proofs.{Common.{inl, inr, ap, sym, subst, ◌∙◌, arith}, lemmas.Option.same_Some}
use Rattle.pc_heap.specs.{declared.value.Value.Value, declared.value.Value.TheVariants.At}
use Rattle.pc_caps.specs.declared.capability.Form.TheVariants as form
use Rattle.pc_core.specs.{declared.declarations.Method.Method, declared.declarations.MethodKind.MethodKind, CoreData.CoreData, Entities.print_method}
use Rattle.pc_core.specs.declared.declarations.MethodKind.TheVariants as method
use Rattle.pc_ann.specs.declared.annotation.Ann.{Ann}
use Rattle.pc_semantics.specs.{declared.mailbox.Message.Message, Configurations.{Configuration, with_actor, own_address, first_frame}, Step.printed_text, Parts.begin_method}
use Rattle.pc_rules.specs.{Parts.constructs, Control.start_set}
use Rattle.pc_base.proofs.Bools.{false_true}
use Rattle.pc_types.proofs.{Types.{Finished, ArgumentsOk}, Frames.{ThisOk, LastOk}, Typed.{MessageOk, MailOk, WellTyped}, Needs.Needs, Values.{is_text, own_no_trait}, Begin.first_ok, Growth.object_of, Made.{StepOk, actor_typed, frames_typed}, Callers.nothing_set, Steps.Takes}

no_spawn : (k : MethodKind) → k ≡ method.Be → k ≡ method.Spawn → ⊥
no_spawn k b s = let bad : method.Be ≡ method.Spawn = sym b ∙ s in cc

module _ (core : CoreData) (ann : Ann) (needs : Needs core ann) (c : Configuration) (w : WellTyped core ann c) (m : Message) (ms : List Message) (k : MethodKind) where
  -- ---- the stream

  text_printed : (vs : List Value) (name : ℕ) → ArgumentsOk core c.objects vs (print_method name).params → WellTyped core ann (with_actor c 0 (record { mailbox = ms; frames = [] })) → StepOk core ann (printed_text c (record { mailbox = ms; frames = [] }) vs)
  text_printed [] name fits next = absurd fits
  text_printed (v ∷ []) name fits next = let s = is_text core ann needs c.objects form.Val v fits.0 in rw s.1 (record { objects = next.objects; actors = next.actors }, λ l bad. cc)
  text_printed (v ∷ u ∷ vs) name fits next = absurd fits.1

  stream_prints : MessageOk core c.objects 0 k m → MailOk core c.objects 0 ms → (k ≡ method.Spawn) ⊎ ((k ≡ method.Be) × Finished c.objects (At (own_address 0))) → StepOk core ann (printed_text c (record { mailbox = ms; frames = [] }) m.arguments)
  stream_prints msg mail how =
      let five : msg.own.entity ≡ 5 = same_Some msg.own.entity 5 (sym msg.home ∙ w.objects.stream) in
      let number : m.method ≡ 0 = needs.stream m.method msg.own msg.is_own five in
      let is : msg.own ≡ print_method needs.formed.built_in.print = same_Some msg.own _ (sym msg.is_own ∙ ap (slice_get core.methods) number ∙ needs.formed.built_in.method) in
      let be : k ≡ method.Be = sym msg.kind ∙ ap (λ (x : Method). x.kind) is in
      let done : Finished c.objects (At (own_address 0)) = elim how [ inl s ↦ absurd (no_spawn k be s) | inr b ↦ b.1 ] in
      text_printed m.arguments needs.formed.built_in.print (subst (λ (x : Method). ArgumentsOk core c.objects m.arguments x.params) is msg.arguments)
      (actor_typed core ann c 0 (record { mailbox = ms; frames = [] }) w (inr (done, mail)))

  -- ---- another actor

  begins : (i : ℕ) → 0 < i → MessageOk core c.objects i k m → MailOk core c.objects i ms → (k ≡ method.Spawn) ⊎ ((k ≡ method.Be) × Finished c.objects (At (own_address i))) → StepOk core ann (begin_method c i (record { mailbox = ms; frames = [] }) m (slice_get core.methods m.method))
  begins i more msg mail how =
      let own = msg.own in
      let o = object_of c.objects (own_address i) own.entity msg.home in
      let ok = w.objects.each (own_address i) o.0 o.1 in
      let owner = ok.0.entity in
      let is_owner : slice_get core.entities own.entity ≡ Some owner = ap (slice_get core.entities) (sym o.2) ∙ ok.0.is_entity in
      let other : m.method ≢ 0 = λ zero.
      let is : own ≡ print_method needs.formed.built_in.print = same_Some own _ (sym msg.is_own ∙ ap (slice_get core.methods) zero ∙ needs.formed.built_in.method) in
      let bad : i ≡ 0 = ok.1.stream (o.2 ∙ ap (λ (x : Method). x.entity) is) in
      absurd (omega (arith, more, bad))
      in
      let body = needs.has_body m.method own owner msg.is_own other is_owner (own_no_trait core ann needs c.objects own.entity owner (At (own_address i)) (owner, is_owner, ok.0.placed) msg.home is_owner) in
      let this_ok : ThisOk core c.objects own (start_set core own) (At (own_address i)) = record {
        is_entity = msg.home;
        kind = (owner, is_owner, ok.0.placed);
        finished = λ n s. elim how [ inl b ↦ absurd (false_true (sym n ∙ ap constructs (msg.kind ∙ b))) | inr b ↦ b.1 ];
        fields = λ n. (o.0, o.1, λ j bit. absurd (nothing_set core own j n bit));
      } in
      let last : LastOk c.objects i own.kind (At (own_address i)) = elim how [
        | inl b ↦ subst (λ (x : MethodKind). LastOk c.objects i x (At (own_address i))) (sym (msg.kind ∙ b)) refl
        | inr b ↦ subst (λ (x : MethodKind). LastOk c.objects i x (At (own_address i))) (sym (msg.kind ∙ b.0)) b.1
      ] in
      rw (msg.is_own, body.1) (
        frames_typed core ann c i (record { mailbox = ms; frames = [] }) (first_frame m.method own (At (own_address i)) m.arguments body.0 ∷ []) w mail
            (first_ok core ann needs c.objects m.method body.0 own (At (own_address i)) m.arguments msg.is_own body.1 other this_ok msg.arguments, (own, msg.is_own, last)),
        λ l bad. cc,
      )

pub takes : Takes
takes core ann needs c w zero here m ms k msg mail how = stream_prints core ann needs c w m ms k msg mail how
takes core ann needs c w (suc i) here m ms k msg mail how = begins core ann needs c w m ms k (suc i) (omega arith) msg mail how
