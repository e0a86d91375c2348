-- What the methods of an entity send is what they use, if it is a message.
use Rattle.std.specs.Prelude.{◌≡◌, ℕ, ◌+◌, ◌-◌, ◌<◌, ◌≤◌, true, List, [], Option, Some, None, slice_get, refl}
use Rattle.std.proofs.{Common.{inl, inr, ap, sym, subst, ◌∙◌, arith}, lemmas.Option.{same_Some, none-some}}
use Rattle.pc_core.specs.{declared.declarations.EntityDef.EntityDef, declared.declarations.Method.Method, declared.declarations.MethodKind.MethodKind, declared.nodes.NodeKind.NodeKind, CoreData.CoreData, Formed.Formed, Members.{methods_within, method_among}, Nodes.NamesFit, Further.NamesMethod}
use Rattle.pc_core.specs.declared.declarations.MethodKind.TheVariants as method
use Rattle.pc_core.specs.declared.nodes.NodeKind.TheVariants as nodes
use Rattle.pc_base.specs.Lists.{Has}
use Rattle.pc_base.proofs.{Bools.{false_true, no_both}, Elements.differ_none, Gets.{get_below, get_within, range_get}}
use Rattle.pc_sends.specs.{Growth.{Grown, TurnsBelow, OfSome, Sorts}, Tables.{is_called, Aims, UsesMethod, Reach, IsSent, Sends, is_message}, Reached.{IsMessage, ReachedUses, EntityUses, IsUsed, AreSent}}
use Rattle.pc_sends.proofs.Grows.{grown_same}

-- ---- what is used

pub reached_uses : (core : CoreData) (ents : List (Option ℕ)) (m : ℕ) (a b : List ℕ) → Reach core ents m → Grown (UsesMethod core ents m) a b → Grown (ReachedUses core ents m) a b
reached_uses core ents m a b r g = grown_same (UsesMethod core ents m) (ReachedUses core ents m) a b (λ t u. (r, u)) (λ t p. p.1) g

-- ---- messages

-- The method, if it is sent.
abbrev pub MessageOf : CoreData → ℕ → ℕ → Type 0
MessageOf core n t = (n ≡ t) × IsMessage core t

pub message_found : (core : CoreData) (n : ℕ) (a b : List ℕ) → IsMessage core n → Grown (λ t. n ≡ t) a b → Grown (MessageOf core n) a b
message_found core n a b i g = grown_same (λ t. n ≡ t) (MessageOf core n) a b (λ t e. (e, subst (IsMessage core) e i)) (λ t p. p.0) g

-- What was found, if nothing had been found before.
from_none : (P : ℕ → Type 0) (xs : List ℕ) (t : ℕ) → Grown P [] xs → Has xs t → P t
from_none P xs t g h = elim (g.only t h) [ inl old ↦ absurd (none-some t old.1) | inr p ↦ p ]

module _ (core : CoreData) (ents : List (Option ℕ)) (formed : Formed core) where
  -- The methods of an entity are those that name it.
  own_method : (e k : ℕ) (x : EntityDef) → slice_get core.entities e ≡ Some x → x.first_method ≤ k → k < x.first_method + x.methods → (m : Method) × (slice_get core.methods k ≡ Some m) × (m.entity ≡ e)
  own_method e k x is low high =
      let within = methods_within core e x formed is in
      let there = get_within core.methods k (omega (arith, high, within)) in
      (there.0, there.1, (formed.entities e x is).methods (k - x.first_method) there.0 (range_get core.methods x.first_method (x.first_method + x.methods) k there.0 low high there.1))

  turns_uses : (e : ℕ) (x : EntityDef) (t : ℕ) → slice_get core.entities e ≡ Some x → TurnsBelow (ReachedUses core ents) x.first_method (x.first_method + x.methods) t → EntityUses core ents e t
  turns_uses e x t is k = let m = own_method e k.0 x is k.1 k.2 in record { from = k.0; method = m.0; is_method = m.1; entity = m.2; uses = k.3 }

  uses_turns : (e : ℕ) (x : EntityDef) (t : ℕ) → slice_get core.entities e ≡ Some x → EntityUses core ents e t → TurnsBelow (ReachedUses core ents) x.first_method (x.first_method + x.methods) t
  uses_turns e x t is u =
      let r = method_among core u.from u.method formed u.is_method (get_below core.methods u.from u.method u.is_method) in
      let same : r.0 ≡ x = same_Some r.0 x (sym r.1 ∙ ap (slice_get core.entities) u.entity ∙ is) in (
        u.from,
        subst (λ (z : EntityDef). z.first_method ≤ u.from) same r.2,
        subst (λ (z : EntityDef). u.from < z.first_method + z.methods) same r.3,
        u.uses,
      )

  pub entity_used : (e : ℕ) (x : EntityDef) (used : List ℕ) → slice_get core.entities e ≡ Some x → Grown (TurnsBelow (ReachedUses core ents) x.first_method (x.first_method + x.methods)) [] used → IsUsed core ents e used
  entity_used e x used is g = record {
    differ = g.differ differ_none;
    exact = λ t. (λ h. turns_uses e x t is (from_none _ used t g h), λ u. g.all t (uses_turns e x t is u));
  }

  -- If there is no such entity, no method names it.
  pub none_used : (e : ℕ) → slice_get core.entities e ≡ None → IsUsed core ents e []
  none_used e is = record {
    differ = differ_none;
    exact = λ t. (
      λ h. absurd (none-some t h.1),
      λ u. let owner = formed.methods u.from u.method u.is_method in absurd (none-some owner.owner (sym is ∙ ap (slice_get core.entities) (sym u.entity) ∙ owner.is_owner)),
    );
  }

  -- ---- messages

  sent_kind : (k : MethodKind) → is_called k ≡ true → is_message k ≡ true → k ≡ method.Be
  sent_kind method.Fun c m = absurd (false_true m)
  sent_kind method.Be c m = refl
  sent_kind method.New c m = absurd (false_true c)
  sent_kind method.Spawn c m = absurd (false_true c)

  -- A message is not made.
  made_unsent : (t : ℕ) → NamesMethod core method.New t → IsMessage core t → ⊥
  made_unsent t n m =
      let same : n.0 ≡ m.0 = same_Some n.0 m.0 (sym n.1 ∙ m.1) in
      no_both (is_message m.0.kind) m.2 (ap (λ (x : Method). is_message x.kind) (sym same) ∙ ap is_message n.2)

  named_at : (j : MethodKind) (k t : ℕ) → k ≡ t → NamesMethod core j k → NamesMethod core j t
  named_at j k t e n = subst (NamesMethod core j) e n

  aims_sent : (m : ℕ) (k : NodeKind) (cs : List ℕ) (t : ℕ) → NamesFit core m k → Aims core ents k cs t → IsMessage core t → IsSent core k t
  aims_sent m (nodes.New k) cs t fit a i = absurd (made_unsent t (named_at method.New k t a fit) i)
  aims_sent m (nodes.Spawn k) cs t fit a i = tt
  aims_sent m (nodes.Call name) cs t fit a i =
      let call = a.2 in
      let same : i.0 ≡ call.method = same_Some i.0 call.method (sym i.1 ∙ call.is_method) in
      (call.method, call.is_method, sent_kind call.method.kind call.called (ap (λ (x : Method). is_message x.kind) (sym same) ∙ i.2))
  aims_sent m k cs t fit a i = absurd a

  is_named : (j : MethodKind) (t : ℕ) → is_message j ≡ true → NamesMethod core j t → IsMessage core t
  is_named j t e n = (n.0, n.1, ap is_message n.2 ∙ e)

  sent_message : (m : ℕ) (k : NodeKind) (cs : List ℕ) (t : ℕ) → NamesFit core m k → Aims core ents k cs t → IsSent core k t → IsMessage core t
  sent_message m (nodes.Spawn k) cs t fit a s = is_named method.Spawn t refl (named_at method.Spawn k t a fit)
  sent_message m (nodes.Call name) cs t fit a s = is_named method.Be t refl s
  sent_message m k cs t fit a s = absurd s

  uses_sends : (e t : ℕ) → EntityUses core ents e t → IsMessage core t → Sends core ents e t
  uses_sends e t u i =
      let x = u.uses.1 in
      record {
        from = u.from;
        reached = u.uses.0;
        method = u.method;
        is_method = u.is_method;
        entity = u.entity;
        posts = (x, aims_sent x.node.method x.node.kind x.node.children t (formed.nodes x.number x.node x.is_node).names x.aims i);
      }

  sends_uses : (e t : ℕ) → Sends core ents e t → EntityUses core ents e t × IsMessage core t
  sends_uses e t s =
      let x = s.posts.0 in (
        record { from = s.from; method = s.method; is_method = s.is_method; entity = s.entity; uses = (s.reached, x) },
        sent_message x.node.method x.node.kind x.node.children t (formed.nodes x.number x.node x.is_node).names x.aims s.posts.1,
      )

  -- ---- what is sent

  target_sent : (e t : ℕ) (used : List ℕ) → IsUsed core ents e used → OfSome (MessageOf core) used t → Sends core ents e t
  target_sent e t used u k = uses_sends e t ((u.exact t).0 (k.0, k.2 ∙ ap Some k.3.0)) k.3.1

  sent_target : (e t : ℕ) (used : List ℕ) → IsUsed core ents e used → Sends core ents e t → OfSome (MessageOf core) used t
  sent_target e t used u s =
      let k = sends_uses e t s in
      let h = (u.exact t).1 k.0 in
      (h.0, t, h.1, (refl, k.1))

  pub are_sent : (e : ℕ) (used messages targets : List ℕ) → IsUsed core ents e used → Grown (OfSome (MessageOf core) used) [] messages → Sorts messages targets → AreSent core ents e targets
  are_sent e used messages targets u g s = record {
    ascends = s.ascends;
    exact = λ t. (
      λ h. target_sent e t used u (from_none _ messages t g ((s.same t).0 h)),
      λ sends. (s.same t).1 (g.all t (sent_target e t used u sends)),
    );
  }
