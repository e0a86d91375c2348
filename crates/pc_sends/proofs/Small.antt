-- What the small program sends, computed.
use Rattle.std.specs.Prelude.{◌≡◌, ◌⊎◌, ℕ, zero, suc, Some, slice_get, refl}
use Rattle.std.proofs.{Common.{inl, inr, ap, sym, subst, ◌∙◌}, lemmas.Option.{same_Some, none-some}}
use Rattle.pc_tree.specs.Kinds.{is_abstract}
use Rattle.pc_core.specs.{declared.declarations.EntityDef.EntityDef, declared.nodes.Node.Node, Further.IsAbstract, CoreData.method_named}
use Rattle.pc_base.proofs.Bools.{false_true}
use Rattle.pc_sends.specs.{Tables.{MayBe, IsOrConformsTo, MayCall, Aims, UsesMethod, Reach, first, Sends}, Example.{go, never_stops, its_entities, NeverStops}}

-- Nothing conforms to an actor.
not_abstract : IsAbstract never_stops 6 → ⊥
not_abstract a = false_true (ap (λ (x : EntityDef). is_abstract x.kind) (same_Some _ a.0 a.1) ∙ a.2)

is_a : (d : ℕ) → IsOrConformsTo never_stops d 6 → d ≡ 6
is_a d (inl e) = e
is_a d (inr above) = absurd (not_abstract above.0)

call_go : (t : ℕ) → MayCall never_stops go 6 t → t ≡ 1
call_go t c = sym (same_Some 1 t (subst (λ (d : ℕ). method_named never_stops d go ≡ Some t) (is_a c.entity c.may_be.is_one) c.found))

-- What a node uses.
abbrev pub Targets : ℕ → ℕ → Type 0
Targets m t = (m ≡ 4) × ((t ≡ 1) ⊎ (t ≡ 3))

aims_of : (n : ℕ) (x : Node) (t : ℕ) → slice_get never_stops.nodes n ≡ Some x → Aims never_stops its_entities x.kind x.children t → Targets x.method t
aims_of n x t at a = go_on n at
  where
    by : (y : Node) → y ≡ x → (Aims never_stops its_entities y.kind y.children t → Targets y.method t) → Targets x.method t
    by y e w = subst (λ (z : Node). Aims never_stops its_entities z.kind z.children t → Targets z.method t) e w a

    called : (e : ℕ) × (Some 6 ≡ Some e) × MayCall never_stops go e t → t ≡ 1
    called c = call_go t (subst (λ (d : ℕ). MayCall never_stops go d t) (sym (same_Some 6 c.0 c.1)) c.2)

    go_on : (n : ℕ) → slice_get never_stops.nodes n ≡ Some x → Targets x.method t
    go_on zero at = by _ (same_Some _ x at) (λ b. absurd b)
    go_on (suc zero) at = by _ (same_Some _ x at) (λ b. absurd b)
    go_on (suc (suc zero)) at = by _ (same_Some _ x at) (λ b. absurd b)
    go_on (suc (suc (suc zero))) at = by _ (same_Some _ x at) (λ b. absurd b)
    go_on (suc (suc (suc (suc zero)))) at = by _ (same_Some _ x at) (λ b. absurd b)
    go_on (suc (suc (suc (suc (suc zero))))) at = by _ (same_Some _ x at) (λ b. absurd b)
    go_on (suc (suc (suc (suc (suc (suc zero)))))) at = by _ (same_Some _ x at) (λ b. (refl, inr (sym b)))
    go_on (suc (suc (suc (suc (suc (suc (suc zero))))))) at = by _ (same_Some _ x at) (λ b. (refl, inl (called b)))
    go_on (suc (suc (suc (suc (suc (suc (suc (suc zero)))))))) at = by _ (same_Some _ x at) (λ b. absurd b)
    go_on (suc (suc (suc (suc (suc (suc (suc (suc (suc zero))))))))) at = by _ (same_Some _ x at) (λ b. absurd b)
    go_on (suc (suc (suc (suc (suc (suc (suc (suc (suc (suc n)))))))))) at = absurd (none-some x at)

uses_of : (m t : ℕ) → UsesMethod never_stops its_entities m t → Targets m t
uses_of m t u = let k = aims_of u.number u.node t u.is_node u.aims in (sym u.own ∙ k.0, k.1)

main_reached : Reach never_stops its_entities 4
main_reached = first {e = 7} refl

go_is : MayBe never_stops 6 6
go_is = record { own = _; is_own = refl; concrete = refl; is_one = inl refl }

sends_go : Sends never_stops its_entities 7 1
sends_go = record {
  from = 4;
  reached = main_reached;
  method = _;
  is_method = refl;
  entity = refl;
  posts = (
    record { number = 7; node = _; is_node = refl; own = refl; aims = (6, refl, record { entity = 6; may_be = go_is; found = refl; method = _; is_method = refl; called = refl }) },
    (_, refl, refl),
  );
}

sends_create : Sends never_stops its_entities 7 3
sends_create = record { from = 4; reached = main_reached; method = _; is_method = refl; entity = refl; posts = (record { number = 6; node = _; is_node = refl; own = refl; aims = refl }, tt) }

listed : (e t : ℕ) → (e ≡ 7) × ((t ≡ 1) ⊎ (t ≡ 3)) → Sends never_stops its_entities e t
listed e t k =
    subst (λ (d : ℕ). Sends never_stops its_entities d t) (sym k.0) (elim k.1 [
      | inl is ↦ subst (Sends never_stops its_entities 7) (sym is) sends_go
      | inr is ↦ subst (Sends never_stops its_entities 7) (sym is) sends_create
    ])

sent : (e t : ℕ) → Sends never_stops its_entities e t → (e ≡ 7) × ((t ≡ 1) ⊎ (t ≡ 3))
sent e t s =
    let k = uses_of s.from t s.posts.0 in
    let owner = same_Some _ s.method (sym (ap (slice_get never_stops.methods) k.0) ∙ s.is_method) in
    (sym s.entity ∙ sym (ap (λ z. z.entity) owner), k.1)

pub never_stops_is : NeverStops
never_stops_is e t = (sent e t, listed e t)
