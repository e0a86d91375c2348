-- `sends` has a verdict: the table of who sends what exists.
use Rattle.std.proofs.{Common.{◌≡◌, ◌⊎◌, ◌<◌, ◌≤◌, ◌+◌, ℕ, zero, suc, true, false, List, [], ◌++◌, map, length, Option, Some, None, inl, inr, refl, sym, ap, ◌∙◌, subst, arith}, lemmas.Bool.cases_eq, lemmas.Option.{none-some, same_Some}}
use Rattle.std.specs.Prelude.{IsSome, slice_get}
use Rattle.pc_core.specs.{CoreData.{CoreData, method_named}, Formed.Formed, declared.declarations.EntityDef.EntityDef, declared.declarations.Method.Method, declared.declarations.MethodKind.MethodKind, declared.nodes.Node.Node, declared.nodes.NodeKind.NodeKind, Entities.Conforms}
use Rattle.pc_core.specs.declared.declarations.MethodKind.TheVariants as method
use Rattle.pc_core.specs.declared.nodes.NodeKind.TheVariants as nodes
use Rattle.pc_base.proofs.Gets.{get_below}
use Rattle.pc_noted_receivers.specs.Noted.{noted_entities}
use Rattle.pc_semantics.specs.Configurations.{main_create}
use Rattle.pc_sends.proofs.{Filtered.filtered_all, Homes.method_there, Tabled.{RowsTo, rows_all, rows_next, rows_none}, There.reach_below}
use Rattle.pc_sends.specs.{Tables.{IsOrConformsTo, MayBe, IsSent, Posts, Reach, Sends, is_message, IsLater, IsNever, IsOfActor, IsOwnActor, IsTable, row, Aims, MayCall, UsesMethod, is_called, noted_receiver}, Tables.Reach.{first as begins, next as goes_on}, Reached.AreSent, declared.table.Row.Row, declared.table.Table.Table}
use Rattle.pc_sub.specs.{DeclarationFaults.conform_faults, Faults.{conformed, conforms}, declared.faults.DeclFault.DeclFault}
use Rattle.pc_tree.specs.{Kinds.{first_own, is_abstract}, declared.kinds.EntityKind.EntityKind}
use Rattle.pc_tree.specs.declared.kinds.EntityKind.TheVariants as kind
use Rattle.pc_refusals.specs.{Verdict.{Named, done}, Source.source_limit}
use Rattle.pc_commands.specs.Sends.{table_text}
use Rattle.pc_top.specs.{Commands.Sends.{IsSends, Sent}, CoresFormed.CoresAreFormed}
use Rattle.pc_top.proofs.Deriving.{accepted_source, source_formed}
use Rattle.pc_verdicts.proofs.{Chains.{Led, led_more, led_told, more, one}, Deciding.{at_told, both_told, either_told, false_told, filtered, is_told, least_told, less_told, not_told, some_told, true_told, turned}, Same.Told, Shapes.accepted_answers, Stages.{Answers, ReadOn}}

be_told : (k : MethodKind) → Told (k ≡ method.Be)
be_told method.Be = inl refl
be_told method.Fun = inr (λ e. cc e)
be_told method.New = inr (λ e. cc e)
be_told method.Spawn = inr (λ e. cc e)

actor_told : (k : EntityKind) → Told (k ≡ kind.Actor)
actor_told kind.Actor = inl refl
actor_told kind.Class = inr (λ e. cc e)
actor_told kind.Primitive = inr (λ e. cc e)
actor_told kind.Trait = inr (λ e. cc e)
actor_told kind.Interface = inr (λ e. cc e)

module _ (core : CoreData) (formed : Formed core) (ents : List (Option ℕ)) where
  -- ---- which methods a call may be one of

  conforms_told : (d e : ℕ) → Told (Conforms core d e)
  conforms_told d e = by (slice_get (conform_faults core d (slice_get core.entities e)) 0) refl
    where
      by : (o : Option DeclFault) → slice_get (conform_faults core d (slice_get core.entities e)) 0 ≡ o → Told (Conforms core d e)
      by None is = inl (conforms core d e (slice_get core.entities e) formed refl is)
      by (Some f) is = inr (λ h. none-some f (sym (conformed core d e (slice_get core.entities e) formed refl h) ∙ is))

  one_told : (d e : ℕ) → Told (IsOrConformsTo core d e)
  one_told d e = either_told (cases_eq d e) (both_told (at_told core.entities e (λ (x : EntityDef). is_abstract x.kind ≡ true) (λ x. true_told (is_abstract x.kind))) (conforms_told d e))

  may_be_told : (d e : ℕ) → Told (MayBe core d e)
  may_be_told d e =
      turned (λ h. record { own = h.0; is_own = h.1; concrete = h.2.0; is_one = h.2.1 }) (λ (m : MayBe core d e). (m.own, m.is_own, (m.concrete, m.is_one)))
      (at_told core.entities d (λ (x : EntityDef). (is_abstract x.kind ≡ false) × IsOrConformsTo core d e) (λ x. both_told (false_told (is_abstract x.kind)) (one_told d e)))

  may_call_told : (name e t : ℕ) → Told (MayCall core name e t)
  may_call_told name e t =
      turned
      (λ h. record { entity = h.0.0; may_be = h.0.2.0; found = h.0.2.1; method = h.1.0; is_method = h.1.1; called = h.1.2 })
      (λ (m : MayCall core name e t). ((m.entity, get_below core.entities m.entity m.may_be.own m.may_be.is_own, (m.may_be, m.found)), (m.method, m.is_method, m.called)))
      (both_told (some_told (λ d. MayBe core d e × (method_named core d name ≡ Some t)) (λ d. both_told (may_be_told d e) (is_told (method_named core d name) t)) (length core.entities))
      (at_told core.methods t (λ (y : Method). is_called y.kind ≡ true) (λ y. true_told (is_called y.kind))))

  called_told : (name : ℕ) (children : List ℕ) (t : ℕ) (o : Option ℕ) → noted_receiver ents children ≡ o → Told ((e : ℕ) × (noted_receiver ents children ≡ Some e) × MayCall core name e t)
  called_told name children t None is = inr (λ h. none-some h.0 (sym is ∙ h.1))
  called_told name children t (Some d) is = turned (λ m. (d, is, m)) (λ h. subst (λ e. MayCall core name e t) (same_Some h.0 d (sym h.1 ∙ is)) h.2) (may_call_told name d t)

  aims_told : (k : NodeKind) (children : List ℕ) (t : ℕ) → Told (Aims core ents k children t)
  aims_told (nodes.New j) children t = cases_eq j t
  aims_told (nodes.Spawn j) children t = cases_eq j t
  aims_told (nodes.Call name) children t = called_told name children t (noted_receiver ents children) refl
  aims_told k children t = inr (λ h. h)

  sent_told : (k : NodeKind) (t : ℕ) → Told (IsSent core k t)
  sent_told (nodes.Spawn j) t = inl tt
  sent_told (nodes.Call name) t = at_told core.methods t (λ (x : Method). x.kind ≡ method.Be) (λ x. be_told x.kind)
  sent_told k t = inr (λ h. h)

  uses_told : (m t : ℕ) → Told (UsesMethod core ents m t)
  uses_told m t =
      turned (λ h. record { number = h.0; node = h.2.0; is_node = h.2.1; own = h.2.2.0; aims = h.2.2.1 })
      (λ (u : UsesMethod core ents m t). (u.number, get_below core.nodes u.number u.node u.is_node, (u.node, u.is_node, (u.own, u.aims))))
      (some_told (λ n. (x : Node) × (slice_get core.nodes n ≡ Some x) × ((x.method ≡ m) × Aims core ents x.kind x.children t))
      (λ n. at_told core.nodes n (λ (x : Node). (x.method ≡ m) × Aims core ents x.kind x.children t) (λ x. both_told (cases_eq x.method m) (aims_told x.kind x.children t)))
      (length core.nodes))

  posts_told : (m t : ℕ) → Told (Posts core ents m t)
  posts_told m t =
      turned (λ h. (record { number = h.0; node = h.2.0; is_node = h.2.1; own = h.2.2.0; aims = h.2.2.1.0 }, h.2.2.1.1))
      (λ (p : Posts core ents m t). (p.0.number, get_below core.nodes p.0.number p.0.node p.0.is_node, (p.0.node, p.0.is_node, (p.0.own, (p.0.aims, p.1)))))
      (some_told (λ n. (x : Node) × (slice_get core.nodes n ≡ Some x) × ((x.method ≡ m) × (Aims core ents x.kind x.children t × IsSent core x.kind t)))
      (λ n. at_told core.nodes n (λ (x : Node). (x.method ≡ m) × (Aims core ents x.kind x.children t × IsSent core x.kind t))
      (λ x. both_told (cases_eq x.method m) (both_told (aims_told x.kind x.children t) (sent_told x.kind t))))
      (length core.nodes))

  -- ---- what may begin or be sent

  abbrev Goes : ℕ → ℕ → Type 0
  Goes m t = UsesMethod core ents m t × (t < length core.methods)

  goes_told : (m t : ℕ) → Told (Goes m t)
  goes_told m t = both_told (uses_told m t) (less_told t (length core.methods))

  goes_below : (m t : ℕ) → Goes m t → (m < length core.methods) × (t < length core.methods)
  goes_below m t g =
      let f = method_there core g.0.number g.0.node formed g.0.is_node in
      (subst (λ k. k < length core.methods) g.0.own (get_below core.methods g.0.node.method f.0 f.1), g.1)

  led_reach : {a b : ℕ} → Led Goes a b → Reach core ents a → Reach core ents b
  led_reach (one h) r = goes_on r h.0
  led_reach (more h c) r = led_reach c (goes_on r h.0)

  module _ (e0 t0 : ℕ) (main : main_create core ≡ Some (e0, t0)) where
    reach_led : (t : ℕ) → Reach core ents t → (t0 ≡ t) ⊎ Led Goes t0 t
    reach_led t (begins {e = e} h) = inl (ap (λ (p : ℕ × ℕ). p.1) (same_Some (e0, t0) (e, t) (sym main ∙ h)))
    reach_led t (goes_on {m = m} r u) =
        let h : Goes m t = (u, reach_below core ents formed t (goes_on r u)) in
        inr (elim (reach_led m r) [ inl same ↦ one (subst (λ k. Goes k t) (sym same) h) | inr c ↦ led_more c h ])

    reach_from : (t : ℕ) → Told (Reach core ents t)
    reach_from t = turned
        (λ s. elim s [ inl same ↦ subst (Reach core ents) same (begins main) | inr c ↦ led_reach c (begins main) ])
        (reach_led t)
        (either_told (cases_eq t0 t) (led_told (length core.methods) Goes goes_told goes_below t0 t))

  no_reach : main_create core ≡ None → (t : ℕ) → Reach core ents t → ⊥
  no_reach none t (begins {e = e} h) = none-some (e, t) (sym none ∙ h)
  no_reach none t (goes_on {m = m} r u) = no_reach none m r

  reach_told : (t : ℕ) → Told (Reach core ents t)
  reach_told t = by (main_create core) refl
    where
      by : (o : Option (ℕ × ℕ)) → main_create core ≡ o → Told (Reach core ents t)
      by None is = inr (no_reach is t)
      by (Some (e0, t0)) is = reach_from e0 t0 is t

  -- ---- who sends what

  sends_told : (e t : ℕ) → Told (Sends core ents e t)
  sends_told e t =
      turned (λ h. record { from = h.0; reached = h.2.0; method = h.2.1.0.0; is_method = h.2.1.0.1; entity = h.2.1.0.2; posts = h.2.1.1 })
      (λ (s : Sends core ents e t). (s.from, get_below core.methods s.from s.method s.is_method, (s.reached, ((s.method, s.is_method, s.entity), s.posts))))
      (some_told (λ m. Reach core ents m × (((x : Method) × (slice_get core.methods m ≡ Some x) × (x.entity ≡ e)) × Posts core ents m t))
      (λ m. both_told (reach_told m) (both_told (at_told core.methods m (λ (x : Method). x.entity ≡ e) (λ x. cases_eq x.entity e)) (posts_told m t)))
      (length core.methods))

  target_below : (e t : ℕ) → Sends core ents e t → t < length core.methods
  target_below e t s = reach_below core ents formed t (goes_on s.reached s.posts.0)

  sender_below : (e t : ℕ) → Sends core ents e t → e < length core.entities
  sender_below e t s =
      let fits = formed.methods s.from s.method s.is_method in
      get_below core.entities e fits.owner (ap (slice_get core.entities) (sym s.entity) ∙ fits.is_owner)

  rows_to : (n : ℕ) → (rows : List Row) × RowsTo core ents n rows
  rows_to zero = ([], rows_none core ents)
  rows_to (suc n) =
      let r = rows_to n in
      let ts = filtered (Sends core ents n) (sends_told n) (length core.methods) in
      let sent : AreSent core ents n ts.0 = record { ascends = ts.1.ascends; exact = filtered_all (Sends core ents n) (length core.methods) ts.0 ts.1 (target_below n) } in
      let next : n + 1 ≡ suc n = omega arith in
      (r.0 ++ map (row n) ts.0, subst (λ k. RowsTo core ents k (r.0 ++ map (row n) ts.0)) next (rows_next core ents n r.0 ts.0 r.1 sent))

  -- ---- what is never sent

  own_actor_told : (e : ℕ) → Told (IsOwnActor core e)
  own_actor_told e =
      turned (λ h. record { entity = h.0; is_entity = h.1; own = h.2.0; actor = h.2.1 }) (λ (o : IsOwnActor core e). (o.entity, o.is_entity, (o.own, o.actor)))
      (at_told core.entities e (λ (x : EntityDef). (first_own ≤ e) × (x.kind ≡ kind.Actor)) (λ x. both_told (least_told first_own e) (actor_told x.kind)))

  of_actor_told : (t : ℕ) → Told (IsOfActor core t)
  of_actor_told t =
      turned (λ h. record { method = h.0; is_method = h.1; message = h.2.0; actor = h.2.1 }) (λ (o : IsOfActor core t). (o.method, o.is_method, (o.message, o.actor)))
      (at_told core.methods t (λ (x : Method). (is_message x.kind ≡ true) × IsOwnActor core x.entity) (λ x. both_told (true_told (is_message x.kind)) (own_actor_told x.entity)))

  later_told : (t : ℕ) (o : Option (ℕ × ℕ)) → Told (IsLater o t)
  later_told t None = inl (λ e h. none-some (e, t) h)
  later_told t (Some (e0, t0)) = elim (cases_eq t0 t) [
    | inl same ↦ inr (λ h. h e0 (ap (λ n. Some (e0, n)) same))
    | inr differ ↦ inl (λ e h. differ (ap (λ (p : ℕ × ℕ). p.1) (same_Some (e0, t0) (e, t) h)))
  ]

  unsent_told : (t : ℕ) → Told ((e : ℕ) → Sends core ents e t → ⊥)
  unsent_told t = turned (λ refuted e s. refuted (e, sender_below e t s, s)) (λ none h. none h.0 h.2) (not_told (some_told (λ e. Sends core ents e t) (λ e. sends_told e t) (length core.entities)))

  never_told : (t : ℕ) → Told (IsNever core ents t)
  never_told t =
      turned (λ h. record { of_actor = h.0; later = h.1.0; unsent = h.1.1 }) (λ (n : IsNever core ents t). (n.of_actor, (n.later, n.unsent)))
      (both_told (of_actor_told t) (both_told (later_told t (main_create core)) (unsent_told t)))

  -- ---- the table

  pub table_is_there : (table : Table) × IsTable core ents table
  table_is_there =
      let rows = rows_to (length core.entities) in
      let never = filtered (IsNever core ents) never_told (length core.methods) in
      let found = filtered (Reach core ents) reach_told (length core.methods) in (
        record { rows = rows.0; never = never.0; reached = found.0 },
        record {
          order = rows.1.order;
          rows = rows_all core ents (length core.entities) rows.0 formed (omega arith) rows.1;
          never_ascends = never.1.ascends;
          never = filtered_all (IsNever core ents) (length core.methods) never.0 never.1 (λ t n. get_below core.methods t n.of_actor.method n.of_actor.is_method);
          reached_ascends = found.1.ascends;
          reached = filtered_all (Reach core ents) (length core.methods) found.0 found.1 (reach_below core ents formed);
        },
      )

pub sends_answers : CoresAreFormed → (source : Named) → ReadOn source_limit source → IsSome source.known → Answers (IsSends source)
sends_answers law source on known =
    accepted_answers law Sent source on known
    (λ r a h.
    let table = table_is_there a.source.core (source_formed law (accepted_source h).0).0 (noted_entities a.ann) in
    let text = table_text a.source.core table.0 in
    (done text, (text, (table.0, table.1, refl), refl)))
