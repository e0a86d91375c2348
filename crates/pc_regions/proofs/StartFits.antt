-- The start of a program has regions: the stream's and Main's are open, and the environment is frozen.
use Rattle.std.specs.{Prelude.{◌≡◌, ◌⊎◌, ℕ, zero, suc, ◌<◌, ◌≤◌, Bool, true, false, List, [], ◌∷◌, Option, Some, None, nat_eq, cond, slice_get, refl}, FinMap.{empty, get, get-empty}}
use Rattle.std.proofs.{Common.{inl, inr, ap, sym, subst, ◌∙◌, arith}, lemmas.Bool.eqb-true, lemmas.Option.{same_Some, none-some}}
use Rattle.pc_heap.specs.{Objects.{address_cmp, Object}, declared.value.Address.Address, declared.value.Value.Value, declared.value.Value.TheVariants.At}
use Rattle.pc_caps.specs.{Tables.unalias, declared.capability.Cap.Cap}
use Rattle.pc_caps.specs.declared.capability.Cap.TheVariants as cap
use Rattle.pc_caps.specs.declared.capability.Form.TheVariants as form
use Rattle.pc_core.specs.{declared.declarations.EntityDef.EntityDef, declared.declarations.FieldInfo.FieldInfo, declared.declarations.Method.Method, declared.declarations.ParamInfo.ParamInfo, CoreData.CoreData, Entities.out_field, Formed.Formed}
use Rattle.pc_ann.specs.declared.annotation.Ann.{Ann}
use Rattle.pc_semantics.specs.{declared.actors.Actor.Actor, Configurations.{own_address, blank_object, environment, environment_address, start_of, start}, Parts.number_of_fields}
use Rattle.pc_regions.proofs.{World.{Place, InField, InMail, Standing, Unused, Froze, Opened, Held, Child, World, ice, Fits, WorldOk}, Fitting.{FieldsFit, MessageFits, ActorFits, HasRegions}, ValueKeeps.tag_fits}
use Rattle.pc_types.proofs.{Heaps.{get_here, put_or_before, put_stays}, Made.no_value, Starts.{with_stream, with_environment, with_main, env_is, main_found}}

-- ---- the world of the start

-- The first objects of actors 0 and 1 are in their own regions, the environment is in region 2, and the rest in one that is not in use.
abbrev first_region : Address → ℕ
first_region a = cond (nat_eq a.serial 0) (cond (nat_eq a.maker 0) 0 (cond (nat_eq a.maker 1) 1 3)) (cond (nat_eq a.serial 1) (cond (nat_eq a.maker 0) 2 3) 3)

abbrev first_stands : ℕ → Standing
first_stands zero = Opened 0
first_stands (suc zero) = Opened 1
first_stands (suc (suc zero)) = Froze
first_stands (suc (suc (suc n))) = Unused

abbrev first_role : ℕ → Option (ℕ × ℕ)
first_role zero = Some (0, 0)
first_role (suc zero) = Some (1, 0)
first_role (suc (suc n)) = None

-- Main's constructor is the one message that was sent.
abbrev first_sent : ℕ → ℕ
first_sent (suc zero) = 1
first_sent n = 0

abbrev first_world : World
first_world = record { region = first_region; stands = first_stands; role = first_role; context = λ i j. i; top = λ i. 0; sent = first_sent; next = 4 }

chosen_below : (b d e g : Bool) → cond b (cond d 0 (cond e 1 3)) (cond g (cond d 2 3) 3) < 4
chosen_below true true e g = omega arith
chosen_below true false true g = omega arith
chosen_below true false false g = omega arith
chosen_below false true e true = omega arith
chosen_below false false e true = omega arith
chosen_below false d e false = omega arith

-- If none of the first three addresses is meant, the region is the last one.
chosen_rest : (b d e g : Bool) → (b ≡ true → d ≡ true → ⊥) → (b ≡ true → e ≡ true → ⊥) → (g ≡ true → d ≡ true → ⊥) → ◌≡◌ {A = ℕ} (cond b (cond d 0 (cond e 1 3)) (cond g (cond d 2 3) 3)) 3
chosen_rest true true e g x y z = absurd (x refl refl)
chosen_rest true false true g x y z = absurd (y refl refl)
chosen_rest true false false g x y z = refl
chosen_rest false true e true x y z = absurd (z refl refl)
chosen_rest false false e true x y z = refl
chosen_rest false d e false x y z = refl

named_first : (i j : ℕ) → i < 2 → j ≤ 0 → first_role i ≡ Some (i, j)
named_first zero zero l t = refl
named_first (suc zero) zero l t = refl
named_first zero (suc j) l t = absurd (omega (arith, t))
named_first (suc zero) (suc j) l t = absurd (omega (arith, t))
named_first (suc (suc i)) j l t = absurd (omega (arith, l))

role_of : (q k i j : ℕ) → k < 2 → k ≡ q → ◌≡◌ {A = ℕ × ℕ} (k, 0) (i, j) → (i < 2) × (j ≤ 0) × (i ≡ q)
role_of q k i j l at e =
    let a : k ≡ i = ap (λ (p : ℕ × ℕ). p.0) e in
    let b : 0 ≡ j = ap (λ (p : ℕ × ℕ). p.1) e in
    (omega (arith, a, l), omega (arith, b), sym a ∙ at)

roles_first : (q i j : ℕ) → first_role q ≡ Some (i, j) → (i < 2) × (j ≤ 0) × (i ≡ q)
roles_first zero i j e = role_of 0 0 i j (omega arith) refl (same_Some (0, 0) (i, j) e)
roles_first (suc zero) i j e = role_of 1 1 i j (omega arith) refl (same_Some (1, 0) (i, j) e)
roles_first (suc (suc q)) i j e = absurd (none-some (i, j) e)

root_first : (i : ℕ) → i < 2 → first_stands i ≡ Opened i
root_first zero l = refl
root_first (suc zero) l = refl
root_first (suc (suc i)) l = absurd (omega (arith, l))

own_first : (i : ℕ) → i < 2 → first_region (own_address i) ≡ i
own_first zero l = refl
own_first (suc zero) l = refl
own_first (suc (suc i)) l = absurd (omega (arith, l))

unused_first : (q : ℕ) → 4 ≤ q → (first_stands q ≡ Unused) × (first_role q ≡ None)
unused_first zero l = absurd (omega (arith, l))
unused_first (suc zero) l = absurd (omega (arith, l))
unused_first (suc (suc zero)) l = absurd (omega (arith, l))
unused_first (suc (suc (suc n))) l = (refl, refl)

no_child : (q u : ℕ) (at : Option Place) → first_stands q ≡ Child u at → ⊥
no_child zero u at e = cc
no_child (suc zero) u at e = cc
no_child (suc (suc zero)) u at e = cc
no_child (suc (suc (suc n))) u at e = cc

no_holder : (q : ℕ) (p : Place) → first_stands q ≡ Held p → ⊥
no_holder zero p e = cc
no_holder (suc zero) p e = cc
no_holder (suc (suc zero)) p e = cc
no_holder (suc (suc (suc n))) p e = cc

abbrev address : ℕ → ℕ → Address
address m s = record { maker = m; serial = s }

is_address : (a : Address) (m s : ℕ) → nat_eq a.serial s ≡ true → nat_eq a.maker m ≡ true → a ≡ address m s
is_address a m s e g = ap (λ (x : ℕ). address x a.serial) (eqb-true a.maker m g) ∙ ap (address m) (eqb-true a.serial s e)

-- What was put there, and two more since.
not_absent : (core : CoreData) (main : ℕ) (a : Address) → (a ≡ own_address 0) ⊎ ((a ≡ own_address 1) ⊎ (a ≡ environment_address)) → get (with_main core main) a ≡ None → ⊥
not_absent core main a (inl is) none = let o = put_stays (with_environment core) (own_address 1) (blank_object core main) a (put_stays (with_stream core) environment_address (environment core) a (blank_object core 5, ap (get (with_stream core)) is ∙ get_here empty (own_address 0) (blank_object core 5))) in none-some o.0 (sym none ∙ o.1)
not_absent core main a (inr (inl is)) none = none-some (blank_object core main) (sym none ∙ ap (get (with_main core main)) is ∙ get_here (with_environment core) (own_address 1) (blank_object core main))
not_absent core main a (inr (inr is)) none = let o = put_stays (with_environment core) (own_address 1) (blank_object core main) a (environment core, ap (get (with_environment core)) is ∙ get_here (with_stream core) environment_address (environment core)) in none-some o.0 (sym none ∙ o.1)

absent_first : (core : CoreData) (main : ℕ) (a : Address) → get (with_main core main) a ≡ None → first_stands (first_region a) ≡ Unused
absent_first core main a none =
    ap first_stands (chosen_rest (nat_eq a.serial 0) (nat_eq a.maker 0) (nat_eq a.maker 1) (nat_eq a.serial 1)
    (λ s m. not_absent core main a (inl (is_address a 0 0 s m)) none) (λ s m. not_absent core main a (inr (inl (is_address a 1 0 s m))) none)
    (λ s m. not_absent core main a (inr (inr (is_address a 0 1 s m))) none))

in_use_at : (a b : Address) (s : Standing) → a ≡ b → first_stands (first_region b) ≡ s → (s ≡ Unused → ⊥) → first_stands (first_region a) ≡ Unused → ⊥
in_use_at a b s is e used u = used (sym e ∙ ap (λ (x : Address). first_stands (first_region x)) (sym is) ∙ u)

present_first : (core : CoreData) (main : ℕ) (a : Address) (o : Object) → get (with_main core main) a ≡ Some o → first_stands (first_region a) ≡ Unused → ⊥
present_first core main a o at u =
    elim (put_or_before (with_environment core) (own_address 1) (blank_object core main) a o at) [
      | inl p ↦ in_use_at a (own_address 1) (Opened 1) p.0 refl (λ e. cc) u
      | inr p ↦ elim (put_or_before (with_stream core) environment_address (environment core) a o p) [
        | inl q ↦ in_use_at a environment_address Froze q.0 refl (λ e. cc) u
        | inr q ↦ elim (put_or_before empty (own_address 0) (blank_object core 5) a o q) [
          | inl s ↦ in_use_at a (own_address 0) (Opened 0) s.0 refl (λ e. cc) u
          | inr s ↦ absurd (none-some o (sym (get-empty address_cmp a) ∙ s))
        ]
      ]
    ]

homes_first : (i : ℕ) → i < 2 → first_stands i ≡ Unused → ⊥
homes_first zero l e = cc
homes_first (suc zero) l e = cc
homes_first (suc (suc i)) l e = omega (arith, l)

world_first : (core : CoreData) (main : ℕ) → WorldOk first_world (with_main core main) 2
world_first core main = record {
  zero = refl;
  named = λ i j l t. named_first i j l t;
  roles = λ q i j e. roles_first q i j e;
  root = λ i l. root_first i l;
  own = λ i l. own_first i l;
  contexts = λ i j l t. inl (root_first i l);
  unused = λ q l. unused_first q l;
  regions = λ a. chosen_below (nat_eq a.serial 0) (nat_eq a.maker 0) (nat_eq a.maker 1) (nat_eq a.serial 1);
  parents = λ q u at e. absurd (no_child q u at e);
  holders = λ q a k e. absurd (no_holder q (InField a k) e);
  absent = absent_first core main;
  present = present_first core main;
  homes = λ i l there e. homes_first i there e;
}

-- ---- the objects

module _ (core : CoreData) (ann : Ann) (formed : Formed core) where
  -- The environment's field is a `tag`.
  out_tag : (k : ℕ) (f : FieldInfo) → slice_get (out_field formed.built_in.out ∷ []) k ≡ Some f → f.cap ≡ cap.Tag
  out_tag zero f e = sym (ap (λ (g : FieldInfo). g.cap) (same_Some (out_field formed.built_in.out) f e))
  out_tag (suc k) f e = absurd (none-some f e)

  blank_field : (a : Address) (d k : ℕ) (f : FieldInfo) (v : Value) (o : Object) → o ≡ blank_object core d → slice_get o.fields k ≡ Some (Some v) → Fits first_world (InField a k) (unalias f.cap) v
  blank_field a d k f v o is e =
      absurd (no_value core (number_of_fields (slice_get core.entities d)) k v (ap (λ (p : Object). slice_get p.fields k) (sym is) ∙ e))

  env_fits : (a : Address) (e : EntityDef) (k : ℕ) (f : FieldInfo) (v : Value) (o : Object) → o ≡ environment core → slice_get core.entities o.entity ≡ Some e → slice_get e.fields k ≡ Some f → Fits first_world (InField a k) (unalias f.cap) v
  env_fits a e k f v o is at g =
      let four : o.entity ≡ 4 = ap (λ (p : Object). p.entity) (is ∙ env_is core formed) in
      let env = same_Some _ e (sym formed.built_in.env ∙ ap (slice_get core.entities) (sym four) ∙ at) in
      subst (λ (c : Cap). Fits first_world (InField a k) (unalias c) v) (sym (out_tag k f (ap (λ (x : EntityDef). slice_get x.fields k) env ∙ g))) (tag_fits first_world (InField a k) v)

  fields_first : FieldsFit core first_world (with_main core formed.main.entity)
  fields_first a o e k f v at is g h =
      elim (put_or_before (with_environment core) (own_address 1) (blank_object core formed.main.entity) a o at) [
        | inl p ↦ blank_field a formed.main.entity k f v o p.1 h
        | inr p ↦ elim (put_or_before (with_stream core) environment_address (environment core) a o p) [
          | inl q ↦ env_fits a e k f v o q.1 is g
          | inr q ↦ elim (put_or_before empty (own_address 0) (blank_object core 5) a o q) [
            | inl s ↦ blank_field a 5 k f v o s.1 h
            | inr s ↦ absurd (none-some o (sym (get-empty address_cmp a) ∙ s))
          ]
        ]
      ]

  -- ---- the actors

  val_fits : (n : ℕ) (v : Value) → slice_get (At environment_address ∷ []) n ≡ Some v → Fits first_world (InMail 1 0 n) form.Val v
  val_fits zero v e = subst (λ (u : Value). Fits first_world (InMail 1 0 0) form.Val u) (same_Some (At environment_address) v e) (ice refl)
  val_fits (suc n) v e = absurd (none-some v e)

  only_val : (n : ℕ) (p : ParamInfo) → slice_get (formed.main.param ∷ []) n ≡ Some p → p.cap ≡ cap.Val
  only_val zero p e = ap (λ (q : ParamInfo). q.cap) (sym (same_Some formed.main.param p e)) ∙ formed.main.cap
  only_val (suc n) p e = absurd (none-some p e)

  create_fits : MessageFits core first_world 1 0 (record { method = formed.main.number; arguments = At environment_address ∷ [] })
  create_fits x n p v is e h =
      let own : formed.main.create ≡ x = same_Some formed.main.create x (sym formed.main.is_method ∙ is) in
      let at : slice_get (formed.main.param ∷ []) n ≡ Some p = ap (λ (ps : List ParamInfo). slice_get ps n) (sym formed.main.params) ∙ ap (λ (m : Method). slice_get m.params n) own ∙ e in
      subst (λ (c : Cap). Fits first_world (InMail 1 0 n) (unalias c) v) (sym (only_val n p at)) (val_fits n v h)

  actors_first : (i : ℕ) (a : Actor) → slice_get (start_of core (Some (formed.main.entity, formed.main.number))).actors i ≡ Some a → ActorFits core ann first_world i a
  actors_first zero a e = subst (ActorFits core ann first_world 0) (same_Some _ a e) ((0, refl), refl)
  actors_first (suc zero) a e = subst (ActorFits core ann first_world 1) (same_Some _ a e) ((0, (create_fits, refl)), refl)
  actors_first (suc (suc i)) a e = absurd (none-some a e)

  pub start_in_regions : HasRegions core ann (start core)
  start_in_regions =
      subst (λ (main : Option (ℕ × ℕ)). HasRegions core ann (start_of core main)) (sym (main_found core formed))
      (first_world, record { world = world_first core formed.main.entity; fields = fields_first; actors = actors_first })
