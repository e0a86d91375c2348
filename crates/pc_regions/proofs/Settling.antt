-- A value on a stack settles at each place where it lands, near enough.
use Rattle.std.specs.{Prelude.{◌≡◌, ◌≢◌, ◌⊎◌, ℕ, ◌<◌, ◌≤◌, Bool, true, false, Option, Some, None, refl}, FinMap.get}
use Rattle.std.proofs.{Common.{inl, inr, ap, sym, subst, ◌∙◌, arith}, lemmas.Bool.cases_lt, lemmas.Option.none-some}
use Rattle.pc_heap.specs.{Objects.{ObjectMap, Object}, declared.value.Address.Address, declared.value.Value.Value, declared.value.Value.TheVariants.{Num, Truth, Text, Prim, At}}
use Rattle.pc_caps.specs.{Computed.is_below, Tables.sendable_form, declared.capability.Form.Form}
use Rattle.pc_caps.specs.declared.capability.Form.TheVariants as form
use Rattle.pc_base.proofs.Bools.{false_true}
use Rattle.pc_regions.proofs.{World.{Place, InSlot, OnStack, InField, InMail, Standing, Unused, Froze, Opened, Loose, Held, Child, World, home, Frozen, ice, Belongs, stack, child, Seen, same, under, frozen, steady, Over, over_loose, over_slot, over_own, over_field, over_part, over_child, FitsIn, Fits, AliasIn, Alias, WorldOk}, Changes.{standing, renamed, child_renamed, merged}, Settled.{Lands, NearTrn, Near, Settled, SettleLaw}, OneHolder.{not_frozen, context_belongs}, StandsOtherwise.{stand_here, stand_other, none_over_stack, home_standing}, Calm.calm_same}
use Rattle.pc_regions.proofs.StandsOtherwise as stands
use Rattle.pc_regions.proofs.Merge as merge

-- ---- how regions stand

pub no_place : (u n : ℕ) (at : Option Place) (b : Address) → Child u at ≡ Held (InField b n) → ⊥
no_place u n at b e = cc

pub held_no_child : (p : Place) (u : ℕ) (at : Option Place) → Held p ≡ Child u at → ⊥
held_no_child p u at e = cc

-- ---- the region of what a stack owns

-- It is held there, or a child of the region with which the place lives.
abbrev pub OwnedBy : World → Place → ℕ → Type 0
OwnedBy w p q = (w.stands q ≡ Held p) ⊎ (w.stands q ≡ Child (home w p) (Some p))

none_or : (o : Option (ℕ × ℕ)) → ((x : ℕ × ℕ) × (o ≡ Some x)) ⊎ (o ≡ None)
none_or None = inr refl
none_or (Some x) = inl (x, refl)

-- There is no level over a child that a stack holds.
pub none_over_part : (w : World) (j q m u i h d l : ℕ) → w.stands q ≡ Child u (Some (OnStack i h d l)) → Over w j q m → ⊥
none_over_part w j q m u i h d l e (over_loose f) = cc
none_over_part w j q m u i h d l e (over_slot g s f) = cc
none_over_part w j q m u i h d l e (over_own a n f r) = cc
none_over_part w j q m u i h d l e (over_field a n f r o) = cc
none_over_part w j q m u i h d l e (over_part v at f s r) = let is : at ≡ Some (OnStack i h d l) = cc in false_true (sym (ap steady is) ∙ s)
none_over_part w j q m u i h d l e (over_child v at f s r o) = let is : at ≡ Some (OnStack i h d l) = cc in false_true (sym (ap steady is) ∙ s)

no_alias : (w : World) (j c k : ℕ) (v : Value) → Alias w j c k form.Ref v
no_alias w j c k (At a) = tt
no_alias w j c k (Num n) = tt
no_alias w j c k (Truth t) = tt
no_alias w j c k (Text t) = tt
no_alias w j c k (Prim n) = tt

module _
    (w : World) (objects : ObjectMap) (count : ℕ) (ok : WorldOk w objects count) (i : ℕ) (here : i < count) (h d l : ℕ) (level : l ≤ w.top i)
    (gone : Place → Bool) (left : gone (OnStack i h d l) ≡ true) (a : Address) (own : OwnedBy w (OnStack i h d l) (w.region a))
  where
    abbrev q : ℕ
    q = w.region a

    abbrev at_stack : Place
    at_stack = OnStack i h d l

    -- ---- what is known of it

    mine_if : OwnedBy w at_stack q → Belongs w i q
    mine_if (inl e) = stack h d l e
    mine_if (inr e) = child (w.context i l) (Some at_stack) e (context_belongs w objects count ok i here l level)

    warm : Frozen w q → ⊥
    warm f = not_frozen w (mine_if own) f

    shut_if : OwnedBy w at_stack q → (j : ℕ) → w.stands q ≡ Opened j → ⊥
    shut_if (inl e) j f = cc
    shut_if (inr e) j f = cc

    free_if : OwnedBy w at_stack q → (j m : ℕ) → Over w j q m → ⊥
    free_if (inl e) j m o = none_over_stack w j q m i h d l e o
    free_if (inr e) j m o = none_over_part w j q m (w.context i l) i h d l e o

    held_if : OwnedBy w at_stack q → (p : Place) → w.stands q ≡ Held p → gone p ≡ true
    held_if (inl e) p f = let is : at_stack ≡ p = cc in ap gone (sym is) ∙ left
    held_if (inr e) p f = absurd (cc)

    part_if : OwnedBy w at_stack q → (u : ℕ) (p : Place) → w.stands q ≡ Child u (Some p) → gone p ≡ true
    part_if (inl e) u p f = absurd (cc)
    part_if (inr e) u p f = let is : at_stack ≡ p = cc in ap gone (sym is) ∙ left

    unsteady_if : OwnedBy w at_stack q → (u : ℕ) (at : Option Place) → w.stands q ≡ Child u at → steady at ≡ true → ⊥
    unsteady_if (inl e) u at f t = cc
    unsteady_if (inr e) u at f t = let is : at ≡ Some at_stack = cc in false_true (sym (ap steady is) ∙ t)

    no_context : (j m : ℕ) → j < count → m ≤ w.top j → q ≡ w.context j m → ⊥
    no_context j m there t is =
        elim (ok.contexts j m there t) [
          | inl e ↦ shut_if own j (ap w.stands is ∙ e)
          | inr o ↦ free_if own j o.0 (subst (λ (x : ℕ). Over w j x o.0) (sym is) o.2)
        ]

    pub plain : w.role q ≡ None
    plain =
        elim (none_or (w.role q)) [
          | inl x ↦ let k = ok.roles q x.0.0 x.0.1 x.1 in absurd (no_context x.0.0 x.0.1 k.0 k.1 (sym k.2))
          | inr e ↦ e
        ]

    -- ---- it stands as s

    module _
        (s : Standing) (seen : (c u : ℕ) (at : Option Place) → w.stands q ≡ Child u at → Seen (standing w q s) c u → Seen (standing w q s) c q)
        (parent : (u : ℕ) (at : Option Place) → s ≡ Child u at → u < w.next) (holder : (a : Address) (k : ℕ) → s ≡ Held (InField a k) → (o : Object) × (get objects a ≡ Some o)) (alive : s ≡ Unused → ⊥)
      where
        stays : (x : ℕ) → (q ≡ x → ⊥) → (standing w q s).stands x ≡ w.stands x
        stays x n = stand_other w.stands q s x n

        over_on : (j : ℕ) {x m : ℕ} → Over w j x m → Over (standing w q s) j x m
        over_on j {x} {m} o =
            stands.over_through w objects count ok i here (w.top i) gone q s (mine_if own) warm (shut_if own) (held_if own) (part_if own) (λ n low k. free_if own i n k) (λ n up down. absurd (omega (arith, up, down))) seen parent holder alive j m
            (λ y k is. free_if own j m (subst (λ (z : ℕ). Over w j z m) (sym is) k)) o

        alias_in : (j c k : ℕ) (f : Form) (x : ℕ) → AliasIn w j c k f x → AliasIn (standing w q s) j c k f x
        alias_in j c k form.Iso x a =
            let far = λ (is : q ≡ x). free_if own j a.2 (subst (λ (z : ℕ). Over w j z a.2) (sym is) a.5) in
            (a.0, λ u at e. a.1 u at (sym (stays x far) ∙ e), a.2, a.3, a.4, over_on j a.5)
        alias_in j c k form.Trn x a =
            let far = λ (is : q ≡ x). unsteady_if own (w.context j k) a.1 (ap w.stands is ∙ a.2) a.3 in
            (a.0, a.1, stays x far ∙ a.2, a.3)
        alias_in j c k form.IsoE x a = tt
        alias_in j c k form.TrnE x a = tt
        alias_in j c k form.Ref x a = tt
        alias_in j c k form.Val x a = tt
        alias_in j c k form.Box x a = tt
        alias_in j c k form.Tag x a = tt

        alias_on : (j c k : ℕ) (f : Form) (v : Value) → Alias w j c k f v → Alias (standing w q s) j c k f v
        alias_on j c k f (At a) e = alias_in j c k f (w.region a) e
        alias_on j c k f (Num m) e = tt
        alias_on j c k f (Truth t) e = tt
        alias_on j c k f (Text t) e = tt
        alias_on j c k f (Prim m) e = tt

        standing_settles : (f g : Form) (to : Place) (v : Value) → Fits (standing w q s) to g v
            → ((c : ℕ) → c ≤ w.top i → (g ≡ form.Trn → home w to ≡ w.context i (w.top i)) → Alias w i c (w.top i) f v → Alias (standing w q s) i c (w.top i) g v)
            → Settled w (standing w q s) objects count i gone f g to v
        standing_settles f g to v fits fresh = record {
          calm = record {
            shifts = stands.standing_shifts w objects count ok i here (w.top i) gone q s (mine_if own) warm (shut_if own) (held_if own) (part_if own) (λ n low k. free_if own i n k) (λ n up down. absurd (omega (arith, up, down))) seen parent holder alive;
            role = λ x. refl;
            context = λ j m there t. refl;
            top = λ j. refl;
            opened = λ x j e. stays x (λ is. shut_if own j (ap w.stands is ∙ e)) ∙ e;
            over = λ j o. over_on j o;
            alias = λ j c k g u there t a. alias_on j c k g u a;
          };
          fits = fits;
          fresh = fresh;
        }

    -- ---- it becomes a part of r

    module _
        (r : ℕ) (apart : q ≡ r → ⊥) (used : r < w.next) (alive : w.stands r ≡ Unused → ⊥)
        (seen : (c u : ℕ) (at : Option Place) → w.stands q ≡ Child u at → Seen (merged w q r) c (renamed q r u) → Seen (merged w q r) c r)
      where
        merged_settles : (f : Form) (to : Place) (v : Value) → Fits (merged w q r) to form.Ref v → Settled w (merged w q r) objects count i gone f form.Ref to v
        merged_settles f to v fits = record {
          calm = record {
            shifts = merge.merged_shifts w objects count ok i here (w.top i) (omega arith) gone q r apart used alive plain (mine_if own) warm (shut_if own) (held_if own) (part_if own) (free_if own) (unsteady_if own) seen;
            role = λ x. refl;
            context = λ j m there t. merge.context_same w objects count ok i here (w.top i) (omega arith) gone q r apart used alive plain (mine_if own) warm (shut_if own) (held_if own) (part_if own) (free_if own) (unsteady_if own) seen j m there t;
            top = λ j. refl;
            opened = λ x j e. merge.opened_on w objects count ok i here (w.top i) (omega arith) gone q r apart used alive plain (mine_if own) warm (shut_if own) (held_if own) (part_if own) (free_if own) (unsteady_if own) seen x j e;
            over = λ j {q = x} {l = m} o. merge.over_on w objects count ok i here (w.top i) (omega arith) gone q r apart used alive plain (mine_if own) warm (shut_if own) (held_if own) (part_if own) (free_if own) (unsteady_if own) seen j m o;
            alias = λ j c k g u there t a. merge.alias_on w objects count ok i here (w.top i) (omega arith) gone q r apart used alive plain (mine_if own) warm (shut_if own) (held_if own) (part_if own) (free_if own) (unsteady_if own) seen j c k g u a;
          };
          fits = fits;
          fresh = λ c low at b. no_alias (merged w q r) i c (w.top i) v;
        }

    -- ---- where it lands

    context_used : (m : ℕ) → m ≤ w.top i → w.context i m < w.next
    context_used m t =
        elim (cases_lt (w.context i m) w.next) [
          | inl low ↦ low
          | inr high ↦ absurd (none-some (i, m) (sym (ok.unused (w.context i m) high).1 ∙ ok.named i m here t))
        ]

    landed_used : (g : Form) (to : Place) → Lands w objects i at_stack g to → sendable_form g ≡ false → home w to < w.next
    landed_used g (InSlot j k t m) x n = subst (λ (y : ℕ). w.context y m < w.next) (sym x.0) (context_used m x.1)
    landed_used g (OnStack j k t m) x n = subst (λ (y : ℕ). w.context y m < w.next) (sym x.0) (context_used m x.1)
    landed_used g (InField b k) x n = ok.regions b
    landed_used g (InMail j t k) x n = absurd (false_true (sym n ∙ x))

    landed_alive : (g : Form) (to : Place) → Lands w objects i at_stack g to → sendable_form g ≡ false → w.stands (home w to) ≡ Unused → ⊥
    landed_alive g (InSlot j k t m) x n = subst (λ (y : ℕ). w.stands (w.context y m) ≡ Unused → ⊥) (sym x.0) (ok.homes i m here)
    landed_alive g (OnStack j k t m) x n = subst (λ (y : ℕ). w.stands (w.context y m) ≡ Unused → ⊥) (sym x.0) (ok.homes i m here)
    landed_alive g (InField b k) x n = ok.present b x.0.0 x.0.1
    landed_alive g (InMail j t k) x n = absurd (false_true (sym n ∙ x))

    target_apart : (b : Address) → OwnedBy w at_stack q → (w.stands (w.region b) ≢ Held at_stack) → ((u : ℕ) → w.stands (w.region b) ≢ Child u (Some at_stack)) → q ≡ w.region b → ⊥
    target_apart b (inl e) x y is = x (ap w.stands (sym is) ∙ e)
    target_apart b (inr e) x y is = y (w.context i l) (ap w.stands (sym is) ∙ e)

    landed_apart : (g : Form) (to : Place) → Lands w objects i at_stack g to → sendable_form g ≡ false → q ≡ home w to → ⊥
    landed_apart g (InSlot j k t m) x n is = no_context i m here x.1 (is ∙ ap (λ (y : ℕ). w.context y m) x.0)
    landed_apart g (OnStack j k t m) x n is = no_context i m here x.1 (is ∙ ap (λ (y : ℕ). w.context y m) x.0)
    landed_apart g (InField b k) x n is = target_apart b own x.1 x.2 is
    landed_apart g (InMail j t k) x n is = absurd (false_true (sym n ∙ x))

    landed_holder : (g : Form) (to : Place) → Lands w objects i at_stack g to → (b : Address) (k : ℕ) → Held to ≡ Held (InField b k) → (o : Object) × (get objects b ≡ Some o)
    landed_holder g (InSlot j n t m) x b k e = absurd (cc)
    landed_holder g (OnStack j n t m) x b k e = absurd (cc)
    landed_holder g (InField c n) x b k e = let is : c ≡ b = cc in subst (λ (y : Address). (o : Object) × (get objects y ≡ Some o)) is x.0
    landed_holder g (InMail j t n) x b k e = absurd (cc)

    -- ---- each way of standing

    not_child : (s : Standing) (u : ℕ) (at : Option Place) → s ≡ Held at_stack → s ≡ Child u at → ⊥
    not_child s u at e f = cc

    is_there : (s : Standing) → (standing w q s).stands q ≡ s
    is_there s = stand_here w.stands q s

    parent_is : (u v : ℕ) (at to : Option Place) → Child u at ≡ Child v to → u < w.next → v < w.next
    parent_is u v at to e x = let is : u ≡ v = cc in subst (λ (y : ℕ). y < w.next) is x

    module _
        (to : Place) (f : Form) (seen_held : (c u : ℕ) (at : Option Place) (s : Standing) → w.stands q ≡ Child u at → Seen (standing w q s) c u → Seen (standing w q s) c (home w to))
      where
        -- Below the region with which the place lives.
        below : (at : Option Place) (c u : ℕ) (old : Option Place) → w.stands q ≡ Child u old → Seen (standing w q (Child (home w to) at)) c u → Seen (standing w q (Child (home w to) at)) c q
        below at c u old e k = under (home w to) at (is_there (Child (home w to) at)) (seen_held c u old (Child (home w to) at) e k)

        as_child : (at : Option Place) (g : Form) → Lands w objects i at_stack g to → sendable_form g ≡ false → FitsIn (standing w q (Child (home w to) at)) to g q
            → ((c : ℕ) → c ≤ w.top i → (g ≡ form.Trn → home w to ≡ w.context i (w.top i)) → AliasIn w i c (w.top i) f q → AliasIn (standing w q (Child (home w to) at)) i c (w.top i) g q)
            → Settled w (standing w q (Child (home w to) at)) objects count i gone f g to (At a)
        as_child at g lands n fits fresh =
            standing_settles (Child (home w to) at) (below at) (λ u to' e. parent_is (home w to) u at to' e (landed_used g to lands n)) (λ b k e. absurd (no_place (home w to) k at b e)) (λ e. cc) f g to (At a) fits fresh

        seen_so : (at : Option Place) → Seen (standing w q (Child (home w to) at)) (home (standing w q (Child (home w to) at)) to) q
        seen_so at = under (home w to) at (is_there (Child (home w to) at)) (same (sym (home_standing w q (Child (home w to) at) to)))

        to_trn_own : Lands w objects i at_stack form.TrnE to → Settled w (standing w q (Child (home w to) (Some to))) objects count i gone f form.TrnE to (At a)
        to_trn_own lands =
            as_child (Some to) form.TrnE lands refl (is_there (Child (home w to) (Some to)) ∙ ap (λ (c : ℕ). Child c (Some to)) (sym (home_standing w q (Child (home w to) (Some to)) to))) (λ c low near b. tt)

        to_trn : Lands w objects i at_stack form.Trn to → Settled w (standing w q (Child (home w to) None)) objects count i gone f form.Trn to (At a)
        to_trn lands =
            as_child None form.Trn lands refl (seen_so None) (λ c low near b. (plain, None, is_there (Child (home w to) None) ∙ ap (λ (y : ℕ). Child y None) (near refl), refl))

        to_box : Lands w objects i at_stack form.Box to → Settled w (standing w q (Child (home w to) None)) objects count i gone f form.Box to (At a)
        to_box lands = as_child None form.Box lands refl (seen_so None) (λ c low near b. tt)

    to_val : (f : Form) (to : Place) → Settled w (standing w q Froze) objects count i gone f form.Val to (At a)
    to_val f to =
        standing_settles Froze (λ c u at e k. frozen (ice (is_there Froze))) (λ u at e. absurd (no_parent u at e)) (λ b k e. absurd (no_hold b k e)) (λ e. cc) f form.Val to (At a) (ice (is_there Froze)) (λ c low near b. tt)
      where
        no_parent : (u : ℕ) (at : Option Place) → Froze ≡ Child u at → ⊥
        no_parent u at e = cc

        no_hold : (b : Address) (k : ℕ) → Froze ≡ Held (InField b k) → ⊥
        no_hold b k e = cc

    -- A part of the region with which the place lives.
    to_ref : (f : Form) (to : Place) → Lands w objects i at_stack form.Ref to → ((c u : ℕ) (at : Option Place) → w.stands q ≡ Child u at → Seen (merged w q (home w to)) c (renamed q (home w to) u) → Seen (merged w q (home w to)) c (home w to))
        → Settled w (merged w q (home w to)) objects count i gone f form.Ref to (At a)
    to_ref f to lands seen =
        let apart = landed_apart form.Ref to lands refl in
        merged_settles (home w to) apart (landed_used form.Ref to lands refl) (landed_alive form.Ref to lands refl) seen f to (At a)
        (merge.renamed_here q (home w to) q refl ∙ sym (home_merged to apart))
      where
        home_merged : (p : Place) → (q ≡ home w p → ⊥) → home (merged w q (home w to)) p ≡ home w p
        home_merged (InSlot j k t m) n = merge.renamed_other q (home w to) (w.context j m) n
        home_merged (OnStack j k t m) n = merge.renamed_other q (home w to) (w.context j m) n
        home_merged (InField b k) n = merge.renamed_other q (home w to) (w.region b) n
        home_merged (InMail j t k) n = refl

    -- ---- what was held

    to_loose : (g : Form) (to : Place) → w.stands q ≡ Held at_stack → FitsIn (standing w q (Loose i (w.top i))) to g q
        → ((c : ℕ) → c ≤ w.top i → (g ≡ form.Trn → home w to ≡ w.context i (w.top i)) → AliasIn w i c (w.top i) form.IsoE q → AliasIn (standing w q (Loose i (w.top i))) i c (w.top i) g q)
        → Settled w (standing w q (Loose i (w.top i))) objects count i gone form.IsoE g to (At a)
    to_loose g to e fits fresh =
        standing_settles (Loose i (w.top i)) (λ c u at f k. absurd (not_child (w.stands q) u at e f)) (λ u at f. absurd (no_parent u at f)) (λ b k f. absurd (no_hold b k f)) (λ e. cc) form.IsoE g to (At a) fits fresh
      where
        no_parent : (u : ℕ) (at : Option Place) → Loose i (w.top i) ≡ Child u at → ⊥
        no_parent u at f = cc

        no_hold : (b : Address) (k : ℕ) → Loose i (w.top i) ≡ Held (InField b k) → ⊥
        no_hold b k f = cc

    loose_no_child : (s : Standing) (u : ℕ) (at : Option Place) → s ≡ Loose i (w.top i) → s ≡ Child u at → ⊥
    loose_no_child s u at e f = cc

    from_iso : (g : Form) (to : Place) → w.stands q ≡ Held at_stack → Lands w objects i at_stack g to → (w' : World) × Settled w w' objects count i gone form.IsoE g to (At a)
    from_iso form.IsoE to e lands = (
      standing w q (Held to),
      standing_settles (Held to) (λ c u at f k. absurd (not_child (w.stands q) u at e f)) (λ u at f. absurd (held_no_child to u at f)) (landed_holder form.IsoE to lands) (λ e. cc) form.IsoE form.IsoE to (At a) (is_there (Held to)) (λ c low near b. tt),
    )
    from_iso form.TrnE to e lands = (standing w q (Child (home w to) (Some to)), to_trn_own to form.IsoE (λ c u at s f k. absurd (not_child (w.stands q) u at e f)) lands)
    from_iso form.Iso to e lands = (
      standing w q (Loose i (w.top i)),
      to_loose form.Iso to e tt (λ c low near b. (plain, λ u at f. loose_no_child ((standing w q (Loose i (w.top i))).stands q) u at (is_there (Loose i (w.top i))) f, w.top i, low, omega arith, over_loose (is_there (Loose i (w.top i))))),
    )
    from_iso form.Trn to e lands = (standing w q (Child (home w to) None), to_trn to form.IsoE (λ c u at s f k. absurd (not_child (w.stands q) u at e f)) lands)
    from_iso form.Ref to e lands = (merged w q (home w to), to_ref form.IsoE to lands (λ c u at f k. absurd (not_child (w.stands q) u at e f)))
    from_iso form.Val to e lands = (standing w q Froze, to_val form.IsoE to)
    from_iso form.Box to e lands = (standing w q (Child (home w to) None), to_box to form.IsoE (λ c u at s f k. absurd (not_child (w.stands q) u at e f)) lands)
    from_iso form.Tag to e lands = (standing w q (Loose i (w.top i)), to_loose form.Tag to e tt (λ c low near b. tt))

    -- ---- what was a child

    child_is : (u : ℕ) (at : Option Place) (s : Standing) → s ≡ Child (w.context i l) (Some at_stack) → s ≡ Child u at → w.context i l ≡ u
    child_is u at s e f = cc

    module _ (to : Place) (e : w.stands q ≡ Child (w.context i l) (Some at_stack)) (near : NearTrn w at_stack to) (apart : q ≡ home w to → ⊥) where
      still : (c u : ℕ) (at : Option Place) (s : Standing) → w.stands q ≡ Child u at → Seen (standing w q s) c u → Seen (standing w q s) c (home w to)
      still c u at s f k =
          let from : Seen (standing w q s) c (w.context i l) = subst (Seen (standing w q s) c) (sym (child_is u at (w.stands q) e f)) k in
          elim near [
            | inl is ↦ subst (Seen (standing w q s) c) (sym is) from
            | inr x ↦ under (w.context i l) x.0 (stand_other w.stands q s (home w to) apart ∙ x.1) from
          ]

      home_apart : q ≡ w.context i l → ⊥
      home_apart is = no_context i l here level is

      in_part : (c u : ℕ) (at : Option Place) → w.stands q ≡ Child u at → Seen (merged w q (home w to)) c (renamed q (home w to) u) → Seen (merged w q (home w to)) c (home w to)
      in_part c u at f k =
          let same_home : renamed q (home w to) u ≡ w.context i l =
          ap (renamed q (home w to)) (sym (child_is u at (w.stands q) e f)) ∙ merge.renamed_other q (home w to) (w.context i l) home_apart in
          let from : Seen (merged w q (home w to)) c (w.context i l) = subst (Seen (merged w q (home w to)) c) same_home k in
          elim near [
            | inl is ↦ subst (Seen (merged w q (home w to)) c) (sym is) from
            | inr x ↦ under (w.context i l) x.0 (ap (child_renamed q (home w to)) (stand_other w.stands q Unused (home w to) apart ∙ x.1) ∙ ap (λ (y : ℕ). Child y x.0) (merge.renamed_other q (home w to) (w.context i l) home_apart)) from
          ]

    from_trn : (g : Form) (to : Place) → is_below form.TrnE g ≡ true → w.stands q ≡ Child (w.context i l) (Some at_stack) → Near w at_stack form.TrnE g to → Lands w objects i at_stack g to → (w' : World) × Settled w w' objects count i gone form.TrnE g to (At a)
    from_trn form.IsoE to n e near lands = absurd (false_true n)
    from_trn form.Iso to n e near lands = absurd (false_true n)
    from_trn form.TrnE to n e near lands = (standing w q (Child (home w to) (Some to)), to_trn_own to form.TrnE (still to e near (landed_apart form.TrnE to lands refl)) lands)
    from_trn form.Trn to n e near lands = (standing w q (Child (home w to) None), to_trn to form.TrnE (still to e near (landed_apart form.Trn to lands refl)) lands)
    from_trn form.Box to n e near lands = (standing w q (Child (home w to) None), to_box to form.TrnE (still to e near (landed_apart form.Box to lands refl)) lands)
    from_trn form.Ref to n e near lands = (merged w q (home w to), to_ref form.TrnE to lands (in_part to e near (landed_apart form.Ref to lands refl)))
    from_trn form.Val to n e near lands = (standing w q Froze, to_val form.TrnE to)
    from_trn form.Tag to n e near lands = (
      standing w q (Child (w.context i l) None),
      standing_settles (Child (w.context i l) None)
          (λ c u at f k. under (w.context i l) None (is_there (Child (w.context i l) None)) (subst (Seen (standing w q (Child (w.context i l) None)) c) (sym (child_is u at (w.stands q) e f)) k))
          (λ u at f. parent_is (w.context i l) u None at f (context_used l level)) (λ b k f. absurd (no_place (w.context i l) k None b f)) (λ e. cc) form.TrnE form.Tag to (At a) tt (λ c low near' b. tt),
    )

-- ---- what is shared only comes

module _ (w : World) (p to : Place) (q : ℕ) where
  comes : (f g : Form) → is_below f g ≡ true → (f ≡ form.IsoE → ⊥) → (f ≡ form.TrnE → ⊥) → Near w p f g to → FitsIn w p f q → FitsIn w to g q
  comes form.IsoE g n x y near k = absurd (x refl)
  comes form.TrnE g n x y near k = absurd (y refl)
  comes form.Iso form.Iso n x y near k = tt
  comes form.Trn form.Trn n x y near k = subst (λ (c : ℕ). Seen w c q) (sym near) k
  comes form.Trn form.Box n x y near k = subst (λ (c : ℕ). Seen w c q) (sym near) k
  comes form.Ref form.Ref n x y near k = k ∙ sym near
  comes form.Ref form.Box n x y near k = same (k ∙ sym near)
  comes form.Val form.Val n x y near k = k
  comes form.Val form.Box n x y near k = frozen k
  comes form.Box form.Box n x y near k = subst (λ (c : ℕ). Seen w c q) (sym near) k
  comes f form.Tag n x y near k = tt
  comes f g n x y near k = absurd (false_true n)

  still_fresh : (i c k : ℕ) (f g : Form) → is_below f g ≡ true → (f ≡ form.IsoE → ⊥) → (f ≡ form.TrnE → ⊥) → AliasIn w i c k f q → AliasIn w i c k g q
  still_fresh i c k form.IsoE g n x y a = absurd (x refl)
  still_fresh i c k form.TrnE g n x y a = absurd (y refl)
  still_fresh i c k form.Iso form.Iso n x y a = a
  still_fresh i c k form.Trn form.Trn n x y a = a
  still_fresh i c k f form.Iso n x y a = absurd (false_true n)
  still_fresh i c k f form.Trn n x y a = absurd (false_true n)
  still_fresh i c k f form.IsoE n x y a = tt
  still_fresh i c k f form.TrnE n x y a = tt
  still_fresh i c k f form.Ref n x y a = tt
  still_fresh i c k f form.Val n x y a = tt
  still_fresh i c k f form.Box n x y a = tt
  still_fresh i c k f form.Tag n x y a = tt

-- ---- settling

module _ (w : World) (objects : ObjectMap) (count : ℕ) (ok : WorldOk w objects count) (i : ℕ) (here : i < count) (h d l : ℕ) (level : l ≤ w.top i) (gone : Place → Bool) (left : gone (OnStack i h d l) ≡ true) where
  settled_same : (f g : Form) (to : Place) (v : Value) → Fits w to g v → ((c : ℕ) → Alias w i c (w.top i) f v → Alias w i c (w.top i) g v) → Settled w w objects count i gone f g to v
  settled_same f g to v fits fresh = record { calm = calm_same w objects count i gone ok; fits = fits; fresh = λ c low near a. fresh c a }

  settle_at : (to : Place) (f g : Form) (a : Address) → is_below f g ≡ true → FitsIn w (OnStack i h d l) f (w.region a) → Near w (OnStack i h d l) f g to → Lands w objects i (OnStack i h d l) g to → (w' : World) × Settled w w' objects count i gone f g to (At a)
  settle_at to form.IsoE g a n e near lands = from_iso w objects count ok i here h d l level gone left a (inl e) g to e lands
  settle_at to form.TrnE g a n e near lands = from_trn w objects count ok i here h d l level gone left a (inr e) g to n e near lands
  settle_at to form.Iso g a n e near lands =
      (w, settled_same form.Iso g to (At a) (comes w (OnStack i h d l) to (w.region a) form.Iso g n (λ x. cc) (λ x. cc) near e) (λ c k. still_fresh w (OnStack i h d l) to (w.region a) i c (w.top i) form.Iso g n (λ x. cc) (λ x. cc) k))
  settle_at to form.Trn g a n e near lands =
      (w, settled_same form.Trn g to (At a) (comes w (OnStack i h d l) to (w.region a) form.Trn g n (λ x. cc) (λ x. cc) near e) (λ c k. still_fresh w (OnStack i h d l) to (w.region a) i c (w.top i) form.Trn g n (λ x. cc) (λ x. cc) k))
  settle_at to form.Ref g a n e near lands =
      (w, settled_same form.Ref g to (At a) (comes w (OnStack i h d l) to (w.region a) form.Ref g n (λ x. cc) (λ x. cc) near e) (λ c k. still_fresh w (OnStack i h d l) to (w.region a) i c (w.top i) form.Ref g n (λ x. cc) (λ x. cc) k))
  settle_at to form.Val g a n e near lands =
      (w, settled_same form.Val g to (At a) (comes w (OnStack i h d l) to (w.region a) form.Val g n (λ x. cc) (λ x. cc) near e) (λ c k. still_fresh w (OnStack i h d l) to (w.region a) i c (w.top i) form.Val g n (λ x. cc) (λ x. cc) k))
  settle_at to form.Box g a n e near lands =
      (w, settled_same form.Box g to (At a) (comes w (OnStack i h d l) to (w.region a) form.Box g n (λ x. cc) (λ x. cc) near e) (λ c k. still_fresh w (OnStack i h d l) to (w.region a) i c (w.top i) form.Box g n (λ x. cc) (λ x. cc) k))
  settle_at to form.Tag g a n e near lands =
      (w, settled_same form.Tag g to (At a) (comes w (OnStack i h d l) to (w.region a) form.Tag g n (λ x. cc) (λ x. cc) near e) (λ c k. still_fresh w (OnStack i h d l) to (w.region a) i c (w.top i) form.Tag g n (λ x. cc) (λ x. cc) k))

  settle_value : (to : Place) (f g : Form) (v : Value) → is_below f g ≡ true → Fits w (OnStack i h d l) f v → Near w (OnStack i h d l) f g to → Lands w objects i (OnStack i h d l) g to → (w' : World) × Settled w w' objects count i gone f g to v
  settle_value to f g (At a) n e near lands = settle_at to f g a n e near lands
  settle_value to f g (Num m) n e near lands = (w, settled_same f g to (Num m) tt (λ c a. tt))
  settle_value to f g (Truth t) n e near lands = (w, settled_same f g to (Truth t) tt (λ c a. tt))
  settle_value to f g (Text t) n e near lands = (w, settled_same f g to (Text t) tt (λ c a. tt))
  settle_value to f g (Prim m) n e near lands = (w, settled_same f g to (Prim m) tt (λ c a. tt))

pub settle : SettleLaw
settle w objects count ok i here h d l level gone left to f g v n fits near lands = settle_value w objects count ok i here h d l level gone left to f g v n fits near lands
