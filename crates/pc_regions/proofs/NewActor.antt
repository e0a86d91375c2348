-- A new actor: its object is in a new region, which is open and its first context, and one message was sent to it.
use Rattle.std.specs.{Prelude.{◌≡◌, ◌⊎◌, ℕ, suc, ◌+◌, ◌<◌, ◌≤◌, Bool, cond, Option, Some, None, nat_eq}, FinMap.{get, insert}}
use Rattle.std.proofs.{Common.{inl, inr, ap, sym, subst, ◌∙◌, arith}, lemmas.Bool.{eq-eqb, ne_eqb, cases_eq}, lemmas.Option.{same_Some, none-some}}
use Rattle.pc_heap.specs.{Objects.{ObjectMap, Object}, declared.value.Address.Address}
use Rattle.pc_semantics.specs.Configurations.{own_address}
use Rattle.pc_regions.proofs.{World.{InField, Standing, Unused, Opened, Held, Child, World, Over, WorldOk}, Changes.{stand, with_number, with_role}, StandsOtherwise.{stand_here, stand_other}, SameRegions.{number_here, number_other, role_here, role_other}, NewAddress.{with_region, region_here, region_other, still_absent, present_or, region_low}, WorldGrows.{opened_used, Grows, grows}}
use Rattle.pc_types.proofs.Heaps.{address_cases, put_stays}

-- Actor n is there.
abbrev pub born : World → ℕ → World
born w n = record {
  region = with_region w.region (own_address n) w.next;
  stands = stand w.stands w.next (Opened n);
  role = with_role w.role w.next (Some (n, 0));
  context = λ j l. cond (nat_eq n j) w.next (w.context j l);
  top = with_number w.top n 0;
  sent = with_number w.sent n 1;
  next = suc w.next;
}

module _ (w : World) (objects : ObjectMap) (n : ℕ) (ok : WorldOk w objects n) (none : get objects (own_address n) ≡ None) where
  fresh : (w.stands w.next ≡ Unused) × (w.role w.next ≡ None)
  fresh = ok.unused w.next (omega arith)

  there : (born w n).stands w.next ≡ Opened n
  there = stand_here w.stands w.next (Opened n)

  kept : (x : ℕ) (s : Standing) → w.stands x ≡ s → (s ≡ Unused → ⊥) → (born w n).stands x ≡ s
  kept x s e used = stand_other w.stands w.next (Opened n) x (λ is. used (sym e ∙ sym (ap w.stands is) ∙ fresh.0)) ∙ e

  before : (x : ℕ) (s : Standing) → (born w n).stands x ≡ s → (Opened n ≡ s → ⊥) → w.stands x ≡ s
  before x s e other =
      elim (cases_eq w.next x) [
        | inl is ↦ absurd (other (sym there ∙ ap (born w n).stands is ∙ e))
        | inr differ ↦ sym (stand_other w.stands w.next (Opened n) x differ) ∙ e
      ]

  used_on : (x : ℕ) → (w.stands x ≡ Unused → ⊥) → (born w n).stands x ≡ Unused → ⊥
  used_on x used e = used (before x Unused e (opened_used n))

  role_kept : (x j l : ℕ) → w.role x ≡ Some (j, l) → (born w n).role x ≡ Some (j, l)
  role_kept x j l e = role_other w.role w.next (Some (n, 0)) x (λ is. none-some (j, l) (sym fresh.1 ∙ ap w.role is ∙ e)) ∙ e

  role_none : (x : ℕ) → (w.stands x ≡ Unused → ⊥) → w.role x ≡ None → (born w n).role x ≡ None
  role_none x used e = role_other w.role w.next (Some (n, 0)) x (λ is. used (sym (ap w.stands is) ∙ fresh.0)) ∙ e

  -- ---- the actors before

  earlier : (j : ℕ) → j < n → n ≡ j → ⊥
  earlier j low is = omega (arith, low, is)

  old_context : (j l : ℕ) → j < n → (born w n).context j l ≡ w.context j l
  old_context j l low = ap (λ (b : Bool). cond b w.next (w.context j l)) (ne_eqb n j (earlier j low))

  old_top : (j : ℕ) → j < n → (born w n).top j ≡ w.top j
  old_top j low = number_other w.top n 0 j (earlier j low)

  pub born_grows : Grows w (born w n) objects n
  born_grows =
      grows w (born w n) objects n ok (λ b o at. region_other objects (own_address n) none w.region w.next b o at) kept (λ x u at e. before x (Child u at) e (λ f. cc)) role_kept role_none
      old_context old_top (λ j low. number_other w.sent n 1 j (earlier j low))

  -- ---- the new one

  older : (j : ℕ) → j < n + 1 → (j < n) ⊎ (n ≡ j)
  older j low =
      elim (cases_eq n j) [
        | inl is ↦ inr is
        | inr differ ↦ inl (omega (arith, low, differ))
      ]

  new_context : (j l : ℕ) → n ≡ j → (born w n).context j l ≡ w.next
  new_context j l is = ap (λ (b : Bool). cond b w.next (w.context j l)) (eq-eqb n j is)

  new_opened : (j l : ℕ) → n ≡ j → (born w n).stands ((born w n).context j l) ≡ Opened j
  new_opened j l is = ap (born w n).stands (new_context j l is) ∙ there ∙ ap Opened is

  pub new_top : (born w n).top n ≡ 0
  new_top = number_here w.top n 0

  pub new_sent : (born w n).sent n ≡ 1
  new_sent = number_here w.sent n 1

  top_zero : (j l : ℕ) → n ≡ j → l ≤ (born w n).top j → 0 ≡ l
  top_zero j l is low = let top : (born w n).top j ≡ 0 = ap (born w n).top (sym is) ∙ new_top in omega (arith, low, top)

  named_on : (j l : ℕ) → j < n + 1 → l ≤ (born w n).top j → (born w n).role ((born w n).context j l) ≡ Some (j, l)
  named_on j l low t =
      elim (older j low) [
        | inl old ↦ ap (born w n).role (old_context j l old) ∙ role_kept (w.context j l) j l (ok.named j l old (subst (λ (k : ℕ). l ≤ k) (old_top j old) t))
        | inr is ↦ let zero : 0 ≡ l = top_zero j l is t in
            let both : ◌≡◌ {A = Option (ℕ × ℕ)} (Some (n, 0)) (Some (j, l)) = cc in
            role_here w.role w.next (Some (n, 0)) ((born w n).context j l) (sym (new_context j l is)) ∙ both
      ]

  roles_on : (q j l : ℕ) → (born w n).role q ≡ Some (j, l) → (j < n + 1) × (l ≤ (born w n).top j) × ((born w n).context j l ≡ q)
  roles_on q j l e =
      elim (cases_eq w.next q) [
        | inl is ↦ let pair = same_Some (n, 0) (j, l) (sym (role_here w.role w.next (Some (n, 0)) q is) ∙ e) in
            let a : n ≡ j = ap (λ (p : ℕ × ℕ). p.0) pair in
            let b : 0 ≡ l = ap (λ (p : ℕ × ℕ). p.1) pair in
            (omega (arith, a), omega (arith, b), new_context j l a ∙ is)
        | inr differ ↦ let k = ok.roles q j l (sym (role_other w.role w.next (Some (n, 0)) q differ) ∙ e) in
            (one_more j k.0, subst (λ (t : ℕ). l ≤ t) (sym (old_top j k.0)) k.1, old_context j l k.0 ∙ k.2)
      ]
    where
      one_more : (j : ℕ) → j < n → j < n + 1
      one_more j low = omega (arith, low)

  root_on : (j : ℕ) → j < n + 1 → (born w n).stands ((born w n).context j 0) ≡ Opened j
  root_on j low =
      elim (older j low) [
        | inl old ↦ ap (born w n).stands (old_context j 0 old) ∙ kept (w.context j 0) (Opened j) (ok.root j old) (opened_used j)
        | inr is ↦ new_opened j 0 is
      ]

  own_on : (j : ℕ) → j < n + 1 → (born w n).region (own_address j) ≡ (born w n).context j 0
  own_on j low =
      elim (older j low) [
        | inl old ↦ elim (address_cases (own_address j) (own_address n)) [
          | inl p ↦ absurd (earlier j old (sym (ap (λ (a : Address). a.maker) p.0)))
          | inr differ ↦ ap (λ (t : Bool). cond t w.next (w.region (own_address j))) differ ∙ ok.own j old ∙ sym (old_context j 0 old)
        ]
        | inr is ↦ ap (λ (k : ℕ). (born w n).region (own_address k)) (sym is) ∙ region_here w.region (own_address n) w.next ∙ sym (new_context j 0 is)
      ]

  contexts_on : (j l : ℕ) → j < n + 1 → l ≤ (born w n).top j → ((born w n).stands ((born w n).context j l) ≡ Opened j) ⊎ ((m : ℕ) × (m < l) × Over (born w n) j ((born w n).context j l) m)
  contexts_on j l low t =
      elim (older j low) [
        | inl old ↦ elim (ok.contexts j l old (subst (λ (k : ℕ). l ≤ k) (old_top j old) t)) [
          | inl e ↦ inl (ap (born w n).stands (old_context j l old) ∙ kept (w.context j l) (Opened j) e (opened_used j))
          | inr o ↦ inr (o.0, o.1, subst (λ (q : ℕ). Over (born w n) j q o.0) (sym (old_context j l old)) (born_grows.over j o.2))
        ]
        | inr is ↦ inl (new_opened j l is)
      ]

  unused_on : (q : ℕ) → suc w.next ≤ q → ((born w n).stands q ≡ Unused) × ((born w n).role q ≡ None)
  unused_on q more =
      let differ = λ (is : w.next ≡ q). later is in
      let u = ok.unused q (omega (arith, more)) in
      (stand_other w.stands w.next (Opened n) q differ ∙ u.0, role_other w.role w.next (Some (n, 0)) q differ ∙ u.1)
    where
      later : w.next ≡ q → ⊥
      later is = omega (arith, more, is)

  homes_on : (j l : ℕ) → j < n + 1 → (born w n).stands ((born w n).context j l) ≡ Unused → ⊥
  homes_on j l low e =
      elim (older j low) [
        | inl old ↦ used_on (w.context j l) (ok.homes j l old) (ap (born w n).stands (sym (old_context j l old)) ∙ e)
        | inr is ↦ opened_used j (sym (new_opened j l is) ∙ e)
      ]

  absent_on : (o : Object) (b : Address) → get (insert objects (own_address n) o) b ≡ None → (born w n).stands ((born w n).region b) ≡ Unused
  absent_on o b e =
      let k = still_absent objects (own_address n) none w.region w.next o b e in
      let low = ok.regions b in
      ap (born w n).stands k.0 ∙ stand_other w.stands w.next (Opened n) (w.region b) (λ is. omega (arith, low, is)) ∙ ok.absent b k.1

  present_on : (o : Object) (b : Address) (p : Object) → get (insert objects (own_address n) o) b ≡ Some p → (born w n).stands ((born w n).region b) ≡ Unused → ⊥
  present_on o b p e u =
      elim (present_or objects (own_address n) none w.region w.next o b p e) [
        | inl is ↦ opened_used n (sym there ∙ ap (born w n).stands (sym is) ∙ u)
        | inr k ↦ used_on (w.region b) (ok.present b p k.1) (ap (born w n).stands (sym k.0) ∙ u)
      ]

  pub born_world : (o : Object) → WorldOk (born w n) (insert objects (own_address n) o) (n + 1)
  born_world o = record {
    zero = role_kept 0 0 0 ok.zero;
    named = named_on;
    roles = roles_on;
    root = root_on;
    own = own_on;
    contexts = contexts_on;
    unused = unused_on;
    regions = λ b. let low = ok.regions b in region_low objects (own_address n) none w.region w.next (suc w.next) b (omega arith) (omega (arith, low));
    parents = λ q u at e. let low = ok.parents q u at (before q (Child u at) e (λ f. cc)) in omega (arith, low);
    holders = λ q b k e. put_stays objects (own_address n) o b (ok.holders q b k (before q (Held (InField b k)) e (λ f. cc)));
    absent = absent_on o;
    present = present_on o;
    homes = homes_on;
  }
