-- A new object is put into a region that is in use: everything else is unchanged.
use Rattle.std.specs.{Prelude.{◌≡◌, ℕ, ◌<◌, Bool, cond, None, refl}, FinMap.{get, insert}}
use Rattle.std.proofs.Common.{inl, inr, ap, sym, ◌∙◌}
use Rattle.pc_heap.specs.{Objects.{ObjectMap, Object}, declared.value.Address.Address}
use Rattle.pc_semantics.specs.Configurations.{own_address}
use Rattle.pc_regions.proofs.{World.{Unused, World, WorldOk}, NewAddress.{with_region, region_other, still_absent, present_or, region_low}, WorldGrows.{opened_used, used_below, Grows, grows}}
use Rattle.pc_types.proofs.Heaps.{address_cases, put_stays}

-- The region of address a is r.
abbrev pub placed : World → Address → ℕ → World
placed w a r = record { region = with_region w.region a r; stands = w.stands; role = w.role; context = w.context; top = w.top; sent = w.sent; next = w.next }

module _ (w : World) (objects : ObjectMap) (count : ℕ) (ok : WorldOk w objects count) (a : Address) (none : get objects a ≡ None) (r : ℕ) (used : w.stands r ≡ Unused → ⊥) where
  pub place_grows : Grows w (placed w a r) objects count
  place_grows =
      grows w (placed w a r) objects count ok (λ b o at. region_other objects a none w.region r b o at) (λ x s e live. e) (λ x u at e. e) (λ x j l e. e) (λ x live e. e)
      (λ j l there. refl) (λ j there. refl) (λ j there. refl)

  -- The object of an actor exists.
  own_on : (i : ℕ) → i < count → with_region w.region a r (own_address i) ≡ w.context i 0
  own_on i there =
      elim (address_cases (own_address i) a) [
        | inl p ↦ absurd (opened_used i (sym (ok.root i there) ∙ ap w.stands (sym (ok.own i there) ∙ ap w.region p.0) ∙ ok.absent a none))
        | inr n ↦ ap (λ (t : Bool). cond t r (w.region (own_address i))) n ∙ ok.own i there
      ]

  pub place_world : (o : Object) → WorldOk (placed w a r) (insert objects a o) count
  place_world o = record {
    zero = ok.zero;
    named = ok.named;
    roles = ok.roles;
    root = ok.root;
    own = own_on;
    contexts = λ i j there t. elim (ok.contexts i j there t) [ inl e ↦ inl e | inr k ↦ inr (k.0, k.1, place_grows.over i k.2) ];
    unused = ok.unused;
    regions = λ b. region_low objects a none w.region r w.next b (used_below w objects count ok r used) (ok.regions b);
    parents = ok.parents;
    holders = λ q b k e. put_stays objects a o b (ok.holders q b k e);
    absent = λ b e. let k = still_absent objects a none w.region r o b e in ap w.stands k.0 ∙ ok.absent b k.1;
    present = λ b p e u.
        elim (present_or objects a none w.region r o b p e) [
          | inl is ↦ used (ap w.stands (sym is) ∙ u)
          | inr k ↦ ok.present b p k.1 (ap w.stands (sym k.0) ∙ u)
        ];
    homes = ok.homes;
  }
