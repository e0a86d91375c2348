-- The places of a field, one after another, and what represents all earlier accesses.
use Rattle.std.specs.Prelude.{◌≡◌, ◌≢◌, ◌⊎◌, ◌<◌, ◌≤◌, ℕ, zero, suc, ◌+◌, max, true, false, List, [], ◌∷◌, ◌++◌, length, get_or, Option, Some, None, slice_get, refl}
use Rattle.std.proofs.{Common.{inl, inr, ap, sym, subst, ◌∙◌, arith}, lemmas.Option.same_Some, lemmas.Bool.Decides.{eqb_tells, leb_tells}}
use Rattle.pc_base.specs.Lists.{Has}
use Rattle.pc_base.proofs.Gets.{get_below, get_within, get_front, get_behind, get_push}
use Rattle.pc_clocks.specs.Seats.{number}
use Rattle.pc_trace.specs.{declared.lasts.Spot.Spot, declared.touch.Touch.Touch, Clashes.{Clash, IsKnownTo, Unknown, KnownBetween, LatestUnknown, FoundOfAccess}, Covers.{spot_of, Replaces, StandsForAccess, Covers, Rises, NoneUnknown, LatestKnownOf, LatestOf, KeptOf}, Lasts.{RowList, row_of}, Rows.{further, Looked, KeptOrNot}}

-- ---- one more place of a row

module _ (touches : List Touch) (row : List ℕ) (count : ℕ) (p : Touch) (place : ℕ) (is : slice_get row count ≡ Some place) (q : Touch) (here : slice_get touches place ≡ Some q) where
  split : (k : ℕ) → k < count + 1 → (k < count) ⊎ (k ≡ count)
  split k l = elim (leb_tells count k) [ inl s ↦ let m = s.1 in inr (omega (arith, l, m)) | inr s ↦ inl s.1 ]

  place_is : (k m : ℕ) → k ≡ count → slice_get row k ≡ Some m → place ≡ m
  place_is k m s e = same_Some place m (sym is ∙ ap (slice_get row) (sym s) ∙ e)

  touch_is : (k m : ℕ) (r : Touch) → k ≡ count → slice_get row k ≡ Some m → slice_get touches m ≡ Some r → q ≡ r
  touch_is k m r s e f = same_Some q r (sym here ∙ ap (slice_get touches) (place_is k m s e) ∙ f)

  first_found : Unknown q p → NoneUnknown touches row count p → LatestOf touches row (count + 1) p (Some place)
  first_found u none = record {
    among = (count, is);
    other = q;
    is = here;
    unknown = u;
    latest = λ k m r l e f v.
        elim (split k l) [
          | inl s ↦ absurd (none k m r s e f v)
          | inr s ↦ same_le m place (sym (place_is k m s e))
        ];
  }
    where
      same_le : (m n : ℕ) → m ≡ n → m ≤ n
      same_le m n e = omega (arith, e)

  later_found : (best : ℕ) → Unknown q p → LatestKnownOf touches row count p best → LatestOf touches row (count + 1) p (Some (max best place))
  later_found best u l =
      elim (leb_tells best place) [
        | inl s ↦ subst (λ (n : ℕ). LatestKnownOf touches row (count + 1) p n) (larger best place s.1) (record { among = (count, is); other = q; is = here; unknown = u; latest = λ k m r b e f v. below_place k m r b e f v s.1 })
        | inr s ↦ subst (λ (n : ℕ). LatestKnownOf touches row (count + 1) p n) (smaller best place s.1) (record { among = l.among; other = l.other; is = l.is; unknown = l.unknown; latest = λ k m r b e f v. below_best k m r b e f v s.1 })
      ]
    where
      larger : (b m : ℕ) → b ≤ m → m ≡ max b m
      larger b m e = omega (arith, e)

      smaller : (b m : ℕ) → m < b → b ≡ max b m
      smaller b m e = omega (arith, e)

      through : (a b c : ℕ) → a ≤ b → b ≤ c → a ≤ c
      through a b c e f = omega (arith, e, f)

      same_le : (m n : ℕ) → m ≡ n → m ≤ n
      same_le m n e = omega (arith, e)

      same_less : (m n b : ℕ) → m ≡ n → n < b → m ≤ b
      same_less m n b e f = omega (arith, e, f)

      below_place : (k m : ℕ) (r : Touch) → k < count + 1 → slice_get row k ≡ Some m → slice_get touches m ≡ Some r → Unknown r p → best ≤ place → m ≤ place
      below_place k m r b e f v s =
          elim (split k b) [
            | inl t ↦ through m best place (l.latest k m r t e f v) s
            | inr t ↦ same_le m place (sym (place_is k m t e))
          ]

      below_best : (k m : ℕ) (r : Touch) → k < count + 1 → slice_get row k ≡ Some m → slice_get touches m ≡ Some r → Unknown r p → place < best → m ≤ best
      below_best k m r b e f v s =
          elim (split k b) [
            | inl t ↦ l.latest k m r t e f v
            | inr t ↦ same_less m place best (sym (place_is k m t e)) s
          ]

  found_as : (found : Option ℕ) → (Unknown q p → ⊥) → LatestOf touches row count p found → LatestOf touches row (count + 1) p found
  found_as None never none = λ k m r l e f v.
      elim (split k l) [
        | inl s ↦ none k m r s e f v
        | inr s ↦ never (subst (λ (z : Touch). Unknown z p) (sym (touch_is k m r s e f)) v)
      ]
  found_as (Some best) never l = record {
    among = l.among;
    other = l.other;
    is = l.is;
    unknown = l.unknown;
    latest = λ k m r b e f v.
        elim (split k b) [
          | inl s ↦ l.latest k m r s e f v
          | inr s ↦ absurd (never (subst (λ (z : Touch). Unknown z p) (sym (touch_is k m r s e f)) v))
        ];
  }

  found_more : (found : Option ℕ) → Unknown q p → LatestOf touches row count p found → LatestOf touches row (count + 1) p (further found place)
  found_more None u l = first_found u l
  found_more (Some best) u l = later_found best u l

  pub latest_next : (found result : Option ℕ) → Looked touches place p found result → LatestOf touches row count p found → LatestOf touches row (count + 1) p result
  latest_next found result looked l =
      elim (looked q here) [
        | inl u ↦ subst (LatestOf touches row (count + 1) p) (sym u.1) (found_more found u.0 l)
        | inr u ↦ subst (LatestOf touches row (count + 1) p) (sym u.1) (found_as found u.0 l)
      ]

  -- ---- what stays

  has_more : (xs : List ℕ) (x m : ℕ) → Has xs m → Has (xs ++ x ∷ []) m
  has_more xs x m h = (h.0, get_front xs (x ∷ []) h.0 m h.1)

  pub kept_next : (old new : List ℕ) → KeptOrNot touches place p old new → KeptOf touches row count p old → KeptOf touches row (count + 1) p new
  kept_next old new turned h =
      elim (turned q here) [
        | inl u ↦
            subst (KeptOf touches row (count + 1) p) (sym u.1) (record {
              kept = λ k m r l e f.
                  elim (split k l) [
                    | inl s ↦ h.kept k m r s e f
                    | inr s ↦ inl (subst (Replaces p) (touch_is k m r s e f) u.0)
                  ];
              only = h.only;
            })
        | inr u ↦
            subst (KeptOf touches row (count + 1) p) (sym u.1) (record {
              kept = λ k m r l e f.
                  elim (split k l) [
                    | inl s ↦ elim (h.kept k m r s e f) [ inl x ↦ inl x | inr x ↦ inr (has_more old place m x) ]
                    | inr s ↦ inr (subst (Has (old ++ place ∷ [])) (place_is k m s e) (length old, get_behind old place []))
                  ];
              only = λ m x.
                  elim (get_push old place x.0 m x.1) [
                    | inl y ↦ h.only m (x.0, y)
                    | inr y ↦ subst (Has row) y.1 (count, is)
                  ];
            })
      ]

-- ---- from the row of a field to all accesses

module _ (touches : List Touch) (rises : Rises touches) (at : ℕ) (rows : RowList) (covers : Covers touches at rows) (p : Touch) (here : slice_get touches at ≡ Some p) where
  abbrev row : List ℕ
  row = row_of rows (spot_of p)

  same_spot : (q : Touch) → q.address ≡ p.address → q.field ≡ p.field → spot_of q ≡ spot_of p
  same_spot q a f = ap (λ (m : ℕ). record { maker = m; serial = q.address.serial; field = q.field }) (ap (λ z. z.maker) a) ∙ ap (λ (m : ℕ). record { maker = p.address.maker; serial = m; field = q.field }) (ap (λ z. z.serial) a) ∙ ap (λ (m : ℕ). record { maker = p.address.maker; serial = p.address.serial; field = m }) f

  -- An access that is unknown has one in the row that is, and is not earlier.
  pub record Later (m : ℕ) : Type 0 where
    pub place : ℕ
    pub other : Touch
    pub later : m ≤ place
    pub has : Has row place
    pub is : slice_get touches place ≡ Some other
    pub unknown : Unknown other p

  replaced_unknown : (m place : ℕ) (q other : Touch) → m ≤ place → slice_get touches m ≡ Some q → slice_get touches place ≡ Some other → other.address ≡ q.address → other.field ≡ q.field → Replaces other q → Unknown q p → Unknown other p
  replaced_unknown m place q other l e f a g r u = (
    record {
      differ = λ z. u.0.differ (sym r.0 ∙ z);
      address = a ∙ u.0.address;
      field = g ∙ u.0.field;
      writes = writes r.1 u.0.writes;
    },
    subst (λ (n : ℕ). number p.clock n < number other.clock other.actor) (sym r.0) (larger (number p.clock q.actor) (number q.clock q.actor) (number other.clock other.actor) u.1 own_rises),
  )
    where
      false_true : {A : Type 0} → q.write ≡ false → q.write ≡ true → A
      false_true x y = absurd (bad (sym x ∙ y))
        where
          bad : false ≡ true → ⊥
          bad z = cc

      writes : (other.write ≡ true) ⊎ (q.write ≡ false) → (q.write ≡ true) ⊎ (p.write ≡ true) → (other.write ≡ true) ⊎ (p.write ≡ true)
      writes (inl w) v = inl w
      writes (inr w) (inl v) = false_true w v
      writes (inr w) (inr v) = inr v

      larger : (x y z : ℕ) → x < y → y ≤ z → x < z
      larger x y z s t = omega (arith, s, t)

      less_le : (x y : ℕ) → x < y → x ≤ y
      less_le x y s = omega (arith, s)

      same_le : (x y : ℕ) → x ≡ y → x ≤ y
      same_le x y s = omega (arith, s)

      smaller : (x y : ℕ) → x ≤ y → x ≢ y → x < y
      smaller x y s t = omega (arith, s, t)

      own_rises : number q.clock q.actor ≤ number other.clock other.actor
      own_rises =
          elim (eqb_tells m place) [
            | inl s ↦ same_le _ _ (ap (λ (z : Touch). number z.clock z.actor) (same_Some q other (sym e ∙ ap (slice_get touches) s.1 ∙ f)))
            | inr s ↦ less_le _ _ (rises m place q other (smaller m place l s.1) e f (sym r.0))
          ]

  later_of : (m : ℕ) (q : Touch) → m < at → slice_get touches m ≡ Some q → Unknown q p → Later m
  later_of m q b e u =
      let s = covers.covered m q b e in
      let in_row : Has row s.place = subst (λ (z : Spot). Has (row_of rows z) s.place) (same_spot q u.0.address u.0.field) s.has in
      elim s.replaces [
        | inl same ↦
            record {
              place = s.place;
              other = s.other;
              later = s.later;
              has = in_row;
              is = s.is;
              unknown = subst (λ (z : Touch). Unknown z p) (same_Some q s.other (sym e ∙ ap (slice_get touches) (sym same) ∙ s.is)) u;
            }
        | inr r ↦ record { place = s.place; other = s.other; later = s.later; has = in_row; is = s.is; unknown = replaced_unknown m s.place q s.other s.later e s.is s.address s.field r u }
      ]

  known_else : (q : Touch) → (Unknown q p → ⊥) → Clash q p → IsKnownTo q p
  known_else q never c = elim (leb_tells (number q.clock q.actor) (number p.clock q.actor)) [ inl s ↦ s.1 | inr s ↦ absurd (never (c, s.1)) ]

  pub all_known : NoneUnknown touches row (length row) p → KnownBetween touches 0 at p
  all_known none m q low high e c =
      known_else q (λ u.
      let l = later_of m q high e u in
      none l.has.0 l.place l.other (get_below row l.has.0 l.place l.has.1) l.has.1 l.is l.unknown) c

  pub latest_known : (best : ℕ) → LatestKnownOf touches row (length row) p best → LatestUnknown touches at p best
  latest_known best h = record {
    other = h.other;
    below = covers.below (spot_of p) best h.among;
    is = h.is;
    unknown = h.unknown;
    later = λ m q low high e c.
        known_else q (λ u.
        let l = later_of m q high e u in
        apart best m l.place low l.later (h.latest l.has.0 l.place l.other (get_below row l.has.0 l.place l.has.1) l.has.1 l.is l.unknown)) c;
  }
    where
      apart : (b m n : ℕ) → suc b ≤ m → m ≤ n → n ≤ b → ⊥
      apart b m n x y z = omega (arith, x, y, z)

  -- ---- after the access

  module _ (kept : List ℕ) (h : KeptOf touches row (length row) p kept) (next : RowList) (own : row_of next (spot_of p) ≡ kept ++ at ∷ []) (others : (s : Spot) → s ≢ spot_of p → row_of next s ≡ row_of rows s) where
    own_has : (m : ℕ) → Has kept m → Has (row_of next (spot_of p)) m
    own_has m x = subst (λ (l : List ℕ). Has l m) (sym own) (x.0, get_front kept (at ∷ []) x.0 m x.1)

    at_has : Has (row_of next (spot_of p)) at
    at_has = subst (λ (l : List ℕ). Has l at) (sym own) (length kept, get_behind kept at [])

    spot_tells : (s t : Spot) → (s ≡ t) ⊎ (s ≢ t)
    spot_tells s t =
        elim (eqb_tells s.maker t.maker) [
          | inr m ↦ inr (λ e. m.1 (ap (λ (z : Spot). z.maker) e))
          | inl m ↦
              elim (eqb_tells s.serial t.serial) [
                | inr n ↦ inr (λ e. n.1 (ap (λ (z : Spot). z.serial) e))
                | inl n ↦
                    elim (eqb_tells s.field t.field) [
                      | inr f ↦ inr (λ e. f.1 (ap (λ (z : Spot). z.field) e))
                      | inl f ↦ inl (ap (λ (x : ℕ). record { maker = x; serial = s.serial; field = s.field }) m.1 ∙ ap (λ (x : ℕ). record { maker = t.maker; serial = x; field = s.field }) n.1 ∙ ap (λ (x : ℕ). record { maker = t.maker; serial = t.serial; field = x }) f.1)
                    ]
              ]
        ]

    next_below : (m : ℕ) → m < at → m < at + 1
    next_below m l = omega (arith, l)

    self_below : at < at + 1
    self_below = omega arith

    below_next : (s : Spot) (m : ℕ) → Has (row_of next s) m → m < at + 1
    below_next s m x =
        elim (spot_tells s (spot_of p)) [
          | inl e ↦
              let y : Has (kept ++ at ∷ []) m = subst (λ (l : List ℕ). Has l m) own (subst (λ (z : Spot). Has (row_of next z) m) e x) in
              elim (get_push kept at y.0 m y.1) [
                | inl z ↦ next_below m (covers.below (spot_of p) m (h.only m (y.0, z)))
                | inr z ↦ subst (λ (n : ℕ). n < at + 1) z.1 self_below
              ]
          | inr n ↦ next_below m (covers.below s m (subst (λ (l : List ℕ). Has l m) (others s n) x))
        ]

    address_of : (q : Touch) → spot_of q ≡ spot_of p → p.address ≡ q.address
    address_of q e = sym (ap (λ (n : ℕ). record { maker = n; serial = q.address.serial }) (ap (λ (z : Spot). z.maker) e) ∙ ap (λ (n : ℕ). record { maker = p.address.maker; serial = n }) (ap (λ (z : Spot). z.serial) e))

    own_stands : (m : ℕ) (q : Touch) → m < at → slice_get touches m ≡ Some q → spot_of q ≡ spot_of p → StandsForAccess touches rows m q → StandsForAccess touches next m q
    own_stands m q b e spot s =
        let in_row : Has row s.place = subst (λ (z : Spot). Has (row_of rows z) s.place) spot s.has in
        elim (h.kept in_row.0 s.place s.other (get_below row in_row.0 s.place in_row.1) in_row.1 s.is) [
          | inl r ↦
              record {
                place = at;
                other = p;
                later = less_le m at b;
                has = subst (λ (z : Spot). Has (row_of next z) at) (sym spot) at_has;
                is = here;
                address = address_of q spot;
                field = sym (ap (λ (z : Spot). z.field) spot);
                replaces = inr (through_other r);
              }
          | inr k ↦
              record {
                place = s.place;
                other = s.other;
                later = s.later;
                has = subst (λ (z : Spot). Has (row_of next z) s.place) (sym spot) (own_has s.place k);
                is = s.is;
                address = s.address;
                field = s.field;
                replaces = s.replaces;
              }
        ]
      where
        less_le : (x y : ℕ) → x < y → x ≤ y
        less_le x y l = omega (arith, l)

        joined : (p.write ≡ true) ⊎ (s.other.write ≡ false) → (s.other.write ≡ true) ⊎ (q.write ≡ false) → (p.write ≡ true) ⊎ (q.write ≡ false)
        joined (inl w) v = inl w
        joined (inr w) (inl v) = absurd (bad (sym w ∙ v))
          where
            bad : false ≡ true → ⊥
            bad z = cc
        joined (inr w) (inr v) = inr v

        through_other : Replaces p s.other → Replaces p q
        through_other r =
            elim s.replaces [
              | inl same ↦ subst (Replaces p) (same_Some s.other q (sym s.is ∙ ap (slice_get touches) same ∙ e)) r
              | inr t ↦ (r.0 ∙ t.0, joined r.1 t.1)
            ]

    other_stands : (m : ℕ) (q : Touch) → spot_of q ≢ spot_of p → StandsForAccess touches rows m q → StandsForAccess touches next m q
    other_stands m q n s = record {
      place = s.place;
      other = s.other;
      later = s.later;
      has = subst (λ (l : List ℕ). Has l s.place) (sym (others (spot_of q) n)) s.has;
      is = s.is;
      address = s.address;
      field = s.field;
      replaces = s.replaces;
    }

    self_stands : (m : ℕ) (q : Touch) → m ≡ at → slice_get touches m ≡ Some q → StandsForAccess touches next m q
    self_stands m q same e =
        let p_is : p ≡ q = same_Some p q (sym here ∙ ap (slice_get touches) (sym same) ∙ e) in
        record {
          place = at;
          other = p;
          later = same_le m at same;
          has = subst (λ (z : Touch). Has (row_of next (spot_of z)) at) p_is at_has;
          is = here;
          address = ap (λ (z : Touch). z.address) p_is;
          field = ap (λ (z : Touch). z.field) p_is;
          replaces = inl (sym same);
        }
      where
        same_le : (x y : ℕ) → x ≡ y → x ≤ y
        same_le x y s = omega (arith, s)

    pub covers_next : Covers touches (at + 1) next
    covers_next = record {
      below = below_next;
      covered = λ m q b e.
          elim (leb_tells at m) [
            | inl s ↦ let c = s.1 in let same : m ≡ at = omega (arith, b, c) in self_stands m q same e
            | inr s ↦
                elim (spot_tells (spot_of q) (spot_of p)) [
                  | inl t ↦ own_stands m q s.1 e t (covers.covered m q s.1 e)
                  | inr n ↦ other_stands m q n (covers.covered m q s.1 e)
                ]
          ];
    }

-- ---- loops over a row

pub number_there : (row : List ℕ) (at : ℕ) → at < length row → slice_get row at ≡ Some (get_or row at 0)
number_there [] at l = absurd (omega (arith, l))
number_there (x ∷ xs) zero l = refl
number_there (x ∷ xs) (suc at) l = let k : at < length xs = omega (arith, l) in number_there xs at k

module _ (touches : List Touch) (row : List ℕ) (within : (k m : ℕ) → slice_get row k ≡ Some m → m < length touches) (at : ℕ) (below : at < length row) (p : Touch) where
  pub latest_turn : (found result : Option ℕ) → Looked touches (get_or row at 0) p found result → LatestOf touches row at p found → LatestOf touches row (at + 1) p result
  latest_turn found result looked l =
      let is = number_there row at below in
      let q = get_within touches (get_or row at 0) (within at (get_or row at 0) is) in
      latest_next touches row at p (get_or row at 0) is q.0 q.1 found result looked l

  pub kept_turn : (old new : List ℕ) → KeptOrNot touches (get_or row at 0) p old new → KeptOf touches row at p old → KeptOf touches row (at + 1) p new
  kept_turn old new turned h =
      let is = number_there row at below in
      let q = get_within touches (get_or row at 0) (within at (get_or row at 0) is) in
      kept_next touches row at p (get_or row at 0) is q.0 q.1 old new turned h

-- ---- the access at a place, with the row of its field

module _ (touches : List Touch) (at : ℕ) (within : at < length touches) (rows : RowList) (covers : Covers touches at rows) (spot : Spot) where
  pub row_within : (l : List ℕ) → l ≡ row_of rows spot → (k m : ℕ) → slice_get l k ≡ Some m → m < length touches
  row_within l is k m e = below _ _ _ (covers.below spot m (k, ap (λ (r : List ℕ). slice_get r k) (sym is) ∙ e)) within
    where
      below : (a b c : ℕ) → a < b → b < c → a < c
      below a b c l m = omega (arith, l, m)

  module _ (rises : Rises touches) (p : Touch) (here : slice_get touches at ≡ Some p) (spot_is : spot ≡ spot_of p) where
    same_row : row_of rows spot ≡ row_of rows (spot_of p)
    same_row = ap (row_of rows) spot_is

    pub found_is : (l : List ℕ) → l ≡ row_of rows spot → (result : Option ℕ) → LatestOf touches l (length l) p result
        → FoundOfAccess touches at result
    found_is l is None h = λ r e. subst (KnownBetween touches 0 at) (same_Some p r (sym here ∙ e)) (all_known touches rises at rows covers p here (subst (λ (x : List ℕ). NoneUnknown touches x (length x) p) (is ∙ same_row) h))
    found_is l is (Some best) h = λ r e. subst (λ (z : Touch). LatestUnknown touches at z best) (same_Some p r (sym here ∙ e)) (latest_known touches rises at rows covers p here best (subst (λ (x : List ℕ). LatestKnownOf touches x (length x) p best) (is ∙ same_row) h))

    pub covers_on : (l : List ℕ) → l ≡ row_of rows spot → (kept new : List ℕ) → KeptOf touches l (length l) p kept → new ≡ kept ++ at ∷ [] → (next : RowList) → row_of next spot ≡ new → ((s : Spot) → s ≢ spot → row_of next s ≡ row_of rows s) → Covers touches (at + 1) next
    covers_on l is kept new h made next own others =
        covers_next touches rises at rows covers p here kept (subst (λ (x : List ℕ). KeptOf touches x (length x) p kept) (is ∙ same_row) h) next (ap (row_of next) (sym spot_is) ∙ own ∙ made) (λ s n. others s (λ e. n (e ∙ spot_is)))
