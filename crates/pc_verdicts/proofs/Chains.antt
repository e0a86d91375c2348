-- Whether a chain leads from one number to another is decidable, if single links are and all numbers are below some
-- number.
use Rattle.std.proofs.{Common.{◌≡◌, ◌<◌, ◌+◌, ℕ, zero, suc, List, [], ◌∷◌, length, Option, Some, None, refl, sym, ap, ◌∙◌, subst, arith}, lemmas.Option.same_Some}
use Rattle.std.specs.Prelude.{slice_get}
use Rattle.pc_base.proofs.Gets.{get_below}
use Rattle.pc_base.specs.Lists.{Has, IsIn}
use Rattle.pc_members.proofs.{Reached.{Within, led_listed, listed_led}, Reaches.{get_in, in_get}}
use Rattle.pc_members.specs.{Edges.{EdgePath, Edges, ascending, link, links, edges_from as after, reached}, Parts.or_nil}
use Rattle.pc_sends.proofs.Filtered.{Filtered}
use Rattle.pc_verdicts.proofs.{Deciding.{filtered, has_told, turned}, Same.Told}

-- One link or more lead from a number to another.
pub data Led (R : ℕ → ℕ → Type 0) : ℕ → ℕ → Type 0 where
  one : {a b : ℕ} → R a b → Led R a b
  more : {a b c : ℕ} → R a b → Led R b c → Led R a c

pub led_more : {R : ℕ → ℕ → Type 0} {a b c : ℕ} → Led R a b → R b c → Led R a c
led_more (one h) k = more h (one k)
led_more (more h r) k = more h (led_more r k)

pub led_on : {R : ℕ → ℕ → Type 0} {a b c : ℕ} → Led R a b → Led R b c → Led R a c
led_on (one h) l = more h l
led_on (more h r) l = more h (led_on r l)

module _ (n : ℕ) (R : ℕ → ℕ → Type 0) (tell : (a b : ℕ) → Told (R a b)) (below : (a b : ℕ) → R a b → (a < n) × (b < n)) where
  -- ---- the links, as edges

  abbrev linked : ℕ → List ℕ
  linked a = (filtered (R a) (tell a) n).0

  linked_are : (a : ℕ) → Filtered (R a) n (linked a)
  linked_are a = (filtered (R a) (tell a) n).1

  abbrev edges_from : (from count : ℕ) → Edges
  edges_from from zero = []
  edges_from from (suc k) = linked from ∷ edges_from (from + 1) k

  edges_count : (from count : ℕ) → length (edges_from from count) ≡ count
  edges_count from zero = refl
  edges_count from (suc k) = ap suc (edges_count (from + 1) k)

  edge_at : (from count i : ℕ) → i < count → slice_get (edges_from from count) i ≡ Some (linked (from + i))
  edge_at from zero i l = absurd (omega (arith, l))
  edge_at from (suc k) zero l = let e : from ≡ from + 0 = omega arith in ap (λ m. Some (linked m)) e
  edge_at from (suc k) (suc i) l = let e : from + 1 + i ≡ from + suc i = omega arith in edge_at (from + 1) k i (omega (arith, l)) ∙ ap (λ m. Some (linked m)) e

  abbrev edges : Edges
  edges = edges_from 0 n

  edge_of : (a : ℕ) → a < n → slice_get edges a ≡ Some (linked a)
  edge_of a l = let e : 0 + a ≡ a = omega arith in edge_at 0 n a l ∙ ap (λ m. Some (linked m)) e

  by_edges : (a b : ℕ) (o : Option (List ℕ)) → slice_get edges a ≡ o → IsIn b (or_nil o) → R a b
  by_edges a b None e i = absurd i
  by_edges a b (Some l) e i =
      let low = get_below edges a l e in
      let count = edges_count 0 n in
      let same : l ≡ linked a = same_Some l (linked a) (sym e ∙ edge_of a (omega (arith, low, count))) in
      (((linked_are a).exact b).0 (subst (λ xs. Has xs b) same (in_get l b i))).1

  edge_related : (a b : ℕ) → IsIn b (after edges a) → R a b
  edge_related a b h = by_edges a b (slice_get edges a) refl h

  related_edge : (a b : ℕ) → R a b → IsIn b (after edges a)
  related_edge a b r =
      let l = below a b r in
      let h = ((linked_are a).exact b).1 (l.1, r) in
      subst (λ (o : Option (List ℕ)). IsIn b (or_nil o)) (sym (edge_of a l.0)) (get_in (linked a) h.0 b h.1)

  edges_within : Within edges
  edges_within a b h = let l = (below a b (edge_related a b h)).1 in let count = edges_count 0 n in omega (arith, l, count)

  -- ---- chains

  chain_led : {a b : ℕ} → EdgePath edges a b → Led R a b
  chain_led {a} {b} (link h) = one (edge_related a b h)
  chain_led {a} (links {b = d} h c) = more (edge_related a d h) (chain_led c)

  led_chain : {a b : ℕ} → Led R a b → EdgePath edges a b
  led_chain {a} {b} (one h) = link (related_edge a b h)
  led_chain {a} (more {b = d} h l) = links (related_edge a d h) (led_chain l)

  pub led_told : (a b : ℕ) → Told (Led R a b)
  led_told a b = turned (λ h. chain_led (listed_led edges a b h)) (λ l. led_listed edges a b edges_within (led_chain l)) (has_told (ascending (reached edges a) 0 (length edges)) b)
