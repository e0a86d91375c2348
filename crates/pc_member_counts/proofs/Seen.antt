-- What a block says of the name at a place.
use Rattle.std.proofs.{Common.{◌≡◌, ℕ, ◌<◌, ◌≤◌, Bool, true, false, ◌&&◌, ◌||◌, not, nat_eq, nat_lt, refl, sym, ap, ◌∙◌, arith, inl, inr, if◌then◌else◌}, lemmas.Bool.{and_parts, and_from, or_cases, or_left, or_right, eqb-true, eqb-false, eq-eqb, ne_eqb, ltb-true, lt-ltb, not-true, not_from_false}, lemmas.Nat.Bits.bit_at-zero}
use Rattle.pc_masks.specs.{declared.mask.Mask.Mask, Masks.{has, empty, first, with_number, without_number, meet, join}, MaskLaws.{meet_bits, join_bits, first_bits, with_number_bits, without_number_bits}}
use Rattle.pc_tree.specs.declared.kinds.EntityKind.{EntityKind}
use Rattle.pc_tree.specs.declared.kinds.EntityKind.TheVariants as kind
use Rattle.pc_tree.specs.Tree as t
use Rattle.pc_base.proofs.Bools.{true_false}
use Rattle.pc_members.specs.Members.{is_takable}
use Rattle.pc_member_counts.specs.{declared.block.Block.Block, Blocks.{nothing, alone_if, single, followed, takable}}
use Rattle.pc_member_counts.proofs.{Truths.{same_truth, and_true, and_false}, Sights.{Sight, unseen, of_method, after, of_kind}}

-- ---- masks

pub has_meet : (a b : Mask) (i : ℕ) → has (meet a b) i ≡ (has a i && has b i)
has_meet a b i = same_truth _ _ (λ h. let p = (meet_bits a b i).0 h in and_from (has a i) (has b i) p.0 p.1) (λ h. (meet_bits a b i).1 (and_parts (has a i) (has b i) h))

pub has_join : (a b : Mask) (i : ℕ) → has (join a b) i ≡ (has a i || has b i)
has_join a b i =
    same_truth _ _ (λ h. elim ((join_bits a b i).0 h) [ inl p ↦ or_left (has a i) (has b i) p | inr q ↦ or_right (has a i) (has b i) q ]) (λ h. (join_bits a b i).1 (or_cases (has a i) (has b i) h))

pub has_empty : (i : ℕ) → has empty i ≡ false
has_empty i = ap (λ n. nat_eq n 1) (bit_at-zero i)

pub has_first : (n i : ℕ) → i < 64 → has (first n) i ≡ nat_lt i n
has_first n i l = same_truth _ _ (λ h. lt-ltb i n ((first_bits n i).0 h).0) (λ h. (first_bits n i).1 (ltb-true i n h, l))

pub has_no_first : (n i : ℕ) → n ≤ i → has (first n) i ≡ false
has_no_first n i l = same_truth _ _ (λ h. let p = ((first_bits n i).0 h).0 in absurd (omega (arith, l, p))) (λ h. absurd (true_false (sym h)))

pub has_without : (m : Mask) (k i : ℕ) → has (without_number m k) i ≡ (has m i && not (nat_eq i k))
has_without m k i =
    same_truth _ _ (λ h. let p = (without_number_bits m k i).0 h in and_from (has m i) (not (nat_eq i k)) p.1 (not_from_false (nat_eq i k) (ne_eqb i k p.0)))
    (λ h. let p = and_parts (has m i) (not (nat_eq i k)) h in (without_number_bits m k i).1 (eqb-false i k (not-true (nat_eq i k) p.1), p.0))

has_one : (k i : ℕ) → k < 64 → has (with_number empty k) i ≡ nat_eq i k
has_one k i l =
    same_truth _ _ (λ h. elim ((with_number_bits empty k i).0 h) [ inl p ↦ eq-eqb i k p.0 | inr q ↦ absurd (true_false (sym q ∙ has_empty i)) ]) (λ h. (with_number_bits empty k i).1 (inl (eqb-true i k h, l)))

has_alone : (t : Bool) (k i : ℕ) → k < 64 → has (alone_if t k) i ≡ (nat_eq i k && t)
has_alone true k i l = has_one k i l ∙ sym (and_true (nat_eq i k))
has_alone false k i l = has_empty i ∙ sym (and_false (nat_eq i k))

-- ---- blocks

abbrev pub seen_at : Block → ℕ → Sight
seen_at b i = record { absent = has b.absent i; class = has b.class i; actor = has b.actor i; primitive = has b.primitive i }

pub seen_followed : (b n : Block) (i : ℕ) → seen_at (followed b n) i ≡ after (seen_at b i) (seen_at n i)
seen_followed b n i = λ j. record {
  absent = has_meet b.absent n.absent i j;
  class = (has_join b.class (meet b.absent n.class) i ∙ ap (λ c. has b.class i || c) (has_meet b.absent n.class i)) j;
  actor = (has_join b.actor (meet b.absent n.actor) i ∙ ap (λ c. has b.actor i || c) (has_meet b.absent n.actor i)) j;
  primitive = (has_join b.primitive (meet b.absent n.primitive) i ∙ ap (λ c. has b.primitive i || c) (has_meet b.absent n.primitive i)) j;
}

pub seen_nothing : (i : ℕ) → i < 64 → seen_at nothing i ≡ unseen
seen_nothing i l = λ j. record { absent = (has_first 64 i l ∙ lt-ltb i 64 l) j; class = has_empty i j; actor = has_empty i j; primitive = has_empty i j }

abbrev masked : Bool → t.Method → Sight
masked b m = record { absent = not b; class = b && is_takable kind.Class m; actor = b && is_takable kind.Actor m; primitive = b && is_takable kind.Primitive m }

masked_is : (b : Bool) (m : t.Method) → masked b m ≡ (if b then of_method m else unseen)
masked_is true m = refl
masked_is false m = refl

pub seen_single : (k i : ℕ) (m : t.Method) → k < 64 → i < 64 → seen_at (single k m) i ≡ (if nat_eq i k then of_method m else unseen)
seen_single k i m l n =
    (λ j. record {
      absent = (has_without (first 64) k i ∙ ap (λ b. b && not (nat_eq i k)) (has_first 64 i n ∙ lt-ltb i 64 n)) j;
      class = has_alone (is_takable kind.Class m) k i l j;
      actor = has_alone (is_takable kind.Actor m) k i l j;
      primitive = has_alone (is_takable kind.Primitive m) k i l j;
    })
    ∙ masked_is (nat_eq i k) m

pub has_takable : (k : EntityKind) (b : Block) (i : ℕ) → has (takable k b) i ≡ of_kind k (seen_at b i)
has_takable kind.Class b i = refl
has_takable kind.Actor b i = refl
has_takable kind.Primitive b i = refl
has_takable kind.Trait b i = has_empty i
has_takable kind.Interface b i = has_empty i
