-- Each definition in the body of a member defines one of its locals.
use Rattle.std.proofs.{Common.{◌≡◌, ℕ, zero, suc, ◌+◌, ◌-◌, ◌<◌, ◌≤◌, ◌||◌, List, [], ◌∷◌, length, Some, Bool, true, false, not, refl, sym, ap, ◌∙◌, arith, inl, inr}, lemmas.Bool.{lt-ltb, le-ltb, ltb-true, ltb-false}, lemmas.Option.{same_Some, none-some}}
use Rattle.std.specs.Prelude.{slice_get, nat_lt}
use Rattle.pc_tree.specs.Tree as t
use Rattle.pc_core.specs.declared.nodes.Node.{Node}
use Rattle.pc_core.specs.declared.nodes.NodeKind.TheVariants as node
use Rattle.pc_base.specs.{Lists.Ascends, Counts.one_if}
use Rattle.pc_base.proofs.{Gets.append_get, Bools.true_false}
use Rattle.pc_body_spec.specs.{Bodies.{Rose, initial_fields, Context, slot_at, params_scope}, Fold.put, Faults.initial_faults, Parts.written_body_faults, Slots.{Local, initial_locals, method_locals}, Places.{body_places, initial_places, local_start}, Counts.{kind_times, times, local_times}, Laws.WasPut}
use Rattle.pc_body_spec.proofs.{Meanings.{left_none, right_none}, Places.{rising, method_in, initials_in}, Nodes.beyond, PostOrders.post_order, Once.{maybe_n, added_n, node_times, node_join, put_n, SlotsFrom, next_slots, slots_from}}
use Rattle.pc_members.specs.Members.{Member, written, added}
use Rattle.pc_file_spec.specs.Cores.{member_locals, placed_of}
use Rattle.pc_file_spec.proofs.Steps.{member_faults, member_rose}

-- A slot outside the range from the first of these numbers up to the second.
abbrev outside : ℕ → ℕ → ℕ → ℕ → Bool
outside low high n d = nat_lt n low || not (nat_lt n high)

inside : (low high n d : ℕ) → low ≤ n → n < high → outside low high n d ≡ false
inside low high n d a b = ap (λ x. x || not (nat_lt n high)) (le-ltb n low a) ∙ ap not (lt-ltb n high b)

inside_is : (low high n d : ℕ) → outside low high n d ≡ false → (low ≤ n) × (n < high)
inside_is low high n d h = by (nat_lt n low) refl h
  where
    last : (b : Bool) → nat_lt n high ≡ b → not b ≡ false → n < high
    last true e g = ltb-true n high e
    last false e g = absurd (true_false g)

    by : (b : Bool) → nat_lt n low ≡ b → (b || not (nat_lt n high)) ≡ false → (low ≤ n) × (n < high)
    by true e g = absurd (true_false g)
    by false e g = (ltb-false n low e, last (nat_lt n high) refl g)

none_outside : (c : Context) (low high at : ℕ) (ls : List Local) → low ≤ at → at + length ls ≤ high → SlotsFrom c at ls → local_times c (outside low high) ls ≡ 0
none_outside c low high at [] a b f = refl
none_outside c low high at (x ∷ xs) a b f =
    let here : slot_at c.slots (local_start x) ≡ at + 0 = f 0 x refl in
    let first : one_if (outside low high (slot_at c.slots (local_start x)) x.depth) ≡ 0 = ap one_if (inside low high (slot_at c.slots (local_start x)) x.depth (omega (arith, here, a)) (omega (arith, here, b))) in
    let rest = none_outside c low high (suc at) xs (omega (arith, a)) (omega (arith, b)) (next_slots c at x xs f) in
    omega (arith, first, rest)

one_zero : (b : Bool) → one_if b ≡ 0 → b ≡ false
one_zero true h = absurd (omega (arith, h))
one_zero false h = refl

-- If no node passes the test, no definition does.
none_passes : (z : ℕ → ℕ → Bool) (xs : List Node) → node_times z xs ≡ 0 → (k : ℕ) (w : Node) (s : ℕ) → slice_get xs k ≡ Some w → w.kind ≡ node.Define s → z s w.depth ≡ false
none_passes z [] e k w s g d = absurd (none-some w g)
none_passes z (x ∷ xs) e zero w s g d =
    let h : kind_times z x.kind x.depth ≡ 0 = omega (arith, e) in
    let same : kind_times z x.kind x.depth ≡ one_if (z s w.depth) = ap (λ (y : Node). kind_times z y.kind y.depth) (same_Some x w g) ∙ ap (λ k. kind_times z k w.depth) d in
    one_zero (z s w.depth) (sym same ∙ h)
none_passes z (x ∷ xs) e (suc k) w s g d = let h : node_times z xs ≡ 0 = omega (arith, e) in none_passes z xs h k w s g d

-- ---- the locals of a member

abbrev pub param_count : Member → ℕ
param_count (written x) = length x.params
param_count added = 0

-- The names in a member's body are in the order of the text.
abbrev pub MemberOrder : t.Entity → Member → Type 0
MemberOrder e (written x) = Ascends (body_places e.fields x)
MemberOrder e added = Ascends (initial_places e.fields)

pub slots_are : (c : Context) (e : t.Entity) (m : Member) → c.slots ≡ placed_of e m → MemberOrder e m
    → SlotsFrom c (1 + param_count m) (member_locals e m)
slots_are c e (written x) same a = slots_from c (1 + length x.params) (method_locals e.fields x) same (rising local_start (method_locals e.fields x) (body_places e.fields x) (method_in e.fields x) a)
slots_are c e added same a = slots_from c 1 (initial_locals e.fields) same (rising local_start (initial_locals e.fields) (initial_places e.fields) (initials_in e.fields) a)

rose_times : (c : Context) (z : ℕ → ℕ → Bool) (e : t.Entity) (m : Member) (r : Rose) → member_faults c e m ≡ [] → member_rose c e m ≡ Some r → times z r ≡ local_times c z (member_locals e m)
rose_times c z e (written x) r f is =
    maybe_n c z e.fields x x.body r (left_none (initial_faults c (initial_fields x.word e.fields)) (written_body_faults c (params_scope x.params) x.body) f) (right_none (initial_faults c (initial_fields x.word e.fields)) (written_body_faults c (params_scope x.params) x.body) f) is
rose_times c z e added r f is = ap (times z) (sym (same_Some _ r is)) ∙ added_n c z e.fields e.name.span f

-- A definition's slot is that of a local.
pub defined_within : (c : Context) (e : t.Entity) (m : Member) (r : Rose) (k n : ℕ) (before after : List Node) → c.slots ≡ placed_of e m → MemberOrder e m → member_faults c e m ≡ [] → member_rose c e m ≡ Some r → put k r before ≡ Some (n, after)
    → (i : ℕ) (w : Node) (s : ℕ) → length before ≤ i → slice_get after i ≡ Some w → w.kind ≡ node.Define s → (1 + param_count m ≤ s) × (s < 1 + param_count m + length (member_locals e m))
defined_within c e m r k n before after same a f is h i w s low g d =
    let first : ℕ = 1 + param_count m in
    let last : ℕ = 1 + param_count m + length (member_locals e m) in
    let z = outside first last in
    let stand : WasPut k n before after = post_order k r n before after h in
    let all : node_times z after ≡ node_times z before + times z r = put_n z k r n before after h in
    let split : node_times z after ≡ node_times z before + node_times z stand.own = ap (node_times z) stand.behind ∙ node_join z before stand.own in
    let none : times z r ≡ 0 = rose_times c z e m r f is ∙ none_outside c first last first (member_locals e m) (omega arith) (omega arith) (slots_are c e m same a) in
    let own : node_times z stand.own ≡ 0 = omega (arith, all, split, none) in
    elim (append_get before stand.own i w (ap (λ ns. slice_get ns i) (sym stand.behind) ∙ g)) [
      | inl old ↦ absurd (beyond before i w low old)
      | inr new ↦ inside_is first last s w.depth (none_passes z stand.own own (i - length before) w s new.1 d)
    ]
