-- The core of the small program is formed.
use Rattle.std.specs.Prelude.{◌≡◌, ℕ, zero, suc, nat_eq, if◌then◌else◌, List, [], ◌∷◌, map, length, Some, slice_get, refl}
use Rattle.std.proofs.{Common.{inl, inr, ap, sym, subst, ◌∙◌, arith}, lemmas.Option.{same_Some, none-some}}
use Rattle.pc_caps.specs.declared.capability.Cap.{Cap}
use Rattle.pc_caps.specs.declared.capability.Cap.TheVariants as cap
use Rattle.pc_tree.specs.declared.kinds.MethodWord.TheVariants as word
use Rattle.pc_core.specs.{declared.declarations.EntityDef.EntityDef, declared.declarations.Method.Method, declared.nodes.Slot.Slot, declared.nodes.Node.Node, Entities.{built_in_value, Leads, one, more}, EntityFits.EntityFits, Methods.{MethodFits, BodyFits, LocalFits}, Nodes.NodeFits, Formed.Formed}
use Rattle.pc_core.specs.declared.nodes.SlotKind.TheVariants as slot
use Rattle.pc_base.specs.Lists.{Each, Has, Differ}
use Rattle.pc_rules.specs.Example.{four_slots, class_c, actor_main, create_c, create_main}
use Rattle.pc_base.proofs.Elements.{each_none, differ_none, ascends_none}

-- ---- lists, element by element

pub single : {T : Type 0} → (P : ℕ → T → Type 0) (x0 : T) → P 0 x0 → Each P (x0 ∷ [])
single P x0 p0 zero x e = subst (P 0) (same_Some x0 x e) p0
single P x0 p0 (suc i) x e = absurd (none-some x e)

pub three : {T : Type 0} → (P : ℕ → T → Type 0) (x0 x1 x2 : T) → P 0 x0 → P 1 x1 → P 2 x2 → Each P (x0 ∷ x1 ∷ x2 ∷ [])
three P x0 x1 x2 p0 p1 p2 zero x e = subst (P 0) (same_Some x0 x e) p0
three P x0 x1 x2 p0 p1 p2 (suc zero) x e = subst (P 1) (same_Some x1 x e) p1
three P x0 x1 x2 p0 p1 p2 (suc (suc zero)) x e = subst (P 2) (same_Some x2 x e) p2
three P x0 x1 x2 p0 p1 p2 (suc (suc (suc i))) x e = absurd (none-some x e)

pub four : {T : Type 0} → (P : ℕ → T → Type 0) (x0 x1 x2 x3 : T) → P 0 x0 → P 1 x1 → P 2 x2 → P 3 x3 → Each P (x0 ∷ x1 ∷ x2 ∷ x3 ∷ [])
four P x0 x1 x2 x3 p0 p1 p2 p3 zero x e = subst (P 0) (same_Some x0 x e) p0
four P x0 x1 x2 x3 p0 p1 p2 p3 (suc zero) x e = subst (P 1) (same_Some x1 x e) p1
four P x0 x1 x2 x3 p0 p1 p2 p3 (suc (suc zero)) x e = subst (P 2) (same_Some x2 x e) p2
four P x0 x1 x2 x3 p0 p1 p2 p3 (suc (suc (suc zero))) x e = subst (P 3) (same_Some x3 x e) p3
four P x0 x1 x2 x3 p0 p1 p2 p3 (suc (suc (suc (suc i)))) x e = absurd (none-some x e)

pub seven : {T : Type 0} → (P : ℕ → T → Type 0) (x0 x1 x2 x3 x4 x5 x6 : T) → P 0 x0 → P 1 x1 → P 2 x2 → P 3 x3 → P 4 x4 → P 5 x5 → P 6 x6 → Each P (x0 ∷ x1 ∷ x2 ∷ x3 ∷ x4 ∷ x5 ∷ x6 ∷ [])
seven P x0 x1 x2 x3 x4 x5 x6 p0 p1 p2 p3 p4 p5 p6 zero x e = subst (P 0) (same_Some x0 x e) p0
seven P x0 x1 x2 x3 x4 x5 x6 p0 p1 p2 p3 p4 p5 p6 (suc zero) x e = subst (P 1) (same_Some x1 x e) p1
seven P x0 x1 x2 x3 x4 x5 x6 p0 p1 p2 p3 p4 p5 p6 (suc (suc zero)) x e = subst (P 2) (same_Some x2 x e) p2
seven P x0 x1 x2 x3 x4 x5 x6 p0 p1 p2 p3 p4 p5 p6 (suc (suc (suc zero))) x e = subst (P 3) (same_Some x3 x e) p3
seven P x0 x1 x2 x3 x4 x5 x6 p0 p1 p2 p3 p4 p5 p6 (suc (suc (suc (suc zero)))) x e = subst (P 4) (same_Some x4 x e) p4
seven P x0 x1 x2 x3 x4 x5 x6 p0 p1 p2 p3 p4 p5 p6 (suc (suc (suc (suc (suc zero))))) x e = subst (P 5) (same_Some x5 x e) p5
seven P x0 x1 x2 x3 x4 x5 x6 p0 p1 p2 p3 p4 p5 p6 (suc (suc (suc (suc (suc (suc zero)))))) x e = subst (P 6) (same_Some x6 x e) p6
seven P x0 x1 x2 x3 x4 x5 x6 p0 p1 p2 p3 p4 p5 p6 (suc (suc (suc (suc (suc (suc (suc i))))))) x e = absurd (none-some x e)

pub eight : {T : Type 0} → (P : ℕ → T → Type 0) (x0 x1 x2 x3 x4 x5 x6 x7 : T) → P 0 x0 → P 1 x1 → P 2 x2 → P 3 x3 → P 4 x4 → P 5 x5 → P 6 x6 → P 7 x7 → Each P (x0 ∷ x1 ∷ x2 ∷ x3 ∷ x4 ∷ x5 ∷ x6 ∷ x7 ∷ [])
eight P x0 x1 x2 x3 x4 x5 x6 x7 p0 p1 p2 p3 p4 p5 p6 p7 zero x e = subst (P 0) (same_Some x0 x e) p0
eight P x0 x1 x2 x3 x4 x5 x6 x7 p0 p1 p2 p3 p4 p5 p6 p7 (suc zero) x e = subst (P 1) (same_Some x1 x e) p1
eight P x0 x1 x2 x3 x4 x5 x6 x7 p0 p1 p2 p3 p4 p5 p6 p7 (suc (suc zero)) x e = subst (P 2) (same_Some x2 x e) p2
eight P x0 x1 x2 x3 x4 x5 x6 x7 p0 p1 p2 p3 p4 p5 p6 p7 (suc (suc (suc zero))) x e = subst (P 3) (same_Some x3 x e) p3
eight P x0 x1 x2 x3 x4 x5 x6 x7 p0 p1 p2 p3 p4 p5 p6 p7 (suc (suc (suc (suc zero)))) x e = subst (P 4) (same_Some x4 x e) p4
eight P x0 x1 x2 x3 x4 x5 x6 x7 p0 p1 p2 p3 p4 p5 p6 p7 (suc (suc (suc (suc (suc zero))))) x e = subst (P 5) (same_Some x5 x e) p5
eight P x0 x1 x2 x3 x4 x5 x6 x7 p0 p1 p2 p3 p4 p5 p6 p7 (suc (suc (suc (suc (suc (suc zero)))))) x e = subst (P 6) (same_Some x6 x e) p6
eight P x0 x1 x2 x3 x4 x5 x6 x7 p0 p1 p2 p3 p4 p5 p6 p7 (suc (suc (suc (suc (suc (suc (suc zero))))))) x e = subst (P 7) (same_Some x7 x e) p7
eight P x0 x1 x2 x3 x4 x5 x6 x7 p0 p1 p2 p3 p4 p5 p6 p7 (suc (suc (suc (suc (suc (suc (suc (suc i)))))))) x e = absurd (none-some x e)

differ_one : {T : Type 0} → (y : T) → Differ (y ∷ [])
differ_one y zero zero x e f = refl
differ_one y zero (suc j) x e f = absurd (none-some x f)
differ_one y (suc i) j x e f = absurd (none-some x e)

-- ---- there is no `is` list

no_provides : (a : ℕ) (x : EntityDef) → slice_get four_slots.entities a ≡ Some x → x.provides ≡ []
no_provides zero x e = ap (λ (z : EntityDef). z.provides) (sym (same_Some _ x e))
no_provides (suc zero) x e = ap (λ (z : EntityDef). z.provides) (sym (same_Some _ x e))
no_provides (suc (suc zero)) x e = ap (λ (z : EntityDef). z.provides) (sym (same_Some _ x e))
no_provides (suc (suc (suc zero))) x e = ap (λ (z : EntityDef). z.provides) (sym (same_Some _ x e))
no_provides (suc (suc (suc (suc zero)))) x e = ap (λ (z : EntityDef). z.provides) (sym (same_Some _ x e))
no_provides (suc (suc (suc (suc (suc zero))))) x e = ap (λ (z : EntityDef). z.provides) (sym (same_Some _ x e))
no_provides (suc (suc (suc (suc (suc (suc zero)))))) x e = ap (λ (z : EntityDef). z.provides) (sym (same_Some _ x e))
no_provides (suc (suc (suc (suc (suc (suc (suc zero))))))) x e = ap (λ (z : EntityDef). z.provides) (sym (same_Some _ x e))
no_provides (suc (suc (suc (suc (suc (suc (suc (suc a)))))))) x e = absurd (none-some x e)

nothing_in : (b : ℕ) (xs : List ℕ) → xs ≡ [] → Has xs b → ⊥
nothing_in b xs e h = none-some b (ap (λ ys. slice_get ys h.0) (sym e) ∙ h.1)

no_chain : (a b : ℕ) → Leads four_slots a b → ⊥
no_chain a b (one n) = nothing_in b n.0.provides (no_provides a n.0 n.1) n.2
no_chain a b (more n r) = nothing_in _ n.0.provides (no_provides a n.0 n.1) n.2

-- ---- entities

value_fits : (e : ℕ) (name : List ℕ) → EntityFits four_slots e (built_in_value name)
value_fits e name = record {
  provides = each_none _;
  ascends = ascends_none;
  above = λ b. (λ h. absurd (none-some b h.1), λ l. absurd (no_chain e b l));
  few_fields = omega arith;
  placed_fields = inl refl;
  fields = each_none _;
  names = differ_none;
  methods = each_none _;
}

env_fits : (x : EntityDef) → slice_get four_slots.entities 4 ≡ Some x → EntityFits four_slots 4 x
env_fits x e = subst (EntityFits four_slots 4) (same_Some _ x e) (record {
  provides = each_none _;
  ascends = ascends_none;
  above = λ b. (λ h. absurd (none-some b h.1), λ l. absurd (no_chain 4 b l));
  few_fields = omega arith;
  placed_fields = inr refl;
  fields = single _ _ (omega arith, omega arith);
  names = differ_one _;
  methods = each_none _;
})

stream_fits : (x : EntityDef) → slice_get four_slots.entities 5 ≡ Some x → EntityFits four_slots 5 x
stream_fits x e = subst (EntityFits four_slots 5) (same_Some _ x e) (record {
  provides = each_none _;
  ascends = ascends_none;
  above = λ b. (λ h. absurd (none-some b h.1), λ l. absurd (no_chain 5 b l));
  few_fields = omega arith;
  placed_fields = inl refl;
  fields = each_none _;
  names = differ_one _;
  methods = single _ _ refl;
})

class_fits : EntityFits four_slots 6 class_c
class_fits = record {
  provides = each_none _;
  ascends = ascends_none;
  above = λ b. (λ h. absurd (none-some b h.1), λ l. absurd (no_chain 6 b l));
  few_fields = omega arith;
  placed_fields = inl refl;
  fields = each_none _;
  names = differ_one _;
  methods = single _ _ refl;
}

main_fits : EntityFits four_slots 7 actor_main
main_fits = record {
  provides = each_none _;
  ascends = ascends_none;
  above = λ b. (λ h. absurd (none-some b h.1), λ l. absurd (no_chain 7 b l));
  few_fields = omega arith;
  placed_fields = inl refl;
  fields = each_none _;
  names = differ_one _;
  methods = single _ _ refl;
}

entities_fit : Each (EntityFits four_slots) four_slots.entities
entities_fit zero x e = subst (EntityFits four_slots 0) (same_Some _ x e) (value_fits 0 _)
entities_fit (suc zero) x e = subst (EntityFits four_slots 1) (same_Some _ x e) (value_fits 1 _)
entities_fit (suc (suc zero)) x e = subst (EntityFits four_slots 2) (same_Some _ x e) (value_fits 2 _)
entities_fit (suc (suc (suc zero))) x e = subst (EntityFits four_slots 3) (same_Some _ x e) (value_fits 3 _)
entities_fit (suc (suc (suc (suc zero)))) x e = env_fits x e
entities_fit (suc (suc (suc (suc (suc zero))))) x e = stream_fits x e
entities_fit (suc (suc (suc (suc (suc (suc zero)))))) x e = subst (EntityFits four_slots 6) (same_Some _ x e) class_fits
entities_fit (suc (suc (suc (suc (suc (suc (suc zero))))))) x e = subst (EntityFits four_slots 7) (same_Some _ x e) main_fits
entities_fit (suc (suc (suc (suc (suc (suc (suc (suc a)))))))) x e = absurd (none-some x e)

-- ---- methods

print_fits : (x : Method) → slice_get four_slots.methods 0 ≡ Some x → MethodFits four_slots 0 x
print_fits x e = subst (MethodFits four_slots 0) (same_Some _ x e) (record {
  owner = _;
  is_owner = refl;
  placed = (word.Be, refl, refl);
  name = omega arith;
  params = single _ _ (omega arith);
  result = omega arith;
  result_fits = (refl, refl);
  few_slots = omega arith;
  slots = inl refl;
  has_body = inl refl;
  body = λ b h. absurd (none-some b h);
})

create_c_body : BodyFits four_slots 1 create_c 2
create_c_body = record {
  from = omega arith;
  own = three _ _ _ _ refl refl refl;
  post_order = ([], refl, ([], refl, ([], refl, refl)));
  root = _;
  is_root = refl;
  is_body = refl;
  depth = refl;
  one = three _ _ _ _ (λ h. cc h) (λ h. cc h) (λ h. refl);
}

create_c_fits : MethodFits four_slots 1 create_c
create_c_fits = record {
  owner = class_c;
  is_owner = refl;
  placed = (word.New, refl, refl);
  name = omega arith;
  params = each_none _;
  result = omega arith;
  result_fits = (refl, refl, (cap.Iso, refl));
  few_slots = omega arith;
  slots = inr ([], refl, each_none _);
  has_body = inr (inr refl);
  body = λ b h. subst (BodyFits four_slots 1 create_c) (same_Some 2 b h) create_c_body;
}

create_main_body : BodyFits four_slots 2 create_main 6
create_main_body = record {
  from = omega arith;
  own = four _ _ _ _ _ refl refl refl refl;
  post_order = ([], refl, ([], refl, ([], refl, ([], refl, refl))));
  root = _;
  is_root = refl;
  is_body = refl;
  depth = refl;
  one = four _ _ _ _ _ (λ h. cc h) (λ h. cc h) (λ h. cc h) (λ h. refl);
}

abbrev pub local_slot : Slot
local_slot = record { method = 2; kind = slot.Let; depth = 0; written = Some (6, cap.Iso) }

local_fits : LocalFits four_slots 2 2 local_slot
local_fits = record {
  kind = refl;
  method = refl;
  written = λ ty h. let e = ap (λ (t : ℕ × Cap). t.0) (same_Some (6, cap.Iso) ty h) in omega (arith, e);
  define = 4;
  definition = _;
  is_definition = refl;
  defines = refl;
  own = refl;
  depth = refl;
  sequence = 5;
  around = _;
  is_around = refl;
  is_sequence = refl;
  item = (0, refl);
  only = seven _ _ _ _ _ _ _ _ (λ m h. cc h) (λ m h. cc h) (λ m h. cc h) (λ m h. cc h) (λ m h. refl) (λ m h. cc h) (λ m h. cc h);
  later = seven _ _ _ _ _ _ _ _ (λ m h. absurd h) (λ m h. absurd h) (λ m h. absurd h) (λ m h. absurd h) (λ m h. absurd h) (λ m h. absurd h) (λ m h. absurd h);
}

create_main_fits : MethodFits four_slots 2 create_main
create_main_fits = record {
  owner = actor_main;
  is_owner = refl;
  placed = (word.New, refl, refl);
  name = omega arith;
  params = single _ _ (omega arith);
  result = omega arith;
  result_fits = (refl, refl);
  few_slots = omega arith;
  slots = inr (local_slot ∷ [], refl, single _ _ local_fits);
  has_body = inr (inr refl);
  body = λ b h. subst (BodyFits four_slots 2 create_main) (same_Some 6 b h) create_main_body;
}

methods_fit : Each (MethodFits four_slots) four_slots.methods
methods_fit zero x e = print_fits x e
methods_fit (suc zero) x e = subst (MethodFits four_slots 1) (same_Some _ x e) create_c_fits
methods_fit (suc (suc zero)) x e = subst (MethodFits four_slots 2) (same_Some _ x e) create_main_fits
methods_fit (suc (suc (suc m))) x e = absurd (none-some x e)

-- ---- nodes

depth_of_child : (c : ℕ) (y : Node) → slice_get four_slots.nodes c ≡ Some y → y.depth ≡ 0
depth_of_child c y e = (seven (λ i (x : Node). x.depth ≡ 0) _ _ _ _ _ _ _ refl refl refl refl refl refl refl) c y e

nodes_fit : Each (NodeFits four_slots) four_slots.nodes
nodes_fit = seven _ _ _ _ _ _ _ _
    (record { arity = refl; depths = λ i c e. depth_of_child c; names = inl refl })
    (record { arity = omega arith; depths = λ i c e. depth_of_child c; names = tt })
    (record { arity = refl; depths = λ i c e. depth_of_child c; names = tt })
    (record { arity = tt; depths = λ i c e. depth_of_child c; names = (create_c, refl, refl) })
    (record { arity = refl; depths = λ i c e. depth_of_child c; names = (create_main, local_slot, refl, omega arith, refl, refl) })
    (record { arity = omega arith; depths = λ i c e. depth_of_child c; names = tt })
    (record { arity = refl; depths = λ i c e. depth_of_child c; names = tt })

-- ---- names

-- Elements with marks that give their places differ.
differ_by : {T : Type 0} → (mark : T → ℕ) (xs : List T) → Each (λ i x. mark x ≡ i) xs → Differ xs
differ_by mark xs h i j x e f = sym (h i x e) ∙ h j x f

-- A name's place among the three, given by its length, and among the eight, given by its first byte.
abbrev by_length : List ℕ → ℕ
by_length xs = if nat_eq (length xs) 3 then 0 else (if nat_eq (length xs) 5 then 1 else 2)

names_differ : Differ four_slots.names
names_differ = differ_by by_length four_slots.names (three _ _ _ _ refl refl refl)

abbrev head_byte : List ℕ → ℕ
head_byte [] = 0
head_byte (x ∷ xs) = x

abbrev by_byte : ℕ → ℕ
by_byte x = if nat_eq x 78 then 0 else (if nat_eq x 85 then 1 else (if nat_eq x 66 then 2 else (if nat_eq x 83 then 3 else (if nat_eq x 69 then 4 else (if nat_eq x 79 then 5 else (if nat_eq x 67 then 6 else 7))))))

entity_names_differ : Differ (map (λ (x : EntityDef). x.name) four_slots.entities)
entity_names_differ = differ_by (λ xs. by_byte (head_byte xs)) (map (λ (x : EntityDef). x.name) four_slots.entities) (eight _ _ _ _ _ _ _ _ _ refl refl refl refl refl refl refl refl)

pub four_slots_formed : Formed four_slots
four_slots_formed = record {
  few_entities = omega arith;
  few_methods = omega arith;
  few_slots = omega arith;
  few_nodes = omega arith;
  few_names = omega arith;
  built_in = record {
    none = refl;
    numbers = refl;
    truths = refl;
    texts = refl;
    out = 0;
    out_name = refl;
    env = refl;
    stream = refl;
    print = 1;
    print_name = refl;
    method = refl;
  };
  main = record {
    entity = 7;
    main = actor_main;
    is_entity = refl;
    name = refl;
    actor = refl;
    number = 2;
    create = create_main;
    is_method = refl;
    own = refl;
    method_name = refl;
    spawns = refl;
    param = _;
    params = refl;
    env = refl;
    cap = refl;
  };
  names = names_differ;
  entity_names = entity_names_differ;
  methods_follow = (refl, (refl, (refl, (refl, (refl, (refl, (refl, (refl, refl))))))));
  slots_follow = (refl, (refl, (refl, refl)));
  nodes_follow = (refl, (refl, (refl, refl)));
  entities = entities_fit;
  methods = methods_fit;
  nodes = nodes_fit;
}
