-- What the proof uses of a core that fits together and of a valid annotation, besides what they state literally.
use Rattle.std.specs.Prelude.{◌≡◌, ◌≢◌, ℕ, suc, ◌+◌, ◌≤◌, false, length, Some, slice_get}
use Rattle.pc_caps.specs.declared.capability.Cap.{Cap}
use Rattle.pc_tree.specs.Kinds.{is_abstract}
use Rattle.pc_core.specs.{declared.declarations.EntityDef.EntityDef, declared.declarations.Method.Method, declared.declarations.ParamInfo.ParamInfo, declared.nodes.Slot.Slot, declared.nodes.Node.Node, CoreData.{CoreData, method_named}, Nodes.NamesSlot, Formed.Formed, Entities.StandsFor}
use Rattle.pc_core.specs.declared.nodes.NodeKind.TheVariants as nodes
use Rattle.pc_base.specs.Lists.{Each}
use Rattle.pc_ann.specs.declared.annotation.Ann.{Ann}
use Rattle.pc_sub.specs.Declarations.{Sub}
use Rattle.pc_rules.proofs.ByNumber.{slot_of}
use Rattle.pc_rules.specs.Checks.{Checks}
use Rattle.pc_types.proofs.Under.{Under}

-- Node c is there, in method m.
abbrev pub IsChild : CoreData → ℕ → ℕ → Type 0
IsChild core m c = (y : Node) × (slice_get core.nodes c ≡ Some y) × (y.method ≡ m)

-- Entity d has a method of this name, for the method f of an entity that it is under.
pub record Declared (core : CoreData) (d name : ℕ) (f : Method) : Type 0 where
  pub number : ℕ
  pub found : method_named core d name ≡ Some number
  pub own : Method
  pub is_own : slice_get core.methods number ≡ Some own
  pub entity : own.entity ≡ d
  pub kind : own.kind ≡ f.kind
  pub stands : StandsFor core f own

pub record Needs (core : CoreData) (ann : Ann) : Type 0 where
  pub formed : Formed core
  pub valid : Checks core ann
  -- nodes
  pub children : (n : ℕ) (x : Node) → slice_get core.nodes n ≡ Some x → Each (λ i c. IsChild core x.method c) x.children
  pub defined_slot : (n s : ℕ) (x : Node) → slice_get core.nodes n ≡ Some x → x.kind ≡ nodes.Define s → NamesSlot core x.method s
  -- slots of a method that has nodes
  pub this_slot : (n : ℕ) (x : Node) (f : Method) (i : Slot × (ℕ × Cap)) → slice_get core.nodes n ≡ Some x → slice_get core.methods x.method ≡ Some f → slot_of core ann x.method 0 ≡ Some i → i.1 ≡ (f.entity, f.receiver)
  -- slots of a method that may begin
  pub param_slots : (m : ℕ) (f : Method) → slice_get core.methods m ≡ Some f → m ≢ 0 → (i : ℕ) (p : ParamInfo) → slice_get f.params i ≡ Some p → slice_get ann.slots (f.first_slot + suc i) ≡ Some (p.entity, p.cap)
  pub room : (m : ℕ) (f : Method) → slice_get core.methods m ≡ Some f → m ≢ 0 → suc (length f.params) ≤ f.slots
  -- bodies
  pub body : (m b : ℕ) (f : Method) → slice_get core.methods m ≡ Some f → f.body ≡ Some b → (y : Node) × (slice_get core.nodes b ≡ Some y) × (y.method ≡ m) × (y.kind ≡ nodes.Body)
  pub has_body : (m : ℕ) (f : Method) (e : EntityDef) → slice_get core.methods m ≡ Some f → m ≢ 0 → slice_get core.entities f.entity ≡ Some e → is_abstract e.kind ≡ false → (b : ℕ) × (f.body ≡ Some b)
  -- the stream has the first method alone
  pub stream : (m : ℕ) (f : Method) → slice_get core.methods m ≡ Some f → f.entity ≡ 5 → m ≡ 0
  -- entities
  pub under : (a b : ℕ) → Sub core a b → Under core a b
  pub trans : (a b c : ℕ) → Under core a b → Under core b c → Under core a c
  pub only_traits : (d e : ℕ) (x : EntityDef) → Under core d e → slice_get core.entities e ≡ Some x → is_abstract x.kind ≡ false → d ≡ e
  pub declared : (d e name k : ℕ) (f : Method) → Under core d e → method_named core e name ≡ Some k → slice_get core.methods k ≡ Some f → Declared core d name f
