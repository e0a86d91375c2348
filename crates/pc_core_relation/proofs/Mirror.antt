-- What represents a member by the tables from which the core of a file is computed, and by the definitions.
use Rattle.std.proofs.Common.{◌≡◌, ℕ, ◌≤◌, List, [], ◌∷◌, Option, Some, None, Bool, true, false, refl, sym, subst, arith}
use Rattle.std.specs.Prelude.{slice_get}
use Rattle.pc_caps.specs.{declared.capability.Cap.Cap, declared.capability.Form.Form}
use Rattle.pc_caps.specs.declared.capability.Cap.TheVariants as cap
use Rattle.pc_caps.specs.declared.capability.Form.TheVariants as form
use Rattle.pc_base.specs.Limits.{slot_limit}
use Rattle.pc_tree.specs.{declared.kinds.EntityKind.EntityKind, declared.kinds.MethodWord.MethodWord, declared.written_names.TypeRef.TypeRef, declared.file.ParamDef.ParamDef, Kinds.none_entity}
use Rattle.pc_tree.specs.declared.kinds.EntityKind.TheVariants as kind
use Rattle.pc_tree.specs.declared.kinds.MethodWord.TheVariants as word
use Rattle.pc_tree.specs.Tree as t
use Rattle.pc_core.specs.{declared.declarations.Method.Method, declared.declarations.ParamInfo.ParamInfo, CoreData.CoreData}
use Rattle.pc_members.specs.{Members.{Member, written, added, member_text}, MemberLists.member_span}
use Rattle.pc_body_spec.specs.{Bodies.{Rose, body_of, added_body, Context}, Faults.{BodyNameFault, body_faults, initial_faults}, Parts.cap_or}
use Rattle.pc_file_spec.specs.Cores.{Owned, owned, default_cap, kind_of, receiver_cap, word_receiver, result_form, object_of, member_locals, placed_of}
use Rattle.pc_core_relation.specs.Files.{Match, IsType, context_in, IsReceiver, ParamStands, IsForm, IsFunctionResult, IsObject, IsResult, SlotsStand, BodyIs, MethodStands, IsOwnCap}
use Rattle.pc_core_relation.proofs.Lists.{match_none}

-- ---- by tables

abbrev pub params_in : Member → List ParamDef
params_in (written m) = m.params
params_in added = []

abbrev pub AnswerIs : CoreData → Option TypeRef → ℕ × Form → Type 0
AnswerIs core None r = r ≡ (none_entity, form.Val)
AnswerIs core (Some ty) r = (k : Cap) × IsType core ty (r.0, k) × (r.1 ≡ result_form ty.hat k)

abbrev pub WordResultIs : CoreData → EntityKind → ℕ → t.Method → MethodWord → ℕ × Form → Type 0
WordResultIs core k n m word.Fun r = AnswerIs core m.result r
WordResultIs core k n m word.Be r = r ≡ (none_entity, form.Val)
WordResultIs core k n m word.New r = r ≡ object_of k n (cap_or m.cap cap.Ref)

abbrev pub ResultIs : CoreData → Owned → Member → ℕ × Form → Type 0
ResultIs core o (written m) r = WordResultIs core o.owner.kind o.number m m.word r
ResultIs core o added r = r ≡ object_of o.owner.kind o.number cap.Iso

abbrev pub rose_of : Context → t.Entity → Member → Option Rose
rose_of c e (written x) = body_of c e.fields x
rose_of c e added = Some (added_body c e.fields e.name.span)

abbrev pub faults_in : Context → t.Entity → Member → List BodyNameFault
faults_in c e (written x) = body_faults c e.fields x
faults_in c e added = initial_faults c e.fields

abbrev pub owned_context : CoreData → List Member → Owned → Context
owned_context core members o = context_in core members o.owner (placed_of o.owner o.member)

pub record ByTables (core : CoreData) (members : List Member) (m : ℕ) (o : Owned) (x : Method) : Type 0 where
  pub entity : x.entity ≡ o.number
  pub name : slice_get core.names x.name ≡ Some (member_text o.member)
  pub kind : x.kind ≡ kind_of o.owner.kind o.member
  pub receiver : x.receiver ≡ receiver_cap o.member
  pub params : Match (ParamStands core) (params_in o.member) x.params
  pub result : ResultIs core o o.member x.result
  pub span : x.span ≡ member_span o.owner.name.span o.member
  pub few_slots : x.slots ≤ slot_limit
  pub slots : SlotsStand core m x (member_locals o.owner o.member)
  pub no_fault : faults_in (owned_context core members o) o.owner o.member ≡ []
  pub body : BodyIs core m x (rose_of (owned_context core members o) o.owner o.member)

-- ---- each table

pub cap_said : (k : EntityKind) (o : Option Cap) (c : Cap) → c ≡ default_cap k o → IsOwnCap k o c
cap_said kind.Class o c h = h
cap_said kind.Trait o c h = h
cap_said kind.Interface o c h = h
cap_said kind.Actor o c h = h
cap_said kind.Primitive o c h = h

pub cap_meant : (k : EntityKind) (o : Option Cap) (c : Cap) → IsOwnCap k o c → c ≡ default_cap k o
cap_meant kind.Class o c h = h
cap_meant kind.Trait o c h = h
cap_meant kind.Interface o c h = h
cap_meant kind.Actor o c h = h
cap_meant kind.Primitive o c h = h

receiver_said : (w : t.Method) (d : MethodWord) (k : Cap) → k ≡ word_receiver d w.cap → IsReceiver w d k
receiver_said w word.Fun k h = h
receiver_said w word.Be k h = h
receiver_said w word.New k h = h

receiver_meant : (w : t.Method) (d : MethodWord) (k : Cap) → IsReceiver w d k → k ≡ word_receiver d w.cap
receiver_meant w word.Fun k h = h
receiver_meant w word.Be k h = h
receiver_meant w word.New k h = h

form_said : (hat : Bool) (k : Cap) (f : Form) → f ≡ result_form hat k → IsForm hat k f
form_said true k f h = h
form_said false k f h = h

form_meant : (hat : Bool) (k : Cap) (f : Form) → IsForm hat k f → f ≡ result_form hat k
form_meant true k f h = h
form_meant false k f h = h

answer_said : (core : CoreData) (r : Option TypeRef) (a : ℕ × Form) → AnswerIs core r a → IsFunctionResult core r a
answer_said core None a h = h
answer_said core (Some ty) a h = (h.0, h.1, form_said ty.hat h.0 a.1 h.2)

answer_meant : (core : CoreData) (r : Option TypeRef) (a : ℕ × Form) → IsFunctionResult core r a → AnswerIs core r a
answer_meant core None a h = h
answer_meant core (Some ty) a h = (h.0, h.1, form_meant ty.hat h.0 a.1 h.2)

object_said : (k : EntityKind) (n : ℕ) (c : Cap) (r : ℕ × Form) → r ≡ object_of k n c → IsObject k n c r
object_said kind.Class n c r h = h
object_said kind.Actor n c r h = h
object_said kind.Primitive n c r h = h
object_said kind.Trait n c r h = h
object_said kind.Interface n c r h = h

object_meant : (k : EntityKind) (n : ℕ) (c : Cap) (r : ℕ × Form) → IsObject k n c r → r ≡ object_of k n c
object_meant kind.Class n c r h = h
object_meant kind.Actor n c r h = h
object_meant kind.Primitive n c r h = h
object_meant kind.Trait n c r h = h
object_meant kind.Interface n c r h = h

result_said : (core : CoreData) (k : EntityKind) (n : ℕ) (w : t.Method) (d : MethodWord) (r : ℕ × Form) → WordResultIs core k n w d r → IsResult core k n w d r
result_said core k n w word.Fun r h = answer_said core w.result r h
result_said core k n w word.Be r h = h
result_said core k n w word.New r h = object_said k n (cap_or w.cap cap.Ref) r h

result_meant : (core : CoreData) (k : EntityKind) (n : ℕ) (w : t.Method) (d : MethodWord) (r : ℕ × Form) → IsResult core k n w d r → WordResultIs core k n w d r
result_meant core k n w word.Fun r h = answer_meant core w.result r h
result_meant core k n w word.Be r h = h
result_meant core k n w word.New r h = object_meant k n (cap_or w.cap cap.Ref) r h

none_said : (core : CoreData) (ps : List ParamInfo) → Match (ParamStands core) [] ps → ps ≡ []
none_said core [] h = refl
none_said core (p ∷ ps) h = let e = h.0 in absurd (omega (arith, e))

none_meant : (core : CoreData) (ps : List ParamInfo) → ps ≡ [] → Match (ParamStands core) [] ps
none_meant core ps e = subst (λ xs. Match (ParamStands core) [] xs) (sym e) (match_none (ParamStands core))

-- ---- a member

pub said : (core : CoreData) (members : List Member) (m n : ℕ) (e : t.Entity) (member : Member) (x : Method) → ByTables core members m (owned n e member) x → MethodStands core members n e member m x
said core members m n e (written w) x s = record {
  entity = s.entity;
  few_slots = s.few_slots;
  stands = record {
    name = s.name;
    kind = s.kind;
    receiver = receiver_said w w.word x.receiver s.receiver;
    params = s.params;
    result = result_said core e.kind n w w.word x.result s.result;
    span = s.span;
    slots = s.slots;
    no_fault = s.no_fault;
    body = s.body;
  };
}
said core members m n e added x s = record {
  entity = s.entity;
  few_slots = s.few_slots;
  stands = record {
    name = s.name;
    kind = s.kind;
    receiver = s.receiver;
    params = none_said core x.params s.params;
    result = object_said e.kind n cap.Iso x.result s.result;
    span = s.span;
    slots = s.slots;
    no_fault = s.no_fault;
    body = s.body;
  };
}

pub meant : (core : CoreData) (members : List Member) (m n : ℕ) (e : t.Entity) (member : Member) (x : Method) → MethodStands core members n e member m x → ByTables core members m (owned n e member) x
meant core members m n e (written w) x s = record {
  entity = s.entity;
  name = s.stands.name;
  kind = s.stands.kind;
  receiver = receiver_meant w w.word x.receiver s.stands.receiver;
  params = s.stands.params;
  result = result_meant core e.kind n w w.word x.result s.stands.result;
  span = s.stands.span;
  few_slots = s.few_slots;
  slots = s.stands.slots;
  no_fault = s.stands.no_fault;
  body = s.stands.body;
}
meant core members m n e added x s = record {
  entity = s.entity;
  name = s.stands.name;
  kind = s.stands.kind;
  receiver = s.stands.receiver;
  params = none_meant core x.params s.stands.params;
  result = object_meant e.kind n cap.Iso x.result s.stands.result;
  span = s.stands.span;
  few_slots = s.few_slots;
  slots = s.stands.slots;
  no_fault = s.stands.no_fault;
  body = s.stands.body;
}
