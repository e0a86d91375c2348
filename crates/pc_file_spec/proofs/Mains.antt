-- The actor with which a file's program starts.
use Rattle.std.proofs.{Common.{◌≡◌, ℕ, suc, ◌+◌, ◌&&◌, ◌||◌, List, [], ◌∷◌, map, Option, Some, None, Bool, true, false, refl, sym, ap, ◌∙◌, subst, if◌then◌else◌}, lemmas.Bool.and_parts}
use Rattle.std.specs.{Prelude.{slice_get, codes}, List.list_any, Str.bytes_eq}
use Rattle.pc_base.proofs.{Gets.{get_front, get_map}, Bools.true_false}
use Rattle.pc_caps.specs.declared.capability.Cap.{Cap}
use Rattle.pc_caps.specs.declared.capability.Cap.TheVariants as cap
use Rattle.pc_tree.specs.{declared.kinds.EntityKind.EntityKind, declared.kinds.MethodWord.MethodWord, declared.file.ParamDef.ParamDef, Kinds.{is_abstract, first_own}}
use Rattle.pc_tree.specs.declared.kinds.EntityKind.TheVariants as kind
use Rattle.pc_tree.specs.declared.kinds.MethodWord.TheVariants as word
use Rattle.pc_tree.specs.Tree as t
use Rattle.pc_core.specs.{CoreData.CoreData, EntityFits.HasMain, Entities.word_kind}
use Rattle.pc_names.specs.declared.fault.NameFault.TheVariants as fault
use Rattle.pc_members.specs.{Members.{is_new, written}, MemberLists.{abstract_members, concrete_members, members}}
use Rattle.pc_members.proofs.Differences.{equal_texts}
use Rattle.pc_names.specs.{Mains.{is_actor, is_val, is_env, takes_env, begins_program, is_main}, Faults.main_faults}
use Rattle.pc_body_spec.specs.Parts.{cap_or}
use Rattle.pc_file_spec.specs.Cores.{Owned, owned, known_of, param_of, Parts, core_with, core_entity}
use Rattle.pc_file_spec.proofs.{Tables.text_found, Owners.{starts, own_member}, Types.env_type, Parts.At, Settings.{Setting, all_members, entity_get, method_at, at_get}, Entities.text_there}

-- ---- what the tests mean

abbrev IsNone : {T : Type 0} → List T → Type 0
IsNone [] = Unit {0}
IsNone (x ∷ xs) = ⊥

abbrev IsMain : List t.Entity → Type 0
IsMain es = (i : ℕ) × (e : t.Entity) × (slice_get es i ≡ Some e) × (e.name.text ≡ codes "Main") × (is_main e ≡ true)

main_is : (es : List t.Entity) → main_faults es ≡ [] → IsMain es
main_is [] h = absurd (subst IsNone (sym h) tt)
main_is (e ∷ es) h = by (λ g. main_is es g) (bytes_eq e.name.text (codes "Main")) refl (is_main e) refl h
  where
    by : (main_faults es ≡ [] → IsMain es) → (a : Bool) → bytes_eq e.name.text (codes "Main") ≡ a → (b : Bool) → is_main e ≡ b → (if a then (if b then [] else fault.BadMain e.name.span ∷ []) else main_faults es) ≡ [] → IsMain (e ∷ es)
    by rest true f true g k = (0, e, refl, equal_texts e.name.text (codes "Main") f, g)
    by rest true f false g k = absurd (subst IsNone (sym k) tt)
    by rest false f b g k = let r = rest k in (suc r.0, r.1, r.2, r.3, r.4)

any_is : (ms : List t.Method) → list_any begins_program ms ≡ true
    → (j : ℕ) × (m : t.Method) × (slice_get ms j ≡ Some m) × (begins_program m ≡ true)
any_is [] h = absurd (true_false (sym h))
any_is (m ∷ ms) h = by (λ g. any_is ms g) (begins_program m) refl h
  where
    by : (list_any begins_program ms ≡ true → (j : ℕ) × (x : t.Method) × (slice_get ms j ≡ Some x) × (begins_program x ≡ true)) → (b : Bool) → begins_program m ≡ b → (b || list_any begins_program ms) ≡ true → (j : ℕ) × (x : t.Method) × (slice_get (m ∷ ms) j ≡ Some x) × (begins_program x ≡ true)
    by rest true e k = (0, m, refl, e)
    by rest false e k = let r = rest k in (suc r.0, r.1, r.2, r.3)

one_param : (ps : List ParamDef) → takes_env ps ≡ true → (p : ParamDef) × (ps ≡ p ∷ []) × (is_env p.ty ≡ true)
one_param [] h = absurd (true_false (sym h))
one_param (p ∷ []) h = (p, refl, h)
one_param (p ∷ q ∷ ps) h = absurd (true_false (sym h))

val_is : (k : Option Cap) → is_val k ≡ true → cap_or k cap.Val ≡ cap.Val
val_is None h = refl
val_is (Some cap.Val) h = refl
val_is (Some cap.Iso) h = absurd (true_false (sym h))
val_is (Some cap.Trn) h = absurd (true_false (sym h))
val_is (Some cap.Ref) h = absurd (true_false (sym h))
val_is (Some cap.Box) h = absurd (true_false (sym h))
val_is (Some cap.Tag) h = absurd (true_false (sym h))

actor_is : (k : EntityKind) → is_actor k ≡ true → k ≡ kind.Actor
actor_is kind.Actor h = refl
actor_is kind.Class h = absurd (true_false (sym h))
actor_is kind.Primitive h = absurd (true_false (sym h))
actor_is kind.Trait h = absurd (true_false (sym h))
actor_is kind.Interface h = absurd (true_false (sym h))

new_is : (w : MethodWord) → is_new w ≡ true → w ≡ word.New
new_is word.New h = refl
new_is word.Fun h = absurd (true_false (sym h))
new_is word.Be h = absurd (true_false (sym h))

-- The members of an actor start with its own methods.
actor_members : (all : List t.Entity) (e : t.Entity) → e.kind ≡ kind.Actor → members all e ≡ concrete_members all e
actor_members all e h = ap (λ k. if is_abstract k then abstract_members all e else concrete_members all e) h

pub has_main : (file : t.File) (above : List (List ℕ)) (q : Parts) → Setting file above q → HasMain (core_with file above q)
has_main file above q s =
    let core : CoreData = core_with file above q in
    let es = file.entities in
    let main = main_is es s.collects.main in
    let i : ℕ = main.0 in
    let e : t.Entity = main.1 in
    let tests = and_parts (is_actor e.kind) (list_any begins_program e.methods) main.4 in
    let actor : e.kind ≡ kind.Actor = actor_is e.kind tests.0 in
    let any = any_is e.methods tests.1 in
    let j : ℕ = any.0 in
    let x : t.Method = any.1 in
    let word_ = and_parts (is_new x.word) (bytes_eq x.name.text (codes "create") && takes_env x.params) any.3 in
    let name = and_parts (bytes_eq x.name.text (codes "create")) (takes_env x.params) word_.1 in
    let param = one_param x.params name.1 in
    let p : ParamDef = param.0 in
    let ty = and_parts (bytes_eq p.ty.name.text (codes "Env")) (is_val p.ty.cap) param.2 in
    let env = env_type file p.ty (equal_texts p.ty.name.text (codes "Env") ty.0) in
    let member : slice_get (members es e) j ≡ Some (written x) = ap (λ ms. slice_get ms j) (actor_members es e actor) ∙ get_front (map written e.methods) _ j (written x) (get_map written e.methods j x any.2) in
    let o : Owned = owned (first_own + i) e (written x) in
    let place : slice_get (all_members file) (starts es es i + j) ≡ Some o = own_member es es first_own i j e (written x) main.2 member in
    let a : At file q (1 + (starts es es i + j)) o = s.parts.at (starts es es i + j) o place in
    record {
      entity = first_own + i;
      main = core_entity file above (first_own + i) (1 + starts es es i) e;
      is_entity = entity_get file above q i e main.2;
      name = main.3;
      actor = actor;
      number = 1 + (starts es es i + j);
      create = method_at file q (1 + (starts es es i + j)) o a;
      is_method = at_get file q (1 + (starts es es i + j)) o a;
      own = refl;
      method_name = text_found core.names x.name.text (text_there file above q s e (written x) (i, main.2) (j, member)) ∙ ap (λ y. Some y) (equal_texts x.name.text (codes "create") name.0);
      spawns = ap (λ k. word_kind k x.word) actor ∙ ap (word_kind kind.Actor) (new_is x.word word_.0);
      param = param_of (known_of file) p;
      params = ap (map (param_of (known_of file))) param.1;
      env = ap (λ (y : ℕ × Cap). y.0) env;
      cap = ap (λ (y : ℕ × Cap). y.1) env ∙ val_is p.ty.cap ty.1;
    }
