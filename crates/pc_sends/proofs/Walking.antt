-- What a walk over methods finds, step by step.
use Rattle.std.specs.Prelude.{◌≡◌, ◌⊎◌, ◌↔◌, ℕ, ◌+◌, ◌-◌, Bool, List, [], Option, Some, None, slice_get, if◌then◌else◌}
use Rattle.std.proofs.{Common.{inl, inr, ap, sym, subst, ◌∙◌, arith}, lemmas.Option.{same_Some, none-some}}
use Rattle.pc_core.specs.{declared.declarations.Method.Method, declared.nodes.Node.Node, declared.nodes.NodeKind.NodeKind, CoreData.{CoreData, method_named, node_end}, FurtherKinds.constructor, Kinds.called_name, Formed.Formed, Further.own_nodes}
use Rattle.pc_core.specs.declared.nodes.NodeKind.TheVariants as nodes
use Rattle.pc_base.specs.Lists.{◌>>=◌, Has}
use Rattle.pc_base.proofs.{Options.{bind_some, bind_is, kept}, Gets.{get_within, get_range, range_get}}
use Rattle.pc_sends.specs.{Tables.{MayBe, is_called, MayCall, noted_receiver, Aims, UsesMethod}, Found.{ListsMayBe, called_in, CallsAreFound}, Growth.{Grown, OfSome}}
use Rattle.pc_sends.proofs.{Grows.{grown_same, grown_there, grown_kept}, Homes.{node_range, own_node, method_there}, Listed.known_below}

-- ---- calls

abbrev pub CalledIn : CoreData → ℕ → ℕ → ℕ → Type 0
CalledIn core name d t = called_in core name d ≡ Some t

-- What is called of the entities of a list is what may be called.
called_may : (core : CoreData) (name e : ℕ) (ds : List ℕ) → ((d : ℕ) → (Has ds d) ↔ (MayBe core d e)) → (t : ℕ) → OfSome (CalledIn core name) ds t → MayCall core name e t
called_may core name e ds same t k =
    let a = bind_some (method_named core k.1 name) (λ (m : ℕ). slice_get core.methods m >>= λ (y : Method). if is_called y.kind then Some m else None) t k.3 in
    let b = bind_some (slice_get core.methods a.0) (λ (y : Method). if is_called y.kind then Some a.0 else None) t a.2 in
    let c = kept (is_called b.0.kind) (Some a.0) t b.2 in
    let is : a.0 ≡ t = same_Some a.0 t c.1 in
    record {
      entity = k.1;
      may_be = (same k.1).0 (k.0, k.2);
      found = a.1 ∙ c.1;
      method = b.0;
      is_method = ap (slice_get core.methods) (sym is) ∙ b.1;
      called = c.0;
    }

may_called : (core : CoreData) (name e : ℕ) (ds : List ℕ) → ((d : ℕ) → (Has ds d) ↔ (MayBe core d e)) → (t : ℕ) → MayCall core name e t → OfSome (CalledIn core name) ds t
may_called core name e ds same t m =
    let h = (same m.entity).1 m.may_be in
    let found : called_in core name m.entity ≡ Some t =
    bind_is (method_named core m.entity name) (λ (k : ℕ). slice_get core.methods k >>= λ (y : Method). if is_called y.kind then Some k else None) t m.found
    ∙ bind_is (slice_get core.methods t) (λ (y : Method). if is_called y.kind then Some t else None) m.method m.is_method
    ∙ ap (λ (b : Bool). if b then Some t else None) m.called
    in
    (h.0, m.entity, h.1, found)

pub targets_found : (core : CoreData) (lists : List (List ℕ)) (name e : ℕ) (ds a b : List ℕ) → ListsMayBe core lists → slice_get lists e ≡ Some ds → Grown (OfSome (CalledIn core name) ds) a b → Grown (MayCall core name e) a b
targets_found core lists name e ds a b l is g = grown_same (OfSome (CalledIn core name) ds) (MayCall core name e) a b (called_may core name e ds (l.each e ds is)) (may_called core name e ds (l.each e ds is)) g

-- What is known to be of no entity is not called.
pub targets_none : (core : CoreData) (lists : List (List ℕ)) (name e : ℕ) (a : List ℕ) → ListsMayBe core lists → slice_get lists e ≡ None → Grown (MayCall core name e) a a
targets_none core lists name e a l is =
    grown_there (MayCall core name e) a (λ t m.
    let low = known_below core m.entity e m.may_be in
    let whole = l.whole in
    let there = get_within lists e (omega (arith, low, whole)) in
    absurd (none-some there.0 (sym is ∙ there.1)))

-- ---- calls that were looked at

pub known_grown : (core : CoreData) (calls : List (ℕ × ℕ)) (P : ℕ → Type 0) (a b : List ℕ) → Grown P a b → CallsAreFound core calls a → CallsAreFound core calls b
known_grown core calls P a b g k name e t h m = grown_kept P a b t g (k name e t h m)

-- No call was looked at.
pub known_none : (core : CoreData) (calls : List (ℕ × ℕ)) (found : List ℕ) → calls ≡ [] → CallsAreFound core calls found
known_none core calls found is name e t h m = let k = subst (λ (ps : List (ℕ × ℕ)). Has ps (name, e)) is h in absurd (none-some (name, e) k.1)

-- One call more.
pub known_call : (core : CoreData) (old new : List (ℕ × ℕ)) (name e : ℕ) (a b : List ℕ) → Grown (MayCall core name e) a b → CallsAreFound core old a → ((call : ℕ × ℕ) → Has new call → Has old call ⊎ (call ≡ (name, e))) → CallsAreFound core new b
known_call core old new name e a b g k more n d t h m =
    elim (more (n, d) h) [
      | inl before ↦ grown_kept (MayCall core name e) a b t g (k n d t before m)
      | inr same ↦ g.all t (subst (λ (p : ℕ × ℕ). MayCall core p.0 p.1 t) same m)
    ]

-- ---- methods

-- The nodes of a method are those that name it.
abbrev pub NodeAims : CoreData → List (Option ℕ) → Node → ℕ → Type 0
NodeAims core ents y t = Aims core ents y.kind y.children t

method_to : (core : CoreData) (ents : List (Option ℕ)) (m : ℕ) (x : Method) → Formed core → slice_get core.methods m ≡ Some x → (t : ℕ) → OfSome (NodeAims core ents) (own_nodes core x) t → UsesMethod core ents m t
method_to core ents m x formed is t k =
    let r = get_range core.nodes x.first_node (node_end x.first_node x.body) k.0 k.1 k.2 in
    record { number = x.first_node + k.0; node = k.1; is_node = r.1; own = own_node core m k.0 x k.1 formed is k.2; aims = k.3 }

method_from : (core : CoreData) (ents : List (Option ℕ)) (m : ℕ) (x : Method) → Formed core → slice_get core.methods m ≡ Some x → (t : ℕ) → UsesMethod core ents m t → OfSome (NodeAims core ents) (own_nodes core x) t
method_from core ents m x formed is t u =
    let r = node_range core m u.number x u.node formed is u.is_node u.own in
    (u.number - x.first_node, u.node, range_get core.nodes x.first_node (node_end x.first_node x.body) u.number u.node r.0 r.1 u.is_node, u.aims)

pub method_uses : (core : CoreData) (ents : List (Option ℕ)) (m : ℕ) (x : Method) (ns : List Node) (a b : List ℕ) → Formed core → slice_get core.methods m ≡ Some x → ns ≡ own_nodes core x → Grown (OfSome (NodeAims core ents) ns) a b → Grown (UsesMethod core ents m) a b
method_uses core ents m x ns a b formed is own g =
    grown_same (OfSome (NodeAims core ents) (own_nodes core x)) (UsesMethod core ents m) a b (method_to core ents m x formed is)
    (method_from core ents m x formed is)
    (subst (λ (ys : List Node). Grown (OfSome (NodeAims core ents) ys) a b) own g)

-- If there is no such method, no node names it.
pub no_uses : (core : CoreData) (ents : List (Option ℕ)) (m : ℕ) (a : List ℕ) → Formed core → slice_get core.methods m ≡ None → Grown (UsesMethod core ents m) a a
no_uses core ents m a formed is =
    grown_there (UsesMethod core ents m) a (λ t u.
    let there = method_there core u.number u.node formed u.is_node in
    absurd (none-some there.0 (sym is ∙ ap (slice_get core.methods) (sym u.own) ∙ there.1)))

-- ---- nodes

-- A node that makes an object or an actor.
made_is : (core : CoreData) (ents : List (Option ℕ)) (k : NodeKind) (cs : List ℕ) (n : ℕ) → constructor k ≡ Some n → (t : ℕ) → (Aims core ents k cs t) ↔ (n ≡ t)
made_is core ents (nodes.New m) cs n is t = (λ e. sym (same_Some m n is) ∙ e, λ e. same_Some m n is ∙ e)
made_is core ents (nodes.Spawn m) cs n is t = (λ e. sym (same_Some m n is) ∙ e, λ e. same_Some m n is ∙ e)
made_is core ents k cs n is t = absurd (none-some n is)

pub aims_made : (core : CoreData) (ents : List (Option ℕ)) (k : NodeKind) (cs : List ℕ) (n : ℕ) (a b : List ℕ) → constructor k ≡ Some n → Grown (λ t. n ≡ t) a b → Grown (Aims core ents k cs) a b
aims_made core ents k cs n a b is g = grown_same (λ t. n ≡ t) (Aims core ents k cs) a b (λ t e. (made_is core ents k cs n is t).1 e) (λ t e. (made_is core ents k cs n is t).0 e) g

-- A node that calls.
call_is : (core : CoreData) (ents : List (Option ℕ)) (k : NodeKind) (name : ℕ) (cs : List ℕ) (t : ℕ) → called_name k ≡ Some name → (Aims core ents k cs t) ↔ ((e : ℕ) × (noted_receiver ents cs ≡ Some e) × MayCall core name e t)
call_is core ents (nodes.Call m) name cs t is =
    subst (λ (j : ℕ). (Aims core ents (nodes.Call m) cs t) ↔ ((e : ℕ) × (noted_receiver ents cs ≡ Some e) × MayCall core j e t)) (same_Some m name is) (λ q. q, λ q. q)
call_is core ents k name cs t is = absurd (none-some name is)

-- What a call calls, if its receiver's entity is noted.
pub aims_call : (core : CoreData) (ents : List (Option ℕ)) (k : NodeKind) (name : ℕ) (cs : List ℕ) (e : ℕ) (a b : List ℕ) → called_name k ≡ Some name → noted_receiver ents cs ≡ Some e → Grown (MayCall core name e) a b → Grown (Aims core ents k cs) a b
aims_call core ents k name cs e a b call is g =
    grown_same (MayCall core name e) (Aims core ents k cs) a b (λ t m. (call_is core ents k name cs t call).1 (e, is, m))
    (λ t q.
    let r = (call_is core ents k name cs t call).0 q in
    subst (λ (d : ℕ). MayCall core name d t) (same_Some r.0 e (sym r.1 ∙ is)) r.2) g
