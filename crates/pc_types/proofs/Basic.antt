-- Masks and types, and what is preserved when more slots are live and more fields are set.
use Rattle.std.specs.Prelude.{ℕ, Bool, List, [], ◌∷◌, Option, Some, None, refl}
use Rattle.std.proofs.Common.{inl, inr}
use Rattle.pc_heap.specs.{Objects.ObjectMap, declared.value.Value.Value}
use Rattle.pc_core.specs.{CoreData.CoreData, declared.nodes.NodeKind.NodeKind}
use Rattle.pc_masks.specs.declared.mask.Mask.{Mask}
use Rattle.pc_ann.specs.declared.annotation.Ann.{Ann}
use Rattle.pc_semantics.specs.declared.frames.Task.{Task}
use Rattle.pc_semantics.specs.declared.frames.Task.TheVariants as task
use Rattle.pc_valid.specs.Words.{Ty}
use Rattle.pc_types.proofs.{Types.{OfType, OfSome, LowerType, Lower, Want}, Tasks.{Within, EvalOk, BodyOk, FinishOk, TestOk, BranchOk, LoopOk, ReturnOk, TasksOk}, Needs.Needs}

-- ---- masks

pub within_same : (a : Mask) → Within a a
within_same a i h = h

pub within_trans : (a b c : Mask) → Within a b → Within b c → Within a c
within_trans a b c f g i h = g i (f i h)

-- ---- types

pub lower_same : (core : CoreData) (t : Ty) → LowerType core t t
lower_same core t = (inl refl, λ h. h)

pub same_lower : (core : CoreData) (t : Option Ty) → Lower core t t
same_lower core None = tt
same_lower core (Some t) = lower_same core t

module _ (core : CoreData) (ann : Ann) (needs : Needs core ann) where
  pub lower_trans : (a b c : Ty) → LowerType core a b → LowerType core b c → LowerType core a c
  lower_trans a b c p q = (needs.trans a.0 b.0 c.0 p.0 q.0, λ h. p.1 (q.1 h))

  pub trans_lower : (a b c : Option Ty) → Lower core a b → Lower core b c → Lower core a c
  trans_lower a b None p q = tt
  trans_lower a None (Some c) p q = absurd q
  trans_lower None (Some b) (Some c) p q = absurd p
  trans_lower (Some a) (Some b) (Some c) p q = lower_trans a b c p q

  -- A value is one of each greater type.
  pub of_lower : (objects : ObjectMap) (a b : Ty) (v : Value) → LowerType core a b → OfType core objects a v → OfType core objects b v
  of_lower objects a b v l t = record { entity = t.entity; is_entity = t.is_entity; below = needs.trans t.entity a.0 b.0 t.below l.0; kind = t.kind; finished = λ h. t.finished (l.1 h) }

  pub some_lower : (objects : ObjectMap) (a b : Option Ty) (v : Value) → Lower core a b → OfSome core objects a v → OfSome core objects b v
  some_lower objects a None v l t = tt
  some_lower objects None (Some b) v l t = absurd l
  some_lower objects (Some a) (Some b) v l t = of_lower objects a b v l t

-- ---- more live slots, and more set fields

module _ (core : CoreData) (ann : Ann) (m : ℕ) (l s l2 s2 : Mask) (wl : Within l l2) (ws : Within s s2) where
  pub eval_more : (g : List Want) (n : ℕ) (go : Mask → Mask → List Want → Type 0) → EvalOk core ann m l s g n go → EvalOk core ann m l2 s2 g n go
  eval_more g n go t = record {
    node = t.node;
    is_node = t.is_node;
    note = t.note;
    is_note = t.is_note;
    own = t.own;
    live = within_trans t.note.live_before l l2 t.live wl;
    set = within_trans t.note.set_before s s2 t.set ws;
    follows = t.follows;
  }

  body_more : (n : ℕ) → BodyOk core ann m l s n → BodyOk core ann m l2 s2 n
  body_more n t = record {
    node = t.node;
    is_node = t.is_node;
    note = t.note;
    is_note = t.is_note;
    own = t.own;
    is_body = t.is_body;
    live = within_trans t.note.live_before l l2 t.live wl;
    set = within_trans t.note.set_before s s2 t.set ws;
  }

  finish_more : (g : List Want) (does : NodeKind → Bool) (n : ℕ) (go : Mask → Mask → List Want → Type 0) → FinishOk core ann m l s g does n go → FinishOk core ann m l2 s2 g does n go
  finish_more g does n go t = record {
    node = t.node;
    is_node = t.is_node;
    note = t.note;
    is_note = t.is_note;
    own = t.own;
    kind = t.kind;
    behind = t.behind;
    is_behind = t.is_behind;
    live = within_trans t.behind.0 l l2 t.live wl;
    set = within_trans t.behind.1 s s2 t.set ws;
    below = t.below;
    stack = t.stack;
    follows = t.follows;
  }

  test_more : (g : List Want) (n : ℕ) (go : Mask → Mask → List Want → Type 0) → TestOk core ann m l s g n go → TestOk core ann m l2 s2 g n go
  test_more g n go t = record {
    node = t.node;
    is_node = t.is_node;
    kind = t.kind;
    note = t.note;
    ty = t.ty;
    left = t.left;
    right = t.right;
    children = t.children;
    below = t.below;
    top = t.top;
    live = within_trans t.note.live_after l l2 t.live wl;
    set = within_trans t.note.set_after s s2 t.set ws;
    decided = t.decided;
    undecided = eval_more t.below t.right go t.undecided;
  }

  branch_more : (g : List Want) (n : ℕ) (go : Mask → Mask → List Want → Type 0) → BranchOk core ann m l s g n go → BranchOk core ann m l2 s2 g n go
  branch_more g n go t = record {
    node = t.node;
    is_node = t.is_node;
    condition = t.condition;
    then_branch = t.then_branch;
    else_branch = t.else_branch;
    children = t.children;
    below = t.below;
    top = t.top;
    one = eval_more t.below t.then_branch go t.one;
    other = eval_more t.below t.else_branch go t.other;
  }

  loop_more : (g : List Want) (n : ℕ) (go : Mask → Mask → List Want → Type 0) → LoopOk core ann m l s g n go → LoopOk core ann m l2 s2 g n go
  loop_more g n go t = record {
    node = t.node;
    is_node = t.is_node;
    note = t.note;
    ty = t.ty;
    condition = t.condition;
    body = t.body;
    children = t.children;
    below = t.below;
    top = t.top;
    live = within_trans t.note.live_after l l2 t.live wl;
    set = within_trans t.note.set_after s s2 t.set ws;
    ended = t.ended;
    turn = eval_more t.below t.body _ t.turn;
  }

  return_more : (g : List Want) → ReturnOk core m s g → ReturnOk core m s2 g
  return_more g t = record { own = t.own; is_own = t.is_own; result = t.result; fields = λ h i b. ws i (t.fields h i b) }

pub tasks_more : (core : CoreData) (ann : Ann) (m : ℕ) (ts : List Task) (l s l2 s2 : Mask) (g : List Want) → Within l l2 → Within s s2 → TasksOk core ann m ts l s g → TasksOk core ann m ts l2 s2 g
tasks_more core ann m [] l s l2 s2 g wl ws t = t
tasks_more core ann m (task.Eval n ∷ ts) l s l2 s2 g wl ws (inl t) = inl (eval_more core ann m l s l2 s2 wl ws g n _ t)
tasks_more core ann m (task.Eval n ∷ ts) l s l2 s2 g wl ws (inr t) = inr (body_more core ann m l s l2 s2 wl ws n t)
tasks_more core ann m (task.Get n ∷ ts) l s l2 s2 g wl ws t = finish_more core ann m l s l2 s2 wl ws g _ n _ t
tasks_more core ann m (task.Put n ∷ ts) l s l2 s2 g wl ws t = finish_more core ann m l s l2 s2 wl ws g _ n _ t
tasks_more core ann m (task.Store n ∷ ts) l s l2 s2 g wl ws t = finish_more core ann m l s l2 s2 wl ws g _ n _ t
tasks_more core ann m (task.Make n ∷ ts) l s l2 s2 g wl ws t = finish_more core ann m l s l2 s2 wl ws g _ n _ t
tasks_more core ann m (task.Spawn n ∷ ts) l s l2 s2 g wl ws t = finish_more core ann m l s l2 s2 wl ws g _ n _ t
tasks_more core ann m (task.Invoke n ∷ ts) l s l2 s2 g wl ws t = finish_more core ann m l s l2 s2 wl ws g _ n _ t
tasks_more core ann m (task.Apply n ∷ ts) l s l2 s2 g wl ws t = finish_more core ann m l s l2 s2 wl ws g _ n _ t
tasks_more core ann m (task.Test n ∷ ts) l s l2 s2 g wl ws t = test_more core ann m l s l2 s2 wl ws g n _ t
tasks_more core ann m (task.Branch n ∷ ts) l s l2 s2 g wl ws t = branch_more core ann m l s l2 s2 wl ws g n _ t
tasks_more core ann m (task.Loop n ∷ ts) l s l2 s2 g wl ws t = loop_more core ann m l s l2 s2 wl ws g n _ t
tasks_more core ann m (task.Discard ∷ ts) l s l2 s2 g wl ws t = record { top = t.top; below = t.below; stack = t.stack; next = tasks_more core ann m ts l s l2 s2 t.below wl ws t.next }
tasks_more core ann m (task.Return ∷ ts) l s l2 s2 g wl ws t = return_more core ann m l s l2 s2 wl ws g t
