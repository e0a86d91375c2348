-- A node of a typed frame is the one that rises in regions, and a method's frame begins above the one that waits.
use Rattle.std.specs.Prelude.{◌≡◌, ◌≢◌, ℕ, suc, ◌+◌, Bool, true, List, ◌∷◌, length, Option, Some, slice_get}
use Rattle.std.proofs.{Common.{inr, sym, subst, ◌∙◌}, lemmas.Option.same_Some}
use Rattle.pc_heap.specs.declared.value.Value.{Value}
use Rattle.pc_caps.specs.Tables.{unalias}
use Rattle.pc_core.specs.{declared.declarations.Method.Method, declared.nodes.Node.Node, declared.nodes.NodeKind.NodeKind, CoreData.CoreData}
use Rattle.pc_masks.specs.declared.mask.Mask.{Mask}
use Rattle.pc_ann.specs.{declared.annotation.Note.Note, declared.annotation.Ann.Ann}
use Rattle.pc_semantics.specs.{declared.frames.Frame.Frame, declared.frames.Task.Task, Configurations.first_frame}
use Rattle.pc_rules.specs.Parts.{through}
use Rattle.pc_valid.specs.Words.{Ty, before}
use Rattle.pc_base.proofs.Bools.{false_true}
use Rattle.pc_types.proofs.{Types.Want, Tasks.{Within, stacked, Follows, FinishOk}, Needs.Needs}
use Rattle.pc_regions.proofs.{World.{World, InSlot, Fits}, StackForms.{Entry, Rises, TasksRise}, Fitting.{Entered, GoesTo, FramesFit}, FirstFrame.{ArgumentsAt, begins_active, begins_body}, CallerKept.{Rests, waits}}

-- The same node and note, by another name.
abbrev pub finish_at : (core : CoreData) (ann : Ann) (m : ℕ) (l st : Mask) (g : List Want) (does : NodeKind → Bool) (n : ℕ) (go : Mask → Mask → List Want → Type 0) → FinishOk core ann m l st g does n go → (x : Node) (t : Note) → slice_get core.nodes n ≡ Some x → slice_get ann.notes n ≡ Some t → FinishOk core ann m l st g does n go
finish_at core ann m l st g does n go e x t is at =
    let nx : e.node ≡ x = same_Some e.node x (sym e.is_node ∙ is) in
    let nt : e.note ≡ t = same_Some e.note t (sym e.is_note ∙ at) in
    record {
      node = x;
      is_node = is;
      note = t;
      is_note = at;
      own = subst (λ (y : Node). y.method ≡ m) nx e.own;
      kind = subst (λ (y : Node). does y.kind ≡ true) nx e.kind;
      behind = e.behind;
      is_behind = subst (λ (u : Note). through ann x.children (before u) ≡ Some e.behind) nt (subst (λ (y : Node). through ann y.children (before e.note) ≡ Some e.behind) nx e.is_behind);
      live = e.live;
      set = e.set;
      below = e.below;
      stack = subst (λ (y : Node). g ≡ stacked core ann y.children e.below) nx e.stack;
      follows = subst (λ (u : Note). Follows core x u e.below go) nt (subst (λ (y : Node). Follows core y e.note e.below go) nx e.follows);
    }

-- The frame of method k begins at level b, above one that waits.
pub enters_frames : (core : CoreData) (ann : Ann) (needs : Needs core ann) (u : World) (i m base d b : ℕ) (live : Mask) (below : List Entry) (slots : List (Option Value)) (rest : List Value) (fs : List Frame) (ts : List Task)
    → Rests core ann u i m base d live below slots rest fs → (after : Mask) (t : Option Ty) → Within after live → Rises core m after (record { ty = t; depth = d }) below (λ c l g. TasksRise core ann m ts c l g)
    → (k : ℕ) (own : Method) → slice_get core.methods k ≡ Some own → k ≢ 0 → (body : ℕ) → own.body ≡ Some body → (this : Value) (values : List Value) → u.top i ≡ b
    → Fits u (InSlot i (suc (length fs)) 0 b) (unalias own.receiver) this → ArgumentsAt u (λ n. InSlot i (suc (length fs)) (suc n) b) own.params values
    → Entered u i own t base (base + d) b own.kind → GoesTo core own.result t
    → FramesFit core ann u i (first_frame k own this values body ∷ record { method = m; slots = slots; stack = rest; tasks = ts } ∷ fs)
enters_frames core ann needs u i m base d b live below slots rest fs ts p after t less o k own is_own other body has this values top this_fits fit entered result = (
  begins_active core ann needs k own is_own other u i (suc (length fs)) b this values this_fits fit top,
  inr (begins_body core ann needs k own is_own other body has),
  λ e. absurd (false_true e),
  (own, is_own, waits core ann u i m base d live below slots rest fs p after t ts less o b own entered result, p.wait),
)
