-- Tasks that see nothing but their frame make like moves in like frames.
use Rattle.std.specs.Prelude.{◌≡◌, ℕ, zero, suc, Bool, true, false, not, ◌&&◌, if◌then◌else◌, nat_eq, nat_lt, List, [], ◌∷◌, ◌++◌, length, Option, Some, None, slice_get, refl, ⊤}
use Rattle.std.proofs.{Common.{inl, inr, ap, sym, subst, ◌∙◌}, lemmas.Option.same_Some, lemmas.Bool.{eq-eqb, ne_eqb}, lemmas.Bool.Decides.eqb_tells}
use Rattle.pc_heap.specs.{declared.value.Address.Address, declared.value.Value.Value, declared.value.Value.TheVariants.{Num, Truth, Text, Prim, At}}
use Rattle.pc_tree.specs.declared.kinds.Op.{Op}
use Rattle.pc_tree.specs.declared.kinds.Op.TheVariants as op
use Rattle.pc_core.specs.{CoreData.CoreData, declared.declarations.Method.Method, declared.declarations.MethodKind.MethodKind, declared.kinds.Connective.Connective, declared.kinds.Operation.Operation, declared.nodes.Node.Node, declared.nodes.NodeKind.NodeKind, Kinds.{stored_slot, applied_operation, connective}}
use Rattle.pc_core.specs.declared.kinds.Connective.TheVariants as joins
use Rattle.pc_core.specs.declared.kinds.Operation.TheVariants as applies
use Rattle.pc_core.specs.declared.declarations.MethodKind.TheVariants as method
use Rattle.pc_core.specs.declared.nodes.NodeKind.TheVariants as node
use Rattle.pc_semantics.specs.{declared.frames.Frame.Frame, declared.frames.Task.Task, declared.outcome.Lack.Lack, Configurations.{Around, Move, Stuck, Overflows, Goes, Writes, Makes, Spawns, Enters, Sends, Leaves, given, with_stack, pushed, with_slot, doing, none, pop, popped, pop_arguments}, Parts.{value_or_none, with_top, with_popped, push_slot, take_slot, evaluate_node, push_or_lack, with_second_number, with_truth, with_text, negated, same_address, is_number, is_truth, is_text, is_primitive, is_object, compared, held, leave_object, return_task, at_node}, Children.evaluations, Evaluation.{Way, Gives, Copies, Takes, AllThen, FirstThen, Items, way_of, first_then, item_tasks, by_way, truth, applied, apply_task, right_side, decided, test_task, branch, loop_turn, of_numbers, of_truths, of_texts, binary, same_truth, same_value}, Calls.{store, store_task, leave}, Step.task_move}
use Rattle.pc_semantics.specs.declared.frames.Task.TheVariants as task
use Rattle.pc_semantics.specs.declared.outcome.Lack.TheVariants as lack
use Rattle.pc_base.specs.Limits.{text_limit}
use Rattle.pc_events.proofs.{Like.{AddressLike, Like, SlotLike, Likes, FrameLike, FoundLike, slots_get, slots_set, MoveLike}, Plain.Blind}

pub left_stuck : (names : List ℕ) (next : ℕ) (m : Move) (l : Lack) → MoveLike names next m (Stuck l)
left_stuck names next (Stuck k) l = tt
left_stuck names next Overflows l = tt
left_stuck names next (Goes f) l = tt
left_stuck names next (Writes a k v f) l = tt
left_stuck names next (Makes a o g f) l = tt
left_stuck names next (Spawns o m f) l = tt
left_stuck names next (Enters g f) l = tt
left_stuck names next (Sends j m f) l = tt
left_stuck names next (Leaves v) l = tt

module _ (names : List ℕ) (next : ℕ) where
  abbrev M : Move → Move → Type 0
  M m n = MoveLike names next m n

  -- ---- frames

  pub stack_like : (f g : Frame) (vs ws : List Value) → FrameLike names f g → Likes names vs ws → FrameLike names (with_stack f vs) (with_stack g ws)
  stack_like f g vs ws k l = record { method = k.method; slots = k.slots; stack = l; tasks = k.tasks }

  pub pushed_like : (f g : Frame) (v w : Value) → FrameLike names f g → Like names v w → FrameLike names (pushed f v) (pushed g w)
  pushed_like f g v w k l = record { method = k.method; slots = k.slots; stack = (l, k.stack); tasks = k.tasks }

  doing_like : (f g : Frame) (ts : List Task) → FrameLike names f g → FrameLike names (doing f ts) (doing g ts)
  doing_like f g ts k = record { method = k.method; slots = k.slots; stack = k.stack; tasks = ap (λ (us : List Task). ts ++ us) k.tasks }

  slot_like : (f g : Frame) (s : ℕ) (o p : Option Value) → FrameLike names f g → SlotLike names o p → FrameLike names (with_slot f s o) (with_slot g s p)
  slot_like f g s o p k l = record { method = k.method; slots = slots_set names f.slots g.slots s o p l k.slots; stack = k.stack; tasks = k.tasks }

  -- ---- the top of the stack

  pub top_like : (f g : Frame) (vs ws : List Value) → FrameLike names f g → Likes names vs ws → (x y : Value → Frame → Move)
      → ((v w : Value) (us xs : List Value) → Like names v w → Likes names us xs → FrameLike names (with_stack f us) (with_stack g xs) → M (x v (with_stack f us)) (y w (with_stack g xs))) → M (with_top f vs x) (with_top g ws y)
  top_like f g [] ws k l x y h = tt
  top_like f g (v ∷ vs) [] k l x y h = absurd l
  top_like f g (v ∷ vs) (w ∷ ws) k l x y h = h v w vs ws l.0 l.1 (stack_like f g vs ws k l.1)

  pub pop_like : (f g : Frame) → FrameLike names f g → (x y : Value → Frame → Move) → ((v w : Value) (a b : Frame) → Like names v w → FrameLike names a b → M (x v a) (y w b)) → M (pop f x) (pop g y)
  pop_like f g k x y h = top_like f g f.stack g.stack k k.stack x y (λ v w us xs l m n. h v w (with_stack f us) (with_stack g xs) l n)

  abbrev PoppedLike : Option (List Value × List Value) → Option (List Value × List Value) → Type 0
  PoppedLike None None = ⊤
  PoppedLike (Some p) (Some q) = Likes names p.0 q.0 × Likes names p.1 q.1
  PoppedLike o p = ⊥

  popped_like : (n : ℕ) (vs ws us xs : List Value) → Likes names vs ws → Likes names us xs → PoppedLike (popped n vs us) (popped n ws xs)
  popped_like zero vs ws us xs k l = (l, k)
  popped_like (suc n) [] [] us xs k l = tt
  popped_like (suc n) [] (w ∷ ws) us xs k l = absurd k
  popped_like (suc n) (v ∷ vs) [] us xs k l = absurd k
  popped_like (suc n) (v ∷ vs) (w ∷ ws) us xs k l = popped_like n vs ws (v ∷ us) (w ∷ xs) k.1 (k.0, l)

  with_popped_like : (f g : Frame) → FrameLike names f g → (o p : Option (List Value × List Value)) → PoppedLike o p → (x y : List Value → Frame → Move)
      → ((vs ws : List Value) (a b : Frame) → Likes names vs ws → FrameLike names a b → M (x vs a) (y ws b)) → M (with_popped f o x) (with_popped g p y)
  with_popped_like f g k None p l x y h = tt
  with_popped_like f g k (Some o) None l x y h = absurd l
  with_popped_like f g k (Some o) (Some p) l x y h = h o.0 p.0 (with_stack f o.1) (with_stack g p.1) l.0 (stack_like f g o.1 p.1 k l.1)

  pub arguments_like : (n : ℕ) (f g : Frame) → FrameLike names f g → (x y : List Value → Frame → Move)
      → ((vs ws : List Value) (a b : Frame) → Likes names vs ws → FrameLike names a b → M (x vs a) (y ws b)) → M (pop_arguments f n x) (pop_arguments g n y)
  arguments_like n f g k x y h = with_popped_like f g k (popped n f.stack []) (popped n g.stack []) (popped_like n f.stack g.stack [] [] k.stack tt) x y h

  given_like : {A : Type 0} (o : Option A) (x y : A → Move) → ((z : A) → M (x z) (y z)) → M (given lack.Value o x) (given lack.Value o y)
  given_like None x y h = tt
  given_like (Some z) x y h = h z

  pub nodes_like : (o : Option Node) (x y : Node → Move) → ((z : Node) → M (x z) (y z)) → M (at_node o x) (at_node o y)
  nodes_like o x y h = given_like o x y h

  -- ---- evaluations

  push_like : (f g : Frame) → FrameLike names f g → (o p : Option (Option Value)) → FoundLike names o p → M (push_slot f o) (push_slot g p)
  push_like f g k None p l = tt
  push_like f g k (Some None) p l = tt
  push_like f g k (Some (Some v)) None l = absurd l
  push_like f g k (Some (Some v)) (Some None) l = absurd l
  push_like f g k (Some (Some v)) (Some (Some w)) l = pushed_like f g v w k l

  take_like : (f g : Frame) (s : ℕ) → FrameLike names f g → (o p : Option (Option Value)) → FoundLike names o p → M (take_slot f s o) (take_slot g s p)
  take_like f g s k None p l = tt
  take_like f g s k (Some None) p l = tt
  take_like f g s k (Some (Some v)) None l = absurd l
  take_like f g s k (Some (Some v)) (Some None) l = absurd l
  take_like f g s k (Some (Some v)) (Some (Some w)) l = pushed_like (with_slot f s None) (with_slot g s None) v w (slot_like f g s None None k tt) l

  first_like : (f g : Frame) (cs : List ℕ) (ts : List Task) → FrameLike names f g → M (first_then f cs ts) (first_then g cs ts)
  first_like f g [] ts k = tt
  first_like f g (c ∷ cs) ts k = doing_like f g (task.Eval c ∷ ts) k

  -- A value that a kind gives is no object.
  abbrev GivesItself : Way → Type 0
  GivesItself (Gives v) = Like names v v
  GivesItself w = ⊤

  gives_itself : (n : ℕ) (kind : NodeKind) → GivesItself (way_of n kind)
  gives_itself n (node.Number x) = refl
  gives_itself n (node.Truth b) = refl
  gives_itself n (node.Text t) = refl
  gives_itself n (node.Prim e) = refl
  gives_itself n kind = tt

  way_like : (f g : Frame) (cs : List ℕ) (w : Way) → GivesItself w → FrameLike names f g → M (by_way f cs w) (by_way g cs w)
  way_like f g cs (Gives v) l k = pushed_like f g v v k l
  way_like f g cs (Copies s) l k = push_like f g k (slice_get f.slots s) (slice_get g.slots s) (slots_get names f.slots g.slots s k.slots)
  way_like f g cs (Takes s) l k = take_like f g s k (slice_get f.slots s) (slice_get g.slots s) (slots_get names f.slots g.slots s k.slots)
  way_like f g cs (AllThen t) l k = doing_like f g (evaluations cs ++ t ∷ []) k
  way_like f g cs (FirstThen ts) l k = first_like f g cs ts k
  way_like f g cs Items l k = doing_like f g (item_tasks cs) k

  node_like : (f g : Frame) (n : ℕ) (o : Option Node) → FrameLike names f g → M (evaluate_node f n o) (evaluate_node g n o)
  node_like f g n None k = tt
  node_like f g n (Some x) k = way_like f g x.children (way_of n x.kind) (gives_itself n x.kind) k

  -- ---- operators

  abbrev Itself : Option Value → Type 0
  Itself None = ⊤
  Itself (Some v) = Like names v v

  numbers_itself : (o : Op) (a b : ℕ) → Itself (of_numbers o a b)
  numbers_itself op.Add a b = refl
  numbers_itself op.Sub a b = refl
  numbers_itself op.Mul a b = refl
  numbers_itself op.Div a b = refl
  numbers_itself op.Rem a b = refl
  numbers_itself op.Eq a b = refl
  numbers_itself op.Ne a b = refl
  numbers_itself op.Lt a b = refl
  numbers_itself op.Le a b = refl
  numbers_itself op.Gt a b = refl
  numbers_itself op.Ge a b = refl
  numbers_itself o a b = tt

  truths_itself : (o : Op) (a b : Bool) → Itself (of_truths o a b)
  truths_itself op.Eq a b = refl
  truths_itself op.Ne a b = refl
  truths_itself op.Xor a b = refl
  truths_itself o a b = tt

  gives_like : (f g : Frame) → FrameLike names f g → (o : Option Value) → Itself o → M (push_or_lack f o) (push_or_lack g o)
  gives_like f g k None l = tt
  gives_like f g k (Some v) l = pushed_like f g v v k l

  if_both : (b : Bool) (x y u v : Move) → M x u → M y v → M (if b then x else y) (if b then u else v)
  if_both true x y u v p q = p
  if_both false x y u v p q = q

  texts_like : (f g : Frame) → FrameLike names f g → (o : Op) (a b : List ℕ) → M (of_texts f o a b) (of_texts g o a b)
  texts_like f g k op.Add a b = if_both (nat_lt text_limit (length (a ++ b))) Overflows (Goes (pushed f (Text (a ++ b)))) Overflows (Goes (pushed g (Text (a ++ b)))) tt (pushed_like f g (Text (a ++ b)) (Text (a ++ b)) k refl)
  texts_like f g k op.Eq a b = pushed_like f g _ _ k refl
  texts_like f g k op.Ne a b = pushed_like f g _ _ k refl
  texts_like f g k o a b = tt

  number_like : (f g : Frame) → FrameLike names f g → (o : Op) (a : ℕ) (v w : Value) → Like names v w
      → M (with_second_number f o a v) (with_second_number g o a w)
  number_like f g k o a (Num b) w l = subst (λ (x : Value). M (with_second_number f o a (Num b)) (with_second_number g o a x)) (sym l) (gives_like f g k (of_numbers o a b) (numbers_itself o a b))
  number_like f g k o a v w l = tt

  truths_like : (f g : Frame) → FrameLike names f g → (o : Op) (a : Bool) (v w : Value) → Like names v w → M (with_truth f o a v) (with_truth g o a w)
  truths_like f g k o a (Truth b) w l = subst (λ (x : Value). M (with_truth f o a (Truth b)) (with_truth g o a x)) (sym l) (gives_like f g k (of_truths o a b) (truths_itself o a b))
  truths_like f g k o a v w l = tt

  text_like : (f g : Frame) → FrameLike names f g → (o : Op) (a : List ℕ) (v w : Value) → Like names v w → M (with_text f o a v) (with_text g o a w)
  text_like f g k o a (Text b) w l = subst (λ (x : Value). M (with_text f o a (Text b)) (with_text g o a x)) (sym l) (texts_like f g k o a b)
  text_like f g k o a v w l = tt

  binary_like : (f g : Frame) → FrameLike names f g → (o : Op) (v x w y : Value) → Like names v x → Like names w y → M (binary f o v w) (binary g o x y)
  binary_like f g k o (Num a) x w y l m = subst (λ (z : Value). M (binary f o (Num a) w) (binary g o z y)) (sym l) (number_like f g k o a w y m)
  binary_like f g k o (Truth a) x w y l m = subst (λ (z : Value). M (binary f o (Truth a) w) (binary g o z y)) (sym l) (truths_like f g k o a w y m)
  binary_like f g k o (Text a) x w y l m = subst (λ (z : Value). M (binary f o (Text a) w) (binary g o z y)) (sym l) (text_like f g k o a w y m)
  binary_like f g k o v x w y l m = tt

  negated_like : (f g : Frame) → FrameLike names f g → (v w : Value) → Like names v w → M (negated f v) (negated g w)
  negated_like f g k (Truth b) w l = subst (λ (z : Value). M (negated f (Truth b)) (negated g z)) (sym l) (pushed_like f g (Truth (not b)) (Truth (not b)) k refl)
  negated_like f g k v w l = tt

  -- ---- choices

  truth_like : (x y : Bool → Frame → Move) → ((b : Bool) (f g : Frame) → FrameLike names f g → M (x b f) (y b g)) → (v w : Value) → Like names v w → (f g : Frame) → FrameLike names f g → M (truth x v f) (truth y w g)
  truth_like x y h (Truth b) w l f g k = subst (λ (z : Value). M (truth x (Truth b) f) (truth y z g)) (sym l) (h b f g k)
  truth_like x y h v w l f g k = tt

  right_like : (f g : Frame) → FrameLike names f g → (cs : List ℕ) → M (right_side f cs) (right_side g cs)
  right_like f g k (a ∷ b ∷ []) = doing_like f g (task.Eval b ∷ []) k
  right_like f g k cs = tt

  decided_like : (o : Connective) (cs : List ℕ) (b : Bool) (f g : Frame) → FrameLike names f g → M (decided o cs b f) (decided o cs b g)
  decided_like joins.And cs false f g k = pushed_like f g (Truth false) (Truth false) k refl
  decided_like joins.And cs true f g k = right_like f g k cs
  decided_like joins.Or cs true f g k = pushed_like f g (Truth true) (Truth true) k refl
  decided_like joins.Or cs false f g k = right_like f g k cs

  test_like : (f g : Frame) (cs : List ℕ) (kind : NodeKind) → FrameLike names f g → M (test_task f cs kind) (test_task g cs kind)
  test_like f g cs kind k =
      given_like (connective kind) _ _ (λ o. pop_like f g k _ _ (λ v w a b l m. truth_like (decided o cs) (decided o cs) (decided_like o cs) v w l a b m))

  branch_like : (cs : List ℕ) (b : Bool) (f g : Frame) → FrameLike names f g → M (branch cs b f) (branch cs b g)
  branch_like (c ∷ a ∷ b ∷ []) true f g k = doing_like f g (task.Eval a ∷ []) k
  branch_like (c ∷ a ∷ b ∷ []) false f g k = doing_like f g (task.Eval b ∷ []) k
  branch_like cs b f g k = tt

  turn_like : (n : ℕ) (cs : List ℕ) (b : Bool) (f g : Frame) → FrameLike names f g → M (loop_turn n cs b f) (loop_turn n cs b g)
  turn_like n (c ∷ a ∷ []) true f g k = doing_like f g (task.Eval a ∷ task.Discard ∷ task.Eval n ∷ []) k
  turn_like n (c ∷ a ∷ []) false f g k = pushed_like f g none none k refl
  turn_like n cs b f g k = tt

  -- ---- stores, and ends

  pub held_like : (o p : Option (Option Value)) → FoundLike names o p → Like names (value_or_none (held o)) (value_or_none (held p))
  held_like None None l = refl
  held_like None (Some p) l = absurd l
  held_like (Some o) None l = absurd l
  held_like (Some None) (Some None) l = refl
  held_like (Some None) (Some (Some w)) l = absurd l
  held_like (Some (Some v)) (Some None) l = absurd l
  held_like (Some (Some v)) (Some (Some w)) l = l

  stored_like : (s : ℕ) (v w : Value) (f g : Frame) → Like names v w → FrameLike names f g → M (store s v f) (store s w g)
  stored_like s v w f g l k =
      pushed_like (with_slot f s (Some v)) (with_slot g s (Some w)) _ _ (slot_like f g s (Some v) (Some w) k l) (held_like (slice_get f.slots s) (slice_get g.slots s) (slots_get names f.slots g.slots s k.slots))

  store_like : (f g : Frame) (kind : NodeKind) → FrameLike names f g → M (store_task f kind) (store_task g kind)
  store_like f g kind k = given_like (stored_slot kind) _ _ (λ s. pop_like f g k (store s) (store s) (λ v w a b l m. stored_like s v w a b l m))

  object_like : (o p : Option (Option Value)) → FoundLike names o p → M (leave_object o) (leave_object p)
  object_like None p l = tt
  object_like (Some None) p l = tt
  object_like (Some (Some v)) None l = absurd l
  object_like (Some (Some v)) (Some None) l = absurd l
  object_like (Some (Some v)) (Some (Some w)) l = l

  leave_like : (f g : Frame) (kind : MethodKind) → FrameLike names f g → M (leave f kind) (leave g kind)
  leave_like f g method.Fun k = pop_like f g k (λ v h. Leaves (Some v)) (λ v h. Leaves (Some v)) (λ v w a b l m. l)
  leave_like f g method.New k = object_like (slice_get f.slots 0) (slice_get g.slots 0) (slots_get names f.slots g.slots 0 k.slots)
  leave_like f g kind k = tt

  return_like : (f g : Frame) (o : Option Method) → FrameLike names f g → M (return_task f o) (return_task g o)
  return_like f g None k = tt
  return_like f g (Some x) k = leave_like f g x.kind k

  -- ---- identity

  module _ (inject : (j k i : ℕ) → slice_get names j ≡ Some i → slice_get names k ≡ Some i → j ≡ k) where
    pub same_maker : (a b c d : Address) → AddressLike names a c → AddressLike names b d → nat_eq a.maker b.maker ≡ nat_eq c.maker d.maker
    same_maker a b c d k l =
        elim (eqb_tells c.maker d.maker) [
          | inl e ↦ eq-eqb a.maker b.maker (same_Some a.maker b.maker (sym k.maker ∙ ap (slice_get names) e.1 ∙ l.maker)) ∙ sym e.0
          | inr e ↦ ne_eqb a.maker b.maker (λ s. e.1 (inject c.maker d.maker b.maker (k.maker ∙ ap Some s) l.maker)) ∙ sym e.0
        ]

    addresses_same : (a b c d : Address) → AddressLike names a c → AddressLike names b d → same_address a b ≡ same_address c d
    addresses_same a b c d k l =
        ap (λ (x : Bool). x && nat_eq a.serial b.serial) (same_maker a b c d k l)
        ∙ ap (λ (n : ℕ). nat_eq c.maker d.maker && nat_eq n b.serial) k.serial
        ∙ ap (λ (n : ℕ). nat_eq c.maker d.maker && nat_eq c.serial n) l.serial

    -- A test that no object passes.
    tested : (t : Value → Bool) → ((a : Address) → t (At a) ≡ false) → (v w : Value) → Like names v w → t v ≡ t w
    tested t never (Num n) w l = ap t (sym l)
    tested t never (Truth b) w l = ap t (sym l)
    tested t never (Text x) w l = ap t (sym l)
    tested t never (Prim e) w l = ap t (sym l)
    tested t never (At a) (At b) l = never a ∙ sym (never b)
    tested t never (At a) (Num n) l = absurd l
    tested t never (At a) (Truth b) l = absurd l
    tested t never (At a) (Text x) l = absurd l
    tested t never (At a) (Prim e) l = absurd l

    object_tested : (a c : Address) → AddressLike names a c → (v w : Value) → Like names v w → is_object a v ≡ is_object c w
    object_tested a c k (Num n) w l = ap (is_object c) (sym l)
    object_tested a c k (Truth b) w l = ap (is_object c) (sym l)
    object_tested a c k (Text x) w l = ap (is_object c) (sym l)
    object_tested a c k (Prim e) w l = ap (is_object c) (sym l)
    object_tested a c k (At b) (At d) l = addresses_same a b c d k l
    object_tested a c k (At b) (Num n) l = absurd l
    object_tested a c k (At b) (Truth x) l = absurd l
    object_tested a c k (At b) (Text x) l = absurd l
    object_tested a c k (At b) (Prim e) l = absurd l

    same_like : (v x w y : Value) → Like names v x → Like names w y → same_value v w ≡ same_value x y
    same_like (Num a) x w y l m = tested (is_number a) (λ b. refl) w y m ∙ ap (λ (z : Value). same_value z y) (sym l)
    same_like (Truth a) x w y l m = tested (is_truth a) (λ b. refl) w y m ∙ ap (λ (z : Value). same_value z y) (sym l)
    same_like (Text a) x w y l m = tested (is_text a) (λ b. refl) w y m ∙ ap (λ (z : Value). same_value z y) (sym l)
    same_like (Prim a) x w y l m = tested (is_primitive a) (λ b. refl) w y m ∙ ap (λ (z : Value). same_value z y) (sym l)
    same_like (At a) (At c) w y l m = object_tested a c l w y m
    same_like (At a) (Num n) w y l m = absurd l
    same_like (At a) (Truth b) w y l m = absurd l
    same_like (At a) (Text t) w y l m = absurd l
    same_like (At a) (Prim e) w y l m = absurd l

    compared_like : (f g : Frame) → FrameLike names f g → (wanted : Bool) (v x w y : Value) → Like names v x → Like names w y → M (compared f wanted v w) (compared g wanted x y)
    compared_like f g k wanted v x w y l m =
        pushed_like f g _ _ k (ap (λ (b : Bool). Truth (same_truth wanted b)) (sym (same_like v x w y l m)))

    applied_like : (f g : Frame) (o : Operation) → FrameLike names f g → M (applied f o) (applied g o)
    applied_like f g (applies.Binary o) k = pop_like f g k _ _ (λ w y a b l m. pop_like a b m _ _ (λ v x c d n p. binary_like c d p o v x w y n l))
    applied_like f g (applies.Same z) k =
        let same = λ (w : Value) (a : Frame). pop a (λ v c. compared c z v w) in
        pop_like f g k same same (λ w y a b l m. pop_like a b m (λ v c. compared c z v w) (λ x d. compared d z x y) (λ v x c d n p. compared_like c d p z v x w y n l))
    applied_like f g applies.Not k = pop_like f g k _ _ (λ v w a b l m. negated_like a b m v w l)

    apply_like : (f g : Frame) (kind : NodeKind) → FrameLike names f g → M (apply_task f kind) (apply_task g kind)
    apply_like f g kind k = given_like (applied_operation kind) _ _ (λ o. applied_like f g o k)

    -- ---- every task that sees nothing besides its frame

    pub blind_like : (core : CoreData) (a b : Around) (f g : Frame) (t : Task) → Blind t → FrameLike names f g → M (task_move core a f t) (task_move core b g t)
    blind_like core a b f g (task.Eval n) z k = node_like f g n (slice_get core.nodes n) k
    blind_like core a b f g (task.Get n) z k = absurd z
    blind_like core a b f g (task.Put n) z k = absurd z
    blind_like core a b f g (task.Store n) z k = nodes_like (slice_get core.nodes n) _ _ (λ x. store_like f g x.kind k)
    blind_like core a b f g (task.Make n) z k = absurd z
    blind_like core a b f g (task.Spawn n) z k = absurd z
    blind_like core a b f g (task.Invoke n) z k = absurd z
    blind_like core a b f g (task.Apply n) z k = nodes_like (slice_get core.nodes n) _ _ (λ x. apply_like f g x.kind k)
    blind_like core a b f g (task.Test n) z k = nodes_like (slice_get core.nodes n) _ _ (λ x. test_like f g x.children x.kind k)
    blind_like core a b f g (task.Branch n) z k = nodes_like (slice_get core.nodes n) _ _ (λ x. pop_like f g k _ _ (λ v w c d l m. truth_like (branch x.children) (branch x.children) (branch_like x.children) v w l c d m))
    blind_like core a b f g (task.Loop n) z k = nodes_like (slice_get core.nodes n) _ _ (λ x. pop_like f g k _ _ (λ v w c d l m. truth_like (loop_turn n x.children) (loop_turn n x.children) (turn_like n x.children) v w l c d m))
    blind_like core a b f g task.Discard z k = pop_like f g k (λ v a. Goes a) (λ v a. Goes a) (λ v w c d l m. m)
    blind_like core a b f g task.Return z k = subst (λ (n : ℕ). M (return_task f (slice_get core.methods f.method)) (return_task g (slice_get core.methods n))) k.method (return_like f g (slice_get core.methods f.method) k)
