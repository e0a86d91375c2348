-- Values, frames and moves that are alike except for the numbers of actors. For each actor of the second configuration,
-- `names` has the number of the actor of the first that corresponds to it.
use Rattle.std.specs.Prelude.{◌≡◌, ℕ, zero, suc, List, [], ◌∷◌, ◌++◌, map, length, replicate, Option, Some, None, slice_get, slice_set, refl, ⊤}
use Rattle.std.proofs.Common.{ap}
use Rattle.pc_base.proofs.Gets.{get_front}
use Rattle.pc_heap.specs.{declared.value.Address.Address, Objects.Object, declared.value.Value.Value, declared.value.Value.TheVariants.{Num, Truth, Text, Prim, At}}
use Rattle.pc_semantics.specs.{declared.frames.Frame.Frame, declared.mailbox.Message.Message, Configurations.{Move, Stuck, Overflows, Goes, Writes, Makes, Spawns, Enters, Sends, Leaves}}

module _ (names : List ℕ) where
  pub record AddressLike (a b : Address) : Type 0 where
    pub maker : slice_get names b.maker ≡ Some a.maker
    pub serial : a.serial ≡ b.serial

  abbrev pub Like : Value → Value → Type 0
  Like (Num n) w = w ≡ Num n
  Like (Truth x) w = w ≡ Truth x
  Like (Text t) w = w ≡ Text t
  Like (Prim e) w = w ≡ Prim e
  Like (At a) (At b) = AddressLike a b
  Like (At a) w = ⊥

  abbrev pub SlotLike : Option Value → Option Value → Type 0
  SlotLike None None = ⊤
  SlotLike (Some v) (Some w) = Like v w
  SlotLike o p = ⊥

  abbrev pub Likes : List Value → List Value → Type 0
  Likes [] [] = ⊤
  Likes (v ∷ vs) (w ∷ ws) = Like v w × Likes vs ws
  Likes vs ws = ⊥

  abbrev pub SlotsLike : List (Option Value) → List (Option Value) → Type 0
  SlotsLike [] [] = ⊤
  SlotsLike (o ∷ os) (p ∷ ps) = SlotLike o p × SlotsLike os ps
  SlotsLike os ps = ⊥

  pub record FrameLike (f g : Frame) : Type 0 where
    pub method : f.method ≡ g.method
    pub slots : SlotsLike f.slots g.slots
    pub stack : Likes f.stack g.stack
    pub tasks : f.tasks ≡ g.tasks

  abbrev pub FramesLike : List Frame → List Frame → Type 0
  FramesLike [] [] = ⊤
  FramesLike (f ∷ fs) (g ∷ gs) = FrameLike f g × FramesLike fs gs
  FramesLike fs gs = ⊥

  pub record MessageLike (m n : Message) : Type 0 where
    pub method : m.method ≡ n.method
    pub arguments : Likes m.arguments n.arguments

  pub record ObjectLike (o p : Object) : Type 0 where
    pub entity : o.entity ≡ p.entity
    pub fields : SlotsLike o.fields p.fields

-- Two moves, if neither lacks anything. A new actor has the number `next` in the first.
abbrev pub MoveLike : List ℕ → ℕ → Move → Move → Type 0
MoveLike names next (Stuck l) m = ⊤
MoveLike names next m (Stuck l) = ⊤
MoveLike names next Overflows Overflows = ⊤
MoveLike names next (Goes f) (Goes g) = FrameLike names f g
MoveLike names next (Writes a k v f) (Writes b l w g) = AddressLike names a b × (k ≡ l) × Like names v w × FrameLike names f g
MoveLike names next (Makes a o f h) (Makes b p g k) = AddressLike names a b × ObjectLike names o p × FrameLike names f g × FrameLike names h k
MoveLike names next (Spawns o m f) (Spawns p n g) = ObjectLike names o p × MessageLike names m n × FrameLike (names ++ next ∷ []) f g
MoveLike names next (Enters f h) (Enters g k) = FrameLike names f g × FrameLike names h k
MoveLike names next (Sends i m f) (Sends j n g) = (slice_get names j ≡ Some i) × MessageLike names m n × FrameLike names f g
MoveLike names next (Leaves o) (Leaves p) = SlotLike names o p
MoveLike names next m n = ⊥

-- ---- one actor more

module _ (names more : List ℕ) where
  pub address_more : (a b : Address) → AddressLike names a b → AddressLike (names ++ more) a b
  address_more a b k = record { maker = get_front names more b.maker a.maker k.maker; serial = k.serial }

  pub like_more : (v w : Value) → Like names v w → Like (names ++ more) v w
  like_more (Num n) w k = k
  like_more (Truth x) w k = k
  like_more (Text t) w k = k
  like_more (Prim e) w k = k
  like_more (At a) (At b) k = address_more a b k
  like_more (At a) (Num n) k = absurd k
  like_more (At a) (Truth x) k = absurd k
  like_more (At a) (Text t) k = absurd k
  like_more (At a) (Prim e) k = absurd k

  pub slot_more : (o p : Option Value) → SlotLike names o p → SlotLike (names ++ more) o p
  slot_more None None k = tt
  slot_more None (Some w) k = absurd k
  slot_more (Some v) None k = absurd k
  slot_more (Some v) (Some w) k = like_more v w k

  pub likes_more : (vs ws : List Value) → Likes names vs ws → Likes (names ++ more) vs ws
  likes_more [] [] k = tt
  likes_more [] (w ∷ ws) k = absurd k
  likes_more (v ∷ vs) [] k = absurd k
  likes_more (v ∷ vs) (w ∷ ws) k = (like_more v w k.0, likes_more vs ws k.1)

  pub slots_more : (os ps : List (Option Value)) → SlotsLike names os ps → SlotsLike (names ++ more) os ps
  slots_more [] [] k = tt
  slots_more [] (p ∷ ps) k = absurd k
  slots_more (o ∷ os) [] k = absurd k
  slots_more (o ∷ os) (p ∷ ps) k = (slot_more o p k.0, slots_more os ps k.1)

  pub frame_more : (f g : Frame) → FrameLike names f g → FrameLike (names ++ more) f g
  frame_more f g k = record { method = k.method; slots = slots_more f.slots g.slots k.slots; stack = likes_more f.stack g.stack k.stack; tasks = k.tasks }

  pub frames_more : (fs gs : List Frame) → FramesLike names fs gs → FramesLike (names ++ more) fs gs
  frames_more [] [] k = tt
  frames_more [] (g ∷ gs) k = absurd k
  frames_more (f ∷ fs) [] k = absurd k
  frames_more (f ∷ fs) (g ∷ gs) k = (frame_more f g k.0, frames_more fs gs k.1)

  pub message_more : (m n : Message) → MessageLike names m n → MessageLike (names ++ more) m n
  message_more m n k = record { method = k.method; arguments = likes_more m.arguments n.arguments k.arguments }

-- ---- slots

module _ (names : List ℕ) where
  -- What is at a place, in both.
  abbrev pub FoundLike : Option (Option Value) → Option (Option Value) → Type 0
  FoundLike None None = ⊤
  FoundLike (Some o) (Some p) = SlotLike names o p
  FoundLike o p = ⊥

  pub slots_get : (os ps : List (Option Value)) (n : ℕ) → SlotsLike names os ps → FoundLike (slice_get os n) (slice_get ps n)
  slots_get [] [] n k = tt
  slots_get [] (p ∷ ps) n k = absurd k
  slots_get (o ∷ os) [] n k = absurd k
  slots_get (o ∷ os) (p ∷ ps) zero k = k.0
  slots_get (o ∷ os) (p ∷ ps) (suc n) k = slots_get os ps n k.1

  pub slots_set : (os ps : List (Option Value)) (n : ℕ) (o p : Option Value) → SlotLike names o p → SlotsLike names os ps → SlotsLike names (slice_set os n o) (slice_set ps n p)
  slots_set [] [] n x y l k = tt
  slots_set [] (p ∷ ps) n x y l k = absurd k
  slots_set (o ∷ os) [] n x y l k = absurd k
  slots_set (o ∷ os) (p ∷ ps) zero x y l k = (l, k.1)
  slots_set (o ∷ os) (p ∷ ps) (suc n) x y l k = (k.0, slots_set os ps n x y l k.1)

  pub likes_length : (vs ws : List Value) → Likes names vs ws → length vs ≡ length ws
  likes_length [] [] k = refl
  likes_length [] (w ∷ ws) k = absurd k
  likes_length (v ∷ vs) [] k = absurd k
  likes_length (v ∷ vs) (w ∷ ws) k = ap suc (likes_length vs ws k.1)

  pub empty_slots : (n : ℕ) → SlotsLike names (replicate n None) (replicate n None)
  empty_slots zero = tt
  empty_slots (suc n) = (tt, empty_slots n)

  argument_slots : (vs ws : List Value) → Likes names vs ws → (os ps : List (Option Value)) → SlotsLike names os ps → SlotsLike names (map Some vs ++ os) (map Some ws ++ ps)
  argument_slots [] [] k os ps l = l
  argument_slots [] (w ∷ ws) k os ps l = absurd k
  argument_slots (v ∷ vs) [] k os ps l = absurd k
  argument_slots (v ∷ vs) (w ∷ ws) k os ps l = (k.0, argument_slots vs ws k.1 os ps l)

  pub first_slots_like : (n : ℕ) (v w : Value) (vs ws : List Value) → Like names v w → Likes names vs ws → SlotsLike names (Some v ∷ map Some vs ++ replicate n None) (Some w ∷ map Some ws ++ replicate n None)
  first_slots_like n v w vs ws k l = (k, argument_slots vs ws l (replicate n None) (replicate n None) (empty_slots n))
