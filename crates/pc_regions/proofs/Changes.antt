-- Changes of a world: a region stands otherwise, becomes a part of another, or is left by the places that held it; a
-- new one is opened, and a context comes or goes. What an actor does in a frame shifts a world, and preserves what is
-- required at the other places.
use Rattle.std.specs.Prelude.{◌≡◌, ◌≢◌, ◌⊎◌, ℕ, suc, ◌-◌, ◌<◌, ◌≤◌, Bool, false, ◌&&◌, cond, Option, Some, None, nat_eq, nat_lt}
use Rattle.pc_heap.specs.{Objects.ObjectMap, declared.value.Value.Value}
use Rattle.pc_caps.specs.declared.capability.Form.{Form}
use Rattle.pc_regions.proofs.World.{Place, Standing, Unused, Opened, Loose, Held, Child, World, Fits, Alias, Over, WorldOk}

-- ---- changes

abbrev pub stand : (ℕ → Standing) → ℕ → Standing → ℕ → Standing
stand f q s x = cond (nat_eq q x) s (f x)

-- Region q stands like this.
abbrev pub standing : World → ℕ → Standing → World
standing w q s = record { region = w.region; stands = stand w.stands q s; role = w.role; context = w.context; top = w.top; sent = w.sent; next = w.next }

-- What is in region q goes to r.
abbrev pub renamed : ℕ → ℕ → ℕ → ℕ
renamed q r x = cond (nat_eq q x) r x

abbrev pub child_renamed : ℕ → ℕ → Standing → Standing
child_renamed q r (Child u at) = Child (renamed q r u) at
child_renamed q r s = s

-- Region q becomes a part of r.
abbrev pub merged : World → ℕ → ℕ → World
merged w q r = record {
  region = λ a. renamed q r (w.region a);
  stands = λ x. child_renamed q r (stand w.stands q Unused x);
  role = w.role;
  context = λ i l. renamed q r (w.context i l);
  top = w.top;
  sent = w.sent;
  next = w.next;
}

-- These places let go of what they hold, which is loose then, at level l of actor i, or a child that is held at no place.
abbrev pub let_go : (Place → Bool) → ℕ → ℕ → Standing → Standing
let_go are i l (Held p) = cond (are p) (Loose i l) (Held p)
let_go are i l (Child u (Some p)) = Child u (cond (are p) None (Some p))
let_go are i l s = s

abbrev pub left_by : World → (Place → Bool) → ℕ → ℕ → World
left_by w are i l = record { region = w.region; stands = λ x. let_go are i l (w.stands x); role = w.role; context = w.context; top = w.top; sent = w.sent; next = w.next }

abbrev pub with_context : (ℕ → ℕ → ℕ) → ℕ → ℕ → ℕ → ℕ → ℕ → ℕ
with_context f i j q a b = cond (nat_eq i a && nat_eq j b) q (f a b)

abbrev pub with_number : (ℕ → ℕ) → ℕ → ℕ → ℕ → ℕ
with_number f i n a = cond (nat_eq i a) n (f a)

abbrev pub with_role : (ℕ → Option (ℕ × ℕ)) → ℕ → Option (ℕ × ℕ) → ℕ → Option (ℕ × ℕ)
with_role f q r x = cond (nat_eq q x) r (f x)

-- Region q becomes the next context of actor i.
abbrev pub lent : World → ℕ → ℕ → World
lent w i q = record {
  region = w.region;
  stands = w.stands;
  role = with_role w.role q (Some (i, suc (w.top i)));
  context = with_context w.context i (suc (w.top i)) q;
  top = with_number w.top i (suc (w.top i));
  sent = w.sent;
  next = w.next;
}

-- A new region is opened, as the next context of actor i.
abbrev pub with_open : World → ℕ → World
with_open w i = record {
  region = w.region;
  stands = stand w.stands w.next (Opened i);
  role = with_role w.role w.next (Some (i, suc (w.top i)));
  context = with_context w.context i (suc (w.top i)) w.next;
  top = with_number w.top i (suc (w.top i));
  sent = w.sent;
  next = suc w.next;
}

-- The last context of actor i is one no more. What is loose comes down to the level before.
abbrev pub lowered : ℕ → ℕ → Standing → Standing
lowered i l (Loose j k) = Loose j (cond (nat_eq i j && nat_lt l k) l k)
lowered i l s = s

abbrev pub without_last : World → ℕ → World
without_last w i = record {
  region = w.region;
  stands = λ x. lowered i (w.top i - 1) (w.stands x);
  role = with_role w.role (w.context i (w.top i)) None;
  context = w.context;
  top = with_number w.top i (w.top i - 1);
  sent = w.sent;
  next = w.next;
}

-- ---- what is kept

-- While actor i runs a frame of level b, and the values at these places are no longer needed: every other value fits as
-- it did, the other actors keep their contexts and what is over them, and this one does up to level b.
pub record Shifts (w w' : World) (objects : ObjectMap) (count i b : ℕ) (gone : Place → Bool) : Type 0 where
  pub world : WorldOk w' objects count
  pub fits : (p : Place) (f : Form) (v : Value) → gone p ≡ false → Fits w p f v → Fits w' p f v
  pub sent : (j : ℕ) → w'.sent j ≡ w.sent j
  pub top : (j : ℕ) → i ≢ j → w'.top j ≡ w.top j
  pub context : (l : ℕ) → l ≤ b → w'.context i l ≡ w.context i l
  pub contexts : (j l : ℕ) → j < count → i ≢ j → l ≤ w.top j → w'.context j l ≡ w.context j l
  pub opened : (j l : ℕ) → (i ≢ j) ⊎ (l ≤ b) → w.stands (w.context j l) ≡ Opened j → w'.stands (w'.context j l) ≡ Opened j
  pub alias : (j c : ℕ) (f : Form) (v : Value) → j < count → i ≢ j → Alias w j c (w.top j) f v → Alias w' j c (w.top j) f v
  pub over : (j m l : ℕ) → j < count → i ≢ j → Over w j (w.context j m) l → Over w' j (w'.context j m) l
  pub low : (m l : ℕ) → m ≤ b → l < b → Over w i (w.context i m) l → Over w' i (w'.context i m) l
