-- Both configurations go on by like changes, and stay like each other.
use Rattle.std.specs.{Prelude.{◌≡◌, ◌≢◌, ◌⊎◌, ◌<◌, ◌≤◌, ℕ, ◌+◌, Bool, true, false, cond, nat_eq, List, [], ◌∷◌, ◌++◌, length, Option, Some, None, slice_get, refl, ⊤}, FinMap.get}
use Rattle.std.proofs.{Common.{inl, inr, ap, sym, subst, ◌∙◌, arith, length-append}, lemmas.Option.same_Some, lemmas.List.append-nil, lemmas.Bool.Decides.eqb_tells}
use Rattle.pc_base.proofs.Gets.{get_below, get_within, get_front, get_push, get_behind}
use Rattle.pc_heap.specs.{Objects.{made_by, Object}, declared.value.Address.Address}
use Rattle.pc_semantics.specs.{declared.actors.Actor.Actor, declared.mailbox.Message.Message, Configurations.Configuration}
use Rattle.pc_events.proofs.{Changes.{changed, going, left_mail, pushing, born, sent, spawned, Change, acted, applied}, Lists.{get_changed, get_unchanged}, Maps.Fit, Pass.length_acted, Kept.{count_grows, length_push}, Reach.Placed, Like.{FramesLike, MessageLike, frames_more, message_more}, Sim.{MailLike, mail_both, mail_weaker, Marks, Clean, Late, Status, Sim, names_same}, SimHeaps.{HeapLike, classes_both, fields_both, made_both}}

-- ---- an actor after a change

abbrev pub own_after : ℕ → Change → ℕ → Actor → Actor
own_after i x k a = cond (nat_eq k i) (going x.takes x.frames a) a

abbrev pub received : Option (ℕ × Message) → ℕ → Actor → Actor
received None k a = a
received (Some p) k a = cond (nat_eq k p.0) (pushing p.1 a) a

get_here_or : (l : List Actor) (i : ℕ) (g : Actor → Actor) (k : ℕ) (a : Actor) → slice_get l k ≡ Some a → slice_get (changed l i g) k ≡ Some (cond (nat_eq k i) (g a) a)
get_here_or l i g k a is =
    elim (eqb_tells k i) [
      | inl e ↦ subst (λ (z : ℕ). slice_get (changed l z g) k ≡ Some (g a)) e.1 (get_changed l k g a is) ∙ ap (λ (b : Bool). Some (cond b (g a) a)) (sym e.0)
      | inr e ↦ get_unchanged l i g k e.1 ∙ is ∙ ap (λ (b : Bool). Some (cond b (g a) a)) (sym e.0)
    ]

get_sent : (o : Option (ℕ × Message)) (l : List Actor) (k : ℕ) (a : Actor) → slice_get l k ≡ Some a → slice_get (sent o l) k ≡ Some (received o k a)
get_sent None l k a is = is
get_sent (Some p) l k a is = get_here_or l p.0 (pushing p.1) k a is

pub get_acted : (i : ℕ) (x : Change) (l : List Actor) (k : ℕ) (a : Actor) → slice_get l k ≡ Some a → slice_get (acted i x l) k ≡ Some (received x.sends k (own_after i x k a))
get_acted i x l k a is = get_sent x.sends (changed l i (going x.takes x.frames)) k (own_after i x k a) (get_here_or l i (going x.takes x.frames) k a is)

pub get_spawned : (o : Option Message) (l : List Actor) (k : ℕ) (a : Actor) → slice_get l k ≡ Some a → slice_get (spawned o l) k ≡ Some a
get_spawned None l k a is = is
get_spawned (Some m) l k a is = get_front l (born m ∷ []) k a is

-- What it was.
pub acted_from : (i : ℕ) (x : Change) (l : List Actor) (k : ℕ) (b : Actor) → slice_get (acted i x l) k ≡ Some b → (a : Actor) × (slice_get l k ≡ Some a) × (b ≡ received x.sends k (own_after i x k a))
acted_from i x l k b is =
    let w = get_within l k (subst (λ (n : ℕ). k < n) (length_acted i x l) (get_below (acted i x l) k b is)) in
    (w.0, w.1, same_Some b (received x.sends k (own_after i x k w.0)) (sym is ∙ get_acted i x l k w.0 w.1))

-- ---- like changes

abbrev pub SendsLike : List ℕ → Option (ℕ × Message) → Option (ℕ × Message) → Type 0
SendsLike names None None = ⊤
SendsLike names (Some p) (Some q) = (slice_get names q.0 ≡ Some p.0) × MessageLike names p.1 q.1
SendsLike names o p = ⊥

-- Neither makes an actor.
pub record NoBirth (x y : Change) (more : List ℕ) : Type 0 where
  pub one : x.spawns ≡ None
  pub two : y.spawns ≡ None
  pub added : more ≡ []

-- Both make one; that of the first has this number.
pub record Birth (names : List ℕ) (n : ℕ) (x y : Change) (more : List ℕ) : Type 0 where
  pub first : Message
  pub second : Message
  pub one : x.spawns ≡ Some first
  pub two : y.spawns ≡ Some second
  pub added : more ≡ n ∷ []
  pub like : MessageLike names first second

pub record ChangeLike (names : List ℕ) (c d : Configuration) (x y : Change) (more : List ℕ) : Type 0 where
  pub frames : FramesLike (names ++ more) x.frames y.frames
  pub heap : HeapLike (names ++ more) c.objects d.objects x.heap y.heap
  pub sends : SendsLike names x.sends y.sends
  pub births : NoBirth x y more ⊎ Birth (names ++ more) (length c.actors) x y more

module _ (names more : List ℕ) (post : ℕ → Type 0) (k j : ℕ) (inject : (j k a : ℕ) → slice_get names j ≡ Some a → slice_get names k ≡ Some a → j ≡ k) (name : slice_get names j ≡ Some k) (n : ℕ) where
  pub record PairLike (a b : Actor) : Type 0 where
    pub frames : FramesLike (names ++ more) a.frames b.frames
    pub mail : MailLike (names ++ more) post n a.mailbox b.mailbox

  chosen : (s t : Bool) → s ≡ t → (a a2 b b2 : Actor) → PairLike a2 b2 → PairLike a b → PairLike (cond s a2 a) (cond t b2 b)
  chosen true true e a a2 b b2 p q = p
  chosen true false e a a2 b b2 p q = absurd (true_false e)
    where
      true_false : true ≡ false → ⊥
      true_false z = cc
  chosen false true e a a2 b b2 p q = absurd (false_true e)
    where
      false_true : false ≡ true → ⊥
      false_true z = cc
  chosen false false e a a2 b b2 p q = q

  pub received_both : (o p : Option (ℕ × Message)) → SendsLike names o p → (a b : Actor) → PairLike a b → PairLike (received o k a) (received p j b)
  received_both None None l a b q = q
  received_both None (Some p) l a b q = absurd l
  received_both (Some o) None l a b q = absurd l
  received_both (Some o) (Some p) l a b q =
      chosen (nat_eq k o.0) (nat_eq j p.0) (names_same names inject k o.0 j p.0 name l.0) a (pushing o.1 a) b (pushing p.1 b)
      (record { frames = q.frames; mail = mail_both (names ++ more) post n a.mailbox b.mailbox o.1 p.1 q.mail (message_more names more o.1 p.1 l.1) }) q

-- ---- the actors that are not alike

pub late_received : (marks : Marks) (front : ℕ → ℕ) (c d : Configuration) (names : List ℕ) (k : ℕ) (o : Option (ℕ × Message)) (a : Actor) → Late marks front c d names k a → Late marks front c d names k (received o k a)
late_received marks front c d names k None a l = l
late_received marks front c d names k (Some p) a l = go (nat_eq k p.0)
  where
    go : (b : Bool) → Late marks front c d names k (cond b (pushing p.1 a) a)
    go true = record { frames = l.frames; message = l.message; rest = l.rest ++ p.1 ∷ []; mail = ap (λ (ms : List Message). ms ++ p.1 ∷ []) l.mail; marked = l.marked }
    go false = l

pub late_moved : (marks : Marks) (front next : ℕ → ℕ) (c d e f : Configuration) (names more : List ℕ) (k : ℕ) (a : Actor) → next k ≡ front k → Late marks front c d names k a → Late marks next e f more k a
late_moved marks front next c d e f names more k a s l = record { frames = l.frames; message = l.message; rest = l.rest; mail = l.mail; marked = subst (marks.post k) (sym s) l.marked }

module _ (marks : Marks) (front next : ℕ → ℕ) (c d : Configuration) (names more : List ℕ) (i : ℕ) (x y : Change) (sim : Sim marks front c d names) (a : Actor) (here : slice_get c.actors i ≡ Some a) (clean : Clean marks front c d names i a) (placed : Placed c) (placed_too : Placed d)
    (fx : Fit c.objects x.heap) (fy : Fit d.objects y.heap) (like : ChangeLike names c d x y more) (mail : MailLike (names ++ more) (marks.post i) (next i) (left_mail x.takes a.mailbox) (left_mail y.takes clean.actor.mailbox)) (others : (k : ℕ) → k ≢ i → next k ≡ front k) where
  j : ℕ
  j = clean.other

  abbrev c2 : Configuration
  c2 = applied c i x

  abbrev d2 : Configuration
  d2 = applied d clean.other y

  abbrev all : List ℕ
  all = names ++ more

  -- ---- names

  name_cases : (k b : ℕ) → slice_get all k ≡ Some b → (slice_get names k ≡ Some b) ⊎ ((k ≡ length names) × (b ≡ length c.actors))
  name_cases k b e =
      elim like.births [
        | inl n ↦ inl (sym (ap (λ (m : List ℕ). slice_get m k) (ap (λ (z : List ℕ). names ++ z) n.added ∙ append-nil names)) ∙ e)
        | inr n ↦ elim (get_push names (length c.actors) k b (sym (ap (λ (z : List ℕ). slice_get (names ++ z) k) n.added) ∙ e)) [ inl q ↦ inl q | inr q ↦ inr (q.0, sym q.1) ]
      ]

  less_other : (k n : ℕ) → k < n → k ≡ n → ⊥
  less_other k n b e = omega (arith, b, e)

  inject_all : (k l b : ℕ) → slice_get all k ≡ Some b → slice_get all l ≡ Some b → k ≡ l
  inject_all k l b e f =
      elim (name_cases k b e) [
        | inl p ↦ elim (name_cases l b f) [ inl q ↦ sim.inject k l b p q | inr q ↦ absurd (less_other b (length c.actors) (sim.within k b p) q.1) ]
        | inr p ↦ elim (name_cases l b f) [ inl q ↦ absurd (less_other b (length c.actors) (sim.within l b q) p.1) | inr q ↦ p.0 ∙ sym q.0 ]
      ]

  not_zero : (k n m : ℕ) → k < n → m ≡ n → m ≡ 0 → ⊥
  not_zero k n m b e f = omega (arith, b, e, f)

  first_all : (k b : ℕ) → slice_get all k ≡ Some b → (b ≡ 0 → k ≡ 0) × (k ≡ 0 → b ≡ 0)
  first_all k b e =
      elim (name_cases k b e) [
        | inl p ↦ sim.first k b p
        | inr p ↦ (λ z. absurd (not_zero i (length c.actors) b (get_below c.actors i a here) p.1 z), λ z. absurd (not_zero clean.other (length names) k (get_below names clean.other i clean.name) p.0 z))
      ]

  grows : length c.actors ≤ length c2.actors
  grows = count_grows x.spawns (acted i x c.actors) c.actors (length_acted i x c.actors)

  born_length : (s : Option Message) (m : Message) (l : List Actor) → s ≡ Some m → length (spawned s l) ≡ length l + 1
  born_length s m l e = ap (λ (o : Option Message). length (spawned o l)) e ∙ length_push l (born m)

  none_length : (s : Option Message) (l : List Actor) → s ≡ None → length (spawned s l) ≡ length l
  none_length s l e = ap (λ (o : Option Message). length (spawned o l)) e

  less_grown : (k n m : ℕ) → k < n → n ≤ m → k < m
  less_grown k n m b e = omega (arith, b, e)

  end_less : (b n l m : ℕ) → b ≡ n → l ≡ n → m ≡ l + 1 → b < m
  end_less b n l m e f g = omega (arith, e, f, g)

  within_all : (k b : ℕ) → slice_get all k ≡ Some b → b < length c2.actors
  within_all k b e =
      elim (name_cases k b e) [
        | inl p ↦ less_grown b (length c.actors) (length c2.actors) (sim.within k b p) grows
        | inr p ↦
            elim like.births [
              | inl n ↦ absurd (none_more k b n e p)
              | inr n ↦ end_less b (length c.actors) (length (acted i x c.actors)) (length c2.actors) p.1 (length_acted i x c.actors) (born_length x.spawns n.first (acted i x c.actors) n.one)
            ]
      ]
    where
      none_more : (k b : ℕ) → NoBirth x y more → slice_get all k ≡ Some b → (k ≡ length names) × (b ≡ length c.actors) → ⊥
      none_more k b n e p =
          let f : slice_get names k ≡ Some b = sym (ap (λ (m : List ℕ). slice_get m k) (ap (λ (z : List ℕ). names ++ z) n.added ∙ append-nil names)) ∙ e in
          less_other k (length names) (get_below names k b f) p.0

  count_all : length d2.actors ≡ length all
  count_all =
      elim like.births [
        | inl n ↦ none_length y.spawns (acted clean.other y d.actors) n.two ∙ length_acted clean.other y d.actors ∙ sim.count ∙ sym (ap length (ap (λ (z : List ℕ). names ++ z) n.added ∙ append-nil names))
        | inr n ↦
            born_length y.spawns n.second (acted clean.other y d.actors) n.two ∙ ap (λ (z : ℕ). z + 1) (length_acted clean.other y d.actors ∙ sim.count)
            ∙ sym (length-append names (length c.actors ∷ [])) ∙ sym (ap (λ (z : List ℕ). length (names ++ z)) n.added)
      ]

  -- ---- objects

  standing : (b : Address) (o : Object) → get d.objects b ≡ Some o → b.maker < length names
  standing b o e = subst (λ (n : ℕ). b.maker < n) sim.count (placed_too.maker b o e)

  made_all : (k l : ℕ) → slice_get all l ≡ Some k → made_by c.objects k ≡ made_by d.objects l → made_by c2.objects k ≡ made_by d2.objects l
  made_all k l n e = made_both marks.wrote names more c.objects d.objects inject_all standing sim.classes sim.fields x.heap y.heap fx fy like.heap k l n e

  -- ---- actors

  clean_still : (k : ℕ) (a2 : Actor) (q : Clean marks front c d names k a2) → (m : Actor) (m2 : Actor) → own_after clean.other y q.other q.actor ≡ m2 → PairLike names more (marks.post k) k q.other sim.inject q.name (next k) m m2 → Clean marks next c2 d2 all k (received x.sends k m)
  clean_still k a2 q m m2 e p =
      let r = received_both names more (marks.post k) k q.other sim.inject q.name (next k) x.sends y.sends like.sends m m2 p in
      record {
        other = q.other;
        actor = received y.sends q.other m2;
        name = get_front names more q.other k q.name;
        is = get_spawned y.spawns (acted clean.other y d.actors) q.other (received y.sends q.other m2) (get_acted clean.other y d.actors q.other q.actor q.is ∙ ap (λ (z : Actor). Some (received y.sends q.other z)) e);
        frames = r.frames;
        mail = r.mail;
        made = made_all k q.other (get_front names more q.other k q.name) q.made;
      }

  own_pair : PairLike names more (marks.post i) i clean.other sim.inject clean.name (next i) (going x.takes x.frames a) (going y.takes y.frames clean.actor)
  own_pair = record { frames = like.frames; mail = mail }

  is_own : (k l : ℕ) (z : Change) (b : Actor) → k ≡ l → own_after l z k b ≡ going z.takes z.frames b
  is_own k l z b e = elim (eqb_tells k l) [ inl t ↦ ap (λ (s : Bool). cond s (going z.takes z.frames b) b) t.0 | inr t ↦ absurd (t.1 e) ]

  is_other : (k l : ℕ) (z : Change) (b : Actor) → k ≢ l → own_after l z k b ≡ b
  is_other k l z b n = elim (eqb_tells k l) [ inl t ↦ absurd (n t.1) | inr t ↦ ap (λ (s : Bool). cond s (going z.takes z.frames b) b) t.0 ]

  own_status : Status marks next c2 d2 all i (received x.sends i (going x.takes x.frames a))
  own_status = inl (clean_still i a clean (going x.takes x.frames a) (going y.takes y.frames clean.actor) (is_own clean.other clean.other y clean.actor refl) own_pair)

  other_status : (k : ℕ) (b : Actor) → k ≢ i → Status marks front c d names k b → Status marks next c2 d2 all k (received x.sends k b)
  other_status k b n (inl q) =
      inl (clean_still k b q b q.actor (is_other q.other clean.other y q.actor (λ e. n (same_Some k i (sym q.name ∙ ap (slice_get names) e ∙ clean.name)))) (record {
        frames = frames_more names more b.frames q.actor.frames q.frames;
        mail = subst (λ (z : ℕ). MailLike all (marks.post k) z b.mailbox q.actor.mailbox) (sym (others k n)) (mail_weaker names more (marks.post k) (marks.post k) (λ r p. p) (front k) b.mailbox q.actor.mailbox q.mail);
      }))
  other_status k b n (inr (inl q)) = inr (inl q)
  other_status k b n (inr (inr q)) = inr (inr (late_received marks next c2 d2 all k x.sends b (late_moved marks front next c d c2 d2 names all k b (others k n) q)))

  old_status : (k : ℕ) (b : Actor) → slice_get (acted i x c.actors) k ≡ Some b → Status marks next c2 d2 all k b
  old_status k b is =
      let w = acted_from i x c.actors k b is in
      subst (Status marks next c2 d2 all k) (sym w.2) (
      elim (eqb_tells k i) [
        | inl e ↦
            let s : w.0 ≡ a = same_Some w.0 a (sym w.1 ∙ ap (slice_get c.actors) e.1 ∙ here) in
            subst (λ (z : Actor). Status marks next c2 d2 all k (received x.sends k z)) (sym (is_own k i x w.0 e.1 ∙ ap (going x.takes x.frames) s)) (subst (λ (z : ℕ). Status marks next c2 d2 all z (received x.sends z (going x.takes x.frames a))) (sym e.1) own_status)
        | inr e ↦ subst (λ (z : Actor). Status marks next c2 d2 all k (received x.sends k z)) (sym (is_other k i x w.0 e.1)) (other_status k w.0 e.1 (sim.actors k w.0 w.1))
      ]
      )

  new_status : (n : Birth all (length c.actors) x y more) (k : ℕ) → k ≡ length (acted i x c.actors) → Status marks next c2 d2 all k (born n.first)
  new_status n k e =
      let t : k ≡ length c.actors = e ∙ length_acted i x c.actors in
      let name : slice_get all (length names) ≡ Some k = ap (λ (z : List ℕ). slice_get (names ++ z) (length names)) n.added ∙ get_behind names (length c.actors) [] ∙ ap Some (sym t) in
      let l : length (acted clean.other y d.actors) ≡ length names = length_acted clean.other y d.actors ∙ sim.count in
      inl (record {
        other = length names;
        actor = born n.second;
        name = name;
        is =
            ap (λ (o : Option Message). slice_get (spawned o (acted clean.other y d.actors)) (length names)) n.two
            ∙ ap (slice_get (acted clean.other y d.actors ++ born n.second ∷ [])) (sym l) ∙ get_behind (acted clean.other y d.actors) (born n.second) [];
        frames = tt;
        mail = inl (n.like, tt);
        made = made_all k (length names) name (ap (made_by c.objects) t ∙ placed.later (length c.actors) (none_below (length c.actors)) ∙ sym (placed_too.later (length names) (subst (λ (z : ℕ). z ≤ length names) (sym sim.count) (none_below (length names)))));
      })
    where
      none_below : (z : ℕ) → z ≤ z
      none_below z = omega arith

  all_status : (k : ℕ) (b : Actor) → slice_get c2.actors k ≡ Some b → Status marks next c2 d2 all k b
  all_status k b is =
      elim like.births [
        | inl n ↦ old_status k b (sym (ap (λ (o : Option Message). slice_get (spawned o (acted i x c.actors)) k) n.one) ∙ is)
        | inr n ↦
            elim (get_push (acted i x c.actors) (born n.first) k b (sym (ap (λ (o : Option Message). slice_get (spawned o (acted i x c.actors)) k) n.one) ∙ is)) [
              | inl q ↦ old_status k b q
              | inr q ↦ subst (Status marks next c2 d2 all k) q.1 (new_status n k q.0)
            ]
      ]

  pub both_go : Sim marks next (applied c i x) (applied d clean.other y) (names ++ more)
  both_go = record {
    count = count_all;
    first = first_all;
    inject = inject_all;
    within = within_all;
    classes = λ p q l e is. classes_both marks.wrote names more c.objects d.objects inject_all standing sim.classes sim.fields x.heap y.heap fx fy like.heap p q l e is;
    fields = λ p q l e is f. fields_both marks.wrote names more c.objects d.objects inject_all standing sim.classes sim.fields x.heap y.heap fx fy like.heap p q l e is f;
    actors = all_status;
  }
