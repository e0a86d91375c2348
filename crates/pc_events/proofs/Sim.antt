-- A configuration that has gone on by more steps than another, and is like it except for what was marked.
use Rattle.std.specs.Prelude.{◌≡◌, ◌⊎◌, ◌<◌, ℕ, suc, ◌+◌, nat_eq, List, [], ◌∷◌, ◌++◌, length, Some, slice_get, ⊤}
use Rattle.std.proofs.{Common.{inl, inr, ap, sym, subst, ◌∙◌, arith}, lemmas.Option.same_Some, lemmas.Bool.{eq-eqb, ne_eqb}, lemmas.Bool.Decides.eqb_tells}
use Rattle.pc_base.proofs.Gets.{get_within, get_front}
use Rattle.pc_heap.specs.{Objects.{class_at, made_by}, Fields.field_at, declared.value.Address.Address}
use Rattle.pc_semantics.specs.{declared.actors.Actor.Actor, declared.mailbox.Message.Message, Configurations.Configuration}
use Rattle.pc_events.proofs.Like.{AddressLike, FramesLike, MessageLike, FoundLike, message_more}

-- ---- mailboxes

module _ (names : List ℕ) (post : ℕ → Type 0) where
  -- The messages, of which the first has this number, are like the others up to one that is marked.
  abbrev pub MailLike : ℕ → List Message → List Message → Type 0
  MailLike n [] [] = ⊤
  MailLike n [] (k ∷ ks) = ⊥
  MailLike n (m ∷ ms) [] = post n
  MailLike n (m ∷ ms) (k ∷ ks) = (MessageLike names m k × MailLike (suc n) ms ks) ⊎ post n

  -- One more for both.
  pub mail_both : (n : ℕ) (ms ks : List Message) (m k : Message) → MailLike n ms ks → MessageLike names m k → MailLike n (ms ++ m ∷ []) (ks ++ k ∷ [])
  mail_both n [] [] m k l q = inl (q, tt)
  mail_both n [] (y ∷ ks) m k l q = absurd l
  mail_both n (x ∷ ms) [] m k l q = inr l
  mail_both n (x ∷ ms) (y ∷ ks) m k (inl l) q = inl (l.0, mail_both (suc n) ms ks m k l.1 q)
  mail_both n (x ∷ ms) (y ∷ ks) m k (inr l) q = inr l

  -- One more, which is marked, for the first.
  pub mail_one : (n : ℕ) (ms ks : List Message) (m : Message) → MailLike n ms ks → post (n + length ms) → MailLike n (ms ++ m ∷ []) ks
  mail_one n [] [] m l p = let e : n + 0 ≡ n = omega arith in subst post e p
  mail_one n [] (y ∷ ks) m l p = absurd l
  mail_one n (x ∷ ms) [] m l p = l
  mail_one n (x ∷ ms) (y ∷ ks) m (inl l) p = let e : n + suc (length ms) ≡ suc n + length ms = omega arith in inl (l.0, mail_one (suc n) ms ks m l.1 (subst post e p))
  mail_one n (x ∷ ms) (y ∷ ks) m (inr l) p = inr l

-- More is marked, and there are more actors.
pub mail_weaker : (names more : List ℕ) (post more_post : ℕ → Type 0) → ((r : ℕ) → post r → more_post r) → (n : ℕ) (ms ks : List Message) → MailLike names post n ms ks → MailLike (names ++ more) more_post n ms ks
mail_weaker names more post q h n [] [] l = tt
mail_weaker names more post q h n [] (y ∷ ks) l = absurd l
mail_weaker names more post q h n (x ∷ ms) [] l = h n l
mail_weaker names more post q h n (x ∷ ms) (y ∷ ks) (inl l) = inl (message_more names more x y l.0, mail_weaker names more post q h (suc n) ms ks l.1)
mail_weaker names more post q h n (x ∷ ms) (y ∷ ks) (inr l) = inr (h n l)

pub mail_marked : (names : List ℕ) (post more_post : ℕ → Type 0) → ((r : ℕ) → post r → more_post r) → (n : ℕ) (ms ks : List Message) → MailLike names post n ms ks → MailLike names more_post n ms ks
mail_marked names post q h n [] [] l = tt
mail_marked names post q h n [] (y ∷ ks) l = absurd l
mail_marked names post q h n (x ∷ ms) [] l = h n l
mail_marked names post q h n (x ∷ ms) (y ∷ ks) (inl l) = inl (l.0, mail_marked names post q h (suc n) ms ks l.1)
mail_marked names post q h n (x ∷ ms) (y ∷ ks) (inr l) = inr (h n l)

-- ---- what is marked

-- Actors, messages by their receiver and their number, and fields.
pub record Marks : Type 1 where
  pub actor : ℕ → Type 0
  pub post : ℕ → ℕ → Type 0
  pub wrote : Address → ℕ → Type 0

pub record MoreMarks (m n : Marks) : Type 0 where
  pub actor : (i : ℕ) → m.actor i → n.actor i
  pub post : (i r : ℕ) → m.post i r → n.post i r
  pub wrote : (a : Address) (f : ℕ) → m.wrote a f → n.wrote a f

module _ (marks : Marks) (front : ℕ → ℕ) (c d : Configuration) (names : List ℕ) where
  -- The actor is like one of the second configuration.
  pub record Clean (i : ℕ) (a : Actor) : Type 0 where
    pub other : ℕ
    pub actor : Actor
    pub name : slice_get names other ≡ Some i
    pub is : slice_get d.actors other ≡ Some actor
    pub frames : FramesLike names a.frames actor.frames
    pub mail : MailLike names (marks.post i) (front i) a.mailbox actor.mailbox
    pub made : made_by c.objects i ≡ made_by d.objects other

  -- The actor is new, and its first message is marked.
  pub record Late (i : ℕ) (a : Actor) : Type 0 where
    pub frames : a.frames ≡ []
    pub message : Message
    pub rest : List Message
    pub mail : a.mailbox ≡ message ∷ rest
    pub marked : marks.post i (front i)

  abbrev pub Status : ℕ → Actor → Type 0
  Status i a = Clean i a ⊎ (marks.actor i ⊎ Late i a)

  pub record Sim : Type 0 where
    pub count : length d.actors ≡ length names
    pub first : (j a : ℕ) → slice_get names j ≡ Some a → (a ≡ 0 → j ≡ 0) × (j ≡ 0 → a ≡ 0)
    pub inject : (j k a : ℕ) → slice_get names j ≡ Some a → slice_get names k ≡ Some a → j ≡ k
    pub within : (j a : ℕ) → slice_get names j ≡ Some a → a < length c.actors
    pub classes : (a b : Address) → AddressLike names a b → (e : ℕ) → class_at d.objects b ≡ Some e → class_at c.objects a ≡ Some e
    pub fields : (a b : Address) → AddressLike names a b → (e : ℕ) → class_at d.objects b ≡ Some e → (f : ℕ) → FoundLike names (field_at c.objects a f) (field_at d.objects b f) ⊎ marks.wrote a f
    pub actors : (i : ℕ) (a : Actor) → slice_get c.actors i ≡ Some a → Status i a

-- More is marked.
pub sim_marked : (m n : Marks) → MoreMarks m n → (front : ℕ → ℕ) (c d : Configuration) (names : List ℕ) → Sim m front c d names → Sim n front c d names
sim_marked m n h front c d names s = record {
  count = s.count;
  first = s.first;
  inject = s.inject;
  within = s.within;
  classes = s.classes;
  fields = λ a b l e is f. elim (s.fields a b l e is f) [ inl k ↦ inl k | inr w ↦ inr (h.wrote a f w) ];
  actors = λ i a e.
      elim (s.actors i a e) [
        | inl k ↦ inl (record { other = k.other; actor = k.actor; name = k.name; is = k.is; frames = k.frames; mail = mail_marked names (m.post i) (n.post i) (h.post i) (front i) a.mailbox k.actor.mailbox k.mail; made = k.made })
        | inr (inl k) ↦ inr (inl (h.actor i k))
        | inr (inr k) ↦ inr (inr (record { frames = k.frames; message = k.message; rest = k.rest; mail = k.mail; marked = h.post i (front i) k.marked }))
      ];
}

-- ---- names

pub names_same : (names : List ℕ) → ((j k a : ℕ) → slice_get names j ≡ Some a → slice_get names k ≡ Some a → j ≡ k) → (i l j k : ℕ) → slice_get names j ≡ Some i → slice_get names k ≡ Some l → nat_eq i l ≡ nat_eq j k
names_same names inject i l j k e f =
    elim (eqb_tells j k) [
      | inl s ↦ eq-eqb i l (same_Some i l (sym e ∙ ap (slice_get names) s.1 ∙ f)) ∙ sym s.0
      | inr s ↦ ne_eqb i l (λ t. s.1 (inject j k l (e ∙ ap Some t) f)) ∙ sym s.0
    ]

-- A place of the first names is one of them.
pub name_before : (names more : List ℕ) (j a : ℕ) → j < length names → slice_get (names ++ more) j ≡ Some a → slice_get names j ≡ Some a
name_before names more j a b e = let w = get_within names j b in w.1 ∙ ap Some (same_Some w.0 a (sym (get_front names more j w.0 w.1) ∙ e))

same_address_by : (a b : Address) → a.maker ≡ b.maker → a.serial ≡ b.serial → a ≡ b
same_address_by a b e f = ap (λ (m : ℕ). record { maker = m; serial = a.serial }) e ∙ ap (λ (s : ℕ). record { maker = b.maker; serial = s }) f

pub second_address : (names : List ℕ) → ((j k a : ℕ) → slice_get names j ≡ Some a → slice_get names k ≡ Some a → j ≡ k) → (a b x : Address) → AddressLike names a b → AddressLike names a x → b ≡ x
second_address names inject a b x k l = same_address_by b x (inject b.maker x.maker a.maker k.maker l.maker) (sym k.serial ∙ l.serial)

pub first_address : (names : List ℕ) (a x b : Address) → AddressLike names a b → AddressLike names x b → a ≡ x
first_address names a x b k l = same_address_by a x (same_Some a.maker x.maker (sym k.maker ∙ l.maker)) (k.serial ∙ sym l.serial)
