-- What is seen of a name in a list of methods: whether there is one, and who takes the first one over.
use Rattle.std.proofs.Common.{◌≡◌, List, [], ◌∷◌, ◌++◌, Bool, true, false, ◌&&◌, ◌||◌, not, refl, sym, ap, ◌∙◌, if◌then◌else◌}
use Rattle.std.specs.Str.{bytes_eq}
use Rattle.pc_base.proofs.Bools.{true_false}
use Rattle.pc_tree.specs.{declared.kinds.EntityKind.EntityKind, Kinds.is_abstract}
use Rattle.pc_tree.specs.declared.kinds.EntityKind.TheVariants as kind
use Rattle.pc_tree.specs.Tree as t
use Rattle.pc_base.specs.Lists.{Text}
use Rattle.pc_members.specs.{MemberLists.{is_among, firsts}, Members.{method_texts, is_takable}}
use Rattle.pc_members.proofs.{Differences.equal_texts, Completed.among_parts}
use Rattle.pc_member_counts.specs.Totals.{takes}
use Rattle.pc_member_counts.proofs.Truths.{and_true, and_false, or_false, or_true, and_assoc, first_or_later}

pub record Sight : Type 0 where
  pub absent : Bool
  pub class : Bool
  pub actor : Bool
  pub primitive : Bool

abbrev pub unseen : Sight
unseen = record { absent = true; class = false; actor = false; primitive = false }

abbrev pub of_method : t.Method → Sight
of_method m = record { absent = false; class = is_takable kind.Class m; actor = is_takable kind.Actor m; primitive = is_takable kind.Primitive m }

-- What is seen of a method by a name.
abbrev pub glance : Text → t.Method → Sight
glance x m = if bytes_eq x m.name.text then of_method m else unseen

abbrev pub sight : Text → List t.Method → Sight
sight x [] = unseen
sight x (m ∷ ms) = if bytes_eq x m.name.text then of_method m else sight x ms

-- What is seen of one list, and then of another.
abbrev pub after : Sight → Sight → Sight
after s n = record { absent = s.absent && n.absent; class = s.class || (s.absent && n.class); actor = s.actor || (s.absent && n.actor); primitive = s.primitive || (s.absent && n.primitive) }

pub after_unseen : (s : Sight) → after s unseen ≡ s
after_unseen s = λ i. record {
  absent = and_true s.absent i;
  class = (ap (λ b. s.class || b) (and_false s.absent) ∙ or_false s.class) i;
  actor = (ap (λ b. s.actor || b) (and_false s.absent) ∙ or_false s.actor) i;
  primitive = (ap (λ b. s.primitive || b) (and_false s.absent) ∙ or_false s.primitive) i;
}

pub unseen_after : (s : Sight) → after unseen s ≡ s
unseen_after s = refl

pub method_after : (m : t.Method) (s : Sight) → after (of_method m) s ≡ of_method m
method_after m s = λ i. record {
  absent = false;
  class = or_false (is_takable kind.Class m) i;
  actor = or_false (is_takable kind.Actor m) i;
  primitive = or_false (is_takable kind.Primitive m) i;
}

pub after_assoc : (a b c : Sight) → after (after a b) c ≡ after a (after b c)
after_assoc a b c = λ i. record {
  absent = and_assoc a.absent b.absent c.absent i;
  class = first_or_later a.class a.absent b.class b.absent c.class i;
  actor = first_or_later a.actor a.absent b.actor b.absent c.actor i;
  primitive = first_or_later a.primitive a.absent b.primitive b.absent c.primitive i;
}

pub glance_after : (x : Text) (m : t.Method) (ms : List t.Method) → after (glance x m) (sight x ms) ≡ sight x (m ∷ ms)
glance_after x m ms = by (bytes_eq x m.name.text)
  where
    by : (b : Bool) → after (if b then of_method m else unseen) (sight x ms) ≡ (if b then of_method m else sight x ms)
    by true = method_after m (sight x ms)
    by false = unseen_after (sight x ms)

pub sight_parts : (x : Text) (ms ns : List t.Method) → sight x (ms ++ ns) ≡ after (sight x ms) (sight x ns)
sight_parts x [] ns = sym (unseen_after (sight x ns))
sight_parts x (m ∷ ms) ns = by (sight_parts x ms ns) (bytes_eq x m.name.text)
  where
    by : sight x (ms ++ ns) ≡ after (sight x ms) (sight x ns) → (b : Bool) → (if b then of_method m else sight x (ms ++ ns)) ≡ after (if b then of_method m else sight x ms) (sight x ns)
    by rest true = sym (method_after m (sight x ns))
    by rest false = rest

-- ---- names

pub absent_is : (x : Text) (ms : List t.Method) → (sight x ms).absent ≡ not (is_among x (method_texts ms))
absent_is x [] = refl
absent_is x (m ∷ ms) = by (absent_is x ms) (bytes_eq x m.name.text)
  where
    by : (sight x ms).absent ≡ not (is_among x (method_texts ms)) → (b : Bool) → (if b then of_method m else sight x ms).absent ≡ not (b || is_among x (method_texts ms))
    by rest true = refl
    by rest false = rest

pub pushed : (x y : Text) (known : List Text) → is_among x (known ++ y ∷ []) ≡ (is_among x known || bytes_eq x y)
pushed x y known = among_parts x known (y ∷ []) ∙ ap (λ b. is_among x known || b) (or_false (bytes_eq x y))

pub pushed_same : (x y : Text) (known : List Text) → bytes_eq x y ≡ true → is_among x (known ++ y ∷ []) ≡ true
pushed_same x y known e = pushed x y known ∙ ap (λ b. is_among x known || b) e ∙ or_true (is_among x known)

pub pushed_other : (x y : Text) (known : List Text) → bytes_eq x y ≡ false → is_among x (known ++ y ∷ []) ≡ is_among x known
pushed_other x y known e = pushed x y known ∙ ap (λ b. is_among x known || b) e ∙ or_false (is_among x known)

-- Taking the first method with each name, the same is seen as of all.
pub sight_firsts : (x : Text) (known : List Text) (ms : List t.Method) → sight x (firsts known ms) ≡ (if is_among x known then unseen else sight x ms)
sight_firsts x known [] = by (is_among x known)
  where
    by : (b : Bool) → unseen ≡ (if b then unseen else unseen)
    by true = refl
    by false = refl
sight_firsts x known (m ∷ ms) = by (λ ks. sight_firsts x ks ms) (is_among m.name.text known) refl (bytes_eq x m.name.text) refl
  where
    hidden : (b : Bool) → b ≡ true → (s n : Sight) → (if b then unseen else s) ≡ (if b then unseen else n)
    hidden true e s n = refl
    hidden false e s n = absurd (true_false (sym e))

    open_ : (b : Bool) → b ≡ false → (s : Sight) → s ≡ (if b then unseen else s)
    open_ true e s = absurd (true_false e)
    open_ false e s = refl

    same : bytes_eq x m.name.text ≡ true → is_among x known ≡ is_among m.name.text known
    same d = ap (λ y. is_among y known) (equal_texts x m.name.text d)

    by : ((ks : List Text) → sight x (firsts ks ms) ≡ (if is_among x ks then unseen else sight x ms)) → (k : Bool) → is_among m.name.text known ≡ k → (b : Bool) → bytes_eq x m.name.text ≡ b
        → sight x (if k then firsts known ms else m ∷ firsts (known ++ m.name.text ∷ []) ms) ≡ (if is_among x known then unseen else (if b then of_method m else sight x ms))
    by rest true e true d = rest known ∙ hidden (is_among x known) (same d ∙ e) (sight x ms) (of_method m)
    by rest true e false d = rest known
    by rest false e true d = ap (λ b. if b then of_method m else sight x (firsts (known ++ m.name.text ∷ []) ms)) d ∙ open_ (is_among x known) (same d ∙ e) (of_method m)
    by rest false e false d =
        ap (λ b. if b then of_method m else sight x (firsts (known ++ m.name.text ∷ []) ms)) d
        ∙ rest (known ++ m.name.text ∷ []) ∙ ap (λ b. if b then unseen else sight x ms) (pushed_other x m.name.text known d)

-- ---- who takes the first method over

abbrev pub of_kind : EntityKind → Sight → Bool
of_kind kind.Class s = s.class
of_kind kind.Actor s = s.actor
of_kind kind.Primitive s = s.primitive
of_kind kind.Trait s = false
of_kind kind.Interface s = false

-- An entity of this kind takes over the first method with the name.
abbrev first_is : EntityKind → Text → List t.Method → Bool
first_is k x [] = false
first_is k x (m ∷ ms) = if bytes_eq x m.name.text then is_takable k m else first_is k x ms

module _ (k : EntityKind) (see : Sight → Bool) (none : see unseen ≡ false) (one : (m : t.Method) → see (of_method m) ≡ is_takable k m) where
  first_seen : (x : Text) (ms : List t.Method) → see (sight x ms) ≡ first_is k x ms
  first_seen x [] = none
  first_seen x (m ∷ ms) = by (first_seen x ms) (bytes_eq x m.name.text)
    where
      by : see (sight x ms) ≡ first_is k x ms → (b : Bool) → see (if b then of_method m else sight x ms) ≡ (if b then is_takable k m else first_is k x ms)
      by rest true = one m
      by rest false = rest

of_kind_first : (k : EntityKind) → is_abstract k ≡ false → (x : Text) (ms : List t.Method) → of_kind k (sight x ms) ≡ first_is k x ms
of_kind_first kind.Class e = first_seen kind.Class (λ s. s.class) refl (λ m. refl)
of_kind_first kind.Actor e = first_seen kind.Actor (λ s. s.actor) refl (λ m. refl)
of_kind_first kind.Primitive e = first_seen kind.Primitive (λ s. s.primitive) refl (λ m. refl)
of_kind_first kind.Trait e = absurd (true_false e)
of_kind_first kind.Interface e = absurd (true_false e)

-- There is no other method with a known name.
takes_known : (k : EntityKind) (x : Text) (known : List Text) (ms : List t.Method) → is_among x known ≡ true → takes k x (firsts known ms) ≡ false
takes_known k x known [] e = refl
takes_known k x known (m ∷ ms) e = by (λ ks. takes_known k x ks ms) (is_among m.name.text known) refl (bytes_eq x m.name.text) refl
  where
    by : ((ks : List Text) → is_among x ks ≡ true → takes k x (firsts ks ms) ≡ false) → (c : Bool) → is_among m.name.text known ≡ c → (b : Bool) → bytes_eq x m.name.text ≡ b
        → takes k x (if c then firsts known ms else m ∷ firsts (known ++ m.name.text ∷ []) ms) ≡ false
    by rest true g b d = rest known e
    by rest false g true d = absurd (true_false (sym e ∙ ap (λ y. is_among y known) (equal_texts x m.name.text d) ∙ g))
    by rest false g false d = ap (λ b. (b && is_takable k m) || takes k x (firsts (known ++ m.name.text ∷ []) ms)) d ∙ rest (known ++ m.name.text ∷ []) (pushed_other x m.name.text known d ∙ e)

takes_first : (k : EntityKind) (x : Text) (known : List Text) (ms : List t.Method) → takes k x (firsts known ms) ≡ first_is k x (firsts known ms)
takes_first k x known [] = refl
takes_first k x known (m ∷ ms) = by (λ ks. takes_first k x ks ms) (is_among m.name.text known)
  where
    here : takes k x (firsts (known ++ m.name.text ∷ []) ms) ≡ first_is k x (firsts (known ++ m.name.text ∷ []) ms) → (b : Bool) → bytes_eq x m.name.text ≡ b
        → ((b && is_takable k m) || takes k x (firsts (known ++ m.name.text ∷ []) ms)) ≡ (if b then is_takable k m else first_is k x (firsts (known ++ m.name.text ∷ []) ms))
    here rest true d = ap (λ b. is_takable k m || b) (takes_known k x (known ++ m.name.text ∷ []) ms (pushed_same x m.name.text known d)) ∙ or_false (is_takable k m)
    here rest false d = rest

    by : ((ks : List Text) → takes k x (firsts ks ms) ≡ first_is k x (firsts ks ms)) → (c : Bool)
        → takes k x (if c then firsts known ms else m ∷ firsts (known ++ m.name.text ∷ []) ms) ≡ first_is k x (if c then firsts known ms else m ∷ firsts (known ++ m.name.text ∷ []) ms)
    by rest true = rest known
    by rest false = here (rest (known ++ m.name.text ∷ [])) (bytes_eq x m.name.text) refl

pub takes_sight : (k : EntityKind) → is_abstract k ≡ false → (x : Text) (known : List Text) (ms : List t.Method) → takes k x (firsts known ms) ≡ of_kind k (sight x (firsts known ms))
takes_sight k e x known ms = takes_first k x known ms ∙ sym (of_kind_first k e x (firsts known ms))

pub takes_nothing : (k : EntityKind) → is_abstract k ≡ false → (x : Text) → takes k x [] ≡ of_kind k (sight x [])
takes_nothing k e x = sym (of_kind_first k e x [])
