-- Derivations, and what shows that there is none: by the records, and as computed.
use Rattle.std.specs.Prelude.{◌≡◌, ◌↔◌, Bool, IsTrue, ℕ, ◌+◌, List, [], ◌∷◌, length, Option, Some, None, slice_get, refl}
use Rattle.std.proofs.{Common.{sym, subst, ◌∙◌}, lemmas.Option.{same_Some, none-some}}
use Rattle.pc_core.specs.{declared.declarations.Method.Method, declared.nodes.Node.Node, CoreData.CoreData, Formed.Formed}
use Rattle.pc_base.proofs.{Options.{bind_some, bind_is}, Bools.no_both}
use Rattle.pc_masks.specs.{declared.mask.Mask.Mask, Masks.first}
use Rattle.pc_ann.specs.{declared.annotation.Note.Note, declared.annotation.Rule.Rule, declared.annotation.Ann.Ann}
use Rattle.pc_rules.specs.{declared.said.Said.Said, Parts.{notes_of, full}, Control.start_set, Rules.{rule_says, said_by, says, IsSaid, NoteIsSaid}, Checks.{FillsFields, Checks, StartsFrom, GoesWell, SaysNothing, StaysUnset}, Statements.{MeetsTheSameRules, SameAreValid, SameHaveNoRule, SameAreUnset}}
use Rattle.pc_rules.specs.Checks as starts
use Rattle.pc_valid.specs.{Words.{Slots, Masks, before}, Valid.{Means, AreNotes, Meets, MeetsRule, SetsFields, Valid}, NoRule.{Holds, Reaches, body, first_child, else_branch, next_child, MeetsReached, NoRule, Unset}}
use Rattle.pc_rules.proofs.{RecordWords.{else_to, to_else, all_set_iff, constructs_iff, starts_to, to_starts}, Records.{not_so, rules_say_what_is_meant}}

pub are_notes : (notes : List Note) (cs : List ℕ) (ns : List Note) → notes_of notes cs ≡ Some ns → AreNotes notes cs ns
are_notes notes [] [] e = tt
are_notes notes [] (t ∷ ts) e = absurd (let bad : [] ≡ t ∷ ts = same_Some [] (t ∷ ts) e in cc)
are_notes notes (c ∷ cs) ns e =
    let t = bind_some (slice_get notes c) _ ns e in
    let ts = bind_some (notes_of notes cs) (λ (more : List Note). Some (t.0 ∷ more)) ns t.2 in
    subst (AreNotes notes (c ∷ cs)) (same_Some (t.0 ∷ ts.0) ns ts.2) (t.1, are_notes notes cs ts.0 ts.1)

pub notes_are : (notes : List Note) (cs : List ℕ) (ns : List Note) → AreNotes notes cs ns → notes_of notes cs ≡ Some ns
notes_are notes [] [] a = refl
notes_are notes [] (t ∷ ts) a = absurd a
notes_are notes (c ∷ cs) [] a = absurd a
notes_are notes (c ∷ cs) (t ∷ ts) a =
    bind_is (slice_get notes c) _ t a.0 ∙ bind_is (notes_of notes cs) (λ (more : List Note). Some (t ∷ more)) ts (notes_are notes cs ts a.1)

module _ (core : CoreData) (formed : Formed core) where
  pub meets_to : (slots : Slots) (notes : List Note) (x : Node) (own : Note) → IsSaid core (record { slots = slots; notes = notes }) x own → Meets core slots notes x own
  meets_to slots notes x own h =
      let n = bind_some (notes_of notes x.children) (λ ns. rule_says core slots ns x (before own) own.rule x.kind) (said_by own) h in
      (n.0, are_notes notes x.children n.0 n.1, (rules_say_what_is_meant core formed slots own n.0 x own.rule x.kind).0 n.2)

  pub to_meets : (slots : Slots) (notes : List Note) (x : Node) (own : Note) → Meets core slots notes x own → IsSaid core (record { slots = slots; notes = notes }) x own
  to_meets slots notes x own m =
      bind_is (notes_of notes x.children) (λ ns. rule_says core slots ns x (before own) own.rule x.kind) m.0 (notes_are notes x.children m.0 m.1)
      ∙ (rules_say_what_is_meant core formed slots own m.0 x own.rule x.kind).1 m.2

  pub rule_to : (ann : Ann) (n : ℕ) → NoteIsSaid core ann n → MeetsRule core ann n
  rule_to ann n m = (m.0, m.1, m.2, m.3, meets_to ann.slots ann.notes m.0 m.1 m.4)

  pub to_rule : (ann : Ann) (n : ℕ) → MeetsRule core ann n → NoteIsSaid core ann n
  to_rule ann n m = (m.0, m.1, m.2, m.3, to_meets ann.slots ann.notes m.0 m.1 m.4)

  pub sets_to : (ann : Ann) (x : Method) → FillsFields core ann x → SetsFields core ann x
  sets_to ann x s k b t g h = (all_set_iff core x.entity t.set_after formed).0 (s ((constructs_iff x.kind).1 k) b t g h)

  pub to_sets : (ann : Ann) (x : Method) → SetsFields core ann x → FillsFields core ann x
  to_sets ann x s k b t g h = (all_set_iff core x.entity t.set_after formed).1 (s ((constructs_iff x.kind).0 k) b t g h)

  pub valid_to : (ann : Ann) → Checks core ann → Valid core ann
  valid_to ann v =
      record { declarations = v.declarations; slots = v.slots; notes = v.notes; written = v.written; rules = λ n l. rule_to ann n (v.rules n l); sets = λ m x g. sets_to ann x (v.sets m x g) }

  pub to_valid : (ann : Ann) → Valid core ann → Checks core ann
  to_valid ann v =
      record { declarations = v.declarations; slots = v.slots; notes = v.notes; written = v.written; rules = λ n l. to_rule ann n (v.rules n l); sets = λ m x g. to_sets ann x (v.sets m x g) }

  -- ---- what reaches a node

  pub reaches_to : (ann : Ann) (n : ℕ) (m : Masks) → StartsFrom core ann n m → Reaches core ann n m
  reaches_to ann n m (starts.body x f a b c) = body x f a b c (starts_to core f (start_set core f) refl)
  reaches_to ann n m (starts.first_child p x a b r) = first_child p x a b (reaches_to ann p m r)
  reaches_to ann n m (starts.else_branch p c x t a b d e g) = else_branch p c x t a b d e g
  reaches_to ann n m (starts.next_child p c i x t a b d e g) = next_child p c i x t a (else_to x.kind i b) d e g

  pub to_reaches : (ann : Ann) (n : ℕ) (m : Masks) → Reaches core ann n m → StartsFrom core ann n m
  to_reaches ann n m (body {set = s} x f a b c h) =
      subst (λ (k : Mask). StartsFrom core ann n (first (1 + length f.params), k)) (sym (to_starts core x.method f s formed c h)) (starts.body x f a b c)
  to_reaches ann n m (first_child p x a b r) = starts.first_child p x a b (to_reaches ann p m r)
  to_reaches ann n m (else_branch p c x t a b d e g) = starts.else_branch p c x t a b d e g
  to_reaches ann n m (next_child p c i x t a b d e g) = starts.next_child p c i x t a (to_else x.kind i b) d e g

  pub reached_to : (ann : Ann) (n : ℕ) → GoesWell core ann n → MeetsReached core ann n
  reached_to ann n m = (m.0, m.1, m.2, m.3, meets_to ann.slots ann.notes m.0 m.1 m.4, reaches_to ann n (before m.1) m.5)

  pub to_reached : (ann : Ann) (n : ℕ) → MeetsReached core ann n → GoesWell core ann n
  to_reached ann n m = (m.0, m.1, m.2, m.3, to_meets ann.slots ann.notes m.0 m.1 m.4, to_reaches ann n (before m.1) m.5)

  -- ---- that no rule holds

  abbrev pub no_rule_to : (ann : Ann) (n : ℕ) → SaysNothing core ann n → NoRule core ann n
  no_rule_to ann n r =
      record {
        declarations = r.declarations;
        slots = r.slots;
        written = r.written;
        nodes_before = λ k l. reached_to ann k (r.before k l);
        sets = λ m x g h. sets_to ann x (r.sets m x g h);
        at = r.at;
        is_at = r.is_at;
        masks = r.masks;
        reaches = reaches_to ann n r.masks r.reaches;
        none = λ own slots d b m.
            let met = subst (λ (k : Masks). says core (record { slots = slots; notes = ann.notes }) r.at k own.rule r.at.kind ≡ Some (said_by own)) b (to_meets slots ann.notes r.at own m) in
            none-some (said_by own) (sym (r.none own.rule slots d) ∙ met);
      }

  -- A note that states the conclusion of a rule.
  abbrev noted : Rule → Masks → Said → Note
  noted r m s = record { rule = r; ty = s.ty; live_before = m.0; set_before = m.1; live_after = s.live; set_after = s.set }

  pub silent : (ann : Ann) (slots : Slots) (x : Node) (m : Masks) (r : Rule) (o : Option Said) → ((own : Note) → before own ≡ m → Meets core slots ann.notes x own → ⊥)
      → says core (record { slots = slots; notes = ann.notes }) x m r x.kind ≡ o → says core (record { slots = slots; notes = ann.notes }) x m r x.kind ≡ None
  silent ann slots x m r None h e = e
  silent ann slots x m r (Some s) h e = absurd (h (noted r m s) refl (meets_to slots ann.notes x (noted r m s) e))

  abbrev pub to_no_rule : (ann : Ann) (n : ℕ) → NoRule core ann n → SaysNothing core ann n
  to_no_rule ann n r =
      record {
        declarations = r.declarations;
        slots = r.slots;
        written = r.written;
        before = λ k l. to_reached ann k (r.nodes_before k l);
        sets = λ m x g h. to_sets ann x (r.sets m x g h);
        at = r.at;
        is_at = r.is_at;
        masks = r.masks;
        reaches = to_reaches ann n r.masks r.reaches;
        none = λ rl slots d. silent ann slots r.at r.masks rl (says core (record { slots = slots; notes = ann.notes }) r.at r.masks rl r.at.kind) (λ own b m. r.none own slots d b m) refl;
      }

  -- ---- that a field is not set

  abbrev pub unset_to : (ann : Ann) (m : ℕ) → StaysUnset core ann m → Unset core ann m
  unset_to ann m u =
      record {
        declarations = u.declarations;
        slots = u.slots;
        written = u.written;
        method = u.method;
        is_method = u.is_method;
        constructor = (constructs_iff u.method.kind).0 u.constructor;
        body = u.body;
        is_body = u.is_body;
        nodes_before = λ k l. reached_to ann k (u.before k l);
        note = u.note;
        is_note = u.is_note;
        not_all_set = λ a. no_both (full core u.method.entity u.note.set_after) ((all_set_iff core u.method.entity u.note.set_after formed).1 a) u.lacks;
        sets = λ k x g l. sets_to ann x (u.sets k x g l);
      }

  abbrev pub to_unset : (ann : Ann) (m : ℕ) → Unset core ann m → StaysUnset core ann m
  to_unset ann m u =
      record {
        declarations = u.declarations;
        slots = u.slots;
        written = u.written;
        method = u.method;
        is_method = u.is_method;
        constructor = (constructs_iff u.method.kind).1 u.constructor;
        body = u.body;
        is_body = u.is_body;
        before = λ k l. to_reached ann k (u.nodes_before k l);
        note = u.note;
        is_note = u.is_note;
        lacks = not_so (full core u.method.entity u.note.set_after) (λ e. u.not_all_set ((all_set_iff core u.method.entity u.note.set_after formed).0 e));
        sets = λ k x g l. to_sets ann x (u.sets k x g l);
      }

pub meets_the_same_rules : MeetsTheSameRules
meets_the_same_rules core formed ann n = (rule_to core formed ann n, to_rule core formed ann n)

pub same_are_valid : SameAreValid
same_are_valid core formed ann = (valid_to core formed ann, to_valid core formed ann)

pub same_have_no_rule : SameHaveNoRule
same_have_no_rule core formed ann n = (no_rule_to core formed ann n, to_no_rule core formed ann n)

pub same_are_unset : SameAreUnset
same_are_unset core formed ann m = (unset_to core formed ann m, to_unset core formed ann m)

-- A node satisfies its rule in an annotation iff it does so by its own note and those of its children.
pub holds_meets : (core : CoreData) (ann : Ann) (n : ℕ) (x : Node) (own : Note) (ns : List Note) → slice_get core.nodes n ≡ Some x → slice_get ann.notes n ≡ Some own
    → notes_of ann.notes x.children ≡ Some ns → Holds core ann.slots own ns n ↔ MeetsRule core ann n
holds_meets core ann n x own ns g h e = (
  λ r. (x, own, g, h, (ns, are_notes ann.notes x.children ns e, subst (λ (y : Node). Means core ann.slots own ns y own.rule y.kind) (same_Some r.0 x (sym r.1 ∙ g)) r.2)),
  λ r. let m = subst (λ (t : Note). Meets core ann.slots ann.notes x t) (same_Some r.1 own (sym r.3 ∙ h)) (subst (λ (y : Node). Meets core ann.slots ann.notes y r.1) (same_Some r.0 x (sym r.2 ∙ g)) r.4) in
      (x, g, subst (λ (ts : List Note). Means core ann.slots own ts x own.rule x.kind) (same_Some m.0 ns (sym (notes_are ann.notes x.children m.0 m.1) ∙ e)) m.2),
)

-- A test of what a rule says of a note decides whether the note meets the rule.
pub holds_by : (core : CoreData) → Formed core → (slots : Slots) (own : Note) (ns : List Note) (n : ℕ) (x : Node) (b : Bool) → slice_get core.nodes n ≡ Some x
    → (IsTrue b) ↔ (rule_says core slots ns x (before own) own.rule x.kind ≡ Some (said_by own)) → (IsTrue b) ↔ Holds core slots own ns n
holds_by core formed slots own ns n x b g d =
    let m = rules_say_what_is_meant core formed slots own ns x own.rule x.kind in
    (λ u. (x, g, m.0 (d.0 u)), λ h. d.1 (m.1 (subst (λ (y : Node). Means core slots own ns y own.rule y.kind) (same_Some h.0 x (sym h.1 ∙ g)) h.2)))

pub met_by : (core : CoreData) → Formed core → (ann : Ann) (n : ℕ) (b : Bool) → (IsTrue b) ↔ (NoteIsSaid core ann n) → (IsTrue b) ↔ MeetsRule core ann n
met_by core formed ann n b d = let m = meets_the_same_rules core formed ann n in (λ u. m.0 (d.0 u), λ h. d.1 (m.1 h))
