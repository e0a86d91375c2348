-- Fields are explained.
use Rattle.std.proofs.Common.{◌≡◌, ℕ, suc, Bool, true, false, List, [], ◌∷◌, ◌++◌, Option, Some, None, refl, sym, ap, ◌∙◌, subst, arith, cond}
use Rattle.pc_tree.specs.Tree as t
use Rattle.pc_tree.specs.{Depths.depth, Levels.{value_depth, fields_depth}, declared.written_names.Name.Name, declared.written_names.TypeRef.TypeRef, declared.kinds.EntityKind.EntityKind, Kinds.{may_have_fields, FieldsIf}}
use Rattle.pc_token.specs.{declared.kinds.Token.Token, Words.{is_sign, is_word}}
use Rattle.pc_token.specs.declared.kinds.TokenKind.TheVariants as k
use Rattle.pc_token.specs.declared.words.Word.TheVariants as w
use Rattle.pc_token.specs.declared.signs.Sign.TheVariants as s
use Rattle.pc_grammar.specs.{Spells.{local_word, SpellsValue, SpellsField}, Parts.SpellsFields, Reading.{pure, ◌>>=◌, ◌>>◌, peek, take_if, all, at, name, infix_, inner}, ReadingFile.{maybe_doc, value, field, begins_field, some_field, fields}}
use Rattle.pc_grammar.proofs.{Explained.{Fits, fits_zero, fits_max, Explained, Then, Tok, Only, Listed, Inhabited, some_only, some_then, explained_bind, explained_weaker, explained_only, explained_refuse, explained_take, explained_all}, ExplainedParts.{explained_cons, taken, ends_nil, joined, begins_one, of_kind, a_word, some_word, InfixIn, NameAt, some_name, explained_name}, ExplainedAtoms.{at_is, at_nil}, ExplainedExprs.explained_infix, ExplainedSeqs.explained_inner, ExplainedParams.{DocAt, some_doc, explained_doc, ColonType, some_colon_type, explained_colon_type}}

-- one level more, and room for it
pub fits_up : (u : Bool) (n d : ℕ) → Fits u n d → Fits u (suc n) (suc d)
fits_up true n d h = omega (arith, h)
fits_up false n d h = tt

-- [doc], and then this
abbrev pub DocEnd : {A : Type 0} → A → A → List Token → Type 0
DocEnd v = Then DocAt (λ _. Only v)

pub some_doc_end : {A : Type 0} (v : A) → Inhabited (DocEnd v)
some_doc_end v = some_then DocAt (λ _. Only v) some_doc (λ _. some_only v)

pub explained_doc_end : (u : Bool) {A : Type 0} (v : A) (ts : List Token) → Explained u (DocEnd v) ts ((maybe_doc >> pure v) ts)
explained_doc_end u v ts = explained_bind DocAt (λ _. Only v) u ts (λ _. pure v) (maybe_doc ts) (explained_doc u ts) (λ x r e. explained_only u v r) (λ _. some_only v)

module _ (u : Bool) (n : ℕ) where
  abbrev ValueIn : Option t.Expr → List Token → Type 0
  ValueIn v ts = SpellsValue v ts × Fits u (suc n) (value_depth v)

  some_value : Inhabited ValueIn
  some_value = ([], None, (refl, fits_zero u (suc n)))

  value_at : (x : Token) → is_sign s.Assign x ≡ true → (v : Option t.Expr) (a : List Token) → Then (InfixIn u n) (λ e. Only (Some e)) v a → ValueIn v (x ∷ a)
  value_at x is v a h = subst (λ v. ValueIn v (x ∷ a)) (sym h.5.1) ((x, h.1, ap (λ l. x ∷ l) (ends_nil a h.1 h.2 h.3 h.5.0), is, (h.4.0, h.4.1)), fits_up u n (depth h.0) h.4.2)

  value_by : (x : Token) (ts : List Token) (b : Bool) → is_sign s.Assign x ≡ b → Explained u ValueIn (x ∷ ts) (cond b (take_if (is_sign s.Assign) >> infix_ n >>= λ e. pure (Some e)) (pure None) (x ∷ ts))
  value_by x ts true e =
      rw (taken (is_sign s.Assign) x ts e) (explained_cons u ValueIn (Then (InfixIn u n) (λ e. Only (Some e))) x ts (value_at x e) _
      (explained_bind (InfixIn u n) (λ e. Only (Some e)) u ts _ (infix_ n ts) (explained_infix u n (inner n) (explained_inner u n) ts) (λ r q f. explained_only u _ q) (λ r. some_only _)))
  value_by x ts false e = ([], refl, (refl, fits_zero u (suc n)))

  explained_value : (ts : List Token) → Explained u ValueIn ts (value n ts)
  unfolding value peek
  explained_value [] = explained_refuse u ValueIn [] some_value
  explained_value (x ∷ ts) = value_by x ts (is_sign s.Assign x) refl

  abbrev FieldIn : t.Field → List Token → Type 0
  FieldIn f ts = SpellsField f ts × Fits u (suc n) (value_depth f.value)

  abbrev a_field : Bool → Name → TypeRef → Option t.Expr → t.Field
  a_field f m r e = record { fixed = f; name = m; ty = r; value = e }

  abbrev Head : Bool → Name → List Token → Type 0
  Head f = Then (Tok (is_word (local_word f))) (λ _. NameAt)

  abbrev Valued : Bool → Name → TypeRef → t.Field → List Token → Type 0
  Valued f m r = Then ValueIn (λ e. DocEnd (a_field f m r e))

  abbrev Typed : Bool → Name → t.Field → List Token → Type 0
  Typed f m = Then (ColonType u) (Valued f m)

  some_head : (f : Bool) → Inhabited (Head f)
  some_head f = some_then (Tok (is_word (local_word f))) (λ _. NameAt) (some_word (local_word f)) (λ _. some_name)

  explained_head : (f : Bool) (ts : List Token) → Explained u (Head f) ts ((take_if (is_word (local_word f)) >> name) ts)
  explained_head f ts = explained_bind (Tok (is_word (local_word f))) (λ _. NameAt) u ts (λ _. name) (take_if (is_word (local_word f)) ts) (explained_take u (is_word (local_word f)) (of_kind (k.Word (local_word f))) (a_word (local_word f)) ts) (λ y r e. explained_name u r) (λ _. some_name)

  field_whole : (f : Bool) (v : t.Field) (a : List Token) → Then (Head f) (Typed f) v a → FieldIn v a
  field_whole f v a h =
      let q = h.4 in
      let x = q.0 in
      let y = q.5.0 in
      let g = h.5 in
      let z = g.4 in
      let d = g.5 in
      let c = d.5 in
      let tail = joined g.2 d.1 d.2 c.1 d.3 (ends_nil d.2 c.1 c.2 c.3 c.5.0) in
      let colon : g.1 ≡ z.0 ∷ z.2 = begins_one z.0 g.1 z.1 z.2 z.2 z.3 z.4.0 refl in
      let behind : h.2 ≡ z.0 ∷ (z.2 ++ (d.1 ++ c.1)) = joined h.2 g.1 g.2 (d.1 ++ c.1) g.3 tail ∙ ap (λ l. l ++ (d.1 ++ c.1)) colon in
      let front : h.1 ≡ x ∷ y ∷ [] = begins_one x h.1 q.1 q.2 (y ∷ []) q.3 q.4.0 q.5.1 in
      let cut : a ≡ x ∷ y ∷ z.0 ∷ (z.2 ++ (d.1 ++ c.1)) = joined a h.1 h.2 (z.0 ∷ (z.2 ++ (d.1 ++ c.1))) h.3 behind ∙ ap (λ l. l ++ z.0 ∷ (z.2 ++ (d.1 ++ c.1))) front in
      subst (λ v. FieldIn v a) (sym c.5.1) ((x, y, z.0, z.2, d.1, c.1, cut, q.4.1, q.5.2, z.4.1, z.5, d.4.0, c.4), d.4.1)

  some_valued : (f : Bool) (m : Name) (r : TypeRef) → Inhabited (Valued f m r)
  some_valued f m r = some_then ValueIn (λ e. DocEnd (a_field f m r e)) some_value (λ e. some_doc_end _)

  some_typed : (f : Bool) (m : Name) → Inhabited (Typed f m)
  some_typed f m = some_then (ColonType u) (Valued f m) (some_colon_type u) (some_valued f m)

  a_field_in : Inhabited FieldIn
  a_field_in = let r = some_then (Head true) (Typed true) (some_head true) (some_typed true) in (r.0, r.1, field_whole true r.1 r.0 r.2)

  explained_field : (f : Bool) (ts : List Token) → Explained u FieldIn ts (field n f ts)
  unfolding field
  explained_field f ts =
      explained_weaker u (Then (Head f) (Typed f)) FieldIn ts _ (field_whole f)
      (explained_bind (Head f) (Typed f) u ts _ _ (explained_head f ts)
      (λ m r e. explained_bind (ColonType u) (Valued f m) u r _ _ (explained_colon_type u r)
      (λ ty q g. explained_bind ValueIn (λ e. DocEnd (a_field f m ty e)) u q _ _ (explained_value q) (λ v l i. explained_doc_end u _ l) (λ v. some_doc_end _)) (some_valued f m)) (some_typed f))

  explained_some_field : (ts : List Token) → Explained u FieldIn ts (some_field n ts)
  unfolding some_field peek
  explained_some_field [] = explained_refuse u FieldIn [] a_field_in
  explained_some_field (x ∷ ts) = explained_field (is_word w.LetWord x) (x ∷ ts)

  each_field : (ts begin : List Token) → at begins_field ts ≡ Some begin → Explained u FieldIn ts (some_field n begin)
  each_field [] begin h = absurd (at_nil begins_field begin h)
  each_field (x ∷ ts) begin h = subst (λ l. Explained u FieldIn (x ∷ ts) (some_field n l)) (sym (at_is begins_field x ts begin h).0) (explained_some_field (x ∷ ts))

  abbrev ListIn : List t.Field → List Token → Type 0
  ListIn fs ts = SpellsFields fs ts × Fits u (suc n) (fields_depth fs)

  listed_fields : (fs : List t.Field) (ts : List Token) → Listed FieldIn fs ts → ListIn fs ts
  listed_fields [] ts h = (h, fits_zero u (suc n))
  listed_fields (f ∷ fs) ts h =
      let g = listed_fields fs h.1 h.4 in
      ((h.0, h.1, h.2, h.3.0, g.0), fits_max u (suc n) (value_depth f.value) (fields_depth fs) h.3.1 g.1)

  abbrev FieldsAt : Bool → List t.Field → List Token → Type 0
  FieldsAt b fs ts = SpellsFields fs ts × Fits u (suc n) (fields_depth fs) × FieldsIf b fs

  abbrev pub FieldsIn : EntityKind → List t.Field → List Token → Type 0
  FieldsIn e = FieldsAt (may_have_fields e)

  some_at : (b : Bool) → Inhabited (FieldsAt b)
  some_at true = ([], [], (refl, fits_zero u (suc n), tt))
  some_at false = ([], [], (refl, fits_zero u (suc n), refl))

  pub some_fields : (e : EntityKind) → Inhabited (FieldsIn e)
  some_fields e = some_at (may_have_fields e)

  explained_list : (ts : List Token) → Explained u ListIn ts (all (at begins_field) (some_field n) ts)
  explained_list ts = explained_weaker u (Listed FieldIn) ListIn ts _ listed_fields (explained_all u FieldIn (at begins_field) (some_field n) each_field ts)

  explained_at : (b : Bool) (ts : List Token) → Explained u (FieldsAt b) ts (cond b (all (at begins_field) (some_field n)) (pure []) ts)
  explained_at true ts = explained_weaker u ListIn (FieldsAt true) ts _ (λ fs a h. (h.0, h.1, tt)) (explained_list ts)
  explained_at false ts = ([], refl, (refl, fits_zero u (suc n), refl))

  pub explained_fields : (e : EntityKind) (ts : List Token) → Explained u (FieldsIn e) ts (fields n e ts)
  explained_fields e ts = explained_at (may_have_fields e) ts
