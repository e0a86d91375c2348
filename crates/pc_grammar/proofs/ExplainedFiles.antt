-- Entities and files are explained.
use Rattle.std.proofs.Common.{◌≡◌, ℕ, suc, max, Bool, true, false, List, [], ◌∷◌, ◌++◌, Option, Some, refl, sym, ap, ap₂, ◌∙◌, subst, cond, append_assoc, ◌⊎◌, inl, inr}
use Rattle.pc_caps.specs.declared.capability.Cap.{Cap}
use Rattle.pc_tree.specs.Tree as t
use Rattle.pc_tree.specs.{Depths.file_depth, Levels.{fields_depth, methods_depth, entities_depth}, declared.written_names.Name.Name, declared.kinds.EntityKind.EntityKind, Kinds.may_have_cap}
use Rattle.pc_tree.specs.declared.kinds.EntityKind.TheVariants as kind
use Rattle.pc_token.specs.{declared.kinds.Token.Token, declared.kinds.TokenKind.TokenKind, Words.{is_sign, is_word}}
use Rattle.pc_token.specs.declared.kinds.TokenKind.TheVariants as k
use Rattle.pc_token.specs.declared.words.Word.TheVariants as w
use Rattle.pc_token.specs.declared.signs.Sign.TheVariants as s
use Rattle.pc_grammar.specs.{Spells.{SpellsMoreNames, SpellsNames, SpellsBracketed, SpellsAlone, SpellsProvides, entity_word, SpellsEntity, SpellsFile}, Parts.SpellsMoreEntities, Reading.{pure, refuse, ◌>>=◌, ◌>>◌, peek, take_if, at, after, type_name}, ReadingFile.{kind_is_end, is_end, maybe_doc, type_names, provided, provides, entity_cap, fields, entity_of, entity, begins_entity, file}}
use Rattle.pc_grammar.proofs.{Explained.{Fits, fits_zero, fits_max, Explained, Then, Tok, Only, Listed, Inhabited, some_only, some_then, explained_bind, explained_weaker, explained_only, explained_refuse, explained_take, explained_all}, ExplainedParts.{explained_cons, taken, opened, ends_nil, joined, begins_one, of_kind, a_word, some_word, a_sign, TypeNameAt, some_type_name, explained_type_name}, ExplainedAtoms.{Closes, some_close, explained_close, closed, at_is, at_nil}, ExplainedChains.after_is, ExplainedParams.{DocAt, some_doc, explained_doc}, ExplainedFields.{FieldsIn, some_fields, explained_fields}, ExplainedMethods.{CapAt, some_cap, explained_cap_if, MethodsIn, some_methods, explained_methods}}

-- ---- the traits of an entity

abbrev MoreName : Name → List Token → Type 0
MoreName m ts = (x : Token) × (a : List Token) × (ts ≡ x ∷ a) × (is_sign s.Ampersand x ≡ true) × TypeNameAt m a

listed_names : (ms : List Name) (ts : List Token) → Listed MoreName ms ts → SpellsMoreNames ms ts
listed_names [] ts h = h
listed_names (m ∷ ms) ts h =
    let x = h.3 in
    let y = x.4 in
    (x.0, y.0, h.1, h.2 ∙ ap (λ l. l ++ h.1) (x.2 ∙ ap (λ l. x.0 ∷ l) y.1), x.3, y.2, listed_names ms h.1 h.4)

abbrev NamesRest : Name → List Name → List Token → Type 0
NamesRest m = Then (Listed MoreName) (λ ms. Only (m ∷ ms))

names_whole : (v : List Name) (a : List Token) → Then TypeNameAt NamesRest v a → SpellsNames v a
names_whole v a h =
    let x = h.4.0 in
    let g = h.5 in
    let cut = begins_one x a h.1 h.2 g.1 h.3 h.4.1 (ends_nil h.2 g.1 g.2 g.3 g.5.0) in
    subst (λ v. SpellsNames v a) (sym g.5.1) (x, g.1, cut, h.4.2, listed_names g.0 g.1 g.4)

some_names_rest : (m : Name) → Inhabited (NamesRest m)
some_names_rest m = some_then (Listed MoreName) (λ ms. Only (m ∷ ms)) ([], [], refl) (λ ms. some_only _)

abbrev ProvidedAt : List Name → List Token → Type 0
ProvidedAt ms ts = SpellsAlone ms ts ⊎ SpellsBracketed ms ts

abbrev NamesEnd : List Name → List Name → List Token → Type 0
NamesEnd ms = Closes (is_sign s.CloseParen) (λ _. ms)

bracketed_at : (u : Bool) (x : Token) → is_sign s.OpenParen x ≡ true → (v : List Name) (a : List Token) → Then SpellsNames NamesEnd v a → ProvidedAt v (x ∷ a)
bracketed_at u x is v a h =
    let j = h.5 in
    let cut : x ∷ a ≡ x ∷ (h.1 ++ j.0 ∷ []) = ap (λ l. x ∷ l) (joined a h.1 h.2 (j.0 ∷ []) h.3 (closed u (is_sign s.CloseParen) (λ _. h.0) v h.2 j)) in
    subst (λ v. ProvidedAt v (x ∷ a)) (sym j.5.1) (inr (x, j.0, h.1, cut, is, h.4, j.4.1))

alone_whole : (v : List Name) (a : List Token) → Then TypeNameAt (λ m. Only (m ∷ [])) v a → ProvidedAt v a
alone_whole v a h = subst (λ v. ProvidedAt v a) (sym h.5.1) (inl (h.4.0, ends_nil a h.1 h.2 h.3 h.5.0 ∙ h.4.1, h.4.2))

some_provided : Inhabited ProvidedAt
some_provided = let r = some_then TypeNameAt (λ m. Only (m ∷ [])) some_type_name (λ m. some_only (m ∷ [])) in (r.0, r.1, alone_whole r.1 r.0 r.2)

provides_at : (x : Token) → is_word w.IsWord x ≡ true → (v : List Name) (a : List Token) → ProvidedAt v a → SpellsProvides v (x ∷ a)
provides_at x is [] a (inl h) = absurd h
provides_at x is [] a (inr h) = absurd h.5
provides_at x is (m ∷ ms) a h = (x, a, refl, is, h)

kind_end : (kk : TokenKind) → kind_is_end kk ≡ true → kk ≡ k.End
kind_end k.End e = refl
kind_end _ e = absurd (cc)

end_is : (x : Token) → is_end x ≡ true → x.kind ≡ k.End
unfolding is_end
end_is x e = kind_end x.kind e

an_end : is_end (of_kind k.End) ≡ true
unfolding is_end
an_end = refl

module _ (u : Bool) where
  each_name : (ts begin : List Token) → after (is_sign s.Ampersand) ts ≡ Some begin → Explained u MoreName ts (type_name begin)
  each_name ts begin h =
      let f = after_is (is_sign s.Ampersand) ts begin h in
      subst (λ l. Explained u MoreName l (type_name begin)) (sym f.1) (explained_cons u MoreName TypeNameAt f.0 begin (λ v a m. (f.0, a, refl, f.2, m)) (type_name begin) (explained_type_name u begin))

  explained_names : (ts : List Token) → Explained u SpellsNames ts (type_names ts)
  unfolding type_names
  explained_names ts =
      explained_weaker u (Then TypeNameAt NamesRest) SpellsNames ts _ names_whole
      (explained_bind TypeNameAt NamesRest u ts _ (type_name ts) (explained_type_name u ts)
      (λ m r e. explained_bind (Listed MoreName) (λ ms. Only (m ∷ ms)) u r _ _ (explained_all u MoreName (after (is_sign s.Ampersand)) type_name each_name r) (λ ms q f. explained_only u _ q) (λ ms. some_only _)) some_names_rest)

  provided_by : (x : Token) (ts : List Token) (b : Bool) → is_sign s.OpenParen x ≡ b
      → Explained u ProvidedAt (x ∷ ts) (cond b (take_if (is_sign s.OpenParen) >> type_names >>= λ ms. take_if (is_sign s.CloseParen) >> pure ms) (type_name >>= λ m. pure (m ∷ [])) (x ∷ ts))
  provided_by x ts true e =
      rw (taken (is_sign s.OpenParen) x ts e) (explained_cons u ProvidedAt (Then SpellsNames NamesEnd) x ts (bracketed_at u x e) _
      (explained_bind SpellsNames NamesEnd u ts _ (type_names ts) (explained_names ts)
      (λ ms r f. explained_close u (is_sign s.CloseParen) (λ _. ms) (of_kind (k.Sign s.CloseParen)) (a_sign s.CloseParen) r)
      (λ ms. some_close u (is_sign s.CloseParen) (λ _. ms) (of_kind (k.Sign s.CloseParen)) (a_sign s.CloseParen))))
  provided_by x ts false e =
      explained_weaker u (Then TypeNameAt (λ m. Only (m ∷ []))) ProvidedAt (x ∷ ts) _ alone_whole
      (explained_bind TypeNameAt (λ m. Only (m ∷ [])) u (x ∷ ts) _ (type_name (x ∷ ts)) (explained_type_name u (x ∷ ts)) (λ m r f. explained_only u _ r) (λ m. some_only _))

  explained_provided : (ts : List Token) → Explained u ProvidedAt ts (provided ts)
  unfolding provided peek
  explained_provided [] = explained_refuse u ProvidedAt [] some_provided
  explained_provided (x ∷ ts) = provided_by x ts (is_sign s.OpenParen x) refl

  provides_by : (x : Token) (ts : List Token) (b : Bool) → is_word w.IsWord x ≡ b → Explained u SpellsProvides (x ∷ ts) (cond b (take_if (is_word w.IsWord) >> provided) (pure []) (x ∷ ts))
  provides_by x ts true e = opened u SpellsProvides ProvidedAt (is_word w.IsWord) x ts (λ _. provided) e (provides_at x e) (explained_provided ts)
  provides_by x ts false e = ([], refl, refl)

  explained_provides : (ts : List Token) → Explained u SpellsProvides ts (provides ts)
  unfolding provides peek
  explained_provides [] = explained_refuse u SpellsProvides [] ([], [], refl)
  explained_provides (x ∷ ts) = provides_by x ts (is_word w.IsWord x) refl

  -- ---- entities

  module _ (n : ℕ) where
    abbrev depth_of : t.Entity → ℕ
    depth_of e = max (fields_depth e.fields) (methods_depth e.methods)

    abbrev EntityIn : t.Entity → List Token → Type 0
    EntityIn e ts = SpellsEntity e ts × Fits u (suc n) (depth_of e)

    module _ (e : EntityKind) where
      abbrev an_entity : Option Cap → Name → List Name → List t.Field → List t.Method → t.Entity
      an_entity c m ps fs ms = record { kind = e; cap = c; name = m; provides = ps; fields = fs; methods = ms }

      abbrev Head : Option Cap → List Token → Type 0
      Head = Then (Tok (is_word (entity_word e))) (λ _. CapAt (may_have_cap e))

      abbrev DocFields : List t.Field → List Token → Type 0
      DocFields = Then DocAt (λ _. FieldsIn u n e)

      abbrev Methods : Option Cap → Name → List Name → List t.Field → t.Entity → List Token → Type 0
      Methods c m ps fs = Then (MethodsIn u n e) (λ ms. Only (an_entity c m ps fs ms))

      abbrev Parts : Option Cap → Name → List Name → t.Entity → List Token → Type 0
      Parts c m ps = Then DocFields (Methods c m ps)

      abbrev Providing : Option Cap → Name → t.Entity → List Token → Type 0
      Providing c m = Then SpellsProvides (Parts c m)

      abbrev Named : Option Cap → t.Entity → List Token → Type 0
      Named c = Then TypeNameAt (Providing c)

      some_head : Inhabited Head
      some_head = some_then (Tok (is_word (entity_word e))) (λ _. CapAt (may_have_cap e)) (some_word (entity_word e)) (λ _. some_cap (may_have_cap e))

      explained_head : (ts : List Token) → Explained u Head ts ((take_if (is_word (entity_word e)) >> entity_cap e) ts)
      explained_head ts = explained_bind (Tok (is_word (entity_word e))) (λ _. CapAt (may_have_cap e)) u ts (λ _. entity_cap e) (take_if (is_word (entity_word e)) ts) (explained_take u (is_word (entity_word e)) (of_kind (k.Word (entity_word e))) (a_word (entity_word e)) ts) (λ y r f. explained_cap_if u (may_have_cap e) r) (λ _. some_cap (may_have_cap e))

      some_doc_fields : Inhabited DocFields
      some_doc_fields = some_then DocAt (λ _. FieldsIn u n e) some_doc (λ _. some_fields u n e)

      explained_doc_fields : (ts : List Token) → Explained u DocFields ts ((maybe_doc >> fields n e) ts)
      explained_doc_fields ts = explained_bind DocAt (λ _. FieldsIn u n e) u ts (λ _. fields n e) (maybe_doc ts) (explained_doc u ts) (λ x r f. explained_fields u n e r) (λ _. some_fields u n e)

      some_ms : (c : Option Cap) (m : Name) (ps : List Name) (fs : List t.Field) → Inhabited (Methods c m ps fs)
      some_ms c m ps fs = some_then (MethodsIn u n e) (λ ms. Only (an_entity c m ps fs ms)) (some_methods u n e) (λ ms. some_only _)

      some_parts : (c : Option Cap) (m : Name) (ps : List Name) → Inhabited (Parts c m ps)
      some_parts c m ps = some_then DocFields (Methods c m ps) some_doc_fields (some_ms c m ps)

      some_providing : (c : Option Cap) (m : Name) → Inhabited (Providing c m)
      some_providing c m = some_then SpellsProvides (Parts c m) ([], [], refl) (some_parts c m)

      some_named : (c : Option Cap) → Inhabited (Named c)
      some_named c = some_then TypeNameAt (Providing c) some_type_name (some_providing c)

      entity_whole : (v : t.Entity) (a : List Token) → Then Head Named v a → EntityIn v a
      entity_whole v a h =
          let q = h.4 in
          let x = q.0 in
          let g = h.5 in
          let y = g.4.0 in
          let p = g.5 in
          let f = p.5 in
          let d = f.4 in
          let m = f.5 in
          let methods : f.2 ≡ m.1 = ends_nil f.2 m.1 m.2 m.3 m.5.0 in
          let parts : p.2 ≡ d.1 ++ (d.2 ++ m.1) = f.3 ∙ ap₂ (λ l r. l ++ r) d.3 methods ∙ append_assoc d.1 d.2 m.1 in
          let providing = joined g.2 p.1 p.2 (d.1 ++ (d.2 ++ m.1)) p.3 parts in
          let behind : h.2 ≡ y ∷ (p.1 ++ (d.1 ++ (d.2 ++ m.1))) = begins_one y h.2 g.1 g.2 (p.1 ++ (d.1 ++ (d.2 ++ m.1))) g.3 g.4.1 providing in
          let front : h.1 ≡ x ∷ q.2 = begins_one x h.1 q.1 q.2 q.2 q.3 q.4.0 refl in
          let cut : a ≡ x ∷ (q.2 ++ y ∷ (p.1 ++ (d.1 ++ (d.2 ++ m.1)))) = joined a h.1 h.2 (y ∷ (p.1 ++ (d.1 ++ (d.2 ++ m.1)))) h.3 behind ∙ ap (λ l. l ++ y ∷ (p.1 ++ (d.1 ++ (d.2 ++ m.1)))) front in
          subst (λ v. EntityIn v a) (sym m.5.1) ((x, y, q.2, p.1, d.1, d.2, m.1, cut, q.4.1, q.5.0, g.4.2, p.4, d.4, d.5.0, m.4.0, q.5.1, d.5.2), fits_max u (suc n) (fields_depth f.0) (methods_depth m.0) d.5.1 m.4.1)

      explained_entity_of : (ts : List Token) → Explained u EntityIn ts (entity_of n e ts)
      unfolding entity_of
      explained_entity_of ts =
          explained_weaker u (Then Head Named) EntityIn ts _ entity_whole
          (explained_bind Head Named u ts _ _ (explained_head ts)
          (λ c q1 f1. explained_bind TypeNameAt (Providing c) u q1 _ (type_name q1) (explained_type_name u q1)
          (λ m q2 f2. explained_bind SpellsProvides (Parts c m) u q2 _ (provides q2) (explained_provides q2)
          (λ ps q3 f3. explained_bind DocFields (Methods c m ps) u q3 _ _ (explained_doc_fields q3)
          (λ fs q4 f4. explained_bind (MethodsIn u n e) (λ ms. Only (an_entity c m ps fs ms)) u q4 _ _ (explained_methods u n e q4) (λ ms q5 f5. explained_only u _ q5) (λ ms. some_only _))
          (some_ms c m ps)) (some_parts c m)) (some_providing c)) some_named)

      an_entity_in : Inhabited EntityIn
      an_entity_in = let r = some_then Head Named some_head some_named in (r.0, r.1, entity_whole r.1 r.0 r.2)

    entity_by : (x : Token) (ts : List Token) (a b c d i : Bool) → Explained u EntityIn (x ∷ ts) (cond a (entity_of n kind.Class) (cond b (entity_of n kind.Actor) (cond c (entity_of n kind.Primitive) (cond d (entity_of n kind.Trait) (cond i (entity_of n kind.Interface) refuse)))) (x ∷ ts))
    entity_by x ts true b c d i = explained_entity_of kind.Class (x ∷ ts)
    entity_by x ts false true c d i = explained_entity_of kind.Actor (x ∷ ts)
    entity_by x ts false false true d i = explained_entity_of kind.Primitive (x ∷ ts)
    entity_by x ts false false false true i = explained_entity_of kind.Trait (x ∷ ts)
    entity_by x ts false false false false true = explained_entity_of kind.Interface (x ∷ ts)
    entity_by x ts false false false false false = explained_refuse u EntityIn (x ∷ ts) (an_entity_in kind.Class)

    explained_entity : (ts : List Token) → Explained u EntityIn ts (entity n ts)
    unfolding entity peek
    explained_entity [] = explained_refuse u EntityIn [] (an_entity_in kind.Class)
    explained_entity (x ∷ ts) = entity_by x ts (is_word w.ClassWord x) (is_word w.ActorWord x) (is_word w.PrimitiveWord x) (is_word w.TraitWord x) (is_word w.InterfaceWord x)

    each_entity : (ts begin : List Token) → at begins_entity ts ≡ Some begin → Explained u EntityIn ts (entity n begin)
    each_entity [] begin h = absurd (at_nil begins_entity begin h)
    each_entity (x ∷ ts) begin h = subst (λ l. Explained u EntityIn (x ∷ ts) (entity n l)) (sym (at_is begins_entity x ts begin h).0) (explained_entity (x ∷ ts))

    listed_entities : (es : List t.Entity) (ts : List Token) → Listed EntityIn es ts → SpellsMoreEntities es ts × Fits u (suc n) (entities_depth es)
    listed_entities [] ts h = (h, fits_zero u (suc n))
    listed_entities (e ∷ es) ts h =
        let g = listed_entities es h.1 h.4 in
        ((h.0, h.1, h.2, h.3.0, g.0), fits_max u (suc n) (depth_of e) (entities_depth es) h.3.1 g.1)

    -- ---- files

    abbrev pub FileIn : t.File → List Token → Type 0
    FileIn f ts = SpellsFile f ts × Fits u (suc n) (file_depth f)

    abbrev a_file : t.Entity → List t.Entity → t.File
    a_file e es = record { entities = e ∷ es }

    abbrev DocEntity : t.Entity → List Token → Type 0
    DocEntity = Then DocAt (λ _. EntityIn)

    abbrev Ended : t.Entity → List t.Entity → t.File → List Token → Type 0
    Ended e es = Closes is_end (λ _. a_file e es)

    abbrev Others : t.Entity → t.File → List Token → Type 0
    Others e = Then (Listed EntityIn) (Ended e)

    some_doc_entity : Inhabited DocEntity
    some_doc_entity = some_then DocAt (λ _. EntityIn) some_doc (λ _. an_entity_in kind.Class)

    explained_doc_entity : (ts : List Token) → Explained u DocEntity ts ((maybe_doc >> entity n) ts)
    explained_doc_entity ts = explained_bind DocAt (λ _. EntityIn) u ts (λ _. entity n) (maybe_doc ts) (explained_doc u ts) (λ x r f. explained_entity r) (λ _. an_entity_in kind.Class)

    some_ended : (e : t.Entity) (es : List t.Entity) → Inhabited (Ended e es)
    some_ended e es = some_close u is_end (λ _. a_file e es) (of_kind k.End) an_end

    some_others : (e : t.Entity) → Inhabited (Others e)
    some_others e = some_then (Listed EntityIn) (Ended e) ([], [], refl) (some_ended e)

    file_whole : (v : t.File) (a : List Token) → Then DocEntity Others v a → FileIn v a
    file_whole v a h =
        let d = h.4 in
        let g = h.5 in
        let j = g.5 in
        let x = j.0 in
        let more = listed_entities g.0 g.1 g.4 in
        let last : h.2 ≡ g.1 ++ x ∷ [] = joined h.2 g.1 g.2 (x ∷ []) g.3 (closed u is_end (λ _. a_file h.0 g.0) v g.2 j) in
        let cut : a ≡ d.1 ++ ((d.2 ++ g.1) ++ x ∷ []) = h.3 ∙ ap₂ (λ l r. l ++ r) d.3 last ∙ append_assoc d.1 d.2 (g.1 ++ x ∷ []) ∙ ap (λ l. d.1 ++ l) (sym (append_assoc d.2 g.1 (x ∷ []))) in
        subst (λ v. FileIn v a) (sym j.5.1) ((d.1, d.2 ++ g.1, x, cut, d.4, (d.2, g.1, refl, d.5.0, more.0), end_is x j.4.1), fits_max u (suc n) (depth_of h.0) (entities_depth g.0) d.5.1 more.1)

    pub explained_file : (ts : List Token) → Explained u FileIn ts (file n ts)
    unfolding file
    explained_file ts =
        explained_weaker u (Then DocEntity Others) FileIn ts _ file_whole
        (explained_bind DocEntity Others u ts _ _ (explained_doc_entity ts)
        (λ e q1 f1. explained_bind (Listed EntityIn) (Ended e) u q1 _ _ (explained_all u EntityIn (at begins_entity) (entity n) each_entity q1)
        (λ es q2 f2. explained_close u is_end (λ _. a_file e es) (of_kind k.End) an_end q2) (some_ended e)) some_others)
