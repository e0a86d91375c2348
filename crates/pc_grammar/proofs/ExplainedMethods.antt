-- Methods are explained.
use Rattle.std.proofs.Common.{◌≡◌, ℕ, suc, Bool, true, false, ◌||◌, List, [], ◌∷◌, ◌++◌, Option, Some, None, refl, sym, ap, ◌∙◌, subst, cond}
use Rattle.pc_caps.specs.declared.capability.Cap.{Cap}
use Rattle.pc_tree.specs.Tree as t
use Rattle.pc_tree.specs.{Depths.seq_depth, Levels.{body_depth, methods_depth}, declared.written_names.Name.Name, declared.written_names.TypeRef.TypeRef, declared.file.ParamDef.ParamDef, declared.kinds.EntityKind.EntityKind, declared.kinds.MethodWord.MethodWord, Kinds.{is_abstract, may_stand, may_have_method_cap, CapIf, BodyUnless}}
use Rattle.pc_tree.specs.declared.kinds.MethodWord.TheVariants as method
use Rattle.pc_token.specs.{declared.kinds.Token.Token, Words.{is_sign, is_word}}
use Rattle.pc_token.specs.declared.kinds.TokenKind.TheVariants as k
use Rattle.pc_token.specs.declared.signs.Sign.TheVariants as s
use Rattle.pc_grammar.specs.{Spells.{SpellsCap, SpellsReturns, SpellsParams, SpellsBody, method_word, MayReturn, SpellsMethod}, Parts.SpellsMethods, Reading.{◌>>◌, pure, peek, take_if, all, at, name, seq, inner}, ReadingFile.{maybe_doc, params, written_body, maybe_body, body, cap_if, method_cap, method_result, method_of, word_in, begins_method, some_method}}
use Rattle.pc_grammar.proofs.{Explained.{Fits, fits_zero, fits_max, Explained, Then, Tok, Only, Listed, Inhabited, some_only, some_then, explained_bind, explained_weaker, explained_only, explained_refuse, explained_take, explained_all}, ExplainedParts.{ends_nil, joined, begins_one, of_kind, a_word, some_word, a_sign, some_sign, SeqIn, some_seq, NameAt, some_name, explained_name, explained_cap}, ExplainedAtoms.{at_is, at_nil}, ExplainedSeqs.{explained_seq, explained_inner}, ExplainedParams.{DocAt, some_doc, explained_doc, explained_returns, some_params, explained_params}, ExplainedFields.fits_up}

-- [Cap], if one is allowed
abbrev pub CapAt : Bool → Option Cap → List Token → Type 0
CapAt b c ts = SpellsCap c ts × CapIf b c

pub some_cap : (b : Bool) → Inhabited (CapAt b)
some_cap true = ([], None, (refl, tt))
some_cap false = ([], None, (refl, refl))

abbrev ResultAt : MethodWord → Option TypeRef → List Token → Type 0
ResultAt m r ts = SpellsReturns r ts × MayReturn m r

some_result : (m : MethodWord) → Inhabited (ResultAt m)
some_result method.Fun = ([], None, (refl, tt))
some_result method.Be = ([], None, (refl, refl))
some_result method.New = ([], None, (refl, refl))

module _ (u : Bool) where
  pub explained_cap_if : (b : Bool) (ts : List Token) → Explained u (CapAt b) ts (cap_if b ts)
  explained_cap_if true ts = explained_weaker u SpellsCap (CapAt true) ts _ (λ c a h. (h, tt)) (explained_cap u ts)
  explained_cap_if false ts = ([], refl, (refl, refl))

  explained_method_result : (m : MethodWord) (ts : List Token) → Explained u (ResultAt m) ts (method_result m ts)
  explained_method_result method.Fun ts = explained_weaker u SpellsReturns (ResultAt method.Fun) ts _ (λ c a h. (h, tt)) (explained_returns u ts)
  explained_method_result method.Be ts = ([], refl, (refl, refl))
  explained_method_result method.New ts = ([], refl, (refl, refl))

  module _ (n : ℕ) where
    -- ---- bodies

    abbrev ArrowDoc : Unit {0} → List Token → Type 0
    ArrowDoc = Then (Tok (is_sign s.Arrow)) (λ _. DocAt)

    abbrev Written : t.Seq → List Token → Type 0
    Written = Then ArrowDoc (λ _. SeqIn u n)

    abbrev WrittenIn : Option t.Seq → List Token → Type 0
    WrittenIn b ts = SpellsBody b ts × Fits u (suc n) (body_depth b) × BodyUnless false b

    some_arrow : Inhabited ArrowDoc
    some_arrow = some_then (Tok (is_sign s.Arrow)) (λ _. DocAt) (some_sign s.Arrow) (λ _. some_doc)

    some_written : Inhabited Written
    some_written = some_then ArrowDoc (λ _. SeqIn u n) some_arrow (λ _. some_seq u n)

    explained_arrow : (ts : List Token) → Explained u ArrowDoc ts ((take_if (is_sign s.Arrow) >> maybe_doc) ts)
    explained_arrow ts = explained_bind (Tok (is_sign s.Arrow)) (λ _. DocAt) u ts (λ _. maybe_doc) (take_if (is_sign s.Arrow) ts) (explained_take u (is_sign s.Arrow) (of_kind (k.Sign s.Arrow)) (a_sign s.Arrow) ts) (λ y r e. explained_doc u r) (λ _. some_doc)

    explained_written : (ts : List Token) → Explained u Written ts ((take_if (is_sign s.Arrow) >> maybe_doc >> seq n) ts)
    explained_written ts = explained_bind ArrowDoc (λ _. SeqIn u n) u ts (λ _. seq n) _ (explained_arrow ts) (λ y r e. explained_seq u n (inner n) (explained_inner u n) r) (λ _. some_seq u n)

    written_whole : (v : Option t.Seq) (a : List Token) → Then Written (λ b. Only (Some b)) v a → WrittenIn v a
    written_whole v a h =
        let p = h.4 in
        let o = p.4 in
        let front : p.1 ≡ o.0 ∷ o.2 = begins_one o.0 p.1 o.1 o.2 o.2 o.3 o.4.0 refl in
        let cut : a ≡ o.0 ∷ (o.2 ++ p.2) = ends_nil a h.1 h.2 h.3 h.5.0 ∙ p.3 ∙ ap (λ l. l ++ p.2) front in
        subst (λ v. WrittenIn v a) (sym h.5.1) ((o.0, o.2, p.2, cut, o.4.1, o.5, p.5.0), fits_up u n (seq_depth h.0) p.5.1, tt)

    abbrev BodyAt : Bool → Option t.Seq → List Token → Type 0
    BodyAt abstract b ts = SpellsBody b ts × Fits u (suc n) (body_depth b) × BodyUnless abstract b

    some_written_in : Inhabited WrittenIn
    some_written_in = let r = some_then Written (λ b. Only (Some b)) some_written (λ b. some_only _) in (r.0, r.1, written_whole r.1 r.0 r.2)

    some_body : (abstract : Bool) → Inhabited (BodyAt abstract)
    some_body true = ([], None, (refl, fits_zero u (suc n), tt))
    some_body false = some_written_in

    explained_written_in : (ts : List Token) → Explained u WrittenIn ts (written_body n ts)
    unfolding written_body
    explained_written_in ts =
        explained_weaker u (Then Written (λ b. Only (Some b))) WrittenIn ts _ written_whole
        (explained_bind Written (λ b. Only (Some b)) u ts _ _ (explained_written ts) (λ b r e. explained_only u _ r) (λ b. some_only _))

    maybe_body_by : (x : Token) (ts : List Token) (b : Bool) → Explained u (BodyAt true) (x ∷ ts) (cond b (written_body n) (pure None) (x ∷ ts))
    maybe_body_by x ts true = explained_weaker u WrittenIn (BodyAt true) (x ∷ ts) _ (λ v a h. (h.0, h.1, tt)) (explained_written_in (x ∷ ts))
    maybe_body_by x ts false = ([], refl, (refl, fits_zero u (suc n), tt))

    explained_maybe_body : (ts : List Token) → Explained u (BodyAt true) ts (maybe_body n ts)
    unfolding maybe_body peek
    explained_maybe_body [] = explained_refuse u (BodyAt true) [] (some_body true)
    explained_maybe_body (x ∷ ts) = maybe_body_by x ts (is_sign s.Arrow x)

    explained_body : (abstract : Bool) (ts : List Token) → Explained u (BodyAt abstract) ts (cond abstract (maybe_body n) (written_body n) ts)
    explained_body true ts = explained_maybe_body ts
    explained_body false ts = explained_written_in ts

    -- ---- methods

    abbrev DocBody : EntityKind → Option t.Seq → List Token → Type 0
    DocBody e = Then DocAt (λ _. BodyAt (is_abstract e))

    some_doc_body : (e : EntityKind) → Inhabited (DocBody e)
    some_doc_body e = some_then DocAt (λ _. BodyAt (is_abstract e)) some_doc (λ _. some_body (is_abstract e))

    explained_doc_body : (e : EntityKind) (ts : List Token) → Explained u (DocBody e) ts ((maybe_doc >> body n e) ts)
    explained_doc_body e ts = explained_bind DocAt (λ _. BodyAt (is_abstract e)) u ts (λ _. body n e) (maybe_doc ts) (explained_doc u ts) (λ x r f. explained_body (is_abstract e) r) (λ _. some_body (is_abstract e))

    abbrev MethodIn : EntityKind → t.Method → List Token → Type 0
    MethodIn e m ts = SpellsMethod e m ts × Fits u (suc n) (body_depth m.body)

    module _ (e : EntityKind) (m : MethodWord) where
      abbrev a_method : Option Cap → Name → List ParamDef → Option TypeRef → Option t.Seq → t.Method
      a_method c i ps r b = record { word = m; cap = c; name = i; params = ps; result = r; body = b }

      abbrev Head : Option Cap → List Token → Type 0
      Head = Then (Tok (is_word (method_word m))) (λ _. CapAt (may_have_method_cap e m))

      abbrev Bodied : Option Cap → Name → List ParamDef → Option TypeRef → t.Method → List Token → Type 0
      Bodied c i ps r = Then (DocBody e) (λ b. Only (a_method c i ps r b))

      abbrev Resulted : Option Cap → Name → List ParamDef → t.Method → List Token → Type 0
      Resulted c i ps = Then (ResultAt m) (Bodied c i ps)

      abbrev Taking : Option Cap → Name → t.Method → List Token → Type 0
      Taking c i = Then SpellsParams (Resulted c i)

      abbrev Named : Option Cap → t.Method → List Token → Type 0
      Named c = Then NameAt (Taking c)

      some_head : Inhabited Head
      some_head = some_then (Tok (is_word (method_word m))) (λ _. CapAt (may_have_method_cap e m)) (some_word (method_word m)) (λ _. some_cap (may_have_method_cap e m))

      explained_head : (ts : List Token) → Explained u Head ts ((take_if (is_word (method_word m)) >> method_cap e m) ts)
      explained_head ts = explained_bind (Tok (is_word (method_word m))) (λ _. CapAt (may_have_method_cap e m)) u ts (λ _. method_cap e m) (take_if (is_word (method_word m)) ts) (explained_take u (is_word (method_word m)) (of_kind (k.Word (method_word m))) (a_word (method_word m)) ts) (λ y r f. explained_cap_if (may_have_method_cap e m) r) (λ _. some_cap (may_have_method_cap e m))

      some_bodied : (c : Option Cap) (i : Name) (ps : List ParamDef) (r : Option TypeRef) → Inhabited (Bodied c i ps r)
      some_bodied c i ps r = some_then (DocBody e) (λ b. Only (a_method c i ps r b)) (some_doc_body e) (λ b. some_only _)

      some_resulted : (c : Option Cap) (i : Name) (ps : List ParamDef) → Inhabited (Resulted c i ps)
      some_resulted c i ps = some_then (ResultAt m) (Bodied c i ps) (some_result m) (some_bodied c i ps)

      some_taking : (c : Option Cap) (i : Name) → Inhabited (Taking c i)
      some_taking c i = some_then SpellsParams (Resulted c i) (some_params u) (some_resulted c i)

      some_named : (c : Option Cap) → Inhabited (Named c)
      some_named c = some_then NameAt (Taking c) some_name (some_taking c)

      method_whole : may_stand e m ≡ true → (v : t.Method) (a : List Token) → Then Head Named v a → MethodIn e v a
      method_whole stands v a h =
          let q = h.4 in
          let x = q.0 in
          let g = h.5 in
          let y = g.4.0 in
          let p = g.5 in
          let r = p.5 in
          let b = r.5 in
          let d = b.4 in
          let last = ends_nil r.2 b.1 b.2 b.3 b.5.0 ∙ d.3 in
          let result = joined p.2 r.1 r.2 (d.1 ++ d.2) r.3 last in
          let taking = joined g.2 p.1 p.2 (r.1 ++ (d.1 ++ d.2)) p.3 result in
          let behind : h.2 ≡ y ∷ (p.1 ++ (r.1 ++ (d.1 ++ d.2))) = begins_one y h.2 g.1 g.2 (p.1 ++ (r.1 ++ (d.1 ++ d.2))) g.3 g.4.1 taking in
          let front : h.1 ≡ x ∷ q.2 = begins_one x h.1 q.1 q.2 q.2 q.3 q.4.0 refl in
          let cut : a ≡ x ∷ (q.2 ++ y ∷ (p.1 ++ (r.1 ++ (d.1 ++ d.2)))) = joined a h.1 h.2 (y ∷ (p.1 ++ (r.1 ++ (d.1 ++ d.2)))) h.3 behind ∙ ap (λ l. l ++ y ∷ (p.1 ++ (r.1 ++ (d.1 ++ d.2)))) front in
          subst (λ v. MethodIn e v a) (sym b.5.1) ((x, y, q.2, p.1, r.1, d.1, d.2, cut, q.4.1, q.5.0, g.4.2, p.4, r.4.0, d.4, d.5.0, stands, q.5.1, r.4.1, d.5.2), d.5.1)

      explained_method : may_stand e m ≡ true → (ts : List Token) → Explained u (MethodIn e) ts (method_of n e m ts)
      unfolding method_of
      explained_method stands ts =
          explained_weaker u (Then Head Named) (MethodIn e) ts _ (method_whole stands)
          (explained_bind Head Named u ts _ _ (explained_head ts)
          (λ c q1 f1. explained_bind NameAt (Taking c) u q1 _ (name q1) (explained_name u q1)
          (λ i q2 f2. explained_bind SpellsParams (Resulted c i) u q2 _ (params q2) (explained_params u q2)
          (λ ps q3 f3. explained_bind (ResultAt m) (Bodied c i ps) u q3 _ (method_result m q3) (explained_method_result m q3)
          (λ r q4 f4. explained_bind (DocBody e) (λ b. Only (a_method c i ps r b)) u q4 _ _ (explained_doc_body e q4) (λ b q5 f5. explained_only u _ q5) (λ b. some_only _))
          (some_bodied c i ps)) (some_resulted c i)) (some_taking c)) some_named)

    -- ---- lists of methods

    stands_by : (e : EntityKind) (m : MethodWord) (x : Token) (b : Bool) → may_stand e m ≡ b → cond b (is_word (method_word m) x) false ≡ true → may_stand e m ≡ true
    stands_by e m x true is h = is
    stands_by e m x false is h = absurd (cc)

    stands : (e : EntityKind) (m : MethodWord) (x : Token) → word_in e m x ≡ true → may_stand e m ≡ true
    stands e m x h = stands_by e m x (may_stand e m) refl h

    method_by : (e : EntityKind) (x : Token) (ts : List Token) (a b c : Bool) → word_in e method.Fun x ≡ a → word_in e method.Be x ≡ b → word_in e method.New x ≡ c → (a || (b || c)) ≡ true
        → Explained u (MethodIn e) (x ∷ ts) (cond a (method_of n e method.Fun) (cond b (method_of n e method.Be) (method_of n e method.New)) (x ∷ ts))
    method_by e x ts true b c is be new h = explained_method e method.Fun (stands e method.Fun x is) (x ∷ ts)
    method_by e x ts false true c is be new h = explained_method e method.Be (stands e method.Be x be) (x ∷ ts)
    method_by e x ts false false true is be new h = explained_method e method.New (stands e method.New x new) (x ∷ ts)
    method_by e x ts false false false is be new h = absurd (cc)

    explained_some_method : (e : EntityKind) (x : Token) (ts : List Token) → begins_method e x ≡ true → Explained u (MethodIn e) (x ∷ ts) (some_method n e (x ∷ ts))
    unfolding some_method peek begins_method
    explained_some_method e x ts h = method_by e x ts (word_in e method.Fun x) (word_in e method.Be x) (word_in e method.New x) refl refl refl h

    each_method : (e : EntityKind) (ts begin : List Token) → at (begins_method e) ts ≡ Some begin → Explained u (MethodIn e) ts (some_method n e begin)
    each_method e [] begin h = absurd (at_nil (begins_method e) begin h)
    each_method e (x ∷ ts) begin h =
        let f = at_is (begins_method e) x ts begin h in
        subst (λ l. Explained u (MethodIn e) (x ∷ ts) (some_method n e l)) (sym f.0) (explained_some_method e x ts f.1)

    abbrev pub MethodsIn : EntityKind → List t.Method → List Token → Type 0
    MethodsIn e ms ts = SpellsMethods e ms ts × Fits u (suc n) (methods_depth ms)

    listed_methods : (e : EntityKind) (ms : List t.Method) (ts : List Token) → Listed (MethodIn e) ms ts → MethodsIn e ms ts
    listed_methods e [] ts h = (h, fits_zero u (suc n))
    listed_methods e (m ∷ ms) ts h =
        let g = listed_methods e ms h.1 h.4 in
        ((h.0, h.1, h.2, h.3.0, g.0), fits_max u (suc n) (body_depth m.body) (methods_depth ms) h.3.1 g.1)

    pub some_methods : (e : EntityKind) → Inhabited (MethodsIn e)
    some_methods e = ([], [], (refl, fits_zero u (suc n)))

    pub explained_methods : (e : EntityKind) (ts : List Token) → Explained u (MethodsIn e) ts (all (at (begins_method e)) (some_method n e) ts)
    explained_methods e ts = explained_weaker u (Listed (MethodIn e)) (MethodsIn e) ts _ (listed_methods e) (explained_all u (MethodIn e) (at (begins_method e)) (some_method n e) (each_method e) ts)
