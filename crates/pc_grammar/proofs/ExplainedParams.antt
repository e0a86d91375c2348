-- Docs, results and parameters are explained.
use Rattle.std.proofs.Common.{◌≡◌, Bool, true, false, List, [], ◌∷◌, ◌++◌, Option, Some, None, refl, sym, ap, ◌∙◌, subst, cond}
use Rattle.pc_caps.specs.declared.capability.Cap.{Cap}
use Rattle.pc_tree.specs.{declared.written_names.Name.Name, declared.written_names.TypeRef.TypeRef, declared.file.ParamDef.ParamDef}
use Rattle.pc_token.specs.{declared.kinds.Token.Token, declared.kinds.TokenKind.TokenKind, Words.is_sign}
use Rattle.pc_token.specs.declared.kinds.TokenKind.TheVariants as k
use Rattle.pc_token.specs.declared.signs.Sign.TheVariants as s
use Rattle.pc_grammar.specs.{Spells.{SpellsCap, SpellsType, IsDoc, SpellsHat, SpellsResult, SpellsReturns, SpellsParam, SpellsMoreParams, SpellsParamList, SpellsParams}, Reading.{pure, ◌>>=◌, ◌>>◌, peek, take_if, take_any, all, after, name, type_name, maybe_cap, written_type}, ReadingFile.{kind_is_doc, is_doc, maybe_doc, maybe_hat, result_type, returns, param, param_list, params}}
use Rattle.pc_grammar.proofs.{Explained.{Explained, Then, Tok, Only, Listed, Inhabited, some_only, some_then, explained_bind, explained_weaker, explained_only, explained_refuse, explained_take, explained_all}, ExplainedParts.{explained_cons, taken, ends_nil, joined, begins_one, of_kind, a_sign, some_sign, NameAt, TypeNameAt, some_name, some_type_name, some_type, explained_name, explained_type_name, explained_cap, explained_type}, ExplainedAtoms.{Closes, some_close, explained_close, closed}, ExplainedChains.after_is}

-- ---- docs

abbrev pub DocAt : Unit {0} → List Token → Type 0
DocAt v ts = IsDoc ts

kind_doc : (kk : TokenKind) → kind_is_doc kk ≡ true → kk ≡ k.Doc
kind_doc k.Doc e = refl
kind_doc _ e = absurd (cc)

doc_is : (x : Token) → is_doc x ≡ true → x.kind ≡ k.Doc
unfolding is_doc
doc_is x e = kind_doc x.kind e

pub some_doc : Inhabited DocAt
some_doc = ([], tt, tt)

module _ (u : Bool) where
  doc_by : (x : Token) (ts : List Token) (b : Bool) → is_doc x ≡ b → Explained u DocAt (x ∷ ts) (cond b (take_any >> pure tt) (pure tt) (x ∷ ts))
  unfolding take_if
  doc_by x ts true e = (x ∷ [], refl, doc_is x e)
  doc_by x ts false e = ([], refl, tt)

  pub explained_doc : (ts : List Token) → Explained u DocAt ts (maybe_doc ts)
  unfolding maybe_doc peek
  explained_doc [] = explained_refuse u DocAt [] some_doc
  explained_doc (x ∷ ts) = doc_by x ts (is_doc x) refl

  -- ---- results

  hat_by : (x : Token) (ts : List Token) (b : Bool) → is_sign s.Caret x ≡ b → Explained u SpellsHat (x ∷ ts) (cond b (take_any >> pure true) (pure false) (x ∷ ts))
  unfolding take_if
  hat_by x ts true e = (x ∷ [], refl, (x, refl, e))
  hat_by x ts false e = ([], refl, refl)

  explained_hat : (ts : List Token) → Explained u SpellsHat ts (maybe_hat ts)
  unfolding maybe_hat peek
  explained_hat [] = explained_refuse u SpellsHat [] ([], false, refl)
  explained_hat (x ∷ ts) = hat_by x ts (is_sign s.Caret x) refl

  abbrev a_type : Name → Option Cap → Bool → TypeRef
  a_type m c h = record { name = m; cap = c; hat = h }

  abbrev Hatted : Name → Option Cap → TypeRef → List Token → Type 0
  Hatted m c = Then SpellsHat (λ h. Only (a_type m c h))

  abbrev Capped : Name → TypeRef → List Token → Type 0
  Capped m = Then SpellsCap (Hatted m)

  result_whole : (v : TypeRef) (a : List Token) → Then TypeNameAt Capped v a → SpellsResult v a
  result_whole v a h =
      let g = h.5 in
      let d = g.5 in
      let x = h.4.0 in
      let rest : h.2 ≡ g.1 ++ d.1 = joined h.2 g.1 g.2 d.1 g.3 (ends_nil g.2 d.1 d.2 d.3 d.5.0) in
      let cut = begins_one x a h.1 h.2 (g.1 ++ d.1) h.3 h.4.1 rest in
      subst (λ v. SpellsResult v a) (sym d.5.1) (x, g.1, d.1, cut, h.4.2, g.4, d.4)

  some_hatted : (m : Name) (c : Option Cap) → Inhabited (Hatted m c)
  some_hatted m c = some_then SpellsHat (λ h. Only (a_type m c h)) ([], false, refl) (λ h. some_only _)

  some_capped : (m : Name) → Inhabited (Capped m)
  some_capped m = some_then SpellsCap (Hatted m) ([], None, refl) (some_hatted m)

  some_result : Inhabited SpellsResult
  some_result = let r = some_then TypeNameAt Capped some_type_name some_capped in (r.0, r.1, result_whole r.1 r.0 r.2)

  explained_result : (ts : List Token) → Explained u SpellsResult ts (result_type ts)
  unfolding result_type
  explained_result ts =
      explained_weaker u (Then TypeNameAt Capped) SpellsResult ts _ result_whole
      (explained_bind TypeNameAt Capped u ts _ (type_name ts) (explained_type_name u ts)
      (λ m r e. explained_bind SpellsCap (Hatted m) u r _ (maybe_cap r) (explained_cap u r)
      (λ c q f. explained_bind SpellsHat (λ h. Only (a_type m c h)) u q _ (maybe_hat q) (explained_hat q) (λ h l g. explained_only u _ l) (λ h. some_only _)) (some_hatted m)) some_capped)

  returns_at : (x : Token) → is_sign s.Colon x ≡ true → (v : Option TypeRef) (a : List Token) → Then SpellsResult (λ r. Only (Some r)) v a → SpellsReturns v (x ∷ a)
  returns_at x is v a h = subst (λ v. SpellsReturns v (x ∷ a)) (sym h.5.1) (x, h.1, ap (λ l. x ∷ l) (ends_nil a h.1 h.2 h.3 h.5.0), is, h.4)

  returns_by : (x : Token) (ts : List Token) (b : Bool) → is_sign s.Colon x ≡ b → Explained u SpellsReturns (x ∷ ts) (cond b (take_if (is_sign s.Colon) >> result_type >>= λ r. pure (Some r)) (pure None) (x ∷ ts))
  returns_by x ts true e =
      rw (taken (is_sign s.Colon) x ts e) (explained_cons u SpellsReturns (Then SpellsResult (λ r. Only (Some r))) x ts (returns_at x e) _
      (explained_bind SpellsResult (λ r. Only (Some r)) u ts _ (result_type ts) (explained_result ts) (λ r q f. explained_only u _ q) (λ r. some_only _)))
  returns_by x ts false e = ([], refl, refl)

  pub explained_returns : (ts : List Token) → Explained u SpellsReturns ts (returns ts)
  unfolding returns peek
  explained_returns [] = explained_refuse u SpellsReturns [] ([], None, refl)
  explained_returns (x ∷ ts) = returns_by x ts (is_sign s.Colon x) refl

  -- ---- parameters

  abbrev pub ColonType : TypeRef → List Token → Type 0
  ColonType = Then (Tok (is_sign s.Colon)) (λ _. SpellsType)

  pub some_colon_type : Inhabited ColonType
  some_colon_type = some_then (Tok (is_sign s.Colon)) (λ _. SpellsType) (some_sign s.Colon) (λ _. some_type u)

  pub explained_colon_type : (ts : List Token) → Explained u ColonType ts ((take_if (is_sign s.Colon) >> written_type) ts)
  explained_colon_type ts = explained_bind (Tok (is_sign s.Colon)) (λ _. SpellsType) u ts (λ _. written_type) (take_if (is_sign s.Colon) ts) (explained_take u (is_sign s.Colon) (of_kind (k.Sign s.Colon)) (a_sign s.Colon) ts) (λ y r e. explained_type u r) (λ _. some_type u)

  abbrev a_param : Name → TypeRef → ParamDef
  a_param m r = record { name = m; ty = r }

  abbrev ParamEnd : Name → ParamDef → List Token → Type 0
  ParamEnd m = Then ColonType (λ r. Only (a_param m r))

  param_whole : (v : ParamDef) (a : List Token) → Then NameAt ParamEnd v a → SpellsParam v a
  param_whole v a h =
      let x = h.4.0 in
      let g = h.5 in
      let z = g.4 in
      let tail : g.1 ≡ z.0 ∷ z.2 = begins_one z.0 g.1 z.1 z.2 z.2 z.3 z.4.0 refl in
      let cut = begins_one x a h.1 h.2 (z.0 ∷ z.2) h.3 h.4.1 (ends_nil h.2 g.1 g.2 g.3 g.5.0 ∙ tail) in
      subst (λ v. SpellsParam v a) (sym g.5.1) (x, z.0, z.2, cut, h.4.2, z.4.1, z.5)

  some_param_end : (m : Name) → Inhabited (ParamEnd m)
  some_param_end m = some_then ColonType (λ r. Only (a_param m r)) some_colon_type (λ r. some_only _)

  some_param : Inhabited SpellsParam
  some_param = let r = some_then NameAt ParamEnd some_name some_param_end in (r.0, r.1, param_whole r.1 r.0 r.2)

  explained_param : (ts : List Token) → Explained u SpellsParam ts (param ts)
  unfolding param
  explained_param ts =
      explained_weaker u (Then NameAt ParamEnd) SpellsParam ts _ param_whole
      (explained_bind NameAt ParamEnd u ts _ (name ts) (explained_name u ts)
      (λ m r e. explained_bind ColonType (λ r. Only (a_param m r)) u r _ _ (explained_colon_type r) (λ t q f. explained_only u _ q) (λ t. some_only _)) some_param_end)

  abbrev MoreParam : ParamDef → List Token → Type 0
  MoreParam p ts = (x : Token) × (a : List Token) × (ts ≡ x ∷ a) × (is_sign s.Comma x ≡ true) × SpellsParam p a

  listed_params : (ps : List ParamDef) (ts : List Token) → Listed MoreParam ps ts → SpellsMoreParams ps ts
  listed_params [] ts h = h
  listed_params (p ∷ ps) ts h =
      let x = h.3 in
      (x.0, x.1, h.1, h.2 ∙ ap (λ l. l ++ h.1) x.2, x.3, x.4, listed_params ps h.1 h.4)

  each_param : (ts begin : List Token) → after (is_sign s.Comma) ts ≡ Some begin → Explained u MoreParam ts (param begin)
  each_param ts begin h =
      let f = after_is (is_sign s.Comma) ts begin h in
      subst (λ l. Explained u MoreParam l (param begin)) (sym f.1) (explained_cons u MoreParam SpellsParam f.0 begin (λ v a m. (f.0, a, refl, f.2, m)) (param begin) (explained_param begin))

  abbrev ParamsRest : ParamDef → List ParamDef → List Token → Type 0
  ParamsRest p = Then (Listed MoreParam) (λ ps. Only (p ∷ ps))

  list_whole : (v : List ParamDef) (a : List Token) → Then SpellsParam ParamsRest v a → SpellsParamList v a
  list_whole v a h =
      let g = h.5 in
      let cut = joined a h.1 h.2 g.1 h.3 (ends_nil h.2 g.1 g.2 g.3 g.5.0) in
      subst (λ v. SpellsParamList v a) (sym g.5.1) (h.1, g.1, cut, h.4, listed_params g.0 g.1 g.4)

  some_params_rest : (p : ParamDef) → Inhabited (ParamsRest p)
  some_params_rest p = some_then (Listed MoreParam) (λ ps. Only (p ∷ ps)) ([], [], refl) (λ ps. some_only _)

  param_list_by : (x : Token) (ts : List Token) (b : Bool) → Explained u SpellsParamList (x ∷ ts) (cond b (pure []) (param >>= λ p. all (after (is_sign s.Comma)) param >>= λ ps. pure (p ∷ ps)) (x ∷ ts))
  param_list_by x ts true = ([], refl, refl)
  param_list_by x ts false =
      explained_weaker u (Then SpellsParam ParamsRest) SpellsParamList (x ∷ ts) _ list_whole
      (explained_bind SpellsParam ParamsRest u (x ∷ ts) _ (param (x ∷ ts)) (explained_param (x ∷ ts))
      (λ p r e. explained_bind (Listed MoreParam) (λ ps. Only (p ∷ ps)) u r _ _ (explained_all u MoreParam (after (is_sign s.Comma)) param each_param r) (λ ps q f. explained_only u _ q) (λ ps. some_only _)) some_params_rest)

  explained_param_list : (ts : List Token) → Explained u SpellsParamList ts (param_list ts)
  unfolding param_list peek
  explained_param_list [] = explained_refuse u SpellsParamList [] ([], [], refl)
  explained_param_list (x ∷ ts) = param_list_by x ts (is_sign s.CloseParen x)

  abbrev OpenList : List ParamDef → List Token → Type 0
  OpenList = Then (Tok (is_sign s.OpenParen)) (λ _. SpellsParamList)

  some_open_list : Inhabited OpenList
  some_open_list = some_then (Tok (is_sign s.OpenParen)) (λ _. SpellsParamList) (some_sign s.OpenParen) (λ _. ([], [], refl))

  explained_open_list : (ts : List Token) → Explained u OpenList ts ((take_if (is_sign s.OpenParen) >> param_list) ts)
  explained_open_list ts = explained_bind (Tok (is_sign s.OpenParen)) (λ _. SpellsParamList) u ts (λ _. param_list) (take_if (is_sign s.OpenParen) ts) (explained_take u (is_sign s.OpenParen) (of_kind (k.Sign s.OpenParen)) (a_sign s.OpenParen) ts) (λ y r e. explained_param_list r) (λ _. ([], [], refl))

  abbrev ParamsEnd : List ParamDef → List ParamDef → List Token → Type 0
  ParamsEnd ps = Closes (is_sign s.CloseParen) (λ _. ps)

  some_params_end : (ps : List ParamDef) → Inhabited (ParamsEnd ps)
  some_params_end ps = some_close u (is_sign s.CloseParen) (λ _. ps) (of_kind (k.Sign s.CloseParen)) (a_sign s.CloseParen)

  params_whole : (v : List ParamDef) (a : List Token) → Then OpenList ParamsEnd v a → SpellsParams v a
  params_whole v a h =
      let o = h.4 in
      let j = h.5 in
      let x = o.0 in
      let y = j.0 in
      let front : h.1 ≡ x ∷ o.2 = begins_one x h.1 o.1 o.2 o.2 o.3 o.4.0 refl in
      let cut : a ≡ x ∷ (o.2 ++ y ∷ []) = joined a h.1 h.2 (y ∷ []) h.3 (closed u (is_sign s.CloseParen) (λ _. h.0) v h.2 j) ∙ ap (λ l. l ++ y ∷ []) front in
      subst (λ v. SpellsParams v a) (sym j.5.1) (x, y, o.2, cut, o.4.1, o.5, j.4.1)

  pub some_params : Inhabited SpellsParams
  some_params = let r = some_then OpenList ParamsEnd some_open_list some_params_end in (r.0, r.1, params_whole r.1 r.0 r.2)

  pub explained_params : (ts : List Token) → Explained u SpellsParams ts (params ts)
  unfolding params
  explained_params ts =
      explained_weaker u (Then OpenList ParamsEnd) SpellsParams ts _ params_whole
      (explained_bind OpenList ParamsEnd u ts _ _ (explained_open_list ts)
      (λ ps r e. explained_close u (is_sign s.CloseParen) (λ _. ps) (of_kind (k.Sign s.CloseParen)) (a_sign s.CloseParen) r) some_params_end)
