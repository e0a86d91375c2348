-- `get`: a `&` to one of the values that are lent.
use Rattle.pc_arena.proofs.{Steps.{◌≡◌, refl, ℕ, ◌+◌, ◌*◌, ◌<◌, arith, List, [], ◌∷◌, length, Fml, Lft, Share, ftrue, fsep, flft, SProp, emp, never, id⊢, named, w64, a_type, dcons, dnil, Val, vint, vptr, inst_fn, ‵, raw, ◌⊛◌, at_ret, ◌$◌, ◌∵◌, !, qed, by, move, keep, use0, use1, split, join, fsplit, fjoin, feq_i, flt_l, rewrite, done, enter, stop, fld, load, addr, size_lit, of_opd, bin, first, blocks, exec, look, returns, alloc_all, pass_all, free_all, look_at, get, through, sets, sets_last, env, fact, fact_i, tables, RefOf, usize, yes, hidden_shr, shared_of, hide, unhide, shr_dup, param, bounded, uint_vals, uint_Tells, RattleType, owns, Ptr, RawPtr, block_ptr, in_a_block, ptr_row_laws, shr_vals, shr_Tells, types_at, plain, nothing, heard, Stays, stay_dropped, walk_of, Goes-dropped, type_size, Some, slice_get, proved, leaves, after}, Fills.{within_word, found, one_lent}, Opened.Owner, row.Row.get.Statement.statement}
use Rattle.pc_arena.specs.{Ownership.{row_size, row_lent}, contracts.row.Row.get.{ended, clauses}, contracts.row.Row.get.Key.name}
use Rattle.std.proofs.Words.{pointer_in, pointer_out}
use Rattle.pc_arena.proofs.row.Row.get.Code as code

pub get_spec : {M : Type 1} → statement M
get_spec 𝓤 𝓛 𝓜 𝓡 wired T Z L LZ g methods drops met dropped =
    let H = 𝓛.H in
    let 𝓣 = tables 𝓤 H 𝓜 𝓡 𝓡.env in
    let R : RattleType = param 0 T in
    let Self : RattleType = Owner T Z g in
    let En = ended T Z g methods drops in
    let c = clauses T Z g methods drops 𝓛 𝓜.mem 𝓡.returns in
    let types = bounded (a_type ∷ a_type ∷ []) (T, (Z, tt)) (dcons methods (dcons drops dnil)) in
    let fn = inst_fn types code.function in
    let lent = RefOf (0 ∷ []) tt (plain (λ _. Self)) (λ _. tt) in
    let stays : Stays En.signature.params En.kept = (stay_dropped lent yes, (stay_dropped (plain (λ _. usize)) yes, tt)) in
    proved 𝓛 En stays c 𝓜 𝓡 (Goes-dropped 𝓛 3 lent yes (λ κs x f. refl), (Goes-dropped 𝓛 3 (plain (λ _. usize)) yes (λ κs x f. refl), tt))
    (name types) fn (code.unfolded 𝓤 H 𝓜 𝓡 wired (T, (Z, tt)) methods drops)
    (λ κs. (shr_vals, (uint_vals w64, tt))) (λ κs. (shr_Tells (named 0) κs.0 Self, (uint_Tells w64, tt))) (λ κs qs bounds a none are.
    let κ : Lft = κs.0 in let q : Share = qs.0 in let others : Fml = fsep (flft κs.1.0 qs.1.0) (fsep (flft κs.1.1.0 qs.1.1.0) ftrue) in
    let rb = a.0.ref_ptr.0 in let ro = a.0.ref_ptr.1 in let d : Self.Denot = a.0.now in let xs : List T.Denot = d.values in let i : ℕ = a.1.0 in let s = type_size R in
    let y : (walk_of 𝓛 En stays c).Ghost = ((κs, qs, bounds, a, (vptr rb ro ∷ [], (vint w64 i ∷ [], tt))), none) in let Post : Val → SProp 𝓤 = (walk_of 𝓛 En stays c).post y in
    let Asked : Type 0 = i < length xs in
    qed 𝓛 (((‵ (flft κ q) ⊛ ‵ others) ⊛ ‵ (owns (types_at En.signature.params κs) a y.0.4)) ∷ raw (fact 𝓤 _) ∷ raw (fact 𝓤 _) ∷ raw (fact 𝓤 Asked) ∷ []) ∵
    keep ! (3 ∷ 0 ∷ []) $ heard ! Asked (λ asked. split ! $ split ! $ move ! (2 ∷ []) $ fsplit ! $ fsplit ! $ keep ! (1 ∷ 3 ∷ 4 ∷ []) $
    -- [the row, lent; the token of its lifetime; the other tokens]
    let counted = d.counted.0 in let most = d.counted.1 in let low : i < row_size = omega arith in let there = found xs i asked in let x : T.Denot = there.0 in
    enter ! 𝓣.C 𝓣.Λ fn (vptr rb ro ∷ vint w64 i ∷ []) Post $ alloc_all ! (λ l. pass_all ! refl ((tt, tt), ((tt, record { fits = are.1.0.1 }), tt)) $ let Ev = env fn.locals l in
    unhide ! $ fsplit ! $ move ! (1 ∷ []) $ in_a_block ! d.first (λ u. row_lent R u xs κ) (id⊢ 𝓤 (never 𝓤)) (λ b o e. fsplit ! $ flt_l ! (λ short.
    let fits = within_word i s low short in let at = i * s + o in let p = block_ptr b o in let here = ro + 0 in
    move ! (1 ∷ []) $ fsplit ! $ fsplit ! $ hide ! $ rewrite ! 0 (λ (u : Ptr). ‵ (hidden_shr RawPtr κ u rb here)) e refl $
    -- [the pointer, lent; the other fields; how far they are apart; the values, lent; the token of their lifetime; the other tokens]
    move ! (0 ∷ 4 ∷ []) $ pointer_in ! tt {κ = κ} {q = q} {S = hidden_shr RawPtr κ p rb here} p tt rb here (qed 𝓛 (‵ (hidden_shr RawPtr κ p rb here) ∷ []) ∵ shr_dup ! RawPtr ptr_row_laws p rb here κ $ done !) (λ q'.
    first ! $ blocks ! $
    sets ! (of_opd ! (load ! (through ! refl (fld ! refl (stop !))) (look ! 1 refl))) refl (tt, tt) $ pointer_out ! tt p tt rb here $
    sets ! (bin ! (get ! refl) (size_lit ! (record { fits = fits.1 })) (record { fits = fits.0 })) refl (tt, record { fits = fits.0 }) $
    sets ! (bin ! (get ! refl) (get ! refl) tt) refl (tt, tt) $
    -- [the token; the pointer, lent; the other fields; ..; the values, lent; the other tokens]
    move ! (4 ∷ 0 ∷ []) $ use1 𝓛 (‵ (shared_of R x b at κ)) (one_lent R 𝓛 κ b xs i x o at asked there.2 refl) $ hide ! $
    sets_last ! (addr ! (through ! refl (stop !))) refl (tt, tt) $ exec ! 𝓣.C 𝓣.Λ Ev (after 1 fn.body) (at_ret Ev Post) $ sets ! (of_opd ! (get ! refl)) refl (tt, tt) $
    feq_i ! (List Val) (vptr b at ∷ []) (vptr b at ∷ []) refl $ fjoin ! $ move ! (1 ∷ 5 ∷ []) $ join ! $ nothing ! $ nothing ! $ fjoin ! $ nothing ! $ fjoin ! $
    let Seen : Type 0 = slice_get xs i ≡ Some x in use0 𝓛 (raw (fact 𝓤 Seen)) (fact_i 𝓤 Seen (emp 𝓤) there.1) $
    -- [the fact; nothing of the parameters; the tokens; the reference; ..]
    returns ! (look_at ! 0 refl) $ free_all ! refl $ keep ! (2 ∷ 1 ∷ 3 ∷ 0 ∷ []) $ by ! (leaves 𝓛 En stays c y (vptr b at) (record { ref_ptr = (b, at); now = x }) (tt, (tt, tt)) (tt, (tt, tt)))))))))
