-- `exchange`: the value at a place is read, and another one is written in its place.
use Rattle.pc_arena.proofs.{Steps.{◌≡◌, refl, sym, subst, ◌∙◌, ℕ, ◌+◌, ◌*◌, ◌<◌, arith, List, [], ◌∷◌, ◌++◌, length, set, length-set, T as Holds, has_ty, full_share, Fml, Lft, Share, ftrue, fsep, fat, flft, SProp, ent, emp, id⊢, w64, a_type, dcons, dnil, Val, vint, vptr, WT, inst_fn, WpFn, ‵, raw, ◌⊛◌, some, given, at_ret, ◌$◌, ◌∵◌, !, qed, by, move, keep, use0, use1, use2, split, join, fsplit, fsplit3, fjoin, fjoin3, feq_i, pick, learn, rewrite, suffices, look_in, sub, whole, enter, stop, fld, load, size_lit, of_opd, bin, first, blocks, exec, store, look, assigns_last, returns, alloc_all, pass_all, free_all, look_at, get, through, sets, sets_last, env, fact, fact_i, tables, usize, yes, no, row, param, layout, bounded, param_laws, RattleType, owns, types_at, plain, nothing, heard, Stays, stay_dropped, stay_ref, walk_of, Goes-dropped, Goes-ref, type_size, Some, slice_get, proved_at, leaves, el_in, el_out, after}, Fills.{within_word, found, elements, Behind, Lies, Others, one_out, one_in}, Opened.{one_value, Owner, filled, opens_row, shuts_row}, row.Row.exchange.Statement.statement}
use Rattle.pc_arena.specs.{Ownership.row_size, contracts.row.Row.exchange.{ended, clauses}, contracts.row.Row.exchange.Key.name}
use Rattle.pc_arena.proofs.row.Row.exchange.Code as code

pub exchange_spec : {M : Type 1} → statement M
exchange_spec 𝓤 𝓛 𝓜 𝓡 wired T Z L LZ g methods drops met dropped =
    let H = 𝓛.H in
    let 𝓣 = tables 𝓤 H 𝓜 𝓡 𝓡.env in
    let R : RattleType = param 0 T in
    let Self : RattleType = Owner T Z g in
    let En = ended T Z g methods drops in
    let c = clauses T Z g methods drops 𝓛 𝓜.mem 𝓡.returns in
    let types = bounded (a_type ∷ a_type ∷ []) (T, (Z, tt)) (dcons methods (dcons drops dnil)) in
    let fn = inst_fn types code.function in
    let stays : Stays En.signature.params En.kept = (stay_ref (0 ∷ []) tt (plain (λ _. Self)), (stay_dropped (plain (λ _. usize)) yes, (stay_dropped (plain (λ _. R)) no, tt))) in
    proved_at 𝓛 En stays c 𝓜 𝓡 (Goes-ref 𝓛 3 0 tt (plain (λ _. Self)), (Goes-dropped 𝓛 3 (plain (λ _. usize)) yes (λ κs x f. refl), (Goes-dropped 𝓛 3 (plain (λ _. R)) no (λ κs x f. refl), tt)))
    (name types) fn (code.unfolded 𝓤 H 𝓜 𝓡 wired (T, (Z, tt)) methods drops) (λ y are.
    let κs = y.0.0 in let qs = y.0.1 in let a = y.0.3 in let vss = y.0.4 in
    let κ : Lft = κs.0 in let q : Share = qs.0 in let others : Fml = fsep (flft κs.1.0 qs.1.0) (fsep (flft κs.1.1.0 qs.1.1.0) ftrue) in
    let rb = a.0.ref_ptr.0 in let ro = a.0.ref_ptr.1 in let γ = a.0.ghost_name in let d : Self.Denot = a.0.now in
    let xs : List T.Denot = d.values in let i : ℕ = a.1.0 in let x : T.Denot = a.1.1.0 in let s = type_size R in
    let one = one_value (layout T) vss.1.1.0 (((param_laws 0 T L).lawful 𝓛).typed x vss.1.1.0 are.1.1.0) in let v : Val = one.0 in let good = one.2 in
    let us : List Val = vptr rb ro ∷ vint w64 i ∷ v ∷ [] in
    let Post : Val → SProp 𝓤 = (walk_of 𝓛 En stays c).post y in let Run : List Val → SProp 𝓤 = λ ws. WpFn 𝓤 H 𝓣.C 𝓣.Λ fn ws Post in
    let Asked : Type 0 = i < length xs in
    qed 𝓛 (((‵ (flft κ q) ⊛ ‵ others) ⊛ ‵ (owns (types_at En.signature.params κs) a vss)) ∷ raw (fact 𝓤 _) ∷ raw (fact 𝓤 _) ∷ raw (fact 𝓤 Asked) ∷ []) ∵
    keep ! (3 ∷ 0 ∷ []) $ heard ! Asked (λ asked. split ! $ split ! $ move ! (2 ∷ []) $ fsplit3 ! $ fsplit3 ! $ move ! (4 ∷ []) $ fsplit ! $ keep ! (3 ∷ 4 ∷ 6 ∷ 0 ∷ 7 ∷ []) $
    -- [the reference, in two entries; its token; what the new value owns; the other tokens]
    let counted = d.counted.0 in let most = d.counted.1 in let low : i < row_size = omega arith in let there = found xs i asked in let old : T.Denot = there.0 in
    rewrite ! 3 (λ (ws : List Val). ‵ (R.own_val x ws)) one.1 refl $
    suffices ! (Run us) (subst (λ (ws : List Val). ent 𝓤 (Run us) (Run ws)) (sym (λ j. are.0.0 j ++ (are.1.0.0 j ++ (one.1 j ++ [])))) (id⊢ 𝓤 (Run us))) $
    enter ! 𝓣.C 𝓣.Λ fn us Post $ alloc_all ! (λ l. pass_all ! refl ((tt, tt), ((tt, record { fits = are.1.0.1 }), (good, tt))) $ let Ev = env fn.locals l in
    opens_row T Z g ! tt κ q γ rb ro d (λ b o short. let fits = within_word i s low short in let at = i * s + o in
    use1 𝓛 (‵ (Lies T L 𝓛 b o old i) ⊛ ‵ (Others T L 𝓛 b o xs i)) (one_out T L 𝓛 b o xs i old asked there.2) $ split ! $
    use1 𝓛 (some (λ (w : Val). given (Holds (has_ty (layout T) w) × WT w) (‵ (fat full_share (layout T) b at w) ⊛ ‵ (T.own_val old (w ∷ []))))) (el_out (elements T L 𝓛 b o) 𝓛 full_share old b at) $ pick ! (λ w. learn ! (λ fine. split ! $
    -- [the place; what its value owns; the other values; what is unwritten; the block's token; the owner's cell; ..]
    first ! $ blocks ! $
    sets ! (of_opd ! (load ! (through ! refl (fld ! refl (stop !))) (look_in ! 5 (sub ! 0 refl (whole !))))) refl (tt, tt) $
    sets ! (bin ! (get ! refl) (size_lit ! (record { fits = fits.1 })) (record { fits = fits.0 })) refl (tt, record { fits = fits.0 }) $
    sets_last ! (bin ! (get ! refl) (get ! refl) tt) refl (tt, tt) $ exec ! 𝓣.C 𝓣.Λ Ev (after 1 fn.body) (at_ret Ev Post) $
    sets ! (of_opd ! (get ! refl)) refl (tt, tt) $ first ! $ blocks ! $
    sets_last ! (of_opd ! (load ! (through ! refl (stop !)) (look ! 0 refl))) refl fine $ exec ! 𝓣.C 𝓣.Λ Ev (after 3 fn.body) (at_ret Ev Post) $
    sets ! (of_opd ! (get ! refl)) refl fine $ first ! $ blocks ! $ sets ! (of_opd ! (get ! refl)) refl good $
    assigns_last ! (of_opd ! (get ! refl)) (through ! refl (stop !)) (store ! 0 refl good) $ exec ! 𝓣.C 𝓣.Λ Ev (after 5 fn.body) (at_ret Ev Post) $
    sets ! (of_opd ! (get ! refl)) refl fine $
    move ! (0 ∷ 9 ∷ []) $ use2 𝓛 (‵ (Lies T L 𝓛 b o x i)) (el_in (elements T L 𝓛 b o) 𝓛 full_share x b at v) $
    move ! (0 ∷ 2 ∷ []) $ use2 𝓛 (‵ (row R full_share (set xs i x) b o)) (one_in T L 𝓛 b o xs i x asked) $ move ! (2 ∷ []) $
    let as_long = length-set xs i x in
    rewrite ! 0 (λ (k : ℕ). ‵ (Behind T L 𝓛 b o k)) (sym as_long) refl $ move ! (1 ∷ 0 ∷ 3 ∷ 4 ∷ 5 ∷ 6 ∷ 7 ∷ []) $
    shuts_row T Z g ! tt κ q γ rb ro d b o d.count (set xs i x) (counted ∙ sym as_long, most) short $
    -- [the reference, in two entries; its token; what the old value owns; the other tokens]
    feq_i ! (List Val) vss.0 (vptr rb ro ∷ []) are.0.0 $ fjoin3 ! $ nothing ! $ nothing ! $ fjoin ! $ nothing ! $ fjoin ! $ move ! (1 ∷ 0 ∷ []) $ fjoin ! $ move ! (1 ∷ 3 ∷ []) $ join ! $
    let new : Self.Denot = filled T Z g d b o d.count (set xs i x) (counted ∙ sym as_long, most) in
    let Before : Type 0 = slice_get xs i ≡ Some old in let After : Type 0 = (new.values ≡ set xs i x) × (new.from ≡ d.from) in
    use0 𝓛 (raw (fact 𝓤 After)) (fact_i 𝓤 After (emp 𝓤) (refl, refl)) $ use0 𝓛 (raw (fact 𝓤 Before)) (fact_i 𝓤 Before (emp 𝓤) there.1) $ join ! $
    returns ! (look_at ! 0 refl) $ free_all ! refl $ keep ! (1 ∷ 2 ∷ 3 ∷ 0 ∷ []) $ by ! (leaves 𝓛 En stays c y w old (new, (tt, (tt, tt))) (tt, (tt, (tt, tt))))))))))
