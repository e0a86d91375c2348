-- `push`: the first of the unwritten places takes the value.
use Rattle.pc_arena.proofs.{Steps.{◌≡◌, refl, sym, ap, subst, ◌∙◌, ℕ, ◌+◌, ◌*◌, ◌<◌, ◌≤◌, ◌^◌, arith, List, [], ◌∷◌, ◌++◌, length, length-append, full_share, Fml, Lft, Share, ftrue, fsep, froom, flft, SProp, ent, emp, id⊢, a_type, dcons, dnil, Val, vptr, vunit, inst_fn, WpFn, ‵, raw, ◌⊛◌, at_ret, ◌$◌, ◌∵◌, !, qed, by, move, keep, use0, use1, use2, split, join, fsplit3, fjoin, fjoin3, feq_i, rewrite, suffices, look_in, store_in, sub, whole, enter, stop, fld, load, lit, unit_lit, size_lit, of_opd, bin, first, blocks, exec, init, assigns, assigns_last, returns, alloc_all, pass_all, free_all, look_at, get, through, sets, env, fact, fact_i, tables, no, row, lone, part_at, param, layout, bounded, param_laws, RattleType, owns, types_at, plain, nothing, heard, Stays, stay_dropped, stay_ref, walk_of, Goes-dropped, Goes-ref, type_size, proved_at, leaves, el_in, after}, Fills.{within_word, elements, Behind, Lies, place_out, last_in}, Opened.{one_value, Owner, filled, opens_row, shuts_row}, row.Row.push.Statement.statement}
use Rattle.pc_arena.specs.{Ownership.row_size, contracts.row.Row.push.{ended, clauses}, contracts.row.Row.push.Key.name}
use Rattle.pc_arena.proofs.row.Row.push.Code as code

pub push_spec : {M : Type 1} → statement M
push_spec 𝓤 𝓛 𝓜 𝓡 wired T Z L LZ g methods drops met dropped =
    let H = 𝓛.H in
    let 𝓣 = tables 𝓤 H 𝓜 𝓡 𝓡.env in
    let R : RattleType = param 0 T in
    let Self : RattleType = Owner T Z g in
    let En = ended T Z g methods drops in
    let c = clauses T Z g methods drops 𝓛 𝓜.mem 𝓡.returns in
    let types = bounded (a_type ∷ a_type ∷ []) (T, (Z, tt)) (dcons methods (dcons drops dnil)) in
    let fn = inst_fn types code.function in
    let stays : Stays En.signature.params En.kept = (stay_ref (0 ∷ []) tt (plain (λ _. Self)), (stay_dropped (plain (λ _. R)) no, tt)) in
    proved_at 𝓛 En stays c 𝓜 𝓡 (Goes-ref 𝓛 3 0 tt (plain (λ _. Self)), (Goes-dropped 𝓛 3 (plain (λ _. R)) no (λ κs x f. refl), tt))
    (name types) fn (code.unfolded 𝓤 H 𝓜 𝓡 wired (T, (Z, tt)) methods drops) (λ y are.
    let κs = y.0.0 in let qs = y.0.1 in let a = y.0.3 in let vss = y.0.4 in
    let κ : Lft = κs.0 in let q : Share = qs.0 in let others : Fml = fsep (flft κs.1.0 qs.1.0) (fsep (flft κs.1.1.0 qs.1.1.0) ftrue) in
    let rb = a.0.ref_ptr.0 in let ro = a.0.ref_ptr.1 in let γ = a.0.ghost_name in let d : Self.Denot = a.0.now in
    let xs : List T.Denot = d.values in let n : ℕ = d.count in let x : T.Denot = a.1.0 in let s = type_size R in
    let one = one_value (layout T) vss.1.0 (((param_laws 0 T L).lawful 𝓛).typed x vss.1.0 are.1.0) in let v : Val = one.0 in let good = one.2 in
    let us : List Val = vptr rb ro ∷ v ∷ [] in
    let Post : Val → SProp 𝓤 = (walk_of 𝓛 En stays c).post y in let Run : List Val → SProp 𝓤 = λ ws. WpFn 𝓤 H 𝓣.C 𝓣.Λ fn ws Post in
    let Asked : Type 0 = length xs < row_size in
    qed 𝓛 (((‵ (flft κ q) ⊛ ‵ others) ⊛ ‵ (owns (types_at En.signature.params κs) a vss)) ∷ raw (fact 𝓤 _) ∷ raw (fact 𝓤 _) ∷ raw (fact 𝓤 Asked) ∷ []) ∵
    keep ! (3 ∷ 0 ∷ []) $ heard ! Asked (λ asked. split ! $ split ! $ move ! (2 ∷ []) $ fsplit3 ! $ fsplit3 ! $ keep ! (1 ∷ 2 ∷ 5 ∷ 3 ∷ 6 ∷ []) $
    -- [the reference, in two entries; its token; what the value owns; the other tokens]
    let counted = d.counted.0 in let low : n < row_size = omega arith in let fn₀ : n < 2 ^ 64 = omega arith in let fn₁ : n + 1 < 2 ^ 64 = omega arith in let next : n + 1 ≤ row_size = omega arith in
    rewrite ! 3 (λ (ws : List Val). ‵ (R.own_val x ws)) one.1 refl $
    suffices ! (Run us) (subst (λ (ws : List Val). ent 𝓤 (Run us) (Run ws)) (sym (λ j. are.0.0 j ++ (one.1 j ++ []))) (id⊢ 𝓤 (Run us))) $
    enter ! 𝓣.C 𝓣.Λ fn us Post $ alloc_all ! (λ l. pass_all ! refl ((tt, tt), (good, tt)) $ let Ev = env fn.locals l in
    opens_row T Z g ! tt κ q γ rb ro d (λ b o short. let fits = within_word n s low short in let at = n * s + o in
    move ! (1 ∷ []) $ rewrite ! 0 (λ (k : ℕ). ‵ (Behind T L 𝓛 b o k)) (sym counted) refl $
    use1 𝓛 (‵ (froom (lone R.mir) b at) ⊛ ‵ (Behind T L 𝓛 b o (n + 1))) (place_out T L 𝓛 b o n low) $ split ! $
    -- [the place; what is after it; the values; the block's token; the owner's cell; ..]
    first ! $ blocks ! $
    sets ! (of_opd ! (load ! (through ! refl (fld ! refl (stop !))) (look_in ! 4 (sub ! 0 refl (whole !))))) refl (tt, tt) $
    sets ! (of_opd ! (load ! (through ! refl (fld ! refl (stop !))) (look_in ! 4 (sub ! 1 refl (whole !))))) refl (tt, record { fits = fn₀ }) $
    sets ! (bin ! (get ! refl) (size_lit ! (record { fits = fits.1 })) (record { fits = fits.0 })) refl (tt, record { fits = fits.0 }) $
    sets ! (bin ! (get ! refl) (get ! refl) tt) refl (tt, tt) $
    sets ! (of_opd ! (get ! refl)) refl good $
    assigns_last ! (of_opd ! (get ! refl)) (through ! refl (stop !)) (init ! 0 refl good) $ exec ! 𝓣.C 𝓣.Λ Ev (after 1 fn.body) (at_ret Ev Post) $
    sets ! (of_opd ! (load ! (through ! refl (fld ! refl (stop !))) (look_in ! 4 (sub ! 1 refl (whole !))))) refl (tt, record { fits = fn₀ }) $
    sets ! (bin ! (get ! refl) (lit ! tt) (record { fits = fn₁ })) refl (tt, record { fits = fn₁ }) $
    assigns ! (of_opd ! (get ! refl)) (through ! refl (fld ! refl (stop !))) (store_in ! 4 (sub ! 1 refl (whole !)) (tt, record { fits = fn₁ })) $
    sets ! (of_opd ! (unit_lit !)) refl (tt, tt) $
    move ! (0 ∷ 8 ∷ []) $ use2 𝓛 (‵ (part_at R full_share x b at)) (el_in (elements T L 𝓛 b o) 𝓛 full_share x b at v) $
    rewrite ! 0 (λ (k : ℕ). ‵ (Lies T L 𝓛 b o x k)) counted refl $ move ! (2 ∷ 0 ∷ []) $
    use2 𝓛 (‵ (row R full_share (xs ++ x ∷ []) b o)) (last_in T L 𝓛 b o xs x) $ move ! (1 ∷ []) $
    let longer : n + 1 ≡ length (xs ++ x ∷ []) = ap (λ k. k + 1) counted ∙ sym (length-append xs (x ∷ [])) in
    rewrite ! 0 (λ (k : ℕ). ‵ (Behind T L 𝓛 b o k)) longer refl $ move ! (1 ∷ 0 ∷ []) $
    shuts_row T Z g ! tt κ q γ rb ro d b o (n + 1) (xs ++ x ∷ []) (longer, next) short $
    -- [the reference, in two entries; its token; the other tokens]
    feq_i ! (List Val) vss.0 (vptr rb ro ∷ []) are.0.0 $ fjoin3 ! $ nothing ! $ nothing ! $ fjoin ! $ move ! (1 ∷ 0 ∷ []) $ fjoin ! $ move ! (1 ∷ 2 ∷ []) $ join ! $
    feq_i ! (List Val) (vunit ∷ []) (vunit ∷ []) refl $
    let new : Self.Denot = filled T Z g d b o (n + 1) (xs ++ x ∷ []) (longer, next) in let Said : Type 0 = (new.values ≡ xs ++ x ∷ []) × (new.from ≡ d.from) in
    use0 𝓛 (raw (fact 𝓤 Said)) (fact_i 𝓤 Said (emp 𝓤) (refl, refl)) $
    returns ! (look_at ! 0 refl) $ free_all ! refl $ keep ! (2 ∷ 3 ∷ 1 ∷ 0 ∷ []) $ by ! (leaves 𝓛 En stays c y vunit tt (new, (tt, tt)) (tt, (tt, tt)))))))
