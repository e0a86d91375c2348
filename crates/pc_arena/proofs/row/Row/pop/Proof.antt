-- `pop`: the last value is read, and its place is memory again.
use Rattle.pc_arena.proofs.{Steps.{◌≡◌, refl, sym, ap, ◌∙◌, ℕ, ◌+◌, ◌-◌, ◌*◌, ◌<◌, ◌≤◌, ◌^◌, arith, List, [], ◌∷◌, ◌++◌, length, length-append, T as Holds, has_ty, full_share, Fml, Lft, Share, ftrue, fsep, fat, froom, flft, SProp, emp, named, a_type, dcons, dnil, Val, vptr, WT, inst_fn, ‵, raw, ◌⊛◌, some, given, at_ret, ◌$◌, ◌∵◌, !, qed, by, move, keep, use0, use1, use2, split, join, fsplit, fsplit3, fjoin, fjoin3, feq_i, pick, learn, rewrite, look_in, store_in, sub, whole, enter, stop, fld, load, lit, size_lit, of_opd, bin, first, blocks, exec, look, assigns, returns, alloc_all, pass_all, free_all, look_at, get, through, sets, sets_last, env, fact, fact_i, tables, row, lone, param, layout, bounded, RattleType, owns, mut_vals, mut_Tells, types_at, plain, nothing, heard, Stays, stay_ref, walk_of, Goes-ref, type_size, proved, leaves, el_out, after}, Fills.{within_word, ends, elements, Behind, Lies, place_in, last_out}, Opened.{Owner, filled, opens_row, shuts_row}, row.Row.pop.Statement.statement}
use Rattle.pc_arena.specs.{Ownership.row_size, contracts.row.Row.pop.{ended, clauses}, contracts.row.Row.pop.Key.name}
use Rattle.pc_arena.proofs.row.Row.pop.Code as code

pub pop_spec : {M : Type 1} → statement M
pop_spec 𝓤 𝓛 𝓜 𝓡 wired T Z L LZ g methods drops met dropped =
    let H = 𝓛.H in
    let 𝓣 = tables 𝓤 H 𝓜 𝓡 𝓡.env in
    let R : RattleType = param 0 T in
    let Self : RattleType = Owner T Z g in
    let En = ended T Z g methods drops in
    let c = clauses T Z g methods drops 𝓛 𝓜.mem 𝓡.returns in
    let types = bounded (a_type ∷ a_type ∷ []) (T, (Z, tt)) (dcons methods (dcons drops dnil)) in
    let fn = inst_fn types code.function in
    let stays : Stays En.signature.params En.kept = (stay_ref (0 ∷ []) tt (plain (λ _. Self)), tt) in
    proved 𝓛 En stays c 𝓜 𝓡 (Goes-ref 𝓛 3 0 tt (plain (λ _. Self)), tt)
    (name types) fn (code.unfolded 𝓤 H 𝓜 𝓡 wired (T, (Z, tt)) methods drops)
    (λ κs. (mut_vals, tt)) (λ κs. (mut_Tells (named 0) κs.0 Self, tt)) (λ κs qs bounds a none are.
    let κ : Lft = κs.0 in let q : Share = qs.0 in let others : Fml = fsep (flft κs.1.0 qs.1.0) (fsep (flft κs.1.1.0 qs.1.1.0) ftrue) in
    let rb = a.0.ref_ptr.0 in let ro = a.0.ref_ptr.1 in let γ = a.0.ghost_name in let d : Self.Denot = a.0.now in
    let xs : List T.Denot = d.values in let n : ℕ = d.count in let k : ℕ = n - 1 in let s = type_size R in
    let y : (walk_of 𝓛 En stays c).Ghost = ((κs, qs, bounds, a, (vptr rb ro ∷ [], tt)), none) in let Post : Val → SProp 𝓤 = (walk_of 𝓛 En stays c).post y in
    let Asked : Type 0 = 0 < length xs in
    qed 𝓛 (((‵ (flft κ q) ⊛ ‵ others) ⊛ ‵ (owns (types_at En.signature.params κs) a y.0.4)) ∷ raw (fact 𝓤 _) ∷ raw (fact 𝓤 _) ∷ raw (fact 𝓤 Asked) ∷ []) ∵
    keep ! (3 ∷ 0 ∷ []) $ heard ! Asked (λ asked. split ! $ split ! $ move ! (2 ∷ []) $ fsplit ! $ fsplit3 ! $ keep ! (1 ∷ 2 ∷ 4 ∷ 5 ∷ []) $
    -- [the reference, in two entries; its token; the other tokens]
    let ending = ends xs asked in let ys : List T.Denot = ending.0 in let x : T.Denot = ending.1 in
    let counted = d.counted.0 in let most = d.counted.1 in let long = ap length ending.2 ∙ length-append ys (x ∷ []) in
    let rest : k ≡ length ys = omega arith in let one : 1 ≤ n = omega arith in let low : k < row_size = omega arith in let still : k ≤ row_size = omega arith in
    let fn₀ : n < 2 ^ 64 = omega arith in let fk : k < 2 ^ 64 = omega arith in let more : length xs ≡ k + 1 = omega arith in
    enter ! 𝓣.C 𝓣.Λ fn (vptr rb ro ∷ []) Post $ alloc_all ! (λ l. pass_all ! refl ((tt, tt), tt) $ let Ev = env fn.locals l in
    opens_row T Z g ! tt κ q γ rb ro d (λ b o short. let fits = within_word k s low short in let at = k * s + o in
    rewrite ! 1 (λ (j : ℕ). ‵ (Behind T L 𝓛 b o j)) more refl $ rewrite ! 0 (λ (zs : List T.Denot). ‵ (row R full_share zs b o)) ending.2 refl $
    use1 𝓛 (‵ (row R full_share ys b o) ⊛ ‵ (Lies T L 𝓛 b o x (length ys))) (last_out T L 𝓛 b o ys x) $ split ! $ move ! (1 ∷ []) $
    rewrite ! 0 (λ (j : ℕ). ‵ (Lies T L 𝓛 b o x j)) (sym rest) refl $
    use1 𝓛 (some (λ (v : Val). given (Holds (has_ty (layout T) v) × WT v) (‵ (fat full_share (layout T) b at v) ⊛ ‵ (T.own_val x (v ∷ []))))) (el_out (elements T L 𝓛 b o) 𝓛 full_share x b at) $ pick ! (λ v. learn ! (λ fine. split ! $
    -- [the place; what its value owns; the other values; what is after the place; the block's token; the owner's cell;
    -- ..]
    sets ! (of_opd ! (load ! (through ! refl (fld ! refl (stop !))) (look_in ! 5 (sub ! 1 refl (whole !))))) refl (tt, record { fits = fn₀ }) $
    sets ! (bin ! (get ! refl) (lit ! tt) one) refl (tt, record { fits = fk }) $
    assigns ! (of_opd ! (get ! refl)) (through ! refl (fld ! refl (stop !))) (store_in ! 5 (sub ! 1 refl (whole !)) (tt, record { fits = fk })) $ first ! $ blocks ! $
    sets ! (of_opd ! (load ! (through ! refl (fld ! refl (stop !))) (look_in ! 5 (sub ! 0 refl (whole !))))) refl (tt, tt) $
    sets ! (of_opd ! (load ! (through ! refl (fld ! refl (stop !))) (look_in ! 5 (sub ! 1 refl (whole !))))) refl (tt, record { fits = fk }) $
    sets ! (bin ! (get ! refl) (size_lit ! (record { fits = fits.1 })) (record { fits = fits.0 })) refl (tt, record { fits = fits.0 }) $
    sets ! (bin ! (get ! refl) (get ! refl) tt) refl (tt, tt) $
    sets_last ! (of_opd ! (load ! (through ! refl (stop !)) (look ! 0 refl))) refl fine $ exec ! 𝓣.C 𝓣.Λ Ev (after 4 fn.body) (at_ret Ev Post) $ sets ! (of_opd ! (get ! refl)) refl fine $
    use1 𝓛 (‵ (froom (lone R.mir) b at)) (𝓛.laws.at_room (lone R.mir) b at v) $ move ! (0 ∷ 3 ∷ []) $
    use2 𝓛 (‵ (Behind T L 𝓛 b o k)) (place_in T L 𝓛 b o k low) $ rewrite ! 0 (λ (j : ℕ). ‵ (Behind T L 𝓛 b o j)) rest refl $
    move ! (2 ∷ 0 ∷ 3 ∷ 4 ∷ 5 ∷ 6 ∷ 7 ∷ []) $ shuts_row T Z g ! tt κ q γ rb ro d b o k ys (rest, still) short $
    -- [the reference, in two entries; its token; what the value owns; the other tokens]
    feq_i ! (List Val) (vptr rb ro ∷ []) (vptr rb ro ∷ []) refl $ fjoin3 ! $ nothing ! $ move ! (1 ∷ 0 ∷ []) $ fjoin ! $ move ! (1 ∷ 3 ∷ []) $ join ! $
    let new : Self.Denot = filled T Z g d b o k ys (rest, still) in let Said : Type 0 = (xs ≡ new.values ++ x ∷ []) × (new.from ≡ d.from) in
    use0 𝓛 (raw (fact 𝓤 Said)) (fact_i 𝓤 Said (emp 𝓤) (ending.2, refl)) $
    returns ! (look_at ! 0 refl) $ free_all ! refl $ keep ! (1 ∷ 2 ∷ 3 ∷ 0 ∷ []) $ by ! (leaves 𝓛 En stays c y v x (new, tt) (tt, tt))))))))
