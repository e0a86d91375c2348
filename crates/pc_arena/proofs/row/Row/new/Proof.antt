-- `new`: the block that the allocator hands over is a row without values.
use Rattle.pc_arena.proofs.{Steps.{◌≡◌, refl, arith, [], ◌∷◌, Fml, Lft, Share, ftrue, fsep, flft, SProp, emp, named, a_type, dcons, dnil, Val, vptr, vstruct, vnil, inst_fn, Sq, prop, ‵, raw, ◌⊛◌, at_ret, ◌$◌, ◌∵◌, !, qed, by, move, keep, use0, use1, split, join, fsplit, fjoin, whole, enter, stop, fld, vrt, in_variant, agg, lit, size_lit, align_word, of_opd, bin, no_more, and_then, first, exec, returns, alloc_all, pass_all, free_all, look_at, get, get_in, get_tag, sets, sets_last, lands_as, env, fact, fact_i, tables, RefOf, yes, param, bounded, RattleType, owns, block_ptr, shr_vals, shr_Tells, types_at, plain, nothing, heard, Stays, stay_dropped, walk_of, Goes-dropped, type_size, Ok, Err, IfOk, proved, leaves, after, ◌⊑◌, Incl-trans}, Fills.row_within_word, Opened.row_val, Blocks.{Answer, empty, empty_fits, answers_row, answers_error}, Handles.asks_row, Results.{variant, variant_fits, goes_ok, goes_err}, row.Row.new.Statement.statement}
use Rattle.std.specs.Vec.Ownership.{FitsInBlock}
use Rattle.pc_arena.specs.{Ownership.row_size, contracts.row.Row.new.{ended, clauses}, contracts.row.Row.new.Key.name}
use Rattle.pc_arena.proofs.row.Row.new.Code as code

pub new_spec : {M : Type 1} → statement M
new_spec 𝓤 𝓛 𝓜 𝓡 wired T Z L LZ g methods drops met dropped =
    let H = 𝓛.H in
    let 𝓣 = tables 𝓤 H 𝓜 𝓡 𝓡.env in
    let Result : RattleType = Answer T Z g in
    let En = ended T Z g methods drops in
    let c = clauses T Z g methods drops 𝓛 𝓜.mem 𝓡.returns in
    let types = bounded (a_type ∷ a_type ∷ []) (T, (Z, tt)) (dcons methods (dcons drops dnil)) in
    let fn = inst_fn types code.function in
    let lent = RefOf (0 ∷ []) tt (plain (λ _. param 1 Z)) (λ _. tt) in
    let stays : Stays En.signature.params En.kept = (stay_dropped lent yes, tt) in
    proved 𝓛 En stays c 𝓜 𝓡 (Goes-dropped 𝓛 3 lent yes (λ κs x f. refl), tt)
    (name types) fn (code.unfolded 𝓤 H 𝓜 𝓡 wired (T, (Z, tt)) methods drops)
    (λ κs. (shr_vals, tt)) (λ κs. (shr_Tells (named 0) κs.0 (param 1 Z), tt)) (λ κs qs bounds a none are.
    let κ : Lft = κs.0 in let q : Share = qs.0 in let others : Fml = fsep (flft κs.1.0 qs.1.0) (fsep (flft κs.1.1.0 qs.1.1.0) ftrue) in
    let p = a.0.ref_ptr in let z : Z.Denot = a.0.now in
    let y : (walk_of 𝓛 En stays c).Ghost = ((κs, qs, bounds, a, (vptr p.0 p.1 ∷ [], tt)), none) in let Post : Val → SProp 𝓤 = (walk_of 𝓛 En stays c).post y in
    let Lives : Type 0 = κs.1.1.0 ⊑ Z.lives in let Asked : Type 0 = FitsInBlock (param 0 T) row_size in
    let Said : Result.Denot → Type 0 = λ r. IfOk r (λ row. (row.values ≡ []) × (row.from ≡ z)) in
    let ends : (r : Result.Denot) (v : Val) → Said r → Sq 𝓛 (‵ (Result.own_val r (v ∷ [])) ∷ ‵ (flft κ q) ∷ ‵ others ∷ []) (prop (Post v)) = λ r v said.
    move ! (1 ∷ 2 ∷ []) $ join ! $ nothing ! $ nothing ! $ fjoin ! $ use0 𝓛 (raw (fact 𝓤 (Said r))) (fact_i 𝓤 (Said r) (emp 𝓤) said) $
    keep ! (2 ∷ 1 ∷ 3 ∷ 0 ∷ []) $ by ! (leaves 𝓛 En stays c y v r (tt, tt) (tt, tt)) in
    qed 𝓛 (((‵ (flft κ q) ⊛ ‵ others) ⊛ ‵ (owns (types_at En.signature.params κs) a y.0.4)) ∷ raw (fact 𝓤 _) ∷ raw (fact 𝓤 Lives) ∷ raw (fact 𝓤 Asked) ∷ []) ∵
    keep ! (2 ∷ 3 ∷ 0 ∷ []) $ heard ! Lives (λ lives. heard ! Asked (λ asked. split ! $ split ! $ move ! (2 ∷ []) $ fsplit ! $ fsplit ! $ keep ! (1 ∷ 3 ∷ 4 ∷ []) $
    -- [the allocator, lent; the token of its lifetime; the other tokens]
    let short = asked.0 in let within = row_within_word (type_size (param 0 T)) short in
    enter ! 𝓣.C 𝓣.Λ fn (vptr p.0 p.1 ∷ []) Post $ alloc_all ! (λ l. pass_all ! refl ((tt, tt), tt) $ let Ev = env fn.locals l in
    sets ! (bin ! (lit ! tt) (size_lit ! (record { fits = within.1 })) (record { fits = within.0 })) refl (tt, record { fits = within.0 }) $
    asks_row T Z LZ g methods drops 𝓛 𝓜 𝓡 met κ q p z (Incl-trans bounds.0 lives) short ! (and_then ! (get ! refl) (and_then ! (get ! refl) (and_then ! (align_word !) (no_more !))))
    -- [a row without values; the token; the other tokens]
    (λ b o. let val = row_val (block_ptr b o) 0 in let fits = empty_fits T Z g b o in let answered = variant_fits 0 val (omega arith) fits in
    lands_as ! refl refl (tt, variant_fits 0 (vptr b o) (omega arith) tt) $ first ! $ goes_ok ! (get_tag ! (vrt ! refl (fld ! refl (stop !))) (whole !)) $
    sets ! (of_opd ! (get_in ! (vrt ! refl (fld ! refl (stop !))) (in_variant ! 0 0 refl refl (whole !)))) refl (tt, tt) $ sets ! (of_opd ! (get ! refl)) refl (tt, tt) $
    sets ! (agg ! (no_more !)) refl (tt, tt) $ sets ! (agg ! (and_then ! (get ! refl) (and_then ! (lit ! tt) (and_then ! (get ! refl) (no_more !))))) refl (tt, fits) $
    sets_last ! (agg ! (and_then ! (lit ! tt) (and_then ! (get ! refl) (no_more !)))) refl (tt, answered) $
    exec ! 𝓣.C 𝓣.Λ Ev (after 3 fn.body) (at_ret Ev Post) $ sets ! (of_opd ! (get ! refl)) refl (tt, answered) $ returns ! (look_at ! 0 refl) $ free_all ! refl $
    use1 𝓛 (‵ (Result.own_val (Ok (empty T Z g z b o)) (variant 0 val ∷ []))) (answers_row T Z g 𝓛 z b o) $ ends (Ok (empty T Z g z b o)) (variant 0 val) (refl, refl))
    -- [the token; the other tokens]
    (let answered = variant_fits 1 (vstruct vnil) (omega arith) tt in
    lands_as ! refl refl (tt, answered) $ first ! $ goes_err ! (get_tag ! (vrt ! refl (fld ! refl (stop !))) (whole !)) $
    sets ! (of_opd ! (get_in ! (vrt ! refl (fld ! refl (stop !))) (in_variant ! 1 0 refl refl (whole !)))) refl (tt, tt) $
    sets_last ! (agg ! (and_then ! (lit ! tt) (and_then ! (get ! refl) (no_more !)))) refl (tt, answered) $
    exec ! 𝓣.C 𝓣.Λ Ev (after 3 fn.body) (at_ret Ev Post) $ sets ! (of_opd ! (get ! refl)) refl (tt, answered) $ returns ! (look_at ! 0 refl) $ free_all ! refl $
    use0 𝓛 (‵ (Result.own_val (Err (record {})) (variant 1 (vstruct vnil) ∷ []))) (answers_error T Z g 𝓛) $ ends (Err (record {})) (variant 1 (vstruct vnil)) tt)))))
