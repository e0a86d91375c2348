-- `free`: a row without values is taken apart, and its block is given back.
use Rattle.pc_arena.proofs.{Steps.{◌≡◌, refl, ◌<◌, ◌^◌, arith, List, [], ◌∷◌, Fml, Lft, Share, ftrue, fsep, flft, SProp, named, a_type, dcons, dnil, Val, vptr, vunit, inst_fn, WpFn, prop, ‵, raw, ◌⊛◌, at_ret, ◌$◌, ◌∵◌, !, qed, by, move, keep, regoal, split, join, fsplit, fjoin, feq_i, whole, sub, enter, stop, fld, lit, unit_lit, size_lit, align_word, of_opd, bin, no_more, and_then, first, blocks, exec, returns, alloc_all, pass_all, free_all, look_at, get, get_in, sets, lands_last, env, fact, tables, RefOf, yes, no, param, bounded, RattleType, owns, Ptr, block_ptr, shr_vals, shr_Tells, types_at, plain, nothing, heard, Stays, stay_dropped, walk_of, Goes-dropped, Goes-blank, type_size, proved, leaves, after, ◌⊑◌, Incl-trans}, Fills.row_within_word, Opened.{Owner, row_val, tells}, Blocks.emptied, Handles.gives_row, row.Row.free.Statement.statement}
use Rattle.pc_arena.specs.{contracts.row.Row.free.{ended, clauses}, contracts.row.Row.free.Key.name}
use Rattle.pc_arena.proofs.row.Row.free.Code as code

pub free_spec : {M : Type 1} → statement M
free_spec 𝓤 𝓛 𝓜 𝓡 wired T Z L LZ g methods drops met dropped =
    let H = 𝓛.H in
    let 𝓣 = tables 𝓤 H 𝓜 𝓡 𝓡.env in
    let Self : RattleType = Owner T Z g in
    let En = ended T Z g methods drops in
    let c = clauses T Z g methods drops 𝓛 𝓜.mem 𝓡.returns in
    let types = bounded (a_type ∷ a_type ∷ []) (T, (Z, tt)) (dcons methods (dcons drops dnil)) in
    let fn = inst_fn types code.function in
    let lent = RefOf (0 ∷ []) tt (plain (λ _. param 1 Z)) (λ _. tt) in
    let stays : Stays En.signature.params En.kept = (stay_dropped (plain (λ _. Self)) no, (stay_dropped lent yes, tt)) in
    proved 𝓛 En stays c 𝓜 𝓡 (Goes-blank 𝓛 3 (plain (λ _. Self)) no (λ κs x f. tt), (Goes-dropped 𝓛 3 lent yes (λ κs x f. refl), tt))
    (name types) fn (code.unfolded 𝓤 H 𝓜 𝓡 wired (T, (Z, tt)) methods drops)
    (λ κs. ((λ d. row_val d.first d.count ∷ []), (shr_vals, tt))) (λ κs. (tells T Z g, (shr_Tells (named 0) κs.0 (param 1 Z), tt))) (λ κs qs bounds a none are.
    let κ : Lft = κs.0 in let q : Share = qs.0 in let others : Fml = fsep (flft κs.1.0 qs.1.0) (fsep (flft κs.1.1.0 qs.1.1.0) ftrue) in
    let d : Self.Denot = a.0 in let p = a.1.0.ref_ptr in let z : Z.Denot = a.1.0.now in let ref : List Val = vptr p.0 p.1 ∷ [] in
    let y : (walk_of 𝓛 En stays c).Ghost = ((κs, qs, bounds, a, (row_val d.first d.count ∷ [], (ref, tt))), none) in let Post : Val → SProp 𝓤 = (walk_of 𝓛 En stays c).post y in
    let Lives : Type 0 = κs.1.1.0 ⊑ Z.lives in let Asked : Type 0 = (d.values ≡ []) × (d.from ≡ z) in
    qed 𝓛 (((‵ (flft κ q) ⊛ ‵ others) ⊛ ‵ (owns (types_at En.signature.params κs) a y.0.4)) ∷ raw (fact 𝓤 _) ∷ raw (fact 𝓤 Lives) ∷ raw (fact 𝓤 Asked) ∷ []) ∵
    keep ! (2 ∷ 3 ∷ 0 ∷ []) $ heard ! Lives (λ lives. heard ! Asked (λ asked. split ! $ split ! $ move ! (2 ∷ []) $ fsplit ! $ fsplit ! $ move ! (2 ∷ []) $ fsplit ! $ fsplit ! $ keep ! (4 ∷ 1 ∷ 5 ∷ 6 ∷ []) $
    -- [what the row owns; the allocator, lent; the token of its lifetime; the other tokens]
    emptied T Z g ! d z asked (λ b o at short. let most = d.counted.1 in let counted : d.count < 2 ^ 64 = omega arith in
    let within = row_within_word (type_size (param 0 T)) short in
    regoal ! (λ (u : Ptr). prop (WpFn 𝓤 H 𝓣.C 𝓣.Λ fn (row_val u d.count ∷ ref) Post)) at refl $
    -- [room for 256 values; the right to give it back; the allocator, lent; the token of its lifetime; the other tokens]
    enter ! 𝓣.C 𝓣.Λ fn (row_val (block_ptr b o) d.count ∷ ref) Post $ alloc_all ! (λ l. pass_all ! refl ((tt, (tt, (record { fits = counted }, (tt, tt)))), ((tt, tt), tt)) $ let Ev = env fn.locals l in
    sets ! (of_opd ! (get_in ! (fld ! refl (stop !)) (sub ! 0 refl (whole !)))) refl (tt, tt) $ first ! $ blocks ! $
    sets ! (of_opd ! (get ! refl)) refl (tt, tt) $ sets ! (bin ! (lit ! tt) (size_lit ! (record { fits = within.1 })) (record { fits = within.0 })) refl (tt, record { fits = within.0 }) $
    gives_row T Z LZ g methods drops 𝓛 𝓜 𝓡 met κ q p z (Incl-trans bounds.0 lives) short ! b o (and_then ! (get ! refl) (and_then ! (get ! refl) (and_then ! (get ! refl) (and_then ! (align_word !) (no_more !))))) $
    lands_last ! refl (tt, tt) $ exec ! 𝓣.C 𝓣.Λ Ev (after 2 fn.body) (at_ret Ev Post) $ sets ! (of_opd ! (unit_lit !)) refl (tt, tt) $ returns ! (look_at ! 0 refl) $ free_all ! refl $
    -- [the token of the allocator's lifetime; the other tokens]
    join ! $ nothing ! $ nothing ! $ fjoin ! $ nothing ! $ fjoin ! $ feq_i ! (List Val) (vunit ∷ []) (vunit ∷ []) refl $ nothing ! $
    keep ! (3 ∷ 2 ∷ 1 ∷ 0 ∷ []) $ by ! (leaves 𝓛 En stays c y vunit tt (tt, (tt, tt)) (tt, (tt, tt))))))))
