-- `len`: the count is read through the `&`.
use Rattle.pc_arena.proofs.{Steps.{◌≡◌, refl, ℕ, ◌+◌, ◌^◌, List, [], ◌∷◌, length, Fml, Lft, Share, ftrue, fsep, flft, SProp, emp, named, w64, a_type, dcons, dnil, Val, vint, vptr, inst_fn, ‵, raw, ◌⊛◌, ◌$◌, ◌∵◌, !, qed, by, move, keep, drop, use0, split, join, fsplit, fjoin, feq_i, flt_i, done, enter, stop, fld, load, of_opd, look, returns, alloc_all, pass_all, free_all, look_at, through, sets, fact, fact_i, tables, RefOf, usize, yes, hidden_shr, hide, unhide, shr_dup, param, bounded, RattleType, owns, shr_vals, shr_Tells, types_at, plain, nothing, Stays, stay_dropped, walk_of, Goes-dropped, proved, leaves}, Opened.Owner, row.Row.len.Statement.statement}
use Rattle.std.proofs.Words.{word_in, word_out}
use denote.Plain.{uint_row_laws}
use Rattle.pc_arena.specs.{contracts.row.Row.len.{ended, clauses}, contracts.row.Row.len.Key.name}
use Rattle.pc_arena.proofs.row.Row.len.Code as code

pub len_spec : {M : Type 1} → statement M
len_spec 𝓤 𝓛 𝓜 𝓡 wired T Z L LZ g methods drops met dropped =
    let H = 𝓛.H in
    let 𝓣 = tables 𝓤 H 𝓜 𝓡 𝓡.env in
    let R : RattleType = param 0 T in
    let Self : RattleType = Owner T Z g in
    let En = ended T Z g methods drops in
    let c = clauses T Z g methods drops 𝓛 𝓜.mem 𝓡.returns in
    let types = bounded (a_type ∷ a_type ∷ []) (T, (Z, tt)) (dcons methods (dcons drops dnil)) in
    let fn = inst_fn types code.function in
    let lent = RefOf (0 ∷ []) tt (plain (λ _. Self)) (λ _. tt) in
    let stays : Stays En.signature.params En.kept = (stay_dropped lent yes, tt) in
    proved 𝓛 En stays c 𝓜 𝓡 (Goes-dropped 𝓛 3 lent yes (λ κs x f. refl), tt)
    (name types) fn (code.unfolded 𝓤 H 𝓜 𝓡 wired (T, (Z, tt)) methods drops)
    (λ κs. (shr_vals, tt)) (λ κs. (shr_Tells (named 0) κs.0 Self, tt)) (λ κs qs bounds a none are.
    let κ : Lft = κs.0 in let q : Share = qs.0 in let others : Fml = fsep (flft κs.1.0 qs.1.0) (fsep (flft κs.1.1.0 qs.1.1.0) ftrue) in
    let rb = a.0.ref_ptr.0 in let ro = a.0.ref_ptr.1 in let d : Self.Denot = a.0.now in let n : ℕ = d.count in
    let y : (walk_of 𝓛 En stays c).Ghost = ((κs, qs, bounds, a, (vptr rb ro ∷ [], tt)), none) in let Post : Val → SProp 𝓤 = (walk_of 𝓛 En stays c).post y in
    qed 𝓛 (((‵ (flft κ q) ⊛ ‵ others) ⊛ ‵ (owns (types_at En.signature.params κs) a y.0.4)) ∷ raw (fact 𝓤 _) ∷ raw (fact 𝓤 _) ∷ raw (emp 𝓤) ∷ []) ∵
    keep ! (0 ∷ []) $ split ! $ split ! $ move ! (2 ∷ []) $ fsplit ! $ fsplit ! $ keep ! (1 ∷ 3 ∷ 4 ∷ []) $
    -- [the row, lent; the token of its lifetime; the other tokens]
    enter ! 𝓣.C 𝓣.Λ fn (vptr rb ro ∷ []) Post $ alloc_all ! (λ l. pass_all ! refl ((tt, tt), tt) $
    unhide ! $ fsplit ! $ fsplit ! $ fsplit ! $ drop ! $ fsplit ! $ hide ! $
    -- [the count, lent; the other fields; how far they are apart; the values, lent; the token of their lifetime; the other tokens]
    move ! (0 ∷ 4 ∷ []) $ word_in ! tt {κ = κ} {q = q} {S = hidden_shr usize κ n rb (ro + 8)} n rb (ro + 8) (qed 𝓛 (‵ (hidden_shr usize κ n rb (ro + 8)) ∷ []) ∵ shr_dup ! usize (uint_row_laws w64) n rb (ro + 8) κ $ done !) (λ q' fits.
    sets ! (of_opd ! (load ! (through ! refl (fld ! refl (stop !))) (look ! 1 refl))) refl (tt, record { fits = fits }) $
    word_out ! tt n rb (ro + 8) fits $
    flt_i ! n (2 ^ 64) fits $ feq_i ! (List Val) (vint w64 n ∷ []) (vint w64 n ∷ []) refl $ fjoin ! $
    move ! (1 ∷ 6 ∷ []) $ join ! $ nothing ! $ nothing ! $ fjoin ! $ use0 𝓛 (raw (fact 𝓤 (n ≡ length d.values))) (fact_i 𝓤 (n ≡ length d.values) (emp 𝓤) d.counted.0) $
    returns ! (look_at ! 0 refl) $ free_all ! refl $ keep ! (2 ∷ 1 ∷ 3 ∷ 0 ∷ []) $ by ! (leaves 𝓛 En stays c y (vint w64 n) n (tt, tt) (tt, tt)))))
