-- A `Result`: which arm of a `match` is taken where it is known whether it is `Ok`, and what each of the two owns.
use Rattle.pc_arena.proofs.Steps.{Post, fpack, runs, Env, Operand, refl, ℕ, ◌<◌, arith, List, [], ◌∷◌, Ura, ent, Body, Val, vint, of_list, WT, Logic, sem, Item, Step, step, ‵, ◌$◌, ◌∵◌, !, qed, move, fjoin, feq_i, done, live, RattleType, owns, nothing, Ok, Err}
use denote.Enum.Declared.{shape}
use denote.Enum.Enum.{form_of, in_a_row}
use denote.Enum.Row.{tagged_with}
use denote.RattleType.{Valss}
use mir.Syntax.{Width, arm, no_default, switch}
use prog.Wp.{Calls, Loops}
use types.Run.{Opd, switches}
use Rattle.std.specs.contracts.result.Result as result

module _ {M : Type 1} {𝓤 : Ura M} {𝓛 : Logic 𝓤} {K : Type 0} {Γ : List (Item 𝓤)} {E : Env 𝓤 𝓛.H} {C : Calls 𝓤 𝓛.H} {Λ : Loops 𝓤 𝓛.H} {end : Post 𝓤 𝓛.H} {tag : Operand} {ok err : Body} {w : Width} where
  pub goes_ok : K → Opd K 𝓛 Γ E tag (vint w 0) → Step K 𝓛 Γ (runs C Λ E ok end) Γ (runs C Λ E (switch tag (arm (0 ∷ []) ok (arm (1 ∷ []) err no_default))) end)
  goes_ok t is = step (λ goes. switches t is ((λ here. goes), ((λ other. absurd (omega arith)), (λ other. absurd (other.0.1 refl)))))

  pub goes_err : K → Opd K 𝓛 Γ E tag (vint w 1) → Step K 𝓛 Γ (runs C Λ E err end) Γ (runs C Λ E (switch tag (arm (0 ∷ []) ok (arm (1 ∷ []) err no_default))) end)
  goes_err t is = step (λ goes. switches t is ((λ other. absurd (omega arith)), ((λ here. goes), (λ other. absurd (other.1 refl)))))

-- a variant of one field, as the machine has it
abbrev pub variant : ℕ → Val → Val
variant k v = live k (of_list (v ∷ []))

pub variant_fits : (k : ℕ) (v : Val) → k < 2 → WT v → WT (variant k v)
variant_fits k v two fits = (record { fits = omega arith }, (fits, tt))

module _ (R F : RattleType) {M : Type 1} {𝓤 : Ura M} (𝓛 : Logic 𝓤) where
  abbrev Either : RattleType
  Either = result.the_row R F

  pub ok_owns : (x : R.Denot) (v : Val) → ent 𝓤 (sem 𝓛 (R.own_val x (v ∷ []))) (sem 𝓛 (Either.own_val (Ok x) (variant 0 v ∷ [])))
  ok_owns x v =
      let form = form_of (shape (result.the_type R F)) in let fields : List Val = v ∷ [] in
      qed 𝓛 (‵ (R.own_val x fields) ∷ []) ∵ nothing ! $ move ! (1 ∷ []) $ fjoin ! $ feq_i ! (List Val) fields fields refl $ fjoin ! $
      fpack ! (Valss (R ∷ [])) (in_a_row (R ∷ []) (owns (R ∷ []) (x, tt)) fields) (fields, tt) $ feq_i ! (List Val) (variant 0 v ∷ []) (variant 0 v ∷ []) refl $ fjoin ! $
      fpack ! (List Val) (tagged_with form form.payload ((result.the_type R F).to (Ok x)) (variant 0 v ∷ [])) fields $ done !

  pub err_owns : (x : F.Denot) (v : Val) → ent 𝓤 (sem 𝓛 (F.own_val x (v ∷ []))) (sem 𝓛 (Either.own_val (Err x) (variant 1 v ∷ [])))
  err_owns x v =
      let form = form_of (shape (result.the_type R F)) in let fields : List Val = v ∷ [] in
      qed 𝓛 (‵ (F.own_val x fields) ∷ []) ∵ nothing ! $ move ! (1 ∷ []) $ fjoin ! $ feq_i ! (List Val) fields fields refl $ fjoin ! $
      fpack ! (Valss (F ∷ [])) (in_a_row (F ∷ []) (owns (F ∷ []) (x, tt)) fields) (fields, tt) $ feq_i ! (List Val) (variant 1 v ∷ []) (variant 1 v ∷ []) refl $ fjoin ! $
      fpack ! (List Val) (tagged_with form form.payload ((result.the_type R F).to (Err x)) (variant 1 v ∷ [])) fields $ done !
