-- A row without values: it owns what an allocator hands over, and what the allocator requires back.
use Rattle.pc_arena.proofs.{Steps.{◌≡◌, refl, sym, ℕ, ◌+◌, ◌*◌, ◌<◌, ◌^◌, arith, List, [], ◌∷◌, Ura, Fml, froom, ent, sep, emp, never, id⊢, Ty, ty_array, bare, align, capped, vstruct, vnil, WT, Logic, sem, Goal, Item, Seq, ‵, ◌$◌, ◌∵◌, !, qed, by, drop, use0, fsplit, fsplit3, fjoin, flt_i, flt_l, rewrite, done, lone, param, RattleType, block_ptr, in_a_block, makes_shadow, nothing, type_size, Ghosts, Ok, Err}, Opened.{Owner, Fields, row_val, fields_made}, Results.{variant, ok_owns, err_owns}}
use Rattle.std.specs.contracts.alloc.AllocError as error
use Rattle.std.specs.contracts.result.Result as result
use Rattle.std.proofs.Common.{zero-mul}
use Rattle.pc_arena.specs.Ownership.{row_size, row_owned}

module _ (T Z : RattleType) (g : Ghosts Z.Denot) where
  abbrev R : RattleType
  R = param 0 T

  abbrev Self : RattleType
  Self = Owner T Z g

  abbrev pub block : Ty
  block = bare (ty_array (lone R.mir) row_size)

  abbrev pub bytes : ℕ
  bytes = row_size * type_size R

  abbrev pub alignment : ℕ
  alignment = capped (align (lone R.mir))

  -- memory for the values, and the right to give it back
  abbrev pub Room : ℕ → ℕ → Fml
  Room b o = froom block b o

  abbrev pub Token : Z.Denot → ℕ → ℕ → Fml
  Token a b o = g.dealloc_token a block (block_ptr b o)

  -- a row without values, and what it owns
  abbrev pub empty : Z.Denot → ℕ → ℕ → Self.Denot
  empty a b o = record { first = block_ptr b o; count = 0; allocator = record {}; values = []; from = a; counted = (refl, omega arith) }

  abbrev pub Empty : Z.Denot → ℕ → ℕ → Fml
  Empty a b o = row_owned R (g.dealloc_token a) (block_ptr b o) []

  -- the result of `new`
  abbrev pub Answer : RattleType
  Answer = result.the_row Self error.the_row

  pub empty_fits : (b o : ℕ) → WT (row_val (block_ptr b o) 0)
  empty_fits b o = (tt, (record { fits = omega arith }, (tt, tt)))

  at_start : (o : ℕ) → o + 0 * type_size R ≡ o
  at_start o = let none = zero-mul (type_size R) in omega arith

  module _ {M : Type 1} {𝓤 : Ura M} (𝓛 : Logic 𝓤) (a : Z.Denot) (b o : ℕ) where
    -- what an allocator hands over becomes one
    pub begun : bytes < 2 ^ 63 → ent 𝓤 (sep 𝓤 (sem 𝓛 (Room b o)) (sem 𝓛 (Token a b o))) (sem 𝓛 (Empty a b o))
    begun short =
        qed 𝓛 (‵ (Room b o) ∷ ‵ (Token a b o) ∷ []) ∵ rewrite ! 0 (λ (k : ℕ). ‵ (Room b k)) (sym (at_start o)) refl $ fjoin ! $ nothing ! $ fjoin ! $ flt_i ! bytes (2 ^ 63) short $ fjoin ! $ done !

    pub answers_row : ent 𝓤 (sem 𝓛 (Empty a b o)) (sem 𝓛 (Answer.own_val (Ok (empty a b o)) (variant 0 (row_val (block_ptr b o) 0) ∷ [])))
    answers_row =
        let val = row_val (block_ptr b o) 0 in
        qed 𝓛 (‵ (Empty a b o) ∷ []) ∵ use0 𝓛 (‵ ((Fields T Z g).own_val (block_ptr b o, (0, (tt, tt))) (val ∷ []))) (fields_made T Z g 𝓛 (block_ptr b o) 0 (omega arith)) $ fjoin ! $
        by ! (ok_owns Self error.the_row 𝓛 (empty a b o) val)

  pub answers_error : {M : Type 1} {𝓤 : Ura M} (𝓛 : Logic 𝓤) → ent 𝓤 (emp 𝓤) (sem 𝓛 (Answer.own_val (Err (record {})) (variant 1 (vstruct vnil) ∷ [])))
  answers_error 𝓛 =
      qed 𝓛 [] ∵ use0 𝓛 (‵ (error.the_row.own_val (record {}) (vstruct vnil ∷ []))) (makes_shadow 𝓛 (error.the_row.own_val (record {}) (vstruct vnil ∷ [])) (λ vss. (tt, tt)) (tt, (refl, tt))) $
      by ! (err_owns Self error.the_row 𝓛 (record {}) (vstruct vnil))

  -- and such a row is what its allocator requires back
  pub emptied : {M : Type 1} {𝓤 : Ura M} {𝓛 : Logic 𝓤} {K : Type 0} {Γ : List (Item 𝓤)} {G : Goal 𝓤 𝓛.H} → K → (d : Self.Denot) (a : Z.Denot) → (d.values ≡ []) × (d.from ≡ a)
      → ((b o : ℕ) → d.first ≡ block_ptr b o → bytes < 2 ^ 63 → Seq K 𝓛 (‵ (Room b o) ∷ ‵ (Token a b o) ∷ Γ) G) → Seq K 𝓛 (‵ (row_owned R (g.dealloc_token d.from) d.first d.values) ∷ Γ) G
  emptied {𝓤} {𝓛} t d a (none, from) next =
      rewrite t 0 (λ (u : List R.Denot × Z.Denot). ‵ (row_owned R (g.dealloc_token u.1) d.first u.0)) (λ j. (none j, from j)) refl $
      in_a_block t d.first (λ p. row_owned R (g.dealloc_token a) p []) (id⊢ 𝓤 (never 𝓤)) (λ b o at. fsplit t $ flt_l t (λ short. fsplit3 t $ drop t $
      rewrite t 0 (λ (k : ℕ). ‵ (Room b k)) (at_start o) refl $ next b o at short))
