-- The owner of a row: its machine value, what it is made of, and how a `&mut` to it is opened and shut.
use Rattle.pc_arena.proofs.Steps.{◌≡◌, refl, ap, ◌∙◌, ℕ, ◌*◌, ◌<◌, ◌≤◌, ◌^◌, arith, length, List, [], ◌∷◌, ◌++◌, Ura, full_share, Fml, Lft, GName, Share, flft, fobs, fauth, fbor, fobor, ent, emp, never, id⊢, Ty, ty_array, bare, w64, Val, vint, vstruct, vcons, vnil, of_list, Logic, sem, Goal, Item, Seq, Step, Soaks, step, ‵, ◌$◌, move, drop, use0, fsplit, fsplit3, fjoin, fjoin3, flt_i, flt_l, rewrite, T as Holds, has_ty, WT, Lends, row, Is, Typed, shows, lone, mem, cell_at, param, RattleType, Ptr, ptr_val, block_ptr, in_a_block, makes_shadow, opens, closes, peeks, Struct, shape, type_size, Ghosts}
use Rattle.pc_arena.specs.Ownership.{row_size, unwritten, row_owned}
use Rattle.pc_arena.specs.contracts.row.Row as own

-- a type whose values are one machine value each
pub one_value : (τ : Ty) (vs : List Val) → Typed (τ ∷ []) vs → (v : Val) × (vs ≡ v ∷ []) × (Holds (has_ty τ v) × WT v)
one_value τ [] t = absurd t
one_value τ (v ∷ w ∷ ws) t = absurd t.1
one_value τ (v ∷ []) t = (v, refl, t.0)

-- the pointer and the count, beside which the allocator's type takes no bytes
abbrev pub row_val : Ptr → ℕ → Val
row_val p n = vstruct (vcons (ptr_val p) (vcons (vint w64 n) (vcons (vstruct vnil) vnil)))

module _ (T Z : RattleType) (g : Ghosts Z.Denot) where
  abbrev R : RattleType
  R = param 0 T

  abbrev pub Owner : RattleType
  Owner = own.the_row R (param 1 Z) g

  abbrev pub Fields : RattleType
  Fields = Struct (shape (own.the_type R (param 1 Z) g))

  pub tells : (d : Owner.Denot) (us : List Val) → Is Owner d us → us ≡ row_val d.first d.count ∷ []
  tells d us is = is.0.1.0 ∙ (λ j. vstruct (of_list (is.0.1.1.0 j ++ (is.0.1.1.1.0.0 j ++ (is.0.1.1.1.1.0.1.0 j ++ [])))) ∷ [])

  -- the row as it is with other values
  abbrev pub filled : Owner.Denot → ℕ → ℕ → (n : ℕ) (xs : List R.Denot) → (n ≡ length xs) × (n ≤ row_size) → Owner.Denot
  filled d b o n xs is = record { first = block_ptr b o; count = n; allocator = d.allocator; values = xs; from = d.from; counted = is }

  abbrev pub token : Owner.Denot → ℕ → ℕ → Fml
  token d b o = g.dealloc_token d.from (bare (ty_array (lone R.mir) row_size)) (block_ptr b o)

  module _ {M : Type 1} {𝓤 : Ura M} (𝓛 : Logic 𝓤) where
    pub fields_made : (p : Ptr) (n : ℕ) → n < 2 ^ 64 → ent 𝓤 (emp 𝓤) (sem 𝓛 (Fields.own_val (p, (n, (tt, tt))) (row_val p n ∷ [])))
    fields_made p n fits =
        makes_shadow 𝓛 (Fields.own_val (p, (n, (tt, tt))) (row_val p n ∷ [])) (λ vss. (tt, (tt, ((tt, tt), ((λ uss. (tt, tt)), tt)))))
        ((ptr_val p ∷ [], (vint w64 n ∷ [], (vstruct vnil ∷ [], tt))), (refl, (refl, ((refl, fits), ((tt, (refl, tt)), tt)))))

  module _ {M : Type 1} {𝓤 : Ura M} (κ : Lft) (q : Share) (γ : GName) (rb ro : ℕ) (d : Owner.Denot) where
    -- a `&mut` to a row, and the token of its lifetime
    abbrev pub Shut : List (Item 𝓤) → List (Item 𝓤)
    Shut Γ = ‵ (fobs γ (Owner.coded.code d)) ∷ ‵ (fbor κ (Lends (mem Owner) rb ro γ)) ∷ ‵ (flft κ q) ∷ Γ

    -- [its values; what is unwritten; the allocator's token; the owner's cell; the open borrow, in three entries]
    abbrev pub Opened : ℕ → ℕ → ℕ → List R.Denot → List (Item 𝓤) → List (Item 𝓤)
    Opened b o n xs Γ =
        ‵ (row R full_share xs b o) ∷ ‵ (unwritten R b o xs) ∷ ‵ (token d b o) ∷ ‵ (cell_at full_share Owner.mir (row_val (block_ptr b o) n ∷ []) rb ro)
        ∷ ‵ (fobor κ q (Lends (mem Owner) rb ro γ)) ∷ ‵ (fobs γ (Owner.coded.code d)) ∷ ‵ (fauth γ (Owner.coded.code d)) ∷ Γ

  module _ {M : Type 1} {𝓤 : Ura M} {𝓛 : Logic 𝓤} {K : Type 0} {Γ : List (Item 𝓤)} {G : Goal 𝓤 𝓛.H} where
    pub opens_row : K → Soaks G → (κ : Lft) (q : Share) (γ : GName) (rb ro : ℕ) (d : Owner.Denot)
        → ((b o : ℕ) → row_size * type_size R < 2 ^ 63 → Seq K 𝓛 (Opened κ q γ rb ro d b o d.count d.values Γ) G) → Seq K 𝓛 (Shut κ q γ rb ro d Γ) G
    opens_row t z κ q γ rb ro d k =
        opens t z Owner {h = d} rb ro (λ us. move t (1 ∷ []) $ peeks t Owner (Is Owner) (shows 𝓛 Owner) d us (λ is. fsplit t $ drop t $
        in_a_block t d.first (λ p. row_owned R (g.dealloc_token d.from) p d.values) (id⊢ 𝓤 (never 𝓤)) (λ b o e. fsplit t $ flt_l t (λ short. fsplit3 t $
        rewrite t 3 (λ (vs : List Val). ‵ (cell_at full_share Owner.mir vs rb ro)) (tells d us is ∙ ap (λ (p : Ptr). row_val p d.count ∷ []) e) refl $ k b o short))))

    pub shuts_row : K → Soaks G → (κ : Lft) (q : Share) (γ : GName) (rb ro : ℕ) (d : Owner.Denot) (b o n : ℕ) (xs : List R.Denot) (is : (n ≡ length xs) × (n ≤ row_size)) → row_size * type_size R < 2 ^ 63
        → Step K 𝓛 (Shut κ q γ rb ro (filled d b o n xs is) Γ) G (Opened κ q γ rb ro d b o n xs Γ) G
    shuts_row t z κ q γ rb ro d b o n xs is short = step (λ k. let most = is.1 in
        fjoin3 t $ flt_i t (row_size * type_size R) (2 ^ 63) short $ fjoin t $
        use0 𝓛 (‵ (Fields.own_val (block_ptr b o, (n, (tt, tt))) (row_val (block_ptr b o) n ∷ []))) (fields_made 𝓛 (block_ptr b o) n (omega arith)) $ fjoin t $ move t (1 ∷ []) $
        closes t z Owner (filled d b o n xs is) (row_val (block_ptr b o) n ∷ []) rb ro $ k)
