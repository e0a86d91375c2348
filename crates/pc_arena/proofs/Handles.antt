-- An allocator that is lent: a row is requested, and its block is given back.
use Rattle.pc_arena.proofs.{Steps.{Post, runs, lands, settles, Opds, Env, Dict, Place, Operand, ◌≡◌, sym, subst, ℕ, ◌<◌, ◌^◌, arith, List, [], ◌∷◌, Ura, Lft, Share, flft, ent, sep, Ty, Body, align, capped_fits, Val, vint, vptr, vunit, vstruct, vnil, w64, Logic, sem, Item, Seq, Step, step, ‵, raw, later, given, ◌⊛◌, ◌$◌, use1, use2, split, group, learn, await, lone, hidden_shr, param, Laws, RattleType, calls_at, calls_at_last, tables, framed, Ghosts, ◌⊑◌}, Fills.{row_bytes, row_aligned}, Blocks.{block, bytes, alignment, Room, Token, Empty, begun}, Results.variant}
use contract.Running.{MachineTables, Running}
use denote.Triple.Statement.{Contract}
use mir.Syntax.{seq, call}
use prog.Model.{Model}
use Rattle.std.specs.contracts.alloc.Allocator.TheBound.{Met}
use Rattle.std.proofs.alloc.Calls.{Al, Takes, Gives, at_takes, at_gives, takes_key, gives_key, Answered, answers, Takes-goes, Takes-gives, Gives-goes, Gives-Gives}

module _ (T Z : RattleType) (LZ : Laws Z) (g : Ghosts Z.Denot) (methods drops : Dict) {M : Type 1} {𝓤 : Ura M} (𝓛 : Logic 𝓤) (𝓜 : Model 𝓤 𝓛.H) (𝓡 : Running 𝓤 𝓛.H 𝓜) (met : Met 𝓛 𝓜 𝓡 𝓡.env Z g methods)
    (κ : Lft) (q : Share) (p : ℕ × ℕ) (a : Z.Denot) (lives : κ ⊑ Z.lives) (short : bytes T Z g < 2 ^ 63) where
  open 𝓛 use {H}

  abbrev handle : Al
  handle = record { row = Z; laws = LZ; g = g; d = methods; drops = drops }

  abbrev 𝓣 : MachineTables 𝓤 H 𝓜
  𝓣 = tables 𝓤 H 𝓜 𝓡 𝓡.env

  abbrev takes : Contract 𝓤
  takes = Takes handle 𝓛 𝓜.mem 𝓡.returns

  abbrev gives : Contract 𝓤
  gives = Gives handle 𝓛 𝓜.mem 𝓡.returns

  abbrev n : ℕ
  n = bytes T Z g

  abbrev m : ℕ
  m = alignment T Z g

  abbrev τ : Ty
  τ = block T Z g

  -- the handle, and the token of its lifetime
  abbrev pub Handle : List (Item 𝓤) → List (Item 𝓤)
  Handle Γ = ‵ (hidden_shr Z κ a p.0 p.1) ∷ ‵ (flft κ q) ∷ Γ

  abbrev asked : takes.Ghost
  asked = at_takes handle 𝓛 𝓜.mem 𝓡.returns κ q p a n m τ

  abbrev returned : ℕ → ℕ → gives.Ghost
  returned b o = at_gives handle 𝓛 𝓜.mem 𝓡.returns κ q p a b o n m τ

  asks : ent 𝓤 (sep 𝓤 (sem 𝓛 (hidden_shr Z κ a p.0 p.1)) (sem 𝓛 (flft κ q))) (takes.pre asked)
  asks = let τ₀ = lone (param 0 T).mir in Takes-goes handle 𝓛 𝓜.mem 𝓡.returns κ q p a lives n m τ (row_bytes τ₀ short) (row_aligned τ₀) (omega arith) (capped_fits (align τ₀))

  gives_back : (b o : ℕ) → ent 𝓤 (sep 𝓤 (sem 𝓛 (Room T Z g b o)) (sep 𝓤 (sem 𝓛 (Token T Z g a b o)) (sep 𝓤 (sem 𝓛 (hidden_shr Z κ a p.0 p.1)) (sem 𝓛 (flft κ q))))) (gives.pre (returned b o))
  gives_back b o = let τ₀ = lone (param 0 T).mir in Gives-goes handle 𝓛 𝓜.mem 𝓡.returns κ q p a lives b o n m τ (row_bytes τ₀ short) (row_aligned τ₀) (omega arith) (capped_fits (align τ₀))

  module _ {K : Type 0} {Γ : List (Item 𝓤)} {E : Env 𝓤 H} {end : Post 𝓤 H} {xs : List Operand} {d : Place} where
    -- a row comes without values, or there is no memory
    pub asks_row : {rest : Body} → K → Opds K 𝓛 (raw (takes.pre asked) ∷ Γ) E xs (vptr p.0 p.1 ∷ vint w64 n ∷ vint w64 m ∷ [])
        → ((b o : ℕ) → Seq K 𝓛 (‵ (Empty T Z g a b o) ∷ ‵ (flft κ q) ∷ Γ) (lands 𝓣.C 𝓣.Λ E d (variant 0 (vptr b o)) rest end))
        → Seq K 𝓛 (‵ (flft κ q) ∷ Γ) (lands 𝓣.C 𝓣.Λ E d (variant 1 (vstruct vnil)) rest end)
        → Seq K 𝓛 (Handle Γ) (runs 𝓣.C 𝓣.Λ E (seq (call (takes_key handle) xs d) rest) end)
    asks_row {rest} t words some none =
        use2 𝓛 (raw (takes.pre asked)) asks $ calls_at t (framed 𝓤 H 𝓜 𝓣) takes (met.allocate drops) asked words (λ v.
        let Goes : List (Item 𝓤) → Val → Type 1 = λ Δ u. Seq K 𝓛 Δ (lands 𝓣.C 𝓣.Λ E d u rest end) in
        use1 𝓛 (later (raw (Answered handle 𝓛 𝓜.mem 𝓡.returns a τ v) ⊛ ‵ (flft κ q))) (Takes-gives handle 𝓛 𝓜.mem 𝓡.returns κ q p a n m τ v) $ await t tt $ split t $
        answers handle t 𝓜.mem 𝓡.returns a τ v
        (λ b o is. use2 𝓛 (‵ (Empty T Z g a b o)) (begun T Z g 𝓛 a b o short) $ subst (Goes (‵ (Empty T Z g a b o) ∷ ‵ (flft κ q) ∷ Γ)) (sym is) (some b o))
        (λ is. subst (Goes (‵ (flft κ q) ∷ Γ)) (sym is) none))

    pub gives_row : K → (b o : ℕ) → Opds K 𝓛 (raw (gives.pre (returned b o)) ∷ Γ) E xs (vptr p.0 p.1 ∷ vptr b o ∷ vint w64 n ∷ vint w64 m ∷ [])
        → Step K 𝓛 (‵ (flft κ q) ∷ Γ) (settles E d vunit end) (‵ (Room T Z g b o) ∷ ‵ (Token T Z g a b o) ∷ Handle Γ) (runs 𝓣.C 𝓣.Λ E (call (gives_key handle) xs d) end)
    gives_row t b o words = step (λ next.
        group t 4 $ use1 𝓛 (raw (gives.pre (returned b o))) (gives_back b o) $ calls_at_last t (framed 𝓤 H 𝓜 𝓣) gives (met.deallocate drops) (returned b o) words (λ v.
        use1 𝓛 (later (given (v ≡ vunit) (‵ (flft κ q)))) (Gives-Gives handle 𝓛 𝓜.mem 𝓡.returns κ q p a b o n m τ v) $ await t tt $ learn t (λ is.
        subst (λ (u : Val). Seq K 𝓛 (‵ (flft κ q) ∷ Γ) (settles E d u end)) (sym is) next)))
