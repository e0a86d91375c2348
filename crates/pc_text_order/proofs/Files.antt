-- The tokens of an entity are a part of the file's.
use Rattle.std.proofs.{Common.{◌≡◌, ℕ, zero, suc, List, [], ◌∷◌, Some, subst}, lemmas.Option.{same_Some, none-some}}
use Rattle.std.specs.Prelude.{slice_get}
use Rattle.pc_tree.specs.Tree as t
use Rattle.pc_token.specs.declared.kinds.Token.{Token}
use Rattle.pc_grammar.specs.{Spells.{SpellsEntity, SpellsEntities, SpellsFile}, Parts.SpellsMoreEntities}
use Rattle.pc_text_order.proofs.Among.{Among, past, before, moved}

module _ (e : t.Entity) (ns : List ℕ) (part : (us : List Token) → SpellsEntity e us → Among ns us) where
  one_in : (x : t.Entity) (ts : List Token) → x ≡ e → SpellsEntity x ts → Among ns ts
  one_in x ts same h = part ts (subst (λ (z : t.Entity). SpellsEntity z ts) same h)

  more_in : (es : List t.Entity) (i : ℕ) (ts : List Token) → slice_get es i ≡ Some e → SpellsMoreEntities es ts → Among ns ts
  more_in [] i ts at h = absurd (none-some e at)
  more_in (x ∷ es) zero ts at h = moved h.2 (before h.1 (one_in x h.0 (same_Some x e at) h.3))
  more_in (x ∷ es) (suc i) ts at h = moved h.2 (past h.0 (more_in es i h.1 at h.4))

  some_in : (es : List t.Entity) (i : ℕ) (ts : List Token) → slice_get es i ≡ Some e → SpellsEntities es ts → Among ns ts
  some_in [] i ts at h = absurd h
  some_in (x ∷ es) zero ts at h = moved h.2 (before h.1 (one_in x h.0 (same_Some x e at) h.3))
  some_in (x ∷ es) (suc i) ts at h = moved h.2 (past h.0 (more_in es i h.1 at h.4))

  pub file_in : (f : t.File) (i : ℕ) (ts : List Token) → slice_get f.entities i ≡ Some e → SpellsFile f ts → Among ns ts
  file_in f i ts at h = moved h.3 (past h.0 (before (h.2 ∷ []) (some_in f.entities i h.1 at h.5)))
