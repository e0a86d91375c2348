-- The lines of a table of who sends what are its text, and what they name exists.
use Rattle.std.proofs.{Common.{◌≡◌, ◌<◌, ℕ, List, length, Option, Some, Ok, Err, refl, sym, ap, ◌∙◌, subst}, lemmas.List.length-map}
use Rattle.std.specs.Prelude.{IfOk, IsSome, Result, slice_get}
use Rattle.pc_ann.specs.declared.annotation.Ann.{Ann}
use Rattle.pc_core.specs.{CoreData.CoreData, Formed.Formed, declared.declarations.Method.Method}
use Rattle.pc_base.proofs.Gets.{get_within}
use Rattle.pc_noted_receivers.specs.{Noted.noted_entities, Parts.noted_in}
use Rattle.pc_valid.specs.Valid.{Valid}
use Rattle.pc_sends.specs.{Tables.{Sends, next, IsTable}, declared.table.Table.Table}
use Rattle.pc_sends.proofs.There.{reach_below}
use Rattle.pc_base.specs.Lists.{Text}
use Rattle.pc_run_events.specs.Lines.{MethodHasName}
use Rattle.pc_commands.specs.Sends.{IsSendsText, NamesAreThere, table_text}

-- ---- what is noted

-- A valid annotation notes an entity, or none, for each node.
pub noted_whole : (core : CoreData) (ann : Ann) (ents : List (Option ℕ)) → Valid core ann → ents ≡ noted_entities ann
    → length ents ≡ length core.nodes
noted_whole core ann ents v e = ap (λ (l : List (Option ℕ)). length l) e ∙ length-map ann.notes noted_in ∙ v.notes

-- ---- the text

-- The lines of a table are the text of who sends what.
pub lines_tell : {E : Type 0} (core : CoreData) (ann : Ann) (ents : List (Option ℕ)) (table : Table) (result : Result Text E) → ents ≡ noted_entities ann → IsTable core ents table
    → IfOk result (λ text. text ≡ table_text core table) → IfOk result (IsSendsText core ann)
lines_tell core ann ents table (Ok text) e t is = (table, subst (λ (x : List (Option ℕ)). IsTable core x table) e t, is)
lines_tell core ann ents table (Err f) e t is = tt

-- ---- what is known of a table

is_some : {T : Type 0} (o : Option T) (x : T) → o ≡ Some x → IsSome o
is_some {T} o x e = subst (λ (p : Option T). IsSome p) (sym e) refl

some_below : {T : Type 0} (xs : List T) (n : ℕ) → n < length xs → IsSome (slice_get xs n)
some_below xs n l = let there = get_within xs n l in is_some (slice_get xs n) there.0 there.1

module _ (core : CoreData) (ents : List (Option ℕ)) (formed : Formed core) where
  method_there : (t : ℕ) (m : Method) → slice_get core.methods t ≡ Some m → MethodHasName core t
  method_there t m e =
      let fits = formed.methods t m e in
      (m, e, is_some (slice_get core.entities m.entity) fits.owner fits.is_owner, some_below core.names m.name fits.name)

  owner_there : (t : ℕ) (m : Method) → slice_get core.methods t ≡ Some m → IsSome (slice_get core.entities m.entity)
  owner_there t m e = let fits = formed.methods t m e in is_some (slice_get core.entities m.entity) fits.owner fits.is_owner

  sender_there : (e t : ℕ) → Sends core ents e t → IsSome (slice_get core.entities e)
  sender_there e t s = subst (λ (k : ℕ). IsSome (slice_get core.entities k)) s.entity (owner_there s.from s.method s.is_method)

  target_there : (e t : ℕ) → Sends core ents e t → MethodHasName core t
  target_there e t s =
      let below = reach_below core ents formed t (next s.reached s.posts.0) in
      let there = get_within core.methods t below in
      method_there t there.0 there.1

  pub names_there : (table : Table) → IsTable core ents table → NamesAreThere core table
  names_there table t = record {
    from = λ i row e. sender_there row.from row.target ((t.rows row.from row.target).0 (i, e));
    sent = λ i row e. target_there row.from row.target ((t.rows row.from row.target).0 (i, e));
    never = λ i m e. let n = (t.never m).0 (i, e) in method_there m n.of_actor.method n.of_actor.is_method;
  }
