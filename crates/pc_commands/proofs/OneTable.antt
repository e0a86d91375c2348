-- Any two tables of who sends what have the same text: there is only one that is exact and in order.
use Rattle.std.proofs.Common.{◌≡◌, ◌<◌, ℕ, List, ◌++◌, Option, inl, inr, ap₂, arith}
use Rattle.pc_core.specs.CoreData.{CoreData}
use Rattle.pc_sends.specs.{Tables.{RowBefore, IsTable}, declared.table.Row.Row, declared.table.Table.Table}
use Rattle.pc_commands.specs.{Sends.table_text, SendsLines.{never_text, rows_text}}
use Rattle.pc_commands.proofs.InOrder.{less_apart, order_one}

before_apart : (a b : Row) → RowBefore a b → RowBefore b a → ⊥
before_apart a b (inl l) (inl m) = omega (arith, l, m)
before_apart a b (inl l) (inr m) = let e = m.0 in omega (arith, l, e)
before_apart a b (inr l) (inl m) = let e = l.0 in omega (arith, m, e)
before_apart a b (inr l) (inr m) = let p = l.1 in let q = m.1 in omega (arith, p, q)

module _ (core : CoreData) (ents : List (Option ℕ)) (one other : Table) (t : IsTable core ents one) (u : IsTable core ents other) where
  same_rows : one.rows ≡ other.rows
  same_rows =
      order_one RowBefore before_apart one.rows other.rows t.order u.order
      (λ x h. (u.rows x.from x.target).1 ((t.rows x.from x.target).0 h)) (λ x h. (t.rows x.from x.target).1 ((u.rows x.from x.target).0 h))

  same_never : one.never ≡ other.never
  same_never =
      order_one (λ (a b : ℕ). a < b) less_apart one.never other.never t.never_ascends u.never_ascends
      (λ x h. (u.never x).1 ((t.never x).0 h)) (λ x h. (t.never x).1 ((u.never x).0 h))

  pub same_text : table_text core one ≡ table_text core other
  same_text = ap₂ (λ (rows : List Row) (never : List ℕ). rows_text core rows ++ never_text core never) same_rows same_never
