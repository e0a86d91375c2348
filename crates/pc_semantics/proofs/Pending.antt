-- The tasks of a frame, from the entries that represent them.
use Rattle.std.proofs.{Common.{◌≡◌, ℕ, ◌<◌, List, [], ◌∷◌, ◌++◌, Some, None, slice_get, take, drop, set, map, refl, sym, ap, ◌∙◌}, lemmas.Option.{same_Some, none-some}}
use Rattle.pc_semantics.specs.{declared.frames.Task.Task, declared.tasks.Entry.Entry, Pending.{all_tasks, as_items, tasks_after, entry_tasks, single}, Evaluation.item_tasks}
use Rattle.pc_semantics.specs.declared.frames.Task.TheVariants as task

-- The first task is that of the first entry.
pub top_task : (es : List Entry) (e : Entry) → slice_get es 0 ≡ Some e → Some e.task ≡ slice_get (all_tasks es) 0
top_task [] e is = absurd (none-some e is)
top_task (x ∷ es) e is = ap (λ z. Some z.task) (sym (same_Some x e is))

pub no_task : (es : List Entry) → slice_get es 0 ≡ None → None ≡ slice_get (all_tasks es) 0
no_task [] is = refl
no_task (x ∷ es) is = absurd (none-some x (sym is))

-- Where there is no entry, no task goes.
pub none_goes : (es : List Entry) → slice_get es 0 ≡ None → all_tasks es ≡ drop 1 (all_tasks es)
none_goes [] is = refl
none_goes (x ∷ es) is = absurd (none-some x (sym is))

-- An entry that nothing follows goes with its task.
pub goes_alone : (es : List Entry) (e : Entry) → slice_get es 0 ≡ Some e → tasks_after e.after ≡ [] → all_tasks (drop 1 es) ≡ drop 1 (all_tasks es)
goes_alone [] e is none = absurd (none-some e is)
goes_alone (x ∷ es) e is none =
    let rest : tasks_after x.after ≡ [] = ap (λ z. tasks_after z.after) (same_Some x e is) ∙ none in
    ap (λ z. z ++ all_tasks es) (sym rest)

-- The items of a sequence are the evaluation of the first and then the others, each after a drop.
pub items_are : (c : ℕ) (cs : List ℕ) → item_tasks (c ∷ cs) ≡ task.Eval c ∷ as_items cs
items_are c [] = refl
items_are c (d ∷ cs) = ap (λ ts. task.Eval c ∷ task.Discard ∷ ts) (items_are d cs)

pub items_from : (cs shared : List ℕ) (c : ℕ) → Some c ≡ slice_get cs 0 → shared ≡ cs → task.Eval c ∷ as_items (drop 1 shared) ≡ item_tasks cs
items_from [] shared c is same = absurd (none-some c (sym is))
items_from (x ∷ cs) shared c is same =
    ap (λ z. task.Eval c ∷ as_items (drop 1 z)) same
    ∙ sym (items_are c cs)
    ∙ ap (λ z. item_tasks (z ∷ cs)) (sym (same_Some x c (sym is)))

-- The second entry goes on after its first task.
pub second_goes_on : (es : List Entry) (x a n e : Entry) → slice_get (x ∷ es) 1 ≡ Some e → entry_tasks n ≡ tasks_after e.after → all_tasks (set (set (x ∷ es) 1 a) 1 n) ≡ entry_tasks x ++ drop 1 (all_tasks es)
second_goes_on [] x a n e is same = absurd (none-some e is)
second_goes_on (y ∷ ys) x a n e is same =
    let rest : entry_tasks n ≡ tasks_after y.after = same ∙ ap (λ z. tasks_after z.after) (sym (same_Some y e is)) in
    ap (λ z. entry_tasks x ++ (z ++ all_tasks ys)) rest

-- The second entry goes, of which nothing follows its first task.
pub second_ends : (es : List Entry) (x a e : Entry) → slice_get (x ∷ es) 1 ≡ Some e → tasks_after e.after ≡ [] → all_tasks (take 1 (set (x ∷ es) 1 a) ++ drop 2 (set (x ∷ es) 1 a)) ≡ entry_tasks x ++ drop 1 (all_tasks es)
second_ends [] x a e is none = absurd (none-some e is)
second_ends (y ∷ ys) x a e is none =
    let rest : tasks_after y.after ≡ [] = ap (λ z. tasks_after z.after) (same_Some y e is) ∙ none in
    ap (λ z. entry_tasks x ++ (z ++ all_tasks ys)) (sym rest)

-- Entries of one task each represent these tasks.
pub singles_are : (ts : List Task) (es : List Entry) → all_tasks (map single ts ++ es) ≡ ts ++ all_tasks es
singles_are [] es = refl
singles_are (t ∷ ts) es = ap (λ z. t ∷ z) (singles_are ts es)
