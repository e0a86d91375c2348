use Rattle.std.proofs.Common.{◌≡◌, ℕ, ◌-◌, cond, List, [], ◌∷◌, ◌++◌, length, Option, None, sym, ap, ◌∙◌, subst, arith}
use Rattle.std.specs.FinMap as map
use Rattle.std.specs.Prelude.{nat_eq}
use Rattle.pc_heap.specs.{declared.value.Address.Address, declared.entry.Entry.Entry, Objects.new_object, Heaps.{HeapData, Room}, Rows.numbers_of, Entries.{Items, objects_of}, Inside.{room_of, Sound}}
use Rattle.pc_heap.proofs.Sounds.{serial_small, made_at, made_free, made_objects, made_sound}
use Rattle.pc_heap.proofs.heap.Heap.make.Goals as goal

pub overflow_cast-address : goal.overflow_cast-address
overflow_cast-address c =
    let n = c.self.inside in let free = n.made.cap - n.made.len in let made = n.made.items in let items = n.values.items in
    let room = ap (λ (v : HeapData). v.room) c.self.view_is ∙ c.requires in
    let h = subst (λ (r : Option Room). Sound made free items n.values.spare n.rows r) room c.self.invariant in
    let low = serial_small made free items n.values.spare n.rows (room_of n.room) c.self.invariant c.args.maker in let is = c.count.ensures in omega arith

pub invariant_of-self : goal.invariant_of-self
invariant_of-self c =
    let n = c.self.inside in let free = n.made.cap - n.made.len in let made = n.made.items in let items = n.values.items in
    let room = ap (λ (v : HeapData). v.room) c.self.view_is ∙ c.requires in
    let h = subst (λ (r : Option Room). Sound made free items n.values.spare n.rows r) room c.self.invariant in
    let k = c.args.maker in let e = c.args.entity in let f = c.args.fields in
    let a = made_at made free items n.values.spare n.rows k e f h in
    let own : record { maker = k; serial = c.count.result } ≡ a = ap (λ m. record { maker = k; serial = m }) c.count.ensures in
    let es : c.push-2.new.self.items ≡ made ++ record { address = a; entity = e; first = length items; fields = f } ∷ [] =
    c.in-Ok.ensures.items ∙ ap (λ (p : ℕ × ℕ). made ++ record { address = record { maker = k; serial = p.0 }; entity = e; first = p.1; fields = f } ∷ []) (λ i. (c.count.ensures i, c.len-first.ensures i)) in
    let number : c.len.result ≡ length made = c.len.ensures ∙ n.made.ok.0 in
    let rows = λ (m : ℕ). c.push.ensures m ∙ ap (λ z. cond (nat_eq k m) (numbers_of n.rows k ++ z ∷ []) (numbers_of n.rows m)) number in
    let free2 = c.push-2.new.self.cap - c.push-2.new.self.len in let spare2 = c.push_empty.new.values.spare in
    subst (λ (es2 : List Entry). Sound es2 free2 c.push_empty.new.values.items spare2 c.push.new.self None) (sym es)
    (subst (λ (l : Items). Sound (made ++ record { address = a; entity = e; first = length items; fields = f } ∷ []) free2 l spare2 c.push.new.self None) (sym c.push_empty.ensures.items)
    (made_sound made free items n.values.spare n.rows k e f h c.push.new.self rows free2 spare2))

pub returns-clause-free : goal.returns-clause-free
returns-clause-free c =
    let n = c.self.inside in let free = n.made.cap - n.made.len in let made = n.made.items in let items = n.values.items in
    let room = ap (λ (v : HeapData). v.room) c.self.view_is ∙ c.requires in
    let h = subst (λ (r : Option Room). Sound made free items n.values.spare n.rows r) room c.self.invariant in
    let k = c.args.maker in let e = c.args.entity in let f = c.args.fields in
    let a = made_at made free items n.values.spare n.rows k e f h in
    let own : record { maker = k; serial = c.count.result } ≡ a = ap (λ m. record { maker = k; serial = m }) c.count.ensures in
    ap (λ (v : HeapData). map.get v.objects (record { maker = k; serial = c.count.result })) (sym c.self.view_is) ∙ ap (map.get (objects_of items made)) own ∙ made_free made free items n.values.spare n.rows k e f h

pub returns-clause-objects : goal.returns-clause-objects
returns-clause-objects c =
    let n = c.self.inside in let free = n.made.cap - n.made.len in let made = n.made.items in let items = n.values.items in
    let room = ap (λ (v : HeapData). v.room) c.self.view_is ∙ c.requires in
    let h = subst (λ (r : Option Room). Sound made free items n.values.spare n.rows r) room c.self.invariant in
    let k = c.args.maker in let e = c.args.entity in let f = c.args.fields in
    let a = made_at made free items n.values.spare n.rows k e f h in
    let own : record { maker = k; serial = c.count.result } ≡ a = ap (λ m. record { maker = k; serial = m }) c.count.ensures in
    let es : c.push-2.new.self.items ≡ made ++ record { address = a; entity = e; first = length items; fields = f } ∷ [] =
    c.in-Ok.ensures.items ∙ ap (λ (p : ℕ × ℕ). made ++ record { address = record { maker = k; serial = p.0 }; entity = e; first = p.1; fields = f } ∷ []) (λ i. (c.count.ensures i, c.len-first.ensures i)) in
    let number : c.len.result ≡ length made = c.len.ensures ∙ n.made.ok.0 in
    let rows = λ (m : ℕ). c.push.ensures m ∙ ap (λ z. cond (nat_eq k m) (numbers_of n.rows k ++ z ∷ []) (numbers_of n.rows m)) number in
    ap (λ (es2 : List Entry). objects_of c.push_empty.new.values.items es2) es ∙ ap (λ (l : Items). objects_of l (made ++ record { address = a; entity = e; first = length items; fields = f } ∷ [])) c.push_empty.ensures.items
    ∙ made_objects made free items n.values.spare n.rows k e f h c.push.new.self rows
    ∙ ap (λ (q : Address). map.insert (objects_of items made) q (new_object e f)) (sym own)
    ∙ ap (λ (v : HeapData). map.insert v.objects (record { maker = k; serial = c.count.result }) (new_object e f)) c.self.view_is
