-- Maps from addresses, as rules to compute with.
use Rattle.std.specs.{Prelude.{◌≡◌, ◌+◌, cond, [], Some, None}, FinMap.{empty, get, insert, len, contains_key, entries, put, get-insert, get-empty, len-insert, len-entries, len-empty, entries-insert}, Ordering.eq_by_cmp}
use Rattle.std.proofs.Common.{sym, ◌∙◌}
use Rattle.pc_heap.specs.{Addresses.addresses_total, Objects.{address_cmp, ObjectMap, Object}, declared.value.Address.Address}
use Rattle.pc_base.proofs.Cuts.{without_length}

pub get_inserted : (m : ObjectMap) (a : Address) (o : Object) (b : Address) → get (insert m a o) b ≡ cond (eq_by_cmp address_cmp b a) (Some o) (get m b)
get_inserted m a o b = get-insert addresses_total m a o b

pub get_none : (b : Address) → get (empty {X = Object} {R = address_cmp}) b ≡ None
get_none b = get-empty address_cmp b

pub len_inserted : (m : ObjectMap) (a : Address) (o : Object) → len (insert m a o) ≡ cond (contains_key m a) (len m) (len m + 1)
len_inserted m a o = len-insert addresses_total m a o

pub len_none : len (empty {X = Object} {R = address_cmp}) ≡ 0
len_none = len-empty address_cmp Object

pub insert_listed : (m : ObjectMap) (a : Address) (o : Object) → entries (insert m a o) ≡ put address_cmp a o (entries m)
insert_listed m a o = entries-insert addresses_total m a o

pub none_listed : entries (empty {X = Object} {R = address_cmp}) ≡ []
none_listed = without_length _ (sym (len-entries (empty {X = Object} {R = address_cmp})) ∙ len_none)

pub ruleset gets = (get_inserted, get_none)

pub ruleset counts = (get_inserted, get_none, len_inserted, len_none)

pub ruleset makes = (get_inserted, get_none, insert_listed, none_listed)
