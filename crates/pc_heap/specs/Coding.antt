-- Addresses and objects as pairs, by which they can be keys and values of finite maps.
use Rattle.std.specs.{Prelude.{ℕ, List, Option, refl}, Coded.{Coded, code_by, coded×, coded_list, coded_ℕ, coded_option}}
use Rattle.pc_heap.specs.{declared.value.Value.Value, declared.value.Address.Address, Objects.Object}
use Rattle.pc_heap.specs.contracts.value.Value as value

-- an object: its entity and its fields
abbrev pub coded_object : Coded Object
coded_object = code_by (ℕ × List (Option Value)) (coded× coded_ℕ (coded_list (coded_option value.the_row.coded))) (λ o. (o.entity, o.fields)) (λ p. record { entity = p.0; fields = p.1 }) (λ _. refl)

-- an address: its maker and its serial
abbrev pub coded_address : Coded Address
coded_address = code_by (ℕ × ℕ) (coded× coded_ℕ coded_ℕ) (λ a. (a.maker, a.serial)) (λ p. record { maker = p.0; serial = p.1 }) (λ _. refl)
