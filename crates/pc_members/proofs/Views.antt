-- A list of keys, and the list of what they represent.
use Rattle.std.proofs.{Common.{◌≡◌, ℕ, zero, suc, ◌∙◌, ◌+◌, List, [], ◌∷◌, ◌++◌, Bool, true, false, not, cond, map, ◌||◌, Vec, Global, refl, ap}, lemmas.List.{map-append, length-map}}
use Rattle.std.specs.{List.{list_any, position, position_or_len, prefix_len}, Prelude.{Option, Some, None, nat_lt, slice_get}, Str.bytes_eq}
use Rattle.pc_members.specs.MemberLists.{with_name}

module _ {K X : Type 0} (f : K → X) (p : X → Bool) where
  pub list_any_shown : (ks : List K) → list_any p (map f ks) ≡ list_any (λ k. p (f k)) ks
  list_any_shown [] = refl
  list_any_shown (k ∷ ks) = ap (λ b. p (f k) || b) (list_any_shown ks)

  prefix_len_shown : (ks : List K) → prefix_len p (map f ks) ≡ prefix_len (λ k. p (f k)) ks
  prefix_len_shown [] = refl
  prefix_len_shown (k ∷ ks) = ap (λ n. cond (p (f k)) (1 + n) 0) (prefix_len_shown ks)

module _ {K X : Type 0} (f : K → X) (p : X → Bool) where
  position_or_len_shown : (ks : List K) → position_or_len p (map f ks) ≡ position_or_len (λ k. p (f k)) ks
  position_or_len_shown ks = prefix_len_shown f (λ x. not (p x)) ks

  pub position_shown : (ks : List K) → position p (map f ks) ≡ position (λ k. p (f k)) ks
  position_shown ks = rw (position_or_len_shown ks) (ap (λ n. cond (nat_lt (position_or_len (λ k. p (f k)) ks) n) (Some (position_or_len (λ k. p (f k)) ks)) None) (length-map ks f))

  -- what a key represents is appended, if it is new
  push_new_shown : (ks : List K) (k : K) (b : Bool) → map f (cond b ks (ks ++ k ∷ [])) ≡ cond b (map f ks) (map f ks ++ f k ∷ [])
  push_new_shown ks k true = refl
  push_new_shown ks k false = map-append f ks (k ∷ [])

-- The vector is added unless its bytes are there: and so is the name that it represents.
pub added : (keys new : List (Vec ℕ Global)) (owned : Vec ℕ Global) (name : List ℕ) → owned.items ≡ name
    → new ≡ cond (list_any (λ v. bytes_eq owned.items v.items) keys) keys (keys ++ owned ∷ [])
    → map (λ (v : Vec ℕ Global). v.items) new ≡ with_name (map (λ (v : Vec ℕ Global). v.items) keys) name
added keys new owned name same e =
    let f : Vec ℕ Global → List ℕ = λ v. v.items in
    rw (e, push_new_shown f (bytes_eq name) keys owned (list_any (λ v. bytes_eq owned.items v.items) keys), same, list_any_shown f (bytes_eq name) keys) refl

-- The name at a place.
abbrev pub shown : Option (Vec ℕ Global) → Option (List ℕ)
shown None = None
shown (Some v) = Some v.items

pub get_shown : (keys : List (Vec ℕ Global)) (i : ℕ) (o : Option (Vec ℕ Global)) → slice_get keys i ≡ o → slice_get (map (λ (v : Vec ℕ Global). v.items) keys) i ≡ shown o
get_shown keys i o e = all keys i ∙ ap shown e
  where
    all : (ks : List (Vec ℕ Global)) (j : ℕ) → slice_get (map (λ (v : Vec ℕ Global). v.items) ks) j ≡ shown (slice_get ks j)
    all [] j = refl
    all (k ∷ ks) zero = refl
    all (k ∷ ks) (suc j) = all ks j
