-- An arena stays sound, and its values afterwards.
use Rattle.std.proofs.Common.{◌≡◌, ℕ, zero, suc, ◌+◌, ◌-◌, ◌*◌, ◌/◌, ◌%◌, ◌<◌, ◌≤◌, List, [], ◌∷◌, ◌++◌, length, set, get_or, replicate, slice_get, sym, ap, ◌∙◌, subst, arith, refl, length-append, length-set}
use Rattle.pc_arena.specs.{Chunks.chunk_size, Arenas.{place_limit, joined, chunked, Grown, Sound}}
use Rattle.pc_arena.proofs.Chunked.{length-chunked, joined_chunked, more_chunks, chunk_at, part, within_part, length_part, get_part, put_part, push_part}

pub one_more : {X : Type 0} (n : ℕ) (x : X) → replicate n x ++ x ∷ [] ≡ replicate (suc n) x
one_more zero x = refl
one_more (suc n) x = ap (λ l. x ∷ l) (one_more n x)

divided : (i : ℕ) → i / chunk_size * chunk_size + i % chunk_size ≡ i
divided i = omega arith

below : (i : ℕ) → i % chunk_size < chunk_size
below i = omega arith

-- chunks that hold the values in order
module _ {X : Type 0} (chunks : List (List X)) (xs : List X) (laid : chunks ≡ chunked chunk_size (length chunks) xs) (count spare : ℕ) (counted : count ≡ length xs) (room : count + spare ≤ length chunks * chunk_size) where
  pub values : joined chunks ≡ xs
  values = ap joined laid ∙ joined_chunked chunk_size (length chunks) xs (omega arith)

  pub sound : count + spare < place_limit → Sound chunks count spare
  sound small = record { laid = laid ∙ ap (chunked chunk_size (length chunks)) (sym values); counted = counted ∙ ap length (sym values); room = room; small = small }

module _ {X : Type 0} (chunks : List (List X)) (count spare : ℕ) (h : Sound chunks count spare) where
  abbrev items : List X
  items = joined chunks

  -- the chunk that has a place
  module _ (i : ℕ) (chunk : List X) (is : chunk ≡ get_or chunks (i / chunk_size) chunk) where
    chunk_is : i < length chunks * chunk_size → chunk ≡ part chunk_size (i / chunk_size) items
    chunk_is lt = let split = divided i in let low = below i in is ∙ ap (λ l. get_or l (i / chunk_size) chunk) h.laid ∙ chunk_at chunk_size (length chunks) (i / chunk_size) items chunk (omega arith)

    pub has_place : i < length items → i % chunk_size < length chunk
    has_place lt =
        let counted = h.counted in let room = h.room in let split = divided i in
        subst (λ l. i % chunk_size < length l) (sym (chunk_is (omega arith))) (within_part chunk_size (i / chunk_size) (i % chunk_size) items (omega arith) (below i))

    pub value_is : i < length items → slice_get items i ≡ slice_get chunk (i % chunk_size)
    value_is lt =
        let counted = h.counted in let room = h.room in
        ap (slice_get items) (sym (divided i)) ∙ sym (get_part chunk_size (i / chunk_size) (i % chunk_size) items (below i)) ∙ ap (λ l. slice_get l (i % chunk_size)) (sym (chunk_is (omega arith)))

    pub exchanged : (new : List X) (x : X) → i < length items → new ≡ set chunk (i % chunk_size) x → Sound (set chunks (i / chunk_size) new) count spare × (joined (set chunks (i / chunk_size) new) ≡ set items i x)
    exchanged new x lt e =
        let counted = h.counted in let room = h.room in let split = divided i in let low = below i in let n = length chunks in let q = i / chunk_size in let r = i % chunk_size in
        let same = length-set chunks q new in let long = length-set items i x in
        let laid = ap (set chunks q) (e ∙ ap (λ l. set l r x) (chunk_is (omega arith))) ∙ ap (λ l. set l q (set (part chunk_size q items) r x)) h.laid ∙ put_part chunk_size n q r items x (omega arith) low
        ∙ ap (λ k. chunked chunk_size n (set items k x)) split ∙ ap (λ m. chunked chunk_size m (set items i x)) (sym same) in
        (sound (set chunks q new) (set items i x) laid count spare (omega arith) (omega arith) h.small, values (set chunks q new) (set items i x) laid count spare (omega arith) (omega arith))

  -- the chunk that has the next place
  module _ (chunk : List X) (is : chunk ≡ get_or chunks (count / chunk_size) chunk) (some : 0 < spare) where
    pub next_empty : length chunk < chunk_size
    next_empty =
        let counted = h.counted in let room = h.room in let low = below count in let split = divided count in
        let long = ap length (chunk_is count chunk is (omega arith)) ∙ length_part chunk_size (count / chunk_size) (count % chunk_size) items (omega arith) low in
        omega arith

    pub pushed : (new : List X) (x : X) → new ≡ chunk ++ x ∷ [] → Sound (set chunks (count / chunk_size) new) (count + 1) (spare - 1) × (joined (set chunks (count / chunk_size) new) ≡ items ++ x ∷ [])
    pushed new x e =
        let counted = h.counted in let room = h.room in let small = h.small in let split = divided count in let low = below count in let n = length chunks in let q = count / chunk_size in let r = count % chunk_size in
        let same = length-set chunks q new in let more = length-append items (x ∷ []) in
        let laid = ap (set chunks q) (e ∙ ap (λ l. l ++ x ∷ []) (chunk_is count chunk is (omega arith))) ∙ ap (λ l. set l q (part chunk_size q items ++ x ∷ [])) h.laid
        ∙ push_part chunk_size n q r items x (omega arith) (omega arith) low ∙ ap (λ m. chunked chunk_size m (items ++ x ∷ [])) (sym same) in
        (sound (set chunks q new) (items ++ x ∷ []) laid (count + 1) (spare - 1) (omega arith) (omega arith) (omega arith), values (set chunks q new) (items ++ x ∷ []) laid (count + 1) (spare - 1) (omega arith) (omega arith))

  -- the same values in some chunks more
  module _ (new : List (List X)) (more : Grown chunks new) where
    grown : (new ≡ chunked chunk_size (length new) items) × (length chunks ≤ length new)
    grown =
        let n = length chunks in let k = more.0 in let counted = h.counted in let room = h.room in
        let all : new ≡ chunked chunk_size (n + k) items = more.1 ∙ ap (λ l. l ++ replicate k []) h.laid ∙ more_chunks chunk_size n k (n + k) items refl (omega arith) in
        let long = ap length all ∙ length-chunked chunk_size (n + k) items in
        (all ∙ ap (λ i. chunked chunk_size i items) (sym long), omega arith)

    pub kept : Sound new count spare × (joined new ≡ items)
    kept = let room = h.room in let long = grown.1 in (sound new items grown.0 count spare h.counted (omega arith) h.small, values new items grown.0 count spare h.counted (omega arith))

    pub promised : (n : ℕ) → count + n ≤ length new * chunk_size → count + n < place_limit → Sound new count n
    promised n fits small = sound new items grown.0 count n h.counted fits small
