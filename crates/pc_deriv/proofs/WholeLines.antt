-- A line that is read in place is the line that its bytes give one by one.
use Rattle.std.proofs.{Common.{◌≡◌, ◌≢◌, ℕ, suc, ◌+◌, ◌-◌, ◌<◌, ◌≤◌, Bool, true, false, cond, ◌==◌, List, [], ◌∷◌, ◌++◌, Option, Some, None, Ok, Err, length, take, drop, refl, sym, ap, ◌∙◌, subst, arith, append_assoc, append-nil, length-append, length-drop}, lemmas.Bool.ne_eqb, lemmas.Option.same_Some, lemmas.Slice.between_to_end, Math.Seq.take-append_seam}
use Rattle.std.specs.Prelude.{Result, option_map, nat_le, slice_range}
use Rattle.pc_deriv.specs.{declared.version.Version.Version, declared.line.Line.Line, declared.line.LineFault.LineFault, Text.{slot_line, note_line, SlotFits, NoteFits}, Reading.{head_at, read_slot, note_at}, Lines.{Taken, slot_line_in, node_in, line_in, checked, line_meaning, behind, answered, with_line_byte, took_at, took, with_first_line, fed, longest_line}, Front.{counted, head_says, slot_says, front_slot, front_node, front_line}, Pieces.{NoEnd, EndsOnce, IsNext}}
use Rattle.pc_deriv.specs.declared.line.Line.TheVariants as line
use Rattle.pc_base.proofs.Options.{none_some}
use Rattle.pc_deriv.proofs.{Feeding.{fed_both, fed_stays}, LineReading.{Reads, head_text, HeadFits, head_reads, slot_reads, note_reads}, LineEnds.{Framed, head_framed, slot_framed, note_framed}}

-- ---- the line is the one that the bytes are

without_count : {A : Type 0} (says : A → Line) (text : List ℕ) (o : Option (A × List ℕ)) → option_map (λ r. r.0) (counted says text o) ≡ option_map (λ r. says r.0) o
without_count says text None = refl
without_count says text (Some x) = refl

mapped_cond : {A B : Type 0} (f : A → B) (t : Bool) (a b : Option A) (x y : Option B) → option_map f a ≡ x → option_map f b ≡ y → option_map f (cond t a b) ≡ cond t x y
mapped_cond f true a b x y p q = p
mapped_cond f false a b x y p q = q

pub front_is_in : (v : Version) (counts : Option (ℕ × ℕ)) (ended : ℕ) (text : List ℕ) → option_map (λ r. r.0) (front_line v counts ended text) ≡ line_in v counts ended text
front_is_in v None ended text = without_count head_says text (head_at text)
front_is_in v (Some (slots, nodes)) ended text =
    let first : Line × ℕ → Line = λ r. r.0 in
    let none : Option (Line × ℕ) = None in
    mapped_cond first (nat_le ended slots) (front_slot text) (cond (nat_le ended (slots + nodes)) (front_node v text) none) (slot_line_in text) (cond (nat_le ended (slots + nodes)) (node_in v text) None)
    (without_count slot_says text (read_slot text))
    (mapped_cond first (nat_le ended (slots + nodes)) (front_node v text) none (node_in v text) None (without_count line.Node text (note_at v text)) refl)

-- ---- a complete line at the start of a text

-- The text begins with a line of this number of bytes, no more than the buffer holds, and these bytes alone give the
-- same line.
pub record Stands (says : List ℕ → Option Line) (text : List ℕ) (l : Line) (size : ℕ) : Type 0 where
  pub line : List ℕ
  pub rest : List ℕ
  pub framed : Framed 127 line
  pub is : text ≡ line ++ rest
  pub count : size ≡ length line
  pub same : says line ≡ Some l

counted_some : {A : Type 0} (says : A → Line) (text : List ℕ) (o : Option (A × List ℕ)) (l : Line) (size : ℕ) → counted says text o ≡ Some (l, size)
    → (x : A) × (rest : List ℕ) × (o ≡ Some (x, rest)) × (says x ≡ l) × (size ≡ length text - length rest)
counted_some says text None l size e = absurd (none_some e)
counted_some says text (Some x) l size e =
    let same : (says x.0, length text - length x.1) ≡ (l, size) = same_Some (says x.0, length text - length x.1) (l, size) e in
    (x.0, x.1, refl, ap (λ p. p.0) same, sym (ap (λ p. p.1) same))

module _ {A : Type 0} (read : List ℕ → Option (A × List ℕ)) (line : A → List ℕ) (Fits : A → Type 0) (reads : Reads read (λ x rest. line x ++ rest) Fits) (framed : (x : A) → Fits x → Framed 127 (line x)) (says : A → Line) where
  stands_by : (text : List ℕ) (l : Line) (size : ℕ) → counted says text (read text) ≡ Some (l, size) → Stands (λ bytes. option_map (λ r. says r.0) (read bytes)) text l size
  stands_by text l size e =
      let c = counted_some says text (read text) l size e in
      let s = reads.sound text c.0 c.1 c.2 in
      let whole : length text ≡ length (line c.0) + length c.1 = ap length s.1 ∙ length-append (line c.0) c.1 in
      let number = c.4 in
      record {
        line = line c.0;
        rest = c.1;
        framed = framed c.0 s.0;
        is = s.1;
        count = omega (arith, whole, number);
        same = ap (option_map (λ r. says r.0)) (ap read (sym (append-nil (line c.0))) ∙ reads.own c.0 [] s.0) ∙ ap Some c.3;
      }

cond_stands : (t : Bool) (a b : Option (Line × ℕ)) (p q : List ℕ → Option Line) (text : List ℕ) (l : Line) (size : ℕ) → cond t a b ≡ Some (l, size)
    → (a ≡ Some (l, size) → Stands p text l size) → (b ≡ Some (l, size) → Stands q text l size) → Stands (λ bytes. cond t (p bytes) (q bytes)) text l size
cond_stands true a b p q text l size e f g = f e
cond_stands false a b p q text l size e f g = g e

pub stands : (v : Version) (counts : Option (ℕ × ℕ)) (ended : ℕ) (text : List ℕ) (l : Line) (size : ℕ) → front_line v counts ended text ≡ Some (l, size) → Stands (line_in v counts ended) text l size
stands v None ended text l size e = stands_by head_at head_text HeadFits head_reads head_framed head_says text l size e
stands v (Some (slots, nodes)) ended text l size e =
    let none : Option (Line × ℕ) = None in
    cond_stands (nat_le ended slots) (front_slot text) (cond (nat_le ended (slots + nodes)) (front_node v text) none) slot_line_in (λ bytes. cond (nat_le ended (slots + nodes)) (node_in v bytes) None) text l size e
    (stands_by read_slot slot_line SlotFits slot_reads slot_framed slot_says text l size)
    (λ f. cond_stands (nat_le ended (slots + nodes)) (front_node v text) none (node_in v) (λ bytes. None) text l size f
    (stands_by (note_at v) (note_line v) NoteFits (note_reads v) (note_framed v) line.Node text l size) (λ g. absurd (none_some g)))

-- ---- its bytes, one by one

-- bytes that end no line, and do not fill the buffer
quiet_byte : (t : Taken) (b : ℕ) → t.fault ≡ None → b ≢ 10 → length t.pending + 1 < longest_line → took t b ≡ (Ok None, record t { pending = t.pending ++ b ∷ [] })
quiet_byte t b right other short =
    let answer : Result Line LineFault = line_meaning t.version t.counts t.ended (t.pending ++ b ∷ []) in
    ap (λ o. took_at o t b) right
    ∙ ap (λ s. cond s (answered answer, behind t answer) (with_line_byte t b (length t.pending + 1 == longest_line))) (ne_eqb b 10 other)
    ∙ ap (with_line_byte t b) (ne_eqb (length t.pending + 1) longest_line (λ e. omega (arith, e, short)))

fed_quiet : (t : Taken) (bs : List ℕ) → t.fault ≡ None → NoEnd bs → length t.pending + length bs < longest_line → fed t bs ≡ ([], record t { pending = t.pending ++ bs })
fed_quiet t [] right none short = ap (λ (p : List ℕ). ([], record t { pending = p })) (sym (append-nil t.pending))
fed_quiet t (b ∷ bs) right none short =
    let one : length (b ∷ bs) ≡ suc (length bs) = refl in
    let u : Taken = record t { pending = t.pending ++ b ∷ [] } in
    let size = length-append t.pending (b ∷ []) in
    ap (λ (s : Result (Option Line) LineFault × Taken). (with_first_line s.0 (fed s.1 bs).0, (fed s.1 bs).1)) (quiet_byte t b right none.0 (omega (arith, short, one)))
    ∙ fed_quiet u bs right none.1 (omega (arith, short, one, size))
    ∙ ap (λ (p : List ℕ). ([], record t { pending = p })) (append_assoc t.pending (b ∷ []) bs)

module _ (t : Taken) (right : t.fault ≡ None) (fresh : t.pending ≡ []) (says : Option Line) where
  abbrev answer : Result Line LineFault
  answer = checked (t.ended + 1) says

  -- the last byte ends the line
  end_byte : (front : List ℕ) → line_in t.version t.counts t.ended (front ++ 10 ∷ []) ≡ says → took (record t { pending = front }) 10 ≡ (answered answer, behind t answer)
  end_byte front is =
      ap (λ o. took_at o (record t { pending = front }) 10) right
      ∙ ap (λ (o : Option Line). let r : Result Line LineFault = checked (t.ended + 1) o in (answered r, behind t r)) is

  fed_line : (bytes : List ℕ) → Framed 127 bytes → line_in t.version t.counts t.ended bytes ≡ says → fed t bytes ≡ (with_first_line (answered answer) [], behind t answer)
  fed_line bytes f is =
      let few = f.short in
      let none : length t.pending ≡ 0 = ap length fresh in
      let front : fed t f.front ≡ ([], record t { pending = f.front }) =
      fed_quiet t f.front right f.none (omega (arith, few, none)) ∙ ap (λ (p : List ℕ). ([], record t { pending = p ++ f.front })) fresh in
      ap (fed t) f.is ∙ fed_both t f.front (10 ∷ [])
      ∙ ap (λ (s : List Line × Taken). (s.0 ++ (fed s.1 (10 ∷ [])).0, (fed s.1 (10 ∷ [])).1)) front
      ∙ ap (λ (s : Result (Option Line) LineFault × Taken). (with_first_line s.0 [], s.1)) (end_byte f.front (ap (line_in t.version t.counts t.ended) (sym f.is) ∙ is))

-- ---- in a piece

module _ (t : Taken) (piece : List ℕ) (at size : ℕ) (l : Line) (right : t.fault ≡ None) (fresh : t.pending ≡ []) (within : at ≤ length piece) (so : Stands (line_in t.version t.counts t.ended) (drop at piece) l size) where
  abbrev verdict : Result Line LineFault
  verdict = checked (t.ended + 1) (Some l)

  taken : fed t so.line ≡ (with_first_line (answered verdict) [], behind t verdict)
  taken = fed_line t right fresh (Some l) so.line so.framed so.same

  sizes : length piece - at ≡ size + length so.rest
  sizes = let count = so.count in let cut = sym (length-drop at piece) ∙ ap length so.is ∙ length-append so.line so.rest in omega (arith, count, cut)

  range : slice_range piece at (at + size) ≡ so.line
  range =
      let number : at + size - at ≡ length so.line = let count = so.count in omega (arith, count) in
      ap (λ n. take n (drop at piece)) number ∙ ap (take (length so.line)) so.is ∙ take-append_seam so.line so.rest

  some_bytes : 0 < size
  some_bytes =
      let f = so.framed in
      let count = so.count in
      let cut : length so.line ≡ length f.front + 1 = ap length f.is ∙ length-append f.front (10 ∷ []) in
      omega (arith, count, cut)

  pub whole_line : (m : Line) (u : Taken) → Ok m ≡ verdict → u ≡ behind t (Ok m) → IsNext t piece at (Ok (at + size, Some m)) u
  whole_line m u e is =
      let all = sizes in
      let some = some_bytes in
      let once : EndsOnce so.line = (so.framed.front, so.framed.none, so.framed.is) in (
        omega (arith, some),
        omega (arith, all, within),
        subst EndsOnce (sym range) once,
        ap (fed t) range ∙ taken ∙ ap (λ (r : Result Line LineFault). (with_first_line (answered r) [], behind t r)) (sym e) ∙ ap (λ (w : Taken). (m ∷ [], w)) (sym is),
      )

  pub whole_fault : (f : LineFault) (u : Taken) → Err f ≡ verdict → u ≡ behind t (Err f) → IsNext t piece at (Err f) u
  whole_fault f u e is =
      let wrong : u.fault ≡ Some f = ap (λ (w : Taken). w.fault) is in
      let here : fed t so.line ≡ ([], u) = taken ∙ ap (λ (r : Result Line LineFault). (with_first_line (answered r) [], behind t r)) (sym e) ∙ ap (λ (w : Taken). ([], w)) (sym is) in (
        ap (fed t) so.is ∙ fed_both t so.line so.rest ∙ ap (λ (s : List Line × Taken). (s.0 ++ (fed s.1 so.rest).0, (fed s.1 so.rest).1)) here ∙ fed_stays u f so.rest wrong,
        wrong,
      )

-- ---- where the code looks

pub stands_at : (v : Version) (counts : Option (ℕ × ℕ)) (ended : ℕ) (piece : List ℕ) (at : ℕ) (l : Line) (size : ℕ) → Some (l, size) ≡ front_line v counts ended (slice_range piece at (length piece)) → Stands (line_in v counts ended) (drop at piece) l size
stands_at v counts ended piece at l size e =
    stands v counts ended (drop at piece) l size (ap (front_line v counts ended) (sym (between_to_end piece at (length piece) (omega arith))) ∙ sym e)

pub nothing_left : (n : ℕ) (bytes : List ℕ) → n ≡ 0 → take n bytes ≡ []
nothing_left n bytes e = ap (λ m. take m bytes) e
