-- After well-formed lines, the next line is the next thing of the text, or is the fault of the text.
use Rattle.std.proofs.{Common.{◌≡◌, ℕ, suc, ◌+◌, ◌<◌, ◌≤◌, Bool, true, false, cond, ◌&&◌, ◌==◌, List, [], ◌∷◌, ◌++◌, Option, Some, None, Ok, Err, length, refl, sym, ap, ap₂, ◌∙◌, subst, inl, inr, arith, append_assoc, append-nil, length-append}, lemmas.Bool.{true≢false, eq-eqb, ne_eqb, cases_lt, and_parts}, lemmas.Bool.Decides.nat_tests, lemmas.Option.same_Some}
use Rattle.std.specs.{Prelude.{map, option_map, nat_le}, List.AllByRecursion}
use Rattle.pc_caps.specs.declared.capability.Cap.{Cap}
use Rattle.pc_ann.specs.{declared.annotation.Note.Note, declared.annotation.Ann.Ann}
use Rattle.pc_deriv.specs.{declared.version.Version.Version, declared.line.Line.Line, Text.{head_line, slot_line, note_line, CountsFit, SlotFits, NoteFits, Within, IsText, NoLine, IsBadLine, bad_head, bad_slot, bad_node, bad_end, IsTooMany}, Parts.{derivation_slot_limit, derivation_node_limit, each_line, version_number}, Reading.{head_at, read_slot, note_at}, Lines.{longest_line, head_in, slot_line_in, node_in, line_in, within_limits, version_of, version_with, counts_with, is_whole, line_of_slot, lines_of}, Pieces.NoEnd}
use Rattle.pc_deriv.specs.declared.version.Version.TheVariants as version
use Rattle.pc_deriv.specs.declared.line.Line.TheVariants as line
use Rattle.pc_deriv.specs.declared.line.LineFault.TheVariants as fault
use Rattle.pc_base.proofs.Options.{none_some}
use Rattle.pc_deriv.proofs.{Reached.all_app, LineReading.{head_text, HeadFits, head_reads, slot_reads, note_reads}, LineEnds.{head_framed, slot_framed, note_framed, none_long, none_ended, none_open, is_line}}

-- ---- what was read

-- this number of slots, fewer than the first line states
pub record InSlots (v : Version) (counts : ℕ × ℕ) (prefix : List ℕ) (ls : List Line) (ended : ℕ) : Type 0 where
  pub slots : List (ℕ × Cap)
  pub fits : CountsFit counts
  pub within : Within counts
  pub fit : AllByRecursion SlotFits slots
  pub is : prefix ≡ head_line v counts ++ each_line slot_line slots
  pub fewer : length slots < counts.0
  pub number : ended ≡ length slots + 1
  pub said : ls ≡ line.Head (version_number v) counts.0 counts.1 ∷ map line_of_slot slots

-- all slots, and this number of nodes
pub record InNotes (v : Version) (counts : ℕ × ℕ) (prefix : List ℕ) (ls : List Line) (ended : ℕ) : Type 0 where
  pub slots : List (ℕ × Cap)
  pub notes : List Note
  pub fits : CountsFit counts
  pub within : Within counts
  pub fit : AllByRecursion SlotFits slots
  pub note_fit : AllByRecursion NoteFits notes
  pub is : prefix ≡ head_line v counts ++ (each_line slot_line slots ++ each_line (note_line v) notes)
  pub full : length slots ≡ counts.0
  pub few : length notes ≤ counts.1
  pub number : ended ≡ counts.0 + length notes + 1
  pub said : ls ≡ line.Head (version_number v) counts.0 counts.1 ∷ (map line_of_slot slots ++ map line.Node notes)

pub data Place (v : Version) (counts : Option (ℕ × ℕ)) (prefix : List ℕ) (ls : List Line) (ended : ℕ) : Type 0 where
  at_first : counts ≡ None → prefix ≡ [] → ls ≡ [] → ended ≡ 0 → Place v counts prefix ls ended
  in_slots : (c : ℕ × ℕ) → counts ≡ Some c → InSlots v c prefix ls ended → Place v counts prefix ls ended
  in_notes : (c : ℕ × ℕ) → counts ≡ Some c → InNotes v c prefix ls ended → Place v counts prefix ls ended

-- ---- the effect of a line

-- A well-formed line is the next one, or its counts exceed a limit.
pub data Took (v : Version) (counts : Option (ℕ × ℕ)) (prefix : List ℕ) (ls : List Line) (ended : ℕ) (pending : List ℕ) (l : Line) : Type 0 where
  next : within_limits l ≡ Ok l → Place (version_with v l) (counts_with counts l) (prefix ++ (pending ++ 10 ∷ [])) (ls ++ l ∷ []) (ended + 1) → Took v counts prefix ls ended pending l
  passes : within_limits l ≡ Err fault.TooMany → ((more : List ℕ) → IsTooMany (prefix ++ (pending ++ 10 ∷ more))) → Took v counts prefix ls ended pending l

-- if nothing follows
abbrev pub Closes : List ℕ → List Line → (n : ℕ) → Bool → Type 0
Closes bytes ls n true = (ann : Ann) × (is : IsText bytes ann) × (ls ≡ lines_of is.version ann)
Closes bytes ls n false = IsBadLine bytes n

pub record Stage (v : Version) (counts : Option (ℕ × ℕ)) (prefix : List ℕ) (ls : List Line) (ended : ℕ) : Type 0 where
  pub long : (l more : List ℕ) → NoEnd l → longest_line ≤ length l → IsBadLine (prefix ++ (l ++ more)) (ended + 1)
  pub no_line : (pending more : List ℕ) → NoEnd pending → line_in v counts ended (pending ++ 10 ∷ []) ≡ None → IsBadLine (prefix ++ (pending ++ 10 ∷ more)) (ended + 1)
  pub line : (pending : List ℕ) (l : Line) → NoEnd pending → line_in v counts ended (pending ++ 10 ∷ []) ≡ Some l → Took v counts prefix ls ended pending l
  pub closes : (pending : List ℕ) → NoEnd pending → Closes (prefix ++ pending) ls (ended + 1) (is_whole counts ended pending)

-- ---- lemmas

mapped_none : {A B : Type 0} (f : A → B) (o : Option A) → option_map f o ≡ None → o ≡ None
mapped_none f None e = refl
mapped_none f (Some x) e = absurd (none_some (sym e))

mapped_some : {A B : Type 0} (f : A → B) (o : Option A) (y : B) → option_map f o ≡ Some y → (x : A) × (o ≡ Some x) × (f x ≡ y)
mapped_some f None y e = absurd (none_some e)
mapped_some f (Some x) y e = (x, refl, same_Some (f x) y e)

lines_push : {A : Type 0} (text : A → List ℕ) (xs : List A) (x : A) → each_line text (xs ++ x ∷ []) ≡ each_line text xs ++ text x
lines_push text [] x = append-nil (text x)
lines_push text (y ∷ ys) x = ap (λ l. text y ++ l) (lines_push text ys x) ∙ sym (append_assoc (text y) (each_line text ys) (text x))

map_push : {A B : Type 0} (f : A → B) (xs : List A) (x : A) → map f (xs ++ x ∷ []) ≡ map f xs ++ f x ∷ []
map_push f [] x = refl
map_push f (y ∷ ys) x = ap (λ l. f y ∷ l) (map_push f ys x)

count_push : {A : Type 0} (xs : List A) (x : A) → length (xs ++ x ∷ []) ≡ length xs + 1
count_push xs x = length-append xs (x ∷ [])

le_true : (m n : ℕ) → m ≤ n → nat_le m n ≡ true
le_true m n h = grind (arith, nat_tests)

le_false : (m n : ℕ) → n < m → nat_le m n ≡ false
le_false m n h = grind (arith, nat_tests)

-- ---- the first line

abbrev head_of : (Version × (ℕ × ℕ)) × List ℕ → Line
head_of r = line.Head (version_number r.0.0) r.0.1.0 r.0.1.1

version_again : (v : Version) → version_of (version_number v) ≡ v
version_again version.One = refl
version_again version.Two = refl

past_by : (a b : ℕ) (t : Bool) → (nat_le a derivation_slot_limit && nat_le b derivation_node_limit) ≡ t → t ≡ false → Within (a, b) → ⊥
past_by a b t p e w =
    let first : nat_le a derivation_slot_limit ≡ true = le_true a derivation_slot_limit w.0 in
    let second : nat_le b derivation_node_limit ≡ true = le_true b derivation_node_limit w.1 in
    true≢false (sym (ap₂ (λ x y. x && y) first second) ∙ p ∙ e)

within_by : (a b : ℕ) → (nat_le a derivation_slot_limit && nat_le b derivation_node_limit) ≡ true → Within (a, b)
within_by a b e =
    let h = and_parts (nat_le a derivation_slot_limit) (nat_le b derivation_node_limit) e in
    let first = h.0 in
    let second = h.1 in
    let p : a ≤ derivation_slot_limit = grind (arith, nat_tests) in
    let q : b ≤ derivation_node_limit = grind (arith, nat_tests) in
    (p, q)

behind_head : (v : Version) (a b : ℕ) (prefix : List ℕ) (ls : List Line) (ended : ℕ) → CountsFit (a, b) → Within (a, b) → prefix ≡ head_line v (a, b) → ls ≡ line.Head (version_number v) a b ∷ [] → ended ≡ 1 → Place v (Some (a, b)) prefix ls ended
behind_head v a b prefix ls ended fits w is said number = elim (cases_lt 0 a) [
  | inl some ↦ in_slots (a, b) refl (record { slots = []; fits = fits; within = w; fit = tt; is = is ∙ sym (append-nil (head_line v (a, b))); fewer = some; number = number; said = said })
  | inr none ↦ in_notes (a, b) refl (record {
    slots = [];
    notes = [];
    fits = fits;
    within = w;
    fit = tt;
    note_fit = tt;
    is = is ∙ sym (append-nil (head_line v (a, b)));
    full = omega (arith, none);
    few = omega arith;
    number = omega (arith, number, none);
    said = said;
  })
]

module _ (v : Version) where
  head_by : (pending : List ℕ) (x : Version × (ℕ × ℕ)) (t : Bool) → (nat_le x.1.0 derivation_slot_limit && nat_le x.1.1 derivation_node_limit) ≡ t → NoEnd pending → HeadFits x → pending ++ 10 ∷ [] ≡ head_text x
      → Took v None [] [] 0 pending (line.Head (version_number x.0) x.1.0 x.1.1)
  head_by pending x true p none fits is =
      let l = line.Head (version_number x.0) x.1.0 x.1.1 in
      next (ap (λ (b : Bool). cond b (Ok l) (Err fault.TooMany)) p)
      (subst (λ w. Place w (Some x.1) (pending ++ 10 ∷ []) (l ∷ []) (0 + 1)) (sym (version_again x.0))
      (behind_head x.0 x.1.0 x.1.1 (pending ++ 10 ∷ []) (l ∷ []) (0 + 1) fits (within_by x.1.0 x.1.1 p) is refl (omega arith)))
  head_by pending x false p none fits is =
      let l = line.Head (version_number x.0) x.1.0 x.1.1 in
      passes (ap (λ (b : Bool). cond b (Ok l) (Err fault.TooMany)) p)
      (λ more. (x.0, x.1, more, (fits, sym (append_assoc pending (10 ∷ []) more) ∙ ap (λ l. l ++ more) is), past_by x.1.0 x.1.1 false p refl))

  head_line_of : (pending : List ℕ) (l : Line) → NoEnd pending → head_in (pending ++ 10 ∷ []) ≡ Some l → Took v None [] [] 0 pending l
  head_line_of pending l none e =
      let m = mapped_some head_of (head_at (pending ++ 10 ∷ [])) l e in
      let h = is_line head_at head_text HeadFits head_reads head_framed pending m.0.0 m.0.1 none m.1 in
      subst (Took v None [] [] 0 pending) m.2
      (head_by pending m.0.0 (nat_le m.0.0.1.0 derivation_slot_limit && nat_le m.0.0.1.1 derivation_node_limit) refl none h.0 h.1)

  first_stage : Stage v None [] [] 0
  first_stage = record {
    long = λ l more none h. bad_head (λ w counts. none_long head_at head_text HeadFits head_reads head_framed l more none h (w, counts)) (omega arith);
    no_line = λ pending more none e. bad_head (λ w counts. none_ended head_at head_text HeadFits head_reads head_framed pending more none (mapped_none head_of (head_at (pending ++ 10 ∷ [])) e) (w, counts)) (omega arith);
    line = head_line_of;
    closes = λ pending none. bad_head (λ w counts. none_open head_at head_text HeadFits head_reads head_framed pending none (w, counts)) (omega arith);
  }

-- ---- a slot

abbrev slot_read : (ℕ × Cap) × List ℕ → Line
slot_read r = line.Slot r.0.0 r.0.1

module _ (v : Version) (counts : ℕ × ℕ) (prefix : List ℕ) (ls : List Line) (ended : ℕ) (so : InSlots v counts prefix ls ended) where
  slot_cut : (rest : List ℕ) → prefix ++ rest ≡ head_line v counts ++ (each_line slot_line so.slots ++ rest)
  slot_cut rest = ap (λ l. l ++ rest) so.is ∙ append_assoc (head_line v counts) (each_line slot_line so.slots) rest

  slot_bad : (rest : List ℕ) → NoLine slot_line SlotFits rest → IsBadLine (prefix ++ rest) (ended + 1)
  slot_bad rest none = bad_slot v (so.fits, slot_cut rest) so.within (record { fit = so.fit; cut = refl }) so.fewer none (omega (arith, so.number))

  slot_stands : (l : List ℕ) → line_in v (Some counts) ended l ≡ slot_line_in l
  slot_stands l =
      let low = so.number in
      let less = so.fewer in
      ap (λ t. cond t (slot_line_in l) (cond (nat_le ended (counts.0 + counts.1)) (node_in v l) None)) (le_true ended counts.0 (omega (arith, low, less)))

  slot_on : (pending : List ℕ) (x : ℕ × Cap) → SlotFits x → pending ++ 10 ∷ [] ≡ slot_line x → Place v (Some counts) (prefix ++ (pending ++ 10 ∷ [])) (ls ++ line_of_slot x ∷ []) (ended + 1)
  slot_on pending x fits is =
      let slots = so.slots ++ x ∷ [] in
      let size = count_push so.slots x in
      let low = so.number in
      let less = so.fewer in
      let same : prefix ++ (pending ++ 10 ∷ []) ≡ head_line v counts ++ each_line slot_line slots = slot_cut (pending ++ 10 ∷ []) ∙ ap (λ l. head_line v counts ++ (each_line slot_line so.slots ++ l)) is ∙ ap (λ l. head_line v counts ++ l) (sym (lines_push slot_line so.slots x)) in
      let told : ls ++ line_of_slot x ∷ [] ≡ line.Head (version_number v) counts.0 counts.1 ∷ map line_of_slot slots = ap (λ l. l ++ line_of_slot x ∷ []) so.said ∙ ap (λ l. line.Head (version_number v) counts.0 counts.1 ∷ l) (sym (map_push line_of_slot so.slots x)) in
      elim (cases_lt (length slots) counts.0) [
        | inl some ↦ in_slots counts refl (record {
          slots = slots;
          fits = so.fits;
          within = so.within;
          fit = all_app SlotFits so.slots x so.fit fits;
          is = same;
          fewer = some;
          number = omega (arith, low, size);
          said = told;
        })
        | inr all ↦ in_notes counts refl (record {
          slots = slots;
          notes = [];
          fits = so.fits;
          within = so.within;
          fit = all_app SlotFits so.slots x so.fit fits;
          note_fit = tt;
          is = same ∙ ap (λ l. head_line v counts ++ l) (sym (append-nil (each_line slot_line slots)));
          full = omega (arith, all, less, size);
          few = omega arith;
          number = omega (arith, low, all, less, size);
          said = told ∙ ap (λ l. line.Head (version_number v) counts.0 counts.1 ∷ l) (sym (append-nil (map line_of_slot slots)));
        })
      ]

  slot_line_of : (pending : List ℕ) (l : Line) → NoEnd pending → line_in v (Some counts) ended (pending ++ 10 ∷ []) ≡ Some l → Took v (Some counts) prefix ls ended pending l
  slot_line_of pending l none e =
      let m = mapped_some slot_read (read_slot (pending ++ 10 ∷ [])) l (sym (slot_stands (pending ++ 10 ∷ [])) ∙ e) in
      let h = is_line read_slot slot_line SlotFits slot_reads slot_framed pending m.0.0 m.0.1 none m.1 in
      subst (Took v (Some counts) prefix ls ended pending) m.2 (next refl (slot_on pending m.0.0 h.0 h.1))

  slot_open : (pending : List ℕ) → is_whole (Some counts) ended pending ≡ false
  slot_open pending =
      let low = so.number in
      let less = so.fewer in
      ap (λ t. t && (length pending == 0)) (ne_eqb ended (counts.0 + counts.1 + 1) (λ e. omega (arith, e, low, less)))

  slot_stage : Stage v (Some counts) prefix ls ended
  slot_stage = record {
    long = λ l more none h. slot_bad (l ++ more) (none_long read_slot slot_line SlotFits slot_reads slot_framed l more none h);
    no_line = λ pending more none e. slot_bad (pending ++ 10 ∷ more) (none_ended read_slot slot_line SlotFits slot_reads slot_framed pending more none (mapped_none slot_read (read_slot (pending ++ 10 ∷ [])) (sym (slot_stands (pending ++ 10 ∷ [])) ∙ e)));
    line = slot_line_of;
    closes = λ pending none. subst (Closes (prefix ++ pending) ls (ended + 1)) (sym (slot_open pending)) (slot_bad pending (none_open read_slot slot_line SlotFits slot_reads slot_framed pending none));
  }

-- ---- a node, and the end

abbrev node_read : Note × List ℕ → Line
node_read r = line.Node r.0

module _ (v : Version) (counts : ℕ × ℕ) (prefix : List ℕ) (ls : List Line) (ended : ℕ) (so : InNotes v counts prefix ls ended) where
  note_cut : (rest : List ℕ) → prefix ++ rest ≡ head_line v counts ++ (each_line slot_line so.slots ++ (each_line (note_line v) so.notes ++ rest))
  note_cut rest =
      ap (λ l. l ++ rest) so.is ∙ append_assoc (head_line v counts) (each_line slot_line so.slots ++ each_line (note_line v) so.notes) rest
      ∙ ap (λ l. head_line v counts ++ l) (append_assoc (each_line slot_line so.slots) (each_line (note_line v) so.notes) rest)

  note_bad : (rest : List ℕ) → length so.notes < counts.1 → NoLine (note_line v) NoteFits rest → IsBadLine (prefix ++ rest) (ended + 1)
  note_bad rest less none = bad_node v (so.fits, note_cut rest) so.within (record { fit = so.fit; cut = refl }) so.full (record { fit = so.note_fit; cut = refl }) less none (omega (arith, so.number))

  end_bad : (rest : List ℕ) → length so.notes ≡ counts.1 → 0 < length rest → IsBadLine (prefix ++ rest) (ended + 1)
  end_bad rest all some = bad_end v (so.fits, note_cut rest) so.within (record { fit = so.fit; cut = refl }) so.full (record { fit = so.note_fit; cut = refl }) all some (omega (arith, so.number, all))

  no_slot : nat_le ended counts.0 ≡ false
  no_slot = let number = so.number in le_false ended counts.0 (omega (arith, number))

  note_stands : (l : List ℕ) → length so.notes < counts.1 → line_in v (Some counts) ended l ≡ node_in v l
  note_stands l less =
      let number = so.number in
      ap (λ t. cond t (slot_line_in l) (cond (nat_le ended (counts.0 + counts.1)) (node_in v l) None)) no_slot
      ∙ ap (λ t. cond t (node_in v l) None) (le_true ended (counts.0 + counts.1) (omega (arith, number, less)))

  none_stands : (l : List ℕ) → length so.notes ≡ counts.1 → line_in v (Some counts) ended l ≡ None
  none_stands l all =
      let number = so.number in
      ap (λ t. cond t (slot_line_in l) (cond (nat_le ended (counts.0 + counts.1)) (node_in v l) None)) no_slot
      ∙ ap (λ t. cond t (node_in v l) None) (le_false ended (counts.0 + counts.1) (omega (arith, number, all)))

  note_on : (pending : List ℕ) (x : Note) → length so.notes < counts.1 → NoteFits x → pending ++ 10 ∷ [] ≡ note_line v x → Place v (Some counts) (prefix ++ (pending ++ 10 ∷ [])) (ls ++ line.Node x ∷ []) (ended + 1)
  note_on pending x less fits is =
      let notes = so.notes ++ x ∷ [] in
      let size = count_push so.notes x in
      let number = so.number in
      in_notes counts refl (record {
        slots = so.slots;
        notes = notes;
        fits = so.fits;
        within = so.within;
        fit = so.fit;
        note_fit = all_app NoteFits so.notes x so.note_fit fits;
        is = note_cut (pending ++ 10 ∷ []) ∙ ap (λ l. head_line v counts ++ (each_line slot_line so.slots ++ (each_line (note_line v) so.notes ++ l))) is
            ∙ ap (λ l. head_line v counts ++ (each_line slot_line so.slots ++ l)) (sym (lines_push (note_line v) so.notes x));
        full = so.full;
        few = omega (arith, less, size);
        number = omega (arith, number, size);
        said = ap (λ l. l ++ line.Node x ∷ []) so.said
            ∙ ap (λ l. line.Head (version_number v) counts.0 counts.1 ∷ l) (append_assoc (map line_of_slot so.slots) (map line.Node so.notes) (line.Node x ∷ []) ∙ ap (λ l. map line_of_slot so.slots ++ l) (sym (map_push line.Node so.notes x)));
      })

  note_line_of : (pending : List ℕ) (l : Line) → length so.notes < counts.1 → NoEnd pending → line_in v (Some counts) ended (pending ++ 10 ∷ []) ≡ Some l → Took v (Some counts) prefix ls ended pending l
  note_line_of pending l less none e =
      let m = mapped_some node_read (note_at v (pending ++ 10 ∷ [])) l (sym (note_stands (pending ++ 10 ∷ []) less) ∙ e) in
      let h = is_line (note_at v) (note_line v) NoteFits (note_reads v) (note_framed v) pending m.0.0 m.0.1 none m.1 in
      subst (Took v (Some counts) prefix ls ended pending) m.2 (next refl (note_on pending m.0.0 less h.0 h.1))

  note_open : (pending : List ℕ) → length so.notes < counts.1 → is_whole (Some counts) ended pending ≡ false
  note_open pending less =
      let number = so.number in
      ap (λ t. t && (length pending == 0)) (ne_eqb ended (counts.0 + counts.1 + 1) (λ e. omega (arith, e, number, less)))

  note_stage : length so.notes < counts.1 → Stage v (Some counts) prefix ls ended
  note_stage less = record {
    long = λ l more none h. note_bad (l ++ more) less (none_long (note_at v) (note_line v) NoteFits (note_reads v) (note_framed v) l more none h);
    no_line = λ pending more none e. note_bad (pending ++ 10 ∷ more) less (none_ended (note_at v) (note_line v) NoteFits (note_reads v) (note_framed v) pending more none (mapped_none node_read (note_at v (pending ++ 10 ∷ [])) (sym (note_stands (pending ++ 10 ∷ []) less) ∙ e)));
    line = λ pending l none e. note_line_of pending l less none e;
    closes = λ pending none. subst (Closes (prefix ++ pending) ls (ended + 1)) (sym (note_open pending less)) (note_bad pending less (none_open (note_at v) (note_line v) NoteFits (note_reads v) (note_framed v) pending none));
  }

  whole_text : length so.notes ≡ counts.1 → (ann : Ann) × (is : IsText prefix ann) × (ls ≡ lines_of is.version ann)
  whole_text all =
      let ann : Ann = record { slots = so.slots; notes = so.notes } in
      let counted : (length so.slots, length so.notes) ≡ counts = ap₂ (λ (a : ℕ) (b : ℕ). (a, b)) so.full all in (
        ann,
        record { version = v; slots = so.fit; notes = so.note_fit; within = subst Within (sym counted) so.within; same = so.is ∙ ap (λ c. head_line v c ++ (each_line slot_line so.slots ++ each_line (note_line v) so.notes)) (sym counted) },
        so.said ∙ ap (λ (c : ℕ × ℕ). line.Head (version_number v) c.0 c.1 ∷ (map line_of_slot so.slots ++ map line.Node so.notes)) (sym counted),
      )

  end_closes : (pending : List ℕ) → length so.notes ≡ counts.1 → Closes (prefix ++ pending) ls (ended + 1) (is_whole (Some counts) ended pending)
  end_closes [] all =
      let number = so.number in
      let is : (ended == counts.0 + counts.1 + 1) ≡ true = eq-eqb ended (counts.0 + counts.1 + 1) (omega (arith, number, all)) in
      subst (Closes (prefix ++ []) ls (ended + 1)) (sym (ap (λ t. t && true) is)) (subst (λ bytes. Closes bytes ls (ended + 1) true) (sym (append-nil prefix)) (whole_text all))
  end_closes (b ∷ bs) all =
      let number = so.number in
      let some : (length (b ∷ bs) == 0) ≡ false = ne_eqb (length (b ∷ bs)) 0 (λ e. omega (arith, e)) in
      let is : (ended == counts.0 + counts.1 + 1) ≡ true = eq-eqb ended (counts.0 + counts.1 + 1) (omega (arith, number, all)) in
      subst (Closes (prefix ++ b ∷ bs) ls (ended + 1)) (sym (ap₂ (λ x y. x && y) is some)) (end_bad (b ∷ bs) all (omega arith))

  end_stage : length so.notes ≡ counts.1 → Stage v (Some counts) prefix ls ended
  end_stage all = record {
    long = λ l more none h. end_bad (l ++ more) all (let size = length-append l more in omega (arith, size, h));
    no_line = λ pending more none e. end_bad (pending ++ 10 ∷ more) all (let size = length-append pending (10 ∷ more) in let one : length (10 ∷ more) ≡ suc (length more) = refl in omega (arith, size, one));
    line = λ pending l none e. absurd (none_some (sym (none_stands (pending ++ 10 ∷ []) all) ∙ e));
    closes = λ pending none. end_closes pending all;
  }

pub stage : (v : Version) (counts : Option (ℕ × ℕ)) (prefix : List ℕ) (ls : List Line) (ended : ℕ) → Place v counts prefix ls ended → Stage v counts prefix ls ended
stage v counts prefix ls ended (at_first e p q r) =
    subst (λ c. Stage v c prefix ls ended) (sym e) (subst (λ x. Stage v None x ls ended) (sym p) (subst (λ x. Stage v None [] x ended) (sym q) (subst (λ x. Stage v None [] [] x) (sym r) (first_stage v))))
stage v counts prefix ls ended (in_slots c e so) = subst (λ x. Stage v x prefix ls ended) (sym e) (slot_stage v c prefix ls ended so)
stage v counts prefix ls ended (in_notes c e so) = subst (λ x. Stage v x prefix ls ended) (sym e) (elim (cases_lt (length so.notes) c.1) [
  | inl less ↦ note_stage v c prefix ls ended so less
  | inr all ↦ let few = so.few in end_stage v c prefix ls ended so (omega (arith, all, few))
])
