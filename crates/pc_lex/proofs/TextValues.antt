-- A byte of a text's value is read as it is written.
use Rattle.std.proofs.{Common.{◌≡◌, ℕ, zero, suc, ◌+◌, ◌*◌, ◌<◌, ◌≤◌, Bool, true, false, cond, ◌&&◌, ◌==◌, List, [], ◌∷◌, ◌++◌, length, take, drop, Option, Some, None, Result, Ok, Err, IfOk, refl, sym, ap, ap₂, ◌∙◌, subst, inl, inr, arith, length-append, append_assoc, append-nil, take-add, drop_at, take-append-drop, length-drop, length-take-le, drop-drop}, lemmas.Bool.{eqb-true, and_parts}, lemmas.Option.same_Some}
use Rattle.std.specs.{Prelude.IfErr, Char.{is_digit, digit_value}}
use Rattle.pc_lex.specs.{Pieces.{is_plain, escape_of, Writes, Written}, Faults.{NoByte, BadAt}, TextReading.{escape_at, escape_here, byte_at, with_first, on_byte, unescape_in, unescape, EscapeWithin}, EscapeFaults.{IsBadEscape, GivesValue}, declared.texts.EscapeFault.EscapeFault}
use Rattle.pc_lex.specs.declared.texts.EscapeFault.TheVariants as fault
use Rattle.pc_base.proofs.{Options.none_some, Cuts.same_cut}

pub byte_read : (one rest : List ℕ) (v : ℕ) → Writes one v → byte_at (one ++ rest) ≡ Some (v, length one)
unfolding byte_at
byte_read one rest v (inl h) = subst (λ l. byte_at (l ++ rest) ≡ Some (v, length l)) (sym h.0) (rw h.1 refl)
byte_read one rest v (inr (inl h)) = subst (λ l. byte_at (l ++ rest) ≡ Some (v, length l)) (sym h.1) (rw h.2 refl)
byte_read one rest v (inr (inr h)) = subst (λ l. byte_at (l ++ rest) ≡ Some (v, length l)) (sym h.2) (rw (h.3, h.4, h.5) refl)

pub byte_none : (text : List ℕ) → byte_at text ≡ None → NoByte text
byte_none text none one rest v e h = none_some (sym none ∙ ap byte_at e ∙ byte_read one rest v h)

hex_step : (e h l : ℕ) (t : List ℕ) (x : ℕ × ℕ) (s : Bool) → (e == 120 && (is_digit h 16 && is_digit l 16)) ≡ s → cond s (Some (digit_value h * 16 + digit_value l, 4)) None ≡ Some x → Writes (take x.1 (92 ∷ e ∷ h ∷ l ∷ t)) x.0
hex_step e h l t x false is got = absurd (none_some got)
hex_step e h l t x true is got =
    let same = same_Some (digit_value h * 16 + digit_value l, 4) x got in
    let (name, digits) = and_parts (e == 120) (is_digit h 16 && is_digit l 16) is in
    let (high, low) = and_parts (is_digit h 16) (is_digit l 16) digits in
    let whole : take x.1 (92 ∷ e ∷ h ∷ l ∷ t) ≡ 92 ∷ 120 ∷ h ∷ l ∷ [] = ap₂ (λ n c. take n (92 ∷ c ∷ h ∷ l ∷ t)) (sym (ap (λ y. y.1) same)) (eqb-true e 120 name) in
    inr (inr (h, l, whole, high, low, sym (ap (λ y. y.0) same)))

name_step : (e : ℕ) (t : List ℕ) (x : ℕ × ℕ) (o : Option ℕ) → escape_of e ≡ o → escape_at e t o ≡ Some x → Writes (take x.1 (92 ∷ e ∷ t)) x.0
name_step e t x (Some v) is got =
    let same = same_Some (v, 2) x got in
    inr (inl (e, ap (λ n. take n (92 ∷ e ∷ t)) (sym (ap (λ y. y.1) same)), is ∙ ap Some (ap (λ y. y.0) same)))
name_step e [] x None is got = absurd (none_some got)
name_step e (h ∷ []) x None is got = absurd (none_some got)
name_step e (h ∷ l ∷ t) x None is got = hex_step e h l t x (e == 120 && (is_digit h 16 && is_digit l 16)) refl got

here_step : (b : ℕ) (t : List ℕ) (x : ℕ × ℕ) → b ≡ 92 → escape_here t ≡ Some x → Writes (take x.1 (b ∷ t)) x.0
here_step b [] x is got = absurd (none_some got)
here_step b (e ∷ t) x is got = subst (λ c. Writes (take x.1 (c ∷ e ∷ t)) x.0) (sym is) (name_step e t x (escape_of e) refl got)

byte_step : (b : ℕ) (t : List ℕ) (x : ℕ × ℕ) (p s : Bool) → is_plain b ≡ p → (b == 92) ≡ s → cond p (Some (b, 1)) (cond s (escape_here t) None) ≡ Some x → Writes (take x.1 (b ∷ t)) x.0
byte_step b t x true s is e got =
    let same = same_Some (b, 1) x got in
    let value : b ≡ x.0 = ap (λ y. y.0) same in
    inl (ap (λ n. take n (b ∷ t)) (sym (ap (λ y. y.1) same)) ∙ ap (λ c. c ∷ []) value, ap is_plain (sym value) ∙ is)
byte_step b t x false true is e got = here_step b t x (eqb-true b 92 e) got
byte_step b t x false false is e got = absurd (none_some got)

pub byte_sound : (text : List ℕ) (x : ℕ × ℕ) → byte_at text ≡ Some x → Writes (take x.1 text) x.0
unfolding byte_at
byte_sound [] x got = absurd (none_some got)
byte_sound (b ∷ t) x got = byte_step b t x (is_plain b) (b == 92) refl refl got

pub written_add : (vs b one : List ℕ) (v : ℕ) → Written b vs → Writes one v → Written (b ++ one) (vs ++ v ∷ [])
written_add [] b one v h w = (one, [], ap (λ l. l ++ one) h ∙ sym (append-nil one), w, refl)
written_add (x ∷ vs) b one v h w = (h.0, h.1 ++ one, ap (λ l. l ++ one) h.2 ∙ append_assoc h.0 h.1 one, h.3, written_add vs h.1 one v h.4 w)

pub written_on : (body vs : List ℕ) (at : ℕ) (x : ℕ × ℕ) → Written (take at body) vs → byte_at (drop at body) ≡ Some x → Written (take (at + x.1) body) (vs ++ x.0 ∷ [])
written_on body vs at x h got =
    subst (λ l. Written l (vs ++ x.0 ∷ [])) (sym (take-add at x.1 body)) (written_add vs (take at body) (take x.1 (drop at body)) x.0 h (byte_sound (drop at body) x got))

-- one byte is spelled in only one way
writes_one : (one two r s : List ℕ) (v w : ℕ) → one ++ r ≡ two ++ s → Writes one v → Writes two w → (one ≡ two) × (v ≡ w) × (r ≡ s)
writes_one one two r s v w e h i =
    let same = same_Some (v, length one) (w, length two) (sym (byte_read one r v h) ∙ ap byte_at e ∙ byte_read two s w i) in
    let cut = same_cut one r two s e (ap (λ y. y.1) same) in
    (cut.0, ap (λ y. y.0) same, cut.1)

writes_some : (one : List ℕ) (v : ℕ) → Writes one v → 0 < length one
writes_some one v (inl h) = omega (arith, ap length h.0)
writes_some one v (inr (inl h)) = omega (arith, ap length h.1)
writes_some one v (inr (inr h)) = omega (arith, ap length h.2)

-- bytes have one value
pub written_one : (vs ws b : List ℕ) → Written b vs → Written b ws → vs ≡ ws
written_one [] [] b h i = refl
written_one [] (w ∷ ws) b h i = let some = writes_some i.0 w i.3 in absurd (omega (arith, some, ap length h, ap length i.2, length-append i.0 i.1))
written_one (v ∷ vs) [] b h i = let some = writes_some h.0 v h.3 in absurd (omega (arith, some, ap length i, ap length h.2, length-append h.0 h.1))
written_one (v ∷ vs) (w ∷ ws) b h i =
    let same = writes_one h.0 i.0 h.1 i.1 v w (sym h.2 ∙ i.2) h.3 i.3 in
    ap₂ (λ x xs. x ∷ xs) same.1 (written_one vs ws h.1 h.4 (subst (λ l. Written l ws) (sym same.2) i.4))

-- what is spelled is read, with any sufficient bound on the recursion
value_step : (n : ℕ) (b one rest : List ℕ) (v : ℕ) → length b ≤ n → b ≡ one ++ rest → Writes one v → (m : ℕ) × (n ≡ suc m) × (length rest ≤ m) × (unescape_in n b ≡ with_first (v, length one) (unescape_in m rest))
value_step zero b one rest v enough e w = let some = writes_some one v w in absurd (omega (arith, some, enough, ap length e, length-append one rest))
value_step (suc m) [] one rest v enough e w = let some = writes_some one v w in absurd (omega (arith, some, ap length e, length-append one rest))
value_step (suc m) (b ∷ bs) one rest v enough e w =
    let some = writes_some one v w in
    let read : byte_at (b ∷ bs) ≡ Some (v, length one) = ap byte_at e ∙ byte_read one rest v w in
    let back : drop (length one) (b ∷ bs) ≡ rest = ap (λ l. drop (length one) l) e ∙ drop_at one rest (length one) refl in
    (m, refl, omega (arith, some, enough, ap length e, length-append one rest), ap (λ o. on_byte o (λ len. unescape_in m (drop len (b ∷ bs)))) read ∙ ap (λ l. with_first (v, length one) (unescape_in m l)) back)

read_nothing : (n : ℕ) (b : List ℕ) → b ≡ [] → unescape_in n b ≡ Ok []
read_nothing zero b e = refl
read_nothing (suc n) [] e = refl
read_nothing (suc n) (b ∷ bs) e = let bad : ⊥ = cc in absurd bad

value_in : (vs b : List ℕ) (n : ℕ) → length b ≤ n → Written b vs → unescape_in n b ≡ Ok vs
value_in [] b n enough h = read_nothing n b h
value_in (v ∷ vs) b n enough h =
    let s = value_step n b h.0 h.1 v enough h.2 h.3 in
    s.3 ∙ ap (with_first (v, length h.0)) (value_in vs h.1 s.0 s.2 h.4)

none_or : (text : List ℕ) (o : Option (ℕ × ℕ)) → byte_at text ≡ o → 0 < length text → NoByte text → byte_at text ≡ None
none_or text None e some h = e
none_or text (Some x) e some h = absurd (h (take x.1 text) (drop x.1 text) x.0 (sym (take-append-drop x.1 text)) (byte_sound text x e))

bad_here : (n : ℕ) (text : List ℕ) → length text ≤ n → 0 < length text → NoByte text → unescape_in n text ≡ Err 0
bad_here zero text enough some h = absurd (omega (arith, enough, some))
bad_here (suc n) [] enough some h = absurd (omega (arith, some))
bad_here (suc n) (b ∷ bs) enough some h = ap (λ o. on_byte o (λ len. unescape_in n (drop len (b ∷ bs)))) (none_or (b ∷ bs) (byte_at (b ∷ bs)) refl some h)

bad_in : (vs front back b : List ℕ) (n : ℕ) → length b ≤ n → b ≡ front ++ back → Written front vs → 0 < length back → NoByte back → unescape_in n b ≡ Err (length front)
bad_in [] front back b n enough e h some none =
    let same : b ≡ back = e ∙ ap (λ l. l ++ back) h in
    let here = bad_here n b enough (subst (λ l. 0 < length l) (sym same) some) (subst NoByte (sym same) none) in
    here ∙ ap (λ l. Err (length l)) (sym h)
bad_in (v ∷ vs) front back b n enough e h some none =
    let parts : b ≡ h.0 ++ (h.1 ++ back) = e ∙ ap (λ l. l ++ back) h.2 ∙ append_assoc h.0 h.1 back in
    let s = value_step n b h.0 (h.1 ++ back) v enough parts h.3 in
    let len : length h.0 + length h.1 ≡ length front = omega (arith, ap length h.2, length-append h.0 h.1) in
    s.3 ∙ ap (with_first (v, length h.0)) (bad_in vs h.1 back (h.1 ++ back) s.0 s.2 refl h.4 some none) ∙ ap Err len

pub gives_value : (body : List ℕ) (r : Result (List ℕ) EscapeFault) → IfOk r (λ v. Written body v) → IfErr r (λ f. IsBadEscape body f) → GivesValue r (unescape body)
unfolding unescape
gives_value body (Ok v) ok err = value_in v body (length body) (omega arith) ok
gives_value body (Err (fault.BadEscape at)) ok err =
    let len : length (take at body) ≡ at = length-take-le at body (omega (arith, err.2)) in
    bad_in err.0 (take at body) (drop at body) body (length body) (omega arith) (sym (take-append-drop at body)) err.1 (omega (arith, length-drop at body, err.2)) err.3 ∙ ap Err len
gives_value body (Err fault.Memory) ok err = tt

-- the place of a bad escape is below the length
pub bad_within : (body : List ℕ) (r : Result (List ℕ) EscapeFault) → IfErr r (λ f. IsBadEscape body f) → IfErr r (EscapeWithin (length body))
bad_within body (Ok v) err = err
bad_within body (Err (fault.BadEscape at)) err = err.2
bad_within body (Err fault.Memory) err = tt

abbrev pub IsRead : List ℕ → Result (List ℕ) ℕ → Type 0
IsRead b (Ok vs) = Written b vs
IsRead b (Err at) = BadAt b at

first_read : (text : List ℕ) (x : ℕ × ℕ) (r : Result (List ℕ) ℕ) → Writes (take x.1 text) x.0 → IsRead (drop x.1 text) r → IsRead text (with_first x r)
first_read text x (Ok vs) w h = (take x.1 text, drop x.1 text, sym (take-append-drop x.1 text), w, h)
first_read text x (Err at) w (vs, h, inside, none) =
    (x.0 ∷ vs, (take x.1 text, take at (drop x.1 text), take-add x.1 at text, w, h), omega (arith, inside, length-drop x.1 text), subst NoByte (drop-drop at x.1 text) none)

-- what is read is the value, or the place of the first bad escape
read_step : (n : ℕ) (b : ℕ) (bs : List ℕ) (o : Option (ℕ × ℕ)) → byte_at (b ∷ bs) ≡ o → ((x : ℕ × ℕ) → byte_at (b ∷ bs) ≡ Some x → IsRead (drop x.1 (b ∷ bs)) (unescape_in n (drop x.1 (b ∷ bs))))
    → IsRead (b ∷ bs) (on_byte o (λ len. unescape_in n (drop len (b ∷ bs))))
read_step n b bs None e more = ([], refl, omega arith, byte_none (b ∷ bs) e)
read_step n b bs (Some x) e more = first_read (b ∷ bs) x (unescape_in n (drop x.1 (b ∷ bs))) (byte_sound (b ∷ bs) x e) (more x e)

nothing_read : (b : List ℕ) → length b ≤ 0 → b ≡ []
nothing_read [] few = refl
nothing_read (b ∷ bs) few = absurd (omega (arith, few))

byte_some : (text : List ℕ) (x : ℕ × ℕ) → byte_at text ≡ Some x → 0 < length text → 0 < x.1
byte_some text (v, zero) e some = let none = writes_some (take 0 text) v (byte_sound text (v, zero) e) in absurd (omega (arith, none))
byte_some text (v, suc n) e some = omega arith

read_in : (n : ℕ) (b : List ℕ) → length b ≤ n → IsRead b (unescape_in n b)
read_in zero b few = nothing_read b few
read_in (suc n) [] few = refl
read_in (suc n) (b ∷ bs) few =
    read_step n b bs (byte_at (b ∷ bs)) refl (λ x e. let some = byte_some (b ∷ bs) x e (omega arith) in read_in n (drop x.1 (b ∷ bs)) (omega (arith, few, some, length-drop x.1 (b ∷ bs))))

pub read_right : (b : List ℕ) → IsRead b (unescape b)
unfolding unescape
read_right b = read_in (length b) b (omega arith)

-- bytes with a value are read as that value
pub value_read : (b vs : List ℕ) → Written b vs → unescape b ≡ Ok vs
unfolding unescape
value_read b vs h = value_in vs b (length b) (omega arith) h

-- the first bad escape is found
pub bad_read : (b : List ℕ) (at : ℕ) → BadAt b at → unescape b ≡ Err at
unfolding unescape
bad_read b at h =
    let len : length (take at b) ≡ at = length-take-le at b (omega (arith, h.2)) in
    bad_in h.0 (take at b) (drop at b) b (length b) (omega arith) (sym (take-append-drop at b)) h.1 (omega (arith, length-drop at b, h.2)) h.3 ∙ ap Err len
