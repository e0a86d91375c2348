-- Methods that are spelled are read.
use Rattle.std.proofs.Common.{◌≡◌, ℕ, zero, suc, ◌≤◌, Bool, true, false, ◌||◌, List, [], ◌∷◌, ◌++◌, length, Option, Some, None, Ok, refl, sym, ap, ◌∙◌, subst, arith, cond, append_assoc, length-append}
use Rattle.pc_caps.specs.declared.capability.Cap.{Cap}
use Rattle.pc_tree.specs.Tree as t
use Rattle.pc_tree.specs.{Depths.seq_depth, Levels.{body_depth, methods_depth}, declared.written_names.TypeRef.TypeRef, declared.kinds.EntityKind.EntityKind, declared.kinds.MethodWord.MethodWord, Kinds.{is_abstract, may_stand, may_have_method_cap, CapIf, BodyUnless}}
use Rattle.pc_tree.specs.declared.kinds.MethodWord.TheVariants as method
use Rattle.pc_token.specs.{declared.kinds.Token.Token, declared.kinds.TokenKind.TokenKind, Words.{is_sign, is_word, same_sign, same_word}}
use Rattle.pc_token.specs.declared.kinds.TokenKind.TheVariants as k
use Rattle.pc_token.specs.declared.words.Word.TheVariants as w
use Rattle.pc_token.specs.declared.signs.Sign.TheVariants as s
use Rattle.pc_grammar.specs.{Spells.{op_of, cap_of, SpellsCap, SpellsReturns, SpellsBody, method_word, MayReturn, SpellsMethod}, Parts.SpellsMethods, Reading.{pure, peek, take_if, many, all, at, seq, begins_suffix, begins_item, kind_begins}, ReadingFile.{kind_is_doc, is_doc, written_body, maybe_body, cap_if, method_result, method_of, word_in, begins_method, some_method, begins_field}}
use Rattle.pc_grammar.proofs.{Follow.{Stops_seq, kind_of_sign, kind_of_word, at_one, at_none}, First.{First, first_seq}, Lifts.many_none, Steps.{name_read, one_more}, Complete.{complete_seq, two_parts, all_enough}, CompleteParams.{NoCap, doc_reads, cap_reads, returns_reads, params_reads}, CompleteFields.{Quiet, Calm, to_cap, to_sign, to_quiet, to_doc, doc_first}}

-- what comes after a method: another one, an entity, or the end
pub record Outer (y : Token) : Type 0 where
  pub calm : Calm y
  pub stops : Stops_seq y
  pub arrow : is_sign s.Arrow y ≡ false
  pub field : begins_field y ≡ false
  pub names : is_word w.IsWord y ≡ false

module _ (y : Token) where
  fun_outer : y.kind ≡ k.Word w.FunWord → Outer y
  unfolding begins_suffix op_of cap_of is_sign same_sign is_doc begins_item begins_field is_word same_word
  fun_outer e = record { calm = record { quiet = record { suffix = rw e; op = rw e; cap = rw e; colon = rw e; hat = rw e; assign = rw e }; doc = rw e }; stops = record { suffix = rw e; op = rw e; assign = rw e; semicolon = rw e; item = rw e }; arrow = rw e; field = rw e; names = rw e }

  be_outer : y.kind ≡ k.Word w.BeWord → Outer y
  unfolding begins_suffix op_of cap_of is_sign same_sign is_doc begins_item begins_field is_word same_word
  be_outer e = record { calm = record { quiet = record { suffix = rw e; op = rw e; cap = rw e; colon = rw e; hat = rw e; assign = rw e }; doc = rw e }; stops = record { suffix = rw e; op = rw e; assign = rw e; semicolon = rw e; item = rw e }; arrow = rw e; field = rw e; names = rw e }

  new_outer : y.kind ≡ k.Word w.NewWord → Outer y
  unfolding begins_suffix op_of cap_of is_sign same_sign is_doc begins_item begins_field is_word same_word
  new_outer e = record { calm = record { quiet = record { suffix = rw e; op = rw e; cap = rw e; colon = rw e; hat = rw e; assign = rw e }; doc = rw e }; stops = record { suffix = rw e; op = rw e; assign = rw e; semicolon = rw e; item = rw e }; arrow = rw e; field = rw e; names = rw e }

  arrow_calm : y.kind ≡ k.Sign s.Arrow → Calm y
  unfolding begins_suffix op_of cap_of is_sign same_sign is_doc
  arrow_calm e = record { quiet = record { suffix = rw e; op = rw e; cap = rw e; colon = rw e; hat = rw e; assign = rw e }; doc = rw e }

  name_no_cap : (text : List ℕ) → y.kind ≡ k.Name text → cap_of y ≡ None
  unfolding cap_of
  name_no_cap text e = rw e

  be_not_fun : y.kind ≡ k.Word w.BeWord → is_word w.FunWord y ≡ false
  unfolding is_word same_word
  be_not_fun e = rw e

  new_not_fun : y.kind ≡ k.Word w.NewWord → is_word w.FunWord y ≡ false
  unfolding is_word same_word
  new_not_fun e = rw e

  new_not_be : y.kind ≡ k.Word w.NewWord → is_word w.BeWord y ≡ false
  unfolding is_word same_word
  new_not_be e = rw e

pub method_outer : (m : MethodWord) (x : Token) → is_word (method_word m) x ≡ true → Outer x
method_outer method.Fun x h = fun_outer x (kind_of_word w.FunWord x h)
method_outer method.Be x h = be_outer x (kind_of_word w.BeWord x h)
method_outer method.New x h = new_outer x (kind_of_word w.NewWord x h)

item_doc : (kk : TokenKind) → kind_begins kk ≡ true → kind_is_doc kk ≡ false
item_doc k.Doc h = absurd (cc)
item_doc _ h = refl

item_no_doc : (x : Token) → begins_item x ≡ true → is_doc x ≡ false
unfolding begins_item is_doc
item_no_doc x h = item_doc x.kind h

pub to_calm : (rest : List Token) → First Outer rest → First Calm rest
to_calm rest f = (f.0, f.1, f.2, f.3.calm)

module _ (n : ℕ) where
  -- ---- bodies

  written_reads : (b : t.Seq) (a rest : List Token) → SpellsBody (Some b) a → seq_depth b ≤ n → First Outer rest → written_body n (a ++ rest) ≡ Ok (Some b, rest)
  unfolding written_body take_if
  written_reads b a rest h d f =
      let y = f.0 in
      let more = f.1 in
      let inside = h.2 ++ rest in
      let one = first_seq b h.2 h.6 in
      let doc = doc_reads h.1 inside h.5 (one.0, one.1 ++ rest, ap (λ l. l ++ rest) one.2, item_no_doc one.0 one.3) in
      let read : seq n inside ≡ Ok (b, rest) = ap (λ l. seq n (h.2 ++ l)) f.2 ∙ complete_seq b n h.2 y more h.6 d f.3.stops ∙ ap (λ l. Ok (b, l)) (sym f.2) in
      let here : a ++ rest ≡ h.0 ∷ (h.1 ++ inside) = ap (λ l. l ++ rest) h.3 ∙ ap (λ l. h.0 ∷ l) (append_assoc h.1 h.2 rest) in
      let step : written_body n (h.0 ∷ (h.1 ++ inside)) ≡ Ok (Some b, rest) = rw (h.4, doc, read) in
      ap (written_body n) here ∙ step

  no_body : (rest : List Token) → First Outer rest → maybe_body n rest ≡ Ok (None, rest)
  unfolding maybe_body peek
  no_body rest f =
      let P : List Token → Type 0 = λ l. maybe_body n l ≡ Ok (None, l) in
      let step : maybe_body n (f.0 ∷ f.1) ≡ Ok (None, f.0 ∷ f.1) = rw f.3.arrow in
      subst P (sym f.2) step

  at_arrow : (x : Token) (ts : List Token) → is_sign s.Arrow x ≡ true → maybe_body n (x ∷ ts) ≡ written_body n (x ∷ ts)
  unfolding maybe_body peek
  at_arrow x ts h = rw h

  maybe_reads : (b : Option t.Seq) (a rest : List Token) → SpellsBody b a → body_depth b ≤ suc n → First Outer rest → maybe_body n (a ++ rest) ≡ Ok (b, rest)
  maybe_reads None a rest h d f = ap (λ l. maybe_body n (l ++ rest)) h ∙ no_body rest f
  maybe_reads (Some b) a rest h d f =
      let here : a ++ rest ≡ h.0 ∷ ((h.1 ++ h.2) ++ rest) = ap (λ l. l ++ rest) h.3 in
      ap (maybe_body n) here ∙ at_arrow h.0 ((h.1 ++ h.2) ++ rest) h.4 ∙ ap (written_body n) (sym here) ∙ written_reads b a rest h (omega arith) f

  body_reads : (abstract : Bool) (b : Option t.Seq) (a rest : List Token) → SpellsBody b a → BodyUnless abstract b → body_depth b ≤ suc n → First Outer rest → cond abstract (maybe_body n) (written_body n) (a ++ rest) ≡ Ok (b, rest)
  body_reads true b a rest h has d f = maybe_reads b a rest h d f
  body_reads false None a rest h has d f = absurd has
  body_reads false (Some b) a rest h has d f = written_reads b a rest h (omega arith) f

  body_first : (b : Option t.Seq) (a rest : List Token) → SpellsBody b a → First Calm rest → First Calm (a ++ rest)
  body_first None a rest h f = (f.0, f.1, ap (λ l. l ++ rest) h ∙ f.2, f.3)
  body_first (Some b) a rest h f = (h.0, (h.1 ++ h.2) ++ rest, ap (λ l. l ++ rest) h.3, arrow_calm h.0 (kind_of_sign s.Arrow h.0 h.4))

  -- ---- what comes before a body

  no_cap : (c : Option Cap) (a rest : List Token) → SpellsCap c a → c ≡ None → pure None (a ++ rest) ≡ Ok (c, rest)
  no_cap None a rest h e = ap (λ l. Ok (None, l ++ rest)) h
  no_cap (Some c) a rest h e = absurd (cc)

  pub cap_if_reads : (b : Bool) (c : Option Cap) (a rest : List Token) → SpellsCap c a → CapIf b c → First NoCap rest → cap_if b (a ++ rest) ≡ Ok (c, rest)
  cap_if_reads true c a rest h may f = cap_reads c a rest h f
  cap_if_reads false c a rest h may f = no_cap c a rest h may

  no_result : (r : Option TypeRef) (a rest : List Token) → SpellsReturns r a → r ≡ None → pure None (a ++ rest) ≡ Ok (r, rest)
  no_result None a rest h e = ap (λ l. Ok (None, l ++ rest)) h
  no_result (Some r) a rest h e = absurd (cc)

  method_result_reads : (m : MethodWord) (r : Option TypeRef) (a rest : List Token) → SpellsReturns r a → MayReturn m r → First Quiet rest → method_result m (a ++ rest) ≡ Ok (r, rest)
  method_result_reads method.Fun r a rest h may f = returns_reads r a rest h (to_cap rest f) (to_sign rest f)
  method_result_reads method.Be r a rest h may f = no_result r a rest h may
  method_result_reads method.New r a rest h may f = no_result r a rest h may

  -- ---- methods

  method_parts : (e : EntityKind) (m : t.Method) (a rest : List Token) (h : SpellsMethod e m a) → a ++ rest ≡ h.0 ∷ (h.2 ++ h.1 ∷ (h.3 ++ (h.4 ++ (h.5 ++ (h.6 ++ rest)))))
  method_parts e m a rest h =
      let last = ap (λ l. h.4 ++ l) (append_assoc h.5 h.6 rest) in
      let third = ap (λ l. h.3 ++ l) (append_assoc h.4 (h.5 ++ h.6) rest ∙ last) in
      let second = ap (λ l. h.2 ++ h.1 ∷ l) (append_assoc h.3 (h.4 ++ (h.5 ++ h.6)) rest ∙ third) in
      ap (λ l. l ++ rest) h.7 ∙ ap (λ l. h.0 ∷ l) (append_assoc h.2 (h.1 ∷ (h.3 ++ (h.4 ++ (h.5 ++ h.6)))) rest ∙ second)

  method_reads : (e : EntityKind) (m : t.Method) (a rest : List Token) → SpellsMethod e m a → body_depth m.body ≤ suc n → First Outer rest → method_of n e m.word (a ++ rest) ≡ Ok (m, rest)
  unfolding method_of take_if
  method_reads e m a rest h d f =
      let l5 = h.6 ++ rest in
      let l4 = h.5 ++ l5 in
      let l3 = h.4 ++ l4 in
      let l2 = h.3 ++ l3 in
      let l1 = h.2 ++ h.1 ∷ l2 in
      let calm = body_first m.body h.6 rest h.14 (to_calm rest f) in
      let quiet = doc_first h.5 l5 h.13 (to_quiet l5 calm) in
      let cap = cap_if_reads (may_have_method_cap e m.word) m.cap h.2 (h.1 ∷ l2) h.9 h.16 (h.1, l2, refl, name_no_cap h.1 _ h.10.0) in
      let step : method_of n e m.word (h.0 ∷ l1) ≡ Ok (m, rest) =
      rw (h.8, cap, name_read h.1 m.name l2 h.10, params_reads m.params h.3 l3 h.11, method_result_reads m.word m.result h.4 l4 h.12 h.17 quiet, doc_reads h.5 l5 h.13 (to_doc l5 calm), body_reads (is_abstract e) m.body h.6 rest h.14 h.18 d f) in
      ap (method_of n e m.word) (method_parts e m a rest h) ∙ step

  -- ---- lists of methods

  word_true : (e : EntityKind) (m : MethodWord) (x : Token) → may_stand e m ≡ true → is_word (method_word m) x ≡ true → word_in e m x ≡ true
  word_true e m x stands word = ap (λ b. cond b (is_word (method_word m) x) false) stands ∙ word

  never : (b c : Bool) → c ≡ false → cond b c false ≡ false
  never true c h = h
  never false c h = refl

  word_no : (e : EntityKind) (m : MethodWord) (x : Token) → is_word (method_word m) x ≡ false → word_in e m x ≡ false
  word_no e m x h = never (may_stand e m) (is_word (method_word m) x) h

  chosen : (e : EntityKind) (m : MethodWord) (x : Token) (ts : List Token) → may_stand e m ≡ true → is_word (method_word m) x ≡ true → some_method n e (x ∷ ts) ≡ method_of n e m (x ∷ ts)
  unfolding some_method peek
  chosen e method.Fun x ts stands word = ap (λ b. (cond b (method_of n e method.Fun) (cond (word_in e method.Be x) (method_of n e method.Be) (method_of n e method.New))) (x ∷ ts)) (word_true e method.Fun x stands word)
  chosen e method.Be x ts stands word =
      ap (λ b. (cond b (method_of n e method.Fun) (cond (word_in e method.Be x) (method_of n e method.Be) (method_of n e method.New))) (x ∷ ts)) (word_no e method.Fun x (be_not_fun x (kind_of_word w.BeWord x word)))
      ∙ ap (λ b. (cond b (method_of n e method.Be) (method_of n e method.New)) (x ∷ ts)) (word_true e method.Be x stands word)
  chosen e method.New x ts stands word =
      ap (λ b. (cond b (method_of n e method.Fun) (cond (word_in e method.Be x) (method_of n e method.Be) (method_of n e method.New))) (x ∷ ts)) (word_no e method.Fun x (new_not_fun x (kind_of_word w.NewWord x word)))
      ∙ ap (λ b. (cond b (method_of n e method.Be) (method_of n e method.New)) (x ∷ ts)) (word_no e method.Be x (new_not_be x (kind_of_word w.NewWord x word)))

  begins_true : (e : EntityKind) (m : MethodWord) (x : Token) → may_stand e m ≡ true → is_word (method_word m) x ≡ true → begins_method e x ≡ true
  unfolding begins_method
  begins_true e method.Fun x stands word = ap (λ b. b || (word_in e method.Be x || word_in e method.New x)) (word_true e method.Fun x stands word)
  begins_true e method.Be x stands word =
      ap (λ b. b || (word_in e method.Be x || word_in e method.New x)) (word_no e method.Fun x (be_not_fun x (kind_of_word w.BeWord x word))) ∙ ap (λ b. b || word_in e method.New x) (word_true e method.Be x stands word)
  begins_true e method.New x stands word =
      let k = kind_of_word w.NewWord x word in
      ap (λ b. b || (word_in e method.Be x || word_in e method.New x)) (word_no e method.Fun x (new_not_fun x k)) ∙ ap (λ b. b || word_in e method.New x) (word_no e method.Be x (new_not_be x k)) ∙ word_true e method.New x stands word

  some_method_reads : (e : EntityKind) (m : t.Method) (a rest : List Token) → SpellsMethod e m a → body_depth m.body ≤ suc n → First Outer rest → some_method n e (a ++ rest) ≡ Ok (m, rest)
  some_method_reads e m a rest h d f =
      let here = method_parts e m a rest h in
      ap (some_method n e) here ∙ chosen e m.word h.0 _ h.15 h.8 ∙ ap (method_of n e m.word) (sym here) ∙ method_reads e m a rest h d f

  pub methods_first : (e : EntityKind) (ms : List t.Method) (ts rest : List Token) → SpellsMethods e ms ts → First Outer rest → First Outer (ts ++ rest)
  methods_first e [] ts rest h f = (f.0, f.1, ap (λ l. l ++ rest) h ∙ f.2, f.3)
  methods_first e (m ∷ ms) ts rest h f =
      let x = h.3.0 in
      (x, _, two_parts h.0 h.1 ts rest h.2 ∙ method_parts e m h.0 (h.1 ++ rest) h.3, method_outer m.word x h.3.8)

  abbrev pub NoMethod : EntityKind → Token → Type 0
  NoMethod e x = begins_method e x ≡ false

  no_method_left : (e : EntityKind) (rest : List Token) → First (NoMethod e) rest → at (begins_method e) rest ≡ None
  no_method_left e rest f = ap (at (begins_method e)) f.2 ∙ at_none (begins_method e) f.0 f.1 f.3

  methods_by : (e : EntityKind) (ms : List t.Method) (ts rest : List Token) (i : ℕ) → SpellsMethods e ms ts → methods_depth ms ≤ suc n → length ts ≤ i → First Outer rest → First (NoMethod e) rest → many (at (begins_method e)) (some_method n e) i (ts ++ rest) ≡ Ok (ms, rest)
  methods_by e [] ts rest i h d fits f last = ap (λ l. many (at (begins_method e)) (some_method n e) i (l ++ rest)) h ∙ many_none (at (begins_method e)) (some_method n e) i rest (no_method_left e rest last)
  methods_by e (m ∷ ms) ts rest zero h d fits f last = absurd (omega (arith, ap length h.2, ap length h.3.7, length-append h.0 h.1))
  methods_by e (m ∷ ms) ts rest (suc i) h d fits f last =
      let b = h.1 ++ rest in
      let here = method_parts e m h.0 b h.3 in
      let one = some_method_reads e m h.0 b h.3 (omega arith) (methods_first e ms h.1 rest h.4 f) in
      let two = methods_by e ms h.1 rest i h.4 (omega arith) (omega (arith, ap length h.2, ap length h.3.7, length-append h.0 h.1)) f last in
      let goes : at (begins_method e) (h.0 ++ b) ≡ Some (h.0 ++ b) = ap (at (begins_method e)) here ∙ at_one (begins_method e) h.3.0 _ (begins_true e m.word h.3.0 h.3.15 h.3.8) ∙ ap Some (sym here) in
      ap (many (at (begins_method e)) (some_method n e) (suc i)) (two_parts h.0 h.1 ts rest h.2) ∙ one_more (at (begins_method e)) (some_method n e) i (h.0 ++ b) (h.0 ++ b) b rest m ms goes one two

  pub methods_read : (e : EntityKind) (ms : List t.Method) (ts rest : List Token) → SpellsMethods e ms ts → methods_depth ms ≤ suc n → First Outer rest → First (NoMethod e) rest → all (at (begins_method e)) (some_method n e) (ts ++ rest) ≡ Ok (ms, rest)
  methods_read e ms ts rest h d f last = all_enough (at (begins_method e)) (some_method n e) (ts ++ rest) _ (methods_by e ms ts rest (length (ts ++ rest)) h d (omega (arith, length-append ts rest)) f last)

  pub no_method : (e : EntityKind) (x : Token) → is_word w.FunWord x ≡ false → is_word w.BeWord x ≡ false → is_word w.NewWord x ≡ false → begins_method e x ≡ false
  unfolding begins_method
  no_method e x a b c =
      ap (λ v. v || (word_in e method.Be x || word_in e method.New x)) (word_no e method.Fun x a) ∙ ap (λ v. v || word_in e method.New x) (word_no e method.Be x b) ∙ word_no e method.New x c
