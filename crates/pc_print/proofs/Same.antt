-- The printed text is that of the pieces.
use Rattle.std.proofs.Common.{◌≡◌, ℕ, Bool, true, false, List, [], ◌∷◌, ◌++◌, Option, Some, None, refl, ap, ◌∙◌, append_assoc}
use Rattle.std.specs.Prelude.{codes}
use Rattle.pc_caps.specs.declared.capability.Cap.{Cap}
use Rattle.pc_caps.specs.declared.capability.Cap.TheVariants as c
use Rattle.pc_tree.specs.Tree as t
use Rattle.pc_tree.specs.{declared.written_names.Name.Name, declared.written_names.TypeRef.TypeRef, declared.file.ParamDef.ParamDef, declared.kinds.Op.Op}
use Rattle.pc_tree.specs.declared.kinds.Op.TheVariants as o
use Rattle.pc_token.specs.{declared.words.Word.Word, Words.word_text}
use Rattle.pc_token.specs.declared.words.Word.TheVariants as w
use Rattle.pc_token.specs.declared.signs.Sign.TheVariants as s
use Rattle.pc_grammar.specs.Spells.{local_word, method_word, entity_word}
use Rattle.pc_lex.specs.Pieces.{Piece}
use Rattle.pc_print.proofs.{Spelling.{word, sign, blank, feed, op_kind, spelling}, Pieced.joined}
use Rattle.pc_print.proofs.Pieced as p
use Rattle.pc_print.specs.Parts as parts
use Rattle.pc_print.specs.Printing as text
use Rattle.pc_print.specs.Printing.{printed}

-- `a` and then what becomes `y` together with the rest
then : (a x r y : List ℕ) → x ++ r ≡ y → (a ++ x) ++ r ≡ a ++ y
then a x r y h = append_assoc a x r ∙ ap (λ l. a ++ l) h

same_cap : (x : Option Cap) (rest : List Piece) → text.printed_cap x ++ joined rest ≡ joined (p.cap x rest)
same_cap None rest = refl
same_cap (Some c.Iso) rest = refl
same_cap (Some c.Trn) rest = refl
same_cap (Some c.Ref) rest = refl
same_cap (Some c.Val) rest = refl
same_cap (Some c.Box) rest = refl
same_cap (Some c.Tag) rest = refl

same_hat : (b : Bool) (rest : List Piece) → parts.hat b ++ joined rest ≡ joined (p.hat b rest)
same_hat false rest = refl
same_hat true rest = refl

same_op : (x : Op) (l : List ℕ) → text.op_text x ++ l ≡ spelling (op_kind x) ++ l
same_op o.Add rest = refl
same_op o.Sub rest = refl
same_op o.Mul rest = refl
same_op o.Div rest = refl
same_op o.Rem rest = refl
same_op o.Eq rest = refl
same_op o.Ne rest = refl
same_op o.Lt rest = refl
same_op o.Le rest = refl
same_op o.Gt rest = refl
same_op o.Ge rest = refl
same_op o.And rest = refl
same_op o.Or rest = refl
same_op o.Xor rest = refl
same_op o.Is rest = refl
same_op o.Isnt rest = refl

same_type : (r : TypeRef) (rest : List Piece) → text.printed_type_ref r ++ joined rest ≡ joined (p.type_ref r rest)
same_type r rest = then r.name.text (text.printed_cap r.cap ++ parts.hat r.hat) (joined rest) _ (then (text.printed_cap r.cap) (parts.hat r.hat) (joined rest) _ (same_hat r.hat rest) ∙ same_cap r.cap (p.hat r.hat rest))

same_typed : (r : Option TypeRef) (rest : List Piece) → text.printed_type r ++ joined rest ≡ joined (p.typed r rest)
same_typed None rest = refl
same_typed (Some r) rest = ap (λ l. codes ": " ++ l) (same_type r rest)

abbrev ending : List Piece → List Piece
ending rest = blank ∷ word w.EndWord ∷ rest

mutual
  same_expr : (e : t.Expr) (rest : List Piece) → text.printed_expr e ++ joined rest ≡ joined (p.expr e rest)
  same_expr (t.number n sp) rest = refl
  same_expr (t.truth b sp) rest = refl
  same_expr (t.text v sp) rest = refl
  same_expr (t.name m) rest = refl
  same_expr (t.type_name m) rest = refl
  same_expr (t.this sp) rest = refl
  same_expr (t.consume m sp) rest = refl
  same_expr (t.not_ e sp) rest = ap (λ l. codes "not " ++ l) (same_expr e rest)
  same_expr (t.infix_ o es sp) rest = same_terms es o rest
  same_expr (t.chain e ss sp) rest =
      then (text.printed_expr e) (text.printed_suffixes ss) (joined rest) _ (same_suffixes ss rest) ∙ same_expr e (p.suffixes ss rest)
  same_expr (t.group b sp) rest = ap (λ l. codes "(" ++ l) (then (text.printed_seq b) (codes ")") (joined rest) (joined (sign s.CloseParen ∷ rest)) refl ∙ same_seq b (sign s.CloseParen ∷ rest))
  same_expr (t.if_ as' o sp) rest = then (parts.all_arms as') (text.printed_other o ++ codes " end") (joined rest) _ (then (text.printed_other o) (codes " end") (joined rest) (joined (ending rest)) refl ∙ same_other o (ending rest)) ∙ same_arms as' (p.other o (ending rest))
  same_expr (t.while_ c b sp) rest =
      let inner = then (text.printed_seq b) (codes " end") (joined rest) (joined (ending rest)) refl ∙ same_seq b (ending rest) in
      let do_ = blank ∷ word w.DoWord ∷ blank ∷ p.seq b (ending rest) in
      ap (λ l. codes "while " ++ l) (then (text.printed_seq c) (codes " do " ++ (text.printed_seq b ++ codes " end")) (joined rest) (joined do_) (ap (λ l. codes " do " ++ l) inner) ∙ same_seq c do_)
  same_expr (t.recover c b sp) rest =
      let inner = then (text.printed_seq b) (codes " end") (joined rest) (joined (ending rest)) refl ∙ same_seq b (ending rest) in
      let body = blank ∷ p.seq b (ending rest) in
      ap (λ l. codes "recover" ++ l) (then (text.printed_cap c) (codes " " ++ (text.printed_seq b ++ codes " end")) (joined rest) (joined body) (ap (λ l. codes " " ++ l) inner) ∙ same_cap c body)
  same_expr (t.assign l r sp) rest =
      let right = blank ∷ sign s.Assign ∷ blank ∷ p.expr r rest in
      then (text.printed_expr l) (codes " = " ++ text.printed_expr r) (joined rest) (joined right) (ap (λ l. codes " = " ++ l) (same_expr r rest))
      ∙ same_expr l right

  same_terms : (es : t.Exprs) (o : Op) (rest : List Piece) → parts.printed_terms es o ++ joined rest ≡ joined (p.terms es o rest)
  same_terms t.no_exprs o rest = refl
  same_terms (t.expr e es) o rest = then (text.printed_expr e) (parts.more_terms es o) (joined rest) _ (same_more_terms es o rest) ∙ same_expr e (p.more_terms es o rest)

  same_more_terms : (es : t.Exprs) (o : Op) (rest : List Piece) → parts.more_terms es o ++ joined rest ≡ joined (p.more_terms es o rest)
  same_more_terms t.no_exprs o rest = refl
  same_more_terms (t.expr e es) o rest =
      let next = then (text.printed_expr e) (parts.more_terms es o) (joined rest) _ (same_more_terms es o rest) ∙ same_expr e (p.more_terms es o rest) in
      let tail = text.printed_expr e ++ parts.more_terms es o in
      let begin = ap (λ l. l ++ joined rest) (append_assoc (text.op_text o) (codes " ") tail) in
      ap (λ l. codes " " ++ l) (begin ∙ (then (text.op_text o) (codes " " ++ tail) (joined rest) _ (ap (λ l. codes " " ++ l) next) ∙ same_op o _))

  same_suffix : (x : t.Suffix) (rest : List Piece) → text.printed_suffix x ++ joined rest ≡ joined (p.one_suffix x rest)
  same_suffix (t.dot m) rest = refl
  same_suffix (t.args es sp) rest = ap (λ l. codes "(" ++ l) (then (parts.printed_args es) (codes ")") (joined rest) (joined (sign s.CloseParen ∷ rest)) refl ∙ same_args es (sign s.CloseParen ∷ rest))

  same_suffixes : (ss : t.Suffixes) (rest : List Piece) → text.printed_suffixes ss ++ joined rest ≡ joined (p.suffixes ss rest)
  same_suffixes t.no_suffixes rest = refl
  same_suffixes (t.suffix x ss) rest = then (text.printed_suffix x) (text.printed_suffixes ss) (joined rest) _ (same_suffixes ss rest) ∙ same_suffix x (p.suffixes ss rest)

  same_args : (es : t.Exprs) (rest : List Piece) → parts.printed_args es ++ joined rest ≡ joined (p.args es rest)
  same_args t.no_exprs rest = refl
  same_args (t.expr e es) rest = then (text.printed_expr e) (parts.more_args es) (joined rest) _ (same_more_args es rest) ∙ same_expr e (p.more_args es rest)

  same_more_args : (es : t.Exprs) (rest : List Piece) → parts.more_args es ++ joined rest ≡ joined (p.more_args es rest)
  same_more_args t.no_exprs rest = refl
  same_more_args (t.expr e es) rest = ap (λ l. codes ", " ++ l) (then (text.printed_expr e) (parts.more_args es) (joined rest) _ (same_more_args es rest) ∙ same_expr e (p.more_args es rest))

  same_arm : (x : t.Arm) (head : Word) (rest : List Piece) → word_text head ++ 32 ∷ (text.printed_arm x ++ joined rest) ≡ joined (p.one_arm x head rest)
  same_arm (t.arm_of c b sp) head rest =
      let body = blank ∷ word w.ThenWord ∷ blank ∷ p.seq b rest in
      ap (λ l. word_text head ++ 32 ∷ l) (then (text.printed_seq c) (codes " then " ++ text.printed_seq b) (joined rest) (joined body) (ap (λ l. codes " then " ++ l) (same_seq b rest)) ∙ same_seq c body)

  same_arms : (xs : t.Arms) (rest : List Piece) → parts.all_arms xs ++ joined rest ≡ joined (p.arms xs rest)
  same_arms t.no_arms rest = refl
  same_arms (t.arm x xs) rest = ap (λ l. codes "if " ++ l) (then (text.printed_arm x) (parts.more_arms xs) (joined rest) _ (same_more_arms xs rest)) ∙ same_arm x w.IfWord (p.more_arms xs rest)

  same_more_arms : (xs : t.Arms) (rest : List Piece) → parts.more_arms xs ++ joined rest ≡ joined (p.more_arms xs rest)
  same_more_arms t.no_arms rest = refl
  same_more_arms (t.arm x xs) rest = ap (λ l. codes " elseif " ++ l) (then (text.printed_arm x) (parts.more_arms xs) (joined rest) _ (same_more_arms xs rest)) ∙ ap (λ l. 32 ∷ l) (same_arm x w.ElseifWord (p.more_arms xs rest))

  same_other : (o : t.Other) (rest : List Piece) → text.printed_other o ++ joined rest ≡ joined (p.other o rest)
  same_other t.no_other rest = refl
  same_other (t.other b) rest = ap (λ l. codes " else " ++ l) (same_seq b rest)

  same_seq : (b : t.Seq) (rest : List Piece) → text.printed_seq b ++ joined rest ≡ joined (p.seq b rest)
  same_seq (t.seq is sp) rest = same_items is rest

  same_items : (is : t.Items) (rest : List Piece) → parts.all_items is ++ joined rest ≡ joined (p.items is rest)
  same_items t.no_items rest = refl
  same_items (t.item i is) rest =
      then (text.printed_item i) (parts.more_items is) (joined rest) _ (same_more_items is rest) ∙ same_item i (p.more_items is rest)

  same_more_items : (is : t.Items) (rest : List Piece) → parts.more_items is ++ joined rest ≡ joined (p.more_items is rest)
  same_more_items t.no_items rest = refl
  same_more_items (t.item i is) rest = ap (λ l. codes "; " ++ l) (then (text.printed_item i) (parts.more_items is) (joined rest) _ (same_more_items is rest) ∙ same_item i (p.more_items is rest))

  same_item : (i : t.Item) (rest : List Piece) → text.printed_item i ++ joined rest ≡ joined (p.one_item i rest)
  same_item (t.local f m ty e sp) rest =
      let right = blank ∷ sign s.Assign ∷ blank ∷ p.expr e rest in
      let value = then (text.printed_type ty) (codes " = " ++ text.printed_expr e) (joined rest) (joined right) (ap (λ l. codes " = " ++ l) (same_expr e rest)) ∙ same_typed ty right in
      then (word_text (local_word f)) (codes " " ++ (m.text ++ (text.printed_type ty ++ (codes " = " ++ text.printed_expr e)))) (joined rest) _ (ap (λ l. codes " " ++ l) (then m.text (text.printed_type ty ++ (codes " = " ++ text.printed_expr e)) (joined rest) _ value))
  same_item (t.plain e) rest = same_expr e rest

-- ---- members

same_lines : (is : t.Items) (rest : List Piece) → parts.printed_lines is ++ joined rest ≡ joined (p.lines is rest)
same_lines t.no_items rest = refl
same_lines (t.item i is) rest = ap (λ l. 10 ∷ (codes "    " ++ l)) (then (text.printed_item i) (parts.printed_lines is) (joined rest) _ (same_lines is rest) ∙ same_item i (p.lines is rest))

same_body_lines : (b : t.Seq) (rest : List Piece) → text.body_lines b ++ joined rest ≡ joined (p.body_lines b rest)
same_body_lines (t.seq is sp) rest = same_lines is rest

same_value : (e : Option t.Expr) (rest : List Piece) → parts.printed_value e ++ joined rest ≡ joined (p.value e rest)
same_value None rest = refl
same_value (Some e) rest = ap (λ l. codes " = " ++ l) (same_expr e rest)

same_field : (f : t.Field) (rest : List Piece) → text.printed_field f ++ joined rest ≡ joined (p.field f rest)
same_field f rest =
    let ty = then (text.printed_type_ref f.ty) (parts.printed_value f.value) (joined rest) _ (same_value f.value rest)
    ∙ same_type f.ty (p.value f.value rest) in
    ap (λ l. 10 ∷ (codes "  " ++ l)) (then (word_text (local_word f.fixed)) _ (joined rest) _ (ap (λ l. codes " " ++ l) (then f.name.text _ (joined rest) _ (ap (λ l. codes ": " ++ l) ty))))

same_fields : (fs : List t.Field) (rest : List Piece) → parts.printed_fields fs ++ joined rest ≡ joined (p.fields fs rest)
same_fields [] rest = refl
same_fields (f ∷ fs) rest = then (text.printed_field f) (parts.printed_fields fs) (joined rest) _ (same_fields fs rest) ∙ same_field f (p.fields fs rest)

same_param : (d : ParamDef) (rest : List Piece) → text.printed_param d ++ joined rest ≡ joined (p.param d rest)
same_param d rest = then d.name.text (codes ": " ++ text.printed_type_ref d.ty) (joined rest) _ (ap (λ l. codes ": " ++ l) (same_type d.ty rest))

same_more_params : (ds : List ParamDef) (rest : List Piece) → parts.more_params ds ++ joined rest ≡ joined (p.more_params ds rest)
same_more_params [] rest = refl
same_more_params (d ∷ ds) rest = ap (λ l. codes ", " ++ l) (then (text.printed_param d) (parts.more_params ds) (joined rest) _ (same_more_params ds rest) ∙ same_param d (p.more_params ds rest))

same_params : (ds : List ParamDef) (rest : List Piece) → parts.printed_params ds ++ joined rest ≡ joined (p.params ds rest)
same_params [] rest = refl
same_params (d ∷ ds) rest =
    then (text.printed_param d) (parts.more_params ds) (joined rest) _ (same_more_params ds rest) ∙ same_param d (p.more_params ds rest)

same_body : (b : Option t.Seq) (rest : List Piece) → parts.printed_body b ++ joined rest ≡ joined (p.body b rest)
same_body None rest = refl
same_body (Some b) rest = ap (λ l. codes " =>" ++ l) (same_body_lines b rest)

same_method : (m : t.Method) (rest : List Piece) → text.printed_method m ++ joined rest ≡ joined (p.method m rest)
same_method m rest =
    let r = joined rest in
    let behind = sign s.CloseParen ∷ p.typed m.result (p.body m.body rest) in
    let result = then (text.printed_type m.result) (parts.printed_body m.body) r _ (same_body m.body rest) ∙ same_typed m.result (p.body m.body rest) in
    let params = then (parts.printed_params m.params) _ r (joined behind) (ap (λ l. codes ")" ++ l) result) ∙ same_params m.params behind in
    let name = then m.name.text _ r _ (ap (λ l. codes "(" ++ l) params) in
    let cap = then (text.printed_cap m.cap) _ r _ (ap (λ l. codes " " ++ l) name) ∙ same_cap m.cap (blank ∷ p.name m.name (sign s.OpenParen ∷ p.params m.params behind)) in
    ap (λ l. 10 ∷ (codes "  " ++ l)) (then (word_text (method_word m.word)) _ r _ cap)

same_methods : (ms : List t.Method) (rest : List Piece) → parts.printed_methods ms ++ joined rest ≡ joined (p.methods ms rest)
same_methods [] rest = refl
same_methods (m ∷ ms) rest =
    then (text.printed_method m) (parts.printed_methods ms) (joined rest) _ (same_methods ms rest) ∙ same_method m (p.methods ms rest)

-- ---- entities and files

same_more_names : (ms : List Name) (rest : List Piece) → parts.more_names ms ++ joined rest ≡ joined (p.more_names ms rest)
same_more_names [] rest = refl
same_more_names (m ∷ ms) rest = ap (λ l. codes " & " ++ l) (then m.text (parts.more_names ms) (joined rest) _ (same_more_names ms rest))

same_provides : (ms : List Name) (rest : List Piece) → text.printed_provides ms ++ joined rest ≡ joined (p.provides ms rest)
same_provides [] rest = refl
same_provides (m ∷ []) rest = refl
same_provides (m ∷ n ∷ ms) rest =
    let close = sign s.CloseParen ∷ rest in
    let more = parts.more_names (n ∷ ms) in
    let all = then m.text more (joined close) _ (same_more_names (n ∷ ms) close) in
    ap (λ l. codes " is (" ++ l) (then (parts.printed_names (m ∷ n ∷ ms)) (codes ")") (joined rest) (joined close) refl ∙ all)

same_entity : (e : t.Entity) (rest : List Piece) → text.printed_entity e ++ joined rest ≡ joined (p.entity e rest)
same_entity e rest =
    let r = joined rest in
    let methods = p.methods e.methods rest in
    let fields = then (parts.printed_fields e.fields) (parts.printed_methods e.methods) r _ (same_methods e.methods rest) ∙ same_fields e.fields methods in
    let names = then (text.printed_provides e.provides) _ r _ fields ∙ same_provides e.provides (p.fields e.fields methods) in
    let name = then e.name.text _ r _ names in
    let cap = then (text.printed_cap e.cap) _ r _ (ap (λ l. codes " " ++ l) name) ∙ same_cap e.cap (blank ∷ p.type_name e.name (p.provides e.provides (p.fields e.fields methods))) in
    then (word_text (entity_word e.kind)) _ r _ cap

same_more_entities : (es : List t.Entity) (rest : List Piece) → parts.more_entities es ++ joined rest ≡ joined (p.more_entities es rest)
same_more_entities [] rest = refl
same_more_entities (e ∷ es) rest = ap (λ l. 10 ∷ 10 ∷ l) (then (text.printed_entity e) (parts.more_entities es) (joined rest) _ (same_more_entities es rest) ∙ same_entity e (p.more_entities es rest))

same_entities : (es : List t.Entity) (rest : List Piece) → parts.printed_entities es ++ joined rest ≡ joined (p.entities es rest)
same_entities [] rest = refl
same_entities (e ∷ es) rest = then (text.printed_entity e) (parts.more_entities es) (joined rest) _ (same_more_entities es rest) ∙ same_entity e (p.more_entities es rest)

pub same_file : (f : t.File) → printed f ≡ joined (p.file f)
unfolding printed
same_file f = same_entities f.entities (feed ∷ [])
