-- The whole of a file.
use Rattle.std.proofs.{Common.{◌≡◌, ℕ, zero, suc, ◌+◌, ◌<◌, ◌^◌, List, [], ◌∷◌, ◌++◌, map, length, Some, Ok, Err, Result, refl, sym, ap, ◌∙◌, subst, arith}, lemmas.List.length-map, lemmas.Option.{same_Some, none-some}, lemmas.Result.IfOk-weaker}
use Rattle.std.specs.Prelude.{slice_get, IfOk}
use Rattle.pc_tree.specs.{declared.file.File.File, View.{entity_view, file_view}, declared.kinds.EntityKind.EntityKind, Kinds.first_own}
use Rattle.pc_tree.specs.Tree as t
use Rattle.pc_token.specs.declared.kinds.Token.{Token}
use Rattle.pc_grammar.specs.Spells as spec
use Rattle.pc_grammar.specs.Parts as helpers
use Rattle.pc_core.specs.{declared.declarations.EntityDef.EntityDef, Formed.Formed, CoreData.CoreData}
use Rattle.pc_names.specs.{declared.fault.NameFault.NameFault, Faults.{NamesData, Collected}}
use Rattle.pc_names.specs.declared.fault.NameFault.TheVariants as fault
use Rattle.pc_text_order.specs.Laws.{BodiesAscend}
use Rattle.pc_body_spec.specs.Bodies.{Context}
use Rattle.pc_members.specs.{Members.Member, MemberLists.members, declared.member.Member.Member as CodeMember, Views.{members_view, table_view}}
use Rattle.pc_file_spec.specs.{Cores.{members_from, known_of, known_from, texts_of_file, built_in_known, built_ins, entities_from, core_with, core_of, Stands, Parts, parts_of, and_members, if_ok, built_in_parts}, Laws.StandsIsFormed}
use Rattle.pc_file_spec.specs.Order as o
use Rattle.pc_file_spec.proofs.{Collects.collects, Steps.same_ok, Owners.known_count}
use Rattle.pc_elab.specs.{Cores.{Makes, IsSpelledFile, made_view}, declared.elaborating.Made.Made, Outcomes.{Grows, row_members}, Rows.{known_with, known_rows, entity_rows}}
use Rattle.pc_elab.proofs.Growing.{rows_same}

-- ---- rows

pub known_are : (file : t.File) (es : List t.Entity) (at : ℕ) → known_rows at es (map (members file.entities) es) ≡ known_from file.entities at es
known_are file [] at = refl
known_are file (e ∷ es) at = ap (λ ks. known_with at e (members file.entities e) ∷ ks) (known_are file es (at + length (members file.entities e)))

pub entities_are : (file : t.File) (names : NamesData) (c : Context) (es : List t.Entity) (n at : ℕ) → Collected file names → c.entities ≡ known_of file → c.texts ≡ texts_of_file file
    → entity_rows c names n at es (map (members file.entities) es) ≡ entities_from file names.above n at es
entities_are file names c [] n at col k x = refl
entities_are file names c (e ∷ es) n at col k x =
    rw (k, x, col.entities, entities_are file names c es (suc n) (at + length (members file.entities e)) col k x) refl

pub few_entities : (file : t.File) (names : NamesData) → Collected file names → first_own + length file.entities < 2 ^ 32
few_entities file names c = let f = (collects file names c).few in omega (arith, f)

pub few_known : (file : t.File) (names : NamesData) → Collected file names → length (known_of file) < 2 ^ 32
few_known file names c = let f = (collects file names c).few in let n = known_count file.entities file.entities 1 in omega (arith, f, n)

-- ---- if a text spells the file

pub in_order : (file : t.File) → BodiesAscend → IsSpelledFile file → o.NamesInOrder file
in_order file law h e he = let r = law file h.0 h.1 h.2 he.0 e he.1 in (r.0, λ m hm. r.1 hm.0 m hm.1)

more_entities : (es : List t.Entity) (ts : List Token) (i : ℕ) (e : t.Entity) → helpers.SpellsMoreEntities es ts → slice_get es i ≡ Some e → (us : List Token) × spec.SpellsEntity e us
more_entities [] ts i e h g = absurd (none-some e g)
more_entities (x ∷ es) ts zero e h g = (h.0, subst (λ y. spec.SpellsEntity y h.0) (same_Some x e g) h.3)
more_entities (x ∷ es) ts (suc i) e h g = more_entities es h.1 i e h.4 g

all_entities : (es : List t.Entity) (ts : List Token) (i : ℕ) (e : t.Entity) → spec.SpellsEntities es ts → slice_get es i ≡ Some e → (us : List Token) × spec.SpellsEntity e us
all_entities [] ts i e h g = absurd (none-some e g)
all_entities (x ∷ es) ts zero e h g = (h.0, subst (λ y. spec.SpellsEntity y h.0) (same_Some x e g) h.3)
all_entities (x ∷ es) ts (suc i) e h g = more_entities es h.1 i e h.4 g

all_methods : (k : EntityKind) (ms : List t.Method) (ts : List Token) (i : ℕ) (m : t.Method) → helpers.SpellsMethods k ms ts → slice_get ms i ≡ Some m → (us : List Token) × spec.SpellsMethod k m us
all_methods k [] ts i m h g = absurd (none-some m g)
all_methods k (x ∷ ms) ts zero m h g = (h.0, subst (λ y. spec.SpellsMethod k y h.0) (same_Some x m g) h.3)
all_methods k (x ∷ ms) ts (suc i) m h g = all_methods k ms h.1 i m h.4 g

-- In a file that tokens spell, fields, methods and bodies are only where they are allowed.
pub in_place : (file : t.File) → IsSpelledFile file → o.InPlace file
in_place file h e he =
    let r = all_entities file.entities h.1.1 he.0 e h.1.5 he.1 in
    let q = r.1 in
    (q.16, λ m hm. let u = (all_methods e.kind e.methods q.6 hm.0 m q.14 hm.1).1 in (u.15, u.18))

-- ---- in terms of the code

-- A part of what was made.
pub ok_part : {A B E : Type 0} → (part : A → B) (r : Result A E) (made : A) (b : B) → part made ≡ b → IfOk r (λ a. a ≡ made) → IfOk r (λ a. part a ≡ b)
ok_part part r made b e h = IfOk-weaker r (λ a. a ≡ made) (λ a. part a ≡ b) (λ a g. ap part g ∙ e) h

pub as_many : (file : File) (table : List (List CodeMember)) → table_view table ≡ map (members (file_view file).entities) (file_view file).entities → length table ≡ length file.entities
as_many file table h =
    sym (length-map table members_view) ∙ ap length h ∙ length-map (map entity_view file.entities) (members (file_view file).entities) ∙ length-map file.entities entity_view

pub few_own : (file : File) (names : NamesData) → Collected (file_view file) names → first_own + length file.entities < 2 ^ 32
few_own file names c = let f = few_entities (file_view file) names c in let n = length-map file.entities entity_view in omega (arith, f, n)

pub known_all : (file : t.File) (rows : List (List Member)) → rows ≡ map (members file.entities) file.entities → built_in_known ++ known_rows 1 file.entities rows ≡ known_of file
known_all file rows h = ap (λ table. built_in_known ++ known_rows 1 file.entities table) h ∙ ap (λ ks. built_in_known ++ ks) (known_are file file.entities 1)

-- The members of the rows are those of the file.
pub parts_are : (file : t.File) (c : Context) (p : Parts) (rows : List (List Member)) → rows ≡ map (members file.entities) file.entities → p ≡ built_in_parts → c.entities ≡ known_of file → c.texts ≡ texts_of_file file → row_members c p first_own file.entities rows ≡ parts_of file
parts_are file c p rows h s k x =
    ap (λ table. row_members c p first_own file.entities table) h ∙ rows_same file c file.entities first_own p k x ∙ ap (λ q. and_members file q (members_from file.entities first_own file.entities)) s

-- A core of these lists.
pub core_is : (file : t.File) (names : NamesData) (c : Context) (p : Parts) (rows : List (List Member)) (es : List EntityDef) (texts : List (List ℕ)) → Collected file names → rows ≡ map (members file.entities) file.entities
    → c.entities ≡ known_of file → c.texts ≡ texts_of_file file → parts_of file ≡ Ok p → es ≡ built_ins ++ entity_rows c names first_own 1 file.entities rows → texts ≡ c.texts
    → core_of names.above file ≡ Ok (record { entities = es; methods = p.methods; slots = p.slots; nodes = p.nodes; names = texts })
core_is file names c p rows es texts col h k x parts e n =
    let all : es ≡ built_ins ++ entities_from file names.above first_own 1 file.entities =
    e ∙ ap (λ table. built_ins ++ entity_rows c names first_own 1 file.entities table) h ∙ ap (λ xs. built_ins ++ xs) (entities_are file names c file.entities first_own 1 col k x) in
    ap (λ r. if_ok r (λ q. Ok (core_with file names.above q))) parts ∙ rw (all, n, x) refl

pub core_fault : (file : t.File) (above : List (List ℕ)) (f : NameFault) → parts_of file ≡ Err f → core_of above file ≡ Err f
core_fault file above f h = ap (λ r. if_ok r (λ q. Ok (core_with file above q))) h

-- The fault of the members is that of the whole.
pub grows_stop : (f : NameFault) (p : Parts) (file : t.File) (above : List (List ℕ)) (want : Result Parts NameFault) → want ≡ parts_of file → Grows {A = Unit {0}} (Err f) p want → Makes (Err f) (core_of above file)
grows_stop (fault.Double s) p file above want e h = core_fault file above _ (sym e ∙ h)
grows_stop (fault.Unknown s) p file above want e h = core_fault file above _ (sym e ∙ h)
grows_stop fault.NoMain p file above want e h = core_fault file above _ (sym e ∙ h)
grows_stop (fault.BadMain s) p file above want e h = core_fault file above _ (sym e ∙ h)
grows_stop (fault.Cycle s) p file above want e h = core_fault file above _ (sym e ∙ h)
grows_stop (fault.TooMany w s) p file above want e h = core_fault file above _ (sym e ∙ h)
grows_stop fault.Memory p file above want e h = tt

-- ---- the whole

texts_made : (file : t.File) (above : List (List ℕ)) (m : Made) (r : Result Parts NameFault) → if_ok r (λ p. Ok (core_with file above p)) ≡ Ok (made_view m) → m.names ≡ texts_of_file file
texts_made file above m (Ok p) g = sym (ap (λ (x : CoreData). x.names) (same_ok (core_with file above p) (made_view m) (Ok (core_with file above p)) refl g))
texts_made file above m (Err f) g = (let no : ⊥ = cc in absurd no)

pub made_stands : (file : t.File) (names : NamesData) (m : Made) → length m.names < 2 ^ 32 → Collected file names → core_of names.above file ≡ Ok (made_view m) → Stands file (made_view m)
made_stands file names m few c h = (names, c, h, subst (λ xs. length xs < 2 ^ 32) (texts_made file names.above m (parts_of file) h) few)

pub core_formed : BodiesAscend → StandsIsFormed → (file : t.File) (core : CoreData) → IsSpelledFile file → Stands file core → Formed core
core_formed bodies law file core sp stands = law file core (in_order file bodies sp) (in_place file sp) stands

pub made_formed : (file : t.File) (names : NamesData) (m : Made) → BodiesAscend → StandsIsFormed → IsSpelledFile file → length m.names < 2 ^ 32 → Collected file names → core_of names.above file ≡ Ok (made_view m) → Formed (made_view m)
made_formed file names m bodies law sp few c h = core_formed bodies law file (made_view m) sp (made_stands file names m few c h)
