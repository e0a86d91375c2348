-- The faults at the start of a chain.
use Rattle.std.proofs.Common.{◌≡◌, [], ◌∷◌, ◌++◌, Result, refl, ap, sym, ◌∙◌, subst}
use Rattle.pc_base.specs.declared.span.Span.{Span}
use Rattle.pc_tree.specs.declared.written_names.Name.{Name}
use Rattle.pc_tree.specs.Tree as t
use Rattle.pc_body_spec.specs.{Bodies.{Context, Scope, Meaning, local, field, method, nothing, resolve, TypeMeaning, primitive, created, no_value, type_meaning, constructor_named, create_name, start_with_name, with_type, with_value}, Faults.{unknown, constructor_faults, faults_of, start_faults, type_name_faults, suffixes_faults, exprs_faults, next_of}, Parts.unless_some}
use Rattle.pc_body_walks.specs.{declared.fault.BodyFault.BodyFault, Checking.{IsFirstBodyFault, TellsFirstBodyFault, name_head_faults, type_head_faults, head_faults, args_faults}}
use Rattle.pc_body_walks.proofs.Firsts.{is_first_on}

later : (c : Context) (sc : Scope) (ss : t.Suffixes) → suffixes_faults c sc with_value ss ≡ args_faults c sc ss
later c sc t.no_suffixes = refl
later c sc (t.suffix (t.dot n) ss) = later c sc ss
later c sc (t.suffix (t.args es s) ss) = ap (λ l. exprs_faults c sc es ++ l) (later c sc ss)

-- Only arguments have faults after a bare name.
behind_name : (c : Context) (sc : Scope) (n : Name) (w : Meaning) (ss : t.Suffixes) → suffixes_faults c sc (start_with_name n w) ss ≡ args_faults c sc ss
behind_name c sc n w t.no_suffixes = refl
behind_name c sc n (local x) (t.suffix (t.dot m) ss) = later c sc ss
behind_name c sc n field (t.suffix (t.dot m) ss) = later c sc ss
behind_name c sc n method (t.suffix (t.dot m) ss) = later c sc ss
behind_name c sc n nothing (t.suffix (t.dot m) ss) = later c sc ss
behind_name c sc n w (t.suffix (t.args es s) ss) = ap (λ l. exprs_faults c sc es ++ l) (later c sc ss)

-- After a type name so does a name.
behind_type : (c : Context) (sc : Scope) (w : TypeMeaning) (s : Span) (ss : t.Suffixes) → start_faults (with_type w) (next_of ss) (type_name_faults w s) ++ suffixes_faults c sc (with_type w) ss ≡ type_head_faults w s ss ++ args_faults c sc ss
behind_type c sc (primitive e) s t.no_suffixes = refl
behind_type c sc (primitive e) s (t.suffix (t.dot n) ss) = later c sc ss
behind_type c sc (primitive e) s (t.suffix (t.args es sp) ss) = ap (λ l. exprs_faults c sc es ++ l) (later c sc ss)
behind_type c sc (created actor cs) s t.no_suffixes = refl
behind_type c sc (created actor cs) s (t.suffix (t.dot n) ss) = ap (λ l. constructor_faults cs n (next_of ss) ++ l) (later c sc ss)
behind_type c sc (created actor cs) s (t.suffix (t.args es sp) ss) = ap (λ l. unless_some (constructor_named cs create_name) (unknown s) ++ (exprs_faults c sc es ++ l)) (later c sc ss)
behind_type c sc no_value s t.no_suffixes = refl
behind_type c sc no_value s (t.suffix (t.dot n) ss) = ap (λ l. unknown s ∷ l) (later c sc ss)
behind_type c sc no_value s (t.suffix (t.args es sp) ss) = ap (λ l. unknown s ∷ (exprs_faults c sc es ++ l)) (later c sc ss)

-- A chain has the faults of what starts it, and then those of its arguments.
in_parts : (c : Context) (sc : Scope) (h : t.Expr) (ss : t.Suffixes) (s : Span) → faults_of c sc (t.chain h ss s) ≡ head_faults c sc h ss ++ args_faults c sc ss
in_parts c sc (t.number n p) ss s = later c sc ss
in_parts c sc (t.truth b p) ss s = later c sc ss
in_parts c sc (t.text b p) ss s = ap (λ l. faults_of c sc (t.text b p) ++ l) (later c sc ss)
in_parts c sc (t.name n) ss s = ap (λ l. name_head_faults n (resolve c sc n.text) (next_of ss) ++ l) (behind_name c sc n (resolve c sc n.text) ss)
in_parts c sc (t.type_name n) ss s = behind_type c sc (type_meaning c n.text) n.span ss
in_parts c sc (t.this p) ss s = later c sc ss
in_parts c sc (t.consume n p) ss s = ap (λ l. faults_of c sc (t.consume n p) ++ l) (later c sc ss)
in_parts c sc (t.not_ e p) ss s = ap (λ l. faults_of c sc (t.not_ e p) ++ l) (later c sc ss)
in_parts c sc (t.infix_ o es p) ss s = ap (λ l. faults_of c sc (t.infix_ o es p) ++ l) (later c sc ss)
in_parts c sc (t.chain e xs p) ss s = ap (λ l. faults_of c sc (t.chain e xs p) ++ l) (later c sc ss)
in_parts c sc (t.group b p) ss s = ap (λ l. faults_of c sc (t.group b p) ++ l) (later c sc ss)
in_parts c sc (t.if_ a o p) ss s = ap (λ l. faults_of c sc (t.if_ a o p) ++ l) (later c sc ss)
in_parts c sc (t.while_ d b p) ss s = ap (λ l. faults_of c sc (t.while_ d b p) ++ l) (later c sc ss)
in_parts c sc (t.recover k b p) ss s = ap (λ l. faults_of c sc (t.recover k b p) ++ l) (later c sc ss)
in_parts c sc (t.assign l r p) ss s = ap (λ z. faults_of c sc (t.assign l r p) ++ z) (later c sc ss)

-- The first fault of what starts a chain is the first of the chain.
pub chain_first : (c : Context) (sc : Scope) (h : t.Expr) (ss : t.Suffixes) (s : Span) (f : BodyFault) → IsFirstBodyFault f (head_faults c sc h ss) → IsFirstBodyFault f (faults_of c sc (t.chain h ss s))
chain_first c sc h ss s f is = subst (IsFirstBodyFault f) (sym (in_parts c sc h ss s)) (is_first_on f (head_faults c sc h ss) (args_faults c sc ss) is)

-- If that has none, the arguments determine the faults of the whole chain.
pub chain_tells : (c : Context) (sc : Scope) (h : t.Expr) (ss : t.Suffixes) (s : Span) (r : Result Unit BodyFault) → head_faults c sc h ss ≡ [] → TellsFirstBodyFault r (args_faults c sc ss) → TellsFirstBodyFault r (faults_of c sc (t.chain h ss s))
chain_tells c sc h ss s r e is = subst (TellsFirstBodyFault r) (sym (in_parts c sc h ss s ∙ ap (λ l. l ++ args_faults c sc ss) e)) is
