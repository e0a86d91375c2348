-- The first fault of a body, as a walk in the order of the text finds it.
use Rattle.std.specs.Prelude.{◌≡◌, List, [], ◌∷◌, ◌++◌, Result, Ok, Err}
use Rattle.pc_base.specs.declared.span.Span.{Span}
use Rattle.pc_tree.specs.declared.written_names.Name.{Name}
use Rattle.pc_body_spec.specs.{Bodies.{Context, Scope, Constructor, constructor_named, Meaning, resolve, TypeMeaning, primitive, created, no_value, type_meaning, create_name, start_with_name}, Faults.{BodyNameFault, unknown, double, long_text, bare_name_faults, Next, arguments, name, end, next_of, start_faults, constructor_faults, faults_of, exprs_faults}, Parts.unless_some}
use Rattle.pc_body_walks.specs.{declared.fault.BodyFault.BodyFault, declared.starts.Next.Next as CodeNext}
use Rattle.pc_tree.specs.Tree as t
use Rattle.pc_body_walks.specs.declared.fault.BodyFault.TheVariants as fault
use Rattle.pc_body_walks.specs.declared.starts.Next.TheVariants as next

abbrev pub BeginsWithFault : List BodyNameFault → BodyNameFault → Type 0
BeginsWithFault fs f = (rest : List BodyNameFault) × (fs ≡ f ∷ rest)

-- The fault of the code is the first fault. Memory may run out at any time.
abbrev pub IsFirstBodyFault : BodyFault → List BodyNameFault → Type 0
IsFirstBodyFault (fault.Unknown s) fs = BeginsWithFault fs (unknown s)
IsFirstBodyFault (fault.Double s) fs = BeginsWithFault fs (double s)
IsFirstBodyFault (fault.LongText s) fs = BeginsWithFault fs (long_text s)
IsFirstBodyFault fault.Memory fs = Unit {0}

-- The first fault of a list is reported, and none iff the list is empty.
abbrev pub TellsFirstBodyFault : {A : Type 0} → Result A BodyFault → List BodyNameFault → Type 0
TellsFirstBodyFault (Ok x) fs = fs ≡ []
TellsFirstBodyFault (Err f) fs = IsFirstBodyFault f fs

abbrev pub next_view : CodeNext → Next
next_view next.Arguments = arguments
next_view next.Name = name
next_view next.End = end

-- The faults of a bare name that starts a chain.
abbrev pub name_head_faults : Name → Meaning → Next → List BodyNameFault
name_head_faults n m next = start_faults (start_with_name n m) next (bare_name_faults m n.span)

-- The faults of the name of a class or an actor that starts a chain, and of a name directly after it.
abbrev pub created_faults : List Constructor → Span → t.Suffixes → List BodyNameFault
created_faults cs s (t.suffix (t.dot n) ss) = constructor_faults cs n (next_of ss)
created_faults cs s ss = unless_some (constructor_named cs create_name) (unknown s)

-- The same of any type name.
abbrev pub type_head_faults : TypeMeaning → Span → t.Suffixes → List BodyNameFault
type_head_faults (primitive e) s ss = []
type_head_faults (created actor cs) s ss = created_faults cs s ss
type_head_faults no_value s ss = unknown s ∷ []

-- The faults of what starts a chain, which is followed by these suffixes.
abbrev pub head_faults : Context → Scope → t.Expr → t.Suffixes → List BodyNameFault
head_faults c sc (t.name n) ss = name_head_faults n (resolve c sc n.text) (next_of ss)
head_faults c sc (t.type_name n) ss = type_head_faults (type_meaning c n.text) n.span ss
head_faults c sc h ss = faults_of c sc h

-- The faults of the arguments in a chain.
abbrev pub suffix_faults : Context → Scope → t.Suffix → List BodyNameFault
suffix_faults c sc (t.dot n) = []
suffix_faults c sc (t.args es s) = exprs_faults c sc es

abbrev pub args_faults : Context → Scope → t.Suffixes → List BodyNameFault
args_faults c sc t.no_suffixes = []
args_faults c sc (t.suffix x ss) = suffix_faults c sc x ++ args_faults c sc ss
