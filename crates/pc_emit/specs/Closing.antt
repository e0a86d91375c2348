-- Pending nodes, which still need the number of a part.
use Rattle.std.specs.Prelude.{ℕ, ◌-◌, ◌+◌, ◌≡◌, Bool, true, false, List, [], ◌∷◌, ◌++◌, Option, Some, None, Result, Ok, Err, take, drop, slice_get, if◌then◌else◌}
use Rattle.pc_base.specs.declared.span.Span.{Span}
use Rattle.pc_core.specs.{declared.nodes.Node.Node, declared.nodes.NodeKind.NodeKind}
use Rattle.pc_tree.specs.{declared.written_names.Name.Name, Kinds.none_entity, Parts.suffixes_of}
use Rattle.pc_body_spec.specs.{Bodies.{Rose, rose, leaf, one, two, and_last, joined_span, gap, value_then, write_name, expr_of, roses_of_exprs, chain_of, Start, with_value, Use, read, write, Context, Scope, Meaning, local, field, method, nothing, resolve, number_of_text}, Fold.{Numbered, and_then, push}}
use Rattle.pc_emit.specs.{declared.stop.EmitStop.EmitStop, declared.waiting.OpenArm.OpenArm, declared.waiting.Link.Link, declared.waiting.OpenChain.OpenChain, declared.chains.First.First, declared.chains.Beginning.Beginning, declared.chains.Reading.Reading, declared.chains.Atom.Atom}
use Rattle.pc_core.specs.declared.nodes.NodeKind.TheVariants as node
use Rattle.pc_tree.specs.Tree as t
use Rattle.pc_emit.specs.declared.stop.EmitStop.TheVariants as stop
use Rattle.pc_emit.specs.declared.chains.First.TheVariants as first
use Rattle.pc_emit.specs.declared.chains.Beginning.TheVariants as begins
use Rattle.pc_emit.specs.declared.chains.Reading.TheVariants as reads
use Rattle.pc_emit.specs.declared.chains.Atom.TheVariants as atoms

-- The pending nodes, the outermost first, each completed by the number of the part inside it.
abbrev pub closing : {P : Type 0} → (P → ℕ → List Node → Numbered ℕ) → List P → ℕ → List Node → Numbered ℕ
closing step [] n ns = Some (n, ns)
closing step (p ∷ ps) n ns = and_then (closing step ps n ns) (step p)

-- The last of those that wait is taken out, or none waits.
abbrev pub TakesLast : {P : Type 0} → (before after : List P) → Option P → Type 0
TakesLast before after None = (before ≡ []) × (after ≡ [])
TakesLast before after (Some p) = before ≡ after ++ p ∷ []

-- A pending arm is completed by its `else`; each arm but the first is in a sequence of its own.
abbrev pub arm_after : Bool → (method depth : ℕ) → Span → ℕ → List Node → Numbered ℕ
arm_after true m d s chosen ns = Some (chosen, ns)
arm_after false m d s chosen ns = push m node.Seq s d (chosen ∷ []) ns

unfoldable pub arm_closes : (method depth : ℕ) → OpenArm → ℕ → List Node → Numbered ℕ
arm_closes m d w n ns = and_then (push m node.If w.span d (w.cond ∷ w.body ∷ n ∷ []) ns) (arm_after w.first m d w.span)

-- A pending suffix is completed by what comes before it, which becomes its last child.
unfoldable pub link_closes : (method depth : ℕ) → Link → ℕ → List Node → Numbered ℕ
link_closes m d l n ns = push m l.kind l.span d (l.args ++ n ∷ []) ns

-- A call on `this` evaluates its arguments, and then `this`.
unfoldable pub this_closes : (method depth : ℕ) → Span → ℕ → Span → List ℕ → List Node → Numbered ℕ
this_closes m d s n place args ns = and_then (push m node.This place d [] ns) (λ this. push m (node.Call n) s d (args ++ this ∷ []))

-- A sequence without items gets the value None.
unfoldable pub none_closes : (method depth : ℕ) → Span → List ℕ → List Node → Numbered (List ℕ)
none_closes m d s [] ns = and_then (push m (node.Prim none_entity) s d [] ns) (λ n. λ ns. Some (n ∷ [], ns))
none_closes m d s (x ∷ xs) ns = Some (x ∷ xs, ns)

unfoldable pub seq_closes : (method depth : ℕ) → Span → List ℕ → List Node → Numbered ℕ
seq_closes m d s tops ns = and_then (none_closes m d s tops ns) (push m node.Seq s d)

-- The result of the code if nodes are pending on an inner part, whose own nodes come next.
abbrev pub OpensInnerPart : {P : Type 0} → Result (List P) EmitStop → List Node → (P → ℕ → List Node → Numbered ℕ) → (List Node → Numbered ℕ) → Numbered ℕ → Type 0
OpensInnerPart (Ok ps) ns step inner want = want ≡ and_then (inner ns) (closing step ps)
OpensInnerPart (Err stop.Full) ns step inner want = want ≡ None
OpensInnerPart (Err stop.Memory) ns step inner want = Unit {0}

abbrev pub OpensOne : {P : Type 0} → Result P EmitStop → List Node → (P → ℕ → List Node → Numbered ℕ) → (List Node → Numbered ℕ) → Numbered ℕ → Type 0
OpensOne (Ok p) ns step inner want = want ≡ and_then (inner ns) (step p)
OpensOne (Err stop.Full) ns step inner want = want ≡ None
OpensOne (Err stop.Memory) ns step inner want = Unit {0}

-- The node of a suffix after what comes before it: a field, or a call of the name with this text.
abbrev pub link_of : Context → Scope → ℕ → Span → ℕ → t.Suffix → Rose → Rose
link_of c sc d s n (t.dot x) r = rose (node.Field n) (joined_span s x.span) d (one r)
link_of c sc d s n (t.args es sp) r = rose (node.Call n) (joined_span s sp) d (and_last (roses_of_exprs c sc d es) r)

-- A chain whose start has been emitted.
abbrev pub rest_of : Context → Scope → ℕ → Span → Rose → List t.Suffix → Rose
rest_of c sc d s origin ss = chain_of c sc d s read with_value origin (suffixes_of ss)

-- The last of the first `left` suffixes uses the text n, and the first `before` ones come before it.
abbrev pub IsCut : Context → List t.Suffix → (left name before : ℕ) → Type 0
IsCut c ss left n before = (sc : Scope) (d : ℕ) (s : Span) (origin : Rose) (x : t.Suffix) → slice_get ss (left - 1) ≡ Some x → rest_of c sc d s origin (take left ss) ≡ link_of c sc d s n x (rest_of c sc d s origin (take before ss))

-- Arguments after the first `left` suffixes use the text n, and the first `before` ones come before them.
abbrev pub IsBefore : Context → List t.Suffix → (left name before : ℕ) → Type 0
IsBefore c ss left n before = (sc : Scope) (d : ℕ) (s : Span) (origin : Rose) (es : t.Exprs) (sp : Span) → rest_of c sc d s origin (take left ss ++ t.args es sp ∷ []) ≡ link_of c sc d s n (t.args es sp) (rest_of c sc d s origin (take before ss))

-- ---- how a chain starts

abbrev pub is_args : Option t.Suffix → Bool
is_args (Some (t.args es s)) = true
is_args x = false

abbrev pub is_empty_args : Option t.Suffix → Bool
is_empty_args (Some (t.args t.no_exprs s)) = true
is_empty_args x = false

-- How many suffixes belong to the start.
abbrev pub taken : Beginning → ℕ
taken begins.Value = 0
taken (begins.With f at) = at + 1

-- The last of these has the arguments.
abbrev pub first_of : Context → Scope → ℕ → Span → First → t.Suffix → Rose
first_of c sc d s (first.Made k) (t.args es sp) = rose k (joined_span s sp) d (roses_of_exprs c sc d es)
first_of c sc d s (first.OnThis n p) (t.args es sp) = rose (node.Call n) (joined_span s sp) d (and_last (roses_of_exprs c sc d es) (leaf node.This p d))
first_of c sc d s first.Missing (t.args es sp) = gap (joined_span s sp) d
first_of c sc d s f (t.dot n) = gap (joined_span s n.span) d

abbrev pub first_at : Context → Scope → ℕ → Span → First → Rose → Option t.Suffix → Rose
first_at c sc d s f origin (Some x) = first_of c sc d s f x
first_at c sc d s f origin None = origin

abbrev pub begun : Context → Scope → ℕ → Span → Beginning → List t.Suffix → Rose → Rose
begun c sc d s begins.Value ss origin = origin
begun c sc d s (begins.With f at) ss origin = first_at c sc d s f origin (slice_get ss at)

-- A chain with this start has this beginning, whatever it is used for.
abbrev pub BeginsChain : Context → Start → List t.Suffix → Beginning → Type 0
BeginsChain c st ss b = (sc : Scope) (d : ℕ) (s : Span) (u : Use) (origin : Rose) → chain_of c sc d s u st origin (suffixes_of ss) ≡ chain_of c sc d s u with_value (begun c sc d s b ss origin) (suffixes_of (drop (taken b) ss))

-- What an atom with this span reads.
abbrev pub reading_rose : Reading → Span → ℕ → Rose
reading_rose (reads.Local x) s d = leaf (node.Local x) s d
reading_rose (reads.Field n) s d = rose (node.Field n) s d (one (leaf node.This s d))
reading_rose (reads.Primitive e) s d = leaf (node.Prim e) s d

-- An atom reads this, unless it is walked.
abbrev pub ReadsAtom : Context → Scope → t.Expr → Atom → Type 0
ReadsAtom c sc e (atoms.Reads r) = (d : ℕ) → expr_of c sc d e ≡ reading_rose r (t.span_of e) d
ReadsAtom c sc e atoms.Walked = Unit {0}

-- With a new object of an actor or a class, by a constructor that may be missing.
abbrev pub object : Bool → Option ℕ → ℕ → Beginning
object actor (Some m) at = begins.With (first.Made (if actor then node.Spawn m else node.New m)) at
object actor None at = begins.With first.Missing at

-- The beginning of a chain: it has this number, or else it is the atom, whose nodes come next.
abbrev pub begun_by : Option ℕ → (List Node → Numbered ℕ) → List Node → Numbered ℕ
begun_by (Some n) atom ns = Some (n, ns)
begun_by None atom ns = atom ns

-- The result of the code for a chain: its suffixes are pending on its beginning.
abbrev pub OpensChain : Result OpenChain EmitStop → List Node → (Link → ℕ → List Node → Numbered ℕ) → (List Node → Numbered ℕ) → Numbered ℕ → Type 0
OpensChain (Ok o) ns step atom want = want ≡ and_then (begun_by o.origin atom ns) (closing step o.links)
OpensChain (Err stop.Full) ns step atom want = want ≡ None
OpensChain (Err stop.Memory) ns step atom want = Unit {0}

-- ---- expressions of one kind

abbrev pub is_chain : t.Expr → Bool
is_chain (t.chain head ss s) = true
is_chain e = false

-- With sequences in it.
abbrev pub is_block : t.Expr → Bool
is_block (t.group body s) = true
is_block (t.if_ arms last s) = true
is_block (t.while_ cond body s) = true
is_block (t.recover cap body s) = true
is_block e = false

-- The elaboration of an expression of some kinds; for others, that of a missing name.
abbrev pub only : (t.Expr → Bool) → Context → Scope → ℕ → t.Expr → Rose
only kind c sc d e = if kind e then expr_of c sc d e else gap (t.span_of e) d

-- ---- what is assigned to

-- A bare name that is not defined, or that is a method.
abbrev pub names_none : Meaning → Bool
names_none (local x) = false
names_none field = false
names_none method = true
names_none nothing = true

-- The meaning of what is assigned to, if it is a bare name.
abbrev pub target_meaning : Context → Scope → t.Expr → Option Meaning
target_meaning c sc (t.name n) = Some (resolve c sc n.text)
target_meaning c sc e = None

abbrev pub none_named : Option Meaning → Bool
none_named (Some w) = names_none w
none_named None = false

abbrev pub is_missing : Context → Scope → t.Expr → Bool
is_missing c sc e = none_named (target_meaning c sc e)

-- The elaboration of a write to an expression other than a chain: only a bare name takes the value. `left` is what it
-- would be on its own.
abbrev pub alone_of : Context → Scope → ℕ → Span → Rose → Rose → t.Expr → Rose
alone_of c sc d s value left (t.name n) = write_name c s n d value (resolve c sc n.text)
alone_of c sc d s value left e = value_then s d value left

-- The node of a write to a bare name that is defined, after the value.
unfoldable pub name_closes : Context → (method depth : ℕ) → Span → Name → Meaning → ℕ → List Node → Numbered ℕ
name_closes c m d s n (local x) v ns = push m (node.Assign x) s d (v ∷ []) ns
name_closes c m d s n w v ns = and_then (push m node.This n.span d [] ns) (λ this. push m (node.SetField (number_of_text c n.text)) s d (v ∷ this ∷ []))

-- A write to the field with this text at the end of a chain, or to a chain with another end.
abbrev pub written_kind : Option ℕ → NodeKind
written_kind (Some n) = node.SetField n
written_kind None = node.Seq

abbrev pub written_end : ℕ → Span → Option ℕ → Rose → Rose → Rose
written_end d s n v r = rose (written_kind n) s d (two v r)

-- Such a chain ends with this field, after this number of suffixes.
abbrev pub IsSplit : Context → List t.Suffix → Option ℕ → ℕ → Type 0
IsSplit c ss n count = (sc : Scope) (d : ℕ) (s whole : Span) (v origin : Rose) → chain_of c sc d whole (write s v) with_value origin (suffixes_of ss) ≡ written_end d s n v (rest_of c sc d whole origin (take count ss))

-- ---- bodies

-- Numbers after others.
abbrev pub behind_tops : List ℕ → Numbered (List ℕ) → Numbered (List ℕ)
behind_tops tops o = and_then o (λ more. λ ns. Some (tops ++ more, ns))

-- The result of the code for a list of parts that is followed by others.
abbrev pub LeadsOn : Result (List ℕ) EmitStop → List Node → (List Node → Numbered (List ℕ)) → Numbered (List ℕ) → Type 0
LeadsOn (Ok tops) ns rest want = want ≡ behind_tops tops (rest ns)
LeadsOn (Err stop.Full) ns rest want = want ≡ None
LeadsOn (Err stop.Memory) ns rest want = Unit {0}

-- The value None after the items, if one is added.
unfoldable pub ends_with : Bool → (method depth : ℕ) → Span → List ℕ → List Node → Numbered (List ℕ)
ends_with true m d s tops ns = and_then (push m (node.Prim none_entity) s d [] ns) (λ n. λ ns. Some (tops ++ n ∷ [], ns))
ends_with false m d s tops ns = Some (tops, ns)

-- A body around its sequence.
unfoldable pub body_closes : (method depth : ℕ) → Span → Span → List ℕ → List Node → Numbered ℕ
body_closes m d name s tops ns = and_then (seq_closes m d s tops ns) (λ q. push m node.Body name d (q ∷ []))
