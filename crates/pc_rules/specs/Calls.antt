-- Rules for constructors, calls and messages.
use Rattle.std.specs.Prelude.{ℕ, ◌-◌, Bool, true, false, ◌&&◌, ◌||◌, not, List, [], ◌∷◌, length, take, Option, Some, None, nat_eq, slice_get, codes, if◌then◌else◌}
use Rattle.pc_caps.specs.{Computed.fits, Tables.{sendable, sendable_form}, declared.capability.Cap.Cap, declared.capability.Form.Form}
use Rattle.pc_core.specs.{CoreData.{method_named, CoreData}, declared.declarations.Method.Method, declared.declarations.MethodKind.MethodKind, declared.declarations.ParamInfo.ParamInfo}
use Rattle.pc_rules.specs.{Parts.{says_of, goes_to, reads_as, through_notes, one_type, last_note}, declared.said.Said.Said}
use Rattle.pc_valid.specs.Words.{Ty, Masks}
use Rattle.pc_tree.specs.Kinds.{none_entity, u64_entity, bool_entity, string_entity}
use Rattle.pc_base.specs.Lists.{◌>>=◌}
use Rattle.pc_ann.specs.declared.annotation.Note.{Note}
use Rattle.pc_caps.specs.declared.capability.Cap.TheVariants as cap
use Rattle.pc_caps.specs.declared.capability.Form.TheVariants as form
use Rattle.pc_core.specs.declared.declarations.MethodKind.TheVariants as method

-- ---- arguments

-- An argument of this type goes to the parameter.
abbrev pub argument_goes : CoreData → ParamInfo → Option Ty → Bool
argument_goes core p None = false
argument_goes core p (Some v) = goes_to core v (p.entity, p.cap)

-- There are as many arguments as parameters, and each goes to its parameter.
abbrev pub arguments_go : CoreData → List Note → List ParamInfo → Bool
arguments_go core [] [] = true
arguments_go core (t ∷ ts) (p ∷ ps) = argument_goes core p t.ty && arguments_go core ts ps
arguments_go core ts ps = false

-- ---- constructors

-- New: the arguments go to the parameters; the constructor's result.
abbrev pub new_says : CoreData → List Note → ℕ → Masks → Option Said
new_says core ns k m = do
  f ← slice_get core.methods k
  n ← through_notes ns m
  if arguments_go core ns f.params then Some (says_of (Some f.result) n) else None

-- Spawn: the arguments go to the parameters; the actor's entity, as `tag`.
abbrev pub spawn_says : CoreData → List Note → ℕ → Masks → Option Said
spawn_says core ns k m = do
  f ← slice_get core.methods k
  n ← through_notes ns m
  if arguments_go core ns f.params then Some (says_of (Some (f.entity, form.Tag)) n) else None

-- ---- calls

-- The arguments of a call: all its children except the last one, which is the receiver.
abbrev pub arguments : List Note → List Note
arguments ns = take (length ns - 1) ns

-- The type of a call's receiver, and the number of the method with this name of the receiver's entity.
abbrev pub called : CoreData → List Note → ℕ → Option (Ty × ℕ)
called core ns name = do
  r ← last_note ns
  o ← r.ty
  k ← method_named core o.0 name
  Some (o, k)

abbrev pub is_function : MethodKind → Bool
is_function method.Fun = true
is_function method.Be = false
is_function method.New = false
is_function method.Spawn = false

abbrev pub is_behaviour : MethodKind → Bool
is_behaviour method.Be = true
is_behaviour method.Fun = false
is_behaviour method.New = false
is_behaviour method.Spawn = false

-- The method is a function, the arguments go to the parameters, and the receiver fits.
abbrev pub calls : CoreData → List Note → Ty → Method → Bool
calls core ns o f = is_function f.kind && (arguments_go core (arguments ns) f.params && fits o.1 f.receiver)

-- Call: the method's result.
abbrev pub call_says : CoreData → List Note → ℕ → Masks → Option Said
call_says core ns name m = do
  i ← called core ns name
  f ← slice_get core.methods i.1
  n ← through_notes ns m
  if calls core ns i.0 f then Some (says_of (Some f.result) n) else None

abbrev pub is_isolated : Form → Bool
is_isolated form.Iso = true
is_isolated form.Trn = true
is_isolated form.IsoE = false
is_isolated form.TrnE = false
is_isolated form.Ref = false
is_isolated form.Val = false
is_isolated form.Box = false
is_isolated form.Tag = false

abbrev pub is_lent : Cap → Bool
is_lent cap.Ref = true
is_lent cap.Box = true
is_lent cap.Iso = false
is_lent cap.Trn = false
is_lent cap.Val = false
is_lent cap.Tag = false

-- The argument has a sendable form, or goes to a sendable parameter.
abbrev pub argument_sendable : ParamInfo → Option Ty → Bool
argument_sendable p None = false
argument_sendable p (Some v) = sendable_form v.1 || sendable p.cap

abbrev pub arguments_sendable : List Note → List ParamInfo → Bool
arguments_sendable [] [] = true
arguments_sendable (t ∷ ts) (p ∷ ps) = argument_sendable p t.ty && arguments_sendable ts ps
arguments_sendable ts ps = false

-- The receiver does not fit, but it is `iso` or `trn` and can be lent to the method as `ref` or `box`.
abbrev pub lends : Form → Cap → Bool
lends o k = not (fits o k) && (is_isolated o && is_lent k)

-- The method is a function, the arguments go to the parameters, the receiver is lent, and nothing goes in that could be
-- kept together with it: each argument has a sendable form or goes to a sendable parameter.
abbrev pub recovers : CoreData → List Note → Ty → Method → Bool
recovers core ns o f =
    (is_function f.kind && arguments_go core (arguments ns) f.params)
    && (lends o.1 f.receiver && arguments_sendable (arguments ns) f.params)

-- The result of a call on a receiver that was lent: a sendable result, or none.
abbrev pub recovered_result : Ty → Option Ty
recovered_result r = if sendable_form r.1 then Some r else None

-- Callrecover: the method's result, if it is sendable.
abbrev pub callrecover_says : CoreData → List Note → ℕ → Masks → Option Said
callrecover_says core ns name m = do
  i ← called core ns name
  f ← slice_get core.methods i.1
  n ← through_notes ns m
  if recovers core ns i.0 f then Some (says_of (recovered_result f.result) n) else None

-- The method is a behaviour, and the arguments go to the parameters. The receiver's form does not matter.
abbrev pub sends : CoreData → List Note → Method → Bool
sends core ns f = is_behaviour f.kind && arguments_go core (arguments ns) f.params

-- Send: None.
abbrev pub send_says : CoreData → List Note → ℕ → Masks → Option Said
send_says core ns name m = do
  i ← called core ns name
  f ← slice_get core.methods i.1
  n ← through_notes ns m
  if sends core ns f then Some (says_of (Some (none_entity, form.Val)) n) else None

-- ---- the text of a value

abbrev pub same_text : List ℕ → List ℕ → Bool
same_text [] [] = true
same_text (a ∷ as') (b ∷ bs) = nat_eq a b && same_text as' bs
same_text a b = false

-- A number or a truth value.
abbrev pub has_text : Ty → Bool
has_text v = reads_as u64_entity v || reads_as bool_entity v

-- Builtin: `string` without arguments, on a readable U64 or Bool; a String.
abbrev pub has_string : List ℕ → Ty → Bool
has_string name v = same_text name (codes "string") && has_text v

abbrev pub builtin_says : CoreData → List Note → ℕ → Masks → Option Said
builtin_says core ns name m = do
  v ← one_type ns
  text ← slice_get core.names name
  n ← through_notes ns m
  if has_string text v then Some (says_of (Some (string_entity, form.Val)) n) else None
