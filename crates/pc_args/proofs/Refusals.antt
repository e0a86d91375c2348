-- Which words are refused.
use Rattle.std.proofs.Common.{◌≡◌, Bool, true, false, not, ◌&&◌, List, [], ◌∷◌, Option, Some, None, refl, subst, sym}
use Rattle.std.specs.Prelude.{if◌then◌else◌, option_and_then}
use Rattle.clap.specs.{Kinds.Kinds, Words.{fault_of, subcommand_of, takes}}
use Rattle.pc_base.specs.Lists.{Text}
use Rattle.pc_args.specs.{Asked.{Asked, command_of, has_fault, is_refused, asked_by_name}, Line.rcap, Refused.OnlyRefusedAskForNothing}
use Rattle.pc_args.proofs.{Forms.nothing_asked, Missing.{missing, untaken_without}}

faultless : (t : Bool) (k : Kinds) → k ≡ [] → (not t && has_fault k) ≡ false
faultless true [] e = refl
faultless false [] e = refl
faultless t (x ∷ xs) e = cc

untaken : (t : Bool) (k : Kinds) → (t ≡ true → ⊥) → (k ≡ [] → ⊥) → (not t && has_fault k) ≡ true
untaken true k n m = absurd (n refl)
untaken false [] n m = absurd (m refl)
untaken false (x ∷ xs) n m = refl

-- Words without a fault ask for what their subcommand does.
pub asks : (words : List Text) (asked : Asked) → fault_of rcap words ≡ [] → option_and_then asked_by_name (subcommand_of rcap words) ≡ Some asked → command_of words ≡ Some asked
unfolding command_of is_refused
asks words asked f e =
    subst (λ (b : Bool). (if b then None else option_and_then asked_by_name (subcommand_of rcap words)) ≡ Some asked)
    (sym (faultless (takes rcap words) (fault_of rcap words) f)) e

pub refuses : (words : List Text) → (takes rcap words ≡ true → ⊥) → (fault_of rcap words ≡ [] → ⊥) → is_refused words ≡ true
unfolding is_refused
refuses words n m = untaken (takes rcap words) (fault_of rcap words) n m

-- Refused words ask for nothing.
pub asks_nothing : (words : List Text) → is_refused words ≡ true → command_of words ≡ None
unfolding command_of
asks_nothing words r =
    subst (λ (b : Bool). (if b then None else option_and_then asked_by_name (subcommand_of rcap words)) ≡ None) (sym r) refl

-- Words that ask for nothing are refused.
without : {A : Type 0} (t : Bool) (k : Kinds) (o : Option A) → (o ≡ None → t ≡ true → ⊥) → (o ≡ None → k ≡ [] → ⊥)
    → (if not t && has_fault k then None else o) ≡ None → (not t && has_fault k) ≡ true
without true k None m n e = absurd (m refl refl)
without true k (Some x) m n e = cc
without false [] None m n e = absurd (n refl refl)
without false [] (Some x) m n e = cc
without false (x ∷ xs) o m n e = refl

only : (words : List Text) → command_of words ≡ None → is_refused words ≡ true
unfolding command_of is_refused
only words e =
    without (takes rcap words) (fault_of rcap words) (option_and_then asked_by_name (subcommand_of rcap words))
    (λ r. untaken_without words (nothing_asked words r))
    (λ r. missing words (nothing_asked words r)) e

pub only_refused : OnlyRefusedAskForNothing
only_refused = record { refused = asks_nothing; only = only }
