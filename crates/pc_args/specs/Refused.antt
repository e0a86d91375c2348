-- Which words ask for nothing.
use Rattle.std.specs.Prelude.{◌≡◌, true, List, None}
use Rattle.pc_base.specs.Lists.{Text}
use Rattle.pc_args.specs.Asked.{command_of, is_refused}

-- Exactly those that are refused.
pub record OnlyRefusedAskForNothing : Type 0 where
  pub refused : (words : List Text) → is_refused words ≡ true → command_of words ≡ None
  pub only : (words : List Text) → command_of words ≡ None → is_refused words ≡ true
