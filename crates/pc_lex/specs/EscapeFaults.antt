-- The faults of the bytes between the quotes of a text.
use Rattle.std.specs.Prelude.{◌≡◌, List, ℕ, Result, Ok, Err, ⊤}
use Rattle.pc_lex.specs.{declared.texts.EscapeFault.EscapeFault, Faults.BadAt}
use Rattle.pc_lex.specs.declared.texts.EscapeFault.TheVariants as fault

abbrev pub IsBadEscape : List ℕ → EscapeFault → Type 0
IsBadEscape b (fault.BadEscape at) = BadAt b at
IsBadEscape b fault.Memory = ⊤

-- The function returned what the definition reads, or memory ran out.
abbrev pub GivesValue : Result (List ℕ) EscapeFault → Result (List ℕ) ℕ → Type 0
GivesValue (Ok v) read = read ≡ Ok v
GivesValue (Err (fault.BadEscape at)) read = read ≡ Err at
GivesValue (Err fault.Memory) read = ⊤
