-- What is on out after a command has passed all its stages.
use Rattle.std.specs.Prelude.{ℕ, ◌≡◌, Option, Some, List, IfSome}
use Rattle.pc_base.specs.Lists.{Text}
use Rattle.pc_args.specs.Asked.{swap, trace, command_of}
use Rattle.pc_io.specs.Sink.{Change}
use Rattle.pc_top.specs.{Commands.OnOutOf, Commands.Swap.WritesSwap, Commands.Trace.WritesTrace}
use Rattle.pc_commands.specs.Swap.{IsPlace}

-- What the command of the words writes, if the bytes of its files are known: the source's derivation, `accepted`, the
-- text of the run, the printed tree or the core with its places; or why the source is refused, or that it is accepted;
-- or the numbers of the program that it generates, and the text of its run; or the schedule with two turns exchanged or
-- why they keep their order; or the accesses or the events of the run with their clocks; or the lines of who sends what,
-- which are right about every run; or a derivation in version 2 of its text; or the schedule that a seed chooses, the
-- text of its run, or the table of the outcomes of the seeds below a count. `swap`, `trace` and `events` write that, or
-- nothing.
abbrev pub OnOut : (Text → Option Text) → List Text → Change → Type 0
OnOut known words out = OnOutOf known (command_of words) out

-- If `swap` is done, it reports on the turns at its place. If they were exchanged, they lead where they led before: all
-- four steps move, and both lists lead to the same configuration.
abbrev pub Swaps : (Text → Option Text) → List Text → Change → Type 0
Swaps known words out = (source schedule place : Text) → command_of words ≡ Some (swap source schedule place)
    → IfSome (known source) (λ bytes. IfSome (known schedule) (λ text. (n : ℕ) × IsPlace place n × WritesSwap out bytes text n))

-- If `trace` is done, all accesses of the run are on out with their clocks, and those that conflict are ordered.
abbrev pub Traces : (Text → Option Text) → List Text → Change → Type 0
Traces known words out = (source schedule : Text) → command_of words ≡ Some (trace source schedule)
    → IfSome (known source) (λ bytes. IfSome (known schedule) (WritesTrace out bytes))
