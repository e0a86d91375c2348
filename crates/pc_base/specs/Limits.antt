-- The limits of a program that more than one layer mentions. A limit that concerns one layer alone is defined there:
-- the bytes and tokens of a source in `pc_lex`, the levels of a tree in `pc_grammar`, the turns of a schedule in
-- `pc_sched`, the actors of a trace in `pc_trace`.
use Rattle.std.specs.Prelude.{ℕ, ◌*◌}

-- how many entities a file may have, besides the built-in ones
abbrev pub entity_limit : ℕ
entity_limit = 1000

-- how many methods a file may have, counting added constructors and the methods that its entities take over
abbrev pub method_limit : ℕ
method_limit = 10000

-- how many fields an entity may have
abbrev pub field_limit : ℕ
field_limit = 64

-- how many slots a method may have, counting the one for `this`
abbrev pub slot_limit : ℕ
slot_limit = 64

-- how many slots all methods of a program can have together
abbrev pub program_slot_limit : ℕ
program_slot_limit = method_limit * slot_limit

-- how many nodes a program may have
abbrev pub node_limit : ℕ
node_limit = 200000

-- how many bytes a text may have, whether it is written or made in a run
abbrev pub text_limit : ℕ
text_limit = 4096
