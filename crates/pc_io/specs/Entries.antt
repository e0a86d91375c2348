-- What a list of files in memory contains.
use Rattle.std.specs.{Prelude.{List, ℕ, Option, Some, find, option_map, unwrap_or, []}, Str.bytes_eq}
use Rattle.pc_io.specs.declared.entries.Entry.{Entry}

-- the bytes under a name: those of the first file with that name
abbrev pub held : List Entry → List ℕ → Option (List ℕ)
held entries name = option_map (λ e. e.bytes) (find (λ e. bytes_eq e.name name) entries)

-- the same, but a missing name is an empty file
abbrev pub held_or_empty : List Entry → List ℕ → Option (List ℕ)
held_or_empty entries name = Some (unwrap_or (held entries name) [])
