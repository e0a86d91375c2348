-- The lines about the rules for a node at which none holds.
use Rattle.std.specs.{Prelude.{Bool, List, [], ◌∷◌, ◌++◌, codes, flat_map, if◌then◌else◌}, List.list_any, Str.bytes_eq}
use Rattle.pc_ann.specs.declared.annotation.Rule.{Rule}
use Rattle.pc_base.specs.Lists.{Text, line_end}
use Rattle.pc_explain.specs.declared.rule_lines.Reported.{Reported}
use Rattle.pc_ann.specs.declared.annotation.Rule.TheVariants as rule

abbrev pub rule_word : Rule → Text
rule_word rule.Number = codes "number"
rule_word rule.Truth = codes "truth"
rule_word rule.Text = codes "text"
rule_word rule.Prim = codes "prim"
rule_word rule.This = codes "this"
rule_word rule.Local = codes "local"
rule_word rule.Consume = codes "consume"
rule_word rule.Get = codes "get"
rule_word rule.GetOwn = codes "getown"
rule_word rule.Put = codes "put"
rule_word rule.PutOwn = codes "putown"
rule_word rule.Define = codes "define"
rule_word rule.Assign = codes "assign"
rule_word rule.New = codes "new"
rule_word rule.Spawn = codes "spawn"
rule_word rule.Call = codes "call"
rule_word rule.CallRecover = codes "callrecover"
rule_word rule.Send = codes "send"
rule_word rule.Builtin = codes "builtin"
rule_word rule.Arith = codes "arith"
rule_word rule.Compare = codes "compare"
rule_word rule.Equal = codes "equal"
rule_word rule.Join = codes "join"
rule_word rule.Logic = codes "logic"
rule_word rule.Lazy = codes "lazy"
rule_word rule.Identity = codes "identity"
rule_word rule.Seq = codes "seq"
rule_word rule.If = codes "if"
rule_word rule.While = codes "while"
rule_word rule.Recover = codes "recover"
rule_word rule.Body = codes "body"

-- The rule fails with this sentence.
abbrev pub has_sentence : Text → Reported → Bool
has_sentence sentence t = bytes_eq t.sentence sentence

-- The name of a later rule, if it fails with this sentence too.
unfoldable pub more_name : Text → Reported → Text
more_name sentence t = if has_sentence sentence t then codes ", " ++ rule_word t.rule else []

abbrev pub number_word : (several : Bool) → Text
number_word several = if several then codes "rules " else codes "rule "

-- The rules that fail with the sentence of the first of these.
unfoldable pub names_of : Reported → List Reported → Text
names_of t later = number_word (list_any (has_sentence t.sentence) later) ++ (rule_word t.rule ++ flat_map (more_name t.sentence) later)

unfoldable pub hint_line : Text → Text
hint_line [] = []
hint_line (b ∷ bs) = codes "hint: " ++ ((b ∷ bs) ++ line_end)

-- The line about the first of these, and its hint.
unfoldable pub rule_line : Reported → List Reported → Text
rule_line t later = names_of t later ++ (codes ": " ++ (t.sentence ++ (line_end ++ hint_line t.hint)))

-- A rule has a line unless an earlier one has its sentence: rules that fail with the same sentence share a line.
abbrev pub line_after : (earlier : List Reported) → Reported → (later : List Reported) → Text
line_after earlier t later = if list_any (has_sentence t.sentence) earlier then [] else rule_line t later

abbrev pub lines_after : (earlier : List Reported) → List Reported → Text
lines_after earlier [] = []
lines_after earlier (t ∷ ts) = line_after earlier t ts ++ lines_after (earlier ++ t ∷ []) ts

-- The lines about the rules, in order.
unfoldable pub rule_lines : List Reported → Text
rule_lines ts = lines_after [] ts
