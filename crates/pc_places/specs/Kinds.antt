-- The kinds of nodes, each with what it refers to.
use Rattle.std.specs.Prelude.{◌++◌, Option, Some, None, codes, decimal, slice_get}
use Rattle.pc_core.specs.{CoreData.CoreData, declared.nodes.NodeKind.NodeKind}
use Rattle.pc_base.specs.Lists.{Text}
use Rattle.pc_core.specs.declared.nodes.NodeKind.TheVariants as node

-- A name, or `-` if there is none.
abbrev pub name_or_dash : Option Text → Text
name_or_dash None = codes "-"
name_or_dash (Some name) = name

abbrev pub kind_text : CoreData → NodeKind → Text
kind_text core (node.Number v) = codes "number"
kind_text core (node.Truth v) = codes "truth"
kind_text core (node.Text v) = codes "text"
kind_text core (node.Prim e) = codes "prim:" ++ decimal e
kind_text core node.This = codes "this"
kind_text core (node.Local s) = codes "local:" ++ decimal s
kind_text core (node.Consume s) = codes "consume:" ++ decimal s
kind_text core (node.Field f) = codes "field:" ++ name_or_dash (slice_get core.names f)
kind_text core (node.SetField f) = codes "setfield:" ++ name_or_dash (slice_get core.names f)
kind_text core (node.Define s) = codes "define:" ++ decimal s
kind_text core (node.Assign s) = codes "assign:" ++ decimal s
kind_text core (node.New m) = codes "new:" ++ decimal m
kind_text core (node.Spawn m) = codes "spawn:" ++ decimal m
kind_text core (node.Call f) = codes "call:" ++ name_or_dash (slice_get core.names f)
kind_text core (node.Binary o) = codes "binary"
kind_text core node.Not = codes "not"
kind_text core node.And = codes "and"
kind_text core node.Or = codes "or"
kind_text core (node.Same v) = codes "same"
kind_text core node.Seq = codes "seq"
kind_text core node.If = codes "if"
kind_text core node.While = codes "while"
kind_text core (node.Recover c) = codes "recover"
kind_text core node.Body = codes "body"
