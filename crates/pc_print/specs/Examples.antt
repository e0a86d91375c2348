-- One tree and its printed text.
use Rattle.std.specs.Prelude.{◌≡◌, List, [], ◌∷◌, ◌++◌, Some, None, false, codes, ℕ}
use Rattle.pc_tree.specs.declared.written_names.Name.{Name}
use Rattle.pc_grammar.specs.Spells.{no_span}
use Rattle.pc_print.specs.Printing.{printed}
use Rattle.pc_tree.specs.Tree as t
use Rattle.pc_tree.specs.declared.kinds.EntityKind.TheVariants as kind
use Rattle.pc_tree.specs.declared.kinds.MethodWord.TheVariants as method

abbrev named : List ℕ → Name
named b = record { text = b; span = no_span }

-- `env.out.print("a\tb")`
abbrev call : t.Expr
call = t.chain (t.name (named (codes "env"))) (t.suffix (t.dot (named (codes "out"))) (t.suffix (t.dot (named (codes "print"))) (t.suffix (t.args (t.expr (t.text (97 ∷ 9 ∷ 98 ∷ []) no_span) t.no_exprs) no_span) t.no_suffixes))) no_span

abbrev pub main_file : t.File
main_file = record {
  entities = record {
    kind = kind.Actor;
    cap = None;
    name = named (codes "Main");
    provides = [];
    fields = [];
    methods = record {
      word = method.New;
      cap = None;
      name = named (codes "create");
      params = record { name = named (codes "env"); ty = record { name = named (codes "Env"); cap = None; hat = false } } ∷ [];
      result = None;
      body = Some (t.seq (t.item (t.plain call) t.no_items) no_span);
    } ∷ [];
  } ∷ [];
}

-- `actor Main`, `  new create(env: Env) =>`, `    env.out.print("a\tb")`
abbrev pub MainIsPrinted : Type 0
MainIsPrinted = printed main_file ≡ codes "actor Main" ++ 10 ∷ (codes "  new create(env: Env) =>" ++ 10 ∷ (codes "    env.out.print(" ++ 34 ∷ 97 ∷ 92 ∷ 116 ∷ 98 ∷ 34 ∷ 41 ∷ 10 ∷ []))
