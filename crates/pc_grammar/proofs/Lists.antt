-- The lists of a tree, as lists.
use Rattle.std.proofs.Common.{◌≡◌, List, [], ◌∷◌, refl, ap}
use Rattle.pc_tree.specs.Tree as t
use Rattle.pc_tree.specs.Parts.{exprs_of, suffixes_of, arms_of, items_of}

abbrev pub list_of : t.Exprs → List t.Expr
list_of t.no_exprs = []
list_of (t.expr e es) = e ∷ list_of es

abbrev pub suffix_list : t.Suffixes → List t.Suffix
suffix_list t.no_suffixes = []
suffix_list (t.suffix e es) = e ∷ suffix_list es

abbrev pub arm_list : t.Arms → List t.Arm
arm_list t.no_arms = []
arm_list (t.arm e es) = e ∷ arm_list es

abbrev pub item_list : t.Items → List t.Item
item_list t.no_items = []
item_list (t.item e es) = e ∷ item_list es

pub exprs_back : (es : t.Exprs) → exprs_of (list_of es) ≡ es
exprs_back t.no_exprs = refl
exprs_back (t.expr e es) = ap (t.expr e) (exprs_back es)

pub suffixes_back : (ss : t.Suffixes) → suffixes_of (suffix_list ss) ≡ ss
suffixes_back t.no_suffixes = refl
suffixes_back (t.suffix x ss) = ap (t.suffix x) (suffixes_back ss)

pub arms_back : (xs : t.Arms) → arms_of (arm_list xs) ≡ xs
arms_back t.no_arms = refl
arms_back (t.arm x xs) = ap (t.arm x) (arms_back xs)

pub items_back : (is : t.Items) → items_of (item_list is) ≡ is
items_back t.no_items = refl
items_back (t.item i is) = ap (t.item i) (items_back is)

pub exprs_list : (es : List t.Expr) → list_of (exprs_of es) ≡ es
exprs_list [] = refl
exprs_list (e ∷ es) = ap (λ l. e ∷ l) (exprs_list es)

pub suffixes_list : (ss : List t.Suffix) → suffix_list (suffixes_of ss) ≡ ss
suffixes_list [] = refl
suffixes_list (s ∷ ss) = ap (λ l. s ∷ l) (suffixes_list ss)

pub items_list : (is : List t.Item) → item_list (items_of is) ≡ is
items_list [] = refl
items_list (i ∷ is) = ap (λ l. i ∷ l) (items_list is)
