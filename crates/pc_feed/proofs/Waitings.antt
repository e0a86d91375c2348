-- The notes of the nodes without a parent, after one more node.
use Rattle.std.specs.Prelude.{◌≡◌, ◌≢◌, ℕ, ◌+◌, ◌-◌, List, [], ◌∷◌, ◌++◌, length, take, drop, Option, Some, slice_get, refl}
use Rattle.std.proofs.{Common.{ap, sym, subst, ◌∙◌, arith, length-append}, lemmas.Option.same_Some}
use Rattle.pc_base.specs.Lists.{◌>>=◌}
use Rattle.pc_base.proofs.{Options.{bind_some, bind_is}, Gets.get_behind}
use Rattle.pc_core.specs.{declared.nodes.Node.Node, declared.nodes.NodeKind.NodeKind, CoreData.CoreData, Formed.Formed}
use Rattle.pc_core.specs.declared.nodes.NodeKind.TheVariants as node
use Rattle.pc_ann.specs.declared.annotation.Note.{Note}
use Rattle.pc_rules.specs.Parts.{notes_of}
use Rattle.pc_feed.specs.{Waiting.{WaitingNodes, next, body}, Steps.{last_of, all_but_last, put_after, waits_after}}
use Rattle.pc_feed.proofs.{PostOrder.children_wait_last, Noted.{noted_more, noted_cut}, Sayings.count_push}

-- ---- cuts

take_front : (f c : List Note) → take (length f) (f ++ c) ≡ f
take_front [] c = refl
take_front (t ∷ f) c = ap (λ ts. t ∷ ts) (take_front f c)

drop_front : (f c : List Note) → drop (length f) (f ++ c) ≡ c
drop_front [] c = refl
drop_front (t ∷ f) c = drop_front f c

-- If the last notes, this many, are cut off.
front_length : (ws f c : List Note) (k : ℕ) → ws ≡ f ++ c → length c ≡ k → length ws - k ≡ length f
front_length ws f c k e l =
    let size : length ws ≡ length (f ++ c) = ap (λ (x : List Note). length x) e in
    let both = length-append f c in
    omega (arith, size, both, l)

pub front_is : (ws f c : List Note) (k : ℕ) → ws ≡ f ++ c → length c ≡ k → all_but_last ws k ≡ f
front_is ws f c k e l = ap (λ n. take n ws) (front_length ws f c k e l) ∙ ap (take (length f)) e ∙ take_front f c

pub back_is : (ws f c : List Note) (k : ℕ) → ws ≡ f ++ c → length c ≡ k → last_of ws k ≡ c
back_is ws f c k e l = ap (λ n. drop n ws) (front_length ws f c k e l) ∙ ap (drop (length f)) e ∙ drop_front f c

-- ---- one more note

abbrev put_on : Note → Option (List Note) → Option (List Note)
put_on t rest = rest >>= λ ts. Some (t ∷ ts)

abbrev all_on : List Note → List ℕ → Note → Option (List Note)
all_on notes cs t = put_on t (notes_of notes cs)

noted_push : (notes : List Note) (cs : List ℕ) (ts : List Note) (k : ℕ) (t : Note) → notes_of notes cs ≡ Some ts → slice_get notes k ≡ Some t → notes_of notes (cs ++ k ∷ []) ≡ Some (ts ++ t ∷ [])
noted_push notes [] ts k t e g =
    bind_is (slice_get notes k) (all_on notes []) t g ∙ ap (λ us. Some (us ++ t ∷ [])) (same_Some [] ts e)
noted_push notes (c ∷ cs) ts k t e g =
    let h = bind_some (slice_get notes c) (all_on notes cs) ts e in
    let m = bind_some (notes_of notes cs) (λ us. Some (h.0 ∷ us)) ts h.2 in
    let more = noted_push notes cs m.0 k t m.1 g in
    let same : h.0 ∷ m.0 ≡ ts = same_Some (h.0 ∷ m.0) ts m.2 in
    bind_is (slice_get notes c) (all_on notes (cs ++ k ∷ [])) h.0 h.1
    ∙ bind_is (notes_of notes (cs ++ k ∷ [])) (λ us. Some (h.0 ∷ us)) (m.0 ++ t ∷ []) more
    ∙ ap (λ us. Some (us ++ t ∷ [])) same

-- ---- a node

count_of : (notes : List Note) (cs : List ℕ) (ts : List Note) → notes_of notes cs ≡ Some ts → length ts ≡ length cs
count_of notes [] ts e = ap (λ (us : List Note). length us) (sym (same_Some [] ts e))
count_of notes (c ∷ cs) ts e =
    let h = bind_some (slice_get notes c) (all_on notes cs) ts e in
    let m = bind_some (notes_of notes cs) (λ us. Some (h.0 ∷ us)) ts h.2 in
    let same : h.0 ∷ m.0 ≡ ts = same_Some (h.0 ∷ m.0) ts m.2 in
    let size : length (h.0 ∷ m.0) ≡ length ts = ap (λ (us : List Note). length us) same in
    let more = count_of notes cs m.0 m.1 in
    omega (arith, size, more)

-- The nodes without a parent after a node with this note.
pub record Behind (core : CoreData) (notes : List Note) (waiting : List Note) (own : Note) : Type 0 where
  pub numbers : List ℕ
  pub waits : WaitingNodes core (length (notes ++ own ∷ [])) numbers
  pub kept : notes_of (notes ++ own ∷ []) numbers ≡ Some waiting

module _ (core : CoreData) (formed : Formed core) (notes waiting : List Note) (numbers : List ℕ) (own : Note) (x : Node)
    (w : WaitingNodes core (length notes) numbers) (kept : notes_of notes numbers ≡ Some waiting) (g : slice_get core.nodes (length notes) ≡ Some x) where
  abbrev front : List Note
  front = all_but_last waiting (length x.children)

  waits_other : x.kind ≢ node.Body → Behind core notes (front ++ own ∷ []) own
  waits_other other =
      let s = children_wait_last core (length notes) numbers x formed w g in
      let c = noted_cut notes s.0 x.children waiting (sym (ap (notes_of notes) s.1) ∙ kept) in
      let is_front : front ≡ c.0 = front_is waiting c.0 c.1 (length x.children) c.2 (count_of notes x.children c.1 c.4) in
      let size : length notes + 1 ≡ length (notes ++ own ∷ []) = sym (count_push notes own) in
      record {
        numbers = s.0 ++ length notes ∷ [];
        waits = subst (λ n. WaitingNodes core n (s.0 ++ length notes ∷ [])) size
            (next {n = length notes} s.0 x g other (subst (WaitingNodes core (length notes)) s.1 w));
        kept = noted_push (notes ++ own ∷ []) s.0 c.0 (length notes) own (noted_more notes (own ∷ []) s.0 c.0 c.3) (get_behind notes own [])
            ∙ ap (λ ts. Some (ts ++ own ∷ [])) (sym is_front);
      }

  waits_body : x.kind ≡ node.Body → Behind core notes front own
  waits_body is =
      let s = children_wait_last core (length notes) numbers x formed w g in
      let c = noted_cut notes s.0 x.children waiting (sym (ap (notes_of notes) s.1) ∙ kept) in
      let is_front : front ≡ c.0 = front_is waiting c.0 c.1 (length x.children) c.2 (count_of notes x.children c.1 c.4) in
      let none : s.0 ≡ [] = s.2 is in
      let nothing : [] ≡ c.0 = same_Some [] c.0 (ap (notes_of notes) (sym none) ∙ c.3) in
      let alone : numbers ≡ x.children = s.1 ∙ ap (λ (r : List ℕ). r ++ x.children) none in
      let size : length notes + 1 ≡ length (notes ++ own ∷ []) = sym (count_push notes own) in
      record {
        numbers = [];
        waits = subst (λ n. WaitingNodes core n []) size (body {n = length notes} x g is (subst (WaitingNodes core (length notes)) alone w));
        kept = ap Some (nothing ∙ sym is_front);
      }

  behind_by : (k : NodeKind) → x.kind ≡ k → Behind core notes (put_after front k own) own
  behind_by node.Body e = waits_body e
  behind_by k e = waits_other (λ q. let bad : k ≡ node.Body = sym e ∙ q in cc)

  pub behind : Behind core notes (waits_after waiting x own) own
  behind = behind_by x.kind refl
