-- An entity of a file whose names have no fault has one list of members, and it is the one that is computed.
use Rattle.std.proofs.Common.{◌≡◌, ℕ, zero, suc, ◌<◌, List, [], ◌∷◌, ◌++◌, length, map, Some, Bool, true, false, refl, sym, ap, ap₂, ◌∙◌, subst, arith, if◌then◌else◌}
use Rattle.std.specs.Prelude.{slice_get}
use Rattle.pc_base.specs.Lists.{Has}
use Rattle.pc_base.proofs.Elements.{has_on}
use Rattle.pc_tree.specs.{declared.written_names.Name.Name, Kinds.is_abstract}
use Rattle.pc_tree.specs.Tree as t
use Rattle.pc_members.specs.{Members.{has_added, IsTransitiveClosure, Member, written, without_body, own_texts}, Parts.{added_if, of_entity}, Founded.IsFounded, MemberLists.{firsts, entity_named, of_each, trait_methods, abstract_methods, methods_taken_over, taken_over, abstract_members, concrete_members, members}}
use Rattle.pc_names.proofs.Founded.{collected_founded}
use Rattle.pc_members.proofs.{Named.{named_is, one_entity}, Ranks.{Target, target, named_by, rank_at, rank_less, rank_few, steady}}
use Rattle.pc_core_relation.specs.{Files.{AreFirstOfNames, AnyMethod, HasMethods, inherits, Gives, no_more, more, MayTake, HasMembers, bodiless, with_bodies}, Laws.MembersAreComputed}
use Rattle.pc_core_relation.proofs.Firsts.{first_one, firsts_are, taken_are}

target_name : (file : t.File) (n : Name) (q : Target file n) → q.entity.name.text ≡ n.text
target_name file n q = (named_is file.entities n.text q.entity q.named).1

module _ (file : t.File) (above : List (List ℕ)) (founded : IsFounded file) (closed : IsTransitiveClosure file above) where
  abbrev all : List t.Entity
  all = file.entities

  -- ---- the computed methods satisfy the relation

  -- What the entity found by a name has.
  record Found (methods : t.Entity → List t.Method) (n : Name) : Type 0 where
    entity : t.Entity
    there : Has all entity
    name : entity.name.text ≡ n.text
    named : entity_named all n.text ≡ Some entity
    has : HasMethods file entity (methods entity)

  each_gives : (methods : t.Entity → List t.Method) (ns : List Name) → ((n : Name) → Has ns n → Found methods n) → Gives file ns (of_each methods all ns)
  each_gives methods [] f = no_more
  each_gives methods (n ∷ ns) f =
      let r = f n (0, refl) in
      subst (λ o. Gives file (n ∷ ns) (of_entity methods o ++ of_each methods all ns)) (sym r.named) (more {n = n} {ns = ns} r.entity r.there r.name r.has (each_gives methods ns (λ m h. f m (has_on n ns m h))))

  has_methods : (k i : ℕ) (e : t.Entity) → slice_get all i ≡ Some e → rank_at above i < k → HasMethods file e (trait_methods k all e)
  has_methods zero i e h l = absurd (omega (arith, l))
  has_methods (suc k) i e h l =
      inherits (each_gives (trait_methods k all) e.provides (λ n hn.
      let q : Target file n = target file above founded closed e n (i, h) hn in
      let less = rank_less file above founded closed i q.place e q.entity h q.is_entity q.trait (named_by file above founded closed i e n q h hn) in
      record { entity = q.entity; there = (q.place, q.is_entity); name = target_name file n q; named = q.named; has = has_methods k q.place q.entity q.is_entity (omega (arith, l, less)) }))
      (firsts_are (e.methods ++ of_each (trait_methods k all) all e.provides))

  abstract_has : (i : ℕ) (e : t.Entity) → slice_get all i ≡ Some e → is_abstract e.kind ≡ true → HasMethods file e (abstract_methods all e)
  abstract_has i e h is = has_methods (length all) i e h (rank_few file above founded closed i e h is)

  each_given : (e : t.Entity) → Has all e → Gives file e.provides (of_each (abstract_methods all) all e.provides)
  each_given e he = each_gives (abstract_methods all) e.provides (λ n hn.
      let q = target file above founded closed e n he hn in
      record { entity = q.entity; there = (q.place, q.is_entity); name = target_name file n q; named = q.named; has = abstract_has q.place q.entity q.is_entity q.trait })

  -- ---- there are no others

  mutual
    methods_one : (e : t.Entity) (ms : List t.Method) → HasMethods file e ms → (i : ℕ) → slice_get all i ≡ Some e → is_abstract e.kind ≡ true → ms ≡ abstract_methods all e
    methods_one e ms (inherits {given = given} g f) i h is =
        let same : given ≡ of_each (abstract_methods all) all e.provides = gives_one e.provides given g (λ n hn. target file above founded closed e n (i, h) hn) in
        first_one AnyMethod (e.methods ++ given) ms (firsts [] (e.methods ++ given)) f (firsts_are (e.methods ++ given))
        ∙ ap (λ xs. firsts [] (e.methods ++ xs)) same
        ∙ sym (steady file above founded closed (length all) i e h (rank_few file above founded closed i e h is))

    gives_one : (ns : List Name) (xs : List t.Method) → Gives file ns xs → ((n : Name) → Has ns n → Target file n) → xs ≡ of_each (abstract_methods all) all ns
    gives_one [] xs no_more f = refl
    gives_one (n ∷ ns) xs (more {ms = ms} {rest = rest} e he same own others) f =
        let q = f n (0, refl) in
        let one : q.entity ≡ e = one_entity file q.entity e founded.names (q.place, q.is_entity) he (target_name file n q ∙ sym same) in
        let at : slice_get all q.place ≡ Some e = q.is_entity ∙ ap (λ x. Some x) one in
        let trait : is_abstract e.kind ≡ true = ap (λ (x : t.Entity). is_abstract x.kind) (sym one) ∙ q.trait in
        let named : entity_named all n.text ≡ Some e = q.named ∙ ap (λ x. Some x) one in
        let first : ms ≡ of_entity (abstract_methods all) (entity_named all n.text) = methods_one e ms own q.place at trait ∙ ap (of_entity (abstract_methods all)) (sym named) in
        ap₂ (λ a b. a ++ b) first (gives_one ns rest others (λ m h. f m (has_on n ns m h)))

  -- ---- members

  may_take : (e : t.Entity) (given : List t.Method) → AreFirstOfNames (MayTake e) given (methods_taken_over e.kind (own_texts e) given)
  may_take e given = taken_are e.kind (own_texts e) (MayTake e) (λ m. (λ (h : MayTake e m). h, λ (h : MayTake e m). h)) given

  pub members_have : (e : t.Entity) → Has all e → HasMembers file e (members all e)
  members_have e he = by (is_abstract e.kind) refl
    where
      by : (b : Bool) → is_abstract e.kind ≡ b → HasMembers file e (if b then abstract_members all e else concrete_members all e)
      by true is = bodiless is (abstract_has he.0 e he.1 is)
      by false is = with_bodies is (each_given e he) (may_take e (of_each (abstract_methods all) all e.provides))

  pub members_one : (e : t.Entity) (ms : List Member) → Has all e → HasMembers file e ms → ms ≡ members all e
  members_one e ms he (bodiless {ms = own} is h) =
      ap (map (λ (m : t.Method). written (without_body m))) (methods_one e own h he.0 he.1 is) ∙ ap (λ b. if b then abstract_members all e else concrete_members all e) (sym is)
  members_one e ms he (with_bodies {given = given} {taken = some} is g f) =
      let same : given ≡ of_each (abstract_methods all) all e.provides = gives_one e.provides given g (λ n hn. target file above founded closed e n he hn) in
      let those : some ≡ taken_over all e = first_one (MayTake e) given some (methods_taken_over e.kind (own_texts e) given) f (may_take e given) ∙ ap (methods_taken_over e.kind (own_texts e)) same in
      ap (λ xs. map written e.methods ++ (added_if (has_added e) ++ map written xs)) those ∙ ap (λ b. if b then abstract_members all e else concrete_members all e) (sym is)

pub members_computed : MembersAreComputed
members_computed file names c e ms he =
    let founded = collected_founded file names c in (
      λ (h : HasMembers file e ms). members_one file names.above founded c.above e ms he h,
      λ (same : ms ≡ members file.entities e). subst (HasMembers file e) (sym same) (members_have file names.above founded c.above e he),
    )
