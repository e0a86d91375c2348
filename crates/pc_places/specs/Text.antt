-- The text of the places of a core.
use Rattle.std.specs.Prelude.{◌≡◌, ℕ, suc, List, [], ◌∷◌, ◌++◌, length, map, Option, Some, None, nat_eq, if◌then◌else◌, codes, decimal, slice_get}
use Rattle.pc_base.specs.{declared.span.Span.Span, Lists.{Text, line_end}}
use Rattle.pc_core.specs.{CoreData.CoreData, declared.declarations.EntityDef.EntityDef, declared.declarations.FieldInfo.FieldInfo, declared.declarations.Method.Method, declared.nodes.Node.Node, declared.nodes.Slot.Slot}
use Rattle.pc_caps.specs.Words.{cap_name}
use Rattle.pc_lex.specs.Pieces.{TokenList}
use Rattle.pc_places.specs.{Kinds.{kind_text, name_or_dash}, Names.{slot_place, source_text_at, writer_of}, Words.{entity_kind_word, field_word, method_kind_word, slot_word}}
use Rattle.pc_token.specs.declared.kinds.Token.{Token}

abbrev pub space : Text
space = codes " "

-- A place, with a blank at its end.
abbrev pub place_text : Span → Text
place_text place = decimal place.start ++ (space ++ (decimal place.end ++ space))

-- ---- the lines

-- `e KIND CAP START END NAME`
abbrev pub entity_line : EntityDef → Text
entity_line x = codes "e " ++ (entity_kind_word x.kind ++ (space ++ (cap_name x.cap ++ (space ++ (place_text x.span ++ (x.name ++ line_end))))))

-- `f ENTITY WORD E K `
abbrev pub field_line_words : ℕ × FieldInfo → Text
field_line_words (e, x) = codes "f " ++ (decimal e ++ (space ++ (field_word x.fixed ++ (space ++ (decimal x.entity ++ (space ++ (cap_name x.cap ++ space)))))))

-- `f ENTITY WORD E K NAME`
abbrev pub field_line : CoreData → ℕ × FieldInfo → Text
field_line core x = field_line_words x ++ (name_or_dash (slice_get core.names x.1.name) ++ line_end)

-- The entity from which a method is taken over, if it is not written in its own.
abbrev pub taken_text : (writer entity : ℕ) → Text
taken_text writer entity = if nat_eq writer entity then codes "-" else decimal writer

-- `m ENTITY KIND `
abbrev pub method_kind : Method → Text
method_kind x = codes "m " ++ (decimal x.entity ++ (space ++ (method_kind_word x.kind ++ space)))

-- `SLOT NODE `
abbrev pub firsts_text : Method → Text
firsts_text x = decimal x.first_slot ++ (space ++ (decimal x.first_node ++ space))

-- A name at the end of its line.
abbrev pub last_name : CoreData → ℕ → Text
last_name core name = space ++ (name_or_dash (slice_get core.names name) ++ line_end)

-- `m ENTITY KIND START END SLOT NODE TAKEN NAME`
abbrev pub method_line : CoreData → Method → Text
method_line core x = method_kind x ++ (place_text x.span ++ (firsts_text x ++ (taken_text (writer_of core x) x.entity ++ last_name core x.name)))

-- A span in the source and the text there, or no span and no name.
abbrev pub named_place : Text → Option Span → Text
named_place source None = codes "0 0 -"
named_place source (Some place) = place_text place ++ source_text_at source place

-- `s DEPTH KIND START END NAME`
abbrev pub places_slot_line : CoreData → List Token → Text → ℕ → Slot → Text
places_slot_line core tokens source k y = codes "s " ++ (decimal y.depth ++ (space ++ (slot_word y.kind ++ (space ++ (named_place source (slot_place core tokens k y) ++ line_end)))))

-- Numbers, each after a blank.
abbrev pub numbers_text : List ℕ → Text
numbers_text [] = []
numbers_text (n ∷ ns) = space ++ (decimal n ++ numbers_text ns)

-- ` METHOD DEPTH START END`
abbrev pub node_words : Node → Text
node_words x = space ++ (decimal x.method ++ (space ++ (decimal x.depth ++ (space ++ (decimal x.span.start ++ (space ++ decimal x.span.end))))))

-- `n KIND METHOD DEPTH START END CHILD ..`
abbrev pub places_node_line : CoreData → Node → Text
places_node_line core x = codes "n " ++ (kind_text core x.kind ++ (node_words x ++ (numbers_text x.children ++ line_end)))

-- ---- all lines of each kind

abbrev pub entities_text : List EntityDef → Text
entities_text [] = []
entities_text (x ∷ xs) = entity_line x ++ entities_text xs

-- The fields of the entities from number e on, each with the number of its entity.
abbrev pub fields_from : ℕ → List EntityDef → List (ℕ × FieldInfo)
fields_from e [] = []
fields_from e (x ∷ xs) = map (λ f. (e, f)) x.fields ++ fields_from (suc e) xs

abbrev pub fields_text : CoreData → List (ℕ × FieldInfo) → Text
fields_text core [] = []
fields_text core (x ∷ xs) = field_line core x ++ fields_text core xs

abbrev pub methods_text : CoreData → List Method → Text
methods_text core [] = []
methods_text core (x ∷ xs) = method_line core x ++ methods_text core xs

-- The slots from number k on.
abbrev pub slots_text : CoreData → List Token → Text → ℕ → List Slot → Text
slots_text core tokens source k [] = []
slots_text core tokens source k (y ∷ ys) = places_slot_line core tokens source k y ++ slots_text core tokens source (suc k) ys

abbrev pub nodes_text : CoreData → List Node → Text
nodes_text core [] = []
nodes_text core (x ∷ xs) = places_node_line core x ++ nodes_text core xs

-- ---- the whole text

-- `rcap-places 1 E F M S N`
abbrev pub places_head_line : (entities fields methods slots nodes : ℕ) → Text
places_head_line entities fields methods slots nodes =
    codes "rcap-places 1 " ++ (decimal entities ++ (space ++ (decimal fields ++ (space ++ (decimal methods ++ (space ++ (decimal slots ++ (space ++ (decimal nodes ++ line_end)))))))))

-- The first line for a core with this many fields.
abbrev pub head_of : CoreData → ℕ → Text
head_of core fields = places_head_line (length core.entities) fields (length core.methods) (length core.slots) (length core.nodes)

-- The counts, and then a line for each entity, field, method, slot and node, in the order of the core. The core is that
-- of the source with these tokens.
abbrev pub places_text : Text → List Token → CoreData → Text
places_text source tokens core =
    head_of core (length (fields_from 0 core.entities))
    ++ (entities_text core.entities ++ (fields_text core (fields_from 0 core.entities) ++ (methods_text core core.methods
    ++ (slots_text core tokens source 0 core.slots ++ nodes_text core core.nodes))))

-- The source has tokens.
abbrev pub HasTokens : Text → Type 0
HasTokens source = (tokens : List Token) × TokenList source tokens

-- This is the text of the places of a core, which is that of this source.
abbrev pub IsPlacesText : Text → CoreData → Text → Type 0
IsPlacesText source core text = (tokens : List Token) × TokenList source tokens × (text ≡ places_text source tokens core)
