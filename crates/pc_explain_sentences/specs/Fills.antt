-- Sentences with gaps, and what fills them.
use Rattle.std.specs.Prelude.{ℕ, ◌+◌, Bool, true, false, ◌==◌, nat_eq, List, [], ◌∷◌, ◌++◌, Option, Some, None, slice_get, if◌then◌else◌, codes, decimal}
use Rattle.pc_base.specs.Lists.{Text}
use Rattle.pc_caps.specs.{Tables.lift, declared.capability.Cap.Cap, declared.capability.Form.Form, Words.{cap_name, form_name}}
use Rattle.pc_core.specs.{CoreData.CoreData, declared.declarations.Method.Method, declared.nodes.Node.Node, declared.nodes.NodeKind.NodeKind}
use Rattle.pc_explain_parts.specs.Parts.{child_role, role_words}
use Rattle.pc_explain_window.specs.{Places.{line_and_column, piece_of}, Quoting.piece}
use Rattle.pc_explain_words.specs.{Caps.{cap_words, fitting, form_words, takes_words, taking}, Forms.{entity_name, entity_words, name_text, type_words, with_article}, Methods.full_method_name, Scene.noted_slot_type}
use Rattle.pc_explain_sentences.specs.{Goals.{found, goal}, Stop.{StopData, child_entity, child_form, child_node, child_type, named_member, node_method, own_entity, own_field_name, own_method, own_slot}, declared.fills.Fill.Fill, declared.texts.TheConstants.{ARE, ARGUMENT, ARGUMENTS, ASSIGN, GAP, IS, USE}}
use Rattle.pc_core.specs.declared.nodes.NodeKind.TheVariants as node
use Rattle.pc_explain_sentences.specs.declared.fills.Fill.TheVariants as fill

-- ---- what is left out if there is none

abbrev pub type_or_none : CoreData → Option (ℕ × Form) → Text
type_or_none core None = []
type_or_none core (Some ty) = type_words core ty

abbrev pub place_cap_or_none : Option (ℕ × Cap) → Text
place_cap_or_none None = []
place_cap_or_none (Some ty) = cap_name ty.1

abbrev pub optional_cap_text : Option Cap → Text
optional_cap_text None = []
optional_cap_text (Some k) = cap_name k

abbrev pub method_or_none : CoreData → Option Method → Text
method_or_none core None = []
method_or_none core (Some m) = full_method_name core m

abbrev pub method_name_text : CoreData → Option Method → Text
method_name_text core None = []
method_name_text core (Some m) = name_text core m.name

abbrev pub receiver_word : Option Method → Text
receiver_word None = []
receiver_word (Some m) = cap_name m.receiver

-- The type of a method's result, after a blank.
abbrev pub result_words : CoreData → Option Method → Text
result_words core None = []
result_words core (Some m) = codes " " ++ type_words core m.result

abbrev pub source_text_of : StopData → Option Node → Text
source_text_of st None = []
source_text_of st (Some x) = piece_of st.scene.bytes x.span

-- ---- words that go by a number, or by the node

abbrev pub argument_word : ℕ → Text
argument_word n = if n == 1 then ARGUMENT.now else ARGUMENTS.now

abbrev pub is_or_are : ℕ → Text
is_or_are n = if n == 1 then IS.now else ARE.now

abbrev pub is_assign : NodeKind → Bool
is_assign (node.Assign k) = true
is_assign k = false

abbrev pub used_word : (assigned : Bool) → Text
used_word assigned = if assigned then ASSIGN.now else USE.now

-- ---- what fills a gap

unfoldable pub fill_text : StopData → Fill → Text
fill_text st (fill.Part i) = role_words (child_role st.at i)
fill_text st (fill.PartForm i) = form_name (child_form st i)
fill_text st (fill.PartFound i) = found st (child_form st i)
fill_text st (fill.PartEntity i) = piece (child_entity st i)
fill_text st (fill.APartEntity i) = with_article (child_entity st i)
fill_text st (fill.PartType i) = type_or_none st.scene.core (child_type st i)
fill_text st (fill.PartSource i) = piece (source_text_of st (child_node st i))
fill_text st (fill.PartGoal i) = goal st i
fill_text st fill.LiftedForm = form_name (lift (child_form st 0))
fill_text st (fill.OneForm f) = form_name f
fill_text st (fill.OneCap k) = cap_name k
fill_text st (fill.ACap k) = with_article (cap_name k)
fill_text st (fill.WrittenCap k) = optional_cap_text k
fill_text st (fill.Fitting k) = form_words (fitting k)
fill_text st (fill.Takes k) = takes_words k
fill_text st (fill.Taking f) = cap_words (taking f)
fill_text st (fill.Entity e) = entity_words st.scene.core e
fill_text st (fill.AnEntity e) = with_article (entity_name st.scene.core e)
fill_text st (fill.Name n) = piece (name_text st.scene.core n)
fill_text st fill.Named = piece (named_member st)
fill_text st (fill.Slot k) = piece (own_slot st k)
fill_text st (fill.SlotCap k) = place_cap_or_none (noted_slot_type st.scene st.at.method k)
fill_text st fill.OwnEntity = piece (own_entity st)
fill_text st (fill.OwnField i) = piece (own_field_name st i)
fill_text st fill.OwnMethod = piece (method_name_text st.scene.core (own_method st))
fill_text st fill.OwnReceiver = receiver_word (own_method st)
fill_text st fill.Method = method_or_none st.scene.core (node_method st)
fill_text st fill.MethodName = piece (method_name_text st.scene.core (node_method st))
fill_text st fill.Result = result_words st.scene.core (node_method st)
fill_text st (fill.Place at) = line_and_column st.scene.bytes at
fill_text st (fill.Number n) = decimal n
fill_text st (fill.ArgumentWord n) = argument_word n
fill_text st (fill.IsOrAre n) = is_or_are n
fill_text st fill.UsedWord = used_word (is_assign st.at.kind)

-- ---- a sentence

abbrev pub optional_fill_text : StopData → Option Fill → Text
optional_fill_text st None = []
optional_fill_text st (Some f) = fill_text st f

-- A sentence before which there were n gaps: each gap is filled by the fill with its number.
abbrev pub filled : StopData → List Fill → ℕ → Text → Text
filled st fills n [] = []
filled st fills n (b ∷ bs) = if nat_eq b GAP then optional_fill_text st (slice_get fills n) ++ filled st fills (n + 1) bs else b ∷ filled st fills n bs

-- A sentence with its gaps filled.
unfoldable pub said : StopData → Text → List Fill → Text
said st sentence fills = filled st fills 0 sentence
