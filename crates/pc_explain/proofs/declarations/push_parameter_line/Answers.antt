use Rattle.std.proofs.Common.{◌++◌, ℕ, List, ap, ◌∙◌}
use Rattle.pc_core.specs.CoreData.{CoreData}
use Rattle.pc_explain_window.specs.{Places.piece_of, Quoting.quoted}
use Rattle.pc_explain_words.specs.Forms.{place_words}
use Rattle.pc_explain_sentences.proofs.Pushed.{ok_seven}
use Rattle.pc_explain.specs.Declarations.{parameter_line}
use Rattle.pc_explain.proofs.declarations.push_parameter_line.Goals as goal

pub returns : goal.returns
unfolding parameter_line
returns c =
    let param = c.args.param in
    let piece = c.piece_of.ensures ∙ ap (λ (bytes : List ℕ). piece_of bytes param.span) c.bytes.ensures in
    ok_seven _ _ _ _ _ _ _ _ _ _ _ _ _ _ _ _
    c.in_ok-push_bytes.ensures
    (c.in_ok-push_quoted.ensures ∙ ap (λ (word : List ℕ). c.push_bytes.new.out.items ++ quoted word) piece)
    c.in_ok-push_bytes-2.ensures
    (c.in_ok-push_place_type.ensures ∙ ap (λ (core : CoreData). c.push_bytes-2.new.out.items ++ place_words core (param.entity, param.cap)) c.core.ensures)
    c.in_ok-push_bytes-3.ensures
    c.in_ok-push_method.ensures
    c.push_bytes-4.ensures
