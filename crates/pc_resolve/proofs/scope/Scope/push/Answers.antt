use Rattle.std.proofs.Common.{◌≡◌, length, ap, ◌∙◌, if◌then◌else◌}
use Rattle.std.specs.{Prelude.nat_lt, Str.bytes_eq}
use Rattle.pc_resolve.specs.{declared.scope.Entered.Entered, Indexes.with_first, Near.near_count}
use Rattle.pc_resolve.proofs.Visibles.{kept_more}
use Rattle.pc_resolve.proofs.scope.Scope.push.Goals as goal

pub invariant_of-self-in-Ok : goal.invariant_of-self-in-Ok
invariant_of-self-in-Ok c =
    let entered : Entered = record { visible = c.new-visible.result; names_before = c.len-names_before.result } in
    let noted : c.note.new.slots ≡ (if nat_lt (length c.self.inside.row) near_count then c.self.inside.slots else with_first bytes_eq c.self.inside.slots (c.args.name, c.args.slot)) = c.in_ok-note.ensures.ok ∙ ap (λ n. if nat_lt n near_count then c.self.inside.slots else with_first bytes_eq c.self.inside.slots (c.as_slice.result.now, c.args.slot)) c.len.ensures ∙ ap (λ n. if nat_lt (length c.self.inside.row) near_count then c.self.inside.slots else with_first bytes_eq c.self.inside.slots (n, c.args.slot)) c.as_slice.ensures in
    rw c.in-Ok.ensures.ok (kept_more (λ e. e.visible) (λ e. e.names_before) near_count c.self.inside.row c.self.inside.slots c.note.new.slots entered c.self.invariant c.len-names_before.ensures (rw c.new-visible.ensures noted))
