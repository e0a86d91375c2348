use Rattle.pc_machine.proofs.Starting.{few_none, few_first, few_third, has_out, is_start}
use Rattle.pc_machine.proofs.beginning.add_objects.Goals as goal

pub add_object-requires : goal.add_object-requires
add_object-requires c = few_none c.args.core.now c.args.main c.args.heap.now.objects c.requires

pub add_object-requires-2 : goal.add_object-requires-2
add_object-requires-2 c =
    let first = c.in_ok-stream.ensures in
    few_first c.args.core.now c.args.main c.args.heap.now.objects c.requires c.add_object.new.heap.objects c.in_ok-stream.stream first.address first.objects

pub set_out-requires : goal.set_out-requires
set_out-requires c =
    let first = c.in_ok-stream.ensures in
    let second = c.in_ok-environment.ensures in
    has_out c.args.core.now c.args.main c.args.heap.now.objects c.requires c.add_object.new.heap.objects c.in_ok-stream.stream first.address first.objects
    c.add_object-2.new.heap.objects c.in_ok-environment.environment second.address second.objects c.formed.ensures

pub add_object-requires-3 : goal.add_object-requires-3
add_object-requires-3 c =
    let first = c.in_ok-stream.ensures in
    let second = c.in_ok-environment.ensures in
    few_third c.args.core.now c.args.main c.args.heap.now.objects c.requires c.add_object.new.heap.objects c.in_ok-stream.stream first.address first.objects
    c.add_object-2.new.heap.objects c.in_ok-environment.environment second.address second.objects c.set_out.new.heap.objects c.set_out.ensures

pub returns : goal.returns
returns c =
    let first = c.in_ok-stream.ensures in
    let second = c.in_ok-environment.ensures in
    let third = c.in_ok-add_object.ensures in
    is_start c.args.core.now c.args.main c.args.heap.now.objects c.requires c.add_object.new.heap.objects c.in_ok-stream.stream first.address first.objects
    c.add_object-2.new.heap.objects c.in_ok-environment.environment second.address second.objects c.set_out.new.heap.objects c.set_out.ensures
    c.add_object-3.new.heap.objects c.in_ok-add_object.field-0 third.address third.objects
