use Rattle.pc_feed.proofs.FileParts.{text_judged, invalid_judged, read_of}
use Rattle.pc_feed.proofs.parts.judge_file.Goals as goal

pub returns-in-Err-Text-clause-judged : goal.returns-in-Err-Text-clause-judged
returns-in-Err-Text-clause-judged g c =
    let name = c.args.name.now in
    let core = c.args.core.now in
    let known = g.F.Files.bytes c.args.files.now name in
    let old = g.R.Referee.asked c.args.referee.now in
    let new = g.R.Referee.asked c.take_parts.new.referee in
    text_judged core known (g.F.Files.faults c.args.files.now name) (g.F.Files.faults c.take_parts.new.files name) (g.F.Files.taken c.take_parts.new.files) c.take_parts.new.stream old new c.in-Err-Text.fault c.in-Err-Text.field-0 c.in-Err-Text.field-0-is
    (read_of core c.start-stream.result.core known c.take_parts.new.stream old new c.start-stream.ensures.0 c.in_ok-take_parts.ensures.ends) (λ bytes fed. c.in-Err-Text.ensures.fed core bytes fed)

pub returns-in-Err-Invalid-clause-judged : goal.returns-in-Err-Invalid-clause-judged
returns-in-Err-Invalid-clause-judged g c =
    let name = c.args.name.now in
    let core = c.args.core.now in
    let known = g.F.Files.bytes c.args.files.now name in
    let old = g.R.Referee.asked c.args.referee.now in
    let new = g.R.Referee.asked c.take_parts.new.referee in
    invalid_judged core known (g.F.Files.faults c.args.files.now name) (g.F.Files.faults c.take_parts.new.files name) (g.F.Files.taken c.take_parts.new.files) c.take_parts.new.stream old new c.in-Err-Invalid.fault c.in-Err-Invalid.field-0 c.in-Err-Invalid.field-0-is
    (read_of core c.start-stream.result.core known c.take_parts.new.stream old new c.start-stream.ensures.0 c.in_ok-take_parts.ensures.ends) (λ bytes fed. c.in-Err-Invalid.ensures.fed core bytes fed)
