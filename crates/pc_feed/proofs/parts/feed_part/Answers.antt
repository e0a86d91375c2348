use Rattle.pc_feed.proofs.FileParts.{asks_on, text_fed}
use Rattle.pc_feed.proofs.parts.feed_part.Goals as goal

pub returns-in-Ok : goal.returns-in-Ok
returns-in-Ok g c = λ core bytes h.
    let f = c.in-Ok.ensures.fed core bytes h in
    (f.0, asks_on c.one_list_is_asked.ensures core bytes c.args.part.now (g.R.Referee.asked c.args.referee.now) (g.R.Referee.asked c.feed.new.referee) f.2)

pub returns-in-Err-Text : goal.returns-in-Err-Text
returns-in-Err-Text g c = λ core bytes h.
    text_fed c.one_list_is_asked.ensures core bytes c.args.part.now c.feed.new.self (g.R.Referee.asked c.args.referee.now) (g.R.Referee.asked c.feed.new.referee) c.in-Err-Text.field-0 c.in-Err-Text.field-0-0 c.in-Err-Text.field-0-is
    (c.in-Err-Text.ensures.fed core bytes h)
