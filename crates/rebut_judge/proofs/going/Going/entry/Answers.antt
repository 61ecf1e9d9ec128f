use Rattle.std.proofs.Common.{sym, ◌∙◌}
use Rattle.log_entry.specs.Views.{frame_view}
use Rattle.rebut_judge.proofs.Gone.{gone_past, gone_on, both_of}
use Rattle.rebut_judge.proofs.going.Going.entry.Goals as goal

pub returns-then-is_past : goal.returns-then-is_past
returns-then-is_past c =
    let both = both_of _ _ (sym c.is_past.ensures ∙ c.if-is_past.true) in
    gone_past c.args.self.now (frame_view c.args.frame.now) c.if-self.false both.0 both.1

pub returns : goal.returns
returns c = gone_on c.args.self.now c.entry.new.self (frame_view c.args.frame.now) c.if-self.false (sym c.is_past.ensures ∙ c.if-is_past.false) c.entry.ensures
