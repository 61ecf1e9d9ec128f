use Rattle.std.proofs.Common.{Ok, sym, subst}
use Rattle.recorder.specs.Recorder.{desk_of}
use Rattle.recorder.specs.declared.recorder.Recorder.{Recorder}
use Rattle.sample_node.specs.Node.{TurnEnds, sender_in}
use Rattle.sample_node.specs.declared.node.Progress.{Progress}
use Rattle.sample_talk.specs.Talking.{Exchanged}
use Rattle.sample_talk.proofs.Exchanges.{exchanged, heard_low, stopped}
use Rattle.sample_talk.proofs.talk.Talk.exchange.Goals as goal

pub answer-requires-clause-heard : goal.answer-requires-clause-heard
answer-requires-clause-heard c =
    let t = c.requires.talk in
    heard_low (sender_in c.turn.new.self) t.0 c.args.self.now c.turn.new.self t.1 t.3
    (subst (λ (p : Progress). TurnEnds {E = Unit {0}} (sender_in c.turn.new.self) c.turn.new.self t.1.run (Ok p)) c.in-GoesOn.is (c.in_ok-turn.ensures.ends t.1.run t.3.node))

pub returns-in_ok-answer-in-GoesOn-clause-ends : goal.returns-in_ok-answer-in-GoesOn-clause-ends
returns-in_ok-answer-in-GoesOn-clause-ends c k m is h =
    let turned = subst (λ (p : Progress). TurnEnds {E = Unit {0}} (sender_in c.turn.new.self) c.turn.new.self m.run (Ok p)) c.in-GoesOn.is (c.in_ok-turn.ensures.ends m.run h.node) in
    subst (λ (x : Recorder). Exchanged c.args.next (record { key = (desk_of x).press.key; own = (desk_of x).machine.state.devices.own }) c.answer.new.self m) (sym c.in_ok-answer-in-GoesOn.ensures.recorder)
    (exchanged (sender_in c.turn.new.self) k c.args.next c.args.self.now c.answer.new.self c.turn.new.self m is h turned c.in_ok-answer-in-GoesOn.ensures)

pub returns-in-Stopped-clause-ends : goal.returns-in-Stopped-clause-ends
returns-in-Stopped-clause-ends c k m is h =
    stopped (sender_in c.turn.new.self) k c.args.self.now c.turn.new.self m h
    (subst (λ (p : Progress). TurnEnds {E = Unit {0}} (sender_in c.turn.new.self) c.turn.new.self m.run (Ok p)) c.in-Stopped.is (c.in_ok-turn.ensures.ends m.run h.node))
