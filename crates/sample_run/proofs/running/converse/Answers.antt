use Rattle.std.proofs.Common.{◌+◌, Ok, refl, subst}
use Rattle.sample_node.specs.Node.{sender_in}
use Rattle.sample_node.specs.declared.node.Progress.{Progress}
use Rattle.sample_talk.specs.Talking.{ExchangeEnds}
use Rattle.sample_run.proofs.Exchanging.{ended_node, ended_talk, reached_first, reached_on}
use Rattle.sample_run.proofs.running.converse.Goals as goal

pub talks-init : goal.talks-init
talks-init c m h = reached_first m c.args.talk.now h

pub exchange-requires-clause-talk : goal.exchange-requires-clause-talk
exchange-requires-clause-talk c =
    let r = c.talks.invariant c.requires.0 c.requires.1 in
    (c.talks.k, r.now, refl, r.talk)

pub talks-preserved : goal.talks-preserved
talks-preserved c m h =
    reached_on (sender_in c.args.talk.now.node) m c.talks.k (c.talks.k + 1) c.talks.talk c.exchange.new.self c.in_ok-exchange.ensures.key (c.talks.invariant m h)
    (λ a t. subst (λ (p : Progress). ExchangeEnds {E = Unit {0}} (c.talks.k + 1) (sender_in c.exchange.new.self.node) c.exchange.new.self a (Ok p)) c.in-GoesOn.is (c.in_ok-exchange.ensures.ends c.talks.k a refl t))

pub finish-requires : goal.finish-requires
finish-requires c =
    ended_node (sender_in c.args.talk.now.node) c.requires.0 c.talks.k c.talks.talk c.exchange.new.self.node (c.talks.invariant c.requires.0 c.requires.1)
    (λ a t. subst (λ (p : Progress). ExchangeEnds {E = Unit {0}} (c.talks.k + 1) (sender_in c.exchange.new.self.node) c.exchange.new.self a (Ok p)) c.in-Ended.is (c.in_ok-exchange.ensures.ends c.talks.k a refl t))

pub returns-in-Ended : goal.returns-in-Ended
returns-in-Ended c m h =
    ended_talk (sender_in c.args.talk.now.node) m c.talks.k c.talks.talk c.exchange.new.self.node _ c.finish.result c.in_ok-exchange.ensures.key (c.talks.invariant m h)
    (λ a t. subst (λ (p : Progress). ExchangeEnds {E = Unit {0}} (c.talks.k + 1) (sender_in c.exchange.new.self.node) c.exchange.new.self a (Ok p)) c.in-Ended.is (c.in_ok-exchange.ensures.ends c.talks.k a refl t))
    c.finish.ensures.ends c.finish.ensures.running
