use Rattle.std.proofs.Common.{refl}
use Rattle.replayer.proofs.Contents.{sent_from}
use Rattle.replayer.proofs.messages.send_content.Goals as goal

pub returns-in-Some-clause-value : goal.returns-in-Some-clause-value
returns-in-Some-clause-value c = sent_from c.args.bytes.now _ _ c.in-Some.ensures.exact c.as_message.ensures.value

pub returns-in-None-clause-value : goal.returns-in-None-clause-value
returns-in-None-clause-value c = sent_from c.args.bytes.now _ _ c.in-None.ensures.exact refl
