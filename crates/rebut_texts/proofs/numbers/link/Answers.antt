use Rattle.std.proofs.Common.{refl}
use Rattle.avm_num.specs.Lists.{be, one}
use Rattle.rebut_texts.proofs.Walks.{four}
use Rattle.rebut_texts.proofs.numbers.link.Goals as goal

pub returns : goal.returns
unfolding be one
returns c = four _ c.args.before.now _ _ c.args.content.now _ _ _ _ refl c.told-before refl refl c.told-content c.put.ensures (rw c.to_be_bytes.ensures at c.put-2.ensures) c.put-3.ensures c.put-4.ensures
