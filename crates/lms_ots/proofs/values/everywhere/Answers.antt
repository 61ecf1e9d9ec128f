use Rattle.std.proofs.lemmas.Simd.{get_or-replicate}
use Rattle.lms_ots.proofs.values.everywhere.Goals as goal

pub returns : goal.returns
returns c i lt = get_or-replicate 265 i c.args.step 0 lt
