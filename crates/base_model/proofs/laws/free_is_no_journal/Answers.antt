use Rattle.std.proofs.Common.{drop}
use Rattle.base_model.specs.Base.{base_bytes}
use Rattle.base_model.proofs.Frees.{free_never}
use Rattle.base_model.proofs.Spelled.{base_first}
use Rattle.base_model.proofs.laws.free_is_no_journal.Goals as goal

pub returns-clause-free : goal.returns-clause-free
returns-clause-free c bytes free is = free_never bytes free is

pub returns-clause-base : goal.returns-clause-base
returns-clause-base c j n s = (drop 1 (base_bytes j n s), base_first j n s)
