use Rattle.honest_model.proofs.Exports.{exports, exported_front}
use Rattle.honest_model.proofs.laws.exports_replay.Goals as goal

pub returns-clause-snapshot : goal.returns-clause-snapshot
returns-clause-snapshot c from to before behind f count r first leads content = exports from to before behind f count r first leads content

pub returns-clause-fronts : goal.returns-clause-fronts
returns-clause-fronts c at to a b h = exported_front at to a b h
