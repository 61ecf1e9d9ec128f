use Rattle.std.proofs.Common.{refl, sym, ap, ◌∙◌}
use Rattle.avm_model.specs.HeadReading.{head_of}
use Rattle.jrnl_store.specs.Kept.{kept}
use Rattle.stretch_replay.proofs.Sought.{sought_first}
use Rattle.stretch_replay.proofs.searching.start.Goals as goal

pub returns-clause-sought : goal.returns-clause-sought
returns-clause-sought c = λ j k eh ep.
    sought_first (kept c.args.journal.now) j c.args.number c.args.head.bytes c.args.ram.bytes _ (record {
      own = ap head_of (sym c.bytes.ensures) ∙ c.in_ok-own.ensures.data;
      first = c.first.ensures;
      last = refl;
      ram = c.in_ok-now.ensures.bytes;
      told = refl;
      keeps = refl;
      head = refl;
      base = c.in_ok-pages.ensures.bytes;
      none = refl;
    }) k eh ep
