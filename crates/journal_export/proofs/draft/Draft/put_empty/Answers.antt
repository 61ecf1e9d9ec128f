use Rattle.std.proofs.Common.{refl}
use Rattle.journal_export.proofs.Wrote.{put_through}
use Rattle.journal_export.proofs.draft.Draft.put_empty.Goals as goal

pub returns-in-Ok-clause-adds : goal.returns-in-Ok-clause-adds
returns-in-Ok-clause-adds g c = put_through c.args.bytes.now _ _ _ _ c.requires refl c.in-Ok.ensures.added
