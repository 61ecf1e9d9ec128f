use Rattle.std.proofs.Common.{[]}
use Rattle.journal_export.proofs.Wrote.{made_holds, ok_map}
use Rattle.journal_export.proofs.writing.begin.Goals as goal

pub returns-clause-holds : goal.returns-clause-holds
returns-clause-holds g c =
    ok_map c.put-2.result _ _ (λ adds. adds (g.F.Files.file c.args.files.now c.args.name.now) c.args.front.now (c.in_ok-put.ensures.adds (g.F.Files.file c.args.files.now c.args.name.now) [] (made_holds _ _ _ c.requires c.in_ok-create.ensures.made))) c.put-2.ensures.adds
