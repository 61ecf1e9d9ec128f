use Rattle.record_open.proofs.Pages.{marked}
use Rattle.record_open.proofs.marking.mark.Goals as goal

pub returns-clause-marks : goal.returns-clause-marks
returns-clause-marks c = (marked c.args.ram.now c.set_page.new.self c.args.i c.page-2.result.now c.pages.ensures.sizes c.requires.inside c.page-2.ensures c.set_page.ensures).marks
