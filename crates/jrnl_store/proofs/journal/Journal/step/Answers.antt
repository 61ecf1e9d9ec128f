use Rattle.jrnl_store.specs.Kept.{kept}
use Rattle.jrnl_store.proofs.Steps.{closed_told, lacking_found, refused_told, joined_told}
use Rattle.jrnl_store.proofs.journal.Journal.step.Goals as goal

pub returns-in-Ok-Closed-clause-answers : goal.returns-in-Ok-Closed-clause-answers
returns-in-Ok-Closed-clause-answers g c =
    closed_told _ (kept c.args.self.now) (kept c.read.new.self) c.read.new.self.buffer.items c.in-Ok-Closed.field-0 c.in-Ok-Closed.field-0-is c.in-Ok-Closed.ensures.kept c.in-Ok-Closed.ensures.found

pub returns-in-Ok-Lacking-clause-answers : goal.returns-in-Ok-Lacking-clause-answers
returns-in-Ok-Lacking-clause-answers g c =
    lacking_found _ (kept c.args.self.now) (kept c.read.new.self) c.read.new.self.buffer.items c.in-Ok-Lacking.field-0 c.in-Ok-Lacking.field-0-is c.in-Ok-Lacking.ensures.found

pub returns-in-Ok-true-clause-answers : goal.returns-in-Ok-true-clause-answers
returns-in-Ok-true-clause-answers g c =
    joined_told _ _ (kept c.args.self.now) (kept c.read.new.self) (kept c.join.new.self) c.read.new.self.buffer.items c.in-Ok-Items.field-0 c.in-Ok-Items.size c.in-Ok-true.field-0 c.in-Ok-Items.field-0-is c.in-Ok-Items.ensures.same c.in-Ok-Items.ensures.kept c.in-Ok-Items.ensures.found c.in-Ok-true.ensures.joined c.in-Ok-true.field-0-test c.in-Ok-true.ensures.gate c.in-Ok-true.ensures.front

pub returns-in-Ok-false-clause-answers : goal.returns-in-Ok-false-clause-answers
returns-in-Ok-false-clause-answers g c =
    refused_told _ _ (kept c.args.self.now) (kept c.read.new.self) (kept c.join.new.self) c.read.new.self.buffer.items c.in-Ok-Items.field-0 c.in-Ok-Items.size c.in-Ok-false.field-0 c.in-Ok-Items.field-0-is c.in-Ok-Items.ensures.same c.in-Ok-Items.ensures.kept c.in-Ok-Items.ensures.found c.in-Ok-false.ensures.joined c.in-Ok-false.field-0-test
