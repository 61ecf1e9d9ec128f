use Rattle.std.proofs.Common.{false, refl, sym, ◌∙◌}
use Rattle.boot_stream.proofs.Streamed.{closed_begins, part_begins, seen_begins}
use Rattle.boot_stream.proofs.stream.BootStream.begins.Goals as goal

pub returns-then-not-self : goal.returns-then-not-self
returns-then-not-self c = λ image bytes s. closed_begins c.args.self.now image bytes false c.if-not-self.true refl s

pub returns-then-not-whole : goal.returns-then-not-whole
returns-then-not-whole c = λ image bytes s. part_begins c.args.self.now image bytes false c.if-not-self.false refl (λ d st. sym c.if-not-whole.true ∙ c.whole.ensures.exact d st) s

pub returns-in-Some : goal.returns-in-Some
returns-in-Some c = λ image bytes s.
    seen_begins c.args.self.now c.in-Some.compared image bytes c.begins.result c.if-not-self.false c.in-Some.is (λ d st. c.whole.ensures.parts c.if-not-whole.false d st) c.begins.ensures s
