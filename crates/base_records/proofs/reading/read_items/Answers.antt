use Rattle.std.proofs.Common.{◌≡◌, subst, ℕ, Option, take, drop, IfSome}
use Rattle.base_records.specs.Records.{size_in}
use Rattle.base_records.proofs.Steps.{none_given, some_given, some_end}
use Rattle.base_records.proofs.reading.read_items.Goals as goal

pub returns-in-Ok-None-clause-stands : goal.returns-in-Ok-None-clause-stands
returns-in-Ok-None-clause-stands g c =
    none_given (g.D.Disk.seen c.args.disk.now) c.args.at c.args.room.now (subst (λ (o : Option ℕ). IfSome (g.D.Disk.seen c.args.disk.now) (λ was. o ≡ size_in (take 6 (drop c.args.at was)))) c.in-Ok-None.field-0-is c.in-Ok-None.ensures.size)

pub returns-in-Ok-clause-stands : goal.returns-in-Ok-clause-stands
returns-in-Ok-clause-stands g c =
    some_given (g.D.Disk.seen c.args.disk.now) (g.D.Disk.seen c.read_gate.new.disk) c.args.at c.in-Ok-Some.size c.fill.new.room c.in-Ok-Some.ensures.reads.same
    (subst (λ (o : Option ℕ). IfSome (g.D.Disk.seen c.args.disk.now) (λ was. o ≡ size_in (take 6 (drop c.args.at was)))) c.in-Ok-Some.field-0-is c.in-Ok-Some.ensures.size) c.in-Ok.ensures.bytes

pub returns-in-Ok-clause-end : goal.returns-in-Ok-clause-end
returns-in-Ok-clause-end g c =
    some_end (g.D.Disk.seen c.args.disk.now) c.args.at c.in-Ok-Some.size (subst (λ (o : Option ℕ). IfSome (g.D.Disk.seen c.args.disk.now) (λ was. o ≡ size_in (take 6 (drop c.args.at was)))) c.in-Ok-Some.field-0-is c.in-Ok-Some.ensures.size)
