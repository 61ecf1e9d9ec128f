use Rattle.std.proofs.Common.{ℕ, Some, None, IfSome, length, ap, rules, arith, length-append}
use Rattle.std.proofs.lemmas.List.{length-take}
use Rattle.avm_outside.specs.Files.{Reads}
use Rattle.command_parts.proofs.Fronts.{front_step, read_none, read_end, read_enough, read_gone}
use Rattle.command_parts.proofs.reading.read_file.Goals as goal

pub loop-buf-preserved : goal.loop-buf-preserved
loop-buf-preserved g c =
    let told : IfSome (g.F.Files.file c.loop-buf.files c.args.name.now) (λ was. Reads was (length c.loop-buf.bytes.items) c.loop-buf.buf c.read_at.new.buf (Some c.in-Ok-Some.n)) = search rules in
    record {
      same = search rules;
      counts = search rules;
      front = rw c.in_ok-extend_from_slice-in-Ok-Some.ensures.items (front_step _ _ _ _ _ _ c.min.result (c.loop-buf.invariant.same c.args.name.now) c.loop-buf.invariant.front told (search rules));
      within = omega (arith, ap length c.in_ok-extend_from_slice-in-Ok-Some.ensures.items, length-append {A = ℕ}, length-take {A = ℕ});
    }

pub returns-then-is_empty-clause-bytes : goal.returns-then-is_empty-clause-bytes
returns-then-is_empty-clause-bytes g c =
    let told : IfSome (g.F.Files.file c.loop-buf.files c.args.name.now) (λ was. Reads was (length c.loop-buf.bytes.items) c.loop-buf.buf c.read_at.new.buf None) = search rules in
    read_none _ _ _ _ _ _ (c.loop-buf.invariant.same c.args.name.now) told

pub returns-in-Ok-None-clause-bytes : goal.returns-in-Ok-None-clause-bytes
returns-in-Ok-None-clause-bytes g c =
    let told : IfSome (g.F.Files.file c.loop-buf.files c.args.name.now) (λ was. Reads was (length c.loop-buf.bytes.items) c.loop-buf.buf c.read_at.new.buf None) = search rules in
    read_gone _ _ _ _ _ _ (omega arith) (search rules) (c.loop-buf.invariant.same c.args.name.now) c.loop-buf.invariant.front told

pub returns-in-Ok-Some-eq0-clause-bytes : goal.returns-in-Ok-Some-eq0-clause-bytes
returns-in-Ok-Some-eq0-clause-bytes g c =
    let told : IfSome (g.F.Files.file c.loop-buf.files c.args.name.now) (λ was. Reads was (length c.loop-buf.bytes.items) c.loop-buf.buf c.read_at.new.buf (Some 0)) = search rules in
    read_end _ _ _ _ _ _ (omega arith) (search rules) (c.loop-buf.invariant.same c.args.name.now) c.loop-buf.invariant.front told

pub returns-clause-bytes : goal.returns-clause-bytes
returns-clause-bytes g c = read_enough _ _ _ (omega arith) c.loop-buf.invariant.front
