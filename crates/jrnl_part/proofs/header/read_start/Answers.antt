use Rattle.std.proofs.Common.{◌≡◌, ◌-◌, ap, arith, length}
use Rattle.journal_model.proofs.Locals.{header_shorter}
use Rattle.jrnl_part.specs.Views.{main_view}
use Rattle.jrnl_part.proofs.CarriedLaws.{started}
use Rattle.jrnl_part.proofs.Places.{end_before}
use Rattle.jrnl_part.proofs.header.read_start.Goals as goal

pub overflow_sub-bytes : goal.overflow_sub-bytes
overflow_sub-bytes c =
    let h = header_shorter _ _ c.in-Some.ensures.value.1 in
    let a : length c.new-view.result ≡ length c.args.bytes.now = ap length c.new-view.ensures in
    let b = ap length c.rest.ensures.value in
    omega (arith, h, a, b)

pub returns-clause-value : goal.returns-clause-value
returns-clause-value c =
    let h = header_shorter _ _ c.in-Some.ensures.value.1 in
    let a : length c.new-view.result ≡ length c.args.bytes.now = ap length c.new-view.ensures in
    let b = ap length c.rest.ensures.value in
    started c.start_of.result c.args.bytes.now c.new-view.result _ _ (length c.args.bytes.now - length c.rest.result.now) c.in-Some.main c.new-view.ensures c.in-Some.ensures.value c.rest.ensures.value (omega (arith, h, a, b)) c.start_of.ensures

pub start_of-requires-clause-place : goal.start_of-requires-clause-place
start_of-requires-clause-place c =
    let v = c.in-Some.ensures.value in
    let h = header_shorter _ _ v.1 in
    let a : length c.new-view.result ≡ length c.args.bytes.now = ap length c.new-view.ensures in
    let b = ap length c.rest.ensures.value in
    end_before (record (main_view c.in-Some.main) { carried = v.0 }) c.new-view.result _ (length c.args.bytes.now - length c.rest.result.now) v.1 (omega (arith, h, a, b))
