use Rattle.std.proofs.Common.{rules, ◌≡◌, length}
use Rattle.lms_hss.proofs.Appends.{gate_within, appended_by, stands_by, moments_by}
use Rattle.lms_hss.proofs.appending.append.Goals as goal

pub write_record-requires-clause-within : goal.write_record-requires-clause-within
write_record-requires-clause-within g c = gate_within c.args.gate _ _ _ _ c.requires.roll c.in_ok-shut.ensures.shut

pub returns-clause-appended : goal.returns-clause-appended
returns-clause-appended g c =
    let long : length c.args.bottom.now ≡ 56 = search rules in
    appended_by c.args.gate _ _ _ _ _ _ c.args.bottom.now c.staged.result c.staged.ensures long c.in_ok-shut.ensures.shut c.write_record.result c.write_record.ensures.written

pub returns-clause-stands : goal.returns-clause-stands
returns-clause-stands g c =
    let long : length c.args.bottom.now ≡ 56 = search rules in
    stands_by c.args.gate _ _ (g.D.Disk.may_leave c.write_record.new.disk) _ _ _ c.args.bottom.now c.staged.result c.staged.ensures long c.in_ok-shut.ensures.shut c.write_record.ensures.stands

pub returns-clause-any_moment : goal.returns-clause-any_moment
returns-clause-any_moment g c =
    let long : length c.args.bottom.now ≡ 56 = search rules in
    moments_by g.D.Disk.seen g.D.Disk.may_leave g.D.Disk.moment g.D.Disk.left_since c.args.gate _ _ _ _ c.args.bottom.now c.staged.result _ _ _ c.staged.ensures long c.in_ok-shut.ensures.shut c.shut.ensures.any_moment c.write_record.ensures.any_moment
