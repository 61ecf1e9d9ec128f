use Rattle.std.proofs.Common.{◌≡◌, ℕ, ◌^◌, Option, sym, ap, subst, ◌∙◌}
use Rattle.avm_model.specs.LmsTypes.{height_of}
use Rattle.honest_model.specs.Keeps.{IsOpenFault}
use Rattle.jrnl_store.specs.Kept.{Kept, kept as kept_of}
use Rattle.jrnl_store.specs.Own.{AreKept}
use Rattle.open_replay.specs.Replayed.{IsReplayed}
use Rattle.rebut_pass.proofs.OnDisk.{of_as, of_both, of_whole, reads_both}
use Rattle.record_press.specs.Press.{PressData}
use Rattle.record_open.proofs.Opened.{allowed, leaves_of, none_here, refused, some_here}
use Rattle.record_open.proofs.opening.open_desk.Goals as goal

pub returns-in-Some-clause-opens : goal.returns-in-Some-clause-opens
returns-in-Some-clause-opens g c =
    of_whole (g.D.Disk.seen c.args.disk.now) (kept_of c.args.journal) (λ j. c.in-Ok.head.bytes ≡ j.header.head) _
    (λ j fits keeps same. refused (kept_of c.header_head.new.journal) c.args.signer c.bytes.result.now c.in-Some.fault j fits (subst (λ (k : Kept). AreKept k j) (sym c.in-Ok.ensures.kept) keeps) (c.bytes.ensures ∙ same) c.in-Some.ensures)
    c.in-Ok.ensures.head

pub returns-in-Some-fault-clause-opens : goal.returns-in-Some-fault-clause-opens
returns-in-Some-fault-clause-opens g c =
    let told = g.D.Disk.seen c.args.disk.now in
    let k = kept_of c.args.journal in
    of_whole told k (λ j. (c.in-Ok.head.bytes ≡ j.header.head) × (c.in-Ok.head.bytes ≡ j.header.head → IsReplayed j c.in-Ok-replay.read)) _
    (λ j fits keeps p. (
      allowed (kept_of c.header_head.new.journal) c.args.signer c.bytes.result.now j (subst (λ (x : Kept). AreKept x j) (sym c.in-Ok.ensures.kept) keeps) (c.bytes.ensures ∙ p.0) c.in_default.ensures,
      subst (λ (o : Option ℕ). IsOpenFault j o) c.in-Some-fault.is (p.1 p.0).fault,
    ))
    (of_both told k _ _ _ (λ j a b. (a, b)) c.in-Ok.ensures.head (of_as told _ k _ _ c.in-Ok.ensures.reads.same c.in-Ok.ensures.kept c.in-Ok-replay.ensures.replayed))

pub returns-in_default-new-clause-reads : goal.returns-in_default-new-clause-reads
returns-in_default-new-clause-reads g c = reads_both g.D.Disk.seen g.D.Disk.may_leave g.D.Disk.moment g.D.Disk.left_since c.args.disk.now c.header_head.new.disk c.replay.new.disk c.in-Ok.ensures.reads c.in-Ok-replay.ensures.reads

pub desk-requires-clause-leaves : goal.desk-requires-clause-leaves
desk-requires-clause-leaves g c =
    leaves_of (kept_of c.replay.new.journal).key c.args.signer c.requires.types (ap (λ (k : Kept). k.key) c.in-Ok-replay.ensures.kept ∙ c.in_default.ensures.key)
    ∙ ap (λ (p : PressData). 2 ^ height_of p.key.lms) (sym c.in-Ok-new.ensures)

pub returns-in-Ok-Some-clause-opens : goal.returns-in-Ok-Some-clause-opens
returns-in-Ok-Some-clause-opens g c =
    let told = g.D.Disk.seen c.args.disk.now in
    let k = kept_of c.args.journal in
    of_whole told k (λ j. (c.in-Ok.head.bytes ≡ j.header.head) × (c.in-Ok.head.bytes ≡ j.header.head → IsReplayed j c.in-Ok-replay.read)) _
    (λ j fits keeps p. (
      allowed (kept_of c.header_head.new.journal) c.args.signer c.bytes.result.now j (subst (λ (x : Kept). AreKept x j) (sym c.in-Ok.ensures.kept) keeps) (c.bytes.ensures ∙ p.0) c.in_default.ensures,
      some_here _ c.in-Ok-Some.field-0 c.in-Ok-Some.desk c.in-Ok-Some.field-0-is c.in-Ok-Some.ensures.desk j fits (subst (λ (x : Kept). AreKept x j) (sym (c.in-Ok-replay.ensures.kept ∙ c.in-Ok.ensures.kept)) keeps) (p.1 p.0) c.in_default-fault.is,
    ))
    (of_both told k _ _ _ (λ j a b. (a, b)) c.in-Ok.ensures.head (of_as told _ k _ _ c.in-Ok.ensures.reads.same c.in-Ok.ensures.kept c.in-Ok-replay.ensures.replayed))

pub returns-in-Ok-Some-clause-reads : goal.returns-in-Ok-Some-clause-reads
returns-in-Ok-Some-clause-reads g c = reads_both g.D.Disk.seen g.D.Disk.may_leave g.D.Disk.moment g.D.Disk.left_since c.args.disk.now c.header_head.new.disk c.replay.new.disk c.in-Ok.ensures.reads c.in-Ok-replay.ensures.reads

pub returns-in-Ok-None-clause-opens : goal.returns-in-Ok-None-clause-opens
returns-in-Ok-None-clause-opens g c =
    let told = g.D.Disk.seen c.args.disk.now in
    let k = kept_of c.args.journal in
    of_whole told k (λ j. (c.in-Ok.head.bytes ≡ j.header.head) × (c.in-Ok.head.bytes ≡ j.header.head → IsReplayed j c.in-Ok-replay.read)) _
    (λ j fits keeps p. absurd (none_here _ c.in-Ok-None.field-0 c.in-Ok-None.field-0-is c.in-Ok-None.ensures.none j fits (subst (λ (x : Kept). AreKept x j) (sym (c.in-Ok-replay.ensures.kept ∙ c.in-Ok.ensures.kept)) keeps) (p.1 p.0) c.in_default-fault.is))
    (of_both told k _ _ _ (λ j a b. (a, b)) c.in-Ok.ensures.head (of_as told _ k _ _ c.in-Ok.ensures.reads.same c.in-Ok.ensures.kept c.in-Ok-replay.ensures.replayed))

pub returns-in-Ok-None-clause-reads : goal.returns-in-Ok-None-clause-reads
returns-in-Ok-None-clause-reads g c = reads_both g.D.Disk.seen g.D.Disk.may_leave g.D.Disk.moment g.D.Disk.left_since c.args.disk.now c.header_head.new.disk c.replay.new.disk c.in-Ok.ensures.reads c.in-Ok-replay.ensures.reads

pub returns-in-Err-desk-clause-reads : goal.returns-in-Err-desk-clause-reads
returns-in-Err-desk-clause-reads g c = reads_both g.D.Disk.seen g.D.Disk.may_leave g.D.Disk.moment g.D.Disk.left_since c.args.disk.now c.header_head.new.disk c.replay.new.disk c.in-Ok.ensures.reads c.in-Ok-replay.ensures.reads
