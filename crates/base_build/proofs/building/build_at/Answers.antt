use Rattle.std.proofs.Common.{ℕ, List, ◌≤◌, IfSome, length, refl, sym, ap, subst, ◌∙◌, Option}
use Rattle.avm_model.specs.Memory.{RamState}
use Rattle.base_records.specs.Records.{IsAll}
use Rattle.guest_dev.specs.Shown.{DevicesState}
use Rattle.jrnl_store.specs.Kept.{Kept, kept}
use Rattle.rebut_pass.proofs.OnDisk.{of_as}
use Rattle.base_build.proofs.Bases.{base_told}
use Rattle.base_build.proofs.building.build_at.Goals as goal

pub returns-in-Ok-write_base-clause-base : goal.returns-in-Ok-write_base-clause-base
returns-in-Ok-write_base-clause-base g c =
    let told = g.D.Disk.seen c.args.disk.now in
    let k = kept c.args.journal.now in
    let first = c.in-Ok-read_carried.ensures in
    let second = c.in-Ok-read_start.ensures in
    let third = c.in-Ok-read_records.ensures in
    base_told told k c.args.at c.args.head c.in-Ok-read_start.start c.peers-peers.result.now c.args.point.now c.in-Ok-read_carried.carried _ c.deref-2.result.now c.in-Ok-write_base.base
    (g.met.D.Disk.tells_bytes c.args.disk.now)
    (c.peers-peers.ensures ∙ ap (λ (d : DevicesState). d.state.peers) c.devices.ensures)
    c.in-Ok.ensures.whole
    (subst (λ (l : List ℕ). length l ≤ 11783) c.in-Ok.ensures.head c.in-Ok.ensures.short)
    (record {
      key = c.key-key.ensures ∙ ap (λ (x : Kept). x.key) (second.kept ∙ first.kept);
      first = refl;
      before = refl;
      leaves = refl;
      head = c.bytes.ensures ∙ c.in-Ok.ensures.head;
      pages = c.bytes-2.ensures.value ∙ ap (λ (r : RamState). r.bytes) c.ram.ensures;
      count = refl;
      carried = c.deref.ensures.value;
    })
    (record { header = c.in-Ok-write_base.ensures.header; bytes = c.in-Ok-write_base.ensures.bytes })
    first.carried
    (of_as told _ k _ _ first.reads.same first.kept second.start)
    (subst (λ (l : List ℕ). IfSome told (IsAll c.args.at c.in-Ok-read_start.start l)) (sym c.deref-2.ensures.value) (subst (λ (o : Option (List ℕ)). IfSome o (IsAll c.args.at c.in-Ok-read_start.start c.in-Ok-read_records.records.bytes.items)) (second.reads.same ∙ first.reads.same) third.records))
