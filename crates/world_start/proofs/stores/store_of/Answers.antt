use Rattle.std.proofs.Common.{◌∙◌, Ok, List, ap, arith, subst, ℕ}
use Rattle.avm_outside.specs.DiskLog.{IsImage}
use Rattle.avm_outside.specs.MemDisks.{disk_bytes, state_now}
use Rattle.avm_model.specs.Keys.{KeyData}
use Rattle.format_command.specs.First.{StandsFor, first_journal}
use Rattle.format_command.specs.declared.ends.End.{End}
use Rattle.world_schedule.specs.Read.{node_in}
use Rattle.lms_signer.specs.Views.{key_data}
use Rattle.world_start.proofs.Starts.{header_is, store_made}
use Rattle.world_start.specs.Start.{config_at, key_at}
use Rattle.world_start.proofs.stores.store_of.Goals as goal

pub returns-in-Ok-StoreMade : goal.returns-in-Ok-StoreMade
returns-in-Ok-StoreMade c =
    let s = c.in_ok-boot.boot.machine.state in
    let key = key_data c.key_of.result in
    let images : List ℕ → Type 0 = λ x. IsImage (state_now c.make_store.new.disk) x in
    let made = store_made (first_journal key s) images (disk_bytes c.in_ok-disk.disk) (disk_bytes c.make_store.new.disk) c.make_store.result (c.in-Ok-StoreMade.is ∙ ap (λ (x : End). Ok x) c.in-Ok-StoreMade.field-0-is) c.make_store.ensures.makes in
    record {
      state = s;
      boots = c.in_ok-boot.ensures.boots;
      writes = c.in_ok-has_head.ensures.head;
      header = header_is (key_at c.args.own (node_in c.args.node.now)) (config_at c.args.own c.args.keys.now) (node_in c.args.node.now).image s c.in_ok-boot.boot.machine.dirty c.in_ok-boot.ensures.boots (omega arith) c.in_ok-has_head.ensures.head c.in_ok-has_head.ensures.ram;
      stands = subst (λ (k : KeyData). StandsFor (first_journal k s) images (disk_bytes c.make_store.new.disk)) c.key_of.ensures.value made;
    }
