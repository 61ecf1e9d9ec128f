use Rattle.avm_outside.specs.MemDisks.{disk_bytes}
use Rattle.lms_signer.proofs.Files.{key_again}
use Rattle.lms_signer.specs.Views.{key_data}
use Rattle.sample_run.specs.Stores.{inputs}
use Rattle.sample_run.proofs.Storing.{store_is}
use Rattle.sample_run.proofs.store.new_store.Goals as goal

pub returns-in-0 : goal.returns-in-0
returns-in-0 c =
    store_is (inputs (key_data c.args.key.now) c.args.peer.now c.args.image.now) (key_data c.args.key.now) c.in_ok-files.files (disk_bytes c.in_ok-disk.disk) c.format.new.disk c.in_ok-files.ensures
    (key_again (key_data c.args.key.now) c.is_key.ensures) (c.format.ensures.means.made c.in-0.is)
