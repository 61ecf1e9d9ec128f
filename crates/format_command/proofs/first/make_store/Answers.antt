use Rattle.std.proofs.Common.{◌∙◌, ap, arith}
use Rattle.avm_model.specs.Keys.{public_of}
use Rattle.avm_model.specs.Memory.{RamState}
use Rattle.journal_model.specs.Header.{is_store_key}
use Rattle.lms_signer.specs.Views.{key_data}
use Rattle.format_command.proofs.Bootings.{head_room, store_key, first_pages}
use Rattle.format_command.proofs.first.make_store.Goals as goal

pub put_head-requires-clause-room : goal.put_head-requires-clause-room
put_head-requires-clause-room g c =
    let room = head_room c.in_ok-head.head c.in_ok-head.ensures in
    let size = c.head_len.ensures.value in
    omega (arith, room, size, c.head_len.ensures.short)

pub make_first-requires-clause-key : goal.make_first-requires-clause-key
make_first-requires-clause-key g c =
    ap is_store_key (c.public-public.ensures ∙ ap public_of c.in_ok-signer.ensures) ∙ store_key (key_data c.args.start.now.key) c.requires.start.types

pub make_first-requires-clause-pages : goal.make_first-requires-clause-pages
make_first-requires-clause-pages g c =
    first_pages c.bytes.result.now c.bytes-pages.result.now c.in_ok-head.head c.put_head.new.out c.args.start.now.boot.machine.state c.ram.result.now.bytes c.ram.result.now.dirty c.in_ok-head.ensures c.put_head.ensures.value c.bytes.ensures c.put_head.ensures.read
    c.bytes-pages.ensures.sizes (ap (λ (r : RamState). r.bytes) c.ram.ensures) c.bytes-pages.ensures.value
