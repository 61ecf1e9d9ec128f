use Rattle.std.proofs.Common.{ap, sym, ◌∙◌}
use Rattle.avm_num.specs.Room.{with_bytes}
use Rattle.avm_model.specs.Content.{content_bytes}
use Rattle.log_entry.specs.declared.kinds.Content.{Content}
use Rattle.log_entry.specs.Views.{content_view}
use Rattle.record_batch.proofs.Spells.{recv_whole}
use Rattle.record_batch.proofs.writing.put_content.Goals as goal

pub returns-in-Recv : goal.returns-in-Recv
returns-in-Recv c =
    c.put_counted-in-Recv.ensures ∙ recv_whole c.args.room.now c.in-Recv.count c.in-Recv.packet.now ∙ ap (λ (x : Content). with_bytes c.args.room.now (content_bytes (content_view x))) (sym c.in-Recv.is)
