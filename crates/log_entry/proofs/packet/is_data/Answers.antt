use Rattle.std.proofs.Common.{is_some, sym, ap, ◌∙◌}
use Rattle.log_entry.specs.Views.{body_view}
use Rattle.log_entry.proofs.Options.{is_some_map}
use Rattle.log_entry.proofs.PacketLaws.{data_decides}
use Rattle.log_entry.proofs.packet.is_data.Goals as goal

pub returns-clause-packet : goal.returns-clause-packet
returns-clause-packet c = data_decides _ _ c.are_bytes.ensures (c.is_some.ensures ∙ sym (is_some_map body_view _) ∙ ap is_some c.data_body.ensures)
