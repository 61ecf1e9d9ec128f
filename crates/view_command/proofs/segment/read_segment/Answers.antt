use Rattle.std.proofs.Common.{◌^◌, None}
use Rattle.avm_model.specs.Segment.{whole_segment_of}
use Rattle.command_parts.proofs.Cuts.{read_ok}
use Rattle.view_command.proofs.Long.{whole_long}
use Rattle.view_command.proofs.segment.read_segment.Goals as goal

pub returns-clause-bytes : goal.returns-clause-bytes
returns-clause-bytes g c = read_ok whole_segment_of None (2 ^ 26) whole_long _ (λ v. v.items) _ c.read_file.ensures.bytes
