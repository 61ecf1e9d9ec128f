use Rattle.std.proofs.Common.{◌≡◌, ℕ, length, nat_lt, ap, sym, ◌∙◌}
use Rattle.journal_model.specs.Part.{parts_of}
use Rattle.journal_model.specs.Spelling.{parts_bytes}
use Rattle.record_batch.specs.Batch.{BatchData, batch_size}
use Rattle.record_batch.proofs.Adding.{room_size}
use Rattle.record_model.specs.Recording.{is_large}
use Rattle.record_batch.proofs.batch.Batch.is_large.Goals as goal

pub returns : goal.returns
unfolding batch_size
returns c =
    let size : length (parts_bytes (parts_of c.self.inside.room.bytes)) ≡ length c.self.inside.room.bytes = room_size c.self.inside.room _ c.self.inside.next c.are_bytes.ensures c.bytes-bytes.ensures c.self.invariant in
    ap (λ (n : ℕ). nat_lt 32768 n) (ap length c.bytes-bytes.ensures ∙ sym size) ∙ ap (λ (b : BatchData). is_large b.parts) c.self.view_is
