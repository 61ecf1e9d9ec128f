use Rattle.std.proofs.Common.{ℕ, ap, ◌∙◌}
use Rattle.avm_num.specs.Room.{Buffer, with_bytes}
use Rattle.avm_model.specs.Content.{content_bytes}
use Rattle.log_entry.specs.Views.{content_view}
use Rattle.record_batch.specs.Spelled.{entry_front}
use Rattle.record_batch.proofs.Spells.{entry_spells}
use Rattle.record_batch.proofs.writing.put_entry.Goals as goal

pub returns : goal.returns
returns c =
    let b : Buffer = c.args.room.now in
    let front = c.put_front.ensures.value ∙ ap (λ (k : ℕ). with_bytes b (entry_front c.args.seq k c.content_len-size.result)) c.kind_number.ensures in
    c.put_content.ensures ∙ ap (λ (r : Buffer). with_bytes r (content_bytes (content_view c.args.content))) front ∙ entry_spells b c.args.seq (content_view c.args.content) c.content_len-size.result c.content_len-size.ensures
