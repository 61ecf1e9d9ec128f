use Rattle.std.proofs.Common.{◌≡◌, ap, ◌∙◌}
use Rattle.std.specs.Int.{w32, w64}
use Rattle.avm_num.specs.Lists.{be}
use Rattle.avm_num.specs.Room.{Buffer, with_bytes}
use Rattle.record_batch.proofs.Spells.{send_spells}
use Rattle.record_batch.proofs.writing.put_send.Goals as goal

pub returns : goal.returns
returns c =
    let b : Buffer = c.args.room.now in
    let one : c.put_u32.new.self ≡ with_bytes (with_bytes b (be w64 c.args.count)) (be w32 c.args.peer) = c.put_u32.ensures.value ∙ ap (λ (r : Buffer). with_bytes r (be w32 c.args.peer)) c.put_u64.ensures.value in
    let two : c.put_u64-2.new.self ≡ with_bytes (with_bytes (with_bytes b (be w64 c.args.count)) (be w32 c.args.peer)) (be w64 c.args.number) = c.put_u64-2.ensures.value ∙ ap (λ (r : Buffer). with_bytes r (be w64 c.args.number)) one in
    c.put.ensures.value ∙ ap (λ (r : Buffer). with_bytes r c.args.payload.now) two ∙ send_spells b c.args.count c.args.peer c.args.number c.args.payload.now
