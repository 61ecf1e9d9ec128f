use Rattle.std.proofs.Common.{arith}
use Rattle.format_command.proofs.Bootings.{head_room}
use Rattle.world_start.proofs.stores.has_head.Goals as goal

pub put_head-requires-clause-room : goal.put_head-requires-clause-room
put_head-requires-clause-room c =
    let room = head_room c.in_ok-head.head c.in_ok-head.ensures in
    let size = c.head_len.ensures.value in
    omega (arith, room, size, c.head_len.ensures.short)
