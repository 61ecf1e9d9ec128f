-- What the fields of a board keep.
use Rattle.std.specs.Prelude.{◌≡◌, None, false, IfSome}
use Rattle.avm_model.specs.Machine.{is_complete}
use Rattle.guest_dev.specs.Shown.{IsSent}
use Rattle.inst_cache.specs.Kept.{AreKept}
use Rattle.guest_machine.specs.declared.board.Board.TheInside.{Inside}

-- an untouched board has nothing to tell, what is sent is a message, and the kept instructions are those of the RAM
pub record IsBoard (b : Inside) : Type 0 where
  pub sent : b.touched ≡ false → b.sent ≡ None
  pub waits : b.touched ≡ false → b.waits ≡ false
  pub returns : b.touched ≡ false → b.devices.returns ≡ false
  pub line : b.touched ≡ false → is_complete b.devices.state.line ≡ false
  pub fits : IfSome b.sent IsSent
  pub kept : AreKept b.ram.bytes b.slots
