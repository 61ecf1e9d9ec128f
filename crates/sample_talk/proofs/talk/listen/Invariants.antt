use Rattle.std.proofs.Common.{◌-◌, ◌≤◌, drop, length}
use Rattle.avm_outside.specs.MemOutlets.{outlet_released}
use Rattle.sample_model.specs.Other.{hear_all}
use Rattle.sample_other.specs.Saying.{IsWithin}
use Rattle.sample_talk.specs.Talking.{IsHearing}
use Rattle.sample_talk.proofs.talk.listen.Given as goal

abbrev pub invariant-packets : goal.invariant-packets
invariant-packets l = record {
  within : IsWithin 1 l.other;
  place : l.place ≤ length (outlet_released l.fn.outlet).packets;
  hearing : IsHearing (hear_all l.fn.other (drop l.fn.from (outlet_released l.fn.outlet).packets)) (outlet_released l.fn.outlet).packets l.place l.other l.fn.feed l.feed;
}

abbrev pub decreases-packets : goal.decreases-packets
decreases-packets l = length (outlet_released l.fn.outlet).packets - l.place
