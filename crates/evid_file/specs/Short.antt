-- Lengths that a length field of four bytes holds.
use Rattle.std.specs.Prelude.{◌^◌, ◌<◌, length}
use Rattle.avm_model.specs.Evidence.{EvidData, double, fork, replay}

abbrev pub IsShort : EvidData → Type 0
IsShort (double key a b) = (length a.sig < 2 ^ 32) × (length b.sig < 2 ^ 32)
IsShort (fork key start before frames top other) = (length frames < 2 ^ 32) × (length top.sig < 2 ^ 32) × (length other.sig < 2 ^ 32)
IsShort (replay key segment top) = (length segment < 2 ^ 32) × (length top.sig < 2 ^ 32)
