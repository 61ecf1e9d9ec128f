-- What an outlet in memory shows.
use Rattle.std.specs.Prelude.{ℕ, List, map}
use Rattle.avm_outside.specs.Outlet.{Released}
use Rattle.avm_outside.specs.Pairs.{packet_pairs}
use Rattle.avm_outside.specs.declared.mem_outlet.MemOutlet.{MemOutlet}

abbrev pub outlet_released : MemOutlet → Released
outlet_released o = record { packets = packet_pairs o.packets.items; consoles = map (λ v. v.items) o.consoles.items; auths = map (λ v. v.items) o.auths.items }

-- the numbers of the calls that fail
abbrev pub outlet_fails : MemOutlet → List ℕ
outlet_fails o = o.calls.fails.items

-- how many calls there were
abbrev pub outlet_calls : MemOutlet → ℕ
outlet_calls o = o.calls.calls

abbrev pub outlet_faults : MemOutlet → ℕ
outlet_faults o = o.calls.faults
