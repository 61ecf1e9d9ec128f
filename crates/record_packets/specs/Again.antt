-- What is released again.
use Rattle.std.specs.Prelude.{◌≡◌, ℕ, List, Result, Ok, Err}
use Rattle.avm_model.specs.Packet.{PacketData, ack_bytes, data_bytes}
use Rattle.avm_outside.specs.Outlet.{Piece, all_added}
use Rattle.avm_outside.specs.Outside.{Rises}
use Rattle.jrnl_store.specs.declared.fault.Stop.{Stop}
use Rattle.jrnl_store.specs.declared.fault.Stop.TheVariants.{LeavesSpent, Full, DiskFault, OutletFault, FeedFault}
use Rattle.record_parts.specs.Ends.{CutsAmong, Faults}
use Rattle.record_packets.specs.declared.again.Kind.{Kind}
use Rattle.record_packets.specs.declared.again.Kind.TheVariants.{Data, Ack}

-- the packet of a kind
abbrev pub packet_as : Kind → PacketData → List ℕ
packet_as Data p = data_bytes p
packet_as Ack p = ack_bytes p

-- these pieces are released again: all of them; none, since the disk failed; or some, and the next perhaps cut
abbrev pub AgainAs : {H T : Type 0} → (Piece → H → H) → (Piece → H → H → Type 0) → List Piece → Faults → H → H → Result T Stop → Type 0
AgainAs adding tearing pieces f old new (Ok x) = new ≡ all_added adding pieces old
AgainAs adding tearing pieces f old new (Err LeavesSpent) = ⊥
AgainAs adding tearing pieces f old new (Err Full) = ⊥
AgainAs adding tearing pieces f old new (Err DiskFault) = (new ≡ old) × Rises f.disk_before f.disk_after
AgainAs adding tearing pieces f old new (Err OutletFault) = CutsAmong adding tearing pieces old new × Rises f.outlet_before f.outlet_after
AgainAs adding tearing pieces f old new (Err FeedFault) = ⊥
