use Rattle.std.proofs.Common.{◌≡◌, ℕ, List, [], Option, None, refl}
use Rattle.std.specs.Prelude.{replicate}
use Rattle.avm_model.specs.Bell.{bell_of}
use Rattle.avm_model.specs.declared.Bell.{Bell}
use Rattle.avm_model.specs.Device.{DeviceState, MessageState}
use Rattle.avm_model.specs.declared.Peer.{Peer}
use Rattle.avm_plain.proofs.devices.Devices.fresh.Goals as goal

empty : (own : ℕ) (peers : List Peer) (line console : List ℕ) (messages : List MessageState) (window zeros : List ℕ) (bell ring : Option Bell) → line ≡ [] → console ≡ [] → messages ≡ [] → window ≡ zeros → bell ≡ ring → ◌≡◌ {A = DeviceState} (record { own = own; peers = peers; line = line; console = console; messages = messages; latch = 0; clock = None; tx_peer = 0; tx_len = 0; tx_result = 0; window = window; bell = bell }) (record { own = own; peers = peers; line = []; console = []; messages = []; latch = 0; clock = None; tx_peer = 0; tx_len = 0; tx_result = 0; window = zeros; bell = ring })
empty own peers line console messages window zeros bell ring a b d e f = rw (a, b, d, e, f) refl

pub returns : goal.returns
returns c =
    empty c.args.own c.args.peers.items c.new.result.items c.new-2.result.items c.new-3.result.items c.in_ok-zeros.field-0.items (replicate 1024 0)
    c.bell_of.result (bell_of c.args.version)
    c.new.ensures.items c.new-2.ensures.items c.new-3.ensures.items c.in_ok-zeros.ensures c.bell_of.ensures
