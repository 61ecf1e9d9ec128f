-- What a step of the machine sends.
use Rattle.std.proofs.Common.{◌≡◌, ℕ, ◌+◌, ◌%◌, Bool, true, false, ◌&&◌, List, [], ◌∷◌, ◌++◌, length, map, Option, Some, None, refl, sym, ap, subst, ◌∙◌}
use Rattle.std.specs.Prelude.{if◌then◌else◌, ◌==◌, not, nat_le, nat_lt, slice_get, take}
use Rattle.std.specs.Option.{option_map}
use Rattle.std.proofs.lemmas.Bool.{eqb-true}
use Rattle.avm_model.specs.Hart.{HartState}
use Rattle.avm_model.specs.Memory.{ram_load, place_of, with_number}
use Rattle.avm_model.specs.Values.{bytes_of}
use Rattle.avm_model.specs.Device.{DeviceState, load_console, load_clock, load_saved, load_vector, store_return, store_vector, device_load, device_store, try_send, send_result, next_number, sends, row_of}
use Rattle.avm_model.specs.Exec.{Loaded, Gave, NotMapped, NoClock, Outcome, Goes, Waits, Stops, bus_after, state_after, stored_state}
use Rattle.avm_model.specs.Machine.{State, Board, board, flat, exec_flat, board_of, stepped, Step, load_from, with_devices, with_stored, store_to, Output, Out, Send, Halt, Snap, out_line, out_send, out_snap, is_complete}
use Rattle.avm_model.specs.Reference.{Made, made_of, step_of}
use Rattle.avm_model.proofs.ReferenceLaws.{step_is}
use Rattle.avm_model.specs.declared.Bell.{Bell}
use Rattle.avm_model.specs.declared.Peer.{Peer}
use Rattle.avm_model.specs.declared.Sent.{Sent}
use Rattle.avm_model.specs.declared.Width.{Width}
use Rattle.avm_model.specs.declared.Width.TheVariants.{Byte, Half, Word}
use Rattle.guest_machine.proofs.Kept.{run_kept}
use Rattle.world_model.specs.World.{Mail, SentTo}
use Rattle.world_laws.specs.Counting.{sent_in, IsNext, Sends, SendsNone, SendsOne}

-- ---- devices

either_load : (d : DeviceState) (b : Bool) (x y : Loaded DeviceState) → (state_after d x).peers ≡ d.peers → (state_after d y).peers ≡ d.peers → (state_after d (if b then x else y)).peers ≡ d.peers
either_load d true x y p q = p
either_load d false x y p q = q

console_rows : (d : DeviceState) (o : Option ℕ) → (state_after d (load_console d o)).peers ≡ d.peers
console_rows d None = refl
console_rows d (Some byte) = refl

clock_rows : (d : DeviceState) (o : Option ℕ) → (state_after d (load_clock d o)).peers ≡ d.peers
clock_rows d None = refl
clock_rows d (Some value) = refl

vector_rows : (d : DeviceState) (o : Option Bell) → (state_after d (load_vector d o)).peers ≡ d.peers
vector_rows d None = refl
vector_rows d (Some b) = refl

saved_rows : (d : DeviceState) (o : Option Bell) → (state_after d (load_saved d o)).peers ≡ d.peers
saved_rows d None = refl
saved_rows d (Some b) = refl

load_rows : (d : DeviceState) (a : ℕ) → (state_after d (device_load d a)).peers ≡ d.peers
load_rows d a =
    either_load d (a == 0x10000004) _ _ (console_rows d (slice_get d.console 0)) (
    either_load d (a == 0x10000008) _ _ (clock_rows d d.clock) (
    either_load d (a == 0x1000000c) _ _ refl (
    either_load d (a == 0x10000014) _ _ refl (
    either_load d (a == 0x10000018) _ _ refl (
    either_load d (a == 0x10000020) _ _ refl (
    either_load d (a == 0x10000024) _ _ refl (
    either_load d (a == 0x1000002c) _ _ refl (
    either_load d (a == 0x10000030) _ _ (vector_rows d d.bell) (
    either_load d (a == 0x10000034) _ _ (saved_rows d d.bell) (
    either_load d (a % 4 == 0 && nat_le 0x10001000 a && nat_lt a 0x10001400) _ _ refl (
    either_load d (a % 4 == 0 && nat_le 0x10002000 a && nat_lt a 0x10002400) _ _ refl refl)))))))))))

either_store : (d : DeviceState) (b : Bool) (x y : Option DeviceState) → (b ≡ true → (stored_state d x).peers ≡ d.peers) → (stored_state d y).peers ≡ d.peers → (stored_state d (if b then x else y)).peers ≡ d.peers
either_store d true x y p q = p refl
either_store d false x y p q = q

stored_vector : (d : DeviceState) (value : ℕ) (o : Option Bell) → (stored_state d (store_vector d value o)).peers ≡ d.peers
stored_vector d value None = refl
stored_vector d value (Some b) = refl

stored_return : (d : DeviceState) (o : Option Bell) → (stored_state d (store_return d o)).peers ≡ d.peers
stored_return d None = refl
stored_return d (Some b) = refl

-- but for the store that sends
store_rows : (d : DeviceState) (a value : ℕ) → (a == 0x10000028) ≡ false → (stored_state d (device_store d a value)).peers ≡ d.peers
store_rows d a value other =
    either_store d (a == 0x10000000) _ _ (λ e. refl) (
    either_store d (a == 0x10000010) _ _ (λ e. refl) (
    either_store d (a == 0x1000001c) _ _ (λ e. refl) (
    either_store d (a == 0x10000020) _ _ (λ e. refl) (
    either_store d (a == 0x10000024) _ _ (λ e. refl) (
    either_store d (a == 0x10000028) _ _ (λ e. absurd cc) (
    either_store d (a == 0x10000030) _ _ (λ e. stored_vector d value d.bell) (
    either_store d (a == 0x10000038) _ _ (λ e. stored_return d d.bell) (
    either_store d (a % 4 == 0 && nat_le 0x10002000 a && nat_lt a 0x10002400) _ _ (λ e. refl) refl))))))))

-- ---- boards

-- the rows stay and nothing more is sent, or the next message is
data BoardSends (b c : Board) : Type 0 where
  Still : c.send ≡ b.send → c.devices.peers ≡ b.devices.peers → BoardSends b c
  Silent : c.send ≡ None → c.devices.peers ≡ b.devices.peers → BoardSends b c
  One : (m : Sent) → c.send ≡ Some m → IsNext b.devices.peers c.devices.peers m.peer m.number → BoardSends b c

board_still : (b : Board) → BoardSends b b
board_still b = Still refl refl

devices_loaded : (b : Board) (l : Loaded DeviceState) → (state_after b.devices l).peers ≡ b.devices.peers → BoardSends b (state_after b (with_devices b l))
devices_loaded b (Gave value d) m = Still refl m
devices_loaded b NotMapped m = board_still b
devices_loaded b NoClock m = board_still b

load_sends : (b : Board) (a : ℕ) (w : Width) (o : Option ℕ) → BoardSends b (state_after b (load_from b a w o))
load_sends b a w (Some value) = board_still b
load_sends b a Byte None = board_still b
load_sends b a Half None = board_still b
load_sends b a Word None = devices_loaded b (device_load b.devices a) (load_rows b.devices a)

-- a store to the address that sends
abbrev sending : Board → DeviceState → Option Sent → Bool → Board
sending b d send waits = record b { devices = d; send = send; waits = waits; returns = false }

no_row : (len : ℕ) (row : Option Peer) → (send_result len row == 0) ≡ true → (p : Peer) × (row ≡ Some p)
no_row len None e = absurd cc
no_row len (Some p) e = (p, refl)

send_sends : (b : Board) (waits : Bool) → BoardSends b (sending b (try_send b.devices) (sends b.devices) waits)
send_sends b waits = go (send_result d.tx_len (row_of d.peers d.tx_peer) == 0) refl
  where
    d : DeviceState
    d = b.devices

    go : (s : Bool) → (send_result b.devices.tx_len (row_of b.devices.peers b.devices.tx_peer) == 0) ≡ s → BoardSends b (sending b (try_send b.devices) (sends b.devices) waits)
    go true e =
        let row = no_row b.devices.tx_len (row_of b.devices.peers b.devices.tx_peer) e in
        let m : Sent = record { peer = b.devices.tx_peer; number = next_number (row_of b.devices.peers b.devices.tx_peer); len = b.devices.tx_len } in
        One m (rw e refl) (record { row = row.0; row_is = row.1; number_is = ap next_number row.1; rows = rw e refl })
    go false e = Silent (rw e refl) (rw e refl)

stored_silent : (b : Board) (a : ℕ) (o : Option DeviceState) → (a == 0x10000028) ≡ false → (stored_state b.devices o).peers ≡ b.devices.peers → BoardSends b (stored_state b (with_stored b a o))
stored_silent b a (Some d) other m = Silent (rw other refl) m
stored_silent b a None other m = board_still b

stored_sends : (b : Board) (a value : ℕ) → BoardSends b (stored_state b (with_stored b a (device_store b.devices a value)))
stored_sends b a value = go (a == 0x10000028) refl
  where
    go : (s : Bool) → (a == 0x10000028) ≡ s → BoardSends b (stored_state b (with_stored b a (device_store b.devices a value)))
    go true e =
        let is : a ≡ 0x10000028 = eqb-true a 0x10000028 e in
        subst (λ (x : ℕ). BoardSends b (stored_state b (with_stored b x (device_store b.devices x value)))) (sym is) (send_sends b false)
    go false e = stored_silent b a (device_store b.devices a value) e (store_rows b.devices a value e)

store_sends : (b : Board) (a : ℕ) (w : Width) (value : ℕ) (place : Option ℕ) → BoardSends b (stored_state b (store_to b a w value (option_map (λ i. with_number (bytes_of w) b.ram i value) place)))
store_sends b a w value (Some i) = Still refl refl
store_sends b a Byte value None = board_still b
store_sends b a Half value None = board_still b
store_sends b a Word value None = stored_sends b a value

exec_sends : (h : HartState) (b : Board) → BoardSends b (bus_after b (exec_flat h b))
unfolding exec_flat
exec_sends h b =
    run_kept (board flat) BoardSends board_still
    (λ s a w. load_sends s a w (ram_load s.ram a (bytes_of w)))
    (λ s a w value. store_sends s a w value (place_of s.ram a (bytes_of w))) h b

-- ---- steps

abbrev sent_out : List Output → List Mail
sent_out [] = []
sent_out (Out bytes ∷ os) = sent_out os
sent_out (Send peer number payload ∷ os) = SentTo peer number payload ∷ sent_out os
sent_out (Halt cause value ∷ os) = sent_out os
sent_out (Snap ∷ os) = sent_out os

sent_made : (t : State) (os : List Output) → sent_in (map (made_of t) os) ≡ sent_out os
sent_made t [] = refl
sent_made t (Out bytes ∷ os) = sent_made t os
sent_made t (Send peer number payload ∷ os) = ap (λ (ms : List Mail). SentTo peer number payload ∷ ms) (sent_made t os)
sent_made t (Halt cause value ∷ os) = sent_made t os
sent_made t (Snap ∷ os) = sent_made t os

line_silent : (b : Bool) (line : List ℕ) (os : List Output) → sent_out (out_line b line ++ os) ≡ sent_out os
line_silent true line os = refl
line_silent false line os = refl

went_silent : (b : Bool) (line : List ℕ) (xs ys : List Output) → sent_out (out_line b line ++ xs ++ ys) ≡ sent_out (xs ++ ys)
went_silent true line xs ys = refl
went_silent false line xs ys = refl

snap_silent : (snap count : ℕ) → sent_out (out_snap snap count) ≡ []
snap_silent snap count = go (count % snap == 0)
  where
    go : (b : Bool) → sent_out (if b then Snap ∷ [] else []) ≡ []
    go true = refl
    go false = refl

abbrev sent_mail : Option Sent → List ℕ → List Mail
sent_mail None window = []
sent_mail (Some m) window = SentTo m.peer m.number (take m.len window) ∷ []

send_out : (s m : Option Sent) (window : List ℕ) (snap count : ℕ) → s ≡ m → sent_out (out_send s window ++ out_snap snap count) ≡ sent_mail m window
send_out s m window snap count e = go s ∙ ap (λ (x : Option Sent). sent_mail x window) e
  where
    go : (s : Option Sent) → sent_out (out_send s window ++ out_snap snap count) ≡ sent_mail s window
    go None = snap_silent snap count
    go (Some x) = ap (λ (ms : List Mail). SentTo x.peer x.number (take x.len window) ∷ ms) (snap_silent snap count)

went_sends : (s : State) (h : HartState) (b : Board) → BoardSends (board_of s) b → Sends s.devices.peers (stepped s (Goes h b)).state.devices.peers (sent_out (stepped s (Goes h b)).outs)
went_sends s h b (Still q r) = SendsNone r (went_silent (is_complete b.devices.line) b.devices.line (out_send b.send b.devices.window) (out_snap s.snap (s.count + 1)) ∙ send_out b.send None b.devices.window s.snap (s.count + 1) q)
went_sends s h b (Silent q r) = SendsNone r (went_silent (is_complete b.devices.line) b.devices.line (out_send b.send b.devices.window) (out_snap s.snap (s.count + 1)) ∙ send_out b.send None b.devices.window s.snap (s.count + 1) q)
went_sends s h b (One m q n) = SendsOne m.peer m.number (take m.len b.devices.window) n (went_silent (is_complete b.devices.line) b.devices.line (out_send b.send b.devices.window) (out_snap s.snap (s.count + 1)) ∙ send_out b.send (Some m) b.devices.window s.snap (s.count + 1) q)

stepped_sends : (s : State) (o : Outcome Board) → BoardSends (board_of s) (bus_after (board_of s) o) → Sends s.devices.peers (stepped s o).state.devices.peers (sent_out (stepped s o).outs)
stepped_sends s (Goes h b) k = went_sends s h b k
stepped_sends s Waits k = SendsNone refl refl
stepped_sends s (Stops cause value) k = SendsNone refl (line_silent (not (length s.devices.line == 0)) s.devices.line (Halt cause value ∷ out_snap s.snap (s.count + 1)) ∙ snap_silent s.snap (s.count + 1))

-- a step sends nothing, and its rows stay; or the next message to a peer, which its row counts
pub step_sends : (s t : State) (os : List Made) → step_of s ≡ Some (t, os) → Sends s.devices.peers t.devices.peers (sent_in os)
step_sends s t os e =
    let k = step_is s t os e in
    let out : sent_in os ≡ sent_out (Step s).outs = ap sent_in k.2 ∙ sent_made t (Step s).outs in
    let all : Sends s.devices.peers (Step s).state.devices.peers (sent_out (Step s).outs) = stepped_sends s (exec_flat s.hart (board_of s)) (exec_sends s.hart (board_of s)) in
    subst (λ (x : State). Sends s.devices.peers x.devices.peers (sent_in os)) (sym k.1) (subst (λ (ms : List Mail). Sends s.devices.peers (Step s).state.devices.peers ms) (sym out) all)
