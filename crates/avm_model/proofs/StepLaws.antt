-- A state that can step does not wait for a clock.
use Rattle.std.proofs.Common.{◌≡◌, ℕ, ◌+◌, ◌%◌, ◌^◌, Bool, true, false, not, nat_le, nat_lt, Option, Some, None, refl, eqb-true, eq-eqb}
use Rattle.std.specs.Prelude.{if◌then◌else◌, ◌==◌, ◌&&◌, ◌||◌, slice_get}
use Rattle.std.specs.Option.{option_and_then}
use Rattle.avm_model.specs.Hart.{HartState, reg}
use Rattle.avm_model.specs.Decode.{decoded}
use Rattle.avm_model.specs.Values.{bytes_of, load_width, store_width, is_taken}
use Rattle.avm_model.specs.Memory.{ram_load}
use Rattle.avm_model.specs.Device.{DeviceState, device_load, load_console, load_clock, load_vector, load_saved}
use Rattle.avm_model.specs.Exec.{Loaded, Gave, NotMapped, NoClock, Waits, Stops, jump, branch, after_load, load, after_store, store, executed, run_inst, run_word}
use Rattle.avm_model.specs.Machine.{State, Board, board, flat, board_of, board_load, load_from, load_beyond, with_devices, exec_flat, can_step, is_running, loads_clock, next_inst}
use Rattle.avm_model.specs.declared.Bell.{Bell}
use Rattle.avm_model.specs.declared.Width.{Width}
use Rattle.avm_model.specs.declared.Width.TheVariants.{Byte, Half, Word}
use Rattle.avm_model.specs.declared.LoadOp.{LoadOp}
use Rattle.avm_model.specs.declared.LoadOp.TheVariants.{Lb, Lh, Lw, Lbu, Lhu}
use Rattle.avm_model.specs.declared.StoreOp.{StoreOp}
use Rattle.avm_model.specs.declared.Inst.{Inst}
use Rattle.avm_model.specs.declared.Inst.TheVariants.{Lui, Auipc, Jal, Jalr, Branch, Load, Store, Imm, Op, Mul, Fence, Ecall, Ebreak}

-- which branch of a test gives an answer
other : {A : Type 0} (b : Bool) (x y z : A) → (x ≡ z → ⊥) → (if b then x else y) ≡ z → y ≡ z
other true x y z f e = absurd (f e)
other false x y z f e = e

neither : {A : Type 0} (b : Bool) (x y z : A) → (x ≡ z → ⊥) → (y ≡ z → ⊥) → (if b then x else y) ≡ z → ⊥
neither true x y z f g e = f e
neither false x y z f g e = g e

first : {A : Type 0} (b : Bool) (x y z : A) → (y ≡ z → ⊥) → (if b then x else y) ≡ z → (b ≡ true) × (x ≡ z)
first true x y z f e = (refl, e)
first false x y z f e = absurd (f e)

gave : {D : Type 0} (n : ℕ) (d : D) → Gave n d ≡ NoClock → ⊥
gave n d e = absurd cc

console_gave : (d : DeviceState) (o : Option ℕ) → load_console d o ≡ NoClock → ⊥
console_gave d None e = absurd cc
console_gave d (Some byte) e = absurd cc

vector_gave : (d : DeviceState) (o : Option Bell) → load_vector d o ≡ NoClock → ⊥
vector_gave d None e = absurd cc
vector_gave d (Some b) e = absurd cc

saved_gave : (d : DeviceState) (o : Option Bell) → load_saved d o ≡ NoClock → ⊥
saved_gave d None e = absurd cc
saved_gave d (Some b) e = absurd cc

clock_none : (d : DeviceState) (o : Option ℕ) → load_clock d o ≡ NoClock → o ≡ None
clock_none d None e = refl
clock_none d (Some value) e = absurd cc

nothing : {D : Type 0} (l : Loaded D) → l ≡ NotMapped → l ≡ NoClock → ⊥
nothing l p e = absurd cc

-- only CLK_LO without a pending clock asks
device_asks : (d : DeviceState) (address : ℕ) → device_load d address ≡ NoClock → (address ≡ 0x10000008) × (d.clock ≡ None)
device_asks d address e =
    let h = first (address == 0x10000008) _ _ _ (neither (address == 0x1000000c) _ _ _ (gave _ d) (neither (address == 0x10000014) _ _ _ (gave _ d) (neither (address == 0x10000018) _ _ _ (gave _ d) (neither (address == 0x10000020) _ _ _ (gave _ d) (neither (address == 0x10000024) _ _ _ (gave _ d) (neither (address == 0x1000002c) _ _ _ (gave _ d) (neither (address == 0x10000030) _ _ _ (vector_gave d d.bell) (neither (address == 0x10000034) _ _ _ (saved_gave d d.bell) (neither (address % 4 == 0 && nat_le 0x10001000 address && nat_lt address 0x10001400) _ _ _ (gave _ d) (neither (address % 4 == 0 && nat_le 0x10002000 address && nat_lt address 0x10002400) _ _ _ (gave _ d) (nothing _ refl))))))))))) (other (address == 0x10000004) _ _ _ (console_gave d (slice_get d.console 0)) e) in
    (eqb-true _ _ h.0, clock_none d d.clock h.1)

beyond_asks : (b : Board) (address : ℕ) (w : Width) → load_beyond b address w ≡ NoClock → (w ≡ Word) × (address ≡ 0x10000008) × (b.devices.clock ≡ None)
beyond_asks b address Byte e = absurd cc
beyond_asks b address Half e = absurd cc
beyond_asks b address Word e = go (device_load b.devices address) refl e
  where
    go : (l : Loaded DeviceState) → device_load b.devices address ≡ l → with_devices b l ≡ NoClock → (Word ≡ Word) × (address ≡ 0x10000008) × (b.devices.clock ≡ None)
    go (Gave value d) p h = absurd cc
    go NotMapped p h = absurd cc
    go NoClock p h = let k = device_asks b.devices address p in (refl, k.0, k.1)

load_asks : (b : Board) (address : ℕ) (w : Width) → board_load flat b address w ≡ NoClock → (w ≡ Word) × (address ≡ 0x10000008) × (b.devices.clock ≡ None)
load_asks b address w e = go (ram_load b.ram address (bytes_of w)) e
  where
    go : (o : Option ℕ) → load_from b address w o ≡ NoClock → (w ≡ Word) × (address ≡ 0x10000008) × (b.devices.clock ≡ None)
    go (Some value) h = absurd cc
    go None h = beyond_asks b address w h

-- the instruction is LW from CLK_LO, and no clock is pending
record AsksBy (h : HartState) (b : Board) (i : Inst) : Type 0 where
  loads : loads_clock h (Some i) ≡ true
  clock : b.devices.clock ≡ None

word_is : (op : LoadOp) → load_width op ≡ Word → op ≡ Lw
word_is Lb e = absurd cc
word_is Lh e = absurd cc
word_is Lw e = refl
word_is Lbu e = absurd cc
word_is Lhu e = absurd cc

load_waits : (h : HartState) (b : Board) (op : LoadOp) (rd rs1 imm : ℕ) → load (board flat) h b op rd ((reg h rs1 + imm) % 2 ^ 32) ≡ Waits → AsksBy h b (Load op rd rs1 imm)
load_waits h b op rd rs1 imm e =
    let address : ℕ = (reg h rs1 + imm) % 2 ^ 32 in
    go (board_load flat b address (load_width op)) refl (first (address % bytes_of (load_width op) == 0) _ (Stops 5 address) Waits (λ q. absurd cc) e).1
  where
    by_op : (op : LoadOp) → op ≡ Lw → (reg h rs1 + imm) % 2 ^ 32 ≡ 0x10000008 → b.devices.clock ≡ None → AsksBy h b (Load op rd rs1 imm)
    by_op Lb p a c = absurd cc
    by_op Lh p a c = absurd cc
    by_op Lw p a c = record { loads = eq-eqb _ _ a; clock = c }
    by_op Lbu p a c = absurd cc
    by_op Lhu p a c = absurd cc

    go : (l : Loaded Board) → board_load flat b ((reg h rs1 + imm) % 2 ^ 32) (load_width op) ≡ l → after_load h op rd ((reg h rs1 + imm) % 2 ^ 32) l ≡ Waits → AsksBy h b (Load op rd rs1 imm)
    go (Gave value s) p q = absurd cc
    go NotMapped p q = absurd cc
    go NoClock p q = let k = load_asks b ((reg h rs1 + imm) % 2 ^ 32) (load_width op) p in by_op op (word_is op k.0) k.1 k.2

jump_goes : (h : HartState) (b : Board) (rd target : ℕ) → jump h b rd target ≡ Waits → ⊥
jump_goes h b rd target e = neither (target % 4 == 0) _ _ _ (λ q. absurd cc) (λ q. absurd cc) e

branch_goes : (h : HartState) (b : Board) (taken : Bool) (target : ℕ) → branch h b taken target ≡ Waits → ⊥
branch_goes h b true target e = neither (target % 4 == 0) _ _ _ (λ q. absurd cc) (λ q. absurd cc) e
branch_goes h b false target e = absurd cc

store_goes : (h : HartState) (b : Board) (op : StoreOp) (address value : ℕ) → store (board flat) h b op address value ≡ Waits → ⊥
store_goes h b op address value e = neither (address % bytes_of (store_width op) == 0) _ _ _ (stored _) (λ q. absurd cc) e
  where
    stored : (o : Option Board) → after_store h address o ≡ Waits → ⊥
    stored (Some s) q = absurd cc
    stored None q = absurd cc

executed_waits : (h : HartState) (b : Board) (i : Inst) → executed (board flat) h b i ≡ Waits → AsksBy h b i
executed_waits h b (Lui rd imm) e = absurd cc
executed_waits h b (Auipc rd imm) e = absurd cc
executed_waits h b (Jal rd imm) e = absurd (jump_goes h b rd _ e)
executed_waits h b (Jalr rd rs1 imm) e = absurd (jump_goes h b rd _ e)
executed_waits h b (Branch op rs1 rs2 imm) e = absurd (branch_goes h b (is_taken op (reg h rs1) (reg h rs2)) ((h.pc + imm) % 2 ^ 32) e)
executed_waits h b (Load op rd rs1 imm) e = load_waits h b op rd rs1 imm e
executed_waits h b (Store op rs1 rs2 imm) e = absurd (store_goes h b op _ _ e)
executed_waits h b (Imm op rd rs1 imm) e = absurd cc
executed_waits h b (Op op rd rs1 rs2) e = absurd cc
executed_waits h b (Mul op rd rs1 rs2) e = absurd cc
executed_waits h b Fence e = absurd cc
executed_waits h b Ecall e = absurd cc
executed_waits h b Ebreak e = absurd cc

-- where the instruction waits, the machine asks and no clock is pending
pub waits_asks : (s : State) → exec_flat s.hart (board_of s) ≡ Waits → (loads_clock s.hart (next_inst s) ≡ true) × (s.devices.clock ≡ None)
unfolding exec_flat
waits_asks s e = go (ram_load s.ram s.hart.pc 4) e
  where
    by_inst : (word : ℕ) (i : Option Inst) → run_inst (board flat) s.hart (board_of s) word i ≡ Waits → (loads_clock s.hart i ≡ true) × (s.devices.clock ≡ None)
    by_inst word None h = absurd cc
    by_inst word (Some i) h = let a = executed_waits s.hart (board_of s) i h in (a.loads, a.clock)

    go : (o : Option ℕ) → run_word (board flat) s.hart (board_of s) o ≡ Waits → (loads_clock s.hart (option_and_then decoded o) ≡ true) × (s.devices.clock ≡ None)
    go None h = absurd cc
    go (Some word) h = by_inst word (decoded word) h

-- so a state that can step does not wait
pub can_go : (s : State) → can_step s ≡ true → exec_flat s.hart (board_of s) ≡ Waits → ⊥
can_go s can e =
    let a = waits_asks s e in
    go (is_running s.status) (rw (a.0, a.1) at can)
  where
    go : (r : Bool) → (r && (not (r && true) || false)) ≡ true → ⊥
    go true h = absurd cc
    go false h = absurd cc
