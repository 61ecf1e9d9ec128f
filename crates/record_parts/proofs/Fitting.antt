-- The outputs of a step have spellings.
use Rattle.std.proofs.Common.{◌≡◌, ℕ, zero, suc, ◌<◌, ◌≤◌, ◌^◌, Bool, true, false, List, [], ◌∷◌, ◌++◌, length, map, take, Option, Some, None, IfSome, refl, arith}
use Rattle.std.specs.Prelude.{if◌then◌else◌, ◌==◌}
use Rattle.std.proofs.lemmas.List.{length-take, length-take-le}
use Rattle.avm_model.specs.Machine.{State, Out, out_send}
use Rattle.avm_model.specs.Reference.{made_of}
use Rattle.avm_model.specs.Root.{root, root_over}
use Rattle.avm_model.proofs.LmsLaw.{length-hash}
use Rattle.avm_model.specs.declared.Sent.{Sent}
use Rattle.guest_dev.specs.Shown.{IsSent}
use Rattle.guest_machine.specs.Outs.{IsOuts, halt_list, snap_list}
use Rattle.guest_machine.specs.declared.outs.Outs.{Outs}
use Rattle.record_model.specs.Standing.{FitAll}
use Rattle.record_parts.specs.Outs.{outs_made}

-- the numbers of a halt are those of their types
abbrev pub IsHalt : Option (ℕ × ℕ) → Type 0
IsHalt None = Unit {0}
IsHalt (Some h) = (h.0 < 2 ^ 32) × (h.1 < 2 ^ 32)

abbrev pub IsTo : Option Sent → Type 0
IsTo None = Unit {0}
IsTo (Some x) = x.peer < 2 ^ 32

tail_fits : (s : State) (h : Option (ℕ × ℕ)) (b : Bool) → s.count < 2 ^ 62 → IsHalt h → length (root s) ≡ 32 → FitAll (map (made_of s) (halt_list h ++ snap_list b))
tail_fits s None false low is len = tt
tail_fits s None true low is len = ((low, len), tt)
tail_fits s (Some h) false low is len = ((low, is.0, is.1), tt)
tail_fits s (Some h) true low is len = ((low, is.0, is.1), ((low, len), tt))

short : (n : ℕ) (bytes : List ℕ) → n ≤ 1024 → length (take n bytes) ≤ 1024
short n bytes le = grind (arith, length-take)

sent_fits : (s : State) (x : Option Sent) (h : Option (ℕ × ℕ)) (b : Bool) → s.count < 2 ^ 62 → IfSome x IsSent → IsTo x → FitAll (map (made_of s) (halt_list h ++ snap_list b)) → FitAll (map (made_of s) (out_send x s.devices.window ++ halt_list h ++ snap_list b))
sent_fits s None h b low is to rest = rest
sent_fits s (Some x) h b low is to rest = (record { count = low; peer = to; number = record { first = is.first; below = is.below }; payload = short x.len s.devices.window is.len }, rest)

pub root_long : (s : State) → length (root s) ≡ 32
unfolding root root_over
root_long s = length-hash _

nonzero : (n : ℕ) → (n == 0) ≡ false → 1 ≤ n
nonzero zero e = absurd cc
nonzero (suc n) e = omega arith

pub outs_fit : (s : State) (o : Outs) → s.count < 2 ^ 62 → IsOuts o → length o.line.bytes ≡ 128 → IsTo o.sent → IsHalt o.halt → FitAll (outs_made s o)
outs_fit s o low is line to halt = go (o.line.len == 0) refl (sent_fits s o.sent o.halt o.snap low is.sent to (tail_fits s o.halt o.snap low halt (root_long s)))
  where
    go : (b : Bool) → (o.line.len == 0) ≡ b → FitAll (map (made_of s) (out_send o.sent s.devices.window ++ halt_list o.halt ++ snap_list o.snap)) → FitAll (map (made_of s) ((if b then [] else Out (take o.line.len o.line.bytes) ∷ []) ++ out_send o.sent s.devices.window ++ halt_list o.halt ++ snap_list o.snap))
    go true e h = h
    go false e h = let size : length (take o.line.len o.line.bytes) ≡ o.line.len = length-take-le o.line.len o.line.bytes (let l = is.line in omega (arith, l, line)) in let some : 1 ≤ o.line.len = nonzero o.line.len e in ((low, omega (arith, size, some), (let l = is.line in omega (arith, size, l))), h)
