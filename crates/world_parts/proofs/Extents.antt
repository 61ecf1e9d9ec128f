-- A disk's least length is at most its greatest.
use Rattle.std.proofs.Common.{ℕ, ◌+◌, ◌≤◌, Bool, true, false, List, [], ◌∷◌, length, fold, arith}
use Rattle.std.specs.Prelude.{max, nat_le, if◌then◌else◌}
use Rattle.avm_outside.specs.DiskLog.{Change, wrote, missed, synced, Extent, extent_after, settled, KeptCall, upto, upto_step}

max_left : (a b : ℕ) → a ≤ max a b
max_left a b = grind arith

change_ordered : (x : Extent) (e : Change) → x.least ≤ x.most → (extent_after x e).least ≤ (extent_after x e).most
change_ordered x (wrote at new) h = let k = max_left x.most (at + length new) in omega (arith, h, k)
change_ordered x (missed at n) h = let k = max_left x.most (at + n) in omega (arith, h, k)
change_ordered x synced h = omega arith

step_ordered : (calls : ℕ) (x : Extent) (e : KeptCall) → x.least ≤ x.most → (upto_step extent_after calls x e).least ≤ (upto_step extent_after calls x e).most
step_ordered calls x e h = go (nat_le e.call calls)
  where
    go : (b : Bool) → (if b then extent_after x e.change else x).least ≤ (if b then extent_after x e.change else x).most
    go true = change_ordered x e.change h
    go false = h

all_ordered : (calls : ℕ) (x : Extent) (log : List KeptCall) → x.least ≤ x.most → (fold (upto_step extent_after calls) x log).least ≤ (fold (upto_step extent_after calls) x log).most
all_ordered calls x [] h = h
all_ordered calls x (e ∷ log) h = all_ordered calls (upto_step extent_after calls x e) log (step_ordered calls x e h)

pub ordered : (n calls : ℕ) (log : List KeptCall) → (upto extent_after calls (settled n) log).least ≤ (upto extent_after calls (settled n) log).most
unfolding upto
ordered n calls log = all_ordered calls (settled n) log (omega arith)
