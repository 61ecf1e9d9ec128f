-- An entry costs at most K steps.
use Rattle.std.proofs.Common.{◌≡◌, ℕ, ◌+◌, ◌≤◌, ◌<◌, true, List, subst, arith}
use Rattle.avm_model.specs.Bounds.{is_head}
use Rattle.avm_model.specs.HeadState.{data_of}
use Rattle.avm_model.specs.Machine.{State}
use Rattle.avm_model.specs.Judge.{settle}
use Rattle.avm_model.specs.Rerun.{Stand}
use Rattle.avm_model.specs.Reference.{Made, timed}
use Rattle.avm_model.proofs.ReferenceShort.{reference_short}
use Rattle.guest_machine.proofs.Heads.{head_rest}

-- K is not 0
snap_some : (s : State) → is_head (data_of s) ≡ true → 0 < s.snap
snap_some s head =
    let least = (head_rest s head).snap_least in
    omega arith

pub settled_short : (s : State) (os : List Made) (c : ℕ) (k : Stand State Made) → is_head (data_of s) ≡ true → settle timed c s os ≡ k → k.state.count ≤ s.count + s.snap
settled_short s os c k head e =
    subst (λ (j : Stand State Made). j.state.count ≤ s.count + s.snap) e (reference_short c s os (snap_some s head))
