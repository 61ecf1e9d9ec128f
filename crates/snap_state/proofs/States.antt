-- A head's data are those of its state, and a state without a pending clock is that of its head and its RAM.
use Rattle.std.proofs.Common.{◌≡◌, ℕ, ◌/◌, ◌<◌, List, [], ◌∷◌, length, drop, Option, None, slice_index, sym, ap, ◌∙◌, arith}
use Rattle.avm_model.specs.Machine.{State}
use Rattle.avm_model.specs.Head.{HeadData}
use Rattle.avm_model.specs.HeadState.{state_of, data_of}

pub data_again : (h : HeadData) (ram : List ℕ) → length ram / 4096 ≡ h.front.pages → data_of (state_of h ram) ≡ h
data_again h ram e = ap (λ (n : ℕ). record h { front = record h.front { pages = n } }) e

register_0 : (x : List ℕ) → 0 < length x → slice_index x 0 ≡ 0 → 0 ∷ drop 1 x ≡ x
register_0 [] some e = absurd (omega arith)
register_0 (r ∷ x) some e = ap (λ (n : ℕ). n ∷ x) (sym e)

pub state_again : (s : State) → length s.hart.x ≡ 32 → slice_index s.hart.x 0 ≡ 0 → s.devices.clock ≡ None → state_of (data_of s) s.ram ≡ s
state_again s len zeroed clock =
    ap (λ (x : List ℕ). record (state_of (data_of s) s.ram) { hart = record s.hart { x = x } }) (register_0 s.hart.x (omega (arith, len)) zeroed)
    ∙ ap (λ (c : Option ℕ). record s { devices = record s.devices { clock = c } }) (sym clock)
