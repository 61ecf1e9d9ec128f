use Rattle.std.proofs.Common.{◌∙◌, ap, drop, List, ℕ}
use Rattle.avm_num.specs.Room.{with_bytes}
use Rattle.avm_model.specs.Hart.{HartState}
use Rattle.avm_model.specs.Head.{hart_bytes}
use Rattle.snap_state.proofs.writing.put_registers.Goals as goal

pub returns-clause-value : goal.returns-clause-value
returns-clause-value c =
    c.put_hart.ensures.value
    ∙ ap (λ (x : List ℕ). with_bytes c.args.out.now (hart_bytes (record { x = x; pc = c.hart.inside.pc; count = c.args.count; status = c.args.status }))) c.behind_first.ensures.value
    ∙ ap (λ (h : HartState). with_bytes c.args.out.now (hart_bytes (record { x = drop 1 h.x; pc = h.pc; count = c.args.count; status = c.args.status }))) c.hart.view_is
