use Rattle.std.proofs.Common.{◌≡◌, ◌≤◌, ◌+◌, ◌-◌, ◌^◌, ◌++◌, ◌∙◌, List, ℕ, length, replicate, ap, arith, rules}
use Rattle.avm_model.specs.Memory.{RamState, put_at, marked_range}
use Rattle.rv32_loader.proofs.Puts.{put_both, put_loaded, mark_loaded}
use Rattle.rv32_loader.proofs.place.put_one.Goals as goal

pub returns-then-header-ge1-clause-bytes : goal.returns-then-header-ge1-clause-bytes
returns-then-header-ge1-clause-bytes c =
    let h = c.args.header in
    let ram = c.args.ram.now.bytes in
    let at : ℕ = h.address - 2 ^ 31 in
    let part = c.file_part.result.now in
    let zeros : List ℕ = replicate (h.memory_size - h.file_size) 0 in
    let fits : at ≤ length ram = search rules in
    let place : at + h.file_size ≡ at + length part = omega (arith, c.file_part.ensures.len) in
    ap (λ (r : RamState). r.bytes) c.clear.ensures.value
    ∙ ap (λ (r : RamState). put_at r.bytes (at + h.file_size) zeros) c.put.ensures.value
    ∙ put_both ram part zeros at (at + h.file_size) fits place
    ∙ ap (λ x. put_at ram at (x ++ zeros)) c.file_part.ensures.value
    ∙ put_loaded c.args.file.now ram h c.if-header-eq1.true c.if-header-ge1.true

pub returns-then-header-ge1-clause-marks : goal.returns-then-header-ge1-clause-marks
returns-then-header-ge1-clause-marks c =
    let h = c.args.header in
    let at : ℕ = h.address - 2 ^ 31 in
    ap (λ (r : RamState). r.dirty) c.clear.ensures.value
    ∙ ap (λ (r : RamState). marked_range r.dirty (at + h.file_size) (h.memory_size - h.file_size)) c.put.ensures.value
    ∙ ap (λ (n : ℕ). marked_range (marked_range c.args.ram.now.dirty at n) (at + h.file_size) (h.memory_size - h.file_size)) c.file_part.ensures.len
    ∙ mark_loaded c.args.ram.now.dirty h c.if-header-eq1.true c.if-header-ge1.true
