use Rattle.std.proofs.Common.{ℕ, ◌/◌, ◌<◌, ◌^◌, length, IsTrue, ap, sym, subst, ◌∙◌, rules}
use Rattle.avm_model.specs.HeadState.{state_of}
use Rattle.avm_model.specs.Memory.{is_page_count}
use Rattle.avm_model.specs.Machine.{MachineState}
use Rattle.state_replay.proofs.Fillings.{few_pages, divided, filled}
use Rattle.state_replay.proofs.starting.machine_from.Goals as goal

pub overflow_cast-pages : goal.overflow_cast-pages
overflow_cast-pages c = let h : length c.args.pages.now / 4096 < 2 ^ 32 = few_pages (length c.args.pages.now) _ c.requires.1.size c.requires.1.count in search rules

pub new-requires : goal.new-requires
new-requires c =
    let h = c.requires.0 in
    let k = c.requires.1 in
    subst (λ (n : ℕ). IsTrue (is_page_count n)) (sym (divided (length c.args.pages.now) h.front.pages k.size)) k.count

pub machine_of-requires : goal.machine_of-requires
machine_of-requires c =
    let h = c.requires.0 in
    let k = c.requires.1 in
    let f = filled c.args.pages.now h.front.pages _ _ _ k.size c.in_ok-ram.ensures c.put.ensures.value c.put.ensures.pages c.in_ok-tree.ensures.ram in
    record { head = (h, k.is, sym f.count) }

pub returns-clause-state : goal.returns-clause-state
returns-clause-state c = λ h e.
    let g = c.requires.0 in
    let k = c.requires.1 in
    let f = filled c.args.pages.now g.front.pages _ _ _ k.size c.in_ok-ram.ensures c.put.ensures.value c.put.ensures.pages c.in_ok-tree.ensures.ram in
    ap (λ (m : MachineState). m.state) (c.in_ok-machine.ensures h e) ∙ ap (state_of h) f.bytes

pub returns-clause-tree : goal.returns-clause-tree
returns-clause-tree c =
    let h = c.requires.0 in
    let k = c.requires.1 in
    let f = filled c.args.pages.now h.front.pages _ _ _ k.size c.in_ok-ram.ensures c.put.ensures.value c.put.ensures.pages c.in_ok-tree.ensures.ram in
    let m = c.in_ok-machine.ensures h k.is in
    let ram = ap (λ (x : MachineState). x.state.ram) m ∙ f.same in
    let dirty = ap (λ (x : MachineState). length x.dirty) m ∙ f.marks in
    rw (ram, dirty) c.in_ok-tree.ensures.tree
