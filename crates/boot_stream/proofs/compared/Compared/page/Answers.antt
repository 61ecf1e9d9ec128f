use Rattle.std.proofs.Common.{◌≡◌, ◌*◌, ◌++◌, ℕ, List, IsTrue, true, false, length, take, drop, Option, Some, sym, ap, subst, ◌∙◌, rules}
use Rattle.avm_model.specs.Machine.{MachineState}
use Rattle.avm_model.specs.Memory.{RamState}
use Rattle.boot_stream.specs.Booting.{IsSame, IsFrontOf}
use Rattle.boot_stream.proofs.Coming.{page_same_at, page_other_at}
use Rattle.boot_stream.proofs.compared.Compared.page.Goals as goal

pub returns-then-not-has_page-clause-same : goal.returns-then-not-has_page-clause-same
returns-then-not-has_page-clause-same c = λ pages len same.
    let m = c.in-Some.machine in
    let page = c.args.page.now in
    let size : length page ≡ 4096 = search rules in
    let ram : c.ram.result.now.bytes ≡ m.state.ram = ap (λ (r : RamState). r.bytes) c.ram.ensures in
    let not : take 4096 (drop (4096 * c.args.i) m.state.ram) ≡ page → ⊥ = λ is.
    let yes : IsTrue c.has_page.result = c.has_page.ensures.1 (ap (λ (l : List ℕ). take 4096 (drop (4096 * c.args.i) l)) ram ∙ is) in
    let no : false ≡ true = sym c.if-not-has_page.true ∙ yes in cc in
    let so : IsFrontOf c.args.self.now.same m.state.ram pages = subst (λ (o : Option MachineState). IsSame o c.args.self.now.same pages) c.in-Some.is same in
    let other : IsSame (Some m) false (pages ++ page) = page_other_at c.args.self.now.same m.state.ram pages page c.args.i len size not so in
    subst (λ (o : Option MachineState). IsSame o false (pages ++ page)) (sym c.in-Some.is) other

pub returns-else-not-has_page-clause-same : goal.returns-else-not-has_page-clause-same
returns-else-not-has_page-clause-same c = λ pages len same.
    let m = c.in-Some.machine in
    let page = c.args.page.now in
    let size : length page ≡ 4096 = search rules in
    let ram : c.ram.result.now.bytes ≡ m.state.ram = ap (λ (r : RamState). r.bytes) c.ram.ensures in
    let is : take 4096 (drop (4096 * c.args.i) m.state.ram) ≡ page = ap (λ (l : List ℕ). take 4096 (drop (4096 * c.args.i) l)) (sym ram) ∙ c.has_page.ensures.0 c.if-not-has_page.false in
    let so : IsFrontOf c.args.self.now.same m.state.ram pages = subst (λ (o : Option MachineState). IsSame o c.args.self.now.same pages) c.in-Some.is same in
    let goes : IsSame (Some m) c.args.self.now.same (pages ++ page) = page_same_at c.args.self.now.same m.state.ram pages page c.args.i len size is so in
    subst (λ (o : Option MachineState). IsSame o c.args.self.now.same (pages ++ page)) (sym c.in-Some.is) goes
