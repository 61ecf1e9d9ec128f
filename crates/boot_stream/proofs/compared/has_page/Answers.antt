use Rattle.std.proofs.Common.{◌≡◌, ◌*◌, ◌+◌, ◌-◌, ℕ, IsTrue, take, drop, subst, arith}
use Rattle.boot_stream.proofs.compared.has_page.Goals as goal

pub returns-then-i-pages : goal.returns-then-i-pages
returns-then-i-pages c =
    let ram = c.args.ram.now.bytes in
    let page = c.args.page.now in
    let size : 4096 * c.args.i + 4096 - 4096 * c.args.i ≡ 4096 = omega arith in
    subst (λ (n : ℕ). (IsTrue c.is_page.result → take n (drop (4096 * c.args.i) ram) ≡ page) × (take n (drop (4096 * c.args.i) ram) ≡ page → IsTrue c.is_page.result)) size c.is_page.ensures
