use Rattle.std.proofs.Common.{◌≡◌, ◌*◌, length, IsTrue, sym, subst, arith, rules}
use Rattle.avm_model.specs.Memory.{is_page_count}
use Rattle.avm_model.proofs.PageCounts.{few_pages}
use Rattle.rv32_mem.proofs.ram.Ram.new.Goals as goal

pub invariant_of-result : goal.invariant_of-result
invariant_of-result c =
    let size : length c.in-Ok.bytes.items ≡ c.args.pages * 4096 = search rules in
    let marks : length c.in-Ok-vec.dirty.items ≡ c.args.pages = search rules in
    record {
      size = omega (arith, size, marks);
      few = omega (arith, marks, few_pages c.args.pages c.requires);
      power = subst (λ n. IsTrue (is_page_count n)) (sym marks) c.requires;
    }
