use Rattle.std.proofs.Common.{◌≡◌, ◌+◌, ◌-◌, ◌*◌, length, None}
use Rattle.avm_model.specs.Basics.{first_at}
use Rattle.avm_model.specs.Image.{is_bad, is_outside, headers_at, put_segments}
use Rattle.rv32_loader.specs.Marking.{mark_segments}
use Rattle.rv32_loader.proofs.loading.put_each.Given as goal

abbrev pub invariant-loop-i : goal.invariant-loop-i
invariant-loop-i l = record {
  left : put_segments l.file l.ram.bytes (headers_at l.file (l.at + 32 * l.i) (l.count - l.i)) ≡ put_segments l.file l.fn.ram.bytes (headers_at l.file l.at l.count);
  file : first_at (is_bad (length l.file)) l.i (headers_at l.file (l.at + 32 * l.i) (l.count - l.i)) ≡ None;
  inside : first_at (is_outside (length l.fn.ram.bytes)) l.i (headers_at l.file (l.at + 32 * l.i) (l.count - l.i)) ≡ None;
  marks : mark_segments l.ram.dirty (headers_at l.file (l.at + 32 * l.i) (l.count - l.i)) ≡ mark_segments l.fn.ram.dirty (headers_at l.file l.at l.count);
  len : length l.ram.bytes ≡ length l.fn.ram.bytes;
  pages : length l.ram.dirty ≡ length l.fn.ram.dirty;
}
