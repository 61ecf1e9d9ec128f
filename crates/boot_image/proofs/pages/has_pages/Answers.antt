use Rattle.std.proofs.Common.{◌≡◌, ◌≤◌, length, ap, sym, ◌∙◌, arith}
use Rattle.boot_image.proofs.Paged.{same_more, all_same}
use Rattle.boot_image.proofs.pages.has_pages.Goals as goal

pub loop-i-preserved : goal.loop-i-preserved
loop-i-preserved c =
    same_more c.args.ram.now.bytes c.args.pages.now c.page_at.result.now c.loop-i.i c.loop-i.invariant (c.is_page.ensures.0 c.if-not-is_page.false) c.page_at.ensures

pub returns : goal.returns
returns c =
    let value = c.pages-i-end.ensures.value in
    let past : length c.args.ram.now.dirty ≤ c.loop-i.i = omega (arith, value) in
    let len : length c.args.ram.now.bytes ≡ length c.args.pages.now = sym (ap length c.bytes.ensures.value) ∙ c.if-bytes-pages.false in
    all_same c.args.ram.now.bytes c.args.pages.now (length c.args.ram.now.dirty) c.loop-i.i len c.bytes.ensures.sizes.size past c.loop-i.invariant
