use Rattle.std.proofs.Common.{length, ap, ◌∙◌, arith}
use Rattle.std.specs.Int.{w32, w64}
use Rattle.avm_num.specs.Lists.{be, list_bytes}
use Rattle.avm_num.specs.Room.{Buffer, with_bytes}
use Rattle.record_batch.specs.Keeping.{marked_from, page_bytes}
use Rattle.record_batch.proofs.Pages.{keep_spells, marks_of}
use Rattle.record_batch.proofs.keeping.put_keep.Goals as goal

pub returns-clause-value : goal.returns-clause-value
returns-clause-value c =
    let b : Buffer = c.args.room.now in
    let two = c.put_u64.ensures.value ∙ ap (λ (r : Buffer). with_bytes r (be w64 c.args.seq)) c.put_u8.ensures.value in
    let three = c.put_u32.ensures.value ∙ ap (λ (r : Buffer). with_bytes r (be w32 (length c.args.head.now))) two in
    let four = c.put.ensures.value ∙ ap (λ (r : Buffer). with_bytes r c.args.head.now) three in
    let five = c.put_u32-2.ensures.value ∙ ap (λ (r : Buffer). with_bytes r (be w32 c.count_marks.result)) four in
    c.put_pages.ensures ∙ ap (λ (r : Buffer). with_bytes r (list_bytes page_bytes (marked_from 0 c.args.marks.now c.args.ram.now.bytes))) five
    ∙ keep_spells b c.args.seq c.args.head.now c.args.marks.now c.args.ram.now.bytes c.count_marks.result (marks_of c.args.marks.now c.args.ram.now.dirty c.args.ram.now.bytes c.requires.pages (omega (arith, c.pages.ensures.value, c.pages.ensures.bound)) c.pages.ensures.sizes) c.count_marks.ensures

pub returns-clause-marks : goal.returns-clause-marks
returns-clause-marks c = marks_of c.args.marks.now c.args.ram.now.dirty c.args.ram.now.bytes c.requires.pages (omega (arith, c.pages.ensures.value, c.pages.ensures.bound)) c.pages.ensures.sizes
