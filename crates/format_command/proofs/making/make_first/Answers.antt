use Rattle.std.proofs.Common.{◌≡◌, ◌∙◌, ◌+◌, [], length, ap, sym, arith, rules}
use Rattle.avm_num.specs.Room.{Buffer}
use Rattle.journal_model.specs.Part.{entry}
use Rattle.journal_model.specs.Spelling.{part_bytes}
use Rattle.jrnl_part.specs.First.{boot_frame}
use Rattle.jrnl_store.proofs.NewJournals.{new_left, text_is, ends_before, was_empty}
use Rattle.format_command.proofs.Makings.{cleared, staged_text, written_as, first_made}
use Rattle.format_command.proofs.making.make_first.Goals as goal

pub put_header-requires-clause-room : goal.put_header-requires-clause-room
put_header-requires-clause-room g c = let all = new_left c.in-Ok-new.text c.in-Ok-new.ensures in let few = c.requires.head in omega (arith, all, few)

pub new_start-start-requires-clause-place : goal.new_start-start-requires-clause-place
new_start-start-requires-clause-place g c =
    let size : length c.args.key.now ≡ 56 = search rules in
    let none : c.in-Ok-new.text.bytes ≡ [] = ap (λ (b : Buffer). b.bytes) c.in-Ok-new.ensures in
    let p = c.requires.pages in
    ends_before c.args.key.now c.args.head.now c.args.pages.now c.bytes-2.result.now p.0 size (text_is c.in-Ok-new.text _ _ c.bytes-2.result.now none c.put_header.ensures.value c.bytes-2.ensures) p.1 p.3

pub returns-in-Ok-write_record-clause-makes : goal.returns-in-Ok-write_record-clause-makes
returns-in-Ok-write_record-clause-makes g c =
    let key_size : length c.args.key.now ≡ 56 = search rules in
    let root_size : length c.args.root.now.0 ≡ 32 = search rules in
    let none : c.in-Ok-new.text.bytes ≡ [] = ap (λ (b : Buffer). b.bytes) c.in-Ok-new.ensures in
    let p = c.requires.pages in
    let s = c.new_start-start.ensures in
    let same : c.bytes.result.now ≡ c.bytes-2.result.now = c.bytes.ensures ∙ sym c.bytes-2.ensures in
    let items = part_bytes (entry (boot_frame c.args.root.now.0)) in
    let t = cleared c.clear.new.self c.in-Ok-new.text c.put_header.new.out _ c.in-Ok-new.ensures c.put_header.ensures.value c.clear.ensures in
    let staged = staged_text c.clear.new.self c.put_u32.new.self c.put_boot.new.out c.put_u8.new.self items c.bytes-3.result.now t.0 t.1 c.put_u32.ensures.value c.put_boot.ensures.value c.put_boot.ensures.left c.put_u8.ensures.value c.bytes-3.ensures in
    first_made _ _ _ _ c.args.key.now c.args.head.now c.args.pages.now c.args.root.now.0 c.bytes.result.now p.0 c.new_start-start.result _ _ key_size c.requires.key c.requires.head p.1 p.2 p.3 root_size s.0 s.2 (s.1 ∙ ap (λ l. length l + length c.args.pages.now) (sym same)) (text_is c.in-Ok-new.text _ _ c.bytes.result.now none c.put_header.ensures.value c.bytes.ensures)
    c.in-Ok-eq0.ensures.same (was_empty _ c.in-Ok-eq0.field-0 c.in-Ok-eq0.field-0-test c.in-Ok-eq0.ensures.len) c.in-Ok-write_header.ensures.written (written_as _ _ _ _ c.bytes-3.result.now items staged c.in-Ok-write_record.ensures.written)
