use Rattle.std.proofs.Common.{◌≡◌, ◌∙◌, ◌+◌, [], length, ap, sym, arith, rules}
use Rattle.avm_num.specs.Room.{Buffer}
use Rattle.jrnl_part.specs.Views.{standing_view}
use Rattle.jrnl_store.specs.Kept.{kept}
use Rattle.jrnl_store.proofs.NewJournals.{new_left, text_is, ends_before, was_empty, begin_fits, made_told}
use Rattle.jrnl_store.proofs.journal.Journal.make.Goals as goal

pub put_header-requires-clause-room : goal.put_header-requires-clause-room
put_header-requires-clause-room g c = let all = new_left c.in-Ok-new.text c.in-Ok-new.ensures in let few = c.requires.head in omega (arith, all, few)

pub new_start-start-requires-clause-place : goal.new_start-start-requires-clause-place
new_start-start-requires-clause-place g c =
    let size : length c.args.key.now ≡ 56 = search rules in
    let none : c.in-Ok-new.text.bytes ≡ [] = ap (λ (b : Buffer). b.bytes) c.in-Ok-new.ensures in
    let p = c.requires.pages in
    ends_before c.args.key.now c.args.head.now c.args.pages.now c.bytes-2.result.now p.0 size (text_is c.in-Ok-new.text _ _ c.bytes-2.result.now none c.put_header.ensures.value c.bytes-2.ensures) p.1 p.3

pub begin-requires-clause-fits : goal.begin-requires-clause-fits
begin-requires-clause-fits g c =
    let size : length c.args.root.now.0 ≡ 32 = search rules in
    let none : c.clear.new.self.bytes ≡ [] = ap (λ (b : Buffer). b.bytes) c.clear.ensures in
    let s = c.new_start-start.ensures in
    begin_fits (kept c.begun-journal.result) c.new_start-start.result c.args.key.now c.args.head.now c.args.pages.now c.args.root.now.0 c.bytes-3.result.now c.begun-journal.ensures s.0 s.2.leaves size
    (text_is c.clear.new.self _ _ c.bytes-3.result.now none c.put_boot.ensures.value c.bytes-3.ensures)

pub returns-in-Ok-begin-clause-made : goal.returns-in-Ok-begin-clause-made
returns-in-Ok-begin-clause-made g c =
    let key_size : length c.args.key.now ≡ 56 = search rules in
    let root_size : length c.args.root.now.0 ≡ 32 = search rules in
    let first : c.in-Ok-new.text.bytes ≡ [] = ap (λ (b : Buffer). b.bytes) c.in-Ok-new.ensures in
    let second : c.clear.new.self.bytes ≡ [] = ap (λ (b : Buffer). b.bytes) c.clear.ensures in
    let p = c.requires.pages in
    let s = c.new_start-start.ensures in
    let same : c.bytes.result.now ≡ c.bytes-2.result.now = c.bytes.ensures ∙ sym c.bytes-2.ensures in
    made_told _ _ _ _ c.args.key.now c.args.head.now c.args.pages.now c.args.root.now.0 c.bytes.result.now c.bytes-3.result.now p.0 c.new_start-start.result (kept c.begun-journal.result) (kept c.begin.new.self) _ _ (standing_view c.begin.new.self.stand)
    key_size c.requires.key c.requires.head p.1 p.2 p.3 root_size s.0 (s.1 ∙ ap (λ l. length l + length c.args.pages.now) (sym same)) (text_is c.in-Ok-new.text _ _ c.bytes.result.now first c.put_header.ensures.value c.bytes.ensures)
    (text_is c.clear.new.self _ _ c.bytes-3.result.now second c.put_boot.ensures.value c.bytes-3.ensures) c.begun-journal.ensures c.in-Ok-begin.ensures.kept.0 c.in-Ok-begin.ensures.kept.1 c.in-Ok-eq0.ensures.same c.in-Ok-write_header.ensures.written c.in-Ok-begin.ensures.written

pub returns-in-Ok-begin-clause-cause : goal.returns-in-Ok-begin-clause-cause
returns-in-Ok-begin-clause-cause g c = was_empty _ c.in-Ok-eq0.field-0 c.in-Ok-eq0.field-0-test c.in-Ok-eq0.ensures.len
