use Rattle.std.proofs.Common.{true, false, refl, ap, subst}
use Rattle.jrnl_store.specs.Items.{item_view}
use Rattle.log_entry.specs.Views.{frame_view}
use Rattle.rebut_pass.specs.Items.{HasForm, frame_in}
use Rattle.journal_export.specs.Writing.{writing}
use Rattle.journal_export.proofs.Wrote.{adds_none, ok_map, short_content, writes_entry}
use Rattle.journal_export.proofs.writing.write_item.Goals as goal

pub put_entry-requires : goal.put_entry-requires
put_entry-requires g c = short_content c.in-Entry.frame.kind c.in-Entry.frame.content.now c.are_bytes.ensures (subst HasForm (ap item_view c.in-Entry.is) c.requires.form)

pub returns-then-takes-clause-writes : goal.returns-then-takes-clause-writes
returns-then-takes-clause-writes g c =
    ok_map c.put_entry.result _ _ (λ adds. writes_entry (writing c.args.cut.now c.args.draft.now.room.bytes (g.F.Files.file c.args.files.now c.args.name.now)) (writing c.takes.new.self c.put_entry.new.self.room.bytes (g.F.Files.file c.put_entry.new.files c.args.name.now)) (item_view c.args.item.now) (frame_view c.in-Entry.frame) true
    (ap (λ i. frame_in (item_view i)) c.in-Entry.is) (c.if-takes.ensures (frame_view c.in-Entry.frame) refl) adds) c.put_entry.ensures.adds

pub returns-else-takes-clause-writes : goal.returns-else-takes-clause-writes
returns-else-takes-clause-writes g c =
    writes_entry (writing c.args.cut.now c.args.draft.now.room.bytes (g.F.Files.file c.args.files.now c.args.name.now)) (writing c.takes.new.self c.args.draft.now.room.bytes (g.F.Files.file c.args.files.now c.args.name.now)) (item_view c.args.item.now) (frame_view c.in-Entry.frame) false
    (ap (λ i. frame_in (item_view i)) c.in-Entry.is) (c.if-takes.ensures (frame_view c.in-Entry.frame) refl) (adds_none _ _)
