use Rattle.jrnl_store.specs.Kept.{kept}
use Rattle.jrnl_store.proofs.Carriages.{parts_move}
use Rattle.jrnl_store.proofs.journal.Journal.advance.Goals as goal

pub returns-clause-answers : goal.returns-clause-answers
returns-clause-answers g c =
    parts_move _ (kept c.args.self.now) c.args.cursor.now c.next_parts.new.cursor c.next_parts.new.self.buffer.items c.next_parts.result c.if-cursor.false c.next_parts.ensures.carried c.next_parts.ensures.answers
