use Rattle.std.proofs.Common.{◌++◌, ℕ, List, ap, ◌∙◌}
use Rattle.journal_model.specs.Spelling.{header_bytes}
use Rattle.base_write.proofs.Bytes.{base_is}
use Rattle.base_write.proofs.writing.write_base.Goals as goal

pub returns-in-Ok-put_records-clause-bytes : goal.returns-in-Ok-put_records-clause-bytes
returns-in-Ok-put_records-clause-bytes c = λ h rs i r.
    base_is h rs c.put_header.new.out.items c.args.records.now c.put_records.new.out.items (c.in-Ok.ensures h i ∙ ap (λ (l : List ℕ). l ++ header_bytes h) c.new-bytes.ensures.items) r c.in-Ok-put_records.ensures
