use Rattle.std.proofs.Common.{sym, ap, subst, ◌∙◌}
use Rattle.avm_num.specs.Bytes.{IsBytes}
use Rattle.seg_file.specs.Places.{Standing}
use Rattle.seg_file.specs.Filling.{whole_at}
use Rattle.seg_file.specs.Reading.{Reading, Took}
use Rattle.seg_file.proofs.Ending.{whole_is, read_is}
use Rattle.seg_file.proofs.reader.SegReader.whole.Goals as goal

pub returns-clause-exact : goal.returns-clause-exact
returns-clause-exact c d st =
    let here : Standing c.self.inside.place c.self.inside.store.part d = subst (λ (r : Reading). Took r d) (sym c.self.view_is) st in
    c.ends.ensures ∙ ap (whole_at c.self.inside.place) c.part-2.ensures
    ∙ whole_is c.self.inside.place c.self.inside.store.part d (subst IsBytes c.part.ensures c.are_bytes.ensures) here

pub returns-clause-parts : goal.returns-clause-parts
returns-clause-parts c e d st =
    let here : Standing c.self.inside.place c.self.inside.store.part d = subst (λ (r : Reading). Took r d) (sym c.self.view_is) st in
    read_is c.self.inside.place c.self.inside.store.part d (sym (c.ends.ensures ∙ ap (whole_at c.self.inside.place) c.part-2.ensures) ∙ e) here
