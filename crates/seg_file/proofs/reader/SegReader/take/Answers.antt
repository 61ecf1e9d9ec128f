use Rattle.seg_file.proofs.Going.{held_settled}
use Rattle.std.proofs.Common.{◌≡◌, true, take, sym, subst, ◌∙◌}
use Rattle.avm_num.specs.Bytes.{IsBytes}
use Rattle.seg_file.specs.Places.{Standing}
use Rattle.seg_file.specs.Filling.{is_live}
use Rattle.seg_file.specs.Reading.{Reading, Took}
use Rattle.seg_file.proofs.Going.{goes_settled, place_settled}
use Rattle.seg_file.proofs.reader.SegReader.take.Goals as goal

pub invariant_of-self : goal.invariant_of-self
invariant_of-self c =
    rw (c.settle-part.ensures.place, c.settle-part.ensures.store)
    (place_settled c.fill-count.result.1 c.self.inside.place c.fill-count.new.store c.self.inside.store.part c.fill-count.ensures.filled c.self.invariant)

pub returns-clause-goes : goal.returns-clause-goes
returns-clause-goes c d st =
    let here : Standing c.self.inside.place c.self.inside.store.part d = subst (λ (r : Reading). Took r d) (sym c.self.view_is) st in
    let live : is_live c.self.inside.place.stage ≡ true = sym c.is_live.ensures ∙ c.if-not-is_live.false in
    rw (c.settle-part.ensures.answer, c.settle-part.ensures.place, c.settle-part.ensures.store)
    (goes_settled c.fill-count.result.1 c.self.inside.place c.fill-count.new.store c.self.inside.store.part (take c.fill-count.result.0 c.args.piece.now) d c.fill-count.ensures.most c.self.invariant.first live (subst IsBytes c.part.ensures c.are_bytes.ensures) c.fill-count.ensures.part c.fill-count.ensures.filled here)

pub returns-clause-held : goal.returns-clause-held
returns-clause-held c =
    rw (c.settle-part.ensures.answer, c.settle-part.ensures.store)
    (held_settled c.fill-count.result.1 c.self.inside.place c.fill-count.new.store c.fill-count.ensures.filled)
