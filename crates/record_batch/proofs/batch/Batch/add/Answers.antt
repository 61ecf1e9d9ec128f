use Rattle.std.proofs.Common.{ℕ, sym, subst, refl, arith}
use Rattle.avm_model.specs.Parts.{IsOrdinal}
use Rattle.log_entry.specs.Views.{content_view}
use Rattle.record_batch.specs.Batch.{BatchData, HasPlace}
use Rattle.record_batch.specs.Spelled.{numbered}
use Rattle.record_batch.proofs.Adding.{Pushed, entry_fits, pushed, room_left, size_is, value_is}
use Rattle.record_batch.proofs.Spells.{entry_long}
use Rattle.record_batch.proofs.batch.Batch.add.Goals as goal

pub put_entry-requires-clause-room : goal.put_entry-requires-clause-room
put_entry-requires-clause-room c =
    room_left c.self.inside.room c.bytes.result.now c.self.inside.next _ c.are_bytes.ensures c.bytes.ensures c.self.invariant (subst (HasPlace _) (sym c.self.view_is) c.requires.place)

pub invariant_of-self : goal.invariant_of-self
invariant_of-self c =
    (pushed c.self.inside.room c.put_entry.new.room c.bytes.result.now _ c.are_bytes.ensures c.bytes.ensures c.self.invariant (entry_fits _ _ (subst (λ (b : BatchData). IsOrdinal b.next) (sym c.self.view_is) c.requires.number) c.requires.fits) c.put_entry.ensures).whole

pub returns-clause-value : goal.returns-clause-value
returns-clause-value c =
    let p : Pushed c.self.inside.room c.put_entry.new.room (numbered c.self.inside.next (content_view c.args.content)) =
    pushed c.self.inside.room c.put_entry.new.room c.bytes.result.now _ c.are_bytes.ensures c.bytes.ensures c.self.invariant (entry_fits _ _ (subst (λ (b : BatchData). IsOrdinal b.next) (sym c.self.view_is) c.requires.number) c.requires.fits) c.put_entry.ensures in
    value_is c.self.inside.room c.put_entry.new.room c.self.inside.next 1 _ (λ (n : ℕ). numbered n (content_view c.args.content)) c.args.self.now (sym c.self.view_is) p refl

pub returns-clause-size : goal.returns-clause-size
returns-clause-size c =
    let p : Pushed c.self.inside.room c.put_entry.new.room (numbered c.self.inside.next (content_view c.args.content)) =
    pushed c.self.inside.room c.put_entry.new.room c.bytes.result.now _ c.are_bytes.ensures c.bytes.ensures c.self.invariant (entry_fits _ _ (subst (λ (b : BatchData). IsOrdinal b.next) (sym c.self.view_is) c.requires.number) c.requires.fits) c.put_entry.ensures in
    size_is c.self.inside.room c.put_entry.new.room c.self.inside.next _ _ _ c.args.self.now (sym c.self.view_is) p (omega (arith, entry_long c.self.inside.next (content_view c.args.content)))
