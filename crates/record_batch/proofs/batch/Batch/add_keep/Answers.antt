use Rattle.std.proofs.Common.{ℕ, ◌-◌, sym, subst, arith}
use Rattle.avm_model.specs.Parts.{IsOrdinal}
use Rattle.journal_model.specs.Part.{Part, keep}
use Rattle.record_batch.specs.Batch.{BatchData, HasPlace}
use Rattle.record_batch.specs.Keeping.{keep_of}
use Rattle.record_batch.proofs.Adding.{Pushed, pushed, room_left, size_is, value_is}
use Rattle.record_batch.proofs.Pages.{keep_fits, keep_long}
use Rattle.record_batch.proofs.batch.Batch.add_keep.Goals as goal

pub put_keep-requires-clause-room : goal.put_keep-requires-clause-room
put_keep-requires-clause-room c =
    room_left c.self.inside.room c.bytes.result.now c.self.inside.next _ c.are_bytes.ensures c.bytes.ensures c.self.invariant (subst (HasPlace _) (sym c.self.view_is) c.requires.place)

pub invariant_of-self : goal.invariant_of-self
invariant_of-self c =
    (pushed c.self.inside.room c.put_keep.new.room c.bytes.result.now (keep _) c.are_bytes.ensures c.bytes.ensures c.self.invariant (keep_fits _ _ _ _ c.put_keep.ensures.marks (let n = subst (λ (b : BatchData). IsOrdinal (b.next - 1)) (sym c.self.view_is) c.requires.number in omega (arith, n.below)) c.requires.head) c.put_keep.ensures.value).whole

pub returns-clause-value : goal.returns-clause-value
returns-clause-value c =
    let f : ℕ → Part = λ (n : ℕ). keep (keep_of (n - 1) c.args.head.now c.args.marks.now c.args.ram.now.bytes) in
    let p : Pushed c.self.inside.room c.put_keep.new.room (f c.self.inside.next) =
    pushed c.self.inside.room c.put_keep.new.room c.bytes.result.now (f c.self.inside.next) c.are_bytes.ensures c.bytes.ensures c.self.invariant (keep_fits _ _ _ _ c.put_keep.ensures.marks (let n = subst (λ (b : BatchData). IsOrdinal (b.next - 1)) (sym c.self.view_is) c.requires.number in omega (arith, n.below)) c.requires.head) c.put_keep.ensures.value in
    value_is c.self.inside.room c.put_keep.new.room c.self.inside.next 0 _ f c.args.self.now (sym c.self.view_is) p (omega arith)

pub returns-clause-size : goal.returns-clause-size
returns-clause-size c =
    let f : ℕ → Part = λ (n : ℕ). keep (keep_of (n - 1) c.args.head.now c.args.marks.now c.args.ram.now.bytes) in
    let p : Pushed c.self.inside.room c.put_keep.new.room (f c.self.inside.next) =
    pushed c.self.inside.room c.put_keep.new.room c.bytes.result.now (f c.self.inside.next) c.are_bytes.ensures c.bytes.ensures c.self.invariant (keep_fits _ _ _ _ c.put_keep.ensures.marks (let n = subst (λ (b : BatchData). IsOrdinal (b.next - 1)) (sym c.self.view_is) c.requires.number in omega (arith, n.below)) c.requires.head) c.put_keep.ensures.value in
    size_is c.self.inside.room c.put_keep.new.room c.self.inside.next _ _ (f c.self.inside.next) c.args.self.now (sym c.self.view_is) p (keep_long (c.self.inside.next - 1) c.args.head.now c.args.marks.now c.args.ram.now.bytes c.put_keep.ensures.marks)
