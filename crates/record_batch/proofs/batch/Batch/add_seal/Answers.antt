use Rattle.std.proofs.Common.{◌≡◌, ℕ, ◌≤◌, length, sym, subst, arith}
use Rattle.avm_num.specs.Lists.{one}
use Rattle.avm_num.specs.Room.{Buffer, with_bytes}
use Rattle.journal_model.specs.Part.{seal}
use Rattle.journal_model.specs.Spelling.{part_bytes}
use Rattle.record_batch.specs.Batch.{HasPlace}
use Rattle.record_batch.proofs.Adding.{pushed, room_left, size_is, value_is}
use Rattle.record_batch.proofs.batch.Batch.add_seal.Goals as goal

put_seal : (b new : Buffer) → new ≡ with_bytes b (one 2) → new ≡ with_bytes b (part_bytes seal)
unfolding part_bytes one
put_seal b new e = e

seal_size : length (part_bytes seal) ≤ 1
unfolding part_bytes
seal_size = omega arith

pub put_u8-requires : goal.put_u8-requires
put_u8-requires c =
    room_left c.self.inside.room c.bytes.result.now c.self.inside.next _ c.are_bytes.ensures c.bytes.ensures c.self.invariant (subst (HasPlace _) (sym c.self.view_is) c.requires.place)

pub invariant_of-self : goal.invariant_of-self
invariant_of-self c =
    (pushed c.self.inside.room c.put_u8.new.self c.bytes.result.now seal c.are_bytes.ensures c.bytes.ensures c.self.invariant tt (put_seal _ _ c.put_u8.ensures.value)).whole

pub returns-clause-value : goal.returns-clause-value
returns-clause-value c =
    let p = pushed c.self.inside.room c.put_u8.new.self c.bytes.result.now seal c.are_bytes.ensures c.bytes.ensures c.self.invariant tt (put_seal _ _ c.put_u8.ensures.value) in
    value_is c.self.inside.room c.put_u8.new.self c.self.inside.next 0 _ (λ (n : ℕ). seal) c.args.self.now (sym c.self.view_is) p (omega arith)

pub returns-clause-size : goal.returns-clause-size
returns-clause-size c =
    let p = pushed c.self.inside.room c.put_u8.new.self c.bytes.result.now seal c.are_bytes.ensures c.bytes.ensures c.self.invariant tt (put_seal _ _ c.put_u8.ensures.value) in
    size_is c.self.inside.room c.put_u8.new.self c.self.inside.next _ _ seal c.args.self.now (sym c.self.view_is) p seal_size
