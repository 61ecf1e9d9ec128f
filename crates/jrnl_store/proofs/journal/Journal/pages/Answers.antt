use Rattle.std.proofs.Common.{◌*◌, ℕ, ap, take, length, arith}
use Rattle.std.proofs.lemmas.List.{length-take-le}
use Rattle.avm_model.specs.Memory.{RamState}
use Rattle.jrnl_store.specs.Kept.{kept}
use Rattle.jrnl_store.proofs.HeaderFields.{pages_told}
use Rattle.jrnl_store.proofs.journal.Journal.pages.Goals as goal

pub put-requires : goal.put-requires
put-requires g c =
    let sizes = c.pages.ensures.sizes in
    let room = c.fill.new.self.room in
    let items = ap length c.deref.ensures.value in
    let count = c.pages.ensures.value in
    let size : ℕ = 4096 * c.pages.result in
    omega (arith, length-take-le size c.deref.result.now (omega (arith, items, room, count, sizes.few)), sizes.size, count)

pub returns-clause-pages : goal.returns-clause-pages
returns-clause-pages g c =
    let sizes = c.pages.ensures.sizes in
    let room = c.fill.new.self.room in
    let items = ap length c.deref.ensures.value in
    let count = c.pages.ensures.value in
    let size : ℕ = 4096 * c.pages.result in
    pages_told _ (kept c.args.self.now) size c.fill.new.self.buffer.items _ c.args.ram.now.bytes _ (omega (arith, count, c.requires.count)) (ap (take size) c.deref.ensures.value)
    (omega (arith, length-take-le size c.deref.result.now (omega (arith, items, room, count, sizes.few)), sizes.size, count)) (ap (λ (r : RamState). r.bytes) c.put.ensures.value) c.in-Ok.ensures.bytes
