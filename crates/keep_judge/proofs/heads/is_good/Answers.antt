use Rattle.std.proofs.Common.{ℕ, ◌*◌, ◌∙◌, length, Option, sym, ap}
use Rattle.std.specs.Prelude.{option_map}
use Rattle.avm_model.specs.HeadState.{data_of}
use Rattle.avm_model.specs.Memory.{RamState}
use Rattle.keep_judge.specs.Good.{told_view}
use Rattle.keep_judge.specs.declared.told.Told.{Told}
use Rattle.keep_judge.proofs.Goodness.{alike, apart, wrong_root, right_root}
use Rattle.keep_judge.proofs.heads.is_good.Goals as goal

pub returns-then-ne-clause-value : goal.returns-then-ne-clause-value
returns-then-ne-clause-value c = λ ram p size.
    wrong_root (data_of c.args.own.now.state) c.args.first c.args.keep.now.seq c.pages-count.result (option_map told_view c.args.told) (told_view c.in-Some.told) ram c.args.keep.now.head.now c.args.pages.now.0
    (ap (λ (o : Option Told). option_map told_view o) c.in-Some.is) c.are_bytes.ensures p (size ∙ sym (ap (λ (r : RamState). length r.bytes) c.ram.ensures) ∙ c.pages-count.ensures.sizes.size ∙ ap (λ (n : ℕ). 4096 * n) (sym c.pages-count.ensures.value)) (sym c.fits.ensures.value ∙ c.if-not-fits.false) (apart c.in-Some.told.root c.root_of.result.0 _ c.ne.result c.ne.ensures c.if-ne.true c.root_of.ensures)

pub returns-clause-value : goal.returns-clause-value
returns-clause-value c = λ ram p size.
    c.is_later.ensures
    ∙ right_root (data_of c.args.own.now.state) (data_of c.in_ok-machine.machine.state) c.args.first c.args.keep.now.seq c.pages-count.result (option_map told_view c.args.told) (told_view c.in-Some.told) ram c.args.keep.now.head.now c.args.pages.now.0
    (ap (λ (o : Option Told). option_map told_view o) c.in-Some.is) c.are_bytes.ensures p (size ∙ sym (ap (λ (r : RamState). length r.bytes) c.ram.ensures) ∙ c.pages-count.ensures.sizes.size ∙ ap (λ (n : ℕ). 4096 * n) (sym c.pages-count.ensures.value)) (sym c.fits.ensures.value ∙ c.if-not-fits.false) c.in_ok-machine.ensures.data (alike c.in-Some.told.root c.root_of.result.0 _ c.ne.result c.ne.ensures c.if-ne.false c.root_of.ensures)
