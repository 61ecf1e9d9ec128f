use Rattle.std.proofs.Common.{sym, ◌∙◌, refl}
use Rattle.jrnl_part.specs.Views.{keep_view}
use Rattle.open_keeps.proofs.Searching.{seeks_late, seeks_bad, seeks_good, sizes_same}
use Rattle.open_keeps.proofs.base.Search.keep.Goals as goal

pub returns-then-keep-self-clause-sought : goal.returns-then-keep-self-clause-sought
returns-then-keep-self-clause-sought c = λ ascend.
    seeks_late c.args.self.now _ (keep_view c.args.keep.now) (record { own = refl; first = refl; last = refl; told = refl; ram = c.keep-pages.ensures.bytes ascend; keeps = refl }) refl c.if-keep-self.true

pub returns-then-not-good-clause-sought : goal.returns-then-not-good-clause-sought
returns-then-not-good-clause-sought c = λ ascend.
    seeks_bad c.args.self.now _ (keep_view c.args.keep.now) (record { own = refl; first = refl; last = refl; told = refl; ram = c.keep-pages.ensures.bytes ascend; keeps = refl }) refl
    (sym (c.in_ok-good.ensures.value c.keep-pages.new.self.ram.bytes c.keep-pages.ensures.root (sizes_same _ _ c.keep-pages.new.self.ram.dirty c.args.self.now.own.dirty c.pages.ensures.sizes.size c.bounds.ensures.ram.size (c.keep-pages.ensures.count ∙ c.args.self.now.pages))) ∙ c.if-not-good.true)

pub returns-clause-sought : goal.returns-clause-sought
returns-clause-sought c = λ ascend.
    seeks_good c.args.self.now _ (keep_view c.args.keep.now) (record { own = refl; first = refl; last = refl; told = refl; ram = c.keep-pages.ensures.bytes ascend; keeps = refl }) c.take.ensures.head c.take.ensures.pages c.take.ensures.keeps c.if-keep-self.false
    (sym (c.in_ok-good.ensures.value c.keep-pages.new.self.ram.bytes c.keep-pages.ensures.root (sizes_same _ _ c.keep-pages.new.self.ram.dirty c.args.self.now.own.dirty c.pages.ensures.sizes.size c.bounds.ensures.ram.size (c.keep-pages.ensures.count ∙ c.args.self.now.pages))) ∙ c.if-not-good.false)
