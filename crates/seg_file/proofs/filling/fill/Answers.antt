use Rattle.std.proofs.Common.{◌≡◌, ◌<◌, ◌++◌, length, take, Option, None, Some, sym, ap, subst, ◌∙◌, arith}
use Rattle.std.proofs.lemmas.List.{take_rest}
use Rattle.avm_num.specs.Sizes.{IsShort}
use Rattle.seg_file.specs.Places.{part_size}
use Rattle.seg_file.proofs.Fills.{unsized, grows_size, first_fits, both_fills, least_longest}
use Rattle.seg_file.proofs.filling.fill.Goals as goal

-- the size after both calls is that after the first
size_is : (c : goal.Else-part-size) → part_size c.args.stage c.fill-more.new.self.part ≡ Some c.in-Some.size
size_is c =
    let here : part_size c.args.stage c.fill-first.new.self.part ≡ Some c.in-Some.size = ap (part_size c.args.stage) (sym c.part.ensures) ∙ sym c.size_of.ensures ∙ c.in-Some.is in
    ap (part_size c.args.stage) c.fill-more.ensures.part ∙ grows_size c.args.stage c.fill-first.new.self.part _ c.in-Some.size here

pub returns-in_default-clause-all : goal.returns-in_default-clause-all
returns-in_default-clause-all c _ =
    let lt = unsized c.args.stage c.part.result.now c.requires.live (sym c.size_of.ensures ∙ c.in_default.is) in
    let l = ap length c.part.ensures in
    let least = c.least_of.ensures in
    c.fill-first.ensures.all (omega (arith, lt, l, least))

pub returns-then-part-size-clause-filled : goal.returns-then-part-size-clause-filled
returns-then-part-size-clause-filled c =
    let here : part_size c.args.stage c.fill-first.new.self.part ≡ Some c.in-Some.size = ap (part_size c.args.stage) (sym c.part.ensures) ∙ sym c.size_of.ensures ∙ c.in-Some.is in
    let size : part_size c.args.stage c.fill-more.new.self.part ≡ Some c.in-Some.size = ap (part_size c.args.stage) c.fill-more.ensures.part ∙ grows_size c.args.stage c.fill-first.new.self.part _ c.in-Some.size here in
    let l = ap length c.part-2.ensures in
    let lt = c.if-part-size.true in
    let short : length c.fill-more.new.self.part < c.in-Some.size = omega (arith, l, lt) in
    let most = c.if-size-longest_of.false in
    let longest_is = c.longest_of.ensures in
    (subst (λ (o : Option _). IsShort o c.fill-more.new.self.part) (sym size) short, omega (arith, short, most, longest_is))

pub returns-clause-part : goal.returns-clause-part
returns-clause-part c =
    both_fills c.args.store.now.part c.fill-first.new.self.part c.fill-more.new.self.part c.args.piece.now c.fill-first.result c.fill-more.result c.fill-first.ensures.part
    (c.fill-more.ensures.part ∙ ap (λ t. c.fill-first.new.self.part ++ take c.fill-more.result t) (take_rest c.args.piece.now c.fill-first.result))

pub returns-clause-filled : goal.returns-clause-filled
returns-clause-filled c =
    let here : part_size c.args.stage c.fill-first.new.self.part ≡ Some c.in-Some.size = ap (part_size c.args.stage) (sym c.part.ensures) ∙ sym c.size_of.ensures ∙ c.in-Some.is in
    let least = c.least_of.ensures in
    let first = first_fits c.args.stage c.args.store.now.part c.fill-first.new.self.part c.args.piece.now c.fill-first.result c.in-Some.size c.requires.short c.fill-first.ensures.part (λ le. let u = c.fill-first.ensures.upto (omega (arith, le, least)) in omega (arith, u, least)) (λ le. c.fill-first.ensures.over (omega (arith, le, least))) here in
    let upto = c.fill-more.ensures.upto first in
    let l = ap length c.part-2.ensures in
    let ge = c.if-part-size.false in
    let longest_is = c.longest_of.ensures in
    let most = c.if-size-longest_of.false in
    let whole : c.in-Some.size ≡ length c.fill-more.new.self.part = omega (arith, upto, l, ge) in
    (size_is c ∙ ap (λ n. Some n) whole, omega (arith, upto, longest_is, most))

pub returns-in_default-clause-filled : goal.returns-in_default-clause-filled
returns-in_default-clause-filled c =
    let none : part_size c.args.stage c.part.result.now ≡ None = sym c.size_of.ensures ∙ c.in_default.is in
    let here : part_size c.args.stage c.fill-first.new.self.part ≡ None = ap (part_size c.args.stage) (sym c.part.ensures) ∙ none in
    let lt = unsized c.args.stage c.part.result.now c.requires.live none in
    let l = ap length c.part.ensures in
    let le = least_longest c.args.stage in
    (subst (λ (o : Option _). IsShort o c.fill-first.new.self.part) (sym here) tt, omega (arith, lt, l, le))
