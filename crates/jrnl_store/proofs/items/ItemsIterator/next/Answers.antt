use Rattle.std.proofs.Common.{◌≡◌, ◌∙◌, ◌-◌, Some, ap, arith}
use Rattle.journal_model.specs.Standing.{SignedData}
use Rattle.jrnl_part.specs.Views.{standing_view, bounds_view, carried_view, signed_view}
use Rattle.jrnl_store.proofs.ItemLaws.{low_behind, whole_behind, none_yields, some_yields, progress, carried_none, carried_next, carried_yields, part_yields, zero_front}
use Rattle.jrnl_store.proofs.items.ItemsIterator.next.Goals as goal

pub unreachable-requires : goal.unreachable-requires
unreachable-requires c = carried_none c.self.inside.bounds.most c.self.inside.count _ c.if-self-gt0.true c.in_default.ensures.0 c.self.inside.fits

pub invariant_of-self-inside : goal.invariant_of-self-inside
invariant_of-self-inside c =
    let some = c.if-self-gt0.true in
    let next = carried_next c.self.inside.bounds.most c.self.inside.count (c.self.inside.count - 1) c.self.inside.carried _ (carried_view c.in-Some.entry) (omega (arith, some)) c.in-Some.ensures c.self.inside.fits in
    (c.self.inside.next, (c.self.inside.used, (c.self.inside.signed, (c.self.inside.most, (c.self.inside.whole, (next.1, tt))))))

pub new-requires : goal.new-requires
new-requires c =
    let some = c.if-self-gt0.true in
    let next = carried_next c.self.inside.bounds.most c.self.inside.count (c.self.inside.count - 1) c.self.inside.carried _ (carried_view c.in-Some.entry) (omega (arith, some)) c.in-Some.ensures c.self.inside.fits in
    let e : c.signed.result.leaf ≡ c.in-Some.entry.leaf = ap (λ (s : SignedData). s.leaf) c.signed.ensures in
    omega (arith, e, next.0, c.self.inside.most)

pub returns-then-self-gt0-clause-steps : goal.returns-then-self-gt0-clause-steps
returns-then-self-gt0-clause-steps c =
    let some = c.if-self-gt0.true in
    rw (← c.self.view_is) (carried_yields c.self.inside.bounds.most c.self.inside.count (c.self.inside.count - 1) c.self.inside.carried _ (carried_view c.in-Some.entry) _ _ (ap signed_view c.new.ensures ∙ c.signed.ensures) (omega (arith, some)) c.in-Some.ensures c.self.inside.fits)

pub returns-then-self-gt0-clause-goes : goal.returns-then-self-gt0-clause-goes
returns-then-self-gt0-clause-goes c =
    let some = c.if-self-gt0.true in
    rw (← c.self.view_is) (progress _ (λ _. tt) _ _ _ (carried_yields c.self.inside.bounds.most c.self.inside.count (c.self.inside.count - 1) c.self.inside.carried _ (carried_view c.in-Some.entry) _ _ (ap signed_view c.new.ensures ∙ c.signed.ensures) (omega (arith, some)) c.in-Some.ensures c.self.inside.fits))

pub returns-in_default-take_part-clause-steps : goal.returns-in_default-take_part-clause-steps
returns-in_default-take_part-clause-steps c =
    let t = c.in_default-take_part.ensures in
    let none = c.if-self-gt0.false in
    let zero : c.self.inside.count ≡ 0 = omega (arith, none) in
    rw (← c.self.view_is) (zero_front _ _ _ zero ∙ none_yields _ _ t.0, rw t.1 (zero_front _ _ _ zero ∙ none_yields _ _ t.0))

pub invariant_of-self-inside-2 : goal.invariant_of-self-inside-2
invariant_of-self-inside-2 c =
    let low = low_behind (bounds_view c.self.inside.bounds) (standing_view c.self.inside.stand) _ c.self.inside.snap c.self.inside.view _ _ c.in-Some-take_part.ensures c.goes_behind.ensures c.self.inside.whole (record { next = c.self.inside.next; used = c.self.inside.used; signed = c.self.inside.signed }) in
    (low.next, (low.used, (low.signed, (c.self.inside.most, (whole_behind (bounds_view c.self.inside.bounds) (standing_view c.self.inside.stand) _ c.self.inside.snap _ c.self.inside.view _ _ c.in-Some-take_part.ensures c.goes_behind.ensures c.snap_in-self-inside.ensures c.self.inside.whole, (c.self.inside.fits, tt))))))

pub returns-clause-steps : goal.returns-clause-steps
returns-clause-steps c =
    let none = c.if-self-gt0.false in
    let zero : c.self.inside.count ≡ 0 = omega (arith, none) in
    rw (← c.self.view_is) (part_yields _ _ zero (some_yields _ _ _ _ _ _ c.in-Some-take_part.ensures c.goes_behind.ensures c.item_of.ensures))

pub returns-clause-goes : goal.returns-clause-goes
returns-clause-goes c =
    let none = c.if-self-gt0.false in
    let zero : c.self.inside.count ≡ 0 = omega (arith, none) in
    rw (← c.self.view_is) (progress _ (λ _. tt) (Some c.item_of.result) _ _ (part_yields _ _ zero (some_yields _ _ _ _ _ _ c.in-Some-take_part.ensures c.goes_behind.ensures c.item_of.ensures)))
