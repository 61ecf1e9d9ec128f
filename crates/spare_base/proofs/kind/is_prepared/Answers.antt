use Rattle.std.proofs.Common.{◌≡◌, ◌-◌, ◌+◌, ℕ, List, IfSome, length, take, drop, subst, arith, rules, Result, Ok, Err, IfOk, IsTrue, ◌↔◌}
use Rattle.std.proofs.lemmas.List.{take_all, length-drop}
use Rattle.spare_base.proofs.SpareKinds.{is_there}
use Rattle.spare_base.proofs.kind.is_prepared.Goals as goal

if_ok_map : {T E : Type 0} → (r : Result T E) (P Q : T → Type 0) → ((x : T) → P x → Q x) → IfOk r P → IfOk r Q
if_ok_map (Ok x) P Q f p = f x p
if_ok_map (Err e) P Q f p = tt

slice : (base : List ℕ) → take (length base - 1) (drop 1 base) ≡ drop 1 base
slice base = take_all _ _ (omega (arith, length-drop 1 base))

pub returns-clause-prepared : goal.returns-clause-prepared
returns-clause-prepared g c =
    let base = c.args.base.now in
    let size : length base ≡ length (drop 1 base) + 1 = (let some = c.requires.some in omega (arith, some, length-drop 1 base)) in
    let there = subst (λ (l : List ℕ). IfSome (g.E.Disk.seen c.args.spare.now) (λ was. IsTrue c.in_ok-stands.field-0 ↔ (take (length l) (drop 1 was) ≡ l))) (slice base) c.in_ok-stands.ensures.there in
    if_ok_map c.is_clear.result _ _ (λ b clear. is_there (g.E.Disk.seen c.args.spare.now) _ (drop 1 base) (length base) c.in_ok-stands.field-0 b c.stands.ensures.same (let some = c.requires.some in omega (arith, some, length-drop 1 base)) size (search rules) c.requires.free there clear) c.is_clear.ensures.clear
