-- What a test of a batch tells.
use Rattle.std.proofs.Common.{◌≡◌, ◌+◌, ◌≤◌, ◌&&◌, nat_le, ℕ, List, length, Option, None, Some, sym, ◌∙◌, ap, leb-true, arith, subst, Bool, true, option_map, is_some}
use Rattle.std.specs.Bool.{OnTrue}
use Rattle.jrnl_part.specs.Views.{standing_view}
use Rattle.jrnl_part.specs.declared.standing.Standing.{Standing}
use Rattle.avm_num.specs.Walk.{all_at, is_nil, items_of, behind_of}
use Rattle.avm_num.proofs.Numbers.{bind_some, kept_some, and_true}
use Rattle.journal_model.specs.Part.{Part, part_at, parts_of, signing}
use Rattle.journal_model.specs.Journal.{follows, longest_record}
use Rattle.journal_model.specs.Standing.{StandingData, Bounds, continued}
use Rattle.jrnl_store.specs.Kept.{Kept}
use Rattle.jrnl_store.specs.Own.{IsBatch}

pub is_batch : (k : Kept) (b : Bounds) (s r : StandingData) (items : List ℕ) → b.first ≡ k.bounds.first → b.pages ≡ k.bounds.pages → b.most ≡ 1 → s.next ≡ k.standing.next → s.used ≡ 0 → 1 ≤ length items → length items ≤ longest_record → continued b s items ≡ Some r → IsBatch k items
unfolding continued
is_batch k b s r items first pages most next used some few e =
    let a = bind_some (all_at part_at items) _ r e in
    let w = kept_some (is_nil (behind_of part_at items)) (items_of part_at items) a.0 a.1 in
    let f = kept_some (follows b.first b.pages s.next None a.0 && nat_le (s.used + signing a.0) b.most) _ r a.2 in
    let t = and_true (follows b.first b.pages s.next None a.0) (nat_le (s.used + signing a.0) b.most) f.0 in
    let le = leb-true (s.used + signing a.0) b.most t.1 in
    let one : signing a.0 ≤ 1 = omega (arith, le, most, used) in
    record {
      some = some;
      few = few;
      whole = a.1 ∙ ap Some (sym w.1);
      follows = rw (w.1, sym first, sym pages, sym next) t.0;
      one = rw w.1 one;
    }

pub batch_told : (k : Kept) (b : Bounds) (s : StandingData) (items : List ℕ) (o : Option Standing) (r : Bool) → r ≡ is_some o → option_map standing_view o ≡ continued b s items → b.first ≡ k.bounds.first → b.pages ≡ k.bounds.pages → b.most ≡ 1 → s.next ≡ k.standing.next → s.used ≡ 0
    → 1 ≤ length items → length items ≤ longest_record → OnTrue r (IsBatch k items)
batch_told k b s items None r is e first pages most next used some few = subst (λ (t : Bool). OnTrue t (IsBatch k items)) (sym is) tt
batch_told k b s items (Some x) r is e first pages most next used some few = subst (λ (t : Bool). OnTrue t (IsBatch k items)) (sym is) (is_batch k b s (standing_view x) items first pages most next used some few (sym e))
