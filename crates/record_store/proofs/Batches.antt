-- A batch as what a commit takes, and the ticket that it gives.
use Rattle.std.proofs.Common.{◌≡◌, ℕ, zero, suc, ◌+◌, ◌≤◌, Bool, true, false, cond, List, [], ◌∷◌, length, Some, fold, refl, sym, ap, ◌∙◌, arith, eq-eqb, ne_eqb, length-append}
use Rattle.std.proofs.lemmas.List.Sums.{sum_by-append}
use Rattle.avm_model.specs.Basics.{flag}
use Rattle.avm_num.specs.Walk.{all_at, behind_of, is_nil}
use Rattle.avm_num.proofs.Numbers.{kept_some}
use Rattle.journal_model.proofs.Judging.{used_fold}
use Rattle.journal_model.specs.Journal.{longest_record}
use Rattle.journal_model.specs.Part.{Part, entry, seal, keep, is_signed_kind, part_at, parts_of, signing, signs}
use Rattle.journal_model.specs.Spelling.{part_bytes, parts_bytes}
use Rattle.journal_model.specs.Standing.{StandingData, behind, signed_from}
use Rattle.jrnl_store.specs.Kept.{Kept, ticket_between}
use Rattle.jrnl_store.specs.Own.{IsBatch}
use Rattle.record_batch.proofs.Spells.{part_some}
use Rattle.record_batch.specs.Batch.{BatchData, batch_size}
use Rattle.record_model.specs.Recording.{is_none}
use Rattle.record_parts.specs.Outs.{first_of}
use Rattle.record_store.specs.Open.{IsOpen}

-- ---- what a commit takes

pub record IsSpelled (items : List ℕ) (b : BatchData) : Type 0 where
  pub parts : parts_of items ≡ b.parts
  pub size : length items ≡ batch_size b

pub spelled : (items : List ℕ) (b : BatchData) → all_at part_at items ≡ Some b.parts → length items ≡ batch_size b → IsSpelled items b
spelled items b whole size = record { parts = (kept_some (is_nil (behind_of part_at items)) (parts_of items) b.parts whole).1; size = size }

some_size : (b : BatchData) → is_none b.parts ≡ false → 1 ≤ batch_size b
unfolding batch_size
some_size b e = go b.parts e
  where
    go : (ps : List Part) → is_none ps ≡ false → 1 ≤ length (parts_bytes ps)
    go [] h = absurd cc
    go (p ∷ ps) h = omega (arith, part_some p, length-append (part_bytes p) (parts_bytes ps))

pub is_batch : (k : Kept) (b : BatchData) (items : List ℕ) → all_at part_at items ≡ Some b.parts → length items ≡ batch_size b → IsOpen k b → is_none b.parts ≡ false → signing b.parts ≤ 1 → batch_size b ≤ longest_record → IsBatch k items
is_batch k b items whole size o some one few =
    let s = spelled items b whole size in
    record {
      some = omega (arith, size, some_size b some);
      few = omega (arith, size, few);
      whole = whole ∙ ap Some (sym s.parts);
      follows = rw s.parts o.goes;
      one = rw s.parts one;
    }

-- ---- its ticket

signing_cons : (p : Part) (ps : List Part) → signing (p ∷ ps) ≡ flag (signs p) + signing ps
unfolding signing
signing_cons p ps = let e = sum_by-append (λ x. cond (signs x) 1 0) (p ∷ []) ps in omega (arith, e)

-- nothing signs
none_signs : (s : StandingData) (b : List Part) → signing b ≡ 0 → (signed_from s b ≡ []) × ((fold behind s b).signed ≡ s.signed)
none_signs s [] e = (refl, refl)
none_signs s (entry f ∷ b) e = go (is_signed_kind f.kind) refl (λ h. none_signs (behind s (entry f)) b h)
  where
    go : (t : Bool) → is_signed_kind f.kind ≡ t → (signing b ≡ 0 → (signed_from (behind s (entry f)) b ≡ []) × ((fold behind (behind s (entry f)) b).signed ≡ (behind s (entry f)).signed)) → (signed_from s (entry f ∷ b) ≡ []) × ((fold behind (behind s (entry f)) b).signed ≡ s.signed)
    go true is more = absurd (let one : flag (signs (entry f)) ≡ 1 = rw is refl in omega (arith, e, signing_cons (entry f) b, one))
    go false is more =
        let no : flag (signs (entry f)) ≡ 0 = rw is refl in
        let ih = more (omega (arith, e, signing_cons (entry f) b, no)) in
        (rw is (rw is at ih.0), ih.1 ∙ rw is refl)
none_signs s (seal ∷ b) e = absurd (omega (arith, e, signing_cons seal b))
none_signs s (keep k ∷ b) e = none_signs s b (omega (arith, e, signing_cons (keep k) b))

nothing_signs : signing [] ≡ 1 → ⊥
unfolding signing
nothing_signs e = omega (arith, e)

one_signs : (s : StandingData) (b : List Part) → signing b ≡ 1 → (fold behind s b).signed ≡ first_of (signed_from s b)
one_signs s [] e = absurd (nothing_signs e)
one_signs s (entry f ∷ b) e = go (is_signed_kind f.kind) refl (λ h. one_signs (behind s (entry f)) b h)
  where
    go : (t : Bool) → is_signed_kind f.kind ≡ t → (signing b ≡ 1 → (fold behind (behind s (entry f)) b).signed ≡ first_of (signed_from (behind s (entry f)) b)) → (fold behind (behind s (entry f)) b).signed ≡ first_of (signed_from s (entry f ∷ b))
    go true is more =
        let one : flag (signs (entry f)) ≡ 1 = rw is refl in
        let ih = none_signs (behind s (entry f)) b (omega (arith, e, signing_cons (entry f) b, one)) in
        ih.1 ∙ rw is refl
    go false is more =
        let no : flag (signs (entry f)) ≡ 0 = rw is refl in
        let ih = more (omega (arith, e, signing_cons (entry f) b, no)) in
        rw is (rw is at ih)
one_signs s (seal ∷ b) e = (none_signs (behind s seal) b (omega (arith, e, signing_cons seal b))).1
one_signs s (keep k ∷ b) e = one_signs s b (omega (arith, e, signing_cons (keep k) b))

-- a ticket of a batch is of the first item that signs
pub ticket_first : (s : StandingData) (b : List Part) → signing b ≤ 1 → ticket_between s (fold behind s b) ≡ first_of (signed_from s b)
ticket_first s b le = go (signing b) refl
  where
    go : (n : ℕ) → signing b ≡ n → ticket_between s (fold behind s b) ≡ first_of (signed_from s b)
    go zero e =
        let same : (fold behind s b).used ≡ s.used = used_fold s b ∙ omega (arith, e) in
        rw (eq-eqb (fold behind s b).used s.used same, (none_signs s b e).0) refl
    go (suc n) e =
        let other : (fold behind s b).used ≡ s.used → ⊥ = λ q. omega (arith, used_fold s b, e, q) in
        rw (ne_eqb (fold behind s b).used s.used other) (one_signs s b (omega (arith, e, le)))
