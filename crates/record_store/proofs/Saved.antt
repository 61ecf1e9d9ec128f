-- What a commit leaves, as what saving leaves.
use Rattle.std.proofs.Common.{◌≡◌, ℕ, ◌+◌, List, [], length, Option, Some, None, IfSome, Ok, fold, refl, sym, ap, subst, ◌∙◌, arith}
use Rattle.avm_num.proofs.Numbers.{kept_some}
use Rattle.avm_outside.specs.Moments.{LeavesOnly}
use Rattle.avm_outside.specs.Outside.{BothTold}
use Rattle.journal_model.proofs.Judging.{next_fold}
use Rattle.journal_model.specs.Journal.{JournalData, follows, with_record}
use Rattle.journal_model.specs.Part.{Part, frames_in, parts_of}
use Rattle.journal_model.specs.Saving.{CommitRefusal, NoLeaf, NoRoom, commit_refusal}
use Rattle.journal_model.specs.Standing.{StandingData, behind, continued, judged}
use Rattle.jrnl_store.specs.Kept.{Kept}
use Rattle.jrnl_store.specs.Own.{Answers, IsBatch, IsOwn, StandsForEither}
use Rattle.record_batch.specs.Batch.{BatchData}
use Rattle.record_parts.specs.Ends.{SavedAs}
use Rattle.record_store.proofs.Batches.{IsSpelled}
use Rattle.record_store.specs.Open.{IsOpen, IsSame}
use Rattle.record_store.specs.Saving.{Holds, StandsWith}

-- where the journal stands behind a batch
pub stands_behind : (k n : Kept) (b : BatchData) (items : List ℕ) → IsBatch k items → parts_of items ≡ b.parts → continued k.bounds k.standing items ≡ Some n.standing → n.standing ≡ fold behind k.standing b.parts
unfolding continued
stands_behind k n b items is same e =
    let whole : judged k.bounds k.standing None (parts_of items) ≡ Some n.standing = rw is.whole at e in
    sym (kept_some _ (fold behind k.standing (parts_of items)) n.standing whole).1 ∙ ap (fold behind k.standing) same

-- ---- where it is saved

abbrev pub grown : Kept → List ℕ → StandingData → Kept
grown k items s = record k { gate = k.gate + 5 + length items; standing = s }

pub open_saved : (k n : Kept) (b c : BatchData) (items : List ℕ) → IsOpen k b → n ≡ grown k items n.standing → n.standing ≡ fold behind k.standing b.parts → c ≡ record b { parts = [] } → IsOpen n c
open_saved k n b c items o is s e = record {
  run = ap (λ (x : Kept). x.stop) is ∙ o.run;
  mark = ap (λ (x : Kept). x.mark) is ∙ o.mark;
  begun = let f : n.bounds.first ≡ k.bounds.first = ap (λ (x : Kept). x.bounds.first) is in let t : n.standing.next ≡ k.standing.next + length (frames_in b.parts) = ap (λ (x : StandingData). x.next) s ∙ next_fold k.standing b.parts in let l = o.begun in omega (arith, f, t, l);
  goes = ap (λ (x : BatchData). follows n.bounds.first n.bounds.pages n.standing.next None x.parts) e;
  next = ap (λ (x : BatchData). x.next) e ∙ o.next ∙ ap (λ (x : StandingData). x.next) (sym s) ∙ ap (λ (x : BatchData). (fold behind n.standing x.parts).next) (sym e);
}

pub same_saved : (k n : Kept) (items : List ℕ) → n ≡ grown k items n.standing → IsSame k n
same_saved k n items is = record { key = ap (λ (x : Kept). x.key) is; bounds = ap (λ (x : Kept). x.bounds) is; mark = ap (λ (x : Kept). x.mark) is }

not_refused : {T : Type 0} (w : Option CommitRefusal) (t : T) → Answers w (Ok t) → w ≡ None
not_refused None t h = refl
not_refused (Some NoLeaf) t h = absurd cc
not_refused (Some NoRoom) t h = absurd cc

pub told_moments : {D : Type 0} (moment : D → ℕ) (left_since : D → ℕ → List ℕ → Type 0) (old new : D) (j : JournalData) (items : List ℕ) (b : List Part) → parts_of items ≡ b → LeavesOnly moment left_since old new (StandsForEither j items) → LeavesOnly moment left_since old new (StandsWith j b)
told_moments moment left_since old new j items b e h = subst (λ (ps : List Part). LeavesOnly moment left_since old new (StandsWith j ps)) e h

module _ {D : Type 0} (moment : D → ℕ) (left_since : D → ℕ → List ℕ → Type 0) (seen : D → Option (List ℕ)) (images : D → List ℕ → Type 0) (old new : D) (k n : Kept) (b c : BatchData) (items : List ℕ) (fits : IsSpelled items b) (run : k.stop ≡ None) where
  pub saved_told : {T : Type 0} (t : T) (d0 d1 : ℕ) → c.parts ≡ []
      → (told now : Option (List ℕ))
      → IfSome told (λ was. (j : JournalData) → IsOwn k (images old) was j → k.stop ≡ None → Answers {T = T} (commit_refusal j (parts_of items)) (Ok t))
      → BothTold told now (λ was now. (j : JournalData) → IsOwn k (images old) was j → IsOwn n (images new) now (with_record j (parts_of items)))
      → IfSome told (λ was. (j : JournalData) → IsOwn k (images old) was j → k.stop ≡ None → LeavesOnly moment left_since old new (StandsForEither j items))
      → BothTold told now (λ was now. (j : JournalData) → IsOwn k (images old) was j → Holds moment left_since old new n (images new) now j (with_record j b.parts) b.parts × ((x y : ℕ) → SavedAs {T = T} j b.parts (with_record j b.parts) c.parts (record { disk_before = d0; disk_after = d1; outlet_before = x; outlet_after = y }) (Ok t)))
  saved_told {T} t d0 d1 empty None None answers own moments = tt
  saved_told {T} t d0 d1 empty None (Some now) answers own moments = own
  saved_told {T} t d0 d1 empty (Some was) None answers own moments = own
  saved_told {T} t d0 d1 empty (Some was) (Some now) answers own moments = λ j o. (
    record {
      own = subst (λ (ps : List Part). IsOwn n (images new) now (with_record j ps)) fits.parts (own j o);
      moments = told_moments moment left_since old new j items b.parts fits.parts (moments j o run);
    },
    λ x y. (ap (commit_refusal j) (sym fits.parts) ∙ not_refused (commit_refusal j (parts_of items)) t (answers j o run), refl, empty),
  )
