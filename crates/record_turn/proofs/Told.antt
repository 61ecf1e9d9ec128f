-- What acts leave of a disk that tells its content.
use Rattle.std.proofs.Common.{◌≡◌, ℕ, List, Option, Some, None, arith, inl}
use Rattle.avm_outside.specs.Outside.{BothTold}
use Rattle.journal_model.specs.Journal.{JournalData}
use Rattle.journal_model.specs.Part.{Part}
use Rattle.jrnl_store.specs.Kept.{Kept}
use Rattle.jrnl_store.specs.Own.{IsOwn}
use Rattle.jrnl_store.proofs.Commits.{shut_stands}
use Rattle.record_store.specs.Saving.{Holds}
use Rattle.record_turn.specs.Leaves.{Leaves}

-- for each journal whose own disk it was
abbrev pub Told : {D : Type 0} → (D → ℕ) → (D → ℕ → List ℕ → Type 0) → (D → Option (List ℕ)) → (D → List ℕ → Type 0) → D → D → Kept → Kept → (JournalData → JournalData → List Part → Type 0) → Type 0
Told moment left_since seen images old new k n P = BothTold (seen old) (seen new) (λ was now. (j : JournalData) → IsOwn k (images old) was j → Leaves moment left_since old new n (images new) now j (P j))

module _ {D : Type 0} (moment : D → ℕ) (left_since : D → ℕ → List ℕ → Type 0) (seen : D → Option (List ℕ)) (images : D → List ℕ → Type 0) where
  -- between two calls an image stands for the journal
  holds_still : ((d : D) (c : List ℕ) → left_since d (moment d) c → images d c) → (d : D) (k : Kept) (was : List ℕ) (j : JournalData) (flight : List Part) → k.stop ≡ None → IsOwn k (images d) was j → Holds moment left_since d d k (images d) was j j flight
  holds_still only d k was j flight run o = record {
    own = o;
    moments = record {
      later = omega arith;
      each = λ c left. inl (shut_stands j o.front c o.stands o.begun (o.left_shut run c (only d c left)));
      before = λ t c le left. inl left;
    };
  }

  -- nothing was called on the disk
  pub told_still : ((d : D) (c : List ℕ) → left_since d (moment d) c → images d c) → (d : D) (k : Kept) (P : JournalData → JournalData → List Part → Type 0) → k.stop ≡ None
      → ((j : JournalData) (was : List ℕ) → IsOwn k (images d) was j → (flight : List Part) × P j j flight) → Told moment left_since seen images d d k k P
  told_still only d k P run h = go (seen d)
    where
      go : (told : Option (List ℕ)) → BothTold told told (λ was now. (j : JournalData) → IsOwn k (images d) was j → Leaves moment left_since d d k (images d) now j (P j))
      go None = tt
      go (Some was) = λ j o. let p = h j was o in record { next = j; flight = p.0; holds = holds_still only d k was j p.0 run o; is = p.1 }

  -- what holds of each told journal
  pub told_map : (old new : D) (k n : Kept) (R : List ℕ → JournalData → Type 0) (P : JournalData → JournalData → List Part → Type 0) → BothTold (seen old) (seen new) (λ was now. (j : JournalData) → IsOwn k (images old) was j → R now j)
      → ((j : JournalData) (was now : List ℕ) → IsOwn k (images old) was j → R now j → Leaves moment left_since old new n (images new) now j (P j)) → Told moment left_since seen images old new k n P
  told_map old new k n R P h f = go (seen old) (seen new) h
    where
      go : (a b : Option (List ℕ)) → BothTold a b (λ was now. (j : JournalData) → IsOwn k (images old) was j → R now j) → BothTold a b (λ was now. (j : JournalData) → IsOwn k (images old) was j → Leaves moment left_since old new n (images new) now j (P j))
      go None None h = tt
      go None (Some now) h = h
      go (Some was) None h = h
      go (Some was) (Some now) h = λ j o. f j was now o (h j o)

  -- one thing of what is left makes another
  pub told_as : (old new : D) (k n : Kept) (P Q : JournalData → JournalData → List Part → Type 0) → Told moment left_since seen images old new k n P → ((j : JournalData) (was : List ℕ) → IsOwn k (images old) was j → (next : JournalData) (flight : List Part) → P j next flight → Q j next flight) → Told moment left_since seen images old new k n Q
  told_as old new k n P Q h f = told_map old new k n (λ now j. Leaves moment left_since old new n (images new) now j (P j)) Q h (λ j was now o l. record { next = l.next; flight = l.flight; holds = l.holds; is = f j was o l.next l.flight l.is })
