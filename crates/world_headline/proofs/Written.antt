-- What is known of the journal of a disk.
use Rattle.std.proofs.Common.{◌≡◌, ◌<◌, ℕ, zero, suc, List, [], ◌∷◌, ◌++◌, refl, subst, arith}
use Rattle.avm_num.proofs.Lengths.{bytes_append, front_bytes_are}
use Rattle.avm_num.specs.Bytes.{IsBytes}
use Rattle.avm_outside.specs.Moments.{IsShut}
use Rattle.journal_model.specs.Fits.{FitsJournal}
use Rattle.journal_model.specs.Journal.{Is, JournalData, journal_of}
use Rattle.journal_model.specs.Spelling.{front_bytes}
use Rattle.journal_spelling.proofs.Fronts.{one_front, spelled}
use Rattle.journal_spelling.specs.Spelled.{HasSpelling}
use Rattle.jrnl_store.proofs.Commits.{shut_stands}
use Rattle.jrnl_store.specs.Kept.{Kept}
use Rattle.jrnl_store.specs.Own.{IsOwn}

-- it fits together and has a spelling, whose bytes are bytes
pub record IsWritten (j : JournalData) : Type 0 where
  pub fits : FitsJournal j
  pub spelled : HasSpelling j
  pub bytes : IsBytes (front_bytes j)

zero_is : IsBytes (0 ∷ [])
zero_is zero = let h : 0 < 256 = omega arith in h
zero_is (suc i) = let h : 0 < 256 = omega arith in h

pub written : (k : Kept) (images : List ℕ → Type 0) (was : List ℕ) (j : JournalData) → IsBytes was → IsOwn k images was j → IsWritten j
written k images was j are own =
    let r = own.read in
    let bytes : IsBytes own.front = front_bytes_are own.front (r.0 ∷ r.1) (subst IsBytes r.2 are) in
    let shut : IsShut own.front (own.front ++ 0 ∷ []) = (0, [], refl, refl) in
    let is : journal_of (own.front ++ 0 ∷ []) ≡ Is j = shut_stands j own.front (own.front ++ 0 ∷ []) own.stands own.begun shut in
    let s : HasSpelling j = (spelled (own.front ++ 0 ∷ []) j (bytes_append own.front (0 ∷ []) bytes zero_is) is).0 in
    record { fits = s.journal; spelled = s; bytes = subst IsBytes (one_front j own.front bytes own.stands own.begun) bytes }
