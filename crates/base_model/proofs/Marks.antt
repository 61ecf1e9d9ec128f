-- A mark that is written behind a journal.
use Rattle.std.proofs.Common.{◌≡◌, ℕ, List, [], ◌∷◌, ◌++◌, length, Some, None, refl, sym, ap, ◌∙◌, append_assoc}
use Rattle.std.specs.Int.{w32}
use Rattle.avm_num.specs.Lists.{be, sized_bytes}
use Rattle.journal_model.specs.Part.{Part}
use Rattle.journal_model.specs.Journal.{JournalData, journal_of, joined, ended, ended_with, Is, HasRoom, IsFront}
use Rattle.journal_model.proofs.Gates.{front_goes, from_closed}
use Rattle.base_model.specs.Spare.{IsRetired}

-- an open gate, the mark's items and a closed gate
pub marked_retired : (j : JournalData) (n : ℕ) (front items rest c : List ℕ) → IsFront j front → ended j ≡ Is j → j.mark ≡ None → joined j items ≡ Some (record j { mark = Some n }) → HasRoom (length front) items
    → c ≡ front ++ 1 ∷ ((sized_bytes (be w32) items ++ 0 ∷ []) ++ rest) → IsRetired c
marked_retired j n front items rest c is begun unmarked join room bytes =
    let next : JournalData = record j { mark = Some n } in
    let goes = front_goes j next front items is join unmarked room in
    let spelled : c ≡ (front ++ 1 ∷ sized_bytes (be w32) items) ++ 0 ∷ rest = bytes ∙ ap (λ (l : List ℕ). front ++ 1 ∷ l) (append_assoc (sized_bytes (be w32) items) (0 ∷ []) rest) ∙ sym (append_assoc front (1 ∷ sized_bytes (be w32) items) (0 ∷ rest)) in
    (next, n, ap journal_of spelled ∙ goes 0 rest ∙ from_closed _ refl ∙ marked_ended j n begun, refl)
  where
    marked_ended : (j : JournalData) (n : ℕ) → ended j ≡ Is j → ended (record j { mark = Some n }) ≡ Is (record j { mark = Some n })
    marked_ended j n e = go j.records e
      where
        go : (rs : List (List Part)) → ended_with rs j ≡ Is j → ended_with rs (record j { mark = Some n }) ≡ Is (record j { mark = Some n })
        go [] e = absurd cc
        go (r ∷ rs) e = refl
