-- What was released for entries of the journal signs, and the segment that is exported is accepted with it.
use Rattle.std.proofs.Common.{◌≡◌, ⊎_elim, ℕ, ◌+◌, ◌≤◌, ◌<◌, ◌^◌, ◌==◌, ◌||◌, Bool, true, false, List, [], ◌∷◌, ◌++◌, None, Some, refl, sym, subst, ◌∙◌, arith, eqb-true}
use Rattle.std.specs.Prelude.{if◌then◌else◌}
use Rattle.std.specs.List.{AllByRecursion}
use Rattle.avm_model.specs.Audit.{IsAcceptedBytes, auths_within}
use Rattle.avm_model.specs.Auth.{AuthData}
use Rattle.avm_model.specs.Entries.{numbered}
use Rattle.avm_model.specs.Frame.{FrameData}
use Rattle.avm_model.specs.Keys.{FitsKey, public_of}
use Rattle.avm_model.specs.Machine.{State}
use Rattle.avm_num.proofs.Numbers.{and_true}
use Rattle.acceptance_laws.specs.Signed.{IsSigned}
use Rattle.acceptance_laws.proofs.Accepted.{accepted}
use Rattle.acceptance_laws.proofs.Frames.{parts_fit}
use Rattle.acceptance_laws.proofs.Ranges.{exported_is, in_range_is}
use Rattle.export_model.specs.Exports.{IsExport, IsStateAt, begins_at, exported}
use Rattle.honest_model.specs.Keeps.{AreTrue}
use Rattle.honest_model.proofs.Honesty.{leads_honest}
use Rattle.journal_model.specs.Header.{HeaderData}
use Rattle.journal_model.specs.Journal.{JournalData, entries, page_count_of, parts}
use Rattle.journal_model.specs.Part.{Part, entry, keep, seal}
use Rattle.journal_model.specs.Standing.{signed_items, start}
use Rattle.journal_model.proofs.Fitting.{entries_numbered}
use Rattle.journal_spelling.specs.Spelled.{HasSpelling}
use Rattle.rebut_model.specs.Texts.{OfHead}
use Rattle.record_model.specs.Released.{Sender}
use Rattle.life_model.specs.Life.{Among, IsKept, Life, Told, told_of}
use Rattle.life_model.proofs.Among.{among_either}
use Rattle.release_laws.specs.Formed.{Gives, IsReleased}
use Rattle.release_laws.proofs.Bound.{item_bound, item_verifies}
use Rattle.release_laws.proofs.Pieces.{IsItem, parts_give}

-- ---- what was released

-- for its own items
own_item : (who : Sender) (j : JournalData) (t : Told) (a : AuthData) → who.own < 2 ^ 32 → HasSpelling j → Among t (told_of who j) → Gives t.piece a → IsItem who (signed_items j) t.seq a
unfolding told_of signed_items parts
own_item who j t a own w h g =
    parts_give who j.header.first (page_count_of j) None (start j.header) (parts j) t a own w.journal.header.before (λ lt. absurd (omega (arith, lt))) w.journal.whole (parts_fit j.records w.records) h g

-- A piece that was released for an entry of the journal: what was left behind has lower numbers.
released_item : {W : Type 0} (left : W → List ℕ → Type 0) (l : Life W) (a : AuthData) (from to : ℕ) → IsKept left l → l.who.own < 2 ^ 32 → HasSpelling l.recording.journal → l.recording.journal.header.first ≤ from → (r : IsReleased l.released from to a)
    → IsItem l.who (signed_items l.recording.journal) r.piece.seq a
released_item left l a from to k own w low r =
    ⊎_elim (λ gone. absurd (let lt = k.below r.piece gone in let le = r.no_less in omega (arith, lt, le, low)))
    (λ own_piece. own_item l.who l.recording.journal r.piece a own w own_piece r.gives)
    (among_either r.piece l.gone.told (told_of l.who l.recording.journal) (k.released r.piece r.was_released))

pub released_signed : {W : Type 0} (left : W → List ℕ → Type 0) (l : Life W) (a : AuthData) (from to : ℕ) → IsKept left l → FitsKey l.who.key → l.who.own < 2 ^ 32 → l.recording.journal.header.key ≡ public_of l.who.key → HasSpelling l.recording.journal
    → l.recording.journal.header.first ≤ from → IsReleased l.released from to a → IsSigned (public_of l.who.key) l.recording.journal from to a
released_signed left l a from to k fits own key w low r =
    let j = l.recording.journal in
    let i = released_item left l a from to k own w low r in
    let same : a.seq ≡ r.piece.seq = i.seq ∙ sym i.number in
    record {
      verified = item_verifies l.who j r.piece.seq a w.journal fits key i;
      bound = item_bound l.who j r.piece.seq a i;
      no_less = subst (λ (n : ℕ). from ≤ n) (sym same) r.no_less;
      no_more = subst (λ (n : ℕ). n ≤ to) (sym same) r.no_more;
    }

-- ---- with what is exported

-- the keeps of a front
true_front : (h : HeaderData) (x a b : List Part) → AreTrue h x (a ++ b) → AreTrue h x a
true_front h x [] b t = tt
true_front h x (entry f ∷ a) b t = true_front h (x ++ entry f ∷ []) a b t
true_front h x (seal ∷ a) b t = true_front h (x ++ seal ∷ []) a b t
true_front h x (keep k ∷ a) b t = (t.0, true_front h (x ++ keep k ∷ []) a b t.1)

-- the first entry that is exported is the journal's first or a later one
from_first : (n k : ℕ) (fs : List FrameData) → numbered k fs ≡ true → begins_at n fs ≡ true → k ≤ n
from_first n k [] num e = absurd cc
from_first n k (f ∷ fs) num e =
    let p = and_true (f.seq == k) (numbered (k + 1) fs) num in
    go (f.seq == n) refl (eqb-true f.seq k p.0) (λ i. from_first n (k + 1) fs p.1 i) e
  where
    go : (b : Bool) → (f.seq == n) ≡ b → f.seq ≡ k → (begins_at n fs ≡ true → k + 1 ≤ n) → (if b then f.kind == 1 || f.kind == 2 else begins_at n fs) ≡ true → k ≤ n
    go true is at more i = let t = eqb-true f.seq n is in omega (arith, t, at)
    go false is at more i = let t = more i in omega (arith, t)

all_signed : {W : Type 0} (left : W → List ℕ → Type 0) (l : Life W) (from to : ℕ) (list : List AuthData) → IsKept left l → FitsKey l.who.key → l.who.own < 2 ^ 32 → l.recording.journal.header.key ≡ public_of l.who.key → HasSpelling l.recording.journal
    → l.recording.journal.header.first ≤ from → AllByRecursion (IsReleased l.released from to) list → AllByRecursion (IsSigned (public_of l.who.key) l.recording.journal from to) list
all_signed left l from to [] k fits own key w low all = tt
all_signed left l from to (a ∷ list) k fits own key w low all = (released_signed left l a from to k fits own key w low all.0, all_signed left l from to list k fits own key w low all.1)

pub released_accepted : {W : Type 0} (left : W → List ℕ → Type 0) (l : Life W) (from to : ℕ) (bytes auths : List ℕ) (list : List AuthData) → IsKept left l → FitsKey l.who.key → l.who.own < 2 ^ 32 → l.recording.journal.header.key ≡ public_of l.who.key → HasSpelling l.recording.journal
    → IsExport l.recording.journal from to (exported bytes) → ((s : State) → IsStateAt l.recording.journal from s → OfHead s)
    → auths_within auths ≡ Some list → AllByRecursion (IsReleased l.released from to) list → IsAcceptedBytes (public_of l.who.key) bytes auths
released_accepted left l from to bytes auths list k fits own key w export whole read all =
    let j = l.recording.journal in
    let standing = k.standing in
    let honest = leads_honest j standing.from standing.saved standing.header standing.journal in
    let r = in_range_is j from to bytes (exported_is j from to bytes export).range_is in
    let low = from_first from j.header.first (entries j) (entries_numbered j w.journal) r.begins in
    accepted j from to (public_of l.who.key) bytes auths list w honest (true_front j.header [] (parts j) l.recording.batch k.keeps) export whole read (all_signed left l from to list k fits own key w low all)
