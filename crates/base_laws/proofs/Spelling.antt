-- A moved journal has a spelling.
use Rattle.std.proofs.Common.{◌≡◌, ℕ, ◌+◌, ◌≤◌, ◌<◌, ◌^◌, ◌==◌, ◌&&◌, true, false, nat_lt, List, [], ◌∷◌, ◌++◌, length, Option, None, refl, sym, ap, subst, ◌∙◌, arith, eqb-true, lt-ltb, ltb-true, inl, inr, ◌⊎◌}
use Rattle.std.proofs.lemmas.Bool.{and_from}
use Rattle.avm_num.proofs.Numbers.{and_true}
use Rattle.avm_model.specs.Chain.{top_of, next_hash}
use Rattle.avm_model.specs.Entries.{numbered, all_zero}
use Rattle.avm_model.specs.Frame.{FrameData}
use Rattle.avm_model.proofs.LmsLaw.{length-hash}
use Rattle.journal_model.specs.Part.{Part, entry, frames_in}
use Rattle.journal_model.specs.Header.{HeaderData, is_first, is_base, has_early_count, pages_in}
use Rattle.journal_model.specs.Journal.{JournalData, parts, entries, used, follows, page_count_of, count_or_zero, Is, journal_of}
use Rattle.journal_model.specs.Fits.{FitsHeader, FitsJournal}
use Rattle.journal_model.specs.Spelling.{front_bytes, spelled}
use Rattle.journal_model.proofs.Fitting.{entries_numbered}
use Rattle.journal_spelling.specs.Spelled.{FitsFields, HasSpelling}
use Rattle.journal_spelling.proofs.Fronts.{follows_back, again}
use Rattle.base_model.specs.Base.{before_entry, from_entry, records_from, past_keep, without_keep, MovedState, base_header, moved, base_bytes}
use Rattle.base_model.proofs.Moves.{all_parts}
use Rattle.base_model.proofs.Used.{split_signing, moved_used}
use Rattle.base_laws.specs.Moving.{CanMove}
use Rattle.base_laws.proofs.Records.{IsAt, snap_at, from_is, or_none, records_parts, records_fit, base_follows, snap_above}

hash_long : (h : List ℕ) (f : FrameData) → length (next_hash h f) ≡ 32
hash_long h f = length-hash _

top_long : (h : List ℕ) (fs : List FrameData) → length h ≡ 32 → length (top_of h fs) ≡ 32
top_long h [] e = e
top_long h (f ∷ fs) e = top_long (next_hash h f) fs (hash_long h f)

pub first_some : (h : HeaderData) → (is_first h ≡ true) ⊎ (is_base h ≡ true) → 1 ≤ h.first
first_some h (inl e) = let is = eqb-true h.first 1 (and_true (h.first == 1) (all_zero h.before) (and_true (h.first == 1 && all_zero h.before) (h.leaves == 0) e).0).0 in omega (arith, is)
first_some h (inr e) = let lt = ltb-true 1 h.first (and_true (nat_lt 1 h.first) (nat_lt h.first (2 ^ 61)) (and_true (nat_lt 1 h.first && nat_lt h.first (2 ^ 61)) (has_early_count h.head) e).0).0 in omega (arith, lt)

-- the entry from which a journal is moved, among the others
pub record IsMoved (j : JournalData) (n : ℕ) : Type 0 where
  pub at : IsAt n (parts j)
  pub number : n ≡ j.header.first + length (frames_in at.before)
  pub above : 1 < n
  pub parts_are : all_parts (records_from n j.records) ≡ entry at.frame ∷ past_keep at.behind
  pub follow : follows n (page_count_of j) n None (entry at.frame ∷ past_keep at.behind) ≡ true

pub is_moved : (j : JournalData) (n : ℕ) (s : MovedState) → HasSpelling j → CanMove j n s → IsMoved j n
unfolding parts entries
is_moved j n s h m =
    let i = snap_at n (parts j) m.snap in
    let num : numbered j.header.first (frames_in (i.before ++ entry i.frame ∷ i.behind)) ≡ true = subst (λ (ps : List Part). numbered j.header.first (frames_in ps) ≡ true) i.split (entries_numbered j h.journal) in
    let f = from_is n j.header.first i.before i.behind i.frame num i.seq in
    let number = f.1 in
    let le : j.header.first ≤ n = omega (arith, number) in
    let whole : follows j.header.first (page_count_of j) j.header.first None (i.before ++ entry i.frame ∷ i.behind) ≡ true = subst (λ (ps : List Part). follows j.header.first (page_count_of j) j.header.first None ps ≡ true) i.split h.journal.whole in
    let here : follows j.header.first (page_count_of j) n None (entry i.frame ∷ i.behind) ≡ true = subst (λ (k : ℕ). follows j.header.first (page_count_of j) k None (entry i.frame ∷ i.behind) ≡ true) (sym number) (follows_back j.header.first (page_count_of j) j.header.first None i.before (entry i.frame ∷ i.behind) tt whole) in
    let above = snap_above j.header.first (page_count_of j) n i.frame i.behind (first_some j.header h.journal.header.version) le i.kind here in
    let found = ap (λ (o : Option (List Part)). without_keep (or_none o)) (ap (λ (ps : List Part). from_entry n ps) i.split ∙ f.0) in
    record {
      at = i;
      number = number;
      above = above;
      parts_are = records_parts n j.records h.records ∙ found;
      follow = base_follows j.header.first (page_count_of j) n i.frame i.behind le above i.seq i.kind here;
    }

header_fits : (j : JournalData) (n : ℕ) (s : MovedState) → HasSpelling j → CanMove j n s → FitsHeader (base_header j n s)
unfolding base_header parts used
header_fits j n s h m =
    let above = lt-ltb 1 n (is_moved j n s h m).above in
    let low = lt-ltb n (2 ^ 61) m.low in
    let all = split_signing n j.records in
    let most = h.journal.leaves in
    record {
      key = h.journal.header.key;
      types = h.journal.header.types;
      before = top_long j.header.before (frames_in (before_entry n (parts j))) h.journal.header.before;
      leaves = omega (arith, all, most);
      head = m.head;
      pages = m.pages;
      version = inr (and_from _ _ (and_from _ _ above low) m.early);
    }

fields_fit : (j : JournalData) (n : ℕ) (s : MovedState) → HasSpelling j → CanMove j n s → FitsFields (base_header j n s)
unfolding base_header
fields_fit j n s h m =
    let above = (is_moved j n s h m).above in
    let low = m.low in
    record { first = omega (arith, low); few = m.few; carried = m.carried; ascends = m.ascends; none = λ is. absurd (omega (arith, is, above)) }

journal_fits : (j : JournalData) (n : ℕ) (s : MovedState) → HasSpelling j → CanMove j n s → FitsJournal (moved j n s)
unfolding moved parts base_header
journal_fits j n s h m =
    let i = is_moved j n s h m in
    let pages : page_count_of j ≡ count_or_zero (pages_in s.head) = ap count_or_zero (sym m.count) in
    let follow : follows n (count_or_zero (pages_in s.head)) n None (all_parts (records_from n j.records)) ≡ true =
    subst (λ (ps : List Part). follows n (count_or_zero (pages_in s.head)) n None ps ≡ true) (sym i.parts_are) (subst (λ (p : ℕ). follows n p n None (entry i.at.frame ∷ past_keep i.at.behind) ≡ true) pages i.follow) in
    let most = h.journal.leaves in
    record {
      header = header_fits j n s h m;
      some = (entry i.at.frame, past_keep i.at.behind, i.parts_are);
      whole = follow;
      leaves = omega (arith, most, moved_used j n s);
    }

pub moved_spelled : (j : JournalData) (n : ℕ) (s : MovedState) → HasSpelling j → CanMove j n s → HasSpelling (moved j n s)
unfolding moved
moved_spelled j n s h m = record {
  journal = journal_fits j n s h m;
  fields = fields_fit j n s h m;
  records = records_fit n j.records h.records;
  mark = λ k is. absurd cc;
  below = m.below;
}

pub moved_behind : (j : JournalData) (n : ℕ) (s : MovedState) (gate : ℕ) (rest : List ℕ) → HasSpelling j → CanMove j n s → (gate == 1) ≡ false → journal_of (front_bytes (moved j n s) ++ gate ∷ rest) ≡ Is (moved j n s)
moved_behind j n s gate rest h m shut = again (moved j n s) gate rest (moved_spelled j n s h m) shut

pub moved_read : (j : JournalData) (n : ℕ) (s : MovedState) → HasSpelling j → CanMove j n s → journal_of (base_bytes j n s) ≡ Is (moved j n s)
unfolding base_bytes spelled
moved_read j n s h m = moved_behind j n s 0 [] h m refl
