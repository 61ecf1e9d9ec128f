-- What is exported of an honest journal is accepted.
use Rattle.std.proofs.Common.{◌≡◌, ℕ, ◌<◌, ◌≤◌, ◌^◌, true, nat_le, List, [], ◌∷◌, length, Some, refl, sym, ap, subst, ◌∙◌, arith}
use Rattle.std.specs.List.{AllByRecursion, flat_map}
use Rattle.std.proofs.lemmas.List.{length-append}
use Rattle.std.proofs.lemmas.List.Elements.{All-from_recursion}
use Rattle.avm_model.specs.Audit.{IsAcceptedBytes, Judged, auths_within, commits_to, is_committed, judged_of, entry_frames, snapshot}
use Rattle.avm_model.specs.Auth.{AuthData}
use Rattle.avm_model.specs.Content.{content_at}
use Rattle.avm_model.specs.Entries.{are_entries, numbered, opens, snaps}
use Rattle.avm_model.specs.Frame.{FitsFrame, FrameData, frame_bytes, frames_of}
use Rattle.avm_model.specs.Head.{HeadData, head_bytes}
use Rattle.avm_model.specs.HeadState.{data_of}
use Rattle.avm_model.specs.Machine.{State}
use Rattle.avm_model.specs.Marks.{hash_in, verifies}
use Rattle.avm_model.specs.Reference.{entries_of, timed}
use Rattle.avm_model.specs.Rerun.{Replays, Stands, start}
use Rattle.avm_model.specs.Segment.{FitsSegment, SegmentData, segment_bytes, segment_front_bytes, whole_segment_of}
use Rattle.avm_model.proofs.SegmentPages.{head_pages}
use Rattle.avm_num.proofs.Lengths.{be32, be64, one1}
use Rattle.export_laws.proofs.Lists.{Found}
use Rattle.export_laws.proofs.Placed.{At, at}
use Rattle.export_model.specs.Exports.{IsExport, IsStateAt, exported, segment_for, stretch}
use Rattle.honest_model.specs.Honest.{IsHonest}
use Rattle.honest_model.specs.Keeps.{HasTrueKeeps, up_to}
use Rattle.honest_model.proofs.Exports.{exported_front}
use Rattle.journal_model.specs.Fits.{FitsJournal}
use Rattle.journal_model.specs.Journal.{JournalData, entries}
use Rattle.journal_model.proofs.Fitting.{entries_numbered}
use Rattle.journal_spelling.specs.Spelled.{HasSpelling}
use Rattle.rebut_model.specs.Texts.{OfHead, from_number}
use Rattle.rebut_model.proofs.Signed.{bound_on_chain}
use Rattle.rebut_model.proofs.Stretches.{Splits, number_behind, splits}
use Rattle.seg_file.proofs.SegmentLaws.{whole_again}
use Rattle.acceptance_laws.specs.Signed.{IsSigned}
use Rattle.acceptance_laws.proofs.Frames.{Again, again, all_back, entries_fit, up_to_fit}
use Rattle.acceptance_laws.proofs.Opening.{opened}
use Rattle.acceptance_laws.proofs.Ranges.{InRange, exported_is, hash_up_to, in_range_is, number_frames, up_to_first, up_to_front}

-- ---- the entries of the range

-- the entry of number `from` and those behind it up to `to`
record Ranged (j : JournalData) (from to : ℕ) (s : State) : Type 0 where
  at : At j from s
  order : from ≤ to
  few : ◌≡◌ (nat_le (snaps (stretch j from to)) 64) true
  frames : (from_number from j.header.before (entries j)).frames ≡ at.entry.frame ∷ at.entry.later
  stretch_is : stretch j from to ≡ at.entry.frame ∷ up_to to at.entry.later

ranged : (j : JournalData) (from to : ℕ) (bytes : List ℕ) (s : State) → FitsJournal j → IsHonest j → HasTrueKeeps j → IsStateAt j from s → InRange j from to bytes → Ranged j from to s
ranged j from to bytes s fits honest keeps is r =
    let a = at j from s fits honest keeps is r.begins in
    let e = a.entry in
    let frames : (from_number from j.header.before (entries j)).frames ≡ e.frame ∷ e.later =
    ap (λ (l : List FrameData). (from_number from j.header.before l).frames) e.split
    ∙ number_frames from j.header.first j.header.before e.before e.frame e.later (subst (λ (l : List FrameData). numbered j.header.first l ≡ true) e.split (entries_numbered j fits)) e.number in
    record {
      at = a;
      order = r.order;
      few = r.few;
      frames = frames;
      stretch_is = ap (up_to to) frames ∙ up_to_first to e.frame e.later (let n = e.number in let o = r.order in omega (arith, n, o));
    }

low_number : (j : JournalData) (from : ℕ) (e : Found from (entries j)) → FitsJournal j → j.header.first ≤ from
low_number j from e w =
    let far = number_behind j.header.first e.before e.frame e.later (subst (λ (l : List FrameData). numbered j.header.first l ≡ true) e.split (entries_numbered j w)) in
    let own = e.number in
    omega (arith, far, own)

splits_at : (j : JournalData) (from : ℕ) (e : Found from (entries j)) → FitsJournal j → Splits from j.header.first j.header.before (entries j) (from_number from j.header.before (entries j))
splits_at j from e w = splits from j.header.first j.header.before (entries j) w.header.before (low_number j from e w) (entries_numbered j w)

-- ---- the segment

entries_for : (j : JournalData) (from to : ℕ) (before : List ℕ) (f : FrameData) (later : List FrameData) → stretch j from to ≡ f ∷ up_to to later → opens from before (f ∷ up_to to later) ≡ true → Again (f ∷ up_to to later)
    → are_entries from before (flat_map frame_bytes (stretch j from to)) ≡ true
unfolding are_entries
entries_for j from to before f later is o a = rw (is, a.frames, o, a.nothing) refl

-- its front is no longer than the segment
front_short : (s : SegmentData) → length (segment_bytes s) ≤ 2 ^ 26 → length s.front.head < 2 ^ 32
unfolding segment_bytes segment_front_bytes
front_short s le = let all = simp (length-append, be32, be64, one1) at le in omega (arith, all)

fits_for : (j : JournalData) (from to : ℕ) (bytes : List ℕ) (s : State) → HasSpelling j → InRange j from to bytes → OfHead s → bytes ≡ segment_bytes (segment_for j from to s) → Ranged j from to s → FitsSegment (segment_for j from to s)
fits_for j from to bytes s spelled r whole is range =
    let entry = range.at.entry in
    let split = splits_at j from entry spelled.journal in
    let fit = entries_fit j spelled in
    let own : AllByRecursion FitsFrame (entry.frame ∷ entry.later) = all_back FitsFrame entry.before (entry.frame ∷ entry.later) (subst (AllByRecursion FitsFrame) entry.split fit) in
    let few : nat_le (snaps (entry.frame ∷ up_to to entry.later)) 64 ≡ true = subst (λ (l : List FrameData). nat_le (snaps l) 64 ≡ true) range.stretch_is range.few in
    let opens_well = opened j from to entry.before entry.later entry.frame spelled.journal entry.split entry.number entry.kind few in
    let short : length (segment_bytes (segment_for j from to s)) ≤ 2 ^ 26 = subst (λ (b : List ℕ). length b ≤ 2 ^ 26) is r.short in
    let pages = head_pages (head_bytes (data_of s)) (data_of s) whole.read in
    let number : entry.frame.seq < 2 ^ 62 = own.0.seq.below in
    let is_number = entry.number in
    record {
      front = record { start = omega (arith, number, is_number); before = split.before; head = front_short (segment_for j from to s) short };
      pages = ((data_of s).front.pages, pages.0, pages.1, whole.size);
      entries = entries_for j from to (from_number from j.header.before (entries j)).before entry.frame entry.later range.stretch_is opens_well (again (entry.frame ∷ up_to to entry.later) (own.0, up_to_fit to entry.later own.1));
      whole = short;
    }

-- ---- what is read of it, and what it is judged by

judged_for : (bytes auths : List ℕ) (s : SegmentData) (h : HeadData) (list : List AuthData) → whole_segment_of bytes ≡ Some (s, h) → auths_within auths ≡ Some list → judged_of bytes auths ≡ Some (record { segment = s; head = h; auths = list })
unfolding judged_of
judged_for bytes auths s h list e f = rw (e, f) refl

committed_for : (s : State) (f : FrameData) (fs : List FrameData) → commits_to s (content_at f.kind f.content) ≡ true → is_committed s (f ∷ fs) ≡ true
unfolding is_committed
committed_for s f fs e = e

-- an authenticator of the range
matched : (j : JournalData) (key : List ℕ) (from to : ℕ) (a : AuthData) → FitsJournal j → Splits from j.header.first j.header.before (entries j) (from_number from j.header.before (entries j)) → IsSigned key j from to a
    → hash_in a.seq (from_number from j.header.before (entries j)).before (stretch j from to) ≡ Some a.hash
matched j key from to a w split signed =
    let part = from_number from j.header.before (entries j) in
    hash_up_to to a.seq from part.before a.hash part.frames split.numbers signed.no_more (split.hashes a.seq a.hash signed.no_less (bound_on_chain j a w signed.bound))

verified_all : (key : List ℕ) (j : JournalData) (from to : ℕ) (list : List AuthData) → AllByRecursion (IsSigned key j from to) list → AllByRecursion (λ a. verifies key a ≡ true) list
verified_all key j from to [] all = tt
verified_all key j from to (a ∷ list) all = (all.0.verified, verified_all key j from to list all.1)

matched_all : (j : JournalData) (key : List ℕ) (from to : ℕ) (list : List AuthData) → FitsJournal j → Splits from j.header.first j.header.before (entries j) (from_number from j.header.before (entries j)) → AllByRecursion (IsSigned key j from to) list
    → AllByRecursion (λ a. hash_in a.seq (from_number from j.header.before (entries j)).before (stretch j from to) ≡ Some a.hash) list
matched_all j key from to [] w split all = tt
matched_all j key from to (a ∷ list) w split all = (matched j key from to a w split all.0, matched_all j key from to list w split all.1)

replays_for : (s to_state : State) (to : ℕ) (later : List FrameData) → Stands timed s (entries_of later) (start to_state) → Replays timed s (entries_of (up_to to later))
replays_for s to_state to later stands =
    let front = up_to_front to later in
    exported_front s to_state (up_to to later) front.rest (subst (λ (l : List FrameData). Stands timed s (entries_of l) (start to_state)) front.is stands)

pub accepted : (j : JournalData) (from to : ℕ) (key bytes auths : List ℕ) (list : List AuthData) → HasSpelling j → IsHonest j → HasTrueKeeps j → IsExport j from to (exported bytes) → ((s : State) → IsStateAt j from s → OfHead s)
    → auths_within auths ≡ Some list → AllByRecursion (IsSigned key j from to) list → IsAcceptedBytes key bytes auths
accepted j from to key bytes auths list spelled honest keeps export whole_state read signed =
    let e = exported_is j from to bytes export in
    let s = e.state in
    let r = in_range_is j from to bytes e.range_is in
    let whole = whole_state s e.at in
    let range = ranged j from to bytes s spelled.journal honest keeps e.at r in
    let entry = range.at.entry in
    let split = splits_at j from entry spelled.journal in
    let segment : SegmentData = segment_for j from to s in
    let fits = fits_for j from to bytes s spelled r whole e.bytes_are range in
    let own : AllByRecursion FitsFrame (entry.frame ∷ entry.later) = all_back FitsFrame entry.before (entry.frame ∷ entry.later) (subst (AllByRecursion FitsFrame) entry.split (entries_fit j spelled)) in
    let again_read = again (entry.frame ∷ up_to to entry.later) (own.0, up_to_fit to entry.later own.1) in
    let frames : entry_frames segment ≡ entry.frame ∷ up_to to entry.later = subst (λ (l : List FrameData). frames_of (flat_map frame_bytes l) ≡ l) (sym range.stretch_is) again_read.frames ∙ range.stretch_is in
    let stretched : entry_frames segment ≡ stretch j from to = frames ∙ sym range.stretch_is in
    let there : whole_segment_of bytes ≡ Some (segment, data_of s) = ap whole_segment_of e.bytes_are ∙ whole_again segment (data_of s) fits whole.read in
    let judged : Judged = record { segment = segment; head = data_of s; auths = list } in
    let state : snapshot segment (data_of s) ≡ s = whole.state in (
      judged,
      judged_for bytes auths segment (data_of s) list there read,
      record {
        verified = All-from_recursion (λ a. verifies key a ≡ true) list (verified_all key j from to list signed);
        matching = All-from_recursion (λ a. hash_in a.seq segment.front.before (entry_frames segment) ≡ Some a.hash) list (subst (λ (l : List FrameData). AllByRecursion (λ a. hash_in a.seq segment.front.before l ≡ Some a.hash) list) (sym stretched) (matched_all j key from to list spelled.journal split signed));
        committed = rw (state, frames) (committed_for s entry.frame (up_to to entry.later) range.at.from.commits);
        replays = rw (state, frames) (replays_for s range.at.to to entry.later range.at.from.stands);
      },
    )
