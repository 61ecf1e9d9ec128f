-- What both readings tell together.
use Rattle.std.proofs.Common.{◌≡◌, ℕ, ◌+◌, ◌<◌, Bool, true, false, cond, nat_le, List, [], ◌∷◌, ◌++◌, length, Option, Some, None, MatchOption, refl, sym, ap, subst, ◌∙◌, append_assoc, arith, inl, inr, ◌⊎◌, eqb-true, leb-false}
use Rattle.std.specs.Prelude.{◌==◌}
use Rattle.std.proofs.lemmas.Bool.{and_parts, lt-leb}
use Rattle.std.proofs.lemmas.List.{length-append}
use Rattle.avm_model.specs.Audit.{behind_first, commits_to, is_committed}
use Rattle.avm_model.specs.Content.{content_at}
use Rattle.avm_model.specs.Entries.{numbered}
use Rattle.avm_model.specs.Frame.{FrameData}
use Rattle.avm_model.specs.Machine.{State}
use Rattle.avm_model.specs.Reference.{Made, IsFaultNumber, entries_of, timed}
use Rattle.avm_model.specs.Rerun.{Stand, Stands, after}
use Rattle.export_model.specs.Exports.{IsStateAt}
use Rattle.honest_model.specs.Honest.{IsFaultByRoot, IsFaultFrom}
use Rattle.honest_model.specs.Keeps.{IsBase, IsFaultBehind, IsHeaderBase, IsKeepBase, IsStretch, content_of, frames_behind, last_frame, up_to}
use Rattle.honest_model.proofs.Logs.{keeps-append}
use Rattle.journal_model.specs.Fits.{FitsJournal}
use Rattle.journal_model.specs.Journal.{JournalData, entries, parts}
use Rattle.journal_model.specs.Part.{KeepData, Part, entry, frames_in, keep, keeps_in}
use Rattle.journal_model.proofs.Fitting.{entries_numbered, first_entry}
use Rattle.open_replay.specs.Replayed.{Starts}
use Rattle.open_replay.specs.Running.{frames_past}
use Rattle.open_replay.proofs.Running.{past_front, past_none}
use Rattle.rebut_judge.specs.Judging.{Goes, JudgedTo, Judging}
use Rattle.rebut_judge.proofs.Judged.{judged_end, judged_stand}

-- ---- the entries behind the first, up to a number

tail_past : (n m : ℕ) (fs : List FrameData) → n < m → numbered m fs ≡ true → up_to n fs ≡ []
tail_past n m [] lt h = refl
tail_past n m (f ∷ fs) lt h =
    let s : f.seq ≡ m = eqb-true f.seq m (and_parts (f.seq == m) (numbered (m + 1) fs) h).0 in
    rw (lt-leb f.seq n (omega (arith, lt, s))) refl

numbers_are : (j : JournalData) → FitsJournal j → numbered j.header.first (frames_in (parts j)) ≡ true
unfolding entries
numbers_are j fits = entries_numbered j fits

-- ---- what is behind the base

-- The entries behind the base up to a number were judged, behind these entries of the base: none, or its SNAP entry.
pub record Judges (j : JournalData) (n : ℕ) (front behind : List Part) (s : State) (v : Judging) : Type 0 where
  pub fault : IsFaultBehind j.header.first front s (up_to n (frames_in behind)) v.fault
  pub state : v.fault ≡ None → v.stand.state ≡ (after timed s (entries_of (up_to n (frames_behind front behind)))).state

state_of_stand : (s : State) (fs : List FrameData) (k : Stand State Made) → Stands timed s (entries_of fs) k → k.state ≡ (after timed s (entries_of fs)).state
state_of_stand s fs k h = ap (λ (x : Stand State Made). x.state) h.is

stand_none : (s : State) (first : ℕ) (v : Judging) → v.fault ≡ None → JudgedTo s first [] v → v.stand.state ≡ s
stand_none s first v none h =
    let told = subst (λ (o : Option ℕ). MatchOption o ((v.failed ≡ None) × Goes s [] v) (λ n. (rest : List FrameData) → IsFaultFrom first s ([] ++ rest) (Some n))) none h.told in
    ap (λ (x : Stand State Made). x.state) told.1.1

judged_header : (j : JournalData) (n : ℕ) (behind : List Part) (f : FrameData) (ps : List Part) (s : State) (v : Judging) → behind ≡ entry f ∷ ps → numbered j.header.first (f ∷ frames_in ps) ≡ true → JudgedTo s j.header.first (up_to n (frames_in behind)) v → Judges j n [] behind s v
judged_header j n behind f ps s v e numbers h = record {
  fault = judged_end s j.header.first (up_to n (frames_in behind)) v h;
  state = λ none. subst (λ (b : List Part). v.stand.state ≡ (after timed s (entries_of (up_to n (behind_first (frames_in b))))).state) (sym e) (by none (nat_le f.seq n) refl (subst (λ (b : List Part). JudgedTo s j.header.first (up_to n (frames_in b)) v) e h));
}
  where
    by : v.fault ≡ None → (c : Bool) → nat_le f.seq n ≡ c → JudgedTo s j.header.first (cond c (f ∷ up_to n (frames_in ps)) []) v → v.stand.state ≡ (after timed s (entries_of (up_to n (frames_in ps)))).state
    by none true low t = state_of_stand s (up_to n (frames_in ps)) v.stand (judged_stand s j.header.first f (up_to n (frames_in ps)) v none t)
    by none false high t =
        let p = and_parts (f.seq == j.header.first) (numbered (j.header.first + 1) (frames_in ps)) numbers in
        let q : f.seq ≡ j.header.first = eqb-true f.seq j.header.first p.0 in
        let past : n < f.seq = leb-false f.seq n high in
        let nothing : up_to n (frames_in ps) ≡ [] = tail_past n (j.header.first + 1) (frames_in ps) (omega (arith, q, past)) p.1 in
        subst (λ (l : List FrameData). v.stand.state ≡ (after timed s (entries_of l)).state) (sym nothing) (stand_none s j.header.first v none t)

committed_more : (s : State) (f : FrameData) (fs : List FrameData) → commits_to s (content_at f.kind f.content) ≡ true → is_committed s (f ∷ fs) ≡ true
unfolding is_committed
committed_more s f fs e = e

fault_keep : (first : ℕ) (before : List Part) (last : KeepData) (s : State) (fs : List FrameData) (o : Option ℕ) → IsFaultNumber s fs o → IsFaultBehind first (before ++ keep last ∷ []) s fs o
fault_keep first [] last s fs o h = h
fault_keep first (x ∷ before) last s fs o h = h

behind_keep : (before : List Part) (last : KeepData) (behind : List Part) → frames_behind (before ++ keep last ∷ []) behind ≡ frames_in behind
behind_keep [] last behind = refl
behind_keep (x ∷ before) last behind = refl

judged_keep : (j : JournalData) (n : ℕ) (before : List Part) (last : KeepData) (behind : List Part) (f : FrameData) (s : State) (v : Judging) → commits_to s (content_at f.kind f.content) ≡ true → JudgedTo s j.header.first (f ∷ up_to n (frames_in behind)) v → Judges j n (before ++ keep last ∷ []) behind s v
judged_keep j n before last behind f s v e h =
    let fs = up_to n (frames_in behind) in
    record {
      fault = fault_keep j.header.first before last s fs v.fault (subst (λ (b : Bool). IsFaultByRoot b j.header.first s (f ∷ fs) v.fault) (committed_more s f fs e) (judged_end s j.header.first (f ∷ fs) v h));
      state = λ none. subst (λ (l : List FrameData). v.stand.state ≡ (after timed s (entries_of (up_to n l))).state) (sym (behind_keep before last behind)) (state_of_stand s fs v.stand (judged_stand s j.header.first f fs v none h));
    }

-- ---- the base, and the judge behind it

-- the last entry of a base that is a keep
record Commits (s : State) : Type 0 where
  pub frame : FrameData
  pub commits : commits_to s (content_at frame.kind frame.content) ≡ true

commits_last : (s : State) (o : Option FrameData) → commits_to s (content_of o) ≡ true → Commits s
commits_last s None e = absurd cc
commits_last s (Some f) e = record { frame = f; commits = e }

pub judged_behind : (j : JournalData) (n keeps : ℕ) (front behind : List Part) (s : State) (old : Judging) (v : Judging) → FitsJournal j → IsBase j n front behind s → length (keeps_in front) ≡ keeps → Starts s j.header.first keeps old
    → ((fs : List FrameData) → JudgedTo s j.header.first fs old → JudgedTo s j.header.first (fs ++ up_to n (frames_past keeps (parts j))) v) → Judges j n front behind s v
judged_behind j n keeps front behind s old v fits base count starts goes = go base.base
  where
    by_header : IsHeaderBase j front s → Judges j n front behind s v
    by_header h =
        let none : keeps ≡ 0 = sym count ∙ ap (λ (ps : List Part). length (keeps_in ps)) h.front_is in
        let split : parts j ≡ behind = base.split ∙ ap (λ (ps : List Part). ps ++ behind) h.front_is in
        let o = first_entry j fits in
        let frames : frames_past keeps (parts j) ≡ frames_in behind = ap (λ (m : ℕ). frames_past m (parts j)) none ∙ past_none (parts j) ∙ ap frames_in split in
        let judged : JudgedTo s j.header.first (up_to n (frames_in behind)) v = subst (λ (fs : List FrameData). JudgedTo s j.header.first (up_to n fs) v) frames (goes [] (starts.header none)) in
        let numbers : numbered j.header.first (frames_in (entry o.0 ∷ o.1)) ≡ true = subst (λ (ps : List Part). numbered j.header.first (frames_in ps) ≡ true) o.2 (numbers_are j fits) in
        subst (λ (ps : List Part). Judges j n ps behind s v) (sym h.front_is) (judged_header j n behind o.0 o.1 s v (sym split ∙ o.2) numbers judged)

    by_keep : IsKeepBase j n front s → Judges j n front behind s v
    by_keep k =
        let some : keeps ≡ length (keeps_in k.before) + 1 =
        sym count ∙ ap (λ (ps : List Part). length (keeps_in ps)) k.front_is ∙ ap length (keeps-append k.before (keep k.last ∷ [])) ∙ length-append (keeps_in k.before) (k.last ∷ []) in
        let split : parts j ≡ k.before ++ keep k.last ∷ behind = base.split ∙ ap (λ (ps : List Part). ps ++ behind) k.front_is ∙ append_assoc k.before (keep k.last ∷ []) behind in
        let c = commits_last s (last_frame (frames_in k.before)) k.good.committed in
        let frames : frames_past keeps (parts j) ≡ frames_in behind = ap (frames_past keeps) split ∙ past_front k.before k.last behind keeps some in
        let judged : JudgedTo s j.header.first (c.frame ∷ up_to n (frames_in behind)) v = subst (λ (fs : List FrameData). JudgedTo s j.header.first (c.frame ∷ up_to n fs) v) frames (goes (c.frame ∷ []) (starts.keep (omega (arith, some)) c.frame c.commits)) in
        subst (λ (ps : List Part). Judges j n ps behind s v) (sym k.front_is) (judged_keep j n k.before k.last behind c.frame s v c.commits judged)

    go : IsHeaderBase j front s ⊎ IsKeepBase j n front s → Judges j n front behind s v
    go (inl h) = by_header h
    go (inr k) = by_keep k

-- ---- in the words of the definitions

pub stretched_fault : (j : JournalData) (n : ℕ) (front behind : List Part) (s : State) (v : Judging) → IsBase j n front behind s → Judges j n front behind s v → IsStretch j n v.fault
stretched_fault j n front behind s v base h = record { front = front; behind = behind; state = s; base = base; fault_is = h.fault }

pub stretched_state : (j : JournalData) (n : ℕ) (front behind : List Part) (s : State) (v : Judging) → IsBase j n front behind s → Judges j n front behind s v → v.fault ≡ None → IsStateAt j n v.stand.state
stretched_state j n front behind s v base h none = record { front = front; behind = behind; base = s; base_is = base; state = h.state none }
