-- What both readings tell together.
use Rattle.std.proofs.Common.{◌≡◌, ℕ, ◌+◌, ◌≤◌, ◌<◌, Bool, true, false, nat_lt, nat_le, List, [], ◌∷◌, ◌++◌, length, Option, Some, None, refl, sym, ap, subst, ◌∙◌, append_assoc, append-nil, arith, inl, inr, ◌⊎◌, lt-ltb, le-leb, eqb-true}
use Rattle.std.specs.Prelude.{◌==◌}
use Rattle.std.proofs.lemmas.Bool.{and_parts}
use Rattle.std.proofs.lemmas.List.{length-append}
use Rattle.avm_model.specs.Audit.{commits_to, is_committed}
use Rattle.avm_model.specs.Bounds.{is_head}
use Rattle.avm_model.specs.Content.{content_at}
use Rattle.avm_model.specs.Entries.{numbered}
use Rattle.avm_model.specs.Frame.{FrameData}
use Rattle.avm_model.specs.Head.{HeadData}
use Rattle.avm_model.specs.Machine.{State}
use Rattle.avm_model.specs.Reference.{Given, Made, IsFaultNumber, entries_of, timed}
use Rattle.avm_model.specs.Rerun.{Stand, Stands, start}
use Rattle.avm_model.specs.Timed.{Entry}
use Rattle.avm_model.proofs.ReferenceLaws.{is_timed}
use Rattle.honest_model.specs.Honest.{IsFaultByRoot}
use Rattle.honest_model.specs.Keeps.{IsBase, IsFaultBehind, IsHeaderBase, IsKeepBase, IsOpenFault, IsOpened, content_of, frames_behind, last_frame, last_of, up_to}
use Rattle.honest_model.proofs.Joins.{stands_front}
use Rattle.honest_model.proofs.Logs.{keeps-append}
use Rattle.journal_model.specs.Fits.{FitsJournal}
use Rattle.journal_model.specs.Journal.{JournalData, entries, next_number, parts}
use Rattle.journal_model.specs.Part.{KeepData, Part, entry, frames_in, keep, keeps_in}
use Rattle.journal_model.proofs.Fitting.{entries_numbered, first_entry}
use Rattle.journal_model.proofs.Prefixes.{frames_append}
use Rattle.record_laws.proofs.Fronts.{all_cost}
use Rattle.rebut_judge.specs.Judging.{JudgedTo, Judging}
use Rattle.rebut_judge.proofs.Judged.{judged_end, judged_stand}
use Rattle.open_replay.specs.Replayed.{Starts}
use Rattle.open_replay.specs.Running.{frames_past, snaps_in}
use Rattle.open_replay.proofs.Running.{past_front, past_none, snaps_first}

-- ---- entries up to the last are all

up_to_all : (fs : List FrameData) (n first : ℕ) → numbered first fs ≡ true → first + length fs ≤ n + 1 → up_to n fs ≡ fs
up_to_all [] n first h le = refl
up_to_all (f ∷ fs) n first h le =
    let p = and_parts (f.seq == first) (numbered (first + 1) fs) h in
    let s : f.seq ≡ first = eqb-true f.seq first p.0 in
    let low : nat_le f.seq n ≡ true = le-leb f.seq n (omega (arith, s)) in
    rw low (ap (λ (xs : List FrameData). f ∷ xs) (up_to_all fs n (first + 1) p.1 (omega arith)))

numbered_behind : (a b : List FrameData) (first : ℕ) → numbered first (a ++ b) ≡ true → numbered (first + length a) b ≡ true
numbered_behind [] b first h = let z : first + 0 ≡ first = omega arith in rw z h
numbered_behind (f ∷ a) b first h =
    let p = and_parts (f.seq == first) (numbered (first + 1) (a ++ b)) h in
    let z : first + length (f ∷ a) ≡ (first + 1) + length a = omega arith in
    rw z (numbered_behind a b (first + 1) p.1)

next_is : (j : JournalData) → next_number j ≡ j.header.first + length (frames_in (parts j))
unfolding next_number entries
next_is j = refl

numbers_are : (j : JournalData) → FitsJournal j → numbered j.header.first (frames_in (parts j)) ≡ true
unfolding entries
numbers_are j fits = entries_numbered j fits

all_behind : (j : JournalData) (front behind : List Part) → FitsJournal j → parts j ≡ front ++ behind → up_to (last_of j) (frames_in behind) ≡ frames_in behind
all_behind j front behind fits e =
    let all : frames_in (parts j) ≡ frames_in front ++ frames_in behind = ap frames_in e ∙ frames_append front behind in
    let h : numbered j.header.first (frames_in front ++ frames_in behind) ≡ true = subst (λ (fs : List FrameData). numbered j.header.first fs ≡ true) all (numbers_are j fits) in
    let next = next_is j in
    let len : length (frames_in (parts j)) ≡ length (frames_in front) + length (frames_in behind) = ap length all ∙ length-append (frames_in front) (frames_in behind) in
    up_to_all (frames_in behind) (last_of j) (j.header.first + length (frames_in front)) (numbered_behind (frames_in front) (frames_in behind) j.header.first h) (omega (arith, next, len))

-- ---- what is behind the base

-- The entries behind the base were judged, behind these entries of the base: none, or its SNAP entry.
pub record Judges (j : JournalData) (front behind : List Part) (s : State) (v : Judging) : Type 0 where
  pub fault : IsFaultBehind j.header.first front s (frames_in behind) v.fault
  pub stands : v.fault ≡ None → Stands timed s (entries_of (frames_behind front behind)) v.stand

judged_header : (j : JournalData) (behind : List Part) (f : FrameData) (ps : List Part) (s : State) (v : Judging) → behind ≡ entry f ∷ ps → JudgedTo s j.header.first (frames_in behind) v → Judges j [] behind s v
judged_header j behind f ps s v e h = record {
  fault = judged_end s j.header.first (frames_in behind) v h;
  stands = λ none. subst (λ (b : List Part). Stands timed s (entries_of (frames_behind [] b)) v.stand) (sym e) (judged_stand s j.header.first f (frames_in ps) v none (subst (λ (b : List Part). JudgedTo s j.header.first (frames_in b) v) e h));
}

committed_more : (s : State) (f : FrameData) (fs : List FrameData) → commits_to s (content_at f.kind f.content) ≡ true → is_committed s (f ∷ fs) ≡ true
unfolding is_committed
committed_more s f fs e = e

fault_keep : (first : ℕ) (before : List Part) (last : KeepData) (s : State) (fs : List FrameData) (o : Option ℕ) → IsFaultNumber s fs o → IsFaultBehind first (before ++ keep last ∷ []) s fs o
fault_keep first [] last s fs o h = h
fault_keep first (x ∷ before) last s fs o h = h

behind_keep : (before : List Part) (last : KeepData) (behind : List Part) → frames_behind (before ++ keep last ∷ []) behind ≡ frames_in behind
behind_keep [] last behind = refl
behind_keep (x ∷ before) last behind = refl

judged_keep : (j : JournalData) (before : List Part) (last : KeepData) (behind : List Part) (f : FrameData) (s : State) (v : Judging) → commits_to s (content_at f.kind f.content) ≡ true → JudgedTo s j.header.first (f ∷ frames_in behind) v → Judges j (before ++ keep last ∷ []) behind s v
judged_keep j before last behind f s v e h = record {
  fault = fault_keep j.header.first before last s (frames_in behind) v.fault
      (subst (λ (b : Bool). IsFaultByRoot b j.header.first s (f ∷ frames_in behind) v.fault) (committed_more s f (frames_in behind) e) (judged_end s j.header.first (f ∷ frames_in behind) v h));
  stands = λ none. subst (λ (fs : List FrameData). Stands timed s (entries_of fs) v.stand) (sym (behind_keep before last behind)) (judged_stand s j.header.first f (frames_in behind) v none h);
}

-- ---- the base, and the judge behind it

-- the last entry of a base that is a keep
pub record Commits (s : State) : Type 0 where
  pub frame : FrameData
  pub commits : commits_to s (content_at frame.kind frame.content) ≡ true

commits_last : (s : State) (o : Option FrameData) → commits_to s (content_of o) ≡ true → Commits s
commits_last s None e = absurd cc
commits_last s (Some f) e = record { frame = f; commits = e }

pub judged_behind : (j : JournalData) (n keeps : ℕ) (front behind : List Part) (s : State) (old : Judging) (v : Judging) → FitsJournal j → IsBase j n front behind s → length (keeps_in front) ≡ keeps → Starts s j.header.first keeps old
    → ((fs : List FrameData) → JudgedTo s j.header.first fs old → JudgedTo s j.header.first (fs ++ frames_past keeps (parts j)) v) → Judges j front behind s v
judged_behind j n keeps front behind s old v fits base count starts goes = go base.base
  where
    by_header : IsHeaderBase j front s → Judges j front behind s v
    by_header h =
        let none : keeps ≡ 0 = sym count ∙ ap (λ (ps : List Part). length (keeps_in ps)) h.front_is in
        let split : parts j ≡ behind = base.split ∙ ap (λ (ps : List Part). ps ++ behind) h.front_is in
        let o = first_entry j fits in
        let frames : frames_past keeps (parts j) ≡ frames_in behind = ap (λ (m : ℕ). frames_past m (parts j)) none ∙ past_none (parts j) ∙ ap frames_in split in
        let judged : JudgedTo s j.header.first (frames_in behind) v = subst (λ (fs : List FrameData). JudgedTo s j.header.first fs v) frames (goes [] (starts.header none)) in
        subst (λ (ps : List Part). Judges j ps behind s v) (sym h.front_is) (judged_header j behind o.0 o.1 s v (sym split ∙ o.2) judged)

    by_keep : IsKeepBase j n front s → Judges j front behind s v
    by_keep k =
        let some : keeps ≡ length (keeps_in k.before) + 1 =
        sym count ∙ ap (λ (ps : List Part). length (keeps_in ps)) k.front_is ∙ ap length (keeps-append k.before (keep k.last ∷ [])) ∙ length-append (keeps_in k.before) (k.last ∷ []) in
        let split : parts j ≡ k.before ++ keep k.last ∷ behind = base.split ∙ ap (λ (ps : List Part). ps ++ behind) k.front_is ∙ append_assoc k.before (keep k.last ∷ []) behind in
        let c = commits_last s (last_frame (frames_in k.before)) k.good.committed in
        let frames : frames_past keeps (parts j) ≡ frames_in behind = ap (frames_past keeps) split ∙ past_front k.before k.last behind keeps some in
        let judged : JudgedTo s j.header.first (c.frame ∷ frames_in behind) v = subst (λ (fs : List FrameData). JudgedTo s j.header.first (c.frame ∷ fs) v) frames (goes (c.frame ∷ []) (starts.keep (omega (arith, some)) c.frame c.commits)) in
        subst (λ (ps : List Part). Judges j ps behind s v) (sym k.front_is) (judged_keep j k.before k.last behind c.frame s v c.commits judged)

    go : IsHeaderBase j front s ⊎ IsKeepBase j n front s → Judges j front behind s v
    go (inl h) = by_header h
    go (inr k) = by_keep k

pub snaps_behind : (j : JournalData) (n keeps : ℕ) (front behind : List Part) (s : State) → IsBase j n front behind s → length (keeps_in front) ≡ keeps → snaps_in (nat_lt 0 keeps) (frames_past keeps (parts j)) ≡ snaps_in true (frames_behind front behind)
snaps_behind j n keeps front behind s base count = go base.base
  where
    none_below : (m : ℕ) → m ≡ 0 → nat_lt 0 m ≡ false
    none_below m e = rw e refl

    by_header : IsHeaderBase j front s → snaps_in (nat_lt 0 keeps) (frames_past keeps (parts j)) ≡ snaps_in true (frames_behind front behind)
    by_header h =
        let none : keeps ≡ 0 = sym count ∙ ap (λ (ps : List Part). length (keeps_in ps)) h.front_is in
        let split : parts j ≡ behind = base.split ∙ ap (λ (ps : List Part). ps ++ behind) h.front_is in
        ap (λ (b : Bool). snaps_in b (frames_past keeps (parts j))) (none_below keeps none)
        ∙ ap (snaps_in false) (ap (λ (m : ℕ). frames_past m (parts j)) none ∙ past_none (parts j) ∙ ap frames_in split)
        ∙ snaps_first (frames_in behind)
        ∙ ap (λ (ps : List Part). snaps_in true (frames_behind ps behind)) (sym h.front_is)

    by_keep : IsKeepBase j n front s → snaps_in (nat_lt 0 keeps) (frames_past keeps (parts j)) ≡ snaps_in true (frames_behind front behind)
    by_keep k =
        let some : keeps ≡ length (keeps_in k.before) + 1 =
        sym count ∙ ap (λ (ps : List Part). length (keeps_in ps)) k.front_is ∙ ap length (keeps-append k.before (keep k.last ∷ [])) ∙ length-append (keeps_in k.before) (k.last ∷ []) in
        let split : parts j ≡ k.before ++ keep k.last ∷ behind = base.split ∙ ap (λ (ps : List Part). ps ++ behind) k.front_is ∙ append_assoc k.before (keep k.last ∷ []) behind in
        ap (λ (b : Bool). snaps_in b (frames_past keeps (parts j))) (lt-ltb 0 keeps (omega (arith, some)))
        ∙ ap (snaps_in true) (ap (frames_past keeps) split ∙ past_front k.before k.last behind keeps some)
        ∙ ap (snaps_in true) (sym (behind_keep k.before k.last behind))
        ∙ ap (λ (ps : List Part). snaps_in true (frames_behind ps behind)) (sym k.front_is)

    go : IsHeaderBase j front s ⊎ IsKeepBase j n front s → snaps_in (nat_lt 0 keeps) (frames_past keeps (parts j)) ≡ snaps_in true (frames_behind front behind)
    go (inl h) = by_header h
    go (inr k) = by_keep k

-- ---- in the words of the definitions

pub opened_fault : (j : JournalData) (front behind : List Part) (s : State) (v : Judging) → FitsJournal j → IsBase j (last_of j) front behind s → Judges j front behind s v → IsOpenFault j v.fault
opened_fault j front behind s v fits base h = record {
  front = front;
  behind = behind;
  state = s;
  base = base;
  fault_is = subst (λ (fs : List FrameData). IsFaultBehind j.header.first front s fs v.fault) (sym (all_behind j front behind fits base.split)) h.fault;
}

pub opened_state : (j : JournalData) (front behind : List Part) (s : State) (v : Judging) → IsBase j (last_of j) front behind s → Judges j front behind s v → v.fault ≡ None → IsOpened j v.stand.state
opened_state j front behind s v base h none = record { front = front; behind = behind; state = s; base = base; after_is = ap (λ (k : Stand State Made). k.state) (h.stands none).is }

-- a replay keeps the size of the RAM
pub snap_some : (h : HeadData) → is_head h ≡ true → 0 < h.front.snap
unfolding is_head
snap_some h e = grind (arith, e)

pub size_kept : (s : State) (es : List (Entry Given Made)) (k : Stand State Made) → 0 < s.snap → Stands timed s es k → length k.state.ram ≡ length s.ram
size_kept s es k some h =
    let f = stands_front timed is_timed s es [] k (subst (λ (l : List (Entry Given Made)). Stands timed s l k) (sym (append-nil es)) h) in
    let same : f.0 ≡ k = cc in
    subst (λ (x : Stand State Made). length x.state.ram ≡ length s.ram) same (all_cost (start s) f.0 es some f.1).front.ram
