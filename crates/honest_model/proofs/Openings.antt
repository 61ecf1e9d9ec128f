-- Opening from a base gives what all entries give, where the journal replays whole and each keep is true.
use Rattle.std.proofs.Common.{◌≡◌, ℕ, ◌+◌, ◌≤◌, Bool, true, false, List, [], ◌∷◌, ◌++◌, length, Option, Some, None, refl, sym, ap, subst, ◌∙◌, append_assoc, arith, inl, inr}
use Rattle.std.specs.Prelude.{nat_le, ◌==◌}
use Rattle.std.proofs.lemmas.Bool.{and_parts, le-leb, eqb-true}
use Rattle.std.proofs.lemmas.List.{append-nil}
use Rattle.avm_model.specs.Machine.{State}
use Rattle.avm_model.specs.Frame.{FrameData}
use Rattle.avm_model.specs.Entries.{numbered}
use Rattle.avm_model.specs.Timed.{Entry}
use Rattle.avm_model.specs.Rerun.{Stand, Stands, start, Replays}
use Rattle.avm_model.specs.Reference.{Given, Made, timed, entries_of, IsFaultNumber}
use Rattle.avm_model.specs.Audit.{is_committed, behind_first, commits_to}
use Rattle.avm_model.proofs.ReferenceLaws.{is_timed}
use Rattle.avm_model.proofs.ReplayTheorems.{fault_whole}
use Rattle.honest_model.proofs.Joins.{stands_split}
use Rattle.honest_model.proofs.Logs.{log-append}
use Rattle.honest_model.specs.Honest.{HasFirst, IsFaultByRoot, IsFaultFrom, Leads, header_state, log_of}
use Rattle.honest_model.specs.Keeps.{AreTrue, HasTrueKeeps, IsBase, IsFaultBehind, IsHeaderBase, IsKeepBase, IsOpenFault, IsOpened, IsTrueKeep, content_of, frames_behind, last_frame, last_of, up_to}
use Rattle.journal_model.specs.Header.{HeaderData}
use Rattle.journal_model.specs.Journal.{entries, next_number, JournalData, parts}
use Rattle.journal_model.proofs.Prefixes.{frames_append}
use Rattle.journal_model.specs.Part.{KeepData, Part, entry, frames_in, keep, seal}
use Rattle.journal_model.specs.Standing.{behind}

-- ---- a keep among true ones is true

step_true : (h : HeaderData) (before a b : List Part) (x : Part) (k : KeepData) → IsTrueKeep h ((before ++ x ∷ []) ++ a) k → IsTrueKeep h (before ++ x ∷ a) k
step_true h before a b x k t = subst (λ (ps : List Part). IsTrueKeep h ps k) (append_assoc before (x ∷ []) a) t

pub true_at : (h : HeaderData) (before a b : List Part) (k : KeepData) → AreTrue h before (a ++ keep k ∷ b) → IsTrueKeep h (before ++ a) k
true_at h before [] b k t = subst (λ (ps : List Part). IsTrueKeep h ps k) (sym (append-nil before)) t.0
true_at h before (entry f ∷ a) b k t = step_true h before a b (entry f) k (true_at h (before ++ entry f ∷ []) a b k t)
true_at h before (seal ∷ a) b k t = step_true h before a b seal k (true_at h (before ++ seal ∷ []) a b k t)
true_at h before (keep q ∷ a) b k t = step_true h before a b (keep q) k (true_at h (before ++ keep q ∷ []) a b k t.1)

-- ---- numbers

next_is : (j : JournalData) → next_number j ≡ j.header.first + length (frames_in (parts j))
unfolding next_number entries
next_is j = refl

-- entries of numbers up to the last are all
up_to_all : (fs : List FrameData) (n first : ℕ) → numbered first fs ≡ true → first + length fs ≤ n + 1 → up_to n fs ≡ fs
up_to_all [] n first h le = refl
up_to_all (f ∷ fs) n first h le =
    let p = and_parts (f.seq == first) (numbered (first + 1) fs) h in
    let s : f.seq ≡ first = eqb-true f.seq first p.0 in
    let low : nat_le f.seq n ≡ true = le-leb f.seq n (omega (arith, s)) in
    rw low (ap (λ (xs : List FrameData). f ∷ xs) (up_to_all fs n (first + 1) p.1 (omega arith)))

numbered_behind : (a b : List FrameData) (first : ℕ) → numbered first (a ++ b) ≡ true → numbered (first + length a) b ≡ true
numbered_behind [] b first h = let z : first + 0 ≡ first = omega arith in rw z h
numbered_behind (f ∷ a) b first h =
    let p = and_parts (f.seq == first) (numbered (first + 1) (a ++ b)) h in
    let z : first + length (f ∷ a) ≡ (first + 1) + length a = omega arith in
    rw z (numbered_behind a b (first + 1) p.1)

length_append : (a b : List FrameData) → length (a ++ b) ≡ length a + length b
length_append [] b = omega arith
length_append (f ∷ a) b = let ih = length_append a b in omega (arith, ih)

-- the entries behind the base for the last number are all that stand behind it
all_behind : (j : JournalData) (front behind : List Part) → parts j ≡ front ++ behind → numbered j.header.first (frames_in (parts j)) ≡ true → up_to (last_of j) (frames_in behind) ≡ frames_in behind
all_behind j front behind e h =
    let all : frames_in (parts j) ≡ frames_in front ++ frames_in behind = ap frames_in e ∙ frames_append front behind in
    let h' : numbered j.header.first (frames_in front ++ frames_in behind) ≡ true = rw (← all) h in
    let next : next_number j ≡ j.header.first + length (frames_in (parts j)) = next_is j in
    let len : length (frames_in (parts j)) ≡ length (frames_in front) + length (frames_in behind) = ap length all ∙ length_append (frames_in front) (frames_in behind) in
    up_to_all (frames_in behind) (last_of j) (j.header.first + length (frames_in front)) (numbered_behind (frames_in front) (frames_in behind) j.header.first h') (omega (arith, next, len))

-- ---- what stands behind a base

-- where a log replays there is no fault
no_number : (s : State) (fs : List FrameData) (fault : Option ℕ) → Replays timed s (entries_of fs) → IsFaultNumber s fs fault → fault ≡ None
no_number s fs None r f = refl
no_number s fs (Some n) r f = absurd (fault_whole timed is_timed s (entries_of fs) (length f.before) f.first r)

no_fault_from : (first : ℕ) (s : State) (fs : List FrameData) (fault : Option ℕ) → is_committed s fs ≡ true → Replays timed s (entries_of (behind_first fs)) → IsFaultFrom first s fs fault → fault ≡ None
no_fault_from first s [] fault c r f = f
no_fault_from first s (x ∷ fs) fault c r f = by (is_committed s (x ∷ fs)) c f
  where
    by : (b : Bool) → b ≡ true → IsFaultByRoot b first s (x ∷ fs) fault → fault ≡ None
    by true e g = no_number s fs fault r g
    by false e g = absurd cc

-- what the entries behind a base do
pub record Opens (front behind : List Part) (s to : State) : Type 0 where
  pub stands : Stands timed s (entries_of (frames_behind front behind)) (start to)
  pub committed : front ≡ [] → is_committed s (frames_in behind) ≡ true

behind_keep : (before : List Part) (last : KeepData) (behind : List Part) → frames_behind (before ++ keep last ∷ []) behind ≡ frames_in behind
behind_keep [] last behind = refl
behind_keep (x ∷ before) last behind = refl

some_front : (before : List Part) (last : KeepData) → (before ++ keep last ∷ []) ≡ [] → ⊥
some_front [] last e = absurd cc
some_front (x ∷ before) last e = absurd cc

last_entry : (before : List Part) (last : KeepData) → frames_in (before ++ keep last ∷ []) ≡ frames_in before
last_entry before last = frames_append before (keep last ∷ []) ∙ append-nil (frames_in before)

same_state : (a : Option State) (x y : State) → a ≡ Some x → a ≡ Some y → x ≡ y
same_state a x y e f = let q : Some x ≡ Some y = sym e ∙ f in cc

-- a good keep has a SNAP entry in front of it
first_in : (before : List Part) (s : State) → commits_to s (content_of (last_frame (frames_in before))) ≡ true → HasFirst before
first_in before s h = go (frames_in before) refl h
  where
    go : (fs : List FrameData) → frames_in before ≡ fs → commits_to s (content_of (last_frame fs)) ≡ true → HasFirst before
    go [] e q = absurd cc
    go (f ∷ fs) e q = record { frame = f; frames = fs; is = e }

pub opens_from_keep : (j : JournalData) (from to s : State) (n : ℕ) (front behind : List Part) → header_state j.header ≡ Some from → Leads from (parts j) to → HasTrueKeeps j → parts j ≡ front ++ behind → IsKeepBase j n front s → Opens front behind s to
opens_from_keep j from to s n front behind head leads keeps split base =
    let e : parts j ≡ base.before ++ keep base.last ∷ behind = split ∙ ap (λ (x : List Part). x ++ behind) base.front_is ∙ append_assoc base.before (keep base.last ∷ []) behind in
    let here : AreTrue j.header [] (base.before ++ keep base.last ∷ behind) = subst (λ (ps : List Part). AreTrue j.header [] ps) e keeps in
    let t : IsTrueKeep j.header base.before base.last = true_at j.header [] base.before behind base.last here in
    let same_from : t.from ≡ from = same_state (header_state j.header) t.from from t.header head in
    let same_to : t.to ≡ s = same_state _ t.to s t.state base.good.state in
    let one : Stands timed from (log_of base.before) (start s) = subst (λ (x : State). Stands timed x (log_of base.before) (start s)) same_from (subst (λ (y : State). Stands timed t.from (log_of base.before) (start y)) same_to t.stands) in
    let some = first_in base.before s base.good.committed in
    let more : log_of (parts j) ≡ log_of base.before ++ entries_of (frames_in behind) = ap log_of e ∙ log-append base.before (keep base.last ∷ behind) some in
    let rest : Stands timed s (entries_of (frames_in behind)) (start to) = stands_split timed is_timed from s (log_of base.before) (entries_of (frames_in behind)) (start to) (subst (λ (l : List (Entry Given Made)). Stands timed from l (start to)) more leads.stands) one in
    record {
      stands = subst (λ (fs : List FrameData). Stands timed s (entries_of fs) (start to)) (sym (ap (λ (x : List Part). frames_behind x behind) base.front_is ∙ behind_keep base.before base.last behind)) rest;
      committed = λ empty. absurd (some_front base.before base.last (sym base.front_is ∙ empty));
    }

pub opens_from_header : (j : JournalData) (from to s : State) (front behind : List Part) → header_state j.header ≡ Some from → Leads from (parts j) to → parts j ≡ front ++ behind → IsHeaderBase j front s → Opens front behind s to
opens_from_header j from to s front behind head leads split base =
    let same : from ≡ s = same_state (header_state j.header) from s head base.state in
    let e : parts j ≡ behind = split ∙ ap (λ (x : List Part). x ++ behind) base.front_is in
    let l : Leads s behind to = subst (λ (x : State). Leads x behind to) same (subst (λ (ps : List Part). Leads from ps to) e leads) in
    record {
      stands = subst (λ (x : List Part). Stands timed s (entries_of (frames_behind x behind)) (start to)) (sym base.front_is) l.stands;
      committed = λ empty. l.committed;
    }

pub opens_from : (j : JournalData) (from to s : State) (n : ℕ) (front behind : List Part) → header_state j.header ≡ Some from → Leads from (parts j) to → HasTrueKeeps j → IsBase j n front behind s → Opens front behind s to
opens_from j from to s n front behind head leads keeps base =
    elim base.base [
      | inl h ↦ opens_from_header j from to s front behind head leads base.split h
      | inr k ↦ opens_from_keep j from to s n front behind head leads keeps base.split k
    ]

no_fault_behind : (first : ℕ) (front behind : List Part) (s to : State) (fault : Option ℕ) → Opens front behind s to → IsFaultBehind first front s (frames_in behind) fault → fault ≡ None
no_fault_behind first [] behind s to fault o f = no_fault_from first s (frames_in behind) fault (o.committed refl) o.stands.replays f
no_fault_behind first (x ∷ front) behind s to fault o f = no_number s (frames_in behind) fault o.stands.replays f

-- opening finds no fault
pub opens_well : (j : JournalData) (from to : State) (fault : Option ℕ) → header_state j.header ≡ Some from → Leads from (parts j) to → HasTrueKeeps j → numbered j.header.first (entries j) ≡ true → IsOpenFault j fault → fault ≡ None
unfolding entries
opens_well j from to fault head leads keeps numbers f =
    let o = opens_from j from to f.state (last_of j) f.front f.behind head leads keeps f.base in
    let all = all_behind j f.front f.behind f.base.split numbers in
    no_fault_behind j.header.first f.front f.behind f.state to fault o (subst (λ (fs : List FrameData). IsFaultBehind j.header.first f.front f.state fs fault) all f.fault_is)

-- and gives the machine that all entries give
pub opened_is : (j : JournalData) (from to s : State) → header_state j.header ≡ Some from → Leads from (parts j) to → HasTrueKeeps j → IsOpened j s → s ≡ to
opened_is j from to s head leads keeps o =
    let x = opens_from j from to o.state (last_of j) o.front o.behind head leads keeps o.base in
    o.after_is ∙ sym (ap (λ (k : Stand State Made). k.state) x.stands.is)
