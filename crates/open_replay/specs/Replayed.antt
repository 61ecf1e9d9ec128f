-- What two readings of a journal tell: its tickets, its base, and the replay from there.
use Rattle.std.specs.Prelude.{◌≡◌, ℕ, ◌*◌, ◌<◌, Bool, true, nat_lt, List, [], ◌∷◌, length, None}
use Rattle.avm_model.specs.Audit.{commits_to}
use Rattle.avm_model.specs.Content.{content_at}
use Rattle.avm_model.specs.Frame.{FrameData}
use Rattle.avm_model.specs.Machine.{State}
use Rattle.honest_model.specs.Keeps.{IsBase, IsOpenFault, IsOpened, frames_behind, kept_ram, last_of}
use Rattle.journal_model.specs.Journal.{JournalData, page_count_of, parts}
use Rattle.journal_model.specs.Part.{Part, keeps_in}
use Rattle.open_keeps.specs.Search.{IsSought}
use Rattle.open_keeps.specs.declared.base.Search.{Search}
use Rattle.open_pass.specs.Tickets.{rows_in}
use Rattle.record_kept.specs.Tickets.{AreKeptOf}
use Rattle.rebut_judge.specs.Judging.{JudgedTo, Judges, Judging, judge_view}
use Rattle.rebut_judge.specs.declared.judge.Judge.{Judge}
use Rattle.open_replay.specs.Running.{frames_past, snaps_in}
use Rattle.open_replay.specs.declared.run.Run.{Run}
use Rattle.open_replay.specs.declared.replaying.Replayed.{Replayed}

-- all parts were gone over, and the tickets are kept
pub record AreSought (j : JournalData) (s : Search) : Type 0 where
  pub sought : IsSought j.header (last_of j) (parts j) s
  pub kept : AreKeptOf (rows_in s.tickets.kept) j
  pub pages : length s.now.ram.dirty ≡ page_count_of j

-- A judge of the entries behind a base with this state: behind the header the first entry is to come; behind a keep its SNAP entry has come.
pub record Starts (s : State) (first keeps : ℕ) (v : Judging) : Type 0 where
  pub header : keeps ≡ 0 → JudgedTo s first [] v
  pub keep : 0 < keeps → (f : FrameData) → commits_to s (content_at f.kind f.content) ≡ true → JudgedTo s first (f ∷ []) v

-- all entries behind so many keeps were judged
pub record AreRun (j : JournalData) (keeps : ℕ) (old : Judge) (r : Run) : Type 0 where
  pub judges : Judges (frames_past keeps (parts j)) (judge_view old) (judge_view r.judge)
  pub snaps : r.snaps ≡ snaps_in (nat_lt 0 keeps) (frames_past keeps (parts j))

-- a SNAP entry other than the journal's first stands behind its base: then the next keep has all pages
abbrev pub HasLaterSnap : JournalData → Bool → Type 0
HasLaterSnap j b = (front : List Part) × (behind : List Part) × (s : State) × IsBase j (last_of j) front behind s × (b ≡ snaps_in true (frames_behind front behind))

-- the tickets, the RAM of all keeps, and the replay from the base
pub record IsReplayed (j : JournalData) (r : Replayed) : Type 0 where
  pub tickets : AreKeptOf (rows_in r.tickets.kept) j
  pub ram : r.ram.bytes ≡ kept_ram j.header.pages (keeps_in (parts j))
  pub pages : length r.ram.dirty ≡ page_count_of j
  pub fault : IsOpenFault j r.run.judge.fault
  pub opened : r.run.judge.fault ≡ None → IsOpened j r.run.judge.replay.stand.state
  pub size : r.run.judge.fault ≡ None → length r.run.judge.replay.stand.state.ram ≡ 4096 * page_count_of j
  pub all : HasLaterSnap j r.run.snaps
