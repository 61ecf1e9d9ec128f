-- What one reading of a journal tells of evidence.
use Rattle.std.specs.Prelude.{◌≡◌, List, [], Option, Some, None, option_map}
use Rattle.avm_model.specs.Audit.{entry_frames}
use Rattle.avm_model.specs.Auth.{AuthData}
use Rattle.avm_model.specs.Evidence.{EvidData, double, fork, replay}
use Rattle.avm_model.specs.Frame.{frames_of}
use Rattle.avm_model.specs.Head.{HeadData}
use Rattle.avm_model.specs.Machine.{State}
use Rattle.avm_model.specs.Segment.{SegmentData, whole_segment_of}
use Rattle.honest_model.specs.Honest.{IsFaultFrom}
use Rattle.journal_model.specs.Journal.{JournalData, entries}
use Rattle.rebut_model.specs.Bound.{is_bound}
use Rattle.rebut_model.specs.Rebuts.{numbered_texts}
use Rattle.rebut_model.specs.Texts.{Texts, first_of_all, differ}
use Rattle.rebut_texts.specs.Found.{found_view}
use Rattle.rebuttal.specs.declared.evidence.Told.{Told}
use Rattle.rebuttal.specs.declared.seen.Seen.{Seen}

-- the texts of a segment's entries
abbrev pub entries_beside : JournalData → Option (SegmentData × HeadData) → List Texts
entries_beside j None = []
entries_beside j (Some p) = numbered_texts j p.0.front.start p.0.front.before (entry_frames p.0)

-- the texts of entries that are compared
abbrev pub entry_part : JournalData → EvidData → List Texts
entry_part j (double key a b) = []
entry_part j (fork key start before frames top other) = numbered_texts j start before (frames_of frames)
entry_part j (replay key segment top) = entries_beside j (whole_segment_of segment)

-- the two authenticators; a replay has one
abbrev pub first_auth : EvidData → AuthData
first_auth (double key a b) = a
first_auth (fork key start before frames top other) = top
first_auth (replay key segment top) = top

abbrev pub second_auth : EvidData → AuthData
second_auth (double key a b) = b
second_auth (fork key start before frames top other) = other
second_auth (replay key segment top) = top

-- the numbers from which on the evidence's entries are compared, the hash before them, and their frames
abbrev pub TellsEntries : EvidData → Told → Type 0
TellsEntries e t = (j : JournalData) → numbered_texts j t.start t.before.0 (frames_of t.frames.now) ≡ entry_part j e

-- whether the journal replays, whether the two are bound, and the first texts of entries that differ
pub record IsSeen (s : State) (j : JournalData) (e : EvidData) (x : Seen) : Type 0 where
  pub fault : IsFaultFrom j.header.first s (entries j) x.fault
  pub one : x.one ≡ is_bound j (first_auth e)
  pub two : x.two ≡ is_bound j (second_auth e)
  pub found : option_map found_view x.found ≡ first_of_all differ (entry_part j e)
