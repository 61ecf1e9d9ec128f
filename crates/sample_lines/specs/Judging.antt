-- A sample's run judged, and the lines that are printed of it (docs/FORMATS.md, "The sample").
use Rattle.std.specs.Prelude.{◌≡◌, ℕ, ◌+◌, ◌==◌, ◌&&◌, nat_le, Bool, true, false, codes, List, [], ◌∷◌, ◌++◌, Option, None, Some, if◌then◌else◌}
use Rattle.std.specs.Fmt.{decimal}
use Rattle.avm_num.specs.Lists.{list_bytes}
use Rattle.avm_model.specs.Audit.{IsVerdict, entry_frames, judged_of, last_number}
use Rattle.avm_model.specs.Auth.{AuthData, auth_bytes, signed_text_of}
use Rattle.avm_model.specs.Chain.{top_of}
use Rattle.avm_model.specs.Content.{ContentData, content_at, content_bytes, out}
use Rattle.avm_model.specs.Entries.{snaps}
use Rattle.avm_model.specs.Evidence.{EvidData, evidence_bytes}
use Rattle.avm_model.specs.Frame.{FrameData, frame_bytes}
use Rattle.avm_model.specs.Head.{HeadData}
use Rattle.avm_model.specs.Holds.{Stands}
use Rattle.avm_model.specs.Keys.{KeyData, public_of, sig_of}
use Rattle.avm_model.specs.Segment.{SegmentData, segment_bytes, whole_segment_of}
use Rattle.avm_model.specs.declared.judged.Verdict.{Verdict}
use Rattle.avm_model.specs.declared.judged.Verdict.TheVariants.{Accepted}
use Rattle.audit_command.specs.Audit.{evidence_for}
use Rattle.audit_command.specs.Ends.{text_of_verdict}
use Rattle.export_model.specs.Exports.{Answer, IsExport, exported}
use Rattle.honest_model.specs.Keeps.{last_of}
use Rattle.journal_model.specs.Journal.{JournalData, entries, used}
use Rattle.rebut_command.specs.Judging.{JudgedData, OpenEnds, answered, refused}
use Rattle.rebut_command.specs.Lines.{text_of}
use Rattle.rebut_model.specs.Rebuts.{collision, forged}
use Rattle.record_model.specs.Recorded.{Run}
use Rattle.sample_model.specs.Start.{own_key}
use Rattle.sample_model.specs.Talk.{IsSample, released_by}

-- the lines without their byte 10, and the status
pub record Ending : Type 0 where
  pub lines : List (List ℕ)
  pub status : ℕ

abbrev pub ended : ℕ → List (List ℕ) → Ending
ended status lines = record { lines = lines; status = status }

-- ---- the journal's numbers

-- the number of the first SNAP, or 0
abbrev pub first_snap : List FrameData → ℕ
first_snap [] = 0
first_snap (f ∷ fs) = if f.kind == 2 then f.seq else first_snap fs

-- what the run of a seed has left
pub record Subject : Type 0 where
  pub seed : ℕ
  pub last : Run

abbrev pub journal : Subject → JournalData
journal x = x.last.recording.journal

abbrev pub snap_count : Subject → ℕ
snap_count x = snaps (entries (journal x))

abbrev pub middle : Subject → ℕ
middle x = first_snap (entries (journal x))

-- it has 3 SNAP, and has used 301 leaves
abbrev pub is_full : Subject → Bool
is_full x = snap_count x == 3 && used (journal x) == 301

abbrev pub key : Subject → List ℕ
key x = public_of (own_key x.seed)

-- ---- its segments

-- the first authenticator of a seal that was released, or nothing
abbrev pub first_or_none : List (List ℕ) → List ℕ
first_or_none [] = []
first_or_none (a ∷ auths) = a

-- it is the last entry's, and counts where that one is among the entries from..to
abbrev pub auths_for : Subject → ℕ → ℕ → List ℕ
auths_for x from to = if nat_le from (last_of (journal x)) && nat_le (last_of (journal x)) to then first_or_none (released_by x.last).auths else []

-- ---- the cheat

-- an OUT with its count raised by 1
abbrev pub raised_by : FrameData → Option ContentData → FrameData
raised_by f (Some (out count bytes)) = record f { content = content_bytes (out (count + 1) bytes) }
raised_by f content = f

abbrev pub raised : FrameData → FrameData
raised f = raised_by f (content_at f.kind f.content)

-- the first OUT of entries so
abbrev pub with_raised : List FrameData → List FrameData
with_raised [] = []
with_raised (f ∷ fs) = if f.kind == 7 then raised f ∷ fs else f ∷ with_raised fs

abbrev pub has_out : List FrameData → Bool
has_out [] = false
has_out (f ∷ fs) = if f.kind == 7 then true else has_out fs

abbrev pub cheat : SegmentData → SegmentData
cheat s = record s { frames = list_bytes frame_bytes (with_raised (entry_frames s)) }

-- the last leaf, which the store doesn't use
abbrev pub cheat_leaf : ℕ
cheat_leaf = 1023

abbrev pub cheat_hash : SegmentData → List ℕ
cheat_hash s = top_of s.front.before (with_raised (entry_frames s))

-- the last entry's, signed by the first node's key
abbrev pub cheat_auth : KeyData → SegmentData → AuthData
cheat_auth k s = record {
  seq = last_number 0 (entry_frames s);
  hash = cheat_hash s;
  sig = sig_of k cheat_leaf (signed_text_of (last_number 0 (entry_frames s)) (cheat_hash s));
}

-- ---- the lines

abbrev pub seed_line : ℕ → List ℕ
seed_line seed = codes "sample seed " ++ decimal seed

abbrev pub numbers_line : Subject → List ℕ
numbers_line x =
    codes "entries " ++ (decimal (last_of (journal x)) ++ (codes " snaps " ++ (decimal (snap_count x)
    ++ (codes " leaves " ++ (decimal (used (journal x)) ++ (codes " steps " ++ decimal x.last.recording.machine.count))))))

-- a verdict; of an accepted segment the word alone
abbrev pub verdict_word : Verdict → List ℕ
verdict_word (Accepted first last cover) = codes "accepted"
verdict_word v = text_of_verdict v

abbrev pub segment_line : ℕ → Verdict → List ℕ
segment_line n v = codes "segment " ++ (decimal n ++ (codes " " ++ verdict_word v))

abbrev pub cheat_line : Verdict → List ℕ
cheat_line v = codes "cheat " ++ text_of_verdict v

-- an answer; of a collision the word alone
abbrev pub answer_word : JudgedData → List ℕ
answer_word (refused r) = text_of r
answer_word (answered (forged k)) = codes "forged " ++ decimal k
answer_word (answered (collision a b)) = codes "collision"

abbrev pub rebut_line : JudgedData → List ℕ
rebut_line d = codes "rebut " ++ answer_word d

abbrev pub first_lines : Subject → List (List ℕ)
first_lines x = seed_line x.seed ∷ numbers_line x ∷ []

-- ---- how it ends

-- The evidence stands, and is answered by the store. A cheat that shows no fault has none.
abbrev pub EvidenceEnds : Subject → List (List ℕ) → Option EvidData → Ending → Type 0
EvidenceEnds x said None e = e ≡ ended 0 (said ++ codes "check refused" ∷ [])
EvidenceEnds x said (Some evidence) e =
    Stands (key x) (evidence_bytes evidence)
    × (d : JudgedData) × OpenEnds (journal x) evidence d × (e ≡ ended 0 (said ++ codes "check stands" ∷ rebut_line d ∷ []))

-- the cheat's verdict, by its bytes and its authenticator's
abbrev pub CheatEnds : Subject → List (List ℕ) → List ℕ → List ℕ → Ending → Type 0
CheatEnds x said bytes auths e =
    (v : Verdict) × IsVerdict (key x) bytes auths v × EvidenceEnds x (said ++ cheat_line v ∷ []) (evidence_for (key x) (judged_of bytes auths) v) e

abbrev pub CheatBy : Bool → Subject → List (List ℕ) → SegmentData → Ending → Type 0
CheatBy false x said s e = e ≡ ended 2 said
CheatBy true x said s e = CheatEnds x said (segment_bytes (cheat s)) (auth_bytes (cheat_auth (own_key x.seed) s)) e

-- the first segment's cheat; where it has no OUT there is none
abbrev pub SegmentEnds : Subject → List (List ℕ) → List ℕ → Ending → Type 0
SegmentEnds x said bytes e =
    (s : SegmentData) × (h : HeadData) × (whole_segment_of bytes ≡ Some (s, h)) × CheatBy (has_out (entry_frames s)) x said s e

-- by the second segment, where it is exported
abbrev pub SecondEnds : Subject → List (List ℕ) → List ℕ → Answer → Ending → Type 0
SecondEnds x said first (exported bytes) e =
    (v : Verdict) × IsVerdict (key x) bytes (auths_for x (middle x) (last_of (journal x))) v × SegmentEnds x (said ++ segment_line 2 v ∷ []) first e
SecondEnds x said first answer e = e ≡ ended 2 said

-- by the first segment, where it is exported
abbrev pub FirstEnds : Subject → Answer → Ending → Type 0
FirstEnds x (exported bytes) e =
    (v : Verdict) × IsVerdict (key x) bytes (auths_for x 1 (middle x)) v
    × (second : Answer) × IsExport (journal x) (middle x) (last_of (journal x)) second × SecondEnds x (first_lines x ++ segment_line 1 v ∷ []) bytes second e
FirstEnds x answer e = e ≡ ended 2 (first_lines x)

abbrev pub NumbersEnd : Bool → Subject → Ending → Type 0
NumbersEnd false x e = e ≡ ended 2 (first_lines x)
NumbersEnd true x e = (first : Answer) × IsExport (journal x) 1 (middle x) first × FirstEnds x first e

-- by the journal that the run left and its machine's count
abbrev pub JudgedTo : Subject → Ending → Type 0
JudgedTo x e = NumbersEnd (is_full x) x e

-- what the sample of a seed prints, and its status
pub record SampleEnds (seed : ℕ) (e : Ending) : Type 0 where
  pub last : Run
  pub run : IsSample seed last
  pub judged : JudgedTo (record { seed = seed; last = last }) e
