-- Entries as a cheat writes them.
use Rattle.std.specs.Prelude.{◌≡◌, ℕ, Bool, true, false, List, ◌++◌}
use Rattle.avm_num.specs.Lists.{list_bytes}
use Rattle.avm_model.specs.Audit.{last_number}
use Rattle.avm_model.specs.Chain.{next_hash, top_of}
use Rattle.avm_model.specs.Frame.{FrameData, frame_bytes}
use Rattle.sample_lines.specs.Judging.{with_raised}
use Rattle.sample_judge.specs.declared.cheating.Draft.{Draft}

-- one entry more
pub record Drafts (old : Draft) (f : FrameData) (new : Draft) : Type 0 where
  pub bytes : new.bytes.items ≡ old.bytes.items ++ frame_bytes f
  pub hash : new.hash.0 ≡ next_hash old.hash.0 f
  pub last : new.last ≡ f.seq

-- entries that are still to be written: the first OUT among them is raised, where none was
abbrev pub still : Bool → List FrameData → List FrameData
still true fs = fs
still false fs = with_raised fs

-- the entries behind a hash, the first OUT raised
pub record IsDraftOf (h : List ℕ) (fs : List FrameData) (d : Draft) : Type 0 where
  pub bytes : d.bytes.items ≡ list_bytes frame_bytes (with_raised fs)
  pub hash : d.hash.0 ≡ top_of h (with_raised fs)
  pub last : d.last ≡ last_number 0 fs
