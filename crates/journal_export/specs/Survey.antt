-- What a journal's entries tell of a segment, one entry after another.
use Rattle.std.specs.Prelude.{◌≡◌, ℕ, min, List, ◌∷◌, [], ◌++◌, length}
use Rattle.std.specs.List.{flat_map}
use Rattle.avm_model.specs.Entries.{snaps}
use Rattle.avm_model.specs.Frame.{FrameData, frame_bytes}
use Rattle.export_model.specs.Exports.{begins_at}
use Rattle.journal_model.specs.Journal.{JournalData, entries}
use Rattle.jrnl_store.specs.Items.{ItemData}
use Rattle.rebut_model.specs.Texts.{from_number}
use Rattle.rebut_pass.specs.Items.{frame_in}
use Rattle.journal_export.specs.Limits.{most_bytes, most_snaps}
use Rattle.journal_export.specs.Cuts.{IsCut, cut}
use Rattle.journal_export.specs.declared.survey.Survey.{Survey}

-- of the entries so far, behind a hash
pub record IsSurveyed (h : List ℕ) (fs : List FrameData) (v : Survey) : Type 0 where
  pub cut_is : IsCut h fs v.cut
  pub hash_is : v.hash.0 ≡ (from_number v.cut.from h fs).before
  pub begins_is : v.begins ≡ begins_at v.cut.from fs
  pub snaps_is : v.snaps ≡ min most_snaps (snaps (cut v.cut.from v.cut.to h fs))
  pub size_is : v.size ≡ min most_bytes (length (flat_map frame_bytes (cut v.cut.from v.cut.to h fs)))

-- of one entry more
pub record SurveysOn (old : Survey) (f : FrameData) (new : Survey) : Type 0 where
  pub from : new.cut.from ≡ old.cut.from
  pub to : new.cut.to ≡ old.cut.to
  pub surveyed : (h : List ℕ) (fs : List FrameData) → IsSurveyed h fs old → IsSurveyed h (fs ++ f ∷ []) new

-- of one item more
pub record Surveys (old : Survey) (x : ItemData) (new : Survey) : Type 0 where
  pub from : new.cut.from ≡ old.cut.from
  pub to : new.cut.to ≡ old.cut.to
  pub surveyed : (h : List ℕ) (fs : List FrameData) → IsSurveyed h fs old → IsSurveyed h (fs ++ frame_in x) new

-- of all entries
pub record IsSurveyOf (j : JournalData) (from to : ℕ) (v : Survey) : Type 0 where
  pub from_is : v.cut.from ≡ from
  pub to_is : v.cut.to ≡ to
  pub all : IsSurveyed j.header.before (entries j) v
