-- A segment's file while it is written.
use Rattle.std.specs.Prelude.{◌≡◌, ℕ, List, ◌++◌, Option}
use Rattle.std.specs.List.{flat_map}
use Rattle.avm_model.specs.Frame.{FrameData, frame_bytes}
use Rattle.evid_file.specs.Pieces.{Written}
use Rattle.jrnl_store.specs.Items.{ItemData}
use Rattle.rebut_pass.specs.Items.{frame_in}
use Rattle.journal_export.specs.Cuts.{IsCut, cut}
use Rattle.journal_export.specs.declared.cut.Cut.{Cut}

-- the file, with what waits behind it, is these bytes
pub record Holds (bytes waiting : List ℕ) (before now : Option (Option (List ℕ))) : Type 0 where
  pub first : List ℕ
  pub written : Written first before now
  pub all : first ++ waiting ≡ bytes

-- bytes more
abbrev pub Adds : List ℕ → List ℕ → List ℕ → Option (Option (List ℕ)) → Option (Option (List ℕ)) → Type 0
Adds more old_waiting waiting old now = (before : Option (Option (List ℕ))) (bytes : List ℕ) → Holds bytes old_waiting before old → Holds (bytes ++ more) waiting before now

-- which entries belong to the segment, what waits, and the file
pub record Writing : Type 0 where
  pub part : Cut
  pub waiting : List ℕ
  pub file : Option (Option (List ℕ))

abbrev pub writing : Cut → List ℕ → Option (Option (List ℕ)) → Writing
writing c waiting file = record { part = c; waiting = waiting; file = file }

-- the segment's entries among those so far, behind a hash, stand behind these bytes
pub record IsWriting (h : List ℕ) (fs : List FrameData) (top : List ℕ) (before : Option (Option (List ℕ))) (w : Writing) : Type 0 where
  pub cut_is : IsCut h fs w.part
  pub holds : Holds (top ++ flat_map frame_bytes (cut w.part.from w.part.to h fs)) w.waiting before w.file

-- one item more
pub record Writes (old : Writing) (x : ItemData) (new : Writing) : Type 0 where
  pub from : new.part.from ≡ old.part.from
  pub to : new.part.to ≡ old.part.to
  pub writes : (h : List ℕ) (fs : List FrameData) (top : List ℕ) (before : Option (Option (List ℕ))) → IsWriting h fs top before old → IsWriting h (fs ++ frame_in x) top before new
