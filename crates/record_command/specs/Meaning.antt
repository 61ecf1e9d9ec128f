-- What the statuses of recording say, and what a crash leaves.
use Rattle.std.specs.Prelude.{◌≡◌, ◌⊎◌, ◌++◌, ℕ, List, [], ◌∷◌, Option, Some, None, IfSome, option_map}
use Rattle.std.specs.List.{concat}
use Rattle.avm_model.specs.Keys.{KeyData}
use Rattle.avm_outside.specs.Outside.{BothTold}
use Rattle.avm_script.specs.Script.{ScriptData}
use Rattle.command_parts.specs.FileMap.{FileMap}
use Rattle.command_parts.specs.Printing.{line}
use Rattle.journal_model.specs.Saving.{CommitRefusal, NoLeaf, NoRoom}
use Rattle.record_model.specs.Recorded.{Drop}
use Rattle.record_run.specs.Lines.{drop_lines}
use Rattle.record_command.specs.Ends.{summary_text, text_of}
use Rattle.record_command.specs.Inputs.{Found, AreFound, Tells}
use Rattle.record_command.specs.Outcomes.{Names, inputs, outputs}
use Rattle.record_command.specs.Runs.{OnStore, Records, Stands, StandsOn, Summed}
use Rattle.record_command.specs.Stores.{RefusesStore}
use Rattle.record_command.specs.declared.ends.End.{End}
use Rattle.record_command.specs.declared.ends.End.TheVariants.{RefusedLeaves, RefusedFull}
use Rattle.record_command.specs.declared.ends.Summary.{Summary}

-- the script is recorded whole on the store of the private key, and sealed; a line tells each dropped event, and the last one sums up
pub record IsDone (names : Names) (old new : FileMap) (was now : Option (List ℕ)) (images : List ℕ → Type 0) (before after : Option (List ℕ)) : Type 0 where
  pub found : Found
  pub key : KeyData
  pub script : ScriptData
  pub drops : List Drop
  pub summary : Summary
  pub are_found : AreFound (inputs names) old found
  pub tells : Tells found key script
  pub records : BothTold was now (λ w n. OnStore key w (Records key script None (outputs names old) (outputs names new) drops (Summed images n drops summary)))
  pub printed : after ≡ option_map (λ out. out ++ concat (drop_lines drops ++ line (summary_text summary) ∷ [])) before

-- the store of the private key isn't opened: nothing changes, and a line says why
pub record IsTurnedAway (names : Names) (old new : FileMap) (was now : Option (List ℕ)) (before after : Option (List ℕ)) : Type 0 where
  pub found : Found
  pub key : KeyData
  pub script : ScriptData
  pub end : End
  pub are_found : AreFound (inputs names) old found
  pub tells : Tells found key script
  pub refuses : IfSome was (λ w. RefusesStore key w end)
  pub disk : now ≡ was
  pub files : new ≡ old
  pub printed : after ≡ option_map (λ out. out ++ concat (line (text_of end) ∷ [])) before

-- how a recording ends whose next batch can't be saved
abbrev pub cut_end : CommitRefusal → End
cut_end NoLeaf = RefusedLeaves
cut_end NoRoom = RefusedFull

-- The recording is cut before the first batch that can't be saved: the disk stands for the journal up to there, the files have appended
-- exactly what was released, and a line tells each event that was dropped; the last line says why.
pub record IsCut (names : Names) (old new : FileMap) (was now : Option (List ℕ)) (images : List ℕ → Type 0) (before after : Option (List ℕ)) : Type 0 where
  pub found : Found
  pub key : KeyData
  pub script : ScriptData
  pub drops : List Drop
  pub stop : CommitRefusal
  pub are_found : AreFound (inputs names) old found
  pub tells : Tells found key script
  pub records : BothTold was now (λ w n. OnStore key w (Records key script (Some stop) (outputs names old) (outputs names new) drops (Stands images n)))
  pub printed : after ≡ option_map (λ out. out ++ concat (drop_lines drops ++ line (text_of (cut_end stop)) ∷ [])) before

-- Recording ends with 0 only where it is done: the disk stood for a journal that the private key may record on and whose entries replay; it
-- stands for the recording of the script on it, sealed; and the three files have exactly what was released appended. It ends with 2 only
-- where the store is refused and nothing changes, or where the recording is cut.
pub record RecordMeans (names : Names) (old new : FileMap) (was now : Option (List ℕ)) (images : List ℕ → Type 0) (before after : Option (List ℕ)) (result : ℕ) : Type 0 where
  pub done : result ≡ 0 → IsDone names old new was now images before after
  pub refused : result ≡ 2 → IsTurnedAway names old new was now before after ⊎ IsCut names old new was now images before after

-- an image stands for a journal of a run of the script that is found, from the journal that the bytes stand for
abbrev pub StandsFrom : Names → FileMap → List ℕ → List ℕ → Type 0
StandsFrom names old was c = (f : Found) × (k : KeyData) × (s : ScriptData) × AreFound (inputs names) old f × Tells f k s × StandsOn k s was c
