-- A case of the verdict's table, from its parts.
use Rattle.std.specs.Prelude.{ℕ, Bool, List, Option}
use Rattle.avm_model.specs.Frame.{FrameData}
use Rattle.avm_model.specs.Auth.{AuthData}
use Rattle.avm_model.specs.Verdict.{Case}

abbrev pub case_from : List ℕ → ℕ → ℕ → List ℕ → List FrameData → Bool → Option ℕ → List AuthData → Case
case_from key first last before frames committed fault auths = record { key = key; first = first; last = last; before = before; frames = frames; committed = committed; fault = fault; auths = auths }
