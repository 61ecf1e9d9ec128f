-- A stream has heard these bytes.
use Rattle.std.specs.Prelude.{◌≡◌, ℕ, false, List, [], ◌++◌, Option, Some, None}
use Rattle.avm_num.specs.Bytes.{IsBytes}
use Rattle.avm_model.specs.Audit.{judged_of}
use Rattle.seg_file.specs.Coming.{Coming, taken}
use Rattle.seg_file.specs.Reading.{Took}
use Rattle.audit_stream.specs.Subject.{IsSubject}
use Rattle.audit_stream.specs.Streaming.{Streaming}
use Rattle.audit_stream.specs.declared.subject.Subject.{Subject}

-- without a subject nothing can be judged, whatever may still come; with one it is what the bytes so far leave
abbrev pub HeardBy : Option Subject → Streaming → List ℕ → List ℕ → List ℕ → Type 0
HeardBy None a key auths bytes = (more : List ℕ) → IsBytes more → (a.begun ≡ false → more ≡ []) → judged_of (bytes ++ more) auths ≡ None
HeardBy (Some s) a key auths bytes = (c : Coming) × (bytes ≡ taken c) × Took a.reader c × IsSubject s key auths c

pub record Heard (a : Streaming) (key auths bytes : List ℕ) : Type 0 where
  pub bytes_are : IsBytes bytes
  pub by : HeardBy a.subject a key auths bytes
