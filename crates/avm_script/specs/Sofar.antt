-- What was read of a script so far.
use Rattle.std.specs.Prelude.{ℕ, nat_le, Bool, true, List, [], ◌∷◌, ◌++◌, Option, Some, None, if◌then◌else◌}
use Rattle.avm_num.specs.Bytes.{◌>>=◌, kept}
use Rattle.avm_outside.specs.Feed.{timed}
use Rattle.avm_script.specs.Script.{Line, passed, clock, event, end, ScriptData, script_of, are_passed, next_count}

-- the script, the count of the last event, and whether the end was read
pub record Sofar : Type 0 where
  pub script : ScriptData
  pub last : ℕ
  pub ended : Bool

-- with one more line, where it may come here
abbrev pub step : Sofar → Line → Option Sofar
step s passed = Some s
step s (clock v) = if s.ended then None else Some (record s { script = record (s.script) { clocks = s.script.clocks ++ v ∷ [] } })
step s (event at e) = if s.ended then None else kept (nat_le s.last at) (record s { script = record (s.script) { events = s.script.events ++ timed at e ∷ [] }; last = at })
step s (end c) = if s.ended then None else kept (nat_le s.last c) (record s { script = record (s.script) { ending = c }; ended = true })

-- what follows, joined to what was read
abbrev pub joined : ScriptData → ScriptData → ScriptData
joined a b = record { events = a.events ++ b.events; clocks = a.clocks ++ b.clocks; ending = b.ending }

-- the script of what was read and of the lines behind it
abbrev pub whole : Sofar → List Line → Option ScriptData
whole s lines = if s.ended then kept (are_passed lines) s.script else (script_of lines >>= λ b. kept (nat_le s.last (next_count b)) (joined s.script b))
