-- The machine as a log sees it: inputs and outputs with their counts. A snapshot is put out here without its root.
use Rattle.std.specs.Prelude.{ℕ, ◌==◌, ◌&&◌, Bool, true, false, List, map, Option, Some, None, if◌then◌else◌}
use Rattle.std.specs.Str.{bytes_eq}
use Rattle.avm_model.specs.Machine.{State, Output as OutputOf, Out, Send, Halt, Snap, Stepped, Step, can_step}
use Rattle.avm_model.specs.Input.{InputState, Refusal, Take}
use Rattle.avm_model.specs.Reference.{unless}
use Rattle.avm_model.specs.Timed.{Timed, Entry as EntryOf, given, made}
use Rattle.avm_model.specs.Rerun.{Moment}
use Rattle.avm_plain.specs.Step.{output_of}
use Rattle.avm_plain.specs.Input.{input_of}
use Rattle.avm_plain.specs.declared.entries.Given.{Given}
use Rattle.avm_plain.specs.declared.entries.Made.{Made}
use Rattle.avm_plain.specs.declared.entries.Entry.{Entry}
use Rattle.avm_plain.specs.declared.entries.Entry.TheVariants.{Input, Output}

pub record GivenOf : Type 0 where
  pub count : ℕ
  pub input : InputState

pub record MadeOf : Type 0 where
  pub count : ℕ
  pub output : OutputOf

abbrev pub at_count : ℕ → OutputOf → MadeOf
at_count count output = record { count = count; output = output }

abbrev pub made_by : Stepped → State × List MadeOf
made_by t = (t.state, map (at_count t.state.count) t.outs)

-- a step, where the state can make one
unfoldable pub step_of : State → Option (State × List MadeOf)
step_of s = if can_step s then Some (made_by (Step s)) else None

-- an input, where it is not refused
unfoldable pub take_of : State → GivenOf → Option State
take_of s i = unless (Refusal s i.input) (Take s i.input)

abbrev pub same_output : OutputOf → OutputOf → Bool
same_output (Out a) (Out b) = bytes_eq a b
same_output (Send p k a) (Send q l b) = p == q && k == l && bytes_eq a b
same_output (Halt c v) (Halt d w) = c == d && v == w
same_output Snap Snap = true
same_output _ _ = false

abbrev pub same_made : MadeOf → MadeOf → Bool
same_made a b = a.count == b.count && same_output a.output b.output

abbrev pub plain : Timed State GivenOf MadeOf
plain = record
    { count = λ s. s.count; input_count = λ i. i.count; output_count = λ o. o.count; step = step_of; take = take_of; same = same_made }

-- ---- the program's entries

abbrev pub given_of : Given → GivenOf
given_of g = record { count = g.count; input = input_of g.input }

abbrev pub made_of : Made → MadeOf
made_of m = record { count = m.count; output = output_of m.output }

abbrev pub entry_of : Entry → EntryOf GivenOf MadeOf
entry_of (Input g) = given (given_of g)
entry_of (Output m) = made (made_of m)

-- outputs of a step, with the count after it
abbrev pub stamped : ℕ → List OutputOf → List (EntryOf GivenOf MadeOf)
stamped count outs = map made (map (at_count count) outs)

-- the entries of a run
abbrev pub entries_in : List (Moment State GivenOf MadeOf) → List (EntryOf GivenOf MadeOf)
entries_in moments = map (λ m. m.entry) moments
