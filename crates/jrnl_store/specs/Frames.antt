-- An entry that was sought by its number.
use Rattle.std.specs.Prelude.{ℕ, List, [], Option}
use Rattle.avm_model.specs.Frame.{FrameData}
use Rattle.jrnl_store.specs.Items.{held_items, frame_numbered}
use Rattle.jrnl_store.specs.declared.cursor.Sought.{Sought}

-- what the buffer holds of it
abbrev pub sought_frame : List ℕ → Sought → Option FrameData
sought_frame buffer s = frame_numbered s.number (held_items buffer s.held)

-- what is shown where it isn't there
abbrev pub no_frame : ℕ → FrameData
no_frame n = record { seq = n; kind = 0; content = [] }
