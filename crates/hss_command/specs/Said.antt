-- An end with its line.
use Rattle.std.specs.Prelude.{◌≡◌, string_bytes}
use Rattle.command_parts.specs.Printing.{line}
use Rattle.hss_command.specs.Ends.{text_of}
use Rattle.hss_command.specs.declared.said.Said.{Said}

-- the line is the end's
abbrev pub IsSaid : Said → Type 0
IsSaid s = string_bytes s.line ≡ line (text_of s.end)
