-- The three files that a run appends to (docs/FORMATS.md, "Files of a run").
use Rattle.std.specs.Prelude.{◌≡◌, ◌≢◌, ◌⊎◌, ℕ, List, ◌++◌, length, take, Option, None, option_map, if◌then◌else◌}
use Rattle.std.specs.Str.{bytes_eq}
use Rattle.std.specs.Int.{w32}
use Rattle.avm_num.specs.Lists.{be}
use Rattle.avm_outside.specs.Files.{appended}
use Rattle.avm_outside.specs.Outlet.{Piece, packet, console, auth}
use Rattle.file_outlet.specs.FileMap.{FileMap}

-- the files, and the names of the three
pub record Held : Type 0 where
  pub packets : List ℕ
  pub console : List ℕ
  pub auths : List ℕ
  pub files : FileMap

-- the bytes that a piece adds: a packet behind its peer and its length
abbrev pub spelled : Piece → List ℕ
spelled (packet peer bytes) = be w32 peer ++ (be w32 (length bytes) ++ bytes)
spelled (console bytes) = bytes
spelled (auth bytes) = bytes

-- the file that it adds them to
abbrev pub name_of : Piece → Held → List ℕ
name_of (packet peer bytes) h = h.packets
name_of (console bytes) h = h.console
name_of (auth bytes) h = h.auths

-- the file of one name, where the object tells it, as f makes it
abbrev pub changed : (Option (List ℕ) → Option (List ℕ)) → List ℕ → FileMap → FileMap
changed f name files n = if bytes_eq n name then option_map f (files n) else files n

abbrev pub with_bytes : List ℕ → List ℕ → Held → Held
with_bytes bytes name h = record h { files = changed (appended bytes) name h.files }

abbrev pub adding_piece : Piece → Held → Held
adding_piece p h = with_bytes (spelled p) (name_of p h) h

-- as before, or with a front of the piece's bytes
abbrev pub TornPiece : Piece → Held → Held → Type 0
TornPiece p old new = (new ≡ old) ⊎ ((n : ℕ) × (new ≡ with_bytes (take n (spelled p)) (name_of p old) old))

-- what stays under any pieces: the names, and every other file
pub record Stays (old new : Held) : Type 0 where
  pub packets : new.packets ≡ old.packets
  pub console : new.console ≡ old.console
  pub auths : new.auths ≡ old.auths
  pub others : (n : List ℕ) → n ≢ old.packets → n ≢ old.console → n ≢ old.auths → new.files n ≡ old.files n

-- what no piece changes, told or not: the names, and each other file; of the three nothing is said
pub record Others : Type 0 where
  pub packets : List ℕ
  pub console : List ℕ
  pub auths : List ℕ
  pub files : FileMap

-- the files but one
abbrev pub without : List ℕ → FileMap → FileMap
without name files n = if bytes_eq n name then None else files n

abbrev pub others_of : Held → Others
others_of h = record { packets = h.packets; console = h.console; auths = h.auths; files = without h.packets (without h.console (without h.auths h.files)) }
