-- Which pages an image marks in RAM: those in which its bytes, or the zeros behind a segment's, are put.
use Rattle.std.specs.Prelude.{ℕ, ◌+◌, ◌-◌, ◌^◌, ◌&&◌, nat_le, Bool, List, [], ◌∷◌, length, if◌then◌else◌}
use Rattle.avm_model.specs.Memory.{marked_range}
use Rattle.avm_model.specs.Image.{is_load, is_elf, headers_of}
use Rattle.avm_model.specs.declared.loading.ProgramHeader.{ProgramHeader}

-- the pages of a segment's bytes of the file, and those of the zeros behind them
abbrev pub mark_segment : List Bool → ProgramHeader → List Bool
mark_segment dirty h =
    if is_load h && nat_le 1 h.memory_size then
    marked_range (marked_range dirty (h.address - 2 ^ 31) h.file_size) (h.address - 2 ^ 31 + h.file_size) (h.memory_size - h.file_size)
    else dirty

abbrev pub mark_segments : List Bool → List ProgramHeader → List Bool
mark_segments dirty [] = dirty
mark_segments dirty (h ∷ hs) = mark_segments (mark_segment dirty h) hs

-- a flat image stands at the front
abbrev pub loaded_marks : List Bool → List ℕ → List Bool
loaded_marks dirty file = if is_elf file then mark_segments dirty (headers_of file) else marked_range dirty 0 (length file)
