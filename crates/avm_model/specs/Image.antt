-- Images: what a file loads, or why it is refused (docs/FORMATS.md, "Images"). An image is flat bytes, or an executable of
-- the ELF-32 Object File Format, of which the segments to be loaded count alone.
use Rattle.std.specs.Prelude.{ℕ, zero, suc, ◌+◌, ◌-◌, ◌*◌, ◌%◌, ◌^◌, ◌==◌, ◌&&◌, ◌||◌, not, nat_le, nat_lt, Bool, List, [], ◌∷◌, ◌++◌, length, slice_index, slice_range, replicate, Option, Some, None, if◌then◌else◌}
use Rattle.avm_model.specs.Basics.{first_at, or_else}
use Rattle.avm_model.specs.Memory.{number_at, put_at}
use Rattle.avm_model.specs.declared.loading.LoadFault.{LoadFault}
use Rattle.avm_model.specs.declared.loading.LoadFault.TheVariants.{Empty, TooLong, NotElf, NotRiscv32, Compressed, Headers, Segment, Outside, Entry}
use Rattle.avm_model.specs.declared.loading.ProgramHeader.{ProgramHeader}

abbrev pub fault_at : (ℕ → LoadFault) → Option ℕ → Option LoadFault
fault_at fault None = None
fault_at fault (Some i) = Some (fault i)

-- ---- the ELF header

-- 7f 45 4c 46 at the front
abbrev pub is_elf : List ℕ → Bool
is_elf file =
    nat_le 4 (length file) && (slice_index file 0 == 0x7f) && (slice_index file 1 == 0x45) && (slice_index file 2 == 0x4c)
    && (slice_index file 3 == 0x46)

-- 32 bits, little-endian, version 1
abbrev pub is_elf32 : List ℕ → Bool
is_elf32 file =
    nat_le 52 (length file) && is_elf file && (slice_index file 4 == 1) && (slice_index file 5 == 1) && (slice_index file 6 == 1)

-- e_type 2, an executable, and e_machine 243, RISC-V
abbrev pub is_riscv : List ℕ → Bool
is_riscv file = (number_at 2 file 16 == 2) && (number_at 2 file 18 == 243)

-- e_entry
abbrev pub elf_entry : List ℕ → ℕ
elf_entry file = number_at 4 file 24

-- e_phoff
abbrev pub table_of : List ℕ → ℕ
table_of file = number_at 4 file 28

-- bit 0 of e_flags: compressed code
abbrev pub is_compressed : List ℕ → Bool
is_compressed file = number_at 4 file 36 % 2 == 1

-- e_phnum
abbrev pub count_of : List ℕ → ℕ
count_of file = number_at 2 file 44

-- ---- the program headers

abbrev pub header_at : List ℕ → ℕ → ProgramHeader
header_at file at = record {
  kind = number_at 4 file at;
  offset = number_at 4 file (at + 4);
  address = number_at 4 file (at + 8);
  file_size = number_at 4 file (at + 16);
  memory_size = number_at 4 file (at + 20);
}

-- n program headers from a place on
abbrev pub headers_at : List ℕ → ℕ → ℕ → List ProgramHeader
headers_at file at zero = []
headers_at file at (suc n) = header_at file at ∷ headers_at file (at + 32) n

unfoldable pub headers_of : List ℕ → List ProgramHeader
headers_of file = headers_at file (table_of file) (count_of file)

-- e_phentsize 32, 1 to 64 headers, and the table in the file
abbrev pub has_table : List ℕ → Bool
has_table file =
    (number_at 2 file 42 == 32) && nat_le 1 (count_of file) && nat_le (count_of file) 64
    && nat_le (table_of file + 32 * count_of file) (length file)

-- PT_LOAD
abbrev pub is_load : ProgramHeader → Bool
is_load h = h.kind == 1

-- more bytes in the file than in memory, or bytes past the file's end
abbrev pub is_bad : ℕ → ProgramHeader → Bool
is_bad len h =
    is_load h && (nat_lt h.memory_size h.file_size || nat_le 1 h.file_size && nat_lt len (h.offset + h.file_size))

-- not wholly in RAM of this length
abbrev pub is_outside : ℕ → ProgramHeader → Bool
is_outside len h =
    is_load h && nat_le 1 h.memory_size
    && not (nat_le (2 ^ 31) h.address && nat_le (h.address + h.memory_size) (2 ^ 31 + len))

abbrev pub is_entry : ℕ → ℕ → Bool
is_entry len address = (address % 4 == 0) && nat_le (2 ^ 31) address && nat_lt address (2 ^ 31 + len)

-- ---- the first refusal

abbrev pub elf_fault : List ℕ → Option LoadFault
elf_fault file =
    if not (is_elf32 file) then Some NotElf else
    if not (is_riscv file) then Some NotRiscv32 else
    if is_compressed file then Some Compressed else
    if not (has_table file) then Some Headers else
    fault_at Segment (first_at (is_bad (length file)) 0 (headers_of file))

-- what the file alone shows
abbrev pub file_fault : List ℕ → Option LoadFault
file_fault file = if length file == 0 then Some Empty else if is_elf file then elf_fault file else None

-- what shows in RAM of a length
abbrev pub place_fault : ℕ → List ℕ → Option LoadFault
place_fault len file =
    or_else (fault_at Outside (first_at (is_outside len) 0 (headers_of file)))
    (if is_entry len (elf_entry file) then None else Some Entry)

abbrev pub load_fault : ℕ → List ℕ → Option LoadFault
load_fault len file =
    or_else (file_fault file)
    (if is_elf file then place_fault len file else if nat_lt len (length file) then Some TooLong else None)

-- ---- the RAM and the entry

-- the bytes of a segment in memory: those of the file, and zeros behind them
abbrev pub segment_bytes : List ℕ → ProgramHeader → List ℕ
segment_bytes file h =
    slice_range file h.offset (h.offset + h.file_size) ++ replicate (h.memory_size - h.file_size) 0

abbrev pub put_segment : List ℕ → List ℕ → ProgramHeader → List ℕ
put_segment file ram h =
    if is_load h && nat_le 1 h.memory_size then put_at ram (h.address - 2 ^ 31) (segment_bytes file h) else ram

-- a later segment over an earlier one
abbrev pub put_segments : List ℕ → List ℕ → List ProgramHeader → List ℕ
put_segments file ram [] = ram
put_segments file ram (h ∷ hs) = put_segments file (put_segment file ram h) hs

-- a flat image stands at the front
abbrev pub loaded : List ℕ → List ℕ → List ℕ
loaded ram file = if is_elf file then put_segments file ram (headers_of file) else put_at ram 0 file

abbrev pub entry_of : List ℕ → ℕ
entry_of file = if is_elf file then elf_entry file else 2 ^ 31
