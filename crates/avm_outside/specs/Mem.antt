-- What the objects in memory show.
use Rattle.std.specs.Prelude.{◌+◌, ◌-◌, ◌^◌, min, ℕ, List, Option, option_map}
use Rattle.std.specs.BTreeMap.{get_by_text}
use Rattle.avm_outside.specs.declared.mem_sink.MemSink.{MemSink}
use Rattle.avm_outside.specs.declared.mem_files.MemFiles.{MemFiles}
use Rattle.avm_outside.specs.declared.no_disk.NoDisk.{NoDisk}

-- the file of a name, None where it isn't there
abbrev pub mem_file : MemFiles → List ℕ → Option (List ℕ)
mem_file m name = option_map (λ v. v.items) (get_by_text m.files name)

-- the numbers of the calls that fail
abbrev pub files_fails : MemFiles → List ℕ
files_fails m = m.calls.fails.items

-- how many calls there were
abbrev pub files_calls : MemFiles → ℕ
files_calls m = m.calls.calls

abbrev pub files_faults : MemFiles → ℕ
files_faults m = m.calls.faults

abbrev pub sink_bytes : MemSink → List ℕ
sink_bytes s = s.bytes.items

-- the numbers of the calls that fail
abbrev pub sink_fails : MemSink → List ℕ
sink_fails s = s.calls.fails.items

-- how many calls there were
abbrev pub sink_calls : MemSink → ℕ
sink_calls s = s.calls.calls

abbrev pub sink_faults : MemSink → ℕ
sink_faults s = s.calls.faults

abbrev pub no_disk_faults : NoDisk → ℕ
no_disk_faults d = d.faults

-- the number of the next call, which stays at the last value of a u64
abbrev pub next_call : ℕ → ℕ
next_call n = min (n + 1) (2 ^ 64 - 1)
