-- The tests of a check.
use Rattle.std.specs.Prelude.{ℕ, ◌==◌, ◌&&◌, not, nat_le, Bool, false, List, Option, Some, None}
use Rattle.std.specs.Str.{bytes_eq}
use Rattle.avm_num.specs.Walk.{behind_of, is_nil}
use Rattle.avm_model.specs.Frame.{frame_at, frames_of}
use Rattle.avm_model.specs.Entries.{numbered}
use Rattle.avm_model.specs.Chain.{top_of}
use Rattle.avm_model.specs.Auth.{AuthData}
use Rattle.avm_model.specs.Audit.{last_number}
use Rattle.avm_model.specs.Marks.{verifies, hash_in}

-- the bytes are frames with numbers from n on
abbrev pub run_on : ℕ → List ℕ → Bool
run_on n bytes = numbered n (frames_of bytes) && is_nil (behind_of frame_at bytes)

abbrev pub is_hash : List ℕ → Option (List ℕ) → Bool
is_hash hash None = false
is_hash hash (Some g) = bytes_eq g hash

abbrev pub double_test : List ℕ → AuthData → AuthData → Bool
double_test key a b = a.seq == b.seq && not (bytes_eq a.hash b.hash) && verifies key a && verifies key b

abbrev pub fork_test : List ℕ → ℕ → List ℕ → List ℕ → AuthData → AuthData → Bool
fork_test key start before bytes top other =
    nat_le start other.seq && nat_le other.seq top.seq && run_on start bytes && (last_number 0 (frames_of bytes) == top.seq) && bytes_eq (top_of before (frames_of bytes)) top.hash
    && not (is_hash other.hash (hash_in other.seq before (frames_of bytes))) && verifies key top && verifies key other
