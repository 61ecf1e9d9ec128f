-- What a disk in memory has gone through by the calls that it keeps, and the images that a crash may leave.
use Rattle.std.specs.Prelude.{zero, suc, if◌then◌else◌, ◌≡◌, ◌<◌, ◌≤◌, ◌+◌, ◌||◌, ◌&&◌, nat_lt, nat_le, Bool, true, false, ℕ, List, [], ◌∷◌, ◌++◌, length, drop, fold, max, slice_index}
use Rattle.avm_outside.specs.Disk.{overwritten}

-- a write of these bytes at a place, one of so many bytes that failed, or a sync
pub data Change : Type 0 where
  wrote : ℕ → List ℕ → Change
  missed : ℕ → ℕ → Change
  synced : Change

-- a call that is kept, by its number
pub record KeptCall : Type 0 where
  pub call : ℕ
  pub change : Change

-- the bytes that are read after a change
abbrev pub read_after : List ℕ → Change → List ℕ
read_after bytes (wrote at new) = overwritten at new bytes
read_after bytes (missed at n) = bytes
read_after bytes synced = bytes

-- a change that leaves the bytes that are read
abbrev pub IsQuiet : Change → Type 0
IsQuiet (wrote at new) = ⊥
IsQuiet (missed at n) = Unit {0}
IsQuiet synced = Unit {0}

-- the places and lengths of the writes since the last sync
abbrev pub ranges_after : List (ℕ × ℕ) → Change → List (ℕ × ℕ)
ranges_after ranges (wrote at new) = ranges ++ (at, length new) ∷ []
ranges_after ranges (missed at n) = ranges ++ (at, n) ∷ []
ranges_after ranges synced = []

-- the length that is read, that at the last sync, and the greatest reached since
pub record Extent : Type 0 where
  pub now : ℕ
  pub least : ℕ
  pub most : ℕ

-- all of so many bytes are synced
abbrev pub settled : ℕ → Extent
settled n = record { now = n; least = n; most = n }

abbrev pub extent_after : Extent → Change → Extent
extent_after x (wrote at new) = record { now = max x.now (at + length new); least = x.least; most = max x.most (at + length new) }
extent_after x (missed at n) = record { now = x.now; least = x.least; most = max x.most (at + n) }
extent_after x synced = settled x.now

-- after those of the kept calls whose numbers are at most this
abbrev pub upto_step : {A : Type 0} → (A → Change → A) → ℕ → A → KeptCall → A
upto_step step calls a e = if nat_le e.call calls then step a e.change else a

unfoldable pub upto : {A : Type 0} → (A → Change → A) → ℕ → A → List KeptCall → A
upto step calls a log = fold (upto_step step calls) a log

-- what a crash starts from: the bytes that are read, the ranges written since the last sync, and the lengths
pub record DiskState : Type 0 where
  pub bytes : List ℕ
  pub ranges : List (ℕ × ℕ)
  pub extent : Extent

abbrev pub state_after : DiskState → Change → DiskState
state_after s e = record { bytes = read_after s.bytes e; ranges = ranges_after s.ranges e; extent = extent_after s.extent e }

-- the state of a disk that began with these bytes, all synced, after so many of its calls
abbrev pub state_upto : List ℕ → ℕ → List KeptCall → DiskState
state_upto base calls log = record {
  bytes = upto read_after calls base log;
  ranges = upto ranges_after calls [] log;
  extent = upto extent_after calls (settled (length base)) log;
}

-- whether a place lies in one of the ranges
abbrev pub is_covered : ℕ → List (ℕ × ℕ) → Bool
is_covered p [] = false
is_covered p (r ∷ ranges) = (nat_le r.0 p && nat_lt p (r.0 + r.1)) || is_covered p ranges

-- an image that a crash in this state may leave
pub record IsImage (s : DiskState) (c : List ℕ) : Type 0 where
  pub no_shorter : s.extent.least ≤ length c
  pub no_longer : length c ≤ s.extent.most
  pub kept : (p : ℕ) → p < s.extent.least → is_covered p s.ranges ≡ false → slice_index c p ≡ slice_index s.bytes p

-- whether a crash may leave any byte at a place
abbrev pub is_free : List (ℕ × ℕ) → ℕ → ℕ → Bool
is_free ranges least p = is_covered p ranges || nat_le least p

-- an image of a length from a place on: its free bytes taken from a list, and 0 where that ends
abbrev pub image_from : List ℕ → List (ℕ × ℕ) → ℕ → ℕ → ℕ → List ℕ → List ℕ
image_from bytes ranges least p zero choice = []
image_from bytes ranges least p (suc n) choice =
    (if is_free ranges least p then slice_index choice 0 else slice_index bytes p)
    ∷ image_from bytes ranges least (p + 1) n (if is_free ranges least p then drop 1 choice else choice)

unfoldable pub image_of : DiskState → ℕ → List ℕ → List ℕ
image_of s len choice = image_from s.bytes s.ranges s.extent.least 0 len choice

-- what a crash after at least t calls might have left
abbrev pub LeftSince : List ℕ → ℕ → List KeptCall → ℕ → List ℕ → Type 0
LeftSince base calls log t c = (k : ℕ) × (t ≤ k) × (k ≤ calls) × IsImage (state_upto base k log) c

-- each kept call is one of the first so many
abbrev pub are_counted : ℕ → List KeptCall → Bool
are_counted calls [] = true
are_counted calls (e ∷ log) = nat_le e.call calls && are_counted calls log

-- what holds of each disk: the calls that it keeps lead to the bytes that are read
pub record IsRun (base : List ℕ) (calls : ℕ) (log : List KeptCall) (bytes : List ℕ) : Type 0 where
  pub counted : are_counted calls log ≡ true
  pub replays : upto read_after calls base log ≡ bytes
  pub long : (upto extent_after calls (settled (length base)) log).now ≡ length bytes
  pub low : (upto extent_after calls (settled (length base)) log).least ≤ length bytes
  pub high : length bytes ≤ (upto extent_after calls (settled (length base)) log).most
