-- What the words of a command line ask for: one entry a command, and the first entry of the command's name counts.
use Rattle.std.specs.Prelude.{ℕ, ◌^◌, ◌==◌, ◌||◌, ◌&&◌, nat_le, List, [], ◌∷◌, ◌++◌, Option, Some, None, is_some, if◌then◌else◌, codes}
use Rattle.std.specs.Option.{option_to_list}
use Rattle.std.specs.Str.{bytes_eq}
use Rattle.std.specs.Int.{w32, from_be_bytes}
use Rattle.avm_num.specs.Bytes.{◌>>=◌, kept}
use Rattle.avm_model.specs.Words.{number_of, hex_sized, are_distinct, are_pairs, optional, needed}

-- the three names that an audit with a key takes
pub record SignedData : Type 0 where
  pub key : List ℕ
  pub auths : List ℕ
  pub evidence : List ℕ

-- a job: its command, with names, numbers and bytes in the order of the options below
pub data JobData : Type 0 where
  keygen : ℕ → ℕ → List ℕ → List ℕ → List ℕ → List ℕ → JobData
  format : List ℕ → List ℕ → List ℕ → List ℕ → JobData
  record_job : List ℕ → List ℕ → List ℕ → List ℕ → List ℕ → List ℕ → JobData
  export : List ℕ → ℕ → ℕ → List ℕ → JobData
  audit : List ℕ → Option (List ℕ) → Option SignedData → JobData
  check : List ℕ → List ℕ → JobData
  rebut : List ℕ → List ℕ → JobData
  list : List ℕ → JobData
  sample : ℕ → JobData
  retain : List ℕ → List ℕ → ℕ → JobData
  roll : List ℕ → List ℕ → JobData
  enroll : List ℕ → List ℕ → List ℕ → List ℕ → JobData
  widen : List ℕ → List ℕ → List ℕ → JobData
  narrow : List ℕ → List ℕ → List ℕ → List ℕ → JobData
  view_at : List ℕ → ℕ → ℕ → ℕ → JobData
  view_changes : List ℕ → ℕ → JobData

-- a command: its name, its options, and the job that the options' values give
pub record Command : Type 0 where
  pub name : List ℕ
  pub options : List (List ℕ)
  pub job : List (List ℕ) → Option JobData

abbrev pub height_of : List ℕ → Option ℕ
height_of text = number_of (2 ^ 64) text >>= λ n. kept (n == 5 || n == 10 || n == 15) n

abbrev pub width_of : List ℕ → Option ℕ
width_of text = number_of (2 ^ 64) text >>= λ n. kept (n == 1 || n == 2 || n == 4 || n == 8) n

unfoldable pub keygen_job : List (List ℕ) → Option JobData
keygen_job words = do
  height ← needed (codes "--height") words >>= height_of
  w ← needed (codes "--w") words >>= width_of
  id ← needed (codes "--id") words >>= hex_sized 16
  seed ← needed (codes "--seed") words >>= hex_sized 32
  key ← needed (codes "--key") words
  public ← needed (codes "--public") words
  kept (are_distinct (key ∷ public ∷ [])) (keygen height w id seed key public)

abbrev pub keygen_command : Command
keygen_command = record { name = codes "keygen"; options = codes "--height" ∷ codes "--w" ∷ codes "--id" ∷ codes "--seed" ∷ codes "--key" ∷ codes "--public" ∷ []; job = keygen_job }

unfoldable pub format_job : List (List ℕ) → Option JobData
format_job words = do
  store ← needed (codes "--store") words
  key ← needed (codes "--key") words
  config ← needed (codes "--config") words
  image ← needed (codes "--image") words
  kept (are_distinct (store ∷ key ∷ config ∷ image ∷ [])) (format store key config image)

abbrev pub format_command : Command
format_command = record { name = codes "format"; options = codes "--store" ∷ codes "--key" ∷ codes "--config" ∷ codes "--image" ∷ []; job = format_job }

unfoldable pub record_words : List (List ℕ) → Option JobData
record_words words = do
  store ← needed (codes "--store") words
  key ← needed (codes "--key") words
  script ← needed (codes "--script") words
  packets ← needed (codes "--packets") words
  console ← needed (codes "--console") words
  auths ← needed (codes "--auths") words
  kept (are_distinct (store ∷ key ∷ script ∷ packets ∷ console ∷ auths ∷ [])) (record_job store key script packets console auths)

abbrev pub record_command : Command
record_command = record { name = codes "record"; options = codes "--store" ∷ codes "--key" ∷ codes "--script" ∷ codes "--packets" ∷ codes "--console" ∷ codes "--auths" ∷ []; job = record_words }

unfoldable pub export_job : List (List ℕ) → Option JobData
export_job words = do
  store ← needed (codes "--store") words
  from ← needed (codes "--from") words >>= number_of (2 ^ 64)
  to ← needed (codes "--to") words >>= number_of (2 ^ 64)
  segment ← needed (codes "--segment") words
  kept (are_distinct (store ∷ segment ∷ [])) (export store from to segment)

abbrev pub export_command : Command
export_command = record { name = codes "export"; options = codes "--store" ∷ codes "--from" ∷ codes "--to" ∷ codes "--segment" ∷ []; job = export_job }

-- all three names, or none of them
abbrev pub all_or_none : Option (List ℕ) → Option (List ℕ) → Option (List ℕ) → Option (Option SignedData)
all_or_none (Some key) (Some auths) (Some evidence) = Some (Some (record { key = key; auths = auths; evidence = evidence }))
all_or_none None None None = Some None
all_or_none key auths evidence = None

abbrev pub signed_names : Option SignedData → List (List ℕ)
signed_names None = []
signed_names (Some signed) = signed.key ∷ signed.auths ∷ signed.evidence ∷ []

unfoldable pub signed_of : List (List ℕ) → Option (Option SignedData)
signed_of words = do
  key ← optional (codes "--key") words
  auths ← optional (codes "--auths") words
  evidence ← optional (codes "--evidence") words
  all_or_none key auths evidence

unfoldable pub audit_job : List (List ℕ) → Option JobData
audit_job words = do
  segment ← needed (codes "--segment") words
  image ← optional (codes "--image") words
  signed ← signed_of words
  kept (are_distinct (segment ∷ (option_to_list image ++ signed_names signed))) (audit segment image signed)

abbrev pub audit_command : Command
audit_command = record { name = codes "audit"; options = codes "--segment" ∷ codes "--image" ∷ codes "--key" ∷ codes "--auths" ∷ codes "--evidence" ∷ []; job = audit_job }

unfoldable pub check_job : List (List ℕ) → Option JobData
check_job words = do
  key ← needed (codes "--key") words
  evidence ← needed (codes "--evidence") words
  kept (are_distinct (key ∷ evidence ∷ [])) (check key evidence)

abbrev pub check_command : Command
check_command = record { name = codes "check"; options = codes "--key" ∷ codes "--evidence" ∷ []; job = check_job }

unfoldable pub rebut_job : List (List ℕ) → Option JobData
rebut_job words = do
  store ← needed (codes "--store") words
  evidence ← needed (codes "--evidence") words
  kept (are_distinct (store ∷ evidence ∷ [])) (rebut store evidence)

abbrev pub rebut_command : Command
rebut_command = record { name = codes "rebut"; options = codes "--store" ∷ codes "--evidence" ∷ []; job = rebut_job }

unfoldable pub list_job : List (List ℕ) → Option JobData
list_job words = needed (codes "--store") words >>= λ store. Some (list store)

abbrev pub list_command : Command
list_command = record { name = codes "list"; options = codes "--store" ∷ []; job = list_job }

unfoldable pub sample_job : List (List ℕ) → Option JobData
sample_job words = needed (codes "--seed") words >>= λ text. number_of (2 ^ 32) text >>= λ seed. Some (sample seed)

abbrev pub sample_command : Command
sample_command = record { name = codes "sample"; options = codes "--seed" ∷ []; job = sample_job }

unfoldable pub retain_job : List (List ℕ) → Option JobData
retain_job words = do
  store ← needed (codes "--store") words
  into ← needed (codes "--into") words
  at ← needed (codes "--at") words >>= number_of (2 ^ 64)
  kept (are_distinct (store ∷ into ∷ [])) (retain store into at)

abbrev pub retain_command : Command
retain_command = record { name = codes "retain"; options = codes "--store" ∷ codes "--into" ∷ codes "--at" ∷ []; job = retain_job }

unfoldable pub roll_job : List (List ℕ) → Option JobData
roll_job words = do
  store ← needed (codes "--store") words
  key ← needed (codes "--key") words
  kept (are_distinct (store ∷ key ∷ [])) (roll store key)

abbrev pub roll_command : Command
roll_command = record { name = codes "roll"; options = codes "--store" ∷ codes "--key" ∷ []; job = roll_job }

unfoldable pub enroll_job : List (List ℕ) → Option JobData
enroll_job words = do
  store ← needed (codes "--store") words
  key ← needed (codes "--key") words
  public ← needed (codes "--public") words
  endorse ← needed (codes "--endorse") words
  kept (are_distinct (store ∷ key ∷ public ∷ endorse ∷ [])) (enroll store key public endorse)

abbrev pub enroll_command : Command
enroll_command = record { name = codes "enroll"; options = codes "--store" ∷ codes "--key" ∷ codes "--public" ∷ codes "--endorse" ∷ []; job = enroll_job }

unfoldable pub widen_job : List (List ℕ) → Option JobData
widen_job words = do
  endorse ← needed (codes "--endorse") words
  auths ← needed (codes "--auths") words
  out ← needed (codes "--out") words
  kept (are_distinct (endorse ∷ auths ∷ out ∷ [])) (widen endorse auths out)

abbrev pub widen_command : Command
widen_command = record { name = codes "widen"; options = codes "--endorse" ∷ codes "--auths" ∷ codes "--out" ∷ []; job = widen_job }

unfoldable pub narrow_job : List (List ℕ) → Option JobData
narrow_job words = do
  key ← needed (codes "--key") words
  auths ← needed (codes "--auths") words
  public ← needed (codes "--public") words
  out ← needed (codes "--out") words
  kept (are_distinct (key ∷ auths ∷ public ∷ out ∷ [])) (narrow key auths public out)

abbrev pub narrow_command : Command
narrow_command = record { name = codes "narrow"; options = codes "--key" ∷ codes "--auths" ∷ codes "--public" ∷ codes "--out" ∷ []; job = narrow_job }

-- an address in eight hexadecimal digits
unfoldable pub address_of : List ℕ → Option ℕ
address_of text = hex_sized 4 text >>= λ bytes. Some (from_be_bytes w32 bytes)

-- how many words are shown
abbrev pub words_of : List ℕ → Option ℕ
words_of text = number_of (2 ^ 64) text >>= λ n. kept (nat_le 1 n && nat_le n 4096) n

-- an address and a number of words, both or neither; neither stands as 0 and 0
abbrev pub window_of : Option (List ℕ) → Option (List ℕ) → Option (ℕ × ℕ)
window_of None None = Some (0, 0)
window_of (Some from) (Some count) = address_of from >>= λ a. words_of count >>= λ n. Some (a, n)
window_of from count = None

-- the state at a count, with a window or without
unfoldable pub view_at_job : List (List ℕ) → Option JobData
view_at_job words = do
  segment ← needed (codes "--segment") words
  count ← needed (codes "--count") words >>= number_of (2 ^ 64)
  from ← optional (codes "--from") words
  shown ← optional (codes "--words") words
  window ← window_of from shown
  Some (view_at segment count window.0 window.1)

-- the changes of a word
unfoldable pub view_changes_job : List (List ℕ) → Option JobData
view_changes_job words = do
  segment ← needed (codes "--segment") words
  at ← needed (codes "--changes") words >>= address_of
  Some (view_changes segment at)

abbrev pub view_at_options : List (List ℕ)
view_at_options = codes "--segment" ∷ codes "--count" ∷ codes "--from" ∷ codes "--words" ∷ []

abbrev pub view_changes_options : List (List ℕ)
view_changes_options = codes "--segment" ∷ codes "--changes" ∷ []

-- one of the two forms
unfoldable pub view_job : List (List ℕ) → Option JobData
view_job words = if are_pairs view_at_options words then view_at_job words else if are_pairs view_changes_options words then view_changes_job words else None

abbrev pub view_command : Command
view_command = record { name = codes "view"; options = codes "--segment" ∷ codes "--count" ∷ codes "--from" ∷ codes "--words" ∷ codes "--changes" ∷ []; job = view_job }

-- every command
abbrev pub commands : List Command
commands =
    keygen_command ∷ format_command ∷ record_command ∷ export_command ∷ audit_command ∷ check_command ∷ rebut_command ∷ list_command ∷ sample_command ∷ retain_command
    ∷ roll_command ∷ enroll_command ∷ widen_command ∷ narrow_command ∷ view_command ∷ []

-- the job of a command's words: pairs of its options and values, none of them unknown
unfoldable pub asked_of : Command → List (List ℕ) → Option JobData
asked_of command words = if are_pairs command.options words then command.job words else None

-- the job by the first command of that name
abbrev pub first_asked : List ℕ → List (List ℕ) → List Command → Option JobData
first_asked name words [] = None
first_asked name words (command ∷ others) = if bytes_eq name command.name then asked_of command words else first_asked name words others

-- the job that the words name, or none
unfoldable pub job_of : List (List ℕ) → Option JobData
job_of [] = None
job_of (name ∷ words) = first_asked name words commands

-- the value behind an option of a valid job; none where the words are no job, or lack the option
unfoldable pub value_of : List ℕ → List (List ℕ) → Option (List ℕ)
value_of option [] = None
value_of option (name ∷ words) = if is_some (job_of (name ∷ words)) then needed option words else None

abbrev pub store_of : List (List ℕ) → Option (List ℕ)
store_of words = value_of (codes "--store") words

abbrev pub spare_of : List (List ℕ) → Option (List ℕ)
spare_of words = value_of (codes "--into") words
