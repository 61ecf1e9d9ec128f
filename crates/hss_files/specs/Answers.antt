-- How `narrow` answers.
use Rattle.std.specs.Prelude.{◌≡◌, ℕ, List, [], length}
use Rattle.avm_num.specs.Lists.{list_bytes}
use Rattle.avm_num.specs.Room.{Buffer, with_bytes}
use Rattle.avm_model.specs.Auth.{auth_bytes}
use Rattle.hss_model.specs.HssFile.{EndorsementData, Narrowing, Malformed, BadAuth, Mixed, Narrows}
use Rattle.hss_files.specs.declared.narrowing.Narrowed.{Narrowed}
use Rattle.hss_files.specs.declared.narrowing.Narrowed.TheVariants as n

-- what the definition gives, with the buffer before and behind; a refusal leaves the buffer
abbrev pub NarrowAnswers : Narrowing → Buffer → Buffer → Narrowed → Type 0
NarrowAnswers Malformed old new result = (result ≡ n.Malformed) × (new ≡ old)
NarrowAnswers (BadAuth k) old new result = (result ≡ n.BadAuth k) × (new ≡ old)
NarrowAnswers (Mixed k) old new result = (result ≡ n.Mixed k) × (new ≡ old)
NarrowAnswers (Narrows bottom auths) old new result = (result ≡ n.Under bottom (length auths)) × (new ≡ with_bytes old (list_bytes auth_bytes auths))

-- a bottom key, whoever endorses it
abbrev pub under : List ℕ → EndorsementData
under bottom = record { upper = []; bottom = bottom }
