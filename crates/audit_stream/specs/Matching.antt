-- Authenticators against a chain of which more comes.
use Rattle.std.specs.Prelude.{◌≡◌, ℕ, ◌+◌, ◌≤◌, ◌^◌, List, length, map}
use Rattle.avm_model.specs.Auth.{AuthData}
use Rattle.avm_model.specs.Chain.{top_of}
use Rattle.avm_model.specs.Frame.{FrameData}
use Rattle.avm_model.specs.Marks.{marked}
use Rattle.avm_model.specs.declared.judged.Marked.{Marked}
use Rattle.avm_auth.specs.Views.{auth_view}
use Rattle.audit_stream.specs.Numbers.{Ahead}
use Rattle.audit_stream.specs.declared.matching.Matching.TheInside.{Inside}

-- the authenticators, how each is to the chain so far, the least number of theirs that may lie ahead, and the chain's last hash
pub record Matched : Type 0 where
  pub auths : List AuthData
  pub marks : List Marked
  pub wanted : ℕ
  pub hash : List ℕ

abbrev pub matched_by : Inside → Matched
matched_by m = record { auths = map auth_view m.auths.items; marks = m.marks.items; wanted = m.wanted; hash = m.hash.0 }

pub record IsMatching (m : Inside) : Type 0 where
  pub marks : length m.marks.items ≡ length m.auths.items
  pub few : length m.auths.items ≤ 2 ^ 24

-- it is where these entries leave it
pub record Matches (m : Matched) (start : ℕ) (before : List ℕ) (fs : List FrameData) : Type 0 where
  pub marks : m.marks ≡ map (marked before fs) m.auths
  pub hash : m.hash ≡ top_of before fs
  pub ahead : Ahead (λ (x : Marked). x.seq) (start + length fs) m.wanted m.marks
