-- What is kept of a segment whose head has come, and how it is the segment's and the authenticators'.
use Rattle.std.specs.Prelude.{◌≡◌, ◌⊎◌, ℕ, false, List, Some, None, is_some}
use Rattle.avm_model.specs.Audit.{auths_within, last_number}
use Rattle.avm_model.specs.Auth.{AuthData}
use Rattle.avm_model.specs.Head.{HeadData}
use Rattle.avm_model.specs.HeadReading.{head_of}
use Rattle.avm_model.specs.Segment.{SegmentFront}
use Rattle.seg_file.specs.Coming.{Coming}
use Rattle.audit_stream.specs.Course.{IsCourse}
use Rattle.audit_stream.specs.Matching.{Matches}
use Rattle.audit_stream.specs.Rows.{AreRows}
use Rattle.audit_stream.specs.declared.subject.Subject.{Subject}

pub record IsSubject (s : Subject) (key auths : List ℕ) (c : Coming) : Type 0 where
  pub front : SegmentFront
  pub there : c.front ≡ Some front
  pub head : HeadData
  pub head_is : head_of front.head ≡ Some head
  pub list : List AuthData
  pub list_is : auths_within auths ≡ Some list
  pub first : s.first ≡ front.start
  pub last : s.last ≡ last_number 0 c.frames
  pub rows : AreRows s.bad s.double s.matching.auths key list
  pub matches : Matches s.matching front.start front.before c.frames
  pub course : IsCourse s.course head c.pages c.frames

-- nothing with this head or with these authenticators is judged
abbrev pub NotJudged : List ℕ → List ℕ → Type 0
NotJudged head auths = (auths_within auths ≡ None) ⊎ (is_some (head_of head) ≡ false)
