-- What a stream shows: where its reader stands, whether more may follow the front, and what is judged, if anything can be.
use Rattle.std.specs.Prelude.{Bool, Option}
use Rattle.seg_file.specs.Reading.{Reading}
use Rattle.audit_stream.specs.declared.stream.AuditStream.TheInside.{Inside}
use Rattle.audit_stream.specs.declared.subject.Subject.{Subject}

pub record Streaming : Type 0 where
  pub reader : Reading
  pub begun : Bool
  pub subject : Option Subject

abbrev pub streaming_by : Inside → Streaming
streaming_by a = record { reader = a.reader; begun = a.begun; subject = a.subject }
