-- Parts and where a journal stands, without where they lie in memory.
use Rattle.std.specs.Prelude.{[], option_map}
use Rattle.log_entry.specs.Views.{frame_view}
use Rattle.journal_model.specs.Part.{Part as PartData, entry, seal, keep, KeepData, PageData}
use Rattle.journal_model.specs.Standing.{StandingData, SignedData, Bounds as BoundsData}
use Rattle.journal_model.specs.Header.{HeaderData, CarriedData}
use Rattle.jrnl_part.specs.declared.header.Main.{Main}
use Rattle.jrnl_part.specs.declared.header.Carried.{Carried}
use Rattle.jrnl_part.specs.declared.part.Keep.{Keep}
use Rattle.jrnl_part.specs.declared.part.Page.{Page}
use Rattle.jrnl_part.specs.declared.part.Part.{Part}
use Rattle.jrnl_part.specs.declared.part.Part.TheVariants as part
use Rattle.jrnl_part.specs.declared.standing.Standing.{Standing}
use Rattle.jrnl_part.specs.declared.standing.Signed.{Signed}
use Rattle.jrnl_part.specs.declared.standing.Bounds.{Bounds}

abbrev pub keep_view : Keep → KeepData
keep_view k = record { seq = k.seq; head = k.head.now; pages = k.pages.now }

abbrev pub page_view : Page → PageData
page_view p = record { number = p.number; bytes = p.bytes.now }

abbrev pub part_view : Part → PartData
part_view (part.Entry f) = entry (frame_view f)
part_view part.Seal = seal
part_view (part.Keep k) = keep (keep_view k)

abbrev pub signed_view : Signed → SignedData
signed_view s = record { leaf = s.leaf; seq = s.seq; hash = s.hash.0; before = s.before.0 }

abbrev pub standing_view : Standing → StandingData
standing_view s = record { next = s.next; hash = s.hash.0; prior = s.prior.0; used = s.used; sealed = s.sealed; signed = option_map signed_view s.signed }

abbrev pub bounds_view : Bounds → BoundsData
bounds_view b = record { first = b.first; pages = b.pages; most = b.most }

abbrev pub main_view : Main → HeaderData
main_view m = record { key = m.key; first = m.first; before = m.before.0; leaves = m.leaves; head = m.head.now; pages = m.pages.now; carried = [] }

abbrev pub carried_view : Carried → CarriedData
carried_view c = record { leaf = c.leaf; before = c.before.0; frame = frame_view c.frame }
