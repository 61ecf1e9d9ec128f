-- What a journal's value keeps, without its buffer.
use Rattle.std.specs.Prelude.{ℕ, ◌==◌, List, Option, None, false, if◌then◌else◌}
use Rattle.journal_model.specs.Standing.{StandingData, SignedData, Bounds}
use Rattle.jrnl_part.specs.Views.{bounds_view, signed_view, standing_view}
use Rattle.jrnl_store.specs.declared.fault.Stop.{Stop}
use Rattle.jrnl_part.specs.declared.header.Start.{Start}
use Rattle.jrnl_store.specs.declared.ticket.Ticket.{Ticket}
use Rattle.jrnl_store.specs.declared.journal.Journal.{Journal}

-- the key, the hash before the first entry, the bounds, the head's length, the leaves used before the first entry, the places of the first and the last gate, where the
-- journal stands, the mark, and why it has stopped
pub record Kept : Type 0 where
  pub key : List ℕ
  pub before : List ℕ
  pub bounds : Bounds
  pub head_len : ℕ
  pub leaves : ℕ
  pub front : ℕ
  pub gate : ℕ
  pub standing : StandingData
  pub mark : Option ℕ
  pub stop : Option Stop

abbrev pub kept : Journal → Kept
kept v = record {
  key = v.key;
  before = v.before.0;
  bounds = bounds_view v.bounds;
  head_len = v.head_len;
  leaves = v.leaves;
  front = v.front;
  gate = v.gate;
  standing = standing_view v.stand;
  mark = v.mark;
  stop = v.stop;
}

-- what a journal keeps behind its header
abbrev pub kept_start : Start → Kept
kept_start s = record {
  key = s.key;
  before = s.before.0;
  bounds = bounds_view s.bounds;
  head_len = s.head_len;
  leaves = s.leaves;
  front = s.front;
  gate = s.front;
  standing = record { next = s.bounds.first; hash = s.before.0; prior = s.before.0; used = s.leaves; sealed = false; signed = None };
  mark = None;
  stop = None;
}

-- the item that a ticket is of
abbrev pub ticket_view : Ticket → SignedData
ticket_view t = signed_view t.item

-- the ticket of a record by which a leaf was used
abbrev pub ticket_between : StandingData → StandingData → Option SignedData
ticket_between old new = if new.used == old.used then None else new.signed
