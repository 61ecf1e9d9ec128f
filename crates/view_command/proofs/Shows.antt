-- What a viewer that was opened shows.
use Rattle.std.proofs.Common.{◌≡◌, inl, inr, ℕ, ◌-◌, ◌&&◌, nat_le, Bool, true, false, List, Option, Some, refl, sym, ap, subst, arith}
use Rattle.std.specs.Prelude.{Result, Ok, Err, map, IfSome, IfNone, None}
use Rattle.std.proofs.lemmas.Bool.{le-leb, lt-leb}
use Rattle.avm_model.specs.Head.{HeadData}
use Rattle.avm_model.specs.Machine.{State}
use Rattle.avm_model.specs.Segment.{SegmentData, whole_segment_of}
use Rattle.avm_view.specs.Viewing.{Viewing, viewing_from, Stands, Lacks}
use Rattle.command_parts.specs.Printing.{PrintsAll}
use Rattle.command_parts.specs.declared.fault.Fault.{Fault}
use Rattle.command_parts.specs.declared.fault.Fault.TheVariants as fault
use Rattle.command_parts.proofs.Printed.{prints_none}
use Rattle.view_model.specs.Views.{Run, run_of, CanView, At, changes_in}
use Rattle.view_command.specs.Lines.{state_lines, change_line}
use Rattle.view_command.specs.Showing.{Read, Views, Refuses, Leaves, IsRefusal, ShowsState, ShowsChanges, StateOutOfRange, ChangesOutOfRange, is_count, in_ram}
use Rattle.view_command.specs.declared.ends.End.{End}
use Rattle.view_command.specs.declared.ends.End.TheVariants.{Shown, RefusedFile, RefusedMalformed, RefusedUncommitted, RefusedUncovered, RefusedRange}
use Rattle.view_command.specs.declared.shown.StateAsked.{StateAsked}

-- ---- refused by the viewer

pub refused_leaves : (Shows : List (List ℕ) → Type 0) (Out : Read → Type 0) (read : Read) (r : Result End Fault) (b : ℕ) (o : Option (List ℕ)) → IsRefusal read r → Leaves Shows (Refuses Out read) r b b o o
refused_leaves Shows Out read (Ok Shown) b o h = absurd h
refused_leaves Shows Out read (Ok RefusedFile) b o h = absurd h
refused_leaves Shows Out read (Ok RefusedMalformed) b o h = (h, prints_none b o)
refused_leaves Shows Out read (Ok RefusedUncommitted) b o h = (h, prints_none b o)
refused_leaves Shows Out read (Ok (RefusedUncovered n)) b o h = (h, prints_none b o)
refused_leaves Shows Out read (Ok RefusedRange) b o h = absurd h
refused_leaves Shows Out read (Err fault.NoMemory) b o h = inl (prints_none b o)
refused_leaves Shows Out read (Err fault.Files) b o h = absurd h
refused_leaves Shows Out read (Err fault.Disk) b o h = absurd h
refused_leaves Shows Out read (Err fault.Sink) b o h = absurd h

-- ---- printed

pub fault_leaves : (Shows : List (List ℕ) → Type 0) (Refused : End → Type 0) (lines : List (List ℕ)) (e : Fault) (b n : ℕ) (o p : Option (List ℕ)) → Shows lines → PrintsAll lines (Err e) b n o p → Leaves Shows Refused (Err e) b n o p
fault_leaves Shows Refused lines fault.NoMemory b n o p s q = inr (lines, s, q)
fault_leaves Shows Refused lines fault.Sink b n o p s q = (lines, s, q)
fault_leaves Shows Refused lines fault.Files b n o p s q = absurd q
fault_leaves Shows Refused lines fault.Disk b n o p s q = absurd q

-- ---- the run that was opened

abbrev pub Opened : List ℕ → Viewing → Type 0
Opened bytes v = (s : SegmentData) × (h : HeadData) × (whole_segment_of bytes ≡ Some (s, h)) × CanView s h × (v ≡ viewing_from (run_of s h))

abbrev pub run_in : (bytes : List ℕ) (v : Viewing) → Opened bytes v → Run
run_in bytes v o = run_of o.0 o.1

pub views_in : (bytes : List ℕ) (v : Viewing) (o : Opened bytes v) → Views (whole_segment_of bytes) (run_in bytes v o)
views_in bytes v o = record { segment = o.0; head = o.1; is = o.2; can = o.3; run = refl }

pub start_in : (bytes : List ℕ) (v : Viewing) (o : Opened bytes v) → v.point.state ≡ (run_in bytes v o).start
start_in bytes v o = ap (λ (w : Viewing). w.point.state) o.4

-- ---- changes

pub changes_out : (bytes : List ℕ) (v : Viewing) (address : ℕ) → Opened bytes v → in_ram v.point.state address 1 ≡ false → ChangesOutOfRange address (whole_segment_of bytes)
changes_out bytes v address o e =
    (run_in bytes v o, views_in bytes v o, subst (λ (s : State). in_ram s address 1 ≡ false) (start_in bytes v o) e)

pub changes_shown : (bytes : List ℕ) (v : Viewing) (address : ℕ) → Opened bytes v → in_ram v.point.state address 1 ≡ true
    → ShowsChanges address (whole_segment_of bytes) (map change_line (changes_in address (v.last - v.point.state.count) v.point))
changes_shown bytes v address o e = record {
  run = run_in bytes v o;
  views = views_in bytes v o;
  word = subst (λ (s : State). in_ram s address 1 ≡ true) (start_in bytes v o) e;
  all = ap (λ (w : Viewing). map change_line (changes_in address (w.last - w.point.state.count) w.point)) o.4;
}

-- ---- a state

-- a run has the counts at which a viewer stands, and no others
counted : (r : Run) (v : Viewing) (c : ℕ) → Stands r v → v.point.state.count ≡ c → is_count r c ≡ true
counted r v c h e = rw (le-leb r.start.count c (omega (arith, h.at.low, e)), le-leb c r.last (omega (arith, h.high, e))) refl

not_counted : (r : Run) (c : ℕ) → Lacks r c → is_count r c ≡ false
not_counted r c (inl lt) = rw (lt-leb r.start.count c lt) refl
not_counted r c (inr lt) = go (nat_le r.start.count c)
  where
    go : (b : Bool) → (b && nat_le c r.last) ≡ false
    go true = lt-leb c r.last lt
    go false = refl

abbrev pub Found : List ℕ → ℕ → Option Viewing → Type 0
Found bytes c found =
    (s : SegmentData) × (h : HeadData) × (whole_segment_of bytes ≡ Some (s, h)) × CanView s h × IfSome found (λ v. Stands (run_of s h) v × (v.point.state.count ≡ c)) × IfNone found (Lacks (run_of s h) c)

viewed : (bytes : List ℕ) (c : ℕ) (found : Option Viewing) (f : Found bytes c found) → Views (whole_segment_of bytes) (run_of f.0 f.1)
viewed bytes c found f = record { segment = f.0; head = f.1; is = f.2; can = f.3; run = refl }

pub count_out : (bytes : List ℕ) (a : StateAsked) → Found bytes a.count None → StateOutOfRange a (whole_segment_of bytes)
count_out bytes a f = (run_of f.0 f.1, viewed bytes a.count None f, inl (not_counted (run_of f.0 f.1) a.count f.5))

at_in : (bytes : List ℕ) (v : Viewing) (c : ℕ) (f : Found bytes c (Some v)) (s : State) → ((r : Run) → Stands r v → At r v.point.state.count s) → At (run_of f.0 f.1) c s
at_in bytes v c f s at = subst (λ (n : ℕ). At (run_of f.0 f.1) n s) f.4.1 (at (run_of f.0 f.1) f.4.0)

pub words_out : (bytes : List ℕ) (v : Viewing) (a : StateAsked) (s : State) → Found bytes a.count (Some v) → ((r : Run) → Stands r v → At r v.point.state.count s) → false ≡ in_ram s a.from a.words → StateOutOfRange a (whole_segment_of bytes)
words_out bytes v a s f at e = (run_of f.0 f.1, viewed bytes a.count (Some v) f, inr (s, at_in bytes v a.count f s at, sym e))

pub state_shown : (bytes : List ℕ) (v : Viewing) (a : StateAsked) (s : State) → Found bytes a.count (Some v) → ((r : Run) → Stands r v → At r v.point.state.count s) → true ≡ in_ram s a.from a.words
    → ShowsState a (whole_segment_of bytes) (state_lines s a.from a.words)
state_shown bytes v a s f at e = record {
  run = run_of f.0 f.1;
  views = viewed bytes a.count (Some v) f;
  state = s;
  at = at_in bytes v a.count f s at;
  count = counted (run_of f.0 f.1) v a.count f.4.0 f.4.1;
  words = sym e;
  all = refl;
}
