-- A journal that goes on from a SNAP entry can be moved there.
use Rattle.std.proofs.Common.{◌≡◌, ℕ, ◌/◌, ◌^◌, ◌<◌, ◌≤◌, true, None, Some, List, ◌∷◌, ◌++◌, length, sym, ap, subst, ◌∙◌, arith}
use Rattle.avm_model.specs.Bounds.{are_rows}
use Rattle.avm_model.specs.Entries.{numbered}
use Rattle.avm_model.specs.Head.{head_bytes}
use Rattle.avm_model.specs.HeadState.{data_of}
use Rattle.avm_model.specs.Machine.{State}
use Rattle.avm_model.proofs.HeadBounds.{bounded, head_bounded}
use Rattle.base_laws.specs.Moving.{CanMove}
use Rattle.base_laws.proofs.Records.{from_is, snap_above, snap_at}
use Rattle.base_laws.proofs.Spelling.{first_some}
use Rattle.base_model.specs.Base.{moved_at, moved_state}
use Rattle.carried_laws.proofs.Ascents.{carried_ascend}
use Rattle.carried_laws.proofs.FewCarried.{carried_few}
use Rattle.carried_laws.proofs.SignedFit.{carried_fit}
use Rattle.export_model.specs.Exports.{IsStateAt}
use Rattle.honest_model.specs.Keeps.{IsStretch}
use Rattle.journal_model.specs.Header.{pages_in}
use Rattle.journal_model.specs.Journal.{JournalData, count_or_zero, entries, follows, has_snap, page_count_of, parts}
use Rattle.journal_model.specs.Part.{Part, entry, frames_in, longest_head}
use Rattle.journal_model.proofs.Fitting.{entries_numbered}
use Rattle.journal_spelling.proofs.Fronts.{follows_back}
use Rattle.journal_model.specs.Spelling.{front_bytes}
use Rattle.journal_spelling.specs.Spelled.{HasSpelling}
use Rattle.keep_judge.proofs.Goodness.{head_count}
use Rattle.rebut_model.specs.Texts.{OfHead}
use Rattle.move_laws.proofs.Counts.{early_head}
use Rattle.move_laws.proofs.Sizes.{state_size}

pub can_move : (j : JournalData) (n : ℕ) (s : State) → HasSpelling j → IsStretch j n None → IsStateAt j n s → has_snap n (entries j) ≡ true → n < 2 ^ 61 → s.count < 2 ^ 61 → OfHead s → length (head_bytes (data_of s)) ≤ longest_head
    → length (front_bytes (moved_at j n s)) < 2 ^ 30 → CanMove j n (moved_state j n s)
can_move j n s h stretch at snap low count of short below =
    let size = state_size j n s h.journal stretch at in
    let whole = of.size in
    let pages : length s.ram / 4096 ≡ page_count_of j = omega (arith, size, whole) in
    let read : pages_in (head_bytes (data_of s)) ≡ Some (length s.ram / 4096) = head_count (head_bytes (data_of s)) (data_of s) of.read in
    let own = h.journal.header.pages in
    let header : pages_in j.header.head ≡ Some (page_count_of j) = own.1 ∙ ap Some (sym (ap count_or_zero own.1)) in
    let b = bounded (data_of s) (head_bounded (head_bytes (data_of s)) (data_of s) of.read) in
    let rows : are_rows s.devices.own 0 s.devices.peers ≡ true = b.rows in
    record {
      snap = snap;
      low = low;
      head = short;
      early = early_head (head_bytes (data_of s)) (data_of s) of.read count;
      count = read ∙ ap Some pages ∙ sym header;
      pages = (page_count_of j, read ∙ ap Some pages, size);
      few = carried_few j n s s.devices.own h snap b.own rows;
      carried = carried_fit j n s h;
      ascends = carried_ascend j n s h snap;
      below = below;
    }

-- a SNAP entry isn't the first of all
pub snap_later : (j : JournalData) (n : ℕ) → HasSpelling j → has_snap n (entries j) ≡ true → 1 < n
unfolding parts entries
snap_later j n h snap =
    let i = snap_at n (parts j) snap in
    let num : numbered j.header.first (frames_in (i.before ++ entry i.frame ∷ i.behind)) ≡ true = subst (λ (ps : List Part). numbered j.header.first (frames_in ps) ≡ true) i.split (entries_numbered j h.journal) in
    let f = from_is n j.header.first i.before i.behind i.frame num i.seq in
    let number = f.1 in
    let le : j.header.first ≤ n = omega (arith, number) in
    let whole : follows j.header.first (page_count_of j) j.header.first None (i.before ++ entry i.frame ∷ i.behind) ≡ true = subst (λ (ps : List Part). follows j.header.first (page_count_of j) j.header.first None ps ≡ true) i.split h.journal.whole in
    let here : follows j.header.first (page_count_of j) n None (entry i.frame ∷ i.behind) ≡ true = subst (λ (k : ℕ). follows j.header.first (page_count_of j) k None (entry i.frame ∷ i.behind) ≡ true) (sym number) (follows_back j.header.first (page_count_of j) j.header.first None i.before (entry i.frame ∷ i.behind) tt whole) in
    snap_above j.header.first (page_count_of j) n i.frame i.behind (first_some j.header h.journal.header.version) le i.kind here
