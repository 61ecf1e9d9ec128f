-- What is written is the base.
use Rattle.std.proofs.Common.{◌≡◌, ℕ, ◌<◌, ◌≤◌, Bool, true, false, List, length, Option, None, Some, IfSome, refl, sym, ap, subst, ◌∙◌, arith, eqb-true}
use Rattle.std.specs.Prelude.{◌==◌, min}
use Rattle.std.proofs.Math.Nat.{min-eq_left}
use Rattle.avm_num.specs.Bytes.{IsBytes}
use Rattle.avm_model.specs.Bounds.{are_rows}
use Rattle.avm_model.specs.Head.{head_bytes}
use Rattle.avm_model.specs.HeadState.{data_of}
use Rattle.avm_model.specs.declared.Peer.{Peer}
use Rattle.avm_model.proofs.HeadBounds.{bounded, head_bounded}
use Rattle.base_carried.specs.Passes.{IsCarried}
use Rattle.base_carried.specs.declared.reading.Carried.{Carried}
use Rattle.base_model.specs.Base.{base_bytes, base_header, carried_of, moved, moved_state, records_from}
use Rattle.base_records.specs.Records.{IsAll, Stand, records_bytes}
use Rattle.base_records.proofs.Standing.{stands_behind}
use Rattle.base_write.specs.Headers.{IsHeader, unmarked}
use Rattle.base_write.specs.declared.header.BaseHeader.{BaseHeader}
use Rattle.base_write.specs.declared.writing.Base.{Base}
use Rattle.carried_laws.proofs.FewCarried.{carried_few}
use Rattle.journal_model.specs.Header.{HeaderData}
use Rattle.journal_model.specs.Journal.{JournalData, entries, has_snap}
use Rattle.journal_model.specs.Part.{Part}
use Rattle.journal_model.specs.Spelling.{header_bytes, spelled}
use Rattle.journal_spelling.specs.Spelled.{HasSpelling}
use Rattle.journal_spelling.proofs.Fronts.{spelled as spelled_is}
use Rattle.jrnl_store.specs.Kept.{Kept}
use Rattle.jrnl_store.specs.Own.{AreKept}
use Rattle.move_laws.proofs.CanMoves.{snap_later}
use Rattle.rebut_model.specs.Texts.{OfHead}
use Rattle.rebut_pass.specs.Reads.{OfJournal}
use Rattle.base_build.specs.Building.{IsBaseAt, OfStore}
use Rattle.base_build.specs.Judging.{IsPoint}
use Rattle.base_build.specs.declared.point.Point.{Point}
use Rattle.base_build.proofs.Judged.{is_snap}

-- the fields of what is written
pub record Fields (k : Kept) (n : ℕ) (p : Point) (c : Carried) (v : BaseHeader) : Type 0 where
  pub key : v.key.now ≡ k.key
  pub first : v.first ≡ n
  pub before : v.before ≡ p.place.before
  pub leaves : v.leaves ≡ p.place.leaves
  pub head : v.head.now ≡ head_bytes (data_of p.machine.state)
  pub pages : v.pages.now ≡ p.machine.state.ram
  pub count : v.count ≡ c.count
  pub carried : v.carried.now ≡ c.bytes.items

apart : (n : ℕ) → 1 < n → (n == 1) ≡ false
apart n lt = go (n == 1) refl
  where
    go : (b : Bool) → (n == 1) ≡ b → (n == 1) ≡ false
    go true e = let q = eqb-true n 1 e in absurd (omega (arith, q, lt))
    go false e = e

header_is : (j : JournalData) (k : Kept) (n : ℕ) (p : Point) (c : Carried) (v : BaseHeader) → HasSpelling j → AreKept k j → OfHead p.machine.state → IsPoint j n p → IsCarried j n p.machine.state.devices.peers c → Fields k n p c v → IsHeader v (base_header j n (moved_state j n p.machine.state))
unfolding base_header
header_is j k n p c v h keeps of i carried f =
    let s = p.machine.state in
    let snap : has_snap n (entries j) ≡ true = is_snap n s.count (has_snap n (entries j)) i.begins in
    let b = bounded (data_of s) (head_bounded (head_bytes (data_of s)) (data_of s) of.read) in
    let rows : are_rows s.devices.own 0 s.devices.peers ≡ true = b.rows in
    let few = carried_few j n s s.devices.own h snap b.own rows in
    let exact : min (length (carried_of j n s)) 255 ≡ length (carried_of j n s) = min-eq_left (omega (arith, few)) in
    record {
      key = f.key ∙ keeps.key;
      first = f.first;
      before = ap (λ x. x.0) f.before ∙ i.place_is.before_is;
      leaves = f.leaves ∙ i.place_is.leaves_are;
      head = f.head;
      pages = f.pages;
      count = f.count ∙ carried.count s refl ∙ exact;
      carried = f.carried ∙ carried.bytes s refl;
      later = apart n (snap_later j n h snap);
    }

-- what writing a base ensures
pub record Written (v : BaseHeader) (records : List ℕ) (b : Base) : Type 0 where
  pub header : (h : HeaderData) → IsHeader v h → b.header ≡ length (header_bytes h)
  pub bytes : (h : HeaderData) (rs : List (List Part)) → IsHeader v h → records ≡ records_bytes rs → b.bytes.items ≡ spelled (unmarked h rs)

base_is : (j : JournalData) (k : Kept) (n : ℕ) (p : Point) (c : Carried) (v : BaseHeader) (records : List ℕ) (b : Base) → HasSpelling j → AreKept k j → OfHead p.machine.state → length (head_bytes (data_of p.machine.state)) ≤ 11783 → IsPoint j n p → IsCarried j n p.machine.state.devices.peers c → Fields k n p c v
    → records ≡ records_bytes (records_from n j.records) → Written v records b → IsBaseAt j n p.machine.state b
unfolding base_bytes moved
base_is j k n p c v records b h keeps of short i carried f is w =
    let v_is = header_is j k n p c v h keeps of i carried f in
    record {
      whole = of;
      short = omega (arith, short);
      bytes = w.bytes (base_header j n (moved_state j n p.machine.state)) (records_from n j.records) v_is is;
      header = w.header (base_header j n (moved_state j n p.machine.state)) v_is;
    }

-- of a disk that may tell its bytes
pub base_told : (told : Option (List ℕ)) (k : Kept) (n head start : ℕ) (peers : List Peer) (p : Point) (c : Carried) (v : BaseHeader) (records : List ℕ) (b : Base) → IfSome told IsBytes → peers ≡ p.machine.state.devices.peers → OfHead p.machine.state → length (head_bytes (data_of p.machine.state)) ≤ 11783 → Fields k n p c v → Written v records b
    → OfJournal told k (λ j. HasSpelling j → IsCarried j n peers c) → OfJournal told k (λ j. HasSpelling j → head ≡ length j.header.head → start ≡ length (header_bytes j.header)) → IfSome told (IsAll n start records)
    → OfStore told k (λ j. head ≡ length j.header.head → IsPoint j n p → IsBaseAt j n p.machine.state b)
base_told None k n head start peers p c v records b bytes known of short f w carried place all = tt
base_told (Some was) k n head start peers p c v records b bytes known of short f w carried place all = λ j is at end len i.
    let h = (spelled_is was j bytes is).0 in
    let stand : Stand (length (header_bytes j.header)) was j.records = stands_behind was j bytes is in
    let from : start ≡ length (header_bytes j.header) = place j at end h len in
    base_is j k n p c v records b h at.keeps of short i (subst (λ (l : List Peer). IsCarried j n l c) known (carried j at end h)) f (all j.records (subst (λ (m : ℕ). Stand m was j.records) (sym from) stand)) w
