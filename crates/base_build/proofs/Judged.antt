-- Whether a store can go on from an entry, by what its readings tell.
use Rattle.std.proofs.Common.{◌≡◌, ℕ, ◌^◌, Bool, true, false, cond, nat_lt, ◌&&◌, ◌||◌, List, [], ◌∷◌, Option, Some, None, refl, sym, ap, subst, ◌∙◌, inl, inr, ◌⊎◌, eq-eqb}
use Rattle.std.specs.Prelude.{◌==◌, Result, Ok, Err}
use Rattle.avm_num.proofs.Numbers.{and_true}
use Rattle.avm_model.specs.Frame.{FrameData}
use Rattle.avm_model.specs.Head.{HeadData}
use Rattle.avm_model.specs.HeadReading.{head_of}
use Rattle.avm_model.specs.Machine.{State}
use Rattle.export_model.specs.Exports.{IsStateAt, begins_at}
use Rattle.export_laws.proofs.Still.{still}
use Rattle.honest_model.specs.Keeps.{IsStretch}
use Rattle.journal_model.specs.Fits.{FitsJournal}
use Rattle.journal_model.specs.Journal.{JournalData, count_or_zero, entries, has_snap, page_count_of}
use Rattle.journal_model.specs.Standing.{Bounds}
use Rattle.jrnl_store.specs.Kept.{Kept}
use Rattle.jrnl_store.specs.Own.{AreKept}
use Rattle.keep_judge.specs.Good.{pages_fit}
use Rattle.keep_judge.proofs.Goodness.{fits_head, head_count}
use Rattle.base_survey.specs.Surveys.{IsPlace}
use Rattle.base_survey.specs.declared.survey.Place.{Place}
use Rattle.store_move.specs.declared.fault.RetainFault.{RetainFault}
use Rattle.store_move.specs.declared.fault.RetainFault.TheVariants as fault
use Rattle.stretch_replay.specs.Stretched.{IsStretched}
use Rattle.stretch_replay.specs.declared.stretching.Stretched.{Stretched}
use Rattle.base_build.specs.Judging.{Judges, Taken, can_begin}
use Rattle.base_build.specs.Building.{HasHead}
use Rattle.base_build.specs.declared.point.Point.{Point}

-- ---- the header's head

pub fits_some : (n : ℕ) (head : List ℕ) (j : JournalData) → pages_fit n (head_of head) ≡ true → head ≡ j.header.head → HasHead j
fits_some n head j e same = λ none. let f = fits_head n (head_of head) e in (let q : None ≡ Some f.0 = sym (ap head_of same ∙ none) ∙ f.1 in absurd cc)

pub no_head : (k : Kept) (j : JournalData) (head : List ℕ) → AreKept k j → head ≡ j.header.head → pages_fit k.bounds.pages (head_of head) ≡ false → head_of j.header.head ≡ None
no_head k j head kept same e = go (head_of j.header.head) refl
  where
    pages : k.bounds.pages ≡ page_count_of j
    pages = ap (λ (b : Bounds). b.pages) kept.bounds

    go : (o : Option HeadData) → head_of j.header.head ≡ o → o ≡ None
    go None i = refl
    go (Some h) i =
        let count : page_count_of j ≡ h.front.pages = ap count_or_zero (head_count j.header.head h i) in
        let fits : pages_fit k.bounds.pages (Some h) ≡ true = eq-eqb h.front.pages k.bounds.pages (sym (pages ∙ count)) in
        let there : pages_fit k.bounds.pages (Some h) ≡ false = sym (ap (λ (o : Option HeadData). pages_fit k.bounds.pages o) (ap head_of same ∙ i)) ∙ e in
        absurd cc

-- ---- the entry

snap_begins : (n : ℕ) (fs : List FrameData) → has_snap n fs ≡ true → begins_at n fs ≡ true
snap_begins n [] e = absurd cc
snap_begins n (f ∷ fs) e = go (f.seq == n) e (λ q. snap_begins n fs q)
  where
    either : (a b : Bool) → b ≡ true → (a || b) ≡ true
    either true b q = refl
    either false b q = q

    go : (b : Bool) → cond b (f.kind == 2) (has_snap n fs) ≡ true → (has_snap n fs ≡ true → begins_at n fs ≡ true) → cond b (f.kind == 1 || f.kind == 2) (begins_at n fs) ≡ true
    go true q more = either (f.kind == 1) (f.kind == 2) q
    go false q more = more q

pub is_snap : (n count : ℕ) (b : Bool) → can_begin b n count ≡ true → b ≡ true
is_snap n count b e = (and_true b (nat_lt n (2 ^ 61)) (and_true (b && nat_lt n (2 ^ 61)) (nat_lt count (2 ^ 61)) e).0).0

pub judged : (j : JournalData) (n : ℕ) (r : Stretched) (p : Place) (t : Result Point RetainFault) → FitsJournal j → IsStretched j n r → IsPlace j n p → Taken r p n t → Judges n j t
judged j n r p (Ok t) fits st pl k = record {
  stretch_is = subst (IsStretch j n) k.0 st.fault;
  state_is = subst (IsStateAt j n) (sym k.2) (st.state k.0);
  place_is = subst (IsPlace j n) (sym k.3) pl;
  begins = ap (λ (s : Bool). can_begin s n t.machine.state.count) (sym pl.snap_is) ∙ ap (λ (x : State). can_begin p.snap n x.count) k.2 ∙ k.1;
}
judged j n r p (Err (fault.Unreplayed k)) fits st pl h = subst (IsStretch j n) h st.fault
judged j n r p (Err fault.Range) fits st pl k = (subst (IsStretch j n) k.0 st.fault, r.machine.state, st.state k.0, go k.1)
  where
    go : (can_begin p.snap n r.machine.state.count ≡ false) ⊎ ((can_begin p.snap n r.machine.state.count ≡ true) × (r.machine.state.devices.clock ≡ None → ⊥)) → can_begin (has_snap n (entries j)) n r.machine.state.count ≡ false
    go (inl e) = ap (λ (s : Bool). can_begin s n r.machine.state.count) (sym pl.snap_is) ∙ e
    go (inr w) =
        let snap : has_snap n (entries j) ≡ true = sym pl.snap_is ∙ is_snap n r.machine.state.count p.snap w.0 in
        absurd (w.1 (still j n r.machine.state fits (subst (IsStretch j n) k.0 st.fault) (st.state k.0) (snap_begins n (entries j) snap)))
judged j n r p (Err fault.NoMemory) fits st pl k = absurd k
judged j n r p (Err fault.DiskFault) fits st pl k = absurd k
judged j n r p (Err fault.SpareFault) fits st pl k = absurd k
judged j n r p (Err fault.NoStore) fits st pl k = absurd k
judged j n r p (Err (fault.Damaged q)) fits st pl k = absurd k
judged j n r p (Err fault.NotEmpty) fits st pl k = absurd k
judged j n r p (Err fault.Full) fits st pl k = absurd k
judged j n r p (Err fault.OtherSpare) fits st pl k = absurd k
