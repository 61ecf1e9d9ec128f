-- Whether a segment and an authenticator show entries that don't replay.
use Rattle.std.proofs.Common.{◌≡◌, ℕ, Bool, true, false, nat_eq, ◌&&◌, List, Option, Some, None, is_some, refl, sym, ap, subst, ◌∙◌, eqb-true, eq-eqb, MatchBool}
use Rattle.std.proofs.lemmas.Slice.Eq.{bytes_eq-Decides}
use Rattle.std.specs.Str.{bytes_eq}
use Rattle.avm_num.proofs.Numbers.{bind_some, and_true}
use Rattle.avm_model.specs.Auth.{AuthData}
use Rattle.avm_model.specs.Chain.{top_of}
use Rattle.avm_model.specs.Frame.{frames_of}
use Rattle.avm_model.specs.Head.{HeadData}
use Rattle.avm_model.specs.HeadReading.{head_of}
use Rattle.avm_model.specs.HeadState.{state_of}
use Rattle.avm_model.specs.Segment.{SegmentData, segment_of, whole_segment_of}
use Rattle.avm_model.specs.Reference.{timed, entries_of, IsFaultNumber}
use Rattle.avm_model.specs.Marks.{verifies}
use Rattle.avm_model.specs.Audit.{snapshot, entry_frames, behind_first, last_number, is_committed}
use Rattle.avm_model.specs.Holds.{ReplayHolds}
use Rattle.avm_model.proofs.ReferenceLaws.{is_timed}
use Rattle.avm_model.proofs.ReplayTheorems.{fault_whole}
use Rattle.std.proofs.Common.{length}

-- some segment and head show it
abbrev pub Shows : List ℕ → List ℕ → AuthData → Type 0
Shows key bytes top = (s : SegmentData) × (h : HeadData) × ReplayHolds key bytes top s h

abbrev pub top_test : List ℕ → SegmentData → AuthData → Bool
top_test key s top = nat_eq (last_number 0 (entry_frames s)) top.seq && bytes_eq (top_of s.front.before (entry_frames s)) top.hash && verifies key top

parts_of : (bytes : List ℕ) (s : SegmentData) (h : HeadData) → whole_segment_of bytes ≡ Some (s, h) → (segment_of bytes ≡ Some s) × (head_of s.front.head ≡ Some h)
unfolding whole_segment_of
parts_of bytes s h e =
    let a = bind_some (segment_of bytes) _ (s, h) e in
    let b = bind_some (head_of a.0.front.head) _ (s, h) a.2 in
    let is : (a.0, b.0) ≡ (s, h) = same (a.0, b.0) (s, h) b.2 in
    let first : a.0 ≡ s = ap (λ (p : SegmentData × HeadData). p.0) is in
    let second : b.0 ≡ h = ap (λ (p : SegmentData × HeadData). p.1) is in
    (a.1 ∙ ap (λ (x : SegmentData). Some x) first, ap (λ (x : SegmentData). head_of x.front.head) (sym first) ∙ b.1 ∙ ap (λ (x : HeadData). Some x) second)
  where
    same : (x y : SegmentData × HeadData) → Some x ≡ Some y → x ≡ y
    same x y q = cc

pub whole_is : (bytes : List ℕ) (s : SegmentData) (h : HeadData) → Some s ≡ segment_of bytes → head_of s.front.head ≡ Some h → whole_segment_of bytes ≡ Some (s, h)
unfolding whole_segment_of
whole_is bytes s h e p = rw (← e, p) refl

some_segment : (x y : SegmentData) → Some x ≡ Some y → x ≡ y
some_segment x y q = cc

some_head : (x y : HeadData) → Some x ≡ Some y → x ≡ y
some_head x y q = cc

no_none : {A : Type 0} (x : SegmentData) → None ≡ Some x → A
no_none x q = absurd (apart x q)
  where
    apart : (x : SegmentData) → None ≡ Some x → ⊥
    apart x q = cc

pub no_segment_shows : (key bytes : List ℕ) (top : AuthData) → None ≡ segment_of bytes → Shows key bytes top → ⊥
no_segment_shows key bytes top e w = no_none w.0 (e ∙ (parts_of bytes w.0 w.1 w.2.segment).0)

pub no_head_shows : (key bytes : List ℕ) (top : AuthData) (s : SegmentData) → Some s ≡ segment_of bytes → is_some (head_of s.front.head) ≡ false → Shows key bytes top → ⊥
no_head_shows key bytes top s e never w =
    let p = parts_of bytes w.0 w.1 w.2.segment in
    let is : s ≡ w.0 = some_segment s w.0 (e ∙ p.0) in
    let there : is_some (head_of s.front.head) ≡ true = ap (λ (x : SegmentData). is_some (head_of x.front.head)) is ∙ ap is_some p.1 in
    apart (sym never ∙ there)
  where
    apart : false ≡ true → ⊥
    apart q = cc

top_back : (key bytes : List ℕ) (top : AuthData) (s : SegmentData) (h : HeadData) → ReplayHolds key bytes top s h → top_test key s top ≡ true
top_back key bytes top s h w = rw (eq-eqb _ _ w.last, (bytes_eq-Decides _ _).1 w.chain, w.one) refl

pub no_top_shows : (key bytes : List ℕ) (top : AuthData) (s : SegmentData) → Some s ≡ segment_of bytes → top_test key s top ≡ false → Shows key bytes top → ⊥
no_top_shows key bytes top s e never w =
    let p = parts_of bytes w.0 w.1 w.2.segment in
    let is : s ≡ w.0 = some_segment s w.0 (e ∙ p.0) in
    let there : top_test key s top ≡ true = ap (λ (x : SegmentData). top_test key x top) is ∙ top_back key bytes top w.0 w.1 w.2 in
    apart (sym never ∙ there)
  where
    apart : false ≡ true → ⊥
    apart q = cc

yes_shows : (key bytes : List ℕ) (top : AuthData) (s : SegmentData) (h : HeadData) (n : ℕ) → Some s ≡ segment_of bytes → head_of s.front.head ≡ Some h → top_test key s top ≡ true → is_committed (state_of h s.pages) (frames_of s.frames) ≡ true
    → IsFaultNumber (state_of h s.pages) (behind_first (frames_of s.frames)) (Some n) → ReplayHolds key bytes top s h
yes_shows key bytes top s h n e p t c f =
    let a = and_true (nat_eq (last_number 0 (entry_frames s)) top.seq && bytes_eq (top_of s.front.before (entry_frames s)) top.hash) (verifies key top) t in
    let b = and_true (nat_eq (last_number 0 (entry_frames s)) top.seq) (bytes_eq (top_of s.front.before (entry_frames s)) top.hash) a.0 in
    record {
      segment = whole_is bytes s h e p;
      last = eqb-true _ _ b.0;
      committed = c;
      chain = (bytes_eq-Decides _ _).0 b.1;
      one = a.1;
      fault = λ r. fault_whole timed is_timed (snapshot s h) (entries_of (behind_first (entry_frames s))) (length f.before) f.first r;
    }

-- what another segment and head would show, these do
moved : (key bytes : List ℕ) (top : AuthData) (s : SegmentData) (h : HeadData) → Some s ≡ segment_of bytes → head_of s.front.head ≡ Some h → Shows key bytes top → ReplayHolds key bytes top s h
moved key bytes top s h e p w =
    let q = parts_of bytes w.0 w.1 w.2.segment in
    let is : w.0 ≡ s = sym (some_segment s w.0 (e ∙ q.0)) in
    let head : w.1 ≡ h = some_head w.1 h (sym q.1 ∙ ap (λ (x : SegmentData). head_of x.front.head) is ∙ p) in
    subst (λ (y : HeadData). ReplayHolds key bytes top s y) head (subst (λ (x : SegmentData). ReplayHolds key bytes top x w.1) is w.2)

pub decides : (key bytes : List ℕ) (top : AuthData) (s : SegmentData) (h : HeadData) (committed : Bool) (fault : Option ℕ) → Some s ≡ segment_of bytes → head_of s.front.head ≡ Some h → top_test key s top ≡ true
    → committed ≡ is_committed (state_of h s.pages) (frames_of s.frames) → IsFaultNumber (state_of h s.pages) (behind_first (frames_of s.frames)) fault
    → MatchBool (committed && is_some fault) (Shows key bytes top) (Shows key bytes top → ⊥)
decides key bytes top s h true (Some n) e p t c f = (s, h, yes_shows key bytes top s h n e p t (sym c) f)
decides key bytes top s h true None e p t c f = λ w. (moved key bytes top s h e p w).fault f
decides key bytes top s h false fault e p t c f = λ w. apart (c ∙ (moved key bytes top s h e p w).committed)
  where
    apart : false ≡ true → ⊥
    apart q = cc

pub decides_by : (r : Bool) (key bytes : List ℕ) (top : AuthData) (s : SegmentData) (h : HeadData) (committed : Bool) (fault : Option ℕ) → r ≡ (committed && is_some fault) → Some s ≡ segment_of bytes → head_of s.front.head ≡ Some h → top_test key s top ≡ true
    → committed ≡ is_committed (state_of h s.pages) (frames_of s.frames) → IsFaultNumber (state_of h s.pages) (behind_first (frames_of s.frames)) fault
    → MatchBool r (Shows key bytes top) (Shows key bytes top → ⊥)
decides_by r key bytes top s h committed fault is e p t c f = rw is (decides key bytes top s h committed fault e p t c f)
