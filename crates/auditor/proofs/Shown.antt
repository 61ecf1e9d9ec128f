-- What an audit writes holds.
use Rattle.std.proofs.Common.{◌≡◌, ℕ, suc, ◌+◌, ◌≤◌, true, false, not, cond, nat_eq, nat_le, List, [], ◌∷◌, ◌++◌, map, length, take, slice_get, Option, Some, None, refl, sym, ap, subst, ◌∙◌, arith, eqb-true, leb-true}
use Rattle.std.proofs.lemmas.List.{map-append, length-map}
use Rattle.std.proofs.Math.Seq.{take-append-add}
use Rattle.std.specs.Str.{bytes_eq as same}
use Rattle.avm_num.proofs.Numbers.{and_true}
use Rattle.avm_model.specs.Frame.{FrameData}
use Rattle.avm_model.specs.Auth.{AuthData}
use Rattle.avm_model.specs.Machine.{State}
use Rattle.avm_model.specs.Head.{HeadData}
use Rattle.avm_model.specs.Segment.{SegmentData, segment_bytes}
use Rattle.avm_model.specs.Timed.{Entry}
use Rattle.avm_model.specs.Rerun.{Replays}
use Rattle.avm_model.specs.Reference.{Given, Made, timed, entry_of_frame, entries_of, IsFaultAt, IsFaultNumber}
use Rattle.avm_model.specs.Chain.{top_of}
use Rattle.avm_model.specs.Evidence.{EvidData, double, fork, replay}
use Rattle.avm_model.specs.declared.judged.Verdict.{Verdict}
use Rattle.avm_model.specs.declared.judged.Verdict.TheVariants.{Malformed, BadAuth, Double, Uncommitted, Fork, Replay, Uncovered, Unmatched, Accepted}
use Rattle.avm_model.specs.Marks.{verifies, marked, cover}
use Rattle.avm_model.specs.Basics.{first_at}
use Rattle.std.specs.Option.{option_map, option_and_then}
use Rattle.avm_model.specs.Verdict.{marks, first_pair, doubles, conflicts, fork_by, replay_by, verdict}
use Rattle.avm_model.specs.Audit.{Judged, snapshot, entry_frames, behind_first, last_number, is_committed, case_of, IsFaultOf}
use Rattle.avm_model.specs.Holds.{DoubleHolds, ForkHolds, ReplayHolds, Holds, upto, bytes_upto, cut, with_two, evidence}
use Rattle.avm_model.proofs.ReferenceLaws.{is_timed}
use Rattle.avm_model.proofs.ReplayTheorems.{front_replays}
use Rattle.auditor.proofs.Cuts.{top_upto, last_upto, numbered_upto, from_first, hash_upto, all_upto, committed_upto, cut_split}
use Rattle.audit_stream.proofs.ReadParts.{opens_numbered}
use Rattle.audit_stream.proofs.RowLaws.{with_some, then_some, cond_some, first_pair_some, at_zero}
use Rattle.audit_stream.proofs.CaseLaws.{double_case, fork_case, replay_case}
use Rattle.audit_stream.proofs.MarkLaws.{same_refl, verified, Top, top_is, Conflict, conflict_is}
use Rattle.auditor.proofs.Segments.{Whole, cut_frames, cut_whole, frames_again}

pub first_fork : (x y i j : ℕ) → Fork x y ≡ Fork i j → x ≡ i
first_fork x y i j e = cc

pub second_fork : (x y i j : ℕ) → Fork x y ≡ Fork i j → y ≡ j
second_fork x y i j e = cc

two_some : {A B C : Type 0} (f : A → B → C) (o : Option A) (p : Option B) (a : A) (b : B) (y : C) → o ≡ Some a → p ≡ Some b → with_two f o p ≡ Some y → f a b ≡ y
two_some f o p a b y q r e = some_is (sym (rw (q, r) refl) ∙ e)
  where
    some_is : Some (f a b) ≡ Some y → f a b ≡ y
    some_is h = cc

double_holds : (key : List ℕ) (auths : List AuthData) (i j : ℕ) (a b : AuthData) → first_at (λ (x : AuthData). not (verifies key x)) 0 auths ≡ None → first_pair doubles 0 auths ≡ Some (i, j)
    → slice_get auths i ≡ Some a → slice_get auths j ≡ Some b → DoubleHolds key a b
double_holds key auths i j a b bad e p q =
    let f = first_pair_some doubles 0 i j auths e in
    let fa : f.0 ≡ a = some_is f.0 a (sym (at_zero _ i f.0 f.4) ∙ p) in
    let fb : f.1 ≡ b = some_is f.1 b (sym (at_zero _ j f.1 f.5) ∙ q) in
    let r : doubles a b ≡ true = subst (λ (x : AuthData). doubles x b ≡ true) fa (subst (λ (y : AuthData). doubles f.0 y ≡ true) fb f.6) in
    let t = and_true (nat_eq a.seq b.seq) (not (same a.hash b.hash)) r in
    record { seq = eqb-true _ _ t.0; apart = λ h. apart a.hash b.hash h t.1; one = verified key auths i a bad p; two = verified key auths j b bad q }
  where
    some_is : (x y : AuthData) → Some x ≡ Some y → x ≡ y
    some_is x y h = cc

    apart : (x y : List ℕ) → x ≡ y → not (same x y) ≡ true → ⊥
    apart x y h n = let r : same x y ≡ true = subst (λ (z : List ℕ). same x z ≡ true) h (same_refl x) in absurd (let m : not (same x y) ≡ false = rw r refl in cc)

fork_holds : (key : List ℕ) (s : SegmentData) (h : HeadData) (auths : List AuthData) (i j n : ℕ) → Whole s h → first_at (λ (x : AuthData). not (verifies key x)) 0 auths ≡ None
    → (t : Top s.front.before (entry_frames s) auths j n) → (o : Conflict s.front.before (entry_frames s) auths i n) → ForkHolds key s.front.start s.front.before (bytes_upto t.auth.seq s) t.auth o.auth (upto t.auth.seq (entry_frames s))
fork_holds key s h auths i j n w bad t o =
    let le : o.auth.seq ≤ t.auth.seq = (let a = o.to in let b = t.seq in omega arith) in
    let fs = entry_frames s in
    let numbers = opens_numbered s.front.start s.front.before (entry_frames s) w.opens_well in
    record {
      frames = frames_again (upto t.auth.seq (entry_frames s)) (all_upto t.auth.seq (entry_frames s) w.all);
      numbers = numbered_upto t.auth.seq s.front.start (entry_frames s) numbers;
      last = last_upto t.auth.seq 0 s.front.before t.auth.hash (entry_frames s) t.hash;
      chain = top_upto t.auth.seq s.front.before t.auth.hash (entry_frames s) t.hash;
      from = from_first o.auth.seq s.front.start s.front.before o.hash (entry_frames s) numbers o.there;
      to = le;
      apart = λ e. o.apart (sym (hash_upto o.auth.seq t.auth.seq s.front.start s.front.before (entry_frames s) le numbers) ∙ e);
      one = verified key auths j t.auth bad t.at;
      two = verified key auths i o.auth bad o.at;
    }

-- the entries up to a fault don't replay, nor do any with them in front
fault_front : (st : State) (fs before : List FrameData) (f : FrameData) (behind : List FrameData) → fs ≡ before ++ f ∷ behind → (Replays timed st (take (suc (length before)) (entries_of fs)) → ⊥) → Replays timed st (entries_of (before ++ f ∷ [])) → ⊥
fault_front st fs before f behind is never rep =
    let long : length (map entry_of_frame before) ≡ length before = length-map before entry_of_frame in
    let n : suc (length before) ≡ length (map entry_of_frame before) + 1 = omega (arith, long) in
    let parts : entries_of fs ≡ map entry_of_frame before ++ (entry_of_frame f ∷ map entry_of_frame behind) = ap entries_of is ∙ map-append entry_of_frame before (f ∷ behind) in
    let front : take (suc (length before)) (entries_of fs) ≡ map entry_of_frame before ++ (entry_of_frame f ∷ []) =
    ap (λ (k : ℕ). take k (entries_of fs)) n ∙ ap (take (length (map entry_of_frame before) + 1)) parts ∙ take-append-add (map entry_of_frame before) (entry_of_frame f ∷ map entry_of_frame behind) 1 in
    let same_front : take (suc (length before)) (entries_of fs) ≡ entries_of (before ++ f ∷ []) = front ∙ sym (map-append entry_of_frame before (f ∷ [])) in
    never (subst (λ (es : List (Entry Given Made)). Replays timed st es) (sym same_front) rep)

replay_holds : (key : List ℕ) (s : SegmentData) (h : HeadData) (auths : List AuthData) (j m n : ℕ) → Whole s h → is_committed (snapshot s h) (entry_frames s) ≡ true → first_at (λ (x : AuthData). not (verifies key x)) 0 auths ≡ None
    → IsFaultAt (snapshot s h) (behind_first (entry_frames s)) n → n ≤ m → (t : Top s.front.before (entry_frames s) auths j m) → ReplayHolds key (segment_bytes (cut t.auth.seq s)) t.auth (cut t.auth.seq s) h
replay_holds key s h auths j m n w commit bad f le t =
    let seq = t.seq in
    let at = f.number in
    let cuts = cut_frames t.auth.seq s h w in
    let numbers = opens_numbered s.front.start s.front.before (entry_frames s) w.opens_well in
    let split = cut_split t.auth.seq s.front.start (entry_frames s) f.before f.frame f.behind numbers f.split (omega arith) in
    let behind : behind_first (entry_frames (cut t.auth.seq s)) ≡ (f.before ++ f.frame ∷ []) ++ split.0 = ap behind_first cuts ∙ split.1 in
    record {
      segment = cut_whole t.auth.seq s h w;
      last = ap (last_number 0) cuts ∙ last_upto t.auth.seq 0 s.front.before t.auth.hash (entry_frames s) t.hash;
      committed = ap (is_committed (snapshot s h)) cuts ∙ committed_upto (snapshot s h) t.auth.seq (entry_frames s) ∙ commit;
      chain = ap (top_of s.front.before) cuts ∙ top_upto t.auth.seq s.front.before t.auth.hash (entry_frames s) t.hash;
      one = verified key auths j t.auth bad t.at;
      fault = λ rep.
          let all : Replays timed (snapshot s h) (entries_of (f.before ++ f.frame ∷ []) ++ entries_of split.0) = subst (λ (es : List (Entry Given Made)). Replays timed (snapshot s h) es) (ap entries_of behind ∙ map-append entry_of_frame (f.before ++ f.frame ∷ []) split.0) rep in
          fault_front (snapshot s h) (behind_first (entry_frames s)) f.before f.frame f.behind f.split f.first.fault (front_replays timed is_timed (snapshot s h) (entries_of (f.before ++ f.frame ∷ [])) (entries_of split.0) all);
    }

-- ---- the verdict

double_shown : (key : List ℕ) (auths : List AuthData) (i j : ℕ) (e : EvidData) → first_at (λ (x : AuthData). not (verifies key x)) 0 auths ≡ None → first_pair doubles 0 auths ≡ Some (i, j)
    → with_two (λ (a b : AuthData). double key a b) (slice_get auths i) (slice_get auths j) ≡ Some e → Holds e
double_shown key auths i j e bad pair w =
    let g = first_pair_some doubles 0 i j auths pair in
    let p = at_zero auths i g.0 g.4 in
    let q = at_zero auths j g.1 g.5 in
    let is_e : double key g.0 g.1 ≡ e = two_some (λ (x y : AuthData). double key x y) (slice_get auths i) (slice_get auths j) g.0 g.1 e p q w in
    subst Holds is_e (double_holds key auths i j g.0 g.1 bad pair p q)

fork_shown : (key : List ℕ) (s : SegmentData) (h : HeadData) (auths : List AuthData) (i j : ℕ) (e : EvidData) → Whole s h → first_at (λ (x : AuthData). not (verifies key x)) 0 auths ≡ None
    → fork_by (map (marked s.front.before (entry_frames s)) auths) (cover (map (marked s.front.before (entry_frames s)) auths)) ≡ Some (Fork i j)
    → with_two (λ (top other : AuthData). fork key s.front.start s.front.before (bytes_upto top.seq s) top other) (slice_get auths j) (slice_get auths i) ≡ Some e → Holds e
fork_shown key s h auths i j e whole bad row w =
    let ms = map (marked s.front.before (entry_frames s)) auths in
    let b = then_some (λ (x : ℕ × ℕ). option_map (λ y. Fork y x.0) (first_at (conflicts x.1) 0 ms)) (cover ms) (Fork i j) row in
    let c = with_some (λ (y : ℕ). Fork y b.0.0) (first_at (conflicts b.0.1) 0 ms) (Fork i j) b.2 in
    let ci = first_fork c.0 b.0.0 i j c.2 in
    let bj = second_fork c.0 b.0.0 i j c.2 in
    let t : Top s.front.before (entry_frames s) auths j b.0.1 = subst (λ (x : ℕ). Top s.front.before (entry_frames s) auths x b.0.1) bj (top_is s.front.before (entry_frames s) auths b.0 b.1) in
    let o = conflict_is s.front.before (entry_frames s) auths i b.0.1 (c.1 ∙ ap (λ (x : ℕ). Some x) ci) in
    let is_e = two_some (λ (top other : AuthData). fork key s.front.start s.front.before (bytes_upto top.seq s) top other) (slice_get auths j) (slice_get auths i) t.auth o.auth e t.at o.at w in
    subst Holds is_e (upto t.auth.seq (entry_frames s), fork_holds key s h auths i j b.0.1 whole bad t o)

some_pair : (x y : ℕ × ℕ) → Some x ≡ Some y → x ≡ y
some_pair x y h = cc

some_auth : (x y : AuthData) → Some x ≡ Some y → x ≡ y
some_auth x y h = cc

replay_shown : (key : List ℕ) (s : SegmentData) (h : HeadData) (auths : List AuthData) (fault : Option ℕ) (n : ℕ) (e : EvidData) → Whole s h → is_committed (snapshot s h) (entry_frames s) ≡ true
    → IsFaultNumber (snapshot s h) (behind_first (entry_frames s)) fault → first_at (λ (x : AuthData). not (verifies key x)) 0 auths ≡ None
    → replay_by fault (cover (map (marked s.front.before (entry_frames s)) auths)) ≡ Some (Replay n)
    → option_and_then (λ (j : ℕ × ℕ). option_map (λ (top : AuthData). replay key (segment_bytes (cut top.seq s)) top) (slice_get auths j.0)) (cover (map (marked s.front.before (entry_frames s)) auths)) ≡ Some e → Holds e
replay_shown key s h auths fault n e whole commit f bad row w =
    let ms = map (marked s.front.before (entry_frames s)) auths in
    let a = then_some (λ (k : ℕ). option_and_then (λ (j : ℕ × ℕ). cond (nat_le k j.1) (Some (Replay k)) None) (cover ms)) fault (Replay n) row in
    let b = then_some (λ (j : ℕ × ℕ). cond (nat_le a.0 j.1) (Some (Replay a.0)) None) (cover ms) (Replay n) a.2 in
    let k = cond_some (nat_le a.0 b.0.1) (Replay a.0) (Replay n) b.2 in
    let le = leb-true _ _ k.0 in
    let t = top_is s.front.before (entry_frames s) auths b.0 b.1 in
    let at : IsFaultAt (snapshot s h) (behind_first (entry_frames s)) a.0 = subst (λ (x : Option ℕ). IsFaultNumber (snapshot s h) (behind_first (entry_frames s)) x) a.1 f in
    let x = then_some (λ (j : ℕ × ℕ). option_map (λ (top : AuthData). replay key (segment_bytes (cut top.seq s)) top) (slice_get auths j.0)) (cover ms) e w in
    let same_b : b.0 ≡ x.0 = some_pair b.0 x.0 (sym b.1 ∙ x.1) in
    let y = with_some (λ (top : AuthData). replay key (segment_bytes (cut top.seq s)) top) (slice_get auths x.0.0) e x.2 in
    let ty : t.auth ≡ y.0 = some_auth t.auth y.0 (sym t.at ∙ subst (λ (z : ℕ × ℕ). slice_get auths z.0 ≡ Some y.0) (sym same_b) y.1) in
    let is_e : replay key (segment_bytes (cut t.auth.seq s)) t.auth ≡ e = ap (λ (top : AuthData). replay key (segment_bytes (cut top.seq s)) top) ty ∙ y.2 in
    subst Holds is_e (cut t.auth.seq s, h, replay_holds key s h auths b.0.0 b.0.1 a.0 whole commit bad at le t)

nothing : (e : EvidData) → None ≡ Some e → ⊥
nothing e h = cc

-- what an audit writes holds
pub evidence_holds : (key : List ℕ) (d : Judged) (fault : Option ℕ) → Whole d.segment d.head → IsFaultOf d fault → (v : Verdict) → verdict (case_of key d fault) ≡ v → (e : EvidData) → evidence key d v ≡ Some e → Holds e
unfolding evidence case_of marks
evidence_holds key d fault whole f Malformed q e w = absurd (nothing e w)
evidence_holds key d fault whole f (BadAuth k) q e w = absurd (nothing e w)
evidence_holds key d fault whole f (Double i j) q e w =
    let r = double_case (case_of key d fault) i j q in
    double_shown key d.auths i j e r.0 r.1 w
evidence_holds key d fault whole f Uncommitted q e w = absurd (nothing e w)
evidence_holds key d fault whole f (Fork i j) q e w =
    let r = fork_case (case_of key d fault) i j q in
    fork_shown key d.segment d.head d.auths i j e whole r.0 r.1 w
evidence_holds key d fault whole f (Replay n) q e w =
    let r = replay_case (case_of key d fault) n q in
    replay_shown key d.segment d.head d.auths fault n e whole r.1 f r.0 r.2 w
evidence_holds key d fault whole f (Uncovered n) q e w = absurd (nothing e w)
evidence_holds key d fault whole f (Unmatched k) q e w = absurd (nothing e w)
evidence_holds key d fault whole f (Accepted a b n) q e w = absurd (nothing e w)
