-- The evidence that is given fits its grammar, and stands.
use Rattle.std.proofs.Common.{◌≡◌, ℕ, true, false, cond, nat_le, List, slice_get, length, is_some, IfSome, option_map, Option, Some, None, refl, sym, ap, subst, ◌∙◌, arith}
use Rattle.avm_num.specs.Bytes.{IsBytes}
use Rattle.avm_model.specs.Auth.{AuthData}
use Rattle.avm_model.specs.Segment.{segment_bytes}
use Rattle.avm_model.specs.Evidence.{EvidData, double, fork, replay, key_of, evidence_bytes, FitsEvidence}
use Rattle.avm_model.specs.Marks.{cover}
use Rattle.avm_model.specs.Basics.{first_at}
use Rattle.std.specs.Option.{option_map, option_and_then}
use Rattle.avm_model.specs.Verdict.{marks, conflicts, doubles, verdict}
use Rattle.avm_model.specs.Audit.{Judged, judged_of, entry_frames, case_of, marks_of, IsFaultOf, IsVerdict, IsVerdictOn}
use Rattle.avm_model.specs.Holds.{Stands, evidence, has_evidence, with_two, bytes_upto, cut}
use Rattle.avm_model.specs.declared.judged.Verdict.{Verdict}
use Rattle.avm_model.specs.declared.judged.Verdict.TheVariants.{Malformed, BadAuth, Double, Uncommitted, Fork, Replay, Uncovered, Unmatched, Accepted}
use Rattle.evid_file.specs.declared.evidence.Evidence.{Evidence}
use Rattle.evid_file.specs.Short.{IsShort}
use Rattle.evid_file.specs.Views.{evidence_view}
use Rattle.evid_file.proofs.EvidenceLaws.{evidence_again}
use Rattle.audit_stream.proofs.RowLaws.{with_some, then_some, first_pair_some, at_zero}
use Rattle.audit_stream.proofs.CaseLaws.{double_case, fork_case, replay_case}
use Rattle.audit_stream.proofs.MarkLaws.{top_is, conflict_is}
use Rattle.auditor.proofs.Fits.{auth_fits, double_fits, fork_fits, replay_fits}
use Rattle.auditor.proofs.Judging.{Known, known}
use Rattle.auditor.proofs.Shown.{evidence_holds, first_fork, second_fork}

-- ---- it is there

double_there : (key : List ℕ) (auths : List AuthData) (i j : ℕ) (a b : AuthData) → slice_get auths i ≡ Some a → slice_get auths j ≡ Some b → is_some (with_two (λ (x y : AuthData). double key x y) (slice_get auths i) (slice_get auths j)) ≡ true
double_there key auths i j a b p q = rw (p, q) refl

two_there : (f : AuthData → AuthData → EvidData) (o p : Option AuthData) (a b : AuthData) → o ≡ Some a → p ≡ Some b → is_some (with_two f o p) ≡ true
two_there f o p a b x y = rw (x, y) refl

one_there : (f : AuthData → EvidData) (auths : List AuthData) (o : Option (ℕ × ℕ)) (b : ℕ × ℕ) (a : AuthData) → o ≡ Some b → slice_get auths b.0 ≡ Some a → is_some (option_and_then (λ (j : ℕ × ℕ). option_map f (slice_get auths j.0)) o) ≡ true
one_there f auths o b a x y = rw (x, y) refl

pub evidence_some : (key : List ℕ) (d : Judged) (fault : Option ℕ) (v : Verdict) → verdict (case_of key d fault) ≡ v → is_some (evidence key d v) ≡ has_evidence v
unfolding evidence case_of marks
evidence_some key d fault Malformed q = refl
evidence_some key d fault (BadAuth k) q = refl
evidence_some key d fault (Double i j) q =
    let r = double_case (case_of key d fault) i j q in
    let g = first_pair_some doubles 0 i j d.auths r.1 in
    two_there (λ (a b : AuthData). double key a b) (slice_get d.auths i) (slice_get d.auths j) g.0 g.1 (at_zero d.auths i g.0 g.4) (at_zero d.auths j g.1 g.5)
evidence_some key d fault Uncommitted q = refl
evidence_some key d fault (Fork i j) q =
    let r = fork_case (case_of key d fault) i j q in
    let ms = marks_of d in
    let b = then_some (λ (x : ℕ × ℕ). option_map (λ y. Fork y x.0) (first_at (conflicts x.1) 0 ms)) (cover ms) (Fork i j) r.1 in
    let c = with_some (λ (y : ℕ). Fork y b.0.0) (first_at (conflicts b.0.1) 0 ms) (Fork i j) b.2 in
    let ci = first_fork c.0 b.0.0 i j c.2 in
    let bj = second_fork c.0 b.0.0 i j c.2 in
    let t = top_is d.segment.front.before (entry_frames d.segment) d.auths b.0 b.1 in
    let o = conflict_is d.segment.front.before (entry_frames d.segment) d.auths i b.0.1 (c.1 ∙ ap (λ (x : ℕ). Some x) ci) in
    two_there (λ (top other : AuthData). fork key d.segment.front.start d.segment.front.before (bytes_upto top.seq d.segment) top other) (slice_get d.auths j) (slice_get d.auths i) t.auth o.auth
    (subst (λ (x : ℕ). slice_get d.auths x ≡ Some t.auth) bj t.at) o.at
evidence_some key d fault (Replay n) q =
    let r = replay_case (case_of key d fault) n q in
    let ms = marks_of d in
    let a = then_some (λ (k : ℕ). option_and_then (λ (j : ℕ × ℕ). cond (nat_le k j.1) (Some (Replay k)) None) (cover ms)) fault (Replay n) r.2 in
    let b = then_some (λ (j : ℕ × ℕ). cond (nat_le a.0 j.1) (Some (Replay a.0)) None) (cover ms) (Replay n) a.2 in
    let t = top_is d.segment.front.before (entry_frames d.segment) d.auths b.0 b.1 in
    one_there (λ (top : AuthData). replay key (segment_bytes (cut top.seq d.segment)) top) d.auths (cover ms) b.0 t.auth b.1 t.at
evidence_some key d fault (Uncovered n) q = refl
evidence_some key d fault (Unmatched k) q = refl
evidence_some key d fault (Accepted a b n) q = refl

-- ---- it fits

two_known : (f : AuthData → AuthData → EvidData) (o p : Option AuthData) (e : EvidData) → with_two f o p ≡ Some e → (a b : AuthData) × (o ≡ Some a) × (p ≡ Some b) × (f a b ≡ e)
two_known f None p e h = absurd cc
two_known f (Some a) None e h = absurd cc
two_known f (Some a) (Some b) e h = (a, b, refl, refl, cc)

abbrev Suits : List ℕ → EvidData → Type 0
Suits key e = FitsEvidence e × (key_of e ≡ key)

nothing : {A : Type 0} (e : EvidData) → None ≡ Some e → A
nothing e h = absurd (apart e h)
  where
    apart : (e : EvidData) → None ≡ Some e → ⊥
    apart e h = cc

pub evidence_fits : (segment auths key : List ℕ) (d : Judged) (v : Verdict) (e : EvidData) → length key ≡ 56 → Known segment auths d → evidence key d v ≡ Some e → Suits key e
unfolding evidence
evidence_fits segment auths key d Malformed e len k w = nothing e w
evidence_fits segment auths key d (BadAuth n) e len k w = nothing e w
evidence_fits segment auths key d (Double i j) e len k w =
    let t = two_known (λ (a b : AuthData). double key a b) (slice_get d.auths i) (slice_get d.auths j) e w in
    subst (Suits key) t.4 (double_fits key t.0 t.1 len (auth_fits d.auths i t.0 k.fits t.2) (auth_fits d.auths j t.1 k.fits t.3), refl)
evidence_fits segment auths key d Uncommitted e len k w = nothing e w
evidence_fits segment auths key d (Fork i j) e len k w =
    let t = two_known (λ (top other : AuthData). fork key d.segment.front.start d.segment.front.before (bytes_upto top.seq d.segment) top other) (slice_get d.auths j) (slice_get d.auths i) e w in
    subst (Suits key) t.4 (fork_fits key d.segment d.head t.0.seq t.0 t.1 len k.whole (auth_fits d.auths j t.0 k.fits t.2) (auth_fits d.auths i t.1 k.fits t.3), refl)
evidence_fits segment auths key d (Replay n) e len k w =
    let x = then_some (λ (j : ℕ × ℕ). option_map (λ (top : AuthData). replay key (segment_bytes (cut top.seq d.segment)) top) (slice_get d.auths j.0)) (cover (marks_of d)) e w in
    let y = with_some (λ (top : AuthData). replay key (segment_bytes (cut top.seq d.segment)) top) (slice_get d.auths x.0.0) e x.2 in
    subst (Suits key) y.2 (replay_fits key d.segment d.head y.0.seq y.0 len k.whole (auth_fits d.auths x.0.0 y.0 k.fits y.1), refl)
evidence_fits segment auths key d (Uncovered n) e len k w = nothing e w
evidence_fits segment auths key d (Unmatched n) e len k w = nothing e w
evidence_fits segment auths key d (Accepted a b n) e len k w = nothing e w

-- ---- the clauses of the function

-- what it gave, for what is judged
abbrev Gave : List ℕ → List ℕ → List ℕ → Verdict → Option Evidence → Type 0
Gave key segment auths v r = (d : Judged) → judged_of segment auths ≡ Some d → option_map evidence_view r ≡ evidence key d v

same_some : (r : Option Evidence) → is_some r ≡ is_some (option_map evidence_view r)
same_some None = refl
same_some (Some e) = refl

pub some_is : (key segment auths : List ℕ) (v : Verdict) (r : Option Evidence) → IsVerdict key segment auths v → (has_evidence v ≡ false → r ≡ None) → Gave key segment auths v r → is_some r ≡ has_evidence v
some_is key segment auths v r is only gave = go (judged_of segment auths) refl is
  where
    go : (o : Option Judged) → judged_of segment auths ≡ o → IsVerdictOn key o v → is_some r ≡ has_evidence v
    go None e m = let no_ev : has_evidence v ≡ false = ap has_evidence m in ap is_some (only no_ev) ∙ sym no_ev
    go (Some d) e m = same_some r ∙ ap is_some (gave d e) ∙ evidence_some key d m.0 v (sym m.2)

-- what is given is evidence for what is judged
pub record Given (key segment auths : List ℕ) (v : Verdict) (e : EvidData) : Type 0 where
  pub «data» : Judged
  pub fault : Option ℕ
  pub read : judged_of segment auths ≡ Some «data»
  pub is_fault : IsFaultOf «data» fault
  pub verdict_is : verdict (case_of key «data» fault) ≡ v
  pub shown : evidence key «data» v ≡ Some e

pub given_of : (key segment auths : List ℕ) (v : Verdict) (e : Evidence) → IsVerdict key segment auths v → (has_evidence v ≡ false → Some e ≡ None) → Gave key segment auths v (Some e) → Given key segment auths v (evidence_view e)
given_of key segment auths v e is only gave = go (judged_of segment auths) refl is
  where
    never : (e : Evidence) → Some e ≡ None → ⊥
    never e h = cc

    go : (o : Option Judged) → judged_of segment auths ≡ o → IsVerdictOn key o v → Given key segment auths v (evidence_view e)
    go None q m = absurd (never e (only (ap has_evidence m)))
    go (Some d) q m = record { «data» = d; fault = m.0; read = q; is_fault = m.1; verdict_is = sym m.2; shown = sym (gave d q) }

pub fits_all : (key segment auths : List ℕ) (v : Verdict) (r : Option Evidence) → IsBytes segment → IsBytes auths → length key ≡ 56 → IsVerdict key segment auths v → (has_evidence v ≡ false → r ≡ None) → Gave key segment auths v r → IfSome r (λ e. FitsEvidence (evidence_view e))
fits_all key segment auths v None sb ab len is only gave = tt
fits_all key segment auths v (Some e) sb ab len is only gave =
    let g = given_of key segment auths v e is only gave in
    (evidence_fits segment auths key g.«data» v (evidence_view e) len (known segment auths g.«data» sb ab g.read) g.shown).0

pub stands_all : (key segment auths : List ℕ) (v : Verdict) (r : Option Evidence) → IsBytes segment → IsBytes auths → length key ≡ 56 → IsVerdict key segment auths v → (has_evidence v ≡ false → r ≡ None) → Gave key segment auths v r → IfSome r (λ e. Stands key (evidence_bytes (evidence_view e)))
stands_all key segment auths v None sb ab len is only gave = tt
stands_all key segment auths v (Some e) sb ab len is only gave =
    let g = given_of key segment auths v e is only gave in
    let k = known segment auths g.«data» sb ab g.read in
    let f = evidence_fits segment auths key g.«data» v (evidence_view e) len k g.shown in
    record { «data» = evidence_view e; read = evidence_again (evidence_view e) f.0; key_is = f.1; holds = evidence_holds key g.«data» g.fault k.whole g.is_fault v g.verdict_is (evidence_view e) g.shown }

-- its lengths fit fields of four bytes
short_of : (e : EvidData) → FitsEvidence e → IsShort e
short_of (double key a b) f = let x = f.body.0.sig in let y = f.body.1.sig in (omega (arith, x), omega (arith, y))
short_of (fork key start before frames top other) f = let x = f.body.3.sig in let y = f.body.4.sig in (f.body.2, omega (arith, x), omega (arith, y))
short_of (replay key segment top) f = let x = f.body.1.sig in (f.body.0, omega (arith, x))

pub short_all : (r : Option Evidence) → IfSome r (λ e. FitsEvidence (evidence_view e)) → IfSome r (λ e. IsShort (evidence_view e))
short_all None h = tt
short_all (Some e) h = short_of (evidence_view e) h
