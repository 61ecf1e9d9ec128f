-- How the cheat of the first segment is judged.
use Rattle.std.proofs.Common.{◌≡◌, ℕ, Bool, true, false, List, [], ◌∷◌, ◌++◌, codes, Option, None, Some, refl, sym, ap, subst, ◌∙◌, append_assoc}
use Rattle.std.specs.Prelude.{IfOk, Result, Ok, Err, String, is_some, map, string_bytes}
use Rattle.std.specs.declared.alloc.Global.{Global}
use Rattle.avm_model.specs.Audit.{IsVerdict, IsVerdictOn, Judged, entry_frames, judged_of}
use Rattle.avm_model.specs.Auth.{auth_bytes}
use Rattle.avm_model.specs.Evidence.{EvidData, evidence_bytes}
use Rattle.avm_model.specs.Head.{HeadData}
use Rattle.avm_model.specs.Holds.{Stands, evidence, has_evidence}
use Rattle.avm_model.specs.Keys.{KeyData}
use Rattle.avm_model.specs.Segment.{SegmentData, segment_bytes, whole_segment_of}
use Rattle.avm_model.specs.declared.judged.Verdict.{Verdict}
use Rattle.audit_command.specs.Audit.{evidence_for}
use Rattle.command_parts.specs.Printing.{line}
use Rattle.rebut_command.specs.Judging.{JudgedData, OpenEnds}
use Rattle.sample_lines.specs.Judging.{CheatBy, CheatEnds, Ending as EndingOf, EvidenceEnds, SegmentEnds, Subject, cheat, cheat_auth, cheat_line, ended, has_out, journal, key, rebut_line}
use Rattle.sample_model.specs.Start.{own_key}
use Rattle.sample_judge.specs.Ends.{Adds, Ends, Says}
use Rattle.sample_judge.specs.declared.ending.Ending.{Ending}
use Rattle.sample_judge.proofs.Saying.{says_added}

-- one end by another
pub ends_by : {P Q : EndingOf → Type 0} (e : Ending) → ((x : EndingOf) → P x → Q x) → Ends P e → Ends Q e
ends_by e f h = record { end = h.end; is = f h.end h.is; lines = h.lines; status = h.status }

-- ---- evidence

two_more : (said : List (List ℕ)) (a b : List ℕ) → (said ++ a ∷ []) ++ b ∷ [] ≡ said ++ a ∷ b ∷ []
two_more said a b = append_assoc said (a ∷ []) (b ∷ [])

-- a verdict that has evidence is one on a segment with authenticators
evidence_told : (k segment auths : List ℕ) (v : Verdict) (o : Option EvidData) → IsVerdict k segment auths v → ((d : Judged) → judged_of segment auths ≡ Some d → o ≡ evidence k d v) → is_some o ≡ has_evidence v → evidence_for k (judged_of segment auths) v ≡ o
evidence_told k segment auths v o is value some = go (judged_of segment auths) refl is
  where
    nothing : (x : Option EvidData) → is_some x ≡ false → None ≡ x
    nothing None e = refl
    nothing (Some y) e = absurd (cc e)

    go : (j : Option Judged) → judged_of segment auths ≡ j → IsVerdictOn k j v → evidence_for k j v ≡ o
    go None q h = nothing o (some ∙ ap has_evidence h)
    go (Some d) q h = sym (value d q)

-- evidence that stands was checked and answered
pub stood : {E F : Type 0} (x : Subject) (said : List (List ℕ)) (evid : EvidData) (d : JudgedData) (own : List ℕ) (a : Result (String Global) E) (b : Result (String Global) F) (first second third : List (List ℕ)) (e : Ending)
    → own ≡ key x → Stands own (evidence_bytes evid) → OpenEnds (journal x) evid d → IfOk a (λ t. string_bytes t ≡ line (codes "check stands")) → Adds a first second
    → IfOk b (λ t. string_bytes t ≡ line (rebut_line d)) → Adds b second third → Says first said → map string_bytes e.lines.items ≡ third → e.status ≡ 0 → Ends (EvidenceEnds x said (Some evid)) e
stood x said evid d own a b first second third e same stands reply a_is a_adds b_is b_adds says lines status =
    let one : Says second (said ++ codes "check stands" ∷ []) = says_added a first second said (codes "check stands") a_is a_adds says in
    let two : Says third ((said ++ codes "check stands" ∷ []) ++ rebut_line d ∷ []) = says_added b second third (said ++ codes "check stands" ∷ []) (rebut_line d) b_is b_adds one in
    record {
      end = ended 0 (said ++ codes "check stands" ∷ rebut_line d ∷ []);
      is = (subst (λ (k : List ℕ). Stands k (evidence_bytes evid)) same stands, d, reply, refl);
      lines = lines ∙ two ∙ ap (map line) (two_more said (codes "check stands") (rebut_line d));
      status = status;
    }

-- there is no evidence
pub not_stood : {E : Type 0} (x : Subject) (said : List (List ℕ)) (a : Result (String Global) E) (first second : List (List ℕ)) (e : Ending)
    → IfOk a (λ t. string_bytes t ≡ line (codes "check refused")) → Adds a first second → Says first said → map string_bytes e.lines.items ≡ second → e.status ≡ 0 → Ends (EvidenceEnds x said None) e
not_stood x said a first second e a_is a_adds says lines status =
    let one : Says second (said ++ codes "check refused" ∷ []) = says_added a first second said (codes "check refused") a_is a_adds says in
    record { end = ended 0 (said ++ codes "check refused" ∷ []); is = refl; lines = lines ∙ one; status = status }

-- ---- the cheat

-- by its verdict's evidence
pub cheat_by : (x : Subject) (said : List (List ℕ)) (own bytes auths : List ℕ) (v : Verdict) (o : Option EvidData) (e : Ending) → own ≡ key x → IsVerdict own bytes auths v → ((d : Judged) → judged_of bytes auths ≡ Some d → o ≡ evidence own d v) → is_some o ≡ has_evidence v
    → Ends (EvidenceEnds x (said ++ cheat_line v ∷ []) o) e → Ends (CheatEnds x said bytes auths) e
cheat_by x said own bytes auths v o e same is value some h = ends_by e here h
  where
    evidence_is : evidence_for (key x) (judged_of bytes auths) v ≡ o
    evidence_is = ap (λ (k : List ℕ). evidence_for k (judged_of bytes auths) v) (sym same) ∙ evidence_told own bytes auths v o is value some

    here : (n : EndingOf) → EvidenceEnds x (said ++ cheat_line v ∷ []) o n → CheatEnds x said bytes auths n
    here n p = (v, subst (λ (k : List ℕ). IsVerdict k bytes auths v) same is, subst (λ (y : Option EvidData). EvidenceEnds x (said ++ cheat_line v ∷ []) y n) (sym evidence_is) p)

pub if_cheat_by : {E : Type 0} (x : Subject) (said : List (List ℕ)) (own bytes auths : List ℕ) (v : Verdict) (o : Option EvidData) (r : Result Ending E) → own ≡ key x → IsVerdict own bytes auths v → ((d : Judged) → judged_of bytes auths ≡ Some d → o ≡ evidence own d v) → is_some o ≡ has_evidence v
    → IfOk r (Ends (EvidenceEnds x (said ++ cheat_line v ∷ []) o)) → IfOk r (Ends (CheatEnds x said bytes auths))
if_cheat_by x said own bytes auths v o (Ok e) same is value some h = cheat_by x said own bytes auths v o e same is value some h
if_cheat_by x said own bytes auths v o (Err e) same is value some h = tt

by_out : (x : Subject) (said : List (List ℕ)) (s : SegmentData) (b : Bool) (e : EndingOf) → has_out (entry_frames s) ≡ b → CheatBy b x said s e → CheatBy (has_out (entry_frames s)) x said s e
by_out x said s b e is h = subst (λ (y : Bool). CheatBy y x said s e) (sym is) h

-- the first segment has no OUT
pub no_out : (x : Subject) (said : List (List ℕ)) (bytes : List ℕ) (s : SegmentData) (h : HeadData) (e : Ending) → whole_segment_of bytes ≡ Some (s, h) → has_out (entry_frames s) ≡ false → Says (map string_bytes e.lines.items) said → e.status ≡ 2 → Ends (SegmentEnds x said bytes) e
no_out x said bytes s h e whole out says status = record { end = ended 2 said; is = (s, h, whole, by_out x said s false (ended 2 said) out refl); lines = says; status = status }

-- its cheat was judged
pub if_out : {E : Type 0} (x : Subject) (said : List (List ℕ)) (bytes : List ℕ) (s : SegmentData) (h : HeadData) (k : KeyData) (segment auth : List ℕ) (r : Result Ending E) → whole_segment_of bytes ≡ Some (s, h) → has_out (entry_frames s) ≡ true → k ≡ own_key x.seed
    → segment ≡ segment_bytes (cheat s) → auth ≡ auth_bytes (cheat_auth k s) → IfOk r (Ends (CheatEnds x said segment auth)) → IfOk r (Ends (SegmentEnds x said bytes))
if_out x said bytes s h k segment auth (Err y) whole out own segment_is auth_is c = tt
if_out x said bytes s h k segment auth (Ok e) whole out own segment_is auth_is c = ends_by e here c
  where
    auth_own : auth ≡ auth_bytes (cheat_auth (own_key x.seed) s)
    auth_own = auth_is ∙ ap (λ (y : KeyData). auth_bytes (cheat_auth y s)) own

    here : (n : EndingOf) → CheatEnds x said segment auth n → SegmentEnds x said bytes n
    here n p = (s, h, whole, by_out x said s true n out (subst (λ (b : List ℕ). CheatEnds x said b (auth_bytes (cheat_auth (own_key x.seed) s)) n) segment_is (subst (λ (b : List ℕ). CheatEnds x said segment b n) auth_own p)))
