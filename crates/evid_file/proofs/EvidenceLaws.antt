-- Evidence that is read is spelled so, and what is spelled so is read.
use Rattle.std.proofs.Common.{◌≡◌, ℕ, ◌≤◌, Bool, true, false, cond, nat_eq, nat_le, List, [], ◌∷◌, ◌++◌, length, Option, Some, None, refl, sym, ap, subst, ◌∙◌, append_assoc, append-nil, arith, eqb-true, leb-true, le-leb, IfSome, IfNone, option_map}
use Rattle.std.specs.Int.{w32, w64}
use Rattle.avm_num.specs.Bytes.{IsBytes, ◌>>=◌}
use Rattle.avm_num.specs.Lists.{be, one, sized_bytes}
use Rattle.avm_num.specs.Walk.{is_nil}
use Rattle.avm_num.proofs.Numbers.{Front, kept_some}
use Rattle.avm_num.proofs.Fields.{start, next, goes, reads_32, reads_64, reads_byte, reads_piece, reads_exact, reads_sized}
use Rattle.avm_model.specs.Auth.{AuthData, auth_bytes, auth_at, FitsAuth}
use Rattle.avm_auth.proofs.AuthLaws.{reads_auth}
use Rattle.avm_model.specs.Evidence.{EvidData, double, fork, replay, evidence_magic, longest_evidence, key_of, form_of, body_bytes, evidence_bytes, FitsBody, FitsEvidence, double_at, fork_at, replay_at, body_at, parts_of, evidence_at}
use Rattle.evid_file.specs.declared.evidence.Evidence.{Evidence}
use Rattle.evid_file.specs.Views.{evidence_view}

pub record Body (form : ℕ) (key bytes : List ℕ) (e : EvidData) : Type 0 where
  pub spelled : bytes ≡ body_bytes e
  pub fits : FitsBody e
  pub key_is : key_of e ≡ key
  pub form_is : form_of e ≡ form

nil_is : (bytes : List ℕ) → is_nil bytes ≡ true → bytes ≡ []
nil_is [] e = refl
nil_is (b ∷ bytes) e = absurd cc

-- the last part has nothing behind it
whole : (bytes text rest : List ℕ) → Front bytes text rest → is_nil rest ≡ true → bytes ≡ text
whole bytes text rest f e = f.parts ∙ ap (λ (t : List ℕ). text ++ t) (nil_is rest e) ∙ append-nil text

double_front : (key bytes : List ℕ) (e : EvidData) → IsBytes bytes → double_at key bytes ≡ Some e → Body 1 key bytes e
unfolding double_at body_bytes
double_front key bytes e fits h =
    let a = next reads_auth bytes _ _ (start bytes fits) _ e h in
    let b = next reads_auth bytes _ _ a.1 _ e a.3 in
    let k = kept_some (is_nil b.0.1) (double key a.0.0 b.0.0) e b.3 in
    subst (λ (x : EvidData). Body 1 key bytes x) k.1 (record { spelled = whole bytes _ b.0.1 b.1 k.0; fits = (a.2, b.2); key_is = refl; form_is = refl })

fork_front : (key bytes : List ℕ) (e : EvidData) → IsBytes bytes → fork_at key bytes ≡ Some e → Body 2 key bytes e
unfolding fork_at body_bytes
fork_front key bytes e fits h =
    let s = next reads_64 bytes _ _ (start bytes fits) _ e h in
    let b = next (reads_piece 32) bytes _ _ s.1 _ e s.3 in
    let f = next (reads_sized reads_32) bytes _ _ b.1 _ e b.3 in
    let t = next reads_auth bytes _ _ f.1 _ e f.3 in
    let o = next reads_auth bytes _ _ t.1 _ e t.3 in
    let k = kept_some (is_nil o.0.1) (fork key s.0.0 b.0.0 f.0.0 t.0.0 o.0.0) e o.3 in
    subst (λ (x : EvidData). Body 2 key bytes x) k.1 (record { spelled = whole bytes _ o.0.1 o.1 k.0; fits = (s.2, b.2, f.2, t.2, o.2); key_is = refl; form_is = refl })

replay_front : (key bytes : List ℕ) (e : EvidData) → IsBytes bytes → replay_at key bytes ≡ Some e → Body 3 key bytes e
unfolding replay_at body_bytes
replay_front key bytes e fits h =
    let f = next (reads_sized reads_32) bytes _ _ (start bytes fits) _ e h in
    let t = next reads_auth bytes _ _ f.1 _ e f.3 in
    let k = kept_some (is_nil t.0.1) (replay key f.0.0 t.0.0) e t.3 in
    subst (λ (x : EvidData). Body 3 key bytes x) k.1 (record { spelled = whole bytes _ t.0.1 t.1 k.0; fits = (f.2, t.2); key_is = refl; form_is = refl })

body_front : (form : ℕ) (key bytes : List ℕ) (e : EvidData) → IsBytes bytes → body_at form key bytes ≡ Some e → Body form key bytes e
body_front form key bytes e fits h = go (nat_eq form 1) refl (nat_eq form 2) refl (nat_eq form 3) refl h
  where
    go : (a : Bool) → nat_eq form 1 ≡ a → (b : Bool) → nat_eq form 2 ≡ b → (d : Bool) → nat_eq form 3 ≡ d → cond a (double_at key bytes) (cond b (fork_at key bytes) (cond d (replay_at key bytes) None)) ≡ Some e → Body form key bytes e
    go true p b q d r i = rw (eqb-true form 1 p) (double_front key bytes e fits i)
    go false p true q d r i = rw (eqb-true form 2 q) (fork_front key bytes e fits i)
    go false p false q true r i = rw (eqb-true form 3 r) (replay_front key bytes e fits i)
    go false p false q false r i = absurd cc

-- ---- the way back

-- the last part of a chain over what is spelled
last : {B : Type 0} (a : AuthData) (k : AuthData × List ℕ → Option B) → FitsAuth a → (auth_at (auth_bytes a) >>= k) ≡ k (a, [])
last a k f = ap (λ (t : List ℕ). auth_at t >>= k) (sym (append-nil (auth_bytes a))) ∙ goes reads_auth a [] k f

body_again : (e : EvidData) → FitsBody e → body_at (form_of e) (key_of e) (body_bytes e) ≡ Some e
unfolding body_bytes double_at fork_at replay_at
body_again (double key a b) f = goes reads_auth a (auth_bytes b) _ f.0 ∙ last b _ f.1
body_again (fork key start before frames top other) f =
    let regrouped : be w64 start ++ before ++ sized_bytes (be w32) frames ++ auth_bytes top ++ auth_bytes other ≡ be w64 start ++ (before ++ (sized_bytes (be w32) frames ++ (auth_bytes top ++ auth_bytes other))) = simp append_assoc in
    ap (fork_at key) regrouped ∙ goes reads_64 start _ _ f.0 ∙ goes (reads_piece 32) before _ _ f.1 ∙ goes (reads_sized reads_32) frames _ _ f.2 ∙ goes reads_auth top _ _ f.3 ∙ last other _ f.4
body_again (replay key segment top) f = goes (reads_sized reads_32) segment (auth_bytes top) _ f.0 ∙ last top _ f.1

parts_again : (key body : List ℕ) (form : ℕ) → length key ≡ 56 → parts_of (be w32 evidence_magic ++ one 1 ++ key ++ one form ++ body) ≡ body_at form key body
unfolding parts_of
parts_again key body form len =
    let regrouped : be w32 evidence_magic ++ one 1 ++ key ++ one form ++ body ≡ be w32 evidence_magic ++ (one 1 ++ (key ++ (one form ++ body))) = simp append_assoc in
    ap parts_of regrouped ∙ goes (reads_exact reads_32 evidence_magic (omega arith)) tt _ _ tt ∙ goes (reads_exact reads_byte 1 tt) tt _ _ tt ∙ goes (reads_piece 56) key _ _ len ∙ goes reads_byte form body _ tt

pub evidence_again : (e : EvidData) → FitsEvidence e → evidence_at (evidence_bytes e) ≡ Some e
unfolding evidence_at evidence_bytes
evidence_again e f = rw (le-leb _ _ f.whole) (parts_again (key_of e) (body_bytes e) (form_of e) f.key ∙ body_again e f.body)

parts_front : (bytes : List ℕ) (e : EvidData) → IsBytes bytes → parts_of bytes ≡ Some e → (bytes ≡ evidence_bytes e) × (length (key_of e) ≡ 56) × FitsBody e
unfolding parts_of evidence_bytes
parts_front bytes e fits h =
    let a = next (reads_exact reads_32 evidence_magic (omega arith)) bytes _ _ (start bytes fits) _ e h in
    let b = next (reads_exact reads_byte 1 tt) bytes _ _ a.1 _ e a.3 in
    let c = next (reads_piece 56) bytes _ _ b.1 _ e b.3 in
    let d = next reads_byte bytes _ _ c.1 _ e c.3 in
    let body = body_front d.0.0 c.0.0 d.0.1 e d.1.rest_fits d.3 in
    let parts : bytes ≡ be w32 evidence_magic ++ one 1 ++ c.0.0 ++ one d.0.0 ++ d.0.1 = d.1.parts in
    (rw (body.key_is, body.form_is, ← body.spelled) parts, rw body.key_is c.2, body.fits)

pub evidence_front : (bytes : List ℕ) (e : EvidData) → IsBytes bytes → evidence_at bytes ≡ Some e → (bytes ≡ evidence_bytes e) × FitsEvidence e
unfolding evidence_at
evidence_front bytes e fits h = go (nat_le (length bytes) longest_evidence) refl h
  where
    go : (b : Bool) → nat_le (length bytes) longest_evidence ≡ b → cond b (parts_of bytes) None ≡ Some e → (bytes ≡ evidence_bytes e) × FitsEvidence e
    go false p i = absurd cc
    go true p i =
        let r = parts_front bytes e fits i in
        (r.0, record { key = r.1; body = r.2; whole = subst (λ (x : List ℕ). length x ≤ longest_evidence) r.0 (leb-true _ _ p) })

-- ---- the clauses of a reader

pub found : (r : Option Evidence) (bytes : List ℕ) → IsBytes bytes → option_map evidence_view r ≡ evidence_at bytes → IfSome r (λ e. (bytes ≡ evidence_bytes (evidence_view e)) × FitsEvidence (evidence_view e))
found None bytes fits h = tt
found (Some e) bytes fits h = evidence_front bytes (evidence_view e) fits (sym h)

pub none : (r : Option Evidence) (bytes : List ℕ) → option_map evidence_view r ≡ evidence_at bytes → IfNone r ((e : EvidData) → FitsEvidence e → bytes ≡ evidence_bytes e → ⊥)
none None bytes h = λ e f is. let again = evidence_again e f in let same : evidence_at bytes ≡ evidence_at (evidence_bytes e) = ap evidence_at is in cc
none (Some e) bytes h = tt
