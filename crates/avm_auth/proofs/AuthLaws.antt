-- Authenticators are read as they are spelled, and a file of them.
use Rattle.std.proofs.Common.{◌≡◌, ℕ, ◌+◌, ◌≤◌, true, false, List, [], ◌∷◌, ◌++◌, length, Option, Some, None, refl, ap, ◌∙◌, append_assoc, arith}
use Rattle.std.specs.Int.{w32, w64}
use Rattle.std.specs.Iterator.{YieldsFirstBy, MakesProgress, item_count}
use Rattle.avm_num.specs.Bytes.{IsBytes, Takes, piece_at}
use Rattle.avm_num.specs.Lists.{be, sized_bytes}
use Rattle.avm_num.specs.Walk.{items_of, behind_of, is_nil}
use Rattle.avm_num.proofs.Numbers.{bind_some}
use Rattle.avm_num.proofs.Fields.{Reads, start, next, ends, goes, reads_piece}
use Rattle.avm_num.proofs.Walks.{Shortens, items_some, items_none, behind_some, behind_none, items_count, all_front, all_again}
use Rattle.avm_model.specs.Parts.{ordinal_at, signature_at}
use Rattle.avm_model.specs.Auth.{AuthData, auth_bytes, FitsAuth, auth_at, auths_at, IsAuths}
use Rattle.avm_model.proofs.PartLaws.{reads_ordinal, reads_signature}
use Rattle.avm_model.proofs.PartLengths.{ordinal_rest, piece_rest, signature_rest}
use Rattle.avm_auth.specs.declared.auth.Auth.{Auth}
use Rattle.avm_auth.specs.Views.{auth_view}

pub reads_auth : Reads auth_at auth_bytes FitsAuth
unfolding auth_at auth_bytes
reads_auth = record {
  front = λ bytes p fits e.
      let a = next reads_ordinal bytes [] bytes (start bytes fits) _ p e in
      let b = next (reads_piece 32) bytes _ _ a.1 _ p a.3 in
      let c = next reads_signature bytes _ _ b.1 _ p b.3 in
      ends auth_bytes FitsAuth bytes _ p c.3 c.1 (record { seq = a.2; hash = b.2; sig = c.2 });
  again = λ x rest fits.
      let regrouped : auth_bytes x ++ rest ≡ be w64 x.seq ++ (x.hash ++ (sized_bytes (be w32) x.sig ++ rest)) = simp append_assoc in
      ap auth_at regrouped ∙ goes reads_ordinal x.seq _ _ fits.seq ∙ goes (reads_piece 32) x.hash _ _ fits.hash ∙ goes reads_signature x.sig _ _ fits.sig;
}

pub auth_short : (bytes : List ℕ) (p : AuthData × List ℕ) → auth_at bytes ≡ Some p → length p.1 + 40 ≤ length bytes
unfolding auth_at
auth_short bytes p e =
    let a = bind_some (ordinal_at bytes) _ p e in
    let b = bind_some (piece_at 32 a.0.1) _ p a.2 in
    let c = bind_some (signature_at b.0.1) _ p b.2 in
    let is : (record { seq = a.0.0; hash = b.0.0; sig = c.0.0 }, c.0.1) ≡ p = cc (c.2) in
    let r : length c.0.1 ≡ length p.1 = ap (λ (q : AuthData × List ℕ). length q.1) is in
    omega (arith, r, ordinal_rest bytes a.0 a.1, piece_rest 32 a.0.1 b.0 b.1, signature_rest b.0.1 c.0 c.1)

pub auth_shortens : Shortens auth_at
auth_shortens = record { short = λ bytes p e. let h = auth_short bytes p e in omega (arith, h) }

pub auth_some : (bytes : List ℕ) (p : AuthData × List ℕ) → auth_at bytes ≡ Some p → items_of auth_at bytes ≡ p.0 ∷ items_of auth_at p.1
auth_some bytes p e = items_some auth_at auth_shortens bytes p e

pub auth_none : (bytes : List ℕ) → auth_at bytes ≡ None → items_of auth_at bytes ≡ []
auth_none bytes e = items_none auth_at auth_shortens bytes e

pub auth_behind_some : (bytes : List ℕ) (p : AuthData × List ℕ) → auth_at bytes ≡ Some p → behind_of auth_at bytes ≡ behind_of auth_at p.1
auth_behind_some bytes p e = behind_some auth_at auth_shortens bytes p e

pub auth_behind_none : (bytes : List ℕ) → auth_at bytes ≡ None → behind_of auth_at bytes ≡ bytes
auth_behind_none bytes e = behind_none auth_at auth_shortens bytes e

pub auth_count : (bytes : List ℕ) → length (items_of auth_at bytes) ≤ length bytes
auth_count bytes = items_count auth_at auth_shortens bytes

-- a call of next
pub yields : (r : Option Auth) (old new : List ℕ) → Takes auth_view r old new (auth_at old) → YieldsFirstBy auth_view (λ (s : List AuthData). s) (items_of auth_at old) r (items_of auth_at new)
yields None old new h = (auth_none old h.0, rw h.1 (auth_none old h.0))
yields (Some a) old new h = auth_some old (auth_view a, new) h

pub progress : (can : List AuthData → Type 0) → ((t : List AuthData) → can t) → (r : Option Auth) (old new : List AuthData) → YieldsFirstBy auth_view (λ (s : List AuthData). s) old r new → MakesProgress can (item_count (λ (s : List AuthData). s)) old r new
progress can all None old new y = record { on = λ _. tt; keeps = tt; rests = λ _. tt }
progress can all (Some f) old new y =
    let n = ap length y in
    record { on = λ _. (all new, tt, omega arith); keeps = all new; rests = λ _. tt }

-- ---- a file

pub auths_are : (bytes : List ℕ) (xs : List AuthData) → IsBytes bytes → auths_at bytes ≡ Some xs → IsAuths bytes xs
auths_are bytes xs fits e = let f = all_front auth_at auth_bytes FitsAuth reads_auth auth_shortens bytes xs fits e in record { spelled = f.0; fits = f.1 }

pub are_auths : (bytes : List ℕ) (xs : List AuthData) → IsAuths bytes xs → auths_at bytes ≡ Some xs
are_auths bytes xs h = ap auths_at h.spelled ∙ all_again auth_at auth_bytes FitsAuth reads_auth auth_shortens xs h.fits

no_auths : (bytes : List ℕ) (xs : List AuthData) → auths_at bytes ≡ None → IsAuths bytes xs → ⊥
no_auths bytes xs e h = let again = are_auths bytes xs h in cc

-- ---- the clauses of the reader

pub yes_auths : (bytes : List ℕ) → IsBytes bytes → is_nil (behind_of auth_at bytes) ≡ true → IsAuths bytes (items_of auth_at bytes)
yes_auths bytes fits e = auths_are bytes (items_of auth_at bytes) fits (rw e refl)

pub none_auths : (bytes : List ℕ) → is_nil (behind_of auth_at bytes) ≡ false → (xs : List AuthData) → IsAuths bytes xs → ⊥
none_auths bytes e xs h = no_auths bytes xs (rw e refl) h
