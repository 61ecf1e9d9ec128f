-- Authenticators under two keys are read as they are spelled, and a file of them.
use Rattle.std.proofs.Common.{◌≡◌, ℕ, ◌+◌, ◌*◌, ◌≤◌, true, List, [], ◌∷◌, ◌++◌, length, Option, Some, None, refl, ap, arith, length-append}
use Rattle.std.specs.List.{AllByRecursion}
use Rattle.std.proofs.lemmas.List.Elements.{recursion_from_All}
use Rattle.std.specs.Int.{w32, w64}
use Rattle.std.specs.Iterator.{YieldsFirstBy, MakesProgress, item_count}
use Rattle.avm_num.specs.Bytes.{IsBytes, Takes}
use Rattle.avm_num.specs.Lists.{be, list_bytes}
use Rattle.avm_num.specs.Walk.{items_of, behind_of, is_nil, all_at}
use Rattle.avm_num.proofs.Lengths.{be32, be64}
use Rattle.avm_num.proofs.Loops.{progress as list_progress}
use Rattle.avm_num.proofs.Walks.{items_some, items_none, behind_some, behind_none, all_front}
use Rattle.avm_model.specs.Auth.{AuthData, auth_bytes, FitsAuth, IsAuths}
use Rattle.hss_model.specs.HssFile.{hss_auth_at, FitsHssAuth}
use Rattle.hss_model.proofs.RoundTrip.{reads_hss_auth, hss_auth_shortens}
use Rattle.avm_auth.specs.declared.auth.Auth.{Auth}
use Rattle.avm_auth.specs.Views.{auth_view}
use Rattle.hss_auths.specs.Lengths.{size_with}

pub auth_some : (bytes : List ℕ) (p : AuthData × List ℕ) → hss_auth_at bytes ≡ Some p → items_of hss_auth_at bytes ≡ p.0 ∷ items_of hss_auth_at p.1
auth_some bytes p e = items_some hss_auth_at hss_auth_shortens bytes p e

pub auth_none : (bytes : List ℕ) → hss_auth_at bytes ≡ None → items_of hss_auth_at bytes ≡ []
auth_none bytes e = items_none hss_auth_at hss_auth_shortens bytes e

pub auth_short : (bytes : List ℕ) (p : AuthData × List ℕ) → hss_auth_at bytes ≡ Some p → length p.1 + 1 ≤ length bytes
auth_short bytes p e = let h = hss_auth_shortens.short bytes p e in omega (arith, h)

pub auth_behind_some : (bytes : List ℕ) (p : AuthData × List ℕ) → hss_auth_at bytes ≡ Some p → behind_of hss_auth_at bytes ≡ behind_of hss_auth_at p.1
auth_behind_some bytes p e = behind_some hss_auth_at hss_auth_shortens bytes p e

pub auth_behind_none : (bytes : List ℕ) → hss_auth_at bytes ≡ None → behind_of hss_auth_at bytes ≡ bytes
auth_behind_none bytes e = behind_none hss_auth_at hss_auth_shortens bytes e

-- a call of next
pub yields : (r : Option Auth) (old new : List ℕ) → Takes auth_view r old new (hss_auth_at old) → YieldsFirstBy auth_view (λ (s : List AuthData). s) (items_of hss_auth_at old) r (items_of hss_auth_at new)
yields None old new h = (auth_none old h.0, rw h.1 (auth_none old h.0))
yields (Some a) old new h = auth_some old (auth_view a, new) h

pub progress : (can : List AuthData → Type 0) → ((t : List AuthData) → can t) → (r : Option Auth) (old new : List AuthData) → YieldsFirstBy auth_view (λ (s : List AuthData). s) old r new → MakesProgress can (item_count (λ (s : List AuthData). s)) old r new
progress can all r old new y = list_progress auth_view can all r old new y

-- ---- how many bytes there are

auth_length : (a : AuthData) → length a.hash ≡ 32 → length (auth_bytes a) ≡ 44 + length a.sig
unfolding auth_bytes
auth_length a hash = omega (arith, hash, be64 a.seq, be32 (length a.sig), length-append (be w64 a.seq ++ a.hash) (be w32 (length a.sig) ++ a.sig), length-append (be w64 a.seq) a.hash, length-append (be w32 (length a.sig)) a.sig)

pub auths_length : (auths : List AuthData) → AllByRecursion (λ (a : AuthData). length a.hash ≡ 32) auths → length (list_bytes auth_bytes auths) ≡ size_with 0 auths
auths_length [] all = refl
auths_length (a ∷ auths) all = omega (arith, length-append (auth_bytes a) (list_bytes auth_bytes auths), auth_length a all.0, auths_length auths all.1)

hss_hashes : (auths : List AuthData) → AllByRecursion FitsHssAuth auths → AllByRecursion (λ (a : AuthData). length a.hash ≡ 32) auths
hss_hashes [] all = tt
hss_hashes (a ∷ auths) all = (all.0.hash, hss_hashes auths all.1)

hashes : (auths : List AuthData) → AllByRecursion FitsAuth auths → AllByRecursion (λ (a : AuthData). length a.hash ≡ 32) auths
hashes [] all = tt
hashes (a ∷ auths) all = (all.0.hash, hashes auths all.1)

-- of a file of authenticators under two keys
pub hss_size : (bytes : List ℕ) → IsBytes bytes → is_nil (behind_of hss_auth_at bytes) ≡ true → size_with 0 (items_of hss_auth_at bytes) ≡ length bytes
hss_size bytes fits e =
    let xs = items_of hss_auth_at bytes in
    let whole : all_at hss_auth_at bytes ≡ Some xs = rw e refl in
    let f = all_front hss_auth_at auth_bytes FitsHssAuth reads_hss_auth hss_auth_shortens bytes xs fits whole in
    let long : length bytes ≡ length (list_bytes auth_bytes xs) = ap length f.0 in
    omega (arith, long, auths_length xs (hss_hashes xs (recursion_from_All FitsHssAuth xs f.1)))

-- more in each
more_in_each : (k : ℕ) (auths : List AuthData) → size_with k auths ≡ size_with 0 auths + length auths * k
more_in_each k [] = omega arith
more_in_each k (a ∷ auths) = let i = more_in_each k auths in grind arith

-- of a file of authenticators with so many bytes more in each
pub widened_size : (bytes : List ℕ) (auths : List AuthData) (k : ℕ) → IsAuths bytes auths → size_with k auths ≡ length bytes + length auths * k
widened_size bytes auths k is =
    let long : length bytes ≡ length (list_bytes auth_bytes auths) = ap length is.spelled in
    omega (arith, long, auths_length auths (hashes auths (recursion_from_All FitsAuth auths is.fits)), more_in_each k auths)
