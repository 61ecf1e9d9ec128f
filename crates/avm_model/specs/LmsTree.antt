-- The tree over the one-time keys: LMS of RFC 8554.
use Rattle.std.specs.Prelude.{ℕ, zero, suc, ◌+◌, ◌-◌, ◌*◌, ◌/◌, ◌%◌, ◌^◌, List, [], ◌∷◌, ◌++◌, take, drop, if◌then◌else◌, ◌==◌, nat_le}
use Rattle.std.specs.Int.{w32, to_be_bytes}
use Rattle.avm_model.specs.Hash.{hash_of}
use Rattle.avm_model.specs.LmsTypes.{height_of}
use Rattle.avm_model.specs.LmsOts.{ots_public, ots_signature}

-- H(I || u32str(r) || u16str(D_LEAF) || K), leaf r (section 5.3)
abbrev pub leaf : List ℕ → ℕ → List ℕ → List ℕ
leaf id r k = hash_of (id ++ (to_be_bytes w32 r ++ (130 ∷ 130 ∷ k)))

-- H(I || u32str(r) || u16str(D_INTR) || T[2r] || T[2r+1]), inner node r (section 5.3)
abbrev pub inner : List ℕ → ℕ → List ℕ → List ℕ → List ℕ
inner id r left right = hash_of (id ++ (to_be_bytes w32 r ++ (131 ∷ 131 ∷ (left ++ right))))

-- T[r] of a tree of `count` leaves, at most n levels above its leaves
abbrev pub node_from : List ℕ → ℕ → (ℕ → List ℕ) → ℕ → ℕ → List ℕ
node_from id count k zero r = leaf id r (k (r - count))
node_from id count k (suc n) r =
    if nat_le count r then leaf id r (k (r - count))
    else inner id r (node_from id count k n (2 * r)) (node_from id count k n (2 * r + 1))

-- T[r] of a private key (section 5.3)
unfoldable pub node : ℕ → ℕ → List ℕ → List ℕ → ℕ → List ℕ
node lms ots id seed r = node_from id (2 ^ height_of lms) (λ q. ots_public ots id q seed) (height_of lms) r

-- the node beside r, node_num with its lowest bit turned (section 5.4.1)
abbrev pub beside : ℕ → ℕ
beside r = if r % 2 == 1 then r - 1 else r + 1

-- path[0] || .. || path[n-1], the nodes beside the way up from r (section 5.4.1)
abbrev pub path : (ℕ → List ℕ) → ℕ → ℕ → List ℕ
path t zero r = []
path t (suc n) r = t (beside r) ++ path t n (r / 2)

-- the node above r, by node r and the one beside it (section 5.4.2, the body of algorithm 6a's loop)
abbrev pub above : List ℕ → ℕ → List ℕ → List ℕ → List ℕ
above id r x other = if r % 2 == 1 then inner id (r / 2) other x else inner id (r / 2) x other

-- Tc: the root by node r and the n nodes beside its way up (section 5.4.2, algorithm 6a)
abbrev pub climb : List ℕ → ℕ → ℕ → List ℕ → List ℕ → List ℕ
climb id zero r x beyond = x
climb id (suc n) r x beyond = climb id n (r / 2) (above id r x (take 32 beyond)) (drop 32 beyond)

-- u32str(type) || u32str(otstype) || I || T[1] (section 5.3)
abbrev pub public_key : ℕ → ℕ → List ℕ → List ℕ → List ℕ
public_key lms ots id seed = to_be_bytes w32 lms ++ (to_be_bytes w32 ots ++ (id ++ node lms ots id seed 1))

-- u32str(q) || lmots_signature || u32str(type) || path[0] || .. || path[h-1] (sections 5.4 and 5.4.1)
abbrev pub signature : ℕ → ℕ → List ℕ → List ℕ → ℕ → List ℕ → List ℕ
signature lms ots id seed q text =
    to_be_bytes w32 q ++ (ots_signature ots id q seed text
    ++ (to_be_bytes w32 lms ++ path (node lms ots id seed) (height_of lms) (2 ^ height_of lms + q)))
