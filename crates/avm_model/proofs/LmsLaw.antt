-- A signature is valid under the public key.
use Rattle.std.proofs.Common.{◌≡◌, ℕ, zero, suc, ◌+◌, ◌-◌, ◌*◌, ◌/◌, ◌^◌, ◌<◌, ◌≤◌, List, [], ◌∷◌, ◌++◌, length, take, drop, refl, sym, ap, ap₂, ◌∙◌, arith, inl, inr, append_assoc}
use Rattle.std.proofs.lemmas.Bool.{cases_lt}
use Rattle.std.proofs.lemmas.List.{take_at, drop_at, drop-drop, length-append, take-append-le, drop-append-le, length-drop, take_all}
use Rattle.std.proofs.lemmas.Nat.{pow_pos, mod_below, from_be_bytes-to_be_bytes_4}
use Rattle.std.proofs.Math.Nat.{pow-le-pow_right}
use Rattle.std.specs.Int.{w32, to_be_bytes, from_be_bytes}
use Rattle.std.proofs.lemmas.Bool.Decides.{nat_tests}
use Rattle.sha2.proofs.Facts256.{length-sha256}
use Rattle.avm_model.specs.Hash.{hash_of}
use Rattle.avm_model.specs.LmsTypes.{width_of, chains_of, height_of, IsLms, IsOts}
use Rattle.avm_model.specs.LmsDigits.{coef, marked}
use Rattle.avm_model.specs.LmsOts.{base_of, head_of, chain, secret, joined, end_of, ots_public, randomizer, digest_of, shown_of, ots_signature, piece_of, reached_of, candidate_key}
use Rattle.avm_model.specs.LmsTree.{node, node_from, beside, path, climb, public_key, signature}
use Rattle.avm_model.specs.LmsValid.{number, IsValid, Valid}
use Rattle.avm_model.proofs.LmsNodes.{node-leaf, node-inner, node_from-leaf, node_from-inner, climb_path}
use Rattle.avm_model.proofs.LmsChains.{chain_then}

pub length-hash : (m : List ℕ) → length (hash_of m) ≡ 32
unfolding hash_of
length-hash m = length-sha256 m

pub coef-le : (s : List ℕ) (i w : ℕ) → coef s i w ≤ 2 ^ w - 1
unfolding coef
coef-le s i w = omega (arith, pow_pos w, mod_below)

pub chain-length : (head : List ℕ) (a n : ℕ) (x : List ℕ) → length x ≡ 32 → length (chain head a n x) ≡ 32
chain-length head a zero x h = h
chain-length head a (suc n) x h = length-hash _

pub joined-length : (f : ℕ → List ℕ) (n : ℕ) → ((i : ℕ) → length (f i) ≡ 32) → length (joined f n) ≡ 32 * n
joined-length f zero h = refl
joined-length f (suc n) h = omega (arith, length-append (joined f n) (f n), joined-length f n h, h n)

-- piece i of pieces of 32 bytes
pub joined_piece : (f : ℕ → List ℕ) (n i : ℕ) → ((i : ℕ) → length (f i) ≡ 32) → i < n → take 32 (drop (32 * i) (joined f n)) ≡ f i
joined_piece f zero i h lt = absurd (omega arith)
joined_piece f (suc n) i h lt =
    let len = joined-length f n h in
    elim (cases_lt i n) [
      | inl below ↦
          let d = drop-append-le (32 * i) (joined f n) (f n) (omega arith) in
          let t = take-append-le 32 (drop (32 * i) (joined f n)) (f n) (omega (arith, length-drop (32 * i) (joined f n))) in
          rw (d, t) (joined_piece f n i h below)
      | inr le ↦
          let e : i ≡ n = omega arith in
          rw (e, drop_at (joined f n) (f n) (32 * n) len) (take_all 32 (f n) (omega (arith, h n)))
    ]

pub joined_same : (f g : ℕ → List ℕ) (n : ℕ) → ((i : ℕ) → i < n → f i ≡ g i) → joined f n ≡ joined g n
joined_same f g zero h = refl
joined_same f g (suc n) h = ap₂ (λ (x y : List ℕ). x ++ y) (joined_same f g n (λ i lt. h i (omega arith))) (h n (omega arith))

-- the piece that a signature shows of chain i
pub piece_is : (ots n i : ℕ) (c : List ℕ) (f : ℕ → List ℕ) → length c ≡ 32 → ((i : ℕ) → length (f i) ≡ 32) → i < n → piece_of (to_be_bytes w32 ots ++ (c ++ joined f n)) i ≡ f i
piece_is ots n i c f e h lt =
    let split : drop (36 + 32 * i) (to_be_bytes w32 ots ++ (c ++ joined f n)) ≡ drop (32 * i) (joined f n) =
    sym (drop-drop (32 * i) 36 (to_be_bytes w32 ots ++ (c ++ joined f n)))
    ∙ ap (λ (l : List ℕ). drop (32 * i) l) (drop_at (to_be_bytes w32 ots ++ c) (joined f n) 36 (omega (arith, length-append (to_be_bytes w32 ots) c))) in
    rw split (joined_piece f n i h lt)

-- the rest of a chain
pub chain_rest : (head : List ℕ) (n last : ℕ) (x : List ℕ) → n ≤ last → chain head n (last - n) (chain head 0 n x) ≡ chain head 0 last x
chain_rest head n last x le =
    let e : n + (last - n) ≡ last = omega arith in
    let z : 0 + n ≡ n = omega arith in
    let t = chain_then head 0 n (last - n) x in
    rw (z, e) at t

-- K by the signature of a private key
pub candidate_is : (ots q : ℕ) (id seed text : List ℕ) → candidate_key ots id q text (ots_signature ots id q seed text) ≡ ots_public ots id q seed
candidate_is ots q id seed text =
    let base : List ℕ = base_of id q in
    let c : List ℕ = randomizer base seed in
    let m : List ℕ = marked ots (digest_of base c text) in
    let f : ℕ → List ℕ = shown_of ots base seed m in
    let long : (i : ℕ) → length (f i) ≡ 32 = λ i. chain-length (head_of base i) 0 (coef m i (width_of ots)) (secret base i seed) (length-hash _) in
    let c_is : take 32 (drop 4 (ots_signature ots id q seed text)) ≡ c =
    ap (λ (l : List ℕ). take 32 l) (drop_at (to_be_bytes w32 ots) (c ++ joined f (chains_of ots)) 4 refl) ∙ take_at c (joined f (chains_of ots)) 32 (length-hash _) in
    rw c_is (ap (λ (l : List ℕ). hash_of (base ++ (128 ∷ 128 ∷ l)))
    (joined_same (reached_of ots base m (ots_signature ots id q seed text)) (end_of ots base seed) (chains_of ots)
    (λ i lt. ap (λ (x : List ℕ). chain (head_of base i) (coef m i (width_of ots)) (2 ^ width_of ots - 1 - coef m i (width_of ots)) x) (piece_is ots (chains_of ots) i c f (length-hash _) long lt)
    ∙ chain_rest (head_of base i) (coef m i (width_of ots)) (2 ^ width_of ots - 1) (secret base i seed) (coef-le m i (width_of ots)))))

-- a number written behind others
pub number_is : (a c : List ℕ) (n k : ℕ) → length a ≡ k → n < 2 ^ 32 → number (a ++ (to_be_bytes w32 n ++ c)) k ≡ n
number_is a c n k len lt =
    ap (λ (l : List ℕ). from_be_bytes w32 (take 4 l)) (drop_at a (to_be_bytes w32 n ++ c) k len)
    ∙ ap (λ (l : List ℕ). from_be_bytes w32 l) (take_at (to_be_bytes w32 n) c 4 refl) ∙ from_be_bytes-to_be_bytes_4 n lt

pub node_from-length : (id : List ℕ) (count : ℕ) (k : ℕ → List ℕ) (n r : ℕ) → length (node_from id count k n r) ≡ 32
node_from-length id count k zero r = length-hash _
node_from-length id count k (suc n) r =
    elim (cases_lt r count) [
      | inl lt ↦ rw (node_from-inner id count k n r lt) (length-hash _)
      | inr le ↦ rw (node_from-leaf id count k (suc n) r le) (length-hash _)
    ]

pub node-length : (lms ots : ℕ) (id seed : List ℕ) (r : ℕ) → length (node lms ots id seed r) ≡ 32
unfolding node
node-length lms ots id seed r = node_from-length id (2 ^ height_of lms) (λ q. ots_public ots id q seed) (height_of lms) r

pub path-length : (t : ℕ → List ℕ) (n r : ℕ) → ((r : ℕ) → length (t r) ≡ 32) → length (path t n r) ≡ 32 * n
path-length t zero r h = refl
path-length t (suc n) r h = omega (arith, length-append (t (beside r)) (path t n (r / 2)), path-length t n (r / 2) h, h (beside r))

pub height-le : (lms : ℕ) → height_of lms ≤ 25
unfolding height_of
height-le lms = grind (arith, nat_tests)

-- the length of a one-time signature
pub ots-length : (ots q : ℕ) (id seed text : List ℕ) → length (ots_signature ots id q seed text) ≡ 36 + 32 * chains_of ots
ots-length ots q id seed text =
    let base : List ℕ = base_of id q in
    let c : List ℕ = randomizer base seed in
    let m : List ℕ = marked ots (digest_of base c text) in
    let f : ℕ → List ℕ = shown_of ots base seed m in
    let long : (i : ℕ) → length (f i) ≡ 32 = λ i. chain-length (head_of base i) 0 (coef m i (width_of ots)) (secret base i seed) (length-hash _) in
    let c_long : length c ≡ 32 = length-hash _ in
    omega (arith, length-append c (joined f (chains_of ots)), joined-length f (chains_of ots) long, c_long)

-- the checks, over any signature with these parts
pub valid_parts : (lms ots q : ℕ) (id seed text sig one way : List ℕ) → IsLms lms → IsOts ots → q < 2 ^ height_of lms
    → length sig ≡ 44 + 32 * chains_of ots + 32 * height_of lms → number sig 0 ≡ q → number sig 4 ≡ ots → number sig (40 + 32 * chains_of ots) ≡ lms
    → take (36 + 32 * chains_of ots) (drop 4 sig) ≡ one → drop (44 + 32 * chains_of ots) sig ≡ way
    → candidate_key ots id q text one ≡ ots_public ots id q seed
    → climb id (height_of lms) (2 ^ height_of lms + q) (node lms ots id seed (2 ^ height_of lms + q)) way ≡ node lms ots id seed 1
    → IsValid lms ots id (node lms ots id seed 1) text sig
valid_parts lms ots q id seed text sig one way is_lms is_ots lt exact e0 e4 e40 e_one e_way key root =
    record {
      lms_type = is_lms;
      ots_type = is_ots;
      exact = exact;
      same_ots = e4;
      same_lms = e40;
      within = rw e0 lt;
      same_root = rw (e0, e_one, e_way, key, ← node-leaf lms ots id seed q) root;
    }

pub valid_by : (lms ots : ℕ) (id root key text sig : List ℕ) → length key ≡ 56 → lms ≡ number key 0 → ots ≡ number key 4 → id ≡ take 16 (drop 8 key) → root ≡ drop 24 key
    → IsValid lms ots id root text sig → Valid key text sig
valid_by lms ots id root key text sig e p1 p2 p3 p4 h = record { exact = e; by = rw (p1, p2, p3, p4) at h }

-- a signature of a private key is valid under its public key
pub signature-valid : (lms ots q : ℕ) (id seed text : List ℕ) → IsLms lms → IsOts ots → length id ≡ 16 → q < 2 ^ height_of lms
    → Valid (public_key lms ots id seed) text (signature lms ots id seed q text)
signature-valid lms ots q id seed text is_lms is_ots id_long lt =
    let h : ℕ = height_of lms in
    let t : ℕ → List ℕ = node lms ots id seed in
    let one : List ℕ = ots_signature ots id q seed text in
    let way : List ℕ = path t h (2 ^ h + q) in
    let one_long : length one ≡ 36 + 32 * chains_of ots = ots-length ots q id seed text in
    let root_long : length (t 1) ≡ 32 = node-length lms ots id seed 1 in
    let way_long : length way ≡ 32 * h = path-length t h (2 ^ h + q) (node-length lms ots id seed) in
    let top : 2 ^ h ≤ 2 ^ 25 = pow-le-pow_right {n = 2} (omega arith) (height-le lms) in
    let b : List ℕ = to_be_bytes w32 q in
    let l : List ℕ = to_be_bytes w32 lms in
    let o : List ℕ = to_be_bytes w32 ots in
    let regroup : b ++ (one ++ (l ++ way)) ≡ (b ++ one) ++ (l ++ way) = sym (append_assoc b one (l ++ way)) in
    let regroup_way : b ++ (one ++ (l ++ way)) ≡ ((b ++ one) ++ l) ++ way = regroup ∙ sym (append_assoc (b ++ one) l way) in
    let front : length (b ++ one) ≡ 40 + 32 * chains_of ots = omega (arith, length-append b one) in
    valid_by lms ots id (t 1) (public_key lms ots id seed) text (signature lms ots id seed q text)
    (omega (arith, length-append id (t 1)))
    (sym (number_is [] (o ++ (id ++ t 1)) lms 0 refl (omega arith)))
    (sym (number_is l (id ++ t 1) ots 4 refl (omega arith)))
    (sym (ap (λ (x : List ℕ). take 16 x) (drop_at (l ++ o) (id ++ t 1) 8 refl) ∙ take_at id (t 1) 16 id_long))
    (sym (drop_at ((l ++ o) ++ id) (t 1) 24 (omega (arith, length-append (l ++ o) id))))
    (valid_parts lms ots q id seed text (signature lms ots id seed q text) one way is_lms is_ots lt
    (omega (arith, length-append one (l ++ way)))
    (number_is [] (one ++ (l ++ way)) q 0 refl (omega arith))
    (number_is b ((randomizer (base_of id q) seed ++ joined (shown_of ots (base_of id q) seed (marked ots (digest_of (base_of id q) (randomizer (base_of id q) seed) text))) (chains_of ots)) ++ (l ++ way)) ots 4 refl (omega arith))
    (ap (λ (x : List ℕ). number x (40 + 32 * chains_of ots)) regroup ∙ number_is (b ++ one) way lms (40 + 32 * chains_of ots) front (omega arith))
    (ap (λ (x : List ℕ). take (36 + 32 * chains_of ots) x) (drop_at b (one ++ (l ++ way)) 4 refl) ∙ take_at one (l ++ way) (36 + 32 * chains_of ots) one_long)
    (ap (λ (x : List ℕ). drop (44 + 32 * chains_of ots) x) regroup_way ∙ drop_at ((b ++ one) ++ l) way (44 + 32 * chains_of ots) (omega (arith, length-append (b ++ one) l, front)))
    (candidate_is ots q id seed text)
    (climb_path id (2 ^ h) t (node-inner lms ots id seed) (node-length lms ots id seed) h (2 ^ h + q) (omega arith) (omega arith) (omega arith)))
