-- The rows of a node that boots, and its store.
use Rattle.std.proofs.Common.{Some, Result, Ok, ◌*◌, suc, map, take, get_or, ◌≡◌, ◌≤◌, ◌<◌, ◌+◌, ◌==◌, ℕ, Bool, true, false, List, [], ◌∷◌, ◌++◌, length, refl, sym, ap, subst, ◌∙◌, arith, le-leb, lt-ltb}
use Rattle.std.proofs.lemmas.List.{length-map, length-take-le, map-append, take_more}
use Rattle.std.specs.Prelude.{if◌then◌else◌, nat_le, nat_lt}
use Rattle.avm_model.specs.Bounds.{are_rows, none_past}
use Rattle.avm_model.specs.HeadState.{data_of}
use Rattle.avm_model.specs.Init.{ConfigData}
use Rattle.avm_model.specs.Keys.{KeyData, public_of}
use Rattle.avm_model.specs.LmsValid.{has_types, is_key}
use Rattle.avm_model.specs.Machine.{State}
use Rattle.avm_model.specs.Memory.{IsRam}
use Rattle.avm_model.specs.declared.Peer.{Peer}
use Rattle.command_parts.specs.declared.fault.Fault.{Fault}
use Rattle.format_command.specs.Booting.{Boots, IsReady}
use Rattle.format_command.specs.First.{Makes, StandsFor, first_journal}
use Rattle.format_command.specs.declared.ends.End.{End}
use Rattle.format_command.specs.declared.ends.End.TheVariants as ending
use Rattle.honest_model.specs.KeepPages.{IsHeader, WritesHead}
use Rattle.journal_model.specs.Journal.{JournalData}
use Rattle.world_start.specs.Start.{AreKeys, config_at, key_at, keys_from, new_row, rows_from}
use Rattle.world_model.specs.Deeds.{NodeData}
use Rattle.world_schedule.specs.Read.{node_in}
use Rattle.world_schedule.specs.declared.node_line.NodeLine.{NodeLine}

pub key_good : (own : ℕ) (n : NodeData) → is_key (public_of (key_at own n)) ≡ true
unfolding public_of has_types
key_good own n = refl

pub keys_good : (own : ℕ) (ns : List NodeData) → AreKeys (keys_from own ns)
keys_good own [] = tt
keys_good own (n ∷ ns) = (key_good own n, keys_good (own + 1) ns)

rows_good : (own low id : ℕ) (keys : List (List ℕ)) → low ≤ id → id + length keys ≤ 16 → AreKeys keys → are_rows own low (rows_from own id keys) ≡ true
rows_good own low id [] a b h = refl
rows_good own low id (k ∷ ks) a b h = by (id == own) refl (rows_good own low (id + 1) ks (omega (arith, a)) (omega (arith, b)) h.1) (rows_good own (id + 1) (id + 1) ks (omega arith) (omega (arith, b)) h.1)
  where
    by : (x : Bool) → (id == own) ≡ x → are_rows own low (rows_from own (id + 1) ks) ≡ true → are_rows own (id + 1) (rows_from own (id + 1) ks) ≡ true → are_rows own low (if x then rows_from own (id + 1) ks else new_row id k ∷ rows_from own (id + 1) ks) ≡ true
    by true q e f = e
    by false q e f =
        let low_is : nat_le low id ≡ true = le-leb low id a in
        let few : nat_lt id 16 ≡ true = lt-ltb id 16 (omega (arith, b)) in
        rw (low_is, few, q, h.0, f) refl

rows_unsent : (own id : ℕ) (keys : List (List ℕ)) → none_past 0 (rows_from own id keys) ≡ true
rows_unsent own id [] = refl
rows_unsent own id (k ∷ ks) = by (id == own) (rows_unsent own (id + 1) ks)
  where
    by : (x : Bool) → none_past 0 (rows_from own (id + 1) ks) ≡ true → none_past 0 (if x then rows_from own (id + 1) ks else new_row id k ∷ rows_from own (id + 1) ks) ≡ true
    by true e = e
    by false e = e

pub ready : (own : ℕ) (keys : List (List ℕ)) → length keys ≤ 4 → own < length keys → AreKeys keys → IsReady (config_at own keys)
ready own keys few low h = record {
  own = omega (arith, few, low);
  least = omega arith;
  most = omega arith;
  pages = refl;
  rows = rows_good own 0 0 keys (omega arith) (omega (arith, few)) h;
  unsent = rows_unsent own 0 keys;
}

-- with these peers
pub ready_with : (own : ℕ) (keys : List (List ℕ)) (peers : List Peer) → length keys ≤ 4 → own < length keys → AreKeys keys → peers ≡ rows_from own 0 keys → IsReady (record { version = 1; own = own; pages = 1; snap = 1024; peers = peers })
ready_with own keys peers few low h e = subst (λ (ps : List Peer). IsReady (record { version = 1; own = own; pages = 1; snap = 1024; peers = ps })) (sym e) (ready own keys few low h)

-- a store that was made
pub store_made : (j : JournalData) (images : List ℕ → Type 0) (was now : List ℕ) (r : Result End Fault) → r ≡ Ok ending.StoreMade → Makes j (Some was) (Some now) images r → StandsFor j images now
store_made j images was now r is h = (subst (λ (x : Result End Fault). Makes j (Some was) (Some now) images x) is h).1

-- the header of a store that was made
pub header_is : (k : KeyData) (c : ConfigData) (file : List ℕ) (s : State) (dirty : List Bool) → Boots c file s → 0 < c.snap → WritesHead s → IsRam s.ram dirty → IsHeader (first_journal k s).header (data_of s)
header_is k c file s dirty b snap w r =
    let size : length s.ram ≡ 4096 * length dirty = r.size in
    let count : s.count ≡ 0 = ap (λ (x : State). x.count) b.is in
    let snap_is : s.snap ≡ c.snap = ap (λ (x : State). x.snap) b.is in
    record {
      head = w.read;
      pages = omega (arith, size);
      snap = omega (arith, snap, snap_is);
      begins = λ one. count;
    }

-- ---- keys, one after another

keys_append : (own : ℕ) (ns : List NodeData) (n : NodeData) → keys_from own (ns ++ n ∷ []) ≡ keys_from own ns ++ public_of (key_at (own + length ns) n) ∷ []
keys_append own [] n =
    let sum : own ≡ own + length {A = NodeData} [] = omega arith in
    ap (λ (k : ℕ). public_of (key_at k n) ∷ []) sum
keys_append own (x ∷ ns) n =
    let sum : own + 1 + length ns ≡ own + suc (length ns) = omega arith in
    ap (λ (ks : List (List ℕ)). public_of (key_at own x) ∷ ks)
    (keys_append (own + 1) ns n ∙ ap (λ (k : ℕ). keys_from (own + 1) ns ++ public_of (key_at k n) ∷ []) sum)

pub keys_long : (own : ℕ) (ns : List NodeData) → length (keys_from own ns) ≡ length ns
keys_long own [] = refl
keys_long own (n ∷ ns) = ap (λ (k : ℕ). suc k) (keys_long (own + 1) ns)

pub keys_next : (xs : List NodeLine) (i own : ℕ) (x : NodeLine) (k : List ℕ) (ks more : List (List ℕ)) → i < length xs → x ≡ get_or xs i x → own ≡ i → ks ≡ keys_from 0 (map node_in (take i xs)) → k ≡ public_of (key_at own (node_in x)) → more ≡ ks ++ k ∷ [] → more ≡ keys_from 0 (map node_in (take (i + 1) xs))
keys_next xs i own x k ks more lt item is before key adds =
    let front : map node_in (take (i + 1) xs) ≡ map node_in (take i xs) ++ node_in x ∷ [] =
    ap (map node_in) (take_more xs i x lt) ∙ map-append node_in (take i xs) (get_or xs i x ∷ []) ∙ ap (λ (y : NodeLine). map node_in (take i xs) ++ node_in y ∷ []) (sym item) in
    let many : length (map node_in (take i xs)) ≡ own = length-map (take i xs) node_in ∙ length-take-le i xs (omega (arith, lt)) ∙ sym is in
    let sum : 0 + length (map node_in (take i xs)) ≡ own = omega (arith, many) in
    let all : keys_from 0 (map node_in (take (i + 1) xs)) ≡ keys_from 0 (map node_in (take i xs)) ++ public_of (key_at own (node_in x)) ∷ [] =
    ap (keys_from 0) front ∙ keys_append 0 (map node_in (take i xs)) (node_in x)
    ∙ ap (λ (j : ℕ). keys_from 0 (map node_in (take i xs)) ++ public_of (key_at j (node_in x)) ∷ []) sum in
    adds ∙ ap (λ (z : List (List ℕ)). z ++ k ∷ []) before ∙ ap (λ (z : List ℕ). keys_from 0 (map node_in (take i xs)) ++ z ∷ []) key ∙ sym all
