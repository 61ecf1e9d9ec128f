-- The file of a configuration; and what every configuration keeps to.
use Rattle.std.proofs.Common.{◌≡◌, ℕ, ◌+◌, ◌==◌, ◌^◌, ◌&&◌, nat_le, nat_lt, Bool, true, false, List, [], ◌∷◌, take, Option, None, Some, refl, sym, ap, subst, leb-true, ltb-true}
use Rattle.std.specs.Prelude.{option_map, MatchOption, option_and_then, if◌then◌else◌, codes}
use Rattle.avm_num.specs.Bytes.{◌>>=◌}
use Rattle.avm_num.proofs.Numbers.{and_true, bind_some, kept_some}
use Rattle.avm_model.specs.Bounds.{are_rows, none_past}
use Rattle.avm_model.specs.Memory.{is_page_count}
use Rattle.avm_model.specs.Init.{ConfigData}
use Rattle.avm_model.specs.declared.Peer.{Peer}
use Rattle.serde_json.specs.Data.{Data, Items, no_items, item}
use Rattle.serde_json.specs.Find.{get, as_array, as_object}
use Rattle.avm_script.specs.ConfigView.{config_view}
use Rattle.avm_script.specs.declared.config.Config.{Config}
use Rattle.avm_script.specs.Config.{IsConfig, config_of, is_config, config_data, peer_of, peer_of_id, placed, peers_from, number_of, bytes_of, has_members, keys_with, version_of}
use Rattle.command_parts.specs.Reading.{Finds, IsReadOf}
use Rattle.format_command.specs.FileOf.{IsConfigText, IsConfigIn, IsConfigRead}
use Rattle.format_command.specs.Booting.{IsReady}
use Rattle.format_command.proofs.CutFiles.{whole, all_read}

-- ---- what was read of a file

pub config_found : (told : Option (Option (List ℕ))) (got : List ℕ) (c : ConfigData) → IsReadOf 65536 told (Some got) → IsConfigText got c → IsConfigRead told (Some c)
config_found told got c r t = go r.0 r.1 r.2
  where
    go : (found : Option (List ℕ)) → Finds told found → Some got ≡ option_map (take (65536 + 1)) found → IsConfigRead told (Some c)
    go None f e = absurd cc
    go (Some bytes) f e =
        let cut : got ≡ take (65536 + 1) bytes = cc in
        (Some bytes, f, (bytes, refl, subst (λ (l : List ℕ). IsConfigText l c) (whole 65536 got bytes cut t.short) t))

pub none_found : (told : Option (Option (List ℕ))) (got : List ℕ) → IsReadOf 65536 told (Some got) → ((c : ConfigData) → IsConfigText got c → ⊥) → IsConfigRead told None
none_found told got r none = go r.0 r.1 r.2
  where
    go : (found : Option (List ℕ)) → Finds told found → Some got ≡ option_map (take (65536 + 1)) found → IsConfigRead told None
    go None f e = absurd cc
    go (Some bytes) f e =
        let cut : got ≡ take (65536 + 1) bytes = cc in
        (Some bytes, f, λ c t. none c (subst (λ (l : List ℕ). IsConfigText l c) (sym (all_read 65536 got bytes cut t.short)) t))

pub config_missing : (told : Option (Option (List ℕ))) → IsReadOf 65536 told None → IsConfigRead told None
config_missing told r = go r.0 r.1 r.2
  where
    go : (found : Option (List ℕ)) → Finds told found → None ≡ option_map (take (65536 + 1)) found → IsConfigRead told None
    go None f e = (None, f, tt)
    go (Some bytes) f e = absurd (let no : None ≡ Some (take (65536 + 1) bytes) = e in cc)

-- ---- nothing was sent to a peer

and_both : (a b : Bool) → a ≡ true → b ≡ true → (a && b) ≡ true
and_both true true p q = refl
and_both true false p q = cc
and_both false b p q = cc

peer_unsent : (d : Data) (p : Peer) → peer_of d ≡ Some p → p.sent ≡ 0
unfolding peer_of
peer_unsent d p e =
    let a = bind_some (number_of (codes "id") d) _ p e in
    let b = bind_some (bytes_of 56 (codes "key") d) _ p a.2 in
    let k = kept_some (has_members 2 (as_object d) && nat_lt a.0 16) (peer_of_id a.0 b.0) p b.2 in
    ap (λ (x : Peer). x.sent) (sym k.1)

zero_past : (p : Peer) (ps : List Peer) → p.sent ≡ 0 → none_past 0 ps ≡ true → none_past 0 (p ∷ ps) ≡ true
zero_past p ps z e = and_both (nat_le p.sent 0) (none_past 0 ps) (rw z refl) e

placed_unsent : (p : Peer) (ps qs : List Peer) → p.sent ≡ 0 → none_past 0 ps ≡ true → placed p ps ≡ Some qs → none_past 0 qs ≡ true
placed_unsent p [] qs z e is = let same : p ∷ [] ≡ qs = cc in subst (λ (l : List Peer). none_past 0 l ≡ true) same (zero_past p [] z refl)
placed_unsent p (q ∷ ps) qs z e is = first (λ r here. placed_unsent p ps r z (and_true (nat_le q.sent 0) (none_past 0 ps) e).1 here) (nat_lt q.id p.id) is
  where
    both : (nat_le q.sent 0 ≡ true) × (none_past 0 ps ≡ true)
    both = and_true (nat_le q.sent 0) (none_past 0 ps) e

    second : (b : Bool) → (if b then None else Some (p ∷ q ∷ ps)) ≡ Some qs → none_past 0 qs ≡ true
    second true is = absurd (let no : None ≡ Some qs = is in cc)
    second false is = let same : p ∷ q ∷ ps ≡ qs = cc in subst (λ (l : List Peer). none_past 0 l ≡ true) same (zero_past p (q ∷ ps) z e)

    first : ((r : List Peer) → placed p ps ≡ Some r → none_past 0 r ≡ true) → (b : Bool) → (if b then (placed p ps >>= λ rest. Some (q ∷ rest)) else if q.id == p.id then None else Some (p ∷ q ∷ ps)) ≡ Some qs → none_past 0 qs ≡ true
    first rest true is =
        let r = bind_some (placed p ps) (λ rest. Some (q ∷ rest)) qs is in
        let same : q ∷ r.0 ≡ qs = let h : Some (q ∷ r.0) ≡ Some qs = r.2 in cc in
        subst (λ (l : List Peer). none_past 0 l ≡ true) same (and_both (nat_le q.sent 0) (none_past 0 r.0) both.0 (rest r.0 r.1))
    first rest false is = second (q.id == p.id) is

peers_unsent : (items : Items) (ps qs : List Peer) → none_past 0 ps ≡ true → peers_from items ps ≡ Some qs → none_past 0 qs ≡ true
peers_unsent no_items ps qs e is = let same : ps ≡ qs = cc in subst (λ (l : List Peer). none_past 0 l ≡ true) same e
peers_unsent (item d items) ps qs e is =
    let p = bind_some (peer_of d) (λ p. placed p ps >>= peers_from items) qs is in
    let r = bind_some (placed p.0 ps) (peers_from items) qs p.2 in
    peers_unsent items r.0 qs (placed_unsent p.0 ps r.0 (peer_unsent d p.0 p.1) e r.1) r.2

-- ---- within the bounds

front_ready : (c : ConfigData) → is_config c ≡ true → none_past 0 c.peers ≡ true → IsReady c
front_ready c e none =
    let a = and_true (nat_lt c.own 16 && nat_le 1024 c.snap && nat_le c.snap (2 ^ 24) && is_page_count c.pages) (are_rows c.own 0 c.peers) e in
    let b = and_true (nat_lt c.own 16 && nat_le 1024 c.snap && nat_le c.snap (2 ^ 24)) (is_page_count c.pages) a.0 in
    let d = and_true (nat_lt c.own 16 && nat_le 1024 c.snap) (nat_le c.snap (2 ^ 24)) b.0 in
    let f = and_true (nat_lt c.own 16) (nat_le 1024 c.snap) d.0 in
    record {
      own = ltb-true c.own 16 f.0;
      least = leb-true 1024 c.snap f.1;
      most = leb-true c.snap (2 ^ 24) d.1;
      pages = b.1;
      rows = a.1;
      unsent = none;
    }

said_ready : (d : Data) (c : ConfigData) → config_of d ≡ Some c → IsReady c
unfolding config_of
said_ready d c e =
    let v = bind_some (version_of (get (codes "machine") d)) _ c e in
    let own = bind_some (number_of (codes "own") d) _ c v.2 in
    let pages = bind_some (number_of (codes "pages") d) _ c own.2 in
    let snap = bind_some (number_of (codes "snap") d) _ c pages.2 in
    let items = bind_some (option_and_then as_array (get (codes "peers") d)) _ c snap.2 in
    let peers = bind_some (peers_from items.0 []) _ c items.2 in
    let made : ConfigData = config_data v.0 own.0 pages.0 snap.0 peers.0 in
    let k = kept_some (has_members (keys_with (get (codes "machine") d)) (as_object d) && is_config made) made c peers.2 in
    let both = and_true (has_members (keys_with (get (codes "machine") d)) (as_object d)) (is_config made) k.0 in
    subst IsReady k.1 (front_ready made both.1 (peers_unsent items.0 [] peers.0 refl peers.1))

pub config_ready : (bytes : List ℕ) (c : ConfigData) → IsConfig bytes c → IsReady c
config_ready bytes c is = said_ready is.value c is.says

pub found_ready : (found : Option (List ℕ)) (c : ConfigData) → IsConfigIn found c → IsReady c
found_ready found c is = config_ready is.0 c is.2.says

-- what was read as a configuration, or not
pub config_read : (told : Option (Option (List ℕ))) (bytes : List ℕ) (o : Option Config) → IsReadOf 65536 told (Some bytes) → MatchOption o ((d : ConfigData) → IsConfigText bytes d → ⊥) (λ c. IsConfigText bytes (config_view c)) → IsConfigRead told (option_map config_view o)
config_read told bytes None r m = none_found told bytes r m
config_read told bytes (Some c) r m = config_found told bytes (config_view c) r m
