-- Whether a journal has bound a pair, looked for among its items.
use Rattle.std.specs.Prelude.{ℕ, ◌==◌, ◌&&◌, ◌||◌, not, Bool, true, false, List, [], ◌∷◌}
use Rattle.std.specs.List.{list_any}
use Rattle.std.specs.Str.{bytes_eq}
use Rattle.avm_model.specs.Auth.{AuthData}
use Rattle.avm_model.specs.Chain.{next_hash}
use Rattle.avm_model.specs.Frame.{FrameData}
use Rattle.journal_model.specs.Standing.{SignedData}
use Rattle.jrnl_store.specs.Kept.{Kept}
use Rattle.jrnl_store.specs.Items.{ItemData, carried_item, entry_item, seal_item, keep_item}
use Rattle.rebut_pass.specs.Items.{listed}
use Rattle.rebut_pass.specs.declared.sought.Sought.{Sought}

-- the pair; whether the journal is behind an earlier one, and the hash before its first entry; whether that entry has come; and
-- whether the pair is found
pub record Looking : Type 0 where
  pub seq : ℕ
  pub hash : List ℕ
  pub later : Bool
  pub before : List ℕ
  pub begun : Bool
  pub found : Bool

abbrev pub sought_view : Sought → Looking
sought_view s = record { seq = s.pair.seq; hash = s.pair.hash.0; later = s.later; before = s.before.0; begun = s.begun; found = s.found }

abbrev pub is_sought : Looking → ℕ → List ℕ → Bool
is_sought v seq hash = seq == v.seq && bytes_eq hash v.hash

-- the first entry of a journal behind an earlier one
abbrev pub opens : Looking → FrameData → Bool
opens v f = not v.begun && v.later && is_sought v f.seq (next_hash v.before f)

abbrev pub is_ticket : Looking → SignedData → Bool
is_ticket v s = is_sought v s.seq s.hash

-- one item more
abbrev pub looked : Looking → ItemData → Looking
looked v (carried_item f s) = v
looked v (entry_item f t) = record v { begun = true; found = v.found || opens v f || list_any (is_ticket v) (listed t) }
looked v (seal_item s) = record v { found = v.found || is_ticket v s }
looked v (keep_item k) = v

abbrev pub looked_all : Looking → List ItemData → Looking
looked_all v [] = v
looked_all v (x ∷ xs) = looked_all (looked v x) xs

-- the pair of an authenticator, not found yet
abbrev pub sought_of : Kept → AuthData → Looking
sought_of k a = record { seq = a.seq; hash = a.hash; later = not (k.bounds.first == 1); before = k.before; begun = false; found = false }
