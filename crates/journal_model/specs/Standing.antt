-- Where a journal stands behind its parts: what the next part has to fit, and what signs it.
use Rattle.std.specs.Prelude.{◌≡◌, ℕ, ◌+◌, ◌-◌, ◌^◌, ◌≤◌, ◌<◌, ◌==◌, ◌&&◌, nat_lt, nat_le, Bool, true, false, List, [], ◌∷◌, ◌++◌, map, Option, Some, None, IfSome, fold, if◌then◌else◌}
use Rattle.avm_num.specs.Bytes.{◌>>=◌, kept}
use Rattle.avm_num.specs.Walk.{all_at}
use Rattle.avm_model.specs.Basics.{flag}
use Rattle.avm_model.specs.Frame.{FrameData}
use Rattle.avm_model.specs.Chain.{next_hash}
use Rattle.journal_model.specs.Part.{Part, entry, seal, keep, pages_of, part_at, signing, is_signed_kind}
use Rattle.journal_model.specs.Header.{HeaderData, most_leaves}
use Rattle.journal_model.specs.Journal.{JournalData, parts, entries, may_stand, snap_of, is_number, pages_ascend, follows, page_count_of}

-- a signing item: its leaf, its number and hash, and the hash before; for a seal those of the last entry
pub record SignedData : Type 0 where
  pub leaf : ℕ
  pub seq : ℕ
  pub hash : List ℕ
  pub before : List ℕ

-- the next entry's number, the last entry's hash and the one before it, the used leaves, whether the last item is a seal, and the
-- last signing item, where there is one
pub record StandingData : Type 0 where
  pub next : ℕ
  pub hash : List ℕ
  pub prior : List ℕ
  pub used : ℕ
  pub sealed : Bool
  pub signed : Option SignedData

abbrev pub entry_signed : StandingData → FrameData → SignedData
entry_signed s f = record { leaf = s.used; seq = f.seq; hash = next_hash s.hash f; before = s.hash }

abbrev pub seal_signed : StandingData → SignedData
seal_signed s = record { leaf = s.used; seq = s.next - 1; hash = s.hash; before = s.prior }

-- behind one part more
abbrev pub behind : StandingData → Part → StandingData
behind s (entry f) = record {
  next = s.next + 1;
  hash = next_hash s.hash f;
  prior = s.hash;
  used = s.used + flag (is_signed_kind f.kind);
  sealed = false;
  signed = if is_signed_kind f.kind then Some (entry_signed s f) else s.signed;
}
behind s seal = record { next = s.next; hash = s.hash; prior = s.prior; used = s.used + 1; sealed = true; signed = Some (seal_signed s) }
behind s (keep k) = s

-- a journal's parts: its header alone, and behind all its parts
abbrev pub start : HeaderData → StandingData
start h = record { next = h.first; hash = h.before; prior = h.before; used = h.leaves; sealed = false; signed = None }

unfoldable pub standing : JournalData → StandingData
standing j = fold behind (start j.header) (parts j)

-- the signing items of parts
abbrev pub signed_in : StandingData → Part → List SignedData
signed_in s (entry f) = if is_signed_kind f.kind then entry_signed s f ∷ [] else []
signed_in s seal = seal_signed s ∷ []
signed_in s (keep k) = []

abbrev pub signed_from : StandingData → List Part → List SignedData
signed_from s [] = []
signed_from s (p ∷ ps) = signed_in s p ++ signed_from (behind s p) ps

-- the signing items of a journal, each with its leaf
unfoldable pub signed_items : JournalData → List SignedData
signed_items j = signed_from (start j.header) (parts j)

-- leaves run on from n, one for each
abbrev pub LeavesFrom : ℕ → List SignedData → Type 0
LeavesFrom n [] = Unit {0}
LeavesFrom n (s ∷ ss) = (s.leaf ≡ n) × LeavesFrom (n + 1) ss

-- The bound pairs: those of the signing items. Behind an earlier journal the first entry's pair stands before them, because that one
-- may have bound it.
abbrev pub first_pair : HeaderData → List FrameData → List (ℕ × List ℕ)
first_pair h [] = []
first_pair h (f ∷ fs) = if h.first == 1 then [] else (f.seq, next_hash h.before f) ∷ []

unfoldable pub bound : JournalData → List (ℕ × List ℕ)
bound j = first_pair j.header (entries j) ++ map (λ (s : SignedData). (s.seq, s.hash)) (signed_items j)

-- the hash before the last entry's
abbrev pub prior_of : List ℕ → List ℕ → List FrameData → List ℕ
prior_of prior h [] = prior
prior_of prior h (f ∷ fs) = prior_of h (next_hash h f) fs

-- whether the last item is a seal
abbrev pub ends_sealed : Bool → List Part → Bool
ends_sealed sealed [] = sealed
ends_sealed sealed (entry f ∷ ps) = ends_sealed false ps
ends_sealed sealed (seal ∷ ps) = ends_sealed true ps
ends_sealed sealed (keep k ∷ ps) = ends_sealed sealed ps

unfoldable pub is_sealed : JournalData → Bool
is_sealed j = ends_sealed false (parts j)

unfoldable pub prior_hash : JournalData → List ℕ
prior_hash j = prior_of j.header.before j.header.before (entries j)

-- what a journal sets for its parts: the number of its first entry, its page count, and how many leaves its key has
pub record Bounds : Type 0 where
  pub first : ℕ
  pub pages : ℕ
  pub most : ℕ

abbrev pub bounds : JournalData → Bounds
bounds j = record { first = j.header.first; pages = page_count_of j; most = most_leaves j.header.key }

-- numbers and leaves within their bounds
pub record IsLow (b : Bounds) (s : StandingData) : Type 0 where
  pub next : s.next ≤ 2 ^ 62
  pub used : s.used ≤ b.most
  pub signed : IfSome s.signed (λ item. item.leaf < b.most)

-- where parts stand that fit
abbrev pub judged : Bounds → StandingData → Option ℕ → List Part → Option StandingData
judged b s snap ps = kept (follows b.first b.pages s.next snap ps && nat_le (s.used + signing ps) b.most) (fold behind s ps)

-- one part fits
abbrev pub fits_part : Bounds → StandingData → Option ℕ → Part → Bool
fits_part b s snap (entry f) = f.seq == s.next && may_stand b.first s.next f.kind && nat_le (s.used + flag (is_signed_kind f.kind)) b.most
fits_part b s snap seal = nat_lt b.first s.next && nat_le (s.used + 1) b.most
fits_part b s snap (keep k) = is_number snap k.seq && pages_ascend 0 b.pages (pages_of k)

abbrev pub snap_behind : Part → Option ℕ
snap_behind (entry f) = snap_of f
snap_behind seal = None
snap_behind (keep k) = None

-- where the parts stand that these bytes are
unfoldable pub continued : Bounds → StandingData → List ℕ → Option StandingData
continued b s items = all_at part_at items >>= λ ps. judged b s None ps
