-- What a crash leaves of a disk in memory, before and after a change.
use Rattle.std.proofs.Common.{◌≡◌, inl, inr, ℕ, zero, suc, ◌+◌, ◌-◌, ◌≤◌, ◌<◌, min, max, Bool, true, false, cond, ◌||◌, ◌&&◌, nat_le, nat_lt, List, [], ◌∷◌, ◌++◌, length, get_or, take, drop, refl, sym, ◌∙◌, ap, subst, arith, length-append}
use Rattle.std.proofs.lemmas.List.{ext_get_or, get_or_push, get_or_append_left, get_or-append_right, get_or-take, get_or-drop, length-take-le}
use Rattle.std.proofs.lemmas.Bool.{cases_lt}
use Rattle.std.proofs.lemmas.Bool.Decides.{nat_tests}
use Rattle.avm_outside.specs.Disk.{Torn, Follows, Only, Elapses, overwritten}
use Rattle.avm_outside.specs.DiskLog.{Change, wrote, missed, synced, KeptCall, DiskState, state_after, state_upto, IsImage, LeftSince, IsRun, is_covered, are_counted}
use Rattle.avm_outside.proofs.Tears.{Torn-refl}
use Rattle.avm_outside.proofs.DiskLogs.{counted_of, state_in, state_out, state_more, elapses_kept}

abbrev in_range : ℕ → ℕ → ℕ → Bool
in_range at n p = nat_le at p && nat_lt p (at + n)

-- a list by its places
build : ℕ → (ℕ → ℕ) → List ℕ
build zero f = []
build (suc n) f = build n f ++ f n ∷ []

length-build : (n : ℕ) (f : ℕ → ℕ) → length (build n f) ≡ n
unfolding build
length-build zero f = refl
length-build (suc n) f = omega (arith, length-build n f, length-append (build n f) (f n ∷ []))

get_or-build : (n : ℕ) (f : ℕ → ℕ) (p : ℕ) → p < n → get_or (build n f) p 0 ≡ f p
unfolding build
get_or-build zero f p lt = absurd (omega arith)
get_or-build (suc n) f p lt = elim (cases_lt p n) [
  | inl below ↦ get_or_append_left (build n f) (f n ∷ []) 0 p (omega (arith, below, length-build n f)) ∙ get_or-build n f p below
  | inr at ↦ let is : p ≡ n = omega arith in ap (λ (k : ℕ). get_or (build n f ++ f n ∷ []) k 0) is ∙ get_or_push (build n f) (f n) 0 n (length-build n f) ∙ sym (ap f is)
]

or_false : (a b : Bool) → a ≡ false → b ≡ false → (a || b) ≡ false
or_false false false p q = refl
or_false false true p q = q
or_false true b p q = absurd (cc p)

chosen_same : (b : Bool) (x y : ℕ) → (b ≡ false → y ≡ x) → cond b x y ≡ x
chosen_same true x y same = refl
chosen_same false x y same = same refl

chosen_other : (b : Bool) (x y : ℕ) → b ≡ false → y ≡ cond b x y
chosen_other true x y out = absurd (cc out)
chosen_other false x y out = refl

outside : (at n p : ℕ) → (at ≤ p → at + n ≤ p) → in_range at n p ≡ false
outside at n p out = elim (cases_lt p at) [
  | inl below ↦ grind (arith, nat_tests)
  | inr above ↦ let far : at + n ≤ p = out above in grind (arith, nat_tests)
]

not_inside : (at n p : ℕ) → in_range at n p ≡ false → at ≤ p → at + n ≤ p
not_inside at n p out above = grind (arith, nat_tests)

-- one range more
covered_push : (p : ℕ) (ranges : List (ℕ × ℕ)) (at n : ℕ) → is_covered p ranges ≡ false → in_range at n p ≡ false → is_covered p (ranges ++ (at, n) ∷ []) ≡ false
covered_push p [] at n a b = or_false (in_range at n p) false b refl
covered_push p (r ∷ ranges) at n a b =
    let t = or_both (in_range r.0 r.1 p) (is_covered p ranges) a in
    or_false (in_range r.0 r.1 p) (is_covered p (ranges ++ (at, n) ∷ [])) t.0 (covered_push p ranges at n t.1 b)
  where
    or_both : (x y : Bool) → (x || y) ≡ false → (x ≡ false) × (y ≡ false)
    or_both false false h = (refl, refl)
    or_both false true h = absurd (cc h)
    or_both true y h = absurd (cc h)

-- what holds of a state that a run comes to
pub record Stands (s : DiskState) (bytes : List ℕ) : Type 0 where
  pub replays : s.bytes ≡ bytes
  pub long : s.extent.now ≡ length bytes
  pub low : s.extent.least ≤ length bytes
  pub high : length bytes ≤ s.extent.most

pub stands : (base : List ℕ) (n : ℕ) (log : List KeptCall) (bytes : List ℕ) → IsRun base n log bytes → Stands (state_upto base n log) bytes
stands base n log bytes run = record { replays = run.replays; long = run.long; low = run.low; high = run.high }

-- an image after a write comes from one before it
loosened_torn : (s : DiskState) (bytes next : List ℕ) (now at n : ℕ) → Stands s bytes → ((p : ℕ) → p < s.extent.least → in_range at n p ≡ false → get_or next p 0 ≡ get_or s.bytes p 0)
    → Follows (Torn at n) (λ c. IsImage s c) (λ c. IsImage (record { bytes = next; ranges = s.ranges ++ (at, n) ∷ []; extent = record { now = now; least = s.extent.least; most = max s.extent.most (at + n) } }) c)
loosened_torn s bytes next now at n run agrees c image =
    let f : ℕ → ℕ = λ p. cond (in_range at n p) (get_or s.bytes p 0) (get_or c p 0) in
    let d = build (min (length c) s.extent.most) f in
    let long : length d ≡ min (length c) s.extent.most = length-build (min (length c) s.extent.most) f in
    let place : (p : ℕ) → p < min (length c) s.extent.most → get_or d p 0 ≡ f p = get_or-build (min (length c) s.extent.most) f in (
      d,
      record {
        no_shorter = omega (arith, long, image.no_shorter, run.low, run.high);
        no_longer = omega (arith, long);
        kept = λ p lt unwritten. place p (omega (arith, lt, image.no_shorter, run.low, run.high)) ∙ chosen_same (in_range at n p) (get_or s.bytes p 0) (get_or c p 0) (λ out. image.kept p lt (covered_push p s.ranges at n unwritten out) ∙ agrees p lt out);
      },
      record {
        others = λ p lt out. chosen_other (in_range at n p) (get_or s.bytes p 0) (get_or c p 0) (outside at n p out) ∙ sym (place p (omega (arith, lt, long)));
        no_shorter = omega (arith, long);
        no_longer = omega (arith, long, image.no_longer);
      },
    )

overwritten_same : (at : ℕ) (bytes was : List ℕ) (p : ℕ) → at ≤ length was → p < length was → in_range at (length bytes) p ≡ false → get_or (overwritten at bytes was) p 0 ≡ get_or was p 0
overwritten_same at bytes was p within lt out = elim (cases_lt p at) [
  | inl below ↦
      get_or_append_left (take at was ++ bytes) (drop (at + length bytes) was) 0 p (omega (arith, below, length-append (take at was) bytes, length-take-le at was within))
      ∙ get_or_append_left (take at was) bytes 0 p (omega (arith, below, length-take-le at was within))
      ∙ get_or-take at was p 0 below
  | inr above ↦
      let far : at + length bytes ≤ p = not_inside at (length bytes) p out above in
      get_or-append_right (take at was ++ bytes) (drop (at + length bytes) was) (at + length bytes) p 0 (omega (arith, length-append (take at was) bytes, length-take-le at was within)) far
      ∙ get_or-drop (at + length bytes) was (p - (at + length bytes)) 0
      ∙ ap (λ (k : ℕ). get_or was k 0) (omega (arith, far))
]

-- the places and number of bytes that a write loosens
abbrev pub Loosens : ℕ → ℕ → Change → List ℕ → Type 0
Loosens at n (wrote place new) bytes = (place ≡ at) × (length new ≡ n) × (at ≤ length bytes)
Loosens at n (missed place size) bytes = (place ≡ at) × (size ≡ n)
Loosens at n synced bytes = ⊥

after_torn : (s : DiskState) (bytes : List ℕ) (at n : ℕ) (e : Change) → Stands s bytes → Loosens at n e bytes → Follows (Torn at n) (λ c. IsImage s c) (λ c. IsImage (state_after s e) c)
after_torn s bytes at n (wrote place new) run l =
    let here = loosened_torn s bytes (overwritten place new s.bytes) (max s.extent.now (place + length new)) place (length new) run (λ p lt out.
    let within = l.2 in
    let same = l.0 in
    overwritten_same place new s.bytes p (omega (arith, within, same, ap length run.replays)) (omega (arith, lt, run.low, ap length run.replays)) out) in
    subst (λ (m : ℕ). Follows (Torn at m) (λ c. IsImage s c) (λ c. IsImage (state_after s (wrote place new)) c)) l.1
    (subst (λ (a : ℕ). Follows (Torn a (length new)) (λ c. IsImage s c) (λ c. IsImage (state_after s (wrote place new)) c)) l.0 here)
after_torn s bytes at n (missed place size) run l =
    let here = loosened_torn s bytes s.bytes s.extent.now place size run (λ p lt out. refl) in
    subst (λ (m : ℕ). Follows (Torn at m) (λ c. IsImage s c) (λ c. IsImage (state_after s (missed place size)) c)) l.1
    (subst (λ (a : ℕ). Follows (Torn a size) (λ c. IsImage s c) (λ c. IsImage (state_after s (missed place size)) c)) l.0 here)
after_torn s bytes at n synced run none = absurd none

-- a write that is kept
pub kept_crash : (base : List ℕ) (log : List KeptCall) (bytes : List ℕ) (e : KeptCall) (k at n : ℕ) → IsRun base k log bytes → e.call ≡ suc k → Loosens at n e.change bytes
    → Follows (Torn at n) (λ c. IsImage (state_upto base k log) c) (λ c. IsImage (state_upto base (suc k) (log ++ e ∷ [])) c)
kept_crash base log bytes e k at n run number loosens =
    let more = state_more base k (suc k) log (counted_of k log run.counted) (omega arith) in
    let end : state_upto base (suc k) (log ++ e ∷ []) ≡ state_after (state_upto base k log) e.change = state_in base (suc k) log e (omega (arith, number)) ∙ ap (λ (s : DiskState). state_after s e.change) more in
    subst (λ (s : DiskState). Follows (Torn at n) (λ c. IsImage (state_upto base k log) c) (λ c. IsImage s c)) (sym end) (after_torn (state_upto base k log) bytes at n e.change (stands base k log bytes run) loosens)

-- a call that keeps nothing
pub quiet_left : (base base2 : List ℕ) (log log2 : List KeptCall) (k m : ℕ) (c : List ℕ) → base2 ≡ base → log2 ≡ log → are_counted k log ≡ true → k ≤ m → IsImage (state_upto base2 m log2) c → IsImage (state_upto base k log) c
quiet_left base base2 log log2 k m c b l counted le image =
    subst (λ (s : DiskState). IsImage s c) (state_more base k m log (counted_of k log counted) le)
    (subst (λ (x : List ℕ). IsImage (state_upto x m log) c) b (subst (λ (x : List KeptCall). IsImage (state_upto base2 m x) c) l image))

pub quiet_crash : (base base2 : List ℕ) (log log2 : List KeptCall) (k m at n : ℕ) → base2 ≡ base → log2 ≡ log → are_counted k log ≡ true → k ≤ m → Follows (Torn at n) (λ c. IsImage (state_upto base k log) c) (λ c. IsImage (state_upto base2 m log2) c)
quiet_crash base base2 log log2 k m at n b l counted le = λ c image. (c, quiet_left base base2 log log2 k m c b l counted le image, Torn-refl at n c)

-- what a write that is kept says of crashes
abbrev pub WriteKept : ℕ → ℕ → List ℕ → ℕ → List KeptCall → List ℕ → ℕ → List KeptCall → Type 0
WriteKept at n base k log base2 m log2 =
    Follows (Torn at n) (λ c. IsImage (state_upto base k log) c) (λ c. IsImage (state_upto base2 m log2) c)
    × Elapses k m (LeftSince base k log) (LeftSince base2 m log2) (λ c. IsImage (state_upto base2 m log2) c)

pub write_kept : (base base2 : List ℕ) (log log2 : List KeptCall) (bytes : List ℕ) (e : KeptCall) (k m at n : ℕ) → IsRun base k log bytes → base2 ≡ base → m ≡ k + 1 → e.call ≡ m → Loosens at n e.change bytes → log2 ≡ log ++ e ∷ [] → WriteKept at n base k log base2 m log2
write_kept base base2 log log2 bytes e k m at n run b next number loosens l =
    let is : m ≡ suc k = omega (arith, next) in
    let call : e.call ≡ suc k = number ∙ is in
    subst (λ (x : List ℕ). WriteKept at n base k log x m log2) (sym b)
    (subst (λ (x : List KeptCall). WriteKept at n base k log base m x) (sym l)
    (subst (λ (x : ℕ). WriteKept at n base k log base x (log ++ e ∷ [])) (sym is)
    (kept_crash base log bytes e k at n run call loosens, elapses_kept base log e k call)))

pub missed_kept : (base base2 : List ℕ) (log log2 : List KeptCall) (bytes : List ℕ) (e : KeptCall) (k j m at n : ℕ) → IsRun base k log bytes → base2 ≡ base → j ≡ k + 1 → m ≡ j → e ≡ record { call = j; change = missed at n } → log2 ≡ log ++ e ∷ [] → WriteKept at n base k log base2 m log2
missed_kept base base2 log log2 bytes e k j m at n run b next same is l =
    write_kept base base2 log log2 bytes (record { call = j; change = missed at n }) k m at n run b (same ∙ next) (sym same) (refl, refl) (l ∙ ap (λ (x : KeptCall). log ++ x ∷ []) is)

pub wrote_kept : (base base2 : List ℕ) (log log2 : List KeptCall) (bytes new : List ℕ) (k j m at : ℕ) → IsRun base k log bytes → at ≤ length bytes → base2 ≡ base → j ≡ k + 1 → m ≡ j → log2 ≡ log ++ record { call = j; change = wrote at new } ∷ [] → WriteKept at (length new) base k log base2 m log2
wrote_kept base base2 log log2 bytes new k j m at run within b next same l =
    write_kept base base2 log log2 bytes (record { call = j; change = wrote at new }) k m at (length new) run b (same ∙ next) (sym same) (refl, refl, within) l

-- a sync
pub synced_only : (s : DiskState) (bytes : List ℕ) (c : List ℕ) → Stands s bytes → IsImage (state_after s synced) c → c ≡ bytes
synced_only s bytes c run image =
    ext_get_or 0 c bytes (omega (arith, image.no_shorter, image.no_longer, run.long)) (λ p lt.
    image.kept p (omega (arith, lt, image.no_shorter, image.no_longer)) refl ∙ ap (λ (l : List ℕ). get_or l p 0) run.replays)

pub synced_less : (s : DiskState) (bytes : List ℕ) → Stands s bytes → (c : List ℕ) → IsImage (state_after s synced) c → IsImage s c
synced_less s bytes run c image = record {
  no_shorter = omega (arith, image.no_shorter, run.low, run.long);
  no_longer = omega (arith, image.no_longer, run.high, run.long);
  kept = λ p lt unwritten. image.kept p (omega (arith, lt, run.low, run.long)) refl;
}

sync_end : (base : List ℕ) (log : List KeptCall) (bytes : List ℕ) (e : KeptCall) (k : ℕ) → IsRun base k log bytes → e.call ≡ suc k → e.change ≡ synced → state_upto base (suc k) (log ++ e ∷ []) ≡ state_after (state_upto base k log) synced
sync_end base log bytes e k run number is =
    state_in base (suc k) log e (omega (arith, number)) ∙ ap (λ (s : DiskState). state_after s e.change) (state_more base k (suc k) log (counted_of k log run.counted) (omega arith)) ∙ ap (λ (c : Change). state_after (state_upto base k log) c) is

-- what a sync that is kept says of crashes
abbrev pub SyncKept : List ℕ → List ℕ → ℕ → List KeptCall → List ℕ → ℕ → List KeptCall → Type 0
SyncKept bytes base k log base2 m log2 =
    Only bytes (λ c. IsImage (state_upto base2 m log2) c)
    × ((c : List ℕ) → IsImage (state_upto base2 m log2) c → IsImage (state_upto base k log) c)
    × Elapses k m (LeftSince base k log) (LeftSince base2 m log2) (λ c. IsImage (state_upto base2 m log2) c)

sync_here : (base : List ℕ) (log : List KeptCall) (bytes : List ℕ) (e : KeptCall) (k : ℕ) → IsRun base k log bytes → e.call ≡ suc k → e.change ≡ synced → SyncKept bytes base k log base (suc k) (log ++ e ∷ [])
sync_here base log bytes e k run number is =
    let end = sync_end base log bytes e k run number is in
    let s = stands base k log bytes run in (
      λ c image. synced_only (state_upto base k log) bytes c s (subst (λ (t : DiskState). IsImage t c) end image),
      λ c image. synced_less (state_upto base k log) bytes s c (subst (λ (t : DiskState). IsImage t c) end image),
      elapses_kept base log e k number,
    )

pub sync_kept : (base base2 : List ℕ) (log log2 : List KeptCall) (bytes : List ℕ) (e : KeptCall) (k m : ℕ) → IsRun base k log bytes → base2 ≡ base → m ≡ k + 1 → e.call ≡ m → e.change ≡ synced → log2 ≡ log ++ e ∷ [] → SyncKept bytes base k log base2 m log2
sync_kept base base2 log log2 bytes e k m run b next number is l =
    let n : m ≡ suc k = omega (arith, next) in
    subst (λ (x : List ℕ). SyncKept bytes base k log x m log2) (sym b)
    (subst (λ (x : List KeptCall). SyncKept bytes base k log base m x) (sym l)
    (subst (λ (x : ℕ). SyncKept bytes base k log base x (log ++ e ∷ [])) (sym n)
    (sync_here base log bytes e k run (number ∙ n) is)))

pub settled_kept : (base base2 : List ℕ) (log log2 : List KeptCall) (bytes : List ℕ) (e : KeptCall) (k j m : ℕ) → IsRun base k log bytes → base2 ≡ base → j ≡ k + 1 → m ≡ j → e ≡ record { call = j; change = synced } → log2 ≡ log ++ e ∷ [] → SyncKept bytes base k log base2 m log2
settled_kept base base2 log log2 bytes e k j m run b next same is l =
    sync_kept base base2 log log2 bytes (record { call = j; change = synced }) k m run b (same ∙ next) (sym same) refl (l ∙ ap (λ (x : KeptCall). log ++ x ∷ []) is)

-- all that a crash leaves of bytes that are all synced
pub settled_only : (base : List ℕ) (k : ℕ) (c : List ℕ) → IsImage (state_upto base k []) c → c ≡ base
unfolding Rattle.avm_outside.specs.DiskLog.upto
settled_only base k c image = ext_get_or 0 c base (omega (arith, image.no_shorter, image.no_longer)) (λ p lt. image.kept p (omega (arith, lt, image.no_shorter, image.no_longer)) refl)

pub settled_left : (base : List ℕ) (k : ℕ) → IsImage (state_upto base k []) base
unfolding Rattle.avm_outside.specs.DiskLog.upto
settled_left base k = record { no_shorter = omega arith; no_longer = omega arith; kept = λ p lt unwritten. refl }

-- ---- the state behind a call

-- a call that keeps nothing
pub quiet_state : (base base2 : List ℕ) (log log2 : List KeptCall) (k m : ℕ) → base2 ≡ base → log2 ≡ log → are_counted k log ≡ true → k ≤ m → state_upto base2 m log2 ≡ state_upto base k log
quiet_state base base2 log log2 k m b l counted le =
    ap (λ (x : List ℕ). state_upto x m log2) b ∙ ap (λ (x : List KeptCall). state_upto base m x) l ∙ state_more base k m log (counted_of k log counted) le

pub quiet_past : (base base2 : List ℕ) (log log2 : List KeptCall) (j : ℕ) → base2 ≡ base → log2 ≡ log → state_upto base2 j log2 ≡ state_upto base j log
quiet_past base base2 log log2 j b l = ap (λ (x : List ℕ). state_upto x j log2) b ∙ ap (λ (x : List KeptCall). state_upto base j x) l

-- a call that is kept
pub kept_state : (base base2 : List ℕ) (log log2 : List KeptCall) (e : KeptCall) (k j m : ℕ) (change : Change) → base2 ≡ base → are_counted k log ≡ true → j ≡ k + 1 → m ≡ j → e ≡ record { call = j; change = change } → log2 ≡ log ++ e ∷ []
    → state_upto base2 m log2 ≡ state_after (state_upto base k log) change
kept_state base base2 log log2 e k j m change b counted next same is l =
    let entry : KeptCall = record { call = j; change = change } in
    ap (λ (x : List ℕ). state_upto x m log2) b ∙ ap (λ (x : List KeptCall). state_upto base m x) (l ∙ ap (λ (x : KeptCall). log ++ x ∷ []) is)
    ∙ state_in base m log entry (omega (arith, same))
    ∙ ap (λ (s : DiskState). state_after s change) (state_more base k m log (counted_of k log counted) (omega (arith, next, same)))

pub kept_past : (base base2 : List ℕ) (log log2 : List KeptCall) (e : KeptCall) (k j i : ℕ) (change : Change) → base2 ≡ base → j ≡ k + 1 → e ≡ record { call = j; change = change } → log2 ≡ log ++ e ∷ [] → i ≤ k
    → state_upto base2 i log2 ≡ state_upto base i log
kept_past base base2 log log2 e k j i change b next is l le =
    let entry : KeptCall = record { call = j; change = change } in
    ap (λ (x : List ℕ). state_upto x i log2) b ∙ ap (λ (x : List KeptCall). state_upto base i x) (l ∙ ap (λ (x : KeptCall). log ++ x ∷ []) is)
    ∙ state_out base i log entry (omega (arith, le, next))
