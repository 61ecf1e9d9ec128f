-- The signed entries of a journal have a spelling as carried entries.
use Rattle.std.proofs.Common.{◌≡◌, ℕ, ◌+◌, ◌^◌, ◌≤◌, ◌<◌, ◌==◌, ◌⊎◌, inl, inr, nat_le, Bool, true, false, cond, List, [], ◌∷◌, ◌++◌, length, refl, sym, ap, ◌∙◌, arith, leb-true, eq-eqb}
use Rattle.std.specs.Prelude.{filter, flat_map, nat_lt}
use Rattle.std.specs.List.{AllByRecursion, list_any}
use Rattle.std.specs.Int.{w32, w64}
use Rattle.std.proofs.lemmas.Bool.{cases_lt}
use Rattle.std.proofs.lemmas.List.{length-append}
use Rattle.avm_num.specs.Lists.{be, one, sized_bytes}
use Rattle.avm_num.proofs.Numbers.{and_true}
use Rattle.avm_model.specs.Basics.{flag}
use Rattle.avm_model.specs.Frame.{FrameData, FitsFrame, frame_bytes}
use Rattle.avm_model.specs.LmsTypes.{height_of}
use Rattle.avm_model.specs.LmsValid.{number}
use Rattle.avm_model.proofs.LmsLaw.{length-hash}
use Rattle.avm_model.specs.Machine.{State}
use Rattle.base_model.specs.Base.{carried_of, earlier, row_numbers}
use Rattle.base_model.proofs.Moves.{all_parts}
use Rattle.journal_model.specs.Header.{CarriedData, is_store_key, longest_carried, most_leaves}
use Rattle.journal_model.specs.Journal.{JournalData, parts, used}
use Rattle.journal_model.specs.Part.{KeepData, Part, entry, is_signed_kind, keep, seal, signing}
use Rattle.journal_model.specs.Standing.{StandingData, behind, start}
use Rattle.journal_model.proofs.Judging.{signing_append}
use Rattle.journal_spelling.specs.Spelled.{FitsCarried, FitsPart, FitsRecord, HasSpelling}
use Rattle.log_entry.proofs.Lengths.{frame_limit}
use Rattle.record_model.specs.Released.{signed_entries, signed_frame, signed_frames}

-- ---- counts

signing_one : (f : FrameData) → signing (entry f ∷ []) ≡ flag (is_signed_kind f.kind)
unfolding signing
signing_one f = go (is_signed_kind f.kind)
  where
    go : (b : Bool) → 0 + cond b 1 0 ≡ cond b 1 0
    go true = refl
    go false = refl

pub signing_entry : (f : FrameData) (ps : List Part) → signing (entry f ∷ ps) ≡ flag (is_signed_kind f.kind) + signing ps
signing_entry f ps = signing_append (entry f ∷ []) ps ∙ ap (λ (n : ℕ). n + signing ps) (signing_one f)

signing_seal_one : signing (seal ∷ []) ≡ 1
unfolding signing
signing_seal_one = refl

pub signing_seal : (ps : List Part) → signing (seal ∷ ps) ≡ 1 + signing ps
signing_seal ps = signing_append (seal ∷ []) ps ∙ ap (λ (n : ℕ). n + signing ps) signing_seal_one

signing_keep_one : (k : KeepData) → signing (keep k ∷ []) ≡ 0
unfolding signing
signing_keep_one k = refl

pub signing_keep : (k : KeepData) (ps : List Part) → signing (keep k ∷ ps) ≡ signing ps
signing_keep k ps = signing_append (keep k ∷ []) ps ∙ ap (λ (n : ℕ). n + signing ps) (signing_keep_one k) ∙ omega arith

few_leaves : (key : List ℕ) → is_store_key key ≡ true → most_leaves key ≤ 2 ^ 15
unfolding is_store_key most_leaves height_of
few_leaves key e =
    let t = and_true (nat_le 5 (number key 0)) (nat_le (number key 0) 7) e in
    five (number key 0) (leb-true 5 (number key 0) t.0) (leb-true (number key 0) 7 t.1) (number key 0 == 5) (number key 0 == 6) (number key 0 == 7) refl refl refl
  where
    other : (t m : ℕ) → (t == m) ≡ false → t ≡ m → ⊥
    other t m q e = never (sym (eq-eqb t m e) ∙ q)
      where
        never : true ≡ false → ⊥
        never x = absurd cc

    none : (t : ℕ) → 5 ≤ t → t ≤ 7 → (t == 5) ≡ false → (t == 6) ≡ false → (t == 7) ≡ false → ⊥
    none t low high a b c = above (cases_lt 5 t)
      where
        above_2 : 5 < t → (6 < t) ⊎ (t ≤ 6) → ⊥
        above_2 more (inl lt) = other t 7 c (omega (arith, lt, high))
        above_2 more (inr le) = other t 6 b (omega (arith, le, more))

        above : (5 < t) ⊎ (t ≤ 5) → ⊥
        above (inl lt) = above_2 lt (cases_lt 6 t)
        above (inr le) = other t 5 a (omega (arith, le, low))

    five : (t : ℕ) → 5 ≤ t → t ≤ 7 → (a b c : Bool) → (t == 5) ≡ a → (t == 6) ≡ b → (t == 7) ≡ c → 2 ^ cond a 5 (cond b 10 (cond c 15 (cond (t == 8) 20 25))) ≤ 2 ^ 15
    five t low high true b c x y z = omega arith
    five t low high false true c x y z = omega arith
    five t low high false false true x y z = omega arith
    five t low high false false false x y z = absurd (none t low high x y z)

-- ---- lengths

be32 : (n : ℕ) → length (be w32 n) ≡ 4
unfolding be
be32 n = refl

be64 : (n : ℕ) → length (be w64 n) ≡ 8
unfolding be
be64 n = refl

one1 : (n : ℕ) → length (one n) ≡ 1
unfolding one
one1 n = refl

pub frame_length : (f : FrameData) → length (frame_bytes f) ≡ 13 + length f.content
unfolding frame_bytes
frame_length f = omega (arith, length-append (be w64 f.seq ++ one f.kind) (sized_bytes (be w32) f.content), length-append (be w64 f.seq) (one f.kind), length-append (be w32 (length f.content)) f.content, be64 f.seq, one1 f.kind, be32 (length f.content))

frame_short : (f : FrameData) → FitsFrame f → length (frame_bytes f) ≤ longest_carried
frame_short f fits = omega (arith, frame_length f, frame_limit f fits)

-- ---- the journal's own entries

parts_both : (ps qs : List Part) → AllByRecursion FitsPart ps → AllByRecursion FitsPart qs → AllByRecursion FitsPart (ps ++ qs)
parts_both [] qs h k = k
parts_both (p ∷ ps) qs h k = (h.0, parts_both ps qs h.1 k)

all_fit : (rs : List (List Part)) → AllByRecursion FitsRecord rs → AllByRecursion FitsPart (all_parts rs)
all_fit [] h = tt
all_fit (r ∷ rs) h = parts_both r (all_parts rs) h.0.parts (all_fit rs h.1)

entries_both : (a b : List CarriedData) → AllByRecursion FitsCarried a → AllByRecursion FitsCarried b → AllByRecursion FitsCarried (a ++ b)
entries_both [] b h k = k
entries_both (e ∷ a) b h k = (h.0, entries_both a b h.1 k)

entry_fits : (s : StandingData) (f : FrameData) (n : ℕ) → s.used + flag (is_signed_kind f.kind) + n ≤ 2 ^ 15 → length s.hash ≡ 32 → FitsFrame f → AllByRecursion FitsCarried (signed_frame s (entry f))
entry_fits s f n le hash fits = go (is_signed_kind f.kind) refl
  where
    go : (b : Bool) → is_signed_kind f.kind ≡ b → AllByRecursion FitsCarried (cond b (record { leaf = s.used; before = s.hash; frame = f } ∷ []) [])
    go true e = (record { leaf = omega (arith, le); before = hash; frame = fits; short = frame_short f fits; signed = e }, tt)
    go false e = tt

frames_fit : (s : StandingData) (ps : List Part) → s.used + signing ps ≤ 2 ^ 15 → length s.hash ≡ 32 → AllByRecursion FitsPart ps → AllByRecursion FitsCarried (signed_frames s ps)
frames_fit s [] le hash fits = tt
frames_fit s (entry f ∷ ps) le hash fits =
    let e = signing_entry f ps in
    entries_both (signed_frame s (entry f)) (signed_frames (behind s (entry f)) ps) (entry_fits s f (signing ps) (omega (arith, le, e)) hash fits.0) (frames_fit (behind s (entry f)) ps (omega (arith, le, e)) (length-hash _) fits.1)
frames_fit s (seal ∷ ps) le hash fits = let e = signing_seal ps in frames_fit (behind s seal) ps (omega (arith, le, e)) hash fits.1
frames_fit s (keep k ∷ ps) le hash fits = let e = signing_keep k ps in frames_fit s ps (omega (arith, le, e)) hash fits.1

used_is : (j : JournalData) → used j ≡ j.header.leaves + signing (parts j)
unfolding used
used_is j = refl

parts_fit : (j : JournalData) → AllByRecursion FitsRecord j.records → AllByRecursion FitsPart (parts j)
unfolding parts
parts_fit j h = all_fit j.records h

pub signed_fit : (j : JournalData) → HasSpelling j → AllByRecursion FitsCarried (signed_entries j)
signed_fit j h =
    let all = used_is j in
    let most = h.journal.leaves in
    let few = few_leaves j.header.key h.journal.header.types in
    entries_both j.header.carried (signed_frames (start j.header) (parts j)) h.fields.carried (frames_fit (start j.header) (parts j) (omega (arith, all, most, few)) h.journal.header.before (parts_fit j h.records))

pub fits_filter : (p : CarriedData → Bool) (es : List CarriedData) → AllByRecursion FitsCarried es → AllByRecursion FitsCarried (filter p es)
fits_filter p [] h = tt
fits_filter p (e ∷ es) h = go (p e) (fits_filter p es h.1)
  where
    go : (b : Bool) → AllByRecursion FitsCarried (filter p es) → AllByRecursion FitsCarried (cond b (e ∷ filter p es) (filter p es))
    go true k = (h.0, k)
    go false k = k

pub carried_fit : (j : JournalData) (n : ℕ) (s : State) → HasSpelling j → AllByRecursion FitsCarried (carried_of j n s)
unfolding carried_of
carried_fit j n s h =
    fits_filter (λ e. list_any (λ m. m == e.frame.seq) (flat_map (row_numbers (earlier n j)) s.devices.peers)) (earlier n j) (fits_filter (λ e. nat_lt e.frame.seq n) (signed_entries j) (signed_fit j h))
