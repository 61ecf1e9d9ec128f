-- Where an entry stands, by all of a journal's items.
use Rattle.std.proofs.Common.{◌≡◌, ℕ, ◌+◌, ◌-◌, ◌^◌, ◌≤◌, ◌<◌, ◌==◌, ◌⊎◌, inl, inr, nat_le, Bool, true, false, cond, List, [], ◌∷◌, ◌++◌, refl, sym, ap, ◌∙◌, arith, leb-true, eq-eqb}
use Rattle.std.specs.Prelude.{min}
use Rattle.std.proofs.Math.Nat.{min-eq_left, min-eq_right}
use Rattle.std.proofs.lemmas.Bool.{cases_lt}
use Rattle.avm_num.proofs.Numbers.{and_true}
use Rattle.avm_model.specs.Basics.{flag}
use Rattle.avm_model.specs.Chain.{next_hash, top_of}
use Rattle.avm_model.specs.Frame.{FrameData}
use Rattle.avm_model.specs.LmsTypes.{height_of}
use Rattle.avm_model.specs.LmsValid.{number}
use Rattle.base_model.specs.Base.{before_entry}
use Rattle.journal_model.specs.Fits.{FitsJournal}
use Rattle.journal_model.specs.Header.{CarriedData, is_store_key, most_leaves}
use Rattle.journal_model.specs.Journal.{JournalData, entries, has_snap, parts, used}
use Rattle.journal_model.specs.Part.{Part, KeepData, entry, seal, keep, frames_in, is_signed_kind, signing}
use Rattle.journal_model.specs.Standing.{StandingData, behind, start}
use Rattle.journal_model.proofs.Judging.{signing_append, stands_used}
use Rattle.jrnl_store.specs.Items.{ItemData, carried_items, items_from, items_in, part_items}
use Rattle.jrnl_store.specs.Kept.{Kept}
use Rattle.jrnl_store.specs.Own.{AreKept}
use Rattle.rebut_pass.specs.Passing.{Takes}
use Rattle.base_survey.specs.Surveys.{IsPlace, Surveying, Surveys, more_late, survey_view, surveyed, with_late}
use Rattle.base_survey.specs.declared.survey.Place.{Place}
use Rattle.base_survey.specs.declared.survey.Survey.{Survey}

-- ---- counts

signing_none : signing [] ≡ 0
unfolding signing
signing_none = refl

signing_one : (f : FrameData) → signing (entry f ∷ []) ≡ flag (is_signed_kind f.kind)
unfolding signing
signing_one f = go (is_signed_kind f.kind)
  where
    go : (b : Bool) → 0 + cond b 1 0 ≡ cond b 1 0
    go true = refl
    go false = refl

signing_seal : signing (seal ∷ []) ≡ 1
unfolding signing
signing_seal = refl

signing_keep : (k : KeepData) → signing (keep k ∷ []) ≡ 0
unfolding signing
signing_keep k = refl

capped : (a b m : ℕ) → min (min a m + b) m ≡ min (a + b) m
capped a b m = go (cases_lt m a)
  where
    go : (m < a) ⊎ (a ≤ m) → min (min a m + b) m ≡ min (a + b) m
    go (inl lt) = ap (λ (n : ℕ). min (n + b) m) (min-eq_right (omega (arith, lt))) ∙ min-eq_right (omega arith) ∙ sym (min-eq_right (omega (arith, lt)))
    go (inr le) = ap (λ (n : ℕ). min (n + b) m) (min-eq_left le)

least : (a m : ℕ) → min a m ≤ m
least a m = go (cases_lt m a)
  where
    go : (m < a) ⊎ (a ≤ m) → min a m ≤ m
    go (inl lt) = let e : min a m ≡ m = min-eq_right (omega (arith, lt)) in omega (arith, e)
    go (inr le) = let e : min a m ≡ a = min-eq_left le in omega (arith, e, le)

-- ---- items, one after another

abbrev surveyed_all : Surveying → List ItemData → Surveying
surveyed_all v [] = v
surveyed_all v (x ∷ xs) = surveyed_all (surveyed v x) xs

taken_all : (xs : List ItemData) (a b : Survey) → Takes Surveys a xs b → survey_view b ≡ surveyed_all (survey_view a) xs
taken_all [] a b t = ap survey_view (sym t)
taken_all (x ∷ xs) a b t = taken_all xs t.0 b t.2 ∙ ap (λ (v : Surveying). surveyed_all v xs) t.1

past_carried : (cs : List CarriedData) (xs : List ItemData) (v : Surveying) → surveyed_all v (carried_items cs ++ xs) ≡ surveyed_all v xs
past_carried [] xs v = refl
past_carried (c ∷ cs) xs v = past_carried cs xs v

-- behind the entry
abbrev going : ℕ → List ℕ → Bool → ℕ → Surveying
going n h snap late = record { number = n; hash = h; reached = true; snap = snap; late = late }

late_all : (s : StandingData) (ps : List Part) (n : ℕ) (h : List ℕ) (snap : Bool) (late : ℕ) → late ≤ 2 ^ 16 → surveyed_all (going n h snap late) (items_from s ps) ≡ going n h snap (min (late + signing ps) (2 ^ 16))
late_all s [] n h snap late le = ap (going n h snap) (sym (ap (λ (k : ℕ). min k (2 ^ 16)) (omega (arith, signing_none)) ∙ min-eq_left le))
late_all s (entry f ∷ ps) n h snap late le =
    late_all (behind s (entry f)) ps n h snap (more_late late (flag (is_signed_kind f.kind))) (least (late + flag (is_signed_kind f.kind)) (2 ^ 16))
    ∙ ap (going n h snap) (capped (late + flag (is_signed_kind f.kind)) (signing ps) (2 ^ 16) ∙ ap (λ (k : ℕ). min k (2 ^ 16)) (omega (arith, signing_append (entry f ∷ []) ps, signing_one f)))
late_all s (seal ∷ ps) n h snap late le =
    late_all (behind s seal) ps n h snap (more_late late 1) (least (late + 1) (2 ^ 16))
    ∙ ap (going n h snap) (capped (late + 1) (signing ps) (2 ^ 16) ∙ ap (λ (k : ℕ). min k (2 ^ 16)) (omega (arith, signing_append (seal ∷ []) ps, signing_seal)))
late_all s (keep k ∷ ps) n h snap late le =
    late_all (behind s (keep k)) ps n h snap late le ∙ ap (λ (m : ℕ). going n h snap (min m (2 ^ 16))) (omega (arith, signing_append (keep k ∷ []) ps, signing_keep k))

-- in front of the entry
abbrev pub fresh : ℕ → List ℕ → Surveying
fresh n h = record { number = n; hash = h; reached = false; snap = false; late = 0 }

-- what is found behind all parts
record Found (h : List ℕ) (before all : List Part) (snap : Bool) (w : Surveying) : Type 0 where
  hash_is : w.hash ≡ top_of h (frames_in before)
  snap_is : w.snap ≡ snap
  rest : ℕ
  split : signing before + rest ≡ signing all
  late_is : w.late ≡ min rest (2 ^ 16)

front_all : (s : StandingData) (ps : List Part) (n : ℕ) (h : List ℕ) → Found h (before_entry n ps) ps (has_snap n (frames_in ps)) (surveyed_all (fresh n h) (items_from s ps))
front_all s [] n h = record { hash_is = refl; snap_is = refl; rest = 0; split = omega arith; late_is = refl }
front_all s (seal ∷ ps) n h =
    let f = front_all (behind s seal) ps n h in
    let a = f.split in
    record { hash_is = f.hash_is; snap_is = f.snap_is; rest = f.rest; split = omega (arith, a, signing_append (seal ∷ []) ps, signing_append (seal ∷ []) (before_entry n ps)); late_is = f.late_is }
front_all s (keep k ∷ ps) n h =
    let f = front_all (behind s (keep k)) ps n h in
    let a = f.split in
    record { hash_is = f.hash_is; snap_is = f.snap_is; rest = f.rest; split = omega (arith, a, signing_append (keep k ∷ []) ps, signing_append (keep k ∷ []) (before_entry n ps)); late_is = f.late_is }
front_all s (entry f ∷ ps) n h = go (front_all (behind s (entry f)) ps n (next_hash h f)) (f.seq == n)
  where
    next : StandingData
    next = behind s (entry f)

    go : Found (next_hash h f) (before_entry n ps) ps (has_snap n (frames_in ps)) (surveyed_all (fresh n (next_hash h f)) (items_from next ps)) → (b : Bool) → Found h (cond b [] (entry f ∷ before_entry n ps)) (entry f ∷ ps) (cond b (f.kind == 2) (has_snap n (frames_in ps))) (surveyed_all (cond b (with_late (fresh n h) f) (record (fresh n h) { hash = next_hash h f })) (items_from next ps))
    go r true =
        let e = late_all next ps n h (f.kind == 2) (more_late 0 (flag (is_signed_kind f.kind))) (least (0 + flag (is_signed_kind f.kind)) (2 ^ 16)) in
        let late : min (min (0 + flag (is_signed_kind f.kind)) (2 ^ 16) + signing ps) (2 ^ 16) ≡ min (signing (entry f ∷ ps)) (2 ^ 16) = capped (0 + flag (is_signed_kind f.kind)) (signing ps) (2 ^ 16) ∙ ap (λ (k : ℕ). min k (2 ^ 16)) (omega (arith, signing_append (entry f ∷ []) ps, signing_one f)) in
        record {
          hash_is = ap (λ (w : Surveying). w.hash) e;
          snap_is = ap (λ (w : Surveying). w.snap) e;
          rest = signing (entry f ∷ ps);
          split = omega (arith, signing_none);
          late_is = ap (λ (w : Surveying). w.late) e ∙ late;
        }
    go r false =
        let a = r.split in
        record { hash_is = r.hash_is; snap_is = r.snap_is; rest = r.rest; split = omega (arith, a, signing_append (entry f ∷ []) ps, signing_append (entry f ∷ []) (before_entry n ps)); late_is = r.late_is }

-- ---- all items

few_leaves : (key : List ℕ) → is_store_key key ≡ true → most_leaves key ≤ 2 ^ 15
unfolding is_store_key most_leaves height_of
few_leaves key e =
    let t = and_true (nat_le 5 (number key 0)) (nat_le (number key 0) 7) e in
    five (number key 0) (leb-true 5 (number key 0) t.0) (leb-true (number key 0) 7 t.1) (number key 0 == 5) (number key 0 == 6) (number key 0 == 7) refl refl refl
  where
    other : (t m : ℕ) → (t == m) ≡ false → t ≡ m → ⊥
    other t m q e = never (sym (eq-eqb t m e) ∙ q)
      where
        never : true ≡ false → ⊥
        never x = absurd cc

    none : (t : ℕ) → 5 ≤ t → t ≤ 7 → (t == 5) ≡ false → (t == 6) ≡ false → (t == 7) ≡ false → ⊥
    none t low high a b c = above (cases_lt 5 t)
      where
        above_2 : 5 < t → (6 < t) ⊎ (t ≤ 6) → ⊥
        above_2 more (inl lt) = other t 7 c (omega (arith, lt, high))
        above_2 more (inr le) = other t 6 b (omega (arith, le, more))

        above : (5 < t) ⊎ (t ≤ 5) → ⊥
        above (inl lt) = above_2 lt (cases_lt 6 t)
        above (inr le) = other t 5 a (omega (arith, le, low))

    five : (t : ℕ) → 5 ≤ t → t ≤ 7 → (a b c : Bool) → (t == 5) ≡ a → (t == 6) ≡ b → (t == 7) ≡ c → 2 ^ cond a 5 (cond b 10 (cond c 15 (cond (t == 8) 20 25))) ≤ 2 ^ 15
    five t low high true b c x y z = omega arith
    five t low high false true c x y z = omega arith
    five t low high false false true x y z = omega arith
    five t low high false false false x y z = absurd (none t low high x y z)

leaves_left : (j : JournalData) (before rest : ℕ) → FitsJournal j → before + rest ≡ signing (parts j) → used j - min rest (2 ^ 16) ≡ j.header.leaves + before
unfolding used
leaves_left j before rest fits split =
    let all : j.header.leaves + signing (parts j) ≤ most_leaves j.header.key = fits.leaves in
    let few = few_leaves j.header.key fits.header.types in
    let m : min rest (2 ^ 16) ≡ rest = min-eq_left (omega (arith, split, all, few)) in
    omega (arith, split, m)

pub place_is : (j : JournalData) (k : Kept) (n left : ℕ) (a b : Survey) (p : Place) → FitsJournal j → AreKept k j → survey_view a ≡ fresh n k.before → Takes Surveys a (items_in j) b
    → p.snap ≡ b.snap → p.before.0 ≡ b.hash.0 → left ≡ k.standing.used → p.leaves ≡ left - b.late → IsPlace j n p
unfolding items_in part_items entries
place_is j k n left a b p fits keeps from t snap before bound leaves =
    let all : survey_view b ≡ surveyed_all (fresh n j.header.before) (items_from (start j.header) (parts j)) =
    taken_all (items_in j) a b t ∙ ap (λ (v : Surveying). surveyed_all v (items_in j)) (from ∙ ap (fresh n) keeps.before) ∙ past_carried j.header.carried (items_from (start j.header) (parts j)) (fresh n j.header.before) in
    let f = front_all (start j.header) (parts j) n j.header.before in
    let u : left ≡ used j = bound ∙ ap (λ (s : StandingData). s.used) keeps.standing ∙ stands_used j in
    record {
      snap_is = snap ∙ ap (λ (v : Surveying). v.snap) all ∙ f.snap_is;
      before_is = before ∙ ap (λ (v : Surveying). v.hash) all ∙ f.hash_is;
      leaves_are = leaves ∙ ap (λ (m : ℕ). m - b.late) u ∙ ap (λ (m : ℕ). used j - m) (ap (λ (v : Surveying). v.late) all ∙ f.late_is) ∙ leaves_left j (signing (before_entry n (parts j))) f.rest fits f.split;
    }
