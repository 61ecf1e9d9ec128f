-- What a journal's entries tell of a segment, with one entry more.
use Rattle.std.proofs.Common.{◌≡◌, ℕ, ◌+◌, ◌≤◌, ◌<◌, Bool, true, false, cond, not, ◌||◌, nat_eq, nat_le, List, [], ◌∷◌, ◌++◌, length, refl, sym, ap, subst, ◌∙◌, append_assoc, append-nil, arith, inl, inr, ◌⊎◌}
use Rattle.std.specs.Prelude.{min}
use Rattle.std.specs.List.{flat_map}
use Rattle.std.proofs.Math.Nat.{min-eq_left, min-eq_right}
use Rattle.std.proofs.lemmas.Bool.{cases_lt, lt-leb}
use Rattle.std.proofs.lemmas.Grind.{flat_map-append}
use Rattle.std.proofs.lemmas.List.{length-append}
use Rattle.avm_model.specs.Basics.{flag}
use Rattle.avm_model.specs.Chain.{next_hash}
use Rattle.avm_model.specs.Entries.{snaps}
use Rattle.avm_model.specs.Frame.{FrameData, frame_bytes}
use Rattle.export_model.specs.Exports.{begins_at}
use Rattle.journal_model.specs.Journal.{JournalData}
use Rattle.jrnl_store.specs.Items.{ItemData, items_in}
use Rattle.rebut_model.specs.Texts.{Stretch, from_number}
use Rattle.rebut_pass.specs.Items.{frame_in, frames_of_items}
use Rattle.rebut_pass.specs.Passing.{Takes}
use Rattle.rebut_pass.proofs.ItemFacts.{frames_are}
use Rattle.seg_file.proofs.PartSizes.{frame_length}
use Rattle.journal_export.specs.Cuts.{Cuts, IsCut, cut}
use Rattle.journal_export.specs.Limits.{most_bytes, most_snaps}
use Rattle.journal_export.specs.Survey.{IsSurveyOf, IsSurveyed, Surveys, SurveysOn}
use Rattle.journal_export.specs.declared.cut.Cut.{Cut}
use Rattle.journal_export.specs.declared.survey.Survey.{Survey}
use Rattle.journal_export.proofs.Cutting.{begins_begun, begins_none, begins_open, begun_on, one_here, one_other, wait_on}

-- ---- numbers that stay at a limit

pub capped : (m a b : ℕ) → min m (min m a + b) ≡ min m (a + b)
capped m a b = go (cases_lt m a)
  where
    go : (m < a) ⊎ (a ≤ m) → min m (min m a + b) ≡ min m (a + b)
    go (inl lt) = ap (λ (n : ℕ). min m (n + b)) (min-eq_left (omega (arith, lt))) ∙ min-eq_left (omega arith) ∙ sym (min-eq_left (omega (arith, lt)))
    go (inr le) = ap (λ (n : ℕ). min m (n + b)) (min-eq_right le)

pub capped_more : (m s l : ℕ) → min (s + 13 + min l m) m ≡ min m (s + (13 + l))
capped_more m s l = go (cases_lt m l)
  where
    small : (n : ℕ) → n ≤ m → min n m ≡ min m n
    small n le = min-eq_left le ∙ sym (min-eq_right le)

    great : (n : ℕ) → m ≤ n → min n m ≡ min m n
    great n le = min-eq_right le ∙ sym (min-eq_left le)

    swap : (n : ℕ) → (m < n) ⊎ (n ≤ m) → min n m ≡ min m n
    swap n (inl lt) = great n (omega (arith, lt))
    swap n (inr le) = small n le

    go : (m < l) ⊎ (l ≤ m) → min (s + 13 + min l m) m ≡ min m (s + (13 + l))
    go (inl lt) = ap (λ (n : ℕ). min (s + 13 + n) m) (min-eq_right (omega (arith, lt))) ∙ min-eq_right (omega arith) ∙ sym (min-eq_left (omega (arith, lt)))
    go (inr le) =
        let z : s + 13 + l ≡ s + (13 + l) = omega arith in
        ap (λ (n : ℕ). min (s + 13 + n) m) (min-eq_left le) ∙ swap (s + 13 + l) (cases_lt m (s + 13 + l)) ∙ ap (min m) z

pub swapped : (n m : ℕ) → min n m ≡ min m n
swapped n m = go (cases_lt m n)
  where
    go : (m < n) ⊎ (n ≤ m) → min n m ≡ min m n
    go (inl lt) = let le : m ≤ n = omega (arith, lt) in min-eq_right le ∙ sym (min-eq_left le)
    go (inr le) = min-eq_left le ∙ sym (min-eq_right le)

-- a limit is passed exactly where the number at its limit passes it
pub within : (c l x : ℕ) → nat_le (c + min (l + 1) x) l ≡ nat_le (c + x) l
within c l x = go (cases_lt (l + 1) x)
  where
    go : (l + 1 < x) ⊎ (x ≤ l + 1) → nat_le (c + min (l + 1) x) l ≡ nat_le (c + x) l
    go (inl lt) =
        let le : l + 1 ≤ x = omega (arith, lt) in
        ap (λ (n : ℕ). nat_le (c + n) l) (min-eq_left le) ∙ lt-leb (c + (l + 1)) l (omega arith) ∙ sym (lt-leb (c + x) l (omega (arith, lt)))
    go (inr le) = ap (λ (n : ℕ). nat_le (c + n) l) (min-eq_right le)

-- ---- sums

snaps_push : (fs : List FrameData) (f : FrameData) → snaps (fs ++ f ∷ []) ≡ snaps fs + flag (nat_eq f.kind 2)
snaps_push [] f = omega arith
snaps_push (x ∷ fs) f = let ih = snaps_push fs f in omega (arith, ih)

size_push : (fs : List FrameData) (f : FrameData) → length (flat_map frame_bytes (fs ++ f ∷ [])) ≡ length (flat_map frame_bytes fs) + (13 + length f.content)
size_push fs f =
    ap length (flat_map-append frame_bytes fs (f ∷ [])) ∙ length-append (flat_map frame_bytes fs) (frame_bytes f ++ [])
    ∙ ap (λ (n : ℕ). length (flat_map frame_bytes fs) + n) (ap length (append-nil (frame_bytes f)) ∙ frame_length f)

-- ---- the hash before the first, and its kind

hash_on : (c : Cut) (h : List ℕ) (fs : List FrameData) (f : FrameData) (hash new : List ℕ) → IsCut h fs c → hash ≡ (from_number c.from h fs).before → new ≡ cond (c.begun || nat_eq f.seq c.from) hash (next_hash hash f) → new ≡ (from_number c.from h (fs ++ f ∷ [])).before
hash_on c h fs f hash new i e n = go c.begun refl (nat_eq f.seq c.from) refl n
  where
    go : (b : Bool) → c.begun ≡ b → (d : Bool) → nat_eq f.seq c.from ≡ d → new ≡ cond (b || d) hash (next_hash hash f) → new ≡ (from_number c.from h (fs ++ f ∷ [])).before
    go true p d q n = n ∙ e ∙ ap (λ (s : Stretch). s.before) (sym (begun_on c.from h fs (f ∷ []) (sym i.begun ∙ p)))
    go false p true q n = n ∙ e ∙ ap (λ (s : Stretch). s.before) (sym (wait_on c.from h fs (f ∷ []) (sym i.begun ∙ p) ∙ one_here c.from (from_number c.from h fs).before f q))
    go false p false q n = n ∙ ap (λ (l : List ℕ). next_hash l f) e ∙ ap (λ (s : Stretch). s.before) (sym (wait_on c.from h fs (f ∷ []) (sym i.begun ∙ p) ∙ one_other c.from (from_number c.from h fs).before f q))

begins_on : (c : Cut) (h : List ℕ) (fs : List FrameData) (f : FrameData) (old new : Bool) → IsCut h fs c → old ≡ begins_at c.from fs → new ≡ cond (c.begun || not (nat_eq f.seq c.from)) old (nat_eq f.kind 1 || nat_eq f.kind 2) → new ≡ begins_at c.from (fs ++ f ∷ [])
begins_on c h fs f old new i e n = go c.begun refl (nat_eq f.seq c.from) refl n
  where
    one : (d : Bool) → nat_eq f.seq c.from ≡ d → begins_at c.from (f ∷ []) ≡ cond d (nat_eq f.kind 1 || nat_eq f.kind 2) false
    one d q = ap (λ (x : Bool). cond x (nat_eq f.kind 1 || nat_eq f.kind 2) false) q

    go : (b : Bool) → c.begun ≡ b → (d : Bool) → nat_eq f.seq c.from ≡ d → new ≡ cond (b || not d) old (nat_eq f.kind 1 || nat_eq f.kind 2) → new ≡ begins_at c.from (fs ++ f ∷ [])
    go true p d q n = n ∙ e ∙ sym (begins_begun c.from h fs (f ∷ []) (sym i.begun ∙ p))
    go false p true q n = n ∙ sym (begins_open c.from h fs (f ∷ []) (sym i.begun ∙ p) ∙ one true q)
    go false p false q n = n ∙ e ∙ begins_none c.from h fs (sym i.begun ∙ p) ∙ sym (begins_open c.from h fs (f ∷ []) (sym i.begun ∙ p) ∙ one false q)

-- ---- one entry more

-- what an entry changes whether it belongs to the segment or not
pub record Meets (old : Survey) (f : FrameData) (new : Survey) (taken : Bool) : Type 0 where
  pub cuts : Cuts old.cut f taken new.cut
  pub hash : new.hash.0 ≡ cond (old.cut.begun || nat_eq f.seq old.cut.from) old.hash.0 (next_hash old.hash.0 f)
  pub begins : new.begins ≡ cond (old.cut.begun || not (nat_eq f.seq old.cut.from)) old.begins (nat_eq f.kind 1 || nat_eq f.kind 2)

-- how many SNAP there are, and bytes, with an entry more that belongs to it or doesn't
abbrev more_snaps : Bool → ℕ → FrameData → ℕ
more_snaps true n f = min most_snaps (n + flag (nat_eq f.kind 2))
more_snaps false n f = n

abbrev more_bytes : Bool → ℕ → FrameData → ℕ
more_bytes true n f = min most_bytes (n + (13 + length f.content))
more_bytes false n f = n

snaps_on : (taken : Bool) (n new : ℕ) (fs : List FrameData) (f : FrameData) → n ≡ min most_snaps (snaps fs) → new ≡ more_snaps taken n f → new ≡ min most_snaps (snaps (fs ++ cond taken (f ∷ []) []))
snaps_on true n new fs f e q = q ∙ ap (λ (x : ℕ). min most_snaps (x + flag (nat_eq f.kind 2))) e ∙ capped most_snaps (snaps fs) (flag (nat_eq f.kind 2)) ∙ ap (min most_snaps) (sym (snaps_push fs f))
snaps_on false n new fs f e q = q ∙ e ∙ ap (λ (l : List FrameData). min most_snaps (snaps l)) (sym (append-nil fs))

bytes_on : (taken : Bool) (n new : ℕ) (fs : List FrameData) (f : FrameData) → n ≡ min most_bytes (length (flat_map frame_bytes fs)) → new ≡ more_bytes taken n f → new ≡ min most_bytes (length (flat_map frame_bytes (fs ++ cond taken (f ∷ []) [])))
bytes_on true n new fs f e q = q ∙ ap (λ (x : ℕ). min most_bytes (x + (13 + length f.content))) e ∙ capped most_bytes (length (flat_map frame_bytes fs)) (13 + length f.content) ∙ ap (min most_bytes) (sym (size_push fs f))
bytes_on false n new fs f e q = q ∙ e ∙ ap (λ (l : List FrameData). min most_bytes (length (flat_map frame_bytes l))) (sym (append-nil fs))

pub surveys_on : (old new : Survey) (f : FrameData) (taken : Bool) → Meets old f new taken → new.snaps ≡ more_snaps taken old.snaps f → new.size ≡ more_bytes taken old.size f → SurveysOn old f new
surveys_on old new f taken m snaps_is size_is = record {
  from = m.cuts.from;
  to = m.cuts.to;
  surveyed = λ h fs i.
      let from = m.cuts.from in
      let to = m.cuts.to in
      let same : cut new.cut.from new.cut.to h (fs ++ f ∷ []) ≡ cut old.cut.from old.cut.to h fs ++ cond taken (f ∷ []) [] =
      ap (λ (n : ℕ). cut n new.cut.to h (fs ++ f ∷ [])) from ∙ ap (λ (n : ℕ). cut old.cut.from n h (fs ++ f ∷ [])) to ∙ m.cuts.takes h fs i.cut_is in
      record {
        cut_is = m.cuts.cuts h fs i.cut_is;
        hash_is = hash_on old.cut h fs f old.hash.0 new.hash.0 i.cut_is i.hash_is m.hash ∙ ap (λ (n : ℕ). (from_number n h (fs ++ f ∷ [])).before) (sym from);
        begins_is = begins_on old.cut h fs f old.begins new.begins i.cut_is i.begins_is m.begins ∙ ap (λ (n : ℕ). begins_at n (fs ++ f ∷ [])) (sym from);
        snaps_is = snaps_on taken old.snaps new.snaps (cut old.cut.from old.cut.to h fs) f i.snaps_is snaps_is ∙ ap (λ (l : List FrameData). min most_snaps (snaps l)) (sym same);
        size_is = bytes_on taken old.size new.size (cut old.cut.from old.cut.to h fs) f i.size_is size_is ∙ ap (λ (l : List FrameData). min most_bytes (length (flat_map frame_bytes l))) (sym same);
      };
}

-- ---- one item more

pub surveys_none : (old : Survey) (x : ItemData) → frame_in x ≡ [] → Surveys old x old
surveys_none old x none = record { from = refl; to = refl; surveyed = λ h fs i. subst (λ (l : List FrameData). IsSurveyed h l old) (sym (ap (λ (l : List FrameData). fs ++ l) none ∙ append-nil fs)) i }

pub surveys_entry : (old new : Survey) (x : ItemData) (f : FrameData) → frame_in x ≡ f ∷ [] → SurveysOn old f new → Surveys old x new
surveys_entry old new x f is on = record { from = on.from; to = on.to; surveyed = λ h fs i. subst (λ (l : List FrameData). IsSurveyed h (fs ++ l) new) (sym is) (on.surveyed h fs i) }

-- ---- all items

record Kept (a b : Survey) (h : List ℕ) (fs : List FrameData) : Type 0 where
  pub from : b.cut.from ≡ a.cut.from
  pub to : b.cut.to ≡ a.cut.to
  pub is : IsSurveyed h fs b

surveyed_all : (xs : List ItemData) (a b : Survey) → Takes Surveys a xs b → (h : List ℕ) (fs : List FrameData) → IsSurveyed h fs a → Kept a b h (fs ++ frames_of_items xs)
surveyed_all [] a b t h fs i = subst (λ (v : Survey). Kept a v h (fs ++ [])) t (record { from = refl; to = refl; is = subst (λ (l : List FrameData). IsSurveyed h l a) (sym (append-nil fs)) i })
surveyed_all (x ∷ xs) a b t h fs i =
    let r = surveyed_all xs t.0 b t.2 h (fs ++ frame_in x) (t.1.surveyed h fs i) in
    record { from = r.from ∙ t.1.from; to = r.to ∙ t.1.to; is = subst (λ (l : List FrameData). IsSurveyed h l b) (append_assoc fs (frame_in x) (frames_of_items xs)) r.is }

pub survey_of : (j : JournalData) (from to : ℕ) (a b : Survey) → a.cut.from ≡ from → a.cut.to ≡ to → IsSurveyed j.header.before [] a → Takes Surveys a (items_in j) b → IsSurveyOf j from to b
survey_of j from to a b f t first taken =
    let r = surveyed_all (items_in j) a b taken j.header.before [] first in
    record { from_is = r.from ∙ f; to_is = r.to ∙ t; all = subst (λ (l : List FrameData). IsSurveyed j.header.before l b) (frames_are j) r.is }

-- in front of a journal's first entry
pub surveyed_first : (h : List ℕ) (v : Survey) → IsCut h [] v.cut → v.hash.0 ≡ h → v.begins ≡ false → v.snaps ≡ 0 → v.size ≡ 0 → IsSurveyed h [] v
surveyed_first h v c hash begins none empty = record { cut_is = c; hash_is = hash; begins_is = begins; snaps_is = none; size_is = empty }
