-- The entries behind a base, one item after another.
use Rattle.std.proofs.Common.{◌≡◌, ℕ, ◌+◌, ◌-◌, ◌||◌, Bool, true, false, nat_eq, List, [], ◌∷◌, ◌++◌, length, refl, sym, ap, subst, ◌∙◌, append_assoc, append-nil, arith, ne_eqb}
use Rattle.avm_model.specs.Audit.{behind_first}
use Rattle.avm_model.specs.Frame.{FrameData}
use Rattle.journal_model.specs.Part.{KeepData, Part, entry, frames_in, keep, keeps_in, seal}
use Rattle.jrnl_store.specs.Items.{ItemData, carried_item, entry_item, keep_item, seal_item}
use Rattle.open_keeps.specs.Search.{part_in, parts_of_items}
use Rattle.rebut_judge.specs.Judging.{Judges, judge_view}
use Rattle.rebut_judge.proofs.Judged.{judged_more, judged_none}
use Rattle.rebut_pass.specs.Passing.{Takes}
use Rattle.open_replay.specs.Running.{Runs, frames_past, passed, snaps_in, still}
use Rattle.open_replay.specs.declared.run.Run.{Run}

-- ---- entries behind keeps

pub past_none : (ps : List Part) → frames_past 0 ps ≡ frames_in ps
past_none [] = refl
past_none (entry f ∷ ps) = ap (λ (l : List FrameData). f ∷ l) (past_none ps)
past_none (seal ∷ ps) = past_none ps
past_none (keep k ∷ ps) = past_none ps

some_left : (m n : ℕ) → m ≡ n + 1 → nat_eq m 0 ≡ false
some_left m n e = ne_eqb m 0 (λ z. omega (arith, e, z))

pub past_front : (before : List Part) (k : KeepData) (behind : List Part) (m : ℕ) → m ≡ length (keeps_in before) + 1 → frames_past m (before ++ keep k ∷ behind) ≡ frames_in behind
past_front [] k behind m e = ap (λ (n : ℕ). frames_past n behind) (let z : m - 1 ≡ 0 = omega (arith, e) in z) ∙ past_none behind
past_front (entry f ∷ b) k behind m e = rw (some_left m (length (keeps_in b)) e) (past_front b k behind m e)
past_front (seal ∷ b) k behind m e = past_front b k behind m e
past_front (keep q ∷ b) k behind m e = past_front b k behind (m - 1) (omega (arith, e))

past_item : (n : ℕ) (x : ItemData) (ps : List Part) → passed n x ++ frames_past (still n x) ps ≡ frames_past n (part_in x ++ ps)
past_item n (carried_item f s) ps = refl
past_item n (entry_item f t) ps = refl
past_item n (seal_item s) ps = refl
past_item n (keep_item k) ps = refl

-- ---- snapshots among them

pub snaps_first : (fs : List FrameData) → snaps_in false fs ≡ snaps_in true (behind_first fs)
snaps_first [] = refl
snaps_first (f ∷ fs) = refl

or_none : (b : Bool) → (b || false) ≡ b
or_none true = refl
or_none false = refl

-- ---- all items

pub judges_all : (xs : List ItemData) (a b : Run) → Takes Runs a xs b → Judges (frames_past a.skip (parts_of_items xs)) (judge_view a.judge) (judge_view b.judge)
judges_all [] a b t = subst (λ (r : Run). Judges [] (judge_view a.judge) (judge_view r.judge)) t (judged_none (judge_view a.judge))
judges_all (x ∷ xs) a b t =
    let rest : Judges (frames_past (still a.skip x) (parts_of_items xs)) (judge_view t.0.judge) (judge_view b.judge) = subst (λ (n : ℕ). Judges (frames_past n (parts_of_items xs)) (judge_view t.0.judge) (judge_view b.judge)) t.1.skip (judges_all xs t.0 b t.2) in
    subst (λ (fs : List FrameData). Judges fs (judge_view a.judge) (judge_view b.judge)) (past_item a.skip x (parts_of_items xs)) (judged_more (judge_view a.judge) (judge_view t.0.judge) (judge_view b.judge) (passed a.skip x) (frames_past (still a.skip x) (parts_of_items xs)) t.1.judges rest)

snaps_all : (xs : List ItemData) (a b : Run) → Takes Runs a xs b → (fs : List FrameData) → (b.snaps || snaps_in b.begun fs) ≡ (a.snaps || snaps_in a.begun (frames_past a.skip (parts_of_items xs) ++ fs))
snaps_all [] a b t fs = subst (λ (r : Run). (r.snaps || snaps_in r.begun fs) ≡ (a.snaps || snaps_in a.begun fs)) t refl
snaps_all (x ∷ xs) a b t fs =
    snaps_all xs t.0 b t.2 fs
    ∙ t.1.snaps (frames_past t.0.skip (parts_of_items xs) ++ fs)
    ∙ ap (λ (l : List FrameData). a.snaps || snaps_in a.begun l)
    (sym (append_assoc (passed a.skip x) (frames_past t.0.skip (parts_of_items xs)) fs) ∙ ap (λ (n : ℕ). (passed a.skip x ++ frames_past n (parts_of_items xs)) ++ fs) t.1.skip ∙ ap (λ (l : List FrameData). l ++ fs) (past_item a.skip x (parts_of_items xs)))

pub snaps_end : (xs : List ItemData) (a b : Run) → Takes Runs a xs b → a.snaps ≡ false → b.snaps ≡ snaps_in a.begun (frames_past a.skip (parts_of_items xs))
snaps_end xs a b t none =
    sym (or_none b.snaps)
    ∙ snaps_all xs a b t []
    ∙ ap (λ (s : Bool). s || snaps_in a.begun (frames_past a.skip (parts_of_items xs) ++ [])) none
    ∙ ap (snaps_in a.begun) (append-nil (frames_past a.skip (parts_of_items xs)))

-- ---- one item

pub or_more : (a b c : Bool) → ((a || b) || c) ≡ (a || (b || c))
or_more true b c = refl
or_more false b c = refl

-- an entry in front of the base
pub runs_past : (old : Run) (x : ItemData) → still old.skip x ≡ old.skip → passed old.skip x ≡ [] → Runs old x old
runs_past old x same none = record {
  skip = sym same;
  judges = subst (λ (fs : List FrameData). Judges fs (judge_view old.judge) (judge_view old.judge)) (sym none) (judged_none (judge_view old.judge));
  snaps = λ fs. ap (λ (l : List FrameData). old.snaps || snaps_in old.begun (l ++ fs)) (sym none);
}
