-- What the entries so far leave to those behind them.
use Rattle.std.proofs.Common.{◌≡◌, ℕ, ◌+◌, Bool, true, false, cond, ◌&&◌, not, nat_eq, nat_le, List, [], ◌∷◌, ◌++◌, refl, sym, ap, ◌∙◌, append_assoc, arith, eqb-true, eq-eqb, zero-add, leb-true, le-leb}
use Rattle.std.proofs.Math.Nat.{add_assoc}
use Rattle.std.specs.List.{AllByRecursion}
use Rattle.avm_num.specs.Lists.{list_bytes}
use Rattle.avm_num.specs.Walk.{behind_of, is_nil}
use Rattle.avm_num.proofs.Numbers.{and_true}
use Rattle.avm_model.specs.Basics.{flag}
use Rattle.avm_model.specs.Entries.{begins, follow, opens, numbered, no_boot, snaps, are_entries}
use Rattle.avm_model.specs.Frame.{FrameData, FitsFrame, frame_at, frame_bytes, frames_of}
use Rattle.avm_num.proofs.Walks.{items_go, behind_go}
use Rattle.log_entry.proofs.FrameLaws.{reads_frame, frame_shortens}
use Rattle.seg_file.specs.declared.place.Place.{Place}
use Rattle.seg_file.specs.Places.{may_come, with_frame, Follows}

-- ---- the entries of bytes, behind entries that are spelled

pub frames_go : (fs : List FrameData) (x : List ℕ) → AllByRecursion FitsFrame fs → frames_of (list_bytes frame_bytes fs ++ x) ≡ fs ++ frames_of x
frames_go fs x all = items_go frame_at frame_bytes FitsFrame reads_frame frame_shortens fs x all

pub entries_go : (start : ℕ) (before : List ℕ) (fs : List FrameData) (x : List ℕ) → AllByRecursion FitsFrame fs → are_entries start before (list_bytes frame_bytes fs ++ x) ≡ (opens start before (fs ++ frames_of x) && is_nil (behind_of frame_at x))
unfolding are_entries
entries_go start before fs x all = rw (frames_go fs x all, behind_go frame_at frame_bytes FitsFrame reads_frame frame_shortens fs x all) refl

-- ---- one entry more

follow_more : (n k : ℕ) (f : FrameData) (more : List FrameData) → f.seq ≡ n → nat_eq f.kind 1 ≡ false → follow n k (f ∷ more) ≡ follow (n + 1) (k + flag (nat_eq f.kind 2)) more
follow_more n k f more e ne = rw (eq-eqb f.seq n e, ne, add_assoc k (flag (nat_eq f.kind 2)) (snaps more)) refl

and_false : (a : Bool) → (a && false) ≡ false
and_false true = refl
and_false false = refl

too_many : (k n m : ℕ) → nat_le (k + n) 64 ≡ false → nat_le (k + (n + m)) 64 ≡ false
too_many k n m e = go (nat_le (k + (n + m)) 64) refl
  where
    apart : true ≡ false → ⊥
    apart h = cc

    go : (b : Bool) → nat_le (k + (n + m)) 64 ≡ b → b ≡ false
    go false i = refl
    go true i = let le = leb-true _ _ i in absurd (apart (sym (le-leb (k + n) 64 (omega (arith, le))) ∙ e))

follow_not : (n k : ℕ) (f : FrameData) (more : List FrameData) → (nat_eq f.seq n && not (nat_eq f.kind 1) && nat_le (k + flag (nat_eq f.kind 2)) 64) ≡ false → follow n k (f ∷ more) ≡ false
follow_not n k f more e = go (nat_eq f.seq n) (nat_eq f.kind 1) e
  where
    go : (a b : Bool) → (a && not b && nat_le (k + flag (nat_eq f.kind 2)) 64) ≡ false
        → ((a && numbered (n + 1) more) && (not b && no_boot more) && nat_le (k + (flag (nat_eq f.kind 2) + snaps more)) 64) ≡ false
    go false b h = refl
    go true true h = rw (and_false (numbered (n + 1) more)) refl
    go true false h = rw (too_many k (flag (nat_eq f.kind 2)) (snaps more) h) (and_false (numbered (n + 1) more && no_boot more))

-- an entry that may come
pub follows_frame : (p : Place) (fs : List FrameData) (f : FrameData) → Follows p.opened p fs → may_come p f ≡ true → Follows true (with_frame p f) (fs ++ f ∷ [])
follows_frame p fs f h may = go p.opened h may
  where
    go : (o : Bool) → Follows o p fs
        → cond o (nat_eq f.seq p.next && not (nat_eq f.kind 1) && nat_le (p.snaps + flag (nat_eq f.kind 2)) 64) (nat_eq f.seq p.start && begins p.start p.before.0 f.kind) ≡ true
        → (more : List FrameData) → opens p.start p.before.0 ((fs ++ f ∷ []) ++ more) ≡ follow (f.seq + 1) (p.snaps + flag (nat_eq f.kind 2)) more
    go true h e more =
        let a = and_true (nat_eq f.seq p.next && not (nat_eq f.kind 1)) _ e in
        let b = and_true (nat_eq f.seq p.next) (not (nat_eq f.kind 1)) a.0 in
        let s : f.seq ≡ p.next = eqb-true _ _ b.0 in
        ap (opens p.start p.before.0) (append_assoc fs (f ∷ []) more) ∙ h (f ∷ more) ∙ follow_more p.next p.snaps f more s (no_boot_is (nat_eq f.kind 1) b.1) ∙ ap (λ (n : ℕ). follow (n + 1) (p.snaps + flag (nat_eq f.kind 2)) more) (sym s)
      where
        no_boot_is : (b : Bool) → not b ≡ true → b ≡ false
        no_boot_is true i = absurd cc
        no_boot_is false i = refl
    go false h e more =
        let a = and_true (nat_eq f.seq p.start) _ e in
        let s : f.seq ≡ p.start = eqb-true _ _ a.0 in
        rw (h.0, h.1, a.0, a.1, s, zero-add (flag (nat_eq f.kind 2))) refl

-- an entry that may not
pub never_frame : (p : Place) (fs : List FrameData) (f : FrameData) (more : List FrameData) → Follows p.opened p fs → may_come p f ≡ false → opens p.start p.before.0 (fs ++ f ∷ more) ≡ false
never_frame p fs f more h may = go p.opened h may
  where
    go : (o : Bool) → Follows o p fs
        → cond o (nat_eq f.seq p.next && not (nat_eq f.kind 1) && nat_le (p.snaps + flag (nat_eq f.kind 2)) 64) (nat_eq f.seq p.start && begins p.start p.before.0 f.kind) ≡ false
        → opens p.start p.before.0 (fs ++ f ∷ more) ≡ false
    go true h e = h (f ∷ more) ∙ follow_not p.next p.snaps f more e
    go false h e = rw (h.0, e) refl
