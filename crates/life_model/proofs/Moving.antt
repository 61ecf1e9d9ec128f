-- What a moved journal releases and signs, behind what is left behind.
use Rattle.std.proofs.Common.{◌≡◌, ℕ, ◌+◌, ◌<◌, ◌≤◌, ◌==◌, ◌⊎◌, inl, inr, ⊎_elim, nat_lt, ltb-true, Bool, true, false, cond, List, [], ◌∷◌, ◌++◌, length, Option, Some, refl, sym, ap, subst, ◌∙◌, append-nil, eqb-true, arith}
use Rattle.std.specs.Prelude.{fold}
use Rattle.avm_model.specs.Chain.{top_of}
use Rattle.avm_model.specs.Entries.{numbered}
use Rattle.avm_model.specs.Frame.{FrameData}
use Rattle.avm_model.specs.Machine.{State}
use Rattle.journal_model.specs.Header.{CarriedData}
use Rattle.journal_model.specs.Journal.{JournalData, entries, parts}
use Rattle.journal_model.specs.Part.{Part, entry, seal, keep, frames_in, signing}
use Rattle.journal_model.specs.Standing.{LeavesFrom, SignedData, behind, signed_from, signed_items, start}
use Rattle.journal_model.proofs.Fitting.{entries_numbered}
use Rattle.journal_model.proofs.Judging.{used_fold}
use Rattle.journal_model.proofs.Signing.{leaves_run, signed_append}
use Rattle.journal_spelling.specs.Spelled.{HasSpelling}
use Rattle.record_model.specs.Released.{Sender, signed_entries, signed_frames}
use Rattle.base_model.specs.Base.{MovedState, before_entry, carried_of, earlier, from_entry, moved, without_keep}
use Rattle.base_model.proofs.Honesty.{moved_frames}
use Rattle.base_model.proofs.Moves.{before_here}
use Rattle.base_laws.proofs.Records.{or_none, records_parts}
use Rattle.base_laws.proofs.Spelling.{first_some}
use Rattle.life_model.specs.Life.{Among, Gone, IsGone, Told, signed_as, told_from}
use Rattle.life_model.proofs.Among.{among_either, among_filter, among_left, among_right}
use Rattle.life_model.proofs.Numbers.{frames_above, frames_append, frames_split, numbered_front, numbered_rest, signed_below, signed_entry, told_below}
use Rattle.life_model.proofs.Points.{IsAt, is_at, leaves_used, signed_at, told_append, told_at}

-- the entry that is found has its number
pub found_seq : (n : ℕ) (f : FrameData) (ps xs : List Part) → from_entry n ps ≡ Some (entry f ∷ xs) → f.seq ≡ n
found_seq n f [] xs e = absurd cc
found_seq n f (seal ∷ ps) xs e = found_seq n f ps xs e
found_seq n f (keep k ∷ ps) xs e = found_seq n f ps xs e
found_seq n f (entry g ∷ ps) xs e = go (λ q. found_seq n f ps xs q) (g.seq == n) refl e
  where
    go : (from_entry n ps ≡ Some (entry f ∷ xs) → f.seq ≡ n) → (b : Bool) → (g.seq == n) ≡ b → cond b (Some (entry g ∷ ps)) (from_entry n ps) ≡ Some (entry f ∷ xs) → f.seq ≡ n
    go more true t q = let same : g.seq ≡ f.seq = cc in sym same ∙ eqb-true g.seq n t
    go more false t q = more q

pub split_at : (n : ℕ) (ps xs : List Part) → from_entry n ps ≡ Some xs → ps ≡ before_entry n ps ++ xs
split_at n ps xs e = sym (ap (λ (l : List Part). before_entry n l ++ xs) (sym (append-nil ps)) ∙ before_here n ps [] xs e)

-- the parts of a moved journal, and where they begin
pub record Moved (j : JournalData) (n : ℕ) (s : MovedState) (f : FrameData) (later : List Part) : Type 0 where
  pub split : parts j ≡ before_entry n (parts j) ++ entry f ∷ later
  pub seq : f.seq ≡ n
  pub low : 1 ≤ j.header.first
  pub number : n ≡ j.header.first + length (frames_in (before_entry n (parts j)))
  pub numbers : numbered j.header.first (frames_in (before_entry n (parts j) ++ entry f ∷ later)) ≡ true
  pub at : IsAt (fold behind (start j.header) (before_entry n (parts j))) n (top_of j.header.before (frames_in (before_entry n (parts j)))) (j.header.leaves + signing (before_entry n (parts j)))
  pub parts_are : parts (moved j n s) ≡ without_keep (entry f ∷ later)

whole : (j : JournalData) (n : ℕ) (s : MovedState) (f : FrameData) (later : List Part) → HasSpelling j → from_entry n (parts j) ≡ Some (entry f ∷ later) → parts (moved j n s) ≡ without_keep (entry f ∷ later)
unfolding parts moved
whole j n s f later h e = records_parts n j.records h.records ∙ ap (λ (o : Option (List Part)). without_keep (or_none o)) e

numbers_of : (j : JournalData) → HasSpelling j → numbered j.header.first (frames_in (parts j)) ≡ true
unfolding entries
numbers_of j h = entries_numbered j h.journal

pub is_moved : (j : JournalData) (n : ℕ) (s : MovedState) (f : FrameData) (later : List Part) → HasSpelling j → from_entry n (parts j) ≡ Some (entry f ∷ later) → Moved j n s f later
is_moved j n s f later h found =
    let split = split_at n (parts j) (entry f ∷ later) found in
    let seq = found_seq n f (parts j) later found in
    let frames = moved_frames j n s (before_entry n (parts j)) later f h.journal split seq in
    record {
      split = split;
      seq = seq;
      low = first_some j.header h.journal.header.version;
      number = frames.1;
      numbers = subst (λ (ps : List Part). numbered j.header.first (frames_in ps) ≡ true) split (numbers_of j h);
      at = is_at j.header (before_entry n (parts j)) n frames.1;
      parts_are = whole j n s f later h found;
    }

module _ (j : JournalData) (n : ℕ) (s : MovedState) (f : FrameData) (later : List Part) (m : Moved j n s f later) where
  abbrev front : List Part
  front = before_entry n (parts j)

  numbers : numbered j.header.first (frames_in front ++ frames_in (entry f ∷ later)) ≡ true
  numbers = subst (λ (fs : List FrameData). numbered j.header.first fs ≡ true) (frames_append front (entry f ∷ later)) m.numbers

  front_numbers : numbered j.header.first (frames_in front) ≡ true
  front_numbers = numbered_front j.header.first (frames_in front) (frames_in (entry f ∷ later)) numbers

  rest_numbers : numbered (fold behind (start j.header) front).next (frames_in (entry f ∷ later)) ≡ true
  rest_numbers = subst (λ (k : ℕ). numbered k (frames_in (entry f ∷ later)) ≡ true) (sym m.number ∙ sym m.at.next_is) (numbered_rest j.header.first (frames_in front) (frames_in (entry f ∷ later)) numbers)

  pub told_moved : (who : Sender) → told_from who (start j.header) (parts j) ≡ told_from who (start j.header) front ++ told_from who (start (moved j n s).header) (parts (moved j n s))
  unfolding moved Rattle.base_model.specs.Base.base_header
  told_moved who =
      ap (told_from who (start j.header)) m.split ∙ told_append who (start j.header) front (entry f ∷ later)
      ∙ ap (λ (r : List Told). told_from who (start j.header) front ++ r)
      (told_at who (fold behind (start j.header) front) n (top_of j.header.before (frames_in front)) (j.header.leaves + signing front) f later m.at
      ∙ sym (ap (told_from who (start (moved j n s).header)) m.parts_are))

  pub items_moved : signed_items j ≡ signed_from (start j.header) front ++ signed_items (moved j n s)
  unfolding signed_items moved Rattle.base_model.specs.Base.base_header
  items_moved =
      ap (signed_from (start j.header)) m.split ∙ signed_append (start j.header) front (entry f ∷ later)
      ∙ ap (λ (r : List SignedData). signed_from (start j.header) front ++ r)
      (signed_at (fold behind (start j.header) front) n (top_of j.header.before (frames_in front)) (j.header.leaves + signing front) f later m.at
      ∙ sym (ap (signed_from (start (moved j n s).header)) m.parts_are))

  pub leaves_moved : j.header.leaves + length (signed_from (start j.header) front) ≡ (moved j n s).header.leaves
  unfolding moved Rattle.base_model.specs.Base.base_header
  leaves_moved = leaves_used (start j.header) front ∙ used_fold (start j.header) front

  pub front_leaves : LeavesFrom j.header.leaves (signed_from (start j.header) front)
  front_leaves = leaves_run (start j.header) front

  pub first_moved : (moved j n s).header.first ≡ n
  unfolding moved Rattle.base_model.specs.Base.base_header
  first_moved = refl

  pub front_told : (who : Sender) (t : Told) → Among t (told_from who (start j.header) front) → t.seq < n
  front_told who t h = omega (arith, told_below who (start j.header) front t front_numbers m.low h, m.at.next_is)

  pub front_signed : (x : SignedData) → Among x (signed_from (start j.header) front) → x.seq < n
  front_signed x h = omega (arith, signed_below (start j.header) front x front_numbers m.low h, m.at.next_is)

  -- an entry that is signed before entry n was left behind
  pub entry_gone : (who : Sender) (gone : Gone) (e : CarriedData) → ((c : CarriedData) → Among c j.header.carried → IsGone who gone c) → Among e (signed_entries j) → e.frame.seq < n
      → IsGone who (record { told = gone.told ++ told_from who (start j.header) front; signed = gone.signed ++ signed_from (start j.header) front }) e
  entry_gone who gone e carried h low = ⊎_elim (λ c. old (carried e c)) (λ own. by (among_either e (signed_frames (start j.header) front) (signed_frames (fold behind (start j.header) front) (entry f ∷ later)) (subst (Among e) (ap (signed_frames (start j.header)) m.split ∙ frames_split (start j.header) front (entry f ∷ later)) own)))
      (among_either e j.header.carried (signed_frames (start j.header) (parts j)) h)
    where
      old : IsGone who gone e → IsGone who (record { told = gone.told ++ told_from who (start j.header) front; signed = gone.signed ++ signed_from (start j.header) front }) e
      old g = record {
        signed = among_left (signed_as e) gone.signed (signed_from (start j.header) front) g.signed;
        told = λ t i. among_left t gone.told (told_from who (start j.header) front) (g.told t i);
      }

      by : Among e (signed_frames (start j.header) front) ⊎ Among e (signed_frames (fold behind (start j.header) front) (entry f ∷ later)) → IsGone who (record { told = gone.told ++ told_from who (start j.header) front; signed = gone.signed ++ signed_from (start j.header) front }) e
      by (inl i) = (let o = signed_entry who (start j.header) front e i in record {
        signed = among_right (signed_as e) gone.signed (signed_from (start j.header) front) o.signed;
        told = λ t k. among_right t gone.told (told_from who (start j.header) front) (o.told t k);
      })
      by (inr i) = absurd (omega (arith, low, frames_above (fold behind (start j.header) front) (entry f ∷ later) e rest_numbers i, m.at.next_is))

-- what a base carries was signed before its first entry
pub carried_entry : (j : JournalData) (n : ℕ) (s : State) (e : CarriedData) → Among e (carried_of j n s) → Among e (signed_entries j) × (e.frame.seq < n)
unfolding carried_of
carried_entry j n s e h =
    let a = among_filter _ e (earlier n j) h in
    let b = among_filter (λ (c : CarriedData). nat_lt c.frame.seq n) e (signed_entries j) a.0 in
    (b.0, ltb-true e.frame.seq n b.1)
