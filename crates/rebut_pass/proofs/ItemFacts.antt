-- The entries and tickets of a journal's items are the journal's.
use Rattle.std.proofs.Common.{◌≡◌, ℕ, zero, suc, ◌==◌, Bool, true, false, cond, List, [], ◌∷◌, ◌++◌, take, length, Option, Some, None, option_map, refl, sym, ap, subst, ◌∙◌, append_assoc}
use Rattle.std.specs.List.{AllByRecursion}
use Rattle.avm_num.specs.Bytes.{byte_at}
use Rattle.avm_num.specs.Lists.{list_at, read_of}
use Rattle.avm_num.specs.Walk.{walk, walked, items_of}
use Rattle.avm_num.proofs.Numbers.{bind_some}
use Rattle.avm_model.specs.Frame.{FrameData, frame_at}
use Rattle.log_entry.proofs.FrameLaws.{frame_form}
use Rattle.journal_model.specs.Header.{CarriedData, carried_at}
use Rattle.journal_model.specs.Journal.{JournalData, parts, entries}
use Rattle.journal_model.specs.Part.{Part, entry, seal, keep, KeepData, part_at, keep_at, body_at, frames_in, is_signed_kind}
use Rattle.journal_model.specs.Standing.{StandingData, SignedData, entry_signed, seal_signed, behind, start, signed_from, signed_items}
use Rattle.jrnl_part.specs.Views.{standing_view}
use Rattle.jrnl_store.specs.Items.{ItemData, carried_items, item_of, items_from, items_in, part_items, carriage_items, held_items}
use Rattle.jrnl_store.specs.declared.cursor.Record.{Record}
use Rattle.rebut_pass.specs.Items.{frame_in as frame_of_item, frames_of_items, listed, tickets_of_items, HasForm}

pub frames_both : (xs ys : List ItemData) → frames_of_items (xs ++ ys) ≡ frames_of_items xs ++ frames_of_items ys
frames_both [] ys = refl
frames_both (x ∷ xs) ys = ap (λ (l : List FrameData). frame_of_item x ++ l) (frames_both xs ys) ∙ sym (append_assoc (frame_of_item x) (frames_of_items xs) (frames_of_items ys))

frames_from : (s : StandingData) (ps : List Part) → frames_of_items (items_from s ps) ≡ frames_in ps
frames_from s [] = refl
frames_from s (entry f ∷ ps) = ap (λ (l : List FrameData). f ∷ l) (frames_from (behind s (entry f)) ps)
frames_from s (seal ∷ ps) = frames_from (behind s seal) ps
frames_from s (keep k ∷ ps) = frames_from (behind s (keep k)) ps

frames_carried : (cs : List CarriedData) (xs : List ItemData) → frames_of_items (carried_items cs ++ xs) ≡ frames_of_items xs
frames_carried [] xs = refl
frames_carried (c ∷ cs) xs = frames_carried cs xs

pub frames_are : (j : JournalData) → frames_of_items (items_in j) ≡ entries j
unfolding items_in part_items entries
frames_are j = frames_carried j.header.carried (items_from (start j.header) (parts j)) ∙ frames_from (start j.header) (parts j)

tickets_from : (s : StandingData) (ps : List Part) → tickets_of_items (items_from s ps) ≡ signed_from s ps
tickets_from s [] = refl
tickets_from s (entry f ∷ ps) = go (is_signed_kind f.kind) (tickets_from (behind s (entry f)) ps)
  where
    go : (b : Bool) → tickets_of_items (items_from (behind s (entry f)) ps) ≡ signed_from (behind s (entry f)) ps
        → listed (cond b (Some (entry_signed s f)) None) ++ tickets_of_items (items_from (behind s (entry f)) ps) ≡ cond b (entry_signed s f ∷ []) [] ++ signed_from (behind s (entry f)) ps
    go true h = ap (λ (l : List SignedData). entry_signed s f ∷ l) h
    go false h = h
tickets_from s (seal ∷ ps) = ap (λ (l : List SignedData). seal_signed s ∷ l) (tickets_from (behind s seal) ps)
tickets_from s (keep k ∷ ps) = tickets_from (behind s (keep k)) ps

tickets_carried : (cs : List CarriedData) (xs : List ItemData) → tickets_of_items (carried_items cs ++ xs) ≡ tickets_of_items xs
tickets_carried [] xs = refl
tickets_carried (c ∷ cs) xs = tickets_carried cs xs

pub tickets_are : (j : JournalData) → tickets_of_items (items_in j) ≡ signed_items j
unfolding items_in part_items signed_items
tickets_are j = tickets_carried j.header.carried (items_from (start j.header) (parts j)) ∙ tickets_from (start j.header) (parts j)

-- ---- each entry has the form of its kind

entry_form : (o : Option (FrameData × List ℕ)) (bytes : List ℕ) (p : Part × List ℕ) (s : StandingData) → frame_at bytes ≡ o → option_map (λ f. (entry f.0, f.1)) o ≡ Some p → HasForm (item_of s p.0)
entry_form None bytes p s i e = absurd cc
entry_form (Some f) bytes p s i e = let g : (entry f.0, f.1) ≡ p = cc in subst (λ (q : Part × List ℕ). HasForm (item_of s q.0)) g (frame_form bytes f i)

keep_form : (o : Option (KeepData × List ℕ)) (p : Part × List ℕ) (s : StandingData) → option_map (λ k. (keep k.0, k.1)) o ≡ Some p → HasForm (item_of s p.0)
keep_form None p s e = absurd cc
keep_form (Some k) p s e = let g : (keep k.0, k.1) ≡ p = cc in subst (λ (q : Part × List ℕ). HasForm (item_of s q.0)) g tt

body_form : (tag : ℕ) (bytes : List ℕ) (p : Part × List ℕ) (s : StandingData) → body_at tag bytes ≡ Some p → HasForm (item_of s p.0)
body_form tag bytes p s e = one (tag == 1) e
  where
    three : (b : Bool) → cond b (option_map (λ k. (keep k.0, k.1)) (keep_at bytes)) None ≡ Some p → HasForm (item_of s p.0)
    three true h = keep_form (keep_at bytes) p s h
    three false h = absurd cc

    two : (b : Bool) → cond b (Some (seal, bytes)) (cond (tag == 3) (option_map (λ k. (keep k.0, k.1)) (keep_at bytes)) None) ≡ Some p → HasForm (item_of s p.0)
    two true h = let g : (seal, bytes) ≡ p = cc in subst (λ (q : Part × List ℕ). HasForm (item_of s q.0)) g tt
    two false h = three (tag == 3) h

    one : (b : Bool) → cond b (option_map (λ f. (entry f.0, f.1)) (frame_at bytes)) (cond (tag == 2) (Some (seal, bytes)) (cond (tag == 3) (option_map (λ k. (keep k.0, k.1)) (keep_at bytes)) None)) ≡ Some p → HasForm (item_of s p.0)
    one true h = entry_form (frame_at bytes) bytes p s refl h
    one false h = two (tag == 2) h

part_form : (bytes : List ℕ) (p : Part × List ℕ) (s : StandingData) → part_at bytes ≡ Some p → HasForm (item_of s p.0)
unfolding part_at
part_form bytes p s e = let a = bind_some (byte_at bytes) _ p e in body_form a.0.0 a.0.1 p s a.2

walk_forms : (n : ℕ) (bytes : List ℕ) (s : StandingData) → AllByRecursion HasForm (items_from s (walk part_at n bytes).0)
walk_forms zero bytes s = tt
walk_forms (suc n) bytes s = go (λ rest t. walk_forms n rest t) (part_at bytes) refl
  where
    go : ((rest : List ℕ) (t : StandingData) → AllByRecursion HasForm (items_from t (walk part_at n rest).0)) → (r : Option (Part × List ℕ)) → part_at bytes ≡ r → AllByRecursion HasForm (items_from s (walked r bytes (walk part_at n)).0)
    go ih None e = tt
    go ih (Some p) e = (part_form bytes p s e, ih p.1 (behind s p.0))

record_forms : (bytes : List ℕ) (s : StandingData) → AllByRecursion HasForm (items_from s (items_of part_at bytes))
unfolding items_of
record_forms bytes s = walk_forms (length bytes) bytes s

carried_forms : (cs : List CarriedData) → AllByRecursion HasForm (carried_items cs)
carried_forms [] = tt
carried_forms (c ∷ cs) = (tt, carried_forms cs)

carriage_forms : (bytes : List ℕ) → AllByRecursion HasForm (carriage_items bytes)
carriage_forms [] = tt
carriage_forms (n ∷ bytes) = carried_forms (read_of (list_at carried_at n bytes))

pub held_forms : (buffer : List ℕ) (r : Record) → AllByRecursion HasForm (held_items buffer r)
held_forms buffer r = go r.carried
  where
    bytes : List ℕ
    bytes = take r.size buffer

    go : (b : Bool) → AllByRecursion HasForm (cond b (carriage_items bytes) (items_from (standing_view r.stand) (items_of part_at bytes)))
    go true = carriage_forms bytes
    go false = record_forms bytes (standing_view r.stand)
