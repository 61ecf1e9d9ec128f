-- A segment's file while it is written.
use Rattle.std.proofs.Common.{◌≡◌, ℕ, ◌^◌, ◌≤◌, ◌<◌, Bool, true, false, cond, List, [], ◌∷◌, ◌++◌, length, Option, Some, None, IsSome, Ok, Err, refl, sym, ap, subst, ◌∙◌, append_assoc, append-nil, arith}
use Rattle.std.specs.Prelude.{option_map, OnOk, Result}
use Rattle.std.specs.List.{flat_map}
use Rattle.std.proofs.lemmas.Grind.{flat_map-append}
use Rattle.avm_num.specs.Bytes.{IsBytes}
use Rattle.avm_outside.specs.Files.{appended}
use Rattle.avm_model.specs.Content.{ContentData, content_at, content_bytes}
use Rattle.log_entry.specs.Limits.{longest_content}
use Rattle.log_entry.proofs.Contents.{content_read}
use Rattle.log_entry.proofs.Lengths.{content_limit}
use Rattle.avm_model.specs.Frame.{FrameData, frame_bytes}
use Rattle.evid_file.specs.Pieces.{Written}
use Rattle.export_model.specs.Exports.{stretch}
use Rattle.journal_model.specs.Journal.{JournalData}
use Rattle.jrnl_store.specs.Items.{ItemData, items_in}
use Rattle.rebut_pass.specs.Items.{frame_in, frames_of_items}
use Rattle.rebut_pass.specs.Passing.{Takes}
use Rattle.rebut_pass.proofs.ItemFacts.{frames_are}
use Rattle.journal_export.specs.Cuts.{Cuts, IsCut, cut}
use Rattle.journal_export.specs.Writing.{Adds, Holds, IsWriting, Writes, Writing, writing}
use Rattle.journal_export.specs.declared.cut.Cut.{Cut}

-- ---- pieces

append_written : (first more : List ℕ) (before old new : Option (Option (List ℕ))) → Written first before old → new ≡ option_map (appended more) old → Written (first ++ more) before new
append_written first more before old new w e = e ∙ ap (option_map (appended more)) w ∙ go before
  where
    go : (b : Option (Option (List ℕ))) → option_map (appended more) (option_map (λ _. Some first) b) ≡ option_map (λ _. Some (first ++ more)) b
    go None = refl
    go (Some x) = refl

-- what waits is appended
pub flushed : (waiting now : List ℕ) (old new : Option (Option (List ℕ))) → now ≡ [] → new ≡ option_map (appended waiting) old → Adds [] waiting now old new
flushed waiting now old new none e = λ before bytes h. record {
  first = h.first ++ waiting;
  written = append_written h.first waiting before old new h.written e;
  all = ap (λ (l : List ℕ). (h.first ++ waiting) ++ l) none ∙ append-nil (h.first ++ waiting) ∙ h.all ∙ sym (append-nil bytes);
}

-- bytes wait
pub put_waits : (more waiting now : List ℕ) (file : Option (Option (List ℕ))) → now ≡ waiting ++ more → Adds more waiting now file file
put_waits more waiting now file e = λ before bytes h. record {
  first = h.first;
  written = h.written;
  all = ap (λ (l : List ℕ). h.first ++ l) e ∙ sym (append_assoc h.first waiting more) ∙ ap (λ (l : List ℕ). l ++ more) h.all;
}

-- bytes are appended where nothing waits
pub put_through : (more waiting now : List ℕ) (old new : Option (Option (List ℕ))) → waiting ≡ [] → now ≡ waiting → new ≡ option_map (appended more) old → Adds more waiting now old new
put_through more waiting now old new none same e = λ before bytes h.
    let whole : h.first ≡ bytes = sym (append-nil h.first) ∙ ap (λ (l : List ℕ). h.first ++ l) (sym none) ∙ h.all in
    record {
      first = h.first ++ more;
      written = append_written h.first more before old new h.written e;
      all = ap (λ (l : List ℕ). (h.first ++ more) ++ l) (same ∙ none) ∙ append-nil (h.first ++ more) ∙ ap (λ (l : List ℕ). l ++ more) whole;
    }

pub adds_both : (a b x y z : List ℕ) (o p q : Option (Option (List ℕ))) → Adds a x y o p → Adds b y z p q → Adds (a ++ b) x z o q
adds_both a b x y z o p q f g = λ before bytes h. subst (λ (l : List ℕ). Holds l z before q) (append_assoc bytes a b) (g before (bytes ++ a) (f before bytes h))

pub adds_as : (a b x y : List ℕ) (o p : Option (Option (List ℕ))) → a ≡ b → Adds a x y o p → Adds b x y o p
adds_as a b x y o p e h = subst (λ (l : List ℕ). Adds l x y o p) e h

-- a file that was made
pub made_holds : (waiting : List ℕ) (before now : Option (Option (List ℕ))) → waiting ≡ [] → now ≡ option_map (λ _. Some []) before → Holds [] waiting before now
made_holds waiting before now none e = record { first = []; written = e; all = none }

-- nothing waits behind the file
pub holds_written : (bytes waiting : List ℕ) (before now : Option (Option (List ℕ))) → waiting ≡ [] → Holds bytes waiting before now → Written bytes before now
holds_written bytes waiting before now none h = subst (λ (l : List ℕ). Written l before now) (sym (append-nil h.first) ∙ ap (λ (l : List ℕ). h.first ++ l) (sym none) ∙ h.all) h.written

-- ---- one item more

pub writes_none : (old : Writing) (x : ItemData) → frame_in x ≡ [] → Writes old x old
writes_none old x none = record { from = refl; to = refl; writes = λ h fs top before i. subst (λ (l : List FrameData). IsWriting h l top before old) (sym (ap (λ (l : List FrameData). fs ++ l) none ∙ append-nil fs)) i }

abbrev taken_bytes : Bool → FrameData → List ℕ
taken_bytes true f = frame_bytes f
taken_bytes false f = []

taken_are : (b : Bool) (f : FrameData) → flat_map frame_bytes (cond b (f ∷ []) []) ≡ taken_bytes b f
taken_are true f = append-nil (frame_bytes f)
taken_are false f = refl

pub writes_entry : (old new : Writing) (x : ItemData) (f : FrameData) (taken : Bool) → frame_in x ≡ f ∷ [] → Cuts old.part f taken new.part → Adds (taken_bytes taken f) old.waiting new.waiting old.file new.file → Writes old x new
writes_entry old new x f taken is c a = record {
  from = c.from;
  to = c.to;
  writes = λ h fs top before i.
      let sofar = cut old.part.from old.part.to h fs in
      let same : cut new.part.from new.part.to h (fs ++ f ∷ []) ≡ sofar ++ cond taken (f ∷ []) [] =
      ap (λ (n : ℕ). cut n new.part.to h (fs ++ f ∷ [])) c.from ∙ ap (λ (n : ℕ). cut old.part.from n h (fs ++ f ∷ [])) c.to ∙ c.takes h fs i.cut_is in
      let bytes : (top ++ flat_map frame_bytes sofar) ++ taken_bytes taken f ≡ top ++ flat_map frame_bytes (cut new.part.from new.part.to h (fs ++ f ∷ [])) =
      append_assoc top (flat_map frame_bytes sofar) (taken_bytes taken f)
      ∙ ap (λ (l : List ℕ). top ++ l) (ap (λ (l : List ℕ). flat_map frame_bytes sofar ++ l) (sym (taken_are taken f)) ∙ sym (flat_map-append frame_bytes sofar (cond taken (f ∷ []) [])) ∙ ap (flat_map frame_bytes) (sym same)) in
      subst (λ (l : List FrameData). IsWriting h (fs ++ l) top before new) (sym is) (record {
        cut_is = c.cuts h fs i.cut_is;
        holds = subst (λ (l : List ℕ). Holds l new.waiting before new.file) bytes (a before (top ++ flat_map frame_bytes sofar) i.holds);
      });
}

-- ---- all items

record Wrote (a b : Writing) (h : List ℕ) (fs : List FrameData) (top : List ℕ) (before : Option (Option (List ℕ))) : Type 0 where
  pub from : b.part.from ≡ a.part.from
  pub to : b.part.to ≡ a.part.to
  pub is : IsWriting h fs top before b

wrote_all : (xs : List ItemData) (a b : Writing) → Takes Writes a xs b → (h : List ℕ) (fs : List FrameData) (top : List ℕ) (before : Option (Option (List ℕ))) → IsWriting h fs top before a → Wrote a b h (fs ++ frames_of_items xs) top before
wrote_all [] a b t h fs top before i = subst (λ (v : Writing). Wrote a v h (fs ++ []) top before) t (record { from = refl; to = refl; is = subst (λ (l : List FrameData). IsWriting h l top before a) (sym (append-nil fs)) i })
wrote_all (x ∷ xs) a b t h fs top before i =
    let r = wrote_all xs t.0 b t.2 h (fs ++ frame_in x) top before (t.1.writes h fs top before i) in
    record { from = r.from ∙ t.1.from; to = r.to ∙ t.1.to; is = subst (λ (l : List FrameData). IsWriting h l top before b) (append_assoc fs (frame_in x) (frames_of_items xs)) r.is }

pub segment_written : (j : JournalData) (from to : ℕ) (c d : Cut) (top x y z : List ℕ) (before o p q : Option (Option (List ℕ))) → c.from ≡ from → c.to ≡ to → IsCut j.header.before [] c → Holds top x before o → Takes Writes (writing c x o) (items_in j) (writing d y p) → Adds [] y z p q → z ≡ [] → Written (top ++ flat_map frame_bytes (stretch j from to)) before q
segment_written j from to c d top x y z before o p q f t first holds taken flush none =
    let w : Holds (top ++ []) x before o = subst (λ (l : List ℕ). Holds l x before o) (sym (append-nil top)) holds in
    let r = wrote_all (items_in j) (writing c x o) (writing d y p) taken j.header.before [] top before (record { cut_is = first; holds = w }) in
    let all : cut d.from d.to j.header.before (frames_of_items (items_in j)) ≡ stretch j from to =
    ap (λ (n : ℕ). cut n d.to j.header.before (frames_of_items (items_in j))) (r.from ∙ f) ∙ ap (λ (n : ℕ). cut from n j.header.before (frames_of_items (items_in j))) (r.to ∙ t) ∙ ap (cut from to j.header.before) (frames_are j) in
    let held : Holds (top ++ flat_map frame_bytes (stretch j from to)) y before p = subst (λ (l : List FrameData). Holds (top ++ flat_map frame_bytes l) y before p) all r.is.holds in
    let done : Holds ((top ++ flat_map frame_bytes (stretch j from to)) ++ []) z before q = flush before (top ++ flat_map frame_bytes (stretch j from to)) held in
    holds_written (top ++ flat_map frame_bytes (stretch j from to)) z before q none (subst (λ (l : List ℕ). Holds l z before q) (append-nil (top ++ flat_map frame_bytes (stretch j from to))) done)

-- ---- clauses

pub ok_map : {T E : Type 0} (r : Result T E) (P Q : Type 0) → (P → Q) → OnOk r P → OnOk r Q
ok_map (Ok t) P Q f h = f h
ok_map (Err e) P Q f h = tt

pub adds_none : (waiting : List ℕ) (file : Option (Option (List ℕ))) → Adds [] waiting waiting file file
adds_none waiting file = put_waits [] waiting waiting file (sym (append-nil waiting))

-- an entry's content is short
pub short_content : (kind : ℕ) (bytes : List ℕ) → IsBytes bytes → IsSome (content_at kind bytes) → length bytes < 2 ^ 32
short_content kind bytes b some = go (content_at kind bytes) refl some
  where
    go : (o : Option ContentData) → content_at kind bytes ≡ o → IsSome o → length bytes < 2 ^ 32
    go None e h = absurd cc
    go (Some x) e h =
        let r = content_read kind bytes x b e in
        let few : length (content_bytes x) ≤ longest_content = content_limit x r.0 in
        let same : length (content_bytes x) ≡ length bytes = ap length r.2 in
        omega (arith, few, same)
