-- One item more is sought through.
use Rattle.std.proofs.Common.{◌≡◌, ℕ, ◌+◌, ◌*◌, ◌≤◌, ◌<◌, true, false, Bool, List, [], ◌∷◌, ◌++◌, length, Option, Some, None, refl, sym, ap, subst, ◌∙◌, append_assoc, append-nil, arith}
use Rattle.std.specs.Prelude.{option_map}
use Rattle.std.specs.List.{AllByRecursion}
use Rattle.std.proofs.lemmas.List.{length-append}
use Rattle.avm_model.specs.Frame.{FrameData}
use Rattle.avm_model.specs.Content.{ContentData, content_at}
use Rattle.avm_model.specs.Head.{HeadData}
use Rattle.avm_model.specs.HeadReading.{head_of}
use Rattle.avm_model.specs.HeadState.{data_of, state_of}
use Rattle.avm_model.specs.Machine.{State}
use Rattle.honest_model.specs.Honest.{header_state}
use Rattle.honest_model.specs.Keeps.{IsBase, IsGood, content_of, kept_ram, last_frame, with_pages}
use Rattle.honest_model.proofs.Keeping.{kept-append}
use Rattle.honest_model.proofs.Logs.{keeps-append}
use Rattle.journal_model.specs.Header.{CarriedData, HeaderData}
use Rattle.journal_model.specs.Journal.{JournalData, parts}
use Rattle.journal_model.specs.Part.{KeepData, Part, entry, frames_in, keep, keeps_in, pages_of, seal}
use Rattle.journal_model.proofs.Prefixes.{frames_append}
use Rattle.jrnl_store.specs.Items.{ItemData}
use Rattle.open_pass.specs.Tickets.{AreSignedBy, IsSignedBy, rows_in}
use Rattle.record_kept.specs.Tickets.{AreKept}
use Rattle.rebut_pass.specs.Passing.{Takes}
use Rattle.keep_judge.specs.declared.told.Told.{Told}
use Rattle.keep_judge.specs.Good.{is_good_keep, told_in, told_view}
use Rattle.open_keeps.specs.Search.{IsFound, IsInside, IsSought, Seeks, SeeksOn, part_in, parts_of_items, so_far}
use Rattle.open_keeps.specs.declared.base.Base.{Base}
use Rattle.open_keeps.specs.declared.base.Search.{Search}
use Rattle.open_keeps.proofs.Bases.{base_new, base_on}
use Rattle.keep_judge.proofs.Goodness.{good_here, good_never}

-- ---- what stands still with one part more

pub found_on : (h : HeaderData) (n : ℕ) (ps : List Part) (x : Part) (head pages : List ℕ) (keeps : ℕ) → ((k : KeepData) (t : State) → x ≡ keep k → k.seq ≤ n → IsGood h ps k t → ⊥) → IsFound h n ps head pages keeps → IsFound h n (ps ++ x ∷ []) head pages keeps
found_on h n ps x head pages keeps never o = record {
  front = o.front;
  behind = o.behind ++ x ∷ [];
  told = o.told;
  is = o.is;
  base = base_on h n ps o.front o.behind x (state_of o.told pages) never o.base;
  count = o.count;
}

no_keeps : (ps : List Part) (x : Part) → keeps_in (x ∷ []) ≡ [] → keeps_in (ps ++ x ∷ []) ≡ keeps_in ps
no_keeps ps x e = keeps-append ps (x ∷ []) ∙ ap (λ (ks : List KeepData). keeps_in ps ++ ks) e ∙ append-nil (keeps_in ps)

last_is : (fs : List FrameData) (f : FrameData) → last_frame (fs ++ f ∷ []) ≡ Some f
last_is [] f = refl
last_is (g ∷ []) f = refl
last_is (g ∷ k ∷ fs) f = last_is (k ∷ fs) f

not_keep_entry : (f : FrameData) (k : KeepData) → entry f ≡ keep k → ⊥
not_keep_entry f k e = absurd cc

not_keep_seal : (k : KeepData) → seal ≡ keep k → ⊥
not_keep_seal k e = absurd cc

-- what an entry leaves
pub record Stays (old new : Search) : Type 0 where
  pub own : data_of new.own.state ≡ data_of old.own.state
  pub first : new.first ≡ old.first
  pub last : new.last ≡ old.last
  pub ram : new.now.ram.bytes ≡ old.now.ram.bytes
  pub keeps : new.keeps ≡ old.keeps
  pub base : new.base ≡ old.base

same_base : (h : HeaderData) (n : ℕ) (ps : List Part) (old new : Search) → new.base ≡ old.base → IsFound h n ps old.base.head.bytes old.base.ram.bytes old.base.keeps → IsFound h n ps new.base.head.bytes new.base.ram.bytes new.base.keeps
same_base h n ps old new e o = subst (λ (b : Base). IsFound h n ps b.head.bytes b.ram.bytes b.keeps) (sym e) o

-- an entry
pub seeks_entry : (old new : Search) (f : FrameData) → Stays old new → option_map told_view new.told ≡ told_in (content_at f.kind f.content) → SeeksOn old (entry f ∷ []) new
seeks_entry old new f same told = λ h n ps o.
    let keeps = no_keeps ps (entry f) refl in
    let last : last_frame (frames_in (ps ++ entry f ∷ [])) ≡ Some f = ap last_frame (frames_append ps (entry f ∷ [])) ∙ last_is (frames_in ps) f in
    record {
      own = o.own ∙ ap (λ (d : HeadData). Some d) (sym same.own);
      first = same.first ∙ o.first;
      last = same.last ∙ o.last;
      ram = same.ram ∙ o.ram ∙ ap (kept_ram h.pages) (sym keeps);
      told = told ∙ ap (λ (g : Option FrameData). told_in (content_of g)) (sym last);
      keeps = same.keeps ∙ o.keeps ∙ ap length (sym keeps);
      found = same_base h n (ps ++ entry f ∷ []) old new same.base (found_on h n ps (entry f) old.base.head.bytes old.base.ram.bytes old.base.keeps (λ k t e le g. not_keep_entry f k e) o.found);
    }

-- a seal
pub seeks_seal : (old : Search) → SeeksOn old (seal ∷ []) old
seeks_seal old = λ h n ps o.
    let keeps = no_keeps ps seal refl in
    let frames : frames_in (ps ++ seal ∷ []) ≡ frames_in ps = frames_append ps (seal ∷ []) ∙ append-nil (frames_in ps) in
    record {
      own = o.own;
      first = o.first;
      last = o.last;
      ram = o.ram ∙ ap (kept_ram h.pages) (sym keeps);
      told = o.told ∙ ap (λ (fs : List FrameData). told_in (content_of (last_frame fs))) (sym frames);
      keeps = o.keeps ∙ ap length (sym keeps);
      found = found_on h n ps seal old.base.head.bytes old.base.ram.bytes old.base.keeps (λ k t e le g. not_keep_seal k e) o.found;
    }

-- a carried entry
pub seeks_none : (old : Search) → SeeksOn old [] old
seeks_none old = λ h n ps o. subst (λ (l : List Part). IsSought h n l old) (sym (append-nil ps)) o

-- ---- a keep

-- what a keep changes whether it is good or not
pub record Passes (old new : Search) (k : KeepData) : Type 0 where
  pub own : data_of new.own.state ≡ data_of old.own.state
  pub first : new.first ≡ old.first
  pub last : new.last ≡ old.last
  pub told : new.told ≡ old.told
  pub ram : new.now.ram.bytes ≡ with_pages old.now.ram.bytes (pages_of k)
  pub keeps : new.keeps ≡ old.keeps + 1

ram_on : (h : HeaderData) (ps : List Part) (k : KeepData) (old new : List ℕ) → old ≡ kept_ram h.pages (keeps_in ps) → new ≡ with_pages old (pages_of k) → new ≡ kept_ram h.pages (keeps_in ps ++ k ∷ [])
ram_on h ps k old new e f = f ∙ ap (λ (r : List ℕ). with_pages r (pages_of k)) e ∙ sym (kept-append h.pages (keeps_in ps) k)

keep_on : (h : HeaderData) (n : ℕ) (ps : List Part) (k : KeepData) (old new : Search) → Passes old new k → IsSought h n ps old → IsFound h n (ps ++ keep k ∷ []) new.base.head.bytes new.base.ram.bytes new.base.keeps → IsSought h n (ps ++ keep k ∷ []) new
keep_on h n ps k old new p o found =
    let keeps : keeps_in (ps ++ keep k ∷ []) ≡ keeps_in ps ++ k ∷ [] = keeps-append ps (keep k ∷ []) in
    let frames : frames_in (ps ++ keep k ∷ []) ≡ frames_in ps = frames_append ps (keep k ∷ []) ∙ append-nil (frames_in ps) in
    record {
      own = o.own ∙ ap (λ (d : HeadData). Some d) (sym p.own);
      first = p.first ∙ o.first;
      last = p.last ∙ o.last;
      ram = ram_on h ps k old.now.ram.bytes new.now.ram.bytes o.ram p.ram ∙ ap (kept_ram h.pages) (sym keeps);
      told = ap (λ (t : Option Told). option_map told_view t) p.told ∙ o.told ∙ ap (λ (fs : List FrameData). told_in (content_of (last_frame fs))) (sym frames);
      keeps = p.keeps ∙ ap (λ (c : ℕ). c + 1) o.keeps ∙ sym (length-append (keeps_in ps) (k ∷ [])) ∙ ap length (sym keeps);
      found = found;
    }

keep_is : (k l : KeepData) → keep k ≡ keep l → k ≡ l
keep_is k l e = cc

-- of a number past the last
pub seeks_late : (old new : Search) (k : KeepData) → Passes old new k → new.base ≡ old.base → old.last < k.seq → SeeksOn old (keep k ∷ []) new
seeks_late old new k p same late = λ h n ps o.
    keep_on h n ps k old new p o (same_base h n (ps ++ keep k ∷ []) old new same (found_on h n ps (keep k) old.base.head.bytes old.base.ram.bytes old.base.keeps
    (λ l t e le g. let q : k.seq ≡ l.seq = ap (λ (x : KeepData). x.seq) (keep_is k l e) in omega (arith, le, late, q, o.last)) o.found))

-- one that isn't good
pub seeks_bad : (old new : Search) (k : KeepData) → Passes old new k → new.base ≡ old.base → is_good_keep (data_of old.own.state) old.first k.seq (option_map told_view old.told) new.now.ram.bytes (head_of k.head) ≡ false → SeeksOn old (keep k ∷ []) new
seeks_bad old new k p same bad = λ h n ps o.
    keep_on h n ps k old new p o (same_base h n (ps ++ keep k ∷ []) old new same (found_on h n ps (keep k) old.base.head.bytes old.base.ram.bytes old.base.keeps
    (λ l t e le g. never h n ps o t (subst (λ (x : KeepData). IsGood h ps x t) (sym (keep_is k l e)) g)) o.found))
  where
    never : (h : HeaderData) (n : ℕ) (ps : List Part) → IsSought h n ps old → (t : State) → IsGood h ps k t → ⊥
    never h n ps o t g = good_never h ps k (data_of old.own.state) (option_map told_view old.told) new.now.ram.bytes t o.own o.told (ram_on h ps k old.now.ram.bytes new.now.ram.bytes o.ram p.ram)
        (ap (λ (first : ℕ). is_good_keep (data_of old.own.state) first k.seq (option_map told_view old.told) new.now.ram.bytes (head_of k.head)) (sym o.first) ∙ bad) g

-- a good one
pub seeks_good : (old new : Search) (k : KeepData) → Passes old new k → new.base.head.bytes ≡ k.head → new.base.ram.bytes ≡ new.now.ram.bytes → new.base.keeps ≡ new.keeps → k.seq ≤ old.last → is_good_keep (data_of old.own.state) old.first k.seq (option_map told_view old.told) new.now.ram.bytes (head_of k.head) ≡ true → SeeksOn old (keep k ∷ []) new
seeks_good old new k p head pages keeps le good = λ h n ps o. keep_on h n ps k old new p o (by h n ps o)
  where
    by : (h : HeaderData) (n : ℕ) (ps : List Part) → IsSought h n ps old → IsFound h n (ps ++ keep k ∷ []) new.base.head.bytes new.base.ram.bytes new.base.keeps
    by h n ps o =
        let ram = ram_on h ps k old.now.ram.bytes new.now.ram.bytes o.ram p.ram in
        let g = good_here h ps k (data_of old.own.state) (option_map told_view old.told) new.now.ram.bytes o.own o.told ram
        (ap (λ (first : ℕ). is_good_keep (data_of old.own.state) first k.seq (option_map told_view old.told) new.now.ram.bytes (head_of k.head)) (sym o.first) ∙ good) in
        let here : new.base.ram.bytes ≡ kept_ram h.pages (keeps_in ps ++ k ∷ []) = pages ∙ ram in
        let low : k.seq ≤ n = (let l = o.last in omega (arith, le, l)) in
        record {
          front = ps ++ keep k ∷ [];
          behind = [];
          told = g.told;
          is = ap head_of head ∙ g.is;
          base = subst (λ (r : List ℕ). IsBase (so_far h (ps ++ keep k ∷ [])) n (ps ++ keep k ∷ []) [] (state_of g.told r)) (sym here) (base_new h n ps k _ low g.good);
          count = ap length (keeps-append ps (keep k ∷ [])) ∙ length-append (keeps_in ps) (k ∷ []) ∙ ap (λ (c : ℕ). c + 1) (sym o.keeps) ∙ sym p.keeps ∙ sym keeps;
        }

-- an item that is one of these
pub seeks_as : (old new : Search) (x y : ItemData) → x ≡ y → SeeksOn old (part_in y) new → SeeksOn old (part_in x) new
seeks_as old new x y e h = subst (λ (z : ItemData). SeeksOn old (part_in z) new) (sym e) h

pub inside_as : (n : ℕ) (x y : ItemData) → x ≡ y → IsInside n x → IsInside n y
inside_as n x y e h = subst (IsInside n) e h

pub sizes_same : (a b : List ℕ) (d e : List Bool) → length a ≡ 4096 * length d → length b ≡ 4096 * length e → length d ≡ length e → length a ≡ length b
sizes_same a b d e x y same = omega (arith, x, y, same)

-- ---- all items

pub sought_all : (xs : List ItemData) (a b : Search) → Takes Seeks a xs b → AllByRecursion (IsInside (length a.now.ram.dirty)) xs → (h : HeaderData) (n : ℕ) (ps : List Part) → IsSought h n ps a → IsSought h n (ps ++ parts_of_items xs) b
sought_all [] a b t i h n ps o = subst (λ (v : Search). IsSought h n (ps ++ []) v) t (subst (λ (l : List Part). IsSought h n l a) (sym (append-nil ps)) o)
sought_all (x ∷ xs) a b t i h n ps o =
    let rest : AllByRecursion (IsInside (length t.0.now.ram.dirty)) xs = subst (λ (m : ℕ). AllByRecursion (IsInside m) xs) (sym t.1.pages) i.1 in
    subst (λ (l : List Part). IsSought h n l b) (append_assoc ps (part_in x) (parts_of_items xs)) (sought_all xs t.0 b t.2 rest h n (ps ++ part_in x) (t.1.sought i.0 h n ps o))

pub kept_all : (xs : List ItemData) (a b : Search) → Takes Seeks a xs b → (es more : List CarriedData) → AreSignedBy xs more → AreKept (rows_in a.tickets.kept) es → AreKept (rows_in b.tickets.kept) (es ++ more)
kept_all [] a b t es more s k = subst (λ (v : Search). AreKept (rows_in v.tickets.kept) (es ++ more)) t (subst (λ (l : List CarriedData). AreKept (rows_in a.tickets.kept) (es ++ l)) (sym s) (subst (λ (l : List CarriedData). AreKept (rows_in a.tickets.kept) l) (sym (append-nil es)) k))
kept_all (x ∷ xs) a b t es more s k =
    let here = t.1.kept es s.0 s.3 k in
    subst (λ (l : List CarriedData). AreKept (rows_in b.tickets.kept) l) (append_assoc es s.0 s.1 ∙ ap (λ (l : List CarriedData). es ++ l) (sym s.2)) (kept_all xs t.0 b t.2 (es ++ s.0) s.1 s.4 here)
