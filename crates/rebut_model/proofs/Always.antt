-- There always is an answer.
use Rattle.std.proofs.Common.{◌≡◌, ◌≢◌, slice_get, suc, ℕ, ◌+◌, ◌*◌, take, drop, ltb, ◌≤◌, Bool, true, false, not, cond, nat_eq, nat_le, ◌&&◌, List, [], ◌∷◌, ◌++◌, length, Option, Some, None, refl, sym, ap, subst, ◌∙◌, arith, eqb-true, leb-true, IsSome, ◌⊎◌}
use Rattle.std.specs.Option.{option_map}
use Rattle.std.specs.Int.{w32, w64}
use Rattle.std.proofs.lemmas.List.{map-append}
use Rattle.std.specs.Str.{bytes_eq}
use Rattle.std.proofs.lemmas.List.{length-take-le}
use Rattle.std.proofs.lemmas.Bool.{ltb-false}
use Rattle.avm_num.specs.Bytes.{number_at, piece_at, byte_at}
use Rattle.avm_num.specs.Lists.{exact_at, sized_at}
use Rattle.avm_num.specs.Walk.{is_nil, behind_of}
use Rattle.avm_num.proofs.Numbers.{and_true, bind_some, kept_some, short_some}
use Rattle.avm_model.specs.Basics.{first_at, or_else}
use Rattle.avm_model.specs.Hash.{hash_of}
use Rattle.avm_model.specs.Frame.{FrameData, frame_at, frames_of}
use Rattle.avm_model.specs.Auth.{AuthData}
use Rattle.avm_model.specs.Entries.{numbered, begins, opens, are_entries}
use Rattle.avm_model.specs.Chain.{next_hash, top_of}
use Rattle.avm_model.specs.Marks.{hash_in}
use Rattle.avm_model.specs.Machine.{State}
use Rattle.avm_model.specs.Head.{HeadData}
use Rattle.avm_model.specs.HeadReading.{head_of}
use Rattle.avm_model.specs.Segment.{SegmentData, SegmentFront, segment_front_at, segment_of, whole_segment_of, page_count}
use Rattle.avm_model.specs.Audit.{snapshot, entry_frames, behind_first, last_number, is_committed, commits_to}
use Rattle.avm_model.specs.Content.{content_at}
use Rattle.avm_model.specs.Evidence.{EvidData, double, fork, replay}
use Rattle.avm_model.specs.Holds.{DoubleHolds, ForkHolds, ReplayHolds}
use Rattle.avm_model.specs.Rerun.{Stand, Replays}
use Rattle.avm_model.specs.Reference.{Made, timed, entries_of, entry_of_frame}
use Rattle.avm_model.proofs.ReferenceLaws.{is_timed}
use Rattle.avm_model.proofs.ReplayTheorems.{front_replays}
use Rattle.rebut_model.specs.Texts.{Texts, first_of_all, differ, collide, from_number, state_at, state_texts, OfHead}
use Rattle.rebut_model.specs.Rebuts.{Answer, forged, collision, Given, Collides, auths_of, low_number, start_of, covers, numbered_texts, segment_texts, compared, rebuts, OfHeads}
use Rattle.rebut_model.proofs.Named.{Named, Same, same_none, none_same, same_both, named_both, met, same_bytes, bytes_same}
use Rattle.rebut_model.proofs.Links.{Walked, walked}
use Rattle.rebut_model.proofs.Signed.{from_first, bound_on_chain}
use Rattle.rebut_model.proofs.Stretches.{Splits, splits, along_last, last_low}
use Rattle.rebut_model.proofs.Trees.{named_states, same_states}
use Rattle.rebut_model.proofs.Owned.{Owned, owned}
use Rattle.rebut_model.proofs.Snapshots.{Kept, MadeBy}
use Rattle.honest_model.specs.Honest.{IsFaultFrom, IsFaultByRoot}
use Rattle.journal_model.proofs.Fitting.{first_entry, entries_numbered}
use Rattle.journal_model.specs.Part.{frames_in}
use Rattle.journal_model.specs.Fits.{FitsJournal}
use Rattle.journal_model.specs.Journal.{JournalData, parts, entries}
use Rattle.rebut_model.specs.Bound.{is_bound}

-- ---- all authenticators are bound

not_false : (b : Bool) → not b ≡ false → b ≡ true
not_false true e = refl
not_false false e = absurd cc

none_at : {A : Type 0} (p : A → Bool) (i : ℕ) (x : A) (xs : List A) → first_at p i (x ∷ xs) ≡ None → (p x ≡ false) × (first_at p (i + 1) xs ≡ None)
none_at p i x xs e = go (p x) e
  where
    go : (b : Bool) → cond b (Some i) (first_at p (i + 1) xs) ≡ None → (b ≡ false) × (first_at p (i + 1) xs ≡ None)
    go true q = absurd cc
    go false q = (refl, q)

-- ---- what is compared: named, and not all the same

pub record Owes (ts : List Texts) : Type 0 where
  pub named : Named ts
  pub apart : Same ts → ⊥

-- a journal's stretch beside the evidence's entries, up to a number that the journal has signed
pub record Beside (j : JournalData) (n : ℕ) (g : List ℕ) (e : FrameData) (es : List FrameData) : Type 0 where
  pub splits : Splits n j.header.first j.header.before (entries j) (from_number n j.header.before (entries j))
  pub walked : Walked (from_number n j.header.before (entries j)).before (from_number n j.header.before (entries j)).frames g (e ∷ es)

beside : (j : JournalData) (n : ℕ) (g : List ℕ) (e : FrameData) (es : List FrameData) (top : AuthData) → FitsJournal j → j.header.first ≤ n → length g ≡ 32 → numbered n (e ∷ es) ≡ true → last_number 0 (e ∷ es) ≡ top.seq → top_of g (e ∷ es) ≡ top.hash → is_bound j top ≡ true → Beside j n g e es
beside j n g e es top w le lg num last chain b =
    let sp = splits n j.header.first j.header.before (entries j) w.header.before le (entries_numbered j w) in
    let there = bound_on_chain j top w b in
    let low = last_low n e es num in
    let here = sp.hashes top.seq top.hash (omega (arith, low, last)) there in
    let one = along_last n top.seq _ top.hash _ e es sp.numbers num last here in
    record { splits = sp; walked = walked n _ _ g (e ∷ es) sp.before lg sp.numbers num (one ∙ ap (λ (x : List ℕ). Some x) (sym chain)) }

-- up to the last number the hashes of a front stay
hash_front : (q k : ℕ) (h g : List ℕ) (e : FrameData) (es rest : List FrameData) → numbered k ((e ∷ es) ++ rest) ≡ true → q ≤ last_number e.seq es → hash_in q h ((e ∷ es) ++ rest) ≡ Some g → hash_in q h (e ∷ es) ≡ Some g
hash_front q k h g e [] rest num le i =
    let p = and_true (nat_eq e.seq k) (numbered (k + 1) rest) num in
    go (nat_eq e.seq q) refl (eqb-true _ _ p.0) (λ t. from_first q (k + 1) (next_hash h e) g rest p.1 t) i
  where
    go : (b : Bool) → nat_eq e.seq q ≡ b → e.seq ≡ k → (hash_in q (next_hash h e) rest ≡ Some g → k + 1 ≤ q) → cond b (Some (next_hash h e)) (hash_in q (next_hash h e) rest) ≡ Some g → cond b (Some (next_hash h e)) None ≡ Some g
    go true s is low t = t
    go false s is low t = let l = low t in absurd (omega arith)
hash_front q k h g e (d ∷ es) rest num le i =
    let p = and_true (nat_eq e.seq k) (numbered (k + 1) ((d ∷ es) ++ rest)) num in
    go (nat_eq e.seq q) (λ t. hash_front q (k + 1) (next_hash h e) g d es rest p.1 le t) i
  where
    go : (b : Bool) → (hash_in q (next_hash h e) ((d ∷ es) ++ rest) ≡ Some g → hash_in q (next_hash h e) (d ∷ es) ≡ Some g) → cond b (Some (next_hash h e)) (hash_in q (next_hash h e) ((d ∷ es) ++ rest)) ≡ Some g → cond b (Some (next_hash h e)) (hash_in q (next_hash h e) (d ∷ es)) ≡ Some g
    go true f t = t
    go false f t = f t

some_is : {A : Type 0} (x y : A) → Some x ≡ Some y → x ≡ y
some_is x y e = cc

-- ---- one number has one hash

double_never : (j : JournalData) (a b : AuthData) (key : List ℕ) → FitsJournal j → is_bound j a ≡ true → is_bound j b ≡ true → DoubleHolds key a b → ⊥
double_never j a b key w p q h =
    let x = bound_on_chain j a w p in
    let y = bound_on_chain j b w q in
    let z : hash_in b.seq j.header.before (entries j) ≡ Some a.hash = subst (λ (n : ℕ). hash_in n j.header.before (entries j) ≡ Some a.hash) h.seq x in
    h.apart (some_is a.hash b.hash (sym z ∙ y))

-- ---- a fork

fork_owes : (j : JournalData) (key before : List ℕ) (start : ℕ) (top other : AuthData) (bytes : List ℕ) (fs : List FrameData) → FitsJournal j → j.header.first ≤ start → length before ≡ 32 → 1 ≤ top.seq → is_bound j top ≡ true → is_bound j other ≡ true
    → ForkHolds key start before bytes top other fs → Owes (numbered_texts j start before fs)
fork_owes j key before start top other bytes [] w le lb one p q h = let z = h.last in absurd (omega arith)
fork_owes j key before start top other bytes (e ∷ es) w le lb one p q h =
    let b = beside j start before e es top w le lb h.numbers h.last h.chain p in
    record {
      named = b.walked.named;
      apart = λ same.
          let i = b.walked.begins same in
          let x = b.splits.hashes other.seq other.hash h.from (bound_on_chain j other w q) in
          let y : hash_in other.seq before ((e ∷ es) ++ i.rest) ≡ Some other.hash =
          subst (λ (g : List ℕ). hash_in other.seq g ((e ∷ es) ++ i.rest) ≡ Some other.hash) i.before (subst (λ (l : List FrameData). hash_in other.seq (from_number start j.header.before (entries j)).before l ≡ Some other.hash) i.frames x) in
          let num : numbered start ((e ∷ es) ++ i.rest) ≡ true = subst (λ (l : List FrameData). numbered start l ≡ true) i.frames b.splits.numbers in
          let l = h.last in
          let to = h.to in
          h.apart (hash_front other.seq start before other.hash e es i.rest num (omega (arith, l, to)) y);
    }

-- ---- a replay

-- what a segment's reading tells
pub record Read (s : SegmentData) (h : HeadData) : Type 0 where
  pub before : length s.front.before ≡ 32
  pub opens : opens s.front.start s.front.before (entry_frames s) ≡ true

piece_length : (n : ℕ) (bytes : List ℕ) (p : List ℕ × List ℕ) → piece_at n bytes ≡ Some p → length p.0 ≡ n
piece_length n bytes p e =
    let g = short_some (ltb (length bytes) n) (take n bytes, drop n bytes) p e in
    ap (λ (q : List ℕ × List ℕ). length q.0) (sym g.1) ∙ length-take-le n bytes (ltb-false _ _ g.0)

front_before : (bytes : List ℕ) (p : SegmentFront × List ℕ) → segment_front_at bytes ≡ Some p → length p.0.before ≡ 32
unfolding segment_front_at
front_before bytes p e =
    let a = bind_some (exact_at (number_at w32) _ bytes) _ p e in
    let b = bind_some (exact_at byte_at 1 a.0.1) _ p a.2 in
    let c = bind_some (number_at w64 b.0.1) _ p b.2 in
    let d = bind_some (piece_at 32 c.0.1) _ p c.2 in
    let f = bind_some (sized_at (number_at w32) d.0.1) _ p d.2 in
    let is = some_is _ p f.2 in
    ap (λ (q : SegmentFront × List ℕ). length q.0.before) (sym is) ∙ piece_length 32 c.0.1 d.0 d.1

segment_facts : (bytes : List ℕ) (s : SegmentData) → segment_of bytes ≡ Some s → (length s.front.before ≡ 32) × (opens s.front.start s.front.before (frames_of s.frames) ≡ true)
unfolding segment_of are_entries
segment_facts bytes s e =
    let a = bind_some (segment_front_at bytes) _ s e in
    let b = bind_some (page_count a.0.0.head) _ s a.2 in
    let c = bind_some (piece_at (4096 * b.0.0) a.0.1) _ s b.2 in
    let k = kept_some _ _ s c.2 in
    let t = and_true _ _ k.0 in
    let o = and_true (opens a.0.0.start a.0.0.before (frames_of c.0.1)) _ t.1 in (
      ap (λ (x : SegmentData). length x.front.before) (sym k.1) ∙ front_before bytes a.0 a.1,
      subst (λ (x : SegmentData). opens x.front.start x.front.before (frames_of x.frames) ≡ true) k.1 o.0,
    )

read_facts : (bytes : List ℕ) (s : SegmentData) (h : HeadData) → whole_segment_of bytes ≡ Some (s, h) → Read s h
unfolding whole_segment_of
read_facts bytes s h e =
    let a = bind_some (segment_of bytes) _ (s, h) e in
    let b = bind_some (head_of a.0.front.head) _ (s, h) a.2 in
    let is = some_is (a.0, b.0) (s, h) b.2 in
    let f = segment_facts bytes a.0 a.1 in
    subst (λ (x : SegmentData × HeadData). Read x.0 x.1) is (record { before = f.0; opens = f.1 })

opens_numbered : (start : ℕ) (before : List ℕ) (fs : List FrameData) → opens start before fs ≡ true → numbered start fs ≡ true
opens_numbered start before [] e = refl
opens_numbered start before (f ∷ fs) e =
    let p = and_true (nat_eq f.seq start && begins start before f.kind) _ e in
    let q = and_true (nat_eq f.seq start) (begins start before f.kind) p.0 in
    let r = and_true (numbered (start + 1) fs && _) _ p.1 in
    let t = and_true (numbered (start + 1) fs) _ r.0 in
    rw (q.0, t.0) refl

commits_first : (s : State) (f : FrameData) (fs : List FrameData) → is_committed s (f ∷ fs) ≡ true → commits_to s (content_at f.kind f.content) ≡ true
unfolding is_committed
commits_first s f fs e = e

never_committed : {A : Type 0} (s : State) → is_committed s [] ≡ true → A
unfolding is_committed
never_committed s e = absurd (apart e)
  where
    apart : false ≡ true → ⊥
    apart q = cc

-- where no link text and no content differs, the journal's state at the evidence's first entry has the segment's root
pub own_entries : (P : State → Type 0) → Kept P → (s : State) (j : JournalData) (key bytes : List ℕ) (top : AuthData) (seg : SegmentData) (h : HeadData) (e : FrameData) (es : List FrameData) → P s → FitsJournal j → is_committed s (entries j) ≡ true → Replays timed s (entries_of (behind_first (entries j)))
    → ReplayHolds key bytes top seg h → numbered seg.front.start (e ∷ es) ≡ true → entry_frames seg ≡ e ∷ es → Beside j seg.front.start seg.front.before e es
    → Same (numbered_texts j seg.front.start seg.front.before (e ∷ es)) → (rest : List FrameData) × Owned P s seg.front.start (entries j) (snapshot seg h) (es ++ rest)
own_entries P kept s j key bytes top seg h e es first w c r holds num is x same =
    let n = seg.front.start in
    let t = snapshot seg h in
    let commits : commits_to t (content_at e.kind e.content) ≡ true = commits_first t e es (subst (λ (l : List FrameData). is_committed t l ≡ true) is holds.committed) in
    let seq : e.seq ≡ n = eqb-true _ _ (and_true (nat_eq e.seq n) (numbered (n + 1) es) num).0 in
    let i = x.walked.begins same in
    let split : entries j ≡ x.splits.earlier ++ e ∷ (es ++ i.rest) = x.splits.frames ∙ ap (λ (l : List FrameData). x.splits.earlier ++ l) i.frames in
    let o = owned P kept s n j.header.first x.splits.earlier e (es ++ i.rest) t first
    (subst (λ (l : List FrameData). numbered j.header.first l ≡ true) split (entries_numbered j w)) seq
    (subst (λ (l : List FrameData). is_committed s l ≡ true) split c)
    (subst (λ (l : List FrameData). Replays timed s (entries_of (behind_first l))) split r) commits in
    (i.rest, subst (λ (l : List FrameData). Owned P s n l t (es ++ i.rest)) (sym split) o)

abbrev Any : State → Type 0
Any s = Unit {0}

kept_any : Kept Any
kept_any = record { step = λ s t os e h. tt; take = λ s t i e h. tt }

pub segment_beside : (j : JournalData) (key bytes : List ℕ) (top : AuthData) (seg : SegmentData) (h : HeadData) (e : FrameData) (es : List FrameData) → FitsJournal j → j.header.first ≤ seg.front.start → is_bound j top ≡ true → ReplayHolds key bytes top seg h → Read seg h → entry_frames seg ≡ e ∷ es
    → (numbered seg.front.start (e ∷ es) ≡ true) × Beside j seg.front.start seg.front.before e es
segment_beside j key bytes top seg h e es w le b holds read is =
    let n = seg.front.start in
    let num : numbered n (e ∷ es) ≡ true = subst (λ (l : List FrameData). numbered n l ≡ true) is (opens_numbered n seg.front.before (entry_frames seg) read.opens) in
    let last : last_number 0 (e ∷ es) ≡ top.seq = ap (last_number 0) (sym is) ∙ holds.last in
    let chain : top_of seg.front.before (e ∷ es) ≡ top.hash = ap (top_of seg.front.before) (sym is) ∙ holds.chain in
    (num, beside j n seg.front.before e es top w le read.before num last chain b)

replay_owes : (s : State) (j : JournalData) (key bytes : List ℕ) (top : AuthData) (seg : SegmentData) (h : HeadData) (e : FrameData) (es : List FrameData) → FitsJournal j → is_committed s (entries j) ≡ true → Replays timed s (entries_of (behind_first (entries j)))
    → j.header.first ≤ seg.front.start → is_bound j top ≡ true → ReplayHolds key bytes top seg h → Read seg h → entry_frames seg ≡ e ∷ es
    → (first_of_all differ (numbered_texts j seg.front.start seg.front.before (e ∷ es)) ≡ None → OfHead (state_at s seg.front.start (entries j)) × OfHead (snapshot seg h))
    → Owes (numbered_texts j seg.front.start seg.front.before (e ∷ es) ++ state_texts (state_at s seg.front.start (entries j)) (snapshot seg h))
replay_owes s j key bytes top seg h e es w c r le b holds read is heads =
    let n = seg.front.start in
    let t = snapshot seg h in
    let x = segment_beside j key bytes top seg h e es w le b holds read is in
    let links = numbered_texts j n seg.front.before (e ∷ es) in
    let own_all : Same links → (rest : List FrameData) × Owned Any s n (entries j) t (es ++ rest) = λ same. own_entries Any kept_any s j key bytes top seg h e es tt w c r holds x.0 is x.1 same in
    let two : Same links → OfHead (state_at s n (entries j)) × OfHead t = λ same. heads (same_none links same) in
    record {
      named = named_both links _ x.1.walked.named (λ same. named_states _ t (two same).0 (two same).1 (own_all same).1.root);
      apart = λ same.
          let p = same_both links _ same in
          let o = own_all p.0 in
          let state : state_at s n (entries j) ≡ t = same_states _ t (two p.0).0 (two p.0).1 p.1 in
          let whole : Replays timed t (entries_of es ++ entries_of o.0) =
          subst (λ (l : List _). Replays timed t l) (map-append entry_of_frame es o.0) (subst (λ (q : State). Replays timed q (entries_of (es ++ o.0))) state o.1.replays) in
          holds.fault (subst (λ (l : List FrameData). Replays timed t (entries_of (behind_first l))) (sym is) (front_replays timed is_timed t (entries_of es) (entries_of o.0) whole));
    }

-- ---- the whole

pub journal_replays : (s : State) (j : JournalData) → FitsJournal j → IsFaultFrom j.header.first s (entries j) None → (is_committed s (entries j) ≡ true) × Replays timed s (entries_of (behind_first (entries j)))
unfolding entries
journal_replays s j w f =
    let o = first_entry j w in
    let same : frames_in (parts j) ≡ o.0 ∷ frames_in o.1 = ap frames_in o.2 in
    subst (λ (fs : List FrameData). (is_committed s fs ≡ true) × Replays timed s (entries_of (behind_first fs))) (sym same)
    (by (is_committed s (o.0 ∷ frames_in o.1)) o.0 (frames_in o.1) refl (subst (λ (fs : List FrameData). IsFaultFrom j.header.first s fs None) same f))
  where
    by : (b : Bool) (g : FrameData) (fs : List FrameData) → is_committed s (g ∷ fs) ≡ b → IsFaultByRoot b j.header.first s (g ∷ fs) None → (is_committed s (g ∷ fs) ≡ true) × Replays timed s (entries_of fs)
    by true g fs q r = (q, r)
    by false g fs q r = absurd cc

low_is : (j : JournalData) (e : EvidData) → covers j e ≡ true → j.header.first ≤ low_number e
unfolding covers
low_is j e c = leb-true _ _ (and_true (nat_le j.header.first (low_number e)) _ c).0

segment_owes : (s : State) (j : JournalData) (key bytes : List ℕ) (top : AuthData) (seg : SegmentData) (h : HeadData) (fs : List FrameData) → Given s j (replay key bytes top) → OfHeads s j (replay key bytes top) → is_bound j top ≡ true → ReplayHolds key bytes top seg h → entry_frames seg ≡ fs
    → Owes (numbered_texts j seg.front.start seg.front.before fs ++ state_texts (state_at s seg.front.start (entries j)) (snapshot seg h))
segment_owes s j key bytes top seg h [] g heads b holds is = never_committed (snapshot seg h) (subst (λ (l : List FrameData). is_committed (snapshot seg h) l ≡ true) is holds.committed)
segment_owes s j key bytes top seg h (e ∷ es) g heads b holds is =
    let r = journal_replays s j g.journal g.replays in
    let low : j.header.first ≤ seg.front.start = subst (λ (o : Option (SegmentData × HeadData)). j.header.first ≤ start_of o) holds.segment (low_is j (replay key bytes top) g.covered) in
    replay_owes s j key bytes top seg h e es g.journal r.0 r.1 low b holds (read_facts bytes seg h holds.segment) is
    (λ n. heads (seg, h) holds.segment (subst (λ (l : List FrameData). first_of_all differ (numbered_texts j seg.front.start seg.front.before l) ≡ None) (sym is) n))

fork_given : (s : State) (j : JournalData) (key before bytes : List ℕ) (start : ℕ) (top other : AuthData) (fs : List FrameData) → Given s j (fork key start before bytes top other) → is_bound j top ≡ true → is_bound j other ≡ true → ForkHolds key start before bytes top other fs → Owes (numbered_texts j start before (frames_of bytes))
fork_given s j key before bytes start top other fs g p q h =
    let k = kept_some (is_nil (behind_of frame_at bytes)) (frames_of bytes) fs h.frames in
    let body = g.fits.body in
    subst (λ (l : List FrameData). Owes (numbered_texts j start before l)) (sym k.1)
    (fork_owes j key before start top other bytes fs g.journal (low_is j (fork key start before bytes top other) g.covered) body.1 body.3.seq.first p q h)

pub owes : (s : State) (j : JournalData) (e : EvidData) → Given s j e → OfHeads s j e → first_at (λ a. not (is_bound j a)) 0 (auths_of e) ≡ None → Owes (compared s j e)
unfolding compared
owes s j (double key a b) g w n =
    let p = none_at (λ a. not (is_bound j a)) 0 a (b ∷ []) n in
    let q = none_at (λ a. not (is_bound j a)) 1 b [] p.1 in
    absurd (double_never j a b key g.journal (not_false _ p.0) (not_false _ q.0) g.holds)
owes s j (fork key start before bytes top other) g w n =
    let p = none_at (λ a. not (is_bound j a)) 0 top (other ∷ []) n in
    let q = none_at (λ a. not (is_bound j a)) 1 other [] p.1 in
    fork_given s j key before bytes start top other g.holds.0 g (not_false _ p.0) (not_false _ q.0) g.holds.1
owes s j (replay key bytes top) g w n =
    let p = none_at (λ a. not (is_bound j a)) 0 top [] n in
    let seg = g.holds.0 in
    let h = g.holds.1 in
    subst (λ (o : Option (SegmentData × HeadData)). Owes (segment_texts s j o)) (sym g.holds.2.segment) (segment_owes s j key bytes top seg h (entry_frames seg) g w (not_false _ p.0) g.holds.2 refl)

-- where all is bound, the first texts that differ are the answer
pub record Collided (s : State) (j : JournalData) (e : EvidData) : Type 0 where
  pub pair : Texts
  pub differs : first_of_all differ (compared s j e) ≡ Some pair
  pub answer : rebuts s j e ≡ Some (collision pair.ours pair.theirs)

pub collided : (s : State) (j : JournalData) (e : EvidData) → Given s j e → OfHeads s j e → first_at (λ a. not (is_bound j a)) 0 (auths_of e) ≡ None → Collided s j e
unfolding rebuts
collided s j e g w n =
    let o = owes s j e g w n in
    let m = met (compared s j e) o.named o.apart in
    record { pair = m.pair; differs = m.differs; answer = rw (n, m.collides) refl }

-- an authenticator that isn't bound is the answer
pub forged_is : (s : State) (j : JournalData) (e : EvidData) (k : ℕ) → first_at (λ a. not (is_bound j a)) 0 (auths_of e) ≡ Some k → rebuts s j e ≡ Some (forged k)
unfolding rebuts
forged_is s j e k n = rw n refl

pub always : (s : State) (j : JournalData) (e : EvidData) → Given s j e → OfHeads s j e → IsSome (rebuts s j e)
always s j e g w = go (first_at (λ a. not (is_bound j a)) 0 (auths_of e)) refl
  where
    some : {A : Type 0} (o : Option A) (x : A) → o ≡ Some x → IsSome o
    some o x q = subst IsSome (sym q) refl

    go : (o : Option ℕ) → first_at (λ a. not (is_bound j a)) 0 (auths_of e) ≡ o → IsSome (rebuts s j e)
    go (Some k) n = some _ _ (forged_is s j e k n)
    go None n = some _ _ (collided s j e g w n).answer

-- ---- what was never bound

first_fails : (p : AuthData → Bool) (i : ℕ) (xs : List AuthData) (k : ℕ) → first_at p i xs ≡ Some k → (n : ℕ) × (a : AuthData) × (k ≡ i + n) × (slice_get xs n ≡ Some a) × (p a ≡ true)
first_fails p i [] k e = absurd cc
first_fails p i (x ∷ xs) k e = go (p x) refl (λ q. first_fails p (i + 1) xs k q) e
  where
    go : (b : Bool) → p x ≡ b → (first_at p (i + 1) xs ≡ Some k → (n : ℕ) × (a : AuthData) × (k ≡ i + 1 + n) × (slice_get xs n ≡ Some a) × (p a ≡ true)) → cond b (Some i) (first_at p (i + 1) xs) ≡ Some k → (n : ℕ) × (a : AuthData) × (k ≡ i + n) × (slice_get (x ∷ xs) n ≡ Some a) × (p a ≡ true)
    go true is ih q = let g : i ≡ k = cc in (0, x, omega (arith, g), refl, is)
    go false is ih q = let r = ih q in let g = r.2 in (suc r.0, r.1, omega (arith, g), r.3, r.4)

not_true : (b : Bool) → not b ≡ true → b ≡ false
not_true true e = absurd cc
not_true false e = refl

pub never_bound : (s : State) (j : JournalData) (e : EvidData) (k : ℕ) → rebuts s j e ≡ Some (forged k) → (a : AuthData) × (slice_get (auths_of e) k ≡ Some a) × (is_bound j a ≡ false)
unfolding rebuts
never_bound s j e k i = go (first_at (λ a. not (is_bound j a)) 0 (auths_of e)) refl (first_of_all collide (compared s j e)) i
  where
    go : (f : Option ℕ) → first_at (λ a. not (is_bound j a)) 0 (auths_of e) ≡ f → (o : Option Texts) → or_else (option_map forged f) (option_map (λ t. collision t.ours t.theirs) o) ≡ Some (forged k) → (a : AuthData) × (slice_get (auths_of e) k ≡ Some a) × (is_bound j a ≡ false)
    go None n None q = absurd cc
    go None n (Some t) q = absurd cc
    go (Some m) n o q =
        let same : m ≡ k = cc in
        let r = first_fails (λ a. not (is_bound j a)) 0 (auths_of e) m n in
        let at = r.2 in
        let here : r.0 ≡ k = omega (arith, at, same) in
        (r.1, subst (λ (x : ℕ). slice_get (auths_of e) x ≡ Some r.1) here r.3, not_true _ r.4)

-- ---- what a collision is

collide_means : (ts : List Texts) (t : Texts) → first_of_all collide ts ≡ Some t → collide t ≡ true
collide_means [] t e = absurd cc
collide_means (x ∷ ts) t e = go (collide x) refl (collide_means ts t) e
  where
    go : (b : Bool) → collide x ≡ b → (first_of_all collide ts ≡ Some t → collide t ≡ true) → cond b (Some x) (first_of_all collide ts) ≡ Some t → collide t ≡ true
    go true i f q = subst (λ (y : Texts). collide y ≡ true) (some_is x t q) i
    go false i f q = f q

apart_texts : (x y : List ℕ) → not (bytes_eq x y) ≡ true → x ≢ y
apart_texts x y n e = go (bytes_eq x y) (bytes_same x y e) n
  where
    go : (b : Bool) → b ≡ true → not b ≡ true → ⊥
    go true e q = cc
    go false e q = cc

pub collides : (s : State) (j : JournalData) (e : EvidData) (a : Answer) → rebuts s j e ≡ Some a → Collides a
unfolding rebuts
collides s j e (forged k) i = tt
collides s j e (collision a b) i = go (first_at (λ a. not (is_bound j a)) 0 (auths_of e)) (first_of_all collide (compared s j e)) (collide_means (compared s j e)) i
  where
    means : (t : Texts) → collide t ≡ true → t.ours ≡ a → t.theirs ≡ b → (a ≢ b) × (hash_of a ≡ hash_of b)
    means t c x y =
        let p = and_true (differ t) (bytes_eq (hash_of t.ours) (hash_of t.theirs)) c in
        let q : (t.ours ≢ t.theirs) × (hash_of t.ours ≡ hash_of t.theirs) = (apart_texts _ _ p.0, same_bytes _ _ p.1) in
        subst (λ (z : List ℕ). (a ≢ z) × (hash_of a ≡ hash_of z)) y (subst (λ (z : List ℕ). (z ≢ t.theirs) × (hash_of z ≡ hash_of t.theirs)) x q)

    go : (f : Option ℕ) (o : Option Texts) → ((t : Texts) → o ≡ Some t → collide t ≡ true) → or_else (option_map forged f) (option_map (λ t. collision t.ours t.theirs) o) ≡ Some (collision a b) → (a ≢ b) × (hash_of a ≡ hash_of b)
    go (Some k) o f q = absurd cc
    go None None f q = absurd cc
    go None (Some t) f q =
        let r : collision t.ours t.theirs ≡ collision a b = cc in
        let x : t.ours ≡ a = cc in
        let y : t.theirs ≡ b = cc in
        means t (f t refl) x y

-- ---- the journal's state at a segment's first entry

-- where all is bound and no link text and no content differs, it is the header's, or a step has led there; a fact that steps and
-- inputs keep holds before that step
pub record Led (P : State → Type 0) (s t : State) : Type 0 where
  pub own : (t ≡ s) ⊎ ((k : Stand State Made) × (os : List Made) × MadeBy P k os × (t ≡ k.state))

pub led : (P : State → Type 0) → Kept P → (s : State) (j : JournalData) (key bytes : List ℕ) (top : AuthData) (seg : SegmentData) (h : HeadData) → P s → Given s j (replay key bytes top) → first_at (λ a. not (is_bound j a)) 0 (auths_of (replay key bytes top)) ≡ None
    → whole_segment_of bytes ≡ Some (seg, h) → first_of_all differ (numbered_texts j seg.front.start seg.front.before (entry_frames seg)) ≡ None → Led P s (state_at s seg.front.start (entries j))
led P kept s j key bytes top seg h first g n w none =
    let x : (seg, h) ≡ (g.holds.0, g.holds.1) = some_is (seg, h) (g.holds.0, g.holds.1) (sym w ∙ g.holds.2.segment) in
    let holds : ReplayHolds key bytes top seg h = subst (λ (p : SegmentData × HeadData). ReplayHolds key bytes top p.0 p.1) (sym x) g.holds.2 in
    go (entry_frames seg) refl holds
  where
    go : (fs : List FrameData) → entry_frames seg ≡ fs → ReplayHolds key bytes top seg h → Led P s (state_at s seg.front.start (entries j))
    go [] is holds = never_committed (snapshot seg h) (subst (λ (l : List FrameData). is_committed (snapshot seg h) l ≡ true) is holds.committed)
    go (e ∷ es) is holds =
        let r = journal_replays s j g.journal g.replays in
        let low : j.header.first ≤ seg.front.start = subst (λ (o : Option (SegmentData × HeadData)). j.header.first ≤ start_of o) w (low_is j (replay key bytes top) g.covered) in
        let b = not_false _ (none_at (λ a. not (is_bound j a)) 0 top [] n).0 in
        let x = segment_beside j key bytes top seg h e es g.journal low b holds (read_facts bytes seg h w) is in
        let same = none_same (numbered_texts j seg.front.start seg.front.before (e ∷ es)) (subst (λ (l : List FrameData). first_of_all differ (numbered_texts j seg.front.start seg.front.before l) ≡ None) is none) in
        let o = own_entries P kept s j key bytes top seg h e es first g.journal r.0 r.1 holds x.0 is x.1 same in
        record { own = o.1.own }
