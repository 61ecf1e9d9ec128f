-- Whether a keep is good.
use Rattle.std.proofs.Common.{◌≡◌, ℕ, ◌*◌, ◌/◌, ◌≤◌, ◌==◌, ◌&&◌, Bool, true, false, nat_eq, not, is_some, IsTrue, List, [], ◌∷◌, ◌++◌, length, replicate, Option, Some, None, refl, sym, ap, subst, ◌∙◌, arith}
use Rattle.std.specs.Str.{bytes_eq}
use Rattle.std.proofs.lemmas.Bool.{eqb-true, eq-eqb}
use Rattle.std.proofs.lemmas.List.{length-replicate}
use Rattle.avm_num.specs.Bytes.{IsBytes}
use Rattle.avm_num.proofs.Numbers.{bind_some, kept_some}
use Rattle.avm_model.specs.Audit.{commits_to}
use Rattle.avm_model.specs.Bell.{version_of}
use Rattle.avm_model.specs.Content.{ContentData, boot, snap, conin, clock, recv, acked, out, send, halt}
use Rattle.avm_model.specs.Head.{HeadData, head_bytes}
use Rattle.avm_model.specs.HeadReading.{head_of}
use Rattle.avm_model.specs.HeadState.{data_of, state_of}
use Rattle.avm_model.specs.Machine.{State}
use Rattle.avm_model.specs.Memory.{is_page_count}
use Rattle.avm_model.specs.Pages.{page_root}
use Rattle.avm_model.specs.Root.{root, root_over}
use Rattle.avm_model.proofs.HeadBounds.{bounded, head_bounded, size_most}
use Rattle.avm_model.proofs.HeadLength.{head_length}
use Rattle.avm_model.proofs.HeadReads.{head_read}
use Rattle.avm_model.proofs.SegmentPages.{head_pages}
use Rattle.honest_model.specs.Keeps.{IsGood, content_of, keep_state, kept_ram, last_frame, same_front, same_peers, within_steps}
use Rattle.journal_model.specs.Header.{HeaderData, pages_in}
use Rattle.journal_model.specs.Part.{KeepData, Part, frames_in, keeps_in}
use Rattle.snap_state.proofs.Bells.{nine_at_most}
use Rattle.snap_state.proofs.States.{data_again}
use Rattle.keep_judge.specs.Good.{is_good_keep, is_told, pages_fit, told_in}

-- ---- heads

some_is : {A : Type 0} (x y : A) → Some x ≡ Some y → x ≡ y
some_is x y e = cc

pub is_some_of : {A : Type 0} (o : Option A) → true ≡ is_some o → (x : A) × (o ≡ Some x)
is_some_of None e = absurd cc
is_some_of (Some x) e = (x, refl)

pub is_none_of : {A : Type 0} (o : Option A) → false ≡ is_some o → o ≡ None
is_none_of None e = refl
is_none_of (Some x) e = absurd cc

pub fits_head : (n : ℕ) (o : Option HeadData) → pages_fit n o ≡ true → (h : HeadData) × (o ≡ Some h) × (h.front.pages ≡ n)
fits_head n None e = absurd cc
fits_head n (Some h) e = (h, refl, eqb-true h.front.pages n e)

-- the page count that is read in a head is the head's
pub head_count : (head : List ℕ) (h : HeadData) → head_of head ≡ Some h → pages_in head ≡ Some h.front.pages
unfolding pages_in
head_count head h e =
    let c = head_pages head h e in
    let good : is_page_count h.front.pages ≡ true = (bounded h (head_bounded head h e)).pages in
    rw (c.1, good) refl

pub head_short : (head : List ℕ) (h : HeadData) → IsBytes head → head_of head ≡ Some h → length head ≤ 11783
head_short head h bytes e =
    let r = head_read head h bytes e in
    let len = ap length r.0 ∙ head_length h r.1 in
    omega (arith, len, size_most h r.2, nine_at_most h.bell)

-- whether bytes that are a head are one of so many pages
pub fits_same : (head : List ℕ) (n m : ℕ) (b : Bool) → true ≡ is_some (head_of head) → Some m ≡ pages_in head → b ≡ nat_eq m n → b ≡ pages_fit n (head_of head)
fits_same head n m b is says e = go (head_of head) refl is
  where
    go : (o : Option HeadData) → head_of head ≡ o → true ≡ is_some o → b ≡ pages_fit n o
    go None i q = absurd cc
    go (Some h) i q = e ∙ ap (λ (k : ℕ). nat_eq k n) (some_is m h.front.pages (says ∙ head_count head h i))

-- a head has a page count
pub fits_none : {A : Type 0} (head : List ℕ) → true ≡ is_some (head_of head) → None ≡ pages_in head → A
fits_none head is says = go (head_of head) refl is
  where
    go : {A : Type 0} (o : Option HeadData) → head_of head ≡ o → true ≡ is_some o → A
    go None i q = absurd cc
    go (Some h) i q = absurd (let e : None ≡ Some h.front.pages = says ∙ head_count head h i in cc)

pub fits_short : (head : List ℕ) → IsBytes head → true ≡ is_some (head_of head) → length head ≤ 11783
fits_short head bytes is = let h = is_some_of (head_of head) is in head_short head h.0 bytes h.1

pub page_power : (n : ℕ) (o : Option HeadData) (head : List ℕ) → head_of head ≡ o → pages_fit n o ≡ true → IsTrue (is_page_count n)
page_power n o head e f =
    let h = fits_head n o f in
    let good : is_page_count h.0.front.pages ≡ true = (bounded h.0 (head_bounded head h.0 (e ∙ h.1))).pages in
    let here : is_page_count n ≡ true = subst (λ (m : ℕ). is_page_count m ≡ true) h.2 good in
    here

-- a head over zeros
pub bare_data : (n : ℕ) (h : HeadData) → h.front.pages ≡ n → data_of (state_of h (replicate (4096 * n) 0)) ≡ h
bare_data n h e = data_again h (replicate (4096 * n) 0) (let l = length-replicate {A = ℕ} (4096 * n) 0 in omega (arith, l, e))

-- ---- the root

pub root_is : (head ram pages : List ℕ) (h : HeadData) → IsBytes head → head_of head ≡ Some h → length ram / 4096 ≡ h.front.pages → pages ≡ page_root ram → root (state_of h ram) ≡ root_over head pages
unfolding root
root_is head ram pages h bytes e size p =
    ap (λ (d : HeadData). root_over (head_bytes d) (page_root ram)) (data_again h ram size)
    ∙ ap (λ (b : List ℕ). root_over b (page_root ram)) (sym (head_read head h bytes e).0)
    ∙ ap (λ (r : List ℕ). root_over head r) (sym p)

-- ---- the test

front_pages : (a b : HeadData) → same_front a b ≡ true → a.front.pages ≡ b.front.pages
front_pages a b e = go (version_of a.bell == version_of b.bell) (a.front.snap == b.front.snap) (nat_eq a.front.pages b.front.pages) (a.front.own == b.front.own) (same_peers a.front.peers b.front.peers) refl e
  where
    go : (v s p o r : Bool) → nat_eq a.front.pages b.front.pages ≡ p → (v && s && p && o && r) ≡ true → a.front.pages ≡ b.front.pages
    go true true true o r q h = eqb-true a.front.pages b.front.pages q
    go true true false o r q h = absurd cc
    go true false p o r q h = absurd cc
    go false s p o r q h = absurd cc

pub other_pages : (a b : HeadData) → (a.front.pages ≡ b.front.pages → ⊥) → same_front a b ≡ false
other_pages a b never = go (same_front a b) refl
  where
    go : (t : Bool) → same_front a b ≡ t → same_front a b ≡ false
    go true e = absurd (never (front_pages a b e))
    go false e = e

-- a head of another page count, or none
pub not_fitting : (a : HeadData) (first seq n : ℕ) (told : Option (ℕ × List ℕ)) (ram : List ℕ) (o : Option HeadData) → a.front.pages ≡ n → pages_fit n o ≡ false → false ≡ is_good_keep a first seq told ram o
not_fitting a first seq n told ram None same e = refl
not_fitting a first seq n told ram (Some b) same e =
    let no : same_front a b ≡ false = other_pages a b (λ q. let t : nat_eq b.front.pages n ≡ true = eq-eqb b.front.pages n (sym q ∙ same) in absurd cc) in
    rw no refl

and_false : (x y : Bool) → false ≡ (x && y && false)
and_false true true = refl
and_false true false = refl
and_false false y = refl

-- what is told is nothing, or another root
pub not_told : (a : HeadData) (first seq : ℕ) (told : Option (ℕ × List ℕ)) (ram : List ℕ) (o : Option HeadData) → ((b : HeadData) → o ≡ Some b → is_told told b.hart.count (root (state_of b ram)) ≡ false) → false ≡ is_good_keep a first seq told ram o
not_told a first seq told ram None h = refl
not_told a first seq told ram (Some b) h = rw (h b refl) (and_false (same_front a b) (within_steps first a seq b))

pub other_root : (t : ℕ × List ℕ) (count : ℕ) (r : List ℕ) → bytes_eq t.1 r ≡ false → is_told (Some t) count r ≡ false
other_root t count r e = rw e (go (t.0 == count))
  where
    go : (b : Bool) → (b && false) ≡ false
    go true = refl
    go false = refl

turned : (f w c r : Bool) → r ≡ true → (c && w && f) ≡ (f && w && (c && r))
turned true true true r e = sym e
turned true true false r e = refl
turned true false true r e = refl
turned true false false r e = refl
turned false true true r e = refl
turned false true false r e = refl
turned false false true r e = refl
turned false false false r e = refl

-- the root is told: count, steps and front are left
pub root_told : (a b : HeadData) (first seq : ℕ) (t : ℕ × List ℕ) (ram : List ℕ) (o : Option HeadData) (c w f : Bool) → o ≡ Some b → bytes_eq t.1 (root (state_of b ram)) ≡ true → c ≡ (t.0 == b.hart.count) → w ≡ within_steps first a seq b → f ≡ same_front a b → (c && w && f) ≡ is_good_keep a first seq (Some t) ram o
root_told a b first seq t ram o c w f e r ec ew ef = rw (e, ec, ew, ef) (turned (same_front a b) (within_steps first a seq b) (t.0 == b.hart.count) (bytes_eq t.1 (root (state_of b ram))) r)

size_of : (len n : ℕ) → len ≡ 4096 * n → len / 4096 ≡ n
size_of len n e = omega (arith, e)

-- the root of the keep's state isn't the one that is told
pub wrong_root : (a : HeadData) (first seq n : ℕ) (told : Option (ℕ × List ℕ)) (t : ℕ × List ℕ) (ram head pages : List ℕ) → told ≡ Some t → IsBytes head → pages ≡ page_root ram → length ram ≡ 4096 * n → pages_fit n (head_of head) ≡ true → bytes_eq t.1 (root_over head pages) ≡ false → false ≡ is_good_keep a first seq told ram (head_of head)
wrong_root a first seq n told t ram head pages et bytes p size fits differs =
    let f = fits_head n (head_of head) fits in
    not_told a first seq told ram (head_of head) (λ b e.
    let same : f.0 ≡ b = some_is f.0 b (sym f.1 ∙ e) in
    let root_of : root (state_of b ram) ≡ root_over head pages = root_is head ram pages b bytes e (size_of (length ram) n size ∙ sym f.2 ∙ ap (λ (d : HeadData). d.front.pages) same) p in
    ap (λ (o : Option (ℕ × List ℕ)). is_told o b.hart.count (root (state_of b ram))) et ∙ other_root t b.hart.count (root (state_of b ram)) (ap (bytes_eq t.1) root_of ∙ differs))

-- it is
pub right_root : (a b : HeadData) (first seq n : ℕ) (told : Option (ℕ × List ℕ)) (t : ℕ × List ℕ) (ram head pages : List ℕ) → told ≡ Some t → IsBytes head → pages ≡ page_root ram → length ram ≡ 4096 * n → pages_fit n (head_of head) ≡ true → head_of head ≡ Some b → bytes_eq t.1 (root_over head pages) ≡ true
    → (t.0 == b.hart.count && within_steps first a seq b && same_front a b) ≡ is_good_keep a first seq told ram (head_of head)
right_root a b first seq n told t ram head pages et bytes p size fits e alike =
    let f = fits_head n (head_of head) fits in
    let same : f.0 ≡ b = some_is f.0 b (sym f.1 ∙ e) in
    let root_of : root (state_of b ram) ≡ root_over head pages = root_is head ram pages b bytes e (size_of (length ram) n size ∙ sym f.2 ∙ ap (λ (d : HeadData). d.front.pages) same) p in
    root_told a b first seq t ram (head_of head) (t.0 == b.hart.count) (within_steps first a seq b) (same_front a b) e (ap (bytes_eq t.1) root_of ∙ alike) refl refl refl
    ∙ ap (λ (o : Option (ℕ × List ℕ)). is_good_keep a first seq o ram (head_of head)) (sym et)

-- ---- and the definition

commits_told : (s : State) (c : Option ContentData) → commits_to s c ≡ is_told (told_in c) s.count (root s)
commits_told s None = refl
commits_told s (Some (boot count r)) = refl
commits_told s (Some (snap count r)) = refl
commits_told s (Some (conin count bytes)) = refl
commits_told s (Some (clock count value)) = refl
commits_told s (Some (recv count packet)) = refl
commits_told s (Some (acked count packet)) = refl
commits_told s (Some (out count bytes)) = refl
commits_told s (Some (send count peer number payload)) = refl
commits_told s (Some (halt count cause value)) = refl

-- the keep has this state, with the root and the count that are told
pub record IsHere (h : HeaderData) (ps : List Part) (k : KeepData) : Type 0 where
  pub told : HeadData
  pub is : head_of k.head ≡ Some told
  pub good : IsGood h ps k (state_of told (kept_ram h.pages (keeps_in ps ++ k ∷ [])))

pub good_here : (h : HeaderData) (ps : List Part) (k : KeepData) (a : HeadData) (told : Option (ℕ × List ℕ)) (ram : List ℕ) → head_of h.head ≡ Some a → told ≡ told_in (content_of (last_frame (frames_in ps))) → ram ≡ kept_ram h.pages (keeps_in ps ++ k ∷ []) → is_good_keep a h.first k.seq told ram (head_of k.head) ≡ true → IsHere h ps k
good_here h ps k a told ram ea et er e = go (head_of k.head) refl e
  where
    front : (b : HeadData) → (same_front a b && within_steps h.first a k.seq b && is_told told b.hart.count (root (state_of b ram))) ≡ true → ((same_front a b && within_steps h.first a k.seq b) ≡ true) × (is_told told b.hart.count (root (state_of b ram)) ≡ true)
    front b q = three (same_front a b) (within_steps h.first a k.seq b) (is_told told b.hart.count (root (state_of b ram))) q
      where
        three : (x y z : Bool) → (x && y && z) ≡ true → ((x && y) ≡ true) × (z ≡ true)
        three true true true e = (refl, refl)
        three true true false e = absurd cc
        three true false z e = absurd cc
        three false y z e = absurd cc

    go : (o : Option HeadData) → head_of k.head ≡ o → is_good_keep a h.first k.seq told ram o ≡ true → IsHere h ps k
    go None i q = absurd cc
    go (Some b) i q =
        let p = front b q in
        let state : keep_state h (keeps_in ps) k ≡ Some (state_of b (kept_ram h.pages (keeps_in ps ++ k ∷ []))) = rw (ea, i, p.0) refl in
        let one : is_told (told_in (content_of (last_frame (frames_in ps)))) b.hart.count (root (state_of b (kept_ram h.pages (keeps_in ps ++ k ∷ [])))) ≡ true =
        subst (λ (t : Option (ℕ × List ℕ)). is_told t b.hart.count (root (state_of b (kept_ram h.pages (keeps_in ps ++ k ∷ [])))) ≡ true) et (subst (λ (r : List ℕ). is_told told b.hart.count (root (state_of b r)) ≡ true) er p.1) in
        record { told = b; is = i; good = record { state = state; committed = commits_told (state_of b (kept_ram h.pages (keeps_in ps ++ k ∷ []))) (content_of (last_frame (frames_in ps))) ∙ one } }

pub good_never : (h : HeaderData) (ps : List Part) (k : KeepData) (a : HeadData) (told : Option (ℕ × List ℕ)) (ram : List ℕ) (t : State) → head_of h.head ≡ Some a → told ≡ told_in (content_of (last_frame (frames_in ps))) → ram ≡ kept_ram h.pages (keeps_in ps ++ k ∷ []) → is_good_keep a h.first k.seq told ram (head_of k.head) ≡ false → IsGood h ps k t → ⊥
good_never h ps k a told ram t ea et er e g =
    let x = bind_some (head_of h.head) _ t g.state in
    let y = bind_some (head_of k.head) _ t x.2 in
    let z = kept_some (same_front x.0 y.0 && within_steps h.first x.0 k.seq y.0) (state_of y.0 (kept_ram h.pages (keeps_in ps ++ k ∷ []))) t y.2 in
    let one : x.0 ≡ a = some_is x.0 a (sym x.1 ∙ ea) in
    let front : (same_front a y.0 && within_steps h.first a k.seq y.0) ≡ true = subst (λ (d : HeadData). (same_front d y.0 && within_steps h.first d k.seq y.0) ≡ true) one z.0 in
    let state : state_of y.0 ram ≡ t = ap (state_of y.0) er ∙ z.1 in
    let said : is_told told y.0.hart.count (root (state_of y.0 ram)) ≡ true =
    subst (λ (s : State). is_told told s.count (root s) ≡ true) (sym state) (subst (λ (o : Option (ℕ × List ℕ)). is_told o t.count (root t) ≡ true) (sym et) (sym (commits_told t (content_of (last_frame (frames_in ps)))) ∙ g.committed)) in
    let yes : is_good_keep a h.first k.seq told ram (head_of k.head) ≡ true = rw (y.1, front, said) refl in
    absurd cc

-- ---- digests that are compared

pub apart : (a b c : List ℕ) (r : Bool) → r ≡ not (bytes_eq a b) → r ≡ true → b ≡ c → bytes_eq a c ≡ false
apart a b c r e y same = subst (λ (l : List ℕ). bytes_eq a l ≡ false) same (go (bytes_eq a b) (sym e ∙ y))
  where
    go : (t : Bool) → not t ≡ true → t ≡ false
    go true h = absurd cc
    go false h = refl

pub alike : (a b c : List ℕ) (r : Bool) → r ≡ not (bytes_eq a b) → r ≡ false → b ≡ c → bytes_eq a c ≡ true
alike a b c r e n same = subst (λ (l : List ℕ). bytes_eq a l ≡ true) same (go (bytes_eq a b) (sym e ∙ n))
  where
    go : (t : Bool) → not t ≡ false → t ≡ true
    go true h = refl
    go false h = absurd cc
