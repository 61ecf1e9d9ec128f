-- The machine of a journal's header.
use Rattle.std.proofs.Common.{◌≡◌, ℕ, Bool, is_some, List, [], ◌++◌, Option, Some, None, IfSome, option_map, refl, sym, ap, ◌∙◌}
use Rattle.avm_num.specs.Room.{Buffer, with_bytes}
use Rattle.avm_model.specs.Head.{HeadData}
use Rattle.avm_model.specs.HeadReading.{head_of}
use Rattle.avm_model.specs.HeadState.{state_of}
use Rattle.avm_model.specs.Machine.{State}
use Rattle.honest_model.specs.Honest.{header_state}
use Rattle.journal_model.specs.Fits.{FitsJournal}
use Rattle.journal_model.specs.Header.{HeaderData, pages_in}
use Rattle.journal_model.specs.Journal.{JournalData, count_or_zero}
use Rattle.journal_model.specs.Standing.{Bounds}
use Rattle.jrnl_store.specs.Kept.{Kept}
use Rattle.jrnl_store.specs.Own.{IsAt, AreKept}
use Rattle.rebut_pass.specs.Reads.{OfJournal, OfState}
use Rattle.rebut_pass.proofs.OnDisk.{of_as, of_fits}
use Rattle.rebuttal.specs.HeadPages.{IsHeadOf}

pub head_told : (told : Option (List ℕ)) (k : Kept) (old new : Buffer) → old.bytes ≡ [] → IfSome told (λ was. (j : JournalData) → IsAt k was j → new ≡ with_bytes old j.header.head) → OfJournal told k (λ j. new.bytes ≡ j.header.head)
head_told None k old new none h = tt
head_told (Some was) k old new none h = λ j o b. ap (λ (r : Buffer). r.bytes) (h j o) ∙ ap (λ (l : List ℕ). l ++ j.header.head) none

state_some : (h : HeaderData) (b : Bool) (bytes : List ℕ) → b ≡ is_some (head_of bytes) → bytes ≡ h.head → b ≡ is_some (header_state h)
state_some h b bytes is same = is ∙ ap (λ (l : List ℕ). is_some (head_of l)) same ∙ go (head_of h.head)
  where
    go : (o : Option HeadData) → is_some o ≡ is_some (option_map (λ d. state_of d h.pages) o)
    go None = refl
    go (Some d) = refl

pub some_state : (j : JournalData) (b : Bool) (bytes : List ℕ) → b ≡ is_some (head_of bytes) → bytes ≡ j.header.head → b ≡ is_some (header_state j.header)
some_state j b bytes is same = state_some j.header b bytes is same

pub pages_told : (told : Option (List ℕ)) (k : Kept) (head : List ℕ) (ram : List ℕ) (s : State) → IfSome told (λ was. (j : JournalData) → IsAt k was j → ram ≡ j.header.pages) → ((h : HeadData) → head_of head ≡ Some h → s ≡ state_of h ram)
    → OfJournal told k (λ j. (h : HeadData) → head_of head ≡ Some h → s ≡ state_of h j.header.pages)
pages_told None k head ram s h is = tt
pages_told (Some was) k head ram s h is = λ j o b d e. is d e ∙ ap (state_of d) (h j o)

-- the state that was made is the header's
pub made_state : (j : JournalData) (s t : State) (bytes : List ℕ) (h : HeadData) → bytes ≡ j.header.head → head_of bytes ≡ Some h → ((d : HeadData) → head_of bytes ≡ Some d → s ≡ state_of d j.header.pages) → header_state j.header ≡ Some t → s ≡ t
made_state j s t bytes h same is made told =
    let there : header_state j.header ≡ Some (state_of h j.header.pages) = ap (λ (o : Option HeadData). option_map (λ d. state_of d j.header.pages) o) (ap head_of (sym same) ∙ is) in
    made h is ∙ some_is (state_of h j.header.pages) t (sym there ∙ told)
  where
    some_is : (x y : State) → Some x ≡ Some y → x ≡ y
    some_is x y e = cc

-- a journal's header says how many pages it has; where its head isn't one there is no state
pub no_state : {A : Type 0} (k : Kept) (j : JournalData) (bytes : List ℕ) (s : State) → FitsJournal j → AreKept k j → bytes ≡ j.header.head → (pages_in bytes ≡ Some k.bounds.pages → head_of bytes ≡ None) → header_state j.header ≡ Some s → A
no_state k j bytes s fits kept same none told =
    let p = fits.header.pages in
    let count : k.bounds.pages ≡ p.0 = ap (λ (b : Bounds). b.pages) kept.bounds ∙ ap count_or_zero p.1 in
    let says : pages_in bytes ≡ Some k.bounds.pages = ap pages_in same ∙ p.1 ∙ ap (λ (n : ℕ). Some n) (sym count) in
    let never : head_of j.header.head ≡ None = ap head_of (sym same) ∙ none says in
    let no : header_state j.header ≡ None = ap (λ (o : Option HeadData). option_map (λ d. state_of d j.header.pages) o) never in
    absurd (let e : None ≡ Some s = sym no ∙ told in cc)

-- ---- on the disk

same_head : (room text : List ℕ) (n m : ℕ) → text ≡ room → n ≡ m → (pages_in text ≡ Some n → head_of text ≡ None) → pages_in room ≡ Some m → head_of room ≡ None
same_head room text n m is same none e = ap head_of (sym is) ∙ none (ap pages_in is ∙ e ∙ ap (λ (k : ℕ). Some k) (sym same))

-- the header's head is none
pub head_missing : (told : Option (List ℕ)) (k at : Kept) (room text : List ℕ) (n : ℕ) → at ≡ k → text ≡ room → n ≡ at.bounds.pages → OfJournal told k (λ j. room ≡ j.header.head) → (pages_in text ≡ Some n → head_of text ≡ None) → OfState told k (λ s j. ⊥)
head_missing told k at room text n stays is count h none = go told h (of_fits told k)
  where
    never : pages_in room ≡ Some k.bounds.pages → head_of room ≡ None
    never = same_head room text n k.bounds.pages is (count ∙ ap (λ (x : Kept). x.bounds.pages) stays) none

    go : (t : Option (List ℕ)) → OfJournal t k (λ j. room ≡ j.header.head) → OfJournal t k FitsJournal → OfState t k (λ s j. ⊥)
    go None f fits = tt
    go (Some was) f fits = λ j at b s e. no_state k j room s (fits j at b) at.keeps (f j at b) never e

-- the machine that was made is the header's
pub head_made : (told mid : Option (List ℕ)) (k at : Kept) (room text again : List ℕ) (n : ℕ) (t : State) → mid ≡ told → at ≡ k → text ≡ room → again ≡ room → IsHeadOf text n → OfJournal told k (λ j. room ≡ j.header.head)
    → OfJournal mid at (λ j. (h : HeadData) → head_of again ≡ Some h → t ≡ state_of h j.header.pages) → OfState told k (λ s j. t ≡ s)
head_made told mid k at room text again n t same stays is too w h made = go told h (of_as told mid k at (λ j. (d : HeadData) → head_of again ≡ Some d → t ≡ state_of d j.header.pages) same stays made)
  where
    read : head_of room ≡ Some w.head
    read = ap head_of (sym is) ∙ w.is

    go : (x : Option (List ℕ)) → OfJournal x k (λ j. room ≡ j.header.head) → OfJournal x k (λ j. (d : HeadData) → head_of again ≡ Some d → t ≡ state_of d j.header.pages) → OfState x k (λ s j. t ≡ s)
    go None f g = tt
    go (Some was) f g = λ j on b s e. made_state j t s room w.head (f j on b) read (λ d q. g j on b d (ap head_of too ∙ q)) e
