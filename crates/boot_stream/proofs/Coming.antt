-- Pages and entries that come, beside the image's.
use Rattle.std.proofs.Common.{◌≡◌, ℕ, ◌*◌, Bool, true, false, List, [], ◌∷◌, ◌++◌, length, take, drop, Some, refl, sym, ap, ◌∙◌, arith, length-append}
use Rattle.std.specs.Str.{bytes_eq}
use Rattle.std.specs.Cmp.Lexicographic.{bytes_decides}
use Rattle.std.proofs.lemmas.List.{take-take, take-append-le, take_all}
use Rattle.std.proofs.Math.Seq.{take-add}
use Rattle.avm_model.specs.Basics.{or_else}
use Rattle.avm_model.specs.Frame.{FrameData}
use Rattle.boot_image.specs.Begins.{is_boot_first}
use Rattle.boot_stream.specs.Booting.{IsFrontOf, first_kind, is_boot}

-- a page more where the front was the RAM's
front_page : (ram pages page : List ℕ) → take (length pages) ram ≡ pages → take (length (pages ++ page)) ram ≡ pages ++ take (length page) (drop (length pages) ram)
front_page ram pages page is =
    ap (λ (n : ℕ). take n ram) (length-append pages page) ∙ take-add (length pages) (length page) ram ∙ ap (λ (l : List ℕ). l ++ take (length page) (drop (length pages) ram)) is

front_before : (ram pages page : List ℕ) → take (length (pages ++ page)) ram ≡ pages ++ page → take (length pages) ram ≡ pages
front_before ram pages page is =
    sym (take-take (length pages) (length (pages ++ page)) ram (omega (arith, length-append pages page)))
    ∙ ap (take (length pages)) is
    ∙ take-append-le (length pages) pages page (omega arith)
    ∙ take_all (length pages) pages (omega arith)

same_tail : (a b c : List ℕ) → a ++ b ≡ a ++ c → b ≡ c
same_tail [] b c e = e
same_tail (x ∷ a) b c e = same_tail a b c (ap (drop 1) e)

-- the front goes on exactly where the page is the RAM's there
pub page_same : (s : Bool) (ram pages page : List ℕ) → take (length page) (drop (length pages) ram) ≡ page → IsFrontOf s ram pages → IsFrontOf s ram (pages ++ page)
page_same true ram pages page is front = front_page ram pages page front ∙ ap (λ (l : List ℕ). pages ++ l) is
page_same false ram pages page is front = λ whole. front (front_before ram pages page whole)

pub page_other : (s : Bool) (ram pages page : List ℕ) → (take (length page) (drop (length pages) ram) ≡ page → ⊥) → IsFrontOf s ram pages → IsFrontOf false ram (pages ++ page)
page_other true ram pages page not front = λ whole. not (same_tail pages (take (length page) (drop (length pages) ram)) page (sym (front_page ram pages page front) ∙ whole))
page_other false ram pages page not front = λ whole. front (front_before ram pages page whole)

pub page_same_at : (s : Bool) (ram pages page : List ℕ) (i : ℕ) → length pages ≡ 4096 * i → length page ≡ 4096 → take 4096 (drop (4096 * i) ram) ≡ page → IsFrontOf s ram pages → IsFrontOf s ram (pages ++ page)
page_same_at s ram pages page i at size is = page_same s ram pages page (ap (λ (n : ℕ). take n (drop (length pages) ram)) size ∙ ap (λ (n : ℕ). take 4096 (drop n ram)) at ∙ is)

pub page_other_at : (s : Bool) (ram pages page : List ℕ) (i : ℕ) → length pages ≡ 4096 * i → length page ≡ 4096 → (take 4096 (drop (4096 * i) ram) ≡ page → ⊥) → IsFrontOf s ram pages → IsFrontOf false ram (pages ++ page)
page_other_at s ram pages page i at size not = page_other s ram pages page (λ is. not (sym (ap (λ (n : ℕ). take n (drop (length pages) ram)) size ∙ ap (λ (n : ℕ). take 4096 (drop n ram)) at) ∙ is))

-- ---- entries

pub first_more : (fs : List FrameData) (f : FrameData) → first_kind (fs ++ f ∷ []) ≡ or_else (first_kind fs) (Some f.kind)
first_more [] f = refl
first_more (g ∷ fs) f = refl

pub boot_first : (fs : List FrameData) → is_boot (first_kind fs) ≡ is_boot_first fs
boot_first [] = refl
boot_first (f ∷ fs) = refl

-- ---- all pages

pub all_pages : (s : Bool) (ram pages : List ℕ) → length ram ≡ length pages → IsFrontOf s ram pages → bytes_eq pages ram ≡ s
all_pages true ram pages len front = (bytes_decides pages ram).1 (sym front ∙ ap (λ (n : ℕ). take n ram) (sym len) ∙ take_all (length ram) ram (omega arith))
all_pages false ram pages len front = go (bytes_eq pages ram) refl
  where
    go : (b : Bool) → bytes_eq pages ram ≡ b → bytes_eq pages ram ≡ false
    go false e = e
    go true e = absurd (front (ap (λ (n : ℕ). take n ram) (sym len) ∙ take_all (length ram) ram (omega arith) ∙ sym ((bytes_decides pages ram).0 e)))
