-- A keep has the RAM of its machine, where its pages are those that changed since the keep before it.
use Rattle.std.proofs.Common.{◌≡◌, ℕ, ◌+◌, ◌-◌, ◌*◌, ◌/◌, ◌≤◌, ◌<◌, List, [], ◌∷◌, ◌++◌, length, take, drop, get_or, refl, ap, ◌∙◌, arith, ◌⊎◌, inl, inr, length-append, length-drop, length-take}
use Rattle.std.proofs.lemmas.List.{get_or_append_left, get_or-append_right, get_or-take, get_or-drop, ext_get_or}
use Rattle.std.proofs.lemmas.Bool.{cases_lt}
use Rattle.avm_model.specs.Memory.{put_page}
use Rattle.avm_model.specs.Pages.{page_of}
use Rattle.honest_model.specs.KeepPages.{Among, ArePages, Same}
use Rattle.honest_model.specs.Keeps.{kept_ram, with_pages}
use Rattle.journal_model.specs.Part.{pages_of, KeepData, PageData}

-- ---- one page

pub record Fits (old page : List ℕ) (i : ℕ) : Type 0 where
  pub sized : length page ≡ 4096
  pub within : 4096 * i + 4096 ≤ length old

-- a page takes the place of another
put_is : (old page : List ℕ) (i : ℕ) → Fits old page i → put_page old i page ≡ (take (4096 * i) old ++ page) ++ drop (4096 * i + 4096) old
put_is old page i h = ap (λ (n : ℕ). (take (4096 * i) old ++ page) ++ drop (4096 * i + n) old) h.sized

front_len : (old page : List ℕ) (i : ℕ) → Fits old page i → length (take (4096 * i) old) ≡ 4096 * i
front_len old page i h = let w = h.within in let l = length-take (4096 * i) old in omega (arith, l, w)

pub put_len : (old page : List ℕ) (i : ℕ) → Fits old page i → length (put_page old i page) ≡ length old
put_len old page i h =
    let a = front_len old page i h in
    let b = length-append (take (4096 * i) old ++ page) (drop (4096 * i + 4096) old) in
    let c = length-append (take (4096 * i) old) page in
    let d = length-drop (4096 * i + 4096) old in
    omega (arith, ap length (put_is old page i h), a, b, c, d, h.sized, h.within)

-- a place in the page
put_in : (old page : List ℕ) (i p : ℕ) → Fits old page i → 4096 * i ≤ p → p < 4096 * i + 4096 → get_or (put_page old i page) p 0 ≡ get_or page (p - 4096 * i) 0
put_in old page i p h low high =
    let a = front_len old page i h in
    let c = length-append (take (4096 * i) old) page in
    ap (λ (b : List ℕ). get_or b p 0) (put_is old page i h)
    ∙ get_or_append_left (take (4096 * i) old ++ page) (drop (4096 * i + 4096) old) 0 p (omega (arith, a, c, h.sized))
    ∙ get_or-append_right (take (4096 * i) old) page (4096 * i) p 0 a low

-- a place in front of it, and one behind it
put_before : (old page : List ℕ) (i p : ℕ) → Fits old page i → p < 4096 * i → get_or (put_page old i page) p 0 ≡ get_or old p 0
put_before old page i p h low =
    let a = front_len old page i h in
    let c = length-append (take (4096 * i) old) page in
    ap (λ (b : List ℕ). get_or b p 0) (put_is old page i h)
    ∙ get_or_append_left (take (4096 * i) old ++ page) (drop (4096 * i + 4096) old) 0 p (omega (arith, a, c))
    ∙ get_or_append_left (take (4096 * i) old) page 0 p (omega (arith, a))
    ∙ get_or-take (4096 * i) old p 0 low

put_behind : (old page : List ℕ) (i p : ℕ) → Fits old page i → 4096 * i + 4096 ≤ p → get_or (put_page old i page) p 0 ≡ get_or old p 0
put_behind old page i p h high =
    let a = front_len old page i h in
    let c = length-append (take (4096 * i) old) page in
    let len : length (take (4096 * i) old ++ page) ≡ 4096 * i + 4096 = omega (arith, a, c, h.sized) in
    let z : (4096 * i + 4096) + (p - (4096 * i + 4096)) ≡ p = omega arith in
    ap (λ (b : List ℕ). get_or b p 0) (put_is old page i h)
    ∙ get_or-append_right (take (4096 * i) old ++ page) (drop (4096 * i + 4096) old) (4096 * i + 4096) p 0 len high
    ∙ get_or-drop (4096 * i + 4096) old (p - (4096 * i + 4096)) 0
    ∙ ap (λ (n : ℕ). get_or old n 0) z

-- a place of a page that is cut out
pub page_place : (bytes : List ℕ) (i p : ℕ) → 4096 * i ≤ p → p < 4096 * i + 4096 → get_or (page_of bytes i) (p - 4096 * i) 0 ≡ get_or bytes p 0
page_place bytes i p low high = grind (arith, get_or-take, get_or-drop)

page_len : (bytes : List ℕ) (i : ℕ) → 4096 * i + 4096 ≤ length bytes → length (page_of bytes i) ≡ 4096
page_len bytes i h = grind (arith, length-take, length-drop)

-- ---- all pages

put_one : (i : ℕ) (page : List ℕ) (ps : List PageData) (old new : List ℕ) → page ≡ page_of new i → Fits old page i → Same (record { number = i; bytes = page } ∷ ps) old new → Same ps (put_page old i page) new
put_one i page ps old new is fits same p lt = go (cases_lt p (4096 * i)) (cases_lt p (4096 * i + 4096))
  where
    other : (get_or (put_page old i page) p 0 ≡ get_or old p 0) → (i ≡ p / 4096 → ⊥) → Among (p / 4096) ps ⊎ (get_or (put_page old i page) p 0 ≡ get_or new p 0)
    other e apart =
        elim (same p lt) [
          | inl a ↦
              elim a [
                | inl here ↦ absurd (apart here)
                | inr more ↦ inl more
              ]
          | inr q ↦ inr (e ∙ q)
        ]

    go : (p < 4096 * i) ⊎ (4096 * i ≤ p) → (p < 4096 * i + 4096) ⊎ (4096 * i + 4096 ≤ p) → Among (p / 4096) ps ⊎ (get_or (put_page old i page) p 0 ≡ get_or new p 0)
    go (inl low) c = other (put_before old page i p fits low) (λ e. absurd (omega arith))
    go (inr high) (inr over) = other (put_behind old page i p fits over) (λ e. absurd (omega arith))
    go (inr high) (inl under) = inr (put_in old page i p fits high under ∙ ap (λ (x : List ℕ). get_or x (p - 4096 * i) 0) is ∙ page_place new i p high under)

pub with_pages_is : (ps : List PageData) (old new : List ℕ) → length old ≡ length new → ArePages new ps → Same ps old new → with_pages old ps ≡ new
with_pages_is [] old new len pages same = ext_get_or 0 old new len (λ p lt. none p (same p (omega (arith, len, lt))))
  where
    none : (p : ℕ) → Among (p / 4096) [] ⊎ (get_or old p 0 ≡ get_or new p 0) → get_or old p 0 ≡ get_or new p 0
    none p (inl a) = absurd a
    none p (inr e) = e
with_pages_is (x ∷ ps) old new len pages same =
    let within : 4096 * x.number + 4096 ≤ length new = pages.0.1 in
    let fits : Fits old x.bytes x.number = record { sized = ap (λ (b : List ℕ). length b) pages.0.0 ∙ page_len new x.number within; within = omega (arith, len, within) } in
    with_pages_is ps (put_page old x.number x.bytes) new (put_len old x.bytes x.number fits ∙ len) pages.1 (put_one x.number x.bytes ps old new pages.0.0 fits same)

pub kept-append : (ram : List ℕ) (a : List KeepData) (k : KeepData) → kept_ram ram (a ++ k ∷ []) ≡ with_pages (kept_ram ram a) (pages_of k)
kept-append ram [] k = refl
kept-append ram (x ∷ a) k = kept-append (with_pages ram (pages_of x)) a k
