-- The base among the parts so far, with one part more.
use Rattle.std.proofs.Common.{◌≡◌, ℕ, ◌≤◌, List, [], ◌∷◌, ◌++◌, Some, refl, sym, ap, subst, ◌∙◌, append_assoc, append-nil, ◌⊎◌, inl, inr}
use Rattle.avm_model.specs.Machine.{State}
use Rattle.honest_model.specs.Honest.{header_state}
use Rattle.honest_model.specs.Keeps.{IsBase, IsGood, IsHeaderBase, IsKeepBase}
use Rattle.journal_model.specs.Header.{HeaderData}
use Rattle.journal_model.specs.Journal.{JournalData, parts}
use Rattle.journal_model.specs.Part.{Part, KeepData, keep}
use Rattle.open_keeps.specs.Search.{so_far}

pub parts_so_far : (h : HeaderData) (ps : List Part) → parts (so_far h ps) ≡ ps
unfolding parts
parts_so_far h ps = append-nil ps

-- ---- a part that stands in a list with one more behind it: it is the one more, or stands before it

pub record Before (xs a b : List Part) (x y : Part) : Type 0 where
  pub less : List Part
  pub behind : b ≡ less ++ x ∷ []
  pub split : xs ≡ a ++ y ∷ less

pub record Last (xs a : List Part) (x y : Part) : Type 0 where
  pub front : xs ≡ a
  pub same : x ≡ y

one_is : (x y : Part) (b : List Part) → x ∷ [] ≡ y ∷ b → x ≡ y
one_is x y b e = cc

tail_is : (x y : Part) (xs ys : List Part) → x ∷ xs ≡ y ∷ ys → xs ≡ ys
tail_is x y xs ys e = cc

head_is : (x y : Part) (xs ys : List Part) → x ∷ xs ≡ y ∷ ys → x ≡ y
head_is x y xs ys e = cc

some_behind : (a b : List Part) (y : Part) → [] ≡ a ++ y ∷ b → ⊥
some_behind [] b y e = absurd cc
some_behind (z ∷ a) b y e = absurd cc

pub stands_in : (xs a b : List Part) (x y : Part) → xs ++ x ∷ [] ≡ a ++ y ∷ b → Last xs a x y ⊎ Before xs a b x y
stands_in [] [] b x y e = inl (record { front = refl; same = one_is x y b e })
stands_in [] (z ∷ a) b x y e = absurd (some_behind a b y (tail_is x z [] (a ++ y ∷ b) e))
stands_in (w ∷ xs) [] b x y e = inr (record { less = xs; behind = sym (tail_is w y (xs ++ x ∷ []) b e); split = ap (λ (p : Part). p ∷ xs) (head_is w y (xs ++ x ∷ []) b e) })
stands_in (w ∷ xs) (z ∷ a) b x y e = go (head_is w z (xs ++ x ∷ []) (a ++ y ∷ b) e) (stands_in xs a b x y (tail_is w z (xs ++ x ∷ []) (a ++ y ∷ b) e))
  where
    go : w ≡ z → Last xs a x y ⊎ Before xs a b x y → Last (w ∷ xs) (z ∷ a) x y ⊎ Before (w ∷ xs) (z ∷ a) b x y
    go h (inl l) = inl (record { front = ap (λ (l : List Part). w ∷ l) l.front ∙ ap (λ (p : Part). p ∷ a) h; same = l.same })
    go h (inr r) = inr (record { less = r.less; behind = r.behind; split = ap (λ (l : List Part). w ∷ l) r.split ∙ ap (λ (p : Part). p ∷ (a ++ y ∷ r.less)) h })

-- ---- the base

base_as : (j i : JournalData) (n : ℕ) (front : List Part) (s : State) → j.header ≡ i.header → IsHeaderBase j front s ⊎ IsKeepBase j n front s → IsHeaderBase i front s ⊎ IsKeepBase i n front s
base_as j i n front s e (inl b) = inl (record { front_is = b.front_is; state = subst (λ (h : HeaderData). header_state h ≡ Some s) e b.state })
base_as j i n front s e (inr b) = inr (record { before = b.before; last = b.last; front_is = b.front_is; low = b.low; good = subst (λ (h : HeaderData). IsGood h b.before b.last s) e b.good })

-- a part more that is no base
pub base_on : (h : HeaderData) (n : ℕ) (ps front behind : List Part) (x : Part) (s : State) → ((k : KeepData) (t : State) → x ≡ keep k → k.seq ≤ n → IsGood h ps k t → ⊥) → IsBase (so_far h ps) n front behind s → IsBase (so_far h (ps ++ x ∷ [])) n front (behind ++ x ∷ []) s
base_on h n ps front behind x s never o =
    let split : ps ≡ front ++ behind = sym (parts_so_far h ps) ∙ o.split in
    record {
      split = parts_so_far h (ps ++ x ∷ []) ∙ ap (λ (l : List Part). l ++ x ∷ []) split ∙ append_assoc front behind (x ∷ []);
      base = base_as (so_far h ps) (so_far h (ps ++ x ∷ [])) n front s refl o.base;
      last = λ a b k t e le good. by split a b k t le good (stands_in behind a b x (keep k) e);
    }
  where
    by : ps ≡ front ++ behind → (a b : List Part) (k : KeepData) (t : State) → k.seq ≤ n → IsGood h (front ++ a) k t → Last behind a x (keep k) ⊎ Before behind a b x (keep k) → ⊥
    by split a b k t le good (inl l) = never k t l.same le (subst (λ (l : List Part). IsGood h l k t) (ap (λ (l : List Part). front ++ l) (sym l.front) ∙ sym split) good)
    by split a b k t le good (inr r) = o.last a r.less k t r.split le good

-- a good keep
pub base_new : (h : HeaderData) (n : ℕ) (ps : List Part) (k : KeepData) (s : State) → k.seq ≤ n → IsGood h ps k s → IsBase (so_far h (ps ++ keep k ∷ [])) n (ps ++ keep k ∷ []) [] s
base_new h n ps k s le good = record {
  split = parts_so_far h (ps ++ keep k ∷ []) ∙ sym (append-nil (ps ++ keep k ∷ []));
  base = inr (record { before = ps; last = k; front_is = refl; low = le; good = good });
  last = λ a b l t e low g. absurd (some_behind a b (keep l) e);
}

-- in front of all parts
pub base_start : (h : HeaderData) (n : ℕ) (s : State) → header_state h ≡ Some s → IsBase (so_far h []) n [] [] s
base_start h n s e = record {
  split = parts_so_far h [];
  base = inl (record { front_is = refl; state = e });
  last = λ a b l t e low g. absurd (some_behind a b (keep l) e);
}

-- behind all parts of a journal
pub base_whole : (j : JournalData) (n : ℕ) (front behind : List Part) (s : State) → IsBase (so_far j.header (parts j)) n front behind s → IsBase j n front behind s
base_whole j n front behind s o = record {
  split = sym (parts_so_far j.header (parts j)) ∙ o.split;
  base = base_as (so_far j.header (parts j)) j n front s refl o.base;
  last = o.last;
}
