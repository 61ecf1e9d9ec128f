-- One entry more, and what each authenticator is to the chain then.
use Rattle.std.proofs.Common.{◌≡◌, ℕ, ◌+◌, ◌<◌, Bool, true, false, cond, ◌&&◌, nat_eq, List, [], ◌∷◌, ◌++◌, length, map, Option, Some, None, refl, sym, ap, subst, ◌∙◌, arith, ne_eqb}
use Rattle.std.proofs.lemmas.List.{length-append}
use Rattle.std.specs.Str.{bytes_eq}
use Rattle.avm_model.specs.Auth.{AuthData}
use Rattle.avm_model.specs.Basics.{or_else}
use Rattle.avm_model.specs.Chain.{next_hash, top_of}
use Rattle.avm_model.specs.Frame.{FrameData}
use Rattle.avm_model.specs.Marks.{hash_in, mark_at, marked}
use Rattle.avm_model.specs.declared.judged.Mark.{Mark}
use Rattle.avm_model.specs.declared.judged.Mark.TheVariants.{Same, Other}
use Rattle.avm_model.specs.declared.judged.Marked.{Marked}
use Rattle.avm_auth.specs.Views.{auth_view}
use Rattle.avm_auth.specs.declared.auth.Auth.{Auth}
use Rattle.audit_stream.specs.Marking.{outside_of, is_outside, remark_one, remarked}
use Rattle.audit_stream.specs.Matching.{Matches}
use Rattle.audit_stream.specs.Numbers.{least_above, Ahead}
use Rattle.audit_stream.proofs.Aheads.{least_ahead, ahead_more, ahead_first}

abbrev mark_number : Marked → ℕ
mark_number m = m.seq

-- ---- the chain

pub top_more : (h : List ℕ) (fs : List FrameData) (f : FrameData) → top_of h (fs ++ f ∷ []) ≡ next_hash (top_of h fs) f
top_more h [] f = refl
top_more h (g ∷ fs) f = top_more (next_hash h g) fs f

abbrev here : FrameData → ℕ → List ℕ → Option (List ℕ)
here f q g = cond (nat_eq f.seq q) (Some g) None

hash_more : (q : ℕ) (h : List ℕ) (fs : List FrameData) (f : FrameData) → hash_in q h (fs ++ f ∷ []) ≡ or_else (hash_in q h fs) (here f q (next_hash (top_of h fs) f))
hash_more q h [] f = refl
hash_more q h (g ∷ fs) f = go (nat_eq g.seq q) (hash_more q (next_hash h g) fs f)
  where
    go : (b : Bool) → hash_in q (next_hash h g) (fs ++ f ∷ []) ≡ or_else (hash_in q (next_hash h g) fs) (here f q (next_hash (top_of (next_hash h g) fs) f))
        → cond b (Some (next_hash h g)) (hash_in q (next_hash h g) (fs ++ f ∷ [])) ≡ or_else (cond b (Some (next_hash h g)) (hash_in q (next_hash h g) fs)) (here f q (next_hash (top_of (next_hash h g) fs) f))
    go true ih = refl
    go false ih = ih

-- ---- one mark

abbrev marked_as : ℕ → Mark → Marked
marked_as n m = record { seq = n; mark = m }

remark_is : (h : List ℕ) (fs : List FrameData) (f : FrameData) (a : Auth) → remark_one f.seq (next_hash (top_of h fs) f) a (marked h fs (auth_view a)) ≡ marked h (fs ++ f ∷ []) (auth_view a)
remark_is h fs f a =
    go (hash_in a.seq h fs) (nat_eq f.seq a.seq) ∙ ap (λ (o : Option (List ℕ)). marked_as a.seq (mark_at a.hash.0 o)) (sym (hash_more a.seq h fs f))
  where
    g : List ℕ
    g = next_hash (top_of h fs) f

    go : (o : Option (List ℕ)) (b : Bool) → cond (b && is_outside (mark_at a.hash.0 o)) (marked_as a.seq (mark_at a.hash.0 (Some (next_hash (top_of h fs) f)))) (marked_as a.seq (mark_at a.hash.0 o))
        ≡ marked_as a.seq (mark_at a.hash.0 (or_else o (cond b (Some (next_hash (top_of h fs) f)) None)))
    go None true = refl
    go None false = refl
    go (Some k) b = next (bytes_eq a.hash.0 k) b
      where
        next : (c b : Bool) → cond (b && is_outside (cond c Same Other)) (marked_as a.seq (mark_at a.hash.0 (Some (next_hash (top_of h fs) f)))) (marked_as a.seq (cond c Same Other)) ≡ marked_as a.seq (cond c Same Other)
        next true true = refl
        next true false = refl
        next false true = refl
        next false false = refl

remarked_is : (h : List ℕ) (fs : List FrameData) (f : FrameData) (auths : List Auth) → remarked f.seq (next_hash (top_of h fs) f) auths (map (marked h fs) (map auth_view auths)) ≡ map (marked h (fs ++ f ∷ [])) (map auth_view auths)
remarked_is h fs f [] = refl
remarked_is h fs f (a ∷ auths) = rw (remark_is h fs f a, remarked_is h fs f auths) refl

-- a number that no authenticator has
unmarked_is : (h : List ℕ) (fs : List FrameData) (f : FrameData) (n wanted : ℕ) (auths : List AuthData) → f.seq ≡ n → n < wanted → Ahead mark_number n wanted (map (marked h fs) auths) → map (marked h (fs ++ f ∷ [])) auths ≡ map (marked h fs) auths
unmarked_is h fs f n wanted [] e lt ahead = refl
unmarked_is h fs f n wanted (a ∷ auths) e lt ahead =
    let ne : nat_eq f.seq a.seq ≡ false = ne_eqb f.seq a.seq (λ (s : f.seq ≡ a.seq). let le = ahead.0 (omega (arith, s, e)) in omega (arith, s, e, lt, le)) in
    let same : hash_in a.seq h (fs ++ f ∷ []) ≡ hash_in a.seq h fs = hash_more a.seq h fs f ∙ rw ne (else_none (hash_in a.seq h fs)) in
    rw (same, unmarked_is h fs f n wanted auths e lt ahead.1) refl
  where
    else_none : (o : Option (List ℕ)) → or_else o None ≡ o
    else_none None = refl
    else_none (Some x) = refl

-- ---- the next number

one_more : (start : ℕ) (fs : List FrameData) (f : FrameData) → start + length (fs ++ f ∷ []) ≡ start + length fs + 1
one_more start fs f = omega (arith, length-append fs (f ∷ []))

-- ---- an entry

pub goes_marked : (auths : List Auth) (old new : List Marked) (wanted next most : ℕ) (hash g : List ℕ) (start : ℕ) (before : List ℕ) (fs : List FrameData) (f : FrameData) → f.seq ≡ start + length fs
    → Matches (record { auths = map auth_view auths; marks = old; wanted = wanted; hash = hash }) start before fs → g ≡ next_hash hash f → new ≡ remarked f.seq g auths old → next ≡ least_above mark_number f.seq most new
    → Matches (record { auths = map auth_view auths; marks = new; wanted = next; hash = g }) start before (fs ++ f ∷ [])
goes_marked auths old new wanted next most hash g start before fs f seq m e r l =
    let top : g ≡ next_hash (top_of before fs) f = e ∙ ap (λ (x : List ℕ). next_hash x f) m.hash in
    record {
      marks = r ∙ ap (λ (x : List ℕ). remarked f.seq x auths old) top ∙ ap (remarked f.seq (next_hash (top_of before fs) f) auths) m.marks ∙ remarked_is before fs f auths;
      hash = top ∙ sym (top_more before fs f);
      ahead = rw (one_more start fs f, ← seq, l) (least_ahead mark_number f.seq most new);
    }

pub goes_unmarked : (auths : List Auth) (marks : List Marked) (wanted : ℕ) (hash g : List ℕ) (start : ℕ) (before : List ℕ) (fs : List FrameData) (f : FrameData) → f.seq ≡ start + length fs → f.seq < wanted
    → Matches (record { auths = map auth_view auths; marks = marks; wanted = wanted; hash = hash }) start before fs → g ≡ next_hash hash f
    → Matches (record { auths = map auth_view auths; marks = marks; wanted = wanted; hash = g }) start before (fs ++ f ∷ [])
goes_unmarked auths marks wanted hash g start before fs f seq lt m e =
    let top : g ≡ next_hash (top_of before fs) f = e ∙ ap (λ (x : List ℕ). next_hash x f) m.hash in
    let ahead : Ahead mark_number (start + length fs) wanted (map (marked before fs) (map auth_view auths)) = subst (λ (ms : List Marked). Ahead mark_number (start + length fs) wanted ms) m.marks m.ahead in
    record {
      marks = m.marks ∙ sym (unmarked_is before fs f (start + length fs) wanted (map auth_view auths) seq (omega (arith, seq, lt)) ahead);
      hash = top ∙ sym (top_more before fs f);
      ahead = rw (one_more start fs f) (ahead_more mark_number (start + length fs) wanted marks m.ahead);
    }

outside_is : (h : List ℕ) (auths : List Auth) → map outside_of auths ≡ map (marked h []) (map auth_view auths)
outside_is h [] = refl
outside_is h (a ∷ auths) = rw (outside_is h auths) refl

pub begins_matching : (auths : List Auth) (marks : List Marked) (before : List ℕ) (start : ℕ) → marks ≡ map outside_of auths → Matches (record { auths = map auth_view auths; marks = marks; wanted = 0; hash = before }) start before []
begins_matching auths marks before start e = record { marks = e ∙ outside_is before auths; hash = refl; ahead = ahead_first mark_number (start + length {A = FrameData} []) marks }
