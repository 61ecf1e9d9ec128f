-- How the two segments are judged.
use Rattle.std.proofs.Common.{◌≡◌, ℕ, ◌&&◌, nat_le, List, [], ◌∷◌, ◌++◌, Option, None, Some, refl, sym, ap, subst, ◌∙◌}
use Rattle.std.specs.Prelude.{IfOk, Result, Ok, Err, map, string_bytes, if◌then◌else◌}
use Rattle.std.specs.Option.{option_map}
use Rattle.avm_model.specs.Audit.{IsVerdict}
use Rattle.avm_model.specs.Keys.{KeyData, public_of}
use Rattle.avm_model.specs.declared.judged.Verdict.{Verdict}
use Rattle.export_model.specs.Exports.{Answer, IsExport, exported, range, unreplayed}
use Rattle.honest_model.specs.Keeps.{last_of}
use Rattle.journal_model.specs.Journal.{JournalData}
use Rattle.sample_lines.specs.Judging.{Ending as EndingOf, FirstEnds, SecondEnds, SegmentEnds, Subject, auths_for, ended, first_lines, first_or_none, journal, key, middle, segment_line}
use Rattle.sample_model.specs.Start.{own_key}
use Rattle.sample_model.specs.Talk.{released_by}
use Rattle.sample_judge.specs.Ends.{Ends, ExportsAs, IsCase, Says, Shows}
use Rattle.sample_judge.specs.declared.ending.Ending.{Ending}
use Rattle.sample_judge.proofs.Stages.{ends_by}

-- ---- an export

none_if : {A : Type 0} (o : Option A) → ((x : A) → o ≡ Some x → ⊥) → o ≡ None
none_if None never = refl
none_if (Some x) never = absurd (never x refl)

-- what was found of it
pub exports_none : {V : Type 0} (f : V → List ℕ) (j : JournalData) (from to : ℕ) (o : Option V) → ((v : V) → o ≡ Some v → ⊥) → ExportsAs j from to (option_map f o) → ExportsAs j from to None
exports_none {V} f j from to o never h = subst (λ (p : Option V). ExportsAs j from to (option_map f p)) (none_if o never) h

pub exports_some : {V : Type 0} (f : V → List ℕ) (j : JournalData) (from to : ℕ) (o : Option V) (v : V) → o ≡ Some v → ExportsAs j from to (option_map f o) → ExportsAs j from to (Some (f v))
exports_some {V} f j from to o v is h = subst (λ (p : Option V). ExportsAs j from to (option_map f p)) is h

export_for : (x : Subject) (from to a b : ℕ) (answer : Answer) → from ≡ a → to ≡ b → IsExport (journal x) from to answer → IsExport (journal x) a b answer
export_for x from to a b answer p q h = subst (λ (n : ℕ). IsExport (journal x) n b answer) p (subst (λ (n : ℕ). IsExport (journal x) from n answer) q h)

-- the case stays on a disk of the same bytes
pub case_on : (x : Subject) (k : KeyData) (was now seal : List ℕ) (at last : ℕ) → now ≡ was → IsCase x k was seal at last → IsCase x k now seal at last
case_on x k was now seal at last same c = subst (λ (b : List ℕ). IsCase x k b seal at last) (sym same) c

-- ---- the authenticator

-- what counts of a seal for the entries from..to
abbrev counts_for : List ℕ → ℕ → ℕ → ℕ → List ℕ
counts_for seal last from to = if nat_le from last && nat_le last to then seal else []

auths_are : (x : Subject) (seal : List ℕ) (last from to a b : ℕ) → seal ≡ first_or_none (released_by x.last).auths → last ≡ last_of (journal x) → from ≡ a → to ≡ b → counts_for seal last from to ≡ auths_for x a b
auths_are x seal last from to a b s l p q =
    ap (λ (y : List ℕ). counts_for y last from to) s ∙ ap (λ (n : ℕ). counts_for (first_or_none (released_by x.last).auths) n from to) l
    ∙ ap (λ (n : ℕ). counts_for (first_or_none (released_by x.last).auths) (last_of (journal x)) n to) p ∙ ap (λ (n : ℕ). counts_for (first_or_none (released_by x.last).auths) (last_of (journal x)) a n) q

verdict_for : (x : Subject) (k : KeyData) (bytes auths own : List ℕ) (v : Verdict) → k ≡ own_key x.seed → auths ≡ own → IsVerdict (public_of k) bytes auths v → IsVerdict (key x) bytes own v
verdict_for x k bytes auths own v same is h = subst (λ (a : List ℕ). IsVerdict (key x) bytes a v) is (subst (λ (y : List ℕ). IsVerdict y bytes auths v) (ap public_of same) h)

-- ---- the second segment

abbrev pub Second : Subject → List (List ℕ) → List ℕ → EndingOf → Type 0
Second x said first e = (second : Answer) × IsExport (journal x) (middle x) (last_of (journal x)) second × SecondEnds x said first second e

second_ended : (x : Subject) (said : List (List ℕ)) (first : List ℕ) (a : Answer) → Shows None a → SecondEnds x said first a (ended 2 said)
second_ended x said first (exported bytes) s = absurd s
second_ended x said first range s = refl
second_ended x said first (unreplayed n) s = refl

-- it isn't exported
pub second_none : (x : Subject) (said : List (List ℕ)) (first : List ℕ) (k : KeyData) (disk seal : List ℕ) (at last : ℕ) (e : Ending) → IsCase x k disk seal at last → ExportsAs (journal x) at last None → Says (map string_bytes e.lines.items) said → e.status ≡ 2 → Ends (Second x said first) e
second_none x said first k disk seal at last e c o says status =
    record { end = ended 2 said; is = (o.answer, export_for x at last (middle x) (last_of (journal x)) o.answer c.middle_is c.last_is o.export_is, second_ended x said first o.answer o.shows); lines = says; status = status }

-- it was judged
pub if_second : {E : Type 0} (x : Subject) (said : List (List ℕ)) (first : List ℕ) (k : KeyData) (disk seal : List ℕ) (at last : ℕ) (bytes auths : List ℕ) (v : Verdict) (r : Result Ending E) → IsCase x k disk seal at last → ExportsAs (journal x) at last (Some bytes)
    → auths ≡ counts_for seal last at last → IsVerdict (public_of k) bytes auths v → IfOk r (Ends (SegmentEnds x (said ++ segment_line 2 v ∷ []) first)) → IfOk r (Ends (Second x said first))
if_second x said first k disk seal at last bytes auths v (Err y) c o is verdict h = tt
if_second x said first k disk seal at last bytes auths v (Ok e) c o is verdict h = ends_by e here h
  where
    told : IsVerdict (key x) bytes (auths_for x (middle x) (last_of (journal x))) v
    told = verdict_for x k bytes auths (auths_for x (middle x) (last_of (journal x))) v c.key_is (is ∙ auths_are x seal last at last (middle x) (last_of (journal x)) c.seal_is c.last_is c.middle_is c.last_is) verdict

    export_is : IsExport (journal x) (middle x) (last_of (journal x)) (exported bytes)
    export_is = subst (λ (a : Answer). IsExport (journal x) (middle x) (last_of (journal x)) a) o.shows (export_for x at last (middle x) (last_of (journal x)) o.answer c.middle_is c.last_is o.export_is)

    here : (n : EndingOf) → SegmentEnds x (said ++ segment_line 2 v ∷ []) first n → Second x said first n
    here n p = (exported bytes, export_is, (v, told, p))

-- ---- the first segment

abbrev pub First : Subject → EndingOf → Type 0
First x e = (first : Answer) × IsExport (journal x) 1 (middle x) first × FirstEnds x first e

first_ended : (x : Subject) (a : Answer) → Shows None a → FirstEnds x a (ended 2 (first_lines x))
first_ended x (exported bytes) s = absurd s
first_ended x range s = refl
first_ended x (unreplayed n) s = refl

-- it isn't exported
pub first_none : (x : Subject) (k : KeyData) (disk seal : List ℕ) (at last : ℕ) (e : Ending) → IsCase x k disk seal at last → ExportsAs (journal x) 1 at None → Says (map string_bytes e.lines.items) (first_lines x) → e.status ≡ 2 → Ends (First x) e
first_none x k disk seal at last e c o says status =
    record { end = ended 2 (first_lines x); is = (o.answer, export_for x 1 at 1 (middle x) o.answer refl c.middle_is o.export_is, first_ended x o.answer o.shows); lines = says; status = status }

-- it was judged
pub if_first : {E : Type 0} (x : Subject) (k : KeyData) (disk seal : List ℕ) (at last : ℕ) (bytes auths : List ℕ) (v : Verdict) (r : Result Ending E) → IsCase x k disk seal at last → ExportsAs (journal x) 1 at (Some bytes)
    → auths ≡ counts_for seal last 1 at → IsVerdict (public_of k) bytes auths v → IfOk r (Ends (Second x (first_lines x ++ segment_line 1 v ∷ []) bytes)) → IfOk r (Ends (First x))
if_first x k disk seal at last bytes auths v (Err y) c o is verdict h = tt
if_first x k disk seal at last bytes auths v (Ok e) c o is verdict h = ends_by e here h
  where
    told : IsVerdict (key x) bytes (auths_for x 1 (middle x)) v
    told = verdict_for x k bytes auths (auths_for x 1 (middle x)) v c.key_is (is ∙ auths_are x seal last 1 at 1 (middle x) c.seal_is c.last_is refl c.middle_is) verdict

    export_is : IsExport (journal x) 1 (middle x) (exported bytes)
    export_is = subst (λ (a : Answer). IsExport (journal x) 1 (middle x) a) o.shows (export_for x 1 at 1 (middle x) o.answer refl c.middle_is o.export_is)

    here : (n : EndingOf) → Second x (first_lines x ++ segment_line 1 v ∷ []) bytes n → First x n
    here n p = (exported bytes, export_is, (v, told, p.0, p.1, p.2))
