use Rattle.std.proofs.Common.{◌≡◌, ℕ, not, List, ◌∷◌, length, sym, ◌∙◌, ap, None, rules}
use Rattle.std.specs.Str.{bytes_eq}
use Rattle.avm_auth.specs.Views.{auth_view}
use Rattle.avm_model.specs.Auth.{AuthData}
use Rattle.avm_model.specs.Basics.{first_at}
use Rattle.hss_model.specs.Hss.{bottom_of}
use Rattle.hss_model.specs.HssFile.{is_good}
use Rattle.hss_files.proofs.Judged.{judged_bad, judged_mixed, judged_done, bottom_long}
use Rattle.hss_files.proofs.narrowing.judge.Goals as goal

pub returns-in-Some-first_bad : goal.returns-in-Some-first_bad
returns-in-Some-first_bad c =
    let e : c.args.auths ≡ auth_view c.in-Some.first ∷ c.next.new.self = sym c.again-rest.ensures ∙ c.in-Some.ensures.steps in
    judged_bad c.args.top.now c.args.auths c.next.new.self (auth_view c.in-Some.first) c.args.out.now c.in-Some-first_bad.k e
    (c.in-Some-first_bad.ensures ∙ ap (λ (xs : List AuthData). first_at (λ a. not (is_good c.args.top.now a)) 0 xs) c.again.ensures)

pub returns-in-Some-first_mixed : goal.returns-in-Some-first_mixed
returns-in-Some-first_mixed c =
    let e : c.args.auths ≡ auth_view c.in-Some.first ∷ c.next.new.self = sym c.again-rest.ensures ∙ c.in-Some.ensures.steps in
    let none : c.first_bad.result ≡ None = search rules in
    judged_mixed c.args.top.now c.bottom_at-bottom.result.now c.args.auths c.next.new.self (auth_view c.in-Some.first) c.args.out.now c.upper_len-n.result c.in-Some-first_mixed.k e
    (sym none ∙ c.first_bad.ensures ∙ ap (λ (xs : List AuthData). first_at (λ a. not (is_good c.args.top.now a)) 0 xs) c.again.ensures)
    c.upper_len-n.ensures.value c.bottom_at-bottom.ensures
    (c.in-Some-first_mixed.ensures ∙ ap (λ (xs : List AuthData). first_at (λ a. not (bytes_eq (bottom_of c.upper_len-n.result a.sig) c.bottom_at-bottom.result.now)) 0 xs) c.again-2.ensures)

pub array_of-bottom-requires : goal.array_of-bottom-requires
array_of-bottom-requires c =
    let e : c.args.auths ≡ auth_view c.in-Some.first ∷ c.next.new.self = sym c.again-rest.ensures ∙ c.in-Some.ensures.steps in
    let none : c.first_bad.result ≡ None = search rules in
    ap (λ (l : List ℕ). length l) c.bottom_at-bottom.ensures
    ∙ bottom_long c.args.top.now c.args.auths c.next.new.self (auth_view c.in-Some.first) c.upper_len-n.result e
    (sym none ∙ c.first_bad.ensures ∙ ap (λ (xs : List AuthData). first_at (λ a. not (is_good c.args.top.now a)) 0 xs) c.again.ensures)
    c.upper_len-n.ensures.value

pub returns : goal.returns
returns c =
    let e : c.args.auths ≡ auth_view c.in-Some.first ∷ c.next.new.self = sym c.again-rest.ensures ∙ c.in-Some.ensures.steps in
    let none : c.first_bad.result ≡ None = search rules in
    let same : c.first_mixed.result ≡ None = search rules in
    rw c.array_of-bottom.ensures
    (judged_done c.args.top.now c.bottom_at-bottom.result.now c.args.auths c.next.new.self (auth_view c.in-Some.first) c.args.out.now c.put_narrowed.new.out c.upper_len-n.result c.put_narrowed.result e
    (sym none ∙ c.first_bad.ensures ∙ ap (λ (xs : List AuthData). first_at (λ a. not (is_good c.args.top.now a)) 0 xs) c.again.ensures)
    c.upper_len-n.ensures.value c.bottom_at-bottom.ensures
    (sym same ∙ c.first_mixed.ensures ∙ ap (λ (xs : List AuthData). first_at (λ a. not (bytes_eq (bottom_of c.upper_len-n.result a.sig) c.bottom_at-bottom.result.now)) 0 xs) c.again-2.ensures)
    c.put_narrowed.ensures.value c.put_narrowed.ensures.count)
