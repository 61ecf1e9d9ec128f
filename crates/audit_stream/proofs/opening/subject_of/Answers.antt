use Rattle.std.proofs.Common.{◌≤◌, ◌^◌, List, ℕ, [], map, length, inl, refl, sym, ap, subst, ◌∙◌, arith, not}
use Rattle.avm_model.specs.Auth.{AuthData}
use Rattle.avm_model.specs.Basics.{first_at}
use Rattle.avm_model.specs.HeadReading.{head_of}
use Rattle.avm_model.specs.Marks.{verifies}
use Rattle.avm_model.specs.Verdict.{first_pair, doubles}
use Rattle.avm_auth.specs.declared.auth.Auth.{Auth}
use Rattle.avm_auth.specs.Views.{auth_view}
use Rattle.log_entry.proofs.Options.{is_some_is}
use Rattle.audit_stream.proofs.Acceptance.{long_auths, bad_auths, good_auths}
use Rattle.audit_stream.specs.Matching.{Matches}
use Rattle.audit_stream.proofs.opening.subject_of.Goals as goal

pub returns-then-auths-clause-none : goal.returns-then-auths-clause-none
returns-then-auths-clause-none c = inl (long_auths c.args.auths.now c.if-auths.true)

pub returns-in_default-clause-none : goal.returns-in_default-clause-none
returns-in_default-clause-none c = inl (bad_auths c.args.auths.now c.in_default.ensures.exact)

pub returns-clause-some : goal.returns-clause-some
returns-clause-some c f start before head =
    let h = is_some_is (head_of c.args.head.now) (sym c.read_head.ensures.exact ∙ c.if-not-read_head.false) in
    let short : length c.args.auths.now ≤ 2 ^ 24 = omega arith in
    let m = c.in_ok-matching.matching in
    record {
      front = f;
      there = refl;
      head = h.0;
      head_is = ap head_of head ∙ h.1;
      list = c.in-Some.list;
      list_is = good_auths c.args.auths.now c.in-Some.list short c.in-Some.ensures.exact;
      first = sym start;
      last = refl;
      rows = record {
        bad_is = c.bad_auth-bad.ensures ∙ ap (λ (xs : List AuthData). first_at (λ a. not (verifies c.args.key.now a)) 0 xs) c.again.ensures;
        double_is = λ none. c.double-double.ensures ∙ ap (λ (xs : List Auth). first_pair doubles 0 (map auth_view xs)) c.deref.ensures.value ∙ ap (first_pair doubles 0) (c.in_ok-own.ensures.own none);
        own_is = λ none. c.in_ok-matching.ensures.auths ∙ c.in_ok-own.ensures.own none;
      };
      matches = subst (λ (b : List ℕ). Matches m f.start b []) (sym before) (c.in_ok-matching.ensures.none f.start);
      course = c.in_ok-course.ensures h.0 h.1;
    }
