use Rattle.std.proofs.Common.{◌≡◌, ◌≤◌, ◌^◌, ℕ, List, length, Option, None, Some, option_map, inr, refl, sym, ◌∙◌, ap, subst, rules}
use Rattle.avm_model.specs.Audit.{auths_within}
use Rattle.evid_file.specs.Pieces.{Written, LeavesFront}
use Rattle.hss_auths.specs.Views.{endorsement_view}
use Rattle.hss_model.specs.HssFile.{endorsement_of, widen_of}
use Rattle.hss_command.specs.Widen.{WidenEnd}
use Rattle.hss_command.specs.declared.ends.FileOption.TheVariants.{Endorse, Auths}
use Rattle.hss_command.specs.declared.ends.End.TheVariants.{RefusedFile, Widened}
use Rattle.hss_command.proofs.InputLaws.{input_of, endorsement_long, auths_long}
use Rattle.hss_command.proofs.Saying.{said_end, done_end, of_memory}
use Rattle.hss_command.proofs.widen_files.widened.Goals as goal

pub returns-in_default-read_endorsement-clause-ends : goal.returns-in_default-read_endorsement-clause-ends
returns-in_default-read_endorsement-clause-ends g c =
    let file = g.F.Files.file in
    let none : c.read_endorsement.result ≡ None = search rules in
    let exact = ap (option_map endorsement_view) (sym none) ∙ c.read_endorsement.ensures.exact ∙ ap endorsement_of c.deref.ensures.value in
    let read = rw c.in-Some.is at c.in_ok-front.ensures.bytes in
    said_end (WidenEnd c.args.endorse.now c.args.auths.now c.args.into.now (file c.args.files.now) (file c.read_file.new.files)) (RefusedFile Endorse) c.say-in_default-read_endorsement.result c.say-in_default-read_endorsement.ensures.end (
      input_of endorsement_of 9388 endorsement_long (file c.args.files.now c.args.endorse.now) (file c.args.files.now c.args.endorse.now) (Some c.in-Some.front.items) None refl read exact,
      c.read_file.ensures.same c.args.into.now,
    )

pub returns-in_default-2-clause-ends : goal.returns-in_default-2-clause-ends
returns-in_default-2-clause-ends g c =
    let file = g.F.Files.file in
    let read = rw c.in-Some.is at c.in_ok-front.ensures.bytes in
    let exact = c.in-Some-read_endorsement.ensures.exact ∙ ap endorsement_of c.deref.ensures.value in
    let none : c.in_ok-bytes.field-0 ≡ None = search rules in
    said_end (WidenEnd c.args.endorse.now c.args.auths.now c.args.into.now (file c.args.files.now) (file c.read_file-2.new.files)) (RefusedFile Auths) c.say-in_default-2.result c.say-in_default-2.ensures.end (
      endorsement_view c.in-Some-read_endorsement.endorsement,
      input_of endorsement_of 9388 endorsement_long (file c.args.files.now c.args.endorse.now) (file c.args.files.now c.args.endorse.now) (Some c.in-Some.front.items) (Some (endorsement_view c.in-Some-read_endorsement.endorsement)) refl read exact,
      input_of auths_within (2 ^ 24) auths_long (file c.args.files.now c.args.auths.now) (file c.read_file.new.files c.args.auths.now) None None (c.read_file.ensures.same c.args.auths.now) (rw none at c.in_ok-bytes.ensures.bytes) refl,
      c.read_file-2.ensures.same c.args.into.now ∙ c.read_file.ensures.same c.args.into.now,
    )

pub returns-in_default-auths_in-clause-ends : goal.returns-in_default-auths_in-clause-ends
returns-in_default-auths_in-clause-ends g c =
    let file = g.F.Files.file in
    let read = rw c.in-Some.is at c.in_ok-front.ensures.bytes in
    let exact = c.in-Some-read_endorsement.ensures.exact ∙ ap endorsement_of c.deref.ensures.value in
    let none : c.auths_in.result ≡ None = search rules in
    let bad = ap (option_map (λ a. a)) (sym none) ∙ c.auths_in.ensures.exact ∙ ap auths_within c.deref-2.ensures.value in
    said_end (WidenEnd c.args.endorse.now c.args.auths.now c.args.into.now (file c.args.files.now) (file c.read_file-2.new.files)) (RefusedFile Auths) c.say-in_default-auths_in.result c.say-in_default-auths_in.ensures.end (
      endorsement_view c.in-Some-read_endorsement.endorsement,
      input_of endorsement_of 9388 endorsement_long (file c.args.files.now c.args.endorse.now) (file c.args.files.now c.args.endorse.now) (Some c.in-Some.front.items) (Some (endorsement_view c.in-Some-read_endorsement.endorsement)) refl read exact,
      input_of auths_within (2 ^ 24) auths_long (file c.args.files.now c.args.auths.now) (file c.read_file.new.files c.args.auths.now) (Some c.in-Some-2.bytes.items) None (c.read_file.ensures.same c.args.auths.now) (rw c.in-Some-2.is at c.in_ok-bytes.ensures.bytes) bad,
      c.read_file-2.ensures.same c.args.into.now ∙ c.read_file.ensures.same c.args.into.now,
    )

pub returns-in_default-auths_in-clause-causes : goal.returns-in_default-auths_in-clause-causes
returns-in_default-auths_in-clause-causes g c = of_memory c.say-in_default-auths_in.result c.say-in_default-auths_in.ensures.cause

pub put_file-requires-clause-short : goal.put_file-requires-clause-short
put_file-requires-clause-short g c =
    let e : c.deref-3.result.now ≡ c.deref-2.result.now = c.deref-3.ensures.value ∙ sym c.deref-2.ensures.value in
    subst (λ (l : List ℕ). length l ≤ 16777216) (sym e) c.in-Some-auths_in.ensures.are.2

pub returns-clause-ends : goal.returns-clause-ends
returns-clause-ends g c =
    let file = g.F.Files.file in
    let read = rw c.in-Some.is at c.in_ok-front.ensures.bytes in
    let exact = c.in-Some-read_endorsement.ensures.exact ∙ ap endorsement_of c.deref.ensures.value in
    let listed = c.in-Some-auths_in.ensures.exact ∙ ap auths_within c.deref-2.ensures.value in
    let e = endorsement_view c.in-Some-read_endorsement.endorsement in
    let same = c.read_file-2.ensures.same c.args.into.now ∙ c.read_file.ensures.same c.args.into.now in
    done_end (WidenEnd c.args.endorse.now c.args.auths.now c.args.into.now (file c.args.files.now) (file c.put_file.new.files)) (Widened (length c.in-Some-auths_in.list)) (Written (widen_of e c.in-Some-auths_in.list) (file c.read_file-2.new.files c.args.into.now) (file c.put_file.new.files c.args.into.now)) c.put_file.result c.put_file.ensures.end c.put_file.ensures.written (λ w. (
      e,
      c.in-Some-auths_in.list,
      record {
        endorsement = input_of endorsement_of 9388 endorsement_long (file c.args.files.now c.args.endorse.now) (file c.args.files.now c.args.endorse.now) (Some c.in-Some.front.items) (Some e) refl read exact;
        authenticators = input_of auths_within (2 ^ 24) auths_long (file c.args.files.now c.args.auths.now) (file c.read_file.new.files c.args.auths.now) (Some c.in-Some-2.bytes.items) (Some c.in-Some-auths_in.list) (c.read_file.ensures.same c.args.auths.now) (rw c.in-Some-2.is at c.in_ok-bytes.ensures.bytes) listed;
      },
      refl,
      subst (λ (o : Option (Option (List ℕ))). Written (widen_of e c.in-Some-auths_in.list) o (file c.put_file.new.files c.args.into.now)) same w,
    ))

pub returns-clause-left : goal.returns-clause-left
returns-clause-left g c = λ is.
    let file = g.F.Files.file in
    let read = rw c.in-Some.is at c.in_ok-front.ensures.bytes in
    let exact = c.in-Some-read_endorsement.ensures.exact ∙ ap endorsement_of c.deref.ensures.value in
    let listed = c.in-Some-auths_in.ensures.exact ∙ ap auths_within c.deref-2.ensures.value in
    let e = endorsement_view c.in-Some-read_endorsement.endorsement in
    let same = c.read_file-2.ensures.same c.args.into.now ∙ c.read_file.ensures.same c.args.into.now in
    inr (
      e,
      c.in-Some-auths_in.list,
      record {
        endorsement = input_of endorsement_of 9388 endorsement_long (file c.args.files.now c.args.endorse.now) (file c.args.files.now c.args.endorse.now) (Some c.in-Some.front.items) (Some e) refl read exact;
        authenticators = input_of auths_within (2 ^ 24) auths_long (file c.args.files.now c.args.auths.now) (file c.read_file.new.files c.args.auths.now) (Some c.in-Some-2.bytes.items) (Some c.in-Some-auths_in.list) (c.read_file.ensures.same c.args.auths.now) (rw c.in-Some-2.is at c.in_ok-bytes.ensures.bytes) listed;
      },
      subst (λ (o : Option (Option (List ℕ))). LeavesFront (widen_of e c.in-Some-auths_in.list) o (file c.put_file.new.files c.args.into.now)) same (c.put_file.ensures.left is),
    )

pub returns-clause-no_fault : goal.returns-clause-no_fault
returns-clause-no_fault g c = λ ne. c.put_file.ensures.no_fault ne ∙ c.in_ok-bytes.ensures.no_fault (λ x. cc) ∙ c.in_ok-front.ensures.no_fault (λ x. cc)
