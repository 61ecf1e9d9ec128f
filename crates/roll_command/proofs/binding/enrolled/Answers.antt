use Rattle.std.proofs.Common.{◌≡◌, ◌<◌, ℕ, List, None, Some, option_map, refl, sym, ◌∙◌, ap, subst, rules}
use Rattle.avm_model.specs.Keys.{KeyData, HasTypes, key_file}
use Rattle.lms_signer.specs.Views.{key_data}
use Rattle.hss_command.specs.Inputs.{public_key_in}
use Rattle.hss_command.specs.declared.ends.FileOption.TheVariants.{Public}
use Rattle.hss_command.specs.declared.ends.End.TheVariants.{RefusedFile}
use Rattle.hss_command.proofs.Saying.{said_end}
use Rattle.hss_model.specs.Roll.{most_of}
use Rattle.roll_command.specs.Enroll.{EnrollEnd}
use Rattle.roll_command.proofs.Enrolling.{input_at, enrolled_end, enrolled_left, refused_end, stands_with}
use Rattle.roll_command.proofs.PrivateKeys.{most_is}
use Rattle.roll_command.proofs.binding.enrolled.Goals as goal

pub returns-in_default-2-clause-ends : goal.returns-in_default-2-clause-ends
returns-in_default-2-clause-ends g c =
    let file = g.F.Files.file in
    let none : c.in_ok-bottom.field-0 ≡ None = search rules in
    said_end (EnrollEnd (record { key = c.args.key.now; public = c.args.public.now; endorse = c.args.endorse.now }) (file c.args.files.now) (file c.read_public_key.new.files) (g.D.Disk.seen c.args.disk.now) (g.D.Disk.seen c.args.disk.now) (g.D.Disk.may_leave c.args.disk.now) (c.args.disk.now ≡ c.args.disk.now)) (RefusedFile Public) c.say-in_default-2.result c.say-in_default-2.ensures.end (
      key_data c.in-Some.file,
      input_at key_file (file c.args.files.now c.args.key.now) (file c.args.files.now c.args.key.now) (option_map key_data c.in_ok-file.field-0) (Some (key_data c.in-Some.file)) refl (ap (option_map key_data) c.in-Some.is) c.in_ok-file.ensures.key,
      input_at public_key_in (file c.args.files.now c.args.public.now) (file c.read_private_key.new.files c.args.public.now) (option_map (λ k. k) c.in_ok-bottom.field-0) None (c.read_private_key.ensures.same c.args.public.now) (ap (option_map (λ (k : List ℕ). k)) none) c.in_ok-bottom.ensures.key,
      c.read_public_key.ensures.same c.args.endorse.now ∙ c.read_private_key.ensures.same c.args.endorse.now,
      refl,
    )

pub put_file-requires : goal.put_file-requires
put_file-requires g c =
    let granted = rw c.in-Ok.is at c.in_ok-granted.ensures.granted in
    let fits = rw c.in-Some.is at c.in_ok-file.ensures.fits in
    let types = subst HasTypes (sym c.in_ok-top.ensures) fits.types in
    record { leaf = subst (λ (n : ℕ). c.in-Ok.granted.leaf < n) (ap most_of c.hss_key_of.ensures ∙ most_is c.in_ok-top.top types) granted.1 }

pub returns-in-Ok-clause-ends : goal.returns-in-Ok-clause-ends
returns-in-Ok-clause-ends g c =
    let file = g.F.Files.file in
    let told = rw c.in-Ok.is at c.in_ok-granted.ensures.answers in
    let granted = rw c.in-Ok.is at c.in_ok-granted.ensures.granted in
    enrolled_end (record { key = c.args.key.now; public = c.args.public.now; endorse = c.args.endorse.now }) (file c.args.files.now) (file c.read_public_key.new.files) (file c.put_file.new.files) (g.D.Disk.seen c.args.disk.now) (g.D.Disk.seen c.grant.new.disk) (g.D.Disk.may_leave c.grant.new.disk) (c.grant.new.disk ≡ c.args.disk.now) c.in_ok-top.top c.in-Some-2.bottom c.hss_key_of.result
    (λ m. c.read_public_key.ensures.same m ∙ c.read_private_key.ensures.same m)
    (input_at key_file (file c.args.files.now c.args.key.now) (file c.args.files.now c.args.key.now) (option_map key_data c.in_ok-file.field-0) (Some c.in_ok-top.top) refl (ap (option_map key_data) c.in-Some.is ∙ ap (λ (k : KeyData). Some k) (sym c.in_ok-top.ensures)) c.in_ok-file.ensures.key)
    (input_at public_key_in (file c.args.files.now c.args.public.now) (file c.read_private_key.new.files c.args.public.now) (option_map (λ k. k) c.in_ok-bottom.field-0) (Some c.in-Some-2.bottom) (c.read_private_key.ensures.same c.args.public.now) (ap (option_map (λ (k : List ℕ). k)) c.in-Some-2.is) c.in_ok-bottom.ensures.key)
    c.hss_key_of.ensures
    c.in-Ok.granted c.put_file.result granted.0 told c.put_file.ensures.end c.put_file.ensures.written

pub returns-in-Ok-clause-left : goal.returns-in-Ok-clause-left
returns-in-Ok-clause-left g c = λ is.
    let file = g.F.Files.file in
    let granted = rw c.in-Ok.is at c.in_ok-granted.ensures.granted in
    enrolled_left (record { key = c.args.key.now; public = c.args.public.now; endorse = c.args.endorse.now }) (file c.args.files.now) (file c.read_public_key.new.files) (file c.put_file.new.files) (g.D.Disk.seen c.args.disk.now) (g.D.Disk.seen c.grant.new.disk) (g.D.Disk.may_leave c.grant.new.disk) (c.grant.new.disk ≡ c.args.disk.now) c.in_ok-top.top c.in-Some-2.bottom c.hss_key_of.result
    (λ m. c.read_public_key.ensures.same m ∙ c.read_private_key.ensures.same m)
    (input_at key_file (file c.args.files.now c.args.key.now) (file c.args.files.now c.args.key.now) (option_map key_data c.in_ok-file.field-0) (Some c.in_ok-top.top) refl (ap (option_map key_data) c.in-Some.is ∙ ap (λ (k : KeyData). Some k) (sym c.in_ok-top.ensures)) c.in_ok-file.ensures.key)
    (input_at public_key_in (file c.args.files.now c.args.public.now) (file c.read_private_key.new.files c.args.public.now) (option_map (λ k. k) c.in_ok-bottom.field-0) (Some c.in-Some-2.bottom) (c.read_private_key.ensures.same c.args.public.now) (ap (option_map (λ (k : List ℕ). k)) c.in-Some-2.is) c.in_ok-bottom.ensures.key)
    c.hss_key_of.ensures
    c.in-Ok.granted granted.0 (c.put_file.ensures.left is)

pub returns-in-Ok-clause-stands : goal.returns-in-Ok-clause-stands
returns-in-Ok-clause-stands g c =
    let file = g.F.Files.file in
    stands_with (file c.args.files.now c.args.public.now) (g.D.Disk.seen c.args.disk.now) (g.D.Disk.seen c.grant.new.disk) c.in-Some-2.bottom (
    input_at public_key_in (file c.args.files.now c.args.public.now) (file c.read_private_key.new.files c.args.public.now) (option_map (λ k. k) c.in_ok-bottom.field-0) (Some c.in-Some-2.bottom) (c.read_private_key.ensures.same c.args.public.now) (ap (option_map (λ (k : List ℕ). k)) c.in-Some-2.is) c.in_ok-bottom.ensures.key
    ) c.grant.ensures.stands

pub returns-clause-ends : goal.returns-clause-ends
returns-clause-ends g c =
    let file = g.F.Files.file in
    let told = rw c.in-Err.is at c.in_ok-granted.ensures.answers in
    let refused = rw c.in-Err.is at c.in_ok-granted.ensures.refused in
    said_end (EnrollEnd (record { key = c.args.key.now; public = c.args.public.now; endorse = c.args.endorse.now }) (file c.args.files.now) (file c.read_public_key.new.files) (g.D.Disk.seen c.args.disk.now) (g.D.Disk.seen c.grant.new.disk) (g.D.Disk.may_leave c.grant.new.disk) (c.grant.new.disk ≡ c.args.disk.now)) c.in-Err.end c.say-in-Err.result c.say-in-Err.ensures.end
    (refused_end (record { key = c.args.key.now; public = c.args.public.now; endorse = c.args.endorse.now }) (file c.args.files.now) (file c.read_public_key.new.files) (file c.read_public_key.new.files) (g.D.Disk.seen c.args.disk.now) (g.D.Disk.seen c.grant.new.disk) (g.D.Disk.may_leave c.grant.new.disk) (c.grant.new.disk ≡ c.args.disk.now) c.in_ok-top.top c.in-Some-2.bottom c.hss_key_of.result
    (λ m. c.read_public_key.ensures.same m ∙ c.read_private_key.ensures.same m)
    (input_at key_file (file c.args.files.now c.args.key.now) (file c.args.files.now c.args.key.now) (option_map key_data c.in_ok-file.field-0) (Some c.in_ok-top.top) refl (ap (option_map key_data) c.in-Some.is ∙ ap (λ (k : KeyData). Some k) (sym c.in_ok-top.ensures)) c.in_ok-file.ensures.key)
    (input_at public_key_in (file c.args.files.now c.args.public.now) (file c.read_private_key.new.files c.args.public.now) (option_map (λ k. k) c.in_ok-bottom.field-0) (Some c.in-Some-2.bottom) (c.read_private_key.ensures.same c.args.public.now) (ap (option_map (λ (k : List ℕ). k)) c.in-Some-2.is) c.in_ok-bottom.ensures.key)
    c.hss_key_of.ensures
    c.in-Err.end refused (c.read_public_key.ensures.same c.args.endorse.now ∙ c.read_private_key.ensures.same c.args.endorse.now) told)
