use Rattle.std.proofs.Common.{◌≡◌, ◌≤◌, ◌^◌, ℕ, List, [], ◌++◌, length, Option, None, Some, inr, refl, sym, ◌∙◌, ap, subst, arith, rules}
use Rattle.avm_num.specs.Lists.{list_bytes}
use Rattle.avm_num.specs.Room.{Buffer, left}
use Rattle.avm_model.specs.Auth.{auth_bytes}
use Rattle.evid_file.specs.Pieces.{Written}
use Rattle.hss_model.specs.HssFile.{narrow_of, Narrowing, Malformed, BadAuth, Mixed, Narrows}
use Rattle.hss_command.specs.Narrow.{NarrowEnd, NarrowsTo}
use Rattle.hss_command.specs.declared.ends.FileOption.TheVariants.{Auths}
use Rattle.hss_command.specs.declared.ends.End.TheVariants.{RefusedFile, RefusedMalformed, RefusedBadAuth, RefusedMixed, Narrowed}
use Rattle.hss_command.proofs.Saying.{said_end, found_none, two_cut}
use Rattle.hss_command.proofs.Narrowing.{refused_by, gives_malformed, gives_bad, gives_mixed, gives_under}
use Rattle.hss_command.proofs.narrow_files.narrowed.Goals as goal

pub returns-in_default-2-clause-ends : goal.returns-in_default-2-clause-ends
returns-in_default-2-clause-ends g c =
    let file = g.F.Files.file in
    let none : c.in_ok-bytes.field-0 ≡ None = search rules in
    let same : (n : List ℕ) → file c.read_file.new.files n ≡ file c.args.files.now n = λ n. c.read_file.ensures.same n ∙ c.read_public_key.ensures.same n in
    said_end (NarrowEnd c.args.key.now c.args.auths.now c.args.public.now c.args.into.now (file c.args.files.now) (file c.read_file.new.files)) (RefusedFile Auths) c.say-in_default-2.result c.say-in_default-2.ensures.end (
      c.in-Some.top,
      rw c.in-Some.is at c.in_ok-top.ensures.key,
      found_none (2 ^ 25) _ _ (c.read_public_key.ensures.same c.args.auths.now) (rw none at c.in_ok-bytes.ensures.bytes),
      (same c.args.public.now, same c.args.into.now),
    )

pub narrow-requires-clause-room : goal.narrow-requires-clause-room
unfolding left
narrow-requires-clause-room g c =
    let long : length c.deref.result.now ≡ c.len.result = search rules in
    rw c.in_ok-room.ensures (omega (arith, long))

pub returns-in-Malformed-clause-ends : goal.returns-in-Malformed-clause-ends
returns-in-Malformed-clause-ends g c =
    let file = g.F.Files.file in
    let same : (n : List ℕ) → file c.read_file.new.files n ≡ file c.args.files.now n = λ n. c.read_file.ensures.same n ∙ c.read_public_key.ensures.same n in
    let gives = rw c.deref.ensures.value at (gives_malformed _ _ _ c.in-Malformed.ensures) in
    said_end (NarrowEnd c.args.key.now c.args.auths.now c.args.public.now c.args.into.now (file c.args.files.now) (file c.read_file.new.files)) RefusedMalformed c.say-in-Malformed.result c.say-in-Malformed.ensures.end (
      refused_by c.args.key.now c.args.auths.now (file c.args.files.now) c.in-Some.top c.in-Some-2.bytes.items Malformed _ (rw c.in-Some.is at c.in_ok-top.ensures.key) (c.read_public_key.ensures.same c.args.auths.now) (rw c.in-Some-2.is at c.in_ok-bytes.ensures.bytes) gives,
      (same c.args.public.now, same c.args.into.now),
    )

pub returns-in-BadAuth-clause-ends : goal.returns-in-BadAuth-clause-ends
returns-in-BadAuth-clause-ends g c =
    let file = g.F.Files.file in
    let same : (n : List ℕ) → file c.read_file.new.files n ≡ file c.args.files.now n = λ n. c.read_file.ensures.same n ∙ c.read_public_key.ensures.same n in
    let gives = rw c.deref.ensures.value at (gives_bad _ _ _ c.in-BadAuth.k c.in-BadAuth.ensures) in
    said_end (NarrowEnd c.args.key.now c.args.auths.now c.args.public.now c.args.into.now (file c.args.files.now) (file c.read_file.new.files)) (RefusedBadAuth c.in-BadAuth.k) c.say-in-BadAuth.result c.say-in-BadAuth.ensures.end (
      refused_by c.args.key.now c.args.auths.now (file c.args.files.now) c.in-Some.top c.in-Some-2.bytes.items (BadAuth c.in-BadAuth.k) _ (rw c.in-Some.is at c.in_ok-top.ensures.key) (c.read_public_key.ensures.same c.args.auths.now) (rw c.in-Some-2.is at c.in_ok-bytes.ensures.bytes) gives,
      (same c.args.public.now, same c.args.into.now),
    )

pub returns-in-Mixed-clause-ends : goal.returns-in-Mixed-clause-ends
returns-in-Mixed-clause-ends g c =
    let file = g.F.Files.file in
    let same : (n : List ℕ) → file c.read_file.new.files n ≡ file c.args.files.now n = λ n. c.read_file.ensures.same n ∙ c.read_public_key.ensures.same n in
    let gives = rw c.deref.ensures.value at (gives_mixed _ _ _ c.in-Mixed.k c.in-Mixed.ensures) in
    said_end (NarrowEnd c.args.key.now c.args.auths.now c.args.public.now c.args.into.now (file c.args.files.now) (file c.read_file.new.files)) (RefusedMixed c.in-Mixed.k) c.say-in-Mixed.result c.say-in-Mixed.ensures.end (
      refused_by c.args.key.now c.args.auths.now (file c.args.files.now) c.in-Some.top c.in-Some-2.bytes.items (Mixed c.in-Mixed.k) _ (rw c.in-Some.is at c.in_ok-top.ensures.key) (c.read_public_key.ensures.same c.args.auths.now) (rw c.in-Some-2.is at c.in_ok-bytes.ensures.bytes) gives,
      (same c.args.public.now, same c.args.into.now),
    )

pub returns-in_err-write_two-in-Under-clause-left : goal.returns-in_err-write_two-in-Under-clause-left
returns-in_err-write_two-in-Under-clause-left g c = λ is.
    let file = g.F.Files.file in
    let same : (n : List ℕ) → file c.read_file.new.files n ≡ file c.args.files.now n = λ n. c.read_file.ensures.same n ∙ c.read_public_key.ensures.same n in
    let given = gives_under _ _ _ c.in-Under.bottom c.in-Under.count c.in-Under.ensures in
    let gives : narrow_of c.in-Some.top c.in-Some-2.bytes.items ≡ Narrows c.in-Under.bottom given.auths = ap (λ (l : List ℕ). narrow_of c.in-Some.top l) (sym c.deref.ensures.value) ∙ given.is in
    let more : c.bytes.result.now ≡ list_bytes auth_bytes given.auths = c.bytes.ensures ∙ ap (λ (b : Buffer). b.bytes) given.bytes ∙ ap (λ (b : Buffer). b.bytes ++ list_bytes auth_bytes given.auths) c.in_ok-room.ensures in
    let to = refused_by c.args.key.now c.args.auths.now (file c.args.files.now) c.in-Some.top c.in-Some-2.bytes.items (Narrows c.in-Under.bottom given.auths) _ (rw c.in-Some.is at c.in_ok-top.ensures.key) (c.read_public_key.ensures.same c.args.auths.now) (rw c.in-Some-2.is at c.in_ok-bytes.ensures.bytes) gives in
    inr (c.in-Under.bottom, given.auths, to, two_cut c.args.public.now c.in-Under.bottom c.args.into.now c.bytes.result.now (list_bytes auth_bytes given.auths) (file c.read_file.new.files) (file c.args.files.now) (file c.write_two.new.files) same more c.in_err-write_two-in-Under.ensures.failed)

pub returns-clause-ends : goal.returns-clause-ends
returns-clause-ends g c =
    let file = g.F.Files.file in
    let same : (n : List ℕ) → file c.read_file.new.files n ≡ file c.args.files.now n = λ n. c.read_file.ensures.same n ∙ c.read_public_key.ensures.same n in
    let given = gives_under _ _ _ c.in-Under.bottom c.in-Under.count c.in-Under.ensures in
    let gives : narrow_of c.in-Some.top c.in-Some-2.bytes.items ≡ Narrows c.in-Under.bottom given.auths = ap (λ (l : List ℕ). narrow_of c.in-Some.top l) (sym c.deref.ensures.value) ∙ given.is in
    let more : c.bytes.result.now ≡ list_bytes auth_bytes given.auths = c.bytes.ensures ∙ ap (λ (b : Buffer). b.bytes) given.bytes ∙ ap (λ (b : Buffer). b.bytes ++ list_bytes auth_bytes given.auths) c.in_ok-room.ensures in
    let to = refused_by c.args.key.now c.args.auths.now (file c.args.files.now) c.in-Some.top c.in-Some-2.bytes.items (Narrows c.in-Under.bottom given.auths) _ (rw c.in-Some.is at c.in_ok-top.ensures.key) (c.read_public_key.ensures.same c.args.auths.now) (rw c.in-Some-2.is at c.in_ok-bytes.ensures.bytes) gives in
    let written = c.in_ok-write_two-in-Under.ensures.written in
    rw c.in_ok-said-in-Under.ensures.end (
      c.in-Under.bottom,
      given.auths,
      to,
      given.count_is,
      subst (λ (o : Option (Option (List ℕ))). Written c.in-Under.bottom o (file c.write_two.new.files c.args.public.now)) (same c.args.public.now) written.0,
      subst (λ (m : List ℕ). Written m (file c.args.files.now c.args.into.now) (file c.write_two.new.files c.args.into.now)) more (subst (λ (o : Option (Option (List ℕ))). Written c.bytes.result.now o (file c.write_two.new.files c.args.into.now)) (same c.args.into.now) written.1),
    )
