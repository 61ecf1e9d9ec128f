use Rattle.std.proofs.Common.{◌≡◌, Some, map, string_bytes, rules}
use Rattle.avm_script.specs.Job.{keygen, narrow, job_of}
use Rattle.avm_top.proofs.Names.{keygen_names, narrow_names}
use Rattle.avm_top.proofs.top.act.Goals as goal

pub keygen-requires-clause-apart : goal.keygen-requires-clause-apart
keygen-requires-clause-apart g c =
    let j = c.in-Ok-Keygen in
    let is : Some (keygen j.height j.w j.id j.seed j.key.now j.public.now) ≡ job_of (map string_bytes c.args.words.now) = search rules in
    keygen_names (map string_bytes c.args.words.now) j.height j.w j.id j.seed j.key.now j.public.now is

pub narrow-requires : goal.narrow-requires
narrow-requires g c =
    let j = c.in-Ok-Narrow in
    let is : Some (narrow j.key.now j.auths.now j.public.now j.into.now) ≡ job_of (map string_bytes c.args.words.now) = search rules in
    record { apart = narrow_names (map string_bytes c.args.words.now) j.key.now j.auths.now j.public.now j.into.now is }
