-- A job in data.
use Rattle.std.specs.Prelude.{ℕ, List, Option, option_map}
use Rattle.std.specs.Borrow.{Bor}
use Rattle.avm_script.specs.Job.{SignedData, JobData, keygen, format, record_job, export, audit, check, rebut, list, sample, retain, roll, enroll, widen, narrow, view_at, view_changes}
use Rattle.avm_script.specs.declared.types.Signed.{Signed}
use Rattle.avm_script.specs.declared.types.Job.{Job}
use Rattle.avm_script.specs.declared.types.Job.TheVariants as job

abbrev pub signed_view : Signed → SignedData
signed_view s = record { key = s.key.now; auths = s.auths.now; evidence = s.evidence.now }

abbrev pub text_view : Option (Bor (List ℕ)) → Option (List ℕ)
text_view text = option_map (λ (t : Bor (List ℕ)). t.now) text

abbrev pub job_view : Job → JobData
job_view (job.Keygen height w id seed key public) = keygen height w id seed key.now public.now
job_view (job.Format store key config image) = format store.now key.now config.now image.now
job_view (job.Record store key script packets console auths) = record_job store.now key.now script.now packets.now console.now auths.now
job_view (job.Export store from to segment) = export store.now from to segment.now
job_view (job.Audit segment image signed) = audit segment.now (text_view image) (option_map signed_view signed)
job_view (job.Check key evidence) = check key.now evidence.now
job_view (job.Rebut store evidence) = rebut store.now evidence.now
job_view (job.List store) = list store.now
job_view (job.Sample seed) = sample seed
job_view (job.Retain store into at) = retain store.now into.now at
job_view (job.Roll store key) = roll store.now key.now
job_view (job.Enroll store key public endorse) = enroll store.now key.now public.now endorse.now
job_view (job.Widen endorse auths out) = widen endorse.now auths.now out.now
job_view (job.Narrow key auths public out) = narrow key.now auths.now public.now out.now
job_view (job.ViewAt segment count from words) = view_at segment.now count from words
job_view (job.ViewChanges segment at) = view_changes segment.now at
