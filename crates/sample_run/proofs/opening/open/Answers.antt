use Rattle.std.proofs.Common.{refl}
use Rattle.lms_signer.specs.Views.{key_data}
use Rattle.sample_run.proofs.Openings.{talk_is}
use Rattle.sample_run.proofs.opening.open.Goals as goal

pub returns : goal.returns
returns c =
    talk_is (key_data c.args.key.now) c.args.other c.public.result c.args.image.now c.in_ok-disk.disk _ c.public.ensures c.in_ok-disk.ensures c.in_ok-recorder.ensures.opens c.in_ok-recorder.ensures.key
    c.in_ok-feed.ensures.agenda c.in_ok-feed.ensures.side c.in_ok-feed.ensures.within c.in_ok-outlet.ensures.released refl
