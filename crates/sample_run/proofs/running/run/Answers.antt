use Rattle.std.proofs.Common.{ap, ◌∙◌}
use Rattle.lms_signer.specs.Views.{key_data}
use Rattle.sample_parts.specs.Nodes.{image_of, key_of}
use Rattle.sample_run.proofs.Openings.{image_is, sampled, side_is}
use Rattle.sample_run.proofs.running.run.Goals as goal

pub returns : goal.returns
returns c =
    let key = c.in-Ok.ensures.key ∙ ap key_of c.generator-words.ensures in
    let side = side_is c.args.seed c.generator-words.result c.draw_key.new.rng c.draw_key-2.new.rng c.generator-words.ensures c.in-Ok.ensures.behind c.in-Ok-draw_key.ensures.behind c.draw_image.new.rng (key_data c.in-Ok-draw_key.peer) c.in_ok-other.other c.in-Ok-draw_image.ensures.behind c.in-Ok-draw_key.ensures.key c.in_ok-other.ensures in
    let image = c.deref.ensures.value ∙ c.in-Ok-draw_image.ensures.bytes ∙ ap image_of (image_is c.args.seed c.generator-words.result c.draw_key.new.rng c.draw_key-2.new.rng c.generator-words.ensures c.in-Ok.ensures.behind c.in-Ok-draw_key.ensures.behind) in
    let s = sampled c.args.seed (key_data c.in-Ok.key) c.in_ok-other.other c.deref.result.now c.in_ok-talk.talk c.converse.new.talk key side image c.in_ok-talk.ensures c.in_ok-converse.ensures in
    record { key = key; last = s.0; sample = s.1; left = s.2; running = s.3 }
