use Rattle.std.proofs.Common.{length, ap, sym, ◌∙◌}
use Rattle.sample_parts.proofs.Words.{drawn_long}
use Rattle.sample_parts.proofs.nodes.draw_key.Goals as goal

pub copy_from_slice-requires : goal.copy_from_slice-requires
copy_from_slice-requires c = sym (ap length (c.deref.ensures.value ∙ c.in_ok-draw_bytes.ensures.bytes) ∙ drawn_long 4 c.args.rng.now)

pub copy_from_slice-requires-2 : goal.copy_from_slice-requires-2
copy_from_slice-requires-2 c = sym (ap length (c.deref-2.ensures.value ∙ c.in_ok-draw_bytes-2.ensures.bytes) ∙ drawn_long 8 c.draw_bytes.new.rng)
