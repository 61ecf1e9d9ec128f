use Rattle.std.proofs.Common.{◌≡◌, ◌-◌, ◌++◌}
use Rattle.sample_parts.specs.Drawn.{drawn_bytes, behind}
use Rattle.sample_parts.proofs.drawing.draw_bytes.Given as goal

abbrev pub invariant-loop-i : goal.invariant-loop-i
invariant-loop-i l =
    (l.bytes.items ++ drawn_bytes (l.words - l._i) l.rng ≡ drawn_bytes l.words l.fn.rng) × (behind (l.words - l._i) l.rng ≡ behind l.words l.fn.rng)
