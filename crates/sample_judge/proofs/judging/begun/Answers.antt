use Rattle.std.proofs.Common.{[], ◌∷◌, ap}
use Rattle.std.specs.Prelude.{map, string_bytes}
use Rattle.sample_lines.specs.Judging.{seed_line}
use Rattle.sample_judge.specs.Ends.{numbers_text}
use Rattle.sample_judge.proofs.Saying.{says_added}
use Rattle.sample_judge.proofs.judging.begun.Goals as goal

pub returns : goal.returns
returns c =
    let one = says_added c.seed_line.result (map string_bytes c.new-lines.result.items) (map string_bytes c.add.new.lines.items) [] (seed_line c.args.seed) c.seed_line.ensures c.in_ok-add.ensures (ap (map string_bytes) c.new-lines.ensures.items) in
    says_added c.numbers_line.result (map string_bytes c.add.new.lines.items) (map string_bytes c.add-2.new.lines.items) (seed_line c.args.seed ∷ []) (numbers_text c.args.last c.args.snaps c.args.used c.args.steps) c.numbers_line.ensures c.in_ok-add-2.ensures one
