use Rattle.std.proofs.Common.{◌≡◌, List, ℕ, ◌+◌, ◌-◌, ◌++◌, length, take, drop, ap, subst, ◌∙◌, append_assoc, arith}
use Rattle.std.proofs.lemmas.List.{take_rest, length-drop}
use Rattle.boot_stream.specs.Booting.{Saw}
use Rattle.boot_stream.proofs.Streamed.{two_pieces}
use Rattle.boot_stream.proofs.stream.BootStream.feed.Goals as goal

pub loop-at-preserved : goal.loop-at-preserved
loop-at-preserved c =
    let lt = c.loop-at-test.true in
    let n = c.in_ok-count.count in
    record {
      within = (let r = ap length (take_rest c.args.piece.now c.loop-at.at) in let few = c.in_ok-count.ensures.count in omega (arith, r, few, lt, length-drop c.loop-at.at c.args.piece.now));
      seen = λ image bytes s.
          let old = c.loop-at.invariant.seen image bytes s in
          let eq : (bytes ++ take c.loop-at.at c.args.piece.now) ++ take n (take (length c.args.piece.now - c.loop-at.at) (drop c.loop-at.at c.args.piece.now)) ≡ bytes ++ take (c.loop-at.at + n) c.args.piece.now =
          ap (λ (t : List ℕ). (bytes ++ take c.loop-at.at c.args.piece.now) ++ take n t) (take_rest c.args.piece.now c.loop-at.at) ∙ append_assoc bytes (take c.loop-at.at c.args.piece.now) (take n (drop c.loop-at.at c.args.piece.now)) ∙ ap (λ (t : List ℕ). bytes ++ t) (two_pieces c.loop-at.at n c.args.piece.now) in
          subst (λ (t : List ℕ). Saw c.step.new.self image t) eq (c.in_ok-count.ensures.seen image (bytes ++ take c.loop-at.at c.args.piece.now) old);
    }
