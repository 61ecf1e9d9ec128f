use Rattle.std.proofs.Common.{ap, ◌∙◌, ◌++◌, List, ℕ, append_assoc}
use Rattle.base_carried.proofs.picking.put_frame.Goals as goal

pub returns-in-Ok : goal.returns-in-Ok
returns-in-Ok c =
    c.in-Ok.ensures.items
    ∙ ap (λ (l : List ℕ). l ++ c.args.frame.now.content.now) c.in_ok-extend_from_slice.ensures.items
    ∙ append_assoc c.args.out.now.items c.frame_front-front.result c.args.frame.now.content.now
    ∙ ap (λ (l : List ℕ). c.args.out.now.items ++ l) c.frame_front-front.ensures
