use Rattle.std.proofs.Common.{Option, Some, None, sym, ap, ◌∙◌}
use Rattle.std.specs.Prelude.{option_map}
use Rattle.avm_model.specs.Content.{ContentData}
use Rattle.log_entry.specs.Views.{frame_view, content_view}
use Rattle.log_entry.specs.declared.kinds.Content.{Content}
use Rattle.record_kept.proofs.Rebuilds.{read_is, unread, no_message, came, went}
use Rattle.record_kept.proofs.rebuilding.keep_entry.Goals as goal

pub returns-in_default-clause-kept : goal.returns-in_default-clause-kept
returns-in_default-clause-kept c = λ es e f t kept.
    let none = ap (λ (x : Option Content). option_map content_view x) (sym c.in_default.is) ∙ c.content.ensures.exact in
    unread c.args.kept.now.rows es e (read_is e (frame_view c.args.frame.now) None f none) kept

pub returns-in-Some-came_from-clause-kept : goal.returns-in-Some-came_from-clause-kept
returns-in-Some-came_from-clause-kept c = λ es e f t kept.
    let d : ContentData = content_view c.in-Some.content in
    let some = ap (λ (x : Option Content). option_map content_view x) (sym c.in-Some.is) ∙ c.content.ensures.exact in
    let w = came d c.in-Some-came_from.peer (sym c.in-Some-came_from.is ∙ c.came_from.ensures) in
    c.add_recv.ensures.kept es e w.count w.packet (read_is e (frame_view c.args.frame.now) (Some d) f some ∙ ap (λ (x : ContentData). Some x) w.is) w.from t kept

pub returns-in_default-sent_to-clause-kept : goal.returns-in_default-sent_to-clause-kept
returns-in_default-sent_to-clause-kept c = λ es e f t kept.
    let d : ContentData = content_view c.in-Some.content in
    let some = ap (λ (x : Option Content). option_map content_view x) (sym c.in-Some.is) ∙ c.content.ensures.exact in
    no_message c.args.kept.now.rows es e d (read_is e (frame_view c.args.frame.now) (Some d) f some) (sym c.in_default-came_from.is ∙ c.came_from.ensures) (sym c.in_default-sent_to.is ∙ c.sent_to.ensures) kept

pub returns-clause-kept : goal.returns-clause-kept
returns-clause-kept c = λ es e f t kept.
    let d : ContentData = content_view c.in-Some.content in
    let some = ap (λ (x : Option Content). option_map content_view x) (sym c.in-Some.is) ∙ c.content.ensures.exact in
    let w = went d c.in-Some-sent_to.peer c.in-Some-sent_to.number (sym c.in-Some-sent_to.is ∙ c.sent_to.ensures) in
    c.add_send.ensures.kept es e w.count w.payload (read_is e (frame_view c.args.frame.now) (Some d) f some ∙ ap (λ (x : ContentData). Some x) w.is) t kept
