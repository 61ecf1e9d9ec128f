use Rattle.honest_model.proofs.Marked.{kept_marks, marked_pages, kept_behind}
use Rattle.honest_model.proofs.laws.marks_tell_pages.Goals as goal

pub returns-clause-kept : goal.returns-clause-kept
returns-clause-kept c h before old new k m = kept_marks h before old new k m

pub returns-clause-pages : goal.returns-clause-pages
returns-clause-pages c h before s dirty pages k m = marked_pages h before s dirty pages k m

pub returns-clause-behind : goal.returns-clause-behind
returns-clause-behind c h before s dirty k p size = kept_behind h before s dirty k p size
