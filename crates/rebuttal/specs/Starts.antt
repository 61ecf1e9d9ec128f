-- A reading in front of a journal's first item.
use Rattle.std.specs.Prelude.{◌≡◌, []}
use Rattle.avm_model.specs.Evidence.{EvidData}
use Rattle.avm_model.specs.Machine.{State}
use Rattle.journal_model.specs.Journal.{JournalData, entries}
use Rattle.jrnl_store.specs.Kept.{Kept}
use Rattle.rebut_model.specs.Texts.{first_of_all, differ}
use Rattle.rebut_texts.specs.Walk.{walk_view, finds}
use Rattle.rebut_judge.specs.Judging.{judge_view, JudgedTo}
use Rattle.rebut_pass.specs.Looking.{sought_view, sought_of}
use Rattle.rebuttal.specs.Seen.{entry_part, first_auth, second_auth}
use Rattle.rebut_judge.specs.declared.reading.Reading.{Reading}

-- from the state of the header on, beside the evidence
pub record IsStart (k : Kept) (s : State) (e : EvidData) (r : Reading) : Type 0 where
  pub judge : JudgedTo s k.bounds.first [] (judge_view r.judge)
  pub one : sought_view r.one ≡ sought_of k (first_auth e)
  pub two : sought_view r.two ≡ sought_of k (second_auth e)
  pub walk : (j : JournalData) → j.header.before ≡ k.before → finds (walk_view r.walk) (entries j) ≡ first_of_all differ (entry_part j e)
