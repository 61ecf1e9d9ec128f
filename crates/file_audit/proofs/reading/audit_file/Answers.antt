use Rattle.std.proofs.Common.{◌≡◌, ◌≢◌, ◌∙◌, Some, Err, List, ℕ, Option, subst, sym, ap, rules}
use Rattle.command_parts.specs.Reading.{IsReadOf}
use Rattle.file_audit.specs.Audited.{bytes_view}
use Rattle.file_audit.specs.Hearing.{HearsFile}
use Rattle.file_audit.specs.declared.fault.Fault.TheVariants as fault
use Rattle.file_audit.proofs.Pieces.{heard_file, one_fault, err_is}
use Rattle.file_audit.proofs.reading.audit_file.Goals as goal

pub returns-in_err-hear_on-clause-no_fault : goal.returns-in_err-hear_on-clause-no_fault
returns-in_err-hear_on-clause-no_fault g c = λ ne.
    let rest : c.hear_on.result ≢ Err fault.Files = λ e.
    let same : c.in_err-hear_on.field-0.0 ≡ fault.Files = one_fault (sym c.in_err-hear_on.was ∙ e) in
    ne (err_is c.from_residual-in_err-hear_on.result c.in_err-hear_on.field-0.0 c.from_residual-in_err-hear_on.ensures.1 ∙ ap (λ x. Err x) same) in
    let first : g.F.Files.faults c.hear_on.new.files ≡ g.F.Files.faults c.read_whole.new.files = c.hear_on.ensures.no_fault rest in
    let second : g.F.Files.faults c.read_whole.new.files ≡ g.F.Files.faults c.args.files.now = c.in_ok-front.ensures.no_fault (λ x. cc) in
    first ∙ second

pub returns-clause-audited : goal.returns-clause-audited
returns-clause-audited g c =
    let name = c.args.name.now in
    let items = c.in-Some.front.items in
    let read : IsReadOf 16383 (g.F.Files.file c.args.files.now name) (Some items) = rw c.in-Some.is at c.in_ok-front.ensures.bytes in
    let placed : IsReadOf 16383 (g.F.Files.file c.read_whole.new.files name) (Some items) = subst (λ (t : Option (Option (List ℕ))). IsReadOf 16383 t (Some items)) (sym (c.read_whole.ensures.same name)) read in
    let heard : HearsFile c.args.key.now c.args.auths.now (bytes_view c.args.image) (g.F.Files.file c.read_whole.new.files name) c.hear_on.new.hearing = c.in_ok-hear_on.ensures.heard c.args.key.now c.args.auths.now (bytes_view c.args.image) items (search rules) c.in_ok-hearing.ensures.heard placed in
    heard_file c.args.key.now c.args.auths.now (bytes_view c.args.image) (g.F.Files.file c.args.files.now name) (g.F.Files.file c.read_whole.new.files name) c.args.keep c.hear_on.new.hearing c.finish.result (c.read_whole.ensures.same name) heard (c.in_ok-hear_on.ensures.keep ∙ c.in_ok-hearing.ensures.keep) c.finish.ensures
