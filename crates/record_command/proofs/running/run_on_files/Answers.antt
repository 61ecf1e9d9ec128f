use Rattle.std.proofs.Common.{◌≡◌, ◌∙◌, ap, rules}
use Rattle.file_outlet.specs.RunFiles.{Held}
use Rattle.record_command.proofs.Lent.{packets_same, console_same, auths_same, others_stay}
use Rattle.record_command.proofs.running.run_on_files.Goals as goal

pub returns-clause-runs : goal.returns-clause-runs
returns-clause-runs g c =
    let n = c.run.new.outlet in
    let tied : c.files-1.given.0 ≡ n.files.now = search rules in
    let packets : n.packets.now ≡ c.args.names.packets.now = packets_same _ _ c.run.ensures.loan ∙ c.new-outlet.ensures.packets in
    let console : n.console.now ≡ c.args.names.console.now = console_same _ _ c.run.ensures.loan ∙ c.new-outlet.ensures.console in
    let auths : n.auths.now ≡ c.args.names.auths.now = auths_same _ _ c.run.ensures.loan ∙ c.new-outlet.ensures.auths in
    let runs = rw (c.new-feed.ensures, c.new-outlet.ensures.files, c.new-outlet.ensures.packets, c.new-outlet.ensures.console, c.new-outlet.ensures.auths, packets, console, auths) at c.run.ensures.runs in
    rw tied runs

pub returns-clause-others : goal.returns-clause-others
returns-clause-others g c =
    let o = c.new-outlet.result in
    let n = c.run.new.outlet in
    let tied : c.files-1.given.0 ≡ n.files.now = search rules in
    let old : Held = record { packets = o.packets.now; console = o.console.now; auths = o.auths.now; files = g.F.Files.file o.files.now } in
    let new : Held = record { packets = n.packets.now; console = n.console.now; auths = n.auths.now; files = g.F.Files.file n.files.now } in
    rw tied (λ i p q a.
    others_stay _ _ old new c.run.ensures.loan i (λ e. p (e ∙ c.new-outlet.ensures.packets)) (λ e. q (e ∙ c.new-outlet.ensures.console)) (λ e. a (e ∙ c.new-outlet.ensures.auths))
    ∙ ap (λ f. g.F.Files.file f i) c.new-outlet.ensures.files)
