use Rattle.std.proofs.Common.{◌≡◌, ◌-◌, nat_le, length, take, drop, ◌++◌, List, ℕ, sym, ap, subst, ◌∙◌}
use Rattle.std.proofs.lemmas.List.{take_rest, take-append-drop}
use Rattle.avm_model.specs.declared.Digest.{Digest}
use Rattle.seg_file.specs.Coming.{nothing}
use Rattle.seg_file.specs.Reading.{Goes}
use Rattle.seg_file.specs.declared.filling.Part.{Part}
use Rattle.audit_stream.specs.Heard.{Heard}
use Rattle.audit_stream.specs.Streaming.{Streaming, streaming_by}
use Rattle.audit_stream.proofs.Finishing.{heard_inside}
use Rattle.audit_stream.proofs.Openings.{nothing_yet, pages_said, front_heard, flag_set, head_is}
use Rattle.audit_stream.proofs.stream.AuditStream.open.Goals as goal

pub returns-then-not-is_head-clause-heard : goal.returns-then-not-is_head-clause-heard
returns-then-not-is_head-clause-heard c =
    nothing_yet c.take-count.result.1 c.take-count.new.self c.take-count.result.0 c.args.front.now c.args.key.now c.args.auths.now c.are_bytes.ensures (sym c.is_head.ensures ∙ c.if-not-is_head.true) c.take-count.ensures.all (c.take-count.ensures.goes nothing c.in_ok-reader.ensures)

pub subject_of-requires : goal.subject_of-requires
subject_of-requires c =
    let p = head_is c.take-count.result.1 (sym c.is_head.ensures ∙ c.if-not-is_head.false) in
    let g = subst (λ (x : Part). Goes x (take c.take-count.result.0 c.args.front.now) nothing c.take-count.new.self) p (c.take-count.ensures.goes nothing c.in_ok-reader.ensures) in
    pages_said c.take-count.new.self c.take-count.result.0 c.pages.result c.args.front.now c.head.result.now g c.pages.ensures c.head.ensures

pub returns-clause-heard : goal.returns-clause-heard
returns-clause-heard c =
    let n = c.take-count.result.0 in
    let front = c.args.front.now in
    let key = c.args.key.now in
    let auths = c.args.auths.now in
    let r = c.take-count.new.self in
    let p = head_is c.take-count.result.1 (sym c.is_head.ensures ∙ c.if-not-is_head.false) in
    let g = subst (λ (x : Part). Goes x (take n front) nothing r) p (c.take-count.ensures.goes nothing c.in_ok-reader.ensures) in
    let first = front_heard r c.in_ok-subject.subject n c.start.result front c.before-2.result.0 c.head.result.now key auths c.are_bytes.ensures g c.start.ensures (ap (λ (d : Digest). d.0) c.before-2.ensures) c.head.ensures c.in_ok-subject.ensures.none c.in_ok-subject.ensures.some in
    let fed = c.feed.ensures.heard key auths (take n front) first in
    let whole : take n front ++ take (length front - n) (drop n front) ≡ front = ap (λ (t : List ℕ). take n front ++ t) (take_rest front n) ∙ take-append-drop n front in
    let heard = subst (λ (t : List ℕ). Heard c.feed.new.self key auths t) whole fed in
    flag_set (streaming_by c.stream.inside) (nat_le 16384 (length front)) key auths front (ap (λ (a : Streaming). a.begun) c.stream.view_is ∙ c.feed.ensures.begun) (heard_inside (sym c.stream.view_is) key auths front heard)
