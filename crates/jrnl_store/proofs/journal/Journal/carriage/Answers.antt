use Rattle.std.proofs.Common.{◌≡◌, ◌∙◌, ◌+◌, ◌*◌, ◌-◌, ℕ, false, refl, sym, ap, subst, take, arith}
use Rattle.journal_model.specs.Header.{judged_carried}
use Rattle.journal_model.specs.Standing.{IsLow}
use Rattle.jrnl_part.specs.Views.{standing_view}
use Rattle.jrnl_store.specs.Kept.{Kept, kept}
use Rattle.jrnl_store.proofs.Carriages.{carriage_refused, carriage_given, carriage_held}
use Rattle.jrnl_store.proofs.journal.Journal.carriage.Goals as goal

pub returns-then-not-is_carriage-clause-answers : goal.returns-then-not-is_carriage-clause-answers
returns-then-not-is_carriage-clause-answers g c =
    let at : ℕ = 113 + c.args.self.now.head_len + 4096 * c.args.self.now.bounds.pages in
    let fits = c.args.self.now.carriage in
    let all : at + (c.args.self.now.front - at) ≡ c.args.self.now.front = omega (arith, fits) in
    carriage_refused (kept c.args.self.now) (kept c.fill.new.self) c.args.cursor.now c.args.cursor.now c.fill.new.self.buffer.items at (c.args.self.now.front - at) c.fill.ensures.kept c.requires.carried refl all _ c.in-Ok.ensures.bytes
    (λ cs e. c.if-not-is_carriage.ensures cs (ap (judged_carried c.fill.new.self.bounds.first c.fill.new.self.leaves) (ap (take (c.args.self.now.front - at)) c.deref.ensures.value) ∙ e))

pub returns-clause-held : goal.returns-clause-held
returns-clause-held g c =
    let at : ℕ = 113 + c.args.self.now.head_len + 4096 * c.args.self.now.bounds.pages in
    let fits = c.args.self.now.carriage in
    let few = c.args.self.now.header in
    let all : at + (c.args.self.now.front - at) ≡ c.args.self.now.front = omega (arith, fits) in
    let v = c.if-not-is_carriage.ensures in
    record {
      few = omega (arith, few);
      low = subst (λ (x : Kept). IsLow x.bounds (standing_view c.args.cursor.now.stand)) (sym c.fill.ensures.kept) c.requires.cursor;
      whole = carriage_held (kept c.args.self.now) (kept c.fill.new.self) c.args.cursor.now c.args.cursor.now c.fill.new.self.buffer.items at (c.args.self.now.front - at) c.fill.ensures.kept c.requires.carried refl all c.args.self.now.earlier
          (v.0, ap (judged_carried c.fill.new.self.bounds.first c.fill.new.self.leaves) (ap (take (c.args.self.now.front - at)) (sym c.deref.ensures.value)) ∙ v.1);
    }

pub returns-clause-answers : goal.returns-clause-answers
returns-clause-answers g c =
    let at : ℕ = 113 + c.args.self.now.head_len + 4096 * c.args.self.now.bounds.pages in
    let fits = c.args.self.now.carriage in
    let all : at + (c.args.self.now.front - at) ≡ c.args.self.now.front = omega (arith, fits) in
    carriage_given (kept c.args.self.now) (kept c.fill.new.self) c.args.cursor.now (record { carried = false; place = c.args.cursor.now.place; stand = c.args.cursor.now.stand }) c.fill.new.self.buffer.items at (c.args.self.now.front - at) c.fill.ensures.kept c.requires.carried refl all _ c.args.self.now.earlier refl c.in-Ok.ensures.bytes
