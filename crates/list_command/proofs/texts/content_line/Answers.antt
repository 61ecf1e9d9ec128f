use Rattle.std.proofs.Common.{◌≡◌, ◌++◌, ◌∷◌, [], IfOk, List, ℕ, string_bytes, sym, subst}
use Rattle.std.specs.Fmt.{decimal}
use Rattle.avm_model.specs.Content.{count_of}
use Rattle.list_model.specs.Lines.{name_of, words_of}
use Rattle.log_entry.specs.Views.{content_view}
use Rattle.list_command.proofs.WordEnds.{words_end}
use Rattle.list_command.proofs.texts.content_line.Goals as goal

pub returns : goal.returns
returns c =
    let cv = content_view c.args.content.now in
    let e = words_end (decimal c.args.seq) (name_of cv) (decimal (count_of cv)) (words_of cv) (10 ∷ []) in
    let here : IfOk c.format.result (λ t. string_bytes t ≡ decimal c.args.seq ++ (32 ∷ (name_of cv ++ (32 ∷ (decimal (count_of cv) ++ (words_of cv ++ 10 ∷ [])))))) =
    rw (c.name_of-name.ensures, c.count_of-count.ensures, c.in_ok-words.ensures) at c.format.ensures.ok in
    subst (λ (l : List ℕ). IfOk c.format.result (λ t. string_bytes t ≡ l)) (sym e) here
