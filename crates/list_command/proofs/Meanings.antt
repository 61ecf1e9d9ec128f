-- What the statuses of a listing say.
use Rattle.std.proofs.Common.{◌≡◌, ◌≢◌, inl, inr, ℕ, List, [], ◌++◌, Option, Some, None, IfSome, IsSome, sym, ap, subst, ◌∙◌, append-nil}
use Rattle.std.specs.Prelude.{option_map}
use Rattle.std.specs.List.{concat}
use Rattle.avm_model.specs.HeadReading.{head_of}
use Rattle.journal_model.specs.Journal.{JournalData, journal_of, Is, NoStore, Damaged}
use Rattle.list_command.specs.Listing.{IsListed, IsListing, IsNoStore, listing}
use Rattle.list_command.specs.Meaning.{ListMeans}
use Rattle.list_command.specs.Outcomes.{Ended, NoMemory, FaultDisk, Reaches, ListEnds}
use Rattle.list_command.specs.declared.ends.End.TheVariants.{Listed, RefusedNoStore, RefusedDamaged}
use Rattle.list_command.proofs.Telling.{if_map}

-- ---- 0 is a listing

printed_is : (was : List ℕ) (lines : List (List ℕ)) (before after : Option (List ℕ)) → after ≡ option_map (λ w. w ++ concat (lines ++ [])) before → IsListing was lines → (j : JournalData) × IsListed was j × (after ≡ option_map (λ w. w ++ concat (listing j)) before)
printed_is was lines before after e (j, l, is) =
    (j, l, e ∙ ap (λ (ls : List (List ℕ)). option_map (λ w. w ++ concat ls) before) (append-nil lines ∙ sym is))

listed_zero : (told : Option (List ℕ)) (db dn b n : ℕ) (ob on : Option (List ℕ)) (result : ℕ) → ListEnds told db dn b n ob on result → result ≡ 0
    → IfSome told (λ was. (j : JournalData) × IsListed was j × (on ≡ option_map (λ w. w ++ concat (listing j)) ob))
listed_zero told db dn b n ob on result (o, said, reach, counts, inr p) z = absurd (let h : 4 ≡ 0 = sym p.0 ∙ z in cc)
listed_zero told db dn b n ob on result (Ended Listed, said, reach, counts, inl p) z =
    if_map told (λ was. IsListing was said) (λ was. (j : JournalData) × IsListed was j × (on ≡ option_map (λ w. w ++ concat (listing j)) ob)) (λ was l. printed_is was said ob on p.1.1 l) reach
listed_zero told db dn b n ob on result (Ended RefusedNoStore, said, reach, counts, inl p) z = absurd (let h : 2 ≡ 0 = sym p.0 ∙ z in cc)
listed_zero told db dn b n ob on result (Ended (RefusedDamaged q), said, reach, counts, inl p) z = absurd (let h : 2 ≡ 0 = sym p.0 ∙ z in cc)
listed_zero told db dn b n ob on result (NoMemory, said, reach, counts, inl p) z = absurd (let h : 5 ≡ 0 = sym p.0 ∙ z in cc)
listed_zero told db dn b n ob on result (FaultDisk, said, reach, counts, inl p) z = absurd (let h : 4 ≡ 0 = sym p.0 ∙ z in cc)

-- ---- a journal is listed

some_not_none : {A : Type 0} (o : Option A) → IsSome o → o ≡ None → ⊥
some_not_none None s e = cc
some_not_none (Some x) s e = cc

not_refused : (was : List ℕ) (j : JournalData) → IsListed was j → IsNoStore was → ⊥
not_refused was j l (inl none) = let e : Is j ≡ NoStore = sym l.is ∙ none in cc
not_refused was j l (inr (i, is, none)) =
    let e : Is j ≡ Is i = sym l.is ∙ is in
    let same : j ≡ i = cc in
    some_not_none (head_of j.header.head) l.head (ap (λ (x : JournalData). head_of x.header.head) same ∙ none)

not_damaged : (was : List ℕ) (j : JournalData) (p : ℕ) → IsListed was j → journal_of was ≡ Damaged p → ⊥
not_damaged was j p l e = let h : Is j ≡ Damaged p = sym l.is ∙ e in cc

lists_zero : (told : Option (List ℕ)) (db dn b n : ℕ) (ob on : Option (List ℕ)) (result : ℕ) → ListEnds told db dn b n ob on result → (was : List ℕ) (j : JournalData) → told ≡ Some was → IsListed was j → result ≢ 4 → result ≢ 5 → result ≡ 0
lists_zero told db dn b n ob on result (o, said, reach, counts, inr p) was j is l four five = absurd (four p.0)
lists_zero told db dn b n ob on result (Ended Listed, said, reach, counts, inl p) was j is l four five = p.0
lists_zero told db dn b n ob on result (Ended RefusedNoStore, said, reach, counts, inl p) was j is l four five =
    absurd (not_refused was j l (subst (λ (t : Option (List ℕ)). IfSome t (λ was. Reaches was (Ended RefusedNoStore) said)) is reach).0)
lists_zero told db dn b n ob on result (Ended (RefusedDamaged q), said, reach, counts, inl p) was j is l four five =
    absurd (not_damaged was j q l (subst (λ (t : Option (List ℕ)). IfSome t (λ was. Reaches was (Ended (RefusedDamaged q)) said)) is reach).0)
lists_zero told db dn b n ob on result (NoMemory, said, reach, counts, inl p) was j is l four five = absurd (five p.0)
lists_zero told db dn b n ob on result (FaultDisk, said, reach, counts, inl p) was j is l four five = absurd (four p.0)

pub means : (told : Option (List ℕ)) (db dn b n : ℕ) (ob on : Option (List ℕ)) (result : ℕ) → ListEnds told db dn b n ob on result → ListMeans told ob on result
means told db dn b n ob on result e = record { listed = listed_zero told db dn b n ob on result e; lists = lists_zero told db dn b n ob on result e }
