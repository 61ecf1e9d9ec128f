-- The examples, computed.
use Rattle.std.proofs.Common.{◌≡◌, ℕ, List, true, false, Some, [], ◌∷◌, ◌++◌, replicate, refl}
use Rattle.std.proofs.lemmas.Slice.Eq.{bytes_eq-Decides}
use Rattle.std.specs.Str.{bytes_eq}
use Rattle.avm_num.specs.Walk.{items_of, behind_of}
use Rattle.avm_model.specs.Chain.{next_hash}
use Rattle.avm_model.specs.Content.{content_at}
use Rattle.avm_model.specs.Frame.{frame_at}
use Rattle.avm_model.specs.Parts.{ordinal_at, count_at}
use Rattle.avm_model.specs.LmsTypes.{height_of}
use Rattle.journal_model.specs.Part.{part_at, signing}
use Rattle.journal_model.specs.Header.{most_leaves, pages_in}
use Rattle.journal_model.specs.Journal.{journal_from, next_gate, items_at, joined, with_parts, continues, next_number, entries, used, parts}
use Rattle.journal_model.specs.Standing.{bound, signed_items}
use Rattle.avm_model.specs.Hash.{hash_of}
use Rattle.rebut_model.specs.Rebuts.{forged, rebuts}
use Rattle.rebut_model.specs.Texts.{collide, differ, first_of_all, texts}
use Rattle.journal_worked.specs.Stores.{read_from, shape_of, Broken, Seen_as, boot_record, seal_record, out_record, opened, made_store, made_fork, boot_frame, sealed_store, sealed_fork}

pub first : shape_of (read_from (1 ∷ seal_record ++ 0 ∷ [])) ≡ Broken 300
unfolding journal_from next_gate items_at joined with_parts continues part_at frame_at ordinal_at count_at content_at items_of behind_of next_number entries used parts signing most_leaves height_of pages_in signed_items
first = refl

pub cut : shape_of (read_from (1 ∷ boot_record ++ 1 ∷ seal_record)) ≡ Broken 359
unfolding journal_from next_gate items_at joined with_parts continues part_at frame_at ordinal_at count_at content_at items_of behind_of next_number entries used parts signing most_leaves height_of pages_in signed_items
cut = refl

pub closed : shape_of (read_from (1 ∷ boot_record ++ 0 ∷ seal_record ++ 1 ∷ out_record ++ 0 ∷ [])) ≡ Seen_as (record { sizes = 1 ∷ []; next = 2; leaves = [] })
unfolding journal_from next_gate items_at joined with_parts continues part_at frame_at ordinal_at count_at content_at items_of behind_of next_number entries used parts signing most_leaves height_of pages_in signed_items
closed = refl

pub three : shape_of (read_from (1 ∷ boot_record ++ 1 ∷ seal_record ++ 1 ∷ out_record ++ 0 ∷ [])) ≡ Seen_as (record { sizes = 1 ∷ 1 ∷ 1 ∷ []; next = 3; leaves = 0 ∷ [] })
unfolding journal_from next_gate items_at joined with_parts continues part_at frame_at ordinal_at count_at content_at items_of behind_of next_number entries used parts signing most_leaves height_of pages_in signed_items
three = refl

pub never_signed : rebuts opened.machine made_store made_fork ≡ Some (forged 0)
unfolding rebuts bound signed_items entries parts
never_signed = refl

bytes_same : (x : List ℕ) → bytes_eq x x ≡ true
bytes_same x = (bytes_eq-Decides x x).1 refl

pub second_forged : rebuts opened.machine sealed_store sealed_fork ≡ Some (forged 1)
unfolding rebuts bound signed_items entries parts
second_forged = rw (bytes_same (next_hash (replicate 32 0) boot_frame)) refl

-- equal texts are passed over
same_passes : (x : List ℕ) → differ (texts x x) ≡ false
same_passes x = rw (bytes_same x) refl

pub meet : (same x y : List ℕ) → differ (texts x y) ≡ true → hash_of x ≡ hash_of y → first_of_all collide (texts same same ∷ texts x y ∷ []) ≡ Some (texts x y)
meet same x y other one = rw (same_passes same, other, one, bytes_same (hash_of y)) refl
