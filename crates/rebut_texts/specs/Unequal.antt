-- Which of two texts of one number differ.
use Rattle.std.specs.Prelude.{ℕ, not, List, if◌then◌else◌}
use Rattle.std.specs.Str.{bytes_eq}
use Rattle.rebut_texts.specs.declared.texts.Unequal.{Unequal}
use Rattle.rebut_texts.specs.declared.texts.Unequal.TheVariants.{No, Link, Content}

-- the links where they differ, else the contents where these differ
abbrev pub unequal_of : List ℕ → List ℕ → List ℕ → List ℕ → Unequal
unequal_of our_link our_content their_link their_content =
    if not (bytes_eq our_link their_link) then Link else
    if not (bytes_eq our_content their_content) then Content else No
