-- What the code compares, without where it lies in memory.
use Rattle.rebut_texts.specs.Places.{Trees, trees}
use Rattle.rebut_texts.specs.declared.pages.Pair.{Pair}

abbrev pub trees_of : Pair → Trees
trees_of p = trees p.ours.now p.our_pages.now p.theirs.now p.their_pages.now
