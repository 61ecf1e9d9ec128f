-- The shared parts are read as they are spelled.
use Rattle.std.proofs.Common.{ℕ, ◌^◌, ◌<◌, ◌≤◌, ◌&&◌, nat_lt, nat_le, List, [], length, refl, subst, ◌∙◌, arith, ltb-true, leb-true, lt-ltb, le-leb}
use Rattle.std.specs.Int.{w32, w64}
use Rattle.avm_num.specs.Lists.{be, sized_bytes}
use Rattle.avm_num.proofs.Numbers.{Front, kept_some, and_true}
use Rattle.avm_num.proofs.Fields.{Reads, start, next, goes, reads_32, reads_64, reads_sized}
use Rattle.avm_model.specs.Parts.{count_at, IsOrdinal, ordinal_at, longest_signature, signature_at}

pub reads_count : Reads count_at (be w64) (λ n. n < 2 ^ 62)
unfolding count_at
reads_count = record {
  front = λ bytes p fits e.
      let a = next reads_64 bytes [] bytes (start bytes fits) _ p e in
      let k = kept_some (nat_lt a.0.0 (2 ^ 62)) a.0 p a.3 in
      subst (λ (q : ℕ × List ℕ). Front bytes (be w64 q.0) q.1 × (q.0 < 2 ^ 62)) k.1 (a.1, ltb-true _ _ k.0);
  again = λ n rest lt. goes reads_64 n rest _ (omega (arith, lt)) ∙ rw (lt-ltb _ _ lt) refl;
}

pub reads_ordinal : Reads ordinal_at (be w64) IsOrdinal
unfolding ordinal_at
reads_ordinal = record {
  front = λ bytes p fits e.
      let a = next reads_64 bytes [] bytes (start bytes fits) _ p e in
      let k = kept_some (nat_le 1 a.0.0 && nat_lt a.0.0 (2 ^ 62)) a.0 p a.3 in
      let t = and_true _ _ k.0 in
      subst (λ (q : ℕ × List ℕ). Front bytes (be w64 q.0) q.1 × IsOrdinal q.0) k.1 (a.1, record { first = leb-true _ _ t.0; below = ltb-true _ _ t.1 });
  again = λ n rest is. goes reads_64 n rest _ (let h = is.below in omega arith) ∙ rw (le-leb _ _ is.first, lt-ltb _ _ is.below) refl;
}

pub reads_signature : Reads signature_at (sized_bytes (be w32)) (λ sig. length sig ≤ longest_signature)
unfolding signature_at
reads_signature = record {
  front = λ bytes p fits e.
      let a = next (reads_sized reads_32) bytes [] bytes (start bytes fits) _ p e in
      let k = kept_some (nat_le (length a.0.0) longest_signature) a.0 p a.3 in
      subst (λ (q : List ℕ × List ℕ). Front bytes (sized_bytes (be w32) q.0) q.1 × (length q.0 ≤ longest_signature)) k.1 (a.1, leb-true _ _ k.0);
  again = λ sig rest le. goes (reads_sized reads_32) sig rest _ (omega (arith, le)) ∙ rw (le-leb _ _ le) refl;
}
