use Rattle.std.proofs.Common.{rules, ◌≡◌, ◌≤◌, ◌⊎◌, ℕ, arith, inl, inr}
use Rattle.std.proofs.lemmas.List.{length-take-le, length-replicate}
use Rattle.std.specs.Prelude.{replicate}
use Rattle.spare_disk.proofs.Blanks.{wiped_told, zeros_at, wiped_all, both_parts, still_long, fits_long}
use Rattle.spare_disk.proofs.preparing.wipe.Goals as goal

pub loop-at-preserved : goal.loop-at-preserved
loop-at-preserved g c = record {
  low = search rules;
  high = inl (omega (arith, c.min-size.ensures, c.loop-at-test.true));
  end_is = search rules;
  within = still_long c.loop-at.at _ c.args.len _ _ c.in_ok-put_zeros.ensures.written (omega (arith, c.min-end.ensures, c.loop-at-test.true)) c.loop-at.invariant.within;
  wiped = wiped_told c.args.from c.loop-at.at c.min-size.result _ _ _ _ (length-take-le c.min-size.result (replicate 4096 0) (omega (arith, c.min-size.ensures, length-replicate {A = ℕ} 4096 0))) c.loop-at.invariant.wiped c.in_ok-put_zeros.ensures.written c.loop-at.invariant.low (fits_long _ c.args.len _ (omega (arith, c.min-size.ensures, c.min-end.ensures, c.loop-at-test.true)) c.loop-at.invariant.within) (zeros_at c.min-size.result (omega (arith, c.min-size.ensures)));
  blank = λ each. c.put_zeros.ensures.blank (c.loop-at.invariant.blank each);
  any_moment = both_parts g.E.Disk.moment g.E.Disk.left_since g.E.Disk.may_leave g.met.E.Disk.only_now _ _ _ c.loop-at.invariant.blank c.loop-at.invariant.any_moment c.put_zeros.ensures.any_moment;
  faults = search rules;
}

high_is : (at end from len : ℕ) → end ≤ len → (at ≤ end) ⊎ (at ≡ from) → (at ≤ len) ⊎ (at ≡ from)
high_is at end from len le (inl a) = inl (omega (arith, a, le))
high_is at end from len le (inr e) = inr e

pub returns-clause-wiped : goal.returns-clause-wiped
returns-clause-wiped g c = wiped_all _ _ _ _ _ c.loop-at.invariant.wiped (λ p lt small. omega (arith, lt, small, c.min-end.ensures, c.loop-at-test.false)) (high_is _ _ _ _ (omega (arith, c.min-end.ensures)) c.loop-at.invariant.high)
