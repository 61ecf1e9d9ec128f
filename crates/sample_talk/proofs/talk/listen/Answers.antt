use Rattle.std.proofs.Common.{rules, ◌≡◌, ◌+◌, ◌<◌, ℕ, None, Some, drop, length, sym, subst, arith}
use Rattle.std.specs.Prelude.{slice_get}
use Rattle.std.proofs.lemmas.Option.{slice_get_within}
use Rattle.sample_model.specs.Other.{hear_all}
use Rattle.avm_outside.specs.MemOutlets.{outlet_released}
use Rattle.sample_talk.specs.Talking.{IsHearing}
use Rattle.sample_talk.proofs.Hearing.{hearing_ends, hears_on, none_past}
use Rattle.sample_talk.proofs.talk.listen.Goals as goal

pub packets-preserved : goal.packets-preserved
packets-preserved c =
    let got : slice_get (outlet_released c.args.outlet.now).packets c.packets.place ≡ Some (c.in-Some._peer, c.in-Some.bytes.now) = sym c.in-Some.ensures in
    let up : c.in-Some-checked_add.next ≡ c.packets.place + 1 = search rules in
    let all = hear_all c.args.other.now (drop c.args.from (outlet_released c.args.outlet.now).packets) in
    let low : c.packets.place < length (outlet_released c.args.outlet.now).packets = slice_get_within _ _ _ got in
    record {
      within = c.in_ok-hear.ensures.within;
      place = omega (arith, up, low);
      hearing = subst (λ (n : ℕ). IsHearing all (outlet_released c.args.outlet.now).packets n c.hear.new.self c.args.feed.now c.hear.new.feed) (sym up)
          (hears_on all (outlet_released c.args.outlet.now).packets c.packets.place (c.in-Some._peer, c.in-Some.bytes.now) c.packets.other c.hear.new.self c.args.feed.now c.packets.feed c.hear.new.feed got c.packets.invariant.hearing c.in_ok-hear.ensures.said);
    }

pub returns-clause-said : goal.returns-clause-said
returns-clause-said c =
    let past : slice_get (outlet_released c.args.outlet.now).packets c.packets.place ≡ None = search rules in
    hearing_ends _ (outlet_released c.args.outlet.now).packets c.packets.place c.packets.other c.args.feed.now c.packets.feed past c.packets.invariant.hearing

pub returns-clause-place : goal.returns-clause-place
returns-clause-place c =
    let past : slice_get (outlet_released c.args.outlet.now).packets c.packets.place ≡ None = search rules in
    let high = none_past (outlet_released c.args.outlet.now).packets c.packets.place past in
    omega (arith, high, c.packets.invariant.place)
