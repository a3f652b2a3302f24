use Rattle.salt_loaded.proofs.Ordered.{no_twins, no_twins_more, twins_before}
use Rattle.salt_loaded.proofs.among.have_twins.Goals as goal
use Rattle.salt_loaded.specs.declared.order.Spot.{Spot}
use Rattle.std.proofs.Common.{ap, arith, is_eq, pos, sym, ◌∙◌}

-- what stands where nothing does
abbrev nothing : Spot
nothing = record { number = pos 0; at = 0; kind = 0 }

pub returns-then-is_eq : goal.returns-then-is_eq
returns-then-is_eq c = sym (twins_before c.args.bytes.now c.args.spots.now c.loop-i.i nothing c.requires c.loop-i.auto.i c.loop-i-test.true (ap is_eq (sym c.spot_cmp.ensures) ∙ sym c.is_eq.ensures ∙ c.if-is_eq.true))

pub loop-i-preserved : goal.loop-i-preserved
loop-i-preserved c = no_twins_more c.args.bytes.now c.args.spots.now c.loop-i.i nothing c.loop-i.auto.i c.loop-i-test.true c.loop-i.invariant (ap is_eq (sym c.spot_cmp.ensures) ∙ sym c.is_eq.ensures ∙ c.if-is_eq.false)

pub returns : goal.returns
returns c = sym (no_twins c.args.bytes.now c.args.spots.now c.requires (λ k d high. c.loop-i.invariant k d (omega (arith, high, c.loop-i-test.false, c.loop-i.auto.i))))
