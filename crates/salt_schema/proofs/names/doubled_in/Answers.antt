use Rattle.salt_ast.specs.Words.{is_among}
use Rattle.salt_schema.proofs.Distinct.{IsSeen-doubled, IsSeen-first, IsSeen-more}
use Rattle.salt_schema.proofs.names.doubled_in.Goals as goal
use Rattle.std.proofs.Common.{Some, ap, false, map, sym, take, true, ◌||◌, ◌∙◌, ◌∷◌, ◌≡◌}

pub loop-at-init : goal.loop-at-init
loop-at-init g c = (map g.T.Named.name c.args.before.now, IsSeen-first g.T.Named.name (map g.T.Named.name c.args.before.now) c.args.items.now)

pub loop-at-preserved : goal.loop-at-preserved
loop-at-preserved g c =
    let x = c.index-items-at.result in
    let before = map g.T.Named.name c.args.before.now in
    let new : (is_among (g.T.Named.name x) before || is_among (g.T.Named.name x) (map g.T.Named.name (take c.loop-at.at c.args.items.now))) ≡ false =
    rw (← c.name-name.ensures) (sym c.is_seen.ensures ∙ c.if-is_seen.false) in (
      g.T.Named.name x ∷ c.loop-at.invariant.0,
      IsSeen-more g.T.Named.name before c.args.items.now c.loop-at.at x c.loop-at.invariant.0 c.loop-at.invariant.1 c.loop-at-test.true c.index-items-at.is new,
    )

pub returns-then-is_seen : goal.returns-then-is_seen
returns-then-is_seen g c =
    let x = c.index-items-at.result in
    let before = map g.T.Named.name c.args.before.now in
    let old : (is_among (g.T.Named.name x) before || is_among (g.T.Named.name x) (map g.T.Named.name (take c.loop-at.at c.args.items.now))) ≡ true =
    rw (← c.name-name.ensures) (sym c.is_seen.ensures ∙ c.if-is_seen.true) in
    ap Some c.name-name.ensures
    ∙ sym (IsSeen-doubled g.T.Named.name before c.args.items.now c.loop-at.at x c.loop-at.invariant.0 c.loop-at.invariant.1 c.loop-at-test.true c.index-items-at.is old)
