use Rattle.salt_decisions.proofs.Pairing.{pair_kept}
use Rattle.salt_decisions.proofs.open.peek.Goals as goal
use Rattle.salt_decisions.specs.Pair.{HasPair, IsCounted, pair_in}
use Rattle.salt_decisions.specs.Which.{which_in}
use Rattle.std.proofs.Common.{subst, sym, ◌∙◌}

pub returns-in_ok-kept_of-in-Counts-clause-answer : goal.returns-in_ok-kept_of-in-Counts-clause-answer
returns-in_ok-kept_of-in-Counts-clause-answer g c told =
    let d = g.D.Disks.view c.args.disks.now in
    let e = g.D.Disks.view c.read_pair.new.disks in
    let keeps = c.in_ok-read_pair.ensures.kept in
    let h : IsCounted e (which_in c.in-Counts.which) c.in-Counts.log = subst (λ p. HasPair e (pair_in p)) c.in-Counts.is c.in_ok-read_pair.ensures.pair in
    record {
      which = which_in c.in-Counts.which;
      log = h.read.log;
      counts = sym (pair_kept d e keeps) ∙ h.counts (keeps.shape.told ∙ told);
      has_shape = h.read.is_of.shape;
      keeps = c.in_ok-kept_of-in-Counts.ensures.keeps h.read.log h.read.is_of;
      device = c.in_ok-kept_of-in-Counts.ensures.device;
    }

pub returns-in_ok-kept_of-in-Counts-clause-keeps : goal.returns-in_ok-kept_of-in-Counts-clause-keeps
returns-in_ok-kept_of-in-Counts-clause-keeps g c =
    let e = g.D.Disks.view c.read_pair.new.disks in
    let h : IsCounted e (which_in c.in-Counts.which) c.in-Counts.log = subst (λ p. HasPair e (pair_in p)) c.in-Counts.is c.in_ok-read_pair.ensures.pair in
    (h.read.log, c.in_ok-kept_of-in-Counts.ensures.keeps h.read.log h.read.is_of)
