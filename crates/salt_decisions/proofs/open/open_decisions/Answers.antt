use Rattle.salt_decisions.proofs.Begun.{opened_so, same_shape}
use Rattle.salt_decisions.proofs.Pairing.{pair_kept}
use Rattle.salt_decisions.proofs.open.open_decisions.Goals as goal
use Rattle.salt_decisions.specs.Opened.{begun}
use Rattle.salt_decisions.specs.Pair.{HasPair, IsCounted, pair_in}
use Rattle.salt_decisions.specs.Which.{which_in}
use Rattle.salt_stands.specs.Stands.{are_spent, is_same_shape}
use Rattle.std.proofs.Common.{ap, false, inl, inr, refl, subst, sym, true, ◌≡◌, ◌∙◌}

pub returns-then-not-is_same_shape-clause-err : goal.returns-then-not-is_same_shape-clause-err
returns-then-not-is_same_shape-clause-err g c told =
    let d = g.D.Disks.view c.args.disks.now in
    let e = g.D.Disks.view c.read_pair.new.disks in
    let keeps = c.in_ok-read_pair.ensures.kept in
    let r = c.in-Counts.log in
    let h : IsCounted e (which_in c.in-Counts.which) r = subst (λ p. HasPair e (pair_in p)) c.in-Counts.is c.in_ok-read_pair.ensures.pair in
    let differs : is_same_shape r.shape c.args.shape ≡ false = cc in (
      refl,
      record { which = which_in c.in-Counts.which; log = h.read.log; counts = sym (pair_kept d e keeps) ∙ h.counts (keeps.shape.told ∙ told); has_shape = h.read.is_of.shape; differs = differs },
    )

pub returns-then-are_spent-clause-err : goal.returns-then-are_spent-clause-err
returns-then-are_spent-clause-err g c told =
    let d = g.D.Disks.view c.args.disks.now in
    let e = g.D.Disks.view c.read_pair.new.disks in
    let keeps = c.in_ok-read_pair.ensures.kept in
    let r = c.in-Counts.log in
    let h : IsCounted e (which_in c.in-Counts.which) r = subst (λ p. HasPair e (pair_in p)) c.in-Counts.is c.in_ok-read_pair.ensures.pair in
    let same : is_same_shape r.shape c.args.shape ≡ true = cc in
    let spent : are_spent r.said.boot r.said.decisions ≡ true = cc in
    record {
      which = which_in c.in-Counts.which;
      log = h.read.log;
      counts = sym (pair_kept d e keeps) ∙ h.counts (keeps.shape.told ∙ told);
      has_shape = ap (λ s. is_same_shape s c.args.shape) (sym h.read.is_of.shape) ∙ same;
      has_boot = h.read.is_of.says.boot;
      has_decisions = h.read.is_of.says.decisions;
      spent = spent;
    }

pub returns-in_ok-made-in-BothBlank-clause-ok : goal.returns-in_ok-made-in-BothBlank-clause-ok
returns-in_ok-made-in-BothBlank-clause-ok g c =
    let d = g.D.Disks.view c.args.disks.now in
    let e = g.D.Disks.view c.read_pair.new.disks in
    let keeps = c.in_ok-read_pair.ensures.kept in
    let h = subst (λ p. HasPair e (pair_in p)) c.in-BothBlank.is c.in_ok-read_pair.ensures.pair in
    record {
      which = Rattle.salt_bytes.specs.Generations.LogA;
      log = begun c.args.shape;
      is = c.in_ok-made-in-BothBlank.ensures.ok;
      keeps = c.nothing_kept.ensures.keeps c.args.shape;
      device = c.nothing_kept.ensures.device;
      has_shape = same_shape c.args.shape;
      unspent = refl;
      stood = λ told. inr (sym (pair_kept d e keeps) ∙ h (keeps.shape.told ∙ told), (refl, refl));
    }

pub returns-in_ok-opened-in-Counts-clause-ok : goal.returns-in_ok-opened-in-Counts-clause-ok
returns-in_ok-opened-in-Counts-clause-ok g c =
    let d = g.D.Disks.view c.args.disks.now in
    let e = g.D.Disks.view c.read_pair.new.disks in
    let keeps = c.in_ok-read_pair.ensures.kept in
    let r = c.in-Counts.log in
    let h : IsCounted e (which_in c.in-Counts.which) r = subst (λ p. HasPair e (pair_in p)) c.in-Counts.is c.in_ok-read_pair.ensures.pair in
    let same : is_same_shape r.shape c.args.shape ≡ true = cc in
    let unspent : are_spent r.said.boot r.said.decisions ≡ false = cc in
    let made = c.in_ok-opened-in-Counts in
    let holds = made.ensures.holds h.read.log h.read.is_of in
    record {
      which = which_in c.in-Counts.which;
      log = h.read.log;
      is = opened_so d e (which_in c.in-Counts.which) r _ keeps c.requires.known c.requires.settled_a c.requires.settled_b h holds.0 made.ensures.same.0 made.ensures.same.1;
      keeps = holds.1;
      device = made.ensures.device;
      has_shape = ap (λ s. is_same_shape s c.args.shape) (sym h.read.is_of.shape) ∙ same;
      unspent = ap (λ n. are_spent n h.read.log.told.decisions) (sym h.read.is_of.says.boot) ∙ ap (λ n. are_spent r.said.boot n) (sym h.read.is_of.says.decisions) ∙ unspent;
      stood = λ told. inl (sym (pair_kept d e keeps) ∙ h.counts (keeps.shape.told ∙ told));
    }
