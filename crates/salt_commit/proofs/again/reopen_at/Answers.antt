use Rattle.salt_commit.proofs.Voting.{ok_then, read_at}
use Rattle.salt_commit.proofs.again.reopen_at.Goals as goal
use Rattle.salt_commit.specs.Again.{StandsUnder}
use Rattle.salt_disk.specs.declared.disks.DiskErr.{DiskErr}
use Rattle.salt_paged.specs.Partitions.{IsPartition}
use Rattle.salt_parts.specs.Openings.{decided_in}
use Rattle.std.proofs.Common.{Err, Ok, Result, Some, ap, refl, subst, sym, ◌≡◌, ◌∙◌}
use Rattle.std.specs.Prelude.{OnErr}
use Rattle.std.specs.Result.{result_err}

err_then : {T : Type 0} (r : Result T DiskErr) (k : DiskErr) (P : Type 0) → result_err r ≡ Some k → OnErr r P → P
err_then (Ok x) k P is h = absurd cc
err_then (Err e) k P is h = h

pub reopen_part-requires : goal.reopen_part-requires
reopen_part-requires g c =
    let same = read_at c.args.parts.now.items c.args.number c.requires.x c.index_mut-part.result.now c.requires.at c.index_mut-part.ensures.value in
    subst (λ x. StandsUnder (g.D.Disks.view c.args.disks.now) x) (sym same) c.requires.may

pub returns : goal.returns
returns g c =
    let e = g.D.Disks.view c.reopen_part.new.disks in
    let h = c.requires in
    let same = read_at c.args.parts.now.items c.args.number h.x c.index_mut-part.result.now h.at c.index_mut-part.ensures.value in
    record {
      x = c.index_mut-part.result.now;
      y = c.reopen_part.new.part;
      at = h.at ∙ ap (λ z. Some z) (sym same);
      set = refl;
      goes = λ fine which log p v applied reads is goes. ok_then c.reopen_part.result (IsPartition e c.reopen_part.new.part p v (decided_in log p)) fine (c.reopen_part.ensures.ok which log p v applied reads is goes);
      gate = c.reopen_part.ensures.gate;
      stays = λ k is. err_then c.reopen_part.result k (c.reopen_part.new.part ≡ c.index_mut-part.result.now) is c.reopen_part.ensures.err;
      images = c.reopen_part.ensures.images;
      others = c.reopen_part.ensures.others;
      cause = c.reopen_part.ensures.cause;
      full = c.reopen_part.ensures.full;
    }
