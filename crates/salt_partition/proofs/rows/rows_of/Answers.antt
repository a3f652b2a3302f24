use Rattle.salt_model.specs.Tables.{with_changes}
use Rattle.salt_partition.proofs.Lasts.{no_last, read_gone, read_put}
use Rattle.salt_partition.proofs.Seeing.{decided_next, undecided_next}
use Rattle.salt_partition.proofs.rows.rows_of.Goals as goal
use Rattle.std.proofs.Common.{None, sym, ◌∙◌}

pub loop-prepared-init : goal.loop-prepared-init
unfolding with_changes
loop-prepared-init c = record { rows = c.new-rows.ensures.empty; last = no_last c.args.decided.now None }

pub loop-prepared-preserved-then-is_in : goal.loop-prepared-preserved-then-is_in
loop-prepared-preserved-then-is_in c =
    let us = c.args.decided.now in
    let l = c.loop-prepared in
    let x = c.in-Some.prepared in
    let decided = sym (c.in_ok-applied.ensures x.unit) ∙ sym c.is_in.ensures ∙ c.if-is_in.true in
    record {
      rows = decided_next us l.yielded x l.rows.entries c.make_changes.new.rows.entries decided l.invariant.rows c.in_ok-make_changes.ensures;
      last = read_gone us l.yielded x None decided;
    }

pub loop-prepared-preserved : goal.loop-prepared-preserved
loop-prepared-preserved c =
    let us = c.args.decided.now in
    let l = c.loop-prepared in
    let x = c.in-Some.prepared in
    record {
      rows = undecided_next us l.yielded x l.rows.entries (sym (c.in_ok-applied.ensures x.unit) ∙ sym c.is_in.ensures ∙ c.if-is_in.false) l.invariant.rows;
      last = read_put us l.yielded x;
    }
