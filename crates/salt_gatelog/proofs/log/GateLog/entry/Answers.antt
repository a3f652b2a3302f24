use Rattle.salt_gatelog.proofs.Blocks.{taken_block}
use Rattle.salt_gatelog.proofs.Entries.{moved_on, whatever, with_block, without_block, without_moved}
use Rattle.salt_gatelog.proofs.log.GateLog.entry.Goals as goal
use Rattle.salt_gatelog.specs.Block.{IsBlock}
use Rattle.salt_gatelog.specs.declared.log.GateLog.{GateLog}
use Rattle.salt_gatelog.specs.Log.{IsLog}
use Rattle.std.proofs.Common.{subst, sym}
use Rattle.std.proofs.lemmas.Result.{err_from_is_err_and}

pub read_entry-requires-clause-log : goal.read_entry-requires-clause-log
read_entry-requires-clause-log g c =
    (c.requires.log.0, without_block (g.D.Disks.view c.args.disks.now) c.args.self.now c.take_block.new.self c.requires.log.0 c.take_block.ensures.log c.requires.log.1)

pub read_entry-requires-clause-block : goal.read_entry-requires-clause-block
read_entry-requires-clause-block g c =
    let d = g.D.Disks.view c.args.disks.now in
    let log = c.args.self.now in
    subst (λ (l : GateLog). IsBlock d l.dev c.in_ok-block.block) (sym c.take_block.ensures.log) (taken_block d log.dev log.block c.in_ok-block.block c.in_ok-block.ensures.block c.requires.log.1.block)

pub returns-clause-entry : goal.returns-clause-entry
returns-clause-entry g c =
    let d = g.D.Disks.view c.args.disks.now in
    let read = c.in_ok-read_entry.ensures.entry in
    (read.0, (read.1.0, λ entries first told. read.1.1 entries (without_block d c.args.self.now c.take_block.new.self entries c.take_block.ensures.log first) told))

pub returns-clause-log : goal.returns-clause-log
returns-clause-log g c entries first =
    let d = g.D.Disks.view c.args.disks.now in
    with_block (g.D.Disks.view c.read_entry.new.disks) c.read_entry.new.self c.read_entry.new.block entries c.in_ok-read_entry.ensures.block
    (c.in_ok-read_entry.ensures.log entries (without_block d c.args.self.now c.take_block.new.self entries c.take_block.ensures.log first))

pub returns-in_err-block-clause-log : goal.returns-in_err-block-clause-log
returns-in_err-block-clause-log g c entries first =
    let d = g.D.Disks.view c.args.disks.now in
    whatever _ (IsLog d c.take_block.new.self entries) (without_block d c.args.self.now c.take_block.new.self entries c.take_block.ensures.log first)

pub returns-in_err-block-clause-same : goal.returns-in_err-block-clause-same
returns-in_err-block-clause-same g c = without_moved c.args.self.now c.take_block.new.self c.take_block.ensures.log

pub returns-in_err-read_entry-clause-log : goal.returns-in_err-read_entry-clause-log
returns-in_err-read_entry-clause-log g c entries first =
    let d = g.D.Disks.view c.args.disks.now in
    let p = err_from_is_err_and c.from_residual-in_err-read_entry.result c.from_residual-in_err-read_entry.ensures.1 in
    rw (p.1, p.2) (c.in_err-read_entry.ensures.log entries (without_block d c.args.self.now c.take_block.new.self entries c.take_block.ensures.log first))

pub returns-in_err-read_entry-clause-same : goal.returns-in_err-read_entry-clause-same
returns-in_err-read_entry-clause-same g c = moved_on c.args.self.now c.take_block.new.self c.read_entry.new.self (without_moved c.args.self.now c.take_block.new.self c.take_block.ensures.log) c.in_err-read_entry.ensures.same

pub returns-clause-same : goal.returns-clause-same
returns-clause-same g c =
    let same = moved_on c.args.self.now c.take_block.new.self c.read_entry.new.self (without_moved c.args.self.now c.take_block.new.self c.take_block.ensures.log) c.in_ok-read_entry.ensures.same in
    record { device = same.device; gate = same.gate; count = same.count }
