use Rattle.salt_bytes.specs.Coordinator.{Boots, CoordinatorEntry, spell_entry}
use Rattle.salt_bytes.specs.Spellable.{IsSpellableEntry}
use Rattle.salt_decisions.proofs.Appended.{next_told, on_err, read_so, spelled_so}
use Rattle.salt_decisions.proofs.decisions.Decisions.boot.Goals as goal
use Rattle.salt_decisions.specs.Decisions.{IsDecisions, booted, last_boot, numbers_in}
use Rattle.salt_decisions.specs.declared.decisions.Decisions.{Decisions}
use Rattle.salt_gatelog.specs.Log.{payload_in}
use Rattle.salt_stands.specs.Coordinator.{device_of}
use Rattle.salt_stands.specs.CoordinatorLog.{tell}
use Rattle.std.proofs.Common.{Some, ap, arith, refl, subst, sym, ◌+◌, ◌-◌, ◌<◌, ◌^◌, ◌≡◌, ◌∙◌}

pub returns-in_err-append_entry-clause-images : goal.returns-in_err-append_entry-clause-images
returns-in_err-append_entry-clause-images g c which log h =
    spelled_so (g.D.Disks.view c.append_entry.new.disks) (device_of 0 which) ((g.D.Disks.view c.args.disks.now).bytes (device_of 0 which)) (payload_in c.in_ok-frame.frame.items) (spell_entry (Boots (last_boot c.args.self.now + 1)))
    (c.in_ok-frame.ensures.payload ∙ ap (λ (x : Decisions). spell_entry (Boots (last_boot x + 1))) c.self.view_is)
    (c.in_err-append_entry.ensures.images which log (subst (λ (x : Decisions). IsDecisions (g.D.Disks.view c.args.disks.now) x which log) (sym c.self.view_is) h).counting)

pub returns-in_err-append_entry-clause-same : goal.returns-in_err-append_entry-clause-same
returns-in_err-append_entry-clause-same g c = on_err _ (ap numbers_in c.self.view_is)

pub returns-clause-images : goal.returns-clause-images
returns-clause-images g c which log h =
    spelled_so (g.D.Disks.view c.append_entry.new.disks) (device_of 0 which) ((g.D.Disks.view c.args.disks.now).bytes (device_of 0 which)) (payload_in c.in_ok-frame.frame.items) (spell_entry (Boots (last_boot c.args.self.now + 1)))
    (c.in_ok-frame.ensures.payload ∙ ap (λ (x : Decisions). spell_entry (Boots (last_boot x + 1))) c.self.view_is)
    (c.in_ok-append_entry.ensures.images which log (subst (λ (x : Decisions). IsDecisions (g.D.Disks.view c.args.disks.now) x which log) (sym c.self.view_is) h).counting)

pub returns-clause-ok : goal.returns-clause-ok
returns-clause-ok g c which log h =
    let x = c.self.inside in
    let was = subst (λ (x : Decisions). IsDecisions (g.D.Disks.view c.args.disks.now) x which log) (sym c.self.view_is) h in
    let below = subst (λ (x : Decisions). last_boot x < 2 ^ 64 - 1) (sym c.self.view_is) c.requires.below in
    let entry : CoordinatorEntry = Boots (x.boot + 1) in
    let good : IsSpellableEntry log.header.shape.parts entry = omega (arith, below) in
    let tells : tell log.told entry ≡ Some (booted log).told = next_told x.boot log.told.boot _ was.holds.boot ∙ ap (λ n. Some (record log.told { boot = n + 1 })) was.holds.boot in
    record {
      own = was.own;
      holds = record {
        format = was.holds.format;
        generation = was.holds.generation;
        shape = was.holds.shape;
        boot = ap (λ n. n + 1) was.holds.boot;
        decisions = was.holds.decisions;
        definitions = was.holds.definitions;
        conts = was.holds.conts;
        parts = was.holds.parts;
      };
      counting = c.in_ok-append_entry.ensures.ok which log entry (booted log).told was.counting (read_so log.header.shape.parts entry (payload_in c.in_ok-frame.frame.items) (payload_in c.in_ok-frame.frame.items) refl c.in_ok-frame.ensures.payload good) tells;
    }
