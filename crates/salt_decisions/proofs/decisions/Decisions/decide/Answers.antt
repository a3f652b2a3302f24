use Rattle.salt_bytes.specs.Coordinator.{Decides, Decision, spell_entry}
use Rattle.salt_bytes.specs.Spellable.{IsSpellableEntry}
use Rattle.salt_decisions.proofs.Appended.{next_told, read_so, spelled_so}
use Rattle.salt_decisions.proofs.Moving.{open_on}
use Rattle.salt_decisions.proofs.decisions.Decisions.decide.Goals as goal
use Rattle.salt_decisions.specs.Decisions.{IsDecisions, decided, last_decision, next_decision}
use Rattle.salt_decisions.specs.Moves.{then_moved}
use Rattle.salt_decisions.specs.declared.decisions.Decisions.{Decisions}
use Rattle.salt_gatelog.specs.Log.{payload_in}
use Rattle.salt_stands.specs.Coordinator.{device_of}
use Rattle.std.proofs.Common.{Some, ap, arith, refl, subst, sym, true, ◌+◌, ◌^◌, ◌≡◌, ◌∙◌}
use Rattle.std.specs.Prelude.{nat_lt}

pub returns-in_err-append_entry-clause-images : goal.returns-in_err-append_entry-clause-images
returns-in_err-append_entry-clause-images g c which log h =
    let d : Decision = next_decision c.args.self.now c.args.unit c.args.parts c.args.mv.now in
    spelled_so (g.D.Disks.view c.append_entry.new.disks) (device_of 0 which) ((g.D.Disks.view c.args.disks.now).bytes (device_of 0 which)) (payload_in c.in_ok-frame.frame.items) (spell_entry (Decides d))
    (c.in_ok-frame.ensures.payload ∙ ap (λ (x : Decisions). spell_entry (Decides (next_decision x c.args.unit c.args.parts c.args.mv.now))) c.self.view_is)
    (c.in_err-append_entry.ensures.images which log (subst (λ (x : Decisions). IsDecisions (g.D.Disks.view c.args.disks.now) x which log) (sym c.self.view_is) h).counting)

pub returns-clause-images : goal.returns-clause-images
returns-clause-images g c which log h =
    let d : Decision = next_decision c.args.self.now c.args.unit c.args.parts c.args.mv.now in
    spelled_so (g.D.Disks.view c.append_entry.new.disks) (device_of 0 which) ((g.D.Disks.view c.args.disks.now).bytes (device_of 0 which)) (payload_in c.in_ok-frame.frame.items) (spell_entry (Decides d))
    (c.in_ok-frame.ensures.payload ∙ ap (λ (x : Decisions). spell_entry (Decides (next_decision x c.args.unit c.args.parts c.args.mv.now))) c.self.view_is)
    (c.in_ok-append_entry.ensures.images which log (subst (λ (x : Decisions). IsDecisions (g.D.Disks.view c.args.disks.now) x which log) (sym c.self.view_is) h).counting)

pub returns-clause-ok : goal.returns-clause-ok
returns-clause-ok g c which log h =
    let x = c.args.self.now in
    let was = subst (λ (x : Decisions). IsDecisions (g.D.Disks.view c.args.disks.now) x which log) (sym c.self.view_is) h in
    let d : Decision = next_decision x c.args.unit c.args.parts c.args.mv.now in
    let bits : nat_lt c.args.parts (2 ^ log.header.shape.parts) ≡ true = ap (λ s. nat_lt c.args.parts (2 ^ s.parts)) (sym h.holds.shape) ∙ c.requires.bits in
    let spelled = c.in_ok-frame.ensures.payload ∙ ap (λ (x : Decisions). spell_entry (Decides (next_decision x c.args.unit c.args.parts c.args.mv.now))) c.self.view_is in
    let good : IsSpellableEntry log.header.shape.parts (Decides d) = record { number = omega (arith, c.requires.below); unit = record { boot = omega arith; seq = omega arith }; mask = bits; move = omega arith } in
    record {
      own = was.own;
      holds = record {
        format = was.holds.format;
        generation = was.holds.generation;
        shape = was.holds.shape;
        boot = was.holds.boot;
        decisions = ap (λ (x : Decisions). last_decision x + 1) c.self.view_is;
        definitions = was.holds.definitions;
        conts = open_on log d c.self.inside.conts c.go_on.new.conts was.holds.conts
            (λ rises cs e. c.in_ok-go_on.ensures rises cs (ap (λ k. then_moved k c.args.mv.now (Some c.self.inside.conts)) was.holds.format ∙ e));
        parts = was.holds.parts;
      };
      counting = c.in_ok-append_entry.ensures.ok which log (Decides d) (decided log d).told was.counting (read_so log.header.shape.parts (Decides d) (payload_in c.in_ok-frame.frame.items) (payload_in c.in_ok-frame.frame.items) refl spelled good)
          (next_told x.decisions log.told.decisions (decided log d).told h.holds.decisions);
    }
