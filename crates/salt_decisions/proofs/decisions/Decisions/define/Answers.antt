use Rattle.salt_bytes.specs.Coordinator.{CoordinatorEntry, Defines, NumberedText, spell_entry}
use Rattle.salt_bytes.specs.Spellable.{IsSpellableEntry}
use Rattle.salt_decisions.proofs.Appended.{next_told, on_err, read_so, spelled_so}
use Rattle.salt_decisions.proofs.Each.{map_push}
use Rattle.salt_decisions.proofs.decisions.Decisions.define.Goals as goal
use Rattle.salt_decisions.specs.Decisions.{IsDecisions, defined, last_decision, next_definition, numbers_in}
use Rattle.salt_decisions.specs.Header.{numbered_of}
use Rattle.salt_decisions.specs.declared.decisions.Decisions.{Decisions}
use Rattle.salt_decisions.specs.declared.header.Definition.{Definition}
use Rattle.salt_gatelog.specs.Log.{payload_in}
use Rattle.salt_stands.specs.Coordinator.{device_of}
use Rattle.std.proofs.Common.{List, [], ap, arith, refl, subst, sym, ℕ, ◌+◌, ◌++◌, ◌∙◌, ◌∷◌}
use Rattle.std.specs.Prelude.{map}

pub returns-in_err-append_entry-clause-images : goal.returns-in_err-append_entry-clause-images
returns-in_err-append_entry-clause-images g c which log h =
    let t : NumberedText = next_definition c.args.self.now c.args.text.now in
    spelled_so (g.D.Disks.view c.append_entry.new.disks) (device_of 0 which) ((g.D.Disks.view c.args.disks.now).bytes (device_of 0 which)) (payload_in c.in_ok-frame.frame.items) (spell_entry (Defines t))
    (c.in_ok-frame.ensures.payload ∙ ap (λ (x : Decisions). spell_entry (Defines (next_definition x c.args.text.now))) c.self.view_is)
    (c.in_err-append_entry.ensures.images which log (subst (λ (x : Decisions). IsDecisions (g.D.Disks.view c.args.disks.now) x which log) (sym c.self.view_is) h).counting)

pub returns-in_err-append_entry-clause-same : goal.returns-in_err-append_entry-clause-same
returns-in_err-append_entry-clause-same g c = on_err _ (ap numbers_in c.self.view_is)

pub returns-clause-images : goal.returns-clause-images
returns-clause-images g c which log h =
    let t : NumberedText = next_definition c.args.self.now c.args.text.now in
    spelled_so (g.D.Disks.view c.append_entry.new.disks) (device_of 0 which) ((g.D.Disks.view c.args.disks.now).bytes (device_of 0 which)) (payload_in c.in_ok-frame.frame.items) (spell_entry (Defines t))
    (c.in_ok-frame.ensures.payload ∙ ap (λ (x : Decisions). spell_entry (Defines (next_definition x c.args.text.now))) c.self.view_is)
    (c.in_ok-append_entry.ensures.images which log (subst (λ (x : Decisions). IsDecisions (g.D.Disks.view c.args.disks.now) x which log) (sym c.self.view_is) h).counting)

pub returns-clause-ok : goal.returns-clause-ok
returns-clause-ok g c which log h =
    let x = c.args.self.now in
    let was = subst (λ (x : Decisions). IsDecisions (g.D.Disks.view c.args.disks.now) x which log) (sym c.self.view_is) h in
    let t : NumberedText = next_definition x c.args.text.now in
    let entry : CoordinatorEntry = Defines t in
    let made : Definition = record { number = c.self.inside.decisions + 1; text = c.in_ok-from_slice.field-0 } in
    let numbered : List ℕ → NumberedText = λ text. record { number = c.self.inside.decisions + 1; text = text } in
    let spelled = c.in_ok-frame.ensures.payload ∙ ap (λ (x : Decisions). spell_entry (Defines (next_definition x c.args.text.now))) c.self.view_is in
    let good : IsSpellableEntry log.header.shape.parts entry = record { number = omega (arith, c.requires.below); text = omega arith } in
    record {
      own = was.own;
      holds = record {
        format = was.holds.format;
        generation = was.holds.generation;
        shape = was.holds.shape;
        boot = was.holds.boot;
        decisions = ap (λ (x : Decisions). last_decision x + 1) c.self.view_is;
        definitions = ap (map numbered_of) c.in_ok-push.ensures.ok ∙ map_push numbered_of c.self.inside.definitions made ∙ ap (λ l. l ++ numbered_of made ∷ []) was.holds.definitions
            ∙ ap (λ (text : List ℕ). log.told.definitions ++ numbered text ∷ []) c.in_ok-from_slice.ensures
            ∙ ap (λ (x : Decisions). log.told.definitions ++ next_definition x c.args.text.now ∷ []) c.self.view_is;
        conts = was.holds.conts;
        parts = was.holds.parts;
      };
      counting = c.in_ok-append_entry.ensures.ok which log entry (defined log t).told was.counting (read_so log.header.shape.parts entry (payload_in c.in_ok-frame.frame.items) (payload_in c.in_ok-frame.frame.items) refl spelled good)
          (next_told x.decisions log.told.decisions (defined log t).told h.holds.decisions);
    }
