use Rattle.salt_books.specs.Known.{IsKnown}
use Rattle.salt_books.specs.declared.known.Known.{Known}
use Rattle.salt_engine.proofs.engine.Engine.new.Goals as goal
use Rattle.std.proofs.Common.{inl, subst, sym, ◌∙◌}

pub returns-clause-serves : goal.returns-clause-serves
returns-clause-serves g c = λ s r.
    let known = subst (λ (x : Known). IsKnown x s.units.kept) (sym c.new-known.ensures)
    (record { schema = r.schema; catalogue = r.catalogue; conts = c.new-conts.ensures ∙ sym r.conts; boot = r.boot; decisions = r.decisions }) in
    let books = c.new.ensures s.units.kept s.units.phase s.units.line known in (
      c.new-scheduler.result,
      c.over.ensures.stage,
      c.new-scheduler.ensures s
          (record {
            known = books.known;
            units = books.units ∙ sym r.units;
            unit_count = books.unit_count ∙ r.begun;
            base_count = books.base_count ∙ sym r.bases;
            to_go = books.to_go ∙ sym r.to_go;
            early = books.early ∙ sym r.early;
            named = books.named ∙ sym r.named;
            owes = books.owes ∙ sym r.owes;
          })
          r.units r.watch (inl r.to_go),
    )
