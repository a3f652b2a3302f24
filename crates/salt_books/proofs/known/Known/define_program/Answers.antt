use Rattle.salt_ast.specs.declared.programs.ProgramDef.{ProgramDef}
use Rattle.salt_books.proofs.Defining.{programs-with-program, tables-with-program}
use Rattle.salt_books.proofs.Shown.{known-shown}
use Rattle.salt_books.proofs.known.Known.define_program.Goals as goal
use Rattle.salt_books.specs.declared.known.Known.{Known}
use Rattle.salt_cont.proofs.Defined.{accepted}
use Rattle.salt_cont.specs.Catalogues.{AllLeadOn}
use Rattle.salt_program.specs.Refusals.{parts_in, program_refusal}
use Rattle.std.proofs.Common.{None, [], ap, length, subst, sym, ◌+◌, ◌++◌, ◌<◌, ◌^◌, ◌∙◌, ◌∷◌, ◌≡◌}

pub define-requires : goal.define-requires
define-requires c = record { parts = subst (λ (p : ProgramDef). length (parts_in p.body) < 2 ^ 32) (sym c.in_ok-def.ensures) c.requires.parts }

pub returns-in-Ok-clause-kept : goal.returns-in-Ok-clause-kept
returns-in-Ok-clause-kept c = λ k h.
    let same = known-shown _ _ k c.self.view_is h in
    let p = c.args.def.now in
    record {
      schema = same.schema ∙ sym (tables-with-program k.definitions p);
      catalogue = c.in-Ok.ensures.ok ∙ (λ i. same.catalogue i ++ c.in_ok-def.ensures i ∷ []) ∙ sym (programs-with-program k.definitions p);
      conts = same.conts;
      boot = same.boot;
      decisions = c.in_ok-number.ensures ∙ ap (λ n. n + 1) same.decisions;
    }

pub invariant_of-self : goal.invariant_of-self
invariant_of-self c =
    let p = c.args.def.now in
    let allowed = subst (λ (x : Known). program_refusal x.schema x.catalogue p ≡ None) (sym c.self.view_is) c.requires.allowed in (
      c.self.invariant.0,
      subst AllLeadOn (sym (c.in-Ok.ensures.ok ∙ ap (λ (q : ProgramDef). c.self.inside.catalogue ++ q ∷ []) c.in_ok-def.ensures))
          (accepted c.self.inside.schema c.self.inside.catalogue p c.self.invariant.1 c.requires.parts allowed),
    )
