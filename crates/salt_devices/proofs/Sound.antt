-- What a coordinator keeps, with rows of its tables, may be kept.
use Rattle.salt_ast.specs.Paths.{at_number, retries}
use Rattle.salt_ast.specs.ProgramJudgement.{are_arguments, program_named}
use Rattle.salt_ast.specs.declared.programs.ProgramDef.{ProgramDef}
use Rattle.salt_bytes.specs.Conts.{move_in}
use Rattle.salt_bytes.specs.Coordinator.{Decision, NumberedText}
use Rattle.law_definitions.specs.Texts.{IsTextOf, definition_in}
use Rattle.salt_commit.specs.Stores.{reading}
use Rattle.salt_stands.specs.Fitting.{is_cont_of, programs_defined, stands_at_part}
use Rattle.salt_model.specs.Kept.{Definition, Kept, OfProgram, OfTable, Rise, WellKept, kept_program, parts_of, retries_of}
use Rattle.salt_model.specs.Words.{Every}
use Rattle.salt_stands.proofs.Booleans.{all_weaker, left, right}
use Rattle.salt_stands.proofs.OpenConts.{AreOpen, moved_keeps}
use Rattle.salt_stands.specs.Coordinator.{Coordinator, define, definitions_read, is_sound_cont, is_sound_decision}
use Rattle.salt_stands.specs.OpenConts.{conts_of_move, do_rise, is_later_than, is_not_of}
use Rattle.salt_stands.specs.Pieces.{IsCoordinator}
use Rattle.salt_storage.specs.Storing.{IsSoundKept, IsSpelledDefinition}
use Rattle.law_types.specs.Typed.{IsTyped}
use Rattle.salt_values.specs.declared.cont.Cont.{Cont}
use Rattle.std.proofs.Common.{Bool, List, None, Option, Some, [], ap, arith, false, refl, subst, sym, true, ℕ, ◌++◌, ◌<◌, ◌≡◌, ◌≤◌, ◌∙◌, ◌∷◌}
use Rattle.std.proofs.lemmas.Bool.Decides.{nat_tests}
use Rattle.std.specs.List.{list_all}
use Rattle.std.specs.Prelude.{IsSome, is_some, nat_le, nat_lt, not, ⊤, ◌&&◌, option_and_then}
use Rattle.std.specs.Bool.{then_some}

-- TEXTS

spelled_text : (d : Definition) (text : List ℕ) → IsTextOf d text → IsSpelledDefinition d
spelled_text (OfTable t) text h = h.0
spelled_text (OfProgram p) text h = h.0

every_more : (ds : List Definition) (d : Definition) → Every IsSpelledDefinition ds → IsSpelledDefinition d → Every IsSpelledDefinition (ds ++ d ∷ [])
every_more [] d h s = (s, tt)
every_more (x ∷ ds) d h s = (h.0, every_more ds d h.1 s)

abbrev AllSpelled : Option (List Definition) → Type 0
AllSpelled None = ⊤
AllSpelled (Some ds) = Every IsSpelledDefinition ds

module _ (texts : (text : List ℕ) (d : Definition) → definition_in text ≡ Some d → IsTextOf d text) where
  with_one : (ds : List Definition) (text : List ℕ) (o : Option Definition) → definition_in text ≡ o → Every IsSpelledDefinition ds → AllSpelled (option_and_then (λ d. then_some (not (reading.is_refused ds d)) (ds ++ d ∷ [])) o)
  with_one ds text None is h = tt
  with_one ds text (Some d) is h = by (not (reading.is_refused ds d))
    where
      by : (b : Bool) → AllSpelled (then_some b (ds ++ d ∷ []))
      by true = every_more ds d h (spelled_text d text (texts text d is))
      by false = tt

  one_more : (o : Option (List Definition)) (t : NumberedText) → AllSpelled o → AllSpelled (define reading t o)
  one_more None t h = tt
  one_more (Some ds) t h = with_one ds t.text (definition_in t.text) refl h

  all_spelled : (o : Option (List Definition)) (ts : List NumberedText) → AllSpelled o → AllSpelled (definitions_read reading o ts)
  all_spelled o [] h = h
  all_spelled o (t ∷ ts) h = all_spelled (define reading t o) ts (one_more o t h)

  pub spelled_of : (c : Coordinator Definition) → IsCoordinator reading c → Every IsSpelledDefinition c.definitions
  spelled_of c is = subst AllSpelled is.defined (all_spelled (Some []) c.log.told.definitions tt)

-- CONTINUATIONS

every_true : (p : Cont → Bool) (P : Cont → Type 0) → ((c : Cont) → p c ≡ true → P c) → (cs : List Cont) → list_all p cs ≡ true → Every P cs
every_true p P f [] h = tt
every_true p P f (c ∷ cs) h = (f c (left (p c) (list_all p cs) h), every_true p P f cs (right (p c) (list_all p cs) h))

le_true : (a b : ℕ) → nat_le a b ≡ true → a ≤ b
le_true a b h = grind (arith, nat_tests)

lt_true : (a b : ℕ) → nat_lt a b ≡ true → a < b
lt_true a b h = grind (arith, nat_tests)

rises : (n : ℕ) (cs : List Cont) → do_rise cs ≡ true → Every (λ (c : Cont). c.accepted ≤ n) cs → Rise n cs
rises n [] h all = tt
rises n (c ∷ cs) h all = (
  every_true (is_later_than c) (λ d. c.accepted < d.accepted) (λ d e. lt_true c.accepted d.accepted (left (nat_lt c.accepted d.accepted) (is_not_of c.base d) e)) cs (left (list_all (is_later_than c) cs) (do_rise cs) h),
  all.0,
  rises n cs (right (list_all (is_later_than c) cs) (do_rise cs) h) all.1,
)

found_program : (o : Option ProgramDef) (c : Cont) → is_cont_of o c ≡ true → IsSome o
found_program None c e = absurd cc
found_program (Some p) c e = refl

found_tries : (o : Option ProgramDef) (c : Cont) → is_cont_of o c ≡ true → c.tries ≤ retries_of o c.next
found_tries None c e = absurd cc
found_tries (Some p) c e =
    let at = right (are_arguments p.vars c.vars) (stands_at_part p c.next c.tries) (right (are_arguments p.params c.args) (are_arguments p.vars c.vars && stands_at_part p c.next c.tries) e) in
    let in_part = right (nat_lt 1 c.next) (is_some (at_number c.next (parts_of p)) && nat_le c.tries (retries (at_number c.next (parts_of p)))) at in
    le_true c.tries (retries (at_number c.next (parts_of p))) (right (is_some (at_number c.next (parts_of p))) (nat_le c.tries (retries (at_number c.next (parts_of p)))) in_part)

module _ (c : Coordinator Definition) (is : IsCoordinator reading c) where
  are_open : AreOpen (is_sound_cont reading c.definitions c.log.told) c.conts
  are_open =
      let p = is_sound_cont reading c.definitions c.log.told in
      let format = c.log.header.format in
      moved_keeps p format c.log.told.decided c.log.header.conts c.conts
      (all_weaker (is_sound_decision reading c.definitions c.log.told format) (λ (d : Decision). list_all p (conts_of_move (move_in format d.move)))
      (λ d e. right (nat_le d.unit.boot c.log.told.boot) (list_all p (conts_of_move (move_in format d.move))) e) c.log.told.decided is.decided)
      (record { rise = is.rise; each = is.named }) is.moves

  fits : (x : Cont) → is_sound_cont reading c.definitions c.log.told x ≡ true → is_cont_of (program_named (programs_defined c.definitions) x.program) x ≡ true
  fits x e = left (is_cont_of (program_named (programs_defined c.definitions) x.program) x) (nat_le x.base.boot c.log.told.boot && nat_le x.accepted c.log.told.decisions) e

  numbers : (x : Cont) → is_sound_cont reading c.definitions c.log.told x ≡ true → (nat_le x.base.boot c.log.told.boot && nat_le x.accepted c.log.told.decisions) ≡ true
  numbers x e = right (is_cont_of (program_named (programs_defined c.definitions) x.program) x) (nat_le x.base.boot c.log.told.boot && nat_le x.accepted c.log.told.decisions) e

  module _ (k : Kept) (boot : k.boot ≡ c.log.told.boot) (decisions : k.decisions ≡ c.log.told.decisions) (definitions : k.definitions ≡ c.definitions) (conts : k.conts ≡ c.conts) where
    each : (P : Cont → Type 0) → ((x : Cont) → is_sound_cont reading c.definitions c.log.told x ≡ true → P x) → Every P k.conts
    each P f = subst (Every P) (sym conts) (every_true (is_sound_cont reading c.definitions c.log.told) P f c.conts are_open.each)

    named_in : (x : Cont) → is_sound_cont reading c.definitions c.log.told x ≡ true → is_cont_of (kept_program x.program k) x ≡ true
    named_in x e = subst (λ (ds : List Definition). is_cont_of (program_named (programs_defined ds) x.program) x ≡ true) (sym definitions) (fits x e)

    pub well : WellKept k
    well = record {
      boots = each (λ x. x.base.boot ≤ k.boot) (λ x e. subst (λ n. x.base.boot ≤ n) (sym boot) (le_true x.base.boot c.log.told.boot (left (nat_le x.base.boot c.log.told.boot) (nat_le x.accepted c.log.told.decisions) (numbers x e))));
      accepted = rises k.decisions k.conts (ap do_rise conts ∙ are_open.rise)
          (each (λ x. x.accepted ≤ k.decisions) (λ x e. subst (λ n. x.accepted ≤ n) (sym decisions) (le_true x.accepted c.log.told.decisions (right (nat_le x.base.boot c.log.told.boot) (nat_le x.accepted c.log.told.decisions) (numbers x e)))));
      defined = each (λ x. IsSome (kept_program x.program k)) (λ x e. found_program (kept_program x.program k) x (named_in x e));
      tries = each (λ x. x.tries ≤ retries_of (kept_program x.program k) x.next) (λ x e. found_tries (kept_program x.program k) x (named_in x e));
    }

    pub sound_kept : ((text : List ℕ) (d : Definition) → definition_in text ≡ Some d → IsTextOf d text) → IsTyped k → IsSoundKept k
    sound_kept texts typed = record {
      typed = typed;
      well = well;
      rise = ap do_rise conts ∙ are_open.rise;
      spelled = subst (Every IsSpelledDefinition) (sym definitions) (spelled_of texts c is);
    }
