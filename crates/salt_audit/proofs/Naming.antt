-- The tables that a story defines have names, each another.
use Rattle.salt_ast.specs.Judgement.{doubled_in_table, is_table, table_fault}
use Rattle.salt_ast.specs.ProgramJudgement.{line_fault}
use Rattle.salt_ast.specs.declared.lines.Line.TheVariants as line
use Rattle.salt_ast.specs.declared.trees.TableDef.{TableDef}
use Rattle.salt_audit.proofs.Growing.{sound_parts}
use Rattle.salt_audit.specs.Formed.{is_formed_by, may_define}
use Rattle.salt_audit.specs.Retelling.{defining, told, told_on}
use Rattle.salt_audit.specs.Verdicts.{broken_by, found_on, sound}
use Rattle.law_definitions.specs.Texts.{IsTextOf, definition_in}
use Rattle.salt_model.specs.After as model
use Rattle.salt_model.specs.After.{branched}
use Rattle.salt_model.specs.Kept.{Definition, Kept, OfProgram, OfTable, schema_of, table_of_definition}
use Rattle.salt_model.specs.Naming.{IsNaming}
use Rattle.salt_model.specs.Phases.{has_opened}
use Rattle.salt_model.specs.Printable.{IsSpelledTable}
use Rattle.salt_model.specs.Refusals.{judged, known_at}
use Rattle.salt_model.specs.Trace.{Trace}
use Rattle.salt_model.specs.Units.{kind_of}
use Rattle.salt_model.specs.declared.events.End.TheVariants as end
use Rattle.salt_model.specs.declared.events.Event.TheVariants as event
use Rattle.salt_model.specs.declared.events.Event.{Event}
use Rattle.salt_model.specs.declared.events.UnitKind.{UnitKind}
use Rattle.std.specs.Bool.{then_some}
use Rattle.std.specs.List.{filter_map}
use Rattle.std.specs.Option.{option_or}
use Rattle.std.proofs.Common.{Bool, List, None, Option, Some, [], ap, append-nil, false, if◌then◌else◌, is_none, option_map, refl, subst, suc, sym, true, ℕ, ◌++◌, ◌∙◌, ◌∷◌, ◌≡◌}

abbrev pub tables : Trace → List TableDef
tables trace = schema_of (model.kept trace)

-- what the laws below say
pub record Named : Type 0 where
  pub read : (text : List ℕ) (d : Definition) → (definition_in text ≡ Some d) → IsTextOf d text
  pub none : IsNaming []
  pub more : (schema : List TableDef) (d : TableDef) → IsNaming schema → IsSpelledTable d → is_table schema d.name ≡ false → IsNaming (schema ++ d ∷ [])

-- NO REFUSAL

none_map : {A B : Type 0} (f : A → B) (o : Option A) → is_none (option_map f o) ≡ true → is_none o ≡ true
none_map f None h = refl
none_map f (Some x) h = h

none_or : {A : Type 0} (a b : Option A) → is_none (option_or a b) ≡ true → (is_none a ≡ true) × (is_none b ≡ true)
none_or None b h = (refl, h)
none_or (Some x) b h = absurd cc

none_some : {A : Type 0} (t : Bool) (x : A) → is_none (then_some t x) ≡ true → t ≡ false
none_some true x h = absurd cc
none_some false x h = refl

not_doubled : (schema : List TableDef) (d : TableDef) → is_none (table_fault schema d) ≡ true → is_table schema d.name ≡ false
unfolding table_fault
not_doubled schema d h =
    let second = (none_or _ _ h).1 in
    let doubled = none_map _ (doubled_in_table schema d) (none_or _ _ second).0 in
    none_some (is_table schema d.name) d.name (none_or _ _ doubled).0

new_table : (trace : Trace) (d : TableDef) → is_none (judged trace (line.Table d)) ≡ true → is_table (tables trace) d.name ≡ false
unfolding line_fault
new_table trace d h =
    let fault = none_map _ (line_fault (known_at trace) (line.Table d)) h in
    not_doubled (tables trace) d (none_map _ (table_fault (tables trace) d) (none_or _ _ fault).1)

-- ONE EVENT

pub tables_app : (ds : List Definition) (d : Definition) →
    filter_map table_of_definition (ds ++ d ∷ []) ≡ filter_map table_of_definition ds ++ filter_map table_of_definition (d ∷ [])
tables_app [] d = refl
tables_app (OfTable t ∷ ds) d = ap (λ l. t ∷ l) (tables_app ds d)
tables_app (OfProgram p ∷ ds) d = tables_app ds d

pub branched_same : (k : Kept) (n : ℕ) (kind : Option UnitKind) → schema_of (branched k n kind) ≡ schema_of k
branched_same k n None = refl
branched_same k n (Some kind) = refl

module _ (laws : Named) where
  defined_named : (trace : Trace) (n : ℕ) (text : List ℕ) (o : Option Definition) → definition_in text ≡ o → may_define trace o ≡ true → IsNaming (tables trace) →
      IsNaming (tables (defining trace n text o))
  defined_named trace n text None e may h = absurd cc
  defined_named trace n text (Some (OfTable d)) e may h =
      let is = laws.read text (OfTable d) e in
      subst IsNaming (sym (tables_app (model.kept trace).definitions (OfTable d))) (laws.more (tables trace) d h is.0 (new_table trace d may))
  defined_named trace n text (Some (OfProgram p)) e may h =
      subst IsNaming (sym (tables_app (model.kept trace).definitions (OfProgram p) ∙ append-nil (tables trace))) h

  -- nothing is defined before the first opening
  defines : (opened may : Bool) → (if opened then may else false) ≡ true → may ≡ true
  defines true may h = h
  defines false may h = absurd cc

  pub named_on : (trace : Trace) (e : Event) → IsNaming (tables trace) → is_formed_by trace e ≡ true → IsNaming (tables (told trace e))
  named_on trace (event.Defined n text) h f =
      defined_named trace n text (definition_in text) refl (defines (has_opened trace) (may_define trace (definition_in text)) f) h
  named_on trace (event.Ended u (end.Branched n c)) h f = subst IsNaming (sym (branched_same (model.kept trace) n (kind_of u trace))) h
  named_on trace (event.Ended u (end.Committed n)) h f = h
  named_on trace (event.Ended u (end.Failed c)) h f = h
  named_on trace (event.Ended u end.RolledBack) h f = h
  named_on trace (event.Ended u end.Victim) h f = h
  named_on trace (event.Ended u end.Cut) h f = h
  named_on trace (event.Began u k) h f = h
  named_on trace (event.Did u st a) h f = h
  named_on trace (event.Waits u os) h f = h
  named_on trace (event.Accepted b) h f = h
  named_on trace (event.Finished b) h f = h
  named_on trace (event.Released bs) h f = h
  named_on trace (event.Early bs) h f = h
  named_on trace (event.Down w) h f = h
  named_on trace (event.Opened boot n) h f = h
  named_on trace event.Ready h f = h
  named_on trace (event.Refused r) h f = h
  named_on trace (event.Armed ps) h f = h
  named_on trace (event.Shown is) h f = h

  pub named_story : (n : ℕ) (trace : Trace) (es : List Event) → IsNaming (tables trace) → found_on n trace es ≡ sound → IsNaming (tables (told_on trace es))
  named_story n trace [] h f = h
  named_story n trace (e ∷ es) h f =
      let parts = sound_parts n (is_formed_by trace e) (broken_by trace e) (found_on (suc n) (told trace e) es) f in
      named_story (suc n) (told trace e) es (named_on trace e h parts.0) parts.1
