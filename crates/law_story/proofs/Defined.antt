-- The programs that go on are defined: definitions stay, and a continuation is of a program that is kept.
use Rattle.salt_ast.specs.ProgramJudgement.{program_named}
use Rattle.salt_ast.specs.Paths.{Position, next_on_commit, next_on_failure}
use Rattle.salt_ast.specs.declared.programs.ProgramDef.{ProgramDef}
use Rattle.law_story.proofs.Every.{every-append, every-map}
use Rattle.law_story.proofs.Ids.{and_left, and_right}
use Rattle.law_story.proofs.Rising.{every-without}
use Rattle.salt_model.specs.After.{branched, conts_at, defined_by, keep, kept, run_of, stage}
use Rattle.salt_model.specs.Ends.{kept_with}
use Rattle.salt_model.specs.Kept.{Definition, Kept, OfProgram, OfTable, begun_cont, change_cont, cont_of, kept_program, moved, program_of_definition, programs_of, tries_left, values_kept}
use Rattle.salt_model.specs.Trace.{Trace, from, line_of, start_of, ◌asks◌, ◌says◌, ◌turns◌}
use Rattle.salt_model.specs.Units.{kind_of}
use Rattle.salt_model.specs.Words.{Every}
use Rattle.salt_model.specs.declared.events.End.TheVariants.{Branched, Committed}
use Rattle.salt_model.specs.declared.events.Event.TheVariants.{Defined, Ended}
use Rattle.salt_model.specs.declared.events.Event.{Event}
use Rattle.salt_model.specs.declared.events.UnitKind.TheVariants.{Acid, Call, First, Later}
use Rattle.salt_model.specs.declared.events.UnitKind.{UnitKind}
use Rattle.salt_model.specs.declared.vars.Binding.{Binding}
use Rattle.salt_ast.specs.TokenSpelling.{same_bytes}
use Rattle.salt_values.specs.Id.{is_same_id}
use Rattle.salt_values.specs.declared.cont.Cont.{Cont}
use Rattle.salt_values.specs.declared.id.Id.{Id}
use Rattle.salt_values.specs.declared.value.Value.{Value}
use Rattle.std.proofs.Common.{ap, subst, sym, ◌∙◌}
use Rattle.std.proofs.lemmas.Bool.{eqb-true}
use Rattle.std.specs.List.{filter_map}
use Rattle.std.specs.Prelude.{Bool, List, None, Option, Some, [], cond, false, is_some, option_and_then, refl, true, ℕ, ◌++◌, ◌==◌, ◌∷◌, ◌≡◌}
use Rattle.salt_model.specs.Kept.{parts_of}

-- a program of this name is kept
abbrev pub IsKeptProgram : Kept → List ℕ → Type 0
IsKeptProgram k n = is_some (kept_program n k) ≡ true

abbrev pub AreDefined : Kept → List Cont → Type 0
AreDefined k cs = Every (λ (c : Cont). IsKeptProgram k c.program) cs

pub same-bytes-true : (n m : List ℕ) → same_bytes n m ≡ true → n ≡ m
same-bytes-true [] [] h = refl
same-bytes-true [] (y ∷ ys) h = cc
same-bytes-true (x ∷ xs) [] h = cc
same-bytes-true (x ∷ xs) (y ∷ ys) h =
    λ i. eqb-true x y (and_left (x == y) _ h) i ∷ same-bytes-true xs ys (and_right (x == y) _ h) i

-- a program is found by its own name
pub named-own : (ps : List ProgramDef) (n : List ℕ) (p : ProgramDef) → program_named ps n ≡ Some p → n ≡ p.name
named-own [] n p h = cc
named-own (q ∷ ps) n p h = by (same_bytes n q.name) refl h (named-own ps n p)
  where
    by : (b : Bool) → same_bytes n q.name ≡ b → cond b (Some q) (program_named ps n) ≡ Some p → (program_named ps n ≡ Some p → n ≡ p.name) →
        n ≡ p.name
    by true e g more = let same : q ≡ p = cc in same-bytes-true n q.name e ∙ ap (λ x. x.name) same
    by false e g more = more g

-- definitions stay, and the program that a name finds
pub named-stays : (ds more : List Definition) (n : List ℕ) (p : ProgramDef) → program_named (filter_map program_of_definition ds) n ≡ Some p →
    program_named (filter_map program_of_definition (ds ++ more)) n ≡ Some p
named-stays [] more n p h = cc
named-stays (OfTable d ∷ ds) more n p h = named-stays ds more n p h
named-stays (OfProgram q ∷ ds) more n p h = by (same_bytes n q.name) h (named-stays ds more n p)
  where
    before : Option ProgramDef
    before = program_named (filter_map program_of_definition ds) n

    after : Option ProgramDef
    after = program_named (filter_map program_of_definition (ds ++ more)) n

    by : (b : Bool) → cond b (Some q) before ≡ Some p → (before ≡ Some p → after ≡ Some p) → cond b (Some q) after ≡ Some p
    by true g f = g
    by false g f = f g

stays-defined : (ds more : List Definition) (n : List ℕ) → is_some (program_named (filter_map program_of_definition ds) n) ≡ true →
    is_some (program_named (filter_map program_of_definition (ds ++ more)) n) ≡ true
stays-defined ds more n h = by (program_named (filter_map program_of_definition ds) n) refl h
  where
    by : (o : Option ProgramDef) → program_named (filter_map program_of_definition ds) n ≡ o → is_some o ≡ true →
        is_some (program_named (filter_map program_of_definition (ds ++ more)) n) ≡ true
    by None e g = cc
    by (Some p) e g = ap is_some (named-stays ds more n p e)

-- continuations

defined-change : (k : Kept) (b : Id) (f : Cont → Cont) → ((c : Cont) → (f c).program ≡ c.program) → (cs : List Cont) → AreDefined k cs →
    AreDefined k (change_cont b f cs)
defined-change k b f same [] h = tt
defined-change k b f same (c ∷ cs) h = by (is_same_id b c.base) (defined-change k b f same cs h.1)
  where
    by : (t : Bool) → AreDefined k (change_cont b f cs) → AreDefined k (cond t (f c ∷ cs) (c ∷ change_cont b f cs))
    by true more = (subst (IsKeptProgram k) (sym (same c)) h.0, h.1)
    by false more = (h.0, more)

defined-moved : (k : Kept) (b : Id) (o : Option Position) (f : Cont → Cont) → ((c : Cont) → (f c).program ≡ c.program) → (cs : List Cont) →
    AreDefined k cs → AreDefined k (moved b o f cs)
defined-moved k b None f same cs h = every-without (λ (c : Cont). IsKeptProgram k c.program) b cs h
defined-moved k b (Some at) f same cs h = defined-change k b (λ c. record (f c) { next = at.part; tries = at.tries }) (λ c. same c) cs h

defined-begun : (k : Kept) (b : Id) (n : ℕ) (p : ProgramDef) (args : List Value) (vars : List Binding) (o : Option Position) (cs : List Cont) →
    IsKeptProgram k p.name → AreDefined k cs → AreDefined k (begun_cont b n p args vars o cs)
defined-begun k b n p args vars None cs d h = h
defined-begun k b n p args vars (Some at) cs d h = every-append (λ (c : Cont). IsKeptProgram k c.program) cs _ h (d, tt)

kept-own : (k : Kept) (name : List ℕ) (p : ProgramDef) → kept_program name k ≡ Some p → IsKeptProgram k p.name
kept-own k name p e = subst (IsKeptProgram k) (named-own (programs_of k) name p e) (ap is_some e)

defined-committed : (k : Kept) (n : ℕ) (o : Option UnitKind) (vars : List Binding) → AreDefined k k.conts → AreDefined k (conts_at k n o vars)
defined-committed k n None vars h = h
defined-committed k n (Some (Acid s)) vars h = h
defined-committed k n (Some (Call s name args)) vars h = h
defined-committed k n (Some (First s c name args)) vars h = go (kept_program name k) refl
  where
    go : (o : Option ProgramDef) → kept_program name k ≡ o → AreDefined k (elim o [ None ↦ k.conts | Some p ↦ begun_cont c n p args vars (next_on_commit (parts_of p) 1) k.conts ])
    go None e = h
    go (Some p) e = defined-begun k c n p args vars (next_on_commit (parts_of p) 1) k.conts (kept-own k name p e) h
defined-committed k n (Some (Later c part)) vars h = go (option_and_then (λ c. kept_program c.program k) (cont_of c k))
  where
    go : (o : Option ProgramDef) → AreDefined k (elim o [ None ↦ k.conts | Some p ↦ moved c (next_on_commit (parts_of p) part) (λ x. record x { vars = values_kept p vars }) k.conts ])
    go None = h
    go (Some p) = defined-moved k c (next_on_commit (parts_of p) part) _ (λ x. refl) k.conts h

defined-branched : (k : Kept) (n : ℕ) (o : Option UnitKind) → AreDefined k k.conts → AreDefined (branched k n o) (branched k n o).conts
defined-branched k n None h = h
defined-branched k n (Some (Acid s)) h = h
defined-branched k n (Some (Call s name args)) h = h
defined-branched k n (Some (First s c name args)) h = h
defined-branched k n (Some (Later c part)) h = go (option_and_then (λ c. kept_program c.program k) (cont_of c k))
  where
    go : (o : Option ProgramDef) → AreDefined k (elim o [ None ↦ k.conts | Some p ↦ moved c (next_on_failure (parts_of p) part (tries_left c k)) (λ x. x) k.conts ])
    go None = h
    go (Some p) = defined-moved k c (next_on_failure (parts_of p) part (tries_left c k)) _ (λ x. refl) k.conts h

defined-says : (trace : Trace) (e : Event) → AreDefined (kept trace) (kept trace).conts → AreDefined (keep trace e (stage trace)) (keep trace e (stage trace)).conts
defined-says trace (Ended u (Committed n)) h = defined-committed (kept trace) n (kind_of u trace) (run_of u trace).vars h
defined-says trace (Ended u (Branched n c)) h = defined-branched (kept trace) n (kind_of u trace) h
defined-says trace (Defined n text) h =
    every-map (λ (c : Cont). IsKeptProgram (kept trace) c.program) (λ (c : Cont). IsKeptProgram (kept (trace says Defined n text)) c.program)
    (λ c d. stays-defined (kept trace).definitions (defined_by (line_of trace)) c.program d) (kept trace).conts h
defined-says trace e h = h

pub defined-kept : (trace : Trace) → AreDefined (start_of trace).kept (start_of trace).kept.conts → AreDefined (kept trace) (kept trace).conts
defined-kept (from k) h = h
defined-kept (trace asks asked) h = defined-kept trace h
defined-kept (trace turns b) h = defined-kept trace h
defined-kept (trace says e) h = defined-says trace e (defined-kept trace h)

pub defined-with : (trace : Trace) (o : Option Event) → AreDefined (kept trace) (kept trace).conts → AreDefined (kept_with trace o) (kept_with trace o).conts
defined-with trace None h = h
defined-with trace (Some e) h = defined-says trace e h

-- a program that is kept stays
pub program-stays : (trace : Trace) (e : Event) (n : List ℕ) → IsKeptProgram (kept trace) n → IsKeptProgram (kept (trace says e)) n
program-stays trace (Defined m text) n h = stays-defined (kept trace).definitions (defined_by (line_of trace)) n h
program-stays trace (Ended u (Branched m c)) n h = by (kind_of u trace)
  where
    by : (o : Option UnitKind) → IsKeptProgram (branched (kept trace) m o) n
    by None = h
    by (Some kind) = h
program-stays trace e n h = h
