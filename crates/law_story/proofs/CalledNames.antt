-- A program's name stays the one that its first part was called by, and its continuation has it.
use Rattle.law_story.proofs.Defined.{same-bytes-true}
use Rattle.law_story.proofs.Every.{every-append}
use Rattle.law_story.proofs.Ids.{is_same_id-refl, is_same_id-true}
use Rattle.law_story.proofs.Lists.{In}
use Rattle.law_story.proofs.NextFits.{Fits}
use Rattle.law_story.proofs.Rising.{every-without}
use Rattle.law_story.proofs.Sound.{Old, OldAt, Sound, of-program, old-not}
use Rattle.law_story.proofs.Upheld.{OfBoots, holds, may-fit}
use Rattle.law_story.specs.ContNames.{AreNamed}
use Rattle.salt_ast.specs.Paths.{Position, next_on_commit, next_on_failure}
use Rattle.salt_ast.specs.ProgramJudgement.{program_named}
use Rattle.salt_ast.specs.declared.programs.ProgramDef.{ProgramDef}
use Rattle.salt_model.specs.After.{branched, conts_at, kept, run_of}
use Rattle.salt_model.specs.Kept.{Kept, begun_cont, change_cont, cont_of, kept_program, moved, programs_of, tries_left, values_kept, parts_of}
use Rattle.salt_model.specs.Phases.{phase}
use Rattle.salt_model.specs.Played.{IsPlayed}
use Rattle.salt_model.specs.Shown.{name_of_base}
use Rattle.salt_model.specs.Trace.{Trace, from, start_of, ◌asks◌, ◌says◌, ◌turns◌}
use Rattle.salt_model.specs.Units.{kind_of, program_of_kind}
use Rattle.salt_model.specs.Words.{Every}
use Rattle.salt_model.specs.declared.events.End.TheVariants.{Branched, Committed}
use Rattle.salt_model.specs.declared.events.Event.{Event}
use Rattle.salt_model.specs.declared.events.Event.TheVariants.{Began, Ended}
use Rattle.salt_model.specs.declared.events.UnitKind.{UnitKind}
use Rattle.salt_model.specs.declared.events.UnitKind.TheVariants.{First, Later}
use Rattle.salt_model.specs.declared.vars.Binding.{Binding}
use Rattle.salt_ast.specs.TokenSpelling.{same_bytes}
use Rattle.salt_values.specs.Id.{is_same_id}
use Rattle.salt_values.specs.declared.cont.Cont.{Cont}
use Rattle.salt_values.specs.declared.id.Id.{Id}
use Rattle.salt_values.specs.declared.value.Value.{Value}
use Rattle.std.proofs.Common.{ap, inl, inr, subst, sym, ◌∙◌}
use Rattle.std.specs.Bool.{then_some}
use Rattle.std.specs.Option.{option_or}
use Rattle.std.specs.Prelude.{Bool, List, None, Option, Some, [], cond, false, map, option_and_then, refl, true, ℕ, ◌∷◌, ◌≡◌}

named-program : (ps : List ProgramDef) (n : List ℕ) (p : ProgramDef) → program_named ps n ≡ Some p → n ≡ p.name
named-program [] n p h = cc
named-program (q ∷ ps) n p h = by (same_bytes n q.name) refl h (named-program ps n p)
  where
    by : (t : Bool) → same_bytes n q.name ≡ t → cond t (Some q) (program_named ps n) ≡ Some p → (program_named ps n ≡ Some p → n ≡ p.name) → n ≡ p.name
    by true e g more = let s : q ≡ p = cc in subst (λ (x : ProgramDef). n ≡ x.name) s (same-bytes-true n q.name e)
    by false e g more = more g

module _ (N : Id → List ℕ) where
  abbrev Q : Cont → Type 0
  Q c = N c.base ≡ c.program

  named-change : (b : Id) (f : Cont → Cont) → ((c : Cont) → Q c → Q (f c)) → (cs : List Cont) → Every Q cs → Every Q (change_cont b f cs)
  named-change b f h [] e = tt
  named-change b f h (c ∷ cs) e = by (is_same_id b c.base) (named-change b f h cs e.1)
    where
      by : (t : Bool) → Every (λ (c : Cont). N c.base ≡ c.program) (change_cont b f cs) → Every (λ (c : Cont). N c.base ≡ c.program) (cond t (f c ∷ cs) (c ∷ change_cont b f cs))
      by true more = (h c e.0, e.1)
      by false more = (e.0, more)

  named-moved : (b : Id) (o : Option Position) (f : Cont → Cont) → ((c : Cont) (at : Position) → Q c → Q (record (f c) { next = at.part; tries = at.tries })) → (cs : List Cont) → Every Q cs → Every Q (moved b o f cs)
  named-moved b None f h cs e = every-without Q b cs e
  named-moved b (Some at) f h cs e = named-change b (λ c. record (f c) { next = at.part; tries = at.tries }) (λ c q. h c at q) cs e

  named-begun : (b : Id) (n : ℕ) (p : ProgramDef) (args : List Value) (vars : List Binding) (o : Option Position) (cs : List Cont) → N b ≡ p.name → Every Q cs → Every Q (begun_cont b n p args vars o cs)
  named-begun b n p args vars None cs q h = h
  named-begun b n p args vars (Some at) cs q h = every-append Q cs _ h (q, tt)

  named-first : (k : Kept) (n : ℕ) (b : Id) (name : List ℕ) (args : List Value) (vars : List Binding) (o : Option ProgramDef) → kept_program name k ≡ o → N b ≡ name → Every Q k.conts →
      Every Q (elim o [ None ↦ k.conts | Some p ↦ begun_cont b n p args vars (next_on_commit (parts_of p) 1) k.conts ])
  named-first k n b name args vars None e q h = h
  named-first k n b name args vars (Some p) e q h = named-begun b n p args vars (next_on_commit (parts_of p) 1) k.conts (q ∙ named-program (programs_of k) name p e) h

  named-later : (k : Kept) (b : Id) (part : ℕ) (vars : List Binding) (o : Option ProgramDef) → Every Q k.conts →
      Every Q (elim o [ None ↦ k.conts | Some p ↦ moved b (next_on_commit (parts_of p) part) (λ c. record c { vars = values_kept p vars }) k.conts ])
  named-later k b part vars None h = h
  named-later k b part vars (Some p) h = named-moved b (next_on_commit (parts_of p) part) (λ c. record c { vars = values_kept p vars }) (λ c at q. q) k.conts h

  named-failed : (k : Kept) (b : Id) (part : ℕ) (o : Option ProgramDef) → Every Q k.conts →
      Every Q (elim o [ None ↦ k.conts | Some p ↦ moved b (next_on_failure (parts_of p) part (tries_left b k)) (λ c. c) k.conts ])
  named-failed k b part None h = h
  named-failed k b part (Some p) h = named-moved b (next_on_failure (parts_of p) part (tries_left b k)) (λ c. c) (λ c at q. q) k.conts h

  named-committed : (k : Kept) (n : ℕ) (o : Option UnitKind) (vars : List Binding) → ((s : ℕ) (b : Id) (name : List ℕ) (args : List Value) → o ≡ Some (First s b name args) → N b ≡ name) →
      Every Q k.conts → Every Q (conts_at k n o vars)
  named-committed k n None vars f h = h
  named-committed k n (Some (First s b name args)) vars f h = named-first k n b name args vars (kept_program name k) refl (f s b name args refl) h
  named-committed k n (Some (Later b part)) vars f h = named-later k b part vars (option_and_then (λ c. kept_program c.program k) (cont_of b k)) h
  named-committed k n (Some kind) vars f h = h

  named-branched : (k : Kept) (n : ℕ) (o : Option UnitKind) → Every Q k.conts → Every Q (branched k n o).conts
  named-branched k n None h = h
  named-branched k n (Some (Later b part)) h = named-failed k b part (option_and_then (λ c. kept_program c.program k) (cont_of b k)) h
  named-branched k n (Some kind) h = h

-- a program that begins has no continuation and no unit yet
fresh-not : (trace : Trace) (x : Id) (s : ℕ) (c : Id) (n : List ℕ) (args : List Value) → Fits trace (Began x (First s c n args)) → (b : Id) → Old trace b → is_same_id b c ≡ false
fresh-not trace x s c n args f b o = by (is_same_id b c) refl
  where
    by : (t : Bool) → is_same_id b c ≡ t → t ≡ false
    by true e = absurd (old-not (phase trace) b f.1 (subst (OldAt (phase trace) b) (sym f.2.1 ∙ sym (is_same_id-true b c e)) o))
    by false e = refl

names-begin : (N : Id → List ℕ) (x : Id) (n : List ℕ) (cs : List Cont) → ((b : Id) → In b (map (λ (c : Cont). c.base) cs) → is_same_id b x ≡ false) →
    Every (λ (c : Cont). N c.base ≡ c.program) cs → Every (λ (c : Cont). cond (is_same_id c.base x) n (N c.base) ≡ c.program) cs
names-begin N x n [] d e = tt
names-begin N x n (c ∷ cs) d e = (rw (d c.base (inl refl)) e.0, names-begin N x n cs (λ b i. d b (inr i)) e.1)

pub record Names (trace : Trace) : Type 0 where
  pub conts : AreNamed trace
  pub firsts : (u : Id) (s : ℕ) (b : Id) (n : List ℕ) (args : List Value) → kind_of u trace ≡ Some (First s b n args) → name_of_base b trace ≡ n

conts-step : (trace : Trace) (e : Event) → Sound trace → Fits trace e → Names trace → AreNamed (trace says e)
conts-step trace (Began x (First s c n args)) z f h =
    names-begin (λ b. name_of_base b trace) c n (kept trace).conts (λ b i. fresh-not trace x s c n args f b (z.old_conts b i)) h.conts
conts-step trace (Ended u (Committed n)) z f h =
    named-committed (λ b. name_of_base b trace) (kept trace) n (kind_of u trace) (run_of u trace).vars (λ s b name args q. h.firsts u s b name args q) h.conts
conts-step trace (Ended u (Branched n c)) z f h = named-branched (λ b. name_of_base b trace) (kept trace) n (kind_of u trace) h.conts
conts-step trace e z f h = h.conts

firsts-step : (trace : Trace) (e : Event) → Sound trace → Fits trace e → Names trace → (u : Id) (s : ℕ) (b : Id) (n : List ℕ) (args : List Value) →
    kind_of u (trace says e) ≡ Some (First s b n args) → name_of_base b (trace says e) ≡ n
firsts-step trace (Began x kind) z f h u s b n args q = by (is_same_id u x) q
  where
    stays : (kind : UnitKind) → Fits trace (Began x kind) → kind_of u trace ≡ Some (First s b n args) → name_of_base b (trace says Began x kind) ≡ n
    stays (First t c m vs) f k = rw (fresh-not trace x t c m vs f b (z.old_units b u (of-program trace u b (ap (option_and_then program_of_kind) k)))) (h.firsts u s b n args k)
    stays kind f k = h.firsts u s b n args k

    by : (t : Bool) → option_or (then_some t kind) (kind_of u trace) ≡ Some (First s b n args) → name_of_base b (trace says Began x kind) ≡ n
    by true k = let e : kind ≡ First s b n args = cc in subst (λ y. name_of_base b (trace says Began x y) ≡ n) (sym e) (rw (is_same_id-refl b) refl)
    by false k = stays kind f k
firsts-step trace e z f h u s b n args q = h.firsts u s b n args q

names : (trace : Trace) → IsPlayed trace → OfBoots (start_of trace).kept → AreNamed (from (start_of trace)) → Names trace
names (from k) p w a = record { conts = a; firsts = λ u s b n args q. cc }
names (trace asks line) p w a = let h = names trace p.0 w a in record { conts = h.conts; firsts = h.firsts }
names (trace turns b) p w a = let h = names trace p.0 w a in record { conts = h.conts; firsts = h.firsts }
names (trace says e) p w a =
    let k = holds trace p.0 w in
    let f = may-fit trace e k.comes p.1 in
    let h = names trace p.0 w a in
    record { conts = conts-step trace e k.sound f h; firsts = firsts-step trace e k.sound f h }

pub names-kept : (trace : Trace) → IsPlayed trace → OfBoots (start_of trace).kept → AreNamed (from (start_of trace)) → AreNamed trace
names-kept trace p w a = (names trace p w a).conts
