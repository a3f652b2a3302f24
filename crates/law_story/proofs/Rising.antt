-- Continuations stand in the order of the decisions that accepted their programs.
use Rattle.law_story.proofs.Every.{every-append, every-map}
use Rattle.law_story.proofs.Fresh.{IfComes}
use Rattle.law_story.proofs.Ids.{is_same_id-refl}
use Rattle.law_story.proofs.NextFits.{Fits, Flies}
use Rattle.law_story.proofs.Upheld.{OfBoots, holds, may-fit}
use Rattle.salt_ast.specs.Paths.{Position, next_on_commit, next_on_failure}
use Rattle.salt_ast.specs.declared.programs.ProgramDef.{ProgramDef}
use Rattle.salt_model.specs.After.{branched, conts_at, kept, run_of}
use Rattle.salt_model.specs.Continuing.{IsFirstAccepted}
use Rattle.salt_model.specs.Ends.{kept_with}
use Rattle.salt_model.specs.Kept.{Kept, Rise, begun_cont, change_cont, cont_in, cont_of, kept_program, moved, tries_left, values_kept, without_cont}
use Rattle.salt_model.specs.Played.{IsPlayed}
use Rattle.salt_model.specs.Trace.{Trace, from, start_of, ◌asks◌, ◌says◌, ◌turns◌}
use Rattle.salt_model.specs.Units.{kind_of}
use Rattle.salt_model.specs.Words.{Every, first_of_list}
use Rattle.salt_model.specs.declared.events.End.TheVariants.{Branched, Committed}
use Rattle.salt_model.specs.declared.events.Event.{Event}
use Rattle.salt_model.specs.declared.events.Event.TheVariants.{Defined, Ended}
use Rattle.salt_model.specs.declared.events.UnitKind.{UnitKind}
use Rattle.salt_model.specs.declared.events.UnitKind.TheVariants.{Acid, Call, First, Later}
use Rattle.salt_model.specs.declared.vars.Binding.{Binding}
use Rattle.salt_values.specs.Id.{is_same_id}
use Rattle.salt_values.specs.declared.cont.Cont.{Cont}
use Rattle.salt_values.specs.declared.id.Id.{Id}
use Rattle.salt_values.specs.declared.value.Value.{Value}
use Rattle.std.proofs.Common.{ap, arith, subst, sym, ◌∙◌}
use Rattle.std.specs.Prelude.{Bool, List, None, Option, Some, [], cond, false, map, option_and_then, refl, true, ℕ, ◌++◌, ◌+◌, ◌<◌, ◌∷◌, ◌≡◌, ◌≤◌}
use Rattle.salt_model.specs.Kept.{parts_of}

-- b was accepted after a
abbrev After : Cont → Cont → Type 0
After a b = a.accepted < b.accepted

rise-up : (n : ℕ) (cs : List Cont) → Rise n cs → Rise (n + 1) cs
rise-up n [] h = tt
rise-up n (c ∷ cs) h = (h.0, (let l : c.accepted ≤ n = h.1 in omega arith), rise-up n cs h.2)

rise-more : (n : ℕ) (c : Cont) → c.accepted ≡ n + 1 → (cs : List Cont) → Rise n cs → Rise (n + 1) (cs ++ c ∷ [])
rise-more n c e [] h = (tt, (let l : c.accepted ≡ n + 1 = e in omega arith), tt)
rise-more n c e (x ∷ cs) h =
    let l : x.accepted ≤ n = h.1 in
    let k : c.accepted ≡ n + 1 = e in
    (every-append (After x) cs (c ∷ []) h.0 (omega arith, tt), omega arith, rise-more n c e cs h.2)

pub every-without : (P : Cont → Type 0) (b : Id) (cs : List Cont) → Every P cs → Every P (without_cont b cs)
every-without P b [] h = tt
every-without P b (c ∷ cs) h = by (is_same_id b c.base) (every-without P b cs h.1)
  where
    by : (t : Bool) → Every P (without_cont b cs) → Every P (cond t cs (c ∷ without_cont b cs))
    by true more = h.1
    by false more = (h.0, more)

rise-without : (n : ℕ) (b : Id) (cs : List Cont) → Rise n cs → Rise n (without_cont b cs)
rise-without n b [] h = tt
rise-without n b (c ∷ cs) h = by (is_same_id b c.base) (rise-without n b cs h.2)
  where
    by : (t : Bool) → Rise n (without_cont b cs) → Rise n (cond t cs (c ∷ without_cont b cs))
    by true more = h.2
    by false more = (every-without (After c) b cs h.0, h.1, more)

module _ (b : Id) (f : Cont → Cont) (same : (c : Cont) → (f c).accepted ≡ c.accepted) where
  every-change : (a : Cont) (cs : List Cont) → Every (After a) cs → Every (After a) (change_cont b f cs)
  every-change a [] h = tt
  every-change a (c ∷ cs) h = by (is_same_id b c.base) (every-change a cs h.1)
    where
      by : (t : Bool) → Every (After a) (change_cont b f cs) → Every (After a) (cond t (f c ∷ cs) (c ∷ change_cont b f cs))
      by true more = (subst (λ m. a.accepted < m) (sym (same c)) h.0, h.1)
      by false more = (h.0, more)

  rise-change : (n : ℕ) (cs : List Cont) → Rise n cs → Rise n (change_cont b f cs)
  rise-change n [] h = tt
  rise-change n (c ∷ cs) h = by (is_same_id b c.base) (rise-change n cs h.2)
    where
      by : (t : Bool) → Rise n (change_cont b f cs) → Rise n (cond t (f c ∷ cs) (c ∷ change_cont b f cs))
      by true more = (subst (λ m. Every (λ (d : Cont). m < d.accepted) cs) (sym (same c)) h.0, subst (λ m. m ≤ n) (sym (same c)) h.1, h.2)
      by false more = (every-change c cs h.0, h.1, more)

rise-moved : (n : ℕ) (b : Id) (o : Option Position) (f : Cont → Cont) → ((c : Cont) → (f c).accepted ≡ c.accepted) → (cs : List Cont) → Rise n cs → Rise n (moved b o f cs)
rise-moved n b None f same cs h = rise-without n b cs h
rise-moved n b (Some at) f same cs h = rise-change b _ (λ c. same c) n cs h

rise-begun : (n : ℕ) (b : Id) (p : ProgramDef) (args : List Value) (vars : List Binding) (o : Option Position) (cs : List Cont) → Rise n cs → Rise (n + 1) (begun_cont b (n + 1) p args vars o cs)
rise-begun n b p args vars None cs h = rise-up n cs h
rise-begun n b p args vars (Some at) cs h = rise-more n _ refl cs h

rise-committed : (k : Kept) (o : Option UnitKind) (vars : List Binding) → Rise k.decisions k.conts → Rise (k.decisions + 1) (conts_at k (k.decisions + 1) o vars)
rise-committed k None vars h = rise-up k.decisions k.conts h
rise-committed k (Some (Acid s)) vars h = rise-up k.decisions k.conts h
rise-committed k (Some (Call s name args)) vars h = rise-up k.decisions k.conts h
rise-committed k (Some (First s c name args)) vars h = go (kept_program name k)
  where
    go : (o : Option ProgramDef) → Rise (k.decisions + 1) (elim o [ None ↦ k.conts | Some p ↦ begun_cont c (k.decisions + 1) p args vars (next_on_commit (parts_of p) 1) k.conts ])
    go None = rise-up k.decisions k.conts h
    go (Some p) = rise-begun k.decisions c p args vars (next_on_commit (parts_of p) 1) k.conts h
rise-committed k (Some (Later c part)) vars h = rise-up k.decisions _ (go (option_and_then (λ c. kept_program c.program k) (cont_of c k)))
  where
    go : (o : Option ProgramDef) → Rise k.decisions (elim o [ None ↦ k.conts | Some p ↦ moved c (next_on_commit (parts_of p) part) (λ x. record x { vars = values_kept p vars }) k.conts ])
    go None = h
    go (Some p) = rise-moved k.decisions c (next_on_commit (parts_of p) part) _ (λ x. refl) k.conts h

abbrev pub Rises : Kept → Type 0
Rises k = Rise k.decisions k.conts

rise-branched : (k : Kept) (o : Option UnitKind) → Rises k → Rises (branched k (k.decisions + 1) o)
rise-branched k None h = h
rise-branched k (Some (Acid s)) h = rise-up k.decisions k.conts h
rise-branched k (Some (Call s name args)) h = rise-up k.decisions k.conts h
rise-branched k (Some (First s c name args)) h = rise-up k.decisions k.conts h
rise-branched k (Some (Later c part)) h = rise-up k.decisions _ (go (option_and_then (λ c. kept_program c.program k) (cont_of c k)))
  where
    go : (o : Option ProgramDef) → Rise k.decisions (elim o [ None ↦ k.conts | Some p ↦ moved c (next_on_failure (parts_of p) part (tries_left c k)) (λ x. x) k.conts ])
    go None = h
    go (Some p) = rise-moved k.decisions c (next_on_failure (parts_of p) part (tries_left c k)) _ (λ x. refl) k.conts h

ends-rise : (trace : Trace) (u : Id) (n : ℕ) → n ≡ (kept trace).decisions + 1 → Rises (kept trace) → Rises (kept (trace says Ended u (Committed n)))
ends-rise trace u n e h = subst (λ m. Rise m (conts_at (kept trace) m (kind_of u trace) (run_of u trace).vars)) (sym e) (rise-committed (kept trace) (kind_of u trace) (run_of u trace).vars h)

branches-rise : (trace : Trace) (u : Id) (n : ℕ) (o : Option UnitKind) → n ≡ (kept trace).decisions + 1 → Rises (kept trace) → Rises (branched (kept trace) n o)
branches-rise trace u n o e h = subst (λ m. Rises (branched (kept trace) m o)) (sym e) (rise-branched (kept trace) o h)

rises-step : (trace : Trace) (e : Event) → Fits trace e → Rises (kept trace) → Rises (kept (trace says e))
rises-step trace (Ended u (Committed n)) f h = ends-rise trace u n f.1 h
rises-step trace (Ended u (Branched n c)) f h = branches-rise trace u n (kind_of u trace) f.1 h
rises-step trace (Defined n text) f h = subst (λ m. Rise m (kept trace).conts) (sym f.0) (rise-up (kept trace).decisions (kept trace).conts h)
rises-step trace e f h = h

pub rises : (trace : Trace) → IsPlayed trace → OfBoots (start_of trace).kept → Rises (start_of trace).kept → Rises (kept trace)
rises (from k) p w h = h
rises (trace asks asked) p w h = rises trace p.0 w h
rises (trace turns b) p w h = rises trace p.0 w h
rises (trace says e) p w h = rises-step trace e (may-fit trace e (holds trace p.0 w).comes p.1) (rises trace p.0 w h)

-- with what is in flight
pub rises-with : (trace : Trace) (o : Option Event) → IfComes (Flies trace) o → Rises (kept trace) → Rises (kept_with trace o)
rises-with trace None g h = h
rises-with trace (Some (Ended u (Committed n))) g h = ends-rise trace u n g.1 h
rises-with trace (Some (Ended u (Branched n c))) g h = branches-rise trace u n (kind_of u trace) g.1 h
rises-with trace (Some (Defined n text)) g h = subst (λ m. Rise m (kept trace).conts) (sym g.0) (rise-up (kept trace).decisions (kept trace).conts h)
rises-with trace (Some e) g h = absurd g

-- the first continuation is that of the first accepted program
pub first-accepted : (trace : Trace) (b : Id) → Rises (kept trace) → first_of_list (map (λ (c : Cont). c.base) (kept trace).conts) ≡ Some b → IsFirstAccepted trace b
first-accepted trace b h f = by (kept trace).conts refl h f
  where
    by : (cs : List Cont) → (kept trace).conts ≡ cs → Rise (kept trace).decisions cs → first_of_list (map (λ (c : Cont). c.base) cs) ≡ Some b → (c : Cont) → cont_in b cs ≡ Some c → Every (λ (d : Cont). c.accepted ≤ d.accepted) cs
    by [] e r g c i = cc
    by (x ∷ cs) e r g c i =
        let s : x.base ≡ b = cc in
        let t : is_same_id b x.base ≡ true = subst (λ y. is_same_id b y ≡ true) (sym s) (is_same_id-refl b) in
        let j : Some x ≡ Some c = sym (ap (λ z. cond z (Some x) (cont_in b cs)) t) ∙ i in
        let k : x ≡ c = cc in
        subst (λ (y : Cont). Every (λ (d : Cont). y.accepted ≤ d.accepted) (x ∷ cs)) k ((omega arith), every-map (After x) (λ (d : Cont). x.accepted ≤ d.accepted) (λ d l. let m : x.accepted < d.accepted = l in omega arith) cs r.0)
