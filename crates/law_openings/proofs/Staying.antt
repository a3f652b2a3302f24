-- What can be drained stays so with each event of a played trace, if the programs that it defines lead on.
use Rattle.salt_ast.proofs.Ways.{branch_leads_on, commit_leads_on}
use Rattle.salt_ast.specs.Paths.{Position, at_number, next_on_commit, next_on_failure}
use Rattle.salt_ast.specs.ProgramJudgement.{fault_in_parts, program_named}
use Rattle.salt_ast.specs.declared.programs.PartDef.{PartDef}
use Rattle.salt_ast.specs.declared.programs.ProgramDef.{ProgramDef}
use Rattle.law_states.proofs.KeptAfter.{open-listed}
use Rattle.law_states.proofs.TriesLeft.{tries-left}
use Rattle.law_states.specs.Keeps.{KeepsUnit, KeepsUnits}
use Rattle.law_states.specs.Laws.{IsSound}
use Rattle.law_states.specs.OpenUnits.{OpenUnit, UnitState, unit_named}
use Rattle.law_states.specs.Steps.{kept_branched, kept_committed, kept_ended, units_after}
use Rattle.law_story.proofs.Defined.{named-own, named-stays}
use Rattle.law_story.proofs.Every.{every-append, every-map}
use Rattle.law_story.proofs.Replays.{good-event, replays}
use Rattle.law_story.proofs.Rising.{every-without}
use Rattle.salt_model.specs.After.{defined_by}
use Rattle.salt_model.specs.Kept.{Definition, Kept, OfProgram, OfTable, begun_cont, change_cont, cont_in, cont_of, conts_branched, conts_committed, kept_program, moved, parts_of, program_of_definition, programs_of, tries_left, values_kept}
use Rattle.salt_model.specs.Trace.{Trace, ◌says◌}
use Rattle.salt_model.specs.Words.{Every}
use Rattle.salt_model.specs.declared.events.Cause.{Cause}
use Rattle.salt_model.specs.declared.events.End.TheVariants.{Branched, Committed}
use Rattle.salt_model.specs.declared.events.Event.{Event}
use Rattle.salt_model.specs.declared.events.Event.TheVariants.{Defined, Ended, Opened}
use Rattle.salt_model.specs.declared.events.UnitKind.{UnitKind}
use Rattle.salt_model.specs.declared.events.UnitKind.TheVariants.{Acid, Call, First, Later}
use Rattle.salt_model.specs.declared.vars.Binding.{Binding}
use Rattle.law_openings.proofs.Draining.{named-program, ways-of}
use Rattle.law_openings.specs.Draining.{CanDrain, LeadsOn, StandsAtPart, defined_in}
use Rattle.salt_values.specs.Id.{is_same_id}
use Rattle.salt_values.specs.declared.cont.Cont.{Cont}
use Rattle.salt_values.specs.declared.id.Id.{Id}
use Rattle.salt_values.specs.declared.value.Value.{Value}
use Rattle.std.proofs.Common.{ap, arith, subst, sym, ◌∙◌}
use Rattle.std.proofs.lemmas.Option.{same_Some}
use Rattle.std.specs.List.{filter_map}
use Rattle.std.specs.Prelude.{Bool, List, None, Option, Some, [], cond, false, length, option_and_then, refl, suc, true, zero, ℕ, ◌++◌, ◌<◌, ◌∷◌, ◌≡◌, ◌≤◌}

-- A PART within the count is there.

abbrev IsThere : ProgramDef → ℕ → Type 0
IsThere p n = (part : PartDef) × (at_number n (parts_of p) ≡ Some part)

in-range : (parts : List PartDef) (n : ℕ) → 0 < n → n ≤ length parts → (part : PartDef) × (at_number n parts ≡ Some part)
in-range [] n l m = absurd (omega arith)
in-range (p ∷ ps) zero l m = absurd (omega arith)
in-range (p ∷ ps) (suc zero) l m = (p, refl)
in-range (p ∷ ps) (suc (suc n)) l m = in-range ps (suc n) (omega arith) (omega arith)

module _ (p : ProgramDef) (leads : LeadsOn p) where
  ways : fault_in_parts (length (parts_of p)) 1 (parts_of p) ≡ None
  ways = ways-of p.body leads.ways (parts_of p) refl

  then-there : (part : ℕ) (at : Position) → next_on_commit (parts_of p) part ≡ Some at → IsThere p at.part
  then-there part at h = let l = commit_leads_on (parts_of p) ways part at h in in-range (parts_of p) at.part (omega (arith, l.0)) l.1

  branch-there : (part tries : ℕ) (at : Position) → ((m : ℕ) → tries ≡ suc m → IsThere p part) → next_on_failure (parts_of p) part tries ≡ Some at → IsThere p at.part
  branch-there part zero at there h = let l = branch_leads_on (parts_of p) ways part at h in in-range (parts_of p) at.part (omega (arith, l.0)) l.1
  branch-there part (suc m) at there h =
      let same : record { part = part; tries = m } ≡ at = same_Some {A = Position} (record { part = part; tries = m }) at h in
      subst (λ (q : Position). IsThere p q.part) same (there m refl)

-- CONTINUATIONS.

found-in : (P : Cont → Type 0) (b : Id) (c : Cont) (cs : List Cont) → Every P cs → cont_in b cs ≡ Some c → P c
found-in P b c [] h e = cc
found-in P b c (x ∷ cs) h e = by (is_same_id b x.base) e (found-in P b c cs h.1)
  where
    by : (t : Bool) → cond t (Some x) (cont_in b cs) ≡ Some c → (cont_in b cs ≡ Some c → P c) → P c
    by true g more = subst P (same_Some {A = Cont} x c g) h.0
    by false g more = more g

change-each : (P : Cont → Type 0) (b : Id) (c : Cont) (f : Cont → Cont) (cs : List Cont) → cont_in b cs ≡ Some c → P (f c) → Every P cs →
    Every P (change_cont b f cs)
change-each P b c f [] e g h = tt
change-each P b c f (x ∷ cs) e g h = by (is_same_id b x.base) e (λ i. change-each P b c f cs i g h.1)
  where
    by : (t : Bool) → cond t (Some x) (cont_in b cs) ≡ Some c → (cont_in b cs ≡ Some c → Every P (change_cont b f cs)) →
        Every P (cond t (f x ∷ cs) (x ∷ change_cont b f cs))
    by true i more = (subst (λ y. P (f y)) (sym (same_Some {A = Cont} x c i)) g, h.1)
    by false i more = (h.0, more i)

-- the one that has changed is found under its name
found-change : (b : Id) (f : Cont → Cont) → ((x : Cont) → (f x).base ≡ x.base) → (cs : List Cont) (c : Cont) → cont_in b cs ≡ Some c →
    cont_in b (change_cont b f cs) ≡ Some (f c)
found-change b f same [] c h = cc
found-change b f same (x ∷ cs) c h = by (is_same_id b x.base) refl h (found-change b f same cs c)
  where
    by : (t : Bool) → is_same_id b x.base ≡ t → cond t (Some x) (cont_in b cs) ≡ Some c →
        (cont_in b cs ≡ Some c → cont_in b (change_cont b f cs) ≡ Some (f c)) →
        cont_in b (cond t (f x ∷ cs) (x ∷ change_cont b f cs)) ≡ Some (f c)
    by true e g more =
        ap (λ z. cond (is_same_id b z) (Some (f x)) (cont_in b cs)) (same x) ∙ rw e (ap (λ y. Some (f y)) (same_Some {A = Cont} x c g))
    by false e g more = rw e (more g)

module _ (k : Kept) (can : CanDrain k) where
  moved-stands : (b : Id) (c : Cont) (p : ProgramDef) (o : Option Position) (f : Cont → Cont) → ((x : Cont) → (f x).program ≡ x.program) →
      kept_program c.program k ≡ Some p → ((at : Position) → o ≡ Some at → IsThere p at.part) → cont_of b k ≡ Some c →
      Every (StandsAtPart k) (moved b o f k.conts)
  moved-stands b c p None f same g there e = every-without (StandsAtPart k) b k.conts can.conts
  moved-stands b c p (Some at) f same g there e =
      let t = there at refl in
      change-each (StandsAtPart k) b c (λ c. record (f c) { next = at.part; tries = at.tries }) k.conts e
      (record { program = p; part = t.0; found = ap (λ n. kept_program n k) (same c) ∙ g; there = t.1 })
      can.conts

  leads : (c : Cont) (p : ProgramDef) → kept_program c.program k ≡ Some p → LeadsOn p
  leads c p g = named-program LeadsOn (programs_of k) c.program p can.programs g

  begun-stands : (b : Id) (n : ℕ) (p : ProgramDef) (args : List Value) (vars : List Binding) (o : Option Position) → kept_program p.name k ≡ Some p →
      ((at : Position) → o ≡ Some at → IsThere p at.part) → Every (StandsAtPart k) (begun_cont b n p args vars o k.conts)
  begun-stands b n p args vars None g there = can.conts
  begun-stands b n p args vars (Some at) g there =
      let t = there at refl in
      every-append (StandsAtPart k) k.conts
      (record { base = b; accepted = n; program = p.name; args = args; vars = values_kept p vars; next = at.part; tries = at.tries } ∷ [])
      can.conts (record { program = p; part = t.0; found = g; there = t.1 }, tt)

  committed-stands : (n : ℕ) (kind : UnitKind) (vars : List Binding) → Every (StandsAtPart k) (conts_committed k n kind vars)
  committed-stands n (Acid s) vars = can.conts
  committed-stands n (Call s name args) vars = can.conts
  committed-stands n (First s b name args) vars = go (kept_program name k) refl
    where
      go : (o : Option ProgramDef) → kept_program name k ≡ o →
          Every (StandsAtPart k) (elim o [ None ↦ k.conts | Some p ↦ begun_cont b n p args vars (next_on_commit (parts_of p) 1) k.conts ])
      go None e = can.conts
      go (Some p) e =
          begun-stands b n p args vars (next_on_commit (parts_of p) 1) (subst (λ x. kept_program x k ≡ Some p) (named-own (programs_of k) name p e) e)
          (then-there p (named-program LeadsOn (programs_of k) name p can.programs e) 1)
  committed-stands n (Later b part) vars = by (cont_of b k) refl
    where
      go : (c : Cont) → cont_of b k ≡ Some c → (o : Option ProgramDef) → kept_program c.program k ≡ o →
          Every (StandsAtPart k) (elim o [ None ↦ k.conts | Some p ↦ moved b (next_on_commit (parts_of p) part) (λ x. record x { vars = values_kept p vars }) k.conts ])
      go c e None g = can.conts
      go c e (Some p) g = moved-stands b c p (next_on_commit (parts_of p) part) (λ x. record x { vars = values_kept p vars }) (λ x. refl) g (then-there p (leads c p g) part) e

      by : (o : Option Cont) → cont_of b k ≡ o →
          Every (StandsAtPart k)
          (elim (option_and_then (λ c. kept_program c.program k) o)
          [ None ↦ k.conts | Some p ↦ moved b (next_on_commit (parts_of p) part) (λ x. record x { vars = values_kept p vars }) k.conts ])
      by None e = can.conts
      by (Some c) e = go c e (kept_program c.program k) refl

  -- a failure with tries left leaves a program at its part
  abbrev StaysAt : UnitKind → Type 0
  StaysAt kind = (b : Id) (part m : ℕ) (c : Cont) → kind ≡ Later b part → cont_of b k ≡ Some c → c.tries ≡ suc m → c.next ≡ part

  branched-stands : (kind : UnitKind) → StaysAt kind → Every (StandsAtPart k) (conts_branched k kind)
  branched-stands (Later b part) stays = by (cont_of b k) refl
    where
      left : Option Cont → ℕ
      left o = elim o [ None ↦ 0 | Some c ↦ c.tries ]

      its : (c : Cont) (p : ProgramDef) → cont_of b k ≡ Some c → kept_program c.program k ≡ Some p → (m : ℕ) → c.tries ≡ suc m → IsThere p part
      its c p e g m t =
          let at = found-in (StandsAtPart k) b c k.conts can.conts e in
          let same : at.program ≡ p = same_Some {A = ProgramDef} at.program p (sym at.found ∙ g) in
          (at.part, subst (λ n. at_number n (parts_of p) ≡ Some at.part) (stays b part m c refl e t) (subst (λ (p : ProgramDef). at_number c.next (parts_of p) ≡ Some at.part) same at.there))

      go : (c : Cont) → cont_of b k ≡ Some c → (o : Option ProgramDef) → kept_program c.program k ≡ o →
          Every (StandsAtPart k) (elim o [ None ↦ k.conts | Some p ↦ moved b (next_on_failure (parts_of p) part c.tries) (λ x. x) k.conts ])
      go c e None g = can.conts
      go c e (Some p) g =
          moved-stands b c p (next_on_failure (parts_of p) part c.tries) (λ x. x) (λ x. refl) g
          (λ at h. branch-there p (leads c p g) part c.tries at (λ m t. its c p e g m t) h) e

      by : (o : Option Cont) → cont_of b k ≡ o →
          Every (StandsAtPart k)
          (elim (option_and_then (λ c. kept_program c.program k) o)
          [ None ↦ k.conts | Some p ↦ moved b (next_on_failure (parts_of p) part (left o)) (λ x. x) k.conts ])
      by None e = can.conts
      by (Some c) e = go c e (kept_program c.program k) refl
  branched-stands kind stays = can.conts

-- AN EVENT.

-- with the same definitions each stands where it stood
same-defined : (k l : Kept) → programs_of l ≡ programs_of k → (cs : List Cont) → Every (StandsAtPart k) cs → Every (StandsAtPart l) cs
same-defined k l e cs h =
    every-map (StandsAtPart k) (StandsAtPart l) (λ c at. record { program = at.program; part = at.part; found = ap (λ ps. program_named ps c.program) e ∙ at.found; there = at.there }) cs h

-- a failure with tries left makes of a program's continuation this one
failed-at : (k : Kept) → CanDrain k → (b : Id) (part m : ℕ) (c : Cont) → cont_of b k ≡ Some c → c.tries ≡ suc m →
    cont_in b (conts_branched k (Later b part)) ≡ Some (record c { next = part; tries = m })
failed-at k can b part m c e t =
    let at = found-in (StandsAtPart k) b c k.conts can.conts e in
    ap (λ q. cont_in b (elim q [ None ↦ k.conts | Some p ↦ moved b (next_on_failure (parts_of p) part (tries_left b k)) (λ c. c) k.conts ]))
    (ap (option_and_then (λ (c : Cont). kept_program c.program k)) e ∙ at.found)
    ∙ ap (λ t. cont_in b (moved b (next_on_failure (parts_of at.program) part t) (λ c. c) k.conts)) (ap (λ (q : Option Cont). elim q [ None ↦ 0 | Some d ↦ d.tries ]) e ∙ t)
    ∙ found-change b (λ c. record c { next = part; tries = m }) (λ x. refl) k.conts c e

module _ (s : UnitState) (trace : Trace) (keeps : KeepsUnits s trace) (can : CanDrain s.kept) where
  stays-at : (n : ℕ) (x : Cause) (o : OpenUnit) → unit_named o.unit s.units ≡ Some o → KeepsUnit trace o → IsSound (trace says Ended o.unit (Branched n x)) →
      StaysAt s.kept can o.kind
  stays-at n x o named k sound = λ b part m c kind here left.
      let used = tries-left s trace o b part n m x c keeps k sound.played sound.well kind here left in
      let now : cont_of b (kept_branched s.kept n o) ≡ Some (record c { tries = m }) = subst (λ q. cont_of b (kept_ended s.kept (Branched n x) q) ≡ Some (record c { tries = m })) named used in
      let its : cont_in b (conts_branched s.kept o.kind) ≡ Some (record c { next = part; tries = m }) = subst (λ q. cont_in b (conts_branched s.kept q) ≡ Some (record c { next = part; tries = m })) (sym kind) (failed-at s.kept can b part m c here left) in
      ap (λ (d : Cont). d.next) (same_Some {A = Cont} (record c { tries = m }) (record c { next = part; tries = m }) (sym now ∙ its))

  commit-stays : (n : ℕ) (o : OpenUnit) → CanDrain (kept_committed s.kept n o)
  commit-stays n o = record {
    programs = can.programs;
    conts = same-defined s.kept (kept_committed s.kept n o) refl (conts_committed s.kept n o.kind o.vars) (committed-stands s.kept can n o.kind o.vars);
  }

  branch-stays : (n : ℕ) (o : OpenUnit) → StaysAt s.kept can o.kind → CanDrain (kept_branched s.kept n o)
  branch-stays n o stays = record {
    programs = can.programs;
    conts = same-defined s.kept (kept_branched s.kept n o) refl (conts_branched s.kept o.kind) (branched-stands s.kept can o.kind stays);
  }

each-defined : (P : ProgramDef → Type 0) (ds more : List Definition) → Every P (filter_map program_of_definition ds) → Every P (filter_map program_of_definition more) →
    Every P (filter_map program_of_definition (ds ++ more))
each-defined P [] more h g = g
each-defined P (OfTable d ∷ ds) more h g = each-defined P ds more h g
each-defined P (OfProgram p ∷ ds) more h g = (h.0, each-defined P ds more h.1 g)

define-stays : (s : UnitState) (n : ℕ) (text : List ℕ) → CanDrain s.kept → Every LeadsOn (defined_in s (Defined n text)) → CanDrain (units_after (Defined n text) s).kept
define-stays s n text can h = record {
  programs = each-defined LeadsOn s.kept.definitions (defined_by s.line) can.programs h;
  conts =
      every-map (StandsAtPart s.kept) (StandsAtPart (units_after (Defined n text) s).kept)
      (λ c at. record { program = at.program; part = at.part; found = named-stays s.kept.definitions (defined_by s.line) c.program at.program at.found; there = at.there })
      s.kept.conts can.conts;
}

pub can-stay : (s : UnitState) (trace : Trace) (e : Event) → KeepsUnits s trace → IsSound (trace says e) → CanDrain s.kept → Every LeadsOn (defined_in s e) →
    CanDrain (units_after e s).kept
can-stay s trace (Ended u (Committed n)) keeps sound can h =
    let inv = replays trace sound.played.0 in
    let r = open-listed s trace u inv.base keeps (good-event trace (Ended u (Committed n)) inv sound.played.1).0 in
    subst (λ q. CanDrain (kept_ended s.kept (Committed n) q)) (sym r.1) (commit-stays s trace keeps can n r.0)
can-stay s trace (Ended u (Branched n x)) keeps sound can h =
    let inv = replays trace sound.played.0 in
    let r = open-listed s trace u inv.base keeps (good-event trace (Ended u (Branched n x)) inv sound.played.1).0 in
    let named : unit_named r.0.unit s.units ≡ Some r.0 = subst (λ v. unit_named v s.units ≡ Some r.0) (sym r.2) r.1 in
    let here : IsSound (trace says Ended r.0.unit (Branched n x)) = subst (λ v. IsSound (trace says Ended v (Branched n x))) (sym r.2) sound in
    subst (λ q. CanDrain (kept_ended s.kept (Branched n x) q)) (sym r.1) (branch-stays s trace keeps can n r.0 (stays-at s trace keeps can n x r.0 named r.3 here))
can-stay s trace (Defined n text) keeps sound can h = define-stays s n text can h
can-stay s trace (Opened boot n) keeps sound can h =
    record { programs = can.programs; conts = same-defined s.kept (record s.kept { boot = boot }) refl s.kept.conts can.conts }
can-stay s trace e keeps sound can h = can
