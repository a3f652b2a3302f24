-- How the units of an opening go on: each event's state, and what is left of it.
use Rattle.salt_ast.proofs.Rests.{rest_of_part}
use Rattle.salt_ast.specs.Paths.{Position, at_number, rest_of, next_on_commit, next_on_failure}
use Rattle.salt_ast.specs.ProgramJudgement.{branch_fault, fault_in_parts, program_named}
use Rattle.salt_ast.specs.declared.programs.Body.{Body}
use Rattle.salt_ast.specs.declared.programs.Body.TheVariants.{Acid, Base}
use Rattle.salt_ast.specs.declared.programs.PartDef.{PartDef}
use Rattle.salt_ast.specs.declared.programs.ProgramDef.{ProgramDef}
use Rattle.salt_ast.specs.declared.trees.Statement.{Statement}
use Rattle.law_states.proofs.LookUps.{asked-within}
use Rattle.law_states.specs.Follows.{cut_in, cuts_or_drains_in, drains_in, follow_opening_in, opening_in, unfinished_in, unit_of}
use Rattle.law_states.specs.OpenUnits.{OpenUnit, UnitState, asks_next, names_in, unit_named, without_unit}
use Rattle.law_states.specs.Steps.{begun, doing_one, kept_ended, units_after}
use Rattle.law_states.specs.Told.{after_did_in, after_end_in, begins_in, commits_in, does_in, fails_in, finishes_in, is_at_end_in, next_decision_number, next_unit, serve_in}
use Rattle.law_story.proofs.Coming.{nothing}
use Rattle.law_story.proofs.Every.{every-filter}
use Rattle.law_story.proofs.Fresh.{IfComes, comes-option_or, comes-then_some}
use Rattle.law_story.proofs.Ids.{is_same_id-refl}
use Rattle.law_story.proofs.Lists.{In, all-in, filter-less, in-filter, in-map, in-order}
use Rattle.law_story.proofs.NextFits.{comes-map-at, comes-then_some-at}
use Rattle.salt_model.specs.Kept.{Kept, block_of_kind, block_of_part, cont_of, conts_branched, conts_committed, kept_program, moved, parts_of, programs_of, tries_left, values_kept}
use Rattle.salt_model.specs.Words.{Every, is_empty}
use Rattle.salt_values.specs.Id.{in_order}
use Rattle.salt_model.specs.declared.events.Answer.{Answer}
use Rattle.salt_model.specs.declared.events.Answer.TheVariants.{Failed}
use Rattle.salt_model.specs.declared.events.Cause.{Cause}
use Rattle.salt_model.specs.declared.events.End.{End}
use Rattle.salt_model.specs.declared.events.End.TheVariants.{Branched, Committed, Cut}
use Rattle.salt_model.specs.declared.events.Event.{Event}
use Rattle.salt_model.specs.declared.events.Event.TheVariants.{Accepted, Began, Defined, Did, Down, Early, Ended, Finished, Opened, Ready}
use Rattle.salt_model.specs.declared.events.UnitKind.{UnitKind}
use Rattle.salt_model.specs.declared.events.UnitKind.TheVariants.{First, Later}
use Rattle.law_openings.specs.Draining.{AreEarlier, CanDrain, DrainsAt, LeadsOn, Stands, StandsAtPart, cuts_in, done_now, is_earlier, is_within, opening_stage, statements_left, units_to_cut}
use Rattle.salt_model.specs.Rests.{rest_of_cont, rests_of, statements_in}
use Rattle.salt_ast.specs.TokenSpelling.{same_bytes}
use Rattle.salt_values.specs.Id.{is_same_id}
use Rattle.salt_values.specs.declared.cont.Cont.{Cont}
use Rattle.salt_values.specs.declared.id.Id.{Id}
use Rattle.std.proofs.Common.{ap, arith, inl, subst, sym, ◌∙◌}
use Rattle.std.proofs.lemmas.Bool.Decides.{nat_tests}
use Rattle.std.proofs.lemmas.Option.{same_Some}
use Rattle.std.specs.List.{filter, list_all}
use Rattle.std.specs.Option.{option_or}
use Rattle.std.specs.Prelude.{Bool, List, None, Option, Some, [], cond, false, is_none, length, max, nat_lt, not, option_and_then, option_map, refl, suc, true, zero, ℕ, ◌*◌, ◌+◌, ◌-◌, ◌<◌, ◌∷◌, ◌≡◌, ◌≤◌}

-- WHAT FOLLOWS.

-- a definition
abbrev pub is_defined : Event → Bool
is_defined (Defined n text) = true
is_defined e = false

-- what follows f in s leads to t
pub record GoesTo (f : Event) (s t : UnitState) (e : Event) : Type 0 where
  pub stands : Stands t e
  pub statements : CanDrain s.kept → statements_left t + statements_in e ≤ statements_left s
  pub cuts : units_to_cut t + cuts_in e ≤ units_to_cut s
  pub stage : opening_stage e < opening_stage f + 8 * (statements_in e + cuts_in e)
  pub defines : is_defined e ≡ false

abbrev pub Goes : Event → UnitState → Event → Type 0
Goes f s e = GoesTo f s (units_after e s) e

-- SMALL FACTS.

not-below : (a b : ℕ) → a ≡ b → nat_lt a b ≡ false
not-below a b h = grind (arith, nat_tests)

done-earlier : (boot : ℕ) (os : List OpenUnit) → Every (λ o. is_earlier boot o ≡ true) os → done_now boot os ≡ 0
done-earlier boot [] h = refl
done-earlier boot (o ∷ os) h = rw h.0 (let rest = done-earlier boot os h.1 in omega arith)

all-earlier : (boot : ℕ) (os : List OpenUnit) → Every (λ o. is_earlier boot o ≡ true) os → length (filter (is_earlier boot) os) ≡ length os
all-earlier boot [] h = refl
all-earlier boot (o ∷ os) h = rw h.0 (let rest = all-earlier boot os h.1 in omega arith)

fewer : (u : Id) (o : OpenUnit) (os : List OpenUnit) → In o os → o.unit ≡ u → length (without_unit u os) < length os
fewer u o os i e = by (list_all p os) refl
  where
    p : OpenUnit → Bool
    p o = not (is_same_id o.unit u)

    self : p o ≡ false
    self = rw e (rw (is_same_id-refl u) refl)

    by : (b : Bool) → list_all p os ≡ b → length (filter p os) < length os
    by true h = let t : true ≡ false = sym (all-in p o os h i) ∙ self in cc
    by false h = filter-less p os h

pub named-program : (P : ProgramDef → Type 0) (ps : List ProgramDef) (n : List ℕ) (p : ProgramDef) → Every P ps → program_named ps n ≡ Some p → P p
named-program P [] n p h e = cc
named-program P (q ∷ qs) n p h e = by (same_bytes n q.name) e (named-program P qs n p h.1)
  where
    by : (b : Bool) → cond b (Some q) (program_named qs n) ≡ Some p → (program_named qs n ≡ Some p → P p) → P p
    by true g more = subst P (same_Some {A = ProgramDef} q p g) h.0
    by false g more = more g

-- THE REST of a program at its part.

pub ways-of : (b : Body) → branch_fault b ≡ None → (parts : List PartDef) → elim b [ Acid block ↦ [] | Base ps ↦ ps ] ≡ parts → fault_in_parts (length parts) 1 parts ≡ None
ways-of (Acid block) h parts e = subst (λ ps. fault_in_parts (length ps) 1 ps ≡ None) e refl
ways-of (Base ps) h parts e = subst (λ ps. fault_in_parts (length ps) 1 ps ≡ None) e h

pub there-in : {A : Type 0} (P : A → Type 0) (n : ℕ) (xs : List A) (x : A) → Every P xs → at_number n xs ≡ Some x → P x
there-in P n [] x h e = cc
there-in P zero (y ∷ ys) x h e = cc
there-in {A = A} P (suc zero) (y ∷ ys) x h e = subst P (same_Some {A = A} y x e) h.0
there-in P (suc (suc n)) (y ∷ ys) x h e = there-in P (suc n) ys x h.1 e

module _ (k : Kept) (can : CanDrain k) (c : Cont) (at : StandsAtPart k c) where
  leads : LeadsOn at.program
  leads = named-program LeadsOn (programs_of k) c.program at.program can.programs at.found

  rest-is : rest_of_cont (programs_of k) c
      ≡ length at.part.block + max (rest_of (parts_of at.program) (next_on_commit (parts_of at.program) c.next)) (rest_of (parts_of at.program) (next_on_failure (parts_of at.program) c.next c.tries))
  rest-is =
      ap (λ o. elim o [ None ↦ 0 | Some p ↦ rest_of (parts_of p) (Some (record { part = c.next; tries = c.tries })) ]) at.found
      ∙ rest_of_part (parts_of at.program) c.next c.tries at.part (ways-of at.program.body leads.ways (parts_of at.program) refl) at.there

  pub block-counts : 0 < length at.part.block
  block-counts = there-in (λ (part : PartDef). 0 < length part.block) c.next (parts_of at.program) at.part leads.blocks at.there

  pub rest-block : length at.part.block ≤ rest_of_cont (programs_of k) c
  rest-block = let r = rest-is in omega arith

  rest-commit : length at.part.block + rest_of (parts_of at.program) (next_on_commit (parts_of at.program) c.next) ≤ rest_of_cont (programs_of k) c
  rest-commit = let r = rest-is in omega arith

  rest-branch : length at.part.block + rest_of (parts_of at.program) (next_on_failure (parts_of at.program) c.next c.tries) ≤ rest_of_cont (programs_of k) c
  rest-branch = let r = rest-is in omega arith

-- the first continuation goes on at a position, or ends
moved-rests : (ps : List ProgramDef) (c : Cont) (cs : List Cont) (p : ProgramDef) (way : Option Position) (f : Cont → Cont) → (f c).program ≡ c.program →
    program_named ps c.program ≡ Some p → rests_of ps (moved c.base way f (c ∷ cs)) ≡ rest_of (parts_of p) way + rests_of ps cs
moved-rests ps c cs p None f same e = rw (is_same_id-refl c.base) (omega arith)
moved-rests ps c cs p (Some at) f same e =
    rw (is_same_id-refl c.base)
    (ap (λ o. elim o [ None ↦ 0 | Some p ↦ rest_of (parts_of p) (Some (record { part = at.part; tries = at.tries })) ] + rests_of ps cs)
    (ap (program_named ps) same ∙ e))

-- A DRAIN'S UNIT.

module _ (s : UnitState) (o : OpenUnit) (c : Cont) (cs : List Cont) (boot : o.unit.boot ≡ s.kept.boot) where
  abbrev pub Unit : OpenUnit
  Unit = record o { kind = Later c.base c.next }

  abbrev pub State : UnitState
  State = record s { units = Unit ∷ []; kept = record s.kept { conts = c ∷ cs } }

  pub found : unit_named o.unit State.units ≡ Some Unit
  found = rw (is_same_id-refl o.unit) refl

  this-boot : is_earlier s.kept.boot o ≡ false
  this-boot = not-below o.unit.boot s.kept.boot boot

  no-more : cuts_or_drains_in State (cut_in State) ≡ None
  no-more = ap (λ b. cuts_or_drains_in State (in_order (cond b (o.unit ∷ []) []))) this-boot

  done-is : done_now s.kept.boot State.units ≡ o.done
  done-is = rw this-boot (omega arith)

  cont-found : cont_of c.base State.kept ≡ Some c
  cont-found = rw (is_same_id-refl c.base) refl

  program-found : (at : StandsAtPart State.kept c) →
      option_and_then (λ (c : Cont). kept_program c.program State.kept) (cont_of c.base State.kept) ≡ Some at.program
  program-found at = ap (option_and_then (λ (c : Cont). kept_program c.program State.kept)) cont-found ∙ at.found

  pub block-found : (at : StandsAtPart State.kept c) → block_of_kind State.kept (Later c.base c.next) ≡ Some at.part.block
  block-found at =
      ap (option_and_then (λ (d : Cont). option_map (λ p. block_of_part p c.next) (kept_program d.program State.kept))) cont-found
      ∙ ap (option_map (λ p. block_of_part p c.next)) at.found
      ∙ ap (λ (o : Option PartDef). Some (elim o [ None ↦ [] | Some part ↦ part.block ])) at.there

  -- a statement

  left-one : (r d e n : ℕ) → d ≡ n → e ≡ n + 1 → n < r → r - e + 1 ≤ r - d
  left-one r d e n h g l = omega arith

  does-goes : (f : Event) (st : Statement) → s.early ≡ false → asks_next State Unit ≡ Some st → Goes f State (does_in State Unit st)
  does-goes f st late asks = record {
    stands = record {
      unit = doing_one State.kept st Unit;
      cont = c;
      others = cs;
      only = rw (is_same_id-refl o.unit) refl;
      conts = refl;
      name = refl;
      boot = boot;
      late = late;
      within = λ block h. let l = asked-within State Unit block st h asks in omega arith;
    };
    statements = λ can. left-one (rests_of (programs_of State.kept) (c ∷ cs)) (done_now s.kept.boot State.units) (done_now s.kept.boot (units_after (does_in State Unit st) State).units) o.done done-is (rw (is_same_id-refl o.unit) (rw this-boot (omega arith)))
        (let at : StandsAtPart State.kept c = can.conts.0 in
        let l = asked-within State Unit at.part.block st (block-found at) asks in
        let r = rest-block State.kept can c at in
        omega arith);
    cuts = rw (is_same_id-refl o.unit) (rw this-boot (omega arith));
    stage = omega arith;
    defines = refl;
  }

  serve-goes : (f : Event) → s.early ≡ false → IfComes (Goes f State) (serve_in State Unit)
  serve-goes f late = comes-map-at (Goes f State) (does_in State Unit) (asks_next State Unit) (λ st h. does-goes f st late h)

  -- its end

  abbrev Ending : Kept → UnitState
  Ending k = record State { kept = k; units = [] }

  ends-at : (end : End) → units_after (Ended o.unit end) State ≡ Ending (kept_ended State.kept end (Some Unit))
  ends-at end = λ i. record State { kept = kept_ended State.kept end (found i); units = cond (not (is_same_id-refl o.unit i)) (Unit ∷ []) [] }

  left-end : (r t d n : ℕ) → d ≡ n → t + n ≤ r → t - 0 + 0 ≤ r - d
  left-end r t d n h l = omega arith

  abbrev pub IsWithin : Type 0
  IsWithin = (block : List Statement) → block_of_kind State.kept (Later c.base c.next) ≡ Some block → o.done ≤ length block

  -- its program goes on by this way, which is shorter by its block
  ends-left : (can : CanDrain State.kept) → IsWithin → (way : Option Position) (cont : List Cont) →
      length can.conts.0.part.block + rest_of (parts_of can.conts.0.program) way ≤ rest_of_cont (programs_of State.kept) c →
      rests_of (programs_of State.kept) cont ≡ rest_of (parts_of can.conts.0.program) way + rests_of (programs_of State.kept) cs →
      rests_of (programs_of State.kept) cont - 0 + 0 ≤ rests_of (programs_of State.kept) (c ∷ cs) - done_now s.kept.boot State.units
  ends-left can w way cont l e =
      let b = w can.conts.0.part.block (block-found can.conts.0) in
      left-end (rests_of (programs_of State.kept) (c ∷ cs)) (rests_of (programs_of State.kept) cont) (done_now s.kept.boot State.units) o.done done-is (omega arith)

  commit-left : (n : ℕ) (can : CanDrain State.kept) → IsWithin →
      rests_of (programs_of State.kept) (conts_committed State.kept n (Later c.base c.next) o.vars) - 0 + 0 ≤ rests_of (programs_of State.kept) (c ∷ cs) - done_now s.kept.boot State.units
  commit-left n can w =
      let at : StandsAtPart State.kept c = can.conts.0 in
      let f : Cont → Cont = λ c. record c { vars = values_kept at.program o.vars } in
      ends-left can w (next_on_commit (parts_of at.program) c.next) (conts_committed State.kept n (Later c.base c.next) o.vars) (rest-commit State.kept can c at)
      (ap (λ q. rests_of (programs_of State.kept) (elim q [ None ↦ c ∷ cs | Some p ↦ moved c.base (next_on_commit (parts_of p) c.next) (λ c. record c { vars = values_kept p o.vars }) (c ∷ cs) ])) (program-found at)
      ∙ moved-rests (programs_of State.kept) c cs at.program (next_on_commit (parts_of at.program) c.next) f refl at.found)

  branch-left : (can : CanDrain State.kept) → IsWithin →
      rests_of (programs_of State.kept) (conts_branched State.kept (Later c.base c.next)) - 0 + 0 ≤ rests_of (programs_of State.kept) (c ∷ cs) - done_now s.kept.boot State.units
  branch-left can w =
      let at : StandsAtPart State.kept c = can.conts.0 in
      let tries : tries_left c.base State.kept ≡ c.tries = ap (λ (q : Option Cont). elim q [ None ↦ 0 | Some d ↦ d.tries ]) cont-found in
      ends-left can w (next_on_failure (parts_of at.program) c.next c.tries) (conts_branched State.kept (Later c.base c.next)) (rest-branch State.kept can c at)
      (ap (λ q. rests_of (programs_of State.kept) (elim q [ None ↦ c ∷ cs | Some p ↦ moved c.base (next_on_failure (parts_of p) c.next (tries_left c.base State.kept)) (λ c. c) (c ∷ cs) ])) (program-found at)
      ∙ ap (λ t. rests_of (programs_of State.kept) (moved c.base (next_on_failure (parts_of at.program) c.next t) (λ c. c) (c ∷ cs))) tries
      ∙ moved-rests (programs_of State.kept) c cs at.program (next_on_failure (parts_of at.program) c.next c.tries) (λ c. c) refl at.found)

  commits-goes : (u : Id) (st : Statement) (a : Answer) → IsWithin → Goes (Did u st a) State (commits_in State Unit)
  commits-goes u st a w =
      let end = Committed (next_decision_number State) in
      subst (λ t. GoesTo (Did u st a) State t (Ended o.unit end)) (sym (ends-at end)) (record {
        stands = tt;
        statements = λ can. commit-left (next_decision_number State) can w;
        cuts = omega arith;
        stage = omega arith;
        defines = refl;
      })

  fails-goes : (u : Id) (st : Statement) (a : Answer) (x : Cause) → IsWithin → Goes (Did u st a) State (fails_in State Unit x Unit.kind)
  fails-goes u st a x w =
      let end = Branched (next_decision_number State) x in
      subst (λ t. GoesTo (Did u st a) State t (Ended o.unit end)) (sym (ends-at end)) (record {
        stands = tt;
        statements = λ can. branch-left can w;
        cuts = omega arith;
        stage = omega arith;
        defines = refl;
      })

  did-goes : (u : Id) (st : Statement) (a b : Answer) → IsWithin → IfComes (Goes (Did u st a) State) (after_did_in State Unit b)
  did-goes u st a (Failed x) w = fails-goes u st a x w
  did-goes u st a b w =
      comes-then_some (Goes (Did u st a) State) (is_at_end_in Unit (block_of_kind State.kept Unit.kind)) (commits_in State Unit) (commits-goes u st a w)

  -- what follows an event of it

  abbrev Follows : Event → Option OpenUnit → Type 0
  Follows f q = IfComes (Goes f State) (opening_in State f q)

  nothing-else : (f : Event) → IfComes (Goes f State) (cuts_or_drains_in State (cut_in State))
  nothing-else f = subst (IfComes (Goes f State)) (sym no-more) tt

  pub began-follows : (kind : UnitKind) → s.early ≡ false → Follows (Began o.unit kind) (unit_named o.unit State.units)
  began-follows kind late =
      let f = Began o.unit kind in
      subst (Follows f) (sym found) (comes-option_or (Goes f State) (serve_in State Unit) (cuts_or_drains_in State (cut_in State)) (serve-goes f late) (nothing-else f))

  pub did-follows : (st : Statement) (a : Answer) → s.early ≡ false → IsWithin → Follows (Did o.unit st a) (unit_named o.unit State.units)
  did-follows st a late w =
      let f = Did o.unit st a in
      subst (Follows f) (sym found)
      (comes-option_or (Goes f State) (option_or (after_did_in State Unit a) (serve_in State Unit)) (cuts_or_drains_in State (cut_in State))
      (comes-option_or (Goes f State) (after_did_in State Unit a) (serve_in State Unit) (did-goes o.unit st a a w) (serve-goes f late))
      (nothing-else f))

-- a state in which a drain's unit is open is such a state
pub drained : (P : UnitState → Id → Type 0) (s : UnitState) (u : Id) (d : DrainsAt s u) → P (State s d.unit d.cont d.others d.boot) d.unit.unit → P s u
drained P s u d h = subst (P s) d.name (subst (λ t. P t d.unit.unit) (λ i. record s { units = sym d.only i; kept = record s.kept { conts = sym d.conts i } }) h)

pub drained-within : (s : UnitState) (u : Id) (d : DrainsAt s u) → IsWithin s d.unit d.cont d.others d.boot
drained-within s u d =
    subst (λ (k : Kept). (block : List Statement) → block_of_kind k (Later d.cont.base d.cont.next) ≡ Some block → d.unit.done ≤ length block)
    (λ i. record s.kept { conts = d.conts i }) d.within

-- UNITS OF EARLIER BOOTS.

stays : (f e : Event) (s : UnitState) → Stands s e → statements_in e ≡ 0 → cuts_in e ≡ 0 → opening_stage e < opening_stage f → is_defined e ≡ false →
    GoesTo f s s e
stays f e s h d c l n = record { stands = h; statements = λ can. omega arith; cuts = omega arith; stage = omega arith; defines = n }

module _ (s : UnitState) (all : AreEarlier s) where
  cut-goes : (f : Event) (u : Id) → In u (cut_in s) → opening_stage f ≤ 4 → Goes f s (Ended u Cut)
  cut-goes f u i l =
      let boot = s.kept.boot in
      let left = every-filter (λ o. is_earlier boot o ≡ true) (λ (o : OpenUnit). not (is_same_id o.unit u)) s.units all in
      let n = in-filter (λ u. nat_lt u.boot boot) u (names_in s.units) (in-order u (filter (λ u. nat_lt u.boot boot) (names_in s.units)) i) in
      let o = in-map (λ (o : OpenUnit). o.unit) u s.units n.0 in
      let none : done_now boot s.units ≡ 0 = done-earlier boot s.units all in
      let gone : done_now boot (without_unit u s.units) ≡ 0 = done-earlier boot (without_unit u s.units) left in
      let were = all-earlier boot s.units all in
      let are = all-earlier boot (without_unit u s.units) left in
      let less = fewer u o.0 s.units o.1 o.2 in
      record { stands = left; statements = λ can. omega arith; cuts = omega arith; stage = omega arith; defines = refl }

  finishes-goes : (f : Event) (b : Id) → 2 < opening_stage f → IfComes (Goes f s) (finishes_in s b)
  finishes-goes f b l = comes-then_some (Goes f s) (is_none (cont_of b s.kept)) (Finished b) (stays f (Finished b) s all refl refl l refl)

  end-goes : (u : Id) (end : End) (kind : UnitKind) → IfComes (Goes (Ended u end) s) (after_end_in s end kind)
  end-goes u (Committed n) (First t b name args) = stays (Ended u (Committed n)) (Accepted b) s all refl refl (omega arith) refl
  end-goes u (Committed n) (Later b part) = finishes-goes (Ended u (Committed n)) b (omega arith)
  end-goes u (Branched n x) (Later b part) = finishes-goes (Ended u (Branched n x)) b (omega arith)
  end-goes u end kind = tt

begins-at : (f : Event) (s : UnitState) (c : Cont) (cs : List Cont) → s.early ≡ false → 1 < opening_stage f →
    let t : UnitState = record s { units = []; kept = record s.kept { conts = c ∷ cs } } in Goes f t (begins_in t (Later c.base c.next))
begins-at f s c cs late l =
    let t : UnitState = record s { units = []; kept = record s.kept { conts = c ∷ cs } } in
    let own : nat_lt s.kept.boot s.kept.boot ≡ false = not-below s.kept.boot s.kept.boot refl in
    record {
      stands = (
        record {
          unit = begun t (next_unit t) (Later c.base c.next);
          cont = c;
          others = cs;
          only = refl;
          conts = refl;
          name = refl;
          boot = refl;
          late = late;
          within = λ block h. omega arith;
        },
        refl,
      );
      statements = λ can. omega arith;
      cuts = rw own (omega arith);
      stage = omega arith;
      defines = refl;
    }

begins-goes : (f : Event) (s : UnitState) (c : Cont) (cs : List Cont) → s.units ≡ [] → s.kept.conts ≡ c ∷ cs → s.early ≡ false → 1 < opening_stage f →
    Goes f s (begins_in s (Later c.base c.next))
begins-goes f s c cs none first late l =
    subst (λ (t : UnitState). Goes f t (begins_in t (Later c.base c.next)))
    (λ i. record s { units = sym none i; kept = record s.kept { conts = sym first i } }) (begins-at f s c cs late l)

drain-goes : (f : Event) (s : UnitState) → AreEarlier s → s.units ≡ [] → 1 < opening_stage f → (cs : List Cont) → s.kept.conts ≡ cs → Goes f s (drains_in s cs)
drain-goes f s all none l [] e = record { stands = all; statements = λ can. omega arith; cuts = omega arith; stage = omega arith; defines = refl }
drain-goes f s all none l (c ∷ cs) e = by s.early refl
  where
    by : (early : Bool) → s.early ≡ early → Goes f s (unfinished_in early s c cs)
    by true h = record { stands = all; statements = λ can. omega arith; cuts = omega arith; stage = omega arith; defines = refl }
    by false h = begins-goes f s c cs none e h l

-- the next is cut, or the drain goes on
pub cuts-follow : (f : Event) (s : UnitState) → AreEarlier s → 1 < opening_stage f → opening_stage f ≤ 4 → IfComes (Goes f s) (cuts_or_drains_in s (cut_in s))
cuts-follow f s all l m = by (cut_in s) refl
  where
    by : (us : List Id) → cut_in s ≡ us → IfComes (Goes f s) (cuts_or_drains_in s us)
    by (u ∷ us) e = cut-goes s all f u (subst (In u) (sym e) (inl refl)) m
    by [] e = comes-then_some-at (Goes f s) (is_empty s.units) (drains_in s s.kept.conts) (λ h. drain-goes f s all (nothing s.units h) l s.kept.conts refl)

-- WHAT FOLLOWS an event within an opening.

follow-goes : (s : UnitState) → AreEarlier s → (u : Id) (end : End) (o : Option OpenUnit) → IfComes (Goes (Ended u end) s) (follow_opening_in s (Ended u end) o)
follow-goes s all u end None = tt
follow-goes s all u end (Some o) = end-goes s all u end o.kind

abbrev FollowsIn : UnitState → UnitState → Event → Type 0
FollowsIn before s f = IfComes (Goes f s) (opening_in s f (unit_of f before s))

earlier-follows : (before s : UnitState) (f : Event) → AreEarlier s → 1 < opening_stage f → opening_stage f ≤ 4 →
    IfComes (Goes f s) (follow_opening_in s f (unit_of f before s)) → FollowsIn before s f
earlier-follows before s f all l m h =
    comes-option_or (Goes f s) (follow_opening_in s f (unit_of f before s)) (cuts_or_drains_in s (cut_in s)) h (cuts-follow f s all l m)

pub opening-follows : (before s : UnitState) (f : Event) → is_within f ≡ true → Stands s f → FollowsIn before s f
opening-follows before s (Down why) w h = cc
opening-follows before s (Opened boot n) w h = cc
opening-follows before s Ready w h = cc
opening-follows before s (Early bs) w h = cc
opening-follows before s (Began u kind) w h =
    drained (λ t v. IfComes (Goes (Began v kind) t) (opening_in t (Began v kind) (unit_named v t.units))) s u h.0
    (began-follows s h.0.unit h.0.cont h.0.others h.0.boot kind h.0.late)
opening-follows before s (Did u st a) w h =
    drained (λ t v. IfComes (Goes (Did v st a) t) (opening_in t (Did v st a) (unit_named v t.units))) s u h
    (did-follows s h.unit h.cont h.others h.boot st a h.late (drained-within s u h))
opening-follows before s (Ended u end) w h =
    earlier-follows before s (Ended u end) h (omega arith) (omega arith) (follow-goes s h u end (unit_of (Ended u end) before s))
opening-follows before s (Accepted b) w h =
    earlier-follows before s (Accepted b) h (omega arith) (omega arith) (finishes-goes s h (Accepted b) b (omega arith))
opening-follows before s f w h = earlier-follows before s f h (omega arith) (omega arith) tt
