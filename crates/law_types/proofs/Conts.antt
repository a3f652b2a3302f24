-- Continuations fit their programs behind a commit and a branch, and units begin with variables of their types.
use Rattle.salt_ast.proofs.Ways.{branch_leads_on, commit_leads_on}
use Rattle.salt_ast.specs.Judgement.{bindings}
use Rattle.salt_ast.specs.Paths.{Position, at_number, next_on_branch, position_at, retries, next_on_commit, next_on_failure}
use Rattle.salt_ast.specs.ProgramJudgement.{are_arguments, branch_fault, fault_in_parts, program_named, program_scope}
use Rattle.salt_ast.specs.declared.programs.Body.TheVariants.{Acid, Base}
use Rattle.salt_ast.specs.declared.programs.Body.{Body}
use Rattle.salt_ast.specs.declared.programs.PartDef.{PartDef}
use Rattle.salt_ast.specs.declared.programs.ProgramDef.{ProgramDef}
use Rattle.salt_stands.specs.Fitting.{is_cont_of, stands_at_part}
use Rattle.law_story.proofs.Defined.{named-own}
use Rattle.law_story.proofs.Every.{every-append}
use Rattle.law_story.proofs.Ids.{and_left, and_right}
use Rattle.law_story.proofs.Rising.{every-without}
use Rattle.salt_model.specs.After.{branched, committed}
use Rattle.salt_model.specs.Kept.{Kept, begun_cont, change_cont, cont_in, cont_of, conts_branched, conts_committed, kept_program, moved, parts_of, programs_of, schema_of, values_kept, vars_at_call, vars_at_cont, vars_of_kind, zeros}
use Rattle.salt_model.specs.Statements.{UnitRun}
use Rattle.salt_model.specs.Words.{Every}
use Rattle.salt_model.specs.declared.events.UnitKind.TheVariants as kind
use Rattle.salt_model.specs.declared.events.UnitKind.{UnitKind}
use Rattle.salt_model.specs.declared.vars.Binding.{Binding}
use Rattle.salt_ast.specs.TokenSpelling.{same_bytes}
use Rattle.law_types.proofs.Arguments.{joined, kept-behind, zeros-typed}
use Rattle.law_types.proofs.Words.{both}
use Rattle.law_types.specs.Typed.{AreApart, AreVariables, IsContOf, IsKindFor, IsProperProgram, IsTyped, IsTypedRun, scope_of_kind, scope_of_program}
use Rattle.salt_values.specs.Id.{is_same_id}
use Rattle.salt_values.specs.declared.cont.Cont.{Cont}
use Rattle.salt_values.specs.declared.id.Id.{Id}
use Rattle.salt_values.specs.declared.value.Value.{Value}
use Rattle.std.proofs.Common.{ap, arith, subst, sym, ◌∙◌}
use Rattle.std.proofs.lemmas.Bool.Decides.{nat_tests}
use Rattle.std.specs.Prelude.{Bool, List, None, Option, Some, [], cond, false, is_some, length, nat_le, nat_lt, option_and_then, option_map, refl, suc, true, zero, ℕ, ◌<◌, ◌∷◌, ◌≡◌, ◌≤◌}
use Rattle.std.specs.Option.{option_map_or}

-- PARTS

sound-parts : (p : ProgramDef) → branch_fault p.body ≡ None → fault_in_parts (length (parts_of p)) 1 (parts_of p) ≡ None
sound-parts p h = by p.body h
  where
    by : (b : Body) → branch_fault b ≡ None → fault_in_parts (length (parts_of (record p { body = b }))) 1 (parts_of (record p { body = b })) ≡ None
    by (Acid block) g = refl
    by (Base parts) g = g

numbered : (parts : List PartDef) (k : ℕ) → 0 < k → k ≤ length parts → is_some (at_number k parts) ≡ true
numbered [] k few le = absurd (omega arith)
numbered (q ∷ parts) zero few le = absurd (omega arith)
numbered (q ∷ parts) (suc zero) few le = refl
numbered (q ∷ parts) (suc (suc k)) few le = numbered parts (suc k) (omega arith) (omega arith)

tries-whole : (parts : List PartDef) (o : Option ℕ) (at : Position) → option_map (position_at parts) o ≡ Some at → at.tries ≡ retries (at_number at.part parts)
tries-whole parts None at h = absurd cc
tries-whole parts (Some n) at h =
    let same : position_at parts n ≡ at = cc in
    subst (λ (q : Position). q.tries ≡ retries (at_number q.part parts)) same refl

stands : (p : ProgramDef) (part tries : ℕ) → 1 < part → is_some (at_number part (parts_of p)) ≡ true → tries ≤ retries (at_number part (parts_of p)) → stands_at_part p part tries ≡ true
stands p part tries late there few =
    let a : nat_lt 1 part ≡ true = grind (arith, nat_tests) in
    let b : nat_le tries (retries (at_number part (parts_of p))) ≡ true = grind (arith, nat_tests) in
    both _ _ a (both _ _ there b)

module _ (p : ProgramDef) (sound : branch_fault p.body ≡ None) where
  behind-commit : (part : ℕ) (at : Position) → 0 < part → next_on_commit (parts_of p) part ≡ Some at → stands_at_part p at.part at.tries ≡ true
  behind-commit part at some e =
      let on = commit_leads_on (parts_of p) (sound-parts p sound) part at e in
      let tries = tries-whole (parts_of p) _ at e in
      stands p at.part at.tries (omega (arith, on.0)) (numbered (parts_of p) at.part (omega (arith, on.0)) on.1) (omega arith)

  behind-branch : (part : ℕ) (at : Position) → 0 < part → next_on_branch (parts_of p) part ≡ Some at → stands_at_part p at.part at.tries ≡ true
  behind-branch part at some e =
      let on = branch_leads_on (parts_of p) (sound-parts p sound) part at e in
      let tries = tries-whole (parts_of p) _ at e in
      stands p at.part at.tries (omega (arith, on.0)) (numbered (parts_of p) at.part (omega (arith, on.0)) on.1) (omega arith)

  late : (part tries : ℕ) → stands_at_part p part tries ≡ true → 1 < part
  late part tries h = let a : nat_lt 1 part ≡ true = and_left _ _ h in grind (arith, nat_tests)

  behind-failure : (part tries : ℕ) (at : Position) → stands_at_part p part tries ≡ true → next_on_failure (parts_of p) part tries ≡ Some at → stands_at_part p at.part at.tries ≡ true
  behind-failure part zero at h e = let l = late part zero h in behind-branch part at (omega arith) e
  behind-failure part (suc tries) at h e =
      let same : record { part = part; tries = tries } ≡ at = cc in
      let rest = and_right (nat_lt 1 part) _ h in
      let few : nat_le (suc tries) (retries (at_number part (parts_of p))) ≡ true = and_right (is_some (at_number part (parts_of p))) _ rest in
      let fewer : tries ≤ retries (at_number part (parts_of p)) = grind (arith, nat_tests) in
      subst (λ (q : Position). stands_at_part p q.part q.tries ≡ true) same (stands p part tries (late part (suc tries) h) (and_left _ _ rest) fewer)

-- CONTINUATIONS

named-proper : (P : ProgramDef → Type 0) (ps : List ProgramDef) (n : List ℕ) (p : ProgramDef) → Every P ps → program_named ps n ≡ Some p → P p
named-proper P [] n p h e = absurd cc
named-proper P (q ∷ ps) n p h e = by (same_bytes n q.name) e (named-proper P ps n p h.1)
  where
    by : (t : Bool) → cond t (Some q) (program_named ps n) ≡ Some p → (program_named ps n ≡ Some p → P p) → P p
    by true g more = let same : q ≡ p = cc in subst P same h.0
    by false g more = more g

found-in : (P : Cont → Type 0) (b : Id) (c : Cont) (cs : List Cont) → Every P cs → cont_in b cs ≡ Some c → P c
found-in P b c [] h e = absurd cc
found-in P b c (x ∷ cs) h e = by (is_same_id b x.base) e (found-in P b c cs h.1)
  where
    by : (t : Bool) → cond t (Some x) (cont_in b cs) ≡ Some c → (cont_in b cs ≡ Some c → P c) → P c
    by true g more = let same : x ≡ c = cc in subst P same h.0
    by false g more = more g

every-changed : (P : Cont → Type 0) (b : Id) (c : Cont) (f : Cont → Cont) (cs : List Cont) → cont_in b cs ≡ Some c → P (f c) → Every P cs → Every P (change_cont b f cs)
every-changed P b c f [] e g h = tt
every-changed P b c f (x ∷ cs) e g h = by (is_same_id b x.base) e (λ i. every-changed P b c f cs i g h.1)
  where
    by : (t : Bool) → cond t (Some x) (cont_in b cs) ≡ Some c → (cont_in b cs ≡ Some c → Every P (change_cont b f cs)) → Every P (cond t (f x ∷ cs) (x ∷ change_cont b f cs))
    by true i more = let same : c ≡ x = cc in (subst (λ y. P (f y)) same g, h.1)
    by false i more = (h.0, more i)

every-moved : (P : Cont → Type 0) (b : Id) (c : Cont) (o : Option Position) (f : Cont → Cont) (cs : List Cont) → cont_in b cs ≡ Some c →
    ((at : Position) → o ≡ Some at → P (record (f c) { next = at.part; tries = at.tries })) → Every P cs → Every P (moved b o f cs)
every-moved P b c None f cs e g h = every-without P b cs h
every-moved P b c (Some at) f cs e g h = every-changed P b c (λ x. record (f x) { next = at.part; tries = at.tries }) cs e (g at refl) h

module _ (k : Kept) (typed : IsTyped k) where
  pub proper : (n : List ℕ) (p : ProgramDef) → kept_program n k ≡ Some p → IsProperProgram (schema_of k) p
  proper n p e = named-proper (IsProperProgram (schema_of k)) (programs_of k) n p typed.programs e

  -- a continuation of this program
  abbrev Fits : ProgramDef → Cont → Type 0
  Fits p c = is_cont_of (Some p) c ≡ true

  cont-fits : (c : Cont) (p : ProgramDef) → kept_program c.program k ≡ Some p → Fits p c → IsContOf k c
  cont-fits c p e h = ap (λ (o : Option ProgramDef). is_cont_of o c) e ∙ h

  own-fits : (b : Id) (c : Cont) (p : ProgramDef) → cont_of b k ≡ Some c → kept_program c.program k ≡ Some p → Fits p c
  own-fits b c p at e = sym (ap (λ (o : Option ProgramDef). is_cont_of o c) e) ∙ found-in (IsContOf k) b c k.conts typed.conts at

  own-part : (p : ProgramDef) (c : Cont) → Fits p c → stands_at_part p c.next c.tries ≡ true
  own-part p c h = and_right (are_arguments p.vars c.vars) _ (and_right (are_arguments p.params c.args) _ h)

  -- the continuation with which a program begins
  pub begun-fits : (b : Id) (n : ℕ) (name : List ℕ) (args : List Value) (vars : List Binding) (p : ProgramDef) (at : Position) → kept_program name k ≡ Some p → are_arguments p.params args ≡ true →
      AreVariables (bindings (program_scope p)) vars → next_on_commit (parts_of p) 1 ≡ Some at →
      IsContOf k (record { base = b; accepted = n; program = p.name; args = args; vars = values_kept p vars; next = at.part; tries = at.tries })
  begun-fits b n name args vars p at e fit held way =
      cont-fits _ p (subst (λ (m : List ℕ). kept_program m k ≡ Some p) (named-own (programs_of k) name p e) e)
      (both _ _ fit (both _ _ (kept-behind p.params p.vars vars held) (behind-commit p (proper name p e).branches 1 at (omega arith) way)))

  -- where a program goes on behind the commit of its part
  pub on-commit : (b : Id) (c : Cont) (p : ProgramDef) (vars : List Binding) (at : Position) → cont_of b k ≡ Some c → kept_program c.program k ≡ Some p →
      AreVariables (bindings (program_scope p)) vars → next_on_commit (parts_of p) c.next ≡ Some at → IsContOf k (record c { vars = values_kept p vars; next = at.part; tries = at.tries })
  on-commit b c p vars at here e held way =
      let own = own-fits b c p here e in
      let sound = (proper c.program p e).branches in
      let l = late p sound c.next c.tries (own-part p c own) in
      cont-fits (record c { vars = values_kept p vars; next = at.part; tries = at.tries }) p e
      (both _ _ (and_left _ _ own) (both _ _ (kept-behind p.params p.vars vars held) (behind-commit p sound c.next at (omega arith) way)))

  -- and behind its failure
  pub on-failure : (b : Id) (c : Cont) (p : ProgramDef) (at : Position) → cont_of b k ≡ Some c → kept_program c.program k ≡ Some p → next_on_failure (parts_of p) c.next c.tries ≡ Some at →
      IsContOf k (record c { next = at.part; tries = at.tries })
  on-failure b c p at here e way =
      let own = own-fits b c p here e in
      cont-fits (record c { next = at.part; tries = at.tries }) p e
      (both _ _ (and_left _ _ own) (both _ _ (and_left _ _ (and_right (are_arguments p.params c.args) _ own))
      (behind-failure p (proper c.program p e).branches c.next c.tries at (own-part p c own) way)))

  begun : (b : Id) (n : ℕ) (name : List ℕ) (args : List Value) (vars : List Binding) (p : ProgramDef) → kept_program name k ≡ Some p → are_arguments p.params args ≡ true →
      AreVariables (bindings (program_scope p)) vars → (o : Option Position) → next_on_commit (parts_of p) 1 ≡ o → Every (IsContOf k) (begun_cont b n p args vars o k.conts)
  begun b n name args vars p e fit held None way = typed.conts
  begun b n name args vars p e fit held (Some at) way = every-append (IsContOf k) k.conts _ typed.conts (begun-fits b n name args vars p at e fit held way, tt)

  pub conts-committed : (n : ℕ) (u : UnitKind) (vars : List Binding) → IsKindFor k u → AreVariables (bindings (scope_of_kind k u)) vars → Every (IsContOf k) (conts_committed k n u vars)
  conts-committed n (kind.Acid s) vars is held = typed.conts
  conts-committed n (kind.Call s name args) vars is held = typed.conts
  conts-committed n (kind.First s b name args) vars is held = by (kept_program name k) refl is held
    where
      by : (o : Option ProgramDef) → kept_program name k ≡ o → option_map_or (λ (p : ProgramDef). are_arguments p.params args) o false ≡ true → AreVariables (bindings (scope_of_program o)) vars →
          Every (IsContOf k) (elim o [ None ↦ k.conts | Some p ↦ begun_cont b n p args vars (next_on_commit (parts_of p) 1) k.conts ])
      by None e g h = typed.conts
      by (Some p) e g h = begun b n name args vars p e g h (next_on_commit (parts_of p) 1) refl
  conts-committed n (kind.Later b part) vars is held = of-cont (cont_of b k) refl is held
    where
      of-program : (c : Cont) (o : Option ProgramDef) → cont_of b k ≡ Some c → kept_program c.program k ≡ o → c.next ≡ part → AreVariables (bindings (scope_of_program o)) vars →
          Every (IsContOf k) (elim o [ None ↦ k.conts | Some p ↦ moved b (next_on_commit (parts_of p) part) (λ x. record x { vars = values_kept p vars }) k.conts ])
      of-program c None at e there h = typed.conts
      of-program c (Some p) at e there h =
          every-moved (IsContOf k) b c (next_on_commit (parts_of p) part) (λ x. record x { vars = values_kept p vars }) k.conts at
          (λ to way. on-commit b c p vars to at e h (ap (next_on_commit (parts_of p)) there ∙ way))
          typed.conts

      of-cont : (o : Option Cont) → cont_of b k ≡ o → option_map (λ (c : Cont). c.next) o ≡ Some part →
          AreVariables (bindings (scope_of_program (option_and_then (λ (c : Cont). kept_program c.program k) o))) vars →
          Every (IsContOf k) (elim (option_and_then (λ (c : Cont). kept_program c.program k) o) [ None ↦ k.conts | Some p ↦ moved b (next_on_commit (parts_of p) part) (λ x. record x { vars = values_kept p vars }) k.conts ])
      of-cont None at g h = typed.conts
      of-cont (Some c) at g h = let there : c.next ≡ part = cc in of-program c (kept_program c.program k) at refl there h

  pub conts-branched : (u : UnitKind) → IsKindFor k u → Every (IsContOf k) (conts_branched k u)
  conts-branched (kind.Acid s) is = typed.conts
  conts-branched (kind.Call s name args) is = typed.conts
  conts-branched (kind.First s b name args) is = typed.conts
  conts-branched (kind.Later b part) is = of-cont (cont_of b k) refl is
    where
      of-program : (c : Cont) (o : Option ProgramDef) → cont_of b k ≡ Some c → kept_program c.program k ≡ o → c.next ≡ part →
          Every (IsContOf k) (elim o [ None ↦ k.conts | Some p ↦ moved b (next_on_failure (parts_of p) part c.tries) (λ x. x) k.conts ])
      of-program c None at e there = typed.conts
      of-program c (Some p) at e there =
          every-moved (IsContOf k) b c (next_on_failure (parts_of p) part c.tries) (λ x. x) k.conts at
          (λ to way. on-failure b c p to at e (ap (λ (n : ℕ). next_on_failure (parts_of p) n c.tries) there ∙ way))
          typed.conts

      of-cont : (o : Option Cont) → cont_of b k ≡ o → option_map (λ (c : Cont). c.next) o ≡ Some part →
          Every (IsContOf k) (elim (option_and_then (λ (c : Cont). kept_program c.program k) o)
          [ None ↦ k.conts | Some p ↦ moved b (next_on_failure (parts_of p) part (elim o [ None ↦ 0 | Some c ↦ c.tries ])) (λ x. x) k.conts ])
      of-cont None at g = typed.conts
      of-cont (Some c) at g = let there : c.next ≡ part = cc in of-program c (kept_program c.program k) at refl there

  of-named : (n : List ℕ) → AreApart (bindings (scope_of_program (kept_program n k)))
  of-named n = by (kept_program n k) refl
    where
      by : (o : Option ProgramDef) → kept_program n k ≡ o → AreApart (bindings (scope_of_program o))
      by None e = refl
      by (Some p) e = (proper n p e).apart

  -- a unit begins with variables of its program

  nothing-held : AreVariables [] []
  nothing-held = record { values = []; named = refl; typed = refl }

  called : (o : Option ProgramDef) (args : List Value) → option_map_or (λ (p : ProgramDef). are_arguments p.params args) o false ≡ true → AreVariables (bindings (scope_of_program o)) (elim o [ None ↦ [] | Some p ↦ vars_at_call p args ])
  called None args h = nothing-held
  called (Some p) args h = joined p.params p.vars args (zeros p.vars) h (zeros-typed p.vars)

  pub begins-typed : (u : UnitKind) → IsKindFor k u → AreVariables (bindings (scope_of_kind k u)) (vars_of_kind k u)
  begins-typed (kind.Acid s) is = nothing-held
  begins-typed (kind.Call s name args) is = called (kept_program name k) args is
  begins-typed (kind.First s b name args) is = called (kept_program name k) args is
  begins-typed (kind.Later b part) is = of-cont (cont_of b k) refl
    where
      of-program : (c : Cont) (o : Option ProgramDef) → cont_of b k ≡ Some c → kept_program c.program k ≡ o →
          AreVariables (bindings (scope_of_program o)) (elim o [ None ↦ [] | Some p ↦ vars_at_cont p c ])
      of-program c None at e = nothing-held
      of-program c (Some p) at e =
          let fit = own-fits b c p at e in
          joined p.params p.vars c.args c.vars (and_left _ _ fit) (and_left _ _ (and_right (are_arguments p.params c.args) _ fit))

      of-cont : (o : Option Cont) → cont_of b k ≡ o →
          AreVariables (bindings (scope_of_program (option_and_then (λ (c : Cont). kept_program c.program k) o)))
          (elim o [ None ↦ [] | Some c ↦ elim (kept_program c.program k) [ None ↦ [] | Some p ↦ vars_at_cont p c ] ])
      of-cont None at = nothing-held
      of-cont (Some c) at = of-program c (kept_program c.program k) at refl

  -- no two of its parameters and variables have one name
  pub scope-apart : (u : UnitKind) → AreApart (bindings (scope_of_kind k u))
  scope-apart (kind.Acid s) = refl
  scope-apart (kind.Call s n args) = of-named n
  scope-apart (kind.First s b n args) = of-named n
  scope-apart (kind.Later b part) = by (cont_of b k)
    where
      by : (o : Option Cont) → AreApart (bindings (scope_of_program (option_and_then (λ (c : Cont). kept_program c.program k) o)))
      by None = refl
      by (Some c) = of-named c.program

  -- what is kept behind its end

  pub committed-typed : (n : ℕ) (u : UnitKind) (run : UnitRun) → IsKindFor k u → IsTypedRun (schema_of k) (bindings (scope_of_kind k u)) run → IsTyped (committed k n (Some u) run)
  committed-typed n u run is done = record { tables = typed.tables; programs = typed.programs; rows = done.rows; conts = conts-committed n u run.vars is done.vars }

  pub branched-typed : (n : ℕ) (u : UnitKind) → IsKindFor k u → IsTyped (branched k n (Some u))
  branched-typed n u is = record { tables = typed.tables; programs = typed.programs; rows = typed.rows; conts = conts-branched u is }
