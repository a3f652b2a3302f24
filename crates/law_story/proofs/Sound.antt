-- What holds at each place of a run while it serves: whose units are open, which names are taken, which programs are over.
use Rattle.law_story.proofs.Fresh.{or_left, or_right, standing-new}
use Rattle.law_story.proofs.HeldLocks.{boot-branched}
use Rattle.law_story.proofs.Ids.{is_same_id-refl, is_same_id-true}
use Rattle.law_story.proofs.Lists.{In, either, in-cases, in-has, in-left, in-order, in-right, in-shrink, in-without, into-filter, into-order, or_cases, order-none}
use Rattle.law_story.proofs.NextFits.{Drains, Fits, FitsKind, IsAcceptance, IsLastEnd, is_first_of}
use Rattle.law_story.specs.Names.{is_named, is_unit_of}
use Rattle.salt_ast.specs.Paths.{Position, next_on_commit, next_on_failure}
use Rattle.salt_ast.specs.declared.lines.Act.TheVariants.{Call}
use Rattle.salt_ast.specs.declared.programs.Body.TheVariants.{Acid}
use Rattle.salt_ast.specs.declared.programs.ProgramDef.{ProgramDef}
use Rattle.salt_model.specs.After.{branched, conts_at, kept, run_of}
use Rattle.salt_model.specs.Continuing.{last_said, part_due, program_continued}
use Rattle.salt_model.specs.Isolation.{is_committed_standing}
use Rattle.salt_model.specs.Kept.{Kept, begun_cont, change_cont, cont_in, cont_of, conts_branched, conts_committed, kept_program, moved, tries_left, values_kept, without_cont}
use Rattle.salt_model.specs.Phases.{Fallen, Opening, Phase, Serving, phase}
use Rattle.salt_model.specs.Programs.{finished_in, freed_by, left_out, passed_in, programs_in, released_in, shares}
use Rattle.salt_model.specs.Reads.{reads_within, releasable, to_release}
use Rattle.salt_model.specs.Trace.{Trace, from, ◌asks◌, ◌says◌, ◌turns◌}
use Rattle.salt_model.specs.Turns.{fresh_base, fresh_unit}
use Rattle.salt_model.specs.Units.{Never, Over, Running, Waiting, base_count, is_of_program, is_open, is_open_standing, kind_begun, kind_of, open_units, program_of, program_of_kind, program_unit, standing, unit_count, units_begun}
use Rattle.salt_model.specs.Waiting.{is_acid}
use Rattle.salt_model.specs.Words.{first_of_list}
use Rattle.salt_model.specs.declared.events.End.{End}
use Rattle.salt_model.specs.declared.events.End.TheVariants.{Branched, Committed}
use Rattle.salt_model.specs.declared.events.Event.{Event}
use Rattle.salt_model.specs.declared.events.Event.TheVariants.{Accepted, Began, Did, Down, Early, Ended, Finished, Opened, Ready, Released, Waits}
use Rattle.salt_model.specs.declared.events.UnitKind.{UnitKind}
use Rattle.salt_model.specs.declared.events.UnitKind.TheVariants.{Acid, Call, First, Later}
use Rattle.salt_model.specs.declared.locks.Family.TheVariants.{Acid}
use Rattle.salt_model.specs.declared.shown.BaseAt.TheVariants.{Finished, First}
use Rattle.salt_model.specs.declared.vars.Binding.{Binding}
use Rattle.salt_values.specs.Id.{has_id, is_older, is_same_id, without}
use Rattle.salt_values.specs.declared.cont.Cont.{Cont}
use Rattle.salt_values.specs.declared.id.Id.{Id}
use Rattle.salt_values.specs.declared.value.Value.{Value}
use Rattle.std.proofs.Common.{ap, arith, inl, inr, subst, sym, ◌∙◌}
use Rattle.std.proofs.lemmas.Bool.Decides.{nat_tests}
use Rattle.std.specs.Bool.{then_some}
use Rattle.std.specs.List.{filter}
use Rattle.std.specs.Option.{option_or}
use Rattle.std.specs.Prelude.{Bool, List, None, Option, Some, [], cond, false, is_some, map, nat_lt, option_and_then, option_map, refl, true, ℕ, ◌++◌, ◌+◌, ◌<◌, ◌∷◌, ◌≡◌, ◌≤◌, ◌⊎◌}
use Rattle.salt_model.specs.Kept.{parts_of}

-- numbers of names

pub older-self : (b : ℕ) (n : ℕ) → is_older (record { boot = b; seq = n + 1 }) (record { boot = b; seq = n + 1 + 1 }) ≡ true
older-self b n = grind (arith, nat_tests)

pub older-next : (u : Id) (b : ℕ) (n : ℕ) → is_older u (record { boot = b; seq = n + 1 }) ≡ true → is_older u (record { boot = b; seq = n + 1 + 1 }) ≡ true
older-next u b n h = grind (arith, nat_tests)

pub older-not : (u : Id) → is_older u u ≡ true → ⊥
older-not u h = grind (arith, nat_tests)

-- a name is taken, by a name that comes next: while the run is down, the boot alone tells
abbrev pub OldAt : Phase → Id → Id → Type 0
OldAt Fallen b f = b.boot ≤ f.boot
OldAt Opening b f = is_older b f ≡ true
OldAt Serving b f = is_older b f ≡ true

older-boot : (u f : Id) → is_older u f ≡ true → u.boot ≤ f.boot
older-boot u f h = grind (arith, nat_tests)

boot-older : (u : Id) (boot n : ℕ) → u.boot < boot → is_older u (record { boot = boot; seq = n }) ≡ true
boot-older u boot n h = grind (arith, nat_tests)

pub old-fallen : (p : Phase) (u f : Id) → OldAt p u f → u.boot ≤ f.boot
old-fallen Fallen u f h = h
old-fallen Opening u f h = older-boot u f h
old-fallen Serving u f h = older-boot u f h

old-next : (p : Phase) (u : Id) (b : ℕ) (n : ℕ) → OldAt p u (record { boot = b; seq = n + 1 }) → OldAt p u (record { boot = b; seq = n + 1 + 1 })
old-next Fallen u b n h = h
old-next Opening u b n h = older-next u b n h
old-next Serving u b n h = older-next u b n h

pub old-now : (p : Phase) (u f : Id) → (p ≡ Fallen → ⊥) → is_older u f ≡ true → OldAt p u f
old-now Fallen u f n h = absurd (n refl)
old-now Opening u f n h = h
old-now Serving u f n h = h

pub old-not : (p : Phase) (u : Id) → (p ≡ Fallen → ⊥) → OldAt p u u → ⊥
old-not Fallen u n h = n refl
old-not Opening u n h = older-not u h
old-not Serving u n h = older-not u h

-- named units

named-by : (b : Bool) → (b ≡ false → ⊥) → b ≡ true
named-by true h = refl
named-by false h = absurd (h refl)

pub open-named : (trace : Trace) (u : Id) → is_open trace u ≡ true → is_named u trace ≡ true
open-named trace u h = named-by (is_named u trace) (λ e. let s : Never ≡ standing u trace = sym (standing-new u trace e) in let f : false ≡ true = ap is_open_standing s ∙ h in cc)

pub committed-named : (trace : Trace) (u : Id) → is_committed_standing (standing u trace) ≡ true → is_named u trace ≡ true
committed-named trace u h = named-by (is_named u trace) (λ e. let s : Never ≡ standing u trace = sym (standing-new u trace e) in let f : false ≡ true = ap is_committed_standing s ∙ h in cc)

begun-other : (u : Id) (e : Event) → is_unit_of u e ≡ false → kind_begun u e ≡ None
begun-other u (Began v kind) h = rw h refl
begun-other u e h = refl

kind-new : (u : Id) (trace : Trace) → is_named u trace ≡ false → kind_of u trace ≡ None
kind-new u (from k) h = refl
kind-new u (trace asks line) h = kind-new u trace h
kind-new u (trace turns b) h = kind-new u trace h
kind-new u (trace says e) h = rw (begun-other u e (or_left _ _ h)) (kind-new u trace (or_right (is_unit_of u e) _ h))

pub kind-named : (trace : Trace) (u : Id) → is_some (kind_of u trace) ≡ true → is_named u trace ≡ true
kind-named trace u h = named-by (is_named u trace) (λ e. let f : false ≡ true = ap is_some (sym (kind-new u trace e)) ∙ h in cc)

pub kind-in : (trace : Trace) (u : Id) → is_some (kind_of u trace) ≡ true → In u (units_begun trace)
kind-in (from k) u h = cc
kind-in (trace asks line) u h = kind-in trace u h
kind-in (trace turns b) u h = kind-in trace u h
kind-in (trace says Began v kind) u h = go (kind-in trace u) (is_same_id u v) refl h
  where
    go : (is_some (kind_of u trace) ≡ true → In u (units_begun trace)) → (b : Bool) → is_same_id u v ≡ b → is_some (option_or (then_some b kind) (kind_of u trace)) ≡ true → In u (units_begun trace ++ v ∷ [])
    go more true e g = in-right u (units_begun trace) (v ∷ []) (inl (sym (is_same_id-true u v e)))
    go more false e g = in-left u (units_begun trace) (v ∷ []) (more g)
kind-in (trace says e) u h = kind-in trace u h

pub kind-some : (trace : Trace) (e : Event) (u : Id) → is_some (kind_of u trace) ≡ true → is_some (kind_of u (trace says e)) ≡ true
kind-some trace e u h = go (kind_begun u e)
  where
    go : (o : Option UnitKind) → is_some (option_or o (kind_of u trace)) ≡ true
    go None = h
    go (Some k) = refl

pub freed-passed : (bs : List Id) (trace : Trace) (b : Id) → In b (freed_by bs trace) → In b (passed_in trace)
freed-passed bs (from k) b h = h
freed-passed bs (trace asks asked) b h = freed-passed bs trace b h
freed-passed bs (trace turns c) b h = freed-passed bs trace b h
freed-passed bs (trace says Early names) b h = go (shares names bs) h (freed-passed bs trace b)
  where
    go : (t : Bool) → In b (cond t (without names (programs_in trace) ++ freed_by bs trace) (freed_by bs trace)) → (In b (freed_by bs trace) → In b (passed_in trace)) → In b (passed_in trace ++ without names (programs_in trace))
    go true g more = either (λ i. in-right b (passed_in trace) _ i) (λ i. in-left b (passed_in trace) _ (more i)) (in-cases b (without names (programs_in trace)) (freed_by bs trace) g)
    go false g more = in-left b (passed_in trace) _ (more g)
freed-passed bs (trace says e) b h = freed-passed bs trace b h

-- programs that are over
abbrev pub Dead : Trace → Id → Type 0
Dead trace b = In b (finished_in trace) ⊎ (In b (released_in trace) ⊎ In b (passed_in trace))

abbrev pub bases_in : Trace → List Id
bases_in trace = map (λ c. c.base) (kept trace).conts

abbrev pub Old : Trace → Id → Type 0
Old trace b = OldAt (phase trace) b (fresh_base trace)

abbrev pub Named : Trace → Id → Type 0
Named trace u = OldAt (phase trace) u (fresh_unit trace)

-- directly after the end of a unit of b, or its acceptance
abbrev pub JustEnded : Id → Trace → Option Event → Type 0
JustEnded b trace (Some (Ended u end)) = is_of_program b trace u ≡ true
JustEnded b trace (Some (Accepted c)) = c ≡ b
JustEnded b trace e = ⊥

abbrev pub NoneOpen : Trace → Id → Type 0
NoneOpen trace b = (v : Id) → is_open trace v ≡ true → is_of_program b trace v ≡ true → ⊥

-- in an opening an open unit is of an earlier boot, or of a program that goes on
abbrev pub Drained : Trace → Id → Type 0
Drained trace u = (u.boot < (kept trace).boot) ⊎ ((b : Id) × (is_of_program b trace u ≡ true) × In b (bases_in trace))

pub record Sound (trace : Trace) : Type 0 where
  pub known : (u : Id) → is_open trace u ≡ true → is_some (kind_of u trace) ≡ true
  pub older : (u : Id) → is_named u trace ≡ true → Named trace u
  pub old_units : (b u : Id) → is_of_program b trace u ≡ true → Old trace b
  pub old_conts : (b : Id) → In b (bases_in trace) → Old trace b
  pub old_dead : (b : Id) → Dead trace b → Old trace b
  pub old_programs : (b : Id) → In b (programs_in trace) → Old trace b
  pub one : (b u v : Id) → is_open trace u ≡ true → is_open trace v ≡ true → is_of_program b trace u ≡ true → is_of_program b trace v ≡ true → u ≡ v
  pub alive : (b u : Id) → is_open trace u ≡ true → is_of_program b trace u ≡ true → Dead trace b → ⊥
  pub goes_on : (b : Id) → In b (bases_in trace) → Dead trace b → ⊥
  pub quiet : (b : Id) → JustEnded b trace (last_said trace) → Old trace b × NoneOpen trace b
  pub drains : Drains trace
  pub drained : phase trace ≡ Opening → (u : Id) → is_open trace u ≡ true → Drained trace u

pub not-fresh : (trace : Trace) (u : Id) → Sound trace → (phase trace ≡ Fallen → ⊥) → is_named u trace ≡ true → is_same_id u (fresh_unit trace) ≡ false
not-fresh trace u s n h = go (is_same_id u (fresh_unit trace)) refl
  where
    go : (b : Bool) → is_same_id u (fresh_unit trace) ≡ b → b ≡ false
    go false e = refl
    go true e = absurd (old-not (phase trace) u n (subst (OldAt (phase trace) u) (sym (is_same_id-true u (fresh_unit trace) e)) (s.older u h)))

-- a unit that has a kind keeps it
pub kind-stays : (trace : Trace) (e : Event) (u : Id) → Sound trace → Fits trace e → is_some (kind_of u trace) ≡ true → kind_of u (trace says e) ≡ kind_of u trace
kind-stays trace (Began v kind) u s f h = let n : is_same_id u v ≡ false = subst (λ x. is_same_id u x ≡ false) (sym f.0) (not-fresh trace u s f.1 (kind-named trace u h)) in rw n refl
kind-stays trace e u s f h = refl

abbrev pub IsBegan : Id → Event → Type 0
IsBegan v (Began u kind) = is_same_id v u ≡ true
IsBegan v e = ⊥

-- a unit that is open after an event was open before, or has begun
pub open-back : (trace : Trace) (e : Event) (v : Id) → Fits trace e → is_open (trace says e) v ≡ true → (is_open trace v ≡ true) ⊎ IsBegan v e
open-back trace (Began u kind) v f h = go (is_same_id v u) h
  where
    go : (b : Bool) → is_open_standing (cond b Running (standing v trace)) ≡ true → (is_open trace v ≡ true) ⊎ (b ≡ true)
    go true g = inr refl
    go false g = inl g
open-back trace (Did u st a) v f h = inl (go (is_same_id v u) refl h)
  where
    go : (b : Bool) → is_same_id v u ≡ b → is_open_standing (cond b Running (standing v trace)) ≡ true → is_open trace v ≡ true
    go true e g = rw (is_same_id-true v u e) f.0
    go false e g = g
open-back trace (Waits u owners) v f h = inl (go (is_same_id v u) refl h)
  where
    go : (b : Bool) → is_same_id v u ≡ b → is_open_standing (cond b Waiting (standing v trace)) ≡ true → is_open trace v ≡ true
    go true e g = rw (is_same_id-true v u e) f
    go false e g = g
open-back trace (Ended u end) v f h = inl (go (is_same_id v u) h)
  where
    go : (b : Bool) → is_open_standing (cond b (Over end) (standing v trace)) ≡ true → is_open trace v ≡ true
    go true g = cc
    go false g = g
open-back trace e v f h = inl h

known-step : (trace : Trace) (e : Event) → Sound trace → Fits trace e → (v : Id) → is_open (trace says e) v ≡ true → is_some (kind_of v (trace says e)) ≡ true
known-step trace e s f v h = either (λ o. kind-some trace e v (s.known v o)) (λ b. began e b) (open-back trace e v f h)
  where
    began : (e : Event) → IsBegan v e → is_some (option_or (kind_begun v e) (kind_of v trace)) ≡ true
    began (Began u kind) b = rw b refl
    began e b = absurd b

pub boot-ended : (trace : Trace) (u : Id) (end : End) → (kept (trace says Ended u end)).boot ≡ (kept trace).boot
boot-ended trace u (Committed n) = refl
boot-ended trace u (Branched n c) = boot-branched (kept trace) n (kind_of u trace)
boot-ended trace u end = refl

older-says : (trace : Trace) (e : Event) (v : Id) → Fits trace e → Named trace v → Named (trace says e) v
older-says trace (Began u kind) v f h = old-next (phase trace) v (kept trace).boot (unit_count trace) h
older-says trace (Ended u end) v f h = subst (λ b. OldAt (phase trace) v (record { boot = b; seq = unit_count trace + 1 })) (sym (boot-ended trace u end)) h
older-says trace (Down why) v f h = old-fallen (phase trace) v (fresh_unit trace) h
older-says trace (Opened boot n) v f h = let l : v.boot ≤ (kept trace).boot = old-fallen (phase trace) v (fresh_unit trace) h in let g : (kept trace).boot < boot = f.1 in boot-older v boot (0 + 1) (omega arith)
older-says trace Ready v f h = subst (λ p. OldAt p v (fresh_unit trace)) f.0 h
older-says trace (Early bs) v f h = subst (λ p. OldAt p v (fresh_unit trace)) f.0 h
older-says trace e v f h = h

pub old-says : (trace : Trace) (e : Event) (b : Id) → Fits trace e → Old trace b → Old (trace says e) b
old-says trace (Began u (First s c n args)) b f h = old-next (phase trace) b (kept trace).boot (base_count trace) h
old-says trace (Began u kind) b f h = h
old-says trace (Ended u end) b f h = subst (λ x. OldAt (phase trace) b (record { boot = x; seq = base_count trace + 1 })) (sym (boot-ended trace u end)) h
old-says trace (Down why) b f h = old-fallen (phase trace) b (fresh_base trace) h
old-says trace (Opened boot n) b f h = let l : b.boot ≤ (kept trace).boot = old-fallen (phase trace) b (fresh_base trace) h in let g : (kept trace).boot < boot = f.1 in boot-older b boot (0 + 1) (omega arith)
old-says trace Ready b f h = subst (λ p. OldAt p b (fresh_base trace)) f.0 h
old-says trace (Early bs) b f h = subst (λ p. OldAt p b (fresh_base trace)) f.0 h
old-says trace e b f h = h

older-step : (trace : Trace) (e : Event) → Sound trace → Fits trace e → (v : Id) → is_named v (trace says e) ≡ true → Named (trace says e) v
older-step trace e s f v h = either (λ o. its e f o) (λ n. older-says trace e v f (s.older v n)) (or_cases (is_unit_of v e) (is_named v trace) h)
  where
    same : (u : Id) → is_open trace u ≡ true → is_same_id v u ≡ true → Named trace v
    same u o g = s.older v (open-named trace v (rw (is_same_id-true v u g) o))

    its : (e : Event) → Fits trace e → is_unit_of v e ≡ true → Named (trace says e) v
    its (Began u kind) f g = old-now (phase trace) v _ f.1 (subst (λ x. is_older x (fresh_unit (trace says Began u kind)) ≡ true) (sym (is_same_id-true v u g ∙ f.0)) (older-self (kept trace).boot (unit_count trace)))
    its (Did u st a) f g = same u f.0 g
    its (Waits u owners) f g = same u f g
    its (Ended u end) f g = older-says trace (Ended u end) v f (same u f.0 g)
    its e f g = cc

-- of what program a unit is, after a Began: as before, or as that says
began-view : (trace : Trace) (u : Id) (kind : UnitKind) (b v : Id) → is_of_program b (trace says Began u kind) v ≡ true → ((v ≡ u) × (program_of_kind kind ≡ Some b)) ⊎ ((is_of_program b trace v ≡ true) × (is_same_id v u ≡ false))
began-view trace u kind b v h = go (is_same_id v u) refl h
  where
    its : (o : Option Id) → elim o [ None ↦ false | Some c ↦ is_same_id b c ] ≡ true → o ≡ Some b
    its None g = cc
    its (Some c) g = ap Some (sym (is_same_id-true b c g))

    go : (t : Bool) → is_same_id v u ≡ t → elim (option_and_then program_of_kind (option_or (then_some t kind) (kind_of v trace))) [ None ↦ false | Some c ↦ is_same_id b c ] ≡ true → ((v ≡ u) × (program_of_kind kind ≡ Some b)) ⊎ ((is_of_program b trace v ≡ true) × (t ≡ false))
    go true e g = inl (is_same_id-true v u e, its (program_of_kind kind) g)
    go false e g = inr (g, refl)

pub of-program : (trace : Trace) (u b : Id) → program_of u trace ≡ Some b → is_of_program b trace u ≡ true
of-program trace u b h = rw (h, is_of_program) (is_same_id-refl b)

pub program-of : (trace : Trace) (u b : Id) → is_of_program b trace u ≡ true → program_of u trace ≡ Some b
program-of trace u b h = its (program_of u trace) h
  where
    its : (o : Option Id) → elim o [ None ↦ false | Some c ↦ is_same_id b c ] ≡ true → o ≡ Some b
    its None g = cc
    its (Some c) g = ap Some (sym (is_same_id-true b c g))

-- continuations

pub due-in : (b : Id) (part : ℕ) (cs : List Cont) → option_map (λ c. c.next) (cont_in b cs) ≡ Some part → In b (map (λ c. c.base) cs)
due-in b part [] h = cc
due-in b part (c ∷ cs) h = go (due-in b part cs) (is_same_id b c.base) refl h
  where
    go : (option_map (λ c. c.next) (cont_in b cs) ≡ Some part → In b (map (λ c. c.base) cs)) → (t : Bool) → is_same_id b c.base ≡ t → option_map (λ c. c.next) (cond t (Some c) (cont_in b cs)) ≡ Some part → In b (map (λ c. c.base) (c ∷ cs))
    go more true e g = inl (sym (is_same_id-true b c.base e))
    go more false e g = inr (more g)

in-due : (b : Id) (cs : List Cont) → In b (map (λ c. c.base) cs) → option_map (λ c. c.next) (cont_in b cs) ≡ None → ⊥
in-due b [] h g = h
in-due b (c ∷ cs) (inl e) g = let s : is_same_id b c.base ≡ true = subst (λ x. is_same_id b x ≡ true) (sym e) (is_same_id-refl b) in let k : option_map (λ c. c.next) (cond true (Some c) (cont_in b cs)) ≡ None = subst (λ t. option_map (λ c. c.next) (cond t (Some c) (cont_in b cs)) ≡ None) s g in cc
in-due b (c ∷ cs) (inr m) g = go (in-due b cs m) (is_same_id b c.base) g
  where
    go : (option_map (λ c. c.next) (cont_in b cs) ≡ None → ⊥) → (t : Bool) → option_map (λ c. c.next) (cond t (Some c) (cont_in b cs)) ≡ None → ⊥
    go more true k = cc
    go more false k = more k

base-without : (b c : Id) (cs : List Cont) → In b (map (λ (x : Cont). x.base) (without_cont c cs)) → In b (map (λ (x : Cont). x.base) cs)
base-without b c [] h = h
base-without b c (x ∷ cs) h = go (base-without b c cs) (is_same_id c x.base) h
  where
    go : (In b (map (λ (x : Cont). x.base) (without_cont c cs)) → In b (map (λ (x : Cont). x.base) cs)) → (t : Bool) → In b (map (λ (x : Cont). x.base) (cond t cs (x ∷ without_cont c cs))) → In b (map (λ (x : Cont). x.base) (x ∷ cs))
    go more true g = inr g
    go more false (inl e) = inl e
    go more false (inr g) = inr (more g)

base-change : (b c : Id) (f : Cont → Cont) → ((x : Cont) → (f x).base ≡ x.base) → (cs : List Cont) → In b (map (λ (x : Cont). x.base) (change_cont c f cs)) → In b (map (λ (x : Cont). x.base) cs)
base-change b c f same [] h = h
base-change b c f same (x ∷ cs) h = go (base-change b c f same cs) (is_same_id c x.base) h
  where
    go : (In b (map (λ (x : Cont). x.base) (change_cont c f cs)) → In b (map (λ (x : Cont). x.base) cs)) → (t : Bool) → In b (map (λ (x : Cont). x.base) (cond t (f x ∷ cs) (x ∷ change_cont c f cs))) → In b (map (λ (x : Cont). x.base) (x ∷ cs))
    go more true (inl e) = inl (sym (same x) ∙ e)
    go more true (inr g) = inr g
    go more false (inl e) = inl e
    go more false (inr g) = inr (more g)

pub base-moved : (b c : Id) (o : Option Position) (f : Cont → Cont) → ((x : Cont) → (f x).base ≡ x.base) → (cs : List Cont) → In b (map (λ (x : Cont). x.base) (moved c o f cs)) → In b (map (λ (x : Cont). x.base) cs)
base-moved b c None f same cs h = base-without b c cs h
base-moved b c (Some at) f same cs h = base-change b c _ (λ x. same x) cs h

pub base-begun : (b c : Id) (n : ℕ) (p : ProgramDef) (args : List Value) (vars : List Binding) (o : Option Position) (cs : List Cont) → In b (map (λ (x : Cont). x.base) (begun_cont c n p args vars o cs)) → In b (map (λ (x : Cont). x.base) cs) ⊎ (c ≡ b)
base-begun b c n p args vars None cs h = inl h
base-begun b c n p args vars (Some at) [] (inl e) = inr e
base-begun b c n p args vars (Some at) [] (inr e) = absurd e
base-begun b c n p args vars (Some at) (x ∷ cs) (inl e) = inl (inl e)
base-begun b c n p args vars (Some at) (x ∷ cs) (inr h) = either (λ g. inl (inr g)) (λ e. inr e) (base-begun b c n p args vars (Some at) cs h)

base-committed : (b : Id) (k : Kept) (n : ℕ) (kind : UnitKind) (vars : List Binding) → In b (map (λ (x : Cont). x.base) (conts_committed k n kind vars)) → In b (map (λ (x : Cont). x.base) k.conts) ⊎ (program_of_kind kind ≡ Some b)
base-committed b k n (Acid s) vars h = inl h
base-committed b k n (Call s name args) vars h = inl h
base-committed b k n (First s c name args) vars h = go (kept_program name k) h
  where
    go : (o : Option ProgramDef) → In b (map (λ (x : Cont). x.base) (elim o [ None ↦ k.conts | Some p ↦ begun_cont c n p args vars (next_on_commit (parts_of p) 1) k.conts ])) → In b (map (λ (x : Cont). x.base) k.conts) ⊎ (Some c ≡ Some b)
    go None g = inl g
    go (Some p) g = either (λ i. inl i) (λ e. inr (ap Some e)) (base-begun b c n p args vars (next_on_commit (parts_of p) 1) k.conts g)
base-committed b k n (Later c part) vars h = inl (go (option_and_then (λ c. kept_program c.program k) (cont_of c k)) h)
  where
    go : (o : Option ProgramDef) → In b (map (λ (x : Cont). x.base) (elim o [ None ↦ k.conts | Some p ↦ moved c (next_on_commit (parts_of p) part) (λ c. record c { vars = values_kept p vars }) k.conts ])) → In b (map (λ (x : Cont). x.base) k.conts)
    go None g = g
    go (Some p) g = base-moved b c (next_on_commit (parts_of p) part) _ (λ x. refl) k.conts g

base-branched : (b : Id) (k : Kept) (kind : UnitKind) → In b (map (λ (x : Cont). x.base) (conts_branched k kind)) → In b (map (λ (x : Cont). x.base) k.conts)
base-branched b k (Later c part) h = go (option_and_then (λ c. kept_program c.program k) (cont_of c k)) h
  where
    go : (o : Option ProgramDef) → In b (map (λ (x : Cont). x.base) (elim o [ None ↦ k.conts | Some p ↦ moved c (next_on_failure (parts_of p) part (tries_left c k)) (λ c. c) k.conts ])) → In b (map (λ (x : Cont). x.base) k.conts)
    go None g = g
    go (Some p) g = base-moved b c (next_on_failure (parts_of p) part (tries_left c k)) _ (λ x. refl) k.conts g
base-branched b k kind h = h

committed-bases : (b : Id) (k : Kept) (n : ℕ) (o : Option UnitKind) (vars : List Binding) → In b (map (λ (x : Cont). x.base) (conts_at k n o vars)) → In b (map (λ (x : Cont). x.base) k.conts) ⊎ (option_and_then program_of_kind o ≡ Some b)
committed-bases b k n None vars h = inl h
committed-bases b k n (Some kind) vars h = base-committed b k n kind vars h

branched-bases : (b : Id) (k : Kept) (n : ℕ) (o : Option UnitKind) → In b (map (λ (x : Cont). x.base) (branched k n o).conts) → In b (map (λ (x : Cont). x.base) k.conts)
branched-bases b k n None h = h
branched-bases b k n (Some kind) h = base-branched b k kind h

-- a continuation was there before, or is that of the unit that has ended
pub conts-back : (trace : Trace) (u : Id) (end : End) (b : Id) → In b (bases_in (trace says Ended u end)) → In b (bases_in trace) ⊎ (is_of_program b trace u ≡ true)
conts-back trace u (Committed n) b h = either (λ i. inl i) (λ e. inr (of-program trace u b e)) (committed-bases b (kept trace) n (kind_of u trace) (run_of u trace).vars h)
conts-back trace u (Branched n c) b h = inl (branched-bases b (kept trace) n (kind_of u trace) h)
conts-back trace u end b h = inl h

-- programs that are over

pub releasable-finished : (trace : Trace) (b : Id) → In b (releasable trace) → In b (finished_in trace)
releasable-finished trace b h = (in-without b (released_in trace) (finished_in trace) (in-order b _ (in-shrink (reads_within trace) _ b _ h))).0

pub to_release-finished : (trace : Trace) (b : Id) → In b (to_release trace) → In b (finished_in trace)
to_release-finished trace b h = releasable-finished trace b (in-without b (left_out trace) (releasable trace) h).0

pub continued-of : (o : Option UnitKind) (b : Id) → option_and_then program_continued o ≡ Some b → option_and_then program_of_kind o ≡ Some b
continued-of (Some (Later c part)) b h = h
continued-of None b h = cc
continued-of (Some (Acid s)) b h = cc
continued-of (Some (Call s n args)) b h = cc
continued-of (Some (First s c n args)) b h = cc

last-just : (trace : Trace) (b : Id) (o : Option Event) → IsLastEnd b trace o → JustEnded b trace o × (part_due trace b ≡ None)
last-just trace b (Some (Ended u (Committed n))) h = (of-program trace u b (continued-of (kind_of u trace) b h.0), h.1)
last-just trace b (Some (Ended u (Branched n c))) h = (of-program trace u b (continued-of (kind_of u trace) b h.0), h.1)
last-just trace b (Some (Accepted c)) h = (h.0, h.1)
last-just trace b o h = absurd h

pub dead-back : (trace : Trace) (e : Event) (b : Id) → (e ≡ Ready → ⊥) → ((bs : List Id) → e ≡ Early bs → ⊥) → Fits trace e → Dead (trace says e) b → Dead trace b ⊎ (e ≡ Finished b)
dead-back trace (Finished c) b r y f (inl h) = either (λ i. inl (inl i)) (λ o. inr (ap Finished (one-of o))) (in-cases b (finished_in trace) (c ∷ []) h)
  where
    one-of : In b (c ∷ []) → c ≡ b
    one-of (inl e) = e
    one-of (inr e) = absurd e
dead-back trace (Finished c) b r y f (inr h) = inl (inr h)
dead-back trace (Released bs) b r y f (inl h) = inl (inl h)
dead-back trace (Released bs) b r y f (inr (inl h)) =
    inl (either (λ i. inr (inr (freed-passed bs trace b i))) (λ i. either (λ j. inr (inl j)) (λ j. inl (to_release-finished trace b (subst (In b) f.0 j))) (in-cases b (released_in trace) bs i)) (in-cases b (freed_by bs trace) _ h))
dead-back trace (Released bs) b r y f (inr (inr h)) = inl (inr (inr h))
dead-back trace Ready b r y f h = absurd (r refl)
dead-back trace (Early bs) b r y f h = absurd (y bs refl)
dead-back trace e b r y f h = inl h

-- an early end of an opening names the programs that go on
pub bases-named : (trace : Trace) (bs : List Id) → Fits trace (Early bs) → (b : Id) → In b (bases_in trace) → In b bs
bases-named trace bs f b i = subst (In b) (sym f.1) (into-order b (bases_in trace) i)

pub named-bases : (trace : Trace) (bs : List Id) → Fits trace (Early bs) → (b : Id) → In b bs → In b (bases_in trace)
named-bases trace bs f b i = in-order b (bases_in trace) (subst (In b) f.1 i)

-- the steps

none-in-unit : (trace : Trace) (b : Id) → program_unit b trace ≡ None → NoneOpen trace b
none-in-unit trace b h v o p = none (filter (is_of_program b trace) (open_units trace)) h (into-filter (is_of_program b trace) v (open_units trace) (into-filter (is_open trace) v (units_begun trace) (kind-in trace v (some (kind_of v trace) p)) o) p)
  where
    none : (us : List Id) → first_of_list us ≡ None → In v us → ⊥
    none [] e i = i
    none (u ∷ us) e i = cc

    some : (k : Option UnitKind) → elim (option_and_then program_of_kind k) [ None ↦ false | Some c ↦ is_same_id b c ] ≡ true → is_some k ≡ true
    some None e = e
    some (Some k) e = refl

pub begins-new : (trace : Trace) (u : Id) (kind : UnitKind) (b : Id) → Sound trace → Fits trace (Began u kind) → program_of_kind kind ≡ Some b → Old (trace says Began u kind) b × (Dead trace b → ⊥) × NoneOpen trace b
begins-new trace u (First s c n args) b k f h =
    let e : b ≡ fresh_base trace = let g : c ≡ b = cc in sym g ∙ f.2.1 in
    let bad : Old trace b → ⊥ = λ o. old-not (phase trace) b f.1 (subst (OldAt (phase trace) b) (sym e) o) in
    (old-now (phase trace) b _ f.1 (rw e (older-self (kept trace).boot (base_count trace))), (λ d. bad (k.old_dead b d)), (λ v o p. bad (k.old_units b v p)))
begins-new trace u (Later c part) b k f h =
    let e : c ≡ b = cc in
    let i : In b (bases_in trace) = subst (λ x. In x (bases_in trace)) e (due-in c part (kept trace).conts f.2.1) in
    (k.old_conts b i, k.goes_on b i, none-in-unit trace b (subst (λ x. program_unit x trace ≡ None) e f.2.0))
begins-new trace u (Acid s) b k f h = cc
begins-new trace u (Call s n args) b k f h = cc

old_units-step : (trace : Trace) (e : Event) → Sound trace → Fits trace e → (b v : Id) → is_of_program b (trace says e) v ≡ true → Old (trace says e) b
old_units-step trace (Began u kind) s f b v h = either (λ n. (begins-new trace u kind b s f n.1).0) (λ o. old-says trace (Began u kind) b f (s.old_units b v o.0)) (began-view trace u kind b v h)
old_units-step trace e s f b v h = old-says trace e b f (s.old_units b v h)

old_conts-step : (trace : Trace) (e : Event) → Sound trace → Fits trace e → (b : Id) → In b (bases_in (trace says e)) → Old (trace says e) b
old_conts-step trace (Ended u end) s f b h = old-says trace (Ended u end) b f (either (λ i. s.old_conts b i) (λ p. s.old_units b u p) (conts-back trace u end b h))
old_conts-step trace e s f b h = old-says trace e b f (s.old_conts b h)

dead-says : (trace : Trace) (e : Event) (b : Id) → Sound trace → Fits trace e → Dead trace b ⊎ (e ≡ Finished b) → Old (trace says e) b
dead-says trace e b s f h = either (λ d. old-says trace e b f (s.old_dead b d)) (λ g. old-says trace e b f (s.quiet b (last-just trace b (last_said trace) (subst (Fits trace) g f)).0).0) h

old_dead-step : (trace : Trace) (e : Event) → Sound trace → Fits trace e → (b : Id) → Dead (trace says e) b → Old (trace says e) b
old_dead-step trace Ready s f b (inl h) = old-says trace Ready b f (s.old_dead b (inl h))
old_dead-step trace Ready s f b (inr (inl h)) = old-says trace Ready b f (either (λ r. s.old_dead b (inr (inl r))) (λ p. s.old_programs b p) (in-cases b (released_in trace) (programs_in trace) h))
old_dead-step trace Ready s f b (inr (inr h)) = old-says trace Ready b f (s.old_dead b (inr (inr h)))
old_dead-step trace (Early bs) s f b (inl h) = old-says trace (Early bs) b f (s.old_dead b (inl h))
old_dead-step trace (Early bs) s f b (inr (inl h)) = old-says trace (Early bs) b f (s.old_dead b (inr (inl h)))
old_dead-step trace (Early bs) s f b (inr (inr h)) = old-says trace (Early bs) b f (either (λ r. s.old_dead b (inr (inr r))) (λ p. s.old_programs b (in-without b bs (programs_in trace) p).0) (in-cases b (passed_in trace) _ h))
old_dead-step trace e s f b h = dead-says trace e b s f (dead-back trace e b (λ g. cc) (λ bs g. cc) f h)

pub programs-began : (trace : Trace) (u : Id) (kind : UnitKind) (b : Id) → In b (programs_in (trace says Began u kind)) → In b (programs_in trace) ⊎ (program_of_kind kind ≡ Some b)
programs-began trace u kind b h = go (program_of_kind kind) h
  where
    single : (c : Id) → In b (c ∷ []) → c ≡ b
    single c (inl e) = e
    single c (inr e) = absurd e

    go : (o : Option Id) → In b (elim o [ None ↦ programs_in trace | Some c ↦ programs_in trace ++ c ∷ [] ]) → In b (programs_in trace) ⊎ (o ≡ Some b)
    go None g = inl g
    go (Some c) g = either (λ i. inl i) (λ i. inr (ap Some (single c i))) (in-cases b (programs_in trace) (c ∷ []) g)

old_programs-step : (trace : Trace) (e : Event) → Sound trace → Fits trace e → (b : Id) → In b (programs_in (trace says e)) → Old (trace says e) b
old_programs-step trace (Began u kind) s f b h = either (λ i. old-says trace (Began u kind) b f (s.old_programs b i)) (λ k. (begins-new trace u kind b s f k).0) (programs-began trace u kind b h)
old_programs-step trace e s f b h = old-says trace e b f (s.old_programs b h)

opened-view : (trace : Trace) (u : Id) (kind : UnitKind) (b v : Id) → is_open (trace says Began u kind) v ≡ true → is_of_program b (trace says Began u kind) v ≡ true → ((v ≡ u) × (program_of_kind kind ≡ Some b)) ⊎ ((is_of_program b trace v ≡ true) × (is_open trace v ≡ true))
opened-view trace u kind b v o p = either (λ n. inl n) (λ q. inr (q.0, subst (λ t. is_open_standing (cond t Running (standing v trace)) ≡ true) q.1 o)) (began-view trace u kind b v p)

one-step : (trace : Trace) (e : Event) → Sound trace → Fits trace e → (b u v : Id) → is_open (trace says e) u ≡ true → is_open (trace says e) v ≡ true → is_of_program b (trace says e) u ≡ true → is_of_program b (trace says e) v ≡ true → u ≡ v
one-step trace (Began x kind) s f b u v ou ov pu pv =
    either
    (λ n. either (λ m. n.0 ∙ sym m.0) (λ w. absurd ((begins-new trace x kind b s f n.1).2 v w.1 w.0)) (opened-view trace x kind b v ov pv))
    (λ w. either (λ m. absurd ((begins-new trace x kind b s f m.1).2 u w.1 w.0)) (λ z. s.one b u v w.1 z.1 w.0 z.0) (opened-view trace x kind b v ov pv))
    (opened-view trace x kind b u ou pu)
one-step trace e s f b u v ou ov pu pv = s.one b u v (either (λ o. o) (λ i. absurd i) (open-back trace e u f ou)) (either (λ o. o) (λ i. absurd i) (open-back trace e v f ov)) pu pv

-- at a Ready nothing is open
pub none-open : (trace : Trace) → Sound trace → Fits trace Ready → (v : Id) → is_open trace v ≡ true → ⊥
none-open trace s f v o = either older goes (s.drained f.0 v o)
  where
    older : v.boot < (kept trace).boot → ⊥
    older l =
        let lt : nat_lt v.boot (kept trace).boot ≡ true = grind (arith, nat_tests) in
        let i : In v (filter (λ u. nat_lt u.boot (kept trace).boot) (open_units trace)) = into-filter (λ u. nat_lt u.boot (kept trace).boot) v (open_units trace) (into-filter (is_open trace) v (units_begun trace) (kind-in trace v (s.known v o)) o) lt in
        subst (In v) (order-none _ f.2) i

    goes : (b : Id) × (is_of_program b trace v ≡ true) × In b (bases_in trace) → ⊥
    goes r = subst (λ (cs : List Cont). In r.0 (map (λ (c : Cont). c.base) cs)) f.1 r.2

-- nor at an early end of an opening
pub none-open-early : (trace : Trace) (bs : List Id) → Sound trace → Fits trace (Early bs) → (v : Id) → is_open trace v ≡ true → ⊥
none-open-early trace bs s f v o = subst (In v) f.3 (into-filter (is_open trace) v (units_begun trace) (kind-in trace v (s.known v o)) o)

alive-step : (trace : Trace) (e : Event) → Sound trace → Fits trace e → (b v : Id) → is_open (trace says e) v ≡ true → is_of_program b (trace says e) v ≡ true → Dead (trace says e) b → ⊥
alive-step trace Ready s f b v o p d = none-open trace s f v o
alive-step trace (Early bs) s f b v o p d = none-open-early trace bs s f v o
alive-step trace (Began u kind) s f b v o p d = either (λ n. (begins-new trace u kind b s f n.1).1 d) (λ w. s.alive b v w.1 w.0 d) (opened-view trace u kind b v o p)
alive-step trace e s f b v o p d =
    let before : is_open trace v ≡ true = either (λ o. o) (λ i. absurd i) (open-back trace e v f o) in
    either (λ g. s.alive b v before p g) (λ g. (s.quiet b (last-just trace b (last_said trace) (subst (Fits trace) g f)).0).1 v before p) (dead-back trace e b (λ g. cc) (λ bs g. cc) f d)

goes_on-step : (trace : Trace) (e : Event) → Sound trace → Fits trace e → (b : Id) → In b (bases_in (trace says e)) → Dead (trace says e) b → ⊥
goes_on-step trace Ready s f b i d = subst (λ (cs : List Cont). In b (map (λ (c : Cont). c.base) cs)) f.1 i
goes_on-step trace (Ended u end) s f b i d = either (λ j. s.goes_on b j d) (λ p. s.alive b u f.0 p d) (conts-back trace u end b i)
goes_on-step trace (Early bs) s f b i (inl d) = s.goes_on b i (inl d)
goes_on-step trace (Early bs) s f b i (inr (inl d)) = s.goes_on b i (inr (inl d))
goes_on-step trace (Early bs) s f b i (inr (inr d)) = either (λ r. s.goes_on b i (inr (inr r))) (λ p. not-named (in-without b bs (programs_in trace) p).1) (in-cases b (passed_in trace) _ d)
  where
    not-named : has_id b bs ≡ false → ⊥
    not-named n = let h : has_id b bs ≡ true = in-has b bs (bases-named trace bs f b i) in cc
goes_on-step trace e s f b i d = either (λ g. s.goes_on b i g) (λ g. in-due b (kept trace).conts i (last-just trace b (last_said trace) (subst (Fits trace) g f)).1) (dead-back trace e b (λ g. cc) (λ bs g. cc) f d)

pub first-program : (trace : Trace) (b : Id) (u : Id) → is_first_of b (kind_of u trace) ≡ true → is_of_program b trace u ≡ true
first-program trace b u h = go (kind_of u trace) h
  where
    go : (o : Option UnitKind) → is_first_of b o ≡ true → elim (option_and_then program_of_kind o) [ None ↦ false | Some c ↦ is_same_id b c ] ≡ true
    go (Some (First s c n args)) g = g
    go (Some (Later c part)) g = cc
    go (Some (Acid s)) g = cc
    go (Some (Call s n args)) g = cc
    go None g = cc

pub acceptance-just : (trace : Trace) (b : Id) (o : Option Event) → IsAcceptance b trace o → JustEnded b trace o
acceptance-just trace b (Some (Ended u (Committed n))) h = first-program trace b u h
acceptance-just trace b o h = absurd h

quiet-step : (trace : Trace) (e : Event) → Sound trace → Fits trace e → (b : Id) → JustEnded b (trace says e) (Some e) → Old (trace says e) b × NoneOpen (trace says e) b
quiet-step trace (Ended u end) s f b h = (old-says trace (Ended u end) b f (s.old_units b u h), (λ v o p. shut v (is_same_id v u) refl o p))
  where
    shut : (v : Id) (t : Bool) → is_same_id v u ≡ t → is_open_standing (cond t (Over end) (standing v trace)) ≡ true → is_of_program b trace v ≡ true → ⊥
    shut v true e o p = cc
    shut v false e o p = let g : v ≡ u = s.one b v u o f.0 p h in let w : true ≡ false = sym (is_same_id-refl u) ∙ subst (λ x. is_same_id x u ≡ false) g e in cc
quiet-step trace (Accepted c) s f b h = s.quiet b (acceptance-just trace b (last_said trace) (subst (λ x. IsAcceptance x trace (last_said trace)) h f))
quiet-step trace e s f b h = absurd h

-- openings

drains-step : (trace : Trace) (e : Event) → Sound trace → Fits trace e → Drains (trace says e)
drains-step trace (Began v (Later b part)) s f p u own = subst (λ x. is_acid (trace says Began v (Later b part)) x ≡ false) own (rw (is_same_id-refl v) refl)
drains-step trace (Began v (First z b n args)) s f p u own = let q : phase trace ≡ Serving = f.2.0 in cc
drains-step trace (Began v (Acid z)) s f p u own = let q : phase trace ≡ Serving = f.2 in cc
drains-step trace (Began v (Call z n args)) s f p u own = let q : phase trace ≡ Serving = f.2 in cc
drains-step trace (Did v st a) s f p u own = subst (λ x. is_acid trace x ≡ false) own (f.1 p)
drains-step trace e s f p u own = absurd own

pub base-kept-begun : (b c : Id) (n : ℕ) (p : ProgramDef) (args : List Value) (vars : List Binding) (o : Option Position) (cs : List Cont) → In b (map (λ (x : Cont). x.base) cs) → In b (map (λ (x : Cont). x.base) (begun_cont c n p args vars o cs))
base-kept-begun b c n p args vars None cs h = h
base-kept-begun b c n p args vars (Some at) [] h = absurd h
base-kept-begun b c n p args vars (Some at) (x ∷ cs) (inl e) = inl e
base-kept-begun b c n p args vars (Some at) (x ∷ cs) (inr h) = inr (base-kept-begun b c n p args vars (Some at) cs h)

-- what another program does leaves b's continuation

off : (b c : Id) (x : Cont) → (c ≡ b → ⊥) → is_same_id c x.base ≡ true → is_same_id b x.base ≡ false
off b c x n e = by (is_same_id b x.base) refl
  where
    by : (t : Bool) → is_same_id b x.base ≡ t → t ≡ false
    by true g = absurd (n (is_same_id-true c x.base e ∙ sym (is_same_id-true b x.base g)))
    by false g = refl

stays-without : (b c : Id) → (c ≡ b → ⊥) → (cs : List Cont) → cont_in b (without_cont c cs) ≡ cont_in b cs
stays-without b c n [] = refl
stays-without b c n (x ∷ cs) = go (is_same_id c x.base) refl (stays-without b c n cs)
  where
    go : (t : Bool) → is_same_id c x.base ≡ t → cont_in b (without_cont c cs) ≡ cont_in b cs →
        cont_in b (cond t cs (x ∷ without_cont c cs)) ≡ cont_in b (x ∷ cs)
    go true e more = rw (off b c x n e) refl
    go false e more = ap (cond (is_same_id b x.base) (Some x)) more

stays-change : (b c : Id) → (c ≡ b → ⊥) → (f : Cont → Cont) → ((x : Cont) → (f x).base ≡ x.base) → (cs : List Cont) →
    cont_in b (change_cont c f cs) ≡ cont_in b cs
stays-change b c n f same [] = refl
stays-change b c n f same (x ∷ cs) = go (is_same_id c x.base) refl (stays-change b c n f same cs)
  where
    go : (t : Bool) → is_same_id c x.base ≡ t → cont_in b (change_cont c f cs) ≡ cont_in b cs →
        cont_in b (cond t (f x ∷ cs) (x ∷ change_cont c f cs)) ≡ cont_in b (x ∷ cs)
    go true e more = rw (same x, off b c x n e) refl
    go false e more = ap (cond (is_same_id b x.base) (Some x)) more

stays-moved : (b c : Id) → (c ≡ b → ⊥) → (o : Option Position) (f : Cont → Cont) → ((x : Cont) → (f x).base ≡ x.base) → (cs : List Cont) →
    cont_in b (moved c o f cs) ≡ cont_in b cs
stays-moved b c n None f same cs = stays-without b c n cs
stays-moved b c n (Some at) f same cs = stays-change b c n _ (λ x. same x) cs

stays-begun : (b c : Id) → (c ≡ b → ⊥) → (n : ℕ) (p : ProgramDef) (args : List Value) (vars : List Binding) (o : Option Position) (cs : List Cont) → cont_in b (begun_cont c n p args vars o cs) ≡ cont_in b cs
stays-begun b c x n p args vars None cs = refl
stays-begun b c x n p args vars (Some at) [] = rw (off b c (record { base = c; accepted = n; program = p.name; args = args; vars = values_kept p vars; next = at.part; tries = at.tries }) x (is_same_id-refl c)) refl
stays-begun b c x n p args vars (Some at) (y ∷ cs) = ap (cond (is_same_id b y.base) (Some y)) (stays-begun b c x n p args vars (Some at) cs)

pub stays-committed : (b : Id) (k : Kept) (n : ℕ) (kind : UnitKind) (vars : List Binding) → (program_of_kind kind ≡ Some b → ⊥) →
    cont_in b (conts_committed k n kind vars) ≡ cont_in b k.conts
stays-committed b k n (Acid s) vars x = refl
stays-committed b k n (Call s name args) vars x = refl
stays-committed b k n (First s c name args) vars x = go (kept_program name k)
  where
    go : (o : Option ProgramDef) →
        cont_in b (elim o [ None ↦ k.conts | Some p ↦ begun_cont c n p args vars (next_on_commit (parts_of p) 1) k.conts ]) ≡ cont_in b k.conts
    go None = refl
    go (Some p) = stays-begun b c (λ e. x (ap Some e)) n p args vars (next_on_commit (parts_of p) 1) k.conts
stays-committed b k n (Later c part) vars x = go (option_and_then (λ c. kept_program c.program k) (cont_of c k))
  where
    go : (o : Option ProgramDef) →
        cont_in b (elim o [ None ↦ k.conts | Some p ↦ moved c (next_on_commit (parts_of p) part) (λ c. record c { vars = values_kept p vars }) k.conts ]) ≡ cont_in b k.conts
    go None = refl
    go (Some p) = stays-moved b c (λ e. x (ap Some e)) (next_on_commit (parts_of p) part) _ (λ x. refl) k.conts

pub stays-branched : (b : Id) (k : Kept) (kind : UnitKind) → (program_of_kind kind ≡ Some b → ⊥) → cont_in b (conts_branched k kind) ≡ cont_in b k.conts
stays-branched b k (Later c part) x = go (option_and_then (λ c. kept_program c.program k) (cont_of c k))
  where
    go : (o : Option ProgramDef) →
        cont_in b (elim o [ None ↦ k.conts | Some p ↦ moved c (next_on_failure (parts_of p) part (tries_left c k)) (λ c. c) k.conts ]) ≡ cont_in b k.conts
    go None = refl
    go (Some p) = stays-moved b c (λ e. x (ap Some e)) (next_on_failure (parts_of p) part (tries_left c k)) _ (λ x. refl) k.conts
stays-branched b k kind x = refl

pub cont-stays : (trace : Trace) (u : Id) (end : End) (b : Id) → (program_of u trace ≡ Some b → ⊥) →
    cont_of b (kept (trace says Ended u end)) ≡ cont_of b (kept trace)
cont-stays trace u (Committed n) b x = go (kind_of u trace) x
  where
    go : (o : Option UnitKind) → (option_and_then program_of_kind o ≡ Some b → ⊥) →
        cont_in b (conts_at (kept trace) n o (run_of u trace).vars) ≡ cont_of b (kept trace)
    go None y = refl
    go (Some kind) y = stays-committed b (kept trace) n kind _ y
cont-stays trace u (Branched n c) b x = go (kind_of u trace) x
  where
    go : (o : Option UnitKind) → (option_and_then program_of_kind o ≡ Some b → ⊥) →
        cont_in b (branched (kept trace) n o).conts ≡ cont_of b (kept trace)
    go None y = refl
    go (Some kind) y = stays-branched b (kept trace) kind y
cont-stays trace u end b x = refl

pub conts-kept : (trace : Trace) (u : Id) (end : End) (b : Id) → (program_of u trace ≡ Some b → ⊥) → In b (bases_in trace) →
    In b (bases_in (trace says Ended u end))
conts-kept trace u end b x h = go (cont_of b (kept (trace says Ended u end))) refl
  where
    go : (o : Option Cont) → cont_of b (kept (trace says Ended u end)) ≡ o → In b (bases_in (trace says Ended u end))
    go None e = absurd (in-due b (kept trace).conts h (ap (option_map (λ c. c.next)) (sym (cont-stays trace u end b x) ∙ e)))
    go (Some c) e = due-in b c.next (kept (trace says Ended u end)).conts (ap (option_map (λ c. c.next)) e)

drained-step : (trace : Trace) (e : Event) → Sound trace → Fits trace e → phase (trace says e) ≡ Opening → (v : Id) →
    is_open (trace says e) v ≡ true → Drained (trace says e) v
drained-step trace (Opened boot n) s f p v o = inl (let l : v.boot ≤ (kept trace).boot = old-fallen (phase trace) v (fresh_unit trace) (s.older v (open-named trace v o)) in let g : (kept trace).boot < boot = f.1 in omega arith)
drained-step trace (Down why) s f p v o = cc
drained-step trace Ready s f p v o = cc
drained-step trace (Early bs) s f p v o = cc
drained-step trace (Began u kind) s f p v o = go (is_same_id v u) refl o
  where
    its : (kind : UnitKind) → FitsKind trace kind → (b : Id) × (elim (program_of_kind kind) [ None ↦ false | Some c ↦ is_same_id b c ] ≡ true) × In b (bases_in trace)
    its (Later b part) g = (b, is_same_id-refl b, due-in b part (kept trace).conts g.1)
    its (First z b n args) g = let q : phase trace ≡ Serving = g.0 in cc
    its (Acid z) g = cc
    its (Call z n args) g = cc

    go : (t : Bool) → is_same_id v u ≡ t → is_open_standing (cond t Running (standing v trace)) ≡ true → (v.boot < (kept trace).boot) ⊎ ((b : Id) × (elim (option_and_then program_of_kind (option_or (then_some t kind) (kind_of v trace))) [ None ↦ false | Some c ↦ is_same_id b c ] ≡ true) × In b (bases_in trace))
    go true e g = inr (its kind f.2)
    go false e g = s.drained p v g
drained-step trace (Ended u end) s f p v o = either (λ l. inl (subst (λ b. v.boot < b) (sym (boot-ended trace u end)) l)) (λ r. inr (r.0, r.1, conts-kept trace u end r.0 (other r.0 r.1) r.2)) (s.drained p v (before (is_same_id v u) o))
  where
    before : (t : Bool) → is_open_standing (cond t (Over end) (standing v trace)) ≡ true → is_open trace v ≡ true
    before true g = cc
    before false g = g

    other : (b : Id) → is_of_program b trace v ≡ true → program_of u trace ≡ Some b → ⊥
    other b q e = shut (is_same_id v u) refl o
      where
        shut : (t : Bool) → is_same_id v u ≡ t → is_open_standing (cond t (Over end) (standing v trace)) ≡ true → ⊥
        shut true w g = cc
        shut false w g = let same : v ≡ u = s.one b v u g f.0 q (of-program trace u b e) in let x : true ≡ false = sym (is_same_id-refl u) ∙ subst (λ x. is_same_id x u ≡ false) same w in cc
drained-step trace e s f p v o = s.drained p v (either (λ o. o) (λ i. absurd i) (open-back trace e v f o))

pub sound-step : (trace : Trace) (e : Event) → Sound trace → Fits trace e → Sound (trace says e)
sound-step trace e s f = record {
  known = known-step trace e s f;
  older = older-step trace e s f;
  old_units = old_units-step trace e s f;
  old_conts = old_conts-step trace e s f;
  old_dead = old_dead-step trace e s f;
  one = one-step trace e s f;
  alive = alive-step trace e s f;
  goes_on = goes_on-step trace e s f;
  quiet = quiet-step trace e s f;
  old_programs = old_programs-step trace e s f;
  drains = drains-step trace e s f;
  drained = drained-step trace e s f;
}
